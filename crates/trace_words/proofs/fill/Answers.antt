use mathlib.Core.Path.{◌∙◌}
use lib.ListN.{length}
use Rattle.trace_words.proofs.Runs.{cells_range}
use Rattle.trace_words.proofs.fill.Goals as goal

pub returns : goal.returns
returns c = c.copy_from_slice.ensures.after ∙ cells_range (length c.args.cells.now) c.args.at c.args.bytes.now c.requires
