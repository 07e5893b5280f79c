use mathlib.Core.Path.{ap, ◌∙◌}
use mir.Syntax.{w8}
use mir.Val.{of_z}
use mir.ValLaws.{to_z-of_z}
use Rattle.trace_words.proofs.Signs.{unsigned}
use Rattle.trace_words.proofs.byte_of.Goals as goal

pub returns : goal.returns
returns c = c.cast_unsigned.ensures ∙ ap (of_z w8) (to_z-of_z w8 c.args.v c.ranges.v) ∙ unsigned c.args.v
