use mathlib.Core.Path.{◌∙◌}
use Rattle.trace_words.proofs.Signs.{kept-below, signed}
use Rattle.trace_words.proofs.signed_of.Goals as goal

pub returns : goal.returns
returns c = kept-below c.cast_signed.result c.cast_signed.type_inv ∙ c.cast_signed.ensures ∙ signed c.args.b
