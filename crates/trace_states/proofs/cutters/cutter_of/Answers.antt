use Rattle.trace_states.specs.Cutters.{cutter_of}
use Rattle.trace_words.proofs.Signs.{kept-below}
use Rattle.trace_states.proofs.cutters.cutter_of.Goals as goal

pub returns : goal.returns
unfolding cutter_of
returns c =
    simp (kept-below c.signed_of.result c.signed_of.type_inv, kept-below c.signed_of-2.result c.signed_of-2.type_inv)
    (simp (
      c.fill.ensures,
      c.signed_of.ensures,
      c.signed_of-2.ensures,
      c.word.ensures.is,
      c.word-2.ensures.is,
      c.movers_of.ensures,
      c.word-3.ensures.is,
      c.word-4.ensures.is,
      c.word-5.ensures.is,
    ))
