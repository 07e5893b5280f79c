use Rattle.trace_states.specs.Mines.{mine_of}
use Rattle.trace_states.proofs.mines.mine_of.Goals as goal

pub returns : goal.returns
unfolding mine_of
returns c =
    simp (
      c.fill.ensures,
      c.falling_of.ensures,
      c.word.ensures.is,
      c.word-2.ensures.is,
      c.enemies_of.ensures,
      c.word-3.ensures.is,
      c.word-4.ensures.is,
      c.word-5.ensures.is,
    )
