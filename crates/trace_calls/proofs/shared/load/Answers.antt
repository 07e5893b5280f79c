use mathlib.Core.Path.{ap, ◌∙◌}
use borrow.Author.Tests.{eq-eqb, ne_eqb}
use Rattle.refusal.specs.Refusal.{NONE}
use Rattle.mine_state.specs.declared.Mine.{Mine}
use Rattle.trace_calls.specs.Shared.{exactly, mine_told}
use Rattle.trace_calls.specs.Either.{mine_loaded}
use Rattle.trace_calls.proofs.shared.load.Goals as goal

pub returns-then-args-ne0 : goal.returns-then-args-ne0
unfolding mine_loaded exactly
returns-then-args-ne0 c = simp (ne_eqb _ _ c.if-args-ne0.true)

pub returns : goal.returns
unfolding mine_loaded exactly
returns c =
    let a = c.args in
    rw (eq-eqb _ _ c.if-args-ne0.false) (c.mine_told.ensures ∙ ap (λ (m : Mine). mine_told a.h a.current.now a.state.now a.res.now NONE 0 m
    a.p) c.load.ensures)
