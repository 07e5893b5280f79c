use Rattle.std.proofs.Common.{Bool, ◌&&◌, eqb, length, sym, ap, ◌∙◌}
use Rattle.trace_reading.specs.Entry.{set_to}
use Rattle.trace_reading.proofs.entry.set.Goals as goal

pub returns-then-untold-bare : goal.returns-then-untold-bare
unfolding set_to
returns-then-untold-bare c =
    let a = c.args in
    rw (ap (λ (b : Bool). ((eqb a.h.refusal 0 && eqb a.h.place 0) && eqb a.h.answer 0) && ((eqb (length a.args.now) 0 && eqb (length a.res.now) 0) && b))
    (sym c.is_state.ensures) ∙ c.if-untold-bare.true)

pub returns : goal.returns
unfolding set_to
returns c =
    let a = c.args in
    rw (ap (λ (b : Bool). ((eqb a.h.refusal 0 && eqb a.h.place 0) && eqb a.h.answer 0) && ((eqb (length a.args.now) 0 && eqb (length a.res.now) 0) && b))
    (sym c.is_state.ensures) ∙ c.if-untold-bare.false)
