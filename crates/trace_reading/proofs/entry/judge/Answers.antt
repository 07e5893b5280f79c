use Rattle.std.proofs.Common.{Bool, ◌||◌, eqb, length, sym, ap, ◌∙◌, eq-eqb, ne_eqb}
use Rattle.trace_reading.specs.Entry.{set_to, judged}
use Rattle.trace_reading.proofs.entry.judge.Goals as goal

pub returns-then-h-eq-SET : goal.returns-then-h-eq-SET
unfolding judged set_to
returns-then-h-eq-SET c = rw (eq-eqb _ _ c.if-h-eq-SET.true) c.set.ensures

pub returns-then-current-eq-MINE : goal.returns-then-current-eq-MINE
unfolding judged
returns-then-current-eq-MINE c =
    simp (
      ne_eqb _ _ c.if-h-eq-SET.false,
      ap (λ (b : Bool). eqb (length c.args.state.now) 0 || b) (sym c.is_state.ensures)
          ∙ c.if-state-is_state.true,
      eq-eqb _ _ c.if-current-eq-MINE.true,
    ) c.on_mine.ensures

pub returns-then-current-eq-CUTTER : goal.returns-then-current-eq-CUTTER
unfolding judged
returns-then-current-eq-CUTTER c =
    simp (
      ne_eqb _ _ c.if-h-eq-SET.false,
      ap (λ (b : Bool). eqb (length c.args.state.now) 0 || b) (sym c.is_state.ensures)
          ∙ c.if-state-is_state.true,
      ne_eqb _ _ c.if-current-eq-MINE.false,
      eq-eqb _ _ c.if-current-eq-CUTTER.true,
    ) c.on_cutter.ensures

pub returns-then-state-is_state : goal.returns-then-state-is_state
unfolding judged
returns-then-state-is_state c =
    simp (
      ne_eqb _ _ c.if-h-eq-SET.false,
      ap (λ (b : Bool). eqb (length c.args.state.now) 0 || b) (sym c.is_state.ensures)
          ∙ c.if-state-is_state.true,
      ne_eqb _ _ c.if-current-eq-MINE.false,
      ne_eqb _ _ c.if-current-eq-CUTTER.false,
    )

pub returns : goal.returns
unfolding judged
returns c =
    simp (ne_eqb _ _ c.if-h-eq-SET.false, ap (λ (b : Bool). eqb (length c.args.state.now) 0 || b) (sym c.is_state.ensures) ∙ c.if-state-is_state.false)
