-- What a pass that isn't refused tells of its state and its draws. Assumes nothing.
use mathlib.Core.Bool.{Bool, true, false, cond, not}
use mathlib.Core.List.{List, ◌∷◌}
use mathlib.Core.Path.{◌≡◌, sym, ◌∙◌, ap}
use Prim.Native.Nat.{ℕ, ◌+◌}
use native.Mathlib.Omega.{arith}
use lib.Dec.{eqb}
use lib.ListN.{length}
use borrow.Author.Tests.{eqb-false, ne_eqb, not-true}
use Rattle.refusal.specs.Refusal.{number_given, Checked, DRAWS, LAST_LEVEL, unless}
use Rattle.refusal.specs.declared.Refusal.TheVariants.{Draws, LastLevel}
use Rattle.refusal.proofs.Calls.{then_second, then_none, unless-none}
use Rattle.cutter_state.specs.declared.Cutter.{Cutter}
use Rattle.cutter_state.specs.WellFormed.{MAX_LEVEL, refusal_of, WellFormed}
use Rattle.cutter_state.proofs.Facts.{accepted}
use Rattle.cutter_rules.specs.Level.{creatures_of, draws_ok}
use Rattle.cutter_pass.specs.Pass.{level_due, level_refusal, pass_refusal}
use Rattle.cutter_pass.specs.CodePass.{NextLevel}

due-level : (c : Cutter) → c.dead ≡ false → c.won_level ≡ true → level_due c ≡ true
unfolding level_due
due-level c d w = rw (d, w)

-- at the last level 8 comes first, whatever the draws
pub last_level : (c : Cutter) (draws : List ℕ) → c.level ≡ MAX_LEVEL → level_refusal c draws ≡ LAST_LEVEL
unfolding level_refusal
last_level c draws e = rw e

-- any draws in other passes are refused
pub draws_unasked : (c : Cutter) (d : ℕ) (ds : List ℕ) → number_given (refusal_of c) ≡ 0 → level_due c ≡ false → pass_refusal c (d ∷ ds) ≡ DRAWS
unfolding pass_refusal
draws_unasked c d ds e q = then_second (refusal_of c) _ e ∙ simp (q, ne_eqb (length (d ∷ ds)) 0 (λ (z : length (d ∷ ds) ≡ 0). omega (arith, z)))

module _ (c : Cutter) (draws : List ℕ) (e : number_given (pass_refusal c draws) ≡ 0) where
  abbrev rest : Bool → Checked
  rest due = cond due (level_refusal c draws) (unless (eqb (length draws) 0) DRAWS)

  parts : (number_given (refusal_of c) ≡ 0) × (number_given (rest (level_due c)) ≡ 0)
  unfolding pass_refusal
  parts = then_none (refusal_of c) (rest (level_due c)) e

  pub pass_state : WellFormed c
  pass_state = accepted c parts.0

  next_level_lem : number_given (level_refusal c draws) ≡ 0 → NextLevel c draws
  unfolding level_refusal
  next_level_lem l =
      let below = not (eqb c.level MAX_LEVEL) in
      let fit = draws_ok draws (creatures_of (c.level + 1)) in
      let t = then_none (unless below LAST_LEVEL) (unless fit DRAWS) l in
      let n = eqb-false c.level MAX_LEVEL (not-true (eqb c.level MAX_LEVEL) (unless-none below LastLevel t.0)) in
      record {
        below = omega (arith, pass_state.level.1, n);
        fit = unless-none fit Draws t.1;
      }

  pub pass-level : c.dead ≡ false → c.won_level ≡ true → NextLevel c draws
  pass-level d w = next_level_lem (ap (λ (b : Bool). number_given (rest b)) (sym (due-level c d w)) ∙ parts.1)
