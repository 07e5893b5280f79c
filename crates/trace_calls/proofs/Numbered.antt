-- An arm of a match on the call's number: where that is n, what call n gives is what the entry's call gives. Assumes nothing.
use mathlib.Core.List.{List}
use mathlib.Core.Path.{◌≡◌, ap, ap₂, sym, ◌∙◌}
use Prim.Native.Nat.{ℕ}
use Rattle.pace.specs.declared.Pace.{Pace}
use Rattle.mine_state.specs.declared.Mine.{Mine}
use Rattle.cutter_state.specs.declared.Cutter.{Cutter}
use Rattle.trace_verdict.specs.declared.Head.{Head}
use Rattle.trace_verdict.specs.declared.Part.{Part}
use Rattle.trace_calls.specs.Mines.{mine_call, on_mine}
use Rattle.trace_calls.specs.Cutters.{cutter_call, on_cutter}
use Rattle.trace_calls.specs.Either.{either_call, on_either}

module _ (h : Head) (args current state result : List ℕ) {n : ℕ} (k : h.call ≡ n) {r : Part} where
  pub either_arm : (p : Pace) → r ≡ either_call h args current state result n p → r ≡ on_either h args current state result p
  unfolding on_either
  either_arm p e = e ∙ sym (ap (λ (m : ℕ). either_call h args current state result m p) k)

  pub mine_arm : {s t : Mine} {p q : Pace} → s ≡ t → p ≡ q → r ≡ mine_call h args current state result n s p → r ≡ on_mine h args current state result t q
  unfolding on_mine
  mine_arm {s} {t} {p} {q} f g e =
      e ∙ ap₂ (mine_call h args current state result n) f g ∙ sym (ap (λ (m : ℕ). mine_call h args current state result m t q) k)

  pub cutter_arm : {s t : Cutter} {p q : Pace} → s ≡ t → p ≡ q → r ≡ cutter_call h args current state result n s p → r ≡ on_cutter h args current state result t q
  unfolding on_cutter
  cutter_arm {s} {t} {p} {q} f g e =
      e ∙ ap₂ (cutter_call h args current state result n) f g ∙ sym (ap (λ (m : ℕ). cutter_call h args current state result m t q) k)
