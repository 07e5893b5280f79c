-- A cause is given exactly where the creatures are wrong, and says what is. Assumes nothing.
use mathlib.Core.Bool.{Bool, true, false, ◌&&◌, not, and_assoc, true≢false}
use mathlib.Core.List.{List, [], ◌∷◌}
use mathlib.Core.Path.{◌≡◌, refl, sym, ap, ap₂, ◌∙◌}
use Prim.Native.Nat.{ℕ, zero, suc, ◌<◌, ◌≤◌}
use native.Mathlib.Nat.{zero-add}
use native.Mathlib.Omega.{arith}
use lib.Dec.{eqb, leb}
use lib.ListN.{length, get_or, take, drop}
use lib.Seq.{take-suc}
use borrow.Author.Tests.{leb-false, not-false}
use Rattle.laws.specs.Lists.{all, any}
use Rattle.laws.proofs.Choice.{and_left, and_right, and_both}
use Rattle.laws.proofs.Lists.{all_append}
use Rattle.refusal.specs.Refusal.{number_given, Checked, OFF_GRID, WRONG_CELL, HEADING, SHARED_CELL, clear, unless, ◌then◌}
use Rattle.refusal.specs.Faults.{first_fault, room_for}
use Rattle.refusal.specs.InPlace.{is_cause}
use Rattle.refusal.proofs.Checks.{in_place_of_3, cause_given}
use Rattle.refusal.proofs.Faults.{clear-more, clear_in, told}
use Rattle.mine_state.specs.declared.Mine.{Mine}
use Rattle.mine_state.specs.declared.Enemy.{Enemy}
use Rattle.mine_state.specs.State.{MAX_ENEMIES, on_grid, code_in, EMPTY, empty_at, creatures, blank_slot}
use Rattle.mine_state.specs.WellFormed.{cells_ok, player_ok, creature_ok, apart, is_blank, creatures_ok, creature_fault, creatures_fault, numbers_ok, refusal_of}
use Rattle.mine_state.specs.Which.{slot_at, RightTo, Tells, off_grid, wrong_cell, heading, shared, spare, too_many, Which}
use Rattle.mine_state.proofs.Creatures.{with, apart_snoc}

-- the four checks of a creature: where none fails, and which is the first that does
module _ (i : ℕ) where
  abbrev checks : Bool → Bool → Bool → Bool → Checked
  checks grid cell dir alone = unless grid (OFF_GRID i) then unless cell (WRONG_CELL i) then unless dir (HEADING i) then unless alone (SHARED_CELL i)

  checks_clear : (a b c d : Bool) → clear (checks a (a && b) c d) ≡ (a && b && c && d)
  checks_clear false b c d = refl
  checks_clear true false c d = refl
  checks_clear true true false d = refl
  checks_clear true true true false = refl
  checks_clear true true true true = refl

  checks_given : (P : Checked → Type 0) (a b c d : Bool)
      → (a ≡ false → P (OFF_GRID i)) → (a ≡ true → b ≡ false → P (WRONG_CELL i))
      → (b ≡ true → c ≡ false → P (HEADING i)) → (b ≡ true → c ≡ true → d ≡ false → P (SHARED_CELL i))
      → clear (checks a b c d) ≡ false → P (checks a b c d)
  checks_given P false b c d grid cell dir alone e = grid refl
  checks_given P true false c d grid cell dir alone e = cell refl refl
  checks_given P true true false d grid cell dir alone e = dir refl refl
  checks_given P true true true false grid cell dir alone e = alone refl refl refl
  checks_given P true true true true grid cell dir alone e = absurd (true≢false e)

module _ (g : List ℕ) (slots : List Enemy) where
  clear-creature : (i : ℕ) (e : Enemy) → clear (creature_fault g slots i e) ≡ (creature_ok g e && not (any (with e) (take i slots)))
  unfolding creature_fault empty_at
  clear-creature i e = checks_clear i (on_grid e.x e.y) (eqb (code_in g e.x e.y) EMPTY) (leb e.dir 3) (not (any (with e) (take i slots)))

  -- the first k creatures have no fault where each is right by itself and no two stand on one cell
  clear_to : (k : ℕ) → k ≤ length slots → clear (first_fault (creature_fault g slots) 0 (take k slots)) ≡ (all (creature_ok g) (take k slots) && apart (take k slots))
  unfolding first_fault
  clear_to zero h = refl
  clear_to (suc k) h =
      let e = get_or slots k blank_slot in
      let before = take k slots in
      clear-more (creature_fault g slots) slots 0 k blank_slot h
      ∙ ap₂ ◌&&◌ (clear_to k (omega arith)) (ap (λ (n : ℕ). clear (creature_fault g slots n e)) (zero-add k) ∙ clear-creature k e)
      ∙ tests (all (creature_ok g) before) (apart before) (creature_ok g e) (not (any (with e) before))
      ∙ sym (ap₂ ◌&&◌ (all_append (creature_ok g) before (e ∷ [])) (apart_snoc before e))
      ∙ ap (λ (l : List Enemy). all (creature_ok g) l && apart l) (sym (take-suc slots k blank_slot h))
    where
      tests : (a p o n : Bool) → (a && p && (o && n)) ≡ (a && (o && true) && (p && n))
      tests true true true n = refl
      tests true true false n = refl
      tests true false true n = refl
      tests true false false n = refl
      tests false p o n = refl

module _ (m : Mine) where
  -- a fault is given exactly where the creatures are wrong
  pub fault_clear : clear (creatures_fault m) ≡ creatures_ok m
  unfolding creatures_fault creatures_ok
  fault_clear =
      let each = all (creature_ok m.grid) (creatures m) in
      let room = room_for MAX_ENEMIES m.enemies m.count in
      clear_in MAX_ENEMIES (creature_fault m.grid m.enemies) is_blank m.enemies m.count
      (each && apart (creatures m)) (clear_to m.grid m.enemies m.count)
      ∙ ap (λ (b : Bool). b && all is_blank (drop m.count m.enemies)) (sym (and_assoc room each (apart (creatures m))))

  right_to : (i : ℕ) → i ≤ length m.enemies → clear (first_fault (creature_fault m.grid m.enemies) 0 (take i m.enemies)) ≡ true → RightTo m i
  right_to i h c =
      let each = all (creature_ok m.grid) (take i m.enemies) in
      let both = sym (clear_to m.grid m.enemies i h) ∙ c in
      record { each = and_left each (apart (take i m.enemies)) both; distinct = and_right each (apart (take i m.enemies)) both }

  -- the fault of a creature, where those before it have none
  one_tells : (i : ℕ) → i < m.count → RightTo m i → clear (creature_fault m.grid m.enemies i (slot_at m i)) ≡ false
      → Tells m (creature_fault m.grid m.enemies i (slot_at m i))
  unfolding creature_fault
  one_tells i h r =
      let e = slot_at m i in
      let cell = empty_at m.grid e.x e.y in
      checks_given i (Tells m) (on_grid e.x e.y) cell (leb e.dir 3) (not (any (with e) (take i m.enemies)))
      (off_grid i h r)
      (wrong_cell i h r)
      (λ a b. heading i h r a (leb-false e.dir 3 b))
      (λ a b c. shared i h r (and_both cell (leb e.dir 3) a b) (not-false (any (with e) (take i m.enemies)) c))

  tells : clear (creatures_fault m) ≡ false → Tells m (creatures_fault m)
  unfolding creatures_fault
  tells =
      told MAX_ENEMIES (creature_fault m.grid m.enemies) is_blank m.enemies m.count (Tells m) blank_slot
      too_many
      (λ h i l c. one_tells i l (right_to i (omega (arith, h.0, h.1)) c))
      (λ h c i l k. spare i l k (right_to m.count (omega (arith, h.0, h.1)) c))

tells_cause : {m : Mine} {r : Checked} → Tells m r → is_cause (number_given r) ≡ true
tells_cause (too_many _) = refl
tells_cause (off_grid _ _ _ _) = refl
tells_cause (wrong_cell _ _ _ _ _) = refl
tells_cause (heading _ _ _ _ _) = refl
tells_cause (shared _ _ _ _ _) = refl
tells_cause (spare _ _ _ _ _ _) = refl

pub which : (m : Mine) → Which m
unfolding refusal_of
which m = record {
  place = in_place_of_3 (cells_ok m) (player_ok m) (creatures_ok m) (numbers_ok m) (creatures_fault m) (fault_clear m) (λ e. tells_cause (tells m (fault_clear m ∙ e)));
  told = cause_given (Tells m) (cells_ok m) (player_ok m) (creatures_fault m) (numbers_ok m) (tells m);
}
