-- The creature tick: what one creature's step is, that it ends on the map, and the loop over the creatures. Assumes nothing.
use Rattle.std.specs.Prelude.{None, Option, Some, is_some}
use mathlib.Core.Bool.{Bool, true, false, cond, not, ◌&&◌, ◌||◌}
use mathlib.Core.List.{List, [], ◌∷◌}
use mathlib.Core.Path.{◌≡◌, refl, sym, ◌∙◌, ap, subst}
use Prim.Native.Nat.{ℕ, ◌+◌, ◌-◌, ◌%◌, ◌<◌, ◌≤◌}
use native.Mathlib.Omega.{arith}
use lib.Dec.{eqb}
use lib.ListN.{length, get_or, set, length-set}
use borrow.Author.Tests.{eq-eqb, ne_eqb, lt-ltb, le-leb}
use Rattle.laws.specs.Lists.{across}
use Rattle.laws.proofs.Choice.{cond_both}
use Rattle.laws.proofs.Lists.{all_set}
use Rattle.laws.proofs.Folds.{across_turn, across_end}
use Rattle.found.specs.First.{nobody}
use Rattle.found.specs.declared.Found.{Found}
use Rattle.mine_state.specs.declared.Mine.{Mine}
use Rattle.mine_state.specs.declared.Enemy.{Enemy}
use Rattle.mine_state.specs.State.{W, H, EMPTY, place, code_in, empty_at, first_at, blank_slot}
use Rattle.mine_state.specs.Change.{with_creature, killed}
use Rattle.mine_state.proofs.Cells.{code_empty}
use Rattle.mine_state.proofs.Creatures.{map-inside, slot-on_map}
use Rattle.mine_rules.specs.Ways.{next_cell}
use Rattle.mine_rules.specs.Tick.{goes_to, way_of, turns, or_else, chosen, caught, creature_stepped, tick_one, enemies_moved}
use Rattle.mine_rules.proofs.Next.{next-inside}
use Rattle.mine_apart.specs.CodeApart.{spot_of, creature, joined, standing, Spotted, Apart, first_spot}
use Rattle.mine_apart.proofs.Joined.{joined_at, joined-set, creature_at_lem}
use Rattle.mine_apart.proofs.Places.{spots_set, first_spot_lem}
use Rattle.mine_moves.specs.CodeSteps.{dead_if}
use Rattle.mine_state.specs.CodeState.{on_map}
use Rattle.mine_rules.specs.CodeWays.{OnGrid}

nobody_none : (o : Option Found) → nobody o ≡ not (is_some o)
nobody_none (Some f) = refl
nobody_none None = refl

-- the cell ahead, as the code asks for it
module _ (m : Mine) {g spots : List ℕ} (same : m.grid ≡ g) (them : Spotted m.enemies m.count spots) (d x y : ℕ) (on : OnGrid x y) where
  alone : nobody (first_at m x y) ≡ not (is_some (first_spot (place x y) spots))
  alone = nobody_none (first_at m x y) ∙ ap (λ (o : Option Found). not (is_some o)) (sym (first_spot_lem m them x y on.across on.down))

  empty-there : empty_at m.grid x y ≡ eqb (code_in g x y) EMPTY
  empty-there = code_empty m.grid x y on.across on.down ∙ ap (λ (l : List ℕ). eqb (code_in l x y) EMPTY) same

  pub goes_blocked : (code_in g x y ≡ EMPTY → ⊥) → None ≡ goes_to m d (Some (x, y))
  goes_blocked n = simp (empty-there ∙ ne_eqb (code_in g x y) EMPTY n)

  pub goes-met : code_in g x y ≡ EMPTY → is_some (first_spot (place x y) spots) ≡ true → None ≡ goes_to m d (Some (x, y))
  goes-met e f = simp (empty-there ∙ eq-eqb (code_in g x y) EMPTY e, alone ∙ ap not f)

  pub goes_open : code_in g x y ≡ EMPTY → is_some (first_spot (place x y) spots) ≡ false → Some (record { x = x; y = y; dir = d }) ≡ goes_to m d (Some (x, y))
  goes_open e f = simp (empty-there ∙ eq-eqb (code_in g x y) EMPTY e, alone ∙ ap not f)

-- where a creature goes, it stays on the map
abbrev OnMap : Option Enemy → Type 0
OnMap (Some e) = on_map e ≡ true
OnMap None = Unit {0}

on_map_lem : (x y d : ℕ) → OnGrid x y → d ≤ 3 → on_map (record { x = x; y = y; dir = d }) ≡ true
on_map_lem x y d o h = simp (lt-ltb x W o.across, lt-ltb y H o.down, le-leb d 3 h)

goes-on_map : (m : Mine) (d x y : ℕ) (a : Option (ℕ × ℕ)) → OnGrid x y → d ≤ 3 → next_cell d x y ≡ a → OnMap (goes_to m d a)
goes-on_map m d x y None o h e = tt
goes-on_map m d x y (Some (a, b)) o h e =
    cond_both OnMap (empty_at m.grid a b && nobody (first_at m a b)) _ _ (λ _. on_map_lem a b d (next-inside d x y o e) h) (λ _. tt)

or_else-on_map : (s t : Option Enemy) → OnMap s → OnMap t → OnMap (or_else s t)
or_else-on_map (Some e) t p q = p
or_else-on_map None t p q = q

chosen-kept : (m : Mine) (e : Enemy) (ts : List ℕ) → OnGrid e.x e.y → OnMap (chosen m e ts)
unfolding way_of
chosen-kept m e [] o = tt
chosen-kept m e (t ∷ ts) o =
    let d = (e.dir + t) % 4 in
    let h : d ≤ 3 = omega arith in
    or_else-on_map (way_of m e d) (chosen m e ts) (goes-on_map m d e.x e.y (next_cell d e.x e.y) o h refl) (chosen-kept m e ts o)

pub chosen-on_map : (m : Mine) (e to : Enemy) → on_map e ≡ true → chosen m e turns ≡ Some to → on_map to ≡ true
chosen-on_map m e to h q =
    let i = map-inside e h in
    subst OnMap q (chosen-kept m e turns (record { across = i.0; down = i.1 }))

-- a state, where it doesn't matter which
abbrev nothing : Mine
nothing = record { grid = []; falling = []; px = 0; py = 0; enemies = []; count = 0; coins = 0; needed = 0; dead = false; won = false }

-- The loop over the creatures, in place: the state so far, whatever else it holds.
abbrev so_far : List ℕ → ℕ → ℕ → ℕ → List ℕ → List ℕ → Bool → Mine → Mine
so_far g n px py spots ds b m = dead_if b (standing m g (joined n spots ds) n px py)

-- the player is dead where that was so, or a creature is there
dead_too : (c b : Bool) (s : Mine) → cond c (killed (dead_if b s)) (dead_if b s) ≡ dead_if (b || c) s
dead_too true true s = refl
dead_too true false s = refl
dead_too false true s = refl
dead_too false false s = refl

-- The creatures are on the map, and what is left to do gives R.
pub record Between (g : List ℕ) (n px py : ℕ) (R : Mine → Mine) (spots ds : List ℕ) (b : Bool) (i : ℕ) : Type 0 where
  pub parts : Apart n spots ds
  pub same : (m : Mine) → across tick_one (n - i) i (so_far g n px py spots ds b m) ≡ R m

pub begins : (g : List ℕ) (n px py : ℕ) (spots ds : List ℕ) → Apart n spots ds
    → Between g n px py (λ m. enemies_moved (standing m g (joined n spots ds) n px py)) spots ds false 0
unfolding enemies_moved
begins g n px py spots ds a =
    let q : n - 0 ≡ n = omega arith in
    record { parts = a; same = λ m. ap (λ (k : ℕ). across tick_one k 0 (standing m g (joined n spots ds) n px py)) q }

module _ {g : List ℕ} {n px py : ℕ} {R : Mine → Mine} {spots ds : List ℕ} {b : Bool} (i : ℕ) (d : Between g n px py R spots ds b i) where
  abbrev pub state : Mine → Mine
  state m = so_far g n px py spots ds b m

  pub ends : n ≤ i → (m : Mine) → R m ≡ state m
  ends h m = sym (across_end tick_one n i (state m) h (d.same m))

  -- the creature whose turn it is
  abbrev pub here : Enemy
  here = creature (get_or spots i 0) (get_or ds i 0)

  wide : length ds ≡ length spots
  wide = d.parts.ways ∙ sym d.parts.slots

  module _ (h : i < n) where
    this : get_or (joined n spots ds) i blank_slot ≡ here
    this = joined_at n spots ds i wide h (omega (arith, d.parts.few, d.parts.slots))

    pub here-on_map : on_map here ≡ true
    here-on_map = subst (λ (e : Enemy). on_map e ≡ true) this (slot-on_map (joined n spots ds) i d.parts.spotted.placed)

    turn : (m : Mine) → tick_one (state m) i ≡ creature_stepped (state m) i (chosen (state m) here turns)
    unfolding tick_one
    turn m = ap (λ (e : Enemy). creature_stepped (state m) i (chosen (state m) e turns)) this

    pub stays : ((m : Mine) → chosen (state m) here turns ≡ None) → Between g n px py R spots ds b (i + 1)
    stays q =
        record { parts = d.parts; same = λ m. across_turn tick_one n i (state m) (state m) h (turn m ∙ ap (creature_stepped (state m) i) (q m)) (d.same m) }

    module _ (to : Enemy) (q : (m : Mine) → chosen (state m) here turns ≡ Some to) where
      pub goes_on : on_map to ≡ true
      goes_on = chosen-on_map (state nothing) here to here-on_map (q nothing)

      together : joined n (set spots i (spot_of to)) (set ds i to.dir) ≡ set (joined n spots ds) i to
      together = joined-set n spots ds i (spot_of to) to.dir wide h ∙ ap (set (joined n spots ds) i) (creature_at_lem to (map-inside to goes_on).0)

      kept : Spotted (set (joined n spots ds) i to) n (set spots i (spot_of to))
      kept =
          record {
            placed = all_set on_map (joined n spots ds) i to d.parts.spotted.placed goes_on;
            them = ap (λ (l : List ℕ). set l i (spot_of to)) d.parts.spotted.them ∙ sym (spots_set n (joined n spots ds) i to h);
          }

      laid : Apart n (set spots i (spot_of to)) (set ds i to.dir)
      laid =
          record {
            slots = simp length-set d.parts.slots;
            ways = simp length-set d.parts.ways;
            few = d.parts.few;
            spotted = subst (λ (es : List Enemy). Spotted es n (set spots i (spot_of to))) (sym together) kept;
          }

      moved : (m : Mine) → with_creature (state m) i to ≡ so_far g n px py (set spots i (spot_of to)) (set ds i to.dir) b m
      moved m = ap (λ (es : List Enemy). dead_if b (standing m g es n px py)) (sym together)

      pub walks : Between g n px py R (set spots i (spot_of to)) (set ds i to.dir) (b || (eqb px to.x && eqb py to.y)) (i + 1)
      walks =
          record {
            parts = laid;
            same = λ m. across_turn tick_one n i (state m) _ h (
                turn m
                ∙ ap (creature_stepped (state m) i) (q m)
                ∙ ap (λ (t : Mine). caught t to) (moved m)
                ∙ dead_too (eqb px to.x && eqb py to.y) b (standing m g (joined n (set spots i (spot_of to)) (set ds i to.dir)) n px py)
                ) (d.same m);
          }
