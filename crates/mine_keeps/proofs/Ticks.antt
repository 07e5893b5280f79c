-- A creature tick keeps a state well formed, its coins and its boulders. Assumes nothing.
use Rattle.std.specs.Prelude.{Option, Some, None}
use mathlib.Core.Bool.{true, false, ◌&&◌}
use mathlib.Core.List.{List, [], ◌∷◌}
use mathlib.Core.Path.{◌≡◌, refl, sym, ◌∙◌}
use Prim.Native.Nat.{ℕ, ◌+◌, ◌%◌, ◌<◌}
use native.Mathlib.Omega.{arith}
use lib.Dec.{leb}
use lib.ListN.{get_or}
use borrow.Author.Tests.{le-leb, not-true}
use Rattle.laws.specs.Lists.{any}
use Rattle.laws.proofs.Choice.{cond_both, and_left, and_right, and_both}
use Rattle.laws.proofs.Folds.{across-keeps}
use Rattle.found.specs.First.{nobody}
use Rattle.found.proofs.First.{nobody-any}
use Rattle.mine_state.specs.declared.Mine.{Mine}
use Rattle.mine_state.specs.declared.Enemy.{Enemy}
use Rattle.mine_state.specs.State.{empty_at, player_at, creatures, stands_at, first_at, blank_slot}
use Rattle.mine_state.specs.Change.{with_creature}
use Rattle.mine_state.specs.WellFormed.{WellFormed, creature_ok}
use Rattle.mine_rules.specs.Ways.{next_cell}
use Rattle.mine_rules.specs.Tick.{goes_to, way_of, turns, or_else, chosen, creature_stepped, tick_one, enemies_moved}
use Rattle.mine_keeps.specs.Kept.{Kept}
use Rattle.mine_keeps.proofs.Changes.{kept_self, kept-killed, kept-creature}

-- where a creature goes, it is right by itself and no other stands
abbrev Lands : Mine → Option Enemy → Type 0
Lands s (Some e) = (creature_ok s.grid e ≡ true) × (any (stands_at e.x e.y) (creatures s) ≡ false)
Lands s None = Unit {0}

lands_to : (s : Mine) (d : ℕ) (a : Option (ℕ × ℕ)) → leb d 3 ≡ true → Lands s (goes_to s d a)
lands_to s d None h = tt
lands_to s d (Some (x, y)) h =
    cond_both (Lands s) (empty_at s.grid x y && nobody (first_at s x y)) _ _
    (λ e. (
      and_both (empty_at s.grid x y) (leb d 3) (and_left (empty_at s.grid x y) (nobody (first_at s x y)) e) h,
      not-true (any (stands_at x y) (creatures s)) (sym (nobody-any (stands_at x y) (creatures s)) ∙ and_right (empty_at s.grid x y) (nobody (first_at s x y)) e),
    ))
    (λ _. tt)

lands_else : (s : Mine) (a b : Option Enemy) → Lands s a → Lands s b → Lands s (or_else a b)
lands_else s (Some e) b h k = h
lands_else s None b h k = k

lands_chosen : (s : Mine) (e : Enemy) (ts : List ℕ) → Lands s (chosen s e ts)
unfolding way_of
lands_chosen s e [] = tt
lands_chosen s e (t ∷ ts) =
    let d : ℕ = (e.dir + t) % 4 in
    lands_else s (way_of s e d) (chosen s e ts) (lands_to s d (next_cell d e.x e.y) (le-leb d 3 (omega arith))) (lands_chosen s e ts)

-- with as many creatures as before
abbrev Kept-all : Mine → Mine → Type 0
Kept-all m s = Kept m s × (s.count ≡ m.count)

kept-stepped : (m s : Mine) (i : ℕ) (t : Option Enemy) → i < m.count → Lands s t → Kept-all m s → Kept-all m (creature_stepped s i t)
kept-stepped m s i None h l k = k
kept-stepped m s i (Some e) h l k =
    let a : Kept m (with_creature s i e) = kept-creature k.0 i e (omega (arith, k.1)) l.0 l.1 in
    cond_both (Kept-all m) (player_at (with_creature s i e) e.x e.y) _ _ (λ _. (kept-killed a, k.1)) (λ _. (a, k.1))

pub tick-kept : (m : Mine) → WellFormed m → Kept m (enemies_moved m)
unfolding enemies_moved tick_one
tick-kept m w =
    (across-keeps tick_one (Kept-all m) m.count m.count 0 m (omega arith)
    (λ s i h k. kept-stepped m s i (chosen s (get_or s.enemies i blank_slot) turns) h (lands_chosen s (get_or s.enemies i blank_slot) turns) k)
    (kept_self w, refl)).0
