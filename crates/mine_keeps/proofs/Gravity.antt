-- A gravity tick keeps a state well formed, its coins and its boulders. Assumes nothing.
use mathlib.Core.Bool.{true, false, not}
use mathlib.Core.Path.{◌≡◌, ◌∙◌, ap}
use Prim.Native.Nat.{ℕ, ◌+◌, ◌≤◌}
use native.Mathlib.Omega.{arith}
use lib.ListN.{length, set, length-set}
use Rattle.found.specs.First.{At}
use Rattle.found.proofs.First.{nobody-any}
use Rattle.mine_state.specs.declared.Mine.{Mine}
use Rattle.mine_state.specs.State.{place, empty_at, player_at, creatures, stands_at, first_at, free_at}
use Rattle.mine_state.specs.WellFormed.{WellFormed}
use Rattle.mine_state.proofs.Creatures.{found_below}
use Rattle.mine_rules.specs.Gravity.{carried, rested, without, gravity_of}
use Rattle.mine_rules.proofs.GravityKeeps.{Keeps, gravity-keeps}
use Rattle.mine_keeps.specs.Kept.{Kept}
use Rattle.mine_keeps.proofs.Changes.{kept_self, kept-marks, kept-killed, kept-collected, kept_shifted, kept-without}
use Rattle.mine_keeps.proofs.Gone.{gone-nobody}

module _ {m s : Mine} (k : Kept m s) where
  kept-rested : (x y : ℕ) → Kept m (rested s x y)
  unfolding rested
  kept-rested x y = kept-marks k (set s.falling (place x y) false) (simp length-set k.formed.marks)

  kept-carried : (x y nx ny : ℕ) → free_at s nx ny ≡ true → Kept m (carried s x y nx ny)
  unfolding carried
  kept-carried x y nx ny f =
      kept-marks (kept_shifted k x y nx ny f) (set (set s.falling (place nx ny) true) (place x y) false) (simp length-set k.formed.marks)

  -- the cell of a creature that went is free
  free_gone : (x y i j : ℕ) → empty_at s.grid x y ≡ true → player_at s x y ≡ false → first_at s x y ≡ At i j → free_at (without s i) x y ≡ true
  unfolding free_at without
  free_gone x y i j e p q =
      let w = k.formed in
      let b : s.count ≤ length s.enemies = omega (arith, w.slots, w.few) in
      let n = gone-nobody s.enemies s.count i (found_below s x y i j q) b x y j w.distinct q in
      rw (e, p) (nobody-any (stands_at x y) (creatures (without s i)) ∙ ap not n)

keeps : (m : Mine) → Keeps (Kept m)
keeps m =
    record {
      rests = λ s x y k. kept-rested k x y;
      moves = λ s x y nx ny o f k. kept-carried k x y nx ny f;
      collects = λ s x y c k. kept-collected k x y c;
      kills = λ s k. kept-killed k;
      squashes = λ s x y i j o e p q k. kept-carried (kept-without k i (found_below s x (y + 1) i j q)) x y x (y + 1) (free_gone k x (y + 1) i j e p q);
    }

pub gravity-kept : (m : Mine) → WellFormed m → Kept m (gravity_of m)
gravity-kept m w = gravity-keeps (keeps m) m (kept_self w)
