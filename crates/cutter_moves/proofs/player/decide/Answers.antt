use mathlib.Core.Bool.{Bool, true, false, ◌&&◌}
use mathlib.Core.List.{List}
use mathlib.Core.Path.{◌≡◌, refl, sym, ◌∙◌, ap, ap₂}
use Prim.Native.Nat.{ℕ}
use Rattle.cutter_state.specs.State.{creatures}
use lib.ListN.{take}
use borrow.Author.Rules.{rules}
use mir.Facts.{to_z-of_z}
use mir.Syntax.{w8}
use mir.Val.{SFits}
use Rattle.cutter_ground.specs.declared.Mover.{Mover}
use Rattle.cutter_state.specs.declared.Cutter.{Cutter}
use Rattle.cutter_state.specs.WellFormed.{is_zero}
use Rattle.cutter_rules.specs.Ahead.{diagonal_of}
use Rattle.cutter_rules.specs.Step.{no_direction, target, creature_at}
use Rattle.cutter_rules.proofs.Step.{step-none, step-off, step-killed, step_trailing, step_walking, closes-none, closes-off, closes-killed, closes_free}
use Rattle.cutter_moves.specs.declared.player.Step.{Step}
use Rattle.cutter_moves.specs.CodeSteps.{Plays}
use Rattle.cutter_moves.proofs.Applied.{open_tells, stayed, died, turned}
use Rattle.cutter_moves.proofs.player.decide.Goals.{After-diagonal_of-at, After-enemy_at}
use Rattle.cutter_moves.proofs.player.decide.Goals as goal

heads : {c : Cutter} {g : List ℕ} {s : Step} → Plays c g s → no_direction c ≡ (is_zero s.dx && is_zero s.dy)
heads p = ap (λ (t : Step). is_zero t.dx && is_zero t.dy) (sym p.stays)

aims : {c : Cutter} {g : List ℕ} {s : Step} → Plays c g s → diagonal_of s.dx s.dy s.at ≡ target c
aims p = ap (λ (t : Step). diagonal_of t.dx t.dy t.at) p.stays

draws : {c : Cutter} {g : List ℕ} {s : Step} {b : Bool} → Plays c g s → s.trailing ≡ b → c.trailing ≡ b
draws p e = ap (λ (t : Step). t.trailing) (sym p.stays) ∙ e

way : (k : After-diagonal_of-at) {c : Cutter}
    → Plays c k.args.grid.now k.args.s
    → (no_direction c ≡ false) × (k.diagonal_of-at.result ≡ target c)
way k p =
    let s = k.args.s in
    let fx : SFits w8 s.dx = search rules in
    let fy : SFits w8 s.dy = search rules in (
      heads p ∙ sym k.is_standing.ensures ∙ k.if-is_standing.false,
      (simp (to_z-of_z fx, to_z-of_z fy) at k.diagonal_of-at.ensures) ∙ aims p,
    )

asked : (f : After-enemy_at) (c : Cutter) → c.enemies ≡ f.args.enemies
    → c.count ≡ f.args.count
    → f.enemy_at.result ≡ creature_at (creatures c) f.diagonal_of-at.result
asked f c es n = f.enemy_at.ensures ∙ ap₂ (λ (k : ℕ) (l : List Mover). creature_at (take k l) f.diagonal_of-at.result) (sym n) (sym es)

pub returns-then-is_standing : goal.returns-then-is_standing
returns-then-is_standing c =
    let none = sym c.is_standing.ensures ∙ c.if-is_standing.true in
    (λ m p es n. open_tells p refl (closes-none m (heads p ∙ none)) (stayed p ∙ step-none m (heads p ∙ none)), c.requires.here)

pub returns-then-at-ge-CN : goal.returns-then-at-ge-CN
returns-then-at-ge-CN c =
    let to = c.diagonal_of-at.result in
    let off = c.if-at-ge-CN.true in
    rw c.stopped.ensures (
      λ m p es n.
          let q = way (goal.at.returns-then-at-ge-CN c).After-diagonal_of-at p in
          open_tells p refl (closes-off m q.0 to q.1 off) (turned p ∙ step-off m q.0 to q.1 off),
      c.requires.here,
    )

pub returns-in-Some : goal.returns-in-Some
returns-in-Some c =
    let to = c.diagonal_of-at.result in
    let who = c.enemy_at.result in
    let on = c.if-at-ge-CN.false in
    rw c.killed.ensures (
      λ m p es n.
          let here = goal.at.returns-in-Some c in
          let q = way here.After-diagonal_of-at p in
          let met = asked here.After-enemy_at m es n in
          open_tells p refl (closes-killed m q.0 to q.1 who on met c.in-Some.is) (died p ∙ step-killed m q.0 to q.1 who on met c.in-Some.is),
      c.requires.here,
    )

pub returns-then-s : goal.returns-then-s
returns-then-s c =
    let to = c.diagonal_of-at.result in
    let who = c.enemy_at.result in
    let on = c.if-at-ge-CN.false in
    let none = c.in_default.is in (
      λ m p es n.
          let here = goal.at.returns-then-s c in
          let q = way here.After-diagonal_of-at p in
          let met = asked here.After-enemy_at m es n in
          let x = c.step_trailing.ensures.0 m p in
          record {
            makes = x.makes ∙ step_trailing m q.0 to q.1 who on met none (draws p c.if-s.true);
            shuts = x.shuts ∙ sym (closes_free m q.0 to q.1 who true on met none (draws p c.if-s.true));
            there = λ e. x.there e ∙ q.1;
          },
      c.step_trailing.ensures.1,
    )

pub returns : goal.returns
returns c =
    let to = c.diagonal_of-at.result in
    let who = c.enemy_at.result in
    let on = c.if-at-ge-CN.false in
    let none = c.in_default.is in (
      λ m p es n.
          let here = goal.at.returns c in
          let q = way here.After-diagonal_of-at p in
          let met = asked here.After-enemy_at m es n in
          let x = c.step_walking.ensures.0 m p in
          record {
            makes = x.makes ∙ step_walking m q.0 to q.1 who on met none (draws p c.if-s.false);
            shuts = x.shuts ∙ sym (closes_free m q.0 to q.1 who false on met none (draws p c.if-s.false));
            there = λ e. x.there e ∙ q.1;
          },
      c.step_walking.ensures.1,
    )
