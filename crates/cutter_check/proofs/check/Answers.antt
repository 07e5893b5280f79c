use mathlib.Core.Bool.{Bool, ◌&&◌, not}
use mathlib.Core.Path.{◌≡◌, ap}
use mir.Syntax.{w8}
use mir.Val.{SFits, to_z, of_z}
use mir.Facts.{to_z-of_z}
use lib.ListN.{length}
use borrow.Author.Rules.{rules}
use Rattle.laws.proofs.Lists.{mapped}
use Rattle.cutter_ground.specs.Movers.{MAX_ENEMIES}
use Rattle.cutter_state.specs.State.{holds_at}
use Rattle.cutter_state.specs.WellFormed.{footing, direction_ok, player_ok}
use Rattle.cutter_check.proofs.Answers.{no_cells, no_player, no_creatures, no_numbers, all_right}
use Rattle.cutter_check.proofs.check.Goals.{Start}
use Rattle.cutter_check.proofs.check.Goals as goal

abbrev Began : Type 0
Began = Start

full : (s : Began) → length s.args.c.enemies ≡ MAX_ENEMIES
full s = search (rules, mapped)

player : (s : Began) {r : Bool}
    → r ≡ (holds_at s.args.c.grid (footing s.args.c.trailing) s.args.c.px s.args.c.py
    && direction_ok (to_z w8 (of_z w8 s.args.c.dx)) (to_z w8 (of_z w8 s.args.c.dy)))
    → r ≡ player_ok s.args.c
unfolding player_ok
player s e =
    let fx : SFits w8 s.args.c.dx = search rules in
    let fy : SFits w8 s.args.c.dy = search rules in
    simp (to_z-of_z fx, to_z-of_z fy) at e

pub returns-then-not-cells_ok : goal.returns-then-not-cells_ok
returns-then-not-cells_ok c =
    no_cells c.args.c (full (goal.at.returns-then-not-cells_ok c).Start) c.cells_ok.ensures (ap not c.if-not-cells_ok.true)

pub returns-then-not-player_ok : goal.returns-then-not-player_ok
returns-then-not-player_ok c =
    no_player c.args.c (full (goal.at.returns-then-not-player_ok c).Start) c.cells_ok.ensures (ap not c.if-not-cells_ok.false) (player (goal.at.returns-then-not-player_ok c).Start c.player_ok.ensures) (ap not c.if-not-player_ok.true)

pub returns-then-not-creatures_ok : goal.returns-then-not-creatures_ok
returns-then-not-creatures_ok c =
    no_creatures c.args.c (full (goal.at.returns-then-not-creatures_ok c).Start) c.cells_ok.ensures (ap not c.if-not-cells_ok.false) (player (goal.at.returns-then-not-creatures_ok c).Start c.player_ok.ensures) (ap not c.if-not-player_ok.false)
    c.creatures_ok.ensures (ap not c.if-not-creatures_ok.true) c.first_fault.ensures

pub returns-then-not-numbers_ok : goal.returns-then-not-numbers_ok
returns-then-not-numbers_ok c =
    no_numbers c.args.c (full (goal.at.returns-then-not-numbers_ok c).Start) c.cells_ok.ensures (ap not c.if-not-cells_ok.false) (player (goal.at.returns-then-not-numbers_ok c).Start c.player_ok.ensures) (ap not c.if-not-player_ok.false)
    c.creatures_ok.ensures (ap not c.if-not-creatures_ok.false) c.numbers_ok.ensures (ap not c.if-not-numbers_ok.true)

pub returns : goal.returns
returns c =
    all_right c.args.c (full (goal.at.returns c).Start) c.cells_ok.ensures (ap not c.if-not-cells_ok.false) (player (goal.at.returns c).Start c.player_ok.ensures) (ap not c.if-not-player_ok.false)
    c.creatures_ok.ensures (ap not c.if-not-creatures_ok.false) c.numbers_ok.ensures (ap not c.if-not-numbers_ok.false)
