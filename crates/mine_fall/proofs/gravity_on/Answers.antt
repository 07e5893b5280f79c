use mathlib.Core.Path.{◌≡◌, refl, subst}
use Prim.Native.Nat.{ℕ, ◌<◌, ◌+◌, ◌-◌}
use native.Mathlib.Omega.{arith}
use Rattle.mine_state.specs.declared.Mine.{Mine}
use Rattle.mine_state.specs.State.{AREA, MAX_ENEMIES}
use Rattle.mine_rules.specs.Gravity.{cell_fall, gravity_of}
use Rattle.mine_fall.specs.declared.cells.Fell.{Fell}
use Rattle.mine_fall.specs.declared.cells.Fell.TheVariants.{Squashed}
use Rattle.mine_fall.specs.CodeFalls.{happened, lent, Below}
use Rattle.mine_fall.specs.CodePlaces.{left}
use Rattle.mine_fall.proofs.Parts.{nothing, numbers, apart_state, left_of, apart-left, without-one}
use Rattle.mine_fall.proofs.Loops.{During, cells_left, stands, turn, row_begins, row_ends, row_passed, onwards}
use Rattle.mine_fall.proofs.gravity_on.Goals.{At-loop-y, At-loop-x, After-cell_fall, in-Quiet, in-Collected, in-Crushed, in-Squashed}
use Rattle.mine_fall.proofs.gravity_on.Goals as goal

abbrev row_state : At-loop-y → Mine → Mine
row_state c m =
    let k = c.loop-y in
    apart_state m c.args.px c.args.py k.grid k.falling k.spots k.dirs k.fallen

abbrev state : At-loop-x → Mine → Mine
state c m =
    let k = c.loop-x in
    apart_state m c.args.px c.args.py k.grid k.falling k.spots k.dirs k.fallen

-- a cell that was reached: the state before it, the row, and the state after it where the object did r
abbrev Called : Type 0
Called = After-cell_fall

abbrev before : Called → Mine → Mine
before c m =
    let k = c.loop-x in
    apart_state m c.args.px c.args.py k.grid k.falling k.spots k.dirs k.fallen

abbrev row : Called → ℕ
row c = c.loop-y.y - 1

abbrev after : Called → Fell → Mine → Mine
after c r m = happened r (lent (before c m) c.cell_fall.new.grid c.cell_fall.new.falling)

told : (c : Called) {r : Fell} (m : Mine) → c.cell_fall.result ≡ r → (cell_fall (before c m) c.loop-x.x (row c) ≡ after c r m) × Below r c.loop-x.fallen.count
told c m e =
    let i = c.loop-x.invariant in
    subst
    (λ (r : Fell). (cell_fall (before c m) c.loop-x.x (row c) ≡ after c r m) × Below r c.loop-x.fallen.count)
    e
    (c.cell_fall.ensures (before c m) (stands (before c m) (i.2 m) i.1.spotted))

-- what is left to do when the cell is done
abbrev Onwards : Called → Mine → Mine → Type 0
Onwards c m s =
    let k = c.loop-y in
    During (cells_left (row c) 0 (apart_state m c.args.px c.args.py k.grid k.falling k.spots k.dirs k.fallen)) (cells_left (row c) (c.loop-x.x + 1)) s

done : (c : Called) {r : Fell} (m : Mine) → c.cell_fall.result ≡ r → Onwards c m (after c r m)
done c m e = turn (row c) c.loop-x.x (before c m) c.loop-x-test.true (c.loop-x.invariant.2 m) (told c m e).0

squashed : (c : Called) {k : ℕ} (m : Mine) → c.cell_fall.result ≡ Squashed k
    → let n = c.loop-x.fallen in
    Onwards c m (apart_state m c.args.px c.args.py c.cell_fall.new.grid c.cell_fall.new.falling (left c.loop-x.spots k (n.count - 1) AREA) (left c.loop-x.dirs k (n.count - 1) 0)
    (numbers (n.count - 1) n.coins n.dead))
squashed c {k} m e = subst (Onwards c m) (without-one c.loop-x.invariant.1 k (told c m e).1 m _ _ _ _ _ _) (done c m e)

-- the slot of a squashed creature, and the last one's
slots : (c : Called) {k : ℕ} → c.cell_fall.result ≡ Squashed k → (k < MAX_ENEMIES) × (c.loop-x.fallen.count - 1 < MAX_ENEMIES)
slots c e =
    let h = (told c nothing e).1 in
    (omega (arith, c.loop-x.invariant.1.few), omega (arith, c.loop-x.invariant.1.few))

pub overflow_mul-player : goal.overflow_mul-player
overflow_mul-player c = omega (arith, (c.requires.sound nothing).home)

pub overflow_add-player : goal.overflow_add-player
overflow_add-player c = omega (arith, (c.requires.sound nothing).home)

pub loop-y-init : goal.loop-y-init
unfolding gravity_of
loop-y-init c = (c.requires.parts, λ m. record { sound = c.requires.sound m; same = refl })

pub quiet-requires : goal.quiet-requires
quiet-requires c =
    let d = (c.loop-y.invariant.1 nothing).sound in
    record { cell = record { cells = d.cells; across = omega arith; down = omega (arith, c.loop-y.auto.y, c.loop-y-test.true) }; marks = d.marks }

pub loop-y-preserved-then-quiet : goal.loop-y-preserved-then-quiet
loop-y-preserved-then-quiet c =
    let y = c.loop-y.y in
    let o = row_state (goal.at.loop-y-preserved-then-quiet c).At-loop-y in
    (c.loop-y.invariant.0, λ m. row_passed (y - 1) (o m) (c.quiet.ensures c.if-quiet.true) (row_begins y (o m) c.loop-y-test.true (c.loop-y.invariant.1 m)))

pub loop-x-init : goal.loop-x-init
loop-x-init c = (omega (arith, c.loop-y.auto.y, c.loop-y-test.true), c.loop-y.invariant.0, λ m. record { sound = (c.loop-y.invariant.1 m).sound; same = refl })

pub loop-y-preserved : goal.loop-y-preserved
loop-y-preserved c =
    let y = c.loop-y.y in
    let o = row_state (goal.at.loop-y-preserved c).At-loop-y in
    let k = state (goal.at.loop-y-preserved c).At-loop-x in
    let begun = λ (m : Mine). row_begins y (o m) c.loop-y-test.true (c.loop-y.invariant.1 m) in
    (c.loop-x.invariant.1, λ m. onwards (begun m).same (row_ends (y - 1) c.loop-x.x (k m) c.loop-x-test.false (c.loop-x.invariant.2 m)))

pub cell_fall-requires : goal.cell_fall-requires
cell_fall-requires c =
    let i = c.loop-x.invariant in
    let d = (i.2 nothing).sound in
    record { here = record { cell = record { cells = d.cells; across = c.loop-x-test.true; down = i.0 }; marks = d.marks }; slots = i.1.slots }

pub overflow_add-fallen : goal.overflow_add-fallen
overflow_add-fallen c = omega (arith, (done (goal.at.overflow_add-fallen c).After-cell_fall nothing c.in-Collected.is).sound.coins)

pub overflow_sub-fallen : goal.overflow_sub-fallen
overflow_sub-fallen c = omega (arith, (told (goal.at.overflow_sub-fallen c).After-cell_fall nothing c.in-Squashed.is).1)

pub leave-requires : goal.leave-requires
leave-requires c = (omega arith, slots (goal.at.leave-requires c).After-cell_fall c.in-Squashed.is)

pub leave-requires-in-Squashed : goal.leave-requires-in-Squashed
leave-requires-in-Squashed c = (omega arith, slots (goal.at.leave-requires-in-Squashed c).After-cell_fall c.in-Squashed.is)

pub loop-x-preserved : goal.loop-x-preserved
loop-x-preserved c =
    let k = (goal.at.loop-x-preserved c).After-cell_fall in
    let i = c.loop-x.invariant in
    elim c.match-cell_fall.branch [
      | in-Quiet w ↦ rw (w.spots-is, w.dirs-is, w.fallen-is) (i.0, i.1, λ m. done k m w.in-Quiet.is)
      | in-Collected w ↦ rw (w.spots-is, w.dirs-is, w.fallen-is) (i.0, i.1, λ m. done k m w.in-Collected.is)
      | in-Crushed w ↦ rw (w.spots-is, w.dirs-is, w.fallen-is) (i.0, i.1, λ m. done k m w.in-Crushed.is)
      | in-Squashed w ↦
          let e = w.in-Squashed.is in
          let s = left_of c.loop-x.spots w.in-Squashed.k (c.loop-x.fallen.count - 1) AREA AREA (omega (arith, i.1.slots, (slots k e).1)) in
          rw (w.spots-is, w.dirs-is, w.fallen-is, w.leave.ensures, w.leave-in-Squashed.ensures, s)
          (i.0, apart-left i.1 w.in-Squashed.k (told k nothing e).1, λ m. squashed k m e)
    ]
