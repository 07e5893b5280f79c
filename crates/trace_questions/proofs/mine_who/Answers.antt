use native.Mathlib.Omega.{arith}
use mathlib.Core.List.{List}
use mathlib.Core.Path.{◌≡◌, ap, ◌∙◌}
use Prim.Native.Nat.{ℕ, ◌+◌, ◌-◌, ◌*◌, ◌/◌, ◌<◌}
use lib.ListN.{length, take, drop}
use borrow.Author.Tests.{lt-ltb}
use Rattle.laws.proofs.Table.{length-table}
use Rattle.found.specs.First.{first}
use Rattle.mine_state.specs.State.{MAX_ENEMIES, stands_at}
use Rattle.mine_state.specs.declared.Enemy.{Enemy}
use Rattle.trace_states.specs.Mines.{ENEMY, enemy_at}
use Rattle.trace_questions.specs.Lists.{no_enemy, enemy_or, enemies_from, enemies_in}
use Rattle.trace_questions.proofs.Parts.{part_is, part_fits, part_more, parts_end}
use Rattle.trace_questions.proofs.mine_who.Goals.{After-who_of}
use Rattle.trace_questions.proofs.mine_who.Goals as goal

there : (l : List ℕ) (k : ℕ) → k < length l / ENEMY → enemy_or (length l / ENEMY) l k ≡ enemy_at (k * ENEMY) l
unfolding enemy_or
there l k h = rw (lt-ltb k (length l / ENEMY) h)

part_here : (l : List ℕ) (from : ℕ) → from < length l / ENEMY → take (length l / ENEMY - from) (enemies_from (length l / ENEMY) l from) ≡ take MAX_ENEMIES (drop from (enemies_in l))
unfolding enemies_from enemies_in
part_here l from h = part_is (λ (k : ℕ). enemy_at (k * ENEMY) l) (enemy_or (length l / ENEMY) l) no_enemy (length l / ENEMY) MAX_ENEMIES from h (there l)

all_of : (l : List ℕ) → length (enemies_in l) ≡ length l / ENEMY
unfolding enemies_in
all_of l = length-table (length l / ENEMY) (λ (k : ℕ). enemy_at (k * ENEMY) l)

asked : (c : After-who_of) → let a = c.args in
    c.who_of.result ≡ first (stands_at a.x a.y) (take MAX_ENEMIES (drop c.loop-from.from (enemies_in a.list.now)))
asked c =
    let k = c in
    let a = k.args in
    let l = a.list.now in
    let from = k.loop-from.from in
    c.who_of.ensures
    ∙ ap (λ (p : List Enemy). first (stands_at a.x a.y) (take (length l / ENEMY - from) p)) c.enemies_from-part.ensures
    ∙ ap (first (stands_at a.x a.y)) (part_here l from (omega arith))

pub both-found-requires : goal.both-found-requires
both-found-requires c =
    let a = c.args in
    part_fits (stands_at a.x a.y) (enemies_in a.list.now) MAX_ENEMIES c.loop-from.from _ _ c.loop-from.invariant (asked c) (omega arith)

pub loop-from-preserved : goal.loop-from-preserved
loop-from-preserved c =
    let a = c.args in
    let l = a.list.now in
    c.both-found.ensures ∙ part_more (stands_at a.x a.y) (enemies_in l) MAX_ENEMIES c.loop-from.from _ _ c.loop-from.invariant (asked (goal.at.loop-from-preserved c).After-who_of) (omega (arith, all_of l))

pub returns : goal.returns
returns c =
    let a = c.args in
    parts_end (stands_at a.x a.y) (enemies_in a.list.now) c.loop-from.from c.loop-from.invariant (omega (arith, all_of a.list.now))

-- the last part
pub returns-2 : goal.returns-2
returns-2 c =
    let a = c.args in
    let l = enemies_in a.list.now in
    let from = c.loop-from.from in
    let more = part_more (stands_at a.x a.y) l MAX_ENEMIES from _ _ c.loop-from.invariant (asked (goal.at.returns-2 c).After-who_of) (omega (arith, all_of a.list.now)) in
    parts_end (stands_at a.x a.y) l (from + MAX_ENEMIES) (c.both-found.ensures ∙ more) (omega (arith, all_of a.list.now))
