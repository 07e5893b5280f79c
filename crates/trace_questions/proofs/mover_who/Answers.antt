use native.Mathlib.Omega.{arith}
use mathlib.Core.List.{List}
use mathlib.Core.Path.{◌≡◌, ap, ◌∙◌}
use Prim.Native.Nat.{ℕ, ◌+◌, ◌-◌, ◌*◌, ◌/◌, ◌<◌}
use lib.ListN.{length, take, drop}
use borrow.Author.Tests.{lt-ltb}
use Rattle.laws.proofs.Table.{length-table}
use Rattle.found.specs.First.{first}
use Rattle.cutter_ground.specs.declared.Mover.{Mover}
use Rattle.trace_states.specs.Cutters.{MOVER, mover_at}
use Rattle.trace_questions.specs.Lists.{no_mover, mover_or, movers_from, movers_in}
use Rattle.trace_questions.proofs.Parts.{part_is, part_fits, part_more, parts_end}
use Rattle.cutter_ground.specs.Movers.{MAX_ENEMIES, stands_at}
use Rattle.trace_questions.proofs.mover_who.Goals.{After-who_of}
use Rattle.trace_questions.proofs.mover_who.Goals as goal

there : (l : List ℕ) (k : ℕ) → k < length l / MOVER → mover_or (length l / MOVER) l k ≡ mover_at (k * MOVER) l
unfolding mover_or
there l k h = rw (lt-ltb k (length l / MOVER) h)

part_here : (l : List ℕ) (from : ℕ) → from < length l / MOVER → take (length l / MOVER - from) (movers_from (length l / MOVER) l from) ≡ take MAX_ENEMIES (drop from (movers_in l))
unfolding movers_from movers_in
part_here l from h = part_is (λ (k : ℕ). mover_at (k * MOVER) l) (mover_or (length l / MOVER) l) no_mover (length l / MOVER) MAX_ENEMIES from h (there l)

all_of : (l : List ℕ) → length (movers_in l) ≡ length l / MOVER
unfolding movers_in
all_of l = length-table (length l / MOVER) (λ (k : ℕ). mover_at (k * MOVER) l)

asked : (c : After-who_of) → let a = c.args in
    c.who_of.result ≡ first (stands_at a.x a.y) (take MAX_ENEMIES (drop c.loop-from.from (movers_in a.list.now)))
asked c =
    let k = c in
    let a = k.args in
    let l = a.list.now in
    let from = k.loop-from.from in
    c.who_of.ensures
    ∙ ap (λ (p : List Mover). first (stands_at a.x a.y) (take (length l / MOVER - from) p)) c.movers_from-part.ensures
    ∙ ap (first (stands_at a.x a.y)) (part_here l from (omega arith))

pub both-found-requires : goal.both-found-requires
both-found-requires c =
    let a = c.args in
    part_fits (stands_at a.x a.y) (movers_in a.list.now) MAX_ENEMIES c.loop-from.from _ _ c.loop-from.invariant (asked c) (omega arith)

pub loop-from-preserved : goal.loop-from-preserved
loop-from-preserved c =
    let a = c.args in
    let l = a.list.now in
    c.both-found.ensures ∙ part_more (stands_at a.x a.y) (movers_in l) MAX_ENEMIES c.loop-from.from _ _ c.loop-from.invariant (asked (goal.at.loop-from-preserved c).After-who_of) (omega (arith, all_of l))

pub returns : goal.returns
returns c =
    let a = c.args in
    parts_end (stands_at a.x a.y) (movers_in a.list.now) c.loop-from.from c.loop-from.invariant (omega (arith, all_of a.list.now))

-- the last part
pub returns-2 : goal.returns-2
returns-2 c =
    let a = c.args in
    let l = movers_in a.list.now in
    let from = c.loop-from.from in
    let more = part_more (stands_at a.x a.y) l MAX_ENEMIES from _ _ c.loop-from.invariant (asked (goal.at.returns-2 c).After-who_of) (omega (arith, all_of a.list.now)) in
    parts_end (stands_at a.x a.y) l (from + MAX_ENEMIES) (c.both-found.ensures ∙ more) (omega (arith, all_of a.list.now))
