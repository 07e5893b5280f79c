-- The flags take their place in document 01's order; what is left where only dead or won is no flag. Assumes nothing.
use Rattle.std.specs.Prelude.{Ok, Err}
use Rattle.std.specs.Result.{result_and}
use mathlib.Core.Bool.{Bool, true, false, ◌&&◌}
use mathlib.Core.Logic.{⊎_elim}
use mathlib.Core.Path.{◌≡◌, refl, sym}
use Rattle.laws.specs.Lists.{all}
use Rattle.laws.proofs.Choice.{bool_cases}
use Rattle.refusal.specs.Refusal.{Checked, CELLS, NUMBERS, clear, unless, ◌then◌}
use Rattle.mine_state.specs.WellFormed as MW
use Rattle.cutter_state.specs.WellFormed as CW
use Rattle.host_state.specs.declared.mine_bytes.HostMine.{HostMine}
use Rattle.host_state.specs.declared.cutter_bytes.HostCutter.{HostCutter}
use Rattle.host_state.specs.Flags.{is_flag, flag_of}
use Rattle.host_state.specs.Mine as M
use Rattle.host_state.specs.Cutter as C

-- a flag of cause 1 and those of cause 4, then the state's four checks: one check in order
abbrev Ordered : Bool → Bool → Bool → Checked → Bool → Bool → Type 0
Ordered one cells player fault numbers four =
    ((unless one CELLS then unless four (MW.checked cells player fault numbers then NUMBERS)) then MW.checked cells player fault numbers)
    ≡ MW.checked (one && cells) player fault (numbers && four)

fault_first : (f : Checked) (n four : Bool) → clear f ≡ false → Ordered true true true f n four
fault_first f n true e = rw e
fault_first f n false e = simp e

fault_none : (f : Checked) (n four : Bool) → clear f ≡ true → Ordered true true true f n four
fault_none f true true e = rw e
fault_none f true false e = rw e
fault_none f false true e = rw e
fault_none f false false e = rw e

order : (one cells player : Bool) (fault : Checked) (numbers four : Bool) → Ordered one cells player fault numbers four
order false c p f n four = refl
order true false p f n true = refl
order true false p f n false = refl
order true true false f n true = refl
order true true false f n false = refl
order true true true f n four = ⊎_elim (fault_none f n four) (fault_first f n four) (bool_cases (clear f))

pub mine-in_order : M.InOrder
unfolding M.flags_of M.in_order MW.refusal_of
mine-in_order h =
    let m = M.game_of h in
    order (all is_flag h.falling) (MW.cells_ok m) (MW.player_ok m) (MW.creatures_fault m) (MW.numbers_ok m) (is_flag h.dead && is_flag h.won)

pub cutter-in_order : C.InOrder
unfolding C.flags_of C.in_order C.game_of CW.refusal_of
cutter-in_order h =
    let c = C.game_of h in
    order (is_flag h.trailing) (CW.cells_ok h.grid (flag_of h.trailing)) (CW.player_ok c) (CW.creatures_fault c) (CW.numbers_ok c)
    (is_flag h.dead && is_flag h.won_level)

-- the code's `and` is the order of two checks
pub and_then : (r s : Checked) → result_and r s ≡ (r then s)
and_then (Ok u) s = refl
and_then (Err n) s = refl

-- dead or won is no flag, and the state gets `no`: that, and 4 where it is none
pub mine_behind : (h : HostMine) {no : Checked} {d w : Bool} →
    all is_flag h.falling ≡ true → d ≡ is_flag h.dead → w ≡ is_flag h.won → (d && w) ≡ false → no ≡ MW.refusal_of (M.game_of h) →
    M.flags_of h ≡ (no then NUMBERS)
unfolding M.flags_of
mine_behind h {no} e p q f r = rw (e, sym p, sym q, f, r)

pub cutter_behind : (h : HostCutter) {no : Checked} {d w : Bool} →
    is_flag h.trailing ≡ true → d ≡ is_flag h.dead → w ≡ is_flag h.won_level → (d && w) ≡ false → no ≡ CW.refusal_of (C.game_of h) →
    C.flags_of h ≡ (no then NUMBERS)
unfolding C.flags_of
cutter_behind h {no} e p q f r = rw (e, sym p, sym q, f, r)
