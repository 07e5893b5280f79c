-- A state that is written out and read back is the same, and no flag of it is refused; one whose flags are right is the same when it is read and written out. Assumes nothing.
use Rattle.std.specs.Int.{from_bool}
use mathlib.Core.Bool.{Bool, true, false, ◌&&◌, false≢true, and-false}
use mathlib.Core.List.{List, [], ◌∷◌, map}
use mathlib.Core.Path.{◌≡◌, refl, sym, ◌∙◌}
use Prim.Native.Nat.{ℕ, zero, suc}
use native.Mathlib.Omega.{arith}
use borrow.Author.Tests.{lt-leb}
use Rattle.laws.specs.Lists.{all}
use Rattle.laws.proofs.Choice.{and_left, and_right}
use Rattle.refusal.specs.Refusal.{number_given, Checked, NONE, CELLS, NUMBERS, clear, unless, ◌then◌}
use Rattle.refusal.specs.declared.Refusal.TheVariants.{Cells}
use Rattle.refusal.proofs.Checks.{clear_then, clear-unless, clear_of}
use Rattle.refusal.proofs.Calls.{then_none, unless-none}
use Rattle.mine_state.specs.declared.Mine.{Mine}
use Rattle.mine_state.specs.WellFormed as MW
use Rattle.cutter_state.specs.declared.Cutter.{Cutter}
use Rattle.cutter_state.specs.WellFormed as CW
use Rattle.host_state.specs.declared.mine_bytes.HostMine.{HostMine}
use Rattle.host_state.specs.declared.cutter_bytes.HostCutter.{HostCutter}
use Rattle.host_state.specs.Flags.{is_flag, flag_of, byte_of}
use Rattle.host_state.specs.Mine as M
use Rattle.host_state.specs.Cutter as C

-- ---- a flag, and a list of them

-- as a number, a flag is its byte
pub from_flag : (f : Bool) → from_bool f ≡ byte_of f
from_flag true = refl
from_flag false = refl

flag_byte : (f : Bool) → flag_of (byte_of f) ≡ f
flag_byte true = refl
flag_byte false = refl

byte_is_flag : (f : Bool) → is_flag (byte_of f) ≡ true
byte_is_flag true = refl
byte_is_flag false = refl

byte_flag : (b : ℕ) → is_flag b ≡ true → byte_of (flag_of b) ≡ b
byte_flag zero e = refl
byte_flag (suc zero) e = refl
byte_flag (suc (suc b)) e = absurd (false≢true (sym (lt-leb (suc (suc b)) 1 (omega arith)) ∙ e))

flags_bytes : (fs : List Bool) → map flag_of (map byte_of fs) ≡ fs
flags_bytes [] = refl
flags_bytes (f ∷ fs) = rw (flag_byte f, flags_bytes fs)

bytes_are_flags : (fs : List Bool) → all is_flag (map byte_of fs) ≡ true
bytes_are_flags [] = refl
bytes_are_flags (f ∷ fs) = rw (byte_is_flag f, bytes_are_flags fs)

bytes_flags : (bs : List ℕ) → all is_flag bs ≡ true → map byte_of (map flag_of bs) ≡ bs
bytes_flags [] e = refl
bytes_flags (b ∷ bs) e = rw (byte_flag b (and_left (is_flag b) _ e), bytes_flags bs (and_right (is_flag b) _ e))

-- ---- a state that is written out is read back as it was, and its flags pass

pub mine-back : (m : Mine) → M.game_of (M.host_of m) ≡ m
unfolding M.game_of M.host_of
mine-back m = rw (flags_bytes m.falling, flag_byte m.dead, flag_byte m.won)

pub mine_passes : (m : Mine) → M.flags_of (M.host_of m) ≡ NONE
unfolding M.flags_of M.host_of
mine_passes m = rw (bytes_are_flags m.falling, byte_is_flag m.dead, byte_is_flag m.won)

pub cutter-back : (c : Cutter) → C.game_of (C.host_of c) ≡ c
unfolding C.game_of C.host_of
cutter-back c = rw (flag_byte c.trailing, flag_byte c.dead, flag_byte c.won_level)

pub cutter_passes : (c : Cutter) → C.flags_of (C.host_of c) ≡ NONE
unfolding C.flags_of C.host_of
cutter_passes c = rw (byte_is_flag c.trailing, byte_is_flag c.dead, byte_is_flag c.won_level)

-- ---- a state whose flags pass is written out as it came

refused : (r : Checked) → clear (r then NUMBERS) ≡ false
refused r = clear_then r NUMBERS ∙ and-false (clear r)

-- the checks of the flags, the second behind what the state gets
flags_right : (a b : Bool) (r : Checked) → number_given (unless a CELLS then unless b (r then NUMBERS)) ≡ 0 → (a ≡ true) × (b ≡ true)
flags_right a b r e =
    let p = then_none (unless a CELLS) (unless b (r then NUMBERS)) e in
    (unless-none a Cells p.0, sym (clear-unless b (r then NUMBERS) (refused r)) ∙ clear_of (unless b (r then NUMBERS)) p.1)

pub mine_as_it_came : (h : HostMine) → number_given (M.flags_of h) ≡ 0 → M.host_of (M.game_of h) ≡ h
unfolding M.flags_of M.game_of M.host_of
mine_as_it_came h e =
    let p = flags_right (all is_flag h.falling) (is_flag h.dead && is_flag h.won) (MW.refusal_of (M.game_of h)) e in
    rw (bytes_flags h.falling p.0, byte_flag h.dead (and_left _ _ p.1), byte_flag h.won (and_right (is_flag h.dead) _ p.1))

pub cutter_as_it_came : (h : HostCutter) → number_given (C.flags_of h) ≡ 0 → C.host_of (C.game_of h) ≡ h
unfolding C.flags_of C.game_of C.host_of
cutter_as_it_came h e =
    let p = flags_right (is_flag h.trailing) (is_flag h.dead && is_flag h.won_level) (CW.refusal_of (C.game_of h)) e in
    rw (byte_flag h.trailing p.0, byte_flag h.dead (and_left _ _ p.1), byte_flag h.won_level (and_right (is_flag h.dead) _ p.1))
