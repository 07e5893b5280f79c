-- One check, two in order, and a state's checks: where no number is given, and which is. Assumes nothing.
use Rattle.std.specs.Prelude.{Ok, Err, ◌<◌}
use mathlib.Core.Bool.{Bool, true, false, cond, ◌&&◌, true≢false, false≢true}
use mathlib.Core.Path.{◌≡◌, refl, sym, ap, ◌∙◌}
use native.Mathlib.Omega.{arith}
use lib.Dec.{lit<}
use Rattle.laws.proofs.Choice.{and_left, and_right}
use Rattle.refusal.specs.Refusal.{Checked, number_of, NONE, CELLS, PLAYER, NUMBERS, number_given, place_given, clear, unless, ◌then◌}
use Rattle.refusal.specs.declared.Refusal.{Refusal}
use Rattle.refusal.specs.declared.Refusal.TheVariants.{Cells, Player, Numbers, Command, Frame, Draws, LastLevel, TooMany, OffGrid, WrongCell, Heading, SharedCell, SpareSlot}
use Rattle.refusal.specs.InPlace.{is_cause, before, InPlaceOf3}

-- a refusal has a number, and what is clear has none
pub some_number : (r : Refusal) → 0 < number_of r
some_number Cells = lit< tt
some_number Player = lit< tt
some_number Numbers = lit< tt
some_number Command = lit< tt
some_number Frame = lit< tt
some_number Draws = lit< tt
some_number LastLevel = lit< tt
some_number TooMany = lit< tt
some_number (OffGrid i) = lit< tt
some_number (WrongCell i) = lit< tt
some_number (Heading i) = lit< tt
some_number (SharedCell i) = lit< tt
some_number (SpareSlot i) = lit< tt

pub clear_of : (r : Checked) → number_given r ≡ 0 → clear r ≡ true
clear_of (Ok u) e = refl
clear_of (Err r) e = absurd (omega (arith, some_number r))

pub zero_of : (r : Checked) → clear r ≡ true → number_given r ≡ 0
zero_of (Ok u) e = refl
zero_of (Err r) e = absurd (false≢true e)

pub unclear : (r : Checked) → (number_given r ≡ 0 → ⊥) → clear r ≡ false
unclear (Ok u) h = absurd (h refl)
unclear (Err r) h = refl

pub nonzero : (r : Checked) → clear r ≡ false → number_given r ≡ 0 → ⊥
nonzero r e z = true≢false (sym (clear_of r z) ∙ e)

pub clear-unless : (b : Bool) (r : Checked) → clear r ≡ false → clear (unless b r) ≡ b
clear-unless true r e = refl
clear-unless false r e = e

pub clear_then : (r s : Checked) → clear (r then s) ≡ (clear r && clear s)
clear_then r s = go (clear r) refl
  where
    go : (b : Bool) → clear r ≡ b → clear (cond b s r) ≡ (b && clear s)
    go true e = refl
    go false e = e

-- what holds of each check's refusal, where it is the first, holds of the one that is given
module _ (P : Checked → Type 0) where
  pub unless_given : (b : Bool) (r : Checked) → (b ≡ false → P r) → clear (unless b r) ≡ false → P (unless b r)
  unless_given true r f e = absurd (true≢false e)
  unless_given false r f e = f refl

  pub then_given : (r s : Checked) → (clear r ≡ false → P r) → (clear r ≡ true → clear s ≡ false → P s) → clear (r then s) ≡ false → P (r then s)
  then_given r s f g = go (clear r) refl
    where
      go : (b : Bool) → clear r ≡ b → clear (cond b s r) ≡ false → P (cond b s r)
      go true q e = g q e
      go false q e = f q

-- ---- a state's checks: of its cells, the player, the creatures and the numbers

abbrev in_order : Bool → Bool → Checked → Bool → Checked
in_order cells player fault numbers = unless cells CELLS then unless player PLAYER then fault then unless numbers NUMBERS

-- no number is given where all of them pass, and only there
clear_checks : (a b : Bool) (f : Checked) (d : Bool) → clear (in_order a b f d) ≡ (a && b && clear f && d)
clear_checks false b f d = refl
clear_checks true false f d = refl
clear_checks true true f d = clear_then f (unless d NUMBERS) ∙ ap (λ (t : Bool). clear f && t) (clear-unless d NUMBERS refl)

pub none_passes : (a b : Bool) (f : Checked) (d : Bool) → number_given (in_order a b f d) ≡ 0 → (a && b && clear f && d) ≡ true
none_passes a b f d e = sym (clear_checks a b f d) ∙ clear_of (in_order a b f d) e

pub passes_none : (a b : Bool) (f : Checked) (d : Bool) → (a && b && clear f && d) ≡ true → in_order a b f d ≡ NONE
passes_none true true f true e = rw (and_left (clear f) true e)
passes_none true true f false e = absurd (false≢true (and_right (clear f) false e))
passes_none true false f d e = absurd (false≢true e)
passes_none false b f d e = absurd (false≢true e)

-- Code that makes them in order: where it stops. The creatures are right where `c` says so.
module _ (a b : Bool) (f : Checked) (d : Bool) {c : Bool} (same : clear f ≡ c) where
  pub at_cells : a ≡ false → CELLS ≡ in_order a b f d
  at_cells p = rw p

  pub at_player : a ≡ true → b ≡ false → PLAYER ≡ in_order a b f d
  at_player p q = rw (p, q)

  pub at_creatures : a ≡ true → b ≡ true → c ≡ false → f ≡ in_order a b f d
  at_creatures p q r = rw (p, q, same ∙ r)

  pub at_numbers : a ≡ true → b ≡ true → c ≡ true → d ≡ false → NUMBERS ≡ in_order a b f d
  at_numbers p q r s = rw (p, q, same ∙ r, s)

  pub at_end : a ≡ true → b ≡ true → c ≡ true → d ≡ true → NONE ≡ in_order a b f d
  at_end p q r s = rw (p, q, same ∙ r, s)

-- ---- in place of 3

other-number : (r : Checked) → is_cause (number_given r) ≡ false → (number_given r ≡ 3 → ⊥) → place_given r ≡ 0 → InPlaceOf3 (number_given r) r
other-number r e h p = record {
  three = (λ t. absurd (true≢false (sym t ∙ e)), λ t. absurd (h t));
  other = λ n _ _. (λ t. t, λ t. t);
  never = h;
  placed = λ _. p;
}

cause_number : (r : Checked) → is_cause (number_given r) ≡ true → InPlaceOf3 3 r
cause_number r e = record {
  three = (λ _. refl, λ _. e);
  other = λ n s h. (λ t. absurd (true≢false (sym e ∙ ap is_cause t ∙ s)), λ t. absurd (h (sym t)));
  never = λ t. true≢false (sym e ∙ ap is_cause t);
  placed = λ s. absurd (true≢false (sym e ∙ s));
}

-- the creatures' fault stands where 3 did
pub in_place_of_3 : (a b c d : Bool) (f : Checked) → clear f ≡ c → (c ≡ false → is_cause (number_given f) ≡ true) → InPlaceOf3 (before a b c d) (in_order a b f d)
in_place_of_3 false b c d f e k = other-number CELLS refl (λ z. omega arith) refl
in_place_of_3 true false c d f e k = other-number PLAYER refl (λ z. omega arith) refl
in_place_of_3 true true false d f e k = rw e (cause_number f (k refl))
in_place_of_3 true true true false f e k = rw e (other-number NUMBERS refl (λ z. omega arith) refl)
in_place_of_3 true true true true f e k = rw e (other-number NONE refl (λ z. omega arith) refl)

-- what holds of the creatures' fault holds of what is given, where that is a cause
pub cause_given : (P : Checked → Type 0) (a b : Bool) (f : Checked) (d : Bool) → (clear f ≡ false → P f) → is_cause (number_given (in_order a b f d)) ≡ true → P (in_order a b f d)
cause_given P false b f d g e = absurd (false≢true e)
cause_given P true false f d g e = absurd (false≢true e)
cause_given P true true f d g e = go (clear f) refl d e
  where
    go : (c : Bool) → clear f ≡ c → (d : Bool) → is_cause (number_given (cond c (unless d NUMBERS) f)) ≡ true → P (cond c (unless d NUMBERS) f)
    go true q true e = absurd (false≢true e)
    go true q false e = absurd (false≢true e)
    go false q d e = g q
