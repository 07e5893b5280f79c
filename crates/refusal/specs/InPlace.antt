-- Document 02 (ix): what 'in place of 3' says.
use Rattle.std.specs.Prelude.{Bool, true, false, cond, ◌&&◌, ◌↔◌, ◌≡◌, ℕ, leb}
use Rattle.refusal.specs.Refusal.{Checked, number_given, place_given}

-- one of 31 to 36
abbrev pub is_cause : ℕ → Bool
is_cause n = leb 31 n && leb n 36

-- the number before there were causes: the first of 1 to 4 that applies, and 0 for none
abbrev pub before : Bool → Bool → Bool → Bool → ℕ
before cells player creatures numbers = cond cells (cond player (cond creatures (cond numbers 0 4) 3) 2) 1

-- one of 31 to 36 is given exactly where it was 3, every other number exactly where it was that; a number without a place has 0
pub record InPlaceOf3 (old : ℕ) (r : Checked) : Type 0 where
  pub three : (is_cause (number_given r) ≡ true) ↔ (old ≡ 3)
  pub other : (n : ℕ) → is_cause n ≡ false → (n ≡ 3 → ⊥) → (number_given r ≡ n) ↔ (old ≡ n)
  pub never : number_given r ≡ 3 → ⊥
  pub placed : is_cause (number_given r) ≡ false → place_given r ≡ 0
