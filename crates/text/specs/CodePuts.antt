-- Bytes put into a lent buffer behind those that it holds.
use Rattle.std.specs.Prelude.{List, ◌++◌, ◌≡◌, ℕ, ◌+◌, length, take}

-- the text stands from `at` to `end`, and what was before `at` is kept
pub record Puts (text : List ℕ) (at : ℕ) (before : List ℕ) (end : ℕ) (after : List ℕ) : Type 0 where
  pub ends : end ≡ at + length text
  pub size : length after ≡ length before
  pub holds : take end after ≡ take at before ++ text
