-- Bytes laid into a lent buffer behind those that it holds.
use Rattle.std.specs.Prelude.{List, ◌++◌, ◌≡◌, ℕ, ◌+◌, length, take}

-- k bytes stand from `at` on, and what was before `at` is kept
pub record Lays (text : List ℕ) (k at : ℕ) (before after : List ℕ) : Type 0 where
  pub long : length text ≡ k
  pub size : length after ≡ length before
  pub holds : take (at + k) after ≡ take at before ++ text
