-- The first of a list that passes a test and how many pass, as both games ask it of their creatures.
use Rattle.std.specs.Prelude.{Bool, true, false, cond, List, [], ◌∷◌, ℕ, ◌+◌, Option, None, Some}
use Rattle.laws.specs.Lists.{count}
use Rattle.found.specs.declared.Found.{Found}

-- the answer of an index and a number
abbrev pub At : ℕ → ℕ → Option Found
At i n = Some (record { index = i; number = n })

-- the values of an answer: whether it is nobody, the index of the first, and the number; nobody with zero
abbrev pub nobody : Option Found → Bool
nobody (Some f) = false
nobody None = true

abbrev pub index : Option Found → ℕ
index (Some f) = f.index
index None = 0

abbrev pub number : Option Found → ℕ
number (Some f) = f.number
number None = 0

-- the index of the first that passes and how many pass from there on, where the list's first has the index k
abbrev pub first_from : {A : Type 0} → (A → Bool) → ℕ → List A → Option Found
first_from test k [] = None
first_from test k (a ∷ l) = cond (test a) (At k (count test (a ∷ l))) (first_from test (k + 1) l)

-- the index of the first that passes and how many of the list pass, or nobody
abbrev pub first : {A : Type 0} → (A → Bool) → List A → Option Found
first test l = first_from test 0 l
