-- Two answers with one number are one. Assumes nothing.
use mathlib.Core.Path.{◌≡◌, refl, sym, ap, ◌∙◌}
use Prim.Native.Nat.{ℕ, zero, suc}
use Rattle.answer.specs.declared.Answer.{Answer}
use Rattle.answer.specs.declared.Answer.TheVariants.{GoingOn, Won, Dead, Over, Quit}
use Rattle.answer.specs.Answer.{number_of}

abbrev case_of : ℕ → Answer
case_of zero = GoingOn
case_of (suc zero) = Won
case_of (suc (suc zero)) = Dead
case_of (suc (suc (suc zero))) = Over
case_of (suc (suc (suc (suc n)))) = Quit

case_number : (a : Answer) → case_of (number_of a) ≡ a
case_number GoingOn = refl
case_number Won = refl
case_number Dead = refl
case_number Over = refl
case_number Quit = refl

pub one_number : (a b : Answer) → number_of a ≡ number_of b → a ≡ b
one_number a b e = sym (case_number a) ∙ ap case_of e ∙ case_number b
