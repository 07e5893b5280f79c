-- Traces: what an entry tells, against what its call gave.
use Rattle.std.specs.Prelude.{Bool, true, false, cond, not, ◌&&◌, List, [], ◌∷◌, ◌≡◌, ℕ, ◌+◌, ◌-◌, eqb, ltb, length, Option, None, Some}
use Rattle.refusal.specs.Refusal.{Checked, number_given, place_given}
use Rattle.trace_verdict.specs.declared.Head.{Head}
use Rattle.trace_verdict.specs.declared.Part.{Part}
use Rattle.trace_verdict.specs.declared.Part.TheVariants.{Same, Refusal, Place, Answer, State, Record, Result}

-- the two clock marks at the end of a state
abbrev pub RECORD : ℕ
RECORD = 8

-- the first place where two runs of bytes differ, or nowhere; the shorter's end where it is cut off; the first bytes have the place k
abbrev pub differ_from : ℕ → List ℕ → List ℕ → Option ℕ
differ_from k [] [] = None
differ_from k [] (y ∷ ys) = Some k
differ_from k (x ∷ xs) [] = Some k
differ_from k (x ∷ xs) (y ∷ ys) = cond (eqb x y) (differ_from (k + 1) xs ys) (Some k)

-- whether there is none
abbrev pub nowhere : Option ℕ → Bool
nowhere (Some i) = false
nowhere None = true

unfoldable pub first_difference : List ℕ → List ℕ → Option ℕ
first_difference a b = differ_from 0 a b

-- byte i of a state of n bytes, as a part: a byte of the state, or one of the record
unfoldable pub placed : ℕ → ℕ → Part
placed n i = cond (ltb i (n - RECORD)) (State i) (Record (i - (n - RECORD)))

-- an entry with no state tells that neither state nor record changed
unfoldable pub theirs : List ℕ → List ℕ → List ℕ
theirs current state = cond (eqb (length state) 0) current state

-- and an unchanged one is not written
unfoldable pub rewritten : List ℕ → List ℕ → Bool
rewritten current state = not (eqb (length state) 0) && nowhere (first_difference state current)

-- what is told of a place that differs, or the rest
abbrev pub differing_or : Option ℕ → (ℕ → Part) → Part → Part
differing_or (Some i) f p = f i
differing_or None f p = p

-- a refusal's place, as an entry tells it: one from 65,535 on is told as 65,535
abbrev pub FAR : ℕ
FAR = 65535

unfoldable pub place_told : ℕ → ℕ
place_told at = cond (ltb at FAR) at FAR

-- an entry over the current state: its refusal, place, answer, state, record and result against those of the call, in this order
unfoldable pub compared : Head → (current state result : List ℕ) → (refusal : Checked) → (answer : ℕ) → (ours told : List ℕ) → Part
compared h current state result refusal answer ours told =
    cond (eqb h.refusal (number_given refusal))
    (cond (eqb h.place (place_told (place_given refusal)))
    (cond (eqb h.answer answer)
    (differing_or (first_difference (theirs current state) ours) (placed (length ours))
    (cond (rewritten current state) (State 0)
    (differing_or (first_difference result told) Result Same)))
    Answer)
    Place)
    Refusal

-- every part of an entry is the call's
pub record Agrees (h : Head) (current state result : List ℕ) (refusal : Checked) (answer : ℕ) (ours told : List ℕ) : Type 0 where
  pub refusals : h.refusal ≡ number_given refusal
  pub places : h.place ≡ place_told (place_given refusal)
  pub answers : h.answer ≡ answer
  pub states : theirs current state ≡ ours
  pub results : result ≡ told
