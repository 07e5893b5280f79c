-- Document 01, 'The frame': drawing on a frame. Where ink is drawn, or paper, or pixels are inverted, `on` tells at which.
use Rattle.std.specs.Prelude.{◌≡◌, Bool, false, ◌||◌, ◌&&◌, not, List, ℕ}
use Rattle.std.specs.Bool.{xor}
use Rattle.frame.specs.Frame.{pack, pixel}

-- a frame is no more than its pixels: 1,024 bytes
abbrev pub Framed : List ℕ → Type 0
Framed frame = frame ≡ pack (pixel frame)

-- clearing makes all bits 0
abbrev pub unlit : ℕ → ℕ → Bool
unlit x y = false

-- a change of each pixel by what is drawn there
abbrev pub changed : (Bool → Bool → Bool) → List ℕ → (ℕ → ℕ → Bool) → List ℕ
changed op frame on = pack (λ x y. op (pixel frame x y) (on x y))

-- INK sets a bit
abbrev pub inked : List ℕ → (ℕ → ℕ → Bool) → List ℕ
inked = changed ◌||◌

-- PAPER clears it
abbrev pub papered : List ℕ → (ℕ → ℕ → Bool) → List ℕ
papered = changed (λ b t. b && not t)

abbrev pub inverted : List ℕ → (ℕ → ℕ → Bool) → List ℕ
inverted = changed xor
