-- Drawing on a frame byte by byte, said of its pixels. Assumes nothing.
use mathlib.Core.Path.{◌≡◌, refl, sym, ap, ap₂, ◌∙◌}
use mathlib.Core.Bool.{Bool, true, false, ◌||◌, ◌&&◌, not, xor, or_assoc, and-or_distrib_left}
use mathlib.Core.List.{List}
use mathlib.Core.Logic.{◌⊎◌, inl, inr}
use Prim.Native.Nat.{ℕ, ◌+◌, ◌-◌, ◌*◌, ◌/◌, ◌%◌, ◌≤◌, ◌<◌}
use native.Mathlib.Decide.{ℕ_discrete}
use native.Mathlib.Omega.{arith}
use borrow.Author.Tests.{lt-ltb, le-ltb, eq-eqb, ne_eqb}
use lib.Bits.{bit_and}
use lib.Dec.{ltb, eqb}
use lib.ListN.{length, get_or, set, length-set}
use lib.Seq.{ext_get_or, get_or-set_same, get_or-set_other}
use Rattle.laws.proofs.Choice.{below?, same?}
use Rattle.laws.proofs.Table.{length-table, get_or-table_lem}
use Rattle.bits.specs.Bits.{number}
use Rattle.bits.proofs.Number.{number_and, number-not, number_ext}
use Rattle.frame.specs.Frame.{pack, pixel, page_byte}
use Rattle.frame.specs.CodeDraw.{Framed, changed}
use Rattle.frame.proofs.Pack.{pixel-pack, pack_ext}

pub length-pack : (f : ℕ → ℕ → Bool) → length (pack f) ≡ 1024
unfolding pack
length-pack f = length-table 1024 (page_byte f)

pub get_or-pack_lem : (f : ℕ → ℕ → Bool) (k : ℕ) → k < 1024 → get_or (pack f) k 0 ≡ page_byte f k
unfolding pack
get_or-pack_lem f k h = get_or-table_lem 1024 (page_byte f) k 0 h

-- a frame whose bytes are those of a picture
pub packed : (l : List ℕ) (f : ℕ → ℕ → Bool) → length l ≡ 1024 → ((k : ℕ) → k < 1024 → get_or l k 0 ≡ page_byte f k) → l ≡ pack f
packed l f e h = ext_get_or 0 l (pack f) (e ∙ sym (length-pack f)) (λ i m. h i (omega arith) ∙ sym (get_or-pack_lem f i (omega arith)))

pub framed-pack : (f : ℕ → ℕ → Bool) → Framed (pack f)
framed-pack f = pack_ext _ _ (λ x y hx hy. sym (pixel-pack f x y hx hy))

pub length-framed : (l : List ℕ) → Framed l → length l ≡ 1024
length-framed l e = ap length e ∙ length-pack (pixel l)

-- what is drawn on a packed picture
pub drawn_pack : (op : Bool → Bool → Bool) (f g : ℕ → ℕ → Bool) → changed op (pack f) g ≡ pack (λ x y. op (f x y) (g x y))
drawn_pack op f g = pack_ext _ _ (λ x y hx hy. ap (λ (b : Bool). op b (g x y)) (pixel-pack f x y hx hy))

-- An operation on a byte that works bit by bit, and keeps a bit where nothing is drawn.
module _ (op : Bool → Bool → Bool) (on : ℕ → ℕ → ℕ)
    (bits : (f g : ℕ → Bool) → on (number 8 f) (number 8 g) ≡ number 8 (λ j. op (f j) (g j)))
    (keeps : (b : Bool) → op b false ≡ b) where
  -- one byte is drawn on: g has nothing elsewhere
  module _ (g : ℕ → ℕ → Bool) (i v : ℕ) (l : i < 1024) (e : v ≡ page_byte g i)
      (off : (x y : ℕ) → x < 128 → y < 64 → (y / 8 * 128 + x ≡ i → ⊥) → g x y ≡ false) where
    pub draw_packed : (f : ℕ → ℕ → Bool) → set (pack f) i (on (get_or (pack f) i 0) v) ≡ pack (λ x y. op (f x y) (g x y))
    draw_packed f = packed _ _ (length-set (pack f) i _ ∙ length-pack f) (λ k lk. go k lk (ℕ_discrete k i))
      where
        go : (k : ℕ) → k < 1024 → Dec (k ≡ i) → get_or (set (pack f) i (on (get_or (pack f) i 0) v)) k 0 ≡ page_byte (λ x y. op (f x y) (g x y)) k
        go k lk (yes q) =
            rw q (get_or-set_same (pack f) i _ 0 (omega (arith, length-pack f)) ∙ ap₂ on (get_or-pack_lem f i l) e ∙ bits _ _)
        go k lk (no q) =
            get_or-set_other (pack f) i k _ 0 q ∙ get_or-pack_lem f k lk
            ∙ number_ext 8 _ _ (λ j lj. sym (ap (op _) (off (k % 128) (k / 128 * 8 + j) (omega arith) (omega arith) (λ z. q (omega arith))) ∙ keeps _))

    pub draw_byte : (a : List ℕ) → Framed a → set a i (on (get_or a i 0) v) ≡ changed op a g
    draw_byte a h = ap (λ (z : List ℕ). set z i (on (get_or z i 0) v)) h ∙ draw_packed (pixel a)

-- inverting nothing
pub xor_false : (b : Bool) → xor b false ≡ b
unfolding xor
xor_false true = refl
xor_false false = refl

-- paper, by `&` and `!`
pub paper_bits : (f g : ℕ → Bool) → bit_and (number 8 f) (255 - number 8 g) ≡ number 8 (λ j. f j && not (g j))
paper_bits f g = ap (bit_and (number 8 f)) (number-not 8 g) ∙ number_and 8 f (λ j. not (g j))

-- Ink drawn part by part: part k of w is where n is k.
below_more : (a k : ℕ) → (ltb a k || eqb a k) ≡ ltb a (k + 1)
below_more a k = go (below? a k) (same? a k)
  where
    go : (a < k) ⊎ (k ≤ a) → (a ≡ k) ⊎ (a ≡ k → ⊥) → (ltb a k || eqb a k) ≡ ltb a (k + 1)
    go (inl h) e = rw (lt-ltb a k h, lt-ltb a (k + 1) (omega arith))
    go (inr h) (inl e) = rw (le-ltb a k h, eq-eqb a k e, lt-ltb a (k + 1) (omega arith))
    go (inr h) (inr e) = rw (le-ltb a k h, ne_eqb a k e, le-ltb a (k + 1) (omega arith))

part_more : (o w : Bool) (a k : ℕ) → (o || (w && ltb a k) || (w && eqb a k)) ≡ (o || (w && ltb a (k + 1)))
part_more o w a k =
    or_assoc o (w && ltb a k) (w && eqb a k)
    ∙ ap (λ (b : Bool). o || b) (sym (and-or_distrib_left w (ltb a k) (eqb a k)) ∙ ap (λ (b : Bool). w && b) (below_more a k))

part_all : (o w t : Bool) → t ≡ true → (o || (w && t)) ≡ (o || w)
part_all o true t e = rw e
part_all o false t e = refl

module _ (old w : ℕ → ℕ → Bool) (n : ℕ → ℕ → ℕ) where
  abbrev pub parts : ℕ → ℕ → ℕ → Bool
  parts k x y = old x y || (w x y && ltb (n x y) k)

  pub parts_more : (k : ℕ) → pack (λ x y. parts k x y || (w x y && eqb (n x y) k)) ≡ pack (parts (k + 1))
  parts_more k = pack_ext _ _ (λ x y hx hy. part_more (old x y) (w x y) (n x y) k)

  pub parts_all : (k : ℕ) → ((x y : ℕ) → x < 128 → y < 64 → n x y < k) → pack (parts k) ≡ pack (λ x y. old x y || w x y)
  parts_all k h = pack_ext _ _ (λ x y hx hy. part_all (old x y) (w x y) _ (lt-ltb (n x y) k (h x y hx hy)))
