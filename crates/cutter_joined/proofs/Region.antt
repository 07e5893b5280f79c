-- A right labelling numbers the regions, and there is one. Assumes nothing.
use mathlib.Core.Path.{◌≡◌, refl, sym, ◌∙◌}
use mathlib.Core.List.{List}
use Prim.Native.Nat.{ℕ}
use native.Mathlib.Omega.{arith}
use lib.ListN.{length, get_or}
use Rattle.cutter_ground.specs.Cells.{CN}
use Rattle.cutter_joined.specs.Joined.{Black, Joined, Right}
use Rattle.cutter_joined.specs.Region.{Region, Numbers, Labelled}
use Rattle.cutter_joined.proofs.Joined.{black_in_lem, black-first, joined_sym, joined_trans, right_le, right-same, right_root, right-joined, right-black, right_unique}
use Rattle.cutter_joined.proofs.Labels.{right_exists}

module _ (g L : List ℕ) (long : length g ≡ CN) (R : Right g L) where
  -- a cell with a black cell's number is black
  numbered-black : (c d : ℕ) → Black g c → get_or L d CN ≡ get_or L c CN → Black g d
  numbered-black c d k e = right-black R d (omega (arith, e, right_le R c k, black_in_lem g c k, long))

  numbered-region : (c : ℕ) → Black g c → Region g (λ d. get_or L d CN ≡ get_or L c CN)
  numbered-region c k =
      record {
        cell = c;
        has = refl;
        together = λ a b ea eb. right-joined R a b (numbered-black c a k ea) (numbered-black c b k eb) (ea ∙ sym eb);
        largest = λ S' t sub d s. sym (right-same R c d (t c d (sub c refl) s));
      }

  -- a region is all that is joined to a cell of it
  filled : (S : ℕ → Type 0) (ρ : Region g S) (d : ℕ) → Joined g ρ.cell d → S d
  filled S ρ =
      ρ.largest (λ d. Joined g ρ.cell d) (λ a b ja jb. joined_trans (joined_sym ja) jb) (λ c s. ρ.together ρ.cell c ρ.has s)

  every-region : (S : ℕ → Type 0) → Region g S → (r : ℕ) × (S r × (((c : ℕ) → S c → get_or L c CN ≡ r) × ((c : ℕ) → get_or L c CN ≡ r → S c)))
  every-region S ρ =
      let c : ℕ = ρ.cell in
      let k : Black g c = black-first (ρ.together c c ρ.has ρ.has) in (
        get_or L c CN,
        (
          filled S ρ (get_or L c CN) (joined_sym (R.own c k)),
          (λ d s. sym (right-same R c d (ρ.together c d ρ.has s)), λ d e. filled S ρ d (right-joined R c d k (numbered-black c d k e) (sym e))),
        ),
      )

  right-numbers : Numbers g L
  right-numbers =
      record {
        region = numbered-region;
        within = right_root R;
        earliest = λ c d k e. omega (arith, e, right_le R d (numbered-black c d k e));
        every = every-region;
      }

pub labelled : Labelled
labelled =
    record {
      one = λ g long. let e = right_exists g long in (e.0, (e.1, λ L' R. right_unique R e.1));
      numbers = right-numbers;
    }
