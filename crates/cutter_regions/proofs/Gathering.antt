-- Gathering a region: a turn of the loop, and that it is what the search leaves. Assumes nothing.
use mathlib.Core.Path.{◌≡◌, refl, sym, ap, ◌∙◌}
use mathlib.Core.List.{List}
use mathlib.Core.Logic.{inl, inr, ⊎_elim}
use Prim.Native.Nat.{ℕ, ◌+◌, ◌≤◌, ◌<◌}
use native.Mathlib.Omega.{arith}
use borrow.Author.Count.{below_more}
use lib.ListN.{length, get_or, set, length-set, get_or-eq_default}
use lib.Seq.{get_or-set_same, get_or-set_other}
use Rattle.laws.specs.Lists.{tally}
use Rattle.laws.proofs.Choice.{same?, below?}
use Rattle.laws.proofs.Counts.{tally_lose}
use Rattle.cutter_ground.specs.Cells.{CN}
use Rattle.cutter_ground.specs.CodeVisit.{SEEN}
use Rattle.cutter_joined.specs.Joined.{Joined, Right}
use Rattle.cutter_joined.proofs.Joined.{black_in_lem, right-same, right-joined, right-black}
use Rattle.cutter_regions.specs.CodeSeeking.{Queued, Sought}
use Rattle.cutter_regions.specs.CodeGathering.{Bare, Gathered, Findable}

pub gathered_start : {L seen q : List ℕ} {n s : ℕ} → Bare L seen q n s → Gathered L seen q n s seen q n 0
gathered_start b =
    record {
      len = b.len;
      long = b.long;
      begun = omega arith;
      front = λ k h. refl;
      past = λ c h. absurd (omega arith);
      other = λ c h. refl;
      ahead = λ c h. refl;
      theirs = λ k h f. absurd (omega arith);
      once = λ i j h _ f. absurd (omega arith);
      left_over = refl;
    }

module _ {L seen₀ q₀ : List ℕ} {n s : ℕ} (b : Bare L seen₀ q₀ n s) {seen q : List ℕ} {t e : ℕ} (m : Gathered L seen₀ q₀ n s seen q t e) (inn : e < CN) where
  pub gathered_pass : (get_or L e CN ≡ s → ⊥) → Gathered L seen₀ q₀ n s seen q t (e + 1)
  gathered_pass d =
      record {
        len = m.len;
        long = m.long;
        begun = m.begun;
        front = m.front;
        past = below_more (λ c. get_or L c CN ≡ s → (get_or seen c 0 ≡ SEEN) × Queued q n t c) e m.past (λ z. absurd (d z));
        other = m.other;
        ahead = λ c h. m.ahead c (omega arith);
        theirs = λ k h f. let o = m.theirs k h f in (o.0, let z = o.1 in omega arith);
        once = m.once;
        left_over = m.left_over;
      }

  module _ (d : get_or L e CN ≡ s) where
    free : get_or seen e 0 ≡ 0
    free = m.ahead e (omega arith) ∙ b.fresh e d

    loses : tally 0 seen ≡ 1 + tally 0 (set seen e SEEN)
    loses = let z = tally_lose seen e 0 SEEN (omega (arith, m.len)) free (λ i. omega arith) in omega arith

    pub gathered_room : t < CN
    gathered_room = omega (arith, loses, m.left_over, b.room)

    end : t < length q
    end = omega (arith, gathered_room, m.long)

    front_of : (k : ℕ) → k < t → get_or (set q t e) k 0 ≡ get_or q k 0
    front_of k h = get_or-set_other q t k e 0 (λ z. omega arith)

    new : (i j : ℕ) → i < t → n ≤ i → t ≤ j → j < t + 1 → get_or (set q t e) i 0 ≡ get_or (set q t e) j 0 → ⊥
    new i j h f k l z =
        let y : j ≡ t = omega arith in
        let x : get_or q i 0 ≡ e = sym (front_of i h) ∙ z ∙ ap (λ (v : ℕ). get_or (set q t e) v 0) y ∙ get_or-set_same q t e 0 end in
        let w = (m.theirs i h f).1 in
        omega arith

    pub gathered_hit : Gathered L seen₀ q₀ n s (set seen e SEEN) (set q t e) (t + 1) (e + 1)
    gathered_hit =
        record {
          len = length-set seen e SEEN ∙ m.len;
          long = length-set q t e ∙ m.long;
          begun = omega (arith, m.begun);
          front = λ k h. front_of k (omega (arith, m.begun)) ∙ m.front k h;
          past =
              below_more (λ c. get_or L c CN ≡ s → (get_or (set seen e SEEN) c 0 ≡ SEEN) × Queued (set q t e) n (t + 1) c) e
              (λ c h z.
              let o = m.past c h z in
              let p = o.1 in
              let l = p.2 in
              (get_or-set_other seen e c SEEN 0 (λ y. omega arith) ∙ o.0, (p.0, p.1, omega arith, front_of p.0 p.2 ∙ p.3)))
              (λ z. (get_or-set_same seen e SEEN 0 (omega (arith, m.len)), (t, m.begun, omega arith, get_or-set_same q t e 0 end)));
          other = λ c h. get_or-set_other seen e c SEEN 0 (λ z. h (ap (λ (v : ℕ). get_or L v CN) z ∙ d)) ∙ m.other c h;
          ahead = λ c h. get_or-set_other seen e c SEEN 0 (λ z. omega arith) ∙ m.ahead c (omega arith);
          theirs =
              below_more (λ k. n ≤ k → (get_or L (get_or (set q t e) k 0) CN ≡ s) × (get_or (set q t e) k 0 < e + 1)) t
              (λ k h f. let o = m.theirs k h f in let z = o.1 in (ap (λ (v : ℕ). get_or L v CN) (front_of k h) ∙ o.0, omega (arith, front_of k h)))
              (λ f. let z = get_or-set_same q t e 0 end in (ap (λ (v : ℕ). get_or L v CN) z ∙ d, omega arith));
          once = λ i j hi hj fi fj z.
              ⊎_elim
              (λ li. ⊎_elim (λ lj. m.once i j li lj fi fj (sym (front_of i li) ∙ z ∙ front_of j lj)) (λ lj. absurd (new i j li fi lj hj z)) (below? j t))
              (λ li. ⊎_elim (λ lj. absurd (new j i lj fj li hi (sym z))) (λ lj. omega arith) (below? j t)) (below? i t);
          left_over = omega (arith, loses, m.left_over);
        }

-- ---- where the numbers are right, a gathered region is a searched one

module _ {g L seen₀ q₀ : List ℕ} {n s : ℕ} (f : Findable g L seen₀ q₀ n s) (l : length L ≡ CN) where
  R : Right g L
  R = (f.numbered l).0

  inn : s < CN
  inn = omega (arith, f.ready.cells, black_in_lem g s f.ready.black)

  label : (c : ℕ) → Joined g s c → get_or L c CN ≡ s
  label c j = sym (right-same R s c j) ∙ (f.numbered l).1

  joined : (c : ℕ) → get_or L c CN ≡ s → Joined g s c
  joined c z = right-joined R s c f.ready.black (right-black R c (omega (arith, inn))) ((f.numbered l).1 ∙ sym z)

  cell : (c : ℕ) → get_or L c CN ≡ s → c < CN
  cell c z = ⊎_elim (λ h. h) (λ h. absurd (omega (arith, inn, get_or-eq_default L CN {n = c} (omega (arith, l))))) (below? c CN)

  pub findable_bare : Bare L seen₀ q₀ n s
  findable_bare = let r = f.ready in record { nums = l; len = r.len; long = r.long; inn = inn; fresh = λ c z. r.fresh c (joined c z); room = r.room }

  pub gathered_sought : {seen q : List ℕ} {t : ℕ} → Gathered L seen₀ q₀ n s seen q t CN → Sought g seen₀ q₀ n s seen q t
  gathered_sought {q = q} m =
      record {
        len = m.len;
        long = m.long;
        all = λ c j. (m.past c (cell c (label c j)) (label c j)).0;
        only = λ c. ⊎_elim (λ z. inr (joined c z)) (λ z. inl (m.other c z)) (same? (get_or L c CN) s);
        front = m.front;
        theirs = λ x h f. joined (get_or q x 0) (m.theirs x h f).0;
        queued = λ c j. (m.past c (cell c (label c j)) (label c j)).1;
        once = m.once;
        left_over = m.left_over;
      }
