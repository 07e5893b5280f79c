-- One region's search: what holds in its middle, that a visit keeps it, and what it leaves. Assumes nothing.
use mathlib.Core.Path.{◌≡◌, refl, sym, ap, subst, ◌∙◌}
use mathlib.Core.List.{List}
use mathlib.Core.Logic.{◌⊎◌, inl, inr, ⊎_elim}
use Prim.Native.Nat.{ℕ, ◌+◌, ◌≤◌, ◌<◌}
use native.Mathlib.Omega.{arith}
use borrow.Author.Count.{below_more}
use lib.ListN.{length, get_or, set}
use lib.Seq.{get_or-set_same, get_or-set_other, set-set, set-get_or}
use Rattle.laws.specs.Lists.{tally}
use Rattle.laws.proofs.Choice.{same?, below?}
use Rattle.laws.proofs.Lists.{get_or_default}
use Rattle.laws.proofs.Counts.{tally_lose}
use Rattle.cutter_ground.specs.Cells.{CN, CB_BLACK, CB_FILLED}
use Rattle.cutter_ground.specs.CodeVisit.{SEEN, Holds, Room, Visited, Around}
use Rattle.cutter_ground.proofs.Visits.{holds_in, room-kept}
use Rattle.cutter_joined.specs.Joined.{Black, Next, Joined, here, step}
use Rattle.cutter_joined.proofs.Joined.{black_in_lem, black_last, closed}
use Rattle.cutter_joined.proofs.Steps.{left-next, right-next, up_next, down-next, one_of}
use Rattle.cutter_regions.specs.CodeSeeking.{Ready, Queued, Sought}

-- a visit's test and `Black` say the same
holds-black : (g : List ℕ) (c : ℕ) → Holds g CB_BLACK c → Black g c
holds-black g c h = get_or_default g c CB_FILLED 3 (holds_in g CB_BLACK c (omega arith) h) ∙ h

black-holds : (g : List ℕ) (c : ℕ) → Black g c → Holds g CB_BLACK c
black-holds g c k = get_or_default g c 3 CB_FILLED (black_in_lem g c k) ∙ k

-- seen₀ and q₀ are the tables before the region of s was begun at the queue's place n, t is the end of the queue
pub record Mid (g seen₀ q₀ : List ℕ) (n s : ℕ) (seen q : List ℕ) (t : ℕ) : Type 0 where
  pub room : Room g seen q t CB_BLACK
  pub begun : n ≤ t
  pub front : (k : ℕ) → k < n → get_or q k 0 ≡ get_or q₀ k 0
  pub theirs : (k : ℕ) → k < t → n ≤ k → Joined g s (get_or q k 0)
  pub kept : (c : ℕ) → (get_or seen c 0 ≡ get_or seen₀ c 0) ⊎ ((get_or seen c 0 ≡ SEEN) × Queued q n t c)
  pub marked : (k : ℕ) → k < t → n ≤ k → get_or seen (get_or q k 0) 0 ≡ SEEN
  pub once : (i j : ℕ) → i < t → j < t → n ≤ i → n ≤ j → get_or q i 0 ≡ get_or q j 0 → i ≡ j
  pub left_over : t + tally 0 seen ≡ n + tally 0 seen₀

-- marks stay once given, and the queue only grows at its end
pub record Grown (seen q : List ℕ) (t : ℕ) (seen' q' : List ℕ) (t' : ℕ) : Type 0 where
  pub keep : (c : ℕ) → (get_or seen c 0 ≡ 0 → ⊥) → get_or seen' c 0 ≡ get_or seen c 0
  pub front : (k : ℕ) → k < t → get_or q' k 0 ≡ get_or q k 0
  pub more : t ≤ t'

-- what a store leaves at a place
pub put : (l : List ℕ) (i v c : ℕ) → i < length l → ((c ≡ i) × (get_or (set l i v) c 0 ≡ v)) ⊎ ((c ≡ i → ⊥) × (get_or (set l i v) c 0 ≡ get_or l c 0))
put l i v c h =
    ⊎_elim (λ e. inl (e, subst (λ (n : ℕ). get_or (set l i v) n 0 ≡ v) (sym e) (get_or-set_same l i v 0 h)))
    (λ n. inr (n, get_or-set_other l i c v 0 n)) (same? c i)

module _ {g seen₀ q₀ : List ℕ} {n s : ℕ} {seen q : List ℕ} {t : ℕ} (m : Mid g seen₀ q₀ n s seen q t) (at : ℕ) (fresh : get_or seen at 0 ≡ 0) (j : Joined g s at)
    (inn : at < length seen) (end : t < length q) where
  push_front : (k : ℕ) → k < n → get_or (set q t at) k 0 ≡ get_or q₀ k 0
  push_front k h = get_or-set_other q t k at 0 (λ e. omega (arith, m.begun)) ∙ m.front k h

  push_theirs : (k : ℕ) → k < t + 1 → n ≤ k → Joined g s (get_or (set q t at) k 0)
  push_theirs =
      below_more (λ k. n ≤ k → Joined g s (get_or (set q t at) k 0)) t
      (λ k h f. subst (Joined g s) (sym (get_or-set_other q t k at 0 (λ e. omega arith))) (m.theirs k h f))
      (λ f. subst (Joined g s) (sym (get_or-set_same q t at 0 end)) j)

  push_kept : (c : ℕ) → (get_or (set seen at SEEN) c 0 ≡ get_or seen₀ c 0) ⊎ ((get_or (set seen at SEEN) c 0 ≡ SEEN) × Queued (set q t at) n (t + 1) c)
  push_kept c =
      ⊎_elim (λ w. inr (w.1, (t, m.begun, omega arith, get_or-set_same q t at 0 end ∙ sym w.0)))
      (λ w. ⊎_elim (λ k. inl (w.1 ∙ k))
      (λ k. let o = k.1 in let h = o.2 in inr (w.1 ∙ k.0, (o.0, o.1, omega arith, get_or-set_other q t o.0 at 0 (λ z. omega arith) ∙ o.3)))
      (m.kept c))
      (put seen at SEEN c inn)

  push_marked : (k : ℕ) → k < t + 1 → n ≤ k → get_or (set seen at SEEN) (get_or (set q t at) k 0) 0 ≡ SEEN
  push_marked =
      below_more (λ k. n ≤ k → get_or (set seen at SEEN) (get_or (set q t at) k 0) 0 ≡ SEEN) t
      (λ k h f. rw (get_or-set_other q t k at 0 (λ e. omega arith)) (⊎_elim (λ w. w.1) (λ w. w.1 ∙ m.marked k h f) (put seen at SEEN (get_or q k 0) inn)))
      (λ f. rw (get_or-set_same q t at 0 end) (get_or-set_same seen at SEEN 0 inn))

  -- what stood on the queue before is another cell
  push_new : (i j : ℕ) → i < t → n ≤ i → t ≤ j → j < t + 1 → get_or (set q t at) i 0 ≡ get_or (set q t at) j 0 → ⊥
  push_new i j h f k l e =
      let y : j ≡ t = omega arith in
      let z : get_or q i 0 ≡ at = sym (get_or-set_other q t i at 0 (λ e. omega arith)) ∙ e ∙ ap (λ (x : ℕ). get_or (set q t at) x 0) y ∙ get_or-set_same q t at 0 end in
      omega (arith, m.marked i h f, ap (λ (x : ℕ). get_or seen x 0) z, fresh)

  push_once : (i j : ℕ) → i < t + 1 → j < t + 1 → n ≤ i → n ≤ j → get_or (set q t at) i 0 ≡ get_or (set q t at) j 0 → i ≡ j
  push_once i j hi hj fi fj e =
      ⊎_elim
      (λ li. ⊎_elim
      (λ lj. m.once i j li lj fi fj (sym (get_or-set_other q t i at 0 (λ e. omega arith)) ∙ e ∙ get_or-set_other q t j at 0 (λ e. omega arith)))
      (λ lj. absurd (push_new i j li fi lj hj e)) (below? j t))
      (λ li. ⊎_elim (λ lj. absurd (push_new j i lj fj li hi (sym e))) (λ lj. omega arith) (below? j t)) (below? i t)

  push_left : tally 0 (set seen at SEEN) + (t + 1) ≡ n + tally 0 seen₀
  push_left =
      let e = tally_lose seen at 0 SEEN inn fresh (λ i. omega arith) in
      omega (arith, m.left_over)

pub visited_mid : {g seen₀ q₀ : List ℕ} {n s : ℕ} {seen q : List ℕ} {t at : ℕ} {seen' q' : List ℕ} {t' : ℕ} → Mid g seen₀ q₀ n s seen q t → (Black g at → Joined g s at)
    → Visited g seen q t at CB_BLACK seen' q' t' → Mid g seen₀ q₀ n s seen' q' t'
visited_mid {g} {seen₀} {q₀} {n} {s} {seen} {q} {t} {at} {seen'} {q'} {t'} m j (inl p) =
    let r : Room g seen' q' t' CB_BLACK = room-kept m.room (inl p) in
    let inn : at < length seen = omega (arith, m.room, black_in_lem g at (holds-black g at p.holds)) in
    let end : t < length q = omega (arith, m.room.queue, r.room, p.tail) in
    let jo = j (holds-black g at p.holds) in
    record {
      room = r;
      begun = omega (arith, m.begun, p.tail);
      front = rw p.queue (push_front m at p.fresh jo inn end);
      theirs = rw (p.queue, p.tail) (push_theirs m at p.fresh jo inn end);
      kept = rw (p.marks, p.queue, p.tail) (push_kept m at p.fresh jo inn end);
      marked = rw (p.marks, p.queue, p.tail) (push_marked m at p.fresh jo inn end);
      once = rw (p.queue, p.tail) (push_once m at p.fresh jo inn end);
      left_over = (let e : tally 0 seen' ≡ tally 0 (set seen at SEEN) = ap (tally 0) p.marks in omega (arith, push_left m at p.fresh jo inn end, p.tail));
    }
visited_mid m j (inr p) = rw (p.marks, p.queue, p.tail) m

pub visited_grown : {g seen q : List ℕ} {t at : ℕ} {seen' q' : List ℕ} {t' : ℕ} → Visited g seen q t at CB_BLACK seen' q' t' → Grown seen q t seen' q' t'
visited_grown {g} {seen} {q} {t} {at} {seen'} {q'} {t'} (inl p) =
    record {
      keep = λ c n. rw p.marks (get_or-set_other seen at c SEEN 0 (λ e. n (ap (λ (i : ℕ). get_or seen i 0) e ∙ p.fresh)));
      front = λ k h. rw p.queue (get_or-set_other q t k at 0 (λ e. omega arith));
      more = omega (arith, p.tail);
    }
visited_grown {q = q} {q' = q'} (inr p) =
    record { keep = λ c n. rw p.marks; front = λ k h. rw p.queue; more = omega (arith, p.tail) }

pub visited_covers : {g seen q : List ℕ} {t at : ℕ} {seen' q' : List ℕ} {t' : ℕ} → Room g seen q t CB_BLACK → Visited g seen q t at CB_BLACK seen' q' t' → Black g at
    → get_or seen' at 0 ≡ 0 → ⊥
visited_covers {g} {seen} {q} {t} {at} r (inl p) k e =
    let inn : at < length seen = omega (arith, r, black_in_lem g at (holds-black g at p.holds)) in
    omega (arith, ap (λ (l : List ℕ). get_or l at 0) p.marks, get_or-set_same seen at SEEN 0 inn)
visited_covers {g} {at = at} r (inr p) k e = p.why (black-holds g at k) (sym (ap (λ (l : List ℕ). get_or l at 0) p.marks) ∙ e)

pub grown_trans : {seen₁ q₁ : List ℕ} {t₁ : ℕ} {seen₂ q₂ : List ℕ} {t₂ : ℕ} {seen₃ q₃ : List ℕ} {t₃ : ℕ} → Grown seen₁ q₁ t₁ seen₂ q₂ t₂ → Grown seen₂ q₂ t₂ seen₃ q₃ t₃
    → Grown seen₁ q₁ t₁ seen₃ q₃ t₃
grown_trans a b =
    record {
      keep = λ c n. b.keep c (λ e. n (sym (a.keep c n) ∙ e)) ∙ a.keep c n;
      front = λ k h. b.front k (omega (arith, a.more)) ∙ a.front k h;
      more = omega (arith, a.more, b.more);
    }

-- after the four visits the middle stands again, and each black neighbour has a mark
pub record Turned (g seen₀ q₀ : List ℕ) (n s at : ℕ) (seen q : List ℕ) (t : ℕ) (seen' q' : List ℕ) (t' : ℕ) : Type 0 where
  pub mid : Mid g seen₀ q₀ n s seen' q' t'
  pub grown : Grown seen q t seen' q' t'
  pub covers : (d : ℕ) → Next at d → Black g d → get_or seen' d 0 ≡ 0 → ⊥

-- what has a mark keeps it
stays : {seen q : List ℕ} {t : ℕ} {seen' q' : List ℕ} {t' : ℕ} → Grown seen q t seen' q' t' → (c : ℕ) → (get_or seen c 0 ≡ 0 → ⊥) → get_or seen' c 0 ≡ 0 → ⊥
stays w c n e = n (sym (w.keep c n) ∙ e)

pub around_turned : {g seen₀ q₀ : List ℕ} {n s at : ℕ} {seen q : List ℕ} {t : ℕ} {seen' q' : List ℕ} {t' : ℕ} → Mid g seen₀ q₀ n s seen q t → Joined g s at
    → Around g seen q t at CB_BLACK seen' q' t' → Turned g seen₀ q₀ n s at seen q t seen' q' t'
around_turned {g} {seen₀} {q₀} {n} {s} {at} {seen} {q} {t} {seen'} {q'} {t'} m j a =
    let long = m.room.cells in
    let m₁ : Mid g seen₀ q₀ n s a.seen₁ a.q₁ a.t₁ = visited_mid m (λ k. step j (left-next g long at k) k) a.first in
    let m₂ : Mid g seen₀ q₀ n s a.seen₂ a.q₂ a.t₂ = visited_mid m₁ (λ k. step j (right-next g long at k) k) a.second in
    let m₃ : Mid g seen₀ q₀ n s a.seen₃ a.q₃ a.t₃ = visited_mid m₂ (λ k. step j (up_next g long at k) k) a.third in
    let m₄ : Mid g seen₀ q₀ n s seen' q' t' = visited_mid m₃ (λ k. step j (down-next g long at k) k) a.fourth in
    let w₁ : Grown seen q t a.seen₁ a.q₁ a.t₁ = visited_grown a.first in
    let w₂ : Grown a.seen₁ a.q₁ a.t₁ a.seen₂ a.q₂ a.t₂ = visited_grown a.second in
    let w₃ : Grown a.seen₂ a.q₂ a.t₂ a.seen₃ a.q₃ a.t₃ = visited_grown a.third in
    let w₄ : Grown a.seen₃ a.q₃ a.t₃ seen' q' t' = visited_grown a.fourth in
    record {
      mid = m₄;
      grown = grown_trans w₁ (grown_trans w₂ (grown_trans w₃ w₄));
      covers = λ d n k e.
          one_of g long at (λ d. Black g d → get_or seen' d 0 ≡ 0 → ⊥)
          (λ k. stays w₄ _ (stays w₃ _ (stays w₂ _ (visited_covers m.room a.first k))))
          (λ k. stays w₄ _ (stays w₃ _ (visited_covers m₁.room a.second k)))
          (λ k. stays w₄ _ (visited_covers m₂.room a.third k))
          (λ k. visited_covers m₃.room a.fourth k)
          d n k k e;
    }

-- ---- one whole search

pub record Searching (g seen₀ q₀ : List ℕ) (n s : ℕ) (seen q : List ℕ) (head t : ℕ) : Type 0 where
  pub mid : Mid g seen₀ q₀ n s seen q t
  pub first : get_or seen s 0 ≡ SEEN
  pub begun : n ≤ head
  pub order : head ≤ t
  pub done : (k : ℕ) → k < head → n ≤ k → (d : ℕ) → Next (get_or q k 0) d → Black g d → get_or seen d 0 ≡ 0 → ⊥

module _ {g seen₀ q₀ : List ℕ} {n s : ℕ} (r : Ready g seen₀ q₀ n s) where
  pub ready_in : s < CN
  ready_in = omega (arith, r.cells, black_in_lem g s r.black)

  -- the start is free, so the queue has room for it
  pub ready-room : n < CN
  ready-room = omega (arith, r.room, r.len, ready_in, tally_lose seen₀ s 0 SEEN (omega (arith, r.len, ready_in)) (r.fresh s (here r.black)) (λ e. omega arith))

  start_mid : Mid g seen₀ q₀ n s seen₀ q₀ n
  start_mid =
      record {
        room = record { cells = r.cells; marks = r.len; queue = r.long; kind = omega arith; room = r.room };
        begun = omega arith;
        front = λ k h. refl;
        theirs = λ k h f. absurd (omega arith);
        kept = λ c. inl refl;
        marked = λ k h f. absurd (omega arith);
        once = λ i j h _ f _ _. absurd (omega arith);
        left_over = refl;
      }

  pub search_start : Searching g seen₀ q₀ n s (set seen₀ s SEEN) (set q₀ n s) n (n + 1)
  search_start =
      record {
        mid = visited_mid start_mid (λ k. here k)
            (inl (record { holds = black-holds g s r.black; fresh = r.fresh s (here r.black); marks = refl; queue = refl; tail = refl }));
        first = get_or-set_same seen₀ s SEEN 0 (omega (arith, r.len, ready_in));
        begun = omega arith;
        order = omega arith;
        done = λ k h f. absurd (omega arith);
      }

  pub head_joined : {seen q : List ℕ} {head t : ℕ} → Searching g seen₀ q₀ n s seen q head t → head < t → Joined g s (get_or q head 0)
  head_joined {head = head} i h = i.mid.theirs head h i.begun

  pub search_turn : {seen q : List ℕ} {head t : ℕ} {seen' q' : List ℕ} {t' : ℕ} → Searching g seen₀ q₀ n s seen q head t → head < t
      → Around g seen q t (get_or q head 0) CB_BLACK seen' q' t' → Searching g seen₀ q₀ n s seen' q' (head + 1) t'
  search_turn {seen} {q} {head} {t} {seen'} {q'} {t'} i h a =
      let w = around_turned i.mid (head_joined i h) a in
      record {
        mid = w.mid;
        first = w.grown.keep s (λ e. omega (arith, i.first)) ∙ i.first;
        begun = omega (arith, i.begun);
        order = omega (arith, w.grown.more);
        done =
            below_more (λ k. n ≤ k → (d : ℕ) → Next (get_or q' k 0) d → Black g d → get_or seen' d 0 ≡ 0 → ⊥) head
            (λ k l f d m b. stays w.grown d (i.done k l f d (subst (λ (c : ℕ). Next c d) (w.grown.front k (omega arith)) m) b))
            (λ f d m b. w.covers d (subst (λ (c : ℕ). Next c d) (w.grown.front head h) m) b);
      }

  module _ {seen q : List ℕ} {head t : ℕ} (i : Searching g seen₀ q₀ n s seen q head t) where
    -- a marked cell of the region stands on the queue
    on_queue : (c : ℕ) → Joined g s c → (get_or seen c 0 ≡ 0 → ⊥) → (get_or seen c 0 ≡ SEEN) × Queued q n t c
    on_queue c j f = ⊎_elim (λ k. absurd (f (k ∙ r.fresh c j))) (λ k. k) (i.mid.kept c)

    whole : t ≤ head → (c : ℕ) → Joined g s c → (get_or seen c 0 ≡ SEEN) × Joined g s c
    whole h c =
        closed (λ c. (get_or seen c 0 ≡ SEEN) × Joined g s c) (i.first, here r.black)
        (λ c d e m b.
        let o = (on_queue c e.1 (λ z. let y = e.0 in omega arith)).1 in
        let l = o.2 in
        let f = i.done o.0 (omega arith) o.1 d (subst (λ (c : ℕ). Next c d) (sym o.3) m) b in
        let j = step e.1 m b in
        ((on_queue d j f).0, j))

    pub search_end : t ≤ head → Sought g seen₀ q₀ n s seen q t
    search_end h =
        record {
          len = i.mid.room.marks;
          long = i.mid.room.queue;
          all = λ c j. (whole h c j).0;
          only = λ c. ⊎_elim (λ k. inl k) (λ k. inr (let o = k.1 in subst (Joined g s) o.3 (i.mid.theirs o.0 o.2 o.1))) (i.mid.kept c);
          front = i.mid.front;
          theirs = i.mid.theirs;
          queued = λ c j. (on_queue c j (λ z. let y = (whole h c j).0 in omega arith)).1;
          once = i.mid.once;
          left_over = i.mid.left_over;
        }

    pub head_in : head < t → get_or q head 0 < CN
    head_in h = omega (arith, r.cells, black_in_lem g (get_or q head 0) (black_last (head_joined i h)))

    pub tail_in : t ≤ CN
    tail_in = omega (arith, i.mid.room.room)

  -- the start's store, undone
  pub undo : set (set seen₀ s SEEN) s 0 ≡ seen₀
  undo = set-set seen₀ s SEEN 0 ∙ ap (set seen₀ s) (sym (r.fresh s (here r.black))) ∙ set-get_or seen₀ s 0

-- another list with the same front
rebase : {g seen₀ q₀ q₁ : List ℕ} {n s : ℕ} {seen q : List ℕ} {head t : ℕ} → Searching g seen₀ q₀ n s seen q head t → ((k : ℕ) → k < n → get_or q₀ k 0 ≡ get_or q₁ k 0)
    → Searching g seen₀ q₁ n s seen q head t
rebase i f =
    record {
      mid = record {
        room = i.mid.room;
        begun = i.mid.begun;
        front = λ k h. i.mid.front k h
            ∙ f k h;
        theirs = i.mid.theirs;
        kept = i.mid.kept;
        marked = i.mid.marked;
        once = i.mid.once;
        left_over = i.mid.left_over;
      };
      first = i.first;
      begun = i.begun;
      order = i.order;
      done = i.done;
    }

-- what stands on the queue before n, where the start's store has been made
pub search_again : {g seen₀ q₀ : List ℕ} {n s : ℕ} {seen q : List ℕ} {head t : ℕ} → Searching g seen₀ q₀ n s seen q head t → Searching g seen₀ (set q₀ n s) n s seen q head t
search_again {g} {seen₀} {q₀} {n} {s} i = rebase i (λ k h. sym (get_or-set_other q₀ n k s 0 (λ e. omega arith)))

pub search_back : {g seen₀ q₀ : List ℕ} {n s : ℕ} {seen q : List ℕ} {head t : ℕ} → Searching g seen₀ (set q₀ n s) n s seen q head t → Searching g seen₀ q₀ n s seen q head t
search_back {g} {seen₀} {q₀} {n} {s} i = rebase i (λ k h. get_or-set_other q₀ n k s 0 (λ e. omega arith))
