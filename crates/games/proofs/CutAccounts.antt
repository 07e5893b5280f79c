-- The accounts of P9 and P11: the calls play the cut of Cut.antt, whose claimed cells and creatures are known. Assumes nothing.
use mathlib.Core.Bool.{true}
use mathlib.Core.List.{List, [], ◌∷◌}
use mathlib.Core.Path.{◌≡◌, refl, sym, ap, subst, ◌∙◌}
use Prim.Native.Nat.{ℕ, zero, suc, ◌+◌}
use native.Mathlib.Omega.{arith}
use lib.ListN.{replicate}
use Rattle.refusal.specs.Refusal.{number_given, DRAWS, unless, ◌then◌}
use Rattle.refusal.proofs.Calls.{answered_by}
use Rattle.cutter_state.specs.declared.Cutter.{Cutter}
use Rattle.cutter_state.specs.Change.{with_level, with_lives}
use Rattle.cutter_state.specs.State.{claimed_in}
use Rattle.cutter_state.specs.WellFormed.{MAX_LIVES, WellFormed, refusal_of}
use Rattle.cutter_state.proofs.Facts.{from_facts, well_formed-none}
use Rattle.cutter_rules.specs.Level.{creatures_of, in_range, draws_ok, at_start, fresh_level}
use Rattle.cutter_rules.specs.Step.{directed, stepped}
use Rattle.cutter_keeps.specs.Kept.{Fresh}
use Rattle.cutter_keeps.proofs.Direction.{direction-kept}
use Rattle.cutter_keeps.proofs.Accounts.{step_accounts}
use Rattle.cutter.specs.declared.calls.CutterAnswer.{CutterAnswer}
use Rattle.cutter.specs.Calls.{refused, answered, zeros, FIRST_LEVEL, round_call, level_call}
use Rattle.games.specs.CutterCalls.{Round, Level, Direction, Step, Play, called, after, goes_on}
use Rattle.games.specs.Cases.{again, cut_down}
use Rattle.games.specs.CutAccounts.{cut_calls, Account, CutAccounts}
use Rattle.games.proofs.CutterCalls.{round-fresh, call_fresh, step-plays, direction-plays}
use Rattle.games.proofs.CutterAccounts.{cutter_accounts}
use Rattle.games.proofs.Cut as Cut
use Rattle.controls.specs.Keys.{DOWN}

abbrev game : {a b : CutterAnswer} → a ≡ b → a.game ≡ b.game
game e = ap (λ (a : CutterAnswer). a.game) e

again_inner : (k : ℕ) (f : Cutter → Cutter) (c : Cutter) → again k f (f c) ≡ again (suc k) f c
again_inner zero f c = refl
again_inner (suc k) f c = ap f (again_inner k f c)

-- ---- the calls play the steps

step-play : (p : Play) → WellFormed p.game → (called p Step).play.game ≡ stepped p.game
unfolding called
step-play p w = game (step-plays p.game w)

turn_play : (p : Play) → WellFormed p.game → (called p (Direction DOWN)).play.game ≡ directed p.game DOWN
unfolding called
turn_play p w = game (direction-plays p.game w DOWN refl)

steps-after : (k : ℕ) (p : Play) → WellFormed p.game → (after p (replicate k Step)).game ≡ again k stepped p.game
unfolding after
steps-after zero p w = refl
steps-after (suc k) p w =
    let e = step-play p w in
    steps-after k (called p Step).play (subst WellFormed (sym e) (step_accounts p.game w).formed) ∙ ap (again k stepped) e ∙ again_inner k stepped p.game

steps_go : (k : ℕ) (p : Play) → goes_on p (replicate k Step) ≡ true
unfolding goes_on called
steps_go zero p = refl
steps_go (suc k) p = steps_go k (called p Step).play

cut-goes : (p : Play) → goes_on p cut_calls ≡ true
unfolding goes_on called
cut-goes p = steps_go 31 (called p (Direction DOWN)).play

cut-after : (p : Play) → WellFormed p.game → (after p cut_calls).game ≡ again 31 stepped (directed p.game DOWN)
unfolding after
cut-after p w =
    let e = turn_play p w in
    steps-after 31 (called p (Direction DOWN)).play (subst WellFormed (sym e) (direction-kept p.game DOWN w).formed) ∙ ap (again 31 stepped) e

-- a fresh level is the state's own
fresh-level : (c : Cutter) (draws : List ℕ) → (fresh_level c draws).level ≡ c.level
unfolding fresh_level at_start
fresh-level c draws = refl

-- ---- what the accounts say of a fresh level that is cut

module _ (p : Play) (c : Cutter) (draws : List ℕ) (start : p.game ≡ fresh_level c draws) (f : Fresh p.game) (more fewer left : ℕ) where
  ended : (after p cut_calls).game ≡ cut_down c draws
  ended = cut-after p f.formed ∙ ap (λ (s : Cutter). again 31 stepped (directed s DOWN)) start

  account : claimed_in (cut_down c draws) ≡ 188 + more → (cut_down c draws).count ≡ left → p.game.count ≡ left + fewer → Account more fewer p
  account cells some had =
      let a = cutter_accounts.claimed p cut_calls f (cut-goes p) in
      let b = cutter_accounts.creatures p cut_calls f (cut-goes p) in
      let g : claimed_in (after p cut_calls).game ≡ 188 + more = ap claimed_in ended ∙ cells in
      let n : (after p cut_calls).game.count ≡ left = ap (λ (s : Cutter). s.count) ended ∙ some in
      (cut-goes p, omega (arith, a, g), omega (arith, b, n, had))

-- ---- P9 by a new round

-- a creature at (10,10), velocity (1,1)
abbrev pub one : List ℕ
one = 9 ∷ 9 ∷ 1 ∷ 1 ∷ []

abbrev start : Cutter
start = with_lives (with_level zeros FIRST_LEVEL) MAX_LIVES

pub one-goes : number_given (round_call one).refusal ≡ 0
unfolding round_call draws_ok in_range
one-goes = refl

one-fresh : (round_call one).game ≡ fresh_level start one
unfolding round_call draws_ok in_range fresh_level
one-fresh = refl

by_round : (p : Play) → (called p (Round one)).play.game ≡ (round_call one).game
unfolding called
by_round p = answered_by (λ _. p.game) (round_call one).game (round_call one).refusal one-goes

by_p9 : (p : Play) → Account 930 0 (called p (Round one)).play
by_p9 p =
    let e = by_round p in
    let f = subst Fresh (sym e) (round-fresh one one-goes) in
    account (called p (Round one)).play start one (e ∙ one-fresh) f 930 0 1 (Cut.p9 start 1 1 refl).0 (Cut.p9-count start 1 1 refl)
    (f.creatures ∙ ap (λ (s : Cutter). creatures_of s.level) (e ∙ one-fresh) ∙ ap creatures_of (fresh-level start one))

-- ---- P11 by a fresh level 2

abbrev two : List ℕ
two = 9 ∷ 9 ∷ 1 ∷ 1 ∷ 49 ∷ 9 ∷ 1 ∷ 1 ∷ []

two_drawn : draws_ok two 2 ≡ true
unfolding draws_ok in_range
two_drawn = refl

two-called : (c : Cutter) → WellFormed c → c.level ≡ 2 → level_call c two ≡ answered (fresh_level c two)
unfolding level_call
two-called c w e =
    answered_by (refused c) (answered (fresh_level c two)) (refusal_of c then unless (draws_ok two (creatures_of c.level)) DRAWS)
    (rw (well_formed-none c (from_facts c w), e, two_drawn))

by_level : (p : Play) → (called p (Level two)).play.game ≡ (level_call p.game two).game
unfolding called
by_level p = refl

by_p11 : (p : Play) → WellFormed p.game → p.game.level ≡ 2 → Account 930 1 (called p (Level two)).play
by_p11 p w l =
    let a = two-called p.game w l in
    let e = by_level p ∙ game a in
    let f = subst Fresh (sym (by_level p)) (call_fresh p.game two (ap (λ (x : CutterAnswer). number_given x.refusal) a)) in
    account (called p (Level two)).play p.game two e f 930 1 1 (Cut.p11 p.game 1 1 1 1 l).0 (Cut.p11-count p.game 1 1 1 1 l)
    (f.creatures ∙ ap (λ (s : Cutter). creatures_of s.level) e ∙ ap creatures_of (fresh-level p.game two ∙ l))

pub cut_accounts : CutAccounts
cut_accounts = record { p9 = by_p9; p11 = by_p11 }
