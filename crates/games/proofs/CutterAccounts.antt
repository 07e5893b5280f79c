-- The accounts of Block Cutter. Assumes nothing.
use mathlib.Core.Bool.{true, false, not, false≢true}
use mathlib.Core.List.{List, [], ◌∷◌}
use mathlib.Core.Path.{◌≡◌, sym, ap, subst, ◌∙◌}
use Prim.Native.Nat.{ℕ, ◌+◌}
use borrow.Author.Tests.{not-true}
use Rattle.laws.proofs.Choice.{and_left, and_right}
use Rattle.refusal.proofs.Calls.{answered_by}
use Rattle.refusal.proofs.Checks.{zero_of}
use Rattle.cutter_state.specs.WellFormed.{WellFormed}
use Rattle.cutter_keeps.specs.Kept.{Fresh}
use Rattle.cutter_keeps.specs.Steps.{Accounts}
use Rattle.cutter_keeps.proofs.Changes.{kept_self}
use Rattle.cutter_keeps.proofs.Accounts.{kept_accounts, accounts_then}
use Rattle.cutter.specs.Calls.{round_call, level_call}
use Rattle.games.specs.CutterCalls.{CutterCall, Round, Level, Direction, Step, StepBySweeps, Tick, Respawn, Report, Begin, Pass, PassMarks}
use Rattle.games.specs.CutterCalls.{Picture, Question, Play, called, after, goes_on, sum, claims, loses}
use Rattle.games.specs.CutterAccounts.{CutterAccounts, CutterFormed}
use Rattle.games.proofs.CutterCalls.{round-fresh, call_fresh, round-refused, level-refused, direction-called, step-counted, sweeps-counted}
use Rattle.games.proofs.CutterCalls.{tick-called, respawn-called, pass-called, pass-starts, pass_at-formed_lem, direction-formed, step-formed}
use Rattle.games.proofs.CutterCalls.{sweeps-formed, tick-formed, respawn-formed}

called-fresh : (p : Play) (k : CutterCall) → (called p k).starts ≡ true → Fresh (called p k).play.game
unfolding called
called-fresh p (Round draws) e =
    let z = zero_of (round_call draws).refusal e in
    subst Fresh (sym (answered_by (λ _. p.game) (round_call draws).game (round_call draws).refusal z)) (round-fresh draws z)
called-fresh p (Level draws) e = call_fresh p.game draws (zero_of (level_call p.game draws).refusal e)
called-fresh p (Direction dir) e = absurd (false≢true e)
called-fresh p Step e = absurd (false≢true e)
called-fresh p StepBySweeps e = absurd (false≢true e)
called-fresh p Tick e = absurd (false≢true e)
called-fresh p Respawn e = absurd (false≢true e)
called-fresh p Report e = absurd (false≢true e)
called-fresh p (Begin time) e = absurd (false≢true e)
called-fresh p (Pass keys draws time) e = pass-starts p.game keys draws time p.pace.first p.pace.second e
called-fresh p (PassMarks keys draws time first second) e = pass-starts p.game keys draws time first second e
called-fresh p (Picture frame) e = absurd (false≢true e)
called-fresh p (Question list x y) e = absurd (false≢true e)

called_accounts : (p : Play) (k : CutterCall) → WellFormed p.game → (called p k).starts ≡ false
    → Accounts p.game (called p k).play.game (called p k).claims (called p k).loses
unfolding called
called_accounts p (Round draws) w e = kept_accounts (round-refused p.game w draws e)
called_accounts p (Level draws) w e = kept_accounts (level-refused p.game w draws e)
called_accounts p (Direction dir) w e = kept_accounts (direction-called p.game w dir)
called_accounts p Step w e = step-counted p.game w
called_accounts p StepBySweeps w e = sweeps-counted p.game w
called_accounts p Tick w e = kept_accounts (tick-called p.game w)
called_accounts p Respawn w e = respawn-called p.game w
called_accounts p Report w e = kept_accounts (kept_self w)
called_accounts p (Begin time) w e = kept_accounts (kept_self w)
called_accounts p (Pass keys draws time) w e = pass-called p.game keys draws time p.pace.first p.pace.second w e
called_accounts p (PassMarks keys draws time first second) w e = pass-called p.game keys draws time first second w e
called_accounts p (Picture frame) w e = kept_accounts (kept_self w)
called_accounts p (Question list x y) w e = kept_accounts (kept_self w)

after_accounts : (p : Play) (ks : List CutterCall) → WellFormed p.game → goes_on p ks ≡ true
    → Accounts p.game (after p ks).game (claims p ks) (loses p ks)
unfolding after goes_on sum
after_accounts p [] w e = kept_accounts (kept_self w)
after_accounts p (k ∷ ks) w e =
    let a = called_accounts p k w (not-true (called p k).starts (and_left (not (called p k).starts) (goes_on (called p k).play ks) e)) in
    accounts_then a (after_accounts (called p k).play ks a.formed (and_right (not (called p k).starts) (goes_on (called p k).play ks) e))

pub cutter_accounts : CutterAccounts
cutter_accounts =
    record {
      fresh = called-fresh;
      claimed = λ p ks f e. (after_accounts p ks f.formed e).claimed ∙ ap (λ (n : ℕ). n + claims p ks) f.claimed;
      creatures = λ p ks f e. (after_accounts p ks f.formed e).creatures;
      formed = λ p ks f e. (after_accounts p ks f.formed e).formed;
      from_any = after_accounts;
    }

pub cutter-formed : CutterFormed
cutter-formed =
    record {
      round = λ draws e. (round-fresh draws e).formed;
      level = λ c draws e. (call_fresh c draws e).formed;
      direction = direction-formed;
      step = step-formed;
      sweeps = sweeps-formed;
      tick = tick-formed;
      respawn = respawn-formed;
      pass = λ c keys draws time pace. pass_at-formed_lem c keys draws time pace.first pace.second;
      pass_marks = pass_at-formed_lem;
    }
