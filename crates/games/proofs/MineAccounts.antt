-- The accounts of Block Mine. Assumes nothing.
use mathlib.Core.Bool.{true, false, false≢true}
use mathlib.Core.List.{List, [], ◌∷◌}
use mathlib.Core.Path.{◌≡◌, refl, sym, ◌∙◌}
use Rattle.laws.specs.Lists.{all}
use Rattle.laws.proofs.Choice.{and_left, and_right}
use Rattle.mine_state.specs.WellFormed.{WellFormed}
use Rattle.mine_state.specs.declared.Mine.{Mine}
use Rattle.mine_rules.specs.Load.{loaded}
use Rattle.mine_rules.proofs.Start.{start}
use Rattle.mine_keeps.specs.Kept.{Kept}
use Rattle.mine_keeps.proofs.Changes.{kept_self, kept_then}
use Rattle.mine_keeps.proofs.Load.{load-formed}
use Rattle.mine_pass.specs.Pass.{pass_at}
use Rattle.mine.specs.Calls.{move_call, gravity_call, tick_call}
use Rattle.games.specs.MineCalls.{MineCall, Load, Move, Gravity, Tick, Begin, Pass, PassMarks, Picture, Question, Play, called, after, plays}
use Rattle.games.specs.MineAccounts.{Account, MineAccounts, MineFormed}
use Rattle.games.proofs.MineCalls.{move_call-kept_lem, gravity_call-kept_lem, tick_call-kept_lem, pass_at-kept_lem, move_call-formed_lem, gravity_call-formed_lem, tick_call-formed_lem, pass_at-formed_lem}

-- what holds of every state kept, and of the loaded mine where the call loads, holds after one call
module _ (P : Mine → Type 0) (p : Play) (w : WellFormed p.game) (k : (s : Mine) → Kept p.game s → P s) where
  called_by : (c : MineCall) → (plays c ≡ false → P loaded) → P (called p c).game
  unfolding called
  called_by Load f = f refl
  called_by (Move dir) f = k (move_call p.game dir).game (move_call-kept_lem p.game dir w)
  called_by Gravity f = k (gravity_call p.game).game (gravity_call-kept_lem p.game w)
  called_by Tick f = k (tick_call p.game).game (tick_call-kept_lem p.game w)
  called_by (Begin time) f = k p.game (kept_self w)
  called_by (Pass keys time) f =
      k (pass_at p.game keys time p.pace.first p.pace.second).passed.game (pass_at-kept_lem p.game keys time p.pace.first p.pace.second w)
  called_by (PassMarks keys time first second) f = k (pass_at p.game keys time first second).passed.game (pass_at-kept_lem p.game keys time first second w)
  called_by (Picture frame) f = k p.game (kept_self w)
  called_by (Question list x y) f = k p.game (kept_self w)

called-kept : (p : Play) (c : MineCall) → WellFormed p.game → plays c ≡ true → Kept p.game (called p c).game
called-kept p c w e = called_by (Kept p.game) p w (λ s k. k) c (λ n. absurd (false≢true (sym n ∙ e)))

after_kept : (p : Play) (calls : List MineCall) → WellFormed p.game → all plays calls ≡ true → Kept p.game (after p calls).game
unfolding after
after_kept p [] w e = kept_self w
after_kept p (c ∷ cs) w e =
    let k = called-kept p c w (and_left (plays c) (all plays cs) e) in
    kept_then k (after_kept (called p c) cs k.formed (and_right (plays c) (all plays cs) e))

loaded-account : Account loaded
loaded-account = record { formed = load-formed; coins = start.coins; stones = start.stones }

account-kept : {m s : Mine} → Account m → Kept m s → Account s
account-kept a k = record { formed = k.formed; coins = k.coins ∙ a.coins; stones = k.stones ∙ a.stones }

called-account : (p : Play) (c : MineCall) → Account p.game → Account (called p c).game
called-account p c a = called_by Account p a.formed (λ s k. account-kept a k) c (λ _. loaded-account)

after-account : (p : Play) (calls : List MineCall) → Account p.game → Account (after p calls).game
unfolding after
after-account p [] a = a
after-account p (c ∷ cs) a = after-account (called p c) cs (called-account p c a)

pub mine_accounts : MineAccounts
mine_accounts =
    record {
      from_loaded = λ pace calls. after-account (record { game = loaded; pace = pace }) calls loaded-account;
      from_any = after_kept;
    }

pub mine-formed : MineFormed
mine-formed =
    record {
      load = load-formed;
      move = move_call-formed_lem;
      gravity = gravity_call-formed_lem;
      tick = tick_call-formed_lem;
      pass = λ m keys time pace. pass_at-formed_lem m keys time pace.first pace.second;
      pass_marks = pass_at-formed_lem;
    }
