-- Each contract decides its outcome. Assumes nothing.
use Rattle.refusal.specs.Refusal.{Checked}
use Rattle.std.specs.Prelude.{Option}
use mathlib.Core.List.{List}
use Prim.Native.Nat.{ℕ}
use lib.ListN.{take}
use Rattle.contracts.specs.Decides.{Decides}
use Rattle.contracts.proofs.Decides.{decided}
use Rattle.found.specs.declared.Found.{Found}
use Rattle.pace.specs.declared.Pace.{Pace}
use Rattle.mine_state.specs.declared.Mine.{Mine}
use Rattle.mine_rules.specs.Load.{loaded}
use Rattle.mine_pass.specs.declared.MinePassed.{MinePassed}
use Rattle.mine_pass.specs.declared.MineTurn.{MineTurn}
use Rattle.mine_pass.specs.Pass.{pass_at}
use Rattle.mine.specs.declared.calls.MineAnswer.{MineAnswer}
use Rattle.mine.specs.Calls.{move_call, gravity_call, tick_call}
use Rattle.mine.specs.Turn.{pass_of}
use Rattle.mine.specs.Picture.{picture_of}
use Rattle.mine.specs.Question.{who_at}
use Rattle.mine.specs.contracts.calls.load as load
use Rattle.mine.specs.contracts.calls.step_player as step-player
use Rattle.mine.specs.contracts.calls.gravity as gravity
use Rattle.mine.specs.contracts.calls.move_enemies as move_enemies
use Rattle.mine.specs.contracts.turn.pass as pass
use Rattle.mine.specs.contracts.turn.pass_marks as pass-marks
use Rattle.mine.specs.contracts.picture.render as render
use Rattle.mine.specs.contracts.question.who as who
use Rattle.mine.specs.contracts.question.who_of as who_of

pub load_tight : {M : Type 1} → Decides M load.ended (λ 𝓤 𝓛. load.clauses 𝓛)
load_tight 𝓤 𝓛 mem run κs a g r r' s s' = decided 𝓤 (λ (z : Mine). (z, s)) r r' loaded

pub step_player_tight : {M : Type 1} → Decides M step-player.ended (λ 𝓤 𝓛. step-player.clauses 𝓛)
step_player_tight 𝓤 𝓛 mem run κs a g r r' s s' = decided 𝓤 (λ (z : MineAnswer). (z, s)) r r' (move_call a.0 a.1.0)

pub gravity_tight : {M : Type 1} → Decides M gravity.ended (λ 𝓤 𝓛. gravity.clauses 𝓛)
gravity_tight 𝓤 𝓛 mem run κs a g r r' s s' = decided 𝓤 (λ (z : MineAnswer). (z, s)) r r' (gravity_call a.0)

pub move_enemies_tight : {M : Type 1} → Decides M move_enemies.ended (λ 𝓤 𝓛. move_enemies.clauses 𝓛)
move_enemies_tight 𝓤 𝓛 mem run κs a g r r' s s' = decided 𝓤 (λ (z : MineAnswer). (z, s)) r r' (tick_call a.0)

-- the record stands in the fourth place
pub pass_tight : {M : Type 1} → Decides M pass.ended (λ 𝓤 𝓛. pass.clauses 𝓛)
pass_tight 𝓤 𝓛 mem run κs a g r r' s s' =
    decided 𝓤 (λ (z : MinePassed × Pace). (z.0, (tt, (tt, (tt, (z.1, tt)))))) (r, s.1.1.1.0) (r', s'.1.1.1.0)
    (pass_of a.0 a.1.0.now a.1.1.0 a.1.1.1.0.now)

pub pass_marks_tight : {M : Type 1} → Decides M pass-marks.ended (λ 𝓤 𝓛. pass-marks.clauses 𝓛)
pass_marks_tight 𝓤 𝓛 mem run κs a g r r' s s' =
    decided 𝓤 (λ (z : MineTurn). (z, s)) r r' (pass_at a.0 a.1.0.now a.1.1.0 a.1.1.1.0 a.1.1.1.1.0)

-- the frame stands in the second place
pub render_tight : {M : Type 1} → Decides M render.ended (λ 𝓤 𝓛. render.clauses 𝓛)
render_tight 𝓤 𝓛 mem run κs a g r r' s s' =
    decided 𝓤 (λ (z : Checked × List ℕ). (z.0, (tt, (z.1, tt)))) (r, s.1.0) (r', s'.1.0) (picture_of a.0 a.1.0.now)

pub who_tight : {M : Type 1} → Decides M who.ended (λ 𝓤 𝓛. who.clauses 𝓛)
who_tight 𝓤 𝓛 mem run κs a g r r' s s' = decided 𝓤 (λ (z : Option Found). (z, s)) r r' (who_at a.0.now a.1.0 a.1.1.0)

pub who_of_tight : {M : Type 1} → Decides M who_of.ended (λ 𝓤 𝓛. who_of.clauses 𝓛)
who_of_tight 𝓤 𝓛 mem run κs a g r r' s s' =
    decided 𝓤 (λ (z : Option Found). (z, s)) r r' (who_at (take a.1.0 a.0) a.1.1.0 a.1.1.1.0)
