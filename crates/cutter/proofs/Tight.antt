-- Each contract decides its outcome. Assumes nothing.
use Rattle.refusal.specs.Refusal.{Checked}
use Rattle.std.specs.Prelude.{Option}
use mathlib.Core.List.{List}
use Prim.Native.Nat.{ℕ}
use lib.ListN.{take}
use Rattle.contracts.specs.Decides.{Decides}
use Rattle.contracts.proofs.Decides.{decided}
use Rattle.found.specs.declared.Found.{Found}
use Rattle.pace.specs.declared.Pace.{Pace}
use Rattle.cutter_pass.specs.declared.CutterPassed.{CutterPassed}
use Rattle.cutter_pass.specs.declared.CutterTurn.{CutterTurn}
use Rattle.cutter_pass.specs.Pass.{pass_at}
use Rattle.cutter.specs.declared.calls.CutterAnswer.{CutterAnswer}
use Rattle.cutter.specs.declared.calls.Ground.{Ground}
use Rattle.cutter.specs.Calls.{round_call, level_call, direction_call, step_call, sweeps_call, enemies_call, respawn_call, report_call}
use Rattle.cutter.specs.Turn.{pass_of}
use Rattle.cutter.specs.Picture.{picture_of}
use Rattle.cutter.specs.Question.{who_at}
use Rattle.cutter.specs.contracts.calls.new_round as new-round
use Rattle.cutter.specs.contracts.calls.new_level as new-level
use Rattle.cutter.specs.contracts.calls.direction as direction
use Rattle.cutter.specs.contracts.calls.step_player as step-player
use Rattle.cutter.specs.contracts.calls.step_by_sweeps as step_by_sweeps
use Rattle.cutter.specs.contracts.calls.step_enemies as step_enemies
use Rattle.cutter.specs.contracts.calls.respawn as respawn
use Rattle.cutter.specs.contracts.calls.ground_report as ground_report
use Rattle.cutter.specs.contracts.turn.pass as pass
use Rattle.cutter.specs.contracts.turn.pass_marks as pass-marks
use Rattle.cutter.specs.contracts.picture.render as render
use Rattle.cutter.specs.contracts.question.who as who
use Rattle.cutter.specs.contracts.question.who_of as who_of

pub new_round_tight : {M : Type 1} → Decides M new-round.ended (λ 𝓤 𝓛. new-round.clauses 𝓛)
new_round_tight 𝓤 𝓛 mem run κs a g r r' s s' = decided 𝓤 (λ (z : CutterAnswer). (z, s)) r r' (round_call a.0.now)

pub new_level_tight : {M : Type 1} → Decides M new-level.ended (λ 𝓤 𝓛. new-level.clauses 𝓛)
new_level_tight 𝓤 𝓛 mem run κs a g r r' s s' = decided 𝓤 (λ (z : CutterAnswer). (z, s)) r r' (level_call a.0 a.1.0.now)

pub direction_tight : {M : Type 1} → Decides M direction.ended (λ 𝓤 𝓛. direction.clauses 𝓛)
direction_tight 𝓤 𝓛 mem run κs a g r r' s s' = decided 𝓤 (λ (z : CutterAnswer). (z, s)) r r' (direction_call a.0 a.1.0)

pub step_player_tight : {M : Type 1} → Decides M step-player.ended (λ 𝓤 𝓛. step-player.clauses 𝓛)
step_player_tight 𝓤 𝓛 mem run κs a g r r' s s' = decided 𝓤 (λ (z : CutterAnswer). (z, s)) r r' (step_call a.0)

pub step_by_sweeps_tight : {M : Type 1} → Decides M step_by_sweeps.ended (λ 𝓤 𝓛. step_by_sweeps.clauses 𝓛)
step_by_sweeps_tight 𝓤 𝓛 mem run κs a g r r' s s' = decided 𝓤 (λ (z : CutterAnswer). (z, s)) r r' (sweeps_call a.0)

pub step_enemies_tight : {M : Type 1} → Decides M step_enemies.ended (λ 𝓤 𝓛. step_enemies.clauses 𝓛)
step_enemies_tight 𝓤 𝓛 mem run κs a g r r' s s' = decided 𝓤 (λ (z : CutterAnswer). (z, s)) r r' (enemies_call a.0)

pub respawn_tight : {M : Type 1} → Decides M respawn.ended (λ 𝓤 𝓛. respawn.clauses 𝓛)
respawn_tight 𝓤 𝓛 mem run κs a g r r' s s' = decided 𝓤 (λ (z : CutterAnswer). (z, s)) r r' (respawn_call a.0)

pub ground_report_tight : {M : Type 1} → Decides M ground_report.ended (λ 𝓤 𝓛. ground_report.clauses 𝓛)
ground_report_tight 𝓤 𝓛 mem run κs a g r r' s s' = decided 𝓤 (λ (z : Ground). (z, s)) r r' (report_call a.0)

-- the record stands in the fifth place
pub pass_tight : {M : Type 1} → Decides M pass.ended (λ 𝓤 𝓛. pass.clauses 𝓛)
pass_tight 𝓤 𝓛 mem run κs a g r r' s s' =
    decided 𝓤 (λ (z : CutterPassed × Pace). (z.0, (tt, (tt, (tt, (tt, (z.1, tt))))))) (r, s.1.1.1.1.0) (r', s'.1.1.1.1.0)
    (pass_of a.0 a.1.0.now a.1.1.0.now a.1.1.1.0 a.1.1.1.1.0.now)

pub pass_marks_tight : {M : Type 1} → Decides M pass-marks.ended (λ 𝓤 𝓛. pass-marks.clauses 𝓛)
pass_marks_tight 𝓤 𝓛 mem run κs a g r r' s s' =
    decided 𝓤 (λ (z : CutterTurn). (z, s)) r r'
    (pass_at a.0 a.1.0.now a.1.1.0.now a.1.1.1.0 a.1.1.1.1.0 a.1.1.1.1.1.0)

-- the frame stands in the second place
pub render_tight : {M : Type 1} → Decides M render.ended (λ 𝓤 𝓛. render.clauses 𝓛)
render_tight 𝓤 𝓛 mem run κs a g r r' s s' =
    decided 𝓤 (λ (z : Checked × List ℕ). (z.0, (tt, (z.1, tt)))) (r, s.1.0) (r', s'.1.0) (picture_of a.0 a.1.0.now)

pub who_tight : {M : Type 1} → Decides M who.ended (λ 𝓤 𝓛. who.clauses 𝓛)
who_tight 𝓤 𝓛 mem run κs a g r r' s s' = decided 𝓤 (λ (z : Option Found). (z, s)) r r' (who_at a.0.now a.1.0 a.1.1.0)

pub who_of_tight : {M : Type 1} → Decides M who_of.ended (λ 𝓤 𝓛. who_of.clauses 𝓛)
who_of_tight 𝓤 𝓛 mem run κs a g r r' s s' =
    decided 𝓤 (λ (z : Option Found). (z, s)) r r' (who_at (take a.1.0 a.0) a.1.1.0 a.1.1.1.0)
