-- How tight the promises are: of every public call, two outcomes that satisfy the contract that stands at it coincide, whatever comes and refused or not.
-- `Decides` (contracts/specs/Decides.antt) is about the contract itself, not about a definition that the contract cites.
use Rattle.std.specs.Prelude.{List, ℕ}
use Rattle.contracts.specs.Decides.{Decides, DecidesOf}
use Rattle.mine.specs.contracts.load as mine_load
use Rattle.mine.specs.contracts.step_player as mine_step_player
use Rattle.mine.specs.contracts.gravity as mine_gravity
use Rattle.mine.specs.contracts.move_enemies as mine_move_enemies
use Rattle.mine.specs.contracts.pass as mine_pass
use Rattle.mine.specs.contracts.pass_marks as mine_pass_marks
use Rattle.mine.specs.contracts.render as mine_render
use Rattle.mine.specs.contracts.who as mine_who
use Rattle.mine.specs.contracts.who_of as mine_who_of
use Rattle.cutter.specs.contracts.new_round as cutter_new_round
use Rattle.cutter.specs.contracts.new_level as cutter_new_level
use Rattle.cutter.specs.contracts.direction as cutter_direction
use Rattle.cutter.specs.contracts.step_player as cutter_step_player
use Rattle.cutter.specs.contracts.step_by_sweeps as cutter_step_by_sweeps
use Rattle.cutter.specs.contracts.step_enemies as cutter_step_enemies
use Rattle.cutter.specs.contracts.respawn as cutter_respawn
use Rattle.cutter.specs.contracts.pass as cutter_pass
use Rattle.cutter.specs.contracts.pass_marks as cutter_pass_marks
use Rattle.cutter.specs.contracts.render as cutter_render
use Rattle.cutter.specs.contracts.ground_report as cutter_ground_report
use Rattle.cutter.specs.contracts.who as cutter_who
use Rattle.cutter.specs.contracts.who_of as cutter_who_of
use Rattle.pace.specs.contracts.start as pace_start
use Rattle.pace.specs.contracts.due as pace_due
use Rattle.pace.specs.contracts.both_ticks as pace_both_ticks
use Rattle.frame.specs.contracts.page as frame_page

module _ (M : Type 1) where
  -- Block Mine
  pub record MineTight : Type 2 where
    pub load : Decides M mine_load.ended (λ 𝓤 𝓛. mine_load.clauses 𝓛)
    pub step_player : Decides M mine_step_player.ended (λ 𝓤 𝓛. mine_step_player.clauses 𝓛)
    pub gravity : Decides M mine_gravity.ended (λ 𝓤 𝓛. mine_gravity.clauses 𝓛)
    pub move_enemies : Decides M mine_move_enemies.ended (λ 𝓤 𝓛. mine_move_enemies.clauses 𝓛)
    pub pass : Decides M mine_pass.ended (λ 𝓤 𝓛. mine_pass.clauses 𝓛)
    pub pass_marks : Decides M mine_pass_marks.ended (λ 𝓤 𝓛. mine_pass_marks.clauses 𝓛)
    pub render : Decides M mine_render.ended (λ 𝓤 𝓛. mine_render.clauses 𝓛)
    pub who : Decides M mine_who.ended (λ 𝓤 𝓛. mine_who.clauses 𝓛)
    pub who_of : Decides M mine_who_of.ended (λ 𝓤 𝓛. mine_who_of.clauses 𝓛)

  -- Block Cutter
  pub record CutterTight : Type 2 where
    pub new_round : Decides M cutter_new_round.ended (λ 𝓤 𝓛. cutter_new_round.clauses 𝓛)
    pub new_level : Decides M cutter_new_level.ended (λ 𝓤 𝓛. cutter_new_level.clauses 𝓛)
    pub direction : Decides M cutter_direction.ended (λ 𝓤 𝓛. cutter_direction.clauses 𝓛)
    pub step_player : Decides M cutter_step_player.ended (λ 𝓤 𝓛. cutter_step_player.clauses 𝓛)
    pub step_by_sweeps : Decides M cutter_step_by_sweeps.ended (λ 𝓤 𝓛. cutter_step_by_sweeps.clauses 𝓛)
    pub step_enemies : Decides M cutter_step_enemies.ended (λ 𝓤 𝓛. cutter_step_enemies.clauses 𝓛)
    pub respawn : Decides M cutter_respawn.ended (λ 𝓤 𝓛. cutter_respawn.clauses 𝓛)
    pub pass : Decides M cutter_pass.ended (λ 𝓤 𝓛. cutter_pass.clauses 𝓛)
    pub pass_marks : Decides M cutter_pass_marks.ended (λ 𝓤 𝓛. cutter_pass_marks.clauses 𝓛)
    pub render : Decides M cutter_render.ended (λ 𝓤 𝓛. cutter_render.clauses 𝓛)
    pub ground_report : Decides M cutter_ground_report.ended (λ 𝓤 𝓛. cutter_ground_report.clauses 𝓛)
    pub who : Decides M cutter_who.ended (λ 𝓤 𝓛. cutter_who.clauses 𝓛)
    pub who_of : Decides M cutter_who_of.ended (λ 𝓤 𝓛. cutter_who_of.clauses 𝓛)

  pub record Tight : Type 2 where
    pub mine : MineTight
    pub cutter : CutterTight
    -- the pacing record
    pub start : Decides M pace_start.ended (λ 𝓤 𝓛. pace_start.clauses 𝓛)
    pub due : Decides M pace_due.ended (λ 𝓤 𝓛. pace_due.clauses 𝓛)
    pub both_ticks : Decides M pace_both_ticks.ended (λ 𝓤 𝓛. pace_both_ticks.clauses 𝓛)
    -- the frame: of a page its bytes
    pub page : DecidesOf M frame_page.ended (λ κs. List ℕ) (λ κs r. r.now) (λ 𝓤 𝓛. frame_page.clauses 𝓛)
