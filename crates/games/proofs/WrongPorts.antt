-- Each wrong port differs from the promise by one or two steps: to the right in the loaded mine, downwards in a new round. Assumes nothing.
use mathlib.Core.Logic.{⊎_elim}
use mathlib.Core.Path.{◌≡◌, refl, sym, ap, subst, ◌∙◌}
use Prim.Native.Nat.{ℕ}
use native.Mathlib.Omega.{arith}
use lib.Dec.{leb}
use Rattle.refusal.specs.Faults.{first_fault, fault_in}
use Rattle.refusal.specs.Refusal.{number_given, NONE, COMMAND, unless, ◌then◌}
use Rattle.refusal.proofs.Calls.{then_second, answered_by}
use Rattle.mine_state.specs.declared.Mine.{Mine}
use Rattle.mine_state.specs.State.{purse, empty_at, free_at}
use Rattle.mine_state.specs.WellFormed.{cells_ok, creature_fault, creatures_fault, numbers_ok, refusal_of}
use Rattle.mine_rules.specs.Ways.{next_cell}
use Rattle.mine_rules.specs.Load.{loaded}
use Rattle.mine_rules.specs.Move.{pushed, met, moved}
use Rattle.mine_rules.proofs.Start.{drawn, loaded_drawn}
use Rattle.mine.specs.declared.calls.MineAnswer.{MineAnswer}
use Rattle.mine.specs.Calls.{refused, answered, move_call}
use Rattle.laws.proofs.Choice.{same?}
use Rattle.laws.specs.Lists.{table}
use Rattle.cutter_state.specs.declared.Cutter.{Cutter}
use Rattle.cutter_state.specs.WellFormed as WF
use Rattle.cutter_rules.specs.Ahead.{along}
use Rattle.cutter_rules.specs.Level.{fresh_grid, fresh_level, at_start, drawn_mover, in_range, draws_ok}
use Rattle.cutter_rules.specs.Cost.{step_made}
use Rattle.cutter_rules.specs.Step.{unit_x, unit_y, directed, stepped, met as meets, trailing_step, walking_step}
use Rattle.cutter_keeps.proofs.Direction.{direction-kept}
use Rattle.cutter_keeps.proofs.Accounts.{step_accounts}
use Rattle.cutter.specs.declared.calls.CutterAnswer.{CutterAnswer}
use Rattle.cutter.specs.Calls as C
use Rattle.cutter.specs.Calls.{zeros, round_call, step_call}
use Rattle.games.specs.WrongPorts.{WrongMove, WrongStep, WrongPorts}
use Rattle.games.proofs.CutAccounts.{one, one-goes}
use Rattle.games.proofs.MineCalls.{move_call-kept_lem}
use Rattle.games.proofs.CutterCalls.{round-fresh, step-plays, step-called}
use Rattle.cutter_state.specs.State.{claimed_in}
use Rattle.controls.specs.Keys.{RIGHT, DOWN, LEFT}

-- to the right where the state is not refused
goes : (m : Mine) → number_given (refusal_of m) ≡ 0 → move_call m RIGHT ≡ answered (moved m RIGHT)
unfolding move_call
goes m e =
    answered_by (refused m) (answered (moved m RIGHT)) (refusal_of m then unless (leb RIGHT LEFT) COMMAND)
    (ap number_given (then_second (refusal_of m) NONE e))

-- the first and the second step to the right
record Steps (m : Mine) : Type 0 where
  first : number_given (refusal_of m) ≡ 0
  second : number_given (refusal_of (moved m RIGHT)) ≡ 0
  from : m.px ≡ 1
  one : (moved m RIGHT).px ≡ 2
  two : (moved (moved m RIGHT) RIGHT).px ≡ 3

drawn_steps : Steps drawn
unfolding refusal_of cells_ok creatures_fault creature_fault fault_in first_fault numbers_ok moved met pushed next_cell free_at empty_at
drawn_steps = record { first = refl; second = refl; from = refl; one = refl; two = refl }

steps : Steps loaded
steps = subst Steps (sym loaded_drawn) drawn_steps

module _ (port : Mine → ℕ → MineAnswer) (kept : (m : Mine) (dir : ℕ) → port m dir ≡ move_call m dir) where
  once : port loaded RIGHT ≡ answered (moved loaded RIGHT)
  once = kept loaded RIGHT ∙ goes loaded steps.first

  twice : port (moved loaded RIGHT) RIGHT ≡ answered (moved (moved loaded RIGHT) RIGHT)
  twice = kept (moved loaded RIGHT) RIGHT ∙ goes (moved loaded RIGHT) steps.second

  -- the loaded mine is another after a step to the right, and after the next
  stays : moved loaded RIGHT ≡ loaded → ⊥
  stays e = let p : loaded.px ≡ 2 = sym (ap (λ (m : Mine). m.px) e) ∙ steps.one in omega (arith, p, steps.from)

  idles : moved (moved loaded RIGHT) RIGHT ≡ moved loaded RIGHT → ⊥
  idles e = let p : (moved loaded RIGHT).px ≡ 3 = sym (ap (λ (m : Mine). m.px) e) ∙ steps.two in omega (arith, p, steps.one)

  game : {a b : MineAnswer} → a ≡ b → a.game ≡ b.game
  game e = ap (λ (a : MineAnswer). a.game) e

  -- a state that is not the one played on: the loaded mine, or that after a step to the right
  elsewhere : (s : Mine) → ((m : Mine) (dir : ℕ) → (m ≡ s → ⊥) → (port m dir).game ≡ m) → ⊥
  elsewhere s h =
      ⊎_elim
      (λ e. idles (sym (game twice) ∙ h (moved loaded RIGHT) RIGHT (λ q. let z = ap (λ (m : Mine). m.px) q in omega (arith, z, e, steps.one))))
      (λ n. stays (sym (game once) ∙ h loaded RIGHT (λ q. n (sym (ap (λ (m : Mine). m.px) q) ∙ steps.from))))
      (same? s.px 1)

  wrong_move : WrongMove port
  wrong_move =
      record {
        refuses_always = λ h. h loaded RIGHT (ap (λ (a : MineAnswer). number_given a.refusal) once);
        loaded_always = λ h. stays (sym (game once) ∙ h loaded RIGHT);
        does_nothing = λ h. stays (sym (game once) ∙ h loaded RIGHT);
        idles_then = λ h. idles (sym (game twice) ∙ ap (λ (m : Mine). (port m RIGHT).game) (sym (game once)) ∙ h loaded RIGHT RIGHT ∙ game once);
        idles_elsewhere = elsewhere;
        invents_a_coin = λ m dir w h. h (ap purse (game (kept m dir)) ∙ (move_call-kept_lem m dir w).coins);
      }

-- ---- a new round, and two steps downwards

abbrev down : Cutter
down = directed (round_call one).game DOWN

-- rows 0, 1 and 2
record Downs (c : Cutter) : Type 0 where
  from : c.py ≡ 0
  one : (stepped c).py ≡ 1
  two : (stepped (stepped c)).py ≡ 2

downs : Downs down
unfolding round_call draws_ok in_range zeros fresh_level at_start drawn_mover table fresh_grid unit_x unit_y along stepped meets trailing_step walking_step
downs = record { from = refl; one = refl; two = refl }

down-formed : WF.WellFormed down
down-formed = (direction-kept (round_call one).game DOWN (round-fresh one one-goes).formed).formed

module _ (port : Cutter → CutterAnswer) (kept : (c : Cutter) → port c ≡ step_call c) where
  first_step : port down ≡ C.made (step_made down)
  first_step = kept down ∙ step-plays down down-formed

  second-step : port (stepped down) ≡ C.made (step_made (stepped down))
  second-step = kept (stepped down) ∙ step-plays (stepped down) (step_accounts down down-formed).formed

  row : {a b : Cutter} → a ≡ b → a.py ≡ b.py
  row e = ap (λ (c : Cutter). c.py) e

  stands : {a b : CutterAnswer} → a ≡ b → a.game ≡ b.game
  stands e = ap (λ (a : CutterAnswer). a.game) e

  stays-down : stepped down ≡ down → ⊥
  stays-down e = omega (arith, row e, downs.from, downs.one)

  idles_down : stepped (stepped down) ≡ stepped down → ⊥
  idles_down e = omega (arith, row e, downs.one, downs.two)

  step-elsewhere : (s : Cutter) → ((c : Cutter) → (c ≡ s → ⊥) → (port c).game ≡ c) → ⊥
  step-elsewhere s h =
      ⊎_elim
      (λ e. idles_down (sym (stands second-step) ∙ h (stepped down) (λ q. omega (arith, row q, e, downs.one))))
      (λ n. stays-down (sym (stands first_step) ∙ h down (λ q. n (sym (row q) ∙ downs.from))))
      (same? s.py 0)

  wrong_step : WrongStep port
  wrong_step =
      record {
        refuses_always = λ h. h down (ap (λ (a : CutterAnswer). number_given a.refusal) first_step);
        one_state_always = λ s h. idles_down (sym (stands second-step) ∙ h (stepped down) ∙ sym (h down) ∙ stands first_step);
        does_nothing = λ h. stays-down (sym (stands first_step) ∙ h down);
        idles_then = λ h. idles_down (sym (stands second-step) ∙ ap (λ (c : Cutter). (port c).game) (sym (stands first_step)) ∙ h down ∙ stands first_step);
        idles_elsewhere = step-elsewhere;
        invents_a_cell = λ c w h. h (ap claimed_in (stands (kept c)) ∙ (step-called c w).claimed);
      }

pub wrong_ports : WrongPorts
wrong_ports = record { move = wrong_move; step = wrong_step }
