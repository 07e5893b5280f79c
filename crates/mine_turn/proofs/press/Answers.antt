use mathlib.Core.Path.{sym, ◌∙◌, ap}
use native.Mathlib.Omega.{arith}
use Rattle.mine_state.proofs.Facts.{sound}
use Rattle.mine_rules.specs.Move.{moved}
use Rattle.mine_rules.proofs.Next.{home}
use Rattle.controls.specs.Keys.{turned}
use Rattle.controls.proofs.Keys.{keyed-turned}
use Rattle.mine_turn.proofs.press.Goals as goal

pub step_on-requires : goal.step_on-requires
step_on-requires c =
    let r = c.requires in
    let w = sound _ r.formed in
    record {
      lent = record { cells = w.cells; slots = r.slots };
      home = home w;
      empty = r.formed.player;
      purse = omega (arith, w.coins);
    }

pub returns-in-Some : goal.returns-in-Some
returns-in-Some c =
    λ f es n w. keyed-turned moved _ c.args.key ∙ ap (turned moved _) (sym c.in-Some.ensures) ∙ c.step_on.ensures f es n w

pub returns-in-None : goal.returns-in-None
returns-in-None c =
    λ f es n w. keyed-turned moved _ c.args.key ∙ ap (turned moved _) (sym c.in-None.ensures)
