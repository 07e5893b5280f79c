use mathlib.Core.Path.{sym, ap, subst, ◌∙◌}
use native.Mathlib.Omega.{arith}
use Rattle.mine_state.proofs.Facts.{sound}
use Rattle.mine_rules.specs.Move.{moved}
use Rattle.mine_rules.proofs.Next.{home}
use Rattle.mine_apart.proofs.Places.{spotted_of, apart_of}
use Rattle.mine_moves.specs.declared.moves.Player.{Player}
use Rattle.mine_moves.specs.CodeSteps.{playing, Stands}
use Rattle.mine_moves.proofs.moves.step_player.Goals as goal

pub parts_of-parts-requires : goal.parts_of-parts-requires
parts_of-parts-requires c =
    record { few = c.requires.few; placed = (sound c.args.m c.requires).placed }

pub step_on-to-requires : goal.step_on-to-requires
step_on-to-requires c =
    let m = c.args.m in
    let w = sound m c.requires in
    subst (Stands m.grid c.parts_of-parts.result.spots) (sym c.of-p.ensures) record {
      lent = record { cells = w.cells; slots = (apart_of m c.requires c.parts_of-parts.ensures).slots };
      home = home w;
      empty = c.requires.player;
      purse = omega (arith, w.coins);
    }

pub returns : goal.returns
returns c =
    let m = c.args.m in
    c.put.ensures
    ∙ sym (c.step_on-to.ensures m.falling m.enemies m.count (spotted_of m c.requires c.parts_of-parts.ensures))
    ∙ ap (λ (p : Player). moved (playing m.falling m.grid m.enemies m.count p) c.args.dir) c.of-p.ensures
