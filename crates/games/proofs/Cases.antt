-- The marked cases, each proved where its rule stands. Assumes nothing.
use Rattle.mine_rules.proofs.Start as Start
use Rattle.mine_rules.proofs.Cases as Mine
use Rattle.cutter_rules.proofs.Cases as Cutter
use Rattle.cutter_pass.proofs.Cases as Pass
use Rattle.games.proofs.Cut as Cut
use Rattle.games.specs.Cases.{Cases}

pub cases : Cases
cases =
    record {
      p1 = Start.start;
      p2 = Start.p2;
      p3 = Start.p3;
      p4 = Mine.p4;
      p5 = Mine.p5;
      p6 = Mine.p6;
      p7 = Mine.p7;
      p8 = Mine.p8;
      p9 = Cut.p9;
      p10 = Cut.p10;
      p11 = Cut.p11;
      p12 = Cutter.p12;
      p13 = Cutter.p13;
      p14 = Pass.p14;
    }
