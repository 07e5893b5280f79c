use native.Mathlib.Omega.{arith}
use Rattle.text.proofs.Puts.{puts-both}
use Rattle.text.proofs.Lines.{number-ends}
use Rattle.console_screens.proofs.heads.put_field.Goals as goal

pub returns : goal.returns
returns c = record {
  puts = puts-both c.put-end.ensures c.put_number.ensures;
  short = omega (arith, c.put-end.ensures.ends, number-ends _ c.put_number.ensures);
}
