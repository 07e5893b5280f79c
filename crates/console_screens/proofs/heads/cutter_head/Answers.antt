use Rattle.text.proofs.Puts.{puts-both}
use Rattle.console_screens.specs.Heads.{cutter_head}
use Rattle.console_screens.proofs.heads.cutter_head.Goals as goal

pub returns : goal.returns
unfolding cutter_head
returns c =
    puts-both c.put_field-a.ensures.puts
    (puts-both c.put_field-b.ensures.puts
    (puts-both c.put_field-c.ensures.puts (puts-both c.put-d.ensures c.put_state.ensures)))
