use Rattle.text.proofs.Puts.{puts-both}
use Rattle.console_screens.specs.Heads.{mine_head}
use Rattle.console_screens.proofs.heads.mine_head.Goals as goal

pub returns : goal.returns
unfolding mine_head
returns c =
    puts-both c.put_field-a.ensures.puts (puts-both c.put_field-b.ensures.puts c.put_state.ensures)
