use mathlib.Core.Path.{◌∙◌}
use Rattle.host_state.proofs.Back.{from_flag}
use Rattle.host_state.specs.Mine.{host_of}
use Rattle.host_state.proofs.mine_bytes.mine_host.Goals as goal

pub returns : goal.returns
unfolding host_of
returns c = rw (c.bytes_of-falling.ensures, c.from.ensures ∙ from_flag c.args.m.dead, c.from-2.ensures ∙ from_flag c.args.m.won)
