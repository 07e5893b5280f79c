use mathlib.Core.Path.{sym, ap, ◌∙◌}
use Rattle.refusal.specs.Refusal.{NUMBERS}
use Rattle.mine_state.specs.WellFormed.{refusal_of}
use Rattle.host_state.specs.Mine.{flags_of}
use Rattle.host_state.proofs.Order.{and_then, mine_behind}
use Rattle.host_state.proofs.mine_bytes.mine_flags.Goals as goal

pub returns-then-not-marks_ok : goal.returns-then-not-marks_ok
unfolding flags_of
returns-then-not-marks_ok c = simp (sym c.marks_ok.ensures ∙ c.if-not-marks_ok.true)

pub returns-then-is_flag : goal.returns-then-is_flag
unfolding flags_of
returns-then-is_flag c =
    simp (sym c.marks_ok.ensures ∙ c.if-not-marks_ok.false, sym c.is_flag.ensures, sym c.is_flag-2.ensures, c.if-is_flag.true)

pub returns : goal.returns
returns c =
    let marks = sym c.marks_ok.ensures ∙ c.if-not-marks_ok.false in
    let no = c.check.ensures ∙ ap refusal_of c.mine_game.ensures in
    c.and.ensures ∙ and_then c.check.result NUMBERS ∙ sym (mine_behind c.args.h marks c.is_flag.ensures c.is_flag-2.ensures c.if-is_flag.false no)
