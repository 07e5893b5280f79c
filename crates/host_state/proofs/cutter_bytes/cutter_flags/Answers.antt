use mathlib.Core.Path.{sym, ap, ◌∙◌}
use Rattle.refusal.specs.Refusal.{NUMBERS}
use Rattle.cutter_state.specs.WellFormed.{refusal_of}
use Rattle.host_state.specs.Cutter.{flags_of}
use Rattle.host_state.proofs.Order.{and_then, cutter_behind}
use Rattle.host_state.proofs.cutter_bytes.cutter_flags.Goals as goal

pub returns-then-not-is_flag : goal.returns-then-not-is_flag
unfolding flags_of
returns-then-not-is_flag c = simp (sym c.is_flag.ensures ∙ c.if-not-is_flag.true)

pub returns-then-is_flag : goal.returns-then-is_flag
unfolding flags_of
returns-then-is_flag c =
    simp (sym c.is_flag.ensures ∙ c.if-not-is_flag.false, sym c.is_flag-2.ensures, sym c.is_flag-3.ensures, c.if-is_flag.true)

pub returns : goal.returns
returns c =
    let trailing = sym c.is_flag.ensures ∙ c.if-not-is_flag.false in
    let no = c.check.ensures ∙ ap refusal_of c.cutter_game.ensures in
    c.and.ensures ∙ and_then c.check.result NUMBERS ∙ sym (cutter_behind c.args.h trailing c.is_flag-2.ensures c.is_flag-3.ensures c.if-is_flag.false no)
