use mathlib.Core.Path.{ap, ◌∙◌}
use Rattle.trace_calls.specs.Cutters.{answered, cutter_levelled}
use Rattle.trace_calls.proofs.cutters.levelled.Goals as goal

pub returns : goal.returns
unfolding cutter_levelled
returns c =
    let a = c.args in c.cutter_answered.ensures
    ∙ ap (answered a.h a.draws.now a.current.now a.state.now a.res.now a.p) c.new_level-a.ensures
