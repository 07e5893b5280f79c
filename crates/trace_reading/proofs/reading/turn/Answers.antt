use Rattle.std.proofs.Common.{not, sym, ap, ◌∙◌, inr, arith, length-take-le}
use Rattle.trace_reading.specs.Run.{is_unread, after_of}
use Rattle.trace_reading.specs.Told.{after_entry}
use Rattle.trace_reading.proofs.reading.turn.Goals as goal

pub returns : goal.returns
unfolding after_of after_entry
returns g c =
    let l = length-take-le c.args.run.state c.args.current.now (omega (arith, c.requires.room, c.requires.inside)) in (
      rw c.after.ensures c.keep-state.ensures.0,
      inr (
        c.in-Some.e,
        record {
          next = rw (l, sym c.judged-part.ensures, sym c.keep-state.ensures.1) c.after.ensures;
          more = ap not (c.is_unread.ensures ∙ ap is_unread c.judged-part.ensures);
        },
      ),
    )
