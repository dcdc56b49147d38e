use Rattle.std.proofs.Common.{arith, ◌+◌, ◌++◌, drop}
use Rattle.std.specs.String.{string_bytes}
use Rattle.sdb_model.specs.Report.{event_line, event_lines}
use Rattle.sdb_app.proofs.Writing.{before_line, cut, on, on_err}
use Rattle.sdb_app.proofs.written.write_events.Goals as goal

pub returns-in_err-write_event-clause-prefix : goal.returns-in_err-write_event-clause-prefix
returns-in_err-write_event-clause-prefix g c =
    let text = string_bytes c.args.held.now ++ event_lines 1 c.args.events.now in
    let held = string_bytes c.loop-i.held in
    let i = c.loop-i.i in
    let e = c.index-events-i.result in
    let left = before_line text held c.args.events.now i e _ _ c.loop-i-test.true c.index-events-i.is c.loop-i.invariant.writing in
    on_err c.from_residual.result _ (cut text (held ++ event_line (i + 1) e) (event_lines (i + 1 + 1) (drop (i + 1) c.args.events.now)) _ _ _ left c.in_err-write_event.ensures.prefix)

pub loop-i-preserved : goal.loop-i-preserved
loop-i-preserved g c =
    let text = string_bytes c.args.held.now ++ event_lines 1 c.args.events.now in
    let held = string_bytes c.loop-i.held in
    let i = c.loop-i.i in
    let e = c.index-events-i.result in
    let left = before_line text held c.args.events.now i e _ _ c.loop-i-test.true c.index-events-i.is c.loop-i.invariant.writing in
    record {
      writing = on text (held ++ event_line (i + 1) e) (string_bytes c.write_event.new.held) (event_lines (i + 1 + 1) (drop (i + 1) c.args.events.now)) _ _ _ left c.in_ok-write_event.ensures.some;
      later = omega (arith, c.loop-i.invariant.later, c.write_event.ensures.later);
    }
