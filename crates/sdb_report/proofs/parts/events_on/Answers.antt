use Rattle.std.proofs.Common.{◌≡◌, [], ◌∷◌, ◌+◌, sym, subst, arith, ℕ, Ok}
use Rattle.std.proofs.lemmas.List.{length-append}
use Rattle.std.proofs.lemmas.Result.{err_from_is_err_and}
use Rattle.sdb_report.specs.Lines.{numbered_event_of}
use Rattle.sdb_report.specs.Reading.{line_at, lines_at, event_at}
use Rattle.sdb_report.proofs.Loops.{goes_on, ends, is_done}
use Rattle.sdb_report.proofs.parts.events_on.Goals as goal
use Rattle.sdb_codec.specs.Reading.{Stops}

pub returns-in_err-event : goal.returns-in_err-event
returns-in_err-event c =
    let p = err_from_is_err_and c.from_residual.result c.from_residual.ensures.1 in
    let stopped = subst (λ (k : ℕ). Stops c.in_err-event.field-0.0 (line_at (numbered_event_of (k + 1)) c.loop-i.rest.now)) (sym c.loop-i.invariant.1) c.in_err-event.ensures in
    rw (p.1, p.2) (ends event_at c.loop-i.events c.args.count c.loop-i.i c.loop-i.rest.now (lines_at event_at [] c.args.count c.args.bytes.now) c.in_err-event.field-0.0 c.loop-i-test.true stopped c.loop-i.invariant.0)

pub loop-i-preserved : goal.loop-i-preserved
loop-i-preserved c =
    let read = subst (λ (k : ℕ). line_at (numbered_event_of (k + 1)) c.loop-i.rest.now ≡ Ok (c.in_ok-event.event, c.in_ok-event.more.now)) (sym c.loop-i.invariant.1) c.in_ok-event.ensures in
    rw c.in_ok-push.ensures.ok (
      goes_on event_at c.loop-i.events c.args.count c.loop-i.i c.loop-i.rest.now (lines_at event_at [] c.args.count c.args.bytes.now) c.in_ok-event.event c.in_ok-event.more.now c.loop-i-test.true read c.loop-i.invariant.0,
      omega (arith, length-append c.loop-i.events (c.in_ok-event.event ∷ []), c.loop-i.invariant.1),
    )

pub returns : goal.returns
returns c = is_done event_at c.loop-i.events c.args.count c.loop-i.i c.loop-i.rest.now (lines_at event_at [] c.args.count c.args.bytes.now) c.loop-i-test.false c.loop-i.invariant.0
