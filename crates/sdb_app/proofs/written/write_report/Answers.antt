use Rattle.std.proofs.Common.{List, ℕ, ◌≡◌, ◌∙◌, ◌++◌, ap, subst, sym}
use Rattle.std.specs.String.{string_bytes}
use Rattle.sdb_model.specs.declared.event.Event.{Event}
use Rattle.sdb_model.specs.Report.{event_lines, report_start_of, report_end_of, report_text_of}
use Rattle.sdb_types.specs.Bytes.{Appends}
use Rattle.sdb_app.specs.Promise.{IsPrefixAdded}
use Rattle.sdb_app.specs.Streams.{IsWriting}
use Rattle.sdb_app.proofs.Writing.{begun, cut, cut_all, ended, on, on_err, report_begun}
use Rattle.sdb_app.proofs.written.write_report.Goals as goal

pub returns-in_err-write_events-clause-prefix : goal.returns-in_err-write_events-clause-prefix
returns-in_err-write_events-clause-prefix g c =
    let o = c.args.outcome.now in
    let start = string_bytes c.put_report_start.new.out in
    let old = g.W.Sink.written c.args.output.now in
    let new = g.W.Sink.written c.write_events.new.output in
    let is : start ≡ report_start_of o.events = c.in-Ok.ensures ∙ ap (λ (t : List ℕ). t ++ report_start_of o.events) c.new-held.ensures.bytes in
    let added : IsPrefixAdded (start ++ event_lines 1 o.events) old new = subst (λ (es : List Event). IsPrefixAdded (start ++ event_lines 1 es) old new) c.as_slice.ensures c.in_err-write_events.ensures.prefix in
    on_err c.from_residual.result _ (cut (report_text_of o) (start ++ event_lines 1 o.events) (report_end_of o) old old new (report_begun o start old is) added)

pub returns-in_default-put_report_end-clause-prefix : goal.returns-in_default-put_report_end-clause-prefix
returns-in_default-put_report_end-clause-prefix g c =
    let o = c.args.outcome.now in
    let start = string_bytes c.put_report_start.new.out in
    let old = g.W.Sink.written c.args.output.now in
    let new = g.W.Sink.written c.write_events.new.output in
    let held = string_bytes c.write_events.new.held in
    let is : start ≡ report_start_of o.events = c.in-Ok.ensures ∙ ap (λ (t : List ℕ). t ++ report_start_of o.events) c.new-held.ensures.bytes in
    let some : IsWriting (start ++ event_lines 1 o.events) old new held = subst (λ (es : List Event). IsWriting (start ++ event_lines 1 es) old new held) c.as_slice.ensures c.in_ok-write_events.ensures.some in
    begun (report_text_of o) (held ++ report_end_of o) old new (on (report_text_of o) (start ++ event_lines 1 o.events) held (report_end_of o) old old new (report_begun o start old is) some)

pub returns-in_err-flush-clause-prefix : goal.returns-in_err-flush-clause-prefix
returns-in_err-flush-clause-prefix g c =
    let o = c.args.outcome.now in
    let start = string_bytes c.put_report_start.new.out in
    let old = g.W.Sink.written c.args.output.now in
    let mid = g.W.Sink.written c.write_events.new.output in
    let new = g.W.Sink.written c.flush.new.output in
    let held = string_bytes c.write_events.new.held in
    let is : start ≡ report_start_of o.events = c.in-Ok.ensures ∙ ap (λ (t : List ℕ). t ++ report_start_of o.events) c.new-held.ensures.bytes in
    let some : IsWriting (start ++ event_lines 1 o.events) old mid held = subst (λ (es : List Event). IsWriting (start ++ event_lines 1 es) old mid held) c.as_slice.ensures c.in_ok-write_events.ensures.some in
    let left = on (report_text_of o) (start ++ event_lines 1 o.events) held (report_end_of o) old old mid (report_begun o start old is) some in
    on_err c.from_residual-in_err-flush.result _
    (cut_all (report_text_of o) (held ++ report_end_of o) old mid new left (subst (λ (t : List ℕ). IsPrefixAdded t mid new) c.in-Ok-put_report_end.ensures c.in_err-flush.ensures.prefix))

pub returns-clause-all : goal.returns-clause-all
returns-clause-all g c =
    let o = c.args.outcome.now in
    let start = string_bytes c.put_report_start.new.out in
    let old = g.W.Sink.written c.args.output.now in
    let mid = g.W.Sink.written c.write_events.new.output in
    let new = g.W.Sink.written c.flush.new.output in
    let held = string_bytes c.write_events.new.held in
    let is : start ≡ report_start_of o.events = c.in-Ok.ensures ∙ ap (λ (t : List ℕ). t ++ report_start_of o.events) c.new-held.ensures.bytes in
    let some : IsWriting (start ++ event_lines 1 o.events) old mid held = subst (λ (es : List Event). IsWriting (start ++ event_lines 1 es) old mid held) c.as_slice.ensures c.in_ok-write_events.ensures.some in
    let left = on (report_text_of o) (start ++ event_lines 1 o.events) held (report_end_of o) old old mid (report_begun o start old is) some in
    ended (report_text_of o) (held ++ report_end_of o) old mid new left (subst (λ (t : List ℕ). Appends t mid new) c.in-Ok-put_report_end.ensures c.in_ok-flush.ensures.all)
