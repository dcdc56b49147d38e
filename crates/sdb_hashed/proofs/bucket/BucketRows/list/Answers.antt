use Rattle.std.proofs.Common.{◌≡◌, List, true, sym, ap, subst, ◌∙◌}
use Rattle.std.specs.Prelude.{filter}
use Rattle.sdb_types.specs.declared.record.Record.{Record}
use Rattle.sdb_types.specs.Contents.{in_span, rise, rows_in}
use Rattle.sdb_hashed.specs.Bucket.{contents_of_bucket}
use Rattle.sdb_hashed.proofs.Sorting.{rows_are}
use Rattle.sdb_hashed.proofs.Spans.{rows_along}
use Rattle.sdb_hashed.proofs.bucket.BucketRows.list.Goals as goal

pub returns : goal.returns
returns c =
    let span = c.args.span.now in
    let rs : List Record = c.args.self.now in
    let sorted = subst (λ (xs : List Record). rise xs ≡ true) c.self.view_is c.self.invariant in
    rows_along c.records_in.result (filter (λ (r : Record). in_span span r.key) c.as_slice.result.now) (rows_in span (contents_of_bucket rs))
    (ap (filter (λ (r : Record). in_span span r.key)) (c.as_slice.ensures ∙ c.self.view_is) ∙ sym (rows_are span rs sorted)) c.records_in.ensures
