use Rattle.std.proofs.Common.{◌∙◌, ap}
use Rattle.std.specs.Ordering.{eq_by_cmp}
use Rattle.std.proofs.lemmas.Map.Keys.{IsDistinct-from_sorted}
use Rattle.sdb_types.specs.Contents.{rows_in}
use Rattle.sdb_hashed.specs.Gathered.{contents_of_all}
use Rattle.sdb_hashed.proofs.Spans.{rows_along, part_rows, no_part}
use Rattle.sdb_types.proofs.Public.{same_rows}
use Rattle.sdb_hashed.proofs.parts.PartsRows.list.Goals as goal

pub returns-in-Some-get : goal.returns-in-Some-get
returns-in-Some-get g c =
    let f = g.R.Rows.contents in
    let span = c.args.span.now in
    let v = c.in-Some-get.rows.now in
    let rows = part_rows (eq_by_cmp g.K.Ord.cmp) g.met.K.Part.exact g.K.Part.part f c.self.inside.rows.entries (IsDistinct-from_sorted g.K.Ord.cmp _ c.self.invariant.0) c.self.invariant.1 span c.in-Some.part.now v c.in-Some.ensures c.in-Some-get.ensures.value in
    rows_along c.list.result (rows_in span (f v)) (rows_in span c.args.self.now) (rows ∙ ap (rows_in span) c.self.view_is) c.list.ensures

pub returns-in-None-get : goal.returns-in-None-get
returns-in-None-get g c =
    let span = c.args.span.now in
    c.new.ensures ∙ no_part (eq_by_cmp g.K.Ord.cmp) g.met.K.Part.exact g.K.Part.part g.R.Rows.contents c.self.inside.rows.entries (IsDistinct-from_sorted g.K.Ord.cmp _ c.self.invariant.0) c.self.invariant.1 span c.in-Some.part.now c.in-Some.ensures c.in-None-get.ensures.value ∙ ap (rows_in span) c.self.view_is

pub returns-in_ok-gather-in-None : goal.returns-in_ok-gather-in-None
returns-in_ok-gather-in-None g c =
    let span = c.args.span.now in
    let all = c.in_ok-gather-in-None.field-0 in
    rows_along c.list-in-None.result (rows_in span all) (rows_in span c.args.self.now) (same_rows span all (contents_of_all g.R.Rows.contents c.self.inside.rows.entries) c.in_ok-gather-in-None.ensures ∙ ap (rows_in span) c.self.view_is) c.list-in-None.ensures
