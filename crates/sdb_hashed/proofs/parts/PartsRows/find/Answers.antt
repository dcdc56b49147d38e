use Rattle.std.proofs.Common.{List, ◌∙◌, ap, None, Some}
use Rattle.std.specs.Option.{option_map}
use Rattle.std.specs.FinMap.{get}
use Rattle.std.proofs.lemmas.Map.Keys.{IsDistinct-from_sorted}
use Rattle.sdb_hashed.specs.Types.{Pair, Record}
use Rattle.sdb_types.specs.Contents.{record_of}
use Rattle.sdb_hashed.proofs.Calls.{found_part, record_along}
use Rattle.sdb_hashed.proofs.parts.PartsRows.find.Goals as goal

pub returns-in-Some : goal.returns-in-Some
returns-in-Some g c =
    let f = g.R.Rows.contents in
    let key = c.args.key.now in
    let found = rw c.of.ensures at c.in-Some.ensures.value in
    record_along c.find.result (f c.in-Some.rows.now) c.args.self.now key
    (found_part g.K.Ord.cmp g.met.K.Part.exact g.K.Part.part f c.self.inside.rows.entries (IsDistinct-from_sorted g.K.Ord.cmp _ c.self.invariant.0) c.self.invariant.1 key (Some c.in-Some.rows.now) found ∙ ap (λ m. get m key) c.self.view_is)
    c.find.ensures

pub returns-in-None : goal.returns-in-None
returns-in-None g c =
    let key = c.args.key.now in
    let found = rw c.of.ensures at c.in-None.ensures.value in
    let whole : List Pair → Record = λ columns. record_of (key, columns) in
    ap (option_map whole) (found_part g.K.Ord.cmp g.met.K.Part.exact g.K.Part.part g.R.Rows.contents c.self.inside.rows.entries (IsDistinct-from_sorted g.K.Ord.cmp _ c.self.invariant.0) c.self.invariant.1 key None found ∙ ap (λ m. get m key) c.self.view_is)
