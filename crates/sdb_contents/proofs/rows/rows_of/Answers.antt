use Rattle.std.proofs.Common.{◌≡◌, ◌∙◌, ◌++◌, ◌∷◌, [], false, List, take, sym, ap}
use Rattle.std.specs.Prelude.{find, not}
use Rattle.std.specs.List.{cons_option, filter_map}
use Rattle.std.proofs.lemmas.List.Elements.{filter_map-append}
use Rattle.sdb_contents.specs.Types.{Image, Key, Record}
use Rattle.sdb_contents.specs.Decided.{decided}
use Rattle.sdb_contents.specs.Dumped.{image_by, is_well_formed}
use Rattle.sdb_contents.proofs.DumpLists.{none_more}
use Rattle.sdb_contents.proofs.Refusals.{first_is, item_at, item_more, passed, refused_as}
use Rattle.sdb_contents.proofs.rows.rows_of.Goals as goal

pub loop-rec-preserved : goal.loop-rec-preserved
loop-rec-preserved c =
    let before = c.loop-rec.invariant in
    let records = c.args.records.now in
    let i = c.loop-rec.rec-index in
    let rec = c.rec-item.result in
    let image = image_by (decided c.args.decisions.now) in
    let well = is_well_formed (decided c.args.decisions.now) c.args.table.now in
    let next = item_more records i rec c.loop-rec-test.true c.rec-item.is in
    record {
      rows = c.in_ok-push_row.ensures.rows ∙ ap (λ (rs : List Image). rs ++ cons_option (image rec) []) before.rows
          ∙ sym (ap (filter_map image) next ∙ filter_map-append image (take i records) (rec ∷ []));
      well_formed = ap (find (λ (r : Record). not (well r))) next ∙ none_more (λ (r : Record). not (well r)) (take i records) rec before.well_formed (ap not c.in_ok-push_row.ensures.well_formed);
    }

pub returns-in_err-push_row-clause-err : goal.returns-in_err-push_row-clause-err
returns-in_err-push_row-clause-err c =
    let records = c.args.records.now in
    let i = c.loop-rec.rec-index in
    let rec = c.rec-item.result in
    let well = is_well_formed (decided c.args.decisions.now) c.args.table.now in
    passed _ c.from_residual.result c.in_err-push_row.field-0.0 c.from_residual.ensures.1
    (refused_as (λ (key : Key). (key ≡ rec.key) × (well rec ≡ false)) _ ⊥ ⊥ c.in_err-push_row.field-0.0
    (λ key bad. first_is well records i rec key (item_at records i rec c.loop-rec-test.true c.rec-item.is) c.loop-rec.invariant.well_formed bad) (λ h. h) c.in_err-push_row.ensures.err)
