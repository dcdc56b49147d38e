use Rattle.std.proofs.Common.{rules, ◌≡◌, ◌∙◌, ◌<◌, ◌^◌, Ok, None, sym, ap}
use Rattle.std.specs.Option.{option_and_then}
use Rattle.sdb_record.specs.Meta.{checked}
use Rattle.sdb_record.specs.Rolls.{row_of_image}
use Rattle.sdb_record.specs.declared.meta.Meta.{Meta}
use Rattle.sdb_contents.specs.Decided.{decided}
use Rattle.sdb_contents.proofs.Kept.{row_is}
use Rattle.sdb_contents.proofs.DumpLists.{ok_is}
use Rattle.sdb_contents.proofs.rows.row_under.Goals as goal

pub returns-in_ok-row_of-in-Some-2-clause-row : goal.returns-in_ok-row_of-in-Some-2-clause-row
returns-in_ok-row_of-in-Some-2-clause-row c =
    let rec = c.args.rec.now in
    let says = ok_is (λ (m : Meta). checked rec.columns ≡ Ok m) c.meta_of.result c.in-Some.meta c.meta_of.ensures.ok c.in-Some.ensures.value in
    let small : c.in-Some.meta.id.0 < 2 ^ 128 = search rules in
    row_is (decided c.args.decisions.now) rec c.in-Some.meta _ c.in_ok-image.field-0 c.in_ok-row_of-in-Some-2.field-0 says small c.on.ensures c.in_ok-image.ensures (c.in_ok-row_of-in-Some-2.ensures ∙ ap (option_and_then row_of_image) (sym c.in-Some-2.is))

pub returns-in-None-clause-row : goal.returns-in-None-clause-row
returns-in-None-clause-row c =
    let rec = c.args.rec.now in
    let says = ok_is (λ (m : Meta). checked rec.columns ≡ Ok m) c.meta_of.result c.in-Some.meta c.meta_of.ensures.ok c.in-Some.ensures.value in
    let small : c.in-Some.meta.id.0 < 2 ^ 128 = search rules in
    row_is (decided c.args.decisions.now) rec c.in-Some.meta _ c.in_ok-image.field-0 None says small c.on.ensures c.in_ok-image.ensures (ap (option_and_then row_of_image) (sym c.in-None.is))
