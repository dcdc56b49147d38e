use Rattle.std.proofs.Common.{◌≡◌, ◌∙◌, true, sym, ap}
use Rattle.sdb_types.specs.Contents.{are_rows_of}
use Rattle.sdb_contents.specs.Opening.{whole}
use Rattle.sdb_contents.specs.Decided.{decided}
use Rattle.sdb_contents.specs.Dumped.{dump_by, is_well_formed}
use Rattle.sdb_contents.specs.Refused.{first_unlike}
use Rattle.sdb_contents.proofs.Closings.{unlike_of}
use Rattle.sdb_contents.proofs.Refusals.{ok_then, refused_as, refused_then}
use Rattle.sdb_contents.proofs.closing.dump.Goals as goal

pub returns-clause-dump : goal.returns-clause-dump
returns-clause-dump g c =
    let decide = decided c.args.decisions.now in
    ok_then _ _ c.dump_of.result (λ dump is fit. is ∙ ap (dump_by decide c.args.table.now) (c.as_slice.ensures ∙ c.in_ok-records.ensures.rows fit)) c.dump_of.ensures.dump

pub returns-clause-err : goal.returns-clause-err
returns-clause-err g c =
    let t = c.args.table.now in
    let table = t.name in
    let decide = decided c.args.decisions.now in
    let of : are_rows_of (whole table) c.as_slice.result.now ≡ true = ap (are_rows_of (whole table)) c.as_slice.ensures ∙ c.in_ok-records.ensures.of in
    refused_then _ _ c.dump_of.result
    (λ e h. refused_as _ _ ⊥ _ e
    (λ key first. record {
      named = unlike_of table (is_well_formed decide t) c.as_slice.result.now key of first;
      first = λ fit. ap (first_unlike (is_well_formed decide t)) (sym (c.as_slice.ensures ∙ c.in_ok-records.ensures.rows fit)) ∙ first;
    })
    (λ never. absurd never) h) c.dump_of.ensures.err
