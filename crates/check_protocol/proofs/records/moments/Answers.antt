use Rattle.std.proofs.Common.{◌≡◌, ◌∙◌, ◌+◌, ◌++◌, List, [], ◌∷◌, take, sym, ap}
use Rattle.std.specs.Prelude.{ℤ}
use Rattle.std.specs.List.{filter_map, cons_option}
use Rattle.std.proofs.lemmas.List.{take_more}
use Rattle.std.proofs.lemmas.List.Elements.{filter_map-append}
use Rattle.sdb_types.specs.declared.record.Record.{Record}
use Rattle.check_protocol.specs.Observed.{row_moment}
use Rattle.check_protocol.proofs.records.moments.Goals as goal

pub loop-rec-preserved : goal.loop-rec-preserved
loop-rec-preserved c =
    let next : take (c.loop-rec.rec-index + 1) c.args.found_in.now ≡ take c.loop-rec.rec-index c.args.found_in.now ++ c.rec-item.result ∷ [] =
    take_more c.args.found_in.now c.loop-rec.rec-index c.rec-item.result c.loop-rec-test.true ∙ ap (λ (r : Record). take c.loop-rec.rec-index c.args.found_in.now ++ r ∷ []) (sym c.rec-item.is) in
    c.in_ok-add_moment.ensures ∙ ap (λ (ms : List ℤ). ms ++ cons_option (row_moment c.args.row.now c.rec-item.result) []) c.loop-rec.invariant
    ∙ sym (ap (filter_map (row_moment c.args.row.now)) next ∙ filter_map-append (row_moment c.args.row.now) (take c.loop-rec.rec-index c.args.found_in.now) (c.rec-item.result ∷ []))
