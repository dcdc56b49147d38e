-- What stores hold, as it is seen after calls that change nothing.
use Rattle.std.proofs.Common.{◌≡◌, ◌∙◌, inl, inr, Bool, true, List, [], Option, Some, None, refl, sym, ap, subst}
use Rattle.std.specs.Prelude.{◌&&◌, IsSomeAnd}
use Rattle.std.specs.Option.{option_map_or}
use Rattle.std.specs.Ordering.{is_eq}
use Rattle.std.specs.Cmp.{tied_itself}
use Rattle.sdb_contents.specs.Types.{Decided, Key, Place, Record, Table, TableDump, TableName, TxId}
use Rattle.sdb_types.specs.Contents.{Contents, in_span, record_among, record_at, rows_in}
use Rattle.sdb_types.proofs.Public.{table_total}
use Rattle.sdb_record.specs.declared.coordinator.Decision.TheVariants as decision
use Rattle.sdb_record.specs.Coordinator.{coordinator_table}
use Rattle.law_protocol.proofs.Public.{row_there}
use Rattle.sdb_stores.specs.Views.{Attached}
use Rattle.sdb_model.specs.Events.{StoreContents, contents_under, stored_at, store_of}
use Rattle.sdb_model.specs.Images.{decision_at}
use Rattle.sdb_model.specs.Transactions.{Recorded}
use Rattle.sdb_contents.specs.Board.{AreUsable, AreUsableFor, GoOn, HoldTheSame, KnownAreUnchanged, known_before, contents_of_views}
use Rattle.sdb_contents.specs.Opening.{records_in, records_of, whole}
use Rattle.sdb_contents.proofs.Empty.{records_stay}
use Rattle.sdb_contents.proofs.GoesOn.{fit_for, fit_for_as, fit_for_before}
use Rattle.sdb_contents.specs.Decided.{decision_among, is_decided}
use Rattle.sdb_contents.specs.Dumped.{dump_by, is_well_formed}
use Rattle.sdb_contents.specs.Held.{AreDecisions, AreDumpsWhereKnown, AreWellFormedWhereKnown, IsOddIn}
use Rattle.sdb_contents.specs.Odd.{IsOdd, IsOddAt}
use Rattle.sdb_contents.specs.Refused.{first_unlike}
use Rattle.sdb_contents.proofs.Closings.{coordinator_played}
use Rattle.sdb_contents.proofs.Images.{decision_there, dump_same, first_ill_formed_same, ill_formed_same}
use Rattle.sdb_model.specs.Tables.{is_table_of_run}

-- the record at a key is the one among those of its table
standing_there : (places : List Place) (store_contents : List StoreContents) (key : Key) → record_among (records_of places store_contents key.table) key ≡ stored_at places store_contents key
standing_there places store_contents key = by (contents_under store_contents (store_of places store_contents key.table.ns))
  where
    inside : in_span (whole key.table) key ≡ true
    inside = ap (λ (b : Bool). b && true) (ap is_eq (tied_itself table_total key.table))

    by : (o : Option Contents) → record_among (option_map_or (rows_in (whole key.table)) o []) key ≡ option_map_or (λ (m : Contents). record_at m key) o None
    by None = refl
    by (Some m) = row_there (whole key.table) key m inside

-- under the decisions of what the stores hold it is odd too
decided_odd : (catalog : List Table) (places : List Place) (store_contents : List StoreContents) (decide : TxId → Option Decided) (key : Key) → AreDecisions places store_contents decide → IsOddAt catalog places store_contents decide key → IsOddAt catalog places store_contents (decision_at places store_contents) key
decided_odd catalog places store_contents decide key are o = record { found = o.found; agrees = o.agrees; odd = by o.odd }
  where
    by : IsOdd catalog decide o.found → IsOdd catalog (decision_at places store_contents) o.found
    by (inl i) = inl (record { table = i.table; listed = i.listed; named = i.named; ill_formed = ill_formed_same places store_contents decide i.table o.found are i.ill_formed })
    by (inr row) = inr row

module _ (old new : Attached) (goes : GoOn old new) (stay : KnownAreUnchanged old new) where
  standing_later : (key : Key) → AreUsableFor key.table (known_before old new) → stored_at new.places (contents_of_views new.views) key ≡ stored_at old.places (contents_of_views old.views) key
  standing_later key fit =
      sym (standing_there new.places (contents_of_views new.views) key)
      ∙ ap (λ (rs : List Record). record_among rs key) (records_stay old new key.table goes stay (fit_for_before old new key.table goes fit))
      ∙ standing_there old.places (contents_of_views old.views) key

  decision_later : (id : TxId) → AreUsableFor coordinator_table (known_before old new) → decision_at new.places (contents_of_views new.views) id ≡ decision_at old.places (contents_of_views old.views) id
  decision_later id fit =
      sym (decision_there new.places (contents_of_views new.views) id)
      ∙ ap (λ (rs : List Record). decision_among rs id) (records_stay old new coordinator_table goes stay (fit_for_before old new coordinator_table goes fit))
      ∙ decision_there old.places (contents_of_views old.views) id

  pub recorded_later : (id : TxId) → AreUsableFor coordinator_table (known_before old new) → Recorded old.places (contents_of_views old.views) id → Recorded new.places (contents_of_views new.views) id
  recorded_later id fit h = subst (λ (o : Option Decided). IsSomeAnd o (λ d. d.decision ≡ decision.Committed)) (sym (decision_later id fit)) h

  pub odd_later : (catalog : List Table) (key : Key) → IsOddIn catalog old key → IsOddIn catalog (known_before old new) key
  odd_later catalog key odd = record {
    correct = odd.correct;
    decide = odd.decide;
    decisions = λ fit. record { at = λ id small. (odd.decisions (fit_for_before old new coordinator_table goes fit)).at id small ∙ sym (decision_later id fit) };
    odd = λ fit.
        let o = odd.odd (fit_for_before old new key.table goes fit) in
        record { found = o.found; agrees = standing_later key fit ∙ o.agrees; odd = o.odd };
  }

  pub dumps_later : (catalog : List Table) (dumps : List TableDump) → AreDumpsWhereKnown catalog old dumps → AreDumpsWhereKnown catalog (known_before old new) dumps
  dumps_later catalog dumps h = record {
    named = h.named;
    each = λ i t dump here there fit coordinator.
        h.each i t dump here there (fit_for_before old new t.name goes fit) (fit_for_before old new coordinator_table goes coordinator)
        ∙ sym (dump_same new.places (contents_of_views new.views) (decision_at old.places (contents_of_views old.views)) t (records_in old t.name) (record { at = λ id small. sym (decision_later id coordinator) }))
        ∙ sym (ap (dump_by (decision_at new.places (contents_of_views new.views)) t) (records_stay old new t.name goes stay (fit_for_before old new t.name goes fit)));
  }

  pub well_formed_later : (catalog : List Table) → AreWellFormedWhereKnown catalog old → AreWellFormedWhereKnown catalog (known_before old new)
  well_formed_later catalog h = record {
    rows = λ fit. ap (first_unlike is_decided) (records_stay old new coordinator_table goes stay (fit_for_before old new coordinator_table goes fit)) ∙ h.rows (fit_for_before old new coordinator_table goes fit);
    records = λ coordinator i t here fit.
        let fit_t = fit_for_before old new t.name goes fit in
        first_ill_formed_same new.places (contents_of_views new.views) (decision_at old.places (contents_of_views old.views)) t (records_in new t.name) (record { at = λ id small. sym (decision_later id coordinator) })
        ∙ ap (first_unlike (is_well_formed (decision_at old.places (contents_of_views old.views)) t)) (records_stay old new t.name goes stay fit_t)
        ∙ h.records (fit_for_before old new coordinator_table goes coordinator) i t here fit_t;
  }

  -- where all stores of a catalog are known, it was there before
  pub odd_before : (catalog : List Table) (key : Key) → AreUsable catalog old → HoldTheSame old new → IsOddIn catalog (known_before old new) key → IsOddAt catalog old.places (contents_of_views old.views) (decision_at old.places (contents_of_views old.views)) key
  odd_before catalog key fit still odd =
      let fit_now : (table : TableName) → is_table_of_run catalog table ≡ true → AreUsableFor table (known_before old new) = λ table about. fit_for_as old (known_before old new) table goes.places goes.names (λ at t. t) (fit_for catalog old table about fit) in
      subst (λ (ss : List StoreContents). IsOddAt catalog old.places ss (decision_at old.places ss) key) still
      (subst (λ (ps : List Place). IsOddAt catalog ps (contents_of_views new.views) (decision_at ps (contents_of_views new.views)) key) goes.places
      (decided_odd catalog new.places (contents_of_views new.views) odd.decide key (odd.decisions (fit_now coordinator_table (coordinator_played catalog coordinator_table refl))) (odd.odd (fit_now key.table odd.correct))))
