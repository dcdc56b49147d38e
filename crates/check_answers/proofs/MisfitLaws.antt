-- The test of a statement that meets a row which doesn't fit is its cause.
use Rattle.std.proofs.Common.{◌≡◌, ℕ, Bool, true, false, List, length, Option, ap, ◌∙◌}
use Rattle.std.specs.Prelude.{◌↔◌, ◌&&◌, IsTrue, nat_le}
use Rattle.std.specs.List.{list_any}
use Rattle.std.specs.Option.{option_map_or}
use Rattle.check_answers.specs.Types.{Event, Key, Record, Statement, Table, TxId}
use Rattle.sdb_types.specs.Order.{same_key}
use Rattle.sdb_types.proofs.Public.{and_both as both, and_first as left, at_most_nat, nat_at_most, same_key_exact, same_key_of}
use Rattle.sdb_model.specs.Access.{in_access}
use Rattle.sdb_model.specs.Calls.{StoreCall, calls_of, records_read}
use Rattle.sdb_model.specs.Catalogs.{catalog_after}
use Rattle.sdb_model.specs.Causes.{MeetsMisfit, before, is_misfit}
use Rattle.sdb_model.specs.Exec.{named_table}
use Rattle.sdb_model.specs.ReadSet.{has_read, reads_rows}
use Rattle.sdb_model.specs.Reads.{access_of}
use Rattle.sdb_model.specs.Transactions.{Executed, id_of, statements_by, statements_of}
use Rattle.check_protocol.proofs.Public.{any_some, not_both, right, some_any}
use Rattle.check_answers.specs.Tests.{IsReading, any_id, any_misfit, any_upto, has_read_misfit, is_in, misfit_of, reads_at, reads_misfit}
use Rattle.check_answers.proofs.Decided.{decide_by, never}
use Rattle.check_answers.proofs.Finds.{contains_in, in_contains}
use Rattle.check_answers.proofs.IdLaws.{id_some, in_found, in_is, is_in_of}
use Rattle.check_answers.proofs.Maps.{of_some, some_of}
use Rattle.check_answers.proofs.ReadLaws.{passed, read}

module _ (catalog : List Table) (events : List Event) (client : ℕ) (s : Executed) (o : Option Statement) (reading : IsReading s.text o) (key : Key) where
  -- the tables with which it was accepted
  abbrev then : List Table
  then = catalog_after catalog (before s events)

  abbrev has : Executed → Bool
  has b = has_read_misfit then events client s.accepted key b

  abbrev here : TxId → Bool
  here id = misfit_of then events client s key id

  abbrev among : TxId → Bool
  among id = list_any has (statements_of events id)

  abbrev by : Executed → List StoreCall
  by b = calls_of events client b

  abbrev found : Executed → Record → Bool
  found b x = same_key x.key key && is_misfit then (by b) x

  abbrev at : Statement → Table → Bool
  at st t = in_access (access_of t st) key

  meets_is : option_map_or (reads_at then key) o false ≡ true → any_id events client here ≡ true → MeetsMisfit catalog events client s key
  meets_is h k =
      let st = passed s o reading (reads_at then key) h in
      let t = some_of (at st.0) (named_table then st.0) st.2 in
      let id = id_some events client here k in
      let b = any_some has (statements_of events id.0) (right (is_in events client s id.0) (among id.0) id.1) in
      let within = in_is events client s id.0 (left (is_in events client s id.0) (among id.0) id.1) in
      let any = any_misfit then (by b.0) key in
      let more = right (nat_le b.0.accepted s.accepted) (has_read events client b.0 && any) b.2 in
      let m = any_some (reads_misfit then (by b.0) key) (by b.0) (right (has_read events client b.0) any more) in
      let shows = list_any (found b.0) (records_read m.0.reply) in
      let r = any_some (found b.0) (records_read m.0.reply) (right (reads_rows m.0) shows m.2) in
      record {
        id = id.0;
        statement = st.0;
        table = t.0;
        reader = b.0;
        call = m.0;
        found = r.0;
        within = (within, (within.0, in_contains (statements_of events id.0) b.0 b.1), nat_at_most b.0.accepted s.accepted (left (nat_le b.0.accepted s.accepted) (has_read events client b.0 && any) b.2));
        over = (st.1, t.1, t.2);
        finished = left (has_read events client b.0) any more;
        reads = (in_contains (by b.0) m.0 m.1, left (reads_rows m.0) shows m.2, in_contains (records_read m.0.reply) r.0 r.1, same_key_exact r.0.key key (left (same_key r.0.key key) (is_misfit then (by b.0) r.0) r.2));
        misfit = right (same_key r.0.key key) (is_misfit then (by b.0) r.0) r.2;
      }

  is_read : MeetsMisfit catalog events client s key → option_map_or (reads_at then key) o false ≡ true
  is_read x = ap (λ y. option_map_or (reads_at then key) y false) (read s o reading x.statement x.over.0) ∙ of_some (at x.statement) (named_table then x.statement) x.table x.over.1 x.over.2

  is_shown : (x : MeetsMisfit catalog events client s key) → reads_misfit then (by x.reader) key x.call ≡ true
  is_shown x =
      both (reads_rows x.call) (list_any (found x.reader) (records_read x.call.reply)) x.reads.1
      (some_any (found x.reader) (records_read x.call.reply) x.found (contains_in (records_read x.call.reply) x.found x.reads.2)
      (both (same_key x.found.key key) (is_misfit then (by x.reader) x.found) (same_key_of x.found.key key x.reads.3) x.misfit))

  has_it : (x : MeetsMisfit catalog events client s key) → has x.reader ≡ true
  has_it x =
      let any = any_misfit then (by x.reader) key in
      both (nat_le x.reader.accepted s.accepted) (has_read events client x.reader && any) (at_most_nat x.reader.accepted s.accepted x.within.2)
      (both (has_read events client x.reader) any x.finished (some_any (reads_misfit then (by x.reader) key) (by x.reader) x.call (contains_in (by x.reader) x.call x.reads.0) (is_shown x)))

  is_met : MeetsMisfit catalog events client s key → any_id events client here ≡ true
  is_met x =
      in_found events client s here x.id x.within.0
      (both (is_in events client s x.id) (among x.id) (is_in_of events client s x.id x.within.0)
      (some_any has (statements_of events x.id) x.reader (contains_in (statements_of events x.id) x.reader x.within.1.1) (has_it x)))

  pub misfit : option_map_or (reads_at then key) o false ≡ true → (b : Bool) (n : ℕ) → n ≡ length (statements_by client events) → b ≡ any_upto (λ k. here (id_of client k)) n → IsTrue b ↔ MeetsMisfit catalog events client s key
  misfit h b n l f =
      decide_by b (any_upto (λ k. here (id_of client k)) (length (statements_by client events))) (f ∙ ap (any_upto (λ k. here (id_of client k))) l) (meets_is h) is_met

  pub no_misfit : option_map_or (reads_at then key) o false ≡ false → IsTrue false ↔ MeetsMisfit catalog events client s key
  no_misfit h = never (λ x. not_both (option_map_or (reads_at then key) o false) (is_read x) h)
