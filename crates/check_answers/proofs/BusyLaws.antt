-- The test of Busy is its cause.
use Rattle.std.proofs.Common.{◌≡◌, ℕ, ℤ, Bool, true, false, List, Option, Some, None, refl, sym, ap, ◌∙◌, subst}
use Rattle.std.specs.Prelude.{filter, Contains, ◌&&◌, nat_lt, not}
use Rattle.std.specs.List.{list_any}
use Rattle.std.specs.Cmp.{signed_Decides}
use Rattle.check_answers.specs.Types.{Event, Key, Made, Record, Reply, Request, TxId}
use Rattle.sdb_types.specs.declared.record.Request.TheVariants as ask
use Rattle.sdb_types.specs.declared.record.Reply.TheVariants as reply
use Rattle.sdb_record.specs.Coordinator.{coordinator_key_of, is_expired}
use Rattle.sdb_record.specs.Meta.{id_in, is_unresolved}
use Rattle.sdb_model.specs.Calls as calls
use Rattle.sdb_model.specs.Calls.{calls_of, clock_at, is_read, records_read}
use Rattle.sdb_model.specs.Causes.{IsBusy, IsEarly}
use Rattle.sdb_model.specs.Transactions.{Executed}
use Rattle.check_protocol.proofs.Public.{any_some, is_number, not_true, number_is, right, some_any, true_not}
use Rattle.check_tables.specs.Values.{all_made, made_of}
use Rattle.check_answers.specs.Tests.{busy_among, gets_none, is_at, is_early, is_id, looks_early, prepared_moment}
use Rattle.check_answers.proofs.Finds.{in_contains, contains_in, kept_in, in_kept, made_in, in_made, made_contained, contained_made}
use Rattle.sdb_types.proofs.Public.{and_both as both, and_first as left, clash, same_key_exact, same_key_of}
use Rattle.sdb_types.specs.Order.{same_key}

---- single values

pub id_is : (o : Option TxId) (id : TxId) → is_id o id ≡ true → o ≡ Some id
id_is None id h = clash (sym h)
id_is (Some i) id h = λ k. Some (record { 0 = number_is i.0 id.0 h k })

pub is_id_of : (o : Option TxId) (id : TxId) → o ≡ Some id → is_id o id ≡ true
is_id_of o id e = ap (λ x. is_id x id) e ∙ is_number id.0 id.0 refl

at_is : (o : Option ℤ) (at : ℤ) → is_at o at ≡ true → o ≡ Some at
at_is None at h = clash (sym h)
at_is (Some n) at h = ap Some ((signed_Decides n at).0 h)

is_at_of : (o : Option ℤ) (at : ℤ) → o ≡ Some at → is_at o at ≡ true
is_at_of o at e = ap (λ x. is_at x at) e ∙ (signed_Decides at at).1 refl

got_none : (events : List Event) (row : Key) (at : ℤ) (n : ℕ) (q : Request) (r : Reply) → gets_none events row at n q r ≡ true → (q ≡ ask.Get row) × (r ≡ reply.Found None) × (is_expired at (clock_at events n) ≡ false)
got_none events row at n (ask.Get key) (reply.Found None) h =
    (ap ask.Get (same_key_exact key row (left (same_key key row) (not (is_expired at (clock_at events n))) h)), refl, not_true (is_expired at (clock_at events n)) (right (same_key key row) (not (is_expired at (clock_at events n))) h))
got_none events row at n (ask.Get key) (reply.Found (Some x)) h = clash (sym h)
got_none events row at n (ask.Get key) (reply.Rows rows) h = clash (sym h)
got_none events row at n (ask.Get key) (reply.NotAll place there) h = clash (sym h)
got_none events row at n (ask.Get key) reply.Applied h = clash (sym h)
got_none events row at n (ask.Get key) (reply.NotMet found) h = clash (sym h)
got_none events row at n (ask.Get key) reply.Fault h = clash (sym h)
got_none events row at n (ask.Get key) reply.NoMemory h = clash (sym h)
got_none events row at n (ask.Scan span) r h = clash (sym h)
got_none events row at n (ask.PutIf rec condition) r h = clash (sym h)
got_none events row at n (ask.DeleteIf key condition) r h = clash (sym h)
got_none events row at n (ask.PutAll batch) r h = clash (sym h)

none_got : (events : List Event) (row : Key) (at : ℤ) (n : ℕ) (q : Request) (r : Reply) → q ≡ ask.Get row → r ≡ reply.Found None → is_expired at (clock_at events n) ≡ false → gets_none events row at n q r ≡ true
none_got events row at n q r e f h =
    ap (λ x. gets_none events row at n x r) e ∙ ap (λ x. gets_none events row at n (ask.Get row) x) f
    ∙ both (same_key row row) (not (is_expired at (clock_at events n))) (same_key_of row row refl) (true_not (is_expired at (clock_at events n)) h)

---- records that may not be given up yet

module _ (events : List Event) (ms : List Made) (id : TxId) (at : ℤ) where
  abbrev row : Key
  row = coordinator_key_of id

  abbrev looks : ℕ → Made → Bool
  looks after m = looks_early events after row at m

  pub early_is : (read : Made) (r : Record) → is_early events ms read r id row at ≡ true → IsEarly events (all_made ms) (made_of read) r id at
  early_is read r h =
      let u = is_unresolved r in
      let i = is_id (id_in r.columns) id in
      let a = is_at (prepared_moment r) at in
      let l = list_any (looks read.at) ms in
      let rest = right u (i && (a && l)) h in
      let last = right i (a && l) rest in
      let found = any_some (looks read.at) ms (right a l last) in
      let m = found.0 in
      let after = nat_lt read.at m.at in
      let got = got_none events row at m.at m.request m.reply (right after (gets_none events row at m.at m.request m.reply) found.2) in
      record {
        asked = made_of m;
        unresolved = (left u (i && (a && l)) h, id_is (id_in r.columns) id (left i (a && l) rest), at_is (prepared_moment r) at (left a l last));
        asks = (in_contains (filter (λ (x : calls.StoreCall). nat_lt read.at x.at) (all_made ms)) (made_of m) (kept_in (λ (x : calls.StoreCall). nat_lt read.at x.at) (all_made ms) (made_of m) (made_in ms m found.1) (left after (gets_none events row at m.at m.request m.reply) found.2)), got.0, got.1);
        early = got.2;
      }

  pub is_early_of : (read : Made) (r : Record) → IsEarly events (all_made ms) (made_of read) r id at → is_early events ms read r id row at ≡ true
  is_early_of read r s =
      let u = is_unresolved r in
      let i = is_id (id_in r.columns) id in
      let a = is_at (prepared_moment r) at in
      let l = list_any (looks read.at) ms in
      let kept = in_kept (λ (x : calls.StoreCall). nat_lt read.at x.at) (all_made ms) s.asked (contains_in (filter (λ (x : calls.StoreCall). nat_lt read.at x.at) (all_made ms)) s.asked s.asks.0) in
      let m = in_made ms s.asked kept.0 in
      both u (i && (a && l)) s.unresolved.0
      (both i (a && l) (is_id_of (id_in r.columns) id s.unresolved.1)
      (both a l (is_at_of (prepared_moment r) at s.unresolved.2)
      (some_any (looks read.at) ms m.0 m.1
      (both (nat_lt read.at m.0.at) (gets_none events row at m.0.at m.0.request m.0.reply) (sym (ap (λ (x : calls.StoreCall). nat_lt read.at x.at) m.2) ∙ kept.1)
      (none_got events row at m.0.at m.0.request m.0.reply (sym (ap (λ (x : calls.StoreCall). x.request) m.2) ∙ s.asks.1) (sym (ap (λ (x : calls.StoreCall). x.reply) m.2) ∙ s.asks.2)
      (sym (ap (λ (x : calls.StoreCall). is_expired at (clock_at events x.at)) m.2) ∙ s.early))))))

  pub busy_is : (client : ℕ) (s : Executed) (key : Key) → all_made ms ≡ calls_of events client s → busy_among events ms key id row at ≡ true → IsBusy events client s key id at
  busy_is client s key e h =
      let f = λ (m : Made) (r : Record). same_key r.key key && is_early events ms m r id row at in
      let found = any_some (λ (m : Made). is_read m.request && list_any (f m) (records_read m.reply)) ms h in
      let m = found.0 in
      let rec = any_some (f m) (records_read m.reply) (right (is_read m.request) (list_any (f m) (records_read m.reply)) found.2) in
      let r = rec.0 in
      record {
        read = made_of m;
        found = r;
        reads = (subst (λ cs. Contains cs (made_of m)) e (made_contained ms m found.1), left (is_read m.request) (list_any (f m) (records_read m.reply)) found.2, in_contains (records_read m.reply) r rec.1, same_key_exact r.key key (left (same_key r.key key) (is_early events ms m r id row at) rec.2));
        early = subst (λ cs. IsEarly events cs (made_of m) r id at) e (early_is m r (right (same_key r.key key) (is_early events ms m r id row at) rec.2));
      }

  pub is_busy_of : (client : ℕ) (s : Executed) (key : Key) → all_made ms ≡ calls_of events client s → IsBusy events client s key id at → busy_among events ms key id row at ≡ true
  is_busy_of client s key e b =
      let f = λ (m : Made) (r : Record). same_key r.key key && is_early events ms m r id row at in
      let c = contained_made ms b.read (subst (λ cs. Contains cs b.read) (sym e) b.reads.0) in
      let m = c.0 in
      let early = subst (λ (x : calls.StoreCall). IsEarly events (all_made ms) x b.found id at) c.2 (subst (λ cs. IsEarly events cs b.read b.found id at) (sym e) b.early) in
      some_any (λ (m : Made). is_read m.request && list_any (f m) (records_read m.reply)) ms m c.1
      (both (is_read m.request) (list_any (f m) (records_read m.reply)) (sym (ap (λ (x : calls.StoreCall). is_read x.request) c.2) ∙ b.reads.1)
      (some_any (f m) (records_read m.reply) b.found (contains_in (records_read m.reply) b.found (subst (λ (x : calls.StoreCall). Contains (records_read x.reply) b.found) c.2 b.reads.2))
      (both (same_key b.found.key key) (is_early events ms m b.found id row at) (same_key_of b.found.key key b.reads.3) (is_early_of m b.found early))))
