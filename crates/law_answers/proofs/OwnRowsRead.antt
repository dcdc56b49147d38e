-- What a read found at a key is what its calls showed there.
use Rattle.std.proofs.Common.{◌≡◌, ℕ, Bool, true, false, cond, List, [], map, Option, Some, None, refl, sym, ap, subst, ◌∙◌}
use Rattle.std.specs.Prelude.{Contains, is_some, slice_get}
use Rattle.std.specs.Cmp.{tied_itself}
use Rattle.std.specs.Option.{option_map}
use Rattle.std.specs.Ordering.{is_eq}
use Rattle.std.proofs.lemmas.List.{append-nil}
use Rattle.std.proofs.lemmas.List.Elements.{Contains-push}
use Rattle.law_answers.specs.Types.{Access, Event, Key, Pair, Record, Reply, Request, Table, Write}
use Rattle.sdb_types.specs.declared.record.Reply.TheVariants as reply
use Rattle.sdb_types.specs.declared.record.Request.TheVariants as ask
use Rattle.sdb_types.specs.Contents.{CanAnswer, record_among}
use Rattle.sdb_types.proofs.Public.{clash, key_total, none_some, or_else, same_key_exact, some_is}
use Rattle.sdb_types.specs.Order.{same_key}
use Rattle.sdb_snapshot.specs.Entries.{value_at}
use Rattle.sdb_record.specs.declared.access.Access.TheVariants as access
use Rattle.sdb_record.specs.Among.{is_written, write_among}
use Rattle.sdb_model.specs.Access.{in_access}
use Rattle.sdb_model.specs.Calls.{StoreCall, calls_of, records_read}
use Rattle.sdb_model.specs.Explained.{IsTableKey, Observes}
use Rattle.sdb_model.specs.ReadSet.{has_read}
use Rattle.sdb_model.specs.DirtyReads.{WasFound}
use Rattle.sdb_model.specs.Sql.{reads_vacuum}
use Rattle.sdb_model.specs.Transactions.{Executed}
use Rattle.sdb_txn.specs.Read.{request_of}
use Rattle.sdb_snapshot.specs.Sets.{WereRead}
use Rattle.sdb_snapshot.specs.Reads.{base_at, is_key_read}
use Rattle.sdb_snapshot.specs.Rows.{row_found}
use Rattle.sdb_snapshot.specs.Seen.{Seen, row_seen, row_with}
use Rattle.law_clients.proofs.Public.{among_found}
use Rattle.sdb_txn.specs.Txn.{TxnAt}
use Rattle.sdb_client.specs.Client.{with_rows_read}
use Rattle.law_answers.specs.Changes.{HasRead, IsRows}
use Rattle.law_answers.specs.Unfit.{fits_if_any}
use Rattle.law_answers.specs.Views.{HasBefore, SeesOwn}
use Rattle.law_answers.proofs.Ends.{first_in}
use Rattle.law_answers.proofs.Moving.{scan_shows}
use Rattle.law_answers.proofs.Settling.{found_meant, got_image}
use Rattle.law_answers.proofs.OwnRows.{has_before, has_shown}
use Rattle.law_answers.proofs.Unfit.{IsReadAt, at_note, found_new, new_read, rows_read_now, same_writes}

---- what a call found

-- the call shows it
shows_it : (m : StoreCall) (q : Request) (r : Reply) (key : Key) (found : Option Record) → m.request ≡ q → m.reply ≡ r → Observes q r key found → Observes m.request m.reply key found
shows_it m q r key found e f h = subst (λ (x : Request). Observes x m.reply key found) (sym e) (subst (λ (x : Reply). Observes q x key found) (sym f) h)

-- a get found a record, or none
got_by : (calls : List StoreCall) (k : Key) (images : List Record) (h : HasRead (ask.Get k) calls images []) → WasFound calls k (row_found (slice_get images 0))
got_by calls k images h = by h.first.reply refl h.can h.answered
  where
    by : (r : Reply) → h.first.reply ≡ r → CanAnswer (ask.Get k) r → IsRows r → WasFound calls k (row_found (slice_get images 0))
    by (reply.Found found) e can answered = record {
      call = h.first;
      found = found;
      among = first_in h.first h.rest calls h.calls_are;
      shows = shows_it h.first (ask.Get k) (reply.Found found) k found h.request e (refl, refl);
      agrees = ap row_found (ap (λ is. slice_get is 0) h.images_are ∙ sym (got_image calls h.steps found h.settled (ap records_read (sym e) ∙ h.rows ∙ append-nil (map (λ x. x.0) h.steps))));
      meant = found_meant calls (ask.Get k) images h found (λ r is. subst (λ (x : Reply). Contains (records_read x) r) (sym (e ∙ ap reply.Found is)) (Contains-push [] r));
    }
    by (reply.Rows rows) e can answered = absurd can
    by (reply.NotAll place there) e can answered = absurd can
    by reply.Applied e can answered = absurd answered
    by (reply.NotMet found) e can answered = absurd answered
    by reply.Fault e can answered = absurd answered
    by reply.NoMemory e can answered = absurd answered

-- what a read found at a key that it noted
found_by : (calls : List StoreCall) (a : Access) (images : List Record) (h : HasRead (request_of a) calls images []) → (q : Key) (o : Option Record) → found_new a images q ≡ Some o → WasFound calls q (row_found o)
found_by calls (access.Get k) images h q o e = by (same_key q k) refl e
  where
    by : (t : Bool) → same_key q k ≡ t → cond t (Some (slice_get images 0)) None ≡ Some o → WasFound calls q (row_found o)
    by false s f = none_some o f
    by true s f = subst (λ (x : Option Record). WasFound calls q (row_found x)) (some_is (slice_get images 0) o f) (subst (λ (x : Key). WasFound calls x (row_found (slice_get images 0))) (sym (same_key_exact q k s)) (got_by calls k images h))
found_by calls (access.Scan span) images h q o e = by (record_among images q) refl e
  where
    found : (b : Record) → record_among images q ≡ Some b → WasFound calls q (row_found (Some b))
    found b s =
        let shows = scan_shows calls span images q h in
        let r : IsReadAt calls h.first (access.Scan span) q b = new_read calls (access.Scan span) images h q b (ap (option_map Some) s) in
        record {
          call = h.first;
          found = record_among shows.0 q;
          among = first_in h.first h.rest calls h.calls_are;
          shows = shows_it h.first (ask.Scan span) (reply.Rows shows.0) q (record_among shows.0 q) h.request shows.1 (r.inside, refl);
          agrees = ap row_found (sym (shows.2 ∙ s));
          meant = found_meant calls (ask.Scan span) images h (record_among shows.0 q) (λ x is. subst (λ (y : Reply). Contains (records_read y) x) (sym shows.1) (among_found shows.0 q x is));
        }

    by : (x : Option Record) → record_among images q ≡ x → option_map Some x ≡ Some o → WasFound calls q (row_found o)
    by None s f = none_some o f
    by (Some b) s f = subst (λ (x : Option Record). WasFound calls q (row_found x)) (some_is (Some b) o f) (found b s)

-- the key is one of the read's
new_inside : (calls : List StoreCall) (a : Access) (images : List Record) (h : HasRead (request_of a) calls images []) (q : Key) (o : Option Record) → found_new a images q ≡ Some o → in_access a q ≡ true
new_inside calls (access.Get k) images h q o e = by (same_key q k) refl e
  where
    by : (t : Bool) → same_key q k ≡ t → cond t (Some (slice_get images 0)) None ≡ Some o → in_access (access.Get k) q ≡ true
    by false s f = none_some o f
    by true s f = subst (λ (x : Key). in_access (access.Get k) x ≡ true) (sym (same_key_exact q k s)) (ap is_eq (tied_itself key_total k))
new_inside calls (access.Scan span) images h q o e = by (record_among images q) refl e
  where
    by : (x : Option Record) → record_among images q ≡ x → option_map Some x ≡ Some o → in_access (access.Scan span) q ≡ true
    by None s f = none_some o f
    by (Some b) s f = let r : IsReadAt calls h.first (access.Scan span) q b = new_read calls (access.Scan span) images h q b (ap (option_map Some) s) in r.inside

---- what a transaction then sees

-- by what was noted at the key, and what was found there now
row_now : (t : TxnAt) (a : Access) (images : List Record) (q : Key) → row_seen (with_rows_read t a images).seen.read_set (with_rows_read t a images).seen.writes q ≡ row_with (write_among t.seen.writes q) (at_note (or_else (value_at t.seen.read_set q) (found_new a images q)))
row_now t a images q = ap (λ ws. row_with (write_among ws q) (base_at (with_rows_read t a images).seen.read_set q)) (same_writes t a images) ∙ ap (λ x. row_with (write_among t.seen.writes q) (at_note x)) (rows_read_now t a images q)

-- a key that wasn't read isn't written
pub unwritten : (s : Seen) (q : Key) → WereRead s.read_set s.writes → is_key_read s.read_set q ≡ false → write_among s.writes q ≡ None
unwritten s q kept f = by (write_among s.writes q) refl
  where
    by : (o : Option Write) → write_among s.writes q ≡ o → write_among s.writes q ≡ None
    by None e = e
    by (Some w) e = clash (sym (kept q (ap is_some e)) ∙ f)

-- it had read what it wrote
pub kept_now : (t : TxnAt) (a : Access) (images : List Record) → WereRead t.seen.read_set t.seen.writes → WereRead (with_rows_read t a images).seen.read_set (with_rows_read t a images).seen.writes
kept_now t a images kept q written = some (value_at t.seen.read_set q) (kept q (subst (λ ws. is_written ws q ≡ true) (same_writes t a images) written)) (rows_read_now t a images q)
  where
    some : (x : Option (Option Record)) → is_some x ≡ true → value_at (with_rows_read t a images).seen.read_set q ≡ or_else x (found_new a images q) → is_key_read (with_rows_read t a images).seen.read_set q ≡ true
    some None h e = clash (sym h)
    some (Some x) h e = ap is_some e

module _ (catalog : List Table) (events : List Event) (c : ℕ) (body : List Executed) (s : Executed) (a : Access) (t : TxnAt) (images : List Record) (h : HasRead (request_of a) (calls_of events c s) images []) (kept : WereRead t.seen.read_set t.seen.writes) (sees : SeesOwn catalog events c body t.seen)
    (no_vacuum : reads_vacuum s.text ≡ false) (tables : (q : Key) → in_access a q ≡ true → IsTableKey catalog q) (answered : has_read events c s ≡ true) (key : Key) where
  abbrev Has : Option (List Pair) → Type 0
  Has row = HasBefore catalog events c body s key row

  -- At each key that was read by then, now too, the transaction sees a row that it has before the statement whose calls these are, unless
  -- that doesn't fit its table.
  pub now_has : is_key_read (with_rows_read t a images).seen.read_set key ≡ true → fits_if_any catalog key (row_seen (with_rows_read t a images).seen.read_set (with_rows_read t a images).seen.writes key) ≡ true → Has (row_seen (with_rows_read t a images).seen.read_set (with_rows_read t a images).seen.writes key)
  now_has as_read fits = by (value_at t.seen.read_set key) (found_new a images key) refl refl
    where
      by : (x y : Option (Option Record)) → value_at t.seen.read_set key ≡ x → found_new a images key ≡ y → Has (row_seen (with_rows_read t a images).seen.read_set (with_rows_read t a images).seen.writes key)
      by (Some x) y e f =
          let same : row_seen (with_rows_read t a images).seen.read_set (with_rows_read t a images).seen.writes key ≡ row_seen t.seen.read_set t.seen.writes key =
          row_now t a images key ∙ ap (λ z. row_with (write_among t.seen.writes key) (at_note (or_else z (found_new a images key)))) e ∙ ap (λ z. row_with (write_among t.seen.writes key) (at_note z)) (sym e) in
          subst Has (sym same) (has_before catalog events c body s key (row_seen t.seen.read_set t.seen.writes key) (sees key (ap is_some e) (ap (fits_if_any catalog key) (sym same) ∙ fits)))
      by None (Some o) e f =
          subst Has (sym (row_now t a images key ∙ ap (λ z. row_with (write_among t.seen.writes key) (at_note (or_else z (found_new a images key)))) e ∙ ap (λ z. row_with (write_among t.seen.writes key) (at_note z)) f ∙ ap (λ w. row_with w o) (unwritten t.seen key kept (ap is_some e))))
          (has_shown catalog events c body s key (row_found o) (record { answered = answered; no_vacuum = no_vacuum; table = tables key (new_inside (calls_of events c s) a images h key o f); found = found_by (calls_of events c s) a images h key o f }))
      by None None e f = clash (sym (sym (ap is_some (rows_read_now t a images key ∙ ap (λ z. or_else z (found_new a images key)) e ∙ f)) ∙ as_read))
