-- What a read is noted as: the records that it found, settled as its calls showed.
use Rattle.std.proofs.Common.{◌≡◌, ◌⊎◌, inl, inr, Bool, true, false, not, List, [], ◌∷◌, ◌++◌, map, Option, Some, None, IfSome, refl, sym, ap, subst, ◌∙◌, arith}
use Rattle.std.specs.Prelude.{if◌then◌else◌, ◌&&◌, filter, slice_get, Contains}
use Rattle.std.specs.List.{AllByRecursion, cons_option, filter_map, list_all}
use Rattle.std.specs.Option.{option_and_then, option_map}
use Rattle.std.proofs.lemmas.Bool.{and_parts}
use Rattle.std.proofs.lemmas.List.{append-nil}
use Rattle.std.proofs.lemmas.List.Elements.{Contains-append_left, Contains-append_right, Contains-push}
use Rattle.law_answers.specs.Types.{Access, Key, Read, Record, Reply, Request, Scan, Span}
use Rattle.sdb_types.specs.declared.record.Reply.TheVariants as reply
use Rattle.sdb_types.specs.declared.record.Request.TheVariants as ask
use Rattle.sdb_types.specs.declared.record.State.TheVariants as state
use Rattle.sdb_types.specs.Contents.{CanAnswer, in_span, rise}
use Rattle.sdb_types.proofs.Public.{all_each as each_any, clash, one_of}
use Rattle.sdb_record.specs.declared.access.Access.TheVariants as access
use Rattle.sdb_record.specs.Coordinator.{is_coordinator_table}
use Rattle.sdb_record.specs.Meta.{is_in, is_transactional}
use Rattle.sdb_record.specs.Moved.{version_of}
use Rattle.sdb_model.specs.Calls.{StoreCall, is_read, records_read}
use Rattle.sdb_model.specs.Events.{table_asked}
use Rattle.sdb_model.specs.ReadSet.{KeyRead, ReadItem, SpanRead, finds_transactional, meaning_of, read_item_of, read_items, read_of, reads_of, reads_rows}
use Rattle.sdb_model.specs.DirtyReads.{IsMeantBy}
use Rattle.law_clients.proofs.Public.{access_table, each_more, finds_sound, meaning_rolled, meaning_settled}
use Rattle.sdb_txn.specs.Read.{request_of}
use Rattle.sdb_snapshot.specs.Reads as snapshot
use Rattle.sdb_client.specs.Client.{with_rows_read}
use Rattle.sdb_txn.specs.Txn.{TxnAt}
use Rattle.law_answers.specs.Changes.{HasRead, IsRolledAs, IsRows, IsSettledAs, SeenBy}
use Rattle.law_answers.proofs.ReadSteps.{IsDataTable}

---- what records mean

-- a record means what it is settled as
pub settled_means : (calls : List StoreCall) (e : Record × Option Record) → IsSettledAs calls e → meaning_of calls e.0 ≡ e.1
settled_means calls e h = by h.by
  where
    by : ((is_in state.Committed e.0.columns ≡ true) × (e.1 ≡ Some e.0)) ⊎ IsRolledAs calls e.0 e.1 → meaning_of calls e.0 ≡ e.1
    by (inl k) = meaning_settled calls e.0 k.0 ∙ sym k.1
    by (inr k) = meaning_rolled calls e.0 k.roll e.1 k.open_still k.rolled k.puts

-- by the decision that was shown, where it isn't committed
settled_meant : (calls : List StoreCall) (e : Record × Option Record) → IsSettledAs calls e → is_in state.Committed e.0.columns ≡ false → IsMeantBy calls e.0
settled_meant calls e h loose = by h.by
  where
    by : ((is_in state.Committed e.0.columns ≡ true) × (e.1 ≡ Some e.0)) ⊎ IsRolledAs calls e.0 e.1 → IsMeantBy calls e.0
    by (inl k) = clash (sym k.0 ∙ loose)
    by (inr k) = record { id = k.id; decided = k.decided; look = k.observed.call; writer = k.writer; looks = (k.observed.among, k.observed.observed); means = settled_means calls e h ∙ k.image }

meant_among : (calls : List StoreCall) (es : List (Record × Option Record)) (r : Record) → AllByRecursion (IsSettledAs calls) es → Contains (map (λ e. e.0) es) r → is_in state.Committed r.columns ≡ false → IsMeantBy calls r
meant_among calls [] r all has loose = absurd (omega (arith, has.1))
meant_among calls (x ∷ es) r all has loose = by (one_of x.0 r (map (λ e. e.0) es) has) (λ h. meant_among calls es r all.1 h loose)
  where
    by : (x.0 ≡ r) ⊎ Contains (map (λ (e : Record × Option Record). e.0) es) r → (Contains (map (λ (e : Record × Option Record). e.0) es) r → IsMeantBy calls r) → IsMeantBy calls r
    by (inl same) later = subst (IsMeantBy calls) same (settled_meant calls x all.0 (ap (λ (y : Record). is_in state.Committed y.columns) same ∙ loose))
    by (inr h) later = later h

-- so it is of what a read found
pub found_meant : (calls : List StoreCall) (q : Request) (images : List Record) (h : HasRead q calls images []) (found : Option Record) → ((r : Record) → found ≡ Some r → Contains (records_read h.first.reply) r) → IfSome found (λ r. is_in state.Committed r.columns ≡ false → IsMeantBy calls r)
found_meant calls q images h None among = tt
found_meant calls q images h (Some r) among = meant_among calls h.steps r h.settled (subst (λ rs. Contains rs r) (h.rows ∙ append-nil (map (λ e. e.0) h.steps)) (among r refl))

---- one read among the calls

none_of : (calls ms : List StoreCall) → AllByRecursion (λ m. reads_rows m ≡ false) ms → filter reads_rows ms ≡ []
none_of calls [] all = refl
none_of calls (m ∷ ms) all = ap (λ b. if b then m ∷ filter reads_rows ms else filter reads_rows ms) all.0 ∙ none_of calls ms all.1

pub data_read : (a : Access) → IsDataTable (access_table a) → (m : StoreCall) → m.request ≡ request_of a → reads_rows m ≡ true
data_read (access.Get key) is m e = ap (λ (q : Request). if is_coordinator_table (table_asked q) then false else is_read q) e ∙ pick (is_coordinator_table key.table) is
  where
    pick : (b : Bool) → not b ≡ true → (if b then false else true) ≡ true
    pick true n = absurd (clash (sym n))
    pick false n = refl
data_read (access.Scan span) is m e = ap (λ (q : Request). if is_coordinator_table (table_asked q) then false else is_read q) e ∙ pick (is_coordinator_table span.table) is
  where
    pick : (b : Bool) → not b ≡ true → (if b then false else true) ≡ true
    pick true n = absurd (clash (sym n))
    pick false n = refl

-- each record that a read found passes the checks
pub read_checks : (a : Access) (calls : List StoreCall) (images : List Record) (h : HasRead (request_of a) calls images []) → IsDataTable (access_table a) → finds_transactional calls ≡ true
read_checks a calls images h is =
    ap (λ ms. list_all finds_sound (filter reads_rows ms)) h.calls_are
    ∙ ap (λ b. list_all finds_sound (if b then h.first ∷ filter reads_rows h.rest else filter reads_rows h.rest)) (data_read a is h.first h.request)
    ∙ ap (λ ms. list_all finds_sound (h.first ∷ ms)) (none_of calls h.rest h.others)
    ∙ ap (λ rs. list_all is_transactional rs && true) (h.rows ∙ append-nil (map (λ (e : Record × Option Record). e.0) h.steps))
    ∙ ap (λ b. b && true) (each h.steps h.transactional)
  where
    each : (es : List (Record × Option Record)) → AllByRecursion (λ (e : Record × Option Record). is_transactional e.0 ≡ true) es → list_all is_transactional (map (λ (e : Record × Option Record). e.0) es) ≡ true
    each [] all = refl
    each (e ∷ es) all = ap (λ b. b && list_all is_transactional (map (λ (x : Record × Option Record). x.0) es)) all.0 ∙ each es all.1

-- what a statement that read notes
pub read_notes : (a : Access) (calls : List StoreCall) (images left : List Record) (h : HasRead (request_of a) calls images left) → IsDataTable (access_table a) → read_items calls ≡ cons_option (read_item_of calls (request_of a) h.first.reply) []
read_notes a calls images left h is =
    ap (λ ms. filter_map (λ (m : StoreCall). read_item_of calls m.request m.reply) (filter reads_rows ms)) h.calls_are
    ∙ ap (λ b. filter_map (λ (m : StoreCall). read_item_of calls m.request m.reply) (if b then h.first ∷ filter reads_rows h.rest else filter reads_rows h.rest)) (data_read a is h.first h.request)
    ∙ ap (λ ms. filter_map (λ (m : StoreCall). read_item_of calls m.request m.reply) (h.first ∷ ms)) (none_of calls h.rest h.others)
    ∙ ap (λ (q : Request). cons_option (read_item_of calls q h.first.reply) []) h.request

---- a get

module _ (calls : List StoreCall) where
  -- the record that a get found, settled
  pub got_image : (es : List (Record × Option Record)) (found : Option Record) → AllByRecursion (IsSettledAs calls) es → records_read (reply.Found found) ≡ map (λ e. e.0) es → option_and_then (meaning_of calls) found ≡ slice_get (filter_map (λ (e : Record × Option Record). e.1) es) 0
  got_image [] None all e = refl
  got_image (x ∷ es) None all e = absurd (cc)
  got_image [] (Some r) all e = absurd (cc)
  got_image (x ∷ []) (Some r) all e = let same : r ≡ x.0 = cc in ap (meaning_of calls) same ∙ settled_means calls x all.0 ∙ first x.1
    where
      first : (o : Option Record) → o ≡ slice_get (cons_option o []) 0
      first None = refl
      first (Some b) = refl
  got_image (x ∷ y ∷ es) (Some r) all e = absurd (cc)

  pub got_note : (key : Key) (images : List Record) (h : HasRead (ask.Get key) calls images []) → IsDataTable key.table → Contains (read_items calls) (KeyRead (record { key = key; version = version_of (slice_get images 0) }))
  got_note key images h is = subst (λ ns. Contains ns (KeyRead (record { key = key; version = version_of (slice_get images 0) }))) (sym (read_notes (access.Get key) calls images [] h is ∙ by h.first.reply refl h.can h.answered)) (Contains-push [] (KeyRead (record { key = key; version = version_of (slice_get images 0) })))
    where
      by : (r : Reply) → h.first.reply ≡ r → CanAnswer (ask.Get key) r → IsRows r → cons_option (read_item_of calls (ask.Get key) r) [] ≡ KeyRead (record { key = key; version = version_of (slice_get images 0) }) ∷ []
      by (reply.Found found) e can answered =
          ap (λ (o : Option Record). KeyRead (record { key = key; version = version_of o }) ∷ []) (got_image h.steps found h.settled (ap records_read (sym e) ∙ h.rows ∙ append-nil (map (λ e. e.0) h.steps)) ∙ ap (λ is. slice_get is 0) (sym h.images_are))
      by (reply.Rows rows) e can answered = absurd can
      by (reply.NotAll place there) e can answered = absurd can
      by reply.Applied e can answered = absurd answered
      by (reply.NotMet found) e can answered = absurd answered
      by reply.Fault e can answered = absurd answered
      by reply.NoMemory e can answered = absurd answered

  ---- a scan

  -- the records that a scan found, settled
  scan_images : (es : List (Record × Option Record)) → AllByRecursion (IsSettledAs calls) es → reads_of calls (map (λ e. e.0) es) ≡ snapshot.reads_of (filter_map (λ (e : Record × Option Record). e.1) es)
  scan_images [] all = refl
  scan_images (x ∷ es) all =
      ap (λ (o : Option Record). cons_option (option_map (λ (image : Record). read_of x.0.key (Some image)) o) (reads_of calls (map (λ e. e.0) es))) (settled_means calls x all.0)
      ∙ ap (λ rs. cons_option (option_map (λ (image : Record). read_of x.0.key (Some image)) x.1) rs) (scan_images es all.1)
      ∙ by x.1 all.0.key
    where
      by : (o : Option Record) → IfSome o (λ b. b.key ≡ x.0.key) → cons_option (option_map (λ (image : Record). read_of x.0.key (Some image)) o) (snapshot.reads_of (filter_map (λ (e : Record × Option Record). e.1) es)) ≡ snapshot.reads_of (cons_option o (filter_map (λ (e : Record × Option Record). e.1) es))
      by None k = refl
      by (Some b) k = ap (λ (z : Key). record { key = z; version = version_of (Some b) } ∷ snapshot.reads_of (filter_map (λ (e : Record × Option Record). e.1) es)) (sym k)

  pub scan_note : (span : Span) (images : List Record) (h : HasRead (ask.Scan span) calls images []) → IsDataTable span.table → Contains (read_items calls) (SpanRead (record { span = span; found = snapshot.reads_of images }))
  scan_note span images h is = subst (λ ns. Contains ns (SpanRead (record { span = span; found = snapshot.reads_of images }))) (sym (read_notes (access.Scan span) calls images [] h is ∙ by h.first.reply refl h.can h.answered)) (Contains-push [] (SpanRead (record { span = span; found = snapshot.reads_of images })))
    where
      by : (r : Reply) → h.first.reply ≡ r → CanAnswer (ask.Scan span) r → IsRows r → cons_option (read_item_of calls (ask.Scan span) r) [] ≡ SpanRead (record { span = span; found = snapshot.reads_of images }) ∷ []
      by (reply.Rows rows) e can answered =
          ap (λ rs. SpanRead (record { span = span; found = rs }) ∷ [])
          (ap (reads_of calls) (ap records_read (sym e) ∙ h.rows ∙ append-nil (map (λ e. e.0) h.steps)) ∙ scan_images h.steps h.settled ∙ ap snapshot.reads_of (sym h.images_are))
      by (reply.NotAll place there) e can answered = absurd can
      by (reply.Found found) e can answered = absurd can
      by reply.Applied e can answered = absurd answered
      by (reply.NotMet found) e can answered = absurd answered
      by reply.Fault e can answered = absurd answered
      by reply.NoMemory e can answered = absurd answered

---- in the words of a transaction

-- what a scan found lies in its span
scan_inside : (span : Span) (es : List (Record × Option Record)) → AllByRecursion (λ e. IfSome e.1 (λ b. b.key ≡ e.0.key)) es → list_all (λ r. in_span span r.key) (map (λ e. e.0) es) ≡ true → list_all (λ (r : Read). in_span span r.key) (snapshot.reads_of (filter_map (λ (e : Record × Option Record). e.1) es)) ≡ true
scan_inside span [] keys h = refl
scan_inside span (x ∷ es) keys h = by x.1 keys.0 (scan_inside span es keys.1 p.1)
  where
    p : (in_span span x.0.key ≡ true) × (list_all (λ (r : Record). in_span span r.key) (map (λ e. e.0) es) ≡ true)
    p = and_parts (in_span span x.0.key) (list_all (λ (r : Record). in_span span r.key) (map (λ e. e.0) es)) h

    by : (o : Option Record) → IfSome o (λ b. b.key ≡ x.0.key) → list_all (λ (r : Read). in_span span r.key) (snapshot.reads_of (filter_map (λ (e : Record × Option Record). e.1) es)) ≡ true → list_all (λ (r : Read). in_span span r.key) (snapshot.reads_of (cons_option o (filter_map (λ (e : Record × Option Record). e.1) es))) ≡ true
    by None same ih = ih
    by (Some b) same ih = ap (λ t. t && list_all (λ (r : Read). in_span span r.key) (snapshot.reads_of (filter_map (λ (e : Record × Option Record). e.1) es))) (ap (in_span span) same ∙ p.0) ∙ ih

pub settled_keys : (calls : List StoreCall) (es : List (Record × Option Record)) → AllByRecursion (IsSettledAs calls) es → AllByRecursion (λ e. IfSome e.1 (λ b. b.key ≡ e.0.key)) es
settled_keys calls [] all = tt
settled_keys calls (x ∷ es) all = (all.0.key, settled_keys calls es all.1)

scan_lies : (calls : List StoreCall) (span : Span) (images : List Record) (h : HasRead (ask.Scan span) calls images []) → list_all (λ (r : Read). in_span span r.key) (snapshot.reads_of images) ≡ true
scan_lies calls span images h = by h.first.reply refl h.can h.answered
  where
    by : (r : Reply) → h.first.reply ≡ r → CanAnswer (ask.Scan span) r → IsRows r → list_all (λ (r : Read). in_span span r.key) (snapshot.reads_of images) ≡ true
    by (reply.Rows rows) e can answered =
        let same : rows ≡ map (λ x. x.0) h.steps = ap records_read (sym e) ∙ h.rows ∙ append-nil (map (λ x. x.0) h.steps) in
        ap (λ is. list_all (λ (r : Read). in_span span r.key) (snapshot.reads_of is)) h.images_are
        ∙ scan_inside span h.steps (settled_keys calls h.steps h.settled) (subst (λ rs. list_all (λ (r : Record). in_span span r.key) rs ≡ true) same (and_parts (rise rows) (list_all (λ (r : Record). in_span span r.key) rows) can).1)
    by (reply.Found found) e can answered = absurd can
    by reply.Applied e can answered = absurd answered
    by (reply.NotMet found) e can answered = absurd answered
    by (reply.NotAll place there) e can answered = absurd answered
    by reply.Fault e can answered = absurd answered
    by reply.NoMemory e can answered = absurd answered

-- what a read found is noted with what was
pub read_noted : (a : Access) (calls : List StoreCall) (images : List Record) (read_set : List ReadItem) (t : TxnAt) → HasRead (request_of a) calls images [] → IsDataTable (access_table a) → SeenBy read_set t.seen → SeenBy (read_set ++ read_items calls) (with_rows_read t a images).seen
read_noted (access.Get key) calls images read_set t h is s = record {
  reads = each_more (λ (y : Read). Contains (read_set ++ read_items calls) (KeyRead y)) t.seen.reads (record { key = key; version = version_of (slice_get images 0) })
      (each_any (λ (y : Read). Contains read_set (KeyRead y)) (λ (y : Read). Contains (read_set ++ read_items calls) (KeyRead y)) t.seen.reads (λ y k. Contains-append_left read_set (read_items calls) (KeyRead y) k) s.reads)
      (Contains-append_right read_set (read_items calls) (KeyRead (record { key = key; version = version_of (slice_get images 0) })) (got_note calls key images h is));
  scans = each_any (λ (y : Scan). Contains read_set (SpanRead y) × (list_all (λ z. in_span y.span z.key) y.found ≡ true)) (λ (y : Scan). Contains (read_set ++ read_items calls) (SpanRead y) × (list_all (λ z. in_span y.span z.key) y.found ≡ true)) t.seen.scans (λ y k. (Contains-append_left read_set (read_items calls) (SpanRead y) k.0, k.1)) s.scans;
}
read_noted (access.Scan span) calls images read_set t h is s = record {
  reads = each_any (λ (y : Read). Contains read_set (KeyRead y)) (λ (y : Read). Contains (read_set ++ read_items calls) (KeyRead y)) t.seen.reads (λ y k. Contains-append_left read_set (read_items calls) (KeyRead y) k) s.reads;
  scans = each_more (λ (y : Scan). Contains (read_set ++ read_items calls) (SpanRead y) × (list_all (λ z. in_span y.span z.key) y.found ≡ true)) t.seen.scans (record { span = span; found = snapshot.reads_of images })
      (each_any (λ (y : Scan). Contains read_set (SpanRead y) × (list_all (λ z. in_span y.span z.key) y.found ≡ true)) (λ (y : Scan). Contains (read_set ++ read_items calls) (SpanRead y) × (list_all (λ z. in_span y.span z.key) y.found ≡ true)) t.seen.scans (λ y k. (Contains-append_left read_set (read_items calls) (SpanRead y) k.0, k.1)) s.scans)
      (Contains-append_right read_set (read_items calls) (SpanRead (record { span = span; found = snapshot.reads_of images })) (scan_note calls span images h is), scan_lies calls span images h);
}
