-- Where a scan finds another version at a key than was noted there.
use Rattle.std.proofs.Common.{◌≡◌, ◌⊎◌, inl, inr, ℤ, Bool, true, false, not, List, [], ◌∷◌, map, Option, Some, None, IfSome, refl, sym, ap, subst, ◌∙◌}
use Rattle.std.specs.Prelude.{if◌then◌else◌, ◌&&◌, ◌||◌, is_some, Contains}
use Rattle.std.specs.List.{AllByRecursion, cons_option, filter_map, list_all}
use Rattle.std.specs.Option.{option_and_then}
use Rattle.std.specs.Ordering.{is_eq}
use Rattle.std.specs.declared.cmp.Ordering.TheVariants.{Less}
use Rattle.std.proofs.lemmas.Bool.{and_parts}
use Rattle.std.proofs.lemmas.List.{append-nil}
use Rattle.law_answers.specs.Types.{Access, Key, Read, Record, Reply, Scan, Span, TxId, Write}
use Rattle.sdb_types.specs.declared.record.Reply.TheVariants as reply
use Rattle.sdb_types.specs.declared.record.Request.TheVariants as ask
use Rattle.sdb_types.specs.declared.record.State.TheVariants as state
use Rattle.sdb_types.specs.Columns.{column}
use Rattle.sdb_types.specs.Contents.{CanAnswer, holds, in_span, is_version, rise, starts_after, tx_id, record_among}
use Rattle.sdb_types.specs.Order.{key_cmp, same_key}
use Rattle.sdb_types.proofs.Public.{all_each as each_any, by_test, clash, either, itself, key_total, less_of, same_key_exact, same_key_is, same_key_of, same_key_self}
use Rattle.sdb_txn.specs.Read.{request_of}
use Rattle.sdb_record.specs.declared.access.Access.TheVariants as access
use Rattle.sdb_record.specs.Meta.{id_in}
use Rattle.sdb_record.specs.Moved.{IsChanged, condition_of, same_version, version_of}
use Rattle.sdb_record.proofs.Public.{id_in_value-fits, version-writer}
use Rattle.sdb_model.specs.Calls.{StoreCall, records_read}
use Rattle.sdb_model.specs.Causes.{HasChanged}
use Rattle.sdb_model.specs.ReadSet.{KeyRead, ReadItem, SpanRead, meaning_of}
use Rattle.sdb_snapshot.specs.Reads as snapshot
use Rattle.sdb_snapshot.specs.Reads.{base_at, differs, has_changed, is_key_read, record_read_at}
use Rattle.sdb_snapshot.specs.Seen.{Seen}
use Rattle.law_clients.specs.Reads.{IsFoundOk, IsReadOk, is_found, was_found, was_read}
use Rattle.sdb_snapshot.specs.Sets.{IsSetInvariant}
use Rattle.law_clients.proofs.Public.{each_both}
use Rattle.sdb_txn.specs.Txn.{TxnAt, work_of}
use Rattle.sdb_client.specs.Client.{IsChangedAt}
use Rattle.sdb_validate.specs.Rescan.{reads_rise}
use Rattle.law_answers.specs.Changes.{ChangesAtScan, HasRead, IsReadAt, IsRows, IsSettledAs, SeenBy, WorkBy}
use Rattle.law_answers.proofs.Ends.{first_in}
use Rattle.law_answers.proofs.Settling.{settled_keys, settled_means}
use Rattle.sdb_record.specs.Among.{version_among}

---- the record of a key

-- each row is after a key
abbrev AreBehind : Key → List (Record × Option Record) → Type 0
AreBehind k es = AllByRecursion (λ e. key_cmp k e.0.key ≡ Less) es

behind : (k : Key) (es : List (Record × Option Record)) → starts_after k (map (λ e. e.0) es) ≡ true → rise (map (λ e. e.0) es) ≡ true → AreBehind k es
behind k [] s r = tt
behind k (x ∷ es) s r =
    let less : key_cmp k x.0.key ≡ Less = less_of (key_cmp k x.0.key) s in
    let p = and_parts (starts_after x.0.key (map (λ e. e.0) es)) (rise (map (λ e. e.0) es)) r in
    (less, each es (behind x.0.key es p.0 p.1))
  where
    each : (zs : List (Record × Option Record)) → AreBehind x.0.key zs → AreBehind k zs
    each [] all = tt
    each (z ∷ zs) all = (key_total.trans k x.0.key z.0.key (less_of (key_cmp k x.0.key) s) all.0, each zs all.1)

-- none of these has the key
absent : (k : Key) (es : List (Record × Option Record)) → AllByRecursion (λ e. IfSome e.1 (λ b. b.key ≡ e.0.key)) es → AreBehind k es → record_among (filter_map (λ (e : Record × Option Record). e.1) es) k ≡ None
absent k [] keys all = refl
absent k (x ∷ es) keys all = by x.1 keys.0 (absent k es keys.1 all.1)
  where
    apart : (b : Record) → b.key ≡ x.0.key → same_key k b.key ≡ false
    apart b same = same_key_is k b.key ∙ ap (λ (z : Key). is_eq (key_cmp k z)) same ∙ ap is_eq all.0

    by : (o : Option Record) → IfSome o (λ b. b.key ≡ x.0.key) → record_among (filter_map (λ (e : Record × Option Record). e.1) es) k ≡ None → record_among (cons_option o (filter_map (λ (e : Record × Option Record). e.1) es)) k ≡ None
    by None same ih = ih
    by (Some b) same ih = ap (λ t. if t then Some b else record_among (filter_map (λ (e : Record × Option Record). e.1) es) k) (apart b same) ∙ ih

-- the record of a key among those that a scan found, settled, is that among its images
scan_found : (calls : List StoreCall) (k : Key) (es : List (Record × Option Record)) → AllByRecursion (IsSettledAs calls) es → rise (map (λ e. e.0) es) ≡ true → option_and_then (meaning_of calls) (record_among (map (λ e. e.0) es) k) ≡ record_among (filter_map (λ (e : Record × Option Record). e.1) es) k
scan_found calls k [] all r = refl
scan_found calls k (x ∷ es) all r = by (same_key k x.0.key) refl (scan_found calls k es all.1 rest.1)
  where
    rest : (starts_after x.0.key (map (λ e. e.0) es) ≡ true) × (rise (map (λ e. e.0) es) ≡ true)
    rest = and_parts (starts_after x.0.key (map (λ e. e.0) es)) (rise (map (λ e. e.0) es)) r

    here : (o : Option Record) → IfSome o (λ b. b.key ≡ x.0.key) → x.0.key ≡ k → o ≡ record_among (cons_option o (filter_map (λ (e : Record × Option Record). e.1) es)) k
    here None same e = sym (absent k es (settled_keys calls es all.1) (subst (λ (z : Key). AreBehind z es) e (behind x.0.key es rest.0 rest.1)))
    here (Some b) same e = sym (ap (λ t. if t then Some b else record_among (filter_map (λ (e : Record × Option Record). e.1) es) k) (ap (λ (z : Key). same_key k z) (same ∙ e) ∙ same_key_self k))

    there : (o : Option Record) → IfSome o (λ b. b.key ≡ x.0.key) → same_key k x.0.key ≡ false → record_among (filter_map (λ (e : Record × Option Record). e.1) es) k ≡ record_among (cons_option o (filter_map (λ (e : Record × Option Record). e.1) es)) k
    there None same f = refl
    there (Some b) same f = sym (ap (λ t. if t then Some b else record_among (filter_map (λ (e : Record × Option Record). e.1) es) k) (ap (λ (z : Key). same_key k z) same ∙ f))

    by : (t : Bool) → same_key k x.0.key ≡ t → option_and_then (meaning_of calls) (record_among (map (λ e. e.0) es) k) ≡ record_among (filter_map (λ (e : Record × Option Record). e.1) es) k
        → option_and_then (meaning_of calls) (if t then Some x.0 else record_among (map (λ e. e.0) es) k) ≡ record_among (cons_option x.1 (filter_map (λ (e : Record × Option Record). e.1) es)) k
    by true e ih = settled_means calls x all.0 ∙ here x.1 all.0.key (sym (same_key_exact k x.0.key e))
    by false e ih = ih ∙ there x.1 all.0.key e

pub scan_shows : (calls : List StoreCall) (span : Span) (images : List Record) (k : Key) (h : HasRead (ask.Scan span) calls images []) → (rows : List Record) × (h.first.reply ≡ reply.Rows rows) × (option_and_then (meaning_of calls) (record_among rows k) ≡ record_among images k)
scan_shows calls span images k h = by h.first.reply refl h.can h.answered
  where
    by : (r : Reply) → h.first.reply ≡ r → CanAnswer (ask.Scan span) r → IsRows r → (rows : List Record) × (h.first.reply ≡ reply.Rows rows) × (option_and_then (meaning_of calls) (record_among rows k) ≡ record_among images k)
    by (reply.Rows rows) e can answered =
        let same : rows ≡ map (λ x. x.0) h.steps = ap records_read (sym e) ∙ h.rows ∙ append-nil (map (λ x. x.0) h.steps) in
        (rows, e, ap (λ rs. option_and_then (meaning_of calls) (record_among rs k)) same ∙ scan_found calls k h.steps h.settled (subst (λ rs. rise rs ≡ true) same (and_parts (rise rows) _ can).0) ∙ ap (λ is. record_among is k) (sym h.images_are))
    by (reply.Found found) e can answered = absurd can
    by reply.Applied e can answered = absurd answered
    by (reply.NotMet found) e can answered = absurd answered
    by (reply.NotAll place there) e can answered = absurd answered
    by reply.Fault e can answered = absurd answered
    by reply.NoMemory e can answered = absurd answered

---- versions

-- a record of another version than one that was noted has moved
pub has_moved_is : (as_read found : Option Record) → has_changed (Some as_read) found ≡ true → IsChanged found (version_of as_read)
has_moved_is None None e = clash (sym e)
has_moved_is None (Some r) e = by (id_in r.columns) refl e
  where
    by : (o : Option TxId) → id_in r.columns ≡ o → not (same_version None o) ≡ true → IsChanged (Some r) None
    by None k t = clash (sym t)
    by (Some id) k t = refl
has_moved_is (Some n) found e = by_noted (id_in n.columns) refl e
  where
    with_id : (id : TxId) → id_in n.columns ≡ Some id → (f : Option Record) → not (same_version (Some id) (version_of f)) ≡ true → holds (condition_of (Some id)) f ≡ false
    with_id id k None t = refl
    with_id id k (Some r) t = by_test (is_version id state.Committed r) (λ v. absurd (same v)) (λ v. v)
      where
        same : is_version id state.Committed r ≡ true → ⊥
        same v = clash (sym t ∙ ap (λ o. not (same_version (Some id) o)) (version-writer r id state.Committed (id_in_value-fits (column n.columns tx_id) id k) v) ∙ ap not (itself id.0))

    without : (f : Option Record) → not (same_version None (version_of f)) ≡ true → holds (condition_of None) f ≡ false
    without None t = clash (sym t)
    without (Some r) t = refl

    by_noted : (o : Option TxId) → id_in n.columns ≡ o → not (same_version o (version_of found)) ≡ true → holds (condition_of o) found ≡ false
    by_noted None k t = without found t
    by_noted (Some id) k t = with_id id k found t

---- what is noted at a key

-- A transaction's reads and scans tell what is noted at each key.
pub record IsTold (s : Seen) : Type 0 where
  pub reads : AllByRecursion (IsReadOk s.read_set) s.reads
  pub found : AllByRecursion (IsFoundOk s.read_set) s.scans
  pub as_read : (q : Key) → is_key_read s.read_set q ≡ true → (was_read s.reads q || was_found s.scans q) ≡ true

read_at : (read_set : List ReadItem) (ns : List snapshot.ReadRecord) (rs : List Read) (q : Key) → AllByRecursion (λ r. Contains read_set (KeyRead r)) rs → AllByRecursion (IsReadOk ns) rs → was_read rs q ≡ true → IsReadAt read_set q (version_of (base_at ns q))
read_at read_set ns [] q has ok e = clash (sym e)
read_at read_set ns (r ∷ rs) q has ok e = by (same_key q r.key) refl (λ k. read_at read_set ns rs q has.1 ok.1 k) e
  where
    by : (b : Bool) → same_key q r.key ≡ b → (was_read rs q ≡ true → IsReadAt read_set q (version_of (base_at ns q))) → (b || was_read rs q) ≡ true → IsReadAt read_set q (version_of (base_at ns q))
    by true t ih k =
        let same : q ≡ r.key = same_key_exact q r.key t in
        record { item = KeyRead r; among = has.0; as_read = ap (λ b. if b then Some r.version else None) (same_key_of r.key q (sym same)) ∙ ap Some (ok.0.1 ∙ ap (λ (z : Key). version_of (base_at ns z)) (sym same)) }
    by false t ih k = ih k

scan_at : (read_set : List ReadItem) (ns : List snapshot.ReadRecord) (xs : List Scan) (q : Key) → AllByRecursion (λ x. Contains read_set (SpanRead x) × (list_all (λ r. in_span x.span r.key) x.found ≡ true)) xs → AllByRecursion (IsFoundOk ns) xs → was_found xs q ≡ true → IsReadAt read_set q (version_of (base_at ns q))
scan_at read_set ns [] q has ok e = clash (sym e)
scan_at read_set ns (x ∷ xs) q has ok e = by (in_span x.span q && is_found x q) refl (λ k. scan_at read_set ns xs q has.1 ok.1 k) e
  where
    by : (b : Bool) → (in_span x.span q && is_found x q) ≡ b → (was_found xs q ≡ true → IsReadAt read_set q (version_of (base_at ns q))) → (b || was_found xs q) ≡ true → IsReadAt read_set q (version_of (base_at ns q))
    by true t ih k =
        let p = and_parts (in_span x.span q) (is_found x q) t in
        record { item = SpanRead x; among = has.0.0; as_read = ap (λ b. if b then Some (version_among x.found q) else None) p.0 ∙ ap Some (sym (ok.0 q p.1).1) }
    by false t ih k = ih k

pub noted_at : (read_set : List ReadItem) (s : Seen) (q : Key) → SeenBy read_set s → IsTold s → is_key_read s.read_set q ≡ true → IsReadAt read_set q (version_of (base_at s.read_set q))
noted_at read_set s q by_notes answered e = by (either (was_read s.reads q) (was_found s.scans q) (answered.as_read q e))
  where
    by : (was_read s.reads q ≡ true) ⊎ (was_found s.scans q ≡ true) → IsReadAt read_set q (version_of (base_at s.read_set q))
    by (inl k) = read_at read_set s.read_set s.reads q by_notes.reads answered.reads k
    by (inr k) = scan_at read_set s.read_set s.scans q by_notes.scans answered.found k

-- a key at which a scan differs has moved
pub differs_moved : (read_set : List ReadItem) (s : Seen) (images : List Record) (k : Key) → SeenBy read_set s → IsTold s → differs s.read_set images k ≡ true → HasChanged read_set k (record_among images k)
differs_moved read_set s images k by_notes answered e = by (record_read_at s.read_set k) refl e
  where
    by : (o : Option (Option Record)) → record_read_at s.read_set k ≡ o → has_changed o (record_among images k) ≡ true → HasChanged read_set k (record_among images k)
    by None n t = clash (sym t)
    by (Some as_read) n t =
        let at = noted_at read_set s k by_notes answered (ap is_some n) in
        let base : base_at s.read_set k ≡ as_read = ap (λ o. option_and_then (λ f. f) o) n in
        (at.item, version_of as_read, at.among, at.as_read ∙ ap (λ f. Some (version_of f)) base, has_moved_is as_read (record_among images k) t)

-- and so has one that a scan of a statement finds otherwise
pub changed_scan : (calls : List StoreCall) (read_set : List ReadItem) (t : TxnAt) (a : Access) (images : List Record) (key : Key) (found : Option Record) → HasRead (request_of a) calls images [] → IsTold t.seen → SeenBy read_set t.seen → IsChangedAt t a images key found → ChangesAtScan calls read_set key found
changed_scan calls read_set t (access.Get k) images key found h ok in_set moved = absurd moved
changed_scan calls read_set t (access.Scan span) images key found h ok in_set moved =
    let shows = scan_shows calls span images key h in (
      h.first,
      span,
      shows.0,
      first_in h.first h.rest calls h.calls_are,
      h.request,
      shows.1,
      moved.inside,
      moved.agrees ∙ sym shows.2,
      subst (HasChanged read_set key) (sym moved.agrees) (differs_moved read_set t.seen images key in_set ok moved.moved),
    )

---- what a COMMIT takes

-- what its COMMIT goes by: what is noted, the bases of what is written, and scans in the order of keys
pub record IsTaken (s : Seen) : Type 0 where
  pub answered : IsTold s
  pub kept : IsSetInvariant s.read_set s.writes
  pub rises : AllByRecursion (λ x. reads_rise x.found ≡ true) s.scans

pub work_by : (read_set : List ReadItem) (t : TxnAt) (now : ℤ) → SeenBy read_set t.seen → IsTaken t.seen → WorkBy read_set (work_of t now)
work_by read_set t now s k = record {
  reads = s.reads;
  scans = each_both (λ (x : Scan). Contains read_set (SpanRead x) × (list_all (λ r. in_span x.span r.key) x.found ≡ true)) (λ (x : Scan). reads_rise x.found ≡ true) (λ (x : Scan). Contains read_set (SpanRead x) × (list_all (λ r. in_span x.span r.key) x.found ≡ true) × (reads_rise x.found ≡ true)) t.seen.scans (λ x a b. (a.0, a.1, b)) s.scans k.rises;
  writes = each_any (λ (w : Write). (is_key_read t.seen.read_set w.key ≡ true) × (w.base ≡ base_at t.seen.read_set w.key)) (λ (w : Write). IsReadAt read_set w.key (version_of w.base)) t.seen.writes (λ w h. subst (λ (o : Option Record). IsReadAt read_set w.key (version_of o)) (sym h.1) (noted_at read_set t.seen w.key s k.answered h.0)) k.kept.based;
  valid = k.kept.valid;
}

---- what a read leaves
