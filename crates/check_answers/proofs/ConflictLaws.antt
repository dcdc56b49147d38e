-- The test of Conflict is its cause.
use Rattle.std.proofs.Common.{◌≡◌, ℕ, Bool, true, false, List, [], ◌∷◌, Option, Some, None, inl, inr, refl, sym, ap, ◌∙◌, subst}
use Rattle.std.specs.Prelude.{Contains, ◌&&◌, ◌||◌, not}
use Rattle.std.specs.List.{list_any}
use Rattle.std.specs.Option.{option_and_then, option_map_or}
use Rattle.check_answers.specs.Types.{Event, Key, Made, Pair, Record, Reply, Request, Scan, Span, TxId}
use Rattle.sdb_types.specs.declared.record.Request.TheVariants as ask
use Rattle.sdb_types.specs.declared.record.Reply.TheVariants as reply
use Rattle.sdb_types.specs.Contents.{in_span, record_among}
use Rattle.sdb_record.specs.Meta.{id_in}
use Rattle.sdb_record.specs.Moved.{is_unchanged, same_version, version_of}
use Rattle.sdb_record.specs.Parts.{before_part, before_record, record_with}
use Rattle.sdb_record.specs.Among.{version_among}
use Rattle.sdb_model.specs.Calls as calls
use Rattle.sdb_model.specs.Calls.{calls_of}
use Rattle.sdb_model.specs.Causes.{HasChanged, IsChecked, IsConflict, IsConflictAtCommit, IsConflictAtScan, IsRebased, IsUnmet, ReadObserves, prepares_key}
use Rattle.sdb_model.specs.ReadSet.{ReadItem, KeyRead, SpanRead, meaning_of, read_set_of, version_read}
use Rattle.sdb_model.specs.Sql.{reads_commit}
use Rattle.sdb_model.specs.Requests.{observed_in, records_put}
use Rattle.sdb_model.specs.Transactions.{Executed, is_prepared_record}
use Rattle.check_protocol.proofs.Public.{any_some, In, not_true, or_left, right, some_any, true_not}
use Rattle.check_tables.specs.Values.{all_made, made_of}
use Rattle.check_answers.specs.Tests.{any_id, base_put, conflict_at_commit, conflict_at_scan, conflict_of, get_observes, has_changed_from, has_prepared, is_commit_of, is_found_by, is_in, is_changed, is_rebase, is_rebased, is_unmet, observes, read_observes, same_found, scan_differs, scan_observes, scan_observes_by, means, means_by}
use Rattle.check_answers.proofs.Finds.{in_contains, contains_in, made_contained, contained_made, found_is, is_found}
use Rattle.check_answers.proofs.IdLaws.{commit_is, is_commit, in_is, is_in_of, id_some, commit_found, in_found}
use Rattle.sdb_types.proofs.Public.{and_both as both, and_first as left, clash, either, or_second as or_right, same_key_exact, same_key_of}
use Rattle.sdb_types.specs.Order.{same_key}

---- what was noted

moved_note : (key : Key) (found : Option Record) (n : ReadItem) → is_changed key found n ≡ true → (version : Option TxId) × (version_read n key ≡ Some version) × (is_unchanged found version ≡ false)
moved_note key found n h = by (version_read n key) refl h
  where
    by : (o : Option (Option TxId)) → version_read n key ≡ o → option_map_or (λ v. not (is_unchanged found v)) o false ≡ true → (version : Option TxId) × (version_read n key ≡ Some version) × (is_unchanged found version ≡ false)
    by None e h = clash (sym h)
    by (Some v) e h = (v, e, not_true (is_unchanged found v) h)

moved_is : (read_set : List ReadItem) (key : Key) (found : Option Record) → has_changed_from read_set key found ≡ true → HasChanged read_set key found
moved_is read_set key found h =
    let r = any_some (is_changed key found) read_set h in
    let v = moved_note key found r.0 r.2 in
    (r.0, v.0, in_contains read_set r.0 r.1, v.1, v.2)

is_moved_of : (read_set : List ReadItem) (key : Key) (found : Option Record) → HasChanged read_set key found → has_changed_from read_set key found ≡ true
is_moved_of read_set key found (item, version, c, e, h) =
    some_any (is_changed key found) read_set item (contains_in read_set item c) (ap (λ o. option_map_or (λ v. not (is_unchanged found v)) o false) e ∙ true_not (is_unchanged found version) h)

---- what calls show

observed_is : (key : Key) (found : Option Record) (q : Request) (r : Reply) → observes q r key found ≡ true → Contains (observed_in q r) (key, found)
observed_is key found q r h =
    let s = any_some (λ (s : Key × Option Record). same_key s.0 key && same_found s.1 found) (observed_in q r) h in
    let at = same_key_exact s.0.0 key (left (same_key s.0.0 key) (same_found s.0.1 found) s.2) in
    let there = found_is s.0.1 found (right (same_key s.0.0 key) (same_found s.0.1 found) s.2) in
    subst (λ x. Contains (observed_in q r) x) (λ i. (at i, there i)) (in_contains (observed_in q r) s.0 s.1)

is_observed : (key : Key) (found : Option Record) (q : Request) (r : Reply) → Contains (observed_in q r) (key, found) → observes q r key found ≡ true
is_observed key found q r c =
    some_any (λ (s : Key × Option Record). same_key s.0 key && same_found s.1 found) (observed_in q r) (key, found) (contains_in (observed_in q r) (key, found) c)
    (both (same_key key key) (same_found found found) (same_key_of key key refl) (is_found found found refl))

gets_is : (key : Key) (found : Option Record) (q : Request) (r : Reply) → get_observes q r key found ≡ true → (q ≡ ask.Get key) × (r ≡ reply.Found found)
gets_is key found (ask.Get k) (reply.Found x) h = (ap (λ y. ask.Get y) (same_key_exact k key (left (same_key k key) (same_found x found) h)), ap (λ y. reply.Found y) (found_is x found (right (same_key k key) (same_found x found) h)))
gets_is key found (ask.Get k) (reply.Rows rows) h = clash (sym h)
gets_is key found (ask.Get k) (reply.NotAll place there) h = clash (sym h)
gets_is key found (ask.Get k) reply.Applied h = clash (sym h)
gets_is key found (ask.Get k) (reply.NotMet x) h = clash (sym h)
gets_is key found (ask.Get k) reply.Fault h = clash (sym h)
gets_is key found (ask.Get k) reply.NoMemory h = clash (sym h)
gets_is key found (ask.Scan span) r h = clash (sym h)
gets_is key found (ask.PutIf rec condition) r h = clash (sym h)
gets_is key found (ask.DeleteIf k condition) r h = clash (sym h)
gets_is key found (ask.PutAll batch) r h = clash (sym h)

is_gets : (key : Key) (found : Option Record) (q : Request) (r : Reply) → q ≡ ask.Get key → r ≡ reply.Found found → get_observes q r key found ≡ true
is_gets key found q r e f = ap (λ x. get_observes x r key found) e ∙ ap (λ x. get_observes (ask.Get key) x key found) f ∙ both (same_key key key) (same_found found found) (same_key_of key key refl) (is_found found found refl)

abbrev Scans : (List Record → Option Record) → Request → Reply → Key → Option Record → Type 0
Scans look q r key found = (span : Span) × (rows : List Record) × (q ≡ ask.Scan span) × (in_span span key ≡ true) × (r ≡ reply.Rows rows) × (found ≡ look rows)

scans_is : (key : Key) (found : Option Record) (q : Request) (r : Reply) → scan_observes_by q r key found ≡ true → Scans (λ rows. record_among rows key) q r key found
scans_is key found (ask.Scan span) (reply.Rows rows) h =
    (span, rows, refl, left (in_span span key) (same_found (record_among rows key) found) h, refl, sym (found_is (record_among rows key) found (right (in_span span key) (same_found (record_among rows key) found) h)))
scans_is key found (ask.Scan span) (reply.Found x) h = clash (sym h)
scans_is key found (ask.Scan span) reply.Applied h = clash (sym h)
scans_is key found (ask.Scan span) (reply.NotMet x) h = clash (sym h)
scans_is key found (ask.Scan span) (reply.NotAll place there) h = clash (sym h)
scans_is key found (ask.Scan span) reply.Fault h = clash (sym h)
scans_is key found (ask.Scan span) reply.NoMemory h = clash (sym h)
scans_is key found (ask.Get k) r h = clash (sym h)
scans_is key found (ask.PutIf rec condition) r h = clash (sym h)
scans_is key found (ask.DeleteIf k condition) r h = clash (sym h)
scans_is key found (ask.PutAll batch) r h = clash (sym h)

is_scans : (key : Key) (found : Option Record) (q : Request) (r : Reply) → Scans (λ rows. record_among rows key) q r key found → scan_observes_by q r key found ≡ true
is_scans key found q r (span, rows, e, i, f, g) =
    ap (λ x. scan_observes_by x r key found) e ∙ ap (λ x. scan_observes_by (ask.Scan span) x key found) f
    ∙ both (in_span span key) (same_found (record_among rows key) found) i (is_found (record_among rows key) found (sym g))

shows_is : (m : Made) (key : Key) (found : Option Record) → read_observes m key found ≡ true → ReadObserves (made_of m) key found
shows_is m key found h = elim (either (get_observes m.request m.reply key found) (scan_observes m key found) h) [
  | inl a ↦ inl (gets_is key found m.request m.reply a)
  | inr b ↦ inr (scans_is key found m.request m.reply b)
]

is_shows : (m : Made) (key : Key) (found : Option Record) → ReadObserves (made_of m) key found → read_observes m key found ≡ true
is_shows m key found (inl a) = or_left (get_observes m.request m.reply key found) (scan_observes m key found) (is_gets key found m.request m.reply a.0 a.1)
is_shows m key found (inr b) = or_right (get_observes m.request m.reply key found) (scan_observes m key found) (is_scans key found m.request m.reply b)

any_made : (f : calls.StoreCall → Bool) (ms : List Made) → list_any f (all_made ms) ≡ list_any (λ m. f (made_of m)) ms
any_made f [] = refl
any_made f (m ∷ ms) = ap (λ b. f (made_of m) || b) (any_made f ms)

---- the base of a prepare

kept_version : (r : Record) → id_in (before_part r.columns) ≡ version_of (before_record r)
unfolding before_record
kept_version r = by (before_part r.columns)
  where
    by : (ps : List Pair) → id_in ps ≡ version_of (record_with r.key ps)
    by [] = refl
    by (p ∷ ps) = refl

differs_is : (key : Key) (base : Option TxId) (n : ReadItem) → scan_differs key base n ≡ true → (scan : Scan) × (n ≡ SpanRead scan) × (in_span scan.span key ≡ true) × (same_version base (version_among scan.found key) ≡ false)
differs_is key base (KeyRead read) h = clash (sym h)
differs_is key base (SpanRead scan) h = (scan, refl, left (in_span scan.span key) (not (same_version base (version_among scan.found key))) h, not_true (same_version base (version_among scan.found key)) (right (in_span scan.span key) (not (same_version base (version_among scan.found key))) h))

module _ (events : List Event) (ms : List Made) (client : ℕ) (s : Executed) (e : all_made ms ≡ calls_of events client s) (key : Key) (found : Option Record) where
  contained : (m : Made) → In ms m → Contains (calls_of events client s) (made_of m)
  contained m i = subst (λ cs. Contains cs (made_of m)) e (made_contained ms m i)

  made : (c : calls.StoreCall) → Contains (calls_of events client s) c → (m : Made) × In ms m × (c ≡ made_of m)
  made c k = contained_made ms c (subst (λ cs. Contains cs c) (sym e) k)

  rebased_is : (read_set : List ReadItem) (id : TxId) → is_rebased ms read_set id key ≡ true → IsRebased (calls_of events client s) read_set id key
  rebased_is read_set id h =
      let p = any_some (λ (m : Made). list_any (is_rebase read_set id key) (records_put m.request)) ms h in
      let r = any_some (is_rebase read_set id key) (records_put p.0.request) p.2 in
      let x = r.0 in
      let l = list_any (scan_differs key (base_put x)) read_set in
      let at = left (is_prepared_record id x && same_key x.key key) l r.2 in
      let n = any_some (scan_differs key (base_put x)) read_set (right (is_prepared_record id x && same_key x.key key) l r.2) in
      let d = differs_is key (base_put x) n.0 n.2 in (
        made_of p.0,
        base_put x,
        version_among d.0.found key,
        contained p.0 p.1,
        (x, in_contains (records_put p.0.request) x r.1, left (is_prepared_record id x) (same_key x.key key) at, same_key_exact x.key key (right (is_prepared_record id x) (same_key x.key key) at), sym (kept_version x)),
        (d.0, in_contains read_set (SpanRead d.0) (subst (λ y. In read_set y) d.1 n.1), d.2, refl),
        d.3,
      )

  is_rebased_of : (read_set : List ReadItem) (id : TxId) → IsRebased (calls_of events client s) read_set id key → is_rebased ms read_set id key ≡ true
  is_rebased_of read_set id (prepare, base, version, c, (r, put, p, k, b), (scan, n, i, v), d) =
      let m = made prepare c in
      let there : In (records_put m.0.request) r = contains_in (records_put m.0.request) r (subst (λ (x : calls.StoreCall). Contains (records_put x.request) r) m.2 put) in
      let same : base_put r ≡ base = kept_version r ∙ b in
      some_any (λ (x : Made). list_any (is_rebase read_set id key) (records_put x.request)) ms m.0 m.1
      (some_any (is_rebase read_set id key) (records_put m.0.request) r there
      (both (is_prepared_record id r && same_key r.key key) (list_any (scan_differs key (base_put r)) read_set)
      (both (is_prepared_record id r) (same_key r.key key) p (same_key_of r.key key k))
      (some_any (scan_differs key (base_put r)) read_set (SpanRead scan) (contains_in read_set (SpanRead scan) n)
      (both (in_span scan.span key) (not (same_version (base_put r) (version_among scan.found key))) i (true_not (same_version (base_put r) (version_among scan.found key)) (ap (λ x. same_version x (version_among scan.found key)) same ∙ ap (same_version base) v ∙ d))))))

  unmet_is : (id : TxId) → list_any (is_unmet id key found) ms ≡ true → IsUnmet (calls_of events client s) id key found
  unmet_is id h =
      let r = any_some (is_unmet id key found) ms h in
      let p = prepares_key id key (made_of r.0) in
      let n = observes r.0.request r.0.reply key found in
      (made_of r.0, contained r.0 r.1, left p n r.2, observed_is key found r.0.request r.0.reply (right p n r.2))

  is_unmet_of : (id : TxId) → IsUnmet (calls_of events client s) id key found → list_any (is_unmet id key found) ms ≡ true
  is_unmet_of id (c, k, p, n) =
      let m = made c k in
      some_any (is_unmet id key found) ms m.0 m.1
      (both (prepares_key id key (made_of m.0)) (observes m.0.request m.0.reply key found) (sym (ap (prepares_key id key) m.2) ∙ p)
      (is_observed key found m.0.request m.0.reply (subst (λ (x : calls.StoreCall). Contains (observed_in x.request x.reply) (key, found)) m.2 n)))

  -- a key is prepared by the calls, seen either way
  prepared_as : (id : TxId) → list_any (prepares_key id key) (calls_of events client s) ≡ has_prepared ms id key
  prepared_as id = ap (list_any (prepares_key id key)) (sym e) ∙ any_made (prepares_key id key) ms

  checked_is : (id : TxId) → (not (has_prepared ms id key) && list_any (λ (m : Made). read_observes m key found) ms) ≡ true → IsChecked (calls_of events client s) id key found
  checked_is id h =
      let n = not (has_prepared ms id key) in
      let l = list_any (λ (m : Made). read_observes m key found) ms in
      let r = any_some (λ (m : Made). read_observes m key found) ms (right n l h) in
      (made_of r.0, contained r.0 r.1, shows_is r.0 key found r.2, prepared_as id ∙ not_true (has_prepared ms id key) (left n l h))

  is_checked_of : (id : TxId) → IsChecked (calls_of events client s) id key found → (not (has_prepared ms id key) && list_any (λ (m : Made). read_observes m key found) ms) ≡ true
  is_checked_of id (c, k, shows, none) =
      let m = made c k in
      both (not (has_prepared ms id key)) (list_any (λ (x : Made). read_observes x key found) ms) (true_not (has_prepared ms id key) (sym (prepared_as id) ∙ none))
      (some_any (λ (x : Made). read_observes x key found) ms m.0 m.1 (is_shows m.0 key found (subst (λ y. ReadObserves y key found) m.2 shows)))

  abbrev rescans : Bool
  rescans = list_any (λ (m : Made). scan_observes m key found) ms

  at_commit : (id : TxId) → conflict_at_commit ms (read_set_of events id) id key found ≡ true → IsConflictAtCommit events client s id key found
  at_commit id h =
      let read_set = read_set_of events id in
      let a = has_changed_from read_set key found in
      let b = is_found_by ms id key found in
      let d = is_rebased ms read_set id key in
      let u = list_any (is_unmet id key found) ms in
      let c = not (has_prepared ms id key) && list_any (λ (m : Made). read_observes m key found) ms in
      elim (either (a && b) (rescans && d) h) [
        | inl x ↦ inl (moved_is read_set key found (left a b x), elim (either u c (right a b x)) [ inl y ↦ inl (unmet_is id y) | inr z ↦ inr (checked_is id z) ])
        | inr x ↦
            let r = any_some (λ (m : Made). scan_observes m key found) ms (left rescans d x) in
            inr ((made_of r.0, contained r.0 r.1, scans_is key found r.0.request r.0.reply r.2), rebased_is read_set id (right rescans d x))
      ]

  is_at_commit : (id : TxId) → IsConflictAtCommit events client s id key found → conflict_at_commit ms (read_set_of events id) id key found ≡ true
  is_at_commit id (inl (moved, why)) =
      let read_set = read_set_of events id in
      let u = list_any (is_unmet id key found) ms in
      let c = not (has_prepared ms id key) && list_any (λ (m : Made). read_observes m key found) ms in
      or_left (has_changed_from read_set key found && is_found_by ms id key found) (rescans && is_rebased ms read_set id key)
      (both (has_changed_from read_set key found) (is_found_by ms id key found) (is_moved_of read_set key found moved)
      (elim why [ inl y ↦ or_left u c (is_unmet_of id y) | inr z ↦ or_right u c (is_checked_of id z) ]))
  is_at_commit id (inr ((c, k, shows), based)) =
      let read_set = read_set_of events id in
      let m = made c k in
      or_right (has_changed_from read_set key found && is_found_by ms id key found) (rescans && is_rebased ms read_set id key)
      (both rescans (is_rebased ms read_set id key)
      (some_any (λ (x : Made). scan_observes x key found) ms m.0 m.1 (is_scans key found m.0.request m.0.reply (subst (λ (y : calls.StoreCall). Scans (λ rows. record_among rows key) y.request y.reply key found) m.2 shows)))
      (is_rebased_of read_set id based))

  abbrev look : List calls.StoreCall → List Record → Option Record
  look cs rows = option_and_then (meaning_of cs) (record_among rows key)

  means_is : (q : Request) (r : Reply) → means_by ms key found q r ≡ true → Scans (look (all_made ms)) q r key found
  means_is (ask.Scan span) (reply.Rows rows) h =
      (span, rows, refl, left (in_span span key) (same_found (look (all_made ms) rows) found) h, refl, sym (found_is (look (all_made ms) rows) found (right (in_span span key) (same_found (look (all_made ms) rows) found) h)))
  means_is (ask.Scan span) (reply.Found x) h = clash (sym h)
  means_is (ask.Scan span) reply.Applied h = clash (sym h)
  means_is (ask.Scan span) (reply.NotMet x) h = clash (sym h)
  means_is (ask.Scan span) (reply.NotAll place there) h = clash (sym h)
  means_is (ask.Scan span) reply.Fault h = clash (sym h)
  means_is (ask.Scan span) reply.NoMemory h = clash (sym h)
  means_is (ask.Get k) r h = clash (sym h)
  means_is (ask.PutIf rec condition) r h = clash (sym h)
  means_is (ask.DeleteIf k condition) r h = clash (sym h)
  means_is (ask.PutAll batch) r h = clash (sym h)

  is_means : (q : Request) (r : Reply) → Scans (look (all_made ms)) q r key found → means_by ms key found q r ≡ true
  is_means q r (span, rows, a, i, b, g) =
      ap (λ x. means_by ms key found x r) a ∙ ap (λ x. means_by ms key found (ask.Scan span) x) b
      ∙ both (in_span span key) (same_found (look (all_made ms) rows) found) i (is_found (look (all_made ms) rows) found (sym g))

  at_scan : (id : TxId) → conflict_at_scan ms (read_set_of events id) key found ≡ true → IsConflictAtScan events client s id key found
  at_scan id h =
      let read_set = read_set_of events id in
      let r = any_some (means ms key found) ms (right (has_changed_from read_set key found) (list_any (means ms key found) ms) h) in
      let x = means_is r.0.request r.0.reply r.2 in
      (made_of r.0, x.0, x.1, contained r.0 r.1, x.2, x.4, x.3, subst (λ cs. found ≡ look cs x.1) e x.5, moved_is read_set key found (left (has_changed_from read_set key found) (list_any (means ms key found) ms) h))

  is_at_scan : (id : TxId) → IsConflictAtScan events client s id key found → conflict_at_scan ms (read_set_of events id) key found ≡ true
  is_at_scan id (c, span, rows, k, q, r, i, g, moved) =
      let read_set = read_set_of events id in
      let m = made c k in
      both (has_changed_from read_set key found) (list_any (means ms key found) ms) (is_moved_of read_set key found moved)
      (some_any (means ms key found) ms m.0 m.1 (is_means m.0.request m.0.reply (span, rows, sym (ap (λ (x : calls.StoreCall). x.request) m.2) ∙ q, i, sym (ap (λ (x : calls.StoreCall). x.reply) m.2) ∙ r, subst (λ cs. found ≡ look cs rows) (sym e) g)))

  pub conflict_is : any_id events client (conflict_of events client s ms key found) ≡ true → IsConflict events client s key found
  conflict_is h =
      let r = id_some events client (conflict_of events client s ms key found) h in
      let id = r.0 in
      let a = is_commit_of events client s id in
      let b = conflict_at_commit ms (read_set_of events id) id key found in
      let c = is_in events client s id in
      let d = conflict_at_scan ms (read_set_of events id) key found in
      let n = not (reads_commit s.text) in (
        id,
        elim (either (a && b) (n && (c && d)) r.1) [
          | inl x ↦ inl (commit_is events client s id (left a b x), at_commit id (right a b x))
          | inr y ↦ inr (in_is events client s id (left c d (right n (c && d) y)), not_true (reads_commit s.text) (left n (c && d) y), at_scan id (right c d (right n (c && d) y)))
        ],
      )

  pub is_conflict_of : IsConflict events client s key found → any_id events client (conflict_of events client s ms key found) ≡ true
  is_conflict_of (id, inl (c, x)) =
      let a = is_commit_of events client s id in
      let b = conflict_at_commit ms (read_set_of events id) id key found in
      commit_found events client s (conflict_of events client s ms key found) id c
      (or_left (a && b) (not (reads_commit s.text) && (is_in events client s id && conflict_at_scan ms (read_set_of events id) key found)) (both a b (is_commit events client s id c) (is_at_commit id x)))
  is_conflict_of (id, inr (i, n, x)) =
      let c = is_in events client s id in
      let d = conflict_at_scan ms (read_set_of events id) key found in
      in_found events client s (conflict_of events client s ms key found) id i
      (or_right (is_commit_of events client s id && conflict_at_commit ms (read_set_of events id) id key found) (not (reads_commit s.text) && (c && d)) (both (not (reads_commit s.text)) (c && d) (true_not (reads_commit s.text) n) (both c d (is_in_of events client s id i) (is_at_scan id x))))
