-- Where contents are known, each write of a survey is met or passed over.
use Rattle.std.proofs.Common.{◌≡◌, ◌≢◌, ◌==◌, inl, inr, ℕ, List, [], ◌∷◌, ◌++◌, map, Bool, true, false, not, ◌&&◌, cond, Option, Some, None, refl, sym, ap, subst, ◌∙◌}
use Rattle.std.specs.Prelude.{codes, filter, flat_map, if◌then◌else◌}
use Rattle.std.specs.Cmp.{tied_itself}
use Rattle.std.specs.List.{AllByRecursion, list_all}
use Rattle.std.specs.Ordering.{is_eq, is_lt}
use Rattle.std.specs.Str.{bytes_eq}
use Rattle.sdb_contents.specs.Types.{Condition, Entry, Key, Record, Request, Table, TableName}
use Rattle.sdb_types.specs.declared.record.Condition.TheVariants.{Absent, Version}
use Rattle.sdb_types.specs.declared.record.Reply.TheVariants as reply
use Rattle.sdb_types.specs.declared.record.Request.TheVariants as ask
use Rattle.sdb_types.specs.declared.record.State.TheVariants.{Committed}
use Rattle.sdb_types.specs.declared.value.Value.TheVariants as value
use Rattle.std.specs.Prelude.{pos}
use Rattle.sdb_types.specs.Contents.{Contents, after, has_value, holds, in_span, put_reply, record_at, reply_to, rise, rows_in, starts_after}
use Rattle.sdb_types.specs.Order.{key_cmp, same_key}
use Rattle.sdb_types.specs.TxId.{id_text}
use Rattle.sdb_types.specs.ValueLaws.{value_total}
use Rattle.sdb_types.proofs.Public.{all_each, and_both, and_false, and_first, and_second, append_all, by_test, eq_of, false_true}
use Rattle.sdb_record.specs.Parts.{is_column_name}
use Rattle.sdb_stores.specs.Views.{Attached, StoreView, index_at}
use Rattle.sdb_catalog.specs.Rows.{MayHaveRow, metadata_table, row_of}
use Rattle.sdb_catalog.proofs.Public.{key_of_row, own_ns, version_there}
use Rattle.law_protocol.proofs.Public.{after_put}
use Rattle.sdb_contents.specs.declared.seen.Seen.{Seen}
use Rattle.sdb_contents.specs.declared.survey.Survey.{Survey}
use Rattle.sdb_contents.specs.Copying.{Passes, WasUnmet, delete_of, delete_on, put_of, requests_for, requests_of, version_in}
use Rattle.sdb_contents.specs.Joined.{AreApart, IsWhole, after_all}
use Rattle.sdb_contents.specs.Moving.{FollowMoving, is_moving, renewal, renewals, renewed}
use Rattle.sdb_contents.specs.Retired.{AreKnown, IsSurvey, Sides, writes_of}
use Rattle.sdb_contents.specs.Writes.{Write, after_write, after_writes, contents_at, contents_of, span_of, write_at, writes_at}
use Rattle.sdb_contents.proofs.Apart.{row_table, some_names}
use Rattle.sdb_contents.proofs.RetireCalls.{same_itself}
use Rattle.sdb_contents.proofs.Joins.{Agree, IsFilled, after_each, agreed, apart_key, cleared_filled, put_fills, table_apart, table_of_key, tables_apart, within}
use Rattle.sdb_contents.proofs.Known.{apart_of_survey, at_other, nothing_here, own_writes, whole_all}

-- Each request, made one after the other, is met or passed over.
abbrev pub AllPass : List Request → Contents → Type 0
AllPass [] m = Unit {0}
AllPass (q ∷ qs) m = ((found : Option Record) → reply_to q m ≡ reply.NotMet found → Passes q found) × AllPass qs (after q m)

pass_more : (a b : List Request) (m : Contents) → AllPass a m → AllPass b (after_all a m) → AllPass (a ++ b) m
pass_more [] b m h k = k
pass_more (q ∷ qs) b m h k = (h.0, pass_more qs b (after q m) h.1 k)

---- copies

deletes_pass : (rows : List Record) (m : Contents) → AllPass (flat_map delete_of rows) m
deletes_pass [] m = tt
deletes_pass (x ∷ xs) m = by (version_in x) (λ n. deletes_pass xs n)
  where
    by : (o : Option Condition) → ((n : Contents) → AllPass (flat_map delete_of xs) n) → AllPass (delete_on x.key o ++ flat_map delete_of xs) m
    by None rest = rest m
    by (Some c) rest = (λ found e. tt, rest (after (ask.DeleteIf x.key c) m))

no_reply : {X : Type 0} (found : Option Record) → reply.Applied ≡ reply.NotMet found → X
no_reply found e = absurd (let f : reply.Applied ≡ reply.NotMet found = e in cc)

put_passes : (f : Contents) (r : Record) (m : Contents) → record_at f r.key ≡ Some r → IsFilled f m r.key → (found : Option Record) → reply_to (put_of r) m ≡ reply.NotMet found → Passes (put_of r) found
put_passes f r m own (inl none) found e = no_reply found (sym (ap (put_reply Absent) none) ∙ e)
put_passes f r m own (inr same) found e = subst (Passes (put_of r)) (found_is (sym (ap (put_reply Absent) (same ∙ own)) ∙ e)) refl
  where
    found_is : reply.NotMet (Some r) ≡ reply.NotMet found → Some r ≡ found
    found_is q = cc

puts_pass : (f : Contents) (rows : List Record) (m : Contents) → Agree f rows → AllByRecursion (λ x. IsFilled f m x.key) rows → AllPass (map put_of rows) m
puts_pass f [] m a h = tt
puts_pass f (r ∷ rs) m a h = (
  put_passes f r m a.0 h.0,
  puts_pass f rs (after (put_of r) m) a.1 (all_each (λ x. IsFilled f m x.key) (λ x. IsFilled f (after (put_of r) m) x.key) rs (λ x k. put_fills f r m x.key a.0 k) h.1),
)

table_passes : (to from : Contents) (s : Seen) (m : Contents) → IsWhole to from s → ((k : Key) → in_span (span_of s.table) k ≡ true → record_at m k ≡ record_at to k) → AllPass (requests_for s) m
table_passes to from s m w same =
    pass_more (flat_map delete_of s.in_to) (map put_of s.in_from) m (deletes_pass s.in_to m)
    (puts_pass from s.in_from (after_all (flat_map delete_of s.in_to) m) (agreed from s.in_from s.table w.in_from) (filled s.in_from (within from s.in_from s.table w.in_from)))
  where
    filled : (xs : List Record) → list_all (λ r. in_span (span_of s.table) r.key) xs ≡ true → AllByRecursion (λ x. IsFilled from (after_all (flat_map delete_of s.in_to) m) x.key) xs
    filled [] h = tt
    filled (x ∷ xs) h =
        let inside = and_first (in_span (span_of s.table) x.key) (list_all (λ r. in_span (span_of s.table) r.key) xs) h in
        (cleared_filled to from s m x.key w inside (same x.key inside), filled xs (and_second (in_span (span_of s.table) x.key) (list_all (λ r. in_span (span_of s.table) r.key) xs) h))

-- At keys of these tables there is what was there.
abbrev pub Fresh : Contents → Contents → List Seen → Type 0
Fresh to m seen = AllByRecursion (λ s. (k : Key) → in_span (span_of s.table) k ≡ true → record_at m k ≡ record_at to k) seen

still_fresh : (to from : Contents) (s : Seen) (m : Contents) (ss : List Seen) → IsWhole to from s → AllByRecursion (λ u. u ≢ s.table) (map (λ (x : Seen). x.table) ss) → Fresh to m ss → Fresh to (after_all (requests_for s) m) ss
still_fresh to from s m [] w far h = tt
still_fresh to from s m (t ∷ ts) w far h = (
  λ k inside. table_apart to from s m k w (by_test (in_span (span_of s.table) k) (λ e. absurd (far.0 (table_of_key t.table k inside ∙ sym (table_of_key s.table k e)))) (λ e. e)) ∙ h.0 k inside,
  still_fresh to from s m ts w far.1 h.1,
)

tables_pass : (to from : Contents) (seen : List Seen) (m : Contents) → AllByRecursion (IsWhole to from) seen → AreApart (map (λ (x : Seen). x.table) seen) → Fresh to m seen → AllPass (requests_of seen) m
tables_pass to from [] m w far h = tt
tables_pass to from (s ∷ ss) m w far h =
    pass_more (requests_for s) (requests_of ss) m (table_passes to from s m w.0 h.0) (tables_pass to from ss (after_all (requests_for s) m) w.1 far.1 (still_fresh to from s m ss w.0 far.0 h.1))

fresh_first : (to : Contents) (seen : List Seen) → Fresh to to seen
fresh_first to [] = tt
fresh_first to (s ∷ ss) = (λ k inside. refl, fresh_first to ss)

---- the rows of the catalog

-- no two of these rows have one key
abbrev pub KeysApart : List Entry → Type 0
KeysApart [] = Unit {0}
KeysApart (e ∷ es) = AllByRecursion (λ a. same_key (row_of a).key (row_of e).key ≡ false) es × KeysApart es

-- each of these rows is there
abbrev pub AreThere : Contents → List Entry → Type 0
AreThere m es = AllByRecursion (λ e. record_at m (row_of e).key ≡ Some (row_of e)) es

later_keys : (e : Entry) (es : List Entry) → AllByRecursion (λ r. is_lt (key_cmp (row_of e).key r.key) ≡ true) (map row_of es) → AllByRecursion (λ a. same_key (row_of a).key (row_of e).key ≡ false) es
later_keys e [] h = tt
later_keys e (a ∷ as_) h = (apart_key (row_of e).key (row_of a).key h.0, later_keys e as_ h.1)

pub keys_apart : (es : List Entry) → rise (map row_of es) ≡ true → KeysApart es
keys_apart [] up = tt
keys_apart (e ∷ es) up = (
  later_keys e es (after_each (row_of e).key (map row_of es) (and_second (starts_after (row_of e).key (map row_of es)) (rise (map row_of es)) up) (and_first (starts_after (row_of e).key (map row_of es)) (rise (map row_of es)) up)),
  keys_apart es (and_second (starts_after (row_of e).key (map row_of es)) (rise (map row_of es)) up),
)

some_each : (P : Entry → Type 0) (p : Entry → Bool) (es : List Entry) → AllByRecursion P es → AllByRecursion P (filter p es)
some_each P p [] h = tt
some_each P p (e ∷ es) h = elim (p e) as (λ b. AllByRecursion P (cond b (e ∷ filter p es) (filter p es))) [
  | true ↦ (h.0, some_each P p es h.1)
  | false ↦ some_each P p es h.1
]

some_keys : (p : Entry → Bool) (es : List Entry) → KeysApart es → KeysApart (filter p es)
some_keys p [] h = tt
some_keys p (e ∷ es) h = elim (p e) as (λ b. KeysApart (cond b (e ∷ filter p es) (filter p es))) [
  | true ↦ (some_each (λ a. same_key (row_of a).key (row_of e).key ≡ false) p es h.0, some_keys p es h.1)
  | false ↦ some_keys p es h.1
]

rows_there : (m : Contents) (es : List Entry) → Agree m (map row_of es) → AreThere m es
rows_there m [] h = tt
rows_there m (e ∷ es) h = (h.0, rows_there m es h.1)

pub renewed_key : (to : List ℕ) (e : Entry) → (row_of (renewed to e)).key ≡ (row_of e).key
renewed_key to e = key_of_row (renewed to e) ∙ sym (key_of_row e)

renewal_met : (to : List ℕ) (e : Entry) (m : Contents) → record_at m (row_of e).key ≡ Some (row_of e) → reply_to (renewal to e) m ≡ reply.Applied
renewal_met to e m h =
    ap (put_reply (Version e.revision Committed)) (ap (record_at m) (renewed_key to e) ∙ h)
    ∙ ap (λ (b : Bool). if b then reply.Applied else reply.NotMet (Some (row_of e))) (version_there e)

-- a renewal leaves what is at other keys
pub renewed_other : (to : List ℕ) (e : Entry) (m : Contents) (k : Key) → same_key k (row_of e).key ≡ false → record_at (after (renewal to e) m) k ≡ record_at m k
renewed_other to e m k n =
    after_put (row_of (renewed to e)) (Version e.revision Committed) m k
    ∙ ap (λ (b : Bool). cond (holds (Version e.revision Committed) (record_at m (row_of (renewed to e)).key) && b) (Some (row_of (renewed to e))) (record_at m k)) (ap (same_key k) (renewed_key to e) ∙ n)
    ∙ ap (λ (b : Bool). cond b (Some (row_of (renewed to e))) (record_at m k)) (and_false (holds (Version e.revision Committed) (record_at m (row_of (renewed to e)).key)))

pub rows_stay : (to : List ℕ) (e : Entry) (m : Contents) (es : List Entry) → AllByRecursion (λ a. same_key (row_of a).key (row_of e).key ≡ false) es → AreThere m es → AreThere (after (renewal to e) m) es
rows_stay to e m [] far h = tt
rows_stay to e m (a ∷ as_) far h = (renewed_other to e m (row_of a).key far.0 ∙ h.0, rows_stay to e m as_ far.1 h.1)

renewals_pass : (to : List ℕ) (es : List Entry) (m : Contents) → KeysApart es → AreThere m es → AllPass (map (renewal to) es) m
renewals_pass to [] m far h = tt
renewals_pass to (e ∷ es) m far h = (λ found k. no_reply found (sym (renewal_met to e m h.0) ∙ k), renewals_pass to es (after (renewal to e) m) far.1 (rows_stay to e m es far.0 h.1))

---- no moving table has the catalog's rows

pub not_catalogs : (t : Table) → MayHaveRow t → t.name ≢ metadata_table
not_catalogs t (inl own) e = false_true (sym (ap (λ (n : TableName). bytes_eq n.ns (codes "coordinator")) e) ∙ ap (λ (u : Table). bytes_eq u.name.ns (codes "coordinator")) own ∙ own_ns)
not_catalogs t (inr may) e =
    false_true (sym (ap (λ (n : TableName). not (bytes_eq n.ns (codes "scalardb"))) e)
    ∙ and_second (not (bytes_eq t.name.ns (codes "coordinator"))) (not (bytes_eq t.name.ns (codes "scalardb")))
    (and_first (not (bytes_eq t.name.ns (codes "coordinator")) && not (bytes_eq t.name.ns (codes "scalardb"))) (is_column_name t.name.table)
    (and_second (is_column_name t.name.ns) ((not (bytes_eq t.name.ns (codes "coordinator")) && not (bytes_eq t.name.ns (codes "scalardb"))) && is_column_name t.name.table) may.1)))

none_catalogs : (names : List (List ℕ)) (from to : List ℕ) (passed es : List Entry) → FollowMoving names from to passed es → AllByRecursion (λ t. t ≢ metadata_table) (map (λ (e : Entry). e.table.name) es)
none_catalogs names from to passed [] h = tt
none_catalogs names from to passed (e ∷ es) h = (not_catalogs e.table h.0.0.table, none_catalogs names from to (passed ++ e ∷ []) es h.1)

outside_each : (k : Key) (seen : List Seen) → k.table ≡ metadata_table → AllByRecursion (λ t. t ≢ metadata_table) (map (λ (x : Seen). x.table) seen) → AllByRecursion (λ s. in_span (span_of s.table) k ≡ false) seen
outside_each k [] own h = tt
outside_each k (s ∷ ss) own h = (by_test (in_span (span_of s.table) k) (λ e. absurd (h.0 (table_of_key s.table k e ∙ own))) (λ e. e), outside_each k ss own h.1)

none_seen : (s : Sides) (old : Attached) (v : Survey) → IsSurvey s old v → AllByRecursion (λ t. t ≢ metadata_table) (map (λ (x : Seen). x.table) v.seen)
none_seen s old v h =
    subst (AllByRecursion (λ (t : TableName). t ≢ metadata_table)) (sym h.seen.named)
    (some_names (λ t. t ≢ metadata_table) (λ e. is_moving s.from v.entries e.table.name.ns) v.entries (none_catalogs _ s.from s.to [] v.entries h.opened.opens.follow))

-- the copies leave the rows of the catalog as they are
pub rows_kept : (s : Sides) (old : Attached) (v : Survey) (k : Key) → AreKnown s old → IsSurvey s old v → k.table ≡ metadata_table → record_at (after_writes 0 (writes_at (index_at old s.to) (requests_of v.seen)) (contents_at old.views 0)) k ≡ record_at (contents_at old.views 0) k
rows_kept s old v k known h own = by_test (index_at old s.to == 0) here (λ e. ap (λ (m : Contents). record_at m k) (nothing_here 0 (writes_at (index_at old s.to) (requests_of v.seen)) (contents_at old.views 0) (at_other 0 (index_at old s.to) (requests_of v.seen) e)))
  where
    here : (index_at old s.to == 0) ≡ true → record_at (after_writes 0 (writes_at (index_at old s.to) (requests_of v.seen)) (contents_at old.views 0)) k ≡ record_at (contents_at old.views 0) k
    here e = subst (λ (n : ℕ). record_at (after_writes n (writes_at (index_at old s.to) (requests_of v.seen)) (contents_at old.views n)) k ≡ record_at (contents_at old.views n) k) (eq_of (index_at old s.to) 0 e)
        (ap (λ (m : Contents). record_at m k) (own_writes (index_at old s.to) (requests_of v.seen) (contents_at old.views (index_at old s.to)))
        ∙ tables_apart (contents_at old.views (index_at old s.to)) (contents_at old.views (index_at old s.from)) v.seen (contents_at old.views (index_at old s.to)) k (whole_all s old v known.from known.to h) (outside_each k v.seen own (none_seen s old v h)))

each_kept : (s : Sides) (old : Attached) (v : Survey) (es : List Entry) → AreKnown s old → IsSurvey s old v → AreThere (contents_at old.views 0) es → AreThere (after_writes 0 (writes_at (index_at old s.to) (requests_of v.seen)) (contents_at old.views 0)) es
each_kept s old v es known h there = all_each (λ e. record_at (contents_at old.views 0) (row_of e).key ≡ Some (row_of e)) _ es (λ e k. rows_kept s old v (row_of e).key known h (row_table e) ∙ k) there

-- The catalog's rows are those of the entries.
pub first_rows : (s : Sides) (old : Attached) (v : Survey) → old.known 0 → IsSurvey s old v → rows_in (span_of metadata_table) (contents_at old.views 0) ≡ map row_of v.entries
first_rows s old v t h = sym (h.opened.observed.known t) ∙ h.opened.opens.rows

pub first_rise : (s : Sides) (old : Attached) (v : Survey) → IsSurvey s old v → rise (map row_of v.entries) ≡ true
first_rise s old v h = subst (λ (rs : List Record). rise rs ≡ true) h.opened.opens.rows (and_first (rise h.opened.rows) _ h.opened.observed.lawful)

pub first_there : (s : Sides) (old : Attached) (v : Survey) → AreKnown s old → IsSurvey s old v → AreThere (after_writes 0 (writes_at (index_at old s.to) (requests_of v.seen)) (contents_at old.views 0)) v.entries
first_there s old v known h =
    each_kept s old v v.entries known h (rows_there (contents_at old.views 0) v.entries (agreed (contents_at old.views 0) (map row_of v.entries) metadata_table (sym (first_rows s old v known.first h))))

---- both, at each store

-- Each write to the store at an index, made one after the other, is met or passed over.
abbrev pub PassAt : ℕ → List Write → Contents → Type 0
PassAt i [] m = Unit {0}
PassAt i (w ∷ ws) m = ((w.at == i) ≡ true → (found : Option Record) → reply_to w.request m ≡ reply.NotMet found → Passes w.request found) × PassAt i ws (after_write i w m)

pass_at_more : (i : ℕ) (a b : List Write) (m : Contents) → PassAt i a m → PassAt i b (after_writes i a m) → PassAt i (a ++ b) m
pass_at_more i [] b m h k = k
pass_at_more i (w ∷ ws) b m h k = (h.0, pass_at_more i ws b (after_write i w m) h.1 k)

pass_there : (i j : ℕ) (qs : List Request) (m : Contents) → ((j == i) ≡ true → AllPass qs m) → PassAt i (writes_at j qs) m
pass_there i j [] m h = tt
pass_there i j (q ∷ qs) m h = (λ e. (h e).0, pass_there i j qs (after_write i (write_at j q) m) (λ e. subst (AllPass qs) (sym (ap (λ (b : Bool). if b then after q m else m) e)) (h e).1))

pass_one : (i : ℕ) (done : List Write) (w : Write) (later : List Write) (m : Contents) → (w.at == i) ≡ true → PassAt i (done ++ w ∷ later) m → (found : Option Record) → reply_to w.request (after_writes i done m) ≡ reply.NotMet found → Passes w.request found
pass_one i [] w later m e h = h.0 e
pass_one i (x ∷ xs) w later m e h = pass_one i xs w later (after_write i x m) e h.1

survey_passes : (s : Sides) (old : Attached) (v : Survey) (i : ℕ) → AreKnown s old → IsSurvey s old v → PassAt i (writes_of (index_at old s.to) s v) (contents_at old.views i)
survey_passes s old v i known h =
    let ti = index_at old s.to in
    let qs = requests_of v.seen in
    let to = contents_at old.views ti in
    pass_at_more i (writes_at ti qs) (writes_at 0 (renewals s.from s.to v.entries)) (contents_at old.views i)
    (pass_there i ti qs (contents_at old.views i)
    (λ e. subst (λ (n : ℕ). AllPass qs (contents_at old.views n)) (eq_of ti i e) (tables_pass to (contents_at old.views (index_at old s.from)) v.seen to (whole_all s old v known.from known.to h) (apart_of_survey s old v h) (fresh_first to v.seen))))
    (pass_there i 0 (renewals s.from s.to v.entries) (after_writes i (writes_at ti qs) (contents_at old.views i))
    (λ e. subst (λ (n : ℕ). AllPass (renewals s.from s.to v.entries) (after_writes n (writes_at ti qs) (contents_at old.views n))) (eq_of 0 i e)
    (renewals_pass s.to (filter (λ e. bytes_eq e.store s.from) v.entries) (after_writes 0 (writes_at ti qs) (contents_at old.views 0)) (some_keys (λ e. bytes_eq e.store s.from) v.entries (keys_apart v.entries (first_rise s old v h)))
    (some_each (λ e. record_at (after_writes 0 (writes_at ti qs) (contents_at old.views 0)) (row_of e).key ≡ Some (row_of e)) (λ e. bytes_eq e.store s.from) v.entries (first_there s old v known h)))))

told_each : (old : Attached) (at : ℕ) (qs : List Request) → old.known at → AllByRecursion (λ w. old.known w.at) (writes_at at qs)
told_each old at [] t = tt
told_each old at (q ∷ qs) t = (t, told_each old at qs t)

that_one : (P : Write → Type 0) (done : List Write) (w : Write) (later : List Write) → AllByRecursion P (done ++ w ∷ later) → P w
that_one P [] w later h = h.0
that_one P (x ∷ xs) w later h = that_one P xs w later h.1

-- no write of a survey finds another record
pub all_met : (s : Sides) (v : Survey) (old : Attached) (new : List StoreView) (place : Key) → AreKnown s old → IsSurvey s old v → WasUnmet (writes_of (index_at old s.to) s v) place old new → ⊥
all_met s v old new place known h u =
    let ti = index_at old s.to in
    let at = u.write.at in
    let all = append_all (λ (w : Write). old.known w.at) (writes_at ti (requests_of v.seen)) (writes_at 0 (renewals s.from s.to v.entries)) (told_each old ti (requests_of v.seen) known.to) (told_each old 0 (renewals s.from s.to v.entries) known.first) in
    let t = that_one (λ (w : Write). old.known w.at) u.done u.write u.later (subst (AllByRecursion (λ (w : Write). old.known w.at)) u.parts all) in
    let passes = subst (λ (ws : List Write). PassAt at ws (contents_at old.views at)) u.parts (survey_passes s old v at known h) in
    u.fails (pass_one at u.done u.write u.later (contents_at old.views at) (same_itself at) passes u.found
    (ap (reply_to u.write.request) (sym (u.held at t) ∙ ap contents_of u.called.stood) ∙ sym (u.called.performed t).0))
