-- What a transaction takes into its COMMIT is a plan of the protocol, and its checks are of the plan's notes.
use Rattle.std.proofs.Common.{◌≡◌, ◌≢◌, ◌≤◌, ℕ, zero, suc, Bool, true, false, List, [], ◌∷◌, ◌++◌, length, map, Option, Some, None, refl, sym, ap, subst, ◌∙◌, arith, ◌⊎◌, inl, inr}
use Rattle.std.specs.Prelude.{slice_get, is_some, filter, not, ◌==◌, if◌then◌else◌}
use Rattle.std.specs.List.{AllByRecursion}
use Rattle.std.specs.Option.{option_map, option_and_then}
use Rattle.std.proofs.lemmas.Option.{slice_get-map}
use Rattle.std.proofs.lemmas.List.{map-append}
use Rattle.std.proofs.lemmas.Bool.Decides.{nat_tests}
use Rattle.law_clients.specs.Types.{Check, Key, Read, Record, Reply, Scan, TxId, Write}
use Rattle.sdb_types.specs.declared.record.Reply.TheVariants as reply
use Rattle.sdb_types.specs.declared.record.Request.TheVariants as ask
use Rattle.sdb_types.specs.Contents.{CanAnswer, in_span, rise, record_among}
use Rattle.sdb_record.specs.Moved.{version_of, same_version, is_unchanged}
use Rattle.sdb_record.specs.Rolls.{IsWrite}
use Rattle.sdb_record.proofs.Public.{groups_once, place_in_groups, place_of_grouped}
use Rattle.sdb_txn.proofs.Public.{keys_differ}
use Rattle.sdb_record.specs.Among.{version_among, write_among, is_written}
use Rattle.law_protocol.specs.Plan.{write_at, written, version_read_at, number_of}
use Rattle.sdb_model.specs.ReadSet.{ReadItem, KeyRead, SpanRead, version_read}
use Rattle.sdb_phases.specs.Work.{Work}
use Rattle.sdb_phases.specs.Checks.{checks, check_of_read, check_of_scan, base_of, first_difference, wanted, changed}
use Rattle.sdb_phases.specs.Steps.{validate_step, judged}
use Rattle.sdb_phases.specs.CommitLaws.{is_more}
use Rattle.sdb_validate.specs.Rescan.{reads_rise, base_in, is_unchanged_by, is_unchanged_at, IsFirstLost}
use Rattle.sdb_validate.proofs.Public.{first_lost}
use Rattle.law_clients.specs.Owner.{plan_of, items_of_work, checked_items, own_items, ItemAgrees, CheckPasses, WorkOk, IsReading}
use Rattle.law_clients.proofs.Lists.{each_at, each_map, each_filter}
use Rattle.sdb_snapshot.specs.Written.{HaveKeysOnce}
use Rattle.law_clients.specs.Reads.{ReadAgrees, Sound}
use Rattle.sdb_types.proofs.Public.{all_each as each_any, and_first as rises, append_all as each_append, none_some as some_apart, not_true, same_key_self, same_key_decides}
use Rattle.sdb_types.specs.Order.{same_key}
use Rattle.sdb_model.specs.Tables.{is_data}

---- the write of a key

base_is : (ws : List Write) (k : Key) → base_of ws k ≡ option_map (λ (w : Write). version_of w.base) (write_among ws k)
base_is [] k = refl
base_is (w ∷ ws) k = by (same_key k w.key) (base_is ws k)
  where
    by : (b : Bool) → base_of ws k ≡ option_map (λ (x : Write). version_of x.base) (write_among ws k) → (if b then Some (version_of w.base) else base_of ws k) ≡ option_map (λ (x : Write). version_of x.base) (if b then Some w else write_among ws k)
    by true ih = refl
    by false ih = ih

-- the plan's writes
written_base : (p : Work) (k : Key) (base : Option ℕ) → written (plan_of p) k ≡ Some base → (v : Option TxId) × (base_of p.writes k ≡ Some v) × (number_of v ≡ base)
unfolding written write_at
written_base p k base h = by (write_among p.writes k) refl h
  where
    some_is : (x y : Option ℕ) → Some x ≡ Some y → x ≡ y
    some_is x y e = cc

    by : (o : Option Write) → write_among p.writes k ≡ o → option_map (λ (w : Write). number_of (version_of w.base)) o ≡ Some base → (v : Option TxId) × (base_of p.writes k ≡ Some v) × (number_of v ≡ base)
    by None at e = absurd (cc)
    by (Some w) at e = (version_of w.base, base_is p.writes k ∙ ap (option_map (λ (x : Write). version_of x.base)) at, some_is (number_of (version_of w.base)) base e)

free_base : (p : Work) (k : Key) → written (plan_of p) k ≡ None → base_of p.writes k ≡ None
unfolding written write_at
free_base p k h = by (write_among p.writes k) refl h
  where
    by : (o : Option Write) → write_among p.writes k ≡ o → option_map (λ (w : Write). number_of (version_of w.base)) o ≡ None → base_of p.writes k ≡ None
    by None at e = base_is p.writes k ∙ ap (option_map (λ (x : Write). version_of x.base)) at
    by (Some w) at e = absurd (cc)

-- a key that is not written has no base
unwritten_base : (ws : List Write) (k : Key) → is_written ws k ≡ false → base_of ws k ≡ None
unwritten_base ws k h = base_is ws k ∙ by (write_among ws k) h
  where
    by : (o : Option Write) → is_some o ≡ false → option_map (λ (w : Write). version_of w.base) o ≡ None
    by None h = refl
    by (Some w) h = absurd (cc)

-- and a key without one is not written
pub no_base : (ws : List Write) (k : Key) → base_of ws k ≡ None → is_written ws k ≡ false
no_base ws k h = by (write_among ws k) (sym (base_is ws k) ∙ h)
  where
    by : (o : Option Write) → option_map (λ (w : Write). version_of w.base) o ≡ None → is_some o ≡ false
    by None e = refl
    by (Some w) e = absurd (cc)

pub not_noted : {A : Type 0} (p : Work) (j : ℕ) (k : Key) (version : Option ℕ) → slice_get (items_of_work p) j ≡ None → version_read_at (plan_of p) j k ≡ Some version → A
unfolding version_read_at
not_noted p j k version at h = some_apart version (sym (ap (λ o. option_map number_of (option_and_then (λ x. version_read x k) o)) at) ∙ h)

---- lists

lengths : {A B : Type 0} (f : A → B) (xs : List A) → length (map f xs) ≡ length xs
lengths f [] = refl
lengths f (x ∷ xs) = ap suc (lengths f xs)

at_front : {A : Type 0} (xs ys : List A) (i : ℕ) (x : A) → slice_get xs i ≡ Some x → slice_get (xs ++ ys) i ≡ Some x
at_front [] ys i x h = some_apart x h
at_front (y ∷ xs) ys zero x h = h
at_front (y ∷ xs) ys (suc i) x h = at_front xs ys i x h

at_back : {A : Type 0} (xs ys : List A) (i : ℕ) (x : A) → length xs ≤ i → slice_get (xs ++ ys) i ≡ Some x → (j : ℕ) × (slice_get ys j ≡ Some x)
at_back [] ys i x l h = (i, h)
at_back (y ∷ xs) ys zero x l h = absurd (omega arith)
at_back (y ∷ xs) ys (suc i) x l h = at_back xs ys i x (omega arith) h

---- checks and notes

abbrev check_of : List Write → ReadItem → Check
check_of own (KeyRead r) = check_of_read r
check_of own (SpanRead s) = check_of_scan own s

map_got : (own : List Write) (rs : List Read) → map (check_of own) (map KeyRead rs) ≡ map check_of_read rs
map_got own [] = refl
map_got own (r ∷ rs) = ap (λ cs. check_of_read r ∷ cs) (map_got own rs)

map_scanned : (own : List Write) (ss : List Scan) → map (check_of own) (map SpanRead ss) ≡ map (check_of_scan own) ss
map_scanned own [] = refl
map_scanned own (s ∷ ss) = ap (λ cs. check_of_scan own s ∷ cs) (map_scanned own ss)

checks_are : (p : Work) → checks p ≡ map (check_of p.writes) (checked_items p)
checks_are p = sym (
    map-append (check_of p.writes) (map KeyRead (filter (λ (r : Read). not (is_written p.writes r.key)) p.reads)) (map SpanRead p.scans)
    ∙ ap (λ xs. xs ++ map (check_of p.writes) (map SpanRead p.scans)) (map_got p.writes (filter (λ (r : Read). not (is_written p.writes r.key)) p.reads))
    ∙ ap (λ xs. map check_of_read (filter (λ (r : Read). not (is_written p.writes r.key)) p.reads) ++ xs) (map_scanned p.writes p.scans)
    )

-- the note of a check
note_of : (p : Work) (i : ℕ) (c : Check) → slice_get (checks p) i ≡ Some c → (n : ReadItem) × (slice_get (checked_items p) i ≡ Some n) × (check_of p.writes n ≡ c)
note_of p i c h = by (slice_get (checked_items p) i) refl (sym (slice_get-map (check_of p.writes) (checked_items p) i) ∙ ap (λ xs. slice_get xs i) (sym (checks_are p)) ∙ h)
  where
    some_is : (x y : Check) → Some x ≡ Some y → x ≡ y
    some_is x y e = cc

    by : (o : Option ReadItem) → slice_get (checked_items p) i ≡ o → option_map (check_of p.writes) o ≡ Some c → (n : ReadItem) × (slice_get (checked_items p) i ≡ Some n) × (check_of p.writes n ≡ c)
    by None at e = some_apart c e
    by (Some n) at e = (n, at, some_is (check_of p.writes n) c e)

-- what is so of each note that is checked, and of each other
abbrev IsCheckedNote : List Write → ReadItem → Type 0
IsCheckedNote own (KeyRead r) = is_written own r.key ≡ false
IsCheckedNote own (SpanRead s) = reads_rise s.found ≡ true

abbrev IsOwnNote : List Write → ReadItem → Type 0
IsOwnNote own (KeyRead r) = ReadAgrees own r × (is_written own r.key ≡ true)
IsOwnNote own (SpanRead s) = ⊥

checked_notes_are : (p : Work) → Sound p → AllByRecursion (IsCheckedNote p.writes) (checked_items p)
checked_notes_are p ok = each_append (IsCheckedNote p.writes) (map KeyRead (filter (λ (r : Read). not (is_written p.writes r.key)) p.reads)) (map SpanRead p.scans)
    (each_map (IsCheckedNote p.writes) KeyRead (filter (λ (r : Read). not (is_written p.writes r.key)) p.reads) (each_any (λ r. ReadAgrees p.writes r × (not (is_written p.writes r.key) ≡ true)) (λ r. is_written p.writes r.key ≡ false) (filter (λ (r : Read). not (is_written p.writes r.key)) p.reads) (λ r h. not_true (is_written p.writes r.key) h.1) (each_filter (ReadAgrees p.writes) (λ (r : Read). not (is_written p.writes r.key)) p.reads ok.reads)))
    (each_map (IsCheckedNote p.writes) SpanRead p.scans ok.scans)

own_notes_are : (p : Work) → Sound p → AllByRecursion (IsOwnNote p.writes) (own_items p)
own_notes_are p ok = each_map (IsOwnNote p.writes) KeyRead (filter (λ (r : Read). is_written p.writes r.key) p.reads) (each_filter (ReadAgrees p.writes) (λ (r : Read). is_written p.writes r.key) p.reads ok.reads)

-- what a note says of a key, in the plan
pub noted_by : (p : Work) (i : ℕ) (k : Key) (version : Option ℕ) (n : ReadItem) → slice_get (items_of_work p) i ≡ Some n → version_read_at (plan_of p) i k ≡ Some version → option_map number_of (version_read n k) ≡ Some version
unfolding version_read_at
noted_by p i k version n at h = ap (λ o. option_map number_of (option_and_then (λ x. version_read x k) o)) (sym at) ∙ h

pub got_says : (r : Read) (k : Key) (version : Option ℕ) → option_map number_of (version_read (KeyRead r) k) ≡ Some version → (r.key ≡ k) × (number_of r.version ≡ version)
got_says r k version h = by (same_key_decides r.key k) h
  where
    some_is : (x y : Option ℕ) → Some x ≡ Some y → x ≡ y
    some_is x y e = cc

    by : ((same_key r.key k ≡ true) × (r.key ≡ k)) ⊎ ((same_key r.key k ≡ false) × (r.key ≢ k)) → option_map number_of (if same_key r.key k then Some r.version else None) ≡ Some version → (r.key ≡ k) × (number_of r.version ≡ version)
    by (inl x) e = (x.1, some_is (number_of r.version) version (ap (λ b. option_map number_of (if b then Some r.version else None)) (sym x.0) ∙ e))
    by (inr x) e = some_apart version (ap (λ b. option_map number_of (if b then Some r.version else None)) (sym x.0) ∙ e)

pub scan_says : (s : Scan) (k : Key) (version : Option ℕ) → option_map number_of (version_read (SpanRead s) k) ≡ Some version → (in_span s.span k ≡ true) × (number_of (version_among s.found k) ≡ version)
scan_says s k version h = by (in_span s.span k) refl h
  where
    some_is : (x y : Option ℕ) → Some x ≡ Some y → x ≡ y
    some_is x y e = cc

    by : (b : Bool) → in_span s.span k ≡ b → option_map number_of (if b then Some (version_among s.found k) else None) ≡ Some version → (in_span s.span k ≡ true) × (number_of (version_among s.found k) ≡ version)
    by true t e = (t, some_is (number_of (version_among s.found k)) version e)
    by false f e = some_apart version e

---- what a check that passes says

same_number : (a b : Option TxId) → same_version a b ≡ true → number_of b ≡ number_of a
same_number None None h = refl
same_number None (Some b) h = absurd (cc)
same_number (Some a) None h = absurd (cc)
same_number (Some a) (Some b) h = ap (λ x. Some x) (equal b.0 a.0 h)
  where
    equal : (x y : ℕ) → (y == x) ≡ true → x ≡ y
    equal x y h = grind (arith, nat_tests)

got_agrees : (p : Work) (i : ℕ) (rd : Read) → slice_get (items_of_work p) i ≡ Some (KeyRead rd) → is_written p.writes rd.key ≡ false → ItemAgrees p i
got_agrees p i rd at free k version base h w =
    let says = got_says rd k version (noted_by p i k version (KeyRead rd) at h) in
    let b = written_base p k base w in
    some_apart b.0 (sym (unwritten_base p.writes rd.key free) ∙ ap (base_of p.writes) says.0 ∙ b.1)

got_tells : (p : Work) (i : ℕ) (rd : Read) (r : Reply) → slice_get (items_of_work p) i ≡ Some (KeyRead rd) → is_written p.writes rd.key ≡ false → CanAnswer (ask.Get rd.key) r → is_more (validate_step true (Some (check_of_read rd)) r) ≡ true → CheckPasses p i (ask.Get rd.key) r
got_tells p i rd reply.Fault at free can more = absurd (cc)
got_tells p i rd reply.NoMemory at free can more = absurd (cc)
got_tells p i rd reply.Applied at free can more = absurd can
got_tells p i rd (reply.NotMet found) at free can more = absurd can
got_tells p i rd (reply.Rows rows) at free can more = absurd can
got_tells p i rd (reply.NotAll place there) at free can more = absurd can
got_tells p i rd (reply.Found found) at free can more = record { item = KeyRead rd; at = at; unchanged = (found, refl, refl, by (is_unchanged found rd.version) refl more); agrees = got_agrees p i rd at free }
  where
    by : (b : Bool) → is_unchanged found rd.version ≡ b → is_more (judged true (changed b rd.key found)) ≡ true → is_unchanged found rd.version ≡ true
    by true t e = t
    by false f e = absurd (cc)

scan_kept : (p : Work) (s : Scan) (rows : List Record) → reads_rise s.found ≡ true → rise rows ≡ true → is_more (judged true (first_difference (wanted p.writes s) rows)) ≡ true → (k : Key) → is_unchanged_at p.writes s rows k ≡ true
scan_kept p s rows found rise more = by (first_difference (wanted p.writes s) rows) more (first_lost p.writes s rows found rise)
  where
    by : (o : Option (Key × Option Record)) → is_more (judged true o) ≡ true → IsFirstLost p.writes s rows o → (k : Key) → is_unchanged_at p.writes s rows k ≡ true
    by None e lost = lost
    by (Some d) e lost = absurd (cc)

scan_agrees : (p : Work) (i : ℕ) (s : Scan) (rows : List Record) → slice_get (items_of_work p) i ≡ Some (SpanRead s) → ((k : Key) → is_unchanged_at p.writes s rows k ≡ true) → ItemAgrees p i
scan_agrees p i s rows at kept k version base h w =
    let says = scan_says s k version (noted_by p i k version (SpanRead s) at h) in
    let b = written_base p k base w in
    let own : base_in s.span p.writes k ≡ Some b.0 = ap (λ t. if t then base_of p.writes k else None) says.0 ∙ b.1 in
    let same : same_version b.0 (version_among s.found k) ≡ true = ap (λ o. is_unchanged_by o (version_among s.found k) (record_among rows k)) (sym own) ∙ kept k in
    sym says.1 ∙ same_number b.0 (version_among s.found k) same ∙ b.2

scan_unchanged : (p : Work) (s : Scan) (rows : List Record) → ((k : Key) → is_unchanged_at p.writes s rows k ≡ true) → (k : Key) → in_span s.span k ≡ true → written (plan_of p) k ≡ None → is_unchanged (record_among rows k) (version_among s.found k) ≡ true
scan_unchanged p s rows kept k inside free =
    let own : base_in s.span p.writes k ≡ None = ap (λ t. if t then base_of p.writes k else None) inside ∙ free_base p k free in
    ap (λ o. is_unchanged_by o (version_among s.found k) (record_among rows k)) (sym own) ∙ kept k

scan_tells : (p : Work) (i : ℕ) (s : Scan) (r : Reply) → slice_get (items_of_work p) i ≡ Some (SpanRead s) → reads_rise s.found ≡ true → CanAnswer (ask.Scan s.span) r → is_more (validate_step true (Some (check_of_scan p.writes s)) r) ≡ true → CheckPasses p i (ask.Scan s.span) r
scan_tells p i s reply.Fault at found can more = absurd (cc)
scan_tells p i s reply.NoMemory at found can more = absurd (cc)
scan_tells p i s reply.Applied at found can more = absurd can
scan_tells p i s (reply.NotMet x) at found can more = absurd can
scan_tells p i s (reply.NotAll place there) at found can more = absurd can
scan_tells p i s (reply.Found x) at found can more = absurd can
scan_tells p i s (reply.Rows rows) at found can more =
    let kept = scan_kept p s rows found (rises (rise rows) _ can) more in
    record { item = SpanRead s; at = at; unchanged = (rows, refl, refl, scan_unchanged p s rows kept); agrees = scan_agrees p i s rows at kept }

---- the writes

unwritten_other : (ws : List Write) (i : ℕ) (k : Key) (w : Write) → is_written ws k ≡ false → slice_get ws i ≡ Some w → w.key ≢ k
unwritten_other [] i k w free at = some_apart w at
unwritten_other (x ∷ xs) zero k w free at = λ e. absurd (clash (sym (other (same_key k x.key) free) ∙ ap (same_key k) (key_is x w at ∙ e) ∙ same_key_self k))
  where
    key_is : (x w : Write) → Some x ≡ Some w → x.key ≡ w.key
    key_is x w e = cc

    other : (b : Bool) → is_some (if b then Some x else write_among xs k) ≡ false → b ≡ false
    other true e = absurd (cc)
    other false e = refl

    clash : false ≡ true → ⊥
    clash e = cc
unwritten_other (x ∷ xs) (suc i) k w free at = unwritten_other xs i k w (rest (same_key k x.key) free) at
  where
    rest : (b : Bool) → is_some (if b then Some x else write_among xs k) ≡ false → is_written xs k ≡ false
    rest true e = absurd (cc)
    rest false e = e

once_at : (ws : List Write) (i : ℕ) (w : Write) → HaveKeysOnce ws → slice_get ws i ≡ Some w → write_among ws w.key ≡ Some w
once_at [] i w once at = some_apart w at
once_at (x ∷ xs) zero w once at = ap (λ b. if b then Some x else write_among xs w.key) (ap (same_key w.key) (key_is x w at) ∙ same_key_self w.key) ∙ at
  where
    key_is : (x v : Write) → Some x ≡ Some v → x.key ≡ v.key
    key_is x v e = cc
once_at (x ∷ xs) (suc i) w once at = by (same_key_decides w.key x.key) (once_at xs i w once.1 at)
  where
    by : ((same_key w.key x.key ≡ true) × (w.key ≡ x.key)) ⊎ ((same_key w.key x.key ≡ false) × (w.key ≢ x.key)) → write_among xs w.key ≡ Some w → write_among (x ∷ xs) w.key ≡ Some w
    by (inl y) ih = absurd (unwritten_other xs i x.key w once.0 at y.1)
    by (inr n) ih = ap (λ b. if b then Some x else write_among xs w.key) n.0 ∙ ih

found_at : (ws : List Write) (k : Key) (w : Write) → write_among ws k ≡ Some w → (i : ℕ) × (slice_get ws i ≡ Some w)
found_at [] k w h = some_apart w h
found_at (x ∷ xs) k w h = by (same_key k x.key) h (λ e. found_at xs k w e)
  where
    by : (b : Bool) → (if b then Some x else write_among xs k) ≡ Some w → (write_among xs k ≡ Some w → (i : ℕ) × (slice_get xs i ≡ Some w)) → (i : ℕ) × (slice_get (x ∷ xs) i ≡ Some w)
    by true e ih = (zero, e)
    by false e ih = let f = ih e in (suc f.0, f.1)

---- the whole

reading : (own : List Write) (n : ReadItem) → IsReading (check_of own n).request
reading own (KeyRead r) = tt
reading own (SpanRead s) = tt

tells_at : (p : Work) (i : ℕ) (n : ReadItem) (r : Reply) → slice_get (items_of_work p) i ≡ Some n → IsCheckedNote p.writes n → CanAnswer (check_of p.writes n).request r → is_more (validate_step true (Some (check_of p.writes n)) r) ≡ true → CheckPasses p i (check_of p.writes n).request r
tells_at p i (KeyRead rd) r at ok can more = got_tells p i rd r at ok can more
tells_at p i (SpanRead s) r at ok can more = scan_tells p i s r at ok can more

own_written : (p : Work) (n : ReadItem) (k : Key) (version : Option ℕ) → IsOwnNote p.writes n → option_map number_of (version_read n k) ≡ Some version → (written (plan_of p) k ≢ None) × ((base : Option ℕ) → written (plan_of p) k ≡ Some base → version ≡ base)
own_written p (SpanRead s) k version own h = absurd own
own_written p (KeyRead r) k version own h =
    let says = got_says r k version h in (
      λ free. absurd (is_there (base_of p.writes r.key) refl (ap (base_of p.writes) says.0 ∙ free_base p k free)),
      λ base w. let b = written_base p k base w in sym says.1 ∙ ap number_of (own.0 b.0 (ap (base_of p.writes) says.0 ∙ b.1)) ∙ b.2,
    )
  where
    is_there : (o : Option (Option TxId)) → base_of p.writes r.key ≡ o → o ≡ None → ⊥
    is_there o e n = absurd (clash (sym own.1 ∙ none (base_of p.writes r.key) refl (e ∙ n)))
      where
        clash : true ≡ false → ⊥
        clash x = cc

        none : (o : Option (Option TxId)) → base_of p.writes r.key ≡ o → base_of p.writes r.key ≡ None → is_written p.writes r.key ≡ false
        none o at e = no_base p.writes r.key e

-- What a transaction takes into its COMMIT is what the law of the protocol wants of it.
pub work_ok : (p : Work) → Sound p → WorkOk p
unfolding write_at
work_ok p ok = record {
  fits = ok.fits;
  moment = ok.moment;
  valid = λ i w at. let f = place_of_grouped p.writes i w at in each_at (λ w. IsWrite w × (is_data w.key ≡ true)) p.writes f.0 w ok.valid f.1;
  at = λ i w at. let f = place_of_grouped p.writes i w at in once_at p.writes f.0 w ok.once f.1;
  once = groups_once p.writes (keys_differ p.writes ok.once);
  found = λ k w h. let f = found_at p.writes k w h in place_in_groups p.writes f.0 w f.1;
  reads = λ i c h. let n = note_of p i c h in subst (λ x. IsReading x.request) n.2 (reading p.writes n.0);
  is_known = λ i c r h can passed. let n = note_of p i c h in
      subst (λ x. CanAnswer x.request r → is_more (validate_step true (Some x) r) ≡ true → CheckPasses p i x.request r) n.2 (tells_at p i n.0 r (at_front (checked_items p) (own_items p) i n.0 n.1) (each_at (IsCheckedNote p.writes) (checked_items p) i n.0 (checked_notes_are p ok) n.1)) can (ap (λ o. is_more (validate_step true o r)) (sym h) ∙ passed);
  checked = λ j k version l h. other j k version l h (slice_get (items_of_work p) j) refl;
  agrees = λ j l k version base h w. others j k version base l h w (slice_get (items_of_work p) j) refl;
}
  where
    beyond : (j : ℕ) → length (checks p) ≤ j → length (checked_items p) ≤ j
    beyond j l = subst (λ n. n ≤ j) (ap length (checks_are p) ∙ lengths (check_of p.writes) (checked_items p)) l

    own : (j : ℕ) (n : ReadItem) → length (checks p) ≤ j → slice_get (items_of_work p) j ≡ Some n → IsOwnNote p.writes n
    own j n l at = let b = at_back (checked_items p) (own_items p) j n (beyond j l) at in each_at (IsOwnNote p.writes) (own_items p) b.0 n (own_notes_are p ok) b.1

    other : (j : ℕ) (k : Key) (version : Option ℕ) → length (checks p) ≤ j → version_read_at (plan_of p) j k ≡ Some version → (o : Option ReadItem) → slice_get (items_of_work p) j ≡ o → written (plan_of p) k ≢ None
    other j k version l h None at = not_noted p j k version at h
    other j k version l h (Some n) at = (own_written p n k version (own j n l at) (noted_by p j k version n at h)).0

    others : (j : ℕ) (k : Key) (version base : Option ℕ) → length (checks p) ≤ j → version_read_at (plan_of p) j k ≡ Some version → written (plan_of p) k ≡ Some base → (o : Option ReadItem) → slice_get (items_of_work p) j ≡ o → version ≡ base
    others j k version base l h w None at = not_noted p j k version at h
    others j k version base l h w (Some n) at = (own_written p n k version (own j n l at) (noted_by p j k version n at h)).1 base w
