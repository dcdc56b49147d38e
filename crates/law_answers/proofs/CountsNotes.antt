-- What a transaction has noted, and which COMMIT ends it, as statements come.
use Rattle.std.proofs.Common.{◌≡◌, ◌+◌, ◌==◌, ◌⊎◌, inl, inr, ℕ, zero, suc, Bool, true, false, List, [], ◌∷◌, ◌++◌, length, map, refl, sym, ap, subst, ◌∙◌, arith}
use Rattle.std.specs.Prelude.{if◌then◌else◌, ◌&&◌, filter, fold, is_some}
use Rattle.std.specs.List.{AllByRecursion, cons_option, count_by, flat_map}
use Rattle.std.proofs.lemmas.Bool.{eqb-true}
use Rattle.std.proofs.lemmas.List.{append-nil, length-append}
use Rattle.std.proofs.lemmas.List.Elements.{filter-append}
use Rattle.std.proofs.lemmas.List.Sums.{length-filter}
use Rattle.law_answers.specs.Types.{Access, Doing, Event, Key, Read, Record, Reply, Scan, Table}
use Rattle.sdb_types.specs.declared.record.Reply.TheVariants as reply
use Rattle.sdb_types.specs.declared.record.Request.TheVariants as ask
use Rattle.sdb_types.specs.Contents.{CanAnswer}
use Rattle.sdb_types.proofs.Public.{clash}
use Rattle.sdb_record.specs.declared.access.Access.TheVariants as access
use Rattle.sdb_model.specs.Calls.{StoreCall, calls_of}
use Rattle.sdb_model.specs.Follows.{is_open_after}
use Rattle.sdb_model.specs.Counted.{is_scan}
use Rattle.sdb_model.specs.ReadSet.{KeyRead, ReadItem, SpanRead, read_item_of, read_items, has_read}
use Rattle.sdb_model.specs.Sql.{reads_commit}
use Rattle.sdb_model.specs.Transactions.{Executed, begins, ends, from_begin, id_of, rest_of}
use Rattle.sdb_txn.specs.Read.{request_of}
use Rattle.sdb_snapshot.specs.Seen.{Seen}
use Rattle.law_clients.proofs.Public.{access_table}
use Rattle.sdb_txn.specs.declared.txn.Doing.TheVariants as doing
use Rattle.sdb_txn.specs.Txn.{TxnAt}
use Rattle.sdb_client.specs.Client.{with_rows_read}
use Rattle.law_answers.specs.Counts.{ArePaired, CommitIsCounted, CommitsAreCounted, ReadByDoing, ReadItemsAre, keys_got, read_items_since}
use Rattle.law_answers.specs.Changes.{HasRead, IsRows, read_items_of_body}
use Rattle.law_answers.specs.Invariant.{IsAnswered, begun_in, open_after}
use Rattle.law_answers.proofs.Calls.{calls_stay}
use Rattle.law_answers.proofs.Lists.{since_more, since_none, map_more}
use Rattle.law_answers.proofs.ReadSets.{each_left, each_middle, notes_more, notes_stay, since_all}
use Rattle.law_answers.proofs.ReadSteps.{IsDataTable}
use Rattle.law_answers.proofs.Settling.{read_notes}

---- notes of one read more

keys_more : (ns ms : List ReadItem) → keys_got (ns ++ ms) ≡ keys_got ns ++ keys_got ms
keys_more [] ms = refl
keys_more (KeyRead r ∷ ns) ms = ap (λ ks. r.key ∷ ks) (keys_more ns ms)
keys_more (SpanRead x ∷ ns) ms = keys_more ns ms

scans_more : (ns ms : List ReadItem) → count_by is_scan (ns ++ ms) ≡ count_by is_scan ns + count_by is_scan ms
scans_more ns ms = sym (length-filter is_scan (ns ++ ms)) ∙ ap length (filter-append is_scan ns ms) ∙ length-append (filter is_scan ns) (filter is_scan ms) ∙ ap (λ n. n + length (filter is_scan ms)) (length-filter is_scan ns) ∙ ap (λ n. count_by is_scan ns + n) (length-filter is_scan ms)

with_got : (read_set : List ReadItem) (r : Read) (s : Seen) (x : Read) → x.key ≡ r.key → ReadItemsAre read_set s.reads s.scans → ReadItemsAre (read_set ++ KeyRead r ∷ []) (s.reads ++ x ∷ []) s.scans
with_got read_set r s x same h = record {
  reads = keys_more read_set (KeyRead r ∷ []) ∙ ap (λ ks. ks ++ r.key ∷ []) h.reads ∙ ap (λ (k : Key). map (λ (y : Read). y.key) s.reads ++ k ∷ []) (sym same) ∙ sym (map_more (λ (y : Read). y.key) s.reads (x ∷ []));
  scans = scans_more read_set (KeyRead r ∷ []) ∙ plus (count_by is_scan read_set) (length s.scans) h.scans;
}
  where
    plus : (a b : ℕ) → a ≡ b → a + 0 ≡ b
    plus a b e = omega (arith, e)

with_scanned : (read_set : List ReadItem) (z : Scan) (s : Seen) (x : Scan) → ReadItemsAre read_set s.reads s.scans → ReadItemsAre (read_set ++ SpanRead z ∷ []) s.reads (s.scans ++ x ∷ [])
with_scanned read_set z s x h = record {
  reads = keys_more read_set (SpanRead z ∷ []) ∙ append-nil (keys_got read_set) ∙ h.reads;
  scans = scans_more read_set (SpanRead z ∷ []) ∙ ap (λ n. n + 1) h.scans ∙ sym (length-append s.scans (x ∷ []));
}

-- a read that is done
pub noted_read : (a : Access) (calls : List StoreCall) (images : List Record) (read_set : List ReadItem) (t : TxnAt) → HasRead (request_of a) calls images [] → IsDataTable (access_table a) → ReadItemsAre read_set t.seen.reads t.seen.scans → ReadItemsAre (read_set ++ read_items calls) (with_rows_read t a images).seen.reads (with_rows_read t a images).seen.scans
noted_read (access.Get key) calls images read_set t h own k = subst (λ ns. ReadItemsAre (read_set ++ ns) (with_rows_read t (access.Get key) images).seen.reads t.seen.scans) (sym (read_notes (access.Get key) calls images [] h own)) (by h.first.reply h.can h.answered)
  where
    by : (r : Reply) → CanAnswer (ask.Get key) r → IsRows r → ReadItemsAre (read_set ++ cons_option (read_item_of calls (ask.Get key) r) []) (with_rows_read t (access.Get key) images).seen.reads t.seen.scans
    by (reply.Found found) can answered = with_got read_set _ t.seen _ refl k
    by (reply.Rows rows) can answered = absurd can
    by (reply.NotAll place there) can answered = absurd can
    by reply.Applied can answered = absurd answered
    by (reply.NotMet found) can answered = absurd answered
    by reply.Fault can answered = absurd answered
    by reply.NoMemory can answered = absurd answered
noted_read (access.Scan span) calls images read_set t h own k = subst (λ ns. ReadItemsAre (read_set ++ ns) t.seen.reads (with_rows_read t (access.Scan span) images).seen.scans) (sym (read_notes (access.Scan span) calls images [] h own)) (by h.first.reply h.can h.answered)
  where
    by : (r : Reply) → CanAnswer (ask.Scan span) r → IsRows r → ReadItemsAre (read_set ++ cons_option (read_item_of calls (ask.Scan span) r) []) t.seen.reads (with_rows_read t (access.Scan span) images).seen.scans
    by (reply.Rows rows) can answered = with_scanned read_set _ t.seen _ k
    by (reply.NotAll place there) can answered = absurd can
    by (reply.Found found) can answered = absurd can
    by reply.Applied can answered = absurd answered
    by (reply.NotMet found) can answered = absurd answered
    by reply.Fault can answered = absurd answered
    by reply.NoMemory can answered = absurd answered

-- a transaction that does nothing
pub idle_noted : (read_set : List ReadItem) (s : Seen) (d : Doing) → d ≡ doing.Idle → ReadByDoing read_set s d → ReadItemsAre read_set s.reads s.scans
idle_noted read_set s d e h = subst (ReadByDoing read_set s) e h

pub noted_idle : (read_set : List ReadItem) (s : Seen) (d : Doing) → d ≡ doing.Idle → ReadItemsAre read_set s.reads s.scans → ReadByDoing read_set s d
noted_idle read_set s d e h = subst (ReadByDoing read_set s) (sym e) h

---- one statement more

-- it is after those since a BEGIN, or none began
since_split : (n : ℕ) (answered : List Executed) (s : Executed) → (rest_of (from_begin n (answered ++ s ∷ [])) ≡ rest_of (from_begin n answered) ++ s ∷ []) ⊎ ((rest_of (from_begin n (answered ++ s ∷ [])) ≡ []) × (rest_of (from_begin n answered) ≡ []))
since_split n answered s = by (from_begin n answered) refl
  where
    by : (r : List Executed) → from_begin n answered ≡ r → (rest_of (from_begin n (answered ++ s ∷ [])) ≡ rest_of (from_begin n answered) ++ s ∷ []) ⊎ ((rest_of (from_begin n (answered ++ s ∷ [])) ≡ []) × (rest_of (from_begin n answered) ≡ []))
    by [] e = inr (since_none n answered s e, ap rest_of e)
    by (b ∷ body) e = inl (ap rest_of (since_more n answered s b body e) ∙ ap (λ r. r ++ s ∷ []) (sym (ap rest_of e)))

-- one that notes nothing
pub since_same : (events : List Event) (c n : ℕ) (answered : List Executed) (s : Executed) → read_items_of_body events c (s ∷ []) ≡ [] → read_items_since events c n (answered ++ s ∷ []) ≡ read_items_since events c n answered
since_same events c n answered s none = either (since_split n answered s)
  where
    either : (rest_of (from_begin n (answered ++ s ∷ [])) ≡ rest_of (from_begin n answered) ++ s ∷ []) ⊎ ((rest_of (from_begin n (answered ++ s ∷ [])) ≡ []) × (rest_of (from_begin n answered) ≡ [])) → read_items_since events c n (answered ++ s ∷ []) ≡ read_items_since events c n answered
    either (inl e) = ap (read_items_of_body events c) e ∙ notes_more events c (rest_of (from_begin n answered)) s ∙ ap (λ ns. read_items_since events c n answered ++ ns) none ∙ append-nil (read_items_since events c n answered)
    either (inr e) = ap (read_items_of_body events c) e.0 ∙ sym (ap (read_items_of_body events c) e.1)

-- one of an open transaction
pub since_open : (events : List Event) (c n : ℕ) (answered : List Executed) (s b : Executed) (body : List Executed) → from_begin n answered ≡ b ∷ body → read_items_since events c n (answered ++ s ∷ []) ≡ read_items_since events c n answered ++ read_items_of_body events c (s ∷ [])
since_open events c n answered s b body e = ap (λ r. read_items_of_body events c (rest_of r)) (since_more n answered s b body e) ∙ notes_more events c body s ∙ ap (λ ns. ns ++ read_items_of_body events c (s ∷ [])) (sym (ap (λ r. read_items_of_body events c (rest_of r)) e))

-- one whose read has not finished
pub none_noted : (events : List Event) (c : ℕ) (s : Executed) → has_read events c s ≡ false → read_items_of_body events c (s ∷ []) ≡ []
none_noted events c s f = ap (λ b. flat_map (λ (x : Executed). read_items (calls_of events c x)) (if b then s ∷ [] else [])) f

-- one that makes no call
pub none_called : (events : List Event) (c : ℕ) (s : Executed) → calls_of events c s ≡ [] → read_items_of_body events c (s ∷ []) ≡ []
none_called events c s none = by (has_read events c s)
  where
    by : (t : Bool) → flat_map (λ x. read_items (calls_of events c x)) (if t then s ∷ [] else []) ≡ []
    by true = append-nil (read_items (calls_of events c s)) ∙ ap read_items none
    by false = refl

---- as events come

-- what was noted stays
pub since_stay : (catalog : List Table) (events : List Event) (e : Event) (c n : ℕ) (answered : List Executed) → AllByRecursion (IsAnswered catalog events c) answered → read_items_since (events ++ e ∷ []) c n answered ≡ read_items_since events c n answered
since_stay catalog events e c n answered all = by (from_begin n answered) refl
  where
    by : (r : List Executed) → from_begin n answered ≡ r → read_items_since (events ++ e ∷ []) c n answered ≡ read_items_since events c n answered
    by [] k = ap (λ ss. read_items_of_body (events ++ e ∷ []) c (rest_of ss)) k ∙ sym (ap (λ ss. read_items_of_body events c (rest_of ss)) k)
    by (b ∷ body) k =
        ap (λ ss. read_items_of_body (events ++ e ∷ []) c (rest_of ss)) k
        ∙ notes_stay catalog events e c body (since_all (IsAnswered catalog events c) n answered b body all k)
        ∙ sym (ap (λ ss. read_items_of_body events c (rest_of ss)) k)

pub commits_still : (catalog : List Table) (events : List Event) (e : Event) (c : ℕ) (answered : List Executed) → AllByRecursion (IsAnswered catalog events c) answered → CommitsAreCounted events c answered → CommitsAreCounted (events ++ e ∷ []) c answered
commits_still catalog events e c answered all k n begin body s tail since goes reads =
    let whole : AllByRecursion (IsAnswered catalog events c) (body ++ s ∷ tail) = since_all (IsAnswered catalog events c) n answered begin (body ++ s ∷ tail) all since in
    let here : IsAnswered catalog events c s = each_middle (IsAnswered catalog events c) body tail s whole in
    subst (λ ns. CommitIsCounted ns (id_of c n) s.answer (calls_of (events ++ e ∷ []) c s)) (sym (notes_stay catalog events e c body (each_left (IsAnswered catalog events c) body (s ∷ tail) whole)))
    (subst (λ ms. CommitIsCounted (read_items_of_body events c body) (id_of c n) s.answer ms) (sym (calls_stay c events e s here.given here.is here.answered)) (k n begin body s tail since goes reads))

---- the open transaction

-- no statement ends it, and none begins another
stays_open : (ss : List Executed) → ArePaired true ss → AllByRecursion (λ s. ends s ≡ false) ss → (begun_in ss ≡ 0) × (fold is_open_after true ss ≡ true)
stays_open [] pairs all = (refl, refl)
stays_open (s ∷ ss) pairs all =
    let goes : is_open_after true s ≡ true = still (begins s) (ends s) (is_some s.answer) all.0 in
    let rest = stays_open ss (subst (λ b. ArePaired b ss) goes pairs.1) all.1 in
    (ap (λ b. if b then suc (begun_in ss) else begun_in ss) (no_begin (begins s) pairs.0) ∙ rest.0, ap (λ b. fold is_open_after b ss) goes ∙ rest.1)
  where
    still : (b e a : Bool) → e ≡ false → (if b then true else if e && a then false else true) ≡ true
    still true e a f = refl
    still false true a f = clash f
    still false false a f = refl

    no_begin : (b : Bool) → (b ≡ true → true ≡ false) → b ≡ false
    no_begin true f = clash (f refl)
    no_begin false f = refl

-- what no statement has ended is the newest
pub open_only : (n : ℕ) (answered : List Executed) (was : Bool) (b : Executed) (rest : List Executed) → ArePaired was answered → from_begin n answered ≡ b ∷ rest → AllByRecursion (λ s. ends s ≡ false) rest → (n ≡ begun_in answered) × (fold is_open_after was answered ≡ true)
open_only zero answered was b rest pairs e all = absurd (cc)
open_only (suc k) [] was b rest pairs e all = absurd (cc)
open_only (suc k) (x ∷ xs) was b rest pairs e all = by (begins x) (k == 0) refl refl (λ h. open_only k xs (is_open_after was x) b rest pairs.1 h all) (λ h. open_only (suc k) xs (is_open_after was x) b rest pairs.1 h all) e
  where
    zero_is : (j : ℕ) → (j == 0) ≡ true → j ≡ 0
    zero_is j z = eqb-true j 0 z

    by : (t z : Bool) → begins x ≡ t → (k == 0) ≡ z → (from_begin k xs ≡ b ∷ rest → (k ≡ begun_in xs) × (fold is_open_after (is_open_after was x) xs ≡ true)) → (from_begin (suc k) xs ≡ b ∷ rest → (suc k ≡ begun_in xs) × (fold is_open_after (is_open_after was x) xs ≡ true))
        → (if t then (if z then x ∷ xs else from_begin k xs) else from_begin (suc k) xs) ≡ b ∷ rest → (suc k ≡ (if t then suc (begun_in xs) else begun_in xs)) × (fold is_open_after (is_open_after was x) xs ≡ true)
    by true true t z i j h =
        let same : xs ≡ rest = cc in
        let opened : is_open_after was x ≡ true = ap (λ y. if y then true else if ends x && is_some x.answer then false else was) t in
        let r = stays_open xs (subst (λ y. ArePaired y xs) opened pairs.1) (subst (AllByRecursion (λ s. ends s ≡ false)) (sym same) all) in
        (ap suc (zero_is k z ∙ sym r.0), ap (λ y. fold is_open_after y xs) opened ∙ r.1)
    by true false t z i j h = let r = i h in (ap suc r.0, r.1)
    by false z t u i j h = j h

pub paired_more : (answered : List Executed) (was : Bool) (s : Executed) → ArePaired was answered → (begins s ≡ true → fold is_open_after was answered ≡ false) → ArePaired was (answered ++ s ∷ [])
paired_more [] was s pairs h = (h, tt)
paired_more (x ∷ xs) was s pairs h = (pairs.0, paired_more xs (is_open_after was x) s pairs.1 h)

---- COMMITs

-- the last of some statements, or one before it
pub last_or : (xs : List Executed) (z : Executed) (body : List Executed) (s : Executed) (tail : List Executed) → xs ++ z ∷ [] ≡ body ++ s ∷ tail → ((xs ≡ body) × (z ≡ s)) ⊎ ((front : List Executed) × (xs ≡ body ++ s ∷ front))
last_or [] z [] s tail e = let same : z ≡ s = cc in inl (refl, same)
last_or (x ∷ xs) z [] s tail e = let same : x ≡ s = cc in inr (xs, ap (λ (y : Executed). y ∷ xs) same)
last_or [] z (y ∷ body) s tail e = absurd (none body (let rest : [] ≡ body ++ s ∷ tail = cc in rest))
  where
    none : (ys : List Executed) → ◌≡◌ {A = List Executed} [] (ys ++ s ∷ tail) → ⊥
    none [] h = absurd (cc)
    none (w ∷ ys) h = absurd (cc)
last_or (x ∷ xs) z (y ∷ body) s tail e =
    let same : x ≡ y = cc in
    let rest : xs ++ z ∷ [] ≡ body ++ s ∷ tail = cc in
    either same (last_or xs z body s tail rest)
  where
    either : x ≡ y → ((xs ≡ body) × (z ≡ s)) ⊎ ((front : List Executed) × (xs ≡ body ++ s ∷ front)) → ((x ∷ xs ≡ y ∷ body) × (z ≡ s)) ⊎ ((front : List Executed) × (x ∷ xs ≡ y ∷ (body ++ s ∷ front)))
    either h (inl k) = inl (ap (λ (w : Executed). w ∷ xs) h ∙ ap (λ r. y ∷ r) k.0, k.1)
    either h (inr k) = inr (k.0, ap (λ (w : Executed). w ∷ xs) h ∙ ap (λ r. y ∷ r) k.1)

-- with one statement more, which is the COMMIT of the open transaction or none
pub commits_more : (events : List Event) (c : ℕ) (answered : List Executed) (z : Executed) → ArePaired false answered → CommitsAreCounted events c answered → (reads_commit z.text ≡ true → open_after answered ≡ true → CommitIsCounted (read_items_since events c (begun_in answered) answered) (id_of c (begun_in answered)) z.answer (calls_of events c z)) → CommitsAreCounted events c (answered ++ z ∷ [])
commits_more events c answered z pairs k last n begin body s tail since goes reads = by (from_begin n answered) refl
  where
    none : (ys : List Executed) → ys ++ s ∷ tail ≡ [] → ⊥
    none [] h = absurd (cc)
    none (w ∷ ys) h = absurd (cc)

    here : (b : Executed) (r : List Executed) → from_begin n answered ≡ b ∷ r → b ≡ begin → ((r ≡ body) × (z ≡ s)) ⊎ ((front : List Executed) × (r ≡ body ++ s ∷ front)) → CommitIsCounted (read_items_of_body events c body) (id_of c n) s.answer (calls_of events c s)
    here b r e f (inr h) = k n b body s h.0 (e ∙ ap (λ x. b ∷ x) h.1) goes reads
    here b r e f (inl h) =
        let from : from_begin n answered ≡ b ∷ body = e ∙ ap (λ x. b ∷ x) h.0 in
        let only = open_only n answered false b body pairs from goes in
        let fits = last (ap (λ (y : Executed). reads_commit y.text) h.1 ∙ reads) only.1 in
        let read_set : read_items_since events c (begun_in answered) answered ≡ read_items_of_body events c body = ap (λ i. read_items_since events c i answered) (sym only.0) ∙ ap (λ x. read_items_of_body events c (rest_of x)) from in
        subst (λ (y : Executed). CommitIsCounted (read_items_of_body events c body) (id_of c n) y.answer (calls_of events c y)) h.1
        (subst (λ i. CommitIsCounted (read_items_of_body events c body) (id_of c i) z.answer (calls_of events c z)) (sym only.0)
        (subst (λ ns. CommitIsCounted ns (id_of c (begun_in answered)) z.answer (calls_of events c z)) read_set fits))

    by : (r : List Executed) → from_begin n answered ≡ r → CommitIsCounted (read_items_of_body events c body) (id_of c n) s.answer (calls_of events c s)
    by [] e = absurd (none body (sym (ap rest_of since) ∙ since_none n answered z e))
    by (b ∷ r) e =
        let whole : b ∷ (r ++ z ∷ []) ≡ begin ∷ (body ++ s ∷ tail) = sym (since_more n answered z b r e) ∙ since in
        let first : b ≡ begin = cc in
        let rest : r ++ z ∷ [] ≡ body ++ s ∷ tail = cc in
        here b r e first (last_or r z body s tail rest)
