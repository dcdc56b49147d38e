-- The notes of a plan are the reads and the scans of what its COMMIT took.
use Rattle.std.proofs.Common.{ℤ, ◌≡◌, ℕ, Bool, true, false, List, [], ◌∷◌, ◌++◌, map, refl, sym, subst, ◌⊎◌, inl, inr}
use Rattle.std.specs.Prelude.{Contains, ◌↔◌, filter, not, if◌then◌else◌}
use Rattle.std.proofs.lemmas.List.Elements.{Contains-append_left, Contains-append_right, Contains-append_cases, Contains-push, Contains-push_cases}
use Rattle.law_clients.specs.Types.{Access, Event, Read, Record, Scan, TxId}
use Rattle.sdb_record.specs.declared.access.Access.TheVariants as access
use Rattle.sdb_record.specs.Moved.{version_of}
use Rattle.sdb_snapshot.specs.Reads.{reads_of}
use Rattle.sdb_snapshot.specs.Seen.{Seen}
use Rattle.law_clients.specs.Reads.{first_image, with_read, work_of}
use Rattle.law_clients.specs.Calls.{read_item_with}
use Rattle.sdb_record.specs.Among.{is_written}
use Rattle.sdb_model.specs.ReadSet.{ReadItem, KeyRead, SpanRead}
use Rattle.law_protocol.specs.Plan.{Plan}
use Rattle.law_protocol.specs.Lawful.{Labelled, protocol_state}
use Rattle.law_protocol.specs.Faithful.{AreReadSets}
use Rattle.sdb_phases.specs.Work.{Work}
use Rattle.law_clients.specs.Owner.{items_of_work, checked_items, own_items}
use Rattle.std.specs.List.{AllByRecursion}
use Rattle.std.proofs.lemmas.List.Elements.{All-contains, All-from_recursion}
use Rattle.law_clients.specs.Left.{AreReads, reads_and_scans}
use Rattle.sdb_types.proofs.Public.{all_each as each_any, map_last}

---- elements

head : {A : Type 0} (x : A) (xs : List A) → Contains (x ∷ xs) x
head x xs = Contains-append_left (x ∷ []) xs x (0, one, refl)
  where
    one : Rattle.std.proofs.Common.◌<◌ 0 (Rattle.std.proofs.Common.length (x ∷ []))
    one = omega Rattle.std.proofs.Common.arith

tail : {A : Type 0} (x : A) (xs : List A) (y : A) → Contains xs y → Contains (x ∷ xs) y
tail x xs y h = Contains-append_right (x ∷ []) xs y h

each_in : {A : Type 0} (P : A → Type 0) (xs : List A) (x : A) → AllByRecursion P xs → Contains xs x → P x
each_in P xs x all h = All-contains P xs x (All-from_recursion P xs all) h

-- what a filter keeps was there
kept_in : {A B : Type 0} (f : A → B) (t : A → Bool) (xs : List A) → AllByRecursion (Contains (map f xs)) (map f (filter t xs))
kept_in f t [] = tt
kept_in f t (x ∷ xs) = by (t x) (each_any (Contains (map f xs)) (Contains (f x ∷ map f xs)) (map f (filter t xs)) (λ y h. tail (f x) (map f xs) y h) (kept_in f t xs))
  where
    by : (b : Bool) → AllByRecursion (Contains (f x ∷ map f xs)) (map f (filter t xs)) → AllByRecursion (Contains (f x ∷ map f xs)) (map f (if b then x ∷ filter t xs else filter t xs))
    by true ih = (head (f x) (map f xs), ih)
    by false ih = ih

-- and each element is kept by a test or by its opposite
either_in : {A B : Type 0} (f : A → B) (t : A → Bool) (xs : List A) → AllByRecursion (λ y. Contains (map f (filter t xs)) y ⊎ Contains (map f (filter (λ x. not (t x)) xs)) y) (map f xs)
either_in f t [] = tt
either_in {A = A} {B = B} f t (x ∷ xs) = by (t x) (either_in f t xs)
  where
    more : (ys zs : List A) (b : Bool) (y : B) → Contains (map f ys) y ⊎ Contains (map f zs) y → Contains (map f (if b then x ∷ ys else ys)) y ⊎ Contains (map f (if not b then x ∷ zs else zs)) y
    more ys zs true y (inl h) = inl (tail (f x) (map f ys) y h)
    more ys zs true y (inr h) = inr h
    more ys zs false y (inl h) = inl h
    more ys zs false y (inr h) = inr (tail (f x) (map f zs) y h)

    first : (ys zs : List A) (b : Bool) → Contains (map f (if b then x ∷ ys else ys)) (f x) ⊎ Contains (map f (if not b then x ∷ zs else zs)) (f x)
    first ys zs true = inl (head (f x) (map f ys))
    first ys zs false = inr (head (f x) (map f zs))

    by : (b : Bool) → AllByRecursion (λ y. Contains (map f (filter t xs)) y ⊎ Contains (map f (filter (λ x. not (t x)) xs)) y) (map f xs) → AllByRecursion (λ y. Contains (map f (if b then x ∷ filter t xs else filter t xs)) y ⊎ Contains (map f (if not b then x ∷ filter (λ x. not (t x)) xs else filter (λ x. not (t x)) xs)) y) (f x ∷ map f xs)
    by b ih = (first (filter t xs) (filter (λ x. not (t x)) xs) b, each_any (λ y. Contains (map f (filter t xs)) y ⊎ Contains (map f (filter (λ x. not (t x)) xs)) y) (λ y. Contains (map f (if b then x ∷ filter t xs else filter t xs)) y ⊎ Contains (map f (if not b then x ∷ filter (λ x. not (t x)) xs else filter (λ x. not (t x)) xs)) y) (map f xs) (λ y h. more (filter t xs) (filter (λ x. not (t x)) xs) b y h) ih)

---- read items

pub notes_reads : (p : Work) (n : ReadItem) → Contains (items_of_work p) n → Contains (reads_and_scans p) n
notes_reads p n h = by (Contains-append_cases (checked_items p) (own_items p) n h)
  where
    got : (t : Read → Bool) → Contains (map KeyRead (filter t p.reads)) n → Contains (reads_and_scans p) n
    got t h = Contains-append_left (map KeyRead p.reads) (map SpanRead p.scans) n (each_in (Contains (map KeyRead p.reads)) (map KeyRead (filter t p.reads)) n (kept_in KeyRead t p.reads) h)

    checked : Contains (map KeyRead (filter (λ r. not (is_written p.writes r.key)) p.reads)) n ⊎ Contains (map SpanRead p.scans) n → Contains (reads_and_scans p) n
    checked (inl h) = got (λ r. not (is_written p.writes r.key)) h
    checked (inr h) = Contains-append_right (map KeyRead p.reads) (map SpanRead p.scans) n h

    by : Contains (checked_items p) n ⊎ Contains (own_items p) n → Contains (reads_and_scans p) n
    by (inl h) = checked (Contains-append_cases (map KeyRead (filter (λ r. not (is_written p.writes r.key)) p.reads)) (map SpanRead p.scans) n h)
    by (inr h) = got (λ r. is_written p.writes r.key) h

pub reads_notes : (p : Work) (n : ReadItem) → Contains (reads_and_scans p) n → Contains (items_of_work p) n
reads_notes p n h = by (Contains-append_cases (map KeyRead p.reads) (map SpanRead p.scans) n h)
  where
    checked : Contains (checked_items p) n → Contains (items_of_work p) n
    checked h = Contains-append_left (checked_items p) (own_items p) n h

    got : Contains (map KeyRead (filter (λ r. is_written p.writes r.key) p.reads)) n ⊎ Contains (map KeyRead (filter (λ r. not (is_written p.writes r.key)) p.reads)) n → Contains (items_of_work p) n
    got (inl h) = Contains-append_right (checked_items p) (own_items p) n h
    got (inr h) = checked (Contains-append_left (map KeyRead (filter (λ r. not (is_written p.writes r.key)) p.reads)) (map SpanRead p.scans) n h)

    by : Contains (map KeyRead p.reads) n ⊎ Contains (map SpanRead p.scans) n → Contains (items_of_work p) n
    by (inl h) = got (each_in (λ y. Contains (map KeyRead (filter (λ r. is_written p.writes r.key) p.reads)) y ⊎ Contains (map KeyRead (filter (λ r. not (is_written p.writes r.key)) p.reads)) y) (map KeyRead p.reads) n (either_in KeyRead (λ r. is_written p.writes r.key) p.reads) h)
    by (inr h) = checked (Contains-append_right (map KeyRead (filter (λ r. not (is_written p.writes r.key)) p.reads)) (map SpanRead p.scans) n h)

-- Where what each COMMIT took is what the statements noted, so are the notes of the plans.
pub are_noted : (plan : ℕ → Plan) (events : List Event) (past : List Labelled) (works : ℕ → Work) → ((t : ℕ) → (protocol_state past).accepted t ≡ true → AreReads plan events (works t) t) → AreReadSets plan events past
are_noted plan events past works all t accepted n = let x = all t accepted in (
  λ h. (x.as_read n).0 (notes_reads (works t) n (subst (λ (p : Plan). Contains p.read_set n) x.planned h)),
  λ h. subst (λ (p : Plan). Contains p.read_set n) (sym x.planned) (reads_notes (works t) n ((x.as_read n).1 h)),
)

---- one read more

pub last_cases : (xs : List ReadItem) (x n : ReadItem) → Contains (xs ++ x ∷ []) n → Contains xs n ⊎ (n ≡ x)
last_cases xs x n h = by (Contains-push_cases xs x n h)
  where
    by : Contains xs n ⊎ (x ≡ n) → Contains xs n ⊎ (n ≡ x)
    by (inl h) = inl h
    by (inr e) = inr (sym e)

-- A read that is noted adds its note.
pub read_adds : (id : TxId) (now : ℤ) (s : Seen) (a : Access) (images : List Record) (n : ReadItem) → Contains (reads_and_scans (work_of id now (with_read s a images))) n ↔ (Contains (reads_and_scans (work_of id now s)) n ⊎ (n ≡ read_item_with a images))
read_adds t now s (access.Get key) images n = (λ h. out (Contains-append_cases (map KeyRead (s.reads ++ r ∷ [])) (map SpanRead s.scans) n h), into)
  where
    r : Read
    r = record { key = key; version = version_of (first_image images) }

    old : Contains (map KeyRead s.reads) n ⊎ (n ≡ KeyRead r) → Contains (map KeyRead s.reads ++ map SpanRead s.scans) n ⊎ (n ≡ KeyRead r)
    old (inl h) = inl (Contains-append_left (map KeyRead s.reads) (map SpanRead s.scans) n h)
    old (inr e) = inr e

    out : Contains (map KeyRead (s.reads ++ r ∷ [])) n ⊎ Contains (map SpanRead s.scans) n → Contains (map KeyRead s.reads ++ map SpanRead s.scans) n ⊎ (n ≡ KeyRead r)
    out (inl h) = old (last_cases (map KeyRead s.reads) (KeyRead r) n (subst (λ xs. Contains xs n) (map_last KeyRead s.reads r) h))
    out (inr h) = inl (Contains-append_right (map KeyRead s.reads) (map SpanRead s.scans) n h)

    again : Contains (map KeyRead s.reads ++ KeyRead r ∷ []) n → Contains (map KeyRead (s.reads ++ r ∷ []) ++ map SpanRead s.scans) n
    again h = Contains-append_left (map KeyRead (s.reads ++ r ∷ [])) (map SpanRead s.scans) n (subst (λ xs. Contains xs n) (sym (map_last KeyRead s.reads r)) h)

    keep : Contains (map KeyRead s.reads) n ⊎ Contains (map SpanRead s.scans) n → Contains (map KeyRead (s.reads ++ r ∷ []) ++ map SpanRead s.scans) n
    keep (inl h) = again (Contains-append_left (map KeyRead s.reads) (KeyRead r ∷ []) n h)
    keep (inr h) = Contains-append_right (map KeyRead (s.reads ++ r ∷ [])) (map SpanRead s.scans) n h

    into : Contains (map KeyRead s.reads ++ map SpanRead s.scans) n ⊎ (n ≡ KeyRead r) → Contains (map KeyRead (s.reads ++ r ∷ []) ++ map SpanRead s.scans) n
    into (inl h) = keep (Contains-append_cases (map KeyRead s.reads) (map SpanRead s.scans) n h)
    into (inr e) = subst (λ y. Contains (map KeyRead (s.reads ++ r ∷ []) ++ map SpanRead s.scans) y) (sym e) (Contains-append_left (map KeyRead (s.reads ++ r ∷ [])) (map SpanRead s.scans) (KeyRead r) (subst (λ xs. Contains xs (KeyRead r)) (sym (map_last KeyRead s.reads r)) (Contains-push (map KeyRead s.reads) (KeyRead r))))
read_adds t now s (access.Scan span) images n = (λ h. out (Contains-append_cases (map KeyRead s.reads) (map SpanRead (s.scans ++ x ∷ [])) n h), into)
  where
    x : Scan
    x = record { span = span; found = reads_of images }

    old : Contains (map SpanRead s.scans) n ⊎ (n ≡ SpanRead x) → Contains (map KeyRead s.reads ++ map SpanRead s.scans) n ⊎ (n ≡ SpanRead x)
    old (inl h) = inl (Contains-append_right (map KeyRead s.reads) (map SpanRead s.scans) n h)
    old (inr e) = inr e

    out : Contains (map KeyRead s.reads) n ⊎ Contains (map SpanRead (s.scans ++ x ∷ [])) n → Contains (map KeyRead s.reads ++ map SpanRead s.scans) n ⊎ (n ≡ SpanRead x)
    out (inl h) = inl (Contains-append_left (map KeyRead s.reads) (map SpanRead s.scans) n h)
    out (inr h) = old (last_cases (map SpanRead s.scans) (SpanRead x) n (subst (λ xs. Contains xs n) (map_last SpanRead s.scans x) h))

    again : (y : ReadItem) → Contains (map SpanRead s.scans ++ SpanRead x ∷ []) y → Contains (map KeyRead s.reads ++ map SpanRead (s.scans ++ x ∷ [])) y
    again y h = Contains-append_right (map KeyRead s.reads) (map SpanRead (s.scans ++ x ∷ [])) y (subst (λ xs. Contains xs y) (sym (map_last SpanRead s.scans x)) h)

    keep : Contains (map KeyRead s.reads) n ⊎ Contains (map SpanRead s.scans) n → Contains (map KeyRead s.reads ++ map SpanRead (s.scans ++ x ∷ [])) n
    keep (inl h) = Contains-append_left (map KeyRead s.reads) (map SpanRead (s.scans ++ x ∷ [])) n h
    keep (inr h) = again n (Contains-append_left (map SpanRead s.scans) (SpanRead x ∷ []) n h)

    into : Contains (map KeyRead s.reads ++ map SpanRead s.scans) n ⊎ (n ≡ SpanRead x) → Contains (map KeyRead s.reads ++ map SpanRead (s.scans ++ x ∷ [])) n
    into (inl h) = keep (Contains-append_cases (map KeyRead s.reads) (map SpanRead s.scans) n h)
    into (inr e) = subst (λ y. Contains (map KeyRead s.reads ++ map SpanRead (s.scans ++ x ∷ [])) y) (sym e) (again (SpanRead x) (Contains-push (map SpanRead s.scans) (SpanRead x)))
