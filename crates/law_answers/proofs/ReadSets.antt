-- What the statements of an open transaction have noted, as statements come.
use Rattle.std.proofs.Common.{◌≡◌, ◌<◌, ◌^◌, ℕ, zero, suc, Bool, true, false, not, cond, List, [], ◌∷◌, ◌++◌, Option, Some, refl, sym, ap, subst, ◌∙◌}
use Rattle.std.specs.Prelude.{if◌then◌else◌, ◌==◌, filter, take_while, Contains}
use Rattle.std.specs.List.{AllByRecursion, flat_map, list_all}
use Rattle.std.proofs.lemmas.List.{append-nil, append_assoc}
use Rattle.std.proofs.lemmas.List.Concat.{flat_map-append}
use Rattle.std.proofs.lemmas.List.Elements.{Contains-append_left, filter-append}
use Rattle.std.proofs.lemmas.List.Sums.{take_while-cons}
use Rattle.std.proofs.lemmas.Nat.{div-mul-add, mod-mul-add}
use Rattle.law_answers.specs.Types.{Answer, Event, Key, Read, Record, Scan, Table}
use Rattle.sdb_types.specs.Contents.{in_span}
use Rattle.sdb_model.specs.declared.answer.Answer.TheVariants as answer
use Rattle.sdb_model.specs.Calls.{calls_of}
use Rattle.sdb_model.specs.ReadSet.{KeyRead, ReadItem, SpanRead, read_set_of, read_items, has_read}
use Rattle.sdb_model.specs.Sql.{reads_commit}
use Rattle.sdb_model.specs.Transactions.{Executed, begins, client_of, ends, from_begin, id_of, is_conflict, ordinal_of, rest_of, statements_by, statements_inside}
use Rattle.sdb_snapshot.specs.Seen.{Seen}
use Rattle.sdb_txn.specs.Txn.{TxnAt}
use Rattle.law_clients.proofs.Public.{each_more}
use Rattle.sdb_types.proofs.Public.{all_each as each_any, clash}
use Rattle.law_answers.specs.Invariant.{IsAnswered, IsOpenAs}
use Rattle.law_answers.specs.Changes.{AreChanged, IsChangedIn, ChangesBy, SeenBy, read_items_of_body}
use Rattle.law_answers.proofs.Calls.{calls_stay, read_stays}
use Rattle.law_answers.proofs.Lists.{since_more}

---- numbers

pub client_is : (c n : ℕ) → n < 2 ^ 64 → client_of (id_of c n) ≡ c
client_is c n l = div-mul-add c (2 ^ 64) n l

pub ordinal_is : (c n : ℕ) → n < 2 ^ 64 → ordinal_of (id_of c n) ≡ n
ordinal_is c n l = mod-mul-add c (2 ^ 64) n l

---- the statements since a BEGIN

-- what is so of all statements is so of those since a BEGIN
pub since_all : (P : Executed → Type 0) (n : ℕ) (ss : List Executed) (b : Executed) (rest : List Executed) → AllByRecursion P ss → from_begin n ss ≡ b ∷ rest → AllByRecursion P rest
since_all P zero ss b rest all e = absurd (cc)
since_all P (suc k) [] b rest all e = absurd (cc)
since_all P (suc k) (x ∷ xs) b rest all e = by (begins x) (k == 0) (λ h. since_all P k xs b rest all.1 h) (λ h. since_all P (suc k) xs b rest all.1 h) e
  where
    by : (t z : Bool) → (from_begin k xs ≡ b ∷ rest → AllByRecursion P rest) → (from_begin (suc k) xs ≡ b ∷ rest → AllByRecursion P rest) → (if t then (if z then x ∷ xs else from_begin k xs) else from_begin (suc k) xs) ≡ b ∷ rest → AllByRecursion P rest
    by true true i j h = let same : xs ≡ rest = cc in subst (AllByRecursion P) same all.1
    by true false i j h = i h
    by false z i j h = j h

-- and of those after it
pub rest_all : (P : Executed → Type 0) (n : ℕ) (ss : List Executed) → AllByRecursion P ss → AllByRecursion P (rest_of (from_begin n ss))
rest_all P n ss all = by (from_begin n ss) refl
  where
    by : (r : List Executed) → from_begin n ss ≡ r → AllByRecursion P (rest_of (from_begin n ss))
    by [] e = subst (λ x. AllByRecursion P (rest_of x)) (sym e) tt
    by (b ∷ r) e = subst (λ x. AllByRecursion P (rest_of x)) (sym e) (since_all P n ss b r all e)

-- up to what ends the transaction
pub take_open : (ss more : List Executed) → AllByRecursion (λ s. ends s ≡ false) ss → take_while (λ s. not (ends s)) (ss ++ more) ≡ ss ++ take_while (λ s. not (ends s)) more
take_open [] more all = refl
take_open (x ∷ xs) more all =
    take_while-cons (λ s. not (ends s)) x (xs ++ more)
    ∙ ap (λ b. cond (not b) (x ∷ take_while (λ s. not (ends s)) (xs ++ more)) []) all.0
    ∙ ap (λ r. x ∷ r) (take_open xs more all.1)

pub take_ends : (s : Executed) (more : List Executed) → ends s ≡ true → take_while (λ x. not (ends x)) (s ∷ more) ≡ []
take_ends s more e = take_while-cons (λ x. not (ends x)) s more ∙ ap (λ b. cond (not b) (s ∷ take_while (λ x. not (ends x)) more) []) e

-- what a transaction noted, whose statements since its BEGIN these are
pub noted_since : (events : List Event) (c n : ℕ) (b : Executed) (rest : List Executed) → n < 2 ^ 64 → from_begin n (statements_by c events) ≡ b ∷ rest → read_set_of events (id_of c n) ≡ read_items_of_body events c (take_while (λ s. not (ends s)) rest)
noted_since events c n b rest small since =
    ap (λ d. flat_map (λ s. read_items (calls_of events d s)) (filter (has_read events d) (statements_inside events (id_of c n)))) (client_is c n small)
    ∙ ap (λ ss. flat_map (λ s. read_items (calls_of events c s)) (filter (has_read events c) (take_while (λ s. not (ends s)) (rest_of ss))))
    (ap (λ d. from_begin (ordinal_of (id_of c n)) (statements_by d events)) (client_is c n small) ∙ ap (λ k. from_begin k (statements_by c events)) (ordinal_is c n small) ∙ since)

---- as events come

-- what was noted stays
pub notes_stay : (catalog : List Table) (events : List Event) (e : Event) (c : ℕ) (ss : List Executed) → AllByRecursion (IsAnswered catalog events c) ss → read_items_of_body (events ++ e ∷ []) c ss ≡ read_items_of_body events c ss
notes_stay catalog events e c [] all = refl
notes_stay catalog events e c (s ∷ ss) all =
    ap (λ b. flat_map (λ x. read_items (calls_of (events ++ e ∷ []) c x)) (if b then s ∷ filter (has_read (events ++ e ∷ []) c) ss else filter (has_read (events ++ e ∷ []) c) ss)) (read_stays c events e s all.0.given all.0.is all.0.answered)
    ∙ by (has_read events c s) (notes_stay catalog events e c ss all.1)
  where
    by : (b : Bool) → read_items_of_body (events ++ e ∷ []) c ss ≡ read_items_of_body events c ss
        → flat_map (λ x. read_items (calls_of (events ++ e ∷ []) c x)) (if b then s ∷ filter (has_read (events ++ e ∷ []) c) ss else filter (has_read (events ++ e ∷ []) c) ss) ≡ flat_map (λ x. read_items (calls_of events c x)) (if b then s ∷ filter (has_read events c) ss else filter (has_read events c) ss)
    by true ih = ap (λ ms. read_items ms ++ read_items_of_body (events ++ e ∷ []) c ss) (calls_stay c events e s all.0.given all.0.is all.0.answered) ∙ ap (λ ns. read_items (calls_of events c s) ++ ns) ih
    by false ih = ih

pub each_last : (P : Executed → Type 0) (ss : List Executed) (s : Executed) → AllByRecursion P (ss ++ s ∷ []) → P s
each_last P [] s all = all.0
each_last P (x ∷ ss) s all = each_last P ss s all.1

---- one statement more

-- what it noted is after what was noted
pub notes_more : (events : List Event) (c : ℕ) (ss : List Executed) (s : Executed) → read_items_of_body events c (ss ++ s ∷ []) ≡ read_items_of_body events c ss ++ read_items_of_body events c (s ∷ [])
notes_more events c ss s = ap (flat_map (λ x. read_items (calls_of events c x))) (filter-append (has_read events c) ss (s ∷ [])) ∙ flat_map-append (λ x. read_items (calls_of events c x)) (filter (has_read events c) ss) (filter (has_read events c) (s ∷ []))

-- of one whose read has finished that is what its calls noted
pub notes_one : (events : List Event) (c : ℕ) (s : Executed) → has_read events c s ≡ true → read_items_of_body events c (s ∷ []) ≡ read_items (calls_of events c s)
notes_one events c s e = ap (λ b. flat_map (λ x. read_items (calls_of events c x)) (if b then s ∷ [] else [])) e ∙ append-nil (read_items (calls_of events c s))

-- what was read and scanned is still noted
pub seen_more : (read_set more : List ReadItem) (s u : Seen) → u.reads ≡ s.reads → u.scans ≡ s.scans → SeenBy read_set s → SeenBy (read_set ++ more) u
seen_more read_set more s u r x h = record {
  reads = subst (AllByRecursion (λ (y : Read). Contains (read_set ++ more) (KeyRead y))) (sym r) (each_any (λ (y : Read). Contains read_set (KeyRead y)) (λ (y : Read). Contains (read_set ++ more) (KeyRead y)) s.reads (λ y k. Contains-append_left read_set more (KeyRead y) k) h.reads);
  scans = subst (AllByRecursion (λ (y : Scan). Contains (read_set ++ more) (SpanRead y) × (list_all (λ z. in_span y.span z.key) y.found ≡ true))) (sym x)
      (each_any (λ (y : Scan). Contains read_set (SpanRead y) × (list_all (λ z. in_span y.span z.key) y.found ≡ true)) (λ (y : Scan). Contains (read_set ++ more) (SpanRead y) × (list_all (λ z. in_span y.span z.key) y.found ≡ true)) s.scans (λ y k. (Contains-append_left read_set more (SpanRead y) k.0, k.1)) h.scans);
}

pub seen_same : (read_set : List ReadItem) (s u : Seen) → u.reads ≡ s.reads → u.scans ≡ s.scans → SeenBy read_set s → SeenBy read_set u
seen_same read_set s u r x h = record {
  reads = subst (AllByRecursion (λ (y : Read). Contains read_set (KeyRead y))) (sym r) h.reads;
  scans = subst (AllByRecursion (λ (y : Scan). Contains read_set (SpanRead y) × (list_all (λ z. in_span y.span z.key) y.found ≡ true))) (sym x) h.scans;
}

---- an open transaction

module _ (catalog : List Table) (events : List Event) (e : Event) (c n : ℕ) (answered : List Executed) (t : TxnAt) (o : IsOpenAs c n answered t) (all : AllByRecursion (IsAnswered catalog events c) answered) where
  pub body_answered : AllByRecursion (IsAnswered catalog events c) o.body
  body_answered = since_all (IsAnswered catalog events c) n answered o.begin o.body all o.since

  pub noted_still : (s : Seen) → SeenBy (read_items_of_body events c o.body) s → SeenBy (read_items_of_body (events ++ e ∷ []) c o.body) s
  noted_still s h = subst (λ ns. SeenBy ns s) (sym (notes_stay catalog events e c o.body body_answered)) h

  -- with one statement more, that read nothing
  pub noted_more : (x : Executed) (s u : Seen) → u.reads ≡ s.reads → u.scans ≡ s.scans → SeenBy (read_items_of_body events c o.body) s → SeenBy (read_items_of_body (events ++ e ∷ []) c (o.body ++ x ∷ [])) u
  noted_more x s u r y h =
      subst (λ ns. SeenBy ns u) (sym (notes_more (events ++ e ∷ []) c o.body x))
      (seen_more (read_items_of_body (events ++ e ∷ []) c o.body) (read_items_of_body (events ++ e ∷ []) c (x ∷ [])) s u r y (noted_still s h))

---- statements that were answered Conflict

pub each_left : (P : Executed → Type 0) (xs ys : List Executed) → AllByRecursion P (xs ++ ys) → AllByRecursion P xs
each_left P [] ys all = tt
each_left P (x ∷ xs) ys all = (all.0, each_left P xs ys all.1)

pub each_middle : (P : Executed → Type 0) (xs ys : List Executed) (y : Executed) → AllByRecursion P (xs ++ y ∷ ys) → P y
each_middle P [] ys y all = all.0
each_middle P (x ∷ xs) ys y all = each_middle P xs ys y all.1

moves_still : (catalog : List Table) (events : List Event) (e : Event) (c : ℕ) (answered later : List Executed) (s : Executed) (key : Key) (found : Option Record) (m : IsChangedIn events c answered s key found) (tail : List Executed) → AllByRecursion (IsAnswered catalog events c) answered → from_begin m.n later ≡ m.begin ∷ (m.body ++ s ∷ tail)
    → IsChangedIn (events ++ e ∷ []) c later s key found
moves_still catalog events e c answered later s key found m tail all since = record {
  n = m.n;
  begin = m.begin;
  body = m.body;
  tail = tail;
  since = since;
  goes_on = m.goes_on;
  over = m.over;
  small = m.small;
  why = subst (λ ns. ChangesBy (reads_commit s.text) (id_of c m.n) (calls_of (events ++ e ∷ []) c s) ns key found) (sym (notes_stay catalog events e c m.body (each_left (IsAnswered catalog events c) m.body (s ∷ m.tail) whole)))
      (subst (λ ms. ChangesBy (reads_commit s.text) (id_of c m.n) ms (read_items_of_body events c m.body) key found) (sym (calls_stay c events e s here.given here.is here.answered)) m.why);
}
  where
    whole : AllByRecursion (IsAnswered catalog events c) (m.body ++ s ∷ m.tail)
    whole = since_all (IsAnswered catalog events c) m.n answered m.begin (m.body ++ s ∷ m.tail) all m.since

    here : IsAnswered catalog events c s
    here = each_middle (IsAnswered catalog events c) m.body m.tail s whole

pub moved_still : (catalog : List Table) (events : List Event) (e : Event) (c : ℕ) (answered ss : List Executed) → AllByRecursion (IsAnswered catalog events c) answered → AreChanged events c answered ss → AreChanged (events ++ e ∷ []) c answered ss
moved_still catalog events e c answered [] all m = tt
moved_still catalog events e c answered (s ∷ ss) all m = ((λ key found is. let x = m.0 key found is in moves_still catalog events e c answered answered s key found x x.tail all x.since), moved_still catalog events e c answered ss all m.1)

pub moved_more : (catalog : List Table) (events : List Event) (e : Event) (c : ℕ) (answered ss : List Executed) (y : Executed) → AllByRecursion (IsAnswered catalog events c) answered → AreChanged events c answered ss → AreChanged (events ++ e ∷ []) c (answered ++ y ∷ []) ss
moved_more catalog events e c answered [] y all m = tt
moved_more catalog events e c answered (s ∷ ss) y all m = (
  (λ key found is. let x = m.0 key found is in moves_still catalog events e c answered (answered ++ y ∷ []) s key found x (x.tail ++ y ∷ []) all (since_more x.n answered y x.begin (x.body ++ s ∷ x.tail) x.since ∙ ap (λ r. x.begin ∷ r) (append_assoc x.body (s ∷ x.tail) (y ∷ [])))),
  moved_more catalog events e c answered ss y all m.1,
)

-- an answer that is no Conflict has not moved
pub unmoved : (events : List Event) (c : ℕ) (answered : List Executed) (s : Executed) (b : Answer) → s.answer ≡ Some b → is_conflict (Some b) ≡ false → (key : Key) (found : Option Record) → s.answer ≡ Some (answer.Conflict key found) → IsChangedIn events c answered s key found
unmoved events c answered s b is f key found e = clash (sym (ap is_conflict (sym is ∙ e)) ∙ f)

-- all of a client's, with one statement more
pub moved_all : (catalog : List Table) (events : List Event) (e : Event) (c : ℕ) (answered : List Executed) (y : Executed) → AllByRecursion (IsAnswered catalog events c) answered → AreChanged events c answered answered
    → ((key : Key) (found : Option Record) → y.answer ≡ Some (answer.Conflict key found) → IsChangedIn (events ++ e ∷ []) c (answered ++ y ∷ []) y key found)
    → AreChanged (events ++ e ∷ []) c (answered ++ y ∷ []) (answered ++ y ∷ [])
moved_all catalog events e c answered y all m last =
    each_more (λ s. (key : Key) (found : Option Record) → s.answer ≡ Some (answer.Conflict key found) → IsChangedIn (events ++ e ∷ []) c (answered ++ y ∷ []) s key found) answered y
    (moved_more catalog events e c answered answered y all m) last
