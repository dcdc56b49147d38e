-- A statement that passed the most keys that a transaction may write did so by what was counted and found before it, and this stays so.
use Rattle.std.proofs.Common.{◌≡◌, ◌≤◌, ◌<◌, ◌^◌, ◌+◌, ◌==◌, ◌⊎◌, inl, inr, ℕ, suc, Bool, true, false, not, List, [], ◌∷◌, ◌++◌, length, Option, Some, None, refl, sym, ap, subst, ◌∙◌, arith}
use Rattle.std.specs.Prelude.{if◌then◌else◌, ◌&&◌, filter, fold, nat_le, nat_lt, sum_by, take_while, Contains}
use Rattle.std.specs.List.{AllByRecursion, cons_option, enumerate_from}
use Rattle.std.specs.Option.{option_map_or}
use Rattle.std.proofs.lemmas.Bool.Decides.{nat_tests}
use Rattle.std.proofs.lemmas.List.{append-nil}
use Rattle.std.proofs.lemmas.List.Elements.{Contains-append_left, Contains-append_right, Contains-push, Contains-push_cases, filter-append}
use Rattle.std.proofs.lemmas.List.Sums.{sum_by-append, sum_by-le-sum_by, take_while-cons}
use Rattle.law_answers.specs.Types.{Answer, Event, Statement, TxId}
use Rattle.sdb_model.specs.declared.event.Event.TheVariants as event
use Rattle.sdb_model.specs.declared.statement.Statement.TheVariants as statement
use Rattle.sdb_model.specs.Calls.{StoreCall, calls_by, calls_of, made_by, records_read}
use Rattle.sdb_model.specs.Causes.{IsIn, MayPassMost, body_before, finished_before, may_pass, records_found, rows_counted, counted_by}
use Rattle.sdb_model.specs.ReadSet.{has_read, read_finished, reads_rows}
use Rattle.sdb_model.specs.Sql.{Reads}
use Rattle.sdb_model.specs.Transactions.{Executed, client_of, ends, from_begin, id_of, is_effective, ordinal_of, rest_of, statements_by, statements_after, statements_inside, through_end, with_answer}
use Rattle.sdb_types.proofs.Public.{all_each as each_any, none_some}
use Rattle.law_answers.specs.Filled.{rows_counted_by, records_found_by}
use Rattle.law_answers.proofs.Calls.{calls_open, end_answered, end_waiting, made_more, read_stays}
use Rattle.law_answers.proofs.Lists.{each_in, filter_same, since_more, since_none}
use Rattle.law_answers.proofs.ReadSets.{client_is, each_last, ordinal_is, rest_all, since_all, take_open}
use Rattle.law_clients.proofs.Public.{each_more}

---- statements are accepted one after the other

abbrev Rises : List Executed → Type 0
Rises [] = Unit {0}
Rises (s ∷ ss) = AllByRecursion (λ t. s.accepted < t.accepted) ss × Rises ss

abbrev AreBelow : ℕ → List Executed → Type 0
AreBelow n ss = AllByRecursion (λ s. s.accepted < n) ss

below_more : (n : ℕ) (ss : List Executed) → AreBelow n ss → AreBelow (n + 1) ss
below_more n [] all = tt
below_more n (s ∷ ss) all = (up s.accepted all.0, below_more n ss all.1)
  where
    up : (k : ℕ) → k < n → k < n + 1
    up k l = omega arith

-- one that is accepted now goes last
rises_taken : (ss : List Executed) (x : Executed) → Rises ss → AreBelow x.accepted ss → Rises (ss ++ x ∷ [])
rises_taken [] x r all = (tt, tt)
rises_taken (s ∷ ss) x r all = (each_more (λ (t : Executed). s.accepted < t.accepted) ss x r.0 all.0, rises_taken ss x r.1 all.1)

-- an answer leaves what was accepted when
answer_all : (P : ℕ → Type 0) (ss : List Executed) (n : ℕ) (a : Answer) → AllByRecursion (λ s. P s.accepted) ss → AllByRecursion (λ s. P s.accepted) (with_answer ss n a)
answer_all P [] n a all = tt
answer_all P (s ∷ []) n a all = (all.0, tt)
answer_all P (s ∷ t ∷ ss) n a all = (all.0, answer_all P (t ∷ ss) n a all.1)

rises_answered : (ss : List Executed) (n : ℕ) (a : Answer) → Rises ss → Rises (with_answer ss n a)
rises_answered [] n a r = tt
rises_answered (s ∷ []) n a r = (tt, tt)
rises_answered (s ∷ t ∷ ss) n a r = (answer_all (λ k. s.accepted < k) (t ∷ ss) n a r.0, rises_answered (t ∷ ss) n a r.1)

abbrev said_at : ℕ → List ℕ → Option Answer → Executed
said_at n text a = record { accepted = n; text = text; answer = a; reached = n }

rises_one : (c n : ℕ) (ss : List Executed) (e : Event) → Rises ss → AreBelow n ss → Rises (statements_after c ss (n, e)) × AreBelow (n + 1) (statements_after c ss (n, e))
rises_one c n ss (event.Take d text a) r all = by (d == c)
  where
    last : n < n + 1
    last = omega arith

    by : (b : Bool) → Rises (if b then ss ++ said_at n text a ∷ [] else ss) × AreBelow (n + 1) (if b then ss ++ said_at n text a ∷ [] else ss)
    by true = (rises_taken ss (said_at n text a) r all, each_more (λ (s : Executed). s.accepted < n + 1) ss (said_at n text a) (below_more n ss all) last)
    by false = (r, below_more n ss all)
rises_one c n ss (event.Call d store q how reply None) r all = (r, below_more n ss all)
rises_one c n ss (event.Call d store q how reply (Some a)) r all = by (d == c)
  where
    by : (b : Bool) → Rises (if b then with_answer ss n a else ss) × AreBelow (n + 1) (if b then with_answer ss n a else ss)
    by true = (rises_answered ss n a r, answer_all (λ k. k < n + 1) ss n a (below_more n ss all))
    by false = (r, below_more n ss all)
rises_one c n ss (event.Stop d) r all = (r, below_more n ss all)
rises_one c n ss (event.Clock moment) r all = (r, below_more n ss all)
rises_one c n ss (event.Idle d) r all = (r, below_more n ss all)
rises_one c n ss (event.Alter table column kind altered) r all = (r, below_more n ss all)
rises_one c n ss (event.Land number store q how reply) r all = (r, below_more n ss all)

rises_all : (c n : ℕ) (es : List Event) (ss : List Executed) → Rises ss → AreBelow n ss → Rises (fold (statements_after c) ss (enumerate_from n es))
rises_all c n [] ss r all = r
rises_all c n (e ∷ es) ss r all = let x = rises_one c n ss e r all in rises_all c (n + 1) es (statements_after c ss (n, e)) x.0 x.1

-- each before the last one
pub taken_before : (c : ℕ) (events : List Event) (answered : List Executed) (s : Executed) → statements_by c events ≡ answered ++ s ∷ [] → AllByRecursion (λ b. b.accepted < s.accepted) answered
taken_before c events answered s e = by answered (subst Rises e (rises_all c 1 events [] tt tt))
  where
    by : (ss : List Executed) → Rises (ss ++ s ∷ []) → AllByRecursion (λ b. b.accepted < s.accepted) ss
    by [] r = tt
    by (x ∷ ss) r = (each_last (λ t. x.accepted < t.accepted) ss s r.0, by ss r.1)

---- statements reach an event that came

abbrev ReachBelow : ℕ → List Executed → Type 0
ReachBelow n ss = AllByRecursion (λ s. s.reached < n) ss

reached_more : (n : ℕ) (ss : List Executed) → ReachBelow n ss → ReachBelow (n + 1) ss
reached_more n [] all = tt
reached_more n (s ∷ ss) all = (up s.reached all.0, reached_more n ss all.1)
  where
    up : (k : ℕ) → k < n → k < n + 1
    up k l = omega arith

reached_answered : (n : ℕ) (ss : List Executed) (a : Answer) → ReachBelow n ss → ReachBelow (n + 1) (with_answer ss n a)
reached_answered n [] a all = tt
reached_answered n (s ∷ []) a all = (last n, tt)
  where
    last : (k : ℕ) → k < k + 1
    last k = omega arith
reached_answered n (s ∷ t ∷ ss) a all = (up s.reached all.0, reached_answered n (t ∷ ss) a all.1)
  where
    up : (k : ℕ) → k < n → k < n + 1
    up k l = omega arith

reached_one : (c n : ℕ) (ss : List Executed) (e : Event) → ReachBelow n ss → ReachBelow (n + 1) (statements_after c ss (n, e))
reached_one c n ss (event.Take d text a) all = by (d == c)
  where
    last : n < n + 1
    last = omega arith

    by : (b : Bool) → ReachBelow (n + 1) (if b then ss ++ said_at n text a ∷ [] else ss)
    by true = each_more (λ (s : Executed). s.reached < n + 1) ss (said_at n text a) (reached_more n ss all) last
    by false = reached_more n ss all
reached_one c n ss (event.Call d store q how reply None) all = reached_more n ss all
reached_one c n ss (event.Call d store q how reply (Some a)) all = by (d == c)
  where
    by : (b : Bool) → ReachBelow (n + 1) (if b then with_answer ss n a else ss)
    by true = reached_answered n ss a all
    by false = reached_more n ss all
reached_one c n ss (event.Stop d) all = reached_more n ss all
reached_one c n ss (event.Clock moment) all = reached_more n ss all
reached_one c n ss (event.Idle d) all = reached_more n ss all
reached_one c n ss (event.Alter table column kind altered) all = reached_more n ss all
reached_one c n ss (event.Land number store q how r) all = reached_more n ss all

reached_all : (c n : ℕ) (es : List Event) (ss : List Executed) → ReachBelow n ss → ReachBelow (n + length es) (fold (statements_after c) ss (enumerate_from n es))
reached_all c n [] ss all = subst (λ k. ReachBelow k ss) (none n) all
  where
    none : (k : ℕ) → k ≡ k + 0
    none k = omega arith
reached_all c n (e ∷ es) ss all = subst (λ k. ReachBelow k (fold (statements_after c) (statements_after c ss (n, e)) (enumerate_from (n + 1) es))) (one n (length es)) (reached_all c (n + 1) es (statements_after c ss (n, e)) (reached_one c n ss e all))
  where
    one : (k m : ℕ) → k + 1 + m ≡ k + suc m
    one k m = omega arith

-- each is reached by an event
pub all_reached : (c : ℕ) (events : List Event) → AllByRecursion (λ s. s.reached < 1 + length events) (statements_by c events)
all_reached c events = reached_all c 1 events [] tt

-- Whether the read of a statement has finished stays.
pub read_still : (c : ℕ) (events : List Event) (e : Event) (s : Executed) → s.reached < 1 + length events → has_read (events ++ e ∷ []) c s ≡ has_read events c s
read_still c events e s low = by s.answer refl
  where
    within : (k n : ℕ) → k < 1 + n → k ≤ n
    within k n l = omega arith

    by : (o : Option Answer) → s.answer ≡ o → has_read (events ++ e ∷ []) c s ≡ has_read events c s
    by (Some a) is = read_stays c events e s a is (within s.reached (length events) low)
    by None is =
        ap (λ (o : Option Answer). option_map_or (read_finished (calls_of (events ++ e ∷ []) c s)) o false) is
        ∙ sym (ap (λ (o : Option Answer). option_map_or (read_finished (calls_of events c s)) o false) is)

---- more events

-- what a client said, by an event more: nothing, a statement more, or the last one, which waited, with its answer
abbrev pub Grows : List Executed → List Executed → Type 0
Grows ss ts = (ts ≡ ss) ⊎ ((x : Executed) × (ts ≡ ss ++ x ∷ [])) ⊎ ((front : List Executed) × (w : Executed) × (x : Executed) × (ss ≡ front ++ w ∷ []) × (w.answer ≡ None) × (ts ≡ front ++ x ∷ []))

-- with at most one statement after
abbrev Adds : List Executed → List Executed → Executed → Type 0
Adds ss ts x = (y : List Executed) × ((y ≡ []) ⊎ (y ≡ x ∷ [])) × (ts ≡ ss ++ y)

adds_front : (s : Executed) (ss ts : List Executed) (x : Executed) → Adds ss ts x → Adds (s ∷ ss) (s ∷ ts) x
adds_front s ss ts x (y, which, e) = (y, which, ap (λ r. s ∷ r) e)

open_adds : (ss : List Executed) (x : Executed) → Adds (take_while (λ s. not (ends s)) ss) (take_while (λ s. not (ends s)) (ss ++ x ∷ [])) x
open_adds [] x = subst (λ ts. Adds [] ts x) (sym (take_while-cons (λ s. not (ends s)) x [])) (by (not (ends x)))
  where
    by : (b : Bool) → Adds [] (if b then x ∷ [] else []) x
    by true = (x ∷ [], inr refl, refl)
    by false = ([], inl refl, refl)
open_adds (s ∷ ss) x =
    subst (λ ts. Adds ts (take_while (λ s. not (ends s)) (s ∷ (ss ++ x ∷ []))) x) (sym (take_while-cons (λ s. not (ends s)) s ss))
    (subst (λ ts. Adds (if not (ends s) then s ∷ take_while (λ s. not (ends s)) ss else []) ts x) (sym (take_while-cons (λ s. not (ends s)) s (ss ++ x ∷ []))) (by (not (ends s)) (open_adds ss x)))
  where
    by : (b : Bool) → Adds (take_while (λ s. not (ends s)) ss) (take_while (λ s. not (ends s)) (ss ++ x ∷ [])) x
        → Adds (if b then s ∷ take_while (λ s. not (ends s)) ss else []) (if b then s ∷ take_while (λ s. not (ends s)) (ss ++ x ∷ []) else []) x
    by true ih = adds_front s (take_while (λ s. not (ends s)) ss) (take_while (λ s. not (ends s)) (ss ++ x ∷ [])) x ih
    by false ih = ([], inl refl, refl)

through_adds : (ss : List Executed) (x : Executed) → Adds (through_end ss) (through_end (ss ++ x ∷ [])) x
through_adds [] x = by (ends x)
  where
    by : (b : Bool) → Adds [] (if b then x ∷ [] else x ∷ []) x
    by true = (x ∷ [], inr refl, refl)
    by false = (x ∷ [], inr refl, refl)
through_adds (s ∷ ss) x = by (ends s) (through_adds ss x)
  where
    by : (b : Bool) → Adds (through_end ss) (through_end (ss ++ x ∷ [])) x → Adds (if b then s ∷ [] else s ∷ through_end ss) (if b then s ∷ [] else s ∷ through_end (ss ++ x ∷ [])) x
    by true ih = ([], inl refl, refl)
    by false ih = adds_front s (through_end ss) (through_end (ss ++ x ∷ [])) x ih

-- a part of the statements since a BEGIN
since_adds : (F : List Executed → List Executed) (n : ℕ) (ss : List Executed) (x : Executed) → F [] ≡ [] → ((body : List Executed) → Adds (F body) (F (body ++ x ∷ [])) x) → Adds (F (rest_of (from_begin n ss))) (F (rest_of (from_begin n (ss ++ x ∷ [])))) x
since_adds F n ss x none adds = by (from_begin n ss) refl
  where
    by : (r : List Executed) → from_begin n ss ≡ r → Adds (F (rest_of (from_begin n ss))) (F (rest_of (from_begin n (ss ++ x ∷ [])))) x
    by [] e = ([], inl refl, ap F (since_none n ss x e) ∙ none ∙ sym (append-nil (F (rest_of (from_begin n ss))) ∙ ap (λ r. F (rest_of r)) e ∙ none))
    by (b ∷ body) e =
        subst (λ r. Adds (F (rest_of r)) (F (rest_of (from_begin n (ss ++ x ∷ [])))) x) (sym e)
        (subst (λ r. Adds (F body) (F (rest_of r)) x) (sym (since_more n ss x b body e)) (adds body))

---- what was counted and found before a statement

-- those of the statements before a statement that a test takes, by what the client said
abbrev before_in : (Executed → Bool) → ℕ → Executed → List Executed → List Executed
before_in t n s ss = filter (λ b. nat_lt b.accepted s.accepted) (filter t (take_while (λ x. not (ends x)) (rest_of (from_begin n ss))))

abbrev kept : (Executed → Bool) → Executed → List Executed → List Executed
kept t s ss = filter (λ b. nat_lt b.accepted s.accepted) (filter t ss)

kept_append : (t : Executed → Bool) (s : Executed) (xs ys : List Executed) → kept t s (xs ++ ys) ≡ kept t s xs ++ kept t s ys
kept_append t s xs ys = ap (filter (λ b. nat_lt b.accepted s.accepted)) (filter-append t xs ys) ∙ filter-append (λ b. nat_lt b.accepted s.accepted) (filter t xs) (filter t ys)

sum_front : (f : Executed → ℕ) (xs ys : List Executed) → sum_by f xs ≤ sum_by f (xs ++ ys)
sum_front f xs ys = subst (λ n. sum_by f xs ≤ n) (sym (sum_by-append f xs ys)) (more (sum_by f xs) (sum_by f ys))
  where
    more : (a b : ℕ) → a ≤ a + b
    more a b = omega arith

open_more : (n : ℕ) (ss : List Executed) (x : Executed) → Adds (take_while (λ s. not (ends s)) (rest_of (from_begin n ss))) (take_while (λ s. not (ends s)) (rest_of (from_begin n (ss ++ x ∷ [])))) x
open_more n ss x = since_adds (take_while (λ s. not (ends s))) n ss x refl (λ body. open_adds body x)

-- with a statement more no less was
before_more : (t : Executed → Bool) (f : Executed → ℕ) (n : ℕ) (s : Executed) (ss : List Executed) (x : Executed) → sum_by f (before_in t n s ss) ≤ sum_by f (before_in t n s (ss ++ x ∷ []))
before_more t f n s ss x =
    let a = open_more n ss x in
    subst (λ ts. sum_by f (before_in t n s ss) ≤ sum_by f ts) (sym (ap (kept t s) a.2 ∙ kept_append t s (take_while (λ s. not (ends s)) (rest_of (from_begin n ss))) a.0)) (sum_front f (before_in t n s ss) (kept t s a.0))

-- one that was accepted later doesn't count
before_apart : (t : Executed → Bool) (f : Executed → ℕ) (n : ℕ) (s : Executed) (ss : List Executed) (x : Executed) → nat_lt x.accepted s.accepted ≡ false → sum_by f (before_in t n s (ss ++ x ∷ [])) ≡ sum_by f (before_in t n s ss)
before_apart t f n s ss x later =
    let a = open_more n ss x in
    ap (sum_by f) (ap (kept t s) a.2 ∙ kept_append t s (take_while (λ s. not (ends s)) (rest_of (from_begin n ss))) a.0 ∙ ap (λ ys. before_in t n s ss ++ ys) (none a.0 a.1) ∙ append-nil (before_in t n s ss))
  where
    one : (b : Bool) → filter (λ b. nat_lt b.accepted s.accepted) (if b then x ∷ [] else []) ≡ []
    one true = ap (λ b. if b then x ∷ [] else []) later
    one false = refl

    none : (y : List Executed) → (y ≡ []) ⊎ (y ≡ x ∷ []) → kept t s y ≡ []
    none y (inl e) = ap (kept t s) e
    none y (inr e) = ap (kept t s) e ∙ one (t x)

pub least : (n : ℕ) → n ≤ n
least n = omega arith

pub through : (a b c : ℕ) → a ≤ b → b ≤ c → a ≤ c
through a b c l m = omega arith

-- a statement that was answered is before one that waits
apart_last : (front : List Executed) (w s : Executed) (a : Answer) → w.answer ≡ None → s.answer ≡ Some a → Contains (front ++ w ∷ []) s → Contains front s
apart_last front w s a none is has = by (Contains-push_cases front w s has)
  where
    by : Contains front s ⊎ (w ≡ s) → Contains front s
    by (inl h) = h
    by (inr e) = absurd (none_some a (sym none ∙ ap (λ (x : Executed). x.answer) e ∙ is))

-- as its client's statements grow, no less was counted and found before it
before_grows : (t : Executed → Bool) (f : Executed → ℕ) (n : ℕ) (s : Executed) (ss ts : List Executed) → ((front : List Executed) (w : Executed) → ss ≡ front ++ w ∷ [] → w.answer ≡ None → nat_lt w.accepted s.accepted ≡ false) → Grows ss ts → sum_by f (before_in t n s ss) ≤ sum_by f (before_in t n s ts)
before_grows t f n s ss ts later (inl e) = subst (λ xs. sum_by f (before_in t n s ss) ≤ sum_by f (before_in t n s xs)) (sym e) (least (sum_by f (before_in t n s ss)))
before_grows t f n s ss ts later (inr (inl (x, e))) = subst (λ xs. sum_by f (before_in t n s ss) ≤ sum_by f (before_in t n s xs)) (sym e) (before_more t f n s ss x)
before_grows t f n s ss ts later (inr (inr (front, w, x, e, none, g))) =
    subst (λ xs. sum_by f (before_in t n s xs) ≤ sum_by f (before_in t n s ts)) (sym e)
    (subst (λ xs. sum_by f (before_in t n s (front ++ w ∷ [])) ≤ sum_by f (before_in t n s xs)) (sym g)
    (subst (λ k. k ≤ sum_by f (before_in t n s (front ++ x ∷ []))) (sym (before_apart t f n s front w (later front w e none))) (before_more t f n s front x)))

-- and it stays one of its transaction
in_more : (n : ℕ) (ss : List Executed) (x s : Executed) → Contains (through_end (rest_of (from_begin n ss))) s → Contains (through_end (rest_of (from_begin n (ss ++ x ∷ [])))) s
in_more n ss x s has = let a = since_adds through_end n ss x refl (λ body. through_adds body x) in subst (λ ts. Contains ts s) (sym a.2) (Contains-append_left (through_end (rest_of (from_begin n ss))) a.0 s has)

in_front : (n : ℕ) (front : List Executed) (w s : Executed) (a : Answer) → w.answer ≡ None → s.answer ≡ Some a → Contains (through_end (rest_of (from_begin n (front ++ w ∷ [])))) s → Contains (through_end (rest_of (from_begin n front))) s
in_front n front w s a none is has = let z = since_adds through_end n front w refl (λ body. through_adds body w) in by z.0 z.1 (subst (λ ts. Contains ts s) z.2 has)
  where
    by : (y : List Executed) → (y ≡ []) ⊎ (y ≡ w ∷ []) → Contains (through_end (rest_of (from_begin n front)) ++ y) s → Contains (through_end (rest_of (from_begin n front))) s
    by y (inl e) h = subst (λ ts. Contains ts s) (append-nil (through_end (rest_of (from_begin n front)))) (subst (λ ys. Contains (through_end (rest_of (from_begin n front)) ++ ys) s) e h)
    by y (inr e) h = apart_last (through_end (rest_of (from_begin n front))) w s a none is (subst (λ ys. Contains (through_end (rest_of (from_begin n front)) ++ ys) s) e h)

through_all : (P : Executed → Type 0) (ss : List Executed) → AllByRecursion P ss → AllByRecursion P (through_end ss)
through_all P [] all = tt
through_all P (s ∷ ss) all = by (ends s) (through_all P ss all.1)
  where
    by : (b : Bool) → AllByRecursion P (through_end ss) → AllByRecursion P (if b then s ∷ [] else s ∷ through_end ss)
    by true ih = (all.0, tt)
    by false ih = (all.0, ih)

-- what is so of all that a client said is so of a transaction's statements
pub part_all : (P : Executed → Type 0) (n : ℕ) (ss : List Executed) → AllByRecursion P ss → AllByRecursion P (through_end (rest_of (from_begin n ss)))
part_all P n ss all = by (from_begin n ss) refl
  where
    by : (r : List Executed) → from_begin n ss ≡ r → AllByRecursion P (through_end (rest_of r))
    by [] e = tt
    by (b ∷ body) e = through_all P body (since_all P n ss b body all e)

pub in_grows : (n : ℕ) (ss ts : List Executed) (s : Executed) (a : Answer) → s.answer ≡ Some a → Grows ss ts → Contains (through_end (rest_of (from_begin n ss))) s → Contains (through_end (rest_of (from_begin n ts))) s
in_grows n ss ts s a is (inl e) has = subst (λ xs. Contains (through_end (rest_of (from_begin n xs))) s) (sym e) has
in_grows n ss ts s a is (inr (inl (x, e))) has = subst (λ xs. Contains (through_end (rest_of (from_begin n xs))) s) (sym e) (in_more n ss x s has)
in_grows n ss ts s a is (inr (inr (front, w, x, e, none, g))) has =
    subst (λ xs. Contains (through_end (rest_of (from_begin n xs))) s) (sym g) (in_more n front x s (in_front n front w s a none is (subst (λ xs. Contains (through_end (rest_of (from_begin n xs))) s) e has)))

---- the calls of a statement

abbrev call_in : ℕ → List Event → Event → List StoreCall
call_in c events e = cons_option (made_by c (1 + length events, e)) []

-- by an event more there is none less
calls_grow : (c : ℕ) (events : List Event) (e : Event) (b : Executed) → (more : List StoreCall) × (calls_of (events ++ e ∷ []) c b ≡ calls_of events c b ++ more)
calls_grow c events e b = by b.answer refl
  where
    by : (o : Option Answer) → b.answer ≡ o → (more : List StoreCall) × (calls_of (events ++ e ∷ []) c b ≡ calls_of events c b ++ more)
    by (Some a) is = (
      filter (λ m. nat_lt b.accepted m.at && nat_le m.at b.reached) (call_in c events e),
      ap (λ n. filter (λ m. nat_lt b.accepted m.at && nat_le m.at n) (calls_by (events ++ e ∷ []) c)) (end_answered (events ++ e ∷ []) b a is)
          ∙ ap (filter (λ m. nat_lt b.accepted m.at && nat_le m.at b.reached)) (made_more c events e)
          ∙ filter-append (λ m. nat_lt b.accepted m.at && nat_le m.at b.reached) (calls_by events c) (call_in c events e)
          ∙ ap (λ n. filter (λ m. nat_lt b.accepted m.at && nat_le m.at n) (calls_by events c) ++ filter (λ m. nat_lt b.accepted m.at && nat_le m.at b.reached) (call_in c events e)) (sym (end_answered events b a is)),
    )
    by None is = (
      filter (λ m. nat_lt b.accepted m.at) (call_in c events e),
      calls_open c (events ++ e ∷ []) b (end_waiting (events ++ e ∷ []) b is)
          ∙ ap (filter (λ m. nat_lt b.accepted m.at)) (made_more c events e)
          ∙ filter-append (λ m. nat_lt b.accepted m.at) (calls_by events c) (call_in c events e)
          ∙ ap (λ ms. ms ++ filter (λ m. nat_lt b.accepted m.at) (call_in c events e)) (sym (calls_open c events b (end_waiting events b is))),
    )

abbrev pub records_in : StoreCall → ℕ
records_in m = length (records_read m.reply)

-- and none less is found
pub found_append : (xs ys : List StoreCall) → records_found (xs ++ ys) ≡ records_found xs + records_found ys
found_append xs ys = ap (sum_by records_in) (filter-append reads_rows xs ys) ∙ sum_by-append records_in (filter reads_rows xs) (filter reads_rows ys)

pub found_grows : (c : ℕ) (events : List Event) (e : Event) (b : Executed) → records_found (calls_of events c b) ≤ records_found (calls_of (events ++ e ∷ []) c b)
found_grows c events e b = let g = calls_grow c events e b in subst (λ ms. records_found (calls_of events c b) ≤ records_found ms) (sym g.1) (subst (λ n. records_found (calls_of events c b) ≤ n) (sym (found_append (calls_of events c b) g.0)) (more (records_found (calls_of events c b)) (records_found g.0)))
  where
    more : (a b : ℕ) → a ≤ a + b
    more a b = omega arith

---- more than the most keys

pub over_more : (a b : ℕ) → a ≤ b → nat_lt 4096 a ≡ true → nat_lt 4096 b ≡ true
over_more a b l h = grind (arith, nat_tests)

passes_more : (a b x y : ℕ) (st : Statement) → a ≤ b → x ≤ y → may_pass a x st ≡ true → may_pass b y st ≡ true
passes_more a b x y (statement.Insert i) l m h = over_more (a + 1) (b + 1) (omega arith) h
passes_more a b x y (statement.Upsert i) l m h = over_more (a + 1) (b + 1) (omega arith) h
passes_more a b x y (statement.Update u) l m h = over_more (a + x) (b + y) (omega arith) h
passes_more a b x y (statement.Delete u) l m h = over_more (a + x) (b + y) (omega arith) h
passes_more a b x y (statement.Select u) l m h = absurd (cc)
passes_more a b x y statement.Begin l m h = absurd (cc)
passes_more a b x y statement.Commit l m h = absurd (cc)
passes_more a b x y statement.Rollback l m h = absurd (cc)
passes_more a b x y statement.Vacuum l m h = absurd (cc)

abbrev found_at : List Event → ℕ → TxId → Executed → ℕ
found_at es c id s = sum_by (λ b. records_found (calls_of es c b)) (finished_before es id s)

while_all : (P : Executed → Type 0) (p : Executed → Bool) (ss : List Executed) → AllByRecursion P ss → AllByRecursion P (take_while p ss)
while_all P p [] all = tt
while_all P p (s ∷ ss) all = subst (AllByRecursion P) (sym (take_while-cons p s ss)) (by (p s) (while_all P p ss all.1))
  where
    by : (b : Bool) → AllByRecursion P (take_while p ss) → AllByRecursion P (if b then s ∷ take_while p ss else [])
    by true rest = (all.0, rest)
    by false rest = tt

-- A statement that was answered, and may pass the most, still may.
pub pass_stays : (c : ℕ) (events : List Event) (e : Event) (s : Executed) (a : Answer) → Grows (statements_by c events) (statements_by c (events ++ e ∷ [])) → s.answer ≡ Some a → MayPassMost events c s → MayPassMost (events ++ e ∷ []) c s
pass_stays c events e s a grows is h = record {
  id = h.id;
  statement = h.statement;
  within = (h.within.0, in_grows (ordinal_of h.id) (statements_by (client_of h.id) events) (statements_by (client_of h.id) (events ++ e ∷ [])) s a is grows_id h.within.1);
  read = h.read;
  past = passes_more (sum_by counted_by (body_before events h.id s)) (sum_by counted_by (body_before (events ++ e ∷ []) h.id s)) (found_at events c h.id s + records_found (calls_of events c s)) (found_at (events ++ e ∷ []) c h.id s + records_found (calls_of (events ++ e ∷ []) c s)) h.statement counted (sums (found_at events c h.id s) (found_at (events ++ e ∷ []) c h.id s) (records_found (calls_of events c s)) (records_found (calls_of (events ++ e ∷ []) c s)) found (found_grows c events e s)) h.past;
}
  where
    sums : (a b x y : ℕ) → a ≤ b → x ≤ y → a + x ≤ b + y
    sums a b x y l m = omega arith

    grows_id : Grows (statements_by (client_of h.id) events) (statements_by (client_of h.id) (events ++ e ∷ []))
    grows_id = subst (λ d. Grows (statements_by d events) (statements_by d (events ++ e ∷ []))) (sym h.within.0) grows

    -- one that waits was accepted later
    waits_later : (front : List Executed) (w : Executed) → statements_by (client_of h.id) events ≡ front ++ w ∷ [] → w.answer ≡ None → nat_lt w.accepted s.accepted ≡ false
    waits_later front w same none =
        later w.accepted s.accepted (each_in (λ b. b.accepted < w.accepted) (through_end (rest_of (from_begin (ordinal_of h.id) front))) s (part_all (λ b. b.accepted < w.accepted) (ordinal_of h.id) front (taken_before (client_of h.id) events front w same)) (in_front (ordinal_of h.id) front w s a none is (subst (λ ss. Contains (through_end (rest_of (from_begin (ordinal_of h.id) ss))) s) same h.within.1)))
      where
        later : (m n : ℕ) → n < m → nat_lt m n ≡ false
        later m n l = grind (arith, nat_tests)

    grown : (t : Executed → Bool) (f : Executed → ℕ) → sum_by f (before_in t (ordinal_of h.id) s (statements_by (client_of h.id) events)) ≤ sum_by f (before_in t (ordinal_of h.id) s (statements_by (client_of h.id) (events ++ e ∷ [])))
    grown t f = before_grows t f (ordinal_of h.id) s (statements_by (client_of h.id) events) (statements_by (client_of h.id) (events ++ e ∷ [])) waits_later grows_id

    -- whose reads have finished stays
    same_before : finished_before events h.id s ≡ before_in (has_read (events ++ e ∷ []) (client_of h.id)) (ordinal_of h.id) s (statements_by (client_of h.id) events)
    same_before =
        ap (filter (λ b. nat_lt b.accepted s.accepted))
        (filter_same (has_read events (client_of h.id)) (has_read (events ++ e ∷ []) (client_of h.id)) (statements_inside events h.id)
        (while_all (λ b. has_read events (client_of h.id) b ≡ has_read (events ++ e ∷ []) (client_of h.id) b) (λ x. not (ends x)) (rest_of (from_begin (ordinal_of h.id) (statements_by (client_of h.id) events)))
        (rest_all (λ b. has_read events (client_of h.id) b ≡ has_read (events ++ e ∷ []) (client_of h.id) b) (ordinal_of h.id) (statements_by (client_of h.id) events)
        (each_any (λ (b : Executed). b.reached < 1 + length events) (λ (b : Executed). has_read events (client_of h.id) b ≡ has_read (events ++ e ∷ []) (client_of h.id) b) (statements_by (client_of h.id) events) (λ b low. sym (read_still (client_of h.id) events e b low)) (all_reached (client_of h.id) events)))))

    counted : sum_by counted_by (body_before events h.id s) ≤ sum_by counted_by (body_before (events ++ e ∷ []) h.id s)
    counted = grown is_effective counted_by

    found : found_at events c h.id s ≤ found_at (events ++ e ∷ []) c h.id s
    found =
        through (found_at events c h.id s) (sum_by (λ b. records_found (calls_of (events ++ e ∷ []) c b)) (finished_before events h.id s)) (found_at (events ++ e ∷ []) c h.id s)
        (sum_by-le-sum_by (λ b. records_found (calls_of events c b)) (λ b. records_found (calls_of (events ++ e ∷ []) c b)) (finished_before events h.id s) (found_grows c events e))
        (subst (λ ss. sum_by (λ b. records_found (calls_of (events ++ e ∷ []) c b)) ss ≤ found_at (events ++ e ∷ []) c h.id s) (sym same_before) (grown (has_read (events ++ e ∷ []) (client_of h.id)) (λ b. records_found (calls_of (events ++ e ∷ []) c b))))

---- the last statement

-- none of these ends it, and so they go on through the last
through_last : (s : Executed) (xs : List Executed) → AllByRecursion (λ x. ends x ≡ false) xs → through_end (xs ++ s ∷ []) ≡ xs ++ s ∷ []
through_last s [] all = by (ends s)
  where
    by : (b : Bool) → (if b then s ∷ [] else s ∷ []) ≡ s ∷ []
    by true = refl
    by false = refl
through_last s (x ∷ xs) all = ap (λ b. if b then x ∷ [] else x ∷ through_end (xs ++ s ∷ [])) all.0 ∙ ap (λ r. x ∷ r) (through_last s xs all.1)

since_last : (c n : ℕ) (events : List Event) (answered : List Executed) (begin s : Executed) (body : List Executed) → n < 2 ^ 64 → statements_by c events ≡ answered ++ s ∷ [] → from_begin n answered ≡ begin ∷ body → from_begin (ordinal_of (id_of c n)) (statements_by (client_of (id_of c n)) events) ≡ begin ∷ (body ++ s ∷ [])
since_last c n events answered begin s body small same since =
    ap (λ d. from_begin (ordinal_of (id_of c n)) (statements_by d events)) (client_is c n small) ∙ ap (λ k. from_begin k (statements_by c events)) (ordinal_is c n small) ∙ ap (from_begin n) same ∙ since_more n answered s begin body since

-- the last statement of a client, and each before it, is one of its open transaction
pub in_last : (c n : ℕ) (events : List Event) (answered : List Executed) (begin s : Executed) (body : List Executed) → n < 2 ^ 64 → statements_by c events ≡ answered ++ s ∷ [] → from_begin n answered ≡ begin ∷ body → AllByRecursion (λ x. ends x ≡ false) body → (x : Executed) → Contains (body ++ s ∷ []) x → IsIn events c x (id_of c n)
in_last c n events answered begin s body small same since goes_on x has =
    (client_is c n small, subst (λ ss. Contains (through_end (rest_of ss)) x) (sym (since_last c n events answered begin s body small same since)) (subst (λ ss. Contains ss x) (sym (through_last s body goes_on)) has))

-- One that its client said last, in a transaction whose statements before it are these, may pass the most where these counted and found so.
pub pass_now : (c n : ℕ) (events : List Event) (answered : List Executed) (begin s : Executed) (body : List Executed) (st : Statement) → n < 2 ^ 64 → statements_by c events ≡ answered ++ s ∷ [] → from_begin n answered ≡ begin ∷ body → AllByRecursion (λ x. ends x ≡ false) body → Reads s.text st
    → may_pass (rows_counted_by body) (records_found_by events c body + records_found (calls_of events c s)) st ≡ true → MayPassMost events c s
pass_now c n events answered begin s body st small same since goes_on reads past = record {
  id = id_of c n;
  statement = st;
  within = in_last c n events answered begin s body small same since goes_on s (Contains-append_right body (s ∷ []) s (Contains-push [] s));
  read = reads;
  past = passes_more (rows_counted_by body) (sum_by (λ b. rows_counted b.answer) (body_before events (id_of c n) s)) (records_found_by events c body + records_found (calls_of events c s)) (sum_by (λ b. records_found (calls_of events c b)) (finished_before events (id_of c n) s) + records_found (calls_of events c s)) st (grown is_effective (λ b. rows_counted b.answer)) (plus (records_found_by events c body) (sum_by (λ b. records_found (calls_of events c b)) (finished_before events (id_of c n) s)) (records_found (calls_of events c s)) (subst (λ d. records_found_by events c body ≤ sum_by (λ b. records_found (calls_of events c b)) (before_in (has_read events d) (ordinal_of (id_of c n)) s (statements_by (client_of (id_of c n)) events))) (sym (client_is c n small)) (grown (has_read events c) (λ b. records_found (calls_of events c b))))) past;
}
  where
    plus : (a b x : ℕ) → a ≤ b → a + x ≤ b + x
    plus a b x l = omega arith

    -- all of the body was accepted before it
    none_dropped : (t : Executed → Bool) (xs : List Executed) → AllByRecursion (λ b. b.accepted < s.accepted) xs → kept t s xs ≡ filter t xs
    none_dropped t [] all = refl
    none_dropped t (x ∷ xs) all = by (t x) (none_dropped t xs all.1)
      where
        below : (a b : ℕ) → a < b → nat_lt a b ≡ true
        below a b l = grind (arith, nat_tests)

        by : (b : Bool) → kept t s xs ≡ filter t xs → filter (λ b. nat_lt b.accepted s.accepted) (if b then x ∷ filter t xs else filter t xs) ≡ (if b then x ∷ filter t xs else filter t xs)
        by true ih = ap (λ b. if b then x ∷ kept t s xs else kept t s xs) (below x.accepted s.accepted all.0) ∙ ap (λ r. x ∷ r) ih
        by false ih = ih

    before_is : (t : Executed → Bool) → before_in t (ordinal_of (id_of c n)) s (statements_by (client_of (id_of c n)) events) ≡ filter t body ++ kept t s (take_while (λ x. not (ends x)) (s ∷ []))
    before_is t =
        ap (λ ss. kept t s (take_while (λ x. not (ends x)) (rest_of ss))) (since_last c n events answered begin s body small same since)
        ∙ ap (kept t s) (take_open body (s ∷ []) goes_on)
        ∙ kept_append t s body (take_while (λ x. not (ends x)) (s ∷ []))
        ∙ ap (λ r. r ++ kept t s (take_while (λ x. not (ends x)) (s ∷ []))) (none_dropped t body (since_all (λ b. b.accepted < s.accepted) n answered begin body (taken_before c events answered s same) since))

    grown : (t : Executed → Bool) (f : Executed → ℕ) → sum_by f (filter t body) ≤ sum_by f (before_in t (ordinal_of (id_of c n)) s (statements_by (client_of (id_of c n)) events))
    grown t f = subst (λ ss. sum_by f (filter t body) ≤ sum_by f ss) (sym (before_is t)) (sum_front f (filter t body) (kept t s (take_while (λ x. not (ends x)) (s ∷ []))))
