-- Statements of a client that run on what they found, as statements and events come.
use Rattle.std.proofs.Common.{◌≡◌, ◌⊎◌, inl, inr, ℕ, Bool, true, false, not, cond, List, [], ◌∷◌, ◌++◌, map, Option, Some, None, refl, sym, ap, subst, ◌∙◌}
use Rattle.std.specs.Prelude.{◌&&◌, ◌||◌, if◌then◌else◌, filter, is_some, take_while}
use Rattle.std.specs.FinMap.{get-empty}
use Rattle.std.specs.List.{AllByRecursion}
use Rattle.std.proofs.lemmas.List.Folds.{list_any-append}
use Rattle.std.proofs.lemmas.List.{append-nil, append_assoc}
use Rattle.std.proofs.lemmas.List.Elements.{filter-append}
use Rattle.std.proofs.lemmas.List.Sums.{take_while-cons}
use Rattle.law_runs.specs.Types.{Answer, Event, Key, Record, Span, Statement, Table}
use Rattle.sdb_types.specs.Order.{key_cmp}
use Rattle.sdb_types.proofs.Public.{clash, map_last, or_false}
use Rattle.sdb_model.specs.Calls.{calls_of}
use Rattle.sdb_model.specs.Catalogs.{catalog_after}
use Rattle.sdb_model.specs.ReadSet.{has_finished}
use Rattle.sdb_model.specs.Sql.{Reads}
use Rattle.sdb_model.specs.Transactions.{Executed, ends, from_begin, is_effective, rest_of}
use Rattle.sdb_snapshot.specs.Seen.{Seen, is_scanned, nothing}
use Rattle.law_answers.specs.Counts.{ArePaired}
use Rattle.law_answers.specs.Invariant.{IsAnswered, begun_in, open_after}
use Rattle.law_answers.proofs.Public.{before_same, calls_stay, each_kept, filter_same, open_only, since_all, since_more, since_none, take_ends, take_open}
use Rattle.law_runs.specs.Found.{AllRunAs, AreUnder, IsRunOnFound, RunsAs, RunsUnder, View, exec_on, finds, found_by, is_answered, meets_misfit, takes_part, nothing_found, run_on_found, run_one, scans_span, was_scanned, with_found}
use Rattle.law_clients.specs.Keys.{keys_written, with_keys}
use Rattle.law_runs.specs.Written.{keys_of, written_on_found}
use Rattle.law_runs.proofs.Views.{IsViewOf}
use Rattle.law_runs.proofs.Writing.{write_keys, written_more}

---- the statements that run

abbrev pub goes_on : Executed → Bool
goes_on s = not (ends s)

-- those up to the end that were answered and changed something, or whose reads have finished
abbrev pub running : List Event → ℕ → List Executed → List Executed
running events c ss = filter is_answered (filter (takes_part events c) (take_while goes_on ss))

-- a statement is one of them
abbrev pub is_running : List Event → ℕ → Executed → Bool
is_running events c s = goes_on s && takes_part events c s && is_answered s

taken_on : (s : Executed) (more : List Executed) → ends s ≡ false → take_while goes_on (s ∷ more) ≡ s ∷ take_while goes_on more
taken_on s more e = take_while-cons goes_on s more ∙ ap (λ b. cond (not b) (s ∷ take_while goes_on more) []) e

-- none of the statements ends the transaction, or one does, and then no more runs
opens : (ss : List Executed) → AllByRecursion (λ s. ends s ≡ false) ss ⊎ ((z : Executed) → take_while goes_on (ss ++ z ∷ []) ≡ take_while goes_on ss)
opens [] = inl tt
opens (s ∷ ss) = by (ends s) refl (opens ss)
  where
    by : (b : Bool) → ends s ≡ b → AllByRecursion (λ x. ends x ≡ false) ss ⊎ ((z : Executed) → take_while goes_on (ss ++ z ∷ []) ≡ take_while goes_on ss)
        → AllByRecursion (λ x. ends x ≡ false) (s ∷ ss) ⊎ ((z : Executed) → take_while goes_on ((s ∷ ss) ++ z ∷ []) ≡ take_while goes_on (s ∷ ss))
    by true e h = inr (λ z. take_ends s (ss ++ z ∷ []) e ∙ sym (take_ends s ss e))
    by false e (inl h) = inl (e, h)
    by false e (inr h) = inr (λ z. taken_on s (ss ++ z ∷ []) e ∙ ap (λ xs. s ∷ xs) (h z) ∙ sym (taken_on s ss e))

one_running : (events : List Event) (c : ℕ) (z : Executed) → running events c (z ∷ []) ≡ (if is_running events c z then z ∷ [] else [])
one_running events c z = ap (λ xs. filter is_answered (filter (takes_part events c) xs)) (take_while-cons goes_on z []) ∙ by (goes_on z) (takes_part events c z) refl
  where
    by : (a b : Bool) → takes_part events c z ≡ b → filter is_answered (filter (takes_part events c) (cond a (z ∷ take_while goes_on []) [])) ≡ (if a && b && is_answered z then z ∷ [] else [])
    by false b e = refl
    by true true e = ap (λ b. filter is_answered (if b then z ∷ [] else [])) e
    by true false e = ap (λ b. filter is_answered (if b then z ∷ [] else [])) e

-- with one statement more
pub running_more : (events : List Event) (c : ℕ) (ss : List Executed) (z : Executed) → AllByRecursion (λ s. ends s ≡ false) ss → running events c (ss ++ z ∷ []) ≡ running events c ss ++ (if is_running events c z then z ∷ [] else [])
running_more events c ss z all =
    ap (λ xs. filter is_answered (filter (takes_part events c) xs)) (take_open ss (z ∷ []) all)
    ∙ ap (filter is_answered) (filter-append (takes_part events c) ss (take_while goes_on (z ∷ [])))
    ∙ filter-append is_answered (filter (takes_part events c) ss) (filter (takes_part events c) (take_while goes_on (z ∷ [])))
    ∙ ap (λ xs. xs ++ running events c (z ∷ [])) (ap (λ xs. filter is_answered (filter (takes_part events c) xs)) (sym (append-nil ss) ∙ sym (ap (λ xs. ss ++ xs) refl) ∙ sym (take_open ss [] all) ∙ ap (take_while goes_on) (append-nil ss)))
    ∙ ap (λ xs. running events c ss ++ xs) (one_running events c z)

pub running_same : (events : List Event) (c : ℕ) (ss : List Executed) (z : Executed) → is_running events c z ≡ false → running events c (ss ++ z ∷ []) ≡ running events c ss
running_same events c ss z none = by (opens ss)
  where
    by : AllByRecursion (λ s. ends s ≡ false) ss ⊎ ((y : Executed) → take_while goes_on (ss ++ y ∷ []) ≡ take_while goes_on ss) → running events c (ss ++ z ∷ []) ≡ running events c ss
    by (inl all) = running_more events c ss z all ∙ ap (λ b. running events c ss ++ (if b then z ∷ [] else [])) none ∙ append-nil (running events c ss)
    by (inr h) = ap (λ xs. filter is_answered (filter (takes_part events c) xs)) (h z)

pub each_taken : (P : Executed → Type 0) (p : Executed → Bool) (ss : List Executed) → AllByRecursion P ss → AllByRecursion P (take_while p ss)
each_taken P p [] all = tt
each_taken P p (s ∷ ss) all = subst (AllByRecursion P) (sym (take_while-cons p s ss)) (by (p s) (each_taken P p ss all.1))
  where
    by : (b : Bool) → AllByRecursion P (take_while p ss) → AllByRecursion P (cond b (s ∷ take_while p ss) [])
    by true h = (all.0, h)
    by false h = tt

-- the statements of a client's transaction of that number that run
abbrev pub running_of : List Event → ℕ → ℕ → List Executed → List Executed
running_of events c n past = running events c (rest_of (from_begin n past))

pub each_running : (P : Executed → Type 0) (events : List Event) (c n : ℕ) (past : List Executed) → AllByRecursion P past → AllByRecursion P (running_of events c n past)
each_running P events c n past all = by (from_begin n past) refl
  where
    by : (r : List Executed) → from_begin n past ≡ r → AllByRecursion P (running_of events c n past)
    by [] e = subst (λ x. AllByRecursion P (running events c (rest_of x))) (sym e) tt
    by (b ∷ r) e = subst (λ x. AllByRecursion P (running events c (rest_of x))) (sym e) (each_kept P is_answered (filter (takes_part events c) (take_while goes_on r)) (each_kept P (takes_part events c) (take_while goes_on r) (each_taken P goes_on r (since_all P n past b r all e))))

-- one that has no answer doesn't run
pub running_waits : (events : List Event) (c n : ℕ) (past : List Executed) (w : Executed) → w.answer ≡ None → running_of events c n (past ++ w ∷ []) ≡ running_of events c n past
running_waits events c n past w none = by (from_begin n past) refl
  where
    unanswered : is_running events c w ≡ false
    unanswered = ap (λ (o : Option Answer). goes_on w && takes_part events c w && is_some o) none ∙ no (goes_on w) (takes_part events c w)
      where
        no : (a b : Bool) → (a && b && false) ≡ false
        no true true = refl
        no true false = refl
        no false b = refl

    by : (r : List Executed) → from_begin n past ≡ r → running_of events c n (past ++ w ∷ []) ≡ running_of events c n past
    by [] e = ap (running events c) (since_none n past w e) ∙ sym (ap (λ x. running events c (rest_of x)) e)
    by (b ∷ r) e = ap (λ x. running events c (rest_of x)) (since_more n past w b r e) ∙ running_same events c r w unanswered ∙ sym (ap (λ x. running events c (rest_of x)) e)

---- those that run, as events come

-- answered statements take part as they did
takes_stay : (catalog : List Table) (events : List Event) (e : Event) (c : ℕ) (ss : List Executed) → AllByRecursion (IsAnswered catalog events c) ss → filter (takes_part (events ++ e ∷ []) c) ss ≡ filter (takes_part events c) ss
takes_stay catalog events e c ss all = filter_same (takes_part (events ++ e ∷ []) c) (takes_part events c) ss (each ss all)
  where
    each : (xs : List Executed) → AllByRecursion (IsAnswered catalog events c) xs → AllByRecursion (λ s. takes_part (events ++ e ∷ []) c s ≡ takes_part events c s) xs
    each [] h = tt
    each (s ∷ xs) h = (ap (λ ms. is_effective s || has_finished ms s) (calls_stay c events e s h.0.given h.0.is h.0.answered), each xs h.1)

pub running_stays : (catalog : List Table) (events : List Event) (e : Event) (c : ℕ) (ss : List Executed) → AllByRecursion (IsAnswered catalog events c) ss → running (events ++ e ∷ []) c ss ≡ running events c ss
running_stays catalog events e c ss all = ap (filter is_answered) (takes_stay catalog events e c (take_while goes_on ss) (each_taken (IsAnswered catalog events c) goes_on ss all))

pub running_of_stays : (catalog : List Table) (events : List Event) (e : Event) (c n : ℕ) (past : List Executed) → AllByRecursion (IsAnswered catalog events c) past → running_of (events ++ e ∷ []) c n past ≡ running_of events c n past
running_of_stays catalog events e c n past all = by (from_begin n past) refl
  where
    by : (r : List Executed) → from_begin n past ≡ r → running_of (events ++ e ∷ []) c n past ≡ running_of events c n past
    by [] f = ap (λ x. running (events ++ e ∷ []) c (rest_of x)) f ∙ sym (ap (λ x. running events c (rest_of x)) f)
    by (b ∷ r) f =
        ap (λ x. running (events ++ e ∷ []) c (rest_of x)) f
        ∙ running_stays catalog events e c r (since_all (IsAnswered catalog events c) n past b r all f)
        ∙ sym (ap (λ x. running events c (rest_of x)) f)

---- one statement more

-- a statement on a view, which meets a row that doesn't fit there, or none
abbrev pub run_by : List Table → Statement → View → Bool → List Answer × View
run_by catalog st v met = if met then ([], v) else ((exec_on catalog st v).0 ∷ [], (exec_on catalog st v).1)

abbrev Found : Type 0
Found = List (Key × Option Record)

run_more : (catalog : List Table) (events : List Event) (c : ℕ) (xs : List Executed) (os : List (Option Statement)) (z : Executed) (o : Option Statement) (v : View) → AllRunAs xs os
    → run_on_found catalog (finds events c (xs ++ z ∷ [])) (os ++ o ∷ []) v
    ≡ ((run_on_found catalog (finds events c xs) os v).0 ++ (run_one catalog o (with_found catalog (run_on_found catalog (finds events c xs) os v).1 (found_by (calls_of events c z)))).0, (run_one catalog o (with_found catalog (run_on_found catalog (finds events c xs) os v).1 (found_by (calls_of events c z)))).1)
run_more catalog events c [] [] z o v run = λ i. (append-nil (run_one catalog o (with_found catalog v (found_by (calls_of events c z)))).0 i, (run_one catalog o (with_found catalog v (found_by (calls_of events c z)))).1)
run_more catalog events c [] (y ∷ ys) z o v run = absurd run
run_more catalog events c (x ∷ xs) [] z o v run = absurd run
run_more catalog events c (x ∷ xs) (y ∷ ys) z o v run =
    let first = run_one catalog y (with_found catalog v (found_by (calls_of events c x))) in
    let rest = run_on_found catalog (finds events c xs) ys first.1 in
    let last = run_one catalog o (with_found catalog rest.1 (found_by (calls_of events c z))) in
    ap (λ (r : List Answer × View). (first.0 ++ r.0, r.1)) (run_more catalog events c xs ys z o first.1 run.1) ∙ ap (λ (list : List Answer). (list, last.1)) (sym (append_assoc first.0 rest.0 last.0))

all_more : (xs : List Executed) (os : List (Option Statement)) (x : Executed) (o : Option Statement) → AllRunAs xs os → RunsAs x o → AllRunAs (xs ++ x ∷ []) (os ++ o ∷ [])
all_more [] [] x o h r = (r, tt)
all_more [] (y ∷ ys) x o h r = absurd h
all_more (z ∷ zs) [] x o h r = absurd h
all_more (z ∷ zs) (y ∷ ys) x o h r = (h.0, all_more zs ys x o h.1 r)

-- the view after statements that ran
abbrev pub view_after : (catalog : List Table) (events : List Event) (c : ℕ) (ss : List Executed) → IsRunOnFound catalog events c ss → View
view_after catalog events c ss r = (run_on_found catalog (finds events c ss) r.statements nothing_found).1

-- each span that statements scanned is among the scans
abbrev pub HoldsScans : List Event → ℕ → List Executed → Seen → Type 0
HoldsScans events c ss s = (span : Span) → was_scanned events c ss span ≡ true → is_scanned s.scans span ≡ true

-- Statements run on what they found, and leave what a transaction has read and written.
pub record RunsTo (catalog : List Table) (events : List Event) (c : ℕ) (ss : List Executed) (s : Seen) : Type 0 where
  pub run : IsRunOnFound catalog events c ss
  pub sees : IsViewOf catalog (view_after catalog events c ss run) s
  pub scans : HoldsScans events c ss s
  pub writes : write_keys s.writes ≡ keys_of catalog events c ss run.statements

-- before the first
pub none_run : (catalog : List Table) (events : List Event) (c : ℕ) → IsRunOnFound catalog events c []
none_run catalog events c = record { statements = []; run = tt; answers = refl }

pub none_runs : (catalog : List Table) (events : List Event) (c : ℕ) → RunsTo catalog events c [] nothing
unfolding none_run
none_runs catalog events c = record { run = none_run catalog events c; sees = record { keys = λ q. refl; rows = λ q. get-empty key_cmp q; misfits = λ q. refl }; scans = λ q e. clash (sym e); writes = refl }

module _ (catalog : List Table) (events : List Event) (c : ℕ) (ss : List Executed) (z : Executed) (r : IsRunOnFound catalog events c ss) where
  -- what was found with it
  abbrev pub found_with : View
  found_with = with_found catalog (view_after catalog events c ss r) (found_by (calls_of events c z))

  -- A statement runs after others, on what they and itself found, and is answered so.
  pub runs_more : (st : Statement) (b : Answer) (s : Seen) → is_effective z ≡ true → Reads z.text st → z.answer ≡ Some b → meets_misfit catalog st found_with ≡ false → (exec_on catalog st found_with).0 ≡ b → IsViewOf catalog (exec_on catalog st found_with).1 s → HoldsScans events c (ss ++ z ∷ []) s
      → write_keys s.writes ≡ with_keys (keys_of catalog events c ss r.statements) (keys_written catalog st found_with.rows) → RunsTo catalog events c (ss ++ z ∷ []) s
  runs_more st b s effective reads answered met gives sees scans writes = record {
    run = record {
      statements = r.statements ++ Some st ∷ [];
      run = all_more ss r.statements z (Some st) r.run (effective, reads);
      answers =
          ap (map (λ (x : Executed). x.answer)) (filter-append is_effective ss (z ∷ []) ∙ ap (λ t. filter is_effective ss ++ (if t then z ∷ [] else [])) effective)
          ∙ map_last (λ (x : Executed). x.answer) (filter is_effective ss) z
          ∙ ap (λ bs. bs ++ z.answer ∷ []) r.answers
          ∙ ap (λ (o : Option Answer). map Some before ++ o ∷ []) (answered ∙ ap Some (sym gives))
          ∙ sym (map_last Some before (exec_on catalog st found_with).0)
          ∙ sym (ap (λ (x : List Answer × View). map Some x.0) more);
    };
    sees = subst (λ (v : View). IsViewOf catalog v s) (sym (ap (λ (x : List Answer × View). x.1) more)) sees;
    scans = scans;
    writes = writes ∙ sym (written_more catalog events c ss r.statements z (Some st) nothing_found [] r.run);
  }
    where
      before : List Answer
      before = (run_on_found catalog (finds events c ss) r.statements nothing_found).0

      more : run_on_found catalog (finds events c (ss ++ z ∷ [])) (r.statements ++ Some st ∷ []) nothing_found ≡ (before ++ (exec_on catalog st found_with).0 ∷ [], (exec_on catalog st found_with).1)
      more =
          run_more catalog events c ss r.statements z (Some st) nothing_found r.run
          ∙ ap (λ t. (before ++ (run_by catalog st found_with t).0, (run_by catalog st found_with t).1)) met

  -- One that changes nothing leaves what it found.
  pub runs_kept : (s : Seen) → is_effective z ≡ false → IsViewOf catalog found_with s → HoldsScans events c (ss ++ z ∷ []) s → write_keys s.writes ≡ keys_of catalog events c ss r.statements → RunsTo catalog events c (ss ++ z ∷ []) s
  runs_kept s idle sees scans writes = record {
    run = record {
      statements = r.statements ++ None ∷ [];
      run = all_more ss r.statements z None r.run idle;
      answers =
          ap (map (λ (x : Executed). x.answer)) (filter-append is_effective ss (z ∷ []) ∙ ap (λ t. filter is_effective ss ++ (if t then z ∷ [] else [])) idle ∙ append-nil (filter is_effective ss))
          ∙ r.answers
          ∙ sym (ap (λ (x : List Answer × View). map Some x.0) more ∙ ap (map Some) (append-nil before));
    };
    sees = subst (λ (v : View). IsViewOf catalog v s) (sym (ap (λ (x : List Answer × View). x.1) more)) sees;
    scans = scans;
    writes = writes ∙ sym (written_more catalog events c ss r.statements z None nothing_found [] r.run);
  }
    where
      before : List Answer
      before = (run_on_found catalog (finds events c ss) r.statements nothing_found).0

      more : run_on_found catalog (finds events c (ss ++ z ∷ [])) (r.statements ++ None ∷ []) nothing_found ≡ (before ++ [], found_with)
      more = run_more catalog events c ss r.statements z None nothing_found r.run

---- as events come

-- what answered statements found stays
pub finds_stay : (catalog : List Table) (events : List Event) (e : Event) (c : ℕ) (ss : List Executed) → AllByRecursion (IsAnswered catalog events c) ss → finds (events ++ e ∷ []) c ss ≡ finds events c ss
finds_stay catalog events e c [] all = refl
finds_stay catalog events e c (s ∷ ss) all = ap (λ ms. found_by ms ∷ finds (events ++ e ∷ []) c ss) (calls_stay c events e s all.0.given all.0.is all.0.answered) ∙ ap (λ fs. found_by (calls_of events c s) ∷ fs) (finds_stay catalog events e c ss all.1)

pub scanned_stays : (catalog : List Table) (events : List Event) (e : Event) (c : ℕ) (ss : List Executed) (span : Span) → AllByRecursion (IsAnswered catalog events c) ss → was_scanned (events ++ e ∷ []) c ss span ≡ was_scanned events c ss span
scanned_stays catalog events e c [] span all = refl
scanned_stays catalog events e c (s ∷ ss) span all =
    ap (λ ms. scans_span span ms || was_scanned (events ++ e ∷ []) c ss span) (calls_stay c events e s all.0.given all.0.is all.0.answered)
    ∙ ap (λ b. scans_span span (calls_of events c s) || b) (scanned_stays catalog events e c ss span all.1)

-- with one statement more
pub scanned_more : (events : List Event) (c : ℕ) (ss : List Executed) (z : Executed) (span : Span) → was_scanned events c (ss ++ z ∷ []) span ≡ (was_scanned events c ss span || scans_span span (calls_of events c z))
scanned_more events c ss z span = list_any-append (λ (s : Executed). scans_span span (calls_of events c s)) ss (z ∷ []) ∙ ap (λ b. was_scanned events c ss span || b) (or_false (scans_span span (calls_of events c z)))

pub run_stays : (catalog under : List Table) (events : List Event) (e : Event) (c : ℕ) (ss : List Executed) → AllByRecursion (IsAnswered catalog events c) ss → IsRunOnFound under events c ss → IsRunOnFound under (events ++ e ∷ []) c ss
run_stays catalog under events e c ss all r = record { statements = r.statements; run = r.run; answers = r.answers ∙ ap (λ fs. map Some (run_on_found under fs r.statements nothing_found).0) (sym (finds_stay catalog events e c ss all)) }

pub runs_stay : (catalog under : List Table) (events : List Event) (e : Event) (c : ℕ) (ss : List Executed) (s : Seen) → AllByRecursion (IsAnswered catalog events c) ss → RunsTo under events c ss s → RunsTo under (events ++ e ∷ []) c ss s
unfolding run_stays
runs_stay catalog under events e c ss s all r = record {
  run = run_stays catalog under events e c ss all r.run;
  sees = subst (λ fs. IsViewOf under (run_on_found under fs r.run.statements nothing_found).1 s) (sym (finds_stay catalog events e c ss all)) r.sees;
  scans = λ span is. r.scans span (sym (scanned_stays catalog events e c ss span all) ∙ is);
  writes = r.writes ∙ ap (λ fs. written_on_found under fs r.run.statements nothing_found []) (sym (finds_stay catalog events e c ss all));
}

---- the catalog with which statements were accepted

-- it stays so, and was so
pub under_stays : (catalog : List Table) (events : List Event) (e : Event) (c : ℕ) (under : List Table) (ss : List Executed) → AllByRecursion (IsAnswered catalog events c) ss → AreUnder catalog events under ss → AreUnder catalog (events ++ e ∷ []) under ss
under_stays catalog events e c under [] all h = tt
under_stays catalog events e c under (s ∷ ss) all h = (ap (catalog_after catalog) (before_same s events e all.0.accepted) ∙ h.0, under_stays catalog events e c under ss all.1 h.1)

pub under_was : (catalog : List Table) (events : List Event) (e : Event) (c : ℕ) (under : List Table) (ss : List Executed) → AllByRecursion (IsAnswered catalog events c) ss → AreUnder catalog (events ++ e ∷ []) under ss → AreUnder catalog events under ss
under_was catalog events e c under [] all h = tt
under_was catalog events e c under (s ∷ ss) all h = (sym (ap (catalog_after catalog) (before_same s events e all.0.accepted)) ∙ h.0, under_was catalog events e c under ss all.1 h.1)

pub runs_under_stay : (catalog : List Table) (events : List Event) (e : Event) (c : ℕ) (ss : List Executed) → AllByRecursion (IsAnswered catalog events c) ss → RunsUnder catalog events c ss → RunsUnder catalog (events ++ e ∷ []) c ss
runs_under_stay catalog events e c ss all r = (r.0, under_stays catalog events e c r.0 ss all r.1, run_stays catalog r.0 events e c ss all r.2)

-- there is only one, where there is a statement
pub keys_one : (catalog : List Table) (events : List Event) (c : ℕ) (ss : List Executed) (statements : List (Option Statement)) (one other : List Table) → AreUnder catalog events one ss → AreUnder catalog events other ss → keys_of one events c ss statements ≡ keys_of other events c ss statements
keys_one catalog events c [] statements one other h g = refl
keys_one catalog events c (s ∷ ss) statements one other h g = ap (λ (ts : List Table). keys_of ts events c (s ∷ ss) statements) (sym h.0 ∙ g.0)

---- each transaction of a client

-- What is so of the statements of each transaction stays so with one statement more, which is of the open one or of none.
pub each_more : (P : List Executed → Type 0) (events : List Event) (c : ℕ) (past : List Executed) (z : Executed) → ArePaired false past → P [] → ((n : ℕ) → P (running_of events c n past)) → (open_after past ≡ true → is_running events c z ≡ true → P (running_of events c (begun_in past) past ++ z ∷ [])) → (n : ℕ) → P (running_of events c n (past ++ z ∷ []))
each_more P events c past z pairs none all last n = by (from_begin n past) refl
  where
    here : (b : Executed) (r : List Executed) → from_begin n past ≡ b ∷ r → (t : Bool) → is_running events c z ≡ t → AllByRecursion (λ s. ends s ≡ false) r ⊎ ((y : Executed) → take_while goes_on (r ++ y ∷ []) ≡ take_while goes_on r) → P (running events c (r ++ z ∷ []))
    here b r e false f h = subst P (sym (running_same events c r z f)) (subst (λ x. P (running events c (rest_of x))) e (all n))
    here b r e true f (inr h) = subst P (sym (ap (λ xs. filter is_answered (filter (takes_part events c) xs)) (h z))) (subst (λ x. P (running events c (rest_of x))) e (all n))
    here b r e true f (inl open_still) =
        let only = open_only n past false b r pairs e open_still in
        let is : running_of events c (begun_in past) past ≡ running events c r = ap (λ i. running_of events c i past) (sym only.0) ∙ ap (λ x. running events c (rest_of x)) e in
        subst P (sym (running_more events c r z open_still ∙ ap (λ t. running events c r ++ (if t then z ∷ [] else [])) f)) (subst (λ xs. P (xs ++ z ∷ [])) is (last only.1 f))

    by : (r : List Executed) → from_begin n past ≡ r → P (running_of events c n (past ++ z ∷ []))
    by [] e = subst (λ x. P (running events c x)) (sym (since_none n past z e)) none
    by (b ∷ r) e = subst (λ x. P (running events c (rest_of x))) (sym (since_more n past z b r e)) (here b r e (is_running events c z) refl (opens r))
