-- A record that a statement of an open transaction read, and whose row doesn't fit its table, stays one, as statements and events come.
use Rattle.std.proofs.Common.{◌≡◌, ◌≤◌, ◌<◌, ◌^◌, ◌+◌, ◌⊎◌, inl, inr, ℕ, true, false, List, [], ◌∷◌, ◌++◌, length, Option, Some, None, refl, sym, ap, subst, ◌∙◌, arith}
use Rattle.std.specs.Prelude.{IfSome, Contains, is_some}
use Rattle.std.specs.List.{AllByRecursion}
use Rattle.std.specs.Option.{option_map_or}
use Rattle.std.proofs.lemmas.List.Elements.{Contains-append_left, Contains-append_right, Contains-push}
use Rattle.law_answers.specs.Types.{Answer, Doing, Event, Key, Statement, Table}
use Rattle.sdb_types.proofs.Public.{clash, none_some}
use Rattle.sdb_model.specs.Access.{in_access}
use Rattle.sdb_model.specs.Calls.{calls_of, records_read}
use Rattle.sdb_model.specs.Causes.{MeetsMisfit, before, is_misfit}
use Rattle.sdb_model.specs.Exec.{find_table, named_table}
use Rattle.sdb_model.specs.ReadSet.{has_read, read_finished, reads_rows}
use Rattle.sdb_model.specs.Reads.{access_of}
use Rattle.sdb_model.specs.Sql.{Reads}
use Rattle.sdb_model.specs.Transactions.{Executed, client_of, ends, from_begin, id_of, ordinal_of, rest_of, statements_by, through_end}
use Rattle.sdb_snapshot.specs.Seen.{Seen, nothing}
use Rattle.sdb_txn.specs.declared.txn.Doing.TheVariants as doing
use Rattle.sdb_txn.specs.Txn.{TxnAt}
use Rattle.law_clients.specs.Fitting.{row_is_well_typed}
use Rattle.law_clients.proofs.Public.{each_more}
use Rattle.law_answers.specs.Invariant.{IsAnswered}
use Rattle.law_answers.specs.Unfit.{IsFitOrReadTxn, SeesFitOrRead, SeesFitOrReadIn, WasMisfit}
use Rattle.law_answers.proofs.Calls.{before_same, calls_stay, read_stays}
use Rattle.sdb_model.specs.Catalogs.{catalog_after}
use Rattle.law_answers.proofs.Lists.{each_in, since_more}
use Rattle.law_answers.proofs.ReadSets.{rest_all, since_all}
use Rattle.law_answers.proofs.Passing.{Grows, all_reached, in_grows, in_last, part_all, taken_before}

---- a transaction that sees what fits, or what was read

-- by what becomes of the records that were read
sees_by : (catalog : List Table) (events later : List Event) (c : ℕ) (body longer : List Executed) (s : Seen) → ((key : Key) → WasMisfit catalog events c body key → WasMisfit catalog later c longer key) → SeesFitOrRead catalog events c body s → SeesFitOrRead catalog later c longer s
sees_by catalog events later c body longer s f sees q cs found = by (sees q cs found)
  where
    by : (row_is_well_typed catalog q cs ≡ true) ⊎ ((is_some (find_table catalog q.table) ≡ true) × WasMisfit catalog events c body q) → (row_is_well_typed catalog q cs ≡ true) ⊎ ((is_some (find_table catalog q.table) ≡ true) × WasMisfit catalog later c longer q)
    by (inl fits) = inl fits
    by (inr m) = inr (m.0, f q m.1)

module _ (catalog : List Table) (events : List Event) (c : ℕ) where
  pub fit_nothing : (body : List Executed) → SeesFitOrRead catalog events c body nothing
  fit_nothing body q cs e = none_some cs e

  -- with one statement more
  misfit_more : (body : List Executed) (s : Executed) (key : Key) → WasMisfit catalog events c body key → WasMisfit catalog events c (body ++ s ∷ []) key
  misfit_more body s key m = record { reader = m.reader; call = m.call; found = m.found; among = Contains-append_left body (s ∷ []) m.reader m.among; finished = m.finished; reads = m.reads; misfit = m.misfit }

  pub fits_more : (body : List Executed) (s : Executed) (v : Seen) → SeesFitOrRead catalog events c body v → SeesFitOrRead catalog events c (body ++ s ∷ []) v
  fits_more body s v sees = sees_by catalog events events c body (body ++ s ∷ []) v (λ key m. misfit_more body s key m) sees

  -- a transaction that does nothing
  pub fits_idle : (n : ℕ) (answered : List Executed) (s begin : Executed) (body : List Executed) (t : TxnAt) → from_begin n answered ≡ begin ∷ body → t.doing ≡ doing.Idle → SeesFitOrRead catalog events c (body ++ s ∷ []) t.seen → IsFitOrReadTxn catalog events c (rest_of (from_begin n (answered ++ s ∷ []))) t
  fits_idle n answered s begin body t since idle h =
      subst (λ r. SeesFitOrReadIn catalog events c (rest_of r) t.seen t.doing) (sym (since_more n answered s begin body since)) (subst (SeesFitOrReadIn catalog events c (body ++ s ∷ []) t.seen) (sym idle) h)

---- one event more

module _ (catalog under : List Table) (events : List Event) (e : Event) (c : ℕ) where
  misfit_still : (body : List Executed) (key : Key) → AllByRecursion (IsAnswered catalog events c) body → WasMisfit under events c body key → WasMisfit under (events ++ e ∷ []) c body key
  misfit_still body key all m =
      let k : IsAnswered catalog events c m.reader = each_in (IsAnswered catalog events c) body m.reader all m.among in
      let calls : calls_of (events ++ e ∷ []) c m.reader ≡ calls_of events c m.reader = calls_stay c events e m.reader k.given k.is k.answered in
      record {
        reader = m.reader;
        call = m.call;
        found = m.found;
        among = m.among;
        finished = read_stays c events e m.reader k.given k.is k.answered ∙ m.finished;
        reads = subst (λ ms. Contains ms m.call × (reads_rows m.call ≡ true) × Contains (records_read m.call.reply) m.found × (m.found.key ≡ key)) (sym calls) m.reads;
        misfit = ap (λ ms. is_misfit under ms m.found) calls ∙ m.misfit;
      }

  pub fits_still : (body : List Executed) (v : Seen) → AllByRecursion (IsAnswered catalog events c) body → SeesFitOrRead under events c body v → SeesFitOrRead under (events ++ e ∷ []) c body v
  fits_still body v all sees = sees_by under events (events ++ e ∷ []) c body body v (λ key m. misfit_still body key all m) sees

  in_still : (body : List Executed) (v : Seen) (d : Doing) → AllByRecursion (IsAnswered catalog events c) body → SeesFitOrReadIn under events c body v d → SeesFitOrReadIn under (events ++ e ∷ []) c body v d
  in_still body v doing.Idle all h = fits_still body v all h
  in_still body v (doing.Read a x) all h = fits_still body v all h
  in_still body v (doing.Commit k) all h = tt
  in_still body v doing.Over all h = fits_still body v all h

  pub fits_stay : (n : ℕ) (answered : List Executed) (o : Option TxnAt) → AllByRecursion (IsAnswered catalog events c) answered → IfSome o (IsFitOrReadTxn under events c (rest_of (from_begin n answered))) → IfSome o (IsFitOrReadTxn under (events ++ e ∷ []) c (rest_of (from_begin n answered)))
  fits_stay n answered None all h = tt
  fits_stay n answered (Some t) all h = in_still (rest_of (from_begin n answered)) t.seen t.doing (rest_all (IsAnswered catalog events c) n answered all) h

---- the cause of an answer

-- a statement whose read has finished was answered
read_answered : (events : List Event) (c : ℕ) (s : Executed) → has_read events c s ≡ true → (a : Answer) × (s.answer ≡ Some a)
read_answered events c s finished = by s.answer refl finished
  where
    by : (o : Option Answer) → s.answer ≡ o → option_map_or (read_finished (calls_of events c s)) o false ≡ true → (a : Answer) × (s.answer ≡ Some a)
    by None is h = clash (sym h)
    by (Some a) is h = (a, is)

-- One that was answered BadRecord of such a row still met it.
pub meets_stays : (catalog : List Table) (c : ℕ) (events : List Event) (e : Event) (s : Executed) (a : Answer) (key : Key) → Grows (statements_by c events) (statements_by c (events ++ e ∷ [])) → s.answer ≡ Some a → s.accepted ≤ length events → MeetsMisfit catalog events c s key → MeetsMisfit catalog (events ++ e ∷ []) c s key
meets_stays catalog c events e s a key grows is low h = record {
  id = h.id;
  statement = h.statement;
  table = h.table;
  reader = h.reader;
  call = h.call;
  found = h.found;
  within = (
    (h.within.0.0, in_grows (ordinal_of h.id) (statements_by (client_of h.id) events) (statements_by (client_of h.id) (events ++ e ∷ [])) s a is grows_id h.within.0.1),
    (h.within.1.0, in_grows (ordinal_of h.id) (statements_by (client_of h.id) events) (statements_by (client_of h.id) (events ++ e ∷ [])) h.reader given.0 given.1 grows_id h.within.1.1),
    h.within.2,
  );
  over = subst (λ (es : List Event). Reads s.text h.statement × (named_table (catalog_after catalog es) h.statement ≡ Some h.table) × (in_access (access_of h.table h.statement) key ≡ true)) (sym (before_same s events e low)) h.over;
  finished = read_stays c events e h.reader given.0 given.1 reached ∙ h.finished;
  reads = subst (λ ms. Contains ms h.call × (reads_rows h.call ≡ true) × Contains (records_read h.call.reply) h.found × (h.found.key ≡ key)) (sym calls) h.reads;
  misfit = ap (λ (es : List Event). is_misfit (catalog_after catalog es) (calls_of (events ++ e ∷ []) c h.reader) h.found) (before_same s events e low) ∙ ap (λ ms. is_misfit (catalog_after catalog (before s events)) ms h.found) calls ∙ h.misfit;
}
  where
    grows_id : Grows (statements_by (client_of h.id) events) (statements_by (client_of h.id) (events ++ e ∷ []))
    grows_id = subst (λ d. Grows (statements_by d events) (statements_by d (events ++ e ∷ []))) (sym h.within.0.0) grows

    given : (b : Answer) × (h.reader.answer ≡ Some b)
    given = read_answered events c h.reader h.finished

    within : (k n : ℕ) → k < 1 + n → k ≤ n
    within k n l = omega arith

    reached : h.reader.reached ≤ length events
    reached =
        within h.reader.reached (length events)
        (each_in (λ (b : Executed). b.reached < 1 + length events) (through_end (rest_of (from_begin (ordinal_of h.id) (statements_by (client_of h.id) events)))) h.reader
        (part_all (λ (b : Executed). b.reached < 1 + length events) (ordinal_of h.id) (statements_by (client_of h.id) events) (all_reached (client_of h.id) events)) h.within.1.1)

    calls : calls_of (events ++ e ∷ []) c h.reader ≡ calls_of events c h.reader
    calls = calls_stay c events e h.reader given.0 given.1 reached

-- The last statement of a client meets a row that doesn't fit where it reads at its key, and it or one before it of its open transaction
-- read the row.
pub meets_now : (catalog under : List Table) (c n : ℕ) (events : List Event) (answered : List Executed) (begin s : Executed) (body : List Executed) (st : Statement) (table : Table) (key : Key) → catalog_after catalog (before s events) ≡ under → n < 2 ^ 64 → statements_by c events ≡ answered ++ s ∷ [] → from_begin n answered ≡ begin ∷ body → AllByRecursion (λ x. ends x ≡ false) body
    → Reads s.text st → named_table under st ≡ Some table → in_access (access_of table st) key ≡ true → WasMisfit under events c (body ++ s ∷ []) key → MeetsMisfit catalog events c s key
meets_now catalog under c n events answered begin s body st table key asked small same since goes_on reads named inside m = record {
  id = id_of c n;
  statement = st;
  table = table;
  reader = m.reader;
  call = m.call;
  found = m.found;
  within = (
    in_last c n events answered begin s body small same since goes_on s (Contains-append_right body (s ∷ []) s (Contains-push [] s)),
    in_last c n events answered begin s body small same since goes_on m.reader m.among,
    each_in (λ (b : Executed). b.accepted ≤ s.accepted) (body ++ s ∷ []) m.reader (each_more (λ (b : Executed). b.accepted ≤ s.accepted) body s (below body (since_all (λ (b : Executed). b.accepted < s.accepted) n answered begin body (taken_before c events answered s same) since)) (itself s.accepted)) m.among,
  );
  over = (reads, ap (λ (ts : List Table). named_table ts st) asked ∙ named, inside);
  finished = m.finished;
  reads = m.reads;
  misfit = ap (λ (ts : List Table). is_misfit ts (calls_of events c m.reader) m.found) asked ∙ m.misfit;
}
  where
    itself : (k : ℕ) → k ≤ k
    itself k = omega arith

    lower : (k : ℕ) → k < s.accepted → k ≤ s.accepted
    lower k l = omega arith

    below : (ss : List Executed) → AllByRecursion (λ (b : Executed). b.accepted < s.accepted) ss → AllByRecursion (λ (b : Executed). b.accepted ≤ s.accepted) ss
    below [] all = tt
    below (x ∷ xs) all = (lower x.accepted all.0, below xs all.1)
