-- Each COMMIT of an execution prepares what the statements of its transaction wrote.
use Rattle.std.proofs.Common.{◌≡◌, ℕ, Bool, true, false, List, [], ◌∷◌, ◌++◌, Option, Some, None, IfSome, refl, sym, ap, subst, ◌∙◌}
use Rattle.std.specs.Prelude.{Contains, filter, find, if◌then◌else◌, is_some, take_while}
use Rattle.std.specs.List.{AllByRecursion}
use Rattle.std.specs.Option.{option_and_then}
use Rattle.std.proofs.lemmas.List.{append-nil}
use Rattle.std.proofs.lemmas.List.Elements.{All-contains_itself, recursion_from_All}
use Rattle.law_runs.specs.Types.{Doing, Event, Script, Table, TxId}
use Rattle.sdb_types.proofs.Public.{clash, none_some, some_is}
use Rattle.sdb_model.specs.Calls.{calls_of}
use Rattle.sdb_model.specs.Sql.{reads_commit}
use Rattle.sdb_model.specs.Transactions.{Executed, client_of, commit_of, ends, from_begin, id_of, ordinal_of, rest_of, statements_by}
use Rattle.sdb_model.proofs.Public.{id_again}
use Rattle.sdb_exec.specs.Plans.{Planned}
use Rattle.sdb_txn.specs.declared.txn.Doing.TheVariants as doing
use Rattle.sdb_txn.specs.Txn.{TxnAt}
use Rattle.sdb_vacuum.specs.Vacuum.{VacuumAt}
use Rattle.sdb_client.specs.Client.{ClientAt}
use Rattle.law_clients.specs.History.{waiting_of}
use Rattle.law_answers.specs.Invariant.{IsDoing, IsOpenAs, IsWaiting, Knows, DoingByHistory, ClientByHistory, begun_in}
use Rattle.law_answers.specs.Rolled.{AnsweredWereSeen}
use Rattle.law_answers.proofs.Public.{each_middle, since_all, take_ends, take_open}
use Rattle.sdb_client.specs.Execution.{IsExecution, IsPlayable}
use Rattle.law_runs.specs.Found.{AreUnder, answered_inside, is_answered, takes_part}
use Rattle.law_runs.specs.Written.{CommitsPrepareWritten, DecisionsFollowPoints, PreparesAll, PreparesAreAsMany, groups_of_keys, keys_of}
use Rattle.law_runs.specs.World.{WorldAt, states_of}
use Rattle.law_runs.proofs.OngoingReads.{NothingMore}
use Rattle.law_runs.proofs.AfterPoints.{as_many, follows_point}
use Rattle.law_runs.proofs.Belonging.{execution_belongs}
use Rattle.law_runs.proofs.FoundRuns.{all_run, execution_runs, wait_so}
use Rattle.law_runs.proofs.FoundSteps.{SeesIn, SeesRun, answered_of_is}
use Rattle.law_runs.proofs.OwnPrepares.{execution_own}
use Rattle.law_runs.proofs.Preparing.{key_groups}
use Rattle.law_runs.proofs.PreparingCalls.{DoingPrepares, TxnPrepares, WaitPrepares, prepares_kept}
use Rattle.law_runs.proofs.Running.{goes_on, keys_one, running, running_of}
use Rattle.law_runs.proofs.Statements.{AllSo, statements_so}
use Rattle.law_runs.proofs.Steps.{execution_holds}
use Rattle.law_runs.proofs.WroteCommits.{CommitWrote, CommitsWrote, LastWrote, commits_more}

---- the COMMIT among the statements of its transaction

-- the statement that ends a transaction, among those after its BEGIN
record IsEnd (ss : List Executed) (s : Executed) : Type 0 where
  body : List Executed
  tail : List Executed
  whole : ss ≡ body ++ s ∷ tail
  opens : AllByRecursion (λ x. ends x ≡ false) body
  over : ends s ≡ true

end_found : (ss : List Executed) (s : Executed) → find ends ss ≡ Some s → IsEnd ss s
end_found [] s e = none_some s e
end_found (x ∷ xs) s e = by (ends x) refl (λ h. end_found xs s h) e
  where
    by : (b : Bool) → ends x ≡ b → (find ends xs ≡ Some s → IsEnd xs s) → (if b then Some x else find ends xs) ≡ Some s → IsEnd (x ∷ xs) s
    by true t ih h = let same : x ≡ s = some_is x s h in record { body = []; tail = xs; whole = ap (λ (y : Executed). y ∷ xs) same; opens = tt; over = ap ends (sym same) ∙ t }
    by false f ih h = let r = ih h in record { body = x ∷ r.body; tail = r.tail; whole = ap (λ ys. x ∷ ys) r.whole; opens = (f, r.opens); over = r.over }

commit_is : (o : Option Executed) (s : Executed) → option_and_then (λ (x : Executed). if reads_commit x.text then Some x else None) o ≡ Some s → (o ≡ Some s) × (reads_commit s.text ≡ true)
commit_is None s h = none_some s h
commit_is (Some x) s h = test (reads_commit x.text) refl h
  where
    test : (t : Bool) → reads_commit x.text ≡ t → (if t then Some x else None) ≡ Some s → (Some x ≡ Some s) × (reads_commit s.text ≡ true)
    test true t z = (z, ap (λ (y : Executed). reads_commit y.text) (sym (some_is x s z)) ∙ t)
    test false t z = none_some s z

-- those that run are those before it
pub running_ended : (events : List Event) (c : ℕ) (body : List Executed) (s : Executed) (tail : List Executed) → AllByRecursion (λ x. ends x ≡ false) body → ends s ≡ true → running events c (body ++ s ∷ tail) ≡ running events c body
running_ended events c body s tail opens over =
    ap (λ xs. filter is_answered (filter (takes_part events c) xs)) (take_open body (s ∷ tail) opens ∙ ap (λ xs. body ++ xs) (take_ends s tail over) ∙ sym (take_open body [] opens) ∙ ap (take_while goes_on) (append-nil body))

module _ (script : Script) (events : List Event) (playable : IsPlayable script) (x : IsExecution script events) where
  abbrev catalog : List Table
  catalog = script.catalog

  abbrev w : WorldAt
  w = record { script = script; client_slots = x.last.client_slots; flights = x.last.flights; events = events; clock = x.last.clock }

  prepared : AllSo NothingMore WaitPrepares w
  prepared = statements_so NothingMore WaitPrepares prepares_kept script events playable x

  module _ (c : ℕ) where
    abbrev h : ClientAt
    h = (states_of x.last.client_slots c).client

    abbrev k : Knows catalog events c h
    k = (execution_holds script events playable x).caused.each c

    abbrev Wrote : Executed → ℕ → Type 0
    Wrote y n = CommitWrote catalog events c (running_of events c n k.entries) (id_of c n) (calls_of events c y)

    -- the COMMIT that waits has prepared what was written
    waiting_wrote : (y : Executed) → k.waiting ≡ Some y → IsWaiting catalog events c (is_some h.vacuum) y → LastWrote catalog events c k.entries y
    waiting_wrote y waiting waits reads opened = by_vacuum h.vacuum (subst (λ (o : Option Executed). ClientByHistory events c h.begun k.entries o h.plan h.txn h.vacuum) waiting k.agrees)
      where
        so : TxnPrepares h.txn (calls_of events c y)
        so = wait_so w WaitPrepares prepared c h refl k y waiting waits

        under : List Table
        under = (all_run script events playable x c).under

        sees : IfSome h.txn (SeesRun catalog under events c (running_of events c h.begun k.entries))
        sees = subst (λ ss. IfSome h.txn (SeesRun catalog under events c (running_of events c h.begun ss))) (answered_of_is catalog events c h k) (all_run script events playable x c).runs.sees

        by_doing : (t : TxnAt) (p : Option Planned) (d : Doing) → IsOpenAs c h.begun k.entries t → IsDoing events c t p (Some y) d → DoingPrepares d (calls_of events c y) → AreUnder catalog events under (running_of events c h.begun k.entries) → SeesIn under events c (running_of events c h.begun k.entries) t.seen d → Wrote y (begun_in k.entries)
        by_doing t p doing.Idle o i n a s = absurd (none_is (sym i))
          where
            none_is : ◌≡◌ {A = Option Executed} None (Some y) → ⊥
            none_is e = cc
        by_doing t None (doing.Read b z) o i n a s = absurd i
        by_doing t (Some p) (doing.Read b z) o i n a s = clash (sym reads ∙ i.inner.commit)
        by_doing t p (doing.Commit z) o i n a s =
            subst (Wrote y) k.begun
            (λ other accepted statements read. subst (λ ks. PreparesAll (groups_of_keys ks) (id_of c h.begun) (calls_of events c y)) (s statements read ∙ keys_one catalog events c (running_of events c h.begun k.entries) statements under other a accepted) (subst (λ (id : TxId). PreparesAll (key_groups z.work) id (calls_of events c y)) (i.same ∙ o.id) n.sofar))
        by_doing t p doing.Over o i n a s = absurd i

        by_txn : (o : Option TxnAt) → DoingByHistory events c h.begun k.entries (Some y) h.plan o → TxnPrepares o (calls_of events c y) → IfSome o (SeesRun catalog under events c (running_of events c h.begun k.entries)) → Wrote y (begun_in k.entries)
        by_txn None s n v = clash (sym opened ∙ s.1)
        by_txn (Some t) s n v = by_doing t h.plan t.doing s.1 s.2 n v.0 v.1

        by_vacuum : (v : Option VacuumAt) → ClientByHistory events c h.begun k.entries (Some y) h.plan h.txn v → Wrote y (begun_in k.entries)
        by_vacuum None s = by_txn h.txn s so sees
        by_vacuum (Some v) s = clash (sym opened ∙ s.1)

    -- and so have all
    all_wrote : CommitsWrote catalog events c (statements_by c events)
    all_wrote = subst (CommitsWrote catalog events c) (sym k.same) (by k.waiting refl k.waits)
      where
        before : CommitsWrote catalog events c k.entries
        before = subst (CommitsWrote catalog events c) (answered_of_is catalog events c h k) (all_run script events playable x c).runs.commits

        by : (o : Option Executed) → k.waiting ≡ o → IfSome o (IsWaiting catalog events c (is_some h.vacuum)) → CommitsWrote catalog events c (k.entries ++ waiting_of o)
        by None e v = subst (CommitsWrote catalog events c) (sym (append-nil k.entries)) before
        by (Some y) e v = commits_more catalog events c k.entries y k.counted.paired before (waiting_wrote y e v)

  -- it is one of its client's statements
  commit_said : (id : TxId) (s : Executed) → commit_of events id ≡ Some s → Contains (statements_by (client_of id) events) s
  commit_said id s e = by (from_begin (ordinal_of id) (statements_by (client_of id) events)) refl (commit_is (find ends (rest_of (from_begin (ordinal_of id) (statements_by (client_of id) events)))) s e)
    where
      itself : AllByRecursion (Contains (statements_by (client_of id) events)) (statements_by (client_of id) events)
      itself = recursion_from_All (Contains (statements_by (client_of id) events)) (statements_by (client_of id) events) (All-contains_itself (statements_by (client_of id) events))

      by : (r : List Executed) → from_begin (ordinal_of id) (statements_by (client_of id) events) ≡ r → (find ends (rest_of (from_begin (ordinal_of id) (statements_by (client_of id) events))) ≡ Some s) × (reads_commit s.text ≡ true) → Contains (statements_by (client_of id) events) s
      by [] from z = none_some s (sym (ap (λ ss. find ends (rest_of ss)) from) ∙ z.0)
      by (b ∷ rest) from z =
          let f = end_found rest s (sym (ap (λ ss. find ends (rest_of ss)) from) ∙ z.0) in
          each_middle (Contains (statements_by (client_of id) events)) f.body f.tail s (subst (AllByRecursion (Contains (statements_by (client_of id) events))) f.whole (since_all (Contains (statements_by (client_of id) events)) (ordinal_of id) (statements_by (client_of id) events) b rest itself from))

  -- by the COMMIT of a transaction
  commit_wrote : (id : TxId) (s : Executed) → commit_of events id ≡ Some s → CommitWrote catalog events (client_of id) (answered_inside events id) id (calls_of events (client_of id) s)
  commit_wrote id s e = by (from_begin (ordinal_of id) (statements_by (client_of id) events)) refl (commit_is (find ends (rest_of (from_begin (ordinal_of id) (statements_by (client_of id) events)))) s e)
    where
      by : (r : List Executed) → from_begin (ordinal_of id) (statements_by (client_of id) events) ≡ r → (find ends (rest_of (from_begin (ordinal_of id) (statements_by (client_of id) events))) ≡ Some s) × (reads_commit s.text ≡ true) → CommitWrote catalog events (client_of id) (answered_inside events id) id (calls_of events (client_of id) s)
      by [] from z = none_some s (sym (ap (λ ss. find ends (rest_of ss)) from) ∙ z.0)
      by (b ∷ rest) from z =
          let f = end_found rest s (sym (ap (λ ss. find ends (rest_of ss)) from) ∙ z.0) in
          let ran : running events (client_of id) f.body ≡ answered_inside events id =
          sym (ap (λ ss. running events (client_of id) (rest_of ss)) from ∙ ap (running events (client_of id)) f.whole ∙ running_ended events (client_of id) f.body s f.tail f.opens f.over) in
          subst (λ ss. CommitWrote catalog events (client_of id) ss id (calls_of events (client_of id) s)) ran
          (subst (λ i. CommitWrote catalog events (client_of id) (running events (client_of id) f.body) i (calls_of events (client_of id) s)) (id_again id)
          (all_wrote (client_of id) (ordinal_of id) f.body s (record { begin = b; tail = f.tail; since = from ∙ ap (λ ss. b ∷ ss) f.whole; opens = f.opens; commits = z.1 })))

  -- Each COMMIT prepares what was written.
  pub execution_wrote : CommitsPrepareWritten catalog events
  execution_wrote client s id z =
      subst (λ c. PreparesAll (groups_of_keys (keys_of z.under events c (answered_inside events id) z.statements)) id (calls_of events c s)) z.commit.0
      (commit_wrote id s z.commit.1 z.under z.accepted z.statements z.run)

  ---- one that decides

  -- Each COMMIT that decides prepares as many groups, and puts as many records, as were written.
  pub execution_many : PreparesAreAsMany catalog events
  execution_many client s id m z d =
      let h = execution_wrote client s id z in
      as_many (keys_of z.under events client (answered_inside events id) z.statements) id (calls_of events client s) m h (h.decided m d.call d.puts)

  -- Each COMMIT decides after its point.
  pub execution_points : AnsweredWereSeen events → DecisionsFollowPoints events
  execution_points seen client s id m d =
      let run = execution_runs script events playable x id in
      follows_point events (execution_own script events playable x) (execution_belongs script events playable x) seen client s id m d (subst (λ c. Contains (statements_by c events) s) d.commit.0 (commit_said id s d.commit.1)) (groups_of_keys (keys_of run.0 events client (answered_inside events id) run.2.statements))
      (execution_wrote client s id (record { commit = d.commit; under = run.0; accepted = run.1; statements = run.2.statements; run = run.2.run }))
