-- What the transactions of a client ran on what they found, as it takes statements and replies.
use Rattle.std.proofs.Common.{◌≡◌, ◌⊎◌, inl, inr, ℕ, Bool, true, false, not, List, [], ◌∷◌, ◌++◌, Option, Some, None, IfSome, refl, sym, ap, subst, ◌∙◌}
use Rattle.std.specs.Prelude.{◌&&◌, ◌||◌, if◌then◌else◌, filter, is_some}
use Rattle.std.specs.List.{AllByRecursion}
use Rattle.std.proofs.lemmas.List.{append-nil}
use Rattle.std.proofs.lemmas.List.Elements.{filter-append}
use Rattle.sdb_types.proofs.Public.{all_last, clash, none_some, or_false}
use Rattle.law_runs.specs.Types.{Access, Answer, Doing, Event, PlanStep, Statement, Table, Write}
use Rattle.sdb_model.specs.Calls.{StoreCall, calls_of}
use Rattle.sdb_model.specs.Catalogs.{catalog_after}
use Rattle.sdb_model.specs.Causes.{before}
use Rattle.sdb_model.specs.Sql.{Reads, reads_commit}
use Rattle.sdb_model.specs.ReadSet.{has_read}
use Rattle.sdb_model.specs.Transactions.{Executed, changes_nothing, ends, from_begin, is_effective, rest_of, statements_by}
use Rattle.sdb_exec.specs.declared.plan.PlanStep.TheVariants.{Finished, Read as Wants}
use Rattle.sdb_exec.specs.Plans.{Planned}
use Rattle.sdb_snapshot.specs.Seen.{Seen}
use Rattle.sdb_txn.specs.declared.txn.Doing.TheVariants as doing
use Rattle.sdb_txn.specs.Txn.{TxnAt}
use Rattle.sdb_client.specs.Client.{ClientAt, given_answer, given_left, gives, holding, written}
use Rattle.law_clients.specs.History.{waiting_of}
use Rattle.law_answers.specs.Invariant.{IsAnswered, IsOpenAs, IsWaiting, Knows, DoingByHistory, ClientByHistory, begun_in, open_after}
use Rattle.law_answers.proofs.Public.{effective_by, since_more, since_none}
use Rattle.sdb_vacuum.specs.Vacuum.{VacuumAt}
use Rattle.law_runs.specs.Found.{AllRunAs, AreUnder, RunsUnder, found_by, is_answered, nothing_found, scans_span, takes_part, was_scanned, with_found}
use Rattle.law_runs.specs.Written.{keys_of, written_on_found}
use Rattle.law_runs.proofs.FoundGiven.{IsPlannedOn, given_runs, given_takes}
use Rattle.law_runs.proofs.Running.{HoldsScans, RunsTo, each_more, each_running, finds_stay, goes_on, is_running, none_run, running, running_more, running_of, running_of_stays, running_same, runs_kept, runs_stay, runs_under_stay, scanned_more, under_stays, view_after}
use Rattle.law_runs.proofs.Views.{IsViewOf}
use Rattle.law_runs.proofs.Writing.{run_once, write_keys}
use Rattle.law_runs.proofs.WroteCommits.{CommitsWrote, LastWrote, commits_more, commits_still}

---- a client

-- its statements that were answered
abbrev pub answered_of : ℕ → List Event → List Executed
answered_of c events = filter is_answered (statements_by c events)

-- writes are of the keys that statements wrote
abbrev pub WroteAs : List Table → List Event → ℕ → List Executed → List Write → Type 0
WroteAs catalog events c ss ws = (statements : List (Option Statement)) → AllRunAs ss statements → write_keys ws ≡ keys_of catalog events c ss statements

-- An open transaction has what its statements left, until its COMMIT is accepted, which then writes what they wrote.
abbrev pub SeesIn : List Table → List Event → ℕ → List Executed → Seen → Doing → Type 0
SeesIn catalog events c ss s (doing.Commit k) = WroteAs catalog events c ss k.work.writes
SeesIn catalog events c ss s d = RunsTo catalog events c ss s

-- All of them were accepted under the catalog with which it runs.
abbrev pub SeesRun : List Table → List Table → List Event → ℕ → List Executed → TxnAt → Type 0
SeesRun catalog under events c ss t = AreUnder catalog events under ss × SeesIn under events c ss t.seen t.doing

-- Each transaction of a client ran on what it found, its open one has what that left, under its catalog, and each COMMIT prepares what its
-- statements wrote.
pub record ClientRuns (catalog under : List Table) (events : List Event) (c : ℕ) (h : ClientAt) : Type 0 where
  pub ran : (n : ℕ) → RunsUnder catalog events c (running_of events c n (answered_of c events))
  pub sees : IfSome h.txn (SeesRun catalog under events c (running_of events c h.begun (answered_of c events)))
  pub commits : CommitsWrote catalog events c (answered_of c events)

pub runs_wrote : (catalog : List Table) (events : List Event) (c : ℕ) (ss : List Executed) (s : Seen) → RunsTo catalog events c ss s → WroteAs catalog events c ss s.writes
runs_wrote catalog events c ss s r statements read = r.writes ∙ ap (keys_of catalog events c ss) (run_once ss r.run.statements statements r.run.run read)

wrote_stays : (catalog under : List Table) (events : List Event) (e : Event) (c : ℕ) (ss : List Executed) (ws : List Write) → AllByRecursion (IsAnswered catalog events c) ss → WroteAs under events c ss ws → WroteAs under (events ++ e ∷ []) c ss ws
wrote_stays catalog under events e c ss ws all h statements read = h statements read ∙ ap (λ fs. written_on_found under fs statements nothing_found []) (sym (finds_stay catalog events e c ss all))

---- what it was past

pub all_answered : (catalog : List Table) (events : List Event) (c : ℕ) (past : List Executed) → AllByRecursion (IsAnswered catalog events c) past → filter is_answered past ≡ past
all_answered catalog events c [] all = refl
all_answered catalog events c (s ∷ ss) all = ap (λ (o : Option Answer). if is_some o then s ∷ filter is_answered ss else filter is_answered ss) all.0.is ∙ ap (λ xs. s ∷ xs) (all_answered catalog events c ss all.1)

pub answered_of_is : (catalog : List Table) (events : List Event) (c : ℕ) (h : ClientAt) (k : Knows catalog events c h) → answered_of c events ≡ k.entries
answered_of_is catalog events c h k = ap (filter is_answered) k.same ∙ filter-append is_answered k.entries (waiting_of k.waiting) ∙ ap (λ xs. xs ++ filter is_answered (waiting_of k.waiting)) (all_answered catalog events c k.entries k.answered) ∙ by k.waiting k.waits ∙ append-nil k.entries
  where
    by : (o : Option Executed) → IfSome o (IsWaiting catalog events c (is_some h.vacuum)) → k.entries ++ filter is_answered (waiting_of o) ≡ k.entries ++ []
    by None h = refl
    by (Some w) x = ap (λ (o : Option Answer). k.entries ++ (if is_some o then w ∷ [] else [])) x.unanswered

-- the transaction that a statement leaves does nothing
left_idle : (v : TxnAt) (x : PlanStep) → v.doing ≡ doing.Idle → (given_left v x).doing ≡ doing.Idle
left_idle v (Finished b ks) h = by (changes_nothing (given_answer v (Finished b ks)))
  where
    by : (t : Bool) → (if t then v else written v ks).doing ≡ doing.Idle
    by true = h
    by false = h
left_idle v (Wants a) h = h

---- statements that don't run

pub ends_stays : (events : List Event) (c : ℕ) (z : Executed) → ends z ≡ true → is_running events c z ≡ false
ends_stays events c z e = ap (λ b. not b && takes_part events c z && is_answered z) e

pub nothing_stays : (events : List Event) (c : ℕ) (z : Executed) (b : Answer) → z.answer ≡ Some b → changes_nothing b ≡ true → has_read events c z ≡ false → is_running events c z ≡ false
nothing_stays events c z b is e unfinished = ap (λ x. goes_on z && (x || has_read events c z) && is_answered z) (effective_by z b true is e) ∙ ap (λ x. goes_on z && x && is_answered z) unfinished ∙ none (goes_on z)
  where
    none : (x : Bool) → (x && false && is_answered z) ≡ false
    none true = refl
    none false = refl

running_of_same : (events : List Event) (c n : ℕ) (past : List Executed) (z : Executed) → is_running events c z ≡ false → running_of events c n (past ++ z ∷ []) ≡ running_of events c n past
running_of_same events c n past z none = by (from_begin n past) refl
  where
    by : (r : List Executed) → from_begin n past ≡ r → running_of events c n (past ++ z ∷ []) ≡ running_of events c n past
    by [] e = ap (running events c) (since_none n past z e) ∙ sym (ap (λ x. running events c (rest_of x)) e)
    by (b ∷ r) e = ap (λ x. running events c (rest_of x)) (since_more n past z b r e) ∙ running_same events c r z none ∙ sym (ap (λ x. running events c (rest_of x)) e)

running_of_more : (events : List Event) (c n : ℕ) (past : List Executed) (z begin : Executed) (body : List Executed) → from_begin n past ≡ begin ∷ body → AllByRecursion (λ s. ends s ≡ false) body → is_running events c z ≡ true → running_of events c n (past ++ z ∷ []) ≡ running_of events c n past ++ z ∷ []
running_of_more events c n past z begin body since opens runs =
    ap (λ x. running events c (rest_of x)) (since_more n past z begin body since) ∙ running_more events c body z opens ∙ ap (λ b. running events c body ++ (if b then z ∷ [] else [])) runs ∙ ap (λ x. running events c (rest_of x) ++ z ∷ []) (sym since)

sees_stay : (catalog under : List Table) (events : List Event) (e : Event) (c : ℕ) (ss : List Executed) (s : Seen) (d : Doing) → AllByRecursion (IsAnswered catalog events c) ss → SeesIn under events c ss s d → SeesIn under (events ++ e ∷ []) c ss s d
sees_stay catalog under events e c ss s doing.Idle all h = runs_stay catalog under events e c ss s all h
sees_stay catalog under events e c ss s (doing.Read a x) all h = runs_stay catalog under events e c ss s all h
sees_stay catalog under events e c ss s (doing.Commit k) all h = wrote_stays catalog under events e c ss k.work.writes all h
sees_stay catalog under events e c ss s doing.Over all h = runs_stay catalog under events e c ss s all h

---- one event more

module _ (catalog under : List Table) (events : List Event) (c : ℕ) (h : ClientAt) (k : Knows catalog events c h) (runs : ClientRuns catalog under events c h) (e : Event) where
  abbrev E : List Event
  E = events ++ e ∷ []

  abbrev answered_same : answered_of c events ≡ k.entries
  answered_same = answered_of_is catalog events c h k

  ran_then : (n : ℕ) → RunsUnder catalog E c (running_of E c n k.entries)
  ran_then n =
      subst (RunsUnder catalog E c) (sym (running_of_stays catalog events e c n k.entries k.answered))
      (runs_under_stay catalog events e c (running_of events c n k.entries) (each_running (IsAnswered catalog events c) events c n k.entries k.answered) (subst (λ ts. RunsUnder catalog events c (running_of events c n ts)) answered_same (runs.ran n)))

  pub sees_then : IfSome h.txn (SeesRun catalog under E c (running_of E c h.begun k.entries))
  sees_then = by h.txn (subst (λ ts. IfSome h.txn (SeesRun catalog under events c (running_of events c h.begun ts))) answered_same runs.sees)
    where
      each : AllByRecursion (IsAnswered catalog events c) (running_of events c h.begun k.entries)
      each = each_running (IsAnswered catalog events c) events c h.begun k.entries k.answered

      by : (o : Option TxnAt) → IfSome o (SeesRun catalog under events c (running_of events c h.begun k.entries)) → IfSome o (SeesRun catalog under E c (running_of E c h.begun k.entries))
      by None x = tt
      by (Some t) x =
          subst (λ ss. SeesRun catalog under E c ss t) (sym (running_of_stays catalog events e c h.begun k.entries k.answered))
          (under_stays catalog events e c under (running_of events c h.begun k.entries) each x.0, sees_stay catalog under events e c (running_of events c h.begun k.entries) t.seen t.doing each x.1)

  -- where no statement is answered
  abbrev Stays : ClientAt → Type 0
  Stays d = IfSome d.txn (SeesRun catalog under E c (running_of E c d.begun k.entries))

  -- the COMMITs that were answered
  wrote_then : CommitsWrote catalog E c k.entries
  wrote_then = commits_still catalog events e c k.entries k.answered (subst (CommitsWrote catalog events c) answered_same runs.commits)

  pub still_runs : (d : ClientAt) → answered_of c E ≡ k.entries → Stays d → ClientRuns catalog under E c d
  still_runs d same sees = record {
    ran = λ n. subst (λ ts. RunsUnder catalog E c (running_of E c n ts)) (sym same) (ran_then n);
    sees = subst (λ ts. IfSome d.txn (SeesRun catalog under E c (running_of E c d.begun ts))) (sym same) sees;
    commits = subst (CommitsWrote catalog E c) (sym same) wrote_then;
  }

  -- where one is
  abbrev pub Follows : Executed → ClientAt → Type 0
  Follows z d = (open_after k.entries ≡ true → is_running E c z ≡ true → RunsUnder catalog E c (running_of E c (begun_in k.entries) k.entries ++ z ∷ [])) × IfSome d.txn (SeesRun catalog under E c (running_of E c d.begun (k.entries ++ z ∷ [])))

  pub next_runs : (z : Executed) (d : ClientAt) → answered_of c E ≡ k.entries ++ z ∷ [] → Follows z d → LastWrote catalog E c k.entries z → ClientRuns catalog under E c d
  next_runs z d same f last = record {
    ran = λ n. subst (λ ts. RunsUnder catalog E c (running_of E c n ts)) (sym same) (each_more (RunsUnder catalog E c) E c k.entries z k.counted.paired (catalog, tt, none_run catalog E c) ran_then f.0 n);
    sees = subst (λ ts. IfSome d.txn (SeesRun catalog under E c (running_of E c d.begun ts))) (sym same) f.1;
    commits = subst (CommitsWrote catalog E c) (sym same) (commits_more catalog E c k.entries z k.counted.paired wrote_then last);
  }

  ---- where its transaction is

  abbrev At : Executed → TxnAt → Type 0
  At z u = SeesRun catalog under E c (running_of E c h.begun (k.entries ++ z ∷ [])) u

  sees_same : (z : Executed) (s : Seen) (u : TxnAt) → is_running E c z ≡ false → u.doing ≡ doing.Idle → u.seen ≡ s → AreUnder catalog E under (running_of E c h.begun k.entries) → RunsTo under E c (running_of E c h.begun k.entries) s → At z u
  sees_same z s u none idle same accepted r =
      subst (λ xs. SeesRun catalog under E c xs u) (sym (running_of_same E c h.begun k.entries z none)) (accepted, subst (SeesIn under E c (running_of E c h.begun k.entries) u.seen) (sym idle) (subst (RunsTo under E c (running_of E c h.begun k.entries)) (sym same) r))

  -- no transaction is open
  pub closed : h.txn ≡ None → open_after k.entries ≡ false
  closed none = by_vacuum h.vacuum k.waiting k.agrees
    where
      by_txn : (o : Option TxnAt) (w : Option Executed) → o ≡ None → DoingByHistory events c h.begun k.entries w h.plan o → open_after k.entries ≡ false
      by_txn None w e s = s.1
      by_txn (Some t) w e s = none_some t (sym e)

      by_vacuum : (v : Option VacuumAt) (w : Option Executed) → ClientByHistory events c h.begun k.entries w h.plan h.txn v → open_after k.entries ≡ false
      by_vacuum None w s = by_txn h.txn w none s
      by_vacuum (Some v) None s = absurd s
      by_vacuum (Some v) (Some x) s = s.1

  -- it changes nothing, or no transaction is open
  pub no_more : (z : Executed) → (is_running E c z ≡ false) ⊎ (h.txn ≡ None) → open_after k.entries ≡ true → is_running E c z ≡ true → RunsUnder catalog E c (running_of E c (begun_in k.entries) k.entries ++ z ∷ [])
  no_more z (inl f) opened t = clash (sym t ∙ f)
  no_more z (inr f) opened t = clash (sym opened ∙ closed f)

  -- and the client is as it was
  pub same_follows : (z : Executed) → (is_running E c z ≡ false) ⊎ (h.txn ≡ None) → Follows z h
  same_follows z none = (no_more z none, by none)
    where
      by_txn : (o : Option TxnAt) → is_running E c z ≡ false → IfSome o (SeesRun catalog under E c (running_of E c h.begun k.entries)) → IfSome o (At z)
      by_txn None f x = tt
      by_txn (Some t) f x = subst (λ xs. SeesRun catalog under E c xs t) (sym (running_of_same E c h.begun k.entries z f)) x

      by : (is_running E c z ≡ false) ⊎ (h.txn ≡ None) → IfSome h.txn (At z)
      by (inl f) = by_txn h.txn f sees_then
      by (inr f) = subst (λ (o : Option TxnAt). IfSome o (At z)) (sym f) tt

  -- or has none open
  pub ended_follows : (z : Executed) (d : ClientAt) → (is_running E c z ≡ false) ⊎ (h.txn ≡ None) → d.txn ≡ None → Follows z d
  ended_follows z d none f = (no_more z none, subst (λ (o : Option TxnAt). IfSome o (SeesRun catalog under E c (running_of E c d.begun (k.entries ++ z ∷ [])))) (sym f) tt)

  module _ (t : TxnAt) (some : h.txn ≡ Some t) (free : h.vacuum ≡ None) where
    opened : IsOpenAs c h.begun k.entries t
    opened = (subst (DoingByHistory events c h.begun k.entries k.waiting h.plan) some (subst (ClientByHistory events c h.begun k.entries k.waiting h.plan h.txn) free k.agrees)).1

    pub sees_open : SeesRun catalog under E c (running_of E c h.begun k.entries) t
    sees_open = subst (λ (o : Option TxnAt). IfSome o (SeesRun catalog under E c (running_of E c h.begun k.entries))) some sees_then

    -- it is answered that nothing was changed
    pub held_follows : (z : Executed) (u : TxnAt) → is_running E c z ≡ false → u.doing ≡ doing.Idle → u.seen ≡ t.seen → RunsTo under E c (running_of E c h.begun k.entries) t.seen → Follows z (holding h u)
    held_follows z u none idle same r = (no_more z (inl none), sees_same z t.seen u none idle same sees_open.0 r)

    -- with a statement more that was accepted under its catalog
    under_more : (z : Executed) → catalog_after catalog (before z E) ≡ under → AreUnder catalog E under (running_of E c h.begun k.entries ++ z ∷ [])
    under_more z accepted = all_last (λ s. catalog_after catalog (before s E) ≡ under) (running_of E c h.begun k.entries) z sees_open.0 accepted

    abbrev Runs : Executed → Seen → Type 0
    Runs z s = RunsTo under E c (running_of E c h.begun k.entries ++ z ∷ []) s

    more_follows : (z : Executed) (u : TxnAt) → is_running E c z ≡ true → catalog_after catalog (before z E) ≡ under → u.doing ≡ doing.Idle → Runs z u.seen → Follows z (holding h u)
    more_follows z u takes accepted idle more = (
      λ opened_now runs_now. subst (λ n. RunsUnder catalog E c (running_of E c n k.entries ++ z ∷ [])) k.begun (under, under_more z accepted, more.run),
      subst (λ xs. SeesRun catalog under E c xs u) (sym (running_of_more E c h.begun k.entries z opened.begin opened.body opened.since opened.goes_on takes))
          (under_more z accepted, subst (SeesIn under E c (running_of E c h.begun k.entries ++ z ∷ []) u.seen) (sym idle) more),
    )

    -- it is answered that nothing was changed, and what it found stays
    pub kept_follows : (z : Executed) (u : TxnAt) → is_running E c z ≡ true → catalog_after catalog (before z E) ≡ under → is_effective z ≡ false → u.doing ≡ doing.Idle → (r : RunsTo under E c (running_of E c h.begun k.entries) t.seen)
        → IsViewOf under (with_found under (view_after under E c (running_of E c h.begun k.entries) r.run) (found_by (calls_of E c z))) u.seen → HoldsScans E c (running_of E c h.begun k.entries ++ z ∷ []) u.seen → write_keys u.seen.writes ≡ write_keys t.seen.writes → Follows z (holding h u)
    kept_follows z u takes accepted nothing idle r now scans same = more_follows z u takes accepted idle (runs_kept under E c (running_of E c h.begun k.entries) z r.run u.seen nothing now scans (same ∙ r.writes))

    -- it is answered so without a call, and the transaction is as it was
    pub turned_open : (z : Executed) (b : Answer) → catalog_after catalog (before z E) ≡ under → z.answer ≡ Some b → changes_nothing b ≡ true → calls_of E c z ≡ [] → t.doing ≡ doing.Idle → Follows z h
    turned_open z b accepted is nothing none idle = by (is_running E c z) refl
      where
        r : RunsTo under E c (running_of E c h.begun k.entries) t.seen
        r = subst (SeesIn under E c (running_of E c h.begun k.entries) t.seen) idle sees_open.1

        scans : HoldsScans E c (running_of E c h.begun k.entries ++ z ∷ []) t.seen
        scans span e = r.scans span (sym (scanned_more E c (running_of E c h.begun k.entries) z span ∙ ap (λ ms. was_scanned E c (running_of E c h.begun k.entries) span || scans_span span ms) none ∙ or_false (was_scanned E c (running_of E c h.begun k.entries) span)) ∙ e)

        by : (x : Bool) → is_running E c z ≡ x → Follows z h
        by false e = same_follows z (inl e)
        by true e =
            let f = kept_follows z t e accepted (effective_by z b true is nothing) idle r (subst (λ (ms : List StoreCall). IsViewOf under (with_found under (view_after under E c (running_of E c h.begun k.entries) r.run) (found_by ms)) t.seen) (sym none) r.sees) scans refl in
            (f.0, subst (λ (o : Option TxnAt). IfSome o (At z)) (sym some) f.1)

    -- it is answered from the rows that are seen
    pub given_follows : (z : Executed) (p : Planned) (a : Access) (v : TxnAt) → catalog_after catalog (before z E) ≡ under → IsPlannedOn under p a → Reads z.text p.statement → reads_commit z.text ≡ false → z.answer ≡ Some (given_answer v (gives p a v)) → has_read E c z ≡ true → (v.doing ≡ doing.Idle) × (v.seen.writes ≡ t.seen.writes)
        → (r : RunsTo under E c (running_of E c h.begun k.entries) t.seen) → IsViewOf under (with_found under (view_after under E c (running_of E c h.begun k.entries) r.run) (found_by (calls_of E c z))) v.seen → HoldsScans E c (running_of E c h.begun k.entries ++ z ∷ []) v.seen → Follows z (holding h (given_left v (gives p a v)))
    given_follows z p a v accepted on reads no_commit answered finished unwritten r now scans = more_follows z (given_left v (gives p a v)) takes accepted (left_idle v (gives p a v) unwritten.0) more
      where
        takes : is_running E c z ≡ true
        takes = given_takes under E c (running_of E c h.begun k.entries) z p a on v reads answered r.run now scans (ap write_keys unwritten.1 ∙ r.writes) no_commit finished

        more : RunsTo under E c (running_of E c h.begun k.entries ++ z ∷ []) (given_left v (gives p a v)).seen
        more = given_runs under E c (running_of E c h.begun k.entries) z p a on v reads answered r.run now scans (ap write_keys unwritten.1 ∙ r.writes)

  -- it is answered that nothing was changed without a call, and the client is as it was
  pub turned_follows : (z : Executed) (b : Answer) → catalog_after catalog (before z E) ≡ under → z.answer ≡ Some b → changes_nothing b ≡ true → calls_of E c z ≡ [] → h.vacuum ≡ None → IfSome h.txn (λ t. t.doing ≡ doing.Idle) → Follows z h
  turned_follows z b accepted is nothing none free idle = by h.txn refl idle
    where
      by : (o : Option TxnAt) → h.txn ≡ o → IfSome o (λ t. t.doing ≡ doing.Idle) → Follows z h
      by None e i = same_follows z (inr e)
      by (Some t) e i = turned_open t e free z b accepted is nothing none i
