-- What a client's transactions ran on what they found, as its calls are replied.
use Rattle.std.proofs.Common.{◌≡◌, ◌⊎◌, inl, inr, ℕ, ℤ, Bool, true, false, List, [], ◌∷◌, ◌++◌, length, Option, Some, None, IfSome, refl, sym, ap, subst, ◌∙◌}
use Rattle.std.specs.Prelude.{◌&&◌, ◌||◌, filter, is_some}
use Rattle.std.proofs.lemmas.List.Elements.{filter-append}
use Rattle.std.proofs.lemmas.List.Folds.{list_any-append}
use Rattle.std.specs.List.{list_any}
use Rattle.law_runs.specs.Types.{Access, Answer, Doing, Event, How, Key, Next, Progress, Record, Reply, Request, Scan, Span, Table, Write}
use Rattle.sdb_types.specs.Contents.{CanAnswer}
use Rattle.sdb_types.proofs.Public.{clash, either, none_some, or_false, or_true}
use Rattle.sdb_snapshot.specs.Entries.{value_at}
use Rattle.sdb_record.specs.declared.access.Access.TheVariants as access
use Rattle.sdb_record.specs.Meta.{is_moment}
use Rattle.sdb_schema.specs.Catalog.{is_catalog}
use Rattle.sdb_model.specs.declared.answer.Answer.TheVariants as answer
use Rattle.sdb_model.specs.declared.event.Event.TheVariants as event
use Rattle.sdb_model.specs.Calls.{StoreCall, calls_of, clock_at}
use Rattle.sdb_model.specs.Catalogs.{catalog_after}
use Rattle.sdb_model.specs.Causes.{before}
use Rattle.sdb_model.specs.Exec.{find_table}
use Rattle.sdb_model.specs.Rows.{Name}
use Rattle.sdb_model.specs.Sql.{reads_commit, reads_rollback}
use Rattle.sdb_model.specs.ReadSet.{has_finished, read_finished}
use Rattle.sdb_model.specs.Transactions.{Executed, changes_nothing, ends, id_of, is_conflict, is_done}
use Rattle.sdb_model.proofs.Public.{after_is}
use Rattle.sdb_exec.specs.Plans.{Planned}
use Rattle.sdb_txn.specs.declared.read.ReadStep.TheVariants as step
use Rattle.sdb_txn.specs.Read.{Asking, Ended, ReadAt, ReadStage, Resolving, read_result, read_step, request_of}
use Rattle.sdb_snapshot.specs.Sets.{WereRead}
use Rattle.sdb_snapshot.specs.Reads.{reads_of}
use Rattle.sdb_snapshot.specs.Seen.{is_scanned, same_span}
use Rattle.sdb_txn.specs.declared.progress.Progress.TheVariants as progress
use Rattle.sdb_txn.specs.declared.txn.Doing.TheVariants as doing
use Rattle.sdb_txn.specs.Txn.{IsCommitting, TxnAt, idle}
use Rattle.sdb_txn.specs.Phases.{CommitAt}
use Rattle.sdb_phases.specs.Work.{Work}
use Rattle.sdb_client.specs.declared.next.Next.TheVariants as next
use Rattle.sdb_client.specs.Client.{ClientAt, RowsReadPost, StagePost, after, answer_in, given_answer, given_left, gives, next_of, with_rows_read, resting}
use Rattle.sdb_client.proofs.Public.{reading_stays_idle}
use Rattle.law_clients.proofs.Public.{access_table, by_next}
use Rattle.law_clients.specs.About.{IsOfTables}
use Rattle.law_clients.specs.States.{IsAskedBy}
use Rattle.law_clients.specs.History.{executed_with_answer, waiting_of}
use Rattle.law_answers.specs.Changes.{HasRead, StageObserves}
use Rattle.law_answers.specs.Reads.{LedBy, ReadsBy}
use Rattle.law_answers.specs.Invariant.{IsWaiting, Knows}
use Rattle.law_answers.proofs.Public.{bad_unfinished, before_same, call_executed, IsDataTable, IsOpenAt, made_at, read_checks, same_writes, observes_on, silent_executed}
use Rattle.law_runs.specs.Found.{AreUnder, found_by, is_answered, is_scan_of, scans_span, was_scanned}
use Rattle.law_runs.specs.Written.{PreparesAll, groups_of_keys}
use Rattle.law_runs.proofs.FoundGiven.{given_finishes}
use Rattle.law_runs.proofs.FoundSteps.{ClientRuns, SeesIn, SeesRun, WroteAs, all_answered, answered_of_is}
use Rattle.law_runs.proofs.FoundSteps as follows
use Rattle.law_runs.proofs.OwnPrepares.{ends_commit, goes_further}
use Rattle.law_runs.proofs.Preparing.{key_groups}
use Rattle.law_runs.proofs.PreparingCalls.{WaitPrepares, call_prepares}
use Rattle.law_runs.proofs.ReadLeads.{read_leads, reads_data}
use Rattle.law_runs.proofs.Replies.{CallOf, CommitCall, ReadCall, SweepCall}
use Rattle.law_runs.proofs.Running.{HoldsScans, RunsTo, keys_one, running_of, scanned_more, view_after}
use Rattle.law_runs.proofs.Statements.{calls_more}
use Rattle.law_runs.proofs.Views.{found_now, view_found, read_only}
use Rattle.law_runs.proofs.WroteCommits.{CommitWrote, LastWrote}
use Rattle.sdb_model.specs.Tables.{is_data}

-- a COMMIT that goes on writes the same
commits_see : (catalog under : List Table) (events : List Event) (c : ℕ) (ss : List Executed) (u : TxnAt) (ws : List Write) (P : CommitAt → Type 0) → ((k : CommitAt) → P k → k.work.writes ≡ ws) → AreUnder catalog events under ss → WroteAs under events c ss ws → IsCommitting u.doing P → SeesRun catalog under events c ss u
commits_see catalog under events c ss u ws P same accepted wrote h = (accepted, by u.doing h)
  where
    by : (d : Doing) → IsCommitting d P → SeesIn under events c ss u.seen d
    by (doing.Commit k) x = subst (WroteAs under events c ss) (sym (same k x)) wrote
    by doing.Idle x = absurd x
    by (doing.Read a y) x = absurd x
    by doing.Over x = absurd x

-- the answer of a COMMIT's call ends it
ends_only : (p : Progress) (b : Answer) → Some b ≡ answer_in (next_of p) → next_of p ≡ next.End b
ends_only progress.More b e = none_some b (sym e)
ends_only (progress.Rows rows) b e = ap next.End (cc)
ends_only (progress.Busy key id at) b e = ap next.End (cc)
ends_only progress.Faulted b e = ap next.End (cc)
ends_only (progress.BadRecord key) b e = ap next.End (cc)
ends_only progress.NoMemory b e = ap next.End (cc)
ends_only (progress.Conflict key found) b e = ap next.End (cc)
ends_only progress.Committed b e = ap next.End (cc)
ends_only (progress.Expired id) b e = ap next.End (cc)
ends_only (progress.Unknown id) b e = ap next.End (cc)

-- a scan is among the scans that are then noted
noted_scans : (t : TxnAt) (a : Access) (images : List Record) (span : Span) (m : StoreCall) → m.request ≡ request_of a → (is_scanned t.seen.scans span ≡ true) ⊎ (is_scan_of span m.request ≡ true) → is_scanned (with_rows_read t a images).seen.scans span ≡ true
noted_scans t (access.Get key) images span m e (inl f) = f
noted_scans t (access.Get key) images span m e (inr f) = clash (sym f ∙ ap (is_scan_of span) e)
noted_scans t (access.Scan other) images span m e (inl f) = list_any-append (λ (x : Scan). same_span x.span span) t.seen.scans (record { span = other; found = reads_of images } ∷ []) ∙ ap (λ b. b || list_any (λ (x : Scan). same_span x.span span) (record { span = other; found = reads_of images } ∷ [])) f
noted_scans t (access.Scan other) images span m e (inr f) =
    list_any-append (λ (x : Scan). same_span x.span span) t.seen.scans (record { span = other; found = reads_of images } ∷ []) ∙ ap (λ b. is_scanned t.seen.scans span || (b || false)) (sym (ap (is_scan_of span) e) ∙ f) ∙ or_true (is_scanned t.seen.scans span)

module _ (catalog under : List Table) (is : is_catalog catalog ≡ true) (apart : (k : Key) → is_some (find_table catalog k.table) ≡ true → is_data k ≡ true) (events : List Event) (c : ℕ) (h : ClientAt) (k : Knows catalog events c h) (runs : ClientRuns catalog under events c h)
    (x : Executed) (waiting : k.waiting ≡ Some x) (waits : IsWaiting catalog events c (is_some h.vacuum) x) (asked : IfSome h.txn (λ t. catalog_after catalog (before x events) ≡ under)) (prepares : WaitPrepares catalog events c x h) (store : Name) (q : Request) (how : How) (r : Reply) (now : ℤ) (moment : is_moment now ≡ true)
    (ticks : clock_at events (length events) ≡ now) (about : IsOfTables catalog h) (can : CanAnswer q r)
    (kept : (t : TxnAt) → h.vacuum ≡ None → h.txn ≡ Some t → (a : Access) (y : ReadAt) → t.doing ≡ doing.Read a y → WereRead t.seen.read_set t.seen.writes) (d : ClientAt) where
  abbrev ev : Option Answer → Event
  ev a = event.Call c store q how r a

  abbrev E : Option Answer → List Event
  E a = events ++ ev a ∷ []

  abbrev made : StoreCall
  made = made_at events store q how r

  abbrev ms : List StoreCall
  ms = calls_of events c x

  abbrev done : Answer → Executed
  done b = executed_with_answer events x b

  calls_done : (b : Answer) → calls_of (E (Some b)) c (done b) ≡ ms ++ made ∷ []
  calls_done b = calls_more events c store q how r x waits.unanswered waits.accepted (Some b)

  abbrev Comes : Option Answer → ClientAt → Type 0
  Comes None y = IfSome y.txn (SeesRun catalog under (E None) c (running_of (E None) c y.begun k.entries))
  Comes (Some b) y = follows.Follows catalog under events c h k runs (ev (Some b)) (done b) y

  as_comes : (a b : Option Answer) (y : ClientAt) → a ≡ b → d ≡ y → Comes b y → Comes a d
  as_comes a b y e f z = subst (λ (o : Option Answer). Comes o d) (sym e) (subst (Comes b) (sym f) z)

  ---- a VACUUM and a COMMIT

  sweep_comes : (a : Option Answer) → SweepCall events c x h q r now a d → Comes a d
  sweep_comes None z = subst (λ (o : Option TxnAt). IfSome o (SeesRun catalog under (E None) c (running_of (E None) c d.begun k.entries))) (sym (ap (λ (y : ClientAt). y.txn) z.left ∙ z.rests)) tt
  sweep_comes (Some b) z = follows.ended_follows catalog under events c h k runs (ev (Some b)) (done b) d (inr z.rests) (ap (λ (y : ClientAt). y.txn) z.left ∙ z.rests)

  -- it writes what its statements wrote, which were accepted under its catalog
  abbrev CommitRuns : (a : Option Answer) → CommitCall events c k.entries x h q r a d → Type 0
  CommitRuns a z = AreUnder catalog (E a) under (running_of (E a) c h.begun k.entries) × WroteAs under (E a) c (running_of (E a) c h.begun k.entries) z.k.work.writes

  commit_wrote : (a : Option Answer) (z : CommitCall events c k.entries x h q r a d) → CommitRuns a z
  commit_wrote a z =
      let sees : SeesRun catalog under (E a) c (running_of (E a) c h.begun k.entries) z.t = follows.sees_open catalog under events c h k runs (ev a) z.t z.opened z.free in
      (sees.0, subst (SeesIn under (E a) c (running_of (E a) c h.begun k.entries) z.t.seen) z.commits sees.1)

  commit_comes : (a : Option Answer) → CommitCall events c k.entries x h q r a d → Comes a d
  commit_comes None z =
      let further : z.progress ≡ progress.More = goes_further z.progress z.answer in
      as_comes None None _ refl (z.left ∙ ap (λ p. after h (next_of p) z.u) further) (commits_see catalog under (E None) c (running_of (E None) c h.begun k.entries) z.u z.k.work.writes _ (λ y n. ap (λ (w : Work). w.writes) n.0) (commit_wrote None z).0 (commit_wrote None z).1 (z.answered.next further))
  commit_comes (Some b) z =
      as_comes (Some b) (Some b) (resting h) refl (z.left ∙ ap (λ (n : Next). after h n z.u) (ends_only z.progress b z.answer))
      (follows.ended_follows catalog under events c h k runs (ev (Some b)) (done b) (resting h) (inl (follows.ends_stays (E (Some b)) c (done b) (ends_commit (done b) z.is.text))) refl)

  ---- a read

  module _ (a : Option Answer) (z : ReadCall catalog events c x h q r now a d) where
    abbrev t : TxnAt
    t = z.t

    abbrev p : Planned
    p = z.p

    own : IsDataTable (access_table z.access)
    own = reads_data catalog apart events c h d x waits store q how r now ticks about can a z

    -- it was accepted under the catalog with which its transaction runs
    asked_now : catalog_after catalog (before x events) ≡ under
    asked_now = subst (λ (o : Option TxnAt). IfSome o (λ u. catalog_after catalog (before x events) ≡ under)) z.opened asked

    accepted_now : (b : Answer) → catalog_after catalog (before (done b) (E (Some b))) ≡ under
    accepted_now b = ap (catalog_after catalog) (before_same x events (ev (Some b)) waits.accepted) ∙ asked_now

    asked_so : IsAskedBy under p z.access z.x
    asked_so = subst (λ (ts : List Table). IsAskedBy ts p z.access z.x) (sym z.under ∙ asked_now) z.asked

    is_under : is_catalog under ≡ true
    is_under = ap is_catalog (sym asked_now) ∙ after_is catalog (before x events) is

    opened_so : (b : Option Answer) → SeesRun catalog under (E b) c (running_of (E b) c h.begun k.entries) t
    opened_so b = follows.sees_open catalog under events c h k runs (ev b) t z.opened z.free

    sees : (b : Option Answer) → RunsTo under (E b) c (running_of (E b) c h.begun k.entries) t.seen
    sees b = subst (SeesIn under (E b) c (running_of (E b) c h.begun k.entries) t.seen) z.reads (opened_so b).1

    -- where the reply leads
    leads : LedBy (E None) (ms ++ made ∷ []) (read_step z.x.stage now r)
    leads = read_leads catalog apart events c h d x waits store q how r now ticks about can a z

    open_at : (s : ReadStage) → ReadsBy ms s → IsOpenAt z.x.request ms made now moment s
    open_at Asking i = tt
    open_at (Resolving images rec meta y left) i = i.is_open
    open_at (Ended s) i = absurd i

    observed : StageObserves z.x.request (ms ++ made ∷ []) (read_step z.x.stage now r)
    observed = observes_on ms now moment z.access z.asked.request (record { stage = z.x.stage; call = made; pending = z.pends }) (open_at z.x.stage z.is.stage) z.is.shows can

    has_read : (images : List Record) → read_step z.x.stage now r ≡ Ended (step.Images images) → HasRead (request_of z.access) (ms ++ made ∷ []) images []
    has_read images e = subst (λ (y : Request). HasRead y (ms ++ made ∷ []) images []) z.asked.request (subst (StageObserves z.x.request (ms ++ made ∷ [])) e observed)

    abbrev Left : Next → TxnAt → Type 0
    Left n u = Comes (answer_in n) (after h n u)

    as_left : (n m : Next) (u v : TxnAt) → n ≡ m → u ≡ v → Left m v → Left n u
    as_left n m u v e f s = subst (λ (y : Next). Left y u) (sym e) (subst (λ (y : TxnAt). Left m y) (sym f) s)

    -- the statement has read nothing
    fails : (b : Answer) → changes_nothing b ≡ true → read_finished (ms ++ made ∷ []) b ≡ false → Left (next.Answer b) (idle t)
    fails b nothing unfinished =
        follows.held_follows catalog under events c h k runs (ev (Some b)) t z.opened z.free (done b) (idle t)
        (follows.nothing_stays (E (Some b)) c (done b) b refl nothing (ap (λ cs. has_finished cs (done b)) (calls_done b) ∙ unfinished)) refl refl (sees (Some b))

    further : (s : ReadStage) → Left next.Call (record t { doing = doing.Read z.access (record z.x { stage = s }) })
    further s = ((opened_so None).0, sees None)

    -- its scan is among the scans
    scans_then : (b : Answer) (images : List Record) → read_step z.x.stage now r ≡ Ended (step.Images images) → HoldsScans (E (Some b)) c (running_of (E (Some b)) c h.begun k.entries ++ done b ∷ []) (with_rows_read t z.access images).seen
    scans_then b images e span is =
        noted_scans t z.access images span (has_read images e).first (has_read images e).request
        (by (either (was_scanned (E (Some b)) c (running_of (E (Some b)) c h.begun k.entries) span) (scans_span span (calls_of (E (Some b)) c (done b))) (sym (scanned_more (E (Some b)) c (running_of (E (Some b)) c h.begun k.entries) (done b) span) ∙ is)))
      where
        by : (was_scanned (E (Some b)) c (running_of (E (Some b)) c h.begun k.entries) span ≡ true) ⊎ (scans_span span (calls_of (E (Some b)) c (done b)) ≡ true) → (is_scanned t.seen.scans span ≡ true) ⊎ (is_scan_of span (has_read images e).first.request ≡ true)
        by (inl f) = inl ((sees (Some b)).scans span f)
        by (inr f) = inr (sym (ap (scans_span span) (calls_done b) ∙ ap (λ cs. list_any (λ (m : StoreCall). is_scan_of span m.request) cs) (read_only (ms ++ made ∷ []) z.access images (has_read images e) own) ∙ or_false (is_scan_of span (has_read images e).first.request)) ∙ f)

    gives_rows : (images : List Record) → read_step z.x.stage now r ≡ Ended (step.Images images) → Left (next.Answer (given_answer (with_rows_read t z.access images) (gives p z.access (with_rows_read t z.access images)))) (given_left (with_rows_read t z.access images) (gives p z.access (with_rows_read t z.access images)))
    gives_rows images e =
        let v : TxnAt = with_rows_read t z.access images in
        let b : Answer = given_answer v (gives p z.access v) in
        follows.given_follows catalog under events c h k runs (ev (Some b)) t z.opened z.free (done b) p z.access v (accepted_now b)
        (record { is = is_under; named = asked_so.named; asked = asked_so.asked; accepted = asked_so.accepted; literals = asked_so.literals; access = asked_so.access }) z.is.text z.is.inner.commit refl
        (ap (λ cs. has_finished cs (done b)) (calls_done b) ∙ given_finishes p z.access v (ms ++ made ∷ []) z.asked.asked (read_checks z.access (ms ++ made ∷ []) images (has_read images e) own) own)
        (reading_stays_idle t z.access images, same_writes t z.access images) (sees (Some b))
        (view_found under (view_after under (E (Some b)) c (running_of (E (Some b)) c h.begun k.entries) (sees (Some b)).run) t z.access images (found_by (calls_of (E (Some b)) c (done b))) (sees (Some b)).sees (kept t z.free z.opened z.access z.x z.reads)
        (λ key. ap (λ cs. value_at (found_by cs) key) (calls_done b) ∙ found_now (ms ++ made ∷ []) z.access images (has_read images e) own key))
        (scans_then b images e)

    over : (b : Answer) → is_conflict (Some b) ≡ true → ends (done b) ≡ true
    over b e = ap (λ y. reads_commit x.text || y || (reads_rollback x.text && is_done (Some b))) e ∙ last (reads_commit x.text)
      where
        last : (y : Bool) → (y || true || (reads_rollback x.text && is_done (Some b))) ≡ true
        last true = refl
        last false = refl

    images_case : (images : List Record) → read_step z.x.stage now r ≡ Ended (step.Images images) → (n : Next) (u : TxnAt) → RowsReadPost t p z.access images n u → Left n u
    images_case images e (next.Answer b) u y = as_left (next.Answer b) (next.Answer (given_answer (with_rows_read t z.access images) (gives p z.access (with_rows_read t z.access images)))) u _ (ap next.Answer y.1) y.2 (gives_rows images e)
    images_case images e (next.End (answer.Conflict key found)) u y = follows.ended_follows catalog under events c h k runs (ev (Some (answer.Conflict key found))) (done (answer.Conflict key found)) (resting h) (inl (follows.ends_stays (E (Some (answer.Conflict key found))) c (done (answer.Conflict key found)) (over (answer.Conflict key found) refl))) refl
    images_case images e n u y = absurd y

    stage_case : (s : ReadStage) → read_step z.x.stage now r ≡ s → (n : Next) (u : TxnAt) → StagePost t p z.access z.x s (read_result s) n u → Left n u
    stage_case Asking e n u y = as_left n next.Call u _ y.0 y.1 (further Asking)
    stage_case (Resolving images rec meta f left) e n u y = as_left n next.Call u _ y.0 y.1 (further (Resolving images rec meta f left))
    stage_case (Ended step.More) e n u y = as_left n next.Call u _ y.0 y.1 (further (Ended step.More))
    stage_case (Ended (step.Images images)) e n u y = images_case images e n u y
    stage_case (Ended (step.Busy key id at)) e n u y = as_left n (next.Answer (answer.Busy key id at)) u (idle t) y.0 y.1 (fails (answer.Busy key id at) refl refl)
    stage_case (Ended step.Faulted) e n u y = as_left n (next.Answer answer.Faulted) u (idle t) y.0 y.1 (fails answer.Faulted refl refl)
    stage_case (Ended (step.BadRecord key)) e n u y = as_left n (next.Answer (answer.BadRecord key)) u (idle t) y.0 y.1 (fails (answer.BadRecord key) refl (bad_unfinished (ms ++ made ∷ []) key (subst (LedBy (E None) (ms ++ made ∷ [])) e leads)))
    stage_case (Ended step.NoMemory) e n u y = absurd y

    read_left : Left z.next z.u
    read_left = by_next z.next (λ e. as_left z.next (next.Answer answer.NoMemory) z.u (idle t) e (z.answered.memory e) (fails answer.NoMemory refl refl)) (λ n. stage_case (read_step z.x.stage now r) refl z.next z.u (z.answered.answered n))

    read_comes : Comes a d
    read_comes = as_comes a (answer_in z.next) (after h z.next z.u) z.answer z.left read_left

  call_comes : (a : Option Answer) → CallOf catalog events c k.entries x h q r now a d → Comes a d
  call_comes a (inl z) = sweep_comes a z
  call_comes a (inr (inl z)) = read_comes a z
  call_comes a (inr (inr z)) = commit_comes a z

  -- the COMMIT that is answered prepared what was written
  last_wrote : (b : Answer) → CallOf catalog events c k.entries x h q r now (Some b) d → LastWrote catalog (E (Some b)) c k.entries (done b)
  last_wrote b (inl z) reads opened = clash (sym opened ∙ follows.closed catalog under events c h k runs (ev (Some b)) z.rests)
  last_wrote b (inr (inl z)) reads opened = clash (sym reads ∙ z.is.inner.commit)
  last_wrote b (inr (inr z)) reads opened =
      subst (λ n. CommitWrote catalog (E (Some b)) c (running_of (E (Some b)) c n k.entries) (id_of c n) (calls_of (E (Some b)) c (done b))) k.begun
      (λ other accepted statements read.
      subst (λ ks. PreparesAll (groups_of_keys ks) (id_of c h.begun) (calls_of (E (Some b)) c (done b)))
      ((commit_wrote (Some b) z).1 statements read ∙ keys_one catalog (E (Some b)) c (running_of (E (Some b)) c h.begun k.entries) statements under other (commit_wrote (Some b) z).0 accepted)
      (subst (λ i. PreparesAll (key_groups z.k.work) i (calls_of (E (Some b)) c (done b))) (z.is.same ∙ z.since.id)
      (subst (PreparesAll (key_groups z.k.work) z.k.work.id) (sym (calls_done b)) (call_prepares catalog events c h d store q how r now k.entries x prepares waits (Some b) z))))

  -- So it is after the reply to its call.
  pub calls_runs : (a : Option Answer) → CallOf catalog events c k.entries x h q r now a d → ClientRuns catalog under (E a) c d
  calls_runs None z = follows.still_runs catalog under events c h k runs (ev None) d (ap (filter is_answered) (silent_executed c events store q how r) ∙ answered_of_is catalog events c h k) (call_comes None z)
  calls_runs (Some b) z =
      follows.next_runs catalog under events c h k runs (ev (Some b)) (done b) d
      (ap (filter is_answered) (call_executed c events (made_at events store q how r) b k.entries x (k.same ∙ ap (λ (o : Option Executed). k.entries ++ waiting_of o) waiting)) ∙ filter-append is_answered k.entries (done b ∷ []) ∙ ap (λ ss. ss ++ done b ∷ []) (all_answered catalog events c k.entries k.answered)) (call_comes (Some b) z) (last_wrote b z)
