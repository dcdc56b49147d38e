-- Each turn of a client, over what ties the events to the clients.
use Rattle.std.proofs.Common.{◌≡◌, ◌≢◌, ◌<◌, ◌+◌, ◌^◌, ℕ, ℤ, suc, Bool, true, false, List, [], ◌∷◌, ◌++◌, length, Option, Some, None, refl, sym, ap, ◌∙◌, subst, arith, inl, inr}
use Rattle.std.specs.Prelude.{◌==◌, ◌&&◌, ◌||◌, is_some, nat_lt, if◌then◌else◌}
use Rattle.std.proofs.lemmas.Bool.Decides.{nat_tests}
use Rattle.law_clients.specs.Types.{Access, Answer, Event, Keyed, Record, Span, Statement, Table, TxId}
use Rattle.sdb_record.specs.declared.access.Access.TheVariants as access
use Rattle.sdb_model.specs.declared.answer.Answer.TheVariants as answer
use Rattle.sdb_model.specs.declared.event.Event.TheVariants as event
use Rattle.sdb_model.specs.Exec.{Tables}
use Rattle.sdb_model.specs.Sql.{Reads, reads_begin, reads_commit, reads_rollback}
use Rattle.sdb_model.specs.Transactions.{Executed, begins, changes_nothing, ends, id_of, is_answered_from_rows, is_conflict, is_done, statements_by}
use Rattle.law_protocol.specs.History.{Begins, Other, Stops, Takes, at}
use Rattle.law_protocol.specs.Lawful.{Labelled, id, protocol_state, ends_with, labelled_with}
use Rattle.law_protocol.specs.Plan.{Plan}
use Rattle.sdb_phases.specs.Work.{Work, groups_of}
use Rattle.sdb_phases.specs.Checks.{checks}
use Rattle.sdb_phases.specs.Commit.{Stage, Preparing, Checking, Deciding, Forward, Stopping, Back, Over, preparing}
use Rattle.sdb_snapshot.specs.Seen.{Seen, nothing, with_written}
use Rattle.sdb_snapshot.specs.Written.{AreChanges}
use Rattle.law_clients.specs.Reads.{OpenOk, SeenOk, with_read, work_of}
use Rattle.law_clients.specs.Owner.{plan_of}
use Rattle.law_clients.specs.ReadAt.{Asking, IsOfData}
use Rattle.law_clients.specs.Vacuum.{Scanning}
use Rattle.law_clients.specs.System.{ClientAt, ClientOk, Has, IsBegin, IsCommit, IsQuiet, NoneOpen, NoneRunVacuum, Open, Reading, Resting, RunsVacuum, SamePlans, IsInState, Stopped, SystemAt, SystemOk, begin_labelled, commit_begun, commit_left, idle, next_id, take_labelled, with_begun, with_client, with_plan}
use Rattle.law_clients.proofs.Begin.{begin_turn, untaken}
use Rattle.law_clients.proofs.Quiet.{asks, leave_turn, quiet_turn, stop_turn, sweep_starts, writes}
use Rattle.law_clients.proofs.Seen.{seen_nothing}
use Rattle.law_clients.proofs.Take.{take_turn}
use Rattle.law_clients.specs.Body.{AnswersOn, BodyOk, IsCovered}
use Rattle.law_clients.specs.Calls.{RecordsRead, ReadsNothing}
use Rattle.law_clients.specs.Filed.{number}
use Rattle.law_clients.specs.Left.{Execution}
use Rattle.law_clients.specs.Story.{Closed, Finished, MayCome, Opened, Rest, txn_ended_at}
use Rattle.law_clients.specs.History.{BeginsHold, IsOpened, IsOrdinary, IsAnswerOf, KeepsTxns, HistoryInvariant, ClientHistory, HistoryStep, begun_in, executed_of_take, with_answered, with_waiting}
use Rattle.law_clients.proofs.Answered.{commit_ends, said_at_once, story_answers, story_asks, story_begins, story_ends, story_takes, telling_of}
use Rattle.law_clients.proofs.Bodies.{body_begins, body_step}
use Rattle.law_clients.proofs.Histories.{SameOf, executed_more, same_of, story_stays}
use Rattle.law_clients.proofs.HistoryTurns.{begun_stands, client_stands, said_nothing_more, said_one_more}
use Rattle.sdb_model.specs.Catalogs.{catalog_after}
use Rattle.law_clients.specs.Catalogs.{catalog_at_begin}
use Rattle.law_clients.proofs.Catalogs.{begin_same, live_catalog, now_after}
use Rattle.law_clients.specs.Invariant.{ClientInvariant, EndedOk, IsOpenOf, InsideOk, IsClosed, RunInvariant, IsInner, IsMild, LeavesAtOnce, OpenedOk, RanOk}
use Rattle.law_clients.specs.ReadSets.{ReadSetsOfClient, ReadSetInside, IsMadeSince}
use Rattle.law_clients.proofs.OtherClients.{ended_later, inside_later, kept_apart, turned}
use Rattle.law_clients.proofs.Mild.{effective_by, mild_begins, mild_ends, nothing_mild, rows_mild, uncommitted}
use Rattle.law_clients.proofs.InvariantReads.{IsJustAnswered, at_once, commit_made, inside_nothing, inside_read, none_since, noted_asks, noted_begun, noted_commits, noted_elsewhere, noted_gap, noted_inside, noted_over, open_noted, written_noted}
use Rattle.law_clients.proofs.Small.{numbers_same, less_apart, nothing_ran, begins_untaken}
use Rattle.law_clients.proofs.InvariantOwn.{IsPlainRole, begun, below, closed_as, ended_at, goes_begun, goes_gap, goes_inside, goes_over, gone, inside, opened_as, over, plain_apart, plain_counts, plain_not, ran_here}
use Rattle.sdb_types.proofs.Public.{and_false as no_second, clash, itself as same_number, some_is}

---- one client

module _ (catalog : List Table) (fit : List Table → Tables → Bool) (events : List Event) (sys : SystemAt) (doing : ℕ → Option Statement) (g : RunInvariant catalog fit events sys doing) (c : ℕ) where
  abbrev pub x : ClientHistory
  x = g.answered c

  abbrev pub ran : ℕ → Execution
  ran = g.ran c

  abbrev pub n : ℕ
  n = length x.whole

  pub was : ClientInvariant catalog fit g.plan g.past c (doing c) (sys.clients c) x ran
  was = g.clients c

  pub story : HistoryInvariant events g.past sys c x
  story = g.stories c

  -- the tables of the moment
  abbrev pub tables_now : List Table
  tables_now = catalog_after catalog events

  -- Its open transaction began under them, while it goes on.
  pub under_now : (q : Labelled) → IsPlainRole q.action → (i : TxId) → i.0 ≡ number c n → OpenOk (protocol_state g.past) c i.0 → catalog_at_begin catalog (q ∷ g.past) (number c n) ≡ tables_now
  under_now q plain i its o =
      begin_same catalog q g.past (number c n) (same_of g.past q (number c n) (plain_not (number c n) q.action plain)).begun
      ∙ ap (catalog_at_begin catalog g.past) (sym its)
      ∙ live_catalog catalog g.past g.at_rest i.0 o.is_open (ap (protocol_state g.past).stopped o.owner ∙ o.goes_on)
      ∙ now_after catalog g.labelled g.past events g.same g.turned

  pub agrees : (y : ClientAt) → sys.clients c ≡ y → IsInState g.plan g.past sys c y
  agrees y e = record { ok = g.system; at = e }

  pub hand_at : (y : ClientAt) → sys.clients c ≡ y → IsOpenOf (doing c) x (ran n) y
  hand_at y e = subst (IsOpenOf (doing c) x (ran n)) e was.next_state

  pub client_at : (y : ClientAt) → sys.clients c ≡ y → ClientOk g.plan g.past c y
  client_at y e = subst (ClientOk g.plan g.past c) e (g.system.each c)

  pub here : (y : ClientAt) → (with_client sys c y).clients c ≡ y
  here y = ap (λ b. if b then y else sys.clients c) (same_number c)

  pub same : SamePlans g.plan g.plan g.past
  same t h = refl

  -- where a client goes on with what it has in its hands, or less
  pub keeps : (y z : ClientAt) → sys.clients c ≡ y → ((u : ℕ) → Has z u → Has y u) → KeepsTxns c sys (with_client sys c z)
  keeps y z e f = record { begun = refl; hold = λ u h. subst (λ w. Has w u) (sym e) (f u (subst (λ w. Has w u) (here z) h)) }

  pub kept : (q : Labelled) → IsPlainRole q.action → EndedOk catalog fit g.plan (q ∷ g.past) c x.whole ran × OpenedOk catalog fit g.plan (q ∷ g.past) (number c n) x.rest (ran n)
  kept q p = kept_apart catalog fit g.plan g.plan events g.past sys q c x ran same story (plain_apart g.past c q.action p) was.ended was.opened

  -- what was so of an open transaction
  pub open_ran : (q : Labelled) → IsPlainRole q.action → (gap : List Executed) (b : Executed) (body : List Executed) → x.rest ≡ Opened gap b body → RanOk catalog fit g.plan (q ∷ g.past) (number c n) body (ran n)
  open_ran q p gap b body e = subst (λ r. OpenedOk catalog fit g.plan (q ∷ g.past) (number c n) r (ran n)) e (kept q p).1

  ---- BEGIN

  module _ (text : List ℕ) (at_rest : sys.clients c ≡ Resting) (b : IsBegin sys c text) (none : NoneRunVacuum sys) where
    abbrev gap : List Executed
    gap = (closed_as x.rest (hand_at Resting at_rest).0).0

    closed : x.rest ≡ Closed gap
    closed = (closed_as x.rest (hand_at Resting at_rest).0).1

    counted : sys.begun c + 1 ≡ suc n
    counted = ap (λ k. k + 1) (story.count ∙ ap (λ r. n + begun_in r) closed) ∙ by n
      where
        by : (k : ℕ) → k + 0 + 1 ≡ suc k
        by k = omega arith

    next_number : (next_id sys c).0 ≡ number c n
    next_number = ap (λ k. (id_of c k).0) counted

    abbrev s : Executed
    s = executed_of_take events text (Some answer.Done)

    abbrev q : Labelled
    q = begin_labelled sys c text

    starts : begins s ≡ true
    starts = ap (λ z. z && true) b.reads

    abbrev next : SystemAt
    next = with_begun sys c (Open (next_id sys c) nothing)

    next_here : next.clients c ≡ Open (next_id sys c) nothing
    next_here = ap (λ z. if z then Open (next_id sys c) nothing else sys.clients c) (same_number c)

    fresh : (protocol_state g.past).accepted (number c n) ≡ false
    fresh = ap (protocol_state g.past).accepted (sym next_number) ∙ untaken g.plan g.past sys c g.system b.ordinal

    hold : BeginsHold c sys next (number c n)
    hold = record {
      begun = ap (λ z. if z then sys.begun c + 1 else sys.begun c) (same_number c);
      hold = λ u h. sym (subst (λ w. Has w u) next_here h) ∙ next_number;
    }

    told_on : HistoryStep events g.past q next c (with_answered x s)
    told_on = subst (λ t. HistoryInvariant (events ++ q.event ∷ []) (labelled_with (Begins t c) (event.Take c text (Some answer.Done)) ∷ g.past) next c (with_answered x s)) (sym next_number)
        (story_begins events g.past sys next c x gap text story (hand_at Resting at_rest).1 closed starts b.client (subst (λ k. k < 2 ^ 64) counted b.ordinal) fresh hold)

    before : (k : ℕ) (f : Finished) → txn_ended_at x.whole k ≡ Some f → SameOf (number c k) (protocol_state g.past) (protocol_state (q ∷ g.past))
    before k f e = same_of g.past q (number c k) (λ h. less_apart k n (below x.whole k f e) (numbers_same c k n (sym h ∙ next_number)))

    still_untaken : (protocol_state (q ∷ g.past)).accepted (number c n) ≡ true → true ≡ false
    still_untaken h = sym h ∙ ap (protocol_state (q ∷ g.past)).accepted (sym next_number) ∙ begins_untaken (protocol_state g.past) (next_id sys c).0 c ∙ ap (protocol_state g.past).accepted next_number ∙ by
      where
        by : (protocol_state g.past).accepted (number c n) ≡ false
        by = fresh

    pub going_begins : RunInvariant catalog fit (events ++ event.Take c text (Some answer.Done) ∷ []) next (at doing c None)
    going_begins = turned catalog fit events sys next doing g c None q (record {
      plan = g.plan;
      x = with_answered x s;
      ran = at ran n nothing_ran;
      same = same;
      system = begin_turn g.plan g.past sys c text (agrees Resting at_rest) b none;
      by = refl;
      others = begun_stands sys c (Open (next_id sys c) nothing);
      story = told_on;
      own = goes_begun catalog fit g.plan (q ∷ g.past) c None (next.clients c) x ran s gap nothing_ran closed starts
          (ended_later catalog fit g.plan g.plan g.past q c x.whole ran same before was.ended)
          (record { inside = record { seen = seen_nothing (q ∷ g.past); body = body_begins (catalog_at_begin catalog (q ∷ g.past) (number c n)) (fit (catalog_at_begin catalog (q ∷ g.past) (number c n))); executed = record { read = tt; answered = refl } }; planned = λ h. clash (still_untaken h) })
          (subst (IsOpenOf None (telling_of (begun x gap s)) nothing_ran) (sym next_here) (tt, refl, refl));
      as_read = noted_begun events c q.event (sys.clients c) x ran (g.as_read c) (next.clients c) s gap nothing_ran closed starts refl;
    })

  ---- a client's event that says nothing more

  pub silent : (e : Event) → ((ss : List Executed) (k : ℕ) → Rattle.sdb_model.specs.Transactions.statements_after c ss (k, e) ≡ ss) → statements_by c (events ++ e ∷ []) ≡ statements_by c events
  silent e f = executed_more c events e ∙ f (statements_by c events) (1 + length events)

  ---- COMMIT is accepted

  module _ (text : List ℕ) (i : TxId) (seen : Seen) (now : ℤ) (at_open : sys.clients c ≡ Open i seen) (k : IsCommit text now) where
    abbrev p : Work
    p = work_of i now seen

    abbrev q_taken : Labelled
    q_taken = take_labelled c text p

    abbrev s_taken : Executed
    s_taken = executed_of_take events text None

    here_now : IsOpened x.rest × (x.waiting ≡ None) × ((ran n).seen ≡ seen)
    here_now = hand_at (Open i seen) at_open

    its_number : i.0 ≡ number c n
    its_number = (story.hold i.0 (subst (λ w. Has w i.0) (sym at_open) refl)).1

    fresh_taken : (protocol_state g.past).accepted i.0 ≡ false
    fresh_taken = (client_at (Open i seen) at_open).0.fresh

    abbrev plan : ℕ → Plan
    plan = with_plan g.plan p

    planned_here : plan i.0 ≡ plan_of p
    planned_here = ap (λ b. if b then plan_of p else g.plan i.0) (same_number i.0)

    differs : (u : ℕ) → (protocol_state g.past).accepted u ≡ true → (u == i.0) ≡ false
    differs u h = by (u == i.0) refl
      where
        is : (m k : ℕ) → (m == k) ≡ true → m ≡ k
        is m k e = grind (arith, nat_tests)

        by : (b : Bool) → (u == i.0) ≡ b → b ≡ false
        by true e = clash (sym h ∙ ap (protocol_state g.past).accepted (is u i.0 e) ∙ fresh_taken)
        by false e = refl

    replanned : SamePlans g.plan plan g.past
    replanned u h = sym (ap (λ b. if b then plan_of p else g.plan u) (differs u h))

    abbrev next_taken : SystemAt
    next_taken = commit_begun sys c p

    has_begun : (t : Stage) (u : ℕ) → Has (commit_left p t) u → Has (Open i seen) u
    has_begun (Preparing j) u h = h
    has_begun (Checking j) u h = h
    has_begun (Deciding d) u h = h
    has_begun (Forward j) u h = h
    has_begun (Stopping a m) u h = h
    has_begun (Back a m j) u h = h
    has_begun (Over a) u h = absurd h

    told_on_taken : HistoryStep events g.past q_taken next_taken c (with_waiting x s_taken)
    told_on_taken = subst (λ t. HistoryInvariant (events ++ q_taken.event ∷ []) (labelled_with (Takes t) (event.Take c text None) ∷ g.past) next_taken c (with_waiting x s_taken)) (sym its_number)
        (story_takes events g.past sys next_taken c x text story here_now.1 k.reads (keeps (Open i seen) (commit_left p (preparing p 0)) at_open (has_begun (preparing p 0))))

    before_taken : (j : ℕ) (f : Finished) → txn_ended_at x.whole j ≡ Some f → SameOf (number c j) (protocol_state g.past) (protocol_state (q_taken ∷ g.past))
    before_taken j f e = same_of g.past q_taken (number c j) (λ h. less_apart j n (below x.whole j f e) (numbers_same c j n (sym h ∙ its_number)))

    abbrev run : Execution
    run = record { seen = (ran n).seen; now = now; body = (ran n).body; answers = (ran n).answers }

    opened : (r : Rest) → x.rest ≡ r → OpenedOk catalog fit g.plan g.past (number c n) r (ran n) → OpenedOk catalog fit plan (q_taken ∷ g.past) (number c n) r run
    opened (Closed statements_by) e ok = tt
    opened (Opened statements_by b body) e ok = record {
      inside = subst (λ ts. InsideOk ts (fit ts) (q_taken ∷ g.past) body run) (sym (begin_same catalog q_taken g.past (number c n) refl))
          (record { seen = (inside_later (catalog_at_begin catalog g.past (number c n)) (fit (catalog_at_begin catalog g.past (number c n))) g.past q_taken body (ran n) ok.inside).seen; body = ok.inside.body; executed = record { read = ok.inside.executed.read; answered = ok.inside.executed.answered } });
      planned = λ h. ap plan (sym its_number) ∙ planned_here ∙ ap (λ t. plan_of (work_of (id t) now seen)) its_number ∙ ap (λ z. plan_of (work_of (id (number c n)) now z)) (sym here_now.2);
    }

    begins_at : (a b : Bool) → IsOpenOf None (with_waiting x s_taken) run (commit_left p (if a then Preparing 0 else (if b then Checking 0 else Deciding Rattle.sdb_phases.specs.declared.step.DecidePhase.TheVariants.Put)))
    begins_at true b = (here_now.0, k.reads)
    begins_at false true = (here_now.0, k.reads)
    begins_at false false = (here_now.0, k.reads)

    pub going_commits : RunInvariant catalog fit (events ++ event.Take c text None ∷ []) next_taken (at doing c None)
    going_commits = turned catalog fit events sys next_taken doing g c None q_taken (record {
      plan = plan;
      x = with_waiting x s_taken;
      ran = at ran n run;
      same = replanned;
      system = take_turn g.plan g.past sys c i seen now text (agrees (Open i seen) at_open) k;
      by = refl;
      others = client_stands sys c (commit_left p (preparing p 0));
      story = told_on_taken;
      own = record {
        ended = ended_at catalog fit plan (q_taken ∷ g.past) c x.whole ran run (ended_later catalog fit g.plan plan g.past q_taken c x.whole ran replanned before_taken was.ended);
        opened = subst (OpenedOk catalog fit plan (q_taken ∷ g.past) (number c n) x.rest) (sym (ran_here ran n run)) (opened x.rest refl was.opened);
        next_state = subst (λ z. IsOpenOf None (with_waiting x s_taken) z (next_taken.clients c)) (sym (ran_here ran n run)) (subst (IsOpenOf None (with_waiting x s_taken) run) (sym (here (commit_left p (preparing p 0)))) (begins_at (nat_lt 0 (groups_of p)) (nat_lt 0 (length (checks p)))));
      };
      as_read = noted_commits events c q_taken.event (sys.clients c) x ran (g.as_read c) (next_taken.clients c) s_taken run refl refl (subst (IsMadeSince (events ++ q_taken.event ∷ []) c (Some s_taken)) (sym (here (commit_left p (preparing p 0)))) (commit_made (events ++ q_taken.event ∷ []) c (Some s_taken) p (preparing p 0)));
    })

  ---- a statement begins to read

  module _ (text : List ℕ) (st : Statement) (i : TxId) (seen : Seen) (a : Access) (at_open : sys.clients c ≡ Open i seen) (tables : IsOfData a) (reads : Reads text st) (inner : IsInner text) where
    pub going_asks : RunInvariant catalog fit (events ++ event.Take c text None ∷ []) (with_client sys c (Reading i seen a Asking)) (at doing c (Some st))
    going_asks = turned catalog fit events sys (with_client sys c (Reading i seen a Asking)) doing g c (Some st) q (record {
      plan = g.plan;
      x = with_waiting x s;
      ran = ran;
      same = same;
      system = asks g.plan (q ∷ g.past) sys c i seen a (record { ok = quiet_turn g.plan g.past sys q.event g.system (record { quiet = refl; other = λ e. none_some e }); at = at_open }) tables;
      by = refl;
      others = client_stands sys c (Reading i seen a Asking);
      story = story_asks events g.past sys (with_client sys c (Reading i seen a Asking)) c x q text story here_now.1 refl tt (plain_apart g.past c Other tt) (keeps (Open i seen) (Reading i seen a Asking) at_open (λ u h. h));
      own = record { ended = (kept q tt).0; opened = (kept q tt).1; next_state = subst (IsOpenOf (Some st) (with_waiting x s) (ran n)) (sym (here (Reading i seen a Asking))) (here_now.0, (reads, inner), here_now.2) };
      as_read = noted_asks events c q.event (sys.clients c) x ran (g.as_read c) ((with_client sys c (Reading i seen a Asking)).clients c) s refl (subst (IsMadeSince (events ++ q.event ∷ []) c (Some s)) (sym (here (Reading i seen a Asking))) (none_since events c q.event));
    })
      where
        none_some : ◌≡◌ {A = Option Answer} None (Some answer.Committed) → ⊥
        none_some e = cc

        q : Labelled
        q = labelled_with Other (event.Take c text None)

        s : Executed
        s = executed_of_take events text None

        here_now : IsOpened x.rest × (x.waiting ≡ None) × ((ran n).seen ≡ seen)
        here_now = hand_at (Open i seen) at_open

  ---- VACUUM is accepted

  module _ (text : List ℕ) (span : Span) (at_rest : sys.clients c ≡ Resting) (none : NoneOpen sys) (tables : IsOfData (access.Scan span)) where
    pub going_vacuums : RunInvariant catalog fit (events ++ event.Take c text None ∷ []) (with_client sys c (RunsVacuum (Scanning span))) (at doing c None)
    going_vacuums = turned catalog fit events sys (with_client sys c (RunsVacuum (Scanning span))) doing g c None q (record {
      plan = g.plan;
      x = with_waiting x s;
      ran = ran;
      same = same;
      system = sweep_starts g.plan (q ∷ g.past) sys c span (record { ok = quiet_turn g.plan g.past sys q.event g.system (record { quiet = refl; other = λ e. none_some e }); at = at_rest }) none tables;
      by = refl;
      others = client_stands sys c (RunsVacuum (Scanning span));
      story = story_asks events g.past sys (with_client sys c (RunsVacuum (Scanning span))) c x q text story here_now.1 refl tt (plain_apart g.past c Other tt) (keeps Resting (RunsVacuum (Scanning span)) at_rest (λ u h. h));
      own = record { ended = (kept q tt).0; opened = (kept q tt).1; next_state = subst (IsOpenOf None (with_waiting x s) (ran n)) (sym (here (RunsVacuum (Scanning span)))) (here_now.0, tt) };
      as_read = noted_asks events c q.event (sys.clients c) x ran (g.as_read c) ((with_client sys c (RunsVacuum (Scanning span))).clients c) s refl (subst (IsMadeSince (events ++ q.event ∷ []) c (Some s)) (sym (here (RunsVacuum (Scanning span)))) tt);
    })
      where
        none_some : ◌≡◌ {A = Option Answer} None (Some answer.Committed) → ⊥
        none_some e = cc

        q : Labelled
        q = labelled_with Other (event.Take c text None)

        s : Executed
        s = executed_of_take events text None

        here_now : IsClosed x.rest × (x.waiting ≡ None)
        here_now = hand_at Resting at_rest

  ---- answered as it is accepted

  module _ (text : List ℕ) (b : Answer) where
    abbrev accepted : Event
    accepted = event.Take c text (Some b)

    abbrev answered : Executed
    answered = executed_of_take events text (Some b)

    quiet : IsMild b → IsQuiet accepted
    quiet m = record { quiet = refl; other = uncommitted (Some b) b refl m }

    -- outside of a transaction
    pub going_outside : sys.clients c ≡ Resting → IsMild b → RunInvariant catalog fit (events ++ accepted ∷ []) sys (at doing c None)
    going_outside at_rest m = turned catalog fit events sys sys doing g c None q (record {
      plan = g.plan;
      x = with_answered x answered;
      ran = ran;
      same = same;
      system = quiet_turn g.plan g.past sys accepted g.system (quiet m);
      by = refl;
      others = record { clients = λ d h. refl; begun = λ d h. refl };
      story = story_answers events g.past sys sys c x q answered story (said_at_once events g.past sys c x q text b story now_here.1 refl) (subst (λ r. MayCome r answered) (sym closed.1) (uncommitted (Some b) b refl m)) (subst (λ r. IsOrdinary r answered) (sym closed.1) plain) tt (plain_apart g.past c Other tt) (record { begun = refl; hold = λ u h. h });
      own = goes_gap catalog fit g.plan (q ∷ g.past) c None (sys.clients c) x ran answered closed.0 closed.1 plain (kept q tt).0 (subst (IsOpenOf None (telling_of (gone x closed.0 answered)) (ran n)) (sym at_rest) (tt, refl));
      as_read = noted_gap events c q.event (sys.clients c) x ran (g.as_read c) (sys.clients c) answered closed.0 closed.1 plain;
    })
      where
        q : Labelled
        q = labelled_with Other accepted

        now_here : IsClosed x.rest × (x.waiting ≡ None)
        now_here = hand_at Resting at_rest

        closed : (gap : List Executed) × (x.rest ≡ Closed gap)
        closed = closed_as x.rest now_here.0

        plain : begins answered ≡ false
        plain = mild_begins answered b refl m

  ---- answers inside of a transaction

  -- what is owed where a statement is answered inside of an open transaction that stays open
  module _ (q : Labelled) (plain : IsPlainRole q.action) (s : Executed) (b : Answer) (said_so : s.answer ≡ Some b) (m : IsMild b) (no_commit : reads_commit s.text ≡ false) (is : IsAnswerOf events c x q s) (opened : IsOpened x.rest) (i : TxId) (seen : Seen) (y : ClientAt) (at_y : sys.clients c ≡ y) (mine : (u : ℕ) → i.0 ≡ u → Has y u) where
    parts : (gap : List Executed) × (b : Executed) × (body : List Executed) × (x.rest ≡ Opened gap b body)
    parts = opened_as x.rest opened

    -- the tables with which its transaction began
    abbrev under : List Table
    under = catalog_at_begin catalog (q ∷ g.past) (number c n)

    goes_on : ends s ≡ false
    goes_on = mild_ends s b said_so m no_commit

    pub inside_story : (z : Seen) → HistoryStep events g.past q (with_client sys c (Open i z)) c (with_answered x s)
    inside_story z = story_answers events g.past sys (with_client sys c (Open i z)) c x q s story is (subst (λ r. MayCome r s) (sym parts.3) (mild_begins s b said_so m, λ e. uncommitted s.answer b said_so m)) (subst (λ r. IsOrdinary r s) (sym parts.3) goes_on) (plain_counts q.action plain) (plain_apart g.past c q.action plain) (keeps y (Open i z) at_y mine)

    -- with what it has run then
    inside_own : (r : Execution) (z : Seen) → RanOk catalog fit g.plan (q ∷ g.past) (number c n) (parts.2 ++ s ∷ []) r → r.seen ≡ z → ClientInvariant catalog fit g.plan (q ∷ g.past) c None ((with_client sys c (Open i z)).clients c) (with_answered x s) (at ran n r)
    inside_own r z ok e = goes_inside catalog fit g.plan (q ∷ g.past) c None ((with_client sys c (Open i z)).clients c) x ran s parts.0 parts.1 parts.2 r parts.3 goes_on (kept q plain).0 ok (subst (IsOpenOf None (telling_of (inside x parts.0 parts.1 parts.2 s)) r) (sym (here (Open i z))) (tt, refl, e))

    before_it : RanOk catalog fit g.plan (q ∷ g.past) (number c n) parts.2 (ran n)
    before_it = open_ran q plain parts.0 parts.1 parts.2 parts.3

    -- with what that noted
    inside_noted : (r : Execution) (z : Seen) → ReadSetInside (events ++ q.event ∷ []) c (parts.2 ++ s ∷ []) r.seen → ReadSetsOfClient (events ++ q.event ∷ []) c ((with_client sys c (Open i z)).clients c) (with_answered x s) (at ran n r)
    inside_noted r z ok = noted_inside events c q.event (sys.clients c) x ran (g.as_read c) ((with_client sys c (Open i z)).clients c) s parts.0 parts.1 parts.2 r parts.3 goes_on ok

    noted_before : ReadSetInside events c parts.2 (ran n).seen
    noted_before = open_noted events c q.event (sys.clients c) x ran (g.as_read c) parts.0 parts.1 parts.2 parts.3

    just : IsJustAnswered events s
    just = (ap is_some said_so, is.answered ∙ by (length events))
      where
        by : (m : ℕ) → m + 1 ≡ 1 + m
        by m = omega arith

    -- it noted nothing
    pub idle_noted : ReadsNothing (events ++ q.event ∷ []) c s → ReadSetsOfClient (events ++ q.event ∷ []) c ((with_client sys c (Open i seen)).clients c) (with_answered x s) (at ran n (ran n))
    idle_noted none = inside_noted (ran n) seen (inside_nothing events c q.event parts.2 (ran n).seen s just none noted_before)

    -- as one that was answered as it was accepted
    idle_at_once : s.accepted ≡ 1 + length events → ReadSetsOfClient (events ++ q.event ∷ []) c ((with_client sys c (Open i seen)).clients c) (with_answered x s) (at ran n (ran n))
    idle_at_once now = idle_noted (at_once events c q.event s just now)

    -- it was answered from rows that were read before
    rows_noted : (r : Execution) (changes : List Keyed) → (ran n).seen ≡ seen → s.accepted ≡ 1 + length events → r.seen ≡ with_written seen changes → ReadSetsOfClient (events ++ q.event ∷ []) c ((with_client sys c (Open i (with_written seen changes))).clients c) (with_answered x s) (at ran n r)
    rows_noted r changes e now same = inside_noted r (with_written seen changes) (subst (ReadSetInside (events ++ q.event ∷ []) c (parts.2 ++ s ∷ [])) (sym same) (written_noted (events ++ q.event ∷ []) c (parts.2 ++ s ∷ []) seen changes
        (subst (ReadSetInside (events ++ q.event ∷ []) c (parts.2 ++ s ∷ [])) e (inside_nothing events c q.event parts.2 (ran n).seen s just (at_once events c q.event s just now) noted_before))))

    -- its own read was done
    pub done_noted : (r : Execution) (a : Access) (images : List Record) → (ran n).seen ≡ seen → RecordsRead (events ++ q.event ∷ []) c s a images → r.seen ≡ with_read seen a images
        → ReadSetsOfClient (events ++ q.event ∷ []) c ((with_client sys c (Open i (with_read seen a images))).clients c) (with_answered x s) (at ran n r)
    done_noted r a images e reads same = inside_noted r (with_read seen a images) (subst (ReadSetInside (events ++ q.event ∷ []) c (parts.2 ++ s ∷ [])) (sym same) (inside_read events c q.event parts.2 seen s a images just reads (subst (ReadSetInside events c parts.2) e noted_before)))

    -- or it was answered from the rows of its own read
    pub read_noted : (r : Execution) (a : Access) (images : List Record) (changes : List Keyed) → (ran n).seen ≡ seen → RecordsRead (events ++ q.event ∷ []) c s a images → r.seen ≡ with_written (with_read seen a images) changes
        → ReadSetsOfClient (events ++ q.event ∷ []) c ((with_client sys c (Open i (with_written (with_read seen a images) changes))).clients c) (with_answered x s) (at ran n r)
    read_noted r a images changes e reads same = inside_noted r (with_written (with_read seen a images) changes) (subst (ReadSetInside (events ++ q.event ∷ []) c (parts.2 ++ s ∷ [])) (sym same) (written_noted (events ++ q.event ∷ []) c (parts.2 ++ s ∷ []) (with_read seen a images) changes
        (inside_read events c q.event parts.2 seen s a images just reads (subst (ReadSetInside events c parts.2) e noted_before))))

    -- it changed nothing
    pub idle_own : (changes_nothing b ≡ true) → (ran n).seen ≡ seen → ClientInvariant catalog fit g.plan (q ∷ g.past) c None ((with_client sys c (Open i seen)).clients c) (with_answered x s) (at ran n (ran n))
    idle_own idle e = inside_own (ran n) seen (record {
      inside = record { seen = before_it.inside.seen; body = before_it.inside.body; executed = said_nothing_more parts.2 s (ran n) before_it.inside.executed (effective_by s b true said_so idle) };
      planned = before_it.planned;
    }) e

    -- it changed nothing, and what it read is noted
    pub kept_own : (read : Seen) → changes_nothing b ≡ true → SeenOk (q ∷ g.past) read → BodyOk under (fit under) (ran n).body (ran n).answers read → (protocol_state g.past).accepted (number c n) ≡ false
        → ClientInvariant catalog fit g.plan (q ∷ g.past) c None ((with_client sys c (Open i read)).clients c) (with_answered x s) (at ran n (record { seen = read; now = (ran n).now; body = (ran n).body; answers = (ran n).answers }))
    kept_own read idle known body fresh = inside_own (record { seen = read; now = (ran n).now; body = (ran n).body; answers = (ran n).answers }) read (record {
      inside = record { seen = known; body = body; executed = let was = said_nothing_more parts.2 s (ran n) before_it.inside.executed (effective_by s b true said_so idle) in record { read = was.read; answered = was.answered } };
      planned = λ h. clash (sym h ∙ (same_of g.past q (number c n) (plain_not (number c n) q.action plain)).accepted ∙ fresh);
    }) refl

    -- it was answered from rows of an access that was read, and its changes were written
    pub more_own : (st : Statement) (read : Seen) (a : Access) (changes : List Keyed) → SeenOk (q ∷ g.past) read → SeenOk (q ∷ g.past) (with_written read changes) → BodyOk under (fit under) (ran n).body (ran n).answers read → IsCovered read a → AnswersOn under (fit under) read st a b changes → Reads s.text st → changes_nothing b ≡ false → (protocol_state g.past).accepted (number c n) ≡ false
        → ClientInvariant catalog fit g.plan (q ∷ g.past) c None ((with_client sys c (Open i (with_written read changes))).clients c) (with_answered x s) (at ran n (record { seen = with_written read changes; now = (ran n).now; body = (ran n).body ++ st ∷ []; answers = (ran n).answers ++ b ∷ [] }))
    more_own st read a changes known written body covered answers reads effective fresh = inside_own run (with_written read changes) (record {
      inside = record {
        seen = written;
        body = body_step (q ∷ g.past) under (fit under) (ran n).body (ran n).answers read st a b changes body known covered answers;
        executed = said_one_more parts.2 s (ran n) run st b before_it.inside.executed (effective_by s b false said_so effective) reads said_so refl refl;
      };
      planned = λ h. clash (sym h ∙ untaken_still);
    }) refl
      where
        run : Execution
        run = record { seen = with_written read changes; now = (ran n).now; body = (ran n).body ++ st ∷ []; answers = (ran n).answers ++ b ∷ [] }

        untaken_still : (protocol_state (q ∷ g.past)).accepted (number c n) ≡ false
        untaken_still = (same_of g.past q (number c n) (plain_not (number c n) q.action plain)).accepted ∙ fresh

  ---- where a transaction is open

  module _ (i : TxId) (seen : Seen) (at_open : sys.clients c ≡ Open i seen) where
    its_id : i.0 ≡ number c n
    its_id = (story.hold i.0 (subst (λ w. Has w i.0) (sym at_open) refl)).1

    not_taken : (protocol_state g.past).accepted (number c n) ≡ false
    not_taken = ap (protocol_state g.past).accepted (sym its_id) ∙ (client_at (Open i seen) at_open).0.fresh

    held : IsOpened x.rest × (x.waiting ≡ None) × ((ran n).seen ≡ seen)
    held = hand_at (Open i seen) at_open

    module _ (text : List ℕ) (b : Answer) where
      abbrev event_of : Event
      event_of = event.Take c text (Some b)

      abbrev labelled : Labelled
      labelled = labelled_with Other event_of

      abbrev said_of_it : Executed
      said_of_it = executed_of_take events text (Some b)

      is_said : IsAnswerOf events c x labelled said_of_it
      is_said = said_at_once events g.past sys c x labelled text b story held.1 refl

      system_now : IsMild b → SystemOk g.plan (labelled ∷ g.past) sys
      system_now m = quiet_turn g.plan g.past sys event_of g.system (record { quiet = refl; other = uncommitted (Some b) b refl m })

      unmoved : (u : ℕ) → i.0 ≡ u → Has (Open i seen) u
      unmoved u h = h

      back_again : with_client sys c (Open i seen) ≡ sys
      back_again = λ j. record { clients = λ u. by u (u == c) refl j; begun = sys.begun }
        where
          is : (m k : ℕ) → (m == k) ≡ true → m ≡ k
          is m k e = grind (arith, nat_tests)

          by : (u : ℕ) (z : Bool) → (u == c) ≡ z → (if z then Open i seen else sys.clients u) ≡ sys.clients u
          by u true e = sym (ap sys.clients (is u c e) ∙ at_open)
          by u false e = refl

      -- a statement that changes nothing
      pub going_idle : changes_nothing b ≡ true → reads_commit text ≡ false → RunInvariant catalog fit (events ++ event_of ∷ []) (with_client sys c (Open i seen)) (at doing c None)
      going_idle idle no_commit = turned catalog fit events sys (with_client sys c (Open i seen)) doing g c None labelled (record {
        plan = g.plan;
        x = with_answered x said_of_it;
        ran = at ran n (ran n);
        same = same;
        system = subst (SystemOk g.plan (labelled ∷ g.past)) (sym back_again) (system_now (nothing_mild b idle));
        by = refl;
        others = client_stands sys c (Open i seen);
        story = inside_story labelled tt said_of_it b refl (nothing_mild b idle) no_commit is_said held.0 i seen (Open i seen) at_open unmoved seen;
        own = idle_own labelled tt said_of_it b refl (nothing_mild b idle) no_commit is_said held.0 i seen (Open i seen) at_open unmoved idle held.2;
        as_read = idle_at_once labelled tt said_of_it b refl (nothing_mild b idle) no_commit is_said held.0 i seen (Open i seen) at_open unmoved refl;
      })

      -- a statement that is answered from what was read before
      pub going_answers : (st : Statement) (a : Access) (changes : List Keyed) → is_answered_from_rows b ≡ true → reads_commit text ≡ false → Reads text st → IsCovered seen a → AnswersOn tables_now (fit tables_now) seen st a b changes → AreChanges seen.read_set changes
          → RunInvariant catalog fit (events ++ event_of ∷ []) (with_client sys c (Open i (with_written seen changes))) (at doing c None)
      going_answers st a changes rows no_commit reads covered answers valid = turned catalog fit events sys next doing g c None labelled (record {
        plan = g.plan;
        x = with_answered x said_of_it;
        ran = at ran n (record { seen = with_written seen changes; now = (ran n).now; body = (ran n).body ++ st ∷ []; answers = (ran n).answers ++ b ∷ [] });
        same = same;
        system = system;
        by = refl;
        others = client_stands sys c (Open i (with_written seen changes));
        story = inside_story labelled tt said_of_it b refl m.0 no_commit is_said held.0 i seen (Open i seen) at_open unmoved (with_written seen changes);
        own = more_own labelled tt said_of_it b refl m.0 no_commit is_said held.0 i seen (Open i seen) at_open unmoved st seen a changes
            (subst (SeenOk (labelled ∷ g.past)) held.2 (before_it labelled tt said_of_it b refl m.0 no_commit is_said held.0 i seen (Open i seen) at_open unmoved).inside.seen)
            (subst (ClientOk g.plan (labelled ∷ g.past) c) (here (Open i (with_written seen changes))) (system.each c)).1
            (subst (BodyOk under_it (fit under_it) (ran n).body (ran n).answers) held.2 (before_it labelled tt said_of_it b refl m.0 no_commit is_said held.0 i seen (Open i seen) at_open unmoved).inside.body)
            covered (subst (λ (ts : List Table). AnswersOn ts (fit ts) seen st a b changes) (sym (under_now labelled tt i its_id (client_at (Open i seen) at_open).0)) answers) reads m.1 not_taken;
        as_read = rows_noted labelled tt said_of_it b refl m.0 no_commit is_said held.0 i seen (Open i seen) at_open unmoved (record { seen = with_written seen changes; now = (ran n).now; body = (ran n).body ++ st ∷ []; answers = (ran n).answers ++ b ∷ [] }) changes held.2 refl refl;
      })
        where
          m : IsMild b × (changes_nothing b ≡ false)
          m = rows_mild b rows

          under_it : List Table
          under_it = catalog_at_begin catalog (labelled ∷ g.past) (number c n)

          next : SystemAt
          next = with_client sys c (Open i (with_written seen changes))

          system : SystemOk g.plan (labelled ∷ g.past) next
          system = writes g.plan (labelled ∷ g.past) sys c i seen changes (record { ok = system_now m.0; at = at_open }) valid

      -- a statement that ends the transaction without a call: ROLLBACK, or a COMMIT that is out of memory
      going_leaves : b ≢ answer.Committed → begins said_of_it ≡ false → ends said_of_it ≡ true → ((u : TxId) → b ≡ answer.Unknown u → true ≡ false) → RunInvariant catalog fit (events ++ event_of ∷ []) (with_client sys c Resting) (at doing c None)
      going_leaves other plain last known = turned catalog fit events sys (with_client sys c Resting) doing g c None q (record {
        plan = g.plan;
        x = with_answered x said_of_it;
        ran = ran;
        same = same;
        system = leave_turn g.plan g.past sys c i seen event_of (agrees (Open i seen) at_open) refl (record { quiet = refl; other = λ e. other (some_is b answer.Committed e) });
        by = refl;
        others = client_stands sys c Resting;
        story = story_ends events g.past sys (with_client sys c Resting) c x q said_of_it parts.0 parts.1 parts.2 story parts.3 (said_at_once events g.past sys c x q text b story held.1 refl) plain last (ap Some its_id) (λ u e. clash (known u (some_is b (answer.Unknown u) e))) tt (plain_apart g.past c Other tt) (record { begun = refl; hold = λ u h. subst (λ w. Has w u) (here Resting) h });
        own = goes_over catalog fit g.plan (q ∷ g.past) c None ((with_client sys c Resting).clients c) x ran said_of_it parts.0 parts.1 parts.2 parts.3 last (kept q tt).0 (open_ran q tt parts.0 parts.1 parts.2 parts.3) (λ r. subst (IsOpenOf None (telling_of (over x parts.0 parts.1 parts.2 said_of_it)) r) (sym (here Resting)) (tt, refl));
        as_read = noted_over events c q.event (sys.clients c) x ran (g.as_read c) ((with_client sys c Resting).clients c) said_of_it parts.0 parts.1 parts.2 parts.3 last;
      })
        where
          q : Labelled
          q = ends_with i.0 Other event_of

          parts : (gap : List Executed) × (b : Executed) × (body : List Executed) × (x.rest ≡ Opened gap b body)
          parts = opened_as x.rest held.0

      pub going_leaves_so : LeavesAtOnce text b → RunInvariant catalog fit (events ++ event_of ∷ []) (with_client sys c Resting) (at doing c None)
      going_leaves_so (inl h) = going_leaves (λ e. absurd (cc (sym h.0 ∙ e))) (ap (λ z. z && is_done (Some b)) h.1) over_now (λ u e. absurd (cc (sym h.0 ∙ e)))
        where
          rolls : (reads_rollback text && is_done (Some b)) ≡ true
          rolls = ap (λ z. z && is_done (Some b)) h.2 ∙ ap (λ z. is_done (Some z)) h.0

          second : (z : Bool) → (z || true) ≡ true
          second true = refl
          second false = refl

          over_now : ends said_of_it ≡ true
          over_now = ap (λ z. (reads_commit text || is_conflict (Some b)) || z) rolls ∙ second (reads_commit text || is_conflict (Some b))
      going_leaves_so (inr h) = going_leaves (λ e. absurd (cc (sym h.0 ∙ e))) (ap (λ z. reads_begin text && is_done (Some z)) h.0 ∙ no_second (reads_begin text)) (commit_ends said_of_it h.1) (λ u e. absurd (cc (sym h.0 ∙ e)))

  ---- a client stops

  pub invariant_stops : RunInvariant catalog fit (events ++ event.Stop c ∷ []) (with_client sys c Stopped) (at doing c None)
  invariant_stops = turned catalog fit events sys (with_client sys c Stopped) doing g c None q (record {
    plan = g.plan;
    x = x;
    ran = ran;
    same = same;
    system = stop_turn g.plan g.past sys c g.system;
    by = refl;
    others = client_stands sys c Stopped;
    story = story_stays events g.past sys (with_client sys c Stopped) c x q story tt (plain_apart g.past c q.action tt) (record { begun = refl; hold = λ u h. absurd (subst (λ z. Has z u) (here Stopped) h) }) (silent q.event (λ ss k. refl));
    own = record { ended = (kept q tt).0; opened = (kept q tt).1; next_state = subst (IsOpenOf None x (ran n)) (sym (here Stopped)) tt };
    as_read = noted_elsewhere events c q.event (sys.clients c) x ran (g.as_read c) ((with_client sys c Stopped).clients c) (subst (IsMadeSince (events ++ q.event ∷ []) c x.waiting) (sym (here Stopped)) tt);
  })
    where
      q : Labelled
      q = labelled_with (Stops c) (event.Stop c)
