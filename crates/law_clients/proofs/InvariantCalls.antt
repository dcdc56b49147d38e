-- Each call of a client, over what ties the events to the clients.
use Rattle.std.proofs.Common.{◌≡◌, ◌≤◌, inl, ℕ, ℤ, Bool, true, false, List, [], ◌∷◌, ◌++◌, length, Option, Some, None, IfSome, refl, sym, ap, ◌∙◌, subst}
use Rattle.std.specs.Prelude.{◌&&◌, ◌||◌}
use Rattle.law_clients.specs.Types.{Access, Answer, Event, How, Keyed, Outcome, Record, Reply, Request, Span, Statement, Table, TxId}
use Rattle.sdb_record.specs.declared.access.Access.TheVariants as access
use Rattle.sdb_model.specs.declared.answer.Answer.TheVariants as answer
use Rattle.sdb_model.specs.Rows.{Name}
use Rattle.sdb_model.specs.Exec.{Tables}
use Rattle.sdb_model.specs.Sql.{Reads, reads_begin, reads_commit, reads_rollback}
use Rattle.sdb_model.specs.Transactions.{Executed, begins, changes_nothing, ends, is_answered_from_rows, is_conflict, is_done, statements_by}
use Rattle.law_protocol.specs.History.{at}
use Rattle.law_protocol.specs.Lawful.{Labelled, id, protocol_state, ends_with, labelled_with}
use Rattle.sdb_phases.specs.declared.step.Outcome.TheVariants as outcome
use Rattle.sdb_phases.specs.Work.{Work}
use Rattle.sdb_phases.specs.Commit.{Stage, Preparing, Checking, Deciding, Forward, Stopping, Back, Over, pending, step}
use Rattle.sdb_snapshot.specs.Seen.{Seen, with_written}
use Rattle.sdb_snapshot.specs.Written.{AreChanges}
use Rattle.law_clients.specs.Reads.{MayRecord, SeenOk, with_read}
use Rattle.law_clients.specs.Owner.{StageOk, action_of}
use Rattle.law_clients.specs.ReadAt.{Done, IsOfData, ReadAt, read_pending, read_action, read_step}
use Rattle.law_clients.specs.Vacuum.{VacuumModel, Scanning, vacuum_call, vacuum_action, vacuum_model_step}
use Rattle.law_clients.specs.System.{ClientAt, ClientCall, ClientOk, Has, IsReplyTo, Open, Committing, Reading, Resting, RunsVacuum, SamePlans, IsInState, SystemAt, SystemOk, answer_at, call_event, commit_left, ending_at, idle, with_client}
use Rattle.sdb_client.specs.Step.{answer_of_outcome}
use Rattle.law_clients.proofs.Calls.{read_turn, read_ends_turn, vacuum_turn}
use Rattle.law_clients.proofs.Commit.{commit_turn, own_kept}
use Rattle.law_clients.proofs.Quiet.{gives_up, read_set, sweep_ends, sweep_goes, writes}
use Rattle.law_clients.specs.Body.{AnswersOn, BodyOk, IsCovered}
use Rattle.sdb_model.specs.Calls.{StoreCall}
use Rattle.sdb_model.specs.ReadSet.{read_finished}
use Rattle.law_clients.specs.Calls.{IsMade, RecordsRead, ReadMade, calls_since}
use Rattle.law_clients.specs.Filed.{number}
use Rattle.law_clients.specs.Left.{Execution}
use Rattle.law_clients.specs.Story.{Closed, MayCome, Opened}
use Rattle.law_clients.specs.History.{IsOpened, IsOrdinary, IsAnswerOf, KeepsTxns, HistoryInvariant, ClientHistory, executed_with_answer, with_answered}
use Rattle.law_clients.proofs.Answered.{commit_ends, said_later, story_answers, story_ends, telling_of}
use Rattle.law_clients.proofs.Bodies.{body_read}
use Rattle.law_clients.proofs.Histories.{story_stays}
use Rattle.law_clients.proofs.HistoryTurns.{client_stands}
use Rattle.law_clients.specs.Catalogs.{catalog_at_begin}
use Rattle.law_clients.specs.Invariant.{ClientInvariant, EndedOk, IsOpenOf, InsideOk, IsClosed, IsCommitting, RunInvariant, IsInner, IsMild, IsRunning, IsWaiting, OpenedOk, RanOk}
use Rattle.law_clients.specs.Progress.{FinishesOn}
use Rattle.law_clients.specs.ReadSets.{IsMadeSince}
use Rattle.law_clients.proofs.OtherClients.{turned}
use Rattle.law_clients.proofs.Mild.{mild_begins, nothing_mild, rows_finish, rows_mild, uncommitted}
use Rattle.law_clients.proofs.InvariantReads.{commit_made, made_reads, noted_elsewhere, noted_gap, noted_over, notes_read, notes_unfinished, since_read}
use Rattle.law_clients.proofs.InvariantTurns as one
use Rattle.law_clients.proofs.Small.{committing_as, running_as, twice, waiting_as}
use Rattle.law_clients.proofs.InvariantOwn.{IsPlainRole, closed_as, commit_plain, goes_gap, goes_over, gone, opened_as, over, plain_apart, plain_counts, read_plain, sweep_plain}
use Rattle.sdb_types.proofs.Public.{and_false as no_second, clash, some_is}

---- one client

module _ (catalog : List Table) (fit : List Table → Tables → Bool) (events : List Event) (sys : SystemAt) (doing : ℕ → Option Statement) (g : RunInvariant catalog fit events sys doing) (c : ℕ) where
  abbrev x : ClientHistory
  x = one.x catalog fit events sys doing g c

  abbrev ran : ℕ → Execution
  ran = one.ran catalog fit events sys doing g c

  abbrev n : ℕ
  n = one.n catalog fit events sys doing g c

  was : ClientInvariant catalog fit g.plan g.past c (doing c) (sys.clients c) x ran
  was = one.was catalog fit events sys doing g c

  story : HistoryInvariant events g.past sys c x
  story = one.story catalog fit events sys doing g c

  agrees : (y : ClientAt) → sys.clients c ≡ y → IsInState g.plan g.past sys c y
  agrees = one.agrees catalog fit events sys doing g c

  hand_at : (y : ClientAt) → sys.clients c ≡ y → IsOpenOf (doing c) x (ran n) y
  hand_at = one.hand_at catalog fit events sys doing g c

  client_at : (y : ClientAt) → sys.clients c ≡ y → ClientOk g.plan g.past c y
  client_at = one.client_at catalog fit events sys doing g c

  here : (y : ClientAt) → (with_client sys c y).clients c ≡ y
  here = one.here catalog fit events sys doing g c

  same : SamePlans g.plan g.plan g.past
  same = one.same catalog fit events sys doing g c

  keeps : (y z : ClientAt) → sys.clients c ≡ y → ((u : ℕ) → Has z u → Has y u) → KeepsTxns c sys (with_client sys c z)
  keeps = one.keeps catalog fit events sys doing g c

  kept : (q : Labelled) → IsPlainRole q.action → EndedOk catalog fit g.plan (q ∷ g.past) c x.whole ran × OpenedOk catalog fit g.plan (q ∷ g.past) (number c n) x.rest (ran n)
  kept = one.kept catalog fit events sys doing g c

  open_ran : (q : Labelled) → IsPlainRole q.action → (gap : List Executed) (b : Executed) (body : List Executed) → x.rest ≡ Opened gap b body → RanOk catalog fit g.plan (q ∷ g.past) (number c n) body (ran n)
  open_ran = one.open_ran catalog fit events sys doing g c

  module _ (store : Name) (request : Request) (how : How) (reply : Reply) (now : ℤ) where
    abbrev y : ClientCall
    y = record { client = c; store = store; request = request; how = how; reply = reply; now = now }

    call_silent : statements_by c (events ++ call_event y None ∷ []) ≡ statements_by c events
    call_silent = one.silent catalog fit events sys doing g c (call_event y None) (λ ss k. refl)

    ---- a call of a COMMIT

    module _ (p : Work) (s : Stage) (at_commit : sys.clients c ≡ Committing p s) (asked : IsReplyTo (pending p s) y) where
      held_then : IsOpened x.rest × IsCommitting x.waiting
      held_then = hand_at (Committing p s) at_commit

      commit_id : p.id.0 ≡ number c n
      commit_id = (story.hold p.id.0 (subst (λ w. Has w p.id.0) (sym at_commit) refl)).1

      abbrev after : Stage
      after = step p s reply

      -- the event, where the COMMIT is then at a stage
      abbrev played_at : Stage → Labelled
      played_at t = record { event = call_event y (answer_at t); action = action_of p s reply; ends = ending_at p.id.0 t }

      abbrev GoesTo : Stage → Type 0
      GoesTo t = RunInvariant catalog fit (events ++ call_event y (answer_at t) ∷ []) (with_client sys c (commit_left p t)) (at doing c None)

      system_at : (t : Stage) → after ≡ t → SystemOk g.plan (played_at t ∷ g.past) (with_client sys c (commit_left p t))
      system_at t e = subst (λ t. SystemOk g.plan (played_at t ∷ g.past) (with_client sys c (commit_left p t))) e (commit_turn g.plan g.past sys y p s (agrees (Committing p s) at_commit) asked)

      -- it makes a further call
      more : (t : Stage) → after ≡ t → answer_at t ≡ None → ending_at p.id.0 t ≡ None → commit_left p t ≡ Committing p t → GoesTo t
      more t e none unended left = subst (λ a. RunInvariant catalog fit (events ++ call_event y a ∷ []) (with_client sys c (commit_left p t)) (at doing c None)) (sym none) (turned catalog fit events sys (with_client sys c (commit_left p t)) doing g c None q (record {
        plan = g.plan;
        x = x;
        ran = ran;
        same = same;
        system = subst (λ z. SystemOk g.plan (z ∷ g.past) (with_client sys c (commit_left p t))) same_event (system_at t e);
        by = refl;
        others = client_stands sys c (commit_left p t);
        story = story_stays events g.past sys (with_client sys c (commit_left p t)) c x q story (plain_counts q.action plain) (plain_apart g.past c q.action plain) (keeps (Committing p s) (commit_left p t) at_commit (λ u h. subst (λ w. Has w u) left h)) call_silent;
        own = record { ended = (kept q plain).0; opened = (kept q plain).1; next_state = subst (IsOpenOf None x (ran n)) (sym (here (commit_left p t) ∙ left)) held_then };
        as_read = noted_elsewhere events c q.event (sys.clients c) x ran (g.as_read c) ((with_client sys c (commit_left p t)).clients c) (subst (IsMadeSince (events ++ q.event ∷ []) c x.waiting) (sym (here (commit_left p t))) (commit_made (events ++ q.event ∷ []) c x.waiting p t));
      }))
        where
          q : Labelled
          q = labelled_with (action_of p s reply) (call_event y None)

          plain : IsPlainRole q.action
          plain = commit_plain p s reply

          same_event : played_at t ≡ q
          same_event = λ j. record { event = call_event y (none j); action = action_of p s reply; ends = unended j }

      undone : (a : Outcome) → is_done (Some (answer_of_outcome a)) ≡ false
      undone outcome.Committed = refl
      undone (outcome.Conflict key found) = refl
      undone (outcome.Expired u) = refl
      undone outcome.Faulted = refl
      undone (outcome.Unknown u) = refl
      undone (outcome.BadRecord key) = refl
      undone outcome.NoMemory = refl

      -- Unknown names the transaction
      names_it : (a : Outcome) → after ≡ Over a → (u : TxId) → answer_of_outcome a ≡ answer.Unknown u → u ≡ id (number c n)
      names_it outcome.Committed e u h = absurd (cc (h))
      names_it (outcome.Conflict key found) e u h = absurd (cc (h))
      names_it (outcome.Expired v) e u h = absurd (cc (h))
      names_it outcome.Faulted e u h = absurd (cc (h))
      names_it (outcome.Unknown v) e u h = sym (unknown_is v u h) ∙ subst (λ t. StageOk g.plan (labelled_with (action_of p s reply) (call_event y None) ∷ g.past) p t) e (own_kept g.plan g.past c p s store request how reply None (client_at (Committing p s) at_commit) asked.asked asked.can) ∙ ap id commit_id
        where
          unknown_is : (v u : TxId) → answer.Unknown v ≡ answer.Unknown u → v ≡ u
          unknown_is v u h = cc
      names_it (outcome.BadRecord key) e u h = absurd (cc (h))
      names_it outcome.NoMemory e u h = absurd (cc (h))

      -- it is over
      ends_so : (a : Outcome) → after ≡ Over a → GoesTo (Over a)
      ends_so a e = turned catalog fit events sys (with_client sys c Resting) doing g c None q (record {
        plan = g.plan;
        x = with_answered x s_now;
        ran = ran;
        same = same;
        system = system_at (Over a) e;
        by = refl;
        others = client_stands sys c Resting;
        story = story_ends events g.past sys (with_client sys c Resting) c x q s_now parts.0 parts.1 parts.2 story parts.3 (said_later events g.past sys c x q w.0 store request how reply (answer_of_outcome a) story w.1 refl) begins_no (commit_ends s_now w.2) (ap Some commit_id) (λ u h. names_it a e u (some_is (answer_of_outcome a) (answer.Unknown u) h)) (plain_counts q.action plain) (plain_apart g.past c q.action plain) (record { begun = refl; hold = λ u h. subst (λ z. Has z u) (here Resting) h });
        own = goes_over catalog fit g.plan (q ∷ g.past) c None ((with_client sys c Resting).clients c) x ran s_now parts.0 parts.1 parts.2 parts.3 (commit_ends s_now w.2) (kept q plain).0 (open_ran q plain parts.0 parts.1 parts.2 parts.3) (λ r. subst (IsOpenOf None (telling_of (over x parts.0 parts.1 parts.2 s_now)) r) (sym (here Resting)) (tt, refl));
        as_read = noted_over events c q.event (sys.clients c) x ran (g.as_read c) ((with_client sys c Resting).clients c) s_now parts.0 parts.1 parts.2 parts.3 (commit_ends s_now w.2);
      })
        where
          q : Labelled
          q = played_at (Over a)

          plain : IsPlainRole q.action
          plain = commit_plain p s reply

          w : (w : Executed) × (x.waiting ≡ Some w) × (reads_commit w.text ≡ true)
          w = committing_as x.waiting held_then.1

          s_now : Executed
          s_now = executed_with_answer events w.0 (answer_of_outcome a)

          parts : (gap : List Executed) × (b : Executed) × (body : List Executed) × (x.rest ≡ Opened gap b body)
          parts = opened_as x.rest held_then.0

          begins_no : begins s_now ≡ false
          begins_no = ap (λ b. reads_begin w.0.text && b) (undone a) ∙ no_second (reads_begin w.0.text)

      by_stage : (t : Stage) → after ≡ t → GoesTo t
      by_stage (Preparing j) e = more (Preparing j) e refl refl refl
      by_stage (Checking j) e = more (Checking j) e refl refl refl
      by_stage (Deciding d) e = more (Deciding d) e refl refl refl
      by_stage (Forward j) e = more (Forward j) e refl refl refl
      by_stage (Stopping a m) e = more (Stopping a m) e refl refl refl
      by_stage (Back a m j) e = more (Back a m j) e refl refl refl
      by_stage (Over a) e = ends_so a e

      pub going_commit_calls : GoesTo after
      going_commit_calls = by_stage after refl

    ---- a call of a read

    module _ (i : TxId) (seen : Seen) (a : Access) (s : ReadAt) (at_read : sys.clients c ≡ Reading i seen a s) (asked : IsReplyTo (read_pending a s) y) where
      held_then_read : IsOpened x.rest × IsRunning (doing c) x.waiting × ((ran n).seen ≡ seen)
      held_then_read = hand_at (Reading i seen a s) at_read

      read_id : i.0 ≡ number c n
      read_id = (story.hold i.0 (subst (λ w. Has w i.0) (sym at_read) refl)).1

      read_untaken : (protocol_state g.past).accepted (number c n) ≡ false
      read_untaken = ap (protocol_state g.past).accepted (sym read_id) ∙ (client_at (Reading i seen a s) at_read).0.fresh

      abbrev next_read : ReadAt
      next_read = read_step s now reply

      made_then : IsMadeSince events c x.waiting (Reading i seen a s)
      made_then = subst (IsMadeSince events c x.waiting) at_read (g.as_read c).made

      -- the read goes on
      pub going_reads : RunInvariant catalog fit (events ++ call_event y None ∷ []) (with_client sys c (Reading i seen a next_read)) (at doing c (doing c))
      going_reads = turned catalog fit events sys (with_client sys c (Reading i seen a next_read)) doing g c (doing c) q (record {
        plan = g.plan;
        x = x;
        ran = ran;
        same = same;
        system = read_turn g.plan g.past sys y i seen a s None (agrees (Reading i seen a s) at_read) asked (λ e. none_some e);
        by = refl;
        others = client_stands sys c (Reading i seen a next_read);
        story = story_stays events g.past sys (with_client sys c (Reading i seen a next_read)) c x q story (plain_counts q.action plain) (plain_apart g.past c q.action plain) (keeps (Reading i seen a s) (Reading i seen a next_read) at_read (λ u h. h)) call_silent;
        own = record { ended = (kept q plain).0; opened = (kept q plain).1; next_state = subst (IsOpenOf (doing c) x (ran n)) (sym (here (Reading i seen a next_read))) held_then_read };
        as_read = noted_elsewhere events c q.event (sys.clients c) x ran (g.as_read c) ((with_client sys c (Reading i seen a next_read)).clients c) (subst (IsMadeSince (events ++ q.event ∷ []) c x.waiting) (sym (here (Reading i seen a next_read)))
            (made_reads events c x.waiting i seen a s store request how reply now None (g.as_read c).accepted made_then asked.asked asked.can));
      })
        where
          none_some : ◌≡◌ {A = Option Answer} None (Some answer.Committed) → ⊥
          none_some e = cc

          q : Labelled
          q = labelled_with (read_action s reply) (call_event y None)

          plain : IsPlainRole q.action
          plain = read_plain s reply

      -- the statement is answered
      module _ (b : Answer) (st : Statement) (runs : doing c ≡ Some st) where
        abbrev answered_q : Labelled
        answered_q = labelled_with (read_action s reply) (call_event y (Some b))

        w : (w : Executed) × (x.waiting ≡ Some w) × Reads w.text st × IsInner w.text
        w = running_as st x.waiting (subst (λ o. IsRunning o x.waiting) runs held_then_read.1)

        abbrev s_now : Executed
        s_now = executed_with_answer events w.0 b

        is_said_read : IsAnswerOf events c x answered_q s_now
        is_said_read = said_later events g.past sys c x answered_q w.0 store request how reply b story w.1 refl

        system_read : IsMild b → SystemOk g.plan (answered_q ∷ g.past) (with_client sys c (Reading i seen a next_read))
        system_read m = read_turn g.plan g.past sys y i seen a s (Some b) (agrees (Reading i seen a s) at_read) asked (uncommitted (Some b) b refl m)

        stands_read : IsMild b → IsInState g.plan (answered_q ∷ g.past) (with_client sys c (Reading i seen a next_read)) c (Reading i seen a next_read)
        stands_read m = record { ok = system_read m; at = here (Reading i seen a next_read) }

        taken_before : w.0.accepted ≤ length events
        taken_before = subst (λ o. IfSome o (λ (w : Executed). w.accepted ≤ length events)) w.1 (g.as_read c).accepted

        made_before : ReadMade (calls_since events c w.0.accepted) a s
        made_before = subst (λ o. IsMadeSince events c o (Reading i seen a s)) w.1 made_then

        made_now : ReadMade (calls_since (events ++ answered_q.event ∷ []) c w.0.accepted) a next_read
        made_now = since_read events c w.0.accepted a s store request how reply now (Some b) taken_before made_before asked.asked asked.can

        -- the tables with which its transaction began are those of the moment
        abbrev under : List Table
        under = catalog_at_begin catalog (answered_q ∷ g.past) (number c n)

        abbrev tables_now : List Table
        tables_now = one.tables_now catalog fit events sys doing g c

        under_now : under ≡ tables_now
        under_now = one.under_now catalog fit events sys doing g c answered_q (read_plain s reply) i read_id (client_at (Reading i seen a s) at_read).0

        inside_then : InsideOk under (fit under) (answered_q ∷ g.past) (opened_as x.rest held_then_read.0).2 (ran n)
        inside_then = (open_ran answered_q (read_plain s reply) (opened_as x.rest held_then_read.0).0 (opened_as x.rest held_then_read.0).1 (opened_as x.rest held_then_read.0).2 (opened_as x.rest held_then_read.0).3).inside

        -- with what the read was done with
        module _ (m : IsMild b) (images : List Record) (done : next_read ≡ Done images) (may : MayRecord seen a images) where
          system_noted : SystemOk g.plan (answered_q ∷ g.past) (with_client sys c (Open i (with_read seen a images)))
          system_noted = subst (SystemOk g.plan (answered_q ∷ g.past)) (twice sys c (Reading i seen a next_read) (Open i (with_read seen a images))) (read_set g.plan (answered_q ∷ g.past) (with_client sys c (Reading i seen a next_read)) c i seen a images (record { ok = system_read m; at = here (Reading i seen a next_read) ∙ ap (Reading i seen a) done }) may)

          body_noted : BodyOk under (fit under) (ran n).body (ran n).answers (with_read seen a images)
          body_noted = body_read (answered_q ∷ g.past) under (fit under) (ran n).body (ran n).answers seen a images (subst (SeenOk (answered_q ∷ g.past)) held_then_read.2 inside_then.seen) (subst (BodyOk under (fit under) (ran n).body (ran n).answers) held_then_read.2 inside_then.body)

          notes_done : FinishesOn a images b → RecordsRead (events ++ answered_q.event ∷ []) c s_now a images
          notes_done finishes = notes_read events c answered_q.event s_now b a images (refl, refl) refl finishes (client_at (Reading i seen a s) at_read).2 (subst (ReadMade (calls_since (events ++ answered_q.event ∷ []) c w.0.accepted) a) done made_now)

        -- as one that changes nothing, whose read has not finished
        pub going_fails : changes_nothing b ≡ true → ((ms : List StoreCall) (m : StoreCall) → ReadMade ms a s → IsMade m request reply → read_finished (ms ++ m ∷ []) b ≡ false) → RunInvariant catalog fit (events ++ call_event y (Some b) ∷ []) (with_client sys c (Open i seen)) (at doing c None)
        going_fails idle unfinished = turned catalog fit events sys (with_client sys c (Open i seen)) doing g c None answered_q (record {
          plan = g.plan;
          x = with_answered x s_now;
          ran = at ran n (ran n);
          same = same;
          system = subst (SystemOk g.plan (answered_q ∷ g.past)) (twice sys c (Reading i seen a next_read) (Open i seen)) (gives_up g.plan (answered_q ∷ g.past) (with_client sys c (Reading i seen a next_read)) c i seen a next_read (stands_read m));
          by = refl;
          others = client_stands sys c (Open i seen);
          story = one.inside_story catalog fit events sys doing g c answered_q plain s_now b refl m w.3.commit is_said_read held_then_read.0 i seen (Reading i seen a s) at_read (λ u h. h) seen;
          own = one.idle_own catalog fit events sys doing g c answered_q plain s_now b refl m w.3.commit is_said_read held_then_read.0 i seen (Reading i seen a s) at_read (λ u h. h) idle held_then_read.2;
          as_read = one.idle_noted catalog fit events sys doing g c answered_q plain s_now b refl m w.3.commit is_said_read held_then_read.0 i seen (Reading i seen a s) at_read (λ u h. h) (inl (notes_unfinished events c store request how reply s_now b (refl, refl) refl taken_before (λ m. unfinished (calls_since events c w.0.accepted) m made_before)));
        })
          where
            m : IsMild b
            m = nothing_mild b idle

            plain : IsPlainRole answered_q.action
            plain = read_plain s reply

        -- as one that changes nothing, whose read was done
        pub going_keeps : (images : List Record) → changes_nothing b ≡ true → FinishesOn a images b → next_read ≡ Done images → MayRecord seen a images → RunInvariant catalog fit (events ++ call_event y (Some b) ∷ []) (with_client sys c (Open i (with_read seen a images))) (at doing c None)
        going_keeps images idle finishes done may = turned catalog fit events sys (with_client sys c (Open i (with_read seen a images))) doing g c None answered_q (record {
          plan = g.plan;
          x = with_answered x s_now;
          ran = at ran n run;
          same = same;
          system = system_noted m images done may;
          by = refl;
          others = client_stands sys c (Open i (with_read seen a images));
          story = one.inside_story catalog fit events sys doing g c answered_q plain s_now b refl m w.3.commit is_said_read held_then_read.0 i seen (Reading i seen a s) at_read (λ u h. h) (with_read seen a images);
          own = one.kept_own catalog fit events sys doing g c answered_q plain s_now b refl m w.3.commit is_said_read held_then_read.0 i seen (Reading i seen a s) at_read (λ u h. h) (with_read seen a images) idle
              (subst (ClientOk g.plan (answered_q ∷ g.past) c) (here (Open i (with_read seen a images))) ((system_noted m images done may).each c)).1 (body_noted m images done may) read_untaken;
          as_read = one.done_noted catalog fit events sys doing g c answered_q plain s_now b refl m w.3.commit is_said_read held_then_read.0 i seen (Reading i seen a s) at_read (λ u h. h) run a images held_then_read.2 (notes_done m images done may finishes) refl;
        })
          where
            m : IsMild b
            m = nothing_mild b idle

            plain : IsPlainRole answered_q.action
            plain = read_plain s reply

            run : Execution
            run = record { seen = with_read seen a images; now = (ran n).now; body = (ran n).body; answers = (ran n).answers }

        -- from the rows that the read was done with
        pub going_tells : (images : List Record) (changes : List Keyed) → is_answered_from_rows b ≡ true → next_read ≡ Done images → MayRecord seen a images → IsCovered (with_read seen a images) a → AnswersOn tables_now (fit tables_now) (with_read seen a images) st a b changes → AreChanges (with_read seen a images).read_set changes
            → RunInvariant catalog fit (events ++ call_event y (Some b) ∷ []) (with_client sys c (Open i (with_written (with_read seen a images) changes))) (at doing c None)
        going_tells images changes rows done may covered answers valid = turned catalog fit events sys next doing g c None answered_q (record {
          plan = g.plan;
          x = with_answered x s_now;
          ran = at ran n (record { seen = written; now = (ran n).now; body = (ran n).body ++ st ∷ []; answers = (ran n).answers ++ b ∷ [] });
          same = same;
          system = system_written;
          by = refl;
          others = client_stands sys c (Open i written);
          story = one.inside_story catalog fit events sys doing g c answered_q plain s_now b refl m.0 w.3.commit is_said_read held_then_read.0 i seen (Reading i seen a s) at_read (λ u h. h) written;
          own = one.more_own catalog fit events sys doing g c answered_q plain s_now b refl m.0 w.3.commit is_said_read held_then_read.0 i seen (Reading i seen a s) at_read (λ u h. h) st read a changes
              (subst (ClientOk g.plan (answered_q ∷ g.past) c) (here (Open i read)) ((system_noted m.0 images done may).each c)).1
              (subst (ClientOk g.plan (answered_q ∷ g.past) c) (here (Open i written)) (system_written.each c)).1
              (body_noted m.0 images done may)
              covered (subst (λ (ts : List Table). AnswersOn ts (fit ts) read st a b changes) (sym under_now) answers) w.2 m.1 read_untaken;
          as_read = one.read_noted catalog fit events sys doing g c answered_q plain s_now b refl m.0 w.3.commit is_said_read held_then_read.0 i seen (Reading i seen a s) at_read (λ u h. h)
              (record { seen = written; now = (ran n).now; body = (ran n).body ++ st ∷ []; answers = (ran n).answers ++ b ∷ [] }) a images changes held_then_read.2
              (notes_done m.0 images done may (λ ms made. rows_finish ms b rows)) refl;
        })
          where
            m : IsMild b × (changes_nothing b ≡ false)
            m = rows_mild b rows

            plain : IsPlainRole answered_q.action
            plain = read_plain s reply

            read : Seen
            read = with_read seen a images

            written : Seen
            written = with_written read changes

            next : SystemAt
            next = with_client sys c (Open i written)

            system_written : SystemOk g.plan (answered_q ∷ g.past) next
            system_written = subst (SystemOk g.plan (answered_q ∷ g.past)) (twice sys c (Open i read) (Open i written)) (writes g.plan (answered_q ∷ g.past) (with_client sys c (Open i read)) c i read changes (record { ok = system_noted m.0 images done may; at = here (Open i read) }) valid)

        -- as one that ends the transaction: a key that was read differs
        pub going_differs : is_conflict (Some b) ≡ true → RunInvariant catalog fit (events ++ call_event y (Some b) ∷ []) (with_client sys c Resting) (at doing c None)
        going_differs conflict = turned catalog fit events sys (with_client sys c Resting) doing g c None q (record {
          plan = g.plan;
          x = with_answered x s_now;
          ran = ran;
          same = same;
          system = read_ends_turn g.plan g.past sys y i seen a s (Some b) (agrees (Reading i seen a s) at_read) asked (λ e. other (some_is b answer.Committed e));
          by = refl;
          others = client_stands sys c Resting;
          story = story_ends events g.past sys (with_client sys c Resting) c x q s_now parts.0 parts.1 parts.2 story parts.3 (said_later events g.past sys c x q w.0 store request how reply b story w.1 refl) begins_no over_now (ap Some read_id) (λ u e. clash (sym conflict ∙ ap is_conflict e)) (plain_counts q.action plain) (plain_apart g.past c q.action plain) (record { begun = refl; hold = λ u h. subst (λ z. Has z u) (here Resting) h });
          own = goes_over catalog fit g.plan (q ∷ g.past) c None ((with_client sys c Resting).clients c) x ran s_now parts.0 parts.1 parts.2 parts.3 over_now (kept q plain).0 (open_ran q plain parts.0 parts.1 parts.2 parts.3) (λ r. subst (IsOpenOf None (telling_of (over x parts.0 parts.1 parts.2 s_now)) r) (sym (here Resting)) (tt, refl));
          as_read = noted_over events c q.event (sys.clients c) x ran (g.as_read c) ((with_client sys c Resting).clients c) s_now parts.0 parts.1 parts.2 parts.3 over_now;
        })
          where
            q : Labelled
            q = ends_with i.0 (read_action s reply) (call_event y (Some b))

            plain : IsPlainRole q.action
            plain = read_plain s reply

            other : b ≡ answer.Committed → ⊥
            other e = clash (sym conflict ∙ ap (λ z. is_conflict (Some z)) e)

            parts : (gap : List Executed) × (b : Executed) × (body : List Executed) × (x.rest ≡ Opened gap b body)
            parts = opened_as x.rest held_then_read.0

            begins_no : begins s_now ≡ false
            begins_no = ap (λ z. z && is_done (Some b)) w.3.begin

            over_now : ends s_now ≡ true
            over_now = ap (λ z. (reads_commit w.0.text || z) || (reads_rollback w.0.text && is_done (Some b))) conflict ∙ second (reads_commit w.0.text) (reads_rollback w.0.text && is_done (Some b))
              where
                second : (z r : Bool) → ((z || true) || r) ≡ true
                second true r = refl
                second false r = refl

    ---- a call of a VACUUM

    module _ (v : VacuumModel) (at_sweep : sys.clients c ≡ RunsVacuum v) (asked : IsReplyTo (vacuum_call v) y) where
      held_then_sweep : IsClosed x.rest × IsWaiting x.waiting
      held_then_sweep = hand_at (RunsVacuum v) at_sweep

      abbrev next_sweep : VacuumModel
      next_sweep = vacuum_model_step v now reply

      abbrev vacuumed : Option Answer → Labelled
      vacuumed a = labelled_with (vacuum_action v reply) (call_event y a)

      system_swept : (a : Option Answer) → (a ≡ Some answer.Committed → ⊥) → SystemOk g.plan (vacuumed a ∷ g.past) (with_client sys c (RunsVacuum next_sweep))
      system_swept a other = vacuum_turn g.plan g.past sys y v a (agrees (RunsVacuum v) at_sweep) asked other

      stands_swept : (a : Option Answer) → (a ≡ Some answer.Committed → ⊥) → IsInState g.plan (vacuumed a ∷ g.past) (with_client sys c (RunsVacuum next_sweep)) c (RunsVacuum next_sweep)
      stands_swept a other = record { ok = system_swept a other; at = here (RunsVacuum next_sweep) }

      none_some_swept : ◌≡◌ {A = Option Answer} None (Some answer.Committed) → ⊥
      none_some_swept e = cc

      -- it goes on, and makes a further call, wherever it then is
      swept_on : (w : VacuumModel) → SystemOk g.plan (vacuumed None ∷ g.past) (with_client sys c (RunsVacuum w)) → RunInvariant catalog fit (events ++ call_event y None ∷ []) (with_client sys c (RunsVacuum w)) (at doing c None)
      swept_on w system = turned catalog fit events sys (with_client sys c (RunsVacuum w)) doing g c None q (record {
        plan = g.plan;
        x = x;
        ran = ran;
        same = same;
        system = system;
        by = refl;
        others = client_stands sys c (RunsVacuum w);
        story = story_stays events g.past sys (with_client sys c (RunsVacuum w)) c x q story (plain_counts q.action plain) (plain_apart g.past c q.action plain) (keeps (RunsVacuum v) (RunsVacuum w) at_sweep (λ u h. h)) call_silent;
        own = record { ended = (kept q plain).0; opened = (kept q plain).1; next_state = subst (IsOpenOf None x (ran n)) (sym (here (RunsVacuum w))) held_then_sweep };
        as_read = noted_elsewhere events c q.event (sys.clients c) x ran (g.as_read c) ((with_client sys c (RunsVacuum w)).clients c) (subst (IsMadeSince (events ++ q.event ∷ []) c x.waiting) (sym (here (RunsVacuum w))) tt);
      })
        where
          q : Labelled
          q = vacuumed None

          plain : IsPlainRole q.action
          plain = sweep_plain v reply

      -- with the rows of the table
      pub going_sweeps : RunInvariant catalog fit (events ++ call_event y None ∷ []) (with_client sys c (RunsVacuum next_sweep)) (at doing c None)
      going_sweeps = swept_on next_sweep (system_swept None none_some_swept)

      -- with a further table
      pub going_scans : (span : Span) → IsOfData (access.Scan span) → RunInvariant catalog fit (events ++ call_event y None ∷ []) (with_client sys c (RunsVacuum (Scanning span))) (at doing c None)
      going_scans span tables = swept_on (Scanning span) (subst (SystemOk g.plan (vacuumed None ∷ g.past)) (twice sys c (RunsVacuum next_sweep) (RunsVacuum (Scanning span))) (sweep_goes g.plan (vacuumed None ∷ g.past) (with_client sys c (RunsVacuum next_sweep)) c next_sweep span (stands_swept None none_some_swept) tables))

      -- it is answered
      pub going_swept : (b : Answer) → IsMild b → RunInvariant catalog fit (events ++ call_event y (Some b) ∷ []) (with_client sys c Resting) (at doing c None)
      going_swept b m = turned catalog fit events sys (with_client sys c Resting) doing g c None q (record {
        plan = g.plan;
        x = with_answered x s_now;
        ran = ran;
        same = same;
        system = subst (SystemOk g.plan (q ∷ g.past)) (twice sys c (RunsVacuum next_sweep) Resting) (sweep_ends g.plan (q ∷ g.past) (with_client sys c (RunsVacuum next_sweep)) c next_sweep (stands_swept (Some b) (uncommitted (Some b) b refl m)));
        by = refl;
        others = client_stands sys c Resting;
        story = story_answers events g.past sys (with_client sys c Resting) c x q s_now story (said_later events g.past sys c x q w.0 store request how reply b story w.1 refl) (subst (λ r. MayCome r s_now) (sym closed.1) (uncommitted (Some b) b refl m)) (subst (λ r. IsOrdinary r s_now) (sym closed.1) begins_no) (plain_counts q.action plain) (plain_apart g.past c q.action plain) (keeps (RunsVacuum v) Resting at_sweep (λ u h. h));
        own = goes_gap catalog fit g.plan (q ∷ g.past) c None ((with_client sys c Resting).clients c) x ran s_now closed.0 closed.1 begins_no (kept q plain).0 (subst (IsOpenOf None (telling_of (gone x closed.0 s_now)) (ran n)) (sym (here Resting)) (tt, refl));
        as_read = noted_gap events c q.event (sys.clients c) x ran (g.as_read c) ((with_client sys c Resting).clients c) s_now closed.0 closed.1 begins_no;
      })
        where
          q : Labelled
          q = vacuumed (Some b)

          plain : IsPlainRole q.action
          plain = sweep_plain v reply

          w : (w : Executed) × (x.waiting ≡ Some w)
          w = waiting_as x.waiting held_then_sweep.1

          s_now : Executed
          s_now = executed_with_answer events w.0 b

          closed : (gap : List Executed) × (x.rest ≡ Closed gap)
          closed = closed_as x.rest held_then_sweep.0

          begins_no : begins s_now ≡ false
          begins_no = mild_begins s_now b refl m
