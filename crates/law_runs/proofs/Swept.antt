-- Each VACUUM of an execution scans the tables in their order, and deletes the tombstones that it finds.
use Rattle.std.proofs.Common.{◌≡◌, ◌⊎◌, inl, inr, ◌<◌, ℕ, ℤ, true, List, [], ◌∷◌, ◌++◌, Option, Some, None, refl, sym, ap, subst, ◌∙◌, arith, ◌≤◌, ◌*◌, ◌+◌, suc, length, IfSome}
use Rattle.std.proofs.lemmas.List.{length-map}
use Rattle.std.specs.Prelude.{Contains, is_some}
use Rattle.std.specs.List.{AllByRecursion, count_by}
use Rattle.law_runs.specs.Types.{Answer, Event, How, Key, Next, Reply, Request, Script, Span, Statement, Table, VacuumStep}
use Rattle.sdb_types.proofs.Public.{clash, none_some}
use Rattle.sdb_model.specs.Catalogs.{catalog_after}
use Rattle.sdb_model.specs.declared.answer.Answer.TheVariants as answer
use Rattle.sdb_model.specs.declared.event.Event.TheVariants as event
use Rattle.sdb_model.specs.declared.statement.Statement.TheVariants as statement
use Rattle.sdb_model.specs.Calls.{StoreCall, calls_of}
use Rattle.sdb_model.specs.Causes.{IsCaused, IsCounted, removes}
use Rattle.sdb_model.specs.Rows.{Name}
use Rattle.sdb_model.specs.Sql.{reads_vacuum}
use Rattle.sdb_model.specs.Transactions.{Executed}
use Rattle.sdb_sqltext.proofs.Public.{one_statement, vacuum_read}
use Rattle.sdb_vacuum.specs.declared.work.VacuumStep.TheVariants as vacuuming
use Rattle.sdb_vacuum.specs.Vacuum.{Gives, Scanning, VacuumAt, begun as sweeping, spans_of, vacuum_step, whole}
use Rattle.sdb_txn.specs.Txn.{TxnAt}
use Rattle.sdb_client.specs.declared.next.Next.TheVariants as next
use Rattle.sdb_client.specs.Client.{ClientAt, Taking, after, answer_of, next_id, next_of, vacuum_left}
use Rattle.sdb_client.specs.Step.{Step, Takes}
use Rattle.law_clients.specs.History.{executed_of_take}
use Rattle.law_clients.specs.About.{IsIn, IsOfTables, IsVacuumStageIn, IsVacuumIn}
use Rattle.law_answers.proofs.Public.{IsDataTable, made_at, none_yet, of_within}
use Rattle.law_answers.specs.Invariant.{IsAnswered, IsWaiting, Knows}
use Rattle.sdb_client.specs.Execution.{IsExecution, IsPlayable, State, TakeStep}
use Rattle.law_runs.specs.Vacuums.{IsVacuumMost, ScansTables, VacuumsAreComplete, spans_asked, whole_tables}
use Rattle.law_runs.specs.World.{WorldAt, states_of, state_of}
use Rattle.law_runs.proofs.GivesUp.{each_of}
use Rattle.law_runs.proofs.Replies.{CallOf, SweepCall, call_of}
use Rattle.law_runs.proofs.Statements.{AreKept, SoBy, calls_more, known, none_in, replied_said, statements_so, waits_of}
use Rattle.law_runs.proofs.Steps.{Holds, execution_caused, execution_holds}
use Rattle.law_runs.proofs.SameTables.{same_whole}
use Rattle.sdb_model.proofs.Public.{same_length}
use Rattle.law_runs.proofs.VacuumCalls.{MostLeft, most_under, most_enough, most_more, most_so_far}
use Rattle.law_runs.proofs.Vacuuming.{AllDelete, AllDeleted, Going, LedTo, deletes_more, in_order, sweep_led}
use Rattle.law_runs.proofs.Takes.{TakenAs, taken_as, VacuumAtOnce, vacuum_taken}
use Rattle.sdb_model.specs.Tables.{is_data}

---- what is so of a VACUUM

-- all but the count
pub record HasSwept (catalog : List Table) (s : Executed) (calls : List StoreCall) : Type 0 where
  pub in_order : (rest : List Span) × (spans_asked calls ++ rest ≡ whole_tables catalog)
  pub most : IsVacuumMost catalog calls
  pub deletes : AllDelete calls
  pub done : (n : ℕ) → s.answer ≡ Some (answer.Count n) → (spans_asked calls ≡ whole_tables catalog) × AllDeleted calls

-- Where it goes on.
abbrev pub GoesOver : List Table → List StoreCall → Option VacuumAt → Type 0
GoesOver catalog calls None = Unit {0}
GoesOver catalog calls (Some v) = AllDelete calls × Going catalog calls v × MostLeft catalog calls v

abbrev pub SweepsSo : List Table → List Event → ℕ → Executed → Type 0
SweepsSo catalog events c s = reads_vacuum s.text ≡ true → HasSwept catalog s (calls_of events c s)

abbrev pub WaitsSweeping : List Table → List Event → ℕ → Executed → ClientAt → Type 0
WaitsSweeping catalog events c s h = GoesOver catalog (calls_of events c s) h.vacuum

---- it is accepted

most_first : (t : Table) (ts : List Table) → MostLeft (t ∷ ts) [] (sweeping (t ∷ ts))
most_first t ts = by (length (spans_of ts)) (length ts) (length-map ts whole)
  where
    by : (a b : ℕ) → a ≡ b → 0 + (a + 1) ≤ suc b + (0 + 5 * 0)
    by a b e = omega arith

no_deletes : (calls : List StoreCall) → calls ≡ [] → AllDelete calls
no_deletes calls none m has is = none_in m (subst (λ (ms : List StoreCall). Contains ms m) none has)

-- a VACUUM that is counted as it is accepted has no table to scan
taken_count : (n : ℕ) (q : Taking) (text : List ℕ) (h d : ClientAt) (a : Option Answer) → reads_vacuum text ≡ true → Step h (Takes q text) a d → a ≡ Some (answer.Count n) → q.catalog ≡ []
taken_count n q text h d a vacuums t e = by (subst (VacuumAtOnce q.catalog) e (vacuum_taken q text h a d t vacuums))
  where
    by : VacuumAtOnce q.catalog (Some (answer.Count n)) → q.catalog ≡ []
    by (inl z) = absurd (cc)
    by (inr (inl z)) = absurd (cc)
    by (inr (inr (inl z))) = absurd (cc)
    by (inr (inr (inr z))) = z.1

takes_sweeps : (w : WorldAt) (u : State) (c : ℕ) (text : List ℕ) (a : Option Answer) (t : TakeStep w.script w.events (state_of w) c text a u) → Holds w → SoBy (SweepsSo w.script.catalog) (WaitsSweeping w.script.catalog) (w.events ++ event.Take c text a ∷ []) c (executed_of_take w.events text a) t.client a
takes_sweeps w u c text (Some b) t h = λ vacuums. subst (HasSwept w.script.catalog (executed_of_take w.events text (Some b))) (sym (none_yet c w.events text (Some b))) (record {
  in_order = (whole_tables w.script.catalog, refl);
  most = omega arith;
  deletes = no_deletes [] refl;
  done = λ n e. (sym (ap whole_tables (taken_count n (record { catalog = catalog_after w.script.catalog w.events; now = w.clock; gate = t.gate; fresh = next_id t.client_slot.client }) text t.client_slot.client t.client (Some b) vacuums t.takes e)) ∙ same_whole w.script.catalog w.events, λ m r f. none_in m f.among);
})
takes_sweeps w u c text None t h = subst (λ (ms : List StoreCall). GoesOver w.script.catalog ms t.client.vacuum) (sym (none_yet c w.events text None)) (by (taken_as (record { catalog = catalog_after w.script.catalog w.events; now = w.clock; gate = t.gate; fresh = next_id t.client_slot.client }) text t.client_slot.client t.client t.takes))
  where
    idle : (d : ClientAt) → d.vacuum ≡ None → GoesOver w.script.catalog [] d.vacuum
    idle d e = subst (GoesOver w.script.catalog []) (sym e) tt

    begins : (x : Table) (xs : List Table) → catalog_after w.script.catalog w.events ≡ x ∷ xs → GoesOver w.script.catalog [] (Some (sweeping (x ∷ xs)))
    begins x xs e = (
      no_deletes [] refl,
      record { scanned = ap whole_tables (sym e) ∙ same_whole w.script.catalog w.events; seen = tt; left = λ m r f. none_in m f.among },
      most_under w.script.catalog (x ∷ xs) [] (sweeping (x ∷ xs)) (ap length (sym e) ∙ same_length w.script.catalog w.events) (most_first x xs),
    )

    by : TakenAs (record { catalog = catalog_after w.script.catalog w.events; now = w.clock; gate = t.gate; fresh = next_id t.client_slot.client }) t.client_slot.client t.client → GoesOver w.script.catalog [] t.client.vacuum
    by (inl z) = idle t.client (ap (λ (y : ClientAt). y.vacuum) z.left ∙ t.idle.free)
    by (inr (inl z)) = subst (λ (y : ClientAt). GoesOver w.script.catalog [] y.vacuum) (sym z.left) (begins z.table z.tables z.catalog)
    by (inr (inr z)) = idle t.client (ap (λ (y : ClientAt). y.vacuum) z.left ∙ t.idle.free)

---- a call is made

-- where it goes on, and where it is counted
pub more_of : (s : VacuumStep) → None ≡ answer_of s → s ≡ vacuuming.More
more_of vacuuming.More e = refl
more_of (vacuuming.Count n) e = absurd (cc)
more_of vacuuming.Faulted e = absurd (cc)
more_of (vacuuming.BadRecord key) e = absurd (cc)
more_of vacuuming.NoMemory e = absurd (cc)

count_of : (s : VacuumStep) (n : ℕ) → Some (answer.Count n) ≡ answer_of s → s ≡ vacuuming.Count n
count_of vacuuming.More n e = absurd (cc)
count_of (vacuuming.Count k) n e = cc
count_of vacuuming.Faulted n e = absurd (cc)
count_of (vacuuming.BadRecord key) n e = absurd (cc)
count_of vacuuming.NoMemory n e = absurd (cc)

pub after_keeps : (h : ClientAt) (n : Next) (u : TxnAt) → (after h n u).vacuum ≡ h.vacuum
after_keeps h next.Call u = refl
after_keeps h (next.Answer a) u = refl
after_keeps h (next.End a) u = refl

module _ (catalog : List Table) (events : List Event) (c : ℕ) (h d : ClientAt) (store : Name) (q : Request) (how : How) (r : Reply) (now : ℤ) (answered : List Executed) (x : Executed) (waits : IsWaiting catalog events c (is_some h.vacuum) x) (about : IsOfTables catalog h) (apart : (k : Key) → IsIn catalog k → is_data k ≡ true) (so : WaitsSweeping catalog events c x h) where
  abbrev E : Option Answer → List Event
  E a = events ++ event.Call c store q how r a ∷ []

  abbrev made : StoreCall
  made = made_at events store q how r

  abbrev ms : List StoreCall
  ms = calls_of events c x

  more : (a : Option Answer) → calls_of (E a) c (replied_said events x a) ≡ ms ++ made ∷ []
  more a = calls_more events c store q how r x waits.unanswered waits.accepted a

  older : AllByRecursion (λ y. y.at < made.at) ms
  older = each_of ms (λ y has. let low = of_within c events x y has in omega (arith, low))

  -- no VACUUM runs
  rests : (a : Option Answer) → h.vacuum ≡ None → d.vacuum ≡ None → SoBy (SweepsSo catalog) (WaitsSweeping catalog) (E a) c (replied_said events x a) d a
  rests None free left = subst (GoesOver catalog (calls_of (E None) c x)) (sym left) tt
  rests (Some b) free left = λ is. clash (sym is ∙ waits.vacuum ∙ ap is_some free)

  vacuums : (a : Option Answer) → SweepCall events c x h q r now a d → SoBy (SweepsSo catalog) (WaitsSweeping catalog) (E a) c (replied_said events x a) d a
  vacuums a z = by a refl
    where
      was : AllDelete ms × Going catalog ms z.v × MostLeft catalog ms z.v
      was = subst (GoesOver catalog ms) z.runs so

      inside : IsVacuumStageIn catalog z.v.stage
      inside = (subst (λ (o : Option VacuumAt). IfSome o (IsVacuumIn catalog)) z.runs about.vacuum).0

      of_data : (span : Span) → z.v.stage ≡ Scanning span → IsDataTable span.table
      of_data span e = apart (record { table = span.table; partition = []; clustering = [] }) (subst (IsVacuumStageIn catalog) e inside)

      deletes : AllDelete (ms ++ made ∷ [])
      deletes = deletes_more catalog ms made older z.v.stage z.is.1 z.pends was.1.seen was.0

      led : LedTo catalog (ms ++ made ∷ []) (vacuum_step z.v now r).0 (vacuum_step z.v now r).1
      led = sweep_led catalog ms made older z.v now z.is.1 z.pends was.1

      counted : (n : ℕ) → z.answered.step ≡ vacuuming.Count n → (spans_asked (ms ++ made ∷ []) ≡ whole_tables catalog) × AllDeleted (ms ++ made ∷ [])
      counted n e = subst (LedTo catalog (ms ++ made ∷ []) (vacuum_step z.v now r).0) (sym (subst (λ (s : VacuumStep). Gives (vacuum_step z.v now r) z.answered.left s) e z.answered.answered).1) led

      by : (b : Option Answer) → a ≡ b → SoBy (SweepsSo catalog) (WaitsSweeping catalog) (E b) c (replied_said events x b) d b
      by None e =
          let further : z.answered.step ≡ vacuuming.More = more_of z.answered.step (sym e ∙ z.answered.answer) in
          let gives : Gives (vacuum_step z.v now r) z.answered.left vacuuming.More = subst (λ (s : VacuumStep). Gives (vacuum_step z.v now r) z.answered.left s) further z.answered.answered in
          let left : d.vacuum ≡ Some (vacuum_step z.v now r).0 = z.answered.goes ∙ ap (λ (s : VacuumStep). vacuum_left s z.answered.left) further ∙ ap Some gives.0 in
          subst (λ (cs : List StoreCall). GoesOver catalog cs d.vacuum) (sym (more None))
          (subst (GoesOver catalog (ms ++ made ∷ [])) (sym left) (deletes, subst (LedTo catalog (ms ++ made ∷ []) (vacuum_step z.v now r).0) (sym gives.1) led, most_more catalog ms made z.v now of_data z.pends was.2))
      by (Some b) e = λ is. subst (HasSwept catalog (replied_said events x (Some b))) (sym (more (Some b))) (record {
        in_order = (z.v.spans, in_order catalog ms made older z.v z.is.1 z.pends was.1.scanned);
        most = most_enough catalog ms made z.v z.pends was.2;
        deletes = deletes;
        done = λ n f. counted n (count_of z.answered.step n (sym f ∙ sym e ∙ z.answered.answer));
      })

  call_sweeps : (a : Option Answer) → CallOf catalog events c answered x h q r now a d → SoBy (SweepsSo catalog) (WaitsSweeping catalog) (E a) c (replied_said events x a) d a
  call_sweeps a (inl z) = vacuums a z
  call_sweeps a (inr (inl z)) = rests a z.free (ap (λ (y : ClientAt). y.vacuum) z.left ∙ after_keeps h z.next z.u ∙ z.free)
  call_sweeps a (inr (inr z)) = rests a z.free (ap (λ (y : ClientAt). y.vacuum) z.left ∙ after_keeps h (next_of z.progress) z.u ∙ z.free)

---- every statement

pub sweeps_kept : AreKept SweepsSo WaitsSweeping
sweeps_kept = record {
  answered = λ catalog events e c s past so vacuums. subst (HasSwept catalog s) (sym past.calls) (so vacuums);
  waiting = λ catalog events e c s h still so. subst (λ (ms : List StoreCall). GoesOver catalog ms h.vacuum) (sym still.calls) so;
  takes = takes_sweeps;
  calls = λ w u c store q how r a t h k runs x waiting waits so. call_sweeps w.script.catalog w.events c t.client_slot.client t.client store q how r w.clock k.entries x waits (h.world.each t.place t.client_slot t.at).about h.world.playable.apart so a
      (call_of w.script.catalog w.events c t.client_slot.client k runs x waiting q r w.clock a t.client t.pending ((h.world.each t.place t.client_slot t.at).fitted t.goes_on) t.takes);
}

-- the count of a VACUUM is that of its deletes that were applied
counts_of : (events : List Event) (client : ℕ) (s : Executed) (n : ℕ) (catalog : List Table) → reads_vacuum s.text ≡ true → IsCaused catalog events client s (answer.Count n) → n ≡ count_by removes (calls_of events client s)
counts_of events client s n catalog vacuums (st, reads, counted) =
    subst (λ (x : Statement). IsCounted events client s x n) (one_statement s.text st statement.Vacuum reads ((vacuum_read s.text).0 vacuums)) counted

-- Each VACUUM of an execution sweeps the tables.
pub execution_sweeps : (script : Script) (events : List Event) → IsPlayable script → IsExecution script events → VacuumsAreComplete script.catalog events
execution_sweeps script events playable x client s has vacuums = full (by s.answer refl (statements_so SweepsSo WaitsSweeping sweeps_kept script events playable x client s has))
  where
    h : ClientAt
    h = (states_of x.last.client_slots client).client

    k : Knows script.catalog events client h
    k = (execution_holds script events playable x).caused.each client

    full : HasSwept script.catalog s (calls_of events client s) → ScansTables script.catalog s (calls_of events client s)
    full y = record {
      in_order = y.in_order;
      most = y.most;
      deletes = y.deletes;
      scans = λ n e. (y.done n e).0;
      deleted = λ n m r e f. (y.done n e).1 m r f;
      counts = λ n e. counts_of events client s n script.catalog vacuums ((execution_caused script events playable x).caused.caused client s (answer.Count n) has e);
    }

    -- one that waits is the VACUUM that runs
    runs : s.answer ≡ None → (v : Option VacuumAt) → h.vacuum ≡ v → GoesOver script.catalog (calls_of events client s) v → HasSwept script.catalog s (calls_of events client s)
    runs none (Some v) e so = record { in_order = (_, so.1.scanned); most = most_so_far script.catalog (calls_of events client s) v so.2; deletes = so.0; done = λ n f. none_some (answer.Count n) (sym none ∙ f) }
    runs none None e so = clash (sym vacuums ∙ (waits (known script.catalog events client h k s has)).vacuum ∙ ap is_some e)
      where
        waits : IsAnswered script.catalog events client s ⊎ (k.waiting ≡ Some s) → IsWaiting script.catalog events client (is_some h.vacuum) s
        waits (inl y) = none_some y.given (sym none ∙ y.is)
        waits (inr f) = waits_of script.catalog events client h k s f

    by : (o : Option Answer) → s.answer ≡ o → SoBy (SweepsSo script.catalog) (WaitsSweeping script.catalog) events client s h o → HasSwept script.catalog s (calls_of events client s)
    by None e so = runs e h.vacuum refl so
    by (Some b) e so = so vacuums
