-- A client that gets a reply to its read keeps what ties the events to the clients.
use Rattle.std.proofs.Common.{◌≢◌, ◌≡◌, ◌⊎◌, inl, inr, ℕ, Bool, true, false, not, ◌&&◌, ◌||◌, List, [], ◌∷◌, ◌++◌, Option, Some, None, refl, sym, ap, subst, ◌∙◌}
use Rattle.std.specs.Prelude.{if◌then◌else◌}
use Rattle.std.specs.Option.{option_map}
use Rattle.law_clients.specs.Types.{Access, Answer, Doing, Event, Key, Keyed, PlanStep, ReadStep, Record, Request, Scan, Table}
use Rattle.sdb_types.specs.Exactness.{span_is_exact}
use Rattle.sdb_record.specs.declared.access.Access.TheVariants as access
use Rattle.sdb_schema.specs.Catalog.{is_catalog}
use Rattle.sdb_model.specs.Catalogs.{catalog_after}
use Rattle.sdb_model.specs.declared.answer.Answer.TheVariants as answer
use Rattle.sdb_model.specs.Causes.{refused}
use Rattle.sdb_model.specs.Refused.{refusal_by}
use Rattle.sdb_model.specs.Transactions.{changes_nothing, is_answered_from_rows}
use Rattle.sdb_exec.specs.declared.plan.PlanStep.TheVariants.{Finished}
use Rattle.sdb_exec.specs.Plans.{Planned, finished, first_unfit, step_at, step_of}
use Rattle.sdb_model.specs.Reads.{access_of}
use Rattle.sdb_exec.proofs.Public.{named_is_table}
use Rattle.law_protocol.specs.History.{at}
use Rattle.sdb_txn.specs.declared.read.ReadStep.TheVariants as step
use Rattle.sdb_txn.specs.Read.{ReadAt, ReadStage, Asking, Resolving, Ended, read_pending_at, read_result, read_step, request_of}
use Rattle.sdb_snapshot.specs.Sets.{IsSetInvariant}
use Rattle.sdb_snapshot.specs.Reads.{reads_of}
use Rattle.sdb_snapshot.specs.Seen.{Seen, is_scanned, overlay, same_span, with_written}
use Rattle.sdb_snapshot.specs.Written.{AreChanges}
use Rattle.sdb_txn.specs.declared.txn.Doing.TheVariants as doing
use Rattle.sdb_txn.specs.Txn.{TxnAt, idle as idle_of, pending, pending_in}
use Rattle.sdb_vacuum.specs.Vacuum.{VacuumAt}
use Rattle.sdb_client.specs.Client.{ClientAt as Client, IsAsRead, gives, given_answer, given_left, holding, with_rows_read, pending_by, pending_of, resting, too_many, written}
use Rattle.sdb_client.specs.Inside.{IsValidPlan, IsKeyRead, MayWrite}
use Rattle.sdb_client.specs.Step.{Fails, HasFaulted, IsBusy, IsMalformed, OutOfMemory}
use Rattle.sdb_client.proofs.Public.{last_read, may_write}
use Rattle.law_clients.specs.Machine.{abstract_read}
use Rattle.law_clients.specs.Reads.{MayRecord, first_image, with_read}
use Rattle.law_clients.specs.ReadAt.{Done}
use Rattle.law_clients.specs.ReadAt as laws
use Rattle.law_clients.specs.System.{ClientAt, ClientCall, ClientOk, IsReplyTo, Open, Reading, SystemOk, call_event, with_client}
use Rattle.law_clients.proofs.Machine.{machine_asks, machine_steps}
use Rattle.law_clients.proofs.Quiet.{read_set}
use Rattle.law_clients.specs.Body.{AnswersOn, IsCovered}
use Rattle.law_clients.specs.Invariant.{RunInvariant}
use Rattle.law_clients.proofs.InvariantCalls.{going_differs, going_fails, going_keeps, going_reads, going_tells}
use Rattle.sdb_model.specs.Calls.{StoreCall}
use Rattle.sdb_model.specs.ReadSet.{finds_transactional, read_finished}
use Rattle.sdb_record.specs.Coordinator.{is_coordinator_table}
use Rattle.law_clients.specs.Calls.{AsksRows, HasUnchecked, IsMade, ReadMade, rows_left}
use Rattle.law_clients.proofs.Checks.{read_checks, read_unchecked}
use Rattle.law_clients.specs.Progress.{FinishesOn}
use Rattle.law_clients.proofs.InvariantReads.{not_rows}
use Rattle.law_clients.proofs.Finishing.{GoesFrom, answer_finishes, misfit_finishes, step_bad, unfit_inside}
use Rattle.law_clients.specs.Fitting.{tables_are_well_typed}
use Rattle.law_clients.specs.States.{ClientState, IsAskedBy, IsCalled, doing_of, abstract_txn, system_of}
use Rattle.law_clients.proofs.RowsFit.{answers_on}
use Rattle.law_clients.proofs.Asked.{from_rows}
use Rattle.law_clients.proofs.Accepted.{IsSo, moved}
use Rattle.sdb_types.proofs.Public.{by_test, itself as same_number, none_some, or_second as or_so}

---- what a read has noted

scanned_last : (xs : List Scan) (x : Scan) → is_scanned (xs ++ x ∷ []) x.span ≡ true
scanned_last [] x = ap (λ (b : Bool). b || false) ((span_is_exact x.span x.span).1 refl)
scanned_last (y ∷ xs) x = or_so (same_span y.span x.span) (is_scanned (xs ++ x ∷ []) x.span) (scanned_last xs x)

pub covered_now : (s : Seen) (a : Access) (images : List Record) → IsCovered (with_read s a images) a
covered_now s (access.Get key) images = last_read s.read_set key (first_image images)
covered_now s (access.Scan span) images = scanned_last s.scans (record { span = span; found = reads_of images })

pub key_read_now : (s : Seen) (a : Access) (images : List Record) → IsKeyRead (with_read s a images).read_set a
key_read_now s (access.Get key) images = last_read s.read_set key (first_image images)
key_read_now s (access.Scan span) images = tt

may_note : (t : TxnAt) (a : Access) (images : List Record) → IsAsRead t a images → MayRecord t.seen a images
may_note t (access.Get key) images h = h
may_note t (access.Scan span) images h = h

-- The transaction with what its read has found.
pub record IsNoting (t : TxnAt) (a : Access) (images : List Record) (v : TxnAt) : Type 0 where
  pub id : v.id ≡ t.id
  pub seen : v.seen ≡ with_read t.seen a images
  pub idle : v.doing ≡ doing.Idle

noting_first : (t : TxnAt) (key : Key) (images : List Record) → IsNoting t (access.Get key) images (with_rows_read t (access.Get key) images)
noting_first t key [] = record { id = refl; seen = refl; idle = refl }
noting_first t key (r ∷ rs) = record { id = refl; seen = refl; idle = refl }

pub is_noting : (t : TxnAt) (a : Access) (images : List Record) → IsNoting t a images (with_rows_read t a images)
is_noting t (access.Get key) images = noting_first t key images
is_noting t (access.Scan span) images = record { id = refl; seen = refl; idle = refl }

-- where a read has ended
pub ended : (s : ReadStage) (o : ReadStep) → read_result s ≡ o → o ≢ step.More → s ≡ Ended o
ended Asking o e n = absurd (n (sym e))
ended (Resolving images rec meta phase left) o e n = absurd (n (sym e))
ended (Ended r) o e n = ap Ended e

pub at_itself : {X : Type 0} (f : ℕ → X) (c : ℕ) (x : X) → at f c x c ≡ x
at_itself f c x = ap (λ (b : Bool). if b then x else f c) (same_number c)

module _ (catalog tables : List Table) (events : List Event) (current : tables ≡ catalog_after catalog events) (states : ℕ → ClientState) (g : RunInvariant catalog tables_are_well_typed events (system_of states) (doing_of states)) (y : ClientCall) (is : is_catalog tables ≡ true) (called : IsCalled tables states y) where
  abbrev pub now : Client
  now = (states y.client).client

  -- what ties them is so with the event of the call
  abbrev pub RepliedSo : Option Answer → Client → Type 0
  RepliedSo result d = IsSo catalog tables_are_well_typed states y.client d (events ++ call_event y result ∷ [])

  module _ (t : TxnAt) (p : Planned) (a : Access) (x : ReadAt) (free : now.vacuum ≡ None) (some : now.txn ≡ Some t) (reads : t.doing ≡ doing.Read a x) (plan : now.plan ≡ Some p) (k : IsAskedBy tables p a x) where
    here : (system_of states).clients y.client ≡ Reading t.id t.seen a (abstract_read x.stage)
    here = rw (called.waiting.goes_on, free, some, reads) refl

    pends : read_pending_at (request_of a) x.stage ≡ Some y.request
    pends =
        let by_txn : pending_of now.txn ≡ Some y.request = subst (λ (v : Option VacuumAt). pending_by v now.txn ≡ Some y.request) free called.waiting.pending in
        let open_txn : pending t ≡ Some y.request = subst (λ (o : Option TxnAt). pending_of o ≡ Some y.request) some by_txn in
        let read : read_pending_at x.request x.stage ≡ Some y.request = subst (λ (d : Doing). pending_in d ≡ Some y.request) reads open_txn in
        subst (λ (q : Request). read_pending_at q x.stage ≡ Some y.request) k.request read

    asked : IsReplyTo (laws.read_pending a (abstract_read x.stage)) y
    asked = record { asked = sym (machine_asks a x.stage) ∙ pends; can = called.can; moment = called.moment }

    runs_it : doing_of states y.client ≡ Some p.statement
    runs_it = ap (λ (o : Option Planned). option_map (λ (q : Planned). q.statement) o) plan

    valid : IsValidPlan p
    valid = record { asked = k.asked; table = named_is_table tables p.statement p.table is k.named; accepted = sym (ap (λ (o : Option Table). refusal_by o p.statement) k.named) ∙ k.accepted; literals = k.literals }

    -- the read goes on
    abbrev read_then : laws.ReadAt
    read_then = laws.read_step (abstract_read x.stage) y.now y.reply

    running : RunInvariant catalog tables_are_well_typed (events ++ call_event y None ∷ []) (with_client (system_of states) y.client (Reading t.id t.seen a read_then)) (at (doing_of states) y.client (doing_of states y.client))
    running = going_reads catalog tables_are_well_typed events (system_of states) (doing_of states) g y.client y.store y.request y.how y.reply y.now t.id t.seen a (abstract_read x.stage) here asked

    pub reads_on : (s : ReadStage) → read_step x.stage y.now y.reply ≡ s → RepliedSo None (record now { txn = Some (record t { doing = doing.Read a (record x { stage = s }) }) })
    reads_on s e =
        moved catalog tables_are_well_typed states y.client (record now { txn = Some (record t { doing = doing.Read a (record x { stage = s }) }) }) (events ++ call_event y None ∷ []) free refl
        (subst (λ (z : laws.ReadAt). RunInvariant catalog tables_are_well_typed (events ++ call_event y None ∷ []) (with_client (system_of states) y.client (Reading t.id t.seen a z)) (at (doing_of states) y.client (doing_of states y.client)))
        (sym (machine_steps x.stage y.now y.reply) ∙ ap abstract_read e) running)

    -- it is answered as one that changes nothing, and its read has not finished
    abbrev Unfinished : Answer → Type 0
    Unfinished b = (ms : List StoreCall) (m : StoreCall) → ReadMade ms a (abstract_read x.stage) → IsMade m y.request y.reply → read_finished (ms ++ m ∷ []) b ≡ false

    fails : (b : Answer) → changes_nothing b ≡ true → Unfinished b → RepliedSo (Some b) (holding now (idle_of t))
    fails b nothing unfinished =
        moved catalog tables_are_well_typed states y.client (holding now (idle_of t)) (events ++ call_event y (Some b) ∷ []) free refl
        (going_fails catalog tables_are_well_typed events (system_of states) (doing_of states) g y.client y.store y.request y.how y.reply y.now t.id t.seen a (abstract_read x.stage) here asked b p.statement runs_it nothing unfinished)

    -- its access is of tables
    of_data : laws.IsOfData a
    of_data = (subst (ClientOk g.plan g.past y.client) here (g.system.each y.client)).2

    of_rows : AsksRows a
    of_rows = not_rows a of_data

    -- its read found a bad record
    goes_from : GoesFrom x.stage
    goes_from = by x.stage pends
      where
        by : (s : ReadStage) → read_pending_at (request_of a) s ≡ Some y.request → GoesFrom s
        by Asking e = tt
        by (Resolving images rec meta f left) e = tt
        by (Ended s) e = none_some y.request e

    bad_unfinished : (key : Key) → read_step x.stage y.now y.reply ≡ Ended (step.BadRecord key) → Unfinished (answer.BadRecord key)
    bad_unfinished key e ms m made is = by (step_bad x.stage y.now y.reply key goes_from e)
      where
        none : (b : Bool) → (b && false) ≡ false
        none true = refl
        none false = refl

        by : (is_coordinator_table key.table ≡ true) ⊎ HasUnchecked (rows_left (abstract_read x.stage) y.reply) → read_finished (ms ++ m ∷ []) (answer.BadRecord key) ≡ false
        by (inl own) = ap (λ b. not b && finds_transactional (ms ++ m ∷ [])) own
        by (inr unchecked) = ap (λ b. not (is_coordinator_table key.table) && b) (read_unchecked ms m a (abstract_read x.stage) y.request y.reply made asked.asked is of_rows unchecked) ∙ none (not (is_coordinator_table key.table))

    -- a key that was read differs
    pub differs : (key : Key) (found : Option Record) → RepliedSo (Some (answer.Conflict key found)) (resting now)
    differs key found =
        moved catalog tables_are_well_typed states y.client (resting now) (events ++ call_event y (Some (answer.Conflict key found)) ∷ []) free refl
        (going_differs catalog tables_are_well_typed events (system_of states) (doing_of states) g y.client y.store y.request y.how y.reply y.now t.id t.seen a (abstract_read x.stage) here asked (answer.Conflict key found) p.statement runs_it refl)

    -- the read is done
    module _ (images : List Record) (ends : read_step x.stage y.now y.reply ≡ Ended (step.Images images)) (as_read : IsAsRead t a images) where
      abbrev seen : Seen
      seen = with_read t.seen a images

      done : read_then ≡ Done images
      done = sym (machine_steps x.stage y.now y.reply) ∙ ap abstract_read ends

      after_read : SystemOk running.plan running.past (with_client (with_client (system_of states) y.client (Reading t.id t.seen a read_then)) y.client (Open t.id seen))
      after_read =
          read_set running.plan running.past (with_client (system_of states) y.client (Reading t.id t.seen a read_then)) y.client t.id t.seen a images
          (record { ok = running.system; at = at_itself (system_of states).clients y.client (Reading t.id t.seen a read_then) ∙ ap (Reading t.id t.seen a) done })
          (may_note t a images as_read)

      kept : IsSetInvariant seen.read_set seen.writes
      kept =
          (subst (ClientOk running.plan running.past y.client) (at_itself (with_client (system_of states) y.client (Reading t.id t.seen a read_then)).clients y.client (Open t.id seen)) (after_read.each y.client)).1.kept

      step_seen : (v : TxnAt) (b : Answer) (ks : List Keyed) → IsNoting t a images v → gives p a v ≡ Finished b ks → step_of p (overlay (access_of p.table p.statement) seen) ≡ Finished b ks
      step_seen v b ks n h = sym (ap (λ (q : Access). step_of p (overlay q seen)) k.access) ∙ ap (λ (s : Seen). step_of p (overlay a s)) (sym n.seen) ∙ h

      -- it is answered from the rows
      is_known : (v : TxnAt) (b : Answer) (ks : List Keyed) → IsNoting t a images v → gives p a v ≡ Finished b ks → is_answered_from_rows b ≡ true → RepliedSo (Some b) (holding now (written v ks))
      is_known v b ks n gave rows =
          let h : step_of p (overlay (access_of p.table p.statement) seen) ≡ Finished b ks = step_seen v b ks n gave in
          let changes : AreChanges seen.read_set ks = subst (MayWrite seen.read_set) h (may_write seen p valid kept (subst (IsKeyRead seen.read_set) k.access (key_read_now t.seen a images))) in
          let answers : AnswersOn tables (tables_are_well_typed tables) seen p.statement a b ks = subst (λ (q : Access). AnswersOn tables (tables_are_well_typed tables) seen p.statement q b ks) (sym k.access) (answers_on tables p seen is k.named k.asked k.accepted k.literals h) in
          moved catalog tables_are_well_typed states y.client (holding now (written v ks)) (events ++ call_event y (Some b) ∷ []) free refl
          (subst (λ (z : ClientAt). RunInvariant catalog tables_are_well_typed (events ++ call_event y (Some b) ∷ []) (with_client (system_of states) y.client z) (at (doing_of states) y.client None)) (sym by_doing)
          (going_tells catalog tables_are_well_typed events (system_of states) (doing_of states) g y.client y.store y.request y.how y.reply y.now t.id t.seen a (abstract_read x.stage) here asked b p.statement runs_it images ks
          rows done (may_note t a images as_read) (covered_now t.seen a images) (subst (λ (ts : List Table). AnswersOn ts (tables_are_well_typed ts) seen p.statement a b ks) current answers) changes))
        where
          by_doing : abstract_txn (Some (written v ks)) ≡ Open t.id (with_written seen ks)
          by_doing = rw n.idle (λ i. Open (n.id i) (with_written (n.seen i) ks))

      -- it is answered as one that changes nothing, and what it read stays noted
      keeps : (v : TxnAt) (b : Answer) → IsNoting t a images v → changes_nothing b ≡ true → FinishesOn a images b → RepliedSo (Some b) (holding now v)
      keeps v b n nothing finishes =
          moved catalog tables_are_well_typed states y.client (holding now v) (events ++ call_event y (Some b) ∷ []) free refl
          (subst (λ (z : ClientAt). RunInvariant catalog tables_are_well_typed (events ++ call_event y (Some b) ∷ []) (with_client (system_of states) y.client z) (at (doing_of states) y.client None)) (sym by_doing)
          (going_keeps catalog tables_are_well_typed events (system_of states) (doing_of states) g y.client y.store y.request y.how y.reply y.now t.id t.seen a (abstract_read x.stage) here asked b p.statement runs_it images nothing finishes done
          (may_note t a images as_read)))
        where
          by_doing : abstract_txn (Some v) ≡ Open t.id seen
          by_doing = rw n.idle (λ i. Open (n.id i) (n.seen i))

      abbrev Told : TxnAt → PlanStep → Type 0
      Told v s = RepliedSo (Some (given_answer v s)) (holding now (given_left v s))

      finished_so : (v : TxnAt) (b : Answer) (ks : List Keyed) → IsNoting t a images v → gives p a v ≡ Finished b ks → FinishesOn a images b → (changes_nothing b ≡ false → is_answered_from_rows b ≡ true) → Told v (Finished b ks)
      finished_so v b ks n gave finishes rows =
          by_test (changes_nothing b)
          (λ q. rw q (rw q (keeps v b n q finishes)))
          (λ q. by_test (too_many v ks) (λ m. rw (q, m) (keeps v (refused 15) n refl (λ ms made. refl))) (λ m. rw (q, m) (rw q (is_known v b ks n gave (rows q)))))

      answered : (v : TxnAt) → IsNoting t a images v → Told v (gives p a v)
      answered v n = by_unfit (first_unfit p.table (overlay a v.seen)) refl
        where
          not_is : (b : Bool) → not b ≡ true → b ≡ false
          not_is true h = absurd (cc)
          not_is false h = refl

          gave : (o : Option Key) → first_unfit p.table (overlay a v.seen) ≡ o → gives p a v ≡ finished p.table p.statement (overlay a v.seen) o
          gave o e = ap (λ (b : Bool). step_at b p.table p.statement (overlay a v.seen)) k.asked ∙ ap (finished p.table p.statement (overlay a v.seen)) e

          by_unfit : (o : Option Key) → first_unfit p.table (overlay a v.seen) ≡ o → Told v (gives p a v)
          by_unfit None e = subst (Told v) (sym (gave None e)) (finished_so v _ _ n (gave None e) (λ ms made. answer_finishes ms p.table p.statement (overlay a v.seen)) (from_rows p.table p.statement (overlay a v.seen)))
          by_unfit (Some key) e = subst (Told v) (sym (gave (Some key) e)) (finished_so v (answer.BadRecord key) [] n (gave (Some key) e) (λ ms made. misfit_finishes ms key (not_is (is_coordinator_table key.table) (of_data key (unfit_inside a v.seen p.table key e))) (read_checks ms a images made of_rows)) (λ h. absurd (cc)))

    -- it ends without images, or is out of memory
    failed : (o : ReadStep) (b : Answer) → read_result (read_step x.stage y.now y.reply) ≡ o → Fails o b → RepliedSo (Some b) (holding now (idle_of t))
    failed o b e (IsBusy key id moment) = fails b refl (λ ms m made is. refl)
    failed o b e HasFaulted = fails b refl (λ ms m made is. refl)
    failed o b e (IsMalformed key) = fails b refl (bad_unfinished key (ended (read_step x.stage y.now y.reply) o e (λ n. cc)))
    failed o b e (OutOfMemory s) = fails b refl (λ ms m made is. refl)

    pub read_fails : (b : Answer) → Fails (read_result (read_step x.stage y.now y.reply)) b → RepliedSo (Some b) (holding now (idle_of t))
    read_fails b f = failed (read_result (read_step x.stage y.now y.reply)) b refl f

    pub read_ends : (images : List Record) → read_result (read_step x.stage y.now y.reply) ≡ step.Images images → IsAsRead t a images
        → RepliedSo (Some (given_answer (with_rows_read t a images) (gives p a (with_rows_read t a images)))) (holding now (given_left (with_rows_read t a images) (gives p a (with_rows_read t a images))))
    read_ends images e as_read = answered images (ended (read_step x.stage y.now y.reply) (step.Images images) e (λ n. cc)) as_read (with_rows_read t a images) (is_noting t a images)
