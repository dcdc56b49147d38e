-- The rows of a client's steps are what its taking of a text and its taking of a reply come to.
use Rattle.std.proofs.Common.{◌≡◌, ◌⊎◌, inl, inr, ℕ, ℤ, Bool, true, false, List, [], ◌∷◌, Option, Some, None, refl, sym, ap, subst, ◌∙◌}
use Rattle.std.specs.Prelude.{◌≢◌, ◌||◌, is_some, if◌then◌else◌, Ok, Err}
use Rattle.sdb_types.proofs.Public.{by_test}
use Rattle.sdb_client.specs.Types.{Access, Answer, Doing, Image, Key, Outcome, ReadStep, Record, Refusal, Reply, Request, Statement, Table, VacuumStep}
use Rattle.sdb_model.specs.declared.answer.Answer.TheVariants as answer
use Rattle.sdb_model.specs.declared.statement.Statement.TheVariants as statement
use Rattle.sdb_model.specs.Causes.{NeedsTransaction, refused}
use Rattle.sdb_model.specs.Exec.{named_table, table_of}
use Rattle.sdb_model.specs.Reads.{access_of}
use Rattle.sdb_model.specs.Refused.{refusal_by, refusal_of}
use Rattle.sdb_model.specs.Sql.{Reads, reads_commit}
use Rattle.sdb_exec.specs.Plans.{Planned, answer_on, columns_at, finished, step_at, step_of}
use Rattle.sdb_model.specs.Exec.{key_of}
use Rattle.sdb_phases.specs.Commit.{step as commit_step}
use Rattle.sdb_phases.specs.declared.step.Outcome.TheVariants as outcome
use Rattle.sdb_txn.specs.Phases.{CommitAt, IsNext, ended_at}
use Rattle.sdb_txn.specs.declared.read.ReadStep.TheVariants as step
use Rattle.sdb_txn.specs.Read.{ReadAt, read_result, read_step}
use Rattle.sdb_txn.specs.declared.txn.Doing.TheVariants as doing
use Rattle.sdb_txn.specs.declared.progress.Progress.TheVariants as progress
use Rattle.sdb_txn.specs.Txn.{IsCommitting, TxnAt, idle, progress_of}
use Rattle.sdb_vacuum.specs.declared.work.VacuumStep.TheVariants as vacuuming
use Rattle.sdb_vacuum.specs.Vacuum.{VacuumAt, Gives, vacuum_step}
use Rattle.sdb_client.specs.declared.next.Next.{Next}
use Rattle.sdb_client.specs.declared.next.Next.TheVariants as next
use Rattle.sdb_client.specs.Client.{AskPost, BeginPost, CallPost, ClientAt, CommitNext, CommitStartPost, GatePost, IsAnsweredAtOnce, NextPost, OpenTxnPost, ReplyPost, RollbackPost, RowsPost, RowsReadPost, StagePost, StatementPost, TablePost, Taking, TextPost, TextStep, VacuumStartPost, after, answer_in, answer_of, client_pending, given_answer, gives, is_covered, next_of, out_of_memory, plan_of, resting, vacuum_left, with_rows_read}
use Rattle.sdb_client.specs.Step.{AnsweredAtOnce, AtOnce, Begins, ByCatalog, CommitEnds, CommitGoesOn, CommitGoesTo, CommitStarts, Fails, HasFaulted, IsBusy, IsCommitAt, IsMalformed, IsOnRows, IsReadAt, IsVacuumAt, LosesCommit, NoMemory, NoStatement, NoTable, NoneOpen, OpenAlready, OthersOpen, OutOfMemory, ReadConflicts, ReadEnds, ReadFails, ReadGoesOn, ReadKnown, ReadStarts, Receives, RollsBack, Step, Takes, VacuumEnds, VacuumGoesOn, VacuumRuns, VacuumStarts, answer_of_outcome}
use Rattle.sdb_client.proofs.Takings.{memory_or}

---- a plan that was asked for its rows isn't answered out of memory

answered_on : (table : Table) (st : Statement) (rows : List Image) → answer_on table st rows ≢ answer.NoMemory
answered_on table (statement.Insert s) rows = by (is_some (columns_at (key_of table s) rows))
  where
    by : (b : Bool) → (if b then answer.Duplicate (key_of table s) else answer.Count 1) ≢ answer.NoMemory
    by true = λ e. cc
    by false = λ e. cc
answered_on table st rows = λ e. cc

one_of : (b : Bool) (a : Answer) → a ≢ answer.NoMemory → (if b then refused 15 else a) ≢ answer.NoMemory
one_of true a n = λ e. cc
one_of false a n = n

finished_given : (t : TxnAt) (table : Table) (st : Statement) (rows : List Image) (o : Option Key) → given_answer t (finished table st rows o) ≢ answer.NoMemory
finished_given t table st rows None = one_of _ (answer_on table st rows) (answered_on table st rows)
finished_given t table st rows (Some key) = λ e. cc

pub asked_given : (t : TxnAt) (p : Planned) (rows : List Image) → p.asked ≡ true → given_answer t (step_of p rows) ≢ answer.NoMemory
asked_given t p rows asked = subst (λ (b : Bool). given_answer t (step_at b p.table p.statement rows) ≢ answer.NoMemory) (sym asked) (finished_given t p.table p.statement rows _)

given_asked : (t : TxnAt) (p : Planned) (rows : List Image) → given_answer t (step_of p rows) ≢ answer.NoMemory → p.asked ≡ true
given_asked t p rows not = by_test p.asked (λ b. b) (λ b. absurd (not (ap (λ (a : Bool). given_answer t (step_at a p.table p.statement rows)) b)))

answer_is : (a : Answer) → ◌≡◌ {A = Option Answer} (Some a) (Some answer.NoMemory) → a ≡ answer.NoMemory
answer_is a e = cc

next_is : (a : Answer) → next.Answer a ≡ next.Answer answer.NoMemory → a ≡ answer.NoMemory
next_is a e = cc

-- what a COMMIT's end is answered
commit_next : (a : Outcome) → next_of (progress_of (Some a)) ≡ next.End (answer_of_outcome a)
commit_next outcome.Committed = refl
commit_next (outcome.Conflict key found) = refl
commit_next (outcome.Expired id) = refl
commit_next outcome.Faulted = refl
commit_next (outcome.Unknown id) = refl
commit_next (outcome.BadRecord key) = refl
commit_next outcome.NoMemory = refl

---- a statement on a table

pub names_table : (catalog : List Table) (st : Statement) (table : Table) → named_table catalog st ≡ Some table → is_some (table_of st) ≡ true
names_table catalog statement.Begin table e = absurd (cc)
names_table catalog statement.Commit table e = absurd (cc)
names_table catalog statement.Rollback table e = absurd (cc)
names_table catalog statement.Vacuum table e = absurd (cc)
names_table catalog st table e = refl

---- texts

module _ (q : Taking) (text : List ℕ) (c : ClientAt) where
  abbrev So : Option Answer → ClientAt → Type 0
  So result d = Step c (Takes q text) result d

  as_so : (r result : Option Answer) (u d : ClientAt) → result ≡ r → d ≡ u → So r u → So result d
  as_so r result u d e k s = subst (λ (x : Option Answer). So x d) (sym e) (subst (λ (x : ClientAt). So r x) (sym k) s)

  at_once : (b : Answer) (result : Option Answer) (d : ClientAt) → IsAnsweredAtOnce c b result d → AtOnce c q text b → So result d
  at_once b result d h s = as_so (Some b) result c d h.answer h.same (AnsweredAtOnce s)

  begin_row : (o : Option TxnAt) (result : Option Answer) (d : ClientAt) → c.txn ≡ o → Reads text statement.Begin → BeginPost q.gate q.fresh c o result d → So result d
  begin_row (Some t) result d e reads h = at_once (refused 4) result d h (OpenAlready t reads e)
  begin_row None result d e reads h = by_gate q.gate.vacuum_runs refl h
    where
      by_gate : (b : Bool) → q.gate.vacuum_runs ≡ b → GatePost b q.fresh c result d → So result d
      by_gate true shut k = at_once answer.Vacuuming result d k (VacuumRuns reads e shut)
      by_gate false shut k = as_so _ result _ d k.0 k.1 (Begins reads e shut)

  commit_row : (o : Option TxnAt) (result : Option Answer) (d : ClientAt) → c.txn ≡ o → Reads text statement.Commit → CommitStartPost q.now c o result d → So result d
  commit_row None result d e reads h = at_once (refused 5) result d h (NoneOpen statement.Commit reads ((λ k. cc), (λ k. cc)) e)
  commit_row (Some t) result d e reads h = as_so None result _ d h.0 h.1 (CommitStarts t reads e)

  rollback_row : (o : Option TxnAt) (result : Option Answer) (d : ClientAt) → c.txn ≡ o → Reads text statement.Rollback → RollbackPost c o result d → So result d
  rollback_row None result d e reads h = at_once (refused 5) result d h (NoneOpen statement.Rollback reads ((λ k. cc), (λ k. cc)) e)
  rollback_row (Some t) result d e reads h = as_so _ result _ d h.0 h.1 (RollsBack t reads e)

  vacuum_row : (b : Bool) (ts : List Table) (result : Option Answer) (d : ClientAt) → (is_some c.txn || q.gate.open_elsewhere) ≡ b → q.catalog ≡ ts → Reads text statement.Vacuum → VacuumStartPost b ts c result d → So result d
  vacuum_row true ts result d e k reads h = at_once answer.OpenTransactions result d h (OthersOpen reads e)
  vacuum_row false [] result d e k reads h = at_once (answer.Count 0) result d h (NoTable reads e k)
  vacuum_row false (t ∷ ts) result d e k reads h = as_so None result _ d h.0 h.1 (VacuumStarts t ts reads e k)

  rows_row : (st : Statement) (t : TxnAt) (result : Option Answer) (d : ClientAt) (table : Table) → IsOnRows c q text t table st → RowsPost (plan_of table st) (access_of table st) c t result d → So result d
  rows_row st t result d table on h =
      by_test (is_covered t.seen (access_of table st)) (λ b. let r = h.known b in as_so _ result _ d r.0 r.1 (ReadKnown t table st on b)) (λ b. let r = h.unknown b in as_so _ result _ d r.0 r.1 (ReadStarts t table st on b))

  table_row : (st : Statement) (t : TxnAt) (result : Option Answer) (d : ClientAt) → c.txn ≡ Some t → Reads text st → is_some (table_of st) ≡ true → TablePost q.catalog st c t result d → So result d
  table_row st t result d e reads names h = by_refusal (refusal_of q.catalog st) refl
    where
      by_table : (o : Option Table) → refusal_of q.catalog st ≡ None → named_table q.catalog st ≡ o → So result d
      by_table (Some table) accepted named = rows_row st t result d table (record { reads = reads; opened = e; accepted = accepted; named = named }) (h.reads table accepted named)
      by_table None accepted named = absurd (let k : Some (record { kind = 6; place = 0 }) ≡ None = sym (ap (λ (o : Option Table). refusal_by o st) named) ∙ accepted in cc)

      by_refusal : (o : Option Refusal) → refusal_of q.catalog st ≡ o → So result d
      by_refusal (Some r) k = at_once (answer.Refused r) result d (h.refused r k) (ByCatalog st t r reads names e k)
      by_refusal None k = by_table (named_table q.catalog st) k refl

  ask_row : (st : Statement) (o : Option TxnAt) (result : Option Answer) (d : ClientAt) → c.txn ≡ o → Reads text st → is_some (table_of st) ≡ true → NeedsTransaction st → AskPost q.catalog st c o result d → So result d
  ask_row st None result d e reads names needs h = at_once (refused 5) result d h (NoneOpen st reads needs e)
  ask_row st (Some t) result d e reads names needs h = table_row st t result d e reads names h

  statement_row : (st : Statement) (result : Option Answer) (d : ClientAt) → Reads text st → StatementPost q st c result d → So result d
  statement_row statement.Begin result d reads h = begin_row c.txn result d refl reads h
  statement_row statement.Commit result d reads h = commit_row c.txn result d refl reads h
  statement_row statement.Rollback result d reads h = rollback_row c.txn result d refl reads h
  statement_row statement.Vacuum result d reads h = vacuum_row (is_some c.txn || q.gate.open_elsewhere) q.catalog result d refl refl reads h
  statement_row st result d reads h = ask_row st c.txn result d refl reads refl ((λ e. cc), (λ e. cc)) h

  text_row : (result : Option Answer) (d : ClientAt) → TextPost q text c result d → So result d
  text_row result d (Ok st, reads, h) = statement_row st result d reads h
  text_row result d (Err r, reads, h) = at_once (answer.Refused r) result d h (NoStatement r reads)

  memory_row : (result : Option Answer) (d : ClientAt) → result ≡ Some answer.NoMemory → d ≡ out_of_memory text c → So result d
  memory_row result d e k = by_test (reads_commit text)
      (λ b. as_so _ result _ d e (k ∙ ap (λ (x : Bool). if x then resting c else c) b) (LosesCommit b))
      (λ b. as_so _ result _ d e (k ∙ ap (λ (x : Bool). if x then resting c else c) b) (AnsweredAtOnce (NoMemory b)))

  pub step_of_text : (result : Option Answer) (d : ClientAt) → TextStep q text c result d → Step c (Takes q text) result d
  step_of_text None d h = text_row None d (h.answered (λ e. cc))
  step_of_text (Some a) d h = by (memory_or a)
    where
      by : (a ≡ answer.NoMemory) ⊎ (a ≢ answer.NoMemory) → So (Some a) d
      by (inl e) = memory_row (Some a) d (ap (λ (z : Answer). Some z) e) (h.memory (ap (λ (z : Answer). Some z) e))
      by (inr n) = text_row (Some a) d (h.answered (λ e. n (answer_is a e)))

  ---- and back

  posted : (result : Option Answer) (d : ClientAt) → result ≢ Some answer.NoMemory → TextPost q text c result d → TextStep q text c result d
  posted result d not h = record { memory = λ e. absurd (not e); answered = λ n. h }

  out_of_memory_posted : (d : ClientAt) → d ≡ out_of_memory text c → TextStep q text c (Some answer.NoMemory) d
  out_of_memory_posted d e = record { memory = λ k. e; answered = λ n. absurd (n refl) }

  left_as_is : (a : Answer) → IsAnsweredAtOnce c a (Some a) c
  left_as_is a = record { answer = refl; same = refl }

  none_open : (st : Statement) → NeedsTransaction st → c.txn ≡ None → StatementPost q st c (Some (refused 5)) c
  none_open statement.Begin needs e = absurd (needs.0 refl)
  none_open statement.Vacuum needs e = absurd (needs.1 refl)
  none_open statement.Commit needs e = subst (λ (o : Option TxnAt). CommitStartPost q.now c o (Some (refused 5)) c) (sym e) (left_as_is (refused 5))
  none_open statement.Rollback needs e = subst (λ (o : Option TxnAt). RollbackPost c o (Some (refused 5)) c) (sym e) (left_as_is (refused 5))
  none_open st needs e = subst (λ (o : Option TxnAt). AskPost q.catalog st c o (Some (refused 5)) c) (sym e) (left_as_is (refused 5))

  -- a statement on a table, in an open transaction
  on_table : (st : Statement) (t : TxnAt) (result : Option Answer) (d : ClientAt) → is_some (table_of st) ≡ true → c.txn ≡ Some t → TablePost q.catalog st c t result d → StatementPost q st c result d
  on_table statement.Begin t result d names e h = absurd (cc)
  on_table statement.Commit t result d names e h = absurd (cc)
  on_table statement.Rollback t result d names e h = absurd (cc)
  on_table statement.Vacuum t result d names e h = absurd (cc)
  on_table st t result d names e h = subst (λ (o : Option TxnAt). AskPost q.catalog st c o result d) (sym e) h

  by_catalog : (st : Statement) (t : TxnAt) (r : Refusal) → refusal_of q.catalog st ≡ Some r → TablePost q.catalog st c t (Some (answer.Refused r)) c
  by_catalog st t r k = record {
    refused = λ s e. let same : Some r ≡ Some s = sym k ∙ e in record { answer = cc; same = refl };
    reads = λ table e named. absurd (let no : Some r ≡ None = sym k ∙ e in cc);
  }

  by_rows : (st : Statement) (t : TxnAt) (table : Table) (result : Option Answer) (d : ClientAt) → IsOnRows c q text t table st → RowsPost (plan_of table st) (access_of table st) c t result d → TextPost q text c result d
  by_rows st t table result d on h = (
    Ok st,
    on.reads,
    on_table st t result d (names_table q.catalog st table on.named) on.opened (record {
      refused = λ r e. absurd (let no : ◌≡◌ {A = Option Refusal} None (Some r) = sym on.accepted ∙ e in cc);
      reads = λ other e named. let same : Some table ≡ Some other = sym on.named ∙ named in subst (λ (x : Table). RowsPost (plan_of x st) (access_of x st) c t result d) (let is : table ≡ other = cc in is) h;
    }),
  )

  once_posted : (a : Answer) → AtOnce c q text a → TextStep q text c (Some a) c
  once_posted a (NoStatement r refuses) = posted _ c (λ e. cc) (Err r, refuses, left_as_is (answer.Refused r))
  once_posted a (OpenAlready t reads e) = posted _ c (λ e. cc) (Ok statement.Begin, reads, subst (λ (o : Option TxnAt). BeginPost q.gate q.fresh c o (Some (refused 4)) c) (sym e) (left_as_is (refused 4)))
  once_posted a (NoneOpen st reads needs e) = posted _ c (λ e. cc) (Ok st, reads, none_open st needs e)
  once_posted a (VacuumRuns reads e shut) =
      posted _ c (λ e. cc) (Ok statement.Begin, reads, subst (λ (o : Option TxnAt). BeginPost q.gate q.fresh c o (Some answer.Vacuuming) c) (sym e) (subst (λ (b : Bool). GatePost b q.fresh c (Some answer.Vacuuming) c) (sym shut) (left_as_is answer.Vacuuming)))
  once_posted a (OthersOpen reads e) = posted _ c (λ e. cc) (Ok statement.Vacuum, reads, subst (λ (b : Bool). VacuumStartPost b q.catalog c (Some answer.OpenTransactions) c) (sym e) (left_as_is answer.OpenTransactions))
  once_posted a (NoTable reads e k) =
      posted _ c (λ e. cc) (Ok statement.Vacuum, reads, subst (λ (b : Bool). VacuumStartPost b q.catalog c (Some (answer.Count 0)) c) (sym e) (subst (λ (ts : List Table). VacuumStartPost false ts c (Some (answer.Count 0)) c) (sym k) (left_as_is (answer.Count 0))))
  once_posted a (ByCatalog st t r reads names e k) = posted _ c (λ e. cc) (Ok st, reads, on_table st t _ c names e (by_catalog st t r k))
  once_posted a (NoMemory b) = out_of_memory_posted c (sym (ap (λ (x : Bool). if x then resting c else c) b))

  pub text_of_step : (result : Option Answer) (d : ClientAt) → Step c (Takes q text) result d → TextStep q text c result d
  text_of_step result d (AnsweredAtOnce {a = a} at) = once_posted a at
  text_of_step result d (Begins reads e shut) =
      posted _ _ (λ e. cc) (Ok statement.Begin, reads, subst (λ (o : Option TxnAt). BeginPost q.gate q.fresh c o result d) (sym e) (subst (λ (b : Bool). GatePost b q.fresh c result d) (sym shut) (refl, refl)))
  text_of_step result d (RollsBack t reads e) = posted _ _ (λ e. cc) (Ok statement.Rollback, reads, subst (λ (o : Option TxnAt). RollbackPost c o result d) (sym e) (refl, refl))
  text_of_step result d (LosesCommit b) = out_of_memory_posted _ (sym (ap (λ (x : Bool). if x then resting c else c) b))
  text_of_step result d (CommitStarts t reads e) = posted _ _ (λ e. cc) (Ok statement.Commit, reads, subst (λ (o : Option TxnAt). CommitStartPost q.now c o result d) (sym e) (refl, refl))
  text_of_step result d (VacuumStarts t ts reads e k) =
      posted _ _ (λ e. cc) (Ok statement.Vacuum, reads, subst (λ (b : Bool). VacuumStartPost b q.catalog c result d) (sym e) (subst (λ (xs : List Table). VacuumStartPost false xs c result d) (sym k) (refl, refl)))
  text_of_step result d (ReadKnown t table st on b) =
      posted _ _ (λ e. asked_given t (plan_of table st) _ refl (answer_is (given_answer t (gives (plan_of table st) (access_of table st) t)) e)) (by_rows st t table result d on (record { known = λ k. (refl, refl); unknown = λ k. absurd (let no : true ≡ false = sym b ∙ k in cc) }))
  text_of_step result d (ReadStarts t table st on b) = posted _ _ (λ e. cc) (by_rows st t table result d on (record { known = λ k. absurd (let no : false ≡ true = sym b ∙ k in cc); unknown = λ k. (refl, refl) }))

---- replies

module _ (c : ClientAt) (q : Request) (r : Reply) (now : ℤ) where
  abbrev Received : Option Answer → ClientAt → Type 0
  Received result d = Step c (Receives q r now) result d

  as_received : (x result : Option Answer) (u d : ClientAt) → result ≡ x → d ≡ u → Received x u → Received result d
  as_received x result u d e k s = subst (λ (y : Option Answer). Received y d) (sym e) (subst (λ (y : ClientAt). Received x y) (sym k) s)

  -- a VACUUM
  sweep_row : (v left : VacuumAt) (s : VacuumStep) (result : Option Answer) (d : ClientAt) → IsVacuumAt c q v → Gives (vacuum_step v now r) left s → result ≡ answer_of s → d ≡ record c { vacuum = vacuum_left s left } → Received result d
  sweep_row v left vacuuming.More result d at answered e k = as_received None result _ d e k (VacuumGoesOn v at answered)
  sweep_row v left (vacuuming.Count n) result d at answered e k = as_received _ result _ d e k (VacuumEnds v left (vacuuming.Count n) at answered refl)
  sweep_row v left vacuuming.Faulted result d at answered e k = as_received _ result _ d e k (VacuumEnds v left vacuuming.Faulted at answered refl)
  sweep_row v left (vacuuming.BadRecord key) result d at answered e k = as_received _ result _ d e k (VacuumEnds v left (vacuuming.BadRecord key) at answered refl)
  sweep_row v left vacuuming.NoMemory result d at answered e k = as_received _ result _ d e k (VacuumEnds v left vacuuming.NoMemory at answered refl)

  -- a read
  module _ (t : TxnAt) (p : Planned) (a : Access) (x : ReadAt) (at : IsReadAt c q t p a x) where
    abbrev Left : Next → TxnAt → Type 0
    Left n u = Received (answer_in n) (after c n u)

    as_next : (n m : Next) (u v : TxnAt) → n ≡ m → u ≡ v → Left m v → Left n u
    as_next n m u v e k s = subst (λ (y : Next). Left y u) (sym e) (subst (λ (y : TxnAt). Left m y) (sym k) s)

    fails : (b : Answer) (n : Next) (u : TxnAt) → Fails (read_result (read_step x.stage now r)) b → n ≡ next.Answer b → u ≡ idle t → Left n u
    fails b n u f e k = as_next n (next.Answer b) u (idle t) e k (ReadFails t p a x at f)

    failed : (b : Answer) (s : ReadStep) (n : Next) (u : TxnAt) → read_result (read_step x.stage now r) ≡ s → Fails s b → (n ≡ next.Answer b) × (u ≡ idle t) → Left n u
    failed b s n u is f h = fails b n u (subst (λ (y : ReadStep). Fails y b) (sym is) f) h.0 h.1

    images_row : (images : List Record) (n : Next) (u : TxnAt) → n ≢ next.Answer answer.NoMemory → read_result (read_step x.stage now r) ≡ step.Images images → RowsReadPost t p a images n u → Left n u
    images_row images (next.Answer z) u not is h =
        let v = with_rows_read t a images in
        as_next (next.Answer z) (next.Answer (given_answer v (gives p a v))) u _ (ap (λ (b : Answer). next.Answer b) h.1) h.2
        (ReadEnds t p a x images at is (given_asked v p _ (λ e. not (ap (λ (b : Answer). next.Answer b) (h.1 ∙ e)))) h.0)
    images_row images (next.End (answer.Conflict key found)) u not is h = ReadConflicts t p a x images key found at is h
    images_row images n u not is h = absurd h

    stage_row : (s : ReadStep) (n : Next) (u : TxnAt) → n ≢ next.Answer answer.NoMemory → read_result (read_step x.stage now r) ≡ s → StagePost t p a x (read_step x.stage now r) s n u → Left n u
    stage_row step.More n u not is h = as_next n next.Call u _ h.0 h.1 (ReadGoesOn t p a x at is)
    stage_row (step.Images images) n u not is h = images_row images n u not is h
    stage_row (step.Busy key id m) n u not is h = failed (answer.Busy key id m) _ n u is (IsBusy key id m) h
    stage_row step.Faulted n u not is h = failed answer.Faulted _ n u is HasFaulted h
    stage_row (step.BadRecord key) n u not is h = failed (answer.BadRecord key) _ n u is (IsMalformed key) h
    stage_row step.NoMemory n u not is h = absurd h

    call_row : (n : Next) (u : TxnAt) → ((n ≡ next.Answer answer.NoMemory) ⊎ (n ≢ next.Answer answer.NoMemory)) → CallPost t p a x r now n u → Left n u
    call_row n u (inl e) h = fails answer.NoMemory n u (OutOfMemory (read_result (read_step x.stage now r))) e (h.memory e)
    call_row n u (inr not) h = stage_row (read_result (read_step x.stage now r)) n u not refl (h.answered not)

  next_memory_or : (n : Next) → (n ≡ next.Answer answer.NoMemory) ⊎ (n ≢ next.Answer answer.NoMemory)
  next_memory_or next.Call = inr (λ e. cc)
  next_memory_or (next.End a) = inr (λ e. cc)
  next_memory_or (next.Answer a) = by (memory_or a)
    where
      by : (a ≡ answer.NoMemory) ⊎ (a ≢ answer.NoMemory) → (next.Answer a ≡ next.Answer answer.NoMemory) ⊎ (next.Answer a ≢ next.Answer answer.NoMemory)
      by (inl e) = inl (ap (λ (z : Answer). next.Answer z) e)
      by (inr n) = inr (λ e. n (next_is a e))

  -- a COMMIT
  module _ (t : TxnAt) (k : CommitAt) (at : IsCommitAt c q t k) where
    goes_on : (u : TxnAt) (x : Doing) → ended_at (commit_step k.work k.stage r) ≡ None → u.id ≡ t.id → u.doing ≡ x → IsCommitting x (λ y. (y.work ≡ k.work) × IsNext k.work k.stage r y.stage) → Received None (record c { txn = Some u })
    goes_on u (doing.Commit y) more id is h = CommitGoesOn t k y.stage at (record { more = more; next = h.1; same = id; doing = is ∙ ap (λ w. doing.Commit (record { work = w; stage = y.stage })) h.0 })
    goes_on u x more id is h = absurd h

    commit_case : (o : Option Outcome) (n : Next) (u : TxnAt) → ended_at (commit_step k.work k.stage r) ≡ o → CommitNext t k r n u → Received (answer_in n) (after c n u)
    commit_case None n u ended h =
        let more : h.progress ≡ progress.More = h.answered.answer ∙ ap progress_of ended in
        subst (λ (m : Next). Received (answer_in m) (after c m u)) (sym (h.next ∙ ap next_of more)) (goes_on u u.doing ended h.answered.same refl (h.answered.next more))
    commit_case (Some a) n u ended h =
        subst (λ (m : Next). Received (answer_in m) (after c m u)) (sym (h.next ∙ ap next_of (h.answered.answer ∙ ap progress_of ended) ∙ commit_next a)) (CommitEnds t k a at ended)

  module _ (pending : client_pending c ≡ Some q) where
    next_row : (t : TxnAt) (x : Doing) (p : Option Planned) (n : Next) (u : TxnAt) → c.vacuum ≡ None → c.txn ≡ Some t → t.doing ≡ x → c.plan ≡ p → NextPost t x p r now n u → Received (answer_in n) (after c n u)
    next_row t (doing.Read a x) (Some p) n u free opened does plans h = call_row t p a x (record { free = free; opened = opened; plan = plans; doing = does; pending = pending }) n u (next_memory_or n) h
    next_row t (doing.Commit k) None n u free opened does plans h = commit_case t k (record { free = free; opened = opened; plan = plans; doing = does; pending = pending }) (ended_at (commit_step k.work k.stage r)) n u refl h
    next_row t x p n u free opened does plans h = absurd h

    open_row : (o : Option TxnAt) (result : Option Answer) (d : ClientAt) → c.vacuum ≡ None → c.txn ≡ o → OpenTxnPost c o r now result d → Received result d
    open_row None result d free is h = absurd h
    open_row (Some t) result d free is h = as_received _ result _ d h.answer h.client (next_row t t.doing c.plan h.next h.left free is refl refl h.answered)

    reply_row : (o : Option VacuumAt) (result : Option Answer) (d : ClientAt) → c.vacuum ≡ o → ReplyPost c o r now result d → Received result d
    reply_row (Some v) result d is h = sweep_row v h.0.left h.0.step result d (record { runs = is; pending = pending }) h.0.answered h.0.answer (h.1 ∙ ap (λ (w : Option VacuumAt). record c { vacuum = w }) h.0.goes)
    reply_row None result d is h = open_row c.txn result d is refl h

    pub step_of_reply : (result : Option Answer) (d : ClientAt) → ReplyPost c c.vacuum r now result d → Step c (Receives q r now) result d
    step_of_reply result d h = reply_row c.vacuum result d refl h

  ---- and back

  -- a reply to the open transaction
  by_txn : (t : TxnAt) (x : Doing) (p : Option Planned) (n : Next) (u : TxnAt) → c.vacuum ≡ None → c.txn ≡ Some t → t.doing ≡ x → c.plan ≡ p → NextPost t x p r now n u → ReplyPost c c.vacuum r now (answer_in n) (after c n u)
  by_txn t x p n u free opened does plans h =
      let answered : NextPost t t.doing c.plan r now n u = subst (λ (d : Doing). NextPost t d c.plan r now n u) (sym does) (subst (λ (o : Option Planned). NextPost t x o r now n u) (sym plans) h) in
      subst (λ (v : Option VacuumAt). ReplyPost c v r now (answer_in n) (after c n u)) (sym free)
      (subst (λ (o : Option TxnAt). OpenTxnPost c o r now (answer_in n) (after c n u)) (sym opened) (record { next = n; left = u; answered = answered; answer = refl; client = refl }))

  by_read : (t : TxnAt) (p : Planned) (a : Access) (x : ReadAt) (n : Next) (u : TxnAt) → IsReadAt c q t p a x → CallPost t p a x r now n u → (client_pending c ≡ Some q) × ReplyPost c c.vacuum r now (answer_in n) (after c n u)
  by_read t p a x n u at h = (at.pending, by_txn t (doing.Read a x) (Some p) n u at.free at.opened at.doing at.plan h)

  by_commit : (t : TxnAt) (k : CommitAt) (n : Next) (u : TxnAt) → IsCommitAt c q t k → CommitNext t k r n u → (client_pending c ≡ Some q) × ReplyPost c c.vacuum r now (answer_in n) (after c n u)
  by_commit t k n u at h = (at.pending, by_txn t (doing.Commit k) None n u at.free at.opened at.doing at.plan h)

  staged : (t : TxnAt) (p : Planned) (a : Access) (x : ReadAt) (s : ReadStep) (n : Next) (u : TxnAt) → n ≢ next.Answer answer.NoMemory → read_result (read_step x.stage now r) ≡ s → StagePost t p a x (read_step x.stage now r) s n u → CallPost t p a x r now n u
  staged t p a x s n u not is h = record { memory = λ e. absurd (not e); answered = λ k. subst (λ (y : ReadStep). StagePost t p a x (read_step x.stage now r) y n u) (sym is) h }

  failed_call : (t : TxnAt) (p : Planned) (a : Access) (x : ReadAt) (s : ReadStep) (b : Answer) → read_result (read_step x.stage now r) ≡ s → Fails s b → CallPost t p a x r now (next.Answer b) (idle t)
  failed_call t p a x s b is (IsBusy key id m) = staged t p a x _ _ (idle t) (λ e. cc) is (refl, refl)
  failed_call t p a x s b is HasFaulted = staged t p a x _ _ (idle t) (λ e. cc) is (refl, refl)
  failed_call t p a x s b is (IsMalformed key) = staged t p a x _ _ (idle t) (λ e. cc) is (refl, refl)
  failed_call t p a x s b is (OutOfMemory y) = record { memory = λ e. refl; answered = λ n. absurd (n refl) }

  ends_apart : (a : Outcome) → progress_of (Some a) ≡ progress.More → ⊥
  ends_apart a e = let no : next.End (answer_of_outcome a) ≡ next.Call = sym (commit_next a) ∙ ap next_of e in cc

  ended : (t : TxnAt) (k : CommitAt) (a : Outcome) → ended_at (commit_step k.work k.stage r) ≡ Some a → CommitNext t k r (next.End (answer_of_outcome a)) (record t { doing = doing.Over })
  ended t k a e = record {
    progress = progress_of (Some a);
    answered = record { answer = sym (ap progress_of e); next = λ m. absurd (ends_apart a m); over = λ n. refl; same = refl };
    next = sym (commit_next a);
  }

  commit_further : (t u : TxnAt) (k : CommitAt) (next_stage : _) → CommitGoesTo k r t u next_stage → CommitNext t k r next.Call u
  commit_further t u k next_stage g = record {
    progress = progress.More;
    answered = record {
      answer = sym (ap progress_of g.more);
      next = λ e. subst (λ (d : Doing). IsCommitting d (λ y. (y.work ≡ k.work) × IsNext k.work k.stage r y.stage)) (sym g.doing) (refl, g.next);
      over = λ n. absurd (n refl);
      same = g.same;
    };
    next = refl;
  }

  none_left : (s : VacuumStep) (w : VacuumAt) (b : Answer) → answer_of s ≡ Some b → ◌≡◌ {A = Option VacuumAt} None (vacuum_left s w)
  none_left vacuuming.More w b e = absurd (cc)
  none_left (vacuuming.Count n) w b e = refl
  none_left vacuuming.Faulted w b e = refl
  none_left (vacuuming.BadRecord key) w b e = refl
  none_left vacuuming.NoMemory w b e = refl

  by_vacuum : (v w : VacuumAt) (s : VacuumStep) (o : Option VacuumAt) (result : Option Answer) → IsVacuumAt c q v → Gives (vacuum_step v now r) w s → result ≡ answer_of s → o ≡ vacuum_left s w → (client_pending c ≡ Some q) × ReplyPost c c.vacuum r now result (record c { vacuum = o })
  by_vacuum v w s o result at g e k = (at.pending, subst (λ (y : Option VacuumAt). ReplyPost c y r now result (record c { vacuum = o })) (sym at.runs) (record { step = s; left = w; answered = g; answer = e; goes = k }, refl))

  pub reply_of_step : (result : Option Answer) (d : ClientAt) → Step c (Receives q r now) result d → (client_pending c ≡ Some q) × ReplyPost c c.vacuum r now result d
  reply_of_step result d (ReadGoesOn t p a x at is) = by_read t p a x next.Call _ at (staged t p a x step.More next.Call _ (λ e. cc) is (refl, refl))
  reply_of_step result d (ReadEnds t p a x images at is asked as_read) =
      let v = with_rows_read t a images in
      by_read t p a x (next.Answer (given_answer v (gives p a v))) _ at
      (staged t p a x (step.Images images) (next.Answer (given_answer v (gives p a v))) _ (λ e. asked_given v p _ asked (next_is (given_answer v (gives p a v)) e)) is (as_read, refl, refl))
  reply_of_step result d (ReadConflicts t p a x images key found at is changed) = by_read t p a x (next.End (answer.Conflict key found)) t at (staged t p a x (step.Images images) (next.End (answer.Conflict key found)) t (λ e. cc) is changed)
  reply_of_step result d (ReadFails {b = b} t p a x at f) = by_read t p a x (next.Answer b) (idle t) at (failed_call t p a x (read_result (read_step x.stage now r)) b refl f)
  reply_of_step result d (CommitGoesOn {u = u} t k next_stage at g) = by_commit t k next.Call u at (commit_further t u k next_stage g)
  reply_of_step result d (CommitEnds t k a at e) = by_commit t k (next.End (answer_of_outcome a)) _ at (ended t k a e)
  reply_of_step result d (VacuumGoesOn {w = w} v at g) = by_vacuum v w vacuuming.More (Some w) None at g refl refl
  reply_of_step result d (VacuumEnds {b = b} v w s at g e) = by_vacuum v w s None (Some b) at g (sym e) (none_left s w b e)
