-- A client at work on a statement, whatever its stores answer.
use Rattle.std.proofs.Common.{◌≡◌, ℕ, ℤ, Bool, true, false, not, ◌||◌, List, [], ◌∷◌, Option, Some, None, Result, Ok, Err, refl, sym, ap, subst, ◌∙◌, inl, inr}
use Rattle.std.specs.Prelude.{IfSome, is_some, ◌&&◌, if◌then◌else◌}
use Rattle.std.specs.Option.{option_map}
use Rattle.law_clients.specs.Types.{Access, Answer, Doing, Image, Key, Keyed, Next, Progress, ReadStep, Record, Refusal, Reply, Statement, Table, TxId, VacuumStep}
use Rattle.sdb_types.proofs.Public.{by_test}
use Rattle.sdb_record.specs.declared.access.Access.TheVariants as access
use Rattle.sdb_model.specs.declared.answer.Answer.TheVariants as answer
use Rattle.sdb_model.specs.declared.statement.Statement.TheVariants as statement
use Rattle.sdb_model.specs.Causes.{refused}
use Rattle.sdb_model.specs.Exec.{key_of, named_table, table_of}
use Rattle.sdb_model.specs.Refused.{refusal_by, refusal_of}
use Rattle.sdb_model.specs.Transactions.{changes_nothing, is_conflict, is_done}
use Rattle.sdb_exec.specs.Plans.{Planned, answer_on, changes_on, columns_at, finished, first_unfit, step_at, step_of}
use Rattle.sdb_exec.specs.declared.plan.PlanStep.TheVariants.{Finished}
use Rattle.sdb_model.specs.Reads.{access_of}
use Rattle.sdb_phases.specs.Commit.{preparing}
use Rattle.sdb_txn.specs.declared.read.ReadStep.TheVariants as step
use Rattle.sdb_txn.specs.Read.{Asking, ReadAt, ReadStage, read_result, read_step, request_of}
use Rattle.sdb_txn.specs.Phases.{CommitAt, IsNext}
use Rattle.sdb_txn.specs.declared.progress.Progress.TheVariants as progress
use Rattle.sdb_txn.specs.declared.txn.Doing.TheVariants as doing
use Rattle.sdb_txn.specs.Txn.{CommitPost, IsCommitting, TxnAt, committing, idle as idle_of, reading, work_of as txn_work}
use Rattle.sdb_vacuum.specs.declared.work.VacuumStep.TheVariants as vacuuming
use Rattle.sdb_vacuum.specs.Vacuum.{VacuumAt, begun as sweeping}
use Rattle.sdb_client.specs.declared.next.Next.TheVariants as next
use Rattle.sdb_client.specs.Client.{AskPost, BeginPost, CallPost, ClientAt, CommitNext, CommitStartPost, GatePost, RowsReadPost, IsIdle, IsAnsweredAtOnce, NextPost, OpenTxnPost, ReplyPost, RollbackPost, RowsPost, ParsedPost, Parses, StagePost, StatementPost, VacuumPost, Taking, VacuumStartPost, after, answer_in, answer_of, given_answer, given_left, gives, holding, is_covered, next_of, with_rows_read, plan_of, resting, out_of_memory, too_many, vacuum_left, with_begun}
use Rattle.sdb_client.proofs.Public.{given_idle as left_idle}
use Rattle.law_clients.proofs.Fitted.{by_next, no_none}
use Rattle.law_clients.proofs.Whole.{by_memory}
use Rattle.law_clients.specs.Session.{Exchange, IsAccepted, MayAnswer, begins, ends, is_commit, is_rollback, rejected}
use Rattle.law_clients.specs.Working.{Commits, IsAtWork, IsEnded, LeadsOn, Reads, InVacuum, ExecutedBy, RepliedBy, is_open_after}
use Rattle.law_clients.proofs.Starves.{reads_as_commit}

no_answer : (z : Answer) → ◌≡◌ {A = Option Answer} None (Some z) → ⊥
no_answer z e = cc

one_answer : (y z : Answer) → ◌≡◌ {A = Option Answer} (Some y) (Some z) → y ≡ z
one_answer y z e = cc

-- whoever is at work isn't idle
pub work_is_pending : (st : Statement) (opened : Bool) (c : ClientAt) → IsAtWork st opened c → IsIdle c → ⊥
work_is_pending st opened c (Reads t p a x free txn plan does of table inside) h =
    let idle : t.doing ≡ doing.Idle = subst (λ (o : Option TxnAt). IfSome o (λ u. u.doing ≡ doing.Idle)) txn h.still in
    let clash : doing.Read a x ≡ doing.Idle = sym does ∙ idle in cc
work_is_pending st opened c (Commits t k free txn plan does commit inside) h =
    let idle : t.doing ≡ doing.Idle = subst (λ (o : Option TxnAt). IfSome o (λ u. u.doing ≡ doing.Idle)) txn h.still in
    let clash : doing.Commit k ≡ doing.Idle = sym does ∙ idle in cc
work_is_pending st opened c (InVacuum v runs txn vacuum outside) h = let clash : Some v ≡ None = sym runs ∙ h.free in cc

---- what a plan answers

-- an answer of a statement on a table, that ends no transaction
record IsPlain (z : Answer) : Type 0 where
  undone : is_done (Some z) ≡ false
  agrees : is_conflict (Some z) ≡ false
  may : MayAnswer z

plain_on : (t : Table) (st : Statement) (rows : List Image) → is_some (table_of st) ≡ true → IsPlain (answer_on t st rows)
plain_on t (statement.Insert i) rows on = by (is_some (columns_at (key_of t i) rows))
  where
    by : (b : Bool) → IsPlain (if b then answer.Duplicate (key_of t i) else answer.Count 1)
    by true = record { undone = refl; agrees = refl; may = tt }
    by false = record { undone = refl; agrees = refl; may = tt }
plain_on t (statement.Upsert i) rows on = record { undone = refl; agrees = refl; may = tt }
plain_on t (statement.Update u) rows on = record { undone = refl; agrees = refl; may = tt }
plain_on t (statement.Delete d) rows on = record { undone = refl; agrees = refl; may = tt }
plain_on t (statement.Select x) rows on = record { undone = refl; agrees = refl; may = tt }
plain_on t statement.Begin rows on = cc
plain_on t statement.Commit rows on = cc
plain_on t statement.Rollback rows on = cc
plain_on t statement.Vacuum rows on = cc

plain_given : (t : TxnAt) (b : Answer) (ks : List Keyed) → IsPlain b → IsPlain (given_answer t (Finished b ks))
plain_given t b ks h = by (not (changes_nothing b) && too_many t ks)
  where
    by : (z : Bool) → IsPlain (if z then refused 15 else b)
    by true = record { undone = refl; agrees = refl; may = refl }
    by false = h

given_plain : (p : Planned) (rows : List Image) (t : TxnAt) → is_some (table_of p.statement) ≡ true → IsPlain (given_answer t (step_of p rows))
given_plain p rows t on = by_asked p.asked
  where
    by_unfit : (o : Option Key) → IsPlain (given_answer t (finished p.table p.statement rows o))
    by_unfit None = plain_given t (answer_on p.table p.statement rows) (changes_on p.table p.statement rows) (plain_on p.table p.statement rows on)
    by_unfit (Some key) = plain_given t (answer.BadRecord key) [] (record { undone = refl; agrees = refl; may = tt })

    by_asked : (b : Bool) → IsPlain (given_answer t (step_at b p.table p.statement rows))
    by_asked false = record { undone = refl; agrees = refl; may = tt }
    by_asked true = by_unfit (first_unfit p.table rows)

---- how a statement may end

module _ (catalog : List Table) (now : ℤ) (id : TxId) where
  abbrev taken_with : Result Statement Refusal → Answer → Exchange
  taken_with says z = record { says = says; moment = now; id = id; answer = z }

  abbrev Leads : Bool → Result Statement Refusal → Option Answer → ClientAt → Type 0
  Leads opened says result d = LeadsOn catalog opened says now id result d

  abbrev Ended : Bool → Result Statement Refusal → Answer → ClientAt → Type 0
  Ended opened says z d = IsEnded catalog opened (taken_with says z) d

  answered : (opened : Bool) (says : Result Statement Refusal) (z : Answer) (result : Option Answer) (u d : ClientAt) → result ≡ Some z → d ≡ u → Ended opened says z u → Leads opened says result d
  answered opened says z result u d e k h = record {
    ended = λ y f. subst (λ x. Ended opened says x d) (one_answer z y (sym e ∙ f)) (subst (Ended opened says z) (sym k) h);
    waits = λ f. absurd (no_none z (sym e ∙ f));
  }

  waiting : (opened : Bool) (st : Statement) (result : Option Answer) (u d : ClientAt) → result ≡ None → d ≡ u → rejected catalog opened (Ok st) ≡ None → IsAtWork st opened u → Leads opened (Ok st) result d
  waiting opened st result u d e k stays h = record {
    ended = λ z f. absurd (no_answer z (sym e ∙ f));
    waits = λ f. (st, refl, stays, subst (IsAtWork st opened) (sym k) h);
  }

  -- it wasn't turned away
  stays_taken : (opened : Bool) (says : Result Statement Refusal) (z : Answer) → rejected catalog opened says ≡ None → MayAnswer z → IsAccepted catalog opened (taken_with says z)
  stays_taken opened says z stays may = record { away = λ a f. absurd (no_none a (sym f ∙ stays)); stays = λ f. may }

  -- a statement that is turned away leaves its transaction open, or none
  away_refused : (o : Option Refusal) (z : Answer) → option_map (λ r. answer.Refused r) o ≡ Some z → (is_done (Some z) ≡ false) × (is_conflict (Some z) ≡ false)
  away_refused (Some r) z e = subst (λ y. (is_done (Some y) ≡ false) × (is_conflict (Some y) ≡ false)) (one_answer (answer.Refused r) z e) (refl, refl)
  away_refused None z e = absurd (no_answer z e)

  open_table : (z : Answer) → (is_done (Some z) ≡ false) × (is_conflict (Some z) ≡ false) → not (false || (is_conflict (Some z) || (false && is_done (Some z)))) ≡ true
  open_table z h = ap (λ b. not (false || (b || false))) h.1

  away_open : (opened : Bool) (says : Result Statement Refusal) (z : Answer) → rejected catalog opened says ≡ Some z → is_open_after opened (taken_with says z) ≡ opened
  away_open true (Err r) z e = subst (λ y. is_open_after true (taken_with (Err r) y) ≡ true) (one_answer (answer.Refused r) z e) refl
  away_open true (Ok statement.Begin) z e = subst (λ y. is_open_after true (taken_with (Ok statement.Begin) y) ≡ true) (one_answer (refused 4) z e) refl
  away_open true (Ok statement.Vacuum) z e = subst (λ y. is_open_after true (taken_with (Ok statement.Vacuum) y) ≡ true) (one_answer answer.OpenTransactions z e) refl
  away_open true (Ok statement.Commit) z e = absurd (no_answer z e)
  away_open true (Ok statement.Rollback) z e = absurd (no_answer z e)
  away_open true (Ok (statement.Insert s)) z e = open_table z (away_refused (refusal_of catalog (statement.Insert s)) z e)
  away_open true (Ok (statement.Upsert s)) z e = open_table z (away_refused (refusal_of catalog (statement.Upsert s)) z e)
  away_open true (Ok (statement.Update s)) z e = open_table z (away_refused (refusal_of catalog (statement.Update s)) z e)
  away_open true (Ok (statement.Delete s)) z e = open_table z (away_refused (refusal_of catalog (statement.Delete s)) z e)
  away_open true (Ok (statement.Select s)) z e = open_table z (away_refused (refusal_of catalog (statement.Select s)) z e)
  away_open false (Err r) z e = refl
  away_open false (Ok statement.Begin) z e = absurd (no_answer z e)
  away_open false (Ok statement.Vacuum) z e = refl
  away_open false (Ok statement.Commit) z e = refl
  away_open false (Ok statement.Rollback) z e = refl
  away_open false (Ok (statement.Insert s)) z e = refl
  away_open false (Ok (statement.Upsert s)) z e = refl
  away_open false (Ok (statement.Update s)) z e = refl
  away_open false (Ok (statement.Delete s)) z e = refl
  away_open false (Ok (statement.Select s)) z e = refl

  -- a client is as it was, and its statement was turned away
  turned : (opened : Bool) (says : Result Statement Refusal) (z : Answer) (c : ClientAt) → rejected catalog opened says ≡ Some z → is_some c.txn ≡ opened → IsIdle c → Ended opened says z c
  turned opened says z c e is_open idle = record {
    accepted = record { away = λ a f. inl (one_answer z a (sym e ∙ f)); stays = λ f. absurd (no_none z (sym e ∙ f)) };
    has_txn = is_open ∙ sym (away_open opened says z e);
    idle = idle;
  }

  -- a statement on a table is answered, and its transaction is open
  table_open : (st : Statement) (z : Answer) → is_some (table_of st) ≡ true → is_conflict (Some z) ≡ false → is_open_after true (taken_with (Ok st) z) ≡ true
  table_open (statement.Insert s) z on agrees = ap (λ b. not (false || (b || false))) agrees
  table_open (statement.Upsert s) z on agrees = ap (λ b. not (false || (b || false))) agrees
  table_open (statement.Update s) z on agrees = ap (λ b. not (false || (b || false))) agrees
  table_open (statement.Delete s) z on agrees = ap (λ b. not (false || (b || false))) agrees
  table_open (statement.Select s) z on agrees = ap (λ b. not (false || (b || false))) agrees
  table_open statement.Begin z on agrees = cc
  table_open statement.Commit z on agrees = cc
  table_open statement.Rollback z on agrees = cc
  table_open statement.Vacuum z on agrees = cc

  kept_open : (st : Statement) (z : Answer) (c : ClientAt) (u : TxnAt) → rejected catalog true (Ok st) ≡ None → is_some (table_of st) ≡ true → c.vacuum ≡ None → u.doing ≡ doing.Idle → is_conflict (Some z) ≡ false → MayAnswer z → Ended true (Ok st) z (holding c u)
  kept_open st z c u stays on free idle agrees may = record { accepted = stays_taken true (Ok st) z stays may; has_txn = sym (table_open st z on agrees); idle = record { free = free; still = idle } }

  ended_at : (says : Result Statement Refusal) (z : Answer) (c : ClientAt) → rejected catalog true says ≡ None → c.vacuum ≡ None → ends (taken_with says z) ≡ true → MayAnswer z → Ended true says z (resting c)
  ended_at says z c stays free over may = record { accepted = stays_taken true says z stays may; has_txn = ap not (sym over); idle = record { free = free; still = tt } }

  ---- a reply

  module _ (c : ClientAt) (free : c.vacuum ≡ None) where
    -- where it leads
    abbrev Left : Statement → Next → TxnAt → Type 0
    Left st n u = Leads true (Ok st) (answer_in n) (after c n u)

    as_next : (st : Statement) (n m : Next) (u v : TxnAt) → n ≡ m → u ≡ v → Left st m v → Left st n u
    as_next st n m u v e k s = subst (λ (x : Next). Left st x u) (sym e) (subst (λ (x : TxnAt). Left st m x) (sym k) s)

    -- a read
    module _ (st : Statement) (stays : rejected catalog true (Ok st) ≡ None) (on : is_some (table_of st) ≡ true) (t : TxnAt) (p : Planned) (a : Access) (x : ReadAt) (plan : c.plan ≡ Some p) (of : p.statement ≡ st) where
      kept_at : (z : Answer) (u : TxnAt) → u.doing ≡ doing.Idle → is_conflict (Some z) ≡ false → MayAnswer z → Left st (next.Answer z) u
      kept_at z u idle agrees may = answered true (Ok st) z (Some z) (holding c u) (holding c u) refl refl (kept_open st z c u stays on free idle agrees may)

      reading_stays_idle : (images : List Record) (a : Access) → (with_rows_read t a images).doing ≡ doing.Idle
      reading_stays_idle images (access.Get key) = refl
      reading_stays_idle images (access.Scan span) = refl

      images_case : (images : List Record) (n : Next) (u : TxnAt) → RowsReadPost t p a images n u → Left st n u
      images_case images (next.Answer z) u h =
          let plain : IsPlain z = subst IsPlain (sym h.1) (given_plain p _ (with_rows_read t a images) (ap (λ y. is_some (table_of y)) of ∙ on)) in
          kept_at z u (ap (λ (v : TxnAt). v.doing) h.2 ∙ left_idle (with_rows_read t a images) (gives p a (with_rows_read t a images)) (reading_stays_idle images a)) plain.agrees plain.may
      images_case images (next.End (answer.Conflict key found)) u h = answered true (Ok st) (answer.Conflict key found) (Some (answer.Conflict key found)) (resting c) (resting c) refl refl (ended_at (Ok st) (answer.Conflict key found) c stays free (conflict_ends (is_commit (Ok st))) tt)
        where
          conflict_ends : (b : Bool) → (b || (true || (is_rollback (Ok st) && false))) ≡ true
          conflict_ends true = refl
          conflict_ends false = refl
      images_case images next.Call u h = absurd h
      images_case images (next.End z) u h = absurd h

      stage_case : (s : ReadStage) (e : ReadStep) (n : Next) (u : TxnAt) → StagePost t p a x s e n u → Left st n u
      stage_case s step.More n u h = as_next st n next.Call u _ h.0 h.1 (waiting true st None _ _ refl refl stays (Reads (record t { doing = doing.Read a (record x { stage = s }) }) p a (record x { stage = s }) free refl plan refl of on refl))
      stage_case s (step.Images images) n u h = images_case images n u h
      stage_case s (step.Busy key id at) n u h = as_next st n _ u (idle_of t) h.0 h.1 (kept_at (answer.Busy key id at) (idle_of t) refl refl tt)
      stage_case s step.Faulted n u h = as_next st n _ u (idle_of t) h.0 h.1 (kept_at answer.Faulted (idle_of t) refl refl tt)
      stage_case s (step.BadRecord key) n u h = as_next st n _ u (idle_of t) h.0 h.1 (kept_at (answer.BadRecord key) (idle_of t) refl refl tt)
      stage_case s step.NoMemory n u h = absurd h

      call_case : (r : Reply) (moment : ℤ) (n : Next) (u : TxnAt) → CallPost t p a x r moment n u → Left st n u
      call_case r moment n u h =
          by_next n
          (λ e. as_next st n (next.Answer answer.NoMemory) u (idle_of t) e (h.memory e) (kept_at answer.NoMemory (idle_of t) refl refl tt))
          (λ e. stage_case (read_step x.stage moment r) (read_result (read_step x.stage moment r)) n u (h.answered e))

    -- a COMMIT
    module _ (t : TxnAt) (k : CommitAt) (r : Reply) (none : c.plan ≡ None) where
      over : (z : Answer) (u : TxnAt) → MayAnswer z → Left statement.Commit (next.End z) u
      over z u may = answered true (Ok statement.Commit) z (Some z) (resting c) (resting c) refl refl (ended_at (Ok statement.Commit) z c refl free refl may)

      goes_case : (u : TxnAt) (d : Doing) → u.doing ≡ d → IsCommitting d (λ m. (m.work ≡ k.work) × IsNext k.work k.stage r m.stage) → Left statement.Commit next.Call u
      goes_case u (doing.Commit m) e h = waiting true statement.Commit None _ _ refl refl refl (Commits u m free refl none e refl refl)
      goes_case u doing.Idle e h = absurd h
      goes_case u (doing.Read a x) e h = absurd h
      goes_case u doing.Over e h = absurd h

      progress_case : (g : Progress) (u : TxnAt) → CommitPost t k r g u → Left statement.Commit (next_of g) u
      progress_case progress.More u h = goes_case u u.doing refl (h.next refl)
      progress_case (progress.Rows rows) u h = over answer.NoMemory u tt
      progress_case (progress.Busy key id at) u h = over (answer.Busy key id at) u tt
      progress_case progress.Faulted u h = over answer.Faulted u tt
      progress_case (progress.BadRecord key) u h = over (answer.BadRecord key) u tt
      progress_case progress.NoMemory u h = over answer.NoMemory u tt
      progress_case (progress.Conflict key found) u h = over (answer.Conflict key found) u tt
      progress_case progress.Committed u h = over answer.Committed u tt
      progress_case (progress.Expired id) u h = over (answer.Expired id) u tt
      progress_case (progress.Unknown id) u h = over (answer.Unknown id) u tt

      commit_next : (n : Next) (u : TxnAt) → CommitNext t k r n u → Left statement.Commit n u
      commit_next n u h = as_next statement.Commit n (next_of h.progress) u u h.next refl (progress_case h.progress u h.answered)

  -- a VACUUM
  module _ (c : ClientAt) (txn : c.txn ≡ None) where
    vacuumed : (z : Answer) → MayAnswer z → Leads false (Ok statement.Vacuum) (Some z) (record c { vacuum = None })
    vacuumed z may = answered false (Ok statement.Vacuum) z (Some z) _ _ refl refl (record {
      accepted = stays_taken false (Ok statement.Vacuum) z refl may;
      has_txn = ap (λ (o : Option TxnAt). is_some o) txn;
      idle = record { free = refl; still = subst (λ (o : Option TxnAt). IfSome o (λ u. u.doing ≡ doing.Idle)) (sym txn) tt };
    })

    swept_case : (e : VacuumStep) (w : VacuumAt) → Leads false (Ok statement.Vacuum) (answer_of e) (record c { vacuum = vacuum_left e w })
    swept_case vacuuming.More w = waiting false statement.Vacuum None _ _ refl refl refl (InVacuum w refl txn refl refl)
    swept_case (vacuuming.Count n) w = vacuumed (answer.Count n) tt
    swept_case vacuuming.Faulted w = vacuumed answer.Faulted tt
    swept_case (vacuuming.BadRecord key) w = vacuumed (answer.BadRecord key) tt
    swept_case vacuuming.NoMemory w = vacuumed answer.NoMemory tt

  as_leads : (opened : Bool) (says : Result Statement Refusal) (r result : Option Answer) (u d : ClientAt) → result ≡ r → d ≡ u → Leads opened says r u → Leads opened says result d
  as_leads opened says r result u d e k s = subst (λ (x : Option Answer). Leads opened says x d) (sym e) (subst (Leads opened says r) (sym k) s)

  reply_case : (st : Statement) (opened : Bool) → rejected catalog opened (Ok st) ≡ None → (c : ClientAt) → IsAtWork st opened c → (r : Reply) (moment : ℤ) (result : Option Answer) (d : ClientAt) → ReplyPost c c.vacuum r moment result d → Leads opened (Ok st) result d
  reply_case st opened stays c (Reads t p a x free txn plan does of table inside) r moment result d h =
      let open_case : OpenTxnPost c (Some t) r moment result d = subst (λ (o : Option TxnAt). OpenTxnPost c o r moment result d) txn (subst (λ (o : Option VacuumAt). ReplyPost c o r moment result d) free h) in
      let acked : CallPost t p a x r moment open_case.next open_case.left = subst (λ (o : Option Planned). NextPost t (doing.Read a x) o r moment open_case.next open_case.left) plan (subst (λ (o : Doing). NextPost t o c.plan r moment open_case.next open_case.left) does open_case.answered) in
      subst (λ (b : Bool). Leads b (Ok st) result d) (sym inside)
      (as_leads true (Ok st) (answer_in open_case.next) result (after c open_case.next open_case.left) d open_case.answer open_case.client
      (call_case c free st (subst (λ (b : Bool). rejected catalog b (Ok st) ≡ None) inside stays) table t p a x plan of r moment open_case.next open_case.left acked))
  reply_case st opened stays c (Commits t k free txn plan does commit inside) r moment result d h =
      let open_case : OpenTxnPost c (Some t) r moment result d = subst (λ (o : Option TxnAt). OpenTxnPost c o r moment result d) txn (subst (λ (o : Option VacuumAt). ReplyPost c o r moment result d) free h) in
      let acked : CommitNext t k r open_case.next open_case.left = subst (λ (o : Option Planned). NextPost t (doing.Commit k) o r moment open_case.next open_case.left) plan (subst (λ (o : Doing). NextPost t o c.plan r moment open_case.next open_case.left) does open_case.answered) in
      subst (λ (b : Bool). Leads b (Ok st) result d) (sym inside)
      (subst (λ (x : Statement). Leads true (Ok x) result d) (sym commit)
      (as_leads true (Ok statement.Commit) (answer_in open_case.next) result (after c open_case.next open_case.left) d open_case.answer open_case.client (commit_next c free t k r plan open_case.next open_case.left acked)))
  reply_case st opened stays c (InVacuum v runs txn vacuum outside) r moment result d h =
      let sweep_case : VacuumPost v r moment result d.vacuum × (d ≡ record c { vacuum = d.vacuum }) = subst (λ (o : Option VacuumAt). ReplyPost c o r moment result d) runs h in
      subst (λ (b : Bool). Leads b (Ok st) result d) (sym outside)
      (subst (λ (x : Statement). Leads false (Ok x) result d) (sym vacuum)
      (as_leads false (Ok statement.Vacuum) (answer_of sweep_case.0.step) result (record c { vacuum = vacuum_left sweep_case.0.step sweep_case.0.left }) d sweep_case.0.answer (sweep_case.1 ∙ ap (λ (o : Option VacuumAt). record c { vacuum = o }) sweep_case.0.goes) (swept_case c txn sweep_case.0.step sweep_case.0.left)))

pub replies_lead : (r : RepliedBy) → LeadsOn r.catalog r.opened (Ok r.statement) r.moment r.id r.result r.after
replies_lead r = reply_case r.catalog r.moment r.id r.statement r.opened r.stays r.before r.works r.reply r.now r.result r.after r.took

---- a taking

module _ (q : Taking) (vacuums : q.gate.vacuum_runs ≡ false) (opens : q.gate.open_elsewhere ≡ false) (c : ClientAt) (idle : IsIdle c) (result : Option Answer) (d : ClientAt) where
  abbrev Goes : Bool → Result Statement Refusal → Type 0
  Goes opened says = LeadsOn q.catalog opened says q.now q.fresh result d

  as_away : (opened : Bool) (says : Result Statement Refusal) (z : Answer) → is_some c.txn ≡ opened → rejected q.catalog opened says ≡ Some z → IsAnsweredAtOnce c z result d → Goes opened says
  as_away opened says z is_open away h = answered q.catalog q.now q.fresh opened says z result c d h.answer h.same (turned q.catalog q.now q.fresh opened says z c away is_open idle)

  still_of : (t : TxnAt) → c.txn ≡ Some t → t.doing ≡ doing.Idle
  still_of t e = subst (λ (o : Option TxnAt). IfSome o (λ u. u.doing ≡ doing.Idle)) e idle.still

  begin_case : (x : Option TxnAt) → c.txn ≡ x → BeginPost q.gate q.fresh c x result d → Goes (is_some x) (Ok statement.Begin)
  begin_case (Some t) e h = as_away true (Ok statement.Begin) (refused 4) (ap (λ (o : Option TxnAt). is_some o) e) refl h
  begin_case None e h =
      let k : GatePost false q.fresh c result d = subst (λ w. GatePost w q.fresh c result d) vacuums h in
      answered q.catalog q.now q.fresh false (Ok statement.Begin) answer.Done result (with_begun c q.fresh) d k.0 k.1 (record { accepted = stays_taken q.catalog q.now q.fresh false (Ok statement.Begin) answer.Done refl tt; has_txn = refl; idle = record { free = refl; still = refl } })

  commit_case : (x : Option TxnAt) → c.txn ≡ x → CommitStartPost q.now c x result d → Goes (is_some x) (Ok statement.Commit)
  commit_case None e h = as_away false (Ok statement.Commit) (refused 5) (ap (λ (o : Option TxnAt). is_some o) e) refl h
  commit_case (Some t) e h = waiting q.catalog q.now q.fresh true statement.Commit result (holding c (committing t q.now)) d h.0 h.1 refl (Commits (committing t q.now) (record { work = txn_work t q.now; stage = preparing (txn_work t q.now) 0 }) idle.free refl refl refl refl refl)

  rollback_case : (x : Option TxnAt) → c.txn ≡ x → RollbackPost c x result d → Goes (is_some x) (Ok statement.Rollback)
  rollback_case None e h = as_away false (Ok statement.Rollback) (refused 5) (ap (λ (o : Option TxnAt). is_some o) e) refl h
  rollback_case (Some t) e h = answered q.catalog q.now q.fresh true (Ok statement.Rollback) answer.Done result (resting c) d h.0 h.1 (ended_at q.catalog q.now q.fresh (Ok statement.Rollback) answer.Done c refl idle.free refl tt)

  vacuum_case : (x : Option TxnAt) → c.txn ≡ x → (ts : List Table) → VacuumStartPost (is_some x || q.gate.open_elsewhere) ts c result d → Goes (is_some x) (Ok statement.Vacuum)
  vacuum_case (Some t) e ts h = as_away true (Ok statement.Vacuum) answer.OpenTransactions (ap (λ (o : Option TxnAt). is_some o) e) refl h
  vacuum_case None e [] h =
      let k : IsAnsweredAtOnce c (answer.Count 0) result d = subst (λ w. VacuumStartPost w [] c result d) opens h in
      answered q.catalog q.now q.fresh false (Ok statement.Vacuum) (answer.Count 0) result c d k.answer k.same (record { accepted = stays_taken q.catalog q.now q.fresh false (Ok statement.Vacuum) (answer.Count 0) refl tt; has_txn = ap (λ (o : Option TxnAt). is_some o) e; idle = idle })
  vacuum_case None e (t ∷ ts) h =
      let k : (result ≡ None) × (d ≡ record c { vacuum = Some (sweeping (t ∷ ts)) }) = subst (λ w. VacuumStartPost w (t ∷ ts) c result d) opens h in
      waiting q.catalog q.now q.fresh false statement.Vacuum result (record c { vacuum = Some (sweeping (t ∷ ts)) }) d k.0 k.1 refl (InVacuum (sweeping (t ∷ ts)) refl e refl refl)

  -- a statement on a table
  record IsOnTable (st : Statement) : Type 0 where
    away_open : rejected q.catalog true (Ok st) ≡ option_map (λ r. answer.Refused r) (refusal_of q.catalog st)
    away_none : rejected q.catalog false (Ok st) ≡ Some (refused 5)
    table : is_some (table_of st) ≡ true

  ask_case : (st : Statement) → IsOnTable st → (x : Option TxnAt) → c.txn ≡ x → AskPost q.catalog st c x result d → Goes (is_some x) (Ok st)
  ask_case st on None e h = as_away false (Ok st) (refused 5) (ap (λ (o : Option TxnAt). is_some o) e) on.away_none h
  ask_case st on (Some t) e h = by_refusal (refusal_of q.catalog st) refl
    where
      rows_case : (table : Table) → rejected q.catalog true (Ok st) ≡ None → RowsPost (plan_of table st) (access_of table st) c t result d → Goes true (Ok st)
      rows_case table stays r = by_test (is_covered t.seen (access_of table st))
          (λ k. let plain = given_plain (plan_of table st) _ t on.table in
          answered q.catalog q.now q.fresh true (Ok st) _ result (holding c (given_left t (gives (plan_of table st) (access_of table st) t))) d (r.known k).0 (r.known k).1
          (kept_open q.catalog q.now q.fresh st (given_answer t (gives (plan_of table st) (access_of table st) t)) c _ stays on.table idle.free (left_idle t (gives (plan_of table st) (access_of table st) t) (still_of t e)) plain.agrees plain.may))
          (λ k. waiting q.catalog q.now q.fresh true st result (record c { txn = Some (reading t (access_of table st)); plan = Some (plan_of table st) }) d (r.unknown k).0 (r.unknown k).1 stays
          (Reads (reading t (access_of table st)) (plan_of table st) (access_of table st) (record { request = request_of (access_of table st); stage = Asking }) idle.free refl refl refl refl on.table refl))

      by_table : (w : Option Table) → refusal_of q.catalog st ≡ None → named_table q.catalog st ≡ w → Goes true (Ok st)
      by_table (Some table) accepted named = rows_case table (on.away_open ∙ ap (option_map (λ r. answer.Refused r)) accepted) (h.reads table accepted named)
      by_table None accepted named = absurd (let k : Some (record { kind = 6; place = 0 }) ≡ None = sym (ap (λ (w : Option Table). refusal_by w st) named) ∙ accepted in cc)

      by_refusal : (w : Option Refusal) → refusal_of q.catalog st ≡ w → Goes true (Ok st)
      by_refusal (Some r) k = as_away true (Ok st) (answer.Refused r) (ap (λ (o : Option TxnAt). is_some o) e) (on.away_open ∙ ap (option_map (λ r. answer.Refused r)) k) (h.refused r k)
      by_refusal None k = by_table (named_table q.catalog st) k refl

  statement_case : (st : Statement) → StatementPost q st c result d → Goes (is_some c.txn) (Ok st)
  statement_case statement.Begin h = begin_case c.txn refl h
  statement_case statement.Commit h = commit_case c.txn refl h
  statement_case statement.Rollback h = rollback_case c.txn refl h
  statement_case statement.Vacuum h = vacuum_case c.txn refl q.catalog h
  statement_case (statement.Insert s) h = ask_case (statement.Insert s) (record { away_open = refl; away_none = refl; table = refl }) c.txn refl h
  statement_case (statement.Upsert s) h = ask_case (statement.Upsert s) (record { away_open = refl; away_none = refl; table = refl }) c.txn refl h
  statement_case (statement.Update s) h = ask_case (statement.Update s) (record { away_open = refl; away_none = refl; table = refl }) c.txn refl h
  statement_case (statement.Delete s) h = ask_case (statement.Delete s) (record { away_open = refl; away_none = refl; table = refl }) c.txn refl h
  statement_case (statement.Select s) h = ask_case (statement.Select s) (record { away_open = refl; away_none = refl; table = refl }) c.txn refl h

  text_case : (says : Result Statement Refusal) → ParsedPost q says c result d → Goes (is_some c.txn) says
  text_case (Ok st) h = statement_case st h
  text_case (Err r) h = as_away (is_some c.txn) (Err r) (answer.Refused r) refl refl h

  -- out of memory as it is accepted
  starved_open : (opened : Bool) (x : Option TxnAt) (says : Result Statement Refusal) → is_some x ≡ opened → is_some (if is_commit says then None else x) ≡ is_open_after opened (record { says = says; moment = q.now; id = q.fresh; answer = answer.NoMemory })
  starved_open true x says e = by (is_commit says) (is_rollback says)
    where
      by : (a b : Bool) → is_some (if a then None else x) ≡ not (a || (false || (b && false)))
      by true b = refl
      by false true = e
      by false false = e
  starved_open false x says e = by (is_commit says)
    where
      none : (y : Option TxnAt) → is_some y ≡ false → is_some y ≡ false
      none y f = f

      by : (a : Bool) → is_some (if a then None else x) ≡ begins (record { says = says; moment = q.now; id = q.fresh; answer = answer.NoMemory })
      by true = sym (never says)
        where
          never : (y : Result Statement Refusal) → begins (record { says = y; moment = q.now; id = q.fresh; answer = answer.NoMemory }) ≡ false
          never (Err r) = refl
          never (Ok statement.Begin) = refl
          never (Ok st) = refl
      by false = e ∙ sym (never says)
        where
          never : (y : Result Statement Refusal) → begins (record { says = y; moment = q.now; id = q.fresh; answer = answer.NoMemory }) ≡ false
          never (Err r) = refl
          never (Ok statement.Begin) = refl
          never (Ok st) = refl

  starved_case : (text : List ℕ) (says : Result Statement Refusal) → Parses text says → result ≡ Some answer.NoMemory → d ≡ out_of_memory text c → Goes (is_some c.txn) says
  starved_case text says reads e k = answered q.catalog q.now q.fresh (is_some c.txn) says answer.NoMemory result (if is_commit says then resting c else c) d e (k ∙ ap (λ b. if b then resting c else c) (reads_as_commit text says reads)) (record {
    accepted = record { away = λ a f. inr refl; stays = λ f. tt };
    has_txn = by_test (is_commit says) (λ t. rw t (left_true t)) (λ t. rw t (left_false t));
    idle = idle_left (is_commit says);
  })
    where
      idle_left : (b : Bool) → IsIdle (if b then resting c else c)
      idle_left true = record { free = idle.free; still = tt }
      idle_left false = idle

      left_true : is_commit says ≡ true → ◌≡◌ false (is_open_after (is_some c.txn) (record { says = says; moment = q.now; id = q.fresh; answer = answer.NoMemory }))
      left_true t = sym (ap (λ b. is_some (if b then None else c.txn)) t) ∙ starved_open (is_some c.txn) c.txn says refl

      left_false : is_commit says ≡ false → ◌≡◌ (is_some c.txn) (is_open_after (is_some c.txn) (record { says = says; moment = q.now; id = q.fresh; answer = answer.NoMemory }))
      left_false t = sym (ap (λ b. is_some (if b then None else c.txn)) t) ∙ starved_open (is_some c.txn) c.txn says refl

pub takings_lead : (t : ExecutedBy) → LeadsOn t.taking.catalog (is_some t.before.txn) t.says t.taking.now t.taking.fresh t.result t.after
takings_lead t =
    by_memory t.result
    (λ e. starved_case t.taking t.vacuums t.opens t.before t.idle t.result t.after t.text t.says t.reads e (t.memory e))
    (λ n. text_case t.taking t.vacuums t.opens t.before t.idle t.result t.after t.says (t.took n))
