-- What a client does that takes a statement: with no answer yet, and at once where it reads as COMMIT or VACUUM.
use Rattle.std.proofs.Common.{◌≡◌, ◌≢◌, ◌⊎◌, inl, inr, ℕ, true, false, List, [], ◌∷◌, Option, Some, None, refl, sym, ◌∙◌}
use Rattle.sdb_types.proofs.Public.{clash}
use Rattle.law_runs.specs.Types.{Access, Answer, Statement, Table}
use Rattle.sdb_model.specs.declared.answer.Answer.TheVariants as answer
use Rattle.sdb_model.specs.declared.statement.Statement.TheVariants as statement
use Rattle.sdb_model.specs.Causes.{refused}
use Rattle.sdb_model.specs.Sql.{Reads, reads_commit, reads_vacuum}
use Rattle.sdb_exec.specs.Plans.{Planned}
use Rattle.sdb_model.specs.Reads.{access_of}
use Rattle.sdb_txn.specs.Txn.{TxnAt, committing, reading}
use Rattle.sdb_vacuum.specs.Vacuum.{begun as sweeping}
use Rattle.sdb_client.specs.Client.{ClientAt, Taking, holding, is_covered, plan_of}
use Rattle.sdb_client.specs.Step.{AnsweredAtOnce, AtOnce, Begins, ByCatalog, CommitStarts, IsOnRows, LosesCommit, NoMemory, NoStatement, NoTable, NoneOpen, OpenAlready, OthersOpen, ReadKnown, ReadStarts, RollsBack, Step, Takes, VacuumRuns, VacuumStarts}
use Rattle.sdb_client.proofs.Public.{names_table}
use Rattle.sdb_sqltext.proofs.Public.{not_both, vacuum_read}
use Rattle.law_clients.proofs.Public.{IsOnTable, on_table, other_no_commit, refused_no_commit}
use Rattle.law_answers.proofs.Public.{never_vacuum}

-- its COMMIT has its first call pending
pub record TakesCommit (q : Taking) (h d : ClientAt) : Type 0 where
  pub t : TxnAt
  pub left : d ≡ holding h (committing t q.now)

-- its VACUUM has
pub record TakesSweep (q : Taking) (h d : ClientAt) : Type 0 where
  pub table : Table
  pub tables : List Table
  pub catalog : q.catalog ≡ table ∷ tables
  pub left : d ≡ record h { vacuum = Some (sweeping (table ∷ tables)) }

-- a statement asks for its rows
pub record TakesRead (q : Taking) (h d : ClientAt) : Type 0 where
  pub t : TxnAt
  pub access : Access
  pub plan : Planned
  pub unread : is_covered t.seen access ≡ false
  pub left : d ≡ record h { txn = Some (reading t access); plan = Some plan }

abbrev pub TakenAs : Taking → ClientAt → ClientAt → Type 0
TakenAs q h d = TakesCommit q h d ⊎ TakesSweep q h d ⊎ TakesRead q h d

-- It is a COMMIT, a VACUUM over some table, or reads.
pub taken_as : (q : Taking) (text : List ℕ) (h d : ClientAt) → Step h (Takes q text) None d → TakenAs q h d
taken_as q text h d (CommitStarts t reads e) = inl (record { t = t; left = refl })
taken_as q text h d (VacuumStarts t ts reads none e) = inr (inl (record { table = t; tables = ts; catalog = e; left = refl }))
taken_as q text h d (ReadStarts t table st on unread) = inr (inr (record { t = t; access = access_of table st; plan = plan_of table st; unread = unread; left = refl }))

---- what is answered at once

-- a COMMIT waits, or is out of memory or refused at once
abbrev pub CommitAtOnce : Option Answer → Type 0
CommitAtOnce a = (a ≡ None) ⊎ (a ≡ Some answer.NoMemory) ⊎ (a ≡ Some (refused 5))

-- a VACUUM waits, or is out of memory or turned away at once, or has no table
abbrev pub VacuumAtOnce : List Table → Option Answer → Type 0
VacuumAtOnce catalog a = (a ≡ None) ⊎ (a ≡ Some answer.NoMemory) ⊎ (a ≡ Some answer.OpenTransactions) ⊎ ((a ≡ Some (answer.Count 0)) × (catalog ≡ []))

module _ (q : Taking) (text : List ℕ) (h : ClientAt) where
  -- no other statement reads as a COMMIT
  no_commit : {X : Type 0} (st : Statement) → Reads text st → st ≢ statement.Commit → reads_commit text ≡ true → X
  no_commit st reads other e = clash (sym e ∙ other_no_commit text st reads other)

  no_vacuum : {X : Type 0} (st : Statement) → Reads text st → st ≢ statement.Vacuum → reads_vacuum text ≡ true → X
  no_vacuum st reads other e = clash (sym e ∙ never_vacuum text st reads other)

  kind : (t : TxnAt) (table : Table) (st : Statement) → IsOnRows h q text t table st → IsOnTable st
  kind t table st on = on_table st (names_table q.catalog st table on.named)

  commit_once : (b : Answer) → AtOnce h q text b → reads_commit text ≡ true → CommitAtOnce (Some b)
  commit_once b (NoStatement r refuses) e = clash (sym e ∙ refused_no_commit text r refuses)
  commit_once b (OpenAlready t reads k) e = no_commit statement.Begin reads (λ z. cc) e
  commit_once b (NoneOpen st reads needs k) e = inr (inr refl)
  commit_once b (VacuumRuns reads k shut) e = no_commit statement.Begin reads (λ z. cc) e
  commit_once b (OthersOpen reads k) e = no_commit statement.Vacuum reads (λ z. cc) e
  commit_once b (NoTable reads k none) e = no_commit statement.Vacuum reads (λ z. cc) e
  commit_once b (ByCatalog st t r reads names k refuses) e = no_commit st reads (on_table st names).commit e
  commit_once b (NoMemory other) e = clash (sym e ∙ other)

  pub commit_taken : (a : Option Answer) (d : ClientAt) → Step h (Takes q text) a d → reads_commit text ≡ true → CommitAtOnce a
  commit_taken a d (AnsweredAtOnce {a = b} at) e = commit_once b at e
  commit_taken a d (Begins reads none shut) e = no_commit statement.Begin reads (λ z. cc) e
  commit_taken a d (RollsBack t reads k) e = no_commit statement.Rollback reads (λ z. cc) e
  commit_taken a d (LosesCommit reads) e = inr (inl refl)
  commit_taken a d (CommitStarts t reads k) e = inl refl
  commit_taken a d (VacuumStarts t ts reads none k) e = inl refl
  commit_taken a d (ReadKnown t table st on known) e = no_commit st on.reads (kind t table st on).commit e
  commit_taken a d (ReadStarts t table st on unread) e = inl refl

  vacuum_once : (b : Answer) → AtOnce h q text b → reads_vacuum text ≡ true → VacuumAtOnce q.catalog (Some b)
  vacuum_once b (NoStatement r refuses) e = absurd (not_both text statement.Vacuum r ((vacuum_read text).0 e) refuses)
  vacuum_once b (OpenAlready t reads k) e = no_vacuum statement.Begin reads (λ z. cc) e
  vacuum_once b (NoneOpen st reads needs k) e = no_vacuum st reads needs.1 e
  vacuum_once b (VacuumRuns reads k shut) e = no_vacuum statement.Begin reads (λ z. cc) e
  vacuum_once b (OthersOpen reads k) e = inr (inr (inl refl))
  vacuum_once b (NoTable reads k none) e = inr (inr (inr (refl, none)))
  vacuum_once b (ByCatalog st t r reads names k refuses) e = no_vacuum st reads (on_table st names).vacuum e
  vacuum_once b (NoMemory other) e = inr (inl refl)

  pub vacuum_taken : (a : Option Answer) (d : ClientAt) → Step h (Takes q text) a d → reads_vacuum text ≡ true → VacuumAtOnce q.catalog a
  vacuum_taken a d (AnsweredAtOnce {a = b} at) e = vacuum_once b at e
  vacuum_taken a d (Begins reads none shut) e = no_vacuum statement.Begin reads (λ z. cc) e
  vacuum_taken a d (RollsBack t reads k) e = no_vacuum statement.Rollback reads (λ z. cc) e
  vacuum_taken a d (LosesCommit reads) e = inr (inl refl)
  vacuum_taken a d (CommitStarts t reads k) e = inl refl
  vacuum_taken a d (VacuumStarts t ts reads none k) e = inl refl
  vacuum_taken a d (ReadKnown t table st on known) e = no_vacuum st on.reads (kind t table st on).vacuum e
  vacuum_taken a d (ReadStarts t table st on unread) e = inl refl
