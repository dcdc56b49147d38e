-- A statement's read that goes on.
use Rattle.std.proofs.Common.{◌≡◌, ℕ, ℤ, List, sym, subst, ◌∙◌}
use Rattle.law_runs.specs.Types.{Access, Event, Next, ReadStep, Reply, Table}
use Rattle.sdb_model.specs.declared.answer.Answer.TheVariants as answer
use Rattle.sdb_model.specs.Transactions.{Executed}
use Rattle.sdb_exec.specs.Plans.{Planned}
use Rattle.sdb_txn.specs.declared.read.ReadStep.TheVariants as step
use Rattle.sdb_txn.specs.Read.{ReadAt, read_result, read_step}
use Rattle.sdb_txn.specs.declared.txn.Doing.TheVariants as doing
use Rattle.sdb_txn.specs.Txn.{TxnAt}
use Rattle.sdb_client.specs.declared.next.Next.TheVariants as next
use Rattle.sdb_client.specs.Client.{CallPost, StagePost}

-- nothing more is so of a statement that was answered
abbrev pub NothingMore : List Table → List Event → ℕ → Executed → Type 0
NothingMore catalog events c s = Unit {0}

-- a read that goes on
pub reads_again : (t : TxnAt) (p : Planned) (a : Access) (x : ReadAt) (r : Reply) (now : ℤ) (n : Next) (u : TxnAt) → CallPost t p a x r now n u → n ≡ next.Call → u ≡ record t { doing = doing.Read a (record x { stage = read_step x.stage now r }) }
reads_again t p a x r now n u leads e = by (read_result (read_step x.stage now r)) (subst (λ (m : Next). StagePost t p a x (read_step x.stage now r) (read_result (read_step x.stage now r)) m u) e (leads.answered (λ k. other (sym e ∙ k))))
  where
    other : next.Call ≡ next.Answer answer.NoMemory → ⊥
    other k = cc

    by : (s : ReadStep) → StagePost t p a x (read_step x.stage now r) s next.Call u → u ≡ record t { doing = doing.Read a (record x { stage = read_step x.stage now r }) }
    by step.More k = k.1
    by (step.Images images) k = absurd k
    by (step.Busy key id at) k = absurd (let z = k.0 in cc)
    by step.Faulted k = absurd (let z = k.0 in cc)
    by (step.BadRecord key) k = absurd (let z = k.0 in cc)
    by step.NoMemory k = absurd k
