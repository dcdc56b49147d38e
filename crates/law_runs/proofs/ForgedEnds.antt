-- A COMMIT in a transaction that is answered Faulted without a call is refused.
use Rattle.std.proofs.Common.{◌≡◌, ◌⊎◌, inl, inr, ℕ, Bool, true, false, List, [], ◌∷◌, Option, Some, refl, sym, ap, ◌∙◌}
use Rattle.std.specs.Prelude.{◌&&◌, if◌then◌else◌, is_some}
use Rattle.std.proofs.lemmas.List.Elements.{Contains-push}
use Rattle.law_runs.specs.Types.{Answer, Event, Key, Record, Statement, Table, TxId}
use Rattle.sdb_types.proofs.Public.{clash}
use Rattle.sdb_model.specs.declared.answer.Answer.TheVariants as answer
use Rattle.sdb_model.specs.declared.event.Event.TheVariants as event
use Rattle.sdb_model.specs.declared.statement.Statement.TheVariants as statement
use Rattle.sdb_model.specs.Causes.{IsChecked, IsRejected, IsUnmet}
use Rattle.sdb_model.specs.Follows.{is_open}
use Rattle.sdb_model.specs.Exec.{table_of}
use Rattle.sdb_model.specs.Sql.{Reads, reads_commit}
use Rattle.sdb_model.specs.Transactions.{Executed, ends}
use Rattle.sdb_sqltext.proofs.Public.{commit_read, one_statement}
use Rattle.law_clients.proofs.Public.{refused_no_commit}
use Rattle.law_runs.specs.Complete.{UncontendedCommitsComplete}
use Rattle.law_runs.specs.Forged.{EmptyTransaction, faults_at_once}
use Rattle.law_runs.proofs.Statements.{none_in}

-- a COMMIT in a transaction isn't rejected
stays : (catalog : List Table) (past : List Event) (text : List ℕ) → reads_commit text ≡ true → is_open past 1 ≡ true → (b : Answer) → IsRejected catalog past 1 text b → ⊥
stays catalog past text commit opened b h = by h
  where
    same : (st : Statement) → Reads text st → st ≡ statement.Commit
    same st reads = one_statement text st statement.Commit reads ((commit_read text).0 commit)

    by : IsRejected catalog past 1 text b → ⊥
    by (inl z) = clash (sym commit ∙ refused_no_commit text z.0 z.1)
    by (inr (inl z)) = let e = same statement.Begin z.0 in cc
    by (inr (inr (inl z))) = clash (sym opened ∙ z.3)
    by (inr (inr (inr (inl z)))) = clash (sym z.4 ∙ ap (λ (st : Statement). is_some (table_of st)) (same z.0 z.2))
    by (inr (inr (inr (inr (inl z))))) = let e = same statement.Begin z.0 in cc
    by (inr (inr (inr (inr (inr z))))) = let e = same statement.Vacuum z.0 in cc

pub faulted_refused : (catalog : List Table) (t : EmptyTransaction) → UncontendedCommitsComplete catalog (faults_at_once t) → ⊥
faulted_refused catalog t law =
    law 1 s answer.Faulted (record { among = Contains-push (b ∷ []) s; is = refl; accepted = stays catalog (event.Take 1 t.begin (Some answer.Done) ∷ []) t.commit t.commits opened; served = λ m has. none_in m has })
    (record {
      commit = t.commits;
      unchanged = λ id of. record { observed = λ key found observed moved. unseen key found id observed; agreed = λ key z. none_in z.0 z.3 };
      undecided = λ m r has observed is. none_in m has;
    })
  where
    b : Executed
    b = record { accepted = 1; text = t.begin; answer = Some answer.Done; reached = 1 }

    s : Executed
    s = record { accepted = 2; text = t.commit; answer = Some answer.Faulted; reached = 2 }

    opened : is_open (event.Take 1 t.begin (Some answer.Done) ∷ []) 1 ≡ true
    opened = ap (λ (x : Bool). if x && true then true else (if ends b && true then false else false)) t.begins

    unseen : (key : Key) (found : Option Record) (id : TxId) → IsUnmet [] id key found ⊎ IsChecked [] id key found → ⊥
    unseen key found id (inl z) = none_in z.0 z.1
    unseen key found id (inr z) = none_in z.0 z.1
