-- A client that is alone and out of memory as it takes a statement.
use Rattle.std.proofs.Common.{◌≡◌, ℕ, List, Option, None, Result, Ok, Err, refl, sym, ap, subst, ◌∙◌}
use Rattle.std.specs.Prelude.{if◌then◌else◌}
use Rattle.law_clients.specs.Types.{Refusal, Statement, Table}
use Rattle.sdb_model.specs.declared.answer.Answer.TheVariants as answer
use Rattle.sdb_model.specs.declared.statement.Statement.TheVariants as statement
use Rattle.sdb_model.specs.Sql.{reads_commit}
use Rattle.sdb_sqltext.proofs.Public.{commit_read}
use Rattle.sdb_client.specs.Client.{ClientAt, Parses, resting, out_of_memory}
use Rattle.law_clients.proofs.Accepted.{other_no_commit, refused_no_commit}
use Rattle.law_clients.specs.Database.{Database}
use Rattle.law_clients.specs.Between.{Between, OpenTransaction}
use Rattle.law_clients.specs.Chain.{Exchanged, OutOfMemory}
use Rattle.law_clients.specs.Session.{Exchange, is_commit}

-- a text reads as COMMIT exactly where it says so
pub reads_as_commit : (text : List ℕ) (says : Result Statement Refusal) → Parses text says → reads_commit text ≡ is_commit says
reads_as_commit text (Err r) h = refused_no_commit text r h
reads_as_commit text (Ok statement.Commit) h = (commit_read text).1 h
reads_as_commit text (Ok statement.Begin) h = other_no_commit text statement.Begin h (λ e. cc)
reads_as_commit text (Ok statement.Rollback) h = other_no_commit text statement.Rollback h (λ e. cc)
reads_as_commit text (Ok statement.Vacuum) h = other_no_commit text statement.Vacuum h (λ e. cc)
reads_as_commit text (Ok (statement.Insert s)) h = other_no_commit text (statement.Insert s) h (λ e. cc)
reads_as_commit text (Ok (statement.Upsert s)) h = other_no_commit text (statement.Upsert s) h (λ e. cc)
reads_as_commit text (Ok (statement.Update s)) h = other_no_commit text (statement.Update s) h (λ e. cc)
reads_as_commit text (Ok (statement.Delete s)) h = other_no_commit text (statement.Delete s) h (λ e. cc)
reads_as_commit text (Ok (statement.Select s)) h = other_no_commit text (statement.Select s) h (λ e. cc)

pub starves : {catalog : List Table} {g : Database} {o : Option OpenTransaction} (e : Exchange) (text : List ℕ) {c : ClientAt} (d : ClientAt) → Parses text e.says → e.answer ≡ answer.NoMemory → Between catalog g o c → d ≡ out_of_memory text c → Exchanged catalog g o e g d
starves {catalog} {g} {o} e text {c} d says none between is = OutOfMemory none refl
    (λ f. subst (Between catalog g None) (sym (is ∙ ap (λ b. if b then resting c else c) (reads_as_commit text e.says says ∙ f))) (record { free = between.free; plan = refl; txn = tt }))
    (λ f. subst (Between catalog g o) (sym (is ∙ ap (λ b. if b then resting c else c) (reads_as_commit text e.says says ∙ f))) between)
