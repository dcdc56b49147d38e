use Rattle.std.proofs.Common.{rules, ◌≡◌, ℕ, ℤ, List, subst, Ok, to_z, of_z, w64}
use Rattle.std.specs.Prelude.{IfSome}
use Rattle.sdb_model.specs.Sql.{Reads, Refuses}
use Rattle.sdb_sqltext.specs.Answers.{refusal_of}
use Rattle.sdb_client.specs.Client.{StatementPost}
use Rattle.sdb_client.proofs.Takings.{unread_told}
use Rattle.sdb_client.proofs.client.Client.take.Goals as goal

pub returns-in-Ok-clause-answered : goal.returns-in-Ok-clause-answered
returns-in-Ok-clause-answered c =
    let now : to_z w64 (of_z w64 c.args.now) ≡ c.args.now = search rules in
    λ n. (
      Ok c.in-Ok.statement,
      subst (λ (text : List ℕ). Reads text c.in-Ok.statement) c.as_str.ensures c.in-Ok.ensures.read,
      subst (λ (m : ℤ). StatementPost (record { catalog = c.args.catalog.now; now = m; gate = c.args.gate; fresh = c.args.fresh }) c.in-Ok.statement c.args.self.now c.take_statement.result c.take_statement.new.self) now (c.take_statement.ensures.answered n),
    )

pub returns-in-Err-clause-answered : goal.returns-in-Err-clause-answered
returns-in-Err-clause-answered c =
    unread_told _ c.args.text.now (refusal_of c.in-Err.refused) c.unread.result c.args.self.now c.unread.new.self
    (subst (λ (text : List ℕ). IfSome (refusal_of c.in-Err.refused) (Refuses text)) c.as_str.ensures c.in-Err.ensures.refused)
    c.unread.ensures.answered (λ e. (c.unread.ensures.memory e).0)
