-- What the taking of a statement rests on.
use Rattle.std.proofs.Common.{◌≡◌, ◌≢◌, ℕ, true, List, Option, Some, None, Err, refl, sym, ap, subst, ◌∙◌, ◌⊎◌, inl, inr}
use Rattle.std.specs.Prelude.{IfSome}
use Rattle.sdb_client.specs.Types.{Answer, Refusal, Statement, Table}
use Rattle.sdb_schema.specs.Catalog.{is_catalog}
use Rattle.sdb_model.specs.declared.answer.Answer.TheVariants as answer
use Rattle.sdb_model.specs.Refused.{refusal_by, refusal_on}
use Rattle.sdb_model.specs.Sql.{Refuses}
use Rattle.sdb_exec.specs.Plans.{Planned, has_all_literals}
use Rattle.sdb_exec.proofs.Public.{named_is_table}
use Rattle.sdb_client.specs.Client.{ClientAt, Taking, TextPost, is_out_of_memory}
use Rattle.sdb_client.specs.Inside.{IsValidPlan, IsPlanOf}

---- answers

pub memory_or : (z : Answer) → (z ≡ answer.NoMemory) ⊎ (z ≢ answer.NoMemory)
memory_or answer.NoMemory = inl refl
memory_or z = inr (λ e. cc)

-- the answer that says so is out of memory
pub out_of_memory_is : (z : Answer) → is_out_of_memory z ≡ true → z ≡ answer.NoMemory
out_of_memory_is answer.NoMemory h = refl
out_of_memory_is z h = absurd (cc)

---- plans

pub plan_fine : (catalog : List Table) (st : Statement) (p : Planned) → is_catalog catalog ≡ true → has_all_literals st ≡ true → IsPlanOf catalog st p → IsValidPlan p
plan_fine catalog st p is whole h = record {
  asked = h.asked;
  table = named_is_table catalog st p.table is h.table;
  accepted = subst (λ (s : Statement). refusal_on p.table s ≡ None) (sym h.statement) (ap (λ (o : Option Table). refusal_by o st) (sym h.table) ∙ h.accepted);
  literals = subst (λ (s : Statement). has_all_literals s ≡ true) (sym h.statement) whole;
}

---- texts

pub unread_told : (q : Taking) (text : List ℕ) (o : Option Refusal) (z : Answer) (c d : ClientAt) → IfSome o (Refuses text) → IfSome o (λ r. (z ≡ answer.Refused r) × (d ≡ c)) → (o ≡ None → (z ≡ answer.NoMemory)) → Some z ≢ Some answer.NoMemory → TextPost q text c (Some z) d
unread_told q text None z c d refuses answered memory n = absurd (n (ap Some (memory refl)))
unread_told q text (Some r) z c d refuses answered memory n = (Err r, refuses, record { answer = ap Some answered.0; same = answered.1 })
