-- Counts of calls and of failures, as far as a count of 64 bits goes.
use Rattle.std.proofs.Common.{inl, inr, ℕ, ◌+◌, ◌-◌, ◌^◌, ◌<◌, ◌≤◌, Bool, cond, sym, subst, arith}
use Rattle.std.proofs.lemmas.Bool.{cases_lt, lt-ltb, le-ltb}
use Rattle.sdb_types.specs.declared.record.Reply.{Reply}
use Rattle.sdb_types.specs.declared.record.Reply.TheVariants as reply
use Rattle.sdb_types.specs.Draws.{counted as next_number}
use Rattle.sdb_types.specs.Bytes.{HasRisen}
use Rattle.sdb_store.specs.Store.{faults_after}

pub next_risen : (n : ℕ) → HasRisen n (next_number n)
next_risen n =
    elim (cases_lt n (2 ^ 64 - 1)) [
      | inl less ↦ inl (subst (λ (b : Bool). n < cond b (n + 1) n) (sym (lt-ltb n (2 ^ 64 - 1) less)) (omega arith))
      | inr most ↦ inr (subst (λ (b : Bool). 2 ^ 64 - 1 ≤ cond b (n + 1) n) (sym (le-ltb n (2 ^ 64 - 1) most)) most)
    ]

next_grown : (n : ℕ) → n ≤ next_number n
next_grown n =
    elim (cases_lt n (2 ^ 64 - 1)) [
      | inl less ↦ subst (λ (b : Bool). n ≤ cond b (n + 1) n) (sym (lt-ltb n (2 ^ 64 - 1) less)) (omega arith)
      | inr most ↦ subst (λ (b : Bool). n ≤ cond b (n + 1) n) (sym (le-ltb n (2 ^ 64 - 1) most)) (omega arith)
    ]

-- no count of failures falls
pub faults_grown : (r : Reply) (n : ℕ) → n ≤ faults_after r n
faults_grown reply.Fault n = next_grown n
faults_grown reply.NoMemory n = omega arith
faults_grown (reply.Found found) n = omega arith
faults_grown (reply.Rows rows) n = omega arith
faults_grown reply.Applied n = omega arith
faults_grown (reply.NotMet found) n = omega arith
faults_grown (reply.NotAll k found) n = omega arith
