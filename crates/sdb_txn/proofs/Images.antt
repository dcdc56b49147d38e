-- What a coordinator's row says is a moment, and what an unresolved record is rolled to is a committed record of its key.
use Rattle.std.proofs.Common.{◌≡◌, ℕ, ℤ, Bool, true, false, cond, List, Option, Some, None, Result, Ok, refl, subst, ◌∙◌}
use Rattle.std.specs.Prelude.{not}
use Rattle.sdb_txn.specs.Types.{Decided, Record, Value}
use Rattle.sdb_types.specs.declared.value.Value.TheVariants as value
use Rattle.sdb_types.specs.declared.record.State.TheVariants.{Committed}
use Rattle.sdb_types.specs.Columns.{column}
use Rattle.sdb_types.specs.Contents.{tx_id, tx_state}
use Rattle.sdb_types.proofs.Public.{and_first, and_second, not_true}
use Rattle.sdb_record.specs.declared.coordinator.Decision.TheVariants as decision
use Rattle.sdb_record.specs.Names.{tx_created_at}
use Rattle.sdb_record.specs.Coordinator.{id_of_key, decision_in, decision_in_value}
use Rattle.sdb_record.specs.Meta.{is_in, is_moment, moment_in, moment_in_value, is_transactional, is_unresolved}
use Rattle.sdb_record.specs.Parts.{before_record}
use Rattle.sdb_record.specs.Rolls.{IsBaseOf, forward_record}
use Rattle.sdb_record.proofs.Public.{image-is, image-open, need-ok as need_ok}

---- a row's moment

pub moment_is : (o : Option Value) (n : ℤ) → moment_in_value o ≡ Some n → is_moment n ≡ true
moment_is None n h = absurd (cc)
moment_is (Some (value.BigInt m)) n h = by (is_moment m) refl h
  where
    some_is : Some m ≡ Some n → m ≡ n
    some_is e = cc

    by : (b : Bool) → is_moment m ≡ b → cond b (Some m) None ≡ Some n → is_moment n ≡ true
    by true t e = subst (λ x. is_moment x ≡ true) (some_is e) t
    by false t e = absurd (cc)
moment_is (Some v) n h = absurd (cc)

-- The moment that a well formed row says is one.
pub decided_at : (row : Record) (d : Decided) → decision_in row ≡ Ok d → is_moment d.created_at ≡ true
unfolding decision_in
decided_at row d says =
    let a = need_ok (id_of_key row.key) tx_id _ d says in
    let b = need_ok (moment_in row.columns tx_created_at) tx_created_at _ d a.2 in
    let e = need_ok (decision_in_value (column row.columns tx_state)) tx_state _ d b.2 in
    subst (λ (x : Decided). is_moment x.created_at ≡ true) (ok_is (record { decision = e.0; created_at = b.0 }) e.2) (moment_is (column row.columns tx_created_at) b.0 b.1)
  where
    ok_is : (x : Decided) → ◌≡◌ {A = Result Decided (List ℕ)} (Ok x) (Ok d) → x ≡ d
    ok_is x e = cc

---- images

pub held_of : (r : Record) → is_unresolved r ≡ true → is_in Committed r.columns ≡ false
held_of r h = not_true (is_in Committed r.columns) (and_second (is_transactional r) (not (is_in Committed r.columns)) h)

pub forward_firm : (r : Record) (m : ℤ) → is_unresolved r ≡ true → is_moment m ≡ true → IsBaseOf r.key (forward_record r m)
forward_firm r m loose moment =
    let d : Option Decided = Some (record { decision = decision.Committed; created_at = m }) in
    let i = image-is r (forward_record r m) d (and_first (is_transactional r) (not (is_in Committed r.columns)) loose) moment (image-open r d (held_of r loose)) in
    (i.key, i.accepted, i.committed)

pub before_firm : (r b : Record) → is_unresolved r ≡ true → before_record r ≡ Some b → IsBaseOf r.key b
before_firm r b loose says =
    let i = image-is r b None (and_first (is_transactional r) (not (is_in Committed r.columns)) loose) tt (image-open r None (held_of r loose) ∙ says) in
    (i.key, i.accepted, i.committed)
