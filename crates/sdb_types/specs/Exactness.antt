-- The tests of equality hold of equal values alone.
use Rattle.std.proofs.Common.{◌≡◌, ◌==◌, Bool, true, ◌&&◌, Some, None, refl, ap}
use Rattle.std.specs.Cmp.{first_so, second_so, unsigned_Decides}
use Rattle.std.specs.Cmp.Lexicographic.{pointwise, pointwise_decides, bytes_decides}
use Rattle.std.specs.Option.{option_eq}
use Rattle.sdb_types.specs.Exact.{order_decides}
use Rattle.sdb_types.specs.ValueLaws.{value_exact, value_total}
use Rattle.sdb_types.specs.declared.record.State.TheVariants.{Prepared, Deleted, Committed, Aborted}
use Rattle.sdb_types.specs.declared.record.Condition.TheVariants.{Absent, Version}
use Rattle.sdb_types.specs.declared.record.Request.TheVariants as ask
use Rattle.sdb_types.specs.declared.record.Reply.TheVariants as reply
use Rattle.sdb_types.specs.contracts.value_order.ValuePartialEq.TheImpl as value_eq
use Rattle.sdb_types.specs.contracts.key.TableNamePartialEq.TheImpl as table_eq
use Rattle.sdb_types.specs.contracts.key.KeyPartialEq.TheImpl as key_eq
use Rattle.sdb_types.specs.contracts.pair.PairPartialEq.TheImpl as pair_eq
use Rattle.sdb_types.specs.contracts.txid.TxIdPartialEq.TheImpl as id_eq
use Rattle.sdb_types.specs.contracts.record.RecordPartialEq.TheImpl as record_eq
use Rattle.sdb_types.specs.contracts.record.SpanPartialEq.TheImpl as span_eq
use Rattle.sdb_types.specs.contracts.record.StatePartialEq.TheImpl as state_eq
use Rattle.sdb_types.specs.contracts.record.ConditionPartialEq.TheImpl as condition_eq
use Rattle.sdb_types.specs.contracts.record.PutPartialEq.TheImpl as put_eq
use Rattle.sdb_types.specs.contracts.record.RequestPartialEq.TheImpl as request_eq
use Rattle.sdb_types.specs.contracts.record.ReplyPartialEq.TheImpl as reply_eq

-- a test that holds of equal values alone
abbrev pub IsExact : {K : Type 0} → (K → K → Bool) → Type 0
IsExact {K} E = (a b : K) → (E a b ≡ true → a ≡ b) × (a ≡ b → E a b ≡ true)

both : (s t : Bool) → s ≡ true → t ≡ true → (s && t) ≡ true
both s t h k = λ i. h i && k i

-- a test of two parts of a value that has no others
module _ {K A B : Type 0} {E : A → A → Bool} {F : B → B → Bool} (d : IsExact E) (e : IsExact F) (f : K → A) (g : K → B) where
  pub parts_tell : ((a b : K) → f a ≡ f b → g a ≡ g b → a ≡ b) → IsExact (λ (a b : K). E (f a) (f b) && F (g a) (g b))
  parts_tell whole a b = (
    λ h. whole a b ((d (f a) (f b)).0 (first_so (E (f a) (f b)) (F (g a) (g b)) h)) ((e (g a) (g b)).0 (second_so (E (f a) (f b)) (F (g a) (g b)) h)),
    λ p. both (E (f a) (f b)) (F (g a) (g b)) ((d (f a) (f b)).1 (ap f p)) ((e (g a) (g b)).1 (ap g p)),
  )

pub option_is_exact : {K : Type 0} {E : K → K → Bool} → IsExact E → IsExact (option_eq E)
option_is_exact d None None = (λ h. refl, λ e. refl)
option_is_exact d None (Some y) = (λ h. cc, λ e. cc)
option_is_exact d (Some x) None = (λ h. cc, λ e. cc)
option_is_exact d (Some x) (Some y) = (λ h. ap Some ((d x y).0 h), λ e. (d x y).1 (cc))

pub value_is_exact : IsExact (value_eq.ghosts).eq
value_is_exact = order_decides value_total value_exact

pub values_are_exact : IsExact (pointwise (value_eq.ghosts).eq)
values_are_exact = pointwise_decides value_is_exact

pub table_is_exact : IsExact (table_eq.ghosts).eq
table_is_exact = parts_tell bytes_decides bytes_decides (λ t. t.ns) (λ t. t.table) (λ a b p q i. record { ns = p i; table = q i })

pub pair_is_exact : IsExact (pair_eq.ghosts).eq
pair_is_exact = parts_tell bytes_decides value_is_exact (λ t. t.name) (λ t. t.value) (λ a b p q i. record { name = p i; value = q i })

pub id_is_exact : IsExact (id_eq.ghosts).eq
id_is_exact a b = (λ h i. record { 0 = (unsigned_Decides a.0 b.0).0 h i }, λ e. (unsigned_Decides a.0 b.0).1 (ap (λ t. t.0) e))

pub key_is_exact : IsExact (key_eq.ghosts).eq
key_is_exact a b =
    let partition = values_are_exact a.partition b.partition in
    let clustering = values_are_exact a.clustering b.clustering in
    let table = table_is_exact a.table b.table in
    let t = (table_eq.ghosts).eq a.table b.table in
    let p = pointwise (value_eq.ghosts).eq a.partition b.partition in
    let c = pointwise (value_eq.ghosts).eq a.clustering b.clustering in (
      λ h.
          let rest = second_so t (p && c) h in
          λ i. record { table = table.0 (first_so t (p && c) h) i; partition = partition.0 (first_so p c rest) i; clustering = clustering.0 (second_so p c rest) i },
      λ e. both t (p && c) (table.1 (ap (λ k. k.table) e)) (both p c (partition.1 (ap (λ k. k.partition) e)) (clustering.1 (ap (λ k. k.clustering) e))),
    )

pub columns_are_exact : IsExact (pointwise (pair_eq.ghosts).eq)
columns_are_exact = pointwise_decides pair_is_exact

pub record_is_exact : IsExact (record_eq.ghosts).eq
record_is_exact = parts_tell key_is_exact columns_are_exact (λ r. r.key) (λ r. r.columns) (λ a b p q i. record { key = p i; columns = q i })

pub records_are_exact : IsExact (pointwise (record_eq.ghosts).eq)
records_are_exact = pointwise_decides record_is_exact

pub span_is_exact : IsExact (span_eq.ghosts).eq
span_is_exact = parts_tell table_is_exact (option_is_exact values_are_exact) (λ s. s.table) (λ s. s.partition) (λ a b p q i. record { table = p i; partition = q i })

pub state_is_exact : IsExact (state_eq.ghosts).eq
state_is_exact Prepared Prepared = (λ h. refl, λ e. refl)
state_is_exact Deleted Deleted = (λ h. refl, λ e. refl)
state_is_exact Committed Committed = (λ h. refl, λ e. refl)
state_is_exact Aborted Aborted = (λ h. refl, λ e. refl)
state_is_exact a b = (λ h. cc, λ e. cc)

pub condition_is_exact : IsExact (condition_eq.ghosts).eq
condition_is_exact Absent Absent = (λ h. refl, λ e. refl)
condition_is_exact (Version t s) (Version u r) =
    let id = id_is_exact t u in
    let state = state_is_exact s r in
    let x = (id_eq.ghosts).eq t u in
    let y = (state_eq.ghosts).eq s r in
    (λ h i. Version (id.0 (first_so x y h) i) (state.0 (second_so x y h) i), λ e. both x y (id.1 (cc)) (state.1 (cc)))
condition_is_exact a b = (λ h. cc, λ e. cc)

pub put_is_exact : IsExact (put_eq.ghosts).eq
put_is_exact = parts_tell record_is_exact condition_is_exact (λ p. p.rec) (λ p. p.condition) (λ a b p q i. record { rec = p i; condition = q i })

pub batch_is_exact : IsExact (pointwise (put_eq.ghosts).eq)
batch_is_exact = pointwise_decides put_is_exact

pub request_is_exact : IsExact (request_eq.ghosts).eq
request_is_exact (ask.Get k) (ask.Get l) = (λ h. ap ask.Get ((key_is_exact k l).0 h), λ e. (key_is_exact k l).1 (cc))
request_is_exact (ask.Scan s) (ask.Scan t) = (λ h. ap ask.Scan ((span_is_exact s t).0 h), λ e. (span_is_exact s t).1 (cc))
request_is_exact (ask.PutIf r c) (ask.PutIf s d) =
    let row = record_is_exact r s in
    let condition = condition_is_exact c d in
    let x = (record_eq.ghosts).eq r s in
    let y = (condition_eq.ghosts).eq c d in
    (λ h i. ask.PutIf (row.0 (first_so x y h) i) (condition.0 (second_so x y h) i), λ e. both x y (row.1 (cc)) (condition.1 (cc)))
request_is_exact (ask.DeleteIf k c) (ask.DeleteIf l d) =
    let key = key_is_exact k l in
    let condition = condition_is_exact c d in
    let x = (key_eq.ghosts).eq k l in
    let y = (condition_eq.ghosts).eq c d in
    (λ h i. ask.DeleteIf (key.0 (first_so x y h) i) (condition.0 (second_so x y h) i), λ e. both x y (key.1 (cc)) (condition.1 (cc)))
request_is_exact (ask.PutAll a) (ask.PutAll b) = (λ h. ap ask.PutAll ((batch_is_exact a b).0 h), λ e. (batch_is_exact a b).1 (cc))
request_is_exact a b = (λ h. cc, λ e. cc)

pub reply_is_exact : IsExact (reply_eq.ghosts).eq
reply_is_exact (reply.Found a) (reply.Found b) = (λ h. ap reply.Found ((option_is_exact record_is_exact a b).0 h), λ e. (option_is_exact record_is_exact a b).1 (cc))
reply_is_exact (reply.Rows a) (reply.Rows b) = (λ h. ap reply.Rows ((records_are_exact a b).0 h), λ e. (records_are_exact a b).1 (cc))
reply_is_exact reply.Applied reply.Applied = (λ h. refl, λ e. refl)
reply_is_exact (reply.NotMet a) (reply.NotMet b) = (λ h. ap reply.NotMet ((option_is_exact record_is_exact a b).0 h), λ e. (option_is_exact record_is_exact a b).1 (cc))
reply_is_exact (reply.NotAll n a) (reply.NotAll k b) =
    let place = unsigned_Decides n k in
    let found = option_is_exact record_is_exact a b in
    let x = n == k in
    let y = option_eq (record_eq.ghosts).eq a b in
    (λ h i. reply.NotAll (place.0 (first_so x y h) i) (found.0 (second_so x y h) i), λ e. both x y (place.1 (cc)) (found.1 (cc)))
reply_is_exact reply.Fault reply.Fault = (λ h. refl, λ e. refl)
reply_is_exact reply.NoMemory reply.NoMemory = (λ h. refl, λ e. refl)
reply_is_exact a b = (λ h. cc, λ e. cc)
