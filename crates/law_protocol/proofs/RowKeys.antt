-- The keys of the coordinator's table that name a transaction.
use Rattle.std.proofs.Common.{◌≡◌, ◌<◌, ◌^◌, ℕ, Bool, true, false, cond, List, [], ◌∷◌, Some, None, refl, ap}
use Rattle.law_protocol.specs.Types.{Key, TxId, Value}
use Rattle.sdb_types.specs.declared.value.Value.TheVariants as value
use Rattle.sdb_types.specs.TxId.{id_text}
use Rattle.sdb_types.proofs.Public.{none_some}
use Rattle.sdb_record.specs.Coordinator.{coordinator_key_of, id_in_values, id_of_key, if_empty, is_coordinator_table}
use Rattle.sdb_record.proofs.Public.{id_of_text-is}
use Rattle.law_protocol.proofs.Moments.{coordinator_is}

values_are : (vs : List Value) (id : TxId) → id_in_values vs ≡ Some id → (id.0 < 2 ^ 128) × (vs ≡ value.Text (id_text id.0) ∷ [])
values_are (value.Text text ∷ []) id h = let w = id_of_text-is text id h in (w.0, ap (λ (t : List ℕ). value.Text t ∷ []) w.1)
values_are _ id h = absurd (none_some id h)

key_with : (key : Key) (id : TxId) (b : Bool) (cs : List Value) → is_coordinator_table key.table ≡ b → key.clustering ≡ cs → cond b (if_empty cs (id_in_values key.partition)) None ≡ Some id → (id.0 < 2 ^ 128) × (key ≡ coordinator_key_of id)
unfolding coordinator_key_of
key_with key id true [] t c e = let w = values_are key.partition id e in (w.0, let table = coordinator_is key.table t in λ i. record { table = table i; partition = w.1 i; clustering = c i })
key_with key id true (v ∷ vs) t c e = absurd (none_some id e)
key_with key id false cs t c e = absurd (none_some id e)

-- a key that names a transaction is that of its row
pub row_key_is : (key : Key) (id : TxId) → id_of_key key ≡ Some id → (id.0 < 2 ^ 128) × (key ≡ coordinator_key_of id)
unfolding id_of_key
row_key_is key id h = key_with key id (is_coordinator_table key.table) key.clustering refl refl h
