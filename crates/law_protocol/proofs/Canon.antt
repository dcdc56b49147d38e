-- The records that a transaction puts at a key, answered apart by version.
use Rattle.std.proofs.Common.{◌≡◌, ℕ, ◌<◌, ◌^◌, Bool, true, false, Option, Some, refl, sym, ap, ◌∙◌}
use Rattle.std.specs.Prelude.{pos, unwrap_or}
use Rattle.std.specs.Option.{option_map}
use Rattle.law_protocol.specs.Types.{Key, Record, State, TxId, Value}
use Rattle.sdb_types.specs.declared.value.Value.TheVariants as value
use Rattle.sdb_types.specs.declared.record.State.TheVariants as state
use Rattle.sdb_types.specs.Columns.{column}
use Rattle.sdb_types.specs.TxId.{id_text}
use Rattle.sdb_types.specs.Contents.{tx_id, tx_state, state_number, has_value, is_version}
use Rattle.sdb_types.proofs.Public.{and_second}
use Rattle.sdb_record.specs.Meta.{id_in, is_in, is_committed}
use Rattle.sdb_record.specs.Rolls.{state_of_change}
use Rattle.sdb_record.proofs.Public.{forward-committed, forward-writer, has_value-is, prepared-unsettled, prepared-version, version-writer}
use Rattle.law_protocol.specs.Plan.{Plan}
use Rattle.law_protocol.specs.Lawful.{id}
use Rattle.law_protocol.specs.Records.{record_prepared_by, record_left_by, write_there}

pub held_writer : (plan : ℕ → Plan) (t : ℕ) (k : Key) → t < 2 ^ 128 → id_in (record_prepared_by plan t k).columns ≡ Some (id t)
unfolding record_prepared_by
held_writer plan t k fits = version-writer (record_prepared_by plan t k) (id t) (state_of_change (write_there (plan t) k).change) fits (prepared-version (write_there (plan t) k) (id t) (plan t).now)

pub held_open : (plan : ℕ → Plan) (t : ℕ) (k : Key) → is_in state.Committed (record_prepared_by plan t k).columns ≡ false
unfolding record_prepared_by
held_open plan t k = prepared-unsettled (write_there (plan t) k) (id t) (plan t).now

pub firm_writer : (plan : ℕ → Plan) (t : ℕ) (k : Key) → t < 2 ^ 128 → id_in (record_left_by plan t k).columns ≡ Some (id t)
unfolding record_left_by
firm_writer plan t k fits = forward-writer (record_prepared_by plan t k) (plan t).now ∙ held_writer plan t k fits

pub firm_committed : (plan : ℕ → Plan) (t : ℕ) (k : Key) → is_in state.Committed (record_left_by plan t k).columns ≡ true
unfolding record_left_by
firm_committed plan t k = forward-committed (record_prepared_by plan t k) (plan t).now

---- versions

pub some_id : (t u : ℕ) → Some (id t) ≡ Some (id u) → t ≡ u
some_id t u e = ap (λ (x : Option TxId). unwrap_or (option_map (λ (i : TxId). i.0) x) 0) e

pub same_writer : (r : Record) (t u : ℕ) → id_in r.columns ≡ Some (id t) → id_in r.columns ≡ Some (id u) → t ≡ u
same_writer r t u a b = some_id t u (sym a ∙ b)

pub version_state : (t : TxId) (s : State) (r : Record) → is_version t s r ≡ true → is_in s r.columns ≡ true
version_state t s r h = and_second (has_value (column r.columns tx_id) (value.Text (id_text t.0))) (is_in s r.columns) h

-- a record is in one state
numbers_apart : (s : State) → is_committed s ≡ false → value.Int (state_number s) ≡ value.Int (pos 3) → ⊥
numbers_apart state.Prepared h e = cc
numbers_apart state.Deleted h e = cc
numbers_apart state.Committed h e = cc
numbers_apart state.Aborted h e = cc

some_value : (a b : Value) → Some a ≡ Some b → a ≡ b
some_value a b e = cc

pub one_state : (r : Record) (s : State) → is_committed s ≡ false → is_in s r.columns ≡ true → is_in state.Committed r.columns ≡ true → ⊥
one_state r s h a b =
    numbers_apart s h (some_value (value.Int (state_number s)) (value.Int (pos 3)) (sym (has_value-is (column r.columns tx_state) (value.Int (state_number s)) a) ∙ has_value-is (column r.columns tx_state) (value.Int (pos 3)) b))

-- a committed record is of no version in another state
pub not_open_version : (t : TxId) (s : State) (r : Record) → is_committed s ≡ false → is_in state.Committed r.columns ≡ true → is_version t s r ≡ false
not_open_version t s r h b = by (is_version t s r) refl
  where
    by : (x : Bool) → is_version t s r ≡ x → is_version t s r ≡ false
    by false e = e
    by true e = absurd (one_state r s h (version_state t s r e) b)

-- and an open one of no version in state 3
pub not_firm_version : (t : TxId) (r : Record) → is_in state.Committed r.columns ≡ false → is_version t state.Committed r ≡ false
not_firm_version t r b = by (is_version t state.Committed r) refl
  where
    by : (x : Bool) → is_version t state.Committed r ≡ x → is_version t state.Committed r ≡ false
    by false e = e
    by true e = absurd (clash (sym b ∙ version_state t state.Committed r e))
      where
        clash : false ≡ true → ⊥
        clash x = cc
