-- Values, keys and records, none of whose texts has an LF.
use Rattle.std.proofs.Common.{ℕ, ℤ, Bool, true, false, cond, List, [], ◌∷◌, map, Option, Some, None, IfSome}
use Rattle.std.specs.Prelude.{not}
use Rattle.std.specs.List.{AllByRecursion}
use Rattle.std.specs.Option.{option_map}
use Rattle.std.specs.declared.cmp.Ordering.TheVariants.{Less, Equal, Greater}
use Rattle.sdb_types.specs.Columns.{choose_by, column, is_named, is_null, put_pair, take_out, with_column}
use Rattle.sdb_types.specs.Contents.{state_number, tx_state}
use Rattle.sdb_types.specs.Order.{name_cmp}
use Rattle.law_runs.specs.Types.{Condition, Decision, Key, Pair, Record, Reply, Request, TxId, Value, Write}
use Rattle.sdb_types.specs.declared.record.Request.TheVariants as ask
use Rattle.sdb_types.specs.declared.record.Reply.TheVariants as reply
use Rattle.sdb_types.specs.declared.record.State.TheVariants as state
use Rattle.sdb_types.specs.declared.value.Value.TheVariants as value
use Rattle.sdb_record.specs.Coordinator.{coordinator_key_of, coordinator_row_of}
use Rattle.sdb_record.specs.Meta.{is_in}
use Rattle.sdb_record.specs.Names.{base_name, tx_committed_at}
use Rattle.sdb_record.specs.Parts.{base_pair, before_pair, before_part, before_record, is_before_pair, is_user_pair, own_columns, record_with, user_columns, with_columns}
use Rattle.sdb_record.specs.Rolls.{base_columns, forward_record, is_tombstone, new_columns, new_meta, prepared_record, row_of_image, tombstone_mark, undo}
use Rattle.sdb_report.specs.OneLine.{ValueHasNoLf}
use Rattle.sdb_report.proofs.Public.{id_one}
use Rattle.law_runs.proofs.Lists.{filter_all, filter_map_all, find_all, map_all, option_so}

abbrev pub AreClear : List Value → Type 0
AreClear vs = AllByRecursion ValueHasNoLf vs

pub record KeyClear (k : Key) : Type 0 where
  pub partition : AreClear k.partition
  pub clustering : AreClear k.clustering

abbrev pub PairClear : Pair → Type 0
PairClear p = ValueHasNoLf p.value

abbrev pub ColumnsClear : List Pair → Type 0
ColumnsClear ps = AllByRecursion PairClear ps

pub record RecordClear (r : Record) : Type 0 where
  pub key : KeyClear r.key
  pub columns : ColumnsClear r.columns

abbrev pub FoundClear : Option Record → Type 0
FoundClear found = IfSome found RecordClear

abbrev pub RecordsClear : List Record → Type 0
RecordsClear rs = AllByRecursion RecordClear rs

abbrev pub RequestClear : Request → Type 0
RequestClear (ask.Get key) = KeyClear key
RequestClear (ask.Scan span) = IfSome span.partition AreClear
RequestClear (ask.PutIf r condition) = RecordClear r
RequestClear (ask.DeleteIf key condition) = KeyClear key
RequestClear (ask.PutAll b) = AllByRecursion (λ p. RecordClear p.rec) b

abbrev pub ReplyClear : Reply → Type 0
ReplyClear (reply.Found found) = FoundClear found
ReplyClear (reply.Rows rows) = RecordsClear rows
ReplyClear reply.Applied = Unit {0}
ReplyClear (reply.NotMet found) = FoundClear found
ReplyClear (reply.NotAll place found) = FoundClear found
ReplyClear reply.Fault = Unit {0}
ReplyClear reply.NoMemory = Unit {0}

---- columns

put_clear : (p : Pair) (ps : List Pair) → PairClear p → ColumnsClear ps → ColumnsClear (put_pair p ps)
put_clear p [] k h = (k, tt)
put_clear p (e ∷ es) k h =
    let rest = put_clear p es k h.1 in
    elim (name_cmp e.name p.name) as (λ o. ColumnsClear (choose_by o (e ∷ put_pair p es) (p ∷ es) (p ∷ e ∷ es))) [ Less ↦ (h.0, rest) | Equal ↦ (k, h.1) | Greater ↦ (k, h) ]

out_clear : (name : List ℕ) (ps : List Pair) → ColumnsClear ps → ColumnsClear (take_out name ps)
out_clear name [] h = tt
out_clear name (e ∷ es) h =
    let rest = out_clear name es h.1 in
    elim (name_cmp e.name name) as (λ o. ColumnsClear (choose_by o (e ∷ take_out name es) es (e ∷ es))) [ Less ↦ (h.0, rest) | Equal ↦ h.1 | Greater ↦ h ]

pub column_set : (p : Pair) (ps : List Pair) → PairClear p → ColumnsClear ps → ColumnsClear (with_column p ps)
column_set p ps k h =
    elim (is_null p.value) as (λ b. ColumnsClear (cond b (take_out p.name ps) (put_pair p ps))) [ true ↦ out_clear p.name ps h | false ↦ put_clear p ps k h ]

columns_set : (ps qs : List Pair) → ColumnsClear ps → ColumnsClear qs → ColumnsClear (with_columns ps qs)
columns_set [] qs h k = k
columns_set (p ∷ ps) qs h k = columns_set ps (with_column p qs) h.1 (column_set p qs h.0 k)

pub column_clear : (ps : List Pair) (name : List ℕ) → ColumnsClear ps → IfSome (column ps name) ValueHasNoLf
column_clear ps name h = option_so PairClear ValueHasNoLf (λ (p : Pair). p.value) _ (λ p k. k) (find_all PairClear (is_named name) ps h)

---- records that the protocol writes

base_clear : (p : Pair) → PairClear p → IfSome (base_pair p) PairClear
base_clear p h = by (base_name p.name)
  where
    by : (o : Option (List ℕ)) → IfSome (option_map (λ (name : List ℕ). record { name = name; value = p.value }) o) PairClear
    by None = tt
    by (Some name) = h

pub before_clear : (r : Record) → RecordClear r → FoundClear (before_record r)
unfolding before_record
before_clear r h = by (before_part r.columns) (filter_map_all PairClear PairClear base_pair r.columns base_clear h.columns)
  where
    by : (ps : List Pair) → ColumnsClear ps → FoundClear (record_with r.key ps)
    by [] k = tt
    by (p ∷ ps) k = record { key = h.key; columns = k }

marked : (b : Bool) → ColumnsClear (tombstone_mark b)
marked true = (tt, tt)
marked false = tt

abbrev committed_columns : ℤ → List Pair
committed_columns at = record { name = tx_state; value = value.Int (state_number state.Committed) } ∷ record { name = tx_committed_at; value = value.BigInt at } ∷ []

pub forward_clear : (r : Record) (at : ℤ) → RecordClear r → RecordClear (forward_record r at)
unfolding forward_record
forward_clear r at h =
    let own = filter_all PairClear (λ (p : Pair). not (is_before_pair p)) r.columns h.columns in
    let marks = marked (is_in state.Deleted r.columns) in
    record {
      key = h.key;
      columns = columns_set (tombstone_mark (is_in state.Deleted r.columns)) (with_columns (committed_columns at) (own_columns r.columns)) marks (columns_set (committed_columns at) (own_columns r.columns) (tt, (tt, tt)) own);
    }

-- a write: its key, its base and its new row
pub record WriteClear (w : Write) : Type 0 where
  pub key : KeyClear w.key
  pub base : FoundClear w.base
  pub change : ColumnsClear (new_columns w.change)

kept_clear : (base : Option Record) → FoundClear base → ColumnsClear (map before_pair (base_columns base))
kept_clear None h = tt
kept_clear (Some r) h = map_all PairClear PairClear before_pair r.columns (λ p k. k) h.columns

pub prepared_clear : (w : Write) (id : TxId) (now : ℤ) → WriteClear w → RecordClear (prepared_record w id now)
unfolding prepared_record
prepared_clear w id now h = record {
  key = h.key;
  columns = columns_set (new_meta w id now) (with_columns (map before_pair (base_columns w.base)) (new_columns w.change)) (id_one id.0, (tt, (tt, (tt, tt)))) (columns_set (map before_pair (base_columns w.base)) (new_columns w.change) (kept_clear w.base h.base) h.change);
}

pub undo_clear : (c : Condition) (key : Key) (base : Option Record) → KeyClear key → FoundClear base → RequestClear (undo c key base)
undo_clear c key None k h = k
undo_clear c key (Some b) k h = h

---- rows of the coordinator

pub row_key_clear : (id : TxId) → KeyClear (coordinator_key_of id)
unfolding coordinator_key_of
row_key_clear id = record { partition = (id_one id.0, tt); clustering = tt }

pub row_clear : (id : TxId) (d : Decision) (at : ℤ) → RecordClear (coordinator_row_of id d at)
unfolding coordinator_row_of
row_clear id d at = record { key = row_key_clear id; columns = (tt, (tt, tt)) }

---- rows

pub image_clear : (r : Record) → RecordClear r → IfSome (row_of_image r) ColumnsClear
image_clear r h =
    elim (is_tombstone r) as (λ b. IfSome (cond b None (Some (user_columns r.columns))) ColumnsClear) [ true ↦ tt | false ↦ filter_all PairClear is_user_pair r.columns h.columns ]
