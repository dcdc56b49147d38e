-- What the metadata of an unresolved record and a coordinator's row say, and that images are committed records of their keys.
use Rattle.std.proofs.Common.{◌≡◌, ◌<◌, ◌^◌, ℕ, ℤ, Bool, true, false, cond, List, Option, Some, None, Result, Ok, Err, sym, ap, ◌∙◌}
use Rattle.std.specs.Prelude.{not, find}
use Rattle.std.specs.List.{list_any}
use Rattle.law_clients.specs.Types.{Decided, Meta, Pair, Record, TxId, Value}
use Rattle.sdb_types.specs.declared.value.Value.TheVariants as value
use Rattle.sdb_types.specs.declared.record.State.TheVariants.{Committed}
use Rattle.sdb_types.specs.Columns.{column}
use Rattle.sdb_types.specs.Contents.{tx_id}
use Rattle.sdb_types.proofs.Public.{and_first}
use Rattle.sdb_record.specs.declared.coordinator.Decision.TheVariants as decision
use Rattle.sdb_record.specs.Meta.{id_in, id_in_value, is_in, is_moment, is_committed, is_transactional, is_unresolved, checked, checked_before, checked_part, refuse, with_before, is_misnamed}
use Rattle.sdb_record.specs.Parts.{before_record, before_part, is_before_pair}
use Rattle.sdb_record.specs.Rolls.{forward_record}
use Rattle.sdb_record.proofs.Public.{accepted, checked-state, id_of_text-is, image-is, image-open, refuse-ok}
use Rattle.law_clients.specs.Reader.{IsMetaOf}
use Rattle.sdb_txn.proofs.Public.{held_of}

---- a row's moment

---- metadata

before_id : (m : Meta) (r : Result Meta (List ℕ)) (y : Meta) → with_before m r ≡ Ok y → m.id ≡ y.id
before_id m (Ok b) y h = let e : record m { has_before = true } ≡ y = cc in ap (λ (x : Meta). x.id) e
before_id m (Err name) y h = absurd (cc)

-- the ninth check leaves the writer
final_id : (ps : List Pair) (m y : Meta) → checked_before ps m ≡ Ok y → m.id ≡ y.id
final_id ps m y h = by (list_any is_before_pair ps) h
  where
    by : (b : Bool) → cond b (refuse (find is_misnamed ps) (with_before m (checked_part is_committed (before_part ps)))) (Ok m) ≡ Ok y → m.id ≡ y.id
    by true k = before_id m (checked_part is_committed (before_part ps)) y (refuse-ok (find is_misnamed ps) (with_before m (checked_part is_committed (before_part ps))) y k).1
    by false k = let e : m ≡ y = cc in ap (λ (x : Meta). x.id) e

id_fits : (o : Option Value) (id : TxId) → id_in_value o ≡ Some id → id.0 < 2 ^ 128
id_fits None id h = absurd (cc)
id_fits (Some (value.Text text)) id h = (id_of_text-is text id h).0
id_fits (Some v) id h = absurd (cc)

-- The metadata of an unresolved record is of its writer, and its state is open.
pub meta_of : (r : Record) (m : Meta) → is_unresolved r ≡ true → checked r.columns ≡ Ok m → IsMetaOf r m
meta_of r m loose says =
    let t = accepted r.columns m says in
    let writer : id_in r.columns ≡ Some m.id = t.1.says.id ∙ ap Some (final_id r.columns t.0 m t.2) in
    record { held = held_of r loose; writer = writer; fits = id_fits (column r.columns tx_id) m.id writer; is_open = sym (checked-state r.columns m says) ∙ held_of r loose }

---- images

-- What an unresolved record is rolled forward to is a committed record of its key.
pub record IsFirm (k : Rattle.sdb_types.specs.declared.key.Key.Key) (b : Record) : Type 0 where
  pub key : b.key ≡ k
  pub accepted : is_transactional b ≡ true
  pub committed : is_in Committed b.columns ≡ true

pub forward_firm : (r : Record) (m : ℤ) → is_unresolved r ≡ true → is_moment m ≡ true → IsFirm r.key (forward_record r m)
forward_firm r m loose moment =
    let d : Option Decided = Some (record { decision = decision.Committed; created_at = m }) in
    let i = image-is r (forward_record r m) d (and_first (is_transactional r) (not (is_in Committed r.columns)) loose) moment (image-open r d (held_of r loose)) in
    record { key = i.key; accepted = i.accepted; committed = i.committed }

-- And so is what it is rolled back to.
pub before_firm : (r b : Record) → is_unresolved r ≡ true → before_record r ≡ Some b → IsFirm r.key b
before_firm r b loose says =
    let i = image-is r b None (and_first (is_transactional r) (not (is_in Committed r.columns)) loose) tt (image-open r None (held_of r loose) ∙ says) in
    record { key = i.key; accepted = i.accepted; committed = i.committed }
