-- Images, versions and decisions.
use Rattle.std.proofs.Common.{◌≡◌, ℕ, ℤ, pos, ◌<◌, ◌^◌, List, Bool, true, false, not, cond, refl, sym, ap, ◌∙◌, subst, Option, Some, None, Ok, Err, Result, IfSome}
use Rattle.std.specs.Prelude.{find}
use Rattle.std.specs.Ordering.{is_eq}
use Rattle.std.specs.Cmp.{tied_itself}
use Rattle.std.specs.List.{list_any}
use Rattle.sdb_record.specs.Types.{Pair, Record, State, TxId, Value}
use Rattle.sdb_types.specs.declared.value.Value.TheVariants as value
use Rattle.sdb_types.specs.declared.record.State.TheVariants.{Deleted, Committed}
use Rattle.sdb_types.specs.TxId.{id_text}
use Rattle.sdb_types.specs.ValueLaws.{value_total}
use Rattle.sdb_types.specs.Columns.{column}
use Rattle.sdb_types.specs.Contents.{tx_id, tx_state, state_number, has_value, is_version}
use Rattle.sdb_types.proofs.Public.{and_both, and_first}
use Rattle.sdb_record.specs.declared.meta.Meta.{Meta}
use Rattle.sdb_record.specs.declared.write.Change.{Change}
use Rattle.sdb_record.specs.declared.write.Change.TheVariants as change
use Rattle.sdb_record.specs.declared.write.Write.{Write}
use Rattle.sdb_record.specs.declared.coordinator.Decision.{Decision}
use Rattle.sdb_record.specs.declared.coordinator.Decision.TheVariants as decision
use Rattle.sdb_record.specs.declared.coordinator.Decided.{Decided}
use Rattle.sdb_record.specs.Names.{tx_tombstone, tx_created_at}
use Rattle.sdb_record.specs.Parts.{before_record, before_part, is_before_pair, are_stored, user_columns}
use Rattle.sdb_record.specs.Meta.{checked, id_in, id_in_value, is_in, is_transactional, is_unresolved, is_moment, moment_in_value, checked_before, checked_part, with_before, refuse, is_misnamed, is_committed}
use Rattle.sdb_record.specs.Coordinator.{coordinator_key_of, coordinator_row_of, id_of_key, decision_in, decision_in_value, decision_number}
use Rattle.sdb_record.specs.Rolls.{prepared_record, forward_record, forward_columns, back_of, back_to, image_of, image_under, row_of_image, row_of_change, new_columns, state_of_change, next_version, base_columns, IsWrite}
use Rattle.sdb_record.proofs.IdLemmas.{id_of_text-id_text, id_of_text-is}
use Rattle.sdb_record.proofs.Checked.{accepted, has_value-is, refuse-ok, need-some}
use Rattle.sdb_record.proofs.States.{state_value, is_in-says, says-committed}
use Rattle.sdb_record.proofs.RollLaws.{has_int, forward-id, forward-in, forward-tombstone, forward-user, forward-accepted, forward-committed, forward-key, before-kept, mark_value}
use Rattle.sdb_record.proofs.WriteLaws.{marked-id, marked-state, marked-other, marked-user, with_base, row-kept, fitting, no-column}
use Rattle.sdb_record.proofs.PreparedRecords.{prepared-columns, prepared-key, prepared-base, left-accepted, other-meta, absent-column, time-fits as moment-of}

---- what a transaction left

has_text : (o : Option Value) (text : List ℕ) → o ≡ Some (value.Text text) → has_value o (value.Text text) ≡ true
has_text o text h = ap (λ x. has_value x (value.Text text)) h ∙ ap is_eq (tied_itself value_total (value.Text text))

left-id : (w : Write) (id : TxId) (now : ℤ) → column (prepared_record w id now).columns tx_id ≡ Some (value.Text (id_text id.0))
left-id w id now =
    ap (λ ps. column ps tx_id) (prepared-columns w id now) ∙ marked-id id (state_of_change w.change) (next_version w.base) now (with_base (new_columns w.change) (base_columns w.base))

pub left-state : (w : Write) (id : TxId) (now : ℤ) → column (prepared_record w id now).columns tx_state ≡ Some (value.Int (state_number (state_of_change w.change)))
left-state w id now =
    ap (λ ps. column ps tx_state) (prepared-columns w id now) ∙ marked-state id (state_of_change w.change) (next_version w.base) now (with_base (new_columns w.change) (base_columns w.base))

pub prepared-version : (w : Write) (id : TxId) (now : ℤ) → is_version id (state_of_change w.change) (prepared_record w id now) ≡ true
prepared-version w id now =
    and_both (has_value (column (prepared_record w id now).columns tx_id) (value.Text (id_text id.0))) _ (has_text (column (prepared_record w id now).columns tx_id) (id_text id.0) (left-id w id now)) (has_int (column (prepared_record w id now).columns tx_state) (state_number (state_of_change w.change)) (left-state w id now))

not-committed : (c : Change) → has_value (Some (value.Int (state_number (state_of_change c)))) (value.Int (pos 3)) ≡ false
not-committed (change.Row columns) = refl
not-committed change.Delete = refl

pub prepared-unsettled : (w : Write) (id : TxId) (now : ℤ) → is_in Committed (prepared_record w id now).columns ≡ false
prepared-unsettled w id now = ap (λ o. has_value o (value.Int (pos 3))) (left-state w id now) ∙ not-committed w.change

pub prepared-unresolved : (w : Write) (id : TxId) (now : ℤ) → IsWrite w → id.0 < 2 ^ 128 → is_moment now ≡ true → is_unresolved (prepared_record w id now) ≡ true
prepared-unresolved w id now h small moment =
    and_both (is_transactional (prepared_record w id now)) _ (left-accepted w id now h small moment) (ap not (prepared-unsettled w id now))

pub prepared-back : (w : Write) (id : TxId) (now : ℤ) → IsWrite w → back_of (prepared_record w id now) ≡ back_to w.key w.base
prepared-back w id now h = ap (λ k. back_to k (before_record (prepared_record w id now))) (prepared-key w id now) ∙ ap (back_to w.key) (prepared-base w id now h)

pub forward-prepared-version : (w : Write) (id : TxId) (now created_at : ℤ) → is_version id Committed (forward_record (prepared_record w id now) created_at) ≡ true
unfolding forward_record
forward-prepared-version w id now created_at =
    and_both (has_value (column (forward_columns (prepared_record w id now).columns created_at) tx_id) (value.Text (id_text id.0))) _
    (has_text (column (forward_columns (prepared_record w id now).columns created_at) tx_id) (id_text id.0) (forward-id (prepared_record w id now).columns created_at ∙ left-id w id now)) (forward-in (prepared_record w id now).columns created_at)

no-tombstone-left : (w : Write) (id : TxId) (now : ℤ) → IsWrite w → column (prepared_record w id now).columns tx_tombstone ≡ None
no-tombstone-left w id now h =
    ap (λ ps. column ps tx_tombstone) (prepared-columns w id now) ∙ marked-other id (state_of_change w.change) (next_version w.base) now (with_base (new_columns w.change) (base_columns w.base)) tx_tombstone refl refl refl refl
    ∙ absent-column (with_base (new_columns w.change) (base_columns w.base)) tx_tombstone (no-column (new_columns w.change) (base_columns w.base) tx_tombstone (fitting w h) other-meta.2 other-meta.3)

row-left : (w : Write) (id : TxId) (now : ℤ) → IsWrite w → user_columns (prepared_record w id now).columns ≡ new_columns w.change
row-left w id now h =
    ap user_columns (prepared-columns w id now) ∙ marked-user id (state_of_change w.change) (next_version w.base) now (with_base (new_columns w.change) (base_columns w.base)) ∙ row-kept (new_columns w.change) (base_columns w.base) (fitting w h)

observed : (c : Change) (ps : List Pair) (o : Option Value) (deleted : Bool) → deleted ≡ has_value (Some (value.Int (state_number (state_of_change c)))) (value.Int (pos 2)) → o ≡ None → ps ≡ new_columns c
    → cond (has_value (mark_value deleted o) (value.Bool true)) None (Some ps) ≡ row_of_change c
observed (change.Row columns) ps o deleted d n e = ap (λ b. cond (has_value (mark_value b o) (value.Bool true)) None (Some ps)) d ∙ ap (λ x. cond (has_value x (value.Bool true)) None (Some ps)) n ∙ ap Some e
observed change.Delete ps o deleted d n e = ap (λ b. cond (has_value (mark_value b o) (value.Bool true)) None (Some ps)) d

pub forward-prepared-row : (w : Write) (id : TxId) (now created_at : ℤ) → IsWrite w → row_of_image (forward_record (prepared_record w id now) created_at) ≡ row_of_change w.change
unfolding forward_record
forward-prepared-row w id now created_at h =
    let ps = (prepared_record w id now).columns in
    ap (λ o. cond (has_value o (value.Bool true)) None (Some (user_columns (forward_columns ps created_at)))) (forward-tombstone ps created_at)
    ∙ observed w.change (user_columns (forward_columns ps created_at)) (column ps tx_tombstone) (is_in Deleted ps) (ap (λ o. has_value o (value.Int (pos 2))) (left-state w id now)) (no-tombstone-left w id now h) (forward-user ps created_at ∙ row-left w id now h)

---- images

pub image-open : (r : Record) (d : Option Decided) → is_in Committed r.columns ≡ false → image_of r d ≡ image_under r d
image-open r d h = ap (λ b. cond b (Some r) (image_under r d)) h

pub image-settled : (r : Record) (d : Option Decided) → is_in Committed r.columns ≡ true → image_of r d ≡ Some r
image-settled r d h = ap (λ b. cond b (Some r) (image_under r d)) h

-- an image is a transactional record in state 3, of the same key
pub record IsImage (r image : Record) : Type 0 where
  pub key : image.key ≡ r.key
  pub accepted : is_transactional image ≡ true
  pub committed : is_in Committed image.columns ≡ true

kept-image : (r b : Record) → is_unresolved r ≡ true → before_record r ≡ Some b → IsImage r b
kept-image r b h k =
    let w = before-kept r b h k in
    record { key = w.0; accepted = and_both (are_stored b.columns) _ w.1.stored w.1.passes; committed = w.1.committed }

-- the moments of a row are moments
abbrev pub has_moment : Option Decided → Type 0
has_moment d = IfSome d (λ x. is_moment x.created_at ≡ true)

under : (r i : Record) (d : Option Decided) → is_unresolved r ≡ true → has_moment d → image_under r d ≡ Some i → IsImage r i
under r i None h m k = kept-image r i h k
under r i (Some d) h m k =
    elim d.decision as (λ x. elim x as (λ _. Option Record) [ decision.Committed ↦ Some (forward_record r d.created_at) | decision.Aborted ↦ before_record r ] ≡ Some i → IsImage r i) [
      | decision.Committed ↦ λ q.
          let e : forward_record r d.created_at ≡ i = cc in
          subst (IsImage r) e (record { key = forward-key r d.created_at; accepted = forward-accepted r d.created_at h m; committed = forward-committed r d.created_at })
      | decision.Aborted ↦ λ q. kept-image r i h q
    ] k

pub image-is : (r i : Record) (d : Option Decided) → is_transactional r ≡ true → has_moment d → image_of r d ≡ Some i → IsImage r i
image-is r i d h m k =
    elim (is_in Committed r.columns) as (λ b. is_in Committed r.columns ≡ b → IsImage r i) [
      | true ↦ λ q. let e : Some r ≡ Some i = sym (image-settled r d q) ∙ k in let same : r ≡ i = cc in subst (IsImage r) same (record { key = refl; accepted = h; committed = q })
      | false ↦ λ q. under r i d (and_both (is_transactional r) _ h (ap not q)) m (sym (image-open r d q) ∙ k)
    ] refl

---- versions

pub id-value : (o : Option Value) (id : TxId) → id_in_value o ≡ Some id → has_value o (value.Text (id_text id.0)) ≡ true
id-value None id h = absurd (cc)
id-value (Some (value.Text text)) id h = has_text (Some (value.Text text)) (id_text id.0) (ap (λ t. Some (value.Text t)) (id_of_text-is text id h).1)
id-value (Some v) id h = absurd (cc)

with_before-says : (m : Meta) (r : Result Meta (List ℕ)) (y : Meta) → with_before m r ≡ Ok y → (m.id ≡ y.id) × (m.state ≡ y.state)
with_before-says m (Ok b) y h = let e : record m { has_before = true } ≡ y = cc in (ap (λ (x : Meta). x.id) e, ap (λ (x : Meta). x.state) e)
with_before-says m (Err name) y h = absurd (cc)

-- the ninth check changes neither the writer nor the state
final-says : (ps : List Pair) (m y : Meta) → checked_before ps m ≡ Ok y → (m.id ≡ y.id) × (m.state ≡ y.state)
final-says ps m y h =
    elim (list_any is_before_pair ps) as (λ b. cond b (refuse (find is_misnamed ps) (with_before m (checked_part is_committed (before_part ps)))) (Ok m) ≡ Ok y → (m.id ≡ y.id) × (m.state ≡ y.state)) [
      | true ↦ λ k. with_before-says m (checked_part is_committed (before_part ps)) y (refuse-ok (find is_misnamed ps) (with_before m (checked_part is_committed (before_part ps))) y k).1
      | false ↦ λ k. let e : m ≡ y = cc in (ap (λ (x : Meta). x.id) e, ap (λ (x : Meta). x.state) e)
    ] h

-- a record that passes the checks is the version that its metadata says
pub checked-version : (r : Record) (m : Meta) → checked r.columns ≡ Ok m → is_version m.id m.state r ≡ true
checked-version r m h =
    let t = accepted r.columns m h in
    let same = final-says r.columns t.0 m t.2 in
    and_both (has_value (column r.columns tx_id) (value.Text (id_text m.id.0))) _ (id-value (column r.columns tx_id) m.id (t.1.says.id ∙ ap Some same.0)) (has_int (column r.columns tx_state) (state_number m.state) (state_value (column r.columns tx_state) m.state (t.1.says.state ∙ ap Some same.1)))

pub version-writer : (r : Record) (id : TxId) (s : State) → id.0 < 2 ^ 128 → is_version id s r ≡ true → id_in r.columns ≡ Some id
version-writer r id s small h =
    let e = has_value-is (column r.columns tx_id) (value.Text (id_text id.0)) (and_first (has_value (column r.columns tx_id) (value.Text (id_text id.0))) (is_in s r.columns) h) in
    ap id_in_value e ∙ id_of_text-id_text id.0 small

---- decisions

pub key-of-id : (id : TxId) → id.0 < 2 ^ 128 → id_of_key (coordinator_key_of id) ≡ Some id
unfolding id_of_key coordinator_key_of
key-of-id id small = id_of_text-id_text id.0 small

decided : (d : Decision) → decision_in_value (Some (value.Int (decision_number d))) ≡ Some d
decided decision.Committed = refl
decided decision.Aborted = refl

pub row-decision : (id : TxId) (d : Decision) (n : ℤ) → id.0 < 2 ^ 128 → is_moment n ≡ true → decision_in (coordinator_row_of id d n) ≡ Ok (record { decision = d; created_at = n })
unfolding decision_in coordinator_row_of
row-decision id d n small h =
    need-some (id_of_key (coordinator_key_of id)) tx_id _ id (key-of-id id small) ∙ need-some (moment_in_value (Some (value.BigInt n))) tx_created_at _ n (moment-of n h) ∙ need-some (decision_in_value (Some (value.Int (decision_number d)))) tx_state _ d (decided d)

pub row-key : (id : TxId) (d : Decision) (n : ℤ) → (coordinator_row_of id d n).key ≡ coordinator_key_of id
unfolding coordinator_row_of
row-key id d n = refl

pub checked-state : (ps : List Pair) (m : Meta) → checked ps ≡ Ok m → is_in Committed ps ≡ is_committed m.state
checked-state ps m h =
    let t = accepted ps m h in
    let same = final-says ps t.0 m t.2 in
    is_in-says ps t.0.state Committed t.1.says.state ∙ says-committed t.0.state ∙ ap is_committed same.1
