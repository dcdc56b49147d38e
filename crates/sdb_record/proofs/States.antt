-- States, and the columns that say them.
use Rattle.std.proofs.Common.{◌≡◌, ℤ, pos, List, Bool, true, false, cond, refl, ap, ◌∙◌, Option, Some, None}
use Rattle.std.specs.Ordering.{int_eq}
use Rattle.std.specs.Cmp.{signed_Decides}
use Rattle.sdb_record.specs.Types.{Pair, State, Value}
use Rattle.sdb_types.specs.declared.value.Value.TheVariants as value
use Rattle.sdb_types.specs.declared.record.State.TheVariants.{Prepared, Deleted, Committed, Aborted}
use Rattle.sdb_types.specs.Columns.{column}
use Rattle.sdb_types.specs.Contents.{tx_state, state_number, has_value}
use Rattle.sdb_record.specs.Meta.{state_in, state_in_value, numbered_state, is_in, is_committed, is_deleted, tombstone_in_value}
use Rattle.sdb_record.specs.declared.coordinator.Decision.{Decision}
use Rattle.sdb_record.specs.declared.coordinator.Decision.TheVariants as decision
use Rattle.sdb_record.specs.Coordinator.{same_decision}

numbered : (n : ℤ) (s : State) → numbered_state n ≡ Some s → n ≡ state_number s
numbered n s h =
    elim (int_eq n (pos 1)) as (λ b. int_eq n (pos 1) ≡ b → cond b (Some Prepared) (cond (int_eq n (pos 2)) (Some Deleted) (cond (int_eq n (pos 3)) (Some Committed) None)) ≡ Some s → n ≡ state_number s) [
      | true ↦ λ q k. let e : Prepared ≡ s = cc in (signed_Decides n (pos 1)).0 q ∙ ap state_number e
      | false ↦ λ _ k.
          elim (int_eq n (pos 2)) as (λ b. int_eq n (pos 2) ≡ b → cond b (Some Deleted) (cond (int_eq n (pos 3)) (Some Committed) None) ≡ Some s → n ≡ state_number s) [
            | true ↦ λ q k2. let e : Deleted ≡ s = cc in (signed_Decides n (pos 2)).0 q ∙ ap state_number e
            | false ↦ λ _ k2.
                elim (int_eq n (pos 3)) as (λ b. int_eq n (pos 3) ≡ b → cond b (Some Committed) None ≡ Some s → n ≡ state_number s) [
                  | true ↦ λ q k3. let e : Committed ≡ s = cc in (signed_Decides n (pos 3)).0 q ∙ ap state_number e
                  | false ↦ λ _ k3. absurd (cc)
                ] refl k2
          ] refl k
    ] refl h

pub state_value : (o : Option Value) (s : State) → state_in_value o ≡ Some s → o ≡ Some (value.Int (state_number s))
state_value None s h = absurd (cc)
state_value (Some (value.Int n)) s h = ap (λ m. Some (value.Int m)) (numbered n s h)
state_value (Some v) s h = absurd (cc)

-- whether a column says one state, where it says another
abbrev pub says_state : State → State → Bool
says_state s t = has_value (Some (value.Int (state_number s))) (value.Int (state_number t))

pub is_in-says : (ps : List Pair) (s t : State) → state_in ps ≡ Some s → is_in t ps ≡ says_state s t
is_in-says ps s t h = ap (λ o. has_value o (value.Int (state_number t))) (state_value (column ps tx_state) s h)

pub says-committed : (s : State) → says_state s Committed ≡ is_committed s
says-committed Prepared = refl
says-committed Deleted = refl
says-committed Committed = refl
says-committed Aborted = refl

pub says-deleted : (s : State) → says_state s Deleted ≡ is_deleted s
says-deleted Prepared = refl
says-deleted Deleted = refl
says-deleted Committed = refl
says-deleted Aborted = refl

pub no-tombstone : (o : Option Value) (t : Bool) → tombstone_in_value false o ≡ Some t → (o ≡ None) × (t ≡ false)
no-tombstone None t h = (refl, cc)
no-tombstone (Some (value.Bool true)) t h = absurd (cc)
no-tombstone (Some v) t h = absurd (cc)

pub decision_itself : (a : Decision) → same_decision a a ≡ true
decision_itself decision.Committed = refl
decision_itself decision.Aborted = refl
