-- Which version a record is.
use Rattle.std.proofs.Common.{◌≡◌, ◌≢◌, ℕ, ℤ, pos, cond, ◌<◌, ◌^◌, true, false, List, Option, Some, None, refl, sym, ap, ◌∙◌}
use Rattle.std.specs.Prelude.{IfNone}
use Rattle.std.specs.Cmp.{signed_Decides, tied_itself}
use Rattle.std.specs.Ordering.{int_eq, is_eq}
use Rattle.std.proofs.lemmas.Bool.{and_parts, and_from}
use Rattle.sdb_types.specs.declared.record.Condition.{Condition}
use Rattle.sdb_types.specs.declared.record.Condition.TheVariants.{Absent, Version}
use Rattle.sdb_types.specs.declared.record.Record.{Record}
use Rattle.sdb_types.specs.declared.record.State.{State}
use Rattle.sdb_types.specs.declared.record.State.TheVariants.{Prepared, Deleted, Committed, Aborted}
use Rattle.sdb_types.specs.declared.txid.TxId.{TxId}
use Rattle.sdb_types.specs.declared.value.Value.{Value}
use Rattle.sdb_types.specs.declared.value.Value.TheVariants as value
use Rattle.sdb_types.specs.Columns.{column}
use Rattle.sdb_types.specs.Contents.{has_value, is_version, state_number, tx_id, tx_state}
use Rattle.sdb_types.specs.Exact.{equal_of}
use Rattle.sdb_types.specs.Order.{value_cmp}
use Rattle.sdb_types.specs.ValueLaws.{value_exact, value_total}
use Rattle.sdb_types.specs.TxId.{id_text}
use Rattle.sdb_types.proofs.Public.{clash, none_some, some_is}
use Rattle.sdb_shards.specs.Moves.{HasVersion, IsVersionOf, numbered_state, state_in, text_in}

pub if_none : {A : Type 0} {P : Type 0} (o : Option A) → P → IfNone o P
if_none None p = p
if_none (Some x) p = tt

lacking : (r : Record) (version : Condition) → ((id : TxId) (state : State) → id.0 < 2 ^ 128 → is_version id state r ≡ true → ⊥) → IsVersionOf r version → ⊥
lacking r Absent never h = h
lacking r (Version id state) never h = never id state h.0 h.1

is_value : (o : Option Value) (v : Value) → has_value o v ≡ true → o ≡ Some v
is_value None v h = clash (sym h)
is_value (Some u) v h = ap Some (value_exact u v (equal_of (value_cmp u v) h))

has_itself : (o : Option Value) (v : Value) → o ≡ Some v → has_value o v ≡ true
has_itself o v e = ap (λ x. has_value x v) e ∙ ap is_eq (tied_itself value_total v)

-- a record without a text as its id
pub lacks_text : (r : Record) (o : Option Value) → o ≡ column r.columns tx_id → text_in o ≡ None → HasVersion r → ⊥
lacks_text r o is none has = lacking r has.0 (λ id state fits v.
    none_some (id_text id.0) (sym none ∙ ap text_in (is ∙ is_value (column r.columns tx_id) (value.Text (id_text id.0)) (and_parts (has_value (column r.columns tx_id) (value.Text (id_text id.0))) (has_value (column r.columns tx_state) (value.Int (state_number state))) v).0))) has.1

-- a record whose text is no id's
pub lacks_id : (r : Record) (o : Option Value) (text : List ℕ) → o ≡ column r.columns tx_id → Some text ≡ text_in o → ((n : ℕ) → n < 2 ^ 128 → text ≢ id_text n) → HasVersion r → ⊥
lacks_id r o text is found none has = lacking r has.0 (λ id state fits v.
    none id.0 fits (some_is text (id_text id.0) (found ∙ ap text_in (is ∙ is_value (column r.columns tx_id) (value.Text (id_text id.0)) (and_parts (has_value (column r.columns tx_id) (value.Text (id_text id.0))) (has_value (column r.columns tx_state) (value.Int (state_number state))) v).0)))) has.1

numbered_itself : (s : State) → state_in (Some (value.Int (state_number s))) ≡ Some s
numbered_itself Prepared = refl
numbered_itself Deleted = refl
numbered_itself Committed = refl
numbered_itself Aborted = refl

-- a record without a state
pub lacks_state : (r : Record) (o : Option Value) → o ≡ column r.columns tx_state → None ≡ state_in o → HasVersion r → ⊥
lacks_state r o is none has = lacking r has.0 (λ id state fits v.
    none_some state (none ∙ ap state_in (is ∙ is_value (column r.columns tx_state) (value.Int (state_number state)) (and_parts (has_value (column r.columns tx_id) (value.Text (id_text id.0))) (has_value (column r.columns tx_state) (value.Int (state_number state))) v).1) ∙ numbered_itself state)) has.1

text_is : (o : Option Value) (text : List ℕ) → Some text ≡ text_in o → o ≡ Some (value.Text text)
text_is None text e = none_some text (sym e)
text_is (Some (value.Text t)) text e = ap (λ x. Some (value.Text x)) (sym (some_is text t e))
text_is (Some v) text e = absurd (cc)

numbered : (n : ℤ) (s : State) → numbered_state n ≡ Some s → n ≡ state_number s
numbered n s h =
    elim (int_eq n (pos 1)) as (λ b. int_eq n (pos 1) ≡ b → cond b (Some Prepared) (cond (int_eq n (pos 2)) (Some Deleted) (cond (int_eq n (pos 3)) (Some Committed) (cond (int_eq n (pos 4)) (Some Aborted) None))) ≡ Some s → n ≡ state_number s) [
      | true ↦ λ q k. (signed_Decides n (pos 1)).0 q ∙ ap state_number (some_is Prepared s k)
      | false ↦ λ _ k.
          elim (int_eq n (pos 2)) as (λ b. int_eq n (pos 2) ≡ b → cond b (Some Deleted) (cond (int_eq n (pos 3)) (Some Committed) (cond (int_eq n (pos 4)) (Some Aborted) None)) ≡ Some s → n ≡ state_number s) [
            | true ↦ λ q k2. (signed_Decides n (pos 2)).0 q ∙ ap state_number (some_is Deleted s k2)
            | false ↦ λ _ k2.
                elim (int_eq n (pos 3)) as (λ b. int_eq n (pos 3) ≡ b → cond b (Some Committed) (cond (int_eq n (pos 4)) (Some Aborted) None) ≡ Some s → n ≡ state_number s) [
                  | true ↦ λ q k3. (signed_Decides n (pos 3)).0 q ∙ ap state_number (some_is Committed s k3)
                  | false ↦ λ _ k3.
                      elim (int_eq n (pos 4)) as (λ b. int_eq n (pos 4) ≡ b → cond b (Some Aborted) None ≡ Some s → n ≡ state_number s) [
                        | true ↦ λ q k4. (signed_Decides n (pos 4)).0 q ∙ ap state_number (some_is Aborted s k4)
                        | false ↦ λ _ k4. none_some s k4
                      ] refl k3
                ] refl k2
          ] refl k
    ] refl h

state_is : (o : Option Value) (s : State) → Some s ≡ state_in o → o ≡ Some (value.Int (state_number s))
state_is None s e = none_some s (sym e)
state_is (Some (value.Int n)) s e = ap (λ m. Some (value.Int m)) (numbered n s (sym e))
state_is (Some v) s e = absurd (cc)

-- and one with both
pub has_both : (r : Record) (id : TxId) (state : State) (o p : Option Value) (text : List ℕ) → o ≡ column r.columns tx_id → p ≡ column r.columns tx_state → Some text ≡ text_in o → text ≡ id_text id.0 → Some state ≡ state_in p → is_version id state r ≡ true
has_both r id state o p text named stated found i s = and_from (has_value (column r.columns tx_id) (value.Text (id_text id.0))) (has_value (column r.columns tx_state) (value.Int (state_number state)))
    (has_itself (column r.columns tx_id) (value.Text (id_text id.0)) (sym named ∙ text_is o text found ∙ ap (λ x. Some (value.Text x)) i))
    (has_itself (column r.columns tx_state) (value.Int (state_number state)) (sym stated ∙ state_is p state s))
