-- Whose prepare a record is.
use Rattle.std.proofs.Common.{◌≡◌, ℕ, ◌<◌, ◌^◌, Bool, true, false, List, [], ◌∷◌, Option, Some, None, refl, sym, ap, ◌∙◌, subst, eqb}
use Rattle.std.proofs.lemmas.Bool.Decides.{Decides-eqb}
use Rattle.std.specs.Prelude.{pos, ◌&&◌, ◌||◌, if◌then◌else◌}
use Rattle.std.specs.Option.{option_map_or}
use Rattle.std.specs.Cmp.{both_ways}
use Rattle.sdb_contents.specs.Types.{Record, State, TxId, Value}
use Rattle.sdb_types.specs.declared.record.Put.{Put}
use Rattle.sdb_types.specs.declared.record.Request.TheVariants as ask
use Rattle.sdb_types.specs.declared.record.State.TheVariants.{Aborted, Committed, Deleted, Prepared}
use Rattle.sdb_types.specs.declared.value.Value.TheVariants as value
use Rattle.sdb_types.specs.Columns.{column}
use Rattle.sdb_types.specs.Contents.{has_value, state_number, tx_id, tx_state}
use Rattle.sdb_types.specs.TxId.{id_text}
use Rattle.sdb_record.specs.Meta.{id_in, id_in_value, state_in, state_in_value}
use Rattle.sdb_types.proofs.Public.{and_true}
use Rattle.sdb_record.proofs.Public.{has_int, has_value-is, id-value, id_of_text-id_text, state_value}
use Rattle.sdb_contents.specs.Order.{is_of}
use Rattle.sdb_model.specs.Transactions.{is_prepared_record, prepares}

-- it has this state
abbrev agrees : State → Record → Bool
agrees s r = has_value (column r.columns tx_state) (value.Int (state_number s))

-- a record is a transaction's where its id is that which is read
written : (o : Option Value) (id : TxId) (f : Option TxId) → id.0 < 2 ^ 128 → id_in_value o ≡ f → option_map_or (λ (x : TxId). eqb x.0 id.0) f false ≡ has_value o (value.Text (id_text id.0))
written o id f small h =
    both_ways _ _
    (λ k. found f k h)
    (λ k.
    let e = ap id_in_value (has_value-is o (value.Text (id_text id.0)) k) ∙ id_of_text-id_text id.0 small in
    let g : f ≡ Some id = sym h ∙ e in
    ap (λ (x : Option TxId). option_map_or (λ (y : TxId). eqb y.0 id.0) x false) g ∙ (Decides-eqb id.0 id.0).1 refl)
  where
    found : (f : Option TxId) → option_map_or (λ (x : TxId). eqb x.0 id.0) f false ≡ true → id_in_value o ≡ f → has_value o (value.Text (id_text id.0)) ≡ true
    found None k e = absurd (cc)
    found (Some x) k e = subst (λ (n : ℕ). has_value o (value.Text (id_text n)) ≡ true) ((Decides-eqb x.0 id.0).0 k) (id-value o x e)

wrote : (r : Record) (id : TxId) (f : Option TxId) → id.0 < 2 ^ 128 → id_in r.columns ≡ f → has_value (column r.columns tx_id) (value.Text (id_text id.0)) ≡ is_of id f
wrote r id f small e = sym (written (column r.columns tx_id) id f small e)

-- a state that a prepare leaves
abbrev pub is_open : Option State → Bool
is_open None = false
is_open (Some Prepared) = true
is_open (Some Deleted) = true
is_open (Some Committed) = false
is_open (Some Aborted) = false

open_state : (v : Option Value) → (has_value v (value.Int (pos 1)) || has_value v (value.Int (pos 2))) ≡ is_open (state_in_value v)
open_state v = by (has_value v (value.Int (pos 1))) (has_value v (value.Int (pos 2))) refl refl
  where
    neither : (o : Option State) → state_in_value v ≡ o → has_value v (value.Int (pos 1)) ≡ false → has_value v (value.Int (pos 2)) ≡ false → false ≡ is_open o
    neither None h p d = refl
    neither (Some Prepared) h p d = sym p ∙ has_int v (pos 1) (state_value v Prepared h)
    neither (Some Deleted) h p d = sym d ∙ has_int v (pos 2) (state_value v Deleted h)
    neither (Some Committed) h p d = refl
    neither (Some Aborted) h p d = refl

    by : (p d : Bool) → has_value v (value.Int (pos 1)) ≡ p → has_value v (value.Int (pos 2)) ≡ d → (p || d) ≡ is_open (state_in_value v)
    by true d h k = sym (ap (λ o. is_open (state_in_value o)) (has_value-is v (value.Int (pos 1)) h))
    by false true h k = sym (ap (λ o. is_open (state_in_value o)) (has_value-is v (value.Int (pos 2)) k))
    by false false h k = neither (state_in_value v) refl h k

-- of its writer, where it is in such a state
by_state : (r : Record) (id : TxId) (s : Option State) → state_in r.columns ≡ s → is_prepared_record id r ≡ (has_value (column r.columns tx_id) (value.Text (id_text id.0)) && is_open s)
by_state r id s e = both (has_value (column r.columns tx_id) (value.Text (id_text id.0))) (agrees Prepared r) (agrees Deleted r)
    ∙ ap (λ b. has_value (column r.columns tx_id) (value.Text (id_text id.0)) && b) (open_state (column r.columns tx_state) ∙ ap is_open e)
  where
    both : (a p d : Bool) → ((a && p) || (a && d)) ≡ (a && (p || d))
    both true p d = refl
    both false p d = refl

-- where it is in such a state, it is its writer's
pub by_writer : (r : Record) (id : TxId) (s : Option State) (f : Option TxId) → id.0 < 2 ^ 128 → state_in r.columns ≡ s → is_open s ≡ true → id_in r.columns ≡ f → is_prepared_record id r ≡ is_of id f
by_writer r id s f small e here w =
    by_state r id s e
    ∙ ap (λ b. has_value (column r.columns tx_id) (value.Text (id_text id.0)) && b) here
    ∙ and_true (has_value (column r.columns tx_id) (value.Text (id_text id.0)))
    ∙ wrote r id f small w

---- batches

-- a batch prepares with its first put, or with another
pub batch_step : (p : Put) (ps : List Put) (id : TxId) (n : ℕ) (o : Option ℕ)
    → (if prepares id (ask.PutAll (p ∷ ps)) then Some n else o) ≡ (if prepares id (ask.PutAll ps) then Some n else (if is_prepared_record id p.rec then Some n else o))
batch_step p [] id n o = refl
batch_step p (q ∷ qs) id n o = by (is_prepared_record id p.rec) (prepares id (ask.PutAll (q ∷ qs)))
  where
    by : (x y : Bool) → (if x || y then Some n else o) ≡ (if y then Some n else (if x then Some n else o))
    by true true = refl
    by true false = refl
    by false y = refl
