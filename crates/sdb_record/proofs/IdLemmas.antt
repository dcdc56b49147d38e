-- The id of a text.
use Rattle.std.proofs.Common.{◌≡◌, ℕ, ◌<◌, ◌^◌, List, true, false, cond, ltb, refl, sym, ap, ◌∙◌, subst, Option, Some, None, IfSome}
use Rattle.std.specs.Int.{w128, from_be_bytes, to_be_bytes}
use Rattle.std.proofs.lemmas.Bool.Decides.{Decides-ltb}
use Rattle.uuid.specs.Text.{parsed}
use Rattle.uuid.proofs.OrderLemmas.{from_be_bytes-to_be_bytes_16}
use Rattle.sdb_record.specs.Types.{TxId, Value}
use Rattle.sdb_types.specs.TxId.{id_text}
use Rattle.sdb_types.proofs.Public.{and_both, and_first, and_second, id_text_parses, none_some}
use Rattle.sdb_record.specs.Names.{same_name}
use Rattle.sdb_record.specs.Ids.{id_of_text, id_with_text, is_id_with_text}
use Rattle.sdb_record.proofs.NameLemmas.{same_name-true, same_name-itself}
use Rattle.sdb_types.specs.declared.value.Value.TheVariants as value
use Rattle.sdb_record.specs.Meta.{id_in_value}

pub id_of_text-id_text : (n : ℕ) → n < 2 ^ 128 → id_of_text (id_text n) ≡ Some (record { 0 = n })
unfolding id_of_text
id_of_text-id_text n small =
    let back : from_be_bytes w128 (to_be_bytes w128 n) ≡ n = from_be_bytes-to_be_bytes_16 n small in
    let here : is_id_with_text (id_text n) n ≡ true = and_both (ltb n (2 ^ 128)) (same_name (id_text n) (id_text n)) ((Decides-ltb n (2 ^ 128)).1 small) (same_name-itself (id_text n)) in
    let F : ℕ → Option TxId = λ m. cond (is_id_with_text (id_text n) m) (Some (record { 0 = m })) None in
    ap (id_with_text (id_text n)) (sym (id_text_parses n (id_text n) refl)) ∙ ap F back ∙ ap (λ b. cond b (Some (record { 0 = n })) None) here

with_text : (text : List ℕ) (o : Option (List ℕ)) (id : TxId) → id_with_text text o ≡ Some id → (id.0 < 2 ^ 128) × (text ≡ id_text id.0)
with_text text None id h = absurd (cc)
with_text text (Some bytes) id h =
    let n : ℕ = from_be_bytes w128 bytes in
    elim (is_id_with_text text n) as (λ b. is_id_with_text text n ≡ b → cond b (Some (record { 0 = n })) None ≡ Some id → (id.0 < 2 ^ 128) × (text ≡ id_text id.0)) [
      | true ↦ λ q k.
          let same : n ≡ id.0 = cc in
          let small : n < 2 ^ 128 = (Decides-ltb n (2 ^ 128)).0 (and_first (ltb n (2 ^ 128)) (same_name text (id_text n)) q) in
          let is : text ≡ id_text n = same_name-true text (id_text n) (and_second (ltb n (2 ^ 128)) (same_name text (id_text n)) q) in
          (subst (λ (m : ℕ). m < 2 ^ 128) same small, is ∙ ap id_text same)
      | false ↦ λ q k. absurd (cc)
    ] refl h

-- what the id of a text says of it
pub id_of_text-is : (text : List ℕ) (id : TxId) → id_of_text text ≡ Some id → (id.0 < 2 ^ 128) × (text ≡ id_text id.0)
unfolding id_of_text
id_of_text-is text id h = with_text text (parsed text) id h

-- what reads each id's text, and nothing else, gives the id of a text
pub reads : (text : List ℕ) (r : Option TxId) → IfSome r (λ id. text ≡ id_text id.0) → IfSome r (λ id. id.0 < 2 ^ 128)
    → ((n : ℕ) → n < 2 ^ 128 → text ≡ id_text n → r ≡ Some (record { 0 = n })) → r ≡ id_of_text text
reads text (Some id) found small read = sym (ap id_of_text found ∙ id_of_text-id_text id.0 small)
reads text None found small read =
    elim (id_of_text text) as (λ o. id_of_text text ≡ o → None ≡ o) [
      | None ↦ λ q. refl
      | Some id ↦ λ q. let w = id_of_text-is text id q in read id.0 w.0 w.1
    ] refl

pub id_in_value-fits : (o : Option Value) (id : TxId) → id_in_value o ≡ Some id → id.0 < 2 ^ 128
id_in_value-fits None id h = none_some id h
id_in_value-fits (Some (value.Text text)) id h = (id_of_text-is text id h).0
id_in_value-fits (Some v) id h = none_some id h
