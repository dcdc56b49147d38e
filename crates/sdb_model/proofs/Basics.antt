-- What proofs of several crates cite of the definitions.
use Rattle.std.proofs.Common.{◌≡◌, ◌-◌, ◌^◌, ℕ, suc, ◌<◌, List, [], ◌∷◌, zero, arith, ◌+◌, true, Bool, false, cond, map, refl, ap}
use Rattle.std.proofs.lemmas.Nat.{div-add-mod'}
use Rattle.sdb_model.specs.Types.{Key, Pair, TxId}
use Rattle.sdb_model.specs.Transactions.{client_of, id_of, ordinal_of}
use Rattle.std.specs.List.{AllByRecursion}
use Rattle.hex.specs.Hex.{IsBytes}
use Rattle.std.proofs.lemmas.Bool.Decides.{nat_tests}
use Rattle.sdb_model.specs.SqlTokens.{is_digit}
use Rattle.std.specs.Prelude.{filter}
use Rattle.std.specs.FinMap.Entries.{where_key}
use Rattle.sdb_types.specs.Order.{key_cmp}
use Rattle.sdb_model.specs.Exec.{row_of_entry}

pub id_again : (id : TxId) → id_of (client_of id) (ordinal_of id) ≡ id
id_again id = λ i. record { 0 = div-add-mod' id.0 (2 ^ 64) i }

pub are_bytes : (bs : List ℕ) → IsBytes bs → AllByRecursion (λ b. b < 256) bs
are_bytes [] h = tt
are_bytes (b ∷ bs) h = (h 0, are_bytes bs (λ i. h (suc i)))

pub is_bytes : (bs : List ℕ) → AllByRecursion (λ b. b < 256) bs → IsBytes bs
is_bytes [] h i = omega arith
is_bytes (b ∷ bs) h zero = h.0
is_bytes (b ∷ bs) h (suc i) = is_bytes bs h.1 i

pub digit_is : (d : ℕ) → d < 10 → is_digit (48 + d) ≡ true
digit_is d h = grind (arith, nat_tests)

pub where_rows : (p : Key → Bool) (es : List (Key × List Pair)) → filter (λ r. p r.key) (map row_of_entry es) ≡ map row_of_entry (where_key key_cmp p es)
where_rows p [] = refl
where_rows p (e ∷ es) =
    let rest : filter (λ r. p r.key) (map row_of_entry es) ≡ map row_of_entry (where_key key_cmp p es) = where_rows p es in
    elim (p e.0) as (λ b. cond b (row_of_entry e ∷ filter (λ r. p r.key) (map row_of_entry es)) (filter (λ r. p r.key) (map row_of_entry es)) ≡ map row_of_entry (cond b (e ∷ where_key key_cmp p es) (where_key key_cmp p es))) [ true ↦ ap (λ rs. row_of_entry e ∷ rs) rest | false ↦ rest ]
