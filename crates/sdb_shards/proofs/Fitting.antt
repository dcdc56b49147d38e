-- Whether each count and length of a key fits its field.
use Rattle.std.proofs.Common.{◌≡◌, ◌↔◌, ℕ, ◌+◌, ◌<◌, ◌%◌, Bool, List, [], ◌∷◌, ◌++◌, length, take, get_or, ◌^◌, refl, sym, ap, ◌∙◌}
use Rattle.std.specs.Prelude.{IsTrue, All, nat_lt, sum}
use Rattle.std.specs.Bool.{Decides, one_answer}
use Rattle.std.specs.List.{list_all}
use Rattle.std.proofs.lemmas.Bool.{and_parts, and_from, lt-ltb, ltb-true}
use Rattle.std.proofs.Math.Nat.{mod-add-mod}
use Rattle.std.proofs.lemmas.List.{take_more}
use Rattle.std.proofs.lemmas.List.Sums.{sum_by_push, AllPass-from_list_all, list_all-from_AllPass}
use Rattle.sdb_types.specs.declared.key.Key.{Key}
use Rattle.sdb_types.specs.declared.value.Value.{Value}
use Rattle.sdb_types.specs.declared.value.Value.TheVariants as value
use Rattle.sdb_codec.specs.Spelling.{ValueIsEncodable, ValuesAreEncodable, KeyIsEncodable}
use Rattle.sdb_shards.specs.Homes.{value_fits, values_fit, key_fits}

value_decides : (v : Value) → Decides (value_fits v) (ValueIsEncodable v)
value_decides value.Null = (λ e. tt, λ h. refl)
value_decides (value.Bool b) = (λ e. tt, λ h. refl)
value_decides (value.Int n) = (λ e. tt, λ h. refl)
value_decides (value.BigInt n) = (λ e. tt, λ h. refl)
value_decides (value.Text text) = (λ e. ltb-true (length text) (2 ^ 32) e, λ h. lt-ltb (length text) (2 ^ 32) h)
value_decides (value.Blob bytes) = (λ e. ltb-true (length bytes) (2 ^ 32) e, λ h. lt-ltb (length bytes) (2 ^ 32) h)

all_decides : (vs : List Value) → Decides (list_all value_fits vs) (All ValueIsEncodable vs)
all_decides vs = (λ e k d less. (value_decides _).0 (AllPass-from_list_all value_fits vs e k d less), λ h. list_all-from_AllPass value_fits vs (λ k d less. (value_decides _).1 (h k d less)))

values_decide : (vs : List Value) → Decides (values_fit vs) (ValuesAreEncodable vs)
values_decide vs = (
  λ e. let p = and_parts (nat_lt (length vs) 256) (list_all value_fits vs) e in record { count = ltb-true (length vs) 256 p.0; lengths = (all_decides vs).0 p.1 },
  λ h. and_from (nat_lt (length vs) 256) (list_all value_fits vs) (lt-ltb (length vs) 256 h.count) ((all_decides vs).1 h.lengths),
)

key_decides : (k : Key) → Decides (key_fits k) (KeyIsEncodable k)
key_decides k = (
  λ e. let p = and_parts (values_fit k.partition) (values_fit k.clustering) e in record { partition = (values_decide k.partition).0 p.0; clustering = (values_decide k.clustering).0 p.1 },
  λ h. and_from (values_fit k.partition) (values_fit k.clustering) ((values_decide k.partition).1 h.partition) ((values_decide k.clustering).1 h.clustering),
)

pub fits_as : (b : Bool) (k : Key) → IsTrue b ↔ KeyIsEncodable k → b ≡ key_fits k
fits_as b k h = one_answer b (key_fits k) h (key_decides k)

---- sums of bytes

-- the sum of one byte more, modulo a number
pub sum_more : (bytes : List ℕ) (i left n : ℕ) → i < length bytes → left ≡ sum (take i bytes) % n → (left + get_or bytes i 0) % n ≡ sum (take (i + 1) bytes) % n
sum_more bytes i left n less is =
    ap (λ x. (x + get_or bytes i 0) % n) is ∙ mod-add-mod (sum (take i bytes)) n (get_or bytes i 0)
    ∙ ap (λ x. x % n) (sym (ap sum (take_more bytes i 0 less) ∙ sum_by_push (λ x. x) (take i bytes) (get_or bytes i 0)))
