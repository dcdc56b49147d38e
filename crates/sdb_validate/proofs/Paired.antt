-- The reads of the keys that are written in the order of the reads.
use Rattle.std.proofs.Common.{◌≡◌, ℕ, ◌+◌, ◌<◌, ◌≤◌, zero, suc, List, [], ◌∷◌, Some, true, false, not, refl, sym, ap, ◌∙◌, cond, drop, length, get_or, arith}
use Rattle.std.specs.Prelude.{Bool, slice_get, is_some, filter}
use Rattle.std.specs.Option.{option_map_or}
use Rattle.std.specs.Ordering.{is_eq}
use Rattle.sdb_validate.specs.Types.{Key, Read, Write}
use Rattle.sdb_types.specs.Order.{key_cmp, same_key}
use Rattle.sdb_types.proofs.Public.{drop_next}
use Rattle.sdb_record.specs.Among.{is_written, write_among}

pub write_there : (own : List Write) (i : ℕ) (key : Key) (w : Write) → i < length own → w ≡ get_or own i w → is_eq (key_cmp key w.key) ≡ option_map_or (λ (x : Write). same_key key x.key) (slice_get own i) false
unfolding same_key
write_there [] i key w h at = absurd (omega arith)
write_there (x ∷ xs) zero key w h at = ap (λ (y : Write). is_eq (key_cmp key y.key)) at
write_there (x ∷ xs) (suc i) key w h at = write_there xs i key w (omega arith) at

pub no_write_there : (own : List Write) (i : ℕ) (key : Key) → length own ≤ i → false ≡ option_map_or (λ (x : Write). same_key key x.key) (slice_get own i) false
no_write_there [] zero key h = refl
no_write_there [] (suc i) key h = refl
no_write_there (x ∷ xs) zero key h = absurd (omega arith)
no_write_there (x ∷ xs) (suc i) key h = no_write_there xs i key (omega arith)

written_at : (own : List Write) (i : ℕ) (key : Key) → option_map_or (λ (x : Write). same_key key x.key) (slice_get own i) false ≡ true → is_written own key ≡ true
written_at [] zero key h = cc
written_at [] (suc i) key h = cc
written_at (w ∷ ws) zero key h = ap (λ b. is_some (cond b (Some w) (write_among ws key))) h
written_at (w ∷ ws) (suc i) key h = either (same_key key w.key) (written_at ws i key h) where
  either : (b : Bool) → is_written ws key ≡ true → is_some (cond b (Some w) (write_among ws key)) ≡ true
  either true rest = refl
  either false rest = rest

pub paired_next : (own : List Write) (reads : List Read) (i : ℕ) (r : Read) → i < length reads → r ≡ get_or reads i r → option_map_or (λ (x : Write). same_key r.key x.key) (slice_get own i) false ≡ true → filter (λ x. not (is_written own x.key)) (drop (i + 1) reads) ≡ filter (λ x. not (is_written own x.key)) (drop i reads)
paired_next own reads i r h at here =
    let rest : List Read = filter (λ x. not (is_written own x.key)) (drop (i + 1) reads) in
    sym (ap (filter (λ (x : Read). not (is_written own x.key))) (drop_next reads i r h at) ∙ ap (λ b. cond (not b) (r ∷ rest) rest) (written_at own i r.key here))
