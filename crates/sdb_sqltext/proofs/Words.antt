-- What letters, digits and `_` at the start make.
use Rattle.std.proofs.Common.{◌≡◌, ℕ, zero, suc, true, false, List, [], ◌∷◌, take, arith}
use Rattle.std.specs.List.{list_all}
use Rattle.std.specs.Str.{IsAscii, IsUtf8, is_utf8}
use Rattle.std.proofs.lemmas.Str.{IsUtf8-from_ascii, IsUtf8-from_is_utf8}
use Rattle.sdb_types.specs.Identifier.{is_start, is_part, is_identifier}
use Rattle.sdb_model.specs.SqlTokens.{begins, word_len}
use Rattle.sdb_types.proofs.Public.{and_parts as and_true, by_test, front_passes as all_pass, one_more, part_small, start_part as start_is_part}

pub front_is_identifier : (bs : List ℕ) → begins is_start bs ≡ true → is_identifier (take (word_len bs) bs) ≡ true
front_is_identifier [] h = absurd cc
front_is_identifier (b ∷ bs) h =
    let p = start_is_part b h in
    rw (p, one_more, h) (all_pass is_part bs)

all_small : (bs : List ℕ) → list_all is_part bs ≡ true → IsAscii bs
all_small [] h i = omega arith
all_small (b ∷ bs) h zero = part_small b (and_true (is_part b) (list_all is_part bs) h).0
all_small (b ∷ bs) h (suc i) = all_small bs (and_true (is_part b) (list_all is_part bs) h).1 i

pub identifier_is_text : (bs : List ℕ) → is_identifier bs ≡ true → IsUtf8 bs
identifier_is_text [] h = absurd cc
identifier_is_text (b ∷ bs) h =
    let p = and_true (is_start b) (list_all is_part bs) h in
    let q = start_is_part b p.0 in
    let all : list_all is_part (b ∷ bs) ≡ true = rw (q) p.1 in
    IsUtf8-from_ascii (b ∷ bs) (all_small (b ∷ bs) all)

pub no_utf8 : (bs : List ℕ) → (IsUtf8 bs → ⊥) → is_utf8 bs ≡ false
no_utf8 bs not_so = by_test (is_utf8 bs) (λ e. absurd (not_so (IsUtf8-from_is_utf8 bs e))) (λ e. e)
