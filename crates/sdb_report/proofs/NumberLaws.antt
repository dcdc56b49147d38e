-- Numbers and ids: what is read is there, and what is there is read.
use Rattle.std.proofs.Common.{◌≡◌, ℕ, zero, suc, ◌+◌, ◌/◌, ◌%◌, ◌^◌, ◌<◌, ◌≤◌, Bool, true, false, cond, ltb, ◌==◌, List, [], ◌∷◌, ◌++◌, length, take, drop, Option, Some, None, refl, sym, ap, subst, ◌∙◌, append_assoc, arith, ℤ, pos, negsuc, inl}
use Rattle.std.specs.Prelude.{FitsSigned, codes}
use Rattle.std.specs.Char.{is_ascii_digit}
use Rattle.std.specs.Fmt.{decimal, signed_decimal}
use Rattle.std.specs.Int.{w64, w128, to_be_bytes}
use Rattle.std.specs.Str.{is_utf8}
use Rattle.std.proofs.lemmas.Bool.{ltb-true, lt-ltb, le-ltb}
use Rattle.std.proofs.lemmas.Bool.Decides.{nat_tests}
use Rattle.std.proofs.lemmas.Fmt.{decimal_by_steps}
use Rattle.std.proofs.lemmas.List.{take_at, drop_at, length-append}
use Rattle.std.proofs.lemmas.Option.{same_Some, cond_some}
use Rattle.std.proofs.lemmas.Str.{is_utf8-from_IsUtf8, IsUtf8-from_ascii}
use Rattle.std.proofs.Common.{take-append-drop}
use Rattle.uuid.specs.Text.{lower}
use Rattle.uuid.proofs.TextLemmas.{hyphenated_ascii, by_index_length}
use Rattle.sdb_types.specs.TxId.{id_text}
use Rattle.sdb_types.specs.declared.txid.TxId.{TxId}
use Rattle.sdb_model.specs.Plain.{id_is_plain}
use Rattle.sdb_record.specs.Ids.{id_of_text}
use Rattle.sdb_record.proofs.Public.{id_of_text-id_text, id_of_text-is}
use Rattle.sdb_report.specs.FieldReading.{case_of, after, with_digit, number_on, natural_at, natural_below, positive, negative, number_at, integer_at, text_of, id_at}
use Rattle.sdb_report.proofs.WordLaws.{Says, Sound, Again, after_is, after_again, stops_at}
use Rattle.sdb_types.proofs.Public.{bind_some, by_test}
use Rattle.sdb_types.specs.Options.{◌>>=◌}

is_digit : (d : ℕ) → d < 10 → is_ascii_digit (48 + d) ≡ true
is_digit d lt = grind (arith, nat_tests)

abbrev pub begins_digit : List ℕ → Bool
begins_digit [] = false
begins_digit (c ∷ cs) = is_ascii_digit c

abbrev pub Goes : ℕ → List ℕ → Type 0
Goes n ds = n < 2 ^ 64 → (rest : List ℕ) → (number_on 0 (ds ++ rest) ≡ number_on n rest) × (begins_digit (ds ++ rest) ≡ true)

one_digit : (n : ℕ) → n < 10 → Goes n ((48 + n) ∷ [])
one_digit n lt small rest =
    let k : is_ascii_digit (48 + n) ≡ true = is_digit n lt in
    let e : with_digit 0 (48 + n) ≡ n = omega arith in
    (rw (k, e) refl, k)

more_digits : (n : ℕ) (ds : List ℕ) → 10 ≤ n → Goes (n / 10) ds → Goes n (ds ++ ((48 + n % 10) ∷ []))
more_digits n ds ge goes small rest =
    let less : n / 10 < 2 ^ 64 = omega arith in
    let k : is_ascii_digit (48 + n % 10) ≡ true = is_digit (n % 10) (omega arith) in
    let e : with_digit (n / 10) (48 + n % 10) ≡ n = omega arith in
    let p = goes less ((48 + n % 10) ∷ rest) in
    let last : number_on (n / 10) ((48 + n % 10) ∷ rest) ≡ number_on n rest = rw (k, e) refl in
    (rw append_assoc (p.0 ∙ last), rw append_assoc p.1)

pub digits_go : (n : ℕ) → n < 2 ^ 64 → Goes n (decimal n)
digits_go n lt = decimal_by_steps Goes one_digit more_digits n lt

number_ends : (n : ℕ) (rest : List ℕ) → stops_at is_ascii_digit rest ≡ true → number_on n rest ≡ n
number_ends n [] e = refl
number_ends n (c ∷ cs) e = by_test (is_ascii_digit c) (λ q. let k : false ≡ true = rw q at e in absurd cc) (λ q. rw q refl)

pub number_again : (n : ℕ) (rest : List ℕ) → n < 2 ^ 64 → stops_at is_ascii_digit rest ≡ true → number_on 0 (decimal n ++ rest) ≡ n
number_again n rest lt e = (digits_go n lt lt rest).0 ∙ number_ends n rest e

number_small : (n : ℕ) (bytes : List ℕ) → n < 2 ^ 64 → number_on n bytes < 2 ^ 64
number_small n [] lt = lt
number_small n (c ∷ cs) lt =
    by_test (is_ascii_digit c) (λ q. rw q (number_small (with_digit n c) cs (omega arith))) (λ q. rw q lt)

---- numbers without a sign

abbrev pub IsWord : ℕ → Type 0
IsWord n = n < 2 ^ 64

pub natural_sound : Sound natural_at decimal IsWord
unfolding natural_at
natural_sound bytes x h =
    let n : ℕ = number_on 0 bytes in
    let a = bind_some (after (decimal n) bytes) (λ rest. Some (n, rest)) x h in
    subst (Says decimal IsWord bytes) (same_Some (n, a.0) x a.2) (record { parts = after_is (decimal n) bytes a.0 a.1; fits = number_small 0 bytes (omega arith) })

pub natural_again : (n : ℕ) (rest : List ℕ) → n < 2 ^ 64 → stops_at is_ascii_digit rest ≡ true → natural_at (decimal n ++ rest) ≡ Some (n, rest)
unfolding natural_at
natural_again n rest lt e = rw (number_again n rest lt e, after_again (decimal n) rest) refl

pub below_sound : (limit : ℕ) → Sound (natural_below limit) decimal (λ n. n < limit)
below_sound limit bytes x h =
    let a = bind_some (natural_at bytes) (λ n. cond (ltb n.0 limit) (Some n) None) x h in
    let small = cond_some (ltb a.0.0 limit) a.0 x a.2 in
    subst (Says decimal (λ n. n < limit) bytes) small.1 (record { parts = (natural_sound bytes a.0 a.1).parts; fits = ltb-true a.0.0 limit small.0 })

pub below_again : (limit n : ℕ) (rest : List ℕ) → limit ≤ 2 ^ 64 → n < limit → stops_at is_ascii_digit rest ≡ true → natural_below limit (decimal n ++ rest) ≡ Some (n, rest)
below_again limit n rest le lt e = rw (natural_again n rest (omega arith) e, lt-ltb n limit lt) refl

---- numbers with a sign

abbrev pub IsLong : ℤ → Type 0
IsLong z = FitsSigned w64 z

positive_fits : (n : ℕ) → IsLong (positive n)
positive_fits n = record { sfits = omega arith }

negative_fits : (n : ℕ) → IsLong (negative n)
negative_fits zero = record { sfits = omega arith }
negative_fits (suc n) = record { sfits = omega arith }

case_fits : (o : Option (List ℕ)) (bytes : List ℕ) → IsLong (case_of o (λ rest. negative (number_on 0 rest)) (positive (number_on 0 bytes)))
case_fits None bytes = positive_fits (number_on 0 bytes)
case_fits (Some rest) bytes = negative_fits (number_on 0 rest)

pub integer_sound : Sound integer_at signed_decimal IsLong
unfolding integer_at
integer_sound bytes x h =
    let n : ℤ = number_at bytes in
    let a = bind_some (after (signed_decimal n) bytes) (λ rest. Some (n, rest)) x h in
    subst (Says signed_decimal IsLong bytes) (same_Some (n, a.0) x a.2)
    (record { parts = after_is (signed_decimal n) bytes a.0 a.1; fits = case_fits (after (codes "-") bytes) bytes })

no_minus : (bs : List ℕ) → begins_digit bs ≡ true → after (codes "-") bs ≡ None
no_minus [] e = refl
no_minus (c ∷ cs) e = let d : (45 == c) ≡ false = grind (arith, nat_tests) in rw d refl

said_again : (z : ℤ) (rest : List ℕ) → IsLong z → stops_at is_ascii_digit rest ≡ true → number_at (signed_decimal z ++ rest) ≡ z
said_again (pos n) rest fits e =
    let lt : n < 2 ^ 63 = fits.sfits in
    let w = no_minus (decimal n ++ rest) (digits_go n (omega arith) (omega arith) rest).1 in
    rw (w, number_again n rest (omega arith) e) (ap pos (omega arith))
said_again (negsuc n) rest fits e =
    let lt : n < 2 ^ 63 = fits.sfits in
    rw (number_again (suc n) rest (omega arith) e) (ap negsuc (omega arith))

pub integer_again : (z : ℤ) (rest : List ℕ) → IsLong z → stops_at is_ascii_digit rest ≡ true → integer_at (signed_decimal z ++ rest) ≡ Some (z, rest)
unfolding integer_at
integer_again z rest fits e = rw (said_again z rest fits e, after_again (signed_decimal z) rest) refl

---- ids

abbrev pub id_text_of : TxId → List ℕ
id_text_of id = id_text id.0

pub id_sound : Sound id_at id_text_of id_is_plain
unfolding id_at
id_sound bytes x h =
    by_test (ltb (length bytes) 36)
    (λ q. let k : None ≡ Some x = rw q at h in absurd cc)
    (λ q.
    let k : (text_of (take 36 bytes) >>= λ text. id_of_text text >>= λ id. Some (id, drop 36 bytes)) ≡ Some x = rw q at h in
    let a = bind_some (text_of (take 36 bytes)) (λ text. id_of_text text >>= λ id. Some (id, drop 36 bytes)) x k in
    let b = bind_some (id_of_text a.0) (λ id. Some (id, drop 36 bytes)) x a.2 in
    let same = cond_some (is_utf8 (take 36 bytes)) (take 36 bytes) a.0 a.1 in
    let is = id_of_text-is a.0 b.0 b.1 in
    subst (Says id_text_of id_is_plain bytes) (same_Some (b.0, drop 36 bytes) x b.2)
    (record { parts = sym (take-append-drop 36 bytes) ∙ ap (λ (t : List ℕ). t ++ drop 36 bytes) (same.1 ∙ is.1); fits = is.0 }))

pub id_long : (n : ℕ) → length (id_text n) ≡ 36
id_long n = by_index_length 36 _

id_utf8 : (n : ℕ) → is_utf8 (id_text n) ≡ true
id_utf8 n = is_utf8-from_IsUtf8 (id_text n) (IsUtf8-from_ascii (id_text n) (hyphenated_ascii lower (to_be_bytes w128 n) (inl refl)))

pub id_again : Again id_at id_text_of id_is_plain
unfolding id_at
id_again id rest fits =
    let long : ltb (length (id_text id.0 ++ rest)) 36 ≡ false = le-ltb _ _ (omega (arith, length-append (id_text id.0) rest, id_long id.0)) in
    rw (long, take_at (id_text id.0) rest 36 (id_long id.0), drop_at (id_text id.0) rest 36 (id_long id.0), id_utf8 id.0, id_of_text-id_text id.0 fits) refl
