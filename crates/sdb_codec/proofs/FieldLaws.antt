-- A field that is read is the field that was written, and what was written is read again.
use Rattle.std.proofs.Common.{◌≡◌, ℕ, zero, suc, ◌+◌, ◌^◌, ◌<◌, ◌≤◌, Bool, true, false, cond, ltb, List, [], ◌∷◌, ◌++◌, length, get_or, take, drop, Result, Ok, Err, refl, sym, ap, subst, ◌∙◌, append_assoc, arith, inl, inr, IsUtf8}
use Rattle.std.specs.Str.{is_utf8}
use Rattle.std.specs.Int.{Width, w16, w32, w64, byte_len, from_be_bytes, to_be_bytes, cast_signed, cast_unsigned}
use Rattle.std.proofs.lemmas.Str.{is_utf8-from_IsUtf8}
use Rattle.std.proofs.lemmas.Int.{of_z-to_z, to_z-of_z}
use Rattle.std.proofs.Math.Facts.{Fits-of_z}
use Rattle.std.proofs.lemmas.Bool.{cases_lt, ltb-false, le-ltb}
use Rattle.std.proofs.lemmas.List.{take_at, drop_at, take-append-drop, length-append, length-take, get_or-drop, get_or-take, get_or_past}
use Rattle.std.proofs.lemmas.Nat.{be_bytes_2, be_bytes_4, be_bytes_8, from_be_bytes-to_be_bytes_2, from_be_bytes-to_be_bytes_4, from_be_bytes-to_be_bytes_8}
use Rattle.sdb_types.specs.declared.value.Value.{Value}
use Rattle.sdb_types.specs.declared.value.Value.TheVariants as value
use Rattle.sdb_types.specs.Fits.{value_fits}
use Rattle.sdb_codec.specs.Spelling.{sized_bytes, value_bytes, ValueIsEncodable}
use Rattle.sdb_codec.specs.Reading.{◌>>=◌, number_at, sized_at, text_at, bool_at, value_of, value_at}
use Rattle.sdb_types.proofs.Public.{done}

abbrev pub IsBytes : List ℕ → Type 0
IsBytes bytes = (i : ℕ) → get_or bytes i 0 < 256

IsBytes-drop : (n : ℕ) (bytes : List ℕ) → IsBytes bytes → IsBytes (drop n bytes)
IsBytes-drop n bytes h i = rw get_or-drop (h (n + i))

IsBytes-take : (n : ℕ) (bytes : List ℕ) → IsBytes bytes → IsBytes (take n bytes)
IsBytes-take n bytes h i =
    elim (cases_lt i n) [
      | inl lt ↦ rw (get_or-take n bytes i 0 lt) (h i)
      | inr le ↦ rw (get_or_past (take n bytes) i 0 (omega (arith, length-take n bytes))) (omega arith)
    ]

pub IsBytes-rest : (b : ℕ) (bytes : List ℕ) → IsBytes (b ∷ bytes) → IsBytes bytes
IsBytes-rest b bytes h i = h (suc i)

-- the value of a step that did not fail
pub bind_ok : {A B : Type 0} (r : Result A ℕ) (f : A → Result B ℕ) (y : B) → (r >>= f) ≡ Ok y → (x : A) × (r ≡ Ok x) × (f x ≡ Ok y)
bind_ok (Ok x) f y e = (x, refl, e)
bind_ok (Err d) f y e = absurd cc

-- a test that did not fail
pub guard_ok : {A : Type 0} (b : Bool) (d : ℕ) (x y : A) → cond b (Err d) (Ok x) ≡ Ok y → (b ≡ false) × (x ≡ y)
guard_ok true d x y e = absurd cc
guard_ok false d x y e = (refl, cc)

pub passed_ok : {A : Type 0} (b : Bool) (d : ℕ) (x y : A) → cond b (Ok x) (Err d) ≡ Ok y → (b ≡ true) × (x ≡ y)
passed_ok true d x y e = (refl, cc)
passed_ok false d x y e = absurd cc

pub ok_is : {A : Type 0} (x y : A) → done x ≡ done y → x ≡ y
ok_is x y e = cc

-- what a reader took from the start
pub record Takes (bytes text rest : List ℕ) : Type 0 where
  pub parts : bytes ≡ text ++ rest
  pub rest_fits : IsBytes rest

pub Takes-then : (a x b y c : List ℕ) → Takes a x b → Takes b y c → Takes a (x ++ y) c
Takes-then a x b y c p q = record { parts = p.parts ∙ ap (λ (t : List ℕ). x ++ t) q.parts ∙ sym (append_assoc x y c); rest_fits = q.rest_fits }

pub Takes-after : (k : ℕ) (a x b : List ℕ) → Takes a x b → Takes (k ∷ a) (k ∷ x) b
Takes-after k a x b p = record { parts = ap (λ (t : List ℕ). k ∷ t) p.parts; rest_fits = p.rest_fits }

---- numbers

pub record IsWide (w : Width) (limit : ℕ) : Type 0 where
  pub len : (n : ℕ) → length (to_be_bytes w n) ≡ byte_len w
  pub back : (bytes : List ℕ) → length bytes ≡ byte_len w → IsBytes bytes → to_be_bytes w (from_be_bytes w bytes) ≡ bytes
  pub again : (n : ℕ) → n < limit → from_be_bytes w (to_be_bytes w n) ≡ n
  pub below : (bytes : List ℕ) → IsBytes bytes → from_be_bytes w bytes < limit

pub wide16 : IsWide w16 (2 ^ 16)
wide16 = record {
  len = λ n. refl;
  back = λ bytes len fits. be_bytes_2 bytes _ len fits refl;
  again = λ n lt. from_be_bytes-to_be_bytes_2 n lt;
  below = λ bytes fits. omega (arith, fits 0, fits 1);
}

pub wide32 : IsWide w32 (2 ^ 32)
wide32 = record {
  len = λ n. refl;
  back = λ bytes len fits. be_bytes_4 bytes _ len fits refl;
  again = λ n lt. from_be_bytes-to_be_bytes_4 n lt;
  below = λ bytes fits. omega (arith, fits 0, fits 1, fits 2, fits 3);
}

pub wide64 : IsWide w64 (2 ^ 64)
wide64 = record {
  len = λ n. refl;
  back = λ bytes len fits. be_bytes_8 bytes _ len fits refl;
  again = λ n lt. from_be_bytes-to_be_bytes_8 n lt;
  below = λ bytes fits. omega (arith, fits 0, fits 1, fits 2, fits 3, fits 4, fits 5, fits 6, fits 7);
}

pub number_takes : (w : Width) (limit : ℕ) (wide : IsWide w limit) (left : ℕ) (bytes : List ℕ) (x : ℕ × List ℕ) → IsBytes bytes → number_at w left bytes ≡ Ok x → Takes bytes (to_be_bytes w x.0) x.1 × (x.0 < limit)
number_takes w limit wide left bytes x fits e =
    let front : List ℕ = take (byte_len w) bytes in
    let g = guard_ok (ltb (length bytes) (byte_len w)) left (from_be_bytes w front, drop (byte_len w) bytes) x e in
    let long : byte_len w ≤ length bytes = ltb-false _ _ g.0 in
    let small = IsBytes-take (byte_len w) bytes fits in
    let back : to_be_bytes w (from_be_bytes w front) ≡ front = wide.back front (omega (arith, length-take (byte_len w) bytes)) small in
    subst (λ (y : ℕ × List ℕ). Takes bytes (to_be_bytes w y.0) y.1 × (y.0 < limit)) g.1
    (record { parts = rw back (sym (take-append-drop (byte_len w) bytes)); rest_fits = IsBytes-drop (byte_len w) bytes fits }, wide.below front small)

pub number_again : (w : Width) (limit : ℕ) (wide : IsWide w limit) (left n : ℕ) (rest : List ℕ) → n < limit → number_at w left (to_be_bytes w n ++ rest) ≡ Ok (n, rest)
number_again w limit wide left n rest lt =
    let len = wide.len n in
    let long : ltb (length (to_be_bytes w n ++ rest)) (byte_len w) ≡ false = le-ltb _ _ (omega (arith, length-append (to_be_bytes w n) rest)) in
    rw (long, take_at (to_be_bytes w n) rest (byte_len w) len, drop_at (to_be_bytes w n) rest (byte_len w) len, wide.again n lt) refl

---- bytes after a length

pub sized_takes : (left : ℕ) (bytes : List ℕ) (x : List ℕ × List ℕ) → IsBytes bytes → sized_at left bytes ≡ Ok x → Takes bytes (sized_bytes x.0) x.1 × (length x.0 < 2 ^ 32)
unfolding sized_at
sized_takes left bytes x fits e =
    let b = bind_ok (number_at w32 left bytes) (λ n. cond (ltb (length n.1) n.0) (Err left) (Ok (take n.0 n.1, drop n.0 n.1))) x e in
    let n = b.0 in
    let t = number_takes w32 (2 ^ 32) wide32 left bytes n fits b.1 in
    let g = guard_ok (ltb (length n.1) n.0) left (take n.0 n.1, drop n.0 n.1) x b.2 in
    let long : n.0 ≤ length n.1 = ltb-false _ _ g.0 in
    let len : length (take n.0 n.1) ≡ n.0 = omega (arith, length-take n.0 n.1) in
    let second : Takes n.1 (take n.0 n.1) (drop n.0 n.1) = record { parts = sym (take-append-drop n.0 n.1); rest_fits = IsBytes-drop n.0 n.1 t.0.rest_fits } in
    let both = Takes-then bytes (to_be_bytes w32 n.0) n.1 (take n.0 n.1) (drop n.0 n.1) t.0 second in
    let whole : Takes bytes (sized_bytes (take n.0 n.1)) (drop n.0 n.1) = subst (λ (k : ℕ). Takes bytes (to_be_bytes w32 k ++ take n.0 n.1) (drop n.0 n.1)) (sym len) both in
    subst (λ (p : List ℕ × List ℕ). Takes bytes (sized_bytes p.0) p.1 × (length p.0 < 2 ^ 32)) g.1 (whole, omega (arith, t.1))

pub sized_again : (left : ℕ) (text rest : List ℕ) → length text < 2 ^ 32 → sized_at left (sized_bytes text ++ rest) ≡ Ok (text, rest)
unfolding sized_at
sized_again left text rest lt =
    let long : ltb (length (text ++ rest)) (length text) ≡ false = le-ltb _ _ (omega (arith, length-append text rest)) in
    rw (number_again w32 (2 ^ 32) wide32 left (length text) (text ++ rest) lt, long, take_at text rest (length text) refl, drop_at text rest (length text) refl) refl

pub text_takes : (left : ℕ) (bytes : List ℕ) (x : List ℕ × List ℕ) → IsBytes bytes → text_at left bytes ≡ Ok x → Takes bytes (sized_bytes x.0) x.1 × (length x.0 < 2 ^ 32)
unfolding text_at
text_takes left bytes x fits e =
    let b = bind_ok (sized_at left bytes) (λ t. cond (is_utf8 t.0) (Ok t) (Err left)) x e in
    let g = passed_ok (is_utf8 b.0.0) left b.0 x b.2 in
    subst (λ (p : List ℕ × List ℕ). Takes bytes (sized_bytes p.0) p.1 × (length p.0 < 2 ^ 32)) g.1 (sized_takes left bytes b.0 fits b.1)

pub text_again : (left : ℕ) (text rest : List ℕ) → length text < 2 ^ 32 → IsUtf8 text → text_at left (sized_bytes text ++ rest) ≡ Ok (text, rest)
unfolding text_at
text_again left text rest lt utf8 = rw (sized_again left text rest lt, is_utf8-from_IsUtf8 text utf8) refl

---- values

-- what a reader of a value took
abbrev pub TakesValue : List ℕ → Value × List ℕ → Type 0
TakesValue bytes x = Takes bytes (value_bytes x.0) x.1 × ValueIsEncodable x.0

bool_takes : (left : ℕ) (bytes : List ℕ) (x : Bool × List ℕ) → IsBytes bytes → bool_at left bytes ≡ Ok x → TakesValue (1 ∷ bytes) (value.Bool x.0, x.1)
unfolding bool_at
bool_takes left [] x fits e = absurd cc
bool_takes left (zero ∷ rest) x fits e = subst (λ (y : Bool × List ℕ). TakesValue (1 ∷ 0 ∷ rest) (value.Bool y.0, y.1)) (ok_is (false, rest) x e) (record { parts = refl; rest_fits = IsBytes-rest 0 rest fits }, tt)
bool_takes left (suc zero ∷ rest) x fits e = subst (λ (y : Bool × List ℕ). TakesValue (1 ∷ 1 ∷ rest) (value.Bool y.0, y.1)) (ok_is (true, rest) x e) (record { parts = refl; rest_fits = IsBytes-rest 1 rest fits }, tt)
bool_takes left (suc (suc b) ∷ rest) x fits e = absurd cc

value_of_takes : (left kind : ℕ) (rest : List ℕ) (x : Value × List ℕ) → IsBytes rest → value_of left kind rest ≡ Ok x → TakesValue (kind ∷ rest) x
unfolding value_of
value_of_takes left zero rest x fits e = subst (TakesValue (0 ∷ rest)) (ok_is (value.Null, rest) x e) (record { parts = refl; rest_fits = fits }, tt)
value_of_takes left (suc zero) rest x fits e =
    let b = bind_ok (bool_at left rest) (λ b. Ok (value.Bool b.0, b.1)) x e in
    subst (TakesValue (1 ∷ rest)) (ok_is (value.Bool b.0.0, b.0.1) x b.2) (bool_takes left rest b.0 fits b.1)
value_of_takes left (suc (suc zero)) rest x fits e =
    let b = bind_ok (number_at w32 left rest) (λ n. Ok (value.Int (cast_signed w32 n.0), n.1)) x e in
    let t = number_takes w32 (2 ^ 32) wide32 left rest b.0 fits b.1 in
    let back : cast_unsigned w32 (cast_signed w32 b.0.0) ≡ b.0.0 = of_z-to_z w32 b.0.0 t.1 in
    let same : Takes rest (to_be_bytes w32 (cast_unsigned w32 (cast_signed w32 b.0.0))) b.0.1 = subst (λ (n : ℕ). Takes rest (to_be_bytes w32 n) b.0.1) (sym back) t.0 in
    subst (TakesValue (2 ∷ rest)) (ok_is (value.Int (cast_signed w32 b.0.0), b.0.1) x b.2) (Takes-after 2 rest _ b.0.1 same, tt)
value_of_takes left (suc (suc (suc zero))) rest x fits e =
    let b = bind_ok (number_at w64 left rest) (λ n. Ok (value.BigInt (cast_signed w64 n.0), n.1)) x e in
    let t = number_takes w64 (2 ^ 64) wide64 left rest b.0 fits b.1 in
    let back : cast_unsigned w64 (cast_signed w64 b.0.0) ≡ b.0.0 = of_z-to_z w64 b.0.0 t.1 in
    let same : Takes rest (to_be_bytes w64 (cast_unsigned w64 (cast_signed w64 b.0.0))) b.0.1 = subst (λ (n : ℕ). Takes rest (to_be_bytes w64 n) b.0.1) (sym back) t.0 in
    subst (TakesValue (3 ∷ rest)) (ok_is (value.BigInt (cast_signed w64 b.0.0), b.0.1) x b.2) (Takes-after 3 rest _ b.0.1 same, tt)
value_of_takes left (suc (suc (suc (suc zero)))) rest x fits e =
    let b = bind_ok (text_at left rest) (λ t. Ok (value.Text t.0, t.1)) x e in
    let t = text_takes left rest b.0 fits b.1 in
    subst (TakesValue (4 ∷ rest)) (ok_is (value.Text b.0.0, b.0.1) x b.2) (Takes-after 4 rest (sized_bytes b.0.0) b.0.1 t.0, t.1)
value_of_takes left (suc (suc (suc (suc (suc zero))))) rest x fits e =
    let b = bind_ok (sized_at left rest) (λ t. Ok (value.Blob t.0, t.1)) x e in
    let t = sized_takes left rest b.0 fits b.1 in
    subst (TakesValue (5 ∷ rest)) (ok_is (value.Blob b.0.0, b.0.1) x b.2) (Takes-after 5 rest (sized_bytes b.0.0) b.0.1 t.0, t.1)
value_of_takes left (suc (suc (suc (suc (suc (suc kind)))))) rest x fits e = absurd cc

pub value_takes : (bytes : List ℕ) (x : Value × List ℕ) → IsBytes bytes → value_at bytes ≡ Ok x → TakesValue bytes x
unfolding value_at
value_takes [] x fits e = absurd cc
value_takes (kind ∷ rest) x fits e = value_of_takes (length (kind ∷ rest)) kind rest x (IsBytes-rest kind rest fits) e

pub value_again : (v : Value) (rest : List ℕ) → value_fits v → ValueIsEncodable v → value_at (value_bytes v ++ rest) ≡ Ok (v, rest)
unfolding value_at value_of bool_at
value_again value.Null rest known fits = refl
value_again (value.Bool false) rest known fits = refl
value_again (value.Bool true) rest known fits = refl
value_again (value.Int n) rest known fits =
    let read = number_again w32 (2 ^ 32) wide32 (length (value_bytes (value.Int n) ++ rest)) (cast_unsigned w32 n) rest (Fits-of_z known).fits in
    rw (read, to_z-of_z w32 n known) refl
value_again (value.BigInt n) rest known fits =
    let read = number_again w64 (2 ^ 64) wide64 (length (value_bytes (value.BigInt n) ++ rest)) (cast_unsigned w64 n) rest (Fits-of_z known).fits in
    rw (read, to_z-of_z w64 n known) refl
value_again (value.Text text) rest known fits = rw (text_again (length (value_bytes (value.Text text) ++ rest)) text rest fits known.utf8) refl
value_again (value.Blob bytes) rest known fits = rw (sized_again (length (value_bytes (value.Blob bytes) ++ rest)) bytes rest fits) refl
