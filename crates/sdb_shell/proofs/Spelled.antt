-- Values that fields say, as a text spells them.
use Rattle.std.proofs.Common.{◌≡◌, ◌≢◌, ◌<◌, ◌==◌, ℕ, ℤ, pos, Bool, true, false, cond, List, [], ◌∷◌, Option, Some, None, Result, Ok, Err, refl, sym, ap, subst, arith}
use Rattle.std.specs.Prelude.{FitsSigned, codes, ◌&&◌}
use Rattle.std.specs.Option.{option_map}
use Rattle.std.specs.Int.{w64}
use Rattle.std.specs.Str.{bytes_eq, is_utf8}
use Rattle.std.proofs.lemmas.Bool.{eqb-true}
use Rattle.std.proofs.lemmas.Grind.{get_or_default_zero}
use Rattle.std.proofs.lemmas.Str.{IsCharBoundary-after_ascii, IsUtf8-drop, IsUtf8-from_is_utf8, is_utf8-from_IsUtf8}
use Rattle.hex.specs.Hex.{decode_of}
use Rattle.sdb_shell.specs.Types.{FromHexError, Kind, Value}
use Rattle.hex.proofs.HexLemmas.{decode_of-ok}
use Rattle.sdb_types.specs.Fits.{AreBytes, fits_int}
use Rattle.sdb_types.specs.declared.value.Value.TheVariants as value
use Rattle.sdb_types.proofs.Public.{and_parts, some_is}
use Rattle.sdb_schema.specs.declared.table.Kind.TheVariants as kind
use Rattle.sdb_data.specs.Fields.{begins_backslash, blob_in, bool_in, decoded, if_short, is_big, is_short, is_shortest, number_in, or_null, value_given, number_of_digits, text_in, unescaped, value_at, value_in}
use Rattle.sdb_data.proofs.Public.{big-fits, int-small}
use Rattle.sdb_model.specs.Sql.{CanSpell, literal_token}
use Rattle.sdb_shell.specs.Statements.{literal_of}

-- a value that isn't NULL, whose literal a text spells
pub record IsSpelled (v : Value) : Type 0 where
  pub literal : CanSpell (literal_token (literal_of v))
  pub some : v ≢ value.Null

mapped : {A : Type 0} (f : A → Value) (o : Option A) (v : Value) → option_map f o ≡ Some v → (x : A) × (o ≡ Some x) × (v ≡ f x)
mapped f None v h = absurd (cc)
mapped f (Some x) v h = (x, refl, sym (some_is (f x) v h))

---- numbers

number_fits : (fits : ℤ → Bool) (field : List ℕ) (z : ℤ) → fits (pos 0) ≡ true → number_in fits field ≡ Some z → fits z ≡ true
number_fits fits field z zero h = by (bytes_eq field (codes "-0")) (is_shortest field && fits (number_of_digits field)) refl h
  where
    by : (a b : Bool) → (is_shortest field && fits (number_of_digits field)) ≡ b → cond a (Some (pos 0)) (cond b (Some (number_of_digits field)) None) ≡ Some z → fits z ≡ true
    by true b e k = subst (λ x. fits x ≡ true) (some_is (pos 0) z k) zero
    by false true e k = subst (λ x. fits x ≡ true) (some_is (number_of_digits field) z k) (and_parts (is_shortest field) (fits (number_of_digits field)) e).1
    by false false e k = absurd (cc)

int_fits : (z : ℤ) → fits_int z ≡ true → FitsSigned w64 z
int_fits z h = let s = int-small z h in record { sfits = omega arith }

---- texts

utf8_after : (bs : List ℕ) → is_utf8 (92 ∷ bs) ≡ true → is_utf8 bs ≡ true
utf8_after bs h =
    let u = IsUtf8-from_is_utf8 (92 ∷ bs) h in
    is_utf8-from_IsUtf8 bs (IsUtf8-drop (92 ∷ bs) 1 u (IsCharBoundary-after_ascii (92 ∷ bs) 0 u (omega arith) (omega arith)))

short_is : (o : Option (List ℕ)) (t : List ℕ) → if_short o ≡ Some t → o ≡ Some t
short_is None t h = absurd (cc)
short_is (Some bytes) t h = by (is_short bytes) h
  where
    by : (b : Bool) → cond b (Some bytes) None ≡ Some t → Some bytes ≡ Some t
    by true k = k
    by false k = absurd (cc)

text_utf8 : (field t : List ℕ) → is_utf8 field ≡ true → unescaped field ≡ Some t → is_utf8 t ≡ true
text_utf8 [] t u h = subst (λ x. is_utf8 x ≡ true) (some_is [] t h) u
text_utf8 (b ∷ bs) t u h = by (b == 92) (begins_backslash bs) refl h
  where
    by : (x y : Bool) → (b == 92) ≡ x → cond x (cond y (Some bs) None) (Some (b ∷ bs)) ≡ Some t → is_utf8 t ≡ true
    by true true e k = subst (λ x. is_utf8 x ≡ true) (some_is bs t k) (utf8_after bs (subst (λ c. is_utf8 (c ∷ bs) ≡ true) (eqb-true b 92 e) u))
    by true false e k = absurd (cc)
    by false y e k = subst (λ x. is_utf8 x ≡ true) (some_is (b ∷ bs) t k) u

---- blobs

decoded_is : (r : Result (List ℕ) FromHexError) (bytes : List ℕ) → decoded r ≡ Some bytes → r ≡ Ok bytes
decoded_is (Ok xs) bytes h = ap Ok (some_is xs bytes h)
decoded_is (Err e) bytes h = absurd (cc)

blob_bytes : (field bytes : List ℕ) → blob_in field ≡ Some bytes → AreBytes bytes
blob_bytes field bytes h = let d = decode_of-ok field bytes (decoded_is (decode_of field) bytes (short_is (decoded (decode_of field)) bytes h)) in λ k other low. subst (λ n. n < 256) (sym (get_or_default_zero bytes k other low)) (d.3 k)

---- a field

said_spelled : (k : Kind) (field : List ℕ) (v : Value) → is_utf8 field ≡ true → value_given k field ≡ Some v → IsSpelled v
said_spelled kind.Boolean field v u h =
    let m = mapped value.Bool (bool_in field) v h in
    subst IsSpelled (sym m.2) (record { literal = tt; some = λ e. cc e })
said_spelled kind.Int field v u h =
    let m = mapped value.Int (number_in fits_int field) v h in
    subst IsSpelled (sym m.2) (record { literal = int_fits m.0 (number_fits fits_int field m.0 refl m.1); some = λ e. cc e })
said_spelled kind.BigInt field v u h =
    let m = mapped value.BigInt (number_in is_big field) v h in
    subst IsSpelled (sym m.2) (record { literal = (big-fits m.0 (number_fits is_big field m.0 refl m.1)).0; some = λ e. cc e })
said_spelled kind.Text field v u h =
    let m = mapped value.Text (text_in field) v h in
    subst IsSpelled (sym m.2) (record { literal = text_utf8 field m.0 u (short_is (unescaped field) m.0 m.1); some = λ e. cc e })
said_spelled kind.Blob field v u h =
    let m = mapped value.Blob (blob_in field) v h in
    subst IsSpelled (sym m.2) (record { literal = blob_bytes field m.0 m.1; some = λ e. cc e })

-- a text spells the literal of the value of a field
pub value_spelled : (k : Kind) (field : List ℕ) → CanSpell (literal_token (literal_of (value_at k field)))
value_spelled k field = by (is_utf8 field) (value_given k field) (λ u v e. (said_spelled k field v u e).literal) refl refl
  where
    by : (b : Bool) (o : Option Value) → ((u : is_utf8 field ≡ true) (v : Value) → value_given k field ≡ Some v → CanSpell (literal_token (literal_of v))) → is_utf8 field ≡ b → value_given k field ≡ o → CanSpell (literal_token (literal_of (or_null (cond b o None))))
    by true (Some v) f u e = f u v e
    by true None f u e = tt
    by false o f u e = tt

-- where a field says a value it isn't NULL
pub value_some : (k : Kind) (field : List ℕ) (v : Value) → value_in k field ≡ Some v → v ≢ value.Null
value_some k field v h = by (is_utf8 field) refl h
  where
    by : (b : Bool) → is_utf8 field ≡ b → cond b (value_given k field) None ≡ Some v → v ≢ value.Null
    by true u e = (said_spelled k field v u e).some
    by false u e = absurd (cc)
