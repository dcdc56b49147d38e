-- The place at which reading stops is the first wrong one.
use Rattle.std.proofs.Common.{◌≡◌, ◌≢◌, ℕ, zero, suc, ◌-◌, ◌<◌, ◌^◌, ◌⊎◌, inl, inr, Bool, true, false, cond, ◌==◌, eqb, ltb, List, [], ◌∷◌, ◌++◌, length, take, drop, replicate, Option, Some, None, option_map, Result, Ok, Err, IfErr, refl, sym, ap, subst, ◌∙◌, append_assoc, arith, flat_map, IsUtf8}
use Rattle.std.specs.Str.{is_utf8}
use Rattle.std.specs.Int.{Width, w16, w32, w64, byte_len, from_be_bytes, to_be_bytes, cast_signed, cast_unsigned}
use Rattle.std.proofs.lemmas.Bool.{le-ltb}
use Rattle.std.proofs.lemmas.Str.{IsUtf8-from_is_utf8}
use Rattle.std.proofs.lemmas.List.{append-nil, take_at, drop_at, length-append}
use Rattle.std.proofs.lemmas.List.Concat.{flat_map-cons, flat_map-append}
use Rattle.sdb_codec.specs.Types.{Key, Pair, Record, TableName, Value}
use Rattle.sdb_types.specs.declared.value.Value.TheVariants as value
use Rattle.sdb_types.specs.Identifier.{is_name}
use Rattle.sdb_types.specs.Columns.{is_null}
use Rattle.sdb_codec.specs.declared.refused.ReadRefused.{ReadRefused}
use Rattle.sdb_codec.specs.declared.refused.ReadRefused.TheVariants as refused
use Rattle.sdb_codec.specs.Spelling.{sized_bytes, value_bytes, ValueIsEncodable}
use Rattle.sdb_codec.specs.Reading.{◌>>=◌, number_at, sized_at, text_at, bool_at, value_of, value_at, items_at, values_at, name_of, dot_split, names_of, table_at, key_at, is_above, column_name_at, column_value_at, pair_at, columns_at, format_at, record_at, whole, from_front, record_in, key_in, Reads}
use Rattle.sdb_codec.specs.Places.{Field, Format, Table, Count, Item, ColumnCount, Name, field_bytes, Due, FormatDue, TableDue, CountDue, ItemDue, ColumnCountDue, NameDue, CellDue, key_due, record_due, columns_due, due_after, IsText, is_above_last, HasForm, Leads, IsWrong, IsFirstWrong, IsRefusedAt}
use Rattle.sdb_codec.proofs.FieldLaws.{IsBytes, IsBytes-rest, bind_ok, guard_ok, passed_ok, ok_is, IsWide, wide16, wide32, wide64, number_takes, number_again, sized_again, text_again, value_takes}
use Rattle.sdb_codec.proofs.ItemLaws.{values_after, values_take}
use Rattle.sdb_codec.proofs.RecordLaws.{name_length, table_takes, table_again, column_name_takes, column_value_takes, key_takes, format_takes}
use Rattle.sdb_types.proofs.Public.{done}

---- fields one after another

-- fields that were read
pub record Passes (due : List Due) (bytes : List ℕ) (after : List Due) (rest : List ℕ) : Type 0 where
  pub fields : List Field
  pub leads : Leads due fields after
  pub split : bytes ≡ flat_map field_bytes fields ++ rest

-- fields, and then a wrong one, with so many bytes left
pub record Breaks (due : List Due) (bytes : List ℕ) (left : ℕ) : Type 0 where
  pub fields : List Field
  pub after : List Due
  pub rest : List ℕ
  pub leads : Leads due fields after
  pub split : bytes ≡ flat_map field_bytes fields ++ rest
  pub here : length rest ≡ left
  pub wrong : IsWrong after rest

Leads-append : (a : List Due) (fs gs : List Field) (b c : List Due) → Leads a fs b → Leads b gs c → Leads a (fs ++ gs) c
Leads-append a [] gs b c p q = subst (λ (d : List Due). Leads d gs c) (sym p) q
Leads-append [] (f ∷ fs) gs b c p q = absurd p
Leads-append (d ∷ a) (f ∷ fs) gs b c p q = (p.0, Leads-append (due_after d f ++ a) fs gs b c p.1 q)

split_more : (bytes rest after : List ℕ) (fs gs : List Field) → bytes ≡ flat_map field_bytes fs ++ rest → rest ≡ flat_map field_bytes gs ++ after → bytes ≡ flat_map field_bytes (fs ++ gs) ++ after
split_more bytes rest after fs gs p q =
    p ∙ ap (λ (t : List ℕ). flat_map field_bytes fs ++ t) q ∙ sym (append_assoc (flat_map field_bytes fs) (flat_map field_bytes gs) after) ∙ ap (λ (t : List ℕ). t ++ after) (sym (flat_map-append field_bytes fs gs))

module _ {a b : List Due} {bytes rest : List ℕ} (p : Passes a bytes b rest) where
  passes_then : (c : List Due) (after : List ℕ) → Passes b rest c after → Passes a bytes c after
  passes_then c after q = record { fields = p.fields ++ q.fields; leads = Leads-append a p.fields q.fields b c p.leads q.leads; split = split_more bytes rest after p.fields q.fields p.split q.split }

  breaks_then : (left : ℕ) → Breaks b rest left → Breaks a bytes left
  breaks_then left q = record { fields = p.fields ++ q.fields; after = q.after; rest = q.rest; leads = Leads-append a p.fields q.fields b q.after p.leads q.leads; split = split_more bytes rest q.rest p.fields q.fields p.split q.split; here = q.here; wrong = q.wrong }

breaks_here : (due : List Due) (bytes : List ℕ) (left : ℕ) → IsWrong due bytes → length bytes ≡ left → Breaks due bytes left
breaks_here due bytes left w e = record { fields = []; after = due; rest = bytes; leads = refl; split = refl; here = e; wrong = w }

one_field : (d : Due) (f : Field) (more : List Due) (bytes rest : List ℕ) → HasForm d f → bytes ≡ field_bytes f ++ rest → Passes (d ∷ more) bytes (due_after d f ++ more) rest
one_field d f more bytes rest form e =
    record { fields = f ∷ []; leads = (form, refl); split = e ∙ ap (λ (t : List ℕ). t ++ rest) (sym (flat_map-cons field_bytes f [] ∙ append-nil (field_bytes f))) }

---- where a field fails

bind_err : {A B : Type 0} (r : Result A ℕ) (f : A → Result B ℕ) (l : ℕ) → (r >>= f) ≡ Err l → (r ≡ Err l) ⊎ ((x : A) × (r ≡ Ok x) × (f x ≡ Err l))
bind_err (Ok x) f l e = inr (x, refl, e)
bind_err (Err d) f l e = let d_is : d ≡ l = cc in inl (ap Err d_is)

guard_err : {A : Type 0} (b : Bool) (d : ℕ) (x : A) (l : ℕ) → cond b (Err d) (Ok x) ≡ Err l → d ≡ l
guard_err true d x l e = cc
guard_err false d x l e = absurd cc

passed_err : {A : Type 0} (b : Bool) (d : ℕ) (x : A) (l : ℕ) → cond b (Ok x) (Err d) ≡ Err l → d ≡ l
passed_err true d x l e = absurd cc
passed_err false d x l e = cc

impossible : {A : Type 0} (x : A) (l : ℕ) → done x ≡ Err l → ⊥
impossible x l e = cc

number_err : (w : Width) (left : ℕ) (bytes : List ℕ) (l : ℕ) → number_at w left bytes ≡ Err l → left ≡ l
number_err w left bytes l e = guard_err (ltb (length bytes) (byte_len w)) left (from_be_bytes w (take (byte_len w) bytes), drop (byte_len w) bytes) l e

sized_err : (left : ℕ) (bytes : List ℕ) (l : ℕ) → sized_at left bytes ≡ Err l → left ≡ l
unfolding sized_at
sized_err left bytes l e =
    elim (bind_err (number_at w32 left bytes) (λ n. cond (ltb (length n.1) n.0) (Err left) (Ok (take n.0 n.1, drop n.0 n.1))) l e) [
      | inl q ↦ number_err w32 left bytes l q
      | inr n ↦ guard_err (ltb (length n.0.1) n.0.0) left (take n.0.0 n.0.1, drop n.0.0 n.0.1) l n.2
    ]

text_err : (left : ℕ) (bytes : List ℕ) (l : ℕ) → text_at left bytes ≡ Err l → left ≡ l
unfolding text_at
text_err left bytes l e =
    elim (bind_err (sized_at left bytes) (λ t. cond (is_utf8 t.0) (Ok t) (Err left)) l e) [
      | inl q ↦ sized_err left bytes l q
      | inr t ↦ passed_err (is_utf8 t.0.0) left t.0 l t.2
    ]

bool_err : (left : ℕ) (bytes : List ℕ) (l : ℕ) → bool_at left bytes ≡ Err l → left ≡ l
unfolding bool_at
bool_err left [] l e = cc
bool_err left (zero ∷ rest) l e = absurd cc
bool_err left (suc zero ∷ rest) l e = absurd cc
bool_err left (suc (suc b) ∷ rest) l e = cc

value_of_err : (left kind : ℕ) (rest : List ℕ) (l : ℕ) → value_of left kind rest ≡ Err l → left ≡ l
unfolding value_of
value_of_err left zero rest l e = absurd cc
value_of_err left (suc zero) rest l e = elim (bind_err (bool_at left rest) (λ b. Ok (value.Bool b.0, b.1)) l e) [ inl q ↦ bool_err left rest l q | inr b ↦ absurd (impossible (value.Bool b.0.0, b.0.1) l b.2) ]
value_of_err left (suc (suc zero)) rest l e = elim (bind_err (number_at w32 left rest) (λ n. Ok (value.Int (cast_signed w32 n.0), n.1)) l e) [ inl q ↦ number_err w32 left rest l q | inr n ↦ absurd (impossible (value.Int (cast_signed w32 n.0.0), n.0.1) l n.2) ]
value_of_err left (suc (suc (suc zero))) rest l e = elim (bind_err (number_at w64 left rest) (λ n. Ok (value.BigInt (cast_signed w64 n.0), n.1)) l e) [ inl q ↦ number_err w64 left rest l q | inr n ↦ absurd (impossible (value.BigInt (cast_signed w64 n.0.0), n.0.1) l n.2) ]
value_of_err left (suc (suc (suc (suc zero)))) rest l e = elim (bind_err (text_at left rest) (λ t. Ok (value.Text t.0, t.1)) l e) [ inl q ↦ text_err left rest l q | inr t ↦ absurd (impossible (value.Text t.0.0, t.0.1) l t.2) ]
value_of_err left (suc (suc (suc (suc (suc zero))))) rest l e = elim (bind_err (sized_at left rest) (λ t. Ok (value.Blob t.0, t.1)) l e) [ inl q ↦ sized_err left rest l q | inr t ↦ absurd (impossible (value.Blob t.0.0, t.0.1) l t.2) ]
value_of_err left (suc (suc (suc (suc (suc (suc kind)))))) rest l e = cc

value_err : (bytes : List ℕ) (l : ℕ) → value_at bytes ≡ Err l → length bytes ≡ l
unfolding value_at
value_err [] l e = cc
value_err (kind ∷ rest) l e = value_of_err (length (kind ∷ rest)) kind rest l e

names_err : (left : ℕ) (o : Option (List ℕ × List ℕ)) (l : ℕ) → names_of left o ≡ Err l → left ≡ l
names_err left None l e = cc
names_err left (Some p) l e =
    elim (bind_err (name_of left p.0) (λ ns. name_of left p.1 >>= λ table. Ok (record { ns = ns; table = table })) l e) [
      | inl q ↦ passed_err (is_name p.0) left p.0 l q
      | inr ns ↦ elim (bind_err (name_of left p.1) (λ table. Ok (record { ns = ns.0; table = table })) l ns.2) [
        | inl q ↦ passed_err (is_name p.1) left p.1 l q
        | inr t ↦ let made : TableName = record { ns = ns.0; table = t.0 } in absurd (impossible made l t.2)
      ]
    ]

table_err : (bytes : List ℕ) (l : ℕ) → table_at bytes ≡ Err l → length bytes ≡ l
unfolding table_at
table_err bytes l e =
    elim (bind_err (sized_at (length bytes) bytes) (λ text. names_of (length bytes) (dot_split text.0) >>= λ table. Ok (table, text.1)) l e) [
      | inl q ↦ sized_err (length bytes) bytes l q
      | inr t ↦ elim (bind_err (names_of (length bytes) (dot_split t.0.0)) (λ table. Ok (table, t.0.1)) l t.2) [
        | inl q ↦ names_err (length bytes) (dot_split t.0.0) l q
        | inr n ↦ absurd (impossible (n.0, t.0.1) l n.2)
      ]
    ]

column_name_err : (before : Option Pair) (bytes : List ℕ) (l : ℕ) → column_name_at before bytes ≡ Err l → length bytes ≡ l
unfolding column_name_at
column_name_err before bytes l e =
    let left : ℕ = length bytes in
    elim (bind_err (sized_at left bytes) (λ text. name_of left text.0 >>= λ name. cond (is_above before name) (Ok (name, text.1)) (Err left)) l e) [
      | inl q ↦ sized_err left bytes l q
      | inr t ↦ elim (bind_err (name_of left t.0.0) (λ name. cond (is_above before name) (Ok (name, t.0.1)) (Err left)) l t.2) [
        | inl q ↦ passed_err (is_name t.0.0) left t.0.0 l q
        | inr n ↦ passed_err (is_above before n.0) left (n.0, t.0.1) l n.2
      ]
    ]

column_value_err : (bytes : List ℕ) (l : ℕ) → column_value_at bytes ≡ Err l → length bytes ≡ l
unfolding column_value_at
column_value_err bytes l e =
    elim (bind_err (value_at bytes) (λ v. cond (is_null v.0) (Err (length bytes)) (Ok v)) l e) [
      | inl q ↦ value_err bytes l q
      | inr v ↦ guard_err (is_null v.0.0) (length bytes) v.0 l v.2
    ]

---- fields of a key

table_wrong : (bytes : List ℕ) (l : ℕ) → table_at bytes ≡ Err l → (f : Field) (after : List ℕ) → HasForm TableDue f → bytes ≡ field_bytes f ++ after → ⊥
table_wrong bytes l e (Table t) after form same = impossible (t, after) l (sym (table_again t after form.0 form.1) ∙ ap table_at (sym same) ∙ e)
table_wrong bytes l e f after form same = absurd form

table_breaks : (more : List Due) (bytes : List ℕ) (l : ℕ) → table_at bytes ≡ Err l → Breaks (TableDue ∷ more) bytes l
table_breaks more bytes l e = breaks_here (TableDue ∷ more) bytes l (table_wrong bytes l e) (table_err bytes l e)

-- the names of a table that was read
names_named : (left : ℕ) (o : Option (List ℕ × List ℕ)) (t : TableName) → names_of left o ≡ Ok t → HasForm TableDue (Table t)
names_named left None t e = absurd cc
names_named left (Some p) t e =
    let a = bind_ok (name_of left p.0) (λ ns. name_of left p.1 >>= λ table. Ok (record { ns = ns; table = table })) t e in
    let b = bind_ok (name_of left p.1) (λ table. Ok (record { ns = a.0; table = table })) t a.2 in
    let ns = passed_ok (is_name p.0) left p.0 a.0 a.1 in
    let table = passed_ok (is_name p.1) left p.1 b.0 b.1 in
    let named : List ℕ → Type 0 = λ n. is_name n ≡ true in
    let form : TableName → Type 0 = λ u. HasForm TableDue (Table u) in
    subst form (ok_is (record { ns = a.0; table = b.0 }) t b.2) (subst named ns.1 ns.0, subst named table.1 table.0)

table_named : (bytes : List ℕ) (x : TableName × List ℕ) → table_at bytes ≡ Ok x → HasForm TableDue (Table x.0)
unfolding table_at
table_named bytes x e =
    let left : ℕ = length bytes in
    let a = bind_ok (sized_at left bytes) (λ text. names_of left (dot_split text.0) >>= λ table. Ok (table, text.1)) x e in
    let b = bind_ok (names_of left (dot_split a.0.0)) (λ table. Ok (table, a.0.1)) x a.2 in
    let form : TableName × List ℕ → Type 0 = λ y. HasForm TableDue (Table y.0) in
    subst form (ok_is (b.0, a.0.1) x b.2) (names_named left (dot_split a.0.0) b.0 b.1)

table_passes : (more : List Due) (bytes : List ℕ) (x : TableName × List ℕ) → IsBytes bytes → table_at bytes ≡ Ok x → Passes (TableDue ∷ more) bytes more x.1
table_passes more bytes x fits e = one_field TableDue (Table x.0) more bytes x.1 (table_named bytes x e) (table_takes bytes x fits e).parts

-- the text of a value that was read
value_of_text : (left kind : ℕ) (rest : List ℕ) (x : Value × List ℕ) → value_of left kind rest ≡ Ok x → IsText x.0
unfolding value_of text_at
value_of_text left zero rest x e = subst (λ (y : Value × List ℕ). IsText y.0) (ok_is (value.Null, rest) x e) tt
value_of_text left (suc zero) rest x e =
    let b = bind_ok (bool_at left rest) (λ b. Ok (value.Bool b.0, b.1)) x e in
    subst (λ (y : Value × List ℕ). IsText y.0) (ok_is (value.Bool b.0.0, b.0.1) x b.2) tt
value_of_text left (suc (suc zero)) rest x e =
    let b = bind_ok (number_at w32 left rest) (λ n. Ok (value.Int (cast_signed w32 n.0), n.1)) x e in
    subst (λ (y : Value × List ℕ). IsText y.0) (ok_is (value.Int (cast_signed w32 b.0.0), b.0.1) x b.2) tt
value_of_text left (suc (suc (suc zero))) rest x e =
    let b = bind_ok (number_at w64 left rest) (λ n. Ok (value.BigInt (cast_signed w64 n.0), n.1)) x e in
    subst (λ (y : Value × List ℕ). IsText y.0) (ok_is (value.BigInt (cast_signed w64 b.0.0), b.0.1) x b.2) tt
value_of_text left (suc (suc (suc (suc zero)))) rest x e =
    let b = bind_ok (text_at left rest) (λ t. Ok (value.Text t.0, t.1)) x e in
    let c = bind_ok (sized_at left rest) (λ t. cond (is_utf8 t.0) (Ok t) (Err left)) b.0 b.1 in
    let g = passed_ok (is_utf8 c.0.0) left c.0 b.0 c.2 in
    let text : List ℕ × List ℕ → Type 0 = λ t. IsUtf8 t.0 in
    subst (λ (y : Value × List ℕ). IsText y.0) (ok_is (value.Text b.0.0, b.0.1) x b.2) (subst text g.1 (IsUtf8-from_is_utf8 c.0.0 g.0))
value_of_text left (suc (suc (suc (suc (suc zero))))) rest x e =
    let b = bind_ok (sized_at left rest) (λ t. Ok (value.Blob t.0, t.1)) x e in
    subst (λ (y : Value × List ℕ). IsText y.0) (ok_is (value.Blob b.0.0, b.0.1) x b.2) tt
value_of_text left (suc (suc (suc (suc (suc (suc kind)))))) rest x e = absurd cc

value_text : (bytes : List ℕ) (x : Value × List ℕ) → value_at bytes ≡ Ok x → IsText x.0
unfolding value_at
value_text [] x e = absurd cc
value_text (kind ∷ rest) x e = value_of_text (length (kind ∷ rest)) kind rest x e

number_reads : (w : Width) (limit : ℕ) (wide : IsWide w limit) (left n : ℕ) (rest : List ℕ) → number_at w left (to_be_bytes w n ++ rest) ≡ Ok (from_be_bytes w (to_be_bytes w n), rest)
number_reads w limit wide left n rest =
    let len = wide.len n in
    let long : ltb (length (to_be_bytes w n ++ rest)) (byte_len w) ≡ false = le-ltb _ _ (omega (arith, length-append (to_be_bytes w n) rest)) in
    rw (long, take_at (to_be_bytes w n) rest (byte_len w) len, drop_at (to_be_bytes w n) rest (byte_len w) len) refl

-- the bytes of a value are read as one of the same kind
value_reads : (v : Value) (rest : List ℕ) → ValueIsEncodable v → IsText v → (w : Value) × (value_at (value_bytes v ++ rest) ≡ Ok (w, rest)) × (is_null w ≡ is_null v)
unfolding value_at value_of bool_at
value_reads value.Null rest fits text = (value.Null, refl, refl)
value_reads (value.Bool false) rest fits text = (value.Bool false, refl, refl)
value_reads (value.Bool true) rest fits text = (value.Bool true, refl, refl)
value_reads (value.Int n) rest fits text =
    let m : ℕ = cast_unsigned w32 n in
    (value.Int (cast_signed w32 (from_be_bytes w32 (to_be_bytes w32 m))), rw (number_reads w32 (2 ^ 32) wide32 (length (value_bytes (value.Int n) ++ rest)) m rest) refl, refl)
value_reads (value.BigInt n) rest fits text =
    let m : ℕ = cast_unsigned w64 n in
    (value.BigInt (cast_signed w64 (from_be_bytes w64 (to_be_bytes w64 m))), rw (number_reads w64 (2 ^ 64) wide64 (length (value_bytes (value.BigInt n) ++ rest)) m rest) refl, refl)
value_reads (value.Text t) rest fits text = (value.Text t, rw (text_again (length (value_bytes (value.Text t) ++ rest)) t rest fits text) refl, refl)
value_reads (value.Blob b) rest fits text = (value.Blob b, rw (sized_again (length (value_bytes (value.Blob b) ++ rest)) b rest fits) refl, refl)

item_wrong : (bytes : List ℕ) (l : ℕ) → value_at bytes ≡ Err l → (f : Field) (after : List ℕ) → HasForm ItemDue f → bytes ≡ field_bytes f ++ after → ⊥
item_wrong bytes l e (Item v) after form same = let r = value_reads v after form.0 form.1 in impossible (r.0, after) l (sym r.1 ∙ ap value_at (sym same) ∙ e)
item_wrong bytes l e f after form same = absurd form

items_break : (n : ℕ) (before : Option Value) (more : List Due) (bytes : List ℕ) (l : ℕ) → IsBytes bytes → items_at values_after before n bytes ≡ Err l → Breaks (replicate n ItemDue ++ more) bytes l
unfolding items_at
items_break zero before more bytes l fits e = absurd cc
items_break (suc n) before more bytes l fits e =
    elim (bind_err (value_at bytes) (λ first. items_at values_after (Some first.0) n first.1 >>= λ others. Ok (first.0 ∷ others.0, others.1)) l e) [
      | inl q ↦ breaks_here (ItemDue ∷ (replicate n ItemDue ++ more)) bytes l (item_wrong bytes l q) (value_err bytes l q)
      | inr a ↦
          let t = value_takes bytes a.0 fits a.1 in
          let here = one_field ItemDue (Item a.0.0) (replicate n ItemDue ++ more) bytes a.0.1 (t.1, value_text bytes a.0 a.1) t.0.parts in
          elim (bind_err (items_at values_after (Some a.0.0) n a.0.1) (λ others. Ok (a.0.0 ∷ others.0, others.1)) l a.2) [
            | inl q ↦ breaks_then here l (items_break n (Some a.0.0) more a.0.1 l t.0.rest_fits q)
            | inr b ↦ absurd (impossible (a.0.0 ∷ b.0.0, b.0.1) l b.2)
          ]
    ]

items_pass : (n : ℕ) (before : Option Value) (more : List Due) (bytes : List ℕ) (x : List Value × List ℕ) → IsBytes bytes → items_at values_after before n bytes ≡ Ok x → Passes (replicate n ItemDue ++ more) bytes more x.1
unfolding items_at
items_pass zero before more bytes x fits e = subst (λ (y : List Value × List ℕ). Passes more bytes more y.1) (ok_is ([], bytes) x e) (record { fields = []; leads = refl; split = refl })
items_pass (suc n) before more bytes x fits e =
    let a = bind_ok (value_at bytes) (λ first. items_at values_after (Some first.0) n first.1 >>= λ others. Ok (first.0 ∷ others.0, others.1)) x e in
    let b = bind_ok (items_at values_after (Some a.0.0) n a.0.1) (λ others. Ok (a.0.0 ∷ others.0, others.1)) x a.2 in
    let t = value_takes bytes a.0 fits a.1 in
    let here = one_field ItemDue (Item a.0.0) (replicate n ItemDue ++ more) bytes a.0.1 (t.1, value_text bytes a.0 a.1) t.0.parts in
    let rest = passes_then here more b.0.1 (items_pass n (Some a.0.0) more a.0.1 b.0 t.0.rest_fits b.1) in
    subst (λ (y : List Value × List ℕ). Passes (ItemDue ∷ (replicate n ItemDue ++ more)) bytes more y.1) (ok_is (a.0.0 ∷ b.0.0, b.0.1) x b.2) rest

count_wrong : (f : Field) (after : List ℕ) → HasForm CountDue f → [] ≡ field_bytes f ++ after → ⊥
count_wrong (Count n) after form same = cc
count_wrong f after form same = absurd form

values_break : (more : List Due) (bytes : List ℕ) (l : ℕ) → IsBytes bytes → values_at bytes ≡ Err l → Breaks (CountDue ∷ more) bytes l
unfolding values_at
values_break more [] l fits e = breaks_here (CountDue ∷ more) [] l count_wrong cc
values_break more (n ∷ rest) l fits e = breaks_then (one_field CountDue (Count n) more (n ∷ rest) rest (fits 0) refl) l (items_break n None more rest l (IsBytes-rest n rest fits) e)

values_pass : (more : List Due) (bytes : List ℕ) (x : List Value × List ℕ) → IsBytes bytes → values_at bytes ≡ Ok x → Passes (CountDue ∷ more) bytes more x.1
unfolding values_at
values_pass more [] x fits e = absurd cc
values_pass more (n ∷ rest) x fits e = passes_then (one_field CountDue (Count n) more (n ∷ rest) rest (fits 0) refl) more x.1 (items_pass n None more rest x (IsBytes-rest n rest fits) e)

pub key_break : (more : List Due) (bytes : List ℕ) (l : ℕ) → IsBytes bytes → key_at bytes ≡ Err l → Breaks (TableDue ∷ CountDue ∷ CountDue ∷ more) bytes l
unfolding key_at
key_break more bytes l fits e =
    elim (bind_err (table_at bytes) (λ t. values_at t.1 >>= λ p. values_at p.1 >>= λ c. Ok (record { table = t.0; partition = p.0; clustering = c.0 }, c.1)) l e) [
      | inl q ↦ table_breaks (CountDue ∷ CountDue ∷ more) bytes l q
      | inr a ↦
          let one = table_passes (CountDue ∷ CountDue ∷ more) bytes a.0 fits a.1 in
          let fits1 = (table_takes bytes a.0 fits a.1).rest_fits in
          elim (bind_err (values_at a.0.1) (λ p. values_at p.1 >>= λ c. Ok (record { table = a.0.0; partition = p.0; clustering = c.0 }, c.1)) l a.2) [
            | inl q ↦ breaks_then one l (values_break (CountDue ∷ more) a.0.1 l fits1 q)
            | inr b ↦
                let two = passes_then one (CountDue ∷ more) b.0.1 (values_pass (CountDue ∷ more) a.0.1 b.0 fits1 b.1) in
                let fits2 = (values_take a.0.1 b.0 fits1 b.1).0.rest_fits in
                elim (bind_err (values_at b.0.1) (λ c. Ok (record { table = a.0.0; partition = b.0.0; clustering = c.0 }, c.1)) l b.2) [
                  | inl q ↦ breaks_then two l (values_break more b.0.1 l fits2 q)
                  | inr c ↦ let made : Key × List ℕ = (record { table = a.0.0; partition = b.0.0; clustering = c.0.0 }, c.0.1) in absurd (impossible made l c.2)
                ]
          ]
    ]

pub key_pass : (more : List Due) (bytes : List ℕ) (x : Key × List ℕ) → IsBytes bytes → key_at bytes ≡ Ok x → Passes (TableDue ∷ CountDue ∷ CountDue ∷ more) bytes more x.1
unfolding key_at
key_pass more bytes x fits e =
    let a = bind_ok (table_at bytes) (λ t. values_at t.1 >>= λ p. values_at p.1 >>= λ c. Ok (record { table = t.0; partition = p.0; clustering = c.0 }, c.1)) x e in
    let b = bind_ok (values_at a.0.1) (λ p. values_at p.1 >>= λ c. Ok (record { table = a.0.0; partition = p.0; clustering = c.0 }, c.1)) x a.2 in
    let c = bind_ok (values_at b.0.1) (λ c. Ok (record { table = a.0.0; partition = b.0.0; clustering = c.0 }, c.1)) x b.2 in
    let fits1 = (table_takes bytes a.0 fits a.1).rest_fits in
    let fits2 = (values_take a.0.1 b.0 fits1 b.1).0.rest_fits in
    let one = table_passes (CountDue ∷ CountDue ∷ more) bytes a.0 fits a.1 in
    let two = passes_then one (CountDue ∷ more) b.0.1 (values_pass (CountDue ∷ more) a.0.1 b.0 fits1 b.1) in
    let three = passes_then two more c.0.1 (values_pass more b.0.1 c.0 fits2 c.1) in
    let made : Key × List ℕ = (record { table = a.0.0; partition = b.0.0; clustering = c.0.0 }, c.0.1) in
    subst (λ (y : Key × List ℕ). Passes (TableDue ∷ CountDue ∷ CountDue ∷ more) bytes more y.1) (ok_is made x c.2) three

---- fields of columns

abbrev name_before : Option Pair → Option (List ℕ)
name_before before = option_map (λ p. p.name) before

above_same : (before : Option Pair) (name : List ℕ) → is_above before name ≡ is_above_last (name_before before) name
above_same None name = refl
above_same (Some p) name = refl

column_name_again : (before : Option Pair) (name rest : List ℕ) → is_name name ≡ true → is_above before name ≡ true → column_name_at before (sized_bytes name ++ rest) ≡ Ok (name, rest)
unfolding column_name_at
column_name_again before name rest h k = let short : length name < 2 ^ 32 = omega (arith, name_length name h) in rw (sized_again (length (sized_bytes name ++ rest)) name rest short, h, k) refl

name_wrong : (before : Option Pair) (n : ℕ) (bytes : List ℕ) (l : ℕ) → column_name_at before bytes ≡ Err l → (f : Field) (after : List ℕ) → HasForm (NameDue (name_before before) n) f → bytes ≡ field_bytes f ++ after → ⊥
name_wrong before n bytes l e (Name name) after form same = impossible (name, after) l (sym (column_name_again before name after form.0 (above_same before name ∙ form.1)) ∙ ap (column_name_at before) (sym same) ∙ e)
name_wrong before n bytes l e f after form same = absurd form

column_name_named : (before : Option Pair) (bytes : List ℕ) (x : List ℕ × List ℕ) → column_name_at before bytes ≡ Ok x → is_name x.0 ≡ true
unfolding column_name_at
column_name_named before bytes x e =
    let left : ℕ = length bytes in
    let a = bind_ok (sized_at left bytes) (λ text. name_of left text.0 >>= λ name. cond (is_above before name) (Ok (name, text.1)) (Err left)) x e in
    let b = bind_ok (name_of left a.0.0) (λ name. cond (is_above before name) (Ok (name, a.0.1)) (Err left)) x a.2 in
    let ok = passed_ok (is_name a.0.0) left a.0.0 b.0 b.1 in
    let above = passed_ok (is_above before b.0) left (b.0, a.0.1) x b.2 in
    let named : List ℕ → Type 0 = λ t. is_name t ≡ true in
    subst (λ (y : List ℕ × List ℕ). is_name y.0 ≡ true) above.1 (subst named ok.1 ok.0)

name_passes : (before : Option Pair) (n : ℕ) (more : List Due) (bytes : List ℕ) (x : List ℕ × List ℕ) → IsBytes bytes → column_name_at before bytes ≡ Ok x → Passes (NameDue (name_before before) n ∷ more) bytes (CellDue ∷ (columns_due (Some x.0) n ++ more)) x.1
name_passes before n more bytes x fits e =
    let t = column_name_takes before bytes x fits e in
    one_field (NameDue (name_before before) n) (Name x.0) more bytes x.1 (column_name_named before bytes x e, sym (above_same before x.0) ∙ t.1) t.0.parts

cell_wrong : (bytes : List ℕ) (l : ℕ) → column_value_at bytes ≡ Err l → (f : Field) (after : List ℕ) → HasForm CellDue f → bytes ≡ field_bytes f ++ after → ⊥
unfolding column_value_at
cell_wrong bytes l e (Item v) after form same =
    let r = value_reads v after form.1 form.2 in
    let read : value_at bytes ≡ Ok (r.0, after) = ap value_at same ∙ r.1 in
    let full : is_null r.0 ≡ false = r.2 ∙ form.0 in
    let read_full : column_value_at bytes ≡ Ok (r.0, after) = rw (read, full) refl in
    impossible (r.0, after) l (sym read_full ∙ e)
cell_wrong bytes l e f after form same = absurd form

cell_passes : (more : List Due) (bytes : List ℕ) (x : Value × List ℕ) → IsBytes bytes → column_value_at bytes ≡ Ok x → Passes (CellDue ∷ more) bytes more x.1
unfolding column_value_at
cell_passes more bytes x fits e =
    let t = column_value_takes bytes x fits e in
    let a = bind_ok (value_at bytes) (λ v. cond (is_null v.0) (Err (length bytes)) (Ok v)) x e in
    let full = guard_ok (is_null a.0.0) (length bytes) a.0 x a.2 in
    let text : Value × List ℕ → Type 0 = λ y. IsText y.0 in
    one_field CellDue (Item x.0) more bytes x.1 (t.1, t.0.1, subst text full.1 (value_text bytes a.0 a.1)) t.0.0.parts

pair_break : (before : Option Pair) (n : ℕ) (more : List Due) (bytes : List ℕ) (l : ℕ) → IsBytes bytes → pair_at before bytes ≡ Err l → Breaks (NameDue (name_before before) n ∷ more) bytes l
unfolding pair_at
pair_break before n more bytes l fits e =
    elim (bind_err (column_name_at before bytes) (λ name. column_value_at name.1 >>= λ v. Ok (record { name = name.0; value = v.0 }, v.1)) l e) [
      | inl q ↦ breaks_here (NameDue (name_before before) n ∷ more) bytes l (name_wrong before n bytes l q) (column_name_err before bytes l q)
      | inr a ↦
          let here = name_passes before n more bytes a.0 fits a.1 in
          elim (bind_err (column_value_at a.0.1) (λ v. Ok (record { name = a.0.0; value = v.0 }, v.1)) l a.2) [
            | inl q ↦ breaks_then here l (breaks_here (CellDue ∷ (columns_due (Some a.0.0) n ++ more)) a.0.1 l (cell_wrong a.0.1 l q) (column_value_err a.0.1 l q))
            | inr b ↦ let made : Pair × List ℕ = (record { name = a.0.0; value = b.0.0 }, b.0.1) in absurd (impossible made l b.2)
          ]
    ]

-- a column that was read, with the bytes after it
pub record PairPasses (due : List Due) (more : Option Pair → List Due) (bytes : List ℕ) (x : Pair × List ℕ) : Type 0 where
  pub passes : Passes due bytes (more (Some x.0)) x.1
  pub rest_fits : IsBytes x.1

pair_pass : (before : Option Pair) (n : ℕ) (more : List Due) (bytes : List ℕ) (x : Pair × List ℕ) → IsBytes bytes → pair_at before bytes ≡ Ok x
    → PairPasses (NameDue (name_before before) n ∷ more) (λ p. columns_due (name_before p) n ++ more) bytes x
unfolding pair_at
pair_pass before n more bytes x fits e =
    let a = bind_ok (column_name_at before bytes) (λ name. column_value_at name.1 >>= λ v. Ok (record { name = name.0; value = v.0 }, v.1)) x e in
    let b = bind_ok (column_value_at a.0.1) (λ v. Ok (record { name = a.0.0; value = v.0 }, v.1)) x a.2 in
    let fits1 = (column_name_takes before bytes a.0 fits a.1).0.rest_fits in
    let both = passes_then (name_passes before n more bytes a.0 fits a.1) (columns_due (Some a.0.0) n ++ more) b.0.1 (cell_passes (columns_due (Some a.0.0) n ++ more) a.0.1 b.0 fits1 b.1) in
    let made : Pair × List ℕ = (record { name = a.0.0; value = b.0.0 }, b.0.1) in
    subst (PairPasses (NameDue (name_before before) n ∷ more) (λ p. columns_due (name_before p) n ++ more) bytes) (ok_is made x b.2) (record { passes = both; rest_fits = (column_value_takes a.0.1 b.0 fits1 b.1).0.0.rest_fits })

pairs_break : (n : ℕ) (before : Option Pair) (more : List Due) (bytes : List ℕ) (l : ℕ) → IsBytes bytes → items_at pair_at before n bytes ≡ Err l → Breaks (columns_due (name_before before) n ++ more) bytes l
unfolding items_at
pairs_break zero before more bytes l fits e = absurd cc
pairs_break (suc n) before more bytes l fits e =
    elim (bind_err (pair_at before bytes) (λ first. items_at pair_at (Some first.0) n first.1 >>= λ others. Ok (first.0 ∷ others.0, others.1)) l e) [
      | inl q ↦ pair_break before n more bytes l fits q
      | inr a ↦
          let here = pair_pass before n more bytes a.0 fits a.1 in
          elim (bind_err (items_at pair_at (Some a.0.0) n a.0.1) (λ others. Ok (a.0.0 ∷ others.0, others.1)) l a.2) [
            | inl q ↦ breaks_then here.passes l (pairs_break n (Some a.0.0) more a.0.1 l here.rest_fits q)
            | inr b ↦ absurd (impossible (a.0.0 ∷ b.0.0, b.0.1) l b.2)
          ]
    ]

pairs_pass : (n : ℕ) (before : Option Pair) (more : List Due) (bytes : List ℕ) (x : List Pair × List ℕ) → IsBytes bytes → items_at pair_at before n bytes ≡ Ok x → Passes (columns_due (name_before before) n ++ more) bytes more x.1
unfolding items_at
pairs_pass zero before more bytes x fits e = subst (λ (y : List Pair × List ℕ). Passes more bytes more y.1) (ok_is ([], bytes) x e) (record { fields = []; leads = refl; split = refl })
pairs_pass (suc n) before more bytes x fits e =
    let a = bind_ok (pair_at before bytes) (λ first. items_at pair_at (Some first.0) n first.1 >>= λ others. Ok (first.0 ∷ others.0, others.1)) x e in
    let b = bind_ok (items_at pair_at (Some a.0.0) n a.0.1) (λ others. Ok (a.0.0 ∷ others.0, others.1)) x a.2 in
    let here = pair_pass before n more bytes a.0 fits a.1 in
    let rest = passes_then here.passes more b.0.1 (pairs_pass n (Some a.0.0) more a.0.1 b.0 here.rest_fits b.1) in
    subst (λ (y : List Pair × List ℕ). Passes (NameDue (name_before before) n ∷ more) bytes more y.1) (ok_is (a.0.0 ∷ b.0.0, b.0.1) x b.2) rest

column_count_wrong : (bytes : List ℕ) (l : ℕ) → number_at w16 (length bytes) bytes ≡ Err l → (f : Field) (after : List ℕ) → HasForm ColumnCountDue f → bytes ≡ field_bytes f ++ after → ⊥
column_count_wrong bytes l e (ColumnCount n) after form same =
    impossible (n, after) l (sym (number_again w16 (2 ^ 16) wide16 (length bytes) n after form) ∙ ap (number_at w16 (length bytes)) (sym same) ∙ e)
column_count_wrong bytes l e f after form same = absurd form

columns_break : (more : List Due) (bytes : List ℕ) (l : ℕ) → IsBytes bytes → columns_at bytes ≡ Err l → Breaks (ColumnCountDue ∷ more) bytes l
unfolding columns_at
columns_break more bytes l fits e =
    elim (bind_err (number_at w16 (length bytes) bytes) (λ n. items_at pair_at None n.0 n.1) l e) [
      | inl q ↦ breaks_here (ColumnCountDue ∷ more) bytes l (column_count_wrong bytes l q) (number_err w16 (length bytes) bytes l q)
      | inr a ↦
          let t = number_takes w16 (2 ^ 16) wide16 (length bytes) bytes a.0 fits a.1 in
          breaks_then (one_field ColumnCountDue (ColumnCount a.0.0) more bytes a.0.1 t.1 t.0.parts) l (pairs_break a.0.0 None more a.0.1 l t.0.rest_fits a.2)
    ]

columns_pass : (more : List Due) (bytes : List ℕ) (x : List Pair × List ℕ) → IsBytes bytes → columns_at bytes ≡ Ok x → Passes (ColumnCountDue ∷ more) bytes more x.1
unfolding columns_at
columns_pass more bytes x fits e =
    let a = bind_ok (number_at w16 (length bytes) bytes) (λ n. items_at pair_at None n.0 n.1) x e in
    let t = number_takes w16 (2 ^ 16) wide16 (length bytes) bytes a.0 fits a.1 in
    passes_then (one_field ColumnCountDue (ColumnCount a.0.0) more bytes a.0.1 t.1 t.0.parts) more x.1 (pairs_pass a.0.0 None more a.0.1 x t.0.rest_fits a.2)

---- records

format_wrong : (bytes : List ℕ) (l : ℕ) → format_at bytes ≡ Err l → (f : Field) (after : List ℕ) → HasForm FormatDue f → bytes ≡ field_bytes f ++ after → ⊥
format_wrong bytes l e Format after form same = impossible after l (sym (ap format_at same) ∙ e)
format_wrong bytes l e f after form same = absurd form

format_err : (bytes : List ℕ) (l : ℕ) → format_at bytes ≡ Err l → length bytes ≡ l
format_err [] l e = cc
format_err (n ∷ rest) l e = passed_err (n == 1) (length (n ∷ rest)) rest l e

pub record_break : (bytes : List ℕ) (l : ℕ) → IsBytes bytes → record_at bytes ≡ Err l → Breaks record_due bytes l
unfolding record_at
record_break bytes l fits e =
    let due : List Due = TableDue ∷ CountDue ∷ CountDue ∷ ColumnCountDue ∷ [] in
    elim (bind_err (format_at bytes) (λ rest. key_at rest >>= λ key. columns_at key.1 >>= λ columns. Ok (record { key = key.0; columns = columns.0 }, columns.1)) l e) [
      | inl q ↦ breaks_here record_due bytes l (format_wrong bytes l q) (format_err bytes l q)
      | inr a ↦
          let front = format_takes bytes a.0 a.1 in
          let fits1 : IsBytes a.0 = IsBytes-rest 1 a.0 (subst IsBytes front fits) in
          let one = one_field FormatDue Format due bytes a.0 tt front in
          elim (bind_err (key_at a.0) (λ key. columns_at key.1 >>= λ columns. Ok (record { key = key.0; columns = columns.0 }, columns.1)) l a.2) [
            | inl q ↦ breaks_then one l (key_break (ColumnCountDue ∷ []) a.0 l fits1 q)
            | inr b ↦
                let two = passes_then one (ColumnCountDue ∷ []) b.0.1 (key_pass (ColumnCountDue ∷ []) a.0 b.0 fits1 b.1) in
                let fits2 = (key_takes a.0 b.0 fits1 b.1).0.rest_fits in
                elim (bind_err (columns_at b.0.1) (λ columns. Ok (record { key = b.0.0; columns = columns.0 }, columns.1)) l b.2) [
                  | inl q ↦ breaks_then two l (columns_break [] b.0.1 l fits2 q)
                  | inr c ↦ let made : Record × List ℕ = (record { key = b.0.0; columns = c.0.0 }, c.0.1) in absurd (impossible made l c.2)
                ]
          ]
    ]

pub record_pass : (bytes : List ℕ) (x : Record × List ℕ) → IsBytes bytes → record_at bytes ≡ Ok x → Passes record_due bytes [] x.1
unfolding record_at
record_pass bytes x fits e =
    let due : List Due = TableDue ∷ CountDue ∷ CountDue ∷ ColumnCountDue ∷ [] in
    let a = bind_ok (format_at bytes) (λ rest. key_at rest >>= λ key. columns_at key.1 >>= λ columns. Ok (record { key = key.0; columns = columns.0 }, columns.1)) x e in
    let b = bind_ok (key_at a.0) (λ key. columns_at key.1 >>= λ columns. Ok (record { key = key.0; columns = columns.0 }, columns.1)) x a.2 in
    let c = bind_ok (columns_at b.0.1) (λ columns. Ok (record { key = b.0.0; columns = columns.0 }, columns.1)) x b.2 in
    let front = format_takes bytes a.0 a.1 in
    let fits1 : IsBytes a.0 = IsBytes-rest 1 a.0 (subst IsBytes front fits) in
    let fits2 = (key_takes a.0 b.0 fits1 b.1).0.rest_fits in
    let one = one_field FormatDue Format due bytes a.0 tt front in
    let two = passes_then one (ColumnCountDue ∷ []) b.0.1 (key_pass (ColumnCountDue ∷ []) a.0 b.0 fits1 b.1) in
    let three = passes_then two [] c.0.1 (columns_pass [] b.0.1 c.0 fits2 c.1) in
    let made : Record × List ℕ = (record { key = b.0.0; columns = c.0.0 }, c.0.1) in
    subst (λ (y : Record × List ℕ). Passes record_due bytes [] y.1) (ok_is made x c.2) three

---- the whole

from_left : (due : List Due) (bytes : List ℕ) (left place : ℕ) → length bytes - left ≡ place → Breaks due bytes left → IsFirstWrong due bytes place
from_left due bytes left place e b =
    let whole_length = ap length b.split in
    let parts_length = length-append (flat_map field_bytes b.fields) b.rest in
    let rest_length = b.here in
    record { fields = b.fields; after = b.after; rest = b.rest; leads = b.leads; split = b.split; here = omega (arith, whole_length, parts_length, rest_length, e); wrong = b.wrong }

module _ {X : Type 0} (due : List Due) (bytes : List ℕ) (read : Result (X × List ℕ) ℕ)
    (breaks : (l : ℕ) → read ≡ Err l → Breaks due bytes l) (passes : (x : X × List ℕ) → read ≡ Ok x → Passes due bytes [] x.1) where
  whole_break : (l : ℕ) → whole read ≡ Err l → Breaks due bytes l
  whole_break l e =
      elim (bind_err read (λ x. cond (eqb (length x.1) 0) (Ok x.0) (Err (length x.1))) l e) [
        | inl q ↦ breaks l q
        | inr a ↦
            let here : length a.0.1 ≡ l = passed_err (eqb (length a.0.1) 0) (length a.0.1) a.0.0 l a.2 in
            let more : a.0.1 ≢ [] = λ none. impossible a.0.0 l (sym (ap (λ (rest : List ℕ). cond (eqb (length rest) 0) (Ok a.0.0) (Err (length rest))) none) ∙ a.2) in
            breaks_then (passes a.0 a.1) l (breaks_here [] a.0.1 l more here)
      ]

  placed : (w : Result X ℕ) → whole read ≡ w → (place : ℕ) → from_front (length bytes) w ≡ Err place → IsFirstWrong due bytes place
  placed (Ok x) e place h = absurd (impossible x place h)
  placed (Err left) e place h = let here : length bytes - left ≡ place = cc in from_left due bytes left place here (whole_break left e)

  pub refused_at : (r : Result X ReadRefused) → Reads r (from_front (length bytes) (whole read)) → IfErr r (IsRefusedAt due bytes)
  refused_at (Ok x) h = tt
  refused_at (Err refused.NoMemory) h = tt
  refused_at (Err (refused.BadBytes place)) h = placed (whole read) refl place h

pub record_refused : (bytes : List ℕ) (r : Result Record ReadRefused) → IsBytes bytes → Reads r (record_in bytes) → IfErr r (IsRefusedAt record_due bytes)
record_refused bytes r fits h = refused_at record_due bytes (record_at bytes) (λ l e. record_break bytes l fits e) (λ x e. record_pass bytes x fits e) r h

pub key_refused : (bytes : List ℕ) (r : Result Key ReadRefused) → IsBytes bytes → Reads r (key_in bytes) → IfErr r (IsRefusedAt key_due bytes)
key_refused bytes r fits h = refused_at key_due bytes (key_at bytes) (λ l e. key_break [] bytes l fits e) (λ x e. key_pass [] bytes x fits e) r h

---- one place

-- two fields of the form that is due, at the start of the same bytes
field_same : (d : Due) (f g : Field) (r s : List ℕ) → HasForm d f → HasForm d g → field_bytes f ++ r ≡ field_bytes g ++ s → (due_after d f ≡ due_after d g) × (r ≡ s)
field_same FormatDue Format Format r s p q e = (refl, cc)
field_same TableDue (Table t) (Table u) r s p q e =
    let both = sym (table_again t r p.0 p.1) ∙ ap table_at e ∙ table_again u s q.0 q.1 in
    (refl, ap (λ (x : TableName × List ℕ). x.1) (ok_is (t, r) (u, s) both))
field_same CountDue (Count n) (Count m) r s p q e = let same : n ≡ m = cc in (ap (λ (k : ℕ). replicate k ItemDue) same, cc)
field_same ItemDue (Item v) (Item w) r s p q e =
    let a = value_reads v r p.0 p.1 in
    let b = value_reads w s q.0 q.1 in
    (refl, ap (λ (x : Value × List ℕ). x.1) (ok_is (a.0, r) (b.0, s) (sym a.1 ∙ ap value_at e ∙ b.1)))
field_same ColumnCountDue (ColumnCount n) (ColumnCount m) r s p q e =
    let both = ok_is (n, r) (m, s) (sym (number_again w16 (2 ^ 16) wide16 0 n r p) ∙ ap (number_at w16 0) e ∙ number_again w16 (2 ^ 16) wide16 0 m s q) in
    (ap (λ (x : ℕ × List ℕ). columns_due None x.0) both, ap (λ (x : ℕ × List ℕ). x.1) both)
field_same (NameDue before more) (Name a) (Name b) r s p q e =
    let short : length a < 2 ^ 32 = omega (arith, name_length a p.0) in
    let also : length b < 2 ^ 32 = omega (arith, name_length b q.0) in
    let both = ok_is (a, r) (b, s) (sym (sized_again 0 a r short) ∙ ap (sized_at 0) e ∙ sized_again 0 b s also) in
    (ap (λ (x : List ℕ × List ℕ). CellDue ∷ columns_due (Some x.0) more) both, ap (λ (x : List ℕ × List ℕ). x.1) both)
field_same CellDue (Item v) (Item w) r s p q e =
    let a = value_reads v r p.1 p.2 in
    let b = value_reads w s q.1 q.2 in
    (refl, ap (λ (x : Value × List ℕ). x.1) (ok_is (a.0, r) (b.0, s) (sym a.1 ∙ ap value_at e ∙ b.1)))
field_same d f g r s p q e = absurd assumption

front_of : (f : Field) (fs : List Field) (r : List ℕ) → flat_map field_bytes (f ∷ fs) ++ r ≡ field_bytes f ++ (flat_map field_bytes fs ++ r)
front_of f fs r = ap (λ (t : List ℕ). t ++ r) (flat_map-cons field_bytes f fs) ∙ append_assoc (field_bytes f) (flat_map field_bytes fs) r

same_place : (due : List Due) (fs gs : List Field) (b c : List Due) (r s : List ℕ) → Leads due fs b → Leads due gs c → flat_map field_bytes fs ++ r ≡ flat_map field_bytes gs ++ s → IsWrong b r → IsWrong c s
    → length (flat_map field_bytes fs) ≡ length (flat_map field_bytes gs)
same_place due [] [] b c r s p q e w v = refl
same_place [] [] (g ∷ gs) b c r s p q e w v = absurd q
same_place (d ∷ due) [] (g ∷ gs) b c r s p q e w v =
    let wrong : IsWrong (d ∷ due) r = subst (λ (x : List Due). IsWrong x r) (sym p) w in
    absurd (wrong g (flat_map field_bytes gs ++ s) q.0 (e ∙ front_of g gs s))
same_place [] (f ∷ fs) gs b c r s p q e w v = absurd p
same_place (d ∷ due) (f ∷ fs) [] b c r s p q e w v =
    let wrong : IsWrong (d ∷ due) s = subst (λ (x : List Due). IsWrong x s) (sym q) v in
    absurd (wrong f (flat_map field_bytes fs ++ r) p.0 (sym e ∙ front_of f fs r))
same_place (d ∷ due) (f ∷ fs) (g ∷ gs) b c r s p q e w v =
    let parts = sym (front_of f fs r) ∙ e ∙ front_of g gs s in
    let same = field_same d f g (flat_map field_bytes fs ++ r) (flat_map field_bytes gs ++ s) p.0 q.0 parts in
    let led : Leads (due_after d f ++ due) gs c = subst (λ (x : List Due). Leads (x ++ due) gs c) (sym same.0) q.1 in
    let rest = same_place (due_after d f ++ due) fs gs b c r s p.1 led same.1 w v in
    let all : length (field_bytes f ++ (flat_map field_bytes fs ++ r)) ≡ length (field_bytes g ++ (flat_map field_bytes gs ++ s)) = ap length parts in
    let tails : length (flat_map field_bytes fs ++ r) ≡ length (flat_map field_bytes gs ++ s) = ap length same.1 in
    let first = length-append (field_bytes f) (flat_map field_bytes fs ++ r) in
    let second = length-append (field_bytes g) (flat_map field_bytes gs ++ s) in
    let one = ap length (flat_map-cons field_bytes f fs) ∙ length-append (field_bytes f) (flat_map field_bytes fs) in
    let two = ap length (flat_map-cons field_bytes g gs) ∙ length-append (field_bytes g) (flat_map field_bytes gs) in
    omega (arith, rest, all, tails, first, second, one, two)

-- the first wrong place is one
pub one_place : (due : List Due) (bytes : List ℕ) (p q : ℕ) → IsFirstWrong due bytes p → IsFirstWrong due bytes q → p ≡ q
one_place due bytes p q a b = sym a.here ∙ same_place due a.fields b.fields a.after b.after a.rest b.rest a.leads b.leads (sym a.split ∙ b.split) a.wrong b.wrong ∙ b.here
