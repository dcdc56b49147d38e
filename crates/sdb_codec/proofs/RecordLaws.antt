-- Keys, columns and records: what is read is what was written, and what was written is read again.
use Rattle.std.proofs.Common.{◌≡◌, ℕ, suc, ◌<◌, ◌≤◌, ◌^◌, true, false, not, cond, ◌==◌, eqb, List, [], ◌∷◌, ◌++◌, length, All, Option, Some, None, option_map, Result, Ok, Err, IfOk, refl, sym, ap, subst, ◌∙◌, append_assoc, arith, flat_map}
use Rattle.std.specs.List.{list_all}
use Rattle.std.specs.Int.{w16, to_be_bytes}
use Rattle.std.proofs.lemmas.Bool.{eqb-true}
use Rattle.std.proofs.lemmas.Bool.Decides.{nat_tests}
use Rattle.std.proofs.lemmas.List.{append-nil, nil_from_length, length-append}
use Rattle.std.proofs.lemmas.List.Elements.{All-from_recursion}
use Rattle.sdb_codec.specs.Types.{Key, Pair, Record, TableName, Value}
use Rattle.sdb_types.specs.Identifier.{is_part, is_identifier, is_name}
use Rattle.sdb_types.specs.Order.{table_text}
use Rattle.sdb_types.specs.Columns.{is_null, starts_above, are_columns}
use Rattle.sdb_types.specs.Fits.{pair_fits, key_fits, columns_fit, record_fits}
use Rattle.sdb_types.proofs.Public.{and_both, and_first, and_second, onto, parts, tail_above, tail_columns}
use Rattle.sdb_codec.specs.declared.refused.ReadRefused.{ReadRefused}
use Rattle.sdb_codec.specs.Spelling.{sized_bytes, value_bytes, values_bytes, key_bytes, pair_bytes, columns_bytes, record_bytes, ValueIsEncodable, KeyIsEncodable, ColumnsAreEncodable, RecordIsEncodable}
use Rattle.sdb_codec.specs.Reading.{◌>>=◌, number_at, sized_at, value_at, values_at, name_of, dot_split, names_of, table_at, key_at, is_above, column_name_at, column_value_at, pair_at, items_at, columns_at, format_at, record_at, whole, from_front, record_in, key_in, Reads}
use Rattle.sdb_codec.proofs.FieldLaws.{IsBytes, IsBytes-rest, bind_ok, guard_ok, passed_ok, ok_is, Takes, Takes-then, Takes-after, TakesValue, wide16, number_takes, number_again, sized_takes, sized_again, value_takes, value_again}
use Rattle.sdb_codec.proofs.ItemLaws.{Chain, Chain-all, items_take, items_again, values_take, values_again}

---- tables

abbrev some : {A : Type 0} → A → Option A
some x = Some x

some_is : {A : Type 0} (x y : A) → some x ≡ some y → x ≡ y
some_is x y e = cc

abbrev Joined : List ℕ → List ℕ × List ℕ → Type 0
Joined text p = text ≡ p.0 ++ 46 ∷ p.1

onward : (c : ℕ) (cs : List ℕ) (o : Option (List ℕ × List ℕ)) (p : List ℕ × List ℕ) → ((q : List ℕ × List ℕ) → o ≡ Some q → Joined cs q) → option_map (onto c) o ≡ Some p → Joined (c ∷ cs) p
onward c cs None p each e = absurd cc
onward c cs (Some q) p each e = subst (Joined (c ∷ cs)) (some_is (onto c q) p e) (ap (λ (t : List ℕ). c ∷ t) (each q refl))

-- the parts round the first dot, joined
dot_joined : (text : List ℕ) (p : List ℕ × List ℕ) → dot_split text ≡ Some p → Joined text p
dot_joined [] p h = absurd cc
dot_joined (c ∷ cs) p h =
    elim (c == 46) as (λ b. (c == 46) ≡ b → cond {A = Option (List ℕ × List ℕ)} b (Some ([], cs)) (option_map (onto c) (dot_split cs)) ≡ Some p → Joined (c ∷ cs) p) [
      | true ↦ λ t e. subst (Joined (c ∷ cs)) (some_is ([], cs) p e) (ap (λ (x : ℕ). x ∷ cs) (eqb-true c 46 t))
      | false ↦ λ t e. onward c cs (dot_split cs) p (dot_joined cs) e
    ] refl h

no_dot : (c : ℕ) → is_part c ≡ true → (c == 46) ≡ false
no_dot c h = grind (arith, nat_tests)

dot_again : (xs ys : List ℕ) → list_all is_part xs ≡ true → dot_split (xs ++ 46 ∷ ys) ≡ Some (xs, ys)
dot_again [] ys h = refl
dot_again (x ∷ xs) ys h = rw (no_dot x (and_first (is_part x) _ h), dot_again xs ys (and_second (is_part x) _ h)) refl

pub name_length : (name : List ℕ) → is_name name ≡ true → length name ≤ 71
name_length name h = let short = and_first _ (is_identifier name) h in grind (arith, nat_tests)

pub names_taken : (left : ℕ) (text : List ℕ) (t : TableName) → names_of left (dot_split text) ≡ Ok t → text ≡ table_text t
names_taken left text t h =
    elim (dot_split text) as (λ o. dot_split text ≡ o → names_of left o ≡ Ok t → text ≡ table_text t) [
      | None ↦ λ q e. absurd cc
      | Some p ↦ λ q e.
          let a = bind_ok (name_of left p.0) (λ ns. name_of left p.1 >>= λ table. Ok (record { ns = ns; table = table })) t e in
          let b = bind_ok (name_of left p.1) (λ table. Ok (record { ns = a.0; table = table })) t a.2 in
          let ns = passed_ok (is_name p.0) left p.0 a.0 a.1 in
          let table = passed_ok (is_name p.1) left p.1 b.0 b.1 in
          subst (λ (u : TableName). text ≡ table_text u) (ok_is (record { ns = a.0; table = b.0 }) t b.2) (dot_joined text p q ∙ λ i. ns.1 i ++ 46 ∷ table.1 i)
    ] refl h

pub table_takes : (bytes : List ℕ) (x : TableName × List ℕ) → IsBytes bytes → table_at bytes ≡ Ok x → Takes bytes (sized_bytes (table_text x.0)) x.1
unfolding table_at
table_takes bytes x fits e =
    let left : ℕ = length bytes in
    let a = bind_ok (sized_at left bytes) (λ text. names_of left (dot_split text.0) >>= λ table. Ok (table, text.1)) x e in
    let b = bind_ok (names_of left (dot_split a.0.0)) (λ table. Ok (table, a.0.1)) x a.2 in
    let t = sized_takes left bytes a.0 fits a.1 in
    let named = names_taken left a.0.0 b.0 b.1 in
    subst (λ (y : TableName × List ℕ). Takes bytes (sized_bytes (table_text y.0)) y.1) (ok_is (b.0, a.0.1) x b.2) (subst (λ (s : List ℕ). Takes bytes (sized_bytes s) a.0.1) named t.0)

pub table_again : (t : TableName) (rest : List ℕ) → is_name t.ns ≡ true → is_name t.table ≡ true → table_at (sized_bytes (table_text t) ++ rest) ≡ Ok (t, rest)
unfolding table_at
table_again t rest ns table =
    let short : length (table_text t) < 2 ^ 32 = omega (arith, length-append t.ns (46 ∷ t.table), name_length t.ns ns, name_length t.table table) in
    let split = dot_again t.ns t.table (parts t.ns ns) in
    rw (sized_again (length (sized_bytes (table_text t) ++ rest)) (table_text t) rest short, split, ns, table) refl

---- keys

regroup : (s p c rest : List ℕ) → ((s ++ p) ++ c) ++ rest ≡ s ++ (p ++ (c ++ rest))
regroup s p c rest = simp append_assoc

abbrev pub TakesKey : List ℕ → Key × List ℕ → Type 0
TakesKey bytes x = Takes bytes (key_bytes x.0) x.1 × KeyIsEncodable x.0

pub key_takes : (bytes : List ℕ) (x : Key × List ℕ) → IsBytes bytes → key_at bytes ≡ Ok x → TakesKey bytes x
unfolding key_at
key_takes bytes x fits e =
    let a = bind_ok (table_at bytes) (λ t. values_at t.1 >>= λ p. values_at p.1 >>= λ c. Ok (record { table = t.0; partition = p.0; clustering = c.0 }, c.1)) x e in
    let b = bind_ok (values_at a.0.1) (λ p. values_at p.1 >>= λ c. Ok (record { table = a.0.0; partition = p.0; clustering = c.0 }, c.1)) x a.2 in
    let c = bind_ok (values_at b.0.1) (λ c. Ok (record { table = a.0.0; partition = b.0.0; clustering = c.0 }, c.1)) x b.2 in
    let t0 = table_takes bytes a.0 fits a.1 in
    let t1 = values_take a.0.1 b.0 t0.rest_fits b.1 in
    let t2 = values_take b.0.1 c.0 t1.0.rest_fits c.1 in
    let front = Takes-then bytes (sized_bytes (table_text a.0.0)) a.0.1 (values_bytes b.0.0) b.0.1 t0 t1.0 in
    let all = Takes-then bytes (sized_bytes (table_text a.0.0) ++ values_bytes b.0.0) b.0.1 (values_bytes c.0.0) c.0.1 front t2.0 in
    let made : Key × List ℕ = (record { table = a.0.0; partition = b.0.0; clustering = c.0.0 }, c.0.1) in
    subst (TakesKey bytes) (ok_is made x c.2) (all, record { partition = t1.1; clustering = t2.1 })

pub key_again : (k : Key) (rest : List ℕ) → key_fits k → KeyIsEncodable k → key_at (key_bytes k ++ rest) ≡ Ok (k, rest)
unfolding key_at
key_again k rest known fits =
    let table : List ℕ = sized_bytes (table_text k.table) in
    let last : List ℕ = values_bytes k.clustering ++ rest in
    let one = table_again k.table (values_bytes k.partition ++ last) known.ns known.table in
    let two = values_again k.partition last known.partition fits.partition in
    let three = values_again k.clustering rest known.clustering fits.clustering in
    ap key_at (regroup table (values_bytes k.partition) (values_bytes k.clustering) rest) ∙ rw (one, two, three) refl

---- columns

-- a column that may follow the one before
abbrev Follows : Option Pair → Pair → Type 0
Follows before p = (is_above before p.name ≡ true) × (is_null p.value ≡ false) × ValueIsEncodable p.value

abbrev TakesPair : Option Pair → List ℕ → Pair × List ℕ → Type 0
TakesPair before bytes x = Takes bytes (pair_bytes x.0) x.1 × Follows before x.0

pub column_name_takes : (before : Option Pair) (bytes : List ℕ) (x : List ℕ × List ℕ) → IsBytes bytes → column_name_at before bytes ≡ Ok x → Takes bytes (sized_bytes x.0) x.1 × (is_above before x.0 ≡ true)
unfolding column_name_at
column_name_takes before bytes x fits e =
    let left : ℕ = length bytes in
    let a = bind_ok (sized_at left bytes) (λ text. name_of left text.0 >>= λ name. cond (is_above before name) (Ok (name, text.1)) (Err left)) x e in
    let b = bind_ok (name_of left a.0.0) (λ name. cond (is_above before name) (Ok (name, a.0.1)) (Err left)) x a.2 in
    let named = passed_ok (is_name a.0.0) left a.0.0 b.0 b.1 in
    let above = passed_ok (is_above before b.0) left (b.0, a.0.1) x b.2 in
    let t = sized_takes left bytes a.0 fits a.1 in
    subst (λ (y : List ℕ × List ℕ). Takes bytes (sized_bytes y.0) y.1 × (is_above before y.0 ≡ true)) above.1 (subst (λ (s : List ℕ). Takes bytes (sized_bytes s) a.0.1) named.1 t.0, above.0)

pub column_value_takes : (bytes : List ℕ) (x : Value × List ℕ) → IsBytes bytes → column_value_at bytes ≡ Ok x → TakesValue bytes x × (is_null x.0 ≡ false)
unfolding column_value_at
column_value_takes bytes x fits e =
    let a = bind_ok (value_at bytes) (λ v. cond (is_null v.0) (Err (length bytes)) (Ok v)) x e in
    let full = guard_ok (is_null a.0.0) (length bytes) a.0 x a.2 in
    subst (λ (y : Value × List ℕ). TakesValue bytes y × (is_null y.0 ≡ false)) full.1 (value_takes bytes a.0 fits a.1, full.0)

pair_takes : (before : Option Pair) (bytes : List ℕ) (x : Pair × List ℕ) → IsBytes bytes → pair_at before bytes ≡ Ok x → TakesPair before bytes x
unfolding pair_at
pair_takes before bytes x fits e =
    let a = bind_ok (column_name_at before bytes) (λ name. column_value_at name.1 >>= λ v. Ok (record { name = name.0; value = v.0 }, v.1)) x e in
    let b = bind_ok (column_value_at a.0.1) (λ v. Ok (record { name = a.0.0; value = v.0 }, v.1)) x a.2 in
    let first = column_name_takes before bytes a.0 fits a.1 in
    let second = column_value_takes a.0.1 b.0 first.0.rest_fits b.1 in
    let both = Takes-then bytes (sized_bytes a.0.0) a.0.1 (value_bytes b.0.0) b.0.1 first.0 second.0.0 in
    let made : Pair × List ℕ = (record { name = a.0.0; value = b.0.0 }, b.0.1) in
    subst (TakesPair before bytes) (ok_is made x b.2) (both, (first.1, second.1, second.0.1))

-- a column that is read again
abbrev Readable : Option Pair → Pair → Type 0
Readable before p = pair_fits p × Follows before p

pair_again : (before : Option Pair) (p : Pair) (rest : List ℕ) → Readable before p → pair_at before (pair_bytes p ++ rest) ≡ Ok (p, rest)
unfolding pair_at column_name_at column_value_at
pair_again before p rest h =
    let after : List ℕ = value_bytes p.value ++ rest in
    let short : length p.name < 2 ^ 32 = omega (arith, name_length p.name h.0.0) in
    let one = sized_again (length (sized_bytes p.name ++ after)) p.name after short in
    let two = value_again p.value rest h.0.1 h.1.2 in
    ap (pair_at before) (append_assoc (sized_bytes p.name) (value_bytes p.value) rest) ∙ rw (one, h.0.0, h.1.0, two, h.1.1) refl

starts : (p : Pair) (ps : List Pair) → Chain Follows (Some p) ps → starts_above p.name ps ≡ true
starts p [] h = refl
starts p (q ∷ qs) h = h.0.0

pub Chain-are_columns : (before : Option Pair) (ps : List Pair) → Chain Follows before ps → are_columns ps ≡ true
Chain-are_columns before [] h = refl
Chain-are_columns before (p ∷ ps) h =
    and_both (not (is_null p.value)) _ (ap not h.0.1) (and_both (starts_above p.name ps) _ (starts p ps h.1) (Chain-are_columns (Some p) ps h.1))

full_first : (p : Pair) (ps : List Pair) → are_columns (p ∷ ps) ≡ true → is_null p.value ≡ false
full_first p ps h =
    elim (is_null p.value) as (λ b. not b ≡ true → b ≡ false) [ true ↦ λ q. cc | false ↦ λ q. refl ] (and_first (not (is_null p.value)) _ h)

above_first : (p : Pair) (ps : List Pair) → starts_above p.name ps ≡ true → (q : Pair) (qs : List Pair) → ps ≡ q ∷ qs → is_above (Some p) q.name ≡ true
above_first p ps h q qs e = subst (λ (l : List Pair). starts_above p.name l ≡ true) e h

chain_of : (before : Option Pair) (ps : List Pair) → ((q : Pair) (qs : List Pair) → ps ≡ q ∷ qs → is_above before q.name ≡ true) → are_columns ps ≡ true → All pair_fits ps → All (λ p. ValueIsEncodable p.value) ps → Chain Readable before ps
chain_of before [] first sorted known fits = tt
chain_of before (p ∷ ps) first sorted known fits = (
  (known 0 p (omega arith), (first p ps refl, full_first p ps sorted, fits 0 p (omega arith))),
  chain_of (Some p) ps (above_first p ps (tail_above p ps sorted)) (tail_columns p ps sorted) (λ i d lt. known (suc i) d (omega arith)) (λ i d lt. fits (suc i) d (omega arith)),
)

abbrev pub TakesColumns : List ℕ → List Pair × List ℕ → Type 0
TakesColumns bytes x = Takes bytes (columns_bytes x.0) x.1 × ColumnsAreEncodable x.0 × (are_columns x.0 ≡ true)

pub pairs_take : (n : ℕ) (bytes : List ℕ) (x : List Pair × List ℕ) → IsBytes bytes → items_at pair_at None n bytes ≡ Ok x → Takes bytes (flat_map pair_bytes x.0) x.1 × (length x.0 ≡ n) × Chain Follows None x.0
pairs_take n bytes x fits e = items_take pair_at pair_bytes Follows pair_takes None n bytes x fits e

pub columns_take : (bytes : List ℕ) (x : List Pair × List ℕ) → IsBytes bytes → columns_at bytes ≡ Ok x → TakesColumns bytes x
unfolding columns_at
columns_take bytes x fits e =
    let left : ℕ = length bytes in
    let a = bind_ok (number_at w16 left bytes) (λ n. items_at pair_at None n.0 n.1) x e in
    let first = number_takes w16 (2 ^ 16) wide16 left bytes a.0 fits a.1 in
    let second = pairs_take a.0.0 a.0.1 x first.0.rest_fits a.2 in
    let both = Takes-then bytes (to_be_bytes w16 a.0.0) a.0.1 (flat_map pair_bytes x.0) x.1 first.0 second.0 in
    let lengths = All-from_recursion (λ (p : Pair). ValueIsEncodable p.value) x.0 (Chain-all Follows (λ (p : Pair). ValueIsEncodable p.value) (λ before p h. h.2) None x.0 second.2) in
    (subst (λ (k : ℕ). Takes bytes (to_be_bytes w16 k ++ flat_map pair_bytes x.0) x.1) (sym second.1) both, record { count = omega (arith, second.1, first.1); lengths = lengths }, Chain-are_columns None x.0 second.2)

pub columns_again : (ps : List Pair) (rest : List ℕ) → columns_fit ps → ColumnsAreEncodable ps → columns_at (columns_bytes ps ++ rest) ≡ Ok (ps, rest)
unfolding columns_at
columns_again ps rest known fits =
    let after : List ℕ = flat_map pair_bytes ps ++ rest in
    let one = number_again w16 (2 ^ 16) wide16 (length (to_be_bytes w16 (length ps) ++ after)) (length ps) after fits.count in
    let two = items_again pair_at pair_bytes Readable pair_again None ps rest (chain_of None ps (λ q qs e. refl) known.sorted known.pairs fits.lengths) in
    ap columns_at (append_assoc (to_be_bytes w16 (length ps)) (flat_map pair_bytes ps) rest) ∙ rw (one, two) refl

---- records

abbrev pub TakesRecord : List ℕ → Record × List ℕ → Type 0
TakesRecord bytes x = Takes bytes (record_bytes x.0) x.1 × RecordIsEncodable x.0

pub format_takes : (bytes rest : List ℕ) → format_at bytes ≡ Ok rest → bytes ≡ 1 ∷ rest
format_takes [] rest e = absurd cc
format_takes (n ∷ bytes) rest e =
    let g = passed_ok (n == 1) (length (n ∷ bytes)) bytes rest e in
    λ i. eqb-true n 1 g.0 i ∷ g.1 i

pub record_takes : (bytes : List ℕ) (x : Record × List ℕ) → IsBytes bytes → record_at bytes ≡ Ok x → TakesRecord bytes x
unfolding record_at
record_takes bytes x fits e =
    let a = bind_ok (format_at bytes) (λ rest. key_at rest >>= λ key. columns_at key.1 >>= λ columns. Ok (record { key = key.0; columns = columns.0 }, columns.1)) x e in
    let b = bind_ok (key_at a.0) (λ key. columns_at key.1 >>= λ columns. Ok (record { key = key.0; columns = columns.0 }, columns.1)) x a.2 in
    let c = bind_ok (columns_at b.0.1) (λ columns. Ok (record { key = b.0.0; columns = columns.0 }, columns.1)) x b.2 in
    let front = format_takes bytes a.0 a.1 in
    let rest_fits : IsBytes a.0 = IsBytes-rest 1 a.0 (subst IsBytes front fits) in
    let t1 = key_takes a.0 b.0 rest_fits b.1 in
    let t2 = columns_take b.0.1 c.0 t1.0.rest_fits c.1 in
    let both = Takes-then a.0 (key_bytes b.0.0) b.0.1 (columns_bytes c.0.0) c.0.1 t1.0 t2.0 in
    let all = Takes-after 1 a.0 (key_bytes b.0.0 ++ columns_bytes c.0.0) c.0.1 both in
    let made : Record × List ℕ = (record { key = b.0.0; columns = c.0.0 }, c.0.1) in
    subst (TakesRecord bytes) (ok_is made x c.2) (record { parts = front ∙ all.parts; rest_fits = all.rest_fits }, record { key = t1.1; columns = t2.1 })

pub record_again : (r : Record) (rest : List ℕ) → record_fits r → RecordIsEncodable r → record_at (record_bytes r ++ rest) ≡ Ok (r, rest)
unfolding record_at
record_again r rest known fits =
    let one = key_again r.key (columns_bytes r.columns ++ rest) known.key fits.key in
    let two = columns_again r.columns rest known.columns fits.columns in
    ap (λ (bytes : List ℕ). record_at (1 ∷ bytes)) (append_assoc (key_bytes r.key) (columns_bytes r.columns) rest) ∙ rw (one, two) refl

---- the whole

module _ {X : Type 0} (at : List ℕ → Result (X × List ℕ) ℕ) (text : X → List ℕ) (P Q : X → Type 0) where
  pub whole_takes : ((bytes : List ℕ) (x : X × List ℕ) → IsBytes bytes → at bytes ≡ Ok x → Takes bytes (text x.0) x.1 × P x.0) → (bytes : List ℕ) (x : X) → IsBytes bytes → whole (at bytes) ≡ Ok x → P x × (bytes ≡ text x)
  whole_takes each bytes x fits e =
      let a = bind_ok (at bytes) (λ y. cond (eqb (length y.1) 0) (Ok y.0) (Err (length y.1))) x e in
      let g = passed_ok (eqb (length a.0.1) 0) (length a.0.1) a.0.0 x a.2 in
      let t = each bytes a.0 fits a.1 in
      let nothing : a.0.1 ≡ [] = nil_from_length a.0.1 (eqb-true _ _ g.0) in
      subst (λ (y : X). P y × (bytes ≡ text y)) g.1 (t.1, t.0.parts ∙ ap (λ (rest : List ℕ). text a.0.0 ++ rest) nothing ∙ append-nil (text a.0.0))

  pub whole_again : ((x : X) (rest : List ℕ) → Q x → at (text x ++ rest) ≡ Ok (x, rest)) → (x : X) → Q x → whole (at (text x)) ≡ Ok x
  whole_again each x h =
      let read : at (text x) ≡ Ok (x, []) = ap at (sym (append-nil (text x))) ∙ each x [] h in
      rw read refl

from_front_ok : {X : Type 0} (total : ℕ) (read : Result X ℕ) (x : X) → from_front total read ≡ Ok x → read ≡ Ok x
from_front_ok total (Ok y) x e = e
from_front_ok total (Err left) x e = absurd cc

module _ (bytes : List ℕ) where
  pub record_found : (r : Result Record ReadRefused) → IsBytes bytes → Reads r (record_in bytes) → IfOk r (λ x. RecordIsEncodable x × (bytes ≡ record_bytes x))
  record_found (Ok x) fits h = whole_takes record_at record_bytes RecordIsEncodable record_fits record_takes bytes x fits (from_front_ok (length bytes) (whole (record_at bytes)) x h)
  record_found (Err e) fits h = tt

  pub key_found : (r : Result Key ReadRefused) → IsBytes bytes → Reads r (key_in bytes) → IfOk r (λ x. KeyIsEncodable x × (bytes ≡ key_bytes x))
  key_found (Ok x) fits h = whole_takes key_at key_bytes KeyIsEncodable key_fits key_takes bytes x fits (from_front_ok (length bytes) (whole (key_at bytes)) x h)
  key_found (Err e) fits h = tt

-- what is written is read back
pub record_round_trip : (r : Record) → record_fits r → RecordIsEncodable r → record_in (record_bytes r) ≡ Ok r
record_round_trip r known fits =
    ap (from_front (length (record_bytes r))) (whole_again record_at record_bytes RecordIsEncodable (λ x. record_fits x × RecordIsEncodable x) (λ x rest h. record_again x rest h.0 h.1) r (known, fits))

pub key_round_trip : (k : Key) → key_fits k → KeyIsEncodable k → key_in (key_bytes k) ≡ Ok k
key_round_trip k known fits =
    ap (from_front (length (key_bytes k))) (whole_again key_at key_bytes KeyIsEncodable (λ x. key_fits x × KeyIsEncodable x) (λ x rest h. key_again x rest h.0 h.1) k (known, fits))

-- and parts its record from others
pub record_apart : (r s : Record) → record_fits r → record_fits s → RecordIsEncodable r → RecordIsEncodable s → record_bytes r ≡ record_bytes s → r ≡ s
record_apart r s known also fits fit e = ok_is r s (sym (record_round_trip r known fits) ∙ ap record_in e ∙ record_round_trip s also fit)

pub key_apart : (k l : Key) → key_fits k → key_fits l → KeyIsEncodable k → KeyIsEncodable l → key_bytes k ≡ key_bytes l → k ≡ l
key_apart k l known also fits fit e = ok_is k l (sym (key_round_trip k known fits) ∙ ap key_in e ∙ key_round_trip l also fit)
