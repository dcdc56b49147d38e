-- The text of a table's definition has no number, and is read as its value.
use Rattle.std.proofs.Common.{◌≡◌, ℕ, ◌≤◌, List, [], ◌∷◌, map, true, false, refl, sym, ap, subst, ◌∙◌, append-nil, arith, Option, Some}
use Rattle.std.specs.Prelude.{max}
use Rattle.std.specs.Option.{option_map, option_and_then}
use Rattle.std.specs.Ordering.{is_lt}
use Rattle.json.specs.Token.{Token}
use Rattle.json.specs.Print.{print}
use Rattle.json.specs.Json as json
use Rattle.json.specs.Tree as tree
use Rattle.json.proofs.Printed.Tokens.{tokens-print}
use Rattle.json.proofs.Printed.Trees.{value-json_tokens, ArePrintable-json_tokens}
use Rattle.serde_json.specs.Data.{string, Items, item, Members, no_members, member}
use Rattle.serde_json.specs.Read.{read, max_depth, of_json, of_items, of_members}
use Rattle.serde_json.specs.View.{items_of}
use Rattle.serde_json.specs.Written.{outline, items_outline, members_outline, has_float, items_have_float, members_have_float}
use Rattle.serde_json.proofs.Texts.{print-outline}
use Rattle.sdb_types.specs.Order.{name_cmp}
use Rattle.sdb_types.proofs.Public.{and_both, and_first, and_second}
use Rattle.sdb_catalog.specs.Types.{Column, Table}
use Rattle.sdb_schema.specs.Table.{rises}
use Rattle.sdb_catalog.proofs.Members.{AreRead, keys_rise, members_of, members_read}
use Rattle.sdb_catalog.specs.Definition.{columns_data, definition_of, definition_text, order_text}
use Rattle.sdb_schema.specs.Kinds.{kind_text}

---- strings in an array

abbrev strings : {A : Type 0} → (A → List ℕ) → List A → Items
strings f xs = items_of (map (λ x. string (f x)) xs)

no_float : {A : Type 0} (f : A → List ℕ) (xs : List A) → items_have_float (strings f xs) ≡ false
no_float f [] = refl
no_float f (x ∷ xs) = no_float f xs

strings_read : {A : Type 0} (f : A → List ℕ) (xs : List A) → of_items (items_outline (strings f xs)) ≡ Some (strings f xs)
strings_read f [] = refl
strings_read f (x ∷ xs) = ap (option_map (item (string (f x)))) (strings_read f xs)

numbered : {A : Type 0} (f : A → List ℕ) (xs : List A) → tree.ItemsHaveNumbers (items_outline (strings f xs))
numbered f [] = tt
numbered f (x ∷ xs) = (tt, numbered f xs)

flat : {A : Type 0} (f : A → List ℕ) (xs : List A) → tree.items_depth (items_outline (strings f xs)) ≡ 0
flat f [] = refl
flat f (x ∷ xs) = ap (max 0) (flat f xs)

---- columns in an object

columns_no_float : (cs : List Column) → members_have_float (columns_data cs) ≡ false
columns_no_float [] = refl
columns_no_float (c ∷ cs) = columns_no_float cs

columns_numbered : (cs : List Column) → tree.MembersHaveNumbers (members_outline (columns_data cs))
columns_numbered [] = tt
columns_numbered (c ∷ cs) = (tt, columns_numbered cs)

columns_flat : (cs : List Column) → tree.members_depth (members_outline (columns_data cs)) ≡ 0
columns_flat [] = refl
columns_flat (c ∷ cs) = ap (max 0) (columns_flat cs)

kinds_read : (cs : List Column) → AreRead (λ (c : Column). string (kind_text c.kind)) cs
kinds_read [] = tt
kinds_read (c ∷ cs) = (refl, kinds_read cs)

columns_rise : (cs : List Column) → rises cs ≡ true → keys_rise (λ (c : Column). c.name) cs ≡ true
columns_rise [] h = refl
columns_rise (c ∷ []) h = refl
columns_rise (c ∷ d ∷ cs) h =
    and_both (is_lt (name_cmp c.name d.name)) (keys_rise (λ (c : Column). c.name) (d ∷ cs)) (and_first (is_lt (name_cmp c.name d.name)) (rises (d ∷ cs)) h) (columns_rise (d ∷ cs) (and_second (is_lt (name_cmp c.name d.name)) (rises (d ∷ cs)) h))

columns_are : (cs : List Column) → members_of (λ (c : Column). c.name) (λ (c : Column). string (kind_text c.kind)) cs ≡ columns_data cs
columns_are [] = refl
columns_are (c ∷ cs) = ap (member c.name (string (kind_text c.kind))) (columns_are cs)

columns_read : (cs : List Column) → rises cs ≡ true → of_members (members_outline (columns_data cs)) no_members ≡ Some (columns_data cs)
columns_read cs r =
    subst (λ (ms : Members). of_members (members_outline ms) no_members ≡ Some ms) (columns_are cs)
    (members_read (λ (c : Column). c.name) (λ (c : Column). string (kind_text c.kind)) [] cs (columns_rise cs r) (kinds_read cs))

---- the whole

pub plain : (t : Table) → has_float (definition_of t) ≡ false
plain t = simp (no_float order_text t.clustering, columns_no_float t.columns, no_float (λ (n : List ℕ). n) t.partition, no_float (λ (n : List ℕ). n) t.indexed) refl

pub outline_read : (t : Table) → rises t.columns ≡ true → of_json (outline (definition_of t)) ≡ Some (definition_of t)
outline_read t h =
    simp (strings_read order_text t.clustering, columns_read t.columns h, strings_read (λ (n : List ℕ). n) t.partition, strings_read (λ (n : List ℕ). n) t.indexed) refl

pub all_numbered : (t : Table) → tree.HasNumbers (outline (definition_of t))
all_numbered t =
    (numbered order_text t.clustering, (columns_numbered t.columns, (numbered (λ (n : List ℕ). n) t.partition, (numbered (λ (n : List ℕ). n) t.indexed, tt))))

pub shallow : (t : Table) → tree.depth (outline (definition_of t)) ≡ 2
shallow t = simp (flat order_text t.clustering, columns_flat t.columns, flat (λ (n : List ℕ). n) t.partition, flat (λ (n : List ℕ). n) t.indexed) refl

pub printed_read : (j : json.Json) → tree.HasNumbers j → tree.depth j ≤ max_depth → read (print (tree.json_tokens j)) ≡ of_json j
printed_read j numbers low =
    ap (λ (o : Option (json.Json × List Token)). option_and_then of_json (option_and_then (λ p. json.if_last p.0 p.1) o))
    (ap (json.value max_depth) (tokens-print (tree.json_tokens j) (ArePrintable-json_tokens j numbers) ∙ sym (append-nil (tree.json_tokens j))) ∙ value-json_tokens j max_depth [] low)

pub read_again : (t : Table) → rises t.columns ≡ true → read (definition_text t) ≡ Some (definition_of t)
unfolding definition_text
read_again t h =
    ap read (sym (print-outline (definition_of t))) ∙ printed_read (outline (definition_of t)) (all_numbered t) (omega (arith, shallow t)) ∙ outline_read t h
