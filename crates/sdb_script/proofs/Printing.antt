-- Pieces of the text of a script, one after the other.
use Rattle.std.proofs.Common.{◌≡◌, ℕ, zero, suc, ◌+◌, ◌-◌, ◌<◌, ◌≤◌, ◌==◌, true, false, List, [], ◌∷◌, ◌++◌, length, take, drop, flat_map, option_to_list, slice_get, sym, ap, ◌∙◌, append_assoc, append-nil, arith, codes}
use Rattle.std.proofs.lemmas.List.Concat.{flat_map-append}
use Rattle.sdb_schema.specs.declared.table.Table.{Table}
use Rattle.sdb_script.specs.Printed.{member_text, schema_text}
use Rattle.sdb_script.proofs.PlaceLaws.{next_taken}

abbrev Text : Type 0
Text = List ℕ

-- one item more of those after the first
pub others_more : {X : Type 0} (g : X → Text) (init mid new : Text) (xs : List X) (i : ℕ) → 1 ≤ i → i < length xs → mid ≡ init ++ flat_map g (take (i - 1) (drop 1 xs)) → new ≡ mid ++ flat_map g (option_to_list (slice_get xs i)) → new ≡ init ++ flat_map g (take (i + 1 - 1) (drop 1 xs))
others_more {X} g init mid new xs zero low high p q = absurd (omega arith)
others_more {X} g init mid new [] (suc j) low high p q = absurd (omega arith)
others_more {X} g init mid new (x ∷ xs) (suc j) low high p q =
    let one : suc j - 1 ≡ j = omega arith in
    let two : suc j + 1 - 1 ≡ j + 1 = omega arith in
    let less : j < length xs = omega (arith, high) in
    let last = flat_map g (option_to_list (slice_get xs j)) in
    q ∙ ap (λ (m : Text). m ++ last) (p ∙ ap (λ (n : ℕ). init ++ flat_map g (take n xs)) one) ∙ append_assoc init (flat_map g (take j xs)) last
    ∙ ap (λ (m : Text). init ++ m) (sym (flat_map-append g (take j xs) (option_to_list (slice_get xs j))) ∙ ap (flat_map g) (next_taken xs j less))
    ∙ ap (λ (n : ℕ). init ++ flat_map g (take n xs)) (sym two)

schema_pieces : (i s x o : Text) → ((((i ++ s) ++ (x ++ [])) ++ o) ++ codes "}\n") ≡ i ++ (s ++ (((x ++ o) ++ codes "}") ++ codes "\n"))
schema_pieces i s x o =
    ap (λ (y : Text). (((i ++ s) ++ y) ++ o) ++ codes "}\n") (append-nil x) ∙ ap (λ (y : Text). y ++ codes "}\n") (append_assoc (i ++ s) x o)
    ∙ append_assoc (i ++ s) (x ++ o) (codes "}\n") ∙ append_assoc i s ((x ++ o) ++ codes "}\n")
    ∙ ap (λ (y : Text). i ++ (s ++ y)) (sym (append_assoc (x ++ o) (codes "}") (codes "\n")))

-- the line of a schema with tables
pub schema_put : (init a b c d : Text) (ts : List Table) → (length ts == 0) ≡ false → a ≡ init ++ codes "schema {" → b ≡ a ++ flat_map (λ t. codes "" ++ member_text t) (option_to_list (slice_get ts 0)) → c ≡ b ++ flat_map (λ t. codes "," ++ member_text t) (drop 1 ts) → d ≡ c ++ codes "}\n" → d ≡ init ++ schema_text ts
schema_put init a b c d [] some p q r s = absurd (let k : true ≡ false = some in cc)
schema_put init a b c d (t ∷ ts) some p q r s =
    let others = flat_map (λ u. codes "," ++ member_text u) ts in
    s ∙ ap (λ (y : Text). y ++ codes "}\n") (r ∙ ap (λ (y : Text). y ++ others) (q ∙ ap (λ (y : Text). y ++ (member_text t ++ [])) p))
    ∙ schema_pieces init (codes "schema {") (member_text t) others
