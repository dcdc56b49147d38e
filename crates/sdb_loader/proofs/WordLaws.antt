-- The texts of tables and of clustering columns.
use Rattle.std.proofs.Common.{◌≡◌, ℕ, ◌+◌, List, [], ◌∷◌, ◌++◌, length, take, drop, Bool, true, false, not, ◌&&◌, ◌==◌, inl, inr, cond, refl, sym, ap, ◌∙◌, arith, Option, Some, None}
use Rattle.std.specs.Prelude.{nat_lt}
use Rattle.std.specs.Option.{option_map, option_and_then}
use Rattle.std.specs.List.{before_first, after_first, position_or_len}
use Rattle.std.proofs.lemmas.Bool.Decides.{nat_tests}
use Rattle.sdb_types.specs.declared.key.TableName.{TableName}
use Rattle.sdb_types.specs.Identifier.{is_part}
use Rattle.sdb_types.specs.Order.{table_text}
use Rattle.sdb_types.proofs.Public.{all_lack, and_first, and_second, around_at, around_behind, at_byte, lacks, no_dot, parts, suc_of as one_more}
use Rattle.sdb_record.specs.Parts.{is_column_name}
use Rattle.sdb_schema.specs.declared.table.Direction.{Direction}
use Rattle.sdb_schema.specs.declared.table.Direction.TheVariants.{Asc}
use Rattle.sdb_schema.specs.declared.table.Order.{Order}
use Rattle.sdb_loader.specs.Words.{is_open, names_table, table_named, direction_named, ordered_by, order_around, order_named, IsOrderText}
use Rattle.sdb_record.proofs.Public.{name_of_column}
use Rattle.sdb_types.specs.NameText.{around}

---- bytes that no name has

no_space : (b : ℕ) → is_part b ≡ true → not (b == 32) ≡ true
no_space b h = grind (arith, nat_tests)

---- the parts round the first byte

place_nowhere : (c : ℕ) (text : List ℕ) → lacks c text ≡ true → position_or_len (λ b. b == c) text ≡ length text
place_nowhere c [] h = refl
place_nowhere c (x ∷ xs) h =
    simp (and_first (not (x == c)) (lacks c xs) h) (one_more _ _ (place_nowhere c xs (and_second (not (x == c)) (lacks c xs) h)))

not_below : (n : ℕ) → nat_lt n n ≡ false
not_below n = grind (arith, nat_tests)

around_nowhere : (c : ℕ) (text : List ℕ) → lacks c text ≡ true → around c text ≡ None
around_nowhere c text h =
    ap (λ n. around_at n text) (place_nowhere c text h) ∙ ap (λ (b : Bool). cond b (Some (take (length text) text, drop (length text + 1) text)) None) (not_below (length text))

---- tables

pub table_named-text : (t : TableName) → names_table t.ns t.table ≡ true → table_named (table_text t) ≡ Some t
unfolding table_named
table_named-text t h =
    let short = and_first (is_column_name t.ns) (is_open t.ns && is_column_name t.table) h in
    let split = around_behind 46 t.ns t.table refl (all_lack 46 no_dot t.ns (parts t.ns (name_of_column t.ns short))) in
    ap (option_and_then (λ (p : List ℕ × List ℕ). cond (names_table p.0 p.1) (Some (record { ns = p.0; table = p.1 })) None)) split
    ∙ ap (λ (b : Bool). cond b (Some (record { ns = t.ns; table = t.table })) None) h

---- clustering columns

column_named-is : (name : List ℕ) (d : Direction) → is_column_name name ≡ true → ordered_by name d ≡ Some (record { name = name; direction = d })
column_named-is name d h = rw h refl

no_space_in : (name : List ℕ) → is_column_name name ≡ true → lacks 32 name ≡ true
no_space_in name h = all_lack 32 no_space name (parts name (name_of_column name h))

pub order_named-alone : (name : List ℕ) → is_column_name name ≡ true → order_named name ≡ Some (record { name = name; direction = Asc })
unfolding order_named
order_named-alone name h = ap (order_around name) (around_nowhere 32 name (no_space_in name h)) ∙ column_named-is name Asc h

pub order_named-behind : (name word : List ℕ) (d : Direction) → is_column_name name ≡ true → direction_named word ≡ Some d → order_named (name ++ 32 ∷ word) ≡ Some (record { name = name; direction = d })
unfolding order_named
order_named-behind name word d h k =
    ap (order_around (name ++ 32 ∷ word)) (around_behind 32 name word refl (no_space_in name h)) ∙ ap (option_and_then (ordered_by name)) k ∙ column_named-is name d h

no_order : {X : Type 0} (o : Order) → None ≡ Some o → X
no_order o h = absurd (let e : None ≡ Some o = h in cc)

same_order : (n o : Order) → Some n ≡ Some o → n ≡ o
same_order n o h = cc

record IsOrdered (name : List ℕ) (d : Direction) (o : Order) : Type 0 where
  named : is_column_name name ≡ true
  is : record { name = name; direction = d } ≡ o

ordered_by-is : (name : List ℕ) (d : Direction) (o : Order) → ordered_by name d ≡ Some o → IsOrdered name d o
ordered_by-is name d o h =
    elim (is_column_name name) as (λ b. is_column_name name ≡ b → option_map (λ (n : List ℕ). record { name = n; direction = d }) (cond b (Some name) None) ≡ Some o → IsOrdered name d o) [
      | true ↦ λ q k. record { named = q; is = same_order (record { name = name; direction = d }) o k }
      | false ↦ λ q k. no_order o k
    ] refl h

directed : (name word : List ℕ) (r : Option Direction) (o : Order) → direction_named word ≡ r → option_and_then (ordered_by name) r ≡ Some o → (d : Direction) × (direction_named word ≡ Some d) × IsOrdered name d o
directed name word None o e h = no_order o h
directed name word (Some d) o e h = (d, e, ordered_by-is name d o h)

pub order_named-only : (text : List ℕ) (o : Order) → order_named text ≡ Some o → IsOrderText text o
unfolding order_named
order_named-only text o h =
    let before = before_first (λ b. b == 32) text in
    let after = after_first (λ b. b == 32) text in
    elim (nat_lt (position_or_len (λ b. b == 32) text) (length text)) as (λ b. nat_lt (position_or_len (λ b. b == 32) text) (length text) ≡ b → order_around text (cond b (Some (before, after)) None) ≡ Some o → IsOrderText text o) [
      | true ↦ λ q k.
          let found = directed before after (direction_named after) o refl k in
          let name : before ≡ o.name = ap (λ (x : Order). x.name) found.2.is in (
            ap is_column_name (sym name) ∙ found.2.named,
            inr (
              after,
              at_byte 32 text q ∙ ap (λ (x : List ℕ). x ++ 32 ∷ after) name,
              found.1 ∙ ap (λ (x : Order). Some x.direction) found.2.is,
            ),
          )
      | false ↦ λ q k.
          let found = ordered_by-is text Asc o k in (
            ap is_column_name (sym (ap (λ (x : Order). x.name) found.is)) ∙ found.named,
            inl (ap (λ (x : Order). x.name) found.is, sym (ap (λ (x : Order). x.direction) found.is)),
          )
    ] refl h
