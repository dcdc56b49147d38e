-- The entries of a catalog that is written where there was none: each may follow those before it.
use Rattle.std.proofs.Common.{◌≡◌, ℕ, ◌≤◌, ◌<◌, List, [], ◌∷◌, ◌++◌, length, map, Bool, true, false, not, ◌&&◌, ◌||◌, cond, Some, None, inl, inr, refl, sym, ap, subst, ◌∙◌, arith, append_assoc, codes}
use Rattle.std.specs.Prelude.{find, is_some, unwrap_or, slice_get, nat_le, nat_lt}
use Rattle.std.specs.List.{list_all}
use Rattle.std.specs.Option.{option_map}
use Rattle.sdb_catalog.specs.Types.{Ordering, Place, Table, TableName}
use Rattle.std.specs.declared.cmp.Ordering.TheVariants.{Less, Equal, Greater}
use Rattle.std.specs.Ordering.{is_eq, is_lt, ordering_reverse}
use Rattle.std.specs.Str.{bytes_eq}
use Rattle.std.proofs.lemmas.Bool.Decides.{nat_tests}
use Rattle.std.proofs.lemmas.List.{map-append, length-map}
use Rattle.std.proofs.lemmas.List.Sums.{length-filter}
use Rattle.std.proofs.lemmas.Slice.Eq.{bytes_eq-Decides}
use Rattle.sdb_types.specs.Exact.{equal_of}
use Rattle.sdb_types.specs.Identifier.{is_name}
use Rattle.sdb_types.specs.Order.{table_cmp}
use Rattle.sdb_types.proofs.Public.{and_both, and_first, and_second, table_exact, table_total}
use Rattle.sdb_record.specs.Parts.{is_column_name}
use Rattle.sdb_schema.specs.Catalog.{rises, is_above_name, with_table}
use Rattle.sdb_schema.specs.Table.{is_table}
use Rattle.sdb_loader.specs.Words.{is_open, names_table}
use Rattle.sdb_catalog.specs.declared.entry.Entry.{Entry}
use Rattle.sdb_catalog.specs.Rows.{MayHaveRow, coordinators}
use Rattle.sdb_catalog.specs.Opened.{Follow, IsEntry, agrees, is_attached, is_coordinators, open_count, open_entries, tables_of}
use Rattle.sdb_catalog.proofs.Catalogs.{count_more, ns_is, one_count, own_ns}
use Rattle.sdb_catalog.proofs.Kept.{entry, store_of}
use Rattle.std.proofs.lemmas.Bool.{not-true as false_of}

---- names

abbrev names_all : List Table → Bool
names_all ts = list_all (λ (t : Table). names_table t.name.ns t.name.table) ts

-- a table that a schema may name isn't in the coordinator's namespace
other_ns : (t : Table) → names_table t.name.ns t.name.table ≡ true → bytes_eq t.name.ns (codes "coordinator") ≡ false
other_ns t h =
    let free = and_first (is_open t.name.ns) (is_column_name t.name.table) (and_second (is_column_name t.name.ns) (is_open t.name.ns && is_column_name t.name.table) h) in
    false_of (bytes_eq t.name.ns (codes "coordinator")) (and_first (not (bytes_eq t.name.ns (codes "coordinator"))) (not (bytes_eq t.name.ns (codes "scalardb"))) free)

other_name : (t : Table) → bytes_eq t.name.ns (codes "coordinator") ≡ false → is_eq (table_cmp t.name coordinators.name) ≡ false
other_name t h =
    elim (is_eq (table_cmp t.name coordinators.name)) as (λ b. is_eq (table_cmp t.name coordinators.name) ≡ b → b ≡ false) [
      | true ↦ λ q.
          let same = table_exact t.name coordinators.name (equal_of (table_cmp t.name coordinators.name) q) in
          absurd (let e : true ≡ false = sym own_ns ∙ ap (λ (n : TableName). bytes_eq n.ns (codes "coordinator")) (sym same) ∙ h in cc)
      | false ↦ λ q. refl
    ] refl

---- their order, with the coordinator's table among them

above_own : (r s : Ordering) → s ≡ ordering_reverse r → is_lt r ≡ false → is_eq r ≡ false → is_lt s ≡ true
above_own Less s e h k = cc
above_own Equal s e h k = cc
above_own Greater s e h k = ap is_lt e

above_with : (name : TableName) (us : List Table) → is_lt (table_cmp name coordinators.name) ≡ true → is_above_name name us ≡ true → is_above_name name (with_table coordinators us) ≡ true
above_with name [] h k = h
above_with name (u ∷ us) h k =
    elim (is_lt (table_cmp u.name coordinators.name)) as (λ b. is_above_name name (cond b (u ∷ with_table coordinators us) (coordinators ∷ u ∷ us)) ≡ true) [
      | true ↦ k
      | false ↦ h
    ]

pub written_rise : (us : List Table) → rises us ≡ true → names_all us ≡ true → rises (with_table coordinators us) ≡ true
written_rise [] h k = refl
written_rise (u ∷ us) h k =
    let other = other_name u (other_ns u (and_first (names_table u.name.ns u.name.table) (names_all us) k)) in
    let later = written_rise us (and_second (is_above_name u.name us) (rises us) h) (and_second (names_table u.name.ns u.name.table) (names_all us) k) in
    elim (is_lt (table_cmp u.name coordinators.name)) as (λ b. is_lt (table_cmp u.name coordinators.name) ≡ b → rises (cond b (u ∷ with_table coordinators us) (coordinators ∷ u ∷ us)) ≡ true) [
      | true ↦ λ q. and_both (is_above_name u.name (with_table coordinators us)) (rises (with_table coordinators us)) (above_with u.name us q (and_first (is_above_name u.name us) (rises us) h)) later
      | false ↦ λ q. and_both (is_lt (table_cmp coordinators.name u.name)) (rises (u ∷ us)) (above_own (table_cmp u.name coordinators.name) (table_cmp coordinators.name u.name) (table_total.antisymm coordinators.name u.name) q other) h
    ] refl

---- stores

pub first_attached : (names : List (List ℕ)) (first : List ℕ) → slice_get names 0 ≡ Some first → is_attached names first ≡ true
first_attached [] first h = absurd (let e : None ≡ Some first = h in cc)
first_attached (n ∷ ns) first h =
    let same : n ≡ first = cc in
    ap (λ (b : Bool). is_some (cond b (Some n) (find (λ (m : List ℕ). bytes_eq m first) ns))) ((bytes_eq-Decides n first).1 same)

pub place_attached : (names : List (List ℕ)) (places : List Place) (first ns : List ℕ) → is_attached names first ≡ true → list_all (λ (p : Place). is_attached names p.store) places ≡ true → is_attached names (store_of places first ns) ≡ true
place_attached names [] first ns h k = h
place_attached names (p ∷ ps) first ns h k =
    elim (bytes_eq p.ns ns) as (λ b. is_attached names (unwrap_or (option_map (λ (q : Place). q.store) (cond b (Some p) (find (λ (q : Place). bytes_eq q.ns ns) ps))) first) ≡ true) [
      | true ↦ and_first (is_attached names p.store) (list_all (λ (q : Place). is_attached names q.store) ps) k
      | false ↦ place_attached names ps first ns h (and_second (is_attached names p.store) (list_all (λ (q : Place). is_attached names q.store) ps) k)
    ]

---- the entries

module _ (names : List (List ℕ)) (places : List Place) (first : List ℕ) where
  abbrev entries : List Table → List Entry
  entries ts = map (entry places first) ts

  abbrev pub Each : List Table → Type 0
  Each [] = Unit {0}
  Each (t ∷ ts) = IsEntry names (entry places first t) × Each ts

  abbrev IsAttached : Type 0
  IsAttached = (ns : List ℕ) → is_attached names (store_of places first ns) ≡ true

  entry_of : (t : Table) → IsAttached → MayHaveRow t → IsEntry names (entry places first t)
  entry_of t there may = record { table = may; attached = there t.name.ns; revision = omega arith }

  each_table : (us : List Table) → IsAttached → list_all is_table us ≡ true → names_all us ≡ true → Each us
  each_table [] there h k = tt
  each_table (u ∷ us) there h k =
      let one = inr (and_first (is_table u) (list_all is_table us) h, and_first (names_table u.name.ns u.name.table) (names_all us) k) in
      (entry_of u there one, each_table us there (and_second (is_table u) (list_all is_table us) h) (and_second (names_table u.name.ns u.name.table) (names_all us) k))

  each_with : (us : List Table) → IsEntry names (entry places first coordinators) → Each us → Each (with_table coordinators us)
  each_with [] own h = (own, tt)
  each_with (u ∷ us) own h =
      elim (is_lt (table_cmp u.name coordinators.name)) as (λ b. Each (cond b (u ∷ with_table coordinators us) (coordinators ∷ u ∷ us))) [
        | true ↦ (h.0, each_with us own h.1)
        | false ↦ (own, h)
      ]

  pub each_written : (us : List Table) → IsAttached → list_all is_table us ≡ true → names_all us ≡ true → Each (with_table coordinators us)
  each_written us there h k = each_with us (entry_of coordinators there (inl refl)) (each_table us there h k)

  pub each_named : (us : List Table) → Each us → list_all (λ (t : Table). is_name t.name.ns) us ≡ true
  each_named [] h = refl
  each_named (u ∷ us) h = and_both (is_name u.name.ns) (list_all (λ (t : Table). is_name t.name.ns) us) (ns_is u h.0.table) (each_named us h.1)

  agree_all : (ds : List Table) (t : Table) → list_all (agrees (entry places first t)) (entries ds) ≡ true
  agree_all [] t = refl
  agree_all (d ∷ ds) t =
      and_both (agrees (entry places first t) (entry places first d)) (list_all (agrees (entry places first t)) (entries ds))
      (elim (bytes_eq d.name.ns t.name.ns) as (λ b. bytes_eq d.name.ns t.name.ns ≡ b → (not b || bytes_eq (store_of places first d.name.ns) (store_of places first t.name.ns)) ≡ true) [
        | true ↦ λ q. (bytes_eq-Decides (store_of places first d.name.ns) (store_of places first t.name.ns)).1 (ap (store_of places first) ((bytes_eq-Decides d.name.ns t.name.ns).0 q))
        | false ↦ λ q. refl
      ] refl) (agree_all ds t)

  less_is : (n : ℕ) → n < 64 → nat_lt n 64 ≡ true
  less_is n h = grind (arith, nat_tests)

  room : (ds : List Table) (t : Table) (ts : List Table) → open_count (entries (ds ++ t ∷ ts)) ≤ 64 → (is_coordinators (entry places first t) || nat_lt (open_count (entries ds)) 64) ≡ true
  room ds t ts few =
      elim (is_coordinators (entry places first t)) as (λ b. is_coordinators (entry places first t) ≡ b → (b || nat_lt (open_count (entries ds)) 64) ≡ true) [
        | true ↦ λ q. refl
        | false ↦ λ q. less_is (open_count (entries ds))
            (omega (arith, few, ap open_count (map-append (entry places first) ds (t ∷ ts)), count_more (entries ds) (entries (t ∷ ts)), count_more (entry places first t ∷ []) (entries ts), one_count (entry places first t) false q))
      ] refl

  follow_all : (ds ts : List Table) → Each ts → open_count (entries (ds ++ ts)) ≤ 64 → Follow names (entries ds) (entries ts)
  follow_all ds [] h few = tt
  follow_all ds (t ∷ ts) h few =
      let fit = and_both (list_all (agrees (entry places first t)) (entries ds)) (is_coordinators (entry places first t) || nat_lt (open_count (entries ds)) 64) (agree_all ds t) (room ds t ts few) in
      let rest = follow_all (ds ++ t ∷ []) ts h.1 (subst (λ (us : List Table). open_count (entries us) ≤ 64) (sym (append_assoc ds (t ∷ []) ts)) few) in
      ((h.0, fit), subst (λ (es : List Entry). Follow names es (entries ts)) (map-append (entry places first) ds (t ∷ [])) rest)

  abbrev one_more : Table → Bool → List Entry → List Table
  one_more t own es = map (λ (a : Entry). a.table) (cond (not own) (entry places first t ∷ open_entries es) (open_entries es))

  -- the coordinator's table is none of the catalog
  tables_with : (us : List Table) → tables_of (entries (with_table coordinators us)) ≡ tables_of (entries us)
  tables_with [] = ap (λ (b : Bool). one_more coordinators b []) own_ns
  tables_with (u ∷ us) =
      elim (is_lt (table_cmp u.name coordinators.name)) as (λ b. tables_of (entries (cond b (u ∷ with_table coordinators us) (coordinators ∷ u ∷ us))) ≡ tables_of (entries (u ∷ us))) [
        | true ↦ elim (is_coordinators (entry places first u)) as (λ b. one_more u b (entries (with_table coordinators us)) ≡ one_more u b (entries us)) [
          | true ↦ tables_with us
          | false ↦ ap (λ (ts : List Table). u ∷ ts) (tables_with us)
        ]
        | false ↦ ap (λ (b : Bool). one_more coordinators b (entries (u ∷ us))) own_ns
      ]

  tables_open : (us : List Table) → names_all us ≡ true → tables_of (entries us) ≡ us
  tables_open [] h = refl
  tables_open (u ∷ us) h =
      ap (λ (b : Bool). one_more u b (entries us)) (other_ns u (and_first (names_table u.name.ns u.name.table) (names_all us) h))
      ∙ ap (λ (ts : List Table). u ∷ ts) (tables_open us (and_second (names_table u.name.ns u.name.table) (names_all us) h))

  pub first_tables : (us : List Table) → names_all us ≡ true → tables_of (entries (with_table coordinators us)) ≡ us
  first_tables us h = tables_with us ∙ tables_open us h

  count_is : (es : List Entry) → open_count es ≡ length (tables_of es)
  count_is es = sym (length-filter (λ (a : Entry). not (is_coordinators a)) es) ∙ sym (length-map (open_entries es) (λ (a : Entry). a.table))

  at_most : (us : List Table) → nat_le (length us) 64 ≡ true → length us ≤ 64
  at_most us h = few_of (length us) h
    where
      few_of : (n : ℕ) → nat_le n 64 ≡ true → n ≤ 64
      few_of n h = grind (arith, nat_tests)

  pub first_follow : (us : List Table) → Each (with_table coordinators us) → nat_le (length us) 64 ≡ true → names_all us ≡ true → Follow names [] (entries (with_table coordinators us))
  first_follow us h few k =
      follow_all [] (with_table coordinators us) h (subst (λ (n : ℕ). n ≤ 64) (sym (count_is (entries (with_table coordinators us)) ∙ ap length (first_tables us k))) (at_most us few))
