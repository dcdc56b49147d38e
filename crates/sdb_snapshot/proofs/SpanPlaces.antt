-- Places of spans that are put.
use Rattle.std.proofs.Common.{◌≡◌, ℕ, Bool, true, false, cond, List, Option, Some, None, refl, sym, ap, subst, ◌∙◌}
use Rattle.std.specs.Prelude.{IsSome, OnErr, OnOk, Result, Ok, Err}
use Rattle.std.specs.BTreeMap.{BTreeMap, WritesThrough, get}
use Rattle.std.specs.Ordering.{eq_by_cmp}
use Rattle.std.specs.Cmp.Lexicographic.{lists_total, options_total}
use Rattle.std.specs.FinMap.{IsAntisymmetric, slice_cmp-IsAntisymmetric}
use Rattle.sdb_snapshot.specs.Types.{Span, TableName, Value}
use Rattle.sdb_types.specs.Exact.{order_decides}
use Rattle.sdb_types.specs.Exactness.{span_is_exact}
use Rattle.sdb_types.specs.Order.{table_cmp}
use Rattle.sdb_types.specs.ValueLaws.{value_exact, value_total}
use Rattle.sdb_types.proofs.Public.{by_test, clash, table_exact, table_total}
use Rattle.sdb_snapshot.specs.Seen.{same_span}
use Rattle.sdb_snapshot.specs.Spans.{partition_cmp, place_in_table, place_in_tables}

abbrev pub Partition : Type 0
Partition = Option (List Value)

abbrev pub Parts : Type 0
Parts = BTreeMap Partition ℕ

abbrev pub Tables : Type 0
Tables = BTreeMap TableName Parts

abbrev pub same_table : TableName → TableName → Bool
same_table a b = eq_by_cmp table_cmp a b

abbrev pub same_partition : Partition → Partition → Bool
same_partition a b = eq_by_cmp partition_cmp a b

partition_exact : IsAntisymmetric partition_cmp
partition_exact None None h = refl
partition_exact None (Some y) h = cc
partition_exact (Some x) None h = cc
partition_exact (Some x) (Some y) h = ap Some (slice_cmp-IsAntisymmetric value_exact x y h)

tables_decided : (a b : TableName) → (same_table a b ≡ true → a ≡ b) × (a ≡ b → same_table a b ≡ true)
tables_decided = order_decides table_total table_exact

partitions_decided : (a b : Partition) → (same_partition a b ≡ true → a ≡ b) × (a ≡ b → same_partition a b ≡ true)
partitions_decided = order_decides (options_total (lists_total value_total)) partition_exact

-- after the table of a span has other places
module _ (old new : Tables) (span : Span) (w : Parts) (is : (t : TableName) → get table_cmp new t ≡ cond (same_table span.table t) (Some w) (get table_cmp old t)) where
  here : (q : Span) → same_table span.table q.table ≡ true → place_in_tables new q ≡ get partition_cmp w q.partition
  here q t = ap (λ o. place_in_table o q.partition) (is q.table ∙ ap (λ b. cond b (Some w) (get table_cmp old q.table)) t)

  away : (q : Span) → same_table span.table q.table ≡ false → place_in_tables new q ≡ place_in_tables old q
  away q f = ap (λ o. place_in_table o q.partition) (is q.table ∙ ap (λ b. cond b (Some w) (get table_cmp old q.table)) f)

  at_table : (q : Span) → same_table span.table q.table ≡ true → place_in_table (get table_cmp old span.table) q.partition ≡ place_in_tables old q
  at_table q t = ap (λ n. place_in_table (get table_cmp old n) q.partition) ((tables_decided span.table q.table).0 t)

  -- these are the places that the table had
  pub kept : ((p : Partition) → get partition_cmp w p ≡ place_in_table (get table_cmp old span.table) p) → (q : Span) → place_in_tables new q ≡ place_in_tables old q
  kept parts q =
      by_test (same_table span.table q.table)
      (λ t. here q t ∙ parts q.partition ∙ at_table q t)
      (away q)

  -- the span has a place among them
  pub put : (i : ℕ) → ((p : Partition) → get partition_cmp w p ≡ cond (same_partition span.partition p) (Some i) (place_in_table (get table_cmp old span.table) p))
      → (q : Span) → place_in_tables new q ≡ cond (same_span span q) (Some i) (place_in_tables old q)
  put i parts q =
      by_test (same_span span q)
      (λ t. let e : span ≡ q = (span_is_exact span q).0 t in
      here q ((tables_decided span.table q.table).1 (ap (λ (s : Span). s.table) e)) ∙ parts q.partition
      ∙ ap (λ b. cond b (Some i) (place_in_table (get table_cmp old span.table) q.partition)) ((partitions_decided span.partition q.partition).1 (ap (λ (s : Span). s.partition) e))
      ∙ sym (ap (λ b. cond b (Some i) (place_in_tables old q)) t))
      (λ f. other q f ∙ sym (ap (λ b. cond b (Some i) (place_in_tables old q)) f))
    where
      other : (q : Span) → same_span span q ≡ false → place_in_tables new q ≡ place_in_tables old q
      other q f =
          by_test (same_table span.table q.table)
          (λ t. by_test (same_partition span.partition q.partition)
          (λ u. let table = (tables_decided span.table q.table).0 t in
          let partition = (partitions_decided span.partition q.partition).0 u in
          clash (sym ((span_is_exact span q).1 (λ j. record { table = table j; partition = partition j })) ∙ f))
          (λ v. here q t ∙ parts q.partition ∙ ap (λ b. cond b (Some i) (place_in_table (get table_cmp old span.table) q.partition)) v ∙ at_table q t))
          (away q)

-- places are put through a loan of those of a table
module _ (old new : Tables) (span : Span) (v w : Parts) (at : Some v ≡ get table_cmp old span.table) (written : WritesThrough table_cmp (table_cmp span.table) old w new) where
  changed : (t : TableName) → get table_cmp new t ≡ cond (same_table span.table t) (Some w) (get table_cmp old t)
  changed = (written.3 (subst (λ (o : Option Parts). IsSome o) at refl)).0

  lent : (p : Partition) → get partition_cmp v p ≡ place_in_table (get table_cmp old span.table) p
  lent p = ap (λ o. place_in_table o p) at

  pub through_ok : {A E : Type 0} (i : ℕ) (r : Result A E) → OnOk r ((p : Partition) → get partition_cmp w p ≡ cond (same_partition span.partition p) (Some i) (get partition_cmp v p))
      → OnOk r ((q : Span) → place_in_tables new q ≡ cond (same_span span q) (Some i) (place_in_tables old q))
  through_ok i (Ok a) h = put old new span w changed i (λ p. h p ∙ ap (cond (same_partition span.partition p) (Some i)) (lent p))
  through_ok i (Err e) h = tt

  pub through_err : {A E : Type 0} (r : Result A E) → OnErr r ((p : Partition) → get partition_cmp w p ≡ get partition_cmp v p) → OnErr r ((q : Span) → place_in_tables new q ≡ place_in_tables old q)
  through_err (Ok a) h = tt
  through_err (Err e) h = kept old new span w changed (λ p. h p ∙ lent p)
