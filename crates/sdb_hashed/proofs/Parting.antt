-- A part among all, and the bucket of a partition.
use Rattle.std.proofs.Common.{◌≡◌, Bool, List, [], true, false, cond, Option, Some, None, Bor, refl, sym, ap, subst, ◌∙◌, map}
use Rattle.std.specs.Prelude.{IsSome, IfSome, IfNone, is_some}
use Rattle.std.specs.Ordering.{is_eq}
use Rattle.std.specs.Option.{option_copied, option_map}
use Rattle.std.specs.List.{IsDistinct}
use Rattle.std.specs.Map.{lookup, keys_of}
use Rattle.std.specs.Cmp.Lexicographic.{lists_total}
use Rattle.std.specs.FinMap.{get, empty, entries, entries_sorted, get-entries, get-empty, slice_cmp-IsAntisymmetric}
use Rattle.std.specs.FinMap.Entries.{where_key, is_sorted-where_key, same_entries}
use Rattle.sdb_hashed.specs.Types.{Key, Pair, Record, Span, Value}
use Rattle.sdb_types.specs.Order.{key_cmp, table_cmp}
use Rattle.sdb_types.specs.Exact.{order_decides}
use Rattle.sdb_types.specs.ValueLaws.{value_exact, value_total}
use Rattle.sdb_types.specs.Contents.{Contents, record_of, in_span, is_partition, rows_in, rise}
use Rattle.sdb_types.proofs.Public.{and_both, find_span, key_exact, key_total, same_rows, table_exact, table_total}
use Rattle.sdb_hashed.specs.Bucket.{contents_of_bucket}
use Rattle.sdb_hashed.specs.Gathered.{contents_of_all, in_part, part_at, HasOwnKeys, IsPartOf}
use Rattle.sdb_hashed.proofs.Gather.{held_get}
use Rattle.sdb_hashed.proofs.Inside.{table_inside, partition_inside}
use Rattle.sdb_hashed.proofs.Sorting.{in_order, unpaired}
use Rattle.sdb_hashed.proofs.Spans.{no_rows}

---- one part

not_some : {A : Type 0} (o : Option A) → o ≡ None → IsSome o → {P : Type 0} → P
not_some o none some = absurd (let e : false ≡ true = sym (ap is_some none) ∙ some in cc)

module _ {K V : Type 0} (same : K → K → Bool) (is_known : (a b : K) → (same a b ≡ true → a ≡ b) × (a ≡ b → same a b ≡ true)) (part : Key → K) (f : V → Contents) (es : List (K × V)) (distinct : IsDistinct same (keys_of es)) (own : HasOwnKeys same part f es) (name : K) where
  here : (o : Option V) → o ≡ lookup (same name) es → (key : Key) → part key ≡ name → in_part (option_map f o) key ≡ get (contents_of_all f es) key
  here o found key e =
      ap (λ p. in_part (option_map f p) key) found ∙ ap (λ s. in_part (part_at same f es s) key) (sym e) ∙ sym (held_get same is_known part f es distinct own key)

  only : (o : Option V) → o ≡ lookup (same name) es → (key : Key) → IsSome (in_part (option_map f o) key) → part key ≡ name
  only o found key some =
      elim (same name (part key)) as (λ b. same name (part key) ≡ b → part key ≡ name) [
        | true ↦ λ e. sym ((is_known name (part key)).0 e)
        | false ↦ λ e. not_some (in_part (option_map f o) key) (ap (λ p. in_part (option_map f p) key) found ∙ own name key e) some
      ] refl

  part_of : (v : V) → Some v ≡ lookup (same name) es → IsPartOf part name (f v) (contents_of_all f es)
  part_of v found = record { own = here (Some v) found; alone = only (Some v) found }

  none_of : None ≡ lookup (same name) es → IsPartOf part name empty (contents_of_all f es)
  none_of found = record {
    own = λ key e. get-empty key_cmp key ∙ here None found key e;
    alone = λ key some. not_some (get {R = key_cmp} empty key) (get-empty key_cmp key) some;
  }

  -- the part that is lent, or none
  pub lent : (o : Option (Bor V)) → option_copied o ≡ lookup (same name) es → IfSome o (λ v. IsPartOf part name (f v.now) (contents_of_all f es)) × IfNone o (IsPartOf part name empty (contents_of_all f es))
  lent None found = (tt, none_of found)
  lent (Some v) found = (part_of v.now found, tt)

---- the bucket of a partition

same_both : (b : Bool) (o : Option (List Pair)) → cond b o o ≡ o
same_both true o = refl
same_both false o = refl

module _ (span : Span) (p : List Value) (named : Some p ≡ span.partition) (rows mid all : Contents) (one : IsPartOf (λ (k : Key). k.table) span.table mid all) (two : IsPartOf (λ (k : Key). k.partition) p rows mid) where
  in_bucket : (q : Key) → in_span span q ≡ true → get rows q ≡ get all q
  in_bucket q h = two.own q (partition_inside span p named q h) ∙ one.own q (table_inside span q h)

  -- each key of the bucket is one of the span
  all_inside : (q : Key) → IsSome (get rows q) → in_span span q ≡ true
  all_inside q some =
      let part = two.alone q some in
      let table = one.alone q (subst (λ (o : Option (List Pair)). IsSome o) (two.own q part) some) in
      let tables = order_decides table_total table_exact span.table q.table in
      let parts = order_decides (lists_total value_total) (slice_cmp-IsAntisymmetric value_exact) p q.partition in
      and_both (is_eq (table_cmp span.table q.table)) (is_partition span.partition q) (tables.1 (sym table))
      (subst (λ (o : Option (List Value)). is_partition o q ≡ true) named (parts.1 (sym part)))

  whole : where_key key_cmp (in_span span) (entries rows) ≡ entries rows
  whole =
      same_entries key_cmp key_total key_exact _ _ (is_sorted-where_key key_cmp (in_span span) (entries rows) (entries_sorted rows)) (entries_sorted rows) (λ q.
      find_span span rows q
      ∙ elim (get rows q) as (λ o. get rows q ≡ o → cond (in_span span q) o None ≡ o) [
        | None ↦ λ e. same_both (in_span span q) None
        | Some v ↦ λ e. ap (λ b. cond b (Some v) None) (all_inside q (subst (λ (o : Option (List Pair)). IsSome o) (sym e) refl))
      ] refl
      ∙ get-entries rows q)

  pub rows_of_all : rows_in span rows ≡ rows_in span all
  rows_of_all = same_rows span rows all in_bucket

  pub bucket_is : (rs : List Record) → rise rs ≡ true → contents_of_bucket rs ≡ rows → rs ≡ rows_in span all
  bucket_is rs h view =
      sym (unpaired rs) ∙ ap (map record_of) (sym (in_order rs h) ∙ ap entries view ∙ sym whole) ∙ rows_of_all

-- where there is no such table or partition no record is in the span
pub none_at : (span : Span) (p : List Value) → Some p ≡ span.partition → (mid all : Contents) → IsPartOf (λ (k : Key). k.table) span.table mid all → IsPartOf (λ (k : Key). k.partition) p empty mid → rows_in span all ≡ []
none_at span p named mid all one two = sym (rows_of_all span p named empty mid all one two) ∙ no_rows span

pub no_table : (span : Span) (all : Contents) → IsPartOf (λ (k : Key). k.table) span.table empty all → rows_in span all ≡ []
no_table span all one = sym (same_rows span empty all (λ q h. one.own q (table_inside span q h))) ∙ no_rows span

-- the bucket that is lent has the records of the span, and there is none where none is lent
module _ (span : Span) (p : List Value) (named : Some p ≡ span.partition) (mid all : Contents) (one : IsPartOf (λ (k : Key). k.table) span.table mid all) where
  pub lent_bucket : (found bucket : Option (Bor (List Record))) → option_copied bucket ≡ option_copied found → IfSome bucket (λ b. rise b.now ≡ true) → IfSome found (λ rows. IsPartOf (λ (k : Key). k.partition) p (contents_of_bucket rows.now) mid)
      → IfNone found (IsPartOf (λ (k : Key). k.partition) p empty mid) → IfSome bucket (λ b. b.now ≡ rows_in span all) × IfNone bucket (rows_in span all ≡ [])
  lent_bucket None None same rising some none = (tt, none_at span p named mid all one none)
  lent_bucket (Some f) (Some b) same rising some none =
      let is : f.now ≡ b.now = cc in
      (bucket_is span p named (contents_of_bucket b.now) mid all one (subst (λ (rs : List Record). IsPartOf (λ (k : Key). k.partition) p (contents_of_bucket rs) mid) is some) b.now rising refl, tt)
  lent_bucket None (Some b) same rising some none = absurd (cc)
  lent_bucket (Some f) None same rising some none = absurd (cc)
