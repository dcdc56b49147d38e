-- Rows of a span.
use Rattle.std.proofs.Common.{◌≡◌, Bool, true, false, cond, Option, None, List, refl, sym, ap, ◌∙◌, map}
use Rattle.std.specs.declared.cmp.Ordering.TheVariants.{Equal}
use Rattle.std.specs.FinMap.{find, get, entries, entries_sorted, get-entries}
use Rattle.std.specs.FinMap.Entries.{where_key, is_sorted-where_key, find-where_key, same_entries}
use Rattle.sdb_types.specs.declared.key.Key.{Key}
use Rattle.sdb_types.specs.declared.pair.Pair.{Pair}
use Rattle.sdb_types.specs.declared.record.Span.{Span}
use Rattle.sdb_types.specs.Order.{key_cmp}
use Rattle.sdb_types.specs.Contents.{Contents, record_of, in_span, rows_in}
use Rattle.sdb_types.proofs.KeyOrder.{key_total, key_exact}

alike : (span : Span) (q x : Key) → key_cmp q x ≡ Equal → in_span span x ≡ in_span span q
alike span q x e = ap (in_span span) (sym (key_exact q x e))

-- what the entries of a span have at a key
pub find_span : (span : Span) (m : Contents) (q : Key) → find key_cmp q (where_key key_cmp (in_span span) (entries m)) ≡ cond (in_span span q) (get m q) None
find_span span m q = find-where_key key_cmp (in_span span) q (alike span q) (entries m) ∙ ap (λ o. cond (in_span span q) o None) (sym (get-entries m q))

agree : (b : Bool) (x y : Option (List Pair)) → (b ≡ true → x ≡ y) → cond b x None ≡ cond b y None
agree true x y h = h refl
agree false x y h = refl

-- contents that agree inside a span have the same rows there
pub same_rows : (span : Span) (m n : Contents) → ((q : Key) → in_span span q ≡ true → get m q ≡ get n q) → rows_in span m ≡ rows_in span n
same_rows span m n h =
    let p = in_span span in
    ap (map record_of) (same_entries key_cmp key_total key_exact (where_key key_cmp p (entries m)) (where_key key_cmp p (entries n)) (is_sorted-where_key key_cmp p (entries m) (entries_sorted m)) (is_sorted-where_key key_cmp p (entries n) (entries_sorted n)) (λ q. find_span span m q ∙ agree (in_span span q) (get m q) (get n q) (h q) ∙ sym (find_span span n q)))
