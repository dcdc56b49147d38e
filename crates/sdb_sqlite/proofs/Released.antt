-- The rows of a database that is kept are those of the records that it holds.
use Rattle.std.proofs.Common.{◌≡◌, inr, ◌≤◌, List, [], ◌∷◌, ◌++◌, filter, length, Bool, true, false, cond, Some, Option, option_map, slice_get, refl, sym, ap, subst, ◌∙◌, is_eq, append_assoc, arith}
use Rattle.std.specs.Prelude.{IfSome}
use Rattle.std.specs.List.{AllByRecursion}
use Rattle.std.specs.Cmp.{tied_itself}
use Rattle.sqlite.specs.Order.{Row, column, bytes}
use Rattle.sqlite.specs.Store.{Ghosts}
use Rattle.sqlite.specs.Held.{Held as Connected, state}
use Rattle.sdb_sqlite.specs.Types.{Key, Pair}
use Rattle.sdb_types.specs.Order.{table_text}
use Rattle.sdb_types.specs.Contents.{record_at, record_of}
use Rattle.sdb_types.proofs.Public.{key_total}
use Rattle.sdb_codec.specs.Spelling.{key_bytes}
use Rattle.sdb_codec.specs.Reading.{record_in}
use Rattle.sdb_sqlite.specs.Spans.{partition_key}
use Rattle.sdb_sqlite.specs.Rows.{IsRowOfStore, stored, row_key, entry_of, own_columns, has_key, rows_at, contents_of_rows}
use Rattle.sdb_sqlite.specs.Database.{HasTable, contents_of_state}
use Rattle.sdb_sqlite.specs.Released.{IsRowOf, IsContainedIn, IsReleased}
use Rattle.sdb_sqlite.proofs.Gets.{tied_key, of_key, held_at}
use Rattle.sdb_sqlite.proofs.Lists.{passed}

row_of : (key : Key) (row : Row) → IsRowOfStore row → has_key key row ≡ true → IsRowOf (record_of (key, (entry_of row).1)) row
row_of key row it has =
    let same : key ≡ it.key = of_key key row has ∙ tied_key row it in
    let body : bytes (column row 4) ≡ it.body = ap (λ r. bytes (column r 4)) it.is in
    record {
      id = it.id;
      body = it.body;
      is = it.is ∙ ap (λ (k : Key). stored it.id (key_bytes k) (table_text k.table) (key_bytes (partition_key k.table k.partition)) it.body) (sym same);
      means = λ i. record_of (key, own_columns (of_key key row has i) (record_in (sym body i)));
    }

---- one row for each record

each_of : (key : Key) (rows xs : List Row) → rows_at key rows ≡ xs → AllByRecursion (λ x. IsRowOfStore x × (has_key key x ≡ true)) xs → length xs ≤ 1
    → IfSome (option_map (λ columns. record_of (key, columns)) (option_map (λ row. (entry_of row).1) (slice_get xs 0))) (λ r. (row : Row) × (rows_at key rows ≡ row ∷ []) × IsRowOf r row)
each_of key rows [] is all few = tt
each_of key rows (x ∷ []) is all few = (x, is, row_of key x all.0.0 all.0.1)
each_of key rows (x ∷ y ∷ xs) is all few = absurd (omega arith)

each_row : (key : Key) (rows : List Row) → AllByRecursion IsRowOfStore rows → length (rows_at key rows) ≤ 1 → IfSome (record_at (contents_of_rows rows) key) (λ r. (row : Row) × (rows_at key rows ≡ row ∷ []) × IsRowOf r row)
each_row key rows all few =
    subst (λ (o : Option (List Pair)). IfSome (option_map (λ columns. record_of (key, columns)) o) (λ r. (row : Row) × (rows_at key rows ≡ row ∷ []) × IsRowOf r row)) (sym (held_at key rows))
    (each_of key rows (rows_at key rows) refl (passed IsRowOfStore (has_key key) rows all) few)

---- no other row

some_pass : {X : Type 0} (p : X → Bool) (front back : List X) (x : X) → p x ≡ true → 1 ≤ length (filter p (front ++ x ∷ back))
some_pass p [] back x h = subst (λ (b : Bool). 1 ≤ length (cond b (x ∷ filter p back) (filter p back))) (sym h) (omega arith)
some_pass p (y ∷ front) back x h =
    let rest = some_pass p front back x h in
    elim (p y) as (λ b. 1 ≤ length (cond b (y ∷ filter p (front ++ x ∷ back)) (filter p (front ++ x ∷ back)))) [ true ↦ omega arith | false ↦ rest ]

-- one that passes where at most one does is the first that does
first_passes : {X : Type 0} (p : X → Bool) (front back : List X) (x : X) → p x ≡ true → length (filter p (front ++ x ∷ back)) ≤ 1 → slice_get (filter p (front ++ x ∷ back)) 0 ≡ Some x
first_passes p [] back x h few = ap (λ b. slice_get (cond b (x ∷ filter p back) (filter p back)) 0) h
first_passes p (y ∷ front) back x h few =
    elim (p y) as (λ b. length (cond b (y ∷ filter p (front ++ x ∷ back)) (filter p (front ++ x ∷ back))) ≤ 1 → slice_get (cond b (y ∷ filter p (front ++ x ∷ back)) (filter p (front ++ x ∷ back))) 0 ≡ Some x) [
      | true ↦ λ one. absurd (omega (arith, one, some_pass p front back x h))
      | false ↦ λ one. first_passes p front back x h one
    ] few

held_row : (front back : List Row) (x : Row) → IsRowOfStore x → ((key : Key) → length (rows_at key (front ++ x ∷ back)) ≤ 1) → IsContainedIn (contents_of_rows (front ++ x ∷ back)) x
held_row front back x it once =
    let key = row_key x in
    let has : has_key key x ≡ true = ap is_eq (tied_itself key_total key) in
    let first = first_passes (has_key key) front back x has (once key) in
    let at = ap (λ (o : Option (List Pair)). option_map (λ columns. record_of (key, columns)) o) (held_at key (front ++ x ∷ back) ∙ ap (option_map (λ row. (entry_of row).1)) first) in
    (record_of (key, (entry_of x).1), at, row_of key x it has)

each_held : (front back : List Row) → AllByRecursion IsRowOfStore back → ((key : Key) → length (rows_at key (front ++ back)) ≤ 1) → AllByRecursion (IsContainedIn (contents_of_rows (front ++ back))) back
each_held front [] all once = tt
each_held front (x ∷ back) all once =
    let same = append_assoc front (x ∷ []) back in (
      held_row front back x all.0 once,
      subst (λ (rows : List Row). AllByRecursion (IsContainedIn (contents_of_rows rows)) back) same
          (each_held (front ++ x ∷ []) back all.1 (λ key. subst (λ (rows : List Row). length (rows_at key rows) ≤ 1) (sym same) (once key))),
    )

pub released : {S : Type 0} (g : Ghosts S) (connection : Connected S) → HasTable (state g connection) → IsReleased g (contents_of_state (state g connection)) connection
released g connection it =
    let rows = (state g connection).now.trees 0 in
    record {
      formed = inr it;
      rows = record { each = λ key. each_row key rows it.rows (it.once key); other = each_held [] rows it.rows it.once };
      same = refl;
    }
