-- Keys, spans, columns and records: what is read is there, and what is there is read.
use Rattle.std.proofs.Common.{◌≡◌, ℕ, ◌-◌, ◌<◌, true, not, List, [], ◌∷◌, ◌++◌, length, Option, Some, None, IfSome, refl, sym, ap, subst, ◌∙◌, append_assoc, arith, flat_map}
use Rattle.std.specs.Prelude.{codes}
use Rattle.std.specs.List.{AllByRecursion, join_by}
use Rattle.std.proofs.lemmas.List.Elements.{All-from_recursion, recursion_from_All}
use Rattle.std.proofs.lemmas.Option.{same_Some, cond_some}
use Rattle.sdb_types.specs.Columns.{is_null, starts_above, are_columns}
use Rattle.sdb_types.specs.Fits.{value_fits, pair_fits, key_fits, columns_fit, record_fits}
use Rattle.sdb_types.specs.Identifier.{is_part}
use Rattle.sdb_types.specs.Order.{table_text}
use Rattle.sdb_report.specs.Types.{Key, Pair, Record, Span, TableName, Value}
use Rattle.sdb_types.proofs.Public.{and_both, and_first, and_second, bind_some, tail_above, tail_columns}
use Rattle.sdb_model.specs.Plain.{table_is_plain, span_is_plain, values_are_plain}
use Rattle.sdb_model.specs.Texts.{value_text_of, values_text_of, row_text_of, clustering_text_of, key_text_of, partition_text_of, span_text_of, pair_text_of, columns_text_of, record_text_of}
use Rattle.sdb_report.specs.FieldReading.{after, name_at, value_at, many, some_values_at, values_at, row_at, table_at, clustering_at, key_at, partition_at, span_at, is_next_column, column_of, pair_at, next_pair_at, some_pairs_at, pairs_at, columns_at, record_at}
use Rattle.sdb_report.proofs.WordLaws.{case_some, join, Says, Sound, Again, after_is, stops_at, name_sound, name_again}
use Rattle.sdb_report.proofs.Lists.{Each, Each-all, many_is, many_again, count_le}
use Rattle.sdb_report.proofs.ValueLaws.{value_sound, value_again, some_values_sound, some_values_again, values_sound, values_again, ends_values, row_sound, row_again, EndsValue}
use Rattle.sdb_codec.specs.Reading.{last_of, is_above}
use Rattle.sdb_codec.proofs.Public.{last_of-push}
use Rattle.sdb_types.specs.Options.{◌>>=◌}

---- tables

pub table_sound : Sound table_at table_text table_is_plain
unfolding table_at
table_sound bytes x h =
    let last : List ℕ → List ℕ × List ℕ → Option (TableName × List ℕ) = λ ns table. Some (record { ns = ns; table = table.0 }, table.1) in
    let a = bind_some (name_at bytes) (λ ns. after (codes ".") ns.1 >>= λ rest. name_at rest >>= last ns.0) x h in
    let b = bind_some (after (codes ".") a.0.1) (λ rest. name_at rest >>= last a.0.0) x a.2 in
    let c = bind_some (name_at b.0) (last a.0.0) x b.2 in
    let ns = name_sound bytes a.0 a.1 in
    let table = name_sound b.0 c.0 c.1 in
    let two : bytes ≡ (a.0.0 ++ codes ".") ++ b.0 = join a.0.0 (codes ".") b.0 ns.parts (after_is (codes ".") a.0.1 b.0 b.1) in
    let three : bytes ≡ ((a.0.0 ++ codes ".") ++ c.0.0) ++ c.0.1 = join (a.0.0 ++ codes ".") c.0.0 c.0.1 two table.parts in
    let made : TableName = record { ns = a.0.0; table = c.0.0 } in
    subst (Says table_text table_is_plain bytes) (same_Some (made, c.0.1) x c.2)
    (record { parts = three ∙ ap (λ (t : List ℕ). t ++ c.0.1) (append_assoc a.0.0 (codes ".") c.0.0); fits = record { ns = ns.fits; table = table.fits } })

pub table_again : (t : TableName) (rest : List ℕ) → table_is_plain t → stops_at is_part rest ≡ true → table_at (table_text t ++ rest) ≡ Some (t, rest)
unfolding table_at
table_again t rest fits e =
    let regrouped : table_text t ++ rest ≡ t.ns ++ 46 ∷ (t.table ++ rest) = append_assoc t.ns (46 ∷ t.table) rest in
    ap table_at regrouped ∙ rw (name_again t.ns (46 ∷ (t.table ++ rest)) fits.ns refl, name_again t.table rest fits.table e) refl

---- keys

pub clustering_sound : Sound clustering_at clustering_text_of values_are_plain
unfolding clustering_at
clustering_sound bytes x h =
    case_some (after (codes ";") bytes) some_values_at (Some ([], bytes)) (Some x) h
    (λ rest q k.
    let s = some_values_sound rest x k in
    record { parts = join (codes ";") (values_text_of x.0) x.1 (after_is (codes ";") bytes rest q) s.parts ∙ some_text x.0 x.1 s.fits.1; fits = s.fits.0 })
    (λ q k. subst (Says clustering_text_of values_are_plain bytes) (same_Some ([], bytes) x k) (record { parts = refl; fits = All-from_recursion value_fits [] tt }))
  where
    some_text : (vs : List Value) (rest : List ℕ) → 0 < length vs → (codes ";" ++ values_text_of vs) ++ rest ≡ clustering_text_of vs ++ rest
    some_text [] rest some = absurd (omega arith)
    some_text (v ∷ vs) rest some = refl

pub clustering_again : (vs : List Value) (rest : List ℕ) → values_are_plain vs → clustering_at (clustering_text_of vs ++ 41 ∷ rest) ≡ Some (vs, 41 ∷ rest)
unfolding clustering_at
clustering_again [] rest fits = refl
clustering_again (v ∷ vs) rest fits = some_values_again v vs (41 ∷ rest) fits refl

clustering_ends : (vs : List Value) (rest : List ℕ) → ends_values (clustering_text_of vs ++ 41 ∷ rest) ≡ true
clustering_ends [] rest = refl
clustering_ends (v ∷ vs) rest = refl

pub key_sound : Sound key_at key_text_of key_fits
unfolding key_at
key_sound bytes x h =
    let last : TableName → List Value → List Value × List ℕ → Option (Key × List ℕ) = λ t p c. after (codes ")") c.1 >>= λ rest. Some (record { table = t; partition = p; clustering = c.0 }, rest) in
    let a = bind_some (table_at bytes) (λ t. after (codes "(") t.1 >>= λ rest. values_at rest >>= λ p. clustering_at p.1 >>= last t.0 p.0) x h in
    let b = bind_some (after (codes "(") a.0.1) (λ rest. values_at rest >>= λ p. clustering_at p.1 >>= last a.0.0 p.0) x a.2 in
    let c = bind_some (values_at b.0) (λ p. clustering_at p.1 >>= last a.0.0 p.0) x b.2 in
    let d = bind_some (clustering_at c.0.1) (last a.0.0 c.0.0) x c.2 in
    let e = bind_some (after (codes ")") d.0.1) (λ rest. Some (record { table = a.0.0; partition = c.0.0; clustering = d.0.0 }, rest)) x d.2 in
    let t = table_sound bytes a.0 a.1 in
    let p = values_sound b.0 c.0 c.1 in
    let k = clustering_sound c.0.1 d.0 d.1 in
    let two = join (table_text a.0.0) (codes "(") b.0 t.parts (after_is (codes "(") a.0.1 b.0 b.1) in
    let three = join (table_text a.0.0 ++ codes "(") (values_text_of c.0.0) c.0.1 two p.parts in
    let four = join (table_text a.0.0 ++ codes "(" ++ values_text_of c.0.0) (clustering_text_of d.0.0) d.0.1 three k.parts in
    let five = join (table_text a.0.0 ++ codes "(" ++ values_text_of c.0.0 ++ clustering_text_of d.0.0) (codes ")") e.0 four (after_is (codes ")") d.0.1 e.0 e.1) in
    let made : Key = record { table = a.0.0; partition = c.0.0; clustering = d.0.0 } in
    subst (Says key_text_of key_fits bytes) (same_Some (made, e.0) x e.2)
    (record { parts = five; fits = record { ns = t.fits.ns; table = t.fits.table; partition = p.fits; clustering = k.fits } })

key_pieces : (t p c rest : List ℕ) → (t ++ codes "(" ++ p ++ c ++ codes ")") ++ rest ≡ t ++ 40 ∷ (p ++ (c ++ 41 ∷ rest))
key_pieces t p c rest = simp append_assoc

pub key_again : Again key_at key_text_of key_fits
unfolding key_at
key_again k rest fits =
    let last : List ℕ = clustering_text_of k.clustering ++ 41 ∷ rest in
    let t = table_again k.table (40 ∷ (values_text_of k.partition ++ last)) (record { ns = fits.ns; table = fits.table }) refl in
    let p = values_again k.partition last fits.partition (clustering_ends k.clustering rest) in
    let c = clustering_again k.clustering rest fits.clustering in
    ap key_at (key_pieces (table_text k.table) (values_text_of k.partition) (clustering_text_of k.clustering) rest) ∙ rw (t, p, c) refl

---- spans

abbrev partition_fits : Option (List Value) → Type 0
partition_fits p = IfSome p values_are_plain

partition_sound : Sound partition_at partition_text_of partition_fits
unfolding partition_at
partition_sound bytes x h =
    case_some (row_at bytes) (λ row. Some (Some row.0, row.1)) (Some (None, bytes)) (Some x) h
    (λ row q k. let s = row_sound bytes row q in subst (Says partition_text_of partition_fits bytes) (same_Some (Some row.0, row.1) x k) (record { parts = s.parts; fits = s.fits }))
    (λ q k. subst (Says partition_text_of partition_fits bytes) (same_Some (None, bytes) x k) (record { parts = refl; fits = tt }))

pub span_sound : Sound span_at span_text_of span_is_plain
unfolding span_at
span_sound bytes x h =
    let a = bind_some (table_at bytes) (λ t. partition_at t.1 >>= λ p. Some (record { table = t.0; partition = p.0 }, p.1)) x h in
    let b = bind_some (partition_at a.0.1) (λ p. Some (record { table = a.0.0; partition = p.0 }, p.1)) x a.2 in
    let t = table_sound bytes a.0 a.1 in
    let p = partition_sound a.0.1 b.0 b.1 in
    let made : Span = record { table = a.0.0; partition = b.0.0 } in
    subst (Says span_text_of span_is_plain bytes) (same_Some (made, b.0.1) x b.2)
    (record { parts = join (table_text a.0.0) (partition_text_of b.0.0) b.0.1 t.parts p.parts; fits = record { table = t.fits; partition = p.fits } })

no_row : (rest : List ℕ) → row_at (32 ∷ rest) ≡ None
unfolding row_at
no_row rest = refl

-- a space after a span
pub span_again : (s : Span) (rest : List ℕ) → span_is_plain s → span_at (span_text_of s ++ 32 ∷ rest) ≡ Some (s, 32 ∷ rest)
unfolding span_at partition_at
span_again s rest fits =
    elim s.partition as (λ p. s.partition ≡ p → IfSome p values_are_plain → span_at ((table_text s.table ++ partition_text_of p) ++ 32 ∷ rest) ≡ Some (record { table = s.table; partition = p }, 32 ∷ rest)) [
      | None ↦ λ q f. ap span_at (append_assoc (table_text s.table) [] (32 ∷ rest)) ∙ rw (table_again s.table (32 ∷ rest) fits.table refl, no_row rest) refl
      | Some vs ↦ λ q f.
          let row : row_at (row_text_of vs ++ 32 ∷ rest) ≡ Some (vs, 32 ∷ rest) = row_again vs (32 ∷ rest) f in
          ap span_at (append_assoc (table_text s.table) (row_text_of vs) (32 ∷ rest)) ∙ rw (table_again s.table (row_text_of vs ++ 32 ∷ rest) fits.table refl, row) refl
    ] refl fits.partition

---- columns

-- a column that may follow those before it
pub record ColumnAfter (before : List Pair) (p : Pair) : Type 0 where
  pub fits : pair_fits p
  pub next : is_next_column (last_of before) p ≡ true

pair_sound : (before : List Pair) (bytes : List ℕ) (x : Pair × List ℕ) → pair_at before bytes ≡ Some x → Says pair_text_of (ColumnAfter before) bytes x
unfolding pair_at
pair_sound before bytes x h =
    let end : List ℕ → Value × List ℕ → Option (Pair × List ℕ) = λ n v. column_of (last_of before) (record { name = n; value = v.0 }) >>= λ p. Some (p, v.1) in
    let a = bind_some (name_at bytes) (λ n. after (codes "=") n.1 >>= λ rest. value_at rest >>= end n.0) x h in
    let b = bind_some (after (codes "=") a.0.1) (λ rest. value_at rest >>= end a.0.0) x a.2 in
    let c = bind_some (value_at b.0) (end a.0.0) x b.2 in
    let p : Pair = record { name = a.0.0; value = c.0.0 } in
    let d = bind_some (column_of (last_of before) p) (λ p. Some (p, c.0.1)) x c.2 in
    let passed = cond_some (is_next_column (last_of before) p) p d.0 d.1 in
    let name = name_sound bytes a.0 a.1 in
    let v = value_sound b.0 c.0 c.1 in
    let two = join a.0.0 (codes "=") b.0 name.parts (after_is (codes "=") a.0.1 b.0 b.1) in
    let three = join (a.0.0 ++ codes "=") (value_text_of c.0.0) c.0.1 two v.parts in
    let said : Says pair_text_of (ColumnAfter before) bytes (p, c.0.1) = record { parts = three; fits = record { fits = (name.fits, v.fits); next = passed.0 } } in
    subst (Says pair_text_of (ColumnAfter before) bytes) (same_Some (d.0, c.0.1) x d.2) (subst (λ (y : Pair). Says pair_text_of (ColumnAfter before) bytes (y, c.0.1)) passed.1 said)

abbrev behind : Pair → List ℕ
behind p = codes "," ++ pair_text_of p

next_sound : (xs : List Pair) (bytes : List ℕ) (x : Pair × List ℕ) → next_pair_at xs bytes ≡ Some x → Says behind (ColumnAfter xs) bytes x
next_sound xs bytes x h =
    let a = bind_some (after (codes ",") bytes) (pair_at xs) x h in
    let s = pair_sound xs a.0 x a.2 in
    record { parts = join (codes ",") (pair_text_of x.0) x.1 (after_is (codes ",") bytes a.0 a.1) s.parts; fits = s.fits }

starts : (p : Pair) (ps xs : List Pair) → Each ColumnAfter (xs ++ p ∷ []) ps → starts_above p.name ps ≡ true
starts p [] xs h = refl
starts p (q ∷ qs) xs h =
    and_second (not (is_null q.value)) (is_above (Some p) q.name) (subst (λ (o : Option Pair). is_next_column o q ≡ true) (last_of-push xs p) h.0.next)

-- columns one after another are columns
each_columns : (xs ps : List Pair) → Each ColumnAfter xs ps → are_columns ps ≡ true
each_columns xs [] h = refl
each_columns xs (p ∷ ps) h =
    and_both (not (is_null p.value)) _ (and_first (not (is_null p.value)) _ h.0.next) (and_both (starts_above p.name ps) _ (starts p ps xs h.1) (each_columns (xs ++ p ∷ []) ps h.1))

each_fits : (xs ps : List Pair) → Each ColumnAfter xs ps → columns_fit ps
each_fits xs ps h = record { sorted = each_columns xs ps h; pairs = All-from_recursion pair_fits ps (Each-all ColumnAfter pair_fits (λ xs p f. f.fits) xs ps h) }

abbrev pub pairs_text_of : List Pair → List ℕ
pairs_text_of ps = join_by pair_text_of (codes ",") ps

some_pairs_sound : Sound some_pairs_at pairs_text_of columns_fit
unfolding some_pairs_at
some_pairs_sound bytes x h =
    let a = bind_some (pair_at [] bytes) (λ p. Some (many next_pair_at (length p.1) (p.0 ∷ []) p.1)) x h in
    let first = pair_sound [] bytes a.0 a.1 in
    let y : List Pair × List ℕ = many next_pair_at (length a.0.1) (a.0.0 ∷ []) a.0.1 in
    let m = many_is next_pair_at behind ColumnAfter next_sound (length a.0.1) (a.0.0 ∷ []) a.0.1 in
    let parts : bytes ≡ pairs_text_of (a.0.0 ∷ m.items) ++ y.1 = join (pair_text_of a.0.0) (flat_map behind m.items) y.1 first.parts m.parts in
    subst (Says pairs_text_of columns_fit bytes) (same_Some y x a.2)
    (record {
      parts = parts ∙ ap (λ (ps : List Pair). pairs_text_of ps ++ y.1) (sym m.all);
      fits = subst columns_fit (sym m.all) (each_fits [] (a.0.0 ∷ m.items) (first.fits, m.each));
    })

pub pairs_sound : Sound pairs_at pairs_text_of columns_fit
unfolding pairs_at
pairs_sound bytes x h =
    case_some (some_pairs_at bytes) (λ ps. Some ps) (Some ([], bytes)) (Some x) h
    (λ y q k. subst (Says pairs_text_of columns_fit bytes) (same_Some y x k) (some_pairs_sound bytes y q))
    (λ q k. subst (Says pairs_text_of columns_fit bytes) (same_Some ([], bytes) x k) (record { parts = refl; fits = record { sorted = refl; pairs = All-from_recursion pair_fits [] tt } }))

pub columns_sound : Sound columns_at columns_text_of columns_fit
unfolding columns_at
columns_sound bytes x h =
    let a = bind_some (after (codes "{") bytes) (λ rest. pairs_at rest >>= λ ps. after (codes "}") ps.1 >>= λ rest. Some (ps.0, rest)) x h in
    let b = bind_some (pairs_at a.0) (λ ps. after (codes "}") ps.1 >>= λ rest. Some (ps.0, rest)) x a.2 in
    let c = bind_some (after (codes "}") b.0.1) (λ rest. Some (b.0.0, rest)) x b.2 in
    let ps = pairs_sound a.0 b.0 b.1 in
    let two = join (codes "{") (pairs_text_of b.0.0) b.0.1 (after_is (codes "{") bytes a.0 a.1) ps.parts in
    subst (Says columns_text_of columns_fit bytes) (same_Some (b.0.0, c.0) x c.2)
    (record { parts = join (codes "{" ++ pairs_text_of b.0.0) (codes "}") c.0 two (after_is (codes "}") b.0.1 c.0 c.1); fits = ps.fits })

pair_again : (before : List Pair) (p : Pair) (rest : List ℕ) → ColumnAfter before p → EndsValue rest → pair_at before (pair_text_of p ++ rest) ≡ Some (p, rest)
unfolding pair_at
pair_again before p rest h e =
    let regrouped : pair_text_of p ++ rest ≡ p.name ++ 61 ∷ (value_text_of p.value ++ rest) = append_assoc (p.name ++ codes "=") (value_text_of p.value) rest ∙ append_assoc p.name (codes "=") (value_text_of p.value ++ rest) in
    ap (pair_at before) regrouped ∙ rw (name_again p.name (61 ∷ (value_text_of p.value ++ rest)) h.fits.0 refl, value_again p.value rest h.fits.1 e, h.next) refl

next_again : (xs : List Pair) (p : Pair) (rest : List ℕ) → ColumnAfter xs p → EndsValue rest → next_pair_at xs (behind p ++ rest) ≡ Some (p, rest)
next_again xs p rest h e = pair_again xs p rest h e

behind_some : (p : Pair) → 0 < length (behind p)
behind_some p = omega arith

behind_ends : (ps : List Pair) (rest : List ℕ) → EndsValue rest → EndsValue (flat_map behind ps ++ rest)
behind_ends [] rest e = e
behind_ends (p ∷ ps) rest e = refl

full_first : (p : Pair) (ps : List Pair) → are_columns (p ∷ ps) ≡ true → not (is_null p.value) ≡ true
full_first p ps h = and_first (not (is_null p.value)) _ h

-- columns are columns one after another
columns_each : (xs ps : List Pair) → ((q : Pair) (qs : List Pair) → ps ≡ q ∷ qs → is_above (last_of xs) q.name ≡ true) → are_columns ps ≡ true → AllByRecursion pair_fits ps → Each ColumnAfter xs ps
columns_each xs [] first sorted fits = tt
columns_each xs (p ∷ ps) first sorted fits =
    let above : (q : Pair) (qs : List Pair) → ps ≡ q ∷ qs → is_above (last_of (xs ++ p ∷ [])) q.name ≡ true =
    λ q qs e. subst (λ (o : Option Pair). is_above o q.name ≡ true) (sym (last_of-push xs p)) (subst (λ (l : List Pair). starts_above p.name l ≡ true) e (tail_above p ps sorted)) in
    (record { fits = fits.0; next = and_both (not (is_null p.value)) (is_above (last_of xs) p.name) (full_first p ps sorted) (first p ps refl) }, columns_each (xs ++ p ∷ []) ps above (tail_columns p ps sorted) fits.1)

no_pairs : (rest : List ℕ) → some_pairs_at (125 ∷ rest) ≡ None
unfolding some_pairs_at pair_at name_at
no_pairs rest = refl

pairs_again : (ps : List Pair) (rest : List ℕ) → columns_fit ps → pairs_at (pairs_text_of ps ++ 125 ∷ rest) ≡ Some (ps, 125 ∷ rest)
unfolding pairs_at some_pairs_at
pairs_again [] rest fits = rw (no_pairs rest) refl
pairs_again (p ∷ ps) rest fits =
    let each = columns_each [] (p ∷ ps) (λ q qs e. refl) fits.sorted (recursion_from_All pair_fits (p ∷ ps) fits.pairs) in
    let end : List ℕ = 125 ∷ rest in
    let after : List ℕ = flat_map behind ps ++ end in
    let regrouped : (pair_text_of p ++ flat_map behind ps) ++ end ≡ pair_text_of p ++ after = append_assoc (pair_text_of p) (flat_map behind ps) end in
    let first : pair_at [] (pair_text_of p ++ after) ≡ Some (p, after) = pair_again [] p after each.0 (behind_ends ps end refl) in
    let others : many next_pair_at (length after) (p ∷ []) after ≡ (p ∷ ps, end) =
    many_again next_pair_at behind ColumnAfter EndsValue end next_again (λ q r. refl) refl (λ xs. refl) ps (length after) (p ∷ []) (count_le behind behind_some ps end) each.1 in
    ap pairs_at regrouped ∙ rw (first, others) refl

pub columns_again : Again columns_at columns_text_of columns_fit
unfolding columns_at
columns_again ps rest fits =
    let regrouped : (pairs_text_of ps ++ codes "}") ++ rest ≡ pairs_text_of ps ++ 125 ∷ rest = append_assoc (pairs_text_of ps) (codes "}") rest in
    rw (regrouped, pairs_again ps rest fits) refl

---- records

pub record_sound : Sound record_at record_text_of record_fits
unfolding record_at
record_sound bytes x h =
    let a = bind_some (key_at bytes) (λ key. columns_at key.1 >>= λ columns. Some (record { key = key.0; columns = columns.0 }, columns.1)) x h in
    let b = bind_some (columns_at a.0.1) (λ columns. Some (record { key = a.0.0; columns = columns.0 }, columns.1)) x a.2 in
    let k = key_sound bytes a.0 a.1 in
    let c = columns_sound a.0.1 b.0 b.1 in
    let made : Record = record { key = a.0.0; columns = b.0.0 } in
    subst (Says record_text_of record_fits bytes) (same_Some (made, b.0.1) x b.2)
    (record { parts = join (key_text_of a.0.0) (columns_text_of b.0.0) b.0.1 k.parts c.parts; fits = record { key = k.fits; columns = c.fits } })

pub record_again : Again record_at record_text_of record_fits
unfolding record_at
record_again r rest fits =
    let regrouped : record_text_of r ++ rest ≡ key_text_of r.key ++ (columns_text_of r.columns ++ rest) = append_assoc (key_text_of r.key) (columns_text_of r.columns) rest in
    ap record_at regrouped ∙ rw (key_again r.key (columns_text_of r.columns ++ rest) fits.key, columns_again r.columns rest fits.columns) refl
