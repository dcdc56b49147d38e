-- What the queries show of the table, and that they leave it.
use Rattle.std.proofs.Common.{◌≡◌, ◌⊎◌, inl, inr, ℕ, ◌≤◌, List, [], ◌∷◌, map, filter, length, Bool, true, false, Some, Ok, Err, Result, refl, sym, ap, subst, ◌∙◌, IsPermutation, is_eq}
use Rattle.std.specs.Prelude.{bytes_eq, IsTrue, MatchResult}
use Rattle.std.specs.List.{list_all, AllByRecursion}
use Rattle.std.proofs.lemmas.List.Sorted.{IsPermutation-map}
use Rattle.std.proofs.lemmas.List.Concat.{flat_map_single}
use Rattle.std.proofs.lemmas.Map.Text.{is_eq-slice_cmp}
use Rattle.sqlite.specs.declared.types.Value.TheVariants.{Null, Text, Blob}
use Rattle.sdb_sqlite.specs.Types.{Error, Key}
use Rattle.sqlite.specs.Order.{Row}
use Rattle.sqlite.specs.Term.{Term, holds}
use Rattle.sqlite.specs.Tree.{Trees, IsTable}
use Rattle.sqlite.specs.Ops.{is_true, from_truth, binary}
use Rattle.sqlite.specs.Program.{IsProgramAnswer, overlay}
use Rattle.sqlite.specs.Query.{inner, end, IsAnswer, matches, output, Output}
use Rattle.sqlite_sql.proofs.GroupLemmas.{matches-filter}
use Rattle.sqlite_sql.specs.declared.ops.BinaryOp.TheVariants.{Compare}
use Rattle.sqlite_sql.specs.declared.ops.CompareOp.TheVariants.{Eq}
use Rattle.sqlite_trees.proofs.ListLemmas.{filter-map, map-map}
use Rattle.sqlite_value.proofs.OrderLemmas.{value_cmp-Blob, value_cmp-Text}
use Rattle.sqlite.specs.Collation.TheVariants.{Binary}
use Rattle.sqlite.specs.Listing.{understood}
use Rattle.sqlite.specs.Schema.{Schema}
use Rattle.sqlite.specs.Effect.{Database}
use Rattle.sqlite.specs.State.{State, Shown, FailsToQuery, IsNotRun, IsUnchanged, IsRolledBack}
use Rattle.sqlite.proofs.Callers.{IsPlain}
use Rattle.sdb_sqlite.specs.Table.{records_schema}
use Rattle.sdb_sqlite.specs.Rows.{IsRowOfStore, rows_at}
use Rattle.sdb_sqlite.specs.Database.{HasForm, HasTable, HoldsRows}
use Rattle.sdb_sqlite.proofs.Texts.{selected}

---- what passes

-- the rows of the table that pass the tests
abbrev pub passes : List Term → Row → Row → Bool
passes terms params row = list_all (holds (params ∷ row ∷ [])) terms

matched : (db : Trees) (terms : List Term) (params : Row) → matches db terms (inner 0 end) (params ∷ []) ≡ map (λ r. params ∷ r ∷ []) (filter (passes terms params) (db 0))
matched db terms params =
    matches-filter db terms (inner 0 end) (params ∷ [])
    ∙ ap (filter (λ e. list_all (holds e) terms)) (flat_map_single (λ r. params ∷ r ∷ []) (db 0))
    ∙ filter-map (λ e. list_all (holds e) terms) (λ r. params ∷ r ∷ []) (db 0)

true_of : (b : Bool) → is_true (from_truth (Some b)) ≡ b
true_of true = refl
true_of false = refl

pub blobs_test : (k a : List ℕ) → is_true (binary (Compare Eq Binary) (Blob a) (Blob k)) ≡ bytes_eq a k
unfolding binary
blobs_test k a = true_of _ ∙ ap is_eq (value_cmp-Blob a k) ∙ is_eq-slice_cmp a k

pub texts_test : (k a : List ℕ) → is_true (binary (Compare Eq Binary) (Text a) (Text k)) ≡ bytes_eq a k
unfolding binary
texts_test k a = true_of _ ∙ ap is_eq (value_cmp-Text a k) ∙ is_eq-slice_cmp a k

---- what is shown

-- what a query shows of a row
abbrev pub observed_in : List Term → List Term → Row → Row → Row
observed_in terms shown params row = (output (selected terms shown) (params ∷ row ∷ [])).1

-- The rows of an answer are what is shown of the rows that pass, in any order.
pub answered : (db : Trees) (terms shown : List Term) (params : Row) (rows : List Row) → IsProgramAnswer [] (selected terms shown) db params rows
    → IsPermutation (map (observed_in terms shown params) (filter (passes terms params) (db 0))) rows
answered db terms shown params rows h =
    let q = selected terms shown in
    let passing = filter (passes terms params) (db 0) in
    let first : List Output → List Row = map (λ (o : Output). o.1) in
    let a : IsAnswer q (overlay db []) params rows = h Null in
    let staged : a.staged ≡ map (λ r. params ∷ r ∷ []) passing = a.grouped ∙ matched (overlay db []) terms params in
    let kept : a.kept ≡ map (output q) (map (λ r. params ∷ r ∷ []) passing) = a.distinct ∙ ap (map (output q)) staged in
    let is : first a.kept ≡ map (observed_in terms shown params) passing = ap first kept ∙ map-map (λ (o : Output). o.1) (output q) _ ∙ map-map _ (λ r. params ∷ r ∷ []) passing in
    subst (λ (xs : List Row). IsPermutation xs rows) is (subst (IsPermutation (first a.kept)) (sym a.shown) (IsPermutation-map (λ (o : Output). o.1) a.kept a.ordered a.same))

---- what stays

-- the contents stay where nothing changed, and where a failure rolled back
pub unchanged_keeps : {schema : Schema} (old new : State) → HasForm schema old → IsUnchanged old new → new.step_limit ≡ old.step_limit → HasForm schema new × (new.now ≡ old.now)
unchanged_keeps old new it same limit =
    let now = same.0.now_is in (
      record {
        schema = ap (λ (d : Database). d.schema) now ∙ it.schema;
        rows = subst (λ (d : Database). AllByRecursion IsRowOfStore (d.trees 0)) (sym now) it.rows;
        numbered = subst (λ (d : Database). IsTable (d.trees 0)) (sym now) it.numbered;
        once = subst (λ (d : Database). (key : Key) → length (rows_at key (d.trees 0)) ≤ 1) (sym now) it.once;
        settled = same.0.committed_is ∙ it.settled ∙ sym now;
        autocommit = same.0.mode ∙ it.autocommit;
        unlimited = limit ∙ it.unlimited;
      },
      now,
    )

pub undone_keeps : {schema : Schema} (old new : State) → HasForm schema old → IsRolledBack old new → IsTrue new.is_open → new.step_limit ≡ old.step_limit → HasForm schema new × (new.now ≡ old.now)
undone_keeps old new it back is_open limit =
    let now : new.now ≡ old.now = (back.undone is_open).0 ∙ it.settled in (
      record {
        schema = ap (λ (d : Database). d.schema) now ∙ it.schema;
        rows = subst (λ (d : Database). AllByRecursion IsRowOfStore (d.trees 0)) (sym now) it.rows;
        numbered = subst (λ (d : Database). IsTable (d.trees 0)) (sym now) it.numbered;
        once = subst (λ (d : Database). (key : Key) → length (rows_at key (d.trees 0)) ≤ 1) (sym now) it.once;
        settled = (back.undone is_open).1 ∙ it.settled ∙ sym now;
        autocommit = back.autocommit;
        unlimited = limit ∙ it.unlimited;
      },
      now,
    )

pub rows_held : (s : State) → HasTable s → HoldsRows s
rows_held s it = record { schema = it.schema; rows = it.rows; numbered = it.numbered; once = it.once; unlimited = it.unlimited }

-- A query of a plain text changes nothing where it is answered, and where it fails the transaction may be undone.
module _ (text : List ℕ) (plain_text : IsPlain (understood records_schema text)) (params : Row) (old new : State) (has : old.now.schema ≡ records_schema) where
  pub shown_same : (rows : List Row) → Shown text params old new rows → IsUnchanged old new
  unfolding Shown
  shown_same rows h =
      let plain = subst IsPlain (ap (λ s. understood s text) (sym has) ∙ h.1.is) plain_text in
      (rw plain.0 at h.2).3

  pub failed_same : (e : Error) → FailsToQuery text params old new e → IsUnchanged old new ⊎ IsRolledBack old new
  unfolding FailsToQuery IsNotRun
  failed_same e (inl (inl h)) = inl h.1
  failed_same e (inl (inr h)) = inr h.3
  failed_same e (inr h) =
      let plain = subst IsPlain (ap (λ s. understood s text) (sym has) ∙ h.1.is) plain_text in
      inl (rw plain.0 at h.2).3

-- A query of a plain text leaves what the database holds, whatever it answers.
module _ (text : List ℕ) (plain_text : IsPlain (understood records_schema text)) (params : Row) (old new : State) (it : HasTable old) (limit : new.step_limit ≡ old.step_limit) where
  shown_keeps : (rows : List Row) → Shown text params old new rows → HasTable new × (new.now ≡ old.now)
  shown_keeps rows h = unchanged_keeps old new it (shown_same text plain_text params old new it.schema rows h) limit

  failed_keeps : (e : Error) → IsTrue new.is_open → FailsToQuery text params old new e → HasTable new × (new.now ≡ old.now)
  failed_keeps e is_open h = elim (failed_same text plain_text params old new it.schema e h) [
    | inl same ↦ unchanged_keeps old new it same limit
    | inr back ↦ undone_keeps old new it back is_open limit
  ]

  pub query_keeps : (answer : Result (List Row) Error) → IsTrue new.is_open → MatchResult answer (Shown text params old new) (FailsToQuery text params old new) → HasTable new × (new.now ≡ old.now)
  query_keeps (Ok rows) is_open h = shown_keeps rows h
  query_keeps (Err e) is_open h = failed_keeps e is_open h
