-- What is held once the table and its index are made.
use Rattle.std.proofs.Common.{◌≡◌, inl, inr, ℕ, List, [], false, None, Ok, sym, ap, subst, ◌∙◌, arith}
use Rattle.std.specs.FinMap as map
use Rattle.sqlite.specs.Command.TheVariants.{CreateTable, CreateIndex, Nothing}
use Rattle.sqlite.specs.Schema.{Schema}
use Rattle.sqlite.specs.Change.{created, indexed, next_tree}
use Rattle.sqlite.specs.Does.{Tally, Does, lacks_sequence}
use Rattle.sqlite.specs.Listing.{understood}
use Rattle.sqlite.specs.Effect.{Database}
use Rattle.sqlite.specs.Store.{Ghosts}
use Rattle.sqlite.specs.Held.{Held as Connected, IsNew, state}
use Rattle.sqlite.specs.Steps.{IsEmpty, over_memory}
use Rattle.sqlite_trees.specs.declared.memory.MemStore.{MemStore}
use Rattle.sqlite.specs.State.{State, Executes, mode_of}
use Rattle.sqlite.proofs.Callers.{IsPlain, command_of, statement_of, runs_as}
use Rattle.sdb_sqlite.specs.Statements.{make_table, make_index}
use Rattle.sdb_sqlite.specs.Table.{records, by_partition, no_schema, table_schema, records_schema}
use Rattle.sdb_sqlite.specs.Database.{IsBlank, HasForm, HasTable, IsFormed, contents_of_state}
use Rattle.sdb_sqlite.specs.Rows.{contents_of_rows}
use Rattle.sdb_sqlite.specs.Making.{IsMade}
use Rattle.sdb_sqlite.proofs.Texts.{make_is, make_plain, created_is, made_table, made_table_plain, made_both, made_both_plain, index_is, index_plain, indexed_is, index_again, index_again_plain}
use Rattle.sdb_sqlite.proofs.Queries.{unchanged_keeps}
use Rattle.sdb_sqlite.proofs.Writes.{went, same_value}
use Rattle.sdb_sqlite.proofs.Gets.{IsSure}

-- the table is made
makes_table : (old new : State) (count : ℕ) → IsBlank old → new.step_limit ≡ old.step_limit → Executes make_table [] old new (Ok count) → HasForm table_schema new × (new.now.trees 0 ≡ [])
makes_table old new count it limit h =
    let w = runs_as make_table [] old new no_schema it.schema CreateTable make_is.0 make_plain count h in
    let all = went w.changed in
    let first = went all.1 in
    let made = first.1 in
    let both : Ok made.table ≡ Ok records = sym made.defined ∙ make_is.1 in
    let same : made.table ≡ records = same_value both in
    let schema : first.0.schema ≡ table_schema = made.is ∙ ap (λ s. created s made.table) it.schema ∙ ap (created no_schema) same ∙ created_is in
    let plain : lacks_sequence first.0.schema ≡ false = ap lacks_sequence schema in
    let now : new.now ≡ first.0 = ap (λ (p : Tally × Database). p.1) (same_value all.2) ∙ same_value (rw plain at first.2) in
    let empty : new.now.trees 0 ≡ [] = ap (λ (d : Database). d.trees 0) now ∙ subst (λ s. first.0.trees (next_tree s) ≡ []) it.schema made.empty in (
      record {
        schema = ap (λ (d : Database). d.schema) now ∙ schema;
        rows = rw empty tt;
        numbered = rw empty tt;
        once = λ k. rw empty (omega arith);
        settled = rw (it.autocommit) at w.shown.committed_is;
        autocommit = w.shown.mode ∙ it.autocommit;
        unlimited = limit ∙ it.unlimited;
      },
      empty,
    )

-- a text that does nothing leaves all
nothing_keeps : {schema : Schema} (text : List ℕ) (is : command_of (understood schema text) ≡ Nothing) (plain : IsPlain (understood schema text)) (old new : State) (count : ℕ) → HasForm schema old → new.step_limit ≡ old.step_limit
    → Executes text [] old new (Ok count) → HasForm schema new × (new.now ≡ old.now)
nothing_keeps {schema} text is plain old new count it limit h =
    let ran = runs_as text [] old new schema it.schema Nothing is plain count h in
    unchanged_keeps old new it ran.0 limit

-- the index is made
makes_index : (old new : State) (count : ℕ) → HasForm table_schema old → new.step_limit ≡ old.step_limit → Executes make_index [] old new (Ok count) → HasTable new × (new.now.trees 0 ≡ old.now.trees 0)
makes_index old new count it limit h =
    let w = runs_as make_index [] old new table_schema it.schema (CreateIndex 0) index_is.0 index_plain count h in
    let text = statement_of make_index (understood table_schema make_index) in
    let done = went (subst (λ s. Does old.step_limit (mode_of old) [] (record old.now { schema = s }) text None (CreateIndex 0) (Ok (w.tally, new.now))) it.schema w.changed) in
    let made = done.1 in
    let both : Ok made.index ≡ Ok (record by_partition { tree = 0 }) = sym made.defined ∙ index_is.1 in
    let same = same_value both in
    let schema : done.0.schema ≡ records_schema = made.is ∙ ap (indexed table_schema records) same ∙ indexed_is in
    let now : new.now ≡ done.0 = ap (λ (p : Tally × Database). p.1) (same_value done.2) in
    let rows : new.now.trees 0 ≡ old.now.trees 0 = ap (λ (d : Database). d.trees 0) now ∙ made.rows.0 in (
      record {
        schema = ap (λ (d : Database). d.schema) now ∙ schema;
        rows = rw rows (it.rows);
        numbered = rw rows (it.numbered);
        once = λ k. rw rows (it.once k);
        settled = rw (it.autocommit) at w.shown.committed_is;
        autocommit = w.shown.mode ∙ it.autocommit;
        unlimited = limit ∙ it.unlimited;
      },
      rows,
    )

module _ {S : Type 0} (g : Ghosts S) (sure : (c : Connected S) → IsSure g c) (old new : Connected S) (made : IsMade g old new) where
  indexed_told : HasForm table_schema (state g made.mid) → HasTable (state g new) × (contents_of_state (state g new) ≡ contents_of_state (state g made.mid))
  indexed_told it =
      let done = makes_index (state g made.mid) (state g new) made.more it made.index.limit (made.index.runs (sure new).1) in
      (done.0, ap contents_of_rows done.1)

  pub blank_told : IsBlank (state g old) → HasTable (state g new) × (contents_of_state (state g new) ≡ map.empty)
  blank_told it =
      let first = makes_table (state g old) (state g made.mid) made.rows it made.table.limit (made.table.runs (sure made.mid).1) in
      let then_index = indexed_told first.0 in
      (then_index.0, then_index.1 ∙ ap contents_of_rows first.1)

  pub found_told : IsFormed (state g old) → HasTable (state g new) × (contents_of_state (state g new) ≡ contents_of_state (state g old))
  found_told (inl it) =
      let first = nothing_keeps make_table made_table made_table_plain (state g old) (state g made.mid) made.rows it made.table.limit (made.table.runs (sure made.mid).1) in
      let then_index = indexed_told first.0 in
      (then_index.0, then_index.1 ∙ ap (λ (d : Database). contents_of_rows (d.trees 0)) first.1)
  found_told (inr it) =
      let first = nothing_keeps make_table made_both made_both_plain (state g old) (state g made.mid) made.rows it made.table.limit (made.table.runs (sure made.mid).1) in
      let second = nothing_keeps make_index index_again index_again_plain (state g made.mid) (state g new) made.more first.0 made.index.limit (made.index.runs (sure new).1) in
      (second.0, ap (λ (d : Database). contents_of_rows (d.trees 0)) (second.1 ∙ first.1))

---- a new database in memory

pub new_is_blank : (h : Connected MemStore) → IsEmpty (state over_memory h) → IsNew h → IsBlank (state over_memory h)
new_is_blank h empty new = record { schema = empty.2; settled = sym empty.0.clean; autocommit = empty.0.autocommit; unlimited = new.unlimited }
