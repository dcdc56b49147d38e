-- What is read of a row is what the row says.
use Rattle.std.proofs.Common.{◌≡◌, ◌≢◌, subst, ℕ, List, [], ◌∷◌, true, false, inl, inr, refl, sym, ap, ◌∙◌, cond, Option, Some, None, Result, Ok, Err, codes}
use Rattle.std.specs.Prelude.{Bool, IfOk, IfErr, OnOk, IfSome, is_some, find}
use Rattle.std.specs.Option.{option_map}
use Rattle.std.specs.Result.{result_ok}
use Rattle.std.specs.Str.{bytes_eq}
use Rattle.std.proofs.lemmas.Slice.Eq.{bytes_eq-Decides}
use Rattle.sdb_catalog.specs.Types.{Record, SchemaFault, Table, TableName, TxId}
use Rattle.sdb_types.specs.Order.{table_text}
use Rattle.sdb_types.specs.TxId.{id_text}
use Rattle.sdb_schema.specs.Table.{is_table, rises}
use Rattle.sdb_loader.specs.Words.{names_table, table_named}
use Rattle.sdb_loader.specs.Described.{described_table, Faults}
use Rattle.sdb_loader.specs.declared.fault.SchemaFault.TheVariants as fault
use Rattle.sdb_loader.proofs.Public.{table_named-text, text_of}
use Rattle.sdb_catalog.specs.declared.entry.Entry.{Entry}
use Rattle.sdb_catalog.specs.declared.read.Texts.{Texts as Borrowed}
use Rattle.sdb_catalog.specs.Definition.{definition_text}
use Rattle.sdb_catalog.specs.Rows.{MayHaveRow, Texts, coordinators, metadata_key_of, row_of, texts_of}
use Rattle.sdb_catalog.specs.Opened.{is_attached}
use Rattle.sdb_catalog.specs.Borrowed.{names_of_borrowed}
use Rattle.sdb_catalog.proofs.Again.{definition_again, rising_columns}
use Rattle.sdb_types.proofs.Public.{none_some, some_is}

---- tables

pub not_same : (text : List ℕ) → false ≡ bytes_eq text (codes "coordinator.state") → text ≡ codes "coordinator.state" → ⊥
not_same text h same = let e : true ≡ false = sym ((bytes_eq-Decides text (codes "coordinator.state")).1 same) ∙ sym h in cc

abbrev pub own_text : List ℕ
own_text = codes "coordinator.state"

own_none : table_named own_text ≡ None
unfolding table_named
own_none = refl

pub own_table : (t : Table) → MayHaveRow t → table_text t.name ≡ own_text → t ≡ coordinators
own_table t h e =
    elim h [
      | inl own ↦ own
      | inr may ↦ none_some t.name (sym own_none ∙ ap table_named (sym e) ∙ table_named-text t.name may.1)
    ]

pub own_name : table_text coordinators.name ≡ own_text
unfolding coordinators
own_name = refl

pub record IsOpenTable (t : Table) : Type 0 where
  pub table : is_table t ≡ true
  pub named : table_named (table_text t.name) ≡ Some t.name

pub open_table : (t : Table) → MayHaveRow t → (table_text t.name ≡ own_text → ⊥) → IsOpenTable t
open_table t h e =
    elim h [
      | inl own ↦ absurd (e (ap (λ (u : Table). table_text u.name) own ∙ own_name))
      | inr may ↦ record { table = may.0; named = table_named-text t.name may.1 }
    ]

pub own_rises : rises coordinators.columns ≡ true
unfolding coordinators
own_rises = refl

-- the columns of a table that may have a row are in the order of their names
pub kept_rises : (t : Table) → MayHaveRow t → rises t.columns ≡ true
kept_rises t h =
    elim h [
      | inl own ↦ ap (λ (u : Table). rises u.columns) own ∙ own_rises
      | inr may ↦ rising_columns t may.0
    ]

-- what is read under a name, and of a definition
pub found_kept : (r : Result Table SchemaFault) (name : TableName) (text : List ℕ) → table_named text ≡ Some name → IfOk r (λ t. is_table t ≡ true) → IfOk r (λ t. t.name ≡ name) → IfSome (result_ok r) MayHaveRow
found_kept (Ok t) name text e h k =
    inr (h, ap (λ (n : TableName). names_table n.ns n.table) k ∙ (text_of text name e).names_are)
found_kept (Err f) name text e h k = tt

not_ok : (t : Table) (f : SchemaFault) (r : Result (List Table) SchemaFault) → r ≡ Ok (t ∷ []) → Faults r f → f ≡ fault.NoMemory
not_ok t fault.NotJson r e h = absurd (let g : Ok (t ∷ []) ≡ Err fault.NotJson = sym e ∙ h in cc)
not_ok t fault.NotAnObject r e h = absurd (let g : Ok (t ∷ []) ≡ Err fault.NotAnObject = sym e ∙ h in cc)
not_ok t (fault.BadTableName text) r e h = absurd (let g : Ok (t ∷ []) ≡ Err (fault.BadTableName text) = sym e ∙ h in cc)
not_ok t (fault.NonTransactional table) r e h = absurd (let g : Ok (t ∷ []) ≡ Err (fault.NonTransactional table) = sym e ∙ h in cc)
not_ok t (fault.BadField table member) r e h = absurd (let g : Ok (t ∷ []) ≡ Err (fault.BadField table member) = sym e ∙ h in cc)
not_ok t (fault.UnknownType table column) r e h = absurd (let g : Ok (t ∷ []) ≡ Err (fault.UnknownType table column) = sym e ∙ h in cc)
not_ok t (fault.BadTable table refusal) r e h = absurd (let g : Ok (t ∷ []) ≡ Err (fault.BadTable table refusal) = sym e ∙ h in cc)
not_ok t fault.TooManyTables r e h = absurd (let g : Ok (t ∷ []) ≡ Err fault.TooManyTables = sym e ∙ h in cc)
not_ok t fault.NoMemory r e h = refl

found_table : (r : Result Table SchemaFault) (name : TableName) (text : List ℕ) (t : Table) → IfOk r (λ u. described_table name text ≡ Ok (u ∷ [])) → IfErr r (Faults (described_table name text)) → r ≢ Err fault.NoMemory → described_table name text ≡ Ok (t ∷ []) → result_ok r ≡ Some t
found_table (Ok u) name text t h k m e = let f : Ok (u ∷ []) ≡ Ok (t ∷ []) = sym h ∙ e in cc
found_table (Err f) name text t h k m e = absurd (m (ap (λ (x : SchemaFault). Err x) (not_ok t f (described_table name text) e k)))

abbrev pub IsTheTable : List ℕ → List ℕ → Option Table → Type 0
IsTheTable name definition found = (t : Table) → MayHaveRow t → table_text t.name ≡ name → definition_text t ≡ definition → found ≡ Some t

-- a name that no table of a schema has is that of no other table
pub no_table : (name definition : List ℕ) → (name ≡ own_text → ⊥) → table_named name ≡ None → IsTheTable name definition None
no_table name definition other none = λ t may same is.
    let o = open_table t may (λ e. other (sym same ∙ e)) in none_some t.name (sym none ∙ ap table_named (sym same) ∙ o.named)

read_as : (r : Result Table SchemaFault) (name : TableName) (text definition : List ℕ) → (text ≡ own_text → ⊥) → table_named text ≡ Some name → IfOk r (λ u. described_table name definition ≡ Ok (u ∷ [])) → IfErr r (Faults (described_table name definition)) → r ≢ Err fault.NoMemory
    → IsTheTable text definition (result_ok r)
read_as r name text definition other named h k m = λ t may same is.
    let o = open_table t may (λ e. other (sym same ∙ e)) in
    let names : t.name ≡ name = some_is t.name name (sym o.named ∙ ap table_named same ∙ named) in
    found_table r name definition t h k m (ap (λ (n : TableName). described_table n definition) (sym names) ∙ ap (described_table t.name) (sym is) ∙ definition_again t o.table)

pub read_found : {E : Type 0} (out : Result (Option Table) E) (r : Result Table SchemaFault) (name : TableName) (text definition : List ℕ) → (text ≡ own_text → ⊥) → table_named text ≡ Some name
    → IfOk r (λ u. described_table name definition ≡ Ok (u ∷ [])) → IfErr r (Faults (described_table name definition)) → IfOk out (λ found. found ≡ result_ok r) → OnOk out (r ≢ Err fault.NoMemory) → IfOk out (IsTheTable text definition)
read_found (Ok found) r name text definition other named h k same m = λ t may at is. same ∙ read_as r name text definition other named h k m t may at is
read_found (Err e) r name text definition other named h k same m = tt

pub kept_found : {E : Type 0} (out : Result (Option Table) E) (r : Result Table SchemaFault) (name : TableName) (text : List ℕ) → table_named text ≡ Some name → IfOk r (λ t. is_table t ≡ true) → IfOk r (λ t. t.name ≡ name) → IfOk out (λ found. found ≡ result_ok r) → IfOk out (λ found. IfSome found MayHaveRow)
kept_found (Ok found) r name text named h k same = subst (λ (o : Option Table). IfSome o MayHaveRow) (sym same) (found_kept r name text named h k)
kept_found (Err e) r name text named h k same = tt

pub own_read : (u : Table) (name definition : List ℕ) → u ≡ coordinators → name ≡ own_text → IsTheTable name definition (Some u)
own_read u name definition own is = λ t may same _. ap Some (own ∙ sym (own_table t may (same ∙ is)))

---- the texts of a row

abbrev pub said_by : Entry → Texts
said_by e = record { name = table_text e.table.name; definition = definition_text e.table; store = e.store; revision = id_text e.revision.0 }

pub row_texts : (e : Entry) → texts_of (row_of e) ≡ Some (said_by e)
unfolding row_of metadata_key_of texts_of
row_texts e = refl

pub texts_said : (e : Entry) (r : Record) (o : Option Borrowed) (b : Borrowed) → option_map names_of_borrowed o ≡ texts_of r → o ≡ Some b → row_of e ≡ r → names_of_borrowed b ≡ said_by e
texts_said e r o b h is row = some_is (names_of_borrowed b) (said_by e) (ap (option_map names_of_borrowed) (sym is) ∙ h ∙ ap texts_of (sym row) ∙ row_texts e)

pub no_texts : {X : Type 0} (e : Entry) (r : Record) (o : Option Borrowed) → option_map names_of_borrowed o ≡ texts_of r → o ≡ None → row_of e ≡ r → X
no_texts e r o h is row = none_some (said_by e) (ap (option_map names_of_borrowed) (sym is) ∙ h ∙ ap texts_of (sym row) ∙ row_texts e)

---- stores

found_holds : {X : Type 0} (p : X → Bool) (xs : List X) (x : X) → find p xs ≡ Some x → p x ≡ true
found_holds p [] x h = none_some x h
found_holds p (y ∷ ys) x h =
    elim (p y) as (λ b. p y ≡ b → cond b (Some y) (find p ys) ≡ Some x → p x ≡ true) [
      | true ↦ λ q k. ap p (sym (some_is y x k)) ∙ q
      | false ↦ λ q k. found_holds p ys x k
    ] refl h

-- the store that is found by a name has that name
pub store_is : (names : List (List ℕ)) (text store : List ℕ) → find (λ n. bytes_eq n text) names ≡ Some store → store ≡ text
store_is names text store h = (bytes_eq-Decides store text).0 (found_holds (λ n. bytes_eq n text) names store h)

pub no_store : {X : Type 0} (names : List (List ℕ)) (text : List ℕ) → find (λ n. bytes_eq n text) names ≡ None → is_attached names text ≡ true → X
no_store names text none there = absurd (let f : false ≡ true = ap is_some (sym none) ∙ there in cc)

pub store_there : (names : List (List ℕ)) (text store : List ℕ) → find (λ n. bytes_eq n text) names ≡ Some store → is_attached names store ≡ true
store_there names text store h = ap (is_attached names) (store_is names text store h) ∙ ap is_some h

---- the entry

abbrev entry_with : Table → List ℕ → TxId → Entry
entry_with t s v = record { table = t; store = s; revision = v }

pub same_entry : (e : Entry) (t : Table) (s : List ℕ) (v : TxId) → t ≡ e.table → s ≡ e.store → v ≡ e.revision → Some (entry_with t s v) ≡ Some e
same_entry e t s v p q r =
    ap (λ (x : Table). Some (entry_with x s v)) p ∙ ap (λ (x : List ℕ). Some (entry_with e.table x v)) q ∙ ap (λ (x : TxId). Some (entry_with e.table e.store x)) r
