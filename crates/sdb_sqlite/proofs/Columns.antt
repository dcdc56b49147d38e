-- What is read of a column of a row.
use Rattle.std.proofs.Common.{◌≡◌, ◌≢◌, ◌⊎◌, inl, inr, ℕ, zero, suc, ◌<◌, ◌≤◌, List, [], ◌∷◌, length, Bool, true, false, cond, None, Ok, Err, Result, IfOk, IfErr, refl, sym, ap, ◌∙◌, is_eq, arith}
use Rattle.std.specs.Prelude.{Vec, nat_lt}
use Rattle.sdb_sqlite.specs.Types.{Error, Global, Key, Pair, Record, Value}
use Rattle.std.proofs.lemmas.Bool.{cases_Bool}
use Rattle.std.proofs.lemmas.Bool.Decides.{nat_tests}
use Rattle.sqlite.specs.declared.types.Value.TheVariants.{Null, Int, Real, Text, Blob}
use Rattle.sqlite.specs.declared.error.Error.TheVariants.{SqliteFailure}
use Rattle.sqlite.specs.declared.error.ErrorCode.TheVariants.{OutOfMemory}
use Rattle.sqlite.specs.declared.rows.Row as row
use Rattle.sqlite.specs.Order.{Row, column}
use Rattle.sqlite.specs.Store.{Ghosts}
use Rattle.sqlite.specs.Held.{Held as Connected, state}
use Rattle.sqlite.specs.State.{HasCleanDisk, Shown, FailsToQuery}
use Rattle.sdb_types.specs.Order.{key_cmp}
use Rattle.sdb_types.specs.Exact.{order_decides}
use Rattle.sdb_types.proofs.Public.{key_exact, key_total}
use Rattle.sdb_codec.specs.Reading.{record_in}
use Rattle.sdb_sqlite.specs.declared.refused.Stopped.{Stopped}
use Rattle.sdb_sqlite.specs.declared.refused.Stopped.TheVariants as stopped
use Rattle.sdb_sqlite.specs.Stopping.{is_out_of_memory, stopped_by}
use Rattle.sdb_sqlite.specs.Rows.{blob_of, own_columns, record_of_body}
use Rattle.sdb_sqlite.specs.Asked.{Asked, rows_of}

-- what `query_all` ensures, as one fact
pub asked_of : {S : Type 0} (g : Ghosts S) (text : List ℕ) (params : Row) (old new : Connected S) (r : Result (Vec row.Row Global) Error)
    → (HasCleanDisk (state g new) → IfOk r (λ rows. Shown text params (state g old) (state g new) rows.items)) → (HasCleanDisk (state g new) → IfErr r (FailsToQuery text params (state g old) (state g new)))
    → new.step_limit ≡ old.step_limit → Asked g text params old new (rows_of r)
asked_of g text params old new (Ok rows) ok err limit = record { reported = ok; limit = limit }
asked_of g text params old new (Err e) ok err limit = record { reported = err; limit = limit }

column_short : (r : Row) (at : ℕ) → length r ≤ at → column r at ≡ Null
column_short [] at h = refl
column_short (x ∷ xs) zero h = absurd (omega arith)
column_short (x ∷ xs) (suc at) h = column_short xs at (omega arith)

none_read : (v : Value) → ¬ ((b : List ℕ) × (v ≡ Blob b)) → blob_of v ≡ None
none_read Null h = refl
none_read (Int n) h = refl
none_read (Real x) h = refl
none_read (Text t) h = refl
none_read (Blob b) h = absurd (h (b, refl))

-- Where no bytes are read of a column, there are none, or memory ran out.
pub unread : (r : Row) (at : ℕ) (e : Error) → (e ≢ SqliteFailure OutOfMemory → at < length r → ¬ ((b : List ℕ) × (column r at ≡ Blob b))) → (stopped_by e ≡ stopped.NoMemory) ⊎ ((stopped_by e ≡ stopped.Refused) × (blob_of (column r at) ≡ None))
unread r at e h =
    elim (is_out_of_memory e) as (λ b. is_out_of_memory e ≡ b → (cond {A = Stopped} b stopped.NoMemory stopped.Refused ≡ stopped.NoMemory) ⊎ ((cond {A = Stopped} b stopped.NoMemory stopped.Refused ≡ stopped.Refused) × (blob_of (column r at) ≡ None))) [
      | true ↦ λ t. inl refl
      | false ↦ λ f. inr (
        refl,
        (
            let other : e ≢ SqliteFailure OutOfMemory = λ s. let b : true ≡ false = sym (ap is_out_of_memory s) ∙ f in cc in
            elim (cases_Bool (nat_lt at (length r))) [
              | inl low ↦ none_read (column r at) (h other (grind (arith, nat_tests)))
              | inr high ↦ ap blob_of (column_short r at (grind (arith, nat_tests)))
            ]
            ),
      )
    ] refl

---- a body

pub own_record : (key : Key) (body : List ℕ) (r : Record) → record_in body ≡ Ok r → r.key ≡ key → r ≡ record_of_body key body
own_record key body r read own =
    let ties : is_eq (key_cmp r.key key) ≡ true = (order_decides key_total key_exact r.key key).1 own in
    let columns : own_columns key (record_in body) ≡ r.columns = ap (own_columns key) read ∙ ap (λ b. cond b r.columns []) ties in
    λ i. record { key = own i; columns = sym columns i }

bare_of : (b : Bool) (cs : List Pair) → b ≡ false → cond b cs [] ≡ []
bare_of b cs h = ap (λ b. cond b cs []) h

pub other_record : (key : Key) (body : List ℕ) (r bare : Record) → record_in body ≡ Ok r → ¬ (r.key ≡ key) → bare.key ≡ key → bare.columns ≡ [] → bare ≡ record_of_body key body
other_record key body r bare read other own none =
    let apart : is_eq (key_cmp r.key key) ≡ false = elim (cases_Bool (is_eq (key_cmp r.key key))) [
      | inl t ↦ absurd (other ((order_decides key_total key_exact r.key key).0 t))
      | inr f ↦ f
    ] in
    let columns : own_columns key (record_in body) ≡ [] = ap (own_columns key) read ∙ bare_of _ r.columns apart in
    λ i. record { key = own i; columns = (none ∙ sym columns) i }

pub no_record : (key : Key) (body : List ℕ) (place : ℕ) (bare : Record) → record_in body ≡ Err place → bare.key ≡ key → bare.columns ≡ [] → bare ≡ record_of_body key body
no_record key body place bare read own none =
    let columns : own_columns key (record_in body) ≡ [] = ap (own_columns key) read in
    λ i. record { key = own i; columns = (none ∙ sym columns) i }
