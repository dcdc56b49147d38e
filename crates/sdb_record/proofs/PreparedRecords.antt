-- A transaction's record of a write is a transactional record, and keeps the base.
use Rattle.std.proofs.Common.{◌≡◌, ℕ, ℤ, pos, negsuc, ◌<◌, ◌^◌, ◌+◌, List, [], ◌∷◌, length, Bool, true, false, not, ◌&&◌, ◌||◌, cond, refl, sym, ap, ◌∙◌, subst, map, Option, Some, None, Ok, IfSome, arith}
use Rattle.std.specs.Prelude.{find, is_some, is_ok, nat_lt, nat_le, int_le, int_lt}
use Rattle.std.specs.List.{list_any, list_all}
use Rattle.std.specs.Int.{int_min}
use Rattle.std.specs.Option.{option_map}
use Rattle.std.proofs.lemmas.Bool.Decides.{nat_tests}
use Rattle.sdb_record.specs.Types.{Key, Pair, Record, State, TxId, Value}
use Rattle.sdb_types.specs.declared.value.Value.TheVariants as value
use Rattle.sdb_types.specs.declared.record.State.TheVariants.{Prepared}
use Rattle.sdb_types.specs.TxId.{id_text}
use Rattle.sdb_types.specs.Columns.{column, are_columns, with_column, is_null, is_named}
use Rattle.sdb_types.specs.Identifier.{is_name, is_identifier}
use Rattle.sdb_types.specs.Contents.{tx_id, tx_state, state_number}
use Rattle.sdb_types.proofs.Public.{and_both, and_false as and-no, and_first, and_second, longer as wider, with_column-are_columns}
use Rattle.sdb_record.specs.declared.meta.Meta.{Meta}
use Rattle.sdb_record.specs.declared.write.Change.{Change}
use Rattle.sdb_record.specs.declared.write.Change.TheVariants as change
use Rattle.sdb_record.specs.declared.write.Write.{Write}
use Rattle.sdb_record.specs.Names.{tx_version, tx_prepared_at, tx_committed_at, tx_tombstone, before_name, is_user, is_before, is_meta, base_name}
use Rattle.sdb_record.specs.Parts.{with_columns, before_pair, is_before_pair, is_user_pair, is_column_name, are_stored, are_short, are_user_columns, before_part, before_record, record_with}
use Rattle.sdb_record.specs.Meta.{checked, checked_part, checked_before, meta_in, is_transactional, is_moment, id_in_value, state_in_value, version_in_value, moment_in_value, absent, tombstone_in_value, is_committed, is_deleted, is_stray, is_early, committed_at_in, tombstone_in, present, is_misnamed, is_badly_named, any_state, with_before, refuse}
use Rattle.sdb_record.specs.Rolls.{prepared_record, base_columns, new_columns, state_of_change, next_version, next_version_of, IsBaseOf, IsWrite, is_change}
use Rattle.sdb_types.proofs.Public.{before-is_name}
use Rattle.sdb_record.proofs.NameLemmas.{base_name-before_name}
use Rattle.sdb_record.proofs.PreparedLaws.{base-short}
use Rattle.sdb_record.proofs.IdLemmas.{id_of_text-id_text}
use Rattle.sdb_record.proofs.ColumnLaws.{not_before, columns-full, columns-rest}
use Rattle.sdb_record.proofs.Settings.{none-with_columns, misses, all-with_columns, has_both, no_before}
use Rattle.sdb_record.proofs.Checked.{Says, Fine, accepted, valid-committed, checked-valid, checked_part-valid, committed-state, ok-of, none-make}
use Rattle.sdb_record.proofs.RollLaws.{any-none, before_part-any, refuse_before}
use Rattle.sdb_record.proofs.WriteLaws.{Fitting, fitting, with_base, base-kept, no-column, marked, marked-id, marked-state, marked-version, marked-time, marked-other, marked-before, marked-in-order, all-user, kept-user}

---- the base

not_empty : (ps : List Pair) → is_ok (checked ps) ≡ true → ps ≡ [] → ⊥
unfolding checked meta_in
not_empty [] h e = absurd (cc)
not_empty (p ∷ ps) h e = cc

record_with-some : (key : Key) (b : Record) (ps : List Pair) → ps ≡ b.columns → b.key ≡ key → (ps ≡ [] → ⊥) → record_with key ps ≡ Some b
record_with-some key b [] e k n = absurd (n refl)
record_with-some key b (p ∷ ps) e k n = let same : record { key = key; columns = p ∷ ps } ≡ b = λ i. record { key = (sym k) i; columns = e i } in ap Some same

base-passes : (key : Key) (b : Record) → IsBaseOf key b → is_ok (checked b.columns) ≡ true
base-passes key b h = and_second (are_stored b.columns) (is_ok (checked b.columns)) h.1

base-stored : (key : Key) (b : Record) → IsBaseOf key b → are_stored b.columns ≡ true
base-stored key b h = and_first (are_stored b.columns) (is_ok (checked b.columns)) h.1

kept-base : (key : Key) (base : Option Record) (ps : List Pair) → IfSome base (IsBaseOf key) → ps ≡ base_columns base → record_with key ps ≡ base
kept-base key None ps h e = ap (record_with key) e
kept-base key (Some b) ps h e = record_with-some key b ps e h.0 (λ n. not_empty b.columns (base-passes key b h) (sym e ∙ n))

-- the columns of what a transaction leaves
abbrev pub left_columns : Write → TxId → ℤ → List Pair
left_columns w id now =
    marked id (state_of_change w.change) (next_version w.base) now (with_base (new_columns w.change) (base_columns w.base))

pub prepared-columns : (w : Write) (id : TxId) (now : ℤ) → (prepared_record w id now).columns ≡ left_columns w id now
unfolding prepared_record
prepared-columns w id now = refl

pub prepared-key : (w : Write) (id : TxId) (now : ℤ) → (prepared_record w id now).key ≡ w.key
unfolding prepared_record
prepared-key w id now = refl

left-before : (w : Write) (id : TxId) (now : ℤ) → IsWrite w → before_part (left_columns w id now) ≡ base_columns w.base
left-before w id now h =
    marked-before id (state_of_change w.change) (next_version w.base) now (with_base (new_columns w.change) (base_columns w.base)) ∙ base-kept (new_columns w.change) (base_columns w.base) (fitting w h)

pub prepared-base : (w : Write) (id : TxId) (now : ℤ) → IsWrite w → before_record (prepared_record w id now) ≡ w.base
unfolding before_record prepared_record
prepared-base w id now h = kept-base w.key w.base (before_part (left_columns w id now)) h.base (left-before w id now h)

---- the metadata

state-left : (c : Change) → state_in_value (Some (value.Int (state_number (state_of_change c)))) ≡ Some (state_of_change c)
state-left (change.Row columns) = refl
state-left change.Delete = refl

pub open-left : (c : Change) → is_committed (state_of_change c) ≡ false
open-left (change.Row columns) = refl
open-left change.Delete = refl

next-positive : (k : ℕ) → int_le (pos 1) (int_min (pos (k + 1)) (pos 2147483647)) ≡ true
next-positive k =
    elim (int_lt (pos 2147483647) (pos (k + 1))) as (λ b. int_le (pos 1) (cond b (pos 2147483647) (pos (k + 1))) ≡ true) [
      | true ↦ refl
      | false ↦ grind (arith, nat_tests)
    ]

next-above : (o : Option Value) (v : ℤ) → version_in_value o ≡ Some v → int_le (pos 1) (next_version_of o) ≡ true
next-above None v h = absurd (cc)
next-above (Some (value.Int (pos k))) v h = next-positive k
next-above (Some (value.Int (negsuc k))) v h = absurd (cc)
next-above (Some x) v h = absurd (cc)

version-left : (key : Key) (base : Option Record) → IfSome base (IsBaseOf key) → int_le (pos 1) (next_version base) ≡ true
version-left key None h = refl
version-left key (Some b) h =
    let y = ok-of (checked b.columns) (base-passes key b h) in
    let w = accepted b.columns y.0 y.1 in
    next-above (column b.columns tx_version) w.0.version w.1.says.version

version-fits : (n : ℤ) → int_le (pos 1) n ≡ true → version_in_value (Some (value.Int n)) ≡ Some n
version-fits n h = simp h refl

pub time-fits : (n : ℤ) → is_moment n ≡ true → moment_in_value (Some (value.BigInt n)) ≡ Some n
time-fits n h = simp h refl

open-time : (s : State) (ps : List Pair) → is_committed s ≡ false → column ps tx_committed_at ≡ None → committed_at_in s ps ≡ Some None
open-time s ps h k = ap (λ b. cond b (present (moment_in_value (column ps tx_committed_at))) (absent (column ps tx_committed_at))) h ∙ ap absent k

open-mark : (s : State) (ps : List Pair) → is_committed s ≡ false → column ps tx_tombstone ≡ None → tombstone_in s ps ≡ Some false
open-mark s ps h k = ap (λ b. tombstone_in_value b (column ps tx_tombstone)) h ∙ ap (tombstone_in_value false) k

pub other-meta : (is_user tx_committed_at ≡ false) × (is_before tx_committed_at ≡ false) × (is_user tx_tombstone ≡ false) × (is_before tx_tombstone ≡ false)
unfolding is_meta base_name
other-meta = (refl, refl, refl, refl)

pub absent-column : (ps : List Pair) (name : List ℕ) → find (is_named name) ps ≡ None → column ps name ≡ None
absent-column ps name h = ap (option_map (λ (p : Pair). p.value)) h

-- what a transaction's record of a write says
abbrev pub left_meta : Write → TxId → ℤ → Meta
left_meta w id now =
    record { id = id; state = state_of_change w.change; version = next_version w.base; prepared_at = now; committed_at = None; tombstone = false; has_before = false }

module _ (w : Write) (id : TxId) (now : ℤ) (h : IsWrite w) (small : id.0 < 2 ^ 128) (moment : is_moment now ≡ true) where
  abbrev state : State
  state = state_of_change w.change

  abbrev row : List Pair
  row = new_columns w.change

  abbrev kept : List Pair
  kept = base_columns w.base

  left-says : Says any_state (left_columns w id now) (left_meta w id now)
  left-says =
      record {
        id = ap id_in_value (marked-id id state (next_version w.base) now (with_base row kept)) ∙ id_of_text-id_text id.0 small;
        state = ap state_in_value (marked-state id state (next_version w.base) now (with_base row kept)) ∙ state-left w.change;
        is_allowed = refl;
        version = ap version_in_value (marked-version id state (next_version w.base) now (with_base row kept)) ∙ version-fits (next_version w.base) (version-left w.key w.base h.base);
        prepared_at = ap moment_in_value (marked-time id state (next_version w.base) now (with_base row kept)) ∙ time-fits now moment;
        committed_at = open-time state (left_columns w id now) (open-left w.change) (marked-other id state (next_version w.base) now (with_base row kept) tx_committed_at refl refl refl refl ∙ absent-column (with_base row kept) tx_committed_at (no-column row kept tx_committed_at (fitting w h) other-meta.0 other-meta.1));
        tombstone = open-mark state (left_columns w id now) (open-left w.change) (marked-other id state (next_version w.base) now (with_base row kept) tx_tombstone refl refl refl refl ∙ absent-column (with_base row kept) tx_tombstone (no-column row kept tx_tombstone (fitting w h) other-meta.2 other-meta.3));
        has_before = refl;
      }

---- the other checks

at-most : (n : ℕ) → nat_le n 64 ≡ true → nat_lt 64 n ≡ false
at-most n h = grind (arith, nat_tests)

no-long : (ps : List Pair) → are_user_columns ps ≡ true → find (is_stray Prepared false) ps ≡ None
no-long [] h = refl
no-long (p ∷ ps) h =
    let here = and_first (is_user_pair p && is_column_name p.name) (are_user_columns ps) h in
    let short = and_first (nat_le (length p.name) 64) (is_identifier p.name) (and_second (is_user_pair p) (is_column_name p.name) here) in
    none-make (is_stray Prepared false) p ps (ap (λ b. is_user_pair p && b) (at-most (length p.name) short) ∙ and-no (is_user_pair p)) (no-long ps (and_second (is_user_pair p && is_column_name p.name) (are_user_columns ps) h))

no-stray-row : (c : Change) → is_change c ≡ true → find (is_stray (state_of_change c) false) (new_columns c) ≡ None
no-stray-row change.Delete h = refl
no-stray-row (change.Row columns) h = no-long columns (and_second (are_columns columns) (are_user_columns columns) h)

column-is_name : (name : List ℕ) → is_column_name name ≡ true → is_name name ≡ true
column-is_name name h =
    and_both (nat_le (length name) 71) (is_identifier name) (wider (length name) (and_first (nat_le (length name) 64) (is_identifier name) h)) (and_second (nat_le (length name) 64) (is_identifier name) h)

misses-base : (t : Pair → Bool) (ps : List Pair) → are_columns ps ≡ true → ((p : Pair) → t (before_pair p) ≡ false) → list_all (misses t) (map before_pair ps) ≡ true
misses-base t [] c h = refl
misses-base t (p ∷ ps) c h =
    and_both (misses t (before_pair p)) _ (and_both (not (is_null p.value)) _ (columns-full p ps c) (ap not (h p))) (misses-base t ps (columns-rest p ps c) h)

none-early : (s : State) (ps : List Pair) → is_committed s ≡ false → find (is_early s) ps ≡ None
none-early s [] h = refl
none-early s (p ∷ ps) h = none-make (is_early s) p ps (ap (λ b. b && is_before_pair p) h) (none-early s ps h)

marks-no-stray : (id : TxId) (s : State) (version now : ℤ)
    → list_all (misses (is_stray s false)) (record { name = tx_id; value = value.Text (id_text id.0) } ∷ record { name = tx_state; value = value.Int (state_number s) } ∷ record { name = tx_version; value = value.Int version } ∷ record { name = tx_prepared_at; value = value.BigInt now } ∷ []) ≡ true
unfolding is_meta
marks-no-stray id s version now = refl

marks-kept-well : (id : TxId) (s : State) (version now : ℤ)
    → list_all (misses is_misnamed) (record { name = tx_id; value = value.Text (id_text id.0) } ∷ record { name = tx_state; value = value.Int (state_number s) } ∷ record { name = tx_version; value = value.Int version } ∷ record { name = tx_prepared_at; value = value.BigInt now } ∷ []) ≡ true
unfolding base_name
marks-kept-well id s version now = refl

marks-named : (id : TxId) (s : State) (version now : ℤ)
    → list_all (has_both (λ (p : Pair). is_name p.name)) (record { name = tx_id; value = value.Text (id_text id.0) } ∷ record { name = tx_state; value = value.Int (state_number s) } ∷ record { name = tx_version; value = value.Int version } ∷ record { name = tx_prepared_at; value = value.BigInt now } ∷ []) ≡ true
marks-named id s version now = refl

with_columns-in-order : (xs es : List Pair) → are_columns es ≡ true → are_columns (with_columns xs es) ≡ true
with_columns-in-order [] es h = h
with_columns-in-order (x ∷ xs) es h = with_columns-in-order xs (with_column x es) (with_column-are_columns x es h)

row-names : (ps : List Pair) → are_user_columns ps ≡ true → list_all (λ (p : Pair). is_name p.name) ps ≡ true
row-names [] h = refl
row-names (p ∷ ps) h =
    let here = and_second (is_user_pair p) (is_column_name p.name) (and_first (is_user_pair p && is_column_name p.name) (are_user_columns ps) h) in
    and_both (is_name p.name) _ (column-is_name p.name here) (row-names ps (and_second (is_user_pair p && is_column_name p.name) (are_user_columns ps) h))

kept-names : (ps : List Pair) → are_columns ps ≡ true → are_short ps ≡ true → list_all (λ (p : Pair). is_name p.name) ps ≡ true → list_all (has_both (λ (p : Pair). is_name p.name)) (map before_pair ps) ≡ true
kept-names [] c s h = refl
kept-names (p ∷ ps) c s h =
    let named = and_first (is_name p.name) (list_all (λ (x : Pair). is_name x.name) ps) h in
    let short = and_first (nat_le (length p.name) 64) (are_short ps) s in
    and_both (has_both (λ (x : Pair). is_name x.name) (before_pair p)) _
    (and_both (not (is_null p.value)) _ (columns-full p ps c) (before-is_name p.name (and_second (nat_le (length p.name) 71) (is_identifier p.name) named) short))
    (kept-names ps (columns-rest p ps c) (and_second (nat_le (length p.name) 64) (are_short ps) s) (and_second (is_name p.name) (list_all (λ (x : Pair). is_name x.name) ps) h))

base-names : (key : Key) (base : Option Record) → IfSome base (IsBaseOf key) → list_all (λ (p : Pair). is_name p.name) (base_columns base) ≡ true
base-names key None h = refl
base-names key (Some b) h = and_second (are_columns b.columns) (list_all (λ (p : Pair). is_name p.name) b.columns) (base-stored key b h)

base-well : (ps : List Pair) → are_columns ps ≡ true → list_all (λ (p : Pair). is_name p.name) ps ≡ true → list_all (misses is_misnamed) (map before_pair ps) ≡ true
base-well [] c h = refl
base-well (p ∷ ps) c h =
    let named = and_first (is_name p.name) (list_all (λ (x : Pair). is_name x.name) ps) h in
    let kept : is_misnamed (before_pair p) ≡ false = ap is_badly_named (base_name-before_name p.name) ∙ ap not (and_second (nat_le (length p.name) 71) (is_identifier p.name) named) in
    and_both (misses is_misnamed (before_pair p)) _ (and_both (not (is_null p.value)) _ (columns-full p ps c) (ap not kept)) (base-well ps (columns-rest p ps c) (and_second (is_name p.name) (list_all (λ (x : Pair). is_name x.name) ps) h))

row-well : (ps : List Pair) → list_all is_user_pair ps ≡ true → find is_misnamed ps ≡ None
row-well [] h = refl
row-well (p ∷ ps) h =
    let user = and_first (is_user_pair p) (list_all is_user_pair ps) h in
    none-make is_misnamed p ps (ap is_badly_named (no_before p.name (and_second (not (is_meta p.name)) (not_before p.name) user))) (row-well ps (and_second (is_user_pair p) (list_all is_user_pair ps) h))

row-no-before : (ps : List Pair) → list_all is_user_pair ps ≡ true → find is_before_pair ps ≡ None
row-no-before [] h = refl
row-no-before (p ∷ ps) h =
    let user = and_first (is_user_pair p) (list_all is_user_pair ps) h in
    none-make is_before_pair p ps (ap is_some (no_before p.name (and_second (not (is_meta p.name)) (not_before p.name) user))) (row-no-before ps (and_second (is_user_pair p) (list_all is_user_pair ps) h))

marks-no-before : (id : TxId) (s : State) (version now : ℤ)
    → list_all (misses is_before_pair) (record { name = tx_id; value = value.Text (id_text id.0) } ∷ record { name = tx_state; value = value.Int (state_number s) } ∷ record { name = tx_version; value = value.Int version } ∷ record { name = tx_prepared_at; value = value.BigInt now } ∷ []) ≡ true
unfolding base_name
marks-no-before id s version now = refl

module _ (w : Write) (id : TxId) (now : ℤ) (h : IsWrite w) (small : id.0 < 2 ^ 128) (moment : is_moment now ≡ true) where
  abbrev st : State
  st = state_of_change w.change

  abbrev new : List Pair
  new = new_columns w.change

  abbrev old : List Pair
  old = base_columns w.base

  abbrev marks : List Pair
  marks =
      record { name = tx_id; value = value.Text (id_text id.0) } ∷ record { name = tx_state; value = value.Int (state_number st) } ∷ record { name = tx_version; value = value.Int (next_version w.base) } ∷ record { name = tx_prepared_at; value = value.BigInt now } ∷ []

  fit : Fitting new old
  fit = fitting w h

  left-strays : find (is_stray st false) (left_columns w id now) ≡ None
  left-strays =
      none-with_columns (is_stray st false) marks (with_base new old) (marks-no-stray id st (next_version w.base) now)
      (none-with_columns (is_stray st false) (map before_pair old) new (misses-base (is_stray st false) old fit.base_columns (λ p. ap (λ b. b && ((is_deleted st || false) || nat_lt 64 (length (before_name p.name)))) (kept-user p.name))) (no-stray-row w.change h.change))

  pub left-valid : Fine any_state (left_columns w id now) (left_meta w id now)
  left-valid = record { says = left-says w id now h small moment; strays = left-strays; early = none-early st (left_columns w id now) (open-left w.change) }

  left-well : find is_misnamed (left_columns w id now) ≡ None
  left-well =
      none-with_columns is_misnamed marks (with_base new old) (marks-kept-well id st (next_version w.base) now)
      (none-with_columns is_misnamed (map before_pair old) new (base-well old fit.base_columns (base-names w.key w.base h.base)) (row-well new (all-user new fit.row_user)))

  pub left-stored : are_stored (left_columns w id now) ≡ true
  left-stored =
      and_both (are_columns (left_columns w id now)) _ (marked-in-order id st (next_version w.base) now (with_base new old) (with_columns-in-order (map before_pair old) new fit.row_columns))
      (all-with_columns (λ (p : Pair). is_name p.name) marks (with_base new old) (marks-named id st (next_version w.base) now)
      (all-with_columns (λ (p : Pair). is_name p.name) (map before_pair old) new (kept-names old fit.base_columns (base-short w.key w.base h.base) (base-names w.key w.base h.base)) (row-names new fit.row_user)))

  ninth-none : (base : Option Record) → w.base ≡ base → base ≡ None → checked_before (left_columns w id now) (left_meta w id now) ≡ Ok (left_meta w id now)
  ninth-none base e n =
      let none : find is_before_pair (left_columns w id now) ≡ None = none-with_columns is_before_pair marks (with_base new old) (marks-no-before id st (next_version w.base) now) (subst (λ (o : Option Record). find is_before_pair (with_columns (map before_pair (base_columns o)) new) ≡ None) (sym (e ∙ n)) (row-no-before new (all-user new fit.row_user))) in
      ap (λ b. cond b (refuse_before (left_columns w id now) (left_meta w id now)) (Ok (left_meta w id now))) (any-none is_before_pair (left_columns w id now) none)

  ninth-some : (b : Record) → w.base ≡ Some b → checked_before (left_columns w id now) (left_meta w id now) ≡ Ok (record (left_meta w id now) { has_before = true })
  ninth-some b e =
      let of : IsBaseOf w.key b = subst (λ (o : Option Record). IfSome o (IsBaseOf w.key)) e h.base in
      let y = ok-of (checked b.columns) (base-passes w.key b of) in
      let t = accepted b.columns y.0 y.1 in
      let part : checked_part is_committed b.columns ≡ Ok t.0 = checked_part-valid is_committed b.columns t.0 (valid-committed b.columns t.0 t.1 (committed-state any_state b.columns t.0 t.1 of.2)) in
      let same : before_part (left_columns w id now) ≡ b.columns = left-before w id now h ∙ ap base_columns e in
      let here : list_any is_before_pair (left_columns w id now) ≡ true =
      elim (list_any is_before_pair (left_columns w id now)) as (λ x. list_any is_before_pair (left_columns w id now) ≡ x → x ≡ true) [
        | true ↦ λ q. refl
        | false ↦ λ q. absurd (not_empty b.columns (base-passes w.key b of) (sym same ∙ before_part-any (left_columns w id now) q))
      ] refl in
      ap (λ x. cond x (refuse_before (left_columns w id now) (left_meta w id now)) (Ok (left_meta w id now))) here
      ∙ ap (λ o. refuse o (with_before (left_meta w id now) (checked_part is_committed (before_part (left_columns w id now))))) left-well
      ∙ ap (λ ps. with_before (left_meta w id now) (checked_part is_committed ps)) same ∙ ap (with_before (left_meta w id now)) part

  left-ninth : (base : Option Record) → w.base ≡ base → checked_before (left_columns w id now) (left_meta w id now) ≡ Ok (record (left_meta w id now) { has_before = is_some base })
  left-ninth None e = ninth-none None e refl
  left-ninth (Some b) e = ninth-some b e

  pub left-checked : checked (left_columns w id now) ≡ Ok (record (left_meta w id now) { has_before = is_some w.base })
  left-checked =
      checked-valid (left_columns w id now) (left_meta w id now) (record (left_meta w id now) { has_before = is_some w.base }) left-valid (left-ninth w.base refl)

  pub left-accepted : is_transactional (prepared_record w id now) ≡ true
  unfolding prepared_record
  left-accepted = and_both (are_stored (left_columns w id now)) _ left-stored (ap is_ok left-checked)
