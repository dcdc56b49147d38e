-- What rolling forward leaves, and that it is a transactional record.
use Rattle.std.proofs.Common.{◌≡◌, ℕ, ℤ, pos, List, [], ◌∷◌, length, Bool, true, false, not, ◌&&◌, ◌||◌, cond, refl, sym, ap, ◌∙◌, subst, Option, Some, None, Ok, Err, Result}
use Rattle.std.specs.Prelude.{find, filter, is_some, is_ok, nat_lt}
use Rattle.std.specs.List.{list_any, list_all}
use Rattle.sdb_record.specs.Types.{Key, Pair, Record, State, TxId, Value}
use Rattle.sdb_types.specs.declared.value.Value.TheVariants as value
use Rattle.sdb_types.specs.declared.record.State.TheVariants.{Prepared, Deleted, Committed, Aborted}
use Rattle.sdb_types.specs.Columns.{column, are_columns, put_pair}
use Rattle.sdb_types.specs.Identifier.{is_name}
use Rattle.std.specs.Ordering.{is_eq}
use Rattle.std.specs.Cmp.{tied_itself}
use Rattle.sdb_types.specs.Contents.{tx_id, tx_state, has_value, is_version}
use Rattle.sdb_types.specs.ValueLaws.{value_total}
use Rattle.sdb_types.specs.TxId.{id_text}
use Rattle.sdb_record.proofs.NameLemmas.{kept-is_name}
use Rattle.sdb_types.proofs.Public.{and_both, and_first, and_second, and_true as and-true, or_false as or-right, or_neither as or-false, with_column-are_columns}
use Rattle.sdb_record.specs.declared.meta.Meta.{Meta}
use Rattle.sdb_record.specs.Names.{tx_version, tx_prepared_at, tx_committed_at, tx_tombstone, same_name, is_user, is_before, is_meta, base_name}
use Rattle.sdb_record.specs.Parts.{with_columns, own_columns, user_columns, is_before_pair, is_user_pair, are_stored, before_part, before_record, record_with}
use Rattle.sdb_record.specs.Meta.{id_in, id_in_value, state_in_value, version_in_value, moment_in_value, is_moment, is_in, is_committed, is_deleted, is_stray, any_state, checked, checked_before, is_transactional, is_unresolved, present, tombstone_in_value, refuse, is_misnamed, with_before, checked_part, have_identifiers}
use Rattle.sdb_record.specs.Rolls.{forward_columns, forward_record, tombstone_mark}
use Rattle.sdb_record.proofs.Checked.{Says, Fine, accepted, ok-of, checked-valid, none-first, none-rest, accepted-keep, keeps_here, valid, valid-any, refuse-ok}
use Rattle.sdb_record.proofs.States.{is_in-says, says-committed, says-deleted, no-tombstone, state_value}
use Rattle.sdb_record.proofs.ColumnLaws.{not_before, are_columns-filter, are_columns-before_part}
use Rattle.sdb_record.proofs.Settings.{column-put-same, column-put-other, none-put, none-filter, all-put, all-filter, filter-put, column-filter}
use Rattle.std.proofs.lemmas.Bool.{not-true as not-not}

---- the columns

abbrev state_pair : Pair
state_pair = record { name = tx_state; value = value.Int (pos 3) }

abbrev time_pair : ℤ → Pair
time_pair n = record { name = tx_committed_at; value = value.BigInt n }

abbrev mark_pair : Pair
mark_pair = record { name = tx_tombstone; value = value.Bool true }

-- before a tombstone is marked
abbrev unmarked : List Pair → ℤ → List Pair
unmarked ps n = put_pair (time_pair n) (put_pair state_pair (own_columns ps))

marked-column : (d : Bool) (es : List Pair) (name : List ℕ) → same_name tx_tombstone name ≡ false → column (with_columns (tombstone_mark d) es) name ≡ column es name
marked-column true es name h = column-put-other mark_pair es name h
marked-column false es name h = refl

not_before-meta : (not_before tx_id ≡ true) × (not_before tx_version ≡ true) × (not_before tx_prepared_at ≡ true) × (not_before tx_tombstone ≡ true)
unfolding base_name
not_before-meta = (refl, refl, refl, refl)

own-column : (ps : List Pair) (n : ℤ) (name : List ℕ) → same_name tx_tombstone name ≡ false → same_name tx_committed_at name ≡ false → same_name tx_state name ≡ false → not_before name ≡ true
    → column (forward_columns ps n) name ≡ column ps name
own-column ps n name t a s b =
    marked-column (is_in Deleted ps) (unmarked ps n) name t ∙ column-put-other (time_pair n) (put_pair state_pair (own_columns ps)) name a ∙ column-put-other state_pair (own_columns ps) name s ∙ column-filter not_before ps name b

pub forward-id : (ps : List Pair) (n : ℤ) → column (forward_columns ps n) tx_id ≡ column ps tx_id
forward-id ps n = own-column ps n tx_id refl refl refl not_before-meta.0

forward-version : (ps : List Pair) (n : ℤ) → column (forward_columns ps n) tx_version ≡ column ps tx_version
forward-version ps n = own-column ps n tx_version refl refl refl not_before-meta.1

forward-prepared_at : (ps : List Pair) (n : ℤ) → column (forward_columns ps n) tx_prepared_at ≡ column ps tx_prepared_at
forward-prepared_at ps n = own-column ps n tx_prepared_at refl refl refl not_before-meta.2

pub forward-state : (ps : List Pair) (n : ℤ) → column (forward_columns ps n) tx_state ≡ Some (value.Int (pos 3))
forward-state ps n =
    marked-column (is_in Deleted ps) (unmarked ps n) tx_state refl ∙ column-put-other (time_pair n) (put_pair state_pair (own_columns ps)) tx_state refl ∙ column-put-same state_pair (own_columns ps)

forward-committed_at : (ps : List Pair) (n : ℤ) → column (forward_columns ps n) tx_committed_at ≡ Some (value.BigInt n)
forward-committed_at ps n =
    marked-column (is_in Deleted ps) (unmarked ps n) tx_committed_at refl ∙ column-put-same (time_pair n) (put_pair state_pair (own_columns ps))

abbrev pub mark_value : Bool → Option Value → Option Value
mark_value true o = Some (value.Bool true)
mark_value false o = o

marked-tombstone : (d : Bool) (es : List Pair) → column (with_columns (tombstone_mark d) es) tx_tombstone ≡ mark_value d (column es tx_tombstone)
marked-tombstone true es = column-put-same mark_pair es
marked-tombstone false es = refl

pub forward-tombstone : (ps : List Pair) (n : ℤ) → column (forward_columns ps n) tx_tombstone ≡ mark_value (is_in Deleted ps) (column ps tx_tombstone)
forward-tombstone ps n =
    marked-tombstone (is_in Deleted ps) (unmarked ps n)
    ∙ ap (mark_value (is_in Deleted ps)) (column-put-other (time_pair n) (put_pair state_pair (own_columns ps)) tx_tombstone refl ∙ column-put-other state_pair (own_columns ps) tx_tombstone refl ∙ column-filter not_before ps tx_tombstone not_before-meta.3)

-- a test that fails of what is set holds of nothing where it holds of nothing of the record's own
none-marked : (t : Pair → Bool) (d : Bool) (es : List Pair) → t mark_pair ≡ false → find t es ≡ None → find t (with_columns (tombstone_mark d) es) ≡ None
none-marked t true es h k = none-put t mark_pair es h k
none-marked t false es h k = k

none-forward : (t : Pair → Bool) (ps : List Pair) (n : ℤ) → t mark_pair ≡ false → t (time_pair n) ≡ false → t state_pair ≡ false → find t (own_columns ps) ≡ None → find t (forward_columns ps n) ≡ None
none-forward t ps n m a s h =
    none-marked t (is_in Deleted ps) (unmarked ps n) m (none-put t (time_pair n) (put_pair state_pair (own_columns ps)) a (none-put t state_pair (own_columns ps) s h))

all-marked : (t : Pair → Bool) (d : Bool) (es : List Pair) → t mark_pair ≡ true → list_all t es ≡ true → list_all t (with_columns (tombstone_mark d) es) ≡ true
all-marked t true es h k = all-put t mark_pair es h k
all-marked t false es h k = k

in-order-marked : (d : Bool) (es : List Pair) → are_columns es ≡ true → are_columns (with_columns (tombstone_mark d) es) ≡ true
in-order-marked true es h = with_column-are_columns mark_pair es h
in-order-marked false es h = h

pub forward-stored : (ps : List Pair) (n : ℤ) → are_stored ps ≡ true → are_stored (forward_columns ps n) ≡ true
forward-stored ps n h =
    let named : Pair → Bool = λ (p : Pair). is_name p.name in
    let order = and_first (are_columns ps) (list_all (λ (p : Pair). is_name p.name) ps) h in
    let names = and_second (are_columns ps) (list_all (λ (p : Pair). is_name p.name) ps) h in
    let own = are_columns-filter (λ p. not (is_before_pair p)) ps order in
    and_both (are_columns (forward_columns ps n)) _
    (in-order-marked (is_in Deleted ps) (unmarked ps n) (with_column-are_columns (time_pair n) (put_pair state_pair (own_columns ps)) (with_column-are_columns state_pair (own_columns ps) own)))
    (all-marked (λ (p : Pair). is_name p.name) (is_in Deleted ps) (unmarked ps n) refl (all-put (λ (p : Pair). is_name p.name) (time_pair n) (put_pair state_pair (own_columns ps)) refl (all-put (λ (p : Pair). is_name p.name) state_pair (own_columns ps) refl (all-filter (λ (p : Pair). is_name p.name) (λ p. not (is_before_pair p)) ps names))))

---- the user's columns

user-own : (name : List ℕ) → is_user name ≡ true → not_before name ≡ true
user-own name h = and_second (not (is_meta name)) (not_before name) h

filter-twice : (keep wide : List ℕ → Bool) (es : List Pair) → ((name : List ℕ) → keep name ≡ true → wide name ≡ true) → filter (λ x. keep x.name) (filter (λ x. wide x.name) es) ≡ filter (λ x. keep x.name) es
filter-twice keep wide [] h = refl
filter-twice keep wide (e ∷ es) h =
    elim (keep e.name) as (λ b. keep e.name ≡ b → filter (λ x. keep x.name) (filter (λ x. wide x.name) (e ∷ es)) ≡ filter (λ x. keep x.name) (e ∷ es)) [
      | true ↦ λ q. let w = h e.name q in simp (q, w) (ap (λ l. e ∷ l) (filter-twice keep wide es h))
      | false ↦ λ q.
          elim (wide e.name) as (λ b. wide e.name ≡ b → filter (λ x. keep x.name) (filter (λ x. wide x.name) (e ∷ es)) ≡ filter (λ x. keep x.name) (e ∷ es)) [
            | true ↦ λ w. simp (q, w) (filter-twice keep wide es h)
            | false ↦ λ w. simp (q, w) (filter-twice keep wide es h)
          ] refl
    ] refl

not_user-meta : (is_user tx_state ≡ false) × (is_user tx_committed_at ≡ false) × (is_user tx_tombstone ≡ false)
unfolding is_meta
not_user-meta = (refl, refl, refl)

marked-user : (d : Bool) (es : List Pair) → user_columns (with_columns (tombstone_mark d) es) ≡ user_columns es
marked-user true es = filter-put is_user mark_pair es not_user-meta.2
marked-user false es = refl

pub forward-user : (ps : List Pair) (n : ℤ) → user_columns (forward_columns ps n) ≡ user_columns ps
forward-user ps n =
    marked-user (is_in Deleted ps) (unmarked ps n) ∙ filter-put is_user (time_pair n) (put_pair state_pair (own_columns ps)) not_user-meta.1 ∙ filter-put is_user state_pair (own_columns ps) not_user-meta.0 ∙ filter-twice is_user not_before ps user-own

---- the checks

none-own : (ps : List Pair) → find is_before_pair (own_columns ps) ≡ None
none-own [] = refl
none-own (p ∷ ps) =
    elim (is_before_pair p) as (λ b. is_before_pair p ≡ b → find is_before_pair (own_columns (p ∷ ps)) ≡ None) [
      | true ↦ λ q. simp q (none-own ps)
      | false ↦ λ q. simp (q) (none-own ps)
    ] refl

pub any-none : (t : Pair → Bool) (ps : List Pair) → find t ps ≡ None → list_any t ps ≡ false
any-none t [] h = refl
any-none t (p ∷ ps) h = ap (λ b. b || list_any t ps) (none-first t p ps h) ∙ any-none t ps (none-rest t p ps h)

not_before-set : (is_before tx_state ≡ false) × (is_before tx_committed_at ≡ false) × (is_before tx_tombstone ≡ false)
unfolding base_name
not_before-set = (refl, refl, refl)

pub forward-before : (ps : List Pair) (n : ℤ) → find is_before_pair (forward_columns ps n) ≡ None
forward-before ps n = none-forward is_before_pair ps n not_before-set.2 not_before-set.1 not_before-set.0 (none-own ps)

-- what was rolled forward says
abbrev pub forward_meta : Meta → Bool → ℤ → Meta
forward_meta m deleted n = record m { state = Committed; committed_at = Some n; tombstone = deleted }

pub present-moment : (n : ℤ) → is_moment n ≡ true → present (moment_in_value (Some (value.BigInt n))) ≡ Some (Some n)
present-moment n h = simp h refl

marked-says : (d : Bool) (o : Option Value) → o ≡ None → tombstone_in_value true (mark_value d o) ≡ Some d
marked-says true o h = refl
marked-says false o h = ap (tombstone_in_value true) h

-- a test that fails of user columns alone
not_user-stray : (p : Pair) (b : Bool) → is_user p.name ≡ false → (is_user_pair p && b) ≡ false
not_user-stray p b h = ap (λ c. c && b) h

-- the ninth check where there is a before image
abbrev pub refuse_before : List Pair → Meta → Result Meta (List ℕ)
refuse_before ps m = refuse (find is_misnamed ps) (with_before m (checked_part is_committed (before_part ps)))

module _ (ps : List Pair) (m : Meta) (n : ℤ) (f : Fine any_state ps m) (unsettled : is_in Committed ps ≡ false) (moment : is_moment n ≡ true) where
  pub open_state : is_committed m.state ≡ false
  open_state = sym (says-committed m.state) ∙ sym (is_in-says ps m.state Committed f.says.state) ∙ unsettled

  pub deleted_state : is_deleted m.state ≡ is_in Deleted ps
  deleted_state = sym (says-deleted m.state) ∙ sym (is_in-says ps m.state Deleted f.says.state)

  pub no_mark : (column ps tx_tombstone ≡ None) × (m.tombstone ≡ false)
  no_mark = no-tombstone (column ps tx_tombstone) m.tombstone (ap (λ b. tombstone_in_value b (column ps tx_tombstone)) (sym open_state) ∙ f.says.tombstone)

  forward-says : Says any_state (forward_columns ps n) (forward_meta m (is_in Deleted ps) n)
  forward-says =
      record {
        id = ap id_in_value (forward-id ps n) ∙ f.says.id;
        state = ap state_in_value (forward-state ps n);
        is_allowed = refl;
        version = ap version_in_value (forward-version ps n) ∙ f.says.version;
        prepared_at = ap moment_in_value (forward-prepared_at ps n) ∙ f.says.prepared_at;
        committed_at = ap (λ o. present (moment_in_value o)) (forward-committed_at ps n) ∙ present-moment n moment;
        tombstone = ap (tombstone_in_value true) (forward-tombstone ps n) ∙ marked-says (is_in Deleted ps) (column ps tx_tombstone) no_mark.0;
        has_before = f.says.has_before;
      }

  same-stray : is_stray m.state m.tombstone ≡ is_stray Committed (is_in Deleted ps)
  same-stray = ap (λ b. λ p. is_user_pair p && (b || nat_lt 64 (length p.name))) (ap (λ t. is_deleted m.state || t) no_mark.1 ∙ or-right (is_deleted m.state) ∙ deleted_state)

  forward-strays : find (is_stray Committed (is_in Deleted ps)) (forward_columns ps n) ≡ None
  forward-strays =
      none-forward (is_stray Committed (is_in Deleted ps)) ps n (not_user-stray mark_pair _ not_user-meta.2) (not_user-stray (time_pair n) _ not_user-meta.1) (not_user-stray state_pair _ not_user-meta.0)
      (none-filter (is_stray Committed (is_in Deleted ps)) (λ p. not (is_before_pair p)) ps (ap (λ t. find t ps) (sym same-stray) ∙ f.strays))

  pub forward-valid : Fine any_state (forward_columns ps n) (forward_meta m (is_in Deleted ps) n)
  forward-valid = record { says = forward-says; strays = forward-strays; early = forward-before ps n }

  pub forward-checked : checked (forward_columns ps n) ≡ Ok (forward_meta m (is_in Deleted ps) n)
  forward-checked =
      checked-valid (forward_columns ps n) (forward_meta m (is_in Deleted ps) n) (forward_meta m (is_in Deleted ps) n) forward-valid
      (ap (λ b. cond b (refuse_before (forward_columns ps n) (forward_meta m (is_in Deleted ps) n)) (Ok (forward_meta m (is_in Deleted ps) n))) (any-none is_before_pair (forward_columns ps n) (forward-before ps n)))

---- an unresolved record

-- what an unresolved record's checks say
pub record Unresolved (ps : List Pair) : Type 0 where
  pub stored : are_stored ps ≡ true
  pub final : Meta
  pub meta : Meta
  pub valid : Fine any_state ps meta
  pub ninth : checked_before ps meta ≡ Ok final
  pub unsettled : is_in Committed ps ≡ false

pub unresolved : (r : Record) → is_unresolved r ≡ true → Unresolved r.columns
unresolved r h =
    let t = and_first (is_transactional r) (not (is_in Committed r.columns)) h in
    let y = ok-of (checked r.columns) (and_second (are_stored r.columns) (is_ok (checked r.columns)) t) in
    let w = accepted r.columns y.0 y.1 in
    record {
      stored = and_first (are_stored r.columns) (is_ok (checked r.columns)) t;
      final = y.0;
      meta = w.0;
      valid = w.1;
      ninth = w.2;
      unsettled = not-not (is_in Committed r.columns) (and_second (is_transactional r) (not (is_in Committed r.columns)) h);
    }

pub has_int : (o : Option Value) (n : ℤ) → o ≡ Some (value.Int n) → has_value o (value.Int n) ≡ true
has_int o n h = ap (λ x. has_value x (value.Int n)) h ∙ ap is_eq (tied_itself value_total (value.Int n))

pub forward-in : (ps : List Pair) (n : ℤ) → is_in Committed (forward_columns ps n) ≡ true
forward-in ps n = has_int (column (forward_columns ps n) tx_state) (pos 3) (forward-state ps n)

pub forward-accepted : (r : Record) (n : ℤ) → is_unresolved r ≡ true → is_moment n ≡ true → is_transactional (forward_record r n) ≡ true
unfolding forward_record
forward-accepted r n h k =
    let u = unresolved r h in
    and_both (are_stored (forward_columns r.columns n)) _ (forward-stored r.columns n u.stored) (ap is_ok (forward-checked r.columns u.meta n u.valid u.unsettled k))

pub forward-committed : (r : Record) (n : ℤ) → is_in Committed (forward_record r n).columns ≡ true
unfolding forward_record
forward-committed r n = forward-in r.columns n

pub forward-writer : (r : Record) (n : ℤ) → id_in (forward_record r n).columns ≡ id_in r.columns
unfolding forward_record
forward-writer r n = ap id_in_value (forward-id r.columns n)

pub forward-key : (r : Record) (n : ℤ) → (forward_record r n).key ≡ r.key
unfolding forward_record
forward-key r n = refl

pub forward-version_of : (r : Record) (n : ℤ) (id : TxId) → is_version id Committed (forward_record r n) ≡ has_value (column r.columns tx_id) (value.Text (id_text id.0))
unfolding forward_record
forward-version_of r n id =
    ap (λ o. has_value o (value.Text (id_text id.0)) && is_in Committed (forward_columns r.columns n)) (forward-id r.columns n)
    ∙ ap (λ b. has_value (column r.columns tx_id) (value.Text (id_text id.0)) && b) (forward-in r.columns n) ∙ and-true _

---- the record that was there before

record_with-key : (key : Key) (ps : List Pair) (b : Record) → record_with key ps ≡ Some b → (b.key ≡ key) × (b.columns ≡ ps)
record_with-key key [] b h = absurd (cc)
record_with-key key (p ∷ ps) b h =
    let e : record { key = key; columns = p ∷ ps } ≡ b = cc in
    (sym (ap (λ (r : Record). r.key) e), sym (ap (λ (r : Record). r.columns) e))

-- a before image holds something where a column is of it
pub before_part-any : (ps : List Pair) → list_any is_before_pair ps ≡ false → before_part ps ≡ []
before_part-any [] h = refl
before_part-any (p ∷ ps) h =
    let w = or-false (is_before_pair p) (list_any is_before_pair ps) h in
    elim (base_name p.name) as (λ o. base_name p.name ≡ o → is_some o ≡ false → before_part (p ∷ ps) ≡ []) [
      | None ↦ λ q _. simp q (before_part-any ps w.1)
      | Some n ↦ λ q k. absurd (cc)
    ] refl w.0

with_before-ok : (m : Meta) (r : Result Meta (List ℕ)) (y : Meta) → with_before m r ≡ Ok y → (b : Meta) × (r ≡ Ok b)
with_before-ok m (Ok b) y h = (b, refl)
with_before-ok m (Err name) y h = absurd (cc)

names-before_part : (ps : List Pair) → list_all (λ (p : Pair). is_name p.name) ps ≡ true → have_identifiers ps ≡ true → list_all (λ (p : Pair). is_name p.name) (before_part ps) ≡ true
names-before_part [] h k = refl
names-before_part (p ∷ ps) h k =
    let rest = names-before_part ps (and_second (is_name p.name) (list_all (λ (x : Pair). is_name x.name) ps) h) (and_second (not (is_misnamed p)) (have_identifiers ps) k) in
    elim (base_name p.name) as (λ o. base_name p.name ≡ o → list_all (λ (x : Pair). is_name x.name) (before_part (p ∷ ps)) ≡ true) [
      | None ↦ λ q. simp q rest
      | Some n ↦ λ q.
          let i = keeps_here (base_name p.name) n (and_first (not (is_misnamed p)) (have_identifiers ps) k) q in
          simp q (and_both (is_name n) _ (kept-is_name p.name n (and_first (is_name p.name) (list_all (λ (x : Pair). is_name x.name) ps) h) q i) rest)
    ] refl

-- what a before image keeps is a committed record
pub record Kept (ps : List Pair) : Type 0 where
  pub stored : are_stored ps ≡ true
  pub passes : is_ok (checked ps) ≡ true
  pub committed : is_in Committed ps ≡ true

pub is_committed-is : (s : State) → is_committed s ≡ true → s ≡ Committed
is_committed-is Prepared h = cc
is_committed-is Deleted h = cc
is_committed-is Committed h = refl
is_committed-is Aborted h = cc

part-kept : (ps : List Pair) (m : Meta) → are_stored ps ≡ true → Fine is_committed ps m → Kept ps
part-kept ps m s f =
    let c = is_committed-is m.state f.says.is_allowed in
    let none : find is_before_pair ps ≡ None = ap (λ t. find (λ p. t && is_before_pair p) ps) (sym f.says.is_allowed) ∙ f.early in
    record {
      stored = s;
      passes = ap is_ok (checked-valid ps m m (valid-any ps m f) (ap (λ b. cond b (refuse_before ps m) (Ok m)) (any-none is_before_pair ps none)));
      committed = has_int (column ps tx_state) (pos 3) (state_value (column ps tx_state) Committed (f.says.state ∙ ap Some c));
    }

pub before-kept : (r : Record) (b : Record) → is_unresolved r ≡ true → before_record r ≡ Some b → (b.key ≡ r.key) × Kept b.columns
unfolding before_record
before-kept r b h k =
    let ps = r.columns in
    let u = unresolved r h in
    let w = record_with-key r.key (before_part ps) b k in
    let keeps = accepted-keep r (and_first (is_transactional r) (not (is_in Committed ps)) h) in
    let order = are_columns-before_part ps (and_first (are_columns ps) (list_all (λ (p : Pair). is_name p.name) ps) u.stored) in
    let names = names-before_part ps (and_second (are_columns ps) (list_all (λ (p : Pair). is_name p.name) ps) u.stored) keeps in
    let stored : are_stored (before_part ps) ≡ true = and_both (are_columns (before_part ps)) _ order names in
    let part : Kept (before_part ps) =
    elim (list_any is_before_pair ps) as (λ x. list_any is_before_pair ps ≡ x → cond x (refuse_before ps u.meta) (Ok u.meta) ≡ Ok u.final → Kept (before_part ps)) [
      | true ↦ λ q e.
          let a = refuse-ok (find is_misnamed ps) (with_before u.meta (checked_part is_committed (before_part ps))) u.final e in
          let c = with_before-ok u.meta (checked_part is_committed (before_part ps)) u.final a.1 in
          part-kept (before_part ps) c.0 stored (valid is_committed (before_part ps) c.0 c.1)
      | false ↦ λ q e. let none = before_part-any ps q in let some : record_with r.key (before_part ps) ≡ None = ap (record_with r.key) none in absurd (cc)
    ] refl u.ninth in
    (w.0, subst Kept (sym w.1) part)
