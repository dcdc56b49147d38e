-- What the checks of metadata say, fact by fact.
use Rattle.std.proofs.Common.{◌≡◌, ℕ, suc, ◌<◌, get_or, drop, drop-cons, pos, List, [], ◌∷◌, length, Bool, true, false, not, ◌&&◌, ◌||◌, cond, refl, sym, ap, ◌∙◌, subst, arith, Option, Some, None, Result, Ok, Err}
use Rattle.std.specs.Prelude.{find, is_some, is_ok, nat_lt, nat_le}
use Rattle.std.specs.List.{list_any, list_all}
use Rattle.sdb_record.specs.Types.{Pair, Record, State, Value}
use Rattle.sdb_types.specs.declared.value.Value.TheVariants as value
use Rattle.sdb_types.specs.declared.record.State.TheVariants.{Committed}
use Rattle.sdb_types.specs.Columns.{column}
use Rattle.sdb_types.specs.Identifier.{is_identifier}
use Rattle.sdb_types.specs.Order.{value_cmp}
use Rattle.sdb_types.specs.Exact.{equal_of}
use Rattle.sdb_types.specs.ValueLaws.{value_exact}
use Rattle.sdb_types.specs.Contents.{tx_id, tx_state, has_value}
use Rattle.sdb_types.proofs.Public.{and_both, and_first, and_second, not_true, or_neither as or-false}
use Rattle.std.proofs.lemmas.Bool.Decides.{nat_tests}
use Rattle.sdb_record.specs.declared.meta.Meta.{Meta}
use Rattle.sdb_record.proofs.NameLemmas.{same_name-true}
use Rattle.sdb_record.specs.Names.{tx_version, tx_prepared_at, tx_committed_at, tx_tombstone, base_name, is_before, is_meta, same_name}
use Rattle.sdb_record.specs.Parts.{before_part, is_before_pair, are_short, are_stored}
use Rattle.sdb_record.specs.Meta.{id_in, state_in, state_in_value, version_in, moment_in, committed_at_in, tombstone_in, is_stray, is_early, is_committed, is_deleted, is_misnamed, is_in, need, refuse, then_check, only_if, meta_in, checked_columns, checked_part, checked_before, checked, any_state, with_before, have_identifiers, is_badly_named, is_transactional}

---- steps that went on

pub need-ok : {A B : Type 0} (o : Option A) (name : List ℕ) (next : A → Result B (List ℕ)) (y : B) → need o name next ≡ Ok y → (x : A) × (o ≡ Some x) × (next x ≡ Ok y)
need-ok None name next y h = absurd (cc)
need-ok (Some x) name next y h = (x, refl, h)

pub need-some : {A B : Type 0} (o : Option A) (name : List ℕ) (next : A → Result B (List ℕ)) (x : A) → o ≡ Some x → need o name next ≡ next x
need-some o name next x h = ap (λ p. need p name next) h

pub refuse-ok : {B : Type 0} (o : Option Pair) (next : Result B (List ℕ)) (y : B) → refuse o next ≡ Ok y → (o ≡ None) × (next ≡ Ok y)
refuse-ok None next y h = (refl, h)
refuse-ok (Some p) next y h = absurd (cc)

then_check-ok : {A B : Type 0} (r : Result A (List ℕ)) (next : A → Result B (List ℕ)) (y : B) → then_check r next ≡ Ok y → (x : A) × (r ≡ Ok x) × (next x ≡ Ok y)
then_check-ok (Ok x) next y h = (x, refl, h)
then_check-ok (Err name) next y h = absurd (cc)

only_if-some : {A : Type 0} (test : A → Bool) (o : Option A) (x : A) → only_if test o ≡ Some x → (o ≡ Some x) × (test x ≡ true)
only_if-some test None x h = absurd (cc)
only_if-some test (Some z) x h =
    elim (test z) as (λ b. test z ≡ b → cond b (Some z) None ≡ Some x → (Some z ≡ Some x) × (test x ≡ true)) [
      | true ↦ λ q k. let e : z ≡ x = cc in (k, subst (λ a. test a ≡ true) e q)
      | false ↦ λ q k. absurd (cc)
    ] refl h

---- the first eight checks

-- what the metadata columns say
pub record Says (allowed : State → Bool) (ps : List Pair) (m : Meta) : Type 0 where
  pub id : id_in ps ≡ Some m.id
  pub state : state_in ps ≡ Some m.state
  pub is_allowed : allowed m.state ≡ true
  pub version : version_in ps ≡ Some m.version
  pub prepared_at : moment_in ps tx_prepared_at ≡ Some m.prepared_at
  pub committed_at : committed_at_in m.state ps ≡ Some m.committed_at
  pub tombstone : tombstone_in m.state ps ≡ Some m.tombstone
  pub has_before : m.has_before ≡ false

pub says : (allowed : State → Bool) (ps : List Pair) (m : Meta) → meta_in allowed ps ≡ Ok m → Says allowed ps m
unfolding meta_in
says allowed ps m h =
    let a = need-ok (id_in ps) tx_id _ m h in
    let b = need-ok (only_if allowed (state_in ps)) tx_state _ m a.2 in
    let c = need-ok (version_in ps) tx_version _ m b.2 in
    let d = need-ok (moment_in ps tx_prepared_at) tx_prepared_at _ m c.2 in
    let e = need-ok (committed_at_in b.0 ps) tx_committed_at _ m d.2 in
    let f = need-ok (tombstone_in b.0 ps) tx_tombstone _ m e.2 in
    let w = only_if-some allowed (state_in ps) b.0 b.1 in
    let is : Ok (record { id = a.0; state = b.0; version = c.0; prepared_at = d.0; committed_at = e.0; tombstone = f.0; has_before = false }) ≡ Ok m = f.2 in
    let same : record { id = a.0; state = b.0; version = c.0; prepared_at = d.0; committed_at = e.0; tombstone = f.0; has_before = false } ≡ m = cc in
    subst (Says allowed ps) same (record { id = a.1; state = w.0; is_allowed = w.1; version = c.1; prepared_at = d.1; committed_at = e.1; tombstone = f.1; has_before = refl })

pub meta_in-says : (allowed : State → Bool) (ps : List Pair) (m : Meta) → Says allowed ps m → meta_in allowed ps ≡ Ok m
unfolding meta_in
meta_in-says allowed ps m s =
    let w : only_if allowed (state_in ps) ≡ Some m.state = ap (only_if allowed) s.state ∙ ap (λ b. cond b (Some m.state) None) s.is_allowed in
    need-some (id_in ps) tx_id _ m.id s.id ∙ need-some (only_if allowed (state_in ps)) tx_state _ m.state w ∙ need-some (version_in ps) tx_version _ m.version s.version ∙ need-some (moment_in ps tx_prepared_at) tx_prepared_at _ m.prepared_at s.prepared_at
    ∙ need-some (committed_at_in m.state ps) tx_committed_at _ m.committed_at s.committed_at ∙ need-some (tombstone_in m.state ps) tx_tombstone _ m.tombstone s.tombstone ∙ ap (λ b. Ok (record m { has_before = b })) (sym s.has_before)

-- what the first eight checks say
pub record Fine (allowed : State → Bool) (ps : List Pair) (m : Meta) : Type 0 where
  pub says : Says allowed ps m
  pub strays : find (is_stray m.state m.tombstone) ps ≡ None
  pub early : find (is_early m.state) ps ≡ None

pub valid : (allowed : State → Bool) (ps : List Pair) (m : Meta) → checked_part allowed ps ≡ Ok m → Fine allowed ps m
valid allowed ps m h =
    let a = then_check-ok (meta_in allowed ps) (checked_columns ps) m h in
    let b = refuse-ok (find (is_stray a.0.state a.0.tombstone) ps) (refuse (find (is_early a.0.state) ps) (Ok a.0)) m a.2 in
    let d = refuse-ok (find (is_early a.0.state) ps) (Ok a.0) m b.1 in
    let same : a.0 ≡ m = cc in
    subst (Fine allowed ps) same (record { says = says allowed ps a.0 a.1; strays = b.0; early = d.0 })

pub checked_part-valid : (allowed : State → Bool) (ps : List Pair) (m : Meta) → Fine allowed ps m → checked_part allowed ps ≡ Ok m
checked_part-valid allowed ps m f =
    ap (λ r. then_check r (checked_columns ps)) (meta_in-says allowed ps m f.says)
    ∙ ap (λ o. refuse o (refuse (find (is_early m.state) ps) (Ok m))) f.strays ∙ ap (λ o. refuse o (Ok m)) f.early

-- a committed part of any state is a part of a committed state
pub valid-committed : (ps : List Pair) (m : Meta) → Fine any_state ps m → is_committed m.state ≡ true → Fine is_committed ps m
valid-committed ps m f h =
    record { says = record { id = f.says.id; state = f.says.state; is_allowed = h; version = f.says.version; prepared_at = f.says.prepared_at; committed_at = f.says.committed_at; tombstone = f.says.tombstone; has_before = f.says.has_before }; strays = f.strays; early = f.early }

pub valid-any : (ps : List Pair) (m : Meta) → Fine is_committed ps m → Fine any_state ps m
valid-any ps m f =
    record { says = record { id = f.says.id; state = f.says.state; is_allowed = refl; version = f.says.version; prepared_at = f.says.prepared_at; committed_at = f.says.committed_at; tombstone = f.says.tombstone; has_before = f.says.has_before }; strays = f.strays; early = f.early }

---- all checks

pub ok-of : {A E : Type 0} (r : Result A E) → is_ok r ≡ true → (x : A) × (r ≡ Ok x)
ok-of (Ok x) h = (x, refl)
ok-of (Err e) h = absurd (cc)

-- what a accepted record's checks say: the first eight of its own columns, and the ninth
pub accepted : (ps : List Pair) (y : Meta) → checked ps ≡ Ok y → (m : Meta) × Fine any_state ps m × (checked_before ps m ≡ Ok y)
unfolding checked
accepted ps y h =
    let a = then_check-ok (checked_part any_state ps) (checked_before ps) y h in
    (a.0, valid any_state ps a.0 a.1, a.2)

pub checked-valid : (ps : List Pair) (m y : Meta) → Fine any_state ps m → checked_before ps m ≡ Ok y → checked ps ≡ Ok y
unfolding checked
checked-valid ps m y f h = ap (λ r. then_check r (checked_before ps)) (checked_part-valid any_state ps m f) ∙ h

---- tests that find nothing

pub none-first : {X : Type 0} (t : X → Bool) (x : X) (xs : List X) → find t (x ∷ xs) ≡ None → t x ≡ false
none-first t x xs h =
    elim (t x) as (λ b. cond b (Some x) (find t xs) ≡ None → b ≡ false) [
      | true ↦ λ k. absurd (cc)
      | false ↦ λ k. refl
    ] h

pub none-rest : {X : Type 0} (t : X → Bool) (x : X) (xs : List X) → find t (x ∷ xs) ≡ None → find t xs ≡ None
none-rest t x xs h =
    elim (t x) as (λ b. cond b (Some x) (find t xs) ≡ None → find t xs ≡ None) [
      | true ↦ λ k. absurd (cc)
      | false ↦ λ k. k
    ] h

pub none-make : {X : Type 0} (t : X → Bool) (x : X) (xs : List X) → t x ≡ false → find t xs ≡ None → find t (x ∷ xs) ≡ None
none-make t x xs h k = ap (λ b. cond b (Some x) (find t xs)) h ∙ k

pub all-none : {X : Type 0} (t : X → Bool) (xs : List X) → find t xs ≡ None → list_all (λ x. not (t x)) xs ≡ true
all-none t [] h = refl
all-none t (x ∷ xs) h = and_both (not (t x)) _ (ap not (none-first t x xs h)) (all-none t xs (none-rest t x xs h))

---- a before image

no_keeping : (o : Option (List ℕ)) → is_some o ≡ false → not (is_badly_named o) ≡ true
no_keeping None h = refl
no_keeping (Some n) h = absurd (cc)

keep-none : (ps : List Pair) → list_any is_before_pair ps ≡ false → have_identifiers ps ≡ true
keep-none [] h = refl
keep-none (p ∷ ps) h =
    let w = or-false (is_before_pair p) (list_any is_before_pair ps) h in
    and_both (not (is_misnamed p)) _ (no_keeping (base_name p.name) w.0) (keep-none ps w.1)

keep-before : (ps : List Pair) (m y : Meta) → checked_before ps m ≡ Ok y → have_identifiers ps ≡ true
keep-before ps m y h =
    elim (list_any is_before_pair ps) as (λ b. list_any is_before_pair ps ≡ b → cond b (refuse (find is_misnamed ps) (with_before m (checked_part is_committed (before_part ps)))) (Ok m) ≡ Ok y → have_identifiers ps ≡ true) [
      | true ↦ λ q k. all-none is_misnamed ps (refuse-ok (find is_misnamed ps) (with_before m (checked_part is_committed (before_part ps))) y k).0
      | false ↦ λ q k. keep-none ps q
    ] refl h

-- what a accepted record keeps has names
pub accepted-keep : (r : Record) → is_transactional r ≡ true → have_identifiers r.columns ≡ true
accepted-keep r h =
    let ps = r.columns in
    let y = ok-of (checked ps) (and_second (are_stored ps) (is_ok (checked ps)) h) in
    let w = accepted ps y.0 y.1 in
    keep-before ps w.0 y.0 w.2

twice : (b : Bool) → not (not b) ≡ true → b ≡ true
twice true h = refl
twice false h = cc

pub keeps_here : (o : Option (List ℕ)) (name : List ℕ) → not (is_badly_named o) ≡ true → o ≡ Some name → is_identifier name ≡ true
keeps_here None name h k = absurd (cc)
keeps_here (Some n) name h k =
    let e : n ≡ name = cc in
    let i : is_identifier n ≡ true = twice (is_identifier n) h in
    subst (λ (x : List ℕ). is_identifier x ≡ true) e i

-- the column at a place keeps an identifier, if it keeps a name
pub keeps-at : (ps : List Pair) (i : ℕ) (p : Pair) → i < length ps → p ≡ get_or ps i p → have_identifiers (drop i ps) ≡ true → is_misnamed p ≡ false
keeps-at ps i p h e k =
    let d : drop i ps ≡ p ∷ drop (suc i) ps = drop-cons ps i p h ∙ ap (λ x. x ∷ drop (suc i) ps) (sym e) in
    let all : have_identifiers (p ∷ drop (suc i) ps) ≡ true = subst (λ (xs : List Pair). have_identifiers xs ≡ true) d k in
    not_true (is_misnamed p) (and_first (not (is_misnamed p)) (have_identifiers (drop (suc i) ps)) all)

---- names that leave room for the prefix

or_cases : {G : Type 0} (a b : Bool) → (a || b) ≡ true → (a ≡ true → G) → (b ≡ true → G) → G
or_cases true b h f g = f refl
or_cases false b h f g = g h

short-as : (name text : List ℕ) → nat_le (length text) 64 ≡ true → same_name name text ≡ true → nat_le (length name) 64 ≡ true
short-as name text h q = subst (λ (x : List ℕ). nat_le (length x) 64 ≡ true) (sym (same_name-true name text q)) h

meta-short : (name : List ℕ) → is_meta name ≡ true → nat_le (length name) 64 ≡ true
unfolding is_meta
meta-short name h =
    or_cases (same_name name tx_id) _ h (short-as name tx_id refl) (λ h1.
    or_cases (same_name name tx_state) _ h1 (short-as name tx_state refl) (λ h2.
    or_cases (same_name name tx_version) _ h2 (short-as name tx_version refl) (λ h3.
    or_cases (same_name name tx_prepared_at) _ h3 (short-as name tx_prepared_at refl) (λ h4.
    or_cases (same_name name tx_committed_at) _ h4 (short-as name tx_committed_at refl) (short-as name tx_tombstone refl)))))

not-long : (n : ℕ) → nat_lt 64 n ≡ false → nat_le n 64 ≡ true
not-long n h = grind (arith, nat_tests)

short-user : (meta before stray : Bool) (n : ℕ) → meta ≡ false → before ≡ false → ((not meta && not before) && (stray || nat_lt 64 n)) ≡ false → nat_le n 64 ≡ true
short-user true before stray n m b h = absurd (cc)
short-user false true stray n m b h = absurd (cc)
short-user false false stray n m b h = not-long n (or-false stray (nat_lt 64 n) h).1

short-name : (m : Meta) (p : Pair) → is_committed m.state ≡ true → is_stray m.state m.tombstone p ≡ false → is_early m.state p ≡ false → nat_le (length p.name) 64 ≡ true
short-name m p c s e =
    let before : is_before p.name ≡ false = ap (λ b. b && is_before p.name) (sym c) ∙ e in
    elim (is_meta p.name) as (λ b. is_meta p.name ≡ b → nat_le (length p.name) 64 ≡ true) [
      | true ↦ λ q. meta-short p.name q
      | false ↦ λ q. short-user (is_meta p.name) (is_before p.name) (is_deleted m.state || m.tombstone) (length p.name) q before s
    ] refl

pub committed-short : (ps : List Pair) (m : Meta) → is_committed m.state ≡ true → find (is_stray m.state m.tombstone) ps ≡ None → find (is_early m.state) ps ≡ None → are_short ps ≡ true
committed-short [] m c s e = refl
committed-short (p ∷ ps) m c s e =
    and_both (nat_le (length p.name) 64) _ (short-name m p c (none-first (is_stray m.state m.tombstone) p ps s) (none-first (is_early m.state) p ps e))
    (committed-short ps m c (none-rest (is_stray m.state m.tombstone) p ps s) (none-rest (is_early m.state) p ps e))

---- states

pub has_value-is : (o : Option Value) (v : Value) → has_value o v ≡ true → o ≡ Some v
has_value-is None v h = absurd (cc)
has_value-is (Some u) v h = ap Some (value_exact u v (equal_of (value_cmp u v) h))

pub in_committed : (ps : List Pair) → is_in Committed ps ≡ true → state_in ps ≡ Some Committed
in_committed ps h = ap state_in_value (has_value-is (column ps tx_state) (value.Int (pos 3)) h)

pub committed-state : (allowed : State → Bool) (ps : List Pair) (m : Meta) → Fine allowed ps m → is_in Committed ps ≡ true → is_committed m.state ≡ true
committed-state allowed ps m f h =
    let e : Some Committed ≡ Some m.state = sym (in_committed ps h) ∙ f.says.state in
    let s : Committed ≡ m.state = cc in
    ap is_committed (sym s)

-- a committed record's names leave room for the prefix
pub accepted-short : (r : Record) → is_transactional r ≡ true → is_in Committed r.columns ≡ true → are_short r.columns ≡ true
accepted-short r h k =
    let ps = r.columns in
    let y = ok-of (checked ps) (and_second (are_stored ps) (is_ok (checked ps)) h) in
    let w = accepted ps y.0 y.1 in
    committed-short ps w.0 (committed-state any_state ps w.0 w.1 k) w.1.strays w.1.early
