-- What the tests of writes and notes tell of a plan.
use Rattle.std.proofs.Common.{◌≡◌, ℕ, Bool, true, false, List, Option, Some, None, refl, sym, ap, subst, ◌∙◌}
use Rattle.std.specs.Prelude.{◌&&◌, find, slice_get, if◌then◌else◌, IfSome}
use Rattle.std.specs.Option.{option_map_or, option_map, option_and_then}
use Rattle.check_protocol.specs.Types.{Key, Read, Record, Scan, TxId, Write}
use Rattle.sdb_types.specs.declared.record.State.TheVariants as state
use Rattle.sdb_types.specs.Contents.{in_span}
use Rattle.sdb_record.specs.Meta.{is_in, is_transactional}
use Rattle.sdb_record.specs.Moved.{version_of}
use Rattle.sdb_record.specs.Rolls.{IsWrite, IsBaseOf, is_change}
use Rattle.sdb_record.specs.Among.{version_among, write_among}
use Rattle.law_protocol.specs.Plan.{write_at, written, version_read_at, number_of}
use Rattle.sdb_model.specs.ReadSet.{version_read}
use Rattle.check_protocol.specs.declared.plan.Plan.{Plan}
use Rattle.check_protocol.specs.declared.plan.ReadItem.{ReadItem}
use Rattle.check_protocol.specs.declared.plan.ReadItem.TheVariants as item
use Rattle.check_protocol.specs.Values.{item_of, plan_in, writes_in, items_in}
use Rattle.check_protocol.specs.Rules.{is_base, is_sound}
use Rattle.check_protocol.proofs.Lists.{none_some, right, In, found_in, got_map}
use Rattle.sdb_types.proofs.Public.{and_both as both, and_first as left, same_key_exact, same_key_of, some_is}
use Rattle.sdb_types.specs.Order.{same_key}

---- writes

pub sound_is : (w : Write) → is_sound w ≡ true → IsWrite w
sound_is w h = record { base = by w.base (left (option_map_or (is_base w.key) w.base true) (is_change w.change) h); change = right (option_map_or (is_base w.key) w.base true) (is_change w.change) h }
  where
    by : (o : Option Record) → option_map_or (is_base w.key) o true ≡ true → IfSome o (IsBaseOf w.key)
    by None e = tt
    by (Some b) e =
        let rest = right (same_key b.key w.key) (is_transactional b && is_in state.Committed b.columns) e in
        (same_key_exact b.key w.key (left (same_key b.key w.key) (is_transactional b && is_in state.Committed b.columns) e), left (is_transactional b) (is_in state.Committed b.columns) rest, right (is_transactional b) (is_in state.Committed b.columns) rest)

pub is_sound_of : (w : Write) → IsWrite w → is_sound w ≡ true
is_sound_of w s = both (option_map_or (is_base w.key) w.base true) (is_change w.change) (by w.base s.base) s.change
  where
    by : (o : Option Record) → IfSome o (IsBaseOf w.key) → option_map_or (is_base w.key) o true ≡ true
    by None e = refl
    by (Some b) e = both (same_key b.key w.key) (is_transactional b && is_in state.Committed b.columns) (same_key_of b.key w.key e.0) (both (is_transactional b) (is_in state.Committed b.columns) e.1 e.2)

pub write_is : (plans : List Plan) (t : ℕ) (k : Key) → write_at (plan_in plans t) k ≡ write_among (writes_in plans t) k
unfolding write_at
write_is plans t k = refl

-- the write of a key is among them, and is of that key
pub write_in_is : (ws : List Write) (k : Key) (w : Write) → write_among ws k ≡ Some w → In ws w × (w.key ≡ k)
write_in_is ws k w h = let f = found_in (λ (x : Write). same_key k x.key) ws w h in (f.0, sym (same_key_exact k w.key f.1))

-- and it is the write of its own key
pub write_own : (ws : List Write) (k : Key) (w : Write) → write_among ws k ≡ Some w → write_among ws w.key ≡ Some w
write_own ws k w h = subst (λ x. write_among ws x ≡ Some w) (sym (write_in_is ws k w h).1) h

pub written_at : (plans : List Plan) (t : ℕ) (k : Key) → written (plan_in plans t) k ≡ option_map (λ (w : Write). number_of (version_of w.base)) (write_among (writes_in plans t) k)
unfolding written write_at
written_at plans t k = refl

---- read items

-- what the i-th noted read says of a key
pub record Says (ns : List ReadItem) (i : ℕ) (k : Key) (v : Option ℕ) : Type 0 where
  pub n : ReadItem
  pub at : slice_get ns i ≡ Some n
  pub version : Option TxId
  pub as_read : version_read (item_of n) k ≡ Some version
  pub number : number_of version ≡ v

says_by : (ns : List ReadItem) (i : ℕ) (k : Key) (v : Option ℕ) (o : Option ReadItem) → slice_get ns i ≡ o → option_map number_of (option_and_then (λ (n : Rattle.sdb_model.specs.ReadSet.ReadItem). version_read n k) (option_map item_of o)) ≡ Some v → Says ns i k v
says_by ns i k v None e h = none_some h
says_by ns i k v (Some n) e h = by (version_read (item_of n) k) refl h
  where
    by : (o : Option (Option TxId)) → version_read (item_of n) k ≡ o → option_map number_of o ≡ Some v → Says ns i k v
    by None f h = none_some h
    by (Some version) f h = record { n = n; at = e; version = version; as_read = f; number = some_is (number_of version) v h }

pub noted_says : (plans : List Plan) (t i : ℕ) (k : Key) (v : Option ℕ) → version_read_at (plan_in plans t) i k ≡ Some v → Says (items_in plans t) i k v
unfolding version_read_at
noted_says plans t i k v h =
    says_by (items_in plans t) i k v (slice_get (items_in plans t) i) refl (ap (λ o. option_map number_of (option_and_then (λ (n : Rattle.sdb_model.specs.ReadSet.ReadItem). version_read n k) o)) (sym (got_map item_of (items_in plans t) i)) ∙ h)

pub says_noted : (plans : List Plan) (t i : ℕ) (k : Key) (n : ReadItem) (version : Option TxId) → slice_get (items_in plans t) i ≡ Some n → version_read (item_of n) k ≡ Some version → version_read_at (plan_in plans t) i k ≡ Some (number_of version)
unfolding version_read_at
says_noted plans t i k n version at says =
    ap (λ o. option_map number_of (option_and_then (λ (n : Rattle.sdb_model.specs.ReadSet.ReadItem). version_read n k) o)) (got_map item_of (items_in plans t) i ∙ ap (option_map item_of) at) ∙ ap (option_map number_of) says

pub got_says : (read : Read) (k : Key) (version : Option TxId) → version_read (item_of (item.KeyRead read)) k ≡ Some version → (read.key ≡ k) × (version ≡ read.version)
got_says read k version h = by (same_key read.key k) refl h
  where
    by : (b : Bool) → same_key read.key k ≡ b → (if b then Some read.version else None) ≡ Some version → (read.key ≡ k) × (version ≡ read.version)
    by true e f = (same_key_exact read.key k e, sym (some_is read.version version f))
    by false e f = none_some f

pub says_got : (read : Read) → version_read (item_of (item.KeyRead read)) read.key ≡ Some read.version
says_got read = ap (λ b. if b then Some read.version else None) (same_key_of read.key read.key refl)

pub scan_says : (scan : Scan) (k : Key) (version : Option TxId) → version_read (item_of (item.SpanRead scan)) k ≡ Some version → (in_span scan.span k ≡ true) × (version ≡ version_among scan.found k)
scan_says scan k version h = by (in_span scan.span k) refl h
  where
    by : (b : Bool) → in_span scan.span k ≡ b → (if b then Some (version_among scan.found k) else None) ≡ Some version → (in_span scan.span k ≡ true) × (version ≡ version_among scan.found k)
    by true e f = (e, sym (some_is (version_among scan.found k) version f))
    by false e f = none_some f

pub says_scan : (scan : Scan) (k : Key) → in_span scan.span k ≡ true → version_read (item_of (item.SpanRead scan)) k ≡ Some (version_among scan.found k)
says_scan scan k h = ap (λ b. if b then Some (version_among scan.found k) else None) h

-- a version that a scan found is that of one of its reads
pub among_is : (found : List Read) (k : Key) (v : TxId) → version_among found k ≡ Some v → (read : Read) × In found read × (read.key ≡ k)
among_is found k v h = by (find (λ (r : Read). same_key k r.key) found) refl h
  where
    by : (o : Option Read) → find (λ (r : Read). same_key k r.key) found ≡ o → option_and_then (λ (r : Read). r.version) o ≡ Some v → (read : Read) × In found read × (read.key ≡ k)
    by None e h = none_some h
    by (Some r) e h = let f = found_in (λ (r : Read). same_key k r.key) found r e in (r, f.0, sym (same_key_exact k r.key f.1))
