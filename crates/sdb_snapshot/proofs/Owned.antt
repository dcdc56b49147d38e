-- Each write has the base that was noted at its key, and no two are of one key.
use Rattle.std.proofs.Common.{◌≡◌, Bool, true, false, cond, List, [], ◌∷◌, ◌++◌, Option, Some, None, IfSome, refl, sym, ap, subst, ◌∙◌}
use Rattle.std.specs.Prelude.{is_some, Result, Ok, Err, OnOk, OnErr}
use Rattle.std.specs.Option.{option_and_then}
use Rattle.sdb_snapshot.specs.Types.{Key, Keyed, Record, Write}
use Rattle.sdb_snapshot.specs.Entries.{value_at}
use Rattle.sdb_record.specs.Rolls.{IsBaseOf, AreCommitted}
use Rattle.sdb_record.specs.Among.{is_written, write_among}
use Rattle.sdb_snapshot.specs.Reads.{ReadRecord, is_key_read, base_at, with_images}
use Rattle.sdb_snapshot.specs.Written.{AreChanges, HaveBases, HaveKeysOnce, with_write, with_writes, with_change_of, write_of}
use Rattle.sdb_snapshot.specs.Sets.{IsSetInvariant}
use Rattle.sdb_snapshot.proofs.Keys.{value_last}
use Rattle.sdb_snapshot.proofs.Differences.{or_there, read_images, noted_last_keeps, still_noted, bases_last, bases_images, writes_fine, writes_read}
use Rattle.sdb_types.proofs.Public.{by_test, same_key_exact, same_key_self}
use Rattle.sdb_types.specs.Order.{same_key}

---- bases

-- notes that keep what was found at each key that was read
abbrev pub Keeps : List ReadRecord → List ReadRecord → Type 0
Keeps read_set later = (q : Key) → is_key_read read_set q ≡ true → value_at later q ≡ value_at read_set q

keeps_last : (read_set : List ReadRecord) (k : Key) (f : Option Record) → Keeps read_set (read_set ++ (k, f) ∷ [])
keeps_last read_set k f q h = value_last read_set k f q ∙ or_there (value_at read_set q) (cond (same_key q k) (Some f) None) h

keeps_images : (read_set : List ReadRecord) (rs : List Record) → Keeps read_set (with_images read_set rs)
keeps_images read_set rs q h = read_images read_set rs q ∙ or_there (value_at read_set q) _ h

based_later : (read_set later : List ReadRecord) (ws : List Write) → Keeps read_set later → HaveBases read_set ws → HaveBases later ws
based_later read_set later [] keep h = tt
based_later read_set later (w ∷ ws) keep h = (
  (ap is_some (keep w.key h.0.0) ∙ h.0.0, h.0.1 ∙ sym (ap (option_and_then (λ x. x)) (keep w.key h.0.0))),
  based_later read_set later ws keep h.1,
)

based_write : (read_set : List ReadRecord) (ws : List Write) (w : Write) → HaveBases read_set ws → (is_key_read read_set w.key ≡ true) × (w.base ≡ base_at read_set w.key) → HaveBases read_set (with_write ws w)
based_write read_set [] w h g = (g, tt)
based_write read_set (x ∷ xs) w h g = by_same (same_key w.key x.key) (based_write read_set xs w h.1 g)
  where
    by_same : (b : Bool) → HaveBases read_set (with_write xs w) → HaveBases read_set (cond b (with_change_of x w ∷ xs) (x ∷ with_write xs w))
    by_same true rest = h
    by_same false rest = (h.0, rest)

based_writes : (read_set : List ReadRecord) (ws : List Write) (ks : List Keyed) → HaveBases read_set ws → AreChanges read_set ks → HaveBases read_set (with_writes read_set ws ks)
based_writes read_set ws [] h g = h
based_writes read_set ws (k ∷ ks) h g = based_writes read_set (with_write ws (write_of read_set k)) ks (based_write read_set ws (write_of read_set k) h (g.0.0, refl)) g.1

---- keys

other_way : (a b : Key) → same_key a b ≡ false → same_key b a ≡ false
other_way a b h =
    by_test (same_key b a)
    (λ t. let tied : same_key a b ≡ true = subst (λ (x : Key). same_key a x ≡ true) (sym (same_key_exact b a t)) (same_key_self a) in
    let no : true ≡ false = sym tied ∙ h in absurd (cc))
    (λ t. t)

same_either : (c : Bool) (x y : Write) (o p : Option Write) → is_some o ≡ is_some p → is_some (cond c (Some x) o) ≡ is_some (cond c (Some y) p)
same_either true x y o p h = refl
same_either false x y o p h = h

written_other : (ws : List Write) (w : Write) (q : Key) → same_key q w.key ≡ false → is_written (with_write ws w) q ≡ is_written ws q
written_other [] w q t = ap (λ (b : Bool). is_some (cond b (Some w) None)) t
written_other (x ∷ xs) w q t = by_same (same_key w.key x.key) (written_other xs w q t)
  where
    by_same : (b : Bool) → is_written (with_write xs w) q ≡ is_written xs q → is_written (cond b (with_change_of x w ∷ xs) (x ∷ with_write xs w)) q ≡ is_written (x ∷ xs) q
    by_same true rest = same_either (same_key q x.key) (with_change_of x w) x (write_among xs q) (write_among xs q) refl
    by_same false rest = same_either (same_key q x.key) x x (write_among (with_write xs w) q) (write_among xs q) rest

once_write : (ws : List Write) (w : Write) → HaveKeysOnce ws → HaveKeysOnce (with_write ws w)
once_write [] w h = (refl, tt)
once_write (x ∷ xs) w h =
    by_test (same_key w.key x.key)
    (λ t. subst (λ (b : Bool). HaveKeysOnce (cond b (with_change_of x w ∷ xs) (x ∷ with_write xs w))) (sym t) h)
    (λ t. subst (λ (b : Bool). HaveKeysOnce (cond b (with_change_of x w ∷ xs) (x ∷ with_write xs w))) (sym t)
    (written_other xs w x.key (other_way w.key x.key t) ∙ h.0, once_write xs w h.1))

once_writes : (read_set : List ReadRecord) (ws : List Write) (ks : List Keyed) → HaveKeysOnce ws → HaveKeysOnce (with_writes read_set ws ks)
once_writes read_set ws [] h = h
once_writes read_set ws (k ∷ ks) h = once_writes read_set (with_write ws (write_of read_set k)) ks (once_write ws (write_of read_set k) h)

---- kept

pub kept_get : (read_set : List ReadRecord) (ws : List Write) (k : Key) (f : Option Record) → IsSetInvariant read_set ws → IfSome f (IsBaseOf k) → IsSetInvariant (read_set ++ (k, f) ∷ []) ws
kept_get read_set ws k f h image = record {
  read = λ q w. noted_last_keeps read_set k f q (h.read q w);
  bases = bases_last read_set k f h.bases image;
  valid = h.valid;
  based = based_later read_set (read_set ++ (k, f) ∷ []) ws (keeps_last read_set k f) h.based;
  once = h.once;
}

pub kept_scan : (read_set : List ReadRecord) (ws : List Write) (rs : List Record) → IsSetInvariant read_set ws → AreCommitted rs → IsSetInvariant (with_images read_set rs) ws
kept_scan read_set ws rs h images = record {
  read = λ q w. still_noted read_set rs q (h.read q w);
  bases = bases_images read_set rs h.bases images;
  valid = h.valid;
  based = based_later read_set (with_images read_set rs) ws (keeps_images read_set rs) h.based;
  once = h.once;
}

pub kept_writes : (read_set : List ReadRecord) (ws : List Write) (ks : List Keyed) → IsSetInvariant read_set ws → AreChanges read_set ks → IsSetInvariant read_set (with_writes read_set ws ks)
kept_writes read_set ws ks h changes = record {
  read = writes_read read_set ws ks h.read changes;
  bases = h.bases;
  valid = writes_fine read_set ws ks h.bases h.valid changes;
  based = based_writes read_set ws ks h.based changes;
  once = once_writes read_set ws ks h.once;
}

-- whether or not the changes could be written
pub kept_either : {A E : Type 0} (r : Result A E) (read_set seen : List ReadRecord) (ws later : List Write) (ks : List Keyed) → read_set ≡ seen → IsSetInvariant read_set ws → AreChanges seen ks
    → OnOk r (later ≡ with_writes read_set ws ks) → OnErr r (later ≡ ws) → IsSetInvariant read_set later
kept_either (Ok x) read_set seen ws later ks view h changes ok err =
    subst (IsSetInvariant read_set) (sym ok) (kept_writes read_set ws ks h (subst (λ (ns : List ReadRecord). AreChanges ns ks) (sym view) changes))
kept_either (Err e) read_set seen ws later ks view h changes ok err = subst (IsSetInvariant read_set) (sym err) h
