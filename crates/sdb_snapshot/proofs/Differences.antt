-- The first key that differs, and what is noted of a scan.
use Rattle.std.proofs.Common.{◌≡◌, Bool, true, false, ◌||◌, cond, List, [], ◌∷◌, ◌++◌, Option, Some, None, IfSome, refl, sym, ap, subst, ◌∙◌}
use Rattle.std.specs.Prelude.{is_some, find}
use Rattle.std.specs.Option.{option_map, option_and_then}
use Rattle.std.specs.List.{list_all}
use Rattle.std.specs.declared.cmp.Ordering.TheVariants.{Less}
use Rattle.std.specs.Ordering.{is_eq, is_le}
use Rattle.std.specs.Cmp.{tied_itself}
use Rattle.sdb_snapshot.specs.Types.{Key, Keyed, Record, Span, Write}
use Rattle.sdb_types.specs.Order.{key_cmp, same_key}
use Rattle.sdb_types.specs.Exact.{equal_of}
use Rattle.sdb_types.specs.Contents.{in_span, starts_after, rise, record_among}
use Rattle.sdb_types.proofs.Public.{all_last, and_first, and_second, by_test, key_exact, key_total, less_of, or_else, or_none, same_key_exact, some_is}
use Rattle.sdb_snapshot.specs.Entries.{value_at}
use Rattle.sdb_record.specs.Rolls.{IsBaseOf, IsWrite, AreCommitted}
use Rattle.sdb_record.specs.Among.{write_among}
use Rattle.sdb_snapshot.specs.Reads.{ReadRecord, is_key_read, base_at, with_read_record, with_images, has_key, has_changed, differs, IsFirstDifference, IsUnmoved, AreKeysOf, AreBases}
use Rattle.sdb_snapshot.specs.Written.{with_write, with_writes, with_change_of, write_of, AreWrites, AreChanges}
use Rattle.sdb_snapshot.specs.Sets.{WereRead, differs_from}
use Rattle.sdb_snapshot.proofs.Keys.{value_last}

---- what is noted of a scan

or_or : {A : Type 0} (o p q : Option A) → or_else (or_else o p) q ≡ or_else o (or_else p q)
or_or None p q = refl
or_or (Some x) p q = refl

pub or_there : {A : Type 0} (o p : Option A) → is_some o ≡ true → or_else o p ≡ o
or_there None p h = absurd (cc)
or_there (Some x) p h = refl

note_step : (read_set : List ReadRecord) (k : Key) (f : Option Record) (q : Key) → value_at (with_read_record read_set k f) q ≡ or_else (value_at read_set q) (cond (same_key q k) (Some f) None)
note_step read_set k f q =
    by_test (is_key_read read_set k)
    (λ t. ap (λ b. value_at (cond b read_set (read_set ++ (k, f) ∷ [])) q) t
    ∙ by_test (same_key q k)
    (λ u. sym (or_there (value_at read_set q) (cond (same_key q k) (Some f) None) (subst (λ (x : Key). is_some (value_at read_set x) ≡ true) (sym (same_key_exact q k u)) t)))
    (λ u. sym (ap (λ b. or_else (value_at read_set q) (cond b (Some f) None)) u ∙ or_none (value_at read_set q))))
    (λ t. ap (λ b. value_at (cond b read_set (read_set ++ (k, f) ∷ [])) q) t ∙ value_last read_set k f q)

found_first : (b : Bool) (r : Record) (o : Option Record) → or_else (cond b (Some (Some r)) None) (option_map Some o) ≡ option_map Some (cond b (Some r) o)
found_first true r o = refl
found_first false r o = refl

pub read_images : (read_set : List ReadRecord) (rs : List Record) (q : Key) → value_at (with_images read_set rs) q ≡ or_else (value_at read_set q) (option_map Some (record_among rs q))
read_images read_set [] q = sym (or_none (value_at read_set q))
read_images read_set (r ∷ rs) q =
    read_images (with_read_record read_set r.key (Some r)) rs q
    ∙ ap (λ o. or_else o (option_map Some (record_among rs q))) (note_step read_set r.key (Some r) q)
    ∙ or_or (value_at read_set q) (cond (same_key q r.key) (Some (Some r)) None) (option_map Some (record_among rs q))
    ∙ ap (or_else (value_at read_set q)) (found_first (same_key q r.key) r (record_among rs q))

joined : (o : Option Record) → option_and_then (λ x. x) (option_map Some o) ≡ o
joined None = refl
joined (Some r) = refl

-- the records of a scan, noted alone
pub base_images : (rs : List Record) (q : Key) → base_at (with_images [] rs) q ≡ record_among rs q
base_images rs q = ap (option_and_then (λ x. x)) (read_images [] rs q) ∙ joined (record_among rs q)

pub stands_is : (now : List ReadRecord) (rs : List Record) (q : Key) → now ≡ with_images [] rs → base_at now q ≡ record_among rs q
stands_is now rs q is = ap (λ (ns : List ReadRecord). base_at ns q) is ∙ base_images rs q

pub still_noted : (read_set : List ReadRecord) (rs : List Record) (q : Key) → is_key_read read_set q ≡ true → is_key_read (with_images read_set rs) q ≡ true
still_noted read_set rs q h = ap is_some (read_images read_set rs q) ∙ ap is_some (or_there (value_at read_set q) (option_map Some (record_among rs q)) h) ∙ h

pub noted_last_keeps : (read_set : List ReadRecord) (k : Key) (f : Option Record) (q : Key) → is_key_read read_set q ≡ true → is_key_read (read_set ++ (k, f) ∷ []) q ≡ true
noted_last_keeps read_set k f q h = ap is_some (value_last read_set k f q) ∙ ap is_some (or_there (value_at read_set q) (cond (same_key q k) (Some f) None) h) ∙ h

---- the first that differs

pub behind : (k q : Key) (rs : List Record) → starts_after k rs ≡ true → rise rs ≡ true → has_key rs q ≡ true → key_cmp k q ≡ Less
behind k q [] s h has = absurd (cc)
behind k q (r ∷ rs) s h has =
    by_test (is_eq (key_cmp q r.key))
    (λ t. subst (λ (x : Key). key_cmp k x ≡ Less) (sym (key_exact q r.key (equal_of (key_cmp q r.key) t))) (less_of (key_cmp k r.key) s))
    (λ t. key_total.trans k r.key q (less_of (key_cmp k r.key) s)
    (behind r.key q rs (and_first (starts_after r.key rs) (rise rs) h) (and_second (starts_after r.key rs) (rise rs) h) (sym (ap (λ b. b || has_key rs q) t) ∙ has)))

-- what is found first among keys that rise is at the least key
least : (p : Key → Bool) (rs : List Record) (r : Record) (q : Key) → rise rs ≡ true → find (λ s. p s.key) rs ≡ Some r → has_key rs q ≡ true → p q ≡ true → is_le (key_cmp r.key q) ≡ true
least p [] r q h found has pq = absurd (cc)
least p (s ∷ rs) r q h found has pq =
    by_test (p s.key)
    (λ t. let is : s ≡ r = some_is s r (sym (ap (λ b. cond b (Some s) (find (λ x. p x.key) rs)) t) ∙ found) in
    subst (λ (x : Record). is_le (key_cmp x.key q) ≡ true) is
    (by_test (is_eq (key_cmp q s.key))
    (λ u. subst (λ (x : Key). is_le (key_cmp s.key x) ≡ true) (sym (key_exact q s.key (equal_of (key_cmp q s.key) u))) (ap is_le (tied_itself key_total s.key)))
    (λ u. ap is_le (behind s.key q rs (and_first (starts_after s.key rs) (rise rs) h) (and_second (starts_after s.key rs) (rise rs) h) (sym (ap (λ b. b || has_key rs q) u) ∙ has)))))
    (λ t. by_test (is_eq (key_cmp q s.key))
    (λ u. let same : p q ≡ p s.key = ap p (key_exact q s.key (equal_of (key_cmp q s.key) u)) in
    let no : true ≡ false = sym pq ∙ same ∙ t in absurd (cc))
    (λ u. least p rs r q (and_second (starts_after s.key rs) (rise rs) h) (sym (ap (λ b. cond b (Some s) (find (λ x. p x.key) rs)) t) ∙ found) (sym (ap (λ b. b || has_key rs q) u) ∙ has) pq))

none_passes : (p : Key → Bool) (rs : List Record) (q : Key) → find (λ s. p s.key) rs ≡ None → has_key rs q ≡ true → p q ≡ false
none_passes p [] q found has = absurd (cc)
none_passes p (s ∷ rs) q found has =
    by_test (p s.key)
    (λ t. let some : ◌≡◌ {A = Option Record} (Some s) None = sym (ap (λ b. cond b (Some s) (find (λ x. p x.key) rs)) t) ∙ found in absurd (cc))
    (λ t. by_test (is_eq (key_cmp q s.key))
    (λ u. ap p (key_exact q s.key (equal_of (key_cmp q s.key) u)) ∙ t)
    (λ u. none_passes p rs q (sym (ap (λ b. cond b (Some s) (find (λ x. p x.key) rs)) t) ∙ found) (sym (ap (λ b. b || has_key rs q) u) ∙ has)))

passes : (p : Key → Bool) (rs : List Record) (r : Record) → find (λ s. p s.key) rs ≡ Some r → p r.key ≡ true
passes p [] r found = absurd (cc)
passes p (s ∷ rs) r found =
    by_test (p s.key)
    (λ t. let is : s ≡ r = some_is s r (sym (ap (λ b. cond b (Some s) (find (λ x. p x.key) rs)) t) ∙ found) in subst (λ (x : Record). p x.key ≡ true) is t)
    (λ t. passes p rs r (sym (ap (λ b. cond b (Some s) (find (λ x. p x.key) rs)) t) ∙ found))

inside_all : (span : Span) (p : Key → Bool) (rs : List Record) (r : Record) → list_all (λ s. in_span span s.key) rs ≡ true → find (λ s. p s.key) rs ≡ Some r → in_span span r.key ≡ true
inside_all span p [] r all found = absurd (cc)
inside_all span p (s ∷ rs) r all found =
    by_test (p s.key)
    (λ t. let is : s ≡ r = some_is s r (sym (ap (λ b. cond b (Some s) (find (λ x. p x.key) rs)) t) ∙ found) in
    subst (λ (x : Record). in_span span x.key ≡ true) is (and_first (in_span span s.key) (list_all (λ x. in_span span x.key) rs) all))
    (λ t. inside_all span p rs r (and_second (in_span span s.key) (list_all (λ x. in_span span x.key) rs) all) (sym (ap (λ b. cond b (Some s) (find (λ x. p x.key) rs)) t) ∙ found))

moved_noted : (o : Option (Option Record)) (f : Option Record) → has_changed o f ≡ true → is_some o ≡ true
moved_noted None f h = absurd (cc)
moved_noted (Some x) f h = refl

pub first_difference : (read_set : List ReadRecord) (span : Span) (images ks : List Record) (r : Record) (found : Option Record) → AreKeysOf read_set span ks → find (λ s. differs read_set images s.key) ks ≡ Some r → found ≡ record_among images r.key → IsFirstDifference read_set span images r.key found
first_difference read_set span images ks r found keys at is = record {
  inside = inside_all span (differs read_set images) ks r (and_second (rise ks) (list_all (λ s. in_span span s.key) ks) keys.rows) at;
  moved = passes (differs read_set images) ks r at;
  agrees = is;
  first = λ q inside moved. least (differs read_set images) ks r q (and_first (rise ks) (list_all (λ s. in_span span s.key) ks) keys.rows) at (keys.as_read q inside (moved_noted (value_at read_set q) (record_among images q) moved)) moved;
}

pub none_differs : (read_set : List ReadRecord) (span : Span) (images ks : List Record) → AreKeysOf read_set span ks → find (λ s. differs read_set images s.key) ks ≡ None → IsUnmoved read_set span images
none_differs read_set span images ks keys at q inside =
    by_test (differs read_set images q)
    (λ t. t ∙ sym t ∙ none_passes (differs read_set images) ks q at (keys.as_read q inside (moved_noted (value_at read_set q) (record_among images q) t)))
    (λ t. t)

-- other notes that are those of a scan's records alone
pub find_moved_is : (read_set now : List ReadRecord) (images ks : List Record) → now ≡ with_images [] images → find (λ r. differs_from read_set now r.key) ks ≡ find (λ r. differs read_set images r.key) ks
find_moved_is read_set now images [] is = refl
find_moved_is read_set now images (r ∷ rs) is =
    ap (λ (b : Bool). cond b (Some r) (find (λ s. differs_from read_set now s.key) rs)) (ap (has_changed (value_at read_set r.key)) (stands_is now images r.key is))
    ∙ ap (cond (differs read_set images r.key) (Some r)) (find_moved_is read_set now images rs is)

-- the first difference, as it is answered
pub differs_first : (read_set seen now : List ReadRecord) (span : Span) (images ks : List Record) (r : Record) (k : Key) (found : Option Record) → read_set ≡ seen → AreKeysOf read_set span ks → now ≡ with_images [] images
    → Some r ≡ find (λ s. differs_from read_set now s.key) ks → k ≡ r.key → found ≡ base_at now r.key → IsFirstDifference seen span images k found
differs_first read_set seen now span images ks r k found view keys is at key base =
    subst (λ (ns : List ReadRecord). IsFirstDifference ns span images k found) view
    (subst (λ (x : Key). IsFirstDifference read_set span images x found) (sym key)
    (first_difference read_set span images ks r found keys (sym (find_moved_is read_set now images ks is) ∙ sym at) (base ∙ stands_is now images r.key is)))

pub differs_nowhere : (read_set seen now : List ReadRecord) (span : Span) (images ks : List Record) → read_set ≡ seen → AreKeysOf read_set span ks → now ≡ with_images [] images → None ≡ find (λ s. differs_from read_set now s.key) ks → IsUnmoved seen span images
differs_nowhere read_set seen now span images ks view keys is at =
    subst (λ (ns : List ReadRecord). IsUnmoved ns span images) view (none_differs read_set span images ks keys (sym (find_moved_is read_set now images ks is) ∙ sym at))

---- what is kept is fine

pub bases_last : (read_set : List ReadRecord) (k : Key) (f : Option Record) → AreBases read_set → IfSome f (IsBaseOf k) → AreBases (read_set ++ (k, f) ∷ [])
bases_last read_set k f h g = all_last (λ (e : ReadRecord). IfSome e.1 (IsBaseOf e.0)) read_set (k, f) h g

pub bases_images : (read_set : List ReadRecord) (rs : List Record) → AreBases read_set → AreCommitted rs → AreBases (with_images read_set rs)
bases_images read_set [] h g = h
bases_images read_set (r ∷ rs) h g = bases_images (with_read_record read_set r.key (Some r)) rs (by_noted (is_key_read read_set r.key)) g.1
  where
    by_noted : (b : Bool) → AreBases (cond b read_set (read_set ++ (r.key, Some r) ∷ []))
    by_noted true = h
    by_noted false = bases_last read_set r.key (Some r) h g.0

base_fine : (read_set : List ReadRecord) (key : Key) → AreBases read_set → IfSome (base_at read_set key) (IsBaseOf key)
base_fine [] key h = tt
base_fine (e ∷ read_set) key h =
    by_test (same_key key e.0)
    (λ t. subst (λ (o : Option (Option Record)). IfSome (option_and_then (λ x. x) o) (IsBaseOf key)) (sym (ap (λ (b : Bool). cond b (Some e.1) (value_at read_set key)) t)) (subst (λ (k : Key). IfSome e.1 (IsBaseOf k)) (sym (same_key_exact key e.0 t)) h.0))
    (λ t. subst (λ (o : Option (Option Record)). IfSome (option_and_then (λ x. x) o) (IsBaseOf key)) (sym (ap (λ (b : Bool). cond b (Some e.1) (value_at read_set key)) t)) (base_fine read_set key h.1))

write_fine : (ws : List Write) (w : Write) → AreWrites ws → IsWrite w → AreWrites (with_write ws w)
write_fine [] w h g = (g, tt)
write_fine (x ∷ xs) w h g = by_same (same_key w.key x.key) (write_fine xs w h.1 g)
  where
    by_same : (b : Bool) → AreWrites (with_write xs w) → AreWrites (cond b (with_change_of x w ∷ xs) (x ∷ with_write xs w))
    by_same true rest = (record { base = h.0.base; change = g.change }, h.1)
    by_same false rest = (h.0, rest)

pub writes_fine : (read_set : List ReadRecord) (ws : List Write) (ks : List Keyed) → AreBases read_set → AreWrites ws → AreChanges read_set ks → AreWrites (with_writes read_set ws ks)
writes_fine read_set ws [] bases h g = h
writes_fine read_set ws (k ∷ ks) bases h g =
    writes_fine read_set (with_write ws (write_of read_set k)) ks bases (write_fine ws (write_of read_set k) h (record { base = base_fine read_set k.key bases; change = g.0.1 })) g.1

read_rest : (read_set : List ReadRecord) (x : Write) (xs : List Write) → WereRead read_set (x ∷ xs) → WereRead read_set xs
read_rest read_set x xs read q there = read q (step (same_key q x.key) (write_among xs q) there)
  where
    step : (b : Bool) (o : Option Write) → is_some o ≡ true → is_some (cond b (Some x) o) ≡ true
    step true o g = refl
    step false o g = g

kept_or_later : (read_set : List ReadRecord) (x w : Write) (xs : List Write) (q : Key) (b : Bool) → WereRead read_set xs → (is_some (write_among (with_write xs w) q) ≡ true → is_key_read read_set q ≡ true)
    → is_some (write_among (cond b (with_change_of x w ∷ xs) (x ∷ with_write xs w)) q) ≡ true → same_key q x.key ≡ false → is_key_read read_set q ≡ true
kept_or_later read_set x w xs q true read more g t = read q (sym (ap (λ b. is_some (cond b (Some (with_change_of x w)) (write_among xs q))) t) ∙ g)
kept_or_later read_set x w xs q false read more g t = more (sym (ap (λ b. is_some (cond b (Some x) (write_among (with_write xs w) q))) t) ∙ g)

write_keeps : (read_set : List ReadRecord) (ws : List Write) (w : Write) → is_key_read read_set w.key ≡ true → WereRead read_set ws → WereRead read_set (with_write ws w)
write_keeps read_set [] w h read q at = by_test (same_key q w.key)
    (λ t. subst (λ (k : Key). is_key_read read_set k ≡ true) (sym (same_key_exact q w.key t)) h)
    (λ t. let no : false ≡ true = sym (ap (λ b. is_some (cond b (Some w) None)) t) ∙ at in absurd (cc))
write_keeps read_set (x ∷ xs) w h read q at = by_test (same_key q x.key)
    (λ t. read q (ap (λ b. is_some (cond b (Some x) (write_among xs q))) t))
    (λ t. kept_or_later read_set x w xs q (same_key w.key x.key) (read_rest read_set x xs read) (write_keeps read_set xs w h (read_rest read_set x xs read) q) at t)

pub writes_read : (read_set : List ReadRecord) (ws : List Write) (ks : List Keyed) → WereRead read_set ws → AreChanges read_set ks → WereRead read_set (with_writes read_set ws ks)
writes_read read_set ws [] read h = read
writes_read read_set ws (k ∷ ks) read h = writes_read read_set (with_write ws (write_of read_set k)) ks (write_keeps read_set ws (write_of read_set k) h.0.0 read) h.1
