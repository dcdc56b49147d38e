-- A conflict that a check found is of what was read there.
use Rattle.std.proofs.Common.{◌≡◌, ◌⊎◌, inl, inr, ℕ, zero, suc, List, [], ◌∷◌, ◌++◌, map, Option, Some, None, Bool, true, false, not, refl, sym, ap, ◌∙◌, subst, cond}
use Rattle.std.specs.Prelude.{slice_get, filter, Contains}
use Rattle.std.specs.Option.{option_map}
use Rattle.std.proofs.lemmas.Option.{some_pair_parts}
use Rattle.law_answers.specs.Types.{Check, Key, Read, Record, Reply, Scan, TxId, Wanted}
use Rattle.sdb_types.specs.declared.record.Request.TheVariants as ask
use Rattle.sdb_types.specs.declared.record.Reply.TheVariants as reply
use Rattle.sdb_types.specs.Contents.{CanAnswer, in_span, rise, record_among}
use Rattle.std.specs.List.{list_all}
use Rattle.sdb_types.proofs.Public.{and_first, not_true, some_is}
use Rattle.sdb_record.specs.Moved.{IsChanged, is_unchanged}
use Rattle.sdb_record.specs.Among.{is_written, version_among}
use Rattle.sdb_phases.specs.Work.{Work}
use Rattle.sdb_phases.specs.Checks.{changed, check_of_read, check_of_scan, differs, first_difference, keys_among, least, wanted, difference_in}
use Rattle.sdb_validate.specs.Rescan.{IsFirstLost, base_in, is_unchanged_by, reads_rise}
use Rattle.sdb_validate.proofs.Public.{first_lost}
use Rattle.law_answers.specs.Paths.{Call}
use Rattle.law_answers.specs.Ends.{HasChangedBy, HasChangedThere, IsGetChanged, IsRescanChanged, ObservesChange}
use Rattle.law_answers.proofs.PathLists.{contains_at}
use Rattle.law_answers.proofs.Goes.{IsCheckMoved, Moves}

---- where an item comes from

map_origin : {A B : Type 0} (f : A → B) (xs : List A) (i : ℕ) (y : B) → slice_get (map f xs) i ≡ Some y → (x : A) × (slice_get xs i ≡ Some x) × (f x ≡ y)
map_origin f [] i y h = absurd (cc)
map_origin f (x ∷ xs) zero y h = (x, refl, some_is (f x) y h)
map_origin f (x ∷ xs) (suc i) y h = map_origin f xs i y h

pub append_origin : {A : Type 0} (xs ys : List A) (i : ℕ) (x : A) → slice_get (xs ++ ys) i ≡ Some x → (slice_get xs i ≡ Some x) ⊎ ((j : ℕ) × (slice_get ys j ≡ Some x))
append_origin [] ys i x h = inr (i, h)
append_origin (y ∷ xs) ys zero x h = inl h
append_origin (y ∷ xs) ys (suc i) x h = append_origin xs ys i x h

filter_origin : {A : Type 0} (t : A → Bool) (xs : List A) (i : ℕ) (x : A) → slice_get (filter t xs) i ≡ Some x → (t x ≡ true) × ((j : ℕ) × (slice_get xs j ≡ Some x))
filter_origin t [] i x h = absurd (cc)
filter_origin {A = A} t (y ∷ xs) i x h = by (λ k g. filter_origin t xs k x g) (t y) refl i h
  where
    by : ((k : ℕ) → slice_get (filter t xs) k ≡ Some x → (t x ≡ true) × ((j : ℕ) × (slice_get xs j ≡ Some x)))
        → (b : Bool) → t y ≡ b → (k : ℕ) → slice_get (cond b (y ∷ filter t xs) (filter t xs)) k ≡ Some x → (t x ≡ true) × ((j : ℕ) × (slice_get (y ∷ xs) j ≡ Some x))
    by rest true e zero g = (subst (λ (z : A). t z ≡ true) (some_is y x g) e, (0, g))
    by rest true e (suc k) g = let at = rest k g in (at.0, (suc at.1.0, at.1.1))
    by rest false e k g = let at = rest k g in (at.0, (suc at.1.0, at.1.1))

---- gets

is_changed : (b : Bool) (k key : Key) (f found : Option Record) → changed b k f ≡ Some (key, found) → (b ≡ false) × (k ≡ key) × (f ≡ found)
is_changed true k key f found e = absurd (cc)
is_changed false k key f found e = let same = some_pair_parts k key f found e in (refl, same.0, same.1)

get_moved : (p : Work) (c : Call) (key : Key) (found : Option Record) (r : Read) (j : ℕ) (answer : Reply) → slice_get p.reads j ≡ Some r → not (is_written p.writes r.key) ≡ true → c.request ≡ ask.Get r.key → c.reply ≡ answer → difference_in (check_of_read r) answer ≡ Some (key, found) → IsGetChanged p c key found
get_moved p c key found r j (reply.Found f) at free asked observed differs =
    let (moved, same, there) = is_changed (is_unchanged f r.version) r.key key f found differs in
    record {
      read = r;
      among = contains_at p.reads j r at;
      same = same;
      unwritten = subst (λ k. is_written p.writes k ≡ false) same (not_true (is_written p.writes r.key) free);
      asked = asked ∙ ap ask.Get same;
      observed = observed ∙ ap reply.Found there;
      moved = subst (λ f. IsChanged f r.version) there moved;
    }
get_moved p c key found r j (reply.Rows rows) at free asked observed differs = absurd (cc)
get_moved p c key found r j (reply.NotAll place there) at free asked observed differs = absurd (cc)
get_moved p c key found r j reply.Applied at free asked observed differs = absurd (cc)
get_moved p c key found r j (reply.NotMet f) at free asked observed differs = absurd (cc)
get_moved p c key found r j reply.Fault at free asked observed differs = absurd (cc)
get_moved p c key found r j reply.NoMemory at free asked observed differs = absurd (cc)

---- rescans

moved_there : (b : Option (Option TxId)) (version : Option TxId) (found : Option Record) → is_unchanged_by b version found ≡ false → HasChangedThere b found version
moved_there None version found h = h
moved_there (Some base) version found h = h

-- what a first difference shows is what is at its key
first_there : (ws : List Wanted) (rows : List Record) (key : Key) (found : Option Record) → first_difference ws rows ≡ Some (key, found) → found ≡ record_among rows key
first_there ws rows key found e = by (least (filter (differs ws rows) (keys_among ws rows))) e
  where
    by : (o : Option Key) → option_map {U = Key × Option Record} (λ k. (k, record_among rows k)) o ≡ Some (key, found) → found ≡ record_among rows key
    by None h = absurd (cc)
    by (Some k) h = let same = some_pair_parts k key (record_among rows k) found h in sym same.1 ∙ ap (record_among rows) same.0

rescan_moved : (p : Work) (c : Call) (key : Key) (found : Option Record) (s : Scan) (j : ℕ) (answer : Reply) → slice_get p.scans j ≡ Some s → c.request ≡ ask.Scan s.span → c.reply ≡ answer → CanAnswer (ask.Scan s.span) answer → difference_in (check_of_scan p.writes s) answer ≡ Some (key, found) → IsRescanChanged p c key found
rescan_moved p c key found s j (reply.Rows rows) at asked observed fits differs =
    let lost : reads_rise s.found ≡ true → IsFirstLost p.writes s rows (Some (key, found)) = λ up. subst (IsFirstLost p.writes s rows) differs (first_lost p.writes s rows up (and_first (rise rows) (list_all (λ r. in_span s.span r.key) rows) fits)) in
    let there : found ≡ record_among rows key = first_there (wanted p.writes s) rows key found differs in
    record {
      scan = s;
      rows = rows;
      among = contains_at p.scans j s at;
      asked = asked;
      observed = observed;
      there = there;
      moved = λ up. subst (λ f. HasChangedThere (base_in s.span p.writes key) f (version_among s.found key)) (sym there) (moved_there (base_in s.span p.writes key) (version_among s.found key) (record_among rows key) (lost up).1);
    }
rescan_moved p c key found s j (reply.Found f) at asked observed fits differs = absurd (cc)
rescan_moved p c key found s j reply.Applied at asked observed fits differs = absurd (cc)
rescan_moved p c key found s j (reply.NotMet f) at asked observed fits differs = absurd (cc)
rescan_moved p c key found s j (reply.NotAll place there) at asked observed fits differs = absurd (cc)
rescan_moved p c key found s j reply.Fault at asked observed fits differs = absurd (cc)
rescan_moved p c key found s j reply.NoMemory at asked observed fits differs = absurd (cc)

---- both

by_read : (p : Work) (c : Call) (key : Key) (found : Option Record) (m : IsCheckMoved p c key found) (r : Read) (j : ℕ) → slice_get p.reads j ≡ Some r → not (is_written p.writes r.key) ≡ true → check_of_read r ≡ m.check → IsGetChanged p c key found
by_read p c key found m r j at free e =
    get_moved p c key found r j c.reply at free (m.asked ∙ ap (λ (k : Check). k.request) (sym e)) refl (ap (λ (k : Check). difference_in k c.reply) e ∙ m.differs)

by_scan : (p : Work) (c : Call) (key : Key) (found : Option Record) (m : IsCheckMoved p c key found) (s : Scan) (j : ℕ) → slice_get p.scans j ≡ Some s → check_of_scan p.writes s ≡ m.check → IsRescanChanged p c key found
by_scan p c key found m s j at e =
    rescan_moved p c key found s j c.reply at (m.asked ∙ ap (λ (k : Check). k.request) (sym e)) refl
    (subst (λ (k : Check). CanAnswer k.request c.reply) (sym e) m.fits) (ap (λ (k : Check). difference_in k c.reply) e ∙ m.differs)

check_moved : (p : Work) (c : Call) (key : Key) (found : Option Record) → IsCheckMoved p c key found → IsGetChanged p c key found ⊎ IsRescanChanged p c key found
check_moved p c key found m = by (append_origin (map check_of_read (filter (λ r. not (is_written p.writes r.key)) p.reads)) (map (check_of_scan p.writes) p.scans) m.at m.check m.among)
  where
    by : (slice_get (map check_of_read (filter (λ r. not (is_written p.writes r.key)) p.reads)) m.at ≡ Some m.check) ⊎ ((j : ℕ) × (slice_get (map (check_of_scan p.writes) p.scans) j ≡ Some m.check)) → IsGetChanged p c key found ⊎ IsRescanChanged p c key found
    by (inl h) =
        let (r, at, e) = map_origin check_of_read (filter (λ r. not (is_written p.writes r.key)) p.reads) m.at m.check h in
        let there = filter_origin (λ (r : Read). not (is_written p.writes r.key)) p.reads m.at r at in
        inl (by_read p c key found m r there.1.0 there.1.1 there.0 e)
    by (inr (j, h)) = let (s, at, e) = map_origin (check_of_scan p.writes) p.scans j m.check h in inr (by_scan p c key found m s j at e)

shows : (p : Work) (c : Call) (key : Key) (found : Option Record) → Moves p key found c → ObservesChange p key found c
shows p c key found (inl m) = inl m
shows p c key found (inr m) = inr (check_moved p c key found m)

pub has_moved : (p : Work) (calls : List Call) (key : Key) (found : Option Record) → (c : Call) → Contains calls c → Moves p key found c → HasChangedBy p calls key found
has_moved p calls key found c among m = (c, among, shows p c key found m)
