-- A map that is filled at once.
use Rattle.std.proofs.Common.{◌≡◌, ℕ, zero, suc, ◌+◌, ◌<◌, ◌≤◌, Bool, true, false, cond, List, [], ◌∷◌, ◌++◌, length, take, drop, map, append_assoc, Option, Some, None, refl, sym, ap, subst, ◌∙◌}
use Rattle.std.specs.Prelude.{is_some, position, get_or, ◌||◌}
use Rattle.std.specs.List.{list_any}
use Rattle.std.specs.Map.{keys_of, update_all}
use Rattle.std.specs.Option.{option_map}
use Rattle.std.specs.Ordering.{is_eq, eq_by_cmp}
use Rattle.std.proofs.lemmas.List.{append-nil, map-append}
use Rattle.std.proofs.lemmas.Grind.{take_at_read}
use Rattle.std.proofs.lemmas.Map.{update_all_push}
use Rattle.sdb_snapshot.specs.Types.{Key, Record}
use Rattle.sdb_types.specs.Contents.{rise, starts_after}
use Rattle.sdb_types.specs.Order.{key_cmp, same_key}
use Rattle.sdb_types.proofs.Public.{and_first, and_second, by_test, clash, drop_next, or_else, same_key_is, same_key_self, same_key_turned, take_all}
use Rattle.sdb_snapshot.specs.Entries.{value_at}
use Rattle.sdb_snapshot.specs.Filled.{AreOnce, found_in}
use Rattle.sdb_snapshot.specs.Places.{HaveIndexes}
use Rattle.sdb_snapshot.specs.Reads.{ReadRecord, has_key, is_key_read, with_images}
use Rattle.sdb_snapshot.proofs.Differences.{behind}
use Rattle.sdb_snapshot.proofs.Firsts.{indexes_more, position-cons}
use Rattle.sdb_snapshot.proofs.Keys.{value_last}

neither : (a b : Bool) → a || b ≡ false → (a ≡ false) × (b ≡ false)
neither true b h = clash h
neither false b h = (refl, h)

or_right : (a b : Bool) → b ≡ true → a || b ≡ true
or_right true b h = refl
or_right false b h = h

---- the places of entries

-- what the pairs put in turn give
abbrev pub index_by : List (Key × ℕ) → Key → Option ℕ
index_by ps = update_all (eq_by_cmp key_cmp) (λ _. None) ps

-- the first entries have their places
pub record ArePlaced {V : Type 0} (es : List (Key × V)) (i : ℕ) (ps : List (Key × ℕ)) : Type 0 where
  pub have : HaveIndexes (keys_of (take i es)) (index_by ps)
  pub len : length (keys_of (take i es)) ≡ length ps

length_last : {A : Type 0} (xs : List A) (y : A) → length (xs ++ y ∷ []) ≡ suc (length xs)
length_last [] y = refl
length_last (x ∷ xs) y = ap suc (length_last xs y)

module _ {V : Type 0} where
  apart : (k : Key) (xs : List (Key × V)) (i : ℕ) (e : Key × V) (rest : List (Key × V)) → list_any (same_key k) (keys_of xs) ≡ false → drop i xs ≡ e ∷ rest → same_key k e.0 ≡ false
  apart k [] zero e rest lack at = absurd (cc)
  apart k [] (suc i) e rest lack at = absurd (cc)
  apart k (x ∷ xs) zero e rest lack at =
      let same : x ≡ e = cc in
      ap (λ (y : Key × V). same_key k y.0) (sym same) ∙ (neither (same_key k x.0) (list_any (same_key k) (keys_of xs)) lack).0
  apart k (x ∷ xs) (suc i) e rest lack at = apart k xs i e rest (neither (same_key k x.0) (list_any (same_key k) (keys_of xs)) lack).1 at

  fresh_at : (es : List (Key × V)) (i : ℕ) (e : Key × V) (rest : List (Key × V)) → AreOnce (keys_of es) → drop i es ≡ e ∷ rest → position (same_key e.0) (keys_of (take i es)) ≡ None
  fresh_at [] zero e rest once at = refl
  fresh_at [] (suc i) e rest once at = refl
  fresh_at (x ∷ xs) zero e rest once at = refl
  fresh_at (x ∷ xs) (suc i) e rest once at =
      position-cons (same_key e.0) x.0 (keys_of (take i xs))
      ∙ ap (λ b. cond b (Some 0) (option_map suc (position (same_key e.0) (keys_of (take i xs))))) (same_key_turned e.0 x.0 ∙ apart x.0 xs i e rest once.0 at)
      ∙ ap (option_map suc) (fresh_at xs i e rest once.1 at)

  pub none_placed : (es : List (Key × V)) → ArePlaced es 0 []
  none_placed [] = record { have = λ q i e. clash (sym e); len = refl }
  none_placed (x ∷ xs) = record { have = λ q i e. clash (sym e); len = refl }

  -- and one more
  pub one_placed : (es : List (Key × V)) (i n : ℕ) (e : Key × V) (k : Key) (ps : List (Key × ℕ)) → AreOnce (keys_of es) → i < length es → e ≡ get_or es i e → k ≡ e.0 → n ≡ length ps
      → ArePlaced es i ps → ArePlaced es (i + 1) (ps ++ (k, n) ∷ [])
  one_placed es i n e k ps once less is key at placed =
      let ks = keys_of (take i es) in
      let next : keys_of (take (i + 1) es) ≡ ks ++ e.0 ∷ [] =
      ap keys_of ((take_at_read es i e less).1 ∙ ap (λ (y : Key × V). take i es ++ y ∷ []) (sym is)) ∙ map-append (λ x. x.0) (take i es) (e ∷ []) in
      let new : position (same_key e.0) ks ≡ None = fresh_at es i e (drop (i + 1) es) once (drop_next es i e less is) in
      let pair : ◌≡◌ {A = Key × ℕ} (e.0, length ks) (k, n) = ap (λ (q : Key). (q, length ks)) (sym key) ∙ ap (λ (m : ℕ). (k, m)) (placed.len ∙ sym at) in
      let more : HaveIndexes (ks ++ e.0 ∷ []) (index_by (ps ++ (e.0, length ks) ∷ [])) =
      indexes_more ks e.0 (index_by ps) (index_by (ps ++ (e.0, length ks) ∷ [])) placed.have new
      (λ q. sym (update_all_push (eq_by_cmp key_cmp) (λ _. None) (index_by ps) ps (e.0, length ks) q refl) ∙ ap (λ b. cond b (Some (length ks)) (index_by ps q)) (sym (same_key_is e.0 q))) in
      record {
        have = subst (λ (p : Key × ℕ). HaveIndexes (keys_of (take (i + 1) es)) (index_by (ps ++ p ∷ []))) pair (subst (λ (xs : List Key). HaveIndexes xs (index_by (ps ++ (e.0, length ks) ∷ []))) (sym next) more);
        len = ap length next ∙ length_last ks e.0 ∙ ap suc placed.len ∙ sym (length_last ps (k, n));
      }

  pub all_placed : (es : List (Key × V)) (i : ℕ) (ps : List (Key × ℕ)) (index : Key → Option ℕ) → length es ≤ i → ArePlaced es i ps → ((q : Key) → index q ≡ index_by ps q) → HaveIndexes (keys_of es) index
  all_placed es i ps index all placed is =
      let have : HaveIndexes (keys_of es) (index_by ps) = subst (λ (xs : List (Key × V)). HaveIndexes (keys_of xs) (index_by ps)) (take_all es i all) placed.have in
      λ q j e. is q ∙ have q j e

---- records of a scan, where no key was read

key_itself : (k : Key) → is_eq (key_cmp k k) ≡ true
key_itself k = sym (same_key_is k k) ∙ same_key_self k

any_is : (k : Key) (rs : List Record) → list_any (same_key k) (keys_of (map found_in rs)) ≡ has_key rs k
any_is k [] = refl
any_is k (r ∷ rs) = ap (λ b. b || list_any (same_key k) (keys_of (map found_in rs))) (same_key_is k r.key) ∙ ap (λ b. is_eq (key_cmp k r.key) || b) (any_is k rs)

pub once_in : (rs : List Record) → rise rs ≡ true → AreOnce (keys_of (map found_in rs))
once_in [] up = tt
once_in (r ∷ rs) up =
    let first = and_first (starts_after r.key rs) (rise rs) up in
    let rest = and_second (starts_after r.key rs) (rise rs) up in
    (any_is r.key rs ∙ by_test (has_key rs r.key) (λ t. clash (sym (key_itself r.key) ∙ ap is_eq (behind r.key r.key rs first rest t))) (λ f. f), once_in rs rest)

neither_there : {A : Type 0} (o : Option A) (b : Bool) (x : A) → is_some o ≡ false → b ≡ false → is_some (or_else o (cond b (Some x) None)) ≡ false
neither_there None false x h g = refl
neither_there None true x h g = clash g
neither_there (Some y) b x h g = clash h

all_new : (ns : List ReadRecord) (rs : List Record) → rise rs ≡ true → ((q : Key) → has_key rs q ≡ true → is_key_read ns q ≡ false) → with_images ns rs ≡ ns ++ map found_in rs
all_new ns [] up new = sym (append-nil ns)
all_new ns (r ∷ rs) up new =
    let first = and_first (starts_after r.key rs) (rise rs) up in
    let rest = and_second (starts_after r.key rs) (rise rs) up in
    ap (λ b. with_images (cond b ns (ns ++ (r.key, Some r) ∷ [])) rs) (new r.key (ap (λ b. b || has_key rs r.key) (key_itself r.key)))
    ∙ all_new (ns ++ (r.key, Some r) ∷ []) rs rest
    (λ q has. ap is_some (value_last ns r.key (Some r) q)
    ∙ neither_there (value_at ns q) (same_key q r.key) (Some r) (new q (or_right (is_eq (key_cmp q r.key)) (has_key rs q) has)) (same_key_turned q r.key ∙ same_key_is r.key q ∙ ap is_eq (behind r.key q rs first rest has)))
    ∙ append_assoc ns ((r.key, Some r) ∷ []) (map found_in rs)

pub empty : {A : Type 0} (xs : List A) → length xs ≡ 0 → xs ≡ []
empty [] h = refl
empty (x ∷ xs) h = absurd (cc)

pub filled : (rs : List Record) → rise rs ≡ true → with_images [] rs ≡ map found_in rs
filled rs up = all_new [] rs up (λ q has. refl)
