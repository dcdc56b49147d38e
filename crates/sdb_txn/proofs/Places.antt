-- Records that lie where a request asks go on to, where one of them is replaced by one of its key, or left out.
use Rattle.std.proofs.Common.{◌≡◌, Bool, true, false, List, [], ◌∷◌, ◌++◌, refl, sym, ap, subst, ◌∙◌}
use Rattle.std.specs.List.{list_all}
use Rattle.std.specs.Prelude.{◌&&◌}
use Rattle.std.specs.Ordering.{is_lt}
use Rattle.sdb_txn.specs.Types.{Key, Record, Request, Span}
use Rattle.sdb_types.specs.declared.record.Request.TheVariants as ask
use Rattle.sdb_types.specs.Order.{key_cmp}
use Rattle.sdb_types.specs.Contents.{in_span, rise, starts_after}
use Rattle.sdb_types.proofs.Public.{and_first, and_second, key_total, less_of}
use Rattle.sdb_txn.specs.Valid.{AreWithin}

both : (a b : Bool) → a ≡ true → b ≡ true → (a && b) ≡ true
both true true x y = refl
both true false x y = cc
both false b x y = cc

starts_swap : (k : Key) (xs : List Record) (r b : Record) (ys : List Record) → b.key ≡ r.key → starts_after k (xs ++ r ∷ ys) ≡ true → starts_after k (xs ++ b ∷ ys) ≡ true
starts_swap k [] r b ys e h = subst (λ q. is_lt (key_cmp k q) ≡ true) (sym e) h
starts_swap k (x ∷ xs) r b ys e h = h

rise_swap : (xs : List Record) (r b : Record) (ys : List Record) → b.key ≡ r.key → rise (xs ++ r ∷ ys) ≡ true → rise (xs ++ b ∷ ys) ≡ true
rise_swap [] r b ys e h = subst (λ q. (starts_after q ys && rise ys) ≡ true) (sym e) h
rise_swap (x ∷ xs) r b ys e h =
    both (starts_after x.key (xs ++ b ∷ ys)) (rise (xs ++ b ∷ ys))
    (starts_swap x.key xs r b ys e (and_first (starts_after x.key (xs ++ r ∷ ys)) (rise (xs ++ r ∷ ys)) h))
    (rise_swap xs r b ys e (and_second (starts_after x.key (xs ++ r ∷ ys)) (rise (xs ++ r ∷ ys)) h))

starts_drop : (k : Key) (xs : List Record) (r : Record) (ys : List Record) → starts_after k (xs ++ r ∷ ys) ≡ true → rise (xs ++ r ∷ ys) ≡ true → starts_after k (xs ++ ys) ≡ true
starts_drop k [] r [] h g = refl
starts_drop k [] r (y ∷ ys) h g = ap is_lt (key_total.trans k r.key y.key (less_of (key_cmp k r.key) h) (less_of (key_cmp r.key y.key) (and_first (starts_after r.key (y ∷ ys)) (rise (y ∷ ys)) g)))
starts_drop k (x ∷ xs) r ys h g = h

rise_drop : (xs : List Record) (r : Record) (ys : List Record) → rise (xs ++ r ∷ ys) ≡ true → rise (xs ++ ys) ≡ true
rise_drop [] r ys h = and_second (starts_after r.key ys) (rise ys) h
rise_drop (x ∷ xs) r ys h =
    let first = and_first (starts_after x.key (xs ++ r ∷ ys)) (rise (xs ++ r ∷ ys)) h in
    let later = and_second (starts_after x.key (xs ++ r ∷ ys)) (rise (xs ++ r ∷ ys)) h in
    both (starts_after x.key (xs ++ ys)) (rise (xs ++ ys)) (starts_drop x.key xs r ys first later) (rise_drop xs r ys later)

all_swap : (span : Span) (xs : List Record) (r b : Record) (ys : List Record) → b.key ≡ r.key → list_all (λ x. in_span span x.key) (xs ++ r ∷ ys) ≡ true → list_all (λ x. in_span span x.key) (xs ++ b ∷ ys) ≡ true
all_swap span [] r b ys e h = subst (λ q. (in_span span q && list_all (λ x. in_span span x.key) ys) ≡ true) (sym e) h
all_swap span (x ∷ xs) r b ys e h =
    both (in_span span x.key) (list_all (λ y. in_span span y.key) (xs ++ b ∷ ys))
    (and_first (in_span span x.key) (list_all (λ y. in_span span y.key) (xs ++ r ∷ ys)) h)
    (all_swap span xs r b ys e (and_second (in_span span x.key) (list_all (λ y. in_span span y.key) (xs ++ r ∷ ys)) h))

all_drop : (span : Span) (xs : List Record) (r : Record) (ys : List Record) → list_all (λ x. in_span span x.key) (xs ++ r ∷ ys) ≡ true → list_all (λ x. in_span span x.key) (xs ++ ys) ≡ true
all_drop span [] r ys h = and_second (in_span span r.key) (list_all (λ y. in_span span y.key) ys) h
all_drop span (x ∷ xs) r ys h =
    both (in_span span x.key) (list_all (λ y. in_span span y.key) (xs ++ ys))
    (and_first (in_span span x.key) (list_all (λ y. in_span span y.key) (xs ++ r ∷ ys)) h)
    (all_drop span xs r ys (and_second (in_span span x.key) (list_all (λ y. in_span span y.key) (xs ++ r ∷ ys)) h))

pub placed_swap : (q : Request) (xs : List Record) (r b : Record) (ys : List Record) → b.key ≡ r.key → AreWithin q (xs ++ r ∷ ys) → AreWithin q (xs ++ b ∷ ys)
placed_swap (ask.Get key) [] r b [] e h = e ∙ h
placed_swap (ask.Get key) [] r b (y ∷ ys) e h = h
placed_swap (ask.Get key) (x ∷ []) r b ys e h = h
placed_swap (ask.Get key) (x ∷ y ∷ xs) r b ys e h = h
placed_swap (ask.Scan span) xs r b ys e h =
    both (rise (xs ++ b ∷ ys)) (list_all (λ x. in_span span x.key) (xs ++ b ∷ ys))
    (rise_swap xs r b ys e (and_first (rise (xs ++ r ∷ ys)) (list_all (λ x. in_span span x.key) (xs ++ r ∷ ys)) h))
    (all_swap span xs r b ys e (and_second (rise (xs ++ r ∷ ys)) (list_all (λ x. in_span span x.key) (xs ++ r ∷ ys)) h))
placed_swap (ask.PutIf x condition) xs r b ys e h = h
placed_swap (ask.DeleteIf key condition) xs r b ys e h = h
placed_swap (ask.PutAll batch) xs r b ys e h = h

pub placed_drop : (q : Request) (xs : List Record) (r : Record) (ys : List Record) → AreWithin q (xs ++ r ∷ ys) → AreWithin q (xs ++ ys)
placed_drop (ask.Get key) [] r [] h = tt
placed_drop (ask.Get key) [] r (y ∷ ys) h = absurd h
placed_drop (ask.Get key) (x ∷ []) r ys h = absurd h
placed_drop (ask.Get key) (x ∷ y ∷ xs) r ys h = absurd h
placed_drop (ask.Scan span) xs r ys h =
    both (rise (xs ++ ys)) (list_all (λ x. in_span span x.key) (xs ++ ys))
    (rise_drop xs r ys (and_first (rise (xs ++ r ∷ ys)) (list_all (λ x. in_span span x.key) (xs ++ r ∷ ys)) h))
    (all_drop span xs r ys (and_second (rise (xs ++ r ∷ ys)) (list_all (λ x. in_span span x.key) (xs ++ r ∷ ys)) h))
placed_drop (ask.PutIf x condition) xs r ys h = absurd h
placed_drop (ask.DeleteIf key condition) xs r ys h = absurd h
placed_drop (ask.PutAll batch) xs r ys h = absurd h
