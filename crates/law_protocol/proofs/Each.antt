-- Facts of each of a list: by keys, of what it is mapped to, and of the puts that a request makes of it.
use Rattle.std.proofs.Common.{◌≡◌, ℕ, suc, ◌<◌, Bool, true, false, List, [], ◌∷◌, map, length, inl, inr, refl, sym, ap, subst, ◌∙◌, arith}
use Rattle.std.specs.Prelude.{◌||◌, Contains}
use Rattle.std.specs.List.{AllByRecursion}
use Rattle.std.proofs.lemmas.List.Elements.{All-contains, All-from_recursion, Contains-append_right}
use Rattle.law_protocol.specs.Types.{Condition, Key, Record}
use Rattle.sdb_types.specs.declared.record.Put.{Put}
use Rattle.sdb_types.specs.declared.record.Request.TheVariants as ask
use Rattle.sdb_types.specs.Contents.{put_keys, sent}
use Rattle.sdb_types.specs.Order.{has_key, same_key}
use Rattle.sdb_types.proofs.Public.{clash, one_of, or_first, or_second, same_key_exact, same_key_self}
use Rattle.sdb_model.specs.Requests.{any_of, puts_in, records_put}
use Rattle.law_protocol.specs.Changed.{change_of, changes_of}

---- each of a list

pub both : {X : Type 0} (P Q : X → Type 0) (xs : List X) → AllByRecursion P xs → AllByRecursion Q xs → AllByRecursion (λ x. P x × Q x) xs
both P Q [] p q = tt
both P Q (x ∷ xs) p q = ((p.0, q.0), both P Q xs p.1 q.1)

pub weaker : {X : Type 0} (P Q : X → Type 0) (xs : List X) → ((x : X) → P x → Q x) → AllByRecursion P xs → AllByRecursion Q xs
weaker P Q [] f all = tt
weaker P Q (x ∷ xs) f all = (f x all.0, weaker P Q xs f all.1)

pub all_mapped : {X Y : Type 0} (f : X → Y) (P : Y → Type 0) (xs : List X) → AllByRecursion (λ x. P (f x)) xs → AllByRecursion P (map f xs)
all_mapped f P [] all = tt
all_mapped f P (x ∷ xs) all = (all.0, all_mapped f P xs all.1)

pub all_unmapped : {X Y : Type 0} (f : X → Y) (P : Y → Type 0) (xs : List X) → AllByRecursion P (map f xs) → AllByRecursion (λ x. P (f x)) xs
all_unmapped f P [] all = tt
all_unmapped f P (x ∷ xs) all = (all.0, all_unmapped f P xs all.1)

pub map_mapped : {X Y Z : Type 0} (f : Y → Z) (g : X → Y) (xs : List X) → map f (map g xs) ≡ map (λ x. f (g x)) xs
map_mapped f g [] = refl
map_mapped f g (x ∷ xs) = ap (λ ys. f (g x) ∷ ys) (map_mapped f g xs)

pub map_own : {X : Type 0} (xs : List X) → map (λ x. x) xs ≡ xs
map_own [] = refl
map_own (x ∷ xs) = ap (λ ys. x ∷ ys) (map_own xs)

pub map_each : {X Y : Type 0} (f g : X → Y) (xs : List X) → AllByRecursion (λ x. f x ≡ g x) xs → map f xs ≡ map g xs
map_each f g [] same = refl
map_each f g (x ∷ xs) same = ap (λ y. y ∷ map f xs) same.0 ∙ ap (λ ys. g x ∷ ys) (map_each f g xs same.1)

---- keys

pub has_first : (k : Key) (ks : List Key) → has_key (k ∷ ks) k ≡ true
has_first k ks = or_second (has_key ks k) (same_key k k) (same_key_self k)

-- one of a list with a key
pub of_key : {X : Type 0} (key : X → Key) (P : X → Type 0) (xs : List X) (k : Key) → AllByRecursion P xs → has_key (map key xs) k ≡ true → (x : X) × (key x ≡ k) × P x
of_key key P [] k all h = clash (sym h)
of_key {X = X} key P (x ∷ xs) k all h = by (has_key (map key xs) k) refl h (of_key key P xs k all.1)
  where
    by : (b : Bool) → has_key (map key xs) k ≡ b → (b || same_key k (key x)) ≡ true → (has_key (map key xs) k ≡ true → (y : X) × (key y ≡ k) × P y) → (y : X) × (key y ≡ k) × P y
    by true e h rest = rest e
    by false e h rest = (x, sym (same_key_exact k (key x) h), all.0)

-- what is so of each of some keys is so of one among them
pub at_key_of : (P : Key → Type 0) (ks : List Key) (k : Key) → AllByRecursion P ks → has_key ks k ≡ true → P k
at_key_of P ks k all h = let x = of_key (λ q. q) P ks k all (ap (λ qs. has_key qs k) (map_own ks) ∙ h) in subst P x.1 x.2

-- and what is so of each key among them is so of each
pub each_key : (P : Key → Type 0) (ks : List Key) → ((k : Key) → has_key ks k ≡ true → P k) → AllByRecursion P ks
each_key P [] f = tt
each_key P (k ∷ ks) f = (f k (has_first k ks), each_key P ks (λ q h. f q (or_first (has_key ks q) (same_key q k) h)))

-- what is so of the one key of a list is so of each key among it
pub only_key : (P : Key → Type 0) (k : Key) → P k → (q : Key) → has_key (k ∷ []) q ≡ true → P q
only_key P k h q e = subst P (sym (same_key_exact q k e)) h

---- among a list

in_later : {X : Type 0} (x y : X) (xs : List X) → Contains xs y → Contains (x ∷ xs) y
in_later x y xs h = Contains-append_right (x ∷ []) xs y h

in_first : {X : Type 0} (x : X) (xs : List X) → Contains (x ∷ xs) x
in_first x xs = (0, some (length xs), refl)
  where
    some : (n : ℕ) → 0 < suc n
    some n = omega arith

pub in_mapped : {X Y : Type 0} (f : X → Y) (xs : List X) (x : X) → Contains xs x → Contains (map f xs) (f x)
in_mapped f [] x h = nothing h
  where
    nothing : {A : Type 0} → Contains [] x → A
    nothing h = absurd (omega (arith, h.1))
in_mapped f (y ∷ ys) x h = elim (one_of y x ys h) [
  | inl e ↦ subst (λ z. Contains (f y ∷ map f ys) (f z)) e (in_first (f y) (map f ys))
  | inr rest ↦ in_later (f y) (f x) (map f ys) (in_mapped f ys x rest)
]

pub from_mapped : {X Y : Type 0} (f : X → Y) (xs : List X) (y : Y) → Contains (map f xs) y → (x : X) × Contains xs x × (y ≡ f x)
from_mapped f [] y h = nothing h
  where
    nothing : {A : Type 0} → Contains [] y → A
    nothing h = absurd (omega (arith, h.1))
from_mapped f (x ∷ xs) y h = elim (one_of (f x) y (map f xs) h) [
  | inl e ↦ (x, in_first x xs, sym e)
  | inr rest ↦ let z = from_mapped f xs y rest in (z.0, in_later x z.0 xs z.1, z.2)
]

pub each_among : {X : Type 0} (P : X → Type 0) (xs : List X) (x : X) → AllByRecursion P xs → Contains xs x → P x
each_among P xs x all h = All-contains P xs x (All-from_recursion P xs all) h

pub in_keys : (ks : List Key) (k : Key) → has_key ks k ≡ true → Contains ks k
in_keys [] k h = clash (sym h)
in_keys (x ∷ ks) k h = by (has_key ks k) refl h (in_keys ks k)
  where
    by : (b : Bool) → has_key ks k ≡ b → (b || same_key k x) ≡ true → (has_key ks k ≡ true → Contains ks k) → Contains (x ∷ ks) k
    by true e h rest = in_later x k ks (rest e)
    by false e h rest = subst (λ y. Contains (y ∷ ks) k) (same_key_exact k x h) (in_first k ks)

pub key_among : (ks : List Key) (k : Key) → Contains ks k → has_key ks k ≡ true
key_among [] k h = nothing h
  where
    nothing : {A : Type 0} → Contains [] k → A
    nothing h = absurd (omega (arith, h.1))
key_among (x ∷ ks) k h = elim (one_of x k ks h) [
  | inl e ↦ subst (λ y. has_key (x ∷ ks) y ≡ true) e (has_first x ks)
  | inr rest ↦ or_first (has_key ks k) (same_key k x) (key_among ks k rest)
]

---- what a request puts

pub sent_changes : (b : List Put) → changes_of (sent b) ≡ map change_of b
sent_changes [] = refl
sent_changes (p ∷ []) = refl
sent_changes (p ∷ q ∷ ps) = refl

abbrev pub put_of : Put → Record × Condition
put_of p = (p.rec, p.condition)

pub sent_puts : (b : List Put) → puts_in (sent b) ≡ map put_of b
sent_puts [] = refl
sent_puts (p ∷ []) = refl
sent_puts (p ∷ q ∷ ps) = refl

pub sent_records : (b : List Put) → records_put (sent b) ≡ map (λ (p : Put). p.rec) b
sent_records b = ap (map (λ (x : Record × Condition). x.0)) (sent_puts b) ∙ map_mapped (λ (x : Record × Condition). x.0) put_of b

-- a record that puts of a list put, with its condition
pub sent_among : {X : Type 0} (f : X → Put) (xs : List X) (r : Record) → Contains (records_put (sent (map f xs))) r → (x : X) × Contains xs x × (r ≡ (f x).rec) × Contains (puts_in (sent (map f xs))) (put_of (f x))
sent_among f xs r h =
    let p = from_mapped (λ (p : Put). p.rec) (map f xs) r (subst (λ rs. Contains rs r) (sent_records (map f xs)) h) in
    let x = from_mapped f xs p.0 p.1 in
    (x.0, x.1, p.2 ∙ ap (λ (y : Put). y.rec) x.2, subst (λ ps. Contains ps (put_of (f x.0))) (sym (sent_puts (map f xs))) (in_mapped put_of (map f xs) (f x.0) (in_mapped f xs x.0 x.1)))

-- and each record of them is put
pub among_sent : {X : Type 0} (f : X → Put) (xs : List X) (x : X) → Contains xs x → Contains (records_put (sent (map f xs))) (f x).rec
among_sent f xs x h = subst (λ rs. Contains rs (f x).rec) (sym (sent_records (map f xs))) (in_mapped (λ (p : Put). p.rec) (map f xs) (f x) (in_mapped f xs x h))

-- puts are no delete
pub sent_deletes : {A : Type 0} (b : List Put) (key : Key) (c : Condition) → sent b ≡ ask.DeleteIf key c → A
sent_deletes [] key c e = absurd (cc)
sent_deletes (p ∷ []) key c e = absurd (cc)
sent_deletes (p ∷ q ∷ ps) key c e = absurd (cc)

-- the keys of puts of a list
pub keys_put : {X : Type 0} (f : X → Put) (key : X → Key) (xs : List X) → AllByRecursion (λ x. (f x).rec.key ≡ key x) xs → put_keys (map f xs) ≡ map key xs
keys_put f key xs same = map_mapped (λ (p : Put). p.rec.key) f xs ∙ map_each (λ x. (f x).rec.key) key xs same

-- what is so or not of each of some is so or not of some of them
pub any_each : {X : Type 0} (p : X → Bool) (b : Bool) (xs : List X) → 0 < length xs → AllByRecursion (λ x. p x ≡ b) xs → any_of p xs ≡ b
any_each p b [] some all = absurd (omega (arith, some))
any_each p b (x ∷ []) some all = all.0
any_each p b (x ∷ y ∷ xs) some all = ap (λ c. c || any_of p (y ∷ xs)) all.0 ∙ ap (λ c. b || c) (any_each p b (y ∷ xs) (more (length xs)) all.1) ∙ again b
  where
    more : (n : ℕ) → 0 < suc n
    more n = omega arith

    again : (b : Bool) → (b || b) ≡ b
    again true = refl
    again false = refl
