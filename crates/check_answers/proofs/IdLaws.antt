-- Searches over the transactions of a client.
use Rattle.std.proofs.Common.{◌≡◌, ℕ, zero, suc, ◌-◌, ◌<◌, Bool, true, false, List, [], ◌∷◌, length, Some, None, ◌⊎◌, inl, inr, refl, sym, ap, ◌∙◌, arith, subst}
use Rattle.std.specs.Prelude.{◌||◌, ◌==◌, Contains, find, if◌then◌else◌}
use Rattle.std.specs.List.{list_any}
use Rattle.std.specs.Option.{option_and_then}
use Rattle.sdb_model.specs.Sql.{reads_commit}
use Rattle.check_answers.specs.Types.{Event, TxId}
use Rattle.sdb_model.specs.Causes.{IsCommitOf, IsIn}
use Rattle.sdb_model.specs.Transactions.{Executed, begins, ends, rest_of, through_end, client_of, commit_of, from_begin, id_of, ordinal_of, statements_by, statements_of}
use Rattle.check_protocol.proofs.Public.{any_some, In, is_number, none_some, number_is, or_left, right, some_any}
use Rattle.check_answers.specs.Tests.{any_id, any_upto, is_commit_of, is_in, is_executed, same_executed}
use Rattle.check_answers.proofs.Finds.{in_contains, contains_in}
use Rattle.check_answers.proofs.SameLaws.{said_is, said_itself, some_said, is_said_of}
use Rattle.sdb_types.proofs.Public.{and_both as both, and_first as left, clash, decides as decide, either, or_second as or_right}
use Rattle.sdb_model.proofs.Public.{id_again}

---- numbers up to one

pub upto_some : (f : ℕ → Bool) (n : ℕ) → any_upto f n ≡ true → (k : ℕ) × (f k ≡ true)
upto_some f zero h = clash (sym h)
upto_some f (suc n) h = elim (either (f (suc n)) (any_upto f n) h) [ inl e ↦ (suc n, e) | inr e ↦ upto_some f n e ]

pub some_upto : (f : ℕ → Bool) (n k : ℕ) → k < n → f (suc k) ≡ true → any_upto f n ≡ true
some_upto f zero k lt h = absurd (omega (arith, lt))
some_upto f (suc n) k lt h = by (some_upto f n k) (split k n lt)
  where
    split : (i m : ℕ) → i < suc m → (i ≡ m) ⊎ (i < m)
    split zero zero l = inl refl
    split zero (suc m) l = inr (omega arith)
    split (suc i) zero l = absurd (omega (arith, l))
    split (suc i) (suc m) l = elim (split i m (omega (arith, l))) [ inl e ↦ inl (ap suc e) | inr e ↦ inr (omega (arith, e)) ]

    by : (k < n → f (suc k) ≡ true → any_upto f n ≡ true) → (k ≡ n) ⊎ (k < n) → any_upto f (suc n) ≡ true
    by more (inl e) = or_left (f (suc n)) (any_upto f n) (ap (λ i. f (suc i)) (sym e) ∙ h)
    by more (inr l) = or_right (f (suc n)) (any_upto f n) (more l h)

---- a client's transactions

-- there are no more transactions than statements
none_from : (k : ℕ) (ss : List Executed) → length ss < k → from_begin k ss ≡ []
none_from zero ss lt = absurd (omega (arith, lt))
none_from (suc k) [] lt = refl
none_from (suc k) (s ∷ ss) lt = by (begins s) k (omega (arith, lt)) (none_from (suc k) ss (omega (arith, lt))) (λ j more. none_from j ss more)
  where
    by : (b : Bool) (j : ℕ) → length ss < j → from_begin (suc k) ss ≡ [] → ((i : ℕ) → length ss < i → from_begin i ss ≡ []) → (if b then (if j == 0 then s ∷ ss else from_begin j ss) else from_begin (suc k) ss) ≡ []
    by true zero l rest more = absurd (omega (arith, l))
    by true (suc j) l rest more = elim (decide (suc j == 0)) [
      | inl e ↦ let z : suc j ≡ 0 = number_is (suc j) 0 e in absurd (omega (arith, z))
      | inr e ↦ ap (λ (x : Bool). if x then s ∷ ss else from_begin (suc j) ss) e ∙ more (suc j) l
    ]
    by false j l rest more = rest

-- where a transaction has begun, its number is among those of the statements
pub some_from : (k : ℕ) (ss : List Executed) → (from_begin k ss ≡ [] → ⊥) → (j : ℕ) × (k ≡ suc j) × (j < length ss)
some_from zero ss some = absurd (some refl)
some_from (suc j) ss some = (j, refl, by (split j (length ss)))
  where
    split : (i n : ℕ) → (i < n) ⊎ (n < suc i)
    split zero zero = inr (omega arith)
    split zero (suc n) = inl (omega arith)
    split (suc i) zero = inr (omega arith)
    split (suc i) (suc n) = elim (split i n) [ inl e ↦ inl (omega (arith, e)) | inr e ↦ inr (omega (arith, e)) ]

    by : (j < length ss) ⊎ (length ss < suc j) → j < length ss
    by (inl l) = l
    by (inr l) = absurd (some (none_from (suc j) ss l))

pub id_some : (events : List Event) (client : ℕ) (f : TxId → Bool) → any_id events client f ≡ true → (id : TxId) × (f id ≡ true)
id_some events client f h = let r = upto_some (λ k. f (id_of client k)) (length (statements_by client events)) h in (id_of client r.0, r.1)

pub some_id : (events : List Event) (client : ℕ) (f : TxId → Bool) (id : TxId) → client_of id ≡ client → (from_begin (ordinal_of id) (statements_by client events) ≡ [] → ⊥) → f id ≡ true → any_id events client f ≡ true
some_id events client f id c some h =
    let r = some_from (ordinal_of id) (statements_by client events) some in
    let same : id_of client (suc r.0) ≡ id = ap (λ k. id_of client k) (sym r.1) ∙ ap (λ n. id_of n (ordinal_of id)) (sym c) ∙ id_again id in
    some_upto (λ k. f (id_of client k)) (length (statements_by client events)) r.0 r.2 (ap f same ∙ h)

---- a statement's transaction

pub commit_is : (events : List Event) (client : ℕ) (s : Executed) (id : TxId) → is_commit_of events client s id ≡ true → IsCommitOf events client s id
commit_is events client s id h = (number_is (client_of id) client (left (client_of id == client) (is_executed (commit_of events id) s) h), some_said (commit_of events id) s (right (client_of id == client) (is_executed (commit_of events id) s) h))

pub is_commit : (events : List Event) (client : ℕ) (s : Executed) (id : TxId) → IsCommitOf events client s id → is_commit_of events client s id ≡ true
is_commit events client s id (c, e) = both (client_of id == client) (is_executed (commit_of events id) s) (is_number (client_of id) client c) (is_said_of (commit_of events id) s e)

pub in_is : (events : List Event) (client : ℕ) (s : Executed) (id : TxId) → is_in events client s id ≡ true → IsIn events client s id
in_is events client s id h =
    let r = any_some (same_executed s) (statements_of events id) (right (client_of id == client) (list_any (same_executed s) (statements_of events id)) h) in
    (number_is (client_of id) client (left (client_of id == client) (list_any (same_executed s) (statements_of events id)) h), in_contains (statements_of events id) s (subst (λ x. In (statements_of events id) x) (sym (said_is s r.0 r.2)) r.1))

pub is_in_of : (events : List Event) (client : ℕ) (s : Executed) (id : TxId) → IsIn events client s id → is_in events client s id ≡ true
is_in_of events client s id (c, k) =
    both (client_of id == client) (list_any (same_executed s) (statements_of events id)) (is_number (client_of id) client c)
    (some_any (same_executed s) (statements_of events id) s (contains_in (statements_of events id) s k) (said_itself s))

-- a transaction with a COMMIT, or a statement, has begun
begun_by : (events : List Event) (client : ℕ) (s : Executed) (id : TxId) → IsCommitOf events client s id → from_begin (ordinal_of id) (statements_by client events) ≡ [] → ⊥
begun_by events client s id (c, e) none =
    none_some (sym (ap (λ ss. option_and_then (λ (x : Executed). if reads_commit x.text then Some x else None) (find ends (rest_of ss))) (subst (λ n. from_begin (ordinal_of id) (statements_by n events) ≡ []) (sym c) none)) ∙ e)

begun_in : (events : List Event) (client : ℕ) (s : Executed) (id : TxId) → IsIn events client s id → from_begin (ordinal_of id) (statements_by client events) ≡ [] → ⊥
begun_in events client s id (c, k) none =
    contains_in [] s (subst (λ xs. Contains xs s) (ap (λ ss. through_end (rest_of ss)) (subst (λ n. from_begin (ordinal_of id) (statements_by n events) ≡ []) (sym c) none)) k)

pub commit_found : (events : List Event) (client : ℕ) (s : Executed) (f : TxId → Bool) (id : TxId) → IsCommitOf events client s id → f id ≡ true → any_id events client f ≡ true
commit_found events client s f id c h = some_id events client f id c.0 (begun_by events client s id c) h

pub in_found : (events : List Event) (client : ℕ) (s : Executed) (f : TxId → Bool) (id : TxId) → IsIn events client s id → f id ≡ true → any_id events client f ≡ true
in_found events client s f id c h = some_id events client f id c.0 (begun_in events client s id c) h

-- the last number first
pub upto_step : (f : ℕ → Bool) (n : ℕ) → 0 < n → any_upto f n ≡ (f n || any_upto f (n - 1))
upto_step f zero lt = absurd (omega arith)
upto_step f (suc n) lt = let e : suc n - 1 ≡ n = omega arith in ap (λ m. f (suc n) || any_upto f m) (sym e)
