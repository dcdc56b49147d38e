-- What the rows of the coordinator's table say.
use Rattle.std.proofs.Common.{◌≡◌, ◌≢◌, ◌∙◌, inl, inr, ℕ, zero, suc, ◌<◌, ◌^◌, Bool, true, false, cond, List, [], ◌∷◌, ◌++◌, take, Option, Some, None, Result, Ok, Err, IfErr, refl, sym, ap, subst, arith}
use Rattle.std.specs.Prelude.{◌==◌, AllPairs, Contains, IsSomeAnd, is_ok}
use Rattle.std.specs.List.{cons_option, filter_map}
use Rattle.std.specs.Option.{option_and_then}
use Rattle.std.specs.Ordering.{is_eq, is_lt}
use Rattle.std.specs.Result.{result_ok}
use Rattle.std.specs.Cmp.{tied_itself}
use Rattle.sdb_contents.specs.Types.{Decided, Decision, Key, MetaRefused, Ordering, Record, TxId}
use Rattle.std.specs.declared.cmp.Ordering.TheVariants.{Less, Equal, Greater}
use Rattle.std.proofs.lemmas.Bool.Decides.{nat_tests}
use Rattle.std.proofs.lemmas.List.Elements.{filter_map-append}
use Rattle.sdb_types.specs.Contents.{rise, starts_after, record_among}
use Rattle.sdb_types.specs.Order.{key_cmp, same_key}
use Rattle.sdb_types.proofs.Public.{and_both, and_first, and_second, by_test, clash as true_false, key_total, none_some, same_key_exact, same_key_is, same_key_self, same_key_turned, some_is}
use Rattle.sdb_record.specs.declared.coordinator.Decision.TheVariants as decision
use Rattle.sdb_record.specs.Coordinator.{coordinator_key_of, decision_in, id_of_key}
use Rattle.sdb_record.specs.Refused.{Refuses as MetaRefuses}
use Rattle.sdb_record.specs.declared.meta.MetaRefused.TheVariants.{BadMeta, NoMemory}
use Rattle.sdb_record.proofs.Public.{key-of-id}
use Rattle.law_protocol.proofs.Public.{row_key_is}
use Rattle.sdb_contents.specs.Decided.{committed_one, decision_among, is_decided, recorded_among, recorded_by, recorded_in}
use Rattle.sdb_contents.proofs.DumpLists.{err_is, first_or_later, here_in, kept_from, kept_in, later_in, none_in, pairs_more}

---- rows in order

less_is : (o : Ordering) → is_lt o ≡ true → o ≡ Less
less_is Less e = refl
less_is Equal e = true_false (sym e)
less_is Greater e = true_false (sym e)

below_then : (a b c : Key) → is_lt (key_cmp a b) ≡ true → is_lt (key_cmp b c) ≡ true → is_lt (key_cmp a c) ≡ true
below_then a b c p q = ap is_lt (key_total.trans a b c (less_is (key_cmp a b) p) (less_is (key_cmp b c) q))

apart : (low high : Key) → is_lt (key_cmp low high) ≡ true → same_key high low ≡ false
apart low high h = same_key_turned high low ∙ same_key_is low high ∙ ap is_eq (less_is (key_cmp low high) h)

front_starts : (k : Key) (n : ℕ) (rs : List Record) → starts_after k rs ≡ true → starts_after k (take n rs) ≡ true
front_starts k zero [] h = refl
front_starts k zero (r ∷ rs) h = refl
front_starts k (suc n) [] h = refl
front_starts k (suc n) (r ∷ rs) h = h

pub rise_take : (n : ℕ) (rs : List Record) → rise rs ≡ true → rise (take n rs) ≡ true
rise_take zero [] h = refl
rise_take zero (r ∷ rs) h = refl
rise_take (suc n) [] h = refl
rise_take (suc n) (r ∷ rs) h = and_both _ _ (front_starts r.key n rs (and_first _ _ h)) (rise_take n rs (and_second _ _ h))

below_last : (k : Key) (xs : List Record) (r : Record) → starts_after k (xs ++ r ∷ []) ≡ true → rise (xs ++ r ∷ []) ≡ true → is_lt (key_cmp k r.key) ≡ true
below_last k [] r a h = a
below_last k (x ∷ xs) r a h = below_then k x.key r.key a (below_last x.key xs r (and_first _ _ h) (and_second _ _ h))

-- a later row has another key
none_before : (xs : List Record) (r : Record) → rise (xs ++ r ∷ []) ≡ true → record_among xs r.key ≡ None
none_before [] r h = refl
none_before (x ∷ xs) r h =
    ap (λ (b : Bool). cond b (Some x) (record_among xs r.key)) (apart x.key r.key (below_last x.key xs r (and_first _ _ h) (and_second _ _ h)))
    ∙ none_before xs r (and_second _ _ h)

found_before : (xs : List Record) (r : Record) (k : Key) → same_key k r.key ≡ false → record_among (xs ++ r ∷ []) k ≡ record_among xs k
found_before [] r k e = ap (λ (b : Bool). cond b (Some r) None) e
found_before (x ∷ xs) r k e = ap (λ (o : Option Record). cond (same_key k x.key) (Some x) o) (found_before xs r k e)

found_last : (xs : List Record) (r : Record) → record_among xs r.key ≡ None → record_among (xs ++ r ∷ []) r.key ≡ Some r
found_last [] r none = ap (λ (b : Bool). cond b (Some r) None) (same_key_self r.key)
found_last (x ∷ xs) r none =
    by_test (same_key r.key x.key)
    (λ t. absurd (none_some x (sym none ∙ ap (λ (b : Bool). cond b (Some x) (record_among xs r.key)) t)))
    (λ t. ap (λ (b : Bool). cond b (Some x) (record_among (xs ++ r ∷ []) r.key)) t ∙ found_last xs r (sym (ap (λ (b : Bool). cond b (Some x) (record_among xs r.key)) t) ∙ none))

---- what is read of a row

pub no_id : (row : Record) → None ≡ id_of_key row.key → is_decided row ≡ false
unfolding decision_in
no_id row e = rw (sym e) refl

-- a refusal is that of a check that failed
pub refused_is : {A : Type 0} (checked : Result A (List ℕ)) (e : MetaRefused) → MetaRefuses checked e → is_ok checked ≡ false
refused_is checked (BadMeta name) h = ap is_ok h
refused_is (Ok x) NoMemory h = absurd (let f : false ≡ true = h in cc)
refused_is (Err name) NoMemory h = refl

pub no_decision : (row : Record) (r : Result Decided MetaRefused) → IfErr r (MetaRefuses (decision_in row)) → None ≡ result_ok r → is_decided row ≡ false
no_decision row r h e = let x = err_is (MetaRefuses (decision_in row)) r h e in refused_is (decision_in row) x.0 x.1

pub is_decided_by : (row : Record) (d : Decided) → decision_in row ≡ Ok d → is_decided row ≡ true
is_decided_by row d h = ap is_ok h

---- one row more

same_id : (a b : TxId) → a.0 ≡ b.0 → a ≡ b
same_id a b e = λ i. record { 0 = e i }

other_key : (r : Record) (id other : TxId) → id_of_key r.key ≡ Some id → other.0 < 2 ^ 128 → (other ≡ id → ⊥) → same_key (coordinator_key_of other) r.key ≡ false
other_key r id other of small not =
    by_test (same_key (coordinator_key_of other) r.key)
    (λ t. absurd (not (some_is other id (sym (key-of-id other small) ∙ ap id_of_key (same_key_exact (coordinator_key_of other) r.key t) ∙ of))))
    (λ t. t)

-- with a row more, the decision on its transaction is what it says, and every other one is as it was
pub decided_more : (before after : TxId → Option Decided) (xs : List Record) (r : Record) (id : TxId) (d : Decided) → rise (xs ++ r ∷ []) ≡ true → id_of_key r.key ≡ Some id → decision_in r ≡ Ok d
    → ((other : TxId) → after other ≡ cond (other.0 == id.0) (Some d) (before other)) → ((other : TxId) → other.0 < 2 ^ 128 → before other ≡ decision_among xs other) → (other : TxId) → other.0 < 2 ^ 128 → after other ≡ decision_among (xs ++ r ∷ []) other
decided_more before after xs r id d up of says set was other small =
    by_test (other.0 == id.0)
    (λ t. let e : other.0 ≡ id.0 = grind (arith, nat_tests) in
    let key : coordinator_key_of other ≡ r.key = ap coordinator_key_of (same_id other id e) ∙ sym (row_key_is r.key id of).1 in
    set other ∙ ap (λ (b : Bool). cond b (Some d) (before other)) t
    ∙ sym (ap (λ (k : Key). option_and_then (λ row. result_ok (decision_in row)) (record_among (xs ++ r ∷ []) k)) key
    ∙ ap (option_and_then (λ row. result_ok (decision_in row))) (found_last xs r (none_before xs r up)) ∙ ap result_ok says))
    (λ t. let not : other ≡ id → ⊥ = λ e. true_false (sym (sym t ∙ ap (λ (x : TxId). x.0 == id.0) e ∙ itself id.0)) in
    set other ∙ ap (λ (b : Bool). cond b (Some d) (before other)) t ∙ was other small
    ∙ sym (ap (option_and_then (λ row. result_ok (decision_in row))) (found_before xs r (coordinator_key_of other) (other_key r id other of small not))))
  where
    itself : (n : ℕ) → (n == n) ≡ true
    itself n = grind (arith, nat_tests)

recorded_one : (r : Record) (id : TxId) (d : Decided) → id_of_key r.key ≡ Some id → decision_in r ≡ Ok d → filter_map recorded_in (r ∷ []) ≡ recorded_by id d.decision
recorded_one r id d of says =
    ap (λ (x : Result Decided (List ℕ)). cons_option (option_and_then (λ e. committed_one (id_of_key r.key) e.decision) (result_ok x)) []) says
    ∙ ap (λ (o : Option TxId). cons_option (committed_one o d.decision) []) of ∙ by d.decision
  where
    by : (c : Decision) → cons_option (committed_one (Some id) c) [] ≡ recorded_by id c
    by decision.Committed = refl
    by decision.Aborted = refl

pub recorded_more : (xs : List Record) (r : Record) (id : TxId) (d : Decided) → id_of_key r.key ≡ Some id → decision_in r ≡ Ok d → recorded_among (xs ++ r ∷ []) ≡ recorded_among xs ++ recorded_by id d.decision
recorded_more xs r id d of says = filter_map-append recorded_in xs (r ∷ []) ∙ ap (λ (ids : List TxId). recorded_among xs ++ ids) (recorded_one r id d of says)

---- the transactions that are recorded

abbrev pub IsCommitted : Decided → Type 0
IsCommitted d = d.decision ≡ decision.Committed

recorded_says : (r : Record) (id : TxId) → recorded_in r ≡ Some id → (id_of_key r.key ≡ Some id) × IsSomeAnd (result_ok (decision_in r)) IsCommitted
recorded_says r id h = by (result_ok (decision_in r)) h
  where
    by_one : (c : Decision) → committed_one (id_of_key r.key) c ≡ Some id → (id_of_key r.key ≡ Some id) × (c ≡ decision.Committed)
    by_one decision.Committed e = (e, refl)
    by_one decision.Aborted e = absurd (none_some id e)

    by : (o : Option Decided) → option_and_then (λ e. committed_one (id_of_key r.key) e.decision) o ≡ Some id → (id_of_key r.key ≡ Some id) × IsSomeAnd o IsCommitted
    by None e = absurd (none_some id e)
    by (Some d) e = by_one d.decision e

recorded_gives : (r : Record) (id : TxId) → id_of_key r.key ≡ Some id → IsSomeAnd (result_ok (decision_in r)) IsCommitted → recorded_in r ≡ Some id
recorded_gives r id of h = by (result_ok (decision_in r)) h
  where
    by : (o : Option Decided) → IsSomeAnd o IsCommitted → option_and_then (λ e. committed_one (id_of_key r.key) e.decision) o ≡ Some id
    by None e = absurd e
    by (Some d) e = ap (committed_one (id_of_key r.key)) e ∙ of

above_next : (k : Key) (r : Record) (rs : List Record) → is_lt (key_cmp k r.key) ≡ true → rise (r ∷ rs) ≡ true → starts_after k rs ≡ true
above_next k r [] h up = refl
above_next k r (x ∷ rs) h up = below_then k r.key x.key h (and_first _ _ up)

-- a row after a key is above it
row_above : (k : Key) (rs : List Record) (r : Record) → starts_after k rs ≡ true → rise rs ≡ true → Contains rs r → is_lt (key_cmp k r.key) ≡ true
row_above k [] r h up among = absurd (none_in r among)
row_above k (x ∷ rs) r h up among = elim (first_or_later x r rs among) [
  | inl same ↦ ap (λ (y : Record). is_lt (key_cmp k y.key)) (sym same) ∙ h
  | inr more ↦ row_above k rs r (above_next k x rs h up) (and_second _ _ up) more
]

-- rows that rise are found by their keys
pub row_found : (rs : List Record) (r : Record) → rise rs ≡ true → Contains rs r → record_among rs r.key ≡ Some r
row_found [] r up among = absurd (none_in r among)
row_found (x ∷ rs) r up among = elim (first_or_later x r rs among) [
  | inl same ↦ ap (λ (b : Bool). cond b (Some x) (record_among rs r.key)) (ap (λ (y : Record). same_key r.key y.key) same ∙ same_key_self r.key) ∙ ap Some same
  | inr more ↦ ap (λ (b : Bool). cond b (Some x) (record_among rs r.key)) (apart x.key r.key (row_above x.key rs r (and_first _ _ up) (and_second _ _ up) more)) ∙ row_found rs r (and_second _ _ up) more
]

found_in : (rs : List Record) (k : Key) (r : Record) → record_among rs k ≡ Some r → Contains rs r × (r.key ≡ k)
found_in [] k r e = absurd (none_some r e)
found_in (x ∷ rs) k r e =
    by_test (same_key k x.key)
    (λ t. let same : x ≡ r = some_is x r (sym (ap (λ (b : Bool). cond b (Some x) (record_among rs k)) t) ∙ e) in
    (subst (λ (y : Record). Contains (x ∷ rs) y) same (here_in x rs), ap (λ (y : Record). y.key) (sym same) ∙ sym (same_key_exact k x.key t)))
    (λ t. let rest = found_in rs k r (sym (ap (λ (b : Bool). cond b (Some x) (record_among rs k)) t) ∙ e) in (later_in x r rs rest.0, rest.1))

-- the transactions listed are those whose rows say that they are committed
pub recorded_has : (rs : List Record) → rise rs ≡ true → (id : TxId) → Contains (recorded_among rs) id → IsSomeAnd (decision_among rs id) IsCommitted
recorded_has rs up id h =
    let from = kept_from recorded_in rs id h in
    let says = recorded_says from.0 id from.2 in
    let found : record_among rs (coordinator_key_of id) ≡ Some from.0 = ap (record_among rs) (sym (row_key_is from.0.key id says.0).1) ∙ row_found rs from.0 up from.1 in
    subst (λ (o : Option Record). IsSomeAnd (option_and_then (λ row. result_ok (decision_in row)) o) IsCommitted) (sym found) says.1

pub recorded_all : (rs : List Record) (id : TxId) → id.0 < 2 ^ 128 → IsSomeAnd (decision_among rs id) IsCommitted → Contains (recorded_among rs) id
recorded_all rs id small h = by (record_among rs (coordinator_key_of id)) refl h
  where
    by : (o : Option Record) → record_among rs (coordinator_key_of id) ≡ o → IsSomeAnd (option_and_then (λ row. result_ok (decision_in row)) o) IsCommitted → Contains (recorded_among rs) id
    by None e k = absurd k
    by (Some r) e k =
        let there = found_in rs (coordinator_key_of id) r e in
        kept_in recorded_in rs r id there.0 (recorded_gives r id (ap id_of_key there.1 ∙ key-of-id id small) k)

pub recorded_small : (rs : List Record) (id : TxId) → Contains (recorded_among rs) id → id.0 < 2 ^ 128
recorded_small rs id h = let from = kept_from recorded_in rs id h in (row_key_is from.0.key id (recorded_says from.0 id from.2).0).0

not_again : (r : Record) (rs : List Record) (id other : TxId) → rise (r ∷ rs) ≡ true → recorded_in r ≡ Some id → Contains (recorded_among rs) other → id ≢ other
not_again r rs id other up here h same =
    let from = kept_from recorded_in rs other h in
    let above : is_lt (key_cmp r.key from.0.key) ≡ true = row_above r.key rs from.0 (and_first _ _ up) (and_second _ _ up) from.1 in
    let key : from.0.key ≡ r.key = (row_key_is from.0.key other (recorded_says from.0 other from.2).0).1 ∙ ap coordinator_key_of (sym same) ∙ sym (row_key_is r.key id (recorded_says r id here).0).1 in
    true_false (sym above ∙ ap (λ (k : Key). is_lt (key_cmp r.key k)) key ∙ ap is_lt (tied_itself key_total r.key))

-- each once
pub recorded_once : (rs : List Record) → rise rs ≡ true → AllPairs (λ a b. a ≢ b) (recorded_among rs)
recorded_once [] up = λ i j d low high. absurd (omega arith)
recorded_once (r ∷ rs) up = by (recorded_in r) refl (recorded_once rs (and_second _ _ up))
  where
    by : (o : Option TxId) → recorded_in r ≡ o → AllPairs (λ a b. a ≢ b) (recorded_among rs) → AllPairs (λ a b. a ≢ b) (cons_option o (recorded_among rs))
    by None e rest = rest
    by (Some id) e rest = pairs_more (λ a b. a ≢ b) id (recorded_among rs) (λ other h. not_again r rs id other up e h) rest
