-- The records that are gathered are those that the law calls shown; and what the tests on records tell.
use Rattle.std.proofs.Common.{◌≡◌, ℕ, Bool, true, false, List, [], ◌∷◌, ◌++◌, Option, Some, None, ◌⊎◌, inl, inr, refl, sym, ap, subst, ◌∙◌}
use Rattle.std.specs.Prelude.{ℤ, ◌&&◌, ◌||◌, ◌==◌, not, if◌then◌else◌, is_some, is_none, Result, Ok, Err}
use Rattle.std.specs.Option.{option_map_or, option_map}
use Rattle.std.specs.Result.{result_ok}
use Rattle.std.specs.Ordering.{is_eq}
use Rattle.std.specs.List.{list_any, filter_map, cons_option}
use Rattle.std.specs.Cmp.{unsigned_Decides}
use Rattle.check_protocol.specs.Types.{Decided, Decision, Event, Key, Pair, Record, Reply, TxId, Value}
use Rattle.sdb_types.specs.declared.record.Reply.TheVariants as reply
use Rattle.sdb_types.specs.Contents.{tx_id, record_among}
use Rattle.sdb_types.specs.Order.{value_cmp, same_key}
use Rattle.sdb_types.specs.Exactness.{record_is_exact, value_is_exact}
use Rattle.sdb_record.specs.declared.coordinator.Decision.TheVariants as decision
use Rattle.sdb_record.specs.Coordinator.{coordinator_key_of, decision_in}
use Rattle.sdb_record.specs.Names.{base_name, same_name}
use Rattle.sdb_record.specs.Parts.{before_part, before_record, is_before_pair, record_with}
use Rattle.sdb_record.specs.Meta.{id_in, id_in_value}
use Rattle.sdb_record.specs.Rolls.{forward_record}
use Rattle.sdb_record.proofs.Public.{before_part-any, column-before_part, same_name-itself, same_name-true}
use Rattle.sdb_model.specs.declared.event.Event.TheVariants as event
use Rattle.law_protocol.specs.Lawful.{id, InReply, InEvent, IsObserved, IsRowObserved, IsBadRow}
use Rattle.check_protocol.specs.declared.labelled.Labelled.{Labelled}
use Rattle.check_protocol.specs.Values.{all_labelled, same_record}
use Rattle.check_protocol.specs.Observed.{is_first, with_rows, with_reply, with_event, gathered, observed, before_writer, no_more, before_matches_next, before_matches, is_before_image_of, has_no_before, decided, commits, aborts, commit_moment, row_moment, observes_commit, observes_abort, observes_bad_row, moments, is_forward}
use Rattle.check_protocol.proofs.Lists.{none_some, right, not_true, true_not, In, any_some, some_any, found_in}
use Rattle.sdb_types.proofs.Public.{and_both as both, and_first as left, clash, same_key_exact, same_key_of, some_is}
use Rattle.sdb_model.specs.Counted.{is_committed as is_commit}

---- equality

pub record_is : (a b : Record) → same_record a b ≡ true → a ≡ b
unfolding same_record
record_is a b h = (record_is_exact a b).0 h

pub is_record : (a b : Record) → a ≡ b → same_record a b ≡ true
unfolding same_record
is_record a b e = (record_is_exact a b).1 e

pub number_is : (a b : ℕ) → (a == b) ≡ true → a ≡ b
number_is a b h = (unsigned_Decides a b).0 h

pub is_number : (a b : ℕ) → a ≡ b → (a == b) ≡ true
is_number a b e = (unsigned_Decides a b).1 e

---- what is gathered

pub in_more : {X : Type 0} (xs : List X) (y x : X) → In (xs ++ y ∷ []) x → In xs x ⊎ (x ≡ y)
in_more [] y x (inl e) = inr e
in_more [] y x (inr e) = absurd e
in_more (z ∷ zs) y x (inl e) = inl (inl e)
in_more (z ∷ zs) y x (inr i) = elim (in_more zs y x i) [ inl a ↦ inl (inr a) | inr b ↦ inr b ]

pub more_in : {X : Type 0} (xs : List X) (y x : X) → In xs x → In (xs ++ y ∷ []) x
more_in [] y x i = absurd i
more_in (z ∷ zs) y x (inl e) = inl e
more_in (z ∷ zs) y x (inr i) = inr (more_in zs y x i)

pub last_in : {X : Type 0} (xs : List X) (y : X) → In (xs ++ y ∷ []) y
last_in [] y = inl refl
last_in (z ∷ zs) y = inr (last_in zs y)

first_is : (rows : List Record) (r : Record) (o : Option Record) → record_among rows r.key ≡ o → option_map_or (λ x. same_record x r) o false ≡ true → record_among rows r.key ≡ Some r
first_is rows r None e h = clash (sym h)
first_is rows r (Some x) e h = e ∙ ap Some (record_is x r h)

is_first_of : (rows : List Record) (r : Record) → record_among rows r.key ≡ Some r → is_first rows r ≡ true
is_first_of rows r e = ap (λ o. option_map_or (λ x. same_record x r) o false) e ∙ is_record r r refl

rows_in : (rows rs found : List Record) (x : Record) → In (with_rows rows rs found) x → In found x ⊎ (record_among rows x.key ≡ Some x)
rows_in rows [] found x i = inl i
rows_in rows (r ∷ rs) found x i = elim (rows_in rows rs (if is_first rows r then found ++ r ∷ [] else found) x i) [
  | inr e ↦ inr e
  | inl a ↦ by (is_first rows r) refl a
]
  where
    by : (b : Bool) → is_first rows r ≡ b → In (if b then found ++ r ∷ [] else found) x → In found x ⊎ (record_among rows x.key ≡ Some x)
    by true e a = elim (in_more found r x a) [
      | inl k ↦ inl k
      | inr same ↦ inr (subst (λ y. record_among rows y.key ≡ Some y) (sym same) (first_is rows r (record_among rows r.key) refl e))
    ]
    by false e a = inl a

kept_if : (b : Bool) (found : List Record) (r x : Record) → In found x → In (if b then found ++ r ∷ [] else found) x
kept_if true found r x i = more_in found r x i
kept_if false found r x i = i

rows_keep : (rows rs found : List Record) (x : Record) → In found x → In (with_rows rows rs found) x
rows_keep rows [] found x i = i
rows_keep rows (r ∷ rs) found x i = rows_keep rows rs (if is_first rows r then found ++ r ∷ [] else found) x (kept_if (is_first rows r) found r x i)

rows_have : (rows rs found : List Record) (x : Record) → In rs x → record_among rows x.key ≡ Some x → In (with_rows rows rs found) x
rows_have rows [] found x i e = absurd i
rows_have rows (r ∷ rs) found x (inl same) e =
    rows_keep rows rs (if is_first rows r then found ++ r ∷ [] else found) x (subst (λ b. In (if b then found ++ r ∷ [] else found) x) (sym (is_first_of rows r (subst (λ y. record_among rows y.key ≡ Some y) same e))) (subst (λ y. In (found ++ r ∷ []) y) (sym same) (last_in found r)))
rows_have rows (r ∷ rs) found x (inr i) e = rows_have rows rs (if is_first rows r then found ++ r ∷ [] else found) x i e

reply_in : (r : Reply) (found : List Record) (x : Record) → In (with_reply r found) x → In found x ⊎ InReply r x
reply_in (reply.Found None) found x i = inl i
reply_in (reply.Found (Some r)) found x i = in_more found r x i
reply_in (reply.Rows rows) found x i = rows_in rows rows found x i
reply_in reply.Applied found x i = inl i
reply_in (reply.NotMet None) found x i = inl i
reply_in (reply.NotMet (Some r)) found x i = in_more found r x i
reply_in (reply.NotAll place None) found x i = inl i
reply_in (reply.NotAll place (Some r)) found x i = in_more found r x i
reply_in reply.Fault found x i = inl i
reply_in reply.NoMemory found x i = inl i

reply_keeps : (r : Reply) (found : List Record) (x : Record) → In found x → In (with_reply r found) x
reply_keeps (reply.Found None) found x i = i
reply_keeps (reply.Found (Some r)) found x i = more_in found r x i
reply_keeps (reply.Rows rows) found x i = rows_keep rows rows found x i
reply_keeps reply.Applied found x i = i
reply_keeps (reply.NotMet None) found x i = i
reply_keeps (reply.NotMet (Some r)) found x i = more_in found r x i
reply_keeps (reply.NotAll place None) found x i = i
reply_keeps (reply.NotAll place (Some r)) found x i = more_in found r x i
reply_keeps reply.Fault found x i = i
reply_keeps reply.NoMemory found x i = i

reply_has : (r : Reply) (found : List Record) (x : Record) → InReply r x → In (with_reply r found) x
reply_has (reply.Found None) found x i = absurd i
reply_has (reply.Found (Some r)) found x i = subst (λ y. In (found ++ r ∷ []) y) (sym i) (last_in found r)
reply_has (reply.Rows rows) found x i = rows_have rows rows found x (found_in (λ (r : Record). same_key x.key r.key) rows x i).0 i
reply_has reply.Applied found x i = absurd i
reply_has (reply.NotMet None) found x i = absurd i
reply_has (reply.NotMet (Some r)) found x i = subst (λ y. In (found ++ r ∷ []) y) (sym i) (last_in found r)
reply_has (reply.NotAll place None) found x i = absurd i
reply_has (reply.NotAll place (Some r)) found x i = subst (λ y. In (found ++ r ∷ []) y) (sym i) (last_in found r)
reply_has reply.Fault found x i = absurd i
reply_has reply.NoMemory found x i = absurd i

event_in : (e : Event) (found : List Record) (x : Record) → In (with_event e found) x → In found x ⊎ InEvent e x
event_in (event.Call client store q how r answer) found x i = reply_in r found x i
event_in (event.Take client text answer) found x i = inl i
event_in (event.Stop client) found x i = inl i
event_in (event.Clock moment) found x i = inl i
event_in (event.Idle client) found x i = inl i
event_in (event.Land number store q how r) found x i = inl i
event_in (event.Alter table column kind altered) found x i = inl i

event_keeps : (e : Event) (found : List Record) (x : Record) → In found x → In (with_event e found) x
event_keeps (event.Call client store q how r answer) found x i = reply_keeps r found x i
event_keeps (event.Take client text answer) found x i = i
event_keeps (event.Stop client) found x i = i
event_keeps (event.Clock moment) found x i = i
event_keeps (event.Idle client) found x i = i
event_keeps (event.Land number store q how r) found x i = i
event_keeps (event.Alter table column kind altered) found x i = i

event_has : (e : Event) (found : List Record) (x : Record) → InEvent e x → In (with_event e found) x
event_has (event.Call client store q how r answer) found x i = reply_has r found x i
event_has (event.Take client text answer) found x i = absurd i
event_has (event.Stop client) found x i = absurd i
event_has (event.Clock moment) found x i = absurd i
event_has (event.Idle client) found x i = absurd i
event_has (event.Land number store q how r) found x i = absurd i
event_has (event.Alter table column kind altered) found x i = absurd i

gathered_in : (past : List Labelled) (found : List Record) (x : Record) → In (gathered past found) x → In found x ⊎ IsObserved (all_labelled past) x
gathered_in [] found x i = inl i
gathered_in (p ∷ past) found x i = elim (gathered_in past (with_event p.event found) x i) [
  | inr s ↦ inr (inr s)
  | inl a ↦ elim (event_in p.event found x a) [ inl k ↦ inl k | inr e ↦ inr (inl e) ]
]

gathered_keeps : (past : List Labelled) (found : List Record) (x : Record) → In found x → In (gathered past found) x
gathered_keeps [] found x i = i
gathered_keeps (p ∷ past) found x i = gathered_keeps past (with_event p.event found) x (event_keeps p.event found x i)

gathered_has : (past : List Labelled) (found : List Record) (x : Record) → IsObserved (all_labelled past) x → In (gathered past found) x
gathered_has [] found x s = absurd s
gathered_has (p ∷ past) found x (inl e) = gathered_keeps past (with_event p.event found) x (event_has p.event found x e)
gathered_has (p ∷ past) found x (inr s) = gathered_has past (with_event p.event found) x s

pub shown_is : (past : List Labelled) (x : Record) → In (observed past) x → IsObserved (all_labelled past) x
shown_is past x i = elim (gathered_in past [] x i) [ inl a ↦ absurd a | inr s ↦ s ]

pub is_shown : (past : List Labelled) (x : Record) → IsObserved (all_labelled past) x → In (observed past) x
is_shown past x s = gathered_has past [] x s

---- rows

commits_is : (r : Record) → commits (decided r) ≡ true → (m : ℤ) × (decision_in r ≡ Ok (record { decision = decision.Committed; created_at = m }))
commits_is r h = by (decision_in r) refl h
  where
    named : (d : Decided) → is_commit d.decision ≡ true → d ≡ record { decision = decision.Committed; created_at = d.created_at }
    named d e = ap (λ x. record { decision = x; created_at = d.created_at }) (is d.decision e)
      where
        is : (x : Decision) → is_commit x ≡ true → x ≡ decision.Committed
        is decision.Committed e = refl
        is decision.Aborted e = clash (sym e)

    by : (o : Result Decided (List ℕ)) → decision_in r ≡ o → commits (result_ok o) ≡ true → (m : ℤ) × (decision_in r ≡ Ok (record { decision = decision.Committed; created_at = m }))
    by (Ok d) e k = (d.created_at, e ∙ ap Ok (named d k))
    by (Err x) e k = clash (sym k)

aborts_is : (r : Record) → aborts (decided r) ≡ true → (m : ℤ) × (decision_in r ≡ Ok (record { decision = decision.Aborted; created_at = m }))
aborts_is r h = by (decision_in r) refl h
  where
    named : (d : Decided) → not (is_commit d.decision) ≡ true → d ≡ record { decision = decision.Aborted; created_at = d.created_at }
    named d e = ap (λ x. record { decision = x; created_at = d.created_at }) (is d.decision e)
      where
        is : (x : Decision) → not (is_commit x) ≡ true → x ≡ decision.Aborted
        is decision.Committed e = clash (sym e)
        is decision.Aborted e = refl

    by : (o : Result Decided (List ℕ)) → decision_in r ≡ o → aborts (result_ok o) ≡ true → (m : ℤ) × (decision_in r ≡ Ok (record { decision = decision.Aborted; created_at = m }))
    by (Ok d) e k = (d.created_at, e ∙ ap Ok (named d k))
    by (Err x) e k = clash (sym k)

pub commit_shown : (past : List Labelled) (t : ℕ) → observes_commit (observed past) (coordinator_key_of (id t)) ≡ true → (m : ℤ) × IsRowObserved (all_labelled past) t decision.Committed m
commit_shown past t h =
    let a = any_some (λ (r : Record). same_key r.key (coordinator_key_of (id t)) && commits (decided r)) (observed past) h in
    let m = commits_is a.0 (right (same_key a.0.key (coordinator_key_of (id t))) (commits (decided a.0)) a.2) in
    (m.0, record { row = a.0; observed = shown_is past a.0 a.1; key = same_key_exact a.0.key (coordinator_key_of (id t)) (left (same_key a.0.key (coordinator_key_of (id t))) (commits (decided a.0)) a.2); says = m.1 })

pub shows_commit_of : (past : List Labelled) (t : ℕ) (m : ℤ) → IsRowObserved (all_labelled past) t decision.Committed m → observes_commit (observed past) (coordinator_key_of (id t)) ≡ true
shows_commit_of past t m s =
    some_any (λ (r : Record). same_key r.key (coordinator_key_of (id t)) && commits (decided r)) (observed past) s.row (is_shown past s.row s.observed) (both (same_key s.row.key (coordinator_key_of (id t))) (commits (decided s.row)) (same_key_of s.row.key (coordinator_key_of (id t)) s.key) (ap (λ o. commits (result_ok o)) s.says))

pub abort_shown : (past : List Labelled) (t : ℕ) → observes_abort (observed past) (coordinator_key_of (id t)) ≡ true → (m : ℤ) × IsRowObserved (all_labelled past) t decision.Aborted m
abort_shown past t h =
    let a = any_some (λ (r : Record). same_key r.key (coordinator_key_of (id t)) && aborts (decided r)) (observed past) h in
    let m = aborts_is a.0 (right (same_key a.0.key (coordinator_key_of (id t))) (aborts (decided a.0)) a.2) in
    (m.0, record { row = a.0; observed = shown_is past a.0 a.1; key = same_key_exact a.0.key (coordinator_key_of (id t)) (left (same_key a.0.key (coordinator_key_of (id t))) (aborts (decided a.0)) a.2); says = m.1 })

pub shows_abort_of : (past : List Labelled) (t : ℕ) (m : ℤ) → IsRowObserved (all_labelled past) t decision.Aborted m → observes_abort (observed past) (coordinator_key_of (id t)) ≡ true
shows_abort_of past t m s =
    some_any (λ (r : Record). same_key r.key (coordinator_key_of (id t)) && aborts (decided r)) (observed past) s.row (is_shown past s.row s.observed) (both (same_key s.row.key (coordinator_key_of (id t))) (aborts (decided s.row)) (same_key_of s.row.key (coordinator_key_of (id t)) s.key) (ap (λ o. aborts (result_ok o)) s.says))

none_is : {A : Type 0} (o : Option A) → is_none o ≡ true → o ≡ None
none_is None h = refl
none_is (Some x) h = clash (sym h)

pub bad_row_shown : (past : List Labelled) (t : ℕ) → observes_bad_row (observed past) (coordinator_key_of (id t)) ≡ true → IsBadRow (all_labelled past) t
bad_row_shown past t h =
    let a = any_some (λ (r : Record). same_key r.key (coordinator_key_of (id t)) && is_none (decided r)) (observed past) h in
    record { row = a.0; observed = shown_is past a.0 a.1; key = same_key_exact a.0.key (coordinator_key_of (id t)) (left (same_key a.0.key (coordinator_key_of (id t))) (is_none (decided a.0)) a.2); bad = none_is (decided a.0) (right (same_key a.0.key (coordinator_key_of (id t))) (is_none (decided a.0)) a.2) }

pub shows_bad_row_of : (past : List Labelled) (t : ℕ) → IsBadRow (all_labelled past) t → observes_bad_row (observed past) (coordinator_key_of (id t)) ≡ true
shows_bad_row_of past t s =
    some_any (λ (r : Record). same_key r.key (coordinator_key_of (id t)) && is_none (decided r)) (observed past) s.row (is_shown past s.row s.observed) (both (same_key s.row.key (coordinator_key_of (id t))) (is_none (decided s.row)) (same_key_of s.row.key (coordinator_key_of (id t)) s.key) (ap is_none s.bad))

---- moments

kept_in : {X Y : Type 0} (f : X → Option Y) (xs : List X) (y : Y) → In (filter_map f xs) y → (x : X) × In xs x × (f x ≡ Some y)
kept_in f [] y i = absurd i
kept_in f (x ∷ xs) y i = kept_by f x xs y (kept_in f xs y) (f x) refl i
  where
    kept_by : {X Y : Type 0} (f : X → Option Y) (x : X) (xs : List X) (y : Y) → (In (filter_map f xs) y → (z : X) × In xs z × (f z ≡ Some y)) → (o : Option Y) → f x ≡ o → In (cons_option o (filter_map f xs)) y → (z : X) × (z ≡ x ⊎ In xs z) × (f z ≡ Some y)
    kept_by f x xs y more None e i = let r = more i in (r.0, inr r.1, r.2)
    kept_by f x xs y more (Some v) e (inl same) = (x, inl refl, e ∙ ap Some (sym same))
    kept_by f x xs y more (Some v) e (inr i) = let r = more i in (r.0, inr r.1, r.2)

in_kept : {X Y : Type 0} (f : X → Option Y) (xs : List X) (x : X) (y : Y) → In xs x → f x ≡ Some y → In (filter_map f xs) y
in_kept f [] x y i e = absurd i
in_kept f (z ∷ zs) x y (inl same) e = subst (λ o. In (cons_option o (filter_map f zs)) y) (sym (ap f (sym same) ∙ e)) (inl refl)
in_kept f (z ∷ zs) x y (inr i) e = later (f z) (filter_map f zs) y (in_kept f zs x y i e)
  where
    later : {Y : Type 0} (o : Option Y) (ys : List Y) (y : Y) → In ys y → In (cons_option o ys) y
    later None ys y i = i
    later (Some v) ys y i = inr i

moment_says : (r : Record) (row : Key) (m : ℤ) → row_moment row r ≡ Some m → (r.key ≡ row) × (decision_in r ≡ Ok (record { decision = decision.Committed; created_at = m }))
moment_says r row m h = by (same_key r.key row) refl h
  where
    answered : (x : Decision) (n : ℤ) → (if is_commit x then Some n else None) ≡ Some m → (x ≡ decision.Committed) × (n ≡ m)
    answered decision.Committed n e = (refl, some_is n m e)
    answered decision.Aborted n e = none_some e

    says : (o : Result Decided (List ℕ)) → decision_in r ≡ o → commit_moment (result_ok o) ≡ Some m → decision_in r ≡ Ok (record { decision = decision.Committed; created_at = m })
    says (Err x) e k = none_some k
    says (Ok d) e k = let t = answered d.decision d.created_at k in e ∙ (λ i. Ok (record { decision = t.0 i; created_at = t.1 i }))

    by : (b : Bool) → same_key r.key row ≡ b → (if b then commit_moment (decided r) else None) ≡ Some m → (r.key ≡ row) × (decision_in r ≡ Ok (record { decision = decision.Committed; created_at = m }))
    by true e k = (same_key_exact r.key row e, says (decision_in r) refl k)
    by false e k = none_some k

pub moment_shown : (past : List Labelled) (t : ℕ) (m : ℤ) → In (moments (observed past) (coordinator_key_of (id t))) m → IsRowObserved (all_labelled past) t decision.Committed m
moment_shown past t m i =
    let a = kept_in (row_moment (coordinator_key_of (id t))) (observed past) m i in
    let s = moment_says a.0 (coordinator_key_of (id t)) m a.2 in
    record { row = a.0; observed = shown_is past a.0 a.1; key = s.0; says = s.1 }

pub shown_moment : (past : List Labelled) (t : ℕ) (m : ℤ) → IsRowObserved (all_labelled past) t decision.Committed m → In (moments (observed past) (coordinator_key_of (id t))) m
shown_moment past t m s =
    in_kept (row_moment (coordinator_key_of (id t))) (observed past) s.row m (is_shown past s.row s.observed) (ap (λ b. if b then commit_moment (decided s.row) else None) (same_key_of s.row.key (coordinator_key_of (id t)) s.key) ∙ ap (λ o. commit_moment (result_ok o)) s.says)

---- rolled

pub forward_is : (r : Record) (ms : List ℤ) (b : Record) → is_forward r ms b ≡ true → (m : ℤ) × In ms m × (b ≡ forward_record r m)
forward_is r ms b h = let a = any_some (λ m. same_record b (forward_record r m)) ms h in (a.0, a.1, record_is b (forward_record r a.0) a.2)

pub is_forward_at : (r : Record) (ms : List ℤ) (b : Record) (m : ℤ) → In ms m → b ≡ forward_record r m → is_forward r ms b ≡ true
is_forward_at r ms b m i e = some_any (λ m. same_record b (forward_record r m)) ms m i (is_record b (forward_record r m) e)

no_more_is : (ps : List Pair) → no_more ps ≡ true → [] ≡ ps
no_more_is [] h = refl
no_more_is (p ∷ ps) h = clash (sym h)

value_is : (a b : Value) → is_eq (value_cmp a b) ≡ true → a ≡ b
value_is a b h = (value_is_exact a b).0 h

is_value : (a b : Value) → a ≡ b → is_eq (value_cmp a b) ≡ true
is_value a b e = (value_is_exact a b).1 e

abbrev kept_pair : Option (List ℕ) → Value → Option Pair
kept_pair o v = option_map (λ name. record { name = name; value = v }) o

keeps_is : (ps bs : List Pair) → before_matches ps bs ≡ true → before_part ps ≡ bs
keeps_is [] bs h = no_more_is bs h
keeps_is (p ∷ ps) bs h = by (base_name p.name) p.value bs (keeps_is ps) h
  where
    by : (o : Option (List ℕ)) (v : Value) (bs : List Pair) → ((cs : List Pair) → before_matches ps cs ≡ true → before_part ps ≡ cs) → before_matches_next o v (before_matches ps) bs ≡ true → cons_option (kept_pair o v) (before_part ps) ≡ bs
    by None v bs more h = more bs h
    by (Some name) v [] more h = clash (sym h)
    by (Some name) v (b ∷ bs) more h =
        let n = same_name-true b.name name (left (same_name b.name name) (is_eq (value_cmp b.value v) && before_matches ps bs) h) in
        let rest = right (same_name b.name name) (is_eq (value_cmp b.value v) && before_matches ps bs) h in
        let w = value_is b.value v (left (is_eq (value_cmp b.value v)) (before_matches ps bs) rest) in
        let t = more bs (right (is_eq (value_cmp b.value v)) (before_matches ps bs) rest) in
        λ i. record { name = (sym n) i; value = (sym w) i } ∷ t i

is_keeps : (ps bs : List Pair) → before_part ps ≡ bs → before_matches ps bs ≡ true
is_keeps [] bs e = ap no_more (sym e)
is_keeps (p ∷ ps) bs e = by (base_name p.name) p.value bs (is_keeps ps) e
  where
    head : (a b : Pair) (xs bs : List Pair) → (a ∷ xs) ≡ (b ∷ bs) → a ≡ b
    head a b xs bs e = cc

    tail : (a b : Pair) (xs bs : List Pair) → (a ∷ xs) ≡ (b ∷ bs) → xs ≡ bs
    tail a b xs bs e = cc

    apart : {A : Type 0} (a : Pair) (xs : List Pair) → (a ∷ xs) ≡ [] → A
    apart a xs e = absurd (cc)

    by : (o : Option (List ℕ)) (v : Value) (bs : List Pair) → ((cs : List Pair) → before_part ps ≡ cs → before_matches ps cs ≡ true) → cons_option (kept_pair o v) (before_part ps) ≡ bs → before_matches_next o v (before_matches ps) bs ≡ true
    by None v bs more e = more bs e
    by (Some name) v [] more e = apart (record { name = name; value = v }) (before_part ps) e
    by (Some name) v (b ∷ bs) more e =
        let h = head (record { name = name; value = v }) b (before_part ps) bs e in
        both (same_name b.name name) (is_eq (value_cmp b.value v) && before_matches ps bs) (ap (λ (x : Pair). same_name x.name name) (sym h) ∙ same_name-itself name)
        (both (is_eq (value_cmp b.value v)) (before_matches ps bs) (is_value b.value v (ap (λ (x : Pair). x.value) (sym h))) (more bs (tail (record { name = name; value = v }) b (before_part ps) bs e)))

pub kept_is : (r b : Record) → is_before_image_of r b ≡ true → before_record r ≡ Some b
unfolding before_record
kept_is r b h =
    let k = same_key_exact r.key b.key (left (same_key r.key b.key) (not (no_more b.columns) && before_matches r.columns b.columns) h) in
    let rest = right (same_key r.key b.key) (not (no_more b.columns) && before_matches r.columns b.columns) h in
    let c = keeps_is r.columns b.columns (right (not (no_more b.columns)) (before_matches r.columns b.columns) rest) in
    by (before_part r.columns) c (ap (λ x. not (no_more x)) c ∙ left (not (no_more b.columns)) (before_matches r.columns b.columns) rest) k
  where
    by : (ps : List Pair) → ps ≡ b.columns → not (no_more ps) ≡ true → r.key ≡ b.key → record_with r.key ps ≡ Some b
    by [] e h k = clash (sym h)
    by (p ∷ ps) e h k = λ i. Some (record { key = k i; columns = e i })

pub is_kept_of : (r b : Record) → before_record r ≡ Some b → is_before_image_of r b ≡ true
unfolding before_record
is_kept_of r b h = by (before_part r.columns) refl h
  where
    by : (ps : List Pair) → before_part r.columns ≡ ps → record_with r.key ps ≡ Some b → is_before_image_of r b ≡ true
    by [] e h = none_some h
    by (p ∷ ps) e h =
        let same = some_is (record { key = r.key; columns = p ∷ ps }) b h in
        both (same_key r.key b.key) (not (no_more b.columns) && before_matches r.columns b.columns) (same_key_of r.key b.key (ap (λ (x : Record). x.key) same))
        (both (not (no_more b.columns)) (before_matches r.columns b.columns) (ap (λ (x : Record). not (no_more x.columns)) (sym same)) (is_keeps r.columns b.columns (e ∙ ap (λ (x : Record). x.columns) same)))

any_kept : (ps : List Pair) → before_part ps ≡ [] → list_any is_before_pair ps ≡ false
any_kept [] e = refl
any_kept (p ∷ ps) e = by (base_name p.name) p.value (any_kept ps) e
  where
    apart : {A : Type 0} (a : Pair) (xs : List Pair) → (a ∷ xs) ≡ [] → A
    apart a xs e = absurd (cc)

    by : (o : Option (List ℕ)) (v : Value) → (before_part ps ≡ [] → list_any is_before_pair ps ≡ false) → cons_option (kept_pair o v) (before_part ps) ≡ [] → (is_some o || list_any is_before_pair ps) ≡ false
    by None v more e = more e
    by (Some name) v more e = apart (record { name = name; value = v }) (before_part ps) e

pub keeps_none_is : (r : Record) → has_no_before r ≡ true → before_record r ≡ None
unfolding before_record
keeps_none_is r h = ap (record_with r.key) (before_part-any r.columns (not_true (list_any is_before_pair r.columns) h))

pub is_keeps_none : (r : Record) → before_record r ≡ None → has_no_before r ≡ true
unfolding before_record
is_keeps_none r h = by (before_part r.columns) refl h
  where
    some_none : {A : Type 0} (x : Record) → Some x ≡ None → A
    some_none x e = absurd (cc)

    by : (ps : List Pair) → before_part r.columns ≡ ps → record_with r.key ps ≡ None → has_no_before r ≡ true
    by [] e h = true_not (list_any is_before_pair r.columns) (any_kept r.columns e)
    by (p ∷ ps) e h = some_none (record { key = r.key; columns = p ∷ ps }) h

pub kept_writer_is : (ps : List Pair) → id_in (before_part ps) ≡ before_writer ps
kept_writer_is ps = ap id_in_value (column-before_part ps tx_id)

-- a before image that names a writer keeps a record
pub kept_some : (r : Record) (i : TxId) → before_writer r.columns ≡ Some i → (b : Record) × (before_record r ≡ Some b) × (b.columns ≡ before_part r.columns)
unfolding before_record
kept_some r i h = by (before_part r.columns) refl
  where
    by : (ps : List Pair) → before_part r.columns ≡ ps → (b : Record) × (record_with r.key ps ≡ Some b) × (b.columns ≡ ps)
    by [] e = none_some (ap id_in (sym e) ∙ kept_writer_is r.columns ∙ h)
    by (p ∷ ps) e = (record { key = r.key; columns = p ∷ ps }, refl, refl)

pub before_columns : (r b : Record) → before_record r ≡ Some b → b.columns ≡ before_part r.columns
unfolding before_record
before_columns r b h = by (before_part r.columns) h
  where
    by : (ps : List Pair) → record_with r.key ps ≡ Some b → b.columns ≡ ps
    by [] h = none_some h
    by (p ∷ ps) h = ap (λ (x : Record). x.columns) (sym (some_is (record { key = r.key; columns = p ∷ ps }) b h))
