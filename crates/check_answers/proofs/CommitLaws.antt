-- The tests of the answers of a COMMIT are their causes.
use Rattle.std.proofs.Common.{◌≡◌, ℕ, Bool, true, false, List, Option, Some, None, ◌⊎◌, inl, inr, refl, sym, ap, ◌∙◌, subst}
use Rattle.std.specs.Prelude.{filter, All, Contains, get_or, ◌&&◌, nat_lt, not}
use Rattle.std.specs.List.{list_any}
use Rattle.std.specs.Option.{option_and_then}
use Rattle.std.specs.Result.{result_ok}
use Rattle.std.proofs.lemmas.List.Elements.{All-contains, Contains-get_or}
use Rattle.check_answers.specs.Types.{Decided, Decision, Event, Key, Made, Reply, TxId}
use Rattle.sdb_types.specs.declared.record.Reply.TheVariants as reply
use Rattle.sdb_record.specs.declared.coordinator.Decision.TheVariants as decision
use Rattle.sdb_record.specs.Coordinator.{coordinator_key_of, decision_in, same_decision}
use Rattle.sdb_model.specs.Calls as calls
use Rattle.sdb_model.specs.Calls.{calls_of, decision_learned, is_of_row, put_by}
use Rattle.sdb_model.specs.Causes.{IsCommitOf, IsDecided, IsExpired, IsOfCommit, IsUnknown, PutsRow}
use Rattle.sdb_model.specs.Transactions.{Executed}
use Rattle.check_protocol.proofs.Public.{any_some, In, not_both, not_true, right, some_any, true_not}
use Rattle.check_tables.specs.Values.{all_made, asks_row, decision_found_at, made_of}
use Rattle.check_answers.specs.Tests.{any_id, commits_as, is_commit_of, expired_among, fails_later, found_aborted, has_failed, is_decided, is_lost_put, put_before, puts_row, unknown_among}
use Rattle.check_answers.proofs.IdLaws.{commit_found, commit_is, id_some, is_commit}
use Rattle.check_answers.proofs.Finds.{in_contains, contains_in, kept_in, in_kept, made_in, in_made, made_contained, contained_made}
use Rattle.sdb_types.proofs.Public.{and_both as both, and_first as left, clash, decides as decide}
use Rattle.sdb_types.specs.Replies.{is_fault}
use Rattle.sdb_record.proofs.Public.{decision_itself}

decision_is : (a b : Decision) → same_decision a b ≡ true → a ≡ b
decision_is decision.Committed decision.Committed h = refl
decision_is decision.Committed decision.Aborted h = clash (sym h)
decision_is decision.Aborted decision.Committed h = clash (sym h)
decision_is decision.Aborted decision.Aborted h = refl

decided_is : (wanted : Decision) (o : Option Decided) → is_decided wanted o ≡ true → IsDecided wanted o
decided_is wanted None h = clash (sym h)
decided_is wanted (Some d) h = decision_is d.decision wanted h

is_decided_of : (wanted : Decision) (o : Option Decided) → IsDecided wanted o → is_decided wanted o ≡ true
is_decided_of wanted None h = absurd h
is_decided_of wanted (Some d) h = ap (λ x. same_decision x wanted) h ∙ decision_itself wanted

fault_is : (r : Reply) → is_fault r ≡ true → r ≡ reply.Fault
fault_is (reply.Found found) h = clash (sym h)
fault_is (reply.Rows rows) h = clash (sym h)
fault_is (reply.NotAll place there) h = clash (sym h)
fault_is reply.Applied h = clash (sym h)
fault_is (reply.NotMet found) h = clash (sym h)
fault_is reply.Fault h = refl
fault_is reply.NoMemory h = clash (sym h)

failed_is : (r : Reply) → has_failed r ≡ true → (r ≡ reply.Fault) ⊎ (r ≡ reply.NoMemory)
failed_is (reply.Found found) h = clash (sym h)
failed_is (reply.Rows rows) h = clash (sym h)
failed_is (reply.NotAll place there) h = clash (sym h)
failed_is reply.Applied h = clash (sym h)
failed_is (reply.NotMet found) h = clash (sym h)
failed_is reply.Fault h = inl refl
failed_is reply.NoMemory h = inr refl

is_failed : (r : Reply) → (r ≡ reply.Fault) ⊎ (r ≡ reply.NoMemory) → has_failed r ≡ true
is_failed r (inl e) = ap has_failed e
is_failed r (inr e) = ap has_failed e

-- all of a list, by what it contains
all_of : {X : Type 0} (P : X → Type 0) (xs : List X) → ((x : X) → In xs x → P x) → All P xs
all_of P xs h k d lt = h (get_or xs k d) (contains_in xs (get_or xs k d) (Contains-get_or xs k d lt))

module _ (events : List Event) (ms : List Made) (id : TxId) where
  abbrev row : Key
  row = coordinator_key_of id

  abbrev put : Made → Option Decided
  put m = option_and_then (λ r. result_ok (decision_in r)) (put_by m.request)

  puts_is : (wanted : Decision) (m : Made) → puts_row row wanted m ≡ true → PutsRow id wanted (made_of m)
  puts_is wanted m h = (left (asks_row row m.request) (is_decided wanted (put m)) h, decided_is wanted (put m) (right (asks_row row m.request) (is_decided wanted (put m)) h))

  is_puts : (wanted : Decision) (m : Made) → PutsRow id wanted (made_of m) → puts_row row wanted m ≡ true
  is_puts wanted m (a, d) = both (asks_row row m.request) (is_decided wanted (put m)) a (is_decided_of wanted (put m) d)

  abbrev earlier : ℕ → calls.StoreCall → Bool
  earlier n x = nat_lt x.at n

  none_put : (n : ℕ) → list_any (put_before row n) ms ≡ false → All (λ m. PutsRow id decision.Aborted m → ⊥) (filter (earlier n) (all_made ms))
  none_put n h = all_of (λ m. PutsRow id decision.Aborted m → ⊥) (filter (earlier n) (all_made ms)) by
    where
      by : (x : calls.StoreCall) → In (filter (earlier n) (all_made ms)) x → PutsRow id decision.Aborted x → ⊥
      by x i p =
          let k = in_kept (earlier n) (all_made ms) x i in
          let m = in_made ms x k.0 in
          not_both (list_any (put_before row n) ms)
          (some_any (put_before row n) ms m.0 m.1 (both (nat_lt m.0.at n) (puts_row row decision.Aborted m.0) (sym (ap (earlier n) m.2) ∙ k.1) (is_puts decision.Aborted m.0 (subst (λ y. PutsRow id decision.Aborted y) m.2 p)))) h

  put_none : (n : ℕ) → All (λ m. PutsRow id decision.Aborted m → ⊥) (filter (earlier n) (all_made ms)) → list_any (put_before row n) ms ≡ false
  put_none n all = elim (decide (list_any (put_before row n) ms)) [
    | inr e ↦ e
    | inl e ↦
        let r = any_some (put_before row n) ms e in
        let before = left (nat_lt r.0.at n) (puts_row row decision.Aborted r.0) r.2 in
        absurd (All-contains (λ m. PutsRow id decision.Aborted m → ⊥) (filter (earlier n) (all_made ms)) (made_of r.0) all (in_contains (filter (earlier n) (all_made ms)) (made_of r.0) (kept_in (earlier n) (all_made ms) (made_of r.0) (made_in ms r.0 r.1) before)) (puts_is decision.Aborted r.0 (right (nat_lt r.0.at n) (puts_row row decision.Aborted r.0) r.2)))
  ]

  pub expired_is : (client : ℕ) (s : Executed) → all_made ms ≡ calls_of events client s → IsCommitOf events client s id → expired_among ms row ≡ true → IsExpired events client s id
  expired_is client s e c h =
      let r = any_some (found_aborted ms row) ms h in
      let m = r.0 in
      let a = is_decided decision.Aborted (decision_found_at row m) in
      let b = list_any (put_before row m.at) ms in
      record {
        commit = c;
        call = made_of m;
        among = subst (λ cs. Contains cs (made_of m)) e (made_contained ms m r.1);
        aborted = decided_is decision.Aborted (decision_found_at row m) (left a (not b) r.2);
        not_own = subst (λ cs. All (λ x. PutsRow id decision.Aborted x → ⊥) (filter (earlier m.at) cs)) e (none_put m.at (not_true b (right a (not b) r.2)));
      }

  pub is_expired_of : (client : ℕ) (s : Executed) → all_made ms ≡ calls_of events client s → IsExpired events client s id → expired_among ms row ≡ true
  is_expired_of client s e x =
      let r = contained_made ms x.call (subst (λ cs. Contains cs x.call) (sym e) x.among) in
      let m = r.0 in
      let own : All (λ y. PutsRow id decision.Aborted y → ⊥) (filter (earlier m.at) (all_made ms)) =
      subst (λ (y : calls.StoreCall). All (λ z. PutsRow id decision.Aborted z → ⊥) (filter (earlier y.at) (all_made ms))) r.2 (subst (λ cs. All (λ z. PutsRow id decision.Aborted z → ⊥) (filter (earlier x.call.at) cs)) (sym e) x.not_own) in
      some_any (found_aborted ms row) ms m r.1
      (both (is_decided decision.Aborted (decision_found_at row m)) (not (list_any (put_before row m.at) ms)) (is_decided_of decision.Aborted (decision_found_at row m) (subst (λ (y : calls.StoreCall). IsDecided decision.Aborted (calls.decision_found id y)) r.2 x.aborted)) (true_not (list_any (put_before row m.at) ms) (put_none m.at own)))

  pub unknown_is : (client : ℕ) (s : Executed) → all_made ms ≡ calls_of events client s → IsCommitOf events client s id → unknown_among ms row ≡ true → IsUnknown events client s id
  unknown_is client s e c h =
      let r = any_some (is_lost_put ms row) ms h in
      let p = r.0 in
      let f = is_fault p.reply in
      let l = list_any (fails_later row p.at) ms in
      let rest = right (puts_row row decision.Committed p) (f && l) r.2 in
      let t = any_some (fails_later row p.at) ms (right f l rest) in
      let m = t.0 in
      let more = right (nat_lt p.at m.at) (asks_row row m.request && has_failed m.reply) t.2 in
      record {
        commit = c;
        put = made_of p;
        later = made_of m;
        deciding = (subst (λ cs. Contains cs (made_of p)) e (made_contained ms p r.1), puts_is decision.Committed p (left (puts_row row decision.Committed p) (f && l) r.2), fault_is p.reply (left f l rest));
        failed = (subst (λ cs. Contains (filter (λ (x : calls.StoreCall). nat_lt p.at x.at) cs) (made_of m)) e (in_contains (filter (λ (x : calls.StoreCall). nat_lt p.at x.at) (all_made ms)) (made_of m) (kept_in (λ (x : calls.StoreCall). nat_lt p.at x.at) (all_made ms) (made_of m) (made_in ms m t.1) (left (nat_lt p.at m.at) (asks_row row m.request && has_failed m.reply) t.2))), left (asks_row row m.request) (has_failed m.reply) more, failed_is m.reply (right (asks_row row m.request) (has_failed m.reply) more));
      }

  pub is_unknown_of : (client : ℕ) (s : Executed) → all_made ms ≡ calls_of events client s → IsUnknown events client s id → unknown_among ms row ≡ true
  is_unknown_of client s e u =
      let r = contained_made ms u.put (subst (λ cs. Contains cs u.put) (sym e) u.deciding.0) in
      let p = r.0 in
      let after : calls.StoreCall → Bool = λ x. nat_lt u.put.at x.at in
      let k = in_kept after (all_made ms) u.later (contains_in (filter after (all_made ms)) u.later (subst (λ cs. Contains (filter after cs) u.later) (sym e) u.failed.0)) in
      let t = in_made ms u.later k.0 in
      let m = t.0 in
      some_any (is_lost_put ms row) ms p r.1
      (both (puts_row row decision.Committed p) (is_fault p.reply && list_any (fails_later row p.at) ms) (is_puts decision.Committed p (subst (λ y. PutsRow id decision.Committed y) r.2 u.deciding.1))
      (both (is_fault p.reply) (list_any (fails_later row p.at) ms) (ap is_fault (sym (ap (λ (y : calls.StoreCall). y.reply) r.2) ∙ u.deciding.2))
      (some_any (fails_later row p.at) ms m t.1
      (both (nat_lt p.at m.at) (asks_row row m.request && has_failed m.reply) (sym (ap (λ (y : calls.StoreCall). nat_lt y.at m.at) r.2) ∙ sym (ap (λ (y : calls.StoreCall). nat_lt u.put.at y.at) t.2) ∙ k.1)
      (both (asks_row row m.request) (has_failed m.reply) (sym (ap (λ (y : calls.StoreCall). is_of_row id y.request) t.2) ∙ u.failed.1) (is_failed m.reply (subst (λ (y : calls.StoreCall). (y.reply ≡ reply.Fault) ⊎ (y.reply ≡ reply.NoMemory)) t.2 u.failed.2)))))))

---- Committed

module _ (events : List Event) (ms : List Made) (client : ℕ) (s : Executed) (e : all_made ms ≡ calls_of events client s) where
  abbrev learned : TxId → Bool
  learned id = is_decided decision.Committed (decision_learned (all_made ms) id)

  pub of_commit_is : any_id events client (commits_as events client s ms) ≡ true → IsOfCommit events client s
  of_commit_is h =
      let r = id_some events client (commits_as events client s ms) h in
      let a = is_commit_of events client s r.0 in
      (r.0, commit_is events client s r.0 (left a (learned r.0) r.1), subst (λ cs. IsDecided decision.Committed (decision_learned cs r.0)) e (decided_is decision.Committed (decision_learned (all_made ms) r.0) (right a (learned r.0) r.1)))

  pub is_of_commit : IsOfCommit events client s → any_id events client (commits_as events client s ms) ≡ true
  is_of_commit (id, c, d) =
      commit_found events client s (commits_as events client s ms) id c
      (both (is_commit_of events client s id) (learned id) (is_commit events client s id c) (is_decided_of decision.Committed (decision_learned (all_made ms) id) (subst (λ cs. IsDecided decision.Committed (decision_learned cs id)) (sym e) d)))
