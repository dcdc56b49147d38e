-- The tests of replies hold exactly where a call shows what is looked for.
use Rattle.std.proofs.Common.{◌≡◌, ℕ, Bool, true, false, List, refl, sym, ap, ◌∙◌, subst}
use Rattle.std.specs.Prelude.{Contains, ◌&&◌, MatchBool, is_none, if◌then◌else◌, Result, Ok, Err}
use Rattle.std.specs.List.{list_any}
use Rattle.std.specs.Result.{result_ok}
use Rattle.check_answers.specs.Types.{Event, Key, Made, Record, Reply}
use Rattle.sdb_record.specs.Coordinator.{decision_in, is_coordinator_table}
use Rattle.sdb_record.specs.Meta.{checked}
use Rattle.sdb_model.specs.Calls as calls
use Rattle.sdb_model.specs.Calls.{calls_of, records_observed}
use Rattle.sdb_model.specs.Causes.{FindsBad, HasReply, IsBad}
use Rattle.sdb_model.specs.Transactions.{Executed}
use Rattle.check_protocol.proofs.Public.{any_some, right, some_any}
use Rattle.check_tables.specs.Values.{all_made, made_of}
use Rattle.check_answers.specs.Tests.{is_bad, observes_bad}
use Rattle.check_answers.proofs.Finds.{in_contains, contains_in, made_contained, contained_made}
use Rattle.sdb_types.proofs.Public.{and_both as both, and_first as left, clash, same_key_exact, same_key_of}
use Rattle.sdb_types.specs.Order.{same_key}

err_is : {A : Type 0} (x : Result A (List ℕ)) → is_none (result_ok x) ≡ true → (name : List ℕ) × (x ≡ Err name)
err_is (Ok a) h = clash (sym h)
err_is (Err name) h = (name, refl)

is_err : {A : Type 0} (x : Result A (List ℕ)) (name : List ℕ) → x ≡ Err name → is_none (result_ok x) ≡ true
is_err x name e = ap (λ y. is_none (result_ok y)) e

bad_is : (r : Record) → is_bad r ≡ true → IsBad r
bad_is r h = by (is_coordinator_table r.key.table) h
  where
    by : (b : Bool) → (if b then is_none (result_ok (decision_in r)) else is_none (result_ok (checked r.columns))) ≡ true → (name : List ℕ) × MatchBool b (decision_in r ≡ Err name) (checked r.columns ≡ Err name)
    by true h = err_is (decision_in r) h
    by false h = err_is (checked r.columns) h

is_bad_of : (r : Record) → IsBad r → is_bad r ≡ true
is_bad_of r (name, m) = by (is_coordinator_table r.key.table) m
  where
    by : (b : Bool) → MatchBool b (decision_in r ≡ Err name) (checked r.columns ≡ Err name) → (if b then is_none (result_ok (decision_in r)) else is_none (result_ok (checked r.columns))) ≡ true
    by true e = is_err (decision_in r) name e
    by false e = is_err (checked r.columns) name e

module _ (events : List Event) (ms : List Made) (client : ℕ) (s : Executed) (e : all_made ms ≡ calls_of events client s) (key : Key) where
  abbrev here : Record → Bool
  here x = same_key x.key key && is_bad x

  pub finds_is : list_any (observes_bad key) ms ≡ true → FindsBad events client s key
  finds_is h =
      let m = any_some (observes_bad key) ms h in
      let r = any_some here (records_observed m.0.reply) m.2 in (
        made_of m.0,
        r.0,
        subst (λ cs. Contains cs (made_of m.0)) e (made_contained ms m.0 m.1),
        in_contains (records_observed m.0.reply) r.0 r.1,
        same_key_exact r.0.key key (left (same_key r.0.key key) (is_bad r.0) r.2),
        bad_is r.0 (right (same_key r.0.key key) (is_bad r.0) r.2),
      )

  pub is_finds : FindsBad events client s key → list_any (observes_bad key) ms ≡ true
  is_finds (c, r, k, observed, at, bad) =
      let m = contained_made ms c (subst (λ cs. Contains cs c) (sym e) k) in
      some_any (observes_bad key) ms m.0 m.1
      (some_any here (records_observed m.0.reply) r (contains_in (records_observed m.0.reply) r (subst (λ (x : calls.StoreCall). Contains (records_observed x.reply) r) m.2 observed))
      (both (same_key r.key key) (is_bad r) (same_key_of r.key key at) (is_bad_of r bad)))

module _ (events : List Event) (ms : List Made) (client : ℕ) (s : Executed) (e : all_made ms ≡ calls_of events client s) where
  pub reply_is : (is : Reply → Bool) → list_any (λ (m : Made). is m.reply) ms ≡ true → HasReply is (calls_of events client s)
  reply_is is h =
      let m = any_some (λ (x : Made). is x.reply) ms h in
      (made_of m.0, subst (λ cs. Contains cs (made_of m.0)) e (made_contained ms m.0 m.1), m.2)

  pub is_reply : (is : Reply → Bool) → HasReply is (calls_of events client s) → list_any (λ (m : Made). is m.reply) ms ≡ true
  is_reply is (c, k, h) =
      let m = contained_made ms c (subst (λ cs. Contains cs c) (sym e) k) in
      some_any (λ (x : Made). is x.reply) ms m.0 m.1 (sym (ap (λ (x : calls.StoreCall). is x.reply) m.2) ∙ h)
