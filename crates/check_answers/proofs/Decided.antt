-- Each test decides its cause.
use Rattle.std.proofs.Common.{◌≡◌, ℕ, suc, ℤ, Bool, true, false, List, [], ◌∷◌, length, Option, ◌⊎◌, inl, inr, refl, sym, ap, ◌∙◌}
use Rattle.std.specs.Prelude.{◌↔◌, IfOk, IsTrue, Result, Ok, Err}
use Rattle.std.specs.List.{list_any}
use Rattle.check_answers.specs.Types.{Event, Key, Made, Record, Reply, TxId}
use Rattle.sdb_record.specs.Coordinator.{coordinator_key_of}
use Rattle.sdb_model.specs.Calls.{calls_of}
use Rattle.sdb_model.specs.Causes.{FindsBad, HasReply, IsBusy, IsConflict, IsExpired, IsOfCommit, IsUnknown}
use Rattle.sdb_model.specs.Transactions.{Executed, id_of, statements_by}
use Rattle.sdb_contents.specs.declared.executed.Executed.{Executed as Plain}
use Rattle.sdb_contents.specs.Commits.{all_executed}
use Rattle.check_tables.specs.Values.{all_made}
use Rattle.check_answers.specs.Tests.{any_upto, busy_among, commits_as, conflict_of, expired_among, is_commit_of, observes_bad, unknown_among}
use Rattle.check_answers.proofs.BusyLaws.{busy_is, is_busy_of}
use Rattle.check_answers.proofs.CommitLaws.{of_commit_is, is_of_commit, expired_is, is_expired_of, unknown_is, is_unknown_of}
use Rattle.check_answers.proofs.ConflictLaws.{conflict_is, is_conflict_of}
use Rattle.check_answers.proofs.IdLaws.{commit_is, is_commit}
use Rattle.check_answers.proofs.PlainLaws.{finds_is, is_finds, reply_is, is_reply}
use Rattle.sdb_types.proofs.Public.{clash}
use Rattle.check_protocol.proofs.Public.{not_both}

pub decide_by : {P : Type 0} (b t : Bool) → b ≡ t → (t ≡ true → P) → (P → t ≡ true) → IsTrue b ↔ P
decide_by b t e f g = (λ h. f (sym e ∙ h), λ p. e ∙ g p)

pub if_ok : {T E : Type 0} {P Q : T → Type 0} (r : Result T E) → ((b : T) → P b → Q b) → IfOk r P → IfOk r Q
if_ok (Ok b) f h = f b h
if_ok (Err e) f h = tt

pub count_said : (all : List Plain) (ss : List Executed) → all_executed all ≡ ss → length all ≡ length ss
count_said all ss e = counted all ∙ ap length e
  where
    counted : (xs : List Plain) → length xs ≡ length (all_executed xs)
    counted [] = refl
    counted (x ∷ xs) = ap suc (counted xs)

-- the first of two causes is found, or only the second is looked for
pub first_found : {P Q : Type 0} (b : Bool) → b ≡ true → IsTrue b ↔ P → IsTrue true ↔ (P ⊎ Q)
first_found b e h = (λ t. inl (h.0 e), λ x. refl)

pub second_sought : {P Q : Type 0} (b c : Bool) → b ≡ false → IsTrue b ↔ P → IsTrue c ↔ Q → IsTrue c ↔ (P ⊎ Q)
second_sought b c e h k = (λ t. inr (k.0 t), λ x. elim x [ inl p ↦ not_both b (h.1 p) e | inr q ↦ k.1 q ])

pub never : {P : Type 0} → (P → false ≡ true) → IsTrue false ↔ P
never g = (λ h. clash (sym h), g)

module _ (events : List Event) (client : ℕ) (s : Executed) where
  pub busy : (b : Bool) (ms : List Made) (key row : Key) (id : TxId) (at : ℤ) → all_made ms ≡ calls_of events client s → row ≡ coordinator_key_of id → b ≡ busy_among events ms key id row at → IsTrue b ↔ IsBusy events client s key id at
  busy b ms key row id at e r f =
      decide_by b (busy_among events ms key id (coordinator_key_of id) at) (f ∙ ap (λ x. busy_among events ms key id x at) r) (busy_is events ms id at client s key e) (is_busy_of events ms id at client s key e)

  pub conflict : (b : Bool) (ms : List Made) (key : Key) (found : Option Record) (n : ℕ) → all_made ms ≡ calls_of events client s → n ≡ length (statements_by client events) → b ≡ any_upto (λ k. conflict_of events client s ms key found (id_of client k)) n → IsTrue b ↔ IsConflict events client s key found
  conflict b ms key found n e l f =
      decide_by b (any_upto (λ k. conflict_of events client s ms key found (id_of client k)) (length (statements_by client events))) (f ∙ ap (any_upto (λ k. conflict_of events client s ms key found (id_of client k))) l) (conflict_is events ms client s e key found) (is_conflict_of events ms client s e key found)

  pub of_commit : (b : Bool) (ms : List Made) (n : ℕ) → all_made ms ≡ calls_of events client s → n ≡ length (statements_by client events) → b ≡ any_upto (λ k. commits_as events client s ms (id_of client k)) n → IsTrue b ↔ IsOfCommit events client s
  of_commit b ms n e l f = decide_by b (any_upto (λ k. commits_as events client s ms (id_of client k)) (length (statements_by client events))) (f ∙ ap (any_upto (λ k. commits_as events client s ms (id_of client k))) l) (of_commit_is events ms client s e) (is_of_commit events ms client s e)

  pub expired : (b c : Bool) (ms : List Made) (row : Key) (id : TxId) → all_made ms ≡ calls_of events client s → row ≡ coordinator_key_of id → c ≡ is_commit_of events client s id → c ≡ true → b ≡ expired_among ms row → IsTrue b ↔ IsExpired events client s id
  expired b c ms row id e r k t f =
      decide_by b (expired_among ms (coordinator_key_of id)) (f ∙ ap (expired_among ms) r) (expired_is events ms id client s e (commit_is events client s id (sym k ∙ t))) (is_expired_of events ms id client s e)

  pub not_expired : (c : Bool) (id : TxId) → c ≡ is_commit_of events client s id → c ≡ false → IsTrue false ↔ IsExpired events client s id
  not_expired c id k t = never (λ x. sym (sym (is_commit events client s id x.commit) ∙ sym k ∙ t))

  pub unknown : (b c : Bool) (ms : List Made) (row : Key) (id : TxId) → all_made ms ≡ calls_of events client s → row ≡ coordinator_key_of id → c ≡ is_commit_of events client s id → c ≡ true → b ≡ unknown_among ms row → IsTrue b ↔ IsUnknown events client s id
  unknown b c ms row id e r k t f =
      decide_by b (unknown_among ms (coordinator_key_of id)) (f ∙ ap (unknown_among ms) r) (unknown_is events ms id client s e (commit_is events client s id (sym k ∙ t))) (is_unknown_of events ms id client s e)

  pub not_unknown : (c : Bool) (id : TxId) → c ≡ is_commit_of events client s id → c ≡ false → IsTrue false ↔ IsUnknown events client s id
  not_unknown c id k t = never (λ x. sym (sym (is_commit events client s id x.commit) ∙ sym k ∙ t))

  pub bad_found : (b : Bool) (ms : List Made) (key : Key) → all_made ms ≡ calls_of events client s → b ≡ list_any (observes_bad key) ms → IsTrue b ↔ FindsBad events client s key
  bad_found b ms key e f = decide_by b (list_any (observes_bad key) ms) f (finds_is events ms client s e key) (is_finds events ms client s e key)

  pub replied : (b : Bool) (ms : List Made) (is : Reply → Bool) → all_made ms ≡ calls_of events client s → b ≡ list_any (λ (m : Made). is m.reply) ms → IsTrue b ↔ HasReply is (calls_of events client s)
  replied b ms is e f = decide_by b (list_any (λ (m : Made). is m.reply) ms) f (reply_is events ms client s e is) (is_reply events ms client s e is)
