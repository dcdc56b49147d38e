-- All answers have their causes where those of each client that takes a statement have.
use Rattle.std.proofs.Common.{◌≡◌, ℕ, Bool, true, false, List, [], ◌∷◌, Option, Some, None, ◌⊎◌, inl, inr, refl, sym, ap, ◌∙◌, subst}
use Rattle.std.specs.Prelude.{◌↔◌, ◌==◌, ◌||◌, Contains, IfSome, IsTrue}
use Rattle.std.specs.List.{AllByRecursion}
use Rattle.std.specs.Option.{option_map_or}
use Rattle.check_answers.specs.Types.{Answer, Event, Table}
use Rattle.sdb_model.specs.declared.answer.Answer.TheVariants as answer
use Rattle.sdb_model.specs.Causes.{AreCaused, IsRejected, before}
use Rattle.sdb_model.specs.Transactions.{Executed, statements_by}
use Rattle.check_protocol.proofs.Public.{In, is_number, none_some, number_is, right}
use Rattle.check_tables.specs.Values.{taker}
use Rattle.check_answers.specs.Tests.{IsAnsweredWith, IsTurned, IsTurnedIfDue, answered_with, same_answer, AreTakersWell, IsWellAnswered}
use Rattle.sdb_client.specs.Client.{is_out_of_memory}
use Rattle.check_answers.proofs.Finds.{in_contains, contains_in}
use Rattle.check_answers.proofs.SameLaws.{answer_is, is_answer}
use Rattle.check_answers.proofs.TurnedLaws.{taken_by}
use Rattle.sdb_types.proofs.Public.{and_both as both, and_first as left, clash, either, or_second as or_right, some_is}

pub by_in : {X : Type 0} (P : X → Type 0) (xs : List X) (x : X) → AllByRecursion P xs → In xs x → P x
by_in P [] x all i = absurd i
by_in P (y ∷ ys) x all (inl e) = subst P (sym e) all.0
by_in P (y ∷ ys) x all (inr i) = by_in P ys x all.1 i

pub all_in : {X : Type 0} (P : X → Type 0) (xs : List X) → ((x : X) → In xs x → P x) → AllByRecursion P xs
all_in P [] h = tt
all_in P (y ∷ ys) h = (h y (inl refl), all_in P ys (λ x i. h x (inr i)))

-- what is so of the statements of each client that takes one is so of all
pub each_said : (events : List Event) (P : ℕ → Executed → Type 0) → AllByRecursion (λ e. IfSome (taker e) (λ c. AllByRecursion (P c) (statements_by c events))) events → (client : ℕ) (s : Executed) → Contains (statements_by client events) s → P client s
each_said events P all client s k =
    let i = contains_in (statements_by client events) s k in
    let t = taken_by client events (λ e. subst (λ ss. In ss s) e i) in
    let w : AllByRecursion (P client) (statements_by client events) = subst (λ o. IfSome o (λ c. AllByRecursion (P c) (statements_by c events))) t.2 (by_in (λ e. IfSome (taker e) (λ c. AllByRecursion (P c) (statements_by c events))) events t.0 all t.1) in
    by_in (P client) (statements_by client events) s w i

pub said_each : (events : List Event) (P : ℕ → Executed → Type 0) → ((client : ℕ) (s : Executed) → Contains (statements_by client events) s → P client s) → AllByRecursion (λ e. IfSome (taker e) (λ c. AllByRecursion (P c) (statements_by c events))) events
said_each events P f = all_in (λ e. IfSome (taker e) (λ c. AllByRecursion (P c) (statements_by c events))) events (λ e i. by (taker e))
  where
    by : (o : Option ℕ) → IfSome o (λ c. AllByRecursion (P c) (statements_by c events))
    by None = tt
    by (Some client) = all_in (P client) (statements_by client events) (λ s i. f client s (in_contains (statements_by client events) s i))

module _ (catalog : List Table) (events : List Event) where
  pub caused_of : AreTakersWell catalog events events → AreCaused catalog events
  caused_of all = record {
    caused = λ client s a k e. (each_said events (IsWellAnswered catalog events) all client s k).0 a e;
    rejected = λ client s a k t. (each_said events (IsWellAnswered catalog events) all client s k).1 a t;
  }

  pub of_caused : AreCaused catalog events → AreTakersWell catalog events events
  of_caused c = said_each events (IsWellAnswered catalog events) (λ client s k. (λ a e. c.caused client s a k e, λ a t. c.rejected client s a k t))

no_memory_is : (a : Answer) → is_out_of_memory a ≡ true → a ≡ answer.NoMemory
no_memory_is (answer.Rows rows) h = clash (sym h)
no_memory_is (answer.Count n) h = clash (sym h)
no_memory_is answer.Done h = clash (sym h)
no_memory_is answer.Committed h = clash (sym h)
no_memory_is (answer.Duplicate key) h = clash (sym h)
no_memory_is (answer.Busy key id at) h = clash (sym h)
no_memory_is (answer.Conflict key found) h = clash (sym h)
no_memory_is (answer.Expired id) h = clash (sym h)
no_memory_is answer.Faulted h = clash (sym h)
no_memory_is (answer.Unknown id) h = clash (sym h)
no_memory_is (answer.BadRecord key) h = clash (sym h)
no_memory_is (answer.Refused r) h = clash (sym h)
no_memory_is answer.Vacuuming h = clash (sym h)
no_memory_is answer.OpenTransactions h = clash (sym h)
no_memory_is answer.NoMemory h = refl

answered_is : (s : Executed) (a : Answer) → answered_with s a ≡ true → IsAnsweredWith s a
answered_is s a h = (number_is s.reached s.accepted (left (s.reached == s.accepted) rest h), by s.answer refl (right (s.reached == s.accepted) rest h))
  where
    rest : Bool
    rest = option_map_or (λ x. is_out_of_memory x || same_answer x a) s.answer false

    by : (o : Option Answer) → s.answer ≡ o → option_map_or (λ x. is_out_of_memory x || same_answer x a) o false ≡ true → (s.answer ≡ Some a) ⊎ (s.answer ≡ Some answer.NoMemory)
    by None e h = clash (sym h)
    by (Some x) e h = elim (either (is_out_of_memory x) (same_answer x a) h) [ inl n ↦ inr (e ∙ ap Some (no_memory_is x n)) | inr k ↦ inl (e ∙ ap Some (answer_is x a k)) ]

is_answered_of : (s : Executed) (a : Answer) → IsAnsweredWith s a → answered_with s a ≡ true
is_answered_of s a (t, w) = both (s.reached == s.accepted) (option_map_or (λ x. is_out_of_memory x || same_answer x a) s.answer false) (is_number s.reached s.accepted t) (by w)
  where
    by : (s.answer ≡ Some a) ⊎ (s.answer ≡ Some answer.NoMemory) → option_map_or (λ x. is_out_of_memory x || same_answer x a) s.answer false ≡ true
    by (inl e) = ap (λ o. option_map_or (λ x. is_out_of_memory x || same_answer x a) o false) e ∙ or_right (is_out_of_memory a) (same_answer a a) (is_answer a a refl)
    by (inr e) = ap (λ o. option_map_or (λ x. is_out_of_memory x || same_answer x a) o false) e

module _ (catalog : List Table) (events : List Event) (client : ℕ) (s : Executed) (o : Option Answer) (turned : IsTurned catalog (before s events) client s.text o) where
  pub due : (b : Bool) (t : Answer) → o ≡ Some t → b ≡ answered_with s t → IsTrue b ↔ IsTurnedIfDue catalog events client s
  due b t e f = (
    λ h a k. subst (IsAnsweredWith s) (some_is t a (sym e ∙ (turned a).0 k)) (answered_is s t (sym f ∙ h)),
    λ d. f ∙ is_answered_of s t (d t ((turned t).1 e)),
  )

  pub not_due : o ≡ None → IsTrue true ↔ IsTurnedIfDue catalog events client s
  not_due e = (λ h a k. none_some (sym e ∙ (turned a).0 k), λ d. refl)

  pub with_answer : (b : Bool) (t a : Answer) → o ≡ Some t → b ≡ same_answer t a → IsTrue b ↔ IsRejected catalog (before s events) client s.text a
  with_answer b t a e f = (
    λ h. (turned a).1 (e ∙ ap Some (answer_is t a (sym f ∙ h))),
    λ k. f ∙ is_answer t a (some_is t a (sym e ∙ (turned a).0 k)),
  )

  pub without : (a : Answer) → o ≡ None → IsTrue false ↔ IsRejected catalog (before s events) client s.text a
  without a e = (λ h. clash (sym h), λ k. none_some (sym e ∙ (turned a).0 k))
