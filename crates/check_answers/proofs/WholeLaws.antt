-- It is so of all transactions where it is so of those of each client that takes a statement.
use Rattle.std.proofs.Common.{◌≡◌, ℕ, zero, suc, ◌-◌, ◌<◌, Bool, true, false, List, [], length, Option, Some, None, ◌⊎◌, inl, inr, refl, sym, ap, subst, ◌∙◌, arith}
use Rattle.std.specs.Prelude.{◌↔◌, Contains, IfSome, IsTrue}
use Rattle.check_answers.specs.Types.{Event, Table, TxId}
use Rattle.sdb_model.specs.DirtyReads.{NoDirtyReads}
use Rattle.sdb_model.specs.Transactions.{client_of, from_begin, id_of, ordinal_of, rest_of, statements_by, through_end}
use Rattle.check_tables.specs.Values.{taker}
use Rattle.check_answers.proofs.CausedLaws.{all_in, by_in}
use Rattle.check_answers.proofs.Decided.{never}
use Rattle.check_answers.proofs.Finds.{contains_in}
use Rattle.check_answers.proofs.IdLaws.{some_from}
use Rattle.sdb_model.proofs.Public.{id_again}
use Rattle.check_answers.proofs.TurnedLaws.{taken_by}
use Rattle.check_answers.specs.declared.stores.Stores.{Stores}
use Rattle.check_answers.specs.All.{HaveNoDirtyReadsUpto, HaveClientsNoDirtyReads, HasClientNoDirtyReads, HasTransactionNoDirtyReads}
use Rattle.check_answers.specs.Values.{all_moments, all_contents}
use Rattle.check_answers.proofs.Members.{last_or_less}

none_begun : (k : ℕ) → from_begin k [] ≡ []
none_begun zero = refl
none_begun (suc k) = refl

module _ (catalog : List Table) (events : List Event) (x : Stores) where
  upto_is : (client n j : ℕ) → j < n → HaveNoDirtyReadsUpto catalog events x client n → HasTransactionNoDirtyReads catalog events x (id_of client (suc j))
  upto_is client zero j l w = absurd (omega (arith, l))
  upto_is client (suc n) j l w = by (last_or_less j n l) (λ k. upto_is client n j k w.1)
    where
      by : (j ≡ n) ⊎ (j < n) → (j < n → HasTransactionNoDirtyReads catalog events x (id_of client (suc j))) → HasTransactionNoDirtyReads catalog events x (id_of client (suc j))
      by (inl e) more = subst (λ i. HasTransactionNoDirtyReads catalog events x (id_of client (suc i))) (sym e) w.0
      by (inr k) more = more k

  pub shown_of : HaveClientsNoDirtyReads catalog events x events → NoDirtyReads catalog x.places events (all_contents x.opening) (all_moments x.moments)
  shown_of all id s a k e =
      let begun : from_begin (ordinal_of id) (statements_by (client_of id) events) ≡ [] → ⊥ = λ none. contains_in [] s (subst (λ ss. Contains (through_end (rest_of ss)) s) none k) in
      let t = taken_by (client_of id) events (λ none. begun (ap (from_begin (ordinal_of id)) none ∙ none_begun (ordinal_of id))) in
      let w : HasClientNoDirtyReads catalog events x (client_of id) = subst (λ o. IfSome o (HasClientNoDirtyReads catalog events x)) t.2 (by_in (λ f. IfSome (taker f) (HasClientNoDirtyReads catalog events x)) events t.0 all t.1) in
      let r = some_from (ordinal_of id) (statements_by (client_of id) events) begun in
      let own : HasTransactionNoDirtyReads catalog events x (id_of (client_of id) (suc r.0)) = upto_is (client_of id) (length (statements_by (client_of id) events)) r.0 r.2 w in
      subst (HasTransactionNoDirtyReads catalog events x) (ap (id_of (client_of id)) (sym r.1) ∙ id_again id) own s a k e

  pub of_shown : NoDirtyReads catalog x.places events (all_contents x.opening) (all_moments x.moments) → HaveClientsNoDirtyReads catalog events x events
  of_shown own = all_in (λ f. IfSome (taker f) (HasClientNoDirtyReads catalog events x)) events (λ f i. by (taker f))
    where
      upto : (client n : ℕ) → HaveNoDirtyReadsUpto catalog events x client n
      upto client zero = tt
      upto client (suc n) = ((λ s a k e. own (id_of client (suc n)) s a k e), upto client n)

      by : (o : Option ℕ) → IfSome o (HasClientNoDirtyReads catalog events x)
      by None = tt
      by (Some client) = upto client (length (statements_by client events))

---- the transactions of a client

module _ (catalog : List Table) (events : List Event) (x : Stores) (client n : ℕ) where
  pub none_upto : n ≡ 0 → IsTrue true ↔ HaveNoDirtyReadsUpto catalog events x client n
  none_upto e = (λ h. subst (HaveNoDirtyReadsUpto catalog events x client) (sym e) tt, λ a. refl)

  module _ (id : TxId) (b : Bool) (some : n ≡ 0 → ⊥) (here : id ≡ id_of client n) (is : IsTrue b ↔ HasTransactionNoDirtyReads catalog events x id) where
    pub not_upto : b ≡ false → IsTrue false ↔ HaveNoDirtyReadsUpto catalog events x client n
    not_upto f = never (λ a. sym f ∙ is.1 (by n some here a))
      where
        by : (m : ℕ) → (m ≡ 0 → ⊥) → id ≡ id_of client m → HaveNoDirtyReadsUpto catalog events x client m → HasTransactionNoDirtyReads catalog events x id
        by zero z h a = absurd (z refl)
        by (suc m) z h a = subst (HasTransactionNoDirtyReads catalog events x) (sym h) a.0

    pub rest_upto : b ≡ true → (c : Bool) → IsTrue c ↔ HaveNoDirtyReadsUpto catalog events x client (n - 1) → IsTrue c ↔ HaveNoDirtyReadsUpto catalog events x client n
    rest_upto t c r = by n some here r
      where
        by : (m : ℕ) → (m ≡ 0 → ⊥) → id ≡ id_of client m → IsTrue c ↔ HaveNoDirtyReadsUpto catalog events x client (m - 1) → IsTrue c ↔ HaveNoDirtyReadsUpto catalog events x client m
        by zero z h q = absurd (z refl)
        by (suc m) z h q = let e : suc m - 1 ≡ m = omega arith in (λ g. (subst (HasTransactionNoDirtyReads catalog events x) h (is.0 t), subst (HaveNoDirtyReadsUpto catalog events x client) e (q.0 g)), λ a. q.1 (subst (HaveNoDirtyReadsUpto catalog events x client) (sym e) a.1))
