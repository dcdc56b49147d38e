-- It is so of all statements where it is so of those of each client that takes one.
use Rattle.std.proofs.Common.{◌≡◌, ℕ, zero, suc, Bool, true, false, List, [], ◌∷◌, Option, Some, None, ◌⊎◌, inr, refl, subst}
use Rattle.std.specs.Prelude.{◌==◌, Contains, find, if◌then◌else◌}
use Rattle.check_answers.specs.Types.{Event, Table, TxId}
use Rattle.sdb_model.specs.Counted.{AreCounted, AreResolved}
use Rattle.sdb_model.specs.Sql.{reads_commit}
use Rattle.sdb_model.specs.Transactions.{Executed, begins, client_of, commit_of, ends, from_begin, ordinal_of, rest_of, statements_by}
use Rattle.check_protocol.proofs.Public.{found_in, In, none_some}
use Rattle.check_answers.proofs.CausedLaws.{each_said, said_each}
use Rattle.check_answers.proofs.Finds.{in_contains}
use Rattle.check_answers.specs.declared.all.Law.TheVariants as law
use Rattle.check_answers.specs.Counts.{IsExecutedCounted, IsExecutedResolved}
use Rattle.check_answers.specs.OfClients.{HoldsOfClients}
use Rattle.sdb_types.proofs.Public.{some_is}

-- the COMMIT of a transaction is a statement of its client
in_begin : (k : ℕ) (ss : List Executed) (s : Executed) → In (from_begin k ss) s → In ss s
in_begin zero ss s i = absurd i
in_begin (suc k) [] s i = absurd i
in_begin (suc k) (x ∷ ss) s i = by (begins x) (k == 0) i (λ j. in_begin k ss s j) (λ j. in_begin (suc k) ss s j)
  where
    by : (b z : Bool) → In (if b then (if z then x ∷ ss else from_begin k ss) else from_begin (suc k) ss) s → (In (from_begin k ss) s → In ss s) → (In (from_begin (suc k) ss) s → In ss s) → (s ≡ x) ⊎ In ss s
    by true true j f g = j
    by true false j f g = inr (f j)
    by false z j f g = inr (g j)

in_rest : (ss : List Executed) (s : Executed) → In (rest_of ss) s → In ss s
in_rest [] s i = i
in_rest (x ∷ ss) s i = inr i

commit_in : (events : List Event) (id : TxId) (s : Executed) → commit_of events id ≡ Some s → Contains (statements_by (client_of id) events) s
commit_in events id s e = in_contains (statements_by (client_of id) events) s (in_begin (ordinal_of id) (statements_by (client_of id) events) s (in_rest (from_begin (ordinal_of id) (statements_by (client_of id) events)) s (by (find ends (rest_of (from_begin (ordinal_of id) (statements_by (client_of id) events)))) refl e)))
  where
    commit_from : Option Executed → Option Executed
    commit_from None = None
    commit_from (Some x) = if reads_commit x.text then Some x else None

    since : List Executed
    since = rest_of (from_begin (ordinal_of id) (statements_by (client_of id) events))

    kept : (x : Executed) (b : Bool) → (if b then Some x else None) ≡ Some s → x ≡ s
    kept x true h = some_is x s h
    kept x false h = none_some h

    by : (o : Option Executed) → find ends since ≡ o → commit_from o ≡ Some s → In since s
    by None f h = none_some h
    by (Some x) f h = subst (In since) (kept x (reads_commit x.text) h) (found_in ends since x f).0

module _ (catalog : List Table) (events : List Event) where
  pub counted_of : HoldsOfClients law.Counts catalog events events → AreCounted catalog events
  counted_of all = record {
    commits = λ id s e. (each_said events (IsExecutedCounted catalog events) all (client_of id) s (commit_in events id s e)).commits id (refl, e);
    reads = λ client s k c v. (each_said events (IsExecutedCounted catalog events) all client s k).reads c v;
    vacuums = λ client s k v. (each_said events (IsExecutedCounted catalog events) all client s k).vacuums v;
  }

  pub of_counted : AreCounted catalog events → HoldsOfClients law.Counts catalog events events
  of_counted c = said_each events (IsExecutedCounted catalog events) (λ client s k. record {
    commits = λ id o. subst (λ n. Rattle.sdb_model.specs.Counted.IsCommitCounted events id s (Rattle.sdb_model.specs.Calls.calls_of events n s)) o.0 (c.commits id s o.1);
    reads = λ x v. c.reads client s k x v;
    vacuums = λ v. c.vacuums client s k v;
  })

  pub resolved_of : HoldsOfClients law.Rolls catalog events events → AreResolved events
  resolved_of all client s m r k y i t j u = (each_said events (IsExecutedResolved events) all client s k).records m r y i t j u

  pub of_resolved : AreResolved events → HoldsOfClients law.Rolls catalog events events
  of_resolved f = said_each events (IsExecutedResolved events) (λ client s k. record { records = λ m r y i t j u. f client s m r k y i t j u })
