-- When the COMMITs of a client's transactions were accepted.
use Rattle.std.proofs.Common.{◌≡◌, ℕ, zero, suc, Bool, true, false, List, [], ◌∷◌, Option, Some, None, refl, sym, ap, ◌∙◌, arith}
use Rattle.std.specs.Prelude.{◌==◌, if◌then◌else◌, find, unwrap_or}
use Rattle.std.specs.Option.{option_and_then, option_map_or}
use Rattle.std.proofs.lemmas.Bool.Decides.{nat_tests}
use Rattle.sdb_contents.specs.Types.{Event, TxId}
use Rattle.sdb_model.specs.Sql.{reads_commit}
use Rattle.sdb_model.specs.Transactions.{Executed as SaidOf, begins, client_of, commit_of, ends, from_begin, last_prepare, ordinal_of, point, rest_of, statements_by}
use Rattle.sdb_contents.specs.Commits.{commit_at, commits_of, first_commit}

---- what ends a transaction

-- the event that took the COMMIT by which it ends, as the definitions have it
abbrev ended_by : Option SaidOf → ℕ
ended_by o = option_map_or (λ (s : SaidOf). s.accepted) (option_and_then (λ (s : SaidOf). if reads_commit s.text then Some s else None) o) 0

ended_is : (ss : List SaidOf) → ended_by (find ends ss) ≡ first_commit ss
unfolding first_commit
ended_is [] = refl
ended_is (s ∷ ss) = by (ended_is ss) (ends s)
  where
    commit : (c : Bool) → option_map_or (λ (s : SaidOf). s.accepted) (if c then Some s else None) 0 ≡ (if c then s.accepted else 0)
    commit true = refl
    commit false = refl

    by : ended_by (find ends ss) ≡ first_commit ss → (b : Bool) → ended_by (if b then Some s else find ends ss) ≡ (if b then (if reads_commit s.text then s.accepted else 0) else first_commit ss)
    by rest true = commit (reads_commit s.text)
    by rest false = rest

---- the transactions of a client

since_is : (k : ℕ) (ss : List SaidOf) → ended_by (find ends (rest_of (from_begin k ss))) ≡ commit_at k (commits_of ss)
unfolding commits_of
since_is zero ss = refl
since_is (suc k) [] = refl
since_is (suc k) (s ∷ ss) = by k (begins s) (λ j. since_is j ss)
  where
    tail : ((j : ℕ) → ended_by (find ends (rest_of (from_begin j ss))) ≡ commit_at j (commits_of ss)) → (k : ℕ) (t : Bool) → (k == 0) ≡ t → ended_by (find ends (rest_of (if t then s ∷ ss else from_begin k ss))) ≡ commit_at (suc k) (first_commit ss ∷ commits_of ss)
    tail rest zero true e = ended_is ss
    tail rest zero false e = absurd (differs (sym e))
      where
        differs : false ≡ true → ⊥
        differs e = absurd (cc)
    tail rest (suc k) true e = absurd (differs k e)
      where
        differs : (k : ℕ) → (suc k == 0) ≡ true → ⊥
        differs k e = grind (arith, nat_tests)
    tail rest (suc k) false e = rest (suc k)

    by : (k : ℕ) (b : Bool) → ((j : ℕ) → ended_by (find ends (rest_of (from_begin j ss))) ≡ commit_at j (commits_of ss)) → ended_by (find ends (rest_of (if b then (if k == 0 then s ∷ ss else from_begin k ss) else from_begin (suc k) ss))) ≡ commit_at (suc k) (if b then first_commit ss ∷ commits_of ss else commits_of ss)
    by k true rest = tail rest k (k == 0) refl
    by k false rest = rest (suc k)

-- the event that took a transaction's COMMIT, and 0 where it has none
pub commit_is : (events : List Event) (id : TxId) → option_map_or (λ (s : SaidOf). s.accepted) (commit_of events id) 0 ≡ commit_at (ordinal_of id) (commits_of (statements_by (client_of id) events))
commit_is events id = since_is (ordinal_of id) (statements_by (client_of id) events)

-- a transaction without a prepare has its point there
pub read_only : (events : List Event) (id : TxId) → last_prepare events id ≡ None → commit_at (ordinal_of id) (commits_of (statements_by (client_of id) events)) ≡ point events id
read_only events id none = sym (ap (λ o. unwrap_or o (option_map_or (λ (s : SaidOf). s.accepted) (commit_of events id) 0)) none ∙ commit_is events id)
