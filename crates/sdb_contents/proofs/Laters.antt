-- A client's statements, as its events are read from the last.
use Rattle.std.proofs.Common.{◌≡◌, ℕ, ◌+◌, Bool, true, false, List, [], ◌∷◌, ◌++◌, length, drop, Option, Some, None, refl, sym, ap, ◌∙◌, arith, append_assoc}
use Rattle.std.specs.Prelude.{◌==◌, ◌&&◌, ◌||◌, if◌then◌else◌, fold, reverse}
use Rattle.std.specs.Option.{option_map}
use Rattle.std.specs.List.{enumerate_from}
use Rattle.std.proofs.lemmas.List.{append-nil, drop_all, reverse-append, reverse-reverse}
use Rattle.sdb_model.specs.declared.answer.Answer.{Answer}
use Rattle.sdb_model.specs.declared.answer.Answer.TheVariants as answer
use Rattle.sdb_model.specs.declared.event.Event.TheVariants as event
use Rattle.sdb_model.specs.Sql.{reads_begin, reads_commit, reads_rollback}
use Rattle.sdb_model.specs.Transactions.{Executed as SaidOf, begins, is_conflict as is_conflict_of, is_done as is_done_of, numbered, statements_after, statements_by, with_answer}
use Rattle.sdb_contents.specs.Types.{Event}
use Rattle.sdb_contents.specs.declared.commits.Later.{Later}
use Rattle.sdb_contents.specs.declared.commits.Outcome.{Outcome}
use Rattle.sdb_contents.specs.Commits.{commits_of, first_commit, take_where}
use Rattle.sdb_contents.specs.Later.{IsLater, answer_before, begins_with, first_with, is_conflict, is_done, later_answer, later_statements, or_earlier, outcome_of, taken, with_later}

---- they are the client's statements

-- statements, the last of which is answered later
abbrev answered_by : Option (ℕ × Answer) → List SaidOf → List SaidOf
answered_by None ss = ss
answered_by (Some p) ss = with_answer ss p.0 p.1

with_last : (ss : List SaidOf) (s : SaidOf) (later : Option (ℕ × Answer)) → answered_by later (ss ++ s ∷ []) ≡ ss ++ with_later s later ∷ []
with_last ss s None = refl
with_last [] s (Some p) = refl
with_last (t ∷ []) s (Some p) = refl
with_last (t ∷ u ∷ us) s (Some p) = ap (λ xs. t ∷ xs) (with_last (u ∷ us) s (Some p))

twice : (ss : List SaidOf) (n : ℕ) (a : Answer) (m : ℕ) (b : Answer) → with_answer (with_answer ss n a) m b ≡ with_answer ss m b
twice [] n a m b = refl
twice (s ∷ []) n a m b = refl
twice (s ∷ t ∷ []) n a m b = refl
twice (s ∷ t ∷ u ∷ us) n a m b = ap (λ xs. s ∷ xs) (twice (t ∷ u ∷ us) n a m b)

one_event : (client : ℕ) (e : ℕ × Event) (later : Option (ℕ × Answer)) (rest ss : List SaidOf)
    → answered_by later (statements_after client ss e) ++ rest ≡ answered_by (answer_before client e later) ss ++ taken client e later rest
one_event client (n, event.Take c text answer) later rest ss = by (c == client)
  where
    by : (b : Bool) → answered_by later (if b then ss ++ record { accepted = n; text = text; answer = answer; reached = n } ∷ [] else ss) ++ rest
        ≡ answered_by (if b then None else later) ss ++ (if b then with_later (record { accepted = n; text = text; answer = answer; reached = n }) later ∷ rest else rest)
    by true = ap (λ xs. xs ++ rest) (with_last ss (record { accepted = n; text = text; answer = answer; reached = n }) later) ∙ append_assoc ss (with_later (record { accepted = n; text = text; answer = answer; reached = n }) later ∷ []) rest
    by false = refl
one_event client (n, event.Call c store q how r (Some a)) later rest ss = by (c == client) later
  where
    by : (b : Bool) (later : Option (ℕ × Answer)) → answered_by later (if b then with_answer ss n a else ss) ++ rest ≡ answered_by (if b then or_earlier later (Some (n, a)) else later) ss ++ rest
    by true None = refl
    by true (Some p) = ap (λ xs. xs ++ rest) (twice ss n a p.0 p.1)
    by false later = refl
one_event client (n, event.Call c store q how r None) later rest ss = refl
one_event client (n, event.Stop c) later rest ss = refl
one_event client (n, event.Clock t) later rest ss = refl
one_event client (n, event.Idle c) later rest ss = refl
one_event client (n, event.Land k store q how r) later rest ss = refl
one_event client (n, event.Alter table name kind altered) later rest ss = refl

all_events : (client : ℕ) (es : List (ℕ × Event)) (ss : List SaidOf) → fold (statements_after client) ss es ≡ answered_by (later_answer client es) ss ++ later_statements client es
all_events client [] ss = sym (append-nil ss)
all_events client (e ∷ es) ss = all_events client es (statements_after client ss e) ∙ one_event client e (later_answer client es) (later_statements client es) ss

statements_are : (client : ℕ) (events : List Event) → statements_by client events ≡ later_statements client (numbered events)
statements_are client events = all_events client (numbered events) [] ∙ ap (λ xs. xs ++ later_statements client (numbered events)) (nothing (later_answer client (numbered events)))
  where
    nothing : (later : Option (ℕ × Answer)) → answered_by later [] ≡ []
    nothing None = refl
    nothing (Some p) = refl

---- from no event to all

pub none_yet : (client : ℕ) (events : List Event) (later : Later) → later.commits.items ≡ [] → later.first ≡ 0 → later.outcome ≡ None → IsLater client (enumerate_from (length events + 1) (drop (length events) events)) later
unfolding commits_of first_commit
none_yet client events later commits first outcome = rw (drop_all (length events) events (omega arith)) record { commits = commits; first = first; outcome = outcome }

pub all_read : (client : ℕ) (events : List Event) (later : Later) → IsLater client (numbered events) later → reverse later.commits.items ≡ commits_of (statements_by client events)
all_read client events later is = ap reverse is.commits ∙ reverse-reverse (commits_of (later_statements client (numbered events))) ∙ ap commits_of (sym (statements_are client events))

---- one more event

done_is : (a : Option Answer) → is_done_of a ≡ is_done (option_map outcome_of a)
done_is None = refl
done_is (Some answer.Done) = refl
done_is (Some (answer.Conflict key found)) = refl
done_is (Some a) = refl

conflict_is : (a : Option Answer) → is_conflict_of a ≡ is_conflict (option_map outcome_of a)
conflict_is None = refl
conflict_is (Some answer.Done) = refl
conflict_is (Some (answer.Conflict key found)) = refl
conflict_is (Some a) = refl

begins_is : (s : SaidOf) → begins s ≡ begins_with s.text (option_map outcome_of s.answer)
begins_is s = ap (λ b. reads_begin s.text && b) (done_is s.answer)

first_is : (s : SaidOf) (later : ℕ) → take_where s later ≡ first_with s.accepted s.text (option_map outcome_of s.answer) later
first_is s later =
    ap (λ b. if reads_commit s.text || b || (reads_rollback s.text && is_done_of s.answer) then (if reads_commit s.text then s.accepted else 0) else later) (conflict_is s.answer)
    ∙ ap (λ b. if reads_commit s.text || is_conflict (option_map outcome_of s.answer) || (reads_rollback s.text && b) then (if reads_commit s.text then s.accepted else 0) else later) (done_is s.answer)

reverse_more : (s : SaidOf) (ss : List SaidOf) → (if begins s then reverse (commits_of ss) ++ first_commit ss ∷ [] else reverse (commits_of ss)) ≡ reverse (commits_of (s ∷ ss))
unfolding commits_of
reverse_more s ss = by (begins s)
  where
    by : (b : Bool) → (if b then reverse (commits_of ss) ++ first_commit ss ∷ [] else reverse (commits_of ss)) ≡ reverse (if b then first_commit ss ∷ commits_of ss else commits_of ss)
    by true = sym (reverse-append (first_commit ss ∷ []) (commits_of ss))
    by false = refl

first_more : (s : SaidOf) (ss : List SaidOf) → take_where s (first_commit ss) ≡ first_commit (s ∷ ss)
unfolding first_commit
first_more s ss = refl

-- what a statement does, answered by its Take or later
outcome_with : (s : SaidOf) (later : Option (ℕ × Answer)) → option_map outcome_of (with_later s later).answer ≡ or_earlier (option_map (λ p. outcome_of p.1) later) (option_map outcome_of s.answer)
outcome_with s None = refl
outcome_with s (Some p) = refl

same_text : (s : SaidOf) (later : Option (ℕ × Answer)) → (with_later s later).text ≡ s.text
same_text s None = refl
same_text s (Some p) = refl

same_taken : (s : SaidOf) (later : Option (ℕ × Answer)) → (with_later s later).accepted ≡ s.accepted
same_taken s None = refl
same_taken s (Some p) = refl

-- what is known of the events from a client's statement on
module _ (client n : ℕ) (es : List (ℕ × Event)) (old new : Later) (was : IsLater client es old) where
  pub taken_step : (c : ℕ) (text : List ℕ) (a : Option Answer) (o : Option Outcome) → (c == client) ≡ true → o ≡ or_earlier old.outcome (option_map outcome_of a)
      → new.commits.items ≡ (if begins_with text o then old.commits.items ++ old.first ∷ [] else old.commits.items)
      → new.first ≡ first_with n text o old.first → new.outcome ≡ None → IsLater client ((n, event.Take c text a) ∷ es) new
  taken_step c text a o its known commits first outcome =
      let s0 : SaidOf = record { accepted = n; text = text; answer = a; reached = n } in
      let later : Option (ℕ × Answer) = later_answer client es in
      let ss : List SaidOf = later_statements client es in
      let s : SaidOf = with_later s0 later in
      let o_is : o ≡ option_map outcome_of s.answer = known ∙ ap (λ x. or_earlier x (option_map outcome_of a)) was.outcome ∙ sym (outcome_with s0 later) in
      let begins_too : begins_with text o ≡ begins s = ap (begins_with text) o_is ∙ ap (λ t. begins_with t (option_map outcome_of s.answer)) (sym (same_text s0 later)) ∙ sym (begins_is s) in
      let first_too : first_with n text o old.first ≡ take_where s (first_commit ss) =
      ap (λ x. first_with n text x old.first) o_is
      ∙ ap (λ t. first_with n t (option_map outcome_of s.answer) old.first) (sym (same_text s0 later))
      ∙ ap (λ m. first_with m s.text (option_map outcome_of s.answer) old.first) (sym (same_taken s0 later))
      ∙ sym (first_is s old.first)
      ∙ ap (take_where s) was.first in
      record {
        commits = commits
            ∙ ap (λ b. if b then old.commits.items ++ old.first ∷ [] else old.commits.items) begins_too
            ∙ ap (λ xs. if begins s then xs ++ old.first ∷ [] else xs) was.commits
            ∙ ap (λ m. if begins s then reverse (commits_of ss) ++ m ∷ [] else reverse (commits_of ss)) was.first
            ∙ reverse_more s ss
            ∙ ap (λ b. reverse (commits_of (if b then s ∷ ss else ss))) (sym its);
        first = first ∙ first_too ∙ first_more s ss ∙ ap (λ b. first_commit (if b then s ∷ ss else ss)) (sym its);
        outcome = outcome ∙ ap (λ b. option_map (λ (p : ℕ × Answer). outcome_of p.1) (if b then None else later)) (sym its);
      }
