-- What a statement is turned away with is its one answer of that kind.
use Rattle.std.proofs.Common.{◌≡◌, ℕ, ◌+◌, Bool, true, false, List, [], ◌∷◌, Option, Some, None, inl, inr, refl, sym, ap, ◌∙◌}
use Rattle.std.specs.Prelude.{◌&&◌, ◌||◌, not, is_some, is_none, ◌==◌, fold, if◌then◌else◌}
use Rattle.std.specs.List.{list_any, enumerate_from}
use Rattle.std.specs.Option.{option_map, option_map_or}
use Rattle.check_answers.specs.Types.{Answer, Event, Refusal, Statement, Table, Work}
use Rattle.sdb_model.specs.declared.answer.Answer.TheVariants as answer
use Rattle.sdb_model.specs.declared.event.Event.TheVariants as event
use Rattle.sdb_model.specs.declared.statement.Statement.TheVariants as statement
use Rattle.sdb_model.specs.Sql.{Reads, Refuses, reads_vacuum}
use Rattle.sdb_model.specs.Exec.{table_of}
use Rattle.sdb_model.specs.Catalogs.{catalog_after}
use Rattle.sdb_model.specs.Refused.{refusal_of}
use Rattle.sdb_model.specs.Follows.{has_stopped, is_open, is_open_after, runs_vacuum}
use Rattle.sdb_model.specs.Transactions.{Executed, statements_by, statements_after}
use Rattle.sdb_model.specs.Causes.{IsRejected, NeedsTransaction, refused}
use Rattle.check_protocol.proofs.Public.{any_some, In, none_some, not_true, number_is, right, some_any, true_not}
use Rattle.check_tables.specs.declared.open.Work.TheVariants as work
use Rattle.check_tables.specs.Values.{is_client_doing, is_doing, someone_does, taker}
use Rattle.check_answers.specs.Tests.{IsTurned, inside_turned, refusal_met, turned_by}
use Rattle.sdb_types.proofs.Public.{and_both as both, and_first as left, clash, decides as decide, either, some_is}

---- clients that take statements

abbrev takes : ℕ → Event → Bool
takes client e = option_map_or (λ c. c == client) (taker e) false

untaken : (client : ℕ) (n : ℕ) (e : Event) → takes client e ≡ false → statements_after client [] (n, e) ≡ []
untaken client n (event.Take c text a) h = ap (λ b. if b then record { accepted = n; text = text; answer = a; reached = n } ∷ [] else []) h
untaken client n (event.Call c store q how r None) h = refl
untaken client n (event.Call c store q how r (Some a)) h = by (c == client)
  where
    by : (b : Bool) → ◌≡◌ {A = List Executed} (if b then [] else []) []
    by true = refl
    by false = refl
untaken client n (event.Stop c) h = refl
untaken client n (event.Clock moment) h = refl
untaken client n (event.Idle c) h = refl
untaken client n (event.Land number store q how r) h = refl
untaken client n (event.Alter table column kind altered) h = refl

none_said : (client : ℕ) (n : ℕ) (events : List Event) → list_any (takes client) events ≡ false → fold (statements_after client) [] (enumerate_from n events) ≡ []
none_said client n [] h = refl
none_said client n (e ∷ es) h =
    ap (λ ss. fold (statements_after client) ss (enumerate_from (n + 1) es)) (untaken client n e (no_left (takes client e) (list_any (takes client) es) h))
    ∙ none_said client (n + 1) es (no_right (takes client e) (list_any (takes client) es) h)
  where
    no_left : (a b : Bool) → (a || b) ≡ false → a ≡ false
    no_left true b h = h
    no_left false b h = refl

    no_right : (a b : Bool) → (a || b) ≡ false → b ≡ false
    no_right true b h = clash h
    no_right false b h = h

taker_is : (client : ℕ) (e : Event) → takes client e ≡ true → taker e ≡ Some client
taker_is client e h = by (taker e) h
  where
    by : (o : Option ℕ) → option_map_or (λ c. c == client) o false ≡ true → o ≡ Some client
    by None h = clash (sym h)
    by (Some c) h = ap Some (number_is c client h)

-- who said something has accepted a statement
pub taken_by : (client : ℕ) (events : List Event) → (statements_by client events ≡ [] → ⊥) → (e : Event) × In events e × (taker e ≡ Some client)
taken_by client events some = elim (decide (list_any (takes client) events)) [
  | inl h ↦ let r = any_some (takes client) events h in (r.0, r.1, taker_is client r.0 r.2)
  | inr h ↦ absurd (some (none_said client 1 events h))
]

apart : {A : Type 0} → true ≡ false → A
apart e = clash e

open_said : (events : List Event) (client : ℕ) → is_open events client ≡ true → statements_by client events ≡ [] → ⊥
open_said events client h e = clash (sym h ∙ ap (fold is_open_after false) e)

vacuum_said : (events : List Event) (client : ℕ) → runs_vacuum events client ≡ true → statements_by client events ≡ [] → ⊥
vacuum_said events client h e = clash (sym h ∙ ap (fold (λ (was : Bool) (s : Executed). reads_vacuum s.text && is_none s.answer) false) e)

doing_said : (w : Work) (events : List Event) (client : ℕ) → is_doing w events client ≡ true → statements_by client events ≡ [] → ⊥
doing_said work.Transaction events client h = open_said events client h
doing_said work.Vacuum events client h = vacuum_said events client h

pub someone_is : (w : Work) (past : List Event) → someone_does w past ≡ true → (client : ℕ) × (has_stopped client past ≡ false) × (is_doing w past client ≡ true)
someone_is w past h =
    let r = any_some (λ e. option_map_or (is_client_doing w past) (taker e) false) past h in
    by (taker r.0) r.2
  where
    by : (o : Option ℕ) → option_map_or (is_client_doing w past) o false ≡ true → (client : ℕ) × (has_stopped client past ≡ false) × (is_doing w past client ≡ true)
    by None h = clash (sym h)
    by (Some c) h = (c, not_true (has_stopped c past) (left (not (has_stopped c past)) (is_doing w past c) h), right (not (has_stopped c past)) (is_doing w past c) h)

pub is_someone : (w : Work) (past : List Event) (client : ℕ) → has_stopped client past ≡ false → is_doing w past client ≡ true → someone_does w past ≡ true
is_someone w past client stopped does =
    let r = taken_by client past (doing_said w past client does) in
    some_any (λ e. option_map_or (is_client_doing w past) (taker e) false) past r.0 r.1
    (ap (λ o. option_map_or (is_client_doing w past) o false) r.2 ∙ both (not (has_stopped client past)) (is_doing w past client) (true_not (has_stopped client past) stopped) does)

---- statements that are read

module _ (catalog : List Table) (past : List Event) (client : ℕ) where
  -- the tables with which it is accepted
  abbrev now : List Table
  now = catalog_after catalog past

  inside_by : (st : Statement) → NeedsTransaction st → turned_by catalog past client st ≡ inside_turned catalog past client st
  inside_by statement.Begin n = absurd (n.0 refl)
  inside_by statement.Vacuum n = absurd (n.1 refl)
  inside_by statement.Commit n = refl
  inside_by statement.Rollback n = refl
  inside_by (statement.Insert i) n = refl
  inside_by (statement.Upsert i) n = refl
  inside_by (statement.Update u) n = refl
  inside_by (statement.Delete d) n = refl
  inside_by (statement.Select s) n = refl

  outside : (st : Statement) (a : Answer) → NeedsTransaction st → is_open past client ≡ false → a ≡ refused 5 → turned_by catalog past client st ≡ Some a
  outside st a n o e = inside_by st n ∙ ap (λ b. if b then option_map answer.Refused (refusal_met now st) else Some (refused 5)) o ∙ ap Some (sym e)

  unfit : (st : Statement) (r : Refusal) (a : Answer) → is_open past client ≡ true → is_some (table_of st) ≡ true → refusal_of now st ≡ Some r → a ≡ answer.Refused r → turned_by catalog past client st ≡ Some a
  unfit statement.Begin r a o t f e = clash (sym t)
  unfit statement.Vacuum r a o t f e = clash (sym t)
  unfit statement.Commit r a o t f e = clash (sym t)
  unfit statement.Rollback r a o t f e = clash (sym t)
  unfit (statement.Insert i) r a o t f e = by (statement.Insert i) o f e
    where
      by : (st : Statement) → is_open past client ≡ true → refusal_of now st ≡ Some r → a ≡ answer.Refused r → (if is_open past client then option_map answer.Refused (refusal_of now st) else Some (refused 5)) ≡ Some a
      by st o f e = ap (λ b. if b then option_map answer.Refused (refusal_of now st) else Some (refused 5)) o ∙ ap (option_map answer.Refused) f ∙ ap Some (sym e)
  unfit (statement.Upsert i) r a o t f e = ap (λ b. if b then option_map answer.Refused (refusal_of now (statement.Upsert i)) else Some (refused 5)) o ∙ ap (option_map answer.Refused) f ∙ ap Some (sym e)
  unfit (statement.Update u) r a o t f e = ap (λ b. if b then option_map answer.Refused (refusal_of now (statement.Update u)) else Some (refused 5)) o ∙ ap (option_map answer.Refused) f ∙ ap Some (sym e)
  unfit (statement.Delete d) r a o t f e = ap (λ b. if b then option_map answer.Refused (refusal_of now (statement.Delete d)) else Some (refused 5)) o ∙ ap (option_map answer.Refused) f ∙ ap Some (sym e)
  unfit (statement.Select s) r a o t f e = ap (λ b. if b then option_map answer.Refused (refusal_of now (statement.Select s)) else Some (refused 5)) o ∙ ap (option_map answer.Refused) f ∙ ap Some (sym e)

  pub turned_of : (text : List ℕ) (st : Statement) (a : Answer) → ((x y : Statement) → Reads text x → Reads text y → x ≡ y) → ((x : Statement) (r : Refusal) → Reads text x → Refuses text r → ⊥) → Reads text st → IsRejected catalog past client text a → turned_by catalog past client st ≡ Some a
  turned_of text st a one either reads (inl (r, f, e)) = absurd (either st r reads f)
  turned_of text st a one either reads (inr (inl (b, o, e))) =
      ap (turned_by catalog past client) (one st statement.Begin reads b) ∙ ap (λ x. if x then Some (refused 4) else if someone_does work.Vacuum past then Some answer.Vacuuming else None) o ∙ ap Some (sym e)
  turned_of text st a one either reads (inr (inr (inl (x, b, n, o, e)))) = ap (turned_by catalog past client) (one st x reads b) ∙ outside x a n o e
  turned_of text st a one either reads (inr (inr (inr (inl (x, r, b, o, t, f, e))))) = ap (turned_by catalog past client) (one st x reads b) ∙ unfit x r a o t f e
  turned_of text st a one either reads (inr (inr (inr (inr (inl (b, o, c, e)))))) =
      ap (turned_by catalog past client) (one st statement.Begin reads b) ∙ ap (λ x. if x then Some (refused 4) else if someone_does work.Vacuum past then Some answer.Vacuuming else None) o
      ∙ ap (λ x. if x then Some answer.Vacuuming else None) (is_someone work.Vacuum past c.0 c.1 c.2) ∙ ap Some (sym e)
  turned_of text st a one either reads (inr (inr (inr (inr (inr (b, c, e)))))) =
      ap (turned_by catalog past client) (one st statement.Vacuum reads b) ∙ ap (λ x. if x then Some answer.OpenTransactions else None) (is_someone work.Transaction past c.0 c.1 c.2) ∙ ap Some (sym e)

  by_begin : (text : List ℕ) (a : Answer) (b c : Bool) → is_open past client ≡ b → someone_does work.Vacuum past ≡ c → Reads text statement.Begin → (if b then Some (refused 4) else if c then Some answer.Vacuuming else None) ≡ Some a → IsRejected catalog past client text a
  by_begin text a true c o s reads h = inr (inl (reads, o, sym (some_is (refused 4) a h)))
  by_begin text a false true o s reads h = inr (inr (inr (inr (inl (reads, o, someone_is work.Vacuum past s, sym (some_is answer.Vacuuming a h))))))
  by_begin text a false false o s reads h = none_some h

  by_vacuum : (text : List ℕ) (a : Answer) (c : Bool) → someone_does work.Transaction past ≡ c → Reads text statement.Vacuum → (if c then Some answer.OpenTransactions else None) ≡ Some a → IsRejected catalog past client text a
  by_vacuum text a true s reads h = inr (inr (inr (inr (inr (reads, someone_is work.Transaction past s, sym (some_is answer.OpenTransactions a h))))))
  by_vacuum text a false s reads h = none_some h

  by_word : (text : List ℕ) (st : Statement) (a : Answer) (b : Bool) → is_open past client ≡ b → NeedsTransaction st → Reads text st → (if b then option_map answer.Refused None else Some (refused 5)) ≡ Some a → IsRejected catalog past client text a
  by_word text st a true o n reads h = none_some h
  by_word text st a false o n reads h = inr (inr (inl (st, reads, n, o, sym (some_is (refused 5) a h))))

  by_table : (text : List ℕ) (st : Statement) (a : Answer) (b : Bool) (r : Option Refusal) → is_open past client ≡ b → refusal_of now st ≡ r → NeedsTransaction st → is_some (table_of st) ≡ true → Reads text st → (if b then option_map answer.Refused r else Some (refused 5)) ≡ Some a → IsRejected catalog past client text a
  by_table text st a true None o f n t reads h = none_some h
  by_table text st a true (Some r) o f n t reads h = inr (inr (inr (inl (st, r, reads, o, t, f, sym (some_is (answer.Refused r) a h)))))
  by_table text st a false r o f n t reads h = inr (inr (inl (st, reads, n, o, sym (some_is (refused 5) a h))))

  pub is_turned : (text : List ℕ) (st : Statement) (a : Answer) → Reads text st → turned_by catalog past client st ≡ Some a → IsRejected catalog past client text a
  is_turned text statement.Begin a reads h = by_begin text a (is_open past client) (someone_does work.Vacuum past) refl refl reads h
  is_turned text statement.Vacuum a reads h = by_vacuum text a (someone_does work.Transaction past) refl reads h
  is_turned text statement.Commit a reads h = by_word text statement.Commit a (is_open past client) refl (λ e. cc, λ e. cc) reads h
  is_turned text statement.Rollback a reads h = by_word text statement.Rollback a (is_open past client) refl (λ e. cc, λ e. cc) reads h
  is_turned text (statement.Insert i) a reads h = by_table text (statement.Insert i) a (is_open past client) (refusal_of now (statement.Insert i)) refl refl (λ e. cc, λ e. cc) refl reads h
  is_turned text (statement.Upsert i) a reads h = by_table text (statement.Upsert i) a (is_open past client) (refusal_of now (statement.Upsert i)) refl refl (λ e. cc, λ e. cc) refl reads h
  is_turned text (statement.Update u) a reads h = by_table text (statement.Update u) a (is_open past client) (refusal_of now (statement.Update u)) refl refl (λ e. cc, λ e. cc) refl reads h
  is_turned text (statement.Delete d) a reads h = by_table text (statement.Delete d) a (is_open past client) (refusal_of now (statement.Delete d)) refl refl (λ e. cc, λ e. cc) refl reads h
  is_turned text (statement.Select s) a reads h = by_table text (statement.Select s) a (is_open past client) (refusal_of now (statement.Select s)) refl refl (λ e. cc, λ e. cc) refl reads h

  pub unread_is : (text : List ℕ) (r : Refusal) (a : Answer) → ((x y : Refusal) → Refuses text x → Refuses text y → x ≡ y) → ((x : Statement) (y : Refusal) → Reads text x → Refuses text y → ⊥) → Refuses text r → IsRejected catalog past client text a → Some (answer.Refused r) ≡ Some a
  unread_is text r a one either f (inl (x, g, e)) = ap Some (ap answer.Refused (one r x f g) ∙ sym e)
  unread_is text r a one either f (inr (inl (b, o, e))) = absurd (either statement.Begin r b f)
  unread_is text r a one either f (inr (inr (inl (x, b, n, o, e)))) = absurd (either x r b f)
  unread_is text r a one either f (inr (inr (inr (inl (x, y, b, o, t, g, e))))) = absurd (either x r b f)
  unread_is text r a one either f (inr (inr (inr (inr (inl (b, o, c, e)))))) = absurd (either statement.Begin r b f)
  unread_is text r a one either f (inr (inr (inr (inr (inr (b, c, e)))))) = absurd (either statement.Vacuum r b f)

  pub is_unread : (text : List ℕ) (r : Refusal) (a : Answer) → Refuses text r → Some (answer.Refused r) ≡ Some a → IsRejected catalog past client text a
  is_unread text r a f e = inl (r, f, sym (some_is (answer.Refused r) a e))

  pub neither : (text : List ℕ) (a : Answer) → ((r : Refusal) → Refuses text r → ⊥) → ((st : Statement) → Reads text st → ⊥) → IsRejected catalog past client text a → ⊥
  neither text a f g (inl (x, h, e)) = f x h
  neither text a f g (inr (inl (b, o, e))) = g statement.Begin b
  neither text a f g (inr (inr (inl (x, b, n, o, e)))) = g x b
  neither text a f g (inr (inr (inr (inl (x, y, b, o, t, h, e))))) = g x b
  neither text a f g (inr (inr (inr (inr (inl (b, o, c, e)))))) = g statement.Begin b
  neither text a f g (inr (inr (inr (inr (inr (b, c, e)))))) = g statement.Vacuum b

  pub turned_read : (text : List ℕ) (st : Statement) (o : Option Answer) → ((x y : Statement) → Reads text x → Reads text y → x ≡ y) → ((x : Statement) (r : Refusal) → Reads text x → Refuses text r → ⊥) → Reads text st → o ≡ turned_by catalog past client st → IsTurned catalog past client text o
  turned_read text st o one either reads e a = (λ t. e ∙ turned_of text st a one either reads t, λ h. is_turned text st a reads (sym e ∙ h))

  pub turned_unread : (text : List ℕ) (r : Refusal) → ((x y : Refusal) → Refuses text x → Refuses text y → x ≡ y) → ((x : Statement) (y : Refusal) → Reads text x → Refuses text y → ⊥) → Refuses text r → IsTurned catalog past client text (Some (answer.Refused r))
  turned_unread text r one either f a = (λ t. unread_is text r a one either f t, λ h. is_unread text r a f h)

  pub turned_neither : (text : List ℕ) → ((r : Refusal) → Refuses text r → ⊥) → ((st : Statement) → Reads text st → ⊥) → IsTurned catalog past client text None
  turned_neither text f g a = (λ t. absurd (neither text a f g t), λ h. none_some h)
