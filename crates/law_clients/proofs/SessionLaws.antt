-- A session of a client that is alone, statement by statement.
use Rattle.std.specs.Result.{result_ok}
use Rattle.law_clients.specs.Keys.{is_too_many, keys_of_body, passes_most}
use Rattle.std.proofs.Common.{◌≡◌, ◌≢◌, ◌<◌, ◌^◌, ℕ, ℤ, Bool, true, false, List, [], ◌∷◌, ◌++◌, map, Option, Some, None, Result, Ok, Err, ◌⊎◌, inl, inr, cond, refl, sym, ap, subst, ◌∙◌, arith, append-nil, append_assoc}
use Rattle.std.specs.Prelude.{◌&&◌, ◌||◌, find, fold, if◌then◌else◌, IfSome}
use Rattle.std.specs.Option.{option_map, option_map_or}
use Rattle.std.specs.List.{AllByRecursion, list_any}
use Rattle.std.specs.Ordering.{is_eq}
use Rattle.std.proofs.lemmas.List.Elements.{Contains-append_left, Contains-append_right}
use Rattle.law_clients.specs.Types.{Access, Answer, Key, Meta, Pair, Record, Refusal, Statement, Table, TableName, TxId}
use Rattle.sdb_types.specs.declared.record.State.TheVariants as state
use Rattle.sdb_types.specs.Exact.{equal_of}
use Rattle.sdb_types.specs.Order.{table_cmp}
use Rattle.sdb_types.proofs.Public.{false_true, map_last, none_some, some_is, table_exact}
use Rattle.sdb_record.specs.Coordinator.{coordinator_key_of}
use Rattle.sdb_record.specs.Meta.{checked, checked_before, checked_part, id_in, is_committed, is_in, is_misnamed, moment_in, refuse, with_before}
use Rattle.sdb_record.specs.Names.{tx_prepared_at}
use Rattle.sdb_record.specs.Parts.{before_part, is_before_pair}
use Rattle.sdb_record.proofs.Public.{accepted, refuse-ok}
use Rattle.sdb_model.specs.declared.answer.Answer.TheVariants as answer
use Rattle.sdb_model.specs.declared.statement.Statement.TheVariants as statement
use Rattle.sdb_model.specs.Access.{in_access}
use Rattle.sdb_model.specs.Exec.{Tables, find_table, named_table, table_of}
use Rattle.sdb_model.specs.Refused.{refusal_of}
use Rattle.sdb_model.specs.Serial.{run_body}
use Rattle.sdb_model.specs.Transactions.{changes_nothing, is_answered_from_rows, is_conflict, is_done}
use Rattle.sdb_exec.specs.Plans.{Planned}
use Rattle.sdb_exec.proofs.Public.{own}
use Rattle.sdb_snapshot.specs.Rows.{with_own}
use Rattle.sdb_snapshot.specs.Seen.{Seen}
use Rattle.law_clients.proofs.Lists.{each_more}
use Rattle.sdb_txn.specs.Txn.{TxnAt}
use Rattle.law_clients.proofs.Meta.{meta_of}
use Rattle.sdb_client.specs.Client.{ClientAt}
use Rattle.law_clients.specs.Body.{AgreesAll}
use Rattle.law_clients.proofs.ReadRecords.{coordinators}
use Rattle.law_clients.specs.Fitting.{tables_are_well_typed}
use Rattle.law_clients.specs.Database.{Database, decided_in, is_listed, row_in}
use Rattle.law_clients.specs.OnlyResolves.{IsApart, OnlyResolves, IsSound}
use Rattle.law_clients.specs.Recovers.{IsAborted, IsCommittedAt, IsUndecided}
use Rattle.law_clients.specs.Seen.{AreImagesOf}
use Rattle.law_clients.specs.SessionVacuums.{Quiet}
use Rattle.law_clients.specs.Clients.{Added, AnsweredAlone, IdleAlone, IsAskedFor, IsUnused, Kept, OpenAlone}
use Rattle.law_clients.specs.Later.{IsOwn, Later, Own}
use Rattle.law_clients.specs.Between.{Answered, Begun, Between, CommitEnds, Ended, Lost, RolledBack, OpenTransaction, Vacuumed, VacuumedBy, Turned, IsTxnOf, Won}
use Rattle.law_clients.specs.Session.{AreSerialParts, Exchange, IfBusy, IfUnknown, IsBusyAlone, IsOfOpening, IsOfSession, IsSerialPart, IsImpossible, Part, Parts, all_parts, answers_in, begins, body_in, ends, in_body, is_begin, is_commit, is_recorded_in, is_recorded, is_recorded_by, is_rollback, is_vacuum, leaves_records, no_parts, part_after, parts_after, statements_in, tables_after, rejected, AreLimited, IsLimited}
use Rattle.law_clients.specs.Chain.{Chain, Exchanged, OutOfMemory, Answers, transaction_of, open_of}
use Rattle.law_clients.proofs.SessionStatements.{agrees_all, rows_change}
use Rattle.law_clients.proofs.Recovers.{row_at}
use Rattle.law_clients.proofs.Stays.{rows_same, IsOther, aborted_not, is_committed_by, later_of, parts_append, parts_same, tables_append, tables_same, unused_stays}
use Rattle.law_clients.proofs.SessionVacuums.{quiet_of, quiet_refl}

---- bodies

body_append : (es : List Exchange) (e : Exchange) → body_in (es ++ e ∷ []) ≡ option_map_or (λ b. body_in es ++ b ∷ []) (in_body e) (body_in es)
body_append [] e = refl
body_append (x ∷ es) e = by (in_body x) (in_body e) (body_append es e)
  where
    by : (a b : Option (Statement × Answer)) → body_in (es ++ e ∷ []) ≡ option_map_or (λ c. body_in es ++ c ∷ []) b (body_in es) → option_map_or (λ c. c ∷ body_in (es ++ e ∷ [])) a (body_in (es ++ e ∷ [])) ≡ option_map_or (λ c. option_map_or (λ y. y ∷ body_in es) a (body_in es) ++ c ∷ []) b (option_map_or (λ y. y ∷ body_in es) a (body_in es))
    by None b h = h
    by (Some y) None h = ap (λ bs. y ∷ bs) h
    by (Some y) (Some c) h = ap (λ bs. y ∷ bs) h

pub none_open : (es : List Exchange) (e : Exchange) → changes_nothing e.answer ≡ true → body_in (es ++ e ∷ []) ≡ body_in es
none_open es e n = body_append es e ∙ ap (λ o. option_map_or (λ b. body_in es ++ b ∷ []) o (body_in es)) (ap (λ b. if b then None else elim e.says [ Ok st ↦ Some (st, e.answer) | Err r ↦ None ]) n)

pub one_open : (es : List Exchange) (e : Exchange) (st : Statement) → e.says ≡ Ok st → changes_nothing e.answer ≡ false → body_in (es ++ e ∷ []) ≡ body_in es ++ (st, e.answer) ∷ []
one_open es e st says n = body_append es e ∙ ap (λ o. option_map_or (λ b. body_in es ++ b ∷ []) o (body_in es)) (ap (λ b. if b then None else elim e.says [ Ok x ↦ Some (x, e.answer) | Err r ↦ None ]) n ∙ ap (λ (s : Result Statement Refusal). elim s [ Ok x ↦ Some (x, e.answer) | Err r ↦ None ]) says)

---- what a taking turns away

refused_of : (o : Option Refusal) (z : Answer) → option_map (λ r. answer.Refused r) o ≡ Some z → (r : Refusal) × (z ≡ answer.Refused r)
refused_of None z e = none_some z e
refused_of (Some r) z e = (r, sym (some_is (answer.Refused r) z e))

pub record IsAway (says : Result Statement Refusal) (z : Answer) : Type 0 where
  pub commit : is_commit says ≡ false
  pub rollback : is_rollback says ≡ false
  pub mild : (z ≡ answer.OpenTransactions) ⊎ ((r : Refusal) × (z ≡ answer.Refused r))

pub away_open : (catalog : List Table) (says : Result Statement Refusal) (z : Answer) → rejected catalog true says ≡ Some z → IsAway says z
away_open catalog (Err r) z e = record { commit = refl; rollback = refl; mild = inr (r, sym (some_is (answer.Refused r) z e)) }
away_open catalog (Ok statement.Begin) z e = record { commit = refl; rollback = refl; mild = inr (_, sym (some_is _ z e)) }
away_open catalog (Ok statement.Commit) z e = none_some z e
away_open catalog (Ok statement.Rollback) z e = none_some z e
away_open catalog (Ok statement.Vacuum) z e = record { commit = refl; rollback = refl; mild = inl (sym (some_is answer.OpenTransactions z e)) }
away_open catalog (Ok (statement.Insert s)) z e = record { commit = refl; rollback = refl; mild = inr (refused_of (refusal_of catalog (statement.Insert s)) z e) }
away_open catalog (Ok (statement.Upsert s)) z e = record { commit = refl; rollback = refl; mild = inr (refused_of (refusal_of catalog (statement.Upsert s)) z e) }
away_open catalog (Ok (statement.Update s)) z e = record { commit = refl; rollback = refl; mild = inr (refused_of (refusal_of catalog (statement.Update s)) z e) }
away_open catalog (Ok (statement.Delete s)) z e = record { commit = refl; rollback = refl; mild = inr (refused_of (refusal_of catalog (statement.Delete s)) z e) }
away_open catalog (Ok (statement.Select s)) z e = record { commit = refl; rollback = refl; mild = inr (refused_of (refusal_of catalog (statement.Select s)) z e) }

pub record IsAwayOutside (says : Result Statement Refusal) (z : Answer) : Type 0 where
  pub begin : is_begin says ≡ false
  pub mild : (r : Refusal) × (z ≡ answer.Refused r)

pub away_none : (catalog : List Table) (says : Result Statement Refusal) (z : Answer) → rejected catalog false says ≡ Some z → IsAwayOutside says z
away_none catalog (Err r) z e = record { begin = refl; mild = (r, sym (some_is (answer.Refused r) z e)) }
away_none catalog (Ok statement.Begin) z e = none_some z e
away_none catalog (Ok statement.Commit) z e = record { begin = refl; mild = (_, sym (some_is _ z e)) }
away_none catalog (Ok statement.Rollback) z e = record { begin = refl; mild = (_, sym (some_is _ z e)) }
away_none catalog (Ok statement.Vacuum) z e = none_some z e
away_none catalog (Ok (statement.Insert s)) z e = record { begin = refl; mild = (_, sym (some_is _ z e)) }
away_none catalog (Ok (statement.Upsert s)) z e = record { begin = refl; mild = (_, sym (some_is _ z e)) }
away_none catalog (Ok (statement.Update s)) z e = record { begin = refl; mild = (_, sym (some_is _ z e)) }
away_none catalog (Ok (statement.Delete s)) z e = record { begin = refl; mild = (_, sym (some_is _ z e)) }
away_none catalog (Ok (statement.Select s)) z e = record { begin = refl; mild = (_, sym (some_is _ z e)) }

-- a statement on a table is none of the words
pub record IsNoWord (says : Result Statement Refusal) : Type 0 where
  pub vacuum : is_vacuum says ≡ false
  pub commit : is_commit says ≡ false
  pub rollback : is_rollback says ≡ false

pub no_word : (catalog : List Table) (st : Statement) (t : Table) → named_table catalog st ≡ Some t → IsNoWord (Ok st)
no_word catalog (statement.Insert s) t e = record { vacuum = refl; commit = refl; rollback = refl }
no_word catalog (statement.Upsert s) t e = record { vacuum = refl; commit = refl; rollback = refl }
no_word catalog (statement.Update s) t e = record { vacuum = refl; commit = refl; rollback = refl }
no_word catalog (statement.Delete s) t e = record { vacuum = refl; commit = refl; rollback = refl }
no_word catalog (statement.Select s) t e = record { vacuum = refl; commit = refl; rollback = refl }
no_word catalog statement.Begin t e = none_some t e
no_word catalog statement.Commit t e = none_some t e
no_word catalog statement.Rollback t e = none_some t e
no_word catalog statement.Vacuum t e = none_some t e

pub stays_by : (e : Exchange) → is_commit e.says ≡ false → is_conflict (Some e.answer) ≡ false → is_rollback e.says ≡ false → ends e ≡ false
stays_by e c k r = ap (λ b. b || (is_conflict (Some e.answer) || (is_rollback e.says && is_done (Some e.answer)))) c ∙ ap (λ b. b || (is_rollback e.says && is_done (Some e.answer))) k ∙ ap (λ b. b && is_done (Some e.answer)) r

---- one statement more

ok_is : (s : Result Statement Refusal) (x y : Statement) → s ≡ Ok x → s ≡ Ok y → x ≡ y
ok_is s x y e f = some_is x y (sym (ap result_ok e) ∙ ap result_ok f)

rows_few : (z : Answer) → is_answered_from_rows z ≡ true → is_too_many z ≡ false
rows_few (answer.Rows rows) h = refl
rows_few (answer.Count n) h = refl
rows_few (answer.Duplicate key) h = refl
rows_few z h = absurd (cc)

many_append : (catalog : List Table) (d : Tables) (front es : List Exchange) (e : Exchange) → AreLimited catalog d front es → IsLimited catalog d (front ++ es) e → AreLimited catalog d front (es ++ e ∷ [])
many_append catalog d front [] e a m = (subst (λ fs. IsLimited catalog d fs e) (append-nil front) m, tt)
many_append catalog d front (x ∷ es) e a m = (a.0, many_append catalog d (front ++ x ∷ []) es e a.1 (subst (λ fs. IsLimited catalog d fs e) (sym (append_assoc front (x ∷ []) es)) m))

-- one that changed nothing, and isn't refused so
few_nothing : (catalog : List Table) (d : Tables) (front : List Exchange) (e : Exchange) → changes_nothing e.answer ≡ true → (rejected catalog true e.says ≡ None → is_too_many e.answer ≡ true → ⊥) → IsLimited catalog d front e
few_nothing catalog d front e nothing other = record { fits = λ st says stays passes. nothing; too_many = λ st says stays many. absurd (other stays many) }

---- answers

-- an answer of a statement that isn't the last of its transaction, and never one of those that never come
pub record IsMeek (z : Answer) : Type 0 where
  pub conflict : is_conflict (Some z) ≡ false
  pub never : IsImpossible z → ⊥

pub rows_meek : (z : Answer) → is_answered_from_rows z ≡ true → IsMeek z × ((P : Key → TxId → ℤ → Type 0) → IfBusy z P)
rows_meek (answer.Rows rows) h = (record { conflict = refl; never = λ n. n }, λ P. tt)
rows_meek (answer.Count n) h = (record { conflict = refl; never = λ x. x }, λ P. tt)
rows_meek (answer.Duplicate key) h = (record { conflict = refl; never = λ x. x }, λ P. tt)
rows_meek z h = absurd (cc)

pub idle_meek : (g : Database) (a : Access) (now : ℤ) (z : Answer) → IdleAlone g a now z → IsMeek z
idle_meek g a now (answer.Busy key id at) h = record { conflict = refl; never = λ x. x }
idle_meek g a now (answer.Refused r) h = record { conflict = refl; never = λ x. x }
idle_meek g a now answer.Faulted h = record { conflict = refl; never = λ x. x }
idle_meek g a now answer.NoMemory h = record { conflict = refl; never = λ x. x }
idle_meek g a now z h = absurd h

pub mild_meek : (z : Answer) → (z ≡ answer.OpenTransactions) ⊎ ((r : Refusal) × (z ≡ answer.Refused r)) → IsMeek z × (changes_nothing z ≡ true) × ((P : Key → TxId → ℤ → Type 0) → IfBusy z P)
mild_meek z (inl e) = subst (λ y. IsMeek y × (changes_nothing y ≡ true) × ((P : Key → TxId → ℤ → Type 0) → IfBusy y P)) (sym e) (record { conflict = refl; never = λ x. x }, refl, λ P. tt)
mild_meek z (inr (r, e)) = subst (λ y. IsMeek y × (changes_nothing y ≡ true) × ((P : Key → TxId → ℤ → Type 0) → IfBusy y P)) (sym e) (record { conflict = refl; never = λ x. x }, refl, λ P. tt)

---- the moment of a record

before_moment : (m : Meta) (o : Result Meta (List ℕ)) (y : Meta) → with_before m o ≡ Ok y → m.prepared_at ≡ y.prepared_at
before_moment m (Ok b) y h = let e : record m { has_before = true } ≡ y = cc in ap (λ (x : Meta). x.prepared_at) e
before_moment m (Err name) y h = absurd (cc)

pub final_moment : (ps : List Pair) (m y : Meta) → checked_before ps m ≡ Ok y → m.prepared_at ≡ y.prepared_at
final_moment ps m y h = by (list_any is_before_pair ps) h
  where
    by : (b : Bool) → cond b (refuse (find is_misnamed ps) (with_before m (checked_part is_committed (before_part ps)))) (Ok m) ≡ Ok y → m.prepared_at ≡ y.prepared_at
    by true k = before_moment m (checked_part is_committed (before_part ps)) y (refuse-ok (find is_misnamed ps) (with_before m (checked_part is_committed (before_part ps))) y k).1
    by false k = let e : m ≡ y = cc in ap (λ (x : Meta). x.prepared_at) e

prepared_moment : (r : Record) (m : Meta) → checked r.columns ≡ Ok m → moment_in r.columns tx_prepared_at ≡ Some m.prepared_at
prepared_moment r m says = let t = accepted r.columns m says in t.1.says.prepared_at ∙ ap (λ n. Some n) (final_moment r.columns t.0 m t.2)

---- the table that is named

found_name : (ts : List Table) (name : TableName) (t : Table) → find_table ts name ≡ Some t → t.name ≡ name
found_name [] name t h = none_some t h
found_name (u ∷ us) name t h = by (is_eq (table_cmp u.name name)) refl (found_name us name t)
  where
    by : (b : Bool) → is_eq (table_cmp u.name name) ≡ b → (find_table us name ≡ Some t → t.name ≡ name) → t.name ≡ name
    by true e rest = ap (λ (x : Table). x.name) (sym (some_is u t (sym (ap (λ b. if b then Some u else find_table us name) e) ∙ h))) ∙ table_exact u.name name (equal_of _ e)
    by false e rest = rest (sym (ap (λ b. if b then Some u else find_table us name) e) ∙ h)

asked_names : (catalog : List Table) (p : Planned) (a : Access) → IsAskedFor catalog p a → (k : Key) → in_access a k ≡ true → table_of p.statement ≡ Some k.table
asked_names catalog p a asked k within = by (table_of p.statement) refl
  where
    name : k.table ≡ p.table.name
    name = table_exact k.table p.table.name (equal_of _ (own p.table p.statement k (subst (λ (b : Access). in_access b k ≡ true) asked.access within)))

    by : (o : Option TableName) → table_of p.statement ≡ o → table_of p.statement ≡ Some k.table
    by None e = none_some p.table (sym (ap (λ o. option_map_or (find_table catalog) o None) e) ∙ asked.named)
    by (Some n) e = e ∙ ap (λ x. Some x) (sym (found_name catalog n p.table (sym (ap (λ o. option_map_or (find_table catalog) o None) e) ∙ asked.named)) ∙ sym name)

---- what is so between statements

module _ (catalog : List Table) (apart : IsApart catalog) (start : Database) (before : Tables) where
  -- an unresolved record of an undecided transaction is of the opening, or was left by a COMMIT
  abbrev pub Origins : Database → List Part → Type 0
  Origins g ended = (k : Key) (r : Record) (id : TxId) (at : ℤ) → is_listed catalog k ≡ true → g k ≡ Some r → is_in state.Committed r.columns ≡ false → id_in r.columns ≡ Some id → moment_in r.columns tx_prepared_at ≡ Some at → IsUndecided g id → IsOfOpening start k id at ⊎ IsOfSession ended id at

  -- the transaction that is open
  pub record IsCurrent (g : Database) (ended : List Part) (t : Part) : Type 0 where
    seen : Seen
    opened : OpenAlone catalog g (statements_in t.inside) (answers_in t.inside) t.id seen
    busy : AllByRecursion (λ e. IfBusy e.answer (IsBusyAlone start ended e)) t.inside
    many : AreLimited catalog (tables_after catalog g before ended) [] t.inside
    last : t.last ≡ None
    apart_from : AllByRecursion (λ (x : Part). x.id ≢ t.id) ended

  abbrev pub IsOutside : List Part → Option Part → TxId → Type 0
  IsOutside ended opened id = AllByRecursion (λ (t : Part). t.id ≢ id) ended × IfSome opened (λ t. t.id ≢ id)

  pub record So (g : Database) (p : Parts) : Type 0 where
    pub sound : IsSound catalog g
    pub are_images : AreImagesOf catalog g (tables_after catalog g before p.ended)
    pub fit : tables_are_well_typed catalog (tables_after catalog g before p.ended) ≡ true
    pub rows : AllByRecursion (λ (t : Part). is_recorded_in g t.id ≡ is_recorded g t) p.ended
    pub parts : AreSerialParts catalog start g [] before p.ended
    pub current : IfSome p.opened (IsCurrent g p.ended)
    pub origins : Origins g p.ended
    pub fits : AllByRecursion (λ (t : Part). t.id.0 < 2 ^ 128) p.ended
    pub unused : (id : TxId) → IsUnused catalog start id → IsOutside p.ended p.opened id → IsUnused catalog g id

  ---- one statement

  undecided_before : (own : Option Own) (g h : Database) → Later catalog own g h → (id : TxId) → IsUndecided h id → IsUndecided g id
  undecided_before own g h s id e = by (g (coordinator_key_of id)) refl
    where
      by : (o : Option Record) → g (coordinator_key_of id) ≡ o → g (coordinator_key_of id) ≡ None
      by None f = f
      by (Some row) f = none_some row (sym e ∙ s.rows (coordinator_key_of id) row (coordinators id) f)

  of_more : (ended : List Part) (t : Part) (id : TxId) (at : ℤ) → IsOfSession ended id at → IsOfSession (ended ++ t ∷ []) id at
  of_more ended t id at x = record { t = x.t; e = x.e; among = Contains-append_left ended (t ∷ []) x.t x.among; own = x.own; commit = x.commit; commits = x.commits; left = x.left; moment = x.moment }

  origins_later : (own : Option Own) (g h : Database) → Later catalog own g h → (ended more : List Part) → ((id : TxId) (at : ℤ) → IsOfSession ended id at → IsOfSession more id at) → ((o : Own) → own ≡ Some o → IsUndecided h o.id → IsOfSession more o.id o.at) → Origins g ended → Origins h more
  origins_later own g h s ended more grow left was k r id at listed e loose writer moment none = by (s.loose k r listed e loose)
    where
      grown : IsOfOpening start k id at ⊎ IsOfSession ended id at → IsOfOpening start k id at ⊎ IsOfSession more id at
      grown (inl x) = inl x
      grown (inr x) = inr (grow id at x)

      by : (g k ≡ Some r) ⊎ IsOwn own r → IsOfOpening start k id at ⊎ IsOfSession more id at
      by (inl f) = grown (was k r id at listed f loose writer moment (undecided_before own g h s id none))
      by (inr x) =
          let same_id : x.o.id ≡ id = some_is x.o.id id (sym x.writer ∙ writer) in
          let same_at : x.o.at ≡ at = some_is x.o.at at (sym x.moment ∙ moment) in
          inr (subst (λ i. IsOfSession more i at) same_id (subst (λ a. IsOfSession more x.o.id a) same_at (left x.o x.is (subst (IsUndecided h) (sym same_id) none))))

  none_other : (ts : List Part) → AllByRecursion (λ (t : Part). t.id.0 < 2 ^ 128) ts → AllByRecursion (λ (t : Part). (t.id.0 < 2 ^ 128) × IsOther None t.id) ts
  none_other [] f = tt
  none_other (t ∷ ts) f = ((f.0, λ o e. none_some o e), none_other ts f.1)

  quiet_images : (g h : Database) → Quiet catalog g h → (d : Tables) → AreImagesOf catalog g d → AreImagesOf catalog h d
  quiet_images g h s d are_images k = are_images k ∙ by (is_listed catalog k) refl
    where
      by : (w : Bool) → is_listed catalog k ≡ w → (if is_listed catalog k then row_in g k else None) ≡ (if is_listed catalog k then row_in h k else None)
      by true f = ap (λ w. if w then row_in g k else None) f ∙ sym (ap (λ w. if w then row_in h k else None) f ∙ s.same_rows k f)
      by false f = ap (λ w. if w then row_in g k else None) f ∙ sym (ap (λ w. if w then row_in h k else None) f)

  -- no transaction has ended
  remade : (g h : Database) (ended : List Part) (opened now : Option Part) → So g (record { ended = ended; opened = opened }) → Quiet catalog g h → IfSome now (IsCurrent h ended) → ((id : TxId) → IsOutside ended now id → IsOutside ended opened id) → So h (record { ended = ended; opened = now })
  remade g h ended opened now so quiet current less = record {
    sound = quiet.sound;
    are_images = subst (AreImagesOf catalog h) (sym same) (quiet_images g h quiet (tables_after catalog g before ended) so.are_images);
    fit = ap (tables_are_well_typed catalog) same ∙ so.fit;
    rows = rows_same catalog None g h later ended (none_other ended so.fits) so.rows;
    parts = parts_same catalog None g h later start [] before ended (none_other ended so.fits) so.parts;
    current = current;
    origins = origins_later None g h later ended ended (λ id at x. x) (λ o e. none_some o e) so.origins;
    fits = so.fits;
    unused = λ id new outside. unused_stays catalog None g h later id (λ o e. none_some o e) (so.unused id new (less id outside));
  }
    where
      later : Later catalog None g h
      later = later_of catalog None g h quiet

      same : tables_after catalog h before ended ≡ tables_after catalog g before ended
      same = tables_same catalog None g h later before ended (none_other ended so.fits)

  ended_others : (own : Option Own) (t : Part) → ((o : Own) → own ≡ Some o → o.id ≡ t.id) → t.id.0 < 2 ^ 128 → (ts : List Part) → AllByRecursion (λ (x : Part). x.id ≢ t.id) ts → AllByRecursion (λ (x : Part). x.id.0 < 2 ^ 128) ts → AllByRecursion (λ (x : Part). (x.id.0 < 2 ^ 128) × IsOther own x.id) ts
  ended_others own t is small [] a f = tt
  ended_others own t is small (x ∷ ts) a f = ((f.0, λ o e. (subst (λ (i : TxId). i.0 < 2 ^ 128) (sym (is o e)) small, λ k. a.0 (k ∙ is o e))), ended_others own t is small ts a.1 f.1)

  each_front : (P : Part → Type 0) (ts : List Part) (t : Part) → AllByRecursion P (ts ++ t ∷ []) → AllByRecursion P ts × P t
  each_front P [] t a = (tt, a.0)
  each_front P (x ∷ ts) t a = let r = each_front P ts t a.1 in ((a.0, r.0), r.1)

  -- the part that an exchange ends
  abbrev ended_by : Part → Exchange → Part
  ended_by t e = record { id = t.id; inside = t.inside; last = Some e }

  -- The open transaction ends.
  module _ (g h : Database) (ended : List Part) (t : Part) (so : So g (record { ended = ended; opened = Some t })) (own : Option Own) (own_id : (o : Own) → own ≡ Some o → o.id ≡ t.id) (later : Later catalog own g h) (e : Exchange) (left : (o : Own) → own ≡ Some o → IsUndecided h o.id → IsOfSession (ended ++ ended_by t e ∷ []) o.id o.at) (unknown : IfUnknown e.answer (λ id. id ≡ t.id)) where
    abbrev D : Tables
    D = tables_after catalog g before ended

    small : t.id.0 < 2 ^ 128
    small = so.current.opened.new.fits

    others : AllByRecursion (λ (x : Part). (x.id.0 < 2 ^ 128) × IsOther own x.id) ended
    others = ended_others own t own_id small ended so.current.apart_from so.fits

    same : tables_after catalog h before ended ≡ D
    same = tables_same catalog own g h later before ended others

    -- what the statements of its body come to
    pub runs : run_body catalog (statements_in t.inside) D ≡ (answers_in t.inside, with_own D so.current.seen.writes)
    runs = so.current.opened.body.runs D so.fit (agrees_all catalog so.current.opened.past g so.sound so.current.seen so.current.opened.seen D so.are_images)

    serial_part : IsSerialPart catalog start ended (tables_after catalog h before ended) (ended_by t e)
    serial_part = record { answers = ap (λ d. (run_body catalog (statements_in t.inside) d).0) same ∙ ap (λ (q : List Answer × Tables). q.0) runs; busy = so.current.busy; many = subst (λ d. AreLimited catalog d [] t.inside) (sym same) so.current.many; last = unknown }

    pub ended_more : is_recorded_in h t.id ≡ is_recorded h (ended_by t e) → (after : Tables) → (if is_recorded h (ended_by t e) then (run_body catalog (statements_in t.inside) D).1 else D) ≡ after → AreImagesOf catalog h after → tables_are_well_typed catalog after ≡ true → So h (record { ended = ended ++ ended_by t e ∷ []; opened = None })
    ended_more row after is are_images fit = record {
      sound = later.sound;
      are_images = subst (AreImagesOf catalog h) (sym all) are_images;
      fit = ap (tables_are_well_typed catalog) all ∙ fit;
      rows = each_more (λ (x : Part). is_recorded_in h x.id ≡ is_recorded h x) ended (ended_by t e) (rows_same catalog own g h later ended others so.rows) row;
      parts = parts_append catalog start h [] before ended (ended_by t e) (parts_same catalog own g h later start [] before ended others so.parts) serial_part;
      current = tt;
      origins = origins_later own g h later ended (ended ++ ended_by t e ∷ []) (of_more ended (ended_by t e)) left so.origins;
      fits = each_more (λ (x : Part). x.id.0 < 2 ^ 128) ended (ended_by t e) so.fits small;
      unused = λ id new outside.
          let split = each_front (λ (x : Part). x.id ≢ id) ended (ended_by t e) outside.0 in
          unused_stays catalog own g h later id (λ o f. (subst (λ (i : TxId). i.0 < 2 ^ 128) (sym (own_id o f)) small, λ k. split.1 (sym (own_id o f) ∙ sym k))) (so.unused id new (split.0, split.1));
    }
      where
        all : tables_after catalog h before (ended ++ ended_by t e ∷ []) ≡ after
        all = tables_append catalog h before ended (ended_by t e) ∙ ap (λ d. tables_after catalog h d (ended_by t e ∷ [])) same ∙ is

  ---- the cases

  abbrev Goal : Database → List Part → Option Part → Exchange → Type 0
  Goal h ended opened e = So h (part_after ended opened e) × (IsImpossible e.answer → ⊥)

  -- nothing was recorded
  quiet_same : (g h : Database) (ended : List Part) (o : Option Part) → So g (record { ended = ended; opened = o }) → Quiet catalog g h → tables_after catalog h before ended ≡ tables_after catalog g before ended
  quiet_same g h ended o so quiet = tables_same catalog None g h (later_of catalog None g h quiet) before ended (none_other ended so.fits)

  -- outside of a transaction nothing begins
  outside_stays : (g h : Database) (ended : List Part) (e : Exchange) → So g (record { ended = ended; opened = None }) → Quiet catalog g h → begins e ≡ false → So h (part_after ended None e)
  outside_stays g h ended e so quiet stays = subst (λ b. So h (record { ended = ended; opened = if b then Some (record { id = e.id; inside = []; last = None }) else None })) (sym stays) (remade g h ended None None so quiet tt (λ id x. x))

  -- one begins
  outside_begins : (g : Database) (ended : List Part) (e : Exchange) (c : ClientAt) → So g (record { ended = ended; opened = None }) → e.says ≡ Ok statement.Begin → e.answer ≡ answer.Done → IsOutside ended None e.id → Between catalog g (Some (record { id = e.id; statements = []; answers = [] })) c → So g (part_after ended None e)
  outside_begins g ended e c so is done new left =
      subst (λ b. So g (record { ended = ended; opened = if b then Some (record { id = e.id; inside = []; last = None }) else None })) (sym goes)
      (remade g g ended None (Some (record { id = e.id; inside = []; last = None })) so (quiet_refl catalog g so.sound) (current c.txn left.txn) (λ id x. (x.0, tt)))
    where
      goes : begins e ≡ true
      goes = ap (λ s. is_begin s && is_done (Some e.answer)) is ∙ ap (λ z. is_done (Some z)) done

      current : (o : Option TxnAt) → IsTxnOf catalog g (Some (record { id = e.id; statements = []; answers = [] })) o → IsCurrent g ended (record { id = e.id; inside = []; last = None })
      current None x = absurd x
      current (Some t) x = record { seen = t.seen; opened = x.2; busy = tt; many = tt; last = refl; apart_from = new.0 }

  -- inside of one the transaction stays open
  inside_stays : (g h : Database) (ended : List Part) (t : Part) (e : Exchange) → So g (record { ended = ended; opened = Some t }) → Quiet catalog g h → ends e ≡ false → IsCurrent h ended (record { id = t.id; inside = t.inside ++ e ∷ []; last = None }) → So h (part_after ended (Some t) e)
  inside_stays g h ended t e so quiet stays current =
      subst (λ b. So h (if b then record { ended = ended ++ record { id = t.id; inside = t.inside; last = Some e } ∷ []; opened = None } else record { ended = ended; opened = Some (record { id = t.id; inside = t.inside ++ e ∷ []; last = None }) })) (sym stays)
      (remade g h ended (Some t) (Some (record { id = t.id; inside = t.inside ++ e ∷ []; last = None })) so quiet current (λ id x. x))

  -- a statement more that changed nothing
  same_current : (g h : Database) (ended : List Part) (t : Part) (e : Exchange) (s : Seen) → IsCurrent g ended t → changes_nothing e.answer ≡ true → OpenAlone catalog h (statements_in t.inside) (answers_in t.inside) t.id s → IfBusy e.answer (IsBusyAlone start ended e) → tables_after catalog h before ended ≡ tables_after catalog g before ended → IsLimited catalog (tables_after catalog g before ended) t.inside e → IsCurrent h ended (record { id = t.id; inside = t.inside ++ e ∷ []; last = None })
  same_current g h ended t e s was nothing opened busy same many = record {
    seen = s;
    opened = subst (λ (bs : List (Statement × Answer)). OpenAlone catalog h (map (λ b. b.0) bs) (map (λ b. b.1) bs) t.id s) (sym (none_open t.inside e nothing)) opened;
    busy = each_more (λ x. IfBusy x.answer (IsBusyAlone start ended x)) t.inside e was.busy busy;
    many = subst (λ d. AreLimited catalog d [] (t.inside ++ e ∷ [])) (sym same) (many_append catalog (tables_after catalog g before ended) [] t.inside e was.many many);
    last = refl;
    apart_from = was.apart_from;
  }

  -- and one that is in its body
  more_current : (g h : Database) (ended : List Part) (t : Part) (e : Exchange) (st : Statement) (s : Seen) → IsCurrent g ended t → e.says ≡ Ok st → changes_nothing e.answer ≡ false → OpenAlone catalog h (statements_in t.inside ++ st ∷ []) (answers_in t.inside ++ e.answer ∷ []) t.id s → IfBusy e.answer (IsBusyAlone start ended e) → tables_after catalog h before ended ≡ tables_after catalog g before ended → IsLimited catalog (tables_after catalog g before ended) t.inside e → IsCurrent h ended (record { id = t.id; inside = t.inside ++ e ∷ []; last = None })
  more_current g h ended t e st s was says something opened busy same many = record {
    seen = s;
    opened = subst (λ (bs : List (Statement × Answer)). OpenAlone catalog h (map (λ b. b.0) bs) (map (λ b. b.1) bs) t.id s) (sym (one_open t.inside e st says something))
        (subst (λ ss. OpenAlone catalog h ss (map (λ b. b.1) (body_in t.inside ++ (st, e.answer) ∷ [])) t.id s) (sym (map_last (λ (b : Statement × Answer). b.0) (body_in t.inside) (st, e.answer))) (subst (λ zs. OpenAlone catalog h (statements_in t.inside ++ st ∷ []) zs t.id s) (sym (map_last (λ (b : Statement × Answer). b.1) (body_in t.inside) (st, e.answer))) opened));
    busy = each_more (λ x. IfBusy x.answer (IsBusyAlone start ended x)) t.inside e was.busy busy;
    many = subst (λ d. AreLimited catalog d [] (t.inside ++ e ∷ [])) (sym same) (many_append catalog (tables_after catalog g before ended) [] t.inside e was.many many);
    last = refl;
    apart_from = was.apart_from;
  }

  -- the transaction ends
  inside_ends : (h : Database) (ended : List Part) (t : Part) (e : Exchange) → ends e ≡ true → So h (record { ended = ended ++ ended_by t e ∷ []; opened = None }) → So h (part_after ended (Some t) e)
  inside_ends h ended t e goes so = subst (λ b. So h (if b then record { ended = ended ++ record { id = t.id; inside = t.inside; last = Some e } ∷ []; opened = None } else record { ended = ended; opened = Some (record { id = t.id; inside = t.inside ++ e ∷ []; last = None }) })) (sym goes) so

  -- Busy has its cause
  busy_cause : (h : Database) (ended : List Part) (e : Exchange) (p : Planned) (a : Access) → e.says ≡ Ok p.statement → IsAskedFor catalog p a → Origins h ended → (z : Answer) → IdleAlone h a e.moment z → IfBusy z (IsBusyAlone start ended e)
  busy_cause h ended e p a says asked origins (answer.Busy key id at) why =
      let b = why.1 in
      let of = meta_of b.r b.meta b.unresolved b.says in
      record {
        st = p.statement;
        says = says;
        names = asked_names catalog p a asked key why.0;
        origin = origins key b.r id at (asked.tables key why.0) b.present of.held (of.writer ∙ ap (λ x. Some x) (sym b.writer)) (prepared_moment b.r b.meta b.says ∙ ap (λ x. Some x) (sym b.moment)) b.undecided;
        early = b.early;
      }
  busy_cause h ended e p a says asked origins (answer.Refused r) why = tt
  busy_cause h ended e p a says asked origins answer.Faulted why = tt
  busy_cause h ended e p a says asked origins answer.NoMemory why = tt
  busy_cause h ended e p a says asked origins z why = absurd why

  ---- one statement

  and_false : (b : Bool) → (b && false) ≡ false
  and_false true = refl
  and_false false = refl

  still : (g h : Database) → IsSound catalog g → h ≡ g → Quiet catalog g h
  still g h sound same = subst (Quiet catalog g) (sym same) (quiet_refl catalog g sound)

  opened_of : (g : Database) (b : OpenTransaction) (o : Option TxnAt) → IsTxnOf catalog g (Some b) o → (s : Seen) × OpenAlone catalog g b.statements b.answers b.id s
  opened_of g b None x = absurd x
  opened_of g b (Some t) x = (t.seen, x.2)

  outside_step : (ended : List Part) (g h : Database) (e : Exchange) (c : ClientAt) → So g (record { ended = ended; opened = None }) → ((k : Key) (r : Record) → h k ≡ Some r → r.key ≡ k) → (begins e ≡ true → IsOutside ended None e.id) → Exchanged catalog g None e h c → Goal h ended None e
  outside_step ended g h e c so own_h new (Answers (Turned away same left)) =
      let a = away_none catalog e.says e.answer away in
      (outside_stays g h ended e so (still g h so.sound same) (ap (λ b. b && is_done (Some e.answer)) a.begin), (mild_meek e.answer (inr a.mild)).0.never)
  outside_step ended g h e c so own_h new (Answers (Begun is none done same left)) = (
    subst (λ j. So j (part_after ended None e)) (sym same) (outside_begins g ended e c so is done (new (ap (λ s. is_begin s && is_done (Some e.answer)) is ∙ ap (λ z. is_done (Some z)) done)) (subst (λ j. Between catalog j (Some (record { id = e.id; statements = []; answers = [] })) c) same left)),
    subst (λ z. IsImpossible z → ⊥) (sym done) (λ x. x),
  )
  outside_step ended g h e c so own_h new (Answers (RolledBack b is some done unmoved left)) = none_some b some
  outside_step ended g h e c so own_h new (Answers (Answered b st p a s is of asked stays some resolves x y)) = none_some b some
  outside_step ended g h e c so own_h new (Answers (Ended b s is some opened later ends left)) = none_some b some
  outside_step ended g h e c so own_h new (Answers (Vacuumed is none quiet all left)) = (outside_stays g h ended e so quiet (ap (λ s. is_begin s && is_done (Some e.answer)) is), never all)
    where
      never : VacuumedBy catalog g h e.moment e.answer → IsImpossible e.answer → ⊥
      never (inl f) = subst (λ z. IsImpossible z → ⊥) (sym f) (λ x. x)
      never (inr (inl f)) = subst (λ z. IsImpossible z → ⊥) (sym f) (λ x. x)
      never (inr (inr x)) = subst (λ z. IsImpossible z → ⊥) (sym x.1) (λ y. y)
  outside_step ended g h e c so own_h new (OutOfMemory none same commit other) =
      (outside_stays g h ended e so (still g h so.sound same) (ap (λ z. is_begin e.says && is_done (Some z)) none ∙ and_false (is_begin e.says)), subst (λ z. IsImpossible z → ⊥) (sym none) (λ x. x))

  module _ (ended : List Part) (t : Part) (g h : Database) (e : Exchange) (c : ClientAt) (so : So g (record { ended = ended; opened = Some t })) (own_h : (k : Key) (r : Record) → h k ≡ Some r → r.key ≡ k) where
    abbrev Inside : Type 0
    Inside = Goal h ended (Some t) e

    -- the client is where it was
    goes_on : (s : Seen) → h ≡ g → OpenAlone catalog h (statements_in t.inside) (answers_in t.inside) t.id s → ends e ≡ false → changes_nothing e.answer ≡ true → IfBusy e.answer (IsBusyAlone start ended e) → (rejected catalog true e.says ≡ None → is_too_many e.answer ≡ true → ⊥) → So h (part_after ended (Some t) e)
    goes_on s same opened stays nothing busy other = inside_stays g h ended t e so (still g h so.sound same) stays (same_current g h ended t e s so.current nothing opened busy (quiet_same g h ended (Some t) so (still g h so.sound same)) (few_nothing catalog (tables_after catalog g before ended) t.inside e nothing other))

    -- it ends, and is not recorded
    unrecorded : (own : Option Own) → ((o : Own) → own ≡ Some o → o.id ≡ t.id) → Later catalog own g h → ((o : Own) → own ≡ Some o → IsUndecided h o.id → IsOfSession (ended ++ ended_by t e ∷ []) o.id o.at) → IfUnknown e.answer (λ id. id ≡ t.id) → ends e ≡ true → is_recorded_in h t.id ≡ false → is_recorded_by h t.id e.answer ≡ false → AreImagesOf catalog h (tables_after catalog g before ended) → So h (part_after ended (Some t) e)
    unrecorded own own_id later left unknown goes bare none are_images =
        inside_ends h ended t e goes (ended_more g h ended t so own own_id later e left unknown (bare ∙ sym none) (tables_after catalog g before ended) (ap (λ b. if b then (run_body catalog (statements_in t.inside) (tables_after catalog g before ended)).1 else tables_after catalog g before ended) none) are_images so.fit)

    -- its id is new, and so it has no row
    no_row : h ≡ g → is_recorded_in h t.id ≡ false
    no_row same = ap (λ (j : Database). is_recorded_in j t.id) same ∙ ap (λ o. is_committed_by (row_at o)) so.current.opened.new.undecided

    none_own : (o : Own) → None ≡ Some o → o.id ≡ t.id
    none_own o f = none_some o f

    none_left : (o : Own) → None ≡ Some o → IsUndecided h o.id → IsOfSession (ended ++ ended_by t e ∷ []) o.id o.at
    none_left o f = none_some o f

    turned_step : rejected catalog true e.says ≡ Some e.answer → h ≡ g → Between catalog h (Some (transaction_of t)) c → Inside
    turned_step away same left =
        let a = away_open catalog e.says e.answer away in
        let m = mild_meek e.answer a.mild in
        let o = opened_of h (transaction_of t) c.txn left.txn in
        (goes_on o.0 same o.1 (stays_by e a.commit m.0.conflict a.rollback) m.1 (m.2 (IsBusyAlone start ended e)) (λ stays many. none_some e.answer (sym stays ∙ away)), m.0.never)

    rolled_step : e.says ≡ Ok statement.Rollback → e.answer ≡ answer.Done → h ≡ g → Inside
    rolled_step is done same = (
      unrecorded None none_own (later_of catalog None g h (still g h so.sound same)) none_left (subst (λ z. IfUnknown z (λ id. id ≡ t.id)) (sym done) tt)
          (ap (λ s. is_commit s || (is_conflict (Some e.answer) || (is_rollback s && is_done (Some e.answer)))) is ∙ ap (λ z. is_conflict (Some z) || is_done (Some z)) done)
          (no_row same) (ap (is_recorded_by h t.id) done) (subst (λ j. AreImagesOf catalog j (tables_after catalog g before ended)) (sym same) so.are_images),
      subst (λ z. IsImpossible z → ⊥) (sym done) (λ x. x),
    )

    answered_step : (st : Statement) (p : Planned) (a : Access) (s : Seen) → e.says ≡ Ok st → p.statement ≡ st → IsAskedFor catalog p a → OnlyResolves catalog g h → AnsweredAlone catalog h (statements_in t.inside) (answers_in t.inside) st a e.moment t.id e.answer s → Inside
    answered_step st p a s is of asked resolves (Kept nothing why many opened) =
        let m = idle_meek h a e.moment e.answer why in
        let quiet = quiet_of catalog g h so.sound own_h resolves in
        let word = no_word catalog p.statement p.table asked.named in
        let says = is ∙ ap (λ x. Ok x) (sym of) in
        let origins = origins_later None g h (later_of catalog None g h quiet) ended ended (λ id at x. x) (λ o f. none_some o f) so.origins in
        (inside_stays g h ended t e so quiet (stays_by e (ap is_commit says ∙ word.commit) m.conflict (ap is_rollback says ∙ word.rollback)) (same_current g h ended t e s so.current nothing opened (busy_cause h ended e p a says asked origins e.answer why) (quiet_same g h ended (Some t) so quiet) (record { fits = λ x f stays passes. nothing; too_many = λ x f stays replied. subst (λ (y : Statement). passes_most catalog y (run_body catalog (statements_in t.inside) (tables_after catalog g before ended)).1 (keys_of_body catalog (statements_in t.inside) (tables_after catalog g before ended) []) ≡ true) (ok_is e.says st x is f) (many replied (tables_after catalog g before ended) (quiet_images g h quiet (tables_after catalog g before ended) so.are_images) so.fit) })), m.never)
    answered_step st p a s is of asked resolves (Added rows few opened) =
        let m = rows_meek e.answer rows in
        let quiet = quiet_of catalog g h so.sound own_h resolves in
        let word = no_word catalog p.statement p.table asked.named in
        let says = is ∙ ap (λ x. Ok x) (sym of) in
        (inside_stays g h ended t e so quiet (stays_by e (ap is_commit says ∙ word.commit) m.0.conflict (ap is_rollback says ∙ word.rollback)) (more_current g h ended t e st s so.current is (rows_change e.answer rows) opened (m.1 (IsBusyAlone start ended e)) (quiet_same g h ended (Some t) so quiet) (record { fits = λ x f stays passes. false_true (sym (few (tables_after catalog g before ended) (quiet_images g h quiet (tables_after catalog g before ended) so.are_images) so.fit) ∙ subst (λ (y : Statement). passes_most catalog y (run_body catalog (statements_in t.inside) (tables_after catalog g before ended)).1 (keys_of_body catalog (statements_in t.inside) (tables_after catalog g before ended) []) ≡ true) (sym (ok_is e.says st x is f)) passes); too_many = λ x f stays replied. false_true (sym (rows_few e.answer rows) ∙ replied) })), m.0.never)

    commit_goes : e.says ≡ Ok statement.Commit → ends e ≡ true
    commit_goes is = ap (λ s. is_commit s || (is_conflict (Some e.answer) || (is_rollback s && is_done (Some e.answer)))) is

    -- what its COMMIT left
    left_by_answer : e.says ≡ Ok statement.Commit → leaves_records e.answer ≡ true → (o : Own) → Some (record { id = t.id; at = e.moment }) ≡ Some o → IsOfSession (ended ++ ended_by t e ∷ []) o.id o.at
    left_by_answer is leaves o f = subst (λ (x : Own). IsOfSession (ended ++ ended_by t e ∷ []) x.id x.at) (some_is _ o f) (record { t = ended_by t e; e = e; among = Contains-append_right ended (ended_by t e ∷ []) (ended_by t e) (0, omega arith, refl); own = refl; commit = refl; commits = ap is_commit is; left = leaves; moment = refl })

    own_is : (o : Own) → Some (record { id = t.id; at = e.moment }) ≡ Some o → o.id ≡ t.id
    own_is o f = sym (ap (λ (x : Own). x.id) (some_is _ o f))

    abbrev E : Tables
    E = tables_after catalog g before ended

    won_step : (s : Seen) → e.says ≡ Ok statement.Commit → OpenAlone catalog g (statements_in t.inside) (answers_in t.inside) t.id s → Later catalog (Some (record { id = t.id; at = e.moment })) g h → (e.answer ≡ answer.Committed) ⊎ (e.answer ≡ answer.Unknown t.id) → IsCommittedAt h t.id e.moment → AreImagesOf catalog h (with_own E s.writes) → Inside
    won_step s is opened later replied decided are_images = (
      inside_ends h ended t e (commit_goes is) (ended_more g h ended t so (Some (record { id = t.id; at = e.moment })) own_is later e
          (λ o f none. none_some _ (sym (ap (row_at) (subst (IsUndecided h) (own_is o f) none)) ∙ decided))
          (unknown replied) (held ∙ sym (recorded replied)) (with_own E s.writes) (ap (λ b. if b then (run_body catalog (statements_in t.inside) E).1 else E) (recorded replied) ∙ ap (λ (q : List Answer × Tables). q.1) (opened.body.runs E so.fit agree)) are_images (opened.body.fits E so.fit agree)),
      never replied,
    )
      where
        agree : AgreesAll s E
        agree = agrees_all catalog opened.past g so.sound s opened.seen E so.are_images

        held : is_recorded_in h t.id ≡ true
        held = ap is_committed_by decided

        recorded : (e.answer ≡ answer.Committed) ⊎ (e.answer ≡ answer.Unknown t.id) → is_recorded_by h t.id e.answer ≡ true
        recorded (inl f) = ap (is_recorded_by h t.id) f
        recorded (inr f) = ap (is_recorded_by h t.id) f ∙ held

        unknown : (e.answer ≡ answer.Committed) ⊎ (e.answer ≡ answer.Unknown t.id) → IfUnknown e.answer (λ id. id ≡ t.id)
        unknown (inl f) = subst (λ z. IfUnknown z (λ id. id ≡ t.id)) (sym f) tt
        unknown (inr f) = subst (λ z. IfUnknown z (λ id. id ≡ t.id)) (sym f) refl

        never : (e.answer ≡ answer.Committed) ⊎ (e.answer ≡ answer.Unknown t.id) → IsImpossible e.answer → ⊥
        never (inl f) = subst (λ z. IsImpossible z → ⊥) (sym f) (λ x. x)
        never (inr f) = subst (λ z. IsImpossible z → ⊥) (sym f) (λ x. x)

    lost_step : e.says ≡ Ok statement.Commit → Later catalog (Some (record { id = t.id; at = e.moment })) g h → (e.answer ≡ answer.Faulted) ⊎ ((e.answer ≡ answer.NoMemory) ⊎ (e.answer ≡ answer.Unknown t.id)) → IsUndecided h t.id ⊎ IsAborted h t.id → AreImagesOf catalog h E → Inside
    lost_step is later replied decided are_images = (
      unrecorded (Some (record { id = t.id; at = e.moment })) own_is later (λ o f none. left_by_answer is (leaves replied) o f) (unknown replied) (commit_goes is) (held decided) (unrecorded_by replied) are_images,
      never replied,
    )
      where
        held : IsUndecided h t.id ⊎ IsAborted h t.id → is_recorded_in h t.id ≡ false
        held (inl none) = ap (λ o. is_committed_by (row_at o)) none
        held (inr a) = aborted_not (decided_in h t.id) a

        leaves : (e.answer ≡ answer.Faulted) ⊎ ((e.answer ≡ answer.NoMemory) ⊎ (e.answer ≡ answer.Unknown t.id)) → leaves_records e.answer ≡ true
        leaves (inl f) = ap leaves_records f
        leaves (inr (inl f)) = ap leaves_records f
        leaves (inr (inr f)) = ap leaves_records f

        unrecorded_by : (e.answer ≡ answer.Faulted) ⊎ ((e.answer ≡ answer.NoMemory) ⊎ (e.answer ≡ answer.Unknown t.id)) → is_recorded_by h t.id e.answer ≡ false
        unrecorded_by (inl f) = ap (is_recorded_by h t.id) f
        unrecorded_by (inr (inl f)) = ap (is_recorded_by h t.id) f
        unrecorded_by (inr (inr f)) = ap (is_recorded_by h t.id) f ∙ held decided

        unknown : (e.answer ≡ answer.Faulted) ⊎ ((e.answer ≡ answer.NoMemory) ⊎ (e.answer ≡ answer.Unknown t.id)) → IfUnknown e.answer (λ id. id ≡ t.id)
        unknown (inl f) = subst (λ z. IfUnknown z (λ id. id ≡ t.id)) (sym f) tt
        unknown (inr (inl f)) = subst (λ z. IfUnknown z (λ id. id ≡ t.id)) (sym f) tt
        unknown (inr (inr f)) = subst (λ z. IfUnknown z (λ id. id ≡ t.id)) (sym f) refl

        never : (e.answer ≡ answer.Faulted) ⊎ ((e.answer ≡ answer.NoMemory) ⊎ (e.answer ≡ answer.Unknown t.id)) → IsImpossible e.answer → ⊥
        never (inl f) = subst (λ z. IsImpossible z → ⊥) (sym f) (λ x. x)
        never (inr (inl f)) = subst (λ z. IsImpossible z → ⊥) (sym f) (λ x. x)
        never (inr (inr f)) = subst (λ z. IsImpossible z → ⊥) (sym f) (λ x. x)

    ended_step : (s : Seen) → e.says ≡ Ok statement.Commit → OpenAlone catalog g (statements_in t.inside) (answers_in t.inside) t.id s → Later catalog (Some (record { id = t.id; at = e.moment })) g h → CommitEnds catalog g h t.id e.moment s e.answer → Inside
    ended_step s is opened later (Won replied decided left written) = won_step s is opened later replied decided (left E so.are_images)
    ended_step s is opened later (Lost replied decided left images) = lost_step is later replied decided (left E so.are_images)

    starved_step : e.answer ≡ answer.NoMemory → h ≡ g → (is_commit e.says ≡ false → Between catalog h (Some (transaction_of t)) c) → Inside
    starved_step none same other = (by (is_commit e.says) refl, subst (λ z. IsImpossible z → ⊥) (sym none) (λ x. x))
      where
        by : (b : Bool) → is_commit e.says ≡ b → So h (part_after ended (Some t) e)
        by true f = unrecorded None none_own (later_of catalog None g h (still g h so.sound same)) none_left (subst (λ z. IfUnknown z (λ id. id ≡ t.id)) (sym none) tt) (ap (λ b. b || (is_conflict (Some e.answer) || (is_rollback e.says && is_done (Some e.answer)))) f) (no_row same) (ap (is_recorded_by h t.id) none) (subst (λ j. AreImagesOf catalog j E) (sym same) so.are_images)
        by false f =
            let o = opened_of h (transaction_of t) c.txn (other f).txn in
            goes_on o.0 same o.1 (ap (λ b. b || (is_conflict (Some e.answer) || (is_rollback e.says && is_done (Some e.answer)))) f ∙ ap (λ z. is_conflict (Some z) || (is_rollback e.says && is_done (Some z))) none ∙ and_false (is_rollback e.says)) (ap changes_nothing none) (subst (λ z. IfBusy z (IsBusyAlone start ended e)) (sym none) tt) (λ stays many. false_true (sym (ap is_too_many none) ∙ many))

    inside_step : Exchanged catalog g (Some (transaction_of t)) e h c → Inside
    inside_step (Answers (Turned away unmoved left)) = turned_step away unmoved left
    inside_step (Answers (Begun is none done unmoved left)) = none_some (transaction_of t) (sym none)
    inside_step (Answers (RolledBack b is some done unmoved left)) = rolled_step is done unmoved
    inside_step (Answers (Answered b st p a s is of asked stays some resolves x y)) = answered_step st p a s is of asked resolves (subst (λ (z : OpenTransaction). AnsweredAlone catalog h z.statements z.answers st a e.moment z.id e.answer s) (sym (some_is (transaction_of t) b some)) x)
    inside_step (Answers (Ended b s is some opened later ends left)) =
        let same = sym (some_is (transaction_of t) b some) in
        ended_step s is (subst (λ (z : OpenTransaction). OpenAlone catalog g z.statements z.answers z.id s) same opened) (subst (λ (z : OpenTransaction). Later catalog (Some (record { id = z.id; at = e.moment })) g h) same later) (subst (λ (z : OpenTransaction). CommitEnds catalog g h z.id e.moment s e.answer) same ends)
    inside_step (Answers (Vacuumed is none quiet all left)) = none_some (transaction_of t) (sym none)
    inside_step (OutOfMemory none same commit other) = starved_step none same other

  ---- the whole

  pub step : (p : Parts) (g h : Database) (e : Exchange) (c : ClientAt) → So g p → ((k : Key) (r : Record) → h k ≡ Some r → r.key ≡ k) → (begins e ≡ true → IsOutside p.ended p.opened e.id) → Exchanged catalog g (open_of p.opened) e h c → So h (parts_after p e) × (IsImpossible e.answer → ⊥)
  step p g h e c so own_h new x = by p.opened refl
    where
      by : (o : Option Part) → p.opened ≡ o → So h (parts_after p e) × (IsImpossible e.answer → ⊥)
      by None f =
          let q = outside_step p.ended g h e c (subst (λ o. So g (record { ended = p.ended; opened = o })) f so) own_h (subst (λ o. begins e ≡ true → IsOutside p.ended o e.id) f new) (subst (λ o. Exchanged catalog g (open_of o) e h c) f x) in
          (subst (λ o. So h (part_after p.ended o e)) (sym f) q.0, q.1)
      by (Some t) f =
          let q = inside_step p.ended t g h e c (subst (λ o. So g (record { ended = p.ended; opened = o })) f so) own_h (subst (λ o. Exchanged catalog g (open_of o) e h c) f x) in
          (subst (λ o. So h (part_after p.ended o e)) (sym f) q.0, q.1)

  -- each BEGIN has an id that none of the transactions before it has
  abbrev pub AreFresh : Parts → List Exchange → Type 0
  AreFresh p [] = Unit {0}
  AreFresh p (e ∷ es) = (begins e ≡ true → IsOutside p.ended p.opened e.id) × AreFresh (parts_after p e) es

  pub session_at : (p : Parts) (g : Database) (es : List Exchange) (last : Database) → So g p → AreFresh p es → Chain catalog g p es last → So last (fold parts_after p es) × AllByRecursion (λ e. IsImpossible e.answer → ⊥) es
  session_at p g [] last so new is = (subst (λ j. So j p) (sym is) so, tt)
  session_at p g (e ∷ es) last so new (h, c, own_h, x, rest) =
      let q = step p g h e c so own_h new.0 x in
      let r = session_at (parts_after p e) h es last q.0 new.1 rest in
      (r.0, (q.1, r.1))

  -- the open one too
  pub all_serial : (g : Database) (p : Parts) → So g p → AreSerialParts catalog start g [] before (all_parts p)
  all_serial g p so = by p.opened so.current
    where
      by : (o : Option Part) → IfSome o (IsCurrent g p.ended) → AreSerialParts catalog start g [] before (p.ended ++ option_map_or (λ t. t ∷ []) o [])
      by None x = subst (AreSerialParts catalog start g [] before) (sym (append-nil p.ended)) so.parts
      by (Some t) x = parts_append catalog start g [] before p.ended t so.parts (record {
        answers = ap (λ (q : List Answer × Tables). q.0) (x.opened.body.runs (tables_after catalog g before p.ended) so.fit (agrees_all catalog x.opened.past g so.sound x.seen x.opened.seen (tables_after catalog g before p.ended) so.are_images));
        busy = x.busy;
        many = x.many;
        last = subst (λ o. IfSome o (λ e. IfUnknown e.answer (λ id. id ≡ t.id))) (sym x.last) tt;
      })

  -- before its first statement
  pub begins_serial : IsSound catalog start → AreImagesOf catalog start before → tables_are_well_typed catalog before ≡ true → So start no_parts
  begins_serial sound are_images fit = record {
    sound = sound;
    are_images = are_images;
    fit = fit;
    rows = tt;
    parts = tt;
    current = tt;
    origins = λ k r id at listed e loose writer moment none. inl (record { r = r; present = e; loose = loose; writer = writer; moment = moment; undecided = none });
    fits = tt;
    unused = λ id n outside. n;
  }
