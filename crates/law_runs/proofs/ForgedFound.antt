-- Statements of a transaction that are answered otherwise than on what they found are refused.
use Rattle.std.proofs.Common.{◌≡◌, ◌⊎◌, inl, inr, ◌+◌, ℕ, ℤ, zero, suc, pos, Bool, true, false, not, cond, List, [], ◌∷◌, ◌++◌, map, take, Option, Some, None, refl, sym, ap, subst, ◌∙◌, arith}
use Rattle.std.specs.Prelude.{◌&&◌, if◌then◌else◌, filter, find, is_some, length, ◌||◌}
use Rattle.std.specs.Cmp.{tied_itself}
use Rattle.std.specs.FinMap.{empty, entries, entries-insert, get, get-insert, get-remove, insert, len-empty, len-entries, put, get-empty, same_map}
use Rattle.std.specs.List.{flat_map, list_any}
use Rattle.std.specs.Option.{option_and_then, option_map_or}
use Rattle.std.specs.Ordering.{is_eq}
use Rattle.law_runs.specs.Types.{Answer, Event, Image, Key, Pair, Record, Reply, Request, Statement, Table, Test, TxId, Value}
use Rattle.sdb_types.specs.declared.record.Reply.TheVariants as reply
use Rattle.sdb_types.specs.declared.record.Request.TheVariants as ask
use Rattle.sdb_types.specs.Order.{key_cmp, table_cmp, same_key}
use Rattle.sdb_types.proofs.Public.{and_false, clash, key_exact, key_total, same_key_self, table_total}
use Rattle.std.proofs.lemmas.List.Elements.{Contains-push}
use Rattle.sdb_record.specs.Coordinator.{is_coordinator_table}
use Rattle.sdb_record.specs.Parts.{user_columns}
use Rattle.sdb_model.specs.declared.answer.Answer.TheVariants as answer
use Rattle.sdb_model.specs.declared.event.How.TheVariants.{Seen}
use Rattle.sdb_model.specs.Access.{in_access, with_row}
use Rattle.sdb_model.specs.Reads.{access_of}
use Rattle.sdb_model.specs.Calls.{StoreCall, calls_of, put_by}
use Rattle.sdb_model.specs.Catalogs.{catalog_after}
use Rattle.sdb_model.specs.Causes.{before}
use Rattle.sdb_model.specs.Exec.{Tables, answer_of, cut, exec, exec_in, left_by, nat_of, passes, passing, row_of_entry, projected, sorted, with_named}
use Rattle.sdb_model.specs.Sql.{Reads, reads_commit}
use Rattle.sdb_model.specs.Transactions.{Executed, begins, changes_nothing, from_begin, is_effective, rest_of, statements_by, through_end, statements_of, ends}
use Rattle.sdb_sqltext.proofs.Public.{one_statement}
use Rattle.law_clients.specs.Fitting.{row_is_well_typed}
use Rattle.law_clients.proofs.Public.{other_no_commit}
use Rattle.law_answers.proofs.Public.{effective_by, IsMiddle, middle_ends}
use Rattle.law_runs.specs.Forged.{FindsMisfit, FindsRow, InsertOn, SelectOn, IsCommittedRow, StatementOn, UpdateOn, answered_after, answered_at_once, counts_over, counts_twice, counts_unread, duplicates_none, insert_key, leaves_out, answers_rows, answers_two, answers_unread, reads_again, FindsUnresolved, answers_unrolled}
use Rattle.sdb_model.specs.ReadSet.{has_read, meaning_of, rolls}
use Rattle.law_runs.specs.Found.{IsRunOnFound, RunsOnFound, RunsUnder, View, exec_on, found_by, found_in, is_answered, is_misfit_row, meets_misfit, nothing_found, run_on_found, run_one, with_found, with_one_found, ReadsAreNew, was_found, AllRunAs, takes_part}
use Rattle.law_runs.proofs.Running.{is_running, run_by, running, running_more}

---- the statements of the first transaction of client 1

abbrev first : TxId
first = record { 0 = 18446744073709551617 }

pub since_first : (b : Executed) (ss : List Executed) → begins b ≡ true → rest_of (from_begin 1 (b ∷ ss)) ≡ ss
since_first b ss e = ap (λ t. rest_of (if t then b ∷ ss else from_begin 1 ss)) e

runs_of : (catalog : List Table) (events : List Event) (b : Executed) (ss : List Executed) → RunsOnFound catalog events → begins b ≡ true → statements_by 1 events ≡ b ∷ ss → RunsUnder catalog events 1 (running events 1 ss)
runs_of catalog events b ss law e same = subst (λ xs. RunsUnder catalog events 1 (running events 1 xs)) (ap (λ xs. rest_of (from_begin 1 xs)) same ∙ since_first b ss e) (law first)

-- its first statement was accepted under the catalog itself
run_itself : (catalog : List Table) (events : List Event) (s : Executed) (ss : List Executed) → catalog_after catalog (before s events) ≡ catalog → RunsUnder catalog events 1 (s ∷ ss) → IsRunOnFound catalog events 1 (s ∷ ss)
run_itself catalog events s ss same r = subst (λ (ts : List Table). IsRunOnFound ts events 1 (s ∷ ss)) (sym r.1.0 ∙ same) r.2

-- a statement that reads rows, which is answered so
pub record IsPlain (s : Executed) (st : Statement) (b : Answer) : Type 0 where
  pub reads : Reads s.text st
  pub answered : s.answer ≡ Some b
  pub middle : IsMiddle b
  pub changes : changes_nothing b ≡ false
  pub no_commit : reads_commit s.text ≡ false

runs_plain : (events : List Event) (s : Executed) (st : Statement) (b : Answer) → IsPlain s st b → is_running events 1 s ≡ true
runs_plain events s st b h =
    ap (λ x. not x && takes_part events 1 s && is_answered s) (middle_ends s b h.answered h.middle h.no_commit)
    ∙ ap (λ x. (x || has_read events 1 s) && is_answered s) (effective_by s b false h.answered h.changes)
    ∙ ap is_some h.answered

pub one_running : (events : List Event) (s : Executed) (st : Statement) (b : Answer) → IsPlain s st b → running events 1 (s ∷ []) ≡ s ∷ []
one_running events s st b h = running_more events 1 [] s tt ∙ ap (λ t. if t then s ∷ [] else []) (runs_plain events s st b h)

two_running : (events : List Event) (s z : Executed) (st : Statement) (a b : Answer) → IsPlain s st a → IsPlain z st b → running events 1 (s ∷ z ∷ []) ≡ s ∷ z ∷ []
two_running events s z st a b h k =
    running_more events 1 (s ∷ []) z (middle_ends s a h.answered h.middle h.no_commit, tt)
    ∙ ap (λ xs. xs ++ (if is_running events 1 z then z ∷ [] else [])) (one_running events s st a h)
    ∙ ap (λ t. s ∷ (if t then z ∷ [] else [])) (runs_plain events z st b k)

---- what it is answered

-- what a statement finds first
abbrev first_found : List Table → List Event → Executed → View
first_found catalog events s = with_found catalog nothing_found (found_by (calls_of events 1 s))

-- one statement, on what it found, which meets no row that doesn't fit
one_answer : (catalog : List Table) (events : List Event) (s : Executed) (st : Statement) (b : Answer) → is_effective s ≡ true → Reads s.text st → s.answer ≡ Some b → IsRunOnFound catalog events 1 (s ∷ [])
    → (meets_misfit catalog st (first_found catalog events s) ≡ false) × ((exec catalog st (first_found catalog events s).rows).0 ≡ b)
one_answer catalog events s st b effective reads answered r = by r.statements r.run (sym (ap (λ t. map (λ (x : Executed). x.answer) (if t then s ∷ [] else [])) effective) ∙ r.answers)
  where
    pick : (v : View) (y : Statement) (t : Bool) → meets_misfit catalog y v ≡ t → s.answer ∷ [] ≡ map Some ((run_by catalog y v t).0 ++ []) → (meets_misfit catalog y v ≡ false) × ((exec catalog y v.rows).0 ≡ b)
    pick v y true m e = absurd (cc)
    pick v y false m e =
        let is : Some b ∷ [] ≡ Some (exec catalog y v.rows).0 ∷ [] = ap (λ (o : Option Answer). o ∷ []) (sym answered) ∙ e in
        let here : b ≡ (exec catalog y v.rows).0 = cc in
        (m, sym here)

    by : (sts : List (Option Statement)) → AllRunAs (s ∷ []) sts → s.answer ∷ [] ≡ map Some (run_on_found catalog (found_by (calls_of events 1 s) ∷ []) sts nothing_found).0
        → (meets_misfit catalog st (first_found catalog events s) ≡ false) × ((exec catalog st (first_found catalog events s).rows).0 ≡ b)
    by [] h e = absurd h
    by (y ∷ z ∷ zs) h e = absurd h.1
    by (None ∷ []) h e = clash (sym effective ∙ h.0)
    by (Some y ∷ []) h e =
        subst (λ (k : Statement). (meets_misfit catalog k (first_found catalog events s) ≡ false) × ((exec catalog k (first_found catalog events s).rows).0 ≡ b)) (one_statement s.text y st h.0.1 reads)
        (pick (first_found catalog events s) y (meets_misfit catalog y (first_found catalog events s)) refl e)

-- two that read as one statement, the second on what the first left
module _ (catalog : List Table) (events : List Event) (s z : Executed) (b : Answer) (answered : z.answer ≡ Some b) where
  -- the view of the second, after the first left one
  abbrev then_found : View → View
  then_found v = with_found catalog v (found_by (calls_of events 1 z))

  -- what the second is answered
  abbrev Then : View → Statement → Statement → Type 0
  Then v y x = (exec catalog x (then_found (exec_on catalog y v).1).rows).0 ≡ b

  too_few : (x : Statement) (v : View) (u : Bool) → s.answer ∷ z.answer ∷ [] ≡ map Some ((run_by catalog x v u).0 ++ []) → ⊥
  too_few x v true e = cc
  too_few x v false e = cc

  second : (v : View) (y x : Statement) (u : Bool) → s.answer ∷ z.answer ∷ [] ≡ map Some ((exec_on catalog y v).0 ∷ ((run_by catalog x (then_found (exec_on catalog y v).1) u).0 ++ [])) → Then v y x
  second v y x true e = absurd (cc)
  second v y x false e =
      let is : z.answer ≡ Some (exec catalog x (then_found (exec_on catalog y v).1).rows).0 = cc in
      let here : b ≡ (exec catalog x (then_found (exec_on catalog y v).1).rows).0 = let k = sym answered ∙ is in cc in
      sym here

  two_given : (v : View) (y x : Statement) (t : Bool) → s.answer ∷ z.answer ∷ [] ≡ map Some ((run_by catalog y v t).0 ++ ((run_one catalog (Some x) (then_found (run_by catalog y v t).1)).0 ++ [])) → Then v y x
  two_given v y x true e = absurd (too_few x (then_found v) (meets_misfit catalog x (then_found v)) e)
  two_given v y x false e = second v y x (meets_misfit catalog x (then_found (exec_on catalog y v).1)) e

two_answers : (catalog : List Table) (events : List Event) (s z : Executed) (st : Statement) (b : Answer) → is_effective s ≡ true → is_effective z ≡ true → Reads s.text st → Reads z.text st → z.answer ≡ Some b → IsRunOnFound catalog events 1 (s ∷ z ∷ [])
    → (exec catalog st (with_found catalog (exec_on catalog st (first_found catalog events s)).1 (found_by (calls_of events 1 z))).rows).0 ≡ b
two_answers catalog events s z st b effective after reads again answered r =
    by r.statements r.run (sym (ap (λ t. map (λ (x : Executed). x.answer) (if t then s ∷ filter is_effective (z ∷ []) else filter is_effective (z ∷ []))) effective ∙ ap (λ t. s.answer ∷ map (λ (x : Executed). x.answer) (if t then z ∷ [] else [])) after) ∙ r.answers)
  where
    by : (sts : List (Option Statement)) → AllRunAs (s ∷ z ∷ []) sts → s.answer ∷ z.answer ∷ [] ≡ map Some (run_on_found catalog (found_by (calls_of events 1 s) ∷ found_by (calls_of events 1 z) ∷ []) sts nothing_found).0
        → (exec catalog st (with_found catalog (exec_on catalog st (first_found catalog events s)).1 (found_by (calls_of events 1 z))).rows).0 ≡ b
    by [] h e = absurd h
    by (y ∷ []) h e = absurd h.1
    by (y ∷ w ∷ x ∷ xs) h e = absurd h.1.1
    by (None ∷ w ∷ []) h e = clash (sym effective ∙ h.0)
    by (Some y ∷ None ∷ []) h e = clash (sym after ∙ h.1.0)
    by (Some y ∷ Some x ∷ []) h e =
        subst (λ (k : Statement). Then catalog events s z b answered (first_found catalog events s) st k) (one_statement z.text x st h.1.0.1 again)
        (subst (λ (k : Statement). Then catalog events s z b answered (first_found catalog events s) k x) (one_statement s.text y st h.0.1 reads)
        (two_given catalog events s z b answered (first_found catalog events s) y x (meets_misfit catalog y (first_found catalog events s)) e))

---- tables

none_of : (es : List (Key × List Pair)) → length es ≡ 0 → es ≡ []
none_of [] e = refl
none_of (x ∷ xs) e = absurd (omega (arith, e))

no_entries : entries (empty {X = List Pair} {R = key_cmp}) ≡ []
no_entries = none_of (entries empty) (sym (len-entries (empty {X = List Pair} {R = key_cmp})) ∙ len-empty key_cmp (List Pair))

none_passing : (t : Table) (tests : List Test) → passing t tests empty ≡ []
none_passing t tests = ap (λ es. filter (passes t tests) (map row_of_entry es)) no_entries

one_entry : (k : Key) (c : List Pair) → entries (insert (empty {X = List Pair} {R = key_cmp}) k c) ≡ (k, c) ∷ []
one_entry k c = entries-insert key_total empty k c ∙ ap (λ es. put key_cmp k c es) no_entries

one_passing : (t : Table) (k : Key) (c : List Pair) → k.table ≡ t.name → passing t [] (insert empty k c) ≡ record { key = k; columns = c } ∷ []
one_passing t k c same =
    ap (λ es. filter (passes t []) (map row_of_entry es)) (one_entry k c)
    ∙ ap (λ b. if b && true then record { key = k; columns = c } ∷ [] else []) (ap (λ n. is_eq (table_cmp n t.name)) same ∙ ap is_eq (tied_itself table_total t.name))

got_inserted : (d : Tables) (k : Key) (c : List Pair) → is_some (get (insert d k c) k) ≡ true
got_inserted d k c = ap is_some (get-insert key_total d k c k ∙ ap (λ b. cond b (Some c) (get d k)) (ap is_eq (tied_itself key_total k)))

pub got_removed : (d : Tables) (k : Key) → get (with_row d k None) k ≡ None
got_removed d k = get-remove key_total d k k ∙ ap (λ b. cond b None (get d k)) (ap is_eq (tied_itself key_total k))

---- a get of a key of the table

module _ (f : StatementOn) where
  -- what its statement is answered on tables
  answers_on : (d : Tables) → exec f.catalog f.statement d ≡ (answer_of f.table f.statement d, left_by f.table f.statement d)
  answers_on d = ap (λ (o : Option Table). exec_in o f.statement d) f.named

  abbrev pub begin_said : Executed
  begin_said = record { accepted = 1; text = f.begin; answer = Some answer.Done; reached = 1 }

  pub begun : begins begin_said ≡ true
  begun = ap (λ b. b && true) f.begins

  abbrev at_once : Answer → Executed
  at_once b = record { accepted = 2; text = f.text; answer = Some b; reached = 2 }

  -- the call after it, and what is then found
  abbrev pub call : Request → Reply → StoreCall
  call q r = record { at = 3; store = []; request = q; how = Seen; reply = r }

  abbrev pub view : Request → Reply → View
  view q r = with_found f.catalog nothing_found (found_by (call q r ∷ []))

  abbrev pub after_call : Answer → Executed
  after_call b = record { accepted = 2; text = f.text; answer = Some b; reached = 3 }

  module _ (no_commit : reads_commit f.text ≡ false) (b : Answer) (middle : IsMiddle b) (changes : changes_nothing b ≡ false) where
    -- without a call
    once_answer : RunsOnFound f.catalog (answered_at_once f b) → answer_of f.table f.statement empty ≡ b
    once_answer law =
        let h : IsPlain (at_once b) f.statement b = record { reads = f.reads; answered = refl; middle = middle; changes = changes; no_commit = no_commit } in
        let events : List Event = answered_at_once f b in
        sym (ap (λ (x : Answer × Tables). x.0) (answers_on empty))
        ∙ (one_answer f.catalog events (at_once b) f.statement b (effective_by (at_once b) b false refl changes) f.reads refl
        (run_itself f.catalog events (at_once b) [] refl (subst (RunsUnder f.catalog events 1) (one_running events (at_once b) f.statement b h) (runs_of f.catalog events begin_said (at_once b ∷ []) law begun refl)))).1

    -- after one
    after_answer : (q : Request) (r : Reply) → RunsOnFound f.catalog (answered_after f q r b) → (meets_misfit f.catalog f.statement (view q r) ≡ false) × (answer_of f.table f.statement (view q r).rows ≡ b)
    after_answer q r law =
        let h : IsPlain (after_call b) f.statement b = record { reads = f.reads; answered = refl; middle = middle; changes = changes; no_commit = no_commit } in
        let events : List Event = answered_after f q r b in
        let given = one_answer f.catalog events (after_call b) f.statement b (effective_by (after_call b) b false refl changes) f.reads refl
        (run_itself f.catalog events (after_call b) [] refl (subst (RunsUnder f.catalog events 1) (one_running events (after_call b) f.statement b h) (runs_of f.catalog events begin_said (after_call b ∷ []) law begun refl))) in
        (given.0, sym (ap (λ (x : Answer × Tables). x.0) (answers_on (view q r).rows)) ∙ given.1)

  -- what a get of a key of the table finds
  got : (key : Key) (found : Option Record) → key.table ≡ f.table.name → found_by (call (ask.Get key) (reply.Found found) ∷ []) ≡ (key, option_and_then (meaning_of (call (ask.Get key) (reply.Found found) ∷ [])) found) ∷ []
  got key found same =
      ap (λ b. flat_map (λ (m : StoreCall). found_in (call (ask.Get key) (reply.Found found) ∷ []) m.request m.reply) (if (if b then false else true) then call (ask.Get key) (reply.Found found) ∷ [] else [])) (ap is_coordinator_table same ∙ f.apart)

  -- the view with a row, and with one that doesn't fit
  abbrev with_fitting : Key → List Pair → View
  with_fitting key columns = record { keys = key ∷ []; misfits = []; rows = insert empty key columns }

  abbrev with_misfit : Key → View
  with_misfit key = record { keys = key ∷ []; misfits = key ∷ []; rows = empty }

  -- with what is there
  abbrev view_by : Key → Option (List Pair) → View
  view_by key o = if is_misfit_row f.catalog key o then with_misfit key else record { keys = key ∷ []; misfits = []; rows = with_row empty key o }

  viewed : (key : Key) (r : Record) → key.table ≡ f.table.name → IsCommittedRow r → view (ask.Get key) (reply.Found (Some r)) ≡ view_by key (Some (user_columns r.columns))
  viewed key r same shows =
      ap (λ fs. with_found f.catalog nothing_found fs) (got key (Some r) same)
      ∙ ap (λ o. with_one_found f.catalog nothing_found (key, o)) (ap (λ b. if b then Some r else option_and_then (λ m. put_by m.request) (find (rolls r) (call (ask.Get key) (reply.Found (Some r)) ∷ []))) shows.0)
      ∙ ap (λ b. view_by key (if b then None else Some (user_columns r.columns))) shows.1

  got_fitting : (key : Key) (r : Record) → key.table ≡ f.table.name → IsCommittedRow r → row_is_well_typed f.catalog key (user_columns r.columns) ≡ true → view (ask.Get key) (reply.Found (Some r)) ≡ with_fitting key (user_columns r.columns)
  got_fitting key r same shows e = viewed key r same shows ∙ ap (λ b. if not b then with_misfit key else with_fitting key (user_columns r.columns)) e

  got_misfit : (key : Key) (r : Record) → key.table ≡ f.table.name → IsCommittedRow r → row_is_well_typed f.catalog key (user_columns r.columns) ≡ false → view (ask.Get key) (reply.Found (Some r)) ≡ with_misfit key
  got_misfit key r same shows e = viewed key r same shows ∙ ap (λ b. if not b then with_misfit key else with_fitting key (user_columns r.columns)) e

  got_row : (key : Key) (r : Record) → key.table ≡ f.table.name → IsCommittedRow r → (view (ask.Get key) (reply.Found (Some r)) ≡ with_fitting key (user_columns r.columns)) ⊎ (view (ask.Get key) (reply.Found (Some r)) ≡ with_misfit key)
  got_row key r same shows = by (row_is_well_typed f.catalog key (user_columns r.columns)) refl
    where
      by : (b : Bool) → row_is_well_typed f.catalog key (user_columns r.columns) ≡ b → (view (ask.Get key) (reply.Found (Some r)) ≡ with_fitting key (user_columns r.columns)) ⊎ (view (ask.Get key) (reply.Found (Some r)) ≡ with_misfit key)
      by true e = inl (got_fitting key r same shows e)
      by false e = inr (got_misfit key r same shows e)

  -- a statement that reads at the key meets it
  meets_it : (key : Key) (v : View) → v ≡ with_misfit key → in_access (access_of f.table f.statement) key ≡ true → meets_misfit f.catalog f.statement v ≡ true
  meets_it key v e reads =
      ap (meets_misfit f.catalog f.statement) e
      ∙ ap (λ (o : Option Table). option_map_or (λ t. list_any (in_access (access_of t f.statement)) (key ∷ [])) o false) f.named
      ∙ ap (λ b. b || false) reads

  -- of none
  pub got_none : (key : Key) → key.table ≡ f.table.name → (view (ask.Get key) (reply.Found None)).rows ≡ with_row empty key None
  got_none key same = ap (λ fs. (with_found f.catalog nothing_found fs).rows) (got key None same)

---- the forgeries

no_rows_cut : (o : Option ℤ) → cut o [] ≡ []
no_rows_cut None = refl
no_rows_cut (Some n) = by (nat_of n)
  where
    by : (m : ℕ) → take {A = Image} m [] ≡ []
    by zero = refl
    by (suc m) = refl

pub select_commits : (f : SelectOn) → reads_commit f.on.text ≡ false
select_commits f = other_no_commit f.on.text f.on.statement f.on.reads (λ e. let k = sym f.is ∙ e in cc)

pub insert_commits : (f : InsertOn) → reads_commit f.on.text ≡ false
insert_commits f = other_no_commit f.on.text f.on.statement f.on.reads (λ e. let k = sym f.is ∙ e in cc)

update_commits : (f : UpdateOn) → reads_commit f.on.text ≡ false
update_commits f = other_no_commit f.on.text f.on.statement f.on.reads (λ e. let k = sym f.is ∙ e in cc)

pub invented_refused : (f : SelectOn) (row : List Value) (rows : List (List Value)) → RunsOnFound f.on.catalog (answers_unread f row rows) → ⊥
invented_refused f row rows law =
    let e = once_answer f.on (select_commits f) (answer.Rows (row ∷ rows)) (record { undone = refl; agrees = refl }) refl law in
    let k : answer.Rows [] ≡ answer.Rows (row ∷ rows) =
    sym (ap (λ st. answer_of f.on.table st empty) f.is ∙ ap (λ rs. answer.Rows (map (projected f.on.table f.select.columns) (cut f.select.limit (sorted f.on.table rs)))) (none_passing f.on.table f.select.tests) ∙ ap (λ rs. answer.Rows (map (projected f.on.table f.select.columns) rs)) (no_rows_cut f.select.limit)) ∙ e in
    cc

pub left_out_refused : (f : SelectOn) (key : Key) (r : Record) → FindsRow f key r → RunsOnFound f.on.catalog (leaves_out f key r) → ⊥
left_out_refused f key r finds law = by (got_row f.on key r finds.inside finds.shows)
  where
    given : (meets_misfit f.on.catalog f.on.statement (view f.on (ask.Get key) (reply.Found (Some r))) ≡ false) × (answer_of f.on.table f.on.statement (view f.on (ask.Get key) (reply.Found (Some r))).rows ≡ answer.Rows [])
    given = after_answer f.on (select_commits f) (answer.Rows []) (record { undone = refl; agrees = refl }) refl (ask.Get key) (reply.Found (Some r)) law

    by : (view f.on (ask.Get key) (reply.Found (Some r)) ≡ with_fitting f.on key (user_columns r.columns)) ⊎ (view f.on (ask.Get key) (reply.Found (Some r)) ≡ with_misfit f.on key) → ⊥
    by (inr e) = clash (sym (meets_it f.on key (view f.on (ask.Get key) (reply.Found (Some r))) e finds.reads) ∙ given.0)
    by (inl e) =
        let d : Tables = insert empty key (user_columns r.columns) in
        let k : answer.Rows (projected f.on.table f.select.columns (record { key = key; columns = user_columns r.columns }) ∷ []) ≡ answer.Rows [] =
        sym (ap (λ (w : View). answer_of f.on.table f.on.statement w.rows) e ∙ ap (λ st. answer_of f.on.table st d) f.is ∙ ap (λ ts. answer.Rows (map (projected f.on.table f.select.columns) (cut f.select.limit (sorted f.on.table (passing f.on.table ts d))))) finds.tests ∙ ap (λ o. answer.Rows (map (projected f.on.table f.select.columns) (cut o (sorted f.on.table (passing f.on.table [] d))))) finds.limit
        ∙ ap (λ rs. answer.Rows (map (projected f.on.table f.select.columns) (sorted f.on.table rs))) (one_passing f.on.table key (user_columns r.columns) finds.inside)) ∙ given.1 in
        cc

pub misfit_refused : (f : SelectOn) (key : Key) (r : Record) (rows : List (List Value)) → FindsMisfit f key r → RunsOnFound f.on.catalog (answers_rows f key r rows) → ⊥
misfit_refused f key r rows finds law =
    let given = after_answer f.on (select_commits f) (answer.Rows rows) (record { undone = refl; agrees = refl }) refl (ask.Get key) (reply.Found (Some r)) law in
    clash (sym (meets_it f.on key (view f.on (ask.Get key) (reply.Found (Some r))) (got_misfit f.on key r finds.inside finds.shows finds.misfit) finds.reads) ∙ given.0)

-- nothing is left of what wasn't there
none_removed : (k : Key) → with_row empty k None ≡ empty
none_removed k = same_map key_total key_exact (with_row empty k None) empty (λ q. get-remove key_total empty k q ∙ ap (λ o. cond (is_eq (key_cmp q k)) None o) (get-empty key_cmp q) ∙ none (is_eq (key_cmp q k)) ∙ sym (get-empty key_cmp q))
  where
    none : (b : Bool) → cond {A = Option (List Pair)} b None None ≡ None
    none true = refl
    none false = refl

pub unrolled_refused : (f : SelectOn) (key : Key) (r : Record) (row : List Value) → FindsUnresolved f key r → RunsOnFound f.on.catalog (answers_unrolled f key r row) → ⊥
unrolled_refused f key r row finds law =
    let e = (after_answer f.on (select_commits f) (answer.Rows (row ∷ [])) (record { undone = refl; agrees = refl }) refl (ask.Get key) (reply.Found (Some r)) law).1 in
    let k : answer.Rows [] ≡ answer.Rows (row ∷ []) =
    sym (ap (answer_of f.on.table f.on.statement) (rows ∙ none_removed key) ∙ ap (λ st. answer_of f.on.table st empty) f.is ∙ ap (λ rs. answer.Rows (map (projected f.on.table f.select.columns) (cut f.select.limit (sorted f.on.table rs)))) (none_passing f.on.table f.select.tests)
    ∙ ap (λ rs. answer.Rows (map (projected f.on.table f.select.columns) rs)) (no_rows_cut f.select.limit)) ∙ e in
    cc
  where
    get_call : StoreCall
    get_call = record { at = 3; store = []; request = ask.Get key; how = Seen; reply = reply.Found (Some r) }

    means : meaning_of (get_call ∷ []) r ≡ None
    means =
        ap (λ b. if b then Some r else option_and_then (λ m. put_by m.request) (find (rolls r) (get_call ∷ []))) finds.unresolved
        ∙ ap (λ b. option_and_then (λ (m : StoreCall). put_by m.request) (if b then Some get_call else None)) (and_false (is_eq (key_cmp key r.key)))

    rows : (view f.on (ask.Get key) (reply.Found (Some r))).rows ≡ with_row empty key None
    rows = ap (λ fs. (with_found f.on.catalog nothing_found fs).rows) (got f.on key (Some r) finds.inside) ∙ ap (λ o. (with_one_found f.on.catalog nothing_found (key, o)).rows) means

pub unlimited_refused : (f : SelectOn) (q : Request) (r : Reply) (a b : List Value) → f.select.limit ≡ Some (pos 1) → RunsOnFound f.on.catalog (answers_two f q r a b) → ⊥
unlimited_refused f q r a b limit law =
    let e = (after_answer f.on (select_commits f) (answer.Rows (a ∷ b ∷ [])) (record { undone = refl; agrees = refl }) refl q r law).1 in
    let d : Tables = (view f.on q r).rows in
    by (sorted f.on.table (passing f.on.table f.select.tests d))
    (sym (ap (λ st. answer_of f.on.table st d) f.is ∙ ap (λ o. answer.Rows (map (projected f.on.table f.select.columns) (cut o (sorted f.on.table (passing f.on.table f.select.tests d))))) limit) ∙ e)
  where
    by : (rs : List Image) → answer.Rows (map (projected f.on.table f.select.columns) (take 1 rs)) ≡ answer.Rows (a ∷ b ∷ []) → ⊥
    by [] k = cc
    by (x ∷ xs) k = cc

pub miscounted_refused : (f : UpdateOn) (n : ℕ) → RunsOnFound f.on.catalog (counts_unread f n) → ⊥
miscounted_refused f n law =
    let e = once_answer f.on (update_commits f) (answer.Count (n + 1)) (record { undone = refl; agrees = refl }) refl law in
    let k : answer.Count 0 ≡ answer.Count (n + 1) = sym (ap (λ st. answer_of f.on.table st empty) f.is ∙ ap (λ rs. answer.Count (length rs)) (none_passing f.on.table f.update.tests)) ∙ e in
    no_count k
  where
    no_count : answer.Count 0 ≡ answer.Count (n + 1) → ⊥
    no_count k = let same : 0 ≡ n + 1 = cc in omega (arith, same)

-- what an INSERT is answered
insert_answer : (f : InsertOn) (d : Tables) (b : Bool) → is_some (get d (insert_key f)) ≡ b → answer_of f.on.table f.on.statement d ≡ (if b then answer.Duplicate (insert_key f) else answer.Count 1)
insert_answer f d b e = ap (λ st. answer_of f.on.table st d) f.is ∙ ap (λ t. if t then answer.Duplicate (insert_key f) else answer.Count 1) e

-- it reads its key
reads_own : (f : InsertOn) → in_access (access_of f.on.table f.on.statement) (insert_key f) ≡ true
reads_own f = ap (λ st. in_access (access_of f.on.table st) (insert_key f)) f.is ∙ ap is_eq (tied_itself key_total (insert_key f))

pub counted_over_refused : (f : InsertOn) (r : Record) → IsCommittedRow r → RunsOnFound f.on.catalog (counts_over f r) → ⊥
counted_over_refused f r shows law = by (got_row f.on (insert_key f) r refl shows)
  where
    given : (meets_misfit f.on.catalog f.on.statement (view f.on (ask.Get (insert_key f)) (reply.Found (Some r))) ≡ false) × (answer_of f.on.table f.on.statement (view f.on (ask.Get (insert_key f)) (reply.Found (Some r))).rows ≡ answer.Count 1)
    given = after_answer f.on (insert_commits f) (answer.Count 1) (record { undone = refl; agrees = refl }) refl (ask.Get (insert_key f)) (reply.Found (Some r)) law

    by : (view f.on (ask.Get (insert_key f)) (reply.Found (Some r)) ≡ with_fitting f.on (insert_key f) (user_columns r.columns)) ⊎ (view f.on (ask.Get (insert_key f)) (reply.Found (Some r)) ≡ with_misfit f.on (insert_key f)) → ⊥
    by (inr e) = clash (sym (meets_it f.on (insert_key f) (view f.on (ask.Get (insert_key f)) (reply.Found (Some r))) e (reads_own f)) ∙ given.0)
    by (inl e) =
        let k : answer.Duplicate (insert_key f) ≡ answer.Count 1 =
        sym (ap (λ (w : View). answer_of f.on.table f.on.statement w.rows) e ∙ insert_answer f (insert empty (insert_key f) (user_columns r.columns)) true (got_inserted empty (insert_key f) (user_columns r.columns))) ∙ given.1 in
        cc

pub no_duplicate_refused : (f : InsertOn) → RunsOnFound f.on.catalog (duplicates_none f) → ⊥
no_duplicate_refused f law =
    let e = (after_answer f.on (insert_commits f) (answer.Duplicate (insert_key f)) (record { undone = refl; agrees = refl }) refl (ask.Get (insert_key f)) (reply.Found None) law).1 in
    let k : answer.Count 1 ≡ answer.Duplicate (insert_key f) = sym (ap (answer_of f.on.table f.on.statement) (got_none f.on (insert_key f) refl) ∙ insert_answer f (with_row empty (insert_key f) None) false (ap is_some (got_removed empty (insert_key f)))) ∙ e in
    cc

pub forgotten_refused : (f : InsertOn) → RunsOnFound f.on.catalog (counts_twice f) → ⊥
forgotten_refused f law = no_count (sym (ap (answer_of f.on.table f.on.statement) rows ∙ insert_answer f (insert (with_row empty (insert_key f) None) (insert_key f) (with_named f.on.table f.insert.columns f.insert.values [])) true (got_inserted (with_row empty (insert_key f) None) (insert_key f) (with_named f.on.table f.insert.columns f.insert.values []))) ∙ answered)
  where
    es : List Event
    es = counts_twice f

    s : Executed
    s = record { accepted = 2; text = f.on.text; answer = Some (answer.Count 1); reached = 3 }

    z : Executed
    z = record { accepted = 4; text = f.on.text; answer = Some (answer.Count 1); reached = 4 }

    plain_s : IsPlain s f.on.statement (answer.Count 1)
    plain_s = record { reads = f.on.reads; answered = refl; middle = record { undone = refl; agrees = refl }; changes = refl; no_commit = insert_commits f }

    plain_z : IsPlain z f.on.statement (answer.Count 1)
    plain_z = record { reads = f.on.reads; answered = refl; middle = record { undone = refl; agrees = refl }; changes = refl; no_commit = insert_commits f }

    w : View
    w = view f.on (ask.Get (insert_key f)) (reply.Found None)

    answered : answer_of f.on.table f.on.statement (exec f.on.catalog f.on.statement w.rows).1 ≡ answer.Count 1
    answered =
        sym (ap (λ (x : Answer × Tables). x.0) (answers_on f.on (exec f.on.catalog f.on.statement w.rows).1))
        ∙ two_answers f.on.catalog es s z f.on.statement (answer.Count 1) refl refl f.on.reads f.on.reads refl
        (run_itself f.on.catalog es s (z ∷ []) refl (subst (RunsUnder f.on.catalog es 1) (two_running es s z f.on.statement (answer.Count 1) (answer.Count 1) plain_s plain_z) (runs_of f.on.catalog es (begin_said f.on) (s ∷ z ∷ []) law (begun f.on) refl)))

    rows : (exec f.on.catalog f.on.statement w.rows).1 ≡ insert (with_row empty (insert_key f) None) (insert_key f) (with_named f.on.table f.insert.columns f.insert.values [])
    rows =
        ap (λ d. (exec f.on.catalog f.on.statement d).1) (got_none f.on (insert_key f) refl)
        ∙ ap (λ (x : Answer × Tables). x.1) (answers_on f.on (with_row empty (insert_key f) None))
        ∙ ap (λ st. left_by f.on.table st (with_row empty (insert_key f) None)) f.is
        ∙ ap (λ b. if b then with_row empty (insert_key f) None else insert (with_row empty (insert_key f) None) (insert_key f) (with_named f.on.table f.insert.columns f.insert.values [])) (ap is_some (got_removed empty (insert_key f)))

    no_count : answer.Duplicate (insert_key f) ≡ answer.Count 1 → ⊥
    no_count k = cc

---- a read that isn't new

pub again_refused : (f : InsertOn) → ReadsAreNew (reads_again f) → ⊥
again_refused f law = clash (sym found ∙ law first (s ∷ []) z m (record { after = []; statements = statements; no_commit = insert_commits f; call = Contains-push [] m; reads = ap (λ b. if b then false else true) f.on.apart }))
  where
    s : Executed
    s = record { accepted = 2; text = f.on.text; answer = Some (answer.Count 1); reached = 3 }

    z : Executed
    z = record { accepted = 4; text = f.on.text; answer = None; reached = 4 }

    m : StoreCall
    m = record { at = 5; store = []; request = ask.Get (insert_key f); how = Seen; reply = reply.Found None }

    ends_last : (b : Bool) → (if b then z ∷ [] else z ∷ []) ≡ z ∷ []
    ends_last true = refl
    ends_last false = refl

    statements : statements_of (reads_again f) first ≡ s ∷ z ∷ []
    statements =
        ap through_end (since_first (begin_said f.on) (s ∷ z ∷ []) (begun f.on))
        ∙ ap (λ b. if b then s ∷ [] else s ∷ through_end (z ∷ [])) (middle_ends s (answer.Count 1) refl (record { undone = refl; agrees = refl }) (insert_commits f))
        ∙ ap (λ xs. s ∷ xs) (ends_last (ends z))

    found : was_found (reads_again f) 1 (s ∷ []) (insert_key f) ≡ true
    found = ap (λ (fs : List (Key × Option Record)). list_any (λ e. same_key (insert_key f) e.0) fs || false) (got f.on (insert_key f) None refl) ∙ ap (λ b. (b || false) || false) (same_key_self (insert_key f))
