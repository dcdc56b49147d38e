-- A statement that is answered from the rows that its transaction sees runs on what was found, and leaves what the transaction then has.
use Rattle.std.proofs.Common.{◌≡◌, ◌⊎◌, inl, inr, ℕ, Bool, true, false, not, List, [], ◌∷◌, ◌++◌, map, Option, Some, None, refl, sym, ap, subst, ◌∙◌}
use Rattle.std.specs.Prelude.{◌&&◌, ◌||◌, if◌then◌else◌, is_some}
use Rattle.std.specs.List.{list_any}
use Rattle.std.specs.FinMap.{get}
use Rattle.law_runs.specs.Types.{Access, Answer, Event, Image, Key, Keyed, Pair, PlanStep, Statement, Table}
use Rattle.sdb_types.specs.Order.{same_key}
use Rattle.sdb_types.proofs.Public.{clash, or_true, same_key_self}
use Rattle.sdb_schema.specs.Catalog.{is_catalog}
use Rattle.sdb_model.specs.declared.answer.Answer.TheVariants as answer
use Rattle.sdb_model.specs.declared.statement.Statement.TheVariants as statement
use Rattle.sdb_model.specs.Access.{in_access, with_changes}
use Rattle.sdb_model.specs.Calls.{StoreCall, calls_of}
use Rattle.sdb_model.specs.Causes.{refused}
use Rattle.sdb_model.specs.Exec.{Tables, exec, key_of, named_table}
use Rattle.sdb_model.specs.Refused.{refusal_of}
use Rattle.sdb_model.specs.Sql.{Reads, reads_commit}
use Rattle.sdb_model.specs.ReadSet.{finds_transactional, has_read, read_finished}
use Rattle.sdb_model.specs.Transactions.{Executed, changes_nothing, is_effective}
use Rattle.std.specs.Option.{option_map_or}
use Rattle.sdb_exec.specs.declared.plan.PlanStep.TheVariants.{Finished}
use Rattle.sdb_exec.specs.Plans.{Planned, answer_on, changes_on, columns_at, first_unfit, has_all_literals, step_of}
use Rattle.sdb_model.specs.Reads.{access_of}
use Rattle.sdb_exec.proofs.Public.{named_is_table, sieved_at}
use Rattle.sdb_snapshot.specs.Rows.{tables_of_reads}
use Rattle.sdb_snapshot.specs.Seen.{overlay, row_seen, tables_seen, with_written}
use Rattle.sdb_snapshot.specs.Written.{with_writes}
use Rattle.sdb_snapshot.proofs.Public.{get_seen, own_is}
use Rattle.sdb_txn.specs.Txn.{TxnAt}
use Rattle.sdb_client.specs.Client.{given_answer, given_left, gives, left_by_answer, too_many, written}
use Rattle.law_clients.specs.Fitting.{row_is_well_typed}
use Rattle.law_clients.proofs.Public.{access_table, done_is, keys_changed, keys_with}
use Rattle.law_answers.proofs.Public.{access_fits, all_fitting, asked_gives, effective_by, exec_fitting, get_fitting, given_middle, IsDataTable, left_fits_or_was, left_fitting, left_outside, middle_ends, RowFits, rows_fitting, unfit_data}
use Rattle.law_clients.specs.Keys.{keys_written, with_keys}
use Rattle.law_answers.specs.Unfit.{fits_catalog, fitting_part}
use Rattle.law_runs.specs.Found.{IsRunOnFound, View, exec_on, found_by, is_answered, is_misfit_row, meets_misfit, takes_part, with_found}
use Rattle.law_runs.specs.Written.{keys_of}
use Rattle.law_runs.proofs.Running.{HoldsScans, RunsTo, is_running, runs_kept, runs_more, view_after}
use Rattle.law_runs.proofs.Views.{IsViewOf, view_tables}
use Rattle.law_runs.proofs.Writing.{write_keys}

---- what a plan gives

-- a plan's answer on rows that fit, with its changes
record IsFinished (p : Planned) (a : Access) (v : TxnAt) : Type 0 where
  answer : Answer
  changes : List Keyed
  fits : first_unfit p.table (overlay a v.seen) ≡ None
  step : step_of p (overlay a v.seen) ≡ Finished answer changes
  some : changes_nothing (given_answer v (gives p a v)) ≡ false
  gives_it : given_answer v (gives p a v) ≡ answer
  left : given_left v (gives p a v) ≡ written v changes

-- It says that nothing was changed; or it gives an answer on rows that fit.
abbrev IsKept : Planned → Access → TxnAt → Type 0
IsKept p a v = (changes_nothing (given_answer v (gives p a v)) ≡ true) × (given_left v (gives p a v) ≡ v)

abbrev GivesSo : Planned → Access → TxnAt → Type 0
GivesSo p a v = IsKept p a v ⊎ IsFinished p a v

module _ (p : Planned) (a : Access) (v : TxnAt) (asked : p.asked ≡ true) where
  finished_on : (b : Answer) (ks : List Keyed) → first_unfit p.table (overlay a v.seen) ≡ None → step_of p (overlay a v.seen) ≡ Finished b ks → GivesSo p a v
  finished_on b ks fits step = by (not (changes_nothing b) && too_many v ks) refl (changes_nothing b) refl
    where
      gives_as : (z : Bool) → (not (changes_nothing b) && too_many v ks) ≡ z → given_answer v (gives p a v) ≡ (if z then refused 15 else b)
      gives_as z e = ap (λ (x : PlanStep). given_answer v x) step ∙ ap (λ t. if t then refused 15 else b) e

      left_as : (z : Bool) → (not (changes_nothing b) && too_many v ks) ≡ z → given_left v (gives p a v) ≡ left_by_answer v (if z then refused 15 else b) ks
      left_as z e = ap (λ (x : PlanStep). given_left v x) step ∙ ap (λ t. left_by_answer v (if t then refused 15 else b) ks) e

      left_so : (t : Bool) → changes_nothing b ≡ t → left_by_answer v b ks ≡ (if t then v else written v ks)
      left_so t e = ap (λ x. if x then v else written v ks) e

      by : (z : Bool) → (not (changes_nothing b) && too_many v ks) ≡ z → (t : Bool) → changes_nothing b ≡ t → GivesSo p a v
      by true e t g = inl (ap changes_nothing (gives_as true e), left_as true e)
      by false e true g = inl (ap changes_nothing (gives_as false e) ∙ g, left_as false e ∙ left_so true g)
      by false e false g = inr (record { answer = b; changes = ks; fits = fits; step = step; some = ap changes_nothing (gives_as false e) ∙ g; gives_it = gives_as false e; left = left_as false e ∙ left_so false g })

  gives_so : GivesSo p a v
  gives_so = by (first_unfit p.table (overlay a v.seen)) refl
    where
      by : (o : Option Key) → first_unfit p.table (overlay a v.seen) ≡ o → GivesSo p a v
      by None e = finished_on (answer_on p.table p.statement (overlay a v.seen)) (changes_on p.table p.statement (overlay a v.seen)) e (asked_gives p (overlay a v.seen) None asked e)
      by (Some key) e = let same = asked_gives p (overlay a v.seen) (Some key) asked e in inl (ap (λ x. changes_nothing (given_answer v x)) same, ap (λ x. given_left v x) same)

-- what is answered on rows is of a read that has finished
finishes_on : (calls : List StoreCall) (t : Table) (st : Statement) (rows : List Image) → read_finished calls (answer_on t st rows) ≡ true
finishes_on calls t (statement.Insert s) rows = by (is_some (columns_at (key_of t s) rows))
  where
    by : (b : Bool) → read_finished calls (if b then answer.Duplicate (key_of t s) else answer.Count 1) ≡ true
    by true = refl
    by false = refl
finishes_on calls t (statement.Upsert s) rows = refl
finishes_on calls t (statement.Update s) rows = refl
finishes_on calls t (statement.Delete s) rows = refl
finishes_on calls t (statement.Select s) rows = refl
finishes_on calls t statement.Begin rows = refl
finishes_on calls t statement.Commit rows = refl
finishes_on calls t statement.Rollback rows = refl
finishes_on calls t statement.Vacuum rows = refl

-- A statement on a table of the catalog has finished its read by what its plan gives, where each record that its calls found passes the checks.
pub given_finishes : (p : Planned) (a : Access) (v : TxnAt) (calls : List StoreCall) → p.asked ≡ true → finds_transactional calls ≡ true → IsDataTable (access_table a) → read_finished calls (given_answer v (gives p a v)) ≡ true
given_finishes p a v calls asked transactional own = by (first_unfit p.table (overlay a v.seen)) refl
  where
    either : (z : Bool) → read_finished calls (if z then refused 15 else answer_on p.table p.statement (overlay a v.seen)) ≡ true
    either true = refl
    either false = finishes_on calls p.table p.statement (overlay a v.seen)

    by : (o : Option Key) → first_unfit p.table (overlay a v.seen) ≡ o → read_finished calls (given_answer v (gives p a v)) ≡ true
    by None e = ap (λ (x : PlanStep). read_finished calls (given_answer v x)) (asked_gives p (overlay a v.seen) None asked e) ∙ either (not (changes_nothing (answer_on p.table p.statement (overlay a v.seen))) && too_many v (changes_on p.table p.statement (overlay a v.seen)))
    by (Some key) e =
        ap (λ (x : PlanStep). read_finished calls (given_answer v x)) (asked_gives p (overlay a v.seen) (Some key) asked e)
        ∙ ap (λ x. not x && finds_transactional calls) (unfit_data a v.seen p.table key own e)
        ∙ transactional

---- a statement

-- A statement whose plan is on its access, accepted by the catalog.
pub record IsPlannedOn (catalog : List Table) (p : Planned) (a : Access) : Type 0 where
  pub is : is_catalog catalog ≡ true
  pub named : named_table catalog p.statement ≡ Some p.table
  pub asked : p.asked ≡ true
  pub accepted : refusal_of catalog p.statement ≡ None
  pub literals : has_all_literals p.statement ≡ true
  pub access : a ≡ access_of p.table p.statement

-- a row that fits isn't one that doesn't
fits_row : (catalog : List Table) (q : Key) (o : Option (List Pair)) → RowFits catalog q o → is_misfit_row catalog q o ≡ false
fits_row catalog q None fits = refl
fits_row catalog q (Some cs) fits = ap not (fits cs refl)

-- none passes of keys of which none does
none_of : (p : Key → Bool) (ks : List Key) → ((q : Key) → list_any (same_key q) ks ≡ true → p q ≡ false) → list_any p ks ≡ false
none_of p [] h = refl
none_of p (k ∷ ks) h = ap (λ b. b || list_any p ks) (h k (ap (λ b. b || list_any (same_key k) ks) (same_key_self k))) ∙ none_of p ks (λ q e. h q (ap (λ b. same_key q k || b) e ∙ or_true (same_key q k)))

module _ (catalog : List Table) (events : List Event) (c : ℕ) (ss : List Executed) (z : Executed) (p : Planned) (a : Access) (on : IsPlannedOn catalog p a) (v : TxnAt) (reads : Reads z.text p.statement) (answered : z.answer ≡ Some (given_answer v (gives p a v)))
    (run : IsRunOnFound catalog events c ss) (now : IsViewOf catalog (with_found catalog (view_after catalog events c ss run) (found_by (calls_of events c z))) v.seen) (scans : HoldsScans events c (ss ++ z ∷ []) v.seen)
    (before : write_keys v.seen.writes ≡ keys_of catalog events c ss run.statements) where
  abbrev w : View
  w = with_found catalog (view_after catalog events c ss run) (found_by (calls_of events c z))

  -- the access of its statement
  abbrev own : Access
  own = access_of p.table p.statement

  abbrev ks : List Keyed
  ks = changes_on p.table p.statement (overlay own v.seen)

  abbrev d : Tables
  d = tables_seen v.seen

  -- where each row at its access fits
  module _ (fits : first_unfit p.table (overlay own v.seen) ≡ None) where
    -- the statement on the rows of the view
    execs : exec catalog p.statement w.rows ≡ (answer_on p.table p.statement (overlay own v.seen), with_changes (fitting_part catalog d) ks)
    execs = ap (exec catalog p.statement) (view_tables catalog w v.seen now) ∙ exec_fitting catalog p.table p.statement v.seen on.is on.named fits

    -- the rows that are seen, with its changes
    left_seen : (q : Key) → get (with_changes d ks) q ≡ row_seen v.seen.read_set (with_writes v.seen.read_set v.seen.writes ks) q
    left_seen q = ap (λ (x : Tables). get x q) (sym (own_is (tables_of_reads v.seen.read_set) v.seen.read_set v.seen.writes ks)) ∙ get_seen v.seen.read_set (with_writes v.seen.read_set v.seen.writes ks) q

    -- a row at its access fits, before its changes and after them
    fits_before : (q : Key) → in_access own q ≡ true → is_misfit_row catalog q (get d q) ≡ false
    fits_before q inside = fits_row catalog q (get d q) (access_fits catalog p.table p.statement v.seen on.is on.named fits q inside)

    fits_after : (q : Key) → in_access own q ≡ true → is_misfit_row catalog q (get (with_changes d ks) q) ≡ false
    fits_after q inside = fits_row catalog q (get (with_changes d ks) q) (λ cs found. by cs (left_fits_or_was catalog p.table p.statement v.seen (record { is = on.is; named = on.named; fits = fits; accepted = on.accepted; literals = on.literals }) q cs found))
      where
        by : (cs : List Pair) → (row_is_well_typed catalog q cs ≡ true) ⊎ (get d q ≡ Some cs) → row_is_well_typed catalog q cs ≡ true
        by cs (inl e) = e
        by cs (inr e) = access_fits catalog p.table p.statement v.seen on.is on.named fits q inside cs e

    -- so its changes leave which rows don't fit
    misfits_same : (q : Key) → is_misfit_row catalog q (get d q) ≡ is_misfit_row catalog q (get (with_changes d ks) q)
    misfits_same q = by (in_access own q) refl
      where
        by : (b : Bool) → in_access own q ≡ b → is_misfit_row catalog q (get d q) ≡ is_misfit_row catalog q (get (with_changes d ks) q)
        by true e = fits_before q e ∙ sym (fits_after q e)
        by false e = ap (is_misfit_row catalog q) (sym (left_outside p.table p.statement v.seen d q e))

    left_view : IsViewOf catalog (exec_on catalog p.statement w).1 (with_written v.seen ks)
    left_view = record {
      keys = now.keys;
      rows = λ q.
          ap (λ (x : Answer × Tables). get x.1 q) execs
          ∙ ap (λ (x : Tables). get x q) (sym (left_fitting catalog p.table p.statement v.seen on.is on.named fits on.accepted on.literals))
          ∙ get_fitting catalog (with_changes d ks) q
          ∙ ap (sieved_at (fits_catalog catalog) q) (left_seen q);
      misfits = λ q. now.misfits q ∙ ap (is_misfit_row catalog q) (sym (get_seen v.seen.read_set v.seen.writes q)) ∙ misfits_same q ∙ ap (is_misfit_row catalog q) (left_seen q);
    }

    -- it meets none that doesn't fit
    meets_none : meets_misfit catalog p.statement w ≡ false
    meets_none =
        ap (λ (o : Option Table). option_map_or (λ t. list_any (in_access (access_of t p.statement)) w.misfits) o false) on.named
        ∙ none_of (in_access own) w.misfits (λ q met. outside q (in_access own q) refl (sym (now.misfits q ∙ ap (is_misfit_row catalog q) (sym (get_seen v.seen.read_set v.seen.writes q))) ∙ met))
      where
        outside : (q : Key) (b : Bool) → in_access own q ≡ b → is_misfit_row catalog q (get d q) ≡ true → in_access own q ≡ false
        outside q true e m = clash (sym m ∙ fits_before q e)
        outside q false e m = e

    -- its changes are of the keys that it writes
    changes : map (λ (k : Keyed). k.key) ks ≡ keys_written catalog p.statement w.rows
    changes =
        ap (λ (rs : List Image). map (λ (k : Keyed). k.key) (changes_on p.table p.statement rs)) (sym (rows_fitting catalog p.table p.statement v.seen on.is on.named fits))
        ∙ keys_changed catalog p.table p.statement (fitting_part catalog d) (named_is_table catalog p.statement p.table on.is on.named) on.named (all_fitting catalog p.table p.statement v.seen on.is on.named fits)
        ∙ sym (ap (keys_written catalog p.statement) (view_tables catalog w v.seen now))

    runs_written : (b : Answer) → z.answer ≡ Some b → answer_on p.table p.statement (overlay own v.seen) ≡ b → changes_nothing b ≡ false → RunsTo catalog events c (ss ++ z ∷ []) (with_written v.seen ks)
    runs_written b is same some =
        runs_more catalog events c ss z run p.statement b (with_written v.seen ks) (effective_by z b false is some) reads is meets_none (ap (λ (x : Answer × Tables). x.0) execs ∙ same) left_view scans
        (keys_with v.seen.read_set v.seen.writes ks ∙ ap (λ (qs : List Key). with_keys qs (map (λ (k : Keyed). k.key) ks)) before ∙ ap (with_keys (keys_of catalog events c ss run.statements)) changes)

  -- a plan's answer and changes are those on the rows of its access
  finished_as : (b : Answer) (ls : List Keyed) → first_unfit p.table (overlay a v.seen) ≡ None → step_of p (overlay a v.seen) ≡ Finished b ls → (first_unfit p.table (overlay own v.seen) ≡ None) × (answer_on p.table p.statement (overlay own v.seen) ≡ b) × (ks ≡ ls)
  finished_as b ls fits step =
      let here : first_unfit p.table (overlay own v.seen) ≡ None = subst (λ (x : Access). first_unfit p.table (overlay x v.seen) ≡ None) on.access fits in
      let same : Finished (answer_on p.table p.statement (overlay own v.seen)) ks ≡ Finished b ls = sym (asked_gives p (overlay own v.seen) None on.asked here) ∙ subst (λ (x : Access). step_of p (overlay x v.seen) ≡ Finished b ls) on.access step in
      (here, done_answer (answer_on p.table p.statement (overlay own v.seen)) b ks ls same, done_is (answer_on p.table p.statement (overlay own v.seen)) b ks ls same)
    where
      done_answer : (b c : Answer) (ks ls : List Keyed) → Finished b ks ≡ Finished c ls → b ≡ c
      done_answer b c ks ls e = cc

  -- it takes part, since its read has finished
  pub given_takes : reads_commit z.text ≡ false → has_read events c z ≡ true → is_running events c z ≡ true
  given_takes no_commit finished =
      ap (λ x. not x && takes_part events c z && is_answered z) (middle_ends z (given_answer v (gives p a v)) answered (given_middle p (overlay a v.seen) v) no_commit)
      ∙ ap (λ x. (is_effective z || x) && is_answered z) finished
      ∙ ap (λ x. x && is_answered z) (or_true (is_effective z))
      ∙ ap (λ (o : Option Answer). is_some o) answered

  -- Its transaction goes on with what it leaves.
  pub given_runs : RunsTo catalog events c (ss ++ z ∷ []) (given_left v (gives p a v)).seen
  given_runs = by (gives_so p a v on.asked)
    where
      by : GivesSo p a v → RunsTo catalog events c (ss ++ z ∷ []) (given_left v (gives p a v)).seen
      by (inl h) = subst (λ (u : TxnAt). RunsTo catalog events c (ss ++ z ∷ []) u.seen) (sym h.1) (runs_kept catalog events c ss z run v.seen (effective_by z (given_answer v (gives p a v)) true answered h.0) now scans before)
      by (inr h) =
          let same = finished_as h.answer h.changes h.fits h.step in
          subst (λ (u : TxnAt). RunsTo catalog events c (ss ++ z ∷ []) u.seen) (sym h.left)
          (subst (λ (ls : List Keyed). RunsTo catalog events c (ss ++ z ∷ []) (with_written v.seen ls)) same.2 (runs_written same.0 h.answer (answered ∙ ap Some h.gives_it) same.1 (sym (ap changes_nothing h.gives_it) ∙ h.some)))
