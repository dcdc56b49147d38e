-- COMMITs that prepare otherwise than what their transaction's statement wrote are refused.
use Rattle.std.proofs.Common.{◌≡◌, ◌<◌, ◌≤◌, arith, ℕ, zero, suc, true, false, List, [], ◌∷◌, take, Option, Some, None, refl, sym, ap, subst, ◌∙◌}
use Rattle.std.specs.Prelude.{◌||◌, if◌then◌else◌, find, is_some}
use Rattle.std.specs.FinMap.{empty}
use Rattle.std.specs.Option.{option_and_then, option_map_or}
use Rattle.std.proofs.lemmas.List.Elements.{Contains-append_left, Contains-push}
use Rattle.law_runs.specs.Types.{Answer, Event, Key, Record, Reply, Request, Table, Value, Write}
use Rattle.sdb_types.specs.declared.record.Reply.TheVariants as reply
use Rattle.sdb_types.specs.declared.record.Request.TheVariants as ask
use Rattle.sdb_record.specs.declared.coordinator.Decision.TheVariants as decision
use Rattle.sdb_record.specs.Rolls.{prepared_record}
use Rattle.sdb_record.proofs.Public.{prepared-key}
use Rattle.sdb_model.specs.declared.answer.Answer.TheVariants as answer
use Rattle.sdb_model.specs.declared.event.How.TheVariants.{Seen}
use Rattle.sdb_model.specs.Access.{with_row}
use Rattle.sdb_model.specs.Calls.{StoreCall, calls_of}
use Rattle.sdb_model.specs.Catalogs.{catalog_after}
use Rattle.sdb_model.specs.Causes.{before}
use Rattle.sdb_model.specs.Exec.{Tables}
use Rattle.sdb_model.specs.Requests.{keys_asked}
use Rattle.sdb_model.specs.Sql.{reads_commit}
use Rattle.sdb_model.specs.Transactions.{Executed, changes_nothing, commit_of, ends, from_begin, id_of, is_prepared_record, point, prepares, rest_of, statements_by}
use Rattle.law_clients.specs.Keys.{keys_on, keys_written, with_keys}
use Rattle.law_answers.proofs.Public.{effective_by, IsMiddle, middle_ends, prepared_is}
use Rattle.law_runs.specs.Forged.{CommitText, InsertOn, SelectOn, StatementOn, decides_early, decides_unapplied, decides_unprepared, insert_key, prepare_first, prepare_two, prepares_another, prepares_unwritten}
use Rattle.law_runs.specs.Found.{AllRunAs, AreUnder, answered_inside, found_by, nothing_found, with_found}
use Rattle.law_runs.specs.Laws.{row_put}
use Rattle.law_runs.specs.Written.{CommitsPrepareWritten, DecisionsFollowPoints, IsAfterPoint, PreparesAll, groups_of_keys, keys_of}
use Rattle.law_runs.proofs.ForgedFound.{after_call, begin_said, begun, got_none, got_removed, insert_commits, one_running, select_commits, since_first}
use Rattle.law_runs.proofs.OwnPrepares.{ends_commit}
use Rattle.law_runs.proofs.Preparing.{one_prepared}
use Rattle.law_runs.proofs.Running.{running}
use Rattle.law_runs.proofs.WroteRuns.{running_ended}

---- the COMMIT of the first transaction, after one statement

abbrev commit_said : CommitText → Executed
commit_said t = record { accepted = 4; text = t.text; answer = None; reached = 4 }

abbrev read_call : Request → Reply → StoreCall
read_call q r = record { at = 3; store = []; request = q; how = Seen; reply = r }

module _ (f : StatementOn) (no_commit : reads_commit f.text ≡ false) (b : Answer) (middle : IsMiddle b) (changes : changes_nothing b ≡ false) (q : Request) (r : Reply) (t : CommitText) (events : List Event)
    (says : statements_by 1 events ≡ begin_said f ∷ after_call f b ∷ commit_said t ∷ []) (reads : calls_of events 1 (after_call f b) ≡ read_call q r ∷ []) (accepted : catalog_after f.catalog (before (after_call f b) events) ≡ f.catalog) where
  abbrev s : Executed
  s = after_call f b

  abbrev z : Executed
  z = commit_said t

  goes_on : ends s ≡ false
  goes_on = middle_ends s b refl middle no_commit

  over : ends z ≡ true
  over = ends_commit z t.commits

  since : rest_of (from_begin 1 (statements_by 1 events)) ≡ s ∷ z ∷ []
  since = ap (λ ss. rest_of (from_begin 1 ss)) says ∙ since_first (begin_said f) (s ∷ z ∷ []) (begun f)

  ran : answered_inside events (id_of 1 1) ≡ s ∷ []
  ran = ap (running events 1) since ∙ running_ended events 1 (s ∷ []) z [] (goes_on, tt) over ∙ one_running events s f.statement b (record { reads = f.reads; answered = refl; middle = middle; changes = changes; no_commit = no_commit })

  commits : commit_of events (id_of 1 1) ≡ Some z
  commits =
      ap (λ ss. option_and_then (λ (x : Executed). if reads_commit x.text then Some x else None) (find ends ss)) since
      ∙ ap (λ e. option_and_then (λ (x : Executed). if reads_commit x.text then Some x else None) (if e then Some s else if ends z then Some z else None)) goes_on
      ∙ ap (λ e. option_and_then (λ (x : Executed). if reads_commit x.text then Some x else None) (if e then Some z else None)) over
      ∙ ap (λ e. if e then Some z else None) t.commits

  abbrev found : Tables
  found = (with_found f.catalog nothing_found (found_by (read_call q r ∷ []))).rows

  keys_are : keys_of f.catalog events 1 (answered_inside events (id_of 1 1)) (Some f.statement ∷ []) ≡ with_keys [] (keys_on f.table f.statement found)
  keys_are =
      ap (λ ss. keys_of f.catalog events 1 ss (Some f.statement ∷ [])) ran
      ∙ ap (λ ms. with_keys [] (keys_written f.catalog f.statement (with_found f.catalog nothing_found (found_by ms)).rows)) reads
      ∙ ap (λ (o : Option Table). with_keys [] (option_map_or (λ x. keys_on x f.statement found) o [])) f.named

  -- what its calls prepare
  commit_prepares : CommitsPrepareWritten f.catalog events → PreparesAll (groups_of_keys (with_keys [] (keys_on f.table f.statement found))) (id_of 1 1) (calls_of events 1 z)
  commit_prepares law =
      subst (λ ks. PreparesAll (groups_of_keys ks) (id_of 1 1) (calls_of events 1 z)) keys_are
      (law 1 z (id_of 1 1) (record { commit = (refl, commits); under = f.catalog; accepted = subst (AreUnder f.catalog events f.catalog) (sym ran) (accepted, tt); statements = Some f.statement ∷ []; run = subst (λ ss. AllRunAs ss (Some f.statement ∷ [])) (sym ran) ((effective_by s b false refl changes, f.reads), tt) }))

---- the forgeries

pub unwritten_refused : (f : SelectOn) (r : Record) (row : List Value) (t : CommitText) → CommitsPrepareWritten f.on.catalog (prepares_unwritten f r row t) → ⊥
unwritten_refused f r row t law = by has.count (sym (one_prepared (id_of 1 1) [] m (t.write.key ∷ []) (prepared_is (id_of 1 1) t.now t.write) (ap (λ k. k ∷ []) (prepared-key t.write (id_of 1 1) t.now))) ∙ has.prepared)
  where
    m : StoreCall
    m = record { at = 5; store = []; request = prepare_first t; how = Seen; reply = reply.Applied }

    keys : with_keys [] (keys_on f.on.table f.on.statement (with_found f.on.catalog nothing_found (found_by (read_call (ask.Get t.write.key) (reply.Found (Some r)) ∷ []))).rows) ≡ []
    keys = ap (λ st. with_keys [] (keys_on f.on.table st (with_found f.on.catalog nothing_found (found_by (read_call (ask.Get t.write.key) (reply.Found (Some r)) ∷ []))).rows)) f.is

    has : PreparesAll [] (id_of 1 1) (m ∷ [])
    has = subst (λ ks. PreparesAll (groups_of_keys ks) (id_of 1 1) (m ∷ [])) keys
        (commit_prepares f.on (select_commits f) (answer.Rows (row ∷ [])) (record { undone = refl; agrees = refl }) refl (ask.Get t.write.key) (reply.Found (Some r)) t (prepares_unwritten f r row t) refl refl refl law)

    by : (n : ℕ) → (t.write.key ∷ []) ∷ [] ≡ take n [] → ⊥
    by zero e = cc
    by (suc n) e = cc

-- the key that an INSERT writes, which found nothing
inserted : (f : InsertOn) → with_keys [] (keys_on f.on.table f.on.statement (with_found f.on.catalog nothing_found (found_by (read_call (ask.Get (insert_key f)) (reply.Found None) ∷ []))).rows) ≡ insert_key f ∷ []
inserted f =
    ap (λ d. with_keys [] (keys_on f.on.table f.on.statement d)) (got_none f.on (insert_key f) refl)
    ∙ ap (λ st. with_keys [] (keys_on f.on.table st (with_row empty (insert_key f) None))) f.is
    ∙ ap (λ b. with_keys [] (if b then [] else insert_key f ∷ [])) (ap is_some (got_removed empty (insert_key f)))

pub another_refused : (f : InsertOn) (t : CommitText) (w : Write) → CommitsPrepareWritten f.on.catalog (prepares_another f t w) → ⊥
another_refused f t w law = by has.count (sym (one_prepared (id_of 1 1) [] m (t.write.key ∷ w.key ∷ []) is_put keys) ∙ has.prepared)
  where
    m : StoreCall
    m = record { at = 5; store = []; request = prepare_two t w; how = Seen; reply = reply.Applied }

    is_put : prepares (id_of 1 1) (prepare_two t w) ≡ true
    is_put = ap (λ b. b || is_prepared_record (id_of 1 1) (prepared_record w (id_of 1 1) t.now)) (prepared_is (id_of 1 1) t.now t.write)

    keys : keys_asked (prepare_two t w) ≡ t.write.key ∷ w.key ∷ []
    keys = λ i. prepared-key t.write (id_of 1 1) t.now i ∷ prepared-key w (id_of 1 1) t.now i ∷ []

    has : PreparesAll ((insert_key f ∷ []) ∷ []) (id_of 1 1) (m ∷ [])
    has = subst (λ ks. PreparesAll (groups_of_keys ks) (id_of 1 1) (m ∷ [])) (inserted f)
        (commit_prepares f.on (insert_commits f) (answer.Count 1) (record { undone = refl; agrees = refl }) refl (ask.Get (insert_key f)) (reply.Found None) t (prepares_another f t w) refl refl refl law)

    by : (n : ℕ) → (t.write.key ∷ w.key ∷ []) ∷ [] ≡ take n ((insert_key f ∷ []) ∷ []) → ⊥
    by zero e = cc
    by (suc n) e = cc

none_first : (k : Key) → [] ≡ (k ∷ []) ∷ [] → ⊥
none_first k e = cc

pub unprepared_refused : (f : InsertOn) (t : CommitText) → CommitsPrepareWritten f.on.catalog (decides_unprepared f t) → ⊥
unprepared_refused f t law = none_first (insert_key f) (has.decided m (Contains-push [] m) (t.now, refl))
  where
    m : StoreCall
    m = record { at = 5; store = []; request = row_put (id_of 1 1) decision.Committed t.now; how = Seen; reply = reply.Applied }

    has : PreparesAll ((insert_key f ∷ []) ∷ []) (id_of 1 1) (m ∷ [])
    has = subst (λ ks. PreparesAll (groups_of_keys ks) (id_of 1 1) (m ∷ [])) (inserted f)
        (commit_prepares f.on (insert_commits f) (answer.Count 1) (record { undone = refl; agrees = refl }) refl (ask.Get (insert_key f)) (reply.Found None) t (decides_unprepared f t) refl refl refl law)

pub unapplied_refused : (f : InsertOn) (t : CommitText) → CommitsPrepareWritten f.on.catalog (decides_unapplied f t) → ⊥
unapplied_refused f t law = none_first (insert_key f) (has.decided m (Contains-push (p ∷ []) m) (t.now, refl))
  where
    p : StoreCall
    p = record { at = 5; store = []; request = prepare_first t; how = Seen; reply = reply.Fault }

    m : StoreCall
    m = record { at = 6; store = []; request = row_put (id_of 1 1) decision.Committed t.now; how = Seen; reply = reply.Applied }

    has : PreparesAll ((insert_key f ∷ []) ∷ []) (id_of 1 1) (p ∷ m ∷ [])
    has = subst (λ ks. PreparesAll (groups_of_keys ks) (id_of 1 1) (p ∷ m ∷ [])) (inserted f)
        (commit_prepares f.on (insert_commits f) (answer.Count 1) (record { undone = refl; agrees = refl }) refl (ask.Get (insert_key f)) (reply.Found None) t (decides_unapplied f t) refl refl refl law)

pub early_refused : (f : InsertOn) (t : CommitText) → DecisionsFollowPoints (decides_early f t) → ⊥
early_refused f t law = no_order (point (decides_early f t) (id_of 1 1)) (after.prepared p (Contains-push (m ∷ []) p) (prepared_is (id_of 1 1) t.now t.write)).2 after.decides
  where
    m : StoreCall
    m = record { at = 5; store = []; request = row_put (id_of 1 1) decision.Committed t.now; how = Seen; reply = reply.Applied }

    p : StoreCall
    p = record { at = 6; store = []; request = prepare_first t; how = Seen; reply = reply.Applied }

    after : IsAfterPoint (decides_early f t) 1 (commit_said t) (id_of 1 1) m
    after =
        law 1 (commit_said t) (id_of 1 1) m (record {
          commit = (refl, commits f.on (insert_commits f) (answer.Count 1) (record { undone = refl; agrees = refl }) refl (ask.Get (insert_key f)) (reply.Found None) t (decides_early f t) refl refl refl);
          fits = omega arith;
          call = Contains-append_left (m ∷ []) (p ∷ []) m (Contains-push [] m);
          puts = (t.now, refl);
        })

    no_order : (n : ℕ) → 6 ≤ n → n < 5 → ⊥
    no_order n a b = absurd (omega (arith, a, b))
