-- A script that was read and played is a run of the headline.
use Rattle.std.proofs.Common.{◌≡◌, ◌∙◌, refl, Result, Ok, Err, IfErr, ℕ, ◌≤◌, ◌<◌, List, [], Option, None, length, sym, ap, subst, arith}
use Rattle.std.specs.FinMap.{empty}
use Rattle.std.specs.Prelude.{slice_get, IsErrAnd}
use Rattle.sdb_app.specs.Types.{Event, Key, Outcome, Pair, Place, Script}
use Rattle.sdb_record.specs.Coordinator.{coordinator_table}
use Rattle.sdb_stores.specs.Views.{Attached, StoreView as Counted, AreDistinct, HaveRisen, names_of, total_faults}
use Rattle.sdb_model.specs.Catalogs.{catalog_after}
use Rattle.sdb_model.specs.declared.answer.Answer.TheVariants as answer
use Rattle.sdb_model.specs.Counted.{AreResolved}
use Rattle.sdb_model.specs.Events.{StoreContents, store_of}
use Rattle.sdb_model.specs.Exec.{find_table}
use Rattle.sdb_model.specs.Follows.{Follows}
use Rattle.sdb_model.specs.Plain.{HasLines}
use Rattle.sdb_model.specs.Serial.{IsRun}
use Rattle.sdb_model.specs.Transactions.{Executed}
use Rattle.law_protocol.specs.Spread.{HoldAs}
use Rattle.sdb_contents.specs.Board.{AreUsable, GoOn, HoldTheSame, known_before, contents_of_views}
use Rattle.sdb_contents.specs.Opening.{HoldNothing, IsFirstKey, first_key, opening_in, opening_records, run_tables}
use Rattle.sdb_contents.specs.declared.refused.CallRefused.TheVariants as refused
use Rattle.sdb_contents.proofs.Public.{no_record, refused_after}
use Rattle.law_answers.specs.Invariant.{AnswersHaveCauses}
use Rattle.law_answers.proofs.Public.{all_resolved, answered_seen, answers_own}
use Rattle.law_answers.specs.Views.{WasRead}
use Rattle.law_runs.specs.DirtyReads.{ReadBy}
use Rattle.law_runs.proofs.Public.{answers_as, answers_committed, execution_caused, no_coordinator, run_plain}
use Rattle.sdb_world.specs.Broken.{BreaksWithin}
use Rattle.sdb_client.specs.Execution.{IsExecution, IsPlayable}
use Rattle.sdb_world.specs.Explained.{IsExplained, HasNoDirtyReads}
use Rattle.sdb_world.proofs.Public.{breaks_after}
use Rattle.sdb_app.specs.declared.status.Status.{Status}
use Rattle.sdb_app.specs.declared.status.Status.TheVariants as status
use Rattle.sdb_app.specs.Bench.{IsBenched, StopsBench, bench_over}
use Rattle.sdb_app.specs.Ends.{AreKept, Work}
use Rattle.sdb_app.specs.Run.{AreReady, CanBePlaced, ContentsAreKnown, IsBadAfter, IsBadFound, IsFirstFound, IsFoundIn, IsReportable, IsCorrect, IsReplayed, IsScriptRead, IsUnread, Stops, StopsRun, StopsReplay, placed_as}
use Rattle.sdb_app.specs.Run.StopsReplay.{Unread, Unplayed}
use Rattle.sdb_app.proofs.Placing.{fit_for}
use Rattle.sdb_app.proofs.WhereKnown.{first_as, known_from, nothing_as, odd_as, read_as, shows_less, shows_placed}
use Rattle.sdb_world.specs.Ran.{IsReadWhereKnown}
use Rattle.law_runs.specs.Facts.{outcome_fits}

---- why it stopped

-- what is so of an error that is passed on
pub passed_on : {T : Type 0} (P : Status → Type 0) (r : Result T Status) (e : Status) → IsErrAnd r (λ y. y ≡ e) → P e → IfErr r P
passed_on P (Ok x) e h p = absurd h
passed_on P (Err y) e h p = subst P (sym h) p

-- what stopped the look for records stopped the whole
pub stops_as : (old mid left : List Counted) (near far was found : Key → Type 0) (s : Status) → mid ≡ old → ((key : Key) → near key → far key) → ((key : Key) → was key → found key) → Stops mid left near was s → Stops old left far found s
stops_as old mid left near far was found s same f g h = by s h
  where
    by : (s : Status) → Stops mid left near was s → Stops old left far found s
    by status.StoreFault h = subst (λ (x : List Counted). HaveRisen x left) same h
    by status.NoMemory h = tt
    by (status.NotEmpty key) h = g key h
    by (status.BadStore key) h = f key h
    by status.Done h = absurd h
    by status.Usage h = absurd h
    by status.ReadFault h = absurd h
    by status.WriteFault h = absurd h
    by (status.BadInput n f) h = absurd h
    by (status.Limit n which) h = absurd h
    by status.NoTable h = absurd h
    by (status.NotCommitted a) h = absurd h

-- what stopped a later part stopped the whole
pub stops_after : (old mid : Attached) (left : List Counted) (near far was found : Key → Type 0) (s : Status) → GoOn old mid → ((key : Key) → near key → far key) → ((key : Key) → was key → found key) → Stops mid.views left near was s → Stops old.views left far found s
stops_after old mid left near far was found status.StoreFault goes f g h = refused_after old mid left refused.StoreFault goes h
stops_after old mid left near far was found status.NoMemory goes f g h = tt
stops_after old mid left near far was found (status.NotEmpty key) goes f g h = g key h
stops_after old mid left near far was found (status.BadStore key) goes f g h = f key h
stops_after old mid left near far was found status.Done goes f g h = absurd h
stops_after old mid left near far was found status.Usage goes f g h = absurd h
stops_after old mid left near far was found status.ReadFault goes f g h = absurd h
stops_after old mid left near far was found status.WriteFault goes f g h = absurd h
stops_after old mid left near far was found (status.BadInput n line) goes f g h = absurd h
stops_after old mid left near far was found (status.Limit n which) goes f g h = absurd h
stops_after old mid left near far was found status.NoTable goes f g h = absurd h
stops_after old mid left near far was found (status.NotCommitted a) goes f g h = absurd h

-- what two clauses say of why it stopped, in one
pub stops_both : (old left : List Counted) (bad worse both found : Key → Type 0) (s : Status) → ((key : Key) → bad key → worse key → both key) → Stops old left bad found s → Stops old left worse found s → Stops old left both found s
stops_both old left bad worse both found status.StoreFault f g h = g
stops_both old left bad worse both found status.NoMemory f g h = tt
stops_both old left bad worse both found (status.NotEmpty key) f g h = g
stops_both old left bad worse both found (status.BadStore key) f g h = f key g h
stops_both old left bad worse both found status.Done f g h = absurd g
stops_both old left bad worse both found status.Usage f g h = absurd g
stops_both old left bad worse both found status.ReadFault f g h = absurd g
stops_both old left bad worse both found status.WriteFault f g h = absurd g
stops_both old left bad worse both found (status.BadInput n line) f g h = absurd g
stops_both old left bad worse both found (status.Limit n which) f g h = absurd g
stops_both old left bad worse both found status.NoTable f g h = absurd g
stops_both old left bad worse both found (status.NotCommitted a) f g h = absurd g

-- stores that go on from ones that are the same are kept
pub kept_after : (old mid new : Attached) → mid.views ≡ old.views → ((at : ℕ) → old.known at → mid.known at) → GoOn mid new → AreKept old new
kept_after old mid new same where_known goes = record {
  names = goes.names ∙ ap names_of same;
  counted = subst (λ (ss : List Counted). total_faults ss ≤ total_faults new.views) same goes.counted;
  where_known = λ at answered. goes.where_known at (where_known at answered);
}

-- so are stores of which none has changed
pub kept_same : (old new : Attached) → new.views ≡ old.views → ((at : ℕ) → old.known at → new.known at) → AreKept old new
kept_same old new same where_known = record {
  names = ap names_of same;
  counted = subst (λ (ss : List Counted). total_faults ss ≤ total_faults new.views) same (omega arith);
  where_known = where_known;
}

-- and stores that are kept once more
pub kept_more : (old mid new : Attached) → AreKept old mid → AreKept mid new → AreKept old new
kept_more old mid new first second = record {
  names = second.names ∙ first.names;
  counted = let a = first.counted in let b = second.counted in omega arith;
  where_known = λ at answered. second.where_known at (first.where_known at answered);
}

-- stores that are the same go on to tell
pub tell_on : (script : Script) (before mid : Attached) → mid.views ≡ before.views → ((i : ℕ) → before.known i → mid.known i) → ContentsAreKnown script before → ContentsAreKnown script mid
tell_on script before mid same where_known all at store table here about named =
    where_known at (all at store table (ap (λ (ss : List Counted). slice_get ss at) (sym same) ∙ here) about (ap (λ (ss : List Counted). store_of script.places (contents_of_views ss) table.ns) (sym same) ∙ named))

-- The stores of a script's tables tell, and it has its places.
pub fit_script : (script : Script) (old mid : Attached) → mid.places ≡ script.places → mid.views ≡ old.views → CanBePlaced (names_of old.views) script.places → 0 < length old.views → AreDistinct (names_of old.views) → ((i : ℕ) → old.known i → mid.known i) → ContentsAreKnown script old → AreUsable script.catalog mid
fit_script script old mid same still f some distinct where_known all =
    fit_for script.catalog script.places mid same (subst (λ (ss : List Counted). CanBePlaced (names_of ss) script.places) (sym still) f) (subst (λ (ss : List Counted). 0 < length ss) (sym still) some) (subst (λ (ss : List Counted). AreDistinct (names_of ss)) (sym still) distinct)
    (tell_on script old mid still where_known all)

-- Stores whose tables hold no record are ready: mid are as after the placing, then as after the look for records.
pub ready_after : (script : Script) (mid then : Attached) → mid.places ≡ script.places → GoOn mid then → AreUsable script.catalog mid → first_key (opening_in script.catalog mid) ≡ None → HoldTheSame mid then → AreReady script then
ready_after script mid then same goes fit none quiet = record {
  fit = goes.fit script.catalog fit;
  placed_so = goes.places ∙ same;
  nothing = subst (λ (ss : List StoreContents). HoldAs script.catalog script.places ss empty) (sym quiet) (subst (λ (xs : List Place). HoldAs script.catalog xs (contents_of_views mid.views) empty) same (no_record script.catalog mid.places (contents_of_views mid.views) none));
}

---- where the stores tell

-- each row that is shown was its transaction's own or committed
shown_of : (script : Script) (opening : List StoreContents) (events : List Event) → find_table script.catalog coordinator_table ≡ None → AnswersHaveCauses script.catalog events → AreResolved events → IsExplained script events opening → HasNoDirtyReads script events opening
shown_of script opening events none caused resolved explained moments end traced =
    let at = explained moments end traced in
    answers_committed (record { catalog = script.catalog; places = script.places; events = events; opening = opening; closing = end; moments = moments; trace = traced }) none at.explained.stored_at at.accepted resolved
    (answers_as script.catalog (WasRead script.catalog events) (ReadBy script.catalog events) events read (answers_own script.catalog events caused.observed))
  where
    read : (c : ℕ) (s : Executed) (key : Key) (row : Option (List Pair)) → WasRead script.catalog events c s key row → ReadBy script.catalog events c s key row
    read c s key row w = (record { among = w.0; finished = w.1.answered; no_vacuum = w.1.no_vacuum }, w.1.table, w.1.found)

played_on : (script : Script) (old mid then : Attached) (new : List StoreContents) (o : Outcome) → mid.places ≡ script.places → mid.views ≡ old.views → GoOn mid then → AreUsable script.catalog mid
    → first_key (opening_in script.catalog mid) ≡ None → HoldTheSame mid then → (AreReady script then → IsRun script (contents_of_views then.views) new o) → (AreReady script then → IsExplained script o.events (contents_of_views then.views)) → AnswersHaveCauses script.catalog o.events → find_table script.catalog coordinator_table ≡ None → AreResolved o.events → IsPlayable script → HasLines script → IsExecution script o.events → outcome_fits o → IsCorrect script (contents_of_views old.views) new o
played_on script old mid then new o same still goes fit none quiet run explained caused apart resolved playable lines executed fits = record {
  empty = sym (ap (λ (ss : List StoreContents). first_key (opening_records script.catalog script.places ss)) (ap contents_of_views still)) ∙ sym (ap (λ (xs : List Place). first_key (opening_records script.catalog xs (contents_of_views mid.views))) same) ∙ none;
  run = run_now;
  explained = explained_now;
  observed = shown_of script (contents_of_views old.views) o.events apart caused resolved explained_now;
  plain = run_plain (record { script = script; opening = contents_of_views old.views; closing = new; outcome = o; playable = playable; lines = lines; executed = executed; nothing = nothing_now; run = run_now }) fits;
}
  where
    nothing_now : HoldAs script.catalog script.places (contents_of_views old.views) empty
    nothing_now = subst (λ (ss : List StoreContents). HoldAs script.catalog script.places ss empty) (quiet ∙ ap contents_of_views still) (ready_after script mid then same goes fit none quiet).nothing

    run_now : IsRun script (contents_of_views old.views) new o
    run_now = subst (λ (ss : List StoreContents). IsRun script ss new o) (quiet ∙ ap contents_of_views still) (run (ready_after script mid then same goes fit none quiet))

    explained_now : IsExplained script o.events (contents_of_views old.views)
    explained_now = subst (λ (ss : List StoreContents). IsExplained script o.events ss) (quiet ∙ ap contents_of_views still) (explained (ready_after script mid then same goes fit none quiet))

pub outcome_is : (script : Script) (old mid then new : Attached) (o : Outcome) → mid.places ≡ script.places → mid.views ≡ old.views → ((at : ℕ) → old.known at → mid.known at) → GoOn mid then → GoOn then new → (ContentsAreKnown script old → AreUsable script.catalog mid)
    → (AreUsable script.catalog mid → first_key (opening_in script.catalog mid) ≡ None) → HoldNothing (run_tables script.catalog) mid → (AreUsable script.catalog mid → HoldTheSame mid then) → Follows script o.events → IsExecution script o.events → BreaksWithin [] o.events then.views new.views
    → IsReadWhereKnown (catalog_after script.catalog o.events) (known_before then new) o → (AreReady script then → IsRun script (contents_of_views then.views) (contents_of_views new.views) o) → (AreReady script then → IsExplained script o.events (contents_of_views then.views)) → IsPlayable script → HasLines script → outcome_fits o → IsReportable script old new.views o
outcome_is script old mid then new o same still where_known goes more fit none nothing quiet follows executed broken read run explained playable lines fits = record {
  playable = playable;
  follows = follows;
  executed = executed;
  caused = caused.caused;
  broken = subst (λ (ss : List Counted). BreaksWithin [] o.events ss new.views) still (breaks_after [] o.events mid then new.views goes broken);
  empty = subst (λ (ss : List Counted). HoldNothing (run_tables script.catalog) (placed_as script old ss)) still (nothing_as (placed_as script old mid.views) mid (shows_placed script old mid same where_known) (run_tables script.catalog) nothing);
  read = read_as (placed_as script old new.views) (known_before then new) (shows_placed script old (known_before then new) ((more.places ∙ goes.places) ∙ same) (λ at is_known. goes.where_known at (where_known at is_known))) (catalog_after script.catalog o.events) o read;
  correct = λ all. played_on script old mid then (contents_of_views new.views) o same still goes (fit all) (none (fit all)) (quiet (fit all)) run explained caused (no_coordinator script playable) resolved playable lines executed fits;
}
  where
    caused : AnswersHaveCauses script.catalog o.events
    caused = execution_caused script o.events playable executed

    resolved : AreResolved o.events
    resolved = all_resolved o.events caused.rolled (answered_seen script o.events follows)

-- the first record is that of the script's tables
pub found_first : (script : Script) (old mid left : Attached) (key : Key) → mid.places ≡ script.places → mid.views ≡ old.views → ((at : ℕ) → old.known at → mid.known at) → (ContentsAreKnown script old → AreUsable script.catalog mid) → IsFoundIn script.catalog mid left key → IsFirstFound script old left.views key
found_first script old mid left key same still where_known fit h = record {
  found = subst (λ (ss : List Counted). IsFirstKey (run_tables script.catalog) (placed_as script old ss) key) still (first_as (placed_as script old mid.views) mid (shows_placed script old mid same where_known) (run_tables script.catalog) key h.found);
  known = known_from script old mid left still where_known h.known;
  first = λ all.
      sym (ap (λ (ss : List StoreContents). first_key (opening_records script.catalog script.places ss)) (ap contents_of_views still)) ∙ sym (ap (λ (xs : List Place). first_key (opening_records script.catalog xs (contents_of_views mid.views))) same) ∙ h.first (fit all);
  still = λ all. h.still (fit all) ∙ ap contents_of_views still;
}

-- the record that is bad in the end is one of the script's tables
pub found_bad : (script : Script) (old mid then new : Attached) (key : Key) → mid.places ≡ script.places → ((at : ℕ) → old.known at → mid.known at) → GoOn mid then → GoOn then new → (ContentsAreKnown script old → AreReady script then) → IsBadAfter script then new key → IsBadFound script old new.views key
found_bad script old mid then new key same where_known goes more ready h = record {
  odd = record {
    events = h.odd.events;
    follows = h.odd.follows;
    odd = odd_as (placed_as script old new.views) (known_before then new) (shows_placed script old (known_before then new) ((more.places ∙ goes.places) ∙ same) (λ at is_known. goes.where_known at (where_known at is_known))) (catalog_after script.catalog h.odd.events) key h.odd.odd;
  };
  foreign = λ all. h.foreign (ready all);
}

---- stores whose places were accepted away first

made_of : (script : Script) (before mid : Attached) (new : List Counted) (o : Outcome) → mid.views ≡ before.views → ((at : ℕ) → before.known at → mid.known at) → IsReportable script mid new o → IsReportable script before new o
made_of script before mid new o same where_known made = record {
  playable = made.playable;
  follows = made.follows;
  executed = made.executed;
  caused = made.caused;
  broken = subst (λ (ss : List Counted). BreaksWithin [] o.events ss new) same made.broken;
  empty = nothing_as (placed_as script before before.views) (placed_as script mid mid.views) (shows_less (placed_as script before before.views) (placed_as script mid mid.views) refl (sym same) where_known) (run_tables script.catalog) made.empty;
  read = read_as (placed_as script before new) (placed_as script mid new) (shows_less (placed_as script before new) (placed_as script mid new) refl refl where_known) (catalog_after script.catalog o.events) o made.read;
  correct = λ all. subst (λ (ss : List Counted). IsCorrect script (contents_of_views ss) (contents_of_views new) o) same (made.correct (tell_on script before mid same where_known all));
}

-- what stopped a play
stops_of : (script : Script) (before mid : Attached) (left : List Counted) (s : Status) → mid.views ≡ before.views → ((at : ℕ) → before.known at → mid.known at) → StopsRun script mid left s → StopsRun script before left s
stops_of script before mid left s same where_known h = stops_as before.views mid.views left _ _ _ _ s same bad found h
  where
    bad : (key : Key) → IsBadFound script mid left key → IsBadFound script before left key
    bad key b = record {
      odd = record {
        events = b.odd.events;
        follows = b.odd.follows;
        odd = odd_as (placed_as script before left) (placed_as script mid left) (shows_less (placed_as script before left) (placed_as script mid left) refl refl where_known) (catalog_after script.catalog b.odd.events) key b.odd.odd;
      };
      foreign = λ all. b.foreign (tell_on script before mid same where_known all);
    }

    found : (key : Key) → IsFirstFound script mid left key → IsFirstFound script before left key
    found key f = record {
      found = first_as (placed_as script before before.views) (placed_as script mid mid.views) (shows_less (placed_as script before before.views) (placed_as script mid mid.views) refl (sym same) where_known) (run_tables script.catalog) key f.found;
      known = known_from script before mid (placed_as script mid left) same where_known f.known;
      first = λ all. sym (ap (λ (ss : List Counted). first_key (opening_records script.catalog script.places (contents_of_views ss))) same) ∙ f.first (tell_on script before mid same where_known all);
      still = λ all. f.still (tell_on script before mid same where_known all) ∙ ap contents_of_views same;
    }

-- The work of a command, begun with the places that there were before.
abbrev pub begun_with : Attached → Work → Work
begun_with before work = record { old = before; left = work.left; input = work.input; rest = work.rest }

-- what `replay` answers, and why it answers nothing
pub replayed_before : (before : Attached) (work : Work) (report : List ℕ) → work.old.views ≡ before.views → ((at : ℕ) → before.known at → work.old.known at) → IsReplayed work report → IsReplayed (begun_with before work) report
replayed_before before work report same where_known h = record {
  script = h.script;
  read = subst (λ (ss : List Counted). IsScriptRead (names_of ss) work.input.bytes work.rest.bytes h.script) same h.read;
  outcome = h.outcome;
  made = made_of h.script before work.old work.left h.outcome same where_known h.made;
  text = h.text;
  only = λ all. h.only (tell_on h.script before work.old same where_known all);
}

pub replay_stops_before : (before : Attached) (work : Work) (s : Status) → work.old.views ≡ before.views → ((at : ℕ) → before.known at → work.old.known at) → StopsReplay work s → StopsReplay (begun_with before work) s
replay_stops_before before work s same where_known (Unread unread unchanged) = Unread (subst (λ (ss : List Counted). IsUnread (names_of ss) work.input work.rest s) same unread) (unchanged ∙ same)
replay_stops_before before work s same where_known (Unplayed script read stops) = Unplayed script (subst (λ (ss : List Counted). IsScriptRead (names_of ss) work.input.bytes work.rest.bytes script) same read) (stops_of script before work.old work.left s same where_known stops)

---- what `bench` answers, and why it answers nothing

pub benched_before : (before : Attached) (work : Work) (n : ℕ) (answer : List ℕ) → work.old.views ≡ before.views → ((at : ℕ) → before.known at → work.old.known at) → IsBenched n work answer → IsBenched n (begun_with before work) answer
benched_before before work n answer same where_known h = record {
  benched = record {
    outcome = h.benched.outcome;
    made = made;
    text = h.benched.text;
    even = λ all. h.benched.even (subst (λ (s : Script). ContentsAreKnown s work.old) (sym scripts) (tell_on (script before.views) before work.old same where_known all));
  };
  unread = h.unread;
}
  where
    script : List Counted → Script
    script ss = bench_over n (names_of ss)

    scripts : script work.old.views ≡ script before.views
    scripts = ap script same

    made : IsReportable (script before.views) before work.left h.benched.outcome
    made = made_of (script before.views) before work.old work.left h.benched.outcome same where_known (subst (λ (s : Script). IsReportable s work.old work.left h.benched.outcome) scripts h.benched.made)

pub bench_stops_before : (before : Attached) (work : Work) (n : ℕ) (s : Status) → work.old.views ≡ before.views → ((at : ℕ) → before.known at → work.old.known at) → StopsBench n work s → StopsBench n (begun_with before work) s
bench_stops_before before work n s same where_known h = record {
  cause = stops_of (bench_over n (names_of before.views)) before work.old work.left s same where_known
      (subst (λ (ss : List Counted). StopsRun (bench_over n (names_of ss)) work.old work.left s) same h.cause);
  unread = h.unread;
}
