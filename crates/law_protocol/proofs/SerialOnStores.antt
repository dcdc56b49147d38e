-- A run on one store is one on several that hold the same.
use Rattle.std.proofs.Common.{◌≡◌, ℕ, Bool, true, false, List, [], ◌∷◌, ◌++◌, Option, Some, None, refl, sym, ap, subst, ◌∙◌, ◌⊎◌}
use Rattle.std.proofs.lemmas.List.{drop-map, take-map}
use Rattle.std.specs.FinMap.{empty}
use Rattle.std.specs.Prelude.{drop, map, take, IsSome, IsSomeAnd, Contains, ◌↔◌, ◌||◌, is_some, slice_index_or, if◌then◌else◌}
use Rattle.std.specs.Option.{option_and_then}
use Rattle.law_protocol.specs.Types.{Answer, Decided, Event, Key, Pair, Place, Point, Record, Table, TableDump, TxId}
use Rattle.sdb_types.specs.Contents.{Contents, record_at}
use Rattle.sdb_record.specs.declared.coordinator.Decision.TheVariants as decision
use Rattle.sdb_record.specs.Coordinator.{coordinator_key_of, decision_in}
use Rattle.sdb_record.specs.Meta.{id_in}
use Rattle.sdb_record.specs.Rolls.{image_of, row_of_image}
use Rattle.sdb_record.proofs.Public.{same_name-itself}
use Rattle.std.specs.Result.{result_ok}
use Rattle.sdb_model.specs.declared.answer.Answer.TheVariants as answer
use Rattle.sdb_model.specs.Rows.{Name}
use Rattle.sdb_model.specs.Exec.{find_table}
use Rattle.sdb_model.specs.Events.{StoreContents, stored_at}
use Rattle.sdb_model.specs.Images.{decision_at, decision_on, row_at}
use Rattle.sdb_model.specs.Transactions.{Executed, IsOrder}
use Rattle.sdb_model.specs.Serial.{AreSteps, AreRead, Body, Step, additions, answers_given, commit_answer, dumps_of, IsSerial, RespectsRealTime, IsRun, serial}
use Rattle.sdb_model.specs.Form.{script_with_places}
use Rattle.law_protocol.specs.Spread.{one_store, relocated_event, relocated_events, relocated_outcome, HoldAs, RelocatedRun}
use Rattle.law_protocol.proofs.Moved.{additions_moved, begun_moved, body_moved, catalog_moved, commit_moved, point_moved, executed_moved}
use Rattle.law_protocol.proofs.Followed.{follows_moved}
use Rattle.sdb_types.proofs.Public.{or_true}
use Rattle.sdb_model.specs.Tables.{is_table_of_run}

---- what is there

pub one_stored : (name : Name) (m : Contents) (key : Key) → stored_at [] (one_store name m) key ≡ record_at m key
one_stored name m key = rw (same_name-itself name) refl

-- Several stores and the one say the same of each key that the run is about, and of each decision.
record Alike (catalog : List Table) (places : List Place) (closing : List StoreContents) (name : Name) (m : Contents) : Type 0 where
  agrees : (key : Key) → is_table_of_run catalog key.table ≡ true → stored_at places closing key ≡ stored_at [] (one_store name m) key
  decides : (id : TxId) → decision_at places closing id ≡ decision_at [] (one_store name m) id

alike : (catalog : List Table) (places : List Place) (closing : List StoreContents) (name : Name) (m : Contents) → HoldAs catalog places closing m → Alike catalog places closing name m
unfolding coordinator_key_of
alike catalog places closing name m h = record { agrees = agrees; decides = decides }
  where
    agrees : (key : Key) → is_table_of_run catalog key.table ≡ true → stored_at places closing key ≡ stored_at [] (one_store name m) key
    agrees key t = h.at key t ∙ sym (one_stored name m key)

    decides : (id : TxId) → decision_at places closing id ≡ decision_at [] (one_store name m) id
    decides id = ap (option_and_then (λ (row : Record). result_ok (decision_in row))) (agrees (coordinator_key_of id) (or_true (is_some (find_table catalog (coordinator_key_of id).table))))

then_same : {A B : Type 0} (f g : A → Option B) (o : Option A) → ((x : A) → f x ≡ g x) → option_and_then f o ≡ option_and_then g o
then_same f g None h = refl
then_same f g (Some x) h = h x

row_same : (catalog : List Table) (places : List Place) (closing : List StoreContents) (name : Name) (m : Contents) → Alike catalog places closing name m → (key : Key) → is_table_of_run catalog key.table ≡ true → row_at places closing key ≡ row_at [] (one_store name m) key
row_same catalog places closing name m a key t =
    ap (λ (found : Option Record). option_and_then row_of_image (option_and_then (λ r. image_of r (decision_on places closing r)) found)) (a.agrees key t)
    ∙ ap (option_and_then row_of_image) (then_same _ _ (stored_at [] (one_store name m) key) (λ r. ap (image_of r) (then_same _ _ (id_in r.columns) a.decides)))

if_same : (b : Bool) (x y : Option (List Pair)) → (b ≡ true → x ≡ y) → (if b then x else None) ≡ (if b then y else None)
if_same true x y h = h refl
if_same false x y h = refl

or_first : (b c : Bool) → b ≡ true → (b || c) ≡ true
or_first true c h = refl
or_first false c h = absurd (cc)

---- the order

order_moved : (at : Name → Name) (catalog : List Table) (places : List Place) (closing : List StoreContents) (name : Name) (m : Contents) (events : List Event) (order : List Point) → Alike catalog places closing name m
    → IsOrder [] events (one_store name m) order → IsOrder places (relocated_events at events) closing order
order_moved at catalog places closing name m events order a o = record {
  recorded = λ id small. subst (λ (d : Option Decided). Contains (map (λ (p : Point). p.id) order) id ↔ IsSomeAnd d (λ d. d.decision ≡ decision.Committed)) (sym (a.decides id)) (o.recorded id small);
  points = λ k d low. o.points k d low ∙ sym (point_moved at events (slice_index_or order k d).id);
  rising = o.rising;
  accepted = λ k d low. subst IsSome (sym (commit_moved at events (slice_index_or order k d).id)) (o.accepted k d low);
}

---- what was answered

-- the columns that are added after the first n events, and up to event m
later_moved : (at : Name → Name) (events : List Event) (n : ℕ) → additions (drop n (relocated_events at events)) ≡ additions (drop n events)
later_moved at events n = ap additions (drop-map (relocated_event at) n events) ∙ additions_moved at (drop n events)

between_moved : (at : Name → Name) (events : List Event) (n m : ℕ) → additions (drop n (take m (relocated_events at events))) ≡ additions (drop n (take m events))
between_moved at events n m = ap (λ (es : List Event). additions (drop n es)) (take-map (relocated_event at) m events) ∙ later_moved at (take m events) n

steps_moved : (at : Name → Name) (events : List Event) (n : ℕ) (order : List Point) (steps : List Step) → AreSteps events n order steps → AreSteps (relocated_events at events) n order steps
steps_moved at events n [] steps h = h ∙ sym (later_moved at events n)
steps_moved at events n (p ∷ ps) steps h = (
  h.0,
  h.1,
  h.2 ∙ ap (λ (ss : List Step). ss ++ Body h.0 ∷ h.1) (sym (between_moved at events n p.event)),
  subst (λ (ss : List Executed). AreRead ss h.0) (sym (body_moved at events p.id)) h.3,
  steps_moved at events p.event ps h.1 h.4,
)

answers_moved : (at : Name → Name) (events : List Event) (order : List Point) → map (answers_given (relocated_events at events)) order ≡ map (answers_given events) order
answers_moved at events [] = refl
answers_moved at events (p ∷ ps) =
    ap (λ (ss : List Executed). map (λ (s : Executed). s.answer) ss ∷ map (answers_given (relocated_events at events)) ps) (body_moved at events p.id)
    ∙ ap (λ (rest : List (List (Option Answer))). answers_given events p ∷ rest) (answers_moved at events ps)

answer_moved : (at : Name → Name) (events : List Event) (id : TxId) → commit_answer (relocated_events at events) id ≡ commit_answer events id
answer_moved at events id = ap (option_and_then (λ (s : Executed). s.answer)) (commit_moved at events id)

abbrev Says : Option Decided → Type 0
Says d = IsSomeAnd d (λ d. d.decision ≡ decision.Committed)

abbrev Fates : TxId → Option Answer → Type 0
Fates id given = (given ≡ Some answer.Committed) ⊎ (given ≡ Some (answer.Unknown id)) ⊎ (given ≡ None)

told_moved : (at : Name → Name) (catalog : List Table) (places : List Place) (closing : List StoreContents) (name : Name) (m : Contents) (events : List Event) (order : List Point) (tables : List TableDump) → Alike catalog places closing name m
    → IsSerial catalog [] events (one_store name m) order tables → IsSerial catalog places (relocated_events at events) closing order tables
told_moved at catalog places closing name m events order tables a t = record {
  steps = t.steps;
  read = steps_moved at events 0 order t.steps t.read;
  answers = answers_moved at events order ∙ t.answers;
  printed = t.printed ∙ ap (λ (ts : List Table). dumps_of ts (serial catalog t.steps empty).1) (sym (catalog_moved at catalog events));
  images = λ key. t.images key ∙ sym (if_same (is_some (find_table catalog key.table)) (row_at places closing key) (row_at [] (one_store name m) key) (λ e. row_same catalog places closing name m a key (or_first _ _ e)));
  committed = λ id small e. subst Says (sym (a.decides id)) (t.committed id small (sym (answer_moved at events id) ∙ e));
  owned = λ client s among answered.
      let o = t.owned client s (subst (λ (ss : List Executed). Contains ss s) (executed_moved at client events) among) answered in
      record { id = o.id; fits = o.fits; owner = o.owner; commit = commit_moved at events o.id ∙ o.commit; recorded = subst Says (sym (a.decides o.id)) o.recorded };
  known = λ id small r. subst (Fates id) (sym (answer_moved at events id)) (t.known id small (subst Says (a.decides id) r));
}

---- real time

time_moved : (at : Name → Name) (catalog : List Table) (places : List Place) (closing : List StoreContents) (name : Name) (m : Contents) (events : List Event) (order : List Point) → Alike catalog places closing name m
    → RespectsRealTime [] events (one_store name m) order → RespectsRealTime places (relocated_events at events) closing order
time_moved at catalog places closing name m events order a k client s among answered late large recorded by n ended began behind =
    let e = k client s (subst (λ (ss : List Executed). Contains ss s) (executed_moved at client events) among) answered late large (subst Says (a.decides late) recorded) by n ended (sym (begun_moved at events late) ∙ began) behind in
    (e.0, commit_moved at events e.0 ∙ e.1, e.2)

---- the whole

pub run_relocated : (r : RelocatedRun) → IsRun (script_with_places r.script r.places) r.opening r.closing (relocated_outcome r.at r.outcome)
run_relocated r =
    let a = alike r.script.catalog r.places r.closing r.name r.held_after r.same in
    record {
      moments = r.moments;
      follows = follows_moved r.at r.script r.outcome.events r.run.follows;
      consistent = r.trace;
      order = order_moved r.at r.script.catalog r.places r.closing r.name r.held_after r.outcome.events r.outcome.order a (subst (λ (ps : List Place). IsOrder ps r.outcome.events (one_store r.name r.held_after) r.outcome.order) r.no_places r.run.order);
      answered = told_moved r.at r.script.catalog r.places r.closing r.name r.held_after r.outcome.events r.outcome.order r.outcome.tables a (subst (λ (ps : List Place). IsSerial r.script.catalog ps r.outcome.events (one_store r.name r.held_after) r.outcome.order r.outcome.tables) r.no_places r.run.answered);
      real_time = time_moved r.at r.script.catalog r.places r.closing r.name r.held_after r.outcome.events r.outcome.order a (subst (λ (ps : List Place). RespectsRealTime ps r.outcome.events (one_store r.name r.held_after) r.outcome.order) r.no_places r.run.real_time);
    }
