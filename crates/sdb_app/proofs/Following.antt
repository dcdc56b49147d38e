-- A world that has followed its script on stores that were ready has played it, and its outcome is that of a run.
use Rattle.std.proofs.Common.{◌≡◌, ◌∙◌, List, [], ◌++◌, Result, Ok, Err, IfErr, IfOk, refl, sym, ap, subst}
use Rattle.std.specs.FinMap.{empty}
use Rattle.sdb_app.specs.Types.{CallRefused, ClosingRefused, Event, Key, Outcome, Place, Script, Table}
use Rattle.sdb_stores.specs.Views.{Attached}
use Rattle.sdb_model.specs.Catalogs.{catalog_after}
use Rattle.sdb_model.specs.Events.{IsTrace, StoreContents}
use Rattle.sdb_model.specs.Follows.{AreOfMoves, Follows}
use Rattle.sdb_model.specs.Serial.{IsRun}
use Rattle.law_protocol.specs.Spread.{HoldAs}
use Rattle.sdb_contents.specs.Board.{AreUsable, GoOn, Refuses, known_before, contents_of_views}
use Rattle.sdb_contents.specs.declared.refused.CallRefused.TheVariants as call
use Rattle.sdb_contents.specs.Refused.{Refuses as ClosingRefuses}
use Rattle.sdb_contents.specs.declared.dump_refused.ClosingRefused.TheVariants as closing
use Rattle.sdb_world.specs.Broken.{BreaksWithin}
use Rattle.sdb_world.specs.Explained.{IsExplained}
use Rattle.law_runs.specs.World.{WorldAt, state_of}
use Rattle.sdb_client.specs.Execution.{IsExecution, IsInitial, IsPath}
use Rattle.sdb_world.specs.Ran.{HasNotRun, HasRun, HasRunOn, IsOutcomeOf, IsRunExplained, IsReadWhereKnown}
use Rattle.sdb_contents.specs.Held.{IsOddIn}
use Rattle.sdb_app.proofs.WhereKnown.{ShowsAs, odd_as, read_as, shows_less}
use Rattle.sdb_world.specs.Step.{HasFollowed}
use Rattle.sdb_world.proofs.Public.{breaks_more, breaks_still}
use Rattle.sdb_app.specs.Run.{AreReady, IsOddAfter, Stops, status_of_call, status_of_closing}
use Rattle.sdb_stores.specs.Views.{HaveRisen}
use Rattle.sdb_shell.proofs.Public.{map_ok}

pub has_followed : (old new : Attached) (script : Script) (w v : WorldAt) → w.script ≡ script → w.events ≡ [] → HasFollowed old new w v → Follows script v.events
has_followed old new script w v same none came =
    let all : v.events ≡ came.es = came.gone.events ∙ ap (λ (xs : List Event). xs ++ came.es) none in
    subst (λ (xs : List Event). Follows script xs) (sym all)
    (subst (λ (s : Script). AreOfMoves s s.moves [] came.es) same (subst (λ (xs : List Event). AreOfMoves w.script w.script.moves xs came.es) none came.so))

-- they are an execution of its clients
pub executed_played : (old new : Attached) (script : Script) (w v : WorldAt) → w.script ≡ script → w.events ≡ [] → IsInitial w.script (state_of w) → HasFollowed old new w v → (events : List Event) → events ≡ v.events → IsExecution script events
executed_played old new script w v same none initial came events is =
    let all : v.events ≡ came.es = came.gone.events ∙ ap (λ (xs : List Event). xs ++ came.es) none in
    subst (λ (xs : List Event). IsExecution script xs) (sym (is ∙ all))
    (subst (λ (s : Script). IsExecution s came.es) same (record { first = state_of w; last = state_of v; initial = initial; path = subst (λ (past : List Event). IsPath w.script past (state_of w) came.es (state_of v)) none came.gone.executed }))

has_played : (old new : Attached) (script : Script) (w v : WorldAt) → w.script ≡ script → w.events ≡ [] → IsInitial w.script (state_of w) → HasFollowed old new w v → AreReady script old → HasRun v (contents_of_views old.views) (contents_of_views new.views)
has_played old new script w v same none initial came ready =
    let before : List StoreContents = contents_of_views old.views in
    let now : List StoreContents = contents_of_views new.views in
    let vs : v.script ≡ script = came.gone.script ∙ same in
    let all : v.events ≡ came.es = came.gone.events ∙ ap (λ (xs : List Event). xs ++ came.es) none in
    let made = came.gone.traced (subst (λ (s : Script). AreUsable s.catalog old) (sym same) ready.fit) in
    record {
      executed = subst (λ (s : Script). IsExecution s v.events) (sym vs) (executed_played old new script w v same none initial came v.events refl);
      follows = subst (λ (s : Script). Follows s v.events) (sym vs) (has_followed old new script w v same none came);
      moments = made.0;
      traced = subst (λ (s : Script). IsTrace s.places v.events before made.0 now) (sym vs) (subst (λ (xs : List Event). IsTrace script.places xs before made.0 now) (sym all) (subst (λ (ps : List Place). IsTrace ps came.es before made.0 now) ready.placed_so made.1));
      nothing = subst (λ (s : Script). HoldAs s.catalog s.places before empty) (sym vs) ready.nothing;
    }

module _ (script : Script) (w v : WorldAt) (old mid : Attached) (same : w.script ≡ script) (none : w.events ≡ []) (initial : IsInitial w.script (state_of w)) (came : HasFollowed old mid w v) (goes : GoOn old mid) where
  vs : v.script ≡ script
  vs = came.gone.script ∙ same

  -- it has played its script
  correct : AreReady script old → HasRunOn v (contents_of_views old.views) mid
  correct ready = record {
    fit = goes.fit v.script.catalog (subst (λ (s : Script). AreUsable s.catalog old) (sym vs) ready.fit);
    as_placed = goes.places ∙ ready.placed_so ∙ ap (λ (s : Script). s.places) (sym vs);
    ran = has_played old mid script w v same none initial came ready;
  }

  -- its outcome is that of a run
  pub run_played : (new : Attached) (o : Outcome) → IsOutcomeOf v mid new o → AreReady script old → IsRun script (contents_of_views old.views) (contents_of_views new.views) o
  run_played new o out ready = subst (λ (s : Script). IsRun s (contents_of_views old.views) (contents_of_views new.views) o) vs (out (contents_of_views old.views) (correct ready))

  -- what was there at each moment is explained by its events
  pub explained_played : (events : List Event) → IsRunExplained v mid events → AreReady script old → IsExplained script events (contents_of_views old.views)
  explained_played events out ready = subst (λ (s : Script). IsExplained s events (contents_of_views old.views)) vs (out (contents_of_views old.views) (correct ready).ran)

  -- and there is one
  pub none_played : HasNotRun v mid → AreReady script old → ⊥
  none_played never ready = never (contents_of_views old.views) (correct ready)

-- What it has read in the end, and a record that was bad then, seen from its beginning.
module _ (script : Script) (w v : WorldAt) (old mid : Attached) (same : w.script ≡ script) (none : w.events ≡ []) (came : HasFollowed old mid w v) (goes : GoOn old mid) (new : Attached) where
  script_is : v.script ≡ script
  script_is = came.gone.script ∙ same

  seen : ShowsAs (known_before old new) (known_before mid new)
  seen = shows_less (known_before old new) (known_before mid new) refl refl goes.where_known

  -- the last tables
  last_is : catalog_after v.script.catalog v.events ≡ catalog_after script.catalog v.events
  last_is = ap (λ (s : Script). catalog_after s.catalog v.events) script_is

  pub read_played : (o : Outcome) → o.events ≡ v.events → IsReadWhereKnown (catalog_after v.script.catalog v.events) (known_before mid new) o → IsReadWhereKnown (catalog_after script.catalog o.events) (known_before old new) o
  read_played o is h =
      read_as (known_before old new) (known_before mid new) seen (catalog_after script.catalog o.events) o
      (subst (λ (ts : List Table). IsReadWhereKnown ts (known_before mid new) o) (last_is ∙ ap (catalog_after script.catalog) (sym is)) h)

  pub odd_played : (key : Key) → IsOddIn (catalog_after v.script.catalog v.events) (known_before mid new) key → IsOddAfter script (known_before old new) key
  odd_played key h = record {
    events = v.events;
    follows = has_followed old mid script w v same none came;
    odd = odd_as (known_before old new) (known_before mid new) seen (catalog_after script.catalog v.events) key (subst (λ (ts : List Table). IsOddIn ts (known_before mid new) key) last_is h);
  }

-- no more of its calls are Broken than the stores failed
pub broken_played : (w v : WorldAt) (old mid new : Attached) (events : List Event) → w.events ≡ [] → BreaksWithin w.events v.events old.views mid.views → GoOn mid new → events ≡ v.events → BreaksWithin [] events old.views new.views
broken_played w v old mid new events none h goes is =
    subst (λ (xs : List Event). BreaksWithin [] xs old.views new.views) (sym is)
    (subst (λ (xs : List Event). BreaksWithin xs v.events old.views new.views) none (breaks_more w.events v.events v.events old mid new h goes (breaks_still v.events mid new goes)))

---- what is so of a result

pub err_then : {T E : Type 0} (P Q : E → Type 0) (r : Result T E) → ((e : E) → P e → Q e) → IfErr r P → IfErr r Q
err_then P Q (Ok x) f h = tt
err_then P Q (Err e) f h = f e h

-- what two clauses say of an error gives what another says
pub err_both : {T E : Type 0} (P Q R : E → Type 0) (r : Result T E) → IfErr r P → IfErr r Q → ((e : E) → P e → Q e → R e) → IfErr r R
err_both P Q R (Ok x) p q h = tt
err_both P Q R (Err e) p q h = h e p q

-- what two clauses say of a result gives what another says
pub ok_both : {T E : Type 0} (A B Q : T → Type 0) (r : Result T E) → IfOk r A → IfOk r B → ((x : T) → A x → B x → Q x) → IfOk r Q
ok_both A B Q (Ok x) a b g = g x a b
ok_both A B Q (Err e) a b g = tt

-- what seven clauses say of a result gives what another says
pub ok_seven : {T E : Type 0} (A B C D F H K Q : T → Type 0) (r : Result T E) → IfOk r A → IfOk r B → IfOk r C → IfOk r D → IfOk r F → IfOk r H → IfOk r K → ((x : T) → A x → B x → C x → D x → F x → H x → K x → Q x) → IfOk r Q
ok_seven A B C D F H K Q (Ok x) a b c d f h k g = g x a b c d f h k
ok_seven A B C D F H K Q (Err e) a b c d f h k g = tt

---- why it stopped

pub call_stops : (old new : Attached) (foreign found : Key → Type 0) (e : CallRefused) → Refuses old.views new.views e → Stops old.views new.views foreign found (status_of_call e)
call_stops old new foreign found call.StoreFault h = h
call_stops old new foreign found call.NoMemory h = tt

pub closing_stops : (old new : Attached) (bad found foreign : Key → Type 0) (e : ClosingRefused) → ((key : Key) → bad key → foreign key) → ClosingRefuses bad (HaveRisen old.views new.views) e → Stops old.views new.views foreign found (status_of_closing e)
closing_stops old new bad found foreign closing.StoreFault f h = h
closing_stops old new bad found foreign (closing.BadRecord key) f h = f key h
closing_stops old new bad found foreign closing.NoMemory f h = tt
