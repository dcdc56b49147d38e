-- Events that come one after the other to a world and to its stores.
use Rattle.std.proofs.Common.{◌≡◌, List, [], ◌∷◌, ◌++◌, refl, sym, ap, subst, ◌∙◌, append_assoc}
use Rattle.std.proofs.lemmas.List.{append-nil}
use Rattle.sdb_world.specs.Types.{Event, Place, Script}
use Rattle.sdb_model.specs.Events.{Effect, IsTrace, StoreContents}
use Rattle.sdb_stores.specs.Views.{Attached}
use Rattle.sdb_contents.specs.Board.{AreUsable, GoOn, contents_of_views}
use Rattle.law_runs.specs.World.{WorldAt, state_of}
use Rattle.sdb_client.proofs.Public.{paths_on}
use Rattle.sdb_client.specs.Execution.{IsPath, IsStepFrom}
use Rattle.sdb_world.specs.Step.{HasCome, IsExecutionStep}

pub traces_on : (places : List Place) (es more : List Event) (a b c : List StoreContents) (ms ns : List (List StoreContents)) → IsTrace places es a ms b → IsTrace places more b ns c → IsTrace places (es ++ more) a (ms ++ ns) c
traces_on places [] more a b c [] ns h k = subst (λ (x : List StoreContents). IsTrace places more x ns c) h k
traces_on places [] more a b c (m ∷ ms) ns h k = absurd h
traces_on places (e ∷ es) more a b c [] ns h k = absurd h
traces_on places (e ∷ es) more a b c (m ∷ ms) ns h k = (h.0, traces_on places es more m b c ms ns h.1 k)

-- nothing came
pub gone_none : (stores : Attached) (w : WorldAt) → IsExecutionStep stores stores w w []
gone_none stores w = record { script = refl; events = sym (append-nil w.events); executed = refl; traced = λ f. ([], refl) }

-- one event came
pub gone_one : (old new : Attached) (w v : WorldAt) (e : Event) → v.script ≡ w.script → v.events ≡ w.events ++ e ∷ [] → IsStepFrom w.script w.events (state_of w) e (state_of v)
    → (AreUsable w.script.catalog old → Effect old.places e (contents_of_views old.views) (contents_of_views new.views)) → IsExecutionStep old new w v (e ∷ [])
gone_one old new w v e script events step effect = record { script = script; events = events; executed = (state_of v, step, refl); traced = λ f. (contents_of_views new.views ∷ [], (effect f, refl)) }

-- and more, on stores that went on
pub gone_more : (a b c : Attached) (u v w : WorldAt) (es more : List Event) → GoOn a b → IsExecutionStep a b u v es → IsExecutionStep b c v w more → IsExecutionStep a c u w (es ++ more)
gone_more a b c u v w es more goes g h = record {
  script = h.script ∙ g.script;
  events = h.events ∙ ap (λ (xs : List Event). xs ++ more) g.events ∙ append_assoc u.events es more;
  executed = paths_on u.script u.events es more (state_of u) (state_of v) (state_of w) g.executed (subst (λ (past : List Event). IsPath u.script past (state_of v) more (state_of w)) g.events (subst (λ (x : Script). IsPath x v.events (state_of v) more (state_of w)) g.script h.executed));
  traced = λ f.
      let s = g.traced f in
      let t = h.traced (subst (λ (x : Script). AreUsable x.catalog b) (sym g.script) (goes.fit u.script.catalog f)) in
      let on = subst (λ (ps : List Place). IsTrace ps more (contents_of_views b.views) t.0 (contents_of_views c.views)) goes.places t.1 in
      (s.0 ++ t.0, traces_on a.places es more (contents_of_views a.views) (contents_of_views b.views) (contents_of_views c.views) s.0 t.0 s.1 on);
}

---- what came

-- what came is so in another way too
pub come_as : (P Q : List Event → Type 0) (old new : Attached) (w v : WorldAt) → HasCome P old new w v → ((es : List Event) → v.events ≡ w.events ++ es → P es → Q es) → HasCome Q old new w v
come_as P Q old new w v g on = record { es = g.es; so = on g.es g.gone.events g.so; gone = g.gone }

-- nothing came, and the stores stay
pub come_none : (P : List Event → Type 0) (stores : Attached) (w : WorldAt) → P [] → HasCome P stores stores w w
come_none P stores w so = record { es = []; so = so; gone = gone_none stores w }

-- more came, on stores that went on
pub come_more : (P Q R : List Event → Type 0) (a b c : Attached) (u v w : WorldAt) → GoOn a b → HasCome P a b u v → HasCome Q b c v w → ((es more : List Event) → v.events ≡ u.events ++ es → P es → Q more → R (es ++ more)) → HasCome R a c u w
come_more P Q R a b c u v w goes g h on = record { es = g.es ++ h.es; so = on g.es h.es g.gone.events g.so h.so; gone = gone_more a b c u v w g.es h.es goes g.gone h.gone }
