-- Events that are tied to their clients, and agree with stores whose tables began empty, are a run of the laws.
use Rattle.std.proofs.Common.{◌≡◌, ℕ, Bool, List, Option, subst}
use Rattle.law_runs.specs.Types.{Event, Place, Statement, Table}
use Rattle.sdb_model.specs.Events.{IsTrace, StoreContents}
use Rattle.sdb_model.specs.Exec.{Tables}
use Rattle.law_protocol.specs.Explained.{IsRunOf, events_of, newest_first}
use Rattle.law_protocol.specs.Faithful.{AgreesOnOpen, AreReadSets, IsFaithful}
use Rattle.law_protocol.specs.Lawful.{IsLawful, Labelled}
use Rattle.law_protocol.specs.Plan.{Plan}
use Rattle.law_protocol.specs.Trace.{IsTraced, StartsEmpty, closing}
use Rattle.law_protocol.proofs.Public.{traced_of}
use Rattle.law_clients.specs.System.{SystemAt, SystemOk}
use Rattle.law_clients.specs.History.{AllStories}
use Rattle.law_clients.proofs.Public.{clients_faithful, invariant_is_read_sets}
use Rattle.law_clients.specs.Invariant.{RunInvariant}

-- The parts of the events, which with these moments are a run of the laws. The plans' read sets are what the statements read, and the actions
-- agree with the texts about who is open.
pub record IsLawfulRun (places : List Place) (events : List Event) (opening : List StoreContents) (moments : List (List StoreContents)) : Type 0 where
  pub plan : ℕ → Plan
  pub labelled : List Labelled
  pub same : events ≡ events_of labelled
  pub run : IsRunOf plan places opening (newest_first labelled) (newest_first moments)
  pub faithful : IsFaithful (events_of labelled) (newest_first labelled)
  pub as_read : AreReadSets plan (events_of labelled) (newest_first labelled)
  pub agrees : AgreesOnOpen labelled

-- the trace, newest first
turned : (catalog : List Table) (fit : List Table → Tables → Bool) (events : List Event) (sys : SystemAt) (doing : ℕ → Option Statement) (places : List Place) (opening end : List StoreContents) (moments : List (List StoreContents)) → (g : RunInvariant catalog fit events sys doing) → IsTrace places events opening moments end
    → IsTraced places opening (newest_first g.labelled) (newest_first moments) × (closing opening (newest_first moments) ≡ end)
turned catalog fit events sys doing places opening end moments g trace = traced_of places opening g.labelled moments end (subst (λ es. IsTrace places es opening moments end) g.same trace)

pub lawful_run : (catalog : List Table) (fit : List Table → Tables → Bool) (events : List Event) (sys : SystemAt) (doing : ℕ → Option Statement) (places : List Place) (opening end : List StoreContents) (moments : List (List StoreContents)) → RunInvariant catalog fit events sys doing → IsTrace places events opening moments end → StartsEmpty places opening → IsLawfulRun places events opening moments
lawful_run catalog fit events sys doing places opening end moments g trace empty = record {
  plan = g.plan;
  labelled = g.labelled;
  same = g.same;
  run = record { empty = empty; lawful = subst (IsLawful g.plan) g.turned g.system.lawful; traced = (turned catalog fit events sys doing places opening end moments g trace).0 };
  faithful = clients_faithful g.plan (events_of g.labelled) (newest_first g.labelled) sys g.answered
      (subst (λ ps. SystemOk g.plan ps sys) g.turned g.system)
      (subst (λ ps. AllStories (events_of g.labelled) ps sys g.answered) g.turned (subst (λ es. AllStories es g.past sys g.answered) g.same g.stories));
  as_read = subst (λ ps. AreReadSets g.plan (events_of g.labelled) ps) g.turned (subst (λ es. AreReadSets g.plan es g.past) g.same (invariant_is_read_sets catalog fit events sys doing g));
  agrees = g.agrees;
}

-- The parts of the events, and what the stores held, newest first.
pub record ByLaws (places : List Place) (events : List Event) (opening end : List StoreContents) : Type 0 where
  pub plan : ℕ → Plan
  pub labelled : List Labelled
  pub held : List (List StoreContents)
  pub same : events ≡ events_of labelled
  pub end_is : closing opening held ≡ end
  pub run : IsRunOf plan places opening (newest_first labelled) held
  pub faithful : IsFaithful (events_of labelled) (newest_first labelled)

pub by_laws : (catalog : List Table) (fit : List Table → Tables → Bool) (events : List Event) (sys : SystemAt) (doing : ℕ → Option Statement) (places : List Place) (opening end : List StoreContents) (moments : List (List StoreContents)) → RunInvariant catalog fit events sys doing → IsTrace places events opening moments end → StartsEmpty places opening → ByLaws places events opening end
by_laws catalog fit events sys doing places opening end moments g trace empty =
    let r = lawful_run catalog fit events sys doing places opening end moments g trace empty in
    record { plan = r.plan; labelled = r.labelled; held = newest_first moments; same = r.same; end_is = (turned catalog fit events sys doing places opening end moments g trace).1; run = r.run; faithful = r.faithful }
