-- Events that are tied to their clients, and agree with the stores, are a run.
use Rattle.std.proofs.Common.{◌≡◌, ◌<◌, ◌^◌, Bool, List, sym, subst}
use Rattle.std.specs.Prelude.{All}
use Rattle.law_clients.specs.Types.{Point, Script, Table, TableDump}
use Rattle.sdb_model.specs.Events.{StoreContents, IsTrace}
use Rattle.sdb_model.specs.Exec.{Tables}
use Rattle.sdb_model.specs.Follows.{Follows}
use Rattle.sdb_model.specs.Serial.{IsRun, IsSerial, RespectsRealTime}
use Rattle.sdb_model.specs.Transactions.{IsOrder}
use Rattle.law_protocol.specs.Lawful.{Labelled}
use Rattle.law_protocol.specs.Trace.{IsTraced, StartsEmpty, closing}
use Rattle.law_protocol.specs.Explained.{IsRunOf, newest_first, events_of}
use Rattle.law_protocol.proofs.Public.{traced_of}
use Rattle.law_clients.specs.Left.{IsFitting}
use Rattle.law_clients.specs.Linked.{HaveStories}
use Rattle.law_clients.proofs.Ends.{run_told}
use Rattle.law_clients.proofs.Files.{clients_faithful}

pub linked_run : (script : Script) (fit : List Table → Tables → Bool) (labelled : List Labelled) (opening end : List StoreContents) (moments : List (List StoreContents)) (order : List Point) → IsFitting script.catalog fit → HaveStories script.catalog fit labelled order
    → Follows script (events_of labelled) → IsTrace script.places (events_of labelled) opening moments end → StartsEmpty script.places opening → IsOrder script.places (events_of labelled) end order → All (λ (p : Point). p.id.0 < 2 ^ 128) order
    → (tables : List TableDump) × IsRun script opening end (record { events = events_of labelled; order = order; tables = tables })
linked_run script fit labelled opening end moments order fitting linked follows trace empty ordered small = (
  found.0,
  record {
    moments = moments;
    follows = follows;
    consistent = trace;
    order = ordered;
    answered = subst (λ s. IsSerial script.catalog script.places (events_of labelled) s order found.0) turned.1 found.1;
    real_time = subst (λ s. RespectsRealTime script.places (events_of labelled) s order) turned.1 found.2;
  },
)
  where
    turned : IsTraced script.places opening (newest_first labelled) (newest_first moments) × (closing opening (newest_first moments) ≡ end)
    turned = traced_of script.places opening labelled moments end trace

    run : IsRunOf linked.plan script.places opening (newest_first labelled) (newest_first moments)
    run = record { empty = empty; lawful = linked.system.lawful; traced = turned.0 }

    found : (tables : List TableDump) × IsSerial script.catalog script.places (events_of labelled) (closing opening (newest_first moments)) order tables × RespectsRealTime script.places (events_of labelled) (closing opening (newest_first moments)) order
    found = run_told script.catalog fit linked.plan script.places opening labelled (newest_first moments) linked.ran order run
        (clients_faithful linked.plan (events_of labelled) (newest_first labelled) linked.sys linked.answered linked.system linked.stories)
        (subst (λ s. IsOrder script.places (events_of labelled) s order) (sym turned.1) ordered) small fitting linked.bodies
