-- Runs of scripts whose statements are lines.
use Rattle.std.specs.Prelude.{List}
use Rattle.std.specs.FinMap.{empty}
use Rattle.sdb_model.specs.declared.event.Outcome.{Outcome}
use Rattle.sdb_model.specs.declared.script.Script.{Script}
use Rattle.sdb_model.specs.Events.{StoreContents}
use Rattle.sdb_model.specs.Plain.{HasLines}
use Rattle.sdb_model.specs.Serial.{IsRun}
use Rattle.law_protocol.specs.Spread.{HoldAs}
use Rattle.sdb_client.specs.Execution.{IsExecution, IsPlayable}

-- A run of a script that can be run and has no LF in a statement, on stores that held nothing of its tables.
pub record LineRun : Type 0 where
  pub script : Script
  pub opening : List StoreContents
  pub closing : List StoreContents
  pub outcome : Outcome
  pub playable : IsPlayable script
  pub lines : HasLines script
  pub executed : IsExecution script outcome.events
  pub nothing : HoldAs script.catalog script.places opening empty
  pub run : IsRun script opening closing outcome
