use Rattle.std.proofs.Common.{◌≡◌, drop, false}
use Rattle.std.specs.Option.{option_map_or}
use Rattle.std.specs.List.{list_any}
use Rattle.check_tables.specs.Values.{is_client_doing, someone_does, taker}
use Rattle.check_tables.proofs.open.someone_does.Given as goal

abbrev pub invariant-loop-event : goal.invariant-loop-event
invariant-loop-event l = list_any (λ e. option_map_or (is_client_doing l.work l.past) (taker e) false) (drop l.event-index l.past) ≡ someone_does l.work l.past
