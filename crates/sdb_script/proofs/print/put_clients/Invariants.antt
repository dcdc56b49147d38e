use Rattle.std.proofs.Common.{◌≡◌, ◌++◌, take, flat_map}
use Rattle.std.specs.String.{string_bytes}
use Rattle.sdb_script.specs.Printed.{client_text}
use Rattle.sdb_script.proofs.print.put_clients.Given as goal

abbrev pub invariant-loop-client : goal.invariant-loop-client
invariant-loop-client l = string_bytes l.out ≡ string_bytes l.initial.out ++ flat_map client_text (take l.client-index l.clients)
