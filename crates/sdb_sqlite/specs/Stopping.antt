-- What a call answers that stops before it has an answer.
use Rattle.std.specs.Prelude.{Bool, true, false, if◌then◌else◌}
use Rattle.sdb_sqlite.specs.Types.{Error, Reply}
use Rattle.sqlite.specs.declared.error.Error.TheVariants.{SqliteFailure}
use Rattle.sqlite.specs.declared.error.ErrorCode.TheVariants.{OutOfMemory}
use Rattle.sdb_types.specs.declared.record.Reply.TheVariants as reply
use Rattle.sdb_sqlite.specs.declared.refused.Stopped.{Stopped}
use Rattle.sdb_sqlite.specs.declared.refused.Stopped.TheVariants as stopped

abbrev pub is_out_of_memory : Error → Bool
is_out_of_memory (SqliteFailure OutOfMemory) = true
is_out_of_memory _ = false

-- what a refused statement stops a call for
abbrev pub stopped_by : Error → Stopped
stopped_by e = if is_out_of_memory e then stopped.NoMemory else stopped.Refused

-- Out of memory is answered as such, and everything else is a fault.
abbrev pub stop_reply : Stopped → Reply
stop_reply stopped.NoMemory = reply.NoMemory
stop_reply stopped.Refused = reply.Fault
stop_reply stopped.Unfit = reply.Fault
stop_reply stopped.Foreign = reply.Fault
stop_reply stopped.Tied = reply.Fault
