-- The states of a VACUUM's machine, mapped to those of the model of clients.
use Rattle.sdb_vacuum.specs.Vacuum as machine
use Rattle.law_clients.specs.Vacuum.{VacuumModel, Scanning, Resolving, Removing, Between}

-- A machine that makes no call is between two tables, or has ended.
abbrev pub abstract_vacuum : machine.VacuumStage → VacuumModel
abstract_vacuum (machine.Scanning span) = Scanning span
abstract_vacuum (machine.Resolving rec meta p left) = Resolving rec meta p left
abstract_vacuum (machine.Removing b left) = Removing b left
abstract_vacuum machine.Over = Between
