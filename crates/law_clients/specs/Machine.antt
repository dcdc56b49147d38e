-- The states of a read's machine, mapped to those of the model of clients.
use Rattle.sdb_txn.specs.declared.read.ReadStep.TheVariants as step
use Rattle.sdb_txn.specs.Read as machine
use Rattle.law_clients.specs.ReadAt.{ReadAt, Asking, Resolving, Done, Failed}

-- A machine that has ended with images is done with them; with any other end it has failed.
abbrev pub abstract_read : machine.ReadStage → ReadAt
abstract_read machine.Asking = Asking
abstract_read (machine.Resolving images rec meta p left) = Resolving images rec meta p left
abstract_read (machine.Ended (step.Images images)) = Done images
abstract_read (machine.Ended s) = Failed
