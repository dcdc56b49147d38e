use Rattle.std.proofs.Common.{ap, subst, ◌∙◌, arith}
use Rattle.sdb_codec.specs.Reading.{Reads, key_in}
use Rattle.sdb_codec.proofs.RecordLaws.{key_found, key_round_trip}
use Rattle.sdb_codec.proofs.PlaceLaws.{key_refused}
use Rattle.sdb_codec.proofs.reading.read_key.Goals as goal

pub returns-clause-found : goal.returns-clause-found
returns-clause-found c = key_found c.args.bytes.now c.key_of.result (λ i. omega (arith, c.type_inv.bytes i)) c.key_of.ensures

pub returns-clause-only : goal.returns-clause-only
returns-clause-only c = λ x known fits e. subst (λ read. Reads c.key_of.result read) (ap key_in e ∙ key_round_trip x known fits) c.key_of.ensures

pub returns-clause-place : goal.returns-clause-place
returns-clause-place c = key_refused c.args.bytes.now c.key_of.result (λ i. omega (arith, c.type_inv.bytes i)) c.key_of.ensures
