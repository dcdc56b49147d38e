use Rattle.std.proofs.Common.{ap, subst, ◌∙◌, arith}
use Rattle.sdb_codec.specs.Reading.{Reads, record_in}
use Rattle.sdb_codec.proofs.RecordLaws.{record_found, record_round_trip}
use Rattle.sdb_codec.proofs.PlaceLaws.{record_refused}
use Rattle.sdb_codec.proofs.reading.read_record.Goals as goal

pub returns-clause-found : goal.returns-clause-found
returns-clause-found c = record_found c.args.bytes.now c.record_of.result (λ i. omega (arith, c.type_inv.bytes i)) c.record_of.ensures

pub returns-clause-only : goal.returns-clause-only
returns-clause-only c = λ x known fits e. subst (λ read. Reads c.record_of.result read) (ap record_in e ∙ record_round_trip x known fits) c.record_of.ensures

pub returns-clause-place : goal.returns-clause-place
returns-clause-place c = record_refused c.args.bytes.now c.record_of.result (λ i. omega (arith, c.type_inv.bytes i)) c.record_of.ensures
