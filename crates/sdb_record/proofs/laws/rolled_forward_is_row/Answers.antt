use Rattle.sdb_record.proofs.ImageLaws.{forward-prepared-version, forward-prepared-row}
use Rattle.sdb_record.proofs.laws.rolled_forward_is_row.Goals as goal

pub returns : goal.returns
returns c =
    record {
      version = λ p. forward-prepared-version p.write p.id p.now;
      row = λ p. forward-prepared-row p.write p.id p.now;
    }
