use Rattle.sdb_record.proofs.PreparedRecords.{prepared-base}
use Rattle.sdb_record.proofs.ImageLaws.{prepared-back}
use Rattle.sdb_record.proofs.laws.rolled_back_is_base.Goals as goal

pub returns : goal.returns
returns c =
    record {
      base = λ p. prepared-base p.write p.id p.now;
      back = λ p. prepared-back p.write p.id p.now;
    }
