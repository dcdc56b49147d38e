use Rattle.sdb_record.proofs.ImageLaws.{row-key, key-of-id, row-decision}
use Rattle.sdb_record.proofs.laws.row_is_decision.Goals as goal

pub returns : goal.returns
returns c =
    record {
      key = row-key;
      id = key-of-id;
      decision = λ m. row-decision m.id m.decision m.created_at m.fits m.moment;
    }
