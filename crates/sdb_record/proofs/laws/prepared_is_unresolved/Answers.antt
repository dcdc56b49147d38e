use Rattle.std.proofs.Common.{◌∙◌, ap}
use Rattle.sdb_record.specs.Meta.{checked}
use Rattle.sdb_record.proofs.PreparedRecords.{prepared-key, prepared-columns, left-checked}
use Rattle.sdb_record.proofs.ImageLaws.{prepared-version, prepared-unresolved}
use Rattle.sdb_record.proofs.laws.prepared_is_unresolved.Goals as goal

pub returns : goal.returns
returns c =
    record {
      key = λ p. prepared-key p.write p.id p.now;
      version = λ p. prepared-version p.write p.id p.now;
      unresolved = λ p m. prepared-unresolved p.write p.id p.now m.write m.id m.now;
      meta = λ p m. ap checked (prepared-columns p.write p.id p.now) ∙ left-checked p.write p.id p.now m.write m.id m.now;
    }
