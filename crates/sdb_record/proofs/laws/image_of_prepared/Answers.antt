use Rattle.std.proofs.Common.{◌∙◌, Some, None}
use Rattle.sdb_record.specs.declared.coordinator.Decision.TheVariants as decision
use Rattle.sdb_record.specs.Prepared.{decided_at, record_put}
use Rattle.sdb_record.proofs.PreparedRecords.{prepared-base}
use Rattle.sdb_record.proofs.ImageLaws.{image-open, prepared-unsettled}
use Rattle.sdb_record.proofs.laws.image_of_prepared.Goals as goal

pub returns : goal.returns
returns c =
    record {
      undecided = λ p h. image-open (record_put p) None (prepared-unsettled p.write p.id p.now) ∙ prepared-base p.write p.id p.now h;
      aborted = λ p at h. image-open (record_put p) (Some (decided_at decision.Aborted at)) (prepared-unsettled p.write p.id p.now) ∙ prepared-base p.write p.id p.now h;
      committed = λ p at. image-open (record_put p) (Some (decided_at decision.Committed at)) (prepared-unsettled p.write p.id p.now);
    }
