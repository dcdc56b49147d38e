use Rattle.std.proofs.Common.{◌+◌, List, Some, drop, ap, ◌∙◌, subst, sym, refl}
use Rattle.sdb_snapshot.specs.Reads.{ReadRecord, with_images}
use Rattle.sdb_snapshot.specs.Sets.{StartsWith}
use Rattle.sdb_snapshot.proofs.Fronts.{starts_itself}
use Rattle.sdb_snapshot.proofs.Orders.{note_front}
use Rattle.sdb_snapshot.proofs.read_set.ReadSet.note_each.Goals as goal
use Rattle.sdb_types.proofs.Public.{drop_next}

pub loop-rec-init : goal.loop-rec-init
loop-rec-init c = record { answered = refl; front = starts_itself c.args.self.now }

pub loop-rec-preserved : goal.loop-rec-preserved
loop-rec-preserved c = record {
  answered =
      ap (λ (ns : List ReadRecord). with_images ns (drop (c.loop-rec.rec-index + 1) c.args.records.now)) c.in_ok-note_record.ensures.ok
      ∙ sym (ap (with_images c.loop-rec.self) (drop_next c.args.records.now c.loop-rec.rec-index c.rec-item.result c.loop-rec-test.true c.rec-item.is))
      ∙ c.loop-rec.invariant.answered;
  front = subst (λ (ns : List ReadRecord). StartsWith c.args.self.now ns) (sym c.in_ok-note_record.ensures.ok) (note_front c.args.self.now c.loop-rec.self c.rec-item.result.key (Some c.rec-item.result) c.loop-rec.invariant.front);
}
