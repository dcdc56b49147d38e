use Rattle.std.proofs.Common.{◌+◌, List, drop, ap, ◌∙◌, subst, sym, refl}
use Rattle.sdb_record.specs.declared.write.Write.{Write}
use Rattle.sdb_snapshot.specs.Opened.{with_new, with_news}
use Rattle.sdb_snapshot.specs.Sets.{StartsWith}
use Rattle.sdb_snapshot.proofs.Fronts.{starts_itself}
use Rattle.sdb_snapshot.proofs.Opening.{new_front}
use Rattle.sdb_snapshot.proofs.write_set.WriteSet.open_each.Goals as goal
use Rattle.sdb_types.proofs.Public.{drop_next}

pub loop-keyed-init : goal.loop-keyed-init
loop-keyed-init c = record { answered = refl; front = starts_itself c.args.self.now }

pub loop-keyed-preserved : goal.loop-keyed-preserved
loop-keyed-preserved c = record {
  answered =
      ap (λ (ws : List Write). with_news c.args.read_set.now ws (drop (c.loop-keyed.keyed-index + 1) c.args.changes.now)) (c.in_ok-open.ensures.ok ∙ ap (with_new c.loop-keyed.self) c.in_ok-write_with_base.ensures)
      ∙ sym (ap (with_news c.args.read_set.now c.loop-keyed.self) (drop_next c.args.changes.now c.loop-keyed.keyed-index c.keyed-item.result c.loop-keyed-test.true c.keyed-item.is))
      ∙ c.loop-keyed.invariant.answered;
  front = subst (λ (ws : List Write). StartsWith c.args.self.now ws) (sym c.in_ok-open.ensures.ok) (new_front c.args.self.now c.loop-keyed.self c.in_ok-write_with_base.field-0 c.loop-keyed.invariant.front);
}
