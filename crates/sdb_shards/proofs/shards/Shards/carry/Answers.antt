use Rattle.std.proofs.Common.{ℕ, ◌<◌, length, refl, sym, subst, ◌∙◌}
use Rattle.sdb_shards.specs.declared.refused.MoveRefused.TheVariants as refused
use Rattle.sdb_shards.proofs.Carried.{counted, free_there, why_not}
use Rattle.sdb_shards.proofs.Listing.{home_below, homes_kept}
use Rattle.sdb_shards.proofs.Moving.{carry_hidden, carry_stopped, carry_turned, given_homes, home_unmoved, homes_stay, homes_stopped, homes_turned, same_homes, whole_unmoved}
use Rattle.sdb_shards.proofs.Risen.{grown_then, none_failed, passed}
use Rattle.sdb_shards.proofs.shards.Shards.carry.Goals as goal

pub returns-in_err-span-clause-shows : goal.returns-in_err-span-clause-shows
returns-in_err-span-clause-shows c =
    record { contents = refl; calls = refl; faults = refl; grown = none_failed c.args.self.now.boxes }

pub returns-in_err-copy-clause-shows : goal.returns-in_err-copy-clause-shows
returns-in_err-copy-clause-shows c =
    record { contents = refl; calls = refl; faults = refl; grown = none_failed c.args.self.now.boxes }

pub returns-in_err-set_home-clause-shows : goal.returns-in_err-set_home-clause-shows
returns-in_err-set_home-clause-shows c =
    record { contents = whole_unmoved c.args.self.now.moved c.set_home.new.moved c.args.self.now.boxes c.in_err-set_home.ensures.err; calls = refl; faults = refl; grown = none_failed c.args.self.now.boxes }

pub returns-in_err-rows-clause-shows : goal.returns-in_err-rows-clause-shows
returns-in_err-rows-clause-shows c =
    record {
      contents = carry_hidden c.args.key c.in_ok-copy.field-0 c.in_ok-span.span c.requires.partition c.in_ok-copy.ensures c.in_ok-span.ensures c.args.self.now.moved c.set_home.new.moved c.args.from c.args.to c.args.self.now.boxes c.copy_partition.new.boxes c.requires.from c.requires.other
          c.in_ok-set_home.ensures.ok c.copy_partition.ensures.changes;
      calls = refl;
      faults = refl;
      grown = c.copy_partition.ensures.changes.grown;
    }

pub returns-in_err-set_home-2-clause-shows : goal.returns-in_err-set_home-2-clause-shows
returns-in_err-set_home-2-clause-shows c =
    record {
      contents = carry_stopped c.args.key c.in_ok-copy.field-0 c.in_ok-span.span c.requires.partition c.in_ok-copy.ensures c.in_ok-span.ensures c.args.self.now.moved c.set_home.new.moved c.args.from c.args.to c.args.self.now.boxes c.copy_partition.new.boxes c.requires.from c.requires.other
          c.in_ok-set_home.ensures.ok c.copy_partition.ensures.changes c.set_home-2.new.moved c.in_err-set_home-2.ensures.err;
      calls = refl;
      faults = refl;
      grown = c.copy_partition.ensures.changes.grown;
    }

pub returns-clause-shows : goal.returns-clause-shows
returns-clause-shows c =
    record {
      contents = carry_turned c.args.key c.in_ok-copy.field-0 c.in_ok-span.span c.requires.partition c.in_ok-copy.ensures c.in_ok-span.ensures c.args.self.now.moved c.set_home.new.moved c.args.from c.args.to c.args.self.now.boxes c.copy_partition.new.boxes c.requires.from c.requires.other
          c.in_ok-set_home.ensures.ok c.copy_partition.ensures.changes c.set_home-2.new.moved c.sweep.new.boxes c.as_slice.result.now
          (c.as_slice.ensures ∙ c.in_ok-rows.ensures.rows) c.in_ok-set_home-2.ensures.ok c.in_ok-rows.ensures.copied c.sweep.ensures;
      calls = refl;
      faults = refl;
      grown = grown_then c.args.self.now.boxes c.copy_partition.new.boxes c.sweep.new.boxes c.copy_partition.ensures.changes.grown c.sweep.ensures.grown;
    }

pub returns-in_err-span-clause-err : goal.returns-in_err-span-clause-err
returns-in_err-span-clause-err c =
    passed _ c.from_residual.result refused.NoMemory c.from_residual.ensures.1
    (record { why = tt; homes = λ k. refl })

pub returns-in_err-copy-clause-err : goal.returns-in_err-copy-clause-err
returns-in_err-copy-clause-err c =
    passed _ c.from_residual-in_err-copy.result refused.NoMemory c.from_residual-in_err-copy.ensures.1
    (record { why = tt; homes = λ k. refl })

pub returns-in_err-set_home-clause-err : goal.returns-in_err-set_home-clause-err
returns-in_err-set_home-clause-err c =
    passed _ c.from_residual-in_err-set_home.result refused.NoMemory c.from_residual-in_err-set_home.ensures.1
    (record { why = tt; homes = home_unmoved c.args.self.now.moved c.set_home.new.moved (length c.args.self.now.boxes) c.in_err-set_home.ensures.err })

pub returns-in_err-rows-clause-err : goal.returns-in_err-rows-clause-err
returns-in_err-rows-clause-err c =
    passed _ c.from_residual-in_err-rows.result c.in_err-rows.field-0.0 c.from_residual-in_err-rows.ensures.1
    (record {
      why = why_not c.args.key c.in_ok-span.span c.args.from c.args.to c.args.self.now c.in_ok-span.ensures c.requires.from c.copy_partition.new.boxes c.in_err-rows.field-0.0 c.in_err-rows.ensures.err;
      homes = homes_stay c.args.key c.in_ok-copy.field-0 c.in_ok-span.span c.requires.partition c.in_ok-copy.ensures c.in_ok-span.ensures c.args.self.now.moved c.set_home.new.moved c.args.from c.args.to c.args.self.now.boxes c.copy_partition.new.boxes c.requires.from c.requires.other
          c.in_ok-set_home.ensures.ok c.copy_partition.ensures.changes;
    })

pub returns-in_err-set_home-2-clause-err : goal.returns-in_err-set_home-2-clause-err
returns-in_err-set_home-2-clause-err c =
    passed _ c.from_residual-in_err-set_home-2.result refused.NoMemory c.from_residual-in_err-set_home-2.ensures.1
    (record {
      why = tt;
      homes = homes_stopped c.args.key c.in_ok-copy.field-0 c.in_ok-span.span c.requires.partition c.in_ok-copy.ensures c.in_ok-span.ensures c.args.self.now.moved c.set_home.new.moved c.args.from c.args.to c.args.self.now.boxes c.copy_partition.new.boxes c.requires.from c.requires.other
          c.in_ok-set_home.ensures.ok c.copy_partition.ensures.changes c.set_home-2.new.moved c.in_err-set_home-2.ensures.err;
    })

pub returns-clause-ok : goal.returns-clause-ok
returns-clause-ok c =
    record {
      count = c.len.ensures ∙ counted c.args.key c.in_ok-span.span c.args.from c.args.to c.args.self.now c.in_ok-span.ensures c.requires.from c.requires.other c.in_ok-rows.rows c.in_ok-rows.ensures.rows;
      homes = homes_turned c.args.key c.in_ok-copy.field-0 c.in_ok-span.span c.requires.partition c.in_ok-copy.ensures c.in_ok-span.ensures c.args.self.now.moved c.set_home.new.moved c.args.from c.args.to c.args.self.now.boxes c.copy_partition.new.boxes c.requires.from c.requires.other
          c.in_ok-set_home.ensures.ok c.copy_partition.ensures.changes c.set_home-2.new.moved c.sweep.new.boxes c.sweep.ensures.size c.in_ok-set_home-2.ensures.ok;
      free = λ other. free_there c.args.key c.in_ok-span.span c.args.from c.args.to c.args.self.now c.in_ok-span.ensures c.requires.from c.in_ok-rows.ensures.free;
    }

pub copy_partition-requires-clause-from : goal.copy_partition-requires-clause-from
copy_partition-requires-clause-from c =
    subst (λ (x : ℕ). x < length c.args.self.now.boxes) (sym c.requires.from) (home_below (length c.args.self.now.boxes) c.args.self.now.moved c.args.self.now.kept c.args.key)

pub invariant_of-self-in-Break-branch-4 : goal.invariant_of-self-in-Break-branch-4
invariant_of-self-in-Break-branch-4 c =
    record {
      kept = homes_kept c.set_home.new.moved c.args.self.now.boxes c.copy_partition.new.boxes c.copy_partition.ensures.changes.size
          (given_homes c.in_ok-copy.field-0 c.args.self.now.moved c.set_home.new.moved c.args.from (length c.args.self.now.boxes) c.args.self.now.kept
          (subst (λ (x : ℕ). x < length c.args.self.now.boxes) (sym c.requires.from) (home_below (length c.args.self.now.boxes) c.args.self.now.moved c.args.self.now.kept c.args.key)) c.in_ok-set_home.ensures.ok);
    }

pub invariant_of-self-in-Break-branch-5 : goal.invariant_of-self-in-Break-branch-5
invariant_of-self-in-Break-branch-5 c =
    record {
      kept = homes_kept c.set_home-2.new.moved c.args.self.now.boxes c.copy_partition.new.boxes c.copy_partition.ensures.changes.size
          (same_homes c.set_home.new.moved c.set_home-2.new.moved (length c.args.self.now.boxes) (given_homes c.in_ok-copy.field-0 c.args.self.now.moved c.set_home.new.moved c.args.from (length c.args.self.now.boxes) c.args.self.now.kept
          (subst (λ (x : ℕ). x < length c.args.self.now.boxes) (sym c.requires.from) (home_below (length c.args.self.now.boxes) c.args.self.now.moved c.args.self.now.kept c.args.key)) c.in_ok-set_home.ensures.ok) c.in_err-set_home-2.ensures.err);
    }

pub invariant_of-self-2 : goal.invariant_of-self-2
invariant_of-self-2 c =
    record {
      kept = homes_kept c.set_home-2.new.moved c.args.self.now.boxes c.sweep.new.boxes (c.sweep.ensures.size ∙ c.copy_partition.ensures.changes.size)
          (given_homes c.args.key c.set_home.new.moved c.set_home-2.new.moved c.args.to (length c.args.self.now.boxes) (given_homes c.in_ok-copy.field-0 c.args.self.now.moved c.set_home.new.moved c.args.from (length c.args.self.now.boxes) c.args.self.now.kept
          (subst (λ (x : ℕ). x < length c.args.self.now.boxes) (sym c.requires.from) (home_below (length c.args.self.now.boxes) c.args.self.now.moved c.args.self.now.kept c.args.key)) c.in_ok-set_home.ensures.ok) c.requires.inside c.in_ok-set_home-2.ensures.ok);
    }
