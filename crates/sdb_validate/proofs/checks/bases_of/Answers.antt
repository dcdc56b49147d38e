use Rattle.std.proofs.Common.{◌≡◌, ◌+◌, arith, rules, true, false}
use Rattle.std.specs.Prelude.{is_none}
use Rattle.std.specs.BTreeMap.{get}
use Rattle.sdb_types.specs.Order.{key_cmp}
use Rattle.sdb_validate.proofs.Places.{at_key, new_base, old_base, none_free}
use Rattle.sdb_validate.proofs.checks.bases_of.Goals as goal
use Rattle.sdb_validate.proofs.checks.bases_of.Goals.{then-is_none+in_ok-copy+in_ok-insert, else-is_none}

pub loop-write-preserved : goal.loop-write-preserved
loop-write-preserved c =
    let w = c.write-item.result in
    let m = c.loop-write.bases in
    let i = c.loop-write.write-index in
    λ q.
    elim c.if-is_none.branch [
      | then-is_none+in_ok-copy+in_ok-insert b ↦
          let free : is_none (get key_cmp m w.key) ≡ true = search (rules, b.if-is_none) in
          at_key c.if-is_none.bases b.insert.new.self c.args.own.now (i + 1) q b.bases-is (new_base c.args.own.now i w m b.insert.new.self b.in_ok-copy.field-0 b.version_of.result q (omega arith) c.write-item.is b.in_ok-copy.ensures b.version_of.ensures (none_free (get key_cmp m w.key) free) b.in_ok-insert.ensures.updates.0 (c.loop-write.invariant q))
      | else-is_none b ↦
          let there : is_none (get key_cmp m w.key) ≡ false = search (rules, b.if-is_none) in
          at_key c.if-is_none.bases m c.args.own.now (i + 1) q b.bases-is (old_base c.args.own.now i w m q (omega arith) c.write-item.is there (c.loop-write.invariant q))
    ]
