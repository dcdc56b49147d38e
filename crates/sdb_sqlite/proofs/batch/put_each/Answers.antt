use Rattle.std.proofs.Common.{◌+◌, List, Ok, Err, Result, drop, drop_of_length-le, refl, sym, ap, subst, arith}
use Rattle.sdb_types.specs.declared.record.Put.{Put}
use Rattle.sdb_types.proofs.Public.{drop_next}
use Rattle.sdb_sqlite.specs.declared.batch.BatchWritten.{BatchWritten}
use Rattle.sdb_sqlite.specs.declared.batch.BatchWritten.TheVariants.{AllWritten, FirstUnmet}
use Rattle.sdb_sqlite.specs.declared.refused.Stopped.{Stopped}
use Rattle.sdb_sqlite.specs.Asked.{PutsEach}
use Rattle.sdb_sqlite.proofs.Batches.{each_more, each_stopped, each_unmet}
use Rattle.sdb_sqlite.proofs.batch.put_each.Goals as goal

pub overflow_add-place : goal.overflow_add-place
overflow_add-place g c = omega (arith, c.requires.few, c.loop-one-test.true, c.loop-one.invariant.0)

pub loop-one-preserved : goal.loop-one-preserved
loop-one-preserved g c =
    let ps = c.args.puts.now in
    let i = c.loop-one.one-index in
    let p = c.one-item.result in (
      ap (λ n. n + 1) c.loop-one.invariant.0,
      λ new result rest. c.loop-one.invariant.1 new result
          (subst (λ (xs : List Put). PutsEach g.S.Store (i + 1) xs c.loop-one.connection new result) (sym (drop_next ps i p c.loop-one-test.true c.one-item.is))
          (each_more g.S.Store (i + 1) p (drop (i + 1) ps) c.loop-one.connection c.put.new.connection new result (rw c.in-Ok-Applied.field-0-is at c.in-Ok-Applied.ensures) rest)),
    )

pub returns-in-Ok-NotMet : goal.returns-in-Ok-NotMet
returns-in-Ok-NotMet g c =
    let ps = c.args.puts.now in
    let i = c.loop-one.one-index in
    let p = c.one-item.result in
    let result : Result BatchWritten Stopped = Ok (FirstUnmet (c.loop-one.place + 1) c.in-Ok-NotMet.found) in
    c.loop-one.invariant.1 c.put.new.connection result
    (subst (λ (xs : List Put). PutsEach g.S.Store (i + 1) xs c.loop-one.connection c.put.new.connection result) (sym (drop_next ps i p c.loop-one-test.true c.one-item.is))
    (each_unmet g.S.Store (i + 1) (c.loop-one.place + 1) p (drop (i + 1) ps) c.loop-one.connection c.put.new.connection c.in-Ok-NotMet.found (ap (λ n. n + 1) c.loop-one.invariant.0) (rw c.in-Ok-NotMet.field-0-is at c.in-Ok-NotMet.ensures)))

pub returns-in-Err : goal.returns-in-Err
returns-in-Err g c =
    let ps = c.args.puts.now in
    let i = c.loop-one.one-index in
    let p = c.one-item.result in
    let result : Result BatchWritten Stopped = Err c.in-Err.stopped in
    c.loop-one.invariant.1 c.put.new.connection result
    (subst (λ (xs : List Put). PutsEach g.S.Store (i + 1) xs c.loop-one.connection c.put.new.connection result) (sym (drop_next ps i p c.loop-one-test.true c.one-item.is))
    (each_stopped g.S.Store (i + 1) p (drop (i + 1) ps) c.loop-one.connection c.put.new.connection c.in-Err.stopped c.in-Err.ensures))

pub loop-one-init : goal.loop-one-init
loop-one-init g c = (refl, λ new result each. each)

pub returns : goal.returns
returns g c =
    let ps = c.args.puts.now in
    let i = c.loop-one.one-index in
    let at = c.loop-one.connection in
    let result : Result BatchWritten Stopped = Ok AllWritten in
    c.loop-one.invariant.1 at result (subst (λ (xs : List Put). PutsEach g.S.Store (i + 1) xs at at result) (sym (drop_of_length-le ps c.loop-one-test.false)) (refl, refl))
