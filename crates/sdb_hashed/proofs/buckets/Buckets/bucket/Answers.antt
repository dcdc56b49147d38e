use Rattle.std.proofs.Common.{◌≡◌, Some, subst}
use Rattle.std.specs.FinMap.{empty}
use Rattle.sdb_types.specs.declared.key.Key.{Key}
use Rattle.sdb_types.specs.Contents.{Contents}
use Rattle.sdb_hashed.specs.Gathered.{IsPartOf}
use Rattle.sdb_hashed.proofs.Parting.{lent_bucket, no_table}
use Rattle.sdb_hashed.proofs.buckets.Buckets.bucket.Goals as goal

pub returns-in-Some-part-clause-some : goal.returns-in-Some-part-clause-some
returns-in-Some-part-clause-some c =
    let named : Some c.in-Some.partition ≡ c.args.at.now.partition = cc (c.in-Some.is) in
    let one = subst (λ (m : Contents). IsPartOf (λ (k : Key). k.table) c.args.at.now.table c.in-Some-part.table.now m) c.self.view_is c.in-Some-part.ensures.some in
    (lent_bucket c.args.at.now c.in-Some.partition named c.in-Some-part.table.now c.args.self.now one c.part-in-Some-part.result c.in_order.result c.in_order.ensures.same c.in_order.ensures.rising c.part-in-Some-part.ensures.some c.part-in-Some-part.ensures.none).0

pub returns-in-Some-part-clause-none : goal.returns-in-Some-part-clause-none
returns-in-Some-part-clause-none c =
    let named : Some c.in-Some.partition ≡ c.args.at.now.partition = cc (c.in-Some.is) in
    let one = subst (λ (m : Contents). IsPartOf (λ (k : Key). k.table) c.args.at.now.table c.in-Some-part.table.now m) c.self.view_is c.in-Some-part.ensures.some in
    (lent_bucket c.args.at.now c.in-Some.partition named c.in-Some-part.table.now c.args.self.now one c.part-in-Some-part.result c.in_order.result c.in_order.ensures.same c.in_order.ensures.rising c.part-in-Some-part.ensures.some c.part-in-Some-part.ensures.none).1

pub returns-in-None-part-clause-none : goal.returns-in-None-part-clause-none
returns-in-None-part-clause-none c =
    no_table c.args.at.now c.args.self.now (subst (λ (m : Contents). IsPartOf (λ (k : Key). k.table) c.args.at.now.table empty m) c.self.view_is c.in-None-part.ensures.none)
