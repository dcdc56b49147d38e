use Rattle.std.proofs.Common.{◌≡◌, ◌∙◌, true, false, sym, rules}
use Rattle.sdb_types.proofs.Public.{false_true, not_true}
use Rattle.sdb_shards.proofs.Copies.{free_all, free_more, in_the_way, not_false}
use Rattle.sdb_shards.proofs.moves.check_free.Goals as goal

pub returns-then-not-is_free-clause-err : goal.returns-then-not-is_free-clause-err
returns-then-not-is_free-clause-err c =
    let busy : c.is_free.result ≡ false = first_of (search (c.if-not-is_free.true), search (not_true, c.if-not-is_free.true), search (rules, not_true)) in
    in_the_way c.args.there.now c.args.coming.now c.loop-rec.rec-index c.rec-item.result c.in_ok-copy.field-0 c.loop-rec-test.true c.rec-item.is (λ f. false_true (sym busy ∙ c.is_free.ensures.1 f)) c.in_ok-copy.ensures

pub loop-rec-preserved : goal.loop-rec-preserved
loop-rec-preserved c =
    let free : c.is_free.result ≡ true = first_of (search (c.if-not-is_free.false), search (not_false, c.if-not-is_free.false), search (rules, not_false)) in
    free_more c.args.there.now c.args.coming.now c.loop-rec.rec-index c.rec-item.result c.loop-rec-test.true c.rec-item.is c.loop-rec.invariant (c.is_free.ensures.0 free)

pub returns-clause-free : goal.returns-clause-free
returns-clause-free c = free_all c.args.there.now c.args.coming.now c.loop-rec.rec-index c.loop-rec-test.false c.loop-rec.invariant
