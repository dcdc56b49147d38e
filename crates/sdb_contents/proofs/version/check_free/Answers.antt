use Rattle.std.proofs.Common.{◌≡◌, ◌∙◌, false, sym, rules}
use Rattle.sdb_types.proofs.Public.{false_true, not_true}
use Rattle.sdb_contents.proofs.Steps.{first_blocking}
use Rattle.sdb_contents.proofs.version.check_free.Goals as goal

pub returns-then-not-is_free-clause-err : goal.returns-then-not-is_free-clause-err
returns-then-not-is_free-clause-err c =
    let no : c.is_free.result ≡ false = first_of (search (c.if-not-is_free.true), search (not_true, c.if-not-is_free.true), search (rules, not_true)) in
    first_blocking c.args.in_to.now c.args.in_from.now c.loop-rec.rec-index c.rec-item.result c.in_ok-copy.field-0 c.loop-rec-test.true c.rec-item.is c.loop-rec.invariant (λ f. false_true (sym no ∙ c.is_free.ensures.1 f)) c.in_ok-copy.ensures
