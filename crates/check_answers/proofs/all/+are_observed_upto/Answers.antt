use Rattle.check_answers.proofs.Decided.{if_ok}
use Rattle.check_answers.proofs.WholeLaws.{none_upto, not_upto, rest_upto}
use Rattle.check_answers.proofs.all.+are_observed_upto.Goals as goal

pub returns-then-count-eq0 : goal.returns-then-count-eq0
returns-then-count-eq0 t c = none_upto c.args.catalog.now c.args.events.now c.args.stores.now c.args.client c.args.count c.if-count-eq0.true

pub returns-then-observed : goal.returns-then-observed
returns-then-observed t c =
    if_ok c.are_observed_upto.result (λ b h. rest_upto c.args.catalog.now c.args.events.now c.args.stores.now c.args.client c.args.count c.id_of.result c.in_ok-observed.observed c.if-count-eq0.false c.id_of.ensures c.in_ok-observed.ensures c.if-observed.true b h) c.are_observed_upto.ensures

pub returns : goal.returns
returns t c = not_upto c.args.catalog.now c.args.events.now c.args.stores.now c.args.client c.args.count c.id_of.result c.in_ok-observed.observed c.if-count-eq0.false c.id_of.ensures c.in_ok-observed.ensures c.if-observed.false
