use Rattle.law_answers.proofs.Whole.{alters_all, clock_all, idles_all, lands_all, stops_all}
use Rattle.law_answers.proofs.clock.stops_and_clock.Goals as goal

pub returns-clause-stops : goal.returns-clause-stops
returns-clause-stops x = λ k c. stops_all k.catalog k.events k.now k.states c k.tied

pub returns-clause-idles : goal.returns-clause-idles
returns-clause-idles x = λ k c. idles_all k.catalog k.events k.now k.states c k.tied

pub returns-clause-moves : goal.returns-clause-moves
returns-clause-moves x = λ k moment. clock_all k.catalog k.events k.now moment k.states k.tied

pub returns-clause-lands : goal.returns-clause-lands
returns-clause-lands x = λ k number store q how r. lands_all number store q how r k.tied

pub returns-clause-alters : goal.returns-clause-alters
returns-clause-alters x = λ k e adds. alters_all k.catalog k.events k.now k.states e adds k.tied
