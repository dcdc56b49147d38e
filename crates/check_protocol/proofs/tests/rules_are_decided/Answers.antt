use Rattle.std.proofs.Common.{◌∙◌, sym}
use Rattle.check_protocol.specs.Values.{plan_in}
use Rattle.check_protocol.proofs.StateLaws.{taken_is}
use Rattle.check_protocol.proofs.TakeLaws.{begin_is, is_begin, take_is, is_take}
use Rattle.check_protocol.proofs.CallLaws.{each_sound, prepare_is, is_prepare, check_is, is_check, decide_is, is_decide, abort_is, is_abort}
use Rattle.check_protocol.proofs.KnownLaws.{lawful_sound}
use Rattle.check_protocol.proofs.LateLaws.{delayed_is, is_delayed}
use Rattle.check_protocol.proofs.RollLaws.{roll_is, is_roll, remove_is, is_remove}
use Rattle.check_protocol.proofs.WholeLaw.{sound, lawful_is, is_lawful}
use Rattle.check_protocol.proofs.tests.rules_are_decided.Goals as goal

pub returns-clause-begin : goal.returns-clause-begin
returns-clause-begin c n t client = (begin_is n.past n.event t client, is_begin n.past n.event t client)

pub returns-clause-take : goal.returns-clause-take
returns-clause-take c n t = (take_is n.past n.plans n.event t, is_take n.past n.plans n.event t)

pub returns-clause-prepare : goal.returns-clause-prepare
returns-clause-prepare c n t ks w l = (prepare_is n.past n.plans n.event t ks w, λ m. is_prepare n.past n.plans n.event t ks w m (each_sound (plan_in n.plans t) m.group (lawful_sound n.plans n.past t l (sym (taken_is n.past t) ∙ m.within.accepted)) m.each))

pub returns-clause-check : goal.returns-clause-check
returns-clause-check c n t i = (check_is n.past n.plans n.event t i, is_check n.past n.plans n.event t i)

pub returns-clause-decide : goal.returns-clause-decide
returns-clause-decide c n t w = (decide_is n.past n.plans n.event t w, is_decide n.past n.plans n.event t w)

pub returns-clause-abort : goal.returns-clause-abort
returns-clause-abort c n t moment w = (abort_is n.past n.event t moment w, is_abort n.past n.event t moment w)

pub returns-clause-roll : goal.returns-clause-roll
returns-clause-roll c n t ks d l = (roll_is n.past n.plans n.event t ks d, is_roll n.past n.plans n.event t ks d (λ k. sound n.past n.plans t k l))

pub returns-clause-remove : goal.returns-clause-remove
returns-clause-remove c n k t = (remove_is n.past n.plans n.event k t, is_remove n.past n.event k t)

pub returns-clause-delayed : goal.returns-clause-delayed
returns-clause-delayed c past q a = (delayed_is past q a, is_delayed past q a)

pub returns-clause-whole : goal.returns-clause-whole
returns-clause-whole c past plans = (lawful_is plans past, is_lawful plans past)
