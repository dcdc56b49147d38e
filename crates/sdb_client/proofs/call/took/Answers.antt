use Rattle.std.proofs.Common.{Option, subst, sym, to_z, of_z, w64}
use Rattle.sdb_exec.specs.Plans.{Planned}
use Rattle.sdb_client.specs.Inside.{IsLeft}
use Rattle.sdb_client.proofs.Left.{commit_left, read_left}
use Rattle.sdb_client.proofs.call.took.Goals as goal

pub returns-in-Some-clause-left : goal.returns-in-Some-clause-left
returns-in-Some-clause-left c =
    read_left c.args.txn.now.doing c.args.txn.now c.read_took.new.txn c.in-Some.plan c.read_took.new.plan c.args.plan.now c.args.reply (to_z w64 (of_z w64 c.args.now)) c.read_took.result c.in-Some.is c.requires.under c.read_took.ensures.answered c.read_took.ensures.plan

pub returns-in-None-clause-left : goal.returns-in-None-clause-left
returns-in-None-clause-left c =
    subst (λ (p : Option Planned). IsLeft c.next_of.result c.advance.new.self p) (sym c.in-None.is)
    (commit_left c.args.txn.now.doing c.args.txn.now c.advance.new.self c.args.plan.now c.args.reply c.advance.result c.next_of.result c.requires.pending c.in-None.is c.next_of.ensures c.requires.under c.advance.ensures.commit)
