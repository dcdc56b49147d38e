use Rattle.std.proofs.Common.{rules, ◌≡◌, ℤ, subst, to_z, of_z, w64}
use Rattle.sdb_client.specs.Client.{ClientAt, OpenTxnPost}
use Rattle.sdb_client.proofs.Left.{reply_told}
use Rattle.sdb_client.proofs.client.Client.txn_took.Goals as goal

pub returns : goal.returns
returns c =
    let here : ClientAt = record { number = c.self.inside.number; begun = c.self.inside.begun; txn = c.self.inside.txn; plan = c.self.inside.plan; vacuum = c.self.inside.vacuum } in
    let left : ClientAt = record { number = c.self.inside.number; begun = c.self.inside.begun; txn = c.leave.new.txn; plan = c.leave.new.plan; vacuum = c.self.inside.vacuum } in
    let now : to_z w64 (of_z w64 c.args.now) ≡ c.args.now = search rules in
    subst (λ (x : ClientAt). OpenTxnPost x x.txn c.args.reply c.args.now c.leave.result left) c.self.view_is
    (subst (λ (m : ℤ). OpenTxnPost here here.txn c.args.reply m c.leave.result left) now
    (reply_told here left here.txn c.take_reply-next.new.txn c.take_reply-next.new.plan c.args.reply (to_z w64 (of_z w64 c.args.now)) c.take_reply-next.result c.leave.result c.take_reply-next.ensures.answered c.take_reply-next.ensures.plan c.leave.ensures.answer
    (λ i. record { number = c.self.inside.number; begun = c.self.inside.begun; txn = c.leave.ensures.txn i; plan = c.leave.ensures.plan i; vacuum = c.self.inside.vacuum })))
