use Rattle.std.proofs.Common.{rules, ◌≡◌, ℤ, subst, to_z, of_z, w64}
use Rattle.sdb_txn.specs.Txn.{IfReading}
use Rattle.sdb_model.specs.declared.answer.Answer.TheVariants as answer
use Rattle.sdb_client.specs.declared.next.Next.TheVariants as next
use Rattle.sdb_client.specs.Client.{CallPost}
use Rattle.sdb_client.proofs.Calls.{other_told, rows_read, rows_told}
use Rattle.sdb_client.proofs.call.read_took.Goals as goal

pub finish_read-requires-clause-idle : goal.finish_read-requires-clause-idle
finish_read-requires-clause-idle c =
    let read = rows_read c.args.txn.now.doing c.args.txn.now c.advance.new.self c.args.plan.now c.args.reply (to_z w64 (of_z w64 c.args.now)) c.in-Rows.rows c.requires.at c.in-Rows.ensures.read in
    read.idle

pub finish_read-requires-clause-rows : goal.finish_read-requires-clause-rows
finish_read-requires-clause-rows c =
    let read = rows_read c.args.txn.now.doing c.args.txn.now c.advance.new.self c.args.plan.now c.args.reply (to_z w64 (of_z w64 c.args.now)) c.in-Rows.rows c.requires.at c.in-Rows.ensures.read in
    read.rows

pub finish_read-requires-clause-read : goal.finish_read-requires-clause-read
finish_read-requires-clause-read c =
    let read = rows_read c.args.txn.now.doing c.args.txn.now c.advance.new.self c.args.plan.now c.args.reply (to_z w64 (of_z w64 c.args.now)) c.in-Rows.rows c.requires.at c.in-Rows.ensures.read in
    read.read

pub finish_read-requires-clause-kept : goal.finish_read-requires-clause-kept
finish_read-requires-clause-kept c =
    let read = rows_read c.args.txn.now.doing c.args.txn.now c.advance.new.self c.args.plan.now c.args.reply (to_z w64 (of_z w64 c.args.now)) c.in-Rows.rows c.requires.at c.in-Rows.ensures.read in
    read.kept c.mark-mark.result c.mark-mark.ensures.mark c.mark-mark.ensures.kept

pub returns-in-Rows-clause-answered : goal.returns-in-Rows-clause-answered
returns-in-Rows-clause-answered c =
    let now : to_z w64 (of_z w64 c.args.now) ≡ c.args.now = search rules in
    subst (λ (m : ℤ). IfReading c.args.txn.now.doing (λ a x. CallPost c.args.txn.now c.args.plan.now a x c.args.reply m (next.Answer c.finish_read.result) c.finish_read.new.txn)) now
    (rows_told c.args.txn.now.doing c.args.txn.now c.advance.new.self c.finish_read.new.txn c.args.plan.now c.args.reply (to_z w64 (of_z w64 c.args.now)) c.in-Rows.rows c.mark-mark.result c.finish_read.result c.mark-mark.ensures.mark c.in-Rows.ensures.read
    c.finish_read.ensures.answer c.finish_read.ensures.left c.finish_read.ensures.memory)

pub returns-in-NoMemory-clause-answered : goal.returns-in-NoMemory-clause-answered
returns-in-NoMemory-clause-answered c =
    let now : to_z w64 (of_z w64 c.args.now) ≡ c.args.now = search rules in
    subst (λ (m : ℤ). IfReading c.args.txn.now.doing (λ a x. CallPost c.args.txn.now c.args.plan.now a x c.args.reply m (next.Answer answer.NoMemory) c.advance.new.self)) now
    (other_told c.args.txn.now.doing c.args.txn.now c.advance.new.self c.args.plan.now c.args.reply (to_z w64 (of_z w64 c.args.now)) c.advance.result c.in-NoMemory.is c.advance.ensures.read)
