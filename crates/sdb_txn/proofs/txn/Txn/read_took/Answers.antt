use Rattle.std.proofs.Common.{rules, ◌≡◌, ◌≢◌, ℤ, sym, ap, ◌∙◌, subst, to_z, of_z, w64}
use Rattle.sdb_phases.specs.Steps.{CanGet}
use Rattle.sdb_txn.specs.declared.read.ReadStep.TheVariants as step
use Rattle.sdb_txn.specs.Read.{read_result, read_step}
use Rattle.sdb_txn.specs.declared.txn.Doing.{Doing}
use Rattle.sdb_txn.specs.Inside.{IsReadOf}
use Rattle.sdb_txn.specs.Txn.{IfReading, IsReading, TxnAt, idle, pending, pending_in}
use Rattle.sdb_txn.proofs.ReadAfter.{end_told, read_ends, read_goes_on, same_read}
use Rattle.sdb_txn.proofs.txn.Txn.read_took.Goals as goal

pub invariant_of-self : goal.invariant_of-self
invariant_of-self c =
    let at : IsReading c.self.inside.doing = subst (λ (t : TxnAt). IsReading t.doing) (sym c.self.view_is) c.requires.at in
    let can : CanGet (pending_in c.self.inside.doing) c.args.reply = subst (λ (t : TxnAt). CanGet (pending t) c.args.reply) (sym c.self.view_is) c.requires.reply in
    let more : c.read_on-step.result ≡ step.More = search rules in
    read_goes_on c.self.inside.doing c.read_on-step.new.doing c.self.inside.snapshot c.args.reply (to_z w64 (of_z w64 c.args.now)) c.read_on-step.result at c.self.invariant can c.read_on-step.ensures.after more

pub read_ended-requires-clause-valid : goal.read_ended-requires-clause-valid
read_ended-requires-clause-valid c =
    let at : IsReading c.self.inside.doing = subst (λ (t : TxnAt). IsReading t.doing) (sym c.self.view_is) c.requires.at in
    let can : CanGet (pending_in c.self.inside.doing) c.args.reply = subst (λ (t : TxnAt). CanGet (pending t) c.args.reply) (sym c.self.view_is) c.requires.reply in
    let same = same_read c.self.inside.doing c.read_on-step.new.doing c.in-Read.access c.in-Read.field-1 c.read_on-step.ensures.same (sym c.replace.ensures.value ∙ c.in-Read.is) in
    read_ends c.self.inside.doing c.self.inside.snapshot c.args.reply (to_z w64 (of_z w64 c.args.now)) c.read_on-step.result c.in-Read.access at c.self.invariant can c.read_on-step.ensures.step same

pub returns-in-Read : goal.returns-in-Read
returns-in-Read c =
    let t : TxnAt = c.args.self.now in
    let v : TxnAt = record { id = c.self.inside.id; seen = c.self.inside.snapshot; doing = c.replace.new.dest } in
    let now : to_z w64 (of_z w64 c.args.now) ≡ c.args.now = search rules in
    let here : c.self.inside.doing ≡ t.doing = ap (λ (x : TxnAt). x.doing) c.self.view_is in
    let kept : IfReading t.doing (λ a x. IsReadOf a c.read_on-step.new.doing) = subst (λ (d : Doing). IfReading d (λ a x. IsReadOf a c.read_on-step.new.doing)) here c.read_on-step.ensures.same in
    let same = same_read t.doing c.read_on-step.new.doing c.in-Read.access c.in-Read.field-1 kept (sym c.replace.ensures.value ∙ c.in-Read.is) in
    let step : IfReading t.doing (λ a x. c.read_on-step.result ≢ step.NoMemory → c.read_on-step.result ≡ read_result (read_step x.stage c.args.now c.args.reply)) =
    subst (λ (d : Doing). IfReading d (λ a x. c.read_on-step.result ≢ step.NoMemory → c.read_on-step.result ≡ read_result (read_step x.stage c.args.now c.args.reply))) here
    (subst (λ (n : ℤ). IfReading c.self.inside.doing (λ a x. c.read_on-step.result ≢ step.NoMemory → c.read_on-step.result ≡ read_result (read_step x.stage n c.args.reply))) now c.read_on-step.ensures.step) in
    let is : v ≡ idle t = ap (λ (d : Doing). record { id = c.self.inside.id; seen = c.self.inside.snapshot; doing = d }) c.replace.ensures.after ∙ ap idle c.self.view_is in
    end_told t v c.read_ended.new.self c.in-Read.access c.args.reply c.args.now c.read_on-step.result c.read_ended.result c.requires.at step same is c.read_ended.ensures.memory c.read_ended.ensures.answered
