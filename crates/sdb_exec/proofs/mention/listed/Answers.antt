use Rattle.std.proofs.Common.{◌∙◌, ap, sym, []}
use Rattle.std.proofs.lemmas.List.{drop_all}
use Rattle.sdb_exec.proofs.Gathered.{gathered, gathered-is}
use Rattle.sdb_exec.proofs.mention.listed.Goals as goal

pub returns : goal.returns
returns c =
    ap (λ ns. gathered c.loop-name.found ns c.loop-name.values.now) (sym (drop_all c.loop-name.name-index c.args.names.now c.loop-name-test.false))
    ∙ c.loop-name.invariant
    ∙ gathered-is [] c.args.names.now c.args.values.now
