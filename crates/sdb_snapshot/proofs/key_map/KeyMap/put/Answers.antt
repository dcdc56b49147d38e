use Rattle.std.proofs.Common.{◌≡◌, sym, subst, ◌∙◌}
use Rattle.std.specs.Prelude.{OnOk}
use Rattle.sdb_snapshot.proofs.Firsts.{put_last, put_there}
use Rattle.sdb_snapshot.proofs.key_map.KeyMap.put.Goals as goal

pub returns-in-Some-clause-ok : goal.returns-in-Some-clause-ok
returns-in-Some-clause-ok g c = c.replace.ensures ∙ (put_there c.args.key c.args.value c.args.self.now c.in-Some.i (sym c.in-Some.ensures)).0

pub returns-in-None-clause-ok : goal.returns-in-None-clause-ok
returns-in-None-clause-ok g c =
    subst (λ es. OnOk c.push.result (c.push.new.self ≡ es)) (put_last c.args.key c.args.value c.args.self.now (sym c.in-None.ensures)) c.push.ensures.ok
