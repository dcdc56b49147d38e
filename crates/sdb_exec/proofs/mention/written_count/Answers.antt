use Rattle.std.proofs.Common.{◌∙◌, ap, sym, length}
use Rattle.sdb_model.specs.Refused.{written}
use Rattle.sdb_exec.proofs.Gathered.{listed-length}
use Rattle.sdb_exec.proofs.mention.written_count.Goals as goal

pub returns-in-Insert : goal.returns-in-Insert
returns-in-Insert c = c.len.ensures ∙ sym (listed-length c.in-Insert.s.columns c.in-Insert.s.values) ∙ ap (λ s. length (written s)) (sym c.in-Insert.is)

pub returns-in-Upsert : goal.returns-in-Upsert
returns-in-Upsert c = c.len-in-Upsert.ensures ∙ sym (listed-length c.in-Upsert.s.columns c.in-Upsert.s.values) ∙ ap (λ s. length (written s)) (sym c.in-Upsert.is)
