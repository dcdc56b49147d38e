use Rattle.std.proofs.Common.{◌∙◌, sym}
use Rattle.std.proofs.lemmas.Map.Text.{is_eq-slice_cmp}
use Rattle.sdb_types.specs.Exact.{equal_of}
use Rattle.sdb_types.proofs.name.NameOrd.cmp.Goals as goal

pub returns-then-eq : goal.returns-then-eq
returns-then-eq c = sym (equal_of _ (is_eq-slice_cmp c.args.self.now c.args.other.now ∙ sym c.eq.ensures ∙ c.if-eq.true))
