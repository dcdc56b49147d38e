use Rattle.std.proofs.Common.{◌≡◌, ap, sym, ◌∙◌}
use Rattle.std.specs.BTreeMap.{get}
use Rattle.std.specs.Ordering.{is_eq}
use Rattle.sdb_types.specs.Order.{key_cmp}
use Rattle.sdb_types.proofs.Keys.{same_key_exact, same_key_is}
use Rattle.sdb_types.proofs.rising.find_rising.Goals as goal

pub returns-in-Equal : goal.returns-in-Equal
returns-in-Equal g c =
    let last = c.in-Some.last.now in
    let key = c.args.key.now in
    let same : last ≡ key = same_key_exact last key (same_key_is last key ∙ ap is_eq (sym c.compare.ensures ∙ c.in-Equal.is)) in
    sym c.in-Some.ensures.value ∙ ap (get key_cmp c.args.tree.now) same
