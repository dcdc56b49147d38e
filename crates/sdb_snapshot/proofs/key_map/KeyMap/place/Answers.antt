use Rattle.std.proofs.Common.{sym, subst, ◌∙◌}
use Rattle.std.specs.BTreeMap.{get}
use Rattle.std.specs.Map.{keys_of}
use Rattle.sdb_types.specs.Order.{key_cmp}
use Rattle.sdb_snapshot.specs.Places.{HaveIndexes}
use Rattle.sdb_snapshot.proofs.Firsts.{among_at, first_indexes, not_among, not_at}
use Rattle.sdb_snapshot.proofs.key_map.KeyMap.place.Goals as goal

pub returns-in_err-i : goal.returns-in_err-i
returns-in_err-i g c =
    let index = get key_cmp c.self.inside.places in
    let have = first_indexes (keys_of c.args.self.now) index (subst (λ es. HaveIndexes (keys_of es) index) c.self.view_is c.self.invariant) in
    c.from_residual.ensures ∙ sym (not_among (keys_of c.args.self.now) index c.args.key.now have (sym c.in_err-i.ensures))

pub returns-then-is_key_at : goal.returns-then-is_key_at
returns-then-is_key_at g c =
    let index = get key_cmp c.self.inside.places in
    let have = first_indexes (keys_of c.args.self.now) index (subst (λ es. HaveIndexes (keys_of es) index) c.self.view_is c.self.invariant) in
    sym (among_at (keys_of c.args.self.now) index c.args.key.now c.in_ok-i.i have (sym c.in_ok-i.ensures) (sym c.is_key_at.ensures ∙ c.if-is_key_at.true))

pub returns-else-is_key_at : goal.returns-else-is_key_at
returns-else-is_key_at g c =
    let index = get key_cmp c.self.inside.places in
    let have = first_indexes (keys_of c.args.self.now) index (subst (λ es. HaveIndexes (keys_of es) index) c.self.view_is c.self.invariant) in
    sym (not_at (keys_of c.args.self.now) index c.args.key.now c.in_ok-i.i have (sym c.in_ok-i.ensures) (sym c.is_key_at.ensures ∙ c.if-is_key_at.false))
