use Rattle.std.proofs.Common.{rules, ◌≡◌, ◌∙◌, List, [], ◌∷◌, ◌++◌, ap, length, subst, sym}
use Rattle.std.specs.Vec.{vec_len}
use Rattle.std.specs.BTreeMap.{get}
use Rattle.sdb_types.specs.Order.{key_cmp}
use Rattle.sdb_record.specs.declared.write.Write.{Write}
use Rattle.sdb_record.specs.Groups.{HaveLatest}
use Rattle.sdb_record.proofs.Latest.{latest_begun}
use Rattle.sdb_record.proofs.groups.begin.Goals as goal

pub returns-clause-latest : goal.returns-clause-latest
returns-clause-latest c =
    let gs = c.args.groups.now.items in
    let at = get key_cmp c.args.latest.now in
    let new = get key_cmp c.insert.new.self in
    let size : vec_len c.args.groups.now ≡ length gs = search rules in
    let begun = c.in_ok-push.ensures.items ∙ ap (λ (g : List Write). gs ++ g ∷ []) c.in_ok-group.ensures in
    subst (λ (xs : List (List Write)). HaveLatest new xs) (sym begun) (latest_begun at new gs c.len.result c.args.write c.args.partition (c.len.ensures ∙ size) c.requires.partition c.in_ok-insert.ensures.updates.0 c.requires.latest)
