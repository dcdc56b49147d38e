use Rattle.std.proofs.Common.{rules, ◌≡◌, ◌∷◌, [], false, None, sym, subst, ◌∙◌}
use Rattle.std.specs.List.{list_any}
use Rattle.sdb_model.specs.Refused.{is_named_by, repeat_place}
use Rattle.sdb_exec.proofs.Risen.{first_once, once_where_rising}
use Rattle.sdb_exec.proofs.refuse.+is_each_once.Goals as goal

pub returns-then-names_rise : goal.returns-then-names_rise
returns-then-names_rise t c = λ h. once_where_rising c.args.mentions.now (sym c.names_rise.ensures ∙ c.if-names_rise.true)

pub returns-then-not-names_column : goal.returns-then-not-names_column
returns-then-not-names_column t c =
    λ h.
    let m = c.in-Some.mention.now in
    let rest = c.in-Some.rest.now in
    let whole : c.args.mentions.now ≡ m ∷ rest = search rules in
    let alone : list_any (is_named_by m.name) rest ≡ false = search rules in
    subst (λ ms. repeat_place [] ms ≡ None) (sym whole) (first_once m rest alone (c.is_each_once.ensures h))
