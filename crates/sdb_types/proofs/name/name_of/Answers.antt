use Rattle.std.proofs.Common.{◌≡◌, ℕ, List, ◌∙◌, sym, ap, subst}
use Rattle.std.specs.Prelude.{IfOk}
use Rattle.std.specs.Option.{option_copied}
use Rattle.sdb_types.proofs.Prefixes.{within-is, within-is_name, within-short}
use Rattle.sdb_types.proofs.name.name_of.Goals as goal

pub with_before-requires-clause-named : goal.with_before-requires-clause-named
with_before-requires-clause-named c = within-is_name c.args.text.now c.in-Some.rest.now c.requires (sym c.text_within.ensures ∙ ap option_copied c.in-Some.is)

pub with_before-requires-clause-short : goal.with_before-requires-clause-short
with_before-requires-clause-short c = within-short c.args.text.now c.in-Some.rest.now c.requires (sym c.text_within.ensures ∙ ap option_copied c.in-Some.is)

pub returns-in-Some : goal.returns-in-Some
returns-in-Some c =
    subst
    (λ (t : List ℕ). IfOk c.with_before.result (λ n. n ≡ t))
    (sym (within-is c.args.text.now c.in-Some.rest.now (sym c.text_within.ensures ∙ ap option_copied c.in-Some.is)).0)
    c.with_before.ensures
