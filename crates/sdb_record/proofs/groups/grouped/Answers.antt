use Rattle.std.proofs.Common.{◌≡◌, ◌∙◌, [], ◌∷◌, List, None, ap, map, subst, sym, true}
use Rattle.std.specs.Prelude.{IfOk}
use Rattle.sdb_record.specs.declared.write.Write.{Write}
use Rattle.sdb_record.specs.Groups.{rise_from}
use Rattle.sdb_record.proofs.Apart.{apart_ok}
use Rattle.sdb_record.proofs.groups.grouped.Goals as goal

pub returns-then-rise : goal.returns-then-rise
returns-then-rise c =
    let up : rise_from None c.args.writes.now ≡ true = ap (rise_from None) (sym c.as_slice.ensures) ∙ sym c.rise.ensures ∙ c.if-rise.true in
    apart_ok c.apart.result c.args.writes.now up (subst (λ (ws : List Write). IfOk c.apart.result (λ gs. gs ≡ map (λ w. w ∷ []) ws)) c.as_slice-then-rise.ensures c.apart.ensures)
