use Rattle.std.proofs.Common.{◌∙◌, ◌≡◌, ◌<◌, ◌^◌, ◌+◌, ap, sym, arith, length}
use Rattle.sdb_model.specs.Refused.{mentions}
use Rattle.sdb_exec.proofs.Places.{place_small}
use Rattle.sdb_exec.proofs.refuse.refusal_on_table.Goals as goal

pub overflow_cast-result : goal.overflow_cast-result
overflow_cast-result c =
    let few : length (mentions c.args.statement.now) < 2 ^ 32 = rw (← c.in_ok-mentions.ensures, ← c.len.ensures) c.if-len-ge-MOST.false in
    let small : c.in-Some.fault.place < 2 ^ 32 = place_small c.args.table.now c.args.statement.now _ c.requires few (sym c.in_ok-found.ensures ∙ c.in-Some.is) in
    let place : c.fault.inside.index + 1 ≡ c.in-Some.fault.place = ap (λ r. r.place) c.fault.view_is in
    omega (arith, small, place)

pub overflow_add-result : goal.overflow_add-result
overflow_add-result c =
    let few : length (mentions c.args.statement.now) < 2 ^ 32 = rw (← c.in_ok-mentions.ensures, ← c.len.ensures) c.if-len-ge-MOST.false in
    let small : c.in-Some.fault.place < 2 ^ 32 = place_small c.args.table.now c.args.statement.now _ c.requires few (sym c.in_ok-found.ensures ∙ c.in-Some.is) in
    let place : c.fault.inside.index + 1 ≡ c.in-Some.fault.place = ap (λ r. r.place) c.fault.view_is in
    omega (arith, small, place)
