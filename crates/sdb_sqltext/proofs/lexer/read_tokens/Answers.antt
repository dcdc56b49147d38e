use Rattle.std.proofs.Common.{◌<◌, length, sym, ◌∙◌, arith, length-drop}
use Rattle.sdb_sqltext.proofs.Lexing.{one_token}
use Rattle.sdb_sqltext.proofs.lexer.read_tokens.Goals as goal

pub loop-rest-preserved : goal.loop-rest-preserved
loop-rest-preserved c =
    let has : 0 < length c.loop-rest.rest.now = omega arith in
    let turn = one_token c.loop-rest.rest.now c.args.bytes.now c.loop-rest.placed _ c.in-Ok.token c.in-Ok.n has (sym c.is_gap.ensures ∙ c.if-is_gap.false) c.in-Ok.ensures.value c.in-Ok.ensures.within.0 c.in-Ok.ensures.within.1 c.loop-rest.invariant.1 c.loop-rest.invariant.0 in
    rw (c.in_ok-push-in-Ok.ensures.ok, c.split_at.ensures.back) (turn, omega (arith, length-drop c.in-Ok.n c.loop-rest.rest.now, c.loop-rest.invariant.1))
