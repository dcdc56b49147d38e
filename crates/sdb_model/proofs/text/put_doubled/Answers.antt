use Rattle.std.proofs.Common.{rules, lit<}
use Rattle.std.specs.String.{string_bytes}
use Rattle.sdb_model.proofs.Doubled.{doubled_more, doubled_done}
use Rattle.sdb_model.proofs.text.put_doubled.Goals as goal

pub loop-front-preserved : goal.loop-front-preserved
loop-front-preserved c =
    let parts = c.in-Some.ensures.byte (lit< tt) (λ w o h. h) in
    (doubled_more (string_bytes c.loop-front.out) c.loop-front.rest.now c.loop-front.invariant.0 parts.0 parts.1 parts.2 c.in_ok-push_str.ensures.bytes c.in_ok-push_str-2.ensures.bytes, search rules)

pub returns : goal.returns
returns c =
    doubled_done (string_bytes c.loop-front.out) c.loop-front.rest.now c.loop-front.invariant.0 (c.in_default.ensures.byte (lit< tt) (λ w o h. h)) c.in_ok-push_str-3.ensures.bytes
