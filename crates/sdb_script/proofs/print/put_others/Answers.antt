use Rattle.std.proofs.Common.{◌++◌, codes, arith}
use Rattle.std.specs.String.{string_bytes}
use Rattle.sdb_script.specs.Printed.{member_text}
use Rattle.sdb_script.proofs.Printing.{others_more}
use Rattle.sdb_script.proofs.print.put_others.Goals as goal

pub loop-i-preserved : goal.loop-i-preserved
loop-i-preserved c =
    others_more (λ t. codes "," ++ member_text t) (string_bytes c.args.out.now) (string_bytes c.loop-i.out) (string_bytes c.put_at.new.out) c.args.catalog.now c.loop-i.i (omega arith) (omega (arith, c.len-i-end.ensures.len)) c.loop-i.invariant c.in_ok-put_at.ensures
