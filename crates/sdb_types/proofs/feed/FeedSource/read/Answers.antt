use Rattle.std.proofs.Common.{sym, ap, arith, length, Some, ◌∙◌, drop, take, ◌+◌, ◌-◌}
use Rattle.sdb_types.proofs.Pieces.{filled}
use Rattle.sdb_types.proofs.feed.FeedSource.read.Goals as goal

pub returns-clause-accepted : goal.returns-clause-accepted
returns-clause-accepted c =
    ap (λ f. Some f.left) (sym c.self.view_is) ∙ ap Some (filled c.min-n.result _ c.self.inside.at c.self.inside.bytes _ c.copy_from_slice.new.self (c.copy_from_slice.ensures.after ∙ ap (λ ys. take ((c.self.inside.at + c.min-n.result) - c.self.inside.at) (drop c.self.inside.at ys)) c.as_slice-bytes.ensures) (omega arith) (omega (arith, ap length c.as_slice-bytes.ensures)))
