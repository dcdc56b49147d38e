use Rattle.std.proofs.Common.{◌≡◌, ◌≤◌, arith}
use Rattle.sdb_words.proofs.Decimals.{one_number}
use Rattle.sdb_words.proofs.numbers.number_in.Goals as goal
use Rattle.sdb_words.proofs.numbers.number_in.Goals.{then-n-eq0-via-then-n-eq0, then-n-eq0-via-else-n-eq0+then-n-most}

pub returns-then-n-eq0 : goal.returns-then-n-eq0
returns-then-n-eq0 c n h e =
    let low : 1 ≤ n = h.0 in
    let high : n ≤ c.args.most = h.1 in
    let same : c.in_ok-n.n ≡ n = one_number c.args.word.now c.in_ok-n.n n c.in_ok-n.ensures.0 (omega (arith, high, c.ranges.most.fits)) c.in_ok-n.ensures.1 e in
    elim c.then-n-eq0.branch [
      | then-n-eq0-via-then-n-eq0 w ↦ omega (arith, low, same, w.if-n-eq0.true)
      | then-n-eq0-via-else-n-eq0+then-n-most w ↦ omega (arith, high, same, w.if-n-most.true)
    ]
