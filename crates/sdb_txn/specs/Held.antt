-- What a value on the heap ends as, where a `&mut` to it is returned.
use Rattle.std.specs.Borrow.{Lends, Fml, MutBor, RattleType}
use Rattle.sdb_txn.specs.contracts.held.Held.{the_row}

-- once the borrow r ends, it is the value that r shows last
abbrev pub LendsWhole : (T : RattleType) → MutBor T.Denot → MutBor T.Denot → Fml
LendsWhole T h r = Lends (the_row T) T h r (λ w. w)
