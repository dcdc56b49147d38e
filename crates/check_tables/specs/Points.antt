-- What the slow functions on transactions hold.
use Rattle.std.specs.Prelude.{Option, Some, None, find, length, take_while, insert as list_insert, nat_le, if◌then◌else◌, List, [], map, fold}
use Rattle.sdb_types.specs.declared.txid.TxId.{TxId}
use Rattle.sdb_model.specs.declared.event.Event.{Event}
use Rattle.sdb_model.specs.declared.event.Point.{Point}
use Rattle.std.specs.Option.{option_and_then}
use Rattle.sdb_model.specs.Sql.{reads_commit}
use Rattle.sdb_model.specs.Transactions.{Executed as SaidOf, ends, rest_of, point_at}

---- the order of some transactions

-- with a point put before the first that is later
abbrev pub inserted_point : List Point → Point → List Point
inserted_point ps p = list_insert ps (length (take_while (λ q. nat_le q.event p.event) ps)) p

-- transactions, each with its point, by rising point
abbrev pub order_of : List Event → List TxId → List Point
order_of events ids = fold inserted_point [] (map (point_at events) ids)

---- the COMMIT of a transaction, among its client's statements since its BEGIN

abbrev pub commit_among : List SaidOf → Option SaidOf
commit_among ss = option_and_then (λ s. if reads_commit s.text then Some s else None) (find ends (rest_of ss))
