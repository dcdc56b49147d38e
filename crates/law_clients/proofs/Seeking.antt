-- What a client said, where the rest of it is known, and where its last transaction is the one that is sought.
use Rattle.std.proofs.Common.{◌≡◌, ◌++◌, suc, length, subst}
use Rattle.sdb_model.specs.Transactions.{client_of, ordinal_of, statements_by}
use Rattle.law_clients.specs.Sought.{Sought}
use Rattle.law_clients.specs.Story.{Rest, statements_in, saids_of}

pub said_with : (x : Sought) (rest : Rest) → x.rest ≡ rest → statements_by (client_of x.id) x.events ≡ saids_of x.whole ++ statements_in rest
said_with x rest is = subst (λ r. statements_by (client_of x.id) x.events ≡ saids_of x.whole ++ statements_in r) is x.same

pub is_last : (x : Sought) → x.k ≡ length x.whole → ordinal_of x.id ≡ suc (length x.whole)
is_last x last = subst (λ k. ordinal_of x.id ≡ suc k) last x.ordinal
