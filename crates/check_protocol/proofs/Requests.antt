-- Requests that test the same are the same.
use Rattle.std.proofs.Common.{◌≡◌, true}
use Rattle.sdb_types.specs.declared.record.Request.{Request}
use Rattle.sdb_types.specs.Exactness.{request_is_exact}
use Rattle.check_protocol.specs.Values.{same_request}

pub request_is : (a b : Request) → same_request a b ≡ true → a ≡ b
unfolding same_request
request_is a b h = (request_is_exact a b).0 h

pub is_request : (a b : Request) → a ≡ b → same_request a b ≡ true
unfolding same_request
is_request a b e = (request_is_exact a b).1 e
