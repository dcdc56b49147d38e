-- Each call of a transaction is well formed.
use Rattle.std.proofs.Common.{◌≡◌, sym, subst}
use Rattle.std.specs.Prelude.{IfSome}
use Rattle.sdb_txn.specs.Types.{Access, Request}
use Rattle.sdb_types.specs.Contents.{IsWellFormed}
use Rattle.sdb_record.specs.declared.access.Access.TheVariants as access
use Rattle.sdb_record.specs.Groups.{AreGroups, grouped}
use Rattle.sdb_phases.specs.Work.{Work}
use Rattle.sdb_phases.specs.Commit.{Stage, pending}
use Rattle.sdb_phases.proofs.Public.{pending_formed, recover_formed, some_formed}
use Rattle.sdb_txn.specs.Read.{ReadAt, ReadStage, Asking, Resolving, Ended, read_pending, read_pending_at, request_of}

access_formed : (a : Access) → IsWellFormed (request_of a)
access_formed (access.Get key) = tt
access_formed (access.Scan span) = tt

stage_formed : (q : Request) (s : ReadStage) → IsWellFormed q → IfSome (read_pending_at q s) IsWellFormed
stage_formed q Asking h = h
stage_formed q (Resolving images rec meta p left) h = recover_formed rec meta p
stage_formed q (Ended s) h = tt

pub read_formed : (a : Access) (x : ReadAt) → x.request ≡ request_of a → IfSome (read_pending x) IsWellFormed
read_formed a x e = stage_formed x.request x.stage (subst IsWellFormed (sym e) (access_formed a))

pub commit_formed : (p : Work) (s : Stage) → AreGroups (grouped p.writes) → IfSome (pending p s) IsWellFormed
commit_formed p s are = some_formed (pending p s) (λ q. pending_formed p s q are)
