use Rattle.std.proofs.Common.{◌≡◌, drop}
use Rattle.std.specs.Prelude.{find}
use Rattle.sdb_model.specs.Rows.{same_name}
use Rattle.check_answers.proofs.stores.find_shelf.Given as goal

abbrev pub invariant-loop-store_content : goal.invariant-loop-store_content
invariant-loop-store_content l = find (λ s. same_name s.name l.name) (drop l.store_content-index l.store_contents) ≡ find (λ s. same_name s.name l.name) l.store_contents
