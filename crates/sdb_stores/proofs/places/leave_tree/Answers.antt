use Rattle.std.proofs.Common.{not, rules}
use Rattle.std.specs.Str.{bytes_eq}
use Rattle.std.proofs.lemmas.Map.Made.{filter_same_pairs}
use Rattle.sdb_stores.proofs.places.leave_tree.Goals as goal

pub returns-clause-left : goal.returns-clause-left
returns-clause-left c = filter_same_pairs _ (λ e. not (bytes_eq e.1 c.args.store.now)) _ (λ k v b w f t. search rules) _ _ c.retain.ensures.filtered
