use Rattle.std.proofs.Common.{not, rules}
use Rattle.std.specs.Str.{bytes_eq}
use Rattle.std.proofs.lemmas.Fn.{filter_same}
use Rattle.sdb_stores.proofs.places.leave_list.Goals as goal

pub returns : goal.returns
returns c = filter_same _ (λ p. not (bytes_eq p.store c.args.store.now)) _ (λ p b f k. search rules) _ _ c.retain.ensures.filtered
