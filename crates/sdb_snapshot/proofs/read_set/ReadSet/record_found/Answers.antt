use Rattle.std.proofs.Common.{◌≡◌, List, false, ap, ◌∙◌}
use Rattle.sdb_snapshot.specs.Reads.{ReadRecord, is_key_read}
use Rattle.sdb_snapshot.proofs.Firsts.{unread}
use Rattle.sdb_snapshot.proofs.read_set.ReadSet.record_found.Goals as goal

pub push-requires : goal.push-requires
push-requires c =
    let new : is_key_read c.self.inside.found c.args.key ≡ false = ap (λ (read_set : List ReadRecord). is_key_read read_set c.args.key) c.self.view_is ∙ c.requires in
    unread c.self.inside.found c.args.key new
