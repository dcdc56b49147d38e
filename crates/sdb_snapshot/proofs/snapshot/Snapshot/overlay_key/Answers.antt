use Rattle.std.proofs.Common.{◌≡◌, List, IfOk, subst, ap, ◌∙◌}
use Rattle.sdb_record.specs.declared.access.Access.TheVariants as access
use Rattle.sdb_record.specs.declared.access.Image.{Image}
use Rattle.sdb_snapshot.specs.Seen.{overlay}
use Rattle.sdb_snapshot.proofs.SeenRows.{key_shown}
use Rattle.sdb_snapshot.proofs.snapshot.Snapshot.overlay_key.Goals as goal

pub returns : goal.returns
returns c =
    subst (λ (x : List Image). IfOk c.image_of_key.result (λ images. images ≡ x))
    (key_shown c.self.inside.read_set c.self.inside.write_set c.args.key.now ∙ ap (overlay (access.Get c.args.key.now)) c.self.view_is) c.image_of_key.ensures
