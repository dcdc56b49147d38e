use Rattle.std.proofs.Common.{◌≡◌, List, IfOk, subst, ap, ◌∙◌}
use Rattle.sdb_record.specs.declared.access.Access.TheVariants as access
use Rattle.sdb_record.specs.declared.access.Image.{Image}
use Rattle.sdb_snapshot.specs.Seen.{overlay}
use Rattle.sdb_snapshot.proofs.SeenRows.{span_shown}
use Rattle.sdb_snapshot.proofs.snapshot.Snapshot.overlay_span.Goals as goal

pub returns : goal.returns
returns c =
    subst (λ (x : List Image). IfOk c.images_of_keys.result (λ images. images ≡ x))
    (span_shown c.self.inside.read_set c.self.inside.write_set c.args.span.now c.in_ok-keys.keys c.self.invariant.read c.in_ok-keys.ensures ∙ ap (overlay (access.Scan c.args.span.now)) c.self.view_is) c.images_of_keys.ensures
