use Rattle.std.proofs.Common.{◌≡◌, refl, ap, ◌∙◌}
use Rattle.sdb_snapshot.specs.Seen.{Seen, forgotten, mark_of}
use Rattle.sdb_snapshot.proofs.Public.{scan_forgotten}
use Rattle.sdb_txn.proofs.Notes.{kept_cut, cut_is}
use Rattle.sdb_txn.proofs.txn.Txn.note_span.Goals as goal

pub show-requires-clause-kept : goal.show-requires-clause-kept
show-requires-clause-kept c =
    let s : Seen = c.self.inside.snapshot in
    let cut : forgotten (mark_of s) c.note_scan.new.self ≡ s = ap (forgotten (mark_of s)) c.in-Ok-note_scan.ensures.ok ∙ scan_forgotten s c.in-Ok.as_read c.args.images in
    kept_cut s c.note_scan.new.self c.mark-mark.result c.mark-mark.ensures.mark cut c.mark-mark.ensures.kept

pub returns-in-Ok-note_scan-clause-memory : goal.returns-in-Ok-note_scan-clause-memory
returns-in-Ok-note_scan-clause-memory c =
    let s : Seen = c.self.inside.snapshot in
    let cut : forgotten (mark_of s) c.note_scan.new.self ≡ s = ap (forgotten (mark_of s)) c.in-Ok-note_scan.ensures.ok ∙ scan_forgotten s c.in-Ok.as_read c.args.images in
    let same : forgotten c.mark-mark.result c.note_scan.new.self ≡ s = cut_is s c.note_scan.new.self (forgotten c.mark-mark.result c.note_scan.new.self) c.mark-mark.result c.mark-mark.ensures.mark cut refl in
    λ e. c.show.ensures.memory e ∙ ap (λ (x : Seen). record { id = c.self.inside.id; seen = x; doing = c.self.inside.doing }) same ∙ c.self.view_is
