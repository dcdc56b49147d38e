use Rattle.std.proofs.Common.{◌≡◌, [], List, Option, subst, sym, ap, ◌∙◌}
use Rattle.std.specs.Prelude.{Result, Err}
use Rattle.sdb_snapshot.specs.Types.{Key, Record}
use Rattle.sdb_snapshot.specs.Reads.{ReadRecord, with_images, AreKeysOf, IsFirstDifference}
use Rattle.sdb_snapshot.specs.Seen.{Seen}
use Rattle.sdb_snapshot.specs.declared.snapshot.NoteRefused.{NoteRefused}
use Rattle.sdb_snapshot.specs.declared.snapshot.NoteRefused.TheVariants.{Differs}
use Rattle.sdb_snapshot.proofs.Differences.{differs_first, differs_nowhere}
use Rattle.sdb_snapshot.proofs.snapshot.Snapshot.find_moved.Goals as goal

same_found : (P : Key → Option Record → Type 0) (k key : Key) (f found : Option Record) → P k f → ◌≡◌ {A = Result (Unit {0}) NoteRefused} (Err (Differs k f)) (Err (Differs key found)) → P key found
same_found P k key f found answered e =
    let one : k ≡ key = cc in
    let two : f ≡ found = cc in
    subst (λ (x : Key). P x found) one (subst (λ (y : Option Record). P k y) two answered)

pub returns-in-Some-clause-differs : goal.returns-in-Some-clause-differs
returns-in-Some-clause-differs c =
    let now : c.record_all.new.self ≡ with_images [] c.args.images.now =
    c.in_ok-record_all.ensures.ok ∙ ap (λ (ns : List ReadRecord). with_images ns c.in_ok-rows.rows) c.new-now.ensures ∙ ap (with_images []) c.in_ok-rows.ensures in
    let keys : AreKeysOf c.self.inside.read_set c.args.span.now c.as_slice.result.now = subst (AreKeysOf c.self.inside.read_set c.args.span.now) (sym c.as_slice.ensures) c.in_ok-keys.ensures in
    let view : c.self.inside.read_set ≡ c.args.self.now.read_set = ap (λ (s : Seen). s.read_set) c.self.view_is in
    let answered = differs_first c.self.inside.read_set c.args.self.now.read_set c.record_all.new.self c.args.span.now c.args.images.now c.as_slice.result.now c.in-Some.rec.now c.in_ok-copy-in-Some.field-0 c.in_ok-base-in-Some.field-0
    view keys now c.in-Some.ensures c.in_ok-copy-in-Some.ensures c.in_ok-base-in-Some.ensures in
    λ key found e. same_found (IsFirstDifference c.args.self.now.read_set c.args.span.now c.args.images.now) c.in_ok-copy-in-Some.field-0 key c.in_ok-base-in-Some.field-0 found answered e

pub returns-clause-unmoved : goal.returns-clause-unmoved
returns-clause-unmoved c =
    let now : c.record_all.new.self ≡ with_images [] c.args.images.now =
    c.in_ok-record_all.ensures.ok ∙ ap (λ (ns : List ReadRecord). with_images ns c.in_ok-rows.rows) c.new-now.ensures ∙ ap (with_images []) c.in_ok-rows.ensures in
    let keys : AreKeysOf c.self.inside.read_set c.args.span.now c.as_slice.result.now = subst (AreKeysOf c.self.inside.read_set c.args.span.now) (sym c.as_slice.ensures) c.in_ok-keys.ensures in
    let view : c.self.inside.read_set ≡ c.args.self.now.read_set = ap (λ (s : Seen). s.read_set) c.self.view_is in
    differs_nowhere c.self.inside.read_set c.args.self.now.read_set c.record_all.new.self c.args.span.now c.args.images.now c.as_slice.result.now view keys now c.in-None.ensures
