use Rattle.std.proofs.Common.{◌≡◌, List, OnOk, map, subst, sym, ap, ◌∙◌}
use Rattle.std.specs.Map.{keys_of}
use Rattle.sdb_snapshot.specs.Filled.{AreOnce, found_in}
use Rattle.sdb_snapshot.specs.Reads.{ReadRecord, with_images}
use Rattle.sdb_snapshot.proofs.Filled.{filled, once_in}
use Rattle.sdb_snapshot.proofs.read_set.ReadSet.fill.Goals as goal

pub fill-requires : goal.fill-requires
fill-requires c = subst (λ (es : List ReadRecord). AreOnce (keys_of es)) (sym c.in_ok-found_of.ensures) (once_in c.args.records c.requires.rise)

pub returns-clause-ok : goal.returns-clause-ok
returns-clause-ok c =
    let all : with_images c.args.self.now c.args.records ≡ map found_in c.args.records = ap (λ (ns : List ReadRecord). with_images ns c.args.records) c.requires.empty ∙ filled c.args.records c.requires.rise in
    subst (λ (es : List ReadRecord). OnOk c.fill.result (c.fill.new.self ≡ es)) (c.in_ok-found_of.ensures ∙ sym all) c.fill.ensures.ok
