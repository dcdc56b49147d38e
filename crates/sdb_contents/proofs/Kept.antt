-- The row of a record's committed image.
use Rattle.std.proofs.Common.{◌≡◌, ◌∙◌, ◌<◌, ◌^◌, List, Option, Some, Ok, ap, sym}
use Rattle.std.specs.Option.{option_and_then}
use Rattle.sdb_contents.specs.Types.{Decided, Meta, Pair, Record, TxId}
use Rattle.sdb_record.specs.Meta.{checked, id_in}
use Rattle.sdb_record.specs.Rolls.{image_of, row_of_image}
use Rattle.sdb_record.proofs.Public.{checked-version, version-writer}
use Rattle.sdb_contents.specs.Dumped.{row_by}

pub row_is : (decide : TxId → Option Decided) (r : Record) (m : Meta) (d : Option Decided) (image : Option Record) (row : Option (List Pair)) → checked r.columns ≡ Ok m → m.id.0 < 2 ^ 128 → d ≡ decide m.id → image ≡ image_of r d → row ≡ option_and_then row_of_image image → row ≡ row_by decide r
row_is decide r m d image row says small on made shows =
    let writer : id_in r.columns ≡ Some m.id = version-writer r m.id m.state small (checked-version r m says) in
    shows ∙ ap (option_and_then row_of_image) (made ∙ ap (image_of r) on ∙ ap (λ (o : Option TxId). image_of r (option_and_then decide o)) (sym writer))
