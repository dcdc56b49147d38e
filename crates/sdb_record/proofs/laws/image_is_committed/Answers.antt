use Rattle.sdb_record.proofs.ImageLaws.{image-settled, image-is}
use Rattle.sdb_record.proofs.laws.image_is_committed.Goals as goal

pub returns : goal.returns
returns c =
    record {
      itself = image-settled;
      key = λ i. (image-is i.found i.image i.decided i.accepted i.moment i.is_image).key;
      accepted = λ i. (image-is i.found i.image i.decided i.accepted i.moment i.is_image).accepted;
      committed = λ i. (image-is i.found i.image i.decided i.accepted i.moment i.is_image).committed;
    }
