use Rattle.sdb_loader.proofs.WordLaws.{order_named-alone, order_named-behind, order_named-only}
use Rattle.sdb_loader.proofs.laws.order_texts.Goals as goal

pub returns : goal.returns
returns c =
    record {
      alone = order_named-alone;
      behind = λ c. order_named-behind c.name c.word c.direction c.fits c.named;
      only = order_named-only;
    }
