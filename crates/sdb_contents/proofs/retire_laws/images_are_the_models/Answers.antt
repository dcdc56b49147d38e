use Rattle.std.proofs.Common.{refl}
use Rattle.sdb_contents.proofs.retire_laws.images_are_the_models.Goals as goal

pub returns : goal.returns
returns c = record { same = λ places store_contents key. refl }
