use Rattle.sdb_catalog.proofs.Altering.{opened_grown, placed_grown}
use Rattle.sdb_catalog.proofs.laws.columns_are_added.Goals as goal

pub returns : goal.returns
returns c = record {
  opened = λ g. opened_grown g.names g.name g.column g.old g.new g.grown g.catalog g.places g.opens;
  placed = λ g ns. placed_grown g.names g.name g.column g.old g.new g.grown g.catalog g.places g.opens ns;
}
