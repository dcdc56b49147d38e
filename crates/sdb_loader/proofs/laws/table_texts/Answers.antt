use Rattle.sdb_loader.proofs.Names.{text_of}
use Rattle.sdb_loader.proofs.WordLaws.{table_named-text}
use Rattle.sdb_loader.proofs.laws.table_texts.Goals as goal

pub returns : goal.returns
returns c = record {
  text = λ text t h. (text_of text t h).text_is;
  names = λ text t h. (text_of text t h).names_are;
  named = table_named-text;
}
