use Rattle.law_clients.proofs.Bodily.{noted_starts, noted_later, noted_nothing, noted_read, noted_whole}
use Rattle.law_clients.proofs.statements.read_items_are_extended.Goals as goal

pub returns : goal.returns
returns c = record {
  starts = noted_starts;
  later = λ b e was. noted_later b.events b.client b.executed b.seen e was b.as_read;
  nothing = λ b s none. noted_nothing b.events b.client b.executed b.seen s none b.as_read;
  read = λ b s a images reads. noted_read b.events b.client b.executed b.seen s a images reads b.as_read;
  whole = λ plan b t now so. noted_whole plan b.events b.client t now b.executed b.seen so.owner so.executed so.planned b.as_read;
}
