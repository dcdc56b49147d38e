use Rattle.std.proofs.Common.{◌≡◌, true, take}
use Rattle.std.specs.List.{list_all}
use Rattle.std.specs.Str.{is_utf8}
use Rattle.csv.specs.Records.{fields_of}
use Rattle.sdb_data.proofs.header.texts_of.Given as goal

abbrev pub invariant-loop-place : goal.invariant-loop-place
invariant-loop-place l = record {
  names : l.names ≡ take l.place (fields_of l.fields);
  texts : list_all is_utf8 (take l.place (fields_of l.fields)) ≡ true;
}
