use Rattle.std.proofs.Common.{Bor, ◌∙◌, sym, ap, List, ℕ, [], Option}
use Rattle.std.specs.Option.{option_map, option_map_or}
use Rattle.csv.specs.Records.{fields_of}
use Rattle.sdb_data.proofs.Lists.{field_at-is}
use Rattle.sdb_data.proofs.records.field_at.Goals as goal

pub returns-in-Some : goal.returns-in-Some
returns-in-Some c =
    ap (λ (o : Option (List ℕ)). option_map_or (λ (f : List ℕ). f) o []) (sym (ap (option_map (λ (s : Bor (List ℕ)). s.now)) c.in-Some.is) ∙ c.get.ensures.value)
    ∙ field_at-is (fields_of c.args.fields.now) c.args.place

pub returns-in-None : goal.returns-in-None
returns-in-None c =
    ap (λ (o : Option (List ℕ)). option_map_or (λ (f : List ℕ). f) o []) (sym (ap (option_map (λ (s : Bor (List ℕ)). s.now)) c.in-None.is) ∙ c.get.ensures.value)
    ∙ field_at-is (fields_of c.args.fields.now) c.args.place
