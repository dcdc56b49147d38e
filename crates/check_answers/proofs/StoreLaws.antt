-- The stores as the program has them contain what those of the model do.
use Rattle.std.proofs.Common.{◌≡◌, Bool, true, false, List, [], ◌∷◌, Some, refl}
use Rattle.std.specs.Prelude.{find, if◌then◌else◌}
use Rattle.std.specs.Option.{option_map}
use Rattle.sdb_model.specs.Events.{contents_under}
use Rattle.sdb_model.specs.Rows.{Name, same_name}
use Rattle.check_answers.specs.declared.stores.StoreContents.{StoreContents}
use Rattle.check_answers.specs.Values.{all_contents, contents_value}

pub held_is : (store_contents : List StoreContents) (name : Name) → contents_under (all_contents store_contents) name ≡ option_map (λ (s : StoreContents). s.rows) (find (λ (s : StoreContents). same_name s.name name) store_contents)
held_is [] name = refl
held_is (s ∷ ss) name = by (same_name s.name name) (held_is ss name)
  where
    by : (b : Bool) → contents_under (all_contents ss) name ≡ option_map (λ (x : StoreContents). x.rows) (find (λ (x : StoreContents). same_name x.name name) ss)
        → option_map (λ (x : Rattle.sdb_model.specs.Events.StoreContents). x.contents) (if b then Some (contents_value s) else find (λ x. same_name x.name name) (all_contents ss)) ≡ option_map (λ (x : StoreContents). x.rows) (if b then Some s else find (λ (x : StoreContents). same_name x.name name) ss)
    by true e = refl
    by false e = e
