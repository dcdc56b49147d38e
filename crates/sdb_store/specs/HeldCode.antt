-- The code of what a store in memory shows.
use Rattle.std.specs.Prelude.{ℕ, Bool, List, refl}
use Rattle.std.specs.Coded.{Coded, code_by, coded×, coded_ℕ, coded_bool, coded_list}
use Rattle.std.specs.FinMap.{code}
use Rattle.sdb_types.specs.Contents.{Contents}
use Rattle.sdb_types.specs.contracts.key.Key as key
use Rattle.sdb_types.specs.contracts.pair.Pair as pair
use Rattle.sdb_store.specs.declared.fail.Fail.{Fail}
use Rattle.sdb_store.specs.FaultPlans.{Held}

abbrev pub coded_contents : Coded Contents
coded_contents = code (key.the_row).coded (coded_list (pair.the_row).coded)

abbrev pub coded_fail : Coded Fail
coded_fail = code_by (ℕ × Bool) (coded× coded_ℕ coded_bool) (λ f. (f.call, f.after)) (λ p. record { call = p.0; after = p.1 }) (λ _. refl)

abbrev pub code_of_contents : Coded Held
code_of_contents =
    code_by (Contents × (List Fail × (ℕ × ℕ))) (coded× coded_contents (coded× (coded_list coded_fail) (coded× coded_ℕ coded_ℕ)))
    (λ h. (h.contents, (h.failing, (h.made, h.failed))))
    (λ p. record { contents = p.0; failing = p.1.0; made = p.1.1.0; failed = p.1.1.1 })
    (λ _. refl)
