-- What std's sort gives, where records are compared by their keys.
use Rattle.std.proofs.Common.{◌≡◌, Bool, List, ap}
use Rattle.std.specs.Cmp.{IsStrictWeakOrder}
use Rattle.std.specs.Fn.{Called, ComparesAs}
use Rattle.sdb_sqlite.specs.Types.{Ordering, Record}
use Rattle.std.specs.Ordering.{is_lt}
use Rattle.std.specs.List.Sorted.{IsSortedBy, IsSortedByKey}
use Rattle.std.proofs.lemmas.List.Sorted.{ranks_by}
use Rattle.std.proofs.lemmas.Fn.{always_returns_same}
use denote.Ref.{Bor}
use denote.Param.Members.{Mut}
use Rattle.sdb_types.proofs.Public.{key_total}
use Rattle.sdb_types.specs.Order.{key_cmp}

pub by_keys : {F : Type 0} {g : Mut F (Bor Record × (Bor Record × Unit {0})) Ordering} {f : F} (rs : List Record)
    → ((lt : Record → Record → Bool) → IsStrictWeakOrder lt → ComparesAs g lt f → IsSortedBy lt rs)
    → ((a : Bor Record × (Bor Record × Unit {0})) (r : Ordering) (f' : F) → Called g f a r f' → (r ≡ key_cmp a.0.now.key a.1.0.now.key) × (f' ≡ f))
    → IsSortedByKey (λ r. r.key) key_cmp rs
by_keys {g = g} {f = f} rs up h =
    up (λ x y. is_lt (key_cmp x.key y.key)) (ranks_by key_total (λ (r : Record). r.key))
    (always_returns_same g (λ a r. is_lt r ≡ is_lt (key_cmp a.0.now.key a.1.0.now.key)) f (λ a r f' k. (ap is_lt (h a r f' k).0, (h a r f' k).1)))
