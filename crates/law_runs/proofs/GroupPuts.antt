-- The calls for groups of writes: what they put, and whether they prepare.
use Rattle.std.proofs.Common.{◌≡◌, ◌∙◌, ℕ, ℤ, Bool, true, false, List, [], ◌∷◌, map, Some, refl, sym, ap}
use Rattle.std.specs.Prelude.{◌||◌, Contains, slice_get}
use Rattle.std.specs.List.{AllByRecursion}
use Rattle.law_runs.specs.Types.{Record, TxId, Write}
use Rattle.sdb_types.specs.declared.record.Put.{Put}
use Rattle.sdb_types.specs.Contents.{sent}
use Rattle.sdb_types.proofs.Public.{clash}
use Rattle.sdb_record.specs.Groups.{IsGroup, grouped, keys_of_writes}
use Rattle.sdb_record.specs.Rolls.{prepared_record}
use Rattle.sdb_record.proofs.Public.{each_group, forward-key, grouped_all, prepared-key}
use Rattle.sdb_model.specs.Requests.{any_of, keys_asked, records_put}
use Rattle.sdb_model.specs.Transactions.{prepares}
use Rattle.sdb_phases.specs.Work.{forward_of, forwards_of, prepare_of, prepares_of}
use Rattle.law_protocol.proofs.Public.{sent_records}
use Rattle.law_clients.proofs.Public.{each_at}
use Rattle.law_answers.proofs.Public.{group_prepares}
use Rattle.law_runs.proofs.Calls.{a_later, the_first}

---- some of a list

pub any_none : {X : Type 0} (is : X → Bool) (xs : List X) → AllByRecursion (λ x. is x ≡ false) xs → any_of is xs ≡ false
any_none is [] all = refl
any_none is (x ∷ []) all = all.0
any_none is (x ∷ y ∷ xs) all = ap (λ b. b || any_of is (y ∷ xs)) all.0 ∙ any_none is (y ∷ xs) all.1

-- one of them is so
pub any_found : {X : Type 0} (is : X → Bool) (xs : List X) → any_of is xs ≡ true → (x : X) × Contains xs x × (is x ≡ true)
any_found is [] h = clash (sym h)
any_found is (x ∷ []) h = (x, the_first x [], h)
any_found {X = X} is (x ∷ y ∷ xs) h = by (is x) refl h (any_found is (y ∷ xs))
  where
    by : (b : Bool) → is x ≡ b → (b || any_of is (y ∷ xs)) ≡ true → (any_of is (y ∷ xs) ≡ true → (z : X) × Contains (y ∷ xs) z × (is z ≡ true)) → (z : X) × Contains (x ∷ y ∷ xs) z × (is z ≡ true)
    by true e t rest = (x, the_first x (y ∷ xs), e)
    by false e t rest = let z = rest t in (z.0, a_later x z.0 (y ∷ xs) z.1, z.2)

---- the keys of a group

keys_sent : (b : List Put) → keys_asked (sent b) ≡ map (λ (x : Record). x.key) (records_put (sent b))
keys_sent [] = refl
keys_sent (p ∷ []) = refl
keys_sent (p ∷ q ∷ ps) = refl

keys_of : (f : Write → Put) → ((w : Write) → (f w).rec.key ≡ w.key) → (g : List Write) → keys_asked (sent (map f g)) ≡ keys_of_writes g
keys_of f same g = keys_sent (map f g) ∙ ap (map (λ (x : Record). x.key)) (sent_records (map f g)) ∙ by g
  where
    by : (ws : List Write) → map (λ (x : Record). x.key) (map (λ (p : Put). p.rec) (map f ws)) ≡ keys_of_writes ws
    by [] = refl
    by (w ∷ ws) = λ i. same w i ∷ by ws i

pub prepare_keys : (id : TxId) (now : ℤ) (g : List Write) → keys_asked (prepares_of id now g) ≡ keys_of_writes g
prepare_keys id now = keys_of (prepare_of id now) (λ w. prepared-key w id now)

pub forward_keys : (id : TxId) (now : ℤ) (g : List Write) → keys_asked (forwards_of id now g) ≡ keys_of_writes g
forward_keys id now = keys_of (forward_of id now) (λ w. forward-key (prepared_record w id now) now ∙ prepared-key w id now)

---- one of the groups of writes

module _ (ws : List Write) (i : ℕ) (g : List Write) (at : slice_get (grouped ws) i ≡ Some g) where
  -- what holds of each write holds of each of a group
  pub group_all : (P : Write → Type 0) → AllByRecursion P ws → AllByRecursion P g
  group_all P all = each_at (AllByRecursion P) (grouped ws) i g (grouped_all P ws all) at

  pub group_is_prepared : (id : TxId) (now : ℤ) → prepares id (prepares_of id now g) ≡ true
  group_is_prepared id now = group_prepares id now g (each_at IsGroup (grouped ws) i g (each_group ws) at).some
