-- The keys that statements write, as one statement more runs, and those of the writes that they leave.
use Rattle.std.proofs.Common.{◌≡◌, ℕ, List, [], ◌∷◌, ◌++◌, map, Option, Some, None, refl, sym, ap, ◌∙◌}
use Rattle.law_runs.specs.Types.{Event, Key, Statement, Table, Write}
use Rattle.sdb_model.specs.Calls.{calls_of}
use Rattle.sdb_model.specs.Transactions.{Executed}
use Rattle.law_clients.specs.Keys.{with_keys}
use Rattle.sdb_sqltext.proofs.Public.{one_statement}
use Rattle.law_runs.specs.Found.{AllRunAs, RunsAs, View, finds, found_by, run_on_found, run_one, with_found}
use Rattle.law_runs.specs.Written.{keys_by, written_on_found}
use Rattle.sdb_types.proofs.Public.{clash}

-- the keys of writes
abbrev pub write_keys : List Write → List Key
write_keys ws = map (λ w. w.key) ws

-- with one statement more
pub written_more : (catalog : List Table) (events : List Event) (c : ℕ) (xs : List Executed) (os : List (Option Statement)) (z : Executed) (o : Option Statement) (v : View) (ks : List Key) → AllRunAs xs os
    → written_on_found catalog (finds events c (xs ++ z ∷ [])) (os ++ o ∷ []) v ks
    ≡ with_keys (written_on_found catalog (finds events c xs) os v ks) (keys_by catalog o (with_found catalog (run_on_found catalog (finds events c xs) os v).1 (found_by (calls_of events c z))).rows)
written_more catalog events c [] [] z o v ks run = refl
written_more catalog events c [] (y ∷ ys) z o v ks run = absurd run
written_more catalog events c (x ∷ xs) [] z o v ks run = absurd run
written_more catalog events c (x ∷ xs) (y ∷ ys) z o v ks run =
    let found = with_found catalog v (found_by (calls_of events c x)) in
    written_more catalog events c xs ys z o (run_one catalog y found).1 (with_keys ks (keys_by catalog y found.rows)) run.1

-- a statement runs as one statement only
runs_once : (x : Executed) (o p : Option Statement) → RunsAs x o → RunsAs x p → o ≡ p
runs_once x None None h k = refl
runs_once x None (Some b) h k = clash (sym k.0 ∙ h)
runs_once x (Some a) None h k = clash (sym h.0 ∙ k)
runs_once x (Some a) (Some b) h k = ap Some (one_statement x.text a b h.1 k.1)

pub run_once : (xs : List Executed) (ys zs : List (Option Statement)) → AllRunAs xs ys → AllRunAs xs zs → ys ≡ zs
run_once [] [] [] h k = refl
run_once [] [] (b ∷ zs) h k = absurd k
run_once [] (a ∷ ys) zs h k = absurd h
run_once (x ∷ xs) [] zs h k = absurd h
run_once (x ∷ xs) (a ∷ ys) [] h k = absurd k
run_once (x ∷ xs) (a ∷ ys) (b ∷ zs) h k = ap (λ (y : Option Statement). y ∷ ys) (runs_once x a b h.0 k.0) ∙ ap (λ (ts : List (Option Statement)). b ∷ ts) (run_once xs ys zs h.1 k.1)
