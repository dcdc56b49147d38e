use Rattle.std.proofs.Common.{◌≡◌, List, true, IfOk, IfErr, sym, subst, ◌∙◌, rules}
use Rattle.std.proofs.lemmas.Fn.{always_returns_same}
use Rattle.sdb_types.specs.declared.record.Record.{Record}
use Rattle.sdb_types.specs.Order.{key_cmp}
use Rattle.sdb_types.specs.Contents.{rise}
use Rattle.sdb_hashed.specs.Bucket.{IsAt, IsGapFor}
use Rattle.sdb_hashed.proofs.Sorting.{searched}
use Rattle.sdb_hashed.proofs.bucket.Bucket.search.Goals as goal

pub returns-clause-found : goal.returns-clause-found
returns-clause-found c =
    let facts = c.binary_search_by.ensures in
    let by_key = facts.position (λ (r : Record). key_cmp r.key c.args.key.now) (always_returns_same _ _ _ (λ a r f k. search rules)) in
    let sorted = subst (λ (rs : List Record). rise rs ≡ true) (sym c.as_slice.ensures) c.self.invariant in
    subst (λ (rs : List Record). IfOk c.binary_search_by.result (IsAt rs c.args.key.now)) (c.as_slice.ensures ∙ c.self.view_is)
    (searched c.as_slice.result.now c.args.key.now c.binary_search_by.result sorted facts.bound by_key).0

pub returns-clause-absent : goal.returns-clause-absent
returns-clause-absent c =
    let facts = c.binary_search_by.ensures in
    let by_key = facts.position (λ (r : Record). key_cmp r.key c.args.key.now) (always_returns_same _ _ _ (λ a r f k. search rules)) in
    let sorted = subst (λ (rs : List Record). rise rs ≡ true) (sym c.as_slice.ensures) c.self.invariant in
    subst (λ (rs : List Record). IfErr c.binary_search_by.result (IsGapFor rs c.args.key.now)) (c.as_slice.ensures ∙ c.self.view_is)
    (searched c.as_slice.result.now c.args.key.now c.binary_search_by.result sorted facts.bound by_key).1
