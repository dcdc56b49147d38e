use Rattle.std.proofs.Common.{◌≡◌, ◌≢◌, ◌∙◌, List, ℕ, ap, subst, sym, rules}
use Rattle.std.specs.Prelude.{Contains, Some, slice_get}
use Rattle.sdb_words.proofs.Forms.{no_retire, retires}
use Rattle.sdb_words.proofs.Placing.{found_is, not_found}
use Rattle.sdb_words.proofs.read.retire_of.Goals as goal
use Rattle.sdb_words.proofs.read.retire_of.Goals.{then-eq-via-then-eq, then-eq-via-else-eq+then-is_first}

pub returns-in_default-clause-usage : goal.returns-in_default-clause-usage
returns-in_default-clause-usage c =
    λ _. no_retire c.args.stores.now c.args.from.now c.args.to.now (λ r. not_found c.args.from.now c.args.stores.now c.in_default.ensures r.from_attached)

pub returns-in_default-attached-clause-usage : goal.returns-in_default-attached-clause-usage
returns-in_default-attached-clause-usage c =
    λ _. no_retire c.args.stores.now c.args.from.now c.args.to.now (λ r. not_found c.args.to.now c.args.stores.now c.in_default-attached.ensures r.to_attached)

pub returns-then-eq-clause-usage : goal.returns-then-eq-clause-usage
returns-then-eq-clause-usage c = λ _. no_retire c.args.stores.now c.args.from.now c.args.to.now (λ r.
    let from = (found_is c.args.from.now c.args.stores.now c.in-Some.from.now c.in-Some.ensures).0 in
    let to = (found_is c.args.to.now c.args.stores.now c.in-Some-attached.to.now c.in-Some-attached.ensures).0 in
    elim c.then-eq.branch [
      | then-eq-via-then-eq w ↦ let same : c.as_str.result.now ≡ c.as_str-2.result.now = search rules in r.differ (sym from ∙ sym c.as_str.ensures.text ∙ same ∙ c.as_str-2.ensures.text ∙ to)
      | then-eq-via-else-eq+then-is_first w ↦ let first : slice_get c.args.stores.now 0 ≡ Some c.in-Some.from.now = search rules in r.stays (first ∙ ap Some from)
    ])

pub returns-clause-ok : goal.returns-clause-ok
returns-clause-ok c =
    let stores = c.args.stores.now in
    let from = found_is c.args.from.now stores c.in-Some.from.now c.in-Some.ensures in
    let to = found_is c.args.to.now stores c.in-Some-attached.to.now c.in-Some-attached.ensures in
    let first : c.in_ok-copy.field-0 ≡ c.in-Some.from.now = c.in_ok-copy.ensures in
    let second : c.in_ok-copy-2.field-0 ≡ c.in-Some-attached.to.now = c.in_ok-copy-2.ensures in
    let other : c.as_str.result.now ≢ c.as_str-2.result.now = search rules in
    let stays : slice_get stores 0 ≢ Some c.in-Some.from.now = search rules in
    rw (first, second) (retires stores c.args.from.now c.args.to.now c.in-Some.from.now c.in-Some-attached.to.now from.0 to.0 (record {
      from_named = c.as_str.ensures.named;
      to_named = c.as_str-2.ensures.named;
      from_attached = subst (λ (x : List ℕ). Contains stores x) (sym from.0) from.1;
      to_attached = subst (λ (x : List ℕ). Contains stores x) (sym to.0) to.1;
      differ = λ e. other (c.as_str.ensures.text ∙ e ∙ sym c.as_str-2.ensures.text);
      stays = stays;
    }))
