use Rattle.std.proofs.Common.{◌≡◌, ◌≢◌, List, ℕ, codes, false, sym, subst, rules, ◌∙◌}
use Rattle.std.specs.Prelude.{Contains}
use Rattle.sdb_record.specs.Parts.{is_column_name}
use Rattle.sdb_words.proofs.Placing.{halves_are, made, no_name, not_found, unequalled}
use Rattle.sdb_words.proofs.places.place_in.Goals as goal
use Rattle.sdb_words.proofs.places.place_in.Goals.{then-not-is_short_name-via-then-not-is_short_name, then-not-is_short_name-via-else-not-is_short_name+then-eq}

pub returns-in_default-clause-usage : goal.returns-in_default-clause-usage
returns-in_default-clause-usage c = λ _. unequalled c.args.stores.now c.args.word.now c.in_default.ensures

pub returns-then-not-is_short_name-clause-usage : goal.returns-then-not-is_short_name-clause-usage
returns-then-not-is_short_name-clause-usage c =
    λ _ p is e.
    let ns = c.in-Some.ns.now in
    let both = halves_are c.args.word.now ns c.in-Some.store.now p c.in-Some.ensures is.named e in
    elim c.then-not-is_short_name.branch [
      | then-not-is_short_name-via-then-not-is_short_name w ↦ let bad : is_column_name ns ≡ false = search rules in no_name ns p.ns bad both.0 is.named
      | then-not-is_short_name-via-else-not-is_short_name+then-eq w ↦ let same : ns ≡ codes "scalardb" = search rules in is.free (sym both.0 ∙ same)
    ]

pub returns-in_default-attached-clause-usage : goal.returns-in_default-attached-clause-usage
returns-in_default-attached-clause-usage c =
    λ _ p is e.
    let stores = c.args.stores.now in
    let both = halves_are c.args.word.now c.in-Some.ns.now c.in-Some.store.now p c.in-Some.ensures is.named e in
    not_found c.in-Some.store.now stores c.in_default-attached.ensures (subst (λ (x : List ℕ). Contains stores x) (sym both.1) is.attached)

pub returns-clause-ok : goal.returns-clause-ok
returns-clause-ok c =
    let ns = c.in-Some.ns.now in
    let first : c.in_ok-known_name.field-0 ≡ ns = c.in_ok-known_name.ensures in
    let second : c.in_ok-copy.field-0 ≡ c.in-Some-attached.store.now = c.in_ok-copy.ensures in
    let free : ns ≢ codes "scalardb" = search rules in
    rw (first, second) (made c.args.stores.now c.args.word.now ns c.in-Some.store.now c.in-Some-attached.store.now c.in-Some.ensures (search rules) free c.in-Some-attached.ensures)
