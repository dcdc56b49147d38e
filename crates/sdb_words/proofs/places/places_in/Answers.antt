use Rattle.std.proofs.Common.{◌≡◌, ◌∙◌, ◌+◌, ◌++◌, ◌∷◌, [], List, ℕ, true, false, Err, ap, ap₂, sym, drop, map, string_bytes, take, rules}
use Rattle.std.proofs.lemmas.List.{map-append}
use Rattle.sdb_words.specs.Places.{is_placed, place_text}
use Rattle.sdb_words.specs.declared.command.WordsRefused.TheVariants as refused
use Rattle.sdb_words.proofs.Entered.{passed_on}
use Rattle.sdb_words.proofs.Placing.{one_more, place_at, placed_twice, seam, taken_next}
use Rattle.sdb_words.proofs.places.places_in.Goals as goal

pub returns-in_err-place-clause-usage : goal.returns-in_err-place-clause-usage
returns-in_err-place-clause-usage c = λ e ps all h.
    let words = c.args.words.now in
    let i = c.loop-word.word-index in
    let word = c.word-item.result in
    let at = place_at c.args.stores.now ps (map string_bytes (take i words)) (string_bytes word) (map string_bytes (drop (i + 1) words)) all.each
    (sym (seam string_bytes words i word c.loop-word-test.true c.word-item.is) ∙ h) in
    let same : c.as_str.result.now ≡ string_bytes word = c.as_str.ensures.value in
    c.in_err-place.ensures.usage (ap Err (passed_on c.from_residual.result c.in_err-place.field-0.0 refused.Usage c.from_residual.ensures.1 e)) at.0 at.1 (same ∙ at.2)

pub returns-then-is_placed-clause-usage : goal.returns-then-is_placed-clause-usage
returns-then-is_placed-clause-usage c = λ _ ps all h.
    let words = c.args.words.now in
    let i = c.loop-word.word-index in
    let word = c.word-item.result in
    let place = c.in_ok-place.place in
    let rest = map string_bytes (drop (i + 1) words) in
    let same : c.as_str.result.now ≡ string_bytes word = c.as_str.ensures.value in
    let placed : is_placed c.loop-word.places place.ns ≡ true = search rules in
    let parts = ap₂ (λ (a : List (List ℕ)) (b : List ℕ). a ++ b ∷ rest) (sym c.loop-word.invariant.1) (sym c.in_ok-place.ensures.ok.1 ∙ same) in
    placed_twice c.args.stores.now c.loop-word.places place rest c.loop-word.invariant.0.each c.in_ok-place.ensures.ok.0 placed ps all
    (parts ∙ sym (seam string_bytes words i word c.loop-word-test.true c.word-item.is) ∙ h)

pub loop-word-preserved : goal.loop-word-preserved
loop-word-preserved c =
    let words = c.args.words.now in
    let i = c.loop-word.word-index in
    let word = c.word-item.result in
    let done = c.loop-word.places in
    let place = c.in_ok-place.place in
    let same : c.as_str.result.now ≡ string_bytes word = c.as_str.ensures.value in
    let free : is_placed done place.ns ≡ false = search rules in
    let grown : c.push.new.self ≡ done ++ place ∷ [] = c.in_ok-push.ensures.ok in
    let parts = ap₂ (λ (a : List (List ℕ)) (b : List ℕ). a ++ b ∷ []) c.loop-word.invariant.1 (sym same ∙ c.in_ok-place.ensures.ok.1) in
    rw grown (
      one_more c.args.stores.now done place c.loop-word.invariant.0 c.in_ok-place.ensures.ok.0 free,
      taken_next string_bytes words i word c.loop-word-test.true c.word-item.is ∙ parts ∙ sym (map-append place_text done (place ∷ [])),
    )
