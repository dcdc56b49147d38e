use Rattle.std.proofs.Common.{◌≡◌, Some, None, ◌∙◌, ap, sym, subst, slice_set}
use Rattle.std.specs.Prelude.{slice_get}
use Rattle.std.proofs.lemmas.Option.{slice_get-get_or}
use Rattle.sdb_snapshot.specs.Types.{Change, Key, Write}
use Rattle.sdb_snapshot.proofs.Places.{place_in, place_is, found_none, place_within, laid_at, laid_none}
use Rattle.sdb_snapshot.proofs.write_set.lay.Goals as goal

pub returns-in-Some : goal.returns-in-Some
returns-in-Some c =
    let ws = c.args.writes.now.items in
    let key : c.into_parts-key.result.0 ≡ c.args.keyed.key = ap (λ p. p.0) c.into_parts-key.ensures in
    let change : c.into_parts-key.result.1 ≡ c.args.keyed.change = ap (λ p. p.1) c.into_parts-key.ensures in
    let place : place_in ws c.args.keyed.key ≡ Some c.in-Some.i = subst (λ (k : Key). place_in ws k ≡ Some c.in-Some.i) key (sym (place_is c.args.places.now ws c.into_parts-key.result.0 c.requires) ∙ sym c.in-Some.ensures) in
    let at : slice_get ws c.in-Some.i ≡ Some c.index_mut.result.now = slice_get-get_or ws c.in-Some.i c.index_mut.result.now (place_within ws c.args.keyed.key c.in-Some.i place) ∙ ap Some (sym c.index_mut.ensures.value) in
    let with_change : Change → Write = λ ch. record { key = c.index_mut.result.now.key; base = c.index_mut.result.now.base; change = ch } in
    ap (λ (ch : Change). slice_set ws c.in-Some.i (with_change ch)) change ∙ sym (laid_at ws c.args.keyed c.in-Some.i c.index_mut.result.now place at)

pub returns : goal.returns
returns c =
    let ws = c.args.writes.now.items in
    let key : c.into_parts-key.result.0 ≡ c.args.keyed.key = ap (λ p. p.0) c.into_parts-key.ensures in
    let place : place_in ws c.args.keyed.key ≡ None = subst (λ (k : Key). place_in ws k ≡ None) key (sym (place_is c.args.places.now ws c.into_parts-key.result.0 c.requires) ∙ sym c.in-None.ensures) in
    sym (laid_none ws c.args.keyed (found_none ws c.args.keyed.key place))
