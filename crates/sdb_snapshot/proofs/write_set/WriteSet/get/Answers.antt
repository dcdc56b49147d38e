use Rattle.std.proofs.Common.{◌≡◌, List, Some, None, ◌∙◌, ap, sym}
use Rattle.std.specs.Prelude.{slice_get}
use Rattle.std.specs.Option.{option_copied}
use Rattle.sdb_record.specs.declared.write.Write.{Write}
use Rattle.sdb_record.specs.Among.{write_among}
use Rattle.sdb_snapshot.proofs.Fronts.{item_is}
use Rattle.sdb_snapshot.proofs.Places.{place_in, place_is, place_within, found_at, found_none}
use Rattle.sdb_snapshot.proofs.write_set.WriteSet.get.Goals as goal

pub returns-in-Some : goal.returns-in-Some
returns-in-Some c =
    let ws = c.self.inside.writes in
    let key = c.args.key.now in
    let place : place_in ws key ≡ Some c.in-Some.i = sym (place_is c.self.inside.places ws key c.self.invariant) ∙ sym c.in-Some.ensures in
    let at : option_copied c.at.result ≡ slice_get ws c.in-Some.i = item_is ws c.in-Some.i c.at.result c.at.ensures (place_within ws key c.in-Some.i place) in
    at ∙ found_at ws key c.in-Some.i place ∙ ap (λ (xs : List Write). write_among xs key) c.self.view_is

pub returns-in-None : goal.returns-in-None
returns-in-None c =
    let ws = c.self.inside.writes in
    let key = c.args.key.now in
    let place : place_in ws key ≡ None = sym (place_is c.self.inside.places ws key c.self.invariant) ∙ sym c.in-None.ensures in
    sym (ap (λ (xs : List Write). write_among xs key) (sym c.self.view_is) ∙ found_none ws key place)
