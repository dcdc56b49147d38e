use Rattle.std.proofs.Common.{◌≡◌, ◌++◌, [], ◌∷◌, true, false, List, None, length, take, subst, sym, ap, ◌∙◌, rules}
use Rattle.std.specs.Prelude.{is_some}
use Rattle.sdb_snapshot.specs.Types.{Key, Write}
use Rattle.sdb_snapshot.specs.Sets.{AreIndexed}
use Rattle.sdb_snapshot.specs.Opened.{with_new}
use Rattle.sdb_snapshot.proofs.Places.{place_in, present, absent, no_place_in, placed_last, placed_back}
use Rattle.sdb_snapshot.proofs.write_set.WriteSet.open.Goals as goal

pub returns-then-is_some-clause-ok : goal.returns-then-is_some-clause-ok
returns-then-is_some-clause-ok c =
    let some : is_some c.place.result ≡ true = search rules in
    sym (ap (λ (ws : List Write). with_new ws c.args.write) (sym c.self.view_is) ∙ present c.self.inside.places c.self.inside.writes c.args.write c.place.result c.self.invariant c.place.ensures some ∙ c.self.view_is)

pub invariant_of-self-in-Ok : goal.invariant_of-self-in-Ok
invariant_of-self-in-Ok c =
    let none : is_some c.place.result ≡ false = search rules in
    let place = no_place_in c.self.inside.places c.self.inside.writes c.args.write.key c.place.result c.self.invariant c.place.ensures none in
    let key : c.in_ok-copy.field-0 ≡ c.args.write.key = c.in_ok-copy.ensures in
    let here : place_in c.self.inside.writes c.in_ok-copy.field-0 ≡ None = ap (place_in c.self.inside.writes) key ∙ place in
    subst (λ (x : List Write). AreIndexed c.put.new.self x) (sym c.in-Ok.ensures.ok)
    (subst (λ (y : List (Key × Unit {0})). AreIndexed y (c.self.inside.writes ++ c.args.write ∷ [])) (sym c.in_ok-put.ensures.ok)
    (placed_last c.self.inside.places c.self.inside.writes c.in_ok-copy.field-0 c.args.write c.self.invariant here key))

pub invariant_of-self-in-Err : goal.invariant_of-self-in-Err
invariant_of-self-in-Err c =
    let none : is_some c.place.result ≡ false = search rules in
    let place = no_place_in c.self.inside.places c.self.inside.writes c.args.write.key c.place.result c.self.invariant c.place.ensures none in
    let key : c.in_ok-copy.field-0 ≡ c.args.write.key = c.in_ok-copy.ensures in
    let here : place_in c.self.inside.writes c.in_ok-copy.field-0 ≡ None = ap (place_in c.self.inside.writes) key ∙ place in
    let len : c.len-len.result ≡ length c.self.inside.writes = c.len-len.ensures in
    subst (λ (x : List Write). AreIndexed c.truncate.new.self x) (sym c.in-Err.ensures.err)
    (subst (λ (y : List (Key × Unit {0})). AreIndexed y c.self.inside.writes) (sym (c.truncate.ensures ∙ ap (take c.len-len.result) c.in_ok-put.ensures.ok))
    (placed_back c.self.inside.places c.self.inside.writes c.in_ok-copy.field-0 c.len-len.result c.self.invariant here len))

pub returns-in-Ok-clause-ok : goal.returns-in-Ok-clause-ok
returns-in-Ok-clause-ok c =
    let none : is_some c.place.result ≡ false = search rules in
    let place = no_place_in c.self.inside.places c.self.inside.writes c.args.write.key c.place.result c.self.invariant c.place.ensures none in
    c.in-Ok.ensures.ok ∙ sym (absent c.self.inside.writes c.args.write place) ∙ ap (λ (ws : List Write). with_new ws c.args.write) c.self.view_is
