use Rattle.std.proofs.Common.{[], rules, refl, sym, subst, ap, ◌∙◌}
use Rattle.std.specs.Prelude.{map}
use Rattle.std.specs.String.{string_bytes}
use denote.Param.Object.{read_made}
use Rattle.sdb_store.specs.Store.{StoreState, IsNewStore}
use Rattle.sdb_store.specs.FaultPlans.{memory_state}
use Rattle.scalardb.specs.Stores.{own_attached}
use Rattle.scalardb.proofs.stores.run_on_own.OwnLists as lists
use Rattle.scalardb.proofs.Own.{all_own, ended_on_own, out_of_memory}
use Rattle.scalardb.proofs.stores.run_on_own.Goals as goal

-- What each box shows is what the store in it does.
pub returns : goal.returns
returns g c =
    let State1 = read_made lists.own-1 _ lists.at-1-1 refl StoreState (λ j y. j.1.state y) _ _ _ c.into_dyn_box.ensures.1 in
    let State2 = read_made lists.own-1 _ lists.at-1-2 refl StoreState (λ j y. j.1.state y) _ _ _ c.into_dyn_box-2.ensures.1 in
    let State3 = read_made lists.own-1 _ lists.at-1-3 refl StoreState (λ j y. j.1.state y) _ _ _ c.into_dyn_box-3.ensures.1 in
    let State4 = read_made lists.own-1 _ lists.at-1-4 refl StoreState (λ j y. j.1.state y) _ _ _ c.into_dyn_box-4.ensures.1 in
    let ordered = State1 ∙ ap memory_state (c.in-Ok-Ok-Ok-Ok.ensures.ok ∙ c.new-2.ensures) in
    let hashed = State2 ∙ ap memory_state (c.in-Ok-Ok-Ok-Ok.ensures'.ok ∙ c.new-5.ensures) in
    let database = State3 ∙ ap (λ k. (lists.own-1.entry lists.at-1-3).1.state k) c.in-Ok-Ok-Ok-Ok.ensures''.ok in
    let sharded = State4 ∙ ap (λ k. (lists.own-1.entry lists.at-1-4).1.state k) c.in-Ok-Ok-Ok-Ok.ensures'''.ok in
    record {
      ended =
          ended_on_own _ _ _
          (all_own [] c.attach.result c.attach-2.result c.attach-3.result c.attach-4.result _ _ _ _ _ _ _ _ _ _ _ _ _ c.attach.ensures.ok c.attach-2.ensures.ok c.attach-3.ensures.ok c.attach-4.ensures.ok c.new-stores.ensures.stores (search rules) (search rules) (search rules) (search rules)
          c.in-Ok-Ok.ensures.0 c.in-Ok-Ok.ensures.1 c.in-Ok-Ok.ensures.2 c.in-Ok-Ok.ensures.3
          (subst IsNewStore (sym ordered) (record { where_known = tt; empty = refl; sound = refl; unused = refl })) (subst IsNewStore (sym hashed) (record { where_known = tt; empty = refl; sound = refl; unused = refl })) (subst IsNewStore (sym database) c.requires.new) (subst IsNewStore (sym sharded) c.in-Ok-Ok.ensures'))
          c.run.ensures.ended;
    }

pub returns-in_default : goal.returns-in_default
returns-in_default g c = record { ended = out_of_memory own_attached (map string_bytes c.args.words.now) _ _ _ _ }

pub returns-in_default-2 : goal.returns-in_default-2
returns-in_default-2 g c = record { ended = out_of_memory own_attached (map string_bytes c.args.words.now) _ _ _ _ }

pub returns-then-not-first : goal.returns-then-not-first
returns-then-not-first g c = record { ended = out_of_memory own_attached (map string_bytes c.args.words.now) _ _ _ _ }
