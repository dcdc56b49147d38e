use Rattle.std.proofs.Common.{Option, ap, ◌∙◌}
use Rattle.std.specs.Prelude.{unwrap_or}
use Rattle.sdb_stores.proofs.Called.{moved_at, named_within, same_names, grown, caused}
use Rattle.sdb_stores.proofs.stores.StoresRegistry.perform_at.Goals as goal

pub perform_on-requires-clause-at : goal.perform_on-requires-clause-at
perform_on-requires-clause-at g c = named_within _ c.args.store.now c.index_of.result c.unwrap_or-at.result c.requires.attached c.index_of.ensures c.unwrap_or-at.ensures

pub returns-clause-called : goal.returns-clause-called
returns-clause-called g c =
    moved_at _ _ _ _ _ _ (c.unwrap_or-at.ensures ∙ ap (λ (o : Option _). unwrap_or o 0) c.index_of.ensures) c.perform_on.ensures.called

pub returns-clause-names : goal.returns-clause-names
returns-clause-names g c = same_names _ _ _ _ _ (returns-clause-called g c)

pub returns-clause-counted : goal.returns-clause-counted
returns-clause-counted g c = grown _ _ _ _ _ (returns-clause-called g c)

pub returns-clause-cause : goal.returns-clause-cause
returns-clause-cause g c = caused _ _ _ _ _ (returns-clause-called g c)
