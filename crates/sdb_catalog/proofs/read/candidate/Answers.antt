use Rattle.std.proofs.Common.{rules, ◌≡◌, ◌∙◌, sym, ap, subst, Option, Some}
use Rattle.std.specs.Prelude.{IfSome, find}
use Rattle.std.specs.Str.{bytes_eq}
use Rattle.sdb_schema.specs.declared.table.Table.{Table}
use Rattle.std.specs.Option.{option_copied}
use Rattle.sdb_catalog.specs.Opened.{is_attached}
use Rattle.sdb_catalog.specs.Rows.{MayHaveRow, Texts}
use Rattle.sdb_catalog.proofs.Reading.{no_texts, texts_said, no_store, store_is, store_there, same_entry}
use Rattle.sdb_catalog.proofs.read.candidate.Goals as goal
use Rattle.sdb_types.proofs.Public.{none_some, some_is}

pub returns-in_default-clause-read : goal.returns-in_default-clause-read
returns-in_default-clause-read c = λ e fit row. no_texts e c.args.row.now c.texts_of.result c.texts_of.ensures c.in_default.is row

pub returns-in_default-from_text-clause-read : goal.returns-in_default-from_text-clause-read
returns-in_default-from_text-clause-read c = λ e fit row.
    let said = texts_said e c.args.row.now c.texts_of.result c.in-Some.texts c.texts_of.ensures c.in-Some.is row in
    none_some e.revision (sym c.in_default-from_text.is ∙ c.from_text.ensures.read e.revision.0 fit.revision (ap (λ (t : Texts). t.revision) said))

pub returns-in_default-store_named-clause-read : goal.returns-in_default-store_named-clause-read
returns-in_default-store_named-clause-read c = λ e fit row.
    let said = texts_said e c.args.row.now c.texts_of.result c.in-Some.texts c.texts_of.ensures c.in-Some.is row in
    no_store c.args.names.now c.as_str.result.now (sym c.store_named.ensures ∙ ap option_copied c.in_default-store_named.is) (ap (is_attached c.args.names.now) (c.as_str.ensures ∙ ap (λ (t : Texts). t.store) said) ∙ fit.attached)

pub returns-in-Some-2-clause-entry : goal.returns-in-Some-2-clause-entry
returns-in-Some-2-clause-entry c =
    let found : find (λ n. bytes_eq n c.as_str.result.now) c.args.names.now ≡ Some c.in-Some-store_named.store.now = sym c.store_named.ensures ∙ ap option_copied c.in-Some-store_named.is in
    record {
      table = subst (λ (o : Option Table). IfSome o MayHaveRow) c.in-Some-2.is c.in_ok-table.ensures.kept;
      attached = ap (is_attached c.args.names.now) c.in_ok-store.ensures ∙ store_there c.args.names.now c.as_str.result.now c.in-Some-store_named.store.now found;
      revision = search rules;
    }

pub returns-in-Some-2-clause-read : goal.returns-in-Some-2-clause-read
returns-in-Some-2-clause-read c = λ e fit row.
    let said = texts_said e c.args.row.now c.texts_of.result c.in-Some.texts c.texts_of.ensures c.in-Some.is row in
    let found : find (λ n. bytes_eq n c.as_str.result.now) c.args.names.now ≡ Some c.in-Some-store_named.store.now = sym c.store_named.ensures ∙ ap option_copied c.in-Some-store_named.is in
    let table = c.in_ok-table.ensures.read e.table fit.table (sym (c.as_str-2.ensures ∙ ap (λ (t : Texts). t.name) said)) (sym (c.as_str-3.ensures ∙ ap (λ (t : Texts). t.definition) said)) in
    same_entry e c.in-Some-2.table c.in_ok-store.store c.in-Some-from_text.revision
    (some_is c.in-Some-2.table e.table (sym c.in-Some-2.is ∙ table))
    (c.in_ok-store.ensures ∙ store_is c.args.names.now c.as_str.result.now c.in-Some-store_named.store.now found ∙ c.as_str.ensures ∙ ap (λ (t : Texts). t.store) said)
    (some_is c.in-Some-from_text.revision e.revision (sym c.in-Some-from_text.is ∙ c.from_text.ensures.read e.revision.0 fit.revision (ap (λ (t : Texts). t.revision) said)))

pub returns-in-None-clause-read : goal.returns-in-None-clause-read
returns-in-None-clause-read c = λ e fit row.
    let said = texts_said e c.args.row.now c.texts_of.result c.in-Some.texts c.texts_of.ensures c.in-Some.is row in
    let table = c.in_ok-table.ensures.read e.table fit.table (sym (c.as_str-2.ensures ∙ ap (λ (t : Texts). t.name) said)) (sym (c.as_str-3.ensures ∙ ap (λ (t : Texts). t.definition) said)) in
    none_some e.table (sym c.in-None.is ∙ table)
