use Rattle.std.proofs.Common.{◌∙◌, ◌++◌, List, ap}
use Rattle.std.specs.Prelude.{ℕ, filter}
use Rattle.std.specs.List.{flat_map}
use Rattle.sdb_model.specs.Calls.{calls_of}
use Rattle.sdb_model.specs.ReadSet.{ReadItem, has_read, read_items}
use Rattle.sdb_model.specs.Transactions.{Executed, client_of, statements_by}
use Rattle.sdb_contents.specs.declared.executed.Executed.{Executed as Plain}
use Rattle.sdb_contents.specs.Commits.{all_executed, executed_of}
use Rattle.check_protocol.specs.declared.plan.ReadItem.{ReadItem as Found}
use Rattle.check_tables.specs.Values.{all_items, inside_among, items_of_statement}
use Rattle.check_tables.proofs.Walks.{all_noted}
use Rattle.check_tables.proofs.recorded_read.read_set_of.Goals as goal

pub returns : goal.returns
returns c =
    let events = c.args.events.now in
    let client = c.client_of-client.result in
    let f : ℕ → List Executed → List ReadItem = λ n ss. flat_map (λ s. read_items (calls_of events n s)) (filter (has_read events n) ss) in
    c.in_ok-add_all_executed.ensures ∙ ap (λ (ns : List Found). all_items ns ++ flat_map (λ s. items_of_statement events client (executed_of s)) c.in_ok-inside.inside.now) c.new-read_set.ensures
    ∙ all_noted events client c.in_ok-inside.inside.now ∙ ap (f client) c.in_ok-inside.ensures
    ∙ ap (λ (ss : List Plain). f client (inside_among (all_executed ss) c.ordinal_of.result)) c.as_slice.ensures
    ∙ ap (λ (ss : List Executed). f client (inside_among ss c.ordinal_of.result)) c.in_ok-all.ensures
    ∙ ap (λ (n : ℕ). f n (inside_among (statements_by n events) c.ordinal_of.result)) c.client_of-client.ensures
    ∙ ap (λ (k : ℕ). f (client_of c.args.id) (inside_among (statements_by (client_of c.args.id) events) k)) c.ordinal_of.ensures
