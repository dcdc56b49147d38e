-- What `alter` promises of its work, begun with the places that there were before.
use Rattle.std.proofs.Common.{◌≡◌, ◌∙◌, ℕ, List, drop, inl, inr, refl, subst, ap}
use Rattle.sdb_app.specs.Types.{AlterRefused, Column, Entry, TableName}
use Rattle.sdb_types.specs.Contents.{Contents}
use Rattle.sdb_stores.specs.Views.{Attached, StoreView as Counted, HaveRisen, names_of}
use Rattle.sdb_catalog.specs.declared.alteration.Alteration.{Alteration}
use Rattle.sdb_catalog.specs.declared.alteration.Alteration.TheVariants as alteration
use Rattle.sdb_catalog.specs.declared.refused.AlterRefused.TheVariants as refused
use Rattle.sdb_catalog.specs.declared.refused.CatalogRefused.TheVariants as unread
use Rattle.sdb_catalog.specs.Altered.{CameOf, IsAltered, IsAlteredIn, IsUnaltered, IsUnalteredIn, MayBeGrown}
use Rattle.sdb_catalog.specs.Altered.IsAlteredIn.{Altered, Refused}
use Rattle.sdb_catalog.specs.Calls.{first_contents, with_states}
use Rattle.sdb_app.specs.declared.status.Status.{Status}
use Rattle.sdb_app.specs.Ends.{Work}
use Rattle.sdb_app.specs.Alter.{IsColumnAnswered, IsColumnUnanswered, StopsAlter}
use Rattle.sdb_app.proofs.Headline.{begun_with}
use Rattle.sdb_app.proofs.Schemas.{called_before, read_before, unread_before}

came_before : (c : Column) (e : Entry) (o : Alteration) (before mid : Attached) (new : List Counted) → mid.views ≡ before.views → ((at : ℕ) → before.known at → mid.known at) → CameOf c e o mid new → CameOf c e o before new
came_before c e alteration.Altered before mid new same where_known h = (h.0, called_before _ _ before mid new same where_known h.1)
came_before c e (alteration.Refused number) before mid new same where_known h = (h.0, h.1 ∙ same)
came_before c e alteration.Differs before mid new same where_known h = (h.0, (h.1.0, called_before _ _ before mid new same where_known h.1.1))

answer_before : (name : TableName) (c : Column) (text : List ℕ) (before mid : Attached) (new : List Counted) → mid.views ≡ before.views → ((at : ℕ) → before.known at → mid.known at) → IsAltered name c text mid new → IsAltered name c text before new
answer_before name c text before mid new same where_known h = record {
  entries = h.entries;
  mid = h.mid;
  read = read_before before mid h.mid h.entries same where_known h.read;
  entry = h.entry;
  found = h.found;
  refused = h.refused;
  outcome = h.outcome;
  came = came_before c h.entry h.outcome (with_states before h.mid) (with_states mid h.mid) new refl where_known h.came;
  answer = h.answer;
}

unaltered_before : (name : TableName) (before mid : Attached) (new : List Counted) (e : AlterRefused) → mid.views ≡ before.views → ((at : ℕ) → before.known at → mid.known at) → IsUnaltered name mid new e → IsUnaltered name before new e
unaltered_before name before mid new refused.StoreFault same where_known h = subst (λ (ss : List Counted). HaveRisen ss new) same h
unaltered_before name before mid new (refused.BadRow key) same where_known h = unread_before before mid new (unread.BadRow key) same where_known h
unaltered_before name before mid new refused.NoTable same where_known h = record { entries = h.entries; read = read_before before mid new h.entries same where_known h.read; none = h.none }
unaltered_before name before mid new refused.NoMemory same where_known h = tt

-- what `alter` answers, and why it answers nothing
pub altered_before : (before : Attached) (work : Work) (name : TableName) (c : Column) (text : List ℕ) → work.old.views ≡ before.views → ((at : ℕ) → before.known at → work.old.known at) → IsColumnAnswered name c work text → IsColumnAnswered name c (begun_with before work) text
altered_before before work name c text same where_known h = record {
  altered = answer_before name c text before work.old work.left same where_known h.altered;
  known = λ answered. subst (λ (ss : List Counted). IsAlteredIn (names_of ss) name c text (first_contents ss) (first_contents work.left)) same (h.known (where_known 0 answered));
  others = h.others ∙ ap (λ (ss : List Counted). drop 1 ss) same;
  unread = h.unread;
}

pub alter_stops_before : (before : Attached) (work : Work) (name : TableName) (c : Column) (s : Status) → work.old.views ≡ before.views → ((at : ℕ) → before.known at → work.old.known at) → StopsAlter name c work s → StopsAlter name c (begun_with before work) s
alter_stops_before before work name c s same where_known h = record {
  cause = h.cause;
  unanswered = record {
    refused = unaltered_before name before work.old work.left h.cause same where_known h.unanswered.refused;
    known = λ answered. subst (λ (ss : List Counted). IsUnalteredIn (names_of ss) name c (first_contents ss) (first_contents work.left) h.cause) same (h.unanswered.known (where_known 0 answered));
    others = h.unanswered.others ∙ ap (λ (ss : List Counted). drop 1 ss) same;
    unread = h.unanswered.unread;
  };
  ends = h.ends;
}

-- an answer whose bytes found no memory
pub answered_or_not : (names : List (List ℕ)) (name : TableName) (c : Column) (text : List ℕ) (old new : Contents) → IsAlteredIn names name c text old new → MayBeGrown names name c old new
answered_or_not names name c text old new (Altered h is) = inr h
answered_or_not names name c text old new (Refused number h is) = inl h.same
