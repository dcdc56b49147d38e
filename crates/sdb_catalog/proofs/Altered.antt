-- A column added to a table of the catalog, and what the first store then holds.
use Rattle.std.proofs.Common.{◌≡◌, ◌⊎◌, ℕ, List, Bool, true, cond, inl, inr, Option, Some, None, Result, Ok, Err, IfOk, ap, subst, ◌∙◌}
use Rattle.std.specs.Prelude.{IfErr}
use Rattle.sdb_catalog.specs.Types.{Column, Record, TableName}
use Rattle.sdb_types.specs.declared.record.Condition.TheVariants.{Version}
use Rattle.sdb_types.specs.declared.record.Reply.TheVariants.{Applied, NotMet}
use Rattle.sdb_types.specs.declared.record.State.TheVariants.{Committed}
use Rattle.sdb_types.specs.Contents.{Contents, after, put_reply, record_at}
use Rattle.sdb_schema.specs.Added.{column_refused_by, grown}
use Rattle.sdb_schema.specs.Table.{is_table}
use Rattle.sdb_stores.specs.Views.{Attached, StoreView, names_of}
use Rattle.sdb_catalog.specs.declared.alteration.Alteration.{Alteration}
use Rattle.sdb_catalog.specs.declared.alteration.Alteration.TheVariants as alteration
use Rattle.sdb_catalog.specs.declared.entry.Entry.{Entry}
use Rattle.sdb_catalog.specs.declared.refused.CatalogRefused.{CatalogRefused}
use Rattle.sdb_catalog.specs.declared.refused.CatalogRefused.TheVariants as refused
use Rattle.sdb_catalog.specs.Altered.{CameOf, IsAltered, IsAlteredIn, IsGrownIn, IsUnaltered, IsUnalteredIn, MayAlter, WasPut, alteration_of, alteration_text, altered, cause_of, entry_named, put_over}
use Rattle.sdb_catalog.specs.Altered.IsAlteredIn.{Altered, Refused}
use Rattle.sdb_catalog.specs.Calls.{ContentsAreUnchanged, IsRead, IsStopped, IsUnread, GoOn, MayChange, first_contents, with_states}
use Rattle.sdb_catalog.specs.Rows.{row_of}
use Rattle.sdb_catalog.proofs.Altering.{grown_in, holds_there, refused_same, table_there}
use Rattle.sdb_catalog.proofs.Calling.{risen_more}
use Rattle.sdb_catalog.proofs.Catalogs.{read_rises}
use Rattle.sdb_catalog.proofs.Known.{bad_in, opens_in, performed}
use Rattle.sdb_catalog.proofs.Writes.{called_from}

---- the calls

came_from : (c : Column) (e : Entry) (o : Alteration) (old mid : Attached) (new : List StoreView) → ((i : ℕ) → old.known i → mid.known i) → CameOf c e o mid new → CameOf c e o (with_states old mid.views) new
came_from c e alteration.Altered old mid new goes h = (h.0, called_from _ _ old mid new goes h.1)
came_from c e (alteration.Refused number) old mid new goes h = h
came_from c e alteration.Differs old mid new goes h = (h.0, (h.1.0, called_from _ _ old mid new goes h.1.1))

pub is_altered : (name : TableName) (c : Column) (text : List ℕ) (es : List Entry) (e : Entry) (o : Alteration) (old mid : Attached) (new : List StoreView) → IsRead old mid.views es → ((i : ℕ) → old.known i → mid.known i) → entry_named es name ≡ Some e
    → CameOf c e o mid new → text ≡ alteration_text name o → IsAltered name c text old new
is_altered name c text es e o old mid new read goes found came is = record {
  entries = es;
  mid = mid.views;
  read = read;
  entry = e;
  found = found;
  refused = refused_same es name c e found;
  outcome = o;
  came = came_from c e o old mid new goes came;
  answer = is;
}

---- known contents

never_met : {X : Type 0} (found : Option Record) → NotMet found ≡ Applied → X
never_met found e = absurd (let f : NotMet found ≡ Applied = e in cc)

module _ (name : TableName) (c : Column) (es : List Entry) (e : Entry) (old mid : Attached) (read : IsRead old mid.views es) (keeps : ContentsAreUnchanged old mid) (goes : (i : ℕ) → old.known i → mid.known i) (found : entry_named es name ≡ Some e)
    (own : column_refused_by e.table c ≡ None → is_table e.table ≡ true → is_table (grown e.table c) ≡ true) where
  -- the put was made
  grown_now : (new : Contents) → old.known 0 → column_refused_by e.table c ≡ None → new ≡ after (alteration_of c e) (first_contents mid.views) → IsGrownIn (names_of old.views) name c (first_contents old.views) new
  grown_now new t allowed is =
      grown_in (names_of old.views) name c es e (first_contents old.views) (opens_in es old mid.views t read) (read_rises old mid.views es read) found allowed (own allowed) new (is ∙ ap (after (alteration_of c e)) (keeps t))

  applies : old.known 0 → put_reply (Version e.revision Committed) (record_at (first_contents mid.views) (row_of (altered c e)).key) ≡ Applied
  applies t =
      ap (λ (m : Contents). put_reply (Version e.revision Committed) (record_at m (row_of (altered c e)).key)) (keeps t)
      ∙ ap (λ (b : Bool). cond b Applied (NotMet (record_at (first_contents old.views) (row_of (altered c e)).key))) (holds_there (names_of old.views) name c es e (first_contents old.views) (opens_in es old mid.views t read) found)

  pub altered_in : (text : List ℕ) (o : Alteration) (new : List StoreView) → CameOf c e o mid new → text ≡ alteration_text name o → old.known 0 → IsAlteredIn (names_of old.views) name c text (first_contents old.views) (first_contents new)
  altered_in text alteration.Altered new came is t =
      Altered (grown_now (first_contents new) t came.0 (performed (alteration_of c e) Applied mid new (goes 0 t) came.1).1) is
  altered_in text (alteration.Refused number) new came is t =
      Refused number
      (record {
        entries = es;
        opens = opens_in es old mid.views t read;
        refused = refused_same es name c e found ∙ came.0;
        there = table_there es name e found;
        same = ap first_contents came.1 ∙ keeps t;
      }) is
  altered_in text alteration.Differs new came is t =
      never_met came.1.0 ((performed (alteration_of c e) (NotMet came.1.0) mid new (goes 0 t) came.1.1).0 ∙ applies t)

  -- a call that was not answered may have been made
  pub left_in : (x : CatalogRefused) (new : Attached) → IsStopped mid.views new.views x → MayAlter c e mid new → old.known 0 → IsUnalteredIn (names_of old.views) name c (first_contents old.views) (first_contents new.views) (cause_of x)
  left_in x new stopped may t = by x stopped
    where
      left : (first_contents new.views ≡ first_contents old.views) ⊎ IsGrownIn (names_of old.views) name c (first_contents old.views) (first_contents new.views)
      left = elim (may (goes 0 t)) [
        | inl same ↦ inl (same ∙ keeps t)
        | inr done ↦ inr (grown_now (first_contents new.views) t done.0 done.1)
      ]

      by : (x : CatalogRefused) → IsStopped mid.views new.views x → IsUnalteredIn (names_of old.views) name c (first_contents old.views) (first_contents new.views) (cause_of x)
      by refused.StoreFault h = left
      by (refused.BadRow key) h = absurd h
      by refused.NoMemory h = left

  -- a line that found no memory
  pub left_by_text : (o : Alteration) (new : Attached) → CameOf c e o mid new.views → old.known 0 → (first_contents new.views ≡ first_contents old.views) ⊎ IsGrownIn (names_of old.views) name c (first_contents old.views) (first_contents new.views)
  left_by_text alteration.Altered new came t = inr (grown_now (first_contents new.views) t came.0 (performed (alteration_of c e) Applied mid new.views (goes 0 t) came.1).1)
  left_by_text (alteration.Refused number) new came t = inl (ap first_contents came.1 ∙ keeps t)
  left_by_text alteration.Differs new came t = never_met came.1.0 ((performed (alteration_of c e) (NotMet came.1.0) mid new.views (goes 0 t) came.1.1).0 ∙ applies t)

---- refusals before a put

pub unread_in : (name : TableName) (c : Column) (x : CatalogRefused) (old new : Attached) → IsUnread old new.views x → ContentsAreUnchanged old new → old.known 0 → IsUnalteredIn (names_of old.views) name c (first_contents old.views) (first_contents new.views) (cause_of x)
unread_in name c refused.StoreFault old new h keeps t = inl (keeps t)
unread_in name c (refused.BadRow key) old new h keeps t = (keeps t, bad_in old new.views (refused.BadRow key) h t)
unread_in name c refused.NoMemory old new h keeps t = inl (keeps t)

pub unread_cause : (name : TableName) (x : CatalogRefused) (old : Attached) (new : List StoreView) → IsUnread old new x → IsUnaltered name old new (cause_of x)
unread_cause name refused.StoreFault old new h = h
unread_cause name (refused.BadRow key) old new h = h
unread_cause name refused.NoMemory old new h = tt

pub stopped_cause : (name : TableName) (x : CatalogRefused) (old mid : Attached) (new : List StoreView) → GoOn old mid → IsStopped mid.views new x → IsUnaltered name old new (cause_of x)
stopped_cause name refused.StoreFault old mid new goes h = risen_more old mid new goes h
stopped_cause name (refused.BadRow key) old mid new goes h = absurd h
stopped_cause name refused.NoMemory old mid new goes h = tt

---- the put of a row

module _ (c : Column) (e renewed : Entry) (r : Result Alteration CatalogRefused) (old new : Attached) (is : renewed ≡ altered c e) (allowed : column_refused_by e.table c ≡ None) where
  pub came_of : IfOk r (λ o. WasPut (put_over renewed e) o old new.views) → IfOk r (λ o. CameOf c e o old new.views)
  came_of h = by r h
    where
      as_put : (o : Alteration) → WasPut (alteration_of c e) o old new.views → CameOf c e o old new.views
      as_put alteration.Altered k = (allowed, k)
      as_put (alteration.Refused number) k = absurd k
      as_put alteration.Differs k = (allowed, k)

      by : (r : Result Alteration CatalogRefused) → IfOk r (λ o. WasPut (put_over renewed e) o old new.views) → IfOk r (λ o. CameOf c e o old new.views)
      by (Ok o) k = as_put o (subst (λ (x : Entry). WasPut (put_over x e) o old new.views) is k)
      by (Err x) k = tt

  pub may_alter : MayChange (put_over renewed e) old new → IfErr r (λ x. MayAlter c e old new)
  may_alter h = by r
    where
      may : MayAlter c e old new
      may t = elim (subst (λ (x : Entry). MayChange (put_over x e) old new) is h t) [
        | inl same ↦ inl same
        | inr done ↦ inr (allowed, done)
      ]

      by : (r : Result Alteration CatalogRefused) → IfErr r (λ x. MayAlter c e old new)
      by (Ok o) = tt
      by (Err x) = may
