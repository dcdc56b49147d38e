-- A catalog that is written where there was none is kept as itself.
use Rattle.std.proofs.Common.{◌≡◌, ℕ, List, [], ◌∷◌, ◌++◌, map, Bool, true, false, not, ◌&&◌, ◌||◌, cond, Option, Some, None, refl, sym, ap, subst, ◌∙◌, append_assoc, append-nil}
use Rattle.std.specs.Prelude.{find, unwrap_or, nat_lt}
use Rattle.std.specs.List.{list_all}
use Rattle.std.specs.Option.{option_map}
use Rattle.std.specs.Ordering.{is_lt}
use Rattle.std.specs.Str.{bytes_eq}
use Rattle.std.specs.FinMap.{insert}
use Rattle.std.proofs.lemmas.List.{map-append}
use Rattle.std.proofs.lemmas.Slice.Eq.{bytes_eq-Decides}
use Rattle.sdb_catalog.specs.Types.{Place, Record, Table}
use Rattle.sdb_types.specs.declared.record.Reply.TheVariants.{Applied, NotMet}
use Rattle.sdb_types.specs.declared.record.Condition.TheVariants.{Absent}
use Rattle.sdb_types.specs.Contents.{Contents, holds, in_span, put_reply, record_at, rows_in}
use Rattle.sdb_types.specs.Identifier.{is_name}
use Rattle.sdb_types.specs.Order.{key_cmp, table_cmp}
use Rattle.sdb_types.proofs.Public.{and_both, and_first, and_second, less_of, table_total}
use Rattle.sdb_schema.specs.Catalog.{rises}
use Rattle.sdb_stores.specs.Views.{Attached, StoreView, route_of}
use Rattle.sdb_catalog.specs.declared.entry.Entry.{Entry}
use Rattle.sdb_catalog.specs.declared.outcome.Outcome.{Outcome}
use Rattle.sdb_catalog.specs.declared.outcome.Outcome.TheVariants as outcome
use Rattle.sdb_catalog.specs.Calls.{Called, first_contents, metadata_span, with_states}
use Rattle.sdb_catalog.specs.Rows.{metadata_key_of, row_of}
use Rattle.sdb_catalog.specs.Opened.{Follow, agrees, is_coordinators, open_count, store_in}
use Rattle.sdb_catalog.specs.Written.{AreWritten, IsWritten, Line, entry_for, grown, has_entry, is_full, put_of}
use Rattle.sdb_catalog.proofs.Calling.{first_before, first_now}
use Rattle.sdb_catalog.proofs.Catalogs.{key_order}
use Rattle.sdb_catalog.proofs.LastRows.{are_below, none_at, rows_pushed}

---- the entry of a table

module _ (places : List Place) (first : List ℕ) where
  abbrev pub entry : Table → Entry
  entry t = entry_for [] places first t

  abbrev pub store_of : List ℕ → List ℕ
  store_of ns = unwrap_or (route_of ns places) first

  store_same : (ts : List Table) (ns : List ℕ) → unwrap_or (store_in (map entry ts) ns) (store_of ns) ≡ store_of ns
  store_same [] ns = refl
  store_same (t ∷ ts) ns =
      elim (bytes_eq t.name.ns ns) as (λ b. bytes_eq t.name.ns ns ≡ b → unwrap_or (option_map (λ (e : Entry). e.store) (cond b (Some (entry t)) (find (λ (e : Entry). bytes_eq e.table.name.ns ns) (map entry ts)))) (store_of ns) ≡ store_of ns) [
        | true ↦ λ q. ap store_of ((bytes_eq-Decides t.name.ns ns).0 q)
        | false ↦ λ q. store_same ts ns
      ] refl

  -- tables of the same catalog that are known change nothing
  pub entry_same : (ts : List Table) (t : Table) → entry_for (map entry ts) places first t ≡ entry t
  entry_same ts t = ap (λ (s : List ℕ). record { table = t; store = s; revision = record { 0 = 1 } }) (store_same ts t.name.ns)

---- one put

pub in_metadata : (e : Entry) → in_span metadata_span (row_of e).key ≡ true
unfolding row_of metadata_key_of
in_metadata e = refl

pub put_applied : (o : Option Record) → Applied ≡ put_reply Absent o → o ≡ None
put_applied None h = refl
put_applied (Some x) h = absurd (let e : Applied ≡ NotMet (Some x) = h in cc)

put_unmet : {X : Type 0} (o : Option Record) (found : Record) → NotMet (Some found) ≡ put_reply Absent o → o ≡ None → X
put_unmet None found h q = absurd (let e : NotMet (Some found) ≡ Applied = h in cc)
put_unmet (Some x) found h q = absurd (let e : Some x ≡ None = q in cc)

abbrev rows_of : List StoreView → List Record
rows_of stores = rows_in metadata_span (first_contents stores)

row_added : (e : Entry) (old : Attached) (new : List StoreView) → old.known 0 → Called (put_of e) Applied old new → are_below (row_of e).key (rows_of old.views) ≡ true → rows_of new ≡ rows_of old.views ++ row_of e ∷ []
row_added e old new t call low =
    let p = call.performed t in
    let before = first_before old.views call.before call.stood in
    let now = first_now old.views new call.before call.now call.stood call.rest in
    let none = put_applied (record_at call.before.contents (row_of e).key) p.0 in
    let left : call.now.contents ≡ insert call.before.contents (row_of e).key (row_of e).columns = p.1 ∙ ap (λ (o : Option Record). cond (holds Absent o) (insert call.before.contents (row_of e).key (row_of e).columns) call.before.contents) none in
    ap (rows_in metadata_span) (now ∙ left ∙ ap (λ (m : Contents). insert m (row_of e).key (row_of e).columns) (sym before))
    ∙ rows_pushed metadata_span (first_contents old.views) (row_of e).key (row_of e).columns (in_metadata e) low

not_unmet : {X : Type 0} (e : Entry) (found : Record) (old : Attached) (new : List StoreView) → old.known 0 → Called (put_of e) (NotMet (Some found)) old new → are_below (row_of e).key (rows_of old.views) ≡ true → X
not_unmet e found old new t call low =
    let before = first_before old.views call.before call.stood in
    put_unmet (record_at call.before.contents (row_of e).key) found (call.performed t).0
    (ap (λ (m : Contents). record_at m (row_of e).key) (sym before) ∙ none_at metadata_span (first_contents old.views) (row_of e).key (in_metadata e) low)

---- the order of rows

abbrev named : List Table → Bool
named ts = list_all (λ (t : Table). is_name t.name.ns) ts

abbrev lower : Table → List Table → Bool
lower t ds = list_all (λ (d : Table). is_lt (table_cmp d.name t.name)) ds

earlier_lower : (ds : List Table) (t : Table) (ts : List Table) → rises (ds ++ t ∷ ts) ≡ true → lower t ds ≡ true
earlier_lower [] t ts h = refl
earlier_lower (d ∷ []) t ts h = and_both (is_lt (table_cmp d.name t.name)) true (and_first (is_lt (table_cmp d.name t.name)) (rises (t ∷ ts)) h) refl
earlier_lower (d ∷ c ∷ ds) t ts h =
    let first = and_first (is_lt (table_cmp d.name c.name)) (rises (c ∷ (ds ++ t ∷ ts))) h in
    let rest = earlier_lower (c ∷ ds) t ts (and_second (is_lt (table_cmp d.name c.name)) (rises (c ∷ (ds ++ t ∷ ts))) h) in
    and_both (is_lt (table_cmp d.name t.name)) (lower t (c ∷ ds))
    (ap is_lt (table_total.trans d.name c.name t.name (less_of (table_cmp d.name c.name) first) (less_of (table_cmp c.name t.name) (and_first (is_lt (table_cmp c.name t.name)) (lower t ds) rest)))) rest

named_at : (ds : List Table) (t : Table) (ts : List Table) → named (ds ++ t ∷ ts) ≡ true → is_name t.name.ns ≡ true
named_at [] t ts h = and_first (is_name t.name.ns) (named ts) h
named_at (d ∷ ds) t ts h = named_at ds t ts (and_second (is_name d.name.ns) (named (ds ++ t ∷ ts)) h)

module _ (places : List Place) (first : List ℕ) where
  rows_below : (ds : List Table) (t : Table) (ts : List Table) → lower t ds ≡ true → named (ds ++ t ∷ ts) ≡ true → are_below (row_of (entry places first t)).key (map row_of (map (entry places first) ds)) ≡ true
  rows_below [] t ts h k = refl
  rows_below (d ∷ ds) t ts h k =
      let more = and_second (is_name d.name.ns) (named (ds ++ t ∷ ts)) k in
      and_both (is_lt (key_cmp (row_of (entry places first d)).key (row_of (entry places first t)).key)) (are_below (row_of (entry places first t)).key (map row_of (map (entry places first) ds)))
      (ap is_lt (key_order (entry places first d) (entry places first t) (and_first (is_name d.name.ns) (named (ds ++ t ∷ ts)) k) (named_at ds t ts more)) ∙ and_first (is_lt (table_cmp d.name t.name)) (lower t ds) h)
      (rows_below ds t ts (and_second (is_lt (table_cmp d.name t.name)) (lower t ds) h) more)

---- the puts one after the other

not_full : {X : Type 0} (known : List Entry) (e : Entry) → is_full known e ≡ true → (is_coordinators e || nat_lt (open_count known) 64) ≡ true → X
not_full known e h k =
    no_room (is_coordinators e) (nat_lt (open_count known) 64) (and_second (not (has_entry known e.table.name)) (not (is_coordinators e) && not (nat_lt (open_count known) 64)) h) k
  where
    no_room : {X : Type 0} (a b : Bool) → (not a && not b) ≡ true → (a || b) ≡ true → X
    no_room true b h k = absurd (let e : false ≡ true = h in cc)
    no_room false true h k = absurd (let e : false ≡ true = h in cc)
    no_room false false h k = absurd (let e : false ≡ true = k in cc)

abbrev tables : List Line → List Table
tables ls = map (λ (l : Line). l.table) ls

module _ (names : List (List ℕ)) (places : List Place) (first : List ℕ) where
  abbrev entries : List Table → List Entry
  entries ts = map (entry places first) ts

  -- what one line leaves
  one_line : (ds : List Table) (t : Table) (ts : List Table) (o : Outcome) (old : Attached) (new : List StoreView) → old.known 0 → IsWritten (entries ds) (entry places first t) o old new → rows_of old.views ≡ map row_of (entries ds) → rises (ds ++ t ∷ ts) ≡ true → named (ds ++ t ∷ ts) ≡ true
      → (is_coordinators (entry places first t) || nat_lt (open_count (entries ds)) 64) ≡ true → (rows_of new ≡ map row_of (entries (ds ++ t ∷ []))) × (grown (entries ds) (entry places first t) o ≡ entries (ds ++ t ∷ []))
  one_line ds t ts o old new told0 h is up good room =
      let low : are_below (row_of (entry places first t)).key (rows_of old.views) ≡ true =
      ap (are_below (row_of (entry places first t)).key) is ∙ rows_below places first ds t ts (earlier_lower ds t ts up) good in
      elim o as (λ (o : Outcome). IsWritten (entries ds) (entry places first t) o old new → (rows_of new ≡ map row_of (entries (ds ++ t ∷ []))) × (grown (entries ds) (entry places first t) o ≡ entries (ds ++ t ∷ []))) [
        | outcome.Created ↦ λ k.
            let more : entries (ds ++ t ∷ []) ≡ entries ds ++ entry places first t ∷ [] = map-append (entry places first) ds (t ∷ []) in
            (row_added (entry places first t) old new told0 k.1 low ∙ ap (λ (rs : List Record). rs ++ row_of (entry places first t) ∷ []) is ∙ sym (ap (map row_of) more ∙ map-append row_of (entries ds) (entry places first t ∷ [])), sym more)
        | outcome.Exists ↦ λ k. not_unmet (entry places first t) k.1.0 old new told0 k.1.1 low
        | outcome.Differs ↦ λ k. not_unmet (entry places first t) k.1.0 old new told0 k.1.1 low
        | outcome.Full ↦ λ k. not_full (entries ds) (entry places first t) k.0 room
      ] h

  pub lines_kept : (ds : List Table) (ls : List Line) (old : Attached) (new : List StoreView) → old.known 0 → AreWritten places first (entries ds) ls old new → rows_of old.views ≡ map row_of (entries ds) → rises (ds ++ tables ls) ≡ true → named (ds ++ tables ls) ≡ true → Follow names (entries ds) (entries (tables ls))
      → rows_of new ≡ map row_of (entries (ds ++ tables ls))
  lines_kept ds [] old new told0 h is up good follow = ap rows_of h ∙ is ∙ ap (λ (ts : List Table). map row_of (entries ts)) (sym (append-nil ds))
  lines_kept ds (l ∷ ls) old new told0 h is up good follow =
      let t = l.table in
      let ts = tables ls in
      let same = entry_same places first ds t in
      let now : IsWritten (entries ds) (entry places first t) l.outcome old h.0 = subst (λ (e : Entry). IsWritten (entries ds) e l.outcome old h.0) same h.1 in
      let room = and_second (list_all (agrees (entry places first t)) (entries ds)) (is_coordinators (entry places first t) || nat_lt (open_count (entries ds)) 64) follow.0.1 in
      let one = one_line ds t ts l.outcome old h.0 told0 now is up good room in
      let rest : AreWritten places first (entries (ds ++ t ∷ [])) ls (with_states old h.0) new = subst (λ (es : List Entry). AreWritten places first es ls (with_states old h.0) new) (ap (λ (e : Entry). grown (entries ds) e l.outcome) same ∙ one.1) h.2 in
      let further : Follow names (entries (ds ++ t ∷ [])) (entries ts) = subst (λ (es : List Entry). Follow names es (entries ts)) (sym (map-append (entry places first) ds (t ∷ []))) follow.1 in
      lines_kept (ds ++ t ∷ []) ls (with_states old h.0) new told0 rest one.0 (ap rises (append_assoc ds (t ∷ []) ts) ∙ up) (ap named (append_assoc ds (t ∷ []) ts) ∙ good) further
      ∙ ap (λ (us : List Table). map row_of (entries us)) (append_assoc ds (t ∷ []) ts)
