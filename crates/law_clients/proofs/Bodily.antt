-- What a transaction has read stays what its statements noted.
use Rattle.std.proofs.Common.{◌≡◌, ℕ, ℤ, Bool, true, false, List, [], ◌∷◌, ◌++◌, map, refl, sym, ap, subst, ◌∙◌, ◌⊎◌, inl, inr}
use Rattle.std.specs.Prelude.{Contains, ◌↔◌, filter, if◌then◌else◌}
use Rattle.std.specs.List.{AllByRecursion, flat_map}
use Rattle.std.proofs.lemmas.List.Concat.{flat_map-append}
use Rattle.std.proofs.lemmas.List.Elements.{Contains-append_left, Contains-push, filter-append}
use Rattle.law_clients.specs.Types.{Access, Event, Record}
use Rattle.sdb_model.specs.Calls.{calls_of}
use Rattle.sdb_model.specs.ReadSet.{ReadItem, KeyRead, SpanRead, has_finished, has_read, read_set_of, read_items}
use Rattle.sdb_model.specs.Transactions.{Executed, client_of, statements_inside}
use Rattle.law_protocol.specs.Plan.{Plan}
use Rattle.law_protocol.specs.Lawful.{id}
use Rattle.sdb_snapshot.specs.Seen.{Seen, nothing}
use Rattle.law_clients.specs.Reads.{with_read, work_of}
use Rattle.law_clients.specs.Owner.{plan_of}
use Rattle.law_clients.specs.Calls.{IsReadSetIn, ReadsNothing, RecordsRead, WasAnswered, read_item_with, read_items_by}
use Rattle.law_clients.specs.Left.{AreReads, reads_and_scans}
use Rattle.law_clients.proofs.Notes.{last_cases, read_adds}
use Rattle.law_clients.proofs.Since.{calls_stay}
use Rattle.std.proofs.lemmas.List.{append-nil as no_more}

-- what one statement noted
abbrev one_noted : List Event → ℕ → Executed → List ReadItem
one_noted events c s = if has_read events c s then read_items (calls_of events c s) else []

noted_more : (events : List Event) (c : ℕ) (ss : List Executed) (s : Executed) → read_items_by events c (ss ++ s ∷ []) ≡ read_items_by events c ss ++ one_noted events c s
noted_more events c ss s =
    ap (flat_map (λ x. read_items (calls_of events c x))) (filter-append (has_read events c) ss (s ∷ []))
    ∙ flat_map-append (λ x. read_items (calls_of events c x)) (filter (has_read events c) ss) (filter (has_read events c) (s ∷ []))
    ∙ ap (λ ns. read_items_by events c ss ++ ns) (by (has_read events c s))
  where
    by : (b : Bool) → flat_map (λ x. read_items (calls_of events c x)) (if b then s ∷ [] else []) ≡ (if b then read_items (calls_of events c s) else [])
    by true = no_more (read_items (calls_of events c s))
    by false = refl

noted_stay : (events : List Event) (c : ℕ) (ss : List Executed) (e : Event) → AllByRecursion (WasAnswered events) ss → read_items_by (events ++ e ∷ []) c ss ≡ read_items_by events c ss
noted_stay events c [] e was = refl
noted_stay events c (x ∷ ss) e was = ap (λ b. flat_map (λ s. read_items (calls_of (events ++ e ∷ []) c s)) (if b then x ∷ filter (has_read (events ++ e ∷ []) c) ss else filter (has_read (events ++ e ∷ []) c) ss)) finished ∙ by (has_read events c x) (noted_stay events c ss e was.1)
  where
    finished : has_read (events ++ e ∷ []) c x ≡ has_read events c x
    finished = ap (λ ms. has_finished ms x) (calls_stay events c x e was.0)

    by : (b : Bool) → read_items_by (events ++ e ∷ []) c ss ≡ read_items_by events c ss
        → flat_map (λ s. read_items (calls_of (events ++ e ∷ []) c s)) (if b then x ∷ filter (has_read (events ++ e ∷ []) c) ss else filter (has_read (events ++ e ∷ []) c) ss) ≡ flat_map (λ s. read_items (calls_of events c s)) (if b then x ∷ filter (has_read events c) ss else filter (has_read events c) ss)
    by true ih = ap (λ ms. read_items ms ++ read_items_by (events ++ e ∷ []) c ss) (calls_stay events c x e was.0) ∙ ap (λ r. read_items (calls_of events c x) ++ r) ih
    by false ih = ih

pub noted_starts : (events : List Event) (c : ℕ) → IsReadSetIn events c [] nothing
noted_starts events c n = (λ h. h, λ h. h)

pub noted_later : (events : List Event) (c : ℕ) (ss : List Executed) (seen : Seen) (e : Event) → AllByRecursion (WasAnswered events) ss → IsReadSetIn events c ss seen → IsReadSetIn (events ++ e ∷ []) c ss seen
noted_later events c ss seen e was ok n = (λ h. subst (λ xs. Contains xs n) (sym (noted_stay events c ss e was)) ((ok n).0 h), λ h. (ok n).1 (subst (λ xs. Contains xs n) (noted_stay events c ss e was) h))

unread : (b : Bool) → ◌≡◌ {A = List ReadItem} (if b then [] else []) []
unread true = refl
unread false = refl

pub noted_nothing : (events : List Event) (c : ℕ) (ss : List Executed) (seen : Seen) (s : Executed) → ReadsNothing events c s → IsReadSetIn events c ss seen → IsReadSetIn events c (ss ++ s ∷ []) seen
noted_nothing events c ss seen s none ok = subst (λ xs. (n : ReadItem) → Contains (map KeyRead seen.reads ++ map SpanRead seen.scans) n ↔ Contains xs n) (sym (noted_more events c ss s ∙ ap (λ xs. read_items_by events c ss ++ xs) (empty none) ∙ no_more (read_items_by events c ss))) ok
  where
    empty : ReadsNothing events c s → one_noted events c s ≡ []
    empty (inl e) = ap (λ b. if b then read_items (calls_of events c s) else []) e
    empty (inr e) = ap (λ ns. if has_read events c s then ns else []) e ∙ unread (has_read events c s)

pub noted_read : (events : List Event) (c : ℕ) (ss : List Executed) (seen : Seen) (s : Executed) (a : Access) (images : List Record) → RecordsRead events c s a images → IsReadSetIn events c ss seen → IsReadSetIn events c (ss ++ s ∷ []) (with_read seen a images)
noted_read events c ss seen s a images reads ok n = by (read_adds (record { 0 = 0 }) (Rattle.std.specs.Prelude.pos 0) seen a images n)
  where
    said_is : read_items_by events c (ss ++ s ∷ []) ≡ read_items_by events c ss ++ read_item_with a images ∷ []
    said_is = noted_more events c ss s ∙ ap (λ xs. read_items_by events c ss ++ xs) (ap (λ b. if b then read_items (calls_of events c s) else []) reads.finished ∙ reads.read_set)

    into : Contains (map KeyRead seen.reads ++ map SpanRead seen.scans) n ⊎ (n ≡ read_item_with a images) → Contains (read_items_by events c (ss ++ s ∷ [])) n
    into (inl h) = subst (λ xs. Contains xs n) (sym said_is) (Contains-append_left (read_items_by events c ss) (read_item_with a images ∷ []) n ((ok n).0 h))
    into (inr e) = subst (λ xs. Contains xs n) (sym said_is) (subst (Contains (read_items_by events c ss ++ read_item_with a images ∷ [])) (sym e) (Contains-push (read_items_by events c ss) (read_item_with a images)))

    out : Contains (read_items_by events c ss) n ⊎ (n ≡ read_item_with a images) → Contains (map KeyRead seen.reads ++ map SpanRead seen.scans) n ⊎ (n ≡ read_item_with a images)
    out (inl h) = inl ((ok n).1 h)
    out (inr e) = inr e

    by : Contains (reads_and_scans (work_of (record { 0 = 0 }) (Rattle.std.specs.Prelude.pos 0) (with_read seen a images))) n ↔ (Contains (map KeyRead seen.reads ++ map SpanRead seen.scans) n ⊎ (n ≡ read_item_with a images)) → Contains (map KeyRead (with_read seen a images).reads ++ map SpanRead (with_read seen a images).scans) n ↔ Contains (read_items_by events c (ss ++ s ∷ [])) n
    by x = (λ h. into (x.0 h), λ h. x.1 (out (last_cases (read_items_by events c ss) (read_item_with a images) n (subst (λ xs. Contains xs n) said_is h))))

-- Of a transaction whose statements these are, the COMMIT took what they noted.
pub noted_whole : (plan : ℕ → Plan) (events : List Event) (c t : ℕ) (now : ℤ) (ss : List Executed) (seen : Seen) → client_of (id t) ≡ c → statements_inside events (id t) ≡ ss → plan t ≡ plan_of (work_of (id t) now seen) → IsReadSetIn events c ss seen → AreReads plan events (work_of (id t) now seen) t
noted_whole plan events c t now ss seen client is planned ok = record { planned = planned; as_read = λ n. (λ h. subst (λ xs. Contains xs n) (sym same) ((ok n).0 h), λ h. (ok n).1 (subst (λ xs. Contains xs n) same h)) }
  where
    same : read_set_of events (id t) ≡ read_items_by events c ss
    same = ap (λ d. flat_map (λ s. read_items (calls_of events d s)) (filter (has_read events d) (statements_inside events (id t)))) client ∙ ap (read_items_by events c) is
