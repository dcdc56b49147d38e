-- Where the ids at hand differ, each transaction has an id of its own.
use Rattle.law_clients.specs.Chain.{Chain, Exchanged, IsReached, open_of}
use Rattle.law_clients.specs.Seen.{AreImagesOf}
use Rattle.law_clients.specs.Fitting.{tables_are_well_typed}
use Rattle.sdb_client.specs.Client.{ClientAt}
use Rattle.law_clients.specs.Types.{Key, Record, Table, TxId}
use Rattle.std.proofs.Common.{◌≡◌, ◌≢◌, Bool, true, false, List, [], ◌∷◌, ◌++◌, Option, Some, None, refl, sym, ◌∙◌, subst}
use Rattle.std.specs.Prelude.{if◌then◌else◌, fold}
use Rattle.std.specs.List.{AllByRecursion}
use Rattle.sdb_types.proofs.Public.{false_true}
use Rattle.law_clients.proofs.Lists.{each_more}
use Rattle.sdb_model.specs.Exec.{Tables}
use Rattle.law_clients.specs.Database.{Database}
use Rattle.law_clients.specs.OnlyResolves.{IsApart, IsSound}
use Rattle.law_clients.specs.Session.{AreNewIds, Exchange, Part, Parts, begins, begun_ids, ends, no_parts, part_after, parts_after}
use Rattle.law_clients.proofs.SessionLaws.{AreFresh, IsOutside, begins_serial, session_at}

-- ids that differ from each other
abbrev AreDistinct : List TxId → Type 0
AreDistinct [] = Unit {0}
AreDistinct (x ∷ xs) = AllByRecursion (λ y. x ≢ y) xs × AreDistinct xs

module _ (catalog : List Table) (apart : IsApart catalog) (start : Database) (before : Tables) where
  abbrev Outside : Parts → TxId → Type 0
  Outside p id = IsOutside catalog apart start before p.ended p.opened id

  -- an exchange that begins nothing brings no id
  kept_outside : (ended : List Part) (o : Option Part) (e : Exchange) (id : TxId) → (begins e ≡ true → e.id ≢ id) → Outside (record { ended = ended; opened = o }) id → Outside (part_after ended o e) id
  kept_outside ended None e id differs x = by (begins e) refl
    where
      by : (b : Bool) → begins e ≡ b → Outside (record { ended = ended; opened = if b then Some (record { id = e.id; inside = []; last = None }) else None }) id
      by true f = (x.0, differs f)
      by false f = (x.0, tt)
  kept_outside ended (Some t) e id differs x = by (ends e)
    where
      by : (b : Bool) → Outside (if b then record { ended = ended ++ record { id = t.id; inside = t.inside; last = Some e } ∷ []; opened = None } else record { ended = ended; opened = Some (record { id = t.id; inside = t.inside ++ e ∷ []; last = None }) }) id
      by true = (each_more (λ (y : Part). y.id ≢ id) ended (record { id = t.id; inside = t.inside; last = Some e }) x.0 x.1, tt)
      by false = x

  kept_all : (p : Parts) (e : Exchange) (ids : List TxId) → (begins e ≡ true → AllByRecursion (λ id. e.id ≢ id) ids) → AllByRecursion (Outside p) ids → AllByRecursion (Outside (parts_after p e)) ids
  kept_all p e [] differs x = tt
  kept_all p e (id ∷ ids) differs x = (kept_outside p.ended p.opened e id (λ f. (differs f).0) x.0, kept_all p e ids (λ f. (differs f).1) x.1)

  fresh_all : (p : Parts) (es : List Exchange) → AllByRecursion (Outside p) (begun_ids es) → AreDistinct (begun_ids es) → AreFresh catalog apart start before p es
  fresh_all p [] x d = tt
  fresh_all p (e ∷ es) x d = by (begins e) refl x d (fresh_all (parts_after p e) es)
    where
      G : Type 0
      G = AreFresh catalog apart start before p (e ∷ es)

      by : (b : Bool) → begins e ≡ b → AllByRecursion (Outside p) (if b then e.id ∷ begun_ids es else begun_ids es) → AreDistinct (if b then e.id ∷ begun_ids es else begun_ids es) → (AllByRecursion (Outside (parts_after p e)) (begun_ids es) → AreDistinct (begun_ids es) → AreFresh catalog apart start before (parts_after p e) es) → G
      by true f x d rest = ((λ _. x.0), rest (kept_all p e (begun_ids es) (λ _. d.0) x.1) d.1)
      by false f x d rest = ((λ g. false_true (sym f ∙ g)), rest (kept_all p e (begun_ids es) (λ g. false_true (sym f ∙ g)) x) d)

  none_yet : (ids : List TxId) → AllByRecursion (Outside no_parts) ids
  none_yet [] = tt
  none_yet (id ∷ ids) = ((tt, tt), none_yet ids)

  distinct_of : (ids : List TxId) → AreNewIds catalog start ids → AreDistinct ids
  distinct_of [] n = tt
  distinct_of (id ∷ ids) n = (n.1, distinct_of ids n.2)

  pub fresh_ids : (es : List Exchange) → AreNewIds catalog start (begun_ids es) → AreFresh catalog apart start before no_parts es
  fresh_ids es new = fresh_all no_parts es (none_yet (begun_ids es)) (distinct_of (begun_ids es) new)

  -- an id that no BEGIN had is none of a transaction's
  outside_of : (p : Parts) (es : List Exchange) (id : TxId) → AllByRecursion (λ x. x ≢ id) (begun_ids es) → Outside p id → Outside (fold parts_after p es) id
  outside_of p [] id a x = x
  outside_of p (e ∷ es) id a x = by (begins e) refl a (outside_of (parts_after p e) es id)
    where
      by : (b : Bool) → begins e ≡ b → AllByRecursion (λ y. y ≢ id) (if b then e.id ∷ begun_ids es else begun_ids es) → (AllByRecursion (λ y. y ≢ id) (begun_ids es) → Outside (parts_after p e) id → Outside (fold parts_after (parts_after p e) es) id) → Outside (fold parts_after p (e ∷ es)) id
      by true f a rest = rest a.1 (kept_outside p.ended p.opened e id (λ _. a.0) x)
      by false f a rest = rest a (kept_outside p.ended p.opened e id (λ g. false_true (sym f ∙ g)) x)

  -- What is so after a session: the database is sound and has plain tables that fit, and an id that was new and wasn't used is new.
  pub reached : IsSound catalog start → AreImagesOf catalog start before → tables_are_well_typed catalog before ≡ true → {es : List Exchange} {last : Database} → AreNewIds catalog start (begun_ids es) → Chain catalog start no_parts es last → IsReached catalog start last before es
  reached sound are_images fit {es} {last} new chain =
      let so = (session_at catalog apart start before no_parts start es last (begins_serial catalog apart start before sound are_images fit) (fresh_ids es new) chain).0 in
      record { sound = so.sound; are_images = so.are_images; fit = so.fit; unused = λ id n a. so.unused id n (outside_of no_parts es id a (tt, tt)) }

-- one statement more
pub chain_more : (catalog : List Table) (p : Parts) (g h last : Database) (es : List Exchange) {e : Exchange} {c : ClientAt} → Chain catalog g p es h → ((k : Key) (r : Record) → last k ≡ Some r → r.key ≡ k) → Exchanged catalog h (open_of (fold parts_after p es).opened) e last c → Chain catalog g p (es ++ e ∷ []) last
chain_more catalog p g h last [] {e} {c} is own x = (last, c, own, subst (λ j. Exchanged catalog j (open_of p.opened) e last c) is x, refl)
chain_more catalog p g h last (y ∷ es) {e} {c} (j, d, own_j, z, rest) own x = (j, d, own_j, z, chain_more catalog (parts_after p y) j h last es rest own x)
