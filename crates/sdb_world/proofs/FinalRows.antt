-- The tables that the recorded transactions leave one after the other fit their catalog, and the stores show their rows.
use Rattle.std.proofs.Common.{◌≡◌, inl, inr, ℕ, ◌<◌, ◌^◌, Bool, true, List, [], ◌∷◌, map, Option, Some, refl, sym, ap, subst, arith}
use Rattle.std.specs.Prelude.{◌↔◌, Contains}
use Rattle.std.specs.FinMap.{empty}
use Rattle.std.specs.List.{AllByRecursion}
use Rattle.sdb_world.specs.Types.{Event, Place, Statement, Table, TxId}
use Rattle.sdb_record.specs.declared.coordinator.Decision.TheVariants.{Committed}
use Rattle.sdb_model.specs.Events.{IsTrace, StoreContents}
use Rattle.sdb_model.specs.Catalogs.{catalog_after}
use Rattle.sdb_model.specs.Exec.{Tables}
use Rattle.sdb_model.specs.Transactions.{Recorded}
use Rattle.law_protocol.specs.Explained.{IsRunOf, newest_first}
use Rattle.law_protocol.specs.History.{History, ProtocolState}
use Rattle.law_protocol.specs.Lawful.{IsLawful, id}
use Rattle.law_protocol.specs.Serial.{IsIn}
use Rattle.law_protocol.specs.Trace.{IsTraced, StartsEmpty, closing, history}
use Rattle.law_protocol.proofs.Public.{any_key, points_differ, recorded_row, row_recorded, accepted_fits, traced_of, Whole, whole_of}
use Rattle.law_clients.specs.System.{SystemAt}
use Rattle.law_clients.proofs.Public.{executed_at, now_after, order_runs, ran_of}
use Rattle.law_clients.specs.Left.{ExecutionOk, ContainsTables, IsFitting}
use Rattle.law_clients.specs.Invariant.{RunInvariant}
use Rattle.sdb_contents.proofs.Public.{first_or_later, here_in, later_in, none_in}
use Rattle.sdb_world.proofs.Orders.{ordered}

all_in : (P : ℕ → Type 0) (ts : List ℕ) → ((t : ℕ) → IsIn t ts → P t) → AllByRecursion P ts
all_in P [] h = tt
all_in P (t ∷ ts) h = (h t (inl refl), all_in P ts (λ u k. h u (inr k)))

-- the numbers of ids
abbrev numbers : List TxId → List ℕ
numbers ids = map (λ (i : TxId). i.0) ids

in_numbers : (ids : List TxId) (i : TxId) → Contains ids i → IsIn i.0 (numbers ids)
in_numbers [] i h = absurd (none_in i h)
in_numbers (x ∷ xs) i h = elim (first_or_later x i xs h) [ inl e ↦ inl (ap (λ (y : TxId). y.0) (sym e)) | inr k ↦ inr (in_numbers xs i k) ]

of_numbers : (ids : List TxId) (t : ℕ) → IsIn t (numbers ids) → Contains ids (id t)
of_numbers [] t h = absurd h
of_numbers (x ∷ xs) t (inl e) = subst (λ (i : TxId). Contains (x ∷ xs) i) (ap id (sym e)) (here_in x xs)
of_numbers (x ∷ xs) t (inr h) = later_in x (id t) xs (of_numbers xs t h)

module _ (catalog : List Table) (fit : List Table → Tables → Bool) (events : List Event) (sys : SystemAt) (doing : ℕ → Option Statement) (g : RunInvariant catalog fit events sys doing) where
  module _ (places : List Place) (opening end : List StoreContents) (moments : List (List StoreContents)) (trace : IsTrace places events opening moments end) (nothing : StartsEmpty places opening) where
    abbrev held : List (List StoreContents)
    held = newest_first moments

    abbrev w : History
    w = history g.plan places opening g.past held

    turned : IsTraced places opening (newest_first g.labelled) held × (closing opening held ≡ end)
    turned = traced_of places opening g.labelled moments end (subst (λ es. IsTrace places es opening moments end) g.same trace)

    run : IsRunOf g.plan places opening g.past held
    run = subst (λ ps. IsRunOf g.plan places opening ps held) (sym g.turned) (record { empty = nothing; lawful = subst (IsLawful g.plan) g.turned g.system.lawful; traced = turned.0 })

    whole : Whole g.plan places w g.past (closing opening held)
    whole = whole_of g.plan places opening g.past held run

    accepted : (t : ℕ) → w.row t ≡ Some Committed → w.protocol.accepted t ≡ true
    accepted t row = grind (arith, whole.all.one.accepted t any_key 0)

    row_is : (t : ℕ) → t < 2 ^ 128 → Recorded places end (id t) → w.row t ≡ Some Committed
    row_is t small h = recorded_row g.plan places w g.past (closing opening held) t whole small (subst (λ s. Recorded places s (id t)) (sym turned.1) h)

    recorded_is : (t : ℕ) → w.row t ≡ Some Committed → (t < 2 ^ 128) × Recorded places end (id t)
    recorded_is t row =
        let small : t < 2 ^ 128 = accepted_fits w t whole.all.one.begun whole.knows.fits (accepted t row) in
        (small, subst (λ s. Recorded places s (id t)) turned.1 (row_recorded g.plan places w g.past (closing opening held) t whole small row))

    -- a list of the recorded transactions gives tables that fit, of which the stores show the rows
    pub tables_left : (ids : List TxId) → ((i : TxId) → Contains ids i → i.0 < 2 ^ 128) → ((i : TxId) → i.0 < 2 ^ 128 → Contains ids i ↔ Recorded places end i) → IsFitting catalog fit → (e : Tables) × (fit (catalog_after catalog events) e ≡ true) × ContainsTables places end e
    tables_left ids small recorded fitting =
        let o = ordered w (points_differ g.plan w whole.all) (numbers ids)
        (λ t row. let r = recorded_is t row in in_numbers ids (id t) ((recorded (id t) r.0).1 r.1))
        (λ t h. let c = of_numbers ids t h in row_is t (small (id t) c) ((recorded (id t) (small (id t) c)).0 c)) in
        let ran = all_in (λ t. ExecutionOk catalog fit g.plan g.past t (ran_of catalog fit events sys doing g t)) o.0
        (λ t h. (executed_at catalog fit events sys doing g t (subst (λ (x : ProtocolState). x.accepted t ≡ true) (sym whole.knows.talks) (accepted t ((o.1.recorded t).1 h)))).0) in
        let left = order_runs catalog fit (ran_of catalog fit events sys doing g) o.0 run o.1 ran fitting in
        (left.0, subst (λ (ts : List Table). fit ts left.0 ≡ true) (now_after catalog g.labelled g.past events g.same g.turned) left.1.fits, subst (λ s. ContainsTables places s left.0) turned.1 left.2)
