-- Over more events than one.
use Rattle.std.proofs.Common.{◌≡◌, ◌≢◌, ℕ, ◌<◌, Bool, true, false, List, [], ◌∷◌, ◌++◌, length, ◌^◌, ◌⊎◌, Option, Some, None, inl, inr, refl, sym, ap, subst, ◌∙◌, arith}
use Rattle.std.specs.Prelude.{fold}
use Rattle.std.specs.Option.{option_map, option_map_or}
use Rattle.std.specs.Result.{result_ok}
use Rattle.law_protocol.specs.Types.{Answer, Decided, Decision, Key, Place, Record}
use Rattle.sdb_record.specs.Coordinator.{coordinator_row_of, decision_in}
use Rattle.sdb_record.proofs.Public.{row-decision}
use Rattle.sdb_types.proofs.Public.{tests}
use Rattle.sdb_record.specs.declared.coordinator.Decision.TheVariants.{Committed, Aborted}
use Rattle.sdb_model.specs.Events.{StoreContents, IsTrace}
use Rattle.sdb_model.specs.Tables.{is_data}
use Rattle.law_protocol.specs.Plan.{Plan, written}
use Rattle.law_protocol.specs.History.{Action, Begins, Prepares, Ack, ProtocolState, History, Standing, Final, Held, base_of, final_of, has_key, has_version, happens}
use Rattle.law_protocol.specs.Lawful.{Labelled, protocol_state, id, answer_of, is_denial, IsBadRow, IsKnownAborted, MayAnswer}
use Rattle.law_protocol.specs.Trace.{closing, IsTraced, has_effect, after_end, history}
use Rattle.law_protocol.specs.Records.{record_left_by, record_for, row_for}
use Rattle.law_protocol.specs.Explained.{IsRunOf, RowsFinal, IsAnsweredCommitted, IsDenied, StoodBefore, newest_first, events_of}
use Rattle.law_protocol.proofs.Allowed.{Allowed}
use Rattle.law_protocol.proofs.Small.{accepted_stays, row_kept, point_fixed}
use Rattle.law_protocol.proofs.Seen.{All, closed_still}
use Rattle.law_protocol.proofs.Known.{held_before, moment_stays, row_stays, accepted_fits}
use Rattle.law_protocol.proofs.Settled.{Knows, committed_of, aborted_of}
use Rattle.law_protocol.proofs.Moves.{Moves}
use Rattle.law_protocol.proofs.Whole.{Whole, whole, moves}

pub whole_of : (plan : ℕ → Plan) (places : List Place) (opening : List StoreContents) (past : List Labelled) (ss : List (List StoreContents)) → IsRunOf plan places opening past ss → Whole plan places (history plan places opening past ss) past (closing opening ss)
whole_of plan places opening past ss r = whole plan places opening past ss r.empty r.lawful r.traced

-- what each part keeps, each event keeps
pub one_more : (plan : ℕ → Plan) (places : List Place) (opening : List StoreContents) (p : Labelled) (past : List Labelled) (s : List StoreContents) (ss : List (List StoreContents)) (P : History → Type 0)
    → ((w : History) (r : Action) (done : Bool) → All plan w → Allowed plan w r done → P w → P (happens plan w r done))
    → ((w : History) (t : ℕ) → P w → P (after_end plan w (Some t)))
    → IsRunOf plan places opening (p ∷ past) (s ∷ ss) → P (history plan places opening past ss) → P (history plan places opening (p ∷ past) (s ∷ ss))
one_more plan places opening p past s ss P stable closes r h = over p.ends
  where
    i : Whole plan places (history plan places opening past ss) past (closing opening ss)
    i = whole plan places opening past ss r.empty r.lawful.0 r.traced.0

    done : Bool
    done = has_effect places p.event (closing opening ss) s

    m : Moves plan places (history plan places opening past ss) p.action (has_effect places p.event (closing opening ss) s) s
    m = moves plan places (history plan places opening past ss) past p.event (closing opening ss) s p.action (has_effect places p.event (closing opening ss) s) i.knows i.held r.traced.1 refl r.lawful.1

    next : P (happens plan (history plan places opening past ss) p.action (has_effect places p.event (closing opening ss) s))
    next = stable (history plan places opening past ss) p.action (has_effect places p.event (closing opening ss) s) i.all m.allowed h

    over : (ends : Option ℕ) → P (after_end plan (happens plan (history plan places opening past ss) p.action (has_effect places p.event (closing opening ss) s)) ends)
    over None = next
    over (Some t) = closes (happens plan (history plan places opening past ss) p.action (has_effect places p.event (closing opening ss) s)) t next

pub earlier_run : (plan : ℕ → Plan) (places : List Place) (opening : List StoreContents) (p : Labelled) (past : List Labelled) (s : List StoreContents) (ss : List (List StoreContents)) → IsRunOf plan places opening (p ∷ past) (s ∷ ss) → IsRunOf plan places opening past ss
earlier_run plan places opening p past s ss r = record { empty = r.empty; lawful = r.lawful.0; traced = r.traced.0 }

pub lasts : (plan : ℕ → Plan) (places : List Place) (opening : List StoreContents) (later past : List Labelled) (more ss : List (List StoreContents)) (P : History → Type 0)
    → ((w : History) (r : Action) (done : Bool) → All plan w → Allowed plan w r done → P w → P (happens plan w r done))
    → ((w : History) (t : ℕ) → P w → P (after_end plan w (Some t)))
    → length later ≡ length more → IsRunOf plan places opening (later ++ past) (more ++ ss) → P (history plan places opening past ss) → P (history plan places opening (later ++ past) (more ++ ss))
lasts plan places opening [] past [] ss P stable closes e r h = h
lasts plan places opening [] past (s ∷ more) ss P stable closes e r h = absurd (omega arith)
lasts plan places opening (p ∷ later) past [] ss P stable closes e r h = absurd (omega arith)
lasts plan places opening (p ∷ later) past (s ∷ more) ss P stable closes e r h =
    one_more plan places opening p (later ++ past) s (more ++ ss) P stable closes r (lasts plan places opening later past more ss P stable closes (omega arith) (earlier_run plan places opening p (later ++ past) s (more ++ ss) r) h)

pub front_run : (plan : ℕ → Plan) (places : List Place) (opening : List StoreContents) (later past : List Labelled) (more ss : List (List StoreContents)) → length later ≡ length more → IsRunOf plan places opening (later ++ past) (more ++ ss) → IsRunOf plan places opening past ss
front_run plan places opening [] past [] ss e r = r
front_run plan places opening [] past (s ∷ more) ss e r = absurd (omega arith)
front_run plan places opening (p ∷ later) past [] ss e r = absurd (omega arith)
front_run plan places opening (p ∷ later) past (s ∷ more) ss e r = front_run plan places opening later past more ss (omega arith) (earlier_run plan places opening p (later ++ past) s (more ++ ss) r)

---- rows

pub rows_final : (plan : ℕ → Plan) (places : List Place) (opening : List StoreContents) (later past : List Labelled) (more ss : List (List StoreContents)) → length later ≡ length more → IsRunOf plan places opening (later ++ past) (more ++ ss) → RowsFinal places (closing opening ss) (closing opening (more ++ ss))
rows_final plan places opening later past more ss e r t row fits h =
    let before = whole_of plan places opening past ss (front_run plan places opening later past more ss e r) in
    let now = whole_of plan places opening (later ++ past) (more ++ ss) r in
    now.held.rows t fits ∙ lasts plan places opening later past more ss (λ w. row_for w t ≡ Some row) (λ w x done i a y. row_stays w (happens plan w x done) t row (moment_stays plan w x done t a) y) (λ w u h. h) e r (sym (before.held.rows t fits) ∙ h)

---- what clients are answered

pub told_recorded : (plan : ℕ → Plan) (places : List Place) (opening : List StoreContents) (past : List Labelled) (ss : List (List StoreContents)) (t : ℕ) → IsRunOf plan places opening past ss → IsAnsweredCommitted past t → (history plan places opening past ss).row t ≡ Some Committed
told_recorded plan places opening [] ss t r answered = absurd answered
told_recorded plan places opening (p ∷ past) [] t r answered = absurd r.traced
told_recorded plan places opening (p ∷ past) (s ∷ ss) t r (inl h) =
    let m : MayAnswer plan past p = r.lawful.2 h.0 in
    let before = whole plan places opening past ss r.empty r.lawful.0 r.traced.0 in
    let now = whole_of plan places opening (p ∷ past) (s ∷ ss) r in
    let fits = accepted_fits (history plan places opening past ss) m.t before.all.one.begun before.knows.fits (subst (λ (x : Rattle.law_protocol.specs.History.ProtocolState). x.accepted m.t ≡ true) before.knows.talks m.accepted) in
    subst (λ x. (history plan places opening (p ∷ past) (s ∷ ss)).row x ≡ Some Committed) (some_is m.t t (sym m.ends ∙ h.1)) (committed_of plan (history plan places opening (p ∷ past) (s ∷ ss)) (p ∷ past) m.t m.moment now.knows fits m.known).0
  where
    some_is : (a b : ℕ) → Some a ≡ Some b → a ≡ b
    some_is a b e = ap (λ o. Rattle.std.specs.Prelude.unwrap_or o 0) e
told_recorded plan places opening (p ∷ past) (s ∷ ss) t r (inr h) =
    one_more plan places opening p past s ss (λ w. w.row t ≡ Some Committed) (λ w x done i a y. row_kept plan w x done t Committed a y) (λ w u h. h) r (told_recorded plan places opening past ss t (earlier_run plan places opening p past s ss r) h)

-- recorded before another began
abbrev Before : History → ℕ → ℕ → Type 0
Before w t u = (w.row t ≡ Some Committed) × (w.protocol.point t < w.protocol.begun u)

before_kept : (plan : ℕ → Plan) (t u : ℕ) (w : History) (r : Action) (done : Bool) → All plan w → Allowed plan w r done → (w.row t ≡ Some Committed) × (w.protocol.point t < w.protocol.begun u) → ((happens plan w r done).row t ≡ Some Committed) × ((happens plan w r done).protocol.point t < (happens plan w r done).protocol.begun u)
before_kept plan t u w r done i a b = (row_kept plan w r done t Committed a b.0, below (point_fixed plan w r done t i.one.decided i.one.accepted a b.0) (fixed b.1))
  where
    fixed : w.protocol.point t < w.protocol.begun u → (happens plan w r done).protocol.begun u ≡ w.protocol.begun u
    fixed l = grind (arith, tests, a)

    below : (happens plan w r done).protocol.point t ≡ w.protocol.point t → (happens plan w r done).protocol.begun u ≡ w.protocol.begun u → (happens plan w r done).protocol.point t < (happens plan w r done).protocol.begun u
    below p g = let l = b.1 in omega arith

at_begin : (plan : ℕ → Plan) (w : History) (t u c : ℕ) (done : Bool) (ends : Option ℕ) → All plan w → w.row t ≡ Some Committed → ((after_end plan (happens plan w (Begins u c) done) ends).row t ≡ Some Committed) × ((after_end plan (happens plan w (Begins u c) done) ends).protocol.point t < (after_end plan (happens plan w (Begins u c) done) ends).protocol.begun u)
at_begin plan w t u c done None i h = grind (arith, tests, i.one.point t)
at_begin plan w t u c done (Some e) i h = grind (arith, tests, i.one.point t)

-- Who was answered Committed before another began is before it.
pub real_time : (plan : ℕ → Plan) (places : List Place) (opening : List StoreContents) (later past : List Labelled) (p : Labelled) (more ss : List (List StoreContents)) (s : List StoreContents) (t u c : ℕ) → length later ≡ length more → IsRunOf plan places opening (later ++ p ∷ past) (more ++ s ∷ ss)
    → IsAnsweredCommitted past t → p.action ≡ Begins u c → (history plan places opening (later ++ p ∷ past) (more ++ s ∷ ss)).row u ≡ Some Committed
    → (history plan places opening (later ++ p ∷ past) (more ++ s ∷ ss)).protocol.point t < (history plan places opening (later ++ p ∷ past) (more ++ s ∷ ss)).protocol.point u
real_time plan places opening later past p more ss s t u c e r answered begins row = order (history plan places opening (later ++ p ∷ past) (more ++ s ∷ ss)) (whole_of plan places opening (later ++ p ∷ past) (more ++ s ∷ ss) r).all row (lasts plan places opening later (p ∷ past) more (s ∷ ss) (λ w. Before w t u) (before_kept plan t u) (λ w v h. h) e r here)
  where
    at : IsRunOf plan places opening (p ∷ past) (s ∷ ss)
    at = front_run plan places opening later (p ∷ past) more (s ∷ ss) e r

    before : Whole plan places (history plan places opening past ss) past (closing opening ss)
    before = whole plan places opening past ss at.empty at.lawful.0 at.traced.0

    here : Before (history plan places opening (p ∷ past) (s ∷ ss)) t u
    here = subst (λ x. Before (after_end plan (happens plan (history plan places opening past ss) x (has_effect places p.event (closing opening ss) s)) p.ends) t u) (sym begins) (at_begin plan (history plan places opening past ss) t u c (has_effect places p.event (closing opening ss) s) p.ends before.all (told_recorded plan places opening past ss t (earlier_run plan places opening p past s ss at) answered))

    order : (w : History) → All plan w → w.row u ≡ Some Committed → Before w t u → w.protocol.point t < w.protocol.point u
    order w i h b = less b.1 ((i.one.begun u).1 (accepted h)).1
      where
        accepted : w.row u ≡ Some Committed → w.protocol.accepted u ≡ true
        accepted h = grind (arith, i.one.accepted u Rattle.law_protocol.proofs.Small.any_key 0)

        less : w.protocol.point t < w.protocol.begun u → w.protocol.begun u < w.protocol.point u → w.protocol.point t < w.protocol.point u
        less a b = omega arith

---- under a prepare

pub stood_before : (plan : ℕ → Plan) (places : List Place) (opening : List StoreContents) (past : List Labelled) (p : Labelled) (ss : List (List StoreContents)) (s : List StoreContents) (t : ℕ) (ks : List Key) (k : Key) (word : Ack) → IsRunOf plan places opening (p ∷ past) (s ∷ ss) → p.action ≡ Prepares t ks word → has_key ks k ≡ true → has_effect places p.event (closing opening ss) s ≡ true → StoodBefore plan places (closing opening ss) t k
stood_before plan places opening past p ss s t ks k word r action among done =
    let i = whole plan places opening past ss r.empty r.lawful.0 r.traced.0 in
    let w = history plan places opening past ss in
    let m = moves plan places w past p.event (closing opening ss) s p.action true i.knows i.held r.traced.1 done r.lawful.1 in
    let a : Allowed plan (history plan places opening past ss) (Prepares t ks word) true = subst (λ x. Allowed plan (history plan places opening past ss) x true) action m.allowed in
    i.held.records k (outside i.knows a.0 (a.2 k among)) ∙ ap (option_map (record_for plan k)) (is_firm (w.rows k) (base_of (written (plan t) k)) (a.3 refl k among)) ∙ firm_for (base_of (written (plan t) k)) ∙ sym (held_before plan t k (i.knows.planned t a.0) (a.2 k among))
  where
    outside : Knows plan (history plan places opening past ss) past → (history plan places opening past ss).protocol.accepted t ≡ true → written (plan t) k ≢ None → is_data k ≡ true
    outside knows accepted writes = ((knows.planned t accepted).write k (Rattle.law_protocol.specs.Records.write_there (plan t) k) (Rattle.law_protocol.proofs.Known.writes_it (plan t) k writes)).1

    is_firm : (x : Option Standing) (v : Option ℕ) → has_version x v ≡ true → x ≡ final_of v
    is_firm None None h = refl
    is_firm None (Some u) h = absurd (cc)
    is_firm (Some (Final x)) None h = absurd (cc)
    is_firm (Some (Final x)) (Some u) h = grind (arith, tests)
    is_firm (Some (Held x)) v h = absurd (cc)

    firm_for : (v : Option ℕ) → option_map (record_for plan k) (final_of v) ≡ option_map (λ u. record_left_by plan u k) v
    firm_for None = refl
    firm_for (Some u) = refl

---- traces of events in order

turned : (places : List Place) (opening : List StoreContents) (labelled past : List Labelled) (moments ss : List (List StoreContents)) (end : List StoreContents) → IsTraced places opening past ss → IsTrace places (events_of labelled) (closing opening ss) moments end
    → IsTraced places opening (fold (λ newer x. x ∷ newer) past labelled) (fold (λ newer x. x ∷ newer) ss moments) × (closing opening (fold (λ newer x. x ∷ newer) ss moments) ≡ end)
turned places opening [] past [] ss end t h = (t, sym h)
turned places opening [] past (m ∷ ms) ss end t h = absurd h
turned places opening (p ∷ ps) past [] ss end t h = absurd h
turned places opening (p ∷ ps) past (m ∷ ms) ss end t h = turned places opening ps (p ∷ past) ms (m ∷ ss) end (t, h.0) h.1

pub traced_of : (places : List Place) (opening : List StoreContents) (labelled : List Labelled) (moments : List (List StoreContents)) (end : List StoreContents) → IsTrace places (events_of labelled) opening moments end → IsTraced places opening (newest_first labelled) (newest_first moments) × (closing opening (newest_first moments) ≡ end)
traced_of places opening labelled moments end h = turned places opening labelled [] moments [] end tt h

---- denials

-- never to be recorded
abbrev Lost : History → ℕ → Type 0
Lost w t = (w.row t ≡ Some Aborted) ⊎ ((w.protocol.accepted t ≡ true) × (w.protocol.is_open t ≡ false) × (w.protocol.risked t ≡ false) × (w.row t ≢ Some Committed))

lost_kept : (plan : ℕ → Plan) (t : ℕ) (w : History) (r : Action) (done : Bool) → All plan w → Allowed plan w r done → Lost w t → Lost (happens plan w r done) t
lost_kept plan t w r done i a (inl h) = inl (row_kept plan w r done t Aborted a h)
lost_kept plan t w r done i a (inr h) = inr (closed h.0 h.1 h.2 h.3)
  where
    closed : w.protocol.accepted t ≡ true → w.protocol.is_open t ≡ false → w.protocol.risked t ≡ false → w.row t ≢ Some Committed → ((happens plan w r done).protocol.accepted t ≡ true) × ((happens plan w r done).protocol.is_open t ≡ false) × ((happens plan w r done).protocol.risked t ≡ false) × ((happens plan w r done).row t ≢ Some Committed)
    closed accepted is_closed risked row = grind (arith, tests, a, i.one.begun t)

lost_closed : (plan : ℕ → Plan) (t : ℕ) (w : History) (u : ℕ) → Lost w t → Lost (after_end plan w (Some u)) t
lost_closed plan t w u (inl h) = inl h
lost_closed plan t w u (inr h) = inr (h.0, closed_still w.protocol.is_open u t h.1, h.2, h.3)

lost_row : (w : History) (t : ℕ) → Lost w t → w.row t ≢ Some Committed
lost_row w t (inl h) e = absurd (grind arith)
lost_row w t (inr h) e = h.3 e

ended_is_closed : (plan : ℕ → Plan) (w : History) (t : ℕ) (ends : Option ℕ) → ends ≡ Some t → w.protocol.accepted t ≡ true → ((after_end plan w ends).protocol.accepted t ≡ true) × ((after_end plan w ends).protocol.is_open t ≡ false)
ended_is_closed plan w t None e h = absurd (cc)
ended_is_closed plan w t (Some u) e h = grind (arith, tests)

bad_row : (plan : ℕ → Plan) (places : List Place) (w : History) (past : List Labelled) (store_contents : List StoreContents) (t : ℕ) → Whole plan places w past store_contents → t < 2 ^ 128 → IsBadRow past t → ⊥
bad_row plan places w past store_contents t i fits b = by (w.row t) refl ((i.knows.observed b.row b.observed).row t fits b.key)
  where
    some_is : (x y : Record) → Some x ≡ Some y → y ≡ x
    some_is x y e = cc

    none : (d : Decided) → ◌≡◌ {A = Option Decided} None (Some d) → ⊥
    none d e = cc

    by : (o : Option Decision) → w.row t ≡ o → option_map (λ d. coordinator_row_of (id t) d (w.moment t)) o ≡ Some b.row → ⊥
    by None e f = absurd (cc)
    by (Some d) e f = none (record { decision = d; created_at = w.moment t }) (sym b.bad ∙ ap (λ x. result_ok (decision_in x)) (some_is _ _ f) ∙ ap result_ok (row-decision (id t) d (w.moment t) fits ((i.knows.moments t).some (λ n. apart (sym e ∙ n)))))
      where
        apart : Some d ≡ None → ⊥
        apart x = absurd (cc)

denied_lost : (plan : ℕ → Plan) (places : List Place) (opening : List StoreContents) (past : List Labelled) (p : Labelled) (s : List StoreContents) (ss : List (List StoreContents)) (t : ℕ) → IsRunOf plan places opening (p ∷ past) (s ∷ ss) → p.ends ≡ Some t → (protocol_state past).accepted t ≡ true
    → (IsKnownAborted (p ∷ past) t ⊎ ((protocol_state (p ∷ past)).risked t ≡ false) ⊎ IsBadRow (p ∷ past) t) → Lost (history plan places opening (p ∷ past) (s ∷ ss)) t
denied_lost plan places opening past p s ss t r ends accepted why = by why
  where
    before : Whole plan places (history plan places opening past ss) past (closing opening ss)
    before = whole plan places opening past ss r.empty r.lawful.0 r.traced.0

    now : Whole plan places (history plan places opening (p ∷ past) (s ∷ ss)) (p ∷ past) s
    now = whole_of plan places opening (p ∷ past) (s ∷ ss) r

    was_taken : (history plan places opening past ss).protocol.accepted t ≡ true
    was_taken = subst (λ (x : ProtocolState). x.accepted t ≡ true) before.knows.talks accepted

    fits : t < 2 ^ 128
    fits = accepted_fits (history plan places opening past ss) t before.all.one.begun before.knows.fits was_taken

    closed : ((history plan places opening (p ∷ past) (s ∷ ss)).protocol.accepted t ≡ true) × ((history plan places opening (p ∷ past) (s ∷ ss)).protocol.is_open t ≡ false)
    closed = ended_is_closed plan (happens plan (history plan places opening past ss) p.action (has_effect places p.event (closing opening ss) s)) t p.ends ends (accepted_stays plan (history plan places opening past ss) p.action (has_effect places p.event (closing opening ss) s) t was_taken)

    unrisked : (history plan places opening (p ∷ past) (s ∷ ss)).protocol.risked t ≡ false → (history plan places opening (p ∷ past) (s ∷ ss)).row t ≢ Some Committed
    unrisked n e = absurd (clash (sym (now.all.one.decided t e).risked ∙ n))
      where
        clash : true ≡ false → ⊥
        clash x = cc

    by : (IsKnownAborted (p ∷ past) t ⊎ ((protocol_state (p ∷ past)).risked t ≡ false) ⊎ IsBadRow (p ∷ past) t) → Lost (history plan places opening (p ∷ past) (s ∷ ss)) t
    by (inl a) = inl (aborted_of plan (history plan places opening (p ∷ past) (s ∷ ss)) (p ∷ past) t now.knows fits a)
    by (inr (inl n)) = let m = subst (λ (x : ProtocolState). x.risked t ≡ false) now.knows.talks n in inr (closed.0, closed.1, m, unrisked m)
    by (inr (inr b)) = absurd (bad_row plan places (history plan places opening (p ∷ past) (s ∷ ss)) (p ∷ past) s t now fits b)

denied_is_lost : (plan : ℕ → Plan) (places : List Place) (opening : List StoreContents) (past : List Labelled) (ss : List (List StoreContents)) (t : ℕ) → IsRunOf plan places opening past ss → IsDenied past t → Lost (history plan places opening past ss) t
denied_is_lost plan places opening [] ss t r d = absurd d
denied_is_lost plan places opening (p ∷ past) [] t r d = absurd r.traced
denied_is_lost plan places opening (p ∷ past) (s ∷ ss) t r (inl h) = denied_lost plan places opening past p s ss t r h.1 h.2 (why (answer_of p.event) refl h.0)
  where
    why : (o : Option Answer) → answer_of p.event ≡ o → option_map_or is_denial o false ≡ true → (IsKnownAborted (p ∷ past) t ⊎ ((protocol_state (p ∷ past)).risked t ≡ false) ⊎ IsBadRow (p ∷ past) t)
    why None e d = absurd (cc)
    why (Some a) e d = r.lawful.3 a e d t h.1 h.2
denied_is_lost plan places opening (p ∷ past) (s ∷ ss) t r (inr h) = one_more plan places opening p past s ss (λ w. Lost w t) (lost_kept plan t) (lost_closed plan t) r (denied_is_lost plan places opening past ss t (earlier_run plan places opening p past s ss r) h)

pub denied_never_recorded : (plan : ℕ → Plan) (places : List Place) (opening : List StoreContents) (past : List Labelled) (ss : List (List StoreContents)) (t : ℕ) → IsRunOf plan places opening past ss → IsDenied past t → (history plan places opening past ss).row t ≢ Some Committed
denied_never_recorded plan places opening past ss t r d = lost_row (history plan places opening past ss) t (denied_is_lost plan places opening past ss t r d)
