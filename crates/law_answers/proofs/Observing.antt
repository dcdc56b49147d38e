-- Each call of a read keeps what its calls showed of the records that it found.
use Rattle.std.proofs.Common.{◌≡◌, ◌⊎◌, inl, inr, ℕ, ℤ, Bool, true, false, not, List, [], ◌∷◌, ◌++◌, map, Option, Some, None, Result, Ok, Err, refl, sym, ap, subst, ◌∙◌}
use Rattle.std.specs.Prelude.{if◌then◌else◌}
use Rattle.std.specs.List.{AllByRecursion, filter_map}
use Rattle.std.specs.Result.{result_ok}
use Rattle.std.proofs.lemmas.List.{append-nil}
use Rattle.std.proofs.lemmas.List.Elements.{Contains-append_left, Contains-push, filter_map-append}
use Rattle.law_answers.specs.Types.{Access, Condition, Decided, Decision, Key, Meta, Record, RecoverPhase, RecoverStep, Reply, Request, TxId}
use Rattle.sdb_types.specs.declared.record.Reply.TheVariants as reply
use Rattle.sdb_types.specs.declared.record.State.TheVariants as state
use Rattle.sdb_types.specs.Contents.{CanAnswer, rise, starts_after}
use Rattle.sdb_types.proofs.Public.{all_each as each_any, and_parts, some_is}
use Rattle.sdb_record.specs.declared.access.Access.TheVariants as access
use Rattle.sdb_record.specs.declared.coordinator.Decision.TheVariants as decision
use Rattle.sdb_record.specs.Coordinator.{coordinator_key_of, coordinator_row_of, decision_in, is_coordinator_table}
use Rattle.sdb_record.specs.Meta.{checked, id_in, is_in, is_moment, is_transactional, is_unresolved}
use Rattle.sdb_record.specs.Parts.{before_record}
use Rattle.sdb_record.specs.Rolls.{forward_record, image_under, undo}
use Rattle.sdb_record.proofs.Public.{forward-key, row-decision, row-key}
use Rattle.sdb_model.specs.Calls.{StoreCall, decision_in_reply, is_of_row, is_read, records_read}
use Rattle.sdb_model.specs.Events.{table_asked}
use Rattle.sdb_model.specs.ReadSet.{condition_asked, reads_rows, rolls}
use Rattle.sdb_phases.specs.declared.step.RecoverPhase.TheVariants as phase
use Rattle.sdb_phases.specs.declared.step.RecoverStep.TheVariants as steps
use Rattle.sdb_phases.specs.Recover.{recover_back, recover_forward, recover_next, recover_request_at, row_followed, is_as_found, undecided}
use Rattle.sdb_phases.proofs.Public.{by_expiry, by_row, by_rows_recover_rows as by_rows}
use Rattle.sdb_phases.specs.Work.{abort_of, look_of}
use Rattle.sdb_txn.specs.Read.{Asking, Bad, Ended, Firm, Kind, Open, ReadStage, Resolving, answered, kind_of, opened, read_pending_at, read_step, request_of, resolved, settle, settle_one}
use Rattle.law_clients.proofs.Public.{abort_rolls_none, back_rolls_to, before_key, coordinators, each_more, each_of, find_last, find_more, forward_rolls_to, IsRollTo, look_rolls_none, meta_of, read_unrolled, rolls_none_after, unrolled_more}
use Rattle.law_answers.specs.Reads.{WaitingRead}
use Rattle.law_answers.specs.Changes.{HasRead, HasObserved, IsRolledAs, IsRows, IsSettledAs, PhaseObserves, StageObserves}
use Rattle.law_answers.proofs.ReadSteps.{open_is}
use Rattle.law_answers.proofs.Rows.{asks_row, shown_is}
use Rattle.law_clients.specs.Calls.{IsUnrolled}
use Rattle.sdb_txn.proofs.Public.{held_of}

pub firm_is : (r : Record) → kind_of r ≡ Firm → is_in state.Committed r.columns ≡ true
firm_is r e = by (is_transactional r) (is_in state.Committed r.columns) (checked r.columns) refl e
  where
    by : (t s : Bool) (o : Result Meta (List ℕ)) → is_in state.Committed r.columns ≡ s → (if t then (if s then Firm else opened o) else Bad) ≡ Firm → is_in state.Committed r.columns ≡ true
    by false s o a h = absurd (cc)
    by true true o a h = a
    by true false (Err name) a h = absurd (cc)
    by true false (Ok m) a h = absurd (cc)

pub firm_checked : (r : Record) → kind_of r ≡ Firm → is_transactional r ≡ true
firm_checked r e = by (is_transactional r) refl e
  where
    by : (t : Bool) → is_transactional r ≡ t → (if t then (if is_in state.Committed r.columns then Firm else opened (checked r.columns)) else Bad) ≡ Firm → is_transactional r ≡ true
    by true a h = a
    by false a h = absurd (cc)

-- a call that is no read reads no rows
pub unread_rows : (m : StoreCall) → is_read m.request ≡ false → reads_rows m ≡ false
unread_rows m f = by (is_coordinator_table (table_asked m.request))
  where
    by : (b : Bool) → (if b then false else is_read m.request) ≡ false
    by true = refl
    by false = f

pub look_rows : (m : StoreCall) (id : TxId) → m.request ≡ look_of id → reads_rows m ≡ false
look_rows m id e = ap (λ (q : Request). if is_coordinator_table (table_asked q) then false else is_read q) e ∙ ap (λ b. if b then false else true) (coordinators id)

pub undo_unread : (c : Condition) (k : Key) (o : Option Record) → is_read (undo c k o) ≡ false
undo_unread c k None = refl
undo_unread c k (Some b) = refl

shown_stays : (calls : List StoreCall) (m : StoreCall) (id : TxId) (d : Decided) → HasObserved calls id d → HasObserved (calls ++ m ∷ []) id d
shown_stays calls m id d h = record { call = h.call; among = Contains-append_left calls (m ∷ []) h.call h.among; observed = h.observed }

settled_stay : (calls : List StoreCall) (m : StoreCall) (es : List (Record × Option Record)) → AllByRecursion (IsSettledAs calls) es → AllByRecursion (IsSettledAs (calls ++ m ∷ [])) es
settled_stay calls m es all = each_any (IsSettledAs calls) (IsSettledAs (calls ++ m ∷ [])) es (λ e h. record { key = h.key; by = by e h.by }) all
  where
    by : (e : Record × Option Record) → ((is_in state.Committed e.0.columns ≡ true) × (e.1 ≡ Some e.0)) ⊎ IsRolledAs calls e.0 e.1 → ((is_in state.Committed e.0.columns ≡ true) × (e.1 ≡ Some e.0)) ⊎ IsRolledAs (calls ++ m ∷ []) e.0 e.1
    by e (inl h) = inl h
    by e (inr h) = inr (record { id = h.id; decided = h.decided; roll = h.roll; open_still = h.open_still; writer = h.writer; observed = shown_stays calls m h.id h.decided h.observed; image = h.image; rolled = find_more (rolls e.0) calls (m ∷ []) h.roll h.rolled; puts = h.puts })

map_more : (es : List (Record × Option Record)) (e : Record × Option Record) (left : List Record) → map (λ x. x.0) (es ++ e ∷ []) ++ left ≡ map (λ x. x.0) es ++ e.0 ∷ left
map_more [] e left = refl
map_more (x ∷ es) e left = ap (λ rs. x.0 ∷ rs) (map_more es e left)

module _ (q : Request) (calls : List StoreCall) where
  -- one record more is settled
  settles_more : (images : List Record) (r : Record) (left : List Record) (o : Option Record) (h : HasRead q calls images (r ∷ left)) → IsSettledAs calls (r, o) → is_transactional r ≡ true → (more : List Record) → more ≡ images ++ filter_map (λ (e : Record × Option Record). e.1) ((r, o) ∷ []) → HasRead q calls more left
  settles_more images r left o h s checks more e = record {
    first = h.first;
    rest = h.rest;
    calls_are = h.calls_are;
    request = h.request;
    can = h.can;
    answered = h.answered;
    others = h.others;
    steps = h.steps ++ (r, o) ∷ [];
    settled = each_more (IsSettledAs calls) h.steps (r, o) h.settled s;
    transactional = each_more (λ (x : Record × Option Record). is_transactional x.0 ≡ true) h.steps (r, o) h.transactional checks;
    rows = h.rows ∙ sym (map_more h.steps (r, o) left);
    images_are = e ∙ ap (λ is. is ++ filter_map (λ (e : Record × Option Record). e.1) ((r, o) ∷ [])) h.images_are ∙ sym (filter_map-append (λ (e : Record × Option Record). e.1) h.steps ((r, o) ∷ []));
    unrolled = h.unrolled.1;
    rises = (and_parts (starts_after r.key left) (rise left) h.rises).1;
  }

  settled_shows : (images left : List Record) → HasRead q calls images left → StageObserves q calls (settle images left)
  settled_shows images [] h = h
  settled_shows images (r ∷ left) h = by (kind_of r) refl (λ k. settled_shows (images ++ r ∷ []) left (settles_more images r left (Some r) h (record { key = refl; by = inl (firm_is r k, refl) }) (firm_checked r k) (images ++ r ∷ []) refl))
    where
      by : (x : Kind) → kind_of r ≡ x → (kind_of r ≡ Firm → StageObserves q calls (settle (images ++ r ∷ []) left)) → StageObserves q calls (settle_one x images r left (settle (images ++ r ∷ []) left))
      by Firm e rest = rest e
      by (Open meta) e rest = (h, tt)
      by Bad e rest = tt

-- the image of a decision
image_is : (r : Record) (d : Decided) (w : Decision) → d.decision ≡ w → image_under r (Some d) ≡ elim w [ decision.Committed ↦ Some (forward_record r d.created_at) | decision.Aborted ↦ before_record r ]
image_is r d w e = ap (λ (x : Decision). elim x [ decision.Committed ↦ Some (forward_record r d.created_at) | decision.Aborted ↦ before_record r ]) e

module _ (q : Request) (calls : List StoreCall) (m : StoreCall) (now : ℤ) (moment : is_moment now ≡ true) where
  abbrev more : List StoreCall
  more = calls ++ m ∷ []

  ---- the rows

  asked_now : (a : Access) → q ≡ request_of a → calls ≡ [] → m.request ≡ q → CanAnswer q m.reply → IsRows m.reply → (rows : List Record) → records_read m.reply ≡ rows → rise rows ≡ true → HasRead q more [] rows
  asked_now a is none e can acked rows observed rises = record {
    first = m;
    rest = [];
    calls_are = ap (λ ms. ms ++ m ∷ []) none;
    request = e;
    can = can;
    answered = acked;
    others = tt;
    steps = [];
    settled = tt;
    transactional = tt;
    rows = observed;
    images_are = refl;
    unrolled = subst (λ ms. AllByRecursion (IsUnrolled (ms ++ m ∷ [])) rows) (sym none) (read_unrolled m rows (plainly a (e ∙ is)));
    rises = rises;
  }
    where
      plainly : (a : Access) → m.request ≡ request_of a → condition_asked m.request ≡ None
      plainly (access.Get key) k = ap condition_asked k
      plainly (access.Scan span) k = ap condition_asked k

  scan_rises : (a : Access) (rows : List Record) → CanAnswer (request_of a) (reply.Rows rows) → rise rows ≡ true
  scan_rises (access.Get key) rows can = absurd can
  scan_rises (access.Scan span) rows can = (and_parts (rise rows) _ can).0

  answered_shows : (a : Access) (r : Reply) → q ≡ request_of a → calls ≡ [] → m.request ≡ q → m.reply ≡ r → CanAnswer q m.reply → StageObserves q more (answered r)
  answered_shows a (reply.Found None) is none e f can = asked_now a is none e can (subst IsRows (sym f) tt) [] (ap records_read f) refl
  answered_shows a (reply.Found (Some row)) is none e f can = settled_shows q more [] (row ∷ []) (asked_now a is none e can (subst IsRows (sym f) tt) (row ∷ []) (ap records_read f) refl)
  answered_shows a (reply.Rows rows) is none e f can = settled_shows q more [] rows (asked_now a is none e can (subst IsRows (sym f) tt) rows (ap records_read f) (scan_rises a rows (subst (λ (x : Request). CanAnswer x (reply.Rows rows)) is (subst (CanAnswer q) f can))))
  answered_shows a reply.Applied is none e f can = tt
  answered_shows a (reply.NotMet found) is none e f can = tt
  answered_shows a (reply.NotAll place there) is none e f can = tt
  answered_shows a reply.Fault is none e f can = tt
  answered_shows a reply.NoMemory is none e f can = tt

  ---- the recovery of a record

  -- a call that rolls none of the rows
  read_more : (images left : List Record) → HasRead q calls images left → reads_rows m ≡ false → AllByRecursion (λ r. rolls r m ≡ false) left → HasRead q more images left
  read_more images left h f none = record {
    first = h.first;
    rest = h.rest ++ m ∷ [];
    calls_are = ap (λ ms. ms ++ m ∷ []) h.calls_are;
    request = h.request;
    can = h.can;
    answered = h.answered;
    others = each_more (λ (x : StoreCall). reads_rows x ≡ false) h.rest m h.others f;
    steps = h.steps;
    settled = settled_stay calls m h.steps h.settled;
    transactional = h.transactional;
    rows = h.rows;
    images_are = h.images_are;
    unrolled = unrolled_more calls m left h.unrolled none;
    rises = h.rises;
  }

  module _ (images : List Record) (rec : Record) (meta : Meta) (left : List Record) (is_open : kind_of rec ≡ Open meta) (h : HasRead q calls images (rec ∷ left)) where
    unresolved : is_unresolved rec ≡ true
    unresolved = (open_is rec meta is_open).0

    says : checked rec.columns ≡ Ok meta
    says = (open_is rec meta is_open).1

    abbrev ComesTo : RecoverPhase × RecoverStep → Type 0
    ComesTo (x, steps.More) = HasRead q more images (rec ∷ left) × PhaseObserves more meta.id x
    ComesTo (x, steps.Image o) = (is : List Record) → is ≡ images ++ filter_map (λ (e : Record × Option Record). e.1) ((rec, o) ∷ []) → HasRead q more is left
    ComesTo (x, steps.Busy id at) = Unit {0}
    ComesTo (x, steps.Faulted) = Unit {0}
    ComesTo (x, steps.BadRecord key) = Unit {0}
    ComesTo (x, steps.NoMemory) = Unit {0}

    -- the record and the rows after it are not rolled by such a call
    abbrev NoneRolled : Type 0
    NoneRolled = AllByRecursion (λ (r : Record). rolls r m ≡ false) (rec ∷ left)

    look_rolls : m.request ≡ look_of meta.id → NoneRolled
    look_rolls e = each_of (λ (r : Record). rolls r m ≡ false) (rec ∷ left) (look_rolls_none rec meta unresolved says m e)

    abort_rolls : (n : ℤ) → m.request ≡ abort_of meta.id n → NoneRolled
    abort_rolls n e = each_of (λ (r : Record). rolls r m ≡ false) (rec ∷ left) (abort_rolls_none rec meta unresolved says m n e)

    -- the call that rolls it
    read_rolled : (o : Option Record) → reads_rows m ≡ false → IsRollTo m rec o → IsSettledAs more (rec, o) → ComesTo (phase.Ended, steps.Image o)
    read_rolled o f roll s is e = record {
      first = h.first;
      rest = h.rest ++ m ∷ [];
      calls_are = ap (λ ms. ms ++ m ∷ []) h.calls_are;
      request = h.request;
      can = h.can;
      answered = h.answered;
      others = each_more (λ (x : StoreCall). reads_rows x ≡ false) h.rest m h.others f;
      steps = h.steps ++ (rec, o) ∷ [];
      settled = each_more (IsSettledAs more) h.steps (rec, o) (settled_stay calls m h.steps h.settled) s;
      transactional = each_more (λ (x : Record × Option Record). is_transactional x.0 ≡ true) h.steps (rec, o) h.transactional (and_parts (is_transactional rec) (not (is_in state.Committed rec.columns)) unresolved).0;
      rows = h.rows ∙ sym (map_more h.steps (rec, o) left);
      images_are = e ∙ ap (λ is. is ++ filter_map (λ (e : Record × Option Record). e.1) ((rec, o) ∷ [])) h.images_are ∙ sym (filter_map-append (λ (e : Record × Option Record). e.1) h.steps ((rec, o) ∷ []));
      unrolled = unrolled_more calls m left h.unrolled.1 (rolls_none_after m rec o left roll h.rises);
      rises = (and_parts (starts_after rec.key left) (rise left) h.rises).1;
    }

    shown_now : (d : Decided) → is_of_row meta.id m.request ≡ true → decision_in_reply m.request m.reply ≡ Some d → HasObserved more meta.id d
    shown_now d t e = record { call = m; among = Contains-push calls m; observed = shown_is meta.id m (Some d) t e }

    rolled_shows : (row : Record) → reads_rows m ≡ false → NoneRolled → is_of_row meta.id m.request ≡ true → decision_in_reply m.request m.reply ≡ result_ok (decision_in row) → ComesTo (row_followed meta row)
    rolled_shows row f none t executed =
        by_row meta row ComesTo
        (λ d e w. (read_more images (rec ∷ left) h f none, (d, shown_now d t (executed ∙ ap result_ok e), w, refl)))
        (λ d e w. (read_more images (rec ∷ left) h f none, (d, shown_now d t (executed ∙ ap result_ok e), w, tt)))
        (λ name e. tt)

    undecided_shows : m.request ≡ look_of meta.id → ComesTo (undecided meta now)
    undecided_shows e = by_expiry meta now ComesTo (λ is. (read_more images (rec ∷ left) h (look_rows m meta.id e) (look_rolls e), moment)) (λ is. tt)

    asked_at : (x : Request) → Some x ≡ Some m.request → m.request ≡ x
    asked_at x e = sym (some_is x m.request e)

    look_row : m.request ≡ look_of meta.id → is_of_row meta.id m.request ≡ true
    look_row e = ap (is_of_row meta.id) e ∙ asks_row meta.id (look_of meta.id) (coordinator_key_of meta.id) refl refl

    abort_row : (n : ℤ) → m.request ≡ abort_of meta.id n → is_of_row meta.id m.request ≡ true
    abort_row n e = ap (is_of_row meta.id) e ∙ asks_row meta.id (abort_of meta.id n) (coordinator_row_of meta.id decision.Aborted n).key refl (row-key meta.id decision.Aborted n)

    said_by : (x : Request) (r : Reply) → m.request ≡ x → m.reply ≡ r → decision_in_reply m.request m.reply ≡ decision_in_reply x r
    said_by x r e f = ap (λ (y : Request). decision_in_reply y m.reply) e ∙ ap (decision_in_reply x) f

    unread : (x : Request) → m.request ≡ x → is_read x ≡ false → reads_rows m ≡ false
    unread x e f = unread_rows m (ap is_read e ∙ f)

    writer : id_in rec.columns ≡ Some meta.id
    writer = (meta_of rec meta unresolved says).writer

    forwarded : (n : ℤ) → m.request ≡ recover_forward rec meta n → PhaseObserves calls meta.id (phase.Forward n) → ComesTo (phase.Ended, steps.Image (Some (forward_record rec n)))
    forwarded n e p =
        let roll = forward_rolls_to rec meta unresolved says m n e in
        read_rolled (Some (forward_record rec n)) (unread (recover_forward rec meta n) e refl) roll (record {
          key = forward-key rec n;
          by = inr (record {
            id = meta.id;
            decided = p.0;
            roll = m;
            open_still = held_of rec unresolved;
            writer = writer;
            observed = shown_stays calls m meta.id p.0 p.1;
            image = ap (λ x. Some (forward_record rec x)) (sym p.3) ∙ sym (image_is rec p.0 decision.Committed p.2);
            rolled = find_last (rolls rec) calls m h.unrolled.0 roll.rolls_it;
            puts = roll.puts;
          });
        })

    backed : m.request ≡ recover_back rec meta → PhaseObserves calls meta.id phase.Back → ComesTo (phase.Ended, steps.Image (before_record rec))
    backed e p =
        let roll = back_rolls_to rec meta unresolved says m e in
        read_rolled (before_record rec) (unread (recover_back rec meta) e (undo_unread (is_as_found meta) rec.key (before_record rec))) roll (record {
          key = before_key rec unresolved;
          by = inr (record {
            id = meta.id;
            decided = p.0;
            roll = m;
            open_still = held_of rec unresolved;
            writer = writer;
            observed = shown_stays calls m meta.id p.0 p.1;
            image = sym (image_is rec p.0 decision.Aborted p.2);
            rolled = find_last (rolls rec) calls m h.unrolled.0 roll.rolls_it;
            puts = roll.puts;
          });
        })

    recovered_shows : (p : RecoverPhase) → PhaseObserves calls meta.id p → recover_request_at rec meta p ≡ Some m.request → ComesTo (recover_next rec meta p now m.reply)
    recovered_shows p k e =
        by_rows rec meta now (λ p r n. PhaseObserves calls meta.id p → recover_request_at rec meta p ≡ Some m.request → m.reply ≡ r → ComesTo n)
        (record {
          look_row = λ row k e f. let q = asked_at (look_of meta.id) e in rolled_shows row (look_rows m meta.id q) (look_rolls q) (look_row q) (said_by (look_of meta.id) (reply.Found (Some row)) q f);
          look_none = λ k e f. undecided_shows (asked_at (look_of meta.id) e);
          abort_applied = λ n k e f. let q = asked_at (abort_of meta.id n) e in (
            read_more images (rec ∷ left) h (unread (abort_of meta.id n) q refl) (abort_rolls n q),
            (
              record { decision = decision.Aborted; created_at = n },
              shown_now (record { decision = decision.Aborted; created_at = n }) (abort_row n q) (said_by (abort_of meta.id n) reply.Applied q f ∙ ap result_ok (row-decision meta.id decision.Aborted n (meta_of rec meta unresolved says).fits k)),
              refl,
              tt,
            ),
          );
          abort_row = λ n row k e f. let q = asked_at (abort_of meta.id n) e in rolled_shows row (unread (abort_of meta.id n) q refl) (abort_rolls n q) (abort_row n q) (said_by (abort_of meta.id n) (reply.NotMet (Some row)) q f);
          abort_fault = λ n k e f. let q = asked_at (abort_of meta.id n) e in (read_more images (rec ∷ left) h (unread (abort_of meta.id n) q refl) (abort_rolls n q), tt);
          again_row = λ row k e f. let q = asked_at (look_of meta.id) e in rolled_shows row (look_rows m meta.id q) (look_rolls q) (look_row q) (said_by (look_of meta.id) (reply.Found (Some row)) q f);
          again_none = λ k e f. tt;
          forward = λ n r is k e f. forwarded n (asked_at (recover_forward rec meta n) e) k;
          back = λ r is k e f. backed (asked_at (recover_back rec meta) e) k;
          fault = λ p k e f. tt;
          no_memory = λ p r k e f. tt;
        }) p m.reply k e refl

    resolved_shows : (n : RecoverPhase × RecoverStep) → ComesTo n → StageObserves q more (resolved images rec meta left n)
    resolved_shows (x, steps.More) c = c
    resolved_shows (x, steps.Image None) c = settled_shows q more images left (c images (sym (append-nil images)))
    resolved_shows (x, steps.Image (Some b)) c = settled_shows q more (images ++ b ∷ []) left (c (images ++ b ∷ []) refl)
    resolved_shows (x, steps.Busy id at) c = tt
    resolved_shows (x, steps.Faulted) c = tt
    resolved_shows (x, steps.BadRecord key) c = tt
    resolved_shows (x, steps.NoMemory) c = tt

  -- the record that is resolved is unresolved
  abbrev pub IsOpenAt : ReadStage → Type 0
  IsOpenAt (Resolving images rec meta p left) = kind_of rec ≡ Open meta
  IsOpenAt s = Unit {0}

  stage_shows : (a : Access) (s : ReadStage) → q ≡ request_of a → IsOpenAt s → StageObserves q calls s → read_pending_at q s ≡ Some m.request → CanAnswer m.request m.reply → StageObserves q more (read_step s now m.reply)
  stage_shows a Asking is o h e can = let same : m.request ≡ q = sym (some_is q m.request e) in answered_shows a m.reply is h same refl (subst (λ (x : Request). CanAnswer x m.reply) same can)
  stage_shows a (Resolving images rec meta p left) is o h e can = resolved_shows images rec meta left o h.0 (recover_next rec meta p now m.reply) (recovered_shows images rec meta left o h.0 p h.1 e)
  stage_shows a (Ended s) is o h e can = absurd (cc)

pub observes_on : {q : Request} (calls : List StoreCall) (now : ℤ) (moment : is_moment now ≡ true) (a : Access) → q ≡ request_of a → (r : WaitingRead q) → IsOpenAt q calls r.call now moment r.stage → StageObserves q calls r.stage → CanAnswer r.call.request r.call.reply
    → StageObserves q (calls ++ r.call ∷ []) (read_step r.stage now r.call.reply)
observes_on {q} calls now moment a is r o h can = stage_shows q calls r.call now moment a r.stage is o h r.pending can
