-- Statements that are accepted and answered keep a client's story.
use Rattle.std.proofs.Common.{◌≡◌, ◌≢◌, ◌<◌, ◌+◌, ◌*◌, ◌^◌, ℕ, zero, suc, true, false, List, [], ◌∷◌, ◌++◌, length, Option, Some, None, refl, sym, ap, subst, ◌∙◌, arith, ◌⊎◌, inl, inr}
use Rattle.std.specs.Prelude.{if◌then◌else◌, ◌&&◌, ◌||◌}
use Rattle.std.specs.Option.{option_map_or}
use Rattle.std.proofs.lemmas.List.{append-nil}
use Rattle.std.proofs.lemmas.Bool.Decides.{nat_tests}
use Rattle.law_clients.specs.Types.{Answer, Event, How, Reply, Request}
use Rattle.sdb_model.specs.declared.answer.Answer.TheVariants as answer
use Rattle.sdb_model.specs.declared.event.Event.TheVariants as event
use Rattle.sdb_model.specs.Rows.{Name}
use Rattle.sdb_model.specs.Sql.{reads_commit, reads_rollback}
use Rattle.sdb_model.specs.Transactions.{Executed, statements_by, with_answer, begins, ends, is_conflict, is_done}
use Rattle.law_protocol.specs.History.{Begins, Takes, ProtocolState, state_after_event}
use Rattle.law_protocol.specs.Lawful.{Labelled, answer_of, is_denial, protocol_state, labelled_with}
use Rattle.law_clients.specs.System.{SystemAt, Has}
use Rattle.law_clients.specs.Story.{Finished, Rest, Closed, Opened, Story, settle, saids_of, statements_in, all_of, MayCome, IsWellFormedStory, txn_ended_at}
use Rattle.law_clients.specs.Filed.{number, IsFiledAt}
use Rattle.law_clients.specs.History.{ClientHistory, waiting_of, all_statements, with_waiting, with_answered, begun_in, count_of, OpenFiled, IsOpened, HasBegun, HistoryInvariant, IsApart, KeepsTxns, IsAnswerOf, IsOrdinary, BeginsHold, EndsHold, IsCounted, NamesIt, executed_of_take, executed_with_answer}
use Rattle.law_clients.proofs.Places.{story_same, story_kept}
use Rattle.law_clients.proofs.Histories.{executed_more, now_more, SameOf, same_of, filed_later, begun_later, within, apart_at, opened_counts}
use Rattle.sdb_types.proofs.Public.{clash, itself, none_some, some_is}
use Rattle.law_clients.proofs.Begin.{here_owner as begins_owner}

plus_one : (n : ℕ) → 1 + n ≡ n + 1
plus_one n = omega arith

---- statements

none_waits : (x : ClientHistory) → x.waiting ≡ None → all_statements x ≡ saids_of x.whole ++ statements_in x.rest
none_waits x w = ap (λ o. (saids_of x.whole ++ statements_in x.rest) ++ waiting_of o) w ∙ append-nil (saids_of x.whole ++ statements_in x.rest)

pub take_executed : (c : ℕ) (events : List Event) (text : List ℕ) (a : Option Answer) → statements_by c (events ++ event.Take c text a ∷ []) ≡ statements_by c events ++ executed_of_take events text a ∷ []
take_executed c events text a = executed_more c events (event.Take c text a) ∙ ap (λ t. if t then statements_by c events ++ executed_of_take events text a ∷ [] else statements_by c events) (itself c)

-- A statement that is answered as it is accepted.
pub said_at_once : (events : List Event) (past : List Labelled) (sys : SystemAt) (c : ℕ) (x : ClientHistory) (q : Labelled) (text : List ℕ) (a : Answer) → HistoryInvariant events past sys c x → x.waiting ≡ None → q.event ≡ event.Take c text (Some a) → IsAnswerOf events c x q (executed_of_take events text (Some a))
said_at_once events past sys c x q text a story none e = record {
  executed = ap (λ y. statements_by c (events ++ y ∷ [])) e ∙ take_executed c events text (Some a) ∙ ap (λ ss. ss ++ executed_of_take events text (Some a) ∷ []) (story.same ∙ none_waits x none);
  answer = ap answer_of e;
  answered = plus_one (length events);
  waited = λ w h. none_some w (sym none ∙ h);
}

pub answer_last : (front : List Executed) (w : Executed) (n : ℕ) (a : Answer) → with_answer (front ++ w ∷ []) n a ≡ front ++ record { accepted = w.accepted; text = w.text; answer = Some a; reached = n } ∷ []
answer_last [] w n a = refl
answer_last (s ∷ []) w n a = refl
answer_last (s ∷ t ∷ ss) w n a = ap (λ r. s ∷ r) (answer_last (t ∷ ss) w n a)

-- A statement that waited is answered by a call of its client.
pub said_later : (events : List Event) (past : List Labelled) (sys : SystemAt) (c : ℕ) (x : ClientHistory) (q : Labelled) (w : Executed) (store : Name) (ask : Request) (how : How) (r : Reply) (a : Answer) → HistoryInvariant events past sys c x → x.waiting ≡ Some w → q.event ≡ event.Call c store ask how r (Some a) → IsAnswerOf events c x q (executed_with_answer events w a)
said_later events past sys c x q w store ask how r a story waits e = record {
  executed = ap (λ y. statements_by c (events ++ y ∷ [])) e
      ∙ executed_more c events (event.Call c store ask how r (Some a))
      ∙ ap (λ t. if t then with_answer (statements_by c events) (1 + length events) a else statements_by c events) (itself c)
      ∙ ap (λ ss. with_answer ss (1 + length events) a) (story.same ∙ ap (λ o. (saids_of x.whole ++ statements_in x.rest) ++ waiting_of o) waits)
      ∙ answer_last (saids_of x.whole ++ statements_in x.rest) w (1 + length events) a;
  answer = ap answer_of e;
  answered = plus_one (length events);
  waited = λ v h. let same = some_is w v (sym waits ∙ h) in (ap (λ (y : Executed). y.text) same, ap (λ (y : Executed). y.accepted) same);
}

settled_same : (events : List Event) (c : ℕ) (x : ClientHistory) (q : Labelled) (s : Executed) → IsAnswerOf events c x q s → statements_by c (events ++ q.event ∷ []) ≡ all_statements (with_answered x s)
settled_same events c x q s is = is.executed ∙ sym (story_same x.whole x.rest s) ∙ sym (append-nil (all_of (settle x.whole x.rest s)))

---- numbers

numbers_apart : (c j k : ℕ) → j ≢ k → number c j ≢ number c k
numbers_apart c j k n e = n (same c j k e)
  where
    same : (c j k : ℕ) → c * 2 ^ 64 + suc j ≡ c * 2 ^ 64 + suc k → j ≡ k
    same c j k e = omega (arith, e)

less_apart : (j k : ℕ) → j < k → j ≢ k
less_apart j k l e = absurd (omega (arith, e))

---- a statement that is accepted

-- A statement is accepted and waits; it plays no part.
pub story_asks : (events : List Event) (past : List Labelled) (sys next : SystemAt) (c : ℕ) (x : ClientHistory) (q : Labelled) (text : List ℕ) → HistoryInvariant events past sys c x → x.waiting ≡ None → q.event ≡ event.Take c text None → IsCounted q.action → IsApart past c q.action → KeepsTxns c sys next
    → HistoryInvariant (events ++ q.event ∷ []) (q ∷ past) next c (with_waiting x (executed_of_take events text None))
story_asks events past sys next c x q text story none e counts apart keeps = record {
  now = now_more events past q q.event counts story.now;
  same = ap (λ y. statements_by c (events ++ y ∷ [])) e ∙ take_executed c events text None ∙ ap (λ ss. ss ++ executed_of_take events text None ∷ []) (story.same ∙ none_waits x none);
  ok = story.ok;
  rest_ok = story.rest_ok;
  waits = refl;
  count = keeps.begun ∙ story.count;
  alive = λ k l. begun_later past q c k (apart_at events past sys c x q k story apart l) (story.alive k l);
  filed = λ k f h. filed_later past q (number c k) f (apart_at events past sys c x q k story apart (within x.whole k f (begun_in x.rest) h)) (story.filed k f h);
  opened = opened x.rest (λ o. apart_at events past sys c x q (length x.whole) story apart (opened_counts (length x.whole) x.rest o)) story.opened;
  hold = λ t h. story.hold t (keeps.hold t h);
}
  where
    opened : (r : Rest) → (IsOpened r → SameOf (number c (length x.whole)) (protocol_state past) (protocol_state (q ∷ past))) → OpenFiled past c x r → OpenFiled (q ∷ past) c (with_waiting x (executed_of_take events text None)) r
    opened (Closed gap) s ok = tt
    opened (Opened gap b body) s ok = ((s tt).begun ∙ ok.0, λ h. let w = ok.1 (sym (s tt).accepted ∙ h) in none_some w.0 (sym none ∙ w.1))

takes_at : (h : ProtocolState) (t : ℕ) → (state_after_event h (Takes t)).accepted_at t ≡ h.now + 1
takes_at h t = grind (arith, nat_tests)

-- The COMMIT of the open transaction is accepted and waits.
pub story_takes : (events : List Event) (past : List Labelled) (sys next : SystemAt) (c : ℕ) (x : ClientHistory) (text : List ℕ) → HistoryInvariant events past sys c x → x.waiting ≡ None → reads_commit text ≡ true → KeepsTxns c sys next
    → HistoryInvariant (events ++ event.Take c text None ∷ []) (labelled_with (Takes (number c (length x.whole))) (event.Take c text None) ∷ past) next c (with_waiting x (executed_of_take events text None))
story_takes events past sys next c x text story none commit keeps = record {
  now = now_more events past q (event.Take c text None) tt story.now;
  same = take_executed c events text None ∙ ap (λ ss. ss ++ executed_of_take events text None ∷ []) (story.same ∙ none_waits x none);
  ok = story.ok;
  rest_ok = story.rest_ok;
  waits = refl;
  count = keeps.begun ∙ story.count;
  alive = λ k l. let h = story.alive k l in record { begun = h.begun; owner = h.owner; client = h.client; ordinal = h.ordinal };
  filed = λ k f h. filed_later past q (number c k) f (same_of past q (number c k) (λ e. numbers_apart c (length x.whole) k (λ s. less_apart k (length x.whole) (inside x.whole k f h) (sym s)) e)) (story.filed k f h);
  opened = opened x.rest story.opened;
  hold = λ t h. story.hold t (keeps.hold t h);
}
  where
    q : Labelled
    q = labelled_with (Takes (number c (length x.whole))) (event.Take c text None)

    inside : (fs : List Finished) (k : ℕ) (f : Finished) → txn_ended_at fs k ≡ Some f → k < length fs
    inside fs k f e = subst (λ n. k < n) (plus (length fs)) (within fs k f 0 e)
      where
        plus : (n : ℕ) → n + 0 ≡ n
        plus n = omega arith

    opened : (r : Rest) → OpenFiled past c x r → OpenFiled (q ∷ past) c (with_waiting x (executed_of_take events text None)) r
    opened (Closed gap) ok = tt
    opened (Opened gap b body) ok = (ok.0, λ h. (executed_of_take events text None, refl, commit, plus_one (length events) ∙ ap (λ n. n + 1) (sym story.now) ∙ sym (takes_at (protocol_state past) (number c (length x.whole)))))

---- a statement that is answered

-- a story in which no statement waits
abbrev pub telling_of : Story → ClientHistory
telling_of t = record { whole = t.whole; rest = t.rest; waiting = None }

-- a COMMIT ends a transaction
pub commit_ends : (s : Executed) → reads_commit s.text ≡ true → ends s ≡ true
commit_ends s e = ap (λ b. b || is_conflict s.answer || (reads_rollback s.text && is_done s.answer)) e

-- what is in a story after an answer, whatever it is
settles : (events : List Event) (past : List Labelled) (sys next : SystemAt) (c : ℕ) (x : ClientHistory) (q : Labelled) (s : Executed) (t : Story) → HistoryInvariant events past sys c x → IsAnswerOf events c x q s → IsCounted q.action → MayCome x.rest s → settle x.whole x.rest s ≡ t
    → next.begun c ≡ count_of (telling_of t) → ((k : ℕ) → k < count_of (telling_of t) → HasBegun (q ∷ past) c k) → ((k : ℕ) (f : Finished) → txn_ended_at t.whole k ≡ Some f → IsFiledAt (q ∷ past) (number c k) f) → OpenFiled (q ∷ past) c (telling_of t) t.rest → ((u : ℕ) → Has (next.clients c) u → IsOpened t.rest × (u ≡ number c (length t.whole)))
    → HistoryInvariant (events ++ q.event ∷ []) (q ∷ past) next c (with_answered x s)
settles events past sys next c x q s t story is counts may e count alive filed opened hold = subst (λ y. HistoryInvariant (events ++ q.event ∷ []) (q ∷ past) next c (telling_of y)) (sym e) (record {
  now = now_more events past q q.event counts story.now;
  same = settled_same events c x q s is ∙ ap (λ y. all_statements (telling_of y)) e;
  ok = (subst IsWellFormedStory e (story_kept x.whole x.rest s story.ok story.rest_ok may)).whole;
  rest_ok = (subst IsWellFormedStory e (story_kept x.whole x.rest s story.ok story.rest_ok may)).rest;
  waits = tt;
  count = count;
  alive = alive;
  filed = filed;
  opened = opened;
  hold = hold;
})

-- An ordinary statement is answered: it neither begins a transaction nor ends one.
pub story_answers : (events : List Event) (past : List Labelled) (sys next : SystemAt) (c : ℕ) (x : ClientHistory) (q : Labelled) (s : Executed) → HistoryInvariant events past sys c x → IsAnswerOf events c x q s → MayCome x.rest s → IsOrdinary x.rest s → IsCounted q.action → IsApart past c q.action → KeepsTxns c sys next
    → HistoryInvariant (events ++ q.event ∷ []) (q ∷ past) next c (with_answered x s)
story_answers events past sys next c x q s story is may plain counts apart keeps = by x.rest refl plain story.opened
  where
    filed : (k : ℕ) (f : Finished) → txn_ended_at x.whole k ≡ Some f → IsFiledAt (q ∷ past) (number c k) f
    filed k f h = filed_later past q (number c k) f (apart_at events past sys c x q k story apart (within x.whole k f (begun_in x.rest) h)) (story.filed k f h)

    alive : (k : ℕ) → k < count_of x → HasBegun (q ∷ past) c k
    alive k l = begun_later past q c k (apart_at events past sys c x q k story apart l) (story.alive k l)

    by : (r : Rest) → x.rest ≡ r → IsOrdinary r s → OpenFiled past c x r → HistoryInvariant (events ++ q.event ∷ []) (q ∷ past) next c (with_answered x s)
    by (Closed gap) e o open_ok = settles events past sys next c x q s (record { whole = x.whole; rest = Closed (gap ++ s ∷ []) }) story is counts may
        (ap (λ r. settle x.whole r s) e ∙ ap (λ b. if b then record { whole = x.whole; rest = Opened gap s [] } else record { whole = x.whole; rest = Closed (gap ++ s ∷ []) }) o)
        (keeps.begun ∙ story.count ∙ ap (λ r. length x.whole + begun_in r) e)
        (λ k l. alive k (subst (λ r. k < length x.whole + begun_in r) (sym e) l))
        filed tt
        (λ u h. absurd (subst IsOpened e (story.hold u (keeps.hold u h)).0))
    by (Opened gap b body) e o open_ok = settles events past sys next c x q s (record { whole = x.whole; rest = Opened gap b (body ++ s ∷ []) }) story is counts may
        (ap (λ r. settle x.whole r s) e ∙ ap (λ t. if t then record { whole = x.whole ++ record { gap = gap; begin = b; body = body; last = s } ∷ []; rest = Closed [] } else record { whole = x.whole; rest = Opened gap b (body ++ s ∷ []) }) o)
        (keeps.begun ∙ story.count ∙ ap (λ r. length x.whole + begun_in r) e)
        (λ k l. alive k (subst (λ r. k < length x.whole + begun_in r) (sym e) l))
        filed
        (same.begun ∙ open_ok.0, λ h. let w = open_ok.1 (sym same.accepted ∙ h) in clash (sym (commit_ends s (ap reads_commit (is.waited w.0 w.1).0 ∙ w.2)) ∙ o))
        (λ u h. (tt, (story.hold u (keeps.hold u h)).1))
      where
        same : SameOf (number c (length x.whole)) (protocol_state past) (protocol_state (q ∷ past))
        same = apart_at events past sys c x q (length x.whole) story apart (opened_counts (length x.whole) x.rest (subst IsOpened (sym e) tt))

begins_at : (h : ProtocolState) (t c : ℕ) → (state_after_event h (Begins t c)).begun t ≡ h.now + 1
begins_at h t c = grind (arith, nat_tests)

-- A BEGIN is answered Done where no transaction is open.
pub story_begins : (events : List Event) (past : List Labelled) (sys next : SystemAt) (c : ℕ) (x : ClientHistory) (gap : List Executed) (text : List ℕ) → HistoryInvariant events past sys c x → x.waiting ≡ None → x.rest ≡ Closed gap → begins (executed_of_take events text (Some answer.Done)) ≡ true → c < 2 ^ 64 → suc (length x.whole) < 2 ^ 64 → (protocol_state past).accepted (number c (length x.whole)) ≡ false → BeginsHold c sys next (number c (length x.whole))
    → HistoryInvariant (events ++ event.Take c text (Some answer.Done) ∷ []) (labelled_with (Begins (number c (length x.whole)) c) (event.Take c text (Some answer.Done)) ∷ past) next c (with_answered x (executed_of_take events text (Some answer.Done)))
story_begins events past sys next c x gap text story none e starts client ordinal fresh hold = settles events past sys next c x q s (record { whole = x.whole; rest = Opened gap s [] }) story (said_at_once events past sys c x q text answer.Done story none refl) tt may
    (ap (λ r. settle x.whole r s) e ∙ ap (λ b. if b then record { whole = x.whole; rest = Opened gap s [] } else record { whole = x.whole; rest = Closed (gap ++ s ∷ []) }) starts)
    (hold.begun ∙ ap (λ n. n + 1) (story.count ∙ ap (λ r. length x.whole + begun_in r) e) ∙ plus (length x.whole))
    (λ k l. alive k (last k (length x.whole) l))
    (λ k f h. filed_later past q (number c k) f (before k (inside x.whole k f h)) (story.filed k f h))
    (begins_at (protocol_state past) t c ∙ ap (λ n. n + 1) story.now ∙ sym (plus_one (length events)), λ h. absurd (untaken h))
    (λ u h. (tt, hold.hold u h))
  where
    t : ℕ
    t = number c (length x.whole)

    s : Executed
    s = executed_of_take events text (Some answer.Done)

    q : Labelled
    q = labelled_with (Begins t c) (event.Take c text (Some answer.Done))

    may : MayCome x.rest s
    may = subst (λ r. MayCome r s) (sym e) (λ h. absurd (other h))
      where
        other : ◌≡◌ {A = Option Answer} (Some answer.Done) (Some answer.Committed) → ⊥
        other h = cc

    plus : (n : ℕ) → n + 0 + 1 ≡ n + 1
    plus n = omega arith

    last : (k n : ℕ) → k < n + 1 → (k < n) ⊎ (k ≡ n)
    last k n l = grind (arith, nat_tests)

    inside : (fs : List Finished) (k : ℕ) (f : Finished) → txn_ended_at fs k ≡ Some f → k < length fs
    inside fs k f h = subst (λ n. k < n) (zero_more (length fs)) (within fs k f 0 h)
      where
        zero_more : (n : ℕ) → n + 0 ≡ n
        zero_more n = omega arith

    before : (k : ℕ) → k < length x.whole → SameOf (number c k) (protocol_state past) (protocol_state (q ∷ past))
    before k l = same_of past q (number c k) (λ h. numbers_apart c (length x.whole) k (λ g. less_apart k (length x.whole) l (sym g)) h)

    alive : (k : ℕ) → (k < length x.whole) ⊎ (k ≡ length x.whole) → HasBegun (q ∷ past) c k
    alive k (inl l) = begun_later past q c k (before k l) (story.alive k (more k (length x.whole) (begun_in x.rest) l))
      where
        more : (k m n : ℕ) → k < m → k < m + n
        more k m n l = omega arith
    alive k (inr h) = subst (HasBegun (q ∷ past) c) (sym h) (record { begun = λ z. positive (protocol_state past).now (sym (begins_at (protocol_state past) t c) ∙ z); owner = begins_owner (protocol_state past) t c; client = client; ordinal = ordinal })
      where
        positive : (n : ℕ) → n + 1 ≡ 0 → ⊥
        positive n z = omega (arith, z)

    untaken : (protocol_state (q ∷ past)).accepted t ≡ true → ⊥
    untaken h = clash (sym h ∙ fresh)

---- an answer that ends a transaction

-- the transactions that ended, with one more
pub one_more : (fs : List Finished) (g : Finished) (k : ℕ) (f : Finished) → txn_ended_at (fs ++ g ∷ []) k ≡ Some f → (txn_ended_at fs k ≡ Some f) ⊎ ((k ≡ length fs) × (f ≡ g))
one_more [] g zero f e = inr (refl, sym (some_is g f e))
one_more [] g (suc k) f e = none_some f e
one_more (h ∷ fs) g zero f e = inl e
one_more (h ∷ fs) g (suc k) f e = by (one_more fs g k f e)
  where
    by : (txn_ended_at fs k ≡ Some f) ⊎ ((k ≡ length fs) × (f ≡ g)) → (txn_ended_at fs k ≡ Some f) ⊎ ((suc k ≡ suc (length fs)) × (f ≡ g))
    by (inl x) = inl x
    by (inr x) = inr (ap suc x.0, x.1)

-- An answer ends the open transaction.
pub story_ends : (events : List Event) (past : List Labelled) (sys next : SystemAt) (c : ℕ) (x : ClientHistory) (q : Labelled) (s : Executed) (gap : List Executed) (b : Executed) (body : List Executed) → HistoryInvariant events past sys c x → x.rest ≡ Opened gap b body → IsAnswerOf events c x q s → begins s ≡ false → ends s ≡ true → q.ends ≡ Some (number c (length x.whole)) → NamesIt (number c (length x.whole)) s → IsCounted q.action → IsApart past c q.action → EndsHold c sys next
    → HistoryInvariant (events ++ q.event ∷ []) (q ∷ past) next c (with_answered x s)
story_ends events past sys next c x q s gap b body story e is plain over ends_it names counts apart hold = settles events past sys next c x q s (record { whole = x.whole ++ f ∷ []; rest = Closed [] }) story is counts may
    (ap (λ r. settle x.whole r s) e ∙ ap (λ t. if t then record { whole = x.whole ++ f ∷ []; rest = Closed [] } else record { whole = x.whole; rest = Opened gap b (body ++ s ∷ []) }) over)
    (hold.begun ∙ story.count ∙ ap (λ r. length x.whole + begun_in r) e ∙ lengths)
    (λ k l. alive k (subst (λ n. k < n) (sym (ap (λ r. length x.whole + begun_in r) e ∙ lengths)) l))
    (λ k g h. filed k g (one_more x.whole f k g h))
    tt
    (λ u h. absurd (hold.hold u h))
  where
    f : Finished
    f = record { gap = gap; begin = b; body = body; last = s }

    t : ℕ
    t = number c (length x.whole)

    may : MayCome x.rest s
    may = subst (λ r. MayCome r s) (sym e) (plain, λ h. clash (sym over ∙ h))

    lengths : length x.whole + 1 ≡ length (x.whole ++ f ∷ []) + 0
    lengths = sym (longer x.whole f)
      where
        longer : (fs : List Finished) (g : Finished) → length (fs ++ g ∷ []) + 0 ≡ length fs + 1
        longer [] g = refl
        longer (h ∷ fs) g = up (length (fs ++ g ∷ [])) (length fs) (longer fs g)
          where
            up : (m n : ℕ) → m + 0 ≡ n + 1 → suc m + 0 ≡ suc n + 1
            up m n h = omega (arith, h)

    alive : (k : ℕ) → k < count_of x → HasBegun (q ∷ past) c k
    alive k l = begun_later past q c k (apart_at events past sys c x q k story apart l) (story.alive k l)

    same : SameOf t (protocol_state past) (protocol_state (q ∷ past))
    same = apart_at events past sys c x q (length x.whole) story apart (opened_counts (length x.whole) x.rest (subst IsOpened (sym e) tt))

    open_ok : OpenFiled past c x (Opened gap b body)
    open_ok = subst (OpenFiled past c x) e story.opened

    last : IsFiledAt (q ∷ past) t f
    last = record {
      begun = same.begun ∙ open_ok.0;
      accepted = λ h. let w = open_ok.1 (sym same.accepted ∙ h) in (ap reads_commit (is.waited w.0 w.1).0 ∙ w.2, (is.waited w.0 w.1).1 ∙ w.3 ∙ sym same.accepted_at);
      answered = λ a. inl (is.answer ∙ a, ends_it, is.answered ∙ sym (length_of events story.now));
      denied = λ a statements_by denial h. inl (ap (λ o. option_map_or is_denial o false) (is.answer ∙ statements_by) ∙ denial, ends_it, sym same.accepted ∙ h);
      unknown = names;
    }
      where
        length_of : (events : List Event) → (protocol_state past).now ≡ length events → (protocol_state (q ∷ past)).now ≡ length events + 1
        length_of events now = now_more events past q q.event counts now ∙ longer events q.event
          where
            longer : (es : List Event) (y : Event) → length (es ++ y ∷ []) ≡ length es + 1
            longer [] y = refl
            longer (z ∷ es) y = ap suc (longer es y) ∙ up (length es)
              where
                up : (n : ℕ) → suc (n + 1) ≡ suc n + 1
                up n = omega arith

    filed : (k : ℕ) (g : Finished) → (txn_ended_at x.whole k ≡ Some g) ⊎ ((k ≡ length x.whole) × (g ≡ f)) → IsFiledAt (q ∷ past) (number c k) g
    filed k g (inl h) = filed_later past q (number c k) g (apart_at events past sys c x q k story apart (within x.whole k g (begun_in x.rest) h)) (story.filed k g h)
    filed k g (inr h) = subst (λ y. IsFiledAt (q ∷ past) (number c k) y) (sym h.1) (subst (λ j. IsFiledAt (q ∷ past) (number c j) f) (sym h.0) last)
