-- A client's story, where the events stop, is filed.
use Rattle.std.proofs.Common.{◌≡◌, ◌≤◌, ◌<◌, ◌+◌, ◌*◌, ◌/◌, ◌%◌, ◌^◌, ℕ, zero, suc, Bool, true, false, List, [], ◌∷◌, ◌++◌, length, Option, Some, None, IfSome, refl, sym, ap, subst, ◌∙◌, arith, ◌⊎◌, inl, inr}
use Rattle.std.specs.Prelude.{if◌then◌else◌, ◌&&◌, ◌||◌}
use Rattle.std.proofs.lemmas.List.{append-nil}
use Rattle.sdb_model.specs.declared.answer.Answer.TheVariants as answer
use Rattle.sdb_model.specs.declared.event.Event.{Event}
use Rattle.sdb_model.specs.Sql.{reads_begin, reads_commit, reads_rollback}
use Rattle.sdb_model.specs.Transactions.{Executed, statements_by, begins, ends, is_conflict, is_done}
use Rattle.law_protocol.specs.Plan.{Plan}
use Rattle.law_protocol.specs.Lawful.{Labelled, protocol_state}
use Rattle.law_clients.specs.System.{SystemAt, SystemOk, idle}
use Rattle.law_clients.proofs.Fresh.{in_turn}
use Rattle.law_clients.specs.Story.{Finished, Rest, Closed, Opened, Story, settle, saids_of, statements_in, all_of, MayCome, IsWellFormedStory, txn_ended_at}
use Rattle.law_clients.specs.Filed.{number, IsFiledAt, IsOpenAt, Filed}
use Rattle.law_clients.specs.History.{ClientHistory, waiting_of, begun_in, count_of, OpenFiled, HistoryInvariant, nothing_yet}
use Rattle.law_clients.proofs.Places.{story_same, story_kept}
use Rattle.law_protocol.specs.Faithful.{IsFaithful}
use Rattle.law_clients.proofs.Begin.{accepted_begun}
use Rattle.law_clients.proofs.Faith.{beyond, faithful}
use Rattle.law_clients.proofs.Histories.{within}
use Rattle.law_clients.proofs.Answered.{commit_ends, one_more}
use Rattle.sdb_types.proofs.Public.{clash, false_by as not_true, none_some, some_is}

-- a COMMIT was accepted of none but those that have begun
pub accepted_counts : (plan : ℕ → Plan) (past : List Labelled) (sys : SystemAt) (c k : ℕ) → SystemOk plan past sys → suc k < 2 ^ 64 → (protocol_state past).accepted (number c k) ≡ true → k < sys.begun c
accepted_counts plan past sys c k ok small accepted = by ((protocol_state past).begun (number c k)) refl
  where
    half : (c n : ℕ) → n < 2 ^ 64 → (c * 2 ^ 64 + n) / 2 ^ 64 ≡ c
    half c n l = omega arith

    rest : (c n : ℕ) → n < 2 ^ 64 → (c * 2 ^ 64 + n) % 2 ^ 64 ≡ n
    rest c n l = omega arith

    less : (k n : ℕ) → suc k ≤ n → k < n
    less k n l = omega arith

    positive : (n : ℕ) → suc n ≡ 0 → ⊥
    positive n e = absurd (omega (arith, e))

    by : (n : ℕ) → (protocol_state past).begun (number c k) ≡ n → k < sys.begun c
    by zero e = clash (sym accepted ∙ (in_turn plan past (number c k) ok.lawful).accepted e)
    by (suc n) e = less k (sys.begun c) (subst (λ m. m ≤ sys.begun c) (rest c (suc k) small) (subst (λ d. number c k % 2 ^ 64 ≤ sys.begun d) (half c (suc k) small) (ok.ids (number c k) (λ z. positive n (sym e ∙ z))).most))

-- what there is of a story where nothing waits, and the open transaction's COMMIT was not accepted
files : (plan : ℕ → Plan) (events : List Event) (past : List Labelled) (sys : SystemAt) (c : ℕ) (x : ClientHistory) (t : Story) → SystemOk plan past sys → HistoryInvariant events past sys c x → statements_by c events ≡ all_of t → IsWellFormedStory t → length t.whole + begun_in t.rest ≡ count_of x
    → ((k : ℕ) (f : Finished) → txn_ended_at t.whole k ≡ Some f → IsFiledAt past (number c k) f) → ((gap : List Executed) (b : Executed) (body : List Executed) → t.rest ≡ Opened gap b body → IsOpenAt past (number c (length t.whole)) b) → Filed c events past
files plan events past sys c x t ok story same is count filed opened = record {
  whole = t.whole;
  rest = t.rest;
  same = same;
  ok = is.whole;
  rest_ok = is.rest;
  filed = filed;
  fits = λ k f e. let h = story.alive k (subst (λ n. k < n) count (within t.whole k f (begun_in t.rest) e)) in (h.client, h.ordinal);
  is_open = opened;
  none = λ k small none accepted. by k t.rest refl none accepted (subst (λ n. k < n) (story.count ∙ sym count) (accepted_counts plan past sys c k ok small accepted));
}
  where
    by : (k : ℕ) (r : Rest) → t.rest ≡ r → txn_ended_at t.whole k ≡ None → (protocol_state past).accepted (number c k) ≡ true → k < length t.whole + begun_in t.rest → ⊥
    by k (Closed gap) e none accepted l = none_left k (length t.whole) (beyond t.whole k none) (subst (λ r. k < length t.whole + begun_in r) e l)
      where
        none_left : (k n : ℕ) → n ≤ k → k < n + 0 → ⊥
        none_left k n a b = omega arith
    by k (Opened gap b body) e none accepted l = clash (sym (subst (λ j. (protocol_state past).accepted (number c j) ≡ true) (one_left k (length t.whole) (beyond t.whole k none) (subst (λ r. k < length t.whole + begun_in r) e l)) accepted) ∙ (opened gap b body e).untaken)
      where
        one_left : (k n : ℕ) → n ≤ k → k < n + 1 → k ≡ n
        one_left k n a b = omega arith

-- a statement without an answer ends a transaction only where it reads as COMMIT, and begins none
unanswered_ends : (w : Executed) → w.answer ≡ None → ends w ≡ true → reads_commit w.text ≡ true
unanswered_ends w a e = by (reads_commit w.text) (reads_rollback w.text) (sym (ap (λ x. reads_commit w.text || is_conflict x || (reads_rollback w.text && is_done x)) a) ∙ e)
  where
    by : (a b : Bool) → (a || false || (b && false)) ≡ true → a ≡ true
    by true b h = refl
    by false true h = absurd (cc (h))
    by false false h = absurd (cc (h))

pub unanswered_begins : (w : Executed) → w.answer ≡ None → begins w ≡ false
unanswered_begins w a = ap (λ x. reads_begin w.text && is_done x) a ∙ by (reads_begin w.text)
  where
    by : (b : Bool) → (b && false) ≡ false
    by true = refl
    by false = refl

pub unanswered_comes : (r : Rest) (w : Executed) → w.answer ≡ None → MayCome r w
unanswered_comes (Closed gap) w a = λ e. none_some answer.Committed (sym a ∙ e)
unanswered_comes (Opened gap b body) w a = (unanswered_begins w a, λ n e. none_some answer.Committed (sym a ∙ e))

-- Where the events stop, a statement that waits has no answer; a COMMIT that waits ends its transaction.
pub story_files : (plan : ℕ → Plan) (events : List Event) (past : List Labelled) (sys : SystemAt) (c : ℕ) (x : ClientHistory) → SystemOk plan past sys → HistoryInvariant events past sys c x → Filed c events past
story_files plan events past sys c x ok story = by x.waiting refl
  where
    open_part : (gap : List Executed) (b : Executed) (body : List Executed) → x.rest ≡ Opened gap b body → OpenFiled past c x (Opened gap b body)
    open_part gap b body e = subst (OpenFiled past c x) e story.opened

    waited : (w : Executed) → x.waiting ≡ Some w → w.answer ≡ None
    waited w e = subst (λ o. IfSome o (λ s. s.answer ≡ None)) e story.waits

    same_with : (w : Executed) → x.waiting ≡ Some w → statements_by c events ≡ all_of (settle x.whole x.rest w)
    same_with w e = story.same ∙ ap (λ o. (saids_of x.whole ++ statements_in x.rest) ++ waiting_of o) e ∙ sym (story_same x.whole x.rest w)

    is_with : (w : Executed) → x.waiting ≡ Some w → IsWellFormedStory (settle x.whole x.rest w)
    is_with w e = story_kept x.whole x.rest w story.ok story.rest_ok (unanswered_comes x.rest w (waited w e))

    -- the open transaction's COMMIT was not accepted, where none waits
    untaken : (gap : List Executed) (b : Executed) (body : List Executed) → x.rest ≡ Opened gap b body → ((s : Executed) → x.waiting ≡ Some s → reads_commit s.text ≡ true → ⊥) → IsOpenAt past (number c (length x.whole)) b
    untaken gap b body e none = let o = open_part gap b body e in record { begun = o.0; untaken = not_true ((protocol_state past).accepted (number c (length x.whole))) (λ h. let w = o.1 h in none w.0 w.1 w.2) }

    opened_is : (r : Rest) (gap g : List Executed) (b d : Executed) (body e : List Executed) → Opened gap b body ≡ Opened g d e → b ≡ d
    opened_is r gap g b d body e h = cc

    waits : (w : Executed) → x.waiting ≡ Some w → (r : Rest) → x.rest ≡ r → Filed c events past
    waits w e (Closed gap) r = files plan events past sys c x (record { whole = x.whole; rest = Closed (gap ++ w ∷ []) }) ok story (same_with w e ∙ ap all_of is) (subst IsWellFormedStory is (is_with w e)) (sym (ap (λ y. length x.whole + begun_in y) r)) story.filed (λ g b body h. absurd (closed gap w g b body h))
      where
        is : settle x.whole x.rest w ≡ record { whole = x.whole; rest = Closed (gap ++ w ∷ []) }
        is = ap (λ y. settle x.whole y w) r ∙ ap (λ t. if t then record { whole = x.whole; rest = Opened gap w [] } else record { whole = x.whole; rest = Closed (gap ++ w ∷ []) }) (unanswered_begins w (waited w e))

        closed : (gap : List Executed) (w : Executed) (g : List Executed) (b : Executed) (body : List Executed) → Closed (gap ++ w ∷ []) ≡ Opened g b body → ⊥
        closed gap w g b body h = cc
    waits w e (Opened gap b body) r = at (ends w) refl
      where
        f : Finished
        f = record { gap = gap; begin = b; body = body; last = w }

        part : OpenFiled past c x (Opened gap b body)
        part = open_part gap b body r

        is_at : (t : Bool) → ends w ≡ t → settle x.whole x.rest w ≡ (if t then record { whole = x.whole ++ f ∷ []; rest = Closed [] } else record { whole = x.whole; rest = Opened gap b (body ++ w ∷ []) })
        is_at t h = ap (λ y. settle x.whole y w) r ∙ ap (λ t. if t then record { whole = x.whole ++ f ∷ []; rest = Closed [] } else record { whole = x.whole; rest = Opened gap b (body ++ w ∷ []) }) h

        last : IsFiledAt past (number c (length x.whole)) f
        last = record {
          begun = part.0;
          accepted = λ h. let v = part.1 h in let same = some_is v.0 w (sym v.1 ∙ e) in (subst (λ (y : Executed). reads_commit y.text ≡ true) same v.2, sym (ap (λ (y : Executed). y.accepted) same) ∙ v.3);
          answered = λ a. none_some answer.Committed (sym (waited w e) ∙ a);
          denied = λ a statements_by denial h. none_some a (sym (waited w e) ∙ statements_by);
          unknown = λ u a. none_some (answer.Unknown u) (sym (waited w e) ∙ a);
        }

        lengths : (fs : List Finished) (g : Finished) → length (fs ++ g ∷ []) + 0 ≡ length fs + 1
        lengths [] g = refl
        lengths (h ∷ fs) g = up (length (fs ++ g ∷ [])) (length fs) (lengths fs g)
          where
            up : (m n : ℕ) → m + 0 ≡ n + 1 → suc m + 0 ≡ suc n + 1
            up m n h = omega (arith, h)

        filed : (k : ℕ) (g : Finished) → (txn_ended_at x.whole k ≡ Some g) ⊎ ((k ≡ length x.whole) × (g ≡ f)) → IsFiledAt past (number c k) g
        filed k g (inl h) = story.filed k g h
        filed k g (inr h) = subst (λ y. IsFiledAt past (number c k) y) (sym h.1) (subst (λ j. IsFiledAt past (number c j) f) (sym h.0) last)

        closed : (g : List Executed) (d : Executed) (body : List Executed) → Closed [] ≡ Opened g d body → ⊥
        closed g d body h = cc

        at : (t : Bool) → ends w ≡ t → Filed c events past
        at true h = files plan events past sys c x (record { whole = x.whole ++ f ∷ []; rest = Closed [] }) ok story (same_with w e ∙ ap all_of (is_at true h)) (subst IsWellFormedStory (is_at true h) (is_with w e)) (lengths x.whole f ∙ sym (ap (λ y. length x.whole + begun_in y) r)) (λ k g y. filed k g (one_more x.whole f k g y)) (λ g d body y. absurd (closed g d body y))
        at false h = files plan events past sys c x (record { whole = x.whole; rest = Opened gap b (body ++ w ∷ []) }) ok story (same_with w e ∙ ap all_of (is_at false h)) (subst IsWellFormedStory (is_at false h) (is_with w e)) (sym (ap (λ y. length x.whole + begun_in y) r)) story.filed
            (λ g d inside y. subst (IsOpenAt past (number c (length x.whole))) (opened_is x.rest gap g b d (body ++ w ∷ []) inside y) (untaken gap b body r (λ s z commit. clash (sym (commit_ends w (subst (λ (v : Executed). reads_commit v.text ≡ true) (some_is s w (sym z ∙ e)) commit)) ∙ h))))

    by : (o : Option Executed) → x.waiting ≡ o → Filed c events past
    by None e = files plan events past sys c x (record { whole = x.whole; rest = x.rest }) ok story (story.same ∙ ap (λ o. (saids_of x.whole ++ statements_in x.rest) ++ waiting_of o) e ∙ append-nil (saids_of x.whole ++ statements_in x.rest)) (record { whole = story.ok; rest = story.rest_ok }) refl story.filed (λ gap b body r. untaken gap b body r (λ s h commit. none_some s (sym e ∙ h)))
    by (Some w) e = waits w e x.rest refl

-- Before the first event nothing was said.
pub story_starts : (c : ℕ) → HistoryInvariant [] [] idle c nothing_yet
story_starts c = record {
  now = refl;
  same = refl;
  ok = tt;
  rest_ok = tt;
  waits = tt;
  count = refl;
  alive = λ k l. absurd (none k l);
  filed = λ k f e. none_some f e;
  opened = tt;
  hold = λ t h. absurd h;
}
  where
    none : (k : ℕ) → k < 0 + 0 → ⊥
    none k l = omega arith

-- No transaction of ordinal 0 was accepted.
pub no_first : (plan : ℕ → Plan) (past : List Labelled) (sys : SystemAt) (c : ℕ) → SystemOk plan past sys → (protocol_state past).accepted (c * 2 ^ 64) ≡ true → ⊥
no_first plan past sys c ok accepted = never (c * 2 ^ 64 % 2 ^ 64) (rest c) (accepted_begun plan past sys (c * 2 ^ 64) ok accepted)
  where
    rest : (c : ℕ) → c * 2 ^ 64 % 2 ^ 64 ≡ 0
    rest c = omega arith

    never : (n : ℕ) → n ≡ 0 → 0 < n → ⊥
    never n e l = omega (arith, e)

pub clients_faithful : (plan : ℕ → Plan) (events : List Event) (past : List Labelled) (sys : SystemAt) (answered : ℕ → ClientHistory) → SystemOk plan past sys → ((c : ℕ) → HistoryInvariant events past sys c (answered c)) → IsFaithful events past
clients_faithful plan events past sys answered ok stories = faithful events past (λ c. story_files plan events past sys c (answered c) ok (stories c)) (λ c accepted. no_first plan past sys c ok accepted)
