-- Each event keeps what the transactions of a client have read tied to the calls of its statements.
use Rattle.std.proofs.Common.{◌≡◌, ◌≢◌, ◌≤◌, ◌+◌, ℕ, ℤ, Bool, true, false, List, [], ◌∷◌, ◌++◌, length, Option, Some, None, IfSome, refl, sym, ap, ◌∙◌, subst, arith, ◌⊎◌, inl, inr}
use Rattle.std.specs.Prelude.{◌==◌, ◌&&◌, if◌then◌else◌, is_some, not}
use Rattle.std.specs.Cmp.{tied_itself}
use Rattle.std.specs.Cmp.Lexicographic.{lists_total}
use Rattle.std.specs.List.{cons_option}
use Rattle.std.specs.Option.{option_map_or}
use Rattle.std.specs.Ordering.{is_eq}
use Rattle.std.proofs.lemmas.Bool.Decides.{nat_tests}
use Rattle.std.proofs.lemmas.List.{append-nil, length-append}
use Rattle.law_clients.specs.Types.{Access, Answer, Event, How, Key, Keyed, Record, Reply, Request, TxId, Value}
use Rattle.sdb_types.specs.Contents.{CanAnswer, in_span, is_partition}
use Rattle.sdb_types.specs.ValueLaws.{value_total}
use Rattle.sdb_types.proofs.Public.{all_each as each_any, key_total, table_total}
use Rattle.sdb_record.specs.declared.access.Access.TheVariants as access
use Rattle.sdb_record.specs.Coordinator.{is_coordinator_table}
use Rattle.sdb_model.specs.declared.event.Event.TheVariants as event
use Rattle.sdb_model.specs.Calls.{StoreCall, calls_of, end_of}
use Rattle.sdb_model.specs.Events.{table_asked}
use Rattle.sdb_model.specs.ReadSet.{has_finished, has_read, read_finished, read_items}
use Rattle.sdb_model.specs.Rows.{Name}
use Rattle.sdb_model.specs.Transactions.{Executed, begins, ends}
use Rattle.law_protocol.specs.History.{at}
use Rattle.sdb_phases.specs.Commit.{Stage, Preparing, Checking, Deciding, Forward, Stopping, Back, Over}
use Rattle.sdb_phases.specs.Work.{Work}
use Rattle.sdb_snapshot.specs.Seen.{Seen, nothing, with_written}
use Rattle.law_clients.specs.Reads.{with_read}
use Rattle.law_clients.specs.ReadAt.{Done, IsOfData, ReadAt, read_pending, read_step}
use Rattle.law_clients.specs.System.{ClientAt, Committing, IsBy, Open, Reading, Resting, Stopped, RunsVacuum, commit_left}
use Rattle.law_clients.proofs.Lists.{each_more}
use Rattle.law_clients.specs.Calls.{IsMade, ReadsNothing, RecordsRead, ReadMade, WasAnswered, call_made, calls_since}
use Rattle.law_clients.specs.Left.{Execution}
use Rattle.law_clients.specs.Story.{Closed, Finished, Opened, Rest, txn_ended_at}
use Rattle.law_clients.specs.History.{ClientHistory, with_answered}
use Rattle.law_clients.proofs.Answered.{one_more}
use Rattle.law_clients.proofs.Bodily.{noted_later, noted_nothing, noted_read, noted_starts}
use Rattle.law_clients.proofs.ReadRecords.{read_made, read_notes}
use Rattle.law_clients.proofs.Since.{calls_just, since_more, since_now}
use Rattle.law_clients.specs.Invariant.{IsSilent}
use Rattle.law_clients.specs.Progress.{FinishesOn}
use Rattle.law_clients.specs.ReadSets.{ReadSetsOfClient, ReadSetsEnded, ReadSetInside, IsMadeSince, ReadSetOpened}
use Rattle.law_clients.proofs.InvariantOwn.{below, finished, ran_before, ran_here, settled_begin, settled_gap, settled_inside, settled_over}
use Rattle.sdb_txn.specs.Read.{request_of}

---- numbers of events

pub long : (events : List Event) (e : Event) → length (events ++ e ∷ []) ≡ 1 + length events
long events e = length-append events (e ∷ []) ∙ by (length events)
  where
    by : (n : ℕ) → n + 1 ≡ 1 + n
    by n = omega arith

later_at : (events : List Event) (e : Event) (n : ℕ) → n ≤ length events → n ≤ length (events ++ e ∷ [])
later_at events e n l = subst (λ m. n ≤ m) (sym (long events e)) (by n (length events) l)
  where
    by : (n m : ℕ) → n ≤ m → n ≤ 1 + m
    by n m l = omega (arith, l)

just_now : (events : List Event) (e : Event) → 1 + length events ≤ length (events ++ e ∷ [])
just_now events e = subst (λ m. 1 + length events ≤ m) (sym (long events e)) (by (length events))
  where
    by : (n : ℕ) → 1 + n ≤ 1 + n
    by n = omega arith

---- one transaction

pub inside_noted_later : (events : List Event) (c : ℕ) (e : Event) (inside : List Executed) (seen : Seen) → ReadSetInside events c inside seen → ReadSetInside (events ++ e ∷ []) c inside seen
inside_noted_later events c e inside seen ok = record {
  answered = each_any (WasAnswered events) (WasAnswered (events ++ e ∷ [])) inside (λ s was. record { answered = was.answered; before = later_at events e s.reached was.before }) ok.answered;
  as_read = noted_later events c inside seen e ok.answered ok.as_read;
}

pub starts_noted : (events : List Event) (c : ℕ) → ReadSetInside events c [] nothing
starts_noted events c = record { answered = tt; as_read = noted_starts events c }

-- what is written adds nothing to what was read
pub written_noted : (events : List Event) (c : ℕ) (inside : List Executed) (seen : Seen) (changes : List Keyed) → ReadSetInside events c inside seen → ReadSetInside events c inside (with_written seen changes)
written_noted events c inside seen changes ok = record { answered = ok.answered; as_read = ok.as_read }

-- a statement that is answered by the last event
abbrev pub IsJustAnswered : List Event → Executed → Type 0
IsJustAnswered events s = (is_some s.answer ≡ true) × (s.reached ≡ 1 + length events)

was_just : (events : List Event) (e : Event) (s : Executed) → IsJustAnswered events s → WasAnswered (events ++ e ∷ []) s
was_just events e s is = record { answered = is.0; before = subst (λ n. n ≤ length (events ++ e ∷ [])) (sym is.1) (just_now events e) }

-- a statement more noted nothing
pub inside_nothing : (events : List Event) (c : ℕ) (e : Event) (inside : List Executed) (seen : Seen) (s : Executed) → IsJustAnswered events s → ReadsNothing (events ++ e ∷ []) c s → ReadSetInside events c inside seen → ReadSetInside (events ++ e ∷ []) c (inside ++ s ∷ []) seen
inside_nothing events c e inside seen s is none ok =
    let now = inside_noted_later events c e inside seen ok in
    record {
      answered = each_more (WasAnswered (events ++ e ∷ [])) inside s now.answered (was_just events e s is);
      as_read = noted_nothing (events ++ e ∷ []) c inside seen s none now.as_read;
    }

-- a statement more noted what its read was done with
pub inside_read : (events : List Event) (c : ℕ) (e : Event) (inside : List Executed) (seen : Seen) (s : Executed) (a : Access) (images : List Record) → IsJustAnswered events s → RecordsRead (events ++ e ∷ []) c s a images → ReadSetInside events c inside seen
    → ReadSetInside (events ++ e ∷ []) c (inside ++ s ∷ []) (with_read seen a images)
inside_read events c e inside seen s a images is reads ok =
    let now = inside_noted_later events c e inside seen ok in
    record {
      answered = each_more (WasAnswered (events ++ e ∷ [])) inside s now.answered (was_just events e s is);
      as_read = noted_read (events ++ e ∷ []) c inside seen s a images reads now.as_read;
    }

---- the calls of a client

-- an event of another client is no call of it
pub other_call : (c d n : ℕ) (e : Event) → d ≢ c → IsBy d e → call_made c n e ≡ []
other_call c d n (event.Call client store q how r a) ne is = ap (λ b. cons_option (if b then Some (record { at = n; store = store; request = q; how = how; reply = r }) else None) []) (by (client == c) refl)
  where
    same : (m k : ℕ) → (m == k) ≡ true → m ≡ k
    same m k h = grind (arith, nat_tests)

    by : (b : Bool) → (client == c) ≡ b → b ≡ false
    by true h = absurd (ne (sym is ∙ same client c h))
    by false h = refl
other_call c d n (event.Take client text a) ne is = refl
other_call c d n (event.Stop client) ne is = refl
other_call c d n (event.Clock m) ne is = refl
other_call c d n (event.Idle client) ne is = refl
other_call c d n (event.Land number store q how r) ne is = absurd is
other_call c d n (event.Alter table column kind altered) ne is = absurd is

pub silent_call : (c n : ℕ) (e : Event) → IsSilent e → call_made c n e ≡ []
silent_call c n (event.Clock m) is = refl
silent_call c n (event.Idle d) is = refl
silent_call c n (event.Take d text a) is = absurd is
silent_call c n (event.Call d store q how r a) is = absurd is
silent_call c n (event.Stop d) is = absurd is
silent_call c n (event.Land number store q how r) is = absurd is
silent_call c n (event.Alter table column kind altered) is = absurd is

pub own_call : (c n : ℕ) (store : Name) (q : Request) (how : How) (r : Reply) (a : Option Answer) → call_made c n (event.Call c store q how r a) ≡ record { at = n; store = store; request = q; how = how; reply = r } ∷ []
own_call c n store q how r a = ap (λ b. cons_option (if b then Some (record { at = n; store = store; request = q; how = how; reply = r }) else None) []) (by c)
  where
    by : (c : ℕ) → (c == c) ≡ true
    by c = grind (arith, nat_tests)

-- an event that is no call of the client leaves what its read has made
made_stays : (events : List Event) (c : ℕ) (e : Event) (o : Option Executed) (y : ClientAt) → call_made c (1 + length events) e ≡ [] → IfSome o (λ w. w.accepted ≤ length events) → IsMadeSince events c o y → IsMadeSince (events ++ e ∷ []) c o y
made_stays events c e None (Reading i seen a s) none accepted made = tt
made_stays events c e (Some w) (Reading i seen a s) none accepted made =
    subst (λ ms. ReadMade ms a s) (sym (since_more events c w.accepted e accepted ∙ ap (λ ms. calls_since events c w.accepted ++ ms) none ∙ append-nil (calls_since events c w.accepted))) made
made_stays events c e o Resting none accepted made = tt
made_stays events c e o (Open i seen) none accepted made = tt
made_stays events c e o (Committing p s) none accepted made = tt
made_stays events c e o (RunsVacuum v) none accepted made = tt
made_stays events c e o Stopped none accepted made = tt

none_made : (events : List Event) (c : ℕ) (y : ClientAt) → IsMadeSince events c None y
none_made events c Resting = tt
none_made events c (Open i seen) = tt
none_made events c (Reading i seen a s) = tt
none_made events c (Committing p s) = tt
none_made events c (RunsVacuum v) = tt
none_made events c Stopped = tt

pub commit_made : (events : List Event) (c : ℕ) (o : Option Executed) (p : Work) (s : Stage) → IsMadeSince events c o (commit_left p s)
commit_made events c o p (Preparing i) = tt
commit_made events c o p (Checking i) = tt
commit_made events c o p (Deciding d) = tt
commit_made events c o p (Forward i) = tt
commit_made events c o p (Stopping a n) = tt
commit_made events c o p (Back a n i) = tt
commit_made events c o p (Over a) = tt

taken_later : (events : List Event) (e : Event) (o : Option Executed) → IfSome o (λ w. w.accepted ≤ length events) → IfSome o (λ w. w.accepted ≤ length (events ++ e ∷ []))
taken_later events e None h = tt
taken_later events e (Some w) h = later_at events e w.accepted h

---- a client

ended_noted_later : (events : List Event) (c : ℕ) (e : Event) (whole : List Finished) (ran : ℕ → Execution) → ReadSetsEnded events c whole ran → ReadSetsEnded (events ++ e ∷ []) c whole ran
ended_noted_later events c e whole ran ok k f h = inside_noted_later events c e f.body (ran k).seen (ok k f h)

opened_noted_later : (events : List Event) (c : ℕ) (e : Event) (rest : Rest) (r : Execution) → ReadSetOpened events c rest r → ReadSetOpened (events ++ e ∷ []) c rest r
opened_noted_later events c e (Closed gap) r ok = tt
opened_noted_later events c e (Opened gap b body) r ok = inside_noted_later events c e body r.seen ok

ended_noted_at : (events : List Event) (c : ℕ) (whole : List Finished) (ran : ℕ → Execution) (r : Execution) → ReadSetsEnded events c whole ran → ReadSetsEnded events c whole (at ran (length whole) r)
ended_noted_at events c whole ran r ok k f h = subst (λ (z : Execution). ReadSetInside events c f.body z.seen) (sym (ran_before ran (length whole) k r (below whole k f h))) (ok k f h)

-- An event that is no call of the client leaves what is so.
pub noted_stays : (events : List Event) (c : ℕ) (e : Event) (y : ClientAt) (x : ClientHistory) (ran : ℕ → Execution) → call_made c (1 + length events) e ≡ [] → ReadSetsOfClient events c y x ran → ReadSetsOfClient (events ++ e ∷ []) c y x ran
noted_stays events c e y x ran none ok = record {
  ended = ended_noted_later events c e x.whole ran ok.ended;
  opened = opened_noted_later events c e x.rest (ran (length x.whole)) ok.opened;
  accepted = taken_later events e x.waiting ok.accepted;
  made = made_stays events c e x.waiting y none ok.accepted ok.made;
}

module _ (events : List Event) (c : ℕ) (e : Event) (y : ClientAt) (x : ClientHistory) (ran : ℕ → Execution) (was : ReadSetsOfClient events c y x ran) where
  -- no statement was answered, and the client is elsewhere
  pub noted_elsewhere : (z : ClientAt) → IsMadeSince (events ++ e ∷ []) c x.waiting z → ReadSetsOfClient (events ++ e ∷ []) c z x ran
  noted_elsewhere z made = record {
    ended = ended_noted_later events c e x.whole ran was.ended;
    opened = opened_noted_later events c e x.rest (ran (length x.whole)) was.opened;
    accepted = taken_later events e x.waiting was.accepted;
    made = made;
  }

  -- a statement was accepted
  pub noted_asks : (z : ClientAt) (s : Executed) → s.accepted ≡ 1 + length events → IsMadeSince (events ++ e ∷ []) c (Some s) z → ReadSetsOfClient (events ++ e ∷ []) c z (record { whole = x.whole; rest = x.rest; waiting = Some s }) ran
  noted_asks z s now made = record {
    ended = ended_noted_later events c e x.whole ran was.ended;
    opened = opened_noted_later events c e x.rest (ran (length x.whole)) was.opened;
    accepted = subst (λ n. n ≤ length (events ++ e ∷ [])) (sym now) (just_now events e);
    made = made;
  }

  -- the open transaction's COMMIT was accepted, with what it has read
  pub noted_commits : (z : ClientAt) (s : Executed) (r : Execution) → s.accepted ≡ 1 + length events → r.seen ≡ (ran (length x.whole)).seen → IsMadeSince (events ++ e ∷ []) c (Some s) z → ReadSetsOfClient (events ++ e ∷ []) c z (record { whole = x.whole; rest = x.rest; waiting = Some s }) (at ran (length x.whole) r)
  noted_commits z s r now same made = record {
    ended = ended_noted_at (events ++ e ∷ []) c x.whole ran r (ended_noted_later events c e x.whole ran was.ended);
    opened = subst (ReadSetOpened (events ++ e ∷ []) c x.rest) (sym (ran_here ran (length x.whole) r)) (by x.rest (opened_noted_later events c e x.rest (ran (length x.whole)) was.opened));
    accepted = subst (λ n. n ≤ length (events ++ e ∷ [])) (sym now) (just_now events e);
    made = made;
  }
    where
      by : (rest : Rest) → ReadSetOpened (events ++ e ∷ []) c rest (ran (length x.whole)) → ReadSetOpened (events ++ e ∷ []) c rest r
      by (Closed gap) ok = tt
      by (Opened gap b body) ok = subst (ReadSetInside (events ++ e ∷ []) c body) (sym same) ok

  -- what was so of the open transaction
  pub open_noted : (gap : List Executed) (b : Executed) (body : List Executed) → x.rest ≡ Opened gap b body → ReadSetInside events c body (ran (length x.whole)).seen
  open_noted gap b body h = subst (λ (r : Rest). ReadSetOpened events c r (ran (length x.whole))) h was.opened

  -- a statement was answered inside of the open transaction
  pub noted_inside : (z : ClientAt) (s : Executed) (gap : List Executed) (b : Executed) (body : List Executed) (r : Execution) → x.rest ≡ Opened gap b body → ends s ≡ false → ReadSetInside (events ++ e ∷ []) c (body ++ s ∷ []) r.seen → ReadSetsOfClient (events ++ e ∷ []) c z (with_answered x s) (at ran (length x.whole) r)
  noted_inside z s gap b body r h goes_on ok = subst (λ t. ReadSetsOfClient (events ++ e ∷ []) c z t (at ran (length x.whole) r)) (sym (settled_inside x s gap b body h goes_on)) (record {
    ended = ended_noted_at (events ++ e ∷ []) c x.whole ran r (ended_noted_later events c e x.whole ran was.ended);
    opened = subst (λ (q : Execution). ReadSetInside (events ++ e ∷ []) c (body ++ s ∷ []) q.seen) (sym (ran_here ran (length x.whole) r)) ok;
    accepted = tt;
    made = none_made (events ++ e ∷ []) c z;
  })

  -- a statement ended it
  pub noted_over : (z : ClientAt) (s : Executed) (gap : List Executed) (b : Executed) (body : List Executed) → x.rest ≡ Opened gap b body → ends s ≡ true → ReadSetsOfClient (events ++ e ∷ []) c z (with_answered x s) ran
  noted_over z s gap b body h last = subst (λ t. ReadSetsOfClient (events ++ e ∷ []) c z t ran) (sym (settled_over x s gap b body h last)) (record {
    ended = λ k f m. by k f (one_more x.whole (finished gap b body s) k f m);
    opened = tt;
    accepted = tt;
    made = none_made (events ++ e ∷ []) c z;
  })
    where
      by : (k : ℕ) (f : Finished) → (txn_ended_at x.whole k ≡ Some f) ⊎ ((k ≡ length x.whole) × (f ≡ finished gap b body s)) → ReadSetInside (events ++ e ∷ []) c f.body (ran k).seen
      by k f (inl m) = ended_noted_later events c e x.whole ran was.ended k f m
      by k f (inr m) = subst (λ (g : Finished). ReadSetInside (events ++ e ∷ []) c g.body (ran k).seen) (sym m.1) (subst (λ n. ReadSetInside (events ++ e ∷ []) c body (ran n).seen) (sym m.0) (inside_noted_later events c e body (ran (length x.whole)).seen (open_noted gap b body h)))

  -- a statement was answered outside of transactions
  pub noted_gap : (z : ClientAt) (s : Executed) (gap : List Executed) → x.rest ≡ Closed gap → begins s ≡ false → ReadSetsOfClient (events ++ e ∷ []) c z (with_answered x s) ran
  noted_gap z s gap h plain = subst (λ t. ReadSetsOfClient (events ++ e ∷ []) c z t ran) (sym (settled_gap x s gap h plain)) (record {
    ended = ended_noted_later events c e x.whole ran was.ended;
    opened = tt;
    accepted = tt;
    made = none_made (events ++ e ∷ []) c z;
  })

  -- a transaction began
  pub noted_begun : (z : ClientAt) (s : Executed) (gap : List Executed) (r : Execution) → x.rest ≡ Closed gap → begins s ≡ true → r.seen ≡ nothing → ReadSetsOfClient (events ++ e ∷ []) c z (with_answered x s) (at ran (length x.whole) r)
  noted_begun z s gap r h starts none = subst (λ t. ReadSetsOfClient (events ++ e ∷ []) c z t (at ran (length x.whole) r)) (sym (settled_begin x s gap h starts)) (record {
    ended = ended_noted_at (events ++ e ∷ []) c x.whole ran r (ended_noted_later events c e x.whole ran was.ended);
    opened = subst (λ (q : Execution). ReadSetInside (events ++ e ∷ []) c [] q.seen) (sym (ran_here ran (length x.whole) r)) (subst (ReadSetInside (events ++ e ∷ []) c []) (sym none) (starts_noted (events ++ e ∷ []) c));
    accepted = tt;
    made = none_made (events ++ e ∷ []) c z;
  })

---- a read

-- An access of tables of records is not one of the coordinator's.
pub not_rows : (a : Access) → IsOfData a → is_coordinator_table (table_asked (request_of a)) ≡ false
not_rows (access.Get key) tables = untrue (is_coordinator_table key.table) (tables key (ap is_eq (tied_itself key_total key)))
  where
    untrue : (b : Bool) → not b ≡ true → b ≡ false
    untrue true h = absurd (cc)
    untrue false h = refl
not_rows (access.Scan span) tables = untrue (is_coordinator_table span.table) (tables inside there)
  where
    untrue : (b : Bool) → not b ≡ true → b ≡ false
    untrue true h = absurd (cc)
    untrue false h = refl

    part : Option (List Value) → List Value
    part None = []
    part (Some values) = values

    inside : Key
    inside = record { table = span.table; partition = part span.partition; clustering = [] }

    of_part : (o : Option (List Value)) → is_partition o (record { table = span.table; partition = part o; clustering = [] }) ≡ true
    of_part None = refl
    of_part (Some values) = ap is_eq (tied_itself (lists_total value_total) values)

    there : in_span span inside ≡ true
    there = ap (λ b. b && is_partition span.partition inside) (ap is_eq (tied_itself table_total span.table)) ∙ of_part span.partition

-- A read whose call was made and answered has made one call more since its statement was accepted.
pub since_read : (events : List Event) (c accepted : ℕ) (a : Access) (s : ReadAt) (store : Name) (q : Request) (how : How) (r : Reply) (now : ℤ) (o : Option Answer) → accepted ≤ length events → ReadMade (calls_since events c accepted) a s
    → read_pending a s ≡ Some q → CanAnswer q r → ReadMade (calls_since (events ++ event.Call c store q how r o ∷ []) c accepted) a (read_step s now r)
since_read events c accepted a s store q how r now o low made pending can =
    let m : StoreCall = record { at = 1 + length events; store = store; request = q; how = how; reply = r } in
    subst (λ ms. ReadMade ms a (read_step s now r)) (sym (since_more events c accepted (event.Call c store q how r o) low ∙ ap (λ ms. calls_since events c accepted ++ ms) (own_call c (1 + length events) store q how r o)))
    (read_made (calls_since events c accepted) m a s now q r made pending can (record { request = refl; reply = refl }))

pub made_reads : (events : List Event) (c : ℕ) (w : Option Executed) (i : TxId) (seen : Seen) (a : Access) (s : ReadAt) (store : Name) (q : Request) (how : How) (r : Reply) (now : ℤ) (o : Option Answer) → IfSome w (λ w. w.accepted ≤ length events)
    → IsMadeSince events c w (Reading i seen a s) → read_pending a s ≡ Some q → CanAnswer q r → IsMadeSince (events ++ event.Call c store q how r o ∷ []) c w (Reading i seen a (read_step s now r))
made_reads events c None i seen a s store q how r now o low made pending can = tt
made_reads events c (Some w) i seen a s store q how r now o low made pending can = since_read events c w.accepted a s store q how r now o low made pending can

-- Where by all calls up to a reply the read of a statement has not finished, which the reply answers, it has not.
pub notes_unfinished : (events : List Event) (c : ℕ) (store : Name) (q : Request) (how : How) (r : Reply) (s : Executed) (b : Answer) → IsJustAnswered events s → s.answer ≡ Some b → s.accepted ≤ length events → ((m : StoreCall) → IsMade m q r → read_finished (calls_since events c s.accepted ++ m ∷ []) b ≡ false)
    → has_read (events ++ event.Call c store q how r (Some b) ∷ []) c s ≡ false
notes_unfinished events c store q how r s b is answers low unfinished =
    let e : Event = event.Call c store q how r (Some b) in
    let m : StoreCall = record { at = 1 + length events; store = store; request = q; how = how; reply = r } in
    let ended : end_of (events ++ e ∷ []) s ≡ length (events ++ e ∷ []) = ap (λ x. if x then s.reached else length (events ++ e ∷ [])) is.0 ∙ is.1 ∙ sym (long events e) in
    let calls : calls_of (events ++ e ∷ []) c s ≡ calls_since events c s.accepted ++ m ∷ [] = calls_just (events ++ e ∷ []) c s ended ∙ since_more events c s.accepted e low ∙ ap (λ ms. calls_since events c s.accepted ++ ms) (own_call c (1 + length events) store q how r (Some b)) in
    ap (λ ms. has_finished ms s) calls ∙ ap (λ (o : Option Answer). option_map_or (read_finished (calls_since events c s.accepted ++ m ∷ [])) o false) answers ∙ unfinished m (record { request = refl; reply = refl })

-- A statement whose read was done, and has finished by its answer, notes what the read was done with.
pub notes_read : (events : List Event) (c : ℕ) (e : Event) (s : Executed) (b : Answer) (a : Access) (images : List Record) → IsJustAnswered events s → s.answer ≡ Some b → FinishesOn a images b → IsOfData a → ReadMade (calls_since (events ++ e ∷ []) c s.accepted) a (Done images) → RecordsRead (events ++ e ∷ []) c s a images
notes_read events c e s b a images is answers finishes tables made = record {
  finished = ap (λ ms. has_finished ms s) (calls_just (events ++ e ∷ []) c s ended) ∙ ap (λ (o : Option Answer). option_map_or (read_finished (calls_since (events ++ e ∷ []) c s.accepted)) o false) answers ∙ finishes (calls_since (events ++ e ∷ []) c s.accepted) made;
  read_set = ap read_items (calls_just (events ++ e ∷ []) c s ended) ∙ read_notes (calls_since (events ++ e ∷ []) c s.accepted) a images made (not_rows a tables);
}
  where
    ended : end_of (events ++ e ∷ []) s ≡ length (events ++ e ∷ [])
    ended = ap (λ b. if b then s.reached else length (events ++ e ∷ [])) is.0 ∙ is.1 ∙ sym (long events e)

-- after its own taking a statement has made no call
pub none_since : (events : List Event) (c : ℕ) (e : Event) → calls_since (events ++ e ∷ []) c (1 + length events) ≡ []
none_since events c e = since_now (events ++ e ∷ []) c (1 + length events) (subst (λ n. length (events ++ e ∷ []) ≤ n) (long events e) (same (length (events ++ e ∷ []))))
  where
    same : (n : ℕ) → n ≤ n
    same n = omega arith

-- A statement that is answered as it is accepted notes nothing.
pub at_once : (events : List Event) (c : ℕ) (e : Event) (s : Executed) → IsJustAnswered events s → s.accepted ≡ 1 + length events → ReadsNothing (events ++ e ∷ []) c s
at_once events c e s is now = inr (ap read_items (calls_just (events ++ e ∷ []) c s ended ∙ ap (calls_since (events ++ e ∷ []) c) now ∙ none_since events c e))
  where
    ended : end_of (events ++ e ∷ []) s ≡ length (events ++ e ∷ [])
    ended = ap (λ b. if b then s.reached else length (events ++ e ∷ [])) is.0 ∙ is.1 ∙ sym (long events e)
