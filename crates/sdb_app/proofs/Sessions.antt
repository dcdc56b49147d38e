-- What `sql` promises of its work, begun with the places that there were before; and a session over stores of which less is known.
use Rattle.std.proofs.Common.{◌≡◌, ◌∙◌, ℕ, ℤ, List, [], ◌∷◌, ◌++◌, drop, map, length, Option, refl, sym, ap, subst}
use Rattle.std.specs.Prelude.{IfSome, IsSome, ◌<◌}
use Rattle.sdb_types.specs.Bytes.{HasRisen}
use Rattle.sdb_app.specs.Types.{CatalogRefused, Place, SessionRefused, Table}
use Rattle.sdb_stores.specs.Views.{Attached, StoreView as Counted, AreDistinct, home, names_of, place_of, route_of}
use Rattle.sdb_contents.specs.Board.{AreUsable, contents_of_views}
use Rattle.sdb_catalog.specs.Calls.{first_contents}
use Rattle.sdb_catalog.specs.Known.{IsBadIn, IsCatalogIn}
use Rattle.law_clients.specs.Database.{Database, database_of}
use Rattle.law_clients.specs.Session.{AreNewIds, Exchange, IsSerialSession, faults_in}
use Rattle.law_clients.specs.SessionTurns.{IsWellFormed}
use Rattle.sdb_shell.specs.Answering.{database_in}
use Rattle.sdb_shell.specs.Drawn.{drawn_id}
use Rattle.sdb_shell.specs.Sessions.{FaultsWithin, IsSession}
use Rattle.sdb_shell.specs.declared.refused.SessionRefused.TheVariants as refused
use Rattle.sdb_shell.specs.Session.{CutShort, IsAnsweredSoFar, IsCutSession, IsWhole, Refused, Starves}
use Rattle.sdb_app.specs.declared.status.Status.{Status}
use Rattle.sdb_app.specs.Ends.{Ends, Work}
use Rattle.sdb_app.specs.Sql.{HasEndedSession, IfFault, IsCatalogOpened, IsCatalogUnopened, stores_with}
use Rattle.sdb_app.specs.Sql.HasEndedSession.{Cut, Unopened, Whole}
use Rattle.sdb_app.proofs.Headline.{begun_with}
use Rattle.sdb_app.proofs.Schemas.{read_before, unread_before}

-- The same stores with the same places, of which no more is known.
pub record AreLess (less more : Attached) : Type 0 where
  pub places : more.places ≡ less.places
  pub views : more.views ≡ less.views
  pub where_known : (at : ℕ) → less.known at → more.known at

fit_more : (catalog : List Table) (less more : Attached) → AreLess less more → AreUsable catalog less → AreUsable catalog more
fit_more catalog less more l f = record {
  some = subst (λ (ss : List Counted). 0 < length ss) (sym l.views) f.some;
  distinct = subst (λ (ss : List Counted). AreDistinct (names_of ss)) (sym l.views) f.distinct;
  homed = λ ns. subst (λ (ps : List Place). IfSome (route_of ns ps) (λ store. IsSome (place_of store (names_of more.views)))) (sym l.places)
      (subst (λ (ss : List Counted). IfSome (route_of ns less.places) (λ store. IsSome (place_of store (names_of ss)))) (sym l.views) (f.homed ns));
  where_known = λ table about. subst (λ (ps : List Place). more.known (home table.ns ps (names_of more.views))) (sym l.places)
      (subst (λ (ss : List Counted). more.known (home table.ns less.places (names_of ss))) (sym l.views) (l.where_known _ (f.where_known table about)));
}

same_database : (less more : Attached) → AreLess less more → database_in more ≡ database_in less
same_database less more l = ap (λ ps. database_of ps (contents_of_views more.views)) l.places ∙ ap (λ ss. database_of less.places (contents_of_views ss)) l.views

pub session_less : (catalog : List Table) (old new old' new' : Attached) (clock clock_then : Option (List ℤ)) (ids ids_then : Option (List ℕ)) (es : List Exchange) → AreLess old' old → AreLess new' new → IsSession catalog old new clock clock_then ids ids_then es → IsSession catalog old' new' clock clock_then ids ids_then es
session_less catalog old new old' new' clock clock_then ids ids_then es o n so = record {
  moments = so.moments;
  drawn = so.drawn;
  spare = so.spare;
  draws = so.draws;
  begun = so.begun;
  accepted = so.accepted;
  faults = subst (λ (ss : List Counted). FaultsWithin (faults_in es) ss new'.views) o.views (subst (λ (ss : List Counted). FaultsWithin (faults_in es) old.views ss) n.views so.faults);
  serial = λ f. subst (λ (d : Database). (w : IsWellFormed catalog d) → AreNewIds catalog d (map drawn_id (so.drawn ++ so.spare ∷ [])) → IsSerialSession catalog d (database_in new') w.tables es) (same_database old' old o)
      (λ w ids. subst (λ (d : Database). IsSerialSession catalog (database_in old) d w.tables es) (same_database new' new n) (so.serial (fit_more catalog old' old o f) w ids));
}

pub whole_less : (catalog : List Table) (old new old' new' : Attached) (clock clock_then : Option (List ℤ)) (ids ids_then written written_then remaining remaining_then : Option (List ℕ)) → AreLess old' old → AreLess new' new → IsWhole catalog old new clock clock_then ids ids_then written written_then remaining remaining_then → IsWhole catalog old' new' clock clock_then ids ids_then written written_then remaining remaining_then
whole_less catalog old new old' new' clock clock_then ids ids_then written written_then remaining remaining_then o n h = record {
  text = h.text;
  es = h.es;
  accepted = h.accepted;
  ends = h.ends;
  most = h.most;
  fit = h.fit;
  answered = h.answered;
  output = h.output;
  session = session_less catalog old new old' new' clock clock_then ids ids_then h.es o n h.session;
}

so_far_less : (catalog : List Table) (old new old' new' : Attached) (clock clock_then : Option (List ℤ)) (ids ids_then written written_then left left_then : Option (List ℕ)) (used n : ℕ) → AreLess old' old → AreLess new' new → IsAnsweredSoFar catalog old new clock clock_then ids ids_then written written_then left left_then used n → IsAnsweredSoFar catalog old' new' clock clock_then ids ids_then written written_then left left_then used n
so_far_less catalog old new old' new' clock clock_then ids ids_then written written_then left left_then used n o l h = record {
  lines = h.lines;
  es = h.es;
  accepted = h.accepted;
  fit = h.fit;
  counted = h.counted;
  number = h.number;
  answered = h.answered;
  output = h.output;
  session = session_less catalog old new old' new' clock clock_then ids ids_then h.es o l h.session;
}

pub cut_less : (catalog : List Table) (old new old' new' : Attached) (clock clock_then : Option (List ℤ)) (ids ids_then written written_then remaining remaining_then : Option (List ℕ)) (why : SessionRefused) → AreLess old' old → AreLess new' new → IsCutSession catalog old new clock clock_then ids ids_then written written_then remaining remaining_then why → IsCutSession catalog old' new' clock clock_then ids ids_then written written_then remaining remaining_then why
cut_less catalog old new old' new' clock clock_then ids ids_then written written_then remaining remaining_then why o l (Refused h) = Refused (record {
  n = h.n;
  used = h.used;
  used_then = h.used_then;
  left = h.left;
  ahead = h.ahead;
  before = so_far_less catalog old new old' new' clock clock_then ids ids_then written written_then remaining h.left h.used h.n o l h.before;
  refused = h.refused;
})
cut_less catalog old new old' new' clock clock_then ids ids_then written written_then remaining remaining_then why o l (CutShort kind h) = CutShort kind (record {
  lines = h.lines;
  line = h.line;
  end = h.end;
  es = h.es;
  last = h.last;
  ahead = h.ahead;
  written_mid = h.written_mid;
  accepted = h.accepted;
  fit = h.fit;
  fits = h.fits;
  some = h.some;
  answered = h.answered;
  output = h.output;
  prefix = h.prefix;
  session = session_less catalog old new old' new' clock clock_then ids ids_then (h.es ++ h.last ∷ []) o l h.session;
})
cut_less catalog old new old' new' clock clock_then ids ids_then written written_then remaining remaining_then why o l (Starves is h) = Starves is (record {
  n = h.n;
  used = h.used;
  left = h.left;
  held = h.held;
  clock_mid = h.clock_mid;
  ids_mid = h.ids_mid;
  before = so_far_less catalog old (record old { views = h.held }) old' (record old' { views = h.held }) clock h.clock_mid ids h.ids_mid written written_then remaining h.left h.used h.n o
      (record { places = o.places; views = refl; where_known = o.where_known }) h.before;
})

---- what `sql` promises, begun with the places that there were before

pub opened_before : (before : Attached) (work : Work) (catalog : List Table) (places : List Place) (mid : List Counted) → work.old.views ≡ before.views → ((at : ℕ) → before.known at → work.old.known at) → IsCatalogOpened work catalog places mid → IsCatalogOpened (begun_with before work) catalog places mid
opened_before before work catalog places mid same where_known h = record {
  opened = record { entries = h.opened.entries; read = read_before before work.old mid h.opened.entries same where_known h.opened.read; tables = h.opened.tables; placed = h.opened.placed };
  known = λ answered. subst (λ (ss : List Counted). IsCatalogIn (names_of ss) (first_contents ss) catalog places) same (h.known (where_known 0 answered));
  unchanged = λ answered. h.unchanged (where_known 0 answered) ∙ ap first_contents same;
  others = h.others ∙ ap (λ (ss : List Counted). drop 1 ss) same;
}

pub unopened_before : (before : Attached) (work : Work) (cause : CatalogRefused) → work.old.views ≡ before.views → ((at : ℕ) → before.known at → work.old.known at) → IsCatalogUnopened work cause → IsCatalogUnopened (begun_with before work) cause
unopened_before before work cause same where_known h = record {
  refused = unread_before before work.old work.left cause same where_known h.refused;
  bad = λ answered. subst (λ (ss : List Counted). IsBadIn (names_of ss) (first_contents ss) cause) same (h.bad (where_known 0 answered));
  unchanged = λ answered. h.unchanged (where_known 0 answered) ∙ ap first_contents same;
  others = h.others ∙ ap (λ (ss : List Counted). drop 1 ss) same;
}

-- stores with these places, as they are known from the call's begin
pub less_before : (before : Attached) (work : Work) (places : List Place) (store_contents : List Counted) → ((at : ℕ) → before.known at → work.old.known at) → AreLess (stores_with (begun_with before work) places store_contents) (stores_with work places store_contents)
less_before before work places store_contents where_known = record { places = refl; views = refl; where_known = where_known }

fault_before : (before : Attached) (run : Ends) (e : SessionRefused) → IfFault run e → IfFault (record run { work = begun_with before run.work }) e
fault_before before run refused.ReadFault f = f
fault_before before run refused.WriteFault f = f
fault_before before run (refused.BadLine n) f = f
fault_before before run (refused.Limit n which) f = f
fault_before before run refused.NoMemory f = f

-- a fault is that of the source or the sink
pub fault_of : (run : Ends) (e : SessionRefused) → (e ≡ refused.ReadFault → HasRisen run.work.input.faults run.work.rest.faults) → (e ≡ refused.WriteFault → HasRisen run.output.faults run.written.faults) → IfFault run e
fault_of run refused.ReadFault reads writes = reads refl
fault_of run refused.WriteFault reads writes = writes refl
fault_of run (refused.BadLine n) reads writes = tt
fault_of run (refused.Limit n which) reads writes = tt
fault_of run refused.NoMemory reads writes = tt

pub session_before : (before : Attached) (run run' : Ends) (s : Status) → run.work.old.views ≡ before.views → ((at : ℕ) → before.known at → run.work.old.known at) → run' ≡ record run { work = begun_with before run.work } → HasEndedSession run s → HasEndedSession run' s
session_before before run run' s same where_known is h = subst (λ (e : Ends). HasEndedSession e s) (sym is) (so h)
  where
    so : HasEndedSession run s → HasEndedSession (record run { work = begun_with before run.work }) s
    so (Unopened cause h is unread unwritten) = Unopened cause (unopened_before before run.work cause same where_known h) is unread unwritten
    so (Whole catalog places mid opened whole is) = Whole catalog places mid (opened_before before run.work catalog places mid same where_known opened)
        (whole_less catalog _ _ _ _ run.clock run.clock_then run.ids run.ids_then run.output.bytes run.written.bytes run.work.input.bytes run.work.rest.bytes (less_before before run.work places mid where_known) (less_before before run.work places run.work.left where_known) whole) is
    so (Cut catalog places mid cause opened cut fault is) = Cut catalog places mid cause (opened_before before run.work catalog places mid same where_known opened)
        (cut_less catalog _ _ _ _ run.clock run.clock_then run.ids run.ids_then run.output.bytes run.written.bytes run.work.input.bytes run.work.rest.bytes cause (less_before before run.work places mid where_known) (less_before before run.work places run.work.left where_known) cut) (fault_before before run cause fault) is
