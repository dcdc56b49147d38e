-- What a command promises of its work, begun with the places that there were before.
use Rattle.std.proofs.Common.{◌≡◌, ◌∙◌, ℕ, List, refl, subst}
use Rattle.sdb_stores.specs.Views.{Attached, StoreView as Counted, names_of}
use Rattle.sdb_words.specs.declared.command.Command.{Command}
use Rattle.sdb_words.specs.declared.command.Command.TheVariants as command
use Rattle.sdb_words.specs.Commands.{AreWordsOf}
use Rattle.sdb_app.specs.declared.status.Status.{Status}
use Rattle.sdb_app.specs.Ends.{Draws, Ends, Stream, Work, draws_of}
use Rattle.sdb_app.specs.Promise.{EndsAs, EndsOnce, HasEnded, IsNoCommand, IsNotThere, promise_of}
use Rattle.sdb_app.specs.Promise.EndsOnce.{Answered, Stopped}
use Rattle.sdb_app.specs.Promise.EndsAs.{Once, Session}
use Rattle.sdb_app.specs.Promise.HasEnded.{NoCommand, OfCommand}
use Rattle.sdb_app.proofs.Headline.{bench_stops_before, benched_before, begun_with, replay_stops_before, replayed_before}
use Rattle.sdb_app.proofs.Schemas.{schema_kept_before, schema_stops_before}
use Rattle.sdb_app.proofs.Sessions.{session_before}
use Rattle.sdb_app.proofs.Retiring.{retire_stops_before, retired_before}
use Rattle.sdb_app.proofs.Alters.{alter_stops_before, altered_before}
use Rattle.sdb_app.proofs.Loads.{export_stops_before, exported_before, load_stops_before, loaded_before}

-- The work of a command began with the same stores, of which no fewer had known contents.
pub record BeginsAs (before : Attached) (work : Work) : Type 0 where
  pub same : work.old.views ≡ before.views
  pub where_known : (at : ℕ) → before.known at → work.old.known at

pub answers_before : (before : Attached) (work : Work) (d : Draws) → BeginsAs before work → (c : Command) (text : List ℕ) → (promise_of c work d).answers text → (promise_of c (begun_with before work) d).answers text
answers_before before work d b command.Replay text h = (replayed_before before work text b.same b.where_known h.0, h.1)
answers_before before work d b (command.Bench n) text h = (benched_before before work n text b.same b.where_known h.0, h.1)
answers_before before work d b (command.Schema places) text h = (schema_kept_before before work places text b.same b.where_known h.0, h.1)
answers_before before work d b command.Sql text h = absurd h
answers_before before work d b (command.Load table mode n) text h = loaded_before before work d table mode n text b.same b.where_known h
answers_before before work d b (command.Export table) text h = exported_before before work d table text b.same b.where_known h
answers_before before work d b (command.Retire from to) text h = (retired_before before work (record { from = from; to = to }) text b.same b.where_known h.0, h.1)
answers_before before work d b (command.Alter table column kind) text h = (altered_before before work table (record { name = column; kind = kind }) text b.same b.where_known h.0, h.1)
answers_before before work d b command.Audit text h = absurd h.0

not_there_before : (before : Attached) (work : Work) → BeginsAs before work → (s : Status) → IsNotThere work s → IsNotThere (begun_with before work) s
not_there_before before work b s h = (h.0, h.1 ∙ b.same, h.2)

pub stops_before : (before : Attached) (work : Work) (d : Draws) → BeginsAs before work → (c : Command) (s : Status) → (promise_of c work d).stops s → (promise_of c (begun_with before work) d).stops s
stops_before before work d b command.Replay s h = (replay_stops_before before work s b.same b.where_known h.0, h.1)
stops_before before work d b (command.Bench n) s h = (bench_stops_before before work n s b.same b.where_known h.0, h.1)
stops_before before work d b (command.Schema places) s h = (schema_stops_before before work places s b.same b.where_known h.0, h.1)
stops_before before work d b command.Sql s h = absurd h
stops_before before work d b (command.Load table mode n) s h = load_stops_before before work d table mode n s b.same b.where_known h
stops_before before work d b (command.Export table) s h = export_stops_before before work d table s b.same b.where_known h
stops_before before work d b (command.Retire from to) s h = (retire_stops_before before work (record { from = from; to = to }) s b.same b.where_known h.0, h.1)
stops_before before work d b (command.Alter table column kind) s h = (alter_stops_before before work table (record { name = column; kind = kind }) s b.same b.where_known h.0, h.1)
stops_before before work d b command.Audit s h = (not_there_before before work b s h.0, h.1)

once_before : (before : Attached) (work : Work) (d : Draws) → BeginsAs before work → (c : Command) (output written : Stream) (s : Status) → EndsOnce c work d output written s → EndsOnce c (begun_with before work) d output written s
once_before before work d b c output written s (Answered h) = Answered (record { text = h.text; answer = answers_before before work d b c h.text h.answer; ended = h.ended })
once_before before work d b c output written s (Stopped h) = Stopped (record { cause = stops_before before work d b c s h.cause; unwritten = h.unwritten })

-- A call that ended, begun so.
abbrev pub ends_with : Attached → Ends → Ends
ends_with before run = record run { work = begun_with before run.work }

as_before : (before : Attached) (run : Ends) → BeginsAs before run.work → (c : Command) (s : Status) → EndsAs c run s → EndsAs c (ends_with before run) s
as_before before run b c s (Once h) = Once (once_before before run.work (draws_of run) b c run.output run.written s h)
as_before before run b c s (Session is h) = Session is (session_before before run (ends_with before run) s b.same b.where_known refl h)

pub ended_before : (words : List (List ℕ)) (before : Attached) (run : Ends) → BeginsAs before run.work → (s : Status) → HasEnded words run s → HasEnded words (ends_with before run) s
ended_before words before run b s (OfCommand c are h) =
    OfCommand c (subst (λ (ss : List Counted). AreWordsOf (names_of ss) c words) b.same are) (as_before before run b c s h)
ended_before words before run b s (NoCommand none h) =
    NoCommand (subst (λ (ss : List Counted). IsNoCommand (names_of ss) words s) b.same none) (record { unchanged = h.unchanged ∙ b.same; unread = h.unread; unwritten = h.unwritten; undrawn = h.undrawn })
