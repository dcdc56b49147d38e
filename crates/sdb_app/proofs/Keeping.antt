-- Stores that are kept, or all but one.
use Rattle.std.proofs.Common.{◌≡◌, ◌≢◌, ◌∙◌, ℕ, ◌≤◌, ◌+◌, List, refl, sym, ap, subst}
use Rattle.sdb_stores.specs.Views.{Attached, StoreView as Counted, names_of, total_faults}
use Rattle.sdb_words.specs.declared.command.Command.{Command}
use Rattle.sdb_words.specs.declared.command.Command.TheVariants as command
use Rattle.sdb_words.specs.Commands.{AreWordsOf}
use Rattle.sdb_contents.specs.Dropped.{IsRetired}
use Rattle.sdb_contents.specs.Retired.{Sides}
use Rattle.sdb_app.specs.Ends.{AreKeptBut, AreKeptOr}
use Rattle.sdb_app.specs.Ends.AreKeptOr.{Dropped, Kept}
use Rattle.sdb_app.specs.Promise.{AnswersOnce, Drops, WordsDrop}
use Rattle.sdb_app.proofs.Headline.{kept_more, kept_same}

-- a store that was retired, and dropped
pub kept_retired : (s : Sides) (n : ℕ) (old new : Attached) → IsRetired s n old new → AreKeptOr (λ name. name ≡ s.from) old new
kept_retired s n old new h = Dropped s.from refl (record {
  mid = h.mid;
  names = h.goes.names;
  counted = h.goes.counted;
  at = h.dropped.at;
  found = h.dropped.found;
  rest = h.dropped.rest;
  before = h.dropped.before;
  after = h.dropped.after;
})

-- the command that retires it
pub kept_by : (c : Command) (from to : List ℕ) (old new : Attached) → c ≡ command.Retire from to → AreKeptOr (λ name. name ≡ from) old new → AreKeptOr (Drops c) old new
kept_by c from to old new is (Kept h) = Kept h
kept_by c from to old new is (Dropped name same h) = Dropped name (to, is ∙ ap (λ (n : List ℕ). command.Retire n to) (sym same)) h

but_before : (name : List ℕ) (before mid new : Attached) → mid.views ≡ before.views → ((at : ℕ) → before.known at → mid.known at) → AreKeptBut name mid new → AreKeptBut name before new
but_before name before mid new same where_known h = record {
  mid = h.mid;
  names = h.names ∙ ap names_of same;
  counted = subst (λ (ss : List Counted). total_faults ss ≤ total_faults h.mid) same h.counted;
  at = h.at;
  found = h.found;
  rest = h.rest;
  before = λ i inside t. h.before i inside (where_known i t);
  after = λ i most t. h.after i most (where_known (i + 1) t);
}

-- words that are those of a command, over stores whose places were accepted away first
pub kept_words : (words : List (List ℕ)) (c : Command) (before mid new : Attached) → mid.views ≡ before.views → ((at : ℕ) → before.known at → mid.known at) → AreWordsOf (names_of mid.views) c words → AreKeptOr (Drops c) mid new
    → AreKeptOr (WordsDrop (names_of before.views) words) before new
kept_words words c before mid new same where_known are (Kept h) = Kept (kept_more before mid new (kept_same before mid same where_known) h)
kept_words words c before mid new same where_known are (Dropped name drops h) =
    Dropped name (drops.0, subst (λ (ss : List Counted). AreWordsOf (names_of ss) (command.Retire name drops.0) words) same (subst (λ (x : Command). AreWordsOf (names_of mid.views) x words) drops.1 are)) (but_before name before mid new same where_known h)

-- Words of a command that answers once.
pub answers_once : (stores : List (List ℕ)) (c : Command) (words : List (List ℕ)) → AreWordsOf stores c words → c ≢ command.Sql → AnswersOnce stores c
answers_once stores command.Replay words are once = tt
answers_once stores (command.Bench n) words (is, within) once = within.1
answers_once stores (command.Schema places) words are once = tt
answers_once stores command.Sql words are once = absurd (once refl)
answers_once stores (command.Load table mode n) words (is, named, within) once = within
answers_once stores (command.Export table) words are once = tt
answers_once stores (command.Retire from to) words (is, can) once = record { from = can.from_attached; to = can.to_attached; apart = can.differ; stays = can.stays }
answers_once stores (command.Alter table column kind) words (word, is, named, column_named, kind_is) once = column_named
answers_once stores command.Audit words are once = tt
