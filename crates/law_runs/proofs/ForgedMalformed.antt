-- A SELECT that finds a malformed record, and is answered otherwise than BadRecord of it, or later, is refused.
use Rattle.std.proofs.Common.{◌≡◌, ◌≢◌, ◌⊎◌, inl, inr, ℕ, false, true, List, [], ◌∷◌, Some, refl, ap, ◌∙◌}
use Rattle.std.specs.Prelude.{if◌then◌else◌, is_some}
use Rattle.std.proofs.lemmas.List.Elements.{Contains-append_left, Contains-push}
use Rattle.law_runs.specs.Types.{Answer, Key, Record, Statement, TxId, Value}
use Rattle.sdb_types.specs.declared.record.Reply.TheVariants as reply
use Rattle.sdb_types.specs.declared.record.Request.TheVariants as ask
use Rattle.sdb_record.specs.Coordinator.{coordinator_key_of, is_coordinator_table}
use Rattle.sdb_model.specs.declared.answer.Answer.TheVariants as answer
use Rattle.sdb_model.specs.declared.event.How.TheVariants.{Seen}
use Rattle.sdb_model.specs.Calls.{StoreCall}
use Rattle.sdb_model.specs.Exec.{table_of}
use Rattle.sdb_model.specs.Transactions.{Executed}
use Rattle.law_runs.specs.Complete.{IsOnTable}
use Rattle.law_runs.specs.Forged.{MeetsMalformed, SelectOn, answers_bad, answers_bad_later, answers_rows}
use Rattle.law_runs.specs.Malformed.{FindsMalformed, HasUnresolved, MalformedAreAnswered, MalformedEndAtOnce}
use Rattle.law_runs.proofs.Statements.{none_in}

module _ (f : SelectOn) (key : Key) (r : Record) (h : MeetsMalformed f key r) where
  -- its BEGIN, and the SELECT with its answer
  abbrev begun : Executed
  begun = record { accepted = 1; text = f.on.begin; answer = Some answer.Done; reached = 1 }

  abbrev selected : ℕ → Answer → Executed
  selected n a = record { accepted = 2; text = f.on.text; answer = Some a; reached = n }

  abbrev found_at : ℕ → StoreCall
  found_at n = record { at = n; store = []; request = ask.Get key; how = Seen; reply = reply.Found (Some r) }

  on_table : IsOnTable f.on.text f.on.statement
  on_table = record { reads = f.on.reads; table = ap (λ (st : Statement). is_some (table_of st)) f.is }

  -- its first call found the record
  abbrev finds : (calls : List StoreCall) → FindsMalformed (found_at 3 ∷ calls) [] r
  finds calls = record {
    read = found_at 3;
    rest = [];
    among = Contains-append_left (found_at 3 ∷ []) calls (found_at 3) (Contains-push [] (found_at 3));
    reads = ap (λ b. if b then false else true) (ap is_coordinator_table h.inside ∙ f.on.apart);
    found = refl;
    passed = tt;
    malformed = h.malformed;
  }

  pub rows_refused : (rows : List (List Value)) → MalformedAreAnswered (answers_rows f key r rows) → ⊥
  rows_refused rows law = law 1 (selected 3 (answer.Rows rows)) f.on.statement (answer.Rows rows) [] r (Contains-push (begun ∷ []) (selected 3 (answer.Rows rows))) refl on_table (finds [])

  pub other_refused : (other : Key) → other ≢ r.key → MalformedAreAnswered (answers_bad f key r other) → ⊥
  other_refused other apart law = by (law 1 (selected 3 (answer.BadRecord other)) f.on.statement (answer.BadRecord other) [] r (Contains-push (begun ∷ []) (selected 3 (answer.BadRecord other))) refl on_table (finds []))
    where
      by : (other ≡ r.key) ⊎ ((id : TxId) × HasUnresolved [] id × (other ≡ coordinator_key_of id)) → ⊥
      by (inl e) = apart e
      by (inr z) = none_in z.1.found z.1.among

  pub later_refused : (other : Key) → MalformedEndAtOnce (answers_bad_later f key r other) → ⊥
  later_refused other law =
      let z = law 1 (selected 4 (answer.BadRecord other)) f.on.statement (answer.BadRecord other) [] r (Contains-push (begun ∷ []) (selected 4 (answer.BadRecord other))) refl on_table (finds (found_at 4 ∷ [])) tt in
      two z.only
    where
      two : (found_at 3 ∷ found_at 4 ∷ []) ≡ found_at 3 ∷ [] → ⊥
      two e = cc
