-- The calls of a statement, one after the other.
use Rattle.std.proofs.Common.{◌⊎◌, inl, inr, arith, true, ◌≡◌, ◌≢◌, ℕ, ℤ, Bool, false, List, Option, Some, None, Result, Ok, refl, sym, subst, ◌∙◌}
use Rattle.std.specs.Prelude.{is_some}
use Rattle.sdb_shell.specs.Types.{Answer, Place, Refusal, Reply, Statement, Table, TxId}
use Rattle.sdb_model.specs.declared.answer.Answer.TheVariants as answer
use Rattle.sdb_types.proofs.Public.{none_some, some_is}
use Rattle.sdb_stores.specs.Views.{Attached, HaveCause, HaveRisen}
use Rattle.sdb_model.specs.Events.{table_asked}
use Rattle.sdb_contents.specs.Board.{GoOn, how_seen, contents_of_views}
use Rattle.sdb_contents.specs.declared.refused.CallRefused.TheVariants as refused
use Rattle.sdb_contents.proofs.Public.{fit_for, refused_after}
use Rattle.sdb_client.specs.Client.{ClientAt, IsIdle, ParsedPost, Parses, Taking, TextPost, out_of_memory}
use Rattle.law_clients.specs.About.{IsOfTables}
use Rattle.sdb_client.proofs.Public.{step_of_reply, step_of_text}
use Rattle.law_clients.proofs.Public.{asks_in, by_memory, called, faults_replied, faults_at_takes, own_at, replies, replies_in, replies_lead, starves, takes, takes_in, takings_lead, text_is_read}
use Rattle.law_clients.specs.Database.{Called, database_of}
use Rattle.law_clients.specs.Between.{Answers, LeadsTo, More, StatementEnds, Waits}
use Rattle.law_clients.specs.Chain.{Exchanged, Answers as Was}
use Rattle.law_clients.specs.Session.{is_of_fault, rejected}
use Rattle.law_clients.specs.Faults.{IsOfFault, IsAfterFault}
use Rattle.law_clients.specs.Working.{IsAtWork, IsEnded, LeadsOn, ExecutedBy}
use Rattle.sdb_shell.specs.Answering.{AreMade, HasCalled, IsAlone, IsAnswered, IsWorking, WaitsOver, database_in, exchange}

ok_one : (x y : Statement) → ◌≡◌ {A = Result Statement Refusal} (Ok x) (Ok y) → x ≡ y
ok_one x y e = cc

---- whatever the stores answer

pub works_lead : (now : ℤ) (old new : Attached) (c : ClientAt) (result : Option Answer) (d : ClientAt) → HasCalled now old c result new d → (catalog : List Table) (st : Statement) (opened : Bool) → rejected catalog opened (Ok st) ≡ None → IsAtWork st opened c → (moment : ℤ) (id : TxId) → LeadsOn catalog opened (Ok st) moment id result d
works_lead now old new c result d h catalog st opened stays works moment id = replies_lead (record { catalog = catalog; statement = st; opened = opened; stays = stays; moment = moment; id = id; before = c; works = works; reply = h.reply; now = now; result = result; after = d; took = h.took })

-- another call is pending
pub works_still : (now : ℤ) (old new : Attached) (c d : ClientAt) → HasCalled now old c None new d → (catalog : List Table) (st : Statement) (opened : Bool) → rejected catalog opened (Ok st) ≡ None → IsAtWork st opened c → IsAtWork st opened d
works_still now old new c d h catalog st opened stays works =
    let k = (works_lead now old new c None d h catalog st opened stays works now (record { 0 = 0 })).waits refl in
    subst (λ x. IsAtWork x opened d) (sym (ok_one st k.0 k.1)) k.3

-- what it works on, later
pub working : (c d : ClientAt) → IsWorking c → ((w : IsWorking c) → IsAtWork w.statement w.opened d) → IsWorking d
working c d w later = record { catalog = w.catalog; statement = w.statement; opened = w.opened; stays = w.stays; works = later w }

pub about_still : (now : ℤ) (old new : Attached) (c : ClientAt) (result : Option Answer) (d : ClientAt) → HasCalled now old c result new d → (catalog : List Table) → IsOfTables catalog c → IsOfTables catalog d
about_still now old new c result d h catalog about = replies_in catalog c h.request h.reply now h.can about (step_of_reply c h.request h.reply now h.pending result d h.took)

-- a call that leads to an answer of a fault, or on after a fault
called_of_fault : (now : ℤ) (old new : Attached) (c : ClientAt) (result : Option Answer) (d : ClientAt) → HasCalled now old c result new d → IsWorking c → IsOfFault result d → IsAfterFault c ⊎ HaveRisen old.views new.views
called_of_fault now old new c result d h w come =
    elim (faults_replied (record { catalog = w.catalog; statement = w.statement; opened = w.opened; stays = w.stays; moment = now; id = record { 0 = 0 }; before = c; works = w.works; reply = h.reply; now = now; result = result; after = d; took = h.took }) come) [
      | inl k ↦ inl k
      | inr f ↦ inr (subst (λ (r : Reply). HaveCause r old.views new.views) f h.cause)
    ]

-- a count that rose, over calls before and after
risen_before : (old mid new : Attached) → GoOn old mid → HaveRisen mid.views new.views → HaveRisen old.views new.views
risen_before old mid new goes h = refused_after old mid new.views refused.StoreFault goes h

risen_after : (old mid new : Attached) → HaveRisen old.views mid.views → GoOn mid new → HaveRisen old.views new.views
risen_after old mid new h goes = elim h [
  | inl rose ↦ inl (omega (arith, rose, goes.counted))
  | inr full ↦ inr (goes.full full)
]

pub faults_still : (now : ℤ) (old mid new : Attached) (c e : ClientAt) (result : Option Answer) (d : ClientAt) → GoOn old mid → ((w : IsWorking c) → IsAtWork w.statement w.opened e) → (IsWorking c → (IsAfterFault c → ⊥) → IsAfterFault e → HaveRisen old.views mid.views) → HasCalled now mid e result new d → GoOn mid new
    → IsWorking c → (IsAfterFault c → ⊥) → IsOfFault result d → HaveRisen old.views new.views
faults_still now old mid new c e result d goes works faults h on w none come = elim (called_of_fault now mid new e result d h (working c e w works) come) [
  | inl after ↦ risen_after old mid new (faults w none after) on
  | inr rose ↦ risen_before old mid new goes rose
]

---- where the client is alone

alone_leads : (now : ℤ) (old new : Attached) (c : ClientAt) (result : Option Answer) (d : ClientAt) → HasCalled now old c result new d → GoOn old new → (w : WaitsOver now old c) → LeadsTo w.catalog w.was w.fresh now (Ok w.statement) (database_in new) w.opened result d
alone_leads now old new c result d h goes w =
    replies
    (record {
      catalog = w.catalog;
      was = w.was;
      well_formed = w.well_formed;
      fresh = w.fresh;
      now = now;
      time = w.time;
      statement = w.statement;
      g = database_in old;
      h = database_in new;
      own = own_at old.places (contents_of_views old.views);
      own_then = own_at new.places (contents_of_views new.views);
      request = h.request;
      reply = h.reply;
      called = here;
      opened = w.opened;
      before = c;
      asked = h.pending;
      waits = w.waits;
      result = result;
      after = d;
      took = h.took;
    })
  where
    here : Called h.request h.reply (database_in old) (database_in new)
    here = subst (λ (ps : List Place). Called h.request h.reply (database_in old) (database_of ps (contents_of_views new.views))) (sym goes.places)
        (called old.places _ h.request (how_seen h.reply) h.reply (contents_of_views old.views) (contents_of_views new.views) (h.called (fit_for w.catalog old (table_asked h.request) (asks_in w.catalog c h.request w.about h.pending) w.fit)))

pub waits_still : (now : ℤ) (old new : Attached) (c d : ClientAt) → HasCalled now old c None new d → GoOn old new → (w : WaitsOver now old c) → Waits w.catalog w.was now w.statement (database_in new) w.opened d
waits_still now old new c d h goes w = by (alone_leads now old new c None d h goes w)
  where
    by : LeadsTo w.catalog w.was w.fresh now (Ok w.statement) (database_in new) w.opened None d → Waits w.catalog w.was now w.statement (database_in new) w.opened d
    by (More st is none waits) = subst (λ x. Waits w.catalog w.was now x (database_in new) w.opened d) (sym (ok_one w.statement st is)) waits
    by (Answers z some ends) = none_some z some

pub ends_now : (now : ℤ) (old new : Attached) (c : ClientAt) (a : Answer) (d : ClientAt) → HasCalled now old c (Some a) new d → GoOn old new → (w : WaitsOver now old c) → StatementEnds w.catalog w.was w.fresh now (Ok w.statement) (database_in new) w.opened a d
ends_now now old new c a d h goes w = by (alone_leads now old new c (Some a) d h goes w)
  where
    by : LeadsTo w.catalog w.was w.fresh now (Ok w.statement) (database_in new) w.opened (Some a) d → StatementEnds w.catalog w.was w.fresh now (Ok w.statement) (database_in new) w.opened a d
    by (More st is none waits) = none_some a (sym none)
    by (Answers z some ends) = subst (λ y. StatementEnds w.catalog w.was w.fresh now (Ok w.statement) (database_in new) w.opened y d) (sym (some_is a z some)) ends

-- a statement that waits, later
abbrev pub over_later : (now : ℤ) (old mid : Attached) (c e : ClientAt) → GoOn old mid → ((catalog : List Table) → IsOfTables catalog c → IsOfTables catalog e) → (w : WaitsOver now old c) → Waits w.catalog w.was now w.statement (database_in mid) w.opened e → WaitsOver now mid e
over_later now old mid c e goes about w waits = record { catalog = w.catalog; fit = goes.fit w.catalog w.fit; about = about w.catalog w.about; was = w.was; well_formed = w.well_formed; time = w.time; fresh = w.fresh; statement = w.statement; opened = w.opened; waits = waits }

-- the calls so far, and one more that is answered
pub made_after : (now : ℤ) (old mid new : Attached) (c e : ClientAt) (a : Answer) (d : ClientAt) → GoOn old mid → ((w : IsWorking c) → IsAtWork w.statement w.opened e) → ((catalog : List Table) → IsOfTables catalog c → IsOfTables catalog e)
    → (IsWorking c → (IsAfterFault c → ⊥) → IsAfterFault e → HaveRisen old.views mid.views) → ((w : WaitsOver now old c) → Waits w.catalog w.was now w.statement (database_in mid) w.opened e) → HasCalled now mid e (Some a) new d → GoOn mid new → AreMade now old c a new d
made_after now old mid new c e a d goes works about faults waits h on = record {
  ended = λ w moment id. (works_lead now mid new e (Some a) d h w.catalog w.statement w.opened w.stays (works w) moment id).ended a refl;
  about = λ catalog k. about_still now mid new e (Some a) d h catalog (about catalog k);
  fault = faults_still now old mid new c e (Some a) d goes works faults h on;
  alone = λ w. ends_now now mid new e a d h on (over_later now old mid c e goes about w (waits w));
}

---- a text is accepted

module _ (q : Taking) (vacuums : q.gate.vacuum_runs ≡ false) (opens : q.gate.open_elsewhere ≡ false) (text : List ℕ) (c : ClientAt) (idle : IsIdle c) (result : Option Answer) (d : ClientAt) (memory : result ≡ Some answer.NoMemory → d ≡ out_of_memory text c) (answered : result ≢ Some answer.NoMemory → TextPost q text c result d) where
  taken_by : (says : Result Statement Refusal) → Parses text says → (result ≢ Some answer.NoMemory → ParsedPost q says c result d) → ExecutedBy
  taken_by says reads took = record { taking = q; vacuums = vacuums; opens = opens; text = text; says = says; reads = reads; before = c; idle = idle; result = result; after = d; memory = memory; took = took }

  no_fault : (says : Result Statement Refusal) → Parses text says → (result ≢ Some answer.NoMemory → ParsedPost q says c result d) → IsOfFault result d → ⊥
  unfolding taken_by
  no_fault says reads took come = faults_at_takes (taken_by says reads took) come

  -- it is answered at once
  clean_at_once : (a : Answer) → result ≡ Some a → (says : Result Statement Refusal) → Parses text says → (result ≢ Some answer.NoMemory → ParsedPost q says c result d) → is_of_fault a ≡ true → (stores : Attached) → HaveRisen stores.views stores.views
  clean_at_once a e says reads took f stores = absurd (no_fault says reads took (subst (λ (r : Option Answer). IsOfFault r d) (sym e) f))

  leads : (says : Result Statement Refusal) → Parses text says → (result ≢ Some answer.NoMemory → ParsedPost q says c result d) → LeadsOn q.catalog (is_some c.txn) says q.now q.fresh result d
  leads says reads took = takings_lead (record { taking = q; vacuums = vacuums; opens = opens; text = text; says = says; reads = reads; before = c; idle = idle; result = result; after = d; memory = memory; took = took })

  about_taken : IsOfTables q.catalog c → IsOfTables q.catalog d
  about_taken about = takes_in q text c d result idle about (step_of_text q text c result d (record { memory = memory; answered = answered }))

  alone_taken : (stores : Attached) (w : IsAlone q.catalog q.fresh q.now stores c) (says : Result Statement Refusal) → Parses text says → ParsedPost q says c result d → LeadsTo q.catalog (database_in stores) q.fresh q.now says (database_in stores) w.opened result d
  alone_taken stores w says reads took =
      takes (record { taking = q; g = database_in stores; well_formed = w.well_formed; vacuums = vacuums; opens = opens; time = w.time; opened = w.opened; before = c; between = w.between; new = w.new; text = text; says = says; reads = reads; result = result; after = d; took = took })

  pub answered_at_once : (a : Answer) → result ≡ Some a → (stores : Attached) → IsAnswered q.catalog text q.fresh q.now stores c a stores d
  answered_at_once a e stores =
      by_memory result
      (λ f. let x = text_is_read text in record {
        says = x.0;
        reads = x.1;
        ended = (leads x.0 x.1 (λ n. absurd (n f))).ended a e;
        about = about_taken;
        fault = λ k. clean_at_once a e x.0 x.1 (λ n. absurd (n f)) k stores;
        alone = λ w. starves (exchange x.0 q.now q.fresh a) text d x.1 (some_is a answer.NoMemory (sym e ∙ f)) w.between (memory f);
      })
      (λ n. let x = answered n in record {
        says = x.0;
        reads = x.1;
        ended = (leads x.0 x.1 (λ m. x.2)).ended a e;
        about = about_taken;
        fault = λ k. clean_at_once a e x.0 x.1 (λ m. x.2) k stores;
        alone = λ w. by stores w x.0 (alone_taken stores w x.0 x.1 x.2);
      })
    where
      by : (stores : Attached) (w : IsAlone q.catalog q.fresh q.now stores c) (says : Result Statement Refusal) → LeadsTo q.catalog (database_in stores) q.fresh q.now says (database_in stores) w.opened result d → Exchanged q.catalog (database_in stores) w.opened (exchange says q.now q.fresh a) (database_in stores) d
      by stores w says (More st is none waits) = none_some a (sym none ∙ e)
      by stores w says (Answers z some ends) = Was (subst (λ y. StatementEnds q.catalog (database_in stores) q.fresh q.now says (database_in stores) w.opened y d) (some_is z a (sym some ∙ e)) ends)

  no_memory : result ≡ None → result ≢ Some answer.NoMemory
  no_memory e f = none_some answer.NoMemory (sym e ∙ f)

  pub works_then : result ≡ None → IsWorking d
  works_then e =
      let x = answered (no_memory e) in
      let k = (leads x.0 x.1 (λ m. x.2)).waits e in
      record { catalog = q.catalog; statement = k.0; opened = is_some c.txn; stays = subst (λ says. rejected q.catalog (is_some c.txn) says ≡ None) k.1 k.2; works = k.3 }

  pub answered_then : result ≡ None → (a : Answer) (old new : Attached) (e : ClientAt) → AreMade q.now old d a new e → IsAnswered q.catalog text q.fresh q.now old c a new e
  unfolding works_then leads
  answered_then none a old new e made =
      let x = answered (no_memory none) in
      let k = (leads x.0 x.1 (λ m. x.2)).waits none in
      record {
        says = x.0;
        reads = x.1;
        ended = subst (λ says. IsEnded q.catalog (is_some c.txn) (exchange says q.now q.fresh a) e) (sym k.1) (made.ended (works_then none) q.now q.fresh);
        about = λ about. made.about q.catalog (about_taken about);
        fault = made.fault (works_then none) (λ k. no_fault x.0 x.1 (λ m. x.2) (subst (λ (r : Option Answer). IsOfFault r d) (sym none) k));
        alone = λ w. by w x.0 (alone_taken old w x.0 x.1 x.2);
      }
    where
      by : (w : IsAlone q.catalog q.fresh q.now old c) (says : Result Statement Refusal) → LeadsTo q.catalog (database_in old) q.fresh q.now says (database_in old) w.opened result d → Exchanged q.catalog (database_in old) w.opened (exchange says q.now q.fresh a) (database_in new) e
      by w says (More st is empty waits) = subst (λ y. Exchanged q.catalog (database_in old) w.opened (exchange y q.now q.fresh a) (database_in new) e) (sym is)
          (Was (made.alone (record { catalog = q.catalog; fit = w.fit; about = about_taken w.about; was = database_in old; well_formed = w.well_formed; time = w.time; fresh = q.fresh; statement = st; opened = w.opened; waits = waits })))
      by w says (Answers z some ends) = none_some z (sym none ∙ some)
