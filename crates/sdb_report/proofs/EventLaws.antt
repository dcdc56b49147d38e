-- Events of whole lines: what is read is the line, and the line of each event is read.
use Rattle.std.proofs.Common.{◌≡◌, ℕ, ℤ, ◌^◌, ◌<◌, true, cond, List, [], ◌∷◌, ◌++◌, Option, Some, None, refl, sym, ap, subst, ◌∙◌, append_assoc, arith}
use Rattle.std.specs.Prelude.{codes}
use Rattle.std.specs.Fmt.{decimal, signed_decimal}
use Rattle.std.specs.Str.{is_utf8}
use Rattle.std.proofs.lemmas.List.{append-nil}
use Rattle.std.proofs.lemmas.Option.{same_Some, cond_some}
use Rattle.std.proofs.lemmas.Str.{IsUtf8-from_is_utf8, is_utf8-from_IsUtf8}
use Rattle.sdb_schema.specs.Kinds.{kind_text}
use Rattle.sdb_types.specs.Order.{table_text}
use Rattle.sdb_report.specs.Types.{Answer, Event, How, Reply, Request}
use Rattle.sdb_model.specs.Plain.{request_is_plain, reply_is_plain, altered_is_plain, IsPlainGiven, HasPlainParts}
use Rattle.sdb_model.specs.Report.{given_text_of, request_text_of, how_text_of, reply_text_of, asked_text_of, came_text_of, landed_text_of, effect_text_of, altered_text_of, event_text_of}
use Rattle.sdb_model.specs.declared.event.Event.TheVariants as event
use Rattle.sdb_report.specs.FieldReading.{Read, case_of, after, text_of, name_at, integer_at}
use Rattle.sdb_report.specs.Lines.{behind_space, given_at, request_at, how_at, landed_how_at, reply_at, client_at, is_empty, whole, take_of, came_at, asked_at, call_of, effect_at, land_of, altered_at, column_at, alter_of, event_of, numbered_event_of}
use Rattle.sdb_report.proofs.WordLaws.{case_some, join, Says, Sound, after_is, after_again, itself, IsName, name_sound, name_again}
use Rattle.sdb_report.proofs.NumberLaws.{below_sound, below_again, IsLong, integer_sound, integer_again}
use Rattle.sdb_report.proofs.AnswerLaws.{behind, behind_sound, join_space, given_sound, given_again}
use Rattle.sdb_report.proofs.RequestLaws.{request_sound, request_again, any_how, how_sound, how_again, IsLandedHow, landed_how_sound, landed_how_again, reply_sound, reply_again, reply_last}
use Rattle.sdb_report.proofs.AlterLaws.{altered_sound, altered_last, column_of, column_is, column_again}
use Rattle.sdb_types.proofs.Public.{bind_some}
use Rattle.sdb_types.specs.Options.{◌>>=◌}

abbrev IsClient : ℕ → Type 0
IsClient n = n < 2 ^ 32

client_sound : Sound client_at decimal IsClient
client_sound bytes x h = below_sound (2 ^ 32) bytes x h

-- the whole of a text
pub whole_is : {X : Type 0} (read : List ℕ → Read X) (text : X → List ℕ) (P : X → Type 0) → Sound read text P → (bytes : List ℕ) (x : X) → whole (read bytes) ≡ Some x → (bytes ≡ text x) × P x
whole_is read text P each bytes x h =
    let a = bind_some (read bytes) (λ y. cond (is_empty y.1) (Some y.0) None) x h in
    let s = each bytes a.0 a.1 in
    let c = cond_some (is_empty a.0.1) a.0.0 x a.2 in
    (s.parts ∙ ap (λ (t : List ℕ). text a.0.0 ++ t) (nothing a.0.1 c.0) ∙ append-nil (text a.0.0) ∙ ap text c.1, subst P c.1 s.fits)
  where
    nothing : (rest : List ℕ) → is_empty rest ≡ true → rest ≡ []
    nothing [] e = refl
    nothing (b ∷ bs) e = absurd cc

---- what is read is the line

abbrev pub EventIs : List ℕ → Event → Type 0
EventIs line e = (line ≡ event_text_of e) × HasPlainParts e

take_is : (line rest : List ℕ) (e : Event) → line ≡ codes "take " ++ rest → take_of rest ≡ Some e → EventIs line e
unfolding take_of
take_is line rest e p h =
    let a = bind_some (client_at rest) (λ client. behind_space given_at client.1 >>= λ given. after (codes " : ") given.1 >>= λ rest. text_of rest >>= λ text. Some (event.Take client.0 text given.0)) e h in
    let b = bind_some (behind_space given_at a.0.1) (λ given. after (codes " : ") given.1 >>= λ rest. text_of rest >>= λ text. Some (event.Take a.0.0 text given.0)) e a.2 in
    let c = bind_some (after (codes " : ") b.0.1) (λ rest. text_of rest >>= λ text. Some (event.Take a.0.0 text b.0.0)) e b.2 in
    let d = bind_some (text_of c.0) (λ text. Some (event.Take a.0.0 text b.0.0)) e c.2 in
    let n = client_sound rest a.0 a.1 in
    let g = behind_sound given_at given_text_of IsPlainGiven given_sound a.0.1 b.0 b.1 in
    let u = cond_some (is_utf8 c.0) c.0 d.0 d.1 in
    let two = join (codes "take ") (decimal a.0.0) a.0.1 p n.parts in
    let three = join_space (codes "take " ++ decimal a.0.0) (given_text_of b.0.0) b.0.1 two g.parts in
    let four = join (codes "take " ++ decimal a.0.0 ++ codes " " ++ given_text_of b.0.0) (codes " : ") c.0 three (after_is (codes " : ") b.0.1 c.0 c.1) in
    let same : event.Take a.0.0 d.0 b.0.0 ≡ e = same_Some (event.Take a.0.0 d.0 b.0.0) e d.2 in
    subst (EventIs line) same
    (four ∙ ap (λ (t : List ℕ). (codes "take " ++ decimal a.0.0 ++ codes " " ++ given_text_of b.0.0 ++ codes " : ") ++ t) u.1, (n.fits, IsUtf8-from_is_utf8 d.0 (subst (λ (t : List ℕ). is_utf8 t ≡ true) u.1 u.0), g.fits))

abbrev Asked : Type 0
Asked = ℕ × List ℕ × Request

abbrev Came : Type 0
Came = How × Reply × Option Answer

-- a number, a store and a request, after a word
abbrev asked_of : List ℕ → Asked → List ℕ
asked_of word a = word ++ decimal a.0 ++ codes " " ++ a.1 ++ codes " " ++ request_text_of a.2

abbrev came_of : Came → List ℕ
came_of c = came_text_of c.0 c.1 c.2

abbrev AskedFits : Asked → Type 0
AskedFits a = IsClient a.0 × IsName a.1 × request_is_plain a.2

abbrev CameFits : Came → Type 0
CameFits c = reply_is_plain c.1 × IsPlainGiven c.2

asked_is : (word line rest : List ℕ) (x : Asked × List ℕ) → line ≡ word ++ rest → asked_at rest ≡ Some x → Says (asked_of word) AskedFits line x
unfolding asked_at
asked_is word line rest x p h =
    let a = bind_some (client_at rest) (λ client. behind_space name_at client.1 >>= λ store. behind_space request_at store.1 >>= λ request. Some ((client.0, store.0, request.0), request.1)) x h in
    let b = bind_some (behind_space name_at a.0.1) (λ store. behind_space request_at store.1 >>= λ request. Some ((a.0.0, store.0, request.0), request.1)) x a.2 in
    let c = bind_some (behind_space request_at b.0.1) (λ request. Some ((a.0.0, b.0.0, request.0), request.1)) x b.2 in
    let n = client_sound rest a.0 a.1 in
    let s = behind_sound name_at itself IsName name_sound a.0.1 b.0 b.1 in
    let r = behind_sound request_at request_text_of request_is_plain request_sound b.0.1 c.0 c.1 in
    let two = join word (decimal a.0.0) a.0.1 p n.parts in
    let three = join_space (word ++ decimal a.0.0) b.0.0 b.0.1 two s.parts in
    subst (Says (asked_of word) AskedFits line) (same_Some ((a.0.0, b.0.0, c.0.0), c.0.1) x c.2)
    (record { parts = join_space (word ++ decimal a.0.0 ++ codes " " ++ b.0.0) (request_text_of c.0.0) c.0.1 three r.parts; fits = (n.fits, s.fits, r.fits) })

came_sound : Sound came_at came_of CameFits
unfolding came_at
came_sound bytes x h =
    let a = bind_some (behind_space how_at bytes) (λ how. behind_space reply_at how.1 >>= λ reply. behind_space given_at reply.1 >>= λ given. Some ((how.0, reply.0, given.0), given.1)) x h in
    let b = bind_some (behind_space reply_at a.0.1) (λ reply. behind_space given_at reply.1 >>= λ given. Some ((a.0.0, reply.0, given.0), given.1)) x a.2 in
    let c = bind_some (behind_space given_at b.0.1) (λ given. Some ((a.0.0, b.0.0, given.0), given.1)) x b.2 in
    let n = behind_sound how_at how_text_of any_how how_sound bytes a.0 a.1 in
    let s = behind_sound reply_at reply_text_of reply_is_plain reply_sound a.0.1 b.0 b.1 in
    let r = behind_sound given_at given_text_of IsPlainGiven given_sound b.0.1 c.0 c.1 in
    let two = join_space (codes " " ++ how_text_of a.0.0) (reply_text_of b.0.0) b.0.1 n.parts s.parts in
    subst (Says came_of CameFits bytes) (same_Some ((a.0.0, b.0.0, c.0.0), c.0.1) x c.2)
    (record { parts = join_space (codes " " ++ how_text_of a.0.0 ++ codes " " ++ reply_text_of b.0.0) (given_text_of c.0.0) c.0.1 two r.parts; fits = (s.fits, r.fits) })

call_is : (line rest : List ℕ) (e : Event) → line ≡ codes "call " ++ rest → call_of rest ≡ Some e → EventIs line e
unfolding call_of
call_is line rest e p h =
    let a = bind_some (asked_at rest) (λ asked. whole (came_at asked.1) >>= λ came. Some (event.Call asked.0.0 asked.0.1 asked.0.2 came.0 came.1 came.2)) e h in
    let b = bind_some (whole (came_at a.0.1)) (λ came. Some (event.Call a.0.0.0 a.0.0.1 a.0.0.2 came.0 came.1 came.2)) e a.2 in
    let s = asked_is (codes "call ") line rest a.0 p a.1 in
    let c = whole_is came_at came_of CameFits came_sound a.0.1 b.0 b.1 in
    let same : event.Call a.0.0.0 a.0.0.1 a.0.0.2 b.0.0 b.0.1 b.0.2 ≡ e = same_Some (event.Call a.0.0.0 a.0.0.1 a.0.0.2 b.0.0 b.0.1 b.0.2) e b.2 in
    subst (EventIs line) same (s.parts ∙ ap (λ (t : List ℕ). asked_of (codes "call ") a.0.0 ++ t) c.0, (s.fits.0, s.fits.1, s.fits.2, c.1.0, c.1.1))

---- landings

abbrev Effect : Type 0
Effect = How × Reply

abbrev effect_of : Effect → List ℕ
effect_of e = effect_text_of e.0 e.1

abbrev EffectFits : Effect → Type 0
EffectFits e = reply_is_plain e.1 × IsLandedHow e.0

effect_sound : Sound effect_at effect_of EffectFits
unfolding effect_at
effect_sound bytes x h =
    let a = bind_some (behind_space landed_how_at bytes) (λ how. behind_space reply_at how.1 >>= λ reply. Some ((how.0, reply.0), reply.1)) x h in
    let b = bind_some (behind_space reply_at a.0.1) (λ reply. Some ((a.0.0, reply.0), reply.1)) x a.2 in
    let n = behind_sound landed_how_at how_text_of IsLandedHow landed_how_sound bytes a.0 a.1 in
    let s = behind_sound reply_at reply_text_of reply_is_plain reply_sound a.0.1 b.0 b.1 in
    subst (Says effect_of EffectFits bytes) (same_Some ((a.0.0, b.0.0), b.0.1) x b.2)
    (record { parts = join_space (codes " " ++ how_text_of a.0.0) (reply_text_of b.0.0) b.0.1 n.parts s.parts; fits = (s.fits, n.fits) })

land_is : (line rest : List ℕ) (e : Event) → line ≡ codes "land " ++ rest → land_of rest ≡ Some e → EventIs line e
unfolding land_of
land_is line rest e p h =
    let a = bind_some (asked_at rest) (λ asked. whole (effect_at asked.1) >>= λ effect. Some (event.Land asked.0.0 asked.0.1 asked.0.2 effect.0 effect.1)) e h in
    let b = bind_some (whole (effect_at a.0.1)) (λ effect. Some (event.Land a.0.0.0 a.0.0.1 a.0.0.2 effect.0 effect.1)) e a.2 in
    let s = asked_is (codes "land ") line rest a.0 p a.1 in
    let c = whole_is effect_at effect_of EffectFits effect_sound a.0.1 b.0 b.1 in
    let same : event.Land a.0.0.0 a.0.0.1 a.0.0.2 b.0.0 b.0.1 ≡ e = same_Some (event.Land a.0.0.0 a.0.0.1 a.0.0.2 b.0.0 b.0.1) e b.2 in
    subst (EventIs line) same (s.parts ∙ ap (λ (t : List ℕ). asked_of (codes "land ") a.0.0 ++ t) c.0, (s.fits.0, s.fits.1, s.fits.2, c.1.0, c.1.1))

---- added columns

alter_is : (line rest : List ℕ) (e : Event) → line ≡ codes "alter " ++ rest → alter_of rest ≡ Some e → EventIs line e
unfolding alter_of
alter_is line rest e p h =
    let a = bind_some (column_at rest) (λ column. whole (behind_space altered_at column.1) >>= λ altered. Some (event.Alter column.0.0 column.0.1 column.0.2 altered)) e h in
    let b = bind_some (whole (behind_space altered_at a.0.1)) (λ altered. Some (event.Alter a.0.0.0 a.0.0.1 a.0.0.2 altered)) e a.2 in
    let s = column_is (codes "alter ") line rest a.0 p a.1 in
    let c = whole_is (behind_space altered_at) (behind altered_text_of) altered_is_plain (behind_sound altered_at altered_text_of altered_is_plain altered_sound) a.0.1 b.0 b.1 in
    let same : event.Alter a.0.0.0 a.0.0.1 a.0.0.2 b.0 ≡ e = same_Some (event.Alter a.0.0.0 a.0.0.1 a.0.0.2 b.0) e b.2 in
    let parts : line ≡ column_of (codes "alter ") a.0.0 ++ (codes " " ++ altered_text_of b.0) = s.parts ∙ ap (λ (t : List ℕ). column_of (codes "alter ") a.0.0 ++ t) c.0 in
    subst (EventIs line) same (parts ∙ sym (append_assoc (column_of (codes "alter ") a.0.0) (codes " ") (altered_text_of b.0)), (s.fits.0, s.fits.1, c.1))

-- a number after a word
word_is : {X : Type 0} (read : List ℕ → Read X) (text : X → List ℕ) (P : X → Type 0) (f : X → Event) (word : List ℕ) → Sound read text P
    → ((x : X) → event_text_of (f x) ≡ word ++ text x) → ((x : X) → P x → HasPlainParts (f x))
    → (line rest : List ℕ) (e : Event) → line ≡ word ++ rest → (whole (read rest) >>= λ x. Some (f x)) ≡ Some e → EventIs line e
word_is read text P f word each same fits line rest e p h =
    let a = bind_some (whole (read rest)) (λ x. Some (f x)) e h in
    let w = whole_is read text P each rest a.0 a.1 in
    subst (EventIs line) (same_Some (f a.0) e a.2) (p ∙ ap (λ (t : List ℕ). word ++ t) w.0 ∙ sym (same a.0), fits a.0 w.1)

pub event_is : (line : List ℕ) (e : Event) → event_of line ≡ Some e → EventIs line e
unfolding event_of
event_is line e h =
    let idles : List ℕ → Option Event = λ rest. whole (client_at rest) >>= λ client. Some (event.Idle client) in
    let clocks : List ℕ → Option Event = λ rest. whole (integer_at rest) >>= λ moment. Some (event.Clock moment) in
    let stops : List ℕ → Option Event = λ rest. whole (client_at rest) >>= λ client. Some (event.Stop client) in
    let alter = case_of (after (codes "alter ") line) alter_of None in
    let land = case_of (after (codes "land ") line) land_of alter in
    let idle = case_of (after (codes "idle ") line) idles land in
    let clock = case_of (after (codes "clock ") line) clocks idle in
    let stop = case_of (after (codes "stop ") line) stops clock in
    let call = case_of (after (codes "call ") line) call_of stop in
    case_some (after (codes "take ") line) take_of call (Some e) h (λ rest q k. take_is line rest e (after_is (codes "take ") line rest q) k) (λ q k.
    case_some (after (codes "call ") line) call_of stop (Some e) k (λ rest q k. call_is line rest e (after_is (codes "call ") line rest q) k) (λ q k.
    case_some (after (codes "stop ") line) stops clock (Some e) k
    (λ rest q k. word_is client_at decimal IsClient event.Stop (codes "stop ") client_sound (λ n. refl) (λ n f. f) line rest e (after_is (codes "stop ") line rest q) k) (λ q k.
    case_some (after (codes "clock ") line) clocks idle (Some e) k
    (λ rest q k. word_is integer_at signed_decimal IsLong event.Clock (codes "clock ") integer_sound (λ n. refl) (λ n f. f) line rest e (after_is (codes "clock ") line rest q) k) (λ q k.
    case_some (after (codes "idle ") line) idles land (Some e) k
    (λ rest q k. word_is client_at decimal IsClient event.Idle (codes "idle ") client_sound (λ n. refl) (λ n f. f) line rest e (after_is (codes "idle ") line rest q) k) (λ q k.
    case_some (after (codes "land ") line) land_of alter (Some e) k (λ rest q k. land_is line rest e (after_is (codes "land ") line rest q) k) (λ q k.
    case_some (after (codes "alter ") line) alter_of None (Some e) k (λ rest q k. alter_is line rest e (after_is (codes "alter ") line rest q) k) (λ q k. absurd cc)))))))

---- the line of each event is read

take_pieces : (n g t : List ℕ) → codes "take " ++ n ++ codes " " ++ g ++ codes " : " ++ t ≡ codes "take " ++ (n ++ 32 ∷ (g ++ (codes " : " ++ t)))
take_pieces n g t = simp append_assoc

pieces : (w n p s q r a h b y c g : List ℕ) → (w ++ n ++ p ++ s ++ q ++ r) ++ (a ++ h ++ b ++ y ++ c ++ g) ≡ w ++ (n ++ (p ++ (s ++ (q ++ (r ++ (a ++ (h ++ (b ++ (y ++ (c ++ g))))))))))
pieces w n p s q r a h b y c g = simp append_assoc

call_pieces : (n s r h y g : List ℕ) → (codes "call " ++ n ++ codes " " ++ s ++ codes " " ++ r) ++ (codes " " ++ h ++ codes " " ++ y ++ codes " " ++ g) ≡ codes "call " ++ (n ++ 32 ∷ (s ++ 32 ∷ (r ++ 32 ∷ (h ++ 32 ∷ (y ++ 32 ∷ g)))))
call_pieces n s r h y g = pieces (codes "call ") n (codes " ") s (codes " ") r (codes " ") h (codes " ") y (codes " ") g

landed_pieces : (w n p s q r a h b y : List ℕ) → (w ++ n ++ p ++ s ++ q ++ r) ++ (a ++ h ++ b ++ y) ≡ w ++ (n ++ (p ++ (s ++ (q ++ (r ++ (a ++ (h ++ (b ++ y))))))))
landed_pieces w n p s q r a h b y = simp append_assoc

land_pieces : (n s r h y : List ℕ) → (codes "land " ++ n ++ codes " " ++ s ++ codes " " ++ r) ++ (codes " " ++ h ++ codes " " ++ y) ≡ codes "land " ++ (n ++ 32 ∷ (s ++ 32 ∷ (r ++ 32 ∷ (h ++ 32 ∷ y))))
land_pieces n s r h y = landed_pieces (codes "land ") n (codes " ") s (codes " ") r (codes " ") h (codes " ") y

alter_pieces : (t c k a : List ℕ) → codes "alter " ++ t ++ codes " " ++ c ++ codes " " ++ k ++ codes " " ++ a ≡ codes "alter " ++ (t ++ 32 ∷ (c ++ 32 ∷ (k ++ 32 ∷ a)))
alter_pieces t c k a = simp append_assoc

client_again : (n : ℕ) → n < 2 ^ 32 → client_at (decimal n) ≡ Some (n, [])
client_again n lt = ap client_at (sym (append-nil (decimal n))) ∙ below_again (2 ^ 32) n [] (omega arith) lt refl

moment_again : (z : ℤ) → IsLong z → integer_at (signed_decimal z) ≡ Some (z, [])
moment_again z fits = ap integer_at (sym (append-nil (signed_decimal z))) ∙ integer_again z [] fits refl

given_last : (given : Option Answer) → IsPlainGiven given → given_at (given_text_of given) ≡ Some (given, [])
given_last given fits = ap given_at (sym (append-nil (given_text_of given))) ∙ given_again given [] fits refl

pub event_again : (e : Event) → HasPlainParts e → event_of (event_text_of e) ≡ Some e
unfolding event_of take_of call_of asked_at came_at land_of effect_at alter_of
event_again (event.Take client text given) fits =
    ap event_of (take_pieces (decimal client) (given_text_of given) text)
    ∙ rw (below_again (2 ^ 32) client (32 ∷ (given_text_of given ++ (codes " : " ++ text))) (omega arith) fits.0 refl, given_again given (codes " : " ++ text) fits.2 refl, is_utf8-from_IsUtf8 text fits.1) refl
event_again (event.Call client store request how reply given) fits =
    let g : List ℕ = 32 ∷ given_text_of given in
    let y : List ℕ = 32 ∷ (reply_text_of reply ++ g) in
    let h : List ℕ = 32 ∷ (how_text_of how ++ y) in
    ap event_of (call_pieces (decimal client) store (request_text_of request) (how_text_of how) (reply_text_of reply) (given_text_of given))
    ∙ rw (
      below_again (2 ^ 32) client (32 ∷ (store ++ 32 ∷ (request_text_of request ++ h))) (omega arith) fits.0 refl,
      name_again store (32 ∷ (request_text_of request ++ h)) fits.1 refl,
      request_again request (how_text_of how ++ y) fits.2,
      how_again how y,
      reply_again reply (given_text_of given) fits.3,
      given_last given fits.4,
    ) refl
event_again (event.Stop client) fits = rw (client_again client fits) refl
event_again (event.Clock moment) fits = rw (moment_again moment fits) refl
event_again (event.Idle client) fits = rw (client_again client fits) refl
event_again (event.Land number store request how reply) fits =
    let y : List ℕ = 32 ∷ reply_text_of reply in
    let h : List ℕ = 32 ∷ (how_text_of how ++ y) in
    ap event_of (land_pieces (decimal number) store (request_text_of request) (how_text_of how) (reply_text_of reply))
    ∙ rw (
      below_again (2 ^ 32) number (32 ∷ (store ++ 32 ∷ (request_text_of request ++ h))) (omega arith) fits.0 refl,
      name_again store (32 ∷ (request_text_of request ++ h)) fits.1 refl,
      request_again request (how_text_of how ++ y) fits.2,
      landed_how_again how y fits.4,
      reply_last reply fits.3,
    ) refl
event_again (event.Alter table column kind altered) fits =
    ap event_of (alter_pieces (table_text table) column (kind_text kind) (altered_text_of altered))
    ∙ rw (column_again table column kind (altered_text_of altered) fits.0 fits.1, altered_last altered fits.2) refl

---- with the number first

pub numbered_is : (n : ℕ) (line : List ℕ) (e : Event) → numbered_event_of n line ≡ Some e → (line ≡ decimal n ++ codes " " ++ event_text_of e) × HasPlainParts e
unfolding numbered_event_of
numbered_is n line e h =
    let a = bind_some (after (decimal n) line) (λ rest. after (codes " ") rest >>= event_of) e h in
    let b = bind_some (after (codes " ") a.0) event_of e a.2 in
    let s = event_is b.0 e b.2 in
    let two : line ≡ (decimal n ++ codes " ") ++ b.0 = join (decimal n) (codes " ") b.0 (after_is (decimal n) line a.0 a.1) (after_is (codes " ") a.0 b.0 b.1) in
    (two ∙ ap (λ (t : List ℕ). (decimal n ++ codes " ") ++ t) s.0, s.1)

pub numbered_again : (n : ℕ) (e : Event) → HasPlainParts e → numbered_event_of n (decimal n ++ codes " " ++ event_text_of e) ≡ Some e
unfolding numbered_event_of
numbered_again n e fits =
    let regrouped : decimal n ++ codes " " ++ event_text_of e ≡ decimal n ++ 32 ∷ event_text_of e = append_assoc (decimal n) (codes " ") (event_text_of e) in
    ap (numbered_event_of n) regrouped ∙ rw (after_again (decimal n) (32 ∷ event_text_of e), event_again e fits) refl
