-- Changes accepted in two steps: new keys go last, then each change is at its key.
use Rattle.std.proofs.Common.{◌≡◌, suc, Bool, true, false, cond, List, [], ◌∷◌, ◌++◌, length, Option, Some, None, refl, sym, ap, ◌∙◌}
use Rattle.std.specs.Prelude.{is_some}
use Rattle.sdb_snapshot.specs.Types.{Key, Keyed, Write}
use Rattle.sdb_types.specs.Order.{same_key}
use Rattle.sdb_types.proofs.Public.{same_key_self}
use Rattle.sdb_record.specs.Among.{write_among, is_written}
use Rattle.sdb_snapshot.specs.Sets.{StartsWith}
use Rattle.sdb_snapshot.specs.Reads.{ReadRecord}
use Rattle.sdb_snapshot.specs.Written.{with_write, with_writes, write_of}
use Rattle.sdb_snapshot.specs.Opened.{with_new, with_news, with_laid, with_laids}
use Rattle.sdb_snapshot.proofs.Fronts.{starts_more}
use Rattle.sdb_snapshot.proofs.Places.{laid_on}

abbrev pub opened : List Write → Write → List Write
opened [] w = w ∷ []
opened (x ∷ xs) w = cond (same_key w.key x.key) (x ∷ xs) (x ∷ opened xs w)

cons_cond : {A : Type 0} (b : Bool) (x : A) (xs ys : List A) → cond b (x ∷ xs) (x ∷ ys) ≡ x ∷ cond b xs ys
cons_cond true x xs ys = refl
cons_cond false x xs ys = refl

opened_is : (ws : List Write) (w : Write) → with_new ws w ≡ opened ws w
opened_is [] w = refl
opened_is (x ∷ xs) w =
    let rest : with_new xs w ≡ opened xs w = opened_is xs w in
    elim (same_key w.key x.key) as (λ b. cond (is_some (cond b (Some x) (write_among xs w.key))) (x ∷ xs) (x ∷ (xs ++ w ∷ [])) ≡ cond b (x ∷ xs) (x ∷ opened xs w)) [
      | true ↦ refl
      | false ↦ cons_cond (is_some (write_among xs w.key)) x xs (xs ++ w ∷ []) ∙ ap (λ ys. x ∷ ys) rest
    ]

laid_opened : (read_set : List ReadRecord) (ws : List Write) (k : Keyed) → with_laid (opened ws (write_of read_set k)) k ≡ with_write ws (write_of read_set k)
laid_opened read_set [] k = ap (λ (b : Bool). cond b (laid_on (write_of read_set k) k ∷ []) (write_of read_set k ∷ [])) (same_key_self k.key)
laid_opened read_set (x ∷ xs) k =
    let rest : with_laid (opened xs (write_of read_set k)) k ≡ with_write xs (write_of read_set k) = laid_opened read_set xs k in
    elim (same_key k.key x.key) as (λ b. same_key k.key x.key ≡ b → with_laid (cond b (x ∷ xs) (x ∷ opened xs (write_of read_set k))) k ≡ cond b (laid_on x k ∷ xs) (x ∷ with_write xs (write_of read_set k))) [
      | true ↦ λ t. ap (λ (b : Bool). cond b (laid_on x k ∷ xs) (x ∷ with_laid xs k)) t
      | false ↦ λ t. ap (λ (b : Bool). cond b (laid_on x k ∷ opened xs (write_of read_set k)) (x ∷ with_laid (opened xs (write_of read_set k)) k)) t ∙ ap (λ ys. x ∷ ys) rest
    ] refl

written_step : {A : Type 0} (b : Bool) (x : A) (o p : Option A) → is_some (cond b (Some x) o) ≡ true → (is_some o ≡ true → is_some p ≡ true) → is_some (cond b (Some x) p) ≡ true
written_step true x o p h g = refl
written_step false x o p h g = g h

laid_past_one : (ws : List Write) (k : Keyed) (v : Write) → is_written ws k.key ≡ true → opened (with_laid ws k) v ≡ with_laid (opened ws v) k
laid_past_one [] k v h = absurd (cc)
laid_past_one (x ∷ xs) k v h =
    elim (same_key k.key x.key) as (λ b. same_key k.key x.key ≡ b → is_some (cond b (Some x) (write_among xs k.key)) ≡ true
    → opened (cond b (laid_on x k ∷ xs) (x ∷ with_laid xs k)) v ≡ with_laid (cond (same_key v.key x.key) (x ∷ xs) (x ∷ opened xs v)) k) [
      | true ↦ λ t g. elim (same_key v.key x.key) as (λ c. cond c (laid_on x k ∷ xs) (laid_on x k ∷ opened xs v) ≡ with_laid (cond c (x ∷ xs) (x ∷ opened xs v)) k) [
        | true ↦ sym (ap (λ (b : Bool). cond b (laid_on x k ∷ xs) (x ∷ with_laid xs k)) t)
        | false ↦ sym (ap (λ (b : Bool). cond b (laid_on x k ∷ opened xs v) (x ∷ with_laid (opened xs v) k)) t)
      ]
      | false ↦ λ t g.
          let rest : opened (with_laid xs k) v ≡ with_laid (opened xs v) k = laid_past_one xs k v g in
          elim (same_key v.key x.key) as (λ c. cond c (x ∷ with_laid xs k) (x ∷ opened (with_laid xs k) v) ≡ with_laid (cond c (x ∷ xs) (x ∷ opened xs v)) k) [
            | true ↦ sym (ap (λ (b : Bool). cond b (laid_on x k ∷ xs) (x ∷ with_laid xs k)) t)
            | false ↦ ap (λ ys. x ∷ ys) rest ∙ sym (ap (λ (b : Bool). cond b (laid_on x k ∷ opened xs v) (x ∷ with_laid (opened xs v) k)) t)
          ]
    ] refl h

opened_keeps : (ws : List Write) (v : Write) (q : Key) → is_written ws q ≡ true → is_written (opened ws v) q ≡ true
opened_keeps [] v q h = absurd (cc)
opened_keeps (x ∷ xs) v q h =
    elim (same_key v.key x.key) as (λ c. is_written (cond c (x ∷ xs) (x ∷ opened xs v)) q ≡ true) [
      | true ↦ h
      | false ↦ written_step (same_key q x.key) x (write_among xs q) (write_among (opened xs v) q) h (opened_keeps xs v q)
    ]

opened_has : (ws : List Write) (v : Write) → is_written (opened ws v) v.key ≡ true
opened_has [] v = ap (λ b. is_some (cond b (Some v) None)) (same_key_self v.key)
opened_has (x ∷ xs) v =
    elim (same_key v.key x.key) as (λ c. same_key v.key x.key ≡ c → is_written (cond c (x ∷ xs) (x ∷ opened xs v)) v.key ≡ true) [
      | true ↦ λ t. ap (λ b. is_some (cond b (Some x) (write_among xs v.key))) t
      | false ↦ λ t. ap (λ b. is_some (cond b (Some x) (write_among (opened xs v) v.key))) t ∙ opened_has xs v
    ] refl

new_keeps : (ws : List Write) (v : Write) (q : Key) → is_written ws q ≡ true → is_written (with_new ws v) q ≡ true
new_keeps ws v q h = ap (λ xs. is_written xs q) (opened_is ws v) ∙ opened_keeps ws v q h

laid_past : (read_set : List ReadRecord) (ws : List Write) (k : Keyed) (ks : List Keyed) → is_written ws k.key ≡ true → with_laid (with_news read_set ws ks) k ≡ with_news read_set (with_laid ws k) ks
laid_past read_set ws k [] h = refl
laid_past read_set ws k (j ∷ ks) h =
    laid_past read_set (with_new ws (write_of read_set j)) k ks (new_keeps ws (write_of read_set j) k.key h)
    ∙ ap (λ xs. with_news read_set xs ks) (ap (λ xs. with_laid xs k) (opened_is ws (write_of read_set j)) ∙ sym (laid_past_one ws k (write_of read_set j) h) ∙ sym (opened_is (with_laid ws k) (write_of read_set j)))

-- the two steps give the writes
pub laid_all : (read_set : List ReadRecord) (ws : List Write) (ks : List Keyed) → with_laids (with_news read_set ws ks) ks ≡ with_writes read_set ws ks
laid_all read_set ws [] = refl
laid_all read_set ws (k ∷ ks) =
    let new = with_new ws (write_of read_set k) in
    let has : is_written new k.key ≡ true = ap (λ xs. is_written xs k.key) (opened_is ws (write_of read_set k)) ∙ opened_has ws (write_of read_set k) in
    ap (λ xs. with_laids xs ks) (laid_past read_set new k ks has ∙ ap (λ xs. with_news read_set xs ks) (ap (λ xs. with_laid xs k) (opened_is ws (write_of read_set k)) ∙ laid_opened read_set ws k))
    ∙ laid_all read_set (with_write ws (write_of read_set k)) ks

length_laid : (ws : List Write) (k : Keyed) → length (with_laid ws k) ≡ length ws
length_laid [] k = refl
length_laid (x ∷ xs) k =
    let rest : length (with_laid xs k) ≡ length xs = length_laid xs k in
    elim (same_key k.key x.key) as (λ b. length (cond b (laid_on x k ∷ xs) (x ∷ with_laid xs k)) ≡ suc (length xs)) [ true ↦ refl | false ↦ ap suc rest ]

length_laids : (ws : List Write) (ks : List Keyed) → length (with_laids ws ks) ≡ length ws
length_laids ws [] = refl
length_laids ws (k ∷ ks) = length_laids (with_laid ws k) ks ∙ length_laid ws k

pub length_writes : (read_set : List ReadRecord) (ws : List Write) (ks : List Keyed) → length (with_writes read_set ws ks) ≡ length (with_news read_set ws ks)
length_writes read_set ws ks = sym (ap length (laid_all read_set ws ks)) ∙ length_laids (with_news read_set ws ks) ks

-- what was written stays first
pub new_front : (xs ws : List Write) (w : Write) → StartsWith xs ws → StartsWith xs (with_new ws w)
new_front xs ws w h = by_written (is_written ws w.key)
  where
    by_written : (b : Bool) → StartsWith xs (cond b ws (ws ++ w ∷ []))
    by_written true = h
    by_written false = starts_more xs ws (w ∷ []) h
