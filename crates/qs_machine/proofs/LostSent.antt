-- What lost packets carried was sent: each call of an outbox keeps it.
use Rattle.std.proofs.lemmas.Bool.Decides.{nat_tests}
use Rattle.std.proofs.Common.{◌≡◌, ℕ, ◌≤◌, ◌%◌, Bool, true, false, List, [], ◌∷◌, ◌++◌, ◌⊎◌, length, take, Option, Some, None, is_some, Result, Ok, Err, unwrap_or, refl, sym, ap, ◌∙◌, subst, inl, inr, arith, leb, nat_cmp}
use Rattle.std.proofs.lemmas.Bool.{cases_eq, cond_both, or_left}
use Rattle.std.specs.FinMap as fmap
use Rattle.std.specs.Result.{OnOk, OnErr, IfOk, IfErr}
use Rattle.qs_send.specs.declared.parts.Chunk.{Chunk}
use Rattle.qs_send.specs.declared.parts.SendFault.{SendFault}
use Rattle.qs_send.specs.declared.parts.SendFault.TheVariants.{NoMemory}
use Rattle.qs_send.specs.declared.piece.Item.{Item}
use Rattle.qs_send.specs.declared.piece.Item.TheVariants.{ResetStream, StreamDataBlocked}
use Rattle.qs_send.specs.declared.piece.Piece.{Piece}
use Rattle.qs_send.specs.declared.piece.Piece.TheVariants.{Data, Told}
use Rattle.qs_send.specs.Lane.{SendLane, Sending, new_sending, accepted, refusal, reset_refusal, after_write, after_finish, after_reset, after_stopped, after_asked, after_stop, after_allow, after_buffer, after_blocked, after_reset_acked, after_sent, after_acked, after_lost}
use Rattle.qs_send.specs.Records.{without_first}
use Rattle.qs_send.specs.LostRecords.{MOST_LOST, with_number, with_piece, without_oldest}
use Rattle.qs_send.proofs.Outstanding.{carried-remove, carried-without_first}
use Rattle.qs_machine.specs.Tables.{Tables, table, with_table, lookup, update, updated, open_to}
use Rattle.qs_machine.specs.Ends.{Records, LostPackets, lost_with}
use Rattle.qs_machine.specs.Sums.{or_no_sending}
use Rattle.qs_machine.specs.Outgoing.{IsCarried, IsSentPiece, AreSent, AreOfOpen, IsOfOpen, IsOfReset, lanes_of, pieces_in, halves_acked, halves_lost, halves_told}
use Rattle.qs_machine.proofs.TableLaws.{lookup_same, lookup_other, lookup_open}
use Rattle.qs_machine.proofs.Carried.{none_some, some_is, carried_is}
use Rattle.qs_machine.proofs.LaneTables.{lookup_lanes, lane_there, half_of, lanes_closed}
use Rattle.qs_machine.proofs.Ties.{closed_at}

-- what was sent of a half, and that it was reset, lasts
record Lasts (l m : SendLane) : Type 0 where
  sent : l.sent_end ≤ m.sent_end
  ended : l.fin_sent ≡ true → m.fin_sent ≡ true
  reset : is_some l.was_reset ≡ true → is_some m.was_reset ≡ true

abbrev AllLast : Tables Sending → Tables Sending → Type 0
AllLast t t' = (n : ℕ) (s : Sending) → lookup t n ≡ Some s → (s' : Sending) × (lookup t' n ≡ Some s') × Lasts s.lane s'.lane

lasts_same : (l : SendLane) → Lasts l l
lasts_same l = record { sent = omega arith; ended = λ x. x; reset = λ x. x }

piece_lasts : (t t' : Tables Sending) → AllLast t t' → (p : Piece) → IsSentPiece t p → IsSentPiece t' p
piece_lasts t t' all (Data n c) (s, at, w) = (let l = all n s at in (l.0, l.1, record { offsets = omega (arith, w.offsets, l.2.sent); end = λ fin. l.2.ended (w.end fin) }))
piece_lasts t t' all (Told (ResetStream n code size)) (s, at, r) = (let l = all n s at in (l.0, l.1, l.2.reset r))
piece_lasts t t' all p h = tt

all_updated : (t : Tables Sending) (n : ℕ) (f : Sending → Sending) → ((s : Sending) → Lasts s.lane (f s).lane) → AllLast t (updated t n f (lookup t n))
all_updated t n f lasts = go (lookup t n) refl
  where
    go : (o : Option Sending) → lookup t n ≡ o → AllLast t (updated t n f o)
    go None e k x is = (x, is, lasts_same x.lane)
    go (Some s) e k x is =
        elim (cases_eq k n) [
          | inl same ↦
              (let at : x ≡ s = some_is (lookup t n) x s (ap (lookup t) (sym same) ∙ is) e in
              (f s, ap (lookup (update t n (f s))) same ∙ lookup_same t n s (f s) e, subst (λ (y : Sending). Lasts y.lane (f s).lane) (sym at) (lasts s)))
          | inr ne ↦ (x, lookup_other t n k (f s) ne ∙ is, lasts_same x.lane)
        ]

all_same : (t : Tables Sending) → AllLast t t
all_same t n s is = (s, is, lasts_same s.lane)

-- The changes of a half

lasts_finish : (s : Sending) → Lasts s.lane (after_finish s).lane
lasts_finish s = cond_both (is_some (refusal s.lane)) s _ (λ x. Lasts s.lane x.lane) (λ _. lasts_same s.lane) (λ _. record { sent = omega arith; ended = λ x. x; reset = λ x. x })

lasts_reset : (code : ℕ) (s : Sending) → Lasts s.lane (after_reset s code).lane
lasts_reset code s = cond_both (is_some (reset_refusal s.lane)) s.lane _ (Lasts s.lane) (λ _. lasts_same s.lane) (λ _. record { sent = omega arith; ended = λ x. x; reset = λ x. refl })

lasts_stopped : (code : ℕ) (s : Sending) → Lasts s.lane (after_stopped s code).lane
lasts_stopped code s = cond_both (is_some (reset_refusal s.lane)) s.lane _ (Lasts s.lane) (λ _. lasts_same s.lane) (λ _. record { sent = omega arith; ended = λ x. x; reset = λ x. refl })

lasts_told_stop : (code : ℕ) (s : Sending) → Lasts s.lane (after_asked s code).lane
lasts_told_stop code s = cond_both (is_some (reset_refusal s.lane)) s.lane _ (Lasts s.lane) (λ _. lasts_same s.lane) (λ _. record { sent = omega arith; ended = λ x. x; reset = λ x. x })

lasts_lost : (c : Chunk) (s : Sending) → Lasts s.lane (after_lost s c).lane
lasts_lost c s = cond_both (is_some s.lane.was_reset) s _ (λ x. Lasts s.lane x.lane) (λ _. lasts_same s.lane) (λ _. lasts_same s.lane)

lasts_sent : (c : Chunk) (s : Sending) → Lasts s.lane (after_sent s c).lane
lasts_sent c s = record { sent = omega arith; ended = λ x. or_left _ _ x; reset = λ x. x }

lasts_acked : (c : Chunk) (s : Sending) → Lasts s.lane (after_acked s c).lane
lasts_acked c s = record { sent = omega arith; ended = λ x. x; reset = λ x. x }

all_acked : (t : Tables Sending) (p : Piece) → AllLast t (halves_acked p t)
all_acked t (Data n c) = all_updated t n (λ s. after_acked s c) (lasts_acked c)
all_acked t (Told (ResetStream n code size)) = all_updated t n after_reset_acked (λ s. record { sent = omega arith; ended = λ x. x; reset = λ x. x })
all_acked t p = all_same t

all_lost : (t : Tables Sending) (p : Piece) → AllLast t (halves_lost p t)
all_lost t (Data n c) = all_updated t n (λ s. after_lost s c) (lasts_lost c)
all_lost t (Told i) = all_same t

all_told : (t : Tables Sending) (i : Item) → AllLast t (halves_told i t)
all_told t (StreamDataBlocked n m) = all_updated t n after_blocked (λ s. record { sent = omega arith; ended = λ x. x; reset = λ x. x })
all_told t i = all_same t

-- Lost packets with a piece more

with_is : (m : Records) (k : ℕ) (p : Piece) → with_piece m k p (fmap.get m k) ≡ fmap.insert m k (pieces_in m k ++ p ∷ [])
with_is m k p = grind arith

carried_oldest : (m : Records) (order : List ℕ) (q : Piece) → IsCarried (without_oldest m order) q → IsCarried m q
carried_oldest m [] q out = out
carried_oldest m (k ∷ ks) q out = cond_both (leb MOST_LOST (length ks)) (fmap.remove m k) m (λ r. IsCarried r q → IsCarried m q) (λ _ h. carried-remove m k q h) (λ _ h. h) out

pub lost_carried : (k : ℕ) (p : Piece) (l : LostPackets) (q : Piece) → IsCarried (lost_with k p l).pieces q → IsCarried l.pieces q ⊎ (q ≡ p)
lost_carried k p l q out = carried_is l.pieces k p q (subst (λ (m : Records). IsCarried m q) (with_is l.pieces k p) (carried_oldest (with_piece l.pieces k p (fmap.get l.pieces k)) (with_number l.order k (fmap.contains_key l.pieces k)) q out))

-- What holds

pub sent_none : (t : Tables Sending) (m : Records) → m ≡ fmap.empty → AreSent t m
sent_none t m is p (k, ps, at, a) = absurd (none_some ps (sym (fmap.get-empty nat_cmp k) ∙ ap (λ (x : Records). fmap.get x k) (sym is) ∙ at))

module _ (t t' : Tables Sending) (m : Records) (h : AreSent t m) where
  sent_all : AllLast t t' → AreSent t' m
  sent_all all p out = piece_lasts t t' all p (h p out)

  sent_half : (n : ℕ) (f : Sending → Sending) → ((s : Sending) → Lasts s.lane (f s).lane) → t' ≡ updated t n f (lookup t n) → AreSent t' m
  sent_half n f lasts is = sent_all (subst (AllLast t) (sym is) (all_updated t n f lasts))

  pub sent_same : t' ≡ t → AreSent t' m
  sent_same is = subst (λ (x : Tables Sending). AreSent x m) (sym is) h

  pub sent_allow : (n limit : ℕ) → t' ≡ updated t n (λ s. after_allow s limit) (lookup t n) → AreSent t' m
  sent_allow n limit is = sent_half n (λ s. after_allow s limit) (λ s. record { sent = omega arith; ended = λ x. x; reset = λ x. x }) is

  pub sent_buffer : (n size : ℕ) → t' ≡ updated t n (λ s. after_buffer s size) (lookup t n) → AreSent t' m
  sent_buffer n size is = sent_half n (λ s. after_buffer s size) (λ s. record { sent = omega arith; ended = λ x. x; reset = λ x. x }) is

  pub sent_finish : (n : ℕ) → t' ≡ updated t n after_finish (lookup t n) → AreSent t' m
  sent_finish n is = sent_half n after_finish lasts_finish is

  pub sent_reset : (n code : ℕ) → t' ≡ updated t n (λ s. after_reset s code) (lookup t n) → AreSent t' m
  sent_reset n code is = sent_half n (λ s. after_reset s code) (lasts_reset code) is

  pub sent_stopped : (n code : ℕ) → t' ≡ updated t n (λ s. after_stopped s code) (lookup t n) → AreSent t' m
  sent_stopped n code is = sent_half n (λ s. after_stopped s code) (lasts_stopped code) is

  pub sent_told_stop : (n code : ℕ) → t' ≡ updated t n (λ s. after_asked s code) (lookup t n) → AreSent t' m
  sent_told_stop n code is = sent_half n (λ s. after_asked s code) (lasts_told_stop code) is

  pub sent_stop : (answers : Bool) (n code : ℕ) → t' ≡ updated t n (λ s. after_stop answers s code) (lookup t n) → AreSent t' m
  sent_stop true n code is = sent_told_stop n code is
  sent_stop false n code is = sent_stopped n code is

  pub sent_put : (n : ℕ) (c : Chunk) → t' ≡ updated t n (λ s. after_sent s c) (lookup t n) → AreSent t' m
  sent_put n c is = sent_half n (λ s. after_sent s c) (lasts_sent c) is

  pub sent_told : (i : Item) → t' ≡ halves_told i t → AreSent t' m
  sent_told i is = sent_all (subst (AllLast t) (sym is) (all_told t i))

  pub sent_acked : (p : Piece) → t' ≡ halves_acked p t → AreSent t' m
  sent_acked p is = sent_all (subst (AllLast t) (sym is) (all_acked t p))

  pub sent_write : (n : ℕ) (bytes : List ℕ) (res : Result ℕ SendFault)
      → IfOk res (λ j. (refusal (or_no_sending (lookup t n)).lane ≡ None) × (j ≡ accepted (or_no_sending (lookup t n)).lane (length bytes)) × (t' ≡ updated t n (λ s. after_write s (take j bytes)) (lookup t n)))
      → IfErr res (λ f. (t' ≡ t) × (f ≡ unwrap_or (refusal (or_no_sending (lookup t n)).lane) NoMemory)) → AreSent t' m
  sent_write n bytes (Ok j) ok err = sent_half n (λ s. after_write s (take j bytes)) (λ s. record { sent = omega arith; ended = λ x. x; reset = λ x. x }) ok.2
  sent_write n bytes (Err f) ok err = sent_same err.0

  pub sent_open : {E : Type 0} (n limit buffer : ℕ) (res : Result (Unit {0}) E) → OnOk res (t' ≡ open_to t n (λ j. new_sending j limit buffer)) → OnErr res (t' ≡ t) → AreSent t' m
  sent_open n limit buffer (Ok a) ok err = sent_all (subst (AllLast t) (sym ok) opened)
    where
      opened : AllLast t (open_to t n (λ j. new_sending j limit buffer))
      opened k s is =
          elim (lookup_open t n k (λ j. new_sending j limit buffer)) [
            | inl same ↦ (s, same ∙ is, lasts_same s.lane)
            | inr new ↦ absurd (none_some s (sym new.0 ∙ is))
          ]
  sent_open n limit buffer (Err e) ok err = sent_same err

-- A piece is lost

pub sent_lost : (t t' : Tables Sending) (m m' new : Records) (order : List ℕ) (k : ℕ) (p : Piece) → t' ≡ halves_lost p t → m' ≡ m → new ≡ (lost_with k p (record { pieces = m'; order = order })).pieces → IsSentPiece t p → AreSent t m → AreSent t' new
sent_lost t t' m m' new order k p halves same is sent h q out =
    piece_lasts t t' (subst (AllLast t) (sym halves) (all_lost t p)) q
    (elim (lost_carried k p (record { pieces = m'; order = order }) q (subst (λ (x : Records). IsCarried x q) is out)) [
      | inl before ↦ h q (subst (λ (x : Records). IsCarried x q) same before)
      | inr e ↦ subst (IsSentPiece t) (sym e) sent
    ])

-- a lost record has a piece less
pub sent_less : (t : Tables Sending) (m new : Records) (k : ℕ) → new ≡ without_first m k (fmap.get m k) → AreSent t m → AreSent t new
sent_less t m new k is h p out = h p (carried-without_first m k p (subst (λ (x : Records). IsCarried x p) is out))

-- Streams

open_of_sent : (t : Tables Sending) (p : Piece) → IsSentPiece t p → IsOfOpen (lanes_of t) p
open_of_sent t p h = grind (arith, nat_tests, lane_there)

pub all_open : (t : Tables Sending) (m : Records) → AreSent t m → AreOfOpen (lanes_of t) m
all_open t m h p out = open_of_sent t p (h p out)

-- streams are closed of which nothing was sent
closed_sent : (t : Tables Sending) (n count : ℕ) (p : Piece) → IsSentPiece t p → IsOfOpen (lanes_of (with_table t (n % 4) (take count (table t (n % 4))))) p → IsSentPiece (with_table t (n % 4) (take count (table t (n % 4)))) p
closed_sent t n count (Data k c) (s, at, w) of =
    let half = half_of (with_table t (n % 4) (take count (table t (n % 4)))) k of in
    let same : s ≡ half.0 = some_is (lookup t k) s half.0 at (closed_at t n count k half.0 half.1) in
    (s, half.1 ∙ ap Some (sym same), w)
closed_sent t n count (Told (ResetStream k code size)) (s, at, r) of = go (lookup (with_table t (n % 4) (take count (table t (n % 4)))) k) refl (subst IsOfReset (lookup_lanes (with_table t (n % 4) (take count (table t (n % 4)))) k) of)
  where
    go : (o : Option Sending) → lookup (with_table t (n % 4) (take count (table t (n % 4)))) k ≡ o → IsOfReset (elim o [ None ↦ None | Some s ↦ Some s.lane ])
        → (s : Sending) × (lookup (with_table t (n % 4) (take count (table t (n % 4)))) k ≡ Some s) × (is_some s.lane.was_reset ≡ true)
    go None e x = absurd x
    go (Some y) e x = (y, e, x)
closed_sent t n count p h of = tt

pub sent_close : (t t' : Tables Sending) (m : Records) (n count : ℕ) → t' ≡ with_table t (n % 4) (take count (table t (n % 4)))
    → AreOfOpen (with_table (lanes_of t) (n % 4) (take count (table (lanes_of t) (n % 4)))) m → AreSent t m → AreSent t' m
sent_close t t' m n count is of h =
    subst (λ (x : Tables Sending). AreSent x m) (sym is)
    (λ p out. closed_sent t n count p (h p out) (subst (λ (x : Tables SendLane). IsOfOpen x p) (sym (lanes_closed t (n % 4) count)) (of p out)))
