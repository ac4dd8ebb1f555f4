-- Sending halves that differ in what is acknowledged of them alone, and ends that differ in their records.
use Rattle.std.proofs.lemmas.Bool.Decides.{nat_tests}
use Rattle.std.proofs.Common.{arith}
use Rattle.std.proofs.Common.{◌≡◌, ℕ, Bool, List, [], ◌∷◌, Option, Some, None, refl, sym, ap, subst}
use Rattle.std.specs.Prelude.{⊤}
use Rattle.std.specs.FinSet as set
use Rattle.std.proofs.lemmas.Bool.{or_left}
use Rattle.qs_ranges.specs.Numbers.{NumberSet, contains-with_range}
use Rattle.qs_send.specs.Lane.{SendLane}
use Rattle.qs_send.specs.declared.piece.Piece.{Piece}
use Rattle.qs_machine.specs.Tables.{Tables, lookup, updated}
use Rattle.qs_machine.specs.Ends.{End}
use Rattle.qs_machine.specs.FrameStep.{AckedPiece, acks, first_acked, piece_acked, without_piece}
use Rattle.qs_machine.proofs.TableLaws.{slots_updated}
use Rattle.qs_machine.proofs.Leaves.{but_sending, acks_leave}
use Rattle.qs_progress.proofs.Outstanding.{AcksStay, stay_same}

-- an end without its sending halves, its records and what it acknowledged
abbrev pub but_records : End → End
but_records e = record (but_sending e) { done = set.empty; floor = 0; next = 0; accepted_bidi = 0; accepted_uni = 0; closed = None }

pub record Alike (l m : SendLane) : Type 0 where
  pub written : m.written ≡ l.written
  pub sent_end : m.sent_end ≡ l.sent_end
  pub finished : m.finished ≡ l.finished
  pub was_reset : m.was_reset ≡ l.was_reset
  pub stopped : m.stopped ≡ l.stopped
  pub limit : m.limit ≡ l.limit
  pub acks : AcksStay l m

alike_by : (l : SendLane) (k : List ℕ) (s : NumberSet) (f r : Bool) → AcksStay l (record l { kept = k; acked = s; fin_acked = f; reset_acked = r }) → Alike l (record l { kept = k; acked = s; fin_acked = f; reset_acked = r })
alike_by l k s f r stay = record { written = refl; sent_end = refl; finished = refl; was_reset = refl; stopped = refl; limit = refl; acks = stay }

alike_same : (l : SendLane) → Alike l l
alike_same l = alike_by l l.kept l.acked l.fin_acked l.reset_acked (stay_same l)

alike_twice : (l m k : SendLane) → Alike l m → Alike m k → Alike l k
alike_twice l m k a b = grind (arith, nat_tests)

-- Tables

abbrev SlotAlike : Option SendLane → Option SendLane → Type 0
SlotAlike None None = ⊤
SlotAlike None (Some m) = ⊥
SlotAlike (Some l) None = ⊥
SlotAlike (Some l) (Some m) = Alike l m

abbrev pub SendsAlike : Tables SendLane → Tables SendLane → Type 0
SendsAlike t u = (n : ℕ) → SlotAlike (lookup t n) (lookup u n)

pub alike_at : (t u : Tables SendLane) → SendsAlike t u → (n : ℕ) (l : SendLane) → lookup t n ≡ Some l → (m : SendLane) × (lookup u n ≡ Some m) × Alike l m
alike_at t u h n l is = go (lookup u n) refl (subst (λ o. SlotAlike o (lookup u n)) is (h n))
  where
    go : (o : Option SendLane) → lookup u n ≡ o → SlotAlike (Some l) o → (m : SendLane) × (lookup u n ≡ Some m) × Alike l m
    go None at none = absurd none
    go (Some m) at a = (m, at, a)

pub alike_back : (t u : Tables SendLane) → SendsAlike t u → (n : ℕ) (m : SendLane) → lookup u n ≡ Some m → (l : SendLane) × (lookup t n ≡ Some l) × Alike l m
alike_back t u h n m is = go (lookup t n) refl (subst (SlotAlike (lookup t n)) is (h n))
  where
    go : (o : Option SendLane) → lookup t n ≡ o → SlotAlike o (Some m) → (l : SendLane) × (lookup t n ≡ Some l) × Alike l m
    go None at none = absurd none
    go (Some l) at a = (l, at, a)

slot_same : (o : Option SendLane) → SlotAlike o o
slot_same None = tt
slot_same (Some l) = alike_same l

slot_twice : (o p q : Option SendLane) → SlotAlike o p → SlotAlike p q → SlotAlike o q
slot_twice None None None x y = tt
slot_twice None None (Some k) x y = absurd y
slot_twice None (Some m) q x y = absurd x
slot_twice (Some l) None q x y = absurd x
slot_twice (Some l) (Some m) None x y = absurd y
slot_twice (Some l) (Some m) (Some k) x y = alike_twice l m k x y

pub slots_same : (t : Tables SendLane) → SendsAlike t t
slots_same t n = slot_same (lookup t n)

pub slots_twice : (t u v : Tables SendLane) → SendsAlike t u → SendsAlike u v → SendsAlike t v
slots_twice t u v x y n = slot_twice (lookup t n) (lookup u n) (lookup v n) (x n) (y n)

slots_edited : (t : Tables SendLane) (n : ℕ) (f : SendLane → SendLane) → ((l : SendLane) → Alike l (f l)) → SendsAlike t (updated t n f (lookup t n))
slots_edited t n f alike = go (lookup t n) refl
  where
    go : (o : Option SendLane) → lookup t n ≡ o → SendsAlike t (updated t n f o)
    go None is = slots_same t
    go (Some l) is = slots_updated (λ m o. SlotAlike (lookup t m) o) t n l (f l) is (λ m other. slots_same t m) (subst (λ o. SlotAlike o (Some (f l))) (sym is) (alike l))

-- Acknowledgements

pub alike_piece : (p : Piece) (e : End) → SendsAlike e.sends (piece_acked p e).sends
alike_piece p e = grind (arith, nat_tests, slots_edited, alike_by, contains-with_range, or_left, slots_same)

pub alike_acks : (ps : List AckedPiece) (e : End) → SendsAlike e.sends (acks ps e).sends
unfolding acks
alike_acks [] e = slots_same e.sends
alike_acks (a ∷ ps) e = slots_twice e.sends (first_acked a e).sends (acks ps (first_acked a e)).sends (alike_piece a.piece (without_piece a.late a.number e)) (alike_acks ps (first_acked a e))

pub acks_rest : (ps : List AckedPiece) (e : End) → but_records (acks ps e) ≡ but_records e
acks_rest ps e = ap (λ (x : End). record x { done = set.empty; floor = 0; next = 0; accepted_bidi = 0; accepted_uni = 0; closed = None }) (acks_leave ps e)
