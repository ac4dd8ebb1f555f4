-- How many packets are outstanding: each loss takes one away, and what comes adds none.
use Rattle.std.proofs.lemmas.Bool.Decides.{nat_tests}
use Rattle.std.proofs.Common.{inl, inr, ◌≡◌, ℕ, ◌+◌, ◌-◌, ◌≤◌, true, false, cond, nat_cmp, List, [], ◌∷◌, Bool, Some, is_some, sym, ap, ◌∙◌, arith}
use Rattle.std.specs.Prelude.{Ok, Err, Result}
use Rattle.std.specs.FinMap as fmap
use Rattle.std.specs.Cmp.{nat_cmp_total}
use Rattle.std.proofs.lemmas.Bool.{cases_lt, cond_both, false≢true}
use Rattle.qs_send.specs.Records.{PacketPieces, NoneEmpty, without_first}
use Rattle.qs_send.specs.declared.piece.Piece.{Piece}
use Rattle.qs_send.proofs.Outstanding.{rest_of, get_same-without_first}
use Rattle.qs_calls.specs.declared.making.LostFault.{LostFault}
use Rattle.qs_machine.specs.Ends.{End, is_own, opens, opened_by_peer}
use Rattle.qs_machine.specs.Seen.{Seen}
use Rattle.qs_machine.specs.FrameStep.{AckedPiece, frame_taken, frames_taken, first_acked, without_piece, acks}
use Rattle.qs_machine.specs.Making.{LoseStep, lose_refusal, losses, first_lost}
use Rattle.qs_machine.proofs.AcksAgain.{held_piece}
use Rattle.qs_runs.proofs.Standing.{certain_cases}

some_len : (m : PacketPieces) (k : ℕ) → is_some (fmap.get m k) ≡ true → 1 ≤ fmap.len m
some_len m k held =
    elim (cases_lt 0 (fmap.len m)) [
      | inl some ↦ omega (arith, some)
      | inr none ↦ absurd (false≢true (sym (ap is_some (ap (λ (n : PacketPieces). fmap.get n k) (fmap.empty_of_len m (omega (arith, none))) ∙ fmap.get-empty nat_cmp k)) ∙ held))
    ]

-- without its first piece a packet that has more stays, and one that has no more goes
stays_len : (m : PacketPieces) (k : ℕ) (ps : List Piece) → is_some (fmap.get m k) ≡ true → fmap.len (fmap.insert m k ps) ≡ fmap.len m
stays_len m k ps held = fmap.len-insert nat_cmp_total m k ps ∙ ap (λ b. cond b (fmap.len m) (fmap.len m + 1)) held

goes_len : (m : PacketPieces) (k : ℕ) → is_some (fmap.get m k) ≡ true → fmap.len (fmap.remove m k) + 1 ≡ fmap.len m
goes_len m k held = (let less = fmap.len-remove nat_cmp_total m k ∙ ap (λ b. cond b (fmap.len m - 1) (fmap.len m)) held in let some = some_len m k held in omega (arith, less, some))

less_first : (m : PacketPieces) (k : ℕ) → fmap.len (without_first m k (fmap.get m k)) ≤ fmap.len m
less_first m k = grind (arith, nat_tests, goes_len, stays_len)

-- Losses

lost_len : (k : ℕ) (p : Piece) (ps : List Piece) (e : End) → fmap.get e.outstanding k ≡ Some (p ∷ ps) → fmap.len (losses k (p ∷ ps) e).outstanding + 1 ≤ fmap.len e.outstanding
unfolding losses
lost_len k p [] e is =
    let gone : (first_lost k p e).outstanding ≡ fmap.remove e.outstanding k = ap (without_first e.outstanding k) is in
    let one = goes_len e.outstanding k (ap is_some is) in
    let same = ap fmap.len gone in
    omega (arith, one, same)
lost_len k p (q ∷ ps) e is =
    let less = less_first e.outstanding k in
    let more = lost_len k q ps (first_lost k p e) (get_same-without_first e.outstanding k ∙ ap rest_of is) in
    omega (arith, less, more)

pub lose_less : (e f : End) (k : ℕ) → NoneEmpty e.outstanding → LoseStep e k (Ok tt) f → fmap.len f.outstanding + 1 ≤ fmap.len e.outstanding
lose_less e f k full step =
    elim (certain_cases (lose_refusal e k) e (Ok tt) f _ step) [
      | inl (fault, is, same) ↦ absurd (false≢true (sym (ap is_ok is)))
      | inr (allowed, (ps, there, told)) ↦ elim told [
        | inr (moved, lt, is, same) ↦ absurd (false≢true (sym (ap is_ok is)))
        | inl (ok, is) ↦ (let lost = by ps there in let same = ap (λ (x : End). fmap.len x.outstanding) is in omega (arith, lost, same))
      ]
    ]
  where
    is_ok : Result (Unit {0}) LostFault → Bool
    is_ok (Ok u) = true
    is_ok (Err fault) = false

    by : (ps : List Piece) → fmap.get e.outstanding k ≡ Some ps → fmap.len (losses k ps e).outstanding + 1 ≤ fmap.len e.outstanding
    by [] there = absurd (full k there)
    by (p ∷ ps) there = lost_len k p ps e there

-- What comes

acks_len : (ps : List AckedPiece) (e : End) → fmap.len (acks ps e).outstanding ≤ fmap.len e.outstanding
unfolding acks
acks_len [] e = omega arith
acks_len (a ∷ ps) e =
    let one : fmap.len (without_piece a.late a.number e).outstanding ≤ fmap.len e.outstanding = first a.late in
    let same = ap fmap.len (held_piece false a.piece (without_piece a.late a.number e)) in
    let more = acks_len ps (first_acked a e) in
    omega (arith, one, same, more)
  where
    first : (b : Bool) → fmap.len (without_piece b a.number e).outstanding ≤ fmap.len e.outstanding
    first b = grind (arith, nat_tests, less_first)

opened_len : (n : ℕ) (e : End) → fmap.len (opened_by_peer n e).outstanding ≤ fmap.len e.outstanding
opened_len n e = cond_both (is_own e n) e (opens n e) (λ x. fmap.len x.outstanding ≤ fmap.len e.outstanding) (λ _. omega arith) (λ _. omega arith)

frame_len : (f : Seen) (e : End) → fmap.len (frame_taken f e).outstanding ≤ fmap.len e.outstanding
unfolding frame_taken
frame_len f e = grind (arith, nat_tests, acks_len, opened_len)

pub frames_len : (fs : List Seen) (e : End) → fmap.len (frames_taken fs e).outstanding ≤ fmap.len e.outstanding
unfolding frames_taken
frames_len [] e = omega arith
frames_len (f ∷ fs) e = (let one = frame_len f e in let more = frames_len fs (frame_taken f e) in omega (arith, one, more))
