-- No call lowers a limit.
use Rattle.std.proofs.Common.{ℕ, sym, ◌≤◌, List, subst, arith}
use Rattle.std.proofs.lemmas.Bool.{cond_both}
use Rattle.qs_send.specs.Lane.{SendLane}
use Rattle.qs_machine.specs.Ends.{End, is_own, opens, opened_by_peer}
use Rattle.std.proofs.lemmas.Bool.Decides.{nat_tests}
use Rattle.qs_recv.specs.Lane.{RecvLane, next_limit, limit_with}
use Rattle.qs_recv.specs.declared.credit.Share.{Share}
use Rattle.qs_machine.specs.Seen.{Seen}
use Rattle.qs_machine.specs.FrameStep.{frame_taken, AckedPiece, acks}
use Rattle.qs_machine.specs.EndStep.{Call, Answer, EndStep}
use Rattle.qs_machine.specs.Standing.{LimitsRise}
use Rattle.qs_machine.proofs.EveryCall.{Change, changed, Comes, relates}
use Rattle.qs_machine.proofs.EachHalf.{SendEdit, send_edited, sends_kept, RecvEdit, recv_edited, recvs_kept}
use Rattle.qs_machine.proofs.Leaves.{acks_leave, put_leaves}

le_same : (n : ℕ) → n ≤ n
le_same n = omega arith

pub next_limit_grows : (l t w : ℕ) (share : Share) → l ≤ next_limit l t w share
next_limit_grows l t w share = grind (arith, nat_tests)

-- a limit that a window moves is no lower
pub window_grows : (present g t w : ℕ) → g ≤ limit_with present g t w
window_grows present g t w = grind (arith, nat_tests)

-- Halves

send_rises : (x : SendEdit) (l : SendLane) → l.limit ≤ (send_edited x l).limit
send_rises x l = grind arith

recv_rises : (x : RecvEdit) (l : RecvLane) → l.limit ≤ (recv_edited x l).limit
recv_rises x l = grind arith

-- What is granted and known of the connection

abbrev CreditRises : End → End → Type 0
CreditRises a b = (a.granted ≤ b.granted) × (a.known_data ≤ b.known_data) × (a.known_bidi ≤ b.known_bidi) × (a.known_uni ≤ b.known_uni)

credit_same : (e : End) → CreditRises e e
credit_same e = (le_same e.granted, le_same e.known_data, le_same e.known_bidi, le_same e.known_uni)

credit_twice : (a b c : End) → CreditRises a b → CreditRises b c → CreditRises a c
credit_twice a b c x y = (omega (arith, x.0, y.0), omega (arith, x.1, y.1), omega (arith, x.2, y.2), omega (arith, x.3, y.3))

credit_opened : (n : ℕ) (e : End) → CreditRises e (opened_by_peer n e)
credit_opened n e = cond_both (is_own e n) e (opens n e) (CreditRises e) (λ _. credit_same e) (λ _. credit_same e)

credit_acks : (ps : List AckedPiece) (e : End) → CreditRises e (acks ps e)
credit_acks ps e = subst (CreditRises e) (sym (acks_leave ps e)) (credit_same e)

credit_frame : (f : Seen) (e : End) → CreditRises e (frame_taken f e)
unfolding frame_taken
credit_frame f e = grind (arith, nat_tests, credit_acks, credit_opened, le_same, credit_same)

credit_change : (old : End) (call : Call) (c : Change) (e : End) → Comes old call e c → CreditRises e (changed c e)
credit_change old call c e comes = grind (arith, nat_tests, credit_same, le_same, window_grows, credit_frame, credit_acks, put_leaves, next_limit_grows)

pub rises_call : (old : End) (call : Call) (answer : Answer call) (new : End) → EndStep old call answer new → LimitsRise old new
rises_call old call answer new step =
    let credit : CreditRises old new = relates CreditRises credit_same credit_twice old call (credit_change old call) answer new step in (
      credit.0,
      credit.1,
      credit.2,
      credit.3,
      recvs_kept (λ l m. l.limit ≤ m.limit) (λ l. le_same l.limit) (λ l m k r s. omega (arith, r, s)) recv_rises old call answer new step,
      (sends_kept (λ l m. l.limit ≤ m.limit) (λ l. le_same l.limit) (λ l m k r s. omega (arith, r, s)) send_rises old call answer new step).1,
    )
