-- What frames that come, acknowledgements, packets that are made and losses leave as it was.
use Rattle.std.proofs.lemmas.Bool.Decides.{nat_tests}
use Rattle.std.proofs.Common.{arith}
use Rattle.std.proofs.Common.{◌≡◌, ℕ, Bool, false, List, [], ◌∷◌, Option, refl, ap, ◌∙◌}
use Rattle.std.specs.Prelude.{Result}
use Rattle.std.specs.FinMap as fmap
use Rattle.std.proofs.lemmas.Bool.{cond_both}
use Rattle.qs_wire.specs.Layout.{PlacedValue}
use Rattle.qs_wire.specs.declared.fault.WireFault.{WireFault}
use Rattle.qs_send.specs.declared.piece.Item.{Item}
use Rattle.qs_send.specs.declared.piece.Piece.{Piece}
use Rattle.qs_calls.specs.declared.closing.Closing.{Closing}
use Rattle.qs_calls.specs.declared.closing.Received.{Received}
use Rattle.qs_machine.specs.Tables.{no_streams}
use Rattle.qs_machine.specs.LostPackets.{no_lost}
use Rattle.qs_machine.specs.Ends.{End, is_own, opens, opened_by_peer, no_items}
use Rattle.qs_machine.specs.Seen.{Seen}
use Rattle.qs_machine.specs.FrameStep.{frame_taken, item_taken, AckedPiece, without_piece, acks, first_acked, piece_acked}
use Rattle.qs_machine.specs.Lawful.{Fills, frame_put}
use Rattle.qs_machine.specs.Receiving.{AtEnd, RunsOut, Stops}
use Rattle.qs_machine.proofs.EveryCall.{stops_by}

-- an end without its sending side
abbrev pub but_sending : End → End
but_sending e = record e { sends = no_streams; outstanding = fmap.empty; lost = no_lost; acked = no_items; ack_due = false }

piece_leaves : (p : Piece) (e : End) → but_sending (piece_acked p e) ≡ but_sending e
piece_leaves p e = grind arith

pub acks_leave : (ps : List AckedPiece) (e : End) → but_sending (acks ps e) ≡ but_sending e
unfolding acks
acks_leave [] e = refl
acks_leave (p ∷ ps) e = acks_leave ps (first_acked p e) ∙ piece_leaves p.piece (without_piece p.late p.number e)

pub put_leaves : (f : Seen) (e : End) → but_sending (frame_put f e) ≡ but_sending e
unfolding frame_put
put_leaves f e = grind arith

pub fills_leave : (old : End) (fs : List Seen) (e mid : End) → Fills old e fs mid → but_sending mid ≡ but_sending e
fills_leave old [] e mid is = ap but_sending is
fills_leave old (f ∷ fs) e mid (may, rest) = fills_leave old fs (frame_put f e) mid rest ∙ put_leaves f e

-- an end without its streams and what it knows of its peer's limits
abbrev pub but_streams : End → End
but_streams e = record (but_sending e) { recvs = no_streams; known_data = 0; known_bidi = 0; known_uni = 0 }

opened_leaves : (n : ℕ) (e : End) → but_streams (opened_by_peer n e) ≡ but_streams e
opened_leaves n e = cond_both (is_own e n) e (opens n e) (λ x. but_streams x ≡ but_streams e) (λ _. refl) (λ _. refl)

item_leaves : (i : Item) (e : End) → but_streams (item_taken i e) ≡ but_streams e
item_leaves i e = grind arith

pub frame_leaves : (f : Seen) (e : End) → but_streams (frame_taken f e) ≡ but_streams e
unfolding frame_taken
frame_leaves f e = grind (arith, nat_tests, acks_leave, opened_leaves, item_leaves)

-- What ends the processing of a payload leaves the receiving halves.

out_leaves : (f : Seen) (e new : End) → RunsOut e f new → new.recvs ≡ e.recvs
out_leaves f e new h = grind (arith, nat_tests, acks_leave)

pub stops_leave : (p : PlacedValue) (f : Seen) (e : End) (result : Result Received Closing) (new : End) → Stops p f e result new → new.recvs ≡ e.recvs
stops_leave p f e result new stops = stops_by (new.recvs ≡ e.recvs) p f e result new stops (λ c is fault. ap (λ (x : End). x.recvs) is) (λ is out. out_leaves f e new out)

pub end_leaves : (number : ℕ) (asks : Bool) (fault : Option WireFault) (e : End) (result : Result Received Closing) (new : End) → AtEnd number asks fault e result new → new.recvs ≡ e.recvs
end_leaves number asks fault e result new is = grind arith
