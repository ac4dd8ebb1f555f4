-- What is put in packets has the present value, and values don't fall: so none in a packet, and none acknowledged, is above it.
use Rattle.std.proofs.lemmas.Bool.Decides.{nat_tests}
use Rattle.std.proofs.Common.{◌≡◌, ℕ, Bool, true, false, cond, ◌++◌, List, [], ◌∷◌, ◌⊎◌, take, Option, Some, None, refl, sym, ap, ◌∙◌, subst, inl, inr, arith}
use Rattle.std.specs.Prelude.{max}
use Rattle.std.specs.List.{AllByRecursion}
use Rattle.std.specs.FinMap as fmap
use Rattle.std.specs.Ordering.{nat_cmp, eq_by_cmp}
use Rattle.std.specs.Cmp.{nat_cmp_total}
use Rattle.std.proofs.lemmas.Bool.{cond_both}
use Rattle.std.proofs.lemmas.Option.{none-some}
use Rattle.qs_wire.specs.declared.stream_id.Role.{Role}
use Rattle.qs_wire.specs.declared.stream_id.Role.TheVariants.{Client, Server}
use Rattle.qs_wire.specs.declared.stream_id.Dir.TheVariants.{Bidi, Uni}
use Rattle.qs_recv.specs.Lane.{RecvLane}
use Rattle.qs_send.specs.Lane.{SendLane, sent_lane}
use Rattle.qs_send.specs.Records.{Among, IsCarried}
use Rattle.qs_send.specs.declared.parts.Reset.{Reset}
use Rattle.qs_send.specs.declared.piece.Item.{Item}
use Rattle.qs_send.specs.declared.piece.Item.TheVariants.{MaxData, MaxStreamData, MaxStreams, ResetStream, StopSending, DataBlocked, StreamDataBlocked, StreamsBlocked}
use Rattle.qs_send.specs.declared.piece.Piece.{Piece}
use Rattle.qs_send.specs.declared.piece.Piece.TheVariants.{Data, Told}
use Rattle.qs_send.proofs.Outstanding.{carried-empty, carried-without_first}
use Rattle.qs_calls.specs.declared.settings.Settings.{Settings}
use Rattle.qs_calls.specs.declared.settings.Tuning.{Tuning}
use Rattle.qs_calls.specs.declared.settings.PeerLimits.{PeerLimits}
use Rattle.qs_calls.specs.declared.event.Side.TheVariants.{A}
use Rattle.qs_machine.specs.Ends.{End, is_own, on_send, new_end, opens, opened_by_peer}
use Rattle.qs_machine.specs.Seen.{Seen, Ack, Stream, Control}
use Rattle.qs_machine.specs.Acked.{greatest, greatest_of, or_zero}
use Rattle.qs_machine.specs.FrameStep.{frame_taken, AckedPiece, held, acks, first_acked, without_piece, piece_acked, item_acked, named}
use Rattle.qs_machine.specs.Lawful.{MayPut, frame_put, item_put, chunk_of}
use Rattle.qs_machine.specs.Making.{first_lost}
use Rattle.qs_machine.specs.Due.{IsCurrent}
use Rattle.qs_machine.specs.Setting.{Grant, SendBuffer, StreamWindow}
use Rattle.qs_machine.specs.EndStep.{Call, Answer as CallAnswer, EndStep}
use Rattle.qs_machine.proofs.Pieces.{All_at, All_take, all_named}
use Rattle.qs_machine.proofs.Carried.{carried_is}
use Rattle.qs_machine.proofs.LostSent.{lost_carried}
use Rattle.qs_machine.proofs.EndsAfter.{carried_without}
use Rattle.qs_machine.proofs.EachHalf.{SendEdit, send_edited, sends_kept, RecvEdit, recv_edited, recvs_kept}
use Rattle.qs_machine.proofs.EveryCall.{Change, changed, Comes, each_call, Wanted, WasSet, Took, Acked, Put, Lost}
use Rattle.qs_machine.proofs.Rising.{rises_call}
use Rattle.qs_runs.specs.Worlds.{end_of}
use Rattle.qs_runs.proofs.Histories.{two_sides}
use Rattle.qs_runs.proofs.NewEnds.{first_world, made_first}
use Rattle.qs_runs.proofs.Stays.{each_side}
use Rattle.qs_progress.specs.Within.{IsKept, WasPut, IsWithin, AllWithin, ItemsAreWithin}
use Rattle.qs_progress.specs.Acknowledged.{IsPresent}
use Rattle.qs_progress.proofs.Items.{grown_call}

-- What is acknowledged

greatest_is : (o : Option ℕ) (v m : ℕ) → greatest o v ≡ Some m → (o ≡ Some m) ⊎ (m ≡ v)
greatest_is o v m is = grind (arith, nat_tests)

-- of the values of streams
greatest_of_is : (values : fmap.FinMap nat_cmp ℕ) (n v k m : ℕ) → fmap.get (greatest_of values n v) k ≡ Some m → (fmap.get values k ≡ Some m) ⊎ ((k ≡ n) × (m ≡ v))
greatest_of_is values n v k m is = go (eq_by_cmp nat_cmp k n) refl (sym (fmap.get-insert nat_cmp_total values n (max (or_zero (fmap.get values n)) v) k) ∙ is)
  where
    go : (b : Bool) → eq_by_cmp nat_cmp k n ≡ b → cond b (Some (max (or_zero (fmap.get values n)) v)) (fmap.get values k) ≡ Some m → (fmap.get values k ≡ Some m) ⊎ ((k ≡ n) × (m ≡ v))
    go b other at = grind (arith, nat_tests)

one_item : (item : ℕ → Item) (o : Option ℕ) (v m : ℕ) → greatest o v ≡ Some m → (o ≡ Some m) ⊎ (item m ≡ item v)
one_item item o v m is = elim (greatest_is o v m is) [ inl was ↦ inl was | inr e ↦ inr (ap item e) ]

stream_item : (item : ℕ → ℕ → Item) (values : fmap.FinMap nat_cmp ℕ) (n v k m : ℕ) → fmap.get (greatest_of values n v) k ≡ Some m → (fmap.get values k ≡ Some m) ⊎ (item k m ≡ item n v)
stream_item item values n v k m is = elim (greatest_of_is values n v k m is) [ inl was ↦ inl was | inr e ↦ inr (λ i. item (e.0 i) (e.1 i)) ]

kept_item : (j : Item) (e : End) (i : Item) → IsKept (item_acked j e).acked i → IsKept e.acked i ⊎ (i ≡ j)
kept_item (MaxData v) e (MaxData m) is = one_item MaxData e.acked.max_data v m is
kept_item (MaxStreamData n v) e (MaxStreamData k m) is = stream_item MaxStreamData e.acked.max_stream_data n v k m is
kept_item (MaxStreams Bidi v) e (MaxStreams Bidi m) is = one_item (MaxStreams Bidi) e.acked.bidi_streams v m is
kept_item (MaxStreams Bidi v) e (MaxStreams Uni m) is = inl is
kept_item (MaxStreams Bidi v) e (StreamsBlocked Bidi m) is = inl is
kept_item (MaxStreams Bidi v) e (StreamsBlocked Uni m) is = inl is
kept_item (MaxStreams Bidi v) e i is = inl is
kept_item (MaxStreams Uni v) e (MaxStreams Uni m) is = one_item (MaxStreams Uni) e.acked.uni_streams v m is
kept_item (MaxStreams Uni v) e (MaxStreams Bidi m) is = inl is
kept_item (MaxStreams Uni v) e (StreamsBlocked Bidi m) is = inl is
kept_item (MaxStreams Uni v) e (StreamsBlocked Uni m) is = inl is
kept_item (MaxStreams Uni v) e i is = inl is
kept_item (DataBlocked v) e (DataBlocked m) is = one_item DataBlocked e.acked.data_blocked v m is
kept_item (StreamDataBlocked n v) e (StreamDataBlocked k m) is = stream_item StreamDataBlocked e.acked.stream_data_blocked n v k m is
kept_item (StreamsBlocked Bidi v) e (StreamsBlocked Bidi m) is = one_item (StreamsBlocked Bidi) e.acked.bidi_blocked v m is
kept_item (StreamsBlocked Bidi v) e (StreamsBlocked Uni m) is = inl is
kept_item (StreamsBlocked Bidi v) e (MaxStreams Bidi m) is = inl is
kept_item (StreamsBlocked Bidi v) e (MaxStreams Uni m) is = inl is
kept_item (StreamsBlocked Bidi v) e i is = inl is
kept_item (StreamsBlocked Uni v) e (StreamsBlocked Uni m) is = one_item (StreamsBlocked Uni) e.acked.uni_blocked v m is
kept_item (StreamsBlocked Uni v) e (StreamsBlocked Bidi m) is = inl is
kept_item (StreamsBlocked Uni v) e (MaxStreams Bidi m) is = inl is
kept_item (StreamsBlocked Uni v) e (MaxStreams Uni m) is = inl is
kept_item (StreamsBlocked Uni v) e i is = inl is
kept_item j e (MaxStreams Uni m) is = inl is
kept_item j e (StreamsBlocked Uni m) is = inl is
kept_item j e i is = inl is

-- acknowledging leaves the records
carried_acked : (late : Bool) (p : Piece) (e : End) (q : Piece) → IsCarried (held late (piece_acked p e)) q → IsCarried (held late e) q
carried_acked late p e q is = grind (arith, nat_tests)

pub kept_piece : (p : Piece) (e : End) (i : Item) → IsKept (piece_acked p e).acked i → IsKept e.acked i ⊎ (p ≡ Told i)
kept_piece (Data n c) e i is = inl is
kept_piece (Told j) e i is = elim (kept_item j e i is) [ inl was ↦ inl was | inr same ↦ inr (ap Told (sym same)) ]

put_first : (a : AckedPiece) (e : End) (i : Item) → WasPut (first_acked a e) i → WasPut e i ⊎ (a.piece ≡ Told i)
put_first a e i (inl (late, is)) = inl (inl (late, carried_without late a.late a.number e (Told i) (carried_acked late a.piece (without_piece a.late a.number e) (Told i) is)))
put_first a e i (inr is) = elim (kept_piece a.piece (without_piece a.late a.number e) i is) [ inl was ↦ inl (inr was) | inr same ↦ inr same ]

put_acks : (ps : List AckedPiece) (e : End) (i : Item) → WasPut (acks ps e) i → WasPut e i ⊎ ((a : AckedPiece) × Among a ps × (a.piece ≡ Told i))
unfolding acks
put_acks [] e i is = inl is
put_acks (p ∷ ps) e i is =
    elim (put_acks ps (first_acked p e) i is) [
      | inl first ↦ elim (put_first p e i first) [ inl was ↦ inl was | inr same ↦ inr (p, inl refl, same) ]
      | inr (a, among, same) ↦ inr (a, inr among, same)
    ]

-- all that an ACK takes was put before
pub put_named : (ps : List AckedPiece) (e : End) (i : Item) → AllByRecursion (λ (a : AckedPiece). (late : Bool) × IsCarried (held late e) a.piece) ps → WasPut (acks ps e) i → WasPut e i
put_named ps e i all is =
    elim (put_acks ps e i is) [
      | inl was ↦ was
      | inr (a, among, same) ↦ (let (late, there) = All_at (λ (x : AckedPiece). (late : Bool) × IsCarried (held late e) x.piece) ps a all among in inl (late, subst (IsCarried (held late e)) same there))
    ]

pub all_there : (ranges : List (ℕ × ℕ)) (e : End) → AllByRecursion (λ (a : AckedPiece). (late : Bool) × IsCarried (held late e) a.piece) (named e ranges)
all_there ranges e = all_named (λ (a : AckedPiece). (late : Bool) × IsCarried (held late e) a.piece) ranges e (λ late k ps is at p among. (late, (k, ps, at, among)))

-- Frames, packets and losses

put_opened : (n : ℕ) (e : End) (i : Item) → WasPut (opened_by_peer n e) i → WasPut e i
put_opened n e i = cond_both (is_own e n) e (opens n e) (λ x. WasPut x i → WasPut e i) (λ _ is. is) (λ _ is. is)

put_frame : (f : Seen) (e : End) (i : Item) → WasPut (frame_taken f e) i → WasPut e i
unfolding frame_taken
put_frame (Ack largest ranges) e i is = put_named (named e ranges) e i (all_there ranges e) is
put_frame (Stream n offset bytes fin) e i is = put_opened n e i is
put_frame (Control (MaxStreamData n m)) e i is = put_opened n e i is
put_frame (Control (MaxStreams Uni m)) e i is = is
put_frame (Control (ResetStream n code size)) e i is = put_opened n e i is
put_frame (Control (StopSending n code)) e i is = put_opened n e i is
put_frame (Control (StreamDataBlocked n m)) e i is = put_opened n e i is
put_frame f e i is = is

-- in the packet that is being made
put_noted : (p : Piece) (e : End) (i : Item) → WasPut (record e { outstanding = fmap.insert e.outstanding e.next (elim (fmap.get e.outstanding e.next) [ None ↦ [] | Some ps ↦ ps ] ++ p ∷ []) }) i → WasPut e i ⊎ (p ≡ Told i)
put_noted p e i (inl (true, is)) = inl (inl (true, is))
put_noted p e i (inl (false, is)) = elim (carried_is e.outstanding e.next p (Told i) is) [ inl was ↦ inl (inl (false, was)) | inr same ↦ inr (sym same) ]
put_noted p e i (inr is) = inl (inr is)

put_item : (j : Item) (e : End) (i : Item) → WasPut (item_put j e) i → WasPut e i
put_item j e i is = grind (arith, nat_tests)

-- what was put before a call, or was the present value then
abbrev pub FromOld : End → End → Type 0
FromOld old e = (i : Item) → WasPut e i → WasPut old i ⊎ IsCurrent old i

put_put : (old : End) (f : Seen) (e : End) → MayPut old e f → FromOld old e → FromOld old (frame_put f e)
unfolding frame_put
put_put old (Ack largest ranges) e may h i is = h i is
put_put old (Stream n offset bytes fin) e may h i is = elim (put_noted (Data n (chunk_of offset bytes fin)) (on_send n (λ l. sent_lane l (chunk_of offset bytes fin)) e) i is) [ inl was ↦ h i was | inr same ↦ absurd (cc same) ]
put_put old (Control j) e may h i is =
    elim (put_noted (Told j) (item_put j e) i is) [
      | inl was ↦ h i (put_item j e i was)
      | inr same ↦ (let e : j ≡ i = cc same in inr (subst (IsCurrent old) e may.0.0))
    ]
put_put old _ e may h i is = absurd may

put_lost : (k : ℕ) (p : Piece) (e : End) (i : Item) → IsCarried e.outstanding p → WasPut (first_lost k p e) i → WasPut e i
put_lost k p e i there (inl (false, is)) = inl (false, carried-without_first e.outstanding k (Told i) is)
put_lost k p e i there (inl (true, is)) = elim (lost_carried k p e.lost (Told i) is) [ inl was ↦ inl (true, was) | inr same ↦ inl (false, subst (IsCarried e.outstanding) (sym same) there) ]
put_lost k p e i there (inr is) = inr is

from_change : (old : End) (call : Call) (c : Change) (e : End) → Comes old call e c → FromOld old e → FromOld old (changed c e)
from_change old call (Wanted Uni count) e comes h i is = h i is
from_change old call (WasSet (Grant Uni n)) e comes h i is = h i is
from_change old call (WasSet (SendBuffer n size)) e comes h i is = h i is
from_change old call (WasSet (StreamWindow n w)) e comes h i is = h i is
from_change old call (Took f) e comes h i is = h i (put_frame f e i is)
from_change old call (Acked count ranges) e comes h i is = h i (put_named (take count (named e ranges)) e i (All_take _ count (named e ranges) (all_there ranges e)) is)
from_change old call (Put f) e comes h i is = put_put old f e comes h i is
from_change old call (Lost k p) e comes h i is = h i (put_lost k p e i comes is)
from_change old call c e comes h i is = h i is

pub from_call : (old : End) (call : Call) (answer : CallAnswer call) (new : End) → EndStep old call answer new → FromOld old new
from_call old call answer new step =
    each_call old call (FromOld old) (FromOld old)
    (record {
      begins = λ i is. inl is;
      goes = λ c e comes h. from_change old call c e comes h;
      stays = λ i is. inl is;
      settles = λ e h. h;
      loses = λ k p e there h i is. h i (put_lost k p e i there is);
      claims = λ i is. inl is;
      shuts = λ comes close i is. inl is;
    }) answer new step

-- A value that was the present one isn't above it later

abbrev KeepsReset : SendLane → SendLane → Type 0
KeepsReset l m = (r : Reset) → l.was_reset ≡ Some r → m.was_reset ≡ Some r

keeps_reset : (x : SendEdit) (l : SendLane) → KeepsReset l (send_edited x l)
keeps_reset x l r is = grind (arith, nat_tests)

abbrev KeepsStop : RecvLane → RecvLane → Type 0
KeepsStop l m = (code : ℕ) → l.stop_code ≡ Some code → m.stop_code ≡ Some code

keeps_stop : (x : RecvEdit) (l : RecvLane) → KeepsStop l (recv_edited x l)
keeps_stop x l c is = grind (arith, nat_tests)

pub within_call : (old : End) (call : Call) (answer : CallAnswer call) (new : End) → EndStep old call answer new → (i : Item) → IsWithin old i → IsWithin new i
within_call old call answer new step (MaxData m) is = omega (arith, is, (rises_call old call answer new step).0)
within_call old call answer new step (MaxStreamData n m) (l, at, le) = let (k, there, up) = (rises_call old call answer new step).4 n l at in (k, there, omega (arith, le, up))
within_call old call answer new step (MaxStreams Bidi m) is = omega (arith, is, (grown_call old call answer new step).1)
within_call old call answer new step (MaxStreams Uni m) is = omega (arith, is, (grown_call old call answer new step).2)
within_call old call answer new step (ResetStream n code size) (l, at, is) =
    let (k, there, keeps) = (sends_kept KeepsReset (λ l r is. is) (λ l m k x y r is. y r (x r is)) keeps_reset old call answer new step).1 n l at in
    (k, there, keeps (record { code = code; size = size }) is)
within_call old call answer new step (StopSending n code) (l, at, is) =
    let (k, there, keeps) = recvs_kept KeepsStop (λ l c is. is) (λ l m k x y c is. y c (x c is)) keeps_stop old call answer new step n l at in
    (k, there, keeps code is)
within_call old call answer new step (DataBlocked m) is = omega (arith, is, (rises_call old call answer new step).1)
within_call old call answer new step (StreamDataBlocked n m) (l, at, le) = let (k, there, up) = (rises_call old call answer new step).5 n l at in (k, there, omega (arith, le, up))
within_call old call answer new step (StreamsBlocked Bidi m) is = omega (arith, is, (rises_call old call answer new step).2)
within_call old call answer new step (StreamsBlocked Uni m) is = omega (arith, is, (rises_call old call answer new step).3)

-- what is current has its present value
pub current_present : (e : End) (i : Item) → IsCurrent e i → IsPresent e i
current_present e (MaxData m) is = is.0
current_present e (MaxStreamData n m) (l, at, same, more, unsized) = (l, at, same)
current_present e (MaxStreams d m) is = is.0
current_present e (ResetStream n code size) is = is
current_present e (StopSending n code) (l, at, is, unreset, missing) = (l, at, is)
current_present e (DataBlocked m) is = is.0
current_present e (StreamDataBlocked n m) (l, at, no_reset, same, more, end) = (l, at, same)
current_present e (StreamsBlocked d m) is = is.1

-- and that is within itself
pub present_within : (e : End) (i : Item) → IsPresent e i → IsWithin e i
present_within e (MaxData m) is = omega (arith, is)
present_within e (MaxStreamData n m) (l, at, same) = (l, at, omega (arith, same))
present_within e (MaxStreams d m) is = omega (arith, is)
present_within e (ResetStream n code size) is = is
present_within e (StopSending n code) is = is
present_within e (DataBlocked m) is = omega (arith, is)
present_within e (StreamDataBlocked n m) (l, at, same) = (l, at, omega (arith, same))
present_within e (StreamsBlocked d m) is = omega (arith, is)

pub now_within : (e : End) (i : Item) → IsCurrent e i → IsWithin e i
now_within e i is = present_within e i (current_present e i is)

pub all_within_call : (old : End) (call : Call) (answer : CallAnswer call) (new : End) → EndStep old call answer new → AllWithin old → AllWithin new
all_within_call old call answer new step h i is = grind (arith, nat_tests, from_call, within_call, now_within)

-- of a new end nothing was put
new_put : (role : Role) (s : Settings) (t : Tuning) (p : PeerLimits) (i : Item) → WasPut (new_end role s t p) i → ⊥
new_put role s t p i (inl (true, is)) = carried-empty (Told i) is
new_put role s t p i (inl (false, is)) = carried-empty (Told i) is
new_put role s t p (MaxData m) (inr is) = none-some m is
new_put role s t p (MaxStreamData n m) (inr is) = none-some m (sym (fmap.get-empty nat_cmp n) ∙ is)
new_put role s t p (MaxStreams Bidi m) (inr is) = none-some m is
new_put role s t p (MaxStreams Uni m) (inr is) = none-some m is
new_put role s t p (ResetStream n code size) (inr is) = is
new_put role s t p (StopSending n code) (inr is) = is
new_put role s t p (DataBlocked m) (inr is) = none-some m is
new_put role s t p (StreamDataBlocked n m) (inr is) = none-some m (sym (fmap.get-empty nat_cmp n) ∙ is)
new_put role s t p (StreamsBlocked Bidi m) (inr is) = none-some m is
new_put role s t p (StreamsBlocked Uni m) (inr is) = none-some m is

pub items_are_within : ItemsAreWithin
items_are_within a b [] w begins s =
    subst (λ x. AllWithin (end_of x s)) (sym (made_first a b begins.tuned_a begins.tuned_b begins.of_a begins.of_b w begins.begun))
    (two_sides (λ t. AllWithin (end_of (first_world a b begins.tuned_a begins.tuned_b begins.of_a begins.of_b) t)) A (λ i is. absurd (new_put Client a begins.tuned_a begins.of_b i is)) (λ i is. absurd (new_put Server b begins.tuned_b begins.of_a i is)) s)
items_are_within a b (x ∷ h) w (v, run, step) s =
    each_side (λ e f. AllWithin e → AllWithin f) (λ e h. h) v w (λ t call answer made. all_within_call (end_of v t) call answer (end_of w t) made) h x step s (items_are_within a b h v run s)
