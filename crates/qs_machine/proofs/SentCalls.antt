-- Every call leaves all outstanding data written.
use Rattle.std.proofs.Common.{◌≡◌, ℕ, nat_eq, ◌++◌, ◌≤◌, Bool, true, false, not, ◌&&◌, List, [], ◌∷◌, take, Option, Some, None, is_some, refl, sym, ap, ◌∙◌, subst, arith, inl, inr}
use Rattle.std.specs.Prelude.{cond, Ok}
use Rattle.std.proofs.lemmas.Option.{same_Some}
use Rattle.std.proofs.lemmas.Bool.{cond_both}
use Rattle.qs_wire.specs.declared.stream_id.Dir.TheVariants.{Uni}
use Rattle.qs_send.specs.Lane.{SendLane, new_lane as new_send_lane, reset_refusal, write_lane, finish_lane, reset_lane, stop_taken, acked_lane, allow_lane, reset_acked_lane, blocked_lane, sent_lane, buffer_lane}
use Rattle.qs_send.specs.declared.piece.Item.{Item}
use Rattle.qs_send.specs.declared.piece.Item.TheVariants.{MaxStreamData, MaxStreams, ResetStream, StopSending, StreamDataBlocked, StreamsBlocked}
use Rattle.qs_send.specs.declared.piece.Piece.{Piece}
use Rattle.qs_send.specs.declared.piece.Piece.TheVariants.{Data, Told}
use Rattle.qs_machine.specs.Tables.{Tables, lookup, updated}
use Rattle.qs_machine.specs.Ends.{End, Records, new_end, wide_end_made, end_unless, on_send, is_own, is_uni, first_send_limit, opens, opened_by_peer}
use Rattle.qs_machine.specs.Seen.{Seen, Ack, Stream, Control}
use Rattle.qs_machine.specs.FrameStep.{frame_taken, item_taken, AckedPiece, held, without_piece, acks, first_acked, piece_acked, item_acked, named}
use Rattle.qs_machine.specs.Lawful.{MayPut, frame_put, item_put, chunk_of, noted, pieces_so_far}
use Rattle.qs_machine.specs.Making.{first_lost}
use Rattle.qs_machine.specs.EndStep.{Call, Answer, EndStep}
use Rattle.qs_machine.specs.Raising.{limits_raised}
use Rattle.qs_machine.specs.Setting.{Grant, StreamWindow, SendBuffer}
use Rattle.qs_machine.proofs.EachHalf.{kept_raised}
use Rattle.std.specs.FinMap as fmap
use Rattle.qs_wire.specs.declared.stream_id.Role.{Role}
use Rattle.qs_send.specs.Records.{Among, IsCarried}
use Rattle.qs_send.proofs.Outstanding.{get-insert_packet, carried-empty, carried-without_first}
use Rattle.qs_calls.specs.declared.settings.Settings.{Settings}
use Rattle.qs_calls.specs.declared.settings.Tuning.{Tuning}
use Rattle.qs_calls.specs.declared.settings.PeerLimits.{PeerLimits}
use Rattle.qs_calls.specs.declared.settings.SetupFault.{SetupFault}
use Rattle.qs_calls.specs.Settings.{wide_setup_fault}
use Rattle.qs_machine.specs.Due.{IsCurrent}
use Rattle.qs_machine.specs.Repeats.{IsWritten, WasBrokenOff, WasWritten, SentWasWritten}
use Rattle.qs_machine.proofs.TablesAfter.{KeptIn, kept_same, kept_updated, kept_open}
use Rattle.qs_machine.proofs.EndsAfter.{IsLonger, written_stays, carried_without}
use Rattle.qs_machine.proofs.LostSent.{lost_carried}
use Rattle.qs_machine.proofs.Carried.{among_push}
use Rattle.qs_machine.proofs.EveryCall.{Change, changed, Comes, relates, Wanted, Opened, Written, Finished, WasReset, Raised, WasSet, Took, Acked, Put, Numbered, Lost}

-- a call leaves all outstanding data written, where it was
abbrev Keeps : End → End → Type 0
Keeps old new = SentWasWritten old → SentWasWritten new

longer_same : (l : SendLane) → IsLonger l l
longer_same l = (omega arith, λ is. is)

longer_twice : (l m k : SendLane) → IsLonger l m → IsLonger m k → IsLonger l k
longer_twice l m k a b = (omega (arith, a.0, b.0), λ is. b.1 (a.1 is))

halves_keep : (t u : Tables SendLane) (m : Records) → KeptIn IsLonger t u → ((p : Piece) → IsCarried m p → WasWritten t p) → (p : Piece) → IsCarried m p → WasWritten u p
halves_keep t u m kept h p is = written_stays IsLonger (λ x y r. r) t u kept p (h p is)

keeps_same : (e : End) → Keeps e e
keeps_same e h = h

keeps_twice : (a b c : End) → Keeps a b → Keeps b c → Keeps a c
keeps_twice a b c x y h = y (x h)

keeps_send : (n : ℕ) (f : SendLane → SendLane) (e : End) → ((l : SendLane) → IsLonger l (f l)) → Keeps e (on_send n f e)
keeps_send n f e up h late = halves_keep e.sends (updated e.sends n f (lookup e.sends n)) (held late e) (kept_updated IsLonger longer_same e.sends n f (λ l is. up l)) (h late)

keeps_raised : (p : PeerLimits) (e : End) → Keeps e (limits_raised p e)
keeps_raised p e h late = halves_keep e.sends (limits_raised p e).sends (held late e) (kept_raised IsLonger longer_same longer_twice (λ limit l. longer_same l) p e) (h late)

keeps_opens : (n : ℕ) (e : End) → Keeps e (opens n e)
keeps_opens n e h late =
    halves_keep e.sends (opens n e).sends (held late e)
    (cond_both (is_uni n && not (is_own e n)) e.sends _ (KeptIn IsLonger e.sends) (λ _. kept_same IsLonger longer_same e.sends) (λ _. kept_open IsLonger longer_same e.sends n (λ m. new_send_lane m (first_send_limit e n) e.settings.send_buffer)))
    (h late)

keeps_opened : (n : ℕ) (e : End) → Keeps e (opened_by_peer n e)
keeps_opened n e = cond_both (is_own e n) e (opens n e) (Keeps e) (λ _. keeps_same e) (λ _. keeps_opens n e)

keeps_without : (late : Bool) (k : ℕ) (e : End) → Keeps e (without_piece late k e)
keeps_without late k e h b p is = h b p (carried_without b late k e p is)

-- Frames

keeps_item_acked : (i : Item) (e : End) → Keeps e (item_acked i e)
keeps_item_acked (ResetStream n code size) e = keeps_send n reset_acked_lane e longer_same
keeps_item_acked (MaxStreams Uni m) e = keeps_same e
keeps_item_acked (StreamsBlocked Uni m) e = keeps_same e
keeps_item_acked i e = keeps_same e

keeps_piece_acked : (p : Piece) (e : End) → Keeps e (piece_acked p e)
keeps_piece_acked (Data n c) e = keeps_send n (λ l. acked_lane l c) e longer_same
keeps_piece_acked (Told i) e = keeps_item_acked i e

keeps_first : (a : AckedPiece) (e : End) → Keeps e (first_acked a e)
keeps_first a e =
    let short = without_piece a.late a.number e in
    keeps_twice e short (first_acked a e) (keeps_without a.late a.number e) (keeps_piece_acked a.piece short)

keeps_acks : (ps : List AckedPiece) (e : End) → Keeps e (acks ps e)
unfolding acks
keeps_acks [] e = keeps_same e
keeps_acks (p ∷ ps) e = keeps_twice e (first_acked p e) (acks ps (first_acked p e)) (keeps_first p e) (keeps_acks ps (first_acked p e))

reset_written : (code : ℕ) (l : SendLane) → IsLonger l (reset_lane l code)
reset_written code l = (grind arith, λ is. grind arith)

stop_taken_written : (answers : Bool) (code : ℕ) (l : SendLane) → IsLonger l (stop_taken answers l code)
stop_taken_written answers code l = (grind arith, λ is. grind arith)

-- after an opening a half changes
opened_send : (n : ℕ) (f : SendLane → SendLane) (e : End) → ((l : SendLane) → IsLonger l (f l)) → Keeps e (on_send n f (opened_by_peer n e))
opened_send n f e up = keeps_twice e (opened_by_peer n e) (on_send n f (opened_by_peer n e)) (keeps_opened n e) (keeps_send n f (opened_by_peer n e) up)

keeps_item : (i : Item) (e : End) → Keeps e (item_taken i e)
keeps_item (MaxStreamData n m) e = opened_send n (λ l. allow_lane l m) e longer_same
keeps_item (MaxStreams Uni m) e = keeps_same e
keeps_item (ResetStream n code size) e = keeps_opened n e
keeps_item (StopSending n code) e = opened_send n (λ l. stop_taken e.tuning.answers_stops l code) e (stop_taken_written e.tuning.answers_stops code)
keeps_item (StreamDataBlocked n m) e = keeps_opened n e
keeps_item i e = keeps_same e

keeps_frame : (f : Seen) (e : End) → Keeps e (frame_taken f e)
unfolding frame_taken
keeps_frame (Ack largest ranges) e = keeps_acks (named e ranges) e
keeps_frame (Stream n offset bytes fin) e = keeps_opened n e
keeps_frame (Control i) e = keeps_item i e
keeps_frame f e = keeps_same e

-- Packets

keeps_item_put : (i : Item) (e : End) → Keeps e (item_put i e)
keeps_item_put (StreamDataBlocked n m) e = keeps_send n blocked_lane e longer_same
keeps_item_put i e = keeps_same e

-- what is put in a packet was written
keeps_noted : (p : Piece) (e : End) → WasWritten e.sends p → Keeps e (noted p e)
keeps_noted p e written h true q is = h true q is
keeps_noted p e written h false q (k, qs, is, a) = go (nat_eq k e.next) (sym (get-insert_packet e.outstanding e.next _ k) ∙ is)
  where
    so_far : (o : Option (List Piece)) → fmap.get e.outstanding e.next ≡ o → Among q (elim o [ None ↦ [] | Some ps ↦ ps ] ++ p ∷ []) → WasWritten e.sends q
    so_far None at (inl same) = subst (WasWritten e.sends) (sym same) written
    so_far None at (inr none) = absurd none
    so_far (Some ps) at among = elim (among_push ps p q among) [ inl old ↦ h false q (e.next, ps, at, old) | inr same ↦ subst (WasWritten e.sends) (sym same) written ]

    go : (b : Bool) → cond b (Some (pieces_so_far e e.next ++ p ∷ [])) (fmap.get e.outstanding k) ≡ Some qs → WasWritten e.sends q
    go true same = so_far (fmap.get e.outstanding e.next) refl (subst (Among q) (sym (same_Some (pieces_so_far e e.next ++ p ∷ []) qs same)) a)
    go false old = h false q (k, qs, old, a)

-- a RESET_STREAM that is due is of a stream that was reset
item_written : (i : Item) (e : End) → IsCurrent e i → WasWritten (item_put i e).sends (Told i)
item_written (ResetStream n code size) e (l, there, broken) = subst WasBrokenOff (sym there) (ap is_some broken)
item_written i e current = tt

keeps_put : (old : End) (f : Seen) (e : End) → MayPut old e f → Keeps e (frame_put f e)
unfolding frame_put
keeps_put old (Ack largest ranges) e may = keeps_same e
keeps_put old (Stream n offset bytes fin) e (l, may) =
    let sent : SendLane → SendLane = λ m. sent_lane m (chunk_of offset bytes fin) in
    keeps_twice e (on_send n sent e) (noted (Data n (chunk_of offset bytes fin)) (on_send n sent e)) (keeps_send n sent e longer_same)
    (keeps_noted (Data n (chunk_of offset bytes fin)) (on_send n sent e)
    (written_stays IsLonger (λ x y r. r) e.sends (on_send n sent e).sends (kept_updated IsLonger longer_same e.sends n sent (λ m is. longer_same m)) (Data n (chunk_of offset bytes fin))
    (subst (λ o. IsWritten o (chunk_of offset bytes fin)) (sym may.lane) may.inside)))
keeps_put old (Control i) e may = keeps_twice e (item_put i e) (noted (Told i) (item_put i e)) (keeps_item_put i e) (keeps_noted (Told i) (item_put i e) (item_written i e may.1.0))
keeps_put old _ e may = absurd may

-- a piece that moves to the lost record was written
keeps_first_lost : (k : ℕ) (p : Piece) (e : End) → WasWritten e.sends p → Keeps e (first_lost k p e)
keeps_first_lost k p e written h false q is = h false q (carried-without_first e.outstanding k q is)
keeps_first_lost k p e written h true q is = elim (lost_carried k p e.lost q is) [ inl before ↦ h true q before | inr same ↦ subst (WasWritten e.sends) (sym same) written ]

-- Every call

pub keeps_change : (old : End) (call : Call) (c : Change) (e : End) → Comes old call e c → Keeps e (changed c e)
keeps_change old call (Wanted Uni count) e comes = keeps_same e
keeps_change old call (Opened n) e comes = keeps_opens n e
keeps_change old call (Written n bytes l) e comes = keeps_send n (λ m. write_lane m bytes) e (λ m. (omega arith, λ is. is))
keeps_change old call (Finished n) e comes = keeps_send n finish_lane e longer_same
keeps_change old call (WasReset n code) e comes = keeps_send n (λ m. reset_lane m code) e (reset_written code)
keeps_change old call (Raised p) e comes = keeps_raised p e
keeps_change old call (WasSet (Grant Uni n)) e comes = keeps_same e
keeps_change old call (WasSet (SendBuffer n size)) e comes = keeps_send n (λ m. buffer_lane m size) e longer_same
keeps_change old call (WasSet (StreamWindow n w)) e comes = keeps_same e
keeps_change old call (Took f) e comes = keeps_frame f e
keeps_change old call (Acked count ranges) e comes = keeps_acks (take count (named e ranges)) e
keeps_change old call (Put f) e comes = keeps_put old f e comes
keeps_change old call (Numbered next) e comes = λ h late p is. h late p is
keeps_change old call (Lost k p) e comes = λ h. keeps_first_lost k p e (h false p comes) h
keeps_change old call c e comes = keeps_same e

pub keeps_call : (old : End) (call : Call) (answer : Answer call) (new : End) → EndStep old call answer new → Keeps old new
keeps_call old call answer new step = relates Keeps keeps_same keeps_twice old call (keeps_change old call) answer new step

-- Of a new end nothing is outstanding, and nothing lost.
made_keeps : (r : Option SetupFault) (made e : End) → ((late : Bool) (p : Piece) → IsCarried (held late made) p → ⊥) → end_unless r made ≡ Ok e → SentWasWritten e
made_keeps (Some fault) made e none is = absurd (cc)
made_keeps None made e none is = let same : made ≡ e = cc in subst SentWasWritten same (λ late p is. absurd (none late p is))

nothing_held : (role : Role) (s : Settings) (t : Tuning) (l : PeerLimits) (late : Bool) (p : Piece) → IsCarried (held late (new_end role s t l)) p → ⊥
nothing_held role s t l true p is = carried-empty p is
nothing_held role s t l false p is = carried-empty p is

pub new_keeps : (role : Role) (s : Settings) (t : Tuning) (p : PeerLimits) (e : End) → wide_end_made role s t p ≡ Ok e → SentWasWritten e
new_keeps role s t p e is = made_keeps (wide_setup_fault s p) (new_end role s t p) e (nothing_held role s t p) is
