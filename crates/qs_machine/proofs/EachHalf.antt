-- What holds of a half across each of its edits holds of every half across each call of its end.
use Rattle.std.proofs.Common.{ℕ, ◌%◌, ◌/◌, option_map, sym, ap, ◌∙◌, inl, inr, ◌≡◌, Bool, not, ◌&&◌, List, [], ◌∷◌, take, refl, subst}
use Rattle.std.proofs.lemmas.Bool.{cases_eq, cond_both}
use Rattle.std.proofs.lemmas.Option.{slice_get-map}
use Rattle.qs_send.specs.Lane.{SendLane, allow_lane, new_lane as new_send_lane, write_lane, finish_lane, reset_lane, stop_taken, acked_lane, reset_acked_lane, blocked_lane, sent_lane, buffer_lane}
use Rattle.qs_calls.specs.declared.settings.PeerLimits.{PeerLimits}
use Rattle.qs_machine.specs.Tables.{Tables, table}
use Rattle.qs_machine.specs.Ends.{End, first_send_limit, on_send, on_recv, is_own, is_uni, first_window, opens, opened_by_peer}
use Rattle.qs_machine.specs.Raising.{knows_limits, type_allowed, limits_raised}
use Rattle.qs_machine.proofs.TableLaws.{with_same, with_other, lookup_in}
use Rattle.qs_machine.proofs.TablesAfter.{KeptIn, kept_same, kept_twice, kept_updated, kept_open, kept_each}
use Rattle.qs_wire.specs.declared.stream_id.Dir.TheVariants.{Uni}
use Rattle.qs_recv.specs.Lane.{RecvLane, new_lane as new_recv_lane, take_stream, take_reset, after_read, stop, stop_and_discard, raise, set_window}
use Rattle.qs_send.specs.declared.piece.Item.TheVariants.{MaxStreamData, MaxStreams, ResetStream, StopSending, StreamDataBlocked, StreamsBlocked}
use Rattle.qs_send.specs.declared.piece.Piece.{Piece}
use Rattle.qs_send.specs.declared.piece.Piece.TheVariants.{Data, Told}
use Rattle.qs_machine.specs.Seen.{Seen, Ack, Stream, Control}
use Rattle.qs_machine.specs.FrameStep.{frame_taken, AckedPiece, without_piece, acks, first_acked, piece_acked, named}
use Rattle.qs_machine.specs.Lawful.{frame_put, chunk_of}
use Rattle.qs_machine.specs.EndStep.{Call, Answer, EndStep}
use Rattle.qs_machine.specs.Setting.{Grant, StreamWindow, SendBuffer}
use Rattle.qs_machine.proofs.EveryCall.{Change, changed, Comes, relates, Wanted, Opened, Written, Finished, WasReset, Stopped, WasRead, Raised, WasSet, Took, Acked, Put, Settled, Forgotten}
use Rattle.qs_machine.proofs.Leaves.{acks_leave, put_leaves}
use Rattle.qs_send.specs.declared.parts.Chunk.{Chunk}

-- Limits of the peer that are taken in

module _ (R : SendLane → SendLane → Type 0) (same : (l : SendLane) → R l l) (twice : (l m k : SendLane) → R l m → R m k → R l k) (allows : (limit : ℕ) (l : SendLane) → R l (allow_lane l limit)) where
  kept_at : (t : Tables SendLane) (k limit : ℕ) → KeptIn R t (type_allowed (k % 4) limit t)
  kept_at t k limit m l is =
      elim (cases_eq (m % 4) (k % 4)) [
        | inl e ↦ (
          allow_lane l limit,
          with_same t k m _ e ∙ slice_get-map (λ (x : SendLane). allow_lane x limit) (table t (k % 4)) (m / 4) ∙ ap (option_map (λ (x : SendLane). allow_lane x limit)) (sym (lookup_in t k m e) ∙ is),
          allows limit l,
        )
        | inr ne ↦ (l, with_other t k m _ ne ∙ is, same l)
      ]

  pub kept_raised : (p : PeerLimits) (e : End) → KeptIn R e.sends (limits_raised p e).sends
  kept_raised p e =
      let f = knows_limits p e in
      let t0 = type_allowed 0 (first_send_limit f 0) e.sends in
      let t1 = type_allowed 1 (first_send_limit f 1) t0 in
      let t2 = type_allowed 2 (first_send_limit f 2) t1 in
      let t3 = type_allowed 3 (first_send_limit f 3) t2 in
      kept_twice R same twice e.sends t2 t3
      (kept_twice R same twice e.sends t1 t2 (kept_twice R same twice e.sends t0 t1 (kept_at e.sends 0 (first_send_limit f 0)) (kept_at t0 1 (first_send_limit f 1))) (kept_at t1 2 (first_send_limit f 2)))
      (kept_at t2 3 (first_send_limit f 3))

-- Sending halves

pub data SendEdit : Type 0 where
  Writes : (bytes : List ℕ) → SendEdit
  Finishes : SendEdit
  Resets : (code : ℕ) → SendEdit
  Buffers : (size : ℕ) → SendEdit
  Allows : (limit : ℕ) → SendEdit
  -- a STOP_SENDING comes
  IsAsked : (answers : Bool) (code : ℕ) → SendEdit
  Sends : (c : Chunk) → SendEdit
  Blocks : SendEdit
  IsAcked : (c : Chunk) → SendEdit
  ResetIsAcked : SendEdit

abbrev pub send_edited : SendEdit → SendLane → SendLane
send_edited (Writes bytes) l = write_lane l bytes
send_edited Finishes l = finish_lane l
send_edited (Resets code) l = reset_lane l code
send_edited (Buffers size) l = buffer_lane l size
send_edited (Allows limit) l = allow_lane l limit
send_edited (IsAsked answers code) l = stop_taken answers l code
send_edited (Sends c) l = sent_lane l c
send_edited Blocks l = blocked_lane l
send_edited (IsAcked c) l = acked_lane l c
send_edited ResetIsAcked l = reset_acked_lane l

module _ (R : SendLane → SendLane → Type 0) (same : (l : SendLane) → R l l) (twice : (l m k : SendLane) → R l m → R m k → R l k) (edits : (x : SendEdit) (l : SendLane) → R l (send_edited x l)) where
  abbrev Keeps : End → End → Type 0
  Keeps a b = (b.role ≡ a.role) × KeptIn R a.sends b.sends

  stays : (e : End) → Keeps e e
  stays e = (refl, kept_same R same e.sends)

  in_turn : (a b c : End) → Keeps a b → Keeps b c → Keeps a c
  in_turn a b c x y = (y.0 ∙ x.0, kept_twice R same twice a.sends b.sends c.sends x.1 y.1)

  edits_one : (n : ℕ) (x : SendEdit) (e : End) → Keeps e (on_send n (send_edited x) e)
  edits_one n x e = (refl, kept_updated R same e.sends n (send_edited x) (λ l is. edits x l))

  opens_one : (n : ℕ) (e : End) → Keeps e (opens n e)
  opens_one n e =
      (refl, cond_both (is_uni n && not (is_own e n)) e.sends _ (KeptIn R e.sends) (λ _. kept_same R same e.sends) (λ _. kept_open R same e.sends n (λ m. new_send_lane m (first_send_limit e n) e.settings.send_buffer)))

  opened : (n : ℕ) (e : End) → Keeps e (opened_by_peer n e)
  opened n e = cond_both (is_own e n) e (opens n e) (Keeps e) (λ _. stays e) (λ _. opens_one n e)

  edits_opened : (n : ℕ) (x : SendEdit) (e : End) → Keeps e (on_send n (send_edited x) (opened_by_peer n e))
  edits_opened n x e = in_turn e (opened_by_peer n e) (on_send n (send_edited x) (opened_by_peer n e)) (opened n e) (edits_one n x (opened_by_peer n e))

  piece : (p : Piece) (e : End) → Keeps e (piece_acked p e)
  piece (Data n c) e = edits_one n (IsAcked c) e
  piece (Told (ResetStream n code size)) e = edits_one n ResetIsAcked e
  piece (Told (MaxStreams Uni m)) e = stays e
  piece (Told (StreamsBlocked Uni m)) e = stays e
  piece (Told i) e = stays e

  acked : (ps : List AckedPiece) (e : End) → Keeps e (acks ps e)
  unfolding acks
  acked [] e = stays e
  acked (p ∷ ps) e = in_turn e (first_acked p e) (acks ps (first_acked p e)) (piece p.piece (without_piece p.late p.number e)) (acked ps (first_acked p e))

  frame : (f : Seen) (e : End) → Keeps e (frame_taken f e)
  unfolding frame_taken
  frame (Ack largest ranges) e = acked (named e ranges) e
  frame (Stream n offset bytes fin) e = opened n e
  frame (Control (MaxStreamData n m)) e = edits_opened n (Allows m) e
  frame (Control (MaxStreams Uni m)) e = stays e
  frame (Control (ResetStream n code size)) e = opened n e
  frame (Control (StopSending n code)) e = edits_opened n (IsAsked e.tuning.answers_stops code) e
  frame (Control (StreamDataBlocked n m)) e = opened n e
  frame f e = stays e

  put : (f : Seen) (e : End) → Keeps e (frame_put f e)
  unfolding frame_put
  put (Stream n offset bytes fin) e = edits_one n (Sends (chunk_of offset bytes fin)) e
  put (Control (StreamDataBlocked n m)) e = edits_one n Blocks e
  put f e = stays e

  change : (old : End) (call : Call) (c : Change) (e : End) → Comes old call e c → Keeps e (changed c e)
  change old call (Wanted Uni count) e comes = stays e
  change old call (Opened n) e comes = opens_one n e
  change old call (Written n bytes l) e comes = edits_one n (Writes bytes) e
  change old call (Finished n) e comes = edits_one n Finishes e
  change old call (WasReset n code) e comes = edits_one n (Resets code) e
  change old call (Raised p) e comes = (refl, kept_raised R same twice (λ limit l. edits (Allows limit) l) p e)
  change old call (WasSet (SendBuffer n size)) e comes = edits_one n (Buffers size) e
  change old call (WasSet (Grant Uni n)) e comes = stays e
  change old call (WasSet (StreamWindow n w)) e comes = stays e
  change old call (Took f) e comes = frame f e
  change old call (Acked count ranges) e comes = acked (take count (named e ranges)) e
  change old call (Put f) e comes = put f e
  change old call c e comes = stays e

  -- of each sending half, and of an end's role
  pub sends_kept : (old : End) (call : Call) (answer : Answer call) (new : End) → EndStep old call answer new → Keeps old new
  sends_kept old call answer new step = relates Keeps stays in_turn old call (change old call) answer new step

-- Receiving halves

pub data RecvEdit : Type 0 where
  Stops : (code : ℕ) → RecvEdit
  Forgets : (code : ℕ) → RecvEdit
  Reads : (size : ℕ) → RecvEdit
  Widens : (window : ℕ) → RecvEdit
  Takes : (offset : ℕ) (bytes : List ℕ) (fin : Bool) → RecvEdit
  IsReset : (code size : ℕ) → RecvEdit
  Raises : RecvEdit

abbrev pub recv_edited : RecvEdit → RecvLane → RecvLane
recv_edited (Stops code) l = stop l code
recv_edited (Forgets code) l = stop_and_discard l code
recv_edited (Reads size) l = after_read l size
recv_edited (Widens window) l = set_window l window
recv_edited (Takes offset bytes fin) l = take_stream l offset bytes fin
recv_edited (IsReset code size) l = take_reset l code size
recv_edited Raises l = raise l

module _ (R : RecvLane → RecvLane → Type 0) (same : (l : RecvLane) → R l l) (twice : (l m k : RecvLane) → R l m → R m k → R l k) (edits : (x : RecvEdit) (l : RecvLane) → R l (recv_edited x l)) where
  abbrev Stay : End → End → Type 0
  Stay a b = KeptIn R a.recvs b.recvs

  as_it_was : (e : End) → Stay e e
  as_it_was e = kept_same R same e.recvs

  left_alone : (e new : End) → new.recvs ≡ e.recvs → Stay e new
  left_alone e new is = subst (KeptIn R e.recvs) (sym is) (kept_same R same e.recvs)

  both : (a b c : End) → Stay a b → Stay b c → Stay a c
  both a b c x y = kept_twice R same twice a.recvs b.recvs c.recvs x y

  one_edited : (n : ℕ) (x : RecvEdit) (e : End) → Stay e (on_recv n (recv_edited x) e)
  one_edited n x e = kept_updated R same e.recvs n (recv_edited x) (λ l is. edits x l)

  one_opens : (n : ℕ) (e : End) → Stay e (opens n e)
  one_opens n e = cond_both (is_uni n && is_own e n) e.recvs _ (KeptIn R e.recvs) (λ _. kept_same R same e.recvs) (λ _. kept_open R same e.recvs n (λ m. new_recv_lane (first_window e n) e.tuning.credit_step))

  peer_opens : (n : ℕ) (e : End) → Stay e (opened_by_peer n e)
  peer_opens n e = cond_both (is_own e n) e (opens n e) (Stay e) (λ _. as_it_was e) (λ _. one_opens n e)

  then_edited : (n : ℕ) (x : RecvEdit) (e : End) → Stay e (on_recv n (recv_edited x) (opened_by_peer n e))
  then_edited n x e = both e (opened_by_peer n e) (on_recv n (recv_edited x) (opened_by_peer n e)) (peer_opens n e) (one_edited n x (opened_by_peer n e))

  took : (f : Seen) (e : End) → Stay e (frame_taken f e)
  unfolding frame_taken
  took (Ack largest ranges) e = left_alone e (acks (named e ranges) e) (ap (λ (x : End). x.recvs) (acks_leave (named e ranges) e))
  took (Stream n offset bytes fin) e = then_edited n (Takes offset bytes fin) e
  took (Control (MaxStreamData n m)) e = peer_opens n e
  took (Control (MaxStreams Uni m)) e = as_it_was e
  took (Control (ResetStream n code size)) e = then_edited n (IsReset code size) e
  took (Control (StopSending n code)) e = peer_opens n e
  took (Control (StreamDataBlocked n m)) e = peer_opens n e
  took f e = as_it_was e

  moves : (old : End) (call : Call) (c : Change) (e : End) → Comes old call e c → Stay e (changed c e)
  moves old call (Wanted Uni count) e comes = as_it_was e
  moves old call (Opened n) e comes = one_opens n e
  moves old call (Stopped n code) e comes = one_edited n (Stops code) e
  moves old call (Forgotten n code) e comes = one_edited n (Forgets code) e
  moves old call (WasRead n size) e comes = one_edited n (Reads size) e
  moves old call (WasSet (SendBuffer n size)) e comes = as_it_was e
  moves old call (WasSet (Grant Uni n)) e comes = as_it_was e
  moves old call (WasSet (StreamWindow n w)) e comes = one_edited n (Widens w) e
  moves old call (Took f) e comes = took f e
  moves old call (Acked count ranges) e comes = left_alone e (acks (take count (named e ranges)) e) (ap (λ (x : End). x.recvs) (acks_leave (take count (named e ranges)) e))
  moves old call (Put f) e comes = left_alone e (frame_put f e) (ap (λ (x : End). x.recvs) (put_leaves f e))
  moves old call Settled e comes = kept_each R same e.recvs raise (edits Raises)
  moves old call c e comes = as_it_was e

  -- of each receiving half
  pub recvs_kept : (old : End) (call : Call) (answer : Answer call) (new : End) → EndStep old call answer new → Stay old new
  recvs_kept old call answer new step = relates Stay as_it_was both old call (moves old call) answer new step
