-- A packet is made, frame by frame.
use Rattle.std.proofs.lemmas.Bool.Decides.{nat_tests}
use Rattle.std.proofs.Common.{◌≡◌, ℕ, ◌+◌, ◌-◌, ◌<◌, ◌≤◌, Bool, true, false, List, [], ◌∷◌, ◌++◌, ◌⊎◌, length, Option, Some, None, slice_get, refl, sym, ap, ◌∙◌, subst, arith, inl, inr, append_assoc, append-nil, length-append}
use Rattle.std.proofs.lemmas.Option.{none-some, same_Some, slice_get_within}
use Rattle.std.proofs.lemmas.Bool.{or_cases, or_left, or_right, true≢false, cases_lt}
use Rattle.std.specs.FinMap as fmap
use Rattle.std.specs.FinSet as set
use Rattle.qs_recv.specs.Lane.{RecvLane}
use Rattle.qs_send.specs.Lane.{SendLane, sent_lane, blocked_lane, bytes_of}
use Rattle.qs_send.specs.declared.parts.Chunk.{Chunk}
use Rattle.qs_send.specs.declared.piece.Item.{Item}
use Rattle.qs_send.specs.declared.piece.Item.TheVariants.{MaxData, MaxStreamData, ResetStream, StopSending, DataBlocked, StreamDataBlocked}
use Rattle.qs_send.specs.declared.piece.Piece.{Piece}
use Rattle.qs_send.specs.declared.piece.Piece.TheVariants.{Data, Told}
use Rattle.qs_machine.specs.Tables.{lookup, update, updated}
use Rattle.qs_machine.specs.Ends.{End, first_send_limit, first_window, on_send}
use Rattle.qs_machine.specs.Credit.{settle, all_sent}
use Rattle.qs_machine.specs.Seen.{Seen, Ack, Stream, Control, Close, Plain}
use Rattle.qs_send.specs.Records.{Among}
use Rattle.qs_machine.specs.Due.{IsCurrent}
use Rattle.qs_machine.specs.Lawful.{MayPut, MayCarry, Fills, Lawful, frame_put, item_put, noted, pieces_so_far, chunk_of}
use Rattle.qs_runs.proofs.Lists.{slice_get-append, slice_get-push, slice_get-last, slice_get-take, slice_get-drop, Among_push, Among_left, Among_last}
use Rattle.qs_runs.proofs.Members.{get-inserted}
use Rattle.qs_runs.proofs.Acking.{with_records}
use Rattle.qs_runs.proofs.Changes.{before-missing, settle_ok, send_same, lane_changed, without_sum}
use Rattle.qs_machine.proofs.Leaves.{put_leaves, fills_leave}
use Rattle.qs_machine.proofs.TableLaws.{lookup_same}
use Rattle.qs_runs.specs.Pasts.{Packets, Past, PieceOf, Holds, Tells}
use Rattle.qs_runs.specs.Invariant.{EndHas, EndOk, SendTrue, SendSlot, RecvSlot, ChunkTrue, AckTrue, IsMade}

-- The frame is true of the end.
abbrev pub FrameTrue : Past → End → Seen → Type 0
FrameTrue p e (Ack largest ranges) = AckTrue p.processed largest ranges
FrameTrue p e (Stream n offset bytes fin) = (l : SendLane) × (lookup e.sends n ≡ Some l) × ChunkTrue (p.bytes n) l.written l.sent_end l.fin_sent offset bytes fin
FrameTrue p e (Control (MaxData m)) = m ≤ e.granted
FrameTrue p e (Control (MaxStreamData n m)) = (l : RecvLane) × (lookup e.recvs n ≡ Some l) × (m ≤ l.limit)
FrameTrue p e (Control (ResetStream n code size)) = (l : SendLane) × (lookup e.sends n ≡ Some l) × (l.was_reset ≡ Some (record { code = code; size = size }))
FrameTrue p e (Control (StopSending n code)) = (l : RecvLane) × (lookup e.recvs n ≡ Some l) × (l.stop_code ≡ Some code)
FrameTrue p e (Control (StreamDataBlocked n m)) = (l : SendLane) × (lookup e.sends n ≡ Some l)
FrameTrue p e (Close code) = ⊥
FrameTrue p e (Plain asks) = asks ≡ true
FrameTrue p e _ = Unit {0}

true_is_made : (p : Past) (e : End) (f : Seen) → FrameTrue p e f → IsMade f
true_is_made p e f t = grind (arith, nat_tests)

-- More was sent: what holds still does, and what is told is told before or is the frame.
module _ (p : Past) (more : Packets) (e : End) (sent : ℕ) (f : Seen)
    (up : (k : ℕ) (g : Seen) → Holds p.mine k g → Holds more k g)
    (down : (g : Seen) → Tells more g → Tells p.mine g ⊎ (g ≡ f))
    (is_true : FrameTrue p e f) where
  true_of : (g : Seen) → g ≡ f → FrameTrue p e g
  true_of g is = subst (FrameTrue p e) (sym is) is_true

  send_put : (n : ℕ) (o : Option SendLane) → lookup e.sends n ≡ o → SendSlot p n (first_send_limit e n) o → SendSlot (record p { mine = more }) n (first_send_limit e n) o
  send_put n None at h =
      record {
        no_bytes = h.no_bytes;
        no_stream = λ offset bytes fin t. elim (down _ t) [ inl old ↦ h.no_stream offset bytes fin old | inr new ↦ (let (l, is, c) = true_of _ new in none-some l (sym at ∙ is)) ];
        no_reset = λ code size t. elim (down _ t) [ inl old ↦ h.no_reset code size old | inr new ↦ (let (l, is, c) = true_of _ new in none-some l (sym at ∙ is)) ];
        no_blocked = λ limit t. elim (down _ t) [ inl old ↦ h.no_blocked limit old | inr new ↦ (let (l, is) = true_of _ new in none-some l (sym at ∙ is)) ];
      }
  send_put n (Some l) at h =
      record {
        count = h.count;
        kept = h.kept;
        sent_written = h.sent_written;
        sent_limit = h.sent_limit;
        end = h.end;
        reset_size = h.reset_size;
        told = λ offset bytes fin t. elim (down _ t) [
          | inl old ↦ h.told offset bytes fin old
          | inr new ↦ (let (m, is, c) = true_of _ new in subst (λ x. ChunkTrue (p.bytes n) x.written x.sent_end x.fin_sent offset bytes fin) (same_Some m l (sym is ∙ at)) c)
        ];
        told_reset = λ code size t. elim (down _ t) [
          | inl old ↦ h.told_reset code size old
          | inr new ↦ (let (m, is, c) = true_of _ new in ap (λ x. x.was_reset) (same_Some l m (sym at ∙ is)) ∙ c)
        ];
        acked = λ q is. (let (k, offset, bytes, fin, holds, low, high, ack) = h.acked q is in (k, offset, bytes, fin, up k _ holds, low, high, ack));
        end_acked = λ is. (let (k, offset, bytes, holds, ack) = h.end_acked is in (k, offset, bytes, up k _ holds, ack));
        limit_told = h.limit_told;
        reset_asked = h.reset_asked;
      }

  recv_put : (n : ℕ) (o : Option RecvLane) → lookup e.recvs n ≡ o → RecvSlot p n (first_window e n) o → RecvSlot (record p { mine = more }) n (first_window e n) o
  recv_put n None at h =
      record {
        no_bytes = h.no_bytes;
        no_end = h.no_end;
        not_stopped = h.not_stopped;
        no_limit = λ limit t. elim (down _ t) [ inl old ↦ h.no_limit limit old | inr new ↦ (let (l, is, c) = true_of _ new in none-some l (sym at ∙ is)) ];
        no_stop = λ code t. elim (down _ t) [ inl old ↦ h.no_stop code old | inr new ↦ (let (l, is, c) = true_of _ new in none-some l (sym at ∙ is)) ];
      }
  recv_put n (Some l) at h =
      record {
        received = h.received;
        stored = h.stored;
        count = h.count;
        gave = h.gave;
        final = h.final;
        reset = h.reset;
        not_stopped = h.not_stopped;
        ended = h.ended;
        window_granted = h.window_granted;
        limit_told = λ limit t. elim (down _ t) [
          | inl old ↦ h.limit_told limit old
          | inr new ↦ (let (m, is, c) = true_of _ new in subst (λ x. limit ≤ x.limit) (same_Some m l (sym is ∙ at)) c)
        ];
        stop_asked = λ code t. elim (down _ t) [
          | inl old ↦ h.stop_asked code old
          | inr new ↦ (let (m, is, c) = true_of _ new in was_stopped code (p.stopped n) refl (ap (λ x. x.stop_code) (same_Some l m (sym at ∙ is)) ∙ c))
        ];
      }
    where
      was_stopped : (code : ℕ) (b : Bool) → p.stopped n ≡ b → l.stop_code ≡ Some code → p.stopped n ≡ true
      was_stopped code true e is = e
      was_stopped code false e is = absurd (none-some code (sym (h.not_stopped e) ∙ is))

  piece_up : (k : ℕ) (x : Piece) → PieceOf p.mine k x → PieceOf more k x
  piece_up k x h = grind (arith, nat_tests)

  pub put_ok : (next : ℕ) → EndHas p e sent → next ≡ length more → EndHas (record p { mine = more }) (record e { next = next }) sent
  put_ok next ok count =
      record {
        sends = λ n. send_put n (lookup e.sends n) refl (ok.sends n);
        recvs = λ n. recv_put n (lookup e.recvs n) refl (ok.recvs n);
        packets = record {
          count = count;
          records = λ k ps x there a. piece_up k x (ok.packets.records k ps x there a);
          lost_records = λ k ps x there a. piece_up k x (ok.packets.lost_records k ps x there a);
          acks_told = λ largest ranges t. elim (down _ t) [ inl old ↦ ok.packets.acks_told largest ranges old | inr new ↦ true_of _ new ];
          kinds = λ g t. elim (down g t) [ inl old ↦ ok.packets.kinds g old | inr new ↦ true_is_made p e g (true_of g new) ];
          is_done = ok.packets.is_done;
          above = ok.packets.above;
          kept = ok.packets.kept;
        };
        taken = ok.taken;
        credit = record {
          sent_known = ok.credit.sent_known;
          known_told = ok.credit.known_told;
          window_granted = ok.credit.window_granted;
          granted_told = λ limit t. elim (down _ t) [ inl old ↦ ok.credit.granted_told limit old | inr new ↦ true_of _ new ];
        };
        streams = ok.streams;
      }

-- The last packet so far.
abbrev pub with_packet : Past → List Seen → Past
with_packet p fs = record p { mine = p.mine ++ fs ∷ [] }

module _ (ms : Packets) (pre : List Seen) (f : Seen) where
  packet_up : (k : ℕ) (g : Seen) → Holds (ms ++ pre ∷ []) k g → Holds (ms ++ (pre ++ f ∷ []) ∷ []) k g
  packet_up k g (fs, at, a) =
      elim (slice_get-push ms pre k fs at) [
        | inl old ↦ (fs, slice_get-append ms _ k fs old, a)
        | inr new ↦ (pre ++ f ∷ [], subst (λ x. slice_get (ms ++ (pre ++ f ∷ []) ∷ []) x ≡ Some (pre ++ f ∷ [])) (sym new.0) (slice_get-last ms (pre ++ f ∷ [])), Among_left pre (f ∷ []) g (subst (Among g) new.1 a))
      ]

  packet_down : (g : Seen) → Tells (ms ++ (pre ++ f ∷ []) ∷ []) g → Tells (ms ++ pre ∷ []) g ⊎ (g ≡ f)
  packet_down g (k, (fs, at, a)) =
      elim (slice_get-push ms (pre ++ f ∷ []) k fs at) [
        | inl old ↦ inl (k, (fs, slice_get-append ms _ k fs old, a))
        | inr new ↦ elim (Among_push pre f g (subst (Among g) new.1 a)) [ inl b ↦ inl (length ms, (pre, slice_get-last ms pre, b)) | inr e ↦ inr e ]
      ]

  packet_has : Holds (ms ++ (pre ++ f ∷ []) ∷ []) (length ms) f
  packet_has = (pre ++ f ∷ [], slice_get-last ms (pre ++ f ∷ []), Among_last pre f)

-- The half after a chunk of it was sent, within its limit and what was written.
module _ (mine theirs : Packets) (tokens : ℕ → Bool) (broken : Bool) (all : List ℕ) (n limit : ℕ) (l : SendLane) (h : SendTrue mine theirs tokens broken all n limit l) (c : Chunk)
    (none : l.was_reset ≡ None) (inside : c.offset + c.len ≤ l.written) (within : c.offset + c.len ≤ l.limit)
    (end : c.fin ≡ true → (l.finished ≡ true) × (c.offset + c.len ≡ l.written)) where
  sent_ok : SendTrue mine theirs tokens broken all n limit (sent_lane l c)
  sent_ok =
      record {
        count = h.count;
        kept = h.kept;
        sent_written = omega (arith, h.sent_written);
        sent_limit = omega (arith, h.sent_limit);
        end = λ is. elim (or_cases _ _ is) [
          | inl old ↦ (let (finished, at) = h.end old in (finished, omega arith))
          | inr new ↦ (let (finished, at) = end new in (finished, omega (arith, h.sent_written)))
        ];
        reset_size = λ r is. absurd (none-some r (sym none ∙ is));
        told = λ o bytes f t. (let d = h.told o bytes f t in record { same = d.same; below = omega (arith, d.below); end = λ is. (let (sent, at) = d.end is in (or_left _ _ sent, at)) });
        told_reset = h.told_reset;
        acked = h.acked;
        end_acked = h.end_acked;
        limit_told = h.limit_told;
        reset_asked = h.reset_asked;
      }

  -- what was put in the packet is true of the half then: a due offset isn't below the kept bytes
  chunk_true : (bytes : List ℕ) → length bytes ≡ c.len → bytes ≡ bytes_of l c → ((q : ℕ) → c.offset ≤ q → q < c.offset + c.len → set.contains l.acked q ≡ false) →
      ChunkTrue all l.written (sent_lane l c).sent_end (sent_lane l c).fin_sent c.offset bytes c.fin
  chunk_true bytes count told due = grind (arith, nat_tests, slice_get_within, cases_lt, true≢false, before-missing, slice_get, slice_get-drop, slice_get-take, or_right)

-- the end, with the packet that is being made counted
abbrev pub counted : End → End
counted e = record e { next = e.next + 1 }

module _ (p : Past) (pre : List Seen) where
  -- a record with one more piece, of a frame that was put in the packet
  note_ok : (e : End) (f : Seen) (x : Piece) → e.next ≡ length p.mine → EndHas (with_packet p (pre ++ f ∷ [])) (counted e) 0 → PieceOf (p.mine ++ (pre ++ f ∷ []) ∷ []) (length p.mine) x →
      EndHas (with_packet p (pre ++ f ∷ [])) (counted (noted x e)) 0
  note_ok e f x at ok piece =
      with_records _ (counted e) (e.next + 1) _ e.lost ok ok.packets.count (λ j ps y there a.
      elim (get-inserted e.outstanding e.next (pieces_so_far e e.next ++ x ∷ []) j ps there) [
        | inl old ↦ ok.packets.records j ps y old a
        | inr new ↦ elim (Among_push (pieces_so_far e e.next) x y (subst (Among y) (sym new.1) a)) [
          | inl before ↦ subst (λ k. PieceOf (p.mine ++ (pre ++ f ∷ []) ∷ []) k y) (sym new.0) (so_far y (fmap.get e.outstanding e.next) refl before)
          | inr same ↦ subst (λ k. PieceOf (p.mine ++ (pre ++ f ∷ []) ∷ []) k y) (sym (new.0 ∙ at)) (subst (PieceOf (p.mine ++ (pre ++ f ∷ []) ∷ []) (length p.mine)) (sym same) piece)
        ]
      ]) ok.packets.lost_records
    where
      so_far : (y : Piece) (o : Option (List Piece)) → fmap.get e.outstanding e.next ≡ o → Among y (elim o [ None ↦ [] | Some ps ↦ ps ]) → PieceOf (p.mine ++ (pre ++ f ∷ []) ∷ []) e.next y
      so_far y None is a = absurd a
      so_far y (Some ps) is a = ok.packets.records e.next ps y is a

  -- the frame is put in the packet of an end of which it is true
  packet_put : (e : End) (f : Seen) → EndHas (with_packet p pre) e 0 → FrameTrue (with_packet p pre) e f → e.next ≡ length p.mine + 1 → EndHas (with_packet p (pre ++ f ∷ [])) e 0
  packet_put e f ok is_true count =
      put_ok (with_packet p pre) (p.mine ++ (pre ++ f ∷ []) ∷ []) e 0 f (packet_up p.mine pre f) (packet_down p.mine pre f) is_true e.next ok (count ∙ sym (length-append p.mine ((pre ++ f ∷ []) ∷ [])))

  with_ack : (e : End) (b : Bool) → EndHas (with_packet p pre) e 0 → EndHas (with_packet p pre) (record e { ack_due = b }) 0
  with_ack e b ok = record { sends = ok.sends; recvs = ok.recvs; packets = ok.packets; taken = ok.taken; credit = ok.credit; streams = ok.streams }

  -- a due item is true
  item_true : (e : End) (i : Item) → IsCurrent e i → FrameTrue (with_packet p pre) (counted e) (Control i)
  item_true e (MaxData m) (is, more) = omega arith
  item_true e (MaxStreamData n m) (l, lane, is, more, unknown) = (l, lane, omega arith)
  item_true e (ResetStream n code size) c = c
  item_true e (StopSending n code) c = (c.0, c.1, c.2)
  item_true e (StreamDataBlocked n m) c = (c.0, c.1)
  item_true e _ c = tt

  -- the item's mark on its lane
  item_marked : (e : End) (i : Item) → EndHas (with_packet p pre) (counted e) 0 → EndHas (with_packet p pre) (counted (item_put i e)) 0
  item_marked e (StreamDataBlocked n m) ok = go (lookup e.sends n) refl
    where
      go : (o : Option SendLane) → lookup e.sends n ≡ o → EndHas (with_packet p pre) (counted (record e { sends = updated e.sends n blocked_lane o })) 0
      go None is = ok
      go (Some l) is = lane_changed _ (counted e) 0 n l (blocked_lane l) ok is (send_same (subst (SendSlot (with_packet p pre) n (first_send_limit e n)) is (ok.sends n)))
  item_marked e i ok = ok

frame_put_next : (f : Seen) (e : End) → (frame_put f e).next ≡ e.next
frame_put_next f e = ap (λ (x : End). x.next) (put_leaves f e)

module _ (p : Past) (old : End) (kept : (k : ℕ) → set.contains old.done k ≡ true → p.processed k ≡ true) where
  put_stream : (pre : List Seen) (e : End) (n offset : ℕ) (bytes : List ℕ) (fin : Bool) (l : SendLane) → MayCarry e n offset bytes fin l → e.next ≡ length p.mine → EndHas (with_packet p pre) (counted e) 0 →
      EndHas (with_packet p (pre ++ Stream n offset bytes fin ∷ [])) (counted (frame_put (Stream n offset bytes fin) e)) 0
  unfolding frame_put
  put_stream pre e n offset bytes fin l may at ok =
      let f : Seen = Stream n offset bytes fin in
      let c : Chunk = chunk_of offset bytes fin in
      let h : SendTrue (p.mine ++ pre ∷ []) p.theirs p.tokens (p.broken n) (p.bytes n) n (first_send_limit e n) l = subst (SendSlot (with_packet p pre) n (first_send_limit e n)) may.lane (ok.sends n) in
      let end : fin ≡ true → (l.finished ≡ true) × (offset + length bytes ≡ l.written) = λ is. ((may.end is).0.finished, (may.end is).1) in
      let m : SendLane = sent_lane l c in
      let moved = sent_ok _ _ _ _ _ n (first_send_limit e n) l h c may.no_reset may.inside may.within end in
      let chunk = chunk_true _ _ _ _ _ n (first_send_limit e n) l h c may.no_reset may.inside may.within end bytes refl may.bytes_are (λ q low high. (may.due q low high).not_acked) in
      let e' : End = record e { sends = update e.sends n m } in
      let ok' : EndHas (with_packet p pre) (counted e') 0 = lane_changed _ (counted e) 0 n l m ok may.lane moved in
      let put : EndHas (with_packet p (pre ++ f ∷ [])) (counted e') 0 = packet_put p pre (counted e') f ok' (m, lookup_same e.sends n l m may.lane, chunk) (ap (λ x. x + 1) at) in
      let e_same : e' ≡ on_send n (λ x. sent_lane x c) e = ap (λ o. record e { sends = updated e.sends n (λ x. sent_lane x c) o }) (sym may.lane) in
      note_ok p pre (on_send n (λ x. sent_lane x c) e) f (Data n c) at (subst (λ x. EndHas (with_packet p (pre ++ f ∷ [])) (counted x) 0) e_same put) (bytes, packet_has p.mine pre f, refl)

  put_step : (pre : List Seen) (e : End) (f : Seen) → MayPut old e f → e.next ≡ length p.mine → EndHas (with_packet p pre) (counted e) 0 → EndHas (with_packet p (pre ++ f ∷ [])) (counted (frame_put f e)) 0
  unfolding frame_put
  put_step pre e (Ack largest ranges) may at ok =
      packet_put p pre (counted (record e { ack_due = false })) (Ack largest ranges) (with_ack p pre (counted e) false ok)
      (record { names_largest = may.names_largest; names_processed = λ k a. kept k (may.kept k a) }) (ap (λ x. x + 1) at)
  put_step pre e (Stream n offset bytes fin) (l, may) at ok = put_stream pre e n offset bytes fin l may at ok
  put_step pre e (Control i) (due_then, due) at ok =
      let put : EndHas (with_packet p (pre ++ Control i ∷ [])) (counted e) 0 = packet_put p pre (counted e) (Control i) ok (item_true p pre e i due.0) (ap (λ x. x + 1) at) in
      note_ok p pre (item_put i e) (Control i) (Told i) (frame_put_next (Control i) e ∙ at) (item_marked p (pre ++ Control i ∷ []) e i put) (packet_has p.mine pre (Control i))
  put_step pre e _ may at ok = absurd may

  fills_ok : (fs pre : List Seen) (e mid : End) → Fills old e fs mid → e.next ≡ length p.mine → EndHas (with_packet p pre) (counted e) 0 → EndHas (with_packet p (pre ++ fs)) (counted mid) 0
  fills_ok [] pre e mid is at ok = subst (λ fs. EndHas (with_packet p fs) (counted mid) 0) (sym (append-nil pre)) (subst (λ x. EndHas (with_packet p pre) (counted x) 0) (sym is) ok)
  fills_ok (f ∷ fs) pre e mid (may, rest) at ok =
      subst (λ gs. EndHas (with_packet p gs) (counted mid) 0) (append_assoc pre (f ∷ []) fs)
      (fills_ok fs (pre ++ f ∷ []) (frame_put f e) mid rest (frame_put_next f e ∙ at) (put_step pre e f may at ok))

  fills_next : (fs : List Seen) (e mid : End) → Fills old e fs mid → mid.next ≡ e.next
  fills_next fs e mid fills = ap (λ (x : End). x.next) (fills_leave old fs e mid fills)

empty_down : (ms : Packets) (g : Seen) → Tells (ms ++ [] ∷ []) g → Tells ms g
empty_down ms g h = grind (arith, nat_tests, slice_get-push)

-- Before the first frame the packet that is being made is empty, and tells nothing.
empty_packet : (p : Past) (e : End) → EndOk p e → EndHas (with_packet p []) (counted e) 0
empty_packet p e ok =
    put_ok p (p.mine ++ [] ∷ []) e 0 (Control (DataBlocked 0))
    (λ k g holds. (let (fs, at, a) = holds in (fs, slice_get-append p.mine _ k fs at, a)))
    (λ g t. inl (empty_down p.mine g t)) tt (e.next + 1) (without_sum p e (all_sent e) 0 ok (omega arith)) (ap (λ x. x + 1) ok.packets.count ∙ sym (length-append p.mine ([] ∷ [])))

pub made_ok : (p : Past) (e mid : End) (frames : List Seen) → EndOk p e → Lawful e frames mid → EndOk (with_packet p frames) (settle mid)
made_ok p e mid frames ok lawful =
    let (last, fills, is) = lawful.filled in
    let has_all : EndHas (with_packet p frames) (counted last) 0 = fills_ok p e ok.packets.is_done frames [] e last fills ok.packets.count (empty_packet p e ok) in
    let same : mid ≡ counted last = is ∙ ap (λ x. record last { next = x + 1 }) (sym (fills_next p e ok.packets.is_done frames e last fills)) in
    settle_ok (with_packet p frames) mid (without_sum _ mid 0 (all_sent mid) (subst (λ x. EndHas (with_packet p frames) x 0) (sym same) has_all) lawful.within)

-- the packet of a claimed number
ping_down : (ms : Packets) (g : Seen) → Tells (ms ++ (Plain true ∷ []) ∷ []) g → Tells ms g ⊎ (g ≡ Plain true)
ping_down ms g h = grind (arith, nat_tests, slice_get-push)

-- a number is used up, and its packet is a PING
pub claimed_ok : (p : Past) (e : End) → EndOk p e → EndOk (with_packet p (Plain true ∷ [])) (counted e)
claimed_ok p e ok =
    put_ok p (p.mine ++ (Plain true ∷ []) ∷ []) e (all_sent e) (Plain true)
    (λ k g holds. (let (fs, at, a) = holds in (fs, slice_get-append p.mine _ k fs at, a)))
    (ping_down p.mine) refl (e.next + 1) ok (ap (λ x. x + 1) ok.packets.count ∙ sym (length-append p.mine ((Plain true ∷ []) ∷ [])))
