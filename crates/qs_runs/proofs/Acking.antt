-- A sending half that is allowed more, reset and acknowledged; and what an ACK does to an end.
use Rattle.std.proofs.lemmas.Bool.Decides.{nat_tests}
use Rattle.std.proofs.Common.{◌≡◌, ℕ, ◌+◌, ◌-◌, ◌≤◌, ◌==◌, max, Bool, true, false, ◌⊎◌, List, [], ◌∷◌, drop, length, Option, Some, None, is_some, refl, sym, ap, ◌∙◌, subst, arith, inl, inr, if◌then◌else◌, drop-drop}
use Rattle.std.proofs.lemmas.Option.{none-some, same_Some}
use Rattle.std.proofs.lemmas.Bool.{or_cases, cases_lt, eq-eqb}
use Rattle.std.specs.FinMap as fmap
use Rattle.std.specs.FinSet as set
use Rattle.std.specs.List.{AllByRecursion}
use Rattle.qs_ranges.specs.Numbers.{missing_from}
use Rattle.qs_wire.specs.declared.stream_id.Dir.TheVariants.{Uni}
use Rattle.qs_send.specs.Lane.{SendLane, allow_lane, reset_lane, broken_off, first_code, stop_taken, reset_refusal, acked_lane, reset_acked_lane, unacked_from, chunk_offsets}
use Rattle.qs_send.specs.declared.parts.Chunk.{Chunk}
use Rattle.qs_send.specs.declared.piece.Item.{Item}
use Rattle.qs_send.specs.declared.piece.Item.TheVariants.{MaxStreamData, MaxStreams, ResetStream, StopSending, StreamsBlocked}
use Rattle.qs_send.specs.declared.piece.Piece.{Piece}
use Rattle.qs_send.specs.declared.piece.Piece.TheVariants.{Data, Told}
use Rattle.qs_machine.specs.Tables.{lookup, update, updated}
use Rattle.qs_machine.specs.Ends.{End, AckedItems, Records, LostPackets, lost_less, first_send_limit, on_send}
use Rattle.qs_machine.specs.Credit.{all_sent}
use Rattle.qs_machine.specs.Seen.{Control}
use Rattle.qs_send.specs.Records.{without_first, Among}
use Rattle.qs_machine.specs.FrameStep.{AckedPiece, piece_acked, item_acked, acks, without_piece, named, is_named, held}
use Rattle.qs_runs.proofs.Members.{run-cases, run-old, get-inserted, get-removed}
use Rattle.qs_runs.proofs.Changes.{missing-more, send_kept, send_alike, send_same, end_anew, without_sum, open_update}
use Rattle.qs_runs.specs.Pasts.{Past, PieceOf, Tells, WasConfirmed}
use Rattle.qs_runs.specs.Invariant.{EndHas, EndOk, SendTrue, SendOk, SendSlot, OpenOk, is_open, StoodIn}
use Rattle.qs_runs.specs.Logs.{BrokeOff}
use Rattle.qs_runs.proofs.Past.{with_effect}
use Rattle.qs_machine.proofs.Pieces.{all_named}
use Rattle.qs_machine.proofs.TableLaws.{slots_updated, total_update}
use Rattle.qs_machine.proofs.EveryCall.{same_either}

-- One half

-- what can be reset wasn't
pub not_reset : (l : SendLane) → is_some (reset_refusal l) ≡ false → l.was_reset ≡ None
not_reset l e = grind (arith, nat_tests)

module _ (p : Past) (n limit : ℕ) (l : SendLane) (h : SendOk p n limit l) where
  pub allow_ok : (m : ℕ) → Tells p.theirs (Control (MaxStreamData n m)) → SendOk p n limit (allow_lane l m)
  allow_ok m t = send_alike h (λ own. own) (λ is. is) (λ f t. t) (λ k ack. ack) (omega (arith, h.sent_limit)) (elim (cases_lt l.limit m) [
    | inl lt ↦ (let e : max l.limit m ≡ m = omega arith in inr (rw e t))
    | inr ge ↦ (let e : max l.limit m ≡ l.limit = omega arith in rw e h.limit_told)
  ])

  size_is_end : (b : Bool) → l.fin_sent ≡ b → (if b then l.written else l.sent_end) ≡ l.sent_end
  size_is_end b e = grind (arith, nat_tests)

  -- by its owner, or as the peer asked
  reset_by : (broke : Bool) → (p.broken n ≡ true → broke ≡ true) → (broke ≡ true) ⊎ ((asked : ℕ) × Tells p.theirs (Control (StopSending n asked))) → (code : ℕ) (b : Bool) → is_some (reset_refusal l) ≡ b →
      SendTrue p.mine p.theirs p.tokens broke (p.bytes n) n limit (if b then l else record l { kept = []; was_reset = Some (record { code = code; size = if l.fin_sent then l.written else l.sent_end }) })
  reset_by broke breaks by code true refused = send_alike h breaks (λ is. is) (λ f t. t) (λ k ack. ack) h.sent_limit h.limit_told
  reset_by broke breaks by code false allowed =
      let none : l.was_reset ≡ None = not_reset l allowed in
      record {
        count = h.count;
        kept = λ open_half. absurd (none-some _ (sym open_half));
        sent_written = h.sent_written;
        sent_limit = h.sent_limit;
        end = h.end;
        reset_size = λ r is. ap (λ x. x.size) (sym (same_Some _ r is)) ∙ size_is_end l.fin_sent refl;
        told = h.told;
        told_reset = λ c size t. absurd (none-some _ (sym none ∙ h.told_reset c size t));
        acked = h.acked;
        end_acked = h.end_acked;
        limit_told = h.limit_told;
        reset_asked = λ is. by;
      }

  -- a reset tells the sent end, once (RFC 9000, section 4.5)
  pub reset_ok : (code : ℕ) → SendTrue p.mine p.theirs p.tokens true (p.bytes n) n limit (reset_lane l code)
  reset_ok code = reset_by true (λ own. refl) (inl refl) code (is_some (reset_refusal l)) refl

  -- the code of a STOP_SENDING is kept beside what is true of a half (RFC 9000, section 3.5)
  stopped_by : (code : ℕ) → Tells p.theirs (Control (StopSending n code)) → (b : Bool) → is_some (reset_refusal l) ≡ b → SendOk p n limit (if b then l else record (broken_off l code) { stopped = first_code l.stopped code })
  stopped_by code t true refused = h
  stopped_by code t false allowed = send_same (reset_by (p.broken n) (λ own. own) (inr (code, t)) code false allowed)

  noted_by : (code : ℕ) (b : Bool) → SendOk p n limit (if b then l else record l { stopped = first_code l.stopped code })
  noted_by code true = h
  noted_by code false = send_same h

  -- a STOP_SENDING resets it, or is told (RFC 9000, section 3.5)
  pub stopped_ok : (answers : Bool) (code : ℕ) → Tells p.theirs (Control (StopSending n code)) → SendOk p n limit (stop_taken answers l code)
  stopped_ok true code t = noted_by code (is_some (reset_refusal l))
  stopped_ok false code t = stopped_by code t (is_some (reset_refusal l)) refl

  pub stopped_end : (answers : Bool) (code : ℕ) → (stop_taken answers l code).sent_end ≡ l.sent_end
  stopped_end answers code = grind (arith, nat_tests)

  pub reset_end : (code : ℕ) → (reset_lane l code).sent_end ≡ l.sent_end
  reset_end code = same_either (λ (m : SendLane). m.sent_end) (is_some (reset_refusal l)) l _ refl

  -- what is acknowledged stood in packet k, which was confirmed
  pub acked_ok : (k : ℕ) (c : Chunk) → PieceOf p.mine k (Data n c) → WasConfirmed p.theirs p.tokens k → SendOk p n limit (acked_lane l c)
  acked_ok k c (bytes, holds, is) ack =
      let now : ℕ = missing_from (set.union l.acked (chunk_offsets c)) 0 in
      let rises : unacked_from l ≤ now = missing-more l.acked (set.union l.acked (chunk_offsets c)) (λ q old. run-old l.acked c.offset (c.offset + c.len) q old) in
      let moved : unacked_from l + (now - unacked_from l) ≡ now = omega arith in
      record {
        count = h.count;
        kept = λ none. ap (drop (now - unacked_from l)) (h.kept none) ∙ drop-drop (now - unacked_from l) (unacked_from l) (p.bytes n) ∙ ap (λ x. drop x (p.bytes n)) moved;
        sent_written = h.sent_written;
        sent_limit = h.sent_limit;
        end = h.end;
        reset_size = h.reset_size;
        told = h.told;
        told_reset = h.told_reset;
        acked = λ q has_it. elim (run-cases l.acked c.offset (c.offset + c.len) q has_it) [
          | inl old ↦ h.acked q old
          | inr new ↦ (k, c.offset, bytes, c.fin, holds, new.0, omega (arith, new.1), ack)
        ];
        end_acked = λ set. elim (or_cases _ _ set) [
          | inl old ↦ h.end_acked old
          | inr new ↦ (k, c.offset, bytes, rw new at holds, ack)
        ];
        limit_told = h.limit_told;
        reset_asked = h.reset_asked;
      }

  -- the mark that the reset was acknowledged is in no clause
  pub reset_acked_ok : SendOk p n limit (reset_acked_lane l)
  reset_acked_ok = send_same h

-- An end

-- it is a piece of a packet that was confirmed
abbrev pub WasAcked : Past → AckedPiece → Type 0
WasAcked p a = PieceOf p.mine a.number a.piece × WasConfirmed p.theirs p.tokens a.number

module _ (p : Past) where
  without_first_ok : (m : Records) (k : ℕ) → StoodIn p.mine m → (o : Option (List Piece)) → fmap.get m k ≡ o → StoodIn p.mine (without_first m k o)
  without_first_ok m k stood None is j ps piece there a = stood j ps piece there a
  without_first_ok m k stood (Some (x ∷ y ∷ zs)) is j ps piece there a =
      elim (get-inserted m k (y ∷ zs) j ps there) [
        | inl old ↦ stood j ps piece old a
        | inr new ↦ stood j (x ∷ y ∷ zs) piece (rw new.0 is) (inr (subst (Among piece) (sym new.1) a))
      ]
  without_first_ok m k stood _ is j ps piece there a = stood j ps piece (get-removed m k j ps there) a

  -- a record lost its first piece
  pub one_less_ok : (m : Records) (k : ℕ) → StoodIn p.mine m → StoodIn p.mine (without_first m k (fmap.get m k))
  one_less_ok m k stood = without_first_ok m k stood (fmap.get m k) refl

  -- fields that the invariant doesn't speak of may change, and records by what they hold
  pub with_records : {sent : ℕ} (e : End) (next : ℕ) (m : Records) (l : LostPackets) → EndHas p e sent → next ≡ length p.mine → StoodIn p.mine m → StoodIn p.mine l.pieces → EndHas p (record e { next = next; outstanding = m; lost = l }) sent
  with_records e next m l ok count records lost_records = grind (arith, nat_tests)

  without_piece_ok : (late : Bool) (k : ℕ) (e : End) → EndOk p e → EndOk p (without_piece late k e)
  without_piece_ok true k e ok = with_records e e.next e.outstanding (lost_less k e.lost) ok ok.packets.count ok.packets.records (one_less_ok e.lost.pieces k ok.packets.lost_records)
  without_piece_ok false k e ok = with_records e e.next (without_first e.outstanding k (fmap.get e.outstanding k)) e.lost ok ok.packets.count (one_less_ok e.outstanding k ok.packets.records) ok.packets.lost_records

  -- the values acknowledged are in no clause
  with_items : (e : End) (items : AckedItems) → EndOk p e → EndOk p (record e { acked = items })
  with_items e items ok = record { sends = ok.sends; recvs = ok.recvs; packets = ok.packets; taken = ok.taken; credit = ok.credit; streams = ok.streams }

  item_acked_ok : (e : End) (i : Item) → EndOk p e → EndOk p (item_acked i e)
  item_acked_ok e (ResetStream n code size) ok = send_kept p e n ok reset_acked_lane (λ l is h. (reset_acked_ok p n (first_send_limit e n) l h, refl))
  item_acked_ok e (MaxStreams Uni m) ok = with_items e _ ok
  item_acked_ok e (StreamsBlocked Uni m) ok = with_items e _ ok
  item_acked_ok e i ok = with_items e _ ok

  piece_acked_ok : (e : End) (k : ℕ) (piece : Piece) → PieceOf p.mine k piece → WasConfirmed p.theirs p.tokens k → EndOk p e → EndOk p (piece_acked piece e)
  piece_acked_ok e k (Data n c) stood ack ok = send_kept p e n ok (λ l. acked_lane l c) (λ l is h. (acked_ok p n (first_send_limit e n) l h k c stood ack, refl))
  piece_acked_ok e k (Told i) stood ack ok = item_acked_ok e i ok

  pub acks_ok : (pieces : List AckedPiece) (e : End) → AllByRecursion (WasAcked p) pieces → EndOk p e → EndOk p (acks pieces e)
  unfolding acks
  acks_ok [] e all ok = ok
  acks_ok (a ∷ pieces) e all ok = acks_ok pieces _ all.1 (piece_acked_ok _ a.number a.piece all.0.0 all.0.1 (without_piece_ok a.late a.number e ok))

-- The owner resets a half, as its past tells then

module _ (p : Past) (e : End) (n : ℕ) (ok : EndOk p e) (code : ℕ) where
  breaks : (m : ℕ) → p.broken m ≡ true → (with_effect (BrokeOff n) p).broken m ≡ true
  breaks m is = or_true (m == n) (p.broken m) is
    where
      or_true : (b c : Bool) → c ≡ true → (if b then true else c) ≡ true
      or_true true c is = refl
      or_true false c is = is

  slot_broken : (m : ℕ) (o : Option SendLane) → SendSlot p m (first_send_limit e m) o → SendSlot (with_effect (BrokeOff n) p) m (first_send_limit e m) o
  slot_broken m None h = h
  slot_broken m (Some l) h = send_alike h (breaks m) (λ is. is) (λ f t. t) (λ k ack. ack) h.sent_limit h.limit_told

  pub was_reset_ok : EndOk (with_effect (BrokeOff n) p) (on_send n (λ m. reset_lane m code) e)
  was_reset_ok = go (lookup e.sends n) refl
    where
      go : (o : Option SendLane) → lookup e.sends n ≡ o → EndOk (with_effect (BrokeOff n) p) (record e { sends = updated e.sends n (λ m. reset_lane m code) o })
      go None is = end_anew ok (λ m. slot_broken m (lookup e.sends m) (ok.sends m)) ok.credit ok.streams
      go (Some l) is =
          let h : SendOk p n (first_send_limit e n) l = subst (SendSlot p n (first_send_limit e n)) is (ok.sends n) in
          let this = reset_ok p n (first_send_limit e n) l h code in
          let new : SendLane = reset_lane l code in
          without_sum (with_effect (BrokeOff n) p) (record e { sends = update e.sends n new }) (all_sent e) (all_sent (record e { sends = update e.sends n new }))
          (end_anew ok
          (slots_updated (λ m o. SendSlot (with_effect (BrokeOff n) p) m (first_send_limit e m) o) e.sends n l new is (λ m ne. slot_broken m (lookup e.sends m) (ok.sends m))
          (subst (λ b. SendTrue p.mine p.theirs p.tokens (if b then true else p.broken n) (p.bytes n) n (first_send_limit e n) new) (sym (eq-eqb n n refl)) this))
          ok.credit
          (subst (λ s. OpenOk p e.role e.peer.streams_bidi e.peer.streams_uni e.known_bidi e.known_uni s (is_open e.recvs)) (sym (open_update e.sends n l new is)) ok.streams))
          (omega (arith, total_update (λ x. x.sent_end) e.sends n l new is, ok.credit.sent_known, reset_end p n (first_send_limit e n) l h code))

-- The pieces that an ACK takes

pub named_pieces_ok : (p : Past) (e : End) → EndOk p e → (ranges : List (ℕ × ℕ)) → ((k : ℕ) → is_named ranges k ≡ true → WasConfirmed p.theirs p.tokens k) → AllByRecursion (WasAcked p) (named e ranges)
named_pieces_ok p e ok ranges told =
    all_named (WasAcked p) ranges e (λ late k ps named at piece a. (stood late k ps piece at a, told k named))
  where
    stood : (late : Bool) → StoodIn p.mine (held late e)
    stood true = ok.packets.lost_records
    stood false = ok.packets.records
