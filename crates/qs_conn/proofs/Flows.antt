-- Chunks of a stream go into a packet, one for each run.
use Rattle.std.specs.FinSet as set
use Rattle.std.specs.FinMap as fmap
use Rattle.std.proofs.Common.{◌≡◌, ◌≢◌, ℕ, ◌+◌, ◌-◌, ◌<◌, ◌≤◌, Bool, true, false, not, List, ◌⊎◌, length, max, refl, sym, ap, ◌∙◌, subst, arith, inl, inr, None, Some, is_some, [], ◌++◌, take, ◌↔◌, IsTrue, ◌∷◌, Option, nat_lt}
use Rattle.std.proofs.lemmas.Bool.{true≢false, cases_lt, and_parts, cases_eq}
use Rattle.std.proofs.lemmas.Bool.Decides.{nat_tests}
use Rattle.std.proofs.lemmas.Option.{same_Some, none-some}
use Rattle.qs_ranges.specs.Numbers.{contains-without_range, MAX_VARINT}
use Rattle.qs_send.specs.Lane.{Sending, sent_lane, after_sent, bytes_of, SendLane, blocked_lane, after_blocked}
use Rattle.qs_send.specs.Chunks.{IsDueChunk, IsAllowed, IsNextChunk, HasNoChunk, HasBytes, IsHeldByRoom, frame_len}
use Rattle.qs_send.specs.Sound.{IsLawful}
use Rattle.qs_send.specs.declared.parts.Chunk.{Chunk}
use Rattle.qs_send.specs.declared.piece.Piece.TheVariants.{Data, Told}
use Rattle.qs_send.proofs.Steps.{sendable_has_chunk, sendable_end_has_chunk, lawful_sent, held_by_room_or_limits, cut_chunk_is_last}
use Rattle.qs_recv.specs.Lane.{RecvLane}
use Rattle.qs_conn.specs.declared.limits.Limits.{Limits}
use Rattle.qs_machine.specs.Tables.{Tables, lookup, update, updated, total}
use Rattle.qs_machine.specs.Ends.{End, send_lane, Records}
use Rattle.qs_machine.specs.Credit.{all_sent}
use Rattle.qs_machine.specs.Seen.{Seen, Stream, Control, seen_all}
use Rattle.qs_machine.specs.Due.{IsDue, ByteGoes, EndGoes, StreamGoes}
use Rattle.qs_machine.specs.Lawful.{MayCarry, frame_put, chunk_of, AcksAll, ComesBefore}
use Rattle.qs_machine.specs.Outgoing.{Outgoing, HasSending, IsTied, chunk_put, on_lane, sent_sum, lanes_of, with_pending, IsCarried, AreBelow, AreTied, IsOutbox, ChunkFound, MayTell, item_put_out, halves_told, blocked_noted}
use Rattle.qs_conn.specs.Filling.{end_by, InPacket, IsAckLeft, MayGo, stream_frame, all_items, Turn, turn_at, HadTurn, IsOnWay, start_of, way_end, Framed, Content, WithItems, Flowing, Flow, Packed, PackedBy, Stage, IsPassed}
use Rattle.qs_machine.proofs.Carried.{with_piece, some_is, get_new, get_other}
use Rattle.qs_machine.proofs.TableLaws.{lookup_same, lookup_other, total_update}
use Rattle.qs_machine.proofs.Tied.{tied_sent, tied_blocked}
use Rattle.qs_conn.proofs.Outboxes.{due_is, is_due, end_due_is, is_end_due, one_sending, none_above}
use Rattle.qs_conn.proofs.Untolds.{put_old, put_packet, goes_less, order_put, item_in}
use Rattle.std.proofs.lemmas.List.{length-append, length-take-le}
use Rattle.qs_wire.specs.Layout.{FrameValue, stream}
use Rattle.qs_wire.specs.Varint.{short}
use Rattle.qs_wire.proofs.Numbers.{short_positive}
use Rattle.qs_wire.specs.Grammar.{Fits, canonical}
use Rattle.qs_send.specs.Laws.{fresh_after}
use Rattle.qs_send.specs.declared.piece.Piece.{Piece}
use Rattle.qs_send.proofs.Numbers.{frame_len_is_canonical, short_len-more}
use Rattle.qs_conn.specs.declared.filling.Wish.{Wish}
use Rattle.qs_machine.specs.Sums.{or_none}
use Rattle.qs_calls.specs.declared.filling.Fill.{Fill}
use Rattle.qs_machine.specs.Filling.{IsAsked, EndGoesAlone, GoesWithin}
use Rattle.qs_conn.proofs.Stages.{framed_first, framed_among, framed_turn, framed_bytes, framed_more, begun_content, passed_all}
use Rattle.std.specs.FinMap.{nat_cmp-IsAntisymmetric}
use Rattle.std.specs.Cmp.{nat_cmp_total}
use Rattle.std.specs.Option.{IfSome, IfNone}
use Rattle.qs_send.specs.declared.piece.Item.{Item}
use Rattle.qs_send.specs.declared.piece.Item.TheVariants.{StreamDataBlocked}
use Rattle.qs_machine.proofs.LaneTables.{lane_there, lanes_updated, update_lanes}
use Rattle.qs_machine.proofs.Ties.{ties_updated, ties_chunk_put, ties_item_put}

-- The half of a stream, with what is due of it.
pub record Ties (e : End) (n : ℕ) (s : Sending) : Type 0 where
  pub lane : send_lane e n ≡ Some s.lane
  pub lawful : IsLawful s
  pub tied : IsTied e.outstanding n s

pub ties_of : (t : Limits) (recvs : Tables RecvLane) (o : Outgoing) (e : End) (n : ℕ) (s : Sending) → HasSending o n s → Ties (end_by t recvs o e) n s
ties_of t recvs o e n s h = record { lane = h.lane; lawful = h.lawful; tied = h.tied }

-- a chunk that a stream's half may send, with its bytes, and the longest one
abbrev pub Allowed : Outgoing → (n left fresh : ℕ) → Chunk → Type 0
Allowed o n left fresh c = (s : Sending) × HasSending o n s × (IsAllowed s left fresh c × HasBytes s.lane c)

abbrev pub Found : Outgoing → (n left fresh : ℕ) → Chunk → Type 0
Found o n left fresh c = (s : Sending) × HasSending o n s × (IsNextChunk s left fresh c × HasBytes s.lane c)

pub found_allowed : (o : Outgoing) (n left fresh : ℕ) (c : Chunk) → Found o n left fresh c → Allowed o n left fresh c
found_allowed o n left fresh c (s, h, (next, has)) = (s, h, (next.allowed, has))

-- there is one half of each stream
pub one_half : (e : End) (n : ℕ) (s x : Sending) → Ties e n s → Ties e n x → s ≡ x
one_half e n s x t u = one_sending e.outstanding n s x t.lawful u.lawful t.tied u.tied (same_Some s.lane x.lane (sym t.lane ∙ u.lane))

-- No later chunk of the half begins where this one ends.
pub record IsClear (s : Sending) (c : Chunk) : Type 0 where
  pub not_due : set.contains s.due.offsets (c.offset + c.len) ≡ false
  pub not_end : s.due.fin ≡ true → c.offset + c.len ≢ s.lane.written

pub same_truth : (a b : Bool) → (a ≡ true → b ≡ true) → (b ≡ true → a ≡ true) → a ≡ b
same_truth a b to from = grind arith

module _ (e : End) (n : ℕ) (s : Sending) (t : Ties e n s) (c : Chunk) (chunk : IsDueChunk s c) where
  -- what the end of a chunk means
  fin_means : c.fin ≡ true → (s.due.fin ≡ true) × (c.offset + c.len ≡ s.lane.written)
  fin_means is = (let fin = chunk.fin in grind (arith, nat_tests, fin, is))

  some_of : (0 < c.len) ⊎ (c.fin ≡ true)
  some_of = (let some = chunk.some in grind (arith, nat_tests, some))

  first_due : 0 < c.len → IsDue e n s.lane c.offset
  first_due some = due_is e n s t.tied t.lawful c.offset (chunk.due c.offset (omega arith) (omega (arith, some)))

  no_reset_of : s.lane.was_reset ≡ None
  no_reset_of = elim some_of [ inl some ↦ (first_due some).no_reset | inr fin ↦ (end_due_is e n s t.tied t.lawful (fin_means fin).0).no_reset ]

  lowest_of : (q : ℕ) → set.contains s.due.offsets q ≡ true → c.offset ≤ q
  lowest_of q there = elim (cases_lt q c.offset) [ inl lt ↦ absurd (true≢false (sym there ∙ chunk.lowest q (omega arith) lt)) | inr ge ↦ ge ]

  -- it begins among what was sent, or where that ends
  first_sent : c.offset ≤ s.lane.sent_end
  first_sent =
      elim (cases_lt s.lane.sent_end s.lane.written) [
        | inl lt ↦ lowest_of s.lane.sent_end (t.lawful.parts.unsent_due (ap is_some no_reset_of) s.lane.sent_end (omega arith) lt)
        | inr ge ↦ elim some_of [ inl some ↦ (let due = (first_due some).written in omega (arith, ge, due)) | inr fin ↦ omega (arith, ge, (fin_means fin).1) ]
      ]

  -- it begins where no clear one ended
  clear_apart : (d : Chunk) → IsClear s d → d.offset + d.len ≢ c.offset
  clear_apart d clear same = grind (arith, nat_tests)

  pub may_carry : (bytes : List ℕ) → bytes ≡ bytes_of s.lane c → length bytes ≡ c.len → HasBytes s.lane c → ((d : Chunk) → InPacket e (Data n d) → IsClear s d) → MayCarry e n c.offset bytes c.fin s.lane
  may_carry bytes is count has clear =
      record {
        lane = t.lane;
        no_reset = no_reset_of;
        something = elim some_of [ inl some ↦ inl (omega (arith, some, count)) | inr fin ↦ inr fin ];
        due = λ q ge lt. due_is e n s t.tied t.lawful q (chunk.due q ge (omega (arith, lt, count)));
        lowest = λ q d. lowest_of q (is_due e n s t.tied q d);
        whole_run = λ d there. clear_apart d (clear d there);
        bytes_are = subst (λ k. bytes ≡ bytes_of s.lane (record { offset = c.offset; len = k; fin = c.fin })) (sym count) is;
        inside = omega (arith, count, has.end);
        within = omega (arith, count, chunk.within_limit);
        end = λ fin. (end_due_is e n s t.tied t.lawful (fin_means fin).0, omega (arith, count, (fin_means fin).1), first_sent);
      }

  -- within the credit a byte of it goes
  pub byte_of : c.offset + c.len ≤ s.lane.sent_end + (e.known_data - all_sent e) → 0 < c.len → ByteGoes e n s.lane
  byte_of credit some = (
    c.offset,
    first_due some,
    omega (arith, some, chunk.within_limit),
    elim (cases_lt c.offset s.lane.sent_end) [ inl old ↦ inl old | inr ge ↦ inr (omega (arith, ge, first_sent), omega (arith, some, credit, ge)) ],
  )

  -- or its end
  pub chunk_goes : c.offset + c.len ≤ s.lane.sent_end + (e.known_data - all_sent e) → StreamGoes e n
  chunk_goes credit = (
    s.lane,
    t.lane,
    elim (cases_lt 0 c.len) [
      | inl some ↦ inl (byte_of credit some)
      | inr none ↦ elim some_of [
        | inl some ↦ absurd (omega (arith, none, some))
        | inr fin ↦ inr (end_due_is e n s t.tied t.lawful (fin_means fin).0, omega (arith, none, (fin_means fin).1, first_sent, t.lawful.order.sent_written))
      ]
    ],
  )

-- The chunk is put.
module _ (e : End) (n : ℕ) (s : Sending) (t : Ties e n s) (c : Chunk) (chunk : IsDueChunk s c) (bytes : List ℕ) (count : length bytes ≡ c.len) where
  abbrev f : Seen
  f = Stream n c.offset bytes c.fin

  abbrev pub chunk_end_put : End
  chunk_end_put = frame_put f e

  is_chunk : chunk_of c.offset bytes c.fin ≡ c
  is_chunk = ap (λ k. record { offset = c.offset; len = k; fin = c.fin }) count

  sends_are : chunk_end_put.sends ≡ update e.sends n (sent_lane s.lane c)
  unfolding frame_put
  sends_are = ap (λ o. updated e.sends n (λ l. sent_lane l (chunk_of c.offset bytes c.fin)) o) t.lane ∙ ap (λ d. update e.sends n (sent_lane s.lane d)) is_chunk

  out_is : chunk_end_put.outstanding ≡ with_piece e.outstanding e.next (Data n c)
  unfolding frame_put
  out_is = ap (λ d. with_piece e.outstanding e.next (Data n d)) is_chunk

  pub ties_sent : Ties chunk_end_put n (after_sent s c)
  ties_sent = record {
    lane = ap (λ x. lookup x n) sends_are ∙ lookup_same e.sends n s.lane (sent_lane s.lane c) t.lane;
    lawful = lawful_sent s c chunk t.lawful;
    tied = subst (λ m. IsTied m n (after_sent s c)) (sym out_is) (tied_sent e.outstanding e.next n s c t.tied t.lawful chunk);
  }

  pub chunk_sum : all_sent chunk_end_put + s.lane.sent_end ≡ all_sent e + max s.lane.sent_end (c.offset + c.len)
  chunk_sum = (let same : all_sent chunk_end_put ≡ total (λ l. l.sent_end) (update e.sends n (sent_lane s.lane c)) = ap (total (λ l. l.sent_end)) sends_are in omega (arith, same, total_update (λ l. l.sent_end) e.sends n s.lane (sent_lane s.lane c) t.lane))

  pub chunk_known : chunk_end_put.known_data ≡ e.known_data
  unfolding frame_put
  chunk_known = refl

  -- what is due of the half then
  due_then : (q : ℕ) → set.contains s.due.offsets q ≡ false → set.contains (after_sent s c).due.offsets q ≡ false
  due_then q none = grind (arith, nat_tests, none, contains-without_range s.due.offsets c.offset (c.offset + c.len) q)

  pub clear_old : (d : Chunk) → IsClear s d → IsClear (after_sent s c) d
  clear_old d clear = record { not_due = due_then (d.offset + d.len) clear.not_due; not_end = λ fin. clear.not_end (and_parts s.due.fin (not c.fin) fin).0 }

  -- a chunk that ends its run is clear
  pub clear_new : set.contains s.due.offsets (c.offset + c.len) ≡ false → IsClear (after_sent s c) c
  clear_new none = record { not_due = due_then (c.offset + c.len) none; not_end = λ fin at. (let is = chunk.fin in grind (arith, nat_tests, is, fin, at)) }

  -- another lane has no more to send than before
  pub goes_other : (m : ℕ) → m ≢ n → StreamGoes chunk_end_put m → StreamGoes e m
  goes_other m ne =
      goes_less chunk_end_put e m (λ l there. sym (ap (λ x. lookup x m) sends_are ∙ lookup_other e.sends n m (sent_lane s.lane c) ne) ∙ there) (λ left. omega (arith, left, chunk_sum, chunk_known)) (λ d. put_old f e (Data m d))

  -- only this chunk is new in the packet
  pub chunk_only : (m : ℕ) (d : Chunk) → InPacket chunk_end_put (Data m d) → InPacket e (Data m d) ⊎ ((m ≡ n) × (d ≡ c))
  chunk_only m d there = grind (arith, nat_tests, put_packet)

-- A half without a chunk has nothing that could go, given room for the longest item and all the credit.
pub none_goes : (e : End) (n : ℕ) (s : Sending) (room : ℕ) → Ties e n s → 25 ≤ room → all_sent e ≤ e.known_data → HasNoChunk s room (e.known_data - all_sent e) → StreamGoes e n → ⊥
none_goes e n s room t enough credit none (l, there, some) = go (same_Some l s.lane (sym there ∙ t.lane)) some
  where
    byte : ByteGoes e n s.lane → ⊥
    byte (q, due, low, inl old) = sendable_has_chunk s room (e.known_data - all_sent e) q t.lawful (omega (arith, enough)) (is_due e n s t.tied q due, low, inl old) none
    byte (q, due, low, inr (at, fresh)) = sendable_has_chunk s room (e.known_data - all_sent e) q t.lawful (omega (arith, enough)) (is_due e n s t.tied q due, low, inr (at, omega (arith, fresh))) none

    go : l ≡ s.lane → ByteGoes e n l ⊎ EndGoes e n l → ⊥
    go same (inl b) = byte (subst (ByteGoes e n) same b)
    go same (inr b) = (let (due, sent) = subst (EndGoes e n) same b in sendable_end_has_chunk s room (e.known_data - all_sent e) t.lawful (omega (arith, enough)) (is_end_due e n s t.tied due) sent none)

-- ---- The bytes of streams go into a packet, one stream after the other.

-- A packet with the streams that had their turn before n, and some chunks of stream n: of these no later one begins where another ended,
-- or none may follow.
pub record Chunking (wish : Wish) (room : ℕ) (old : End) (text : List ℕ) (e : End) (quota : ℕ) (around : Bool) (first n : ℕ) : Type 0 where
  pub so_far : WithItems first wish room old text e quota
  pub asked : IsAsked wish.want n
  pub on_way : IsOnWay around first n
  pub over : (m : ℕ) → HadTurn around first n m → StreamGoes e m → ⊥
  pub untouched : (m : ℕ) → (HadTurn around first n m → ⊥) → m ≢ n → (c : Chunk) → InPacket e (Data m c) → ⊥
  pub clear : (s : Sending) → Ties e n s → ((c : Chunk) → InPacket e (Data n c) → IsClear s c) ⊎ HasNoChunk s (room - length text) (e.known_data - all_sent e)

-- Turns

had_or_not : (around : Bool) (first at m : ℕ) → HadTurn around first at m ⊎ (HadTurn around first at m → ⊥)
had_or_not false first at m = grind arith
had_or_not true first at m = grind arith

-- a stream's turn isn't over as it begins
not_yet : (around : Bool) (first n : ℕ) → IsOnWay around first n → HadTurn around first n n → ⊥
not_yet around first n on had = grind (arith)

-- it is over as the next one begins
now_had : (around : Bool) (first n : ℕ) → IsOnWay around first n → HadTurn around first (n + 1) n
now_had around first n on = grind arith

had_still : (around : Bool) (first a b m : ℕ) → a ≤ b → HadTurn around first a m → HadTurn around first b m
had_still around first a b m le had = grind (arith)

-- turns that were over before, and those between
had_before : (around : Bool) (first a b m : ℕ) → HadTurn around first b m → HadTurn around first a m ⊎ ((a ≤ m) × (m < b))
had_before around first a b m had = grind (arith)

-- a stream that isn't of the way lies behind all of it that are left
pub off_way : (around : Bool) (first from past n : ℕ) → start_of around first ≤ from → from ≤ past → (IsOnWay around first past → ⊥) → IsOnWay around first n → n < past
off_way around first from past n begun le off on = grind (arith, off)

-- all had theirs once the way around is done
pub had_all : (first n : ℕ) → HadTurn true first first n
had_all first n = grind arith

-- what comes before a stream had its turn
comes_before : (around : Bool) (first m n : ℕ) → IsOnWay around first n → ComesBefore first m n → HadTurn around first n m
comes_before around first m n on before = grind (arith)

-- a stream that is behind another one in turn
comes_after : (around : Bool) (first m n : ℕ) → IsOnWay around first n → (HadTurn around first n m → ⊥) → m ≢ n → ComesBefore first n m
comes_after around first m n on not ne = grind (arith, not)

-- after the control items
pub flow_first : (first : ℕ) (wish : Wish) (room : ℕ) (old : End) (text : List ℕ) (e : End) (b : Bool) → first ≡ wish.want.first → Stage wish room old text e b all_items → Flow wish room old text e wish.want.most_bytes b (turn_at false first first)
flow_first first wish room old text e true at s = s first
flow_first first wish room old text e false at s =
    record {
      so_far = record { begins = at; content = begun_content wish room old text e (IsPassed all_items) s first; items = λ on i due. s.items i (passed_all i) due };
      over = λ n (ge, lt). absurd (omega (arith, ge, lt));
      untouched = λ n no c there. s.no_chunk n c there;
    }

-- where none are asked for, and no ACK is to go
pub flow_bare : (first : ℕ) (wish : Wish) (room : ℕ) (old : End) (left : Bool) → first ≡ wish.want.first → wish.want.items ≡ false → IsAckLeft wish.ack_due old.ack_due left → wish.ack_due ≡ false → all_sent old ≤ old.known_data → ((x : Piece) → InPacket old x → ⊥)
    → Flowing wish room old [] (record old { ack_due = left }) wish.want.most_bytes (turn_at false first first)
flow_bare first wish room old left at unasked goes none within fresh = subst (λ b. Flowing wish room old [] (record old { ack_due = b }) wish.want.most_bytes (turn_at false first first)) (sym (subst (λ b. IsAckLeft b old.ack_due left) none goes)) bare
  where
    bare : Flowing wish room old [] old wish.want.most_bytes (turn_at false first first)
    bare =
        record {
          so_far = record {
            begins = at;
            content = record { framed = framed_first wish room old none; cap = omega arith; turns = tt; order = λ on. absurd (true≢false (sym on ∙ unasked)); within = within };
            items = λ on. absurd (true≢false (sym on ∙ unasked));
          };
          over = λ n (ge, lt). absurd (omega (arith, ge, lt));
          untouched = λ n no c there. fresh (Data n c) there;
        }

-- no ACK goes without the items
pub unwished : (ack items : Bool) → (ack ≡ true → items ≡ true) → items ≡ false → ack ≡ false
unwished ack items both none = grind (arith, nat_tests)

-- a stream begins
pub chunking_begins : (wish : Wish) (room : ℕ) (old : End) (text : List ℕ) (e : End) (quota : ℕ) (around : Bool) (first n : ℕ) → IsAsked wish.want n → IsOnWay around first n → Flowing wish room old text e quota (turn_at around first n) → Chunking wish room old text e quota around first n
chunking_begins wish room old text e quota around first n asked on f =
    record {
      so_far = f.so_far;
      asked = asked;
      on_way = on;
      over = f.over;
      untouched = λ m no ne. f.untouched m no;
      clear = λ s t. inl (λ c there. absurd (f.untouched n (not_yet around first n on) c there));
    }

-- where there is room for any frame, the ACK is whole
acked : {wish : Wish} {room : ℕ} {old : End} {text : List ℕ} {e : End} (f : Framed wish room old text e) → length text + 25 ≤ room → wish.ack_due ≡ true → AcksAll old (seen_all f.frames)
acked f left due = elim (f.ack due) [ inl full ↦ absurd (omega (arith, left, full)) | inr all ↦ all ]

-- bytes of the stream may go
abbrev BytesGo : End → ℕ → Type 0
BytesGo e n = (l : SendLane) × (send_lane e n ≡ Some l) × ByteGoes e n l

-- Once the cap is used up and a stream has bytes that may go, no end goes alone: not its own, and no other in its turn.
capped : (first : ℕ) (wish : Wish) (room : ℕ) (old : End) (text : List ℕ) (e : End) (around : Bool) (n : ℕ) → WithItems first wish room old text e 0 → IsOnWay around first n → ((m : ℕ) → HadTurn around first n m → StreamGoes e m → ⊥) → BytesGo e n → Packed first wish room old text e 0
capped first wish room old text e around n w on over (l, lane, byte) =
    record {
      content = w.content;
      whole = λ left. record {
        ack = acked w.content.framed left;
        wanted = record {
          items = w.items;
          streams = λ m asked goes. elim goes [ inl (some, go) ↦ absurd (omega (arith, some, w.content.cap)) | inr alone ↦ ends m (rw (← w.begins) at alone) (cases_eq m n) ];
        };
      };
    }
  where
    ends : (m : ℕ) → EndGoesAlone first e m → (m ≡ n) ⊎ (m ≢ n) → ⊥
    ends m alone (inl same) = alone.no_byte (subst (λ x. ByteGoes e x alone.half) (sym same) (subst (ByteGoes e n) (same_Some l alone.half (sym lane ∙ ap (send_lane e) (sym same) ∙ alone.lane)) byte))
    ends m alone (inr ne) = over m (elim (had_or_not around first n m) [ inl had ↦ had | inr not ↦ absurd (alone.in_turn n (comes_after around first m n on not ne) (l, lane, inl byte)) ]) (alone.half, alone.lane, inr alone.end)

-- a stream ends of which nothing goes any more
pub chunking_done : (wish : Wish) (room : ℕ) (old : End) (text : List ℕ) (e : End) (quota : ℕ) (around : Bool) (first n : ℕ) → Chunking wish room old text e quota around first n → (StreamGoes e n → ⊥) → Flowing wish room old text e quota (turn_at around first (n + 1))
chunking_done wish room old text e quota around first n k none =
    record {
      so_far = k.so_far;
      over = λ m had goes. elim (had_before around first n (n + 1) m had) [
        | inl before ↦ k.over m before goes
        | inr (ge, lt) ↦ (let same : m ≡ n = omega (arith, lt, ge) in none (subst (StreamGoes e) same goes))
      ];
      untouched = λ m no. k.untouched m (λ had. no (had_still around first n (n + 1) m (omega arith) had)) (λ same. no (subst (HadTurn around first (n + 1)) (sym same) (now_had around first n k.on_way)));
    }

-- how long the frame of a chunk is
pub frame_size : (n : ℕ) (c : Chunk) (bytes : List ℕ) → length bytes ≡ c.len → length (canonical (stream n c.offset c.fin bytes)) ≡ frame_len n c.offset c.len
frame_size n c bytes count = sym (frame_len_is_canonical n c.offset c.fin bytes) ∙ ap (frame_len n c.offset) count

module _ (wish : Wish) (room : ℕ) (old : End) (text : List ℕ) (e : End) (quota : ℕ) (around : Bool) (first n : ℕ) (k : Chunking wish room old text e quota around first n) (s : Sending) (t : Ties e n s) (fits : length text ≤ room) where
  abbrev it : Content first wish room old text e quota
  it = k.so_far.content

  -- it ends, as no chunk may go any more, whatever the room
  chunking_ends : HasNoChunk s 25 (e.known_data - all_sent e) → Flowing wish room old text e quota (turn_at around first (n + 1))
  chunking_ends none = chunking_done wish room old text e quota around first n k (none_goes e n s 25 t (omega arith) it.within none)

  -- the packet is full, as the room holds a chunk back
  chunking_full : HasNoChunk s (room - length text) (e.known_data - all_sent e) → IsHeldByRoom s (room - length text) (e.known_data - all_sent e) → Packed first wish room old text e quota
  chunking_full none held =
      let few : room - length text < 19 = (held_by_room_or_limits s (room - length text) (e.known_data - all_sent e) t.lawful none).0 held in
      record { content = k.so_far.content; whole = λ left. absurd (omega (arith, few, left, fits)) }

  -- the cap was used up before, and the stream has bytes that may go
  chunking_none : quota ≡ 0 → BytesGo e n → Packed first wish room old text e 0
  chunking_none none goes = capped first wish room old text e around n (rw none at k.so_far) k.on_way k.over goes

  module _ (c : Chunk) (allowed : IsAllowed s (room - length text) (e.known_data - all_sent e) c) (has : HasBytes s.lane c) (bytes : List ℕ) (is : bytes ≡ bytes_of s.lane c) (count : length bytes ≡ c.len) where
    abbrev frame : FrameValue
    frame = stream n c.offset c.fin bytes

    abbrev put : Seen
    put = Stream n c.offset bytes c.fin

    abbrev after : End
    after = frame_put put e

    abbrev text' : List ℕ
    text' = text ++ canonical frame

    chunk_fits : Fits frame
    chunk_fits = (omega (arith, t.tied.id, t.lawful.order.small_id), omega (arith, count, has.end, t.lawful.order.small))

    room_is : frame_len s.lane.id c.offset c.len ≡ frame_len n c.offset c.len
    room_is = ap (λ m. frame_len m c.offset c.len) t.tied.id

    len' : length text' ≡ length text + frame_len n c.offset c.len
    len' = omega (arith, length-append text (canonical frame), frame_size n c bytes count)

    left : room - length text - frame_len s.lane.id c.offset c.len ≡ room - length text'
    left = omega (arith, len', room_is)

    fresh : fresh_after s.lane (e.known_data - all_sent e) c ≡ after.known_data - all_sent after
    fresh = omega (arith, chunk_known e n s t c allowed.chunk bytes count, chunk_sum e n s t c allowed.chunk bytes count, it.within, allowed.within_credit)

    clear_before : (d : Chunk) → InPacket e (Data n d) → IsClear s d
    clear_before = elim (k.clear s t) [ inl clear ↦ clear | inr none ↦ absurd (none c allowed) ]

    clear_after : IsNextChunk s (room - length text) (e.known_data - all_sent e) c → (b : Bool) → set.contains s.due.offsets (c.offset + c.len) ≡ b → ((d : Chunk) → InPacket after (Data n d) → IsClear (after_sent s c) d) ⊎ HasNoChunk (after_sent s c) (room - length text') (after.known_data - all_sent after)
    clear_after next true more = inr (subst (HasNoChunk (after_sent s c) (room - length text')) fresh (subst (λ r. HasNoChunk (after_sent s c) r (fresh_after s.lane (e.known_data - all_sent e) c)) left (cut_chunk_is_last s (room - length text) (e.known_data - all_sent e) c t.lawful next more)))
    clear_after next false none = inl (λ d in_it. elim (chunk_only e n s t c allowed.chunk bytes count n d in_it) [
      | inl before ↦ clear_old e n s t c allowed.chunk bytes count d (clear_before d before)
      | inr (same, new) ↦ rw new (clear_new e n s t c allowed.chunk bytes count none)
    ])

    over' : (m : ℕ) → HadTurn around first n m → StreamGoes after m → ⊥
    over' m had goes = k.over m had (goes_other e n s t c allowed.chunk bytes count m (λ same. not_yet around first n k.on_way (subst (HadTurn around first n) same had)) goes)

    -- what the packet has then
    so_far' : (rest : ℕ) → rest + c.len ≡ quota → WithItems first wish room old text' after rest
    so_far' rest split =
        record {
          begins = k.so_far.begins;
          content = record {
            framed = framed_more wish room old text e it.framed frame put refl (s.lane, may_carry e n s t c allowed.chunk bytes is count has clear_before) chunk_fits tt tt k.asked;
            cap = omega (arith, framed_bytes wish room old text e it.framed frame put refl, it.cap, split, count);
            turns = framed_turn wish room old text e it.framed frame put refl first it.turns (λ m before. k.over m (comes_before around first m n k.on_way before));
            order = λ on. order_put old e put (Data n (chunk_of c.offset bytes c.fin)) refl (λ j due. item_in old old e (seen_all it.framed.frames) j it.framed.fills (k.so_far.items on j due)) (it.order on);
            within = omega (arith, chunk_known e n s t c allowed.chunk bytes count, chunk_sum e n s t c allowed.chunk bytes count, it.within, allowed.within_credit);
          };
          items = λ on i due. framed_among wish room old text e it.framed frame put refl (Control i) (k.so_far.items on i due);
        }

    -- one more chunk
    chunking_next : IsNextChunk s (room - length text) (e.known_data - all_sent e) c → (rest : ℕ) → rest + c.len ≡ quota → Chunking wish room old text' after rest around first n
    chunking_next next rest split =
        record {
          so_far = so_far' rest split;
          asked = k.asked;
          on_way = k.on_way;
          over = over';
          untouched = λ m no ne d there. elim (chunk_only e n s t c allowed.chunk bytes count m d there) [ inl before ↦ k.untouched m no ne d before | inr (same, new) ↦ ne same ];
          clear = λ x u. rw (one_half after n x (after_sent s c) u (ties_sent e n s t c allowed.chunk bytes count)) (clear_after next (set.contains s.due.offsets (c.offset + c.len)) refl);
        }

    -- the cap is used up, and the stream has bytes that may go still: nothing more may go in
    chunking_cut : c.len ≡ quota → BytesGo after n → Packed first wish room old text' after 0
    chunking_cut all goes = capped first wish room old text' after around n (so_far' 0 (omega (arith, all))) k.on_way over' goes

-- The turns of more streams are over, of which nothing goes.
flow_more : (wish : Wish) (room : ℕ) (old : End) (text : List ℕ) (e : End) (quota : ℕ) (b : Bool) (t u : Turn) → u.first ≡ t.first → (b ≡ false → (n : ℕ) → HadTurn u.around u.first u.at n → HadTurn t.around t.first t.at n ⊎ (StreamGoes e n → ⊥))
    → ((n : ℕ) → HadTurn t.around t.first t.at n → HadTurn u.around u.first u.at n) → Flow wish room old text e quota b t → Flow wish room old text e quota b u
flow_more wish room old text e quota true t u same ended still f = rw same f
flow_more wish room old text e quota false t u same ended still f =
    record {
      so_far = rw same f.so_far;
      over = λ m had goes. elim (ended refl m had) [ inl before ↦ f.over m before goes | inr none ↦ none goes ];
      untouched = λ m no. f.untouched m (λ had. no (still m had));
    }

-- those up to the next one that is looked at
pub flow_idle : (wish : Wish) (room : ℕ) (old : End) (text : List ℕ) (e : End) (quota : ℕ) (b : Bool) (around : Bool) (first done next : ℕ) → done ≤ next → ((n : ℕ) → done ≤ n → n < next → StreamGoes e n → ⊥) → Flow wish room old text e quota b (turn_at around first done) → Flow wish room old text e quota b (turn_at around first next)
flow_idle wish room old text e quota b around first done next le idle =
    flow_more wish room old text e quota b (turn_at around first done) (turn_at around first next) refl
    (λ open_end m had. elim (had_before around first done next m had) [ inl before ↦ inl before | inr (ge, lt) ↦ inr (idle m ge lt) ]) (λ m. had_still around first done next m le)

-- or all of the way
pub flow_way : (wish : Wish) (room : ℕ) (old : End) (text : List ℕ) (e : End) (quota : ℕ) (b : Bool) (around : Bool) (first done : ℕ) → (b ≡ false → (n : ℕ) → done ≤ n → IsOnWay around first n → StreamGoes e n → ⊥) → Flow wish room old text e quota b (turn_at around first done) → Flow wish room old text e quota b (way_end around first)
flow_way wish room old text e quota b false first done past =
    flow_more wish room old text e quota b (turn_at false first done) (turn_at true first 0) refl
    (λ open_end m had. elim had [ inl ge ↦ elim (cases_lt m done) [ inl lt ↦ inl (ge, lt) | inr le ↦ inr (past open_end m le ge) ] | inr none ↦ absurd (omega (arith, none)) ]) (λ m (ge, lt). inl ge)
flow_way wish room old text e quota b true first done past =
    flow_more wish room old text e quota b (turn_at true first done) (turn_at true first first) refl
    (λ open_end m had. elim had [ inl ge ↦ inl (inl ge) | inr on ↦ elim (cases_lt m done) [ inl lt ↦ inl (inr lt) | inr le ↦ inr (past open_end m le on) ] ]) (λ m had. had_all first m)

-- or that of a stream that can't send
pub flow_none : (wish : Wish) (room : ℕ) (old : End) (text : List ℕ) (e : End) (quota : ℕ) (b : Bool) (around : Bool) (first n : ℕ) → is_some (send_lane e n) ≡ false → Flow wish room old text e quota b (turn_at around first n) → Flow wish room old text e quota b (turn_at around first (n + 1))
flow_none wish room old text e quota b around first n none = grind (arith, nat_tests, flow_idle, none-some)

-- what may go within the cap may go
pub within_goes : (quota first : ℕ) (e : End) (n : ℕ) → GoesWithin quota first e n → StreamGoes e n
within_goes quota first e n (inl (some, goes)) = goes
within_goes quota first e n (inr alone) = (alone.half, alone.lane, inr alone.end)

-- A packet needs no more once all streams that are asked for had their turn.
pub flow_packed : (first : ℕ) (wish : Wish) (room : ℕ) (old : End) (text : List ℕ) (e : End) (quota : ℕ) (b around : Bool) (at : ℕ) → ((n : ℕ) → IsAsked wish.want n → HadTurn around first at n) → Flow wish room old text e quota b (turn_at around first at) → PackedBy first wish room old text e quota b
flow_packed first wish room old text e quota true around at had f = record { packed = f; over = λ full. absurd (true≢false full) }
flow_packed first wish room old text e quota false around at had f =
    record {
      packed = record {
        content = f.so_far.content;
        whole = λ left. record { ack = acked f.so_far.content.framed left; wanted = record { items = f.so_far.items; streams = λ n asked goes. f.over n (had n asked) (within_goes _ _ e n goes) } };
      };
      over = λ _ n asked. f.over n (had n asked);
    }

-- no stream is asked for
pub had_none : (want : Fill) (first at : ℕ) → want.streams ≡ false → (n : ℕ) → IsAsked want n → HadTurn false first at n
had_none want first at none n asked = absurd (true≢false (sym asked.0 ∙ none))

-- one alone is
pub had_one : (want : Fill) → want.alone ≡ true → (n : ℕ) → IsAsked want n → HadTurn false want.first (want.first + 1) n
had_one want alone n asked = elim asked.1 [ inl all ↦ absurd (true≢false (sym alone ∙ all)) | inr is ↦ (omega (arith, is), omega (arith, is)) ]

pub all_asked : (want : Fill) → want.streams ≡ true → want.alone ≡ false → (n : ℕ) → IsAsked want n
all_asked want some all n = (some, inl all)

-- Over the parts of an end

pub end_chunk : (t : Limits) (recvs : Tables RecvLane) (o : Outgoing) (e : End) (n : ℕ) (c : Chunk) (bytes : List ℕ) → length bytes ≡ c.len → end_by t recvs (chunk_put n c o) e ≡ frame_put (Stream n c.offset bytes c.fin) (end_by t recvs o e)
unfolding frame_put
end_chunk t recvs o e n c bytes count = ap (λ k. end_by t recvs (chunk_put n (record { offset = c.offset; len = k; fin = c.fin }) o) e) (sym count)

bytes_there : (o : Outgoing) (n : ℕ) (s : Sending) → HasSending o n s → (c : Chunk) → bytes_of (or_none (lookup o.sends n)) c ≡ bytes_of s.lane c
bytes_there o n s h c = ap (λ l. bytes_of (or_none l) c) h.lane

pub chunking_put : (around : Bool) (first : ℕ) (t : Limits) (recvs : Tables RecvLane) (o o' : Outgoing) (e : End) (quota rest : ℕ) (wish : Wish) (room : ℕ) (old : End) (before after : List ℕ) (len end n : ℕ) (c : Chunk) (left fresh : ℕ) →
    Found o n left fresh c → o' ≡ chunk_put n c o → len ≤ length before → room ≡ length before → left ≡ length before - len → fresh ≡ t.known_data - sent_sum o.sends →
    length (bytes_of (or_none (lookup o.sends n)) c) ≡ c.len → rest + c.len ≡ quota → take end after ≡ take len before ++ canonical (stream_frame o n c) →
    Chunking wish room old (take len before) (end_by t recvs o e) quota around first n → Chunking wish room old (take end after) (end_by t recvs o' e) rest around first n
chunking_put around first t recvs o o' e quota rest wish room old before after len end n c left fresh (s, h, (next, has)) is within at left_is fresh_is count split text k =
    let len_is : length (take len before) ≡ len = length-take-le len before within in
    let same : left ≡ room - length (take len before) = omega (arith, len_is, at, left_is) in
    let now = rw (same, fresh_is) at next in
    let bytes = bytes_of (or_none (lookup o.sends n)) c in
    rw (text, is, end_chunk t recvs o e n c bytes count) (chunking_next wish room old (take len before) (end_by t recvs o e) quota around first n k s (ties_of t recvs o e n s h) (omega (arith, len_is, at, within)) c now.allowed has bytes (bytes_there o n s h c) count now rest split)

pub flow_ends : (around : Bool) (first : ℕ) (t : Limits) (recvs : Tables RecvLane) (o : Outgoing) (e : End) (quota : ℕ) (wish : Wish) (room : ℕ) (old : End) (before : List ℕ) (len n left fresh : ℕ) (full : Bool) →
    ((s : Sending) × HasSending o n s × HasNoChunk s left fresh) → ((s : Sending) × HasSending o n s × (IsTrue full ↔ IsHeldByRoom s left fresh)) → len ≤ length before → room ≡ length before → left ≡ length before - len → fresh ≡ t.known_data - sent_sum o.sends →
    Chunking wish room old (take len before) (end_by t recvs o e) quota around first n → Flow wish room old (take len before) (end_by t recvs o e) quota full (turn_at around first (n + 1))
flow_ends around first t recvs o e quota wish room old before len n left fresh full (s, h, none) (x, g, held) within at left_is fresh_is k =
    let len_is : length (take len before) ≡ len = length-take-le len before within in
    let room_is : left ≡ room - length (take len before) = omega (arith, len_is, at, left_is) in
    let same : x ≡ s = one_half (end_by t recvs o e) n x s (ties_of t recvs o e n x g) (ties_of t recvs o e n s h) in
    go full (rw (room_is, fresh_is) at none) (rw (same, room_is, fresh_is) at held) (omega (arith, len_is, at, within))
  where
    there : End
    there = end_by t recvs o e

    go : (b : Bool) → HasNoChunk s (room - length (take len before)) (there.known_data - all_sent there) → IsTrue b ↔ IsHeldByRoom s (room - length (take len before)) (there.known_data - all_sent there) → length (take len before) ≤ room → Flow wish room old (take len before) there quota b (turn_at around first (n + 1))
    go true none held fits = chunking_full wish room old (take len before) there quota around first n k s (ties_of t recvs o e n s h) fits none (held.0 refl)
    go false none held fits = chunking_ends wish room old (take len before) there quota around first n k s (ties_of t recvs o e n s h) fits ((held_by_room_or_limits s (room - length (take len before)) (there.known_data - all_sent there) h.lawful none).1 (λ x. true≢false (sym (held.1 x))) 25)

-- the packet is full, as no frame of a stream fits any more
pub flow_few : (around : Bool) (first next : ℕ) (e : End) (quota : ℕ) (wish : Wish) (room : ℕ) (old : End) (before : List ℕ) (len n : ℕ) → len ≤ length before → room ≡ length before → length before - len < 25 →
    Chunking wish room old (take len before) e quota around first n → Flow wish room old (take len before) e quota true (turn_at around first next)
flow_few around first next e quota wish room old before len n within at few k = grind (arith, nat_tests, length-take-le)

-- the sum of the sent ends stays within the credit
pub sum_within : (o : Outgoing) (n : ℕ) (c : Chunk) (left fresh known : ℕ) → Allowed o n left fresh c → fresh ≡ known - sent_sum o.sends → sent_sum o.sends ≤ known → sent_sum (chunk_put n c o).sends ≤ known
sum_within o n c left fresh known (s, h, (next, has)) is le = rw h.lane (omega (arith, total_update (λ l. l.sent_end) o.sends n s.lane (sent_lane s.lane c) h.lane, next.within_credit, is, le))

pub sum_small : (o : Outgoing) (n : ℕ) (c : Chunk) (left fresh known : ℕ) → Allowed o n left fresh c → fresh ≡ known - sent_sum o.sends → sent_sum o.sends ≤ known → known ≤ MAX_VARINT → sent_sum (on_lane n (λ l. sent_lane l c) o).sends ≤ MAX_VARINT
sum_small o n c left fresh known a is le small = (let k : sent_sum (on_lane n (λ l. sent_lane l c) o).sends ≤ known = sum_within o n c left fresh known a is le in omega (arith, k, small))

pub still_open : (o : Outgoing) (n : ℕ) (s : Sending) (c : Chunk) → HasSending o n s → is_some (lookup (chunk_put n c o).sends n) ≡ true
still_open o n s c h = rw h.lane (ap is_some (lookup_same o.sends n s.lane (sent_lane s.lane c) h.lane))

pub two : (t v : ℕ) (rest : List ℕ) → 2 ≤ length (short t ++ (short v ++ rest))
two t v rest = omega (arith, length-append (short t) (short v ++ rest), length-append (short v) rest, short_positive t, short_positive v)

-- a STREAM frame has two bytes or more
pub stream_some : (n offset : ℕ) (fin : Bool) (bytes : List ℕ) → 2 ≤ length (canonical (stream n offset fin bytes))
unfolding canonical
stream_some n offset fin bytes = two _ n _

pub may_go : (o : Outgoing) (n : ℕ) (c : Chunk) (left fresh : ℕ) → Allowed o n left fresh c → MayGo o n c left
may_go o n c left fresh (s, h, (next, has)) = record { half = s; there = h; chunk = next.chunk; has = has; fits = omega (arith, next.fits, ap (λ m. frame_len m c.offset c.len) h.tied.id) }

-- The chunk that would pass the cap of bytes is cut, and nothing more goes in.

-- the first bytes of a chunk
abbrev pub cut : Chunk → ℕ → Chunk
cut c bytes = record { offset = c.offset; len = bytes; fin = false }

longer_frame : (id offset n m : ℕ) → n ≤ m → frame_len id offset n ≤ frame_len id offset m
longer_frame id offset n m le = (let more = short_len-more n m le in omega (arith, le, more))

-- they may go where all of it may
cut_allowed : (s : Sending) (c : Chunk) (room fresh bytes : ℕ) → IsAllowed s room fresh c → HasBytes s.lane c → 0 < bytes → bytes < c.len → IsAllowed s room fresh (cut c bytes)
cut_allowed s c room fresh bytes a has some less = grind (arith, nat_tests, longer_frame)

cut_both : (s : Sending) (c d : Chunk) (room fresh bytes : ℕ) → IsAllowed s room fresh c → HasBytes s.lane c → d ≡ cut c bytes → 0 < bytes → bytes < c.len → IsAllowed s room fresh d × HasBytes s.lane d
cut_both s c d room fresh bytes a has is some less = rw is (cut_allowed s c room fresh bytes a has some less, record { no_reset = has.no_reset; from = has.from; end = omega (arith, has.end, less) })

-- so what was found may be cut
pub cut_part : (o : Outgoing) (n : ℕ) (c d : Chunk) (left fresh bytes : ℕ) → Found o n left fresh c → d ≡ cut c bytes → 0 < bytes → bytes < c.len → Allowed o n left fresh d
cut_part o n c d left fresh bytes (s, h, (next, has)) is some less = (s, h, cut_both s c d left fresh bytes next.allowed has is some less)

-- the stream has more bytes that may go
cut_goes : (e : End) (n : ℕ) (s : Sending) (t : Ties e n s) (c d : Chunk) (room : ℕ) (allowed : IsAllowed s room (e.known_data - all_sent e) c) (chunk : IsDueChunk s d) (bytes : List ℕ) (count : length bytes ≡ d.len) → d.offset ≡ c.offset → d.len < c.len
    → BytesGo (frame_put (Stream n d.offset bytes d.fin) e) n
cut_goes e n s t c d room allowed chunk bytes count at less = (sent_lane s.lane d, then.lane, (next, due_is _ n (after_sent s d) then.tied then.lawful next there, omega (arith, allowed.chunk.within_limit, at, less), credit))
  where
    then : Ties (frame_put (Stream n d.offset bytes d.fin) e) n (after_sent s d)
    then = ties_sent e n s t d chunk bytes count

    next : ℕ
    next = d.offset + d.len

    there : set.contains (after_sent s d).due.offsets next ≡ true
    there = (let was = allowed.chunk.due next (omega (arith, at)) (omega (arith, at, less)) in grind (arith, nat_tests, contains-without_range s.due.offsets d.offset (d.offset + d.len) (d.offset + d.len)))

    credit : (next < (sent_lane s.lane d).sent_end) ⊎ ((next ≡ (sent_lane s.lane d).sent_end) × (all_sent (frame_put (Stream n d.offset bytes d.fin) e) < (frame_put (Stream n d.offset bytes d.fin) e).known_data))
    credit = grind (arith, nat_tests, chunk_sum, chunk_known)

-- Over the parts of an end

pub flow_capped : (around : Bool) (first next : ℕ) (t : Limits) (recvs : Tables RecvLane) (o : Outgoing) (e : End) (quota : ℕ) (wish : Wish) (room : ℕ) (old : End) (before : List ℕ) (len n : ℕ) (c : Chunk) (left fresh : ℕ) →
    Found o n left fresh c → fresh ≡ t.known_data - sent_sum o.sends → quota < c.len → quota ≡ 0 → len ≤ length before → room ≡ length before →
    Chunking wish room old (take len before) (end_by t recvs o e) quota around first n → Flow wish room old (take len before) (end_by t recvs o e) 0 true (turn_at around first next)
flow_capped around first next t recvs o e quota wish room old before len n c left fresh (s, h, (found, has)) fresh_is past none within at k =
    let there = end_by t recvs o e in
    let tied = ties_of t recvs o e n s h in
    let now = rw fresh_is at found.allowed in
    chunking_none wish room old (take len before) there quota around first n k s tied (omega (arith, length-take-le len before within, at, within)) none (s.lane, tied.lane, byte_of there n s tied c now.chunk now.within_credit (omega (arith, past)))

pub flow_cut : (around : Bool) (first turn : ℕ) (t : Limits) (recvs : Tables RecvLane) (o o' : Outgoing) (e : End) (quota : ℕ) (wish : Wish) (room : ℕ) (old : End) (before after : List ℕ) (len end n : ℕ) (c d : Chunk) (left fresh : ℕ) →
    Found o n left fresh c → o' ≡ chunk_put n d o → d ≡ cut c quota → 0 < quota → quota < c.len → len ≤ length before → room ≡ length before → left ≡ length before - len → fresh ≡ t.known_data - sent_sum o.sends →
    length (bytes_of (or_none (lookup o.sends n)) d) ≡ d.len → take end after ≡ take len before ++ canonical (stream_frame o n d) →
    Chunking wish room old (take len before) (end_by t recvs o e) quota around first n → Flow wish room old (take end after) (end_by t recvs o' e) 0 true (turn_at around first turn)
flow_cut around first turn t recvs o o' e quota wish room old before after len end n c d left fresh (s, h, (next, has)) put is some past within at left_is fresh_is count text k =
    let there = end_by t recvs o e in
    let tied = ties_of t recvs o e n s h in
    let len_is : length (take len before) ≡ len = length-take-le len before within in
    let same : left ≡ room - length (take len before) = omega (arith, len_is, at, left_is) in
    let now = rw (same, fresh_is) at next in
    let part = cut_both s c d (room - length (take len before)) (there.known_data - all_sent there) quota now.allowed has is some past in
    let bytes = bytes_of (or_none (lookup o.sends n)) d in
    let begin : d.offset ≡ c.offset = ap (λ (x : Chunk). x.offset) is in
    let all : d.len ≡ quota = ap (λ (x : Chunk). x.len) is in
    rw (text, put, end_chunk t recvs o e n d bytes count)
    (chunking_cut wish room old (take len before) there quota around first n k s tied (omega (arith, len_is, at, within)) d part.0 part.1 bytes (bytes_there o n s h d) count all
    (cut_goes there n s tied c d (room - length (take len before)) now.allowed part.0.chunk bytes count begin (omega (arith, all, past))))

-- ---- An outbox makes packets.

pub chunk_found : (s : Sending) (room fresh : ℕ) (r : Option Chunk) → IfSome r (IsNextChunk s room fresh) → IfNone r (HasNoChunk s room fresh) → IfSome r (HasBytes s.lane) → ChunkFound s room fresh r
chunk_found s room fresh None found none kept = none
chunk_found s room fresh (Some c) found none kept = (found, kept)

-- the packet in the making has a piece
pub piece_there : (m : Records) (k : ℕ) (ps : List Piece) (n : ℕ) → n ≡ length ps → AreBelow m k → nat_lt 0 n ≡ is_some (fmap.get (with_pending m k ps) k)
piece_there m k ps n is below = grind (arith, nat_tests, get_new)

pub same_sending : (o : Outgoing) (n : ℕ) (s x : Sending) → HasSending o n s → HasSending o n x → s ≡ x
same_sending o n s x h g = one_sending o.outstanding n s x h.lawful g.lawful h.tied g.tied (some_is (lookup o.sends n) s.lane x.lane h.lane g.lane)

-- The packet in the making has one piece more

insert_twice : (m : Records) (k : ℕ) (a b : List Piece) → fmap.insert (fmap.insert m k a) k b ≡ fmap.insert m k b
insert_twice m k a b =
    fmap.same_map nat_cmp_total nat_cmp-IsAntisymmetric _ _ (λ q.
    elim (cases_eq q k) [
      | inl is ↦ subst (λ x. fmap.get (fmap.insert (fmap.insert m k a) k b) x ≡ fmap.get (fmap.insert m k b) x) (sym is) (get_new (fmap.insert m k a) k b ∙ sym (get_new m k b))
      | inr ne ↦ get_other (fmap.insert m k a) k b q ne ∙ get_other m k a q ne ∙ sym (get_other m k b q ne)
    ])

so_far_in : Option (List Piece) → List Piece
so_far_in o = elim o [ None ↦ [] | Some ps ↦ ps ]

pub one_more : (m : Records) (k : ℕ) (ps : List Piece) (p : Piece) → AreBelow m k → with_pending m k (ps ++ p ∷ []) ≡ with_piece (with_pending m k ps) k p
unfolding so_far_in
one_more m k ps p below = grind (arith, nat_tests, get_new, insert_twice)

-- What holds

-- the room for the next record, as a number and as a test
pub has_room : (n room : ℕ) → n < room → nat_lt n room ≡ true
has_room n room lt = grind (arith, nat_tests)

pub room_stays : (n room more : ℕ) → room ≤ more → nat_lt n room ≡ true → nat_lt n more ≡ true
room_stays n room more le is = grind (arith, nat_tests)

pub box_begun : (t : Tables Sending) (m m' : Records) (r r' : Bool) (ps qs : List Piece) (next sent spare free count free' : ℕ) → IsOutbox t m r ps next sent spare free → m' ≡ m → qs ≡ ps → r' ≡ true → count ≤ free' → IsOutbox t m' r' qs next sent count free'
box_begun t m m' r r' ps qs next sent spare free count free' h same is ready room = grind (arith, nat_tests)

-- the sum of the sent ends moves as that of the half does
pub made_chunk_sum : (t t' : Tables Sending) (n sent moved : ℕ) (s : Sending) (c : Chunk) → lookup t n ≡ Some s → t' ≡ updated t n (λ x. after_sent x c) (lookup t n) → sent_sum (lanes_of t) ≡ sent → s.lane.sent_end + moved ≡ (after_sent s c).lane.sent_end → sent_sum (lanes_of t') ≡ sent + moved
made_chunk_sum t t' n sent moved s c there halves was is = grind (arith, nat_tests, total_update, lane_there, update_lanes)

pub box_chunk : (t t' : Tables Sending) (m : Records) (r : Bool) (ps qs : List Piece) (next sent spare free free' n moved : ℕ) (s : Sending) (c : Chunk) → IsOutbox t m r ps next sent spare free
    → lookup t n ≡ Some s → IsLawful s → IsDueChunk s c → t' ≡ updated t n (λ x. after_sent x c) (lookup t n) → qs ≡ ps ++ Data n c ∷ [] → 0 < spare → spare ≤ free' + 1
    → sent_sum (lanes_of t') ≤ MAX_VARINT → sent_sum (lanes_of t') ≡ sent + moved → IsOutbox t' m r qs next (sent + moved) (spare - 1) free'
box_chunk t t' m r ps qs next sent spare free free' n moved s c h there law due halves pushed some room small sum =
    let at : t' ≡ update t n (after_sent s c) = halves ∙ ap (updated t n (λ x. after_sent x c)) there in
    record {
      tied = rw (pushed, one_more m next ps (Data n c) h.below, at) (ties_chunk_put t (with_pending m next ps) next n s c h.tied there law due);
      below = h.below;
      sum = sum;
      small = omega (arith, sum, small);
      room = omega (arith, some, room);
      ready = λ x. h.ready (omega (arith, some));
    }

pub box_item : (t t' : Tables Sending) (m : Records) (r : Bool) (ps qs : List Piece) (next sent spare free free' : ℕ) (i : Item) → IsOutbox t m r ps next sent spare free
    → t' ≡ halves_told i t → MayTell (lanes_of t) i → (IsCarried (with_pending m next ps) (Told i) → ⊥) → qs ≡ ps ++ Told i ∷ [] → 0 < spare → spare ≤ free' + 1 → IsOutbox t' m r qs next sent (spare - 1) free'
box_item t t' m r ps qs next sent spare free free' i h halves may new pushed some room =
    record {
      tied = rw (pushed, one_more m next ps (Told i) h.below, halves) (told_tied i may new).0;
      below = h.below;
      sum = ap (λ x. sent_sum (lanes_of x)) halves ∙ (told_tied i may new).1 ∙ h.sum;
      small = h.small;
      room = omega (arith, some, room);
      ready = λ x. h.ready (omega (arith, some));
    }
  where
    Follows : Item → Tables Sending → Type 0
    Follows j x = AreTied x (with_piece (with_pending m next ps) next (Told j)) × (sent_sum (lanes_of x) ≡ sent_sum (lanes_of t))

    blocked : (j : Item) (n : ℕ) → MayTell (lanes_of t) j → (IsCarried (with_pending m next ps) (Told j) → ⊥) → (o : Option Sending) → lookup t n ≡ o → Follows j (updated t n after_blocked o)
    blocked j n told new None e = (ties_item_put t (with_pending m next ps) next j h.tied told new, refl)
    blocked j n told new (Some s) e =
        (let tied = ties_item_put t (with_pending m next ps) next j h.tied told new in (
          ties_updated t (with_piece (with_pending m next ps) next (Told j)) n s (after_blocked s) tied e (tied_blocked (with_piece (with_pending m next ps) next (Told j)) n s (tied.lanes n s e)) (λ x. x),
          ap sent_sum (update_lanes t n (after_blocked s)) ∙ (let sums = total_update (λ (l : SendLane). l.sent_end) (lanes_of t) n s.lane (blocked_lane s.lane) (lane_there t n s e) in omega (arith, sums)),
        ))

    told_tied : (j : Item) → MayTell (lanes_of t) j → (IsCarried (with_pending m next ps) (Told j) → ⊥) → Follows j (halves_told j t)
    told_tied (StreamDataBlocked n x) told new = blocked (StreamDataBlocked n x) n told new (lookup t n) refl
    told_tied j told new = (ties_item_put t (with_pending m next ps) next j h.tied told new, refl)

below_put : (m : Records) (k : ℕ) (ps : List Piece) → AreBelow m k → AreBelow (with_pending m k ps) (k + 1)
below_put m k [] below j has = omega (arith, below j has)
below_put m k (p ∷ ps) below j has =
    elim (cases_eq j k) [
      | inl same ↦ omega (arith, same)
      | inr ne ↦ omega (arith, below j (ap is_some (sym (get_other m k (p ∷ ps) j ne)) ∙ has))
    ]

pub box_committed : (t : Tables Sending) (m m' : Records) (r r' : Bool) (ps qs : List Piece) (next sent spare free free' : ℕ) → IsOutbox t m r ps next sent spare free → m' ≡ with_pending m next ps → qs ≡ [] → IsOutbox t m' r' qs (next + 1) sent 0 free'
box_committed t m m' r r' ps qs next sent spare free free' h put none = grind (arith, nat_tests, below_put)

-- Values

pub chunk_value : (e now : Outgoing) (t t' : Tables Sending) (m : Records) (ps qs : List Piece) (n spare : ℕ) (c : Chunk) → e ≡ now → e.sends ≡ lanes_of t → e.outstanding ≡ with_pending m e.next ps → AreBelow m e.next → spare ≡ e.spare - 1
    → t' ≡ updated t n (λ x. after_sent x c) (lookup t n) → qs ≡ ps ++ Data n c ∷ []
    → ◌≡◌ {A = Outgoing} (record e { sends = lanes_of t'; outstanding = with_pending m e.next qs; spare = spare }) (chunk_put n c now)
chunk_value e now t t' m ps qs n spare c is sends out below less halves pushed = grind (arith, nat_tests, lanes_updated, one_more)

told_lanes : (i : Item) (t : Tables Sending) → lanes_of (halves_told i t) ≡ blocked_noted i (lanes_of t)
told_lanes i t = grind (arith, nat_tests, lanes_updated)

pub item_value : (e now : Outgoing) (t t' : Tables Sending) (m : Records) (ps qs : List Piece) (spare : ℕ) (i : Item) → e ≡ now → e.sends ≡ lanes_of t → e.outstanding ≡ with_pending m e.next ps → AreBelow m e.next → spare ≡ e.spare - 1
    → t' ≡ halves_told i t → qs ≡ ps ++ Told i ∷ []
    → ◌≡◌ {A = Outgoing} (record e { sends = lanes_of t'; outstanding = with_pending m e.next qs; spare = spare }) (item_put_out i now)
item_value e now t t' m ps qs spare i is sends out below less halves pushed = grind (arith, nat_tests, told_lanes, one_more)

pub same_half : (e now : Outgoing) (t : Tables Sending) (n : ℕ) (s : Sending) → e ≡ now → e.sends ≡ lanes_of t → lookup t n ≡ Some s → or_none (lookup now.sends n) ≡ s.lane
same_half e now t n s is sends there = ap (λ x. or_none (lookup x n)) (ap (λ (o : Outgoing). o.sends) (sym is) ∙ sends) ∙ ap or_none (lane_there t n s there)

pub due_half : (o : Outgoing) (n : ℕ) (s : Sending) (c : Chunk) → ((x : Sending) × HasSending o n x × IsDueChunk x c) → HasSending o n s → IsDueChunk s c
due_half o n s c h g = subst (λ (x : Sending). IsDueChunk x c) (same_sending o n h.0 s h.1 g) h.2

pub open_half : (o : Outgoing) (n : ℕ) (c : Chunk) → ((x : Sending) × HasSending o n x × IsDueChunk x c) → is_some (lookup o.sends n) ≡ true
open_half o n c h = ap is_some h.1.lane

pub sum_now : (e now : Outgoing) (t t' : Tables Sending) (n : ℕ) (c : Chunk) → e ≡ now → e.sends ≡ lanes_of t → t' ≡ updated t n (λ y. after_sent y c) (lookup t n) → sent_sum (on_lane n (λ l. sent_lane l c) now).sends ≡ sent_sum (lanes_of t')
sum_now e now t t' n c is sends halves = grind (arith, nat_tests, lanes_updated)

pub idle_committed : (t : Tables Sending) (m' : Records) (r' : Bool) (qs : List Piece) (k sent free' : ℕ) → IsOutbox t m' r' qs k sent 0 free' → qs ≡ [] → fmap.get (with_pending m' k qs) k ≡ None
idle_committed t m' r' qs k sent free' h none = subst (λ x. fmap.get (with_pending m' k x) k ≡ None) (sym none) (none_above m' k h.below)

pub told_now : (e now : Outgoing) (t : Tables Sending) (i : Item) → e ≡ now → e.sends ≡ lanes_of t → MayTell now.sends i → MayTell (lanes_of t) i
told_now e now t i is sends h = subst (λ x. MayTell x i) sends (subst (λ (o : Outgoing). MayTell o.sends i) (sym is) h)
