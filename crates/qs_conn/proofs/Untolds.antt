-- What a frame that is put leaves: what is outstanding, due and covered then, and in which order the packet's pieces are.
use Rattle.std.specs.FinMap as fmap
use Rattle.std.specs.FinSet as set
use Rattle.qs_conn.specs.declared.due.Slot.TheVariants as slots
use Rattle.std.proofs.lemmas.Bool.Decides.{nat_tests}
use Rattle.std.proofs.Common.{arith, ◌≡◌, ℕ, suc, ◌/◌, ◌%◌, ◌<◌, Bool, true, List, [], ◌∷◌, ◌++◌, ◌⊎◌, map, refl, sym, ap, ◌∙◌, subst, inl, inr, Option, None, Some, option_map, slice_set, ◌≤◌, false, is_some, cond, if◌then◌else◌, ◌≢◌}
use Rattle.std.proofs.lemmas.List.{append-nil, append_assoc, length-append}
use Rattle.std.proofs.lemmas.Option.{same_Some, none-some, slice_get_cases}
use Rattle.qs_wire.specs.declared.stream_id.Dir.{Dir}
use Rattle.qs_wire.specs.declared.stream_id.Dir.TheVariants.{Bidi, Uni}
use Rattle.qs_send.specs.Lane.{SendLane, blocked_lane}
use Rattle.qs_send.specs.declared.parts.Chunk.{Chunk}
use Rattle.qs_send.specs.declared.piece.Item.{Item}
use Rattle.qs_send.specs.declared.piece.Item.TheVariants.{MaxData, MaxStreamData, MaxStreams, ResetStream, StopSending, DataBlocked, StreamDataBlocked, StreamsBlocked}
use Rattle.qs_send.specs.declared.piece.Piece.{Piece}
use Rattle.qs_send.specs.declared.piece.Piece.TheVariants.{Data, Told}
use Rattle.qs_machine.specs.Tables.{Tables, lookup, update, updated, table, with_table, each, total, no_streams, open_to}
use Rattle.qs_machine.specs.Ends.{End, Records, send_lane, recv_lane, first_window}
use Rattle.qs_machine.specs.Credit.{all_sent, granted_streams, first_grant, recv_ended}
use Rattle.qs_machine.specs.Seen.{Seen, Stream, Control}
use Rattle.qs_machine.specs.Due.{Among, IsOutstanding, IsAcked, IsCurrent, IsDue, IsEndDue, StreamGoes, wanted, known_count, WantsCredit, IsCovered}
use Rattle.qs_machine.specs.Lawful.{Fills, MayPut, frame_put, pieces_so_far, chunk_of}
use Rattle.qs_machine.specs.InOrder.{LeavesNoneOut, AreInOrder}
use Rattle.qs_machine.specs.Outgoing.{IsCarried as IsOutgoingCarried, Outgoing, IsBlockedAt, WantsMore, MayTell, IsAckedOut, IsAckedReset, item_put_out, first_acked_out, acked_at}
use Rattle.qs_machine.proofs.Carried.{get_new, among_push, among_more, among_last, with_piece, carried_new, carried_more, carried_is}
use Rattle.qs_machine.proofs.TableLaws.{lookup_each, total_each, slots_updated, slots_opened, slots_each, lookup_same, lookup_other, with_same}
use Rattle.qs_machine.proofs.TablesAfter.{update_back}
use Rattle.qs_conn.specs.Filling.{PutsItem, InPacket, unmarked, base, slot_of, end_by, IsCurrentIn, AnyWantsMore}
use Rattle.qs_conn.proofs.Outboxes.{none_is}
use Rattle.qs_recv.specs.Lane.{RecvLane, is_whole, new_lane, at_final_size, answer_by, after_read, stop_and_discard, raise}
use Rattle.qs_send.specs.declared.parts.Reset.{Reset}
use Rattle.qs_conn.specs.declared.limits.Limits.{Limits}
use Rattle.qs_machine.specs.Sums.{or_none}
use Rattle.qs_conn.specs.Layers.{limit_to_tell, stop_to_tell}
use Rattle.qs_conn.specs.declared.due.Slot.{Slot}
use Rattle.qs_machine.proofs.Ties.{nowhere}
use Rattle.std.proofs.lemmas.Bool.{both_ways, or_left, true≢false, cases_eq}
use Rattle.qs_ranges.proofs.Sets.{covers-of}
use Rattle.qs_recv.specs.Lawful.{IsLawful}
use Rattle.qs_recv.specs.declared.half.Read.TheVariants.{End as ReadEnd}
use Rattle.qs_recv.specs.declared.credit.Share.{Share}
use Rattle.qs_machine.proofs.EndedHalves.{RecvStays}
use Rattle.qs_conn.specs.Ended.{IsToldOfEnd}
use Rattle.std.proofs.lemmas.List.FromFn.{length-map-range_with_len}
use Rattle.qs_send.specs.Records.{IsCarried, without_first}
use Rattle.qs_conn.specs.Marks.{IsIdle}

-- Where less is outstanding, more is due.
module _ (e e' : End) (n : ℕ) (l : SendLane) (fewer : (c : Chunk) → IsOutstanding e' (Data n c) → IsOutstanding e (Data n c)) where
  pub due_more : (q : ℕ) → IsDue e n l q → IsDue e' n l q
  due_more q d = grind (arith, nat_tests)

  pub end_due_more : IsEndDue e n l → IsEndDue e' n l
  end_due_more d =
      record {
        no_reset = d.no_reset;
        finished = d.finished;
        not_acked = d.not_acked;
        not_sent = λ offset len out. d.not_sent offset len (fewer _ out);
      }

-- and with more outstanding no more goes
pub goes_less : (a b : End) (n : ℕ) → ((l : SendLane) → send_lane a n ≡ Some l → send_lane b n ≡ Some l) → (all_sent a < a.known_data → all_sent b < b.known_data) → ((c : Chunk) → IsOutstanding b (Data n c) → IsOutstanding a (Data n c)) → StreamGoes a n → StreamGoes b n
goes_less a b n lane credit more (l, at, goes) = (
  l,
  lane l at,
  elim goes [
    | inl (q, due, low, inl old) ↦ inl (q, due_more a b n l more q due, low, inl old)
    | inl (q, due, low, inr (first, left)) ↦ inl (q, due_more a b n l more q due, low, inr (first, credit left))
    | inr (due, whole) ↦ inr (end_due_more a b n l more due, whole)
  ],
)

-- The record of the packet in the making

-- the piece of a frame
abbrev pub piece_of : Seen → Option Piece
piece_of (Stream n offset bytes fin) = Some (Data n (chunk_of offset bytes fin))
piece_of (Control i) = Some (Told i)
piece_of _ = None

abbrev pub put_in : Option Piece → Records → ℕ → Records
put_in None m k = m
put_in (Some p) m k = with_piece m k p

abbrev pub as_list : Option Piece → List Piece
as_list None = []
as_list (Some p) = p ∷ []

put_out : (f : Seen) (e : End) → (frame_put f e).outstanding ≡ put_in (piece_of f) e.outstanding e.next
unfolding frame_put
put_out f e = grind (arith, nat_tests)

pub put_next : (f : Seen) (e : End) → (frame_put f e).next ≡ e.next
unfolding frame_put
put_next f e = grind (arith, nat_tests)

pub put_pieces : (f : Seen) (e : End) → pieces_so_far (frame_put f e) (frame_put f e).next ≡ pieces_so_far e e.next ++ as_list (piece_of f)
put_pieces f e = grind (arith, nat_tests, put_next, put_out, append-nil, get_new)

pub put_old : (f : Seen) (e : End) (x : Piece) → IsOutstanding e x → IsOutstanding (frame_put f e) x
put_old f e x out = subst (λ m. IsOutgoingCarried m x) (sym (put_out f e)) (go (piece_of f))
  where
    go : (o : Option Piece) → IsOutgoingCarried (put_in o e.outstanding e.next) x
    go None = out
    go (Some p) = carried_more e.outstanding e.next p x out

pub put_is : (f : Seen) (e : End) (x : Piece) → IsOutstanding (frame_put f e) x → IsOutstanding e x ⊎ (piece_of f ≡ Some x)
put_is f e x out = go (piece_of f) (subst (λ m. IsOutgoingCarried m x) (put_out f e) out)
  where
    go : (o : Option Piece) → IsOutgoingCarried (put_in o e.outstanding e.next) x → IsOutstanding e x ⊎ (o ≡ Some x)
    go None out = inl out
    go (Some p) out = elim (carried_is e.outstanding e.next p x out) [ inl old ↦ inl old | inr new ↦ inr (ap Some (sym new)) ]

pub put_packet : (f : Seen) (e : End) (x : Piece) → InPacket (frame_put f e) x → InPacket e x ⊎ (piece_of f ≡ Some x)
put_packet f e x there = grind (arith, nat_tests, put_pieces, append-nil, among_push)

-- Over several frames

pub fills_push : (old e mid : End) (fs : List Seen) (f : Seen) → Fills old e fs mid → MayPut old mid f → Fills old e (fs ++ f ∷ []) (frame_put f mid)
fills_push old e mid [] f is may = (subst (λ x. MayPut old x f) is may, ap (frame_put f) is)
fills_push old e mid (g ∷ fs) f (first, rest) may = (first, fills_push old (frame_put g e) mid fs f rest may)

-- what is outstanding stays so
pub out_old : (old e mid : End) (fs : List Seen) (x : Piece) → Fills old e fs mid → IsOutstanding e x → IsOutstanding mid x
out_old old e mid [] x is out = subst (λ y. IsOutstanding y x) (sym is) out
out_old old e mid (f ∷ fs) x (may, rest) out = out_old old (frame_put f e) mid fs x rest (put_old f e x out)

-- an item that is outstanding was so before, or is among the frames
pub out_is : (old e mid : End) (fs : List Seen) (i : Item) → Fills old e fs mid → IsOutstanding mid (Told i) → IsOutstanding e (Told i) ⊎ Among (Control i) fs
out_is old e mid [] i is out = inl (subst (λ y. IsOutstanding y (Told i)) is out)
out_is old e mid (f ∷ fs) i (may, rest) out =
    elim (out_is old (frame_put f e) mid fs i rest out) [
      | inl before ↦ elim (put_is f e (Told i) before) [ inl first ↦ inl first | inr this ↦ inr (inl (told_by f this)) ]
      | inr there ↦ inr (inr there)
    ]
  where
    told_by : (f : Seen) → piece_of f ≡ Some (Told i) → Control i ≡ f
    told_by (Control j) is = (let same : j ≡ i = cc is in ap Control (sym same))
    told_by (Stream n offset bytes fin) is = absurd (cc is)
    told_by f is = absurd (none-some (Told i) is)

-- what is in the packet stays in it
stays_in : (f : Seen) (e : End) (x : Piece) → InPacket e x → InPacket (frame_put f e) x
stays_in f e x there = subst (Among x) (sym (put_pieces f e)) (among_more (pieces_so_far e e.next) (as_list (piece_of f)) x there)

all_stay_in : (old e mid : End) (fs : List Seen) (x : Piece) → Fills old e fs mid → InPacket e x → InPacket mid x
all_stay_in old e mid [] x is there = subst (λ y. InPacket y x) (sym is) there
all_stay_in old e mid (f ∷ fs) x (may, rest) there = all_stay_in old (frame_put f e) mid fs x rest (stays_in f e x there)

-- an item among the frames is in the packet
pub item_in : (old e mid : End) (fs : List Seen) (i : Item) → Fills old e fs mid → Among (Control i) fs → InPacket mid (Told i)
item_in old e mid [] i fills there = absurd there
item_in old e mid (f ∷ fs) i (may, rest) (inl is) =
    all_stay_in old (frame_put f e) mid fs (Told i) rest
    (subst (λ g. InPacket (frame_put g e) (Told i)) is (subst (Among (Told i)) (sym (put_pieces (Control i) e)) (among_last (pieces_so_far e e.next) (Told i))))
item_in old e mid (f ∷ fs) i (may, rest) (inr there) = item_in old (frame_put f e) mid fs i rest there

-- The order

-- one more piece, which leaves none out
order_push : (old : End) (before ps : List Piece) (p : Piece) → AreInOrder old before ps → LeavesNoneOut old (before ++ ps) p → AreInOrder old before (ps ++ p ∷ [])
order_push old before [] p order none = (subst (λ x. LeavesNoneOut old x p) (append-nil before) none, tt)
order_push old before (q ∷ ps) p (here, rest) none = (here, order_push old (before ++ q ∷ []) ps p rest (subst (λ x. LeavesNoneOut old x p) (sym (append_assoc before (q ∷ []) ps)) none))

-- a packet without a piece
pub order_first : (old : End) → ((x : Piece) → InPacket old x → ⊥) → AreInOrder old [] (pieces_so_far old old.next)
order_first old fresh = go (pieces_so_far old old.next) fresh
  where
    go : (ps : List Piece) → ((x : Piece) → Among x ps → ⊥) → AreInOrder old [] ps
    go [] none = tt
    go (p ∷ ps) none = absurd (none p (inl refl))

-- a frame goes in whose piece leaves none out
pub order_put : (old e : End) (f : Seen) (p : Piece) → piece_of f ≡ Some p → LeavesNoneOut old (pieces_so_far e e.next) p → AreInOrder old [] (pieces_so_far e e.next) → AreInOrder old [] (pieces_so_far (frame_put f e) (frame_put f e).next)
order_put old e f p is none order = subst (AreInOrder old []) (sym (put_pieces f e ∙ ap (λ o. pieces_so_far e e.next ++ as_list o) is)) (order_push old [] (pieces_so_far e e.next) p order none)

-- What rests on the base alone

module _ (a b : End) (same : base a ≡ base b) where
  lanes : (n : ℕ) → option_map unmarked (send_lane a n) ≡ option_map unmarked (send_lane b n)
  lanes n = sym (lookup_each unmarked a.sends n) ∙ ap (λ e. lookup e.sends n) same ∙ lookup_each unmarked b.sends n

  -- a lane of the one is a lane of the other, but for the mark
  lane : (n : ℕ) (l : SendLane) → send_lane a n ≡ Some l → (mark : Bool) × (send_lane b n ≡ Some (record l { blocked_sent = mark }))
  lane n l there = go (send_lane b n) refl
    where
      go : (o : Option SendLane) → send_lane b n ≡ o → (mark : Bool) × (send_lane b n ≡ Some (record l { blocked_sent = mark }))
      go None is = absurd (none-some (unmarked l) (ap (option_map unmarked) (sym is) ∙ sym (lanes n) ∙ ap (option_map unmarked) there))
      go (Some m) is =
          let eq : unmarked l ≡ unmarked m = same_Some (unmarked l) (unmarked m) (ap (option_map unmarked) (sym there) ∙ lanes n ∙ ap (option_map unmarked) is) in
          (m.blocked_sent, is ∙ ap (λ (x : SendLane). Some (record x { blocked_sent = m.blocked_sent })) (sym eq))

  pub sum_by_base : all_sent a ≡ all_sent b
  sum_by_base = sym (total_each (λ l. l.sent_end) unmarked a.sends (λ l. refl)) ∙ ap (λ e. total (λ l. l.sent_end) e.sends) same ∙ total_each (λ l. l.sent_end) unmarked b.sends (λ l. refl)

  pub known_by_base : a.known_data ≡ b.known_data
  known_by_base = ap (λ e. e.known_data) same

  wants : (d : Dir) (m : ℕ) → (wanted a d ≡ Some m) × (m ≡ known_count a d) → (wanted b d ≡ Some m) × (m ≡ known_count b d)
  wants d m c = grind (arith, nat_tests)

  pub current_by_base : (i : Item) → IsCurrent a i → IsCurrent b i
  current_by_base (MaxData m) c = subst (λ e. (m ≡ e.granted) × (e.settings.conn_window < m)) same c
  current_by_base (MaxStreamData n m) c = subst (λ e. IsCurrent e (MaxStreamData n m)) same c
  current_by_base (MaxStreams d m) c = subst (λ e. IsCurrent e (MaxStreams d m)) same c
  current_by_base (ResetStream n code size) (l, there, is) = (let (mark, at) = lane n l there in (record l { blocked_sent = mark }, at, is))
  current_by_base (StopSending n code) c = subst (λ e. IsCurrent e (StopSending n code)) same c
  current_by_base (DataBlocked m) (is, sum, (n, l, w)) =
      let (mark, at) = lane n l w.lane in
      (is ∙ known_by_base, sym sum_by_base ∙ sum, (n, record l { blocked_sent = mark }, record { lane = at; no_reset = w.no_reset; more = w.more; below = w.below }))
  current_by_base (StreamDataBlocked n m) (l, there, open_end, is, more, all) = (let (mark, at) = lane n l there in (record l { blocked_sent = mark }, at, open_end, is, more, all))
  current_by_base (StreamsBlocked d m) c = wants d m c

  pub acked_by_base : (i : Item) → IsAcked a i → IsAcked b i
  acked_by_base (MaxData m) c = subst (λ e. e.acked.max_data ≡ Some m) same c
  acked_by_base (MaxStreamData n m) c = subst (λ e. fmap.get e.acked.max_stream_data n ≡ Some m) same c
  acked_by_base (MaxStreams Bidi m) c = subst (λ e. e.acked.bidi_streams ≡ Some m) same c
  acked_by_base (MaxStreams Uni m) c = subst (λ e. e.acked.uni_streams ≡ Some m) same c
  acked_by_base (ResetStream n code size) (l, there, is) = (let (mark, at) = lane n l there in (record l { blocked_sent = mark }, at, is))
  acked_by_base (StopSending n code) c = subst (λ e. set.contains e.acked.stop_sending n ≡ true) same c
  acked_by_base (DataBlocked m) c = subst (λ e. e.acked.data_blocked ≡ Some m) same c
  acked_by_base (StreamDataBlocked n m) c = subst (λ e. fmap.get e.acked.stream_data_blocked n ≡ Some m) same c
  acked_by_base (StreamsBlocked Bidi m) c = subst (λ e. e.acked.bidi_blocked ≡ Some m) same c
  acked_by_base (StreamsBlocked Uni m) c = subst (λ e. e.acked.uni_blocked ≡ Some m) same c

-- each stream's part changed, and one of them another

map_set : {X : Type 0} (f : X → X) (xs : List X) (i : ℕ) (y : X) → map f (slice_set xs i y) ≡ slice_set (map f xs) i (f y)
map_set f (x ∷ xs) (suc i) y = ap (λ zs. f x ∷ zs) (map_set f xs i y)
map_set _ _ _ _ = refl

each_with : {X : Type 0} (f : X → X) (t : Tables X) (k i : ℕ) (y : X) → each f (with_table t k (slice_set (table t k) i y)) ≡ with_table (each f t) k (slice_set (table (each f t) k) i (f y))
unfolding each
each_with f t k i y = grind (arith, nat_tests, map_set)

pub each_update : {X : Type 0} (f : X → X) (t : Tables X) (n : ℕ) (y : X) → each f (update t n y) ≡ update (each f t) n (f y)
unfolding update
each_update f t n y = each_with f t (n % 4) (n / 4) y

-- a mark leaves the base
mark_base : (t : Tables SendLane) (n : ℕ) (o : Option SendLane) → lookup t n ≡ o → each unmarked (updated t n blocked_lane o) ≡ each unmarked t
mark_base t n o is = grind (arith, nat_tests, each_update, update_back, lookup_each)

pub base_item : (i : Item) (e : End) → base (frame_put (Control i) e) ≡ base e
unfolding frame_put
base_item i e = grind (arith, nat_tests, mark_base)

-- ---- The current item of each slot.

-- What is of a slot

-- each item of the slot has the property
abbrev pub AtSlot : (Item → Type 0) → Slot → Type 0
AtSlot P slots.MaxData = (m : ℕ) → P (MaxData m)
AtSlot P (slots.MaxStreamData n) = (m : ℕ) → P (MaxStreamData n m)
AtSlot P (slots.MaxStreams d) = (m : ℕ) → P (MaxStreams d m)
AtSlot P (slots.ResetStream n) = (code : ℕ) (size : ℕ) → P (ResetStream n code size)
AtSlot P (slots.StopSending n) = (code : ℕ) → P (StopSending n code)
AtSlot P slots.DataBlocked = (m : ℕ) → P (DataBlocked m)
AtSlot P (slots.StreamDataBlocked n) = (m : ℕ) → P (StreamDataBlocked n m)
AtSlot P (slots.StreamsBlocked d) = (m : ℕ) → P (StreamsBlocked d m)

pub of_slot : (P : Item → Type 0) (s : Slot) → AtSlot P s → (j : Item) → slot_of j ≡ s → P j
of_slot P s p j is = grind (arith, nat_tests)

-- The current item, or that there is none

pub max_streams_there : (e : End) (d : Dir) (m : ℕ) → m ≡ granted_streams e d → first_grant e.settings d < m → IsCurrentIn e (slots.MaxStreams d) (Some (MaxStreams d m))
max_streams_there e d m is lt = ((is, lt), refl, of_slot (λ j. IsCurrent e j → j ≡ MaxStreams d m) (slots.MaxStreams d) (λ k c. ap (MaxStreams d) (c.0 ∙ sym is)))

pub max_streams_none : (e : End) (d : Dir) → granted_streams e d ≤ first_grant e.settings d → IsCurrentIn e (slots.MaxStreams d) None
max_streams_none e d le = of_slot (λ j. IsCurrent e j → ⊥) (slots.MaxStreams d) (λ k c. omega (arith, c.0, c.1, le))

not_none : (b : Bool) (o : Option ℕ) (m : ℕ) → cond b None o ≡ Some m → (b ≡ false) × (o ≡ Some m)
not_none b o m is = grind (arith, nat_tests)

limit_some : (o : Option RecvLane) (m : ℕ) → limit_to_tell o ≡ Some m → (l : RecvLane) × (o ≡ Some l) × (m ≡ l.limit) × (l.final_size ≡ None)
limit_some None m is = absurd (none-some m is)
limit_some (Some l) m is = let (unsized, at) = not_none (is_some l.final_size) (Some l.limit) m is in (l, refl, sym (same_Some l.limit m at), none_is l.final_size unsized)

limit_of : (o : Option RecvLane) (l : RecvLane) → o ≡ Some l → l.final_size ≡ None → limit_to_tell o ≡ Some l.limit
limit_of o l is none = ap limit_to_tell is ∙ ap (λ f. cond (is_some f) None (Some l.limit)) none

pub max_stream_data_there : (e : End) (n m : ℕ) → limit_to_tell (recv_lane e n) ≡ Some m → first_window e n < m → IsCurrentIn e (slots.MaxStreamData n) (Some (MaxStreamData n m))
max_stream_data_there e n m tells lt =
    let (l, there, is, none) = limit_some (recv_lane e n) m tells in (
      (l, there, is, lt, none),
      refl,
      of_slot (λ j. IsCurrent e j → j ≡ MaxStreamData n m) (slots.MaxStreamData n) (λ k (l2, there2, is2, lt2, none2). ap (MaxStreamData n) (is2 ∙ same_Some l2.limit m (sym (limit_of (recv_lane e n) l2 there2 none2) ∙ tells))),
    )

pub max_stream_data_none : (e : End) (n : ℕ) → ((m : ℕ) → limit_to_tell (recv_lane e n) ≡ Some m → first_window e n < m → ⊥) → IsCurrentIn e (slots.MaxStreamData n) None
max_stream_data_none e n none = of_slot (λ j. IsCurrent e j → ⊥) (slots.MaxStreamData n) (λ k (l, there, is, lt, no_size). none k (limit_of (recv_lane e n) l there no_size ∙ ap Some (sym is)) lt)

pub reset_there : (e : End) (n : ℕ) (r : Reset) → (or_none (send_lane e n)).was_reset ≡ Some r → IsCurrentIn e (slots.ResetStream n) (Some (ResetStream n r.code r.size))
reset_there e n r is = go (send_lane e n) refl is
  where
    go : (o : Option SendLane) → send_lane e n ≡ o → (or_none o).was_reset ≡ Some r → IsCurrentIn e (slots.ResetStream n) (Some (ResetStream n r.code r.size))
    go None there at = absurd (none-some r at)
    go (Some l) there at = (
      (l, there, at),
      refl,
      of_slot (λ j. IsCurrent e j → j ≡ ResetStream n r.code r.size) (slots.ResetStream n) (λ code size (k, there2, at2). (
          let same : l ≡ k = same_Some l k (sym there ∙ there2) in
          let eq : r ≡ record { code = code; size = size } = same_Some r (record { code = code; size = size }) (sym at ∙ ap (λ x. x.was_reset) same ∙ at2) in
          ap (λ (x : Reset). ResetStream n x.code x.size) (sym eq))),
    )

pub reset_none : (e : End) (n : ℕ) → (or_none (send_lane e n)).was_reset ≡ None → IsCurrentIn e (slots.ResetStream n) None
reset_none e n is = of_slot (λ j. IsCurrent e j → ⊥) (slots.ResetStream n) (λ code size (k, there, at). none-some (record { code = code; size = size }) (sym (sym (ap (λ o. (or_none o).was_reset) there) ∙ is) ∙ at))

pub stop_some : (o : Option RecvLane) (m : ℕ) → stop_to_tell o ≡ Some m → (l : RecvLane) × (o ≡ Some l) × (l.stop_code ≡ Some m) × (l.reset_code ≡ None) × (is_whole l ≡ false)
stop_some None m is = absurd (none-some m is)
stop_some (Some l) m is =
    let (goes, rest) = not_none (is_some l.reset_code) (cond (is_whole l) None l.stop_code) m is in
    let (part, at) = not_none (is_whole l) l.stop_code m rest in
    (l, refl, at, none_is l.reset_code goes, part)

pub stop_of : (o : Option RecvLane) (l : RecvLane) (m : ℕ) → o ≡ Some l → l.stop_code ≡ Some m → l.reset_code ≡ None → is_whole l ≡ false → stop_to_tell o ≡ Some m
stop_of o l m is code reset whole = ap stop_to_tell is ∙ ap (λ r. cond (is_some r) None (cond (is_whole l) None l.stop_code)) reset ∙ ap (λ w. cond w None l.stop_code) whole ∙ code

pub stop_there : (e : End) (n m : ℕ) → stop_to_tell (recv_lane e n) ≡ Some m → IsCurrentIn e (slots.StopSending n) (Some (StopSending n m))
stop_there e n m tells = (
  stop_some (recv_lane e n) m tells,
  refl,
  of_slot (λ j. IsCurrent e j → j ≡ StopSending n m) (slots.StopSending n) (λ code (l, there, is, reset, whole). ap (StopSending n) (same_Some code m (sym (stop_of (recv_lane e n) l code there is reset whole) ∙ tells))),
)

pub stop_none : (e : End) (n : ℕ) → stop_to_tell (recv_lane e n) ≡ None → IsCurrentIn e (slots.StopSending n) None
stop_none e n none = of_slot (λ j. IsCurrent e j → ⊥) (slots.StopSending n) (λ code (l, there, is, reset, whole). none-some code (sym none ∙ stop_of (recv_lane e n) l code there is reset whole))

pub data_blocked_there : (e : End) (m : ℕ) → m ≡ e.known_data → all_sent e ≡ m → AnyWantsMore e.sends → IsCurrentIn e slots.DataBlocked (Some (DataBlocked m))
data_blocked_there e m is sum (n, wants) = (
  lane (lookup e.sends n) refl wants,
  refl,
  of_slot (λ j. IsCurrent e j → j ≡ DataBlocked m) slots.DataBlocked (λ k c. ap DataBlocked (c.0 ∙ sym is)),
)
  where
    lane : (o : Option SendLane) → lookup e.sends n ≡ o → WantsMore o → IsCurrent e (DataBlocked m)
    lane None there w = absurd w
    lane (Some l) there (none, more, below) = (is, sum, (n, l, record { lane = there; no_reset = none; more = more; below = below }))

wants_of : (e : End) (n : ℕ) (l : SendLane) → WantsCredit e n l → WantsMore (lookup e.sends n)
wants_of e n l w = subst WantsMore (sym w.lane) (w.no_reset, w.more, w.below)

pub data_blocked_none : (e : End) → (all_sent e ≡ e.known_data → AnyWantsMore e.sends → ⊥) → IsCurrentIn e slots.DataBlocked None
data_blocked_none e none = of_slot (λ j. IsCurrent e j → ⊥) slots.DataBlocked (λ k (is, sum, (n, l, w)). none (sum ∙ is) (n, wants_of e n l w))

pub stream_data_blocked_there : (e : End) (n m : ℕ) → IsBlockedAt (lookup e.sends n) m → IsCurrentIn e (slots.StreamDataBlocked n) (Some (StreamDataBlocked n m))
stream_data_blocked_there e n m blocked = go (lookup e.sends n) refl blocked
  where
    go : (o : Option SendLane) → lookup e.sends n ≡ o → IsBlockedAt o m → IsCurrentIn e (slots.StreamDataBlocked n) (Some (StreamDataBlocked n m))
    go None there b = absurd b
    go (Some l) there (none, is, more, at) = (
      (l, there, none, is, more, at),
      refl,
      of_slot (λ j. IsCurrent e j → j ≡ StreamDataBlocked n m) (slots.StreamDataBlocked n) (λ k (l2, there2, none2, is2, more2, at2). (let same : l2 ≡ l = same_Some l2 l (sym there2 ∙ there) in ap (StreamDataBlocked n) (is2 ∙ ap (λ x. x.limit) same ∙ sym is))),
    )

pub stream_data_blocked_none : (e : End) (n : ℕ) → ((m : ℕ) → IsBlockedAt (lookup e.sends n) m → ⊥) → IsCurrentIn e (slots.StreamDataBlocked n) None
stream_data_blocked_none e n none = of_slot (λ j. IsCurrent e j → ⊥) (slots.StreamDataBlocked n) (λ k (l, there, no_reset, is, more, at). none k (subst (λ o. IsBlockedAt o k) (sym there) (no_reset, is, more, at)))

pub streams_blocked_there : (e : End) (d : Dir) (m : ℕ) → wanted e d ≡ Some m → m ≡ known_count e d → IsCurrentIn e (slots.StreamsBlocked d) (Some (StreamsBlocked d m))
streams_blocked_there e d m is at = ((is, at), refl, of_slot (λ j. IsCurrent e j → j ≡ StreamsBlocked d m) (slots.StreamsBlocked d) (λ k c. ap (StreamsBlocked d) (c.1 ∙ sym at)))

pub streams_blocked_none : (e : End) (d : Dir) → ((m : ℕ) → wanted e d ≡ Some m → m ≡ known_count e d → ⊥) → IsCurrentIn e (slots.StreamsBlocked d) None
streams_blocked_none e d none = of_slot (λ j. IsCurrent e j → ⊥) (slots.StreamsBlocked d) (λ k c. none k c.0 c.1)

-- Past the last stream

-- a RESET_STREAM that is current tells of a half that was reset
pub may_tell : (e : End) (i : Item) → IsCurrent e i → MayTell e.sends i
may_tell e i h = grind (arith, nat_tests)

-- what the sending side knows as acknowledged
pub acked_out : (t : Limits) (recvs : Tables RecvLane) (o : Outgoing) (e : End) (i : Item) → IsAckedOut o i → IsAcked (end_by t recvs o e) i
acked_out t recvs o e (ResetStream n code size) a = go (lookup o.sends n) refl a
  where
    go : (x : Option SendLane) → lookup o.sends n ≡ x → IsAckedReset x → (l : SendLane) × (lookup o.sends n ≡ Some l) × (l.reset_acked ≡ true)
    go None there b = absurd b
    go (Some l) there b = (l, there, b)
acked_out _ _ _ _ _ a = a

-- An item put by the sending side is put by the end.
pub end_put : (t : Limits) (recvs : Tables RecvLane) (o : Outgoing) (e : End) (i : Item) → end_by t recvs (item_put_out i o) e ≡ frame_put (Control i) (end_by t recvs o e)
unfolding frame_put
end_put t recvs o e i = grind (arith, nat_tests)

-- ---- A reader is told of the end only where the half came to it, or was stopped.

-- One half

abbrev IsTold : RecvLane → Type 0
IsTold l = l.reader_done ≡ true → (recv_ended l ≡ true) ⊎ (is_some l.stop_code ≡ true)

-- where a change leaves what a reader was told, and an ended half stays so, and a stopped one
pub still_told : (l m : RecvLane) → IsTold l → m.reader_done ≡ l.reader_done → RecvStays l m → (is_some l.stop_code ≡ true → is_some m.stop_code ≡ true) → IsTold m
still_told l m told same stays stopped is = elim (told (sym same ∙ is)) [ inl ended ↦ inl (stays ended) | inr off ↦ inr (stopped off) ]

-- a half that is forgotten was stopped, or was over before
pub forgotten_told : (l : RecvLane) (code : ℕ) → IsTold (stop_and_discard l code)
forgotten_told l code is = grind (arith, nat_tests)

-- what a reader is told

-- all was read, so all came
read_whole : (l : RecvLane) → IsLawful l → at_final_size l.arrived.read_count l.final_size ≡ true → is_whole l ≡ true
read_whole l h = grind (arith, nat_tests, covers-of)

told_end : (l : RecvLane) (size : ℕ) → IsLawful l → (r : Option ℕ) → answer_by r l size ≡ ReadEnd → is_whole l ≡ true
told_end l size h r is = grind (arith, nat_tests, read_whole)

read_told : (l : RecvLane) (size : ℕ) → IsLawful l → IsTold l → IsTold (after_read l size)
read_told l size h was = grind (arith, nat_tests, told_end, or_left)

-- All halves

abbrev AreTold : Tables RecvLane → Type 0
AreTold t = (n : ℕ) → IsToldOfEnd (lookup t n)

pub told_updated : (t now : Tables RecvLane) (n : ℕ) (f : RecvLane → RecvLane) → AreTold t → now ≡ updated t n f (lookup t n) → ((l : RecvLane) → lookup t n ≡ Some l → IsTold l → IsTold (f l)) → AreTold now
told_updated t now n f told is keeps = subst AreTold (sym is) (go (lookup t n) refl)
  where
    go : (o : Option RecvLane) → lookup t n ≡ o → AreTold (updated t n f o)
    go None there = told
    go (Some l) there = slots_updated (λ m o. IsToldOfEnd o) t n l (f l) there (λ m ne. told m) (keeps l there (subst IsToldOfEnd there (told n)))

pub told_read : (t now : Tables RecvLane) (n size : ℕ) → AreTold t → now ≡ updated t n (λ l. after_read l size) (lookup t n) → ((l : RecvLane) → lookup t n ≡ Some l → IsLawful l) → AreTold now
told_read t now n size told is lawful = told_updated t now n (λ l. after_read l size) told is (λ l there was. read_told l size (lawful l there) was)

pub told_opened : (t now : Tables RecvLane) (n w : ℕ) (share : Share) (absent : Bool) → AreTold t → now ≡ cond absent t (open_to t n (λ m. new_lane w share)) → AreTold now
told_opened t now n w share true told is = subst AreTold (sym is) told
told_opened t now n w share false told is = subst AreTold (sym is) (slots_opened (λ m o. IsToldOfEnd o) t n (λ m. new_lane w share) told (λ m none kind is. absurd (both_ways false refl is)))

pub told_raised : (t now : Tables RecvLane) → AreTold t → now ≡ each raise t → AreTold now
told_raised t now told is = subst AreTold (sym is) (slots_each (λ m o. IsToldOfEnd o) raise t (λ m. raised (lookup t m) (told m)))
  where
    raised : (o : Option RecvLane) → IsToldOfEnd o → IsToldOfEnd (option_map raise o)
    raised None told = tt
    raised (Some l) told = told

pub none_told : (t : Tables RecvLane) → t ≡ no_streams → AreTold t
none_told t is n = subst IsToldOfEnd (sym (ap (λ (x : Tables RecvLane). lookup x n) is ∙ nowhere n)) tt

-- One part of a table changes

pub updated_here : {X : Type 0} (t : Tables X) (n : ℕ) (f : X → X) → lookup (updated t n f (lookup t n)) n ≡ option_map f (lookup t n)
updated_here {X} t n f = go (lookup t n) refl
  where
    go : (o : Option X) → lookup t n ≡ o → lookup (updated t n f o) n ≡ option_map f o
    go None is = is
    go (Some x) is = lookup_same t n x (f x) is

pub updated_other : {X : Type 0} (t : Tables X) (n k : ℕ) (f : X → X) → k ≢ n → lookup (updated t n f (lookup t n)) k ≡ lookup t k
updated_other {X} t n k f ne = go (lookup t n)
  where
    go : (o : Option X) → lookup (updated t n f o) k ≡ lookup t k
    go None = refl
    go (Some x) = lookup_other t n k (f x) ne

-- what holds of the others still, and of this one now, holds of each
pub slots_changed : {X : Type 0} (P : ℕ → Option X → Type 0) (t : Tables X) (n : ℕ) (f : X → X) → ((k : ℕ) → k ≢ n → P k (lookup t k)) → P n (option_map f (lookup t n)) → (k : ℕ) → P k (lookup (updated t n f (lookup t n)) k)
slots_changed P t n f others here k =
    elim (cases_eq k n) [ inl e ↦ subst (λ j. P j (lookup (updated t n f (lookup t n)) j)) (sym e) (subst (P n) (sym (updated_here t n f)) here) | inr ne ↦ subst (P k) (sym (updated_other t n k f ne)) (others k ne) ]

pub of_mapped : {X Y : Type 0} (f : X → Y) (o : Option X) (P : Y → Type 0) → ((x : X) → o ≡ Some x → P (f x)) → (y : Y) → option_map f o ≡ Some y → P y
of_mapped f o P all y is = grind (arith, nat_tests)

-- Streams open

-- each stream up to the one that was opened has a place
pub opened_some : (t : Tables Bool) (n m : ℕ) (begin : ℕ → Bool) → m % 4 ≡ n % 4 → m ≤ n → is_some (lookup (open_to t n begin) m) ≡ true
unfolding open_to
opened_some t n m begin e le = grind (arith, nat_tests, with_same, slice_get_cases, length-append, length-map-range_with_len)

pub outstanding_acked : (late : Bool) (k : ℕ) (p : Piece) (o : Outgoing) → (first_acked_out (acked_at late k p) o).outstanding ≡ (if late then o.outstanding else without_first o.outstanding k (fmap.get o.outstanding k))
outstanding_acked late k p o = grind (arith, nat_tests)

pub idle_none : (e : End) (slot : Slot) → IsCurrentIn e slot None → IsIdle e slot
idle_none e slot none i at is = absurd (none i at is)

pub idle_covered : (e : End) (slot : Slot) (i : Item) → IsCurrentIn e slot (Some i) → IsCovered e i → IsIdle e slot
idle_covered e slot i current covered j at is = subst (IsCovered e) (sym (current.2 j at is)) covered

-- once a current item went in, what is current of its slot was told
pub put_idle : (t : Limits) (recvs : Tables RecvLane) (o new : Outgoing) (e : End) (i : Item) (slot : Slot) (before after : List ℕ) (len end : ℕ) (full : Bool) → PutsItem i before len o after end new full → IsCurrentIn (end_by t recvs o e) slot (Some i) → full ≡ false → IsIdle (end_by t recvs new e) slot
put_idle t recvs o new e i slot before after len end true puts current off j at now = absurd (true≢false off)
put_idle t recvs o new e i slot before after len end false (text, is) current off j at now =
    let same : j ≡ i = current.2 j at (current_by_base (frame_put (Control i) (end_by t recvs o e)) (end_by t recvs o e) (base_item i (end_by t recvs o e)) j (subst (λ x. IsCurrent x j) (ap (λ (x : Outgoing). end_by t recvs x e) is ∙ end_put t recvs o e i) now)) in
    inl (subst (λ (x : Outgoing). IsCarried x.outstanding (Told j)) (sym is) (subst (λ k. IsCarried (item_put_out i o).outstanding (Told k)) (sym same) (carried_new o.outstanding o.next (Told i))))
