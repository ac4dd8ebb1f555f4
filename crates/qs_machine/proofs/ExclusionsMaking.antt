-- What the definitions exclude of packets: what is due, what one holds, what is filled in, and in which order.
use Rattle.std.proofs.Common.{◌≡◌, ℕ, ◌<◌, ◌+◌, [], ◌∷◌, true, false, ◌||◌, None, refl, sym, ap, ◌∙◌, subst, arith, inl, inr, ◌≢◌, ◌-◌, ◌≤◌, ◌⊎◌, List, ◌++◌, take, drop, length, slice_index_or, Bool, cond, Option, Some, is_some}
use Rattle.std.specs.FinMap as fmap
use Rattle.std.specs.FinSet as set
use Rattle.std.specs.Ordering.{nat_cmp, eq_by_cmp}
use Rattle.std.specs.Cmp.{nat_cmp_total}
use Rattle.std.proofs.lemmas.Option.{same_Some, none-some}
use Rattle.std.proofs.lemmas.Bool.{false≢true, true≢false, both_ways}
use Rattle.std.proofs.lemmas.Bool.Decides.{nat_tests}
use Rattle.qs_ranges.specs.Numbers.{NumberSet, contains-numbers, contains-with_range, numbers, covers}
use Rattle.qs_ranges.proofs.Sets.{covers-of, end_of-empty, missing_from-past}
use Rattle.qs_recv.specs.Lane.{is_whole}
use Rattle.qs_send.specs.Lane.{SendLane, unacked_from}
use Rattle.qs_send.specs.Records.{IsCarried, Among, PacketPieces, without_first}
use Rattle.qs_send.specs.declared.parts.Chunk.{Chunk}
use Rattle.qs_send.specs.declared.piece.Item.TheVariants.{MaxData, MaxStreams, ResetStream, StopSending}
use Rattle.qs_send.specs.declared.piece.Piece.{Piece}
use Rattle.qs_send.specs.declared.piece.Piece.TheVariants.{Data, Told}
use Rattle.qs_send.proofs.Outstanding.{carried-empty}
use Rattle.qs_machine.specs.Tables.{lookup, total, update}
use Rattle.qs_machine.specs.Due.{IsDue, IsCurrent, StreamGoes, Sendable, IsDueItem}
use Rattle.qs_machine.specs.SmallEnds.{client_with, chunk, wrote, all_came, abc, owing}
use Rattle.qs_machine.specs.ExclusionsDue.{NoOffsetIsDue, NoEndIsDue, NoLimitIsTold, NoAbortIsTold, NothingIsBlocked, ToldIsNotDue, NoneIsNoAnswer, NotDue}
use Rattle.qs_machine.proofs.SmallEndsLaws.{one_carried, only_carried, none_in, no_member}
use Rattle.std.specs.Prelude.{Result, Ok, Err, max}
use Rattle.std.specs.List.{AllByRecursion}
use Rattle.std.proofs.lemmas.List.{length-append}
use Rattle.qs_wire.specs.Layout.{ack}
use Rattle.qs_wire.specs.Grammar.{Fits, canonical}
use Rattle.qs_wire.proofs.Numbers.{short_byte, short_most}
use Rattle.qs_wire.specs.Varint.{short}
use Rattle.qs_send.specs.LostRecords.{with_piece, with_number, without_oldest}
use Rattle.qs_wire.specs.declared.stream_id.Dir.TheVariants.{Bidi}
use Rattle.qs_send.specs.declared.piece.Item.{Item}
use Rattle.qs_calls.specs.declared.making.Made.{Made}
use Rattle.qs_calls.specs.declared.making.MakeFault.{MakeFault}
use Rattle.qs_calls.specs.declared.making.LostFault.{LostFault}
use Rattle.qs_calls.specs.declared.making.LostFault.TheVariants as losing
use Rattle.qs_machine.specs.Ends.{End, send_lane}
use Rattle.qs_machine.specs.Credit.{all_sent, settle}
use Rattle.qs_machine.specs.Seen.{Seen, Ack, Stream, Control, seen_all, asks_ack, any_asks}
use Rattle.qs_machine.specs.Acked.{or_zero}
use Rattle.qs_machine.specs.FrameStep.{is_named}
use Rattle.qs_machine.specs.Verdicts.{verdict}
use Rattle.qs_machine.specs.Lawful.{MayPut, Fills, Lawful, frame_put, pieces_so_far}
use Rattle.qs_machine.specs.Making.{NamesMost, IsAckMade, LoseStep, losses}
use Rattle.qs_machine.specs.Examples.{standard, server}
use Rattle.qs_machine.specs.ExclusionsMaking.{NoSuchStreamFrame, NoSuchAck, NoSuchFrame, NoSuchPacket, NothingIsLeftOut, NothingIsOutOfTurn, NoSuchText, NoSuchAnswer, NoSuchAckAlone, NoSuchClaim, NoSuchLoss, NotMade, writer, two_due, two_writers, one_flying, two_flying}
use Rattle.qs_machine.proofs.Ties.{nowhere}
use Rattle.qs_machine.proofs.Carried.{among_last}
use Rattle.qs_wire.specs.LastStream.{last_stream_of}
use Rattle.qs_calls.specs.declared.filling.Fill.{Fill}
use Rattle.qs_calls.specs.declared.filling.Filled.{Filled}
use Rattle.qs_calls.specs.declared.token.Token.{Token}
use Rattle.qs_machine.specs.Filling.{IsWanted, IsFilled, WantedGoes, still_asked}
use Rattle.qs_machine.specs.ExclusionsFilling.{NoSuchFrames, NothingWantedIsLeftOut, NoSuchFill, NotFilled, everything, items_alone, no_bytes}
use Rattle.qs_machine.specs.InOrder.{AreInOrder, NothingStarves}
use Rattle.qs_machine.specs.ExclusionsInOrder.{NothingIsStarved, two_resets, stopping, two_counts}

-- What isn't due, and may not go out.

abbrev data_of : (p : Piece) → Chunk
data_of (Data n c) = c
data_of (Told i) = chunk 0 0 false

abbrev value_of : (p : Piece) → ℕ
value_of (Told (MaxData m)) = m
value_of _ = 0

-- only the offsets of the one piece are in flight
flying : (c d : Chunk) → IsCarried (fmap.insert fmap.empty 0 (Data 0 c ∷ [])) (Data 0 d) → d ≡ c
flying c d is = ap data_of (only_carried 0 (Data 0 c) (Data 0 d) is)

offsets : NoOffsetIsDue
offsets =
    record {
      after_reset = λ due. none-some _ (sym due.no_reset);
      unwritten = λ due. (let lt : 3 < 3 = due.written in omega arith);
      acked = λ due. both_ways _ due.not_acked (contains-numbers 1 2 1);
      in_flight = λ due. due.not_sent (chunk 0 3 false, one_carried 0 (Data 0 (chunk 0 3 false)), omega arith, omega arith);
      past_flight = record {
        no_reset = refl;
        written = omega arith;
        not_acked = set.contains-empty nat_cmp 2;
        not_sent = λ (c, is, low, high). (let e = flying (chunk 0 2 false) c is in let n : c.offset + c.len ≡ 2 = ap (λ (d : Chunk). d.offset + d.len) e in omega arith);
      };
      before_flight = record {
        no_reset = refl;
        written = omega arith;
        not_acked = set.contains-empty nat_cmp 0;
        not_sent = λ (c, is, low, high). (let e = flying (chunk 1 2 false) c is in let n : c.offset ≡ 1 = ap (λ (d : Chunk). d.offset) e in omega arith);
      };
    }

ends : NoEndIsDue
ends =
    record {
      after_reset = λ due. none-some _ (sym due.no_reset);
      unasked = λ due. false≢true due.finished;
      acked = λ due. true≢false due.not_acked;
      in_flight = λ due. due.not_sent 0 0 (one_carried 0 (Data 0 (chunk 0 0 true)));
    }

limits : NoLimitIsTold
unfolding lookup
limits = grind arith

-- all bytes below a count came
pub came_whole : (n : ℕ) → covers (set.union set.empty (numbers 0 n)) 0 n ≡ true
came_whole n = covers-of (set.union set.empty (numbers 0 n)) 0 n (λ q low high. contains-with_range set.empty 0 n q ∙ (grind (arith, nat_tests, set.contains-empty nat_cmp q)))

pub whole : is_whole all_came ≡ true
whole = came_whole 3

aborts : NoAbortIsTold
unfolding lookup
aborts = grind (arith, nat_tests, none-some, same_Some, both_ways, whole)

blocked : NothingIsBlocked
unfolding lookup total
blocked = grind arith

told : ToldIsNotDue
unfolding lookup
told =
    record {
      in_flight = λ due. due.1 (inl (one_carried 0 (Told (MaxData 5000))));
      acked = λ due. due.1 (inr refl);
      older_later = λ due. due.1 (inr refl);
      newer = (
        (refl, omega arith),
        λ covered. elim covered [ inl flies ↦ carried-empty _ flies | inr acked ↦ (let e : 4500 ≡ 5000 = same_Some 4500 5000 acked in omega arith) ],
      );
      newer_in_flight = (
        (refl, omega arith),
        λ covered. elim covered [
          | inl flies ↦ (let e : 5000 ≡ 4500 = ap value_of (only_carried 0 (Told (MaxData 4500)) (Told (MaxData 5000)) flies) in omega arith)
          | inr acked ↦ none-some 5000 acked
        ],
      );
      newer_of_stream = (
        (_, refl, refl, omega arith, refl),
        λ covered. elim covered [
          | inl flies ↦ carried-empty _ flies
          | inr acked ↦ (let e : 1500 ≡ 2000 = same_Some 1500 2000 (sym (fmap.get-insert nat_cmp_total fmap.empty 0 _ 0 ∙ ap (λ o. Some (max (or_zero o) 1500)) (fmap.get-empty nat_cmp 0)) ∙ acked) in omega arith)
        ],
      );
      newer_count = (
        (refl, omega arith),
        λ covered. elim covered [ inl flies ↦ carried-empty _ flies | inr acked ↦ (let e : 9 ≡ 10 = same_Some 9 10 acked in omega arith) ],
      );
      acked_stop = λ due. due.1 (inr (set.contains-insert nat_cmp_total set.empty 0 0));
      acked_reset = λ due. due.1 (inr (_, refl, refl));
    }

none : NoneIsNoAnswer
unfolding lookup total
none =
    record {
      ack = λ step. step.0 (inl refl);
      item = λ step. step.0 (inr (inl (
        MaxData 5000,
        ((refl, omega arith), λ covered. elim covered [ inl flies ↦ carried-empty _ flies | inr acked ↦ none-some 5000 acked ]),
      )));
      new_byte = λ step. step.0 (inr (inr (0, (_, refl, inl (0, first_due wrote refl (omega arith) refl, omega arith, inr (refl, omega arith))))));
      lost_byte = λ step. step.0 (inr (inr (0, (_, refl, inl (0, (record { no_reset = refl; written = omega arith; not_acked = set.contains-empty nat_cmp 0; not_sent = λ (c, is, low, high). carried-empty _ is }), omega arith, inl (omega arith))))));
      end = λ step. step.0 (inr (inr (0, (_, refl, inr (record { no_reset = refl; finished = refl; not_acked = refl; not_sent = λ offset len flies. carried-empty _ flies }, refl)))));
    }
  where
    first_due : (l : SendLane) → l.was_reset ≡ None → 0 < l.written → l.acked ≡ set.empty → IsDue (client_with l) 0 l 0
    first_due l fine some none =
        record {
          no_reset = fine;
          written = some;
          not_acked = ap (λ (s : NumberSet). set.contains s 0) none ∙ set.contains-empty nat_cmp 0;
          not_sent = λ (c, is, low, high). carried-empty _ is;
        }

pub not_due : NotDue
not_due = record { offsets = offsets; ends = ends; limits = limits; aborts = aborts; blocked = blocked; told = told; none = none }

-- What no packet holds, which packets aren't made, and what a loss doesn't leave.

-- the first byte that was written is due
first_due : (l : SendLane) → wrote ≡ l → IsDue writer 0 l 0
first_due l is = subst (λ k. IsDue writer 0 k 0) is (record {
  no_reset = refl;
  written = omega arith;
  not_acked = set.contains-empty nat_cmp 0;
  not_sent = λ (c, carried, low, high). carried-empty _ carried;
})

-- Pieces of the packet in the making

found_there : (o : Option (List Piece)) (ps : List Piece) (p : Piece) → o ≡ Some ps → Among p ps → Among p (elim o [ None ↦ [] | Some qs ↦ qs ])
found_there o ps p is a = grind arith

first_noted : (o : Option (List Piece)) (p : Piece) → o ≡ None → (elim o as (λ _. List Piece) [ None ↦ [] | Some qs ↦ qs ]) ++ p ∷ [] ≡ p ∷ []
first_noted o p is = grind arith

-- nothing was outstanding, so the first piece stands alone in its packet
alone : (p : Piece) → fmap.insert fmap.empty 0 ((elim (fmap.get {X = List Piece} {R = nat_cmp} fmap.empty 0) as (λ _. List Piece) [ None ↦ [] | Some qs ↦ qs ]) ++ p ∷ []) ≡ fmap.insert {R = nat_cmp} fmap.empty 0 (p ∷ [])
alone p = ap (λ ps. fmap.insert fmap.empty 0 ps) (first_noted (fmap.get {R = nat_cmp} fmap.empty 0) p (fmap.get-empty nat_cmp 0))

got : (ps : List Piece) → fmap.get (fmap.insert {R = nat_cmp} fmap.empty 0 ps) 0 ≡ Some ps
got ps = fmap.get-insert nat_cmp_total fmap.empty 0 ps 0

stream : NoSuchStreamFrame
unfolding lookup update frame_put
stream =
    record {
      unopened = λ (l, may). none-some l may.lane;
      nothing = λ (l, may). elim may.something [ inl some ↦ omega arith | inr end ↦ false≢true end ];
      undue = λ (l, may). both_ways _ (may.due 1 (omega arith) (omega arith)).not_acked (ap (λ (k : SendLane). set.contains k.acked 1) (sym (same_Some _ l may.lane)) ∙ contains-numbers 1 2 1);
      not_lowest = λ (l, may). (let le : 1 ≤ 0 = may.lowest 0 (first_due l (same_Some _ l may.lane)) in omega arith);
      in_two = λ (l, may). may.whole_run (chunk 0 1 false) (found_there _ _ (Data 0 (chunk 0 1 false)) (got _) (among_last _ (Data 0 (chunk 0 1 false)))) refl;
      other_bytes = λ (l, may). (let e : 100 ≡ 99 = ap (λ bs. slice_index_or bs 2 0) (may.bytes_are ∙ ap (λ (k : SendLane). take 3 (drop (0 - unacked_from k) k.kept)) (sym (same_Some _ l may.lane)) ∙ ap (λ n. take 3 (drop (0 - n) abc)) (missing_from-past set.empty 0 (omega (arith, end_of-empty)))) in omega arith);
      past_limit = λ (l, may). (let le : 3 ≤ 2 = subst (λ (k : SendLane). 3 ≤ k.limit) (sym (same_Some _ l may.lane)) may.within in omega arith);
      unasked_end = λ (l, may). false≢true (ap (λ (k : SendLane). k.finished) (same_Some _ l may.lane) ∙ (may.end refl).0.finished);
      early_end = λ (l, may). (let e : 1 ≡ 3 = subst (λ (k : SendLane). 1 ≡ k.written) (sym (same_Some _ l may.lane)) (may.end refl).1 in omega arith);
    }

kept_1 : set.contains owing.done 1 ≡ true
kept_1 = set.contains-insert nat_cmp_total (set.insert set.empty 1) 3 1 ∙ set.contains-insert nat_cmp_total set.empty 1 1

kept_3 : set.contains owing.done 3 ≡ true
kept_3 = set.contains-insert nat_cmp_total (set.insert set.empty 1) 3 3

acks : NoSuchAck
unfolding frame_put
acks =
    record {
      undue = λ may. false≢true may.due;
      unkept = λ may. both_ways _ (set.contains-insert nat_cmp_total (set.insert set.empty 1) 3 0 ∙ set.contains-insert nat_cmp_total set.empty 1 0 ∙ set.contains-empty nat_cmp 0) (may.kept 0 refl);
      without_largest = λ may. false≢true may.names_largest;
      largest_left_out = λ may. (let le : 3 ≤ 1 = may.largest_kept 3 kept_3 in omega arith);
      higher_left_out = λ may. false≢true (may.highest 1 3 refl (omega arith) (set.contains-insert nat_cmp_total owing.done 5 3 ∙ kept_3));
      twice = λ may. false≢true may.due;
    }

others : NoSuchFrame
unfolding lookup update total frame_put
others =
    record {
      undue = λ may. (let lt : 4096 < 4096 = may.0.0.1 in omega arith);
      twice = λ may. may.1.1 (inl (0, _, got _, among_last _ (Told (MaxData 5000))));
      since = λ may. (let e : 0 ≡ 2 = may.0.0.1 in omega arith);
      close = λ may. may;
      plain = λ may. may;
    }

left_is : (f : Seen) (old left : End) → Lawful old (f ∷ []) left → left ≡ record (frame_put f old) { next = old.next + 1 }
left_is f old left h = (let (mid, fills, after) = h.filled in after ∙ ap (λ (m : End). record m { next = old.next + 1 }) fills.1)

packets : NoSuchPacket
unfolding lookup update total frame_put
packets =
    record {
      empty = λ left h. h.some refl;
      past_limit = λ left h. (let le : 3 ≤ 2 = subst (λ (e : End). all_sent e ≤ e.known_data) (left_is _ _ left h) h.within in omega arith);
      same_number = λ left h zero. (let e : 1 ≡ 0 = ap (λ (e : End). e.next) (sym (left_is _ _ left h)) ∙ zero in omega arith);
      forgotten = λ left h no. no (subst (λ (e : End). IsCarried e.outstanding (Data 0 (chunk 0 3 false))) (sym (left_is _ _ left h)) (0, _, got _, among_last _ (Data 0 (chunk 0 3 false))));
      ack_still_due = λ left h due. false≢true (ap (λ (e : End). e.ack_due) (sym (left_is _ _ left h)) ∙ due);
    }

abbrev is_data : Piece → Bool
is_data (Data n c) = true
is_data (Told i) = false

abbrev is_stream : Seen → Bool
is_stream (Stream n offset bytes fin) = true
is_stream f = false

still_due : IsDue (frame_put (Control (MaxData 5000)) two_due) 0 wrote 0
unfolding lookup update frame_put
still_due =
    record {
      no_reset = refl;
      written = omega arith;
      not_acked = set.contains-empty nat_cmp 0;
      not_sent = λ (c, is, low, high). true≢false (ap is_data (only_carried 0 (Told (MaxData 5000)) (Data 0 c) (subst (λ m. IsCarried m (Data 0 c)) (alone (Told (MaxData 5000))) is)));
    }

pub no_control : Among (Control (MaxData 5000)) (Stream 0 0 abc false ∷ []) → ⊥
no_control a = elim a [ inl is ↦ false≢true (ap is_stream is) | inr none ↦ none ]

no_ack_in : (largest : ℕ) (ranges : List (ℕ × ℕ)) → Among (Ack largest ranges) (Stream 0 0 abc false ∷ []) → ⊥
no_ack_in largest ranges a = elim a [ inl is ↦ false≢true (ap is_stream is) | inr none ↦ none ]

too_few : (largest : ℕ) (ranges : List (ℕ × ℕ)) → Among (Ack largest ranges) (Ack 3 ((3, 3) ∷ []) ∷ Stream 0 0 abc false ∷ []) → is_named ranges 1 ≡ true → ⊥
too_few largest ranges a named = grind arith

left_out : NothingIsLeftOut
unfolding lookup update total frame_put
left_out =
    record {
      bytes = λ whole. (whole (omega arith)).no_stream 0 (_, refl, inl (0, still_due, omega arith, inr (refl, omega arith)));
      item = λ left whole. no_control ((whole (omega arith)).items (MaxData 5000) ((refl, omega arith), λ covered. elim covered [ inl flies ↦ carried-empty _ flies | inr acked ↦ none-some 5000 acked ]));
      no_ack = λ left whole. (let (largest, ranges, among, names) = (whole (omega arith)).ack refl in no_ack_in largest ranges among);
      number = λ left whole. (let (largest, ranges, among, names) = (whole (omega arith)).ack refl in too_few largest ranges among (names 1 kept_1));
      ack_after = λ whole. true≢false (whole (omega arith)).no_ack;
    }

-- each of the two streams has a byte that goes
both_go : (n : ℕ) (l : SendLane) → l.was_reset ≡ None → l.written ≡ 3 → l.acked ≡ set.empty → l.limit ≡ 1024 → l.sent_end ≡ 0 → send_lane two_writers n ≡ Some l → StreamGoes two_writers n
unfolding total
both_go n l reset written acked limit sent there = (
  l,
  there,
  inl (
    0,
    record {
      no_reset = reset;
      written = omega (arith, written);
      not_acked = ap (λ s. set.contains s 0) acked ∙ set.contains-empty nat_cmp 0;
      not_sent = λ (c, carried, low, high). carried-empty _ carried;
    },
    omega (arith, limit),
    inr (sym sent, (omega arith)),
  ),
)

turns : NothingIsOutOfTurn
unfolding lookup
turns =
    record {
      higher_first = λ (here, rest). here 0 (inr (omega arith, inl (omega arith))) (both_go 0 wrote refl refl refl refl refl refl);
      first_ignored = λ (here, rest). here 4 (inl (omega arith, omega arith)) (both_go 4 (record wrote { id = 4 }) refl refl refl refl refl refl);
    }

texts : NoSuchText
unfolding canonical short
texts = grind arith

abbrev is_ok : {A F : Type 0} → Result A F → Bool
is_ok (Ok a) = true
is_ok (Err f) = false

pub ok_is_no_err : {A F : Type 0} (a : A) (f : F) → ◌≡◌ {A = Result A F} (Ok a) (Err f) → ⊥
ok_is_no_err a f is = true≢false (ap is_ok is)

-- one run more takes 16 bytes at most
next_fits : (gap len : ℕ) → Fits (ack 3 0 (0 ∷ gap ∷ len ∷ []) None) → length (canonical (ack 3 0 (0 ∷ gap ∷ len ∷ []) None)) ≤ 21
unfolding canonical
next_fits gap len fits = grind (arith, nat_tests, short_byte, short_most, length-append)

largest_alone : NamesMost owing 0 29 (ack 3 0 (0 ∷ []) None) → ⊥
largest_alone h = grind (arith, nat_tests, false≢true, kept_1, next_fits)

-- a server without a stream has nothing to tell
pub no_item : (i : Item) → IsCurrent (server standard) i → ⊥
unfolding total
no_item i h = grind (arith, nat_tests, none-some, nowhere, whole)

pub none_due : Sendable (server standard) → ⊥
none_due h = grind (arith, nat_tests, false≢true, no_item, none-some, nowhere)

-- a packet that has a frame asks for an ACK, where none is due
asks_first : (old : End) (f : Seen) → old.ack_due ≡ false → MayPut old old f → asks_ack f ≡ true
asks_first old f none may = grind arith

asks_some : (old mid : End) (fs : List Seen) → old.ack_due ≡ false → fs ≢ [] → Fills old old fs mid → any_asks fs ≡ true
asks_some old mid [] none some fills = absurd (some refl)
asks_some old mid (f ∷ fs) none some (may, rest) = ap (λ b. b || any_asks fs) (asks_first old f none may)

answers : NoSuchAnswer
answers = grind (arith, nat_tests, false≢true, asks_some, largest_alone, ok_is_no_err, none_due)

-- what a packet of an ACK alone leaves
alone_is : (made : Made) (text : List ℕ) (new : End) → IsAckMade owing 0 1200 made text new → new ≡ settle (record owing { ack_due = false; next = 1 })
unfolding frame_put
alone_is made text new m = m.after ∙ ap settle (left_is (Ack m.largest m.ranges) owing m.mid m.lawful)

acked_alone : NoSuchAckAlone
unfolding total
acked_alone =
    record {
      undue = λ made text new m. (let (mid, fills, after) = m.lawful.filled in false≢true fills.0.due);
      left_out = λ text new step. true≢false step.0;
      asks = λ text new m. true≢false m.asks;
      number = λ text new m. (let e : 1 ≡ 0 = m.number in omega arith);
      bytes = λ made text new m three. (let e : 0 ≡ 3 = ap all_sent (sym (alone_is made text new m)) ∙ three in omega arith);
      recorded = λ made text new m carried. carried-empty _ (subst (λ (e : End). IsCarried e.outstanding (Data 0 (chunk 0 3 false))) (alone_is made text new m) carried);
      still_due = λ made text new m due. false≢true (ap (λ (e : End). e.ack_due) (sym (alone_is made text new m)) ∙ due);
      same_number = λ made text new m zero. (let e : 1 ≡ 0 = ap (λ (e : End). e.next) (sym (alone_is made text new m)) ∙ zero in omega arith);
      largest_alone = λ made text new m frame. largest_alone (subst (NamesMost owing 0 29) frame m.most);
      closed = λ made text new step. ok_is_no_err _ _ step.0;
      exhausted = λ made text new step. ok_is_no_err _ _ step.0;
      nothing_used = λ step. (let e : 1 ≡ 0 = ap (λ (e : End). e.next) step.2 in omega arith);
      memory = λ text new step. step;
    }

abbrev number_in : Result ℕ MakeFault → ℕ
number_in (Ok number) = number
number_in (Err fault) = 0

claims : NoSuchClaim
unfolding verdict
claims =
    record {
      number = λ new step. (let e : 3 ≡ 4 = ap number_in step.0 in omega arith);
      again = λ number new step same. (let e : 5 ≡ 4 = ap (λ (e : End). e.next) (sym step.1) ∙ same in omega arith);
      unknown = λ number new step closes. none-some _ (ap (λ (e : End). verdict e (Ack 4 ((4, 4) ∷ []))) (sym step.1) ∙ closes);
      recorded = λ number new step carried. carried-empty _ (subst (λ (e : End). IsCarried e.outstanding (Told (MaxData 5000))) step.1 carried);
      exhausted = λ number new step. ok_is_no_err _ _ step.0;
      last_number = λ new step. ok_is_no_err _ _ (sym step.0);
      closed = λ new step. ok_is_no_err _ _ (sym step.0);
      memory = λ new step. ok_is_no_err _ _ (sym step.0);
    }

-- Losses

abbrev told_then_data : List Piece
told_then_data = Told (MaxData 5000) ∷ Data 0 (chunk 0 3 false) ∷ []

abbrev data_left : List Piece
data_left = Data 0 (chunk 0 3 false) ∷ []

-- what a loss leaves of packet 0
abbrev Loses : List Piece → End → Result (Unit {0}) LostFault → End → Type 0
Loses ps old answer new =
    ((answer ≡ Ok tt) × (new ≡ losses 0 ps old))
    ⊎ ((moved : ℕ) × (moved < length ps) × (answer ≡ Err losing.NoMemory) × (new ≡ losses 0 (take moved ps) old))

-- a packet that is outstanding is lost, at an end that is open
lost_of : (old : End) (ps : List Piece) (answer : Result (Unit {0}) LostFault) (new : End) → old.closed ≡ None → fmap.get old.outstanding 0 ≡ Some ps → LoseStep old 0 answer new → Loses ps old answer new
lost_of old ps answer new fine is step = grind arith

none_left : (ps qs : List Piece) (k : ℕ) → fmap.get (fmap.remove (fmap.insert (fmap.insert {R = nat_cmp} fmap.empty 0 ps) 0 qs) 0) k ≡ None
none_left ps qs k = fmap.get-remove nat_cmp_total _ 0 k ∙ by_test (eq_by_cmp nat_cmp k 0) refl
  where
    by_test : (b : Bool) → eq_by_cmp nat_cmp k 0 ≡ b → cond b None (fmap.get (fmap.insert (fmap.insert {R = nat_cmp} fmap.empty 0 ps) 0 qs) k) ≡ None
    by_test true is = refl
    by_test false is =
        fmap.get-insert nat_cmp_total _ 0 qs k ∙ ap (λ b. cond b (Some qs) (fmap.get (fmap.insert {R = nat_cmp} fmap.empty 0 ps) k)) is
        ∙ fmap.get-insert nat_cmp_total fmap.empty 0 ps k ∙ ap (λ b. cond b (Some ps) (fmap.get {R = nat_cmp} fmap.empty k)) is
        ∙ fmap.get-empty nat_cmp k

abbrev flying_of_packets : PacketPieces
flying_of_packets = fmap.insert fmap.empty 0 told_then_data

once_shorter : without_first flying_of_packets 0 (fmap.get flying_of_packets 0) ≡ fmap.insert flying_of_packets 0 data_left
once_shorter = ap (without_first flying_of_packets 0) (got told_then_data)

once_got : fmap.get (fmap.insert flying_of_packets 0 data_left) 0 ≡ Some data_left
once_got = fmap.get-insert nat_cmp_total flying_of_packets 0 data_left 0

both_lost : (losses 0 told_then_data two_flying).outstanding ≡ fmap.remove (fmap.insert flying_of_packets 0 data_left) 0
unfolding losses
both_lost = ap (λ m. without_first m 0 (fmap.get m 0)) once_shorter ∙ ap (without_first (fmap.insert flying_of_packets 0 data_left) 0) once_got

first_is_lost : (losses 0 (take 1 told_then_data) two_flying).outstanding ≡ fmap.insert flying_of_packets 0 data_left
unfolding losses
first_is_lost = once_shorter

piece_kept : (losses 0 data_left one_flying).lost.pieces ≡ fmap.insert fmap.empty 0 data_left
unfolding losses
piece_kept = ap (λ (o : Option (List Piece)). without_oldest (with_piece fmap.empty 0 (Data 0 (chunk 0 3 false)) o) (with_number [] 0 (is_some o))) (fmap.get-empty nat_cmp 0)

some_stays : (moved : ℕ) → moved < 2 → fmap.get (losses 0 (take moved told_then_data) two_flying).outstanding 0 ≡ None → ⊥
unfolding losses
some_stays moved lt none = grind (arith, nat_tests, none-some, got, first_is_lost, once_got)

no_effect : (new : End) → LoseStep writer 0 (Ok tt) new → ⊥
no_effect new step = grind (arith, nat_tests, ok_is_no_err, none_in)

abbrev is_memory : Result (Unit {0}) LostFault → Bool
is_memory (Err losing.NoMemory) = true
is_memory answer = false

lost : NoSuchLoss
lost = grind (arith, nat_tests, no_effect, ok_is_no_err, lost_of, got, none, false≢true, none-some, none_left, both_lost, piece_kept, whole, some_stays)

pub not_made : NotMade
not_made = record { stream = stream; acks = acks; others = others; packets = packets; left_out = left_out; turns = turns; texts = texts; answers = answers; alone = acked_alone; claims = claims; losses = lost }

-- What isn't filled in.

-- what is filled in is asked for
wanted_are : (old : End) (want : Fill) (filled : Filled) (text : List ℕ) (new : End) (is : IsFilled old want 1200 filled text new) (frames : List Seen) → seen_all is.made.frames ≡ frames → AllByRecursion (IsWanted want) frames
wanted_are old want filled text new is frames same = subst (AllByRecursion (IsWanted want)) same is.wanted

-- what is asked for once the cap is used up was asked for before
still_fewer : (want : Fill) (left : ℕ) (e : End) → WantedGoes (still_asked want left) e → WantedGoes want e
still_fewer want left e h = grind arith

-- items are asked for still
still_items : (left : ℕ) (e : End) → WantedGoes items_alone e → WantedGoes (still_asked everything left) e
still_items left e goes = grind arith

-- and no stream where the cap is none
still_none : (left : ℕ) (e : End) → left ≡ 0 → WantedGoes (still_asked (record no_bytes { items = false }) left) e → ⊥
still_none left e is h = grind arith

frames : NoSuchFrames
frames = grind (arith, nat_tests, wanted_are, false≢true, true≢false, turns)

-- the first byte of the writer goes
byte_goes : StreamGoes writer 0
unfolding lookup total
byte_goes = (
  _,
  refl,
  inl (
    0,
    record { no_reset = refl; written = omega arith; not_acked = set.contains-empty nat_cmp 0; not_sent = λ (c, carried, low, high). carried-empty _ carried },
    omega arith,
    inr (refl, omega arith),
  ),
)

left_out_of_fills : NothingWantedIsLeftOut
left_out_of_fills =
    record {
      item = λ left has. no_control (has.items refl (MaxData 5000) ((refl, omega arith), λ covered. elim covered [ inl flies ↦ carried-empty _ flies | inr acked ↦ none-some 5000 acked ]));
      bytes = λ has. has.streams 0 (refl, inl refl) (inl (omega arith, byte_goes));
      below_cap = λ has. has.streams 0 (refl, inl refl) (inl (omega arith, byte_goes));
      alone = λ has. has.streams 0 (refl, inr refl) (inl (omega arith, byte_goes));
    }

answers_of_fills : NoSuchFill
answers_of_fills =
    record {
      token = λ filled text new is one. (let e : 1 ≡ 0 = sym one ∙ is.made.number in omega arith);
      epoch = λ filled text new is one. (let e : 1 ≡ 0 = sym one ∙ ap (λ (t : Token). t.epoch) is.token in omega arith);
      again = λ filled text new is zero. (let e : 1 ≡ 0 = sym ((let (last, fills, mid) = is.made.lawful.filled in ap (λ (e : End). e.next) is.made.after ∙ ap (λ (e : End). (settle e).next) mid)) ∙ zero in omega arith);
      len = λ last new is. (let e : 2 ≡ 1 = is.made.len in omega arith);
      no_room = λ filled new is. (let le : 1 ≤ 0 = is.fits in omega arith);
      no_last = λ filled text new is frames none. none-some 0 (sym none ∙ is.last_stream ∙ ap (last_stream_of None) frames);
      no_more = λ filled text new is goes none. true≢false (sym (is.more.1 (still_items _ new goes)) ∙ none);
      more = λ filled text new is none goes. none (still_fewer everything _ new (is.more.0 goes));
      cap_is_more = λ filled text new is goes. still_none _ new (omega arith) (is.more.0 goes);
      nothing = λ text new step. (step.0 (omega arith)).streams 0 (refl, inl refl) (inl (omega arith, byte_goes));
      closed = λ filled text new step. ok_is_no_err _ _ step.0;
      exhausted = λ filled text new step. ok_is_no_err _ _ step.0;
      last_number = λ new step. step;
      not_closed = λ new step. step;
      nothing_used = λ step. (let e : 1 ≡ 0 = ap (λ (e : End). e.next) step.2 in omega arith);
      memory_used = λ step. (let e : 1 ≡ 0 = ap (λ (e : End). e.next) step.2 in omega arith);
      nothing_due = λ text new step. elim step.0 [ inl (on, (i, due)) ↦ no_item i due.0 | inr (n, asked, goes) ↦ none_due (inr (inr (n, goes))) ];
      unasked = λ text new step. elim step.0 [ inl (on, (i, due)) ↦ no_item i due.0 | inr (n, asked, goes) ↦ false≢true asked.0 ];
    }

pub not_filled : NotFilled
not_filled = record { frames = frames; left_out = left_out_of_fills; answers = answers_of_fills }

-- Which packets leave out what comes first.

in_order : (old : End) (pieces : List Piece) (made : Made) (new : End) → NothingStarves old (Ok (Some made)) new → pieces_so_far new made.number ≡ pieces → AreInOrder old [] pieces
in_order old pieces made new h is = subst (AreInOrder old []) is h.1

limit_due : IsDueItem two_due (MaxData 5000)
limit_due = ((refl, omega arith), λ covered. elim covered [ inl flies ↦ carried-empty _ flies | inr acked ↦ none-some 5000 acked ])

reset_due : IsDueItem two_resets (ResetStream 0 7 0)
unfolding lookup
reset_due = (
  (_, refl, refl),
  λ covered. elim covered [ inl flies ↦ carried-empty _ flies | inr (l, at, is) ↦ false≢true (ap (λ (k : SendLane). k.reset_acked) (same_Some _ l at) ∙ is) ],
)

stop_due : IsDueItem stopping (StopSending 0 7)
unfolding lookup
stop_due = ((_, refl, refl, refl, refl), λ covered. elim covered [ inl flies ↦ carried-empty _ flies | inr acked ↦ no_member 0 acked ])

pub starved : NothingIsStarved
starved =
    record {
      ack = λ made new h due. false≢true (sym h.0 ∙ due);
      limit = λ made new h is. (in_order two_due _ made new h is).0 (MaxData 5000) limit_due;
      limit_behind = λ made new h is. (in_order two_due _ made new h is).0 (MaxData 5000) limit_due;
      reset = λ made new h is. (in_order two_resets _ made new h is).0 (ResetStream 0 7 0) reset_due;
      stop = λ made new h is. (in_order stopping _ made new h is).0 (StopSending 0 7) stop_due;
      kinds = λ made new h is. (in_order (record stopping { granted = 5000 }) _ made new h is).0 (MaxData 5000) (((refl, omega arith), λ covered. elim covered [ inl flies ↦ carried-empty _ flies | inr acked ↦ none-some 5000 acked ])) (inl (omega arith));
      streams = λ made new h is. (in_order two_resets _ made new h is).0 (ResetStream 0 7 0) reset_due (inr (refl, omega arith));
      directions = λ made new h is. (in_order two_counts _ made new h is).0 (MaxStreams Bidi 9) (((refl, omega arith), λ covered. elim covered [ inl flies ↦ carried-empty _ flies | inr acked ↦ none-some 9 acked ])) (inr (refl, omega arith));
    }
