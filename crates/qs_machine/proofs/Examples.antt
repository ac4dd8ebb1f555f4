-- The examples compute.
use Rattle.std.proofs.lemmas.Bool.Decides.{nat_tests}
use Rattle.std.proofs.Common.{◌≡◌, ℕ, zero, suc, ◌<◌, List, [], ◌∷◌, ◌++◌, length, map, Option, Some, None, refl, sym, ap, ◌∙◌, arith, inl, inr}
use Rattle.std.specs.FinSet as set
use Rattle.std.specs.FinMap as fmap
use Rattle.std.specs.Ordering.{nat_cmp}
use Rattle.std.specs.Prelude.{Err, max, cond, not, Bool, true, false, ◌&&◌, ◌||◌, ◌==◌, is_some, slice_get, flat_map}
use Rattle.std.proofs.lemmas.Option.{same_Some, none-some}
use Rattle.qs_recv.specs.Assembled.{front, same, store}
use Rattle.qs_recv.specs.Bytes.{byte_at}
use Rattle.qs_recv.proofs.RingLaws.{contains-with_run, get-keep_from, get-store, is_in_run, same_none, same_true}
use Rattle.qs_send.specs.Lane.{SendLane, new_lane, write_lane, sent_lane, stopped_lane, asked_lane, unacked_from, state}
use Rattle.qs_send.specs.declared.parts.SendFault.TheVariants.{Finished}
use Rattle.qs_ranges.specs.Numbers.{numbers, end_of}
use Rattle.qs_ranges.proofs.Sets.{end_of-empty, end_of-with_range}
use Rattle.qs_machine.specs.Tables.{lookup, update, open_to, each, total}
use Rattle.qs_machine.specs.Verdicts.{verdict}
use Rattle.qs_machine.specs.Acked.{or_zero}
use Rattle.qs_machine.specs.FrameStep.{frame_taken, AckedPiece, acked_at, is_named, pieces_of, named_in, named}
use Rattle.qs_machine.specs.Examples.{RangesHold, StreamLimitHolds, ConnectionLimitHolds, FinalSizeHolds, ChangedBytesClose, StreamStateHolds, UnusedNumbersClose, LimitsMove, LowerStreamsOpen, StopResets, StopIsAnswered, BlockedIsTold, LimitsRiseAfterwards, NewLimitIsTold, StreamCountsGrow, EmptyStreamIsSent, AcksTakeWhatTheyName, Examples, letters, first_part, second_part, two_sent, three_frames, three_frames_text, third_offends, told_end, server, standard}
use Rattle.qs_machine.specs.Ends.{End}
use Rattle.qs_machine.specs.Seen.{Stream}
use Rattle.qs_machine.specs.Receiving.{Takes, TakesPayload}
use Rattle.qs_wire.specs.Varint.{varint_at, short_len}
use Rattle.qs_wire.specs.Reading.{reading_of, reading_from, frames_at, frame_at, number_of_type_at, body_at, number_at, counted_at, plain_at}
use Rattle.qs_send.specs.Records.{Among}
use Rattle.qs_machine.specs.Lawful.{frame_put}
use Rattle.qs_machine.proofs.Named.{filter_nothing}
use Rattle.qs_machine.proofs.EveryCall.{not_chosen}
use Rattle.qs_machine.proofs.SmallEndsLaws.{none_in}
use Rattle.qs_send.specs.declared.parts.SendState.TheVariants.{DataRecvd, DataSent}
use Rattle.qs_send.specs.declared.piece.Piece.{Piece}
use Rattle.qs_send.specs.declared.piece.Piece.TheVariants.{Data}
use Rattle.std.specs.Cmp.{nat_cmp_total}
use Rattle.std.proofs.lemmas.Bool.{and_right, both_ways, false≢true}
use Rattle.std.proofs.Math.Bool.{and-true}

-- what came on a stream that begins ends there
came_to : (n : ℕ) → 0 < n → end_of (set.union set.empty (numbers 0 n)) ≡ n
came_to n some = end_of-with_range set.empty 0 n some ∙ ap (λ k. max k n) end_of-empty ∙ omega arith

-- bytes that came first on a stream

abbrev nothing : fmap.FinMap nat_cmp ℕ
nothing = fmap.empty

pub none_differs : (at : ℕ) (bytes : List ℕ) → same nothing at bytes ≡ true
none_differs at bytes = same_none nothing at bytes (λ q low high. fmap.get-empty nat_cmp q)

came_first : (first : List ℕ) (q byte : ℕ) → fmap.get (store set.empty nothing 0 first) q ≡ Some byte → byte_at 0 first q ≡ Some byte
came_first first q byte is = by_test _ (sym (get-store set.empty nothing 0 first q) ∙ is)
  where
    by_test : (b : Bool) → cond b (byte_at 0 first q) (fmap.get nothing q) ≡ Some byte → byte_at 0 first q ≡ Some byte
    by_test true is' = is'
    by_test false is' = absurd (none-some byte (sym (fmap.get-empty nat_cmp q) ∙ is'))

a_letter : (n i byte : ℕ) → slice_get (letters n) i ≡ Some byte → byte ≡ 97
a_letter zero i byte is = absurd (none-some byte is)
a_letter (suc n) zero byte is = sym (same_Some 97 byte is)
a_letter (suc n) (suc i) byte is = a_letter n i byte is

letter_at : (n q byte : ℕ) → byte_at 0 (letters n) q ≡ Some byte → byte ≡ 97
letter_at n q byte is = grind (arith, nat_tests, a_letter, none-some)

letters_same : (n k : ℕ) → same (store set.empty nothing 0 (letters n)) 0 (letters k) ≡ true
letters_same n k = same_true (store set.empty nothing 0 (letters n)) 0 (letters k) (λ q b c e f. letter_at n q b (came_first (letters n) q b e) ∙ sym (letter_at k q c f))

stream_limit : StreamLimitHolds
unfolding verdict lookup total
stream_limit = record { within = rw end_of-empty (rw (none_differs 0 (letters 10)) refl); past = rw end_of-empty refl; empty_past = rw end_of-empty refl }

stream_state : StreamStateHolds
unfolding verdict lookup total
stream_state = grind (arith, nat_tests, end_of-empty, none_differs)

unused_numbers : UnusedNumbersClose
unfolding verdict
unused_numbers = record { used = refl; unused = refl }

limits : LimitsMove
limits = grind arith

lower_streams : LowerStreamsOpen
unfolding frame_taken lookup update open_to
lower_streams = refl

six : end_of (set.union set.empty (numbers 0 6)) ≡ 6
six = came_to 6 (omega arith)

connection_limit : ConnectionLimitHolds
unfolding verdict frame_taken lookup update open_to total
connection_limit =
    record {
      within = rw end_of-empty (rw six (rw (none_differs 0 (letters 4)) refl));
      past = rw end_of-empty (rw six refl);
      again = rw six (rw six (rw (letters_same 6 10) refl));
      reset = rw end_of-empty (rw six refl);
    }

pub five : end_of (set.union set.empty (numbers 0 5)) ≡ 5
five = came_to 5 (omega arith)

one : end_of (set.union set.empty (numbers 0 1)) ≡ 1
one = came_to 1 (omega arith)

five_again : verdict told_end (Stream 0 0 (letters 5) true) ≡ None
unfolding verdict frame_taken lookup update open_to total
five_again = rw (letters_same 5 5) refl

three : end_of (set.union set.empty (numbers 0 3)) ≡ 3
three = came_to 3 (omega arith)

abbrev abc : List ℕ
abc = 97 ∷ 98 ∷ 99 ∷ []

stored_at : (q : ℕ) → fmap.get (store set.empty nothing 0 abc) q ≡ cond (is_in_run q 0 3) (byte_at 0 abc q) None
stored_at q =
    get-store set.empty nothing 0 abc q
    ∙ ap (λ b. cond (is_in_run q 0 3 && not b) (byte_at 0 abc q) (fmap.get nothing q)) (set.contains-empty nat_cmp q)
    ∙ (λ i. cond (is_in_run q 0 3 && true) (byte_at 0 abc q) (fmap.get-empty nat_cmp q i))
    ∙ ap (λ b. cond b (byte_at 0 abc q) None) (and-true (is_in_run q 0 3))

first_came : set.contains (set.union set.empty (numbers 0 3)) 0 ≡ true
first_came = contains-with_run set.empty 0 3 0 ∙ ap (λ b. b || is_in_run 0 0 3) (set.contains-empty nat_cmp 0)

changed_bytes : ChangedBytesClose
unfolding verdict frame_taken lookup update open_to total same front
changed_bytes = grind (arith, nat_tests, three, stored_at, first_came, get-keep_from)

final_size : FinalSizeHolds
unfolding verdict frame_taken lookup update open_to total same
final_size = grind (arith, nat_tests, five_again, five)

not_whole : (b : Bool) (l m : SendLane) → cond (is_some (cond (b && false) (Some Finished) None)) l m ≡ m
not_whole b l m = grind arith

-- the half of a client that wrote three bytes and sent them
sent_three : SendLane
sent_three = sent_lane (write_lane (new_lane 0 1024 2048) (letters 3)) (record { offset = 0; len = 3; fin = false })

was_reset : stopped_lane sent_three 7 ≡ record sent_three { kept = []; was_reset = Some (record { code = 7; size = 3 }); stopped = Some 7 }
unfolding sent_three
was_reset = not_whole (unacked_from sent_three == 3) sent_three (record sent_three { kept = []; was_reset = Some (record { code = 7; size = 3 }); stopped = Some 7 })

was_told : asked_lane sent_three 7 ≡ record sent_three { stopped = Some 7 }
unfolding sent_three
was_told = not_whole (unacked_from sent_three == 3) sent_three (record sent_three { stopped = Some 7 })

stop : StopResets
unfolding frame_taken lookup update open_to sent_three
stop =
    record {
      tells = (stopped_lane sent_three 7, refl, ap (λ (l : SendLane). l.was_reset) was_reset);
      state_is = (stopped_lane sent_three 7, refl, ap state was_reset);
    }

stop_answered : StopIsAnswered
unfolding frame_taken lookup update open_to sent_three
stop_answered = record { goes_on = (asked_lane sent_three 7, refl, ap (λ (l : SendLane). l.was_reset) was_told, ap (λ (l : SendLane). l.stopped) was_told) }

blocked_stream : BlockedIsTold
unfolding frame_taken lookup update open_to
blocked_stream =
    record {
      tells = (_, refl, refl, refl, omega arith, refl);
      raised = λ (l, is, none, limit, less, end).
          let same : 10 ≡ 15 = limit ∙ ap (λ (m : SendLane). m.limit) (sym (same_Some _ l is)) in
          omega arith;
    }

four : end_of (set.union set.empty (numbers 0 4)) ≡ 4
four = came_to 4 (omega arith)

read : reading_of three_frames_text ≡ record { left = three_frames; fault = None }
unfolding reading_from frames_at frame_at number_of_type_at body_at number_at counted_at plain_at varint_at short_len
read = refl

narrowest : End
narrowest = server (record standard { conn_window = 4 })

by_bytes : (left : End) → Takes 0 None false narrowest three_frames (Err third_offends) left → TakesPayload 0 three_frames_text narrowest (Err third_offends) left
by_bytes left takes = rw read takes

afterwards : LimitsRiseAfterwards
unfolding narrowest verdict frame_taken lookup update open_to each total
afterwards =
    record {
      left = _;
      reads = read;
      closes = by_bytes _ (inr (rw end_of-empty (rw (none_differs 0 (letters 4)) refl), inr (rw four (rw four refl), inl (rw end_of-empty refl, refl, refl))));
      granted = refl;
    }

new_limit : NewLimitIsTold
unfolding frame_taken lookup update open_to each total
new_limit =
    record {
      tells = ((_, refl, refl, omega arith, refl), λ covered. elim covered [ inl flies ↦ none_in flies.0 flies.1 flies.2 | inr acked ↦ none_in 0 15 acked ]);
      once = λ due. due.1 (inr (fmap.get-insert nat_cmp_total fmap.empty 0 _ 0 ∙ ap (λ o. Some (max (or_zero o) 15)) (fmap.get-empty nat_cmp 0)));
    }

counts : StreamCountsGrow
unfolding verdict frame_taken lookup update open_to each total
counts = grind (arith, nat_tests, none_in, none-some, end_of-empty)

nothing_noted : (o : Option (List Piece)) (p : Piece) → o ≡ None → Among p (elim o [ None ↦ [] | Some ps ↦ ps ]) → ⊥
nothing_noted o p none there = grind arith

empty_stream : EmptyStreamIsSent
unfolding frame_put lookup update open_to total
empty_stream =
    record {
      left = _;
      lawful = record {
        some = λ none. (let e : 1 ≡ 0 = ap length none in omega arith);
        filled = (
          _,
          (
            (
              _,
              record {
                lane = refl;
                no_reset = refl;
                something = inr refl;
                due = λ q low high. absurd (omega arith);
                lowest = λ q due. absurd (no_byte q due.written);
                whole_run = λ c there. absurd (nothing_noted (fmap.get fmap.empty 0) (Data 0 c) (fmap.get-empty nat_cmp 0) there);
                bytes_are = refl;
                inside = omega arith;
                within = omega arith;
                end = λ _. (record { no_reset = refl; finished = refl; not_acked = refl; not_sent = λ offset len flies. none_in flies.0 flies.1 flies.2 }, refl, omega arith);
              },
            ),
            refl,
          ),
          refl,
        );
        within = omega arith;
      };
      sent = (_, refl, not_chosen (_ && false) DataRecvd DataSent (and_right _ false refl));
      not_without = λ carries. (let (l, may) = carries in elim may.something [ inl some ↦ omega arith | inr end ↦ false≢true end ]);
    }
  where
    no_byte : (q : ℕ) → q < 0 → ⊥
    no_byte q lt = omega arith

abbrev two_packets : List (ℕ × List Piece)
two_packets = (0, Data 0 first_part ∷ []) ∷ (1, Data 0 second_part ∷ []) ∷ []

listed : fmap.entries (fmap.from_sorted {R = nat_cmp} two_packets) ≡ two_packets
listed = fmap.entries-from_sorted nat_cmp two_packets tt

found : (k : ℕ) → fmap.get (fmap.from_sorted {R = nat_cmp} two_packets) k ≡ fmap.find nat_cmp k two_packets
found k = fmap.get-from_sorted nat_cmp two_packets k tt

pieces_by : (k : ℕ) (o p : Option (List Piece)) → o ≡ p → (elim o [ None ↦ [] | Some ps ↦ map (acked_at false k) ps ]) ≡ (elim p as (λ _. List AckedPiece) [ None ↦ [] | Some ps ↦ map (acked_at false k) ps ])
pieces_by k o p e = ap (λ x. elim x as (λ _. List AckedPiece) [ None ↦ [] | Some ps ↦ map (acked_at false k) ps ]) e

first_pieces : pieces_of false two_sent.outstanding 0 ≡ acked_at false 0 (Data 0 first_part) ∷ []
first_pieces = pieces_by 0 _ (fmap.find nat_cmp 0 two_packets) (found 0)

second_pieces : pieces_of false two_sent.outstanding 1 ≡ acked_at false 1 (Data 0 second_part) ∷ []
second_pieces = pieces_by 1 _ (fmap.find nat_cmp 1 two_packets) (found 1)

-- nothing was lost
none_late : (ranges : List (ℕ × ℕ)) → named_in true fmap.empty ranges ≡ []
none_late ranges = ap (flat_map (pieces_of true fmap.empty)) (filter_nothing fmap.empty (is_named ranges) (λ j there. absurd (both_ways true (sym there ∙ ap is_some (fmap.get-empty nat_cmp j)) refl)))

and_nothing : (ps : List AckedPiece) → ps ++ [] ≡ ps
and_nothing [] = refl
and_nothing (p ∷ ps) = ap (λ qs. p ∷ qs) (and_nothing ps)

with_late : (ranges : List (ℕ × ℕ)) (ps : List AckedPiece) → named_in false two_sent.outstanding ranges ≡ ps → named two_sent ranges ≡ ps
with_late ranges ps is = ap (λ qs. named_in false two_sent.outstanding ranges ++ qs) (none_late ranges) ∙ and_nothing (named_in false two_sent.outstanding ranges) ∙ is

acks : AcksTakeWhatTheyName
acks = grind (arith, nat_tests, one, with_late, listed, second_pieces, first_pieces)

ranges : RangesHold
ranges = grind arith

pub examples_hold : Examples
examples_hold = grind (arith, nat_tests, ranges, stream_limit, connection_limit, final_size, changed_bytes, stream_state, unused_numbers, limits, lower_streams, stop, stop_answered, blocked_stream, afterwards, new_limit, counts, empty_stream, acks)
