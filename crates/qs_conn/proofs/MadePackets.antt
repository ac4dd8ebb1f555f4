-- How many streams of the peer came to their end, as halves change.
use Rattle.std.specs.FinMap as fmap
use Rattle.qs_calls.specs.declared.making.MakeFault.TheVariants as making
use Rattle.qs_conn.specs.declared.due.Kind.TheVariants as kinds
use Rattle.qs_conn.specs.declared.due.Slot.TheVariants as slots
use Rattle.qs_conn.specs.declared.send_marks.Task.TheVariants as tasks
use Rattle.std.proofs.Common.{◌≡◌, ◌≢◌, ℕ, zero, suc, ◌+◌, ◌-◌, ◌*◌, ◌/◌, ◌%◌, ◌<◌, ◌≤◌, ◌==◌, ◌^◌, Bool, true, false, ◌&&◌, ◌||◌, cond, nat_le, List, [], ◌∷◌, length, zip, Option, Some, None, slice_get, option_map, refl, sym, ap, ◌∙◌, arith, inl, inr, ◌++◌, subst, ◌↔◌, is_some, Ok, take, not, max, nat_eq, is_none, ◌⊎◌, IsTrue}
use Rattle.std.specs.List.{filter, AllByRecursion}
use Rattle.std.specs.Option.{IfSome}
use Rattle.std.proofs.lemmas.Bool.{true≢false, and_right, cases_eq}
use Rattle.std.proofs.lemmas.Option.{slice_get_past, same_Some}
use Rattle.std.proofs.lemmas.Bool.Decides.{nat_tests}
use Rattle.qs_wire.specs.declared.stream_id.Role.{Role}
use Rattle.qs_wire.specs.declared.stream_id.Role.TheVariants.{Client, Server}
use Rattle.qs_recv.specs.Lane.{RecvLane, new_lane as new_recv_lane, raise, breaks_known, check_stream}
use Rattle.qs_recv.specs.declared.credit.Share.{Share}
use Rattle.qs_send.specs.Lane.{SendLane, new_lane as new_send_lane}
use Rattle.qs_machine.specs.Tables.{Tables, table, lookup, updated, no_streams, open_to, each}
use Rattle.qs_machine.specs.Ends.{is_uni, role_bit, End, Records, recv_lane, new_end}
use Rattle.qs_machine.specs.Credit.{recv_ended, send_ended, both_ended, settle}
use Rattle.qs_machine.proofs.TableLaws.{lookup_open, lookup_each}
use Rattle.qs_conn.specs.declared.by_dir.ByDir.{ByDir}
use Rattle.qs_conn.specs.Ended.{one_if, recv_over, send_over, over, is_over, recounted, MayRecount, AreAllCounted}
use Rattle.qs_conn.proofs.Untolds.{updated_other, slots_changed, put_pieces, put_next, goes_less, put_old, current_by_base, acked_by_base, base_item, end_put}
use Rattle.std.proofs.lemmas.List.{append-nil, length-take-le}
use Rattle.qs_wire.specs.LastStream.{last_stream_of}
use Rattle.qs_wire.specs.Layout.{FrameValue}
use Rattle.qs_send.specs.declared.parts.Chunk.{Chunk}
use Rattle.qs_send.specs.declared.piece.Piece.{Piece}
use Rattle.qs_send.specs.declared.piece.Piece.TheVariants.{Data}
use Rattle.qs_machine.specs.Seen.{Seen, Stream, seen, seen_all, asks_ack, any_asks, Control}
use Rattle.qs_machine.specs.Lawful.{Fills, frame_put, pieces_so_far}
use Rattle.qs_machine.specs.Outgoing.{with_pending, AreBelow, Outgoing, sent_sum, item_put_out}
use Rattle.qs_machine.proofs.Carried.{get_new}
use Rattle.qs_conn.specs.Filling.{pieces_at, data_or, last_data, InPacket, end_by, PackedBy, IsWished, IsAckLeft, frame_of_item, IsCurrentIn, PutsItem, Begun, Packed, slot_place, slot_past, IsPassed, Stage, all_items, HasSpare, HasOneSpare, slot_at, slot_of}
use Rattle.std.specs.Prelude.{Err, if◌then◌else◌, unwrap_or}
use Rattle.qs_wire.specs.Grammar.{canonical_all, Fits, canonical}
use Rattle.qs_ranges.specs.Numbers.{MAX_VARINT, NumberSet, covers, end_of as end_of_run}
use Rattle.qs_calls.specs.declared.filling.Fill.{Fill}
use Rattle.qs_calls.specs.declared.filling.Filled.{Filled}
use Rattle.qs_calls.specs.declared.token.Token.{Token}
use Rattle.qs_conn.specs.declared.limits.Limits.{Limits}
use Rattle.qs_conn.specs.declared.filling.Wish.{Wish}
use Rattle.qs_machine.specs.Due.{Among, Sendable, StreamGoes, IsCovered, IsDueItem, IsCurrent}
use Rattle.qs_machine.specs.Making.{NamesMost, IsMade, MakeStep, make_refusal}
use Rattle.qs_machine.specs.Alone.{token_of}
use Rattle.qs_machine.specs.Filling.{IsAsked, IsWanted, WantedGoes, HasWanted, GoesWithin, still_asked, IsFilled, FillStep}
use Rattle.qs_machine.specs.InOrder.{AreInOrder, NothingStarves, NoItemStarves}
use Rattle.qs_conn.specs.declared.middle.Core.{Core}
use Rattle.qs_conn.specs.Middle.{end_of, IsCore, IsStill, HasMemory, HoldsAtMost, own_items}
use Rattle.qs_conn.proofs.Stages.{packed_same, packed_none, packed_asks, packed_made, packed_some, passed_slot, goes_next, goes_alone, begun_more, begun_item, begun_too_long}
use Rattle.qs_conn.proofs.Flows.{within_goes, two, ties_of, chunk_goes, Allowed}
use Rattle.qs_send.specs.declared.piece.Item.{Item}
use Rattle.qs_conn.specs.declared.due.Slot.{Slot}
use Rattle.qs_conn.specs.Marks.{AddsIdle, IsBefore, IsDueIn, IsIdle}
use Rattle.qs_conn.proofs.EachItem.{each_item}
use Rattle.qs_ranges.proofs.Sets.{below-end_of, covers-is}
use Rattle.qs_recv.specs.Lawful.{IsLawful}
use Rattle.qs_recv.specs.Changes.{stream_changes}
use Rattle.qs_recv.specs.declared.half.Highest.{Highest}
use Rattle.qs_machine.specs.Changes.{changes}
use Rattle.qs_machine.specs.Verdicts.{or_else, state_fault_in, credit_fault, bytes_fault, lane_of, verdict}
use Rattle.qs_conn.specs.Sending.{Tells, TellsDue, TellsItem, TellsWanted}
use Rattle.qs_send.specs.declared.piece.Item.TheVariants.{MaxData, MaxStreams, DataBlocked, StreamsBlocked}
use Rattle.qs_conn.specs.declared.due.Kind.{Kind}
use Rattle.qs_conn.specs.Tasks.{IsQuietAt}
use Rattle.qs_conn.specs.OwnTold.{Kept}
use Rattle.qs_conn.proofs.Hearing.{no_goes}

-- How many of the first numbers have a flag

abbrev tally : ℕ → (ℕ → Bool) → ℕ
tally zero p = 0
tally (suc n) p = one_if (p 0) + tally n (λ i. p (suc i))

bit_le : (b : Bool) → one_if b ≤ 1
bit_le b = grind (arith, nat_tests)

tally_le : (n : ℕ) (p : ℕ → Bool) → tally n p ≤ n
tally_le zero p = omega arith
tally_le (suc n) p = omega (arith, bit_le (p 0), tally_le n (λ i. p (suc i)))

tally_same : (n : ℕ) (p q : ℕ → Bool) → ((i : ℕ) → p i ≡ q i) → tally n p ≡ tally n q
tally_same n p q same = grind (arith, nat_tests)

tally_none : (n : ℕ) (p : ℕ → Bool) → ((i : ℕ) → p i ≡ false) → tally n p ≡ 0
tally_none zero p none = refl
tally_none (suc n) p none = let here : one_if (p 0) ≡ 0 = ap one_if (none 0) in omega (arith, here, tally_none n (λ i. p (suc i)) (λ i. none (suc i)))

-- further numbers that have none
tally_more : (n far : ℕ) (p : ℕ → Bool) → n ≤ far → ((i : ℕ) → n ≤ i → p i ≡ false) → tally far p ≡ tally n p
tally_more zero far p le none = tally_none far p (λ i. none i (omega arith))
tally_more (suc n) zero p le none = absurd (omega (arith, le))
tally_more (suc n) (suc far) p le none = omega (arith, tally_more n far (λ i. p (suc i)) (omega (arith, le)) (λ i past. none (suc i) (omega (arith, past))))

-- one flag changes
tally_moved : (n i : ℕ) (p q : ℕ → Bool) → i < n → ((j : ℕ) → j ≢ i → q j ≡ p j) → tally n q + one_if (p i) ≡ tally n p + one_if (q i)
tally_moved zero i p q lt same = absurd (omega (arith, lt))
tally_moved (suc n) zero p q lt same = omega (arith, tally_same n (λ j. q (suc j)) (λ j. p (suc j)) (λ j. same (suc j) (λ e. omega (arith, e))))
tally_moved (suc n) (suc i) p q lt same = grind (arith, nat_tests, tally_moved n i (λ j. p (suc j)) (λ j. q (suc j)) (omega (arith, lt)) (λ j ne. same (suc j) (λ e. ne (omega (arith, e)))))

tally_part : (n i : ℕ) (p : ℕ → Bool) → i < n → one_if (p i) ≤ tally n p
tally_part zero i p lt = absurd (omega (arith, lt))
tally_part (suc n) zero p lt = omega arith
tally_part (suc n) (suc i) p lt = omega (arith, tally_part n i (λ j. p (suc j)) (omega (arith, lt)))

-- The counts by tallies

len_cond : {X : Type 0} (b : Bool) (x : X) (xs : List X) → length (cond b (x ∷ xs) xs) ≡ one_if b + length xs
len_cond b x xs = grind (arith, nat_tests)

both_tally : (rs : List RecvLane) (ss : List SendLane) (n : ℕ) → length rs ≤ n → length (filter both_ended (zip rs ss)) ≡ tally n (λ i. recv_over (slice_get rs i) && send_over (slice_get ss i))
both_tally [] ss n le = sym (tally_none n (λ i. recv_over (slice_get [] i) && send_over (slice_get ss i)) (λ i. refl))
both_tally (r ∷ rs) [] n le = sym (tally_none n (λ i. recv_over (slice_get (r ∷ rs) i) && send_over (slice_get [] i)) (λ i. and_right _ _ refl))
both_tally (r ∷ rs) (s ∷ ss) zero le = absurd (omega (arith, le))
both_tally (r ∷ rs) (s ∷ ss) (suc n) le = omega (arith, len_cond (recv_ended r && send_ended s) (r, s) (filter both_ended (zip rs ss)), both_tally rs ss n (omega (arith, le)))

recv_tally : (rs : List RecvLane) (n : ℕ) → length rs ≤ n → length (filter recv_ended rs) ≡ tally n (λ i. recv_over (slice_get rs i) && true)
recv_tally [] n le = sym (tally_none n (λ i. recv_over (slice_get [] i) && true) (λ i. refl))
recv_tally (r ∷ rs) zero le = absurd (omega (arith, le))
recv_tally (r ∷ rs) (suc n) le = grind (arith, nat_tests, recv_tally rs n (omega (arith, le)))

-- no more came to their end than are open
both_le : (rs : List RecvLane) (ss : List SendLane) (n : ℕ) → length rs ≤ n → length (filter both_ended (zip rs ss)) ≤ n
both_le rs ss n le = omega (arith, both_tally rs ss n le, tally_le n (λ i. recv_over (slice_get rs i) && send_over (slice_get ss i)))

recv_le : (rs : List RecvLane) (n : ℕ) → length rs ≤ n → length (filter recv_ended rs) ≤ n
recv_le rs n le = omega (arith, recv_tally rs n le, tally_le n (λ i. recv_over (slice_get rs i) && true))

-- which streams of a type are over
abbrev flags : Role → Tables RecvLane → Tables SendLane → ℕ → ℕ → Bool
flags role recvs sends k i = is_over role recvs sends (i * 4 + k)

abbrev of_type : ℕ → ByDir ℕ → ℕ
of_type k e = cond (nat_le 2 k) e.uni e.bidi

-- the count of a type of the peer's streams is the tally, however far it goes
abbrev AreTallied : Role → Tables RecvLane → Tables SendLane → ByDir ℕ → Type 0
AreTallied role recvs sends e = (k n : ℕ) → k < 4 → (k % 2 == role_bit role) ≡ false → ((i : ℕ) → n ≤ i → flags role recvs sends k i ≡ false) → of_type k e ≡ tally n (flags role recvs sends k)

module _ (role : Role) (recvs : Tables RecvLane) (sends : Tables SendLane) (e : ByDir ℕ) where
  -- by rows
  abbrev row : ℕ → ℕ → Bool
  row k i = recv_over (slice_get (table recvs k) i) && (nat_le 2 k || send_over (slice_get (table sends k) i))

  row_flags : (k : ℕ) → k < 4 → (k % 2 == role_bit role) ≡ false → (i : ℕ) → flags role recvs sends k i ≡ row k i
  unfolding lookup
  row_flags k lt theirs i =
      let kind : (i * 4 + k) % 4 ≡ k = omega (arith, lt) in
      let index : (i * 4 + k) / 4 ≡ i = omega (arith, lt) in
      ap (λ q. cond (q % 2 == role_bit role) false (recv_over (slice_get (table recvs q) ((i * 4 + k) / 4)) && (nat_le 2 q || send_over (slice_get (table sends q) ((i * 4 + k) / 4))))) kind
      ∙ ap (λ b. cond b false (recv_over (slice_get (table recvs k) ((i * 4 + k) / 4)) && (nat_le 2 k || send_over (slice_get (table sends k) ((i * 4 + k) / 4))))) theirs ∙ ap (row k) index

  by_rows : AreAllCounted role recvs sends e → (k n : ℕ) → k < 4 → (k % 2 == role_bit role) ≡ false → length (table recvs k) ≤ n → of_type k e ≡ tally n (row k)
  by_rows h = go role h
    where
      go : (r : Role) → AreAllCounted r recvs sends e → (k n : ℕ) → k < 4 → (k % 2 == role_bit r) ≡ false → length (table recvs k) ≤ n → of_type k e ≡ tally n (row k)
      go Client h (suc zero) n lt theirs le = h.bidi ∙ both_tally recvs.server_bidi sends.server_bidi n le
      go Client h (suc (suc (suc zero))) n lt theirs le = h.uni ∙ recv_tally recvs.server_uni n le
      go Server h zero n lt theirs le = h.bidi ∙ both_tally recvs.client_bidi sends.client_bidi n le
      go Server h (suc (suc zero)) n lt theirs le = h.uni ∙ recv_tally recvs.client_uni n le
      go r h (suc (suc (suc (suc k)))) n lt theirs le = absurd (omega (arith, lt))
      go _ h _ n lt theirs le = absurd (true≢false theirs)

  tallied : AreAllCounted role recvs sends e → AreTallied role recvs sends e
  tallied h k n lt theirs none =
      let far = n + length (table recvs k) in
      by_rows h k far lt theirs (omega arith) ∙ sym (tally_same far (flags role recvs sends k) (row k) (row_flags k lt theirs)) ∙ tally_more n far (flags role recvs sends k) (omega arith) none

  counted : AreTallied role recvs sends e → AreAllCounted role recvs sends e
  counted h = go role refl
    where
      back : (k : ℕ) → k < 4 → (k % 2 == role_bit role) ≡ false → of_type k e ≡ tally (length (table recvs k)) (row k)
      back k lt theirs =
          h k (length (table recvs k)) lt theirs (λ i past. row_flags k lt theirs i ∙ ap (λ o. recv_over o && (nat_le 2 k || send_over (slice_get (table sends k) i))) (slice_get_past (table recvs k) i past))
          ∙ tally_same (length (table recvs k)) (flags role recvs sends k) (row k) (row_flags k lt theirs)

      go : (r : Role) → role ≡ r → AreAllCounted role recvs sends e
      go Client is =
          rw is (record {
            bidi = back 1 (omega arith) (ap (λ (r : Role). 1 == role_bit r) is) ∙ sym (both_tally recvs.server_bidi sends.server_bidi _ (omega arith));
            uni = back 3 (omega arith) (ap (λ (r : Role). 1 == role_bit r) is) ∙ sym (recv_tally recvs.server_uni _ (omega arith));
          })
      go Server is =
          rw is (record {
            bidi = back 0 (omega arith) (ap (λ (r : Role). 0 == role_bit r) is) ∙ sym (both_tally recvs.client_bidi sends.client_bidi _ (omega arith));
            uni = back 2 (omega arith) (ap (λ (r : Role). 0 == role_bit r) is) ∙ sym (recv_tally recvs.client_uni _ (omega arith));
          })

-- Halves change

pub nothing_recounted : (n : ℕ) (b : Bool) (e : ByDir ℕ) → recounted n b b e ≡ e
nothing_recounted n b e = grind (arith, nat_tests)

module _ (role : Role) (recvs : Tables RecvLane) (sends : Tables SendLane) (e : ByDir ℕ) (h : AreAllCounted role recvs sends e) (recvs_now : Tables RecvLane) (sends_now : Tables SendLane) where
  -- no stream came to its end
  pub counted_same : ((m : ℕ) → is_over role recvs_now sends_now m ≡ is_over role recvs sends m) → AreAllCounted role recvs_now sends_now e
  counted_same same =
      counted role recvs_now sends_now e (λ k n lt theirs none.
      tallied role recvs sends e h k n lt theirs (λ i past. sym (same (i * 4 + k)) ∙ none i past) ∙ tally_same n (flags role recvs sends k) (flags role recvs_now sends_now k) (λ i. sym (same (i * 4 + k))))

  -- one may have, and is counted anew
  counted_anew : (n : ℕ) → ((m : ℕ) → m ≢ n → is_over role recvs_now sends_now m ≡ is_over role recvs sends m) → AreAllCounted role recvs_now sends_now (recounted n (is_over role recvs sends n) (is_over role recvs_now sends_now n) e)
  counted_anew n others = counted role recvs_now sends_now (recounted n w v e) each
    where
      w : Bool
      w = is_over role recvs sends n

      v : Bool
      v = is_over role recvs_now sends_now n

      -- the count of its direction moves, and the other one stays
      moved : (k : ℕ) (i : Bool) → is_uni n ≡ i → of_type k (recounted n w v e) ≡ cond (nat_le 2 k) (cond i (e.uni + one_if v - one_if w) e.uni) (cond i e.bidi (e.bidi + one_if v - one_if w))
      moved k true is = ap (λ u. of_type k (cond u (record e { uni = e.uni + one_if v - one_if w }) (record e { bidi = e.bidi + one_if v - one_if w }))) is
      moved k false is = ap (λ u. of_type k (cond u (record e { uni = e.uni + one_if v - one_if w }) (record e { bidi = e.bidi + one_if v - one_if w }))) is

      -- a stream of the end's own isn't over
      own_none : (r : Tables RecvLane) (s : Tables SendLane) → (n % 4 % 2 == role_bit role) ≡ true → is_over role r s n ≡ false
      own_none r s own = ap (λ b. cond b false (recv_over (lookup r n) && (is_uni n || send_over (lookup s n)))) own

      each : AreTallied role recvs_now sends_now (recounted n w v e)
      each k bound lt theirs none = elim (cases_eq k (n % 4)) [
        | inl kind ↦ (
            let whole : n / 4 * 4 + k ≡ n = omega (arith, kind) in
            let far = bound + (n / 4 + 1) in
            let was : one_if (flags role recvs sends k (n / 4)) ≡ one_if w = ap (λ m. one_if (is_over role recvs sends m)) whole in
            let is : one_if (flags role recvs_now sends_now k (n / 4)) ≡ one_if v = ap (λ m. one_if (is_over role recvs_now sends_now m)) whole in
            let before = tallied role recvs sends e h k far lt theirs (λ i past. sym (others (i * 4 + k) (λ same. omega (arith, same, past, whole, kind))) ∙ none i (omega (arith, past))) in
            let step = tally_moved far (n / 4) (flags role recvs sends k) (flags role recvs_now sends_now k) (omega arith) (λ j ne. others (j * 4 + k) (λ same. ne (omega (arith, same, kind)))) in
            let after = tally_more bound far (flags role recvs_now sends_now k) (omega arith) none in
            let uni : is_uni n ≡ nat_le 2 k = ap (nat_le 2) (sym kind) in
            moved k (nat_le 2 k) uni ∙ sides (nat_le 2 k) e.uni e.bidi _ (omega (arith, was, is, before, step, after)))
        | inr other ↦ (
            let stays = tallied role recvs sends e h k bound lt theirs (λ i past. sym (others (i * 4 + k) (λ same. other (omega (arith, same, lt)))) ∙ none i past) ∙ tally_same bound (flags role recvs sends k) (flags role recvs_now sends_now k) (λ i. sym (others (i * 4 + k) (λ same. other (omega (arith, same, lt))))) in
            moved k (is_uni n) refl ∙ unmoved (nat_le 2 k) (is_uni n) (λ dir. (let own : (n % 4 % 2 == role_bit role) ≡ true = grind (arith, nat_tests, theirs, lt, other, dir) in (own_none recvs sends own, own_none recvs_now sends_now own))) ∙ stays)
      ]
        where
          sides : (u : Bool) (x y t : ℕ) → cond u x y + one_if v - one_if w ≡ t → cond u (cond u (x + one_if v - one_if w) x) (cond u y (y + one_if v - one_if w)) ≡ t
          sides true x y t is = is
          sides false x y t is = is

          unmoved : (u i : Bool) → (u ≡ i → (w ≡ false) × (v ≡ false)) → cond u (cond i (e.uni + one_if v - one_if w) e.uni) (cond i e.bidi (e.bidi + one_if v - one_if w)) ≡ cond u e.uni e.bidi
          unmoved true false none = refl
          unmoved false true none = refl
          unmoved true true none = let (was, is) = none refl in rw (was, is) (omega arith)
          unmoved false false none = let (was, is) = none refl in rw (was, is) (omega arith)

-- a half changed, and its stream was counted anew
pub recv_recounted : (role : Role) (recvs now : Tables RecvLane) (sends : Tables SendLane) (n : ℕ) (f : RecvLane → RecvLane) (e e' : ByDir ℕ) (was is : Bool) → AreAllCounted role recvs sends e → now ≡ updated recvs n f (lookup recvs n)
    → was ≡ is_over role recvs sends n → is ≡ is_over role now sends n → e' ≡ recounted n was is e → AreAllCounted role now sends e'
recv_recounted role recvs now sends n f e e' was is h after before behind to =
    rw (to, before, behind) (counted_anew role recvs sends e h now sends n (λ m ne. ap (λ o. over role m (recv_over o) (send_over (lookup sends m))) (ap (λ (t : Tables RecvLane). lookup t m) after ∙ updated_other recvs n m f ne)))

pub send_recounted : (role : Role) (recvs : Tables RecvLane) (sends now : Tables SendLane) (n : ℕ) (f : SendLane → SendLane) (e e' : ByDir ℕ) (was is : Bool) → AreAllCounted role recvs sends e → now ≡ updated sends n f (lookup sends n)
    → was ≡ is_over role recvs sends n → is ≡ is_over role recvs now n → e' ≡ recounted n was is e → AreAllCounted role recvs now e'
send_recounted role recvs sends now n f e e' was is h after before behind to =
    rw (to, before, behind) (counted_anew role recvs sends e h recvs now n (λ m ne. ap (λ o. over role m (recv_over (lookup recvs m)) (send_over o)) (ap (λ (t : Tables SendLane). lookup t m) after ∙ updated_other sends n m f ne)))

-- no more streams came to their end than are open, so that one is counted anew
pub may_recount : (role : Role) (n : ℕ) (recvs : Tables RecvLane) (sends : Tables SendLane) (e : ByDir ℕ) (was : Bool) → AreAllCounted role recvs sends e → was ≡ is_over role recvs sends n → ((k : ℕ) → k < 4 → length (table recvs k) ≤ 2 ^ 60) → MayRecount n was e
may_recount role n recvs sends e was h is few =
    record {
      bidi = omega (arith, h.bidi, both_le (table recvs (1 - role_bit role)) (table sends (1 - role_bit role)) _ (few (1 - role_bit role) (omega arith)));
      uni = omega (arith, h.uni, recv_le (table recvs (3 - role_bit role)) _ (few (3 - role_bit role) (omega arith)));
      part = rw is (go (n % 4 % 2 == role_bit role) refl);
    }
  where
    go : (b : Bool) → (n % 4 % 2 == role_bit role) ≡ b → one_if (is_over role recvs sends n) ≤ of_type (n % 4) e
    go true own = let none : one_if (is_over role recvs sends n) ≡ 0 = ap (λ b. one_if (cond b false (recv_over (lookup recvs n) && (is_uni n || send_over (lookup sends n))))) own in omega (arith, none)
    go false theirs =
        let far = n / 4 + 1 + length (table recvs (n % 4)) in
        let whole : one_if (flags role recvs sends (n % 4) (n / 4)) ≡ one_if (is_over role recvs sends n) = ap (λ m. one_if (is_over role recvs sends m)) (omega arith) in
        let here : one_if (flags role recvs sends (n % 4) (n / 4)) ≡ one_if (row role recvs sends e (n % 4) (n / 4)) = ap one_if (row_flags role recvs sends e (n % 4) (omega arith) theirs (n / 4)) in
        omega (arith, whole, here, by_rows role recvs sends e h (n % 4) far (omega arith) theirs (omega arith), tally_part far (n / 4) (row role recvs sends e (n % 4)) (omega arith))

-- Streams that open, and limits that rise, end nothing

module _ {X : Type 0} (over : Option X → Bool) (t : Tables X) where
  pub updated_over : (now : Tables X) (n : ℕ) (f : X → X) → now ≡ updated t n f (lookup t n) → ((l : X) → lookup t n ≡ Some l → over (Some (f l)) ≡ over (Some l)) → (m : ℕ) → over (lookup now m) ≡ over (lookup t m)
  updated_over now n f is same = rw is (slots_changed (λ m o. over o ≡ over (lookup t m)) t n f (λ m ne. refl) (go (lookup t n) refl))
    where
      go : (o : Option X) → lookup t n ≡ o → over (option_map f o) ≡ over (lookup t n)
      go None at = ap over (sym at)
      go (Some l) at = same l at ∙ ap over (sym at)

  opened_over : (now : Tables X) (n : ℕ) (begin : ℕ → X) (absent : Bool) → over None ≡ false → ((m : ℕ) → over (Some (begin m)) ≡ false) → now ≡ cond absent t (open_to t n begin) → (m : ℕ) → over (lookup now m) ≡ over (lookup t m)
  opened_over now n begin absent without fresh is m = grind (arith, nat_tests, lookup_open)

pub recvs_opened : (role : Role) (recvs now : Tables RecvLane) (sends : Tables SendLane) (e : ByDir ℕ) (n w : ℕ) (share : Share) (absent : Bool) → AreAllCounted role recvs sends e → now ≡ cond absent recvs (open_to recvs n (λ m. new_recv_lane w share)) → AreAllCounted role now sends e
recvs_opened role recvs now sends e n w share absent h is = counted_same role recvs sends e h now sends (λ m. ap (λ b. over role m b (send_over (lookup sends m))) (opened_over recv_over recvs now n (λ j. new_recv_lane w share) absent refl (λ j. refl) is m))

pub sends_opened : (role : Role) (recvs : Tables RecvLane) (sends now : Tables SendLane) (e : ByDir ℕ) (n limit buffer : ℕ) (absent : Bool) → AreAllCounted role recvs sends e → now ≡ cond absent sends (open_to sends n (λ m. new_send_lane m limit buffer)) → AreAllCounted role recvs now e
sends_opened role recvs sends now e n limit buffer absent h is = counted_same role recvs sends e h recvs now (λ m. ap (over role m (recv_over (lookup recvs m))) (opened_over send_over sends now n (λ j. new_send_lane j limit buffer) absent refl (λ j. refl) is m))

pub counted_raised : (role : Role) (recvs now : Tables RecvLane) (sends : Tables SendLane) (e : ByDir ℕ) → AreAllCounted role recvs sends e → now ≡ each raise recvs → AreAllCounted role now sends e
counted_raised role recvs now sends e h is = counted_same role recvs sends e h now sends (λ m. ap (λ b. over role m b (send_over (lookup sends m))) (ap (λ (t : Tables RecvLane). recv_over (lookup t m)) is ∙ ap recv_over (lookup_each raise recvs m) ∙ raised (lookup recvs m)))
  where
    raised : (o : Option RecvLane) → recv_over (option_map raise o) ≡ recv_over o
    raised None = refl
    raised (Some l) = refl

pub none_counted : (role : Role) (recvs : Tables RecvLane) (sends : Tables SendLane) → recvs ≡ no_streams → AreAllCounted role recvs sends (record { bidi = 0; uni = 0 })
none_counted role recvs sends none = grind (arith, nat_tests)

-- ---- The last STREAM frame of a packet in the making has the stream of the last chunk in its record.

-- those of the packet in the making are the pending ones
pub pieces_there : (m : Records) (k : ℕ) (ps : List Piece) → AreBelow m k → pieces_at (with_pending m k ps) k ≡ ps
pieces_there m k ps below = grind (arith, nat_tests, get_new)

-- one piece more
pub last_more : (last : Option ℕ) (ps : List Piece) (p : Piece) → last_data last (ps ++ p ∷ []) ≡ data_or (last_data last ps) p
last_more last [] p = refl
last_more last (q ∷ ps) p = last_more (data_or last q) ps p

-- the last one, where it is a chunk
pub last_at : (last : Option ℕ) (ps : List Piece) (i n : ℕ) (c : Chunk) → i + 1 ≡ length ps → Some (Data n c) ≡ slice_get ps i → Some n ≡ last_data last ps
last_at last (q ∷ []) zero n c at is = subst (λ p. Some n ≡ data_or last p) (same_Some (Data n c) q is) refl
last_at last (q ∷ r ∷ ps) (suc i) n c at is = last_at (data_or last q) (r ∷ ps) i n c (omega (arith, at)) is
last_at _ _ _ _ _ at _ = absurd (omega (arith, at))

-- the stream of a STREAM frame; of another frame what was before
abbrev seen_or : Option ℕ → Seen → Option ℕ
seen_or last (Stream n offset bytes fin) = Some n
seen_or last _ = last

last_put : (f : Seen) (e : End) → last_data None (pieces_so_far (frame_put f e) (frame_put f e).next) ≡ seen_or (last_data None (pieces_so_far e e.next)) f
last_put f e = grind (arith, nat_tests, put_pieces, last_more, append-nil)

-- so it is of all frames of a packet
pub last_filled : (old e mid : End) (fs : List FrameValue) → Fills old e (seen_all fs) mid → last_data None (pieces_so_far mid mid.next) ≡ last_stream_of (last_data None (pieces_so_far e e.next)) fs
last_filled old e mid [] is = ap (λ (x : End). last_data None (pieces_so_far x x.next)) is
last_filled old e mid (f ∷ fs) (may, rest) = grind (arith, nat_tests, last_filled old (frame_put (seen f) e) mid fs rest, last_put)

-- ---- What a call of make_packet leaves, and one of fill.

-- Refusals

exhausted : (v : End) → is_some v.closed ≡ false → MAX_VARINT < v.next → make_refusal v ≡ Some making.Exhausted
exhausted v clear past = (let test : nat_le (MAX_VARINT + 1) v.next ≡ true = grind (arith, nat_tests) in rw (clear, test) refl)

pub make_exhausted : (v old : End) (first delay room : ℕ) → v ≡ old → is_some v.closed ≡ false → MAX_VARINT < v.next → MakeStep old first delay room (Err making.Exhausted) [] old
make_exhausted v old first delay room same clear past = subst (λ e. MakeStep e first delay room (Err making.Exhausted) [] e) same (rw (exhausted v clear past) (refl, refl, refl))

pub no_refusal : (v : End) → is_some v.closed ≡ false → v.next ≤ MAX_VARINT → make_refusal v ≡ None
no_refusal v clear le = (let test : nat_le (MAX_VARINT + 1) v.next ≡ false = grind (arith, nat_tests) in rw (clear, test) refl)

-- nothing is in a packet that isn't in the making
fresh_of : (v : End) → fmap.get v.outstanding v.next ≡ None → (p : Piece) → InPacket v p → ⊥
fresh_of v idle p there = subst (λ o. Among p (elim o [ None ↦ [] | Some ps ↦ ps ])) idle there

fills_next : (old e mid : End) (fs : List Seen) → Fills old e fs mid → mid.next ≡ e.next
fills_next old e mid [] is = ap (λ (x : End). x.next) is
fills_next old e mid (f ∷ fs) (may, rest) = fills_next old (frame_put f e) mid fs rest ∙ put_next f e

abbrev pub limits_of : End → Limits
limits_of v = record { role = v.role; settings = v.settings; tuning = v.tuning; conn_window = v.present.conn_window; widest = v.present.widest; grants = record { bidi = v.present.grant_bidi; uni = v.present.grant_uni }; granted = v.granted; known_data = v.known_data; granted_streams = record { bidi = v.granted_bidi; uni = v.granted_uni }; known_streams = record { bidi = v.known_bidi; uni = v.known_uni }; wanted_streams = record { bidi = v.wanted_bidi; uni = v.wanted_uni } }

abbrev pub outgoing_of : ℕ → End → Outgoing
outgoing_of spare v = record { sends = v.sends; next = v.next; outstanding = v.outstanding; lost = v.lost; acked = v.acked; spare = spare }

-- what `make_packet` asks for: all, and the ACK if one is due
abbrev pub all_of : (first delay : ℕ) → Bool → Wish
all_of first delay due = record { want = record { items = true; streams = true; first = first; alone = false; most_bytes = 2 ^ 64 - 1 }; delay = delay; ack_due = due }

pub ack_left : (due : Bool) → IsAckLeft due due false
ack_left due = grind (arith, nat_tests)

-- a call that began as v filled a packet
pub packed_by : (v old : End) → v ≡ old → (c new_c : Core) (first : ℕ) (wish : Wish) (room : ℕ) (text : List ℕ) (quota : ℕ) (full left : Bool) → fmap.get v.outstanding v.next ≡ None → end_of c v ≡ v → IsAckLeft wish.ack_due v.ack_due left
    → ((x : End) (b : Bool) → end_of c x ≡ x → x.done ≡ v.done → IsAckLeft wish.ack_due x.ack_due b → ((p : Piece) → InPacket x p → ⊥) → PackedBy first wish room x text (end_of new_c (record x { ack_due = b })) quota full)
    → PackedBy first wish room v text (end_of new_c (record v { ack_due = left })) quota full
packed_by v old same c new_c first wish room text quota full left idle parts goes fills = fills v left parts refl goes (fresh_of v idle)

module _ (v : End) (new_c : Core) (left : Bool) (first : ℕ) (wish : Wish) (room : ℕ) (text : List ℕ) (quota : ℕ) (full : Bool) (p : PackedBy first wish room v text (end_of new_c (record v { ack_due = left })) quota full) where
  abbrev pub filled : End
  filled = end_of new_c (record v { ack_due = left })

  pub filled_next : new_c.outbox.next ≡ v.next
  filled_next = fills_next v v filled (seen_all p.packed.content.framed.frames) p.packed.content.framed.fills

  same_is : text ≡ [] → filled ≡ v
  same_is none = packed_same first wish room v text filled quota p.packed none

  pub same_parts : text ≡ [] → end_of new_c v ≡ v
  same_parts none = ap (λ (x : End). end_by (limits_of x) x.recvs (outgoing_of 0 x) v) (same_is none)

  pub idle_none : fmap.get v.outstanding v.next ≡ None → text ≡ [] → fmap.get new_c.outbox.outstanding new_c.outbox.next ≡ None
  idle_none idle none = ap (λ (x : End). fmap.get x.outstanding x.next) (same_is none) ∙ idle

  -- it had some, and its number was used
  module _ (new : End) (o : Outgoing) (number : ℕ) (is : number ≡ v.next) (after : o ≡ record new_c.outbox { next = new_c.outbox.next + 1; spare = 0 }) (settled : new ≡ settle (end_of (record new_c { outbox = o }) (record v { ack_due = left }))) where
    pub end : new ≡ settle (record filled { next = v.next + 1 })
    end = settled ∙ ap settle mid
      where
        mid : end_of (record new_c { outbox = o }) (record v { ack_due = left }) ≡ record filled { next = v.next + 1 }
        mid = rw (after, filled_next) refl

    -- what its record holds is in order
    pub in_order : wish.want.items ≡ true → AreInOrder v [] (pieces_so_far new number)
    in_order asked =
        let pieces : pieces_so_far new number ≡ pieces_so_far filled filled.next = ap (λ (x : End). pieces_so_far x number) end ∙ ap (pieces_so_far filled) (is ∙ sym filled_next) in
        subst (AreInOrder v []) (sym pieces) (p.packed.content.order asked)

-- `make_packet` filled it
module _ (v old : End) (same : v ≡ old) (new_c : Core) (first delay room : ℕ) (text : List ℕ) (quota : ℕ) (full : Bool) (p : PackedBy first (all_of first delay v.ack_due) room v text (end_of new_c (record v { ack_due = false })) quota full)
    (clear : is_some v.closed ≡ false) (le : v.next ≤ MAX_VARINT) where
  -- it had nothing to send
  pub make_none : 25 ≤ room → text ≡ [] → MakeStep old first delay room (Ok None) [] (end_of new_c v)
  make_none enough none =
      let w = packed_none first (all_of first delay v.ack_due) room v text (filled v new_c false first (all_of first delay v.ack_due) room text quota full p) quota p.packed enough none in
      let quiet : Sendable v → ⊥ = λ goes. elim goes [ inl due ↦ (w.ack due).2 | inr (inl (i, due)) ↦ w.wanted.items refl i due | inr (inr (n, some)) ↦ w.wanted.streams n (refl, inl refl) (inl (omega arith, some)) ] in
      subst (λ e. MakeStep e first delay room (Ok None) [] (end_of new_c v)) same (rw (no_refusal v clear le) (quiet, refl, same_parts v new_c false first (all_of first delay v.ack_due) room text quota full p none))

  module _ (new : End) (o : Outgoing) (number : ℕ) (asks : Bool) (is : number ≡ v.next) (after : o ≡ record new_c.outbox { next = new_c.outbox.next + 1; spare = 0 }) (settled : new ≡ settle (end_of (record new_c { outbox = o }) (record v { ack_due = false }))) where
    last : new ≡ settle (record (end_of new_c (record v { ack_due = false })) { next = v.next + 1 })
    last = end v new_c false first (all_of first delay v.ack_due) room text quota full p new o number is after settled

    -- it had some
    pub make_some : (len : ℕ) → fmap.get v.outstanding v.next ≡ None → asks ≡ is_some (fmap.get new_c.outbox.outstanding new_c.outbox.next) → 0 < len → len ≡ length text → len ≤ room → room ≤ 16383
        → MakeStep old first delay room (Ok (Some (record { number = number; len = len; is_ack_eliciting = asks }))) text new
    make_some len idle asked some count within most =
        let e = end_of new_c (record v { ack_due = false }) in
        let wish = all_of first delay v.ack_due in
        let made = packed_some first wish room v text e quota p.packed number len asks (packed_asks first wish room v text e quota p.packed asks idle asked) is count (λ none. omega (arith, some, count, ap length none)) within refl refl (λ n. (refl, inl refl)) (omega (arith, most)) refl in
        subst (λ x. MakeStep x first delay room (Ok (Some (record { number = number; len = len; is_ack_eliciting = asks }))) text new) same (rw (no_refusal v clear le) (subst (IsMade v first delay room (record { number = number; len = len; is_ack_eliciting = asks }) text) (sym last) made))

    -- what its record holds is in order, and no ACK is due any more
    pub make_order : (len : ℕ) → NothingStarves old (Ok (Some (record { number = number; len = len; is_ack_eliciting = asks }))) new
    make_order len = (
      ap (λ (x : End). x.ack_due) last,
      subst (λ e. AreInOrder e [] (pieces_so_far new number)) same (in_order v new_c false first (all_of first delay v.ack_due) room text quota full p new o number is after settled refl),
    )

-- What is filled in

-- the next number makes no difference to what goes within the cap
within_same : (e : End) (k left first n : ℕ) → GoesWithin left first (record e { next = k }) n → GoesWithin left first e n
within_same e k left first n (inl (some, goes)) = inl (some, goes_next e k n goes)
within_same e k left first n (inr alone) = inr (goes_alone e k first n alone)

-- the frames are of kinds that are asked for
module _ (wish : Wish) (none : wish.ack_due ≡ false) where
  one_wanted : (f : Seen) → IsWished wish f → IsWanted wish.want f
  one_wanted f is = grind (arith, nat_tests)

  all_wanted : (fs : List Seen) → AllByRecursion (IsWished wish) fs → AllByRecursion (IsWanted wish.want) fs
  all_wanted [] all = tt
  all_wanted (f ∷ fs) all = (one_wanted f all.0, all_wanted fs all.1)

-- where no stream goes that is asked for, the cap of bytes makes no difference
more_same : (want : Fill) (quota : ℕ) (e : End) → ((n : ℕ) → IsAsked want n → StreamGoes e n → ⊥) → WantedGoes (still_asked want 0) e ↔ WantedGoes (still_asked want quota) e
more_same want zero e over = ((λ w. w), (λ w. w))
more_same want (suc left) e over = (
  λ w. elim w [ inl item ↦ inl item | inr (n, asked, goes) ↦ absurd (true≢false (sym asked.0)) ],
  λ w. elim w [ inl item ↦ inl item | inr (n, asked, goes) ↦ absurd (over n asked goes) ],
)

-- so of a packet that isn't full
more_by : (want : Fill) (quota : ℕ) (e : End) (more is_full : Bool) → (is_full ≡ false → (n : ℕ) → IsAsked want n → StreamGoes e n → ⊥) → (more ≡ true) ↔ WantedGoes (still_asked want (if is_full then quota else 0)) e → (more ≡ true) ↔ WantedGoes (still_asked want quota) e
more_by want quota e more true over goes = goes
more_by want quota e more false over goes = let same = more_same want quota e (over refl) in ((λ m. same.0 (goes.0 m)), (λ w. goes.1 (same.1 w)))

-- where nothing that is asked for may go, no frame has all of it
pub has_none : (want : Fill) (v : End) → (WantedGoes want v → ⊥) → HasWanted want v [] v
has_none want v none = record { items = λ on i due. absurd (none (inl (on, (i, due)))); streams = λ n asked goes. none (inr (n, asked, within_goes _ want.first v n goes)) }

-- what is asked for, without an ACK
abbrev pub only_of : Fill → Wish
only_of want = record { want = want; delay = 0; ack_due = false }

no_seen : (fs : List FrameValue) → seen_all fs ≡ [] → fs ≡ []
no_seen [] is = refl
no_seen (f ∷ fs) is = cc is

-- so they ask for an ACK
asks_one : (want : Fill) (f : Seen) → IsWanted want f → asks_ack f ≡ true
asks_one want f is = grind (arith, nat_tests)

asks_all : (want : Fill) (fs : List Seen) → fs ≢ [] → AllByRecursion (IsWanted want) fs → any_asks fs ≡ true
asks_all want [] some all = absurd (some refl)
asks_all want (f ∷ fs) some all = ap (λ b. b || any_asks fs) (asks_one want f all.0)

-- an ACK that is too long for a room is too long for a shorter one
names_less : (old : End) (delay room less : ℕ) (frames : List FrameValue) → less ≤ room → AllByRecursion (NamesMost old delay room) frames → AllByRecursion (NamesMost old delay less) frames
names_less old delay room less [] le all = tt
names_less old delay room less (f ∷ fs) le all = grind (arith, nat_tests, names_less old delay room less fs le all.1)

pub fill_exhausted : (v old : End) (want : Fill) (room : ℕ) → v ≡ old → is_some v.closed ≡ false → MAX_VARINT < v.next → FillStep old want room (Err making.Exhausted) [] old
fill_exhausted v old want room same clear past = subst (λ e. FillStep e want room (Err making.Exhausted) [] e) same (rw (exhausted v clear past) (refl, refl, refl))

module _ (v old : End) (same : v ≡ old) (new_c : Core) (want : Fill) (room : ℕ) (text : List ℕ) (quota : ℕ) (full : Bool) (p : PackedBy want.first (only_of want) room v text (end_of new_c v) quota full)
    (clear : is_some v.closed ≡ false) (le : v.next ≤ MAX_VARINT) where
  -- nothing that is asked for may go
  pub fill_none : text ≡ [] → FillStep old want room (Ok None) [] (end_of new_c v)
  fill_none none =
      let quiet : 25 ≤ room → HasWanted want v [] v = λ enough. (packed_none want.first (only_of want) room v text (end_of new_c v) quota p.packed enough none).wanted in
      subst (λ e. FillStep e want room (Ok None) [] (end_of new_c v)) same (rw (no_refusal v clear le) (quiet, refl, same_parts v new_c v.ack_due want.first (only_of want) room text quota full p none))

  module _ (new : End) (o : Outgoing) (number : ℕ) (is : number ≡ v.next) (after : o ≡ record new_c.outbox { next = new_c.outbox.next + 1; spare = 0 }) (settled : new ≡ settle (end_of (record new_c { outbox = o }) v)) where
    -- what its record holds is in order
    pub fill_order : (filled : Filled) → filled.token.number ≡ number → NoItemStarves want old (Ok (Some filled)) new
    fill_order filled token asked = subst (λ e. AreInOrder e [] (pieces_so_far new filled.token.number)) same (subst (λ k. AreInOrder v [] (pieces_so_far new k)) (sym token) (in_order v new_c v.ack_due want.first (only_of want) room text quota full p new o number is after settled asked))

    -- something went in
    pub fill_some : (token : Token) (len : ℕ) (last_one : Option ℕ) (more : Bool) → fmap.get v.outstanding v.next ≡ None → token ≡ token_of old number → last_one ≡ last_data None (pieces_at new_c.outbox.outstanding new_c.outbox.next) → (more ≡ true) ↔ WantedGoes (still_asked want (if full then quota else 0)) new → 0 < len → len ≡ length text → len ≤ room
        → FillStep old want room (Ok (Some (record { token = token; len = len; last_stream = last_one; more = more }))) text new
    fill_some token len last_one more idle gives read goes some inside within =
        let q = p.packed in
        let frames = q.content.framed.frames in
        let there : text ≢ [] = λ none. omega (arith, some, inside, ap length none) in
        let mid : End = end_of new_c v in
        let last : End = settle (record mid { next = v.next + 1 }) in
        let fill_end : new ≡ last = end v new_c v.ack_due want.first (only_of want) room text quota full p new o number is after settled in
        let wanted : AllByRecursion (IsWanted want) (seen_all frames) = all_wanted (only_of want) refl (seen_all frames) q.content.framed.wished in
        let some_frame : seen_all frames ≢ [] = λ none. there (q.content.framed.spells.canonical ∙ ap canonical_all (no_seen frames none)) in
        let made = packed_made want.first (only_of want) room v text mid quota q token.number len true (sym (asks_all want (seen_all frames) some_frame wanted)) (ap (λ (t : Token). t.number) gives ∙ is) inside there (length text) (omega (arith, inside)) (names_less v 0 room (length text) frames (omega (arith, inside, within)) q.content.framed.acks) (λ left. absurd (omega (arith, left))) in
        let over : full ≡ false → (n : ℕ) → IsAsked want n → StreamGoes last n → ⊥ = λ is n asked goes. p.over is n asked (goes_less last mid n (λ l at. at) (λ left. left) (λ c out. out) goes) in
        let filled : Filled = record { token = token; len = len; last_stream = last_one; more = more } in
        let all : IsFilled v want room filled text last =
        record {
          made = made;
          token = gives ∙ ap (λ e. token_of e number) (sym same) ∙ ap (token_of v) is;
          fits = omega (arith, inside, within);
          wanted = wanted;
          capped = omega (arith, q.content.cap);
          whole = λ left. (let w = (q.whole left).wanted in record { items = w.items; streams = λ n asked goes. w.streams n asked (within_same mid (v.next + 1) _ want.first n goes) });
          last_stream = read ∙ last_filled v v mid frames q.content.framed.fills ∙ ap (λ (o : Option (List Piece)). last_stream_of (last_data None (elim o [ None ↦ [] | Some qs ↦ qs ])) frames) idle;
          more = subst (λ k. (more ≡ true) ↔ WantedGoes (still_asked want k) last) (omega (arith, q.content.cap)) (more_by want quota last more full over (subst (λ e. (more ≡ true) ↔ WantedGoes (still_asked want (if full then quota else 0)) e) fill_end goes));
        } in
        subst (λ e. FillStep e want room (Ok (Some filled)) text new) same (rw (no_refusal v clear le) (subst (IsFilled v want room filled text) (sym fill_end) all))

-- ---- Items are put into a packet that is in a slice.

module _ (wish : Wish) (room : ℕ) (old : End) (text : List ℕ) (e : End) (b : Bool) (P Q : ℕ × ℕ) where
  pub stage_more : AddsIdle e (IsPassed P) (IsPassed Q) → Stage wish room old text e b P → Stage wish room old text e b Q
  stage_more adds = grind (arith, nat_tests, begun_more)

  -- a packet that is full needs no slot more
  pub stage_full : b ≡ true → Stage wish room old text e b P → Stage wish room old text e b Q
  stage_full is s = rw is (rw is at s)

pub stage_put : (wish : Wish) (room : ℕ) (old : End) (t : Limits) (recvs : Tables RecvLane) (o new : Outgoing) (e : End) (before after : List ℕ) (len end : ℕ) (b full : Bool) (s : Slot) (i : Item) →
    b ≡ false → room ≡ length before → len ≤ length before → IsCurrentIn (end_by t recvs o e) s (Some i) → (IsCovered (end_by t recvs o e) i → ⊥) → Fits (frame_of_item i) → PutsItem i before len o after end new full →
    Stage wish room old (take len before) (end_by t recvs o e) b (slot_place s) → Stage wish room old (take end after) (end_by t recvs new e) full (slot_past s)
stage_put wish room old t recvs o new e before after len end b full s i is at le c free fits puts st = go full puts (rw is at st)
  where
    go : (full : Bool) → PutsItem i before len o after end new full → Begun wish room old (take len before) (end_by t recvs o e) (IsPassed (slot_place s)) → Stage wish room old (take end after) (end_by t recvs new e) full (slot_past s)
    go true (same, text, out, long) st =
        let full : (first : ℕ) → Packed first wish room old (take len before) (end_by t recvs o e) wish.want.most_bytes = begun_too_long wish room old (take len before) (end_by t recvs o e) (IsPassed (slot_place s)) st i fits (omega (arith, length-take-le len before le, at)) (omega (arith, length-take-le len before le, at, long)) in
        rw (same, text, out) full
    go false (text, out) st = rw (text, out, end_put t recvs o e i) (begun_item wish room old (take len before) (end_by t recvs o e) (IsPassed (slot_place s)) st s i c (IsPassed (slot_past s)) (λ t lower. lower) (passed_slot s) free fits)

-- A text of two bytes or more

pub item_some : (i : Item) → 2 ≤ length (canonical (frame_of_item i))
unfolding canonical
item_some i = each_item (λ j. 2 ≤ length (canonical (frame_of_item j))) (λ m. two _ m _) (λ n m. two _ n _) (λ d m. two _ m _) (λ n code size. two _ n _) (λ n code. two _ n _) (λ m. two _ m _) (λ n m. two _ n _) (λ d m. two _ m _) i

-- ---- A STREAM frame that raises the highest offset of its stream changes the end.

-- one of a lane's parts changes
part_changes : (f r : Option ℕ) (s : NumberSet) (offset n : ℕ) (fin : Bool) → (is_some r ≡ true → is_some f ≡ true) → breaks_known f (offset + n) n fin (unwrap_or f (end_of_run s)) ≡ false
    → unwrap_or f (end_of_run s) < cond fin (offset + n) (cond (is_some f || nat_eq n 0) (unwrap_or f (end_of_run s)) (max (unwrap_or f (end_of_run s)) (offset + n)))
    → ((fin && is_none f) || (is_none r && not (covers s offset (offset + n)))) ≡ true
part_changes None r s offset n true sized fine up = refl
part_changes (Some k) r s offset n true sized fine up = absurd (grind (arith, nat_tests, fine))
part_changes (Some k) r s offset n false sized fine up = absurd (omega (arith, up))
part_changes None (Some code) s offset n false sized fine up = absurd (true≢false (sym (sized refl)))
part_changes None None s offset n false sized fine up = go (covers s offset (offset + n)) refl
  where
    some : 0 < n
    some = grind (arith, nat_tests)

    past : end_of_run s < offset + n
    past = grind (arith, nat_tests)

    go : (b : Bool) → covers s offset (offset + n) ≡ b → not b ≡ true
    go false is = refl
    go true is =
        let last = covers-is s offset (offset + n) is (offset + n - 1) (omega (arith, some)) (omega (arith, some)) in
        absurd (omega (arith, past, some, below-end_of s (offset + n - 1) last))

lane_changes : (l : RecvLane) (offset n : ℕ) (fin : Bool) (h : Highest) → IsLawful l → check_stream l offset n fin ≡ Ok h → h.before < h.after → stream_changes l offset n fin ≡ true
lane_changes l offset n fin h lawful is up = grind (arith, nat_tests, part_changes)

pub rise_changes : (e : End) (n offset : ℕ) (bytes : List ℕ) (fin : Bool) (h : Highest) → ((l : RecvLane) → recv_lane e n ≡ Some l → IsLawful l) → state_fault_in e n ≡ None
    → check_stream (lane_of e n) offset (length bytes) fin ≡ Ok h → h.before < h.after → changes e (Stream n offset bytes fin) ≡ true
rise_changes e n offset bytes fin h lawful fine is up = grind (arith, nat_tests, lane_changes)

-- none of the three tests finds a fault
pub no_fault : (e : End) (n offset : ℕ) (bytes : List ℕ) (fin : Bool) → state_fault_in e n ≡ None → credit_fault e (check_stream (lane_of e n) offset (length bytes) fin) ≡ None → bytes_fault e n offset bytes ≡ None
    → verdict e (Stream n offset bytes fin) ≡ None
unfolding verdict
no_fault e n offset bytes fin state credit same = ap (λ o. or_else o (or_else (credit_fault e (check_stream (lane_of e n) offset (length bytes) fin)) (bytes_fault e n offset bytes))) state ∙ ap (λ o. or_else o (bytes_fault e n offset bytes)) credit ∙ same

-- ---- What a walk over control items and streams tells.

-- Control items

-- what was found stays found
pub tells_found : (e : End) (b : Bool) (P Q : ℕ × ℕ) → b ≡ true → TellsDue b e P → TellsDue true e Q
tells_found e b P Q is found = rw is at found

-- other slots, where of those that are new all that is current was told
pub tells_more : (e : End) (b : Bool) (P Q : ℕ × ℕ) → AddsIdle e (IsPassed P) (IsPassed Q) → TellsDue b e P → TellsDue b e Q
tells_more e b P Q adds found = grind (arith, nat_tests)

-- a slot with an item
pub tells_item : (e : End) (s : Slot) (o : Option Item) → IsDueIn e s o → TellsDue false e (slot_place s) → TellsDue (is_some o) e (slot_past s)
tells_item e s None idle before = λ j p due. elim (passed_slot s (slot_of j) p) [ inl was ↦ before j was due | inr is ↦ due.1 (idle j is due.0) ]
tells_item e s (Some i) (c, free) before = (i, (c.0, free))

-- all of them
pub tells_all : (e : End) (b : Bool) → TellsDue b e all_items → Tells b ((i : Item) × IsDueItem e i)
tells_all e b found = grind (arith, nat_tests)

-- What an answer tells

pub tells_yes : (b : Bool) (P : Type 0) → b ≡ true → Tells b P → P
tells_yes b P is told = rw is at told

pub tells_no : (b : Bool) (P : Type 0) → b ≡ false → Tells b P → P → ⊥
tells_no b P is told = rw is at told

pub tells_same : (b : Bool) (P Q : Type 0) → (P → Q) → (Q → P) → Tells b P → Tells b Q
tells_same b P Q to from told = grind (arith, nat_tests)

-- one of two, of which the other isn't so
pub tells_or : (a b : Bool) (P Q : Type 0) → a ≡ false → Tells a Q → Tells b P → Tells b (P ⊎ Q)
tells_or a b P Q is none = tells_same b P (P ⊎ Q) (λ p. inl p) (λ some. elim some [ inl p ↦ p | inr q ↦ absurd (tells_no a Q is none q) ])

pub tells_is : (b : Bool) (P : Type 0) → Tells b P → IsTrue b ↔ P
tells_is b P told = grind (arith, nat_tests)

-- so it is of an end with these tables
pub tells_at : (v old : End) (c : Core) (b : Bool) (P : End → Type 0) → v ≡ old → end_of c v ≡ v → ((e : End) → Tells b (P (end_of c e))) → IsTrue b ↔ P old
tells_at v old c b P same parts tells = subst (λ e. IsTrue b ↔ P e) same (tells_is b (P v) (subst (λ e. Tells b (P e)) parts (tells v)))

-- Streams

-- as an answer says
pub tells_of : (b : Bool) (P : Type 0) → (b ≡ true → P) → (b ≡ false → P → ⊥) → Tells b P
tells_of true P is isnt = is refl
tells_of false P is isnt = isnt refl

-- as a search for one finds it
pub tells_any : (P : ℕ → Type 0) (r : Option ℕ) → IfSome r P → ((n : ℕ) → IsBefore n r → P n → ⊥) → Tells (is_some r) ((n : ℕ) × P n)
tells_any P None found none = λ (n, p). none n tt p
tells_any P (Some n) found none = (n, found)

-- Of what is asked for

-- with no byte left of the cap items alone are
pub wanted_capped : (want : Fill) (e : End) (left : ℕ) (b : Bool) → left ≡ 0 → TellsItem want b e → TellsWanted (still_asked want left) b e
wanted_capped want e left b is = rw is (tells_same b _ (WantedGoes (still_asked want 0) e) (λ item. inl item) (λ goes. elim goes [ inl item ↦ item | inr (n, asked, some) ↦ absurd (true≢false (sym asked.0)) ]))

pub wanted_left : (want : Fill) (e : End) (left : ℕ) (b : Bool) → 0 < left → TellsWanted want b e → TellsWanted (still_asked want left) b e
wanted_left want e left b some goes = grind (arith, nat_tests)

-- ---- The memory for the pieces of a packet in the making suffices: also where nothing of a stream is due, and it is for the connection's own items.

-- some end with these tables
pub some_end : Core → End
some_end c = new_end c.limits.role c.limits.settings c.limits.tuning (record { max_data = 0; bidi_local = 0; bidi_remote = 0; uni = 0; streams_bidi = 0; streams_uni = 0 })

-- fewer need no more memory
pub memory_less : (c : Core) (room len a b : ℕ) → b ≤ a → HasMemory c room len a → HasMemory c room len b
memory_less c room len a b le h = elim h [ inl all ↦ inl all | inr (spare, still) ↦ inr (omega (arith, le, spare), still) ]

-- nor more, where more bytes stand
pub memory_on : (c : Core) (room len room' len' left : ℕ) → room' ≡ room → len ≤ len' → HasMemory c room len left → HasMemory c room' len' left
memory_on c room len room' len' left same le h = elim h [ inl all ↦ inl (omega (arith, same, le, all)) | inr few ↦ inr few ]

-- marks are no part of what is due
pub memory_marks : (c : Core) (t : Tables (List ℕ)) (xs : Kept) (room len left : ℕ) → HasMemory c room len left → HasMemory (record c { due = t; own = xs }) room len left
memory_marks c t xs room len left h = elim h [ inl all ↦ inl all | inr (few, still) ↦ inr (few, record { no_item = still.no_item; no_stream = still.no_stream }) ]

-- nor is the count of the memory
still_spare : (c : Core) (spare : ℕ) → IsStill c → IsStill (record c { outbox = record c.outbox { spare = spare } })
still_spare c spare h = record { no_item = h.no_item; no_stream = h.no_stream }

-- a packet begins with memory for as many pieces as it holds at most
pub memory_begun : (c : Core) (room count : ℕ) (o : Outgoing) → o ≡ record c.outbox { spare = count } → HoldsAtMost c room count → HasMemory (record c { outbox = o }) room 0 6
memory_begun c room count o is h = grind (arith, nat_tests, still_spare)

-- without a mark nothing of a stream is due
pub still_unmarked : (c : Core) → IsCore c → ((n : ℕ) → IsQuietAt tasks.Bytes c.outbox n) → ((kind : Kind) (n : ℕ) (e : End) → IsIdle (end_of c e) (slot_at kind n)) → IsStill c
still_unmarked c h quiet idle = record { no_item = λ e kind n. idle kind n e; no_stream = λ e n. no_goes c.outbox n (quiet n) c.limits c.recvs e }

-- of the items the one that moves a half is of a stream
abbrev IsOwn : Item → Type 0
IsOwn i = own_items (slot_of i) ≡ 1

own_goes : (i : Item) (e : End) (n : ℕ) → IsOwn i → StreamGoes (frame_put (Control i) e) n → StreamGoes e n
unfolding frame_put
own_goes (MaxData m) e n own = goes_less (frame_put (Control (MaxData m)) e) e n (λ l at. at) (λ left. left) (λ c. put_old (Control (MaxData m)) e (Data n c))
own_goes (MaxStreams d m) e n own = goes_less (frame_put (Control (MaxStreams d m)) e) e n (λ l at. at) (λ left. left) (λ c. put_old (Control (MaxStreams d m)) e (Data n c))
own_goes (DataBlocked m) e n own = goes_less (frame_put (Control (DataBlocked m)) e) e n (λ l at. at) (λ left. left) (λ c. put_old (Control (DataBlocked m)) e (Data n c))
own_goes (StreamsBlocked d m) e n own = goes_less (frame_put (Control (StreamsBlocked d m)) e) e n (λ l at. at) (λ left. left) (λ c. put_old (Control (StreamsBlocked d m)) e (Data n c))
own_goes _ _ _ own = absurd (omega (arith, own))

idle_put : (i : Item) (e : End) (slot : Slot) → IsIdle e slot → IsIdle (frame_put (Control i) e) slot
idle_put i e slot idle j at is = grind (arith, nat_tests, current_by_base, base_item, put_old, acked_by_base)

-- what was told of a slot is told still, whatever item goes in or doesn't fit
pub idle_puts : (t : Limits) (recvs : Tables RecvLane) (o new : Outgoing) (e : End) (i : Item) (before after : List ℕ) (len end : ℕ) (full : Bool) (slot : Slot) → PutsItem i before len o after end new full → IsIdle (end_by t recvs o e) slot → IsIdle (end_by t recvs new e) slot
idle_puts t recvs o new e i before after len end true slot (same, text, out, long) idle = subst (λ (x : Outgoing). IsIdle (end_by t recvs x e) slot) (sym out) idle
idle_puts t recvs o new e i before after len end false slot (text, out) idle =
    subst (λ (x : Outgoing). IsIdle (end_by t recvs x e) slot) (sym out) (subst (λ (x : End). IsIdle x slot) (sym (end_put t recvs o e i)) (idle_put i (end_by t recvs o e) slot idle))

-- an item of the connection goes in, and of the streams nothing is due still
still_put : (c : Core) (i : Item) (o : Outgoing) → IsOwn i → o ≡ item_put_out i c.outbox → IsStill c → IsStill (record c { outbox = o })
still_put c i o own is h =
    subst (λ (x : Outgoing). IsStill (record c { outbox = x })) (sym is)
    (record {
      no_item = λ e kind n. subst (λ (x : End). IsIdle x (slot_at kind n)) (sym (end_put c.limits c.recvs c.outbox e i)) (idle_put i (end_of c e) (slot_at kind n) (h.no_item e kind n));
      no_stream = λ e n goes. h.no_stream e n (own_goes i (end_of c e) n own (subst (λ (x : End). StreamGoes x n) (end_put c.limits c.recvs c.outbox e i) goes));
    })

-- an item that is due is one of the connection's own, where nothing of a stream is
own_due : (c : Core) (e : End) (slot : Slot) (i : Item) → IsStill c → slot_of i ≡ slot → IsCurrent (end_of c e) i → (IsCovered (end_of c e) i → ⊥) → own_items slot ≡ 1
own_due c e (slots.MaxStreamData n) i h at is free = absurd (free (h.no_item e kinds.MaxStreamData n i at is))
own_due c e (slots.ResetStream n) i h at is free = absurd (free (h.no_item e kinds.ResetStream n i at is))
own_due c e (slots.StopSending n) i h at is free = absurd (free (h.no_item e kinds.StopSending n i at is))
own_due c e (slots.StreamDataBlocked n) i h at is free = absurd (free (h.no_item e kinds.StreamDataBlocked n i at is))
own_due _ _ _ _ _ _ _ _ = refl

-- there is memory for an item that is due
pub item_spare : (c : Core) (e : End) (slot : Slot) (i : Item) (room len : ℕ) → HasMemory c room len (own_items slot) → slot_of i ≡ slot → IsCurrent (end_of c e) i → (IsCovered (end_of c e) i → ⊥) → HasOneSpare room len c.outbox.spare
item_spare c e slot i room len h at is free fits = grind (arith, nat_tests, own_due)

-- and for what comes behind it
pub item_memory : (c : Core) (e : End) (slot : Slot) (i : Item) (xs ys : List ℕ) (len end : ℕ) (o : Outgoing) (full : Bool) (room room' left : ℕ) → slot_of i ≡ slot → IsCurrent (end_of c e) i → (IsCovered (end_of c e) i → ⊥)
    → PutsItem i xs len c.outbox ys end o full → (HasSpare room len c.outbox.spare → HasSpare room' end o.spare) → HasMemory c room len left → HasMemory (record c { outbox = o }) room' end (left - own_items slot)
item_memory c e slot i xs ys len end o full room room' left at is free puts spare h = grind (arith, nat_tests, own_due, still_put)

module _ (c : Core) (n : ℕ) (chunk : Chunk) (left fresh : ℕ) (a : Allowed c.outbox n left fresh chunk) (is : fresh ≡ c.limits.known_data - sent_sum c.outbox.sends) where
  -- a chunk that may go is something of a stream
  still_chunk : IsStill c → ⊥
  still_chunk still =
      let (s, h, (next, has)) = a in
      still.no_stream (some_end c) n (chunk_goes (end_of c (some_end c)) n s (ties_of c.limits c.recvs c.outbox (some_end c) n s h) chunk next.chunk (omega (arith, next.within_credit, is)))

  -- so there is memory for it
  pub chunk_spare : (room len own : ℕ) → HasMemory c room len own → HasOneSpare room len c.outbox.spare
  chunk_spare room len own h fits = elim h [ inl all ↦ omega (arith, all, fits) | inr (few, still) ↦ absurd (still_chunk still) ]

  pub chunk_memory : (o : Outgoing) (t : Tables (List ℕ)) (room len room' end own : ℕ) → (HasSpare room len c.outbox.spare → HasSpare room' end o.spare) → HasMemory c room len own → HasMemory (record c { outbox = o; due = t }) room' end (own - 0)
  chunk_memory o t room len room' end own spare h = elim h [ inl all ↦ inl (spare all) | inr (few, still) ↦ absurd (still_chunk still) ]

-- how many items of the connection itself a slot has
pub own_kind : (kind : Kind) (n : ℕ) → own_items (slot_at kind n) ≡ 0
own_kind kind n = grind (arith, nat_tests)
