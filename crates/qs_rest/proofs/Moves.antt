-- What each call of an end, and each frame, leaves of what holds of its sending side.
use Rattle.std.proofs.Common.{◌≡◌, ℕ, ◌-◌, ◌%◌, ◌≤◌, max, Bool, true, false, not, ◌&&◌, List, [], ◌∷◌, length, Option, Some, None, refl, sym, ◌∙◌, subst, arith, inl, inr}
use Rattle.std.specs.Prelude.{cond}
use Rattle.std.proofs.lemmas.Option.{same_Some}
use Rattle.std.proofs.lemmas.Bool.{cond_both, cases_lt}
use Rattle.std.specs.List.{AllByRecursion}
use Rattle.std.specs.FinMap as fmap
use Rattle.qs_wire.specs.declared.stream_id.Dir.TheVariants.{Bidi, Uni}
use Rattle.qs_ranges.specs.Numbers.{MAX_VARINT}
use Rattle.qs_send.specs.Lane.{SendLane, new_lane as new_send_lane, refusal, write_lane, finish_lane, buffer_lane, reset_lane, stop_taken, sent_lane, blocked_lane, allow_lane, acked_lane, reset_acked_lane}
use Rattle.qs_send.specs.declared.piece.Item.{Item}
use Rattle.qs_send.specs.declared.piece.Item.TheVariants.{MaxData, MaxStreamData, MaxStreams, ResetStream, StopSending, DataBlocked, StreamDataBlocked, StreamsBlocked}
use Rattle.qs_send.specs.declared.piece.Piece.{Piece}
use Rattle.qs_send.specs.declared.piece.Piece.TheVariants.{Data, Told}
use Rattle.qs_machine.specs.Tables.{Tables, lookup, updated, open_to}
use Rattle.qs_machine.specs.Ends.{End, AckedItems, on_send, is_own, is_uni, opens, opened_by_peer, first_send_limit}
use Rattle.qs_machine.specs.Setting.{Grant, SendBuffer, StreamWindow}
use Rattle.qs_machine.specs.Seen.{Seen, Ack, Stream, Control}
use Rattle.qs_machine.specs.Acked.{greatest, or_zero}
use Rattle.qs_machine.specs.FrameStep.{AckedPiece, frame_taken, item_taken, piece_acked, item_acked, acks, without_piece, first_acked, named}
use Rattle.qs_machine.specs.Lawful.{frame_put, item_put, chunk_of}
use Rattle.qs_machine.proofs.TableLaws.{slots_updated, slots_opened}
use Rattle.qs_machine.proofs.TablesAfter.{KeptIn, kept_same, kept_twice, kept_updated, kept_open}
use Rattle.qs_runs.specs.Pasts.{Past}
use Rattle.qs_runs.proofs.Members.{insert-cases, get-inserted}
use Rattle.qs_runs.proofs.Acking.{WasAcked}
use Rattle.qs_rest.specs.Invariant.{WasTold, AckedTrue, HalfTrue}
use Rattle.qs_rest.proofs.Halves.{Lasts, lasts_same, lasts_twice, write_lasts, finish_lasts, buffer_lasts, reset_lasts, stopped_lasts, sent_lasts, blocked_lasts, allow_lasts, acked_lasts, reset_acked_lasts, write_true, finish_true, buffer_true, reset_true, stopped_true, sent_true, blocked_true, allow_true, acked_true, reset_acked_true}
use Rattle.qs_machine.specs.EndStep.{Call, Answer, EndStep}
use Rattle.qs_machine.proofs.EveryCall.{Change, changed, Comes, HearsPeer, hears, relates, Wanted, Opened, Written, Finished, WasReset, Raised, WasSet, Took, Acked, Put}
use Rattle.qs_calls.specs.declared.settings.PeerLimits.{PeerLimits}
use Rattle.qs_calls.specs.declared.settings.Tuning.{Tuning}
use Rattle.qs_wire.specs.declared.stream_id.Role.{Role}

-- what holds of a sending half that is open
abbrev pub SlotTrue : Past → ℕ → ℕ → Option SendLane → Type 0
SlotTrue p n first None = Unit {0}
SlotTrue p n first (Some l) = HalfTrue p n first l

-- what holds of the sending halves of an end
abbrev pub AllTrue : Past → End → Type 0
AllTrue p e = (n : ℕ) → SlotTrue p n (first_send_limit e n) (lookup e.sends n)

-- What of an end its sending side is.
pub record Outgoing : Type 0 where
  pub role : Role
  pub peer : PeerLimits
  pub tuning : Tuning
  pub known_data : ℕ
  pub known_bidi : ℕ
  pub known_uni : ℕ
  pub sends : Tables SendLane
  pub acked : AckedItems
  pub first : ℕ → ℕ

abbrev pub outgoing : End → Outgoing
outgoing e =
    record { role = e.role; peer = e.peer; tuning = e.tuning; known_data = e.known_data; known_bidi = e.known_bidi; known_uni = e.known_uni; sends = e.sends; acked = e.acked; first = first_send_limit e }

-- What of it stays, and what holds of it then.
pub record MovedTo (p : Past) (old new : Outgoing) : Type 0 where
  pub role : new.role ≡ old.role
  pub peer : new.peer ≡ old.peer
  pub tuning : new.tuning ≡ old.tuning
  pub conn : old.known_data ≤ new.known_data
  pub bidi : old.known_bidi ≤ new.known_bidi
  pub uni : old.known_uni ≤ new.known_uni
  pub sends : KeptIn Lasts old.sends new.sends
  pub halves : (n : ℕ) → SlotTrue p n (new.first n) (lookup new.sends n)
  pub acked : AckedTrue p new.acked

abbrev pub Moved : Past → End → End → Type 0
Moved p old new = MovedTo p (outgoing old) (outgoing new)

module _ (p : Past) where
  pub moved_twice : (a b c : End) → Moved p a b → Moved p b c → Moved p a c
  moved_twice a b c x y =
      record {
        role = y.role ∙ x.role;
        peer = y.peer ∙ x.peer;
        tuning = y.tuning ∙ x.tuning;
        conn = omega (arith, x.conn, y.conn);
        bidi = omega (arith, x.bidi, y.bidi);
        uni = omega (arith, x.uni, y.uni);
        sends = kept_twice Lasts lasts_same lasts_twice a.sends b.sends c.sends x.sends y.sends;
        halves = y.halves;
        acked = y.acked;
      }

  -- One half changes

  kept_all : (t : Tables SendLane) → KeptIn Lasts t t
  kept_all t = kept_same Lasts lasts_same t

  slots_changed : (e : End) (n : ℕ) (f : SendLane → SendLane) → AllTrue p e → ((l : SendLane) → lookup e.sends n ≡ Some l → HalfTrue p n (first_send_limit e n) l → HalfTrue p n (first_send_limit e n) (f l)) → AllTrue p (on_send n f e)
  slots_changed e n f all change = go (lookup e.sends n) refl
    where
      go : (o : Option SendLane) → lookup e.sends n ≡ o → (m : ℕ) → SlotTrue p m (first_send_limit e m) (lookup (updated e.sends n f o) m)
      go None is = all
      go (Some l) is =
          slots_updated (λ m o. SlotTrue p m (first_send_limit e m) o) e.sends n l (f l) is (λ m other. all m)
          (change l is (subst (SlotTrue p n (first_send_limit e n)) is (all n)))

  pub half_moved : (e : End) (n : ℕ) (f : SendLane → SendLane) → AllTrue p e → AckedTrue p e.acked → ((l : SendLane) → lookup e.sends n ≡ Some l → Lasts l (f l))
      → ((l : SendLane) → lookup e.sends n ≡ Some l → HalfTrue p n (first_send_limit e n) l → HalfTrue p n (first_send_limit e n) (f l)) → Moved p e (on_send n f e)
  half_moved e n f all acked lasts change =
      record {
        role = refl;
        peer = refl;
        tuning = refl;
        conn = omega arith;
        bidi = omega arith;
        uni = omega arith;
        sends = kept_updated Lasts lasts_same e.sends n f lasts;
        halves = slots_changed e n f all change;
        acked = acked;
      }

  -- nothing of it changes
  pub moved_same : (e : End) → AllTrue p e → AckedTrue p e.acked → Moved p e e
  moved_same e all acked =
      record { role = refl; peer = refl; tuning = refl; conn = omega arith; bidi = omega arith; uni = omega arith; sends = kept_all e.sends; halves = all; acked = acked }

  -- Streams open

  begun : (m first buffer : ℕ) → HalfTrue p m first (new_send_lane m first buffer)
  begun m first buffer = record { first_limit = omega arith; small = omega arith; reset_told = λ is. absurd (cc is) }

  same_limit : (e : End) (n m : ℕ) → m % 4 ≡ n % 4 → first_send_limit e m ≡ first_send_limit e n
  same_limit e n m kind = rw kind refl

  opened_slots : (e : End) (n : ℕ) → AllTrue p e → (b : Bool) → (m : ℕ) → SlotTrue p m (first_send_limit e m) (lookup (cond b e.sends (open_to e.sends n (λ k. new_send_lane k (first_send_limit e n) e.settings.send_buffer))) m)
  opened_slots e n all true = all
  opened_slots e n all false =
      slots_opened (λ m o. SlotTrue p m (first_send_limit e m) o) e.sends n (λ k. new_send_lane k (first_send_limit e n) e.settings.send_buffer) all
      (λ m none kind. subst (λ first. HalfTrue p m (first_send_limit e m) (new_send_lane m first e.settings.send_buffer)) (same_limit e n m kind) (begun m (first_send_limit e m) e.settings.send_buffer))

  pub opens_moved : (n : ℕ) (e : End) → AllTrue p e → AckedTrue p e.acked → Moved p e (opens n e)
  opens_moved n e all acked =
      record {
        role = refl;
        peer = refl;
        tuning = refl;
        conn = omega arith;
        bidi = omega arith;
        uni = omega arith;
        sends = cond_both (is_uni n && not (is_own e n)) e.sends _ (KeptIn Lasts e.sends) (λ _. kept_all e.sends) (λ _. kept_open Lasts lasts_same e.sends n (λ m. new_send_lane m (first_send_limit e n) e.settings.send_buffer));
        halves = opened_slots e n all (is_uni n && not (is_own e n));
        acked = acked;
      }

  pub opened_moved : (n : ℕ) (e : End) → AllTrue p e → AckedTrue p e.acked → Moved p e (opened_by_peer n e)
  opened_moved n e all acked = cond_both (is_own e n) e (opens n e) (Moved p e) (λ _. moved_same e all acked) (λ _. opens_moved n e all acked)

  -- A packet

  item_put_moved : (i : Item) (e : End) → AllTrue p e → AckedTrue p e.acked → Moved p e (item_put i e)
  item_put_moved (StreamDataBlocked n m) e all acked = half_moved e n blocked_lane all acked (λ l is. blocked_lasts l) (λ l is h. blocked_true p n _ l h)
  item_put_moved i e all acked = moved_same e all acked

  put_moved : (f : Seen) (e : End) → AllTrue p e → AckedTrue p e.acked → Moved p e (frame_put f e)
  unfolding frame_put
  put_moved (Stream n offset bytes fin) e all acked =
      half_moved e n (λ l. sent_lane l (chunk_of offset bytes fin)) all acked (λ l is. sent_lasts l (chunk_of offset bytes fin)) (λ l is t. sent_true p n _ l t (chunk_of offset bytes fin))
  put_moved (Control i) e all acked = item_put_moved i e all acked
  put_moved _ e all acked = moved_same e all acked

  -- Calls in which it hears nothing of its peer

  moved_change : (old : End) (call : Call) → (HearsPeer call → ⊥) → (c : Change) (e : End) → Comes old call e c → AllTrue p e → AckedTrue p e.acked → Moved p e (changed c e)
  moved_change old call deaf (Wanted Uni count) e comes all acked = moved_same e all acked
  moved_change old call deaf (Opened n) e comes all acked = opens_moved n e all acked
  moved_change old call deaf (Written n bytes l) e comes all acked =
      half_moved e n (λ m. write_lane m bytes) all acked (λ m there. write_lasts m bytes (subst (λ x. refusal x ≡ None) (same_Some l m (sym comes.0 ∙ there)) comes.1))
      (λ m there h. write_true p n _ m h bytes (subst (λ (x : SendLane). length bytes ≤ MAX_VARINT - x.written) (same_Some l m (sym comes.0 ∙ there)) comes.2))
  moved_change old call deaf (Finished n) e comes all acked = half_moved e n finish_lane all acked (λ l is. finish_lasts l) (λ l is h. finish_true p n _ l h)
  moved_change old call deaf (WasReset n code) e comes all acked = half_moved e n (λ m. reset_lane m code) all acked (λ l is. reset_lasts code l) (λ l is h. reset_true p n _ l h code)
  moved_change old call deaf (WasSet (SendBuffer n size)) e comes all acked = half_moved e n (λ m. buffer_lane m size) all acked (λ l is. buffer_lasts l size) (λ l is h. buffer_true p n _ l h size)
  moved_change old call deaf (WasSet (Grant Uni n)) e comes all acked = moved_same e all acked
  moved_change old call deaf (WasSet (StreamWindow n w)) e comes all acked = moved_same e all acked
  moved_change old call deaf (Raised limits) e comes all acked = absurd (deaf (hears call comes))
  moved_change old call deaf (Took f) e comes all acked = absurd (deaf comes.1)
  moved_change old call deaf (Acked count ranges) e comes all acked = absurd (deaf comes)
  moved_change old call deaf (Put f) e comes all acked = put_moved f e all acked
  moved_change old call deaf c e comes all acked = moved_same e all acked

  pub moved_call : (old : End) (call : Call) → (HearsPeer call → ⊥) → AllTrue p old → AckedTrue p old.acked → (answer : Answer call) (new : End) → EndStep old call answer new → Moved p old new
  moved_call old call deaf all acked answer new step =
      relates (λ a b. AllTrue p a → AckedTrue p a.acked → Moved p a b) moved_same (λ a b c x y now told. (let m = x now told in moved_twice a b c m (y m.halves m.acked))) old call (moved_change old call deaf) answer new step all acked

  -- Acknowledgements

  greatest_told : (o : Option ℕ) (value m : ℕ) (T : ℕ → Type 0) → ((k : ℕ) → o ≡ Some k → T k) → T value → greatest o value ≡ Some m → T m
  greatest_told None value m T old new is = subst T (same_Some value m is) new
  greatest_told (Some k) value m T old new is =
      elim (cases_lt k value) [
        | inl lt ↦ (let e : max k value ≡ value = omega (arith, lt) in subst T (sym e ∙ same_Some (max k value) m is) new)
        | inr ge ↦ (let e : max k value ≡ k = omega (arith, ge) in subst T (sym e ∙ same_Some (max k value) m is) (old k refl))
      ]

  stream_told : (o : Option ℕ) (value : ℕ) (T : ℕ → Type 0) → ((k : ℕ) → o ≡ Some k → T k) → T value → T (max (or_zero o) value)
  stream_told None value T old new = (let e : max 0 value ≡ value = omega arith in subst T (sym e) new)
  stream_told (Some k) value T old new =
      elim (cases_lt k value) [
        | inl lt ↦ (let e : max k value ≡ value = omega (arith, lt) in subst T (sym e) new)
        | inr ge ↦ (let e : max k value ≡ k = omega (arith, ge) in subst T (sym e) (old k refl))
      ]

  with_items : (e : End) (a : AckedItems) → AllTrue p e → AckedTrue p a → Moved p e (record e { acked = a })
  with_items e a all h = record { role = refl; peer = refl; tuning = refl; conn = omega arith; bidi = omega arith; uni = omega arith; sends = kept_all e.sends; halves = all; acked = h }

  item_acked_moved : (i : Item) (e : End) → WasTold p i → AllTrue p e → AckedTrue p e.acked → Moved p e (item_acked i e)
  item_acked_moved (MaxData m) e told all h =
      with_items e _ all (record { conn = λ k is. greatest_told e.acked.max_data m k (λ x. WasTold p (MaxData x)) h.conn told is; streams = h.streams; bidi = h.bidi; uni = h.uni; stops = h.stops })
  item_acked_moved (MaxStreamData n m) e told all h =
      with_items e _ all (record {
        conn = h.conn;
        streams = λ j k is. elim (get-inserted e.acked.max_stream_data n (max (or_zero (fmap.get e.acked.max_stream_data n)) m) j k is) [
          | inl old ↦ h.streams j k old
          | inr new ↦ subst (λ x. WasTold p (MaxStreamData x k)) (sym new.0) (subst (λ x. WasTold p (MaxStreamData n x)) new.1 (stream_told (fmap.get e.acked.max_stream_data n) m (λ x. WasTold p (MaxStreamData n x)) (λ x at. h.streams n x at) told))
        ];
        bidi = h.bidi;
        uni = h.uni;
        stops = h.stops;
      })
  item_acked_moved (MaxStreams Bidi m) e told all h =
      with_items e _ all (record { conn = h.conn; streams = h.streams; bidi = λ k is. greatest_told e.acked.bidi_streams m k (λ x. WasTold p (MaxStreams Bidi x)) h.bidi told is; uni = h.uni; stops = h.stops })
  item_acked_moved (MaxStreams Uni m) e told all h =
      with_items e _ all (record { conn = h.conn; streams = h.streams; bidi = h.bidi; uni = λ k is. greatest_told e.acked.uni_streams m k (λ x. WasTold p (MaxStreams Uni x)) h.uni told is; stops = h.stops })
  item_acked_moved (ResetStream n code size) e told all h =
      half_moved e n reset_acked_lane all h (λ l is. reset_acked_lasts l) (λ l is t. reset_acked_true p n _ l t (code, size, told))
  item_acked_moved (StopSending n code) e told all h =
      with_items e _ all (record {
        conn = h.conn;
        streams = h.streams;
        bidi = h.bidi;
        uni = h.uni;
        stops = λ j is. elim (insert-cases e.acked.stop_sending n j is) [
          | inl same ↦ (code, subst (λ x. WasTold p (StopSending x code)) (sym same) told)
          | inr old ↦ h.stops j old
        ];
      })
  item_acked_moved (StreamsBlocked Bidi m) e told all h = with_items e _ all (record { conn = h.conn; streams = h.streams; bidi = h.bidi; uni = h.uni; stops = h.stops })
  item_acked_moved _ e told all h = with_items e _ all (record { conn = h.conn; streams = h.streams; bidi = h.bidi; uni = h.uni; stops = h.stops })

  piece_moved : (a : AckedPiece) (e : End) → WasAcked p a → AllTrue p e → AckedTrue p e.acked → Moved p e (piece_acked a.piece e)
  piece_moved a e was all acked = go a.piece refl
    where
      go : (x : Piece) → a.piece ≡ x → Moved p e (piece_acked x e)
      go (Data n c) is = half_moved e n (λ l. acked_lane l c) all acked (λ l at. acked_lasts l c) (λ l at h. acked_true p n _ l h c)
      go (Told i) is = item_acked_moved i e (a.number, rw is at was.0, was.1) all acked

  pub acks_moved : (pieces : List AckedPiece) (e : End) → AllByRecursion (WasAcked p) pieces → AllTrue p e → AckedTrue p e.acked → Moved p e (acks pieces e)
  unfolding acks
  acks_moved [] e was all acked = moved_same e all acked
  acks_moved (a ∷ pieces) e was all acked =
      let short = without_piece a.late a.number e in
      let one = piece_moved a short was.0 all acked in
      moved_twice e (first_acked a e) (acks pieces (first_acked a e)) one (acks_moved pieces (first_acked a e) was.1 one.halves one.acked)

  -- A frame that takes effect

  changed_moved : (n : ℕ) (f : SendLane → SendLane) (e : End) → AllTrue p e → AckedTrue p e.acked → ((l : SendLane) → Lasts l (f l))
      → ((l : SendLane) → HalfTrue p n (first_send_limit (opened_by_peer n e) n) l → HalfTrue p n (first_send_limit (opened_by_peer n e) n) (f l)) → Moved p e (on_send n f (opened_by_peer n e))
  changed_moved n f e all acked lasts change =
      let one = opened_moved n e all acked in
      moved_twice e (opened_by_peer n e) (on_send n f (opened_by_peer n e)) one (half_moved (opened_by_peer n e) n f one.halves one.acked (λ l is. lasts l) (λ l is. change l))

  pub item_moved : (i : Item) (e : End) → AllTrue p e → AckedTrue p e.acked → Moved p e (item_taken i e)
  item_moved (MaxStreamData n m) e all acked = changed_moved n (λ l. allow_lane l m) e all acked (λ l. allow_lasts l m) (λ l h. allow_true p n _ l h m)
  item_moved (MaxStreams Bidi m) e all acked = record { role = refl; peer = refl; tuning = refl; conn = omega arith; bidi = omega arith; uni = omega arith; sends = kept_all e.sends; halves = all; acked = acked }
  item_moved (ResetStream n code size) e all acked = opened_moved n e all acked
  item_moved (StopSending n code) e all acked = changed_moved n (λ l. stop_taken e.tuning.answers_stops l code) e all acked (stopped_lasts e.tuning.answers_stops code) (λ l h. stopped_true p n _ l h e.tuning.answers_stops code)
  item_moved (DataBlocked m) e all acked = moved_same e all acked
  item_moved (StreamDataBlocked n m) e all acked = opened_moved n e all acked
  item_moved (StreamsBlocked d m) e all acked = moved_same e all acked
  item_moved _ e all acked = record { role = refl; peer = refl; tuning = refl; conn = omega arith; bidi = omega arith; uni = omega arith; sends = kept_all e.sends; halves = all; acked = acked }

  pub frame_moved : (f : Seen) (e : End) → ((largest : ℕ) (ranges : List (ℕ × ℕ)) → f ≡ Ack largest ranges → AllByRecursion (WasAcked p) (named e ranges)) → AllTrue p e → AckedTrue p e.acked → Moved p e (frame_taken f e)
  unfolding frame_taken
  frame_moved (Ack largest ranges) e was all acked = acks_moved (named e ranges) e (was largest ranges refl) all acked
  frame_moved (Stream n offset bytes fin) e was all acked = opened_moved n e all acked
  frame_moved (Control i) e was all acked = item_moved i e all acked
  frame_moved _ e was all acked = moved_same e all acked
