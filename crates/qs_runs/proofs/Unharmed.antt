-- What a peer made offends against no rule of the end that it comes to.
use Rattle.std.proofs.lemmas.Bool.Decides.{nat_tests}
use Rattle.std.proofs.Common.{◌≡◌, ℕ, ◌+◌, ◌-◌, ◌/◌, ◌<◌, ◌≤◌, max, Bool, true, false, not, List, ◌⊎◌, length, Option, Some, None, Result, IsOk, unwrap_or, is_some, is_none, slice_get, refl, sym, ap, ◌∙◌, subst, arith, inl, inr, if◌then◌else◌, nat_le, le_antisymm, nat_cmp}
use Rattle.std.proofs.lemmas.Option.{slice_get_within}
use Rattle.std.proofs.lemmas.Bool.{true≢false, false≢true, cases_eq, lt-leb, and_right}
use Rattle.std.specs.FinSet as set
use Rattle.qs_ranges.specs.Numbers.{end_of}
use Rattle.qs_recv.specs.Lane.{RecvLane, highest, check_stream, check_reset, check_bytes, new_lane as new_recv_lane}
use Rattle.qs_recv.specs.declared.credit.Share.{Share}
use Rattle.qs_recv.specs.Bytes.{byte_at}
use Rattle.qs_recv.specs.Laws.{IsSent, IsPart}
use Rattle.qs_recv.proofs.LawfulLaws.{sent_passes}
use Rattle.qs_recv.specs.declared.half.RecvFault.{RecvFault}
use Rattle.qs_send.specs.Lane.{SendLane}
use Rattle.qs_send.specs.declared.piece.Item.TheVariants.{MaxData, MaxStreamData, ResetStream, StopSending, StreamDataBlocked}
use Rattle.qs_machine.specs.Tables.{Tables, lookup, update, total, open_to}
use Rattle.qs_machine.specs.Ends.{End, first_send_limit, first_window, is_own, is_uni, opens, opened_by_peer, recv_lane, send_lane}
use Rattle.qs_machine.specs.Credit.{spent, all_sent, grant}
use Rattle.qs_machine.specs.Seen.{Seen, Ack, Stream, Control}
use Rattle.qs_machine.specs.Verdicts.{verdict, item_verdict, state_fault_in, state_fault_out, credit_fault, bytes_fault, fault_of, ack_fault, fault_if, or_else, lane_of, STREAM_STATE_ERROR, STREAM_LIMIT_ERROR}
use Rattle.qs_runs.proofs.Members.{end-le}
use Rattle.qs_machine.proofs.TableLaws.{value, total_le, total_update, total_open, lookup_same, lookup_other, open_lower}
use Rattle.qs_runs.specs.Pasts.{Past, Tells, TellsEnd, TellsReset, IsNamed, Names}
use Rattle.qs_runs.specs.Invariant.{EndOk, SendSlot, NeverSent, RecvTrue, RecvSlot, NeverReceived, TellsUpTo, is_open}
use Rattle.qs_runs.proofs.Agreement.{byte_written}
use Rattle.qs_runs.proofs.Frames.{opened_ok, named_by, lane_opened, opened_at}
use Rattle.qs_machine.proofs.EveryCall.{same_either}

abbrev sent_of : Option SendLane → ℕ
sent_of o = value (λ l. l.sent_end) o

-- Two ends that face each other: f's first limits are at most what e granted, and f knows of no more streams than e grants.
pub record Facing (e f : End) : Type 0 where
  pub opposite : (n : ℕ) → is_own f n ≡ not (is_own e n)
  pub first_limit : (n : ℕ) → first_send_limit f n ≤ first_window e n
  pub first_data : f.peer.max_data ≤ e.settings.conn_window
  pub bidi : f.known_bidi ≤ e.granted_bidi
  pub uni : f.known_uni ≤ e.granted_uni

-- what an end processed its peer made
abbrev pub ProcessedWasMade : Past → Type 0
ProcessedWasMade q = (k : ℕ) → q.processed k ≡ true → (fs : List Seen) × (slice_get q.theirs k ≡ Some fs)

module _ (p q : Past) (from : p.theirs ≡ q.mine) (n limit w : ℕ) where
  -- what was received lies below the sent end, and a final size is the sent end
  received_sent : (o : Option SendLane) → SendSlot q n limit o → (y : ℕ) → TellsUpTo p.theirs n y → y < sent_of o
  received_sent None h y (m, le, (offset, bytes, fin, t, low, high)) = absurd (h.no_stream offset bytes fin (rw from at t))
  received_sent (Some l) h y (m, le, (offset, bytes, fin, t, low, high)) = omega (arith, (h.told offset bytes fin (rw from at t)).below)

  end_sent : (o : Option SendLane) → SendSlot q n limit o → (size : ℕ) → TellsEnd p.theirs n size → size ≡ sent_of o
  end_sent None h size (offset, bytes, t, is) = absurd (h.no_stream offset bytes true (rw from at t))
  end_sent (Some l) h size (offset, bytes, t, is) =
      let (sent, at) = (h.told offset bytes true (rw from at t)).end refl in
      sym is ∙ at ∙ sym (h.end sent).1

  reset_sent : (o : Option SendLane) → SendSlot q n limit o → (code size : ℕ) → TellsReset p.theirs n code size → size ≡ sent_of o
  reset_sent None h code size t = absurd (h.no_reset code size (rw from at t))
  reset_sent (Some l) h code size t = h.reset_size _ (h.told_reset code size (rw from at t))

  pub final_sent : (o : Option SendLane) (r : RecvLane) → SendSlot q n limit o → RecvTrue p.mine p.theirs (p.gave n) (p.stopped n) (p.ended n) n w r → (size : ℕ) → r.final_size ≡ Some size → size ≡ sent_of o
  final_sent o r hs hr size is =
      elim (hr.final size is) [
        | inl t ↦ end_sent o hs size t
        | inr t ↦ reset_sent o hs t.0 size t.2
      ]

  highest_sent : (o : Option SendLane) (r : RecvLane) → SendSlot q n limit o → RecvTrue p.mine p.theirs (p.gave n) (p.stopped n) (p.ended n) n w r → highest r ≤ sent_of o
  highest_sent o r hs hr = go r.final_size refl
    where
      go : (x : Option ℕ) → r.final_size ≡ x → unwrap_or x (end_of r.arrived.received) ≤ sent_of o
      go (Some size) is = (let same = final_sent o r hs hr size is in omega (arith, same))
      go None is = end-le r.arrived.received (sent_of o) (λ y has_it. received_sent o hs y (hr.received y has_it))

-- the checks of size and credit, from orders
no_fault_from : (b : Bool) (code : ℕ) → b ≡ false → fault_if b code ≡ None
no_fault_from b code e = rw e refl

both_none : (a b : Option ℕ) → a ≡ None → b ≡ None → or_else a b ≡ None
both_none a b ea eb = rw ea eb

stream_checked : (e : End) (r : RecvLane) (sent offset n : ℕ) (fin : Bool) → ((size : ℕ) → r.final_size ≡ Some size → size ≡ sent) → highest r ≤ sent → offset + n ≤ sent → (fin ≡ true → offset + n ≡ sent) →
    sent ≤ r.limit → spent e + (max (highest r) (offset + n) - highest r) ≤ e.granted → credit_fault e (check_stream r offset n fin) ≡ None
stream_checked e r sent offset n fin known high le at_end limit credit = grind (arith, nat_tests)

reset_checked : (e : End) (r : RecvLane) (size : ℕ) → ((known : ℕ) → r.final_size ≡ Some known → known ≡ size) → highest r ≤ size → size ≤ r.limit → spent e + (size - highest r) ≤ e.granted → credit_fault e (check_reset r size) ≡ None
reset_checked e r size known high limit credit = grind (arith, nat_tests)

-- a byte of a frame, by its place in it
byte_of : (offset : ℕ) (bytes : List ℕ) (y b : ℕ) → byte_at offset bytes y ≡ Some b → (offset ≤ y) × (slice_get bytes (y - offset) ≡ Some b)
byte_of offset bytes y b is = grind (arith, nat_tests)

bytes_checked : (r : Result (Unit {0}) RecvFault) → IsOk r → fault_of r ≡ None
bytes_checked r ok = grind (arith, nat_tests)

-- What was told of a stream shows that it is open.
module _ (p : Past) (e : End) (ok : EndOk p e) where
  send_is_open : (m : ℕ) → (NeverSent p.mine (p.bytes m) m → ⊥) → is_open e.sends m ≡ true
  send_is_open m sent = grind (arith, nat_tests)

  recv_is_open : (m : ℕ) → (NeverReceived p.mine (p.gave m) (p.stopped m) (p.ended m) m → ⊥) → is_open e.recvs m ≡ true
  recv_is_open m sent = grind (arith, nat_tests)

module _ (p q : Past) (from : p.theirs ≡ q.mine) (back : q.theirs ≡ p.mine) (e f : End) (facing : Facing e f) (ok : EndOk p e) (their : EndOk q f) where
  slot_le : (m : ℕ) (x : Option RecvLane) → RecvSlot p m (first_window e m) x → value highest x ≤ sent_of (lookup f.sends m)
  slot_le m None h = omega arith
  slot_le m (Some r) h = highest_sent p q from m (first_send_limit f m) (first_window e m) (lookup f.sends m) r (their.sends m) h

  pub spent_le : spent e ≤ all_sent f
  spent_le = total_le highest (λ l. l.sent_end) e.recvs f.sends (λ m. slot_le m (lookup e.recvs m) (ok.recvs m))

  -- the peer's connection limit, as far as it is known there, was granted here
  pub data_granted : f.known_data ≤ e.granted
  data_granted =
      elim their.credit.known_told [
        | inl first ↦ omega (arith, first, facing.first_data, ok.credit.window_granted)
        | inr told ↦ ok.credit.granted_told _ (subst (λ x. Tells x (Control (MaxData f.known_data))) back told)
      ]

  -- what the peer sent is within what this end granted
  sent_granted : all_sent f ≤ e.granted
  sent_granted = (let within : all_sent f ≤ f.known_data = their.credit.sent_known in omega (arith, data_granted))

  -- one lane may grow up to what was sent of it
  growth_fine : (n : ℕ) (r : RecvLane) (end : ℕ) → lookup e.recvs n ≡ Some r → highest r ≤ end → end ≤ sent_of (lookup f.sends n) → spent e + (end - highest r) ≤ e.granted
  growth_fine n r end is low le =
      omega (arith, total_update highest e.recvs n r grown is, total_le highest (λ l. l.sent_end) (update e.recvs n grown) f.sends at_most, sent_granted)
    where
      grown : RecvLane
      grown = record r { final_size = Some end }

      at_most : (m : ℕ) → value highest (lookup (update e.recvs n grown) m) ≤ sent_of (lookup f.sends m)
      at_most m =
          elim (cases_eq m n) [
            | inl same ↦ subst (λ k. value highest (lookup (update e.recvs n grown) k) ≤ sent_of (lookup f.sends k)) (sym same) (rw (lookup_same e.recvs n r grown is) le)
            | inr ne ↦ rw (lookup_other e.recvs n m grown ne) (slot_le m (lookup e.recvs m) (ok.recvs m))
          ]

  pub lane_limit : (n : ℕ) (l : SendLane) (r : RecvLane) → lookup f.sends n ≡ Some l → lookup e.recvs n ≡ Some r → l.limit ≤ r.limit
  lane_limit n l r there is =
      let hs = subst (SendSlot q n (first_send_limit f n)) there (their.sends n) in
      let hr = subst (RecvSlot p n (first_window e n)) is (ok.recvs n) in
      elim hs.limit_told [
        | inl first ↦ omega (arith, first, facing.first_limit n, hr.window_granted)
        | inr told ↦ hr.limit_told _ (subst (λ x. Tells x (Control (MaxStreamData n l.limit))) back told)
      ]

  -- a stream that this end named is open at it
  told_names : (g : Seen) (m : ℕ) → Tells p.mine g → Names g m → (is_open e.sends m ≡ true) ⊎ (is_open e.recvs m ≡ true)
  told_names (Stream k offset bytes fin) m t is = inl (send_is_open p e ok m (λ h. h.no_stream offset bytes fin (subst (λ x. Tells p.mine (Stream x offset bytes fin)) is t)))
  told_names (Control (ResetStream k code size)) m t is = inl (send_is_open p e ok m (λ h. h.no_reset code size (subst (λ x. Tells p.mine (Control (ResetStream x code size))) is t)))
  told_names (Control (StreamDataBlocked k limit)) m t is = inl (send_is_open p e ok m (λ h. h.no_blocked limit (subst (λ x. Tells p.mine (Control (StreamDataBlocked x limit))) is t)))
  told_names (Control (StopSending k code)) m t is = inr (recv_is_open p e ok m (λ h. h.no_stop code (subst (λ x. Tells p.mine (Control (StopSending x code))) is t)))
  told_names (Control (MaxStreamData k limit)) m t is = inr (recv_is_open p e ok m (λ h. h.no_limit limit (subst (λ x. Tells p.mine (Control (MaxStreamData x limit))) is t)))
  told_names g m t is = absurd is

  pub own_sends : (n : ℕ) → is_own e n ≡ true → IsNamed q.theirs n → is_open e.sends n ≡ true
  own_sends n own (g, m, t, names, kind, le) =
      let own_m : is_own e m ≡ true = (rw kind own) in
      elim (told_names g m (subst (λ x. Tells x g) back t) names) [
        | inl sends ↦ open_lower e.sends n m kind le sends
        | inr recvs ↦ open_lower e.sends n m kind le (ok.streams.own_recv m recvs own_m).1
      ]

  own_theirs : (n : ℕ) → is_own e n ≡ true → is_own f n ≡ false
  own_theirs n own = facing.opposite n ∙ ap not own

  theirs_own : (n : ℕ) → is_own e n ≡ false → is_own f n ≡ true
  theirs_own n own = facing.opposite n ∙ ap not own

  known_granted : (n : ℕ) (b : Bool) → n / 4 < (if b then f.known_uni else f.known_bidi) → n / 4 < (if b then e.granted_uni else e.granted_bidi)
  known_granted n b lt = grind (arith, nat_tests)

  not_none : {X : Type 0} (o : Option X) → is_some o ≡ true → is_none o ≡ false
  not_none o e = grind (arith, nat_tests)

  grant_fine : (n : ℕ) → is_open f.sends n ≡ true → is_own e n ≡ false → fault_if (nat_le (grant e n) (n / 4)) STREAM_LIMIT_ERROR ≡ None
  grant_fine n sends own = no_fault_from _ 4 (lt-leb (grant e n) (n / 4) (known_granted n (is_uni n) (their.streams.own_send n sends (theirs_own n own))))

  -- the lane on which the peer sends is open here, or may be opened
  recvs_own : (n : ℕ) → is_open f.sends n ≡ true → is_own e n ≡ true → is_open e.recvs n ≡ true
  recvs_own n sends own =
      let (bidi, named) = their.streams.their_send n sends (own_theirs n own) in
      ok.streams.own_both n (own_sends n own named) own bidi

  pub state_in_fine : (n : ℕ) → is_open f.sends n ≡ true → state_fault_in e n ≡ None
  state_in_fine n sends = go (is_own e n) refl
    where
      go : (b : Bool) → is_own e n ≡ b → (if b then fault_if (is_none (recv_lane e n)) STREAM_STATE_ERROR else fault_if (nat_le (grant e n) (n / 4)) STREAM_LIMIT_ERROR) ≡ None
      go true own = no_fault_from _ 5 (not_none _ (recvs_own n sends own))
      go false own = grant_fine n sends own

  pub state_out_fine : (n : ℕ) → is_open f.recvs n ≡ true → state_fault_out e n ≡ None
  state_out_fine n recvs = go (is_own e n) refl (is_uni n) refl
    where
      go : (b : Bool) → is_own e n ≡ b → (u : Bool) → is_uni n ≡ u → (if b then fault_if (is_none (send_lane e n)) STREAM_STATE_ERROR else (if u then Some STREAM_STATE_ERROR else fault_if (nat_le (grant e n) (n / 4)) STREAM_LIMIT_ERROR)) ≡ None
      go true own u uni = no_fault_from _ 5 (not_none _ (own_sends n own (their.streams.their_recv n recvs (own_theirs n own))))
      go false own true uni = absurd (true≢false (sym uni ∙ (their.streams.own_recv n recvs (theirs_own n own)).0))
      go false own false uni = grant_fine n (their.streams.own_recv n recvs (theirs_own n own)).1 own

-- the same ends, once the stream that a frame names is open
facing_by : (e f : End) (n : ℕ) (b : Bool) → Facing e f → Facing (if b then e else opens n e) f
facing_by e f n b h = grind (arith, nat_tests)

total_by : (t : Tables RecvLane) (n window : ℕ) (share : Share) (b : Bool) → total highest (if b then t else open_to t n (λ m. new_recv_lane window share)) ≡ total highest t
total_by t n window share true = refl
total_by t n window share false = total_open highest t n (λ m. new_recv_lane window share) (λ m. (le_antisymm (end-le set.empty 0 (λ q is. absurd (false≢true (sym (set.contains-empty nat_cmp q) ∙ is)))) (omega arith)))

-- opening spends nothing
pub spent_opened : (e : End) (n : ℕ) (b : Bool) → spent (if b then e else opens n e) ≡ spent e
spent_opened e n true = refl
spent_opened e n false = total_by e.recvs n (first_window e n) e.tuning.credit_step _

module _ (p q : Past) (from : p.theirs ≡ q.mine) (back : q.theirs ≡ p.mine) (e f : End) (facing : Facing e f) (ok : EndOk p e) (their : EndOk q f) where
  -- the receiving half of a stream that the peer named
  half_open : (n : ℕ) → is_open f.sends n ≡ true → (b : Bool) → is_own e n ≡ b → is_open (if b then e else opens n e).recvs n ≡ true
  half_open n sends true own = recvs_own p q from back e f facing ok their n sends own
  half_open n sends false own = opened_at e.recvs n _ _ (and_right _ _ own)

  module _ (n : ℕ) (g : Seen) (t : Tells q.mine g) (names : Names g n) where
    opened : EndOk p (opened_by_peer n e)
    opened = opened_ok p e n ok (named_by p g n (subst (λ x. Tells x g) (sym from) t) names) (is_own e n) refl

    facing_then : Facing (opened_by_peer n e) f
    facing_then = facing_by e f n (is_own e n) facing

    half_ok : (r : RecvLane) → lookup (opened_by_peer n e).recvs n ≡ Some r → RecvSlot p n (first_window (opened_by_peer n e) n) (Some r)
    half_ok r is = subst (RecvSlot p n (first_window (opened_by_peer n e) n)) is (opened.recvs n)

    -- the half's limit and the connection's leave room up to what was sent
    room_at : (r : RecvLane) → lookup (opened_by_peer n e).recvs n ≡ Some r → (l : SendLane) → lookup f.sends n ≡ Some l → (end : ℕ) → highest r ≤ end → end ≤ l.sent_end → (l.sent_end ≤ r.limit) × (spent e + (end - highest r) ≤ e.granted)
    room_at r is l there end low le =
        let hs = subst (SendSlot q n (first_send_limit f n)) there (their.sends n) in
        let grown : spent (opened_by_peer n e) + (end - highest r) ≤ (opened_by_peer n e).granted = growth_fine p q from back (opened_by_peer n e) f facing_then opened their n r end is low (subst (λ o. end ≤ sent_of o) (sym there) le) in (
          omega (arith, hs.sent_limit, lane_limit p q from back (opened_by_peer n e) f facing_then opened their n l r there is),
          omega (arith, grown, spent_opened e n (is_own e n), same_either (λ (x : End). x.granted) (is_own e n) e (opens n e) refl),
        )

    known_sent : (r : RecvLane) → lookup (opened_by_peer n e).recvs n ≡ Some r → (l : SendLane) → lookup f.sends n ≡ Some l → ((size : ℕ) → r.final_size ≡ Some size → size ≡ l.sent_end) × (highest r ≤ l.sent_end)
    known_sent r is l there = (
      λ size final. final_sent p q from n (first_send_limit f n) (first_window (opened_by_peer n e) n) (lookup f.sends n) r (their.sends n) (half_ok r is) size final ∙ ap sent_of there,
      subst (λ o. highest r ≤ sent_of o) there (highest_sent p q from n (first_send_limit f n) (first_window (opened_by_peer n e) n) (lookup f.sends n) r (their.sends n) (half_ok r is)),
    )

  stream_lane : (n offset : ℕ) (bytes : List ℕ) (fin : Bool) → Tells q.mine (Stream n offset bytes fin) → (o : Option RecvLane) → lookup (opened_by_peer n e).recvs n ≡ o → is_some o ≡ true → (s : Option SendLane) → lookup f.sends n ≡ s → SendSlot q n (first_send_limit f n) s →
      credit_fault e (check_stream (lane_of e n) offset (length bytes) fin) ≡ None
  stream_lane n offset bytes fin t None is some s there hs = absurd (false≢true some)
  stream_lane n offset bytes fin t (Some r) is some None there hs = absurd (hs.no_stream offset bytes fin t)
  stream_lane n offset bytes fin t (Some r) is some (Some l) there hs =
      let c = hs.told offset bytes fin t in
      let (known, high) = known_sent n _ t refl r is l there in
      let below : offset + length bytes ≤ l.sent_end = c.below in
      let (limit, credit) = room_at n _ t refl r is l there (max (highest r) (offset + length bytes)) (omega arith) (omega arith) in
      subst (λ x. credit_fault e (check_stream x offset (length bytes) fin) ≡ None) (sym (lane_opened e n r (is_own e n) refl is))
      (stream_checked e r l.sent_end offset (length bytes) fin known high below (λ set. (c.end set).1 ∙ sym (hs.end (c.end set).0).1) limit credit)

  -- what is stored of the stream is what was written there, and so is what comes
  bytes_lane : (n offset : ℕ) (bytes : List ℕ) (fin : Bool) → Tells q.mine (Stream n offset bytes fin) → (o : Option RecvLane) → lookup (opened_by_peer n e).recvs n ≡ o → is_some o ≡ true → bytes_fault e n offset bytes ≡ None
  bytes_lane n offset bytes fin t None is some = absurd (false≢true some)
  bytes_lane n offset bytes fin t (Some r) is some =
      let written = byte_written q p n (first_send_limit f n) (first_window e n) from (lookup f.sends n) (their.sends n) in
      let half = half_ok n _ t refl r is in
      let stored : IsSent (q.bytes n) r.arrived = λ y b at. written y b (half.stored y b at) in
      let carried : IsPart (q.bytes n) offset bytes = λ y b at.
      let c = byte_of offset bytes y b at in
      written y b (offset, bytes, fin, subst (λ x. Tells x (Stream n offset bytes fin)) (sym from) t, c.0, c.1) in
      subst (λ x. fault_of (check_bytes x offset bytes) ≡ None) (sym (lane_opened e n r (is_own e n) refl is))
      (bytes_checked (check_bytes r offset bytes) (sent_passes (q.bytes n) r offset bytes stored carried))

  reset_lane_fine : (n code size : ℕ) → Tells q.mine (Control (ResetStream n code size)) → (o : Option RecvLane) → lookup (opened_by_peer n e).recvs n ≡ o → is_some o ≡ true → (s : Option SendLane) → lookup f.sends n ≡ s → SendSlot q n (first_send_limit f n) s →
      credit_fault e (check_reset (lane_of e n) size) ≡ None
  reset_lane_fine n code size t None is some s there hs = absurd (false≢true some)
  reset_lane_fine n code size t (Some r) is some None there hs = absurd (hs.no_reset code size t)
  reset_lane_fine n code size t (Some r) is some (Some l) there hs =
      let same : size ≡ l.sent_end = hs.reset_size _ (hs.told_reset code size t) in
      let (known, high) = known_sent n _ t refl r is l there in
      let (limit, credit) = room_at n _ t refl r is l there size (omega arith) (omega arith) in
      subst (λ x. credit_fault e (check_reset x size) ≡ None) (sym (lane_opened e n r (is_own e n) refl is))
      (reset_checked e r size (λ k final. known k final ∙ sym same) (omega arith) (omega arith) credit)

  stream_fine : (n offset : ℕ) (bytes : List ℕ) (fin : Bool) → Tells q.mine (Stream n offset bytes fin) → verdict e (Stream n offset bytes fin) ≡ None
  unfolding verdict
  stream_fine n offset bytes fin t =
      let sends : is_open f.sends n ≡ true = send_is_open q f their n (λ h. h.no_stream offset bytes fin t) in
      let there = half_open n sends (is_own e n) refl in
      both_none _ _ (state_in_fine p q from back e f facing ok their n sends)
      (both_none (credit_fault e (check_stream (lane_of e n) offset (length bytes) fin)) (bytes_fault e n offset bytes) (stream_lane n offset bytes fin t (lookup (opened_by_peer n e).recvs n) refl there (lookup f.sends n) refl (their.sends n))
      (bytes_lane n offset bytes fin t (lookup (opened_by_peer n e).recvs n) refl there))

  reset_fine : (n code size : ℕ) → Tells q.mine (Control (ResetStream n code size)) → item_verdict e (ResetStream n code size) ≡ None
  reset_fine n code size t =
      let sends : is_open f.sends n ≡ true = send_is_open q f their n (λ h. h.no_reset code size t) in
      both_none _ _ (state_in_fine p q from back e f facing ok their n sends)
      (reset_lane_fine n code size t (lookup (opened_by_peer n e).recvs n) refl (half_open n sends (is_own e n) refl) (lookup f.sends n) refl (their.sends n))

  ack_fine : ProcessedWasMade q → (largest : ℕ) (ranges : List (ℕ × ℕ)) → Tells q.mine (Ack largest ranges) → ack_fault e largest ≡ None
  ack_fine was_made largest ranges t =
      let ack = their.packets.acks_told largest ranges t in
      let (fs, there) = was_made largest (ack.names_processed largest ack.names_largest) in
      let below : largest < length p.mine = slice_get_within p.mine largest fs (subst (λ x. slice_get x largest ≡ Some fs) back there) in
      no_fault_from _ 10 (lt-leb e.next largest (omega (arith, ok.packets.count)))

  pub told_fine : ProcessedWasMade q → (g : Seen) → Tells q.mine g → verdict e g ≡ None
  unfolding verdict
  told_fine was_made (Ack largest ranges) t = ack_fine was_made largest ranges t
  told_fine was_made (Stream n offset bytes fin) t = stream_fine n offset bytes fin t
  told_fine was_made (Control (MaxStreamData n m)) t = state_out_fine p q from back e f facing ok their n (recv_is_open q f their n (λ h. h.no_limit m t))
  told_fine was_made (Control (ResetStream n code size)) t = reset_fine n code size t
  told_fine was_made (Control (StopSending n code)) t = state_out_fine p q from back e f facing ok their n (recv_is_open q f their n (λ h. h.no_stop code t))
  told_fine was_made (Control (StreamDataBlocked n m)) t = state_in_fine p q from back e f facing ok their n (send_is_open q f their n (λ h. h.no_blocked m t))
  told_fine was_made g t = refl
