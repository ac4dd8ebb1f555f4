-- What came of the peer took effect, for good: an item, a payload, and frames alone.
use Rattle.std.proofs.Common.{◌≡◌, ℕ, ◌≤◌, Bool, true, false, not, ◌&&◌, ◌||◌, ◌==◌, ◌⊎◌, List, [], ◌∷◌, Option, Some, None, is_some, is_none, refl, sym, ap, ◌∙◌, subst, arith, inl, inr, ◌++◌, take, Result, Ok, Err, append-nil, append_assoc, MatchBool}
use Rattle.std.specs.Prelude.{cond}
use Rattle.std.proofs.lemmas.Option.{none-some}
use Rattle.std.proofs.lemmas.Bool.{and_parts, or_cases, eqb-true, true≢false, false≢true}
use Rattle.std.specs.List.{AllByRecursion}
use Rattle.qs_ranges.proofs.Sets.{covers-is, covers-of}
use Rattle.qs_wire.specs.declared.stream_id.Dir.TheVariants.{Bidi, Uni}
use Rattle.qs_recv.specs.Assembled.{forget}
use Rattle.qs_recv.specs.Lane.{RecvLane, take_reset, is_whole, whole_to, raise}
use Rattle.qs_send.specs.Lane.{SendLane, allow_lane, broken_off, first_code, stop_taken, unacked_from, is_whole as send_whole}
use Rattle.qs_send.specs.declared.parts.SendFault.TheVariants.{Finished, WasReset}
use Rattle.qs_send.specs.declared.piece.Item.{Item}
use Rattle.qs_send.specs.declared.piece.Item.TheVariants.{MaxData, MaxStreamData, MaxStreams, ResetStream, StopSending}
use Rattle.qs_machine.specs.Tables.{lookup, updated, open_to}
use Rattle.qs_machine.specs.Ends.{End, is_own, is_uni, opens, opened_by_peer, first_send_limit}
use Rattle.qs_machine.specs.Seen.{Seen, Control, Ack, Close, seen, seen_all, asks_ack, Stream}
use Rattle.qs_machine.specs.Verdicts.{verdict, item_verdict, state_fault_out}
use Rattle.qs_machine.specs.FrameStep.{frame_taken, item_taken, AckedPiece, named, acks}
use Rattle.qs_machine.proofs.TableLaws.{open_at}
use Rattle.qs_machine.proofs.TablesAfter.{KeptIn}
use Rattle.qs_machine.proofs.CallsSound.{no_fault}
use Rattle.qs_machine.proofs.Again.{changed}
use Rattle.qs_machine.proofs.EndsAfter.{after_opened, has_code}
use Rattle.qs_runs.specs.Pasts.{Past, Tells}
use Rattle.qs_runs.specs.Invariant.{EndOk, SendOk, SendSlot}
use Rattle.qs_runs.proofs.Changes.{before-missing, Grows, AllGrow, all_grow_refl, grow_trans, each_grows, raise_grows}
use Rattle.qs_runs.proofs.Frames.{named_by, opened_ok, new_sends, Effect, MayCome, frame_keeps, come_keeps}
use Rattle.qs_rest.specs.Invariant.{IsAllAcked, IsStopTaken, ItemTaken, AckedTrue}
use Rattle.qs_rest.proofs.Halves.{Lasts}
use Rattle.qs_wire.specs.Layout.{PlacedValue, FrameValue}
use Rattle.qs_wire.specs.Grammar.{frames_of}
use Rattle.qs_wire.specs.declared.fault.WireFault.{WireFault}
use Rattle.qs_calls.specs.declared.closing.Closing.{Closing}
use Rattle.qs_calls.specs.declared.closing.Received.{Received}
use Rattle.qs_calls.specs.declared.closing.Received.TheVariants.{Done, PeerClosed, NoMemory}
use Rattle.qs_calls.specs.declared.closing.Closed.{Closed}
use Rattle.qs_machine.specs.Credit.{settle}
use Rattle.qs_machine.specs.Recording.{recorded}
use Rattle.qs_machine.specs.Receiving.{Takes, Stops, AtEnd}
use Rattle.qs_machine.proofs.EveryCall.{no_fault_there}
use Rattle.qs_runs.proofs.Lists.{Among_right}
use Rattle.qs_runs.proofs.Acking.{WasAcked, named_pieces_ok}
use Rattle.qs_machine.proofs.Leaves.{stops_leave}
use Rattle.qs_rest.proofs.Moves.{Moved, moved_same, moved_twice, frame_moved, acks_moved, AllTrue}
use Rattle.qs_send.specs.Records.{Among}
use Rattle.qs_calls.specs.declared.token.Taken.{Taken}
use Rattle.qs_calls.specs.declared.token.TakeFault.{TakeFault}
use Rattle.qs_calls.specs.declared.token.TakeFault.TheVariants as faults
use Rattle.qs_machine.specs.Alone.{is_ours, closed_fault, TakesOne, TakesEach, TakeBy, TakeAllBy, after_one}
use Rattle.qs_runs.proofs.Receives.{HandedIn, handed, none_asked, none_ours, took_effect}
use Rattle.qs_machine.proofs.Pieces.{All_append, All_take, All_more}

-- A control item of a packet that was processed took effect, for good.

-- What took effect stays

whole_stays : (l m : RecvLane) → Grows l m → is_whole l ≡ true → is_whole m ≡ true
whole_stays l m g is = go l.final_size refl
  where
    go : (o : Option ℕ) → l.final_size ≡ o → is_whole m ≡ true
    go None at = absurd (false≢true (sym (ap (whole_to l.arrived.received) at) ∙ is))
    go (Some size) at =
        let each = covers-is l.arrived.received 0 size (sym (ap (whole_to l.arrived.received) at) ∙ is) in
        ap (whole_to m.arrived.received) (g.final size at) ∙ covers-of m.arrived.received 0 size (λ q low high. g.received q (each q low high))

reset_stays : (l m : RecvLane) → Grows l m → is_some l.reset_code ≡ true → is_some m.reset_code ≡ true
reset_stays l m g known = go m.reset_code refl
  where
    go : (o : Option ℕ) → m.reset_code ≡ o → is_some m.reset_code ≡ true
    go (Some code) is = ap is_some is
    go None is = absurd (false≢true (sym (ap is_some (g.reset is)) ∙ known))

stop_stays : (answers : Bool) (l m : SendLane) → Lasts l m → IsStopTaken answers l → IsStopTaken answers m
stop_stays answers l m r (inl reset) = inl (r.reset reset)
stop_stays answers l m r (inr (inl all)) = inr (inl (r.whole all))
stop_stays answers l m r (inr (inr (chosen, told))) = inr (inr (chosen, r.stopped told))

module _ (a b : End) (tuned : b.tuning ≡ a.tuning) (conn : a.known_data ≤ b.known_data) (bidi : a.known_bidi ≤ b.known_bidi) (uni : a.known_uni ≤ b.known_uni) (sends : KeptIn Lasts a.sends b.sends) (grow : AllGrow a.recvs b.recvs) where
  pub item_stays : (f : Seen) → ItemTaken a f → ItemTaken b f
  item_stays (Control (MaxData m)) h = omega (arith, h, conn)
  item_stays (Control (MaxStreamData n m)) (l, is, le) = (let (k, there, r) = sends n l is in let up = r.limit in (k, there, omega (arith, le, up)))
  item_stays (Control (MaxStreams Bidi m)) h = omega (arith, h, bidi)
  item_stays (Control (MaxStreams Uni m)) h = omega (arith, h, uni)
  item_stays (Control (ResetStream n code size)) (l, is, h) =
      let (m, there, g) = grow n l is in
      (m, there, elim h [ inl r ↦ inl (reset_stays l m g r) | inr w ↦ inr (whole_stays l m g w) ])
  item_stays (Control (StopSending n code)) (l, is, h) =
      let (m, there, r) = sends n l is in
      (m, there, subst (λ t. IsStopTaken t.answers_stops m) (sym tuned) (stop_stays a.tuning.answers_stops l m r h))
  item_stays f h = tt

  pub items_stay : (fs : List Seen) → AllByRecursion (ItemTaken a) fs → AllByRecursion (ItemTaken b) fs
  items_stay fs all = All_more (ItemTaken a) (ItemTaken b) fs item_stays all

-- It takes effect

pub some_of : {X : Type 0} (o : Option X) → is_some o ≡ true → (x : X) × (o ≡ Some x)
some_of None is = absurd (false≢true is)
some_of (Some x) is = (x, refl)

-- a frame on what this end sends comes to a half that is open then
send_open : (e : End) (n : ℕ) → state_fault_out e n ≡ None → (l : SendLane) × (lookup (opened_by_peer n e).sends n ≡ Some l)
send_open e n fine = some_of _ (by_own (is_own e n) refl fine)
  where
    there : (o : Option SendLane) → is_none o ≡ false → is_some o ≡ true
    there None is = absurd (true≢false is)
    there (Some l) is = refl

    not_uni : (u : Bool) (x : Option ℕ) → cond u (Some 5) x ≡ None → u ≡ false
    not_uni true x none = absurd (none-some 5 (sym none))
    not_uni false x none = refl

    by_side : (b : Bool) → b ≡ false → is_some (lookup (cond b e.sends (open_to e.sends n (new_sends e n))) n) ≡ true
    by_side true is = absurd (true≢false is)
    by_side false is = open_at e.sends n (new_sends e n)

    by_own : (o : Bool) → is_own e n ≡ o → state_fault_out e n ≡ None → is_some (lookup (cond o e (opens n e)).sends n) ≡ true
    by_own true own none = there (lookup e.sends n) (no_fault _ 5 (rw own at none))
    by_own false own none = by_side _ (ap (λ u. u && not (is_own e n)) (not_uni (is_uni n) _ (rw own at none)))

abbrev reset_by : Bool → ℕ → ℕ → RecvLane → RecvLane
reset_by b code size l = cond b l (record l { arrived = forget l.arrived; final_size = Some size; reset_code = Some code })

reset_or_whole : (code size : ℕ) (l : RecvLane) → (is_some (take_reset l code size).reset_code ≡ true) ⊎ (is_whole (take_reset l code size) ≡ true)
reset_or_whole code size l = go (is_some l.reset_code || is_whole l) refl
  where
    go : (b : Bool) → (is_some l.reset_code || is_whole l) ≡ b → (is_some (reset_by b code size l).reset_code ≡ true) ⊎ (is_whole (reset_by b code size l) ≡ true)
    go true is = or_cases _ _ is
    go false is = inl refl

abbrev refused_by : Bool → Bool → Bool
refused_by a b = is_some (cond a (Some WasReset) (cond b (Some Finished) None))

module _ (p : Past) (n limit : ℕ) (l : SendLane) (h : SendOk p n limit l) where
  -- all of a half was acknowledged
  pub all_acked : send_whole l ≡ true → IsAllAcked l
  all_acked is =
      let parts : ((unacked_from l == l.written) ≡ true) × (l.fin_acked ≡ true) = and_parts _ _ is in
      let same_end : unacked_from l ≡ l.written = eqb-true (unacked_from l) l.written parts.0 in
      let (k, offset, bytes, holds, ack) = h.end_acked parts.1 in
      let end = (h.told offset bytes true (k, holds)).end refl in
      record { finished = (h.end end.0).0; end = parts.1; offsets = λ q lt. before-missing l.acked q (omega (arith, lt, same_end)) }

  stop_was_taken : (answers : Bool) (code : ℕ) → IsStopTaken answers (stop_taken answers l code)
  stop_was_taken true code = go (is_some l.was_reset) (send_whole l) refl refl
    where
      go : (a b : Bool) → is_some l.was_reset ≡ a → send_whole l ≡ b → IsStopTaken true (cond (refused_by a b) l (record l { stopped = first_code l.stopped code }))
      go true b ea eb = inl ea
      go false true ea eb = inr (inl (all_acked eb))
      go false false ea eb = inr (inr (refl, has_code l.stopped code))
  stop_was_taken false code = go (is_some l.was_reset) (send_whole l) refl refl
    where
      go : (a b : Bool) → is_some l.was_reset ≡ a → send_whole l ≡ b → IsStopTaken false (cond (refused_by a b) l (record (broken_off l code) { stopped = first_code l.stopped code }))
      go true b ea eb = inl ea
      go false true ea eb = inr (inl (all_acked eb))
      go false false ea eb = inl refl

module _ (p : Past) (e : End) (ok : EndOk p e) where
  item_done : (i : Item) → Tells p.theirs (Control i) → item_verdict e i ≡ None → Effect p e (item_taken i e) (Control i) → ItemTaken (item_taken i e) (Control i)
  item_done (MaxData m) t fine h = omega arith
  item_done (MaxStreamData n m) t fine h =
      let (l, is) = send_open e n fine in
      (allow_lane l m, changed (opened_by_peer n e).sends n (λ x. allow_lane x m) l is, omega arith)
  item_done (MaxStreams Bidi m) t fine h = omega arith
  item_done (MaxStreams Uni m) t fine h = omega arith
  item_done (ResetStream n code size) t fine h =
      let (r, at, final) = h.taken in
      let (l, is) = some_of (lookup (opened_by_peer n e).recvs n) (was_open (lookup (opened_by_peer n e).recvs n) refl at) in
      (take_reset l code size, changed (opened_by_peer n e).recvs n (λ x. take_reset x code size) l is, reset_or_whole code size l)
    where
      was_open : (o : Option RecvLane) → lookup (opened_by_peer n e).recvs n ≡ o → {r : RecvLane} → lookup (updated (opened_by_peer n e).recvs n (λ x. take_reset x code size) (lookup (opened_by_peer n e).recvs n)) n ≡ Some r → is_some o ≡ true
      was_open (Some l) is at = refl
      was_open None is {r} at = absurd (none-some r (sym (ap (λ o. lookup (updated (opened_by_peer n e).recvs n (λ x. take_reset x code size) o) n) is ∙ is) ∙ at))
  item_done (StopSending n code) t fine h =
      let (l, is) = send_open e n fine in
      let opened : EndOk p (opened_by_peer n e) = opened_ok p e n ok (named_by p _ n t refl) (is_own e n) refl in
      let half = subst (SendSlot p n (first_send_limit (opened_by_peer n e) n)) is (opened.sends n) in
      let answers = e.tuning.answers_stops in (
        stop_taken answers l code,
        changed (opened_by_peer n e).sends n (λ x. stop_taken answers x code) l is,
        subst (λ t. IsStopTaken t.answers_stops (stop_taken answers l code)) (sym (after_opened n e).tuning) (stop_was_taken p n (first_send_limit (opened_by_peer n e) n) l half answers code),
      )
  item_done i t fine h = tt

  pub frame_done : (f : Seen) → MayCome p.theirs f → verdict e f ≡ None → ItemTaken (frame_taken f e) f
  unfolding verdict frame_taken
  frame_done (Control i) (inl t) fine = item_done i t fine (frame_keeps p e (Control i) ok t fine)
  frame_done (Control i) (inr plain) fine = absurd (false≢true plain)
  frame_done f t fine = tt

  -- the pieces that an ACK takes were confirmed
  acked_pieces : (largest : ℕ) (ranges : List (ℕ × ℕ)) → MayCome p.theirs (Ack largest ranges) → AllByRecursion (WasAcked p) (named e ranges)
  acked_pieces largest ranges (inl t) = named_pieces_ok p e ok ranges (λ j a. inl (largest, ranges, t, a))
  acked_pieces largest ranges (inr plain) = absurd (false≢true plain)

  -- what a frame leaves of the sending side
  goes_moved : (f : Seen) → MayCome p.theirs f → AllTrue p e → AckedTrue p e.acked → Moved p e (frame_taken f e)
  goes_moved f t halves acked = frame_moved p f e (λ largest ranges same. acked_pieces largest ranges (subst (MayCome p.theirs) same t)) halves acked

-- What a payload of the peer leaves: its items took effect.

-- What a payload leaves, whose frames are these.
pub record After (p : Past) (all : List Seen) (old : End) (result : Result Received Closing) (new : End) : Type 0 where
  pub moved : Moved p old new
  pub grow : AllGrow old.recvs new.recvs
  pub done : result ≡ Ok Done → AllByRecursion (ItemTaken new) all

same_grow : (old a b : End) → b.recvs ≡ a.recvs → AllGrow old.recvs a.recvs → AllGrow old.recvs b.recvs
same_grow old a b is h = subst (AllGrow old.recvs) (sym is) h

module _ (p : Past) (k : ℕ) (all : List Seen) (old : End) where
  at_end : (asks : Bool) (fault : Option WireFault) (e : End) (result : Result Received Closing) (new : End) → Moved p old e → AllGrow old.recvs e.recvs → AllByRecursion (ItemTaken e) all → AtEnd k asks fault e result new → After p all old result new
  at_end asks None e (Ok Done) new m g taken h =
      subst (After p all old (Ok Done)) (sym h) (record {
        moved = m;
        grow = g;
        done = λ _. items_stay e (recorded k asks e) refl (omega arith) (omega arith) (omega arith) (moved_same p e m.halves m.acked).sends (all_grow_refl e.recvs) all taken;
      })
  at_end asks None e (Ok NoMemory) new m g taken h = subst (After p all old (Ok NoMemory)) (sym h.0) (record { moved = m; grow = g; done = λ d. absurd (cc d) })
  at_end asks (Some fault) e (Err closing) new m g taken h = subst (After p all old (Err closing)) (sym h.1) (record { moved = m; grow = g; done = λ d. absurd (cc d) })
  at_end asks fault e result new m g taken h = absurd h

  -- nothing was processed
  pub not_done : (result : Result Received Closing) (mid new : End) → (result ≡ Ok Done → ⊥) → new ≡ mid → Moved p old mid → AllGrow old.recvs new.recvs → After p all old result new
  not_done result mid new none same m g = record { moved = subst (Moved p old) (sym same) m; grow = g; done = λ d. absurd (none d) }

  stops : (v : PlacedValue) (f : Seen) (e : End) (result : Result Received Closing) (new : End) → EndOk p e → MayCome p.theirs f → Moved p old e → AllGrow old.recvs e.recvs → Stops v f e result new → After p all old result new
  stops v (Close code) e (Ok (PeerClosed told)) new ok t m g h = not_done _ _ new (λ d. absurd (cc d)) h.1 m (same_grow old e new (ap (λ x. x.recvs) h.1) g)
  stops v (Ack largest ranges) e (Ok NoMemory) new ok t m g (fine, (n, h, asks)) =
      let some : List AckedPiece = take n (named e ranges) in
      not_done _ (acks some e) new (λ d. absurd (cc d)) h (moved_twice p old e (acks some e) m (acks_moved p some e (All_take _ n _ (acked_pieces p e ok largest ranges t)) m.halves m.acked))
      (same_grow old e new (stops_leave v (Ack largest ranges) e (Ok NoMemory) new (fine, (n, h, asks))) g)
  stops v (Close code) e result new ok t m g h = absurd h
  stops v f e (Ok NoMemory) new ok t m g h = not_done _ e new (λ d. absurd (cc d)) h.1.0 m (same_grow old e new (ap (λ x. x.recvs) h.1.0) g)
  stops v f e (Err closing) new ok t m g h = not_done _ _ new (λ d. absurd (cc d)) h.2 m (same_grow old e new (ap (λ x. x.recvs) h.2) g)
  stops v f e result new ok t m g h = absurd h

  pub takes : (left : List PlacedValue) (before : List Seen) (asks : Bool) (fault : Option WireFault) (e : End) (result : Result Received Closing) (new : End) → all ≡ before ++ seen_all (frames_of left) → ((f : Seen) → Among f all → MayCome p.theirs f) →
      EndOk p e → Moved p old e → AllGrow old.recvs e.recvs → AllByRecursion (ItemTaken e) before → Takes k fault asks e left result new → After p all old result new
  takes [] before asks fault e result new split told ok m g taken h =
      at_end asks fault e result new m g (subst (AllByRecursion (ItemTaken e)) (sym (split ∙ append-nil before)) taken) h
  takes (v ∷ left) before asks fault e result new split told ok m g taken (inl ends) =
      stops v (seen v.frame) e result new ok (told (seen v.frame) (rw split (Among_right before _ _ (inl refl)))) m g ends
  takes (v ∷ left) before asks fault e result new split told ok m g taken (inr (goes, rest)) =
      let f : Seen = seen v.frame in
      let t : MayCome p.theirs f = told f (rw split (Among_right before _ _ (inl refl))) in
      let one : Effect p e (frame_taken f e) f = come_keeps p e f ok t (no_fault_there e f goes) in
      let m2 : Moved p e (frame_taken f e) = goes_moved p e ok f t m.halves m.acked in
      takes left (before ++ f ∷ []) (asks || asks_ack f) fault (frame_taken f e) result new (split ∙ sym (append_assoc before (f ∷ []) (seen_all (frames_of left)))) told one.ok
      (moved_twice p old e (frame_taken f e) m m2) (grow_trans old.recvs e.recvs _ g one.grow)
      (All_append (ItemTaken (frame_taken f e)) before (f ∷ []) (items_stay e (frame_taken f e) m2.tuning m2.conn m2.bidi m2.uni m2.sends one.grow before taken) (frame_done p e ok f t (no_fault_there e f goes), tt)) rest

  -- as the call ends the limits move
  pub settled : (result : Result Received Closing) (mid new : End) → AllGrow mid.recvs (settle mid).recvs → new ≡ settle mid → After p all old result mid → After p all old result new
  settled result mid new rises same h =
      subst (After p all old result) (sym same) (record {
        moved = h.moved;
        grow = grow_trans old.recvs mid.recvs _ h.grow rises;
        done = λ d. items_stay mid (settle mid) refl (omega arith) (omega arith) (omega arith) (moved_same p mid h.moved.halves h.moved.acked).sends rises all (h.done d);
      })

-- What frames leave that come without their packet: they took effect.

-- What frames leave that came.
pub record Came (p : Past) (old : End) (fs : List Seen) (result : Result Taken TakeFault) (new : End) : Type 0 where
  pub moved : Moved p old new
  pub grow : AllGrow old.recvs new.recvs
  pub done : (told : Taken) → result ≡ Ok told → AllByRecursion (ItemTaken new) fs

pub others_done : (e : End) (g : Seen) → is_ours g ≡ false → ItemTaken e g
others_done e (Stream n offset bytes fin) other = absurd (false≢true (sym other))
others_done e (Control i) other = absurd (false≢true (sym other))
others_done e _ other = tt

pub later_told : (one told : Taken) (later : Result Taken TakeFault) → after_one one later ≡ Ok told → (last : Taken) × (later ≡ Ok last)
later_told one told (Ok last) is = (last, refl)
later_told one told (Err fault) is = absurd (cc is)

module _ (p : Past) where
  pub same_came : (e : End) (fs : List Seen) (result : Result Taken TakeFault) (new : End) → AllTrue p e → AckedTrue p e.acked → new ≡ e → ((told : Taken) → result ≡ Ok told → AllByRecursion (ItemTaken e) fs) → Came p e fs result new
  same_came e fs result new halves acked same done = subst (Came p e fs result) (sym same) (record { moved = moved_same p e halves acked; grow = all_grow_refl e.recvs; done = done })

  -- one took no effect
  stops_came : (f : FrameValue) (e : End) (fs : List Seen) (fault : TakeFault) (result : Result Taken TakeFault) (new : End) → result ≡ Err fault → AllTrue p e → AckedTrue p e.acked → is_ours (seen f) ≡ true → TakesOne e f (Err fault) new → Came p e fs result new
  stops_came f e fs faults.NoMemory result new is halves acked ours h = same_came e fs result new halves acked (none_asked e new (seen f) ours h.1) (λ told d. absurd (cc))
  stops_came f e fs (faults.Closing closing) result new is halves acked ours h =
      subst (Came p e fs result) (sym h.2) (record { moved = moved_same p e halves acked; grow = all_grow_refl e.recvs; done = λ told d. absurd (cc) })
  stops_came f e fs (faults.PeerClosed code) result new is halves acked ours h = absurd h

  each_came : (fs : List FrameValue) (e : End) (result : Result Taken TakeFault) (new : End) → EndOk p e → AllTrue p e → AckedTrue p e.acked → ((g : Seen) → Among g (seen_all fs) → is_ours g ≡ true → Tells p.theirs g) → TakesEach fs e result new → Came p e (seen_all fs) result new
  each_came [] e result new ok halves acked told h = same_came e [] result new halves acked h.1 (λ _ d. tt)
  each_came (f ∷ fs) e result new ok halves acked told h =
      by (is_ours (seen f)) refl h (λ mid r now all items takes. each_came fs mid r new now all items (λ g a. told g (inr a)) takes)
    where
      by : (b : Bool) → is_ours (seen f) ≡ b → MatchBool b (((mid : End) × (one : Taken) × (later : Result Taken TakeFault) × TakesOne e f (Ok one) mid × TakesEach fs mid later new × (result ≡ after_one one later)) ⊎ ((fault : TakeFault) × TakesOne e f (Err fault) new × (result ≡ Err fault))) (TakesEach fs e result new)
          → ((mid : End) (r : Result Taken TakeFault) → EndOk p mid → AllTrue p mid → AckedTrue p mid.acked → TakesEach fs mid r new → Came p mid (seen_all fs) r new) → Came p e (seen f ∷ seen_all fs) result new
      by true ours (inl (mid, one, later, takes, more, is)) goes =
          let (may, after) = took_effect e f one mid takes in
          let g : Seen = seen f in
          let here : MayCome p.theirs g = inl (told g (inl refl) ours) in
          let next : End = frame_taken g e in
          let effect : Effect p e next g = frame_keeps p e g ok (told g (inl refl) ours) may.1 in
          let m : Moved p e next = goes_moved p e ok g here halves acked in
          let rest = goes next later effect.ok m.halves m.acked (subst (λ x. TakesEach fs x later new) after more) in
          record {
            moved = moved_twice p e next new m rest.moved;
            grow = grow_trans e.recvs next.recvs new.recvs effect.grow rest.grow;
            done = λ all d. (
                let (last, at) = later_told one all later (sym is ∙ d) in
                (item_stays next new rest.moved.tuning rest.moved.conn rest.moved.bidi rest.moved.uni rest.moved.sends rest.grow g (frame_done p e ok g here may.1), rest.done last at));
          }
      by true ours (inr (fault, one, is)) goes = stops_came f e (seen f ∷ seen_all fs) fault result new is halves acked ours one
      by false other more goes =
          let rest = goes e result ok halves acked more in
          record { moved = rest.moved; grow = rest.grow; done = λ all d. (others_done new (seen f) other, rest.done all d) }

  -- several come, after which the limits move, or one does; a closed end takes none
  module _ (e : End) (ok : EndOk p e) (halves : AllTrue p e) (acked : AckedTrue p e.acked) where
    settled_came : (mid : End) (fs : List Seen) (result : Result Taken TakeFault) (new : End) → new ≡ settle mid → Came p e fs result mid → Came p e fs result new
    settled_came mid fs result new same h =
        let rises = each_grows raise mid.recvs raise_grows in
        subst (Came p e fs result) (sym same) (record {
          moved = h.moved;
          grow = grow_trans e.recvs mid.recvs _ h.grow rises;
          done = λ all d. items_stay mid (settle mid) refl (omega arith) (omega arith) (omega arith) (moved_same p mid h.moved.halves h.moved.acked).sends rises fs (h.done all d);
        })

    pub frames_came : (fs : List FrameValue) (result : Result Taken TakeFault) (new : End) → (e.closed ≡ None → (g : Seen) → Among g (seen_all fs) → is_ours g ≡ true → Tells p.theirs g) → HandedIn fs e result new → Came p e (seen_all fs) result new
    frames_came fs result new told h = by e.closed refl h
      where
        refused : (fault : TakeFault) → (result ≡ Err fault) × (new ≡ e) → Came p e (seen_all fs) result new
        refused fault (is, same) = same_came e (seen_all fs) result new halves acked same (λ all d. absurd (cc))

        by : (o : Option Closed) → e.closed ≡ o → TakeAllBy o fs e result new ⊎ ((f : FrameValue) × (fs ≡ f ∷ []) × TakeBy o f e result new) → Came p e (seen_all fs) result new
        by (Some closed) shut (inl step) = refused (closed_fault closed) step
        by (Some closed) shut (inr (f, is, step)) = refused (closed_fault closed) step
        by None open_end step =
            elim (handed e fs result new open_end h) [
              | inl (mid, takes, after) ↦ settled_came mid (seen_all fs) result new after (each_came fs e result mid ok halves acked (told open_end) takes)
              | inr (foreign, same) ↦ same_came e (seen_all fs) result new halves acked same (λ all d. none_ours (ItemTaken e) (others_done e) fs foreign)
            ]
