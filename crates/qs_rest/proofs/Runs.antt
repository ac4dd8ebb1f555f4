-- In every run each end keeps what holds of it beside the invariant of qs_runs.
use Rattle.std.proofs.Common.{◌≡◌, ℕ, ◌≤◌, Bool, true, false, List, [], ◌∷◌, ◌++◌, take, option_map, Option, Some, None, Result, Ok, Err, refl, sym, ap, ◌∙◌, subst, arith, inl, inr, nat_cmp}
use Rattle.std.proofs.lemmas.Bool.{false≢true}
use Rattle.std.proofs.lemmas.Option.{none-some}
use Rattle.std.specs.List.{AllByRecursion}
use Rattle.std.specs.FinSet as set
use Rattle.std.specs.FinMap as fmap
use Rattle.qs_wire.specs.Reading.{reading_of}
use Rattle.qs_wire.specs.declared.stream_id.Role.{Role}
use Rattle.qs_recv.specs.Lane.{raise}
use Rattle.qs_send.specs.Lane.{SendLane, allow_lane}
use Rattle.qs_send.specs.declared.piece.Item.{Item}
use Rattle.qs_calls.specs.declared.closing.Closing.{Closing}
use Rattle.qs_calls.specs.declared.closing.Closed.{Closed}
use Rattle.qs_calls.specs.declared.closing.Closed.TheVariants.{ByUs, ByPeer}
use Rattle.qs_calls.specs.declared.closing.Closed.TheVariants as closings
use Rattle.qs_calls.specs.declared.closing.Closer.{Closer}
use Rattle.qs_calls.specs.declared.closing.Closer.TheVariants.{Us, Peer}
use Rattle.qs_calls.specs.declared.closing.Received.{Received}
use Rattle.qs_calls.specs.declared.closing.Received.TheVariants.{Done, Duplicate, BelowFloor, PeerClosed}
use Rattle.qs_calls.specs.declared.event.Side.{Side}
use Rattle.qs_calls.specs.declared.settings.Settings.{Settings}
use Rattle.qs_calls.specs.declared.settings.Tuning.{Tuning}
use Rattle.qs_calls.specs.declared.settings.PeerLimits.{PeerLimits}
use Rattle.qs_calls.specs.declared.settings.RaiseFault.{RaiseFault}
use Rattle.qs_calls.specs.declared.token.Token.{Token}
use Rattle.qs_calls.specs.declared.token.TokenFault.{TokenFault}
use Rattle.qs_machine.specs.Tables.{lookup}
use Rattle.qs_machine.specs.Ends.{End, AckedItems, first_send_limit, new_end, wide_end_made}
use Rattle.qs_machine.specs.Credit.{settle}
use Rattle.qs_machine.specs.Receiving.{noted_receive, noted_by, ReceiveStep, ReceiveBy}
use Rattle.qs_machine.specs.Plains.{frames_in}
use Rattle.qs_machine.specs.Alone.{token_refusal}
use Rattle.qs_machine.specs.FrameStep.{AckedPiece, acks, named, held, frame_taken}
use Rattle.qs_machine.specs.Raising.{RaiseStep, knows_limits, limits_raised, raise_refusal}
use Rattle.qs_machine.specs.EndStep.{Call, Answer, EndStep, Receive, TakeFrame, TakeFrames, TokenAcked, RaiseLimits, NoteClosed}
use Rattle.qs_machine.specs.SettledLimits.{LimitsAreSettled}
use Rattle.qs_machine.specs.Standing.{IsSound, CountsAreSettled}
use Rattle.qs_machine.specs.Repeats.{SentWasWritten}
use Rattle.qs_machine.proofs.EachHalf.{kept_raised}
use Rattle.qs_machine.proofs.TablesAfter.{KeptIn}
use Rattle.qs_machine.proofs.EveryCall.{by_open}
use Rattle.qs_machine.proofs.Plains.{close_comes}
use Rattle.qs_machine.proofs.SettledLimits.{calls_settle, new_ends_settled}
use Rattle.qs_machine.proofs.CallsCounts.{settled_call}
use Rattle.qs_machine.proofs.Counts.{no_lane, new_ends_settled as new_counts_settled}
use Rattle.qs_machine.proofs.Pieces.{All_take, all_named}
use Rattle.qs_runs.specs.Logs.{Happening, History, Effect, Acked, other, effects, effects_of, acked_effects}
use Rattle.qs_runs.specs.Worlds.{World, Begins, end_of, WorldStep}
use Rattle.qs_runs.specs.Pasts.{Packets, Past, packets_in, past_of, past}
use Rattle.qs_runs.specs.Invariant.{EndOk, StoodIn, WorldOk, role_of, settings_of}
use Rattle.qs_runs.proofs.Acking.{WasAcked}
use Rattle.qs_runs.proofs.Changes.{AllGrow, all_grow_refl, each_grows, raise_grows}
use Rattle.qs_runs.proofs.Lasting.{call_grows}
use Rattle.qs_runs.proofs.NewEnds.{each_begun}
use Rattle.qs_runs.proofs.OwnMoves.{allowed_at}
use Rattle.qs_runs.proofs.Standing.{certain_cases}
use Rattle.qs_runs.proofs.Histories.{two_sides, past_there}
use Rattle.qs_runs.proofs.Past.{Confirmed-more}
use Rattle.qs_runs.proofs.PeerMoves.{with_theirs}
use Rattle.qs_runs.proofs.Runs.{run_keeps}
use Rattle.qs_rest.specs.Invariant.{WasTold, AckedTrue, HalfTrue, ItemTaken, RestOk}
use Rattle.qs_rest.specs.Rest.{EveryRunKeeps}
use Rattle.qs_rest.proofs.Halves.{Lasts, lasts_same, lasts_twice, allow_lasts}
use Rattle.qs_rest.proofs.Moves.{AllTrue, SlotTrue, Moved, moved_same, moved_call, acks_moved}
use Rattle.qs_rest.proofs.More.{past_goes, told_here, piece_more, token_now, HasNews, taken_more, Heard, heard}
use Rattle.qs_rest.proofs.Effects.{items_stay, After, takes, settled, not_done, frames_came}
use Rattle.qs_rest.proofs.Telling.{AllTold, all_told, told_at, told_call}

-- The past goes on

module _ (p q : Past) (more : (i : Item) → WasTold p i → WasTold q i) where
  acked_more : (a : AckedItems) → AckedTrue p a → AckedTrue q a
  acked_more a h =
      record {
        conn = λ m is. more _ (h.conn m is);
        streams = λ n m is. more _ (h.streams n m is);
        bidi = λ m is. more _ (h.bidi m is);
        uni = λ m is. more _ (h.uni m is);
        stops = λ n is. (let (code, told) = h.stops n is in (code, more _ told));
      }

  half_more : (n first : ℕ) (l : SendLane) → HalfTrue p n first l → HalfTrue q n first l
  half_more n first l h =
      record { first_limit = h.first_limit; small = h.small; reset_told = λ is. (let (code, size, told) = h.reset_told is in (code, size, more _ told)) }

-- the slots of an end
slots : (p : Past) (e : End) → RestOk p e → AllTrue p e
slots p e ok n = go (lookup e.sends n) refl
  where
    go : (o : Option SendLane) → lookup e.sends n ≡ o → SlotTrue p n (first_send_limit e n) o
    go None is = tt
    go (Some l) is = ok.sends n l is

slot_at : (p : Past) (e : End) → AllTrue p e → (n : ℕ) (l : SendLane) → lookup e.sends n ≡ Some l → HalfTrue p n (first_send_limit e n) l
slot_at p e all n l is = subst (SlotTrue p n (first_send_limit e n)) is (all n)

-- The peer goes on

told_theirs : (p : Past) (packets : Packets) (i : Item) → WasTold p i → WasTold (with_theirs p packets) i
told_theirs p packets i (k, holds, ack) = (k, holds, Confirmed-more p.theirs packets p.tokens k ack)

-- A call

module _ (p : Past) (e new : End) (ok : RestOk p e) (m : Moved p e new) where
  known_conn : new.peer.max_data ≤ new.known_data
  known_conn = (let same = ap (λ x. x.max_data) m.peer in omega (arith, ok.conn, m.conn, same))

  known_bidi : new.peer.streams_bidi ≤ new.known_bidi
  known_bidi = (let same = ap (λ x. x.streams_bidi) m.peer in omega (arith, ok.bidi, m.bidi, same))

  known_uni : new.peer.streams_uni ≤ new.known_uni
  known_uni = (let same = ap (λ x. x.streams_uni) m.peer in omega (arith, ok.uni, m.uni, same))

-- after a call it rests on what took effect
rests_by : (p : Past) (e new : End) → IsSound e → SentWasWritten e → RestOk p e → Moved p e new → (call : Call) (given : Answer call) → EndStep e call given new → RestOk p new
rests_by p e new sound sent ok m call given is =
    record {
      conn = known_conn p e new ok m;
      bidi = known_bidi p e new ok m;
      uni = known_uni p e new ok m;
      sends = slot_at p new m.halves;
      acked = m.acked;
      told = told_at new (told_call e sound sent (all_told e ok.told) call given new is);
      taken = items_stay e new m.tuning m.conn m.bidi m.uni m.sends (call_grows e new sound sent call given is) p.taken ok.taken;
      limits = calls_settle e call given new ok.limits is;
      counts = settled_call e call given new ok.counts is;
    }

-- and on more that was told, or took effect
rests_on : (p q : Past) → ((i : Item) → WasTold p i → WasTold q i) → (e : End) → (AllByRecursion (ItemTaken e) p.taken → AllByRecursion (ItemTaken e) q.taken) → RestOk p e → RestOk q e
rests_on p q more e taken ok =
    record {
      conn = ok.conn;
      bidi = ok.bidi;
      uni = ok.uni;
      sends = λ n l at. half_more p q more n _ l (ok.sends n l at);
      acked = acked_more p q more e.acked ok.acked;
      told = ok.told;
      taken = taken ok.taken;
      limits = ok.limits;
      counts = ok.counts;
    }

pub peer_rests : (p : Past) (packets : Packets) (e : End) → RestOk p e → RestOk (with_theirs p packets) e
peer_rests p packets e = rests_on p (with_theirs p packets) (told_theirs p packets) e (λ taken. taken)

-- Limits of the peer are taken in

module _ (p : Past) (e : End) (limits : PeerLimits) (ok : RestOk p e) where
  abbrev raised : End
  raised = limits_raised limits e

  slot_raised : (n : ℕ) (o : Option SendLane) → SlotTrue p n (first_send_limit e n) o → SlotTrue p n (first_send_limit (knows_limits limits e) n) (option_map (λ (l : SendLane). allow_lane l (first_send_limit (knows_limits limits e) n)) o)
  slot_raised n None h = tt
  slot_raised n (Some l) h = record { first_limit = omega arith; small = h.small; reset_told = h.reset_told }

  slots_raised : (n : ℕ) (l : SendLane) → lookup raised.sends n ≡ Some l → HalfTrue p n (first_send_limit (knows_limits limits e) n) l
  slots_raised n l at =
      subst (SlotTrue p n (first_send_limit (knows_limits limits e) n)) at
      (subst (SlotTrue p n (first_send_limit (knows_limits limits e) n)) (sym (allowed_at (knows_limits limits e) n)) (slot_raised n (lookup e.sends n) (slots p e ok n)))

  raised_rests : (new : End) → IsSound e → SentWasWritten e → new ≡ settle raised → EndStep e (RaiseLimits limits) (Ok tt) new → RestOk p new
  raised_rests new sound sent is step =
      let kept : KeptIn Lasts e.sends raised.sends = kept_raised Lasts lasts_same lasts_twice (λ limit l. allow_lasts l limit) limits e in
      let grow = call_grows e new sound sent (RaiseLimits limits) (Ok tt) step in
      let settled : End = settle raised in
      subst (RestOk p) (sym is) (record {
        conn = omega (arith, ok.conn);
        bidi = omega (arith, ok.bidi);
        uni = omega (arith, ok.uni);
        sends = slots_raised;
        acked = ok.acked;
        told = told_at settled (subst (λ (x : End). AllTold x.recvs) is (told_call e sound sent (all_told e ok.told) (RaiseLimits limits) (Ok tt) new step));
        taken = items_stay e settled refl (omega arith) (omega arith) (omega arith) kept (subst (λ x. AllGrow e.recvs x.recvs) is grow) p.taken ok.taken;
        limits = subst LimitsAreSettled is (calls_settle e (RaiseLimits limits) (Ok tt) new ok.limits step);
        counts = subst CountsAreSettled is (settled_call e (RaiseLimits limits) (Ok tt) new ok.counts step);
      })

pub raise_rests : (p : Past) (e new : End) (limits : PeerLimits) (result : Result (Unit {0}) RaiseFault) → IsSound e → SentWasWritten e → RestOk p e → RaiseStep e limits result new → RestOk p new
raise_rests p e new limits result sound sent ok step =
    elim (certain_cases (raise_refusal e limits) e result new _ step) [
      | inl (fault, is, same) ↦ subst (RestOk p) (sym same) ok
      | inr (allowed, (is, same)) ↦ raised_rests p e limits ok new sound sent same (subst (λ r. RaiseStep e limits r new) is step)
    ]

-- A payload of the peer

after_payload : (p : Past) (e new : End) (k : ℕ) (text : List ℕ) (result : Result Received Closing) → EndOk p e → RestOk p e → (e.closed ≡ None → Heard p (Receive k text)) → ReceiveStep e k text result new → After p (frames_in text) e result new
after_payload p e new k text result good ok heard step = by_closed e.closed refl step
  where
    same : Moved p e e
    same = moved_same p e (slots p e ok) ok.acked

    stays : (r : Result Received Closing) → (r ≡ Ok Done → ⊥) → result ≡ r → new ≡ e → After p (frames_in text) e result new
    stays r undone is at = not_done p k (frames_in text) e result e new (λ d. undone (sym is ∙ d)) at same (subst (λ x. AllGrow e.recvs x.recvs) (sym at) (all_grow_refl e.recvs))

    by_closed : (o : Option Closed) → e.closed ≡ o → ReceiveBy o k text e result new → After p (frames_in text) e result new
    by_closed (Some (ByUs closing)) at h = stays (Err closing) (λ d. absurd (cc d)) h.0 h.1
    by_closed (Some (ByPeer code)) at h = stays (Ok (PeerClosed code)) (λ d. absurd (cc d)) h.0 h.1
    by_closed (Some (closings.Noted close)) at h = stays (noted_receive close.by close.code) (never_done close.by) h.0 h.1
      where
        never_done : (c : Closer) → noted_receive c close.code ≡ Ok Done → ⊥
        never_done Us d = absurd (cc d)
        never_done Peer d = absurd (cc d)
    by_closed None at h =
        elim (heard at) [
          | inl told ↦ by_open (After p (frames_in text) e result new) k text e result new h (stays (Ok BelowFloor) (λ d. absurd (cc d))) (stays (Ok Duplicate) (λ d. absurd (cc d))) (λ high mid taken after.
              settled p k (frames_in text) e result mid new (each_grows raise mid.recvs raise_grows) after
              (takes p k (frames_in text) e (reading_of text).left [] false (reading_of text).fault e result mid refl told good same (all_grow_refl e.recvs) tt taken))
          | inr (code, is) ↦ close_comes (After p (frames_in text) e) k code text e new result at is step
              (record { moved = same; grow = all_grow_refl e.recvs; done = λ d. absurd (cc d) }) (record { moved = same; grow = all_grow_refl e.recvs; done = λ d. absurd (cc d) })
              (record { moved = same; grow = each_grows raise e.recvs raise_grows; done = λ d. absurd (cc d) })
        ]

-- Each call

module _ (xs ys : List Effect) (e new : End) (sound : IsSound e) (sent : SentWasWritten e) (good : EndOk (past_of xs ys) e) (ok : RestOk (past_of xs ys) e) where
  abbrev old : Past
  old = past_of xs ys

  abbrev went : (call : Call) → Answer call → Past
  went call given = past_of (xs ++ effects_of call given) ys

  -- what took effect by it is all that its past goes on by
  goes_on : (call : Call) (given : Answer call) → HasNews (ItemTaken new) call given → RestOk old new → RestOk (went call given) new
  goes_on call given news = rests_on old (went call given) (told_here xs (effects_of call given) ys) new (λ before. taken_more (ItemTaken new) xs call given before news)

  moved_rests : (call : Call) (given : Answer call) → EndStep e call given new → Moved old e new → HasNews (ItemTaken new) call given → RestOk (went call given) new
  moved_rests call given is m news = goes_on call given news (rests_by old e new sound sent ok m call given is)

  -- the pieces of its packets are acknowledged, by what the token names
  acked_rests : (t : Token) (given : Result (Unit {0}) TokenFault) → acked_effects t given ≡ Acked t ∷ [] → EndStep e (TokenAcked t) given new → (some : List AckedPiece) →
      (AllByRecursion (WasAcked (went (TokenAcked t) given)) (named e ((t.first, t.number) ∷ [])) → AllByRecursion (WasAcked (went (TokenAcked t) given)) some) → new ≡ settle (acks some e) → RestOk (went (TokenAcked t) given) new
  acked_rests t given acked is some part same =
      let q : Past = went (TokenAcked t) given in
      let now : RestOk q e = rests_on old q (told_here xs (effects_of (TokenAcked t) given) ys) e (λ before. taken_more (ItemTaken e) xs (TokenAcked t) given before tt) ok in
      rests_by q e new sound sent now (subst (Moved q e) (sym same) (acks_moved q some e (part all) (slots q e now) now.acked)) (TokenAcked t) given is
    where
      stood : (late : Bool) → StoodIn old.mine (held late e)
      stood true = good.packets.lost_records
      stood false = good.packets.records

      all : AllByRecursion (WasAcked (went (TokenAcked t) given)) (named e ((t.first, t.number) ∷ []))
      all = all_named (WasAcked (went (TokenAcked t) given)) ((t.first, t.number) ∷ []) e (λ late k ps is_named at piece a. (
        piece_more xs (effects_of (TokenAcked t) given) k piece (stood late k ps piece at a),
        inr (token_now xs t (effects_of (TokenAcked t) given) acked k is_named),
      ))

  token_rests : (t : Token) (given : Result (Unit {0}) TokenFault) → EndStep e (TokenAcked t) given new → RestOk (went (TokenAcked t) given) new
  unfolding frame_taken
  token_rests t given is =
      elim (certain_cases (token_refusal e t) e given new _ is) [
        | inl (fault, told, same) ↦ goes_on (TokenAcked t) given tt (subst (RestOk old) (sym same) ok)
        | inr (allowed, inl (told, same)) ↦ acked_rests t given (ap (acked_effects t) told) is (named e ((t.first, t.number) ∷ [])) (λ all. all) same
        | inr (allowed, inr (told, mid, (m, h, asks), same)) ↦
            acked_rests t given (ap (acked_effects t) told) is (take m (named e ((t.first, t.number) ∷ []))) (λ all. All_take _ m _ all) (same ∙ ap settle h)
      ]

  pub call_rests : (call : Call) (given : Answer call) → (e.closed ≡ None → Heard old call) → EndStep e call given new → RestOk (went call given) new
  call_rests (Receive k bytes) given heard is =
      let a = after_payload old e new k bytes given good ok heard is in
      moved_rests (Receive k bytes) given is a.moved a.done
  call_rests (TakeFrame f) given heard is =
      let c = frames_came old e good (slots old e ok) ok.acked (f ∷ []) given new heard (inr (f, refl, is)) in
      moved_rests (TakeFrame f) given is c.moved (λ told d. (c.done told d).0)
  call_rests (TakeFrames fs) given heard is =
      let c = frames_came old e good (slots old e ok) ok.acked fs given new heard (inl is) in
      moved_rests (TakeFrames fs) given is c.moved c.done
  call_rests (TokenAcked t) given heard is = token_rests t given is
  call_rests (RaiseLimits limits) given heard is = goes_on (RaiseLimits limits) given tt (raise_rests old e new limits given sound sent ok is)
  call_rests (NoteClosed close) given heard is = moved_rests (NoteClosed close) given is (subst (Moved old e) (sym is) (by_closed e.closed)) tt
    where
      by_closed : (o : Option Closed) → Moved old e (noted_by o close e)
      by_closed (Some closed) = moved_same old e (slots old e ok) ok.acked
      by_closed None = moved_same old e (slots old e ok) ok.acked
  call_rests call given heard is = moved_rests call given is (moved_call old e call (λ no. no) (slots old e ok) ok.acked given new is) tt

-- Every run keeps what a rest needs, of both ends.

first_rests : (role : Role) (s : Settings) (t : Tuning) (peer : PeerLimits) (p : Past) → p.taken ≡ [] → wide_end_made role s t peer ≡ Ok (new_end role s t peer) → RestOk p (new_end role s t peer)
first_rests role s t peer p none made =
    record {
      conn = omega arith;
      bidi = omega arith;
      uni = omega arith;
      sends = λ n l is. absurd (none-some l (sym (no_lane n) ∙ is));
      acked = record {
        conn = λ m is. absurd (none-some m is);
        streams = λ n m is. absurd (none-some m (sym (fmap.get-empty nat_cmp n) ∙ is));
        bidi = λ m is. absurd (none-some m is);
        uni = λ m is. absurd (none-some m is);
        stops = λ n is. absurd (false≢true (sym (set.contains-empty nat_cmp n) ∙ is));
      };
      told = λ n l at. absurd (none-some l (sym (no_lane n) ∙ at));
      taken = subst (AllByRecursion (ItemTaken (new_end role s t peer))) (sym none) tt;
      limits = new_ends_settled role s t peer (new_end role s t peer) made;
      counts = new_counts_settled role s t peer (new_end role s t peer) made;
    }

first_ends : (a b : Settings) (w : World) → Begins a b w → (s : Side) → RestOk (past s []) (end_of w s)
unfolding effects
first_ends a b w begins = each_begun (λ s e. RestOk (past s []) e) a b w begins (λ s t told begun granted. first_rests (role_of s) (settings_of a b s) t told (past s []) refl begun)

step_rests : (a b : Settings) (h : History) (v w : World) (x : Happening) → WorldOk a b h v → ((t : Side) → RestOk (past t h) (end_of v t)) → WorldStep h v x w → (t : Side) → RestOk (past t (x ∷ h)) (end_of w t)
step_rests a b h v w x ok rests step =
    two_sides (λ t. RestOk (past t (x ∷ h)) (end_of w t)) x.end
    (subst (λ p. RestOk p (end_of w x.end)) (sym (past_goes x h))
    (call_rests (effects x.end h) (effects (other x.end) h) (end_of v x.end) (end_of w x.end) (ok.sound x.end) (ok.sent x.end) (ok.ends x.end) (rests x.end) x.call x.answer (λ unclosed. heard h v x.end x.call (step.may unclosed)) step.step))
    (subst (λ p. RestOk p (end_of w (other x.end))) (sym (past_there x h))
    (subst (RestOk (with_theirs (past (other x.end) h) (packets_in (effects_of x.call x.answer)))) (sym step.still) (peer_rests (past (other x.end) h) (packets_in (effects_of x.call x.answer)) (end_of v (other x.end)) (rests (other x.end)))))

pub every_run_keeps : EveryRunKeeps
every_run_keeps a b [] w begins = first_ends a b w begins
every_run_keeps a b (x ∷ h) w (v, before, step) = step_rests a b h v w x (run_keeps a b h v before) (every_run_keeps a b h v before) step
