-- Every run keeps the invariant of both ends.
use Rattle.std.proofs.lemmas.Bool.Decides.{nat_tests}
use Rattle.std.proofs.Common.{◌≡◌, ◌≤◌, ◌⊎◌, ℕ, Bool, true, List, [], ◌∷◌, inl, inr, Option, None, Some, is_some, Result, Ok, false, not, arith, sym, subst, refl, ap, ◌∙◌, slice_get}
use Rattle.std.specs.Prelude.{flat_map}
use Rattle.std.specs.List.{AllByRecursion, list_any}
use Rattle.std.proofs.lemmas.Bool.{false≢true}
use Rattle.qs_wire.specs.Layout.{FrameValue}
use Rattle.qs_wire.specs.declared.stream_id.Dir.{Dir}
use Rattle.qs_send.specs.Records.{Among}
use Rattle.qs_calls.specs.declared.closing.Closed.{Closed}
use Rattle.qs_calls.specs.declared.closing.Closed.TheVariants.{ByPeer}
use Rattle.qs_calls.specs.declared.closing.Closing.{Closing}
use Rattle.qs_calls.specs.declared.closing.Received.{Received}
use Rattle.qs_calls.specs.declared.settings.Settings.{Settings}
use Rattle.qs_calls.specs.declared.settings.Tuning.{Tuning}
use Rattle.qs_calls.specs.declared.settings.PeerLimits.{PeerLimits}
use Rattle.qs_calls.specs.declared.token.Taken.{Taken}
use Rattle.qs_calls.specs.declared.token.TakeFault.{TakeFault}
use Rattle.qs_calls.specs.declared.event.Side.{Side}
use Rattle.qs_calls.specs.declared.event.Side.TheVariants.{A, B}
use Rattle.qs_machine.specs.Ends.{End, new_end, wide_end_made, is_own_by}
use Rattle.qs_machine.specs.Credit.{first_grant, granted_streams}
use Rattle.qs_machine.specs.Receiving.{ReceiveStep}
use Rattle.qs_machine.specs.Seen.{Seen, seen_all}
use Rattle.qs_machine.specs.Plains.{frames_in}
use Rattle.qs_machine.specs.Alone.{is_ours}
use Rattle.qs_machine.specs.Raising.{greater_limits}
use Rattle.qs_machine.specs.EndStep.{Call, Answer, EndStep, Receive, TakeFrame, TakeFrames, TokenAcked, RaiseLimits}
use Rattle.qs_machine.specs.Standing.{IsSound}
use Rattle.qs_machine.specs.Repeats.{SentWasWritten}
use Rattle.qs_machine.proofs.Counts.{new_ends_sound}
use Rattle.qs_machine.proofs.SentCalls.{new_keeps, keeps_call}
use Rattle.qs_machine.proofs.CallsCounts.{sound_end, counts_call}
use Rattle.qs_machine.proofs.EveryCall.{closed_stays}
use Rattle.qs_machine.proofs.Plains.{close_comes}
use Rattle.qs_machine.proofs.Pieces.{All_append}
use Rattle.qs_runs.specs.Logs.{Happening, History, Effect, other, effects, effects_of, sent_in, took_in, comes_in, acks_in, closes_in, processed, taken, was_acked, was_noted_closed, made, HasMade, HasLanded}
use Rattle.qs_runs.specs.Worlds.{World, AreGranted, Begins, IsPayload, IsClose, IsFrom, May, end_of, WorldStep, Run}
use Rattle.qs_runs.specs.Agree.{StaysOpen}
use Rattle.qs_runs.specs.Events.{Log, happened, EventRun}
use Rattle.qs_runs.specs.Pasts.{packets_in, past}
use Rattle.qs_runs.specs.Invariant.{EndOk, CountsTrue, CountsOk, WorldOk, role_of, settings_of, stands_as, standing}
use Rattle.qs_runs.proofs.Past.{effects_made}
use Rattle.qs_runs.proofs.Lists.{Among_either, Among_right}
use Rattle.qs_runs.proofs.Unharmed.{Facing, ProcessedWasMade}
use Rattle.qs_runs.proofs.Changes.{settle_ok}
use Rattle.qs_runs.proofs.Receives.{HandedIn, closed_ok, receives, handed_came, token_acked_moves}
use Rattle.qs_runs.proofs.OwnMoves.{Hears, heard_or, heard_same}
use Rattle.qs_runs.proofs.Standing.{fixed, call_stands, certain_cases}
use Rattle.qs_runs.proofs.PeerMoves.{peer_moves}
use Rattle.qs_runs.proofs.Facing.{facing, receive_stands, fine_now}
use Rattle.qs_runs.proofs.Histories.{two_sides, did, effects_there, past_here, past_there, made_here, made_there, taken_here, theirs_mine, payload_seen, AreFaultless, none_sent, frames_told, payload_come, still_has_made, still_landed, still_closed, any_here, none_here, still_made, back_again, closed_hears, Heard, heard_some, came_made, came_landed, acked_landed}
use Rattle.qs_runs.proofs.Packing.{Leaves, none_leaves, nothing_leaves, own_leaves}
use Rattle.qs_runs.proofs.NewEnds.{each_begun, begins_true, tells_nothing, new_ok}
use Rattle.qs_runs.proofs.Granting.{counts_told, known_within}

pub roles_face : (s : Side) (n : ℕ) → is_own_by (role_of s) n ≡ not (is_own_by (role_of (other s)) n)
roles_face s n = grind (arith, nat_tests)

module _ (a b : Settings) (h : History) (w : World) (ok : WorldOk a b h w) where
  pub opposite : (s : Side) (n : ℕ) → is_own_by (end_of w s).role n ≡ not (is_own_by (end_of w (other s)).role n)
  opposite s n = ap (λ x. is_own_by x.role n) (ok.stand s) ∙ roles_face s n ∙ ap (λ x. not (is_own_by x.role n)) (sym (ok.stand (other s)))

  pub granted_limits : (s : Side) → AreGranted (end_of w s).peer (end_of w (other s)).settings
  granted_limits s = subst (AreGranted (end_of w s).peer) (sym (ap (λ x. x.settings) (ok.stand (other s)))) (ok.peers s)

  -- and so of the other side
  pub faces_back : (s : Side) (n : ℕ) → is_own_by (end_of w (other s)).role n ≡ not (is_own_by (end_of w s).role n)
  faces_back A n = opposite B n
  faces_back B n = opposite A n

  pub granted_back : (s : Side) → AreGranted (end_of w (other s)).peer (end_of w s).settings
  granted_back A = granted_limits B
  granted_back B = granted_limits A

  -- what is known of the counts of streams is granted
  pub known_counts : (s : Side) → ((end_of w s).known_bidi ≤ (end_of w (other s)).granted_bidi) × ((end_of w s).known_uni ≤ (end_of w (other s)).granted_uni)
  known_counts s = known_within (past (other s) h) (past s h) (end_of w (other s)) (end_of w s) refl (ok.counts (other s)) (ok.ends s) (granted_limits s)

  pub known_back : (s : Side) → ((end_of w (other s)).known_bidi ≤ (end_of w s).granted_bidi) × ((end_of w (other s)).known_uni ≤ (end_of w s).granted_uni)
  known_back A = known_counts B
  known_back B = known_counts A

  -- what it processed its peer made
  pub processed_made : (s : Side) → ProcessedWasMade (past s h)
  processed_made s k done = by s (λ t. ok.landed t k) done
    where
      by : (s : Side) → ((t : Side) → processed (other t) k h ≡ true → HasLanded h t k) → processed s k h ≡ true → (fs : List Seen) × (slice_get (past s h).theirs k ≡ Some fs)
      by A landed done = (let (text, is, all) = landed B done in (frames_in text, payload_seen B k h text is))
      by B landed done = (let (text, is, all) = landed A done in (frames_in text, payload_seen A k h text is))

  -- each end faces the other
  pub ends_face : (s : Side) → Facing (end_of w (other s)) (end_of w s)
  ends_face s = facing (end_of w (other s)) (end_of w s) (opposite s) (granted_limits s) (known_counts s).0 (known_counts s).1

pub moved : {X : Type 0} (P : X → Type 0) (x y : X) → y ≡ x → P x → P y
moved P x y e h = subst P (sym e) h

-- One side

-- What the invariant says of one side.
pub record SideOk (a b : Settings) (s : Side) (h : History) (e : End) : Type 0 where
  pub ok : EndOk (past s h) e
  pub counts : CountsOk (past s h) e
  pub sound : IsSound e
  pub sent : SentWasWritten e
  pub stand : standing e ≡ stands_as a b s e.peer
  pub peer : AreGranted e.peer (settings_of a b (other s))
  pub texts : AreFaultless (made s h)

pub side_of : (a b : Settings) (h : History) (w : World) → WorldOk a b h w → (s : Side) → SideOk a b s h (end_of w s)
side_of a b h w ok s =
    record { ok = ok.ends s; counts = ok.counts s; sound = ok.sound s; sent = ok.sent s; stand = ok.stand s; peer = ok.peers s; texts = ok.texts s }

-- What it says of what landed, and of a close, for both.
pub record Lands (h : History) (w : World) : Type 0 where
  pub taken : (s : Side) (f : Seen) → Among f (taken s h) → is_ours f ≡ true → HasMade h (other s) f
  pub landed : (s : Side) (k : ℕ) → processed (other s) k h ≡ true → HasLanded h s k
  pub confirmed : (s : Side) (k : ℕ) → was_acked s k h ≡ true → HasLanded h s k
  pub unclosed : (s : Side) → StaysOpen h w s

of_sides : (a b : Settings) (h : History) (w : World) → ((s : Side) → SideOk a b s h (end_of w s)) → Lands h w → WorldOk a b h w
of_sides a b h w sides lands =
    record {
      ends = λ s. (sides s).ok;
      counts = λ s. (sides s).counts;
      sound = λ s. (sides s).sound;
      sent = λ s. (sides s).sent;
      stand = λ s. (sides s).stand;
      peers = λ s. (sides s).peer;
      texts = λ s. (sides s).texts;
      taken = lands.taken;
      landed = lands.landed;
      confirmed = lands.confirmed;
      unclosed = lands.unclosed;
    }

-- the two ends begin in agreement
first_side : (a b : Settings) (s : Side) (t : Tuning) (told : PeerLimits) → wide_end_made (role_of s) (settings_of a b s) t told ≡ Ok (new_end (role_of s) (settings_of a b s) t told) → AreGranted told (settings_of a b (other s)) → SideOk a b s [] (new_end (role_of s) (settings_of a b s) t told)
unfolding effects
first_side a b s t told begun peer =
    record {
      ok = new_ok (role_of s) (settings_of a b s) t told (past s []) refl (λ n. refl) (λ n. refl) (λ n. refl) (λ n. refl) (λ k. refl) refl;
      counts = record { first_granted = first; told = λ d count t. absurd (tells_nothing (past s []).mine _ refl t) };
      sound = new_ends_sound (role_of s) (settings_of a b s) t told (new_end (role_of s) (settings_of a b s) t told) begun;
      sent = new_keeps (role_of s) (settings_of a b s) t told (new_end (role_of s) (settings_of a b s) t told) begun;
      stand = refl;
      peer = peer;
      texts = tt;
    }
  where
    first : (d : Dir) → first_grant (settings_of a b s) d ≤ granted_streams (new_end (role_of s) (settings_of a b s) t told) d
    first _ = omega arith

pub start : (a b : Settings) (w : World) → Begins a b w → WorldOk a b [] w
unfolding effects
start a b w begins =
    of_sides a b [] w (each_begun (λ s e. SideOk a b s [] e) a b w begins (first_side a b))
    (record {
      taken = λ s f a. absurd a;
      landed = λ s k is. absurd (false≢true is);
      confirmed = λ s k is. absurd (false≢true is);
      unclosed = λ s is. inl (each_begun (λ t e. e.closed ≡ None) a b w begins (λ t tuning told begun granted. refl) s);
    })

-- limits that are granted both
both_granted : (p q : PeerLimits) (s : Settings) → AreGranted p s → AreGranted q s → AreGranted (greater_limits p q) s
both_granted p q s x y = grind (arith, nat_tests)

-- What a call of a side leaves of what stands; only a close that is told closes an end, there or at its peer.
pub record Stays (granted : PeerLimits → Type 0) (told : Bool) (e new : End) (xs : List Effect) : Type 0 where
  pub role : new.role ≡ e.role
  pub settings : new.settings ≡ e.settings
  pub peer : granted new.peer
  pub closed : list_any closes_in xs ≡ false → (new.closed ≡ e.closed) ⊎ ((told ≡ true) × (code : ℕ) × (new.closed ≡ Some (ByPeer code)))

module _ (granted : PeerLimits → Type 0) (told : Bool) (e : End) (peer : granted e.peer) where
  all_stays : (new : End) (xs : List Effect) → fixed new ≡ fixed e → Stays granted told e new xs
  all_stays new xs stays = record { role = ap (λ y. y.0.role) stays; settings = ap (λ y. y.0.settings) stays; peer = subst granted (sym (ap (λ y. y.0.peer) stays)) peer; closed = λ none. inl (ap (λ y. y.1) stays) }

  -- a call in which an end hears nothing of its peer
  own_stays : (new : End) (call : Call) (answer : Answer call) → (Hears call → ⊥) → ((q : PeerLimits) → call ≡ RaiseLimits q → e.closed ≡ None → granted (greater_limits e.peer q)) → EndStep e call answer new → Stays granted told e new (effects_of call answer)
  own_stays new call answer deaf may step = grind (arith, nat_tests, certain_cases, fixed, call_stands)

-- One thing more happens

module _ (a b : Settings) (h : History) (v w : World) (s : Side) (ok : WorldOk a b h v) where
  here : SideOk a b s h (end_of v s)
  here = side_of a b h v ok s

  there : SideOk a b (other s) h (end_of v (other s))
  there = side_of a b h v ok (other s)

  abbrev old : End
  old = end_of v s

  abbrev new : End
  new = end_of w s

  -- what a call of this side leaves
  abbrev LeavesAll : End → List Effect → Type 0
  LeavesAll now xs = Leaves (past s h) old now xs × Stays (λ p. AreGranted p (settings_of a b (other s))) (was_noted_closed (other s) h) old now xs

  -- what comes to an open end of what its peer made
  module _ (open_end : old.closed ≡ None) where
    payload_leaves : (k : ℕ) (bytes : List ℕ) (result : Result Received Closing) → IsPayload h (other s) k bytes → ReceiveStep old k bytes result new → LeavesAll new (effects_of (Receive k bytes) result)
    payload_leaves k bytes result is step =
        let come = payload_come h s k bytes is in
        let (text, at, differ) = is in (
          none_leaves _ old new _ (none_sent (Receive k bytes) result (λ no. no)) (receives (past s h) old new k bytes result here.ok come step),
          all_stays _ _ old here.peer new _
              (receive_stands (past s h) (past (other s) h) old (end_of v (other s)) there.ok refl (theirs_mine s h) (faces_back a b h v ok s) (granted_back a b h v ok s) (known_back a b h v ok s).0 (known_back a b h v ok s).1 (processed_made a b h v ok (other s))
              new k bytes result here.ok open_end differ.reads come step),
        )

    close_leaves : (k : ℕ) (bytes : List ℕ) (result : Result Received Closing) → IsClose h (other s) bytes → ReceiveStep old k bytes result new → LeavesAll new (effects_of (Receive k bytes) result)
    close_leaves k bytes result (told, code, is) step =
        let same : LeavesAll old [] = (none_leaves (past s h) old old [] refl here.ok, all_stays _ _ old here.peer old [] refl) in
        close_comes (λ r n. LeavesAll n (effects_of (Receive k bytes) r)) k code bytes old new result open_end is step same same
        (none_leaves (past s h) old _ [] refl (settle_ok (past s h) _ (closed_ok (past s h) old (ByPeer code) here.ok)), record { role = refl; settings = refl; peer = here.peer; closed = λ none. inr (told, code, refl) })

    frames_leave : (fs : List FrameValue) (result : Result Taken TakeFault) → AllByRecursion (IsFrom h (other s)) (seen_all fs) → HandedIn fs old result new → LeavesAll new (effects_of (TakeFrames fs) result)
    frames_leave fs result from handed =
        let (came, stands) =
        handed_came (past s h) old
        (fine_now (past s h) (past (other s) h) old (end_of v (other s)) there.ok refl (theirs_mine s h) (faces_back a b h v ok s) (granted_back a b h v ok s) (known_back a b h v ok s).0 (known_back a b h v ok s).1 (processed_made a b h v ok (other s)))
        fs old result new open_end here.ok (refl, refl, refl) (frames_told h s there.texts fs from) handed in
        (none_leaves _ old new _ (none_sent (TakeFrames fs) result (λ no. no)) came, all_stays _ _ old here.peer new _ stands)

  -- a call that hears something, at an open end
  heard_leaves : old.closed ≡ None → (call : Call) (answer : Answer call) → Hears call → May h v s call → EndStep old call answer new → LeavesAll new (effects_of call answer)
  heard_leaves open_end (Receive k bytes) answer hears (inl made) step = payload_leaves open_end k bytes answer made step
  heard_leaves open_end (Receive k bytes) answer hears (inr close) step = close_leaves open_end k bytes answer close step
  heard_leaves open_end (TakeFrames fs) answer hears may step = frames_leave open_end fs answer may (inl step)
  heard_leaves open_end (TakeFrame f) answer hears may step = frames_leave open_end (f ∷ []) answer (may, tt) (inr (f, refl, step))
  heard_leaves open_end (TokenAcked t) answer hears may step = (
    none_leaves _ old new _ (none_sent (TokenAcked t) answer (λ no. no)) (token_acked_moves (past s h) old new t answer here.ok step),
    all_stays _ _ old here.peer new _ (call_stands old (TokenAcked t) (λ no. no) answer new step),
  )
  heard_leaves open_end call answer hears may step = absurd hears

  closed_leaves : (xs : List Effect) → xs ≡ [] → new ≡ old → LeavesAll new xs
  closed_leaves xs none same = (nothing_leaves (past s h) old new here.ok xs none same, all_stays _ _ old here.peer new xs (ap fixed same))

  own_leaves_all : (call : Call) (answer : Answer call) → (Hears call → ⊥) → (old.closed ≡ None → May h v s call) → EndStep old call answer new → LeavesAll new (effects_of call answer)
  own_leaves_all call answer deaf may step = (
    own_leaves (past s h) old new here.ok call answer deaf step,
    own_stays _ _ old here.peer new call answer deaf (λ q is open_end. both_granted old.peer q _ here.peer (subst (AreGranted q) (ap (λ y. y.settings) there.stand) (subst (May h v s) is (may open_end)))) step,
  )

  -- each call
  leaves_all : (call : Call) (answer : Answer call) → (old.closed ≡ None → May h v s call) → EndStep old call answer new → LeavesAll new (effects_of call answer)
  leaves_all call answer may step =
      elim (heard_or call) [
        | inl heard ↦ by_closed heard old.closed refl
        | inr deaf ↦ own_leaves_all call answer deaf may step
      ]
    where
      by_closed : Hears call → (o : Option Closed) → old.closed ≡ o → LeavesAll new (effects_of call answer)
      by_closed heard None open_end = heard_leaves open_end call answer heard (may open_end) step
      by_closed heard (Some closed) shut = closed_leaves _ (closed_hears old new call answer (ap is_some shut) heard step) (heard_same old new call heard (closed_stays old call answer new (ap is_some shut) step))

-- One step keeps what holds of each side.
module _ (a b : Settings) (h : History) (v w : World) (x : Happening) (ok : WorldOk a b h v) (step : WorldStep h v x w) where
  after : LeavesAll a b h v w x.end ok (end_of w x.end) (did x h)
  after = leaves_all a b h v w x.end ok x.call x.answer step.may step.step

  here_side : SideOk a b x.end (x ∷ h) (end_of w x.end)
  here_side =
      let own = side_of a b h v ok x.end in
      let (leaves, stays) = after in
      let rise = counts_call (end_of v x.end) own.sound own.sent x.call x.answer (end_of w x.end) step.step in
      record {
        ok = moved (λ p. EndOk p (end_of w x.end)) _ _ (past_here x h) leaves.ok;
        counts = moved (λ p. CountsOk p (end_of w x.end)) _ _ (past_here x h) (subst (λ ps. CountsTrue ps (end_of w x.end).settings (granted_streams (end_of w x.end))) (sym (effects_made (did x h) (past x.end h))) (counts_told (past x.end h).mine (end_of v x.end) (end_of w x.end) own.counts stays.settings rise (packets_in (did x h)) leaves.counts));
        sound = sound_end (end_of v x.end) x.call x.answer (end_of w x.end) own.sound step.step;
        sent = keeps_call (end_of v x.end) x.call x.answer (end_of w x.end) step.step own.sent;
        stand = λ i. record { role = (stays.role ∙ ap (λ y. y.role) own.stand) i; settings = (stays.settings ∙ ap (λ y. y.settings) own.stand) i; peer = (end_of w x.end).peer };
        peer = stays.peer;
        texts = moved AreFaultless _ _ (made_here x h) (All_append _ (made x.end h) (flat_map sent_in (did x h)) own.texts leaves.faultless);
      }

  -- the other end stays, and its peer may have made packets
  there_side : SideOk a b (other x.end) (x ∷ h) (end_of w (other x.end))
  there_side =
      let its = side_of a b h v ok (other x.end) in
      moved (SideOk a b (other x.end) (x ∷ h)) _ _ step.still
      (record {
        ok = moved (λ p. EndOk p (end_of v (other x.end))) _ _ (past_there x h) (peer_moves (past (other x.end) h) (packets_in (did x h)) (end_of v (other x.end)) its.ok);
        counts = moved (λ p. CountsOk p (end_of v (other x.end))) _ _ (past_there x h) its.counts;
        sound = its.sound;
        sent = its.sent;
        stand = its.stand;
        peer = its.peer;
        texts = moved AreFaultless _ _ (made_there x h) its.texts;
      })

  -- where something was heard the end was open
  may_hear : (did x h ≡ [] → ⊥) → Hears x.call → Heard h v x.end (end_of w x.end) x.call
  may_hear some heard = by (end_of v x.end).closed refl
    where
      by : (o : Option Closed) → (end_of v x.end).closed ≡ o → Heard h v x.end (end_of w x.end) x.call
      by None open_end = heard_some h v x.end (end_of w x.end) x.call x.answer open_end some (step.may open_end) step.step
      by (Some closed) shut = absurd (some (closed_hears (end_of v x.end) (end_of w x.end) x.call x.answer (ap is_some shut) heard step.step))

  taken_here_made : (f : Seen) → Among f (taken x.end (x ∷ h)) → is_ours f ≡ true → HasMade (x ∷ h) (other x.end) f
  taken_here_made f a ours =
      elim (Among_either (taken x.end h) (flat_map took_in (did x h)) f (subst (Among f) (taken_here x h) a)) [
        | inl was ↦ still_has_made x h (other x.end) f (ok.taken x.end f was ours)
        | inr now ↦ still_has_made x h (other x.end) f (came_made h v x.end (end_of w x.end) x.call x.answer (may_hear (λ none. subst (λ xs. Among f (flat_map took_in xs)) none now)) f now ours)
      ]

  landed_before : (t : Side) (k : ℕ) → processed t k h ≡ true → HasLanded h (other t) k
  landed_before A k is = ok.landed B k is
  landed_before B k is = ok.landed A k is

  landed_here : (k : ℕ) → processed x.end k (x ∷ h) ≡ true → HasLanded (x ∷ h) (other x.end) k
  landed_here k is =
      elim (any_here (comes_in k) x h is) [
        | inl was ↦ still_landed x h (other x.end) k (landed_before x.end k was)
        | inr now ↦ (
            let (text, at, covers) = came_landed h v x.end (end_of w x.end) x.call x.answer (may_hear (λ none. false≢true (sym (ap (list_any (comes_in k)) none) ∙ now))) k now in (
              text,
              still_made x h (other x.end) k text at,
              λ f a land. back_again (λ t. Among f (taken t (x ∷ h))) x.end (subst (Among f) (sym (taken_here x h)) (Among_right (taken x.end h) (flat_map took_in (did x h)) f (covers f a land))),
            )
            )
      ]

  landed_there : (k : ℕ) → processed (other x.end) k (x ∷ h) ≡ true → HasLanded (x ∷ h) (other (other x.end)) k
  landed_there k is = still_landed x h (other (other x.end)) k (landed_before (other x.end) k (subst (λ xs. list_any (comes_in k) xs ≡ true) (effects_there x h) is))

  landed_by : (t : Side) (k : ℕ) → processed t k (x ∷ h) ≡ true → HasLanded (x ∷ h) (other t) k
  landed_by t k = two_sides (λ t. processed t k (x ∷ h) ≡ true → HasLanded (x ∷ h) (other t) k) x.end (landed_here k) (landed_there k) t

  landed_now : (s : Side) (k : ℕ) → processed (other s) k (x ∷ h) ≡ true → HasLanded (x ∷ h) s k
  landed_now A k is = landed_by B k is
  landed_now B k is = landed_by A k is

  -- an end that stays as open as it was
  still_open : (s : Side) → was_noted_closed s h ≡ false → (end_of w s).closed ≡ (end_of v s).closed → ((end_of w s).closed ≡ None) ⊎ ((was_noted_closed (other s) (x ∷ h) ≡ true) × (code : ℕ) × ((end_of w s).closed ≡ Some (ByPeer code)))
  still_open s untold same = elim (ok.unclosed s untold) [ inl none ↦ inl (same ∙ none) | inr (told, code, is) ↦ inr (still_closed x h (other s) told, code, same ∙ is) ]

  lands : Lands (x ∷ h) w
  lands =
      record {
        taken = two_sides (λ s. (f : Seen) → Among f (taken s (x ∷ h)) → is_ours f ≡ true → HasMade (x ∷ h) (other s) f) x.end taken_here_made
            (λ f a ours. still_has_made x h (other (other x.end)) f (ok.taken (other x.end) f (subst (Among f) (ap (flat_map took_in) (effects_there x h)) a) ours));
        landed = landed_now;
        confirmed = two_sides (λ s. (k : ℕ) → was_acked s k (x ∷ h) ≡ true → HasLanded (x ∷ h) s k) x.end
            (λ k is. still_landed x h x.end k (elim (any_here (acks_in k) x h is) [
              | inl was ↦ ok.confirmed x.end k was
              | inr now ↦ acked_landed h v x.end (end_of w x.end) x.call x.answer step.step (may_hear (λ none. false≢true (sym (ap (list_any (acks_in k)) none) ∙ now))) k now
            ]))
            (λ k is. still_landed x h (other x.end) k (ok.confirmed (other x.end) k (subst (λ xs. list_any (acks_in k) xs ≡ true) (effects_there x h) is)));
        unclosed = two_sides (λ s. StaysOpen (x ∷ h) w s) x.end
            (λ is. (let (was, now) = none_here closes_in x h is in elim (after.1.closed now) [ inl same ↦ still_open x.end was same | inr (told, code, at) ↦ inr (still_closed x h (other x.end) told, code, at) ]))
            (λ is. still_open (other x.end) (sym (ap (list_any closes_in) (effects_there x h)) ∙ is) (ap (λ (e : End). e.closed) step.still));
      }

-- and so the invariant
pub step_keeps : (a b : Settings) (h : History) (v w : World) (x : Happening) → WorldOk a b h v → WorldStep h v x w → WorldOk a b (x ∷ h) w
step_keeps a b h v w x ok step = of_sides a b (x ∷ h) w (two_sides (λ s. SideOk a b s (x ∷ h) (end_of w s)) x.end (here_side a b h v w x ok step) (there_side a b h v w x ok step)) (lands a b h v w x ok step)

-- each end keeps its settings
pub settings_stay : (a b : Settings) (h : History) (v w : World) (x : Happening) → WorldOk a b h v → WorldOk a b (x ∷ h) w → (s : Side) → (end_of w s).settings ≡ (end_of v s).settings
settings_stay a b h v w x before after s = ap (λ y. y.settings) (after.stand s) ∙ sym (ap (λ y. y.settings) (before.stand s))

-- and so does a run
pub run_keeps : (a b : Settings) (h : History) (w : World) → Run a b h w → WorldOk a b h w
run_keeps a b [] w begins = start a b w begins
run_keeps a b (x ∷ h) w (v, before, step) = step_keeps a b h v w x (run_keeps a b h v before) step

-- a run of events alone is a run
pub event_runs : (a b : Settings) (log : Log) (w : World) → EventRun a b log w → Run a b (happened log) w
event_runs a b [] w is = begins_true a b w is
event_runs a b (x ∷ log) w (v, before, (y, is, step)) =
    let same : happened (x ∷ log) ≡ y ∷ happened log = ap (λ o. elim o as (λ _. History) [ None ↦ happened log | Some z ↦ z ∷ happened log ]) is in
    subst (λ h. Run a b h w) (sym same) (v, event_runs a b log v before, step)
