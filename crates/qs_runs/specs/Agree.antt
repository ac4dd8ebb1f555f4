-- Trusted.
-- What two ends agree on, whatever happens to them and to their packets.
use Rattle.std.specs.Prelude.{◌≡◌, ◌≢◌, ℕ, ◌+◌, ◌<◌, ◌≤◌, true, false, List, [], ◌∷◌, ◌++◌, length, take, flat_map, ◌⊎◌, None, Some, ⊤}
use Rattle.std.specs.List.{AllByRecursion}
use Rattle.std.specs.FinSet as set
use Rattle.qs_recv.specs.Lane.{RecvLane}
use Rattle.qs_send.specs.Lane.{SendLane, state, declared_size}
use Rattle.qs_send.specs.declared.parts.SendState.TheVariants.{DataRecvd}
use Rattle.qs_send.specs.declared.piece.Item.TheVariants.{ResetStream}
use Rattle.qs_calls.specs.declared.closing.Closed.TheVariants.{ByPeer}
use Rattle.qs_calls.specs.declared.settings.Settings.{Settings}
use Rattle.qs_calls.specs.declared.event.Side.{Side}
use Rattle.qs_machine.specs.Ends.{End, send_lane, recv_lane}
use Rattle.qs_machine.specs.Credit.{spent, all_sent}
use Rattle.qs_machine.specs.Seen.{Seen, Stream, Control, seen, seen_all}
use Rattle.qs_machine.specs.Plains.{frames_in}
use Rattle.qs_machine.specs.EndStep.{Call, Receive, TakeFrame, TakeFrames}
use Rattle.qs_runs.specs.Logs.{Happening, History, other, effects_of, gave_in, written, read, shown, read_whole, processed, was_noted_closed}
use Rattle.qs_runs.specs.Worlds.{World, end_of, WorldStep, Run}

-- xs is how ys begins (RFC 9000, section 2.2)
abbrev pub IsPrefixOf : {X : Type 0} → List X → List X → Type 0
IsPrefixOf {X} xs ys = (rest : List X) × (xs ++ rest ≡ ys)

-- Stream n as side s sends it and the other side receives it: what is read is a prefix of what was written (RFC 9000, section 2.2), and
-- all of it once the end was told to a reader that had not stopped.
pub record PrefixAgrees (h : History) (s : Side) (n : ℕ) : Type 0 where
  pub prefix : IsPrefixOf (read (other s) n h) (written s n h)
  pub ended : read_whole (other s) n h ≡ true → read (other s) n h ≡ written s n h

-- what was taken last of a stream is what was shown of it before, as far as both go (RFC 9000, section 2.2)
abbrev pub IsTakenAsShown : ℕ → History → Type 0
IsTakenAsShown n [] = ⊤
IsTakenAsShown n (x ∷ h) =
    let given = flat_map (gave_in n) (effects_of x.call x.answer) in
    take (length given) (shown x.end n h) ≡ take (length (shown x.end n h)) given

-- What is shown follows, in what was written, what was read; and so is what is taken then (RFC 9000, section 2.2).
pub record ShownAgrees (h : History) (s : Side) (n : ℕ) : Type 0 where
  pub follows : IsPrefixOf (read (other s) n h ++ shown (other s) n h) (written s n h)
  pub taken : IsTakenAsShown n h

-- what counts as received at the sender was received in whole (RFC 9000, section 3.1)
abbrev pub WholeAgrees : History → World → Side → ℕ → Type 0
WholeAgrees h w s n =
    (l : SendLane) → send_lane (end_of w s) n ≡ Some l → state l ≡ DataRecvd →
    (r : RecvLane) × (recv_lane (end_of w (other s)) n ≡ Some r) × (r.final_size ≡ Some (length (written s n h)))
    × ((q : ℕ) → q < length (written s n h) → set.contains r.arrived.received q ≡ true)

-- a final size that is known is the declared one, and the code of a known reset is the sender's (RFC 9000, section 4.5)
pub record FinalSizesAgree (w : World) (s : Side) (n : ℕ) : Type 0 where
  pub size : (r : RecvLane) (size : ℕ) → recv_lane (end_of w (other s)) n ≡ Some r → r.final_size ≡ Some size →
      (l : SendLane) × (send_lane (end_of w s) n ≡ Some l) × (declared_size l ≡ Some size)
  pub code : (r : RecvLane) (code : ℕ) → recv_lane (end_of w (other s)) n ≡ Some r → r.reset_code ≡ Some code →
      (l : SendLane) × (size : ℕ) × (send_lane (end_of w s) n ≡ Some l) × (l.was_reset ≡ Some (record { code = code; size = size }))

-- what is spent of an end's credit is at most what its peer sent (RFC 9000, section 4.1)
abbrev pub CreditAgrees : World → Side → Type 0
CreditAgrees w s = spent (end_of w s) ≤ all_sent (end_of w (other s))

-- an end that was told of no close is open, or its peer was told of one, and it saw that peer's close (RFC 9000, section 10.2)
abbrev pub StaysOpen : History → World → Side → Type 0
StaysOpen h w s = was_noted_closed s h ≡ false → ((end_of w s).closed ≡ None) ⊎ ((was_noted_closed (other s) h ≡ true) × (code : ℕ) × ((end_of w s).closed ≡ Some (ByPeer code)))

-- what agrees in a world with this history (RFC 9000, sections 2.2, 3, 4 and 10.2)
pub record Agree (h : History) (w : World) : Type 0 where
  pub prefix : (s : Side) (n : ℕ) → PrefixAgrees h s n
  pub shown : (s : Side) (n : ℕ) → ShownAgrees h s n
  pub credit : (s : Side) → CreditAgrees w s
  pub whole : (s : Side) (n : ℕ) → WholeAgrees h w s n
  pub final_sizes : (s : Side) (n : ℕ) → FinalSizesAgree w s n
  pub stays_open : (s : Side) → StaysOpen h w s

-- Repeats (RFC 9000, sections 2.2, 4.1 and 12.3)

-- the stream's final size is known
abbrev pub KnowsSize : End → ℕ → Type 0
KnowsSize e n = (l : RecvLane) × (recv_lane e n ≡ Some l) × (l.final_size ≢ None)

-- everything that a frame tells of offsets and final sizes was known before
abbrev pub IsOld : End → Seen → Type 0
IsOld e (Stream n offset bytes fin) =
    ((q : ℕ) → offset ≤ q → q < offset + length bytes → (l : RecvLane) × (recv_lane e n ≡ Some l) × (set.contains l.arrived.received q ≡ true))
    × (fin ≡ true → KnowsSize e n)
IsOld e (Control (ResetStream n code size)) = KnowsSize e n
IsOld e f = ⊤

-- the frames that a call hands to an end; another call hands in none, and so spends nothing
abbrev pub handed_in : Call → List Seen
handed_in (Receive k bytes) = frames_in bytes
handed_in (TakeFrame f) = seen f ∷ []
handed_in (TakeFrames fs) = seen_all fs
handed_in call = []

-- A repeat spends no credit (RFC 9000, sections 2.2, 4.1 and 12.3).
pub record StepAgrees (h : History) (old : World) (x : Happening) (new : World) : Type 0 where
  -- a packet that was processed leaves the end as it was
  pub again : (k : ℕ) (bytes : List ℕ) → x.call ≡ Receive k bytes → processed x.end k h ≡ true → end_of new x.end ≡ end_of old x.end
  -- what tells nothing new spends nothing
  pub old_news : AllByRecursion (IsOld (end_of old x.end)) (handed_in x.call) → spent (end_of new x.end) ≡ spent (end_of old x.end)

-- every world of a run agrees, and so does every step
abbrev pub EveryRunAgrees : Type 0
EveryRunAgrees =
    (a b : Settings) (h : History) (w : World) → Run a b h w →
    Agree h w × ((x : Happening) (new : World) → WorldStep h w x new → StepAgrees h w x new)
