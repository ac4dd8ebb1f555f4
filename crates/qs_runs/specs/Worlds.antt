-- Trusted.
-- Two ends, each of which was told limits that the other grants, and what may happen to them. The whole file is ours, but that an
-- end is the client, the other the server, and each knows limits of the other (RFC 9000, sections 2.1, 7.4.1 and 18.2).
use Rattle.std.specs.Prelude.{◌≡◌, ℕ, ◌≤◌, List, [], ◌∷◌, ◌⊎◌, None, Some, Result, Ok, Err, true, ⊤}
use Rattle.std.specs.List.{AllByRecursion}
use Rattle.qs_wire.specs.declared.stream_id.Role.TheVariants.{Client, Server}
use Rattle.qs_calls.specs.declared.settings.Settings.{Settings}
use Rattle.qs_calls.specs.declared.settings.Tuning.{Tuning}
use Rattle.qs_calls.specs.declared.settings.PeerLimits.{PeerLimits}
use Rattle.qs_calls.specs.declared.settings.SetupFault.{SetupFault}
use Rattle.qs_calls.specs.declared.event.Side.{Side}
use Rattle.qs_calls.specs.declared.event.Side.TheVariants.{A, B}
use Rattle.qs_machine.specs.Ends.{End, wide_end_made}
use Rattle.qs_machine.specs.Seen.{Seen, Close, seen, seen_all}
use Rattle.qs_machine.specs.Alone.{is_ours}
use Rattle.qs_machine.specs.Plains.{frames_in, but_plain, DifferInPlain}
use Rattle.qs_machine.specs.EndStep.{Call, EndStep, Open, Accept, AcceptOf, Write, Finish, Reset, Stop, StopAndDiscard, ReadUpTo, Consume, Peek, Receive, TakeFrame, TakeFrames, TokenAcked, TokenLost, Make, MakeAck, FillIn, Lose, Claim, RaiseLimits, Set, NoteClosed, ClosingPayload, Stored, Granted, Spent, GrantedStreams, Report}
use Rattle.qs_runs.specs.Logs.{Happening, History, other, payload, was_noted_closed, HasMade, HasLanded, is_in}

pub record World : Type 0 where
  pub a : End
  pub b : End

abbrev pub end_of : World → Side → End
end_of w A = w.a
end_of w B = w.b

abbrev pub both_made : Result End SetupFault → Result End SetupFault → Result World SetupFault
both_made (Err fault) b = Err fault
both_made (Ok a) (Err fault) = Err fault
both_made (Ok a) (Ok b) = Ok (record { a = a; b = b })

-- what comes of making two ends of wide ranges, of which A is the client, each tuned as its owner likes and told limits of the other
abbrev pub begun_with : (a b : Settings) (tuned_a tuned_b : Tuning) (of_a of_b : PeerLimits) → Result World SetupFault
begun_with a b tuned_a tuned_b of_a of_b = both_made (wide_end_made Client a tuned_a of_b) (wide_end_made Server b tuned_b of_a)

-- no limit is above the one that an end of these settings grants from the start
pub record AreGranted (p : PeerLimits) (s : Settings) : Type 0 where
  pub max_data : p.max_data ≤ s.conn_window
  pub bidi_local : p.bidi_local ≤ s.bidi_local
  pub bidi_remote : p.bidi_remote ≤ s.bidi_remote
  pub uni : p.uni ≤ s.uni
  pub streams_bidi : p.streams_bidi ≤ s.grant_bidi
  pub streams_uni : p.streams_uni ≤ s.grant_uni

-- The premises

-- the bytes are a payload that one end made under that number, but for plain frames of the layer beneath (RFC 9000, sections 12.4, 13.2.1
-- and 19)
abbrev pub IsPayload : History → Side → (number : ℕ) → List ℕ → Type 0
IsPayload h s k bytes = (text : List ℕ) × (payload s k h ≡ Some text) × DifferInPlain bytes text

-- the bytes are a CONNECTION_CLOSE, but for plain frames, of an end that was told of a close (RFC 9000, section 10.2)
abbrev pub IsClose : History → Side → List ℕ → Type 0
IsClose h s bytes = (was_noted_closed s h ≡ true) × (code : ℕ) × (but_plain (frames_in bytes) ≡ Close code ∷ [])

-- a frame of streams or of flow control stood in a payload of one end; one of another kind is the layer beneath's own affair (RFC 9000,
-- section 12.4)
abbrev pub IsFrom : History → Side → Seen → Type 0
IsFrom h s f = is_ours f ≡ true → HasMade h s f

-- What the layer beneath keeps, by the call of side s. What comes to an end is a payload of its peer's under its number, or the close of a peer
-- that was told of one; or frames, of which those of streams and flow control stood in its peer's payloads, as they were put in: any of them,
-- in any order, again, of one packet or of several. A token of the end's epoch is acknowledged only once each of its packets landed at the peer. Limits are taken in that the peer
-- grants. All else may happen.
abbrev pub May : History → World → Side → Call → Type 0
May h w s (Open d) = ⊤
May h w s Accept = ⊤
May h w s (AcceptOf d) = ⊤
May h w s (Write n bytes) = ⊤
May h w s (Finish n) = ⊤
May h w s (Reset n code) = ⊤
May h w s (Stop n code) = ⊤
May h w s (StopAndDiscard n code) = ⊤
May h w s (ReadUpTo n size) = ⊤
May h w s (Consume n most) = ⊤
May h w s (Peek n) = ⊤
May h w s (Receive k bytes) = IsPayload h (other s) k bytes ⊎ IsClose h (other s) bytes
May h w s (TakeFrame f) = IsFrom h (other s) (seen f)
May h w s (TakeFrames fs) = AllByRecursion (IsFrom h (other s)) (seen_all fs)
May h w s (TokenAcked t) = t.epoch ≡ (end_of w s).tuning.epoch → (k : ℕ) → is_in t k ≡ true → HasLanded h s k
May h w s (TokenLost t) = ⊤
May h w s (Make first delay room) = ⊤
May h w s (MakeAck delay room) = ⊤
May h w s (FillIn want room) = ⊤
May h w s (Lose k) = ⊤
May h w s Claim = ⊤
May h w s (RaiseLimits p) = AreGranted p (end_of w (other s)).settings
May h w s (Set x) = ⊤
May h w s (NoteClosed close) = ⊤
May h w s (ClosingPayload slice) = ⊤
May h w s Stored = ⊤
May h w s Granted = ⊤
May h w s Spent = ⊤
May h w s (GrantedStreams d) = ⊤
May h w s (Report n) = ⊤

-- One call happens in a world with this history: its end takes the step, the other end stays as it is, and the premise holds. Of an end
-- that closed nothing is asked: it takes nothing in (RFC 9000, section 10.2).
pub record WorldStep (h : History) (old : World) (x : Happening) (new : World) : Type 0 where
  pub step : EndStep (end_of old x.end) x.call x.answer (end_of new x.end)
  pub still : end_of new (other x.end) ≡ end_of old (other x.end)
  pub may : (end_of old x.end).closed ≡ None → May h old x.end x.call

-- Two ends were made, tuned as their owners like, each told limits that the other grants: the true ones, or lower ones that it remembers
-- from a connection before (RFC 9000, section 7.4.1).
pub record Begins (a b : Settings) (w : World) : Type 0 where
  pub tuned_a : Tuning
  pub tuned_b : Tuning
  pub of_a : PeerLimits
  pub of_b : PeerLimits
  pub granted_a : AreGranted of_a a
  pub granted_b : AreGranted of_b b
  pub begun : begun_with a b tuned_a tuned_b of_a of_b ≡ Ok w

-- the world comes from the first one by what happened
abbrev pub Run : Settings → Settings → History → World → Type 0
Run a b [] w = Begins a b w
Run a b (x ∷ h) w = (v : World) × Run a b h v × WorldStep h v x w
