-- Of laws.
-- What a round is, and what none is for want of each of its parts. The whole file is ours.
use Rattle.std.specs.Prelude.{◌≡◌, ℕ, Bool, true, List, [], ◌∷◌, Some, Ok, Err}
use Rattle.std.specs.FinMap as fmap
use Rattle.qs_calls.specs.declared.closing.Received.TheVariants.{Done, NoMemory}
use Rattle.qs_wire.specs.Layout.{FrameValue}
use Rattle.qs_calls.specs.declared.event.Side.{Side}
use Rattle.qs_calls.specs.declared.filling.Fill.{Fill}
use Rattle.qs_calls.specs.declared.filling.Filled.{Filled}
use Rattle.qs_calls.specs.declared.making.Made.{Made}
use Rattle.qs_calls.specs.declared.token.Taken.{Taken}
use Rattle.qs_calls.specs.declared.token.TakeFault.{TakeFault}
use Rattle.qs_calls.specs.declared.token.Token.{Token}
use Rattle.qs_calls.specs.declared.token.TokenFault.{TokenFault}
use Rattle.qs_machine.specs.Due.{Sendable}
use Rattle.qs_machine.specs.EndStep.{Call, Receive, TakeFrames, TokenAcked, TokenLost, Make, FillIn, Lose}
use Rattle.qs_machine.specs.News.{IsReadable}
use Rattle.qs_machine.specs.Plains.{frames_in}
use Rattle.qs_machine.specs.Seen.{seen_all}
use Rattle.qs_runs.specs.Logs.{Happening, HasLanded, other}
use Rattle.qs_runs.specs.Worlds.{end_of}
use Rattle.qs_progress.specs.Laps.{Moment, IsCalm}
use Rattle.qs_progress.specs.Rounds.{Way, Packets, Tokens, Happens, Idles, Loses, Delivers, TakesTurn, IsRead, Round}
use Rattle.qs_progress.specs.Comes.{BothRest, Course}
use Rattle.qs_progress.specs.ExclusionsLaps.{before, after}

-- a packet was made
abbrev pub makes : (s : Side) (first delay room : ℕ) → Made → List ℕ → Happening
makes s first delay room made text = record { end = s; call = Make first delay room; answer = (Ok (Some made), text) }

-- frames were filled in
abbrev pub fills : (s : Side) → Fill → (room : ℕ) → Filled → List ℕ → Happening
fills s want room filled text = record { end = s; call = FillIn want room; answer = (Ok (Some filled), text) }

-- an end took frames
abbrev pub hands_in : Side → List FrameValue → Taken → Happening
hands_in s frames taken = record { end = s; call = TakeFrames frames; answer = Ok taken }

-- What is no round by tokens
pub record TokenExclusions : Type 0 where
  -- where a packet is lost by its number, as none is by packets where it is lost by its token
  pub by_number : (s : Side) (k : ℕ) (old new : Moment) → Happens (record { end = s; call = Lose k; answer = Ok tt }) old new → Loses Tokens s old new → ⊥
  pub by_token : (s : Side) (t : Token) (old new : Moment) → Happens (record { end = s; call = TokenLost t; answer = Ok tt }) old new → Loses Packets s old new → ⊥
  -- where frames that are filled in don't come
  pub alone : (s : Side) (want : Fill) (room : ℕ) (filled : Filled) (text : List ℕ) (old new : Moment) → Happens (fills s want room filled text) old new → Delivers Tokens s old new → ⊥
  -- or come with their packet
  pub received : (s : Side) (want : Fill) (room k : ℕ) (filled : Filled) (text bytes : List ℕ) (old mid new : Moment) → Happens (fills s want room filled text) old mid
      → Happens (record { end = other s; call = Receive k bytes; answer = Ok Done }) mid new → Delivers Tokens s old new → ⊥
  -- or others come
  pub others : (s : Side) (want : Fill) (room : ℕ) (filled : Filled) (text : List ℕ) (frames : List FrameValue) (taken : Taken) (old mid new : Moment) → Happens (fills s want room filled text) old mid
      → Happens (hands_in (other s) frames taken) mid new → Delivers Tokens s old new → seen_all frames ≡ frames_in text
  -- or not all are taken
  pub refused : (s : Side) (want : Fill) (room : ℕ) (filled : Filled) (text : List ℕ) (frames : List FrameValue) (fault : TakeFault) (old mid new : Moment) → Happens (fills s want room filled text) old mid
      → Happens (record { end = other s; call = TakeFrames frames; answer = Err fault }) mid new → Delivers Tokens s old new → ⊥
  -- where a token is refused, unless that changes neither end
  pub refused_token : (s t : Side) (token : Token) (fault : TokenFault) (old new : Moment) → Happens (record { end = t; call = TokenAcked token; answer = Err fault }) old new → Delivers Tokens s old new → Idles old new
  -- and where a packet that landed isn't told as the other's turn ends
  pub untold : (s : Side) (old new : Moment) (k : ℕ) → HasLanded new.log (other s) k → fmap.contains_key (end_of new.ends (other s)).outstanding k ≡ true → TakesTurn Tokens s old new → ⊥

pub record RoundExclusions : Type 0 where
  -- a round: nothing is outstanding, nothing may go, and a reader is told the end
  pub reads : (way : Way) → Round way before after
  -- what happens is logged
  pub logged : (x : Happening) (m : Moment) → Happens x m m → ⊥
  -- none is one where losses change the other end, or leave a packet outstanding
  pub losses : (way : Way) (s : Side) (old new : Moment) → Loses way s old new → end_of new.ends (other s) ≡ end_of old.ends (other s)
  pub outstanding : (way : Way) (s : Side) (old new : Moment) (turn : TakesTurn way s old new) (k : ℕ) → fmap.contains_key (end_of turn.0.ends s).outstanding k ≡ true → ⊥
  -- or leaves off while something may go
  pub more : (way : Way) (s : Side) (old new : Moment) → TakesTurn way s old new → Sendable (end_of new.ends s) → ⊥
  -- where a packet that is made doesn't come
  pub comes : (s : Side) (first delay room : ℕ) (made : Made) (text : List ℕ) (old new : Moment) → Happens (makes s first delay room made text) old new → Delivers Packets s old new → ⊥
  -- or another comes
  pub numbered : (s : Side) (first delay room k : ℕ) (made : Made) (text bytes : List ℕ) (old mid new : Moment) → Happens (makes s first delay room made text) old mid
      → Happens (record { end = other s; call = Receive k bytes; answer = Ok Done }) mid new → Delivers Packets s old new → k ≡ made.number
  -- or it isn't taken in whole
  pub whole : (s : Side) (first delay room : ℕ) (made : Made) (text bytes : List ℕ) (old mid new : Moment) → Happens (makes s first delay room made text) old mid
      → Happens (record { end = other s; call = Receive made.number bytes; answer = Ok NoMemory }) mid new → Delivers Packets s old new → ⊥
  -- where anything is lost, asked for, set or closed as an end sends
  pub asks : (way : Way) (s : Side) (x : Happening) (old new : Moment) → Happens x old new → Delivers way s old new → IsCalm x.call
  -- an idle call makes no packet, nor reads
  pub idle : (old new : Moment) (s : Side) → Idles old new → ((end_of new.ends s).next ≡ (end_of old.ends s).next) × ((end_of new.ends s).recvs ≡ (end_of old.ends s).recvs)
  -- or as they read, or a packet is made then
  pub reads_only : (call : Call) → IsRead call → IsCalm call
  pub makes_none : (first delay room : ℕ) → IsRead (Make first delay room) → ⊥
  -- where a reader has something left to read
  pub unread : (way : Way) (old new : Moment) (r : Round way old new) (s : Side) (n : ℕ) → r.moments ≡ [] → IsReadable (end_of new.ends s) n → ⊥
  -- and of a course none counts that begins at rest
  pub begun : (way : Way) (parts : List Bool) (old new : Moment) → BothRest old.ends → Course (Round way) (λ m. BothRest m.ends) (true ∷ parts) old new → ⊥
  -- and of rounds by tokens
  pub tokens : TokenExclusions
