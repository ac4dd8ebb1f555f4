-- Trusted.
-- Rounds: each end in turn declares lost what is outstanding, and sends until nothing may go; what it sends comes at once, and is taken in
-- whole; and then both read. By packets, or by tokens. The whole file is ours, but that a clause names its section of RFC 9000: it has no
-- rounds.
use Rattle.std.specs.Prelude.{◌≡◌, ℕ, zero, suc, true, List, ◌∷◌, ◌⊎◌, None, Some, Ok, ⊤}
use Rattle.std.specs.FinMap as fmap
use Rattle.qs_wire.specs.Layout.{FrameValue}
use Rattle.qs_calls.specs.declared.closing.Received.TheVariants.{Done}
use Rattle.qs_calls.specs.declared.event.Side.{Side}
use Rattle.qs_calls.specs.declared.event.Side.TheVariants.{A, B}
use Rattle.qs_calls.specs.declared.filling.Fill.{Fill}
use Rattle.qs_calls.specs.declared.filling.Filled.{Filled}
use Rattle.qs_calls.specs.declared.token.Taken.{Taken}
use Rattle.qs_calls.specs.declared.token.Token.{Token}
use Rattle.qs_machine.specs.Asking.{IsNextOutstanding}
use Rattle.qs_machine.specs.Due.{Sendable}
use Rattle.qs_machine.specs.EndStep.{Call, Answer, Accept, AcceptOf, ReadUpTo, Consume, Peek, Receive, TakeFrames, TokenAcked, TokenLost, FillIn, Lose}
use Rattle.qs_machine.specs.News.{IsLeast, IsReadable}
use Rattle.qs_machine.specs.Plains.{frames_in}
use Rattle.qs_machine.specs.Seen.{seen_all}
use Rattle.qs_runs.specs.Logs.{Happening, HasLanded, other}
use Rattle.qs_runs.specs.Worlds.{end_of, WorldStep}
use Rattle.qs_progress.specs.Laps.{Moment, IsCalm, Trail, Sometime}

-- Ends exchange packets with their numbers and ACKs; or a stack that owns both hands in frames, and tells tokens (RFC 9000, section 13.1).
pub data Way : Type 0 where
  Packets : Way
  Tokens : Way

-- one call happened
abbrev pub Happens : Happening → Moment → Moment → Type 0
Happens x old new = (new.log ≡ x ∷ old.log) × WorldStep old.log old.ends x new.ends

-- something happens that changes neither end, but that one may accept a stream (RFC 9000, section 2.1)
abbrev pub Idles : Moment → Moment → Type 0
Idles old new = (x : Happening) × IsCalm x.call × Happens x old new
    × ((s : Side) → end_of new.ends s ≡ record (end_of old.ends s) { accepted_bidi = (end_of new.ends s).accepted_bidi; accepted_uni = (end_of new.ends s).accepted_uni })

-- so many steps of a kind, and then this holds
abbrev pub Until : (Moment → Moment → Type 0) → (Moment → Type 0) → ℕ → Moment → Moment → Type 0
Until Step Ends zero old new = (new ≡ old) × Ends old
Until Step Ends (suc n) old new = (mid : Moment) × Step old mid × Until Step Ends n mid new

-- a packet of an end is declared lost, by its number or by its token (RFC 9000, section 13.3)
abbrev pub Loses : Way → Side → Moment → Moment → Type 0
Loses Packets s old new = (k : ℕ) × Happens (record { end = s; call = Lose k; answer = Ok tt }) old new
Loses Tokens s old new = (t : Token) × Happens (record { end = s; call = TokenLost t; answer = Ok tt }) old new

-- A call of an end makes the packet of its next number, and that comes to the other end, where it is taken in whole; or an idle call (RFC
-- 9000, section 12.3). That the call made it isn't said, for nothing else may come under that number. By tokens, frames are filled in, and
-- taken by the other end (section 12.4); or a packet is told to be acknowledged (section 13.2.1).
abbrev pub Delivers : Way → Side → Moment → Moment → Type 0
Delivers Packets s old new =
    ((call : Call) × (answer : Answer call) × (bytes : List ℕ) × (mid : Moment) × IsCalm call × Happens (record { end = s; call = call; answer = answer }) old mid
    × Happens (record { end = other s; call = Receive (end_of old.ends s).next bytes; answer = Ok Done }) mid new) ⊎ Idles old new
Delivers Tokens s old new =
    ((want : Fill) × (room : ℕ) × (filled : Filled) × (text : List ℕ) × (frames : List FrameValue) × (taken : Taken) × (mid : Moment) × (seen_all frames ≡ frames_in text)
    × Happens (record { end = s; call = FillIn want room; answer = (Ok (Some filled), text) }) old mid × Happens (record { end = other s; call = TakeFrames frames; answer = Ok taken }) mid new)
    ⊎ ((t : Side) × (token : Token) × Happens (record { end = t; call = TokenAcked token; answer = Ok tt }) old new) ⊎ Idles old new

-- by tokens, each packet of an end that landed was told to be acknowledged, or is lost (RFC 9000, section 13.2.1)
abbrev pub IsTold : Way → Side → Moment → Type 0
IsTold way s m = way ≡ Tokens → (k : ℕ) → HasLanded m.log s k → fmap.contains_key (end_of m.ends s).outstanding k ≡ true → ⊥

-- The turn of an end: losses until none of its packets is outstanding, and then what it sends, until nothing may go, not even an ACK, and
-- what landed of the other end is told (RFC 9000, sections 13.2 and 13.3).
abbrev pub TakesTurn : Way → Side → Moment → Moment → Type 0
TakesTurn way s old new = (mid : Moment) × ((n : ℕ) × Until (Loses way s) (λ m. IsNextOutstanding (end_of m.ends s).outstanding 0 None) n old mid)
    × ((n : ℕ) × Until (Delivers way s) (λ m. (Sendable (end_of m.ends s) → ⊥) × IsTold way (other s) m) n mid new)

-- a read, into a slice or without a copy, and a look; and streams are accepted (RFC 9000, sections 2.1 and 2.2)
abbrev pub IsRead : Call → Type 0
IsRead Accept = ⊤
IsRead (AcceptOf dir) = ⊤
IsRead (ReadUpTo n size) = ⊤
IsRead (Consume n most) = ⊤
IsRead (Peek n) = ⊤
IsRead call = ⊥

-- A round: A's turn and B's turn, and then both read, until at some moment each reader has nothing more to read.
pub record Round (way : Way) (old new : Moment) : Type 0 where
  pub sent_a : Moment
  pub sent_b : Moment
  pub moments : List Moment
  pub turn_a : TakesTurn way A old sent_a
  pub turn_b : TakesTurn way B sent_a sent_b
  pub reads : Trail IsRead sent_b moments new
  pub none_to_read : (s : Side) → Sometime (λ w. IsLeast (IsReadable (end_of w s)) 0 None) (sent_b ∷ moments)
