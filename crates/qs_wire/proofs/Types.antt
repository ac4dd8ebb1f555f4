-- A type and its number.
use Rattle.std.proofs.lemmas.Bool.Decides.{nat_tests}
use Rattle.std.proofs.Common.{◌≡◌, ℕ, zero, suc, ◌+◌, ◌^◌, ◌<◌, ◌≤◌, Bool, true, false, cond, eqb, ◌&&◌, List, [], ◌∷◌, Some, None, inl, inr, slice_get, refl, sym, ap, ◌∙◌, arith}
use Rattle.std.proofs.lemmas.Option.{none-some, same_Some, slice_get_cases, slice_get_past}
use Rattle.std.proofs.lemmas.Bool.{eqb-true, and_parts}
use Rattle.qs_wire.specs.declared.frame_type.FrameType.{FrameType}
use Rattle.qs_wire.specs.declared.frame_type.FrameType.TheVariants.{Padding, Ping, Ack, ResetStream, StopSending, Crypto, NewToken, Stream, MaxData, MaxStreamData, MaxStreams, DataBlocked, StreamDataBlocked, StreamsBlocked, NewConnectionId, RetireConnectionId, PathChallenge, PathResponse, ConnectionClose, ApplicationClose, HandshakeDone}
use Rattle.qs_wire.specs.declared.stream_id.Dir.TheVariants.{Bidi, Uni}
use Rattle.qs_wire.specs.Layout.{FrameValue, stream, crypto, ack, types, type_of, number_of_type}
use Rattle.qs_wire.specs.Grammar.{Meets}
use Rattle.qs_wire.specs.Reading.{breach_of}

pub type_again : (t : FrameType) → type_of (number_of_type t) ≡ Some t
type_again t = grind (arith, nat_tests)

-- no type has a higher number
pub type_most : (t : FrameType) → number_of_type t ≤ 0x1e
type_most t = grind (arith, nat_tests)

pub type_below : (t : FrameType) → number_of_type t < 2 ^ 62
type_below t = omega (arith, type_most t)

-- A value for each type: by it a crate above goes by cases of a type, whose names it can't use.
pub record EachType (P : FrameType → Type 0) : Type 0 where
  pub padding : P Padding
  pub ping : P Ping
  pub ack : P (Ack false)
  pub ack_with_counts : P (Ack true)
  pub reset_stream : P ResetStream
  pub stop_sending : P StopSending
  pub crypto : P Crypto
  pub new_token : P NewToken
  pub stream : (off len fin : Bool) → P (Stream off len fin)
  pub max_data : P MaxData
  pub max_stream_data : P MaxStreamData
  pub max_streams_bidi : P (MaxStreams Bidi)
  pub max_streams_uni : P (MaxStreams Uni)
  pub data_blocked : P DataBlocked
  pub stream_data_blocked : P StreamDataBlocked
  pub streams_blocked_bidi : P (StreamsBlocked Bidi)
  pub streams_blocked_uni : P (StreamsBlocked Uni)
  pub new_connection_id : P NewConnectionId
  pub retire_connection_id : P RetireConnectionId
  pub path_challenge : P PathChallenge
  pub path_response : P PathResponse
  pub connection_close : P ConnectionClose
  pub application_close : P ApplicationClose
  pub handshake_done : P HandshakeDone

pub at_type : {P : FrameType → Type 0} → EachType P → (t : FrameType) → P t
at_type e t = grind (arith, nat_tests)

-- by how a test went
pub by_test : {X : Type 0} (b : Bool) (x y z : X) (P : Type 0) → cond b x y ≡ z → (b ≡ true → x ≡ z → P) → (b ≡ false → y ≡ z → P) → P
by_test true x y z P e on_true on_false = on_true refl e
by_test false x y z P e on_true on_false = on_false refl e

-- each type of the list has its place's number
abbrev are_in_place : List FrameType → ℕ → Bool
are_in_place [] k = true
are_in_place (t ∷ ts) k = eqb (number_of_type t) k && are_in_place ts (suc k)

in_place : (ts : List FrameType) (k : ℕ) → are_in_place ts k ≡ true → (n : ℕ) (t : FrameType) → slice_get ts n ≡ Some t → number_of_type t ≡ k + n
in_place [] k all n t is = absurd (none-some t is)
in_place (s ∷ ts) k all zero t is =
    let at = eqb-true (number_of_type s) k (and_parts (eqb (number_of_type s) k) (are_in_place ts (suc k)) all).0 in
    omega (arith, at, ap number_of_type (same_Some s t is))
in_place (s ∷ ts) k all (suc n) t is =
    let all_after = (and_parts (eqb (number_of_type s) k) (are_in_place ts (suc k)) all).1 in
    omega (arith, in_place ts (suc k) all_after n t is)

pub number_back : (n : ℕ) (t : FrameType) → type_of n ≡ Some t → number_of_type t ≡ n
number_back n t e = omega (arith, in_place types 0 refl n t e)

-- the numbers without a type are those above all types' numbers
pub above_all : (n : ℕ) → type_of n ≡ None → 0x1e < n
above_all n e = elim (slice_get_cases types n).1 [ inl (t, lt, is, at) ↦ absurd (none-some t (sym e ∙ is)) | inr (le, none) ↦ le ]

pub none_above : (n : ℕ) → 0x1e < n → type_of n ≡ None
none_above n lt = slice_get_past types n lt

-- ---- what a frame's values have to meet

pub meets_from_none : (frame : FrameValue) → breach_of frame ≡ None → Meets frame
meets_from_none frame e = grind (arith, nat_tests)

pub none_from_meets : (frame : FrameValue) → Meets frame → breach_of frame ≡ None
none_from_meets frame h = grind (arith, nat_tests)
