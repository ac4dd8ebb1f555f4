-- What is read fits: it can be written again.
use Rattle.std.proofs.Common.{◌≡◌, ℕ, ◌+◌, ◌^◌, ◌<◌, Bool, true, false, List, [], ◌∷◌, ◌++◌, length, Option, Some, None, Ok, refl, sym, ap, ◌∙◌, subst, arith}
use Rattle.std.specs.List.{AllByRecursion}
use Rattle.qs_wire.specs.declared.frame_type.FrameType.{FrameType}
use Rattle.qs_wire.specs.declared.frame_type.FrameType.TheVariants.{Padding, Ping, Ack, ResetStream, StopSending, Crypto, NewToken, Stream, MaxData, MaxStreamData, MaxStreams, DataBlocked, StreamDataBlocked, StreamsBlocked, NewConnectionId, RetireConnectionId, PathChallenge, PathResponse, ConnectionClose, ApplicationClose, HandshakeDone}
use Rattle.qs_wire.specs.declared.frame.EcnCounts.{EcnCounts}
use Rattle.qs_wire.specs.Layout.{FrameValue, PlacedValue, stream, type_of, number_of_type, Field, number, number_if, counted, counted_if, plain, identifier, ack_ranges, ecn_if, Value, Values, layout, frame_of}
use Rattle.qs_wire.specs.Grammar.{Begin, frames_of, FieldText, FieldsText, FrameText, Meets, Fits, NumbersText, AreRanges, EcnText, counts_of, CountsFit, IsIdentifierLength}
use Rattle.qs_wire.specs.declared.fault.WireFault.{WireFault}
use Rattle.qs_wire.specs.Reading.{frame_at, reading_of}
use Rattle.qs_wire.specs.Bodies.{IsRead}
use Rattle.qs_wire.proofs.Payloads.{is_shorter, one_more}
use Rattle.qs_wire.proofs.PayloadLaws.{Ending, payload_read}
use Rattle.qs_wire.proofs.Numbers.{IsBytes, Spells-below, short_byte}
use Rattle.qs_wire.proofs.Types.{type_most, type_again}
use Rattle.qs_wire.proofs.Shapes.{frame_takes}

abbrev FieldBelow : (f : Field) → Value f → Type 0
FieldBelow number v = v < 2 ^ 62
FieldBelow (number_if flag) v = v < 2 ^ 62
FieldBelow counted v = length v < 2 ^ 62
FieldBelow (counted_if flag) v = Unit {0}
FieldBelow (plain n) v = length v ≡ n
FieldBelow identifier v = IsIdentifierLength (length v)
FieldBelow ack_ranges v = AreRanges v
FieldBelow (ecn_if flag) v = CountsFit v

abbrev FieldsBelow : (fs : List Field) → Values fs → Type 0
FieldsBelow [] vs = Unit {0}
FieldsBelow (f ∷ fs) vs = FieldBelow f vs.0 × FieldsBelow fs vs.1

numbers_below : (vs text : List ℕ) → NumbersText vs text → AllByRecursion (λ v. v < 2 ^ 62) vs
numbers_below [] text h = tt
numbers_below (v ∷ vs) text h = (Spells-below v h.0 h.3, numbers_below vs h.1 h.4)

counts_below : (v : Option EcnCounts) (text : List ℕ) → EcnText v text → CountsFit v
counts_below None text h = tt
counts_below (Some c) text h = numbers_below (counts_of c) text h

field_below : (f : Field) (v : Value f) (text after : List ℕ) → FieldText f v text after → FieldBelow f v
field_below number v text after h = Spells-below v text h
field_below (number_if true) v text after h = Spells-below v text h
field_below (number_if false) v text after h = omega (arith, h.0)
field_below counted v text after h = Spells-below (length v) h.0 h.1
field_below (counted_if flag) v text after h = tt
field_below (plain n) v text after h = h.0
field_below identifier v text after h = h.0
field_below (ecn_if true) v text after h = counts_below v text h
field_below (ecn_if false) v text after h = subst CountsFit (sym h.0) tt
field_below ack_ranges v text after h = record { below = numbers_below v h.2 h.6; pairs = h.0; pairs_below = Spells-below h.0 h.1 h.5; odd = h.4 }

fields_below : (fs : List Field) (vs : Values fs) (text after : List ℕ) → FieldsText fs vs text after → FieldsBelow fs vs
fields_below [] vs text after h = tt
fields_below (f ∷ fs) vs text after h = (field_below f vs.0 h.0 (h.1 ++ after) h.3, fields_below fs vs.1 h.1 after h.4)

frame_fits : (t : FrameType) (vs : Values (layout t)) → FieldsBelow (layout t) vs → Meets (frame_of t vs) → Fits (frame_of t vs)
frame_fits Padding vs h m = tt
frame_fits Ping vs h m = tt
frame_fits (Ack ecn) vs h m = (h.0, h.1.0, h.1.1.0, m, h.1.1.1.0)
frame_fits ResetStream vs h m = (h.0, h.1.0, h.1.1.0)
frame_fits StopSending vs h m = (h.0, h.1.0)
frame_fits Crypto vs h m = m
frame_fits NewToken vs h m = h.0
frame_fits (Stream off len fin) vs h m = (h.0, m)
frame_fits MaxData vs h m = h.0
frame_fits MaxStreamData vs h m = (h.0, h.1.0)
frame_fits (MaxStreams dir) vs h m = m
frame_fits DataBlocked vs h m = h.0
frame_fits StreamDataBlocked vs h m = (h.0, h.1.0)
frame_fits (StreamsBlocked dir) vs h m = m
frame_fits NewConnectionId vs h m = (h.0, h.1.0, h.1.1.0, h.1.1.1.0)
frame_fits RetireConnectionId vs h m = h.0
frame_fits PathChallenge vs h m = h.0
frame_fits PathResponse vs h m = h.0
frame_fits ConnectionClose vs h m = (h.0, h.1.0, h.1.1.0)
frame_fits ApplicationClose vs h m = (h.0, h.1.0)
frame_fits HandshakeDone vs h m = tt

-- only a type of STREAM makes a STREAM frame
stream_type : (t : FrameType) (vs : Values (layout t)) (id offset : ℕ) (fin : Bool) (sent : List ℕ) → frame_of t vs ≡ stream id offset fin sent
    → (off : Bool) × (len : Bool) × (last : Bool) × (t ≡ Stream off len last)
stream_type (Stream off len last) vs id offset fin sent e = (off, len, last, refl)
stream_type _ vs id offset fin sent e = absurd cc

-- where a STREAM frame begins the bytes, the first one is its type
pub record StreamFront (bytes : List ℕ) : Type 0 where
  pub byte : ℕ
  pub behind : List ℕ
  pub parts : bytes ≡ byte ∷ behind
  pub below : byte < 64
  pub off : Bool
  pub len : Bool
  pub last : Bool
  pub typed : type_of byte ≡ Some (Stream off len last)

pub stream_front : (bytes : List ℕ) (type id offset : ℕ) (fin : Bool) (sent rest : List ℕ) → IsBytes bytes → frame_at bytes ≡ Ok (type, stream id offset fin sent, rest) → StreamFront bytes
stream_front bytes type id offset fin sent rest fits e =
    let taken = (frame_takes bytes (type, stream id offset fin sent, rest) fits e).taken in
    let s = taken.shape in
    let is = stream_type s.type s.values id offset fin sent s.is_frame in
    let n = number_of_type s.type in
    let below : n < 64 = omega (arith, type_most s.type) in
    record {
      byte = n;
      behind = s.body ++ rest;
      parts = taken.parts ∙ ap (λ (t : List ℕ). t ++ rest) (s.parts ∙ ap (λ (t : List ℕ). t ++ s.body) (short_byte n below));
      below = below;
      off = is.0;
      len = is.1;
      last = is.2;
      typed = type_again s.type ∙ ap (λ (t : FrameType). Some t) is.3;
    }

pub text_fits : (frame : FrameValue) (text after : List ℕ) → FrameText frame text after → Fits frame
text_fits frame text after h =
    let s = h.0 in
    let meets : Meets (frame_of s.type s.values) = subst (λ (f : FrameValue). Meets f) (sym s.is_frame) h.1 in
    subst (λ (f : FrameValue). Fits f) s.is_frame (frame_fits s.type s.values (fields_below (layout s.type) s.values s.body after s.fields) meets)

pub read_fits : (bytes : List ℕ) (x : ℕ × FrameValue × List ℕ) → IsBytes bytes → frame_at bytes ≡ Ok x → Fits x.1
read_fits bytes x fits e = let t = frame_takes bytes x fits e in text_fits x.1 t.taken.text x.2 (t.taken.shape, t.meets)

pub is_read : (bytes : List ℕ) (x : ℕ × FrameValue × List ℕ) → IsBytes bytes → x.0 < 2 ^ 62 → frame_at bytes ≡ Ok x → IsRead bytes x.0 x.1 x.2
is_read bytes x fits typed e = record { fits = read_fits bytes x fits e; shorter = is_shorter bytes x fits e; typed = typed; more = λ place. one_more place bytes x fits e }

begin_fit : (ps : List PlacedValue) (place : ℕ) (bytes rest : List ℕ) → Begin place ps bytes rest → AllByRecursion Fits (frames_of ps)
begin_fit [] place bytes rest h = tt
begin_fit (p ∷ ps) place bytes rest h = (text_fits p.frame h.0 h.1 h.4, begin_fit ps (place + length h.0) h.1 rest h.6)

pub frames_fit : (payload : List ℕ) → IsBytes payload → AllByRecursion Fits (frames_of (reading_of payload).left)
frames_fit payload fits = at (reading_of payload).left (reading_of payload).fault (payload_read payload fits)
  where
    at : (left : List PlacedValue) (fault : Option WireFault) → Ending left fault payload → AllByRecursion Fits (frames_of left)
    at left None h = begin_fit left 0 payload [] h.1
    at left (Some w) h = begin_fit left 0 payload h.rest h.begins
