-- How long canonical texts are.
use Rattle.std.proofs.Common.{◌≡◌, ℕ, ◌+◌, ◌^◌, ◌<◌, ◌≤◌, Bool, true, false, cond, ltb, List, [], ◌++◌, length, ap, arith}
use Rattle.std.proofs.lemmas.List.{length-append}
use Rattle.qs_wire.specs.Varint.{short, short_len}
use Rattle.qs_wire.specs.Layout.{FrameValue, reset_stream, stop_sending, stream, max_data, max_stream_data, max_streams, data_blocked, stream_data_blocked, streams_blocked, number_of_type}
use Rattle.qs_wire.specs.declared.frame_type.FrameType.{FrameType}
use Rattle.qs_wire.specs.declared.frame_type.FrameType.TheVariants.{ResetStream, StopSending, Stream, MaxData, MaxStreamData, MaxStreams, DataBlocked, StreamDataBlocked, StreamsBlocked}
use Rattle.qs_wire.specs.Grammar.{canonical, Fits, IsControl}
use Rattle.qs_wire.proofs.Numbers.{length-short, short_byte, short_most}
use Rattle.qs_wire.proofs.Types.{type_most}

-- a type is one byte
pub type_length : (t : FrameType) → length (short (number_of_type t)) ≡ 1
type_length t = ap length (short_byte (number_of_type t) (omega (arith, type_most t)))

one_number : (t : FrameType) (a : ℕ) → a < 2 ^ 62 → length (short (number_of_type t) ++ (short a ++ [])) ≤ 9
one_number t a h = omega (arith, type_length t, short_most a h, length-append (short (number_of_type t)) (short a ++ []), length-append (short a) [])

two_numbers : (t : FrameType) (a b : ℕ) → a < 2 ^ 62 → b < 2 ^ 62 → length (short (number_of_type t) ++ (short a ++ (short b ++ []))) ≤ 17
two_numbers t a b h k =
    omega (arith, type_length t, short_most a h, short_most b k, length-append (short (number_of_type t)) (short a ++ (short b ++ [])), length-append (short a) (short b ++ []), length-append (short b) [])

three_numbers : (t : FrameType) (a b c : ℕ) → a < 2 ^ 62 → b < 2 ^ 62 → c < 2 ^ 62 → length (short (number_of_type t) ++ (short a ++ (short b ++ (short c ++ [])))) ≤ 25
three_numbers t a b c h k l =
    omega (arith, type_length t, short_most a h, short_most b k, short_most c l, length-append (short (number_of_type t)) (short a ++ (short b ++ (short c ++ []))), length-append (short a) (short b ++ (short c ++ [])), length-append (short b) (short c ++ []), length-append (short c) [])

pub control_short : (frame : FrameValue) → IsControl frame → Fits frame → length (canonical frame) ≤ 25
unfolding canonical
control_short (reset_stream s code size) is h = three_numbers ResetStream s code size h.0 h.1 h.2
control_short (stop_sending s code) is h = let n = two_numbers StopSending s code h.0 h.1 in omega arith
control_short (max_data maximum) is h = let n = one_number MaxData maximum h in omega arith
control_short (max_stream_data s maximum) is h = let n = two_numbers MaxStreamData s maximum h.0 h.1 in omega arith
control_short (max_streams dir count) is h = let n = one_number (MaxStreams dir) count (omega arith) in omega arith
control_short (data_blocked limit) is h = let n = one_number DataBlocked limit h in omega arith
control_short (stream_data_blocked s limit) is h = let n = two_numbers StreamDataBlocked s limit h.0 h.1 in omega arith
control_short (streams_blocked dir count) is h = let n = one_number (StreamsBlocked dir) count (omega arith) in omega arith
control_short _ is h = absurd is

-- the offset takes no byte where it is 0
abbrev pub offset_len : ℕ → ℕ
offset_len o = cond (ltb 0 o) (short_len o) 0

pub length-stream : (s o : ℕ) (fin : Bool) (bytes : List ℕ) → length (canonical (stream s o fin bytes)) ≡ 1 + short_len s + offset_len o + short_len (length bytes) + length bytes
unfolding canonical
length-stream s o fin bytes = at (ltb 0 o)
  where
    at : (b : Bool) → length (short (number_of_type (Stream b true fin)) ++ (short s ++ (cond b (short o) [] ++ ((short (length bytes) ++ bytes) ++ [])))) ≡ 1 + short_len s + cond b (short_len o) 0 + short_len (length bytes) + length bytes
    at true =
        omega (
          arith,
          type_length (Stream true true fin),
          length-short s,
          length-short o,
          length-short (length bytes),
          length-append (short (number_of_type (Stream true true fin))) (short s ++ (short o ++ ((short (length bytes) ++ bytes) ++ []))),
          length-append (short s) (short o ++ ((short (length bytes) ++ bytes) ++ [])),
          length-append (short o) ((short (length bytes) ++ bytes) ++ []),
          length-append (short (length bytes) ++ bytes) [],
          length-append (short (length bytes)) bytes,
        )
    at false =
        omega (
          arith,
          type_length (Stream false true fin),
          length-short s,
          length-short (length bytes),
          length-append (short (number_of_type (Stream false true fin))) (short s ++ ([] ++ ((short (length bytes) ++ bytes) ++ []))),
          length-append (short s) ([] ++ ((short (length bytes) ++ bytes) ++ [])),
          length-append (short (length bytes) ++ bytes) [],
          length-append (short (length bytes)) bytes,
        )
