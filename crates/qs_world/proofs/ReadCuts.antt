-- What is left of a buffer that was handed in for bytes, and cut to those that came.
use Rattle.std.proofs.Common.{◌≡◌, ℕ, Bool, true, false, List, ◌++◌, take, drop, length, Option, None, Some, Result, Ok, Err, refl, ap, ◌∙◌, arith, is_some, if◌then◌else◌}
use Rattle.std.proofs.lemmas.List.{append-nil, drop_all, take_all}
use Rattle.std.specs.FinSet as set
use Rattle.qs_recv.specs.Assembled.{front_of}
use Rattle.qs_recv.specs.Lane.{RecvLane, answer_by, read_answer, bytes_of, is_whole, at_final_size}
use Rattle.qs_recv.specs.declared.half.Read.{Read}
use Rattle.qs_recv.specs.declared.half.Read.TheVariants.{Bytes, End, Reset, Wait}
use Rattle.qs_calls.specs.declared.uses.UseFault.{UseFault}
use Rattle.qs_machine.specs.Ends as ends
use Rattle.qs_machine.specs.Owner.{ReadBy}
use Rattle.qs_world.specs.Buffers.{count_read}

-- a buffer that was written over in whole
pub kept : (out buffer : List ℕ) (room : ℕ) → length out ≡ length buffer → length buffer ≡ room → take room (out ++ drop (length out) buffer) ≡ out
kept out buffer room same len = ap (take room) (ap (λ xs. out ++ xs) (drop_all (length out) buffer (omega (arith, same))) ∙ append-nil out) ∙ take_all room out (omega (arith, same, len))

told_count : (l : RecvLane) (size : ℕ) (r : Option ℕ) → count_read (Ok (answer_by r l size)) ≡ length (bytes_of (answer_by r l size) l size)
told_count l size (Some code) = refl
told_count l size None = by_tests (is_some l.stop_code) (is_whole l) (at_final_size l.arrived.read_count l.final_size) (set.contains l.arrived.received l.arrived.read_count)
  where
    answered : (stopped whole over came : Bool) → Read
    answered stopped whole over came = if stopped then (if whole then End else Wait) else (if over then End else (if came then Bytes (length (front_of l.arrived size)) else Wait))

    by_tests : (stopped whole over came : Bool) → count_read (Ok (answered stopped whole over came)) ≡ length (bytes_of (answered stopped whole over came) l size)
    by_tests true true over came = refl
    by_tests true false over came = refl
    by_tests false whole true came = refl
    by_tests false whole false true = refl
    by_tests false whole false false = refl

-- as many bytes as the answer tells were read
pub count_is : (o : Option UseFault) (e new : ends.End) (n size : ℕ) (answer : Result Read UseFault) (bytes : List ℕ) → ReadBy o e n size answer bytes new → count_read answer ≡ length bytes
count_is (Some fault) e new n size answer bytes (is, none, same) = rw (is, none) refl
count_is None e new n size answer bytes (l, found, is, given, same) = rw (is, given) (told_count l size l.reset_code)
