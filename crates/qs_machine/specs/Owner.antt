-- Trusted.
-- The calls of an end's owner on streams: what each answers and leaves (RFC 9000, sections 2.4 and 3, for the whole
-- file). As each ends, the limits move.
use Rattle.std.specs.Prelude.{◌≡◌, ℕ, ◌+◌, ◌*◌, ◌<◌, Bool, true, false, not, ◌&&◌, List, [], ◌⊎◌, length, take, max, Option, None, Some, is_some, Result, Ok, Err, nat_le, nat_lt, MatchBool, if◌then◌else◌, min}
use Rattle.qs_wire.specs.declared.stream_id.Dir.{Dir}
use Rattle.qs_wire.specs.declared.stream_id.Dir.TheVariants.{Bidi, Uni}
use Rattle.qs_recv.specs.Lane.{RecvLane, read_answer, bytes_read, after_read, stop, stop_and_discard}
use Rattle.qs_recv.specs.declared.half.Read.{Read}
use Rattle.qs_recv.specs.declared.half.Read.TheVariants as reads
use Rattle.qs_send.specs.Lane.{SendLane, accepted, refusal, reset_refusal, write_lane, finish_lane, reset_lane}
use Rattle.qs_send.specs.declared.parts.SendFault.{SendFault}
use Rattle.qs_send.specs.declared.parts.SendFault.TheVariants as sends
use Rattle.qs_calls.specs.declared.reading.Consumed.{Consumed}
use Rattle.qs_calls.specs.declared.uses.OpenFault.{OpenFault}
use Rattle.qs_calls.specs.declared.uses.OpenFault.TheVariants as opening
use Rattle.qs_calls.specs.declared.uses.UseFault.{UseFault}
use Rattle.qs_calls.specs.declared.uses.UseFault.TheVariants.{NoSuchStream, WrongDirection, Finished, WasReset, Closed, NoMemory}
use Rattle.qs_machine.specs.Tables.{table}
use Rattle.qs_machine.specs.Ends.{End, send_lane, recv_lane, on_send, on_recv, opens}
pub use Rattle.qs_machine.specs.Ends.{own_type, peer_type}
use Rattle.qs_machine.specs.Credit.{settle, credit_for, window_left}
use Rattle.qs_machine.specs.Due.{known_count}

-- The call is refused and changes nothing; or, where nothing speaks against it, it has its effect.
abbrev pub Certain : {A F : Type 0} → Option F → End → Result A F → End → Type 0 → Type 0
Certain (Some fault) old answer new Effect = (answer ≡ Err fault) × (new ≡ old)
Certain None old answer new Effect = Effect

-- The same of a call that may ask for memory: where it asks there may be none, and then nothing changes.
abbrev pub Uncertain : {A F : Type 0} → Option F → F → Type 0 → End → Result A F → End → Type 0 → Type 0
Uncertain refusal no_memory Asks old answer new Effect =
    Certain refusal old answer new (((answer ≡ Err no_memory) × (new ≡ old) × Asks) ⊎ Effect)

abbrev pub first_refusal : {F : Type 0} → Option F → Option F → Option F
first_refusal (Some fault) next = Some fault
first_refusal None next = next

abbrev pub refuse_if : {F : Type 0} → Bool → F → Option F
refuse_if b fault = if b then Some fault else None

-- Opening (RFC 9000, sections 2.1, 3.2 and 4.6)

-- how many streams of a type are open
abbrev pub opened_count : End → ℕ → ℕ
opened_count e kind = max (length (table e.sends kind)) (length (table e.recvs kind))

-- the number of the next stream that an end opens
abbrev pub next_stream : End → Dir → ℕ
next_stream e d = opened_count e (own_type e d) * 4 + own_type e d

abbrev pub with_wanted : Dir → ℕ → End → End
with_wanted Bidi count e = record e { wanted_bidi = Some count }
with_wanted Uni count e = record e { wanted_uni = Some count }

-- as many streams are open as the peer allows; that one was wanted is noted (RFC 9000, sections 4.6 and 19.14)
abbrev pub IsBlocked : End → Dir → Result ℕ OpenFault → End → Type 0
IsBlocked old d answer new = (answer ≡ Err (opening.Blocked (known_count old d))) × (new ≡ settle (with_wanted d (known_count old d) old))

-- the next stream opens, or there is no memory for it
abbrev pub IsOpened : End → Dir → Result ℕ OpenFault → End → Type 0
IsOpened old d answer new =
    ((answer ≡ Err opening.NoMemory) × (new ≡ old)) ⊎ ((answer ≡ Ok (next_stream old d)) × (new ≡ settle (opens (next_stream old d) old)))

-- the end's owner opens a stream (RFC 9000, section 2.1)
abbrev pub OpenStep : End → Dir → Result ℕ OpenFault → End → Type 0
OpenStep old d answer new =
    Certain (refuse_if (is_some old.closed) opening.Closed) old answer new
    (MatchBool (nat_le (known_count old d) (opened_count old (own_type old d))) (IsBlocked old d answer new) (IsOpened old d answer new))

abbrev pub GivesNone : End → Option ℕ → End → Type 0
GivesNone old answer new = (answer ≡ None) × (new ≡ old)

abbrev pub GivesBidi : End → Option ℕ → End → Type 0
GivesBidi old answer new =
    (answer ≡ Some (old.accepted_bidi * 4 + peer_type old Bidi)) × (new ≡ settle (record old { accepted_bidi = old.accepted_bidi + 1 }))

abbrev pub GivesUni : End → Option ℕ → End → Type 0
GivesUni old answer new =
    MatchBool (nat_lt old.accepted_uni (opened_count old (peer_type old Uni)))
    ((answer ≡ Some (old.accepted_uni * 4 + peer_type old Uni)) × (new ≡ settle (record old { accepted_uni = old.accepted_uni + 1 })))
    (GivesNone old answer new)

-- each stream that the peer opened, once: bidirectional ones first, lower numbers first
abbrev pub AcceptOpen : End → Option ℕ → End → Type 0
AcceptOpen old answer new =
    MatchBool (nat_lt old.accepted_bidi (opened_count old (peer_type old Bidi))) (GivesBidi old answer new) (GivesUni old answer new)

abbrev pub AcceptStep : End → Option ℕ → End → Type 0
AcceptStep old answer new = MatchBool (is_some old.closed) (GivesNone old answer new) (AcceptOpen old answer new)

-- the same of one direction alone: lower numbers first
abbrev pub AcceptOpenOf : End → Dir → Option ℕ → End → Type 0
AcceptOpenOf old Bidi answer new =
    MatchBool (nat_lt old.accepted_bidi (opened_count old (peer_type old Bidi))) (GivesBidi old answer new) (GivesNone old answer new)
AcceptOpenOf old Uni answer new = GivesUni old answer new

abbrev pub AcceptOfStep : End → Dir → Option ℕ → End → Type 0
AcceptOfStep old d answer new = MatchBool (is_some old.closed) (GivesNone old answer new) (AcceptOpenOf old d answer new)

-- Sending (RFC 9000, sections 2.4 and 3.1)

-- the stream has no such half: it isn't open, or it goes the other way
abbrev pub no_half : Bool → UseFault
no_half other = if other then WrongDirection else NoSuchStream

abbrev pub use_fault : SendFault → UseFault
use_fault sends.Finished = Finished
use_fault sends.WasReset = WasReset
use_fault sends.NoMemory = NoMemory

abbrev pub half_refusal : Option SendFault → Option UseFault
half_refusal None = None
half_refusal (Some fault) = Some (use_fault fault)

-- what speaks against a call on a sending half: a closing, no such half, and then what the half itself says
abbrev pub send_refusal : End → ℕ → (SendLane → Option SendFault) → Option UseFault
send_refusal e n says =
    first_refusal (refuse_if (is_some e.closed) Closed)
    (elim (send_lane e n) [ None ↦ Some (no_half (is_some (recv_lane e n))) | Some l ↦ half_refusal (says l) ])

-- as many of n as are left, where that is bounded
abbrev pub at_most : Option ℕ → ℕ → ℕ
at_most None n = n
at_most (Some left) n = min n left

-- how many of n bytes are accepted: as many as there is room for, of an end that writes within credit as may be sent at once, and
-- where all halves together keep no more than a window, as that leaves (RFC 9000, sections 2.2 and 4.1; the window is ours)
abbrev pub accepted_by : End → SendLane → ℕ → ℕ
accepted_by e l n = at_most (window_left e) (if e.tuning.within_credit then min (accepted l n) (credit_for e l) else accepted l n)

-- bytes ask for memory where some of them are accepted
abbrev pub AsksToKeep : End → ℕ → List ℕ → Type 0
AsksToKeep e n bytes = (l : SendLane) × (send_lane e n ≡ Some l) × (0 < accepted_by e l (length bytes))

-- the front of the bytes is accepted
abbrev pub WriteStep : End → ℕ → List ℕ → Result ℕ UseFault → End → Type 0
WriteStep old n bytes answer new =
    Uncertain (send_refusal old n refusal) NoMemory (AsksToKeep old n bytes) old answer new
    ((l : SendLane) × (send_lane old n ≡ Some l) × (
    let count = accepted_by old l (length bytes) in
    (answer ≡ Ok count) × (new ≡ settle (on_send n (λ m. write_lane m (take count bytes)) old))))

abbrev pub FinishStep : End → ℕ → Result (Unit {0}) UseFault → End → Type 0
FinishStep old n answer new =
    Certain (send_refusal old n refusal) old answer new
    ((answer ≡ Ok tt) × (new ≡ settle (on_send n finish_lane old)))

-- a reset tells the declared final size, else the sent end (RFC 9000, sections 3.1 and 4.5)
abbrev pub ResetStep : End → ℕ → ℕ → Result (Unit {0}) UseFault → End → Type 0
ResetStep old n code answer new =
    Certain (send_refusal old n reset_refusal) old answer new
    ((answer ≡ Ok tt) × (new ≡ settle (on_send n (λ m. reset_lane m code) old)))

-- Receiving (RFC 9000, sections 2.4 and 3.2)

-- an end is read no more: it closed, and its owner didn't choose to read on what came before (ours, beside RFC 9000, section 10.2)
abbrev pub is_read_no_more : End → Bool
is_read_no_more e = is_some e.closed && not e.tuning.reads_when_closed

-- what speaks against a call on a receiving half: that the end is shut for it, or no such half
abbrev pub recv_refusal : Bool → End → ℕ → Option UseFault
recv_refusal is_shut e n =
    first_refusal (refuse_if is_shut Closed)
    (elim (recv_lane e n) [ None ↦ Some (no_half (is_some (send_lane e n))) | Some l ↦ None ])

-- the first stop counts (RFC 9000, section 3.5)
abbrev pub StopStep : End → ℕ → ℕ → Result (Unit {0}) UseFault → End → Type 0
StopStep old n code answer new =
    Certain (recv_refusal (is_some old.closed) old n) old answer new
    ((answer ≡ Ok tt) × (new ≡ settle (on_recv n (λ m. stop m code) old)))

-- the same, and nothing more is told of the stream (RFC 9000, sections 3.2 and 3.5)
abbrev pub StopAndDiscardStep : End → ℕ → ℕ → Result (Unit {0}) UseFault → End → Type 0
StopAndDiscardStep old n code answer new =
    Certain (recv_refusal (is_some old.closed) old n) old answer new
    ((answer ≡ Ok tt) × (new ≡ settle (on_recv n (λ m. stop_and_discard m code) old)))

abbrev pub ReadBy : Option UseFault → End → ℕ → ℕ → Result Read UseFault → List ℕ → End → Type 0
ReadBy (Some fault) old n size answer bytes new = (answer ≡ Err fault) × (bytes ≡ []) × (new ≡ old)
ReadBy None old n size answer bytes new =
    (l : RecvLane) × (recv_lane old n ≡ Some l)
    × (answer ≡ Ok (read_answer l size))
    × (bytes ≡ bytes_read l size)
    × (new ≡ settle (on_recv n (λ m. after_read m size) old))

-- a read into a slice of that size, with the bytes that it gives (RFC 9000, section 2.2)
abbrev pub ReadStep : End → ℕ → ℕ → Result Read UseFault → List ℕ → End → Type 0
ReadStep old n size answer bytes new = ReadBy (recv_refusal (is_read_no_more old) old n) old n size answer bytes new

abbrev pub is_end : Read → Bool
is_end (reads.End) = true
is_end answer = false

-- what is told of bytes that are taken without a copy: what a read of so many bytes tells, and whether the end follows (RFC 9000,
-- section 2.2)
abbrev pub consumed : RecvLane → ℕ → Consumed
consumed l most = record { read = read_answer l most; at_end = is_end (read_answer (after_read l most) 0) }

-- `consume` is a read of so many bytes, and then one of none, to which the end is told where it is reached (RFC 9000, sections 2.2 and 3.2)
abbrev pub ConsumeStep : End → ℕ → ℕ → Result Consumed UseFault → End → Type 0
ConsumeStep old n most answer new =
    Certain (recv_refusal (is_read_no_more old) old n) old answer new
    ((l : RecvLane) × (recv_lane old n ≡ Some l)
    × (answer ≡ Ok (consumed l most))
    × (new ≡ settle (on_recv n (λ m. after_read m 0) (on_recv n (λ m. after_read m most) old))))

-- the bytes that are taken without a copy are those that a read of so many would have given (RFC 9000, section 2.2)
abbrev pub AreTaken : End → (stream most : ℕ) → Result Consumed UseFault → List ℕ → Type 0
AreTaken e n most (Ok consumed) bytes = (l : RecvLane) → recv_lane e n ≡ Some l → bytes ≡ bytes_read l most
AreTaken e n most (Err fault) bytes = bytes ≡ []

-- `consume`, with the bytes that it takes (RFC 9000, section 2.2)
abbrev pub TakesBytes : End → (stream most : ℕ) → Result Consumed UseFault → List ℕ → End → Type 0
TakesBytes old n most r bytes new = ConsumeStep old n most r new × AreTaken old n most r bytes
