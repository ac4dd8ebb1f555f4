-- The bytes of an answer are at most as many as its act asks for.
use Rattle.std.specs.Prelude.{⊤}
use Rattle.std.proofs.Common.{◌≡◌, ℕ, zero, suc, ◌+◌, ◌≤◌, nat_cmp, List, length, Option, None, Some, Result, Ok, Err, sym, subst, arith}
use Rattle.std.specs.FinMap as map
use Rattle.qs_recv.specs.Assembled.{front, front_from}
use Rattle.qs_recv.specs.Lane.{RecvLane, read_answer, bytes_of as bytes_told}
use Rattle.qs_recv.specs.declared.half.Read.{Read}
use Rattle.qs_recv.specs.declared.half.Read.TheVariants as reads
use Rattle.qs_calls.specs.declared.uses.UseFault.{UseFault}
use Rattle.qs_calls.specs.declared.making.Made.{Made}
use Rattle.qs_calls.specs.declared.making.MakeFault.{MakeFault}
use Rattle.qs_calls.specs.declared.making.MakeFault.TheVariants as making
use Rattle.qs_machine.specs.Ends.{End}
use Rattle.qs_machine.specs.Owner.{ReadBy, recv_refusal, is_read_no_more}
use Rattle.qs_machine.specs.Making.{MakeAt, make_refusal}
use Rattle.qs_calls.specs.declared.event.Side.{Side}
use Rattle.qs_calls.specs.declared.event.Act.{Act}
use Rattle.qs_calls.specs.declared.event.Act.TheVariants as acts
use Rattle.qs_calls.specs.declared.event.Event.{Event}
use Rattle.qs_calls.specs.declared.answer.Answer.{Answer}
use Rattle.qs_calls.specs.declared.answer.Answer.TheVariants as answers
use Rattle.qs_machine.specs.EndStep.{ReadUpTo, Make}
use Rattle.qs_runs.specs.Logs.{Happening, History}
use Rattle.qs_runs.specs.Events.{call_of, happened}
use Rattle.qs_runs.specs.Worlds.{World, end_of, WorldStep}
use Rattle.std.proofs.lemmas.Option.{none-some, same_Some}
use Rattle.qs_world.specs.Buffers.{room_of, bytes_of, LastFits}
use Rattle.qs_world.specs.Plays.{Played, PlayStep}

front_short : (m : map.FinMap nat_cmp ℕ) (at size : ℕ) → length (front m at size) ≤ size
unfolding front
front_short m at zero = omega arith
front_short m at (suc size) = go (map.get m at) (front m (at + 1) size) (front_short m (at + 1) size)
  where
    go : (o : Option ℕ) (xs : List ℕ) → length xs ≤ size → length (front_from o xs) ≤ suc size
    go None xs le = omega arith
    go (Some byte) xs le = omega arith

told_short : (l : RecvLane) (size : ℕ) (a : Read) → length (bytes_told a l size) ≤ size
told_short l size (reads.Bytes n) = front_short l.arrived.stored l.arrived.read_count size
told_short l size reads.End = omega arith
told_short l size (reads.Reset code) = omega arith
told_short l size reads.Wait = omega arith

read_short : (o : Option UseFault) (e new : End) (n size : ℕ) (answer : Result Read UseFault) (bytes : List ℕ) → ReadBy o e n size answer bytes new → length bytes ≤ size
read_short (Some fault) e new n size answer bytes (is, none, same) = rw none (omega arith)
read_short None e new n size answer bytes (l, found, is, given, same) = rw given (told_short l size (read_answer l size))

made_short : (o : Option MakeFault) (e new : End) (first delay room : ℕ) (answer : Result (Option Made) MakeFault) (text : List ℕ)
    → MakeAt o e first delay room answer text new → length text ≤ room
made_short (Some fault) e new first delay room answer text (is, none, same) = rw none (omega arith)
made_short None e new first delay room (Ok (Some made)) text step = step.fits
made_short None e new first delay room (Ok None) text (quiet, none, same) = rw none (omega arith)
made_short None e new first delay room (Err making.NoMemory) text (sendable, none, same) = rw none (omega arith)
made_short None e new first delay room (Err making.Closed) text step = absurd step
made_short None e new first delay room (Err making.Exhausted) text step = absurd step

answer_short : (h : History) (old new : World) (s : Side) (act : Act) (answer : Answer) (x : Happening) → call_of h s act answer ≡ Some x → WorldStep h old x new → length (bytes_of answer) ≤ room_of act
answer_short h old new s (acts.ReadUpTo n size) (answers.ReadUpTo r bytes) x is step =
    let call : Happening = record { end = s; call = ReadUpTo n size; answer = (r, bytes.items) } in
    read_short (recv_refusal (is_read_no_more (end_of old s)) (end_of old s) n) _ _ n size r bytes.items (subst (λ y. WorldStep h old y new) (sym (same_Some call x is)) step).step
answer_short h old new s (acts.Make room) (answers.Make r text) x is step =
    let call : Happening = record { end = s; call = Make 0 0 room; answer = (r, text.items) } in
    made_short (make_refusal (end_of old s)) _ _ 0 0 room r text.items (subst (λ y. WorldStep h old y new) (sym (same_Some call x is)) step).step
answer_short h old new s act (answers.ReadUpTo r bytes) x is step = absurd (none-some x is)
answer_short h old new s act (answers.Make r text) x is step = absurd (none-some x is)
answer_short h old new s act answer x is step = omega arith

-- so it has room in a vector of that capacity
pub last_fits : (old new : Played) (event : Event) (capacity : ℕ) → capacity ≡ room_of event.act → PlayStep {X = ⊤} old event (Ok tt) new → LastFits capacity new.log
last_fits old new event capacity is (answer, log, (x, at, step)) =
    subst (LastFits capacity) (sym log) (rw is (answer_short (happened old.log) old.ends new.ends event.end event.act answer x at step))
