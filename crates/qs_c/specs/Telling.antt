-- Of public contracts.
-- How C is told which packets a payload newly acknowledges. All of it is ours.
use Rattle.std.specs.Prelude.{◌≡◌, ℕ, ◌+◌, ◌^◌, ◌<◌, List, ◌++◌, slice_set, length, drop, None, Result, MatchBool, nat_eq}
use Rattle.qs_calls.specs.declared.closing.Closing.{Closing}
use Rattle.qs_calls.specs.declared.closing.Received.{Received}
use Rattle.qs_machine.specs.Ends.{End, Records}
use Rattle.qs_machine.specs.Asking.{IsLeastFrom, IsNextOutstanding}
use Rattle.qs_machine.specs.Newly.{newly_acked}
use Rattle.qs_machine.specs.Receiving.{ReceiveStep}
use Rattle.qs_c.specs.declared.structs.GvClosing.{GvClosing}
use Rattle.qs_c.specs.declared.telling.Notes.{Notes}
use Rattle.qs_c.specs.Statuses.{received_told}

-- so many numbers from the least of these packets' on, all of them below 2^64, have all of them
abbrev pub LieWithin : Records → ℕ → Type 0
LieWithin m room = (least : ℕ) → IsLeastFrom m 0 least → (least + room < 2 ^ 64) × IsNextOutstanding m (least + room) None

-- What a call writes that takes a payload in: why this end closed, numbers of packets, and how many these are.
pub record TellingOut : Type 0 where
  pub closing : GvClosing
  pub numbers : List ℕ
  pub count : ℕ

-- A payload is taken in, and the packets that it newly acknowledges are written at the front, and how many they are.
pub record Tells (number : ℕ) (payload : List ℕ) (e f : End) (status : ℕ) (old new : TellingOut) : Type 0 where
  pub within : LieWithin e.outstanding (length old.numbers)
  pub answer : Result Received Closing
  pub told : (status, new.closing) ≡ received_told answer old.closing
  pub step : ReceiveStep e number payload answer f
  pub numbers : new.numbers ≡ newly_acked e payload f ++ drop (length (newly_acked e payload f)) old.numbers
  pub count : new.count ≡ length (newly_acked e payload f)

-- Where there isn't a place for each number from the least outstanding packet's on to the greatest's, nothing changes.
abbrev pub TellingStep : ℕ → List ℕ → End → End → ℕ → TellingOut → TellingOut → Type 0
TellingStep number payload e f status old new =
    MatchBool (nat_eq status 22)
    ((LieWithin e.outstanding (length old.numbers) → ⊥) × (f ≡ e) × (new ≡ old))
    (Tells number payload e f status old new)

-- A number is noted in the same slice behind those before it, where there is a place for it.
pub record NotesOne (old : Notes) (number : ℕ) (new : Notes) : Type 0 where
  pub same_room : new.room.ghost_name ≡ old.room.ghost_name
  pub long : length new.room.now ≡ length old.room.now
  pub noted : old.count < length old.room.now → (new.count ≡ old.count + 1) × (new.room.now ≡ slice_set old.room.now old.count number)
