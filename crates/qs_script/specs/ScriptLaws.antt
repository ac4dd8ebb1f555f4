-- Of laws.
-- A script that is printed says the events that were printed. The whole file is ours: RFC 9000 has no scripts.
use Rattle.std.specs.Prelude.{◌≡◌, ◌≤◌, true, List, map, Ok, ⊤}
use Rattle.std.specs.List.{AllByRecursion}
use Rattle.hex.specs.Hex.{IsBytes}
use Rattle.qs_ranges.specs.Numbers.{MAX_VARINT}
use Rattle.qs_calls.specs.declared.event.Act.{Act}
use Rattle.qs_calls.specs.declared.event.Act.TheVariants as acts
use Rattle.qs_calls.specs.declared.event.Event.{Event}
use Rattle.qs_calls.specs.Events.{fits}
use Rattle.qs_script.specs.Scripts.{said, script_of}
use Rattle.qs_text.specs.EventText.{script_text}

-- a stream's number is at most 2^62-1, and a byte is below 256: so it is of every value of their types
abbrev pub IsTyped : Act → Type 0
IsTyped (acts.Write n bytes) = (n ≤ MAX_VARINT) × IsBytes bytes.items
IsTyped (acts.Finish n) = n ≤ MAX_VARINT
IsTyped (acts.Reset n code) = n ≤ MAX_VARINT
IsTyped (acts.Stop n code) = n ≤ MAX_VARINT
IsTyped (acts.ReadUpTo n size) = n ≤ MAX_VARINT
IsTyped act = ⊤

-- an event that may be played: each of its numbers lies in its range
abbrev pub MayBePlayed : Event → Type 0
MayBePlayed event = (fits event ≡ true) × IsTyped event.act

-- the printed script of such events says exactly these, in order, and no line of it is at fault
abbrev pub PrintedScriptsParse : Type 0
PrintedScriptsParse = (events : List Event) → AllByRecursion MayBePlayed events → script_of (script_text events) ≡ Ok (map said events)
