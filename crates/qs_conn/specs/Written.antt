-- Trusted.
-- What a call that makes a packet leaves in its slice. The whole file is ours: RFC 9000 knows no slices.
use Rattle.std.specs.Prelude.{◌≡◌, ℕ, List, [], ◌++◌, length, take, drop, Option, None, Some, Result, Ok, Err}
use Rattle.qs_calls.specs.declared.filling.Filled.{Filled}
use Rattle.qs_calls.specs.declared.making.Made.{Made}
use Rattle.qs_calls.specs.declared.making.MakeFault.{MakeFault}

-- the payload that was written
abbrev pub made_text : Result (Option Made) MakeFault → List ℕ → List ℕ
made_text (Ok (Some made)) out = take made.len out
made_text (Ok None) out = []
made_text (Err fault) out = []

-- The payload stands at the slice's front, and behind it the slice is as it was; so is all of it where no packet was made.
abbrev pub KeepsRest : Result (Option Made) MakeFault → (before after : List ℕ) → Type 0
KeepsRest answer before after = after ≡ made_text answer after ++ drop (length (made_text answer after)) before

-- what was filled in
abbrev pub filled_text : Result (Option Filled) MakeFault → List ℕ → List ℕ
filled_text (Ok (Some filled)) out = take filled.len out
filled_text (Ok None) out = []
filled_text (Err fault) out = []

-- It stands at the slice's front, and behind it the slice is as it was.
abbrev pub KeepsBehind : Result (Option Filled) MakeFault → (before after : List ℕ) → Type 0
KeepsBehind answer before after = after ≡ filled_text answer after ++ drop (length (filled_text answer after)) before
