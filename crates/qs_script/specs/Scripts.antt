-- Of public contracts.
-- The language of scripts: which events a text says, or which of its lines is no event and why.
use Rattle.std.specs.Prelude.{◌≡◌, ◌⊎◌, ◌<◌, ◌≤◌, ℕ, suc, ◌+◌, ◌*◌, ◌==◌, ◌&&◌, ◌||◌, nat_le, nat_eq, Bool, true, false, List, [], ◌∷◌, length, filter, map, codes, if◌then◌else◌, Option, None, Some, Result, Ok, Err, IsOk, ◌++◌, option_to_list}
use Rattle.std.specs.Cmp.Lexicographic.{pointwise}
use Rattle.std.specs.List.{slice_split, onto_first, list_all}
use Rattle.std.specs.Char.{is_ascii_digit}
use Rattle.std.specs.Str.Parse.{digits_value}
use Rattle.hex.specs.Hex.{decode_of}
use Rattle.qs_ranges.specs.Numbers.{MAX_VARINT}
use Rattle.qs_wire.specs.declared.stream_id.Dir.{Dir}
use Rattle.qs_wire.specs.declared.stream_id.Dir.TheVariants.{Bidi, Uni}
use Rattle.qs_calls.specs.declared.event.Side.{Side}
use Rattle.qs_calls.specs.declared.event.Side.TheVariants.{A, B}
use Rattle.qs_calls.specs.declared.event.Act.{Act}
use Rattle.qs_calls.specs.declared.event.Act.TheVariants as acts
use Rattle.qs_calls.specs.declared.event.Event.{Event}
use Rattle.qs_script.specs.declared.script.ScriptFault.{ScriptFault}
use Rattle.qs_script.specs.declared.script.Reason.{Reason}
use Rattle.qs_script.specs.declared.script.Reason.TheVariants.{UnknownWord, WordCount, BadEnd, BadDir, NoNumber, OutOfRange, BadHex, LongWrite, NoMemory}
use Rattle.qs_script.specs.declared.script.line.Verb.{Verb}
use Rattle.qs_script.specs.declared.script.line.Verb.TheVariants as verbs

abbrev pub reason_number : Reason → ℕ
reason_number UnknownWord = 1
reason_number WordCount = 2
reason_number BadEnd = 3
reason_number BadDir = 4
reason_number NoNumber = 5
reason_number OutOfRange = 6
reason_number BadHex = 7
reason_number LongWrite = 8
reason_number NoMemory = 9

-- Lines and words

-- a line feed comes next
abbrev pub feeds : List ℕ → Bool
feeds [] = false
feeds (b ∷ bs) = b == 10

-- The lines. Each ends with a line feed, which the last one may lack; a carriage return before a line feed is dropped.
abbrev pub lines_of : List ℕ → List (List ℕ)
lines_of [] = []
lines_of (b ∷ bs) = if b == 10 then [] ∷ lines_of bs else if (b == 13) && feeds bs then lines_of bs else onto_first b (lines_of bs)

-- a line without the carriage return that stands last
abbrev pub bare : List ℕ → List ℕ
bare [] = []
bare (b ∷ []) = if b == 13 then [] else b ∷ []
bare (b ∷ c ∷ bs) = b ∷ bare (c ∷ bs)

abbrev pub is_word : List ℕ → Bool
is_word [] = false
is_word (b ∷ bs) = true

-- the words of a line: what stands between spaces
abbrev pub words_of : List ℕ → List (List ℕ)
words_of line = filter is_word (slice_split (λ b. b == 32) line)

-- Words

-- two texts are the same
abbrev pub same : List ℕ → List ℕ → Bool
same word text = pointwise nat_eq word text

abbrev pub side_of : List ℕ → Result Side Reason
side_of word = if same word (codes "A") then Ok A else if same word (codes "B") then Ok B else Err BadEnd

abbrev pub dir_of : List ℕ → Result Dir Reason
dir_of word = if same word (codes "bidi") then Ok Bidi else if same word (codes "uni") then Ok Uni else Err BadDir

-- a number within bounds
abbrev pub between : ℕ → ℕ → ℕ → Result ℕ Reason
between least most n = if nat_le least n && nat_le n most then Ok n else Err OutOfRange

-- 1 to 19 decimal digits of a number within bounds
abbrev pub number_of : ℕ → ℕ → List ℕ → Result ℕ Reason
number_of least most word =
    if nat_le 1 (length word) && nat_le (length word) 19 && list_all is_ascii_digit word then between least most (digits_value 10 word) else Err NoNumber

-- the bytes that were decoded, if they may be written at once
abbrev pub written : {E : Type 0} → Result (List ℕ) E → Result (List ℕ) Reason
written (Ok bytes) = if nat_le (length bytes) 65535 then Ok bytes else Err LongWrite
written (Err error) = Err BadHex

-- hex, of which a dash is no bytes
abbrev pub bytes_of : List ℕ → Result (List ℕ) Reason
bytes_of word = if same word (codes "-") then Ok [] else written (decode_of word)

-- Events

-- what a word has to be
pub data Kind : Type 0 where
  dir_word : Kind
  number_word : (least most : ℕ) → Kind
  hex_word : Kind

-- what a word says
pub data Value : Type 0 where
  dir_value : (dir : Dir) → Value
  number_value : (n : ℕ) → Value
  bytes_value : (bs : List ℕ) → Value

-- the second step, where the first gave a value
abbrev pub and_then : {X Y : Type 0} → Result X Reason → (X → Result Y Reason) → Result Y Reason
and_then (Ok x) f = f x
and_then (Err reason) f = Err reason

abbrev pub value_of : Kind → List ℕ → Result Value Reason
value_of dir_word word = and_then (dir_of word) (λ d. Ok (dir_value d))
value_of (number_word least most) word = and_then (number_of least most word) (λ n. Ok (number_value n))
value_of hex_word word = and_then (bytes_of word) (λ bs. Ok (bytes_value bs))

-- the words from left to right, each by its kind
abbrev pub values_of : List Kind → List (List ℕ) → Result (List Value) Reason
values_of [] words = Ok []
values_of (kind ∷ kinds) [] = Err WordCount
values_of (kind ∷ kinds) (word ∷ words) = and_then (value_of kind word) (λ v. and_then (values_of kinds words) (λ vs. Ok (v ∷ vs)))

-- a stream, a code or a packet number
abbrev pub any_number : Kind
any_number = number_word 0 MAX_VARINT

-- the words that follow the first word and the end
abbrev pub kinds_of : Verb → List Kind
kinds_of verbs.Open = dir_word ∷ []
kinds_of verbs.Accept = []
kinds_of verbs.Write = any_number ∷ hex_word ∷ []
kinds_of verbs.Finish = any_number ∷ []
kinds_of verbs.Reset = any_number ∷ any_number ∷ []
kinds_of verbs.Stop = any_number ∷ any_number ∷ []
kinds_of verbs.Read = any_number ∷ number_word 0 65535 ∷ []
kinds_of verbs.Make = number_word 128 16383 ∷ []
kinds_of verbs.Lose = any_number ∷ []
kinds_of verbs.Claim = []
kinds_of verbs.Deliver = any_number ∷ []

-- what an event says: its first word, its end, and what its other words say
pub record Said : Type 0 where
  pub verb : Verb
  pub end : Side
  pub values : List Value

abbrev pub verb_in : Act → Verb
verb_in (acts.OpenStream dir) = verbs.Open
verb_in acts.Accept = verbs.Accept
verb_in (acts.Write n bs) = verbs.Write
verb_in (acts.Finish n) = verbs.Finish
verb_in (acts.Reset n code) = verbs.Reset
verb_in (acts.Stop n code) = verbs.Stop
verb_in (acts.ReadUpTo n size) = verbs.Read
verb_in (acts.Make room) = verbs.Make
verb_in (acts.Lose k) = verbs.Lose
verb_in acts.Claim = verbs.Claim
verb_in (acts.Deliver k) = verbs.Deliver

abbrev pub values_in : Act → List Value
values_in (acts.OpenStream dir) = dir_value dir ∷ []
values_in acts.Accept = []
values_in (acts.Write n bs) = number_value n ∷ bytes_value bs.items ∷ []
values_in (acts.Finish n) = number_value n ∷ []
values_in (acts.Reset n code) = number_value n ∷ number_value code ∷ []
values_in (acts.Stop n code) = number_value n ∷ number_value code ∷ []
values_in (acts.ReadUpTo n size) = number_value n ∷ number_value size ∷ []
values_in (acts.Make room) = number_value room ∷ []
values_in (acts.Lose k) = number_value k ∷ []
values_in acts.Claim = []
values_in (acts.Deliver k) = number_value k ∷ []

abbrev pub said : Event → Said
said event = record { verb = verb_in event.act; end = event.end; values = values_in event.act }

-- the first word of a line
abbrev pub name_of : Verb → List ℕ
name_of verbs.Open = codes "open"
name_of verbs.Accept = codes "accept"
name_of verbs.Write = codes "write"
name_of verbs.Finish = codes "finish"
name_of verbs.Reset = codes "reset"
name_of verbs.Stop = codes "stop"
name_of verbs.Read = codes "read"
name_of verbs.Make = codes "make"
name_of verbs.Lose = codes "lose"
name_of verbs.Claim = codes "claim"
name_of verbs.Deliver = codes "deliver"

abbrev pub all_verbs : List Verb
all_verbs =
    verbs.Open ∷ verbs.Accept ∷ verbs.Write ∷ verbs.Finish ∷ verbs.Reset ∷ verbs.Stop ∷ verbs.Read ∷ verbs.Make ∷ verbs.Lose ∷ verbs.Claim ∷ verbs.Deliver ∷ []

-- the one of these that has that name
abbrev pub verb_among : List Verb → List ℕ → Result Verb Reason
verb_among [] word = Err UnknownWord
verb_among (v ∷ vs) word = if same word (name_of v) then Ok v else verb_among vs word

-- the end, and then the other words
abbrev pub arguments_of : Verb → List (List ℕ) → Result Said Reason
arguments_of verb [] = Err WordCount
arguments_of verb (word ∷ words) =
    and_then (side_of word) (λ end. and_then (values_of (kinds_of verb) words) (λ vs. Ok (record { verb = verb; end = end; values = vs })))

-- the first word is looked at first, then the number of words, then the words from left to right
abbrev pub event_of : List ℕ → List (List ℕ) → Result Said Reason
event_of first words =
    and_then (verb_among all_verbs first) (λ verb. if length words == suc (length (kinds_of verb)) then arguments_of verb words else Err WordCount)

abbrev pub words_say : List (List ℕ) → Result (Option Said) Reason
words_say [] = Ok None
words_say (first ∷ words) = and_then (event_of first words) (λ s. Ok (Some s))

abbrev pub is_comment : List ℕ → Bool
is_comment [] = false
is_comment (b ∷ bs) = b == 35

-- a line's event; none where the line has no word or is a comment
abbrev pub line_says : List ℕ → Result (Option Said) Reason
line_says line = if is_comment line then Ok None else words_say (words_of line)

-- an event, and then those of the lines that follow
abbrev pub follows : Said → Result (List Said) (ℕ × Reason) → Result (List Said) (ℕ × Reason)
follows s (Ok more) = Ok (s ∷ more)
follows s (Err fault) = Err fault

-- what a line says, and then the lines that follow
abbrev pub one_says : Result (Option Said) Reason → ℕ → Result (List Said) (ℕ × Reason) → Result (List Said) (ℕ × Reason)
one_says (Err reason) n rest = Err (n, reason)
one_says (Ok None) n rest = rest
one_says (Ok (Some s)) n rest = follows s rest

-- the events of these lines, of which the first has that number; or the first line that is none, and why
abbrev pub lines_say : ℕ → List (List ℕ) → Result (List Said) (ℕ × Reason)
lines_say n [] = Ok []
lines_say n (line ∷ lines) = one_says (line_says line) n (lines_say (n + 1) lines)

-- the events of a script, or its first line that is none, counted from 1, and why
abbrev pub script_of : List ℕ → Result (List Said) (ℕ × Reason)
script_of text = lines_say 1 (lines_of text)

-- What the program reads

-- memory was refused, and there is no fault
abbrev pub RanOut : {V : Type 0} → Reason → Result V Reason → Type 0
RanOut reason read = (reason ≡ NoMemory) × IsOk read

-- the value that is said, or the reason why none is; or memory was refused
abbrev pub Reads : {X V : Type 0} → (X → V) → Result V Reason → Result X Reason → Type 0
Reads view read (Ok x) = read ≡ Ok (view x)
Reads view read (Err reason) = (read ≡ Err reason) ⊎ RanOut reason read

-- what a line says comes behind what those before it said; or it is no event; or memory was refused
abbrev pub Pushes : List Said → Result (Option Said) Reason → Result (Unit {0}) Reason → List Said → Type 0
Pushes before read (Ok done) after = (more : Option Said) × (read ≡ Ok more) × (after ≡ before ++ option_to_list more)
Pushes before read (Err reason) after = (read ≡ Err reason) ⊎ RanOut reason read

-- memory was refused at a line before any that is no event
abbrev pub RanOutAt : List ℕ → ScriptFault → Type 0
RanOutAt text fault =
    (fault.reason ≡ NoMemory) × (1 ≤ fault.line) × (fault.line ≤ length (lines_of text))
    × ((n : ℕ) (reason : Reason) → script_of text ≡ Err (n, reason) → fault.line < n)

-- the fault of a script, or memory was refused
abbrev pub IsFaultOf : List ℕ → ScriptFault → Type 0
IsFaultOf text fault = (script_of text ≡ Err (fault.line, fault.reason)) ⊎ RanOutAt text fault
