-- Of public contracts.
-- Which run a command line asks for: the program's command as `clap` has it, and what its subcommands ask for with their arguments.
use Rattle.std.specs.Prelude.{◌≡◌, ℕ, ◌<◌, ◌≤◌, ◌^◌, ◌-◌, Bool, length, true, false, List, [], Option, None, Some, option_map, codes, max, ⊤}
use Rattle.std.specs.Option.{IsSomeAnd}
use Rattle.std.specs.Char.{is_ascii_digit}
use Rattle.std.specs.List.{list_all}
use Rattle.std.specs.Str.Parse.{digits_value}
use Rattle.clap.specs.Simple.{on_top}
use Rattle.clap.specs.Words.{App, Row, Rule, Text, first_of, new_app, new_rule, one_of, subcommand_of, fault_of, with_rule, with_subcommand}
use Rattle.clap.specs.declared.builder.action.ArgAction.TheVariants.{SetTrue}
use Rattle.qs_calls.specs.Settings.{are_in_range}
use Rattle.qs_calls.specs.declared.settings.Settings.{Settings}
use Rattle.qs_machine.specs.Examples.{standard}
use Rattle.qs_request.specs.declared.command_line.Request.{Request}
use Rattle.qs_request.specs.declared.command_line.Request.TheVariants.{Frames, Play, Udp, Random}
use Rattle.qs_request.specs.declared.command_line.Refusal.{Refusal}
use Rattle.qs_request.specs.declared.command_line.Refusal.TheVariants.{BadUsage, NoMemory}

-- The command

-- an argument that has to stand in its place; one that is named, with a value; and a switch
abbrev pub placed : Text → Rule
placed id = record (new_rule id) { required = true }

abbrev pub named : (id name : Text) → Rule
named id name = record (new_rule id) { long = Some name }

abbrev pub switch : Text → Rule
switch id = record (new_rule id) { long = Some id; action = Some SetTrue }

abbrev pub frames_app : App
frames_app = with_rule (new_app (codes "frames")) (placed (codes "HEX"))

-- a subcommand that plays the script in a file
abbrev pub script_app : Text → App
script_app name = with_rule (with_rule (new_app name) (placed (codes "FILE"))) (named (codes "OUT") (codes "qlog"))

abbrev pub play_app : App
play_app =
    with_rule (with_rule (with_rule (script_app (codes "play")) (named (codes "G") (codes "grant"))) (named (codes "L") (codes "lifetime"))) (switch (codes "drain"))

abbrev pub random_app : App
random_app = with_rule (with_rule (new_app (codes "random")) (placed (codes "SEED"))) (placed (codes "N"))

abbrev pub qstream : App
qstream =
    with_subcommand
    (with_subcommand
    (with_subcommand
    (with_subcommand (on_top (λ top. record top { has_version = true; subcommand_required = true }) (new_app (codes "qstream"))) frames_app.top)
    play_app.top) (script_app (codes "udp")).top) random_app.top

-- What it asks for

-- the number that a word of digits writes, at most so great
pub record IsNumber (word : Text) (most n : ℕ) : Type 0 where
  pub digits : list_all is_ascii_digit word ≡ true
  pub some : 0 < length word
  pub value : digits_value 10 word ≡ n
  pub bound : n ≤ most

-- the same of an argument that may be left out
abbrev pub IsNumberOr : (usual : ℕ) → Option Text → (most n : ℕ) → Type 0
IsNumberOr usual None most n = n ≡ usual
IsNumberOr usual (Some word) most n = IsNumber word most n

-- Each end grants so many streams of each direction at first, 8 where that isn't named, and so many in all, no fewer: 8 or as many as at first
-- where that isn't named.
pub record AreSettings (grant lifetime : Option Text) (s : Settings) : Type 0 where
  pub first : IsNumberOr 8 grant 4096 s.grant_bidi
  pub all : IsNumberOr (max s.grant_bidi 8) lifetime 65536 s.lifetime_bidi
  pub ordered : s.grant_bidi ≤ s.lifetime_bidi
  pub others : s ≡ record standard { grant_bidi = s.grant_bidi; grant_uni = s.grant_bidi; lifetime_bidi = s.lifetime_bidi; lifetime_uni = s.lifetime_bidi }

-- a switch is on where it is named: `clap` has the texts `true` and `false` for it
pub record IsSwitch (text : Option Text) (on : Bool) : Type 0 where
  pub yes : text ≡ Some (codes "true") → on ≡ true
  pub no : text ≡ Some (codes "false") → on ≡ false

-- a subcommand of that name asks for it, with what was found of its arguments
abbrev pub Asks : Text → List Row → Request → Type 0
Asks name rows (Frames hex) = (name ≡ codes "frames") × (first_of (codes "HEX") rows ≡ Some hex.now)
Asks name rows (Play file settings drain qlog) =
    (name ≡ codes "play") × (first_of (codes "FILE") rows ≡ Some file.now)
    × AreSettings (first_of (codes "G") rows) (first_of (codes "L") rows) settings
    × IsSwitch (one_of (codes "drain") rows) drain × (first_of (codes "OUT") rows ≡ option_map (λ s. s.now) qlog)
Asks name rows (Udp file qlog) =
    (name ≡ codes "udp") × (first_of (codes "FILE") rows ≡ Some file.now) × (first_of (codes "OUT") rows ≡ option_map (λ s. s.now) qlog)
Asks name rows (Random seed n) =
    (name ≡ codes "random") × IsSomeAnd (first_of (codes "SEED") rows) (λ word. IsNumber word (2 ^ 64 - 1) seed)
    × IsSomeAnd (first_of (codes "N") rows) (λ word. IsNumber word 10000 n)

-- These words ask for it, the program's name first: `clap` finds no fault with them, and the subcommand that they name asks for it.
abbrev pub AsksFor : List Text → Request → Type 0
AsksFor words request = (fault_of qstream words ≡ []) × IsSomeAnd (subcommand_of qstream words) (λ found. Asks found.0 found.1 request)

-- they ask for something
abbrev pub MakeSense : List Text → Type 0
MakeSense words = (request : Request) × AsksFor words request

-- bad usage is told only where P doesn't hold; memory may be refused to anyone
abbrev pub RefusesUnless : (P : Type 0) → Refusal → Type 0
RefusesUnless P (BadUsage text) = P → ⊥
RefusesUnless P NoMemory = ⊤

-- an end can be made of the settings between which a script is to be played
abbrev pub IsPlayable : Request → Type 0
IsPlayable (Frames hex) = ⊤
IsPlayable (Play file settings drain qlog) = are_in_range settings ≡ true
IsPlayable (Udp file qlog) = ⊤
IsPlayable (Random seed n) = ⊤
