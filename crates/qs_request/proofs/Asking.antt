-- Numbers and settings of a command line, what a refusal leaves open, and the command that `clap` is given.
use Rattle.std.proofs.Common.{◌≡◌, ℕ, ◌<◌, ◌≤◌, ◌^◌, ◌∙◌, Bool, true, false, List, Option, Some, None, is_some, Result, Ok, option_map, sym, ap, ap₂, rules, arith, codes}
use Rattle.std.specs.Char.{is_ascii_digit}
use Rattle.std.specs.List.{list_all}
use Rattle.std.specs.Str.Parse.{ParsesUnsigned, digits_value}
use Rattle.std.proofs.lemmas.Str.Parse.{IsNumeralModel, numerals_by_value, parse_gives}
use Rattle.clap.specs.Words.{AddsArg, AddsSubcommand, App, Row, Rule, Shape, Text, app_of, first_of, first_value, one_of, one_text, rows_of, rule_of, shape_of, with_rule, with_subcommand}
use Rattle.clap.specs.declared.parser.matches.Found.{Found}
use Rattle.std.specs.Borrow.{Bor}
use Rattle.clap.specs.Simple.{app_of_fields, on_top}
use Rattle.clap.specs.declared.builder.command.Command.TheViews.{out-Command as fields_of}
use Rattle.clap.specs.declared.builder.arg.Arg.{Arg}
use Rattle.clap.specs.declared.builder.command.Command.{Command}
use Rattle.clap.proofs.SimpleLemmas.{plain_fields}
use Rattle.clap.proofs.WalkLemmas.{first_value-rows, one_text-rows}
use Rattle.qs_calls.specs.declared.settings.Settings.{Settings}
use Rattle.qs_request.specs.declared.command_line.Request.{Request}
use Rattle.qs_request.specs.declared.command_line.Request.TheVariants.{Frames, Play, Udp, Random}
use Rattle.qs_request.specs.declared.command_line.Refusal.{Refusal}
use Rattle.qs_request.specs.declared.command_line.Refusal.TheVariants.{BadUsage, NoMemory}
use Rattle.qs_request.specs.Requests.{IsNumber, AreSettings, Asks, IsSwitch, RefusesUnless}

-- Refusals

pub refuses_none : (P : Type 0) (r : Refusal) → (P → ⊥) → RefusesUnless P r
refuses_none P (BadUsage text) never = never
refuses_none P NoMemory never = tt

pub refuses_less : (P Q : Type 0) (r : Refusal) → (Q → P) → RefusesUnless P r → RefusesUnless Q r
refuses_less P Q (BadUsage text) to never = λ q. never (to q)
refuses_less P Q NoMemory to never = tt

-- Words

pub found_is : (f : Found) (id : Text) (r : Option (Bor Text)) → option_map (λ s. s.now) r ≡ first_value f id → first_of id (rows_of f) ≡ option_map (λ s. s.now) r
found_is f id r is = sym (is ∙ first_value-rows f id)

pub no_word : (o : Option Text) → o ≡ None → is_some o ≡ true → ⊥
no_word (Some word) is some = cc is
no_word None is some = cc some

-- Numbers

own : IsNumeralModel (λ ds. list_all is_ascii_digit ds ≡ true) (digits_value 10)
own = numerals_by_value _ (search rules)

pub no_number : {E : Type 0} (word : Text) (most n : ℕ) (r : Result ℕ E) → ParsesUnsigned 64 10 word r → most < 2 ^ 64 → ((m : ℕ) → r ≡ Ok m → m ≤ most → ⊥)
    → IsNumber word most n → ⊥
no_number word most n r parsed small none is =
    let value : digits_value 10 word ≡ n = is.value in
    let low : n ≤ most = is.bound in
    none n (parse_gives own 64 word r parsed is.digits is.some (omega (arith, value, low, small)) ∙ ap Ok value) low

pub too_great : {E : Type 0} (most m n : ℕ) (r : Result ℕ E) → r ≡ Ok m → r ≡ Ok n → m ≤ most → most < n → ⊥
too_great most m n r is also low high =
    let same : m ≡ n = cc (is, also) in
    omega (arith, same, low, high)

-- What a subcommand asks for

pub play_asks : (name : Text) (rows : List Row) (request : Request) → name ≡ codes "play" → Asks name rows request
    → (s : Settings) × AreSettings (first_of (codes "G") rows) (first_of (codes "L") rows) s
play_asks name rows (Frames hex) is asks =
    let clash : codes "frames" ≡ codes "play" = sym asks.0 ∙ is in cc clash
play_asks name rows (Play file settings drain qlog) is asks = (settings, asks.2)
play_asks name rows (Udp file qlog) is asks =
    let clash : codes "udp" ≡ codes "play" = sym asks.0 ∙ is in cc clash
play_asks name rows (Random seed n) is asks =
    let clash : codes "random" ≡ codes "play" = sym asks.0 ∙ is in cc clash

pub settings_asked : (f : Found) (g l : Option (Bor Text)) (s : Settings) → option_map (λ s. s.now) g ≡ first_value f (codes "G")
    → option_map (λ s. s.now) l ≡ first_value f (codes "L") → AreSettings (option_map (λ s. s.now) g) (option_map (λ s. s.now) l) s
    → AreSettings (first_of (codes "G") (rows_of f)) (first_of (codes "L") (rows_of f)) s
settings_asked f g l s grant lifetime are = rw (found_is f (codes "G") g grant, found_is f (codes "L") l lifetime) are

pub no_settings : (f : Found) (g l : Option (Bor Text)) (name : Text) (r : Refusal) → option_map (λ s. s.now) g ≡ first_value f (codes "G")
    → option_map (λ s. s.now) l ≡ first_value f (codes "L") → name ≡ codes "play"
    → RefusesUnless ((s : Settings) × AreSettings (option_map (λ s. s.now) g) (option_map (λ s. s.now) l) s) r
    → RefusesUnless ((request : Request) × Asks name (rows_of f) request) r
no_settings f g l name r grant lifetime is =
    refuses_less _ _ r (λ p.
    let asked = play_asks name (rows_of f) p.0 is p.1 in
    let also : AreSettings (option_map (λ s. s.now) g) (option_map (λ s. s.now) l) asked.0 =
    rw (← found_is f (codes "G") g grant, ← found_is f (codes "L") l lifetime) asked.1 in
    (asked.0, also))

pub is_switch : (f : Found) (id : Text) (on : Bool) → (one_text f id ≡ Some (codes "true") → on ≡ true) → (one_text f id ≡ Some (codes "false") → on ≡ false)
    → IsSwitch (one_of id (rows_of f)) on
is_switch f id on on_true on_false = rw (← one_text-rows f id) record { yes = on_true; no = on_false }

-- The command

pub versioned : (old new : Command) (text : Bor Text) (app : App) → fields_of new ≡ record (fields_of old) { version = Some text } → app_of old ≡ app
    → app_of new ≡ on_top (λ top. record top { has_version = true }) app
versioned old new text app is was = ap app_of_fields is ∙ ap (on_top (λ top. record top { has_version = true })) was

pub needs_subcommand : (old new : Command) (app : App) → fields_of new ≡ record (fields_of old) { subcommand_required = true } → app_of old ≡ app
    → app_of new ≡ on_top (λ top. record top { subcommand_required = true }) app
needs_subcommand old new app is was = ap app_of_fields is ∙ ap (on_top (λ top. record top { subcommand_required = true })) was

pub arg_is : (old new : Command) (arg : Arg) (app : App) (rule : Rule) → AddsArg old arg new → app_of old ≡ app → rule_of arg ≡ rule → arg.global ≡ false
    → app_of new ≡ with_rule app rule
arg_is old new arg app rule adds is named local = adds.shape local ∙ ap₂ with_rule is named

pub subcommand_is : (old sub new : Command) (above app : App) → AddsSubcommand old sub new → app_of old ≡ above → app_of sub ≡ app → app.top.is_plain ≡ true
    → app_of new ≡ with_subcommand above app.top
subcommand_is old sub new above app adds is below plain =
    let top : shape_of sub ≡ app.top = ap (λ (a : App). a.top) below in
    adds.shape (plain_fields sub (ap (λ (s : Shape). s.is_plain) top ∙ plain)).globals ∙ ap₂ with_subcommand is top
