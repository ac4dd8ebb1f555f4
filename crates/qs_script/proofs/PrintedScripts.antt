-- A script that is printed says the events that were printed.
use Rattle.std.proofs.Common.{◌≡◌, ℕ, suc, ◌+◌, ◌^◌, ◌<◌, ◌≤◌, Bool, true, false, List, [], ◌∷◌, ◌++◌, length, map, Some, Ok, refl, ◌∙◌, ap, arith, append_assoc}
use Rattle.std.specs.Prelude.{◌==◌, ◌&&◌, not, filter, nat_le, codes, decimal}
use Rattle.std.specs.List.{list_all, slice_split, AllByRecursion}
use Rattle.std.specs.Char.{is_ascii_digit}
use Rattle.std.proofs.lemmas.Bool.{eqb-true, eq-eqb}
use Rattle.std.proofs.lemmas.Bool.Decides.{nat_tests}
use Rattle.std.proofs.lemmas.Fmt.{digits_decimal, digits_value-decimal, decimal_nonempty, length-decimal-le}
use Rattle.std.proofs.lemmas.List.Sums.{list_all-from_AllPass}
use Rattle.hex.specs.Hex.{IsBytes, encode_with, encode_lower, is_hex_digit}
use Rattle.hex.proofs.HexLemmas.{decode_of-encode_lower, decode_of-ok}
use Rattle.qs_ranges.specs.Numbers.{MAX_VARINT}
use Rattle.qs_wire.specs.declared.stream_id.Dir.{Dir}
use Rattle.qs_wire.specs.declared.stream_id.Dir.TheVariants.{Bidi, Uni}
use Rattle.qs_calls.specs.declared.event.Side.{Side}
use Rattle.qs_calls.specs.declared.event.Side.TheVariants.{A, B}
use Rattle.qs_calls.specs.declared.event.Act.{Act}
use Rattle.qs_calls.specs.declared.event.Act.TheVariants as acts
use Rattle.qs_calls.specs.declared.event.Event.{Event}
use Rattle.qs_script.specs.declared.script.line.Verb.{Verb}
use Rattle.qs_script.specs.declared.script.line.Verb.TheVariants as verbs
use Rattle.qs_script.specs.Scripts.{Kind, dir_word, number_word, hex_word, Value, dir_value, number_value, bytes_value, said, is_word, is_comment, words_of, line_says, lines_of, lines_say, event_of, name_of, verb_in, values_in, verb_among, all_verbs, kinds_of, value_of, values_of, side_of, dir_of, number_of, bytes_of, same}
use Rattle.qs_text.specs.EventText.{line, side_text, dir_text, hex_text, event_text, script_text}
use Rattle.qs_calls.specs.Events.{act_fits}
use Rattle.qs_script.specs.ScriptLaws.{IsTyped, MayBePlayed, PrintedScriptsParse}
use Rattle.qs_script.proofs.ScriptDigits.{own}

-- Bytes

-- a byte that parts no words and ends no line
abbrev plain : ℕ → Bool
plain b = not (b == 32) && (not (b == 10) && not (b == 13))

abbrev in_line : ℕ → Bool
in_line b = not (b == 10) && not (b == 13)

abbrev IsPlain : List ℕ → Type 0
IsPlain w = (is_word w ≡ true) × (list_all plain w ≡ true)

both : (a b : Bool) → (a && b) ≡ true → (a ≡ true) × (b ≡ true)
both true b e = (refl, e)
both false b e = absurd (cc (e))

join : (a b : Bool) → a ≡ true → b ≡ true → (a && b) ≡ true
join a b x y = rw (x, y) refl

not_true : (a : Bool) → not a ≡ true → a ≡ false
not_true true e = absurd (cc (e))
not_true false e = refl

all_by : (p q : ℕ → Bool) → ((b : ℕ) → p b ≡ true → q b ≡ true) → (xs : List ℕ) → list_all p xs ≡ true → list_all q xs ≡ true
all_by p q f [] all = refl
all_by p q f (x ∷ xs) all = let parts = both (p x) (list_all p xs) all in join (q x) (list_all q xs) (f x parts.0) (all_by p q f xs parts.1)

-- a test that a byte fails is passed by other bytes alone
other : (p : ℕ → Bool) (k b : ℕ) → p k ≡ false → p b ≡ true → not (b == k) ≡ true
other p k b fails passes = go (b == k) refl where
  go : (t : Bool) → (b == k) ≡ t → not t ≡ true
  go true e = let is : b ≡ k = eqb-true b k e in absurd (cc (ap p is, fails, passes))
  go false e = refl

plain_by : (p : ℕ → Bool) → p 32 ≡ false → p 10 ≡ false → p 13 ≡ false → (b : ℕ) → p b ≡ true → plain b ≡ true
plain_by p space feed return b passes = join _ _ (other p 32 b space passes) (join _ _ (other p 10 b feed passes) (other p 13 b return passes))

-- Lines

line_ends : (t rest : List ℕ) → list_all in_line t ≡ true → lines_of (t ++ 10 ∷ rest) ≡ t ∷ lines_of rest
line_ends [] rest all = refl
line_ends (b ∷ bs) rest all =
    let parts = both (in_line b) (list_all in_line bs) all in
    let tests = both (not (b == 10)) (not (b == 13)) parts.0 in
    rw (not_true (b == 10) tests.0, not_true (b == 13) tests.1, line_ends bs rest parts.1) refl

-- Words

abbrev is_space : ℕ → Bool
is_space b = b == 32

-- words with a space between each two
abbrev spaced : List ℕ → List (List ℕ) → List ℕ
spaced w [] = w
spaced w (v ∷ vs) = w ++ 32 ∷ spaced v vs

abbrev AllPlain : List (List ℕ) → Type 0
AllPlain [] = Unit {0}
AllPlain (w ∷ ws) = IsPlain w × AllPlain ws

part_ends : (w more : List ℕ) → list_all plain w ≡ true → slice_split is_space (w ++ 32 ∷ more) ≡ w ∷ slice_split is_space more
part_ends [] more all = refl
part_ends (b ∷ bs) more all =
    let parts = both (plain b) (list_all plain bs) all in
    let tests = both (not (b == 32)) (not (b == 10) && not (b == 13)) parts.0 in
    rw (not_true (b == 32) tests.0, part_ends bs more parts.1) refl

last_part : (w : List ℕ) → list_all plain w ≡ true → slice_split is_space w ≡ w ∷ []
last_part [] all = refl
last_part (b ∷ bs) all =
    let parts = both (plain b) (list_all plain bs) all in
    let tests = both (not (b == 32)) (not (b == 10) && not (b == 13)) parts.0 in
    rw (not_true (b == 32) tests.0, last_part bs parts.1) refl

parts_of : (w : List ℕ) (ws : List (List ℕ)) → IsPlain w → AllPlain ws → slice_split is_space (spaced w ws) ≡ w ∷ ws
parts_of w [] is all = last_part w is.1
parts_of w (v ∷ vs) is all = part_ends w (spaced v vs) is.1 ∙ ap (λ parts. w ∷ parts) (parts_of v vs all.0 all.1)

all_words : (ws : List (List ℕ)) → AllPlain ws → filter is_word ws ≡ ws
all_words [] all = refl
all_words (w ∷ ws) all = rw (all.0.0, all_words ws all.1) refl

words_are : (w : List ℕ) (ws : List (List ℕ)) → IsPlain w → AllPlain ws → words_of (spaced w ws) ≡ w ∷ ws
words_are w ws is all = ap (filter is_word) (parts_of w ws is all) ∙ all_words (w ∷ ws) (is, all)

all_joined : (p : ℕ → Bool) (xs ys : List ℕ) → list_all p xs ≡ true → list_all p ys ≡ true → list_all p (xs ++ ys) ≡ true
all_joined p [] ys a b = b
all_joined p (x ∷ xs) ys a b = let parts = both (p x) (list_all p xs) a in join (p x) (list_all p (xs ++ ys)) parts.0 (all_joined p xs ys parts.1 b)

plain_in_line : (b : ℕ) → plain b ≡ true → in_line b ≡ true
plain_in_line b is = (both (not (b == 32)) (in_line b) is).1

in_one_line : (w : List ℕ) (ws : List (List ℕ)) → IsPlain w → AllPlain ws → list_all in_line (spaced w ws) ≡ true
in_one_line w [] is all = all_by plain in_line plain_in_line w is.1
in_one_line w (v ∷ vs) is all =
    all_joined in_line w (32 ∷ spaced v vs) (all_by plain in_line plain_in_line w is.1) (in_one_line v vs all.0 all.1)

-- Values

-- a word of that kind may say that: a direction, a number within bounds, or so many bytes as may be written at once
abbrev CanBeSaid : Kind → Value → Type 0
CanBeSaid dir_word (dir_value dir) = Unit {0}
CanBeSaid (number_word least most) (number_value n) = (least ≤ n) × (n ≤ most)
CanBeSaid hex_word (bytes_value bs) = (length bs ≤ 65535) × IsBytes bs
CanBeSaid kind value = ⊥

-- each word by its kind, and as many words as kinds
abbrev AllCanBeSaid : List Kind → List Value → Type 0
AllCanBeSaid [] [] = Unit {0}
AllCanBeSaid (kind ∷ kinds) (value ∷ values) = CanBeSaid kind value × AllCanBeSaid kinds values
AllCanBeSaid kinds values = ⊥

abbrev value_text : Value → List ℕ
value_text (dir_value dir) = dir_text dir
value_text (number_value n) = decimal n
value_text (bytes_value bs) = hex_text bs

-- numbers of a kind have at most 19 digits
abbrev IsShort : Kind → Type 0
IsShort dir_word = Unit {0}
IsShort (number_word least most) = most ≤ MAX_VARINT
IsShort hex_word = Unit {0}

abbrev AllShort : List Kind → Type 0
AllShort [] = Unit {0}
AllShort (kind ∷ kinds) = IsShort kind × AllShort kinds

number_is : (least most n : ℕ) → most ≤ MAX_VARINT → least ≤ n → n ≤ most → number_of least most (decimal n) ≡ Ok n
number_is least most n short low high =
    let some = decimal_nonempty n (omega arith) in
    let few = length-decimal-le 19 n (omega arith) (omega arith) (omega arith) in
    rw (digits_decimal own n (omega arith), digits_value-decimal own n (omega arith)) (grind (arith, nat_tests, some, few, low, high))

plain_number : (n : ℕ) → n < 2 ^ 64 → IsPlain (decimal n)
plain_number n small = (some (decimal n) (decimal_nonempty n small), all_by is_ascii_digit plain (plain_by is_ascii_digit refl refl refl) (decimal n) (digits_decimal own n small))
  where
    some : (w : List ℕ) → 0 < length w → is_word w ≡ true
    some [] l = absurd (omega arith)
    some (b ∷ bs) l = refl

plain_dir : (dir : Dir) → IsPlain (dir_text dir)
plain_dir Bidi = (refl, refl)
plain_dir Uni = (refl, refl)

dir_is : (dir : Dir) → dir_of (dir_text dir) ≡ Ok dir
dir_is Bidi = refl
dir_is Uni = refl

plain_side : (s : Side) → IsPlain (side_text s)
plain_side A = (refl, refl)
plain_side B = (refl, refl)

side_is : (s : Side) → side_of (side_text s) ≡ Ok s
side_is A = refl
side_is B = refl

plain_hex : (bs : List ℕ) → IsBytes bs → IsPlain (hex_text bs)
unfolding encode_with
plain_hex [] bytes = (refl, refl)
plain_hex (b ∷ bs) bytes = (
  refl,
  all_by is_hex_digit plain (plain_by is_hex_digit refl refl refl) (encode_lower (b ∷ bs))
      (list_all-from_AllPass is_hex_digit (encode_lower (b ∷ bs)) (decode_of-ok (encode_lower (b ∷ bs)) (b ∷ bs) (decode_of-encode_lower (b ∷ bs) bytes)).1),
)

and_false : (a : Bool) → (a && false) ≡ false
and_false true = refl
and_false false = refl

no_dash : (b : ℕ) (bs : List ℕ) → same (encode_lower (b ∷ bs)) (codes "-") ≡ false
unfolding encode_with
no_dash b bs = and_false _

hex_is : (bs : List ℕ) → length bs ≤ 65535 → IsBytes bs → bytes_of (hex_text bs) ≡ Ok bs
hex_is [] short bytes = refl
hex_is (b ∷ bs) short bytes = rw (no_dash b bs, decode_of-encode_lower (b ∷ bs) bytes) (grind (arith, nat_tests, short))

value_is : (kind : Kind) (value : Value) → IsShort kind → CanBeSaid kind value → value_of kind (value_text value) ≡ Ok value
value_is dir_word (dir_value dir) short can = rw (dir_is dir) refl
value_is (number_word least most) (number_value n) short can = rw (number_is least most n short can.0 can.1) refl
value_is hex_word (bytes_value bs) short can = rw (hex_is bs can.0 can.1) refl
value_is dir_word (number_value n) short can = absurd (can)
value_is dir_word (bytes_value bs) short can = absurd (can)
value_is (number_word least most) (dir_value dir) short can = absurd (can)
value_is (number_word least most) (bytes_value bs) short can = absurd (can)
value_is hex_word (dir_value dir) short can = absurd (can)
value_is hex_word (number_value n) short can = absurd (can)

plain_value : (kind : Kind) (value : Value) → IsShort kind → CanBeSaid kind value → IsPlain (value_text value)
plain_value dir_word (dir_value dir) short can = plain_dir dir
plain_value (number_word least most) (number_value n) short can = plain_number n (omega (arith, can.1, short))
plain_value hex_word (bytes_value bs) short can = plain_hex bs can.1
plain_value dir_word (number_value n) short can = absurd (can)
plain_value dir_word (bytes_value bs) short can = absurd (can)
plain_value (number_word least most) (dir_value dir) short can = absurd (can)
plain_value (number_word least most) (bytes_value bs) short can = absurd (can)
plain_value hex_word (dir_value dir) short can = absurd (can)
plain_value hex_word (number_value n) short can = absurd (can)

values_are : (kinds : List Kind) (values : List Value) → AllShort kinds → AllCanBeSaid kinds values → values_of kinds (map value_text values) ≡ Ok values
values_are [] [] short can = refl
values_are [] (v ∷ vs) short can = absurd (can)
values_are (k ∷ ks) [] short can = absurd (can)
values_are (k ∷ ks) (v ∷ vs) short can = rw (value_is k v short.0 can.0, values_are ks vs short.1 can.1) refl

plain_values : (kinds : List Kind) (values : List Value) → AllShort kinds → AllCanBeSaid kinds values → AllPlain (map value_text values)
plain_values [] [] short can = tt
plain_values [] (v ∷ vs) short can = absurd (can)
plain_values (k ∷ ks) [] short can = absurd (can)
plain_values (k ∷ ks) (v ∷ vs) short can = (plain_value k v short.0 can.0, plain_values ks vs short.1 can.1)

as_many : (kinds : List Kind) (values : List Value) → AllCanBeSaid kinds values → length (map value_text values) ≡ length kinds
as_many [] [] can = refl
as_many [] (v ∷ vs) can = absurd (can)
as_many (k ∷ ks) [] can = absurd (can)
as_many (k ∷ ks) (v ∷ vs) can = ap suc (as_many ks vs can.1)

-- Events

all_short : (v : Verb) → AllShort (kinds_of v)
all_short verbs.Open = (tt, tt)
all_short verbs.Accept = tt
all_short verbs.Claim = tt
all_short verbs.Write = (omega arith, (tt, tt))
all_short verbs.Finish = (omega arith, tt)
all_short verbs.Reset = (omega arith, (omega arith, tt))
all_short verbs.Stop = (omega arith, (omega arith, tt))
all_short verbs.Read = (omega arith, (omega arith, tt))
all_short verbs.Make = (omega arith, tt)
all_short verbs.Lose = (omega arith, tt)
all_short verbs.Deliver = (omega arith, tt)

plain_name : (v : Verb) → IsPlain (name_of v)
plain_name verbs.Open = (refl, refl)
plain_name verbs.Accept = (refl, refl)
plain_name verbs.Claim = (refl, refl)
plain_name verbs.Write = (refl, refl)
plain_name verbs.Finish = (refl, refl)
plain_name verbs.Reset = (refl, refl)
plain_name verbs.Stop = (refl, refl)
plain_name verbs.Read = (refl, refl)
plain_name verbs.Make = (refl, refl)
plain_name verbs.Lose = (refl, refl)
plain_name verbs.Deliver = (refl, refl)

verb_is : (v : Verb) → verb_among all_verbs (name_of v) ≡ Ok v
verb_is verbs.Open = refl
verb_is verbs.Accept = refl
verb_is verbs.Claim = refl
verb_is verbs.Write = refl
verb_is verbs.Finish = refl
verb_is verbs.Reset = refl
verb_is verbs.Stop = refl
verb_is verbs.Read = refl
verb_is verbs.Make = refl
verb_is verbs.Lose = refl
verb_is verbs.Deliver = refl

no_comment : (v : Verb) (w : List ℕ) (ws : List (List ℕ)) → is_comment (spaced (name_of v) (w ∷ ws)) ≡ false
no_comment verbs.Open w ws = refl
no_comment verbs.Accept w ws = refl
no_comment verbs.Claim w ws = refl
no_comment verbs.Write w ws = refl
no_comment verbs.Finish w ws = refl
no_comment verbs.Reset w ws = refl
no_comment verbs.Stop w ws = refl
no_comment verbs.Read w ws = refl
no_comment verbs.Make w ws = refl
no_comment verbs.Lose w ws = refl
no_comment verbs.Deliver w ws = refl

-- a script may say an event that may be played
abbrev HasLine : Event → Type 0
HasLine event = AllCanBeSaid (kinds_of (verb_in event.act)) (values_in event.act)

within : (n most : ℕ) → nat_le n most ≡ true → n ≤ most
within n most small = grind (arith, nat_tests, small)

has_line : (s : Side) (act : Act) → act_fits act ≡ true → IsTyped act → HasLine (record { end = s; act = act })
has_line s (acts.OpenStream dir) fit typed = (tt, tt)
has_line s acts.Accept fit typed = tt
has_line s acts.Claim fit typed = tt
has_line s (acts.Write n bs) fit typed = ((omega arith, typed.0), ((within (length bs.items) 65535 fit, typed.1), tt))
has_line s (acts.Finish n) fit typed = ((omega arith, typed), tt)
has_line s (acts.Reset n code) fit typed = ((omega arith, typed), ((omega arith, within code MAX_VARINT fit), tt))
has_line s (acts.Stop n code) fit typed = ((omega arith, typed), ((omega arith, within code MAX_VARINT fit), tt))
has_line s (acts.ReadUpTo n size) fit typed = ((omega arith, typed), ((omega arith, within size 65535 fit), tt))
has_line s (acts.Make room) fit typed =
    let parts = both (nat_le 128 room) (nat_le room 16383) fit in
    ((within 128 room parts.0, within room 16383 parts.1), tt)
has_line s (acts.Lose k) fit typed = ((omega arith, within k MAX_VARINT fit), tt)
has_line s (acts.Deliver k) fit typed = ((omega arith, within k MAX_VARINT fit), tt)

-- the words of an event's line
abbrev line_words : Side → Act → List ℕ
line_words s act = spaced (name_of (verb_in act)) (side_text s ∷ map value_text (values_in act))

-- two words behind the end
two_more : (s : Side) (a b : List ℕ) → (side_text s ++ 32 ∷ a) ++ 32 ∷ b ≡ side_text s ++ 32 ∷ (a ++ 32 ∷ b)
two_more s a b = append_assoc (side_text s) (32 ∷ a) (32 ∷ b)

text_is : (s : Side) (act : Act) → event_text (record { end = s; act = act }) ≡ line_words s act
text_is s (acts.OpenStream dir) = refl
text_is s acts.Accept = refl
text_is s acts.Claim = refl
text_is s (acts.Write n bs) = ap (λ t. codes "write " ++ t) (two_more s (decimal n) (hex_text bs.items))
text_is s (acts.Finish n) = refl
text_is s (acts.Reset n code) = ap (λ t. codes "reset " ++ t) (two_more s (decimal n) (decimal code))
text_is s (acts.Stop n code) = ap (λ t. codes "stop " ++ t) (two_more s (decimal n) (decimal code))
text_is s (acts.ReadUpTo n size) = ap (λ t. codes "read " ++ t) (two_more s (decimal n) (decimal size))
text_is s (acts.Make room) = refl
text_is s (acts.Lose k) = refl
text_is s (acts.Deliver k) = refl

event_is : (v : Verb) (s : Side) (values : List Value) → AllCanBeSaid (kinds_of v) values
    → event_of (name_of v) (side_text s ∷ map value_text values) ≡ Ok (record { verb = v; end = s; values = values })
event_is v s values can =
    rw (verb_is v, as_many (kinds_of v) values can, eq-eqb (suc (length (kinds_of v))) (suc (length (kinds_of v))) refl, side_is s, values_are (kinds_of v) values (all_short v) can) refl

line_is : (s : Side) (act : Act) → HasLine (record { end = s; act = act }) → line_says (line_words s act) ≡ Ok (Some (said (record { end = s; act = act })))
line_is s act can =
    let words = words_are (name_of (verb_in act)) (side_text s ∷ map value_text (values_in act)) (plain_name (verb_in act))
    (plain_side s, plain_values (kinds_of (verb_in act)) (values_in act) (all_short (verb_in act)) can) in
    rw (no_comment (verb_in act) (side_text s) (map value_text (values_in act)), words, event_is (verb_in act) s (values_in act) can) refl

one_line : (s : Side) (act : Act) → HasLine (record { end = s; act = act }) → list_all in_line (line_words s act) ≡ true
one_line s act can =
    in_one_line (name_of (verb_in act)) (side_text s ∷ map value_text (values_in act)) (plain_name (verb_in act))
    (plain_side s, plain_values (kinds_of (verb_in act)) (values_in act) (all_short (verb_in act)) can)

-- the lines of the printed script
printed_lines : (event : Event) (rest : List ℕ) → HasLine event → lines_of (line (event_text event) ++ rest) ≡ line_words event.end event.act ∷ lines_of rest
printed_lines event rest can =
    ap lines_of (append_assoc (event_text event) (10 ∷ []) rest ∙ ap (λ t. t ++ 10 ∷ rest) (text_is event.end event.act))
    ∙ line_ends (line_words event.end event.act) rest (one_line event.end event.act can)

all_said : (n : ℕ) (events : List Event) → AllByRecursion MayBePlayed events → lines_say n (lines_of (script_text events)) ≡ Ok (map said events)
all_said n [] all = refl
all_said n (event ∷ events) all =
    let can = has_line event.end event.act all.0.0 all.0.1 in
    rw (printed_lines event (script_text events) can, line_is event.end event.act can, all_said (n + 1) events all.1) refl

pub printed_scripts_hold : PrintedScriptsParse
printed_scripts_hold events all = all_said 1 events all
