-- One write after another.
use Rattle.std.proofs.lemmas.Bool.Decides.{nat_tests}
use Rattle.std.proofs.Common.{◌≡◌, ℕ, Bool, true, get_or, refl, ◌+◌, ◌<◌, ◌≤◌, List, [], ◌∷◌, ◌++◌, length, take, drop, sym, ap, subst, ◌∙◌, append_assoc, arith}
use Rattle.std.specs.List.{flat_map}
use Rattle.std.proofs.lemmas.List.Concat.{flat_map-append}
use Rattle.std.proofs.lemmas.List.{take_more, append-nil, length-append, length-take-le, length-drop, take-append-drop, take_at, drop_at, drop-drop}
use Rattle.std.specs.Prelude.{nat_lt, if◌then◌else◌}
use Rattle.qs_wire.specs.declared.frame_type.FrameType.TheVariants.{Stream, MaxData, MaxStreamData}
use Rattle.qs_wire.specs.Layout.{number_of_type, stream, max_data, max_stream_data}
use Rattle.qs_wire.specs.Varint.{short, short_len}
use Rattle.qs_wire.specs.Grammar.{IsIdentifierLength, canonical}
use Rattle.qs_wire.proofs.Numbers.{short_byte, length-short}
use Rattle.qs_wire.specs.Writing.{Puts}

pub Puts-then : (at next : ℕ) (a b old mid new : List ℕ) → Puts at a old mid → next ≡ at + length a → Puts next b mid new → Puts at (a ++ b) old new
Puts-then at next a b old mid new p e q =
    let front : List ℕ = take at old ++ a in
    let len : length front ≡ next = omega (arith, length-append (take at old) a, length-take-le at old (omega (arith, p.room)), e) in
    let parts : mid ≡ front ++ drop (at + length a) old = p.is ∙ sym (append_assoc (take at old) a (drop (at + length a) old)) in
    let begins : take next mid ≡ front = ap (take next) parts ∙ take_at front (drop (at + length a) old) next len in
    let here : drop next mid ≡ drop (at + length a) old = ap (drop next) parts ∙ drop_at front (drop (at + length a) old) next len in
    let ends : drop (next + length b) mid ≡ drop (at + length (a ++ b)) old =
    sym (drop-drop (length b) next mid) ∙ ap (drop (length b)) here ∙ drop-drop (length b) (at + length a) old ∙ ap (λ (n : ℕ). drop n old) (omega (arith, length-append a b)) in
    let whole : length mid ≡ length old = ap length parts ∙ omega (arith, length-append front (drop (at + length a) old), length-append (take at old) a, length-take-le at old (omega (arith, p.room)), length-drop (at + length a) old, p.room) in
    record {
      room = omega (arith, q.room, length-append a b, e, whole);
      is = q.is ∙ ap (λ (t : List ℕ). t ++ (b ++ drop (next + length b) mid)) begins ∙ ap (λ (t : List ℕ). front ++ (b ++ t)) ends
          ∙ append_assoc (take at old) a (b ++ drop (at + length (a ++ b)) old) ∙ ap (λ (t : List ℕ). take at old ++ t) (sym (append_assoc a b (drop (at + length (a ++ b)) old)));
    }

-- four texts one after the other, from the front on
pub Puts-four : (a b c d old one two three new : List ℕ) (i j k : ℕ) → Puts 0 a old one → i ≡ 0 + length a → Puts i b one two → j ≡ i + length b → Puts j c two three → k ≡ j + length c → Puts k d three new → Puts 0 (a ++ (b ++ (c ++ (d ++ [])))) old new
Puts-four a b c d old one two three new i j k p at_i q at_j r at_k s =
    let pq = Puts-then 0 i a b old one two p at_i q in
    let pqr = Puts-then 0 j (a ++ b) c old two three pq (omega (arith, at_i, at_j, length-append a b)) r in
    let all = Puts-then 0 k ((a ++ b) ++ c) d old three new pqr (omega (arith, at_i, at_j, at_k, length-append a b, length-append (a ++ b) c)) s in
    let is : ((a ++ b) ++ c) ++ d ≡ a ++ (b ++ (c ++ (d ++ []))) = append_assoc (a ++ b) c d ∙ append_assoc a b (c ++ d) ∙ ap (λ (t : List ℕ). a ++ (b ++ (c ++ t))) (sym (append-nil d)) in
    subst (λ (t : List ℕ). Puts 0 t old new) is all

-- what is written at the front
pub Puts-front : (text old new : List ℕ) → Puts 0 text old new → new ≡ text ++ drop (length text) old
Puts-front text old new p = p.is ∙ ap (λ (n : ℕ). text ++ drop n old) (omega arith)

-- what is written at the front, before what was written behind it
pub Puts-before : (at : ℕ) (first text old mid new : List ℕ) → length first ≡ at → Puts at text old mid → new ≡ first ++ drop at mid → new ≡ (first ++ text) ++ drop (length (first ++ text)) old
Puts-before at first text old mid new len p is = grind (arith, nat_tests, length-take-le, drop_at, append_assoc, length-append)

-- one byte counts an identifier
pub identifier_text : (v : List ℕ) → IsIdentifierLength (length v) → short (length v) ++ v ≡ length v ∷ v
identifier_text v h = ap (λ (t : List ℕ). t ++ v) (short_byte (length v) (omega (arith, h.1)))

-- ---- parts or numbers, one after the other, each with its text

-- the text of one more
pub text_more : {A : Type 0} (f : A → List ℕ) (ps : List A) (i : ℕ) (d : A) → i < length ps → flat_map f (take (i + 1) ps) ≡ flat_map f (take i ps) ++ f (get_or ps i d)
text_more f ps i d lt = ap (flat_map f) (take_more ps i d lt) ∙ flat_map-append f (take i ps) (get_or ps i d ∷ []) ∙ ap (λ (t : List ℕ). flat_map f (take i ps) ++ t) (append-nil (f (get_or ps i d)))

-- those up to one are no longer than all of them
pub text_within : {A : Type 0} (f : A → List ℕ) (ps : List A) (i : ℕ) → length (flat_map f (take i ps)) ≤ length (flat_map f ps)
text_within f ps i = omega (arith, ap (λ qs. length (flat_map f qs)) (sym (take-append-drop i ps)), ap length (flat_map-append f (take i ps) (drop i ps)), length-append (flat_map f (take i ps)) (flat_map f (drop i ps)))

pub length_more : {A : Type 0} (f : A → List ℕ) (ps : List A) (i : ℕ) (d : A) → i < length ps → length (flat_map f (take (i + 1) ps)) ≡ length (flat_map f (take i ps)) + length (f (get_or ps i d))
length_more f ps i d lt = ap length (text_more f ps i d lt) ∙ length-append (flat_map f (take i ps)) (f (get_or ps i d))

-- ---- the text of a STREAM frame

pub stream_text : (id offset : ℕ) (fin : Bool) (bytes : List ℕ) → canonical (stream id offset fin bytes)
    ≡ short (number_of_type (Stream (nat_lt 0 offset) true fin)) ++ (short id ++ ((if nat_lt 0 offset then short offset else []) ++ ((short (length bytes) ++ bytes) ++ [])))
unfolding canonical
stream_text id offset fin bytes = refl

pub stream_len : (id offset : ℕ) (fin : Bool) (bytes : List ℕ) → number_of_type (Stream (nat_lt 0 offset) true fin) < 64
    → length (canonical (stream id offset fin bytes)) ≡ 1 + short_len id + length (if nat_lt 0 offset then short offset else []) + short_len (length bytes) + length bytes
stream_len id offset fin bytes small = grind (arith, nat_tests, stream_text, short_byte, length-short, length-append)

-- ---- the text of a frame of numbers

pub max_data_text : (type maximum : ℕ) → type ≡ number_of_type MaxData → flat_map short (type ∷ maximum ∷ []) ≡ canonical (max_data maximum)
unfolding canonical
max_data_text type maximum is = ap (λ (n : ℕ). short n ++ (short maximum ++ [])) is

pub max_stream_data_text : (type id s maximum : ℕ) → type ≡ number_of_type MaxStreamData → s ≡ id → flat_map short (type ∷ s ∷ maximum ∷ []) ≡ canonical (max_stream_data id maximum)
unfolding canonical
max_stream_data_text type id s maximum is same = ap (λ (n : ℕ). short n ++ (short s ++ (short maximum ++ []))) is ∙ ap (λ (n : ℕ). short (number_of_type MaxStreamData) ++ (short n ++ (short maximum ++ []))) same
