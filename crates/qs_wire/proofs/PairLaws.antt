-- The numbers that spell ranges, and the ranges that numbers spell.
use Rattle.std.proofs.lemmas.Bool.Decides.{nat_tests}
use Rattle.std.proofs.Common.{◌≡◌, ℕ, zero, suc, get_or, ◌+◌, ◌-◌, ◌*◌, ◌^◌, ◌<◌, ◌≤◌, List, [], ◌∷◌, ◌++◌, length, map, take, drop, refl, sym, ap, ◌∙◌, append_assoc, arith}
use Rattle.std.specs.List.{flat_map, AllByRecursion}
use Rattle.std.proofs.lemmas.List.{append-nil, length-append, length-drop, length-take-le, take_more}
use Rattle.std.proofs.lemmas.List.Concat.{flat_map-append}
use Rattle.qs_wire.specs.Varint.{short}
use Rattle.qs_wire.specs.Layout.{taken, ack_ranges_of}
use Rattle.qs_wire.specs.Grammar.{canonical, Fits}
use Rattle.qs_wire.proofs.Numbers.{short_byte}
use Rattle.qs_wire.specs.Acks.{LiesBelow, AreApartBelow, AreAckPairs, gaps_below, ack_of, ack_pairs, inclusive, FallBelow}

abbrev no_pairs : List (ℕ × ℕ)
no_pairs = []

-- the smallest number of the last range, or the one above all
abbrev pub last_below : ℕ → List (ℕ × ℕ) → ℕ
last_below smallest [] = smallest
last_below smallest (p ∷ ps) = last_below p.0 ps

gaps-append : (smallest : ℕ) (ps qs : List (ℕ × ℕ)) → gaps_below smallest (ps ++ qs) ≡ gaps_below smallest ps ++ gaps_below (last_below smallest ps) qs
gaps-append smallest [] qs = refl
gaps-append smallest (p ∷ ps) qs = ap (λ (vs : List ℕ). ((smallest - p.1) - 1) ∷ ((p.1 - 1) - p.0) ∷ vs) (gaps-append p.0 ps qs)

last-append : (smallest : ℕ) (ps qs : List (ℕ × ℕ)) → last_below smallest (ps ++ qs) ≡ last_below (last_below smallest ps) qs
last-append smallest [] qs = refl
last-append smallest (p ∷ ps) qs = last-append p.0 ps qs

pub last_more : (smallest : ℕ) (ps : List (ℕ × ℕ)) (i : ℕ) (d : ℕ × ℕ) → i < length ps → last_below smallest (take (i + 1) ps) ≡ (get_or ps i d).0
last_more smallest ps i d lt = ap (last_below smallest) (take_more ps i d lt) ∙ last-append smallest (take i ps) (get_or ps i d ∷ [])

abbrev pub text_below : ℕ → List (ℕ × ℕ) → List ℕ
text_below smallest ps = flat_map short (gaps_below smallest ps)

text-append : (smallest : ℕ) (ps qs : List (ℕ × ℕ)) → text_below smallest (ps ++ qs) ≡ text_below smallest ps ++ text_below (last_below smallest ps) qs
text-append smallest ps qs = ap (flat_map short) (gaps-append smallest ps qs) ∙ flat_map-append short (gaps_below smallest ps) (gaps_below (last_below smallest ps) qs)

-- one range more
pub text_more : (smallest : ℕ) (ps : List (ℕ × ℕ)) (i : ℕ) (d : ℕ × ℕ) → i < length ps
    → text_below smallest (take (i + 1) ps) ≡ (text_below smallest (take i ps) ++ short ((last_below smallest (take i ps) - (get_or ps i d).1) - 1)) ++ short (((get_or ps i d).1 - 1) - (get_or ps i d).0)
text_more smallest ps i d lt =
    let p = get_or ps i d in
    let front = text_below smallest (take i ps) in
    let gap = short ((last_below smallest (take i ps) - p.1) - 1) in
    let len = short ((p.1 - 1) - p.0) in
    let one : text_below (last_below smallest (take i ps)) (p ∷ []) ≡ gap ++ len = ap (λ (t : List ℕ). gap ++ t) (append-nil len) in
    ap (text_below smallest) (take_more ps i d lt) ∙ text-append smallest (take i ps) (p ∷ []) ∙ ap (λ (t : List ℕ). front ++ t) one ∙ sym (append_assoc front gap len)

pub text_more_len : (smallest : ℕ) (ps : List (ℕ × ℕ)) (i : ℕ) (d : ℕ × ℕ) → i < length ps
    → length (text_below smallest (take (i + 1) ps)) ≡ length (text_below smallest (take i ps)) + length (short ((last_below smallest (take i ps) - (get_or ps i d).1) - 1)) + length (short (((get_or ps i d).1 - 1) - (get_or ps i d).0))
text_more_len smallest ps i d lt =
    let p = get_or ps i d in
    let front = text_below smallest (take i ps) in
    let gap = short ((last_below smallest (take i ps) - p.1) - 1) in
    let len = short ((p.1 - 1) - p.0) in
    omega (arith, ap length (text_more smallest ps i d lt), length-append (front ++ gap) len, length-append front gap)

-- one range more, as a loop spells it
pub next_text : (smallest : ℕ) (ps : List (ℕ × ℕ)) (i : ℕ) (d : ℕ × ℕ) (above a b : ℕ) → i < length ps → above ≡ last_below smallest (take i ps)
    → a ≡ (above - (get_or ps i d).1) - 1 → b ≡ ((get_or ps i d).1 - 1) - (get_or ps i d).0 → text_below smallest (take (i + 1) ps) ≡ (text_below smallest (take i ps) ++ short a) ++ short b
next_text smallest ps i d above a b lt is gap len = grind (arith, nat_tests, text_more)

pub length-next_text : (front : List ℕ) (a b : ℕ) (all : List ℕ) → all ≡ (front ++ short a) ++ short b → length all ≡ length front + length (short a) + length (short b)
length-next_text front a b all is = omega (arith, ap length is, length-append (front ++ short a) (short b), length-append front (short a))

take_none : (n : ℕ) → take n no_pairs ≡ []
take_none zero = refl
take_none (suc n) = refl

take_of_take : (i n : ℕ) (ps : List (ℕ × ℕ)) → i ≤ n → take n ps ≡ take i ps ++ take (n - i) (drop i ps)
take_of_take zero n ps le = ap (λ (k : ℕ). take k ps) (omega arith)
take_of_take (suc i) n [] le = take_none n ∙ sym (take_none (n - suc i))
take_of_take (suc i) zero (p ∷ ps) le = absurd (omega arith)
take_of_take (suc i) (suc n) (p ∷ ps) le =
    ap (λ (qs : List (ℕ × ℕ)). p ∷ qs) (take_of_take i n ps (omega arith)) ∙ ap (λ (k : ℕ). p ∷ (take i ps ++ take k (drop i ps))) (omega arith)

-- more ranges take no less
pub text_grows : (smallest : ℕ) (ps : List (ℕ × ℕ)) (i n : ℕ) → i ≤ n → length (text_below smallest (take i ps)) ≤ length (text_below smallest (take n ps))
text_grows smallest ps i n le =
    let more = take (n - i) (drop i ps) in
    omega (
      arith,
      ap (λ (qs : List (ℕ × ℕ)). length (text_below smallest qs)) (take_of_take i n ps le),
      ap length (text-append smallest (take i ps) more),
      length-append (text_below smallest (take i ps)) (text_below (last_below smallest (take i ps)) more),
    )

-- where a range lies
pub lies_below : (smallest : ℕ) (ps : List (ℕ × ℕ)) (i : ℕ) (d : ℕ × ℕ) → AreApartBelow smallest ps → i < length ps → LiesBelow (last_below smallest (take i ps)) (get_or ps i d)
lies_below smallest [] i d h lt = absurd (omega arith)
lies_below smallest (p ∷ ps) zero d h lt = record { below = h.0; some = h.1 }
lies_below smallest (p ∷ ps) (suc i) d h lt = lies_below p.0 ps i d h.2 (omega arith)

pub last_le : (smallest : ℕ) (ps : List (ℕ × ℕ)) (i : ℕ) → AreApartBelow smallest ps → last_below smallest (take i ps) ≤ smallest
last_le smallest ps zero h = omega arith
last_le smallest [] (suc i) h = omega arith
last_le smallest (p ∷ ps) (suc i) h = omega (arith, last_le p.0 ps i h.2, h.0, h.1)

-- ---- the text of an ACK

length-gaps : (smallest : ℕ) (ps : List (ℕ × ℕ)) → length (gaps_below smallest ps) ≡ 2 * length ps
length-gaps smallest [] = refl
length-gaps smallest (p ∷ ps) = omega (arith, length-gaps p.0 ps)

regroup : (a b c d e f : List ℕ) → (a ++ (b ++ (c ++ (d ++ (e ++ []))))) ++ f ≡ a ++ (b ++ (c ++ ((d ++ (e ++ f)) ++ [])))
regroup a b c d e f = simp (append_assoc, append-nil)

-- what stands before the gap of the second range
abbrev pub first_text : ℕ → ℕ × ℕ → ℕ → List ℕ
first_text delay p others = short 2 ++ (short (p.1 - 1) ++ (short delay ++ (short others ++ (short ((p.1 - 1) - p.0) ++ []))))

pub ack_text : (delay : ℕ) (p : ℕ × ℕ) (ps : List (ℕ × ℕ)) → canonical (ack_of delay (p ∷ ps)) ≡ first_text delay p (length ps) ++ text_below p.0 ps
unfolding canonical
ack_text delay p ps = grind (arith, nat_tests, length-gaps, regroup)

pub length-first_text : (delay : ℕ) (p : ℕ × ℕ) (others : ℕ) → others < 64 → length (first_text delay p others) ≡ length (short (p.1 - 1)) + length (short ((p.1 - 1) - p.0)) + length (short delay) + 2
length-first_text delay p others few = grind (arith, nat_tests, short_byte, length-append)

-- ---- the ACK of the first ranges, as a call finds it

-- the highest range
abbrev pub top : List (ℕ × ℕ) → ℕ × ℕ
top pairs = get_or pairs 0 (0, 0)

pub ack_take : (delay : ℕ) (pairs others : List (ℕ × ℕ)) (k : ℕ) → 0 < length pairs → others ≡ drop 1 pairs → k ≤ length others
    → canonical (ack_of delay (take (k + 1) pairs)) ≡ first_text delay (top pairs) k ++ text_below (top pairs).0 (take k others)
ack_take delay pairs others k some is le = grind (arith, nat_tests, ack_text, length-take-le)

pub length-ack_take : (delay : ℕ) (pairs others : List (ℕ × ℕ)) (k : ℕ) → AreAckPairs pairs → others ≡ drop 1 pairs → k ≤ length others
    → length (canonical (ack_of delay (take (k + 1) pairs))) ≡ length (short ((top pairs).1 - 1)) + length (short (((top pairs).1 - 1) - (top pairs).0)) + length (short delay) + 2 + length (text_below (top pairs).0 (take k others))
length-ack_take delay pairs others k h is le =
    let few : k < 64 = omega (arith, h.few, ap length is, length-drop 1 pairs) in
    omega (arith, ap length (ack_take delay pairs others k h.some is le), length-append (first_text delay (top pairs) k) (text_below (top pairs).0 (take k others)), length-first_text delay (top pairs) k few)

-- ---- the ranges of an ACK

first_is : (s : ℕ) (p : ℕ × ℕ) → p.0 < p.1 → s ≡ p.1 - 1 → (s - ((p.1 - 1) - p.0), s) ≡ inclusive p
first_is s p some is = grind (arith, nat_tests)

ranges_below : (s : ℕ) (ps : List (ℕ × ℕ)) (p : ℕ × ℕ) → p.0 < p.1 → s ≡ p.1 - 1 → AreApartBelow p.0 ps
    → ack_ranges_of s (((p.1 - 1) - p.0) ∷ gaps_below p.0 ps) ≡ map inclusive (p ∷ ps)
ranges_below s [] p some is h = ap (λ (r : ℕ × ℕ). r ∷ []) (first_is s p some is)
ranges_below s (q ∷ qs) p some is h =
    let others = ranges_below ((s - ((p.1 - 1) - p.0)) - (((p.0 - q.1) - 1) + 2)) qs q h.1 (omega (arith, h.0, h.1)) h.2 in
    ap (λ (r : ℕ × ℕ). r ∷ ack_ranges_of ((s - ((p.1 - 1) - p.0)) - (((p.0 - q.1) - 1) + 2)) (((q.1 - 1) - q.0) ∷ gaps_below q.0 qs)) (first_is s p some is)
    ∙ ap (λ (rs : List (ℕ × ℕ)). inclusive p ∷ rs) others

-- the numbers that an ACK of ranges holds name those ranges
pub ranges_of_pairs : (delay : ℕ) (pairs : List (ℕ × ℕ)) → AreAckPairs pairs → ack_pairs (ack_of delay pairs) ≡ map inclusive pairs
ranges_of_pairs delay [] h = absurd (omega (arith, h.some))
ranges_of_pairs delay (p ∷ ps) h = ranges_below (p.1 - 1) ps p h.apart.1 refl h.apart.2

taken-gaps : (smallest : ℕ) (ps : List (ℕ × ℕ)) → AreApartBelow smallest ps → taken (gaps_below smallest ps) ≤ smallest
taken-gaps smallest [] h = omega arith
taken-gaps smallest (p ∷ ps) h = omega (arith, taken-gaps p.0 ps h.2, h.0, h.1)

gaps-small : (smallest : ℕ) (ps : List (ℕ × ℕ)) → smallest ≤ 2 ^ 62 → AreApartBelow smallest ps → AllByRecursion (λ v. v < 2 ^ 62) (gaps_below smallest ps)
gaps-small smallest [] le h = tt
gaps-small smallest (p ∷ ps) le h = (omega (arith, h.0, h.1), (omega (arith, h.0, h.1), gaps-small p.0 ps (omega (arith, h.0, h.1)) h.2))

-- an ACK of ranges can be written, and reads back
pub ack_fits : (delay : ℕ) (pairs : List (ℕ × ℕ)) → delay < 2 ^ 62 → AreAckPairs pairs → Fits (ack_of delay pairs)
ack_fits delay [] small h = absurd (omega (arith, h.some))
ack_fits delay (p ∷ ps) small h =
    let below : p.1 < 2 ^ 62 + 1 = h.apart.0 in
    let some : p.0 < p.1 = h.apart.1 in
    let few : length ps ≤ 31 = omega (arith, h.few) in (
      omega arith,
      omega arith,
      record {
        below = (omega arith, gaps-small p.0 ps (omega arith) h.apart.2);
        pairs = length ps;
        pairs_below = omega arith;
        odd = omega (arith, length-gaps p.0 ps);
      },
      omega (arith, taken-gaps p.0 ps h.apart.2),
      tt,
    )

fall_wider : (a b : ℕ) (rs : List (ℕ × ℕ)) → a ≤ b → FallBelow a rs → FallBelow b rs
fall_wider a b [] le h = tt
fall_wider a b (r ∷ rs) le h = (omega (arith, h.0), h.1, h.2)

-- the ranges of an ACK fall, and leave a number between any two
pub ranges_fall : (largest : ℕ) (vs : List ℕ) → taken vs ≤ largest + 1 → FallBelow (largest + 2) (ack_ranges_of largest vs)
ranges_fall largest [] h = tt
ranges_fall largest (len ∷ []) h = (omega arith, omega arith, tt)
ranges_fall largest (len ∷ gap ∷ []) h = (omega arith, omega arith, tt)
ranges_fall largest (len ∷ gap ∷ v ∷ more) h =
    let next : ℕ = (largest - len) - (gap + 2) in
    (omega arith, omega arith, fall_wider (next + 2) (largest - len) (ack_ranges_of next (v ∷ more)) (omega arith) (ranges_fall next (v ∷ more) (omega arith)))
