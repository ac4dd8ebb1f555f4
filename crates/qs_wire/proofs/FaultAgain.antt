-- A fault that stands in a payload is read.
use Rattle.std.proofs.lemmas.Bool.Decides.{nat_tests}
use Rattle.std.proofs.Common.{◌≡◌, ◌≢◌, ℕ, zero, suc, ◌+◌, ◌-◌, ◌^◌, ◌<◌, ◌≤◌, Bool, true, false, eqb, List, [], ◌∷◌, ◌++◌, length, take, drop, Option, Some, None, Result, Ok, Err, refl, sym, ap, subst, ◌∙◌, arith, inl, inr}
use Rattle.std.proofs.lemmas.Bool.{eqb-true}
use Rattle.std.proofs.lemmas.List.{length-append, take-append-drop, drop_at}
use Rattle.qs_wire.specs.declared.fault.FaultKind.{FaultKind}
use Rattle.qs_wire.specs.declared.fault.FaultKind.TheVariants.{Empty, LongType, UnknownType, Truncated, OffsetTooLarge, CountTooLarge, BelowZero, IdentifierLength}
use Rattle.qs_wire.specs.declared.fault.WireFault.{WireFault}
use Rattle.qs_wire.specs.declared.reading.Broken.{Broken}
use Rattle.qs_wire.specs.Faults.{code_of}
use Rattle.qs_wire.specs.Varint.{Spells, short, short_len, varint_at}
use Rattle.qs_wire.specs.Layout.{FrameValue, PlacedValue, layout, number_of_type}
use Rattle.qs_wire.specs.Grammar.{AreBytes, Begin, PayloadText, NoNumber, NoShape, FieldsBad, Breaks, BrokenShape, KnownType, FaultHere, FaultyText}
use Rattle.qs_wire.specs.Reading.{◌>>=◌, body_at, breach_of, typed, split_type, number_of_type_at, checked, frame_at, Reading, with_first, placed_at, fault_at, one_frame, frames_at, reading_from, reading_of}
use Rattle.qs_wire.proofs.Numbers.{IsBytes, IsBytes-drop, varint_takes, varint_again, short_from_length, short_least, short_positive}
use Rattle.qs_wire.proofs.Types.{type_again, type_below, none_above}
use Rattle.qs_wire.proofs.Shapes.{TakesType, type_at_again, body_takes, shape_again, frame_again}
use Rattle.qs_wire.proofs.FaultLaws.{body_fails, body_bad}
use Rattle.qs_wire.proofs.PayloadLaws.{text_positive, payload_again}

pub bytes_fit : (bytes : List ℕ) → AreBytes bytes → IsBytes bytes
bytes_fit [] h i = omega arith
bytes_fit (b ∷ bs) h zero = h.0
bytes_fit (b ∷ bs) h (suc i) = bytes_fit bs h.1 i

bytes_after : (bytes front after : List ℕ) → IsBytes bytes → bytes ≡ front ++ after → IsBytes after
bytes_after bytes front after fits e =
    let is : drop (length front) bytes ≡ after = ap (drop (length front)) e ∙ drop_at front after (length front) refl in
    subst (λ (t : List ℕ). IsBytes t) is (IsBytes-drop (length front) bytes fits)

abbrev broke : FaultKind → ℕ → Broken
broke k t = record { kind = k; frame_type = t }

at_type : (bytes : List ℕ) (b : Broken) → number_of_type_at bytes ≡ Err b → frame_at bytes ≡ Err b
unfolding frame_at
at_type bytes b e = rw e refl

-- ---- each kind

long_again : (t : ℕ) (bytes text after : List ℕ) → bytes ≡ text ++ after → Spells t text → text ≢ short t → number_of_type_at bytes ≡ Err (broke LongType t)
unfolding number_of_type_at
long_again t bytes text after parts spells differ =
    let at : varint_at bytes ≡ Some (t, length text) = ap varint_at parts ∙ varint_again t text after spells in
    let test : eqb (length text) (short_len t) ≡ false = by (eqb (length text) (short_len t)) refl in
    rw (at, test) refl
  where
    by : (b : Bool) → eqb (length text) (short_len t) ≡ b → b ≡ false
    by true is = absurd (differ (short_from_length t text spells (eqb-true _ _ is)))
    by false is = refl

none_again : (bytes : List ℕ) → IsBytes bytes → NoNumber bytes → number_of_type_at bytes ≡ Err (broke Truncated 0)
unfolding number_of_type_at
none_again bytes fits none = at (varint_at bytes) refl
  where
    at : (o : Option (ℕ × ℕ)) → varint_at bytes ≡ o → split_type o bytes ≡ Err (broke Truncated 0)
    at None e = refl
    at (Some x) e = absurd (none x.0 (take x.1 bytes) (drop x.1 bytes) (sym (take-append-drop x.1 bytes)) (varint_takes bytes x fits e).spelled)

unknown_again : (t : ℕ) (bytes after : List ℕ) → bytes ≡ short t ++ after → 0x1e < t → t < 2 ^ 62 → frame_at bytes ≡ Err (broke UnknownType t)
unfolding frame_at
unknown_again t bytes after parts above below =
    let first : number_of_type_at bytes ≡ Ok (t, after) = ap number_of_type_at parts ∙ type_at_again t after below in
    rw (first, none_above t above) refl

known_below : (t : ℕ) (bytes : List ℕ) → KnownType t bytes → t < 2 ^ 62
known_below t bytes k = omega (arith, k.numbered, type_below k.type)

at_body : (t : ℕ) (bytes : List ℕ) (k : KnownType t bytes) (r : Result (FrameValue × List ℕ) FaultKind) → body_at k.type k.after ≡ r
    → frame_at bytes ≡ (typed t r >>= λ x. checked t x (breach_of x.0))
unfolding frame_at
at_body t bytes k r e = grind (arith, nat_tests, type_at_again, known_below, type_again)

ends_again : (t : ℕ) (bytes : List ℕ) (k : KnownType t bytes) → IsBytes bytes → NoShape bytes → (FieldsBad (layout k.type) k.after → ⊥) → frame_at bytes ≡ Err (broke Truncated t)
ends_again t bytes k fits none good = at (body_at k.type k.after) refl
  where
    rest_fits : IsBytes k.after
    rest_fits = bytes_after bytes (short t) k.after fits k.parts

    at : (r : Result (FrameValue × List ℕ) FaultKind) → body_at k.type k.after ≡ r → frame_at bytes ≡ Err (broke Truncated t)
    at (Err j) e =
        elim (body_fails k.type k.after j rest_fits e) [
          | inl is ↦ at_body t bytes k (Err j) e ∙ ap (λ (i : FaultKind). Err (broke i t)) is
          | inr bad ↦ absurd (good bad.1)
        ]
    at (Ok x) e =
        let front : TakesType bytes (number_of_type k.type) k.after = record {
          parts = k.parts ∙ ap (λ (m : ℕ). short m ++ k.after) (sym k.numbered);
          rest_fits = rest_fits;
          below = type_below k.type;
        } in
        let made = body_takes k.type bytes k.after x front e in
        absurd (none x.0 made.0.text x.1 made.0.parts made.0.shape)

breach_again : (k : FaultKind) (frame : FrameValue) → Breaks k frame → breach_of frame ≡ Some k
breach_again k frame h = grind (arith, nat_tests)

broken_again : (k : FaultKind) (t : ℕ) (bytes : List ℕ) → BrokenShape k t bytes → frame_at bytes ≡ Err (broke k t)
broken_again k t bytes b =
    ap frame_at b.parts ∙ shape_again b.frame b.text b.after b.shape
    ∙ ap (checked (number_of_type b.shape.type) (b.frame, b.after)) (breach_again k b.frame b.broken)
    ∙ ap (λ (m : ℕ). Err (broke k m)) b.numbered

pub here_again : (k : FaultKind) (t : ℕ) (bytes : List ℕ) → IsBytes bytes → 0 < length bytes → FaultHere k t bytes → frame_at bytes ≡ Err (broke k t)
here_again Empty t bytes fits some h = absurd (omega (arith, ap length h.1))
here_again LongType t bytes fits some h = at_type bytes (broke LongType t) (long_again t bytes h.0 h.1 h.2 h.3 h.4)
here_again UnknownType t bytes fits some h = unknown_again t bytes h.0 h.1 h.2 h.3
here_again Truncated t bytes fits some h =
    elim h.1 [
      | inl no_type ↦ at_type bytes (broke Truncated t) (none_again bytes fits no_type.1 ∙ ap (λ (m : ℕ). Err (broke Truncated m)) (sym no_type.0))
      | inr body ↦ ends_again t bytes body.0 fits body.1 body.2
    ]
here_again OffsetTooLarge t bytes fits some h = broken_again OffsetTooLarge t bytes h
here_again CountTooLarge t bytes fits some h = broken_again CountTooLarge t bytes h
here_again BelowZero t bytes fits some h = broken_again BelowZero t bytes h
here_again IdentifierLength t bytes fits some h = at_body t bytes h.0 (Err IdentifierLength) (body_bad h.0.type h.0.after h.1)

-- ---- the whole payload

begin_bytes : (ps : List PlacedValue) (place : ℕ) (bytes rest : List ℕ) → IsBytes bytes → Begin place ps bytes rest → IsBytes rest
begin_bytes [] place bytes rest fits h = subst (λ (t : List ℕ). IsBytes t) h fits
begin_bytes (p ∷ ps) place bytes rest fits h = begin_bytes ps (place + length h.0) h.1 rest (bytes_after bytes h.0 h.1 fits h.2) h.6

begin_shorter : (ps : List PlacedValue) (place : ℕ) (bytes rest : List ℕ) → Begin place ps bytes rest → length rest ≤ length bytes
begin_shorter [] place bytes rest h = omega (arith, ap length h)
begin_shorter (p ∷ ps) place bytes rest h = omega (arith, begin_shorter ps (place + length h.0) h.1 rest h.6, ap length h.2, length-append h.0 h.1)

begin_then : (ps : List PlacedValue) (n place : ℕ) (bytes rest : List ℕ) (e : Broken) → length bytes ≤ n → 0 < length rest → Begin place ps bytes rest → frame_at rest ≡ Err e
    → frames_at n place bytes ≡ record { left = ps; fault = Some (fault_at (place + (length bytes - length rest)) e) }
unfolding frames_at
begin_then [] n place [] rest e le some h is = absurd (omega (arith, ap length h))
begin_then [] zero place (b ∷ bs) rest e le some h is = absurd (omega arith)
begin_then [] (suc n) place (b ∷ bs) rest e le some h is =
    let first : frame_at (b ∷ bs) ≡ Err e = ap frame_at h ∙ is in
    let here : place ≡ place + (length (b ∷ bs) - length rest) = omega (arith, ap length h) in
    ap (one_frame place (b ∷ bs) (frames_at n)) first ∙ ap (λ (q : ℕ). record { left = []; fault = Some (fault_at q e) }) here
begin_then (p ∷ ps) n place [] rest e le some h is = absurd (omega (arith, ap length h.2, length-append h.0 h.1, text_positive p.frame h.0 h.1 h.4))
begin_then (p ∷ ps) zero place (b ∷ bs) rest e le some h is = absurd (omega arith)
begin_then (p ∷ ps) (suc n) place (b ∷ bs) rest e le some h is =
    let text = h.0 in
    let after = h.1 in
    let len : length (b ∷ bs) ≡ length text + length after = ap length h.2 ∙ length-append text after in
    let some_text = text_positive p.frame text after h.4 in
    let shorter = begin_shorter ps (place + length text) after rest h.6 in
    let first : frame_at (b ∷ bs) ≡ Ok (number_of_type h.4.0.type, p.frame, after) = ap frame_at h.2 ∙ frame_again p.frame text after h.4 in
    let next : place + (length (b ∷ bs) - length after) ≡ place + length text = omega arith in
    let others = begin_then ps n (place + length text) after rest e (omega arith) some h.6 is in
    let at : (place + length text) + (length after - length rest) ≡ place + (length (b ∷ bs) - length rest) = omega arith in
    let same : placed_at place (number_of_type h.4.0.type) p.frame ≡ p = ap (λ (t : ℕ). placed_at place t p.frame) (sym h.5) ∙ ap (λ (q : ℕ). placed_at q p.frame_type p.frame) (sym h.3) in
    ap (one_frame place (b ∷ bs) (frames_at n)) first
    ∙ ap (λ (q : ℕ). with_first (placed_at place (number_of_type h.4.0.type) p.frame) (frames_at n q after)) next
    ∙ ap (with_first (placed_at place (number_of_type h.4.0.type) p.frame)) others
    ∙ ap (λ (q : ℕ). record { left = placed_at place (number_of_type h.4.0.type) p.frame ∷ ps; fault = Some (fault_at q e) }) at
    ∙ ap (λ (q : PlacedValue). record { left = q ∷ ps; fault = Some (fault_at (place + (length (b ∷ bs) - length rest)) e) }) same

spelled_positive : (v : ℕ) (text : List ℕ) → Spells v text → 0 < length text
spelled_positive v text h = omega (arith, short_least v text h, short_positive v)

shape_positive : (k : FaultKind) (t : ℕ) (bytes : List ℕ) → BrokenShape k t bytes → 0 < length bytes
shape_positive k t bytes b =
    omega (arith, ap length b.parts, length-append b.text b.after, ap length b.shape.parts, length-append (short (number_of_type b.shape.type)) b.shape.body, short_positive (number_of_type b.shape.type))

-- only an empty payload has a fault where nothing is left
here_empty : (k : FaultKind) (t : ℕ) (bytes : List ℕ) → length bytes ≡ 0 → FaultHere k t bytes → (k ≡ Empty) × (t ≡ 0)
here_empty k t bytes e h = grind (arith, nat_tests, length-append, spelled_positive, short_positive, shape_positive)

fault_is : (w : WireFault) (k : FaultKind) (p t : ℕ) → w.kind ≡ k → w.place ≡ p → w.frame_type ≡ t → w.code ≡ code_of w.kind → fault_at p (broke k t) ≡ w
fault_is w k p t kind place type code = grind (arith, nat_tests)

-- a payload that has a fault is read up to that fault
pub fault_read : (payload : List ℕ) (ps : List PlacedValue) (w : WireFault) → IsBytes payload → FaultyText ps w payload → reading_of payload ≡ record { left = ps; fault = Some w }
unfolding reading_from
fault_read [] [] w fits h =
    let none : length h.rest ≡ 0 = omega (arith, begin_shorter [] 0 [] h.rest h.begins) in
    let e = here_empty w.kind w.frame_type h.rest none h.here in
    ap (λ (f : WireFault). record { left = []; fault = Some f }) (fault_is w Empty 0 0 e.0 (omega (arith, h.place)) e.1 h.code)
fault_read [] (p ∷ ps) w fits h = let b = h.begins in absurd (omega (arith, ap length b.2, length-append b.0 b.1, text_positive p.frame b.0 b.1 b.4))
fault_read (b ∷ bs) ps w fits h =
    let some : 0 < length h.rest = left h.rest h.some in
    let is = here_again w.kind w.frame_type h.rest (begin_bytes ps 0 (b ∷ bs) h.rest fits h.begins) some h.here in
    begin_then ps (length (b ∷ bs)) 0 (b ∷ bs) h.rest (broke w.kind w.frame_type) (omega arith) some h.begins is
    ∙ ap (λ (f : WireFault). record { left = ps; fault = Some f }) (fault_is w w.kind (0 + (length (b ∷ bs) - length h.rest)) w.frame_type refl (omega (arith, h.place)) refl h.code)
  where
    left : (rest : List ℕ) → (rest ≡ [] → b ∷ bs ≡ []) → 0 < length rest
    left [] f = let e = f refl in absurd cc
    left (r ∷ rs) f = omega arith

some_is : (a b : WireFault) → Some a ≡ Some b → a ≡ b
some_is a b e = cc

pub one_fault : (payload : List ℕ) (ps qs : List PlacedValue) (w v : WireFault) → IsBytes payload → FaultyText ps w payload → FaultyText qs v payload → (ps ≡ qs) × (w ≡ v)
one_fault payload ps qs w v fits h k =
    let e : record { left = ps; fault = Some w } ≡ record { left = qs; fault = Some v } = sym (fault_read payload ps w fits h) ∙ fault_read payload qs v fits k in
    let f : Some w ≡ Some v = ap (λ (r : Reading). r.fault) e in
    (ap (λ (r : Reading). r.left) e, some_is w v f)

pub no_text : (payload : List ℕ) (fs : List FrameValue) (ps : List PlacedValue) (w : WireFault) → IsBytes payload → FaultyText ps w payload → PayloadText fs payload → ⊥
no_text payload fs ps w fits h k =
    let e : (reading_of payload).fault ≡ Some w = ap (λ (r : Reading). r.fault) (fault_read payload ps w fits h) in
    let n = (payload_again fs payload k).1 in
    absurd cc
