-- Where no frame is read, the fault is the one that stands there.
use Rattle.std.proofs.lemmas.Bool.Decides.{nat_tests}
use Rattle.std.proofs.Common.{◌≡◌, ℕ, zero, suc, ◌<◌, Bool, true, false, cond, eqb, leb, ◌&&◌, List, [], ◌∷◌, length, take, drop, Option, Some, None, Result, Ok, Err, refl, sym, ap, subst, ◌∙◌, arith, ◌⊎◌, inl, inr}
use Rattle.std.proofs.lemmas.Bool.{eqb-false}
use Rattle.std.proofs.lemmas.List.{take-append-drop, length-take-le}
use Rattle.qs_wire.specs.declared.fault.FaultKind.{FaultKind}
use Rattle.qs_wire.specs.declared.fault.FaultKind.TheVariants.{LongType, UnknownType, Truncated, OffsetTooLarge, CountTooLarge, BelowZero, IdentifierLength}
use Rattle.qs_wire.specs.declared.frame_type.FrameType.{FrameType}
use Rattle.qs_wire.specs.declared.reading.Broken.{Broken}
use Rattle.qs_wire.specs.Varint.{short_len, varint_at}
use Rattle.qs_wire.specs.Layout.{FrameValue, Field, number, number_if, counted, counted_if, plain, identifier, ack_ranges, ecn_if, layout, type_of, number_of_type}
use Rattle.qs_wire.specs.Grammar.{NoNumber, NoShape, NoFrame, FieldBad, FieldsBad, Breaks, BrokenShape, KnownType, FaultHere}
use Rattle.qs_wire.specs.Reading.{◌>>=◌, number_at, plain_at, counted_at, identifier_at, numbers_at, ranges_at, counts_at, field_at, fields_at, body_at, breach_of, typed, split_type, number_of_type_at, known_type, checked, frame_at}
use Rattle.qs_wire.proofs.Numbers.{IsBytes, varint_takes, varint_again, length-short}
use Rattle.qs_wire.proofs.Types.{number_back, by_test, above_all}
use Rattle.qs_wire.proofs.FieldLaws.{field_takes, field_again}
use Rattle.qs_wire.proofs.Shapes.{TakesType, type_takes, body_takes, shape_again, frame_again, typed_ok, known_ok}

-- a chain fails in its first step, or after it
bind_err : {A B E : Type 0} (r : Result A E) (f : A → Result B E) (d : E) → (r >>= f) ≡ Err d → (r ≡ Err d) ⊎ ((x : A) × (r ≡ Ok x) × (f x ≡ Err d))
bind_err (Ok x) f d e = inr (x, refl, e)
bind_err (Err c) f d e = let same : c ≡ d = cc in inl (ap Err same)

-- ---- a field fails only where the bytes end

number_fails : (bytes : List ℕ) (k : FaultKind) → number_at bytes ≡ Err k → k ≡ Truncated
unfolding number_at
number_fails bytes k e = grind (arith, nat_tests)

guard_err : {A : Type 0} (b : Bool) (k d : FaultKind) (x : A) → cond b (Err k) (Ok x) ≡ Err d → d ≡ k
guard_err true k d x e = cc
guard_err false k d x e = absurd cc

plain_fails : (n : ℕ) (bytes : List ℕ) (k : FaultKind) → plain_at n bytes ≡ Err k → k ≡ Truncated
unfolding plain_at
plain_fails n bytes k e = guard_err _ Truncated k _ e

counted_fails : (bytes : List ℕ) (k : FaultKind) → counted_at bytes ≡ Err k → k ≡ Truncated
unfolding counted_at
counted_fails bytes k e = grind (arith, nat_tests, bind_err, number_fails, plain_fails)

numbers_fail : (n : ℕ) (bytes : List ℕ) (k : FaultKind) → numbers_at n bytes ≡ Err k → k ≡ Truncated
unfolding numbers_at
numbers_fail zero bytes k e = absurd cc
numbers_fail (suc n) bytes k e =
    elim (bind_err (number_at bytes) (λ v. numbers_at n v.1 >>= λ vs. Ok (v.0 ∷ vs.0, vs.1)) k e) [
      | inl first ↦ number_fails bytes k first
      | inr later ↦ elim (bind_err (numbers_at n later.0.1) (λ vs. Ok (later.0.0 ∷ vs.0, vs.1)) k later.2) [
        | inl second ↦ numbers_fail n later.0.1 k second
        | inr end ↦ absurd cc
      ]
    ]

ranges_fail : (bytes : List ℕ) (k : FaultKind) → ranges_at bytes ≡ Err k → k ≡ Truncated
unfolding ranges_at
ranges_fail bytes k e = grind (arith, nat_tests, bind_err, number_fails, numbers_fail)

counts_fail : (bytes : List ℕ) (k : FaultKind) → counts_at bytes ≡ Err k → k ≡ Truncated
unfolding counts_at
counts_fail bytes k e = grind (arith, nat_tests, bind_err, number_fails)

-- why the reading of fields fails: the bytes end, or an identifier has a bad length
abbrev pub Fails : FaultKind → Type 0 → Type 0
Fails k bad = (k ≡ Truncated) ⊎ ((k ≡ IdentifierLength) × bad)

-- a test that let nothing through
not_through : {A : Type 0} (b : Bool) (r : Result A FaultKind) (d k : FaultKind) → cond b r (Err d) ≡ Err k → ((b ≡ true) × (r ≡ Err k)) ⊎ ((b ≡ false) × (d ≡ k))
not_through true r d k e = inl (refl, e)
not_through false r d k e = inr (refl, cc)

bad_length : (n : ℕ) → leb 1 n && leb n 20 ≡ false → (n ≡ 0) ⊎ (20 < n)
bad_length n e = grind (arith, nat_tests)

identifier_fails : (bytes : List ℕ) (k : FaultKind) → identifier_at bytes ≡ Err k → Fails k (FieldBad identifier bytes)
unfolding identifier_at
identifier_fails bytes k e = grind (arith, nat_tests, not_through, leb, plain_fails, bad_length)

field_fails : (f : Field) (bytes : List ℕ) (k : FaultKind) → field_at f bytes ≡ Err k → Fails k (FieldBad f bytes)
field_fails number bytes k e = inl (number_fails bytes k e)
field_fails (number_if true) bytes k e = inl (number_fails bytes k e)
field_fails (number_if false) bytes k e = absurd cc
field_fails counted bytes k e = inl (counted_fails bytes k e)
field_fails (counted_if true) bytes k e = inl (counted_fails bytes k e)
field_fails (counted_if false) bytes k e = absurd cc
field_fails (plain n) bytes k e = inl (plain_fails n bytes k e)
field_fails identifier bytes k e = identifier_fails bytes k e
field_fails ack_ranges bytes k e = inl (ranges_fail bytes k e)
field_fails (ecn_if true) bytes k e = inl (counts_fail bytes k e)
field_fails (ecn_if false) bytes k e = absurd cc

fields_fail : (fs : List Field) (bytes : List ℕ) (k : FaultKind) → IsBytes bytes → fields_at fs bytes ≡ Err k → Fails k (FieldsBad fs bytes)
fields_fail [] bytes k fits e = absurd cc
fields_fail (f ∷ fs) bytes k fits e =
    elim (bind_err (field_at f bytes) (λ v. fields_at fs v.1 >>= λ vs. Ok ((v.0, vs.0), vs.1)) k e) [
      | inl first ↦ elim (field_fails f bytes k first) [
        | inl ends ↦ inl ends
        | inr bad ↦ inr (bad.0, inl bad.1)
      ]
      | inr later ↦ elim (bind_err (fields_at fs later.0.1) (λ vs. Ok ((later.0.0, vs.0), vs.1)) k later.2) [
        | inl second ↦
            let t = field_takes f bytes later.0 fits later.1 in
            elim (fields_fail fs later.0.1 k t.rest_fits second) [
              | inl ends ↦ inl ends
              | inr bad ↦ inr (bad.0, inr (later.0.0, t.text, later.0.1, t.parts, t.spelled, bad.1))
            ]
        | inr end ↦ absurd cc
      ]
    ]

-- a bad length is found
identifier_bad : (bytes : List ℕ) → FieldBad identifier bytes → identifier_at bytes ≡ Err IdentifierLength
unfolding identifier_at
identifier_bad bytes h = grind (arith, nat_tests)

field_bad : (f : Field) (bytes : List ℕ) → FieldBad f bytes → field_at f bytes ≡ Err IdentifierLength
field_bad identifier bytes h = identifier_bad bytes h
field_bad _ bytes h = absurd h

pub fields_bad : (fs : List Field) (bytes : List ℕ) → FieldsBad fs bytes → fields_at fs bytes ≡ Err IdentifierLength
fields_bad [] bytes h = absurd h
fields_bad (f ∷ fs) bytes (inl here) = rw (field_bad f bytes here) refl
fields_bad (f ∷ fs) bytes (inr h) =
    let first : field_at f bytes ≡ Ok (h.0, h.2) = ap (field_at f) h.3 ∙ field_again f h.0 h.1 h.2 h.4 in
    rw (first, fields_bad fs h.2 h.5) refl

pub body_bad : (t : FrameType) (bytes : List ℕ) → FieldsBad (layout t) bytes → body_at t bytes ≡ Err IdentifierLength
unfolding body_at
body_bad t bytes h = rw (fields_bad (layout t) bytes h) refl

-- ---- the steps of a frame

typed_err : {A : Type 0} (t : ℕ) (r : Result A FaultKind) (b : Broken) → typed t r ≡ Err b → (r ≡ Err b.kind) × (b.frame_type ≡ t)
typed_err t r b e = grind (arith, nat_tests)

known_err : (t : ℕ) (o : Option FrameType) (b : Broken) → known_type t o ≡ Err b → (o ≡ None) × (b ≡ record { kind = UnknownType; frame_type = t })
known_err t None b e = (refl, cc)
known_err t (Some s) b e = absurd cc

pub checked_err : (t : ℕ) (x : FrameValue × List ℕ) (o : Option FaultKind) (b : Broken) → checked t x o ≡ Err b → (o ≡ Some b.kind) × (b.frame_type ≡ t)
checked_err t x o b e = grind (arith, nat_tests)

-- ---- what is broken is a fault

no_frame : (bytes : List ℕ) (b : Broken) → frame_at bytes ≡ Err b → NoFrame bytes
no_frame bytes b e = λ frame text after parts h. let at : frame_at bytes ≡ Ok (number_of_type h.0.type, frame, after) = ap frame_at parts ∙ frame_again frame text after h in absurd cc

-- a rule of values, and no other kind of fault
abbrev pub IsRule : FaultKind → Type 0
IsRule OffsetTooLarge = Unit {0}
IsRule CountTooLarge = Unit {0}
IsRule BelowZero = Unit {0}
IsRule _ = ⊥

breaks : (frame : FrameValue) (k : FaultKind) → breach_of frame ≡ Some k → Breaks k frame × IsRule k
breaks frame k e = grind (arith, nat_tests)

here_from_rule : (k : FaultKind) (t : ℕ) (bytes : List ℕ) → IsRule k → BrokenShape k t bytes → FaultHere k t bytes
here_from_rule OffsetTooLarge t bytes r h = h
here_from_rule CountTooLarge t bytes r h = h
here_from_rule BelowZero t bytes r h = h
here_from_rule _ t bytes r h = absurd r

-- a shape is read, or its values break a rule
no_shape : (bytes : List ℕ) (b : Broken) → frame_at bytes ≡ Err b → b.kind ≡ Truncated → NoShape bytes
no_shape bytes b e is = λ frame text after parts s.
    let at : frame_at bytes ≡ checked (number_of_type s.type) (frame, after) (breach_of frame) = ap frame_at parts ∙ shape_again frame text after s in
    let c = checked_err (number_of_type s.type) (frame, after) (breach_of frame) b (sym at ∙ e) in
    let k = breaks frame b.kind c.0 in
    let clash : ⊥ = subst (λ (j : FaultKind). IsRule j) is k.1 in
    absurd clash

-- the fault of a type
type_fault : (o : Option (ℕ × ℕ)) (bytes : List ℕ) (b : Broken) → IsBytes bytes → 0 < length bytes → varint_at bytes ≡ o → split_type o bytes ≡ Err b → FaultHere b.kind b.frame_type bytes
type_fault None bytes b fits some at e =
    let is : record { kind = Truncated; frame_type = 0 } ≡ b = cc in
    let none : NoNumber bytes = λ v text after parts h. let again : varint_at bytes ≡ Some (v, length text) = ap varint_at parts ∙ varint_again v text after h in absurd cc in
    subst (λ (x : Broken). FaultHere x.kind x.frame_type bytes) is (some, inl (refl, none))
type_fault (Some p) bytes b fits some at e =
    by_test (eqb p.1 (short_len p.0)) _ _ (Err b) _ e (λ _ f. absurd cc) (λ differ f.
    let t = varint_takes bytes p fits at in
    let is : record { kind = LongType; frame_type = p.0 } ≡ b = cc in
    let len : length (take p.1 bytes) ≡ p.1 = length-take-le p.1 bytes t.within in
    subst (λ (x : Broken). FaultHere x.kind x.frame_type bytes) is
    (take p.1 bytes, drop p.1 bytes, sym (take-append-drop p.1 bytes), t.spelled, λ same. eqb-false _ _ differ (sym len ∙ ap length same ∙ length-short p.0)))

pub body_fails : (t : FrameType) (bytes : List ℕ) (k : FaultKind) → IsBytes bytes → body_at t bytes ≡ Err k → Fails k (FieldsBad (layout t) bytes)
unfolding body_at
body_fails t bytes k fits e = grind (arith, nat_tests, bind_err, fields_fail)

-- a field ends too soon, or an identifier has a bad length
body_fault : (bytes : List ℕ) (b : Broken) (n : ℕ) (rest : List ℕ) (type : FrameType) → 0 < length bytes → frame_at bytes ≡ Err b → TakesType bytes n rest
    → number_of_type type ≡ n → body_at type rest ≡ Err b.kind → b.frame_type ≡ n → FaultHere b.kind b.frame_type bytes
body_fault bytes b n rest type some whole front numbered ends is_type =
    let known : KnownType n bytes = record { type = type; after = rest; parts = front.parts; numbered = numbered } in
    elim (body_fails type rest b.kind front.rest_fits ends) [
      | inl is ↦
          let good : FieldsBad (layout type) rest → ⊥ = λ bad. let other = body_bad type rest bad in absurd cc in
          subst (λ (j : FaultKind). FaultHere j b.frame_type bytes) (sym is)
          (subst (λ (m : ℕ). FaultHere Truncated m bytes) (sym is_type) (some, inr (known, no_shape bytes b whole is, good)))
      | inr bad ↦
          subst (λ (j : FaultKind). FaultHere j b.frame_type bytes) (sym bad.0)
          (subst (λ (m : ℕ). FaultHere IdentifierLength m bytes) (sym is_type) (known, bad.1))
    ]

-- behind a type that is there: an unknown one, a field that ends too soon, or values that break a rule
behind_type : (bytes : List ℕ) (b : Broken) (n : ℕ) (rest : List ℕ) → IsBytes bytes → 0 < length bytes → frame_at bytes ≡ Err b → TakesType bytes n rest
    → (known_type n (type_of n) >>= λ type. typed n (body_at type rest) >>= λ x. checked n x (breach_of x.0)) ≡ Err b
    → FaultHere b.kind b.frame_type bytes
behind_type bytes b n rest fits some whole front e =
    elim (bind_err (known_type n (type_of n)) (λ type. typed n (body_at type rest) >>= λ x. checked n x (breach_of x.0)) b e) [
      | inl unknown ↦
          let u = known_err n (type_of n) b unknown in
          subst (λ (x : Broken). FaultHere x.kind x.frame_type bytes) (sym u.1) (rest, front.parts, above_all n u.0, front.below)
      | inr k ↦
          let type = k.0 in
          let numbered = number_back n type (known_ok n (type_of n) type k.1) in
          elim (bind_err (typed n (body_at type rest)) (λ x. checked n x (breach_of x.0)) b k.2) [
            | inl ends ↦
                let t = typed_err n (body_at type rest) b ends in
                body_fault bytes b n rest type some whole front numbered t.0 t.1
            | inr done ↦
                let x = done.0 in
                let c = checked_err n x (breach_of x.0) b done.2 in
                let rule = breaks x.0 b.kind c.0 in
                let made = body_takes type bytes rest x (subst (λ (m : ℕ). TakesType bytes m rest) (sym numbered) front) (typed_ok n (body_at type rest) x done.1) in
                let all : BrokenShape b.kind n bytes = record {
                  frame = x.0;
                  text = made.0.text;
                  after = x.1;
                  parts = made.0.parts;
                  shape = made.0.shape;
                  numbered = ap number_of_type made.1 ∙ numbered;
                  broken = rule.0;
                } in
                subst (λ (m : ℕ). FaultHere b.kind m bytes) (sym c.1) (here_from_rule b.kind n bytes rule.1 all)
          ]
    ]

pub fault_here : (bytes : List ℕ) (b : Broken) → IsBytes bytes → 0 < length bytes → frame_at bytes ≡ Err b → FaultHere b.kind b.frame_type bytes × NoFrame bytes
unfolding frame_at number_of_type_at
fault_here bytes b fits some e = (
  elim (bind_err (number_of_type_at bytes) (λ t. known_type t.0 (type_of t.0) >>= λ type. typed t.0 (body_at type t.1) >>= λ x. checked t.0 x (breach_of x.0)) b e) [
    | inl first ↦ type_fault (varint_at bytes) bytes b fits some refl first
    | inr a ↦ behind_type bytes b a.0.0 a.0.1 fits some e (type_takes bytes a.0 fits a.1) a.2
  ],
  no_frame bytes b e,
)
