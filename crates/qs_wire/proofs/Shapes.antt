-- What is read of a frame is a text of it, and a text of a frame is read.
use Rattle.std.proofs.lemmas.Bool.Decides.{nat_tests}
use Rattle.std.proofs.Common.{◌≡◌, ℕ, ◌^◌, ◌<◌, List, ◌∷◌, ◌++◌, length, take, drop, Option, Some, None, Result, Ok, Err, refl, sym, ap, subst, ◌∙◌, append_assoc, arith}
use Rattle.std.proofs.lemmas.Bool.{eq-eqb}
use Rattle.std.proofs.lemmas.List.{take-append-drop, length-append, length-take-le, drop_at}
use Rattle.qs_wire.specs.declared.fault.FaultKind.{FaultKind}
use Rattle.qs_wire.specs.declared.frame_type.FrameType.{FrameType}
use Rattle.qs_wire.specs.declared.reading.Broken.{Broken}
use Rattle.qs_wire.specs.Varint.{short, short_len, varint_at}
use Rattle.qs_wire.specs.Layout.{FrameValue, layout, frame_of, type_of, number_of_type}
use Rattle.qs_wire.specs.Grammar.{ShapeText, FrameText, Meets}
use Rattle.qs_wire.specs.Reading.{◌>>=◌, fields_at, body_at, breach_of, typed, split_type, number_of_type_at, known_type, checked, frame_at}
use Rattle.qs_wire.specs.Bodies.{judged, judged_body_at}
use Rattle.qs_wire.proofs.Numbers.{IsBytes, IsBytes-drop, varint_takes, varint_again, short_spells, short_byte, length-short, short_positive, short_from_length, Spells-below}
use Rattle.qs_wire.proofs.FieldLaws.{bind_ok, ok_is, fields_take, fields_again}
use Rattle.qs_wire.proofs.Types.{type_again, type_below, number_back, meets_from_none, none_from_meets}

abbrev whole : {A : Type 0} → A → Result A Broken
whole x = Ok x

whole_is : {A : Type 0} (x y : A) → whole x ≡ whole y → x ≡ y
whole_is x y e = cc

pub typed_ok : {A : Type 0} (t : ℕ) (r : Result A FaultKind) (x : A) → typed t r ≡ Ok x → r ≡ Ok x
typed_ok t (Ok y) x e = cc
typed_ok t (Err k) x e = absurd cc

pub known_ok : (t : ℕ) (o : Option FrameType) (type : FrameType) → known_type t o ≡ Ok type → o ≡ Some type
known_ok t None type e = absurd cc
known_ok t (Some s) type e = cc

checked_ok : (t : ℕ) (x : FrameValue × List ℕ) (y : ℕ × FrameValue × List ℕ) (o : Option FaultKind) → checked t x o ≡ Ok y → (o ≡ None) × ((t, x.0, x.1) ≡ y)
checked_ok t x y None e = (refl, whole_is (t, x.0, x.1) y e)
checked_ok t x y (Some k) e = absurd cc

-- ---- the type

pub record TakesType (bytes : List ℕ) (t : ℕ) (after : List ℕ) : Type 0 where
  pub parts : bytes ≡ short t ++ after
  pub rest_fits : IsBytes after
  pub below : t < 2 ^ 62

split_ok : (o : Option (ℕ × ℕ)) (bytes : List ℕ) (x : ℕ × List ℕ) → split_type o bytes ≡ Ok x
    → (p : ℕ × ℕ) × (o ≡ Some p) × (p.1 ≡ short_len p.0) × ((p.0, drop p.1 bytes) ≡ x)
split_ok o bytes x e = grind (arith, nat_tests)

pub type_takes : (bytes : List ℕ) (x : ℕ × List ℕ) → IsBytes bytes → number_of_type_at bytes ≡ Ok x → TakesType bytes x.0 x.1
unfolding number_of_type_at
type_takes bytes x fits e =
    let s = split_ok (varint_at bytes) bytes x e in
    let p = s.0 in
    let t = varint_takes bytes p fits s.1 in
    let len : length (take p.1 bytes) ≡ short_len p.0 = length-take-le p.1 bytes t.within ∙ s.2 in
    let is_short = short_from_length p.0 (take p.1 bytes) t.spelled len in
    let made : TakesType bytes p.0 (drop p.1 bytes) = record {
      parts = sym (take-append-drop p.1 bytes) ∙ ap (λ (f : List ℕ). f ++ drop p.1 bytes) is_short;
      rest_fits = IsBytes-drop p.1 bytes fits;
      below = Spells-below p.0 (take p.1 bytes) t.spelled;
    } in
    subst (λ (y : ℕ × List ℕ). TakesType bytes y.0 y.1) s.3 made

pub type_at_again : (t : ℕ) (after : List ℕ) → t < 2 ^ 62 → number_of_type_at (short t ++ after) ≡ Ok (t, after)
unfolding number_of_type_at
type_at_again t after below =
    let at = varint_again t (short t) after (short_spells t below) in
    rw (at, eq-eqb _ _ (length-short t)) (ap (λ (r : List ℕ). Ok (t, r)) (drop_at (short t) after (length (short t)) refl))

-- a byte below 64 is the number of a type
pub byte_type : (b : ℕ) (bs : List ℕ) → b < 64 → number_of_type_at (b ∷ bs) ≡ Ok (b, bs)
byte_type b bs below = ap (λ (t : List ℕ). number_of_type_at (t ++ bs)) (sym (short_byte b below)) ∙ type_at_again b bs (omega arith)

-- ---- the frame

judge : (n : ℕ) (r : Result (FrameValue × List ℕ) FaultKind) → (typed n r >>= λ y. checked n y (breach_of y.0)) ≡ (typed n (r >>= λ y. judged y (breach_of y.0)) >>= λ y. whole (n, y.0, y.1))
judge n r = grind (arith, nat_tests)

-- a frame is its type and a body that was judged
pub frame_is : (bytes rest : List ℕ) (n : ℕ) (type : FrameType) (r : Result (FrameValue × List ℕ) FaultKind) → number_of_type_at bytes ≡ Ok (n, rest) → type_of n ≡ Some type
    → judged_body_at type rest ≡ r → frame_at bytes ≡ (typed n r >>= λ y. whole (n, y.0, y.1))
unfolding frame_at judged_body_at
frame_is bytes rest n type r front known body = rw (front, known) (judge n (body_at type rest) ∙ ap (λ (b : Result (FrameValue × List ℕ) FaultKind). typed n b >>= λ y. whole (n, y.0, y.1)) body)

pub record TakesFrame (bytes : List ℕ) (frame : FrameValue) (after : List ℕ) : Type 0 where
  pub text : List ℕ
  pub parts : bytes ≡ text ++ after
  pub shape : ShapeText frame text after
  pub rest_fits : IsBytes after
  pub positive : 0 < length text

-- the body of a type, behind its number
pub body_takes : (t : FrameType) (bytes rest : List ℕ) (x : FrameValue × List ℕ) → TakesType bytes (number_of_type t) rest → body_at t rest ≡ Ok x → (m : TakesFrame bytes x.0 x.1) × (m.shape.type ≡ t)
unfolding body_at
body_takes t bytes rest x front e =
    let a = bind_ok (fields_at (layout t) rest) (λ vs. Ok (frame_of t vs.0, vs.1)) x e in
    let f = fields_take (layout t) rest a.0 front.rest_fits a.1 in
    let number = short (number_of_type t) in
    let made : TakesFrame bytes (frame_of t a.0.0) a.0.1 = record {
      text = number ++ f.text;
      parts = front.parts ∙ ap (λ (r : List ℕ). number ++ r) f.parts ∙ sym (append_assoc number f.text a.0.1);
      shape = record { type = t; values = a.0.0; body = f.text; parts = refl; fields = f.spelled; is_frame = refl };
      rest_fits = f.rest_fits;
      positive = omega (arith, short_positive (number_of_type t), length-append number f.text);
    } in
    subst (λ (y : FrameValue × List ℕ). (m : TakesFrame bytes y.0 y.1) × (m.shape.type ≡ t)) (ok_is (frame_of t a.0.0, a.0.1) x a.2) (made, refl)

-- a frame with the number of its type
pub record TakesTyped (bytes : List ℕ) (t : ℕ) (frame : FrameValue) (after : List ℕ) : Type 0 where
  pub taken : TakesFrame bytes frame after
  pub numbered : number_of_type taken.shape.type ≡ t
  pub meets : Meets frame

pub frame_takes : (bytes : List ℕ) (x : ℕ × FrameValue × List ℕ) → IsBytes bytes → frame_at bytes ≡ Ok x → TakesTyped bytes x.0 x.1 x.2
unfolding frame_at
frame_takes bytes x fits e =
    let a = bind_ok (number_of_type_at bytes) (λ t. known_type t.0 (type_of t.0) >>= λ type. typed t.0 (body_at type t.1) >>= λ y. checked t.0 y (breach_of y.0)) x e in
    let n = a.0.0 in
    let b = bind_ok (known_type n (type_of n)) (λ type. typed n (body_at type a.0.1) >>= λ y. checked n y (breach_of y.0)) x a.2 in
    let d = bind_ok (typed n (body_at b.0 a.0.1)) (λ y. checked n y (breach_of y.0)) x b.2 in
    let checks = checked_ok n d.0 x (breach_of d.0.0) d.2 in
    let is_number = number_back n b.0 (known_ok n (type_of n) b.0 b.1) in
    let front = type_takes bytes a.0 fits a.1 in
    let made = body_takes b.0 bytes a.0.1 d.0 (subst (λ (k : ℕ). TakesType bytes k a.0.1) (sym is_number) front) (typed_ok n (body_at b.0 a.0.1) d.0 d.1) in
    let all : TakesTyped bytes n d.0.0 d.0.1 = record { taken = made.0; numbered = ap number_of_type made.1 ∙ is_number; meets = meets_from_none d.0.0 checks.0 } in
    subst (λ (y : ℕ × FrameValue × List ℕ). TakesTyped bytes y.0 y.1 y.2) checks.1 all

-- the shape of a frame is read, up to what its values have to meet
pub shape_again : (frame : FrameValue) (text after : List ℕ) → (s : ShapeText frame text after) → frame_at (text ++ after) ≡ checked (number_of_type s.type) (frame, after) (breach_of frame)
unfolding frame_at body_at
shape_again frame text after s = grind (arith, nat_tests, append_assoc, type_below, type_at_again, fields_again, type_again)

pub frame_again : (frame : FrameValue) (text after : List ℕ) → (h : FrameText frame text after) → frame_at (text ++ after) ≡ Ok (number_of_type h.0.type, frame, after)
frame_again frame text after h = shape_again frame text after h.0 ∙ ap (checked (number_of_type h.0.type) (frame, after)) (none_from_meets frame h.1)
