-- The frames of a payload: the reading of its bytes, frame by frame.
use Rattle.std.proofs.lemmas.Bool.Decides.{nat_tests}
use Rattle.std.proofs.Common.{◌≡◌, ℕ, zero, suc, ◌+◌, ◌-◌, ◌<◌, ◌≤◌, List, [], ◌∷◌, length, Some, None, Result, Ok, Err, refl, sym, ap, ◌∙◌, arith}
use Rattle.std.proofs.lemmas.List.{length-append}
use Rattle.qs_wire.specs.declared.fault.FaultKind.TheVariants.{Empty}
use Rattle.qs_wire.specs.declared.fault.WireFault.{WireFault}
use Rattle.qs_wire.specs.declared.reading.Broken.{Broken}
use Rattle.qs_wire.specs.Layout.{FrameValue, PlacedValue, stream}
use Rattle.qs_wire.specs.Reading.{Reading, NoStreamNext, with_first, placed_at, fault_at, one_frame, frame_at, frames_at, reading_from}
use Rattle.qs_wire.specs.Bodies.{NoStreamAt}
use Rattle.qs_wire.proofs.Numbers.{IsBytes}
use Rattle.qs_wire.proofs.Shapes.{frame_takes}

-- a frame is at least one byte
pub is_shorter : (bytes : List ℕ) (x : ℕ × FrameValue × List ℕ) → IsBytes bytes → frame_at bytes ≡ Ok x → length x.2 < length bytes
is_shorter bytes x fits e =
    let t = (frame_takes bytes x fits e).taken in
    omega (arith, ap length t.parts, length-append t.text x.2, t.positive)

-- the bound on the number of frames does not matter
frames_at-enough : (n m place : ℕ) (bytes : List ℕ) → IsBytes bytes → length bytes ≤ n → length bytes ≤ m → frames_at n place bytes ≡ frames_at m place bytes
unfolding frames_at
frames_at-enough n m place [] fits hn hm = refl
frames_at-enough zero m place (b ∷ bs) fits hn hm = absurd (omega arith)
frames_at-enough (suc n) zero place (b ∷ bs) fits hn hm = absurd (omega arith)
frames_at-enough (suc n) (suc m) place (b ∷ bs) fits hn hm =
    at (frame_at (b ∷ bs)) refl (λ x fewer rest_fits. frames_at-enough n m (place + (length (b ∷ bs) - length x.2)) x.2 rest_fits (omega arith) (omega arith))
  where
    at : (r : Result (ℕ × FrameValue × List ℕ) Broken) → frame_at (b ∷ bs) ≡ r
        → ((x : ℕ × FrameValue × List ℕ) → length x.2 < length (b ∷ bs) → IsBytes x.2 → frames_at n (place + (length (b ∷ bs) - length x.2)) x.2 ≡ frames_at m (place + (length (b ∷ bs) - length x.2)) x.2)
        → one_frame place (b ∷ bs) (frames_at n) r ≡ one_frame place (b ∷ bs) (frames_at m) r
    at (Err e) is more = refl
    at (Ok x) is more =
        let t = (frame_takes (b ∷ bs) x fits is).taken in
        ap (with_first (placed_at place x.0 x.1)) (more x (is_shorter (b ∷ bs) x fits is) t.rest_fits)

-- past the first frame, a reading is that of its bytes
reading_from-is : (place : ℕ) (bytes : List ℕ) → 0 < place → reading_from place bytes ≡ frames_at (length bytes) place bytes
unfolding reading_from
reading_from-is zero bytes lt = absurd (omega arith)
reading_from-is (suc place) bytes lt = refl

reading_from-some : (place : ℕ) (bytes : List ℕ) → 0 < length bytes → reading_from place bytes ≡ frames_at (length bytes) place bytes
unfolding reading_from
reading_from-some place bytes lt = grind (arith, nat_tests)

-- one frame is read, and the others follow it
pub one_more : (place : ℕ) (bytes : List ℕ) (x : ℕ × FrameValue × List ℕ) → IsBytes bytes → frame_at bytes ≡ Ok x
    → reading_from place bytes ≡ with_first (placed_at place x.0 x.1) (reading_from (place + (length bytes - length x.2)) x.2)
unfolding frames_at
one_more place [] x fits e = absurd (omega (arith, is_shorter [] x fits e))
one_more place (b ∷ bs) x fits e =
    let fewer = is_shorter (b ∷ bs) x fits e in
    let t = (frame_takes (b ∷ bs) x fits e).taken in
    let next = place + (length (b ∷ bs) - length x.2) in
    let first : reading_from place (b ∷ bs) ≡ with_first (placed_at place x.0 x.1) (frames_at (length bs) next x.2) = reading_from-some place (b ∷ bs) (omega arith) ∙ ap (one_frame place (b ∷ bs) (frames_at (length bs))) e in
    let more : frames_at (length bs) next x.2 ≡ reading_from next x.2 = frames_at-enough (length bs) (length x.2) next x.2 t.rest_fits (omega arith) (omega arith) ∙ sym (reading_from-is next x.2 (omega arith)) in
    first ∙ ap (with_first (placed_at place x.0 x.1)) more

-- a fault ends the reading
abbrev pub stopped : WireFault → Reading
stopped fault = record { left = []; fault = Some fault }

pub at_fault : (place : ℕ) (bytes : List ℕ) (e : Broken) → 0 < length bytes → frame_at bytes ≡ Err e → reading_from place bytes ≡ stopped (fault_at place e)
unfolding frames_at
at_fault place [] e some is = absurd (omega arith)
at_fault place (b ∷ bs) e some is = reading_from-some place (b ∷ bs) some ∙ ap (one_frame place (b ∷ bs) (frames_at (length bs))) is

-- where no STREAM frame begins the bytes, none is next
pub none_next : (place : ℕ) (bytes : List ℕ) → NoStreamAt bytes → NoStreamNext (reading_from place bytes)
unfolding reading_from frames_at
none_next zero [] none spot type id offset fin sent more e = absurd (cc (ap (λ (r : Reading). r.left) e))
none_next (suc place) [] none spot type id offset fin sent more e = absurd (cc (ap (λ (r : Reading). r.left) e))
none_next place (b ∷ bs) none spot type id offset fin sent more e = at (frame_at (b ∷ bs)) refl (ap (λ (r : Reading). r.left) (sym (reading_from-some place (b ∷ bs) (omega arith)) ∙ e))
  where
    at : (r : Result (ℕ × FrameValue × List ℕ) Broken) → frame_at (b ∷ bs) ≡ r
        → (one_frame place (b ∷ bs) (frames_at (length bs)) r).left ≡ placed_at spot type (stream id offset fin sent) ∷ more.left → ⊥
    at (Err b) is e = absurd cc
    at (Ok x) is e =
        let first : placed_at place x.0 x.1 ≡ placed_at spot type (stream id offset fin sent) = cc in
        none x.0 id offset fin sent x.2 (is ∙ ap (λ (f : FrameValue). Ok (x.0, f, x.2)) (ap (λ (p : PlacedValue). p.frame) first))

pub at_end : (place : ℕ) (bytes : List ℕ) → 0 < place → length bytes ≡ 0 → reading_from place bytes ≡ record { left = []; fault = None }
unfolding frames_at
at_end place [] lt e = reading_from-is place [] lt
at_end place (b ∷ bs) lt e = absurd (omega arith)

pub at_start : (place : ℕ) (bytes : List ℕ) → place ≤ 0 → length bytes ≡ 0 → reading_from place bytes ≡ stopped (fault_at place (record { kind = Empty; frame_type = 0 }))
unfolding reading_from
at_start place bytes le e = grind (arith, nat_tests)
