-- The frame that a payload has at a place, as C is told it.
use Rattle.std.proofs.Common.{◌≡◌, ℕ, ◌+◌, ◌-◌, ◌≤◌, Bool, true, List, [], ◌∷◌, length, take, drop, Option, Some, None, Result, Ok, Err, refl, sym, ap, subst, ◌∙◌, arith}
use Rattle.std.specs.Prelude.{MatchBool}
use Rattle.std.proofs.lemmas.List.{length-drop, take_all}
use Rattle.qs_wire.specs.declared.fault.WireFault.{WireFault}
use Rattle.qs_wire.specs.Layout.{FrameValue, PlacedValue}
use Rattle.qs_wire.specs.Reading.{Reading, reading_from, reading_of, with_first, placed_at, frame_at}
use Rattle.qs_wire.proofs.Numbers.{IsBytes}
use Rattle.qs_wire.proofs.Payloads.{one_more, is_shorter, at_fault, at_start}
use Rattle.qs_c.specs.declared.frame.GvFrame.{GvFrame}
use Rattle.qs_c.specs.declared.frame.GvFault.{GvFault}
use Rattle.qs_c.specs.Frames.{numbers_told, Has, part_of, fault_of, Walk, MovesOn, NextFrame}
use Rattle.qs_c.specs.Places.{IsNext, fault_from, lead_of, laid_of, Sizes, sizes_of}
use Rattle.qs_c.proofs.Laid.{IsLaid, frame_laid, drops}

by_result : {A E : Type 0} (r : Result A E) (P : Type 0) → ((x : A) → r ≡ Ok x → P) → ((e : E) → r ≡ Err e → P) → P
by_result (Ok x) P good bad = good x refl
by_result (Err e) P good bad = bad e refl

same_first : (p q : PlacedValue) (r s : Reading) → with_first p r ≡ with_first q s → p ≡ q
same_first p q r s e = let lists : p ∷ r.left ≡ q ∷ s.left = ap (λ (x : Reading). x.left) e in cc

none_first : (p : PlacedValue) (r s : Reading) (P : Type 0) → s.left ≡ [] → s ≡ with_first p r → P
none_first p r s P none e = let lists : p ∷ r.left ≡ [] = ap (λ (x : Reading). x.left) (sym e) ∙ none in absurd cc

parts_are : (p q : PlacedValue) → p ≡ q → (p.frame_type ≡ q.frame_type) × (p.frame ≡ q.frame)
parts_are p q e = (ap (λ (x : PlacedValue). x.frame_type) e, ap (λ (x : PlacedValue). x.frame) e)

-- the first frame that is read stands at the front
first_read : (bytes : List ℕ) (p : PlacedValue) (r : Reading) → IsBytes bytes → reading_of bytes ≡ with_first p r → (rest : List ℕ) × (frame_at bytes ≡ Ok (p.frame_type, p.frame, rest))
first_read [] p r fits e = none_first p r (reading_of []) _ (ap (λ (x : Reading). x.left) (at_start 0 [] (omega arith) refl)) e
first_read (b ∷ bs) p r fits e =
    by_result (frame_at (b ∷ bs)) ((rest : List ℕ) × (frame_at (b ∷ bs) ≡ Ok (p.frame_type, p.frame, rest)))
    (λ x is.
    let same = parts_are (placed_at 0 x.0 x.1) p (same_first (placed_at 0 x.0 x.1) p _ r (sym (one_more 0 (b ∷ bs) x fits is) ∙ e)) in
    (x.2, is ∙ ap (λ (n : ℕ). Ok (n, x.1, x.2)) same.0 ∙ ap (λ (v : FrameValue). Ok (p.frame_type, v, x.2)) same.1))
    (λ f is. none_first p r (reading_of (b ∷ bs)) _ (ap (λ (x : Reading). x.left) (at_fault 0 (b ∷ bs) f (omega arith) is)) e)

-- what was laid out is what stands there
laid_at : (bytes : List ℕ) (t : ℕ) (frame : FrameValue) (rest : List ℕ) (z : Sizes) (l : IsLaid t frame rest bytes) (o : Option (ℕ × ℕ × ℕ)) → z ≡ sizes_of frame
    → o ≡ laid_of (lead_of t) z.mid (z.bytes + z.token) z.trail bytes → o ≡ Some (l.at, l.ranges, l.end)
laid_at bytes t frame rest z l o size e = e ∙ ap (λ (s : Sizes). laid_of (lead_of t) s.mid (s.bytes + s.token) s.trail bytes) size ∙ l.laid

some_same : (x y : ℕ × ℕ × ℕ) → Some x ≡ Some y → x ≡ y
some_same x y is = cc

none_some : (x : ℕ × ℕ × ℕ) (P : Type 0) → None ≡ Some x → P
none_some x P e = absurd cc

pub never : (bytes : List ℕ) (place t : ℕ) (frame : FrameValue) (r : Reading) (z : Sizes) (P : Type 0) → IsBytes bytes → reading_of bytes ≡ with_first (record { place = place; frame = frame; frame_type = t }) r → z ≡ sizes_of frame
    → None ≡ laid_of (lead_of t) z.mid (z.bytes + z.token) z.trail bytes → P
never bytes place t frame r z P fits e size none =
    let f = first_read bytes (record { place = place; frame = frame; frame_type = t }) r fits e in
    none_some _ P (laid_at bytes t frame f.0 z (frame_laid bytes (t, frame, f.0) fits f.1) None size none)

-- a frame's numbers, told of a place
abbrev told_at : GvFrame → (place type bytes_at len token_at : ℕ) → GvFrame
told_at o place type bytes_at len token_at = record o { place = place; frame_type = type; bytes_at = bytes_at; len = len; token_at = token_at }

-- the frame at a place, where its bytes are laid out
read_at : (payload bytes : List ℕ) (at t : ℕ) (frame : FrameValue) (rest : List ℕ) (l : IsLaid t frame rest bytes) (o : GvFrame) (len : ℕ)
    → IsBytes bytes → frame_at bytes ≡ Ok (t, frame, rest) → len ≡ (sizes_of frame).bytes → o ≡ numbers_told frame → (l.at + l.ranges) + len ≤ length bytes
    → drop at payload ≡ bytes → at ≤ length payload → IsNext payload at (told_at o at t (at + l.at) (l.ranges + len) (((at + l.at) + l.ranges) + len)) (at + l.end)
read_at payload bytes at t frame rest l o len fits is size of room stands le =
    let n : ℕ = (sizes_of frame).bytes in
    let bytes_there : part_of payload (at + l.at) (l.ranges + len) ≡ take (l.ranges + n) (drop l.at bytes) =
    ap (take (l.ranges + len)) (sym (drops at l.at payload) ∙ ap (drop l.at) stands) ∙ ap (λ (k : ℕ). take k (drop l.at bytes)) (omega (arith, size)) in
    let behind : ℕ = (l.at + l.ranges) + n in
    let token_there : part_of payload (((at + l.at) + l.ranges) + len) 16 ≡ take 16 (drop behind bytes) =
    ap (λ (k : ℕ). take 16 (drop k payload)) (omega (arith, size)) ∙ ap (take 16) (sym (drops at behind payload) ∙ ap (drop behind) stands) in
    let whole : length payload ≡ at + length bytes = omega (arith, ap length stands, length-drop at payload, le) in
    let gone : at + (length bytes - length rest) ≡ at + l.end = omega (arith, ap length l.left, length-drop l.end bytes, l.within) in
    let left : rest ≡ drop (at + l.end) payload = l.left ∙ ap (drop l.end) (sym stands) ∙ drops at l.end payload in
    record {
      first = placed_at at t frame;
      reading = ap (reading_from at) stands ∙ one_more at bytes (t, frame, rest) fits is
          ∙ ap (with_first (placed_at at t frame)) (ap (λ (k : ℕ). reading_from k rest) gone ∙ ap (reading_from (at + l.end)) left);
      told = record {
        numbers = ap (λ (x : GvFrame). told_at x at t (at + l.at) (l.ranges + len) (((at + l.at) + l.ranges) + len)) of;
        within = omega (arith, whole, room);
        has = subst (λ (b : List ℕ). Has frame b (part_of payload (((at + l.at) + l.ranges) + len) 16)) (sym bytes_there)
            (subst (Has frame (take (l.ranges + n) (drop l.at bytes))) (sym token_there) l.has);
      };
      further = omega (arith, is_shorter bytes (t, frame, rest) fits is, ap length l.left, length-drop l.end bytes);
      within = omega (arith, whole, l.within);
    }

pub read_is : (payload bytes : List ℕ) (at place t : ℕ) (frame : FrameValue) (r : Reading) (x : ℕ × ℕ × ℕ) (z : Sizes) (o : GvFrame)
    → IsBytes bytes → reading_of bytes ≡ with_first (record { place = place; frame = frame; frame_type = t }) r → z ≡ sizes_of frame
    → Some x ≡ laid_of (lead_of t) z.mid (z.bytes + z.token) z.trail bytes → o ≡ numbers_told frame → (x.0 + x.1) + z.bytes ≤ length bytes
    → drop at payload ≡ bytes → at ≤ length payload → IsNext payload at (told_at o at t (at + x.0) (x.1 + z.bytes) (((at + x.0) + x.1) + z.bytes)) (at + x.2)
read_is payload bytes at place t frame r x z o fits e size laid of room stands le =
    let g = first_read bytes (record { place = place; frame = frame; frame_type = t }) r fits e in
    let l = frame_laid bytes (t, frame, g.0) fits g.1 in
    let y : ℕ × ℕ × ℕ = (l.at, l.ranges, l.end) in
    let same : x ≡ y = some_same x y (laid_at bytes t frame g.0 z l (Some x) size laid) in
    let fits_there : (l.at + l.ranges) + z.bytes ≤ length bytes = subst (λ (w : ℕ × ℕ × ℕ). (w.0 + w.1) + z.bytes ≤ length bytes) same room in
    subst (λ (w : ℕ × ℕ × ℕ). IsNext payload at (told_at o at t (at + w.0) (w.1 + z.bytes) (((at + w.0) + w.1) + z.bytes)) (at + w.2)) (sym same)
    (read_at payload bytes at t frame g.0 l o z.bytes fits g.1 (ap (λ (s : Sizes). s.bytes) size) of fits_there stands le)

-- the walk moves on
pub next_frame : (r : Reading) (p : PlacedValue) (left : Reading) (payload : List ℕ) (old new : Walk) → r ≡ with_first p left → MovesOn payload p left old new → NextFrame r.left r.fault payload 0 old new
next_frame r p left payload old new is moves = subst (λ (x : Reading). NextFrame x.left x.fault payload 0 old new) (sym is) (refl, moves)

-- ---- the other answers

abbrev fault_alone : WireFault → Reading
fault_alone w = record { left = []; fault = Some w }

pub next_none : (r : Reading) (payload : List ℕ) (old new : Walk) → r ≡ record { left = []; fault = None } → new ≡ old → NextFrame r.left r.fault payload 15 old new
next_none r payload old new is stays = subst (λ (x : Reading). NextFrame x.left x.fault payload 15 old new) (sym is) (refl, stays)

pub next_fault : (r : Reading) (w : WireFault) (payload : List ℕ) (old new : Walk) → r ≡ fault_alone w → new.fault ≡ fault_of w → new.place ≡ old.place → new.frame ≡ old.frame → NextFrame r.left r.fault payload 21 old new
next_fault r w payload old new is fault place frame =
    let same : new ≡ record old { fault = fault_of w } = ap (λ (x : ℕ × GvFrame × GvFault). record { place = x.0; frame = x.1; fault = x.2 }) (λ i. (place i, frame i, fault i)) in
    subst (λ (x : Reading). NextFrame x.left x.fault payload 21 old new) (sym is) (refl, same)

pub by_true : (b : Bool) (P Q : Type 0) → b ≡ true → P → MatchBool b P Q
by_true b P Q is p = subst (λ (t : Bool). MatchBool t P Q) (sym is) p

pub slice_from : (at : ℕ) (xs : List ℕ) → take (length xs - at) (drop at xs) ≡ drop at xs
slice_from at xs = take_all (length xs - at) (drop at xs) (omega (arith, length-drop at xs))

same_fault : (v w : WireFault) → fault_alone v ≡ fault_alone w → v ≡ w
same_fault v w e = let both : Some v ≡ Some w = ap (λ (r : Reading). r.fault) e in cc

-- the fault in place of the first frame is one at any place
pub fault_again : (bytes : List ℕ) (at : ℕ) (w : WireFault) → IsBytes bytes → (length bytes ≡ 0 → at ≡ 0) → reading_of bytes ≡ fault_alone w → reading_from at bytes ≡ fault_alone (fault_from at w)
fault_again [] at w fits empty e =
    let zero_at : at ≡ 0 = empty refl in
    let start = at_start 0 [] (omega arith) refl in
    let is = same_fault _ w (sym start ∙ e) in
    ap (λ (k : ℕ). reading_from k []) zero_at ∙ start ∙ ap (λ (v : WireFault). fault_alone (fault_from 0 v)) is ∙ ap (λ (k : ℕ). fault_alone (fault_from k w)) (sym zero_at)
fault_again (b ∷ bs) at w fits empty e =
    by_result (frame_at (b ∷ bs)) (reading_from at (b ∷ bs) ≡ fault_alone (fault_from at w))
    (λ x is. none_first (placed_at 0 x.0 x.1) _ (reading_of (b ∷ bs)) _ (ap (λ (r : Reading). r.left) e) (one_more 0 (b ∷ bs) x fits is))
    (λ f is. at_fault at (b ∷ bs) f (omega arith) is ∙ ap (λ (v : WireFault). fault_alone (fault_from at v)) (same_fault _ w (sym (at_fault 0 (b ∷ bs) f (omega arith) is) ∙ e)))
