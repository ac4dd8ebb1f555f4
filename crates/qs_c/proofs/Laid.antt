-- Where the bytes of a frame stand.
use Rattle.std.proofs.Common.{◌≡◌, ℕ, zero, suc, ◌+◌, ◌-◌, ◌*◌, ◌^◌, ◌<◌, ◌≤◌, Bool, true, false, List, [], ◌∷◌, ◌++◌, length, take, drop, Option, Some, None, Ok, refl, sym, ap, subst, ◌∙◌, append_assoc, arith}
use Rattle.std.specs.Prelude.{is_some, if◌then◌else◌}
use Rattle.std.proofs.lemmas.Bool.{le-ltb}
use Rattle.std.proofs.lemmas.List.{length-append, take_at, drop_at, drop-drop}
use Rattle.qs_wire.specs.declared.frame.EcnCounts.{EcnCounts}
use Rattle.qs_wire.specs.Varint.{Spells, short, varint_at}
use Rattle.qs_wire.specs.Layout.{FrameValue, ack, stream, new_connection_id, Field, number, number_if, counted_if, plain, identifier, ack_ranges, ecn_if, Values, layout, frame_of, bit, number_of_type}
use Rattle.qs_wire.specs.Grammar.{FieldsText, CountedText, NumbersText, counts_of, IsIdentifierLength}
use Rattle.qs_wire.specs.Reading.{frame_at}
use Rattle.qs_wire.proofs.Numbers.{IsBytes, varint_again, short_spells, short_byte}
use Rattle.qs_wire.proofs.Types.{EachType, at_type, type_below}
use Rattle.qs_wire.proofs.Shapes.{frame_takes}
use Rattle.qs_c.specs.Frames.{Has}
use Rattle.qs_c.specs.Places.{skip_then, skip_of, lead_of, laid_of, Sizes, sized, sizes_of}

-- ---- numbers are skipped

pub skip_more : (n : ℕ) (bytes : List ℕ) (x : ℕ × ℕ) → varint_at bytes ≡ Some x → skip_of (suc n) bytes ≡ x.1 + skip_of n (drop x.1 bytes)
unfolding skip_of
skip_more n bytes x e = ap (skip_then bytes (skip_of n)) e

pub skip_none : (n : ℕ) (bytes : List ℕ) → varint_at bytes ≡ None → skip_of n bytes ≡ 0
unfolding skip_of
skip_none zero bytes e = refl
skip_none (suc n) bytes e = ap (skip_then bytes (skip_of n)) e

pub skip_zero : (bytes : List ℕ) → skip_of 0 bytes ≡ 0
unfolding skip_of
skip_zero bytes = refl

-- one number of those that are left
pub skip_from : (count i : ℕ) (bytes : List ℕ) (x : ℕ × ℕ) → i < count → varint_at bytes ≡ Some x → skip_of (count - i) bytes ≡ x.1 + skip_of (count - (i + 1)) (drop x.1 bytes)
skip_from count i bytes x lt e =
    let k : count - i ≡ suc (count - (i + 1)) = omega arith in
    ap (λ (m : ℕ). skip_of m bytes) k ∙ skip_more (count - (i + 1)) bytes x e

-- so many numbers stand in front of the rest
pub record Skips (n : ℕ) (bytes rest : List ℕ) : Type 0 where
  pub text : List ℕ
  pub parts : bytes ≡ text ++ rest
  pub count : skip_of n bytes ≡ length text

abbrev skips_none : (bytes rest : List ℕ) → bytes ≡ rest → Skips 0 bytes rest
skips_none bytes rest e = record { text = []; parts = e; count = skip_zero bytes }

skips_one : (n v : ℕ) (front back bytes rest : List ℕ) → bytes ≡ front ++ back → Spells v front → Skips n back rest → Skips (suc n) bytes rest
skips_one n v front back bytes rest e h s =
    let at : varint_at bytes ≡ Some (v, length front) = ap varint_at e ∙ varint_again v front back h in
    let left : drop (length front) bytes ≡ back = ap (drop (length front)) e ∙ drop_at front back (length front) refl in
    record {
      text = front ++ s.text;
      parts = e ∙ ap (λ (t : List ℕ). front ++ t) s.parts ∙ sym (append_assoc front s.text rest);
      count = omega (arith, skip_more n bytes (v, length front) at, ap (skip_of n) left, s.count, length-append front s.text);
    }

skips_drop : (n : ℕ) (bytes rest : List ℕ) → (s : Skips n bytes rest) → drop (length s.text) bytes ≡ rest
skips_drop n bytes rest s = ap (drop (length s.text)) s.parts ∙ drop_at s.text rest (length s.text) refl

pub drops : (a b : ℕ) (xs : List ℕ) → drop b (drop a xs) ≡ drop (a + b) xs
drops a b xs = drop-drop b a xs ∙ ap (λ (k : ℕ). drop k xs) (omega arith)

-- numbers, bytes and numbers
laid_is : (lead mid block trail : ℕ) (bytes r1 r2 r3 blk after : List ℕ) → (a : Skips lead bytes r1) → (b : Skips mid r1 r2) → r2 ≡ blk ++ r3 → length blk ≡ block → (c : Skips trail r3 after)
    → laid_of lead mid block trail bytes ≡ Some (length a.text, length b.text, ((length a.text + length b.text) + block) + length c.text)
laid_is lead mid block trail bytes r1 r2 r3 blk after a b e is c =
    let d1 = skips_drop lead bytes r1 a in
    let d2 : drop (length a.text + length b.text) bytes ≡ r2 = sym (drops (length a.text) (length b.text) bytes) ∙ ap (drop (length b.text)) d1 ∙ skips_drop mid r1 r2 b in
    let d3 : drop ((length a.text + length b.text) + block) bytes ≡ r3 = sym (drops (length a.text + length b.text) block bytes) ∙ ap (drop block) (d2 ∙ e) ∙ drop_at blk r3 block is in
    let room : length bytes ≡ ((length a.text + length b.text) + block) + length r3 =
    omega (arith, ap length a.parts, length-append a.text r1, ap length b.parts, length-append b.text r2, ap length e, length-append blk r3, is) in
    let fits : block ≤ length bytes - (length a.text + length b.text) = omega (arith, room) in
    rw (a.count, d1, b.count, le-ltb (length bytes - (length a.text + length b.text)) block fits, d3, c.count) refl

-- where the bytes of the frame stand
pub record IsLaid (t : ℕ) (frame : FrameValue) (rest bytes : List ℕ) : Type 0 where
  pub at : ℕ
  pub ranges : ℕ
  pub end : ℕ
  pub laid : laid_of (lead_of t) (sizes_of frame).mid ((sizes_of frame).bytes + (sizes_of frame).token) (sizes_of frame).trail bytes ≡ Some (at, ranges, end)
  pub left : rest ≡ drop end bytes
  pub within : end ≤ length bytes
  pub has : Has frame (take (ranges + (sizes_of frame).bytes) (drop at bytes)) (take 16 (drop (((at + ranges) + (sizes_of frame).bytes)) bytes))

-- a frame of numbers and of bytes behind them
simple : (t lead : ℕ) (frame : FrameValue) (bytes v rest : List ℕ) → lead_of t ≡ lead → sizes_of frame ≡ sized (length v) → ((b tok : List ℕ) → b ≡ v → Has frame b tok)
    → Skips lead bytes (v ++ rest) → IsLaid t frame rest bytes
simple t lead frame bytes v rest is size has s =
    let none : Skips 0 (v ++ rest) (v ++ rest) = skips_none (v ++ rest) (v ++ rest) refl in
    let last : Skips 0 rest rest = skips_none rest rest refl in
    let a = length s.text in
    let room : length bytes ≡ a + (length v + length rest) = omega (arith, ap length s.parts, length-append s.text (v ++ rest), length-append v rest) in
    let d1 = skips_drop lead bytes (v ++ rest) s in
    let end : ℕ = ((a + 0) + (length v + 0)) + 0 in
    let plus : 0 + length v ≡ length v = omega arith in
    record {
      at = a;
      ranges = 0;
      end = end;
      laid = ap (λ (z : Sizes). laid_of (lead_of t) z.mid (z.bytes + z.token) z.trail bytes) size
          ∙ ap (λ (l : ℕ). laid_of l 0 (length v + 0) 0 bytes) is
          ∙ laid_is lead 0 (length v + 0) 0 bytes (v ++ rest) (v ++ rest) rest v rest s none refl (omega arith) last;
      left = sym (ap (λ (k : ℕ). drop k bytes) (omega arith) ∙ sym (drops a (length v) bytes) ∙ ap (drop (length v)) d1 ∙ drop_at v rest (length v) refl);
      within = omega (arith, room);
      has = has _ _ (ap (λ (z : Sizes). take (0 + z.bytes) (drop a bytes)) size ∙ ap (λ (k : ℕ). take k (drop a bytes)) plus ∙ ap (take (length v)) d1 ∙ take_at v rest (length v) refl);
    }

-- ---- the fields of a type

abbrev FrontIs : ℕ → List ℕ → List ℕ → List ℕ → Type 0
FrontIs n body after bytes = (n < 2 ^ 62) × (bytes ≡ short n ++ (body ++ after))

typed : (n t : ℕ) (body after bytes rest : List ℕ) → FrontIs t body after bytes → Skips n (body ++ after) rest → Skips (suc n) bytes rest
typed n t body after bytes rest is s = skips_one n t (short t) (body ++ after) bytes rest is.1 (short_spells t is.0) s

one : (n v : ℕ) (front back body after rest : List ℕ) → body ≡ front ++ back → Spells v front → Skips n (back ++ after) rest → Skips (suc n) (body ++ after) rest
one n v front back body after rest e h s = skips_one n v front (back ++ after) (body ++ after) rest (ap (λ (t : List ℕ). t ++ after) e ∙ append_assoc front back after) h s

last : (body after : List ℕ) → body ≡ [] → Skips 0 (body ++ after) after
last body after e = skips_none (body ++ after) after (ap (λ (t : List ℕ). t ++ after) e)

plain_end : (v front back body after : List ℕ) → body ≡ front ++ back → front ≡ v → back ≡ [] → body ++ after ≡ v ++ after
plain_end v front back body after e is none = ap (λ (t : List ℕ). t ++ after) e ∙ append_assoc front back after ∙ ap (λ (f : List ℕ). f ++ (back ++ after)) is ∙ ap (λ (b : List ℕ). v ++ (b ++ after)) none

counted_end : (v front back body after : List ℕ) → body ≡ front ++ back → CountedText v front → back ≡ [] → Skips 1 (body ++ after) (v ++ after)
counted_end v front back body after e c none =
    let is : body ++ after ≡ c.0 ++ (v ++ after) = plain_end front front back body after e refl none ∙ ap (λ (f : List ℕ). f ++ after) c.2 ∙ append_assoc c.0 v after in
    skips_one 0 (length v) c.0 (v ++ after) (body ++ after) (v ++ after) is c.1 (skips_none (v ++ after) (v ++ after) refl)

skip_field : (n : ℕ) (front back body after rest : List ℕ) → body ≡ front ++ back → front ≡ [] → Skips n (back ++ after) rest → Skips n (body ++ after) rest
skip_field n front back body after rest e is s =
    let same : back ++ after ≡ body ++ after = sym (ap (λ (t : List ℕ). t ++ after) (e ∙ ap (λ (f : List ℕ). f ++ back) is)) in
    subst (λ (t : List ℕ). Skips n t rest) same s

abbrev stream_fields : Bool → Bool → List Field
stream_fields off len = number ∷ number_if off ∷ counted_if len ∷ []

stream_skips : (off len : Bool) (vs : Values (stream_fields off len)) (body after : List ℕ) → FieldsText (stream_fields off len) vs body after
    → Skips (suc (bit off + bit len)) (body ++ after) (vs.1.1.0 ++ after)
stream_skips true true vs body after h = one 2 vs.0 h.0 h.1 body after _ h.2 h.3 (one 1 vs.1.0 h.4.0 h.4.1 h.1 after _ h.4.2 h.4.3 (counted_end vs.1.1.0 h.4.4.0 h.4.4.1 h.4.1 after h.4.4.2 h.4.4.3 h.4.4.4))
stream_skips true false vs body after h = one 1 vs.0 h.0 h.1 body after _ h.2 h.3 (one 0 vs.1.0 h.4.0 h.4.1 h.1 after _ h.4.2 h.4.3 (skips_none _ _ (plain_end vs.1.1.0 h.4.4.0 h.4.4.1 h.4.1 after h.4.4.2 h.4.4.3.0 h.4.4.4)))
stream_skips false true vs body after h = one 1 vs.0 h.0 h.1 body after _ h.2 h.3 (skip_field 1 h.4.0 h.4.1 h.1 after _ h.4.2 h.4.3.1 (counted_end vs.1.1.0 h.4.4.0 h.4.4.1 h.4.1 after h.4.4.2 h.4.4.3 h.4.4.4))
stream_skips false false vs body after h = one 0 vs.0 h.0 h.1 body after _ h.2 h.3 (skip_field 0 h.4.0 h.4.1 h.1 after _ h.4.2 h.4.3.1 (skips_none _ _ (plain_end vs.1.1.0 h.4.4.0 h.4.4.1 h.4.1 after h.4.4.2 h.4.4.3.0 h.4.4.4)))

stream_lead : (off len fin : Bool) → lead_of (0x08 + 4 * bit off + 2 * bit len + bit fin) ≡ suc (suc (bit off + bit len))
stream_lead true true true = refl
stream_lead true true false = refl
stream_lead true false true = refl
stream_lead true false false = refl
stream_lead false true true = refl
stream_lead false true false = refl
stream_lead false false true = refl
stream_lead false false false = refl

-- ---- ranges

numbers_skips : (vs b rest : List ℕ) → NumbersText vs b → Skips (length vs) (b ++ rest) rest
numbers_skips [] b rest h = last b rest h
numbers_skips (v ∷ vs) b rest h = one (length vs) v h.0 h.1 b rest rest h.2 h.3 (numbers_skips vs h.1 rest h.4)

ecn_skips : (ecn : Option EcnCounts) (flag : Bool) (body after : List ℕ) → FieldsText (ecn_if flag ∷ []) (ecn, tt) body after
    → Skips (if is_some ecn then 3 else 0) (body ++ after) after
ecn_skips None true body after h = absurd h.3
ecn_skips (Some c) true body after h =
    subst (λ (t : List ℕ). Skips 3 t after) (sym (plain_end h.0 h.0 h.1 body after h.2 refl h.4)) (numbers_skips (counts_of c) h.0 after h.3)
ecn_skips None false body after h = skip_field 0 h.0 h.1 body after after h.2 h.3.1 (last h.1 after h.4)
ecn_skips (Some c) false body after h = absurd cc

ack_fields : (flag : Bool) (n : ℕ) (vs : Values (number ∷ number ∷ ack_ranges ∷ ecn_if flag ∷ [])) (body after bytes : List ℕ) → lead_of n ≡ 4 → FrontIs n body after bytes
    → FieldsText (number ∷ number ∷ ack_ranges ∷ ecn_if flag ∷ []) vs body after → IsLaid n (ack vs.0 vs.1.0 vs.1.1.0 vs.1.1.1.0) after bytes
ack_fields flag n vs body after bytes lead is h =
    let largest = vs.0 in
    let delay = vs.1.0 in
    let ranges = vs.1.1.0 in
    let ecn = vs.1.1.1.0 in
    let third = h.4.4 in
    let r = third.3 in
    let text : List ℕ = r.2 in
    let left : List ℕ = third.1 ++ after in
    let front : third.0 ++ left ≡ r.1 ++ (text ++ left) = ap (λ (t : List ℕ). t ++ left) r.3 ∙ append_assoc r.1 text left in
    let joined : h.4.1 ++ after ≡ r.1 ++ (text ++ left) = ap (λ (t : List ℕ). t ++ after) third.2 ∙ append_assoc third.0 third.1 after ∙ front in
    let count : Skips 1 (h.4.1 ++ after) (text ++ left) = skips_one 0 r.0 r.1 (text ++ left) (h.4.1 ++ after) (text ++ left) joined r.5 (skips_none _ _ refl) in
    let s : Skips 4 bytes (text ++ left) = typed 3 n body after bytes _ is (one 2 largest h.0 h.1 body after _ h.2 h.3 (one 1 delay h.4.0 h.4.1 h.1 after _ h.4.2 h.4.3 count)) in
    let m : Skips (length ranges) (text ++ left) left = numbers_skips ranges text left r.6 in
    let c : Skips (if is_some ecn then 3 else 0) left after = ecn_skips ecn flag third.1 after third.4 in
    let a = length s.text in
    let b = length m.text in
    let same : b ≡ length text = omega (arith, ap length m.parts, length-append text left, length-append m.text left) in
    let room : length bytes ≡ a + (b + (length c.text + length after)) = omega (arith, ap length s.parts, length-append s.text (text ++ left), ap length m.parts, length-append m.text left, ap length c.parts, length-append c.text after) in
    let d1 = skips_drop 4 bytes (text ++ left) s in
    let d2 = skips_drop (length ranges) (text ++ left) left m in
    let d3 = skips_drop (if is_some ecn then 3 else 0) left after c in
    let end : ℕ = ((a + b) + 0) + length c.text in
    record {
      at = a;
      ranges = b;
      end = end;
      laid = ap (λ (l : ℕ). laid_of l (length ranges) 0 (if is_some ecn then 3 else 0) bytes) lead ∙ laid_is 4 (length ranges) 0 (if is_some ecn then 3 else 0) bytes (text ++ left) left left [] after s m refl refl c;
      left = sym (ap (λ (k : ℕ). drop k bytes) (omega arith) ∙ sym (drops a (b + length c.text) bytes) ∙ ap (drop (b + length c.text)) d1 ∙ sym (drops b (length c.text) (text ++ left)) ∙ ap (drop (length c.text)) d2 ∙ d3);
      within = omega (arith, room);
      has = subst (NumbersText ranges) (sym (ap (take (b + 0)) d1 ∙ take_at text left (b + 0) (omega (arith, same)))) r.6;
    }

ncid_fields : (n : ℕ) (vs : Values (number ∷ number ∷ identifier ∷ plain 16 ∷ [])) (body after bytes : List ℕ) → lead_of n ≡ 4 → FrontIs n body after bytes
    → FieldsText (number ∷ number ∷ identifier ∷ plain 16 ∷ []) vs body after → IsLaid n (new_connection_id vs.0 vs.1.0 vs.1.1.0 vs.1.1.1.0) after bytes
ncid_fields n vs body after bytes lead is h =
    let id : List ℕ = vs.1.1.0 in
    let token : List ℕ = vs.1.1.1.0 in
    let third = h.4.4 in
    let range : IsIdentifierLength (length id) = third.3.0 in
    let fourth = third.4 in
    let behind : third.1 ++ after ≡ token ++ after = plain_end token fourth.0 fourth.1 third.1 after fourth.2 fourth.3.1 fourth.4 in
    let len : length token ≡ 16 = fourth.3.0 in
    let byte : short (length id) ≡ length id ∷ [] = short_byte (length id) (omega (arith, range.1)) in
    let spelled : Spells (length id) (length id ∷ []) = subst (λ (t : List ℕ). Spells (length id) t) byte (short_spells (length id) (omega (arith, range.1))) in
    let blk : List ℕ = id ++ token in
    let rest : List ℕ = id ++ (token ++ after) in
    let joined : h.4.1 ++ after ≡ (length id ∷ []) ++ rest = ap (λ (t : List ℕ). t ++ after) third.2 ∙ append_assoc third.0 third.1 after ∙ ap (λ (t : List ℕ). t ++ (third.1 ++ after)) third.3.1 ∙ ap (λ (t : List ℕ). (length id ∷ id) ++ t) behind in
    let count : Skips 1 (h.4.1 ++ after) rest = skips_one 0 (length id) (length id ∷ []) rest (h.4.1 ++ after) rest joined spelled (skips_none _ _ refl) in
    let s : Skips 4 bytes rest = typed 3 n body after bytes _ is (one 2 vs.0 h.0 h.1 body after _ h.2 h.3 (one 1 vs.1.0 h.4.0 h.4.1 h.1 after _ h.4.2 h.4.3 count)) in
    let none : Skips 0 rest rest = skips_none rest rest refl in
    let end_skips : Skips 0 after after = skips_none after after refl in
    let a = length s.text in
    let parted : rest ≡ blk ++ after = sym (append_assoc id token after) in
    let size : length blk ≡ length id + length token = length-append id token in
    let room : length bytes ≡ a + ((length id + length token) + length after) = omega (arith, ap length s.parts, length-append s.text rest, ap length parted, length-append blk after, size) in
    let d1 = skips_drop 4 bytes rest s in
    let end : ℕ = ((a + 0) + (length id + length token)) + 0 in
    let plus : 0 + length id ≡ length id = omega arith in
    let there : take 16 (drop ((a + 0) + length id) bytes) ≡ token =
    ap (take 16) (ap (λ (k : ℕ). drop k bytes) (omega arith) ∙ sym (drops a (length id) bytes) ∙ ap (drop (length id)) d1 ∙ drop_at id (token ++ after) (length id) refl) ∙ take_at token after 16 len in
    record {
      at = a;
      ranges = 0;
      end = end;
      laid = ap (λ (l : ℕ). laid_of l 0 (length id + length token) 0 bytes) lead ∙ laid_is 4 0 (length id + length token) 0 bytes rest rest after blk after s none parted size end_skips;
      left = sym (ap (λ (k : ℕ). drop k bytes) (omega arith) ∙ sym (drops a (length id + length token) bytes) ∙ ap (drop (length id + length token)) (d1 ∙ parted) ∙ drop_at blk after (length id + length token) size);
      within = omega (arith, room);
      has = (
        ap (λ (k : ℕ). take k (drop a bytes)) plus ∙ ap (take (length id)) d1 ∙ take_at id (token ++ after) (length id) refl,
        there,
        ap length there ∙ len,
      );
    }

-- ---- all types

bare : (n : ℕ) (body after bytes : List ℕ) → FrontIs n body after bytes → (vs : Values []) → FieldsText [] vs body after → Skips 1 bytes after
bare n body after bytes is vs h = typed 0 n body after bytes after is (last body after h)

one_number : (n : ℕ) (body after bytes : List ℕ) → FrontIs n body after bytes → (vs : Values (number ∷ [])) → FieldsText (number ∷ []) vs body after → Skips 2 bytes after
one_number n body after bytes is vs h = typed 1 n body after bytes after is (one 0 vs.0 h.0 h.1 body after after h.2 h.3 (last h.1 after h.4))

two_numbers : (n : ℕ) (body after bytes : List ℕ) → FrontIs n body after bytes → (vs : Values (number ∷ number ∷ [])) → FieldsText (number ∷ number ∷ []) vs body after → Skips 3 bytes after
two_numbers n body after bytes is vs h = typed 2 n body after bytes after is (one 1 vs.0 h.0 h.1 body after after h.2 h.3 (one 0 vs.1.0 h.4.0 h.4.1 h.1 after after h.4.2 h.4.3 (last h.4.1 after h.4.4)))

eight_bytes : (n : ℕ) (body after bytes : List ℕ) → FrontIs n body after bytes → (vs : Values (plain 8 ∷ [])) → FieldsText (plain 8 ∷ []) vs body after → Skips 1 bytes (vs.0 ++ after)
eight_bytes n body after bytes is vs h = typed 0 n body after bytes _ is (skips_none _ _ (plain_end vs.0 h.0 h.1 body after h.2 h.3.1 h.4))

stream_laid : (off len fin : Bool) (n : ℕ) (vs : Values (stream_fields off len)) (body after bytes : List ℕ) → 0x08 + 4 * bit off + 2 * bit len + bit fin ≡ n → FrontIs n body after bytes
    → FieldsText (stream_fields off len) vs body after → IsLaid n (stream vs.0 vs.1.0 fin vs.1.1.0) after bytes
stream_laid off len fin n vs body after bytes m is h =
    simple n (suc (suc (bit off + bit len))) _ bytes vs.1.1.0 after (sym (ap lead_of m) ∙ stream_lead off len fin) refl (λ _ _ b. b)
    (typed (suc (bit off + bit len)) n body after bytes _ is (stream_skips off len vs body after h))

-- the frame that a type's fields tell
each_laid : (n : ℕ) (body after bytes : List ℕ) → FrontIs n body after bytes
    → EachType (λ t. number_of_type t ≡ n → (vs : Values (layout t)) → FieldsText (layout t) vs body after → IsLaid n (frame_of t vs) after bytes)
each_laid n body after bytes is =
    record {
      padding = λ m vs h. simple n 1 _ bytes [] after (sym (ap lead_of m)) refl (λ _ _ b. b) (bare n body after bytes is vs h);
      ping = λ m vs h. simple n 1 _ bytes [] after (sym (ap lead_of m)) refl (λ _ _ b. b) (bare n body after bytes is vs h);
      ack = λ m vs h. ack_fields false n vs body after bytes (sym (ap lead_of m)) is h;
      ack_with_counts = λ m vs h. ack_fields true n vs body after bytes (sym (ap lead_of m)) is h;
      reset_stream = λ m vs h. simple n 4 _ bytes [] after (sym (ap lead_of m)) refl (λ _ _ b. b) (typed 3 n body after bytes after is (one 2 vs.0 h.0 h.1 body after after h.2 h.3 (one 1 vs.1.0 h.4.0 h.4.1 h.1 after after h.4.2 h.4.3 (one 0 vs.1.1.0 h.4.4.0 h.4.4.1 h.4.1 after after h.4.4.2 h.4.4.3 (last h.4.4.1 after h.4.4.4)))));
      stop_sending = λ m vs h. simple n 3 _ bytes [] after (sym (ap lead_of m)) refl (λ _ _ b. b) (two_numbers n body after bytes is vs h);
      crypto = λ m vs h. simple n 3 _ bytes vs.1.0 after (sym (ap lead_of m)) refl (λ _ _ b. b) (typed 2 n body after bytes _ is (one 1 vs.0 h.0 h.1 body after _ h.2 h.3 (counted_end vs.1.0 h.4.0 h.4.1 h.1 after h.4.2 h.4.3 h.4.4)));
      new_token = λ m vs h. simple n 2 _ bytes vs.0 after (sym (ap lead_of m)) refl (λ _ _ b. b) (typed 1 n body after bytes _ is (counted_end vs.0 h.0 h.1 body after h.2 h.3 h.4));
      stream = λ off len fin m vs h. stream_laid off len fin n vs body after bytes m is h;
      max_data = λ m vs h. simple n 2 _ bytes [] after (sym (ap lead_of m)) refl (λ _ _ b. b) (one_number n body after bytes is vs h);
      max_stream_data = λ m vs h. simple n 3 _ bytes [] after (sym (ap lead_of m)) refl (λ _ _ b. b) (two_numbers n body after bytes is vs h);
      max_streams_bidi = λ m vs h. simple n 2 _ bytes [] after (sym (ap lead_of m)) refl (λ _ _ b. b) (one_number n body after bytes is vs h);
      max_streams_uni = λ m vs h. simple n 2 _ bytes [] after (sym (ap lead_of m)) refl (λ _ _ b. b) (one_number n body after bytes is vs h);
      data_blocked = λ m vs h. simple n 2 _ bytes [] after (sym (ap lead_of m)) refl (λ _ _ b. b) (one_number n body after bytes is vs h);
      stream_data_blocked = λ m vs h. simple n 3 _ bytes [] after (sym (ap lead_of m)) refl (λ _ _ b. b) (two_numbers n body after bytes is vs h);
      streams_blocked_bidi = λ m vs h. simple n 2 _ bytes [] after (sym (ap lead_of m)) refl (λ _ _ b. b) (one_number n body after bytes is vs h);
      streams_blocked_uni = λ m vs h. simple n 2 _ bytes [] after (sym (ap lead_of m)) refl (λ _ _ b. b) (one_number n body after bytes is vs h);
      new_connection_id = λ m vs h. ncid_fields n vs body after bytes (sym (ap lead_of m)) is h;
      retire_connection_id = λ m vs h. simple n 2 _ bytes [] after (sym (ap lead_of m)) refl (λ _ _ b. b) (one_number n body after bytes is vs h);
      path_challenge = λ m vs h. simple n 1 _ bytes vs.0 after (sym (ap lead_of m)) refl (λ _ _ b. b) (eight_bytes n body after bytes is vs h);
      path_response = λ m vs h. simple n 1 _ bytes vs.0 after (sym (ap lead_of m)) refl (λ _ _ b. b) (eight_bytes n body after bytes is vs h);
      connection_close = λ m vs h. simple n 4 _ bytes vs.1.1.0 after (sym (ap lead_of m)) refl (λ _ _ b. b) (typed 3 n body after bytes _ is (one 2 vs.0 h.0 h.1 body after _ h.2 h.3 (one 1 vs.1.0 h.4.0 h.4.1 h.1 after _ h.4.2 h.4.3 (counted_end vs.1.1.0 h.4.4.0 h.4.4.1 h.4.1 after h.4.4.2 h.4.4.3 h.4.4.4))));
      application_close = λ m vs h. simple n 3 _ bytes vs.1.0 after (sym (ap lead_of m)) refl (λ _ _ b. b) (typed 2 n body after bytes _ is (one 1 vs.0 h.0 h.1 body after _ h.2 h.3 (counted_end vs.1.0 h.4.0 h.4.1 h.1 after h.4.2 h.4.3 h.4.4)));
      handshake_done = λ m vs h. simple n 1 _ bytes [] after (sym (ap lead_of m)) refl (λ _ _ b. b) (bare n body after bytes is vs h);
    }

pub frame_laid : (bytes : List ℕ) (x : ℕ × FrameValue × List ℕ) → IsBytes bytes → frame_at bytes ≡ Ok x → IsLaid x.0 x.1 x.2 bytes
frame_laid bytes x fits e =
    let t = frame_takes bytes x fits e in
    let s = t.taken.shape in
    let number_is = t.numbered in
    let below : x.0 < 2 ^ 62 = subst (λ (k : ℕ). k < 2 ^ 62) number_is (type_below s.type) in
    let front : bytes ≡ short x.0 ++ (s.body ++ x.2) =
    t.taken.parts ∙ ap (λ (u : List ℕ). u ++ x.2) s.parts ∙ append_assoc (short (number_of_type s.type)) s.body x.2 ∙ ap (λ (k : ℕ). short k ++ (s.body ++ x.2)) number_is in
    subst (λ (f : FrameValue). IsLaid x.0 f x.2 bytes) s.is_frame (at_type (each_laid x.0 s.body x.2 bytes (below, front)) s.type number_is s.values s.fields)
