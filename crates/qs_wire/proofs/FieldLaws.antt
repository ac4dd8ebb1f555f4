-- What is read of fields is spelled so, and what is spelled so is read.
use Rattle.std.proofs.lemmas.Bool.Decides.{nat_tests}
use Rattle.std.proofs.Common.{◌≡◌, ℕ, zero, suc, ◌+◌, ◌-◌, ◌*◌, ◌≤◌, Bool, true, false, cond, ltb, leb, ◌&&◌, List, [], ◌∷◌, ◌++◌, length, take, drop, Option, Some, None, Result, Ok, Err, refl, sym, ap, subst, ◌∙◌, append_assoc, arith}
use Rattle.std.proofs.lemmas.Bool.{ltb-false, le-ltb, leb-true, le-leb, and_parts}
use Rattle.std.proofs.lemmas.List.{append-nil, take-append-drop, take_at, drop_at, length-append, length-drop, length-take-le}
use Rattle.qs_wire.specs.declared.fault.FaultKind.{FaultKind}
use Rattle.qs_wire.specs.declared.fault.FaultKind.TheVariants.{Truncated, IdentifierLength}
use Rattle.qs_wire.specs.declared.frame.EcnCounts.{EcnCounts}
use Rattle.qs_wire.specs.Varint.{Spells, varint_at}
use Rattle.qs_wire.specs.Layout.{Field, number, number_if, counted, counted_if, plain, identifier, ack_ranges, ecn_if, Value, Values}
use Rattle.qs_wire.specs.Grammar.{FieldText, FieldsText, CountedText, NumbersText, RangesText, EcnText, IsIdentifierLength}
use Rattle.qs_wire.specs.Reading.{◌>>=◌, split_number, number_at, plain_at, counted_at, identifier_at, numbers_at, ranges_at, counts_at, field_at, fields_at}
use Rattle.qs_wire.proofs.Numbers.{IsBytes, IsBytes-drop, varint_takes, varint_again, varint_within}

-- the value of a step that did not fail
pub bind_ok : {A B E : Type 0} (r : Result A E) (f : A → Result B E) (y : B) → (r >>= f) ≡ Ok y → (x : A) × (r ≡ Ok x) × (f x ≡ Ok y)
bind_ok (Ok x) f y e = (x, refl, e)
bind_ok (Err d) f y e = absurd cc

-- a step that did not fail, and what follows it
pub bind_at : {A B E : Type 0} (r : Result A E) (f : A → Result B E) (x : A) → r ≡ Ok x → (r >>= f) ≡ f x
bind_at (Ok y) f x e = ap f cc
bind_at (Err d) f x e = absurd cc

-- a test that did not fail
pub guard_ok : {A E : Type 0} (b : Bool) (d : E) (x y : A) → cond b (Err d) (Ok x) ≡ Ok y → (b ≡ false) × (x ≡ y)
guard_ok true d x y e = absurd cc
guard_ok false d x y e = (refl, cc)

-- a test that let a step through
pub let_through : {A E : Type 0} (b : Bool) (r : Result A E) (d : E) (x : A) → cond b r (Err d) ≡ Ok x → (b ≡ true) × (r ≡ Ok x)
let_through true r d x e = (refl, e)
let_through false r d x e = absurd cc

abbrev pub done : {A : Type 0} → A → Result A FaultKind
done x = Ok x

pub ok_is : {A : Type 0} (x y : A) → done x ≡ done y → x ≡ y
ok_is x y e = cc

-- ---- one field

-- the text that a field took from the front of the bytes
pub record Takes (f : Field) (bytes : List ℕ) (v : Value f) (after : List ℕ) : Type 0 where
  pub text : List ℕ
  pub parts : bytes ≡ text ++ after
  pub spelled : FieldText f v text after
  pub rest_fits : IsBytes after

split_is : (o : Option (ℕ × ℕ)) (bytes : List ℕ) (x : ℕ × List ℕ) → split_number o bytes ≡ Ok x → (p : ℕ × ℕ) × (o ≡ Some p) × ((p.0, drop p.1 bytes) ≡ x)
split_is None bytes x e = absurd cc
split_is (Some p) bytes x e = (p, refl, ok_is (p.0, drop p.1 bytes) x e)

pub number_takes : (bytes : List ℕ) (x : ℕ × List ℕ) → IsBytes bytes → number_at bytes ≡ Ok x → Takes number bytes x.0 x.1
unfolding number_at
number_takes bytes x fits e =
    let s = split_is (varint_at bytes) bytes x e in
    let t = varint_takes bytes s.0 fits s.1 in
    let made : Takes number bytes s.0.0 (drop s.0.1 bytes) = record { text = take s.0.1 bytes; parts = sym (take-append-drop s.0.1 bytes); spelled = t.spelled; rest_fits = IsBytes-drop s.0.1 bytes fits } in
    subst (λ (y : ℕ × List ℕ). Takes number bytes y.0 y.1) s.2 made

-- a number that was read, and how many bytes it took
pub number_len : (bytes : List ℕ) (v : ℕ) (after : List ℕ) → number_at bytes ≡ Ok (v, after) → varint_at bytes ≡ Some (v, length bytes - length after)
unfolding number_at
number_len bytes v after e = grind (arith, nat_tests, split_is, varint_within, length-drop)

pub number_rest : (bytes : List ℕ) (v : ℕ) (after : List ℕ) → number_at bytes ≡ Ok (v, after) → after ≡ drop (length bytes - length after) bytes
unfolding number_at
number_rest bytes v after e = grind (arith, nat_tests, split_is, varint_within, length-drop)

pub number_none : (bytes : List ℕ) (kind : FaultKind) → number_at bytes ≡ Err kind → varint_at bytes ≡ None
unfolding number_at
number_none bytes kind e = grind (arith, nat_tests)

pub number_again : (v : ℕ) (text after : List ℕ) → Spells v text → number_at (text ++ after) ≡ Ok (v, after)
unfolding number_at
number_again v text after h =
    rw (varint_again v text after h) (ap (λ (r : List ℕ). Ok (v, r)) (drop_at text after (length text) refl))

plain_takes : (n : ℕ) (bytes : List ℕ) (x : List ℕ × List ℕ) → IsBytes bytes → plain_at n bytes ≡ Ok x → Takes (plain n) bytes x.0 x.1
unfolding plain_at
plain_takes n bytes x fits e =
    let g = guard_ok (ltb (length bytes) n) Truncated (take n bytes, drop n bytes) x e in
    let made : Takes (plain n) bytes (take n bytes) (drop n bytes) = record {
      text = take n bytes;
      parts = sym (take-append-drop n bytes);
      spelled = (length-take-le n bytes (ltb-false _ _ g.0), refl);
      rest_fits = IsBytes-drop n bytes fits;
    } in
    subst (λ (y : List ℕ × List ℕ). Takes (plain n) bytes y.0 y.1) g.1 made

plain_again : (n : ℕ) (v after : List ℕ) → length v ≡ n → plain_at n (v ++ after) ≡ Ok (v, after)
unfolding plain_at
plain_again n v after h = grind (arith, nat_tests, ltb, le-ltb, length-append, take_at, drop_at)

counted_takes : (bytes : List ℕ) (x : List ℕ × List ℕ) → IsBytes bytes → counted_at bytes ≡ Ok x → Takes counted bytes x.0 x.1
unfolding counted_at
counted_takes bytes x fits e =
    let b = bind_ok (number_at bytes) (λ n. plain_at n.0 n.1) x e in
    let t = number_takes bytes b.0 fits b.1 in
    let p = plain_takes b.0.0 b.0.1 x t.rest_fits b.2 in
    record {
      text = t.text ++ x.0;
      parts = t.parts ∙ ap (λ (r : List ℕ). t.text ++ r) (p.parts ∙ ap (λ (y : List ℕ). y ++ x.1) p.spelled.1) ∙ sym (append_assoc t.text x.0 x.1);
      spelled = (t.text, subst (λ (k : ℕ). Spells k t.text) (sym p.spelled.0) t.spelled, refl);
      rest_fits = p.rest_fits;
    }

counted_again : (v text after : List ℕ) → CountedText v text → counted_at (text ++ after) ≡ Ok (v, after)
unfolding counted_at
counted_again v text after h =
    let regrouped : text ++ after ≡ h.0 ++ (v ++ after) = ap (λ (t : List ℕ). t ++ after) h.2 ∙ append_assoc h.0 v after in
    let first : number_at (text ++ after) ≡ Ok (length v, v ++ after) = ap number_at regrouped ∙ number_again (length v) h.0 (v ++ after) h.1 in
    bind_at (number_at (text ++ after)) (λ n. plain_at n.0 n.1) (length v, v ++ after) first ∙ plain_again (length v) v after refl

identifier_takes : (bytes : List ℕ) (x : List ℕ × List ℕ) → IsBytes bytes → identifier_at bytes ≡ Ok x → Takes identifier bytes x.0 x.1
unfolding identifier_at
identifier_takes [] x fits e = absurd cc
identifier_takes (n ∷ bs) x fits e =
    let g = let_through (leb 1 n && leb n 20) (plain_at n bs) IdentifierLength x e in
    let range = and_parts (leb 1 n) (leb n 20) g.0 in
    let p = plain_takes n bs x (IsBytes-drop 1 (n ∷ bs) fits) g.1 in
    let len : length x.0 ≡ n = p.spelled.0 in
    let low : 1 ≤ n = leb-true 1 n range.0 in
    let high : n ≤ 20 = leb-true n 20 range.1 in
    record {
      text = n ∷ x.0;
      parts = ap (λ (r : List ℕ). n ∷ r) (p.parts ∙ ap (λ (y : List ℕ). y ++ x.1) p.spelled.1);
      spelled = ((omega arith, omega arith), ap (λ (k : ℕ). k ∷ x.0) (sym len));
      rest_fits = p.rest_fits;
    }

identifier_again : (v text after : List ℕ) → IsIdentifierLength (length v) → text ≡ length v ∷ v → identifier_at (text ++ after) ≡ Ok (v, after)
unfolding identifier_at
identifier_again v text after h is =
    rw (is, le-leb 1 (length v) h.0, le-leb (length v) 20 h.1) (plain_again (length v) v after refl)

pub record TakesNumbers (n : ℕ) (bytes vs after : List ℕ) : Type 0 where
  pub text : List ℕ
  pub parts : bytes ≡ text ++ after
  pub spelled : NumbersText vs text
  pub rest_fits : IsBytes after
  pub count : length vs ≡ n

pub numbers_take : (n : ℕ) (bytes : List ℕ) (x : List ℕ × List ℕ) → IsBytes bytes → numbers_at n bytes ≡ Ok x → TakesNumbers n bytes x.0 x.1
unfolding numbers_at
numbers_take zero bytes x fits e =
    let made : TakesNumbers 0 bytes [] bytes = record { text = []; parts = refl; spelled = refl; rest_fits = fits; count = refl } in
    subst (λ (y : List ℕ × List ℕ). TakesNumbers 0 bytes y.0 y.1) (ok_is ([], bytes) x e) made
numbers_take (suc n) bytes x fits e =
    let a = bind_ok (number_at bytes) (λ v. numbers_at n v.1 >>= λ vs. Ok (v.0 ∷ vs.0, vs.1)) x e in
    let b = bind_ok (numbers_at n a.0.1) (λ vs. Ok (a.0.0 ∷ vs.0, vs.1)) x a.2 in
    let first = number_takes bytes a.0 fits a.1 in
    let others = numbers_take n a.0.1 b.0 first.rest_fits b.1 in
    let made : TakesNumbers (suc n) bytes (a.0.0 ∷ b.0.0) b.0.1 = record {
      text = first.text ++ others.text;
      parts = first.parts ∙ ap (λ (r : List ℕ). first.text ++ r) others.parts ∙ sym (append_assoc first.text others.text b.0.1);
      spelled = (first.text, others.text, refl, first.spelled, others.spelled);
      rest_fits = others.rest_fits;
      count = ap suc others.count;
    } in
    subst (λ (y : List ℕ × List ℕ). TakesNumbers (suc n) bytes y.0 y.1) (ok_is (a.0.0 ∷ b.0.0, b.0.1) x b.2) made

numbers_again : (vs text after : List ℕ) → NumbersText vs text → numbers_at (length vs) (text ++ after) ≡ Ok (vs, after)
unfolding numbers_at
numbers_again [] text after h = rw h refl
numbers_again (v ∷ vs) text after h =
    let regrouped : text ++ after ≡ h.0 ++ (h.1 ++ after) = ap (λ (t : List ℕ). t ++ after) h.2 ∙ append_assoc h.0 h.1 after in
    let first : number_at (text ++ after) ≡ Ok (v, h.1 ++ after) = ap number_at regrouped ∙ number_again v h.0 (h.1 ++ after) h.3 in
    bind_at (number_at (text ++ after)) (λ w. numbers_at (length vs) w.1 >>= λ ws. Ok (w.0 ∷ ws.0, ws.1)) (v, h.1 ++ after) first
    ∙ bind_at (numbers_at (length vs) (h.1 ++ after)) (λ ws. Ok (v ∷ ws.0, ws.1)) (vs, after) (numbers_again vs h.1 after h.4)

ranges_take : (bytes : List ℕ) (x : List ℕ × List ℕ) → IsBytes bytes → ranges_at bytes ≡ Ok x → Takes ack_ranges bytes x.0 x.1
unfolding ranges_at
ranges_take bytes x fits e =
    let a = bind_ok (number_at bytes) (λ n. numbers_at (2 * n.0 + 1) n.1) x e in
    let first = number_takes bytes a.0 fits a.1 in
    let others = numbers_take (2 * a.0.0 + 1) a.0.1 x first.rest_fits a.2 in
    record {
      text = first.text ++ others.text;
      parts = first.parts ∙ ap (λ (r : List ℕ). first.text ++ r) others.parts ∙ sym (append_assoc first.text others.text x.1);
      spelled = (a.0.0, first.text, others.text, refl, others.count, first.spelled, others.spelled);
      rest_fits = others.rest_fits;
    }

ranges_again : (vs text after : List ℕ) → RangesText vs text → ranges_at (text ++ after) ≡ Ok (vs, after)
unfolding ranges_at
ranges_again vs text after h =
    let n = h.0 in
    let regrouped : text ++ after ≡ h.1 ++ (h.2 ++ after) = ap (λ (t : List ℕ). t ++ after) h.3 ∙ append_assoc h.1 h.2 after in
    let first : number_at (text ++ after) ≡ Ok (n, h.2 ++ after) = ap number_at regrouped ∙ number_again n h.1 (h.2 ++ after) h.5 in
    bind_at (number_at (text ++ after)) (λ w. numbers_at (2 * w.0 + 1) w.1) (n, h.2 ++ after) first
    ∙ ap (λ (k : ℕ). numbers_at k (h.2 ++ after)) (sym h.4) ∙ numbers_again vs h.2 after h.6

counts_take : (bytes : List ℕ) (x : Option EcnCounts × List ℕ) → IsBytes bytes → counts_at bytes ≡ Ok x → Takes (ecn_if true) bytes x.0 x.1
unfolding counts_at
counts_take bytes x fits e =
    let a = bind_ok (number_at bytes) (λ p. number_at p.1 >>= λ q. number_at q.1 >>= λ r. Ok (Some (record { ect0 = p.0; ect1 = q.0; ce = r.0 }), r.1)) x e in
    let b = bind_ok (number_at a.0.1) (λ q. number_at q.1 >>= λ r. Ok (Some (record { ect0 = a.0.0; ect1 = q.0; ce = r.0 }), r.1)) x a.2 in
    let c = bind_ok (number_at b.0.1) (λ r. Ok (Some (record { ect0 = a.0.0; ect1 = b.0.0; ce = r.0 }), r.1)) x b.2 in
    let s = number_takes bytes a.0 fits a.1 in
    let t = number_takes a.0.1 b.0 s.rest_fits b.1 in
    let u = number_takes b.0.1 c.0 t.rest_fits c.1 in
    let counts : Option EcnCounts = Some (record { ect0 = a.0.0; ect1 = b.0.0; ce = c.0.0 }) in
    let made : Takes (ecn_if true) bytes counts c.0.1 = record {
      text = s.text ++ (t.text ++ u.text);
      parts = s.parts ∙ ap (λ (r : List ℕ). s.text ++ r) (t.parts ∙ ap (λ (r : List ℕ). t.text ++ r) u.parts ∙ sym (append_assoc t.text u.text c.0.1)) ∙ sym (append_assoc s.text (t.text ++ u.text) c.0.1);
      spelled = (s.text, t.text ++ u.text, refl, s.spelled, (t.text, u.text, refl, t.spelled, (u.text, [], sym (append-nil u.text), u.spelled, refl)));
      rest_fits = u.rest_fits;
    } in
    subst (λ (y : Option EcnCounts × List ℕ). Takes (ecn_if true) bytes y.0 y.1) (ok_is (counts, c.0.1) x c.2) made

counts_again : (v : Option EcnCounts) (text after : List ℕ) → EcnText v text → counts_at (text ++ after) ≡ Ok (v, after)
unfolding counts_at
counts_again None text after h = absurd h
counts_again (Some c) text after h =
    let k = h.4 in
    let l = k.4 in
    let first : number_at (text ++ after) ≡ Ok (c.ect0, h.1 ++ after) = ap (λ (t : List ℕ). number_at (t ++ after)) h.2 ∙ ap number_at (append_assoc h.0 h.1 after) ∙ number_again c.ect0 h.0 (h.1 ++ after) h.3 in
    let second : number_at (h.1 ++ after) ≡ Ok (c.ect1, k.1 ++ after) = ap (λ (t : List ℕ). number_at (t ++ after)) k.2 ∙ ap number_at (append_assoc k.0 k.1 after) ∙ number_again c.ect1 k.0 (k.1 ++ after) k.3 in
    let third : number_at (k.1 ++ after) ≡ Ok (c.ce, after) =
    ap (λ (t : List ℕ). number_at (t ++ after)) (l.2 ∙ ap (λ (r : List ℕ). l.0 ++ r) l.4 ∙ append-nil l.0) ∙ number_again c.ce l.0 after l.3 in
    bind_at (number_at (text ++ after)) (λ p. number_at p.1 >>= λ q. number_at q.1 >>= λ r. Ok (Some (record { ect0 = p.0; ect1 = q.0; ce = r.0 }), r.1)) (c.ect0, h.1 ++ after) first
    ∙ bind_at (number_at (h.1 ++ after)) (λ q. number_at q.1 >>= λ r. Ok (Some (record { ect0 = c.ect0; ect1 = q.0; ce = r.0 }), r.1)) (c.ect1, k.1 ++ after) second
    ∙ bind_at (number_at (k.1 ++ after)) (λ r. Ok (Some (record { ect0 = c.ect0; ect1 = c.ect1; ce = r.0 }), r.1)) (c.ce, after) third

pub field_takes : (f : Field) (bytes : List ℕ) (x : Value f × List ℕ) → IsBytes bytes → field_at f bytes ≡ Ok x → Takes f bytes x.0 x.1
field_takes number bytes x fits e = number_takes bytes x fits e
field_takes (number_if true) bytes x fits e =
    let t = number_takes bytes x fits e in
    record { text = t.text; parts = t.parts; spelled = t.spelled; rest_fits = t.rest_fits }
field_takes (number_if false) bytes x fits e =
    let made : Takes (number_if false) bytes 0 bytes = record { text = []; parts = refl; spelled = (refl, refl); rest_fits = fits } in
    subst (λ (y : ℕ × List ℕ). Takes (number_if false) bytes y.0 y.1) (ok_is (0, bytes) x e) made
field_takes counted bytes x fits e = counted_takes bytes x fits e
field_takes (counted_if true) bytes x fits e =
    let t = counted_takes bytes x fits e in
    record { text = t.text; parts = t.parts; spelled = t.spelled; rest_fits = t.rest_fits }
field_takes (counted_if false) bytes x fits e =
    let nothing : IsBytes [] = λ i. omega arith in
    let made : Takes (counted_if false) bytes bytes [] = record { text = bytes; parts = sym (append-nil bytes); spelled = (refl, refl); rest_fits = nothing } in
    subst (λ (y : List ℕ × List ℕ). Takes (counted_if false) bytes y.0 y.1) (ok_is (bytes, []) x e) made
field_takes (plain n) bytes x fits e = plain_takes n bytes x fits e
field_takes identifier bytes x fits e = identifier_takes bytes x fits e
field_takes ack_ranges bytes x fits e = ranges_take bytes x fits e
field_takes (ecn_if true) bytes x fits e = counts_take bytes x fits e
field_takes (ecn_if false) bytes x fits e =
    let made : Takes (ecn_if false) bytes None bytes = record { text = []; parts = refl; spelled = (refl, refl); rest_fits = fits } in
    subst (λ (y : Option EcnCounts × List ℕ). Takes (ecn_if false) bytes y.0 y.1) (ok_is (None, bytes) x e) made

pub field_again : (f : Field) (v : Value f) (text after : List ℕ) → FieldText f v text after → field_at f (text ++ after) ≡ Ok (v, after)
field_again number v text after h = number_again v text after h
field_again (number_if true) v text after h = number_again v text after h
field_again (number_if false) v text after h = rw (h.0, h.1) refl
field_again counted v text after h = counted_again v text after h
field_again (counted_if true) v text after h = counted_again v text after h
field_again (counted_if false) v text after h = rw (h.0, h.1, append-nil v) refl
field_again (plain n) v text after h = ap (λ (t : List ℕ). plain_at n (t ++ after)) h.1 ∙ plain_again n v after h.0
field_again identifier v text after h = identifier_again v text after h.0 h.1
field_again ack_ranges v text after h = ranges_again v text after h
field_again (ecn_if true) v text after h = counts_again v text after h
field_again (ecn_if false) v text after h = rw (h.0, h.1) refl

-- ---- all fields

pub record TakesAll (fs : List Field) (bytes : List ℕ) (vs : Values fs) (after : List ℕ) : Type 0 where
  pub text : List ℕ
  pub parts : bytes ≡ text ++ after
  pub spelled : FieldsText fs vs text after
  pub rest_fits : IsBytes after

pub fields_take : (fs : List Field) (bytes : List ℕ) (x : Values fs × List ℕ) → IsBytes bytes → fields_at fs bytes ≡ Ok x → TakesAll fs bytes x.0 x.1
fields_take [] bytes x fits e =
    let made : TakesAll [] bytes tt bytes = record { text = []; parts = refl; spelled = refl; rest_fits = fits } in
    subst (λ (y : Values [] × List ℕ). TakesAll [] bytes y.0 y.1) (ok_is (tt, bytes) x e) made
fields_take (f ∷ fs) bytes x fits e =
    let a = bind_ok (field_at f bytes) (λ v. fields_at fs v.1 >>= λ vs. Ok ((v.0, vs.0), vs.1)) x e in
    let b = bind_ok (fields_at fs a.0.1) (λ vs. Ok ((a.0.0, vs.0), vs.1)) x a.2 in
    let first = field_takes f bytes a.0 fits a.1 in
    let others = fields_take fs a.0.1 b.0 first.rest_fits b.1 in
    let whole : bytes ≡ (first.text ++ others.text) ++ b.0.1 = first.parts ∙ ap (λ (r : List ℕ). first.text ++ r) others.parts ∙ sym (append_assoc first.text others.text b.0.1) in
    let made : TakesAll (f ∷ fs) bytes (a.0.0, b.0.0) b.0.1 = record {
      text = first.text ++ others.text;
      parts = whole;
      spelled = (first.text, others.text, refl, subst (λ (r : List ℕ). FieldText f a.0.0 first.text r) others.parts first.spelled, others.spelled);
      rest_fits = others.rest_fits;
    } in
    subst (λ (y : Values (f ∷ fs) × List ℕ). TakesAll (f ∷ fs) bytes y.0 y.1) (ok_is ((a.0.0, b.0.0), b.0.1) x b.2) made

pub fields_again : (fs : List Field) (vs : Values fs) (text after : List ℕ) → FieldsText fs vs text after → fields_at fs (text ++ after) ≡ Ok (vs, after)
fields_again [] vs text after h = rw h refl
fields_again (f ∷ fs) vs text after h =
    let front = h.0 in
    let back = h.1 in
    let regrouped : text ++ after ≡ front ++ (back ++ after) = ap (λ (t : List ℕ). t ++ after) h.2 ∙ append_assoc front back after in
    let first : field_at f (text ++ after) ≡ Ok (vs.0, back ++ after) = ap (field_at f) regrouped ∙ field_again f vs.0 front (back ++ after) h.3 in
    bind_at (field_at f (text ++ after)) (λ v. fields_at fs v.1 >>= λ ws. Ok ((v.0, ws.0), ws.1)) (vs.0, back ++ after) first
    ∙ bind_at (fields_at fs (back ++ after)) (λ ws. Ok ((vs.0, ws.0), ws.1)) (vs.1, after) (fields_again fs vs.1 back after h.4)
