-- The reading of a payload is that of the grammar.
use Rattle.std.proofs.lemmas.Bool.Decides.{nat_tests}
use Rattle.std.proofs.Common.{◌≡◌, ℕ, zero, suc, ◌+◌, ◌/◌, ◌-◌, ◌^◌, ◌<◌, ◌≤◌, List, [], ◌∷◌, ◌++◌, length, Bool, true, false, ltb, MatchOption, Option, Some, None, is_some, Result, Ok, Err, refl, sym, ap, subst, ◌∙◌, arith}
use Rattle.std.specs.List.{flat_map, AllByRecursion}
use Rattle.std.proofs.lemmas.Bool.{ltb-false}
use Rattle.std.proofs.lemmas.List.{length-append}
use Rattle.std.proofs.lemmas.List.Concat.{flat_map-cons}
use Rattle.qs_wire.specs.declared.fault.WireFault.{WireFault}
use Rattle.qs_wire.specs.declared.reading.Broken.{Broken}
use Rattle.qs_wire.specs.Faults.{code_of}
use Rattle.qs_wire.specs.Varint.{short}
use Rattle.qs_wire.specs.declared.frame.EcnCounts.{EcnCounts}
use Rattle.qs_wire.specs.Layout.{FrameValue, padding, ping, ack, reset_stream, stop_sending, crypto, new_token, stream, max_data, max_stream_data, max_streams, data_blocked, stream_data_blocked, streams_blocked, new_connection_id, retire_connection_id, path_challenge, path_response, connection_close, application_close, handshake_done, PlacedValue, Field, number, number_if, counted, counted_if, plain, identifier, ack_ranges, ecn_if, Value, Values, layout, frame_of, number_of_type}
use Rattle.qs_wire.specs.Grammar.{FieldText, FieldsText, RangesText, FrameText, Meets, Begin, frames_of, PlacedText, PayloadText, NoFrame, FaultHere, FaultyText, spelled, short_field, short_fields, canonical, canonical_all, Fits, NumbersText, AreRanges, EcnText, counts_of, CountsFit, short_ecn, IsIdentifierLength}
use Rattle.qs_wire.specs.Reading.{Reading, with_first, placed_at, one_frame, frame_at, frames_at, reading_from, reading_of}
use Rattle.qs_wire.proofs.Numbers.{IsBytes, short_positive, short_spells}
use Rattle.qs_wire.proofs.Shapes.{frame_takes, frame_again}
use Rattle.qs_wire.proofs.FaultLaws.{fault_here}
use Rattle.qs_wire.proofs.Payloads.{is_shorter}

-- ---- what is read stands in the payload

-- how a reading ends: with no byte left, or with a fault
abbrev Ends : ℕ → Option WireFault → List ℕ → Type 0
Ends place None rest = rest ≡ []
Ends place (Some w) rest = (w.place ≡ place) × (w.code ≡ code_of w.kind) × FaultHere w.kind w.frame_type rest × NoFrame rest × (0 < length rest)

-- what a reading of a whole payload says of it
abbrev pub Ending : List PlacedValue → Option WireFault → List ℕ → Type 0
Ending left None payload = PlacedText left payload
Ending left (Some w) payload = FaultyText left w payload

record Read (place : ℕ) (bytes : List ℕ) (r : Reading) : Type 0 where
  rest : List ℕ
  begins : Begin place r.left bytes rest
  shorter : length rest ≤ length bytes
  ends : Ends (place + (length bytes - length rest)) r.fault rest

one_more_read : (place n : ℕ) (b : ℕ) (bs : List ℕ) (r : Result (ℕ × FrameValue × List ℕ) Broken) → IsBytes (b ∷ bs) → frame_at (b ∷ bs) ≡ r
    → ((p : ℕ) (x : List ℕ) → IsBytes x → length x ≤ n → Read p x (frames_at n p x)) → length bs ≤ n
    → Read place (b ∷ bs) (one_frame place (b ∷ bs) (frames_at n) r)
one_more_read place n b bs (Err e) fits is more le =
    let some : 0 < length (b ∷ bs) = omega arith in
    let h = fault_here (b ∷ bs) e fits some is in
    record { rest = b ∷ bs; begins = refl; shorter = omega arith; ends = (omega arith, refl, h.0, h.1, some) }
one_more_read place n b bs (Ok x) fits is more le =
    let bytes = b ∷ bs in
    let t = frame_takes bytes x fits is in
    let text = t.taken.text in
    let fewer : length x.2 < length bytes = is_shorter bytes x fits is in
    let len : length bytes ≡ length text + length x.2 = ap length t.taken.parts ∙ length-append text x.2 in
    let next = place + (length bytes - length x.2) in
    let at : next ≡ place + length text = omega arith in
    let others = more next x.2 t.taken.rest_fits (omega arith) in
    let end : next + (length x.2 - length others.rest) ≡ place + (length bytes - length others.rest) = omega (arith, others.shorter) in
    record {
      rest = others.rest;
      begins = (text, x.2, t.taken.parts, refl, (t.taken.shape, t.meets), sym t.numbered, subst (λ (p : ℕ). Begin p (frames_at n next x.2).left x.2 others.rest) at others.begins);
      shorter = omega (arith, others.shorter);
      ends = subst (λ (p : ℕ). Ends p (frames_at n next x.2).fault others.rest) end others.ends;
    }

frames_read : (n place : ℕ) (bytes : List ℕ) → IsBytes bytes → length bytes ≤ n → Read place bytes (frames_at n place bytes)
unfolding frames_at
frames_read n place [] fits le = record { rest = []; begins = refl; shorter = omega arith; ends = refl }
frames_read zero place (b ∷ bs) fits le = absurd (omega arith)
frames_read (suc n) place (b ∷ bs) fits le =
    one_more_read place n b bs (frame_at (b ∷ bs)) fits refl (λ p x h k. frames_read n p x h k) (omega arith)

pub text_positive : (frame : FrameValue) (text after : List ℕ) → FrameText frame text after → 0 < length text
text_positive frame text after h =
    omega (arith, ap length h.0.parts, length-append (short (number_of_type h.0.type)) h.0.body, short_positive (number_of_type h.0.type))

none_in_nothing : NoFrame []
none_in_nothing = λ frame text after parts h. omega (arith, ap length parts, length-append text after, text_positive frame text after h)

ending : (b : ℕ) (bs : List ℕ) (left : List PlacedValue) (fault : Option WireFault) (rest : List ℕ) → Begin 0 left (b ∷ bs) rest → length rest ≤ length (b ∷ bs)
    → Ends (0 + (length (b ∷ bs) - length rest)) fault rest → Ending left fault (b ∷ bs)
ending b bs [] None rest begins shorter ends = absurd (omega (arith, ap length begins, ap length ends))
ending b bs (p ∷ ps) None rest begins shorter ends = (omega arith, subst (λ (r : List ℕ). Begin 0 (p ∷ ps) (b ∷ bs) r) ends begins)
ending b bs left (Some w) rest begins shorter ends =
    let left : rest ≡ [] → b ∷ bs ≡ [] = λ e. absurd (omega (arith, ap length e, ends.4)) in
    record { rest = rest; begins = begins; some = left; place = omega (arith, ends.0); code = ends.1; here = ends.2; no_frame = ends.3 }

-- what is read of a payload, and the fault, are those that stand there
pub payload_read : (payload : List ℕ) → IsBytes payload → Ending (reading_of payload).left (reading_of payload).fault payload
unfolding reading_from
payload_read [] fits = record { rest = []; begins = refl; some = λ e. e; place = refl; code = refl; here = (refl, refl); no_frame = none_in_nothing }
payload_read (b ∷ bs) fits =
    let r = frames_read (length (b ∷ bs)) 0 (b ∷ bs) fits (omega arith) in
    ending b bs (reading_of (b ∷ bs)).left (reading_of (b ∷ bs)).fault r.rest r.begins r.shorter r.ends

-- ---- what stands in the payload is read

begin_again : (ps : List PlacedValue) (n place : ℕ) (bytes : List ℕ) → length bytes ≤ n → Begin place ps bytes [] → frames_at n place bytes ≡ record { left = ps; fault = None }
unfolding frames_at
begin_again [] n place [] le h = refl
begin_again [] n place (b ∷ bs) le h = absurd cc
begin_again (p ∷ ps) n place [] le h = absurd (omega (arith, ap length h.2, length-append h.0 h.1, text_positive p.frame h.0 h.1 h.4))
begin_again (p ∷ ps) zero place (b ∷ bs) le h = absurd (omega arith)
begin_again (p ∷ ps) (suc n) place (b ∷ bs) le h =
    let text = h.0 in
    let after = h.1 in
    let len : length (b ∷ bs) ≡ length text + length after = ap length h.2 ∙ length-append text after in
    let some = text_positive p.frame text after h.4 in
    let first : frame_at (b ∷ bs) ≡ Ok (number_of_type h.4.0.type, p.frame, after) = ap frame_at h.2 ∙ frame_again p.frame text after h.4 in
    let next : place + (length (b ∷ bs) - length after) ≡ place + length text = omega arith in
    let others = begin_again ps n (place + length text) after (omega arith) h.6 in
    let is : placed_at place (number_of_type h.4.0.type) p.frame ≡ p = ap (λ (t : ℕ). placed_at place t p.frame) (sym h.5) ∙ ap (λ (q : ℕ). placed_at q p.frame_type p.frame) (sym h.3) in
    ap (one_frame place (b ∷ bs) (frames_at n)) first
    ∙ ap (λ (q : ℕ). with_first (placed_at place (number_of_type h.4.0.type) p.frame) (frames_at n q after)) next
    ∙ ap (with_first (placed_at place (number_of_type h.4.0.type) p.frame)) others
    ∙ ap (λ (q : PlacedValue). record { left = q ∷ ps; fault = None }) is

pub placed_again : (ps : List PlacedValue) (payload : List ℕ) → PlacedText ps payload → reading_of payload ≡ record { left = ps; fault = None }
unfolding reading_from
placed_again [] payload h = absurd (omega arith)
placed_again (p ∷ ps) [] h = absurd (omega (arith, ap length h.1.2, length-append h.1.0 h.1.1, text_positive p.frame h.1.0 h.1.1 h.1.4))
placed_again (p ∷ ps) (b ∷ bs) h = begin_again (p ∷ ps) (length (b ∷ bs)) 0 (b ∷ bs) (omega arith) h.1

pub payload_again : (fs : List FrameValue) (payload : List ℕ) → PayloadText fs payload → (frames_of (reading_of payload).left ≡ fs) × ((reading_of payload).fault ≡ None)
payload_again fs payload h = grind (arith, nat_tests, placed_again)

-- ---- the canonical text

-- counts that are there and can be spelled
abbrev EcnFits : Option EcnCounts → Type 0
EcnFits None = ⊥
EcnFits (Some c) = CountsFit (Some c)

-- values that the canonical text can spell
abbrev FieldFits : (f : Field) → Value f → Type 0
FieldFits number v = v < 2 ^ 62
FieldFits (number_if true) v = v < 2 ^ 62
FieldFits (number_if false) v = v ≡ 0
FieldFits counted v = length v < 2 ^ 62
FieldFits (counted_if true) v = length v < 2 ^ 62
FieldFits (counted_if false) v = ⊥
FieldFits (plain n) v = length v ≡ n
FieldFits identifier v = IsIdentifierLength (length v)
FieldFits ack_ranges v = AreRanges v
FieldFits (ecn_if true) v = EcnFits v
FieldFits (ecn_if false) v = v ≡ None

abbrev FieldsFit : (fs : List Field) → Values fs → Type 0
FieldsFit [] vs = Unit {0}
FieldsFit (f ∷ fs) vs = FieldFits f vs.0 × FieldsFit fs vs.1

short_numbers_text : (vs : List ℕ) → AllByRecursion (λ v. v < 2 ^ 62) vs → NumbersText vs (flat_map short vs)
short_numbers_text [] h = refl
short_numbers_text (v ∷ vs) h = (short v, flat_map short vs, flat_map-cons short v vs, short_spells v h.0, short_numbers_text vs h.1)

short_ecn_text : (v : Option EcnCounts) → EcnFits v → EcnText v (short_ecn v)
short_ecn_text None h = absurd h
short_ecn_text (Some c) h = short_numbers_text (counts_of c) h

short_ranges_text : (v : List ℕ) → AreRanges v → RangesText v (short ((length v - 1) / 2) ++ flat_map short v)
short_ranges_text v h =
    let n : ℕ = (length v - 1) / 2 in
    let is : n ≡ h.pairs = omega (arith, h.odd) in
    (n, short n, flat_map short v, refl, omega (arith, h.odd), short_spells n (omega (arith, h.pairs_below)), short_numbers_text v h.below)

short_field_text : (f : Field) (v : Value f) (after : List ℕ) → FieldFits f v → FieldText f v (short_field f v) after
short_field_text number v after h = short_spells v h
short_field_text (number_if true) v after h = short_spells v h
short_field_text (number_if false) v after h = (h, refl)
short_field_text counted v after h = (short (length v), short_spells (length v) h, refl)
short_field_text (counted_if true) v after h = (short (length v), short_spells (length v) h, refl)
short_field_text (counted_if false) v after h = absurd h
short_field_text (plain n) v after h = (h, refl)
short_field_text identifier v after h = (h, refl)
short_field_text ack_ranges v after h = short_ranges_text v h
short_field_text (ecn_if true) v after h = short_ecn_text v h
short_field_text (ecn_if false) v after h = (h, ap short_ecn h)

short_fields_text : (fs : List Field) (vs : Values fs) (after : List ℕ) → FieldsFit fs vs → FieldsText fs vs (short_fields fs vs) after
short_fields_text [] vs after h = refl
short_fields_text (f ∷ fs) vs after h =
    (short_field f vs.0, short_fields fs vs.1, refl, short_field_text f vs.0 (short_fields fs vs.1 ++ after) h.0, short_fields_text fs vs.1 after h.1)

offset_fits : (b : Bool) (o : ℕ) → ltb 0 o ≡ b → o < 2 ^ 62 → FieldFits (number_if b) o
offset_fits true o is h = h
offset_fits false o is h = omega (arith, ltb-false 0 o is)

ecn_fits : (v : Option EcnCounts) → CountsFit v → FieldFits (ecn_if (is_some v)) v
ecn_fits None h = refl
ecn_fits (Some c) h = h

spelled_fits : (frame : FrameValue) → Fits frame → FieldsFit (layout (spelled frame).type) (spelled frame).values
spelled_fits padding h = tt
spelled_fits ping h = tt
spelled_fits (ack largest delay ranges ecn) h = (h.0, (h.1, (h.2, (ecn_fits ecn h.4, tt))))
spelled_fits (reset_stream s code size) h = (h.0, (h.1, (h.2, tt)))
spelled_fits (stop_sending s code) h = (h.0, (h.1, tt))
spelled_fits (crypto o bytes) h = (omega arith, (omega arith, tt))
spelled_fits (new_token bytes) h = (h, tt)
spelled_fits (stream s o fin bytes) h = (h.0, (offset_fits (ltb 0 o) o refl (omega arith), (omega arith, tt)))
spelled_fits (max_data maximum) h = (h, tt)
spelled_fits (max_stream_data s maximum) h = (h.0, (h.1, tt))
spelled_fits (max_streams dir count) h = (omega arith, tt)
spelled_fits (data_blocked limit) h = (h, tt)
spelled_fits (stream_data_blocked s limit) h = (h.0, (h.1, tt))
spelled_fits (streams_blocked dir count) h = (omega arith, tt)
spelled_fits (new_connection_id sequence retire id token) h = (h.0, (h.1, (h.2, (h.3, tt))))
spelled_fits (retire_connection_id sequence) h = (h, tt)
spelled_fits (path_challenge bytes) h = (h, tt)
spelled_fits (path_response bytes) h = (h, tt)
spelled_fits (connection_close code type reason) h = (h.0, (h.1, (h.2, tt)))
spelled_fits (application_close code reason) h = (h.0, (h.1, tt))
spelled_fits handshake_done h = tt

spelled_is : (frame : FrameValue) → frame_of (spelled frame).type (spelled frame).values ≡ frame
spelled_is padding = refl
spelled_is _ = refl

fits_meets : (frame : FrameValue) → Fits frame → Meets frame
fits_meets frame h = grind (arith, nat_tests)

pub canonical_text : (frame : FrameValue) (after : List ℕ) → Fits frame → FrameText frame (canonical frame) after
unfolding canonical
canonical_text frame after h =
    let s = spelled frame in (
      record {
        type = s.type;
        values = s.values;
        body = short_fields (layout s.type) s.values;
        parts = refl;
        fields = short_fields_text (layout s.type) s.values after (spelled_fits frame h);
        is_frame = spelled_is frame;
      },
      fits_meets frame h,
    )

canonical_begin : (fs : List FrameValue) (place : ℕ) → AllByRecursion Fits fs → (ps : List PlacedValue) × Begin place ps (canonical_all fs) [] × (frames_of ps ≡ fs)
canonical_begin [] place h = ([], refl, refl)
canonical_begin (f ∷ fs) place h =
    let others = canonical_begin fs (place + length (canonical f)) h.1 in
    let text = canonical_text f (canonical_all fs) h.0 in (
      placed_at place (number_of_type text.0.type) f ∷ others.0,
      (canonical f, canonical_all fs, flat_map-cons canonical f fs, refl, text, refl, others.1),
      ap (λ (l : List FrameValue). f ∷ l) others.2,
    )

pub canonical_payload : (fs : List FrameValue) → 0 < length fs → AllByRecursion Fits fs → PayloadText fs (canonical_all fs)
canonical_payload [] some h = absurd (omega arith)
canonical_payload (f ∷ fs) some h =
    let b = canonical_begin (f ∷ fs) 0 h in
    (b.0, (some_of b.0 b.2, b.1), b.2)
  where
    some_of : (ps : List PlacedValue) → frames_of ps ≡ f ∷ fs → 0 < length ps
    some_of [] e = absurd cc
    some_of (p ∷ ps) e = omega arith

pub one_payload : (fs gs : List FrameValue) (payload : List ℕ) → PayloadText fs payload → PayloadText gs payload → gs ≡ fs
one_payload fs gs payload h k = sym (payload_again gs payload k).0 ∙ (payload_again fs payload h).0

match_ending : (left : List PlacedValue) (fault : Option WireFault) (payload : List ℕ) → Ending left fault payload → MatchOption fault (PlacedText left payload) (λ w. FaultyText left w payload)
match_ending left None payload h = h
match_ending left (Some w) payload h = h

pub found : (payload : List ℕ) → IsBytes payload → MatchOption (reading_of payload).fault (PlacedText (reading_of payload).left payload) (λ w. FaultyText (reading_of payload).left w payload)
found payload fits = match_ending (reading_of payload).left (reading_of payload).fault payload (payload_read payload fits)
