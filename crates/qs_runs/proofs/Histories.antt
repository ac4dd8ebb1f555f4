-- What one thing more does to the pasts of both ends, and what landed.
use Rattle.std.proofs.lemmas.Bool.Decides.{nat_tests}
use Rattle.std.proofs.Common.{arith}
use Rattle.std.proofs.Common.{◌≡◌, ℕ, zero, suc, Bool, true, false, not, ◌&&◌, ◌||◌, ◌==◌, nat_lt, nat_eq, nat_le, if◌then◌else◌, List, [], ◌∷◌, ◌++◌, map, Option, Some, None, is_some, option_map, ◌⊎◌, inl, inr, Result, Ok, Err, slice_get, refl, sym, ap, ◌∙◌, subst, append-nil, append_assoc}
use Rattle.std.specs.Prelude.{flat_map}
use Rattle.std.specs.List.{AllByRecursion, list_any}
use Rattle.std.proofs.lemmas.Grind.{flat_map-append}
use Rattle.std.proofs.lemmas.List.{map-append}
use Rattle.std.proofs.lemmas.List.Folds.{list_any-append}
use Rattle.std.proofs.lemmas.Option.{none-some, same_Some, slice_get-map}
use Rattle.std.proofs.lemmas.Bool.{false≢true, true≢false, eqb-true, or_left}
use Rattle.qs_wire.specs.Layout.{FrameValue, reset_stream, stop_sending, stream, max_data, max_stream_data, max_streams, data_blocked, stream_data_blocked, streams_blocked, ping}
use Rattle.qs_wire.specs.Grammar.{Fits, frames_of}
use Rattle.qs_wire.specs.Reading.{reading_of}
use Rattle.qs_send.specs.Records.{Among}
use Rattle.qs_send.specs.declared.piece.Item.TheVariants as items
use Rattle.qs_calls.specs.declared.closing.Received.TheVariants.{Done}
use Rattle.qs_calls.specs.declared.making.Made.{Made}
use Rattle.qs_calls.specs.declared.making.MakeFault.{MakeFault}
use Rattle.qs_calls.specs.declared.settings.Settings.{Settings}
use Rattle.qs_calls.specs.declared.token.Token.{Token}
use Rattle.qs_calls.specs.declared.token.TokenFault.{TokenFault}
use Rattle.qs_calls.specs.declared.token.TokenFault.TheVariants as tokens
use Rattle.qs_calls.specs.declared.event.Side.{Side}
use Rattle.qs_machine.specs.Ends.{End}
use Rattle.qs_machine.specs.Seen.{Seen, Stream, Control, seen, seen_all}
use Rattle.qs_machine.specs.Plains.{is_plain, frames_in}
use Rattle.qs_machine.specs.Making.{MakeStep, MakeAt, make_refusal}
use Rattle.qs_machine.specs.Owner.{Certain, first_refusal, refuse_if}
use Rattle.qs_machine.specs.Alone.{is_ours, TakeBy, TakeAllBy}
use Rattle.qs_machine.specs.Receiving.{ReceiveBy}
use Rattle.qs_calls.specs.declared.closing.Closed.{Closed}
use Rattle.qs_machine.specs.EndStep.{Call, Answer, EndStep, Receive, TakeFrame, TakeFrames, TokenAcked, Make}
use Rattle.qs_machine.proofs.Pieces.{All_at}
use Rattle.qs_machine.proofs.Plains.{differ_covers, differ_turned, close_comes}
use Rattle.qs_runs.specs.Logs.{Happening, History, Effect, Wrote, Gave, Ended, Stopped, BrokeOff, Sent, Came, CameAlone, Acked, NotedClosed, other, same_side, acked_effects, effects_of, effects, wrote_in, gave_in, stops_in, breaks_in, ends_first, sent_in, comes_in, took_in, acks_in, is_in, made, payload, taken, closes_in, was_noted_closed, must_land, HasMade, HasLanded}
use Rattle.qs_runs.specs.Worlds.{World, end_of, IsFrom, IsPayload, May}
use Rattle.qs_runs.specs.Invariant.{HasNoFault, WorldOk}
use Rattle.qs_runs.specs.Pasts.{Past, past_of, past, packets_in, Holds, Tells, WasConfirmed, Landed}
use Rattle.qs_runs.proofs.Past.{with_effect, with_effects}
use Rattle.qs_runs.proofs.PeerMoves.{with_theirs}
use Rattle.qs_runs.proofs.OwnMoves.{Hears, Sends}
use Rattle.qs_runs.proofs.Frames.{MayCome}
use Rattle.qs_runs.proofs.Lists.{slice_get-append, Among_left}
use Rattle.qs_runs.proofs.Wire.{text_faultless, text_fits}

-- What an end lived through, as its history tells.

-- what one side makes comes to the other
pub theirs_mine : (s : Side) (h : History) → (past (other s) h).theirs ≡ (past s h).mine
theirs_mine s h = grind (arith, nat_tests)

-- One effect more

-- it told the end of the stream
abbrev tells_end : ℕ → Effect → Bool
tells_end n (Ended m) = n == m
tells_end n x = false

module _ (x : Effect) where
  one_more : {X : Type 0} (f : Effect → List X) (xs : List Effect) → flat_map f (xs ++ x ∷ []) ≡ flat_map f xs ++ f x
  one_more f xs = flat_map-append f xs (x ∷ []) ∙ ap (λ ys. flat_map f xs ++ ys) (append-nil (f x))

  any_more : (f : Effect → Bool) (xs : List Effect) → list_any f (xs ++ x ∷ []) ≡ (if f x then true else list_any f xs)
  any_more f xs = grind (arith, nat_tests, list_any-append)

ends_more : (x : Effect) (n : ℕ) (xs : List Effect) → ends_first n (xs ++ x ∷ []) ≡ (if tells_end n x && not (list_any (stops_in n) xs) then true else ends_first n xs)
ends_more (Ended m) n [] = at_first (n == m)
  where
    at_first : (b : Bool) → (b || false) ≡ (if b && true then true else false)
    at_first true = refl
    at_first false = refl
ends_more (Stopped m) n [] = at_first (n == m)
  where
    at_first : (b : Bool) → (not b && false) ≡ false
    at_first true = refl
    at_first false = refl
ends_more x n [] = refl
ends_more x n (Ended m ∷ xs) = ap (λ b. n == m || b) (ends_more x n xs) ∙ by (n == m) (tells_end n x && not (list_any (stops_in n) xs)) (ends_first n xs)
  where
    by : (a b c : Bool) → (a || (if b then true else c)) ≡ (if b then true else (a || c))
    by true true c = refl
    by true false c = refl
    by false b c = refl
ends_more x n (Stopped m ∷ xs) = ap (λ b. not (n == m) && b) (ends_more x n xs) ∙ by (n == m) (tells_end n x) (list_any (stops_in n) xs) (ends_first n xs)
  where
    by : (a b c d : Bool) → (not a && (if b && not c then true else d)) ≡ (if b && not (a || c) then true else (not a && d))
    by true true c d = refl
    by true false c d = refl
    by false b c d = refl
ends_more x n (y ∷ xs) = ends_more x n xs

-- as the effect tells
abbrev with_one : Effect → List Effect → Past → Past
with_one x xs p =
    record p {
      mine = map frames_in (flat_map sent_in xs ++ sent_in x);
      bytes = λ n. flat_map (wrote_in n) xs ++ wrote_in n x;
      gave = λ n. flat_map (gave_in n) xs ++ gave_in n x;
      stopped = λ n. if stops_in n x then true else list_any (stops_in n) xs;
      broken = λ n. if breaks_in n x then true else list_any (breaks_in n) xs;
      ended = λ n. if tells_end n x && not (list_any (stops_in n) xs) then true else ends_first n xs;
      processed = λ k. if comes_in k x then true else list_any (comes_in k) xs;
      taken = flat_map took_in xs ++ took_in x;
      tokens = λ k. if acks_in k x then true else list_any (acks_in k) xs;
    }

-- of what it doesn't speak nothing is added
module _ (xs ys : List Effect) where
  abbrev before : Past
  before = past_of xs ys

  no_packets : map frames_in (flat_map sent_in xs ++ []) ≡ packets_in xs
  no_packets = ap (map frames_in) (append-nil (flat_map sent_in xs))

  one_is : (x : Effect) → with_one x xs before ≡ with_effect x before
  one_is (Wrote n bytes) = λ i. record (with_effect (Wrote n bytes) before) { mine = no_packets i; gave = λ m. append-nil (before.gave m) i; taken = append-nil before.taken i }
  one_is (Gave n bytes) = λ i. record (with_effect (Gave n bytes) before) { mine = no_packets i; bytes = λ m. append-nil (before.bytes m) i; taken = append-nil before.taken i }
  one_is (Ended n) = λ i. record (with_effect (Ended n) before) { mine = no_packets i; bytes = λ m. append-nil (before.bytes m) i; gave = λ m. append-nil (before.gave m) i; taken = append-nil before.taken i }
  one_is (Stopped n) = λ i. record (with_effect (Stopped n) before) { mine = no_packets i; bytes = λ m. append-nil (before.bytes m) i; gave = λ m. append-nil (before.gave m) i; taken = append-nil before.taken i }
  one_is (BrokeOff n) = λ i. record (with_effect (BrokeOff n) before) { mine = no_packets i; bytes = λ m. append-nil (before.bytes m) i; gave = λ m. append-nil (before.gave m) i; taken = append-nil before.taken i }
  one_is (Sent text) = λ i. record (with_effect (Sent text) before) { mine = map-append frames_in (flat_map sent_in xs) (text ∷ []) i; bytes = λ m. append-nil (before.bytes m) i; gave = λ m. append-nil (before.gave m) i; taken = append-nil before.taken i }
  one_is (Came k bytes) = λ i. record (with_effect (Came k bytes) before) { mine = no_packets i; bytes = λ m. append-nil (before.bytes m) i; gave = λ m. append-nil (before.gave m) i }
  one_is (CameAlone frames) = λ i. record (with_effect (CameAlone frames) before) { mine = no_packets i; bytes = λ m. append-nil (before.bytes m) i; gave = λ m. append-nil (before.gave m) i }
  one_is (Acked token) = λ i. record (with_effect (Acked token) before) { mine = no_packets i; bytes = λ m. append-nil (before.bytes m) i; gave = λ m. append-nil (before.gave m) i; taken = append-nil before.taken i }
  one_is NotedClosed = λ i. record before { mine = no_packets i; bytes = λ m. append-nil (before.bytes m) i; gave = λ m. append-nil (before.gave m) i; taken = append-nil before.taken i }

  past_one : (x : Effect) → past_of (xs ++ x ∷ []) ys ≡ with_effect x before
  past_one x =
      (λ i. record {
        mine = map frames_in (one_more x sent_in xs i);
        theirs = packets_in ys;
        bytes = λ n. one_more x (wrote_in n) xs i;
        gave = λ n. one_more x (gave_in n) xs i;
        stopped = λ n. any_more x (stops_in n) xs i;
        broken = λ n. any_more x (breaks_in n) xs i;
        ended = λ n. ends_more x n xs i;
        processed = λ k. any_more x (comes_in k) xs i;
        taken = one_more x took_in xs i;
        tokens = λ k. any_more x (acks_in k) xs i;
      }) ∙ one_is x

-- and several
past_more : (zs xs ys : List Effect) → past_of (xs ++ zs) ys ≡ with_effects zs (past_of xs ys)
past_more [] xs ys = ap (λ us. past_of us ys) (append-nil xs)
past_more (z ∷ zs) xs ys = ap (λ us. past_of us ys) (sym (append_assoc xs (z ∷ []) zs)) ∙ past_more zs (xs ++ z ∷ []) ys ∙ ap (with_effects zs) (past_one xs ys z)

-- One thing more

-- what holds of a side and of the other holds of each
pub two_sides : (P : Side → Type 0) (s : Side) → P s → P (other s) → (t : Side) → P t
two_sides P s x y t = grind (arith, nat_tests)

pub back_again : (P : Side → Type 0) (s : Side) → P s → P (other (other s))
back_again P s h = grind (arith, nat_tests)

same : (s : Side) → same_side s s ≡ true
same s = grind (arith, nat_tests)

not_same : (s : Side) → same_side (other s) s ≡ false
not_same s = grind (arith, nat_tests)

module _ (x : Happening) (h : History) where
  abbrev pub did : List Effect
  did = effects_of x.call x.answer

  pub effects_here : effects x.end (x ∷ h) ≡ effects x.end h ++ did
  unfolding effects
  effects_here = ap (λ b. effects x.end h ++ (if b then did else [])) (same x.end)

  pub effects_there : effects (other x.end) (x ∷ h) ≡ effects (other x.end) h
  unfolding effects
  effects_there = ap (λ b. effects (other x.end) h ++ (if b then did else [])) (not_same x.end) ∙ append-nil (effects (other x.end) h)

  others_other : (s : Side) → effects (other (other s)) (x ∷ h) ≡ effects s (x ∷ h)
  others_other s = grind (arith, nat_tests)

  other_before : (s : Side) → past_of (effects (other s) h) (effects s h) ≡ past (other s) h
  other_before s = grind (arith, nat_tests)

  pub past_here : past x.end (x ∷ h) ≡ with_effects did (past x.end h)
  past_here = (λ i. past_of (effects_here i) (effects_there i)) ∙ past_more did (effects x.end h) (effects (other x.end) h)

  pub past_there : past (other x.end) (x ∷ h) ≡ with_theirs (past (other x.end) h) (packets_in did)
  past_there =
      (λ i. past_of (effects_there i) ((others_other x.end ∙ effects_here) i))
      ∙ ap (λ ps. record (past_of (effects (other x.end) h) []) { theirs = ps }) (ap (map frames_in) (flat_map-append sent_in (effects x.end h) did) ∙ map-append frames_in (flat_map sent_in (effects x.end h)) (flat_map sent_in did))
      ∙ ap (λ p. with_theirs p (packets_in did)) (other_before x.end)

  pub made_here : made x.end (x ∷ h) ≡ made x.end h ++ flat_map sent_in did
  made_here = ap (flat_map sent_in) effects_here ∙ flat_map-append sent_in (effects x.end h) did

  pub made_there : made (other x.end) (x ∷ h) ≡ made (other x.end) h
  made_there = ap (flat_map sent_in) effects_there

  pub taken_here : taken x.end (x ∷ h) ≡ taken x.end h ++ flat_map took_in did
  taken_here = ap (flat_map took_in) effects_here ∙ flat_map-append took_in (effects x.end h) did

-- Payloads

-- the frames of a payload
pub payload_seen : (s : Side) (k : ℕ) (h : History) (text : List ℕ) → payload s k h ≡ Some text → slice_get (past s h).mine k ≡ Some (frames_in text)
payload_seen s k h text is = slice_get-map frames_in (made s h) k ∙ ap (option_map frames_in) is

-- each payload that was made has no fault
abbrev pub AreFaultless : List (List ℕ) → Type 0
AreFaultless texts = AllByRecursion HasNoFault texts

pub faultless_at : (texts : List (List ℕ)) (k : ℕ) (text : List ℕ) → AreFaultless texts → slice_get texts k ≡ Some text → HasNoFault text
faultless_at [] k text all is = absurd (none-some text is)
faultless_at (t ∷ texts) zero text all is = rw (same_Some t text is) at all.0
faultless_at (t ∷ texts) (suc k) text all is = faultless_at texts k text all.1 is

made_faultless : (o : Option MakeFault) (e : End) (first delay room : ℕ) (answer : Result (Option Made) MakeFault) (text : List ℕ) (new : End) → MakeAt o e first delay room answer text new → AreFaultless (flat_map sent_in (effects_of (Make first delay room) (answer, text)))
made_faultless None e first delay room (Ok (Some made)) text new h = ((text_faultless delay h.frames text h.lawful.some h.spells, text_fits delay h.frames text h.lawful.some h.spells), tt)
made_faultless (Some fault) e first delay room (Ok (Some made)) text new h = absurd (cc (h.0))
made_faultless o e first delay room _ text new h = tt

pub packet_faultless : (e : End) (first delay room : ℕ) (answer : Result (Option Made) MakeFault) (text : List ℕ) (new : End) → MakeStep e first delay room answer text new → AreFaultless (flat_map sent_in (effects_of (Make first delay room) (answer, text)))
packet_faultless e first delay room answer text new step = made_faultless (make_refusal e) e first delay room answer text new step

pub none_sent : (call : Call) (answer : Answer call) → (Sends call → ⊥) → flat_map sent_in (effects_of call answer) ≡ []
none_sent call answer quiet = grind (arith, nat_tests)

-- What comes was made

-- a frame that stood in a packet has a text, whichever value is seen so
abbrev back : Seen → FrameValue
back (Stream n offset bytes fin) = stream n offset fin bytes
back (Control (items.ResetStream n code size)) = reset_stream n code size
back (Control (items.StopSending n code)) = stop_sending n code
back (Control (items.MaxData m)) = max_data m
back (Control (items.MaxStreamData n m)) = max_stream_data n m
back (Control (items.MaxStreams d m)) = max_streams d m
back (Control (items.DataBlocked m)) = data_blocked m
back (Control (items.StreamDataBlocked n m)) = stream_data_blocked n m
back (Control (items.StreamsBlocked d m)) = streams_blocked d m
back f = ping

back_seen : (f : FrameValue) → is_ours (seen f) ≡ true → back (seen f) ≡ f
back_seen f ours = grind (arith, nat_tests)

fits_among : (fs : List FrameValue) (f : FrameValue) → AllByRecursion Fits fs → Among (seen f) (seen_all fs) → is_ours (seen f) ≡ true → Fits f
fits_among [] f fit a ours = absurd a
fits_among (g ∷ fs) f fit (inl is) ours = subst Fits (sym (back_seen g (ap is_ours (sym is) ∙ ours)) ∙ ap back (sym is) ∙ back_seen f ours) fit.0
fits_among (g ∷ fs) f fit (inr a) ours = fits_among fs f fit.1 a ours

not_ours : (g : Seen) → is_plain g ≡ true → is_ours g ≡ false
not_ours g plain = grind (arith, nat_tests)

module _ (h : History) (s : Side) where
  -- what the peer made is told to an end, with a text
  pub made_told : (f : Seen) → HasMade h (other s) f → Tells (past s h).theirs f
  made_told f (k, text, is, a) = (k, (frames_in text, payload_seen (other s) k h text is, a))

  pub frame_told : AreFaultless (made (other s) h) → (f : FrameValue) → IsFrom h (other s) (seen f) → is_ours (seen f) ≡ true → Tells (past s h).theirs (seen f) × Fits f
  frame_told texts f from ours =
      let (k, text, is, a) = from ours in
      (made_told (seen f) (from ours), fits_among (frames_of (reading_of text).left) f (faultless_at (made (other s) h) k text texts is).1 a ours)

  pub frames_told : AreFaultless (made (other s) h) → (fs : List FrameValue) → AllByRecursion (IsFrom h (other s)) (seen_all fs) → AllByRecursion (λ f. is_ours (seen f) ≡ true → Tells (past s h).theirs (seen f) × Fits f) fs
  frames_told texts [] from = tt
  frames_told texts (f ∷ fs) from = (frame_told texts f from.0, frames_told texts fs from.1)

  -- of a payload that comes each frame was made, or it is plain
  pub payload_come : (k : ℕ) (bytes : List ℕ) → IsPayload h (other s) k bytes → (g : Seen) → Among g (frames_in bytes) → MayCome (past s h).theirs g
  payload_come k bytes (text, is, differ) g a = elim (differ_covers bytes text differ g a) [ inl there ↦ inl (made_told g (k, text, is, there)) | inr plain ↦ inr plain ]

  -- and each that was made and isn't plain comes
  pub payload_covers : (k : ℕ) (bytes : List ℕ) → IsPayload h (other s) k bytes → (text : List ℕ) × (payload (other s) k h ≡ Some text) × ((g : Seen) → Among g (frames_in text) → is_ours g ≡ true → Among g (frames_in bytes))
  payload_covers k bytes (text, is, differ) = (text, is, λ g a ours. elim (differ_covers text bytes (differ_turned bytes text differ) g a) [ inl there ↦ there | inr plain ↦ absurd (false≢true (sym (not_ours g plain) ∙ ours)) ])

-- a frame that has to land is one of streams or of flow control
pub lands_ours : (g : Seen) → must_land g ≡ true → is_ours g ≡ true
lands_ours g land = grind (arith, nat_tests)

-- What landed stays so

pub still_made : (x : Happening) (h : History) (s : Side) (k : ℕ) (text : List ℕ) → payload s k h ≡ Some text → payload s k (x ∷ h) ≡ Some text
still_made x h s k text = two_sides (λ t. payload t k h ≡ Some text → payload t k (x ∷ h) ≡ Some text) x.end
    (λ is. subst (λ ts. slice_get ts k ≡ Some text) (sym (made_here x h)) (slice_get-append (made x.end h) (flat_map sent_in (did x h)) k text is))
    (λ is. subst (λ ts. slice_get ts k ≡ Some text) (sym (made_there x h)) is) s

still_taken : (x : Happening) (h : History) (s : Side) (f : Seen) → Among f (taken s h) → Among f (taken s (x ∷ h))
still_taken x h s f = two_sides (λ t. Among f (taken t h) → Among f (taken t (x ∷ h))) x.end
    (λ a. subst (Among f) (sym (taken_here x h)) (Among_left (taken x.end h) (flat_map took_in (did x h)) f a))
    (λ a. subst (Among f) (sym (ap (flat_map took_in) (effects_there x h))) a) s

pub still_has_made : (x : Happening) (h : History) (s : Side) (f : Seen) → HasMade h s f → HasMade (x ∷ h) s f
still_has_made x h s f (k, text, is, a) = (k, text, still_made x h s k text is, a)

pub still_landed : (x : Happening) (h : History) (s : Side) (k : ℕ) → HasLanded h s k → HasLanded (x ∷ h) s k
still_landed x h s k (text, is, all) = (text, still_made x h s k text is, λ f a land. still_taken x h (other s) f (all f a land))

-- and what an end was told of a close
pub still_closed : (x : Happening) (h : History) (s : Side) → was_noted_closed s h ≡ true → was_noted_closed s (x ∷ h) ≡ true
still_closed x h s = two_sides (λ t. was_noted_closed t h ≡ true → was_noted_closed t (x ∷ h) ≡ true) x.end
    (λ is. ap (list_any closes_in) (effects_here x h) ∙ list_any-append closes_in (effects x.end h) (did x h) ∙ or_left _ _ is)
    (λ is. ap (list_any closes_in) (effects_there x h) ∙ is) s

-- What an end does in which it hears nothing of its peer

-- something came, or a token was told to be acknowledged
abbrev hears_in : Effect → Bool
hears_in (Came k bytes) = true
hears_in (CameAlone frames) = true
hears_in (Acked token) = true
hears_in x = false

abbrev Deaf : List Effect → Type 0
Deaf xs = AllByRecursion (λ y. hears_in y ≡ false) xs

deaf_effects : (call : Call) (answer : Answer call) → (Hears call → ⊥) → Deaf (effects_of call answer)
deaf_effects call answer deaf = grind (arith, nat_tests)

-- so nothing came by it, and no token was told
none_any : (f : Effect → Bool) → ((y : Effect) → hears_in y ≡ false → f y ≡ false) → (xs : List Effect) → Deaf xs → list_any f xs ≡ false
none_any f none [] deaf = refl
none_any f none (y ∷ xs) deaf = ap (λ b. b || list_any f xs) (none y deaf.0) ∙ none_any f none xs deaf.1

none_acks : (k : ℕ) (y : Effect) → hears_in y ≡ false → acks_in k y ≡ false
none_acks k y deaf = grind (arith, nat_tests)

none_comes : (k : ℕ) (y : Effect) → hears_in y ≡ false → comes_in k y ≡ false
none_comes k y deaf = grind (arith, nat_tests)

none_took : (xs : List Effect) → Deaf xs → flat_map took_in xs ≡ []
none_took [] deaf = refl
none_took (y ∷ xs) deaf = ap (λ fs. fs ++ flat_map took_in xs) (none y deaf.0) ∙ none_took xs deaf.1
  where
    none : (y : Effect) → hears_in y ≡ false → took_in y ≡ []
    none (Came k bytes) deaf = absurd (true≢false deaf)
    none (CameAlone frames) deaf = absurd (true≢false deaf)
    none y deaf = refl

-- What an end hears

-- an end that closed hears nothing
refused_take : (o : Option Closed) (e new : End) (f : FrameValue) (answer : Answer (TakeFrame f)) → is_some o ≡ true → TakeBy o f e answer new → effects_of (TakeFrame f) answer ≡ []
refused_take o e new f answer shut h = grind (arith, nat_tests)

refused_all : (o : Option Closed) (e new : End) (fs : List FrameValue) (answer : Answer (TakeFrames fs)) → is_some o ≡ true → TakeAllBy o fs e answer new → effects_of (TakeFrames fs) answer ≡ []
refused_all o e new fs answer shut h = grind (arith, nat_tests)

refused_payload : (o : Option Closed) (e new : End) (k : ℕ) (bytes : List ℕ) (answer : Answer (Receive k bytes)) → is_some o ≡ true → ReceiveBy o k bytes e answer new → effects_of (Receive k bytes) answer ≡ []
refused_payload o e new k bytes answer shut h = grind (arith, nat_tests)

refused_token : (b : Bool) (r : Option TokenFault) (e new : End) (t : Token) (answer : Answer (TokenAcked t)) (Effect : Type 0) → b ≡ true → Certain (first_refusal (refuse_if b tokens.Closed) r) e answer new Effect → effects_of (TokenAcked t) answer ≡ []
refused_token b r e new t answer Effect shut h = grind (arith, nat_tests)

pub closed_hears : (e new : End) (call : Call) (answer : Answer call) → is_some e.closed ≡ true → Hears call → EndStep e call answer new → effects_of call answer ≡ []
closed_hears e new (Receive k bytes) answer shut hears step = refused_payload e.closed e new k bytes answer shut step
closed_hears e new (TakeFrame f) answer shut hears step = refused_take e.closed e new f answer shut step
closed_hears e new (TakeFrames fs) answer shut hears step = refused_all e.closed e new fs answer shut step
closed_hears e new (TokenAcked t) answer shut hears step = refused_token (is_some e.closed) _ e new t answer _ shut step
closed_hears e new call answer shut hears step = absurd hears

-- a token that an end took is of its epoch
token_own : (b own made : Bool) (e new : End) (t : Token) (answer : Answer (TokenAcked t)) (E : Type 0) (k : ℕ) → Certain (first_refusal (refuse_if b tokens.Closed) (refuse_if (not (own && made)) tokens.NotGiven)) e answer new E → list_any (acks_in k) (effects_of (TokenAcked t) answer) ≡ true → own ≡ true
token_own b own made e new t answer E k h told = grind (arith, nat_tests)

or_false_is : (b : Bool) → (b || false) ≡ true → b ≡ true
or_false_is b h = grind (arith, nat_tests)

told_in : (t : Token) (k : ℕ) (r : Result (Unit {0}) TokenFault) → list_any (acks_in k) (acked_effects t r) ≡ true → is_in t k ≡ true
told_in t k r told = grind (arith, nat_tests)

-- What the frames and tokens that an end heard tell
module _ (h : History) (w : World) (s : Side) (new : End) where
  abbrev e : End
  e = end_of w s

  -- the premise of what took effect: a CONNECTION_CLOSE is none
  abbrev pub Heard : Call → Type 0
  Heard (Receive k bytes) = IsPayload h (other s) k bytes
  Heard call = May h w s call

  pub heard_some : (call : Call) (answer : Answer call) → e.closed ≡ None → (effects_of call answer ≡ [] → ⊥) → May h w s call → EndStep e call answer new → Heard call
  heard_some (Receive k bytes) answer open_end some (inl made) step = made
  heard_some (Receive k bytes) answer open_end some (inr (told, code, is)) step = absurd (some (close_comes (λ r n. effects_of (Receive k bytes) r ≡ []) k code bytes e new answer open_end is step refl refl refl))
  heard_some call answer open_end some may step = may

  -- each frame of streams and flow control that came was made by the peer
  pub came_made : (call : Call) (answer : Answer call) → (Hears call → Heard call) → (f : Seen) → Among f (flat_map took_in (effects_of call answer)) → is_ours f ≡ true → HasMade h (other s) f
  came_made (Receive k bytes) (Ok Done) may f a ours =
      let (text, is, differ) = may tt in
      elim (differ_covers bytes text differ f (subst (Among f) (append-nil (frames_in bytes)) a)) [ inl there ↦ (k, text, is, there) | inr plain ↦ absurd (false≢true (sym (not_ours f plain) ∙ ours)) ]
  came_made (Receive k bytes) (Ok r) may f a ours = absurd a
  came_made (Receive k bytes) (Err closing) may f a ours = absurd a
  came_made (TakeFrame g) (Ok told) may f (inl is) ours = subst (HasMade h (other s)) (sym is) (may tt (subst (λ x. is_ours x ≡ true) is ours))
  came_made (TakeFrame g) (Ok told) may f (inr a) ours = absurd a
  came_made (TakeFrame g) (Err fault) may f a ours = absurd a
  came_made (TakeFrames fs) (Ok told) may f a ours = All_at (IsFrom h (other s)) (seen_all fs) f (may tt) (subst (Among f) (append-nil (seen_all fs)) a) ours
  came_made (TakeFrames fs) (Err fault) may f a ours = absurd a
  came_made (TokenAcked t) (Ok done) may f a ours = absurd a
  came_made (TokenAcked t) (Err tokens.NoMemory) may f a ours = absurd a
  came_made (TokenAcked t) (Err fault) may f a ours = absurd a
  came_made call answer may f a ours = absurd (subst (Among f) (none_took (effects_of call answer) (deaf_effects call answer (λ no. no))) a)

  -- a packet that came landed
  pub came_landed : (call : Call) (answer : Answer call) → (Hears call → Heard call) → (k : ℕ) → list_any (comes_in k) (effects_of call answer) ≡ true →
      (text : List ℕ) × (payload (other s) k h ≡ Some text) × ((f : Seen) → Among f (frames_in text) → must_land f ≡ true → Among f (flat_map took_in (effects_of call answer)))
  came_landed (Receive j bytes) (Ok Done) may k is =
      let (text, there, covers) = payload_covers h s j bytes (may tt) in
      let this : k ≡ j = eqb-true k j (or_false_is (k == j) is) in
      (text, subst (λ i. payload (other s) i h ≡ Some text) (sym this) there, λ f a land. subst (Among f) (sym (append-nil (frames_in bytes))) (covers f a (lands_ours f land)))
  came_landed (Receive j bytes) (Ok r) may k is = absurd (false≢true is)
  came_landed (Receive j bytes) (Err closing) may k is = absurd (false≢true is)
  came_landed (TakeFrame g) (Ok told) may k is = absurd (false≢true is)
  came_landed (TakeFrame g) (Err fault) may k is = absurd (false≢true is)
  came_landed (TakeFrames fs) (Ok told) may k is = absurd (false≢true is)
  came_landed (TakeFrames fs) (Err fault) may k is = absurd (false≢true is)
  came_landed (TokenAcked t) (Ok done) may k is = absurd (false≢true is)
  came_landed (TokenAcked t) (Err tokens.NoMemory) may k is = absurd (false≢true is)
  came_landed (TokenAcked t) (Err fault) may k is = absurd (false≢true is)
  came_landed call answer may k is = absurd (false≢true (sym (none_any (comes_in k) (none_comes k) (effects_of call answer) (deaf_effects call answer (λ no. no))) ∙ is))

  -- what a token told landed before
  pub acked_landed : (call : Call) (answer : Answer call) → EndStep e call answer new → (Hears call → Heard call) → (k : ℕ) → list_any (acks_in k) (effects_of call answer) ≡ true → HasLanded h s k
  acked_landed (TokenAcked t) answer step may k is =
      may tt (eqb-true t.epoch e.tuning.epoch (token_own (is_some e.closed) (nat_eq t.epoch e.tuning.epoch) (nat_le t.first t.number && nat_lt t.number e.next) e new t answer _ k step is)) k (told_in t k answer is)
  acked_landed (Receive j bytes) (Ok Done) step may k is = absurd (false≢true is)
  acked_landed (Receive j bytes) (Ok r) step may k is = absurd (false≢true is)
  acked_landed (Receive j bytes) (Err closing) step may k is = absurd (false≢true is)
  acked_landed (TakeFrame g) (Ok told) step may k is = absurd (false≢true is)
  acked_landed (TakeFrame g) (Err fault) step may k is = absurd (false≢true is)
  acked_landed (TakeFrames fs) (Ok told) step may k is = absurd (false≢true is)
  acked_landed (TakeFrames fs) (Err fault) step may k is = absurd (false≢true is)
  acked_landed call answer step may k is = absurd (false≢true (sym (none_any (acks_in k) (none_acks k) (effects_of call answer) (deaf_effects call answer (λ no. no))) ∙ is))

-- what is told by an effect of the end was so before, or is so by it
pub any_here : (f : Effect → Bool) (x : Happening) (h : History) → list_any f (effects x.end (x ∷ h)) ≡ true → (list_any f (effects x.end h) ≡ true) ⊎ (list_any f (did x h) ≡ true)
any_here f x h is = by (list_any f (effects x.end h)) refl (sym (ap (list_any f) (effects_here x h) ∙ list_any-append f (effects x.end h) (did x h)) ∙ is)
  where
    by : (b : Bool) → list_any f (effects x.end h) ≡ b → (b || list_any f (did x h)) ≡ true → (list_any f (effects x.end h) ≡ true) ⊎ (list_any f (did x h) ≡ true)
    by true was now = inl was
    by false was now = inr now

pub none_here : (f : Effect → Bool) (x : Happening) (h : History) → list_any f (effects x.end (x ∷ h)) ≡ false → (list_any f (effects x.end h) ≡ false) × (list_any f (did x h) ≡ false)
none_here f x h is = by (list_any f (effects x.end h)) (list_any f (did x h)) (sym (ap (list_any f) (effects_here x h) ∙ list_any-append f (effects x.end h) (did x h)) ∙ is)
  where
    by : (b c : Bool) → (b || c) ≡ false → (b ≡ false) × (c ≡ false)
    by true c none = absurd (true≢false none)
    by false c none = (refl, none)

-- What landed took effect

-- what a history tells of a packet a past does
pub landed_past : (h : History) (s : Side) (k : ℕ) → HasLanded h s k → Landed (past (other s) h).theirs (past (other s) h).taken k
landed_past h s k (text, is, all) = (frames_in text, ap (λ ps. slice_get ps k) (theirs_mine s h) ∙ payload_seen s k h text is, all)

module _ (a b : Settings) (h : History) (w : World) (ok : WorldOk a b h w) (s : Side) where
  -- a packet that was confirmed landed
  pub confirmed_landed : (k : ℕ) → WasConfirmed (past s h).theirs (past s h).tokens k → Landed (past (other s) h).theirs (past (other s) h).taken k
  confirmed_landed k (inl (largest, ranges, t, named)) = landed_past h s k (ok.landed s k (((ok.ends (other s)).packets.acks_told largest ranges t).names_processed k named))
  confirmed_landed k (inr told) = landed_past h s k (ok.confirmed s k told)

  -- so each frame of it that has to was taken
  pub confirmed_taken : (k : ℕ) (f : Seen) → Holds (past s h).mine k f → WasConfirmed (past s h).theirs (past s h).tokens k → must_land f ≡ true → Among f (past (other s) h).taken
  confirmed_taken k f (fs, is, a) confirmed land =
      let (gs, there, all) = confirmed_landed k confirmed in
      let same : fs ≡ gs = same_Some fs gs (sym is ∙ sym (ap (λ ps. slice_get ps k) (theirs_mine s h)) ∙ there) in
      all f (subst (Among f) same a) land
