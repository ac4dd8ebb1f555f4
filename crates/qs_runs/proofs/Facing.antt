-- What the peer made closes nothing.
use Rattle.std.proofs.lemmas.Bool.Decides.{nat_tests}
use Rattle.std.proofs.Common.{◌≡◌, ℕ, ◌%◌, ◌<◌, ◌≤◌, Bool, true, false, not, List, [], ◌∷◌, take, Option, None, Result, Ok, Err, refl, sym, ap, ◌∙◌, subst, arith, inl, inr, ◌||◌, ◌==◌}
use Rattle.std.proofs.lemmas.Option.{none-some}
use Rattle.std.proofs.lemmas.Bool.{false≢true}
use Rattle.qs_wire.specs.Layout.{PlacedValue}
use Rattle.qs_wire.specs.Grammar.{frames_of}
use Rattle.qs_wire.specs.Reading.{reading_of}
use Rattle.qs_wire.specs.declared.fault.WireFault.{WireFault}
use Rattle.qs_wire.specs.declared.stream_id.Role.TheVariants.{Client, Server}
use Rattle.qs_calls.specs.declared.closing.Closing.{Closing}
use Rattle.qs_calls.specs.declared.closing.Received.{Received}
use Rattle.qs_calls.specs.declared.closing.Received.TheVariants.{PeerClosed, NoMemory}
use Rattle.qs_machine.specs.Ends.{End, is_own_by}
use Rattle.qs_machine.specs.Seen.{Seen, Ack, Close, seen, seen_all, asks_ack}
use Rattle.qs_machine.specs.Verdicts.{verdict}
use Rattle.qs_machine.specs.FrameStep.{named, frame_taken}
use Rattle.qs_send.specs.Records.{Among}
use Rattle.qs_machine.specs.Receiving.{ReceiveStep, ReceiveBy, Takes, Stops, AtEnd}
use Rattle.qs_machine.proofs.EveryCall.{no_fault_there, by_open}
use Rattle.qs_runs.specs.Worlds.{AreGranted}
use Rattle.qs_machine.specs.Plains.{is_plain, frames_in}
use Rattle.qs_runs.specs.Pasts.{Past, Tells}
use Rattle.qs_runs.specs.Invariant.{EndOk}
use Rattle.qs_runs.proofs.Unharmed.{Facing, ProcessedWasMade, told_fine}
use Rattle.qs_machine.proofs.Leaves.{acks_leave, frame_leaves}
use Rattle.qs_runs.proofs.Standing.{fixed, standing_at}
use Rattle.qs_runs.proofs.Frames.{Effect, MayCome, come_keeps}

pub facing : (e f : End) → ((n : ℕ) → is_own_by f.role n ≡ not (is_own_by e.role n)) → AreGranted f.peer e.settings → f.known_bidi ≤ e.granted_bidi → f.known_uni ≤ e.granted_uni → Facing e f
facing e f opposite peer bidi uni = grind (arith, nat_tests)

-- at every moment of a call the end stands as it did, and grants as many streams
abbrev pub IsThere : End → End → Type 0
IsThere e mid = (fixed mid ≡ fixed e) × (mid.granted_bidi ≡ e.granted_bidi) × (mid.granted_uni ≡ e.granted_uni)

-- a frame takes effect
pub there_taken : (e mid : End) (g : Seen) → IsThere e mid → IsThere e (frame_taken g mid)
there_taken e mid g same = (let still = ap standing_at (frame_leaves g mid) in (ap (λ x. x.0) still ∙ same.0, ap (λ x. x.2) still ∙ same.1, ap (λ x. x.3) still ∙ same.2))

module _ (p q : Past) (e f : End) (their : EndOk q f) (from : p.theirs ≡ q.mine) (back : q.theirs ≡ p.mine)
    (opposite : (n : ℕ) → is_own_by f.role n ≡ not (is_own_by e.role n)) (peer : AreGranted f.peer e.settings) (bidi : f.known_bidi ≤ e.granted_bidi) (uni : f.known_uni ≤ e.granted_uni) (was_made : ProcessedWasMade q) where
  -- the two ends face each other at each moment
  pub fine_now : (mid : End) → EndOk p mid → IsThere e mid → (g : Seen) → Tells p.theirs g → verdict mid g ≡ None
  fine_now mid ok same g t = grind (arith, nat_tests, facing, not, told_fine)

  -- a plain frame has no fault
  plain_fine : (mid : End) (g : Seen) → is_plain g ≡ true → verdict mid g ≡ None
  unfolding verdict
  plain_fine mid g plain = grind (arith, nat_tests)

  come_fine : (mid : End) → EndOk p mid → IsThere e mid → (g : Seen) → MayCome p.theirs g → verdict mid g ≡ None
  come_fine mid ok same g (inl t) = fine_now mid ok same g t
  come_fine mid ok same g (inr plain) = plain_fine mid g plain

  stops_stand : (v : PlacedValue) (g : Seen) (mid : End) (result : Result Received Closing) (new : End) → EndOk p mid → IsThere e mid → MayCome p.theirs g → Stops v g mid result new → fixed new ≡ fixed e
  stops_stand v (Close code) mid (Ok (PeerClosed told)) new ok same (inl t) h = absurd (their.packets.kinds (Close code) (subst (λ x. Tells x (Close code)) from t))
  stops_stand v (Close code) mid (Ok (PeerClosed told)) new ok same (inr plain) h = absurd (false≢true plain)
  stops_stand v (Ack largest ranges) mid (Ok NoMemory) new ok same t (fine, (m, h, asks)) = ap fixed h ∙ ap fixed (acks_leave (take m (named mid ranges)) mid) ∙ same.0
  stops_stand v (Close code) mid result new ok same t h = absurd h
  stops_stand v g mid (Ok NoMemory) new ok same t h = ap fixed h.1.0 ∙ same.0
  stops_stand v g mid (Err closing) new ok same t h = absurd (none-some closing.code (sym (come_fine mid ok same g t) ∙ h.0))
  stops_stand v g mid result new ok same t h = absurd h

  at_end_stands : (k : ℕ) (asks : Bool) (fault : Option WireFault) (mid : End) (result : Result Received Closing) (new : End) → fault ≡ None → fixed mid ≡ fixed e → AtEnd k asks fault mid result new → fixed new ≡ fixed e
  at_end_stands k asks fault mid result new none same h = grind (arith, nat_tests)

  takes_stand : (left : List PlacedValue) (k : ℕ) (asks : Bool) (fault : Option WireFault) (mid : End) (result : Result Received Closing) (new : End) → fault ≡ None → EndOk p mid → IsThere e mid →
      ((g : Seen) → Among g (seen_all (frames_of left)) → MayCome p.theirs g) → Takes k fault asks mid left result new → fixed new ≡ fixed e
  takes_stand [] k asks fault mid result new none ok same told h = at_end_stands k asks fault mid result new none same.0 h
  takes_stand (v ∷ left) k asks fault mid result new none ok same told (inl stops) = stops_stand v (seen v.frame) mid result new ok same (told (seen v.frame) (inl refl)) stops
  takes_stand (v ∷ left) k asks fault mid result new none ok same told (inr (goes, rest)) =
      let g : Seen = seen v.frame in
      let one : Effect p mid (frame_taken g mid) g = come_keeps p mid g ok (told g (inl refl)) (no_fault_there mid g goes) in
      takes_stand left k (asks || asks_ack g) fault (frame_taken g mid) result new none one.ok (there_taken e mid g same) (λ x a. told x (inr a)) rest

  -- a payload that the peer made, without a fault, leaves the end open, whatever plain frames stand in it
  pub receive_stands : (new : End) (k : ℕ) (text : List ℕ) (result : Result Received Closing) → EndOk p e → e.closed ≡ None → (reading_of text).fault ≡ None → ((g : Seen) → Among g (frames_in text) → MayCome p.theirs g) → ReceiveStep e k text result new → fixed new ≡ fixed e
  receive_stands new k text result ok not_closed faultless told step =
      by_open (fixed new ≡ fixed e) k text e result new (subst (λ o. ReceiveBy o k text e result new) not_closed step) (λ low same. ap fixed same) (λ again same. ap fixed same) (λ high mid takes same.
      ap fixed same ∙ takes_stand (reading_of text).left k false (reading_of text).fault e result mid faultless ok (refl, refl, refl) told takes)
