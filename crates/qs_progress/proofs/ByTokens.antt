-- Turns by tokens: what is filled in lands, and what landed is told.
use Rattle.std.proofs.Common.{◌≡◌, ℕ, zero, suc, Bool, true, false, List, [], ◌∷◌, ◌++◌, append-nil, ◌⊎◌, length, slice_get, Option, Some, None, refl, sym, ap, ◌∙◌, subst, inl, inr}
use Rattle.std.specs.Prelude.{Result, Ok, Err, MatchBool}
use Rattle.std.specs.List.{AllByRecursion}
use Rattle.std.proofs.lemmas.Bool.{false≢true}
use Rattle.std.proofs.lemmas.List.{length-map}
use Rattle.qs_wire.specs.Layout.{FrameValue}
use Rattle.qs_send.specs.Records.{Among}
use Rattle.qs_send.specs.declared.piece.Piece.{Piece}
use Rattle.qs_calls.specs.declared.closing.Closed.{Closed}
use Rattle.qs_calls.specs.declared.event.Side.{Side}
use Rattle.qs_calls.specs.declared.filling.Fill.{Fill}
use Rattle.qs_calls.specs.declared.filling.Filled.{Filled}
use Rattle.qs_calls.specs.declared.settings.Settings.{Settings}
use Rattle.qs_calls.specs.declared.token.Taken.{Taken}
use Rattle.qs_calls.specs.declared.token.TakeFault.{TakeFault}
use Rattle.qs_calls.specs.declared.token.Token.{Token}
use Rattle.qs_machine.specs.Ends.{End}
use Rattle.qs_machine.specs.Alone.{is_ours, only, TakesOne, TakesEach, TakeAllBy, TokenAckedStep, after_one, token_refusal}
use Rattle.qs_machine.specs.Credit.{settle}
use Rattle.qs_machine.specs.EndStep.{Call, TakeFrames, TokenAcked, FillIn}
use Rattle.qs_machine.specs.Filling.{IsWanted, IsFilled, as_made}
use Rattle.qs_machine.specs.FrameStep.{frame_taken, frames_taken}
use Rattle.qs_machine.specs.Making.{make_refusal}
use Rattle.qs_machine.specs.Plains.{frames_in}
use Rattle.qs_machine.specs.Seen.{Seen, Ack, Stream, Control, Close, Plain, seen, seen_all}
use Rattle.qs_runs.specs.Logs.{Happening, HasLanded, other, made, payload, taken}
use Rattle.qs_runs.specs.Worlds.{end_of}
use Rattle.qs_runs.proofs.Histories.{made_here, taken_here, still_made, still_landed, two_sides}
use Rattle.qs_runs.proofs.Lists.{slice_get-last, Among_right}
use Rattle.qs_runs.proofs.Receives.{took_effect}
use Rattle.qs_runs.proofs.Runs.{run_keeps}
use Rattle.qs_runs.proofs.Standing.{certain_cases}
use Rattle.qs_runs.proofs.Wire.{text_seen}
use Rattle.qs_progress.specs.Laps.{Moment, Trail}
use Rattle.qs_progress.specs.Comes.{IsReached}
use Rattle.qs_progress.specs.Outstanding.{IsIn}
use Rattle.qs_progress.specs.Rounds.{Tokens, Happens, Idles}
use Rattle.qs_progress.proofs.Going.{frames_back}
use Rattle.qs_progress.proofs.Passing.{fills_at}
use Rattle.qs_progress.proofs.Trails.{reached}
use Rattle.qs_progress.proofs.Turns.{same_out, Sends, Makes, makes, is_filled, other_twice}

-- Frames that are taken

abbrev AreOurs : List Seen → Type 0
AreOurs gs = AllByRecursion (λ g. is_ours g ≡ true) gs

later_told : (one told : Taken) (later : Result Taken TakeFault) → ◌≡◌ {A = Result Taken TakeFault} (Ok told) (after_one one later) → (last : Taken) × (later ≡ Ok last)
later_told one told (Ok last) is = (last, refl)
later_told one told (Err fault) is = absurd (cc is)

each_took : (fs : List FrameValue) (e : End) (result : Result Taken TakeFault) (new : End) (told : Taken) → result ≡ Ok told → AreOurs (seen_all fs) → TakesEach fs e result new → new ≡ frames_taken (seen_all fs) e
unfolding frames_taken
each_took [] e result new told came ours step = step.1
each_took (f ∷ fs) e result new told came ours step = by (is_ours (seen f)) refl step (λ mid later one is more. each_took fs mid later new one is ours.1 more)
  where
    by : (b : Bool) → is_ours (seen f) ≡ b → MatchBool b (((mid : End) × (one : Taken) × (later : Result Taken TakeFault) × TakesOne e f (Ok one) mid × TakesEach fs mid later new × (result ≡ after_one one later)) ⊎ ((fault : TakeFault) × TakesOne e f (Err fault) new × (result ≡ Err fault))) (TakesEach fs e result new)
        → ((mid : End) (later : Result Taken TakeFault) (one : Taken) → later ≡ Ok one → TakesEach fs mid later new → new ≡ frames_taken (seen_all fs) mid) → new ≡ frames_taken (seen_all fs) (frame_taken (seen f) e)
    by true is (inl (mid, one, later, takes, more, answer)) goes =
        let (last, at) = later_told one told later (sym came ∙ answer) in
        goes mid later last at more ∙ ap (frames_taken (seen_all fs)) (took_effect e f one mid takes).1
    by true is (inr (fault, takes, answer)) goes = absurd (cc (sym came ∙ answer))
    by false is more goes = absurd (false≢true (sym is ∙ ours.0))

took_frames : (o : Option Closed) (fs : List FrameValue) (e new : End) (told : Taken) → AreOurs (seen_all fs) → TakeAllBy o fs e (Ok told) new → new ≡ settle (frames_taken (seen_all fs) e)
took_frames (Some closed) fs e new told ours step = absurd (cc step.0)
took_frames None fs e new told ours (mid, each, is) = is ∙ ap settle (each_took fs e (Ok told) mid told refl ours each)

-- what is filled in is of streams and flow control
wanted_ours : (want : Fill) (gs : List Seen) → AllByRecursion (IsWanted want) gs → AreOurs gs
wanted_ours want [] all = tt
wanted_ours want (g ∷ gs) (first, rest) = (one g first, wanted_ours want gs rest)
  where
    one : (g : Seen) → IsWanted want g → is_ours g ≡ true
    one (Ack largest ranges) is = absurd is
    one (Stream n offset bytes fin) is = refl
    one (Control i) is = refl
    one (Close code) is = absurd is
    one (Plain asks) is = absurd is

-- an acknowledged packet's pieces leave its end
abbrev pub TokenTold : End → End → Type 0
TokenTold e f = (t : Token) × (f ≡ settle (frames_taken (only t ∷ []) e))

pub told_by : (e f : End) (t : Token) → TokenAckedStep e t (Ok tt) f → TokenTold e f
unfolding frames_taken
told_by e f t step =
    elim (certain_cases (token_refusal e t) e (Ok tt) f _ step) [
      | inl (fault, refused, same) ↦ absurd (cc refused)
      | inr (allowed, done) ↦ elim done [ inl took ↦ (t, took.1) | inr out ↦ absurd (cc out.0) ]
    ]

pub told_back : (e f : End) → TokenTold e f → (k : ℕ) (p : Piece) → IsIn f.outstanding k p → IsIn e.outstanding k p
told_back e f (t, is) k p here = frames_back k p (only t ∷ []) e (subst (λ (y : End). IsIn y.outstanding k p) is here)

module _ (a b : Settings) (s : Side) where
  -- a packet was filled in, and came
  pub record Exchanged (old new : Moment) (text : List ℕ) : Type 0 where
    pub is_reached : IsReached a b new
    pub made_it : Makes (end_of old.ends s) (end_of new.ends s) text
    pub took : end_of new.ends (other s) ≡ settle (frames_taken (frames_in text) (end_of old.ends (other s)))
    pub lands : HasLanded new.log s (end_of old.ends s).next

  pub exchanged : (old mid new : Moment) (want : Fill) (room : ℕ) (filled : Filled) (text : List ℕ) (frames : List FrameValue) (told : Taken) → IsReached a b old → seen_all frames ≡ frames_in text
      → Happens (record { end = s; call = FillIn want room; answer = (Ok (Some filled), text) }) old mid → Happens (record { end = other s; call = TakeFrames frames; answer = Ok told }) mid new → Exchanged old new text
  exchanged old mid new want room filled text frames told r same (logged, fill) (logged_too, take) =
      let e = end_of old.ends s in
      let x : Happening = record { end = s; call = FillIn want room; answer = (Ok (Some filled), text) } in
      let y : Happening = record { end = other s; call = TakeFrames frames; answer = Ok told } in
      let r_mid = reached a b old mid x r logged fill in
      let it : IsFilled e want room filled text (end_of mid.ends s) = is_filled (make_refusal e) e (end_of mid.ends s) want room filled text fill.step in
      let text_is : frames_in text ≡ seen_all it.made.frames = text_seen 0 it.made.frames text it.made.lawful.some it.made.spells in
      let ours : AreOurs (seen_all frames) = subst AreOurs (sym (same ∙ text_is)) (wanted_ours want (seen_all it.made.frames) it.wanted) in
      let still : end_of new.ends s ≡ end_of mid.ends s = subst (λ t. end_of new.ends t ≡ end_of mid.ends t) (other_twice s) take.still in
      let took : end_of new.ends (other s) ≡ settle (frames_taken (seen_all frames) (end_of mid.ends (other s))) = took_frames (end_of mid.ends (other s)).closed frames (end_of mid.ends (other s)) (end_of new.ends (other s)) told ours take.step in
      record {
        is_reached = reached a b mid new y r_mid logged_too take;
        made_it = subst (λ z. Makes e z text) (sym still) (makes e (end_of mid.ends s) want.first 0 (length text) (as_made filled) text it.made);
        took = took ∙ (λ i. settle (frames_taken (same i) (fill.still i)));
        lands = (
          text,
          subst (λ h. payload s e.next h ≡ Some text) (sym logged_too) (still_made y mid.log s e.next text there),
          λ g among land. subst (λ h. Among g (taken (other s) h)) (sym logged_too) (subst (Among g) (sym (taken_here y mid.log)) (Among_right (taken (other s) mid.log) _ g (subst (Among g) (sym (same_frames)) among))),
        );
      }
    where
      there : payload s (end_of old.ends s).next mid.log ≡ Some text
      there =
          let ok = run_keeps a b old.log old.ends r.run in
          let x : Happening = record { end = s; call = FillIn want room; answer = (Ok (Some filled), text) } in
          let next : (end_of old.ends s).next ≡ length (made s old.log) = (ok.ends s).packets.count ∙ length-map (made s old.log) frames_in in
          let texts : made s mid.log ≡ made s old.log ++ text ∷ [] = ap (made s) logged ∙ made_here x old.log in
          (λ i. slice_get (texts i) (next i)) ∙ slice_get-last (made s old.log) text

      same_frames : seen_all frames ++ [] ≡ frames_in text
      same_frames = append-nil (seen_all frames) ∙ same

  -- each packet that is outstanding landed
  abbrev pub HaveLanded : Moment → Type 0
  HaveLanded m = (k : ℕ) (p : Piece) → IsIn (end_of m.ends s).outstanding k p → HasLanded m.log s k

  landed_as : (old new : Moment) (x : Happening) → new.log ≡ x ∷ old.log → ((k : ℕ) (p : Piece) → IsIn (end_of new.ends s).outstanding k p → IsIn (end_of old.ends s).outstanding k p) → HaveLanded old → HaveLanded new
  landed_as old new x logged back landed k p here = subst (λ h. HasLanded h s k) (sym logged) (still_landed x old.log s k (landed k p (back k p here)))

  -- what is told leaves of each end no more outstanding, and an idle call as much
  told_step : (u : Side) (old new : Moment) (token : Token) → Happens (record { end = u; call = TokenAcked token; answer = Ok tt }) old new → (v : Side) (k : ℕ) (p : Piece) → IsIn (end_of new.ends v).outstanding k p → IsIn (end_of old.ends v).outstanding k p
  told_step u old new token (logged, step) v k p here =
      two_sides (λ v. IsIn (end_of new.ends v).outstanding k p → IsIn (end_of old.ends v).outstanding k p) u
      (told_back (end_of old.ends u) (end_of new.ends u) (told_by (end_of old.ends u) (end_of new.ends u) token step.step) k p)
      (λ there. subst (λ (e : End). IsIn e.outstanding k p) step.still there) v here

  idle_step : (old new : Moment) → Idles old new → (v : Side) (k : ℕ) (p : Piece) → IsIn (end_of new.ends v).outstanding k p → IsIn (end_of old.ends v).outstanding k p
  idle_step old new (x, calm, happens, same) v k p here = subst (λ m. IsIn m k p) (same_out (end_of old.ends v) (end_of new.ends v) (same v)) here

  -- what an end sends lands
  pub lands : (n : ℕ) (old new : Moment) → IsReached a b old → HaveLanded old → Sends Tokens s n old new → IsReached a b new × HaveLanded new
  lands zero old new r landed (is, over) = subst (λ (m : Moment). IsReached a b m × HaveLanded m) (sym is) (r, landed)
  lands (suc n) old new r landed (mid, inl (want, room, filled, text, frames, told, at, same, fill, take), rest) =
      let x = exchanged old at mid want room filled text frames told r same fill take in
      let it = x.made_it in
      let later : (k : ℕ) → HasLanded old.log s k → HasLanded mid.log s k = λ k is. subst (λ h. HasLanded h s k) (sym take.0) (still_landed _ at.log s k (subst (λ h. HasLanded h s k) (sym fill.0) (still_landed _ old.log s k is))) in
      lands n mid new x.is_reached
      (λ k p here.
      elim (fills_at k p (end_of old.ends s) it.frames (end_of old.ends s) it.last it.filled (subst (λ (y : End). IsIn y.outstanding k p) it.made here)) [
        | inl before ↦ later k (landed k p before)
        | inr next ↦ subst (HasLanded mid.log s) (sym next) x.lands
      ])
      rest
  lands (suc n) old new r landed (mid, inr (inl (u, token, (logged, step))), rest) =
      lands n mid new (reached a b old mid _ r logged step) (landed_as old mid _ logged (told_step u old mid token (logged, step) s) landed) rest
  lands (suc n) old new r landed (mid, inr (inr (x, calm, (logged, step), same)), rest) =
      lands n mid new (reached a b old mid x r logged step) (landed_as old mid x logged (idle_step old mid (x, calm, (logged, step), same) s) landed) rest

  -- of the other end no more is outstanding than was
  pub sends_back : (n : ℕ) (old new : Moment) → IsReached a b old → Sends Tokens s n old new → (k : ℕ) (p : Piece) → IsIn (end_of new.ends (other s)).outstanding k p → IsIn (end_of old.ends (other s)).outstanding k p
  sends_back zero old new r (is, over) k p here = subst (λ (m : Moment). IsIn (end_of m.ends (other s)).outstanding k p) is here
  sends_back (suc n) old new r (mid, inl (want, room, filled, text, frames, told, at, same, fill, take), rest) k p here =
      let x = exchanged old at mid want room filled text frames told r same fill take in
      frames_back k p (frames_in text) (end_of old.ends (other s)) (subst (λ (y : End). IsIn y.outstanding k p) x.took (sends_back n mid new x.is_reached rest k p here))
  sends_back (suc n) old new r (mid, inr (inl (u, token, (logged, step))), rest) k p here =
      told_step u old mid token (logged, step) (other s) k p (sends_back n mid new (reached a b old mid _ r logged step) rest k p here)
  sends_back (suc n) old new r (mid, inr (inr (x, calm, (logged, step), same)), rest) k p here =
      idle_step old mid (x, calm, (logged, step), same) (other s) k p (sends_back n mid new (reached a b old mid x r logged step) rest k p here)

-- what landed stays so
pub landed_on : (Is : Call → Type 0) (s : Side) (k : ℕ) (ms : List Moment) (old new : Moment) → Trail Is old ms new → HasLanded old.log s k → HasLanded new.log s k
landed_on Is s k [] old new is landed = subst (λ (m : Moment). HasLanded m.log s k) (sym is) landed
landed_on Is s k (m ∷ ms) old new ((x, kind, logged, step), rest) landed = landed_on Is s k ms m new rest (subst (λ h. HasLanded h s k) (sym logged) (still_landed x old.log s k landed))
