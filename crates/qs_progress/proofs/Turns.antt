-- Turns: what one end sends is acknowledged once the other's turn is over.
use Rattle.std.proofs.lemmas.Bool.Decides.{nat_tests}
use Rattle.std.proofs.Common.{◌≡◌, ℕ, zero, suc, ◌<◌, true, false, List, [], ◌∷◌, ◌++◌, append-nil, ◌⊎◌, length, slice_get, Option, Some, None, is_some, refl, sym, ap, ◌∙◌, subst, arith, inl, inr}
use Rattle.std.specs.Prelude.{⊤, Result, Ok, Err, flat_map, ◌+◌, ◌-◌}
use Rattle.std.specs.FinMap as fmap
use Rattle.std.specs.FinSet as set
use Rattle.std.proofs.lemmas.Bool.{true≢false, or_left, or_right}
use Rattle.std.proofs.lemmas.List.{length-map}
use Rattle.std.proofs.lemmas.Option.{same_Some, slice_get_within}
use Rattle.qs_send.specs.Records.{Among}
use Rattle.qs_send.specs.declared.piece.Piece.{Piece}
use Rattle.qs_send.specs.declared.piece.Piece.TheVariants.{Data, Told}
use Rattle.qs_calls.specs.declared.closing.Closed.{Closed}
use Rattle.qs_calls.specs.declared.closing.Received.TheVariants.{Done}
use Rattle.qs_calls.specs.declared.event.Side.{Side}
use Rattle.qs_calls.specs.declared.making.Made.{Made}
use Rattle.qs_calls.specs.declared.making.MakeFault.{MakeFault}
use Rattle.qs_calls.specs.declared.making.LostFault.{LostFault}
use Rattle.qs_calls.specs.declared.making.LostFault.TheVariants as losing
use Rattle.qs_calls.specs.declared.settings.Settings.{Settings}
use Rattle.qs_calls.specs.declared.token.Token.{Token}
use Rattle.qs_calls.specs.declared.token.TokenFault.{TokenFault}
use Rattle.qs_machine.specs.Alone.{LosesEach, TokenLostStep, lost_answer, token_refusal}
use Rattle.qs_machine.specs.Ends.{End}
use Rattle.qs_machine.specs.Seen.{Seen, Plain, seen_all, asks_ack, any_asks}
use Rattle.qs_machine.specs.Plains.{frames_in, is_plain}
use Rattle.qs_machine.specs.Ways.{IsNew, is_ack}
use Rattle.qs_machine.specs.Credit.{settle}
use Rattle.qs_machine.specs.Due.{Sendable}
use Rattle.qs_machine.specs.Asking.{IsNextOutstanding}
use Rattle.qs_calls.specs.declared.filling.Fill.{Fill}
use Rattle.qs_calls.specs.declared.filling.Filled.{Filled}
use Rattle.qs_machine.specs.Lawful.{Fills}
use Rattle.qs_machine.specs.Filling.{FillAt, IsFilled, as_made}
use Rattle.qs_machine.specs.Making.{IsMade, MakeAt, LoseStep, losses, make_refusal, claim_refusal}
use Rattle.qs_machine.specs.Receiving.{ReceiveStep, ReceiveBy}
use Rattle.qs_machine.specs.EndStep.{Call, Answer, EndStep, Receive, Make, MakeAck, FillIn, Claim}
use Rattle.qs_machine.proofs.Plains.{differ_covers, differ_turned}
use Rattle.qs_machine.proofs.Ways.{payload_frames, ack_packet}
use Rattle.qs_runs.specs.Logs.{Happening, History, other, made, payload, effects_of, sent_in, ping_text}
use Rattle.qs_runs.specs.Pasts.{PieceOf, past}
use Rattle.qs_runs.specs.Worlds.{end_of, IsPayload}
use Rattle.qs_runs.proofs.Histories.{made_here, payload_seen, heard_some, theirs_mine, none_sent}
use Rattle.qs_runs.proofs.Claims.{run_settled}
use Rattle.qs_runs.proofs.Lists.{slice_get-last}
use Rattle.qs_runs.proofs.Runs.{run_keeps, processed_made}
use Rattle.qs_runs.proofs.Standing.{certain_cases}
use Rattle.qs_runs.proofs.Wire.{text_seen, ping_seen}
use Rattle.qs_progress.specs.Laps.{Moment, IsCalm, Trail}
use Rattle.qs_progress.specs.Comes.{IsReached}
use Rattle.qs_progress.specs.Outstanding.{IsIn}
use Rattle.qs_progress.specs.Rounds.{Way, Packets, Tokens, Happens, Until, Loses, Delivers, IsTold}
use Rattle.qs_progress.proofs.Trails.{reached, joined}
use Rattle.qs_progress.proofs.Passing.{Passed, Owes, IsClear, MayBe, NamesTop, named_top, owes_more, answers, still_clear}

-- the losses of an end, and what it sends, so many of each
abbrev pub Losses : Way → Side → ℕ → Moment → Moment → Type 0
Losses w s n old new = Until (Loses w s) (λ m. IsNextOutstanding (end_of m.ends s).outstanding 0 None) n old new

abbrev pub Sends : Way → Side → ℕ → Moment → Moment → Type 0
Sends w s n old new = Until (Delivers w s) (λ m. (Sendable (end_of m.ends s) → ⊥) × IsTold w (other s) m) n old new

-- Idle calls

-- an end may have accepted streams, and is as it was
abbrev pub IsSame : End → End → Type 0
IsSame e f = f ≡ record e { accepted_bidi = f.accepted_bidi; accepted_uni = f.accepted_uni }

pub as_was : (e f : End) → f ≡ e → IsSame e f
as_was e f is = subst (IsSame e) (sym is) refl

-- what goes by no count of accepted streams stays
pub same_as : {X : Type 0} (of : End → X) (e f : End) → IsSame e f → ((bidi uni : ℕ) → of (record e { accepted_bidi = bidi; accepted_uni = uni }) ≡ of e) → of f ≡ of e
same_as of e f is free = ap of is ∙ free f.accepted_bidi f.accepted_uni

pub same_out : (e f : End) → IsSame e f → f.outstanding ≡ e.outstanding
same_out e f is = same_as (λ y. y.outstanding) e f is (λ bidi uni. refl)

-- Losses

-- an end and its peer, once packets of it were lost
pub record Lost (e f : End) : Type 0 where
  pub done : f.done ≡ e.done
  pub due : f.ack_due ≡ e.ack_due
  pub same : IsClear e → f ≡ e

lost_same : (e : End) → Lost e e
lost_same e = record { done = refl; due = refl; same = λ clear. refl }

losses_leave : (k : ℕ) (ps : List Piece) (e : End) → ((losses k ps e).done ≡ e.done) × ((losses k ps e).ack_due ≡ e.ack_due)
unfolding losses
losses_leave k [] e = (refl, refl)
losses_leave k (p ∷ ps) e = losses_leave k ps _

none_lost : (e : End) (k : ℕ) (ps : List Piece) → fmap.get e.outstanding k ≡ Some ps → IsClear e → losses k ps e ≡ e
unfolding losses
none_lost e k [] there clear = refl
none_lost e k (p ∷ ps) there clear = absurd (clear k p (p ∷ ps, there, inl refl))

one_lost : (e f : End) (k : ℕ) → LoseStep e k (Ok tt) f → Lost e f
one_lost e f k step = grind (arith, nat_tests, certain_cases, losses_leave, none_lost)

-- a packet that isn't outstanding leaves it as it was
none_out : (e f : End) (k : ℕ) → LoseStep e k (Err losing.NotOutstanding) f → f ≡ e
none_out e f k step = grind (arith, nat_tests, certain_cases)

-- after its losses nothing of an end is outstanding, and the other end is as it was
pub record HasLost (s : Side) (old new : Moment) : Type 0 where
  pub here : Lost (end_of old.ends s) (end_of new.ends s)
  pub there : end_of new.ends (other s) ≡ end_of old.ends (other s)
  pub clear : IsClear (end_of new.ends s)

lost_twice : (e f g : End) → Lost e f → Lost f g → Lost e g
lost_twice e f g x y = record { done = y.done ∙ x.done; due = y.due ∙ x.due; same = λ clear. let first = x.same clear in y.same (subst IsClear (sym first) clear) ∙ first }

loses_one : (declared : Result (Unit {0}) LostFault) (e f : End) (k : ℕ) → LoseStep e k declared f → ◌≡◌ {A = Result (Unit {0}) TokenFault} (Ok tt) (lost_answer declared) → Lost e f
loses_one (Ok done) e f k step told = one_lost e f k step
loses_one (Err losing.NotOutstanding) e f k step told = subst (Lost e) (sym (none_out e f k step)) (lost_same e)
loses_one (Err losing.NoMemory) e f k step told = absurd cc
loses_one (Err losing.Closed) e f k step told = absurd cc

each_lost : (n first : ℕ) (e f : End) → LosesEach n first e (Ok tt) f → Lost e f
each_lost zero first e f (told, is) = subst (Lost e) (sym is) (lost_same e)
each_lost (suc n) first e f (inl (mid, (declared, step, told), rest)) = lost_twice e mid f (loses_one declared e mid (first + n) step told) (each_lost n first mid f rest)
each_lost (suc n) first e f (inr (fault, one, is)) = absurd cc

token_lost : (e f : End) (t : Token) → TokenLostStep e t (Ok tt) f → Lost e f
token_lost e f t step =
    elim (certain_cases (token_refusal e t) e (Ok tt) f _ step) [
      | inl (fault, refused, same) ↦ absurd (cc refused)
      | inr (allowed, each) ↦ each_lost ((t.number + 1) - t.first) t.first e f each
    ]

loss_leaves : (w : Way) (s : Side) (old new : Moment) → Loses w s old new → Lost (end_of old.ends s) (end_of new.ends s) × (end_of new.ends (other s) ≡ end_of old.ends (other s))
loss_leaves Packets s old new (k, (logged, step)) = (one_lost (end_of old.ends s) (end_of new.ends s) k step.step, step.still)
loss_leaves Tokens s old new (t, (logged, step)) = (token_lost (end_of old.ends s) (end_of new.ends s) t step.step, step.still)

pub loses : (w : Way) (s : Side) (n : ℕ) (old new : Moment) → Losses w s n old new → HasLost s old new
loses w s zero old new (is, none) =
    subst (HasLost s old) (sym is)
    (record { here = lost_same (end_of old.ends s); there = refl; clear = λ k p (ps, at, among). true≢false (sym (ap is_some at) ∙ none k (omega arith)) })
loses w s (suc n) old new (mid, step, rest) =
    let (one, still) = loss_leaves w s old mid step in
    let more = loses w s n mid new rest in
    record { here = lost_twice (end_of old.ends s) (end_of mid.ends s) (end_of new.ends s) one more.here; there = more.there ∙ still; clear = more.clear }

pub loses_none : (w : Way) (s : Side) (n : ℕ) (old new : Moment) → Losses w s n old new → IsNextOutstanding (end_of new.ends s).outstanding 0 None
loses_none w s zero old new (is, none) = subst (λ (m : Moment). IsNextOutstanding (end_of m.ends s).outstanding 0 None) (sym is) none
loses_none w s (suc n) old new (mid, happens, rest) = loses_none w s n mid new rest

loss_trail : (w : Way) (s : Side) (old new : Moment) → Loses w s old new → Trail (λ call. ⊤) old (new ∷ []) new
loss_trail Packets s old new (k, (logged, step)) = ((_, tt, logged, step), refl)
loss_trail Tokens s old new (t, (logged, step)) = ((_, tt, logged, step), refl)

pub loses_trail : (w : Way) (s : Side) (n : ℕ) (old new : Moment) → Losses w s n old new → (ms : List Moment) × Trail (λ call. ⊤) old ms new
loses_trail w s zero old new (is, none) = ([], is)
loses_trail w s (suc n) old new (mid, step, rest) =
    let (ms, trail) = loses_trail w s n mid new rest in
    (mid ∷ ms, joined (λ call. ⊤) (mid ∷ []) ms old mid new (loss_trail w s old mid step) trail)

-- What an end sends

-- it is a trail
delivery_trail : (w : Way) (s : Side) (old new : Moment) → Delivers w s old new → (ms : List Moment) × Trail IsCalm old ms new
delivery_trail Packets s old new (inl (call, answer, bytes, at, calm, (logged, make), (logged_too, receive))) = (at ∷ new ∷ [], ((_, calm, logged, make), ((_, tt, logged_too, receive), refl)))
delivery_trail Packets s old new (inr (x, calm, (logged, step), same)) = (new ∷ [], ((x, calm, logged, step), refl))
delivery_trail Tokens s old new (inl (want, room, filled, text, frames, taken, at, seen, (logged, fill), (logged_too, take))) = (at ∷ new ∷ [], ((_, tt, logged, fill), ((_, tt, logged_too, take), refl)))
delivery_trail Tokens s old new (inr (inl (t, token, (logged, step)))) = (new ∷ [], ((_, tt, logged, step), refl))
delivery_trail Tokens s old new (inr (inr (x, calm, (logged, step), same))) = (new ∷ [], ((x, calm, logged, step), refl))

pub sends_trail : (w : Way) (s : Side) (n : ℕ) (old new : Moment) → Sends w s n old new → (ms : List Moment) × Trail IsCalm old ms new
sends_trail w s zero old new (is, over) = ([], is)
sends_trail w s (suc n) old new (mid, step, rest) =
    let (ms, first) = delivery_trail w s old mid step in
    let (ns, more) = sends_trail w s n mid new rest in
    (ms ++ ns, joined IsCalm ms ns old mid new first more)

-- and ends where nothing may go
pub sends_over : (w : Way) (s : Side) (n : ℕ) (old new : Moment) → Sends w s n old new → (Sendable (end_of new.ends s) → ⊥) × IsTold w (other s) new
sends_over w s zero old new (is, over) = subst (λ (m : Moment). (Sendable (end_of m.ends s) → ⊥) × IsTold w (other s) m) (sym is) over
sends_over w s (suc n) old new (mid, step, rest) = sends_over w s n mid new rest

pub sends_all : (w : Way) (s : Side) (n : ℕ) (old new : Moment) → Sends w s n old new → Sendable (end_of new.ends s) → ⊥
sends_all w s n old new sent = (sends_over w s n old new sent).0

-- What is received

-- a payload that is taken in whole is a new one, and its end is open
pub new_payload : (e new : End) (k : ℕ) (bytes : List ℕ) → ReceiveStep e k bytes (Ok Done) new → IsNew e k
new_payload e new k bytes step = by_closed e.closed refl step
  where
    by_closed : (o : Option Closed) → e.closed ≡ o → ReceiveBy o k bytes e (Ok Done) new → IsNew e k
    by_closed o is rest = grind (arith, nat_tests)

pub is_made : (o : Option MakeFault) (e new : End) (first delay room : ℕ) (made : Made) (text : List ℕ) → MakeAt o e first delay room (Ok (Some made)) text new → IsMade e first delay room made text new
is_made None e new first delay room made text step = step
is_made (Some fault) e new first delay room made text step = absurd (cc step.0)

the_last : (texts : List (List ℕ)) (t text : List ℕ) → slice_get (texts ++ t ∷ []) (length texts) ≡ Some text → t ≡ text
the_last texts t text is = same_Some t text (sym (slice_get-last texts t) ∙ is)

none_there : (texts : List (List ℕ)) (text : List ℕ) → slice_get (texts ++ []) (length texts) ≡ Some text → ⊥
none_there texts text is = grind (arith, nat_tests, slice_get_within, slice_get, append-nil)

-- an end made its next packet, with this text
pub record Makes (e e2 : End) (text : List ℕ) : Type 0 where
  pub frames : List Seen
  pub last : End
  pub filled : Fills e e frames last
  pub made : e2 ≡ settle (record last { next = e.next + 1 })
  pub names : (g : Seen) (at : End) → Among g frames → MayBe e at g → NamesTop e g
  pub reads : (g : Seen) → Among g frames → Among g (frames_in text)
  pub back : (g : Seen) → Among g (frames_in text) → is_plain g ≡ false → Among g frames

pub makes : (e e2 : End) (first delay room : ℕ) (made_it : Made) (text : List ℕ) → IsMade e first delay room made_it text e2 → Makes e e2 text
makes e e2 first delay room made_it text it =
    let (last, filled, ends) = it.lawful.filled in
    record {
      frames = seen_all it.frames;
      last = last;
      filled = filled;
      made = it.after ∙ ap settle ends;
      names = λ g at among may. named_top e at delay room it.frames it.spells.fits it.acks g among may;
      reads = λ g among. subst (Among g) (sym (text_seen delay it.frames text it.lawful.some it.spells)) among;
      back = λ g among unplain. subst (Among g) (text_seen delay it.frames text it.lawful.some it.spells) among;
    }

pub is_filled : (o : Option MakeFault) (e new : End) (want : Fill) (room : ℕ) (filled : Filled) (text : List ℕ) → FillAt o e want room (Ok (Some filled)) text new → IsFilled e want room filled text new
is_filled None e new want room filled text step = step
is_filled (Some fault) e new want room filled text step = absurd (cc step.0)

-- a packet of a claimed number has a plain frame alone
ping_alone : (g : Seen) → Among g (Plain true ∷ []) → is_plain g ≡ false → ⊥
ping_alone g (inl is) unplain = true≢false (sym (ap is_plain is) ∙ unplain)
ping_alone g (inr none) unplain = none

-- a call by which the number of texts grew made a packet, by `make_packet`, `make_ack` or `fill`, or claimed a number
its_packet : (e e2 : End) (call : Call) (answer : Answer call) → EndStep e call answer e2 → settle e ≡ e → (texts : List (List ℕ)) (text : List ℕ) → slice_get (texts ++ flat_map sent_in (effects_of call answer)) (length texts) ≡ Some text → Makes e e2 text
its_packet e e2 (Make first delay room) (Ok (Some made_it), t) step settled texts text is =
    subst (Makes e e2) (the_last texts t text is) (makes e e2 first delay room made_it t (is_made (make_refusal e) e e2 first delay room made_it t step))
its_packet e e2 (MakeAck delay room) (Ok (Some made_it), t) step settled texts text is =
    subst (Makes e e2) (the_last texts t text is)
    (elim (ack_packet e e2 0 delay room (Ok (Some made_it)) t step) [
      | inl packet ↦ makes e e2 0 delay (length t) made_it t (is_made (make_refusal e) e e2 0 delay (length t) made_it t packet)
      | inr (none, empty, same) ↦ absurd (cc none)
    ])
its_packet e e2 (FillIn want room) (Ok (Some filled), t) step settled texts text is =
    subst (Makes e e2) (the_last texts t text is) (makes e e2 want.first 0 (length t) (as_made filled) t (is_filled (make_refusal e) e e2 want room filled t step).made)
its_packet e e2 Claim (Ok number) step settled texts text is =
    elim (certain_cases (claim_refusal e) e (Ok number) e2 _ step) [
      | inl (fault, refused, same) ↦ absurd (cc refused)
      | inr (allowed, (number_is, claimed)) ↦ record {
        frames = [];
        last = e;
        filled = refl;
        made = claimed ∙ ap (λ (y : End). record y { next = e.next + 1 }) (sym settled);
        names = λ g at none. absurd none;
        reads = λ g none. absurd none;
        back = λ g among unplain. absurd (ping_alone g (subst (Among g) (ap frames_in (sym (the_last texts ping_text text is)) ∙ ping_seen) among) unplain);
      }
    ]
its_packet e e2 (Make first delay room) (r, t) step settled texts text is = absurd (none_there texts text is)
its_packet e e2 (MakeAck delay room) (r, t) step settled texts text is = absurd (none_there texts text is)
its_packet e e2 (FillIn want room) (r, t) step settled texts text is = absurd (none_there texts text is)
its_packet e e2 Claim (Err fault) step settled texts text is = absurd (none_there texts text is)
its_packet e e2 call answer step settled texts text is = absurd (none_there texts text (ap (λ ts. slice_get (texts ++ ts) (length texts)) (sym (none_sent call answer (λ sends. sends))) ∙ is))

any_among : (f : Seen) (fs : List Seen) → Among f fs → asks_ack f ≡ true → any_asks fs ≡ true
any_among f [] among asks = absurd among
any_among f (g ∷ fs) (inl is) asks = or_left _ _ (ap asks_ack (sym is) ∙ asks)
any_among f (g ∷ fs) (inr later) asks = or_right (asks_ack g) _ (any_among f fs later asks)

pub other_twice : (s : Side) → other (other s) ≡ s
other_twice s = grind (arith, nat_tests)

-- what is owed stays so where an end is as it was but for what it has taken or put
pub owes_as : (lo hi : ℕ) (e e2 f f2 : End) → e2.outstanding ≡ e.outstanding → f2.done ≡ f.done → f2.ack_due ≡ f.ack_due → Owes lo hi e f → Owes lo hi e2 f2
owes_as lo hi e e2 f f2 out done due owes =
    record {
      order = owes.order;
      from = λ k p here. owes.from k p (subst (λ m. IsIn m k p) out here);
      kept = λ k low high. subst (λ s. set.contains s k ≡ true) (sym done) (owes.kept k low high);
      below = λ k is. owes.below k (subst (λ s. set.contains s k ≡ true) done is);
      due = λ k p here. due ∙ owes.due k p (subst (λ m. IsIn m k p) out here);
    }

owes_same : (lo hi : ℕ) (e e2 f f2 : End) → IsSame e e2 → IsSame f f2 → Owes lo hi e f → Owes lo hi e2 f2
owes_same lo hi e e2 f f2 x y owes =
    owes_as lo hi e e2 f f2 (same_out e e2 x) (same_as (λ z. z.done) f f2 y (λ bidi uni. refl)) (same_as (λ z. z.ack_due) f f2 y (λ bidi uni. refl)) owes

-- In a run

module _ (a b : Settings) where
  -- what an end processed is below the next number of its peer
  pub below_next : (m : Moment) → IsReached a b m → (s : Side) (k : ℕ) → set.contains (end_of m.ends (other s)).done k ≡ true → k < (end_of m.ends s).next
  below_next m r s k is =
      let ok = run_keeps a b m.log m.ends r.run in
      let (fs, there) = processed_made a b m.log m.ends ok (other s) k ((ok.ends (other s)).packets.is_done k is) in
      let lt = slice_get_within (past s m.log).mine k fs (ap (λ ps. slice_get ps k) (sym (theirs_mine s m.log)) ∙ there) in
      omega (arith, lt, (ok.ends s).packets.count)

  module _ (s : Side) where
    -- what stood in the packet asks for an ACK
    stood_asks : (h : History) (k : ℕ) (p : Piece) (text bytes : List ℕ) → payload s k h ≡ Some text → PieceOf (past s h).mine k p → ((f : Seen) → Among f (frames_in text) → is_plain f ≡ false → Among f (frames_in bytes)) → any_asks (frames_in bytes) ≡ true
    stood_asks h k (Data n c) text bytes is (data_bytes, (fs, at, among), len) covers =
        any_among _ (frames_in bytes) (covers _ (subst (Among _) (same_Some fs (frames_in text) (sym at ∙ payload_seen s k h text is)) among) refl) refl
    stood_asks h k (Told i) text bytes is (fs, at, among) covers =
        any_among _ (frames_in bytes) (covers _ (subst (Among _) (same_Some fs (frames_in text) (sym at ∙ payload_seen s k h text is)) among) refl) refl

    pub passed : (old mid new : Moment) (call : Call) (answer : Answer call) (bytes : List ℕ) → IsReached a b old
        → Happens (record { end = s; call = call; answer = answer }) old mid
        → Happens (record { end = other s; call = Receive (end_of old.ends s).next bytes; answer = Ok Done }) mid new
        → IsReached a b new × Passed (end_of old.ends s) (end_of new.ends s) (end_of old.ends (other s)) (end_of new.ends (other s))
    passed old mid new call answer bytes r (logged, make) (logged_too, receive) =
        let e = end_of old.ends s in
        let f = end_of mid.ends (other s) in
        let x : Happening = record { end = s; call = call; answer = answer } in
        let r_mid = reached a b old mid x r logged make in
        let r_new = reached a b mid new _ r_mid logged_too receive in
        let ok = run_keeps a b old.log old.ends r.run in
        let ok_mid = run_keeps a b mid.log mid.ends r_mid.run in
        let fresh = new_payload f (end_of new.ends (other s)) e.next bytes receive.step in
        let heard : IsPayload mid.log (other (other s)) e.next bytes = heard_some mid.log mid.ends (other s) (end_of new.ends (other s)) (Receive e.next bytes) (Ok Done) fresh.unclosed (λ none. cc none) (receive.may fresh.unclosed) receive.step in
        let (sent, is, differ) = subst (λ t. IsPayload mid.log t e.next bytes) (other_twice s) heard in
        let next : e.next ≡ length (made s old.log) = (ok.ends s).packets.count ∙ length-map (made s old.log) frames_in in
        let texts : made s mid.log ≡ made s old.log ++ flat_map sent_in (effects_of call answer) = ap (made s) logged ∙ made_here x old.log in
        let there : slice_get (made s old.log ++ flat_map sent_in (effects_of call answer)) (length (made s old.log)) ≡ Some sent = subst (λ k. slice_get (made s old.log ++ flat_map sent_in (effects_of call answer)) k ≡ Some sent) next (subst (λ ts. slice_get ts e.next ≡ Some sent) texts is) in
        let it = its_packet e (end_of mid.ends s) call answer make.step (run_settled a b old.log old.ends r.run s) (made s old.log) sent there in
        let (fine, faultless, took) = payload_frames f (end_of new.ends (other s)) e.next bytes fresh receive.step in
        let covers : (g : Seen) → Among g (frames_in sent) → is_plain g ≡ false → Among g (frames_in bytes) = λ g among unplain. elim (differ_covers sent bytes (differ_turned bytes sent differ) g among) [ inl there ↦ there | inr plain ↦ absurd (true≢false (sym plain ∙ unplain)) ] in
        let same : end_of new.ends s ≡ end_of mid.ends s = subst (λ t. end_of new.ends t ≡ end_of mid.ends t) (other_twice s) receive.still in (
          r_new,
          subst (λ y. Passed e (end_of new.ends s) y (end_of new.ends (other s))) make.still
              (record {
                frames = it.frames;
                last = it.last;
                filled = it.filled;
                made = same ∙ it.made;
                names = it.names;
                came = frames_in bytes;
                fine = fine;
                took = took;
                acks = λ g among is. covers g (it.reads g among) (no_plain g is);
                only = λ g among unplain. elim (differ_covers bytes sent differ g among) [ inl there ↦ it.back g there unplain | inr plain ↦ absurd (true≢false (sym plain ∙ unplain)) ];
                asks = λ p here.
                    let (ps, there, in_ps) = subst (λ (y : End). IsIn y.outstanding e.next p) same here in
                    stood_asks mid.log e.next p sent bytes is ((ok_mid.ends s).packets.records e.next ps p there in_ps) covers;
                sound = ok_mid.sound (other s);
                sent = ok_mid.sent (other s);
                below = λ k there. below_next old r s k (subst (λ (y : End). set.contains y.done k ≡ true) make.still there);
                below_then = below_next new r_new s;
              }),
        )
      where
        no_plain : (g : Seen) → is_ack g ≡ true → is_plain g ≡ false
        no_plain g is = grind (arith, nat_tests)

    -- The turn of an end: what the other end owes it grows
    pub sends : (n : ℕ) (old new : Moment) (lo : ℕ) → IsReached a b old → Sends Packets s n old new → Owes lo (end_of old.ends s).next (end_of old.ends s) (end_of old.ends (other s))
        → IsReached a b new × Owes lo (end_of new.ends s).next (end_of new.ends s) (end_of new.ends (other s))
    sends zero old new lo r (is, over) owes = subst (λ (m : Moment). IsReached a b m × Owes lo (end_of m.ends s).next (end_of m.ends s) (end_of m.ends (other s))) (sym is) (r, owes)
    sends (suc n) old new lo r (mid, inl (call, answer, bytes, at, calm, make, receive), rest) owes =
        let (there, x) = passed old at mid call answer bytes r make receive in
        sends n mid new lo there rest (owes_more (end_of old.ends s) (end_of mid.ends s) (end_of old.ends (other s)) (end_of mid.ends (other s)) x lo owes)
    sends (suc n) old new lo r (mid, inr (x, calm, (logged, step), same), rest) owes =
        sends n mid new lo (reached a b old mid x r logged step) rest
        (subst (λ k. Owes lo k (end_of mid.ends s) (end_of mid.ends (other s))) (sym (same_as (λ y. y.next) (end_of old.ends s) (end_of mid.ends s) (same s) (λ bidi uni. refl)))
        (owes_same lo (end_of old.ends s).next (end_of old.ends s) (end_of mid.ends s) (end_of old.ends (other s)) (end_of mid.ends (other s)) (same s) (same (other s)) owes))

    -- and what it owes the other it tells
    abbrev IsHeard : ℕ → ℕ → Moment → Type 0
    IsHeard lo hi m = Owes lo hi (end_of m.ends (other s)) (end_of m.ends s) ⊎ IsClear (end_of m.ends (other s))

    pub tells : (n : ℕ) (old new : Moment) (lo hi : ℕ) → IsReached a b old → Sends Packets s n old new → IsHeard lo hi old → IsClear (end_of new.ends (other s))
    tells zero old new lo hi r (is, over) (inl owes) = subst (λ (m : Moment). IsClear (end_of m.ends (other s))) (sym is) (λ k p here. over.0 (inl (owes.due k p here)))
    tells zero old new lo hi r (is, over) (inr clear) = subst (λ (m : Moment). IsClear (end_of m.ends (other s))) (sym is) clear
    tells (suc n) old new lo hi r (mid, inl (call, answer, bytes, at, calm, make, receive), rest) told =
        let (there, x) = passed old at mid call answer bytes r make receive in
        tells n mid new lo hi there rest (elim told [
          | inl owes ↦ answers (end_of old.ends s) (end_of mid.ends s) (end_of old.ends (other s)) (end_of mid.ends (other s)) x lo hi owes
          | inr clear ↦ inr (still_clear (end_of old.ends s) (end_of mid.ends s) (end_of old.ends (other s)) (end_of mid.ends (other s)) x clear)
        ])
    tells (suc n) old new lo hi r (mid, inr (x, calm, (logged, step), same), rest) told =
        tells n mid new lo hi (reached a b old mid x r logged step) rest
        (elim told [
          | inl owes ↦ inl (owes_same lo hi (end_of old.ends (other s)) (end_of mid.ends (other s)) (end_of old.ends s) (end_of mid.ends s) (same (other s)) (same s) owes)
          | inr clear ↦ inr (λ k p here. clear k p (subst (λ m. IsIn m k p) (same_out (end_of old.ends (other s)) (end_of mid.ends (other s)) (same (other s))) here))
        ])
