-- Frames that are taken in without their packet, and packets that are told by their tokens.
use Rattle.qs_calls.specs.declared.token.TokenFault.TheVariants as tokens
use Rattle.std.specs.FinMap as fmap
use Rattle.std.specs.FinSet as set
use Rattle.qs_calls.specs.declared.closing.Received.TheVariants as received
use Rattle.qs_conn.specs.declared.endpoint.receiving.Progress.TheVariants as progress
use Rattle.std.proofs.lemmas.Bool.Decides.{nat_tests}
use Rattle.std.proofs.Common.{◌≡◌, ℕ, suc, ◌+◌, ◌-◌, ◌<◌, ◌≤◌, arith, true, false, List, [], ◌∷◌, Option, None, Some, Result, Ok, Err, refl, sym, ap, ◌∙◌, subst, inl, inr, max, Bool, is_some, nat_lt, ◌||◌, if◌then◌else◌, ◌^◌, not, ◌++◌}
use Rattle.std.specs.Prelude.{option_map, MatchBool, ⊤, reverse}
use Rattle.qs_wire.specs.Layout.{FrameValue, PlacedValue}
use Rattle.qs_wire.specs.Grammar.{Fits, frames_of}
use Rattle.qs_calls.specs.declared.closing.Closed.{Closed}
use Rattle.qs_calls.specs.declared.making.LostFault.{LostFault}
use Rattle.qs_calls.specs.declared.token.Token.{Token}
use Rattle.qs_calls.specs.declared.token.Taken.{Taken}
use Rattle.qs_calls.specs.declared.token.Taken.TheVariants.{Took, Unchanged, NotOurs}
use Rattle.qs_calls.specs.declared.token.TakeFault.{TakeFault}
use Rattle.qs_calls.specs.declared.token.TokenFault.{TokenFault}
use Rattle.qs_machine.specs.Ends.{End, Records, closes}
use Rattle.qs_machine.specs.Credit.{settle}
use Rattle.qs_machine.specs.Seen.{Seen, seen, Ack, Stream, Control, Plain, seen_all, Close}
use Rattle.qs_machine.specs.Verdicts.{verdict, or_else, fault_of}
use Rattle.qs_machine.specs.Changes.{changes}
use Rattle.qs_machine.proofs.Changes.{frame_same, frame_differs}
use Rattle.qs_machine.specs.FrameStep.{frame_taken, is_named, named, acks}
use Rattle.qs_machine.specs.Receiving.{RunsOut, ReceiveBy, ReceiveStep, OpenReceive, TakesPayload, Stops, GoesOn, closing_at, Takes}
use Rattle.qs_machine.specs.Making.{LoseStep}
use Rattle.qs_machine.specs.Alone.{is_ours, only, of_both, after_one, closed_fault, token_refusal, lost_answer, LosesOne, LosesEach, TakesOne, TakesEach, TakeBy, TakeAllBy, OpenTake, TakeFrameStep, TakeFramesStep, TokenAckedStep, TokenLostStep}
use Rattle.qs_send.specs.Records.{IsGreatest, NoneEmpty}
use Rattle.qs_machine.specs.Asking.{IsNextOutstanding}
use Rattle.std.proofs.lemmas.Option.{none-some}
use Rattle.qs_wire.specs.declared.stream_id.Dir.TheVariants.{Bidi, Uni}
use Rattle.qs_machine.specs.Owner.{AcceptStep, AcceptOfStep, GivesNone, GivesBidi, GivesUni, opened_count, peer_type}
use Rattle.qs_calls.specs.declared.closing.Closing.{Closing}
use Rattle.qs_calls.specs.declared.closing.Received.{Received}
use Rattle.qs_wire.specs.Reading.{Reading, with_first}
use Rattle.qs_machine.specs.Newly.{gone, in_turn, newly_acked}
use Rattle.qs_recv.specs.declared.half.RecvFault.{RecvFault}
use Rattle.qs_calls.specs.declared.closing.Closed.TheVariants.{ByUs}
use Rattle.std.specs.List.{filter, FoldsTo}
use Rattle.qs_calls.specs.declared.closing.Received.TheVariants.{NoMemory as ReceivedNoMemory}
use Rattle.qs_machine.proofs.NewlyTold.{holds, Within, acks_some, acks_all, none_named as none_newly_named, turn_none, gone_none, false_from_not, told_first, told_later, told_last, tells_on, item_out, stream_out}
use Rattle.qs_conn.specs.Layers.{TakesFrame}
use Rattle.qs_conn.specs.NewlyTold.{told_of}

-- Tokens

pub acked_refused : (e : End) (t : Token) (fault : TokenFault) → Some fault ≡ token_refusal e t → TokenAckedStep e t (Err fault) e
acked_refused e t fault is = rw (← is) (refl, refl)

pub lost_refused : (e : End) (t : Token) (fault : TokenFault) → Some fault ≡ token_refusal e t → TokenLostStep e t (Err fault) e
lost_refused e t fault is = rw (← is) (refl, refl)

pub acked_all : (old mid new : End) (t : Token) → None ≡ token_refusal old t → mid ≡ frame_taken (only t) old → new ≡ settle mid → TokenAckedStep old t (Ok tt) new
acked_all old mid new t is took after = rw (← is) (inl (refl, after ∙ ap settle took))

pub acked_some : (old mid new : End) (t : Token) → None ≡ token_refusal old t → RunsOut old (only t) mid → new ≡ settle mid → TokenAckedStep old t (Err tokens.NoMemory) new
acked_some old mid new t is out after = rw (← is) (inr (refl, mid, out, after))

pub lost_told : (old new : End) (t : Token) (answer : Result (Unit {0}) TokenFault) → None ≡ token_refusal old t → LosesEach ((t.number + 1) - t.first) t.first old answer new → TokenLostStep old t answer new
lost_told old new t answer is lose = rw (← is) lose

pub one_lost : (k : ℕ) (old new : End) (declared : Result (Unit {0}) LostFault) (answer : Result (Unit {0}) TokenFault) → LoseStep old k declared new → answer ≡ lost_answer declared → LosesOne k old answer new
one_lost k old new declared answer lose told = (declared, lose, told)

-- so many numbers are left as lie between
pub each_end : (first end : ℕ) (e : End) → end ≤ first → LosesEach (end - first) first e (Ok tt) e
each_end first end e le = grind (arith, nat_tests)

step_down : (first end k : ℕ) → first < end → k + 1 ≡ end → (suc (k - first) ≡ end - first) × (first + (k - first) ≡ k)
step_down first end k lt is = (omega (arith, lt, is), omega (arith, lt, is))

pub each_more : (first end k : ℕ) (e mid new : End) (answer : Result (Unit {0}) TokenFault) → first < end → k + 1 ≡ end → LosesOne k e (Ok tt) mid → LosesEach (k - first) first mid answer new → LosesEach (end - first) first e answer new
each_more first end k e mid new answer lt is one rest =
    let (count, at) = step_down first end k lt is in
    subst (λ n. LosesEach n first e answer new) count (inl (mid, subst (λ i. LosesOne i e (Ok tt) mid) (sym at) one, rest))

pub each_stop : (first end k : ℕ) (e new : End) (fault : TokenFault) (answer : Result (Unit {0}) TokenFault) → first < end → k + 1 ≡ end → LosesOne k e (Err fault) new → answer ≡ Err fault → LosesEach (end - first) first e answer new
each_stop first end k e new fault answer lt is one same =
    let (count, at) = step_down first end k lt is in
    subst (λ n. LosesEach n first e answer new) count (inr (fault, subst (λ i. LosesOne i e (Err fault) new) (sym at) one, same))

-- Frames

-- where the end is open, and where it is closed
by_open : (P : Option Closed → Type 0) (c : Option Closed) → None ≡ option_map closed_fault c → P None → P c
by_open P c is open_end = grind (arith, nat_tests)

by_closed : (P : Option Closed → Type 0) (fault : TakeFault) (c : Option Closed) → Some fault ≡ option_map closed_fault c → ((k : Closed) → fault ≡ closed_fault k → P (Some k)) → P c
by_closed P fault c is shut = grind (arith, nat_tests)

open_take : (old new : End) (f : FrameValue) (answer : Result Taken TakeFault) → None ≡ option_map closed_fault old.closed → OpenTake f old answer new → TakeFrameStep old f answer new
open_take old new f answer is step = by_open (λ c. TakeBy c f old answer new) old.closed is step

pub said_again : (old : End) (f : FrameValue) (fault : TakeFault) → Some fault ≡ option_map closed_fault old.closed → TakeFrameStep old f (Err fault) old
said_again old f fault is = by_closed (λ c. TakeBy c f old (Err fault) old) fault old.closed is (λ k same. (ap Err same, refl))

pub passed_by : (old : End) (f : FrameValue) → None ≡ option_map closed_fault old.closed → is_ours (seen f) ≡ false → TakeFrameStep old f (Ok NotOurs) old
passed_by old f is other = open_take old old f (Ok NotOurs) is (rw other (refl, refl))

pub is_taken : (old mid new : End) (f : FrameValue) (answer : Result Taken TakeFault) → None ≡ option_map closed_fault old.closed → is_ours (seen f) ≡ true → TakesOne old f answer mid → new ≡ settle mid → TakeFrameStep old f answer new
is_taken old mid new f answer is ours took after = open_take old new f answer is (rw ours (mid, took, after))

pub all_said_again : (old : End) (fs : List FrameValue) (fault : TakeFault) → Some fault ≡ option_map closed_fault old.closed → TakeFramesStep old fs (Err fault) old
all_said_again old fs fault is = by_closed (λ c. TakeAllBy c fs old (Err fault) old) fault old.closed is (λ k same. (ap Err same, refl))

pub are_taken : (old mid new : End) (fs : List FrameValue) (answer : Result Taken TakeFault) → None ≡ option_map closed_fault old.closed → TakesEach fs old answer mid → new ≡ settle mid → TakeFramesStep old fs answer new
are_taken old mid new fs answer is took after = by_open (λ c. TakeAllBy c fs old answer new) old.closed is (mid, took, after)

-- Frames so far, and those that are left

-- what came of three frames
of_three : (a b c : Taken) → of_both a (of_both b c) ≡ of_both (of_both a b) c
of_three a b c = grind (arith, nat_tests)

pub one_more : (before one : Taken) (f : FrameValue) (fs : List FrameValue) (e mid new : End) (answer : Result Taken TakeFault) (P : Result Taken TakeFault → End → Type 0) → is_ours (seen f) ≡ true → TakesOne e f (Ok one) mid
    → ((later : Result Taken TakeFault) (last : End) → TakesEach (f ∷ fs) e later last → P (after_one before later) last) → TakesEach fs mid answer new → P (after_one (of_both before one) answer) new
one_more before one f fs e mid new answer P ours took onward rest =
    subst (λ r. P r new) (twice answer) (onward (after_one one answer) new (rw ours (inl (mid, one, answer, took, rest, refl))))
  where
    twice : (r : Result Taken TakeFault) → after_one before (after_one one r) ≡ after_one (of_both before one) r
    twice (Ok later) = ap Ok (of_three before one later)
    twice (Err fault) = refl

pub one_passed : (before : Taken) (f : FrameValue) (fs : List FrameValue) (e new : End) (answer : Result Taken TakeFault) (P : Result Taken TakeFault → End → Type 0) → is_ours (seen f) ≡ false
    → ((later : Result Taken TakeFault) (last : End) → TakesEach (f ∷ fs) e later last → P (after_one before later) last) → TakesEach fs e answer new → P (after_one before answer) new
one_passed before f fs e new answer P other onward rest = onward answer new (rw other rest)

pub one_stops : (before : Taken) (f : FrameValue) (fs : List FrameValue) (e new : End) (fault : TakeFault) (P : Result Taken TakeFault → End → Type 0) → is_ours (seen f) ≡ true → TakesOne e f (Err fault) new
    → ((later : Result Taken TakeFault) (last : End) → TakesEach (f ∷ fs) e later last → P (after_one before later) last) → P (Err fault) new
one_stops before f fs e new fault P ours stops onward = onward (Err fault) new (rw ours (inr (fault, stops, refl)))

pub none_left : (before : Taken) (e : End) (P : Result Taken TakeFault → End → Type 0) → ((later : Result Taken TakeFault) (last : End) → TakesEach [] e later last → P (after_one before later) last) → P (Ok before) e
none_left before e P onward = subst (λ t. P (Ok t) e) (same before) (onward (Ok NotOurs) e (refl, refl))
  where
    same : (t : Taken) → of_both t NotOurs ≡ t
    same Took = refl
    same _ = refl

-- One frame that has no fault

pub took_some : (e new : End) (f : FrameValue) (s : Seen) → s ≡ seen f → Fits f → verdict e s ≡ None → changes e s ≡ true → new ≡ frame_taken s e → TakesOne e f (Ok Took) new
took_some e new f s is fits fine some after = grind (arith, nat_tests, frame_differs)

pub took_none : (e : End) (f : FrameValue) (s : Seen) → s ≡ seen f → is_ours (seen f) ≡ true → Fits f → verdict e s ≡ None → changes e s ≡ false → TakesOne e f (Ok Unchanged) e
took_none e f s is ours fits fine none = grind (arith, nat_tests, frame_same)

-- ---- What an end is asked, and what comes of a payload: the next outstanding packet, a stream that the peer opened, a new number.

pub next_none : (m : Records) (from : ℕ) → ((k : ℕ) → fmap.contains_key m k ≡ false) → IsNextOutstanding m from None
next_none m from none = λ k ge. none k

pub next_start : (m : Records) (from base n : ℕ) → n ≡ max from base → ((k : ℕ) → k < base → fmap.contains_key m k ≡ false) → (from ≤ n) × ((k : ℕ) → from ≤ k → k < n → fmap.contains_key m k ≡ false)
next_start m from base n is below = (grind (arith), λ k ge lt. below k (grind (arith, ge)))

pub next_found : (m : Records) (from n : ℕ) → (from ≤ n) × ((k : ℕ) → from ≤ k → k < n → fmap.contains_key m k ≡ false) → fmap.contains_key m n ≡ true → IsNextOutstanding m from (Some n)
next_found m from n before held = grind (arith, nat_tests)

-- nor is any of a window
pub next_above : (m : Records) (from low end : ℕ) → low ≤ end → (from ≤ low) × ((k : ℕ) → from ≤ k → k < low → fmap.contains_key m k ≡ false) → ((k : ℕ) → low ≤ k → k < end → fmap.contains_key m k ≡ false) → (from ≤ end) × ((k : ℕ) → from ≤ k → k < end → fmap.contains_key m k ≡ false)
next_above m from low end ordered before none = grind (arith, nat_tests)

pub next_end : (m : Records) (from n end : ℕ) → IsGreatest m end → end < n → (from ≤ n) × ((k : ℕ) → from ≤ k → k < n → fmap.contains_key m k ≡ false) → IsNextOutstanding m from None
next_end m from n end great past before = grind (arith, nat_tests)

-- `accept` asks for a stream of both directions, and where there is none for one that goes one way.

pub bidi_given : (old : End) (n : ℕ) (new : End) → AcceptOfStep old Bidi (Some n) new → AcceptStep old (Some n) new
bidi_given old n new step = grind (arith, nat_tests)

-- none of both directions is given, and then the end is as it was
pub uni_given : (old mid : End) (answer : Option ℕ) (new : End) → AcceptOfStep old Bidi None mid → AcceptOfStep mid Uni answer new → AcceptStep old answer new
uni_given old mid answer new none step = go (is_some old.closed) (nat_lt old.accepted_bidi (opened_count old (peer_type old Bidi))) none (subst (λ e. AcceptOfStep e Uni answer new) (same (is_some old.closed) _ none) step)
  where
    same : (b t : Bool) → MatchBool b (GivesNone old None mid) (MatchBool t (GivesBidi old None mid) (GivesNone old None mid)) → mid ≡ old
    same true t h = h.1
    same false true h = absurd (none-some _ h.0)
    same false false h = h.1

    go : (b t : Bool) → MatchBool b (GivesNone old None mid) (MatchBool t (GivesBidi old None mid) (GivesNone old None mid)) → MatchBool b (GivesNone old answer new) (GivesUni old answer new)
        → MatchBool b (GivesNone old answer new) (MatchBool t (GivesBidi old answer new) (GivesUni old answer new))
    go true t h g = g
    go false true h g = absurd (none-some _ h.0)
    go false false h g = g

-- What comes of a payload whose number is new.

at_none : (c : Option Closed) (number : ℕ) (payload : List ℕ) (old : End) (result : Result Received Closing) (new : End) → c ≡ None
    → OpenReceive number payload old result new → ReceiveBy c number payload old result new
at_none c number payload old result new is so = rw is so

at_false : (b : Bool) (P Q : Type 0) → b ≡ false → Q → MatchBool b P Q
at_false b P Q is q = rw is q

pub is_received : (number : ℕ) (payload : List ℕ) (old : End) (result : Result Received Closing) (mid new : End) → old.closed ≡ None → old.floor ≤ number
    → set.contains old.done number ≡ false → TakesPayload number payload old result mid → new ≡ settle mid → ReceiveStep old number payload result new
is_received number payload old result mid new unclosed above fresh takes is =
    let below : nat_lt number old.floor ≡ false = grind (arith, nat_tests) in
    at_none _ _ _ _ _ _ unclosed (at_false _ _ _ below (at_false _ _ _ fresh (mid, takes, is)))

-- ---- What is so of a frame that ends the processing of its payload, and of one that doesn't.

-- A code with which a frame may close the connection.
abbrev Small : Option ℕ → Type 0
Small None = ⊤
Small (Some code) = code < 2 ^ 62

small_or : (a b : Option ℕ) → Small a → Small b → Small (or_else a b)
small_or None b p q = q
small_or (Some code) b p q = p

small_told : (r : Result (Unit {0}) RecvFault) → Small (fault_of r)
small_told r = grind (arith, nat_tests)

small : (e : End) (f : Seen) → Small (verdict e f)
unfolding verdict
small e f = grind (arith, nat_tests, small_or, small_told)

pub code_fits : (e : End) (f : Seen) (code : ℕ) → verdict e f ≡ Some code → code < 2 ^ 62
code_fits e f code is = subst Small is (small e f)

-- a frame that found no memory ends the processing
pub runs_out : (p : PlacedValue) (f : Seen) (e new : End) → GoesOn e f → RunsOut e f new → Stops p f e (Ok received.NoMemory) new
runs_out p f e new goes is = grind (arith, nat_tests)

-- a frame that has a fault ends it, and the connection
refused_as : (p : PlacedValue) (f : Seen) (e new : End) (closing : Closing) → verdict e f ≡ Some closing.code → closing ≡ closing_at p closing.code → new ≡ closes (ByUs closing) e → Stops p f e (Err closing) new
unfolding verdict
refused_as p f e new closing is same after = grind (arith, nat_tests)

pub is_refused : (p : PlacedValue) (f : Seen) (e new : End) (code : ℕ) (closing : Closing) → verdict e f ≡ Some code → closing ≡ closing_at p code → new ≡ closes (ByUs closing) e → Stops p f e (Err closing) new
is_refused p f e new code closing is same after = grind (arith, nat_tests, refused_as)

-- ---- What the frames of a payload tell, one after the other.

-- A frame that takes effect

pub frame_full : (f : Seen) (e : End) → NoneEmpty e.outstanding → NoneEmpty (frame_taken f e).outstanding
unfolding frame_taken
frame_full (Ack largest r) e full = (acks_all r e full).none
frame_full (Stream n offset bytes fin) e full = subst NoneEmpty (sym (stream_out n offset bytes fin e)) full
frame_full (Control item) e full = subst NoneEmpty (sym (item_out item e)) full
frame_full f e full = full

same_within : (e new : End) → new.outstanding ≡ e.outstanding → Within new e
same_within e new same j is = ap (λ (m : Records). is_some (fmap.get m j)) (sym same) ∙ is

pub frame_within : (f : Seen) (e : End) → NoneEmpty e.outstanding → Within (frame_taken f e) e
unfolding frame_taken
frame_within (Ack largest r) e full = (acks_all r e full).within
frame_within (Stream n offset bytes fin) e full = same_within e (frame_taken (Stream n offset bytes fin) e) (stream_out n offset bytes fin e)
frame_within (Control item) e full = same_within e (frame_taken (Control item) e) (item_out item e)
frame_within f e full = λ j is. is

module _ {S : Type 0} (R : S → ℕ → S → Type 0) where
  nothing_now : (fs : List Seen) (e mid new : End) (s u t : S) → mid.outstanding ≡ e.outstanding → s ≡ u → FoldsTo R u (in_turn fs (gone mid new)) t → FoldsTo R s (in_turn fs (gone e new)) t
  nothing_now fs e mid new s u t same now later = grind (arith, nat_tests)

  turn_on : (f : Seen) (fs : List Seen) (e new : End) (s u t : S) → GoesOn e f → NoneEmpty e.outstanding → Within new (frame_taken f e) → FoldsTo R s (told_of f e (frame_taken f e)) u
      → FoldsTo R u (in_turn fs (gone (frame_taken f e) new)) t → FoldsTo R s (in_turn (f ∷ fs) (gone e new)) t
  unfolding frame_taken
  turn_on (Ack largest r) fs e new s u t goes full within now later =
      let mid : End = acks (named e r) e in
      let off : (j : ℕ) → is_named r j ≡ true → holds mid j ≡ false = λ j is. none_newly_named r e j full is in
      subst (λ xs. FoldsTo R s (xs ++ in_turn fs (filter (λ n. not (is_named r n)) (gone e new))) t) (sym (told_first r e mid new (λ j is. false_from_not (holds mid j) (holds new j) (off j is) (within j) ∙ sym (off j is))))
      (tells_on R s (told_of (Ack largest r) e mid) u _ t now (subst (λ ns. FoldsTo R u (in_turn fs ns) t) (sym (told_later r e mid new (acks_all r e full) off)) later))
  turn_on (Stream n offset bytes fin) fs e new s u t goes full within now later = nothing_now fs e (frame_taken (Stream n offset bytes fin) e) new s u t (stream_out n offset bytes fin e) now later
  turn_on (Control item) fs e new s u t goes full within now later = nothing_now fs e (frame_taken (Control item) e) new s u t (item_out item e) now later
  turn_on (Close code) fs e new s u t goes full within now later = absurd goes
  turn_on (Plain asks) fs e new s u t goes full within now later = nothing_now fs e e new s u t refl now later

  -- and the rest, where this frame took effect
  pub turn_goes_on : (f : Seen) (fs : List Seen) (e mid new : End) (s u t : S) → GoesOn e f → mid ≡ frame_taken f e → NoneEmpty e.outstanding → Within new mid → FoldsTo R s (told_of f e mid) u → FoldsTo R u (in_turn fs (gone mid new)) t
      → FoldsTo R s (in_turn (f ∷ fs) (gone e new)) t
  turn_goes_on f fs e mid new s u t goes is full within now later =
      turn_on f fs e new s u t goes full (subst (λ (x : End). Within new x) is within) (subst (λ (x : End). FoldsTo R s (told_of f e x) u) is now) (subst (λ (x : End). FoldsTo R u (in_turn fs (gone x new)) t) is later)

-- A frame that ends the processing

acks_others : (p : PlacedValue) (largest : ℕ) (r : List (ℕ × ℕ)) (e : End) (result : Result Received Closing) (new : End) → NoneEmpty e.outstanding → Stops p (Ack largest r) e result new → (j : ℕ) → is_named r j ≡ false → holds new j ≡ holds e j
acks_others p largest r e (Ok ReceivedNoMemory) new full h j off = ap (λ (x : End). holds x j) h.1.1 ∙ (acks_some r e h.1.0 full).others j off
acks_others p largest r e (Err closing) new full h j off = ap (λ (x : End). holds x j) h.2
acks_others p largest r e (Ok other) new full h j off = absurd h

-- any other frame leaves the records alone
abbrev IsNoAck : Seen → Type 0
IsNoAck (Ack largest r) = ⊥
IsNoAck f = ⊤

records_stay : (p : PlacedValue) (f : Seen) (e : End) (result : Result Received Closing) (new : End) → IsNoAck f → Stops p f e result new → new.outstanding ≡ e.outstanding
records_stay p f e result new quiet h = grind (arith, nat_tests)

pub stops_within : (p : PlacedValue) (f : Seen) (e : End) (result : Result Received Closing) (new : End) → NoneEmpty e.outstanding → Stops p f e result new → Within new e
stops_within p (Ack largest r) e (Ok ReceivedNoMemory) new full h = subst (λ (x : End). Within x e) (sym h.1.1) (acks_some r e h.1.0 full).within
stops_within p (Ack largest r) e (Err closing) new full h = same_within e new (ap (λ (x : End). x.outstanding) h.2)
stops_within p (Ack largest r) e (Ok other) new full h = absurd h
stops_within p f e result new full h = same_within e new (records_stay p f e result new tt h)

module _ {S : Type 0} (R : S → ℕ → S → Type 0) where
  nothing_more : (fs : List Seen) (e new : End) (s t : S) → new.outstanding ≡ e.outstanding → s ≡ t → FoldsTo R s (in_turn fs (gone e new)) t
  nothing_more fs e new s t same now = subst (λ ns. FoldsTo R s (in_turn fs ns) t) (sym (gone_none e new same)) (subst (λ xs. FoldsTo R s xs t) (sym (turn_none fs)) now)

  -- nothing is told behind it
  pub stops_here : (p : PlacedValue) (f : Seen) (fs : List Seen) (e new : End) (result : Result Received Closing) (s t : S) → NoneEmpty e.outstanding → Stops p f e result new → FoldsTo R s (told_of f e new) t → FoldsTo R s (in_turn (f ∷ fs) (gone e new)) t
  stops_here p (Ack largest r) fs e new result s t full h now =
      subst (λ xs. FoldsTo R s (xs ++ in_turn fs (filter (λ n. not (is_named r n)) (gone e new))) t) (sym (told_first r e new new (λ j is. refl)))
      (tells_on R s (told_of (Ack largest r) e new) t _ t now (subst (λ ns. FoldsTo R t (in_turn fs ns) t) (sym (told_last r e new (acks_others p largest r e result new full h))) (subst (λ xs. FoldsTo R t xs t) (sym (turn_none fs)) refl)))
  stops_here p (Close code) fs e new result s t full h now = now
  stops_here p f fs e new result s t full h now = nothing_more fs e new s t (records_stay p f e result new tt h) now

  -- an end that closes tells nothing
  pub closed_tells : (f : Seen) (c : Closed) (e new : End) (s : S) → new ≡ closes c e → FoldsTo R s (told_of f e new) s
  closed_tells (Ack largest r) c e new s is =
      subst (λ xs. FoldsTo R s xs s) (told_first r e new new (λ j named. refl))
      (subst (λ ns. FoldsTo R s (reverse (filter (is_named r) ns)) s) (sym (gone_none e new (ap (λ (x : End). x.outstanding) is))) refl)
  closed_tells f c e new s is = refl

-- The frames that are left

pub takes_on : (number : ℕ) (p : PlacedValue) (asks more : Bool) (frames next : Reading) (e mid new : End) (result : Result Received Closing) → frames ≡ with_first p next → TakesFrame p e (progress.GoesOn more) mid
    → Takes number next.fault (asks || more) mid next.left result new → Takes number frames.fault asks e frames.left result new
takes_on number p asks more frames next e mid new result is h h2 = grind (arith, nat_tests)

pub full_on : (p : PlacedValue) (more : Bool) (e mid : End) → TakesFrame p e (progress.GoesOn more) mid → NoneEmpty e.outstanding → NoneEmpty mid.outstanding
full_on p more e mid (goes, same, taken) full = subst (λ (x : End). NoneEmpty x.outstanding) (sym taken) (frame_full (seen p.frame) e full)

pub within_on : (p : PlacedValue) (more : Bool) (e mid new : End) → TakesFrame p e (progress.GoesOn more) mid → NoneEmpty e.outstanding → Within new mid → Within new e
within_on p more e mid new (goes, same, taken) full within j is = frame_within (seen p.frame) e full j (subst (λ (x : End). holds x j ≡ true) taken (within j is))

module _ {S : Type 0} (R : S → ℕ → S → Type 0) where
  pub turns_on : (p : PlacedValue) (more : Bool) (frames next : Reading) (e mid new : End) (s u t : S) → frames ≡ with_first p next → TakesFrame p e (progress.GoesOn more) mid → NoneEmpty e.outstanding → Within new mid
      → FoldsTo R s (told_of (seen p.frame) e mid) u → FoldsTo R u (in_turn (seen_all (frames_of next.left)) (gone mid new)) t → FoldsTo R s (in_turn (seen_all (frames_of frames.left)) (gone e new)) t
  turns_on p more frames next e mid new s u t is (goes, same, taken) full within now later =
      subst (λ (x : Reading). FoldsTo R s (in_turn (seen_all (frames_of x.left)) (gone e new)) t) (sym is) (turn_goes_on R (seen p.frame) (seen_all (frames_of next.left)) e mid new s u t goes taken full within now later)

  pub turns_stop : (p : PlacedValue) (frames next : Reading) (e new : End) (result : Result Received Closing) (s t : S) → frames ≡ with_first p next → Stops p (seen p.frame) e result new → NoneEmpty e.outstanding
      → FoldsTo R s (told_of (seen p.frame) e new) t → FoldsTo R s (in_turn (seen_all (frames_of frames.left)) (gone e new)) t
  turns_stop p frames next e new result s t is stops full now =
      subst (λ (x : Reading). FoldsTo R s (in_turn (seen_all (frames_of x.left)) (gone e new)) t) (sym is) (stops_here R p (seen p.frame) (seen_all (frames_of next.left)) e new result s t full stops now)

  -- of a payload that changes no record nothing is told
  pub nothing_told : (payload : List ℕ) (e new : End) (s : S) → new ≡ e → FoldsTo R s (newly_acked e payload new) s
  nothing_told payload e new s is = grind (arith, nat_tests, gone_none, turn_none)
