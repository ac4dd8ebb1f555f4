-- Which small steps are rounds, and which aren't.
use Rattle.std.proofs.Common.{◌≡◌, ℕ, ◌+◌, Bool, true, false, List, [], ◌∷◌, length, nat_cmp, is_some, refl, sym, ap, ◌∙◌, subst, arith, inl, inr}
use Rattle.std.specs.Prelude.{◌⊎◌, Ok, Err}
use Rattle.std.specs.FinMap as fmap
use Rattle.std.proofs.lemmas.Bool.{false≢true, true≢false}
use Rattle.std.proofs.lemmas.Option.{none-some}
use Rattle.qs_send.specs.Records.{Among}
use Rattle.qs_calls.specs.declared.closing.Received.TheVariants.{Done, NoMemory}
use Rattle.qs_calls.specs.declared.event.Side.{Side}
use Rattle.qs_calls.specs.declared.event.Side.TheVariants.{A, B}
use Rattle.qs_calls.specs.declared.filling.Fill.{Fill}
use Rattle.qs_calls.specs.declared.filling.Filled.{Filled}
use Rattle.qs_calls.specs.declared.making.Made.{Made}
use Rattle.qs_calls.specs.declared.token.Token.{Token}
use Rattle.qs_wire.specs.Layout.{FrameValue}
use Rattle.qs_machine.specs.Ends.{End}
use Rattle.qs_machine.specs.Due.{Sendable}
use Rattle.qs_machine.specs.Making.{IsMade, make_refusal}
use Rattle.qs_machine.specs.EndStep.{Call, Answer, Receive, TakeFrames, TokenAcked, TokenLost, FillIn, Lose}
use Rattle.qs_machine.specs.Plains.{frames_in}
use Rattle.qs_machine.specs.Seen.{seen_all}
use Rattle.qs_machine.specs.News.{IsReadable}
use Rattle.qs_runs.specs.Logs.{Happening, History, other}
use Rattle.qs_runs.specs.Worlds.{end_of}
use Rattle.qs_rest.proofs.Exclusions.{exclusions as rest_exclusions}
use Rattle.qs_progress.specs.Laps.{Moment, IsCalm, Trail}
use Rattle.qs_progress.specs.Rounds.{Way, Packets, Tokens, Happens, Idles, Loses, Delivers, TakesTurn, IsRead, Round}
use Rattle.qs_progress.specs.ExclusionsLaps.{before, after, reads_end}
use Rattle.qs_progress.specs.ExclusionsRounds.{makes, fills, TokenExclusions, RoundExclusions}
use Rattle.qs_progress.proofs.ExclusionsLaps.{rests, none_readable, reads_step, first_of}
use Rattle.qs_progress.proofs.Turns.{same_as, is_made, is_filled, loses_none, sends_all, sends_over}
use Rattle.qs_progress.proofs.ComesInRounds.{read_calm}

none_sendable : (s : Side) → Sendable (end_of before.ends s) → ⊥
none_sendable A sendable = rest_exclusions.others.untold_end.0 sendable
none_sendable B (inl due) = false≢true due
none_sendable B (inr more) = (rests B).quiet more

turn_packets : (s : Side) → TakesTurn Packets s before before
turn_packets A = (before, (0, (refl, λ k from. ap is_some (fmap.get-empty nat_cmp k))), (0, (refl, (none_sendable A, λ is. absurd (cc is)))))
turn_packets B = (before, (0, (refl, λ k from. ap is_some (fmap.get-empty nat_cmp k))), (0, (refl, (none_sendable B, λ is. absurd (cc is)))))

-- nothing is outstanding that might be told
none_untold : (s : Side) (k : ℕ) → fmap.contains_key (end_of before.ends s).outstanding k ≡ true → ⊥
none_untold A k there = true≢false (sym there ∙ ap is_some (fmap.get-empty nat_cmp k))
none_untold B k there = true≢false (sym there ∙ ap is_some (fmap.get-empty nat_cmp k))

turn_tokens : (s : Side) → TakesTurn Tokens s before before
turn_tokens A = (before, (0, (refl, λ k from. ap is_some (fmap.get-empty nat_cmp k))), (0, (refl, (none_sendable A, λ is k landed. none_untold B k))))
turn_tokens B = (before, (0, (refl, λ k from. ap is_some (fmap.get-empty nat_cmp k))), (0, (refl, (none_sendable B, λ is k landed. none_untold A k))))

turn : (w : Way) (s : Side) → TakesTurn w s before before
turn Packets s = turn_packets s
turn Tokens s = turn_tokens s

-- what happened in between is known by the log
length_of : (x : Happening) (old new : Moment) → Happens x old new → length new.log ≡ length old.log + 1
length_of x old new (logged, step) = (let is : length new.log ≡ length (x ∷ old.log) = ap length logged in omega (arith, is))

-- one thing happened: it is calm, and no end changed
one_passes : (s : Side) (x : Happening) (old new : Moment) → Happens x old new → Delivers Packets s old new → Idles old new × IsCalm x.call
one_passes s x old new happens (inl (call, answer, bytes, mid, calm, make, receive)) =
    let one = length_of x old new happens in
    let once = length_of _ old mid make in
    let twice = length_of _ mid new receive in
    absurd (omega (arith, one, once, twice))
one_passes s x old new happens (inr (y, calm, (logged, step), same)) = ((y, calm, (logged, step), same), subst (λ (z : Happening). IsCalm z.call) (ap (first_of y) (sym logged ∙ happens.0)) calm)

-- an idle call leaves the next number
idle_next : (old new : Moment) (s : Side) → Idles old new → (end_of new.ends s).next ≡ (end_of old.ends s).next
idle_next old new s (x, calm, happens, same) = same_as (λ y. y.next) (end_of old.ends s) (end_of new.ends s) (same s) (λ bidi uni. refl)

never_comes : (s : Side) (first delay room : ℕ) (made : Made) (text : List ℕ) (old new : Moment) → Happens (makes s first delay room made text) old new → Delivers Packets s old new → ⊥
never_comes s first delay room made text old new happens passes =
    let (idle, calm) = one_passes s _ old new happens passes in
    let it : IsMade (end_of old.ends s) first delay room made text (end_of new.ends s) = is_made (make_refusal (end_of old.ends s)) _ _ first delay room made text happens.1.step in
    let (last, filled, ends) = it.lawful.filled in
    let next : (end_of new.ends s).next ≡ (end_of old.ends s).next + 1 = ap (λ (e : End). e.next) it.after ∙ ap (λ (e : End). e.next) ends in
    let still = idle_next old new s idle in
    omega (arith, next, still)

abbrev takes : (call : Call) → Answer call → Bool
takes (Receive k bytes) (Ok Done) = true
takes call answer = false

abbrev took : Happening → Bool
took x = takes x.call x.answer

not_whole : (s : Side) (first delay room : ℕ) (made : Made) (text bytes : List ℕ) (old mid new : Moment) → Happens (makes s first delay room made text) old mid
    → Happens (record { end = other s; call = Receive made.number bytes; answer = Ok NoMemory }) mid new → Delivers Packets s old new → ⊥
not_whole s first delay room made text bytes old mid new make receive (inl (call, answer, bytes2, mid2, calm, make2, receive2)) =
    let y : Happening = record { end = other s; call = Receive (end_of old.ends s).next bytes2; answer = Ok Done } in
    true≢false (ap took (ap (first_of y) (sym receive2.0 ∙ receive.0)))
not_whole s first delay room made text bytes old mid new make receive (inr (x, calm, happens, same)) =
    let one = length_of x old new happens in
    let first = length_of _ old mid make in
    let second = length_of _ mid new receive in
    omega (arith, one, first, second)

-- the number of the packet that comes
abbrev number_in : Call → ℕ
number_in (Receive k bytes) = k
number_in call = 0

abbrev number_of : Happening → ℕ
number_of x = number_in x.call

its_number : (s : Side) (first delay room k : ℕ) (made : Made) (text bytes : List ℕ) (old mid new : Moment) → Happens (makes s first delay room made text) old mid
    → Happens (record { end = other s; call = Receive k bytes; answer = Ok Done }) mid new → Delivers Packets s old new → k ≡ made.number
its_number s first delay room k made text bytes old mid new make receive (inl (call, answer, bytes2, mid2, calm, make2, receive2)) =
    let e = end_of old.ends s in
    let y : Happening = record { end = other s; call = Receive e.next bytes2; answer = Ok Done } in
    let it : IsMade e first delay room made text (end_of mid.ends s) = is_made (make_refusal e) e (end_of mid.ends s) first delay room made text make.1.step in
    ap number_of (ap (first_of y) (sym receive.0 ∙ receive2.0)) ∙ sym it.number
its_number s first delay room k made text bytes old mid new make receive (inr (x, calm, happens, same)) =
    let one = length_of x old new happens in
    let once = length_of _ old mid make in
    let twice = length_of _ mid new receive in
    absurd (omega (arith, one, once, twice))

no_unread : (w : Way) (old new : Moment) (r : Round w old new) (s : Side) (n : ℕ) → r.moments ≡ [] → IsReadable (end_of new.ends s) n → ⊥
no_unread w old new r s n none more =
    let (m, among, least) = r.none_to_read s in
    let at : m ≡ r.sent_b = elim (subst (λ ms. Among m (r.sent_b ∷ ms)) none among) [ inl is ↦ is | inr nowhere ↦ absurd nowhere ] in
    let is : new ≡ r.sent_b = subst (λ ms. Trail IsRead r.sent_b ms new) none r.reads in
    let (k, found, low) = least.least n (omega arith) (subst (λ (x : Moment). IsReadable (end_of x.ends s) n) (is ∙ sym at) more) in
    none-some k found

still : (w : Way) (s : Side) (old new : Moment) → Loses w s old new → end_of new.ends (other s) ≡ end_of old.ends (other s)
still Packets s old new (k, happens) = happens.1.still
still Tokens s old new (t, happens) = happens.1.still

-- By tokens

-- one thing happened, that no frames came with
one_told : (s : Side) (x : Happening) (old new : Moment) → Happens x old new → Delivers Tokens s old new → IsCalm x.call × (((u : Side) × (t : Token) × (x ≡ record { end = u; call = TokenAcked t; answer = Ok tt })) ⊎ Idles old new)
one_told s x old new happens (inl (want, room, filled, text, frames, told, mid, same, fill, take)) =
    let one = length_of x old new happens in
    let once = length_of _ old mid fill in
    let twice = length_of _ mid new take in
    absurd (omega (arith, one, once, twice))
one_told s x old new happens (inr (inl (u, t, (logged, step)))) =
    let same : x ≡ record { end = u; call = TokenAcked t; answer = Ok tt } = ap (first_of x) (sym happens.0 ∙ logged) in
    (subst (λ (z : Happening). IsCalm z.call) (sym same) tt, inl (u, t, same))
one_told s x old new happens (inr (inr (y, calm, (logged, step), same))) =
    (subst (λ (z : Happening). IsCalm z.call) (ap (first_of y) (sym logged ∙ happens.0)) calm, inr (y, calm, (logged, step), same))

asks_calm : (w : Way) (s : Side) (x : Happening) (old new : Moment) → Happens x old new → Delivers w s old new → IsCalm x.call
asks_calm Packets s x old new happens passes = (one_passes s x old new happens passes).1
asks_calm Tokens s x old new happens passes = (one_told s x old new happens passes).0

-- the call, and what it took or filled in
data Kind : Type 0 where
  ByNumber : Kind
  ByToken : Kind
  IsTelling : (ok : Bool) → Kind
  IsTaking : (ok : Bool) → Kind
  IsOther : Kind

abbrev kind_in : (call : Call) → Answer call → Kind
kind_in (Lose k) answer = ByNumber
kind_in (TokenLost t) answer = ByToken
kind_in (TokenAcked t) (Ok done) = IsTelling true
kind_in (TokenAcked t) (Err fault) = IsTelling false
kind_in (TakeFrames fs) (Ok done) = IsTaking true
kind_in (TakeFrames fs) (Err fault) = IsTaking false
kind_in call answer = IsOther

abbrev kind_of : Happening → Kind
kind_of x = kind_in x.call x.answer

abbrev frames_with : (call : Call) → List FrameValue
frames_with (TakeFrames fs) = fs
frames_with call = []

abbrev text_with : (call : Call) → Answer call → List ℕ
text_with (FillIn want room) answer = answer.1
text_with call answer = []

abbrev rest_of : History → History
rest_of [] = []
rest_of (x ∷ h) = h

one_call : (x y : Happening) (old new : Moment) → Happens x old new → Happens y old new → x ≡ y
one_call x y old new one two = ap (first_of y) (sym one.0 ∙ two.0)

unfilled : (s : Side) (want : Fill) (room : ℕ) (filled : Filled) (text : List ℕ) (old new : Moment) → Happens (fills s want room filled text) old new → Delivers Tokens s old new → ⊥
unfilled s want room filled text old new happens passes =
    elim (one_told s _ old new happens passes).1 [
      | inl told ↦ absurd (cc (ap kind_of told.2))
      | inr idle ↦ (
          let it = (is_filled (make_refusal (end_of old.ends s)) (end_of old.ends s) (end_of new.ends s) want room filled text happens.1.step).made in
          let (last, put, ends) = it.lawful.filled in
          let next : (end_of new.ends s).next ≡ (end_of old.ends s).next + 1 = ap (λ (e : End). e.next) it.after ∙ ap (λ (e : End). e.next) ends in
          let still = idle_next old new s idle in
          omega (arith, next, still))
    ]

-- two things happened: frames were filled in, and came
record Both (s : Side) (x y : Happening) : Type 0 where
  text : List ℕ
  frames : List FrameValue
  same : seen_all frames ≡ frames_in text
  filled : text_with x.call x.answer ≡ text
  came : frames_with y.call ≡ frames
  kind : kind_of y ≡ IsTaking true

two_calls : (s : Side) (x y : Happening) (old mid new : Moment) → Happens x old mid → Happens y mid new → Delivers Tokens s old new → Both s x y
two_calls s x y old mid new one two (inl (want, room, filled, text, frames, told, at, same, fill, take)) =
    let logs = sym two.0 ∙ take.0 in
    let second : y ≡ _ = ap (first_of y) logs in
    let first : x ≡ _ = ap (first_of x) (sym one.0 ∙ ap rest_of logs ∙ fill.0) in
    record { text = text; frames = frames; same = same; filled = ap (λ (z : Happening). text_with z.call z.answer) first; came = ap (λ (z : Happening). frames_with z.call) second; kind = ap kind_of second }
two_calls s x y old mid new one two (inr more) =
    let once = length_of x old mid one in
    let twice = length_of y mid new two in
    let alone = one_long old new more in
    absurd (omega (arith, once, twice, alone))
  where
    one_long : (old new : Moment) → ((u : Side) × (t : Token) × Happens (record { end = u; call = TokenAcked t; answer = Ok tt }) old new) ⊎ Idles old new → length new.log ≡ length old.log + 1
    one_long old new (inl (u, t, happens)) = length_of _ old new happens
    one_long old new (inr (z, calm, happens, same)) = length_of z old new happens

token_exclusions : TokenExclusions
token_exclusions =
    record {
      by_number = λ s k old new happens (t, other). cc (ap kind_of (one_call _ _ old new happens other));
      by_token = λ s t old new happens (k, other). cc (ap kind_of (one_call _ _ old new happens other));
      alone = unfilled;
      received = λ s want room k filled text bytes old mid new fill receive passes. cc (two_calls s _ _ old mid new fill receive passes).kind;
      others = λ s want room filled text frames taken old mid new fill take passes. (let b = two_calls s _ _ old mid new fill take passes in ap seen_all b.came ∙ b.same ∙ ap frames_in (sym b.filled));
      refused = λ s want room filled text frames fault old mid new fill take passes. cc (two_calls s _ _ old mid new fill take passes).kind;
      refused_token = λ s t token fault old new happens passes. elim (one_told s _ old new happens passes).1 [ inl told ↦ absurd (cc (ap kind_of told.2)) | inr idle ↦ idle ];
      untold = λ s old new k landed there turn. (sends_over Tokens s turn.2.0 turn.0 new turn.2.1).1 refl k landed there;
    }

pub round_exclusions : RoundExclusions
round_exclusions =
    record {
      reads = λ w. record {
        sent_a = before;
        sent_b = before;
        moments = after ∷ [];
        turn_a = turn w A;
        turn_b = turn w B;
        reads = ((reads_end, tt, refl, reads_step), refl);
        none_to_read = λ s. (after, inr (inl refl), record { found = λ n is. absurd (none-some n is); least = λ n from readable. absurd (none_readable s n readable) });
      };
      logged = λ x m happens. (let one = length_of x m m happens in omega (arith, one));
      losses = λ w s old new lost. still w s old new lost;
      begun = λ w parts old new rest course. course.0 rest;
      numbered = its_number;
      outstanding = λ w s old new turn k there. true≢false (sym there ∙ loses_none w s turn.1.0 old turn.0 turn.1.1 k (omega arith));
      more = λ w s old new turn. sends_all w s turn.2.0 turn.0 new turn.2.1;
      comes = never_comes;
      whole = not_whole;
      asks = asks_calm;
      idle = λ old new s idle. (idle_next old new s idle, let (x, calm, happens, same) = idle in same_as (λ y. y.recvs) (end_of old.ends s) (end_of new.ends s) (same s) (λ bidi uni. refl));
      reads_only = read_calm;
      makes_none = λ first delay room reads. reads;
      unread = no_unread;
      tokens = token_exclusions;
    }
