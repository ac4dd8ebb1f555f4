-- One call more: how the past of each end goes on, and which frames took effect by it.
use Rattle.std.proofs.Common.{◌≡◌, ℕ, Bool, true, false, Some, None, List, [], ◌∷◌, ◌++◌, map, Ok, Err, refl, sym, ap, ◌∙◌, subst, ◌⊎◌, inl, inr, append-nil, if◌then◌else◌}
use Rattle.std.specs.Prelude.{flat_map}
use Rattle.std.proofs.lemmas.Bool.{or_left, or_right}
use Rattle.std.proofs.lemmas.Grind.{flat_map-append}
use Rattle.std.proofs.lemmas.List.{map-append}
use Rattle.std.proofs.lemmas.List.Folds.{list_any-append}
use Rattle.std.specs.List.{AllByRecursion, list_any}
use Rattle.qs_send.specs.Records.{Among}
use Rattle.qs_send.specs.declared.piece.Item.{Item}
use Rattle.qs_send.specs.declared.piece.Piece.{Piece}
use Rattle.qs_send.specs.declared.piece.Piece.TheVariants.{Data, Told}
use Rattle.qs_calls.specs.declared.closing.Received.TheVariants.{Done, Duplicate, BelowFloor, PeerClosed, NoMemory}
use Rattle.qs_calls.specs.declared.event.Side.{Side}
use Rattle.qs_calls.specs.declared.token.Taken.{Taken}
use Rattle.qs_calls.specs.declared.token.Token.{Token}
use Rattle.qs_calls.specs.declared.token.TokenFault.TheVariants as tokens
use Rattle.qs_recv.specs.declared.half.Read.{Read}
use Rattle.qs_recv.specs.declared.half.Read.TheVariants as reads
use Rattle.qs_machine.specs.Plains.{frames_in, but_plain}
use Rattle.qs_machine.specs.Seen.{Seen, Close, seen, seen_all}
use Rattle.qs_machine.specs.Alone.{is_ours}
use Rattle.qs_machine.specs.FrameStep.{is_named}
use Rattle.qs_machine.specs.EndStep.{Call, Answer, Write, Reset, Stop, StopAndDiscard, ReadUpTo, Consume, Receive, TakeFrame, TakeFrames, TokenAcked, Make, MakeAck, FillIn, Claim}
use Rattle.qs_machine.proofs.Pieces.{All_append, All_at}
use Rattle.qs_runs.specs.Logs.{Happening, History, Effect, Acked, Ended, other, effects, effects_of, made, read_effects, took_in, sent_in, acks_in}
use Rattle.qs_runs.specs.Worlds.{World, IsFrom, May}
use Rattle.qs_runs.specs.Pasts.{Past, Holds, Tells, PieceOf, packets_in, past_of, past}
use Rattle.qs_runs.proofs.Frames.{MayCome}
use Rattle.qs_runs.proofs.Histories.{effects_here, effects_there, made_told, payload_come}
use Rattle.qs_runs.proofs.Past.{Holds-more}
use Rattle.qs_rest.specs.Invariant.{WasTold}

-- Pasts

-- the past of the end that made the call, by what was done there and at its peer
pub past_goes : (x : Happening) (h : History) → past x.end (x ∷ h) ≡ past_of (effects x.end h ++ effects_of x.call x.answer) (effects (other x.end) h)
past_goes x h = λ i. past_of (effects_here x h i) (effects_there x h i)

module _ (xs new ys : List Effect) where
  packets_more : packets_in (xs ++ new) ≡ packets_in xs ++ packets_in new
  packets_more = ap (map frames_in) (flat_map-append sent_in xs new) ∙ map-append frames_in (flat_map sent_in xs) (flat_map sent_in new)

  pub holds_more : (k : ℕ) (f : Seen) → Holds (packets_in xs) k f → Holds (packets_in (xs ++ new)) k f
  holds_more k f h = subst (λ ps. Holds ps k f) (sym packets_more) (Holds-more (packets_in xs) (packets_in new) k f h)

  tokens_more : (k : ℕ) → list_any (acks_in k) xs ≡ true → list_any (acks_in k) (xs ++ new) ≡ true
  tokens_more k is = list_any-append (acks_in k) xs new ∙ or_left _ (list_any (acks_in k) new) is

  -- what was told stays told
  pub told_here : (i : Item) → WasTold (past_of xs ys) i → WasTold (past_of (xs ++ new) ys) i
  told_here i (k, holds, inl ack) = (k, holds_more k _ holds, inl ack)
  told_here i (k, holds, inr told) = (k, holds_more k _ holds, inr (tokens_more k told))

-- a piece that stood in a packet
pub piece_more : (xs new : List Effect) (k : ℕ) (piece : Piece) → PieceOf (packets_in xs) k piece → PieceOf (packets_in (xs ++ new)) k piece
piece_more xs new k (Data n c) (bytes, holds, is) = (bytes, holds_more xs new [] k _ holds, is)
piece_more xs new k (Told i) holds = holds_more xs new [] k _ holds

-- a token was told
pub token_now : (xs : List Effect) (t : Token) (new : List Effect) → new ≡ Acked t ∷ [] → (k : ℕ) → is_named ((t.first, t.number) ∷ []) k ≡ true → list_any (acks_in k) (xs ++ new) ≡ true
token_now xs t new is k named = list_any-append (acks_in k) xs new ∙ or_right (list_any (acks_in k) xs) (list_any (acks_in k) new) (ap (list_any (acks_in k)) is ∙ named)

-- What is heard of the peer

-- what may come to an open end
abbrev pub Heard : Past → Call → Type 0
Heard p (Receive k bytes) = ((f : Seen) → Among f (frames_in bytes) → MayCome p.theirs f) ⊎ ((code : ℕ) × (but_plain (frames_in bytes) ≡ Close code ∷ []))
Heard p (TakeFrame f) = (g : Seen) → Among g (seen f ∷ []) → is_ours g ≡ true → Tells p.theirs g
Heard p (TakeFrames fs) = (g : Seen) → Among g (seen_all fs) → is_ours g ≡ true → Tells p.theirs g
Heard p call = Unit {0}

pub heard : (h : History) (v : World) (s : Side) (call : Call) → May h v s call → Heard (past s h) call
heard h v s (Receive k bytes) (inl came) = inl (payload_come h s k bytes came)
heard h v s (Receive k bytes) (inr (told, code, is)) = inr (code, is)
heard h v s (TakeFrame f) may = λ g a ours. made_told h s g (All_at (IsFrom h (other s)) (seen f ∷ []) g (may, tt) a ours)
heard h v s (TakeFrames fs) may = λ g a ours. made_told h s g (All_at (IsFrom h (other s)) (seen_all fs) g may a ours)
heard h v s call may = tt

-- Frames that took effect

-- those by one call
abbrev pub news : (call : Call) → Answer call → List Seen
news call answer = flat_map took_in (effects_of call answer)

-- a property holds of each of them where it holds of what the call hands in, if that took effect
abbrev pub HasNews : (Seen → Type 0) → (call : Call) → Answer call → Type 0
HasNews P (Receive k bytes) answer = answer ≡ Ok Done → AllByRecursion P (frames_in bytes)
HasNews P (TakeFrame f) answer = (told : Taken) → answer ≡ Ok told → P (seen f)
HasNews P (TakeFrames fs) answer = (told : Taken) → answer ≡ Ok told → AllByRecursion P (seen_all fs)
HasNews P call answer = Unit {0}

-- bytes that are taken without a copy are no frames
consumed : (n : ℕ) (r : Read) (bytes : List ℕ) (at_end : Bool) → flat_map took_in (read_effects n r bytes ++ (if at_end then Ended n ∷ [] else [])) ≡ []
consumed n (reads.Bytes count) bytes true = refl
consumed n (reads.Bytes count) bytes false = refl
consumed n reads.End bytes true = refl
consumed n reads.End bytes false = refl
consumed n (reads.Reset code) bytes true = refl
consumed n (reads.Reset code) bytes false = refl
consumed n reads.Wait bytes true = refl
consumed n reads.Wait bytes false = refl

module _ (P : Seen → Type 0) where
  one_came : (fs : List Seen) → AllByRecursion P fs → AllByRecursion P (fs ++ [])
  one_came fs all = subst (AllByRecursion P) (sym (append-nil fs)) all

  all_news : (call : Call) (answer : Answer call) → HasNews P call answer → AllByRecursion P (news call answer)
  all_news (Receive k bytes) (Ok Done) h = one_came (frames_in bytes) (h refl)
  all_news (Receive k bytes) (Ok Duplicate) h = tt
  all_news (Receive k bytes) (Ok BelowFloor) h = tt
  all_news (Receive k bytes) (Ok (PeerClosed code)) h = tt
  all_news (Receive k bytes) (Ok NoMemory) h = tt
  all_news (Receive k bytes) (Err closing) h = tt
  all_news (TakeFrame f) (Ok told) h = (h told refl, tt)
  all_news (TakeFrame f) (Err fault) h = tt
  all_news (TakeFrames fs) (Ok told) h = one_came (seen_all fs) (h told refl)
  all_news (TakeFrames fs) (Err fault) h = tt
  all_news (Write n bytes) (Ok count) h = tt
  all_news (Write n bytes) (Err fault) h = tt
  all_news (Reset n code) (Ok done) h = tt
  all_news (Reset n code) (Err fault) h = tt
  all_news (Stop n code) (Ok done) h = tt
  all_news (Stop n code) (Err fault) h = tt
  all_news (StopAndDiscard n code) (Ok done) h = tt
  all_news (StopAndDiscard n code) (Err fault) h = tt
  all_news (ReadUpTo n size) (Ok (reads.Bytes count), bytes) h = tt
  all_news (ReadUpTo n size) (Ok reads.End, bytes) h = tt
  all_news (ReadUpTo n size) (Ok (reads.Reset code), bytes) h = tt
  all_news (ReadUpTo n size) (Ok reads.Wait, bytes) h = tt
  all_news (ReadUpTo n size) (Err fault, bytes) h = tt
  all_news (Consume n most) (Ok told, bytes) h = subst (AllByRecursion P) (sym (consumed n told.read bytes told.at_end)) tt
  all_news (Consume n most) (Err fault, bytes) h = tt
  all_news (TokenAcked t) (Ok done) h = tt
  all_news (TokenAcked t) (Err tokens.NoMemory) h = tt
  all_news (TokenAcked t) (Err tokens.NotGiven) h = tt
  all_news (TokenAcked t) (Err tokens.Closed) h = tt
  all_news (Make first delay room) (Ok (Some made), text) h = tt
  all_news (Make first delay room) (Ok None, text) h = tt
  all_news (Make first delay room) (Err fault, text) h = tt
  all_news (MakeAck delay room) (Ok (Some made), text) h = tt
  all_news (MakeAck delay room) (Ok None, text) h = tt
  all_news (MakeAck delay room) (Err fault, text) h = tt
  all_news (FillIn want room) (Ok (Some filled), text) h = tt
  all_news (FillIn want room) (Ok None, text) h = tt
  all_news (FillIn want room) (Err fault, text) h = tt
  all_news Claim (Ok number) h = tt
  all_news Claim (Err fault) h = tt
  all_news call answer h = tt

  -- so of all that took effect until then
  pub taken_more : (xs : List Effect) (call : Call) (answer : Answer call) → AllByRecursion P (flat_map took_in xs) → HasNews P call answer → AllByRecursion P (flat_map took_in (xs ++ effects_of call answer))
  taken_more xs call answer before now =
      subst (AllByRecursion P) (sym (flat_map-append took_in xs (effects_of call answer))) (All_append P (flat_map took_in xs) (news call answer) before (all_news call answer now))
