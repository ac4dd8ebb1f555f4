-- A sending half that came to its end takes no stop any more, so none is lost that is told with the end.
--     own_call         a reset that was acknowledged was made, of every half, across every call
--     no_news_is_lost  all that `NoNewsIsLost` says
use Rattle.std.proofs.Common.{◌≡◌, ℕ, zero, suc, ◌/◌, ◌%◌, ◌&&◌, true, false, not, List, [], ◌∷◌, take, option_map, Option, None, Some, Ok, refl, sym, ap, ◌∙◌, subst, inl, inr}
use Rattle.std.specs.Prelude.{⊤}
use Rattle.std.proofs.lemmas.Option.{same_Some, none-some, slice_get-map}
use Rattle.std.proofs.lemmas.Bool.{both_ways, cond_both, cases_eq}
use Rattle.qs_wire.specs.declared.stream_id.Dir.TheVariants.{Uni}
use Rattle.qs_send.specs.Lane.{SendLane, new_lane as new_send_lane, write_lane, finish_lane, reset_lane, stop_taken, acked_lane, reset_acked_lane, allow_lane, buffer_lane, blocked_lane, sent_lane}
use Rattle.qs_send.specs.declared.piece.Item.TheVariants as items
use Rattle.qs_send.specs.declared.piece.Piece.{Piece}
use Rattle.qs_send.specs.declared.piece.Piece.TheVariants.{Data, Told}
use Rattle.qs_calls.specs.declared.news.News.{News}
use Rattle.qs_calls.specs.declared.settings.PeerLimits.{PeerLimits}
use Rattle.qs_calls.specs.declared.settings.SetupFault.{SetupFault}
use Rattle.qs_calls.specs.Settings.{wide_setup_fault}
use Rattle.qs_machine.specs.Tables.{Tables, table, lookup, updated}
use Rattle.qs_machine.specs.Ends.{End, is_own, is_uni, on_send, opens, opened_by_peer, first_send_limit, new_end, end_unless}
use Rattle.qs_machine.specs.Credit.{send_ended}
use Rattle.qs_machine.specs.Raising.{knows_limits, type_allowed, limits_raised}
use Rattle.qs_machine.specs.Seen.{Seen, Ack, Stream, Control}
use Rattle.qs_machine.specs.FrameStep.{frame_taken, AckedPiece, without_piece, acks, first_acked, piece_acked, named}
use Rattle.qs_machine.specs.Lawful.{frame_put, chunk_of}
use Rattle.qs_machine.specs.Setting.{Grant, StreamWindow, SendBuffer}
use Rattle.qs_machine.specs.News.{IsHeld}
use Rattle.qs_machine.specs.Asking.{stop_of, stopped_with}
use Rattle.qs_machine.specs.Heard.{ComesBefore}
use Rattle.qs_machine.specs.Hearing.{IsNews, IsFirstNews}
use Rattle.qs_machine.specs.EndStep.{Call, Answer, EndStep}
use Rattle.qs_machine.specs.Owning.{Owned, HasNews, IsLedTo, NoNewsIsLost}
use Rattle.qs_machine.specs.Standing.{IsSound, IsInCredit}
use Rattle.qs_machine.specs.Repeats.{SentWasWritten}
use Rattle.qs_machine.proofs.TableLaws.{with_same, with_other, lookup_in, lookup_other, slots_updated, slots_opened}
use Rattle.qs_machine.proofs.Ties.{nowhere}
use Rattle.qs_machine.proofs.EveryCall.{Change, changed, Comes, Wanted, Opened, Written, Finished, WasReset, Raised, WasSet, Took, Acked, Put}
use Rattle.qs_machine.proofs.EndsAfter.{after_frame}
use Rattle.qs_machine.proofs.HalvesTold.{IsOwnReset, tells_broken, tells_stopped}
use Rattle.qs_machine.proofs.CallsCounts.{relates_sound}
use Rattle.qs_machine.proofs.Tellings.{told_is_over, others_stay}
use Rattle.qs_machine.proofs.Owning.{ToldOn, told_after, told_change, sends_told, reached_sound, calls_keep}

abbrev IsOwnIn : Option SendLane → Type 0
IsOwnIn None = ⊤
IsOwnIn (Some l) = IsOwnReset l

-- of every half of an end
abbrev AreOwn : End → Type 0
AreOwn e = (n : ℕ) → IsOwnIn (lookup e.sends n)

-- Where no half is begun

abbrev BeginsNone : End → End → Type 0
BeginsNone a b = (n : ℕ) → lookup a.sends n ≡ None → lookup b.sends n ≡ None

none_updated : (t : Tables SendLane) (k : ℕ) (f : SendLane → SendLane) (n : ℕ) → lookup t n ≡ None → lookup (updated t k f (lookup t k)) n ≡ None
none_updated t k f n none = go (lookup t k) refl
  where
    go : (o : Option SendLane) → lookup t k ≡ o → lookup (updated t k f o) n ≡ None
    go None at = none
    go (Some l) at = lookup_other t k n (f l) (λ same. none-some l (sym none ∙ ap (lookup t) same ∙ at)) ∙ none

none_piece : (p : Piece) (e : End) → BeginsNone e (piece_acked p e)
none_piece (Data n c) e = none_updated e.sends n (λ l. acked_lane l c)
none_piece (Told (items.ResetStream n code size)) e = none_updated e.sends n reset_acked_lane
none_piece (Told (items.MaxStreams Uni m)) e = λ n none. none
none_piece (Told (items.StreamsBlocked Uni m)) e = λ n none. none
none_piece (Told i) e = λ n none. none

none_acked : (ps : List AckedPiece) (e : End) → BeginsNone e (acks ps e)
unfolding acks
none_acked [] e n none = none
none_acked (p ∷ ps) e n none = none_acked ps (first_acked p e) n (none_piece p.piece (without_piece p.late p.number e) n none)

none_allowed : (t : Tables SendLane) (k limit n : ℕ) → lookup t n ≡ None → lookup (type_allowed (k % 4) limit t) n ≡ None
none_allowed t k limit n none =
    elim (cases_eq (n % 4) (k % 4)) [
      | inl e ↦ with_same t k n _ e ∙ slice_get-map (λ (x : SendLane). allow_lane x limit) (table t (k % 4)) (n / 4) ∙ ap (option_map (λ (x : SendLane). allow_lane x limit)) (sym (lookup_in t k n e) ∙ none)
      | inr ne ↦ with_other t k n _ ne ∙ none
    ]

none_raised : (p : PeerLimits) (e : End) → BeginsNone e (limits_raised p e)
none_raised p e n none =
    let f = knows_limits p e in
    let t0 = type_allowed 0 (first_send_limit f 0) e.sends in
    let t1 = type_allowed 1 (first_send_limit f 1) t0 in
    let t2 = type_allowed 2 (first_send_limit f 2) t1 in
    none_allowed t2 3 (first_send_limit f 3) n (none_allowed t1 2 (first_send_limit f 2) n (none_allowed t0 1 (first_send_limit f 1) n (none_allowed e.sends 0 (first_send_limit f 0) n none)))

own_kept : (a b : End) → ToldOn a b → BeginsNone a b → AreOwn a → AreOwn b
own_kept a b told none own n = go (lookup a.sends n) refl
  where
    go : (o : Option SendLane) → lookup a.sends n ≡ o → IsOwnIn (lookup b.sends n)
    go None at = subst IsOwnIn (sym (none n at)) tt
    go (Some l) at = let (m, there, t) = told n l at in subst IsOwnIn (sym there) (t.own (subst IsOwnIn at (own n)))

-- Where one may be

own_send : (n : ℕ) (f : SendLane → SendLane) (e : End) → ((l : SendLane) → IsOwnReset l → IsOwnReset (f l)) → AreOwn e → AreOwn (on_send n f e)
own_send n f e stays own m = go (lookup e.sends n) refl
  where
    go : (o : Option SendLane) → lookup e.sends n ≡ o → IsOwnIn (lookup (updated e.sends n f o) m)
    go None at = own m
    go (Some l) at = slots_updated (λ k o. IsOwnIn o) e.sends n l (f l) at (λ k differs. own k) (stays l (subst IsOwnIn at (own n))) m

own_opens : (n : ℕ) (e : End) → AreOwn e → AreOwn (opens n e)
own_opens n e own m =
    cond_both (is_uni n && not (is_own e n)) e.sends _ (λ t. IsOwnIn (lookup t m)) (λ _. own m)
    (λ _. slots_opened (λ k o. IsOwnIn o) e.sends n (λ k. new_send_lane k (first_send_limit e n) e.settings.send_buffer) own (λ k none kind is. absurd (both_ways false refl is)) m)

own_opened : (n : ℕ) (e : End) → AreOwn e → AreOwn (opened_by_peer n e)
own_opened n e own = cond_both (is_own e n) e (opens n e) AreOwn (λ _. own) (λ _. own_opens n e own)

own_frame : (f : Seen) (e : End) → ToldOn e (frame_taken f e) → AreOwn e → AreOwn (frame_taken f e)
unfolding frame_taken
own_frame (Ack largest ranges) e told own = own_kept e (acks (named e ranges) e) told (none_acked (named e ranges) e) own
own_frame (Stream n offset bytes fin) e told own = own_opened n e own
own_frame (Control (items.MaxStreamData n m)) e told own = own_send n (λ l. allow_lane l m) (opened_by_peer n e) (λ l is. is) (own_opened n e own)
own_frame (Control (items.MaxStreams Uni m)) e told own = own
own_frame (Control (items.ResetStream n code size)) e told own = own_opened n e own
own_frame (Control (items.StopSending n code)) e told own =
    own_send n (λ l. stop_taken e.tuning.answers_stops l code) (opened_by_peer n e) (λ l. (tells_stopped e.tuning.answers_stops code l).own) (own_opened n e own)
own_frame (Control (items.StreamDataBlocked n m)) e told own = own_opened n e own
own_frame f e told own = own

own_put : (f : Seen) (e : End) → AreOwn e → AreOwn (frame_put f e)
unfolding frame_put
own_put (Stream n offset bytes fin) e own = own_send n (λ l. sent_lane l (chunk_of offset bytes fin)) e (λ l is. is) own
own_put (Control (items.StreamDataBlocked n m)) e own = own_send n blocked_lane e (λ l is. is) own
own_put f e own = own

own_change : (old : End) (call : Call) (c : Change) (e : End) → Comes old call e c → IsInCredit e → SentWasWritten e → AreOwn e → AreOwn (changed c e)
own_change old call (Wanted Uni count) e comes sound sent own = own
own_change old call (Opened n) e comes sound sent own = own_opens n e own
own_change old call (Written n bytes l) e comes sound sent own = own_send n (λ m. write_lane m bytes) e (λ m is. is) own
own_change old call (Finished n) e comes sound sent own = own_send n finish_lane e (λ l is. is) own
own_change old call (WasReset n code) e comes sound sent own = own_send n (λ m. reset_lane m code) e (λ l. (tells_broken code l).own) own
own_change old call (Raised p) e comes sound sent own = own_kept e (limits_raised p e) (told_change old call (Raised p) e comes sound sent) (none_raised p e) own
own_change old call (WasSet (Grant Uni n)) e comes sound sent own = own
own_change old call (WasSet (SendBuffer n size)) e comes sound sent own = own_send n (λ m. buffer_lane m size) e (λ l is. is) own
own_change old call (WasSet (StreamWindow n w)) e comes sound sent own = own
own_change old call (Took f) e comes sound sent own = own_frame f e (told_after e (frame_taken f e) (after_frame f e comes.0 sound sent)) own
own_change old call (Acked count ranges) e comes sound sent own =
    own_kept e (acks (take count (named e ranges)) e) (told_change old call (Acked count ranges) e comes sound sent) (none_acked (take count (named e ranges)) e) own
own_change old call (Put f) e comes sound sent own = own_put f e own
own_change old call c e comes sound sent own = own

own_call : (old : End) → IsSound old → SentWasWritten old → (call : Call) (answer : Answer call) (new : End) → EndStep old call answer new → AreOwn old → AreOwn new
own_call old sound sent call answer new step = relates_sound (λ a b. AreOwn a → AreOwn b) (λ e own. own) (λ a b c x y own. y (x own)) old sound sent call (own_change old call) answer new step

-- An end that is reached

own_made : (r : Option SetupFault) (made e : End) → AreOwn made → end_unless r made ≡ Ok e → AreOwn e
own_made (Some fault) made e own is = absurd (cc)
own_made None made e own is = let same : made ≡ e = cc in subst AreOwn same own

own_reached : (k : ℕ) (e : End) → IsLedTo k e → AreOwn e
own_reached zero e (role, s, t, p, made) = own_made (wide_setup_fault s p) (new_end role s t p) e (λ n. subst IsOwnIn (sym (nowhere n)) tt) made
own_reached (suc k) e (old, call, answer, before, step) =
    let (sound, sent) = reached_sound k old before in own_call old sound sent call answer e step (own_reached k old before)

stops_kept : (k : ℕ) (old new : End) (call : Call) (answer : Answer call) (n : ℕ) → IsLedTo k old → EndStep old call answer new → IsHeld (λ l. send_ended l ≡ true) old.sends n → stopped_with new n ≡ stopped_with old n
stops_kept k old new call answer n reached step (l, at, ended) =
    let (sound, sent) = reached_sound k old reached in
    let (m, there, t) = sends_told old sound sent call answer new step n l at in
    ap stop_of there ∙ t.quiet (subst IsOwnIn at (own_reached k old reached n)) ended ∙ sym (ap stop_of at)

-- what is news comes not before the first
not_before : (o : Owned) (n other : News) → IsFirstNews o.end o.heard (Some n) → HasNews o other → ComesBefore other n → ⊥
not_before o n other first is before = (let f = first.first other is in f.2 (subst (ComesBefore other) (same_Some n f.0 f.1) before))

pub no_news_is_lost : NoNewsIsLost
no_news_is_lost =
    record {
      calls = calls_keep;
      stops = stops_kept;
      told = λ old new n step is.
          told_is_over old.end old.heard n (step.first.found n refl) (subst (λ h. IsNews old.end h n) step.note (subst (λ e. IsNews e new.heard n) step.still is));
      others = λ old new n other step is apart.
          subst (λ e. IsNews e new.heard other) (sym step.still) (subst (λ h. IsNews old.end h other) (sym step.note) (others_stay old.end old.heard n other (step.first.found n refl) is apart (not_before old n other step.first is)));
    }
