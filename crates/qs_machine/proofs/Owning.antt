-- No news is lost: whatever is called, what an owner would hear of it hears of still.
--     sends_told       what was heard of sending halves stays, across every call
--     MarksStay        what a call notes
use Rattle.std.proofs.Common.{◌≡◌, ℕ, zero, suc, ◌<◌, ◌&&◌, Bool, true, false, not, List, [], ◌∷◌, length, take, Option, None, Some, is_some, Result, Ok, Err, refl, sym, ap, ◌∙◌, subst, arith, inl, inr}
use Rattle.std.specs.Prelude.{nat_lt, nat_le, ⊤, ◌⊎◌, cond}
use Rattle.std.specs.FinSet as set
use Rattle.std.proofs.lemmas.Option.{same_Some, none-some}
use Rattle.std.proofs.lemmas.Bool.{both_ways, cond_both}
use Rattle.std.proofs.lemmas.Bool.Decides.{nat_tests}
use Rattle.qs_ranges.specs.Numbers.{NumberSet}
use Rattle.qs_wire.specs.Streams.{dir_of}
use Rattle.qs_wire.specs.declared.stream_id.Dir.{Dir}
use Rattle.qs_wire.specs.declared.stream_id.Dir.TheVariants.{Bidi, Uni}
use Rattle.qs_recv.specs.Lane.{RecvLane}
use Rattle.qs_recv.specs.News.{is_readable}
use Rattle.qs_send.specs.Lane.{SendLane, new_lane as new_send_lane, write_lane, finish_lane, reset_lane, allow_lane, buffer_lane, blocked_lane, sent_lane}
use Rattle.qs_send.specs.declared.piece.Item.{Item}
use Rattle.qs_send.specs.declared.piece.Item.TheVariants as items
use Rattle.qs_calls.specs.declared.closing.Closed.{Closed}
use Rattle.qs_calls.specs.declared.closing.Closing.{Closing}
use Rattle.qs_calls.specs.declared.closing.Received.{Received}
use Rattle.qs_calls.specs.declared.closing.Received.TheVariants as received
use Rattle.qs_calls.specs.declared.token.Taken.{Taken}
use Rattle.qs_calls.specs.declared.token.TakeFault.{TakeFault}
use Rattle.qs_calls.specs.declared.uses.OpenFault.{OpenFault}
use Rattle.qs_calls.specs.declared.uses.OpenFault.TheVariants as opening
use Rattle.qs_calls.specs.declared.news.News.{News}
use Rattle.qs_calls.specs.declared.news.News.TheVariants as news
use Rattle.qs_machine.specs.Tables.{Tables, table, lookup, type_of, index_of}
use Rattle.qs_machine.specs.Ends.{End, is_own, is_uni, on_send, opens, first_send_limit, recv_lane}
use Rattle.qs_machine.specs.Credit.{send_ended, granted_streams}
use Rattle.qs_machine.specs.Owner.{opened_count, is_read_no_more}
use Rattle.qs_machine.specs.Seen.{Seen, Stream, Control, seen, seen_all}
use Rattle.qs_machine.specs.Plains.{frames_in}
use Rattle.qs_machine.specs.FrameStep.{frame_taken, acks, named}
use Rattle.qs_machine.specs.Lawful.{frame_put, chunk_of}
use Rattle.qs_machine.specs.Setting.{Grant, StreamWindow, SendBuffer}
use Rattle.qs_machine.specs.News.{IsHeld, IsReadable, IsEnded}
use Rattle.qs_machine.specs.Asking.{room, open_left, stop_of, stopped_with}
use Rattle.qs_machine.specs.Heard.{WasResetAcked, HasFinished, place_of, is_met, limit_to_tell}
use Rattle.qs_machine.specs.Hearing.{Hearing, heard_opened, IsNextOpened, IsNews}
use Rattle.qs_machine.specs.EndStep.{Call, Answer, EndStep, Open, Write, Stop, StopAndDiscard, ReadUpTo, Consume, Receive, TakeFrame, TakeFrames}
use Rattle.qs_machine.specs.Owning.{Owned, reads_on, after_reading, after_writing, after_opening, item_heard, frame_heard, frames_heard, after_payload, after_frames, heard_after, OwnedStep, HasNews, IsOver, IsLedTo}
use Rattle.qs_machine.specs.Standing.{IsSound, IsInCredit}
use Rattle.qs_machine.specs.Repeats.{SentWasWritten, WasWritten}
use Rattle.qs_machine.proofs.EveryCall.{Change, changed, Comes, Wanted, Opened, Written, Finished, WasReset, Raised, WasSet, Took, Acked, Put}
use Rattle.qs_machine.proofs.EachHalf.{kept_raised, sends_kept}
use Rattle.qs_machine.proofs.TablesAfter.{KeptIn, kept_same, kept_twice, kept_updated, kept_open, still_open}
use Rattle.qs_machine.proofs.TableEdits.{some_tested}
use Rattle.qs_machine.proofs.Pieces.{All_take}
use Rattle.qs_machine.proofs.LanesAgain.{LaneAfter}
use Rattle.qs_machine.proofs.EndsAfter.{IsAfter, after_frame, after_acks, named_written}
use Rattle.qs_machine.proofs.HalvesTold.{TellsOn, tells_same, tells_twice, tells_ended, tells_written, tells_broken, tells_sent}
use Rattle.qs_machine.proofs.CallsCounts.{relates_sound, lanes_call, sound_end}
use Rattle.qs_machine.proofs.SentCalls.{keeps_call, new_keeps}
use Rattle.qs_machine.proofs.Counts.{new_ends_sound}
use Rattle.qs_machine.proofs.Tellings.{contains_marked, contains_unmarked}

-- What was heard of sending halves

abbrev pub ToldOn : End → End → Type 0
ToldOn a b = KeptIn TellsOn a.sends b.sends

told_same : (e : End) → ToldOn e e
told_same e = kept_same TellsOn tells_same e.sends

told_twice : (a b c : End) → ToldOn a b → ToldOn b c → ToldOn a c
told_twice a b c x y = kept_twice TellsOn tells_same tells_twice a.sends b.sends c.sends x y

told_send : (n : ℕ) (f : SendLane → SendLane) (e : End) → ((l : SendLane) → lookup e.sends n ≡ Some l → TellsOn l (f l)) → ToldOn e (on_send n f e)
told_send n f e kept = kept_updated TellsOn tells_same e.sends n f kept

told_opens : (n : ℕ) (e : End) → ToldOn e (opens n e)
told_opens n e =
    cond_both (is_uni n && not (is_own e n)) e.sends _ (KeptIn TellsOn e.sends) (λ _. kept_same TellsOn tells_same e.sends)
    (λ _. kept_open TellsOn tells_same e.sends n (λ m. new_send_lane m (first_send_limit e n) e.settings.send_buffer))

pub told_after : (a b : End) → IsAfter a b → ToldOn a b
told_after a b x n l is = let (m, there, r) = x.sends n l is in (m, there, r.told)

-- what neither ends a half nor stops it
tells_even : (l m : SendLane) → m.stopped ≡ l.stopped → m.reset_acked ≡ l.reset_acked → m.was_reset ≡ l.was_reset → (send_ended l ≡ true → send_ended m ≡ true) → TellsOn l m
tells_even l m stop reset made ended =
    record {
      code = λ c is. stop ∙ is;
      reset = λ is. reset ∙ is;
      finished = λ is. (reset ∙ is.0, ended is.1);
      own = λ own is. ap is_some made ∙ own (sym reset ∙ is);
      quiet = λ own is. stop;
    }

tells_finished : (l : SendLane) → TellsOn l (finish_lane l)
tells_finished l = tells_even l (finish_lane l) refl refl refl (λ is. grind arith)

told_put : (f : Seen) (e : End) → ToldOn e (frame_put f e)
unfolding frame_put
told_put (Stream n offset bytes fin) e = told_send n (λ l. sent_lane l (chunk_of offset bytes fin)) e (λ l is. tells_sent l (chunk_of offset bytes fin))
told_put (Control (items.StreamDataBlocked n m)) e = told_send n blocked_lane e (λ l is. tells_even l (blocked_lane l) refl refl refl (λ is. is))
told_put f e = told_same e

pub told_change : (old : End) (call : Call) (c : Change) (e : End) → Comes old call e c → IsInCredit e → SentWasWritten e → ToldOn e (changed c e)
told_change old call (Wanted Uni count) e comes sound sent = told_same e
told_change old call (Opened n) e comes sound sent = told_opens n e
told_change old call (Written n bytes l) e comes sound sent =
    told_send n (λ m. write_lane m bytes) e (λ m is. subst (λ k. TellsOn k (write_lane k bytes)) (same_Some l m (sym comes.0 ∙ is)) (tells_written l bytes comes.1))
told_change old call (Finished n) e comes sound sent = told_send n finish_lane e (λ l is. tells_finished l)
told_change old call (WasReset n code) e comes sound sent = told_send n (λ m. reset_lane m code) e (λ l is. tells_broken code l)
told_change old call (Raised p) e comes sound sent = kept_raised TellsOn tells_same tells_twice (λ limit l. tells_even l (allow_lane l limit) refl refl refl (λ is. is)) p e
told_change old call (WasSet (Grant Uni n)) e comes sound sent = told_same e
told_change old call (WasSet (SendBuffer n size)) e comes sound sent = told_send n (λ m. buffer_lane m size) e (λ l is. tells_even l (buffer_lane l size) refl refl refl (λ is. is))
told_change old call (WasSet (StreamWindow n w)) e comes sound sent = told_same e
told_change old call (Took f) e comes sound sent = told_after e (frame_taken f e) (after_frame f e comes.0 sound sent)
told_change old call (Acked count ranges) e comes sound sent =
    told_after e (acks (take count (named e ranges)) e) (after_acks (take count (named e ranges)) e (All_take (λ a. WasWritten e.sends a.piece) count (named e ranges) (named_written e ranges sent)))
told_change old call (Put f) e comes sound sent = told_put f e
told_change old call c e comes sound sent = told_same e

pub sends_told : (old : End) → IsSound old → SentWasWritten old → (call : Call) (answer : Answer call) (new : End) → EndStep old call answer new → ToldOn old new
sends_told old sound sent call answer new step = relates_sound ToldOn told_same told_twice old sound sent call (told_change old call) answer new step

-- An end that is reached is sound, and sent what was written.

pub reached_sound : (k : ℕ) (e : End) → IsLedTo k e → IsSound e × SentWasWritten e
reached_sound zero e (role, s, t, p, made) = (new_ends_sound role s t p e made, new_keeps role s t p e made)
reached_sound (suc k) e (old, call, answer, before, step) =
    let (sound, sent) = reached_sound k old before in (sound_end old call answer e sound step, keeps_call old call answer e step sent)

-- What a call notes

-- no stream more is told of, and no fewer are waited for
pub record MarksStay (h k : Hearing) : Type 0 where
  pub opened_bidi : k.opened_bidi ≡ h.opened_bidi
  pub opened_uni : k.opened_uni ≡ h.opened_uni
  pub readable : (n : ℕ) → set.contains h.readable n ≡ false → set.contains k.readable n ≡ false
  pub short : (n : ℕ) → set.contains h.short n ≡ true → set.contains k.short n ≡ true
  pub stopped : k.stopped ≡ h.stopped
  pub sent : k.sent ≡ h.sent
  pub ended : k.ended ≡ h.ended
  pub wants : (n : ℕ) → set.contains h.wants n ≡ true → set.contains k.wants n ≡ true
  pub conn_blocked : h.conn_blocked ≡ true → k.conn_blocked ≡ true
  pub blocked : (n : ℕ) → set.contains h.blocked n ≡ true → set.contains k.blocked n ≡ true
  pub counts_blocked : (n : ℕ) → set.contains h.counts_blocked n ≡ true → set.contains k.counts_blocked n ≡ true

marks_same : (h : Hearing) → MarksStay h h
marks_same h =
    record { opened_bidi = refl; opened_uni = refl; readable = λ n is. is; short = λ n is. is; stopped = refl; sent = refl; ended = refl; wants = λ n is. is; conn_blocked = λ is. is; blocked = λ n is. is; counts_blocked = λ n is. is }

marks_twice : (h k l : Hearing) → MarksStay h k → MarksStay k l → MarksStay h l
marks_twice h k l a b =
    record {
      opened_bidi = b.opened_bidi ∙ a.opened_bidi;
      opened_uni = b.opened_uni ∙ a.opened_uni;
      readable = λ n is. b.readable n (a.readable n is);
      short = λ n is. b.short n (a.short n is);
      stopped = b.stopped ∙ a.stopped;
      sent = b.sent ∙ a.sent;
      ended = b.ended ∙ a.ended;
      wants = λ n is. b.wants n (a.wants n is);
      conn_blocked = λ is. b.conn_blocked (a.conn_blocked is);
      blocked = λ n is. b.blocked n (a.blocked n is);
      counts_blocked = λ n is. b.counts_blocked n (a.counts_blocked n is);
    }

marked_more : (s : NumberSet) (k n : ℕ) → set.contains s n ≡ true → set.contains (set.insert s k) n ≡ true
marked_more s k n is = contains_marked s k n ∙ grind arith

unmarked_more : (s : NumberSet) (k n : ℕ) → set.contains s n ≡ false → set.contains (set.remove s k) n ≡ false
unmarked_more s k n is = contains_unmarked s k n ∙ grind arith

-- by a test something is noted, or nothing
noted_if : (b : Bool) (h k : Hearing) → MarksStay h k → MarksStay h (cond b k h)
noted_if true h k stay = stay
noted_if false h k stay = marks_same h

after_reading_stays : (n : ℕ) (new : End) (h : Hearing) → MarksStay h (after_reading n new h)
after_reading_stays n new h = go (not (is_read_no_more new) && reads_on (recv_lane new n))
  where
    go : (b : Bool) → MarksStay h (cond b h (record h { readable = set.remove h.readable n }))
    go true = marks_same h
    go false = grind (arith, unmarked_more)

after_writing_stays : (n asked : ℕ) {F : Type 0} (r : Result ℕ F) (h : Hearing) → MarksStay h (after_writing n asked r h)
after_writing_stays n asked (Ok count) h = noted_if (nat_lt count asked) h (record h { short = set.insert h.short n }) (grind (arith, marked_more))
after_writing_stays n asked (Err fault) h = marks_same h

after_opening_stays : (d : Dir) (r : Result ℕ OpenFault) (h : Hearing) → MarksStay h (after_opening d r h)
after_opening_stays d (Err (opening.Blocked count)) h = grind (arith, marked_more)
after_opening_stays d r h = marks_same h

item_stays : (e : End) (i : Item) (h : Hearing) → MarksStay h (item_heard e i h)
item_stays e (items.DataBlocked limit) h = noted_if (nat_le e.granted limit) h (record h { conn_blocked = true }) (grind arith)
item_stays e (items.StreamDataBlocked n limit) h = noted_if (is_met (limit_to_tell (recv_lane e n)) limit) h (record h { blocked = set.insert h.blocked n }) (grind (arith, marked_more))
item_stays e (items.StreamsBlocked d count) h = noted_if (nat_le (granted_streams e d) count) h (record h { counts_blocked = set.insert h.counts_blocked (place_of d) }) (grind (arith, marked_more))
item_stays e i h = marks_same h

frame_stays : (e : End) (h : Hearing) (f : Seen) → MarksStay h (frame_heard e h f)
frame_stays e h (Control i) = item_stays e i h
frame_stays e h f = marks_same h

frames_stay : (e : End) (fs : List Seen) (h : Hearing) → MarksStay h (frames_heard e fs h)
frames_stay e [] h = marks_same h
frames_stay e (f ∷ fs) h = marks_twice h (frame_heard e h f) _ (frame_stays e h f) (frames_stay e fs (frame_heard e h f))

payload_stays : (text : List ℕ) (r : Result Received Closing) (new : End) (h : Hearing) → MarksStay h (after_payload text r new h)
payload_stays text (Ok received.Done) new h = frames_stay new (frames_in text) h
payload_stays text r new h = marks_same h

alone_stays : (fs : List Seen) (r : Result Taken TakeFault) (new : End) (h : Hearing) → MarksStay h (after_frames fs r new h)
alone_stays fs (Ok done) new h = frames_stay new fs h
alone_stays fs (Err fault) new h = marks_same h

pub marks_stay : (call : Call) (answer : Answer call) (new : End) (h : Hearing) → MarksStay h (heard_after call answer new h)
marks_stay (Open d) answer new h = after_opening_stays d answer h
marks_stay (Write n bytes) answer new h = after_writing_stays n (length bytes) answer h
marks_stay (Stop n code) answer new h = after_reading_stays n new h
marks_stay (StopAndDiscard n code) answer new h = after_reading_stays n new h
marks_stay (ReadUpTo n size) answer new h = after_reading_stays n new h
marks_stay (Consume n most) answer new h = after_reading_stays n new h
marks_stay (Receive k payload) answer new h = payload_stays payload answer new h
marks_stay (TakeFrame f) answer new h = alone_stays (seen f ∷ []) answer new h
marks_stay (TakeFrames fs) answer new h = alone_stays (seen_all fs) answer new h
marks_stay call answer new h = marks_same h

-- What was news is news still

-- a stream that is open stays so
count_tells : (e : End) (n : ℕ) → index_of n < opened_count e (type_of n) → (is_some (lookup e.sends n) ≡ true) ⊎ (is_some (lookup e.recvs n) ≡ true)
unfolding lookup
count_tells e n below = grind (arith, nat_tests, some_tested (table e.sends (type_of n)) (index_of n) _ refl, some_tested (table e.recvs (type_of n)) (index_of n) _ refl)

counted : (e : End) (n : ℕ) → (is_some (lookup e.sends n) ≡ true) ⊎ (is_some (lookup e.recvs n) ≡ true) → index_of n < opened_count e (type_of n)
unfolding lookup
counted e n there = grind (arith, nat_tests, some_tested (table e.sends (type_of n)) (index_of n) _ refl, some_tested (table e.recvs (type_of n)) (index_of n) _ refl)

held_still : {X : Type 0} (R : X → X → Type 0) (P Q : X → Type 0) (t u : Tables X) (n : ℕ) → ((x y : X) → R x y → P x → Q y) → KeptIn R t u → IsHeld P t n → IsHeld Q u n
held_still R P Q t u n goes kept (x, at, is) = let (y, there, r) = kept n x at in (y, there, goes x y r is)

-- a read would tell something, or it wouldn't
readable_or_not : (e : End) (n : ℕ) → IsReadable e n ⊎ (IsReadable e n → ⊥)
readable_or_not e n = go (is_read_no_more e) (recv_lane e n) refl refl
  where
    lane : (l : RecvLane) (b : Bool) → is_read_no_more e ≡ false → lookup e.recvs n ≡ Some l → is_readable l ≡ b → IsReadable e n ⊎ (IsReadable e n → ⊥)
    lane l true on at is = inl (on, (l, at, is))
    lane l false on at is = inr (λ (_, (m, there, reads)). both_ways (is_readable l) is (subst (λ (k : RecvLane). is_readable k ≡ true) (same_Some m l (sym there ∙ at)) reads))

    go : (b : Bool) (o : Option RecvLane) → is_read_no_more e ≡ b → lookup e.recvs n ≡ o → IsReadable e n ⊎ (IsReadable e n → ⊥)
    go true o off at = inr (λ is. both_ways (is_read_no_more e) is.0 off)
    go false None on at = inr (λ (_, (m, there, reads)). none-some m (sym at ∙ there))
    go false (Some l) on at = lane l (is_readable l) on at refl

open_or_closed : (o : Option Closed) → (o ≡ None) ⊎ (is_some o ≡ true)
open_or_closed None = inl refl
open_or_closed (Some c) = inr refl

-- a number is 0, or it isn't
some_or_none : (n : ℕ) → (0 < n) ⊎ (n ≡ 0)
some_or_none zero = inr refl
some_or_none (suc n) = inl (omega arith)

module _ (old new : End) (h k : Hearing) (marks : MarksStay h k) (role : new.role ≡ old.role) (recvs : KeptIn LaneAfter old.recvs new.recvs) (sends : KeptIn TellsOn old.sends new.sends) where
  abbrev Still : News → Type 0
  Still n = IsNews new k n ⊎ IsOver (record { end = new; heard = k }) n ⊎ (is_some new.closed ≡ true)

  opened_still : (n : ℕ) → IsNextOpened old h n → IsNextOpened new k n
  opened_still n is =
      record {
        theirs = grind (arith, is.theirs);
        opened = counted new n (elim (count_tells old n is.opened) [ inl sent ↦ inl (still_open TellsOn old.sends new.sends n sends sent) | inr came ↦ inr (still_open LaneAfter old.recvs new.recvs n recvs came) ]);
        next = is.next ∙ go (dir_of n);
      }
    where
      go : (d : Dir) → heard_opened h d ≡ heard_opened k d
      go Bidi = sym marks.opened_bidi
      go Uni = sym marks.opened_uni

  -- of a half that came to its end that is told in the same way
  half_still : (P : SendLane → Type 0) → ((l m : SendLane) → TellsOn l m → P l → P m) → (n : ℕ) → IsHeld P old.sends n × (set.contains h.sent n ≡ false) → IsHeld P new.sends n × (set.contains k.sent n ≡ false)
  half_still P goes n is = (held_still TellsOn P P old.sends new.sends n goes sends is.0, ap (λ s. set.contains s n) marks.sent ∙ is.1)

  stop_still : (n code : ℕ) → stopped_with old n ≡ Some code → stopped_with new n ≡ Some code
  stop_still n code is = go (lookup old.sends n) refl is
    where
      go : (o : Option SendLane) → lookup old.sends n ≡ o → stop_of o ≡ Some code → stopped_with new n ≡ Some code
      go None at none = absurd (none-some code none)
      go (Some l) at stop = let (m, there, t) = sends n l at in ap stop_of there ∙ t.code code stop

  ended_still : (n : ℕ) → IsEnded old n → IsEnded new n
  ended_still n is =
      record {
        receiving = λ has. held_still LaneAfter _ _ old.recvs new.recvs n (λ l m r ended. r.ended ended) recvs (is.receiving (grind arith));
        sending = λ has. held_still TellsOn _ _ old.sends new.sends n (λ l m r ended. tells_ended l m r ended) sends (is.sending (grind arith));
      }

  pub news_stays : (n : News) → IsNews old h n → Still n
  news_stays (news.Opened n) is = inl (opened_still n is)
  news_stays (news.Readable n) is = elim (readable_or_not new n) [ inl reads ↦ inl (reads, marks.readable n is.1) | inr dry ↦ inr (inl dry) ]
  news_stays (news.Writable n) is = elim (some_or_none (room new n)) [ inl some ↦ inl (some, marks.short n is.1) | inr none ↦ inr (inl none) ]
  news_stays (news.Stopped n code) is = inl (stop_still n code is.0, ap (λ s. set.contains s n) marks.stopped ∙ is.1)
  news_stays (news.Finished n) is = inl (half_still HasFinished (λ l m t. t.finished) n is)
  news_stays (news.ResetAcked n) is = inl (half_still WasResetAcked (λ l m t. t.reset) n is)
  news_stays (news.Ended n) is = inl (ended_still n is.0, ap (λ s. set.contains s n) marks.ended ∙ is.1)
  news_stays (news.Available d) is =
      elim (open_or_closed new.closed) [
        | inl on ↦ elim (some_or_none (open_left new d)) [ inl some ↦ inl ((on, some), marks.wants (place_of d) is.1) | inr none ↦ inr (inl none) ]
        | inr off ↦ inr (inr off)
      ]
  news_stays news.DataBlocked is = elim (open_or_closed new.closed) [ inl on ↦ inl (on, marks.conn_blocked is.1) | inr off ↦ inr (inr off) ]
  news_stays (news.StreamDataBlocked n) is = elim (open_or_closed new.closed) [ inl on ↦ inl (on, marks.blocked n is.1) | inr off ↦ inr (inr off) ]
  news_stays (news.StreamsBlocked d) is = elim (open_or_closed new.closed) [ inl on ↦ inl (on, marks.counts_blocked (place_of d) is.1) | inr off ↦ inr (inr off) ]

role_stays : (old : End) (call : Call) (answer : Answer call) (new : End) → EndStep old call answer new → new.role ≡ old.role
role_stays old call answer new step = (sends_kept (λ l m. ⊤) (λ l. tt) (λ l m k r s. tt) (λ x l. tt) old call answer new step).0

pub calls_keep : (k : ℕ) (old new : Owned) (call : Call) (answer : Answer call) (n : News) → IsLedTo k old.end → OwnedStep old call answer new → HasNews old n → HasNews new n ⊎ IsOver new n ⊎ (is_some new.end.closed ≡ true)
calls_keep k old new call answer n reached step is =
    let (sound, sent) = reached_sound k old.end reached in
    news_stays old.end new.end old.heard new.heard
    (subst (MarksStay old.heard) (sym step.note) (marks_stay call answer new.end old.heard))
    (role_stays old.end call answer new.end step.step)
    (lanes_call old.end sound sent call answer new.end step.step)
    (sends_told old.end sound sent call answer new.end step.step)
    n is
