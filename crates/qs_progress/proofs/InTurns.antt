-- A plain loop, turn by turn: how many events there were, by what is done, and by what would be once all that is outstanding is acknowledged.
use Rattle.std.proofs.lemmas.Bool.Decides.{nat_tests}
use Rattle.std.proofs.Common.{◌≡◌, ℕ, zero, suc, ◌+◌, ◌*◌, ◌<◌, ◌≤◌, Bool, true, false, cond, List, [], ◌∷◌, ◌++◌, Option, Some, None, is_some, refl, sym, ap, subst, arith, inl, inr}
use Rattle.std.specs.Prelude.{⊤, Result, Ok}
use Rattle.std.specs.FinMap as fmap
use Rattle.std.proofs.lemmas.Bool.{true≢false, false≢true}
use Rattle.qs_recv.specs.declared.half.Read.{Read}
use Rattle.qs_send.specs.declared.piece.Piece.{Piece}
use Rattle.qs_calls.specs.declared.closing.Received.TheVariants.{Done}
use Rattle.qs_calls.specs.declared.event.Side.{Side}
use Rattle.qs_calls.specs.declared.event.Side.TheVariants.{A, B}
use Rattle.qs_calls.specs.declared.making.Made.{Made}
use Rattle.qs_calls.specs.declared.settings.Settings.{Settings}
use Rattle.qs_calls.specs.declared.uses.UseFault.{UseFault}
use Rattle.qs_machine.specs.Ends.{End}
use Rattle.qs_machine.specs.Asking.{IsNextOutstanding}
use Rattle.qs_machine.specs.Due.{Sendable}
use Rattle.qs_machine.specs.News.{IsLeast, IsReadable}
use Rattle.qs_machine.specs.EndStep.{Receive, Make, Lose, ReadUpTo}
use Rattle.qs_machine.specs.Making.{make_refusal}
use Rattle.qs_machine.specs.Plains.{frames_in}
use Rattle.qs_machine.proofs.Ways.{payload_frames}
use Rattle.qs_runs.specs.Logs.{Happening, other}
use Rattle.qs_runs.specs.Worlds.{World, end_of}
use Rattle.qs_runs.proofs.Lists.{Among_left}
use Rattle.qs_progress.specs.Score.{score, one_if}
use Rattle.qs_progress.specs.Bound.{most}
use Rattle.qs_progress.specs.Laps.{Moment, IsCalm, Trail, Sometime}
use Rattle.qs_progress.specs.Comes.{BothRest, BothOpen, IsReached}
use Rattle.qs_progress.specs.Rounds.{Packets, Happens, Delivers, TakesTurn, IsRead, Round}
use Rattle.qs_progress.proofs.Score.{what_is_done_stays}
use Rattle.qs_progress.proofs.Bound.{ahead_below}
use Rattle.qs_progress.proofs.Trails.{reached, joined, last_of, trail_open}
use Rattle.qs_progress.proofs.Passing.{IsClear}
use Rattle.qs_progress.proofs.Turns.{IsSame, as_was, Losses, Sends, is_made, passed, new_payload}
use Rattle.qs_progress.proofs.Comes.{both}
use Rattle.qs_progress.proofs.ComesInRounds.{Led, Before, level, level_low, level_grows, round_leads, a_clear_mid, b_clear}
use Rattle.qs_progress.proofs.Idles.{none_bare}
use Rattle.qs_progress.proofs.InARow.{InARow}
use Rattle.qs_progress.proofs.Ahead.{ahead, ahead_more}
use Rattle.qs_progress.proofs.Waiting.{lose_less, frames_len}
use Rattle.qs_progress.proofs.Counting.{would, due, would_grow, would_more, made_adds, read_adds}

abbrev pub makes : Side → (first delay room : ℕ) → Made → List ℕ → Happening
makes s first delay room made text = record { end = s; call = Make first delay room; answer = (Ok (Some made), text) }

abbrev pub loses : Side → ℕ → Happening
loses s k = record { end = s; call = Lose k; answer = Ok tt }

abbrev pub comes : Side → ℕ → List ℕ → Happening
comes s k bytes = record { end = s; call = Receive k bytes; answer = Ok Done }

abbrev pub reads : Side → (n size : ℕ) → Result Read UseFault × List ℕ → Happening
reads s n size answer = record { end = s; call = ReadUpTo n size; answer = answer }

-- Turns that aren't over

abbrev pub Losing : Side → ℕ → Moment → Moment → Type 0
Losing s zero old new = new ≡ old
Losing s (suc n) old new = (k : ℕ) × (mid : Moment) × Losing s n old mid × Happens (loses s k) mid new

abbrev pub Sending : Side → ℕ → Moment → Moment → Type 0
Sending s zero old new = new ≡ old
Sending s (suc n) old new = (mid : Moment) × Sending s n old mid × Delivers Packets s mid new

lost_all : (s : Side) (n : ℕ) (old mid new : Moment) → Losing s n old mid → (j : ℕ) × Losses Packets s j mid new → (j : ℕ) × Losses Packets s j old new
lost_all s zero old mid new is rest = subst (λ m. (j : ℕ) × Losses Packets s j m new) is rest
lost_all s (suc n) old mid new (k, at, before, happens) (j, rest) = lost_all s n old at new before (suc j, (mid, (k, happens), rest))

sent_all : (s : Side) (n : ℕ) (old mid new : Moment) → Sending s n old mid → (j : ℕ) × Sends Packets s j mid new → (j : ℕ) × Sends Packets s j old new
sent_all s zero old mid new is rest = subst (λ m. (j : ℕ) × Sends Packets s j m new) is rest
sent_all s (suc n) old mid new (at, before, passes) (j, rest) = sent_all s n old at new before (suc j, (mid, passes, rest))

-- where neither end changed
idle_ends : (v w : World) → w ≡ v → (s : Side) → IsSame (end_of v s) (end_of w s)
idle_ends v w same s = as_was (end_of v s) (end_of w s) (ap (λ u. end_of u s) same)

-- What is counted

-- what stood outstanding as the loop began and isn't lost yet, and what is done or would be: of an end whose losses are still to come in
-- the first round, and of one where nothing is lost any more
abbrev pub left : Bool → End → ℕ
left f e = cond f (fmap.len e.outstanding) 0

abbrev pub floor : Bool → End → ℕ
floor f e = cond f (score e) (score (ahead e))

floor_would : (f : Bool) (e : End) → floor f e ≤ score (ahead e)
floor_would f e = grind (arith, nat_tests, ahead_more)

floor_grows : (f : Bool) (e g : End) → score e ≤ score g → score (ahead e) ≤ score (ahead g) → floor f e ≤ floor f g
floor_grows f e g one two = grind (arith, nat_tests)

left_less : (f : Bool) (e g : End) → fmap.len g.outstanding ≤ fmap.len e.outstanding → left f g ≤ left f e
left_less f e g less = grind (arith, nat_tests)

one_most : (b : Bool) → one_if b ≤ 1
one_most b = grind (arith, nat_tests)

module _ (a b : Settings) where
  abbrev pub fresh : (m : Moment) → Before a b m → Bool
  fresh m (inl u) = true
  fresh m (inr past) = false

  then_clear : (m : Moment) (before : Before a b m) → fresh m before ≡ false → (sent : Moment) → TakesTurn Packets A m sent → IsClear sent.ends.b
  then_clear m (inl u) is sent turn = absurd (true≢false is)
  then_clear m (inr (past, r, round)) is sent turn = b_clear a b past m r round sent turn

  -- a happening
  up : (x : Happening) (old new : Moment) → IsReached a b old → Happens x old new → (s : Side) → score (end_of old.ends s) ≤ score (end_of new.ends s)
  up x old new r happens s = what_is_done_stays a b old.log old.ends new.ends x r.run happens.1 s (r.knows_first s)

  pub up_both : (x : Happening) (old new : Moment) → IsReached a b old → Happens x old new → both old.ends ≤ both new.ends
  up_both x old new r happens = (let one = up x old new r happens A in let two = up x old new r happens B in omega (arith, one, two))

  none_held : (m : Moment) → IsReached a b m → (s : Side) → IsClear (end_of m.ends s) → (j : ℕ) → fmap.contains_key (end_of m.ends s).outstanding j ≡ true → ⊥
  none_held m r s clear j held = go (fmap.get (end_of m.ends s).outstanding j) refl held
    where
      go : (o : Option (List Piece)) → fmap.get (end_of m.ends s).outstanding j ≡ o → is_some o ≡ true → ⊥
      go None is some = false≢true some
      go (Some []) is some = none_bare a b m.log m.ends r.run s j is
      go (Some (p ∷ ps)) is some = clear j p (p ∷ ps, is, inl refl)

  -- a loss takes one of those away
  lost_one : (f : Bool) (s : Side) (j : ℕ) (old new : Moment) → IsReached a b old → (f ≡ false → IsClear (end_of old.ends s)) → fmap.contains_key (end_of old.ends s).outstanding j ≡ true → Happens (loses s j) old new
      → (left f (end_of new.ends s) + 1 ≤ left f (end_of old.ends s)) × (floor f (end_of old.ends s) ≤ floor f (end_of new.ends s))
  lost_one true s j old new r clear held happens = (lose_less (end_of old.ends s) (end_of new.ends s) j (none_bare a b old.log old.ends r.run s) happens.1.step, up (loses s j) old new r happens s)
  lost_one false s j old new r clear held happens = absurd (none_held old r s (clear refl) j held)

  -- a packet has the next number
  made_next : (s : Side) (first delay room : ℕ) (made : Made) (text : List ℕ) (old new : Moment) → Happens (makes s first delay room made text) old new → made.number ≡ (end_of old.ends s).next
  made_next s first delay room made text old new happens = (is_made (make_refusal (end_of old.ends s)) (end_of old.ends s) (end_of new.ends s) first delay room made text happens.1.step).number

  under : (s : Side) (old new : Moment) (bytes : List ℕ) {k j : ℕ} → k ≡ j → Happens (comes s k bytes) old new → Happens (comes s j bytes) old new
  under s old new bytes same happens = subst (λ j. Happens (comes s j bytes) old new) same happens

  -- what comes adds no packet
  came_less : (s : Side) (first delay room : ℕ) (made : Made) (text bytes : List ℕ) (old mid new : Moment) → IsReached a b old → Happens (makes s first delay room made text) old mid → Happens (comes (other s) made.number bytes) mid new
      → fmap.len (end_of new.ends (other s)).outstanding ≤ fmap.len (end_of old.ends (other s)).outstanding
  came_less s first delay room made text bytes old mid new r make receive =
      let (there, x) = passed a b s old mid new (Make first delay room) (Ok (Some made), text) bytes r make (under (other s) mid new bytes (made_next s first delay room made text old mid make) receive) in
      let few = frames_len x.came (end_of old.ends (other s)) in
      let same = ap (λ (e : End). fmap.len e.outstanding) x.took in
      omega (arith, few, same)

  module _ (s0 w : ℕ) (origin : Moment) where
    -- a round began after so many
    pub record Begun (k : ℕ) (m : Moment) : Type 0 where
      pub at : IsReached a b m
      pub before : Before a b m
      pub rounds : k + s0 ≤ level a b m before
      pub row : InARow origin k m

    abbrev IsAt : ℕ → ℕ → ℕ → ℕ → ℕ → ℕ → Moment → Type 0
    IsAt k n waits c pa pb now = n + waits + 2 * s0 ≤ w + 6 * k + c + 2 * (pa + pb)

    -- where it stands now
    pub record Since (k : ℕ) (now : Moment) : Type 0 where
      pub begins : Moment
      pub base : Begun k begins
      pub at : IsReached a b now
      pub led : Led begins now
      grown : both begins.ends ≤ both now.ends

    abbrev pub since_next : {k : ℕ} (x : Happening) (now new : Moment) → Since k now → Happens x now new → Since k new
    since_next x now new it happens =
        record { begins = it.begins; base = it.base; at = reached a b now new x it.at happens.0 happens.1; led = (it.led.0 ++ new ∷ [], joined (λ call. ⊤) it.led.0 (new ∷ []) it.begins now new it.led.1 ((x, tt, happens.0, happens.1), refl)); grown = omega (arith, up_both x now new it.at happens) }

    -- whether no round was over before
    abbrev is_first : {k : ℕ} {now : Moment} → Since k now → Bool
    is_first it = fresh it.begins it.base.before

    -- A had its turn
    pub record SinceA (k : ℕ) (now : Moment) : Type 0 where
      pub since : Since k now
      busy : BothRest since.begins.ends → ⊥
      sent_a : Moment
      turn_a : TakesTurn Packets A since.begins sent_a

    abbrev since_a_next : {k : ℕ} (x : Happening) (now new : Moment) → SinceA k now → Happens x now new → SinceA k new
    since_a_next x now new it happens = record { since = since_next x now new it.since happens; busy = it.busy; sent_a = it.sent_a; turn_a = it.turn_a }

    pub record LosesA (k n : ℕ) (now : Moment) : Type 0 where
      pub since : Since k now
      lost : (j : ℕ) × Losing A j since.begins now
      goes_on : (BothRest now.ends → ⊥) → BothRest since.begins.ends → ⊥
      clear : is_first since ≡ false → IsClear now.ends.a
      count : IsAt k n (left (is_first since) now.ends.a + left (is_first since) now.ends.b) 0 (floor (is_first since) now.ends.a) (floor (is_first since) now.ends.b) now

    pub record SendsA (k n : ℕ) (now : Moment) : Type 0 where
      pub since : Since k now
      from : Moment
      lost : (j : ℕ) × Losses Packets A j since.begins from
      sent : (j : ℕ) × Sending A j from now
      goes_on : (BothRest now.ends → ⊥) → BothRest since.begins.ends → ⊥
      count : IsAt k n (left (is_first since) now.ends.b + 2 * due A now) 2 (would A now) (floor (is_first since) now.ends.b) now

    pub record LosesB (k n : ℕ) (now : Moment) : Type 0 where
      pub after : SinceA k now
      lost : (j : ℕ) × Losing B j after.sent_a now
      clear : is_first after.since ≡ false → IsClear now.ends.b
      count : IsAt k n (left (is_first after.since) now.ends.b) 3 (would A now) (floor (is_first after.since) now.ends.b) now

    pub record SendsB (k n : ℕ) (now : Moment) : Type 0 where
      pub after : SinceA k now
      from : Moment
      lost : (j : ℕ) × Losses Packets B j after.sent_a from
      sent : (j : ℕ) × Sending B j from now
      count : IsAt k n (2 * due B now) 5 (would A now) (would B now) now

    pub record ReadsA (k n : ℕ) (now : Moment) : Type 0 where
      pub after : SinceA k now
      sent_b : Moment
      turn_b : TakesTurn Packets B after.sent_a sent_b
      moments : List Moment
      trail : Trail IsRead sent_b moments now
      count : IsAt k n 0 6 (would A now) (would B now) now

    -- and A's reader had no more to read
    pub record ReadsB (k n : ℕ) (now : Moment) : Type 0 where
      pub reads : ReadsA k n now
      read_a : Sometime (λ m. IsLeast (IsReadable m.a) 0 None) (reads.sent_b ∷ reads.moments)

    -- a packet was made, and is to come
    pub record Pends (s : Side) (was now : Moment) : Type 0 where
      pub first : ℕ
      pub delay : ℕ
      pub room : ℕ
      pub made : Made
      pub text : List ℕ
      pub happens : Happens (makes s first delay room made text) was now

    -- Of A

    pub lose_a : (k n j : ℕ) (now new : Moment) → LosesA k n now → (BothRest now.ends → ⊥) → fmap.contains_key now.ends.a.outstanding j ≡ true → Happens (loses A j) now new → LosesA k (suc n) new
    lose_a k n j now new st busy held happens =
        let f = is_first st.since in
        let (less, more) = lost_one f A j now new st.since.at st.clear held happens in
        let same : left f new.ends.b ≡ left f now.ends.b = ap (left f) happens.1.still in
        let still : floor f new.ends.b ≡ floor f now.ends.b = ap (floor f) happens.1.still in
        record {
          since = since_next (loses A j) now new st.since happens;
          lost = (suc st.lost.0, (j, now, st.lost.1, happens));
          goes_on = λ not. st.goes_on busy;
          clear = λ is. absurd (none_held now st.since.at A (st.clear is) j held);
          count = omega (arith, less, more, same, still);
        }

    pub over_a : (k n : ℕ) (now : Moment) → LosesA k n now → IsNextOutstanding now.ends.a.outstanding 0 None → SendsA k n now
    over_a k n now st none =
        let more = floor_would (is_first st.since) now.ends.a in
        let one = one_most now.ends.a.ack_due in
        record {
          since = st.since;
          from = now;
          lost = lost_all A st.lost.0 st.since.begins now now st.lost.1 (0, (refl, none));
          sent = (0, refl);
          goes_on = st.goes_on;
          count = omega (arith, more, one);
        }

    abbrev pub PendsA : ℕ → ℕ → Moment → Type 0
    PendsA k n now = (was : Moment) × SendsA k n was × (BothRest was.ends → ⊥) × Pends A was now

    pub deliver_a : (k n : ℕ) (now new : Moment) (bytes : List ℕ) (st : PendsA k n now) → Happens (comes B st.3.made.number bytes) now new → SendsA k (suc (suc n)) new
    deliver_a k n now new bytes (was, st, busy, pend) receive =
        let f = is_first st.since in
        let x = makes A pend.first pend.delay pend.room pend.made pend.text in
        let y = comes B pend.made.number bytes in
        let made = since_next x was now st.since pend.happens in
        let adds = made_adds a b A pend.first pend.delay pend.room pend.made pend.text was now st.since.at pend.happens in
        let less = left_less f was.ends.b new.ends.b (came_less A pend.first pend.delay pend.room pend.made pend.text bytes was now new st.since.at pend.happens receive) in
        let floor_one = floor_grows f was.ends.b now.ends.b (up x was now st.since.at pend.happens B) (would_grow a b x was now st.since.at tt pend.happens B) in
        let floor_two = floor_grows f now.ends.b new.ends.b (up y now new made.at receive B) (would_grow a b y now new made.at tt receive B) in
        let same : would A new ≡ would A now = ap (λ e. score (ahead e)) receive.1.still in
        let due_same : due A new ≡ due A now = ap (λ (e : End). one_if e.ack_due) receive.1.still in
        record {
          since = since_next y now new made receive;
          from = st.from;
          lost = st.lost;
          sent = (suc st.sent.0, (was, st.sent.1, inl (Make pend.first pend.delay pend.room, (Ok (Some pend.made), pend.text), bytes, now, tt, pend.happens, under B now new bytes (made_next A pend.first pend.delay pend.room pend.made pend.text was now pend.happens) receive)));
          goes_on = λ not. st.goes_on busy;
          count = omega (arith, adds, less, floor_one, floor_two, same, due_same);
        }

    pub none_a : (k n : ℕ) (x : Happening) (now new : Moment) → SendsA k n now → (BothRest now.ends → ⊥) → Happens x now new → IsCalm x.call → new.ends ≡ now.ends → (Sendable now.ends.a → ⊥) → LosesB k (suc n) new
    none_a k n x now new st busy happens calm same none =
        let f = is_first st.since in
        let turn : TakesTurn Packets A st.since.begins new = (st.from, st.lost, sent_all A st.sent.0 st.from now new st.sent.1 (1, (new, inr (x, calm, happens, idle_ends now.ends new.ends same), (refl, (subst (λ v. Sendable v.a → ⊥) (sym same) none, λ is. absurd (cc is)))))) in
        let left_same : left f new.ends.b ≡ left f now.ends.b = ap (λ (v : World). left f v.b) same in
        let floor_same : floor f new.ends.b ≡ floor f now.ends.b = ap (λ (v : World). floor f v.b) same in
        let would_same : would A new ≡ would A now = ap (λ (v : World). score (ahead v.a)) same in
        record {
          after = record { since = since_next x now new st.since happens; busy = st.goes_on busy; sent_a = new; turn_a = turn };
          lost = (0, refl);
          clear = λ is. then_clear st.since.begins st.since.base.before is new turn;
          count = omega (arith, left_same, floor_same, would_same);
        }

    -- Of B

    pub lose_b : (k n j : ℕ) (now new : Moment) → LosesB k n now → fmap.contains_key now.ends.b.outstanding j ≡ true → Happens (loses B j) now new → LosesB k (suc n) new
    lose_b k n j now new st held happens =
        let (less, more) = lost_one (is_first st.after.since) B j now new st.after.since.at st.clear held happens in
        let same : would A new ≡ would A now = ap (λ e. score (ahead e)) happens.1.still in
        record {
          after = since_a_next (loses B j) now new st.after happens;
          lost = (suc st.lost.0, (j, now, st.lost.1, happens));
          clear = λ is. absurd (none_held now st.after.since.at B (st.clear is) j held);
          count = omega (arith, less, more, same);
        }

    pub over_b : (k n : ℕ) (now : Moment) → LosesB k n now → IsNextOutstanding now.ends.b.outstanding 0 None → SendsB k n now
    over_b k n now st none =
        let more = floor_would (is_first st.after.since) now.ends.b in
        let one = one_most now.ends.b.ack_due in
        record {
          after = st.after;
          from = now;
          lost = lost_all B st.lost.0 st.after.sent_a now now st.lost.1 (0, (refl, none));
          sent = (0, refl);
          count = omega (arith, more, one);
        }

    abbrev pub PendsB : ℕ → ℕ → Moment → Type 0
    PendsB k n now = (was : Moment) × SendsB k n was × Pends B was now

    pub deliver_b : (k n : ℕ) (now new : Moment) (bytes : List ℕ) (st : PendsB k n now) → Happens (comes A st.2.made.number bytes) now new → SendsB k (suc (suc n)) new
    deliver_b k n now new bytes (was, st, pend) receive =
        let x = makes B pend.first pend.delay pend.room pend.made pend.text in
        let y = comes A pend.made.number bytes in
        let made = since_a_next x was now st.after pend.happens in
        let adds = made_adds a b B pend.first pend.delay pend.room pend.made pend.text was now st.after.since.at pend.happens in
        let more_one = would_grow a b x was now st.after.since.at tt pend.happens A in
        let more_two = would_grow a b y now new made.since.at tt receive A in
        let same : would B new ≡ would B now = ap (λ e. score (ahead e)) receive.1.still in
        let due_same : due B new ≡ due B now = ap (λ (e : End). one_if e.ack_due) receive.1.still in
        record {
          after = since_a_next y now new made receive;
          from = st.from;
          lost = st.lost;
          sent = (suc st.sent.0, (was, st.sent.1, inl (Make pend.first pend.delay pend.room, (Ok (Some pend.made), pend.text), bytes, now, tt, pend.happens, under A now new bytes (made_next B pend.first pend.delay pend.room pend.made pend.text was now pend.happens) receive)));
          count = omega (arith, adds, more_one, more_two, same, due_same);
        }

    pub none_b : (k n : ℕ) (x : Happening) (now new : Moment) → SendsB k n now → Happens x now new → IsCalm x.call → new.ends ≡ now.ends → (Sendable now.ends.b → ⊥) → ReadsA k (suc n) new
    none_b k n x now new st happens calm same none =
        let turn : TakesTurn Packets B st.after.sent_a new = (st.from, st.lost, sent_all B st.sent.0 st.from now new st.sent.1 (1, (new, inr (x, calm, happens, idle_ends now.ends new.ends same), (refl, (subst (λ v. Sendable v.b → ⊥) (sym same) none, λ is. absurd (cc is)))))) in
        let same_a : would A new ≡ would A now = ap (λ (v : World). score (ahead v.a)) same in
        let same_b : would B new ≡ would B now = ap (λ (v : World). score (ahead v.b)) same in
        record {
          after = since_a_next x now new st.after happens;
          sent_b = new;
          turn_b = turn;
          moments = [];
          trail = refl;
          count = omega (arith, same_a, same_b);
        }

    -- Reads

    pub read_one : (k n : ℕ) (s : Side) (j size : ℕ) (answer : Result Read UseFault × List ℕ) (now new : Moment) → ReadsA k n now → IsReadable (end_of now.ends s) j → Happens (reads s j (suc size) answer) now new → ReadsA k (suc n) new
    read_one k n s j size answer now new st news happens =
        let x = reads s j (suc size) answer in
        let at = st.after.since.at in
        let more = both_more s (read_adds a b s j size answer now new at news happens) (would_grow a b x now new at tt happens A) (would_grow a b x now new at tt happens B) in
        record {
          after = since_a_next x now new st.after happens;
          sent_b = st.sent_b;
          turn_b = st.turn_b;
          moments = st.moments ++ new ∷ [];
          trail = joined IsRead st.moments (new ∷ []) st.sent_b now new st.trail ((x, tt, happens.0, happens.1), refl);
          count = omega (arith, more);
        }
      where
        both_more : (s : Side) → would s now < would s new → would A now ≤ would A new → would B now ≤ would B new → would A now + would B now + 1 ≤ would A new + would B new
        both_more A lt one two = omega (arith, lt, two)
        both_more B lt one two = omega (arith, lt, one)

    pub over_read_a : (k n : ℕ) (now : Moment) → ReadsA k n now → IsLeast (IsReadable now.ends.a) 0 None → ReadsB k n now
    over_read_a k n now st none = record { reads = st; read_a = (now, last_of IsRead st.moments st.sent_b now st.trail, none) }

    pub read_b : (k n j size : ℕ) (answer : Result Read UseFault × List ℕ) (now new : Moment) → ReadsB k n now → IsReadable now.ends.b j → Happens (reads B j (suc size) answer) now new → ReadsB k (suc n) new
    unfolding read_one
    read_b k n j size answer now new st news happens =
        let (m, among, none) = st.read_a in
        record { reads = read_one k n B j size answer now new st.reads news happens; read_a = (m, Among_left (st.reads.sent_b ∷ st.reads.moments) (new ∷ []) m among, none) }

    pub over_read_b : (k n : ℕ) (now : Moment) → ReadsB k n now → IsLeast (IsReadable now.ends.b) 0 None → BothOpen now.ends → LosesA (suc k) n now
    over_read_b k n now st none unclosed =
        let r = st.reads in
        let since = r.after.since in
        let round : Round Packets since.begins now = record {
          sent_a = r.after.sent_a;
          sent_b = r.sent_b;
          moments = r.moments;
          turn_a = r.after.turn_a;
          turn_b = r.turn_b;
          reads = r.trail;
          none_to_read = λ s. by s;
        } in
        let (ms, led) = round_leads Packets since.begins now round in
        let open_end = trail_open (λ call. ⊤) ms since.begins now led unclosed in
        let high = level_grows a b since.begins now since.base.before since.base.at open_end r.after.busy round in
        let rounds = since.base.rounds in
        record {
          since = record {
            begins = now;
            base = record { at = since.at; before = inr (since.begins, since.base.at, round); rounds = omega (arith, rounds, high); row = (since.begins, since.base.row, r.after.busy, round) };
            at = since.at;
            led = ([], refl);
            grown = omega arith;
          };
          lost = (0, refl);
          goes_on = λ not. not;
          clear = λ is. a_clear_mid a b since.begins now since.base.at round;
          count = omega arith;
        }
      where
        by : (s : Side) → Sometime (λ m. IsLeast (IsReadable (end_of m s)) 0 None) (st.reads.sent_b ∷ st.reads.moments)
        by A = st.read_a
        by B = (now, last_of IsRead st.reads.moments st.reads.sent_b now st.reads.trail, none)

    -- How many there were

    few : (k n c : ℕ) (now : Moment) → Since k now → c ≤ 6 → n + 2 * s0 ≤ w + 6 * k + c + 2 * (would A now + would B now) → n ≤ w + 8 * most now.log now.ends + 12
    few k n c now it small count =
        let below = ahead_below a b now.log now.ends it.at.run it.at.knows_first in
        let low = level_low a b it.begins it.base.before in
        omega (arith, below, would_more a b A now, would_more a b B now, it.base.rounds, low)

    pub few_loses_a : (k n : ℕ) (now : Moment) → LosesA k n now → n ≤ w + 8 * most now.log now.ends + 12
    few_loses_a k n now st =
        let f = is_first st.since in
        few k n 0 now st.since (omega arith) (omega (arith, floor_would f now.ends.a, floor_would f now.ends.b))

    pub few_sends_a : (k n : ℕ) (now : Moment) → SendsA k n now → n ≤ w + 8 * most now.log now.ends + 12
    few_sends_a k n now st = few k n 2 now st.since (omega arith) (omega (arith, floor_would (is_first st.since) now.ends.b))

    pub few_pends_a : (k n : ℕ) (now : Moment) → PendsA k n now → suc n ≤ w + 8 * most now.log now.ends + 12
    few_pends_a k n now (was, st, busy, pend) =
        let x = makes A pend.first pend.delay pend.room pend.made pend.text in
        let adds = made_adds a b A pend.first pend.delay pend.room pend.made pend.text was now st.since.at pend.happens in
        let two = floor_would (is_first st.since) was.ends.b in
        let more = would_grow a b x was now st.since.at tt pend.happens B in
        few k (suc n) 2 now (since_next x was now st.since pend.happens) (omega arith) (omega (arith, adds, two, more))

    pub few_loses_b : (k n : ℕ) (now : Moment) → LosesB k n now → n ≤ w + 8 * most now.log now.ends + 12
    few_loses_b k n now st = few k n 3 now st.after.since (omega arith) (omega (arith, floor_would (is_first st.after.since) now.ends.b))

    pub few_sends_b : (k n : ℕ) (now : Moment) → SendsB k n now → n ≤ w + 8 * most now.log now.ends + 12
    few_sends_b k n now st = few k n 5 now st.after.since (omega arith) (omega arith)

    pub few_pends_b : (k n : ℕ) (now : Moment) → PendsB k n now → suc n ≤ w + 8 * most now.log now.ends + 12
    few_pends_b k n now (was, st, pend) =
        let x = makes B pend.first pend.delay pend.room pend.made pend.text in
        let adds = made_adds a b B pend.first pend.delay pend.room pend.made pend.text was now st.after.since.at pend.happens in
        let more = would_grow a b x was now st.after.since.at tt pend.happens A in
        few k (suc n) 5 now (since_next x was now st.after.since pend.happens) (omega arith) (omega (arith, adds, more))

    pub few_reads : (k n : ℕ) (now : Moment) → ReadsA k n now → n ≤ w + 8 * most now.log now.ends + 12
    few_reads k n now st = few k n 6 now st.after.since (omega arith) (omega arith)

  -- How it begins

  abbrev pub waiting : World → ℕ
  waiting v = fmap.len v.a.outstanding + fmap.len v.b.outstanding

  pub start : (m : Moment) → IsReached a b m → LosesA (both m.ends) (waiting m.ends + 1) m 0 0 m
  start m r =
      record {
        since = record { begins = m; base = record { at = r; before = inl tt; rounds = omega arith; row = ([], refl) }; at = r; led = ([], refl); grown = omega arith };
        lost = (0, refl);
        goes_on = λ not. not;
        clear = λ is. absurd (true≢false is);
        count = omega arith;
      }

  -- a packet that was made before may come first
  pub start_came : (m new : Moment) (k : ℕ) (bytes : List ℕ) → IsReached a b m → IsNextOutstanding m.ends.a.outstanding 0 None → Happens (comes B k bytes) m new → SendsA (both m.ends) (waiting m.ends + 1) m 0 1 new
  start_came m new k bytes r none happens =
      let x = comes B k bytes in
      let up = up_both x m new r happens in
      let f = m.ends.b in
      let (fine, faultless, took) = payload_frames f new.ends.b k bytes (new_payload f new.ends.b k bytes happens.1.step) happens.1.step in
      let few = frames_len (frames_in bytes) f in
      let same = ap (λ (e : End). fmap.len e.outstanding) took in
      let one = one_most new.ends.a.ack_due in
      let more = would_more a b A new in
      let at = reached a b m new x r happens.0 happens.1 in
      record {
        since = record { begins = new; base = record { at = at; before = inl tt; rounds = omega (arith, up); row = (new ∷ [], ((x, tt, happens.0, happens.1), refl)) }; at = at; led = ([], refl); grown = omega arith };
        from = new;
        lost = (0, (refl, subst (λ (e : End). IsNextOutstanding e.outstanding 0 None) (sym happens.1.still) none));
        sent = (0, refl);
        goes_on = λ not. not;
        count = omega (arith, up, few, same, one, more);
      }
