-- Two ends of which nothing new comes any more: what a packet and a read leave of them.
use Rattle.std.proofs.Common.{◌≡◌, ℕ, ◌+◌, ◌≤◌, Bool, true, false, List, [], ◌∷◌, ◌⊎◌, Some, None, is_some, refl, sym, ap, ◌∙◌, subst, arith, inl, inr}
use Rattle.std.specs.Prelude.{⊤}
use Rattle.std.specs.FinSet as set
use Rattle.std.proofs.lemmas.Bool.{cond_both, or_cases, and_parts, true≢false}
use Rattle.qs_ranges.specs.Numbers.{NumberSet}
use Rattle.qs_wire.specs.declared.stream_id.Dir.{Dir}
use Rattle.qs_wire.specs.declared.stream_id.Dir.TheVariants.{Bidi, Uni}
use Rattle.qs_send.specs.Lane.{SendLane}
use Rattle.qs_send.specs.Records.{Among}
use Rattle.qs_send.specs.declared.piece.Item.{Item}
use Rattle.qs_send.specs.declared.piece.Item.TheVariants.{MaxData, MaxStreamData, MaxStreams, ResetStream, StopSending, DataBlocked, StreamDataBlocked, StreamsBlocked}
use Rattle.qs_send.specs.declared.piece.Piece.{Piece}
use Rattle.qs_send.specs.declared.piece.Piece.TheVariants.{Data, Told}
use Rattle.qs_calls.specs.declared.event.Side.{Side}
use Rattle.qs_calls.specs.declared.settings.Settings.{Settings}
use Rattle.qs_machine.specs.Tables.{lookup, no_streams}
use Rattle.qs_machine.specs.Ends.{End, is_own, opens, opened_by_peer}
use Rattle.qs_machine.specs.Credit.{settle, ended, recv_ended, send_ended, granted_streams}
use Rattle.qs_machine.specs.Due.{IsDueItem, wanted, known_count}
use Rattle.qs_machine.specs.FrameStep.{frame_taken, frames_taken, named}
use Rattle.qs_machine.specs.Alone.{only}
use Rattle.qs_machine.specs.Lawful.{Fills}
use Rattle.qs_machine.specs.Plains.{is_plain}
use Rattle.qs_machine.specs.Seen.{Seen, Ack, Stream, Control}
use Rattle.qs_machine.proofs.Leaves.{but_sending, acks_leave, fills_leave}
use Rattle.qs_runs.specs.Invariant.{WorldOk}
use Rattle.qs_runs.specs.Logs.{other}
use Rattle.qs_runs.specs.Worlds.{end_of}
use Rattle.qs_runs.proofs.Claims.{run_settled}
use Rattle.qs_runs.proofs.Histories.{two_sides}
use Rattle.qs_runs.proofs.Runs.{run_keeps}
use Rattle.qs_rest.proofs.OneStream.{sender_ok, acked_sent}
use Rattle.qs_rest.proofs.Runs.{every_run_keeps}
use Rattle.qs_progress.specs.Laps.{Moment}
use Rattle.qs_progress.specs.Outstanding.{IsIn}
use Rattle.qs_progress.specs.Comes.{IsReached}
use Rattle.qs_progress.proofs.ByTokens.{TokenTold, told_back}
use Rattle.qs_progress.proofs.Passing.{IsClear}
use Rattle.qs_progress.proofs.Turns.{IsSame, as_was, same_out}
use Rattle.qs_progress.proofs.Steps.{IsNew, fills_new}
use Rattle.qs_progress.proofs.From.{IsStop, SendsFrom, sends_same, sends_frames, IsSoft, RecvsFrom, recvs_same, recvs_frames}
use Rattle.qs_progress.proofs.Ceased.{CalmStep, NoStops, IsSpent, AllDone, spent_stays, put_due, no_data}
use Rattle.qs_progress.proofs.Eased.{HadEnded, ended_few, done_ended, but_news, Eased, settled_recvs, eased, NoLimits, NoBlocks}

-- Frames that come leave the peer's counts as they are known, but those that tell counts

abbrev IsCount : Seen → Type 0
IsCount (Control (MaxStreams d m)) = ⊤
IsCount f = ⊥

abbrev KnowsSame : End → End → Type 0
KnowsSame e f = (f.known_bidi ≡ e.known_bidi) × (f.known_uni ≡ e.known_uni)

opened_knows : (n : ℕ) (e : End) → KnowsSame e (opened_by_peer n e)
opened_knows n e = cond_both (is_own e n) e (opens n e) (KnowsSame e) (λ _. (refl, refl)) (λ _. (refl, refl))

frame_knows : (f : Seen) (e : End) → (IsCount f → ⊥) → KnowsSame e (frame_taken f e)
unfolding frame_taken
frame_knows (Ack largest ranges) e other = (ap (λ (x : End). x.known_bidi) (acks_leave (named e ranges) e), ap (λ (x : End). x.known_uni) (acks_leave (named e ranges) e))
frame_knows (Stream n offset bytes fin) e other = opened_knows n e
frame_knows (Control (MaxStreamData n m)) e other = opened_knows n e
frame_knows (Control (MaxStreams d m)) e other = absurd (other tt)
frame_knows (Control (ResetStream n code size)) e other = opened_knows n e
frame_knows (Control (StopSending n code)) e other = opened_knows n e
frame_knows (Control (StreamDataBlocked n m)) e other = opened_knows n e
frame_knows f e other = (refl, refl)

frames_know : (fs : List Seen) (e : End) → ((f : Seen) → Among f fs → IsCount f → ⊥) → KnowsSame e (frames_taken fs e)
unfolding frames_taken
frames_know [] e others = (refl, refl)
frames_know (f ∷ fs) e others =
    let one = frame_knows f e (others f (inl refl)) in
    let more = frames_know fs (frame_taken f e) (λ g later. others g (inr later)) in
    (more.0 ∙ one.0, more.1 ∙ one.1)

count_of : (e f : End) → KnowsSame e f → (d : Dir) → known_count f d ≡ known_count e d
count_of e f same Bidi = same.0
count_of e f same Uni = same.1

want_of : (e f : End) → but_news f ≡ but_news e → (d : Dir) → wanted f d ≡ wanted e d
want_of e f same Bidi = ap (λ (x : End). x.wanted_bidi) same
want_of e f same Uni = ap (λ (x : End). x.wanted_uni) same

-- no item is due where none of each kind is
pub nothing_due : (e : End) → IsSpent e → NoLimits e → NoBlocks e → (i : Item) → IsDueItem e i → ⊥
nothing_due e spent limits blocks (MaxData m) due = limits (MaxData m) tt due
nothing_due e spent limits blocks (MaxStreamData n m) due = limits (MaxStreamData n m) tt due
nothing_due e spent limits blocks (MaxStreams d m) due = limits (MaxStreams d m) tt due
nothing_due e spent limits blocks (ResetStream n code size) due = spent.resets n code size due
nothing_due e spent limits blocks (StopSending n code) due = spent.stops n code due
nothing_due e spent limits blocks (DataBlocked m) due = (let (n, l, wants) = due.0.2 in let le = spent.whole n l wants.lane wants.no_reset in let more = wants.more in omega (arith, le, more))
nothing_due e spent limits blocks (StreamDataBlocked n m) due = (let (l, at, none, is, more, end) = due.0 in let le = spent.whole n l at none in omega (arith, le, more, end))
nothing_due e spent limits blocks (StreamsBlocked d m) due = blocks d m due

-- What an end is after a packet
pub record Moves (e f : End) (quiet : Type 0) : Type 0 where
  pub sends : SendsFrom e.sends f.sends
  pub recvs : RecvsFrom e e.recvs f.recvs
  pub same : AllDone e → Eased e f
  pub wants : (d : Dir) → wanted f d ≡ wanted e d
  pub known : quiet → (d : Dir) → known_count f d ≡ known_count e d

ended_same : (e f : End) → f.role ≡ e.role → f.recvs ≡ e.recvs → f.sends ≡ e.sends → (d : Dir) → ended f d ≤ ended e d
ended_same e f role recvs sends d = ended_few e f role (λ n y at is. (y, ap (λ t. lookup t n) (sym recvs) ∙ at, is)) (λ n y at is. (y, ap (λ t. lookup t n) (sym sends) ∙ at, is)) d

eased_as : (e f : End) (done : NumberSet) (floor : ℕ) (due : Bool) → Eased e f → Eased e (record f { done = done; floor = floor; ack_due = due })
eased_as e f done floor due x = record { role = x.role; settings = x.settings; granted = x.granted; counts = λ d. x.counts d }

-- an end took in these frames, and perhaps a packet's number
abbrev pub Takes : List Seen → End → End → Type 0
Takes came f f2 = f2 ≡ record (settle (frames_taken came f)) { done = f2.done; floor = f2.floor; ack_due = f2.ack_due }

-- an end made a packet, of which the other took in what stands in it
pub record Carried (e e2 f f2 : End) : Type 0 where
  pub frames : List Seen
  pub last : End
  pub filled : Fills e e frames last
  pub made : e2 ≡ settle (record last { next = e.next + 1 })
  pub came : List Seen
  pub took : Takes came f f2
  pub only : (g : Seen) → Among g came → is_plain g ≡ false → Among g frames

-- the end that frames come to

module _ (a b : Settings) (u : Side) (old new : Moment) (was : IsReached a b old) (is : IsReached a b new) (came : List Seen) (took : Takes came (end_of old.ends u) (end_of new.ends u)) (no_stop : (g : Seen) → Among g came → IsStop g → ⊥) where
  abbrev f : End
  f = end_of old.ends u

  abbrev f2 : End
  f2 = end_of new.ends u

  abbrev led : End
  led = frames_taken came f

  took_spent : CalmStep f f2 → IsSpent f → IsSpent f2
  took_spent calm spent = spent_stays f f2 calm (subst (λ (y : End). SendsFrom f.sends y.sends) (sym took) (sends_frames came f no_stop)) spent

  took_moves : (quiet : Type 0) → ((g : Seen) → Among g came → IsSoft g) → (quiet → (g : Seen) → Among g came → IsCount g → ⊥) → Moves f f2 quiet
  took_moves quiet soft no_count =
      let settled = run_settled a b old.log old.ends was.run u in
      let (from, left) = recvs_frames f came f refl soft in
      let stands : but_news led ≡ but_news f = ap (λ (y : End). record y { done = set.empty; floor = 0; next = 0; accepted_bidi = 0; accepted_uni = 0; closed = None }) left in
      let sends = sends_frames came f no_stop in
      subst (λ (y : End). Moves f y quiet) (sym took)
      (record {
        sends = sends;
        recvs = settled_recvs f led settled stands from;
        same = λ done. eased_as f (settle led) f2.done f2.floor f2.ack_due (eased f led settled stands from (ended_few f led (ap (λ (y : End). y.role) stands) (recvs_before from) (sends_before done sends)));
        wants = λ d. want_of f led stands d;
        known = λ calm d. count_of f led (frames_know came f (no_count calm)) d;
      })
    where
      recvs_before : RecvsFrom f f.recvs led.recvs → HadEnded recv_ended f.recvs led.recvs
      recvs_before from n y at is =
          elim (from n y at) [
            | inl before ↦ (let (l, was, same) = before in (l, was, ap recv_ended (sym same) ∙ is))
            | inr new ↦ absurd (true≢false (sym is ∙ ap recv_ended new))
          ]

      sends_before : AllDone f → SendsFrom f.sends led.sends → HadEnded send_ended f.sends led.sends
      sends_before done from n m at over =
          elim (from n m at) [
            | inl before ↦ (
                let (l, there, firm) = before in
                let half = sender_ok a b old.log old.ends ok u n l there in
                let few = half.sent_written in
                (l, there, done_ended l m firm (done n l there) (λ q acked. let lt = acked_sent a b old.log old.ends ok u n l q there acked in omega (arith, lt, few)) known over))
            | inr new ↦ absurd (go m new known over)
          ]
        where
          ok : WorldOk a b old.log old.ends
          ok = run_keeps a b old.log old.ends was.run

          ok2 : WorldOk a b new.log new.ends
          ok2 = run_keeps a b new.log new.ends is.run

          now : lookup f2.sends n ≡ Some m
          now = subst (λ (y : End). lookup y.sends n ≡ Some m) (sym took) at

          known : m.reset_acked ≡ true → is_some m.was_reset ≡ true
          known acked =
              let (code, size, (k, holds, ack)) = ((every_run_keeps a b new.log new.ends is.run u).sends n m now).reset_told acked in
              ap is_some ((sender_ok a b new.log new.ends ok2 u n m now).told_reset code size (k, holds))

          go : (m : SendLane) → (m.written ≡ 0) × (m.finished ≡ false) × (m.was_reset ≡ None) → (m.reset_acked ≡ true → is_some m.was_reset ≡ true) → send_ended m ≡ true → ⊥
          go m new known over =
              elim (or_cases m.reset_acked _ over) [
                | inl told ↦ true≢false (sym (known told) ∙ ap is_some new.2)
                | inr rest ↦ (let parts = and_parts _ _ rest in let more = and_parts _ _ parts.0 in true≢false (sym more.1 ∙ new.1))
              ]

-- an end that is as it was, but may have accepted streams
pub idle_moves : (e f : End) → IsSame e f → Moves e f ⊤
idle_moves e f is =
    subst (λ y. Moves e y ⊤) (sym is)
    (record {
      sends = sends_same e.sends;
      recvs = recvs_same e e.recvs;
      same = λ done. record { role = refl; settings = refl; granted = refl; counts = λ d. counts_same e f.accepted_bidi f.accepted_uni d };
      wants = λ d. want_of e (record e { accepted_bidi = f.accepted_bidi; accepted_uni = f.accepted_uni }) refl d;
      known = λ quiet d. count_of e (record e { accepted_bidi = f.accepted_bidi; accepted_uni = f.accepted_uni }) (refl, refl) d;
    })
  where
    counts_same : (e : End) (bidi uni : ℕ) (d : Dir) → granted_streams (record e { accepted_bidi = bidi; accepted_uni = uni }) d ≡ granted_streams e d
    counts_same e bidi uni Bidi = refl
    counts_same e bidi uni Uni = refl

-- what happened to both ends
abbrev pub Moving : Side → Moment → Moment → Type 0
Moving s old new =
    Carried (end_of old.ends s) (end_of new.ends s) (end_of old.ends (other s)) (end_of new.ends (other s))
    ⊎ ((u : Side) × TokenTold (end_of old.ends u) (end_of new.ends u) × (end_of new.ends (other u) ≡ end_of old.ends (other u)))
    ⊎ ((u : Side) → IsSame (end_of old.ends u) (end_of new.ends u))

module _ (a b : Settings) (s : Side) where
  -- a packet of s was made, and came to the other end; or one of an end was told to be acknowledged, or none of either
  pub record Step (old new : Moment) : Type 0 where
    pub was : IsReached a b old
    pub is : IsReached a b new
    pub moves : Moving s old new
    pub calm : (t : Side) → CalmStep (end_of old.ends t) (end_of new.ends t)

  module _ (old new : Moment) (was : IsReached a b old) (is : IsReached a b new) where
    abbrev e : End
    e = end_of old.ends s

    abbrev e2 : End
    e2 = end_of new.ends s

    abbrev g : End
    g = end_of old.ends (other s)

    abbrev g2 : End
    g2 = end_of new.ends (other s)

    module _ (x : Carried e e2 g g2) where
      -- the end that made it

      abbrev last : End
      last = x.last

      left : but_sending last ≡ but_sending e
      left = fills_leave e x.frames e last x.filled

      module _ (spent : IsSpent e) where
        sends_are : last.sends ≡ e.sends
        sends_are = (no_data e spent x.frames e last refl (λ k p here. here) x.filled).0

        abbrev mid : End
        mid = record last { next = e.next + 1 }

        stands : but_news mid ≡ but_news e
        stands = ap (λ (y : End). record y { recvs = no_streams; known_data = 0; known_bidi = 0; known_uni = 0; done = set.empty; floor = 0; next = 0; accepted_bidi = 0; accepted_uni = 0; closed = None }) left

        recvs_are : last.recvs ≡ e.recvs
        recvs_are = ap (λ (y : End). y.recvs) left

        makes_moves : Moves e e2 ⊤
        makes_moves =
            let settled = run_settled a b old.log old.ends was.run s in
            let from : RecvsFrom e e.recvs mid.recvs = subst (RecvsFrom e e.recvs) (sym recvs_are) (recvs_same e e.recvs) in
            subst (λ (y : End). Moves e y ⊤) (sym x.made)
            (record {
              sends = subst (SendsFrom e.sends) (sym sends_are) (sends_same e.sends);
              recvs = settled_recvs e mid settled stands from;
              same = λ done. eased e mid settled stands from (ended_same e mid (ap (λ (y : End). y.role) left) recvs_are sends_are);
              wants = λ d. want_of e mid stands d;
              known = λ quiet d. count_of e mid (ap (λ (y : End). y.known_bidi) left, ap (λ (y : End). y.known_uni) left) d;
            })

        -- an end that has nothing to tell at all puts nothing out
        makes_none : NoLimits e → NoBlocks e → IsClear e → IsClear e2
        makes_none limits blocks clear k p here =
            elim (fills_new e x.frames e last refl x.filled) [
              | inl none ↦ clear k p (subst (λ (y : End). IsIn y.outstanding k p) none.0 (subst (λ (y : End). IsIn y.outstanding k p) x.made here))
              | inr some ↦ (let (q, at, new) = some in absurd (nothing q new))
            ]
          where
            nothing : (q : Piece) → IsNew e q → ⊥
            nothing (Data n c) (l, at, inl (q, low, high, due)) = spent.bytes n l q at due
            nothing (Data n c) (l, at, inr (fin, due)) = spent.ends n l at due
            nothing (Told i) due = nothing_due e spent limits blocks i due

      -- what came stood in it

      no_stop : NoStops e → (h : Seen) → Among h x.came → IsStop h → ⊥
      no_stop none (Control (StopSending n code)) among is = none n code (put_due e (StopSending n code) x.frames e last x.filled (x.only (Control (StopSending n code)) among refl))
      no_stop none h among is = absurd is

      soft : IsSpent e → (h : Seen) → Among h x.came → IsSoft h
      soft spent (Stream n offset bytes fin) among = (no_data e spent x.frames e last refl (λ k p here. here) x.filled).1 n offset bytes fin (x.only (Stream n offset bytes fin) among refl)
      soft spent (Control (ResetStream n code size)) among = spent.resets n code size (put_due e (ResetStream n code size) x.frames e last x.filled (x.only _ among refl))
      soft spent (Control (StopSending n code)) among = spent.stops n code (put_due e (StopSending n code) x.frames e last x.filled (x.only _ among refl))
      soft spent h among = tt

      no_count : NoLimits e → (h : Seen) → Among h x.came → IsCount h → ⊥
      no_count limits (Control (MaxStreams d m)) among is = limits (MaxStreams d m) tt (put_due e (MaxStreams d m) x.frames e last x.filled (x.only _ among refl))
      no_count limits h among is = absurd is

      takes_moves : IsSpent e → Moves g g2 (NoLimits e)
      takes_moves spent = took_moves a b (other s) old new was is x.came x.took (no_stop spent.stops) (NoLimits e) (soft spent) no_count

    -- a packet was told

    module _ (u : Side) (told : TokenTold (end_of old.ends u) (end_of new.ends u)) where
      abbrev acks : List Seen
      acks = only told.0 ∷ []

      took_it : Takes acks (end_of old.ends u) (end_of new.ends u)
      took_it = subst (λ (y : End). Takes acks (end_of old.ends u) y) (sym told.1) refl

      no_other : (P : Seen → Type 0) → P (only told.0) → (h : Seen) → Among h acks → P h
      no_other P is h (inl same) = subst P (sym same) is
      no_other P is h (inr none) = absurd none

      told_moves : Moves (end_of old.ends u) (end_of new.ends u) ⊤
      told_moves =
          took_moves a b u old new was is acks took_it (no_other (λ h. IsStop h → ⊥) (λ stop. stop)) ⊤ (no_other IsSoft tt) (λ quiet. no_other (λ h. IsCount h → ⊥) (λ count. count))

      told_spent : CalmStep (end_of old.ends u) (end_of new.ends u) → IsSpent (end_of old.ends u) → IsSpent (end_of new.ends u)
      told_spent = took_spent a b u old new was is acks took_it (no_other (λ h. IsStop h → ⊥) (λ stop. stop))

  module _ (old new : Moment) (x : Step old new) where
    pub moved : IsSpent (end_of old.ends s) → (t : Side) → Moves (end_of old.ends t) (end_of new.ends t) (NoLimits (end_of old.ends s))
    moved spent = by x.moves
      where
        less : (e f : End) → Moves e f ⊤ → Moves e f (NoLimits (end_of old.ends s))
        less e f made = record { sends = made.sends; recvs = made.recvs; same = made.same; wants = made.wants; known = λ limits. made.known tt }

        by : Moving s old new → (t : Side) → Moves (end_of old.ends t) (end_of new.ends t) (NoLimits (end_of old.ends s))
        by (inl c) t =
            two_sides (λ u. Moves (end_of old.ends u) (end_of new.ends u) (NoLimits (end_of old.ends s))) s
            (less (end_of old.ends s) (end_of new.ends s) (makes_moves old new x.was x.is c spent)) (takes_moves old new x.was x.is c spent) t
        by (inr (inl (u, told, still))) t =
            two_sides (λ v. Moves (end_of old.ends v) (end_of new.ends v) (NoLimits (end_of old.ends s))) u
            (less (end_of old.ends u) (end_of new.ends u) (told_moves old new x.was x.is u told))
            (less (end_of old.ends (other u)) (end_of new.ends (other u)) (idle_moves (end_of old.ends (other u)) (end_of new.ends (other u)) (as_was (end_of old.ends (other u)) (end_of new.ends (other u)) still))) t
        by (inr (inr same)) t = less (end_of old.ends t) (end_of new.ends t) (idle_moves (end_of old.ends t) (end_of new.ends t) (same t))

    -- the other end stays spent where no STOP_SENDING was due
    pub takes_spent : NoStops (end_of old.ends s) → IsSpent (end_of old.ends (other s)) → IsSpent (end_of new.ends (other s))
    takes_spent none = by x.moves
      where
        by : Moving s old new → IsSpent (end_of old.ends (other s)) → IsSpent (end_of new.ends (other s))
        by (inl c) = took_spent a b (other s) old new x.was x.is c.came c.took (no_stop old new x.was x.is c none) (x.calm (other s))
        by (inr (inl (u, told, still))) =
            two_sides (λ v. IsSpent (end_of old.ends v) → IsSpent (end_of new.ends v)) u
            (told_spent old new x.was x.is u told (x.calm u)) (subst IsSpent (sym still)) (other s)
        by (inr (inr same)) = spent_stays (end_of old.ends (other s)) (end_of new.ends (other s)) (x.calm (other s)) (idle_moves (end_of old.ends (other s)) (end_of new.ends (other s)) (same (other s))).sends

    pub puts_none : IsSpent (end_of old.ends s) → NoLimits (end_of old.ends s) → NoBlocks (end_of old.ends s) → IsClear (end_of old.ends s) → IsClear (end_of new.ends s)
    puts_none spent limits blocks = by x.moves
      where
        by : Moving s old new → IsClear (end_of old.ends s) → IsClear (end_of new.ends s)
        by (inl c) = makes_none old new x.was x.is c spent limits blocks
        by (inr (inl (u, told, still))) =
            two_sides (λ v. IsClear (end_of old.ends v) → IsClear (end_of new.ends v)) u
            (λ clear k p here. clear k p (told_back (end_of old.ends u) (end_of new.ends u) told k p here)) (subst IsClear (sym still)) s
        by (inr (inr same)) = λ clear k p here. clear k p (subst (λ m. IsIn m k p) (same_out (end_of old.ends s) (end_of new.ends s) (same s)) here)
