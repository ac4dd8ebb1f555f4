-- What is done stays done: a score never falls.
use Rattle.std.proofs.lemmas.Bool.Decides.{nat_tests}
use Rattle.std.proofs.Common.{◌≡◌, ℕ, ◌+◌, ◌*◌, ◌≤◌, true, not, cond, is_some, subst, arith}
use Rattle.qs_wire.specs.declared.stream_id.Dir.{Dir}
use Rattle.qs_wire.specs.declared.stream_id.Dir.TheVariants.{Bidi, Uni}
use Rattle.qs_recv.specs.Lane.{RecvLane}
use Rattle.qs_send.specs.Lane.{SendLane}
use Rattle.qs_send.specs.declared.piece.Item.{Item}
use Rattle.qs_send.specs.declared.piece.Item.TheVariants.{MaxData, MaxStreamData, MaxStreams, StopSending, DataBlocked, StreamDataBlocked, StreamsBlocked}
use Rattle.qs_calls.specs.declared.settings.Settings.{Settings}
use Rattle.qs_calls.specs.declared.event.Side.{Side}
use Rattle.qs_machine.specs.Ends.{End, AckedItems, is_uni, is_own, is_own_by, first_send_limit, first_window, first_window_by}
use Rattle.qs_machine.specs.Credit.{granted_streams, first_grant}
use Rattle.qs_machine.specs.Due.{known_count}
use Rattle.qs_machine.specs.EndStep.{Call, Answer as CallAnswer, EndStep}
use Rattle.qs_machine.proofs.TableLaws.{value, total_le}
use Rattle.qs_machine.proofs.TablesAfter.{KeptIn}
use Rattle.qs_machine.proofs.EachHalf.{sends_kept, recvs_kept}
use Rattle.qs_machine.proofs.Rising.{rises_call}
use Rattle.qs_runs.specs.Logs.{Happening, History}
use Rattle.qs_runs.specs.Worlds.{World, end_of, WorldStep, Run}
use Rattle.qs_runs.proofs.Runs.{run_keeps, settings_stay}
use Rattle.qs_runs.proofs.Stays.{each_side}
use Rattle.qs_rest.specs.Resting.{KnowsFirstLimits}
use Rattle.qs_rest.proofs.FirstLimits.{first_limits_stay}
use Rattle.qs_progress.specs.Score.{one_if, is_done, told_from, sent_marks, got_marks, stream_marks, first_count, count_marks, credit_marks, halves, type_marks, score, WhatIsDoneStays}
use Rattle.qs_progress.proofs.Sums.{le_same, sum_grows, one_grows, told_grows, marks_grow}
use Rattle.qs_progress.proofs.Halves.{is_broken, SentGrows, sent_same, sent_twice, sent_edits, GotGrows, got_same, got_twice, got_edits}
use Rattle.qs_progress.proofs.Items.{ItemsGrow, grown_call}

-- an item whose value doesn't fall, from the same least one on
pub item_grows : (x y : AckedItems) (item : ℕ → Item) (least low p q : ℕ) → ItemsGrow x y → low ≡ least → p ≤ q → told_from least p (is_done x (item p)) ≤ told_from low q (is_done y (item q))
item_grows x y item least low p q more is le = rw is (told_grows least p q (is_done x (item p)) (is_done y (item q)) le (λ same done. subst (λ v. is_done y (item v) ≡ true) same (more (item p) done)))

-- Two ends of the same role that were made and told alike, of which the second did and knows no less
pub record Goes (a b : End) : Type 0 where
  pub role : b.role ≡ a.role
  pub peer : b.peer ≡ a.peer
  pub settings : b.settings ≡ a.settings
  pub items : ItemsGrow a.acked b.acked
  pub granted : a.granted ≤ b.granted
  pub counts : (d : Dir) → granted_streams a d ≤ granted_streams b d
  pub known : a.known_data ≤ b.known_data
  pub known_counts : (d : Dir) → known_count a d ≤ known_count b d
  pub sends : KeptIn SentGrows a.sends b.sends
  pub recvs : KeptIn GotGrows a.recvs b.recvs

module _ (a b : End) (g : Goes a b) where
  pub first_same : (n : ℕ) → first_send_limit b n ≡ first_send_limit a n
  first_same n = λ i. cond (is_uni n) (g.peer i).uni (cond (is_own_by (g.role i) n) (g.peer i).bidi_remote (g.peer i).bidi_local)

  pub window_same : (n : ℕ) → first_window b n + 1 ≡ first_window a n + 1
  window_same n = λ i. first_window_by (g.role i) (g.settings i) n + 1

  pub own_same : (n : ℕ) → one_if (not (is_own b n)) ≡ one_if (not (is_own a n))
  own_same n = λ i. one_if (not (is_own_by (g.role i) n))

  pub sent_grows : (n : ℕ) (l m : SendLane) → SentGrows l m → sent_marks a n l ≤ sent_marks b n m
  sent_grows n l m r =
      omega (
        arith,
        r.0,
        one_grows l.fin_acked m.fin_acked r.1,
        one_grows l.reset_acked m.reset_acked r.2,
        one_grows (is_broken l) (is_broken m) r.3,
        r.4,
        first_same n,
        item_grows a.acked b.acked (StreamDataBlocked n) (first_send_limit a n) (first_send_limit b n) l.limit m.limit g.items (first_same n) r.4,
      )

  pub got_grows : (n : ℕ) (l m : RecvLane) → GotGrows l m → got_marks a n l ≤ got_marks b n m
  got_grows n l m r =
      omega (
        arith,
        own_same n,
        r.0,
        r.1,
        one_grows (is_some l.final_size) (is_some m.final_size) r.2,
        one_grows (is_some l.reset_code) (is_some m.reset_code) r.3,
        one_grows l.reader_done m.reader_done r.4,
        one_grows (is_done a.acked (StopSending n 0)) (is_done b.acked (StopSending n 0)) (g.items (StopSending n 0)),
        item_grows a.acked b.acked (MaxStreamData n) (first_window a n + 1) (first_window b n + 1) l.limit m.limit g.items (window_same n) r.5,
      )

  pub stream_grows : (n : ℕ) → stream_marks a n ≤ stream_marks b n
  stream_grows n =
      let sent = marks_grow SentGrows (sent_marks a n) (sent_marks b n) a.sends b.sends g.sends (sent_grows n) n in
      let got = marks_grow GotGrows (got_marks a n) (got_marks b n) a.recvs b.recvs g.recvs (got_grows n) n in
      omega (arith, sent, got)

  pub halves_grow : halves a ≤ halves b
  halves_grow = grind (arith, nat_tests, total_le, value, le_same)

  pub type_grows : (kind : ℕ) → type_marks a kind ≤ type_marks b kind
  type_grows kind = sum_grows (λ i. stream_marks a (i * 4 + kind)) (λ i. stream_marks b (i * 4 + kind)) 0 (halves a) (halves b) halves_grow (λ i. stream_grows (i * 4 + kind))

  pub count_grows : (d : Dir) → count_marks a d ≤ count_marks b d
  count_grows d =
      let grant : first_grant b.settings d + 1 ≡ first_grant a.settings d + 1 = λ i. first_grant (g.settings i) d + 1 in
      let first : first_count b.peer d ≡ first_count a.peer d = λ i. first_count (g.peer i) d in
      omega (
        arith,
        item_grows a.acked b.acked (MaxStreams d) (first_grant a.settings d + 1) (first_grant b.settings d + 1) (granted_streams a d) (granted_streams b d) g.items grant (g.counts d),
        first,
        g.known_counts d,
        item_grows a.acked b.acked (StreamsBlocked d) (first_count a.peer d) (first_count b.peer d) (known_count a d) (known_count b d) g.items first (g.known_counts d),
      )

  pub credit_grows : credit_marks a ≤ credit_marks b
  credit_grows =
      let window : b.settings.conn_window + 1 ≡ a.settings.conn_window + 1 = λ i. (g.settings i).conn_window + 1 in
      let first : b.peer.max_data ≡ a.peer.max_data = λ i. (g.peer i).max_data in
      omega (
        arith,
        item_grows a.acked b.acked MaxData (a.settings.conn_window + 1) (b.settings.conn_window + 1) a.granted b.granted g.items window g.granted,
        first,
        g.known,
        item_grows a.acked b.acked DataBlocked a.peer.max_data b.peer.max_data a.known_data b.known_data g.items first g.known,
      )

  pub score_grows : score a ≤ score b
  score_grows =
      let zero = type_grows 0 in
      let one = type_grows 1 in
      let two = type_grows 2 in
      let three = type_grows 3 in
      let bidi = count_grows Bidi in
      let uni = count_grows Uni in
      let credit = credit_grows in
      omega (arith, zero, one, two, three, bidi, uni, credit)

-- a call of an end that knew its peer's first limits
pub goes_call : (old : End) (call : Call) (answer : CallAnswer call) (new : End) → EndStep old call answer new → new.peer ≡ old.peer → Goes old new
goes_call old call answer new step peer =
    let sends = sends_kept SentGrows sent_same sent_twice sent_edits old call answer new step in
    let grown = grown_call old call answer new step in
    let rises = rises_call old call answer new step in
    record {
      role = sends.0;
      peer = peer;
      settings = grown.0;
      items = grown.3;
      granted = rises.0;
      counts = each_dir (granted_streams old) (granted_streams new) grown.1 grown.2;
      known = rises.1;
      known_counts = each_dir (known_count old) (known_count new) rises.2 rises.3;
      sends = sends.1;
      recvs = recvs_kept GotGrows got_same got_twice got_edits old call answer new step;
    }
  where
    each_dir : (f g : Dir → ℕ) → f Bidi ≤ g Bidi → f Uni ≤ g Uni → (d : Dir) → f d ≤ g d
    each_dir f g bidi uni d = grind (arith, nat_tests)

score_call : (old : End) (call : Call) (answer : CallAnswer call) (new : End) → EndStep old call answer new → new.peer ≡ old.peer → score old ≤ score new
score_call old call answer new step peer = score_grows old new (goes_call old call answer new step peer)

-- the limits that an end was told are the true ones, which don't change
pub peer_stays : (a b : Settings) (h : History) (v w : World) (x : Happening) → Run a b h v → WorldStep h v x w → (s : Side) → KnowsFirstLimits v s → (end_of w s).peer ≡ (end_of v s).peer
peer_stays a b h v w x run step s told = grind (arith, nat_tests, first_limits_stay, settings_stay, run_keeps)

pub what_is_done_stays : WhatIsDoneStays
what_is_done_stays a b h v w x run step s told =
    each_side (λ e f. f.peer ≡ e.peer → score e ≤ score f) (λ e same. le_same (score e)) v w (λ t call answer made. score_call (end_of v t) call answer (end_of w t) made) h x step s
    (peer_stays a b h v w x run step s told)
