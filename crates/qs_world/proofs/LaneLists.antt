-- The lanes of a world, as its ends report them stream by stream.
use Rattle.std.proofs.Common.{◌≡◌, ℕ, zero, suc, ◌+◌, ◌-◌, ◌*◌, ◌/◌, ◌%◌, ◌<◌, ◌≤◌, List, [], ◌∷◌, ◌++◌, length, Option, Some, None, slice_get, option_map, option_to_list, refl, sym, ap, ◌∙◌, subst, arith, append_assoc, append-nil, length-append, flat_map}
use Rattle.std.specs.List.{range_with_len}
use Rattle.std.proofs.lemmas.Grind.{flat_map-append}
use Rattle.std.proofs.lemmas.Option.{slice_get_past}
use Rattle.qs_send.specs.Lane.{SendLane}
use Rattle.qs_recv.specs.Lane.{RecvLane}
use Rattle.qs_calls.specs.declared.report.LaneReport.{LaneReport}
use Rattle.qs_machine.specs.Ends.{send_lane, recv_lane}
use Rattle.qs_machine.specs.Reports.{send_report, recv_report, report_if, lane_report}
use Rattle.qs_machine.specs.Tables.{Tables, table, lookup}
use Rattle.qs_calls.specs.declared.event.Side.{Side}
use Rattle.qs_calls.specs.declared.event.Side.TheVariants.{A, B}
use Rattle.qs_world.specs.declared.report.LaneTotals.{LaneTotals}
use Rattle.qs_runs.specs.Worlds.{World}
use Rattle.qs_world.specs.Reports.{totals_by, lane_totals, longest, stream_bound, all_lanes}
use Rattle.qs_world.specs.LaneLists.{sending, receiving, asked_lane, lanes_of, lanes_from}

-- One stream

sending_is : (l : Option SendLane) (r : Option RecvLane) → sending (report_if l r) ≡ option_map send_report l
sending_is None None = refl
sending_is None (Some r) = refl
sending_is (Some l) None = refl
sending_is (Some l) (Some r) = refl

receiving_is : (l : Option SendLane) (r : Option RecvLane) → receiving (report_if l r) ≡ option_map recv_report r
receiving_is None None = refl
receiving_is None (Some r) = refl
receiving_is (Some l) None = refl
receiving_is (Some l) (Some r) = refl

told_totals : (s : Side) (n : ℕ) (l : Option SendLane) (r : Option RecvLane) → option_to_list (asked_lane s n (option_map send_report l) (option_map recv_report r)) ≡ totals_by s n l r
told_totals s n None None = refl
told_totals s n None (Some r) = refl
told_totals s n (Some l) None = refl
told_totals s n (Some l) (Some r) = refl

lane_told : (s : Side) (n : ℕ) (l m : Option SendLane) (r q : Option RecvLane) → option_to_list (asked_lane s n (sending (report_if l q)) (receiving (report_if m r))) ≡ totals_by s n l r
lane_told s n l m r q = rw (sending_is l q, receiving_is m r) (told_totals s n l r)

-- what both ends tell of a stream, added to the lanes before it
pub stream_told : (w : World) (n : ℕ) (old mid new : List LaneTotals) (at_a at_b : Option LaneReport) →
    at_a ≡ lane_report w.a n → at_b ≡ lane_report w.b n →
    mid ≡ old ++ option_to_list (asked_lane A n (sending at_a) (receiving at_b)) →
    new ≡ mid ++ option_to_list (asked_lane B n (sending at_b) (receiving at_a)) →
    new ≡ old ++ lanes_of w n
stream_told w n old mid new at_a at_b a b first second =
    let of_a : mid ≡ old ++ lane_totals w A n = first ∙ (λ i. old ++ option_to_list (asked_lane A n (sending (a i)) (receiving (b i)))) ∙ ap (λ x. old ++ x) (lane_told A n (send_lane w.a n) (send_lane w.b n) (recv_lane w.b n) (recv_lane w.a n)) in
    let of_b : new ≡ mid ++ lane_totals w B n = second ∙ (λ i. mid ++ option_to_list (asked_lane B n (sending (b i)) (receiving (a i)))) ∙ ap (λ x. mid ++ x) (lane_told B n (send_lane w.b n) (send_lane w.a n) (recv_lane w.a n) (recv_lane w.b n)) in
    of_b ∙ ap (λ x. x ++ lane_totals w B n) of_a ∙ append_assoc old (lane_totals w A n) (lane_totals w B n)

-- Many streams

range-append : (a m n : ℕ) → range_with_len a (m + n) ≡ range_with_len a m ++ range_with_len (a + m) n
range-append a zero n =
    let none : 0 + n ≡ n = omega arith in
    let same : a + 0 ≡ a = omega arith in
    rw (none, same) refl
range-append a (suc m) n =
    let one : suc m + n ≡ suc (m + n) = omega arith in
    let same : a + 1 + m ≡ a + suc m = omega arith in
    ap (range_with_len a) one ∙ ap (λ x. a ∷ x) (range-append (a + 1) m n ∙ ap (λ x. range_with_len (a + 1) m ++ range_with_len x n) same)

lanes-append : (w : World) (a m n : ℕ) → lanes_from w a (m + n) ≡ lanes_from w a m ++ lanes_from w (a + m) n
lanes-append w a m n = ap (flat_map (lanes_of w)) (range-append a m n) ∙ flat_map-append (lanes_of w) (range_with_len a m) (range_with_len (a + m) n)

-- a stream more
pub lanes_more : (w : World) (old lanes new : List LaneTotals) (a n : ℕ) → lanes ≡ old ++ lanes_from w a n → new ≡ lanes ++ lanes_of w (a + n) → new ≡ old ++ lanes_from w a (n + 1)
lanes_more w old lanes new a n h e =
    let last : lanes_from w (a + n) 1 ≡ lanes_of w (a + n) = append-nil (lanes_of w (a + n)) in
    e ∙ ap (λ x. x ++ lanes_of w (a + n)) h ∙ append_assoc old (lanes_from w a n) (lanes_of w (a + n)) ∙ ap (λ x. old ++ x) (ap (λ x. lanes_from w a n ++ x) (sym last) ∙ sym (lanes-append w a n 1))

-- the four streams of an index more
pub index_more : (w : World) (lanes new : List LaneTotals) (i : ℕ) → lanes ≡ lanes_from w 0 (i * 4) → new ≡ lanes ++ lanes_from w (i * 4) 4 → new ≡ lanes_from w 0 ((i + 1) * 4)
index_more w lanes new i h e =
    let next : (i + 1) * 4 ≡ i * 4 + 4 = omega arith in
    let from : 0 + i * 4 ≡ i * 4 = omega arith in
    e ∙ ap (λ x. x ++ lanes_from w (i * 4) 4) h ∙ ap (λ x. lanes_from w 0 (i * 4) ++ lanes_from w x 4) (sym from) ∙ sym (lanes-append w 0 (i * 4) 4) ∙ ap (lanes_from w 0) (sym next)

-- Past all streams

append-left : {X : Type 0} (xs ys : List X) → xs ++ ys ≡ [] → xs ≡ []
append-left [] ys e = refl
append-left (x ∷ xs) ys e = absurd (cc (e))

append-right : {X : Type 0} (xs ys : List X) → xs ++ ys ≡ [] → ys ≡ []
append-right [] ys e = e
append-right (x ∷ xs) ys e = absurd (cc (e))

no_lane : (s : Side) (n : ℕ) (l : Option SendLane) (r : Option RecvLane) → totals_by s n l r ≡ [] → (l ≡ None) × (r ≡ None)
no_lane s n None None e = (refl, refl)
no_lane s n None (Some r) e = absurd (cc (e))
no_lane s n (Some l) None e = absurd (cc (e))
no_lane s n (Some l) (Some r) e = absurd (cc (e))

-- at neither end is the stream open
pub record IsPast (w : World) (n : ℕ) : Type 0 where
  pub a_sends : lookup w.a.sends n ≡ None
  pub a_recvs : lookup w.a.recvs n ≡ None
  pub b_sends : lookup w.b.sends n ≡ None
  pub b_recvs : lookup w.b.recvs n ≡ None

past_if_none : (w : World) (n : ℕ) → lanes_of w n ≡ [] → IsPast w n
past_if_none w n e =
    let at_a = no_lane A n (send_lane w.a n) (recv_lane w.b n) (append-left (lane_totals w A n) (lane_totals w B n) e) in
    let at_b = no_lane B n (send_lane w.b n) (recv_lane w.a n) (append-right (lane_totals w A n) (lane_totals w B n) e) in
    record { a_sends = at_a.0; a_recvs = at_b.1; b_sends = at_b.0; b_recvs = at_a.1 }

none_if_past : (w : World) (n : ℕ) → IsPast w n → lanes_of w n ≡ []
none_if_past w n p = rw (p.a_sends, p.a_recvs, p.b_sends, p.b_recvs) refl

-- where an element is missing the list ends
ends_before : {X : Type 0} (xs : List X) (i : ℕ) → slice_get xs i ≡ None → length xs ≤ i
ends_before [] i e = omega arith
ends_before (x ∷ xs) zero e = absurd (cc (e))
ends_before (x ∷ xs) (suc i) e = (let h = ends_before xs i e in omega (arith, h))

module _ {X : Type 0} (t : Tables X) where
  lookup_at : (i k : ℕ) → k < 4 → lookup t (i * 4 + k) ≡ slice_get (table t k) i
  unfolding lookup
  lookup_at i k lt =
      let kind : (i * 4 + k) % 4 ≡ k = omega arith in
      let index : (i * 4 + k) / 4 ≡ i = omega arith in
      rw (kind, index) refl

  longest_within : (i : ℕ) → ((k : ℕ) → k < 4 → lookup t (i * 4 + k) ≡ None) → longest t ≤ i
  longest_within i none =
      let short = λ (k : ℕ) (lt : k < 4). ends_before (table t k) i (sym (lookup_at i k lt) ∙ none k lt) in
      omega (arith, short 0 (omega arith), short 1 (omega arith), short 2 (omega arith), short 3 (omega arith))

  table_within : (k : ℕ) → length (table t k) ≤ longest t
  table_within zero = omega arith
  table_within (suc zero) = omega arith
  table_within (suc (suc zero)) = omega arith
  table_within (suc (suc (suc k))) = omega arith

  past_longest : (n : ℕ) → 4 * longest t ≤ n → lookup t n ≡ None
  unfolding lookup
  past_longest n le = slice_get_past (table t (n % 4)) (n / 4) (omega (arith, table_within (n % 4)))

-- every number from the bound on is past all streams
past_bound : (w : World) (n : ℕ) → stream_bound w ≤ n → IsPast w n
past_bound w n le =
    record {
      a_sends = past_longest w.a.sends n (omega arith);
      a_recvs = past_longest w.a.recvs n (omega arith);
      b_sends = past_longest w.b.sends n (omega arith);
      b_recvs = past_longest w.b.recvs n (omega arith);
    }

-- an index at which no type has a stream is past all streams
bound_within : (w : World) (i : ℕ) → ((k : ℕ) → k < 4 → IsPast w (i * 4 + k)) → stream_bound w ≤ i * 4
bound_within w i past =
    omega (
      arith,
      longest_within w.a.sends i (λ k lt. (past k lt).a_sends),
      longest_within w.a.recvs i (λ k lt. (past k lt).a_recvs),
      longest_within w.b.sends i (λ k lt. (past k lt).b_sends),
      longest_within w.b.recvs i (λ k lt. (past k lt).b_recvs),
    )

none_from : (w : World) (a n : ℕ) → ((m : ℕ) → a ≤ m → lanes_of w m ≡ []) → lanes_from w a n ≡ []
none_from w a zero none = refl
none_from w a (suc n) none = ap (λ x. x ++ lanes_from w (a + 1) n) (none a (omega arith)) ∙ none_from w (a + 1) n (λ m le. none m (omega arith))

none_at : (w : World) (a n k : ℕ) → lanes_from w a n ≡ [] → k < n → lanes_of w (a + k) ≡ []
none_at w a zero k e lt = absurd (omega arith)
none_at w a (suc n) zero e lt = (let same : a + 0 ≡ a = omega arith in rw same (append-left (lanes_of w a) (lanes_from w (a + 1) n) e))
none_at w a (suc n) (suc k) e lt =
    let same : a + 1 + k ≡ a + suc k = omega arith in
    subst (λ x. lanes_of w x ≡ []) same (none_at w (a + 1) n k (append-right (lanes_of w a) (lanes_from w (a + 1) n) e) (omega arith))

-- an index that adds no lane is past all, so the lanes below it are all
lanes_all : (w : World) (i : ℕ) → lanes_from w (i * 4) 4 ≡ [] → lanes_from w 0 (i * 4) ≡ all_lanes w
lanes_all w i none =
    let bound = bound_within w i (λ k lt. past_if_none w (i * 4 + k) (none_at w (i * 4) 4 k none lt)) in
    let split : i * 4 ≡ stream_bound w + (i * 4 - stream_bound w) = omega (arith, bound) in
    let from : 0 + stream_bound w ≡ stream_bound w = omega arith in
    let rest : lanes_from w (0 + stream_bound w) (i * 4 - stream_bound w) ≡ [] = none_from w (0 + stream_bound w) (i * 4 - stream_bound w) (λ m le. none_if_past w m (past_bound w m (omega arith))) in
    ap (lanes_from w 0) split ∙ lanes-append w 0 (stream_bound w) (i * 4 - stream_bound w) ∙ ap (λ x. lanes_from w 0 (stream_bound w) ++ x) rest ∙ append-nil (lanes_from w 0 (stream_bound w))

none_added : {X : Type 0} (xs added : List X) → length (xs ++ added) ≡ length xs → added ≡ []
none_added xs [] e = refl
none_added xs (y ∷ ys) e = absurd (omega (arith, e, length-append xs (y ∷ ys)))

-- the list stayed as long as it was
pub lanes_end : (w : World) (lanes new : List LaneTotals) (i : ℕ) → lanes ≡ lanes_from w 0 (i * 4) → new ≡ lanes ++ lanes_from w (i * 4) 4 → length new ≡ length lanes → new ≡ all_lanes w
lanes_end w lanes new i h e same =
    let none : lanes_from w (i * 4) 4 ≡ [] = none_added lanes (lanes_from w (i * 4) 4) (ap length (sym e) ∙ same) in
    e ∙ ap (λ x. lanes ++ x) none ∙ append-nil lanes ∙ h ∙ lanes_all w i none
