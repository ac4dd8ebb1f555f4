-- Where a score stays the same, so does each thing that it counts.
use Rattle.std.proofs.Common.{◌≡◌, ℕ, zero, suc, ◌+◌, ◌*◌, ◌/◌, ◌%◌, ◌<◌, ◌≤◌, Bool, true, false, slice_get, sum_by, Option, Some, is_some, refl, sym, ap, ◌∙◌, subst, arith, inl, inr}
use Rattle.std.specs.List.{range_with_len}
use Rattle.std.specs.FinSet as set
use Rattle.std.specs.Cmp.{nat_cmp_total, unsigned_tied}
use Rattle.std.proofs.lemmas.Bool.{cases_lt, or_cases, eqb-true}
use Rattle.std.proofs.lemmas.Bool.Decides.{nat_tests}
use Rattle.std.proofs.lemmas.List.Sums.{sum_by-cons}
use Rattle.std.proofs.lemmas.Option.{same_Some, slice_get_within}
use Rattle.qs_ranges.specs.Numbers.{NumberSet}
use Rattle.qs_ranges.proofs.Sets.{len_le_of_members}
use Rattle.qs_wire.specs.declared.stream_id.Dir.{Dir}
use Rattle.qs_wire.specs.declared.stream_id.Dir.TheVariants.{Bidi, Uni}
use Rattle.qs_recv.specs.Lane.{RecvLane}
use Rattle.qs_send.specs.Lane.{SendLane}
use Rattle.qs_send.specs.declared.piece.Item.TheVariants.{MaxData, MaxStreamData, MaxStreams, StopSending, DataBlocked, StreamDataBlocked, StreamsBlocked}
use Rattle.qs_machine.specs.Tables.{Tables, table, lookup, total}
use Rattle.qs_machine.specs.Ends.{End, is_own, first_send_limit, first_window}
use Rattle.qs_machine.specs.Credit.{granted_streams, first_grant}
use Rattle.qs_machine.specs.Due.{known_count}
use Rattle.qs_progress.specs.Score.{one_if, is_done, told_from, sent_marks, got_marks, marks_of, stream_marks, first_count, count_marks, credit_marks, halves, type_marks, score}
use Rattle.qs_progress.proofs.Sums.{sum_grows, one_grows, marks_grow}
use Rattle.qs_progress.proofs.Halves.{is_broken, SentGrows, GotGrows}
use Rattle.qs_progress.proofs.Bound.{sum_ones}
use Rattle.qs_progress.proofs.Score.{Goes, item_grows, sent_grows, got_grows, stream_grows, halves_grow, type_grows, count_grows, credit_grows, first_same, window_same, own_same}

-- Sums and sets

sum_even : (f g : ℕ → ℕ) (lo k m : ℕ) → k ≤ m → ((i : ℕ) → f i ≤ g i) → sum_by g (range_with_len lo m) ≤ sum_by f (range_with_len lo k) → (i : ℕ) → lo ≤ i → i < lo + m → g i ≤ f i
sum_even f g lo k zero le each even i low high = absurd (omega (arith, low, high))
sum_even f g lo zero (suc m) le each even i low high =
    let all : g lo + sum_by g (range_with_len (lo + 1) m) ≤ 0 = rw (sum_by-cons g lo (range_with_len (lo + 1) m)) at even in
    elim (cases_lt lo i) [
      | inl lt ↦ sum_even f g (lo + 1) 0 m (omega arith) each (omega (arith, all)) i (omega (arith, lt)) (omega (arith, high))
      | inr ge ↦ (let same : i ≡ lo = omega (arith, ge, low) in rw same (omega (arith, all)))
    ]
sum_even f g lo (suc k) (suc m) le each even i low high =
    let all : g lo + sum_by g (range_with_len (lo + 1) m) ≤ f lo + sum_by f (range_with_len (lo + 1) k) = rw (sum_by-cons g lo (range_with_len (lo + 1) m), sum_by-cons f lo (range_with_len (lo + 1) k)) at even in
    let here = each lo in
    let rest = sum_grows f g (lo + 1) k m (omega (arith, le)) each in
    elim (cases_lt lo i) [
      | inl lt ↦ sum_even f g (lo + 1) k m (omega (arith, le)) each (omega (arith, all, here)) i (omega (arith, lt)) (omega (arith, high))
      | inr ge ↦ (let same : i ≡ lo = omega (arith, ge, low) in rw same (omega (arith, all, rest)))
    ]

-- a set within another one of no more members has them all
pub members_even : (s t : NumberSet) → ((q : ℕ) → set.contains s q ≡ true → set.contains t q ≡ true) → set.len t ≤ set.len s → (q : ℕ) → set.contains t q ≡ true → set.contains s q ≡ true
members_even s t within few q there = go (set.contains s q) refl
  where
    go : (b : Bool) → set.contains s q ≡ b → set.contains s q ≡ true
    go true is = is
    go false is =
        let more : set.len (set.insert s q) ≡ set.len s + 1 = rw (set.len-insert nat_cmp_total s q, is) refl in
        let all = len_le_of_members (set.insert s q) t (λ k has. elim (or_cases _ _ (sym (set.contains-insert nat_cmp_total s q k) ∙ has)) [
          | inl tied ↦ (let same : k ≡ q = eqb-true k q (sym (unsigned_tied k q) ∙ tied) in ap (set.contains t) same ∙ there)
          | inr was ↦ within k was
        ]) in
        absurd (omega (arith, more, all, few))

pub one_even : (b c : Bool) → one_if c ≤ one_if b → c ≡ true → b ≡ true
one_even b c even is = grind (arith, nat_tests)

-- a stream that has a half is counted
counted : {X : Type 0} (t : Tables X) (n : ℕ) (x : X) → lookup t n ≡ Some x → n / 4 < total (λ (y : X). 1) t
unfolding lookup total
counted {X} t n x is = by (n % 4) is
  where
    by : (k : ℕ) → slice_get (table t k) (n / 4) ≡ Some x → n / 4 < total (λ (y : X). 1) t
    by k at = grind (arith, nat_tests, slice_get_within, sum_ones)

-- Two ends with the same score, of which the second did and knows no less

module _ (a b : End) (g : Goes a b) (even : score b ≤ score a) where
  each_type : (k : ℕ) → k < 4 → type_marks b k ≤ type_marks a k
  each_type k lt =
      let t0 = type_grows a b g 0 in
      let t1 = type_grows a b g 1 in
      let t2 = type_grows a b g 2 in
      let t3 = type_grows a b g 3 in
      let bidi = count_grows a b g Bidi in
      let uni = count_grows a b g Uni in
      let credit = credit_grows a b g in
      by k lt (omega (arith, even, t1, t2, t3, bidi, uni, credit)) (omega (arith, even, t0, t2, t3, bidi, uni, credit)) (omega (arith, even, t0, t1, t3, bidi, uni, credit)) (omega (arith, even, t0, t1, t2, bidi, uni, credit))
    where
      by : (k : ℕ) → k < 4 → type_marks b 0 ≤ type_marks a 0 → type_marks b 1 ≤ type_marks a 1 → type_marks b 2 ≤ type_marks a 2 → type_marks b 3 ≤ type_marks a 3 → type_marks b k ≤ type_marks a k
      by k lt none first second third = grind (arith, nat_tests)

  pub stream_even : (n : ℕ) → stream_marks b n ≤ stream_marks a n
  stream_even n =
      elim (cases_lt (n / 4) (halves b)) [
        | inl lt ↦ (
            let at : n / 4 * 4 + n % 4 ≡ n = omega arith in
            let here = sum_even (λ i. stream_marks a (i * 4 + n % 4)) (λ i. stream_marks b (i * 4 + n % 4)) 0 (halves a) (halves b) (halves_grow a b g) (λ i. stream_grows a b g (i * 4 + n % 4)) (each_type (n % 4) (omega arith)) (n / 4) (omega arith) (omega (arith, lt)) in
            subst (λ k. stream_marks b k ≤ stream_marks a k) at here)
        | inr ge ↦ (
            let sent : marks_of (sent_marks b n) (lookup b.sends n) ≡ 0 = none (sent_marks b n) b.sends (λ l is. let lt = counted b.sends n l is in omega (arith, lt, ge)) in
            let got : marks_of (got_marks b n) (lookup b.recvs n) ≡ 0 = none (got_marks b n) b.recvs (λ l is. let lt = counted b.recvs n l is in omega (arith, lt, ge)) in
            omega (arith, sent, got))
      ]
    where
      none : {X : Type 0} (marks : X → ℕ) (t : Tables X) → ((x : X) → lookup t n ≡ Some x → ⊥) → marks_of marks (lookup t n) ≡ 0
      none {X} marks t empty = go (lookup t n) refl
        where
          go : (o : Option X) → lookup t n ≡ o → marks_of marks o ≡ 0
          go o is = grind (arith, nat_tests)

  -- of the halves of a stream
  sends_even : (n : ℕ) → marks_of (sent_marks b n) (lookup b.sends n) ≤ marks_of (sent_marks a n) (lookup a.sends n)
  sends_even n =
      let got = marks_grow GotGrows (got_marks a n) (got_marks b n) a.recvs b.recvs g.recvs (got_grows a b g n) n in
      let all = stream_even n in
      omega (arith, got, all)

  recvs_even : (n : ℕ) → marks_of (got_marks b n) (lookup b.recvs n) ≤ marks_of (got_marks a n) (lookup a.recvs n)
  recvs_even n =
      let sent = marks_grow SentGrows (sent_marks a n) (sent_marks b n) a.sends b.sends g.sends (sent_grows a b g n) n in
      let all = stream_even n in
      omega (arith, sent, all)

  -- a stream of the peer that is open was so
  pub open_even : (n : ℕ) → is_own b n ≡ false → is_some (lookup b.recvs n) ≡ true → is_some (lookup a.recvs n) ≡ true
  open_even n peers open_now = go (lookup a.recvs n) (lookup b.recvs n) open_now (recvs_even n)
    where
      go : (o p : Option RecvLane) → is_some p ≡ true → marks_of (got_marks b n) p ≤ marks_of (got_marks a n) o → is_some o ≡ true
      go o p some few = grind (arith, nat_tests)

  module _ (n : ℕ) (l m : SendLane) (at : lookup a.sends n ≡ Some l) (there : lookup b.sends n ≡ Some m) where
    sent_all : sent_marks b n m ≤ sent_marks a n l
    sent_all = rw (at, there) at (sends_even n)

    kept : SentGrows l m
    kept = let (k, is, r) = g.sends n l at in subst (SentGrows l) (same_Some k m (sym is ∙ there)) r

    sent_told : told_from (first_send_limit a n) l.limit (is_done a.acked (StreamDataBlocked n l.limit)) ≤ told_from (first_send_limit b n) m.limit (is_done b.acked (StreamDataBlocked n m.limit))
    sent_told = item_grows a.acked b.acked (StreamDataBlocked n) (first_send_limit a n) (first_send_limit b n) l.limit m.limit g.items (first_same a b g n) kept.4

    pub acked_even : set.len m.acked ≤ set.len l.acked
    acked_even = omega (arith, sent_all, one_grows l.fin_acked m.fin_acked kept.1, one_grows l.reset_acked m.reset_acked kept.2, one_grows (is_broken l) (is_broken m) kept.3, kept.4, first_same a b g n, sent_told)

    pub fin_even : m.fin_acked ≡ true → l.fin_acked ≡ true
    fin_even = one_even l.fin_acked m.fin_acked (omega (arith, sent_all, kept.0, one_grows l.reset_acked m.reset_acked kept.2, one_grows (is_broken l) (is_broken m) kept.3, kept.4, first_same a b g n, sent_told))

    pub reset_even : m.reset_acked ≡ true → l.reset_acked ≡ true
    reset_even = one_even l.reset_acked m.reset_acked (omega (arith, sent_all, kept.0, one_grows l.fin_acked m.fin_acked kept.1, one_grows (is_broken l) (is_broken m) kept.3, kept.4, first_same a b g n, sent_told))

    pub broken_even : is_broken m ≡ true → is_broken l ≡ true
    broken_even = one_even (is_broken l) (is_broken m) (omega (arith, sent_all, kept.0, one_grows l.fin_acked m.fin_acked kept.1, one_grows l.reset_acked m.reset_acked kept.2, kept.4, first_same a b g n, sent_told))

    pub limit_even : first_send_limit a n ≤ l.limit → m.limit ≤ l.limit
    limit_even low = omega (arith, low, sent_all, kept.0, one_grows l.fin_acked m.fin_acked kept.1, one_grows l.reset_acked m.reset_acked kept.2, one_grows (is_broken l) (is_broken m) kept.3, first_same a b g n, sent_told)

    pub sent_told_even : told_from (first_send_limit b n) m.limit (is_done b.acked (StreamDataBlocked n m.limit)) ≤ told_from (first_send_limit a n) l.limit (is_done a.acked (StreamDataBlocked n l.limit))
    sent_told_even = omega (arith, sent_all, kept.0, one_grows l.fin_acked m.fin_acked kept.1, one_grows l.reset_acked m.reset_acked kept.2, one_grows (is_broken l) (is_broken m) kept.3, kept.4, first_same a b g n)

  module _ (n : ℕ) (l m : RecvLane) (at : lookup a.recvs n ≡ Some l) (there : lookup b.recvs n ≡ Some m) where
    got_all : got_marks b n m ≤ got_marks a n l
    got_all = rw (at, there) at (recvs_even n)

    got_kept : GotGrows l m
    got_kept = let (k, is, r) = g.recvs n l at in subst (GotGrows l) (same_Some k m (sym is ∙ there)) r

    got_told : told_from (first_window a n + 1) l.limit (is_done a.acked (MaxStreamData n l.limit)) ≤ told_from (first_window b n + 1) m.limit (is_done b.acked (MaxStreamData n m.limit))
    got_told = item_grows a.acked b.acked (MaxStreamData n) (first_window a n + 1) (first_window b n + 1) l.limit m.limit g.items (window_same a b g n) got_kept.5

    size_one : one_if (is_some l.final_size) ≤ one_if (is_some m.final_size)
    size_one = one_grows (is_some l.final_size) (is_some m.final_size) got_kept.2

    code_one : one_if (is_some l.reset_code) ≤ one_if (is_some m.reset_code)
    code_one = one_grows (is_some l.reset_code) (is_some m.reset_code) got_kept.3

    told_one : one_if l.reader_done ≤ one_if m.reader_done
    told_one = one_grows l.reader_done m.reader_done got_kept.4

    stop_one : one_if (is_done a.acked (StopSending n 0)) ≤ one_if (is_done b.acked (StopSending n 0))
    stop_one = one_grows (is_done a.acked (StopSending n 0)) (is_done b.acked (StopSending n 0)) (g.items (StopSending n 0))

    pub received_even : set.len m.arrived.received ≤ set.len l.arrived.received
    received_even = omega (arith, got_all, own_same a b g n, got_kept.1, size_one, code_one, told_one, stop_one, got_told)

    pub read_even : m.arrived.read_count ≤ l.arrived.read_count
    read_even = omega (arith, got_all, own_same a b g n, got_kept.0, size_one, code_one, told_one, stop_one, got_told)

    pub size_even : is_some m.final_size ≡ true → is_some l.final_size ≡ true
    size_even = one_even (is_some l.final_size) (is_some m.final_size) (omega (arith, got_all, own_same a b g n, got_kept.0, got_kept.1, code_one, told_one, stop_one, got_told))

    pub code_even : is_some m.reset_code ≡ true → is_some l.reset_code ≡ true
    code_even = one_even (is_some l.reset_code) (is_some m.reset_code) (omega (arith, got_all, own_same a b g n, got_kept.0, got_kept.1, size_one, told_one, stop_one, got_told))

    pub told_even_of : m.reader_done ≡ true → l.reader_done ≡ true
    told_even_of = one_even l.reader_done m.reader_done (omega (arith, got_all, own_same a b g n, got_kept.0, got_kept.1, size_one, code_one, stop_one, got_told))

    pub stop_even : is_done b.acked (StopSending n 0) ≡ true → is_done a.acked (StopSending n 0) ≡ true
    stop_even = one_even (is_done a.acked (StopSending n 0)) (is_done b.acked (StopSending n 0)) (omega (arith, got_all, own_same a b g n, got_kept.0, got_kept.1, size_one, code_one, told_one, got_told))

    pub got_told_even : told_from (first_window b n + 1) m.limit (is_done b.acked (MaxStreamData n m.limit)) ≤ told_from (first_window a n + 1) l.limit (is_done a.acked (MaxStreamData n l.limit))
    got_told_even = omega (arith, got_all, own_same a b g n, got_kept.0, got_kept.1, size_one, code_one, told_one, stop_one)

  -- of the connection

  count_even : (d : Dir) → count_marks b d ≤ count_marks a d
  count_even d = by d (omega (arith, even, type_grows a b g 0, type_grows a b g 1, type_grows a b g 2, type_grows a b g 3, count_grows a b g Uni, credit_grows a b g)) (omega (arith, even, type_grows a b g 0, type_grows a b g 1, type_grows a b g 2, type_grows a b g 3, count_grows a b g Bidi, credit_grows a b g))
    where
      by : (d : Dir) → count_marks b Bidi ≤ count_marks a Bidi → count_marks b Uni ≤ count_marks a Uni → count_marks b d ≤ count_marks a d
      by Bidi bidi uni = bidi
      by Uni bidi uni = uni

  credit_even : credit_marks b ≤ credit_marks a
  credit_even = omega (arith, even, type_grows a b g 0, type_grows a b g 1, type_grows a b g 2, type_grows a b g 3, count_grows a b g Bidi, count_grows a b g Uni)

  grant_same : (d : Dir) → first_grant b.settings d + 1 ≡ first_grant a.settings d + 1
  grant_same d = λ i. first_grant (g.settings i) d + 1

  peer_count : (d : Dir) → first_count b.peer d ≡ first_count a.peer d
  peer_count d = λ i. first_count (g.peer i) d

  granted_told : (d : Dir) → told_from (first_grant a.settings d + 1) (granted_streams a d) (is_done a.acked (MaxStreams d (granted_streams a d))) ≤ told_from (first_grant b.settings d + 1) (granted_streams b d) (is_done b.acked (MaxStreams d (granted_streams b d)))
  granted_told d = item_grows a.acked b.acked (MaxStreams d) (first_grant a.settings d + 1) (first_grant b.settings d + 1) (granted_streams a d) (granted_streams b d) g.items (grant_same d) (g.counts d)

  blocked_told : (d : Dir) → told_from (first_count a.peer d) (known_count a d) (is_done a.acked (StreamsBlocked d (known_count a d))) ≤ told_from (first_count b.peer d) (known_count b d) (is_done b.acked (StreamsBlocked d (known_count b d)))
  blocked_told d = item_grows a.acked b.acked (StreamsBlocked d) (first_count a.peer d) (first_count b.peer d) (known_count a d) (known_count b d) g.items (peer_count d) (g.known_counts d)

  pub known_count_even : (d : Dir) → first_count a.peer d ≤ known_count a d → known_count b d ≤ known_count a d
  known_count_even d low = omega (arith, low, count_even d, granted_told d, blocked_told d, peer_count d)

  pub granted_told_even : (d : Dir) → told_from (first_grant b.settings d + 1) (granted_streams b d) (is_done b.acked (MaxStreams d (granted_streams b d))) ≤ told_from (first_grant a.settings d + 1) (granted_streams a d) (is_done a.acked (MaxStreams d (granted_streams a d)))
  granted_told_even d = omega (arith, count_even d, blocked_told d, peer_count d, g.known_counts d)

  pub blocked_told_even : (d : Dir) → told_from (first_count b.peer d) (known_count b d) (is_done b.acked (StreamsBlocked d (known_count b d))) ≤ told_from (first_count a.peer d) (known_count a d) (is_done a.acked (StreamsBlocked d (known_count a d)))
  blocked_told_even d = omega (arith, count_even d, granted_told d, peer_count d, g.known_counts d)

  conn_same : b.settings.conn_window + 1 ≡ a.settings.conn_window + 1
  conn_same = λ i. (g.settings i).conn_window + 1

  peer_data : b.peer.max_data ≡ a.peer.max_data
  peer_data = λ i. (g.peer i).max_data

  data_told : told_from (a.settings.conn_window + 1) a.granted (is_done a.acked (MaxData a.granted)) ≤ told_from (b.settings.conn_window + 1) b.granted (is_done b.acked (MaxData b.granted))
  data_told = item_grows a.acked b.acked MaxData (a.settings.conn_window + 1) (b.settings.conn_window + 1) a.granted b.granted g.items conn_same g.granted

  data_blocked_told : told_from a.peer.max_data a.known_data (is_done a.acked (DataBlocked a.known_data)) ≤ told_from b.peer.max_data b.known_data (is_done b.acked (DataBlocked b.known_data))
  data_blocked_told = item_grows a.acked b.acked DataBlocked a.peer.max_data b.peer.max_data a.known_data b.known_data g.items peer_data g.known

  pub known_even : a.peer.max_data ≤ a.known_data → b.known_data ≤ a.known_data
  known_even low = omega (arith, low, credit_even, data_told, data_blocked_told, peer_data)

  pub data_told_even : told_from (b.settings.conn_window + 1) b.granted (is_done b.acked (MaxData b.granted)) ≤ told_from (a.settings.conn_window + 1) a.granted (is_done a.acked (MaxData a.granted))
  data_told_even = omega (arith, credit_even, data_blocked_told, peer_data, g.known)

  pub data_blocked_even : told_from b.peer.max_data b.known_data (is_done b.acked (DataBlocked b.known_data)) ≤ told_from a.peer.max_data a.known_data (is_done a.acked (DataBlocked a.known_data))
  data_blocked_even = omega (arith, credit_even, data_told, peer_data, g.known)
