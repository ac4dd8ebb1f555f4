-- What two ends did and know for good is bounded, by the bytes that were written, the streams that were opened, and what was granted beyond.
use Rattle.std.proofs.Common.{◌≡◌, ℕ, zero, suc, ◌+◌, ◌*◌, ◌-◌, ◌%◌, ◌<◌, ◌≤◌, Bool, true, false, not, ◌||◌, List, [], ◌∷◌, length, slice_get, sum_by, Option, Some, None, is_some, refl, sym, ap, ◌∙◌, subst, arith, inl, inr, nat_cmp, if◌then◌else◌}
use Rattle.std.specs.Prelude.{unwrap_or, ◌==◌}
use Rattle.std.specs.List.{range_with_len}
use Rattle.std.specs.FinSet as set
use Rattle.std.specs.Cmp.{nat_cmp_total, unsigned_tied}
use Rattle.std.proofs.lemmas.Bool.{true≢false, cond_both}
use Rattle.std.proofs.lemmas.Bool.Decides.{nat_tests}
use Rattle.std.proofs.lemmas.Option.{same_Some}
use Rattle.std.proofs.lemmas.List.Sums.{sum_by-cons}
use Rattle.qs_ranges.specs.Numbers.{NumberSet, numbers, is_within, contains-numbers, end_of as end_of_set}
use Rattle.qs_ranges.proofs.Sets.{end_of-last, len_le_of_members}
use Rattle.qs_wire.specs.declared.stream_id.Role.TheVariants.{Client, Server}
use Rattle.qs_wire.specs.declared.stream_id.Dir.{Dir}
use Rattle.qs_wire.specs.declared.stream_id.Dir.TheVariants.{Bidi, Uni}
use Rattle.qs_recv.specs.Lane.{RecvLane, highest, taken}
use Rattle.qs_recv.specs.Lawful.{IsLawful}
use Rattle.qs_send.specs.Lane.{SendLane}
use Rattle.qs_send.specs.declared.piece.Piece.{Piece}
use Rattle.qs_send.specs.declared.piece.Piece.TheVariants.{Data, Told}
use Rattle.qs_send.specs.declared.piece.Item.TheVariants.{MaxData, MaxStreamData, MaxStreams, ResetStream, StopSending, DataBlocked, StreamDataBlocked, StreamsBlocked}
use Rattle.qs_calls.specs.declared.settings.Settings.{Settings}
use Rattle.qs_calls.specs.declared.event.Side.{Side}
use Rattle.qs_calls.specs.declared.event.Side.TheVariants.{A, B}
use Rattle.qs_machine.specs.Tables.{Tables, table, lookup, total}
use Rattle.qs_machine.specs.Ends.{End, AckedItems, is_uni, is_own, role_bit, peer_type, first_send_limit, first_window}
use Rattle.qs_machine.specs.Credit.{granted_streams, first_grant, all_taken}
use Rattle.qs_machine.specs.Due.{known_count}
use Rattle.qs_machine.specs.Seen.{Control}
use Rattle.qs_machine.specs.Standing.{HasLawfulLane}
use Rattle.qs_machine.specs.Repeats.{SentWasWritten, IsWritten}
use Rattle.qs_machine.proofs.TableLaws.{value, total_le}
use Rattle.qs_runs.specs.Logs.{History, other}
use Rattle.qs_runs.specs.Pasts.{past, Tells}
use Rattle.qs_runs.specs.Worlds.{World, end_of, Run}
use Rattle.qs_runs.specs.Invariant.{WorldOk, SendSlot, SendOk, RecvSlot}
use Rattle.qs_runs.proofs.Changes.{acked_written}
use Rattle.qs_runs.proofs.Clauses.{received_is_below_sent, final_size_is_declared, known_is_within_granted, is_open_at_initiator}
use Rattle.qs_runs.proofs.Runs.{run_keeps, opposite, known_counts}
use Rattle.qs_rest.specs.Resting.{KnowsFirstLimits}
use Rattle.qs_progress.specs.Score.{one_if, is_done, told_from, sent_marks, got_marks, marks_of, stream_marks, first_count, count_marks, credit_marks, halves, type_marks, score}
use Rattle.qs_progress.specs.Bound.{streams_at, most}
use Rattle.qs_progress.proofs.SetBeyond.{length_kept, lookup_at, written_on, beyond_on, peers, lanes_most, lanes_few}
use Rattle.qs_progress.specs.Outstanding.{IsIn}
use Rattle.qs_progress.proofs.Sums.{le_same, sum_grows, told_few}
use Rattle.qs_progress.proofs.Alike.{SendsAlike, slots_same, alike_back}
use Rattle.qs_progress.proofs.Facts.{Offset, Gives, facts_step}
use Rattle.qs_progress.proofs.Ahead.{with_acks, out_of, out_in, ahead, alike_ahead}

-- Sets and lists

one_most : (b : Bool) → one_if b ≤ 1
one_most b = grind (arith, nat_tests)

len_numbers : (n : ℕ) → set.len (numbers 0 n) ≤ n
len_numbers zero =
    let few = len_le_of_members (numbers 0 0) set.empty (λ q is. absurd (true≢false (sym (sym (contains-numbers 0 0 q) ∙ is) ∙ none q))) in
    omega (arith, few, set.len-empty nat_cmp)
  where
    none : (q : ℕ) → is_within 0 0 q ≡ false
    none q = grind (arith, nat_tests)
len_numbers (suc n) =
    let few = len_le_of_members (numbers 0 (suc n)) (set.insert (numbers 0 n) n) (λ q is. more q (sym (contains-numbers 0 (suc n) q) ∙ is)) in
    let one : set.len (set.insert (numbers 0 n) n) ≤ set.len (numbers 0 n) + 1 = rw (set.len-insert nat_cmp_total (numbers 0 n) n) (cond_both (set.contains (numbers 0 n) n) (set.len (numbers 0 n)) (set.len (numbers 0 n) + 1) (λ k. k ≤ set.len (numbers 0 n) + 1) (λ _. omega arith) (λ _. omega arith)) in
    omega (arith, few, one, len_numbers n)
  where
    more : (q : ℕ) → is_within 0 (suc n) q ≡ true → set.contains (set.insert (numbers 0 n) n) q ≡ true
    more q is = contains_insert q ∙ grind (arith, nat_tests, is)
      where
        contains_insert : (q : ℕ) → set.contains (set.insert (numbers 0 n) n) q ≡ ((q == n) || is_within 0 n q)
        contains_insert q = set.contains-insert nat_cmp_total (numbers 0 n) n q ∙ ap (λ b. b || set.contains (numbers 0 n) q) (unsigned_tied q n) ∙ ap (λ b. (q == n) || b) (contains-numbers 0 n q)

-- a set has no more members than the numbers below which they lie
len_below : (s : NumberSet) (n : ℕ) → ((q : ℕ) → set.contains s q ≡ true → q < n) → set.len s ≤ n
len_below s n below =
    let few = len_le_of_members s (numbers 0 n) (λ q is. let lt = below q is in contains-numbers 0 n q ∙ grind (arith, nat_tests)) in
    omega (arith, few, len_numbers n)

end_below : (s : NumberSet) (n : ℕ) → ((q : ℕ) → set.contains s q ≡ true → q < n) → end_of_set s ≤ n
end_below s n below = grind (arith, nat_tests, end_of-last)

sums_few : (t f g o x y : ℕ → ℕ) (lo k : ℕ) → ((i : ℕ) → t i ≤ 6 * f i + 6 * g i + 17 * o i + 3 * x i + 3 * y i)
    → sum_by t (range_with_len lo k) ≤ 6 * sum_by f (range_with_len lo k) + 6 * sum_by g (range_with_len lo k) + 17 * sum_by o (range_with_len lo k) + 3 * sum_by x (range_with_len lo k) + 3 * sum_by y (range_with_len lo k)
sums_few t f g o x y lo zero few = omega arith
sums_few t f g o x y lo (suc k) few =
    rw (sum_by-cons t lo (range_with_len (lo + 1) k), sum_by-cons f lo (range_with_len (lo + 1) k), sum_by-cons g lo (range_with_len (lo + 1) k), sum_by-cons o lo (range_with_len (lo + 1) k), sum_by-cons x lo (range_with_len (lo + 1) k), sum_by-cons y lo (range_with_len (lo + 1) k))
    (omega (arith, few lo, sums_few t f g o x y (lo + 1) k few))

sum_pair : (f g : ℕ → ℕ) (lo k : ℕ) → sum_by (λ i. f i + g i) (range_with_len lo k) ≡ sum_by f (range_with_len lo k) + sum_by g (range_with_len lo k)
sum_pair f g lo zero = refl
sum_pair f g lo (suc k) = rw (sum_by-cons (λ i. f i + g i) lo (range_with_len (lo + 1) k), sum_by-cons f lo (range_with_len (lo + 1) k), sum_by-cons g lo (range_with_len (lo + 1) k)) (omega (arith, sum_pair f g (lo + 1) k))

-- the parts of a list, one for each index
sum_list : {X : Type 0} (F : X → ℕ) (xs : List X) (lo k : ℕ) (g : ℕ → ℕ) → ((i : ℕ) → g (lo + i) ≡ value F (slice_get xs i)) → sum_by g (range_with_len lo k) ≤ sum_by F xs
sum_list F xs lo zero g is = omega arith
sum_list F [] lo (suc k) g is =
    let here : g lo ≡ 0 = (let e : lo ≡ lo + 0 = omega arith in ap g e) ∙ is 0 in
    let rest = sum_list F [] (lo + 1) k g (λ i. (let e : lo + 1 + i ≡ lo + suc i = omega arith in ap g e) ∙ is (suc i)) in
    rw (sum_by-cons g lo (range_with_len (lo + 1) k)) (omega (arith, here, rest))
sum_list F (x ∷ xs) lo (suc k) g is =
    let here : g lo ≡ F x = (let e : lo ≡ lo + 0 = omega arith in ap g e) ∙ is 0 in
    let rest = sum_list F xs (lo + 1) k g (λ i. (let e : lo + 1 + i ≡ lo + suc i = omega arith in ap g e) ∙ is (suc i)) in
    rw (sum_by-cons g lo (range_with_len (lo + 1) k), sum_by-cons F x xs) (omega (arith, here, rest))

sum_all : {X : Type 0} (F : X → ℕ) (xs : List X) (k : ℕ) (g : ℕ → ℕ) → ((i : ℕ) → g i ≡ value F (slice_get xs i)) → sum_by g (range_with_len 0 k) ≤ sum_by F xs
sum_all F xs k g is = sum_list F xs 0 k g (λ i. (let e : 0 + i ≡ i = omega arith in ap g e) ∙ is i)

pub sum_ones : {X : Type 0} (xs : List X) → sum_by (λ (x : X). 1) xs ≡ length xs
sum_ones [] = refl
sum_ones {X} (y ∷ xs) = sum_by-cons (λ (x : X). 1) y xs ∙ omega (arith, sum_ones xs)

-- the stream of a type at an index
kind_of : (k i : ℕ) → k < 4 → (i * 4 + k) % 4 ≡ k
kind_of k i lt = omega arith

window_at : (e : End) (k i : ℕ) → k < 4 → first_window e (i * 4 + k) ≡ first_window e k
window_at e k i lt = grind (arith, nat_tests)

first_of : (u b : Bool) (x y z : ℕ) → (if u then x else (if not b then y else z)) ≡ (if u then x else (if b then z else y))
first_of u b x y z = grind (arith, nat_tests)

-- One direction: side s sends, the other one receives

-- of what an end knows to be acknowledged
pub acked_below : (a b : Settings) (h : History) (w : World) → WorldOk a b h w → (s : Side) (n : ℕ) (l : SendLane) → lookup (end_of w s).sends n ≡ Some l → (q : ℕ) → set.contains l.acked q ≡ true → q < l.written
acked_below a b h w ok s n l is = acked_written (past s h).mine (past s h).theirs (past s h).tokens ((past s h).broken n) ((past s h).bytes n) n (first_send_limit (end_of w s) n) l (subst (SendSlot (past s h) n (first_send_limit (end_of w s) n)) is ((ok.ends s).sends n))

-- What is acknowledged at both ends may be taken to be more than it is, if all of it was written.
pub record Acks (w : World) : Type 0 where
  pub sends : Side → Tables SendLane
  pub items : Side → AckedItems
  pub alike : (s : Side) → SendsAlike (end_of w s).sends (sends s)
  pub written : (s : Side) (n : ℕ) (l : SendLane) → lookup (sends s) n ≡ Some l → (q : ℕ) → set.contains l.acked q ≡ true → q < l.written

module _ (a b : Settings) (h : History) (w : World) (ok : WorldOk a b h w) (told : (s : Side) → KnowsFirstLimits w s) (acks : Acks w) where
  abbrev seen_as : Side → End
  seen_as s = with_acks (acks.sends s) (acks.items s) (end_of w s)

  module _ (s : Side) where
    abbrev here : End
    here = end_of w s

    abbrev there : End
    there = end_of w (other s)

    first_limit : (n : ℕ) → first_send_limit here n ≡ first_window there n
    first_limit n = rw (told s, opposite a b h w ok s n) (first_of (is_uni n) (is_own there n) there.settings.uni there.settings.bidi_remote there.settings.bidi_local)

    -- written, granted beyond the first window, and beyond what was taken
    abbrev bytes : ℕ → ℕ
    bytes n = value (λ (l : SendLane). l.written) (lookup here.sends n)

    abbrev raised : ℕ → ℕ
    raised n = value (λ (r : RecvLane). r.limit - first_window there n) (lookup there.recvs n)

    abbrev given : ℕ → ℕ
    given n = value (λ (r : RecvLane). r.limit - (first_window there n + taken r)) (lookup there.recvs n)

    abbrev sending_one : ℕ → ℕ
    sending_one n = value (λ (l : SendLane). 1) (lookup here.sends n)

    abbrev getting_one : ℕ → ℕ
    getting_one n = value (λ (r : RecvLane). 1) (lookup there.recvs n)

    send_at : (n : ℕ) (l : SendLane) → lookup here.sends n ≡ Some l → SendOk (past s h) n (first_send_limit here n) l
    send_at n l is = subst (SendSlot (past s h) n (first_send_limit here n)) is ((ok.ends s).sends n)

    lawful_at : (n : ℕ) (r : RecvLane) → lookup there.recvs n ≡ Some r → IsLawful r
    lawful_at n r is = (subst (HasLawfulLane there.role there.settings n) is ((ok.sound (other s)).0.lanes n)).0

    -- a limit that is known was granted
    limit_raised : (n : ℕ) (l : SendLane) → lookup here.sends n ≡ Some l → l.limit - first_send_limit here n ≤ raised n
    limit_raised n l is = elim (send_at n l is).limit_told [
      | inl first ↦ omega (arith, first)
      | inr tells ↦ go (lookup there.recvs n) ((ok.ends (other s)).recvs n) tells
    ]
      where
        go : (o : Option RecvLane) → RecvSlot (past (other s) h) n (first_window there n) o → Tells (past (other s) h).mine (Control (MaxStreamData n l.limit)) → l.limit - first_send_limit here n ≤ value (λ (r : RecvLane). r.limit - first_window there n) o
        go None none tells = absurd (none.no_limit l.limit tells)
        go (Some r) half tells = (let le = half.limit_told l.limit tells in omega (arith, le, first_limit n))

    sent_few : (n : ℕ) → marks_of (sent_marks (seen_as s) n) (lookup (acks.sends s) n) ≤ bytes n + 4 * sending_one n + 2 * raised n
    sent_few n = go (lookup (acks.sends s) n) refl
      where
        go : (o : Option SendLane) → lookup (acks.sends s) n ≡ o → marks_of (sent_marks (seen_as s) n) o ≤ bytes n + 4 * sending_one n + 2 * raised n
        go None is = omega arith
        go (Some k) is =
            let (l, at, like) = alike_back here.sends (acks.sends s) (acks.alike s) n k is in
            let all : bytes n ≡ l.written = ap (value (λ (x : SendLane). x.written)) at in
            let one : sending_one n ≡ 1 = ap (value (λ (x : SendLane). 1)) at in
            omega (
              arith,
              len_below k.acked k.written (acks.written s n k is),
              one_most k.fin_acked,
              one_most k.reset_acked,
              one_most (is_some k.stopped || is_some k.was_reset),
              limit_raised n l at,
              told_few (first_send_limit here n) k.limit (is_done (acks.items s) (StreamDataBlocked n k.limit)),
              like.limit,
              like.written,
              all,
              one,
            )

    -- what came was written
    came_below : (n : ℕ) (r : RecvLane) → lookup there.recvs n ≡ Some r → (q : ℕ) → set.contains r.arrived.received q ≡ true → q < bytes n
    came_below n r is q came = grind (arith, nat_tests, received_is_below_sent, value)

    read_below : (n : ℕ) (r : RecvLane) → lookup there.recvs n ≡ Some r → r.arrived.read_count ≤ bytes n
    read_below n r is = go r.arrived.read_count refl
      where
        go : (k : ℕ) → r.arrived.read_count ≡ k → k ≤ bytes n
        go zero e = omega arith
        go (suc k) e = (let lt = came_below n r is k ((lawful_at n r is).read_received k (omega arith) (omega (arith, e))) in omega (arith, lt))

    highest_below : (n : ℕ) (r : RecvLane) → lookup there.recvs n ≡ Some r → highest r ≤ bytes n
    highest_below n r is = go r.final_size refl
      where
        go : (o : Option ℕ) → r.final_size ≡ o → unwrap_or o (end_of_set r.arrived.received) ≤ bytes n
        go None e = end_below r.arrived.received (bytes n) (came_below n r is)
        go (Some size) e =
            let (l, at, declared, sent, more) = final_size_is_declared a b h w ok s n r size is e in
            let same : bytes n ≡ l.written = ap (value (λ (x : SendLane). x.written)) at in
            omega (arith, sent, (send_at n l at).sent_written, same)

    taken_below : (n : ℕ) (r : RecvLane) → lookup there.recvs n ≡ Some r → taken r ≤ bytes n
    taken_below n r is = cond_both (is_some r.reset_code || is_some r.stop_code) (highest r) r.arrived.read_count (λ k. k ≤ bytes n) (λ _. highest_below n r is) (λ _. read_below n r is)

    got_few : (n : ℕ) → marks_of (got_marks (seen_as (other s)) n) (lookup there.recvs n) ≤ 2 * bytes n + 4 * getting_one n + value (λ (r : RecvLane). one_if (not (is_own there n))) (lookup there.recvs n) + raised n
    got_few n = go (lookup there.recvs n) refl
      where
        go : (o : Option RecvLane) → lookup there.recvs n ≡ o
            → marks_of (got_marks (seen_as (other s)) n) o ≤ 2 * bytes n + 4 * value (λ (r : RecvLane). 1) o + value (λ (r : RecvLane). one_if (not (is_own there n))) o + value (λ (r : RecvLane). r.limit - first_window there n) o
        go None is = omega arith
        go (Some r) is =
            omega (
              arith,
              len_below r.arrived.received (bytes n) (came_below n r is),
              read_below n r is,
              one_most (is_some r.final_size),
              one_most (is_some r.reset_code),
              one_most r.reader_done,
              one_most (is_done (acks.items (other s)) (StopSending n 0)),
              told_few (first_window there n + 1) r.limit (is_done (acks.items (other s)) (MaxStreamData n r.limit)),
            )

    raised_few : (n : ℕ) → raised n ≤ bytes n + given n
    raised_few n = go (lookup there.recvs n) refl
      where
        go : (o : Option RecvLane) → lookup there.recvs n ≡ o → value (λ (r : RecvLane). r.limit - first_window there n) o ≤ bytes n + value (λ (r : RecvLane). r.limit - (first_window there n + taken r)) o
        go None is = omega arith
        go (Some r) is = omega (arith, taken_below n r is)

    -- of the connection
    all_taken_few : all_taken there ≤ written_on here
    all_taken_few = total_le taken (λ (l : SendLane). l.written) there.recvs here.sends (λ n. go n (lookup there.recvs n) refl)
      where
        go : (n : ℕ) (o : Option RecvLane) → lookup there.recvs n ≡ o → value taken o ≤ bytes n
        go n None is = omega arith
        go n (Some r) is = taken_below n r is

    -- the part of the marks that this side knows, and the part that the other one was told
    known_credit : (here.known_data - here.peer.max_data) + told_from here.peer.max_data here.known_data (is_done (acks.items s) (DataBlocked here.known_data)) ≤ 2 * (there.granted - there.settings.conn_window) + 1
    known_credit = grind (arith, nat_tests, known_is_within_granted, told_few)

    known_within : (d : Dir) → known_count here d ≤ granted_streams there d
    known_within d = grind (arith, nat_tests, known_counts)

    first_count_is : (d : Dir) → first_count here.peer d ≡ first_grant there.settings d
    first_count_is d = grind (arith, nat_tests)

    known_streams : (d : Dir) → (known_count here d - first_count here.peer d) + told_from (first_count here.peer d) (known_count here d) (is_done (acks.items s) (StreamsBlocked d (known_count here d))) ≤ 2 * (granted_streams there d - first_grant there.settings d) + 1
    known_streams d = omega (arith, first_count_is d, known_within d, told_few (first_count here.peer d) (known_count here d) (is_done (acks.items s) (StreamsBlocked d (known_count here d))))

  -- Of one stream: what its owner opened bounds which halves are open

  open_few : {X Y : Type 0} (x : Option X) (y : Option Y) → (is_some y ≡ true → is_some x ≡ true) → value (λ (z : Y). 1) y ≤ value (λ (z : X). 1) x
  open_few x y more = grind (arith, nat_tests)

  -- the four halves of a stream that side s opened, where e is that end and f the other one
  abbrev HasFew : End → End → ℕ → Type 0
  HasFew e f n =
      (value (λ (l : SendLane). 1) (lookup f.sends n) ≤ value (λ (l : SendLane). 1) (lookup e.sends n))
      × (value (λ (r : RecvLane). 1) (lookup f.recvs n) ≤ value (λ (l : SendLane). 1) (lookup e.sends n))
      × (value (λ (r : RecvLane). 1) (lookup e.recvs n) ≤ value (λ (l : SendLane). 1) (lookup e.sends n))

  has_few : (s : Side) (n : ℕ) → is_own (end_of w s) n ≡ true → HasFew (end_of w s) (end_of w (other s)) n
  has_few A n own = (
    open_few (lookup w.a.sends n) (lookup w.b.sends n) (λ is. is_open_at_initiator a b h w ok B n (inl is) own),
    open_few (lookup w.a.sends n) (lookup w.b.recvs n) (λ is. is_open_at_initiator a b h w ok B n (inr is) own),
    open_few (lookup w.a.sends n) (lookup w.a.recvs n) (λ is. ((ok.ends A).streams.own_recv n is own).1),
  )
  has_few B n own = (
    open_few (lookup w.b.sends n) (lookup w.a.sends n) (λ is. is_open_at_initiator a b h w ok A n (inl is) own),
    open_few (lookup w.b.sends n) (lookup w.a.recvs n) (λ is. is_open_at_initiator a b h w ok A n (inr is) own),
    open_few (lookup w.b.sends n) (lookup w.b.recvs n) (λ is. ((ok.ends B).streams.own_recv n is own).1),
  )

  -- a stream is one's own or the peer's
  none_own : (e : End) (n : ℕ) → is_own e n ≡ true → value (λ (r : RecvLane). one_if (not (is_own e n))) (lookup e.recvs n) ≡ 0
  none_own e n own = grind (arith, nat_tests)

  one_peer : (e : End) (n : ℕ) → value (λ (r : RecvLane). one_if (not (is_own e n))) (lookup e.recvs n) ≤ value (λ (r : RecvLane). 1) (lookup e.recvs n)
  one_peer e n = grind (arith, nat_tests)

  module _ (n : ℕ) where
    abbrev both_marks : ℕ
    both_marks = stream_marks (seen_as A) n + stream_marks (seen_as B) n

    abbrev FewBy : ℕ → Type 0
    FewBy ones = both_marks ≤ 6 * bytes A n + 6 * bytes B n + 17 * ones + 3 * given A n + 3 * given B n

    stream_few_a : is_own w.a n ≡ true → FewBy (sending_one A n)
    stream_few_a own =
        let few = has_few A n own in
        omega (arith, sent_few A n, sent_few B n, got_few A n, got_few B n, raised_few A n, raised_few B n, few.0, few.1, few.2, none_own w.a n own, one_peer w.b n)

    stream_few_b : is_own w.b n ≡ true → FewBy (sending_one B n)
    stream_few_b own =
        let few = has_few B n own in
        omega (arith, sent_few A n, sent_few B n, got_few A n, got_few B n, raised_few A n, raised_few B n, few.0, few.1, few.2, none_own w.b n own, one_peer w.a n)

  -- Sums over the streams of a type

  abbrev many : ℕ
  many = halves (seen_as A) + halves (seen_as B)

  abbrev over : (ℕ → ℕ) → ℕ → ℕ
  over f kind = sum_by (λ i. f (i * 4 + kind)) (range_with_len 0 many)

  all_bytes : (s : Side) (k : ℕ) → k < 4 → over (bytes s) k ≤ sum_by (λ (l : SendLane). l.written) (table (end_of w s).sends k)
  all_bytes s k lt = sum_all (λ (l : SendLane). l.written) (table (end_of w s).sends k) many (λ i. bytes s (i * 4 + k)) (λ i. ap (value (λ (l : SendLane). l.written)) (lookup_at (end_of w s).sends k i lt))

  all_ones : (s : Side) (k : ℕ) → k < 4 → over (sending_one s) k ≤ length (table (end_of w s).sends k)
  all_ones s k lt =
      let few = sum_all (λ (l : SendLane). 1) (table (end_of w s).sends k) many (λ i. sending_one s (i * 4 + k)) (λ i. ap (value (λ (l : SendLane). 1)) (lookup_at (end_of w s).sends k i lt)) in
      omega (arith, few, sum_ones (table (end_of w s).sends k))

  all_given : (s : Side) (k : ℕ) → k < 4 → over (given s) k ≤ beyond_on (end_of w (other s)) k
  all_given s k lt =
      sum_all (λ (r : RecvLane). r.limit - (first_window (end_of w (other s)) k + taken r)) (table (end_of w (other s)).recvs k) many (λ i. given s (i * 4 + k))
      (λ i j. value (λ (r : RecvLane). r.limit - (window_at (end_of w (other s)) k i lt j + taken r)) (lookup_at (end_of w (other s)).recvs k i lt j))

  -- a longer sum
  longer : (e : End) (kind : ℕ) → halves e ≤ many → type_marks e kind ≤ over (stream_marks e) kind
  longer e kind le = sum_grows (λ i. stream_marks e (i * 4 + kind)) (λ i. stream_marks e (i * 4 + kind)) 0 (halves e) many le (λ i. le_same (stream_marks e (i * 4 + kind)))

  type_few : (k : ℕ) → k < 4 → (ones : ℕ → ℕ) → ((i : ℕ) → FewBy (i * 4 + k) (ones i))
      → type_marks (seen_as A) k + type_marks (seen_as B) k ≤ 6 * sum_by (λ (l : SendLane). l.written) (table w.a.sends k) + 6 * sum_by (λ (l : SendLane). l.written) (table w.b.sends k) + 17 * sum_by ones (range_with_len 0 many) + 3 * beyond_on w.a k + 3 * beyond_on w.b k
  type_few k lt ones few =
      let sums = sums_few (λ i. both_marks (i * 4 + k)) (λ i. bytes A (i * 4 + k)) (λ i. bytes B (i * 4 + k)) ones (λ i. given A (i * 4 + k)) (λ i. given B (i * 4 + k)) 0 many few in
      let pair = sum_pair (λ i. stream_marks (seen_as A) (i * 4 + k)) (λ i. stream_marks (seen_as B) (i * 4 + k)) 0 many in
      omega (arith, sums, pair, longer (seen_as A) k (omega arith), longer (seen_as B) k (omega arith), all_bytes A k lt, all_bytes B k lt, all_given A k lt, all_given B k lt)

  -- A is the client, and B the server
  role_a : w.a.role ≡ Client
  role_a = ap (λ x. x.role) (ok.stand A)

  role_b : w.b.role ≡ Server
  role_b = ap (λ x. x.role) (ok.stand B)

  own_a : (k i : ℕ) → k < 4 → (k % 2 == 0) ≡ true → is_own w.a (i * 4 + k) ≡ true
  own_a k i lt even = (λ j. kind_of k i lt j % 2 == role_bit (role_a j)) ∙ even

  own_b : (k i : ℕ) → k < 4 → (k % 2 == 1) ≡ true → is_own w.b (i * 4 + k) ≡ true
  own_b k i lt odd = (λ j. kind_of k i lt j % 2 == role_bit (role_b j)) ∙ odd

  few_a : (k : ℕ) → k < 4 → (k % 2 == 0) ≡ true
      → type_marks (seen_as A) k + type_marks (seen_as B) k ≤ 6 * sum_by (λ (l : SendLane). l.written) (table w.a.sends k) + 6 * sum_by (λ (l : SendLane). l.written) (table w.b.sends k) + 17 * length (table w.a.sends k) + 3 * beyond_on w.a k + 3 * beyond_on w.b k
  few_a k lt even = omega (arith, type_few k lt (λ i. sending_one A (i * 4 + k)) (λ i. stream_few_a (i * 4 + k) (own_a k i lt even)), all_ones A k lt)

  few_b : (k : ℕ) → k < 4 → (k % 2 == 1) ≡ true
      → type_marks (seen_as A) k + type_marks (seen_as B) k ≤ 6 * sum_by (λ (l : SendLane). l.written) (table w.a.sends k) + 6 * sum_by (λ (l : SendLane). l.written) (table w.b.sends k) + 17 * length (table w.b.sends k) + 3 * beyond_on w.a k + 3 * beyond_on w.b k
  few_b k lt odd = omega (arith, type_few k lt (λ i. sending_one B (i * 4 + k)) (λ i. stream_few_b (i * 4 + k) (own_b k i lt odd)), all_ones B k lt)

  -- Counts of streams: what the peer opened here is open at it

  recvs_few : (s : Side) (k : ℕ) → k < 4 → ((i : ℕ) → is_own (end_of w s) (i * 4 + k) ≡ true) → length (table (end_of w (other s)).recvs k) ≤ length (table (end_of w s).sends k)
  recvs_few s k lt own =
      length_kept (table (end_of w (other s)).recvs k) (table (end_of w s).sends k)
      (λ i is. ap is_some (sym (lookup_at (end_of w s).sends k i lt)) ∙ opened s (i * 4 + k) (own i) (ap is_some (lookup_at (end_of w (other s)).recvs k i lt) ∙ is))
    where
      opened : (s : Side) (n : ℕ) → is_own (end_of w s) n ≡ true → is_some (lookup (end_of w (other s)).recvs n) ≡ true → is_some (lookup (end_of w s).sends n) ≡ true
      opened A n own is = is_open_at_initiator a b h w ok B n (inr is) own
      opened B n own is = is_open_at_initiator a b h w ok A n (inr is) own

  peers_are : (e : End) (d : Dir) (k : ℕ) → peer_type e d ≡ k → peers e d ≡ length (table e.recvs k)
  peers_are e d k is = λ j. length (table e.recvs (is j))

  streams_a : streams_at w.a ≡ length (table w.a.sends 0) + length (table w.a.sends 2)
  streams_a = λ j. length (table w.a.sends (role_bit (role_a j))) + length (table w.a.sends (2 + role_bit (role_a j)))

  streams_b : streams_at w.b ≡ length (table w.b.sends 1) + length (table w.b.sends 3)
  streams_b = λ j. length (table w.b.sends (role_bit (role_b j))) + length (table w.b.sends (2 + role_bit (role_b j)))

  -- how many of the peer's streams are open at an end
  peers_at_b : peers w.b Bidi + peers w.b Uni ≤ streams_at w.a
  peers_at_b =
      omega (
        arith,
        streams_a,
        peers_are w.b Bidi 0 (λ j. 1 - role_bit (role_b j)),
        peers_are w.b Uni 2 (λ j. 3 - role_bit (role_b j)),
        recvs_few A 0 (omega arith) (λ i. own_a 0 i (omega arith) refl),
        recvs_few A 2 (omega arith) (λ i. own_a 2 i (omega arith) refl),
      )

  peers_at_a : peers w.a Bidi + peers w.a Uni ≤ streams_at w.b
  peers_at_a =
      omega (
        arith,
        streams_b,
        peers_are w.a Bidi 1 (λ j. 1 - role_bit (role_a j)),
        peers_are w.a Uni 3 (λ j. 3 - role_bit (role_a j)),
        recvs_few B 1 (omega arith) (λ i. own_b 1 i (omega arith) refl),
        recvs_few B 3 (omega arith) (λ i. own_b 3 i (omega arith) refl),
      )

  -- The parts of the bound

  abbrev lanes_beyond : End → ℕ
  lanes_beyond e = beyond_on e 0 + beyond_on e 1 + beyond_on e 2 + beyond_on e 3

  abbrev all_types : End → ℕ
  all_types e = type_marks e 0 + type_marks e 1 + type_marks e 2 + type_marks e 3

  types_few : all_types (seen_as A) + all_types (seen_as B) ≤ 6 * (written_on w.a + written_on w.b) + 17 * (streams_at w.a + streams_at w.b) + 3 * (lanes_beyond w.a + lanes_beyond w.b)
  unfolding total
  types_few =
      let zeroth = few_a 0 (omega arith) refl in
      let first = few_b 1 (omega arith) refl in
      let second = few_a 2 (omega arith) refl in
      let third = few_b 3 (omega arith) refl in
      omega (arith, zeroth, first, second, third, streams_a, streams_b)

  abbrev told_count : End → Dir → ℕ
  told_count e d = told_from (first_grant e.settings d + 1) (granted_streams e d) (is_done e.acked (MaxStreams d (granted_streams e d)))

  told_counts : (e : End) (d : Dir) → told_count e d ≤ granted_streams e d - first_grant e.settings d
  told_counts e d = (let few = told_few (first_grant e.settings d + 1) (granted_streams e d) (is_done e.acked (MaxStreams d (granted_streams e d))) in omega (arith, few))

  abbrev counts_beyond : End → ℕ
  counts_beyond e = (e.granted_bidi - (e.settings.grant_bidi + peers e Bidi)) + (e.granted_uni - (e.settings.grant_uni + peers e Uni))

  -- what both ends count of a direction, by how many streams more the other end granted than at first
  abbrev known_more : Side → Dir → ℕ
  known_more s d = known_count (end_of w s) d - first_count (end_of w s).peer d

  abbrev blocked_count : Side → Dir → ℕ
  blocked_count s d = told_from (first_count (end_of w s).peer d) (known_count (end_of w s) d) (is_done (acks.items s) (StreamsBlocked d (known_count (end_of w s) d)))

  abbrev given_count : End → Dir → ℕ
  given_count e d = granted_streams e d - (first_grant e.settings d + peers e d)

  grown_count : (g f e : ℕ) → g - f ≤ e + (g - (f + e))
  grown_count g f e = omega arith

  one_few : (t k f g e x : ℕ) → t ≤ g → k + f ≤ 2 * g + 1 → g ≤ e + x → t + k + f ≤ 3 * e + 3 * x + 1
  one_few t k f g e x a b c = omega (arith, a, b, c)

  direction_few : (s : Side) (d : Dir) → told_count (seen_as (other s)) d + known_more s d + blocked_count s d ≤ 3 * peers (end_of w (other s)) d + 3 * given_count (end_of w (other s)) d + 1
  direction_few s d =
      let e : End = end_of w (other s) in
      one_few (told_count (seen_as (other s)) d) (known_more s d) (blocked_count s d) (granted_streams e d - first_grant e.settings d) (peers e d) (given_count e d) (told_here d) (known_streams s d)
      (grown_count (granted_streams e d) (first_grant e.settings d) (peers e d))
    where
      told_here : (d : Dir) → told_count (seen_as (other s)) d ≤ granted_streams (end_of w (other s)) d - first_grant (end_of w (other s)).settings d
      told_here Bidi = told_counts (seen_as (other s)) Bidi
      told_here Uni = told_counts (seen_as (other s)) Uni

  counts_few : count_marks (seen_as A) Bidi + count_marks (seen_as A) Uni + count_marks (seen_as B) Bidi + count_marks (seen_as B) Uni ≤ 3 * (streams_at w.a + streams_at w.b) + 3 * (counts_beyond w.a + counts_beyond w.b) + 4
  counts_few =
      add
      (told_count (seen_as B) Bidi) (known_more A Bidi) (blocked_count A Bidi) (peers w.b Bidi) (given_count w.b Bidi)
      (told_count (seen_as B) Uni) (known_more A Uni) (blocked_count A Uni) (peers w.b Uni) (given_count w.b Uni)
      (told_count (seen_as A) Bidi) (known_more B Bidi) (blocked_count B Bidi) (peers w.a Bidi) (given_count w.a Bidi)
      (told_count (seen_as A) Uni) (known_more B Uni) (blocked_count B Uni) (peers w.a Uni) (given_count w.a Uni)
      (streams_at w.a) (streams_at w.b)
      (direction_few A Bidi) (direction_few A Uni) (direction_few B Bidi) (direction_few B Uni) peers_at_b peers_at_a
    where
      add : (t1 k1 f1 e1 x1 t2 k2 f2 e2 x2 t3 k3 f3 e3 x3 t4 k4 f4 e4 x4 na nb : ℕ) → t1 + k1 + f1 ≤ 3 * e1 + 3 * x1 + 1 → t2 + k2 + f2 ≤ 3 * e2 + 3 * x2 + 1 → t3 + k3 + f3 ≤ 3 * e3 + 3 * x3 + 1 → t4 + k4 + f4 ≤ 3 * e4 + 3 * x4 + 1
          → e1 + e2 ≤ na → e3 + e4 ≤ nb → (t3 + k1 + f1) + (t4 + k2 + f2) + (t1 + k3 + f3) + (t2 + k4 + f4) ≤ 3 * (na + nb) + 3 * ((x3 + x4) + (x1 + x2)) + 4
      add t1 k1 f1 e1 x1 t2 k2 f2 e2 x2 t3 k3 f3 e3 x3 t4 k4 f4 e4 x4 na nb a b c d m n = omega (arith, a, b, c, d, m, n)

  -- and of the connection
  abbrev told_credit : End → ℕ
  told_credit e = told_from (e.settings.conn_window + 1) e.granted (is_done e.acked (MaxData e.granted))

  abbrev known_credit_more : End → ℕ
  known_credit_more e = e.known_data - e.peer.max_data

  abbrev blocked_credit : End → ℕ
  blocked_credit e = told_from e.peer.max_data e.known_data (is_done e.acked (DataBlocked e.known_data))

  abbrev given_credit : End → ℕ
  given_credit e = e.granted - (e.settings.conn_window + all_taken e)

  told_credits : (e : End) → told_credit e ≤ e.granted - e.settings.conn_window
  told_credits e = (let few = told_few (e.settings.conn_window + 1) e.granted (is_done e.acked (MaxData e.granted)) in omega (arith, few))

  credit_few : (s : Side) → told_credit (seen_as (other s)) + known_credit_more (end_of w s) + blocked_credit (seen_as s) ≤ 3 * all_taken (end_of w (other s)) + 3 * given_credit (end_of w (other s)) + 1
  credit_few s =
      let e : End = end_of w (other s) in
      one_few (told_credit (seen_as (other s))) (known_credit_more (end_of w s)) (blocked_credit (seen_as s)) (e.granted - e.settings.conn_window) (all_taken e) (given_credit e) (told_credits (seen_as (other s))) (known_credit s)
      (grown_count e.granted e.settings.conn_window (all_taken e))

  credits_few : credit_marks (seen_as A) + credit_marks (seen_as B) ≤ 3 * (written_on w.a + written_on w.b) + 3 * (given_credit w.a + given_credit w.b) + 2
  credits_few =
      add
      (told_credit (seen_as B)) (known_credit_more w.a) (blocked_credit (seen_as A)) (all_taken w.b) (given_credit w.b)
      (told_credit (seen_as A)) (known_credit_more w.b) (blocked_credit (seen_as B)) (all_taken w.a) (given_credit w.a)
      (written_on w.a) (written_on w.b)
      (credit_few A) (credit_few B) (all_taken_few A) (all_taken_few B)
    where
      add : (t1 k1 f1 e1 x1 t2 k2 f2 e2 x2 na nb : ℕ) → t1 + k1 + f1 ≤ 3 * e1 + 3 * x1 + 1 → t2 + k2 + f2 ≤ 3 * e2 + 3 * x2 + 1 → e1 ≤ na → e2 ≤ nb → (t2 + k1 + f1) + (t1 + k2 + f2) ≤ 3 * (na + nb) + 3 * (x2 + x1) + 2
      add t1 k1 f1 e1 x1 t2 k2 f2 e2 x2 na nb a b c d = omega (arith, a, b, c, d)

  pub score_few : score (seen_as A) + score (seen_as B) ≤ lanes_most w
  score_few =
      add
      (all_types (seen_as A)) (all_types (seen_as B)) (count_marks (seen_as A) Bidi) (count_marks (seen_as A) Uni) (count_marks (seen_as B) Bidi) (count_marks (seen_as B) Uni) (credit_marks (seen_as A)) (credit_marks (seen_as B))
      (written_on w.a) (written_on w.b) (streams_at w.a) (streams_at w.b)
      (given_credit w.a) (beyond_on w.a 0) (beyond_on w.a 1) (beyond_on w.a 2) (beyond_on w.a 3) (given_count w.a Bidi) (given_count w.a Uni)
      (given_credit w.b) (beyond_on w.b 0) (beyond_on w.b 1) (beyond_on w.b 2) (beyond_on w.b 3) (given_count w.b Bidi) (given_count w.b Uni)
      types_few counts_few credits_few
    where
      add : (ta tb ab au bb bu ca cb wa wb na nb ga l0 l1 l2 l3 pa qa gb m0 m1 m2 m3 pb qb : ℕ)
          → ta + tb ≤ 6 * (wa + wb) + 17 * (na + nb) + 3 * ((l0 + l1 + l2 + l3) + (m0 + m1 + m2 + m3))
          → ab + au + bb + bu ≤ 3 * (na + nb) + 3 * ((pa + qa) + (pb + qb)) + 4
          → ca + cb ≤ 3 * (wa + wb) + 3 * (ga + gb) + 2
          → (ta + ab + au + ca) + (tb + bb + bu + cb) ≤ 9 * (wa + wb) + 20 * (na + nb) + 6 + 3 * ((ga + l0 + l1 + l2 + l3 + pa + qa) + (gb + m0 + m1 + m2 + m3 + pb + qb))
      add ta tb ab au bb bu ca cb wa wb na nb ga l0 l1 l2 l3 pa qa gb m0 m1 m2 m3 pb qb x y z = omega (arith, x, y, z)

pub is_below : (a b : Settings) (h : History) (w : World) → Run a b h w → ((s : Side) → KnowsFirstLimits w s) → score w.a + score w.b ≤ most h w
is_below a b h w run told =
    let ok = run_keeps a b h w run in
    let few = score_few a b h w ok told (record { sends = λ s. (end_of w s).sends; items = λ s. (end_of w s).acked; alike = λ s. slots_same (end_of w s).sends; written = acked_below a b h w ok }) in
    omega (arith, few, lanes_few a b h w run)

-- and so with all that is outstanding
ahead_written : (a b : Settings) (h : History) (w : World) → WorldOk a b h w → (s : Side) (n : ℕ) (k : SendLane) → lookup (ahead (end_of w s)).sends n ≡ Some k → (q : ℕ) → set.contains k.acked q ≡ true → q < k.written
ahead_written a b h w ok s n k at q is =
    let e = end_of w s in
    let (l, was, like) = alike_back e.sends (ahead e).sends (alike_ahead e) n k at in
    let same = like.written in
    elim (facts_step (out_of e) e (Offset n q) (k, at, is)) [
      | inl (m, there, acked) ↦ (
          let lt = acked_below a b h w ok s n m there q acked in
          let one : m.written ≡ l.written = ap (λ (x : SendLane). x.written) (same_Some m l (sym there ∙ was)) in
          omega (arith, lt, one, same))
      | inr (p, among, gives) ↦ (let (j, here) = out_in e p among in let lt = sent_lt e (ok.sent s) p j here gives l was in omega (arith, lt, same))
    ]
  where
    sent_lt : (e : End) → SentWasWritten e → (p : Piece) (j : ℕ) → IsIn e.outstanding j p → Gives p (Offset n q) → (l : SendLane) → lookup e.sends n ≡ Some l → q < l.written
    sent_lt e sent (Data m c) j (ps, there, among) (same, low, high) l was =
        let few : c.offset + c.len ≤ l.written = subst (λ o. IsWritten o c) (ap (lookup e.sends) (sym same) ∙ was) (sent false (Data m c) (j, ps, there, among)) in
        omega (arith, few, high)
    sent_lt e sent (Told (ResetStream m code size)) j here none l was = absurd none
    sent_lt e sent (Told i) j here none l was = absurd none

pub ahead_below : (a b : Settings) (h : History) (w : World) → Run a b h w → ((s : Side) → KnowsFirstLimits w s) → score (ahead w.a) + score (ahead w.b) ≤ most h w
ahead_below a b h w run told =
    let ok = run_keeps a b h w run in
    let few = score_few a b h w ok told (record { sends = λ s. (ahead (end_of w s)).sends; items = λ s. (ahead (end_of w s)).acked; alike = λ s. alike_ahead (end_of w s); written = ahead_written a b h w ok }) in
    omega (arith, few, lanes_few a b h w run)
