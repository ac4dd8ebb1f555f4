-- Limits and counts of streams that don't move: nothing new came, and no half ended.
use Rattle.std.proofs.Common.{◌≡◌, ℕ, zero, suc, ◌+◌, ◌-◌, ◌*◌, ◌<◌, ◌≤◌, Bool, true, false, cond, List, [], ◌∷◌, ◌⊎◌, length, slice_get, option_map, Option, Some, None, is_some, refl, sym, ap, ◌∙◌, subst, arith, inl, inr}
use Rattle.std.specs.Prelude.{⊤, max, zip, is_none}
use Rattle.std.specs.List.{filter}
use Rattle.std.specs.Ordering.{nat_cmp}
use Rattle.std.specs.FinSet as set
use Rattle.std.proofs.lemmas.Bool.{and_from, and_parts, or_cases, or_left, or_right, eq-eqb, true≢false}
use Rattle.std.proofs.lemmas.Bool.Decides.{nat_tests}
use Rattle.std.proofs.lemmas.Option.{none-some, same_Some}
use Rattle.qs_wire.specs.declared.stream_id.Dir.{Dir}
use Rattle.qs_wire.specs.declared.stream_id.Dir.TheVariants.{Bidi, Uni}
use Rattle.qs_recv.specs.Lane.{RecvLane, raise, next_limit, taken, new_lane as new_recv_lane, read_answer}
use Rattle.qs_recv.specs.declared.credit.Share.{Share}
use Rattle.qs_send.specs.Lane.{SendLane, is_whole as send_whole, unacked_from}
use Rattle.qs_send.specs.declared.parts.Reset.{Reset}
use Rattle.qs_send.specs.declared.piece.Item.{Item}
use Rattle.qs_send.specs.declared.piece.Item.TheVariants.{MaxData, MaxStreamData, MaxStreams, StreamsBlocked}
use Rattle.qs_machine.specs.Tables.{Tables, table, lookup, each}
use Rattle.qs_machine.specs.Ends.{End, role_bit, peer_type, first_window, first_window_by}
use Rattle.qs_machine.specs.Credit.{settle, ended, both_ended, recv_ended, send_ended, all_taken, granted_streams, count_after, first_grant}
use Rattle.qs_machine.specs.Due.{IsCurrent, IsDueItem, wanted, known_count}
use Rattle.qs_machine.proofs.Counts.{bidi_few, uni_few, count_more}
use Rattle.qs_machine.proofs.Leaves.{but_streams}
use Rattle.qs_machine.proofs.TableLaws.{value, total_le, lookup_each}
use Rattle.qs_rest.specs.Rest.{TellsNoNews}
use Rattle.qs_rest.proofs.OneStream.{missing_is}
use Rattle.qs_progress.proofs.SetBeyond.{lookup_at}
use Rattle.qs_progress.proofs.From.{Firm, RecvsFrom, Begun}
use Rattle.qs_progress.proofs.Ceased.{CalmStep, IsDone, IsReadOut}

-- How many streams ended: no more, where each that did had done so

few_more : {X : Type 0} (b : Bool) (x : X) (xs : List X) (k : ℕ) → length xs ≤ k → length (cond b (x ∷ xs) xs) ≤ k + 1
few_more b x xs k le = grind arith

few_same : {X : Type 0} (b : Bool) (x : X) (xs : List X) (k : ℕ) → b ≡ false → length xs ≤ k → length (cond b (x ∷ xs) xs) ≤ k
few_same b x xs k is le = grind arith

as_many : {X : Type 0} (b : Bool) (x : X) (xs : List X) → b ≡ true → length (cond b (x ∷ xs) xs) ≡ length xs + 1
as_many b x xs is = grind arith

no_fewer : {X : Type 0} (b : Bool) (x : X) (xs : List X) → length xs ≤ length (cond b (x ∷ xs) xs)
no_fewer b x xs = grind arith

few : {X : Type 0} (p : X → Bool) (xs ys : List X) → ((i : ℕ) (y : X) → slice_get ys i ≡ Some y → p y ≡ true → (x : X) × (slice_get xs i ≡ Some x) × (p x ≡ true)) → length (filter p ys) ≤ length (filter p xs)
few p xs [] back = omega arith
few {X} p [] (y ∷ ys) back = few_same (p y) y (filter p ys) 0 (go (p y) refl) (few p [] ys (λ i z at is. let (x, there, was) = back (suc i) z at is in absurd (none-some x there)))
  where
    go : (b : Bool) → p y ≡ b → p y ≡ false
    go false is = is
    go true is = (let (x, there, was) = back 0 y refl is in absurd (none-some x there))
few {X} p (x ∷ xs) (y ∷ ys) back = go (few p xs ys (λ i z at is. back (suc i) z at is)) (p y) refl
  where
    go : length (filter p ys) ≤ length (filter p xs) → (b : Bool) → p y ≡ b → length (filter p (y ∷ ys)) ≤ length (filter p (x ∷ xs))
    go rest false is = (let one = few_same (p y) y (filter p ys) (length (filter p xs)) is rest in let more = no_fewer (p x) x (filter p xs) in omega (arith, one, more))
    go rest true is =
        let (z, there, was) = back 0 y refl is in
        let now : p x ≡ true = ap p (same_Some x z there) ∙ was in
        let one = few_more (p y) y (filter p ys) (length (filter p xs)) rest in
        let more = as_many (p x) x (filter p xs) now in
        omega (arith, one, more)

-- pairs of two lists
pair_parts : {X Y : Type 0} (xs : List X) (ys : List Y) (i : ℕ) (z : X × Y) → slice_get (zip xs ys) i ≡ Some z → (slice_get xs i ≡ Some z.0) × (slice_get ys i ≡ Some z.1)
pair_parts [] ys i z at = absurd (none-some z at)
pair_parts (x ∷ xs) [] i z at = absurd (none-some z at)
pair_parts (x ∷ xs) (y ∷ ys) zero z at = (let same = same_Some (x, y) z at in (ap (λ (p : _). Some p.0) same, ap (λ (p : _). Some p.1) same))
pair_parts (x ∷ xs) (y ∷ ys) (suc i) z at = pair_parts xs ys i z at

pair_of : {X Y : Type 0} (xs : List X) (ys : List Y) (i : ℕ) (x : X) (y : Y) → slice_get xs i ≡ Some x → slice_get ys i ≡ Some y → slice_get (zip xs ys) i ≡ Some (x, y)
pair_of [] ys i x y at there = absurd (none-some x at)
pair_of (a ∷ xs) [] i x y at there = absurd (none-some y there)
pair_of (a ∷ xs) (b ∷ ys) zero x y at there = (let first = same_Some a x at in let second = same_Some b y there in λ i. Some (first i, second i))
pair_of (a ∷ xs) (b ∷ ys) (suc i) x y at there = pair_of xs ys i x y at there

-- each that ended had done so
abbrev pub HadEnded : {X : Type 0} → (X → Bool) → Tables X → Tables X → Type 0
HadEnded {X} is_ended old new = (n : ℕ) (y : X) → lookup new n ≡ Some y → is_ended y ≡ true → (x : X) × (lookup old n ≡ Some x) × (is_ended x ≡ true)

in_table : {X : Type 0} (p : X → Bool) (t u : Tables X) (k : ℕ) → k < 4 → HadEnded p t u → (i : ℕ) (y : X) → slice_get (table u k) i ≡ Some y → p y ≡ true → (x : X) × (slice_get (table t k) i ≡ Some x) × (p x ≡ true)
in_table p t u k lt had i y at is = (let (x, there, was) = had (i * 4 + k) y (lookup_at u k i lt ∙ at) is in (x, sym (lookup_at t k i lt) ∙ there, was))

module _ (e f : End) (role : f.role ≡ e.role) (recvs : HadEnded recv_ended e.recvs f.recvs) where
  both_few : HadEnded send_ended e.sends f.sends → (k : ℕ) → k < 4 → length (filter both_ended (zip (table f.recvs k) (table f.sends k))) ≤ length (filter both_ended (zip (table e.recvs k) (table e.sends k)))
  both_few sends k lt =
      few both_ended (zip (table e.recvs k) (table e.sends k)) (zip (table f.recvs k) (table f.sends k))
      (λ i z at is.
      let parts = pair_parts (table f.recvs k) (table f.sends k) i z at in
      let (over, gone) = and_parts (recv_ended z.0) (send_ended z.1) is in
      let (x, there, was) = in_table recv_ended e.recvs f.recvs k lt recvs i z.0 parts.0 over in
      let (y, here, did) = in_table send_ended e.sends f.sends k lt sends i z.1 parts.1 gone in
      ((x, y), pair_of (table e.recvs k) (table e.sends k) i x y there here, and_from (recv_ended x) (send_ended y) was did))

  pub ended_few : HadEnded send_ended e.sends f.sends → (d : Dir) → ended f d ≤ ended e d
  ended_few sends Bidi = subst (λ r. length (filter both_ended (zip (table f.recvs (1 - role_bit r)) (table f.sends (1 - role_bit r)))) ≤ ended e Bidi) (sym role) (both_few sends (peer_type e Bidi) (bidi_few e.role))
  ended_few sends Uni =
      subst (λ r. length (filter recv_ended (table f.recvs (3 - role_bit r))) ≤ ended e Uni) (sym role)
      (few recv_ended (table e.recvs (peer_type e Uni)) (table f.recvs (peer_type e Uni)) (in_table recv_ended e.recvs f.recvs (peer_type e Uni) (uni_few e.role) recvs))

-- a half of which all is acknowledged, and that is as it was, ended before if it has now
pub done_ended : (l m : SendLane) → Firm l m → IsDone l → ((q : ℕ) → set.contains l.acked q ≡ true → q < l.written) → (m.reset_acked ≡ true → is_some m.was_reset ≡ true) → send_ended m ≡ true → send_ended l ≡ true
done_ended l m firm done below known over = by l.was_reset refl
  where
    by : (o : Option Reset) → l.was_reset ≡ o → send_ended l ≡ true
    by (Some r) is = or_left _ _ (done.1 (ap is_some is))
    by None is =
        elim (or_cases m.reset_acked _ over) [
          | inl told ↦ absurd (true≢false (sym (known told) ∙ ap is_some (firm.2 ∙ is)))
          | inr rest ↦ (
              let parts = and_parts _ _ rest in
              let more = and_parts _ _ parts.0 in
              let finished : l.finished ≡ true = sym firm.1 ∙ more.1 in
              let (bytes, end) = done.0 is in
              let first : unacked_from l ≡ l.written = missing_is l.acked l.written bytes below in
              let whole : send_whole l ≡ true = and_from _ _ (eq-eqb (unacked_from l) l.written first) (end finished) in
              or_right l.reset_acked _ (and_from _ _ (and_from _ _ (ap is_none is) finished) whole))
        ]

-- Limits

next_low : (l t u w : ℕ) (share : Share) → u ≤ t → next_limit l t w share ≡ l → next_limit l u w share ≡ l
next_low l t u w share le settled = grind (arith, nat_tests)

first_limit : (w : ℕ) (share : Share) → next_limit w 0 w share ≡ w
first_limit w share = grind (arith, nat_tests)

raise_begun : (w : ℕ) (share : Share) → raise (new_recv_lane w share) ≡ new_recv_lane w share
raise_begun w share = λ i. record (new_recv_lane w share) { limit = first_limit w share i }

no_higher : (g a b : ℕ) → a ≤ b → max g b ≡ g → max g a ≡ g
no_higher g a b le is = omega (arith, le, is)

-- an end without its streams, and what it knows, heard and gave out
abbrev pub but_news : End → End
but_news e = record (but_streams e) { done = set.empty; floor = 0; next = 0; accepted_bidi = 0; accepted_uni = 0; closed = None }

-- limits and counts are as they were
pub record Eased (e f : End) : Type 0 where
  pub role : f.role ≡ e.role
  pub settings : f.settings ≡ e.settings
  pub granted : f.granted ≡ e.granted
  pub counts : (d : Dir) → granted_streams f d ≡ granted_streams e d

module _ (e mid : End) (settled : settle e ≡ e) (stands : but_news mid ≡ but_news e) (recvs : RecvsFrom e e.recvs mid.recvs) where
  pub settled_recvs : RecvsFrom e e.recvs (settle mid).recvs
  settled_recvs n y is = go (lookup mid.recvs n) refl
    where
      at_end : lookup (each raise mid.recvs) n ≡ option_map raise (lookup mid.recvs n)
      at_end = lookup_each raise mid.recvs n

      go : (o : Option RecvLane) → lookup mid.recvs n ≡ o → ((l : RecvLane) × (lookup e.recvs n ≡ Some l) × (y ≡ l)) ⊎ Begun e n y
      go None none = absurd (none-some y (sym (at_end ∙ ap (option_map raise) none) ∙ is))
      go (Some m) there =
          let now : y ≡ raise m = sym (same_Some (raise m) y (sym (at_end ∙ ap (option_map raise) there) ∙ is)) in
          elim (recvs n m there) [
            | inr new ↦ inr (now ∙ ap raise new ∙ raise_begun (first_window e n) e.tuning.credit_step)
            | inl old ↦ (
                let (l, at, same) = old in
                let back : raise l ≡ l = same_Some (raise l) l (sym (lookup_each raise e.recvs n ∙ ap (option_map raise) at) ∙ ap (λ (x : End). lookup x.recvs n) settled ∙ at) in
                inl (l, at, now ∙ ap raise same ∙ back))
          ]

  taken_low : all_taken mid ≤ all_taken e
  taken_low = total_le taken taken mid.recvs e.recvs (λ n. go n (lookup mid.recvs n) refl)
    where
      go : (n : ℕ) (o : Option RecvLane) → lookup mid.recvs n ≡ o → value taken o ≤ value taken (lookup e.recvs n)
      go n None is = omega arith
      go n (Some m) is =
          elim (recvs n m is) [
            | inr new ↦ (let none : taken m ≡ 0 = ap taken new in omega (arith, none))
            | inl old ↦ (let (l, at, same) = old in let there : value taken (lookup e.recvs n) ≡ taken l = ap (value taken) at in let one = ap taken same in omega (arith, there, one))
          ]

  pub eased : ((d : Dir) → ended mid d ≤ ended e d) → Eased e (settle mid)
  eased fewer =
      record {
        role = ap (λ (x : End). x.role) stands;
        settings = ap (λ (x : End). x.settings) stands;
        granted = (λ i. next_limit (stands i).granted (all_taken mid) (stands i).present.conn_window (stands i).tuning.credit_step)
            ∙ next_low e.granted (all_taken e) (all_taken mid) e.present.conn_window e.tuning.credit_step taken_low (ap (λ (x : End). x.granted) settled);
        counts = by;
      }
    where
      by : (d : Dir) → granted_streams (settle mid) d ≡ granted_streams e d
      by Bidi =
          (λ i. max (stands i).granted_bidi (count_after (stands i).settings (stands i).tuning Bidi (stands i).present.grant_bidi (ended mid Bidi)))
          ∙ (
          let high = count_more e.settings e.tuning Bidi e.present.grant_bidi (ended mid Bidi) (ended e Bidi) (fewer Bidi) in
          let top : max e.granted_bidi (count_after e.settings e.tuning Bidi e.present.grant_bidi (ended e Bidi)) ≡ e.granted_bidi = ap (λ (x : End). x.granted_bidi) settled in
          no_higher e.granted_bidi _ _ high top)
      by Uni =
          (λ i. max (stands i).granted_uni (count_after (stands i).settings (stands i).tuning Uni (stands i).present.grant_uni (ended mid Uni)))
          ∙ (
          let high = count_more e.settings e.tuning Uni e.present.grant_uni (ended mid Uni) (ended e Uni) (fewer Uni) in
          let top : max e.granted_uni (count_after e.settings e.tuning Uni e.present.grant_uni (ended e Uni)) ≡ e.granted_uni = ap (λ (x : End). x.granted_uni) settled in
          no_higher e.granted_uni _ _ high top)

-- No limit is due, and none is asked for

abbrev pub IsLimit : Item → Type 0
IsLimit (MaxData m) = ⊤
IsLimit (MaxStreamData n m) = ⊤
IsLimit (MaxStreams d m) = ⊤
IsLimit i = ⊥

abbrev pub NoLimits : End → Type 0
NoLimits e = (i : Item) → IsLimit i → IsDueItem e i → ⊥

abbrev pub NoBlocks : End → Type 0
NoBlocks e = (d : Dir) (m : ℕ) → IsDueItem e (StreamsBlocked d m) → ⊥

begun_quiet : (w : ℕ) (share : Share) → TellsNoNews (read_answer (new_recv_lane w share) 1) (new_recv_lane w share)
begun_quiet w share = rw (set.contains-empty nat_cmp 0) tt

pub read_out_stays : (e f : End) → RecvsFrom e e.recvs f.recvs → IsReadOut e → IsReadOut f
read_out_stays e f recvs quiet n r is =
    elim (recvs n r is) [
      | inl old ↦ (let (l, at, same) = old in subst (λ x. TellsNoNews (read_answer x 1) x) (sym same) (quiet n l at))
      | inr new ↦ subst (λ x. TellsNoNews (read_answer x 1) x) (sym new) (begun_quiet (first_window e n) e.tuning.credit_step)
    ]

module _ (e f : End) (x : CalmStep e f) where
  module _ (recvs : RecvsFrom e e.recvs f.recvs) (same : Eased e f) where
    limit_back : (i : Item) → IsLimit i → IsCurrent f i → IsCurrent e i
    limit_back (MaxData m) is (now, more) = (now ∙ same.granted, subst (λ s. s.conn_window < m) same.settings more)
    limit_back (MaxStreamData n m) is (r, at, now, more, unsized) =
        let window : first_window f n ≡ first_window e n = λ i. first_window_by (same.role i) (same.settings i) n in
        elim (recvs n r at) [
          | inl old ↦ (let (l, was, one) = old in (l, was, now ∙ ap (λ (y : RecvLane). y.limit) one, omega (arith, more, window), ap (λ (y : RecvLane). y.final_size) (sym one) ∙ unsized))
          | inr new ↦ (let first = ap (λ (y : RecvLane). y.limit) new in absurd (omega (arith, now, more, window, first)))
        ]
    limit_back (MaxStreams d m) is (now, more) = (now ∙ same.counts d, subst (λ s. first_grant s d < m) same.settings more)
    limit_back i is now = absurd is

    pub limits_stay : NoLimits e → NoLimits f
    limits_stay none i is (now, uncovered) = none i is (limit_back i is now, λ covered. uncovered (x.covered i now covered))

  pub blocks_stay : ((d : Dir) → wanted f d ≡ wanted e d) → ((d : Dir) → known_count f d ≡ known_count e d) → NoBlocks e → NoBlocks f
  blocks_stay wants known none d m ((want, is), uncovered) = none d m ((sym (wants d) ∙ want, is ∙ known d), λ covered. uncovered (x.covered (StreamsBlocked d m) (want, is) covered))
