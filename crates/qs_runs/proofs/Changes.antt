-- One half of an end is changed, and the invariant of the end stays: by reads, writes, and limits that move.
use Rattle.std.proofs.lemmas.Bool.Decides.{nat_tests}
use Rattle.std.proofs.Common.{◌≡◌, ℕ, ◌<◌, ◌≤◌, max, true, arith, Bool, List, [], Option, Some, None, is_some, refl, sym, ap, ◌∙◌, subst, inl, inr, ◌⊎◌, false, option_map, if◌then◌else◌, ◌≢◌, ◌+◌, ◌-◌, ◌++◌, length, nat_cmp, ◌==◌, length-append, append-nil}
use Rattle.std.specs.FinSet as set
use Rattle.qs_ranges.specs.Numbers.{NumberSet, missing_from, end_of}
use Rattle.qs_ranges.proofs.Sets.{missing_from-is, missing_from-le, missing_from-more}
use Rattle.qs_runs.proofs.Members.{end-le, get-front, get-kept}
use Rattle.std.proofs.lemmas.Option.{same_Some, none-some}
use Rattle.std.proofs.lemmas.Bool.{cases_eq, true≢false, eq-eqb, ne_eqb, cond_both}
use Rattle.qs_recv.specs.Lane.{RecvLane, raise, taken, set_window, read_answer, after_answer}
use Rattle.qs_send.specs.Lane.{SendLane, write_lane, unacked_from, refusal}
use Rattle.qs_send.specs.declared.piece.Item.TheVariants.{MaxStreamData, ResetStream}
use Rattle.qs_machine.specs.Tables.{Tables, lookup, update, updated, each}
use Rattle.qs_machine.specs.Ends.{End, first_send_limit, first_window, on_send, on_recv, End as Endpoint, Present}
use Rattle.qs_machine.specs.Seen.{Seen, Stream, Control}
use Rattle.qs_runs.specs.Pasts.{Past, Packets, Tells, TellsEnd, WasConfirmed, TellsByte}
use Rattle.qs_machine.proofs.Pieces.{All_more}
use Rattle.qs_runs.specs.Invariant.{EndOk, EndHas, CreditTrue, SendOk, SendSlot, RecvOk, RecvSlot, FrameTaken, TakenOk, OpenOk, is_open, RecvTrue, SendTrue}
use Rattle.qs_machine.proofs.TableLaws.{lookup_same, lookup_other, slots_updated, total_update, lookup_each, slots_each}
use Rattle.qs_recv.specs.declared.credit.Share.{Share}
use Rattle.qs_machine.specs.Credit.{settle, all_sent, all_taken}
use Rattle.qs_recv.proofs.LawfulLaws.{under_grows}
use Rattle.qs_machine.proofs.Rising.{next_limit_grows}
use Rattle.std.specs.FinMap as fmap
use Rattle.qs_recv.specs.Assembled.{front_of, discard}
use Rattle.qs_recv.specs.declared.half.Read.TheVariants as reads
use Rattle.qs_runs.proofs.Lists.{slice_get-joined, slice_get-append, drop-joined}
use Rattle.qs_send.specs.declared.parts.SendFault.TheVariants as sends

-- The lowest offset of a sending half that isn't acknowledged.

-- each number before the first that is missing is a member
pub before-missing : (s : NumberSet) (q : ℕ) → q < missing_from s 0 → set.contains s q ≡ true
before-missing s q lt = (missing_from-is s 0).all_before q (omega arith) lt

-- it is no higher than a number above all members
pub missing-le : (s : NumberSet) (b : ℕ) → ((q : ℕ) → set.contains s q ≡ true → q < b) → missing_from s 0 ≤ b
missing-le s b all =
    let top : missing_from s 0 ≤ max 0 (end_of s) = missing_from-le s 0 in
    let low : end_of s ≤ b = end-le s b all in
    omega arith

-- with more members it is no lower
pub missing-more : (s t : NumberSet) → ((q : ℕ) → set.contains s q ≡ true → set.contains t q ≡ true) → missing_from s 0 ≤ missing_from t 0
missing-more s t all = missing_from-more s t 0 all

-- The past of the peer grows, a limit moves, an end is asked for, and what no clause speaks of may be anything.
pub send_alike : {mine theirs more : Packets} {tokens told : ℕ → Bool} {broken broke : Bool} {all : List ℕ} {n first limit top buffer widest : ℕ} {finished blocked confirmed : Bool} {stopped : Option ℕ} {l : SendLane} → SendTrue mine theirs tokens broken all n first l →
    (broken ≡ true → broke ≡ true) → (l.finished ≡ true → finished ≡ true) → ((f : Seen) → Tells theirs f → Tells more f) → ((k : ℕ) → WasConfirmed theirs tokens k → WasConfirmed more told k) → l.sent_end ≤ top → (top ≤ limit) ⊎ Tells more (Control (MaxStreamData n top)) →
    SendTrue mine more told broke all n limit (record l { limit = top; buffer = buffer; widest = widest; finished = finished; blocked_sent = blocked; reset_acked = confirmed; stopped = stopped })
send_alike h breaks asked hears confirms below known =
    record {
      count = h.count;
      kept = h.kept;
      sent_written = h.sent_written;
      sent_limit = below;
      end = λ is. (asked (h.end is).0, (h.end is).1);
      reset_size = h.reset_size;
      told = h.told;
      told_reset = h.told_reset;
      acked = λ q is. (let (k, offset, bytes, fin, holds, low, high, ack) = h.acked q is in (k, offset, bytes, fin, holds, low, high, confirms k ack));
      end_acked = λ is. (let (k, offset, bytes, holds, ack) = h.end_acked is in (k, offset, bytes, holds, confirms k ack));
      limit_told = known;
      reset_asked = λ is. elim (h.reset_asked is) [ inl own ↦ inl (breaks own) | inr (code, t) ↦ inr (code, hears _ t) ];
    }

-- what no clause speaks of
pub send_same : {mine theirs : Packets} {tokens : ℕ → Bool} {broken : Bool} {all : List ℕ} {n limit buffer widest : ℕ} {blocked confirmed : Bool} {stopped : Option ℕ} {l : SendLane} → SendTrue mine theirs tokens broken all n limit l →
    SendTrue mine theirs tokens broken all n limit (record l { buffer = buffer; widest = widest; blocked_sent = blocked; reset_acked = confirmed; stopped = stopped })
send_same h = send_alike h (λ own. own) (λ is. is) (λ f t. t) (λ k ack. ack) h.sent_limit h.limit_told

-- A limit rises, an end is given, and what no clause speaks of may be anything.
pub recv_alike : {mine theirs : Packets} {given : List ℕ} {stopped ended was told : Bool} {n w top window widest : ℕ} {share : Share} {l : RecvLane} → RecvTrue mine theirs given stopped ended n w l → l.limit ≤ top →
    (was ≡ true → (size : ℕ) × (l.arrived.read_count ≡ size) × (l.final_size ≡ Some size) × TellsEnd theirs n size) → RecvTrue mine theirs given stopped was n w (record l { arrived = record l.arrived { widest = widest }; reader_done = told; limit = top; window = window; share = share })
recv_alike h rises is_end =
    record {
      received = h.received;
      stored = h.stored;
      count = h.count;
      gave = h.gave;
      final = h.final;
      reset = h.reset;
      not_stopped = h.not_stopped;
      ended = is_end;
      window_granted = omega (arith, rises, h.window_granted);
      limit_told = λ limit t. omega (arith, rises, h.limit_told limit t);
      stop_asked = h.stop_asked;
    }

-- One half of a stream changes, and what that leaves of the invariant.

-- What a receiving half never takes back.
pub record Grows (l m : RecvLane) : Type 0 where
  pub received : (q : ℕ) → set.contains l.arrived.received q ≡ true → set.contains m.arrived.received q ≡ true
  pub final : (size : ℕ) → l.final_size ≡ Some size → m.final_size ≡ Some size
  pub reset : m.reset_code ≡ None → l.reset_code ≡ None

pub Grows_refl : (l : RecvLane) → Grows l l
Grows_refl l = record { received = λ q h. h; final = λ size h. h; reset = λ h. h }

-- AllByRecursion half that is open in t is open in u, and set.contains grown.
abbrev pub AllGrow : Tables RecvLane → Tables RecvLane → Type 0
AllGrow t u = (n : ℕ) (l : RecvLane) → lookup t n ≡ Some l → (m : RecvLane) × (lookup u n ≡ Some m) × Grows l m

pub all_grow_refl : (t : Tables RecvLane) → AllGrow t t
all_grow_refl t n l is = (l, is, Grows_refl l)

pub frame_stays : (t u : Tables RecvLane) → AllGrow t u → (f : Seen) → FrameTaken t f → FrameTaken u f
frame_stays t u grow (Stream n offset bytes fin) (l, is, taken) = (let (m, there, g) = grow n l is in (m, there, (record { offsets = λ none q low high. g.received q (taken.offsets (g.reset none) q low high); end = λ is. g.final _ (taken.end is) })))
frame_stays t u grow (Control (ResetStream n code size)) (l, is, final) = (let (m, there, g) = grow n l is in (m, there, g.final size final))
frame_stays t u grow f h = tt

pub taken_stays : (p : Past) (t u : Tables RecvLane) → AllGrow t u → TakenOk p t → TakenOk p u
taken_stays p t u grow ok = All_more (FrameTaken t) (FrameTaken u) p.taken (frame_stays t u grow) ok

-- a change of a lane opens nothing
pub open_update : {X : Type 0} (t : Tables X) (n : ℕ) (x y : X) → lookup t n ≡ Some x → is_open (update t n y) ≡ is_open t
open_update t n x y is = λ i m. go m i
  where
    go : (m : ℕ) → is_open (update t n y) m ≡ is_open t m
    go m =
        elim (cases_eq m n) [
          | inl e ↦ rw e (ap is_some (lookup_same t n x y is) ∙ sym (ap is_some is))
          | inr ne ↦ ap is_some (lookup_other t n m y ne)
        ]

pub grows_update : (t : Tables RecvLane) (n : ℕ) (l m : RecvLane) → lookup t n ≡ Some l → Grows l m → AllGrow t (update t n m)
grows_update t n l m is g j x there =
    elim (cases_eq j n) [
      | inl e ↦ (let same : l ≡ x = same_Some l x (sym is ∙ ap (lookup t) (sym e) ∙ there) in (m, rw e (lookup_same t n l m is), rw same at g))
      | inr ne ↦ (x, lookup_other t n j m ne ∙ there, Grows_refl x)
    ]

-- Of what was written and reset, of the sending halves, of credit and of the counts of streams another account is given; what no clause speaks of may be anything.
pub end_anew : {p : Past} {e : End} {sent less known granted bidi uni more_bidi more_uni : ℕ} {broken : ℕ → Bool} {bytes : ℕ → List ℕ} {sends : Tables SendLane} {present : Present} → EndHas p e sent →
    ((n : ℕ) → SendSlot (record p { broken = broken; bytes = bytes }) n (first_send_limit e n) (lookup sends n)) → CreditTrue p.mine p.theirs less known granted e.peer.max_data e.settings.conn_window →
    OpenOk p e.role e.peer.streams_bidi e.peer.streams_uni bidi uni (is_open sends) (is_open e.recvs) →
    EndHas (record p { broken = broken; bytes = bytes }) (record e { sends = sends; known_data = known; known_bidi = bidi; known_uni = uni; granted = granted; granted_bidi = more_bidi; granted_uni = more_uni; present = present }) less
end_anew ok sends credit streams = record { sends = sends; recvs = ok.recvs; packets = ok.packets; taken = ok.taken; credit = credit; streams = streams }

pub without_sum : (p : Past) (e : End) (sent less : ℕ) → EndHas p e sent → less ≤ e.known_data → EndHas p e less
without_sum p e sent less ok le = grind (arith, nat_tests)

pub lane_changed : (p : Past) (e : End) (sent n : ℕ) (l m : SendLane) → EndHas p e sent → lookup e.sends n ≡ Some l → SendTrue p.mine p.theirs p.tokens (p.broken n) (p.bytes n) n (first_send_limit e n) m → EndHas p (record e { sends = update e.sends n m }) sent
lane_changed p e sent n l m ok is this =
    end_anew ok (slots_updated (λ j o. SendSlot p j (first_send_limit e j) o) e.sends n l m is (λ j ne. ok.sends j) this) ok.credit
    (subst (λ s. OpenOk p e.role e.peer.streams_bidi e.peer.streams_uni e.known_bidi e.known_uni s (is_open e.recvs)) (sym (open_update e.sends n l m is)) ok.streams)

-- what the past says of one receiving half changes, and the half
module _ (p : Past) (e : Endpoint) (n : ℕ) (ok : EndOk p e) where
  pub recv_view : (given : ℕ → List ℕ) (stopped ended : ℕ → Bool) (l m : RecvLane) → ((j : ℕ) → j ≢ n → (given j ≡ p.gave j) × (stopped j ≡ p.stopped j) × (ended j ≡ p.ended j)) → lookup e.recvs n ≡ Some l →
      RecvTrue p.mine p.theirs (given n) (stopped n) (ended n) n (first_window e n) m → Grows l m → EndOk (record p { gave = given; stopped = stopped; ended = ended }) (record e { recvs = update e.recvs n m })
  recv_view given stopped ended l m same is this g =
      record {
        sends = ok.sends;
        recvs = slots_updated (λ j o. RecvSlot (record p { gave = given; stopped = stopped; ended = ended }) j (first_window e j) o) e.recvs n l m is (λ j ne. other j (same j ne) (lookup e.recvs j) (ok.recvs j)) this;
        packets = ok.packets;
        taken = taken_stays p e.recvs _ (grows_update e.recvs n l m is g) ok.taken;
        credit = ok.credit;
        streams = subst (λ r. OpenOk p e.role e.peer.streams_bidi e.peer.streams_uni e.known_bidi e.known_uni (is_open e.sends) r) (sym (open_update e.recvs n l m is)) ok.streams;
      }
    where
      other : (j : ℕ) → (given j ≡ p.gave j) × (stopped j ≡ p.stopped j) × (ended j ≡ p.ended j) → (o : Option RecvLane) → RecvSlot p j (first_window e j) o → RecvSlot (record p { gave = given; stopped = stopped; ended = ended }) j (first_window e j) o
      other j (a, b, c) None h = record { no_bytes = a ∙ h.no_bytes; no_end = c ∙ h.no_end; not_stopped = b ∙ h.not_stopped; no_limit = h.no_limit; no_stop = h.no_stop }
      other j (a, b, c) (Some x) h = rw (a, b, c) h

module _ (p : Past) (e : End) (n : ℕ) (ok : EndOk p e) where
  pub recv_changed : (l m : RecvLane) → lookup e.recvs n ≡ Some l → RecvOk p n (first_window e n) m → Grows l m → EndOk p (record e { recvs = update e.recvs n m })
  recv_changed l m is this g = recv_view p e n ok p.gave p.stopped p.ended l m (λ j ne. (refl, refl, refl)) is this g

  pub send_changed : (l m : SendLane) → lookup e.sends n ≡ Some l → SendOk p n (first_send_limit e n) m → m.sent_end ≡ l.sent_end → EndOk p (record e { sends = update e.sends n m })
  send_changed l m is this same =
      without_sum p (record e { sends = update e.sends n m }) (all_sent e) (all_sent (record e { sends = update e.sends n m })) (lane_changed p e (all_sent e) n l m ok is this) (omega (arith, total_update (λ x. x.sent_end) e.sends n l m is, ok.credit.sent_known))

  pub send_kept : (f : SendLane → SendLane) → ((l : SendLane) → lookup e.sends n ≡ Some l → SendOk p n (first_send_limit e n) l → SendOk p n (first_send_limit e n) (f l) × ((f l).sent_end ≡ l.sent_end)) → EndOk p (on_send n f e)
  send_kept f keeps = go (lookup e.sends n) refl (ok.sends n)
    where
      go : (o : Option SendLane) → lookup e.sends n ≡ o → SendSlot p n (first_send_limit e n) o → EndOk p (record e { sends = updated e.sends n f o })
      go None is h = ok
      go (Some l) is h = send_changed l (f l) is (keeps l is h).0 (keeps l is h).1

pub grow_trans : (t u v : Tables RecvLane) → AllGrow t u → AllGrow u v → AllGrow t v
grow_trans t u v a b n l is =
    let (m, there, g) = a n l is in
    let (k, at, h) = b n m there in
    (k, at, record { received = λ q old. h.received q (g.received q old); final = λ size old. h.final size (g.final size old); reset = λ none. g.reset (h.reset none) })

-- As a call ends the limits rise, and so they do under another window.

pub granted_more : {mine theirs : Packets} {sent known granted first window : ℕ} (more : ℕ) → CreditTrue mine theirs sent known granted first window → granted ≤ more → CreditTrue mine theirs sent known more first window
granted_more more h le = record { sent_known = h.sent_known; known_told = h.known_told; window_granted = omega (arith, le, h.window_granted); granted_told = λ limit t. omega (arith, le, h.granted_told limit t) }

pub raise_grows : (l : RecvLane) → Grows l (raise l)
raise_grows l = record { received = λ q h. h; final = λ s h. h; reset = λ h. h }

pub each_grows : (f : RecvLane → RecvLane) (t : Tables RecvLane) → ((l : RecvLane) → Grows l (f l)) → AllGrow t (each f t)
each_grows f t grows n l is = (f l, lookup_each f t n ∙ ap (option_map f) is, grows l)

pub some_mapped : {X : Type 0} (g : X → X) (o : Option X) → is_some (option_map g o) ≡ is_some o
some_mapped g o = grind (arith, nat_tests)

module _ (p : Past) (e : End) (ok : EndOk p e) where
  slot_raised : (n : ℕ) (o : Option RecvLane) → RecvSlot p n (first_window e n) o → RecvSlot p n (first_window e n) (option_map raise o)
  slot_raised n None h = h
  slot_raised n (Some l) h =
      recv_alike h (cond_both (is_some l.final_size) l.limit _ (λ k. l.limit ≤ k) (λ _. omega arith) (λ _. next_limit_grows l.limit (taken l) l.window l.share)) h.ended

  pub settle_grows : AllGrow e.recvs (settle e).recvs
  settle_grows = each_grows raise e.recvs raise_grows

  pub settle_ok : EndOk p (settle e)
  settle_ok =
      record {
        sends = ok.sends;
        recvs = slots_each (λ n o. RecvSlot p n (first_window e n) o) raise e.recvs (λ n. slot_raised n (lookup e.recvs n) (ok.recvs n));
        packets = ok.packets;
        taken = taken_stays p e.recvs _ settle_grows ok.taken;
        credit = granted_more _ ok.credit (next_limit_grows e.granted (all_taken e) e.present.conn_window e.tuning.credit_step);
        streams = subst (λ r. OpenOk p e.role e.peer.streams_bidi e.peer.streams_uni e.known_bidi e.known_uni (is_open e.sends) r) (sym (λ i n. (ap is_some (lookup_each raise e.recvs n) ∙ some_mapped raise (lookup e.recvs n)) i)) ok.streams;
      }

-- Another window of a stream moves its limit alone, and that no lower

pub window_ok : (p : Past) (e : End) (n w : ℕ) → EndOk p e → EndOk p (on_recv n (λ l. set_window l w) e)
window_ok p e n w ok = go (lookup e.recvs n) refl (ok.recvs n)
  where
    go : (o : Option RecvLane) → lookup e.recvs n ≡ o → RecvSlot p n (first_window e n) o → EndOk p (record e { recvs = updated e.recvs n (λ l. set_window l w) o })
    go None is h = ok
    go (Some l) is h = recv_changed p e n ok l (set_window l w) is (recv_alike h (under_grows l w) h.ended) (record { received = λ q old. old; final = λ size old. old; reset = λ none. none })

-- A receiving half that is read and stopped.

-- `read` answers bytes: the half wasn't read to its end
pub not_at_end : (l : RecvLane) (size count : ℕ) → read_answer l size ≡ reads.Bytes count → (end : ℕ) → l.final_size ≡ Some end → l.arrived.read_count ≢ end
not_at_end l size count is end final same = grind (arith, nat_tests)

pub told_grows : (l m : RecvLane) → Grows l m → Grows l (record m { reader_done = true })
told_grows l m g = record { received = g.received; final = g.final; reset = g.reset }

module _ (p : Past) (n w : ℕ) (l : RecvLane) (h : RecvOk p n w l) where
  pub read_bytes_ok : (size count : ℕ) → ((end : ℕ) → l.final_size ≡ Some end → l.arrived.read_count ≢ end) →
      RecvTrue p.mine p.theirs (p.gave n ++ front_of l.arrived size) (p.stopped n) (p.ended n) n w (after_answer (reads.Bytes count) l size)
  read_bytes_ok size count more = grind (arith, nat_tests, get-kept, length-append, slice_get-joined, get-front)

  pub read_told_ok : (ended : Bool) → (ended ≡ true → (size : ℕ) × (l.arrived.read_count ≡ size) × (l.final_size ≡ Some size) × TellsEnd p.theirs n size) → RecvTrue p.mine p.theirs (p.gave n) (p.stopped n) ended n w (record l { reader_done = true })
  read_told_ok ended is_end = recv_alike h (omega arith) is_end

  pub end_by_fin : (size : ℕ) → read_answer l size ≡ reads.End → l.stop_code ≡ None → (end : ℕ) × (l.arrived.read_count ≡ end) × (l.final_size ≡ Some end) × TellsEnd p.theirs n end
  end_by_fin size is none = grind (arith, nat_tests)

  stopped_as : {stored : fmap.FinMap nat_cmp ℕ} {discarding : Bool} {code : Option ℕ} → ((q b : ℕ) → fmap.get stored q ≡ Some b → TellsByte p.theirs n q b) →
      RecvTrue p.mine p.theirs (p.gave n) true (p.ended n) n w (record l { arrived = record l.arrived { stored = stored; discarding = discarding }; stop_code = code })
  stopped_as stored = grind (arith, nat_tests)

  pub stop_ok : (code : ℕ) (b : Bool) → RecvTrue p.mine p.theirs (p.gave n) true (p.ended n) n w (if b then l else record l { arrived = discard l.arrived; stop_code = Some code })
  stop_ok code true = stopped_as h.stored
  stop_ok code false = stopped_as (λ q b is. absurd (none-some b (sym (fmap.get-empty nat_cmp q) ∙ is)))

  pub stop_grows : (code : ℕ) (b : Bool) → Grows l (if b then l else record l { arrived = discard l.arrived; stop_code = Some code })
  stop_grows code b = grind (arith, nat_tests)

-- A sending half that is written to and finished.

-- what a half that may be written says
pub write_allowed : (l : SendLane) → refusal l ≡ None → (l.was_reset ≡ None) × (l.finished ≡ false)
write_allowed l is = grind (arith, nat_tests)

-- an acknowledged offset was written
pub acked_written : (mine theirs : Packets) (tokens : ℕ → Bool) (broken : Bool) (all : List ℕ) (n limit : ℕ) (l : SendLane) → SendTrue mine theirs tokens broken all n limit l → (q : ℕ) → set.contains l.acked q ≡ true → q < l.written
acked_written mine theirs tokens broken all n limit l h q is =
    let (k, offset, bytes, fin, holds, low, high, ack) = h.acked q is in
    let below : offset + length bytes ≤ l.sent_end = (h.told offset bytes fin (k, holds)).below in
    let written : l.sent_end ≤ l.written = h.sent_written in
    omega arith

-- what is written after an end that wasn't asked for
pub write_ok : (mine theirs : Packets) (tokens : ℕ → Bool) (broken : Bool) (all bytes : List ℕ) (n limit : ℕ) (l : SendLane) → SendTrue mine theirs tokens broken all n limit l → l.was_reset ≡ None → l.finished ≡ false → SendTrue mine theirs tokens broken (all ++ bytes) n limit (write_lane l bytes)
write_ok mine theirs tokens broken all bytes n limit l h none open_end =
    let not_sent : l.fin_sent ≡ true → ⊥ = λ is. true≢false (sym (h.end is).0 ∙ open_end) in
    let low : unacked_from l ≤ l.written = missing-le l.acked l.written (acked_written mine theirs tokens broken all n limit l h) in
    record {
      count = omega (arith, length-append all bytes, h.count);
      kept = λ _. ap (λ x. x ++ bytes) (h.kept none) ∙ sym (drop-joined (unacked_from l) all bytes (omega (arith, h.count)));
      sent_written = omega (arith, h.sent_written);
      sent_limit = h.sent_limit;
      end = λ is. absurd (not_sent is);
      reset_size = λ r is. absurd (none-some r (sym none ∙ is));
      told = λ offset bs fin t. (let c = h.told offset bs fin t in record { same = λ i b at. slice_get-append all bytes (offset + i) b (c.same i b at); below = c.below; end = λ is. absurd (not_sent (c.end is).0) });
      told_reset = h.told_reset;
      acked = h.acked;
      end_acked = h.end_acked;
      limit_told = h.limit_told;
      reset_asked = h.reset_asked;
    }

-- bytes are written to one stream
abbrev pub with_bytes : Past → ℕ → List ℕ → Past
with_bytes p n bytes = record p { bytes = λ m. p.bytes m ++ (if m == n then bytes else []) }

module _ (p : Past) (e : End) (n : ℕ) (ok : EndOk p e) where
  other_slot : (bytes : List ℕ) (m : ℕ) → m ≢ n → (o : Option SendLane) → SendSlot p m (first_send_limit e m) o → SendSlot (with_bytes p n bytes) m (first_send_limit e m) o
  other_slot bytes m ne None h =
      let same : p.bytes m ++ (if m == n then bytes else []) ≡ p.bytes m = (rw (ne_eqb m n ne) (append-nil (p.bytes m))) in
      record { no_bytes = same ∙ h.no_bytes; no_stream = h.no_stream; no_reset = h.no_reset; no_blocked = h.no_blocked }
  other_slot bytes m ne (Some l) h =
      let same : p.bytes m ++ (if m == n then bytes else []) ≡ p.bytes m = (rw (ne_eqb m n ne) (append-nil (p.bytes m))) in
      subst (λ x. SendTrue p.mine p.theirs p.tokens (p.broken m) x m (first_send_limit e m) l) (sym same) h

  pub wrote_ok : (bytes : List ℕ) (l : SendLane) → lookup e.sends n ≡ Some l → l.was_reset ≡ None → l.finished ≡ false → EndOk (with_bytes p n bytes) (record e { sends = update e.sends n (write_lane l bytes) })
  wrote_ok bytes l is none open_end =
      let this = write_ok p.mine p.theirs p.tokens (p.broken n) (p.bytes n) bytes n (first_send_limit e n) l (subst (SendSlot p n (first_send_limit e n)) is (ok.sends n)) none open_end in
      without_sum (with_bytes p n bytes) (record e { sends = update e.sends n (write_lane l bytes) }) (all_sent e) (all_sent (record e { sends = update e.sends n (write_lane l bytes) }))
      (end_anew ok
      (slots_updated (λ m o. SendSlot (with_bytes p n bytes) m (first_send_limit e m) o) e.sends n l (write_lane l bytes) is
      (λ m ne. other_slot bytes m ne (lookup e.sends m) (ok.sends m))
      (subst (λ b. SendTrue p.mine p.theirs p.tokens (p.broken n) (p.bytes n ++ (if b then bytes else [])) n (first_send_limit e n) (write_lane l bytes)) (sym (eq-eqb n n refl)) this))
      ok.credit
      (subst (λ s. OpenOk p e.role e.peer.streams_bidi e.peer.streams_uni e.known_bidi e.known_uni s (is_open e.recvs)) (sym (open_update e.sends n l (write_lane l bytes) is)) ok.streams))
      (omega (arith, total_update (λ x. x.sent_end) e.sends n l (write_lane l bytes) is, ok.credit.sent_known))
