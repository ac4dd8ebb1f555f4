-- Streams open, and a frame of the peer takes effect: the invariant of an end stays.
use Rattle.std.proofs.lemmas.Bool.Decides.{nat_tests}
use Rattle.std.proofs.Common.{◌≡◌, ℕ, ◌%◌, ◌≤◌, Bool, true, false, not, ◌&&◌, ◌⊎◌, length, drop, Some, is_some, refl, sym, ap, ◌∙◌, subst, arith, inl, inr, if◌then◌else◌, nat_cmp, ◌+◌, ◌/◌, ◌<◌, nat_le, max, List, Option, None, ◌||◌}
use Rattle.std.proofs.lemmas.Option.{none-some, same_Some}
use Rattle.std.proofs.lemmas.Bool.{true≢false, false≢true, and_cases, and_left, and_right, cases_lt}
use Rattle.std.specs.FinSet as set
use Rattle.std.specs.FinMap as fmap
use Rattle.qs_recv.specs.Lane.{RecvLane, new_lane as new_recv_lane, take_stream, take_reset, is_whole, check_stream, check_reset}
use Rattle.qs_recv.specs.declared.credit.Share.{Share}
use Rattle.qs_send.specs.Lane.{SendLane, unacked_from, new_lane as new_send_lane, allow_lane, stop_taken}
use Rattle.qs_machine.specs.Tables.{Tables, lookup, open_to, total, updated}
use Rattle.qs_machine.specs.Ends.{End, is_own, is_own_by, is_uni, first_send_limit, first_window, opens, role_bit, opened_by_peer}
use Rattle.qs_machine.specs.Credit.{all_sent}
use Rattle.qs_machine.specs.Seen.{Seen, Ack, Stream, Control, Plain}
use Rattle.qs_machine.specs.Plains.{is_plain}
use Rattle.qs_machine.specs.Verdicts.{lane_of, verdict, item_verdict, credit_fault, state_fault_in}
use Rattle.qs_runs.specs.Pasts.{Past, Packets, Tells, Names, IsNamed}
use Rattle.qs_runs.specs.Invariant.{EndOk, SendOk, SendSlot, NotSent, RecvOk, RecvSlot, NotReceived, CreditOk, OpenOk, OpenTrue, is_open, FrameTaken}
use Rattle.qs_runs.proofs.Lists.{drop-none}
use Rattle.qs_machine.proofs.TableLaws.{lookup_open, slots_opened, total_open, open_lower, open_at, lookup_same}
use Rattle.qs_runs.proofs.Changes.{AllGrow, Grows_refl, all_grow_refl, taken_stays, grow_trans, grows_update, recv_changed, send_kept, end_anew}
use Rattle.qs_wire.specs.declared.stream_id.Role.{Role}
use Rattle.qs_wire.specs.declared.stream_id.Dir.{Dir}
use Rattle.qs_wire.specs.declared.stream_id.Dir.TheVariants.{Bidi, Uni}
use Rattle.qs_machine.specs.Due.{known_count}
use Rattle.qs_machine.specs.Owner.{own_type, opened_count, next_stream}
use Rattle.qs_send.specs.declared.piece.Item.{Item}
use Rattle.qs_send.specs.declared.piece.Item.TheVariants.{MaxData, MaxStreamData, MaxStreams, ResetStream, StopSending, StreamDataBlocked}
use Rattle.qs_machine.specs.FrameStep.{named, frame_taken, item_taken}
use Rattle.qs_machine.proofs.Leaves.{acks_leave}
use Rattle.qs_machine.proofs.CallsSound.{no_fault}
use Rattle.qs_runs.proofs.Taking.{or_else_none, stream_passed, fin_fits, reset_fits, take_stream_ok, take_stream_grows, take_stream_taken, take_reset_ok, take_reset_grows, take_reset_taken}
use Rattle.qs_runs.proofs.Acking.{allow_ok, stopped_ok, stopped_end, acks_ok, named_pieces_ok}

-- the frame stood in a packet of the peer's, or it is a plain one of the layer beneath
abbrev pub MayCome : Packets → Seen → Type 0
MayCome packets f = Tells packets f ⊎ (is_plain f ≡ true)

-- Streams open.

-- A half that was never used is a new one.
new_send_ok : (p : Past) (n id limit buffer : ℕ) → NotSent p n → SendOk p n limit (new_send_lane id limit buffer)
new_send_ok p n id limit buffer h =
    record {
      count = ap length h.no_bytes;
      kept = λ _. sym (ap (drop (unacked_from (new_send_lane id limit buffer))) h.no_bytes ∙ drop-none (unacked_from (new_send_lane id limit buffer)));
      sent_written = omega arith;
      sent_limit = omega arith;
      end = λ is. absurd (false≢true is);
      reset_size = λ r is. absurd (none-some r is);
      told = λ offset bytes fin t. absurd (h.no_stream offset bytes fin t);
      told_reset = λ code size t. absurd (h.no_reset code size t);
      acked = λ q is. absurd (false≢true (sym (set.contains-empty nat_cmp q) ∙ is));
      end_acked = λ is. absurd (false≢true is);
      limit_told = inl (omega arith);
      reset_asked = λ is. absurd (false≢true is);
    }

new_recv_ok : (p : Past) (n window : ℕ) (share : Share) → NotReceived p n → RecvOk p n window (new_recv_lane window share)
new_recv_ok p n window share h =
    record {
      received = λ q is. absurd (false≢true (sym (set.contains-empty nat_cmp q) ∙ is));
      stored = λ q b is. absurd (none-some b (sym (fmap.get-empty nat_cmp q) ∙ is));
      count = ap length h.no_bytes;
      gave = λ q b is. absurd (none-some b (rw h.no_bytes at is));
      final = λ size is. absurd (none-some size is);
      reset = λ code is. absurd (none-some code is);
      not_stopped = λ is. refl;
      ended = λ is. absurd (false≢true (sym h.no_end ∙ is));
      window_granted = omega arith;
      limit_told = λ limit t. absurd (h.no_limit limit t);
      stop_asked = λ code t. absurd (h.no_stop code t);
    }

-- the halves that begin
abbrev pub new_sends : End → ℕ → ℕ → SendLane
new_sends e n m = new_send_lane m (first_send_limit e n) e.settings.send_buffer

abbrev pub new_recvs : End → ℕ → ℕ → RecvLane
new_recvs e n m = new_recv_lane (first_window e n) e.tuning.credit_step

module _ (e : End) where
  same_limit : (n m : ℕ) → m % 4 ≡ n % 4 → first_send_limit e m ≡ first_send_limit e n
  same_limit n m kind = rw kind refl

  same_window : (n m : ℕ) → m % 4 ≡ n % 4 → first_window e m ≡ first_window e n
  same_window n m kind = rw kind refl

opened_grow : (t : Tables RecvLane) (n : ℕ) (begin : ℕ → RecvLane) → AllGrow t (open_to t n begin)
opened_grow t n begin m l is =
    elim (lookup_open t n m begin) [
      | inl same ↦ (l, same ∙ is, Grows_refl l)
      | inr new ↦ absurd (none-some l (sym new.0 ∙ is))
    ]

-- which streams are open once n is
cases_by : {X : Type 0} (n : ℕ) (t : Tables X) (x : ℕ → X) (b : Bool) (m : ℕ) → is_open (if b then t else open_to t n x) m ≡ true → (is_open t m ≡ true) ⊎ ((b ≡ false) × (m % 4 ≡ n % 4) × (m ≤ n))
cases_by n t x b m is = grind (arith, nat_tests, lookup_open)

still_by : {X : Type 0} (n : ℕ) (t : Tables X) (x : ℕ → X) (b : Bool) (m : ℕ) → is_open t m ≡ true → is_open (if b then t else open_to t n x) m ≡ true
still_by n t x b m is = grind (arith, nat_tests, lookup_open)

pub opened_at : {X : Type 0} (t : Tables X) (n : ℕ) (x : ℕ → X) (b : Bool) → b ≡ false → is_open (if b then t else open_to t n x) n ≡ true
opened_at t n x b is = grind (arith, nat_tests, true≢false, open_at)

module _ (p : Past) (e : End) (n : ℕ) (ok : EndOk p e) where
  sends_opened : (b : Bool) → (m : ℕ) → SendSlot p m (first_send_limit e m) (lookup (if b then e.sends else open_to e.sends n (new_sends e n)) m)
  sends_opened true = ok.sends
  sends_opened false =
      slots_opened (λ m o. SendSlot p m (first_send_limit e m) o) e.sends n (new_sends e n) ok.sends
      (λ m h kind. subst (λ limit. SendOk p m (first_send_limit e m) (new_send_lane m limit e.settings.send_buffer)) (same_limit e n m kind) (new_send_ok p m m (first_send_limit e m) e.settings.send_buffer h))

  recvs_opened : (b : Bool) → (m : ℕ) → RecvSlot p m (first_window e m) (lookup (if b then e.recvs else open_to e.recvs n (new_recvs e n)) m)
  recvs_opened true = ok.recvs
  recvs_opened false =
      slots_opened (λ m o. RecvSlot p m (first_window e m) o) e.recvs n (new_recvs e n) ok.recvs
      (λ m h kind. subst (λ limit. RecvOk p m (first_window e m) (new_recv_lane limit e.tuning.credit_step)) (same_window e n m kind) (new_recv_ok p m (first_window e m) e.tuning.credit_step h))

  pub grow_by : (b : Bool) → AllGrow e.recvs (if b then e.recvs else open_to e.recvs n (new_recvs e n))
  grow_by true m l is = (l, is, Grows_refl l)
  grow_by false m l is = opened_grow e.recvs n (new_recvs e n) m l is

  sent_by : (b : Bool) → total (λ l. l.sent_end) (if b then e.sends else open_to e.sends n (new_sends e n)) ≡ all_sent e
  sent_by b = grind (arith, nat_tests, total_open)

  -- what is left to show of opening is which streams are open then
  pub opens_ok : OpenOk p e.role e.peer.streams_bidi e.peer.streams_uni e.known_bidi e.known_uni (is_open (opens n e).sends) (is_open (opens n e).recvs) → EndOk p (opens n e)
  opens_ok streams =
      record {
        sends = sends_opened _;
        recvs = recvs_opened _;
        packets = ok.packets;
        taken = taken_stays p e.recvs _ (grow_by _) ok.taken;
        credit = subst (λ s. CreditOk p s e.known_data e.granted e.peer.max_data e.settings.conn_window) (sym (sent_by (is_uni n && not (is_own e n)))) ok.credit;
        streams = streams;
      }

  same_own : (m : ℕ) → m % 4 ≡ n % 4 → is_own_by e.role m ≡ is_own_by e.role n
  same_own m kind = rw kind refl

  same_uni : (m : ℕ) → m % 4 ≡ n % 4 → is_uni m ≡ is_uni n
  same_uni m kind = rw kind refl

  named_lower : (m : ℕ) → m % 4 ≡ n % 4 → m ≤ n → IsNamed p.theirs n → IsNamed p.theirs m
  named_lower m kind le (f, k, t, names, same, up) = (f, k, t, names, same ∙ sym kind, omega arith)

  bidi_then : is_own e n ≡ false → (is_uni n && not (is_own e n)) ≡ false → is_uni n ≡ false
  bidi_then theirs b = grind (arith, nat_tests)

  -- a frame of the peer opens a stream of its own
  pub named_ok : IsNamed p.theirs n → is_own e n ≡ false → EndOk p (opens n e)
  named_ok named theirs =
      opens_ok (record {
        own_send = λ m is own.
            elim (cases_by n e.sends _ _ m is) [
              | inl old ↦ ok.streams.own_send m old own
              | inr new ↦ absurd (true≢false (sym own ∙ same_own m new.1 ∙ theirs))
            ];
        own_recv = λ m is own.
            elim (cases_by n e.recvs _ _ m is) [
              | inl old ↦ (let (bidi, sends) = ok.streams.own_recv m old own in (bidi, still_by n e.sends _ _ m sends))
              | inr new ↦ absurd (true≢false (sym own ∙ same_own m new.1 ∙ theirs))
            ];
        own_both = λ m is own bidi.
            elim (cases_by n e.sends _ _ m is) [
              | inl old ↦ still_by n e.recvs _ _ m (ok.streams.own_both m old own bidi)
              | inr new ↦ absurd (true≢false (sym own ∙ same_own m new.1 ∙ theirs))
            ];
        their_send = λ m is other.
            elim (cases_by n e.sends _ _ m is) [
              | inl old ↦ ok.streams.their_send m old other
              | inr new ↦ (same_uni m new.1 ∙ bidi_then theirs new.0, named_lower m new.1 new.2 named)
            ];
        their_recv = λ m is other.
            elim (cases_by n e.recvs _ _ m is) [
              | inl old ↦ ok.streams.their_recv m old other
              | inr new ↦ named_lower m new.1 new.2 named
            ];
        bidi_told = ok.streams.bidi_told;
        uni_told = ok.streams.uni_told;
      })

-- A frame of the peer

module _ (p : Past) where
  pub named_by : (f : Seen) (n : ℕ) → Tells p.theirs f → Names f n → IsNamed p.theirs n
  named_by f n t names = (f, n, t, names, refl, omega arith)

  pub opened_ok : (e : End) (n : ℕ) → EndOk p e → IsNamed p.theirs n → (b : Bool) → is_own e n ≡ b → EndOk p (if b then e else opens n e)
  opened_ok e n ok named true own = ok
  opened_ok e n ok named false own = named_ok p e n ok named own

  pub opened_grows : (e : End) (n : ℕ) → EndOk p e → (b : Bool) → AllGrow e.recvs (if b then e else opens n e).recvs
  opened_grows e n ok true = all_grow_refl e.recvs
  opened_grows e n ok false = grow_by p e n ok _

-- the receiving half is then the one that a verdict looks at
pub lane_opened : (e : End) (n : ℕ) (r : RecvLane) (b : Bool) → is_own e n ≡ b → lookup (if b then e else opens n e).recvs n ≡ Some r → lane_of e n ≡ r
lane_opened e n r b own is = grind (arith, nat_tests, lookup_open, same_Some)

-- An end opens a stream of its own.

pub next_own : (e : End) (d : Dir) → is_own e (next_stream e d) ≡ true
next_own e d = grind (arith, nat_tests)

-- the next stream is below the peer's count
pub next_below : (e : End) (d : Dir) → opened_count e (own_type e d) < known_count e d → next_stream e d / 4 < (if is_uni (next_stream e d) then e.known_uni else e.known_bidi)
next_below e d lt = grind (arith, nat_tests)

module _ (p : Past) (e : End) (n : ℕ) (ok : EndOk p e) (own : is_own e n ≡ true) (below : n / 4 < (if is_uni n then e.known_uni else e.known_bidi)) where
  newly : {X : Type 0} (t : Tables X) (begin : ℕ → X) (b : Bool) (m : ℕ) → b ≡ false → m % 4 ≡ n % 4 → m ≤ n → is_open (if b then t else open_to t n begin) m ≡ true
  newly t begin b m is kind le = grind (arith, nat_tests, true≢false, open_lower, open_at)

  kind_own : (m : ℕ) → m % 4 ≡ n % 4 → is_own_by e.role m ≡ true
  kind_own m kind = rw kind own

  own_goes : (is_uni n && not (is_own e n)) ≡ false
  own_goes = rw own (and_right _ _ refl)

  bidi_if : (is_uni n && is_own e n) ≡ false → is_uni n ≡ false
  bidi_if b = elim (and_cases _ _ b) [ inl bidi ↦ bidi | inr no_own ↦ absurd (true≢false (sym own ∙ no_own)) ]

  below_same : (m : ℕ) → m % 4 ≡ n % 4 → m ≤ n → m / 4 < (if is_uni m then e.known_uni else e.known_bidi)
  below_same m kind le = rw kind (omega (arith, below))

  pub own_opened : EndOk p (opens n e)
  own_opened =
      opens_ok p e n ok (record {
        own_send = λ m is o. elim (cases_by n e.sends _ _ m is) [
          | inl old ↦ ok.streams.own_send m old o
          | inr new ↦ below_same m new.1 new.2
        ];
        own_recv = λ m is o. elim (cases_by n e.recvs _ _ m is) [
          | inl old ↦ (let (bidi, sends) = ok.streams.own_recv m old o in (bidi, still_by n e.sends _ _ m sends))
          | inr new ↦ (ap (λ k. nat_le 2 k) new.1 ∙ bidi_if new.0, newly e.sends _ _ m own_goes new.1 new.2)
        ];
        own_both = λ m is o bidi. elim (cases_by n e.sends _ _ m is) [
          | inl old ↦ still_by n e.recvs _ _ m (ok.streams.own_both m old o bidi)
          | inr new ↦ newly e.recvs _ _ m (and_left _ _ (sym (ap (λ k. nat_le 2 k) new.1) ∙ bidi)) new.1 new.2
        ];
        their_send = λ m is o. elim (cases_by n e.sends _ _ m is) [
          | inl old ↦ ok.streams.their_send m old o
          | inr new ↦ absurd (true≢false (sym (kind_own m new.1) ∙ o))
        ];
        their_recv = λ m is o. elim (cases_by n e.recvs _ _ m is) [
          | inl old ↦ ok.streams.their_recv m old o
          | inr new ↦ absurd (true≢false (sym (kind_own m new.1) ∙ o))
        ];
        bidi_told = ok.streams.bidi_told;
        uni_told = ok.streams.uni_told;
      })

-- A frame that the peer made and that has no fault keeps the invariant, and takes effect for good.

-- What a frame that takes effect leaves: the invariant, every half grown, and the frame's own effect for good.
pub record Effect (p : Past) (old new : End) (f : Seen) : Type 0 where
  pub ok : EndOk p new
  pub grow : AllGrow old.recvs new.recvs
  pub taken : FrameTaken new.recvs f

-- Known counts that rise leave all of it, and where each is from is given anew.
pub open_known : {theirs : Packets} {role : Role} {a b bidi uni : ℕ} {sends recvs : ℕ → Bool} (first_bidi first_uni more_bidi more_uni : ℕ) → OpenTrue theirs role a b bidi uni sends recvs → bidi ≤ more_bidi → uni ≤ more_uni →
    (more_bidi ≤ first_bidi) ⊎ Tells theirs (Control (MaxStreams Bidi more_bidi)) → (more_uni ≤ first_uni) ⊎ Tells theirs (Control (MaxStreams Uni more_uni)) → OpenTrue theirs role first_bidi first_uni more_bidi more_uni sends recvs
open_known first_bidi first_uni more_bidi more_uni h le_bidi le_uni told_bidi told_uni = grind (arith, nat_tests)

module _ (p : Past) where
  stream_taken : (old e : End) (n offset : ℕ) (bytes : List ℕ) (fin : Bool) (o : Option RecvLane) → lookup e.recvs n ≡ o → is_some o ≡ true → ((r : RecvLane) → o ≡ Some r → lane_of old n ≡ r) → EndOk p e → Tells p.theirs (Stream n offset bytes fin) →
      credit_fault old (check_stream (lane_of old n) offset (length bytes) fin) ≡ None → AllGrow old.recvs e.recvs →
      Effect p old (record e { recvs = updated e.recvs n (λ l. take_stream l offset bytes fin) o }) (Stream n offset bytes fin)
  stream_taken old e n offset bytes fin None is some this ok t fine grow = absurd (false≢true some)
  stream_taken old e n offset bytes fin (Some l) is some this ok t fine grow =
      let h : RecvOk p n (first_window e n) l = subst (RecvSlot p n (first_window e n)) is (ok.recvs n) in
      let fits = fin_fits old l offset (length bytes) fin (subst (λ x. credit_fault old (check_stream x offset (length bytes) fin) ≡ None) (this l refl) fine) in
      let grows = take_stream_grows p n (first_window e n) l h offset bytes fin t fits in
      record {
        ok = recv_changed p e n ok l (take_stream l offset bytes fin) is (take_stream_ok p n (first_window e n) l h offset bytes fin t fits) grows;
        grow = grow_trans old.recvs e.recvs _ grow (grows_update e.recvs n l (take_stream l offset bytes fin) is grows);
        taken = (take_stream l offset bytes fin, lookup_same e.recvs n l (take_stream l offset bytes fin) is, take_stream_taken p n (first_window e n) l h offset bytes fin t fits);
      }

  reset_taken : (old e : End) (n code size : ℕ) (o : Option RecvLane) → lookup e.recvs n ≡ o → is_some o ≡ true → ((r : RecvLane) → o ≡ Some r → lane_of old n ≡ r) → EndOk p e → Tells p.theirs (Control (ResetStream n code size)) →
      credit_fault old (check_reset (lane_of old n) size) ≡ None → AllGrow old.recvs e.recvs →
      Effect p old (record e { recvs = updated e.recvs n (λ l. take_reset l code size) o }) (Control (ResetStream n code size))
  reset_taken old e n code size None is some this ok t fine grow = absurd (false≢true some)
  reset_taken old e n code size (Some l) is some this ok t fine grow =
      let h : RecvOk p n (first_window e n) l = subst (RecvSlot p n (first_window e n)) is (ok.recvs n) in
      let fits = reset_fits old l size (subst (λ x. credit_fault old (check_reset x size) ≡ None) (this l refl) fine) in
      let b : Bool = is_some l.reset_code || is_whole l in
      let grows = take_reset_grows p n (first_window e n) l h code size t fits b in
      record {
        ok = recv_changed p e n ok l (take_reset l code size) is (take_reset_ok p n (first_window e n) l h code size t fits b) grows;
        grow = grow_trans old.recvs e.recvs _ grow (grows_update e.recvs n l (take_reset l code size) is grows);
        taken = (take_reset l code size, lookup_same e.recvs n l (take_reset l code size) is, take_reset_taken p n (first_window e n) l h code size t fits b refl);
      }

  -- a frame on what the peer sends comes to a half that is open then: an own stream has to be, another one opens
  half_open : (e : End) (n : ℕ) (b : Bool) → is_own e n ≡ b → state_fault_in e n ≡ None → is_some (lookup (if b then e else opens n e).recvs n) ≡ true
  half_open e n b own fine = grind (arith, nat_tests, no_fault, true≢false, opened_at, and_right)

  -- a limit or a count that the peer told
  told_max : (known first m : ℕ) (f : ℕ → Seen) → (known ≤ first) ⊎ Tells p.theirs (f known) → Tells p.theirs (f m) → (max known m ≤ first) ⊎ Tells p.theirs (f (max known m))
  told_max known first m f old new =
      elim (cases_lt known m) [
        | inl lt ↦ (let e : max known m ≡ m = omega arith in inr (rw e new))
        | inr ge ↦ (let e : max known m ≡ known = omega arith in rw e old)
      ]

  item_keeps : (e : End) (i : Item) → EndOk p e → Tells p.theirs (Control i) → item_verdict e i ≡ None → Effect p e (item_taken i e) (Control i)
  item_keeps e (MaxData m) ok t fine =
      record {
        ok = end_anew ok ok.sends (record {
          sent_known = omega (arith, ok.credit.sent_known);
          known_told = told_max e.known_data e.peer.max_data m (λ x. Control (MaxData x)) ok.credit.known_told t;
          window_granted = ok.credit.window_granted;
          granted_told = ok.credit.granted_told;
        }) ok.streams;
        grow = all_grow_refl e.recvs;
        taken = tt;
      }
  item_keeps e (MaxStreamData n m) ok t fine =
      let opened = opened_ok p e n ok (named_by p _ n t refl) (is_own e n) refl in
      record {
        ok = send_kept p (opened_by_peer n e) n opened (λ l. allow_lane l m) (λ l is h. (allow_ok p n _ l h m t, refl));
        grow = opened_grows p e n ok (is_own e n);
        taken = tt;
      }
  item_keeps e (MaxStreams Bidi m) ok t fine =
      record {
        ok = end_anew ok ok.sends ok.credit
            (open_known e.peer.streams_bidi e.peer.streams_uni (max e.known_bidi m) e.known_uni ok.streams (omega arith) (omega arith) (told_max e.known_bidi e.peer.streams_bidi m (λ x. Control (MaxStreams Bidi x)) ok.streams.bidi_told t) ok.streams.uni_told);
        grow = all_grow_refl e.recvs;
        taken = tt;
      }
  item_keeps e (MaxStreams Uni m) ok t fine =
      record {
        ok = end_anew ok ok.sends ok.credit
            (open_known e.peer.streams_bidi e.peer.streams_uni e.known_bidi (max e.known_uni m) ok.streams (omega arith) (omega arith) ok.streams.bidi_told (told_max e.known_uni e.peer.streams_uni m (λ x. Control (MaxStreams Uni x)) ok.streams.uni_told t));
        grow = all_grow_refl e.recvs;
        taken = tt;
      }
  item_keeps e (ResetStream n c s) ok t fine =
      reset_taken e (opened_by_peer n e) n c s (lookup (opened_by_peer n e).recvs n) refl
      (half_open e n (is_own e n) refl (or_else_none _ _ fine).0) (λ r is. lane_opened e n r (is_own e n) refl is)
      (opened_ok p e n ok (named_by p _ n t refl) (is_own e n) refl) t (or_else_none (state_fault_in e n) _ fine).1 (opened_grows p e n ok (is_own e n))
  item_keeps e (StopSending n c) ok t fine =
      let opened = opened_ok p e n ok (named_by p _ n t refl) (is_own e n) refl in
      record {
        ok = send_kept p (opened_by_peer n e) n opened (λ l. stop_taken e.tuning.answers_stops l c) (λ l is h. (stopped_ok p n _ l h e.tuning.answers_stops c t, stopped_end p n _ l h e.tuning.answers_stops c));
        grow = opened_grows p e n ok (is_own e n);
        taken = tt;
      }
  item_keeps e (StreamDataBlocked n m) ok t fine =
      record { ok = opened_ok p e n ok (named_by p _ n t refl) (is_own e n) refl; grow = opened_grows p e n ok (is_own e n); taken = tt }
  item_keeps e _ ok t fine = record { ok = ok; grow = all_grow_refl e.recvs; taken = tt }

  pub frame_keeps : (e : End) (f : Seen) → EndOk p e → Tells p.theirs f → verdict e f ≡ None → Effect p e (frame_taken f e) f
  unfolding verdict frame_taken
  frame_keeps e (Ack largest ranges) ok t fine =
      record {
        ok = acks_ok p (named e ranges) e (named_pieces_ok p e ok ranges (λ k a. inl (largest, ranges, t, a))) ok;
        grow = subst (AllGrow e.recvs) (sym (ap (λ (x : End). x.recvs) (acks_leave (named e ranges) e))) (all_grow_refl e.recvs);
        taken = tt;
      }
  frame_keeps e (Stream n offset bytes fin) ok t fine =
      stream_taken e (opened_by_peer n e) n offset bytes fin (lookup (opened_by_peer n e).recvs n) refl
      (half_open e n (is_own e n) refl (stream_passed e n offset bytes fin fine).0) (λ r is. lane_opened e n r (is_own e n) refl is)
      (opened_ok p e n ok (named_by p _ n t refl) (is_own e n) refl) t (stream_passed e n offset bytes fin fine).1 (opened_grows p e n ok (is_own e n))
  frame_keeps e (Control i) ok t fine = item_keeps e i ok t fine
  frame_keeps e _ ok t fine = record { ok = ok; grow = all_grow_refl e.recvs; taken = tt }

  -- the same of a plain one, which changes nothing
  pub come_keeps : (e : End) (f : Seen) → EndOk p e → MayCome p.theirs f → verdict e f ≡ None → Effect p e (frame_taken f e) f
  unfolding frame_taken
  come_keeps e f ok (inl t) fine = frame_keeps e f ok t fine
  come_keeps e (Plain asks) ok (inr plain) fine = record { ok = ok; grow = all_grow_refl e.recvs; taken = tt }
  come_keeps e f ok (inr plain) fine = absurd (false≢true plain)
