-- Each call of its owner keeps the invariant of an end, and so do limits that are taken in.
use Rattle.std.proofs.lemmas.Bool.Decides.{nat_tests}
use Rattle.std.proofs.Common.{◌≡◌, ℕ, Bool, true, false, List, [], ◌∷◌, ◌++◌, length, Option, Some, None, refl, sym, subst, inl, inr, leb, if◌then◌else◌, ◌≢◌, ◌+◌, ◌*◌, not, ◌&&◌, ◌||◌, take, Result, Ok, Err, is_some, ap, ◌∙◌, ◌==◌, append-nil, MatchBool, nat_le, zero, suc, ◌-◌, arith, ◌%◌, ◌≤◌, max, ◌⊎◌, option_map}
use Rattle.std.specs.Prelude.{⊤}
use Rattle.std.specs.FinMap as fmap
use Rattle.qs_send.specs.Records.{Among, without_first}
use Rattle.qs_send.specs.LostRecords.{MOST_LOST, with_piece, with_number, without_oldest}
use Rattle.qs_send.specs.declared.piece.Piece.{Piece}
use Rattle.qs_machine.specs.Ends.{End, Records, LostPackets, lost_with, on_send, on_recv, send_lane, first_send_limit, first_window, is_uni, is_own}
use Rattle.qs_machine.specs.Making.{first_lost, losses, MakeStep, MakeAt, make_refusal, IsMade, LoseStep, lose_refusal, ClaimStep, claim_refusal}
use Rattle.qs_runs.specs.Pasts.{Past, PieceOf, TellsEnd, Tells}
use Rattle.qs_runs.specs.Invariant.{EndOk, StoodIn, RecvTrue, RecvSlot, RecvOk, SendOk, SendSlot, OpenOk, is_open}
use Rattle.qs_runs.proofs.Lists.{Among_push, Among_take}
use Rattle.qs_runs.proofs.Members.{get-inserted, get-removed}
use Rattle.qs_runs.proofs.Acking.{one_less_ok, with_records, was_reset_ok}
use Rattle.std.proofs.lemmas.Option.{none-some, slice_get-map}
use Rattle.std.proofs.lemmas.Bool.{eq-eqb, ne_eqb, leb-false}
use Rattle.qs_wire.specs.declared.stream_id.Dir.{Dir}
use Rattle.qs_wire.specs.declared.stream_id.Dir.TheVariants.{Bidi, Uni}
use Rattle.qs_recv.specs.Assembled.{front, front_of}
use Rattle.qs_recv.specs.Lane.{RecvLane, read_answer, bytes_of, bytes_read, after_answer, after_read, stop, stop_and_discard, is_over}
use Rattle.qs_recv.specs.declared.half.Read.{Read}
use Rattle.qs_recv.specs.declared.half.Read.TheVariants as reads
use Rattle.qs_send.specs.Lane.{SendLane, refusal, reset_refusal, write_lane, finish_lane, reset_lane, buffer_lane, allow_lane}
use Rattle.qs_send.specs.declared.parts.SendFault.{SendFault}
use Rattle.qs_calls.specs.declared.making.Made.{Made}
use Rattle.qs_calls.specs.declared.making.MakeFault.{MakeFault}
use Rattle.qs_calls.specs.declared.making.MakeFault.TheVariants as making
use Rattle.qs_calls.specs.declared.making.LostFault.{LostFault}
use Rattle.qs_calls.specs.declared.reading.Consumed.{Consumed}
use Rattle.qs_calls.specs.declared.token.Token.{Token}
use Rattle.qs_calls.specs.declared.token.TokenFault.{TokenFault}
use Rattle.qs_calls.specs.declared.uses.OpenFault.{OpenFault}
use Rattle.qs_calls.specs.declared.uses.OpenFault.TheVariants as opening
use Rattle.qs_calls.specs.declared.uses.UseFault.{UseFault}
use Rattle.qs_calls.specs.declared.uses.UseFault.TheVariants.{NoMemory, Closed}
use Rattle.qs_machine.specs.Tables.{lookup, update, updated, Tables}
use Rattle.qs_machine.specs.Credit.{settle, all_taken}
use Rattle.qs_machine.specs.Seen.{Seen, seen_all, Control}
use Rattle.qs_machine.specs.Due.{known_count}
use Rattle.qs_machine.specs.Owner.{first_refusal, refuse_if, send_refusal, recv_refusal, is_read_no_more, half_refusal, no_half, opened_count, own_type, peer_type, with_wanted, OpenStep, IsBlocked, IsOpened, AcceptStep, AcceptOfStep, GivesNone, GivesBidi, GivesUni, AcceptOpen, AcceptOpenOf, WriteStep, FinishStep, ResetStep, StopStep, ReadStep, ReadBy, next_stream, accepted_by, consumed, is_end as is_told_end, Certain, StopAndDiscardStep}
use Rattle.qs_machine.specs.Alone.{TokenLostStep, LosesEach}
use Rattle.qs_calls.specs.declared.closing.Closed.{Closed as ClosedEnd}
use Rattle.qs_calls.specs.declared.closing.NotedClose.{NotedClose}
use Rattle.qs_machine.specs.Receiving.{noted_by}
use Rattle.qs_machine.specs.Laws.{StaysOnceClosed}
use Rattle.qs_machine.specs.EndStep.{Call, Answer, EndStep, Open, Accept, AcceptOf, Write, Finish, Reset, Stop, StopAndDiscard, ReadUpTo, Consume, Peek, Receive, TakeFrame, TakeFrames, TokenAcked, TokenLost, Make, MakeAck, FillIn, Lose, Claim, RaiseLimits, Set, NoteClosed, ClosingPayload, Stored, Granted, Spent, GrantedStreams, Report}
use Rattle.qs_runs.specs.Logs.{Stopped, Ended, Sent, if_ok, read_effects, effects_of}
use Rattle.qs_runs.proofs.Past.{with_effect, with_effects, effects_joined}
use Rattle.qs_machine.specs.Owner.{AreTaken, TakesBytes}
use Rattle.qs_machine.proofs.TableLaws.{lookup_same, value, with_same, with_other, lookup_in, total_le}
use Rattle.qs_runs.proofs.Changes.{Grows, Grows_refl, send_alike, send_same, recv_alike, granted_more, send_kept, settle_ok, window_ok, write_allowed, wrote_ok, not_at_end, end_by_fin, read_bytes_ok, read_told_ok, told_grows, stop_ok, stop_grows, recv_view, some_mapped, end_anew}
use Rattle.qs_runs.proofs.Making.{made_ok, claimed_ok}
use Rattle.qs_runs.proofs.Standing.{certain_cases, uncertain_cases}
use Rattle.qs_runs.proofs.Wire.{text_seen, ping_seen}
use Rattle.qs_runs.proofs.Frames.{open_known, next_own, next_below, own_opened}
use Rattle.qs_calls.specs.declared.settings.SetFault.{SetFault}
use Rattle.qs_machine.specs.Setting.{Setting, ConnWindow, Grant, SendBuffer, SetStep, with_setting, StreamWindow}
use Rattle.qs_machine.proofs.Rising.{window_grows}
use Rattle.qs_send.specs.declared.piece.Item.TheVariants.{MaxData, MaxStreams}
use Rattle.qs_calls.specs.declared.settings.PeerLimits.{PeerLimits}
use Rattle.qs_calls.specs.declared.settings.RaiseFault.{RaiseFault}
use Rattle.qs_machine.specs.Raising.{knows_limits, type_allowed, with_allowed, limits_raised, raise_refusal, RaiseStep}
use Rattle.qs_machine.proofs.EveryCall.{by_test, same_either}

-- Pieces of a packet that are lost: each stood in that packet, and stands in its lost record now.

module _ (p : Past) (k : ℕ) where
  with_piece_ok : (m : Records) (x : Piece) → StoodIn p.mine m → PieceOf p.mine k x → (o : Option (List Piece)) → fmap.get m k ≡ o → StoodIn p.mine (with_piece m k x o)
  with_piece_ok m x stood this None is j ps piece there a =
      elim (get-inserted m k (x ∷ []) j ps there) [
        | inl old ↦ stood j ps piece old a
        | inr new ↦ elim (subst (Among piece) (sym new.1) a) [ inl same ↦ subst (λ i. PieceOf p.mine i piece) (sym new.0) (subst (PieceOf p.mine k) (sym same) this) | inr none ↦ absurd none ]
      ]
  with_piece_ok m x stood this (Some qs) is j ps piece there a =
      elim (get-inserted m k (qs ++ x ∷ []) j ps there) [
        | inl old ↦ stood j ps piece old a
        | inr new ↦ elim (Among_push qs x piece (subst (Among piece) (sym new.1) a)) [
          | inl before ↦ stood j qs piece (rw new.0 is) before
          | inr same ↦ subst (λ i. PieceOf p.mine i piece) (sym new.0) (subst (PieceOf p.mine k) (sym same) this)
        ]
      ]

  without_oldest_ok : (m : Records) (order : List ℕ) → StoodIn p.mine m → StoodIn p.mine (without_oldest m order)
  without_oldest_ok m [] stood = stood
  without_oldest_ok m (i ∷ order) stood = go (leb MOST_LOST (length order))
    where
      go : (b : Bool) → StoodIn p.mine (if b then fmap.remove m i else m)
      go true j ps piece there a = stood j ps piece (get-removed m i j ps there) a
      go false j ps piece there a = stood j ps piece there a

  lost_with_ok : (l : LostPackets) (x : Piece) → StoodIn p.mine l.pieces → PieceOf p.mine k x → StoodIn p.mine (lost_with k x l).pieces
  lost_with_ok l x stood this = without_oldest_ok _ (with_number l.order k (fmap.contains_key l.pieces k)) (with_piece_ok l.pieces x stood this (fmap.get l.pieces k) refl)

  first_lost_ok : (x : Piece) (e : End) → PieceOf p.mine k x → EndOk p e → EndOk p (first_lost k x e)
  first_lost_ok x e this ok =
      with_records p e e.next (without_first e.outstanding k (fmap.get e.outstanding k)) (lost_with k x e.lost) ok ok.packets.count (one_less_ok p e.outstanding k ok.packets.records) (lost_with_ok e.lost x ok.packets.lost_records this)

  pub losses_ok : (ps : List Piece) (e : End) → ((x : Piece) → Among x ps → PieceOf p.mine k x) → EndOk p e → EndOk p (losses k ps e)
  unfolding losses
  losses_ok [] e all ok = ok
  losses_ok (x ∷ ps) e all ok = losses_ok ps (first_lost k x e) (λ y a. all y (inr a)) (first_lost_ok x e (all x (inl refl)) ok)

-- Each call of its owner keeps the invariant of an end.

-- what a read gave and told
abbrev pub with_read : Past → ℕ → Read → List ℕ → Past
with_read p n answer given = with_effects (read_effects n answer given) p

-- What speaks against a call

no_refusal : {F : Type 0} (a b : Option F) → first_refusal a b ≡ None → (a ≡ None) × (b ≡ None)
no_refusal a b e = grind (arith, nat_tests)

no_half_refusal : (o : Option SendFault) → half_refusal o ≡ None → o ≡ None
no_half_refusal o e = grind (arith, nat_tests)

-- fields of which the invariant doesn't speak
rest_ok : (p : Past) (e : End) (ab au : ℕ) (wb wu : Option ℕ) → EndOk p e → EndOk p (record e { accepted_bidi = ab; accepted_uni = au; wanted_bidi = wb; wanted_uni = wu })
rest_ok p e ab au wb wu ok = record { sends = ok.sends; recvs = ok.recvs; packets = ok.packets; taken = ok.taken; credit = ok.credit; streams = ok.streams }

wanted_ok : (p : Past) (e : End) (d : Dir) (count : ℕ) → EndOk p e → EndOk p (with_wanted d count e)
wanted_ok p e Bidi count ok = rest_ok p e e.accepted_bidi e.accepted_uni (Some count) e.wanted_uni ok
wanted_ok p e Uni count ok = rest_ok p e e.accepted_bidi e.accepted_uni e.wanted_bidi (Some count) ok

pub ended_by : (p : Past) (e new : End) → new ≡ e → EndOk p e → EndOk p new
ended_by p e new is ok = subst (EndOk p) (sym is) ok

module _ (p : Past) (e new : End) (ok : EndOk p e) where
  -- Opening

  open_moves : (d : Dir) (answer : Result ℕ OpenFault) → OpenStep e d answer new → EndOk p new
  open_moves d answer step =
      elim (certain_cases (refuse_if (is_some e.closed) opening.Closed) e answer new _ step) [
        | inl (fault, is, same) ↦ ended_by p e new same ok
        | inr (allowed, h) ↦ by _ refl h
      ]
    where
      by : (b : Bool) → nat_le (known_count e d) (opened_count e (own_type e d)) ≡ b → MatchBool b (IsBlocked e d answer new) (IsOpened e d answer new) → EndOk p new
      by true le h = ended_by p _ new h.1 (settle_ok p _ (wanted_ok p e d (known_count e d) ok))
      by false gt (inl h) = ended_by p _ new h.1 ok
      by false gt (inr h) = ended_by p _ new h.1 (settle_ok p _ (own_opened p e (next_stream e d) ok (next_own e d) (next_below e d (leb-false _ _ gt))))

  gives_none : (answer : Option ℕ) → GivesNone e answer new → EndOk p new
  gives_none answer h = ended_by p _ new h.1 ok

  gives_bidi : (answer : Option ℕ) → GivesBidi e answer new → EndOk p new
  gives_bidi answer h = ended_by p _ new h.1 (settle_ok p _ (rest_ok p e (e.accepted_bidi + 1) e.accepted_uni e.wanted_bidi e.wanted_uni ok))

  gives_uni : (answer : Option ℕ) → GivesUni e answer new → EndOk p new
  gives_uni answer h =
      by_test (EndOk p new) _ ((answer ≡ Some (e.accepted_uni * 4 + peer_type e Uni)) × (new ≡ settle (record e { accepted_uni = e.accepted_uni + 1 }))) (GivesNone e answer new) h
      (λ is. ended_by p _ new is.1 (settle_ok p _ (rest_ok p e e.accepted_bidi (e.accepted_uni + 1) e.wanted_bidi e.wanted_uni ok))) (gives_none answer)

  accept_moves : (answer : Option ℕ) → AcceptStep e answer new → EndOk p new
  accept_moves answer step =
      by_test (EndOk p new) _ (GivesNone e answer new) (AcceptOpen e answer new) step (gives_none answer)
      (λ goes. by_test (EndOk p new) _ (GivesBidi e answer new) (GivesUni e answer new) goes (gives_bidi answer) (gives_uni answer))

  accept_of_moves : (d : Dir) (answer : Option ℕ) → AcceptOfStep e d answer new → EndOk p new
  accept_of_moves Bidi answer step =
      by_test (EndOk p new) _ (GivesNone e answer new) (AcceptOpenOf e Bidi answer new) step (gives_none answer)
      (λ goes. by_test (EndOk p new) _ (GivesBidi e answer new) (GivesNone e answer new) goes (gives_bidi answer) (gives_none answer))
  accept_of_moves Uni answer step = by_test (EndOk p new) _ (GivesNone e answer new) (AcceptOpenOf e Uni answer new) step (gives_none answer) (gives_uni answer)

  -- Sending

  write_moves : (n : ℕ) (bytes : List ℕ) (answer : Result ℕ UseFault) → WriteStep e n bytes answer new → EndOk (with_effects (effects_of (Write n bytes) answer) p) new
  write_moves n bytes answer step =
      elim (uncertain_cases (send_refusal e n refusal) NoMemory _ e answer new _ step) [
        | inl (fault, is, same) ↦ subst (λ a. EndOk (with_effects (effects_of (Write n bytes) a) p) new) (sym is) (ended_by p e new same ok)
        | inr (allowed, (l, there, (is, same))) ↦ (
            let count : ℕ = accepted_by e l (length bytes) in
            let (none, open_end) = write_allowed l (no_half_refusal (refusal l) (no_refusal (refuse_if (is_some e.closed) Closed) (half_refusal (refusal l)) (rw there at allowed)).1) in
            let moved = settle_ok _ _ (wrote_ok p e n ok (take count bytes) l there none open_end) in
            let e_same : record e { sends = update e.sends n (write_lane l (take count bytes)) } ≡ on_send n (λ m. write_lane m (take count bytes)) e = ap (λ o. record e { sends = updated e.sends n (λ m. write_lane m (take count bytes)) o }) (sym there) in
            subst (λ a. EndOk (with_effects (effects_of (Write n bytes) a) p) new) (sym is) (ended_by _ _ new (same ∙ ap settle (sym e_same)) moved))
      ]

  finish_moves : (n : ℕ) (answer : Result (Unit {0}) UseFault) → FinishStep e n answer new → EndOk p new
  finish_moves n answer step =
      elim (certain_cases (send_refusal e n refusal) e answer new _ step) [
        | inl (fault, is, same) ↦ ended_by p e new same ok
        | inr (allowed, (is, same)) ↦ ended_by p _ new same (settle_ok p _ (send_kept p e n ok finish_lane (λ l there h. (send_alike h (λ own. own) (λ is. refl) (λ f t. t) (λ k ack. ack) h.sent_limit h.limit_told, refl))))
      ]

  reset_moves : (n code : ℕ) (answer : Result (Unit {0}) UseFault) → ResetStep e n code answer new → EndOk (with_effects (effects_of (Reset n code) answer) p) new
  reset_moves n code answer step =
      elim (certain_cases (send_refusal e n reset_refusal) e answer new _ step) [
        | inl (fault, is, same) ↦ subst (λ a. EndOk (with_effects (effects_of (Reset n code) a) p) new) (sym is) (ended_by p e new same ok)
        | inr (allowed, (is, same)) ↦ subst (λ a. EndOk (with_effects (effects_of (Reset n code) a) p) new) (sym is) (ended_by _ _ new same (settle_ok _ _ (was_reset_ok p e n ok code)))
      ]

  -- Receiving

  -- the half that a call speaks of
  half_changed : (q : Past) (n : ℕ) (f : RecvLane → RecvLane) (l : RecvLane) → lookup e.recvs n ≡ Some l → (given : ℕ → List ℕ) (stopped ended : ℕ → Bool) →
      q ≡ record p { gave = given; stopped = stopped; ended = ended } → ((j : ℕ) → j ≢ n → (given j ≡ p.gave j) × (stopped j ≡ p.stopped j) × (ended j ≡ p.ended j)) →
      RecvTrue p.mine p.theirs (given n) (stopped n) (ended n) n (first_window e n) (f l) → Grows l (f l) → EndOk q (on_recv n f e)
  half_changed q n f l there given stopped ended view same this g =
      let e_same : record e { recvs = update e.recvs n (f l) } ≡ on_recv n f e = ap (λ o. record e { recvs = updated e.recvs n f o }) (sym there) in
      subst (λ x. EndOk x (on_recv n f e)) (sym view) (subst (EndOk _) e_same (recv_view p e n ok given stopped ended l (f l) same there this g))

  -- and then the limits move
  changed_half : (q : Past) (n : ℕ) (f : RecvLane → RecvLane) (l : RecvLane) → lookup e.recvs n ≡ Some l → (given : ℕ → List ℕ) (stopped ended : ℕ → Bool) →
      q ≡ record p { gave = given; stopped = stopped; ended = ended } → ((j : ℕ) → j ≢ n → (given j ≡ p.gave j) × (stopped j ≡ p.stopped j) × (ended j ≡ p.ended j)) →
      RecvTrue p.mine p.theirs (given n) (stopped n) (ended n) n (first_window e n) (f l) → Grows l (f l) → new ≡ settle (on_recv n f e) → EndOk q new
  changed_half q n f l there given stopped ended view same this g is = ended_by _ _ new is (settle_ok _ _ (half_changed q n f l there given stopped ended view same this g))

  -- a half is stopped by such a change
  stops_by : (n : ℕ) (f : RecvLane → RecvLane) (answer : Result (Unit {0}) UseFault) → Certain (recv_refusal (is_some e.closed) e n) e answer new ((answer ≡ Ok tt) × (new ≡ settle (on_recv n f e)))
      → ((l : RecvLane) → RecvOk p n (first_window e n) l → RecvTrue p.mine p.theirs (p.gave n) true (p.ended n) n (first_window e n) (f l) × Grows l (f l)) → EndOk (with_effects (if_ok answer (λ done. Stopped n ∷ [])) p) new
  stops_by n f answer step stops =
      elim (certain_cases (recv_refusal (is_some e.closed) e n) e answer new _ step) [
        | inl (fault, is, same) ↦ subst (λ a. EndOk (with_effects (if_ok a (λ done. Stopped n ∷ [])) p) new) (sym is) (ended_by p e new same ok)
        | inr (allowed, (is, same)) ↦ subst (λ a. EndOk (with_effects (if_ok a (λ done. Stopped n ∷ [])) p) new) (sym is) (go allowed (lookup e.recvs n) refl same)
      ]
    where
      go : recv_refusal (is_some e.closed) e n ≡ None → (o : Option RecvLane) → lookup e.recvs n ≡ o → new ≡ settle (on_recv n f e) → EndOk (with_effect (Stopped n) p) new
      go allowed None there same = absurd (none-some _ (sym (no_refusal (refuse_if (is_some e.closed) Closed) (Some (no_half (is_some (send_lane e n)))) (rw there at allowed)).1))
      go allowed (Some l) there same =
          let h : RecvOk p n (first_window e n) l = subst (RecvSlot p n (first_window e n)) there (ok.recvs n) in
          let (stopped, grows) = stops l h in
          changed_half _ n f l there p.gave (λ m. if m == n then true else p.stopped m) p.ended refl
          (λ j ne. (refl, rw (ne_eqb j n ne) refl, refl))
          (subst (λ b. RecvTrue p.mine p.theirs (p.gave n) (if b then true else p.stopped n) (p.ended n) n (first_window e n) (f l)) (sym (eq-eqb n n refl)) stopped)
          grows same

  stop_moves : (n code : ℕ) (answer : Result (Unit {0}) UseFault) → StopStep e n code answer new → EndOk (with_effects (effects_of (Stop n code) answer) p) new
  stop_moves n code answer step =
      stops_by n (λ m. stop m code) answer step (λ l h. (stop_ok p n (first_window e n) l h code (is_some l.stop_code || is_over l), stop_grows p n (first_window e n) l h code (is_some l.stop_code || is_over l)))

  forget_moves : (n code : ℕ) (answer : Result (Unit {0}) UseFault) → StopAndDiscardStep e n code answer new → EndOk (with_effects (effects_of (StopAndDiscard n code) answer) p) new
  forget_moves n code answer step =
      stops_by n (λ m. stop_and_discard m code) answer step (λ l h. (
        (let stopped = stop_ok p n (first_window e n) l h code (is_some l.stop_code || is_over l) in recv_alike stopped (omega arith) stopped.ended),
        told_grows l _ (stop_grows p n (first_window e n) l h code (is_some l.stop_code || is_over l)),
      ))

  -- a half is read
  pub half_read : (n size : ℕ) (l : RecvLane) → lookup e.recvs n ≡ Some l → (a : Read) → read_answer l size ≡ a → EndOk (with_read p n a (bytes_of a l size)) (on_recv n (λ m. after_read m size) e)
  half_read n size l there a at =
      let h : RecvOk p n (first_window e n) l = subst (RecvSlot p n (first_window e n)) there (ok.recvs n) in
      go h a at
    where
      -- what is told leaves all that is known
      none_lost : (a : Read) → read_answer l size ≡ a → Grows l (after_answer a l size) → Grows l (after_read l size)
      none_lost a at g = subst (λ x. Grows l (after_answer x l size)) (sym at) g

      ended_now : RecvOk p n (first_window e n) l → read_answer l size ≡ reads.End → (if n == n && not (p.stopped n) then true else p.ended n) ≡ true → (end : ℕ) × (l.arrived.read_count ≡ end) × (l.final_size ≡ Some end) × TellsEnd p.theirs n end
      ended_now h at is = split (p.stopped n) refl is
        where
          split : (b : Bool) → p.stopped n ≡ b → (if n == n && not b then true else p.ended n) ≡ true → (end : ℕ) × (l.arrived.read_count ≡ end) × (l.final_size ≡ Some end) × TellsEnd p.theirs n end
          split false unstopped is = end_by_fin p n (first_window e n) l h size at (h.not_stopped unstopped)
          split true stopped is = (let was : p.ended n ≡ true = rw (eq-eqb n n refl) at is in h.ended was)

      go : RecvOk p n (first_window e n) l → (a : Read) → read_answer l size ≡ a → EndOk (with_read p n a (bytes_of a l size)) (on_recv n (λ m. after_read m size) e)
      go h (reads.Bytes count) at =
          half_changed _ n (λ m. after_read m size) l there (λ m. p.gave m ++ (if m == n then front_of l.arrived size else [])) p.stopped p.ended refl
          (λ j ne. (rw (ne_eqb j n ne) (append-nil (p.gave j)), refl, refl))
          (subst (λ b. RecvTrue p.mine p.theirs (p.gave n ++ (if b then front_of l.arrived size else [])) (p.stopped n) (p.ended n) n (first_window e n) (after_read l size)) (sym (eq-eqb n n refl))
          (subst (λ a. RecvTrue p.mine p.theirs (p.gave n ++ front_of l.arrived size) (p.stopped n) (p.ended n) n (first_window e n) (after_answer a l size)) (sym at)
          (read_bytes_ok p n (first_window e n) l h size count (not_at_end l size count at))))
          (none_lost (reads.Bytes count) at (record { received = λ q is. is; final = λ x is. is; reset = λ none. none }))
      go h reads.End at =
          half_changed _ n (λ m. after_read m size) l there p.gave p.stopped (λ m. if m == n && not (p.stopped m) then true else p.ended m) refl
          (λ j ne. (refl, refl, rw (ne_eqb j n ne) refl))
          (subst (λ a. RecvTrue p.mine p.theirs (p.gave n) (p.stopped n) (if n == n && not (p.stopped n) then true else p.ended n) n (first_window e n) (after_answer a l size)) (sym at)
          (read_told_ok p n (first_window e n) l h _ (λ is. ended_now h at is)))
          (none_lost reads.End at (record { received = λ q is. is; final = λ x is. is; reset = λ none. none }))
      go h (reads.Reset c) at =
          half_changed _ n (λ m. after_read m size) l there p.gave p.stopped p.ended refl (λ j ne. (refl, refl, refl))
          (subst (λ a. RecvTrue p.mine p.theirs (p.gave n) (p.stopped n) (p.ended n) n (first_window e n) (after_answer a l size)) (sym at) (read_told_ok p n (first_window e n) l h (p.ended n) h.ended))
          (none_lost (reads.Reset c) at (record { received = λ q is. is; final = λ x is. is; reset = λ none. none }))
      go h reads.Wait at =
          half_changed _ n (λ m. after_read m size) l there p.gave p.stopped p.ended refl (λ j ne. (refl, refl, refl))
          (subst (λ a. RecvTrue p.mine p.theirs (p.gave n) (p.stopped n) (p.ended n) n (first_window e n) (after_answer a l size)) (sym at) h)
          (none_lost reads.Wait at (Grows_refl l))

  read_moves : (n size : ℕ) (answer : Answer (ReadUpTo n size)) → ReadStep e n size answer.0 answer.1 new → EndOk (with_effects (effects_of (ReadUpTo n size) answer) p) new
  read_moves n size answer step = by (recv_refusal (is_read_no_more e) e n) step
    where
      by : (o : Option UseFault) → ReadBy o e n size answer.0 answer.1 new → EndOk (with_effects (effects_of (ReadUpTo n size) answer) p) new
      by (Some fault) (is, none, same) = subst (λ a. EndOk (with_effects (if_ok a (λ told. read_effects n told answer.1)) p) new) (sym is) (ended_by p e new same ok)
      by None (l, there, is, given, same) =
          subst (λ a. EndOk (with_effects (if_ok a (λ told. read_effects n told answer.1)) p) new) (sym is)
          (subst (λ bytes. EndOk (with_read p n (read_answer l size) bytes) new) (sym given) (ended_by _ _ new same (settle_ok _ _ (half_read n size l there (read_answer l size) refl))))

  -- Packets

  made_moves : (first delay room : ℕ) (made : Made) (text : List ℕ) → IsMade e first delay room made text new → EndOk (with_effect (Sent text) p) new
  made_moves first delay room made text h =
      let frames : List Seen = seen_all h.frames in
      subst (λ x. EndOk (record p { mine = p.mine ++ x ∷ [] }) new) (sym (text_seen delay h.frames text h.lawful.some h.spells)) (ended_by _ _ new h.after (made_ok p e h.mid frames ok h.lawful))

  pub packet_moves : (first delay room : ℕ) (answer : Result (Option Made) MakeFault) (text : List ℕ) → MakeStep e first delay room answer text new → EndOk (with_effects (effects_of (Make first delay room) (answer, text)) p) new
  packet_moves first delay room answer text step = by (make_refusal e) answer step
    where
      by : (o : Option MakeFault) (answer : Result (Option Made) MakeFault) → MakeAt o e first delay room answer text new → EndOk (with_effects (effects_of (Make first delay room) (answer, text)) p) new
      by (Some fault) answer h = subst (λ a. EndOk (with_effects (effects_of (Make first delay room) (a, text)) p) new) (sym h.0) (ended_by p e new h.2 ok)
      by None (Ok (Some made)) h = made_moves first delay room made text h
      by None (Err making.Closed) h = absurd h
      by None (Err making.Exhausted) h = absurd h
      by None answer h = ended_by p e new h.2 ok

  lose_moves : (k : ℕ) (answer : Result (Unit {0}) LostFault) → LoseStep e k answer new → EndOk p new
  lose_moves k answer step =
      elim (certain_cases (lose_refusal e k) e answer new _ step) [
        | inl (fault, is, same) ↦ ended_by p e new same ok
        | inr (allowed, (ps, there, inl (is, same))) ↦ ended_by p _ new same (losses_ok p k ps e (λ x a. ok.packets.records k ps x there a) ok)
        | inr (allowed, (ps, there, inr (moved, lt, is, same))) ↦ ended_by p _ new same (losses_ok p k (take moved ps) e (λ x a. ok.packets.records k ps x there (Among_take moved ps x a)) ok)
      ]

  pub claim_moves : (answer : Result ℕ MakeFault) → ClaimStep e answer new → EndOk (with_effects (effects_of Claim answer) p) new
  claim_moves answer step =
      elim (certain_cases (claim_refusal e) e answer new _ step) [
        | inl (fault, is, same) ↦ subst (λ a. EndOk (with_effects (effects_of Claim a) p) new) (sym is) (ended_by p e new same ok)
        | inr (allowed, (is, same)) ↦ subst (λ a. EndOk (with_effects (effects_of Claim a) p) new) (sym is)
            (subst (λ fs. EndOk (record p { mine = p.mine ++ fs ∷ [] }) new) (sym ping_seen) (ended_by _ _ new same (claimed_ok p e ok)))
      ]

-- Bytes are taken without a copy: a read of so many, and one of none.

-- a read of none gives nothing
none_in_front : (l : RecvLane) → front_of l.arrived 0 ≡ []
unfolding front
none_in_front l = refl

none_given : (p : Past) (n count : ℕ) → with_read p n (reads.Bytes count) [] ≡ p
none_given p n count = λ i. record p { gave = λ m. (ap (λ x. p.gave m ++ x) (same_either (λ x. x) (m == n) [] [] refl) ∙ append-nil (p.gave m)) i }

module _ (p : Past) (e new : End) (ok : EndOk p e) (n most : ℕ) (bytes : List ℕ) where
  abbrev Ends : Result Consumed UseFault → Type 0
  Ends answer = EndOk (with_effects (effects_of (Consume n most) (answer, bytes)) p) new

  consume_moves : (answer : Result Consumed UseFault) → TakesBytes e n most answer bytes new → Ends answer
  consume_moves answer (step, taken) =
      elim (certain_cases (recv_refusal (is_read_no_more e) e n) e answer new _ step) [
        | inl (fault, is, same) ↦ subst Ends (sym is) (ended_by p e new same ok)
        | inr (allowed, (l, there, is, same)) ↦ subst Ends (sym is) (both l there (subst (λ a. AreTaken e n most a bytes) is taken l there) same)
      ]
    where
      once : RecvLane → Past
      once l = with_read p n (read_answer l most) bytes

      both : (l : RecvLane) → lookup e.recvs n ≡ Some l → bytes ≡ bytes_read l most → new ≡ settle (on_recv n (λ m. after_read m 0) (on_recv n (λ m. after_read m most) e)) → Ends (Ok (consumed l most))
      both l there given same =
          let first : EndOk (once l) (on_recv n (λ m. after_read m most) e) =
          subst (λ bs. EndOk (with_read p n (read_answer l most) bs) (on_recv n (λ m. after_read m most) e)) (sym given) (half_read p e new ok n most l there (read_answer l most) refl) in
          let last : Read = read_answer (after_read l most) 0 in
          ended_by _ _ new same (settle_ok _ _ (second last (half_read (once l) (on_recv n (λ m. after_read m most) e) new first n 0 (after_read l most) (ap (λ o. lookup (updated e.recvs n (λ m. after_read m most) o) n) there ∙ lookup_same e.recvs n l (after_read l most) there) last refl)))
        where
          after : End
          after = on_recv n (λ m. after_read m 0) (on_recv n (λ m. after_read m most) e)

          -- what the second read told, behind the first one
          joined : (b : Bool) → EndOk (with_effects (if b then Ended n ∷ [] else []) (once l)) after → EndOk (with_effects (read_effects n (read_answer l most) bytes ++ (if b then Ended n ∷ [] else [])) p) after
          joined b h = subst (λ q. EndOk q after) (sym (effects_joined (read_effects n (read_answer l most) bytes) (if b then Ended n ∷ [] else []) p)) h

          second : (a : Read) → EndOk (with_read (once l) n a (bytes_of a (after_read l most) 0)) after →
              EndOk (with_effects (read_effects n (read_answer l most) bytes ++ (if is_told_end a then Ended n ∷ [] else [])) p) after
          second (reads.Bytes count) h = joined false (subst (λ x. EndOk x after) (none_given (once l) n count) (subst (λ given. EndOk (with_read (once l) n (reads.Bytes count) given) after) (none_in_front (after_read l most)) h))
          second reads.End h = joined true h
          second (reads.Reset code) h = joined false h
          second reads.Wait h = joined false h

lose_each_moves : (p : Past) (count first : ℕ) (e new : End) (answer : Result (Unit {0}) TokenFault) → EndOk p e → LosesEach count first e answer new → EndOk p new
lose_each_moves p zero first e new answer ok step = ended_by p e new step.1 ok
lose_each_moves p (suc n) first e new answer ok (inl (mid, (declared, lost, is), later)) = lose_each_moves p n first mid new answer (lose_moves p e mid ok (first + n) declared lost) later
lose_each_moves p (suc n) first e new answer ok (inr (fault, (declared, lost, is), failed)) = lose_moves p e new ok (first + n) declared lost

token_lost_moves : (p : Past) (e new : End) → EndOk p e → (t : Token) (answer : Result (Unit {0}) TokenFault) → TokenLostStep e t answer new → EndOk p new
token_lost_moves p e new ok t answer step = grind (arith, nat_tests, certain_cases, ended_by, lose_each_moves)

-- What holds of an end in a run holds of it once windows, a buffer or a grant were set anew.

set_ok : (p : Past) (e : End) (x : Setting) → EndOk p e → EndOk p (with_setting x e)
set_ok p e (ConnWindow w) ok = end_anew ok ok.sends (granted_more _ ok.credit (window_grows e.present.conn_window e.granted (all_taken e) w)) ok.streams
set_ok p e (Grant Bidi n) ok = end_anew ok ok.sends ok.credit ok.streams
set_ok p e (Grant Uni n) ok = end_anew ok ok.sends ok.credit ok.streams
set_ok p e (SendBuffer n size) ok = send_kept p e n ok (λ m. buffer_lane m size) (λ l there h. (send_same h, refl))
set_ok p e (StreamWindow n w) ok = window_ok p e n w ok

set_moves : (p : Past) (e new : End) (x : Setting) (answer : Result (Unit {0}) SetFault) → EndOk p e → SetStep e x answer new → EndOk p new
set_moves p e new x answer ok step = grind (arith, nat_tests, certain_cases, ended_by, settle_ok, set_ok)

-- Limits of the peer that rise keep the invariant of an end.

-- The halves of a type

module _ (t : Tables SendLane) (k limit n : ℕ) where
  type_at : n % 4 ≡ k % 4 → lookup (type_allowed (k % 4) limit t) n ≡ option_map (λ (l : SendLane). allow_lane l limit) (lookup t n)
  type_at e = grind (arith, nat_tests, with_same, slice_get-map, option_map, lookup_in)

  type_beside : (n % 4 ≡ k % 4 → ⊥) → lookup (type_allowed (k % 4) limit t) n ≡ lookup t n
  type_beside ne = with_other t k n _ ne

module _ (e : End) (n : ℕ) where
  abbrev t0 : Tables SendLane
  t0 = type_allowed 0 (first_send_limit e 0) e.sends

  abbrev t1 : Tables SendLane
  t1 = type_allowed 1 (first_send_limit e 1) t0

  abbrev t2 : Tables SendLane
  t2 = type_allowed 2 (first_send_limit e 2) t1

  -- the half of each stream may send what one may that opens now
  allowed_by : (r : ℕ) → n % 4 ≡ r → lookup (with_allowed e).sends n ≡ option_map (λ (l : SendLane). allow_lane l (first_send_limit e n)) (lookup e.sends n)
  allowed_by zero is =
      type_beside t2 3 (first_send_limit e 3) n (λ x. omega (arith, x, is)) ∙ type_beside t1 2 (first_send_limit e 2) n (λ x. omega (arith, x, is)) ∙ type_beside t0 1 (first_send_limit e 1) n (λ x. omega (arith, x, is))
      ∙ type_at e.sends 0 (first_send_limit e 0) n is ∙ rw is refl
  allowed_by (suc zero) is =
      type_beside t2 3 (first_send_limit e 3) n (λ x. omega (arith, x, is)) ∙ type_beside t1 2 (first_send_limit e 2) n (λ x. omega (arith, x, is)) ∙ type_at t0 1 (first_send_limit e 1) n is
      ∙ ap (option_map (λ (l : SendLane). allow_lane l (first_send_limit e 1))) (type_beside e.sends 0 (first_send_limit e 0) n (λ x. omega (arith, x, is))) ∙ rw is refl
  allowed_by (suc (suc zero)) is =
      type_beside t2 3 (first_send_limit e 3) n (λ x. omega (arith, x, is)) ∙ type_at t1 2 (first_send_limit e 2) n is
      ∙ ap (option_map (λ (l : SendLane). allow_lane l (first_send_limit e 2))) (type_beside t0 1 (first_send_limit e 1) n (λ x. omega (arith, x, is)) ∙ type_beside e.sends 0 (first_send_limit e 0) n (λ x. omega (arith, x, is))) ∙ rw is refl
  allowed_by (suc (suc (suc zero))) is =
      type_at t2 3 (first_send_limit e 3) n is
      ∙ ap (option_map (λ (l : SendLane). allow_lane l (first_send_limit e 3))) (type_beside t1 2 (first_send_limit e 2) n (λ x. omega (arith, x, is)) ∙ type_beside t0 1 (first_send_limit e 1) n (λ x. omega (arith, x, is)) ∙ type_beside e.sends 0 (first_send_limit e 0) n (λ x. omega (arith, x, is))) ∙ rw is refl
  allowed_by (suc (suc (suc (suc r)))) is = absurd (omega (arith, is))

  pub allowed_at : lookup (with_allowed e).sends n ≡ option_map (λ (l : SendLane). allow_lane l (first_send_limit e n)) (lookup e.sends n)
  allowed_at = allowed_by (n % 4) refl

sent_allowed : (limit : ℕ) (o : Option SendLane) → value (λ l. l.sent_end) (option_map (λ (l : SendLane). allow_lane l limit) o) ≤ value (λ l. l.sent_end) o
sent_allowed limit o = grind (arith, nat_tests)

-- The invariant

module _ (p : Past) (e : End) (q : PeerLimits) (ok : EndOk p e) where
  abbrev knows : End
  knows = knows_limits q e

  first_rises : (u o : Bool) → (if u then e.peer.uni else (if o then e.peer.bidi_remote else e.peer.bidi_local)) ≤ (if u then max e.peer.uni q.uni else (if o then max e.peer.bidi_remote q.bidi_remote else max e.peer.bidi_local q.bidi_local))
  first_rises u o = grind (arith, nat_tests)

  -- what is known is at most the first limit, or was told
  told_raised : (known first more : ℕ) (f : ℕ → Seen) → (known ≤ first) ⊎ Tells p.theirs (f known) → (max known more ≤ max first more) ⊎ Tells p.theirs (f (max known more))
  told_raised known first more f h = grind (arith, nat_tests)

  half_allowed : (n first more : ℕ) (l : SendLane) → first ≤ more → SendOk p n first l → SendOk p n more (allow_lane l more)
  half_allowed n first more l rises h = grind (arith, nat_tests)

  slot_allowed : (n : ℕ) (o : Option SendLane) → SendSlot p n (first_send_limit e n) o → SendSlot p n (first_send_limit knows n) (option_map (λ (l : SendLane). allow_lane l (first_send_limit knows n)) o)
  slot_allowed n None h = h
  slot_allowed n (Some l) h = half_allowed n (first_send_limit e n) (first_send_limit knows n) l (first_rises (is_uni n) (is_own e n)) h

  open_raised : is_open (limits_raised q e).sends ≡ is_open e.sends
  open_raised = λ i n. (ap is_some (allowed_at knows n) ∙ some_mapped _ (lookup e.sends n)) i

  pub raise_ok : EndOk p (limits_raised q e)
  raise_ok =
      record {
        sends = λ n. subst (SendSlot p n (first_send_limit knows n)) (sym (allowed_at knows n)) (slot_allowed n (lookup e.sends n) (ok.sends n));
        recvs = ok.recvs;
        packets = ok.packets;
        taken = ok.taken;
        credit = record {
          sent_known = omega (arith, (total_le (λ l. l.sent_end) (λ l. l.sent_end) (limits_raised q e).sends e.sends (λ n. subst (λ o. value (λ l. l.sent_end) o ≤ value (λ l. l.sent_end) (lookup e.sends n)) (sym (allowed_at knows n)) (sent_allowed (first_send_limit knows n) (lookup e.sends n)))), ok.credit.sent_known);
          known_told = told_raised e.known_data e.peer.max_data q.max_data (λ x. Control (MaxData x)) ok.credit.known_told;
          window_granted = ok.credit.window_granted;
          granted_told = ok.credit.granted_told;
        };
        streams = subst (λ s. OpenOk p e.role (max e.peer.streams_bidi q.streams_bidi) (max e.peer.streams_uni q.streams_uni) (max e.known_bidi q.streams_bidi) (max e.known_uni q.streams_uni) s (is_open e.recvs)) (sym open_raised) (open_known _ _ _ _ ok.streams (omega arith) (omega arith)
            (told_raised e.known_bidi e.peer.streams_bidi q.streams_bidi (λ x. Control (MaxStreams Bidi x)) ok.streams.bidi_told)
            (told_raised e.known_uni e.peer.streams_uni q.streams_uni (λ x. Control (MaxStreams Uni x)) ok.streams.uni_told));
      }

raise_moves : (p : Past) (e new : End) (q : PeerLimits) (answer : Result (Unit {0}) RaiseFault) → EndOk p e → RaiseStep e q answer new → EndOk p new
raise_moves p e new q answer ok step =
    elim (certain_cases (raise_refusal e q) e answer new _ step) [
      | inl (fault, is, same) ↦ ended_by p e new same ok
      | inr (allowed, (is, same)) ↦ ended_by p _ new same (settle_ok p _ (raise_ok p e q ok))
    ]

-- Each call in which an end hears nothing of its peer but limits, or that it closed, keeps its invariant.

-- a payload or a frame comes, or a token is told to be acknowledged
abbrev pub Hears : Call → Type 0
Hears (Receive k bytes) = ⊤
Hears (TakeFrame f) = ⊤
Hears (TakeFrames fs) = ⊤
Hears (TokenAcked t) = ⊤
Hears call = ⊥

pub heard_or : (call : Call) → Hears call ⊎ (Hears call → ⊥)
heard_or call = grind (arith, nat_tests)

-- an end that closed hears nothing
pub heard_same : (old new : End) (call : Call) → Hears call → StaysOnceClosed old call new → new ≡ old
heard_same old new call heard same = grind (arith, nat_tests)

-- a packet may go out
abbrev pub Sends : Call → Type 0
Sends (Make first delay room) = ⊤
Sends (MakeAck delay room) = ⊤
Sends (FillIn want room) = ⊤
Sends Claim = ⊤
Sends call = ⊥

told_moves : (p : Past) (e : End) (close : NotedClose) (o : Option ClosedEnd) → EndOk p e → EndOk p (noted_by o close e)
told_moves p e close (Some closed) ok = ok
told_moves p e close None ok = record { sends = ok.sends; recvs = ok.recvs; packets = ok.packets; taken = ok.taken; credit = ok.credit; streams = ok.streams }

pub own_moves : (p : Past) (e new : End) (call : Call) (answer : Answer call) → (Hears call → ⊥) → (Sends call → ⊥) → EndOk p e → EndStep e call answer new → EndOk (with_effects (effects_of call answer) p) new
own_moves p e new (Open d) answer deaf quiet ok step = open_moves p e new ok d answer step
own_moves p e new Accept answer deaf quiet ok step = accept_moves p e new ok answer step
own_moves p e new (AcceptOf d) answer deaf quiet ok step = accept_of_moves p e new ok d answer step
own_moves p e new (Write n bytes) answer deaf quiet ok step = write_moves p e new ok n bytes answer step
own_moves p e new (Finish n) answer deaf quiet ok step = finish_moves p e new ok n answer step
own_moves p e new (Reset n code) answer deaf quiet ok step = reset_moves p e new ok n code answer step
own_moves p e new (Stop n code) answer deaf quiet ok step = stop_moves p e new ok n code answer step
own_moves p e new (StopAndDiscard n code) answer deaf quiet ok step = forget_moves p e new ok n code answer step
own_moves p e new (ReadUpTo n size) answer deaf quiet ok step = read_moves p e new ok n size answer step
own_moves p e new (Consume n most) answer deaf quiet ok step = consume_moves p e new ok n most answer.1 answer.0 step
own_moves p e new (Peek n) answer deaf quiet ok step = ended_by p e new step.1 ok
own_moves p e new (Receive k bytes) answer deaf quiet ok step = absurd (deaf tt)
own_moves p e new (TakeFrame f) answer deaf quiet ok step = absurd (deaf tt)
own_moves p e new (TakeFrames fs) answer deaf quiet ok step = absurd (deaf tt)
own_moves p e new (TokenAcked t) answer deaf quiet ok step = absurd (deaf tt)
own_moves p e new (TokenLost t) answer deaf quiet ok step = token_lost_moves p e new ok t answer step
own_moves p e new (Make first delay room) answer deaf quiet ok step = absurd (quiet tt)
own_moves p e new (MakeAck delay room) answer deaf quiet ok step = absurd (quiet tt)
own_moves p e new (FillIn want room) answer deaf quiet ok step = absurd (quiet tt)
own_moves p e new (Lose k) answer deaf quiet ok step = lose_moves p e new ok k answer step
own_moves p e new Claim answer deaf quiet ok step = absurd (quiet tt)
own_moves p e new (RaiseLimits limits) answer deaf quiet ok step = raise_moves p e new limits answer ok step
own_moves p e new (Set x) answer deaf quiet ok step = set_moves p e new x answer ok step
own_moves p e new (NoteClosed close) answer deaf quiet ok step = subst (EndOk p) (sym step) (told_moves p e close e.closed ok)
own_moves p e new (ClosingPayload slice) answer deaf quiet ok step = ended_by p e new step.1 ok
own_moves p e new Stored answer deaf quiet ok step = ended_by p e new step.1 ok
own_moves p e new Granted answer deaf quiet ok step = ended_by p e new step.1 ok
own_moves p e new Spent answer deaf quiet ok step = ended_by p e new step.1 ok
own_moves p e new (GrantedStreams d) answer deaf quiet ok step = ended_by p e new step.1 ok
own_moves p e new (Report n) answer deaf quiet ok step = ended_by p e new step.1 ok
