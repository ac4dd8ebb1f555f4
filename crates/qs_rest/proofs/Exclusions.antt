-- Which small ends are at rest, and which aren't.
use Rattle.std.proofs.Common.{◌≡◌, ℕ, ◌≤◌, Bool, true, false, ◌||◌, [], length, Some, None, is_some, refl, sym, ◌∙◌, subst, arith, inl, inr, nat_cmp, if◌then◌else◌}
use Rattle.std.proofs.lemmas.Option.{none-some, same_Some}
use Rattle.std.proofs.lemmas.Bool.{false≢true}
use Rattle.std.proofs.lemmas.Bool.Decides.{nat_tests}
use Rattle.std.specs.FinSet as set
use Rattle.qs_ranges.specs.Numbers.{is_within, contains-with_range}
use Rattle.qs_wire.specs.declared.stream_id.Role.{Role}
use Rattle.qs_wire.specs.declared.stream_id.Role.TheVariants.{Client}
use Rattle.qs_wire.specs.declared.stream_id.Dir.TheVariants.{Bidi, Uni}
use Rattle.qs_recv.specs.Assembled.{front_of}
use Rattle.qs_recv.specs.Lane.{RecvLane, read_answer, take_stream}
use Rattle.qs_recv.specs.declared.half.Read.TheVariants.{Bytes, Wait}
use Rattle.qs_send.specs.Lane.{SendLane}
use Rattle.qs_send.specs.declared.piece.Item.{Item}
use Rattle.qs_send.specs.declared.piece.Item.TheVariants.{MaxData, MaxStreamData, MaxStreams, ResetStream, StopSending, DataBlocked, StreamDataBlocked, StreamsBlocked}
use Rattle.qs_send.specs.declared.piece.Piece.TheVariants.{Told}
use Rattle.qs_send.proofs.Outstanding.{carried-empty}
use Rattle.qs_calls.specs.Settings.{limits_of, default_tuning}
use Rattle.qs_machine.specs.Tables.{lookup, total}
use Rattle.qs_machine.specs.Ends.{End, recv_lane, first_window, is_uni, is_own, new_end}
use Rattle.qs_machine.specs.Due.{IsDue, IsEndDue, IsCurrent, Sendable}
use Rattle.qs_machine.specs.Examples.{standard, client_of}
use Rattle.qs_machine.specs.SmallEnds.{client_with, wrote, reset_half, finished, fresh, three_came}
use Rattle.qs_machine.proofs.Counts.{no_lane}
use Rattle.qs_machine.proofs.SmallEndsLaws.{one_carried, only_open}
use Rattle.qs_rest.specs.Rest.{TellsNoNews, HasMore, AtRest}
use Rattle.qs_calls.specs.declared.event.Side.TheVariants.{A}
use Rattle.qs_rest.specs.Resting.{IsLeftToOwner}
use Rattle.qs_rest.specs.Exclusions.{reads_by, beside_server, answering, stopped, IsAtRest, IsNotAtRest, IsLeft, IsNotLeft, Exclusions}

-- An end without a sending half, of which nothing is to be told, and whose readers neither stopped nor had a limit raised.
pub record IsSilent (e : End) : Type 0 where
  pub sends : (n : ℕ) (l : SendLane) → lookup e.sends n ≡ Some l → ⊥
  pub granted : e.granted ≤ e.settings.conn_window
  pub bidi : e.granted_bidi ≤ e.settings.grant_bidi
  pub uni : e.granted_uni ≤ e.settings.grant_uni
  pub recvs : (n : ℕ) (l : RecvLane) → recv_lane e n ≡ Some l → (l.limit ≤ first_window e n) × (l.stop_code ≡ None)
  pub wants_bidi : e.wanted_bidi ≡ None
  pub wants_uni : e.wanted_uni ≡ None

no_item : (e : End) → IsSilent e → (i : Item) → IsCurrent e i → ⊥
no_item e h (MaxData m) is = omega (arith, is.0, is.1, h.granted)
no_item e h (MaxStreamData n m) (l, at, same, more, fine) = omega (arith, same, more, (h.recvs n l at).0)
no_item e h (MaxStreams Bidi m) is = omega (arith, is.0, is.1, h.bidi)
no_item e h (MaxStreams Uni m) is = omega (arith, is.0, is.1, h.uni)
no_item e h (ResetStream n code size) (l, at, reset) = h.sends n l at
no_item e h (StopSending n code) (l, at, stop, fine, more) = none-some code (sym (h.recvs n l at).1 ∙ stop)
no_item e h (DataBlocked m) (same, all, (n, l, wants)) = h.sends n l wants.lane
no_item e h (StreamDataBlocked n m) (l, at, fine, value, more, end) = h.sends n l at
no_item e h (StreamsBlocked Bidi m) is = none-some m (sym h.wants_bidi ∙ is.0)
no_item e h (StreamsBlocked Uni m) is = none-some m (sym h.wants_uni ∙ is.0)

silent : (e : End) → IsSilent e → HasMore e → ⊥
silent e h (inl (i, due)) = no_item e h i due.0
silent e h (inr (n, (l, at, goes))) = h.sends n l at

-- nor is an ACK due
mute : (e : End) → IsSilent e → e.ack_due ≡ false → Sendable e → ⊥
mute e h none (inl ack) = false≢true (sym none ∙ ack)
mute e h none (inr more) = silent e h more

new_silent : (role : Role) → IsSilent (new_end role standard default_tuning (limits_of standard))
new_silent role =
    record {
      sends = λ n l at. none-some l (sym (no_lane n) ∙ at);
      granted = omega arith;
      bidi = omega arith;
      uni = omega arith;
      recvs = λ n l at. absurd (none-some l (sym (no_lane n) ∙ at));
      wants_bidi = refl;
      wants_uni = refl;
    }

window_of : (n : ℕ) → first_window (client_of standard) n ≡ 1024
window_of n = go (is_uni n) (is_own (client_of standard) n) 1024
  where
    go : (u o : Bool) (k : ℕ) → (if u then k else (if o then k else k)) ≡ k
    go false true k = refl
    go _ o k = refl

reads_silent : (r : RecvLane) → r.limit ≡ 1024 → r.stop_code ≡ None → IsSilent (reads_by r)
reads_silent r limit stop =
    record {
      sends = λ n l at. none-some l (sym (no_lane n) ∙ at);
      granted = omega arith;
      bidi = omega arith;
      uni = omega arith;
      recvs = λ n l at.
          let same : l ≡ r = only_open r l n at in
          rw same (omega (arith, limit, window_of n), stop);
      wants_bidi = refl;
      wants_uni = refl;
    }

reads_at_rest : (r : RecvLane) → r.limit ≡ 1024 → r.stop_code ≡ None → TellsNoNews (read_answer r 1) r → AtRest (reads_by r)
reads_at_rest r limit stop told =
    record {
      quiet = silent (reads_by r) (reads_silent r limit stop);
      none_out = λ p flies. carried-empty p flies;
      read_out = λ n l at. (let same : l ≡ r = only_open r l n at in rw same told);
    }

is_there : (r : RecvLane) → recv_lane (reads_by r) 0 ≡ Some r
unfolding lookup
is_there r = refl

waiting : TellsNoNews (read_answer fresh 1) fresh
waiting = subst (λ b. TellsNoNews (if b then Bytes (length (front_of fresh.arrived 1)) else Wait) fresh) (sym (set.contains-empty nat_cmp 0)) tt

pub first_came : set.contains three_came.arrived.received 0 ≡ true
first_came = contains-with_range set.empty 0 3 0 ∙ go
  where
    go : (set.contains {R = nat_cmp} set.empty 0 || is_within 0 3 0) ≡ true
    go = grind (arith, nat_tests, set.contains-empty nat_cmp 0)

rests : IsAtRest
rests =
    record {
      new = λ role. record { quiet = silent (new_end role standard default_tuning (limits_of standard)) (new_silent role); none_out = λ p flies. carried-empty p flies; read_out = λ n l at. absurd (none-some l (sym (no_lane n) ∙ at)) };
      ack = record {
        quiet = silent _ (record { sends = (new_silent Client).sends; granted = omega arith; bidi = omega arith; uni = omega arith; recvs = (new_silent Client).recvs; wants_bidi = refl; wants_uni = refl });
        none_out = λ p flies. carried-empty p flies;
        read_out = λ n l at. absurd (none-some l (sym (no_lane n) ∙ at));
      };
      waits = reads_at_rest fresh refl refl waiting;
      told_end = reads_at_rest _ refl refl refl;
      told_reset = reads_at_rest _ refl refl refl;
    }

byte_due : AtRest (client_with wrote) → ⊥
unfolding lookup total
byte_due rest =
    let due : IsDue (client_with wrote) 0 wrote 0 = record { no_reset = refl; written = omega arith; not_acked = set.contains-empty nat_cmp 0; not_sent = λ (c, flies, low, high). carried-empty _ flies } in
    rest.quiet (inr (0, (wrote, refl, inl (0, due, omega arith, inr (refl, omega arith)))))

end_due : AtRest (client_with finished) → ⊥
unfolding lookup
end_due rest =
    let due : IsEndDue (client_with finished) 0 finished = record { no_reset = refl; finished = refl; not_acked = refl; not_sent = λ offset len flies. carried-empty _ flies } in
    rest.quiet (inr (0, (finished, refl, inr (due, refl))))

unread : AtRest (reads_by three_came) → ⊥
unread rest = subst (λ b. TellsNoNews (if b then Bytes (length (front_of three_came.arrived 1)) else Wait) three_came) first_came (rest.read_out 0 three_came (is_there three_came))

others : IsNotAtRest
others =
    record {
      limit = λ rest. rest.quiet (inl (MaxData 5000, ((refl, omega arith), λ covered. elim covered [ inl flies ↦ carried-empty _ flies | inr acked ↦ none-some 5000 acked ])));
      byte = byte_due;
      end = end_due;
      in_flight = (
        mute _ (record { sends = (new_silent Client).sends; granted = omega arith; bidi = omega arith; uni = omega arith; recvs = (new_silent Client).recvs; wants_bidi = refl; wants_uni = refl }) refl,
        λ rest. rest.none_out (Told (MaxData 4096)) (one_carried 0 (Told (MaxData 4096))),
      );
      unread = (mute _ (reads_silent three_came refl refl) refl, unread);
      untold_end = (mute _ (reads_silent (take_stream fresh 0 [] true) refl refl) refl, λ rest. false≢true (rest.read_out 0 _ (is_there (take_stream fresh 0 [] true))));
      untold_reset = (
        mute _ (reads_silent (record fresh { final_size = Some 0; reset_code = Some 7 }) refl refl) refl,
        λ rest. false≢true (rest.read_out 0 _ (is_there (record fresh { final_size = Some 0; reset_code = Some 7 }))),
      );
    }

-- What is known of a half that is left to its owner.
half_left : (l : SendLane) → IsLeftToOwner (beside_server (answering (client_with l))) A 0 → (is_some l.stopped ≡ true) × (l.was_reset ≡ None)
unfolding lookup
half_left l (tuned, x, at, told, unreset) =
    subst (λ (y : SendLane). (is_some y.stopped ≡ true) × (y.was_reset ≡ None)) (same_Some x l (sym at)) (told, unreset)

unopened : IsLeftToOwner (beside_server (answering (client_of standard))) A 0 → ⊥
unfolding lookup
unopened (tuned, l, at, told, unreset) = none-some l at

left : IsLeft
unfolding lookup
left = record { told = (refl, _, refl, refl, refl) }

not_left : IsNotLeft
unfolding lookup
not_left =
    record {
      answered = λ l. false≢true l.0;
      untold = λ l. false≢true (half_left wrote l).0;
      reset = λ l. none-some (record { code = 7; size = 0 }) (sym (half_left (stopped reset_half) l).1);
      unopened = unopened;
    }

pub exclusions : Exclusions
exclusions = record { rests = rests; others = others; left = left; not_left = not_left }
