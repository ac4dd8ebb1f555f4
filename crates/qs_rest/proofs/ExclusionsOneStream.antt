-- Which small streams rest, and what their rest tells.
use Rattle.std.proofs.Common.{◌≡◌, ℕ, ◌<◌, true, false, [], ◌∷◌, length, Some, refl, sym, ap, ◌∙◌, subst, arith, inl, inr, nat_cmp, if◌then◌else◌}
use Rattle.std.proofs.lemmas.Option.{none-some, same_Some}
use Rattle.std.proofs.lemmas.Bool.{and_parts, false≢true, true≢false}
use Rattle.std.proofs.lemmas.Bool.Decides.{nat_tests}
use Rattle.std.specs.FinSet as set
use Rattle.qs_ranges.specs.Numbers.{is_within, contains-numbers}
use Rattle.qs_recv.specs.Assembled.{front_of}
use Rattle.qs_recv.specs.Lane.{RecvLane, state as recv_state}
use Rattle.qs_recv.specs.News.{is_readable, tells_something}
use Rattle.qs_recv.specs.declared.half.Read.TheVariants.{Bytes, Wait}
use Rattle.qs_recv.specs.declared.half.RecvState.TheVariants.{DataRead}
use Rattle.qs_send.specs.Lane.{SendLane, state as send_state}
use Rattle.qs_send.specs.declared.parts.SendState.TheVariants.{DataRecvd}
use Rattle.qs_send.specs.declared.piece.Piece.TheVariants.{Data}
use Rattle.qs_send.proofs.Outstanding.{carried-empty}
use Rattle.qs_send.proofs.Runs.{unacked-empty}
use Rattle.qs_calls.specs.declared.event.Side.TheVariants.{A}
use Rattle.qs_machine.specs.Tables.{lookup, total}
use Rattle.qs_machine.specs.SmallEnds.{client_with, server_with, abc, chunk, wrote, sent, three_came, all_came}
use Rattle.qs_machine.proofs.SmallEndsLaws.{one_carried}
use Rattle.qs_runs.specs.Logs.{effects}
use Rattle.qs_runs.specs.Worlds.{World}
use Rattle.qs_runs.specs.Examples.{wrote as wrote_by}
use Rattle.qs_rest.specs.Rest.{TellsNoNews}
use Rattle.qs_rest.specs.Resting.{IsReadAtBoth}
use Rattle.qs_rest.specs.OneStream.{AnswersSo}
use Rattle.qs_rest.specs.Exclusions.{beside_server}
use Rattle.qs_rest.specs.ExclusionsOneStream.{both, acked, end_sent, DoesNotRest, RestsBesideAnother, IsNotAllRead, IsNotAnswered, OneStreamExclusions}
use Rattle.qs_rest.proofs.Exclusions.{first_came}
use Rattle.qs_rest.proofs.OneStream.{whole_state}

others : DoesNotRest
unfolding lookup
others =
    record {
      byte = λ rests. rests.bytes 0 (omega arith) (record { no_reset = refl; written = omega arith; not_acked = set.contains-empty nat_cmp 0; not_sent = λ (c, flies, low, high). carried-empty _ flies });
      end = λ rests. rests.end refl (record { no_reset = refl; finished = refl; not_acked = refl; not_sent = λ offset len flies. carried-empty _ flies });
      in_flight = λ rests. rests.none_out (chunk 0 3 false) (one_carried 0 (Data 0 (chunk 0 3 false)));
      unread = λ rests. subst (λ b. TellsNoNews (if b then Bytes (length (front_of three_came.arrived 1)) else Wait) three_came) first_came (rests.read_out three_came refl);
    }

is_acked : (q : ℕ) → q < 3 → set.contains acked.acked q ≡ false → ⊥
is_acked q lt none = true≢false (sym (contains-numbers 0 3 q ∙ within) ∙ none)
  where
    within : is_within 0 3 q ≡ true
    within = grind (arith, nat_tests)

beside : RestsBesideAnother
unfolding lookup total
beside =
    record {
      rests = record {
        bytes = λ q lt due. is_acked q lt due.not_acked;
        end = λ sent. absurd (false≢true sent);
        none_out = λ c flies. carried-empty _ flies;
        read_out = λ r at. absurd (none-some r at);
      };
      works = inr (inr (4, (wrote, refl, inl (0, record { no_reset = refl; written = omega arith; not_acked = set.contains-empty nat_cmp 0; not_sent = λ (c, flies, low, high). carried-empty _ flies }, omega arith, inr (refl, omega arith)))));
    }

-- a half of which the end isn't acknowledged isn't in Data Recvd
not_whole : (l : SendLane) → l.fin_acked ≡ false → send_state l ≡ DataRecvd → ⊥
not_whole l none is = false≢true (sym none ∙ (and_parts _ _ (whole_state l is)).1)

-- a reader that wasn't told the end isn't in Data Read
not_told : (r : RecvLane) → r.reader_done ≡ false → recv_state r ≡ DataRead → ⊥
not_told r none is = grind (arith, nat_tests)

sender_done : (w : World) (l : SendLane) (r : RecvLane) → w ≡ both (client_with l) (server_with r) → IsReadAtBoth w A 0 → (send_state l ≡ DataRecvd) × (recv_state r ≡ DataRead)
unfolding lookup
sender_done w l r is (m, t, at, there, sent, got) =
    let here : Some l ≡ Some m = ap (λ v. lookup v.a.sends 0) (sym is) ∙ at in
    let yonder : Some r ≡ Some t = ap (λ v. lookup v.b.recvs 0) (sym is) ∙ there in
    (ap send_state (same_Some l m here) ∙ sent, ap recv_state (same_Some r t yonder) ∙ got)

unread : (w : World) → IsNotAllRead w
unfolding effects
unread w =
    record {
      less = λ all. absurd (cc (all.is_read refl refl));
      more = λ all. absurd (cc (all.is_read refl refl));
      broken = record { is_read = λ unbroken. absurd (cc unbroken); is_ended = λ none sent. absurd (cc sent) };
      unread = λ all. absurd (cc (all.streams 0 refl refl));
      sender = λ all. not_whole end_sent refl (sender_done _ end_sent _ refl (all.is_ended refl refl)).0;
      reader = λ l fine sent all. not_told all_came refl (sender_done _ l all_came refl (all.is_ended fine sent)).1;
    }

some_left : AnswersSo (wrote_by A abc 3 ∷ []) (beside_server (client_with sent)) A 0 sent → ⊥
unfolding lookup effects
some_left answers = omega (arith, unacked-empty, same_Some _ _ answers.acked)

readable : is_readable three_came ≡ true
readable = subst (λ b. tells_something (if b then Bytes (length (front_of three_came.arrived 1)) else Wait) ≡ true) (sym first_came) refl

unanswered : IsNotAnswered
unfolding lookup
unanswered =
    record {
      acked = some_left;
      end = λ h answers. not_whole end_sent refl (answers.end refl);
      news = λ h answers. answers.no_news (refl, (three_came, refl, readable));
      shut = λ h answers. true≢false answers.read_on;
    }

pub one_stream_exclusions : OneStreamExclusions
one_stream_exclusions = record { others = others; beside = beside; unread = unread; unanswered = unanswered }
