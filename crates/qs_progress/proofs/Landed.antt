-- What an end's turn leaves: all that was sent of it came to the other end, which knows its limits.
use Rattle.std.proofs.Common.{◌≡◌, ℕ, ◌+◌, ◌<◌, ◌≤◌, true, ◌⊎◌, length, if◌then◌else◌, Bool, not, false, List, Some, None, refl, sym, ap, ◌∙◌, subst, arith, inl, inr}
use Rattle.std.specs.Prelude.{⊤}
use Rattle.std.proofs.lemmas.Bool.{cases_lt}
use Rattle.std.proofs.lemmas.Option.{same_Some}
use Rattle.qs_recv.specs.Lane.{RecvLane}
use Rattle.qs_send.specs.Lane.{SendLane}
use Rattle.qs_send.specs.Records.{Among}
use Rattle.qs_send.specs.declared.parts.Chunk.{Chunk}
use Rattle.qs_send.specs.declared.parts.Reset.{Reset}
use Rattle.qs_send.specs.declared.piece.Item.{Item}
use Rattle.qs_send.specs.declared.piece.Item.TheVariants.{MaxData, MaxStreamData, ResetStream}
use Rattle.qs_send.specs.declared.piece.Piece.{Piece}
use Rattle.qs_send.specs.declared.piece.Piece.TheVariants.{Data, Told}
use Rattle.qs_calls.specs.declared.event.Side.{Side}
use Rattle.qs_calls.specs.declared.settings.Settings.{Settings}
use Rattle.qs_machine.specs.Ends.{End, send_lane, recv_lane, first_send_limit, first_window, is_uni, is_own}
use Rattle.qs_machine.specs.Credit.{all_sent}
use Rattle.qs_machine.specs.Due.{IsOutstanding}
use Rattle.qs_machine.specs.Plains.{frames_in}
use Rattle.qs_machine.specs.Seen.{Seen, Stream, Control}
use Rattle.qs_machine.proofs.OffsetParts.{one_part}
use Rattle.qs_machine.proofs.Pieces.{All_at}
use Rattle.qs_runs.specs.Clauses.{HasArrived}
use Rattle.qs_runs.specs.Invariant.{WorldOk}
use Rattle.qs_runs.specs.Logs.{HasLanded, other, must_land}
use Rattle.qs_runs.specs.Pasts.{Holds, past}
use Rattle.qs_runs.specs.Worlds.{end_of}
use Rattle.qs_runs.proofs.Clauses.{acked_has_arrived}
use Rattle.qs_runs.proofs.Histories.{confirmed_taken, payload_seen}
use Rattle.qs_runs.proofs.Runs.{run_keeps, opposite}
use Rattle.qs_rest.specs.Invariant.{ItemTaken, RestOk}
use Rattle.qs_rest.specs.Rest.{HasMore}
use Rattle.qs_rest.proofs.ItemParts.{item_part}
use Rattle.qs_rest.proofs.OneStream.{sender_ok, acked_sent}
use Rattle.qs_rest.proofs.Resting.{taken}
use Rattle.qs_rest.proofs.Runs.{every_run_keeps}
use Rattle.qs_progress.specs.Laps.{Moment}
use Rattle.qs_progress.specs.Outstanding.{IsIn}
use Rattle.qs_progress.specs.Rounds.{Way, Packets, Tokens, TakesTurn}
use Rattle.qs_progress.specs.Comes.{IsReached}
use Rattle.qs_progress.proofs.Passing.{Owes, IsClear}
use Rattle.qs_progress.proofs.Turns.{below_next, loses, loses_trail, sends, sends_all}
use Rattle.qs_progress.proofs.ByTokens.{lands}
use Rattle.qs_progress.proofs.Onward.{onward}

limit_by : (u b : Bool) (x y z : ℕ) → (if u then x else (if not b then y else z)) ≡ (if u then x else (if b then z else y))
limit_by false true x y z = refl
limit_by _ b x y z = refl

module _ (a b : Settings) where
  -- nothing more may go out of an end, and each packet of it that is outstanding landed at the other
  pub record Landed (s : Side) (m : Moment) : Type 0 where
    pub is_reached : IsReached a b m
    pub none_to_send : HasMore (end_of m.ends s) → ⊥
    pub came : (k : ℕ) (p : Piece) → IsIn (end_of m.ends s).outstanding k p → HasLanded m.log s k

  owes_none : (m : Moment) → IsReached a b m → (s : Side) → IsClear (end_of m.ends s) → Owes (end_of m.ends s).next (end_of m.ends s).next (end_of m.ends s) (end_of m.ends (other s))
  owes_none m r s clear =
      record {
        order = omega arith;
        from = λ k p here. absurd (clear k p here);
        kept = λ k low high. absurd (omega (arith, low, high));
        below = below_next a b m r s;
        due = λ k p here. absurd (clear k p here);
      }

  pub turned : (w : Way) (s : Side) (old new : Moment) → IsReached a b old → TakesTurn w s old new → Landed s new
  turned Packets s old new r (mid, (n, lost), (k, sent)) =
      let after = loses Packets s n old mid lost in
      let (ms, trail) = loses_trail Packets s n old mid lost in
      let r_mid = (onward a b (λ call. ⊤) ms old mid r trail).is_reached in
      let (there, owes) = sends a b s k mid new (end_of mid.ends s).next r_mid sent (owes_none mid r_mid s after.clear) in
      let ok = run_keeps a b new.log new.ends there.run in
      record {
        is_reached = there;
        none_to_send = λ goes. sends_all Packets s k mid new sent (inr goes);
        came = λ j p here. (let (low, high) = owes.from j p here in ok.landed s j ((ok.ends (other s)).packets.is_done j (owes.kept j low high)));
      }
  turned Tokens s old new r (mid, (n, lost), (k, sent)) =
      let after = loses Tokens s n old mid lost in
      let (ms, trail) = loses_trail Tokens s n old mid lost in
      let r_mid = (onward a b (λ call. ⊤) ms old mid r trail).is_reached in
      let (there, landed) = lands a b s k mid new r_mid (λ j p here. absurd (after.clear j p here)) sent in
      record { is_reached = there; none_to_send = λ goes. sends_all Tokens s k mid new sent (inr goes); came = landed }

  module _ (s : Side) (m : Moment) (landed : Landed s m) where
    abbrev e : End
    e = end_of m.ends s

    abbrev f : End
    f = end_of m.ends (other s)

    ok : WorldOk a b m.log m.ends
    ok = run_keeps a b m.log m.ends landed.is_reached.run

    keeps : (t : Side) → RestOk (past t m.log) (end_of m.ends t)
    keeps = every_run_keeps a b m.log m.ends landed.is_reached.run

    -- what stands in a packet that is outstanding came
    frame_came : (g : Seen) (k : ℕ) (p : Piece) → IsIn e.outstanding k p → Holds (past s m.log).mine k g → must_land g ≡ true → HasArrived m.log s g
    frame_came g k p here (fs, is, among) land =
        let (text, pay, all) = landed.came k p here in
        all g (subst (Among g) (same_Some fs (frames_in text) (sym is ∙ payload_seen s k m.log text pay)) among) land

    data_came : (n : ℕ) (c : Chunk) → IsOutstanding e (Data n c) → (bytes : List ℕ) × HasArrived m.log s (Stream n c.offset bytes c.fin) × (length bytes ≡ c.len) × (c.offset + length bytes ≤ c.offset + c.len)
    data_came n c (k, ps, there, among) =
        let (bytes, holds, len) = (ok.ends s).packets.records k ps (Data n c) there among in
        (bytes, frame_came (Stream n c.offset bytes c.fin) k (Data n c) (ps, there, among) holds refl, len, omega (arith, len))

    item_came : (i : Item) → must_land (Control i) ≡ true → IsOutstanding e (Told i) → HasArrived m.log s (Control i)
    item_came i land (k, ps, there, among) = frame_came (Control i) k (Told i) (ps, there, among) ((ok.ends s).packets.records k ps (Told i) there among) land

    -- each offset that was sent of a half that wasn't reset
    pub offset_came : (n : ℕ) (l : SendLane) → send_lane e n ≡ Some l → l.was_reset ≡ None → (q : ℕ) → q < l.sent_end →
        (offset : ℕ) × (bytes : List ℕ) × (fin : Bool) × HasArrived m.log s (Stream n offset bytes fin) × (offset ≤ q) × (q < offset + length bytes)
    offset_came n l at none q lt =
        let half = sender_ok a b m.log m.ends ok s n l at in
        elim (one_part e n l q none (let le = half.sent_written in omega (arith, lt, le))) [
          | inl acked ↦ (acked_has_arrived a b m.log m.ends ok s n).offsets l q at acked
          | inr more ↦ elim more [
            | inl flies ↦ (
                let (c, out, low, high) = flies.1 in
                let (bytes, arrived, len, reach) = data_came n c out in
                (c.offset, bytes, c.fin, arrived, low, omega (arith, high, len)))
            | inr due ↦ (let le = half.sent_limit in absurd (landed.none_to_send (inr (n, (l, at, inl (q, due, omega (arith, lt, le), inl lt))))))
          ]
        ]

    -- and the reset of one that was
    pub reset_came : (n : ℕ) (l : SendLane) (reset : Reset) → send_lane e n ≡ Some l → l.was_reset ≡ Some reset → (code size : ℕ) × HasArrived m.log s (Control (ResetStream n code size))
    reset_came n l reset at is =
        elim (item_part e (ResetStream n reset.code reset.size) (l, at, is)) [
          | inl flies ↦ (reset.code, reset.size, item_came (ResetStream n reset.code reset.size) refl flies)
          | inr down ↦ elim down [
            | inl acked ↦ (
                let (k, there, known) = acked in
                let (code, size, (j, holds, ack)) = ((keeps s).sends n k there).reset_told known in
                (code, size, confirmed_taken a b m.log m.ends ok s j (Control (ResetStream n code size)) holds ack refl))
            | inr due ↦ absurd (landed.none_to_send (inl (ResetStream n reset.code reset.size, due)))
          ]
        ]

    -- A half that has more to send is held back by a limit
    pub held_back : (n : ℕ) (l : SendLane) → send_lane e n ≡ Some l → l.was_reset ≡ None → l.sent_end < l.written → (l.limit ≤ l.sent_end) ⊎ (e.known_data ≤ all_sent e)
    held_back n l at none more =
        elim (cases_lt l.sent_end l.limit) [
          | inr blocked ↦ inl blocked
          | inl room ↦ elim (cases_lt (all_sent e) e.known_data) [
            | inr blocked ↦ inr blocked
            | inl credit ↦ elim (one_part e n l l.sent_end none more) [
              | inl acked ↦ (let lt : l.sent_end < l.sent_end = acked_sent a b m.log m.ends ok s n l l.sent_end at acked in absurd (omega (arith, lt)))
              | inr rest ↦ elim rest [
                | inl flies ↦ (
                    let (c, (k, ps, there, among), low, high) = flies.1 in
                    let (bytes, holds, len) = (ok.ends s).packets.records k ps (Data n c) there among in
                    let below = ((sender_ok a b m.log m.ends ok s n l at).told c.offset bytes c.fin (k, holds)).below in
                    absurd (omega (arith, low, high, len, below)))
                | inr due ↦ absurd (landed.none_to_send (inr (n, (l, at, inl (l.sent_end, due, room, inr (refl, credit))))))
              ]
            ]
          ]
        ]

    -- The other end knows the limits

    -- what is current took effect there
    item_taken : (i : Item) → must_land (Control i) ≡ true → IsOutstanding e (Told i) → ItemTaken f (Control i)
    item_taken i land flies = All_at (ItemTaken f) (past (other s) m.log).taken (Control i) (keeps (other s)).taken (item_came i land flies)

    pub data_known : e.settings.conn_window < e.granted → e.granted ≤ f.known_data
    data_known more =
        elim (item_part e (MaxData e.granted) (refl, more)) [
          | inl flies ↦ item_taken (MaxData e.granted) refl flies
          | inr down ↦ elim down [
            | inl acked ↦ taken a b m.log m.ends ok keeps s (MaxData e.granted) ((keeps s).acked.conn e.granted acked)
            | inr due ↦ absurd (landed.none_to_send (inl (MaxData e.granted, due)))
          ]
        ]

    pub stream_known : (n : ℕ) (r : RecvLane) → recv_lane e n ≡ Some r → r.final_size ≡ None → first_window e n < r.limit → (l : SendLane) × (send_lane f n ≡ Some l) × (r.limit ≤ l.limit)
    stream_known n r is unsized more =
        elim (item_part e (MaxStreamData n r.limit) (r, is, refl, more, unsized)) [
          | inl flies ↦ item_taken (MaxStreamData n r.limit) refl flies
          | inr down ↦ elim down [
            | inl acked ↦ taken a b m.log m.ends ok keeps s (MaxStreamData n r.limit) ((keeps s).acked.streams n r.limit acked)
            | inr due ↦ absurd (landed.none_to_send (inl (MaxStreamData n r.limit, due)))
          ]
        ]

  -- The first limits of an end are the first windows of the other
  module _ (s : Side) (m : Moment) (r : IsReached a b m) where
    pub first_limit : (n : ℕ) → first_send_limit (end_of m.ends s) n ≡ first_window (end_of m.ends (other s)) n
    first_limit n =
        let there = end_of m.ends (other s) in
        rw (r.knows_first s, opposite a b m.log m.ends (run_keeps a b m.log m.ends r.run) s n) (limit_by (is_uni n) (is_own there n) there.settings.uni there.settings.bidi_remote there.settings.bidi_local)

    pub first_data : (end_of m.ends (other s)).settings.conn_window ≤ (end_of m.ends s).known_data
    first_data =
        let limit = ap (λ x. x.max_data) (r.knows_first s) in
        let low = (every_run_keeps a b m.log m.ends r.run s).conn in
        omega (arith, limit, low)
