-- A calm call that raises no score puts out what wasn't acknowledged, or changes nothing but records.
use Rattle.std.proofs.Common.{◌≡◌, ℕ, ◌+◌, ◌*◌, ◌<◌, ◌≤◌, suc, Bool, true, false, cond, List, [], ◌∷◌, ◌++◌, ◌⊎◌, length, map, take, slice_get, option_map, Option, Some, None, refl, sym, ap, ◌∙◌, subst, arith, inl, inr}
use Rattle.std.specs.Prelude.{max, nat_le}
use Rattle.std.specs.FinMap as fmap
use Rattle.std.specs.FinMap.{nat_cmp-IsAntisymmetric, same_map}
use Rattle.std.specs.Cmp.{nat_cmp_total}
use Rattle.std.proofs.lemmas.Bool.Decides.{nat_tests}
use Rattle.qs_ranges.specs.Numbers.{same_numbers}
use Rattle.qs_wire.specs.declared.stream_id.Dir.{Dir}
use Rattle.qs_wire.specs.declared.stream_id.Dir.TheVariants.{Bidi, Uni}
use Rattle.qs_recv.specs.Assembled.{front_of, keep_from}
use Rattle.qs_recv.specs.Lane.{RecvLane, raise, next_limit, taken, after_read, after_answer, read_answer}
use Rattle.qs_recv.specs.Lawful.{IsLawful}
use Rattle.qs_recv.specs.declared.half.Read.{Read}
use Rattle.qs_recv.specs.declared.half.Read.TheVariants as reads
use Rattle.qs_recv.proofs.RingLaws.{get-keep_from}
use Rattle.qs_send.specs.Lane.{SendLane, sent_lane, blocked_lane}
use Rattle.qs_send.specs.declared.piece.Item.{Item}
use Rattle.qs_send.specs.declared.piece.Item.TheVariants.{MaxData, MaxStreamData, MaxStreams, ResetStream, StopSending, DataBlocked, StreamDataBlocked, StreamsBlocked}
use Rattle.qs_send.specs.declared.piece.Piece.{Piece}
use Rattle.qs_send.specs.declared.piece.Piece.TheVariants.{Data, Told}
use Rattle.qs_machine.specs.Tables.{Tables, lookup, total, each, updated}
use Rattle.qs_machine.specs.Ends.{End, on_send, on_recv}
use Rattle.qs_machine.specs.Credit.{settle, ended, send_ended, count_after}
use Rattle.qs_machine.specs.Due.{IsCurrent, IsDueItem, IsOutstanding, IsDue, IsEndDue}
use Rattle.qs_machine.specs.Seen.{Seen, Ack, Stream, Control, Close, Plain}
use Rattle.qs_machine.specs.FrameStep.{frames_taken, acks, named}
use Rattle.qs_machine.specs.Lawful.{Fills, frame_put, noted, pieces_so_far, chunk_of}
use Rattle.qs_machine.specs.SettledLimits.{LimitsAreSettled}
use Rattle.qs_machine.specs.Standing.{IsSound, CountsAreSettled}
use Rattle.qs_machine.specs.Repeats.{SentWasWritten}
use Rattle.qs_machine.proofs.TableLaws.{lookup_each}
use Rattle.qs_machine.proofs.TablesAfter.{KeptIn, kept_same, updated_back}
use Rattle.qs_machine.proofs.EndedHalves.{RecvStays}
use Rattle.qs_machine.proofs.Counts.{ended_grows}
use Rattle.qs_machine.proofs.LanesAgain.{LaneAfter}
use Rattle.qs_machine.proofs.EachHalf.{Reads}
use Rattle.qs_machine.proofs.EndsAfter.{IsAfter, after_same, after_twice, after_closes, after_recorded, after_settle, after_acks, named_written, lawful_in}
use Rattle.qs_machine.proofs.Again.{changed, all_left}
use Rattle.qs_machine.proofs.Pieces.{All_take}
use Rattle.qs_machine.proofs.Carried.{get_new, among_last}
use Rattle.qs_machine.specs.FrameStep.{AckedPiece}
use Rattle.qs_machine.specs.Repeats.{WasWritten}
use Rattle.qs_progress.specs.Score.{score}
use Rattle.qs_progress.specs.Within.{AllWithin}
use Rattle.qs_progress.specs.Outstanding.{IsIn, IsWhollyAcked}
use Rattle.qs_progress.proofs.SetBeyond.{lookup_at}
use Rattle.qs_progress.proofs.Halves.{got_edits}
use Rattle.qs_progress.proofs.Score.{Goes}
use Rattle.qs_progress.proofs.Even.{members_even, acked_even, fin_even, reset_even, read_even, told_even_of}
use Rattle.qs_progress.proofs.CalmCalls.{Ends, Forms}
use Rattle.qs_progress.proofs.Outstanding.{AcksStay, put_in}
use Rattle.qs_progress.proofs.Going.{done_acked, frames_back, ends_back}
use Rattle.qs_progress.proofs.Undone.{IsUndone, undone_stays, unless}
use Rattle.qs_progress.proofs.Alike.{but_records, Alike, SendsAlike, alike_at, alike_back, slots_same, slots_twice, alike_acks, acks_rest}
use Rattle.qs_progress.proofs.Frozen.{IsSteady, frames_like}

-- Limits that are settled don't move

map_back : {X : Type 0} (f : X → X) (xs : List X) → ((i : ℕ) (x : X) → slice_get xs i ≡ Some x → f x ≡ x) → map f xs ≡ xs
map_back f [] same = refl
map_back f (x ∷ xs) same = λ i. same 0 x refl i ∷ map_back f xs (λ j y is. same (suc j) y is) i

each_back : (t : Tables RecvLane) → ((n : ℕ) (l : RecvLane) → lookup t n ≡ Some l → raise l ≡ l) → each raise t ≡ t
unfolding each
each_back t same =
    λ i. record {
      client_bidi = map_back raise t.client_bidi (λ j l is. same (j * 4 + 0) l (lookup_at t 0 j (omega arith) ∙ is)) i;
      server_bidi = map_back raise t.server_bidi (λ j l is. same (j * 4 + 1) l (lookup_at t 1 j (omega arith) ∙ is)) i;
      client_uni = map_back raise t.client_uni (λ j l is. same (j * 4 + 2) l (lookup_at t 2 j (omega arith) ∙ is)) i;
      server_uni = map_back raise t.server_uni (λ j l is. same (j * 4 + 3) l (lookup_at t 3 j (omega arith) ∙ is)) i;
    }

raise_back : (l : RecvLane) → (l.final_size ≡ None → next_limit l.limit (taken l) l.window l.share ≡ l.limit) → raise l ≡ l
raise_back l settled = grind (arith, nat_tests)

settled_rest : (old mid : End) → but_records mid ≡ but_records old → ((d : Dir) → ended mid d ≡ ended old d) → LimitsAreSettled old → CountsAreSettled old → but_records (settle mid) ≡ but_records old
settled_rest old mid same over limits counts =
    (λ i. record (same i) {
      recvs = each raise (same i).recvs;
      granted = next_limit (same i).granted (total taken (same i).recvs) (same i).present.conn_window (same i).tuning.credit_step;
      granted_bidi = max (same i).granted_bidi (count_after (same i).settings (same i).tuning Bidi (same i).present.grant_bidi (over Bidi i));
      granted_uni = max (same i).granted_uni (count_after (same i).settings (same i).tuning Uni (same i).present.grant_uni (over Uni i));
    })
    ∙ (λ i. record (but_records old) {
      recvs = each_back old.recvs (λ n l is. raise_back l (limits.streams n l is)) i;
      granted = limits.connection i;
      granted_bidi = sym (counts Bidi) i;
      granted_uni = sym (counts Uni) i;
    })

-- where a score stays the same, no half ends

bool_same : (a b : Bool) → (a ≡ true → b ≡ true) → (b ≡ true → a ≡ true) → a ≡ b
bool_same a b x y = grind (arith, nat_tests)

module _ (old mid : End) (g : Goes old (settle mid)) (even : score (settle mid) ≤ score old) (same : but_records mid ≡ but_records old) (alike : SendsAlike old.sends mid.sends) where
  lane_same : (n : ℕ) (l m : SendLane) → lookup old.sends n ≡ Some l → lookup mid.sends n ≡ Some m → Alike l m → send_ended m ≡ send_ended l
  lane_same n l m at there a =
      let acked : m.acked ≡ l.acked = same_numbers m.acked l.acked (λ q. bool_same _ _ (members_even l.acked m.acked a.acks.0 (acked_even old (settle mid) g even n l m at there) q) (a.acks.0 q)) in
      let fin : m.fin_acked ≡ l.fin_acked = bool_same m.fin_acked l.fin_acked (fin_even old (settle mid) g even n l m at there) a.acks.1 in
      let reset : m.reset_acked ≡ l.reset_acked = bool_same m.reset_acked l.reset_acked (reset_even old (settle mid) g even n l m at there) a.acks.2 in
      λ i. send_ended (record l { reset_acked = reset i; was_reset = a.was_reset i; finished = a.finished i; acked = acked i; written = a.written i; fin_acked = fin i })

  ended_same : (d : Dir) → ended mid d ≡ ended old d
  ended_same d =
      let recvs : mid.recvs ≡ old.recvs = ap (λ (x : End). x.recvs) same in
      let role : mid.role ≡ old.role = ap (λ (x : End). x.role) same in
      let none = kept_same RecvStays (λ l h. h) old.recvs in
      let more = ended_grows old mid role (subst (λ t. KeptIn RecvStays old.recvs t) (sym recvs) none) (λ n l is. let (m, there, a) = alike_at old.sends mid.sends alike n l is in (m, there, λ h. lane_same n l m is there a ∙ h)) d in
      let less = ended_grows mid old (sym role) (subst (λ t. KeptIn RecvStays t old.recvs) (sym recvs) none) (λ n m is. let (l, at, a) = alike_back old.sends mid.sends alike n m is in (l, at, λ h. sym (lane_same n l m at is a) ∙ h)) d in
      omega (arith, more, less)

-- A read that tells nothing changes nothing

kept_all : (l : RecvLane) → IsLawful l → keep_from l.arrived.stored l.arrived.read_count ≡ l.arrived.stored
kept_all l lawful = same_map nat_cmp_total nat_cmp-IsAntisymmetric _ _ (λ q. get-keep_from l.arrived.stored l.arrived.read_count q ∙ go q (nat_le l.arrived.read_count q) refl (fmap.get l.arrived.stored q) refl)
  where
    go : (q : ℕ) (b : Bool) → nat_le l.arrived.read_count q ≡ b → (o : Option ℕ) → fmap.get l.arrived.stored q ≡ o → cond b (fmap.get l.arrived.stored q) None ≡ fmap.get l.arrived.stored q
    go q b le o is = grind (arith, nat_tests)

pub read_same : (l : RecvLane) (size : ℕ) → IsLawful l → (after_read l size).arrived.read_count ≤ l.arrived.read_count → ((after_read l size).reader_done ≡ true → l.reader_done ≡ true) → after_read l size ≡ l
read_same l size lawful = by (read_answer l size)
  where
    by : (r : Read) → (after_answer r l size).arrived.read_count ≤ l.arrived.read_count → ((after_answer r l size).reader_done ≡ true → l.reader_done ≡ true) → after_answer r l size ≡ l
    by (reads.Bytes n) few told =
        let count : l.arrived.read_count + length (front_of l.arrived size) ≡ l.arrived.read_count = omega (arith, few) in
        let stored = ap (keep_from l.arrived.stored) count ∙ kept_all l lawful in
        λ i. record l { arrived = record l.arrived { stored = stored i; read_count = count i } }
    by reads.End few told = ap (λ b. record l { reader_done = b }) (sym (told refl))
    by (reads.Reset code) few told = ap (λ b. record l { reader_done = b }) (sym (told refl))
    by reads.Wait few told = refl

-- What is put in a packet

abbrev pub but_ack : End → End
but_ack e = record e { ack_due = false }

-- it is due: an offset, an end or an item
abbrev pub IsNew : End → Piece → Type 0
IsNew e (Data n c) = (l : SendLane) × (lookup e.sends n ≡ Some l) × (((q : ℕ) × (c.offset ≤ q) × (q < c.offset + c.len) × IsDue e n l q) ⊎ ((c.fin ≡ true) × IsEndDue e n l))
IsNew e (Told i) = IsDueItem e i

module _ (old : End) where
  pub noted_in : (p : Piece) (e : End) → e.next ≡ old.next → IsIn (noted p e).outstanding old.next p
  noted_in p e is = (pieces_so_far e e.next ++ p ∷ [], ap (fmap.get (noted p e).outstanding) (sym is) ∙ get_new e.outstanding e.next (pieces_so_far e e.next ++ p ∷ []), among_last (pieces_so_far e e.next) p)

  pub in_fills : (fs : List Seen) (e last : End) (k : ℕ) (p : Piece) → Fills old e fs last → IsIn e.outstanding k p → IsIn last.outstanding k p
  in_fills [] e last k p is here = subst (λ (x : End). IsIn x.outstanding k p) (sym is) here
  in_fills (f ∷ fs) e last k p (may, rest) here = in_fills fs (frame_put f e) last k p rest (put_in k p f e here)

  -- no frame stands there, or an ACK alone
  abbrev pub OnlyAcks : List Seen → End → End → Type 0
  OnlyAcks fs e last = ((fs ≡ []) × (last ≡ e)) ⊎ ((e.ack_due ≡ true) × (last.ack_due ≡ false))

  -- a packet that carries anything carries what is due
  pub fills_new : (fs : List Seen) (e last : End) → but_ack e ≡ but_ack old → Fills old e fs last
      → ((but_ack last ≡ but_ack old) × OnlyAcks fs e last) ⊎ ((p : Piece) × IsIn last.outstanding old.next p × IsNew old p)
  unfolding frame_put
  fills_new [] e last same is = inl (ap but_ack is ∙ same, inl (refl, is))
  fills_new (Ack largest ranges ∷ fs) e last same (may, rest) =
      elim (fills_new fs (record e { ack_due = false }) last same rest) [
        | inl (left, inl (none, is)) ↦ inl (left, inr (may.due, ap (λ (x : End). x.ack_due) is))
        | inl (left, inr (due, is)) ↦ inl (left, inr (may.due, is))
        | inr puts ↦ inr puts
      ]
  fills_new (Stream n offset bytes fin ∷ fs) e last same ((l, may), rest) =
      let c = chunk_of offset bytes fin in
      let at : lookup old.sends n ≡ Some l = ap (λ (x : End). lookup x.sends n) (sym same) ∙ may.lane in
      let flew : (p : Piece) → IsOutstanding old p → IsOutstanding e p = λ p. subst (λ (x : End). IsOutstanding x p) (sym same) in
      let new : IsNew old (Data n c) = (
        l,
        at,
        elim may.something [
          | inl some ↦ (
              let due = may.due offset (omega arith) (omega (arith, some)) in
              inl (offset, omega arith, omega (arith, some), record { no_reset = due.no_reset; written = due.written; not_acked = due.not_acked; not_sent = λ (d, flies, low, high). due.not_sent (d, flew (Data n d) flies, low, high) }))
          | inr last_one ↦ (
              let due = (may.end last_one).0 in
              inr (last_one, record { no_reset = due.no_reset; finished = due.finished; not_acked = due.not_acked; not_sent = λ from len flies. due.not_sent from len (flew _ flies) }))
        ],
      ) in
      inr (Data n c, in_fills fs (frame_put (Stream n offset bytes fin) e) last old.next (Data n c) rest (noted_in (Data n c) (on_send n (λ m. sent_lane m c) e) (ap (λ (x : End). x.next) same)), new)
  fills_new (Control (StreamDataBlocked n m) ∷ fs) e last same (may, rest) =
      let i = StreamDataBlocked n m in
      inr (Told i, in_fills fs (frame_put (Control i) e) last old.next (Told i) rest (noted_in (Told i) (on_send n blocked_lane e) (ap (λ (x : End). x.next) same)), may.0)
  fills_new (Control i ∷ fs) e last same (may, rest) = inr (Told i, in_fills fs (frame_put (Control i) e) last old.next (Told i) rest (noted_in (Told i) e (ap (λ (x : End). x.next) same)), may.0)
  fills_new (Close code ∷ fs) e last same (may, rest) = absurd may
  fills_new (Plain asks ∷ fs) e last same (may, rest) = absurd may

-- Calm calls

-- nothing changed but records and what is acknowledged, and no record is new
pub record Quiet (a b : End) : Type 0 where
  pub rest : but_records b ≡ but_records a
  pub sends : SendsAlike a.sends b.sends
  pub carried : (k : ℕ) (p : Piece) → IsIn b.outstanding k p → IsIn a.outstanding k p

-- a packet of the next number carries what isn't acknowledged
abbrev pub PutsOut : End → End → Type 0
PutsOut old new = (p : Piece) × IsIn new.outstanding old.next p × IsUndone new p × (old.next < new.next)

-- what holds of an end in every run
pub record IsReady (e : End) : Type 0 where
  pub steady : IsSteady e
  pub sound : IsSound e
  pub sent : SentWasWritten e
  pub within : AllWithin e
  pub limits : LimitsAreSettled e
  pub counts : CountsAreSettled e

module _ (old : End) (ready : IsReady old) where
  abbrev pub Result : End → Type 0
  Result e = Goes old e → KeptIn AcksStay old.sends e.sends → KeptIn LaneAfter old.recvs e.recvs → score e ≤ score old → PutsOut old e ⊎ Quiet old e

  settled_quiet : (mid : End) → but_records mid ≡ but_records old → SendsAlike old.sends mid.sends → ((k : ℕ) (p : Piece) → IsIn mid.outstanding k p → IsIn old.outstanding k p) → Result (settle mid)
  settled_quiet mid same alike carried g kept lanes even =
      inr (record { rest = settled_rest old mid same (ended_same old mid g even same alike) ready.limits ready.counts; sends = alike; carried = carried })

  pub ends_after : (e mid : End) → SentWasWritten e → Ends e mid → IsAfter e mid
  ends_after e mid sent (inl is) = subst (IsAfter e) (sym is) (after_same e)
  ends_after e mid sent (inr (inl (c, is))) = subst (IsAfter e) (sym is) (after_closes c e)
  ends_after e mid sent (inr (inr (inl (number, asks, is)))) = subst (IsAfter e) (sym is) (after_recorded number asks e)
  ends_after e mid sent (inr (inr (inr (count, ranges, is)))) =
      subst (IsAfter e) (sym is) (after_acks (take count (named e ranges)) e (All_take (λ (a : AckedPiece). WasWritten e.sends a.piece) count (named e ranges) (named_written e ranges sent)))

  abbrev IsLike : End → Type 0
  IsLike y = (but_records y ≡ but_records old) × SendsAlike old.sends y.sends

  ends_like : (e mid : End) → Ends e mid → IsLike e → IsLike mid
  ends_like e mid (inl is) like = subst IsLike (sym is) like
  ends_like e mid (inr (inl (c, is))) like = subst IsLike (sym is) (like.0, like.1)
  ends_like e mid (inr (inr (inl (number, asks, is)))) like = subst IsLike (sym is) (like.0, like.1)
  ends_like e mid (inr (inr (inr (count, ranges, is)))) like =
      let ps = take count (named e ranges) in
      subst IsLike (sym is) (acks_rest ps e ∙ like.0, slots_twice old.sends e.sends (acks ps e).sends like.1 (alike_acks ps e))

  -- Reads

  read_back : (n : ℕ) (f : RecvLane → RecvLane) → ((l : RecvLane) → lookup old.recvs n ≡ Some l → f l ≡ l) → on_recv n f old ≡ old
  read_back n f same = grind (arith, nat_tests, updated_back)

  -- the lane at n once the limits moved
  pub raised_at : (n : ℕ) (f : RecvLane → RecvLane) (l : RecvLane) → lookup old.recvs n ≡ Some l → lookup (settle (on_recv n f old)).recvs n ≡ Some (raise (f l))
  raised_at n f l is = lookup_each raise (updated old.recvs n f (lookup old.recvs n)) n ∙ ap (option_map raise) (changed old.recvs n f l is)

  -- Packets

  pub not_done : (i : Item) → IsDueItem old i → IsWhollyAcked old (Told i) → ⊥
  not_done i due reached = due.1 (inr (done_acked old ready.within i due.0 reached))

  pub current_undone : (i : Item) → IsCurrent old i → (IsWhollyAcked old (Told i) → ⊥) → IsUndone old (Told i)
  current_undone (MaxData m) now not = (now.0, omega (arith, now.1), unless _ not)
  current_undone (MaxStreamData n m) (l, at, same, more, unsized) not = (l, at, same, omega (arith, more), unless _ not)
  current_undone (MaxStreams d m) now not = (now.0, omega (arith, now.1), unless _ not)
  current_undone (ResetStream n code size) (l, at, is) not = (l, at, unless l.reset_acked (λ acked. not (l, at, acked)))
  current_undone (StopSending n code) now not = (now.0, now.1, unless _ not)
  current_undone (DataBlocked m) now not = (let low = ready.steady.credit in (now.0, omega (arith, now.0, low), unless _ not))
  current_undone (StreamDataBlocked n m) (l, at, unreset, same, more, end) not = (let low = ready.steady.limits n l at in (l, at, same, omega (arith, same, low), unless _ not))
  current_undone (StreamsBlocked d m) now not = (let low = ready.steady.counts d in (now.1, omega (arith, now.1, low), unless _ not))

  pub due_undone : (i : Item) → IsDueItem old i → IsUndone old (Told i)
  due_undone i due = current_undone i due.0 (not_done i due)

  new_undone : (p : Piece) → IsNew old p → IsUndone old p
  new_undone (Data n c) (l, at, inl (q, low, high, due)) = (l, at, inl (q, low, high, due.not_acked))
  new_undone (Data n c) (l, at, inr (fin, due)) = (l, at, inr (fin, due.not_acked))
  new_undone (Told i) due = due_undone i due

  pub forms : Forms old Result
  forms =
      record {
        same = λ g kept lanes even. inr (record { rest = refl; sends = slots_same old.sends; carried = λ k p here. here });
        claims = λ g kept lanes even. inr (record { rest = refl; sends = slots_same old.sends; carried = λ k p here. here });
        accepts = λ bidi uni. settled_quiet (record old { accepted_bidi = bidi; accepted_uni = uni }) refl (slots_same old.sends) (λ k p here. here);
        reads = λ n size g kept lanes even.
            let f : RecvLane → RecvLane = λ m. after_read m size in
            let new = settle (on_recv n f old) in
            let is : on_recv n f old ≡ old = read_back n f (λ l at.
            let there = raised_at n f l at in
            read_same l size (lawful_in old n l ready.sound.0 at) (read_even old new g even n l (raise (f l)) at there) (told_even_of old new g even n l (raise (f l)) at there)) in
            settled_quiet (on_recv n f old) (ap but_records is) (slots_same old.sends) (λ k p here. here) g kept lanes even;
        consumes = λ n size g kept lanes even.
            let f : RecvLane → RecvLane = λ m. after_read m size in
            let h : RecvLane → RecvLane = λ m. after_read m 0 in
            let new = settle (on_recv n h (on_recv n f old)) in
            let there : (l : RecvLane) → lookup old.recvs n ≡ Some l → lookup new.recvs n ≡ Some (raise (h (f l))) = λ l at.
            lookup_each raise (updated (on_recv n f old).recvs n h (lookup (on_recv n f old).recvs n)) n ∙ ap (option_map raise) (changed (on_recv n f old).recvs n h (f l) (changed old.recvs n f l at)) in
            let first : (l : RecvLane) → lookup old.recvs n ≡ Some l → f l ≡ l = λ l at.
            let grows = got_edits (Reads 0) (f l) in
            let few = read_even old new g even n l (raise (h (f l))) at (there l at) in
            read_same l size (lawful_in old n l ready.sound.0 at) (omega (arith, grows.1, few)) (λ told. told_even_of old new g even n l (raise (h (f l))) at (there l at) (grows.4 told)) in
            let second : (l : RecvLane) → lookup old.recvs n ≡ Some l → h l ≡ l = λ l at.
            read_same l 0 (lawful_in old n l ready.sound.0 at)
            (subst (λ k. (h k).arrived.read_count ≤ l.arrived.read_count) (first l at) (read_even old new g even n l (raise (h (f l))) at (there l at)))
            (subst (λ k. (h k).reader_done ≡ true → l.reader_done ≡ true) (first l at) (told_even_of old new g even n l (raise (h (f l))) at (there l at))) in
            let is : on_recv n h (on_recv n f old) ≡ old = ap (on_recv n h) (read_back n f first) ∙ read_back n h second in
            settled_quiet (on_recv n h (on_recv n f old)) (ap but_records is) (slots_same old.sends) (λ k p here. here) g kept lanes even;
        packet = λ fs last filled g kept lanes even.
            elim (fills_new old fs old last refl filled) [
              | inl (same, none) ↦ settled_quiet (record last { next = old.next + 1 }) (ap but_records same) (subst (λ t. SendsAlike old.sends t) (sym (ap (λ (x : End). x.sends) same)) (slots_same old.sends)) (λ k p here. subst (λ (x : End). IsIn x.outstanding k p) same here) g kept lanes even
              | inr (p, there, new) ↦ inl (p, there, undone_stays old (settle (record last { next = old.next + 1 })) g even kept p (new_undone p new), omega arith)
            ];
        frames = λ fs mid none ends g kept lanes even.
            let led = frames_taken fs old in
            let left = all_left fs old ready.sound ready.sent none in
            let x = after_twice led mid (settle mid) (ends_after led mid left.sent ends) (after_settle mid) in
            let like = frames_like old (settle mid) g even ready.steady lanes fs old refl (slots_same old.sends) ready.sound ready.sent none x in
            let (same, alike) = ends_like led mid ends like in
            settled_quiet mid same alike (λ k p here. frames_back k p fs old (ends_back k p led mid ends here)) g kept lanes even;
      }
