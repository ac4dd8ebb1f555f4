-- Streams that are over and weren't told: what the marks of their halves say of them.
use Rattle.qs_conn.specs.declared.recv_marks.RecvTask.TheVariants as tasks
use Rattle.qs_send.specs.declared.parts.SendFault.TheVariants as sends
use Rattle.std.specs.FinSet as set
use Rattle.qs_conn.specs.declared.send_marks.Task.TheVariants as send_tasks
use Rattle.std.proofs.Common.{◌≡◌, ℕ, ◌+◌, ◌-◌, ◌/◌, ◌%◌, ◌<◌, ◌≤◌, ◌^◌, ◌==◌, ◌&&◌, not, nat_le, Bool, true, false, List, length, Option, None, Some, refl, sym, ap, ◌∙◌, subst, arith, zero, suc, nat_cmp, ◌⊎◌, is_some, inl, inr, [], take, Result, Ok, Err, unwrap_or, if◌then◌else◌, option_map, ◌||◌, min, cond, nat_lt, IsTrue}
use Rattle.std.specs.Option.{IfSome}
use Rattle.std.proofs.lemmas.Bool.{true≢false, both_ways, eq-eqb, ne_eqb, and_parts, cases_lt}
use Rattle.std.proofs.lemmas.Bool.Decides.{nat_tests}
use Rattle.qs_recv.specs.Lane.{RecvLane, read_answer, bytes_of, bytes_read, after_answer, after_read, stop, stop_and_discard}
use Rattle.qs_send.specs.Lane.{SendLane, refusal, write_lane, Sending, sent_lane, after_sent, accepted, free_room}
use Rattle.qs_machine.specs.Tables.{Tables, type_of, lookup, table, index_of, updated}
use Rattle.qs_machine.specs.Ends.{End, role_bit, is_uni, is_own, send_lane, recv_lane, on_send, on_recv, first_window_by}
use Rattle.qs_machine.specs.News.{IsHeld, IsEnded, IsLeast, IsReadable, HasForPacket, IsSendable, IsWritable}
use Rattle.qs_machine.specs.Heard.{is_told, Hearing, heard_opened, IsNews, IsNextOpened, IsFirstNews, ComesBefore, kind_of, subject_of, place_of, is_held_back, WasResetAcked, MayOpen, wants, TakesMemory, FirstTakesMemory}
use Rattle.qs_conn.specs.Marks.{is_marked, both, untold, AreEndsMarked, IsBefore, IsMarkedOf, IsUntoldOf, IsUntold}
use Rattle.qs_streams.specs.Flags.{least_of}
use Rattle.qs_conn.specs.Ended.{recv_over, send_over, IsToldOfEnd}
use Rattle.qs_conn.specs.RecvTasks.{HasOne, HasNone, has_one}
use Rattle.qs_conn.specs.Sending.{HasSent, IsDueOf, MayWrite, offered, let_go, front_of, credit_room, TakesAlone}
use Rattle.qs_conn.proofs.Marked.{least_as, left_at, both_self, told_of, waits, none_before, none_next, least_given, least_two, least_by}
use Rattle.qs_conn.proofs.Boths.{both_is, untold_is}
use Rattle.std.proofs.lemmas.Option.{none-some, same_Some}
use Rattle.qs_wire.specs.Streams.{dir_of}
use Rattle.qs_wire.specs.declared.stream_id.Dir.{Dir}
use Rattle.qs_calls.specs.declared.news.News.{News}
use Rattle.qs_calls.specs.declared.news.News.TheVariants.{Opened, Stopped, Finished, ResetAcked, Available, StreamsBlocked}
use Rattle.qs_machine.specs.Credit.{send_ended, settle, credit_for, window_left}
use Rattle.qs_machine.specs.Asking.{room, stopped_with, IsPeeked, room_of, stop_of}
use Rattle.qs_conn.specs.ByDir.{IsFirstDir}
use Rattle.qs_conn.specs.Hearing.{IsFirstFrom, next_of_peer}
use Rattle.std.specs.Prelude.{is_none, option_map}
use Rattle.qs_recv.specs.Peek.{IsPeek}
use Rattle.qs_recv.specs.declared.half.Peek.{Peek}
use Rattle.qs_recv.specs.declared.half.Read.{Read}
use Rattle.qs_recv.specs.declared.half.Read.TheVariants.{Wait}
use Rattle.qs_recv.specs.declared.credit.Share.TheVariants.{Half}
use Rattle.qs_send.specs.declared.parts.SendFault.{SendFault}
use Rattle.qs_calls.specs.declared.uses.UseFault.{UseFault}
use Rattle.qs_calls.specs.declared.uses.UseFault.TheVariants.{Closed, NoMemory}
use Rattle.qs_machine.specs.Verdicts.{or_new}
use Rattle.qs_machine.specs.Owner.{Certain, Uncertain, first_refusal, refuse_if, no_half, half_refusal, use_fault, send_refusal, recv_refusal, is_read_no_more, AsksToKeep, WriteStep, StopStep, StopAndDiscardStep, ReadStep, ConsumeStep, is_end, accepted_by, at_most}
use Rattle.qs_machine.specs.Sums.{or_none}
use Rattle.qs_machine.proofs.TablesAfter.{updated_back}
use Rattle.qs_machine.proofs.Again.{changed}
use Rattle.qs_conn.specs.declared.recv_marks.RecvTask.{RecvTask}
use Rattle.qs_conn.specs.Layers.{no_sender, no_receiver}
use Rattle.qs_send.specs.declared.parts.Chunk.{Chunk}
use Rattle.qs_send.specs.Chunks.{IsDueChunk, has_unsent}
use Rattle.qs_conn.specs.declared.limits.Limits.{Limits}
use Rattle.qs_calls.specs.declared.settings.Settings.{Settings}
use Rattle.qs_wire.specs.declared.stream_id.Role.{Role}
use Rattle.qs_machine.specs.Due.{ByteGoes, EndGoes, StreamGoes}
use Rattle.qs_machine.specs.Outgoing.{Outgoing, IsTied, HasSending, WantsMore, chunk_put, lanes_of, sent_sum, with_outgoing, IsAckedReset}
use Rattle.qs_conn.specs.Filling.{end_by, AnyWantsMore}
use Rattle.qs_conn.specs.declared.send_marks.Task.{Task}
use Rattle.qs_conn.specs.Tasks.{HasTask, HasTaskAt, going_task, IsQuiet, IsQuietAt, IsDoneAfter, has, is_due_below, may_end, is_funded, IsSought}
use Rattle.qs_conn.proofs.Outboxes.{is_due, is_end_due, due_is, end_due_is, none_is}
use Rattle.qs_conn.proofs.Tasks.{no_byte, no_fin, no_fin_again, none_again, below_due, due_below, end_parts, parts_end, unsent_below}
use Rattle.qs_machine.proofs.LaneTables.{lookup_lanes, lane_there}
use Rattle.qs_machine.proofs.TableLaws.{lookup_same}
use Rattle.qs_machine.proofs.Tied.{tied_sent}
use Rattle.qs_send.specs.Sound.{IsLawful}
use Rattle.std.proofs.lemmas.Grind.{common_steps}
use Rattle.std.proofs.lemmas.List.{length-take, take-take, take_all}
use Rattle.qs_send.specs.Writable.{is_writable}
use Rattle.qs_ranges.specs.Numbers.{MAX_VARINT}
use Rattle.qs_wire.specs.declared.stream_id.Dir.TheVariants.{Bidi, Uni}
use Rattle.qs_recv.specs.News.{is_readable}
use Rattle.qs_conn.specs.declared.send_marks.Search.{Search}

recv_there : (t : Tables RecvLane) (n : ℕ) (o : Option RecvLane) → lookup t n ≡ o → recv_over o ≡ true → IsHeld (HasOne tasks.Ended) t n
recv_there t n None at is = absurd (true≢false (sym is))
recv_there t n (Some l) at is = (l, at, is)

send_there : (t : Tables SendLane) (n : ℕ) (o : Option SendLane) → lookup t n ≡ o → send_over o ≡ true → IsHeld HasSent t n
send_there t n None at is = absurd (true≢false (sym is))
send_there t n (Some l) at is = (l, at, is)

-- One stream of an end as its parts are

module _ (v e : End) (same : v ≡ e) (n : ℕ) where
  -- by the halves that there are
  pub bidi_over : is_uni n ≡ false → recv_over (lookup v.recvs n) ≡ true → send_over (lookup v.sends n) ≡ true → IsEnded e n
  bidi_over uni recv sent = subst (λ x. IsEnded x n) same (record { receiving = λ has. recv_there v.recvs n (lookup v.recvs n) refl recv; sending = λ has. send_there v.sends n (lookup v.sends n) refl sent })

  pub own_over : is_uni n ≡ true → is_own e n ≡ true → send_over (lookup v.sends n) ≡ true → IsEnded e n
  own_over uni own sent =
      subst (λ x. IsEnded x n) same
      (record { receiving = λ has. absurd (both_ways (is_uni n && is_own v n) has (ap (λ b. b && is_own v n) uni ∙ ap (λ (x : End). is_own x n) same ∙ own)); sending = λ has. send_there v.sends n (lookup v.sends n) refl sent })

  pub peers_over : is_uni n ≡ true → is_own e n ≡ false → recv_over (lookup v.recvs n) ≡ true → IsEnded e n
  peers_over uni own recv =
      subst (λ x. IsEnded x n) same
      (record { receiving = λ has. recv_there v.recvs n (lookup v.recvs n) refl recv; sending = λ has. absurd (both_ways (is_uni n && not (is_own v n)) has (ap (λ b. b && not (is_own v n)) uni ∙ ap (λ (x : End). not (is_own x n)) same ∙ ap not own)) })

-- The marks of the streams of a type

recv_same : (o : Option RecvLane) → has_one tasks.Ended o ≡ recv_over o
recv_same None = refl
recv_same (Some l) = refl

both_true : (a b : Bool) → a ≡ true → b ≡ true → (a && b) ≡ true
both_true a b p q = grind (arith, nat_tests)

module _ (v e : End) (same : v ≡ e) (k : ℕ) (recvs sends : List Bool) (receiving : (n : ℕ) → type_of n ≡ k → is_marked recvs (n / 4) ≡ has_one tasks.Ended (lookup v.recvs n)) (sending : (n : ℕ) → type_of n ≡ k → is_marked sends (n / 4) ≡ send_over (lookup v.sends n)) where
  module _ (n : ℕ) (kind : type_of n ≡ k) where
    back : IsEnded e n → IsEnded v n
    back over = subst (λ x. IsEnded x n) (sym same) over

    own_is : (b : Bool) → (k % 2 == role_bit v.role) ≡ b → is_own v n ≡ b
    own_is b is = ap (λ j. j % 2 == role_bit v.role) kind ∙ is

    own_now : (b : Bool) → (k % 2 == role_bit v.role) ≡ b → is_own e n ≡ b
    own_now b is = ap (λ (x : End). is_own x n) (sym same) ∙ own_is b is

    received : is_marked recvs (n / 4) ≡ true → recv_over (lookup v.recvs n) ≡ true
    received is = sym (receiving n kind ∙ recv_same (lookup v.recvs n)) ∙ is

    sent : is_marked sends (n / 4) ≡ true → send_over (lookup v.sends n) ≡ true
    sent is = sym (sending n kind) ∙ is

    recv_mark : IsHeld (HasOne tasks.Ended) v.recvs n → is_marked recvs (n / 4) ≡ true
    recv_mark (l, at, is) = receiving n kind ∙ ap (has_one tasks.Ended) at ∙ is

    send_mark : IsHeld HasSent v.sends n → is_marked sends (n / 4) ≡ true
    send_mark (l, at, is) = sending n kind ∙ ap send_over at ∙ is

  pub bidi_marks : k < 2 → AreEndsMarked e k (both recvs sends)
  bidi_marks lt n kind = (
    λ is. (let parts = and_parts (is_marked recvs (n / 4)) (is_marked sends (n / 4)) (sym (both_is recvs sends (n / 4)) ∙ is) in bidi_over v e same n uni (received n kind parts.0) (sent n kind parts.1)),
    λ over. both_is recvs sends (n / 4) ∙ both_true (is_marked recvs (n / 4)) (is_marked sends (n / 4)) (recv_mark n kind ((back n kind over).receiving (ap (λ b. b && is_own v n) uni))) (send_mark n kind ((back n kind over).sending (ap (λ b. b && not (is_own v n)) uni))),
  )
    where
      uni : is_uni n ≡ false
      uni = ap (nat_le 2) kind ∙ grind (arith, nat_tests, lt)

  module _ (ge : 2 ≤ k) where
    uni : (n : ℕ) → type_of n ≡ k → is_uni n ≡ true
    uni n kind = ap (nat_le 2) kind ∙ grind (arith, nat_tests, ge)

    pub own_marks : k % 2 ≡ role_bit v.role → AreEndsMarked e k (both sends sends)
    own_marks bit n kind =
        let twice = ap (λ xs. is_marked xs (n / 4)) (both_self sends) in
        let own = eq-eqb (k % 2) (role_bit v.role) bit in
        (λ is. own_over v e same n (uni n kind) (own_now n kind true own) (sent n kind (sym twice ∙ is)), λ over. twice ∙ send_mark n kind ((back n kind over).sending (ap (λ b. b && not (is_own v n)) (uni n kind) ∙ ap not (own_is n kind true own))))

    pub peers_marks : (k % 2 ≡ role_bit v.role → ⊥) → AreEndsMarked e k (both recvs recvs)
    peers_marks bit n kind =
        let twice = ap (λ xs. is_marked xs (n / 4)) (both_self recvs) in
        let own = ne_eqb (k % 2) (role_bit v.role) bit in
        (λ is. peers_over v e same n (uni n kind) (own_now n kind false own) (received n kind (sym twice ∙ is)), λ over. twice ∙ recv_mark n kind ((back n kind over).receiving (ap (λ b. b && is_own v n) (uni n kind) ∙ own_is n kind false own)))

-- the least one of a type that is over and wasn't told of
pub ended_next : (e : End) (told : Tables Bool) (k from : ℕ) (a b : List Bool) → AreEndsMarked e k (both a b) → (r : Option ℕ) → IsLeast (IsMarkedOf (untold (both a b) (table told k)) k) from r → IsLeast (IsUntoldOf (IsEnded e) told k) from r
ended_next e told k from a b are r =
    least_as (IsMarkedOf (untold (both a b) (table told k)) k) (IsUntoldOf (IsEnded e) told k) from r
    (λ n (kind, is). (let left = left_at (both a b) (table told k) (n / 4) is in (kind, ((are n kind).0 left.0, told_of told n k kind ∙ left.1))))
    (λ n (kind, (over, free)). (kind, untold_is (both a b) (table told k) (n / 4) ∙ ap (λ x. x && not (is_marked (table told k) (n / 4))) ((are n kind).1 over) ∙ ap not (sym (told_of told n k kind) ∙ free)))

-- ---- The first piece of news, by its kind: none of an earlier kind is there, and its stream is the least of its own.

least_from : (P : ℕ → Type 0) (n m : ℕ) → IsLeast P 0 (Some n) → P m → n ≤ m
least_from P n m l p = (let x = l.least m (omega arith) p in let same : n ≡ x.0 = same_Some n x.0 x.1 in omega (arith, same, x.2))

none_here : (P : ℕ → Type 0) → IsLeast P 0 None → (n : ℕ) → P n → ⊥
none_here P l n p = (let x = l.least n (omega arith) p in none-some x.0 x.1)

not_before : (a b : News) → kind_of b ≤ kind_of a → (kind_of a ≡ kind_of b → subject_of b ≤ subject_of a) → ComesBefore a b → ⊥
not_before a b le same h = grind (arith, nat_tests)

module _ (e : End) (h : Hearing) where
  -- no news of a kind below one
  abbrev pub NoneBelow : ℕ → Type 0
  NoneBelow k = (other : News) → IsNews e h other → k ≤ kind_of other

  -- where it is a stream that opened, that is the next one
  pub first_is_next : (answer : Option News) → IsFirstNews e h answer → (n : ℕ) → answer ≡ Some (Opened n) → index_of n ≡ heard_opened h (dir_of n)
  first_is_next answer is n same = (is.found (Opened n) same).next

  -- the first piece of news was refused its note
  pub refused_next : (answer : Option News) → IsFirstNews e h answer → (news : News) × (answer ≡ Some news) × TakesMemory news h → FirstTakesMemory e h
  refused_next answer is (news, same, takes) = (news, subst (IsFirstNews e h) same is, takes)

  -- The properties that are sought
  abbrev pub Sent : ℕ → Type 0
  Sent n = IsHeld (λ l. send_ended l ≡ true) e.sends n × (is_told h.sent n ≡ false)

  abbrev pub Freed : Dir → Type 0
  Freed d = MayOpen e d × (wants h d ≡ true)

  abbrev pub OfDir : (Dir → Type 0) → ℕ → Type 0
  OfDir P place = (d : Dir) × (place ≡ place_of d) × P d

  -- what news of a kind says of its subject
  abbrev pub Says : ℕ → ℕ → Type 0
  Says zero n = IsNextOpened e h n
  Says (suc zero) n = IsReadable e n × (is_told h.readable n ≡ false)
  Says (suc (suc zero)) n = (0 < room e n) × (is_told h.short n ≡ true)
  Says (suc (suc (suc zero))) n = (is_some (stopped_with e n) ≡ true) × (is_told h.stopped n ≡ false)
  Says (suc (suc (suc (suc zero)))) n = Sent n
  Says (suc (suc (suc (suc (suc zero))))) n = IsEnded e n × (is_told h.ended n ≡ false)
  Says (suc (suc (suc (suc (suc (suc zero)))))) n = OfDir Freed n
  Says (suc (suc (suc (suc (suc (suc (suc zero))))))) n = (e.closed ≡ None) × (h.blocked.conn ≡ true)
  Says (suc (suc (suc (suc (suc (suc (suc (suc zero)))))))) n = (e.closed ≡ None) × (is_told h.blocked.streams n ≡ true)
  Says (suc (suc (suc (suc (suc (suc (suc (suc (suc k))))))))) n = OfDir (λ d. (e.closed ≡ None) × (is_held_back h.blocked d ≡ true)) n

  reset_ended : (l : SendLane) → l.reset_acked ≡ true → send_ended l ≡ true
  reset_ended l is = rw is refl

  says : (other : News) → IsNews e h other → Says (kind_of other) (subject_of other)
  says (Stopped n code) o = (ap is_some o.0, o.1)
  says (Finished n) ((l, at, fin), told) = ((l, at, fin.1), told)
  says (ResetAcked n) ((l, at, acked), told) = ((l, at, reset_ended l acked), told)
  says (Available d) o = (d, refl, o)
  says (StreamsBlocked d) o = (d, refl, o)
  says other o = o

  says_of : (k : ℕ) (other : News) → IsNews e h other → kind_of other ≡ k → Says k (subject_of other)
  says_of k other o is = subst (λ j. Says j (subject_of other)) is (says other o)

  -- of a kind of which the search finds none there is none
  pub none_below : (k : ℕ) → NoneBelow k → IsLeast (Says k) 0 None → NoneBelow (k + 1)
  none_below k below none other o = elim (cases_lt k (kind_of other)) [
    | inl lt ↦ omega (arith, lt)
    | inr ge ↦ (let b = below other o in absurd (none_here (Says k) none (subject_of other) (says_of k other o (omega (arith, b, ge)))))
  ]

  -- the least of the first kind of which there is some
  pub first_of : (k : ℕ) (news : News) → NoneBelow k → kind_of news ≡ k → IsNews e h news → IsLeast (Says k) 0 (Some (subject_of news)) → IsFirstNews e h (Some news)
  first_of k news below kind is least =
      record {
        found = λ x same. subst (IsNews e h) (same_Some news x same) is;
        first = λ other o. (news, refl, not_before other news (let b = below other o in omega (arith, b, kind)) (λ eq. least_from (Says k) (subject_of news) (subject_of other) least (says_of k other o (eq ∙ kind))));
      }

  pub first_sent : (n : ℕ) (news : News) → NoneBelow 4 → IsLeast Sent 0 (Some n) → ((news ≡ ResetAcked n) × IsHeld WasResetAcked e.sends n) ⊎ ((news ≡ Finished n) × ((l : SendLane) → lookup e.sends n ≡ Some l → l.reset_acked ≡ false)) → IsFirstNews e h (Some news)
  first_sent n news below is (inl (same, held)) = rw same (first_of 4 (ResetAcked n) below refl (held, (is.found n refl).1.1) is)
  first_sent n news below is (inr (same, not)) = (let ((l, at, over), told) = (is.found n refl).1 in rw same (first_of 4 (Finished n) below refl ((l, at, (not l at, over)), told) is))

  -- The direction that is found comes first
  module _ (P : Dir → Type 0) where
    pub dir_here : (d : Dir) → IsFirstDir P (Some d) → P d
    dir_here d is = grind (arith, nat_tests)

    dir_first : (d d' : Dir) → IsFirstDir P (Some d) → P d' → place_of d ≤ place_of d'
    dir_first d d' is p = grind (arith, nat_tests)

    pub dir_least : (d : Dir) → IsFirstDir P (Some d) → IsLeast (OfDir P) 0 (Some (place_of d))
    dir_least d is = record { found = λ n same. (omega arith, (d, sym (same_Some (place_of d) n same), dir_here d is)); least = λ n ge p. (place_of d, refl, rw (p.1) (dir_first d p.0 is p.2)) }

    pub dir_none : IsFirstDir P None → IsLeast (OfDir P) 0 None
    dir_none none = record { found = λ n same. absurd (none-some n same); least = λ n ge p. absurd (none p.0 p.2) }

  -- where there is none of an earlier kind, the first of the later ones is the first
  pub first_later : (answer : Option News) → NoneBelow 7 → IsFirstFrom 7 e h answer → IsFirstNews e h answer
  first_later answer below is = record { found = λ news same. (is.found news same).1; first = λ other o. is.first other (below other o) o }

-- ---- The calls of an owner, by the parts that they change.

-- A refusal, and no refusal

passed : {A F : Type 0} (o : Option F) (old new : End) (answer : Result A F) (Effect : Type 0) → o ≡ None → Effect → Certain o old answer new Effect
passed o old new answer Effect is effect = rw is effect

-- Sending halves

refusal_parts : (b c : Bool) (o : Option SendLane) (says : SendLane → Option SendFault)
    → first_refusal (refuse_if b Closed) (elim o [ None ↦ Some (no_half c) | Some l ↦ half_refusal (says l) ])
    ≡ first_refusal (first_refusal (refuse_if b Closed) (refuse_if (is_none o) (no_half c))) (half_refusal (says (or_none o)))
refusal_parts b c o says = grind (arith, nat_tests)

refusal_half : (e : End) (n : ℕ) (says : SendLane → Option SendFault) → no_sender e n ≡ None → send_refusal e n says ≡ half_refusal (says (or_none (send_lane e n)))
refusal_half e n says is = refusal_parts (is_some e.closed) (is_some (recv_lane e n)) (send_lane e n) says ∙ ap (λ o. first_refusal o (half_refusal (says (or_none (send_lane e n))))) is

there_by : {X : Type 0} (pick : Option X → X) → ((l : X) → pick (Some l) ≡ l) → (b c : Bool) (o : Option X) → first_refusal (refuse_if b Closed) (refuse_if (is_none o) (no_half c)) ≡ None → o ≡ Some (pick o)
there_by pick is b c o h = grind (arith, nat_tests)

-- the half is there
pub sender_there : (e : End) (n : ℕ) → no_sender e n ≡ None → send_lane e n ≡ Some (or_none (send_lane e n))
sender_there e n is = there_by or_none (λ l. refl) (is_some e.closed) (is_some (recv_lane e n)) (send_lane e n) is

pub write_ok : (e now : End) (n : ℕ) (bytes : List ℕ) (count : ℕ) (sends : Tables SendLane) (new : End) → e ≡ now → no_sender now n ≡ None → refusal (or_none (send_lane e n)) ≡ None
    → count ≡ accepted_by e (or_none (send_lane e n)) (length bytes) → sends ≡ updated e.sends n (λ l. write_lane l (take count bytes)) (send_lane e n)
    → new ≡ settle (record e { sends = sends }) → WriteStep now n bytes (Ok count) new
write_ok e now n bytes count sends new is none free much after settled =
    let there = ap (λ k. no_sender k n) is ∙ none in
    subst (λ (k : End). WriteStep k n bytes (Ok count) new) is
    (passed _ e new (Ok count) _ (refusal_half e n refusal there ∙ ap half_refusal free)
    (inr (
      or_none (send_lane e n),
      sender_there e n there,
      (ap Ok much, settled ∙ ap (λ t. settle (record e { sends = t })) after ∙ ap (λ k. settle (on_send n (λ m. write_lane m (take k bytes)) e)) much),
    )))

by_fault : (e : End) (fault : SendFault) (o : Option SendFault) (Asks Effect : Type 0) → fault ≡ unwrap_or o sends.NoMemory → (fault ≡ sends.NoMemory → Asks)
    → Uncertain {A = ℕ} (half_refusal o) NoMemory Asks e (Err (use_fault fault)) e Effect
by_fault e fault o Asks Effect is asks = grind (arith, nat_tests)

pub write_err : (e now : End) (n : ℕ) (bytes : List ℕ) (fault : SendFault) → e ≡ now → no_sender now n ≡ None → fault ≡ unwrap_or (refusal (or_none (send_lane e n))) sends.NoMemory
    → (◌≡◌ {A = Result ℕ SendFault} (Err fault) (Err sends.NoMemory) → 0 < accepted_by e (or_none (send_lane e n)) (length bytes)) → WriteStep now n bytes (Err (use_fault fault)) e
write_err e now n bytes fault is none told asks =
    let there = ap (λ k. no_sender k n) is ∙ none in
    subst (λ (k : End). WriteStep k n bytes (Err (use_fault fault)) e) is
    (rw (refusal_half e n refusal there) (by_fault e fault (refusal (or_none (send_lane e n))) (AsksToKeep e n bytes) _ told (λ no_memory. (or_none (send_lane e n), sender_there e n there, asks (ap (λ f. Err f) no_memory)))))

-- Receiving halves

recv_parts : (b c : Bool) (o : Option RecvLane)
    → first_refusal (refuse_if b Closed) (elim o [ None ↦ Some (no_half c) | Some l ↦ None ]) ≡ first_refusal (refuse_if b Closed) (refuse_if (is_none o) (no_half c))
recv_parts b c o = grind (arith, nat_tests)

recv_refusal_is : (is_shut : Bool) (e : End) (n : ℕ) → recv_refusal is_shut e n ≡ no_receiver is_shut e n
recv_refusal_is is_shut e n = recv_parts is_shut (is_some (send_lane e n)) (recv_lane e n)

pub receiver_there : (e : End) (n : ℕ) → no_receiver (is_read_no_more e) e n ≡ None → recv_lane e n ≡ Some (or_new (recv_lane e n) 0 Half)
receiver_there e n is = there_by (λ o. or_new o 0 Half) (λ l. refl) (is_read_no_more e) (is_some (send_lane e n)) (recv_lane e n) is

-- a half that is there is edited, of an end that is told in two ways
edit_ok : (e now : End) (n : ℕ) (f : RecvLane → RecvLane) (recvs : Tables RecvLane) (new : End) → e ≡ now → no_receiver (is_some now.closed) now n ≡ None → recvs ≡ updated e.recvs n f (recv_lane e n) → new ≡ settle (record e { recvs = recvs })
    → Certain {A = Unit {0}} (recv_refusal (is_some now.closed) now n) now (Ok tt) new ((◌≡◌ {A = Result (Unit {0}) UseFault} (Ok tt) (Ok tt)) × (new ≡ settle (on_recv n f now)))
edit_ok e now n f recvs new is none after settled = grind (arith, nat_tests)

pub stop_ok : (e now : End) (n code : ℕ) (recvs : Tables RecvLane) (new : End) → e ≡ now → no_receiver (is_some now.closed) now n ≡ None → recvs ≡ updated e.recvs n (λ l. stop l code) (recv_lane e n)
    → new ≡ settle (record e { recvs = recvs }) → StopStep now n code (Ok tt) new
stop_ok e now n code recvs new is none after settled = edit_ok e now n (λ l. stop l code) recvs new is none after settled

pub forget_ok : (e now : End) (n code : ℕ) (recvs : Tables RecvLane) (new : End) → e ≡ now → no_receiver (is_some now.closed) now n ≡ None → recvs ≡ updated e.recvs n (λ l. stop_and_discard l code) (recv_lane e n)
    → new ≡ settle (record e { recvs = recvs }) → StopAndDiscardStep now n code (Ok tt) new
forget_ok e now n code recvs new is none after settled = edit_ok e now n (λ l. stop_and_discard l code) recvs new is none after settled

pub read_ok : (e now : End) (n size : ℕ) (answer : Read) (recvs : Tables RecvLane) (new : End) → e ≡ now → no_receiver (is_read_no_more now) now n ≡ None → answer ≡ read_answer (or_new (recv_lane e n) 0 Half) size
    → recvs ≡ updated e.recvs n (λ l. after_read l size) (recv_lane e n) → new ≡ settle (record e { recvs = recvs })
    → ReadStep now n size (Ok answer) (bytes_read (or_new (recv_lane e n) 0 Half) size) new
read_ok e now n size answer recvs new is none told after settled =
    let there = ap (λ k. no_receiver (is_read_no_more k) k n) is ∙ none in
    subst (λ (k : End). ReadStep k n size (Ok answer) (bytes_read (or_new (recv_lane e n) 0 Half) size) new) is
    (rw (recv_refusal_is (is_read_no_more e) e n ∙ there)
    (or_new (recv_lane e n) 0 Half, receiver_there e n there, ap Ok told, refl, settled ∙ ap (λ t. settle (record e { recvs = t })) after))

pub read_none : (e now : End) (n size : ℕ) (new : End) → e ≡ now → no_receiver (is_read_no_more now) now n ≡ None → IsToldOfEnd (recv_lane e n) → ((t : RecvTask) → HasNone t (or_new (recv_lane e n) 0 Half)) → new ≡ settle now → ReadStep now n size (Ok Wait) [] new
read_none e now n size new is none told quiet settled = subst (λ (k : End). ReadStep k n size (Ok Wait) [] new) is (go (recv_lane e n) refl)
  where
    open_now : no_receiver (is_read_no_more e) e n ≡ None
    open_now = ap (λ k. no_receiver (is_read_no_more k) k n) is ∙ none

    go : (o : Option RecvLane) → recv_lane e n ≡ o → ReadStep e n size (Ok Wait) [] new
    go None at = absurd (none-some _ (sym at ∙ receiver_there e n open_now))
    go (Some l) at =
        let waiting = waits l size (subst IsToldOfEnd at told) (subst (λ o. (t : RecvTask) → HasNone t (or_new o 0 Half)) at quiet) in
        rw (recv_refusal_is (is_read_no_more e) e n ∙ open_now) (
          l,
          at,
          ap Ok (sym waiting),
          sym (ap (λ a. bytes_of a l size) waiting),
          settled ∙ ap settle (sym is) ∙ ap (λ t. settle (record e { recvs = t })) (sym (updated_back e.recvs n (λ m. after_read m size) l at (ap (λ a. after_answer a l size) waiting))),
        )

-- Bytes that are taken without a copy

pub consume_refused : (e : End) (n most : ℕ) (fault : UseFault) → Some fault ≡ no_receiver (is_read_no_more e) e n → ConsumeStep e n most (Err fault) e
consume_refused e n most fault is = rw (recv_refusal_is (is_read_no_more e) e n ∙ sym is) (refl, refl)

pub peek_refused : (e : End) (n : ℕ) (fault : UseFault) → Some fault ≡ no_receiver (is_read_no_more e) e n → IsPeeked e n (Err fault)
peek_refused e n fault is = recv_refusal_is (is_read_no_more e) e n ∙ sym is

pub peek_ok : (e : End) (n : ℕ) (l : RecvLane) (peek : Peek) → no_receiver (is_read_no_more e) e n ≡ None → lookup e.recvs n ≡ Some l → IsPeek l peek → IsPeeked e n (Ok peek)
peek_ok e n l peek none at is = (recv_refusal_is (is_read_no_more e) e n ∙ none, l, at, is)

pub receiver_open : (e : End) (n : ℕ) → no_receiver (is_read_no_more e) e n ≡ None → is_some (lookup e.recvs n) ≡ true
receiver_open e n none = ap is_some (receiver_there e n none)

now_at : (e mid : End) (n most : ℕ) (l : RecvLane) → recv_lane e n ≡ Some l → mid ≡ on_recv n (λ m. after_read m most) e → lookup mid.recvs n ≡ Some (after_read l most)
now_at e mid n most l at after = ap (λ (x : End). lookup x.recvs n) after ∙ changed e.recvs n (λ m. after_read m most) l at

pub receiver_open_still : (e mid : End) (n most : ℕ) → no_receiver (is_read_no_more e) e n ≡ None → mid ≡ on_recv n (λ m. after_read m most) e → is_some (lookup mid.recvs n) ≡ true
receiver_open_still e mid n most none after = ap is_some (now_at e mid n most _ (receiver_there e n none) after)

pub consume_ok : (e mid last new : End) (n most : ℕ) (read next : Read) (at_end : Bool) → no_receiver (is_read_no_more e) e n ≡ None
    → read ≡ read_answer (or_new (lookup e.recvs n) 0 Half) most → mid ≡ on_recv n (λ m. after_read m most) e
    → next ≡ read_answer (or_new (lookup mid.recvs n) 0 Half) 0 → last ≡ on_recv n (λ m. after_read m 0) mid
    → at_end ≡ is_end next → new ≡ settle last → ConsumeStep e n most (Ok (record { read = read; at_end = at_end })) new
consume_ok e mid last new n most read next at_end none first after second then_after ends settled =
    let l = or_new (recv_lane e n) 0 Half in
    let at = receiver_there e n none in
    let told : at_end ≡ is_end (read_answer (after_read l most) 0) = ends ∙ ap is_end (second ∙ ap (λ o. read_answer (or_new o 0 Half) 0) (now_at e mid n most l at after)) in
    passed _ e new _ _ (recv_refusal_is (is_read_no_more e) e n ∙ none)
    (l, at, (λ i. Ok (record { read = first i; at_end = told i })), settled ∙ ap settle (then_after ∙ ap (on_recv n (λ m. after_read m 0)) after))

-- ---- A stream whose half is quiet has nothing to send or to tell.

-- of a quiet half among the halves
pub quiet_at : (task : Task) (v o : Outgoing) (t : Tables Sending) (n : ℕ) → v ≡ o → lanes_of t ≡ v.sends → ((s : Sending) → lookup t n ≡ Some s → IsTied v.outstanding n s) → ((s : Sending) → lookup t n ≡ Some s → IsQuiet task s) → IsQuietAt task o n
quiet_at task v o t n is lanes tied quiet = subst (λ x. IsQuietAt task x n) is there
  where
    go : (x : Option Sending) → lookup t n ≡ x → (l : SendLane) → option_map (λ (s : Sending). s.lane) x ≡ Some l → (s : Sending) × (s.lane ≡ l) × IsTied v.outstanding n s × IsQuiet task s
    go None e l h = absurd (none-some l h)
    go (Some s) e l h = (s, same_Some s.lane l h, tied s e, quiet s e)

    there : IsQuietAt task v n
    there l h = go (lookup t n) refl l (sym (lookup_lanes t n) ∙ ap (λ x. lookup x n) lanes ∙ h)

-- what the least stream with a task says of itself, and of those below it
module _ (task : Task) (t : Tables Sending) (from : ℕ) (r : Option ℕ) (h : IsLeast (IsHeld (HasTask task) t) from r) where
  pub quiet_before : (n : ℕ) → from ≤ n → IsBefore n r → (s : Sending) → lookup t n ≡ Some s → IsQuiet task s
  quiet_before n le before s at = go (has task s) refl
    where
      go : (b : Bool) → has task s ≡ b → b ≡ false
      go true is = absurd (none_before (IsHeld (HasTask task) t) from r h n le before (s, at, is))
      go false is = refl

-- what goes of a stream is of that half
half_goes : (task : Task) (o : Outgoing) (n : ℕ) → IsQuietAt task o n → (t : Limits) (recvs : Tables RecvLane) (e : End) → StreamGoes (end_by t recvs o e) n
    → (s : Sending) × IsTied o.outstanding n s × IsQuiet task s × (ByteGoes (end_by t recvs o e) n s.lane ⊎ EndGoes (end_by t recvs o e) n s.lane)
half_goes task o n q t recvs e (l, at, goes) =
    let (s, is, tied, quiet) = q l at in
    (s, tied, quiet, subst (λ x. ByteGoes (end_by t recvs o e) n x ⊎ EndGoes (end_by t recvs o e) n x) (sym is) goes)

-- no bytes and no end
module _ (o : Outgoing) (n : ℕ) (q : IsQuietAt send_tasks.Bytes o n) where
  pub no_wants : WantsMore (lookup o.sends n) → ⊥
  no_wants w = grind (arith, nat_tests)

  pub no_goes : (t : Limits) (recvs : Tables RecvLane) (e : End) → StreamGoes (end_by t recvs o e) n → ⊥
  no_goes t recvs e goes =
      let there = end_by t recvs o e in
      let (s, tied, quiet, some) = half_goes send_tasks.Bytes o n q t recvs e goes in
      elim some [
        | inl (k, due, below, credit) ↦ both_ways (set.contains s.due.offsets k) (no_byte s quiet k below) (is_due there n s tied k due)
        | inr (due, whole) ↦ both_ways s.due.fin (no_fin s quiet whole) (is_end_due there n s tied due)
      ]

-- A stream of which a chunk went
module _ (o : Outgoing) (n : ℕ) (s : Sending) (c : Chunk) (there : HasSending o n s) (due : IsDueChunk s c) where
  lane_put : lookup (chunk_put n c o).sends n ≡ Some (sent_lane s.lane c)
  lane_put = subst (λ x. lookup (updated o.sends n (λ l. sent_lane l c) x) n ≡ Some (sent_lane s.lane c)) (sym there.lane) (lookup_same o.sends n s.lane (sent_lane s.lane c) there.lane)

  pub done_quiet : IsDoneAfter o n c → IsQuietAt send_tasks.Bytes (chunk_put n c o) n
  done_quiet done l at = (after_sent s c, same_Some (sent_lane s.lane c) l (sym lane_put ∙ at), tied_sent o.outstanding o.next n s c there.tied there.lawful due, done s there)

-- while the connection's credit is used up, nothing goes but what takes none
pub no_goes_again : (o : Outgoing) (n : ℕ) → IsQuietAt send_tasks.Again o n → (t : Limits) (recvs : Tables RecvLane) (e : End) → t.known_data ≤ sent_sum o.sends → StreamGoes (end_by t recvs o e) n → ⊥
no_goes_again o n q t recvs e spent goes =
    let there = end_by t recvs o e in
    let (s, tied, quiet, some) = half_goes send_tasks.Again o n q t recvs e goes in
    elim some [
      | inl (k, due, below, inl before) ↦ both_ways (set.contains s.due.offsets k) (none_again s quiet k before) (is_due there n s tied k due)
      | inl (k, due, below, inr (first, credit)) ↦ omega (arith, credit, spent)
      | inr (due, whole) ↦ both_ways s.due.fin (no_fin_again s quiet whole) (is_end_due there n s tied due)
    ]

-- what a half has that may send goes, and nothing else
module _ (t : Limits) (recvs : Tables RecvLane) (o : Outgoing) (e : End) (n : ℕ) where
  abbrev there : End
  there = end_by t recvs o e

  ends_go : (s : Sending) → HasSending o n s → may_end s ≡ true → StreamGoes there n
  ends_go s h is = let (due, whole) = end_parts s is in (s.lane, h.lane, inr (end_due_is there n s h.tied h.lawful due, whole))

  fresh_goes : (s : Sending) → HasSending o n s → is_some s.lane.was_reset ≡ false → s.lane.sent_end < s.lane.written → s.lane.sent_end < s.lane.limit → sent_sum o.sends < t.known_data → StreamGoes there n
  fresh_goes s h alive some below credit = (s.lane, h.lane, inl (s.lane.sent_end, due_is there n s h.tied h.lawful s.lane.sent_end (h.lawful.parts.unsent_due alive s.lane.sent_end (omega arith) some), below, inr (refl, credit)))

  again_goes : (s : Sending) → HasSending o n s → (q : ℕ) → set.contains s.due.offsets q ≡ true → q < s.lane.sent_end → StreamGoes there n
  again_goes s h q due before = (s.lane, h.lane, inl (q, due_is there n s h.tied h.lawful q due, omega (arith, before, h.lawful.order.sent_limit), inl before))

  goes_fresh : HasTaskAt send_tasks.Bytes o n → sent_sum o.sends < t.known_data → StreamGoes there n
  goes_fresh (s, h, some) credit = go (has_unsent s.lane) (may_end s) (is_due_below s s.lane.limit) refl refl refl some
    where
      alive : (q : ℕ) → set.contains s.due.offsets q ≡ true → (b : Bool) → is_some s.lane.was_reset ≡ b → b ≡ false
      alive q due false is = refl
      alive q due true is = absurd (true≢false (sym due ∙ ap (λ x. set.contains x q) (h.lawful.parts.none_due is) ∙ set.contains-empty nat_cmp q))

      go : (u f d : Bool) → has_unsent s.lane ≡ u → may_end s ≡ f → is_due_below s s.lane.limit ≡ d → (u || (f || d)) ≡ true → StreamGoes there n
      go true f d u_is f_is d_is any = let (open_lane, below) = unsent_below s.lane u_is in fresh_goes s h open_lane (omega (arith, below)) (omega (arith, below)) credit
      go false true d u_is f_is d_is any = ends_go s h f_is
      go false false true u_is f_is d_is any =
          let (q, due, below) = below_due s s.lane.limit d_is in
          elim (cases_lt q s.lane.sent_end) [
            | inl before ↦ again_goes s h q due before
            | inr past ↦ (let lt = h.lawful.parts.due_written q due in fresh_goes s h (alive q due (is_some s.lane.was_reset) refl) (omega (arith, past, lt)) (omega (arith, past, below)) credit)
          ]
      go false false false u_is f_is d_is any = absurd (true≢false (sym any))

  goes_again : HasTaskAt send_tasks.Again o n → StreamGoes there n
  goes_again (s, h, some) = go (may_end s) (is_due_below s s.lane.sent_end) refl refl some
    where
      go : (f d : Bool) → may_end s ≡ f → is_due_below s s.lane.sent_end ≡ d → (f || d) ≡ true → StreamGoes there n
      go true d f_is d_is any = ends_go s h f_is
      go false true f_is d_is any = let (q, due, before) = below_due s s.lane.sent_end d_is in again_goes s h q due before
      go false false f_is d_is any = absurd (true≢false (sym any))

  pub goes_with : HasTaskAt (going_task (sent_sum o.sends) t.known_data) o n → StreamGoes there n
  goes_with has_it = go (nat_lt (sent_sum o.sends) t.known_data) refl has_it
    where
      go : (b : Bool) → nat_lt (sent_sum o.sends) t.known_data ≡ b → HasTaskAt (if b then send_tasks.Bytes else send_tasks.Again) o n → StreamGoes there n
      go true is has_it = goes_fresh has_it (grind (arith, nat_tests))
      go false is has_it = goes_again has_it

  pub goes_without : IsQuietAt (going_task (sent_sum o.sends) t.known_data) o n → StreamGoes there n → ⊥
  goes_without quiet = go (nat_lt (sent_sum o.sends) t.known_data) refl quiet
    where
      go : (b : Bool) → nat_lt (sent_sum o.sends) t.known_data ≡ b → IsQuietAt (if b then send_tasks.Bytes else send_tasks.Again) o n → StreamGoes there n → ⊥
      go true is quiet = no_goes o n quiet t recvs e
      go false is quiet = no_goes_again o n quiet t recvs e (grind (arith, nat_tests))

pub goes_found : (t : Limits) (recvs : Tables RecvLane) (o : Outgoing) (e : End) (r : Option ℕ) → IfSome r (HasTaskAt (going_task (sent_sum o.sends) t.known_data) o) → IfSome r (StreamGoes (end_by t recvs o e))
goes_found t recvs o e None has_it = tt
goes_found t recvs o e (Some n) has_it = goes_with t recvs o e n has_it

-- the streams below a number want no more, and those up to the next one that is looked at
pub wants_next : (o : Outgoing) (from m : ℕ) → ((n : ℕ) → n < from → WantsMore (lookup o.sends n) → ⊥) → ((n : ℕ) → from ≤ n → n < m → IsQuietAt send_tasks.Bytes o n) → (WantsMore (lookup o.sends m) → ⊥) → (n : ℕ) → n < m + 1 → WantsMore (lookup o.sends n) → ⊥
wants_next o from m below quiet here = none_next (λ n. WantsMore (lookup o.sends n)) from m below (λ n ge lt. no_wants o n (quiet n ge lt)) here

pub none_wants : (o : Outgoing) (from : ℕ) → ((n : ℕ) → n < from → WantsMore (lookup o.sends n) → ⊥) → ((n : ℕ) → from ≤ n → IsQuietAt send_tasks.Bytes o n) → AnyWantsMore o.sends → ⊥
none_wants o from below quiet (n, w) = elim (cases_lt n from) [ inl before ↦ below n before w | inr ge ↦ no_wants o n (quiet n ge) w ]

-- the window is that of the type
pub window_same : (r : Role) (s : Settings) (n k : ℕ) → type_of n ≡ k → k < 4 → first_window_by r s k ≡ first_window_by r s n
window_same r s n k is small = let same : type_of k ≡ type_of n = omega (arith, is, small) in ap (λ j. if nat_le 2 j then s.uni else (if j % 2 == role_bit r then s.bidi_local else s.bidi_remote)) same

-- ---- Sending halves that have something for a packet, or for their owner.

module _ (e : End) (n : ℕ) (s : Sending) (tied : IsTied e.outstanding n s) where
  packet_has : IsLawful s → HasTask send_tasks.Bytes s → HasForPacket e n s.lane
  packet_has law some = go (has_unsent s.lane) (may_end s) (is_due_below s s.lane.limit) refl refl refl some
    where
      go : (u f d : Bool) → has_unsent s.lane ≡ u → may_end s ≡ f → is_due_below s s.lane.limit ≡ d → (u || (f || d)) ≡ true → HasForPacket e n s.lane
      go true f d u_is f_is d_is any =
          let (alive, below) = unsent_below s.lane u_is in
          let due = law.parts.unsent_due alive s.lane.sent_end (omega arith) (omega (arith, below)) in
          inl (s.lane.sent_end, due_is e n s tied law s.lane.sent_end due, omega (arith, below))
      go false true d u_is f_is d_is any = let (due, whole) = end_parts s f_is in inr (end_due_is e n s tied law due, whole)
      go false false true u_is f_is d_is any = let (q, due, below) = below_due s s.lane.limit d_is in inl (q, due_is e n s tied law q due, below)
      go false false false u_is f_is d_is any = absurd (true≢false (sym any))

  has_packet : HasForPacket e n s.lane → HasTask send_tasks.Bytes s
  has_packet (inl (q, due, below)) = let d = due_below s s.lane.limit q below (is_due e n s tied q due) in grind (arith, d)
  has_packet (inr (due, whole)) = let f = parts_end s (is_end_due e n s tied due) whole in grind (arith, f)

-- a lane among the lanes of halves is that of a half
pub half_of_lane : (t : Tables Sending) (n : ℕ) (l : SendLane) → lookup (lanes_of t) n ≡ Some l → (s : Sending) × (lookup t n ≡ Some s) × (s.lane ≡ l)
half_of_lane t n l at = go (lookup t n) refl (sym (lookup_lanes t n) ∙ at)
  where
    go : (x : Option Sending) → lookup t n ≡ x → option_map (λ (s : Sending). s.lane) x ≡ Some l → (s : Sending) × (lookup t n ≡ Some s) × (s.lane ≡ l)
    go None e is = absurd (none-some l is)
    go (Some s) e is = (s, e, same_Some s.lane l is)

-- an answer about halves is one about their lanes
pub lanes_least : (P : ℕ → Sending → Type 0) (Q : ℕ → SendLane → Type 0) (v o : Outgoing) (t : Tables Sending) (from : ℕ) (r : Option ℕ) → v ≡ o → lanes_of t ≡ v.sends → ((n : ℕ) (s : Sending) → r ≡ Some n → lookup t n ≡ Some s → P n s → Q n s.lane)
    → ((n : ℕ) (s : Sending) → lookup t n ≡ Some s → Q n s.lane → P n s) → IsLeast (λ n. IsHeld (P n) t n) from r → IsLeast (λ n. IsHeld (Q n) o.sends n) from r
lanes_least P Q v o t from r same lanes to back h = subst (λ (x : Outgoing). IsLeast (λ n. IsHeld (Q n) x.sends n) from r) same (record { found = found; least = least })
  where
    found : (n : ℕ) → r ≡ Some n → (from ≤ n) × IsHeld (Q n) v.sends n
    found n is = let (ge, (s, at, p)) = h.found n is in (ge, (s.lane, ap (λ x. lookup x n) (sym lanes) ∙ lane_there t n s at, to n s is at p))

    least : (n : ℕ) → from ≤ n → IsHeld (Q n) v.sends n → (m : ℕ) × (r ≡ Some m) × (m ≤ n)
    least n ge (l, at, q) = let (s, there, is) = half_of_lane t n l (ap (λ x. lookup x n) lanes ∙ at) in h.least n ge (s, there, back n s there (subst (Q n) (sym is) q))

-- an answer about halves is one about what of their streams is due
pub due_least : (v o : Outgoing) (t : Tables Sending) (from : ℕ) (r : Option ℕ) → v ≡ o → lanes_of t ≡ v.sends → ((n : ℕ) (s : Sending) → lookup t n ≡ Some s → IsTied v.outstanding n s) → ((n : ℕ) (s : Sending) → r ≡ Some n → lookup t n ≡ Some s → IsLawful s) → IsLeast (IsHeld (HasTask send_tasks.Bytes) t) from r
    → (e : End) → IsLeast (IsDueOf (with_outgoing o e)) from r
due_least v o t from r same lanes tied lawful h e =
    subst (λ x. IsLeast (IsDueOf (with_outgoing x e)) from r) same
    (lanes_least (λ n. HasTask send_tasks.Bytes) (HasForPacket (with_outgoing v e)) v v t from r refl lanes (λ n s is at. packet_has (with_outgoing v e) n s (tied n s at) (lawful n s is at)) (λ n s at. has_packet (with_outgoing v e) n s (tied n s at)) h)

-- the half that was found
pub lawful_found : (t : Tables Sending) (m : ℕ) (x : Sending) → lookup t m ≡ Some x → IsLawful x → (n : ℕ) (s : Sending) → Some m ≡ Some n → lookup t n ≡ Some s → IsLawful s
lawful_found t m x there law n s is at = subst IsLawful (same_Some x s (sym there ∙ ap (lookup t) (same_Some m n is) ∙ at)) law

-- Answers of an end that may still be read

pub readable_least : (v old : End) (b : Bool) (at from : ℕ) (r : Option ℕ) → v ≡ old → b ≡ is_read_no_more old → b ≡ false → at ≡ from → IsLeast (IsHeld (HasOne tasks.Readable) v.recvs) at r → IsLeast (IsReadable old) from r
readable_least v old b at from r same is none begin h =
    rw (← begin)
    (least_given (is_read_no_more old ≡ false) (IsHeld (HasOne tasks.Readable) old.recvs) at r (sym is ∙ none)
    (subst (λ (x : End). IsLeast (IsHeld (HasOne tasks.Readable) x.recvs) at r) same h))

-- Answers of an end that isn't closed

pub sendable_least : (v old : End) (o : Outgoing) (b : Bool) (at from : ℕ) (r : Option ℕ) → v ≡ old → with_outgoing o v ≡ v → b ≡ is_some v.closed → b ≡ false → at ≡ from → ((e : End) → IsLeast (IsDueOf (with_outgoing o e)) at r) → IsLeast (IsSendable old) from r
sendable_least v old o b at from r same out is none begin h =
    rw (← same, ← begin) (least_given (v.closed ≡ None) (IsDueOf v) at r (none_is v.closed (sym is ∙ none)) (subst (λ x. IsLeast (IsDueOf x) at r) out (h v)))

pub writable_least : (v old : End) (b : Bool) (at from : ℕ) (r : Option ℕ) → v ≡ old → b ≡ is_some v.closed → b ≡ false → at ≡ from → IsLeast (IsHeld MayWrite v.sends) at r → IsLeast (IsWritable old) from r
writable_least v old b at from r same is none begin h = rw (← same, ← begin) (least_given (v.closed ≡ None) (IsHeld MayWrite v.sends) at r (none_is v.closed (sym is ∙ none)) h)

-- ---- Writes that keep within credit, and within the window over all halves.

-- What is offered

pub front_whole : (most : ℕ) (bytes : List ℕ) → length bytes ≤ most → bytes ≡ take most bytes
front_whole most bytes le = sym (take_all most bytes le)

pub front_none : (e : End) (bytes cut : List ℕ) → window_left e ≡ None → cut ≡ bytes → cut ≡ front_of (window_left e) bytes
front_none e bytes cut is same = rw is same

pub front_some : (e : End) (left : ℕ) (bytes cut : List ℕ) → window_left e ≡ Some left → cut ≡ take left bytes → cut ≡ front_of (window_left e) bytes
front_some e left bytes cut is same = rw is same

pub let_go_all : (e : End) (l : SendLane) (bytes : List ℕ) → e.tuning.within_credit ≡ false → bytes ≡ let_go e l bytes
let_go_all e l bytes is = rw is refl

pub let_go_cut : (e : End) (l : SendLane) (bytes : List ℕ) → e.tuning.within_credit ≡ true → take (credit_for e l) bytes ≡ let_go e l bytes
let_go_cut e l bytes is = rw is refl

-- What is taken of a front is the front of the whole

module _ (l : SendLane) (credit : ℕ) (bytes : List ℕ) where
  counts : (o : Option ℕ) (b : Bool) → accepted l (length (front_of o (cond b (take credit bytes) bytes))) ≡ at_most o (cond b (min (accepted l (length bytes)) credit) (accepted l (length bytes)))
  counts o b = grind (arith, nat_tests, length-take)

  takes : (o : Option ℕ) (b : Bool) (count : ℕ) → count ≤ length (front_of o (cond b (take credit bytes) bytes)) → take count (front_of o (cond b (take credit bytes) bytes)) ≡ take count bytes
  takes o b count le = grind (arith, nat_tests, take-take, length-take)

-- A write is one of what is offered

pub write_within : (e now : End) (n : ℕ) (bytes cut : List ℕ) (count : ℕ) (sends : Tables SendLane) (new : End) → e ≡ now → cut ≡ offered now (or_none (send_lane now n)) bytes → no_sender now n ≡ None → refusal (or_none (send_lane e n)) ≡ None
    → count ≡ accepted (or_none (send_lane e n)) (length cut) → sends ≡ updated e.sends n (λ l. write_lane l (take count cut)) (send_lane e n)
    → new ≡ settle (record e { sends = sends }) → WriteStep now n bytes (Ok count) new
write_within e now n bytes cut count sends new is offer none free much after settled =
    let l = or_none (send_lane e n) in
    let here : cut ≡ offered e l bytes = offer ∙ ap (λ (x : End). offered x (or_none (send_lane x n)) bytes) (sym is) in
    let b = e.tuning.within_credit in
    let enough : count ≡ accepted l (length (offered e l bytes)) = much ∙ ap (λ (xs : List ℕ). accepted l (length xs)) here in
    let front : take count cut ≡ take count bytes = ap (take count) here ∙ takes l (credit_for e l) bytes (window_left e) b count (omega (arith, enough)) in
    write_ok e now n bytes count sends new is none free (enough ∙ counts l (credit_for e l) bytes (window_left e) b)
    (after ∙ ap (λ (xs : List ℕ). updated e.sends n (λ m. write_lane m xs) (send_lane e n)) front) settled

pub write_short : (e now : End) (n : ℕ) (bytes cut : List ℕ) (fault : SendFault) → e ≡ now → cut ≡ offered now (or_none (send_lane now n)) bytes → no_sender now n ≡ None → fault ≡ unwrap_or (refusal (or_none (send_lane e n))) sends.NoMemory
    → (◌≡◌ {A = Result ℕ SendFault} (Err fault) (Err sends.NoMemory) → 0 < accepted (or_none (send_lane e n)) (length cut)) → WriteStep now n bytes (Err (use_fault fault)) e
write_short e now n bytes cut fault is offer none told asks = grind (arith, common_steps, write_err)

-- How many bytes a write takes

room_at : (e : End) (o : Option SendLane) → at_most (window_left e) (credit_room e o) ≡ room_of e o
room_at e o = grind (arith, nat_tests)

pub room_left : (e : End) (n left : ℕ) → e.closed ≡ None → window_left e ≡ Some left → min (credit_room e (send_lane e n)) left ≡ room e n
room_left e n left open_end is = rw open_end (ap (λ o. at_most o (credit_room e (send_lane e n))) (sym is) ∙ room_at e (send_lane e n))

pub room_free : (e : End) (n : ℕ) → e.closed ≡ None → window_left e ≡ None → credit_room e (send_lane e n) ≡ room e n
room_free e n open_end is = rw open_end (ap (λ o. at_most o (credit_room e (send_lane e n))) (sym is) ∙ room_at e (send_lane e n))

-- a stream that takes a byte has room of its own
pub takes_alone : (e : End) (l : SendLane) (b : Bool) → refusal l ≡ None → 0 < at_most (window_left e) (cond b (min (accepted l (free_room l)) (credit_for e l)) (accepted l (free_room l))) → (if b then is_funded l else is_writable l) ≡ true
takes_alone e l b is some = grind (arith, nat_tests)

-- what the window leaves, by the sum as it is told
pub left_of : (o : Option ℕ) (window kept sum : ℕ) → o ≡ Some window → window < 2 ^ 64 → sum ≡ min kept (2 ^ 64 - 1) → Some (window - sum) ≡ option_map (λ most. most - kept) o
left_of o window kept sum is small told = rw is (ap Some (omega (arith, small, told)))

-- ---- What is news at an end: the next stream that the peer opened, of those that its owner didn't hear of; and what a search for streams finds.

-- The next one of a direction
abbrev NextOf : End → Hearing → Dir → ℕ → Type 0
NextOf e h d n = IsNextOpened e h n × (dir_of n ≡ d)

least_of_dir : (e : End) (h : Hearing) (d : Dir) → IsLeast (NextOf e h d) 0 (next_of_peer e d (heard_opened h d))
least_of_dir e h d = grind (arith, nat_tests)

dir_cases : (d : Dir) → (d ≡ Bidi) ⊎ (d ≡ Uni)
dir_cases d = grind (arith, nat_tests)

pub least_opened : (e : End) (h : Hearing) → IsLeast (IsNextOpened e h) 0 (least_of (next_of_peer e Bidi (heard_opened h Bidi)) (next_of_peer e Uni (heard_opened h Uni)))
least_opened e h =
    least_two (NextOf e h Bidi) (NextOf e h Uni) (IsNextOpened e h) 0 _ _ (λ n is. is.0) (λ n is. is.0)
    (λ n is. elim (dir_cases (dir_of n)) [ inl bidi ↦ inl (is, bidi) | inr uni ↦ inr (is, uni) ])
    (least_of_dir e h Bidi) (least_of_dir e h Uni)

-- What a search for streams finds

-- of two properties that are the same the least number is the same
-- a half of which something holds, that holds of none that isn't there
held_by : {L : Type 0} (P : Option L → Type 0) (Q : L → Type 0) → ((l : L) → P (Some l) → Q l) → (P None → ⊥) → (t : Tables L) (n : ℕ) → P (lookup t n) → IsHeld Q t n
held_by {L} P Q holds none t n = go (lookup t n) refl
  where
    go : (x : Option L) → lookup t n ≡ x → P x → IsHeld Q t n
    go (Some l) at is = (l, at, holds l is)
    go None at is = absurd (none is)

pub stopped_there : (t : Tables SendLane) (n : ℕ) → IsHeld (λ l. is_some l.stopped ≡ true) t n → is_some (stop_of (lookup t n)) ≡ true
stopped_there t n (l, at, is) = rw at is

pub stopped_back : (t : Tables SendLane) (n : ℕ) → is_some (stop_of (lookup t n)) ≡ true → IsHeld (λ l. is_some l.stopped ≡ true) t n
stopped_back = held_by (λ x. is_some (stop_of x) ≡ true) (λ l. is_some l.stopped ≡ true) (λ l is. is) (λ is. true≢false (sym is))

readable_there : (t : Tables RecvLane) (n : ℕ) → has_one tasks.Readable (lookup t n) ≡ true → IsHeld (λ l. is_readable l ≡ true) t n
readable_there = held_by (λ x. has_one tasks.Readable x ≡ true) (λ l. is_readable l ≡ true) (λ l is. is) (λ is. true≢false (sym is))

readable_back : (t : Tables RecvLane) (n : ℕ) → IsHeld (λ l. is_readable l ≡ true) t n → has_one tasks.Readable (lookup t n) ≡ true
readable_back t n (l, at, is) = rw at is

pub acked_there : (t : Tables SendLane) (n : ℕ) → IsAckedReset (lookup t n) → IsHeld WasResetAcked t n
acked_there = held_by IsAckedReset WasResetAcked (λ l is. is) (λ none. none)

-- one that takes a byte does so by its own buffer, and by its limit where writes keep within credit
pub room_is : (e : End) (n : ℕ) → 0 < room e n → IsHeld (TakesAlone e) e.sends n
room_is e n lt = go (is_some e.closed) lt
  where
    accepts : (l : SendLane) (x : Option SendFault) → refusal l ≡ x → 0 < (if is_some x then 0 else accepted_by e l (free_room l)) → TakesAlone e l
    accepts l None is some = takes_alone e l e.tuning.within_credit is some
    accepts l (Some fault) is some = absurd (omega (arith, some))

    go : (b : Bool) → 0 < (if b then 0 else room_of e (send_lane e n)) → IsHeld (TakesAlone e) e.sends n
    go true some = absurd (omega (arith, some))
    go false some = held_by (λ x. 0 < room_of e x) (TakesAlone e) (λ l. accepts l (refusal l) refl) (λ some. omega (arith, some)) e.sends n some

-- no stream takes more bytes than it has offsets
room_few : (e : End) (n : ℕ) → room e n ≤ MAX_VARINT
room_few e n = grind (arith, nat_tests)

-- a write of more is cut short
pub cut_past : (e : End) (n len : ℕ) → MAX_VARINT < len → nat_lt (room e n) len ≡ true
cut_past e n len past = (let few = room_few e n in grind (arith, nat_tests, few))

pub readable_at : (v old : End) (b r : Bool) (n : ℕ) → v ≡ old → b ≡ is_read_no_more old → b ≡ false → r ≡ has_one tasks.Readable (lookup v.recvs n) → (IsTrue r → IsReadable old n) × (IsReadable old n → IsTrue r)
readable_at v old b r n same is none found =
    let at : r ≡ has_one tasks.Readable (lookup old.recvs n) = found ∙ ap (λ (x : End). has_one tasks.Readable (lookup x.recvs n)) same in
    (λ yes. (sym is ∙ none, readable_there old.recvs n (sym at ∙ yes)), λ held. at ∙ readable_back old.recvs n held.1)

pub readable_untold : (v old : End) (b : Bool) (told : Tables Bool) (r : Option ℕ) → v ≡ old → b ≡ is_read_no_more old → b ≡ false → IsLeast (IsUntold (IsHeld (HasOne tasks.Readable) v.recvs) told) 0 r → IsLeast (λ n. IsReadable old n × (is_told told n ≡ false)) 0 r
readable_untold v old b told r same is none h =
    least_as (IsUntold (IsHeld (HasOne tasks.Readable) old.recvs) told) (λ n. IsReadable old n × (is_told told n ≡ false)) 0 r (λ n p. ((sym is ∙ none, p.0), p.1)) (λ n q. (q.0.1, q.1))
    (subst (λ (x : End). IsLeast (IsUntold (IsHeld (HasOne tasks.Readable) x.recvs) told) 0 r) same h)

-- Streams that take a byte, among those that their own buffers and limits let take one

module _ (v old : End) (same : v ≡ old) (short : Tables Bool) where
  abbrev Takes : ℕ → Type 0
  Takes n = (0 < room old n) × (is_told short n ≡ true)

  abbrev Alone : Bool → ℕ → Type 0
  Alone b n = IsHeld (λ l. (if b then is_funded l else is_writable l) ≡ true) v.sends n × (is_told short n ≡ true)

  pub takes_by : ((n : ℕ) → IsHeld (TakesAlone old) old.sends n → 0 < room old n) → (b : Bool) → v.tuning.within_credit ≡ b → (r : Option ℕ) → IsLeast (Alone b) 0 r → IsLeast Takes 0 r
  takes_by some b is r h =
      least_as (Alone old.tuning.within_credit) Takes 0 r (λ n p. (some n (subst (λ (x : End). IsHeld (TakesAlone old) x.sends n) same p.0), p.1)) (λ n p. (subst (λ (x : End). IsHeld (TakesAlone old) x.sends n) (sym same) (room_is old n p.0), p.1))
      (subst (λ b. IsLeast (Alone b) 0 r) (sym is ∙ ap (λ (x : End). x.tuning.within_credit) same) h)

  pub takes_full : ((n : ℕ) → 0 < room old n → ⊥) → IsLeast Takes 0 None
  takes_full none = least_by Takes 0 None (λ n is. absurd (none-some n is)) (λ n ge before p. none n p.0)

  -- none is cut short
  pub takes_untold : ((n : ℕ) (b : Bool) → lookup short n ≡ Some b → b ≡ false) → IsLeast Takes 0 None
  takes_untold none = grind (arith, nat_tests)

-- ---- Searches for the least stream whose sending half has something, of those that an owner was told of or of those that it wasn't.

-- an answer about halves is one about their lanes, where these tell of the kind
pub lanes_sought : (q : Search) (told : Tables Bool) (v o : Outgoing) (t : Tables Sending) (from : ℕ) (r : Option ℕ) → v ≡ o → lanes_of t ≡ v.sends → IsLeast (IsSought q t told) from r
    → (p : SendLane → Bool) → ((s : Sending) → has q.task s ≡ p s.lane) → IsLeast (λ n. IsHeld (λ l. p l ≡ true) o.sends n × (is_told told n ≡ q.is_told)) from r
lanes_sought q told v o t from r same lanes h p tells =
    least_as (λ n. IsHeld (λ l. (p l ≡ true) × (is_told told n ≡ q.is_told)) o.sends n) (λ n. IsHeld (λ l. p l ≡ true) o.sends n × (is_told told n ≡ q.is_told)) from r (λ n (l, at, (has, is)). ((l, at, has), is)) (λ n ((l, at, has), is). (l, at, (has, is)))
    (lanes_least (λ n s. HasTask q.task s × (is_told told n ≡ q.is_told)) (λ n l. (p l ≡ true) × (is_told told n ≡ q.is_told)) v o t from r same lanes (λ n s is at h. (sym (tells s) ∙ h.0, h.1)) (λ n s at h. (tells s ∙ h.0, h.1))
    (least_as (IsSought q t told) (λ n. IsHeld (λ s. HasTask q.task s × (is_told told n ≡ q.is_told)) t n) from r (λ n ((s, at, has), is). (s, at, (has, is))) (λ n (s, at, (has, is)). ((s, at, has), is)) h))
