-- What an end keeps as frames come and as a call ends.
use Rattle.std.proofs.Common.{◌≡◌, ℕ, ◌+◌, ◌≤◌, Bool, true, false, not, ◌&&◌, cond, List, [], ◌∷◌, length, Option, Some, None, is_some, refl, ◌∙◌, subst, arith}
use Rattle.std.specs.Prelude.{⊤, IsOk}
use Rattle.std.specs.FinMap as fmap
use Rattle.std.proofs.lemmas.Bool.{cond_both}
use Rattle.std.proofs.lemmas.Bool.Decides.{nat_tests}
use Rattle.qs_wire.specs.declared.stream_id.Dir.TheVariants.{Bidi, Uni}
use Rattle.qs_recv.specs.Lane.{RecvLane, new_lane as new_recv_lane, check_stream, check_reset, take_stream, take_reset, raise}
use Rattle.qs_recv.specs.declared.credit.Share.TheVariants.{Half}
use Rattle.qs_recv.specs.Lawful.{IsLawful}
use Rattle.qs_send.specs.Lane.{SendLane, is_whole as send_whole, new_lane as new_send_lane, reset_refusal, acked_lane, first_code, stop_taken, reset_acked_lane, allow_lane}
use Rattle.qs_send.specs.Records.{IsCarried, without_first}
use Rattle.qs_send.specs.declared.parts.Chunk.{Chunk}
use Rattle.qs_send.specs.declared.parts.SendFault.{SendFault}
use Rattle.qs_send.specs.declared.parts.SendFault.TheVariants.{Finished, WasReset}
use Rattle.qs_send.specs.declared.piece.Item.{Item}
use Rattle.qs_send.specs.declared.piece.Item.TheVariants.{MaxData, MaxStreamData, MaxStreams, ResetStream, StopSending, StreamDataBlocked, StreamsBlocked}
use Rattle.qs_send.specs.declared.piece.Piece.{Piece}
use Rattle.qs_send.specs.declared.piece.Piece.TheVariants.{Data, Told}
use Rattle.qs_send.proofs.Outstanding.{rest_of, get-without_first, carried-without_first}
use Rattle.qs_machine.specs.Tables.{Tables, lookup}
use Rattle.qs_calls.specs.declared.closing.Closed.{Closed}
use Rattle.qs_machine.specs.Recording.{recorded}
use Rattle.qs_machine.specs.Ends.{End, Records, AckedItems, closes, is_own, is_uni, on_send, on_recv, opens, opened_by_peer, first_send_limit, first_window}
use Rattle.qs_machine.specs.Credit.{settle}
use Rattle.qs_machine.specs.Seen.{Seen, Ack, Stream, Control}
use Rattle.qs_machine.specs.Verdicts.{verdict, or_new}
use Rattle.qs_machine.specs.FrameStep.{frame_taken, item_taken, AckedPiece, held, without_piece, named, acks, first_acked, piece_acked, item_acked}
use Rattle.qs_machine.specs.Standing.{IsInCredit, CountsStand, HasLawfulLane}
use Rattle.qs_machine.specs.Repeats.{IsWritten, WasBrokenOff, WasWritten, SentWasWritten}
use Rattle.std.specs.List.{AllByRecursion}
use Rattle.qs_machine.proofs.Pieces.{All_more, all_named}
use Rattle.qs_machine.proofs.EndedHalves.{RecvStays, SendStays, reset_acked_keeps, whole_acked, acked_keeps}
use Rattle.qs_machine.proofs.HalvesTold.{TellsOn, tells_same, tells_twice, tells_stopped, tells_acked, tells_reset_acked}
use Rattle.qs_machine.proofs.Counts.{counts_stand}
use Rattle.qs_machine.proofs.CallsSound.{sound_opened}
use Rattle.qs_machine.proofs.Taken.{stream_checked, reset_checked}
use Rattle.qs_machine.proofs.LanesAgain.{LaneAfter, lane_same, lane_twice, data_after, reset_after, raise_after}
use Rattle.qs_machine.proofs.TablesAfter.{KeptIn, kept_same, kept_twice, kept_updated, kept_open, kept_each}
use Rattle.qs_machine.specs.LostPackets.{LostPackets}

-- Sending halves

-- what a sending half keeps as frames come
pub record HalfAfter (l m : SendLane) : Type 0 where
  pub limit : l.limit ≤ m.limit
  pub written : l.written ≤ m.written
  pub refused : is_some (reset_refusal l) ≡ true → is_some (reset_refusal m) ≡ true
  pub stopped : is_some l.stopped ≡ true → is_some m.stopped ≡ true
  pub broken : is_some l.was_reset ≡ true → is_some m.was_reset ≡ true
  pub ended : SendStays l m
  pub told : TellsOn l m

pub half_same : (l : SendLane) → HalfAfter l l
half_same l = record { limit = omega arith; written = omega arith; refused = λ is. is; stopped = λ is. is; broken = λ is. is; ended = λ is. is; told = tells_same l }

pub half_twice : (l m k : SendLane) → HalfAfter l m → HalfAfter m k → HalfAfter l k
half_twice l m k a b =
    record {
      limit = omega (arith, a.limit, b.limit);
      written = omega (arith, a.written, b.written);
      refused = λ is. b.refused (a.refused is);
      stopped = λ is. b.stopped (a.stopped is);
      broken = λ is. b.broken (a.broken is);
      ended = λ is. b.ended (a.ended is);
      told = tells_twice l m k a.told b.told;
    }

pub has_code : (o : Option ℕ) (code : ℕ) → is_some (first_code o code) ≡ true
has_code o code = grind arith

half_stopped : (answers : Bool) (l : SendLane) (code : ℕ) → HalfAfter l (stop_taken answers l code)
half_stopped answers l code =
    record { limit = grind arith; written = grind arith; refused = λ is. grind arith; stopped = λ is. grind arith; broken = λ is. grind arith; ended = λ is. grind arith; told = tells_stopped answers code l }

refused_more : (a b c : Bool) → (b ≡ true → c ≡ true) → is_some {T = SendFault} (cond a (Some WasReset) (cond b (Some Finished) None)) ≡ true → is_some {T = SendFault} (cond a (Some WasReset) (cond c (Some Finished) None)) ≡ true
refused_more a b c more is = grind arith

-- what is acknowledged twice stays whole, where it was written
half_acked : (l : SendLane) (c : Chunk) → c.offset + c.len ≤ l.written → HalfAfter l (acked_lane l c)
half_acked l c within =
    record { limit = omega arith; written = omega arith; refused = refused_more (is_some l.was_reset) (send_whole l) (send_whole (acked_lane l c)) (whole_acked l c within); stopped = λ is. is; broken = λ is. is; ended = acked_keeps l c within; told = tells_acked l c within }

half_reset_acked : (l : SendLane) → is_some l.was_reset ≡ true → HalfAfter l (reset_acked_lane l)
half_reset_acked l broken = record { limit = omega arith; written = omega arith; refused = λ is. is; stopped = λ is. is; broken = λ is. is; ended = reset_acked_keeps l; told = tells_reset_acked l broken }

-- Ends

-- no piece of a packet is outstanding
abbrev pub IsBare : Option (List Piece) → Type 0
IsBare (Some (p ∷ ps)) = ⊥
IsBare _ = ⊤

-- what an end keeps as frames come
pub record IsAfter (a b : End) : Type 0 where
  pub role : b.role ≡ a.role
  pub settings : b.settings ≡ a.settings
  pub tuning : b.tuning ≡ a.tuning
  pub next : a.next ≤ b.next
  pub credit : a.known_data ≤ b.known_data
  pub bidi : a.known_bidi ≤ b.known_bidi
  pub uni : a.known_uni ≤ b.known_uni
  pub bidi_granted : a.granted_bidi ≤ b.granted_bidi
  pub uni_granted : a.granted_uni ≤ b.granted_uni
  pub counts : CountsStand a → CountsStand b
  pub recvs : KeptIn LaneAfter a.recvs b.recvs
  pub sends : KeptIn HalfAfter a.sends b.sends
  pub bare : (late : Bool) (k : ℕ) → IsBare (fmap.get (held late a) k) → IsBare (fmap.get (held late b) k)
  pub carried : (late : Bool) (p : Piece) → IsCarried (held late b) p → IsCarried (held late a) p

recvs_same : (t : Tables RecvLane) → KeptIn LaneAfter t t
recvs_same t = kept_same LaneAfter lane_same t

sends_same : (t : Tables SendLane) → KeptIn HalfAfter t t
sends_same t = kept_same HalfAfter half_same t

-- halves that ended stay so
pub lanes_stay : (t u : Tables RecvLane) → KeptIn LaneAfter t u → KeptIn RecvStays t u
lanes_stay t u kept n l is = let (m, there, r) = kept n l is in (m, there, r.ended)

pub halves_stay : (t u : Tables SendLane) → KeptIn HalfAfter t u → KeptIn SendStays t u
halves_stay t u kept n l is = let (m, there, r) = kept n l is in (m, there, r.ended)

-- an end whose tables, limits, counts and records moved
after_by : {e : End} {s : Tables SendLane} {r : Tables RecvLane} {g x y d b u : ℕ} {out : Records} {lost : LostPackets} → KeptIn HalfAfter e.sends s → KeptIn LaneAfter e.recvs r
    → e.known_data ≤ d → e.known_bidi ≤ b → e.known_uni ≤ u → e.granted_bidi ≤ x → e.granted_uni ≤ y → (CountsStand e → CountsStand (record e { granted_bidi = x; granted_uni = y }))
    → ((late : Bool) (k : ℕ) → IsBare (fmap.get (held late e) k) → IsBare (fmap.get (held late (record e { outstanding = out; lost = lost })) k))
    → ((late : Bool) (p : Piece) → IsCarried (held late (record e { outstanding = out; lost = lost })) p → IsCarried (held late e) p)
    → IsAfter e (record e { sends = s; recvs = r; granted = g; granted_bidi = x; granted_uni = y; known_data = d; known_bidi = b; known_uni = u; outstanding = out; lost = lost })
after_by ss rr dd bb uu xx yy counts bare carried = grind arith

-- an end whose tables and known limits moved
after_parts : (e : End) (s : Tables SendLane) (r : Tables RecvLane) (g d b u : ℕ) → KeptIn HalfAfter e.sends s → KeptIn LaneAfter e.recvs r → e.known_data ≤ d → e.known_bidi ≤ b → e.known_uni ≤ u
    → IsAfter e (record e { sends = s; recvs = r; granted = g; known_data = d; known_bidi = b; known_uni = u })
after_parts e s r g d b u ss rr dd bb uu = after_by ss rr dd bb uu (omega arith) (omega arith) (λ h. h) (λ late k is. is) (λ late p is. is)

after_tables : (e : End) (s : Tables SendLane) (r : Tables RecvLane) (g : ℕ) → KeptIn HalfAfter e.sends s → KeptIn LaneAfter e.recvs r → IsAfter e (record e { sends = s; recvs = r; granted = g })
after_tables e s r g ss rr = after_parts e s r g e.known_data e.known_bidi e.known_uni ss rr (omega arith) (omega arith) (omega arith)

after_known : (e : End) (d b u : ℕ) → e.known_data ≤ d → e.known_bidi ≤ b → e.known_uni ≤ u → IsAfter e (record e { known_data = d; known_bidi = b; known_uni = u })
after_known e d b u dd bb uu = after_parts e e.sends e.recvs e.granted d b u (sends_same e.sends) (recvs_same e.recvs) dd bb uu

pub after_same : (e : End) → IsAfter e e
after_same e = after_tables e e.sends e.recvs e.granted (sends_same e.sends) (recvs_same e.recvs)

pub after_twice : (a b c : End) → IsAfter a b → IsAfter b c → IsAfter a c
after_twice a b c x y =
    record {
      role = y.role ∙ x.role;
      settings = y.settings ∙ x.settings;
      tuning = y.tuning ∙ x.tuning;
      next = omega (arith, x.next, y.next);
      credit = omega (arith, x.credit, y.credit);
      bidi = omega (arith, x.bidi, y.bidi);
      uni = omega (arith, x.uni, y.uni);
      bidi_granted = omega (arith, x.bidi_granted, y.bidi_granted);
      uni_granted = omega (arith, x.uni_granted, y.uni_granted);
      counts = λ h. y.counts (x.counts h);
      recvs = kept_twice LaneAfter lane_same lane_twice a.recvs b.recvs c.recvs x.recvs y.recvs;
      sends = kept_twice HalfAfter half_same half_twice a.sends b.sends c.sends x.sends y.sends;
      bare = λ late k is. y.bare late k (x.bare late k is);
      carried = λ late p is. x.carried late p (y.carried late p is);
    }

-- what neither moves the tables nor the records nor the known limits
pub after_closes : (c : Closed) (e : End) → IsAfter e (closes c e)
after_closes c e = record { role = refl; settings = refl; tuning = refl; next = omega arith; credit = omega arith; bidi = omega arith; uni = omega arith; bidi_granted = omega arith; uni_granted = omega arith; counts = λ h. h; recvs = recvs_same e.recvs; sends = sends_same e.sends; bare = λ late k is. is; carried = λ late p is. is }

pub after_recorded : (k : ℕ) (asks : Bool) (e : End) → IsAfter e (recorded k asks e)
after_recorded k asks e = record { role = refl; settings = refl; tuning = refl; next = omega arith; credit = omega arith; bidi = omega arith; uni = omega arith; bidi_granted = omega arith; uni_granted = omega arith; counts = λ h. h; recvs = recvs_same e.recvs; sends = sends_same e.sends; bare = λ late k is. is; carried = λ late p is. is }

-- Openings, and changes of a half

after_opens : (n : ℕ) (e : End) → IsAfter e (opens n e)
after_opens n e =
    after_tables e _ _ e.granted
    (cond_both (is_uni n && not (is_own e n)) e.sends _ (KeptIn HalfAfter e.sends) (λ _. sends_same e.sends) (λ _. kept_open HalfAfter half_same e.sends n (λ m. new_send_lane m (first_send_limit e n) e.settings.send_buffer)))
    (cond_both (is_uni n && is_own e n) e.recvs _ (KeptIn LaneAfter e.recvs) (λ _. recvs_same e.recvs) (λ _. kept_open LaneAfter lane_same e.recvs n (λ m. new_recv_lane (first_window e n) e.tuning.credit_step)))

pub after_opened : (n : ℕ) (e : End) → IsAfter e (opened_by_peer n e)
after_opened n e = cond_both (is_own e n) e (opens n e) (IsAfter e) (λ _. after_same e) (λ _. after_opens n e)

after_send : (n : ℕ) (f : SendLane → SendLane) (e : End) → ((l : SendLane) → lookup e.sends n ≡ Some l → HalfAfter l (f l)) → IsAfter e (on_send n f e)
after_send n f e kept = after_tables e _ e.recvs e.granted (kept_updated HalfAfter half_same e.sends n f kept) (recvs_same e.recvs)

after_recv : (n : ℕ) (f : RecvLane → RecvLane) (e : End) → ((l : RecvLane) → lookup e.recvs n ≡ Some l → LaneAfter l (f l)) → IsAfter e (on_recv n f e)
after_recv n f e kept = after_tables e e.sends _ e.granted (sends_same e.sends) (kept_updated LaneAfter lane_same e.recvs n f kept)

-- as a call ends, no count falls
pub after_settle : (e : End) → IsAfter e (settle e)
after_settle e =
    after_by (sends_same e.sends) (kept_each LaneAfter lane_same e.recvs raise raise_after) (omega arith) (omega arith) (omega arith) (omega arith) (omega arith) (counts_stand e)
    (λ late k is. is) (λ late p is. is)

-- Acknowledgements

bare_rest : (o : Option (List Piece)) → IsBare o → IsBare (rest_of o)
bare_rest o h = grind arith

pub bare_less : (m : Records) (k n : ℕ) → IsBare (fmap.get m n) → IsBare (fmap.get (without_first m k (fmap.get m k)) n)
bare_less m k n h = grind (arith, nat_tests, get-without_first, rest_of, bare_rest)

-- a record without its first piece, the outstanding one or the lost one

pub bare_without : (late b : Bool) (k : ℕ) (e : End) (j : ℕ) → IsBare (fmap.get (held late e) j) → IsBare (fmap.get (held late (without_piece b k e)) j)
bare_without late b k e j h = grind (arith, nat_tests, bare_less)

pub carried_without : (late b : Bool) (k : ℕ) (e : End) (p : Piece) → IsCarried (held late (without_piece b k e)) p → IsCarried (held late e) p
carried_without true true k e p is = carried-without_first e.lost.pieces k p is
carried_without false false k e p is = carried-without_first e.outstanding k p is
carried_without _ _ k e p is = is

after_without : (late : Bool) (k : ℕ) (e : End) → IsAfter e (without_piece late k e)
after_without true k e =
    after_by (sends_same e.sends) (recvs_same e.recvs) (omega arith) (omega arith) (omega arith) (omega arith) (omega arith) (λ h. h)
    (λ b j is. bare_without b true k e j is) (λ b p is. carried_without b true k e p is)
after_without false k e =
    after_by (sends_same e.sends) (recvs_same e.recvs) (omega arith) (omega arith) (omega arith) (omega arith) (omega arith) (λ h. h)
    (λ b j is. bare_without b false k e j is) (λ b p is. carried_without b false k e p is)

after_acked_items : (e : End) (a : AckedItems) → IsAfter e (record e { acked = a })
after_acked_items e a = record { role = refl; settings = refl; tuning = refl; next = omega arith; credit = omega arith; bidi = omega arith; uni = omega arith; bidi_granted = omega arith; uni_granted = omega arith; counts = λ h. h; recvs = recvs_same e.recvs; sends = sends_same e.sends; bare = λ late k is. is; carried = λ late p is. is }

after_item_acked : (i : Item) (e : End) → WasWritten e.sends (Told i) → IsAfter e (item_acked i e)
after_item_acked (ResetStream n code size) e broken = after_send n reset_acked_lane e (λ l is. half_reset_acked l (subst WasBrokenOff is broken))
after_item_acked (MaxStreams Uni m) e written = after_acked_items e _
after_item_acked (StreamsBlocked Uni m) e written = after_acked_items e _
after_item_acked i e written = after_acked_items e _

after_piece : (p : Piece) (e : End) → WasWritten e.sends p → IsAfter e (piece_acked p e)
after_piece (Data n c) e written = after_send n (λ l. acked_lane l c) e (λ l is. half_acked l c (subst (λ x. IsWritten x c) is written))
after_piece (Told i) e written = after_item_acked i e written

after_first : (a : AckedPiece) (e : End) → WasWritten e.sends a.piece → IsAfter e (first_acked a e)
after_first a e written =
    let short = without_piece a.late a.number e in
    after_twice e short (first_acked a e) (after_without a.late a.number e) (after_piece a.piece short written)

-- a half has no fewer bytes, and stays reset
abbrev pub IsLonger : SendLane → SendLane → Type 0
IsLonger l m = (l.written ≤ m.written) × (is_some l.was_reset ≡ true → is_some m.was_reset ≡ true)

-- what was written stays written, where no half has fewer bytes
pub written_stays : (R : SendLane → SendLane → Type 0) → ((l m : SendLane) → R l m → IsLonger l m) → (t u : Tables SendLane) → KeptIn R t u → (p : Piece) → WasWritten t p → WasWritten u p
written_stays R longer t u kept p h = grind arith

half_longer : (l m : SendLane) → HalfAfter l m → IsLonger l m
half_longer l m r = (r.written, r.broken)

pub sent_stays : (a b : End) → IsAfter a b → SentWasWritten a → SentWasWritten b
sent_stays a b x h late p is = written_stays HalfAfter half_longer a.sends b.sends x.sends p (h late p (x.carried late p is))

-- all data of the list was written
abbrev pub AllWritten : Tables SendLane → List AckedPiece → Type 0
AllWritten t = AllByRecursion (λ a. WasWritten t a.piece)

pub after_acks : (ps : List AckedPiece) (e : End) → AllWritten e.sends ps → IsAfter e (acks ps e)
unfolding acks
after_acks [] e h = after_same e
after_acks (p ∷ ps) e h =
    let one = after_first p e h.0 in
    after_twice e (first_acked p e) _ one
    (after_acks ps (first_acked p e) (All_more (λ a. WasWritten e.sends a.piece) (λ a. WasWritten (first_acked p e).sends a.piece) ps (λ a is. written_stays HalfAfter half_longer e.sends (first_acked p e).sends one.sends a.piece is) h.1))

-- what an ACK takes was outstanding, or lost

pub named_written : (e : End) (ranges : List (ℕ × ℕ)) → SentWasWritten e → AllWritten e.sends (named e ranges)
named_written e ranges h = all_named (λ a. WasWritten e.sends a.piece) ranges e (λ late k ps named at p a. h late p (k, ps, at, a))

-- Frames

pub lawful_in : (e : End) (n : ℕ) (l : RecvLane) → IsInCredit e → lookup e.recvs n ≡ Some l → IsLawful l
lawful_in e n l sound is = (subst (HasLawfulLane e.role e.settings n) is (sound.lanes n)).0

-- of the end with the stream open
pub mid_stream : (n offset : ℕ) (bytes : List ℕ) (fin : Bool) (e : End) → verdict e (Stream n offset bytes fin) ≡ None → IsInCredit e
    → IsAfter (opened_by_peer n e) (on_recv n (λ l. take_stream l offset bytes fin) (opened_by_peer n e))
mid_stream n offset bytes fin e v sound =
    after_recv n (λ l. take_stream l offset bytes fin) (opened_by_peer n e) (λ l is.
    data_after l offset bytes fin (lawful_in (opened_by_peer n e) n l (sound_opened n e sound) is)
    (subst (λ o. IsOk (check_stream (or_new o 0 Half) offset (length bytes) fin)) is (stream_checked e (opened_by_peer n e) n offset bytes fin v refl)))

pub mid_reset : (n code size : ℕ) (e : End) → verdict e (Control (ResetStream n code size)) ≡ None → IsInCredit e
    → IsAfter (opened_by_peer n e) (on_recv n (λ l. take_reset l code size) (opened_by_peer n e))
mid_reset n code size e v sound =
    after_recv n (λ l. take_reset l code size) (opened_by_peer n e) (λ l is.
    reset_after l code size (lawful_in (opened_by_peer n e) n l (sound_opened n e sound) is)
    (subst (λ o. IsOk (check_reset (or_new o 0 Half) size)) is (reset_checked e (opened_by_peer n e) n code size v refl)))

pub mid_allow : (n m : ℕ) (e : End) → IsAfter (opened_by_peer n e) (on_send n (λ l. allow_lane l m) (opened_by_peer n e))
mid_allow n m e = after_send n (λ l. allow_lane l m) (opened_by_peer n e) (λ l is. (record { limit = omega arith; written = omega arith; refused = λ is. is; stopped = λ is. is; broken = λ is. is; ended = λ is. is; told = record { code = λ c is. is; reset = λ is. is; finished = λ is. is; own = λ is. is; quiet = λ own is. refl } }))

pub mid_stop : (answers : Bool) (n code : ℕ) (e : End) → IsAfter (opened_by_peer n e) (on_send n (λ l. stop_taken answers l code) (opened_by_peer n e))
mid_stop answers n code e = after_send n (λ l. stop_taken answers l code) (opened_by_peer n e) (λ l is. half_stopped answers l code)

after_item : (i : Item) (e : End) → verdict e (Control i) ≡ None → IsInCredit e → IsAfter e (item_taken i e)
after_item (MaxData m) e v h = after_known e _ e.known_bidi e.known_uni (omega arith) (omega arith) (omega arith)
after_item (MaxStreamData n m) e v h = after_twice e (opened_by_peer n e) _ (after_opened n e) (mid_allow n m e)
after_item (MaxStreams Bidi m) e v h = after_known e e.known_data _ e.known_uni (omega arith) (omega arith) (omega arith)
after_item (MaxStreams Uni m) e v h = after_known e e.known_data e.known_bidi _ (omega arith) (omega arith) (omega arith)
after_item (ResetStream n code size) e v h = after_twice e (opened_by_peer n e) _ (after_opened n e) (mid_reset n code size e v h)
after_item (StopSending n code) e v h = after_twice e (opened_by_peer n e) _ (after_opened n e) (mid_stop e.tuning.answers_stops n code e)
after_item (StreamDataBlocked n m) e v h = after_opened n e
after_item _ e v h = after_same e

pub after_frame : (f : Seen) (e : End) → verdict e f ≡ None → IsInCredit e → SentWasWritten e → IsAfter e (frame_taken f e)
unfolding frame_taken
after_frame (Ack largest ranges) e v sound sent = after_acks (named e ranges) e (named_written e ranges sent)
after_frame (Stream n offset bytes fin) e v sound sent = after_twice e (opened_by_peer n e) _ (after_opened n e) (mid_stream n offset bytes fin e v sound)
after_frame (Control i) e v sound sent = after_item i e v sound
after_frame _ e v sound sent = after_same e
