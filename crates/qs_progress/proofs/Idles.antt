-- Each packet that is outstanding has a piece; so an end at rest answers as one.
use Rattle.std.proofs.lemmas.Bool.Decides.{nat_tests}
use Rattle.std.proofs.Common.{arith}
use Rattle.std.proofs.Common.{◌≡◌, ℕ, false, List, [], ◌∷◌, ◌++◌, nat_cmp, Option, Some, None, is_some, inl, refl, sym, ◌∙◌, subst}
use Rattle.std.specs.FinMap as fmap
use Rattle.std.proofs.lemmas.Bool.{cases_eq, cond_both, true≢false}
use Rattle.std.proofs.lemmas.Option.{none-some}
use Rattle.qs_wire.specs.declared.stream_id.Dir.TheVariants.{Uni}
use Rattle.qs_recv.specs.Lane.{RecvLane, read_answer}
use Rattle.qs_recv.specs.News.{is_readable}
use Rattle.qs_send.specs.Records.{PacketPieces, NoneEmpty, without_first}
use Rattle.qs_send.proofs.Outstanding.{rest_of, get-without_first}
use Rattle.qs_send.specs.declared.piece.Item.TheVariants.{MaxStreamData, MaxStreams, ResetStream, StopSending, StreamDataBlocked}
use Rattle.qs_send.specs.declared.piece.Piece.{Piece}
use Rattle.qs_calls.specs.declared.settings.Settings.{Settings}
use Rattle.qs_calls.specs.declared.event.Side.{Side}
use Rattle.qs_calls.specs.declared.event.Side.TheVariants.{A}
use Rattle.qs_machine.specs.Ends.{End, is_own, opens, opened_by_peer}
use Rattle.qs_machine.specs.Asking.{GoesBesideAck, IsNextOutstanding}
use Rattle.qs_machine.specs.News.{IsLeast, IsReadable}
use Rattle.qs_machine.specs.Seen.{Seen, Ack, Stream, Control}
use Rattle.qs_machine.specs.FrameStep.{frame_taken}
use Rattle.qs_machine.specs.Lawful.{frame_put, noted}
use Rattle.qs_machine.specs.Setting.{Grant, SendBuffer, StreamWindow}
use Rattle.qs_machine.specs.EndStep.{Call, Answer, EndStep}
use Rattle.qs_machine.proofs.Carried.{get_new, get_other}
use Rattle.qs_machine.proofs.EveryCall.{Change, changed, Comes, relates, Wanted, WasSet, Took, Acked, Put, Lost}
use Rattle.qs_machine.proofs.NewlyTold.{acks_some, acks_all}
use Rattle.qs_runs.specs.Logs.{History}
use Rattle.qs_runs.specs.Worlds.{World, end_of, Run}
use Rattle.qs_runs.proofs.Histories.{two_sides}
use Rattle.qs_runs.proofs.NewEnds.{first_world, made_first}
use Rattle.qs_runs.proofs.Stays.{each_side}
use Rattle.qs_rest.specs.Rest.{AtRest, TellsNoNews}

abbrev Full : End → Type 0
Full e = NoneEmpty e.outstanding

full_opened : (n : ℕ) (e : End) → Full e → Full (opened_by_peer n e)
full_opened n e full = cond_both (is_own e n) e (opens n e) Full (λ _. full) (λ _. full)

full_frame : (f : Seen) (e : End) → Full e → Full (frame_taken f e)
unfolding frame_taken
full_frame (Ack largest ranges) e full = (acks_all ranges e full).none
full_frame (Stream n offset bytes fin) e full = full_opened n e full
full_frame (Control (MaxStreamData n m)) e full = full_opened n e full
full_frame (Control (MaxStreams Uni m)) e full = full
full_frame (Control (ResetStream n code size)) e full = full_opened n e full
full_frame (Control (StopSending n code)) e full = full_opened n e full
full_frame (Control (StreamDataBlocked n m)) e full = full_opened n e full
full_frame f e full = full

not_bare : (ps : List Piece) (p : Piece) → ◌≡◌ {A = Option (List Piece)} (Some (ps ++ p ∷ [])) (Some []) → ⊥
not_bare [] p is = absurd cc
not_bare (q ∷ qs) p is = absurd cc

full_noted : (p : Piece) (e : End) → Full e → Full (noted p e)
full_noted p e full k is = grind (arith, nat_tests, cases_eq, not_bare, get_new, get_other)

full_put : (f : Seen) (e : End) → Full e → Full (frame_put f e)
unfolding frame_put
full_put f e full = grind (arith, nat_tests, full_noted)

full_less : (m : PacketPieces) (k : ℕ) → NoneEmpty m → NoneEmpty (without_first m k (fmap.get m k))
full_less m k full j is = grind (arith, nat_tests, get-without_first, rest_of, none-some)

full_change : (old : End) (call : Call) (c : Change) (e : End) → Comes old call e c → Full e → Full (changed c e)
full_change old call (Wanted Uni count) e comes full = full
full_change old call (WasSet (SendBuffer n size)) e comes full = full
full_change old call (WasSet (Grant Uni n)) e comes full = full
full_change old call (WasSet (StreamWindow n w)) e comes full = full
full_change old call (Took f) e comes full = full_frame f e full
full_change old call (Acked count ranges) e comes full = (acks_some ranges e count full).none
full_change old call (Put f) e comes full = full_put f e full
full_change old call (Lost k p) e comes full = full_less e.outstanding k full
full_change old call c e comes full = full

full_call : (old : End) (call : Call) (answer : Answer call) (new : End) → EndStep old call answer new → Full old → Full new
full_call old call answer new step = relates (λ e f. Full e → Full f) (λ e full. full) (λ e f g x y full. y (x full)) old call (full_change old call) answer new step

pub none_bare : (a b : Settings) (h : History) (w : World) → Run a b h w → (s : Side) → NoneEmpty (end_of w s).outstanding
none_bare a b [] w begins s =
    subst (λ x. NoneEmpty (end_of x s).outstanding) (sym (made_first a b begins.tuned_a begins.tuned_b begins.of_a begins.of_b w begins.begun))
    (two_sides (λ t. NoneEmpty (end_of (first_world a b begins.tuned_a begins.tuned_b begins.of_a begins.of_b) t).outstanding) A (λ k is. none-some [] (sym (fmap.get-empty nat_cmp k) ∙ is)) (λ k is. none-some [] (sym (fmap.get-empty nat_cmp k) ∙ is)) s)
none_bare a b (x ∷ h) w (v, run, step) s = each_side (λ e f. Full e → Full f) (λ e full. full) v w (λ t call answer made. full_call (end_of v t) call answer (end_of w t) made) h x step s (none_bare a b h v run s)

-- An end at rest

rest_reads : (l : RecvLane) → TellsNoNews (read_answer l 1) l → is_readable l ≡ false
rest_reads l quiet = grind (arith, nat_tests)

pub rest_idles : (e : End) → NoneEmpty e.outstanding → AtRest e → (GoesBesideAck e → ⊥) × IsNextOutstanding e.outstanding 0 None × IsLeast (IsReadable e) 0 None
rest_idles e full rest = (
  λ goes. rest.quiet goes.1,
  λ k low. none k (fmap.get e.outstanding k) refl,
  record { found = λ n is. absurd (none-some n is); least = λ n low (open_end, (l, there, news)). absurd (true≢false (sym news ∙ rest_reads l (rest.read_out n l there))) },
)
  where
    none : (k : ℕ) (o : Option (List Piece)) → fmap.get e.outstanding k ≡ o → is_some o ≡ false
    none k None is = refl
    none k (Some []) is = absurd (full k is)
    none k (Some (p ∷ ps)) is = absurd (rest.none_out p (k, p ∷ ps, is, inl refl))
