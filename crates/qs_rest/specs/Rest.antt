-- Trusted.
-- Two ends at rest (the whole file is ours, but that each clause names its section of RFC 9000).
use Rattle.std.specs.Prelude.{◌≡◌, ℕ, true, ⊤, ◌⊎◌, None, Some}
use Rattle.qs_recv.specs.Lane.{RecvLane, read_answer}
use Rattle.qs_recv.specs.declared.half.Read.{Read}
use Rattle.qs_recv.specs.declared.half.Read.TheVariants as reads
use Rattle.qs_send.specs.declared.piece.Item.{Item}
use Rattle.qs_send.specs.declared.piece.Piece.{Piece}
use Rattle.qs_calls.specs.declared.settings.Settings.{Settings}
use Rattle.qs_calls.specs.declared.event.Side.{Side}
use Rattle.qs_machine.specs.Ends.{End, recv_lane}
use Rattle.qs_machine.specs.Due.{IsOutstanding, IsDueItem, StreamGoes}
use Rattle.qs_machine.specs.Asking.{GoesBesideAck, IsNextOutstanding}
use Rattle.qs_machine.specs.News.{IsLeast, IsReadable}
use Rattle.qs_runs.specs.Logs.{History}
use Rattle.qs_runs.specs.Worlds.{World, end_of, Run}
use Rattle.qs_runs.specs.Pasts.{past}
use Rattle.qs_rest.specs.Invariant.{RestOk}

-- a read has no byte to hand out, and no end or reset that wasn't told (RFC 9000, section 3.2)
abbrev pub TellsNoNews : Read → RecvLane → Type 0
TellsNoNews (reads.Bytes n) l = ⊥
TellsNoNews reads.End l = l.reader_done ≡ true
TellsNoNews (reads.Reset code) l = l.reader_done ≡ true
TellsNoNews reads.Wait l = ⊤

-- a control item is to go out, or bytes or the end of a stream that no limit holds back (RFC 9000, sections 4.1 and 13.3)
abbrev pub HasMore : End → Type 0
HasMore e = ((i : Item) × IsDueItem e i) ⊎ ((n : ℕ) × StreamGoes e n)

-- An end is at rest: nothing but an ACK may go out, no packet of its own is outstanding, and its readers know all that came (RFC 9000,
-- sections 3.2 and 13.3).
pub record AtRest (e : End) : Type 0 where
  pub quiet : HasMore e → ⊥
  pub none_out : (p : Piece) → IsOutstanding e p → ⊥
  pub read_out : (n : ℕ) (l : RecvLane) → recv_lane e n ≡ Some l → TellsNoNews (read_answer l 1) l

-- in every run each end keeps what a rest needs
abbrev pub EveryRunKeeps : Type 0
EveryRunKeeps = (a b : Settings) (h : History) (w : World) → Run a b h w → (s : Side) → RestOk (past s h) (end_of w s)

-- In every run an end that is open, as one is that wasn't told of a close, nor its peer, is at rest where its code answers so: `is_sendable`
-- false, and `next_outstanding` and `next_readable` from 0 on None (RFC 9000, sections 2.2 and 13.3).
abbrev pub IdleIsRest : Type 0
IdleIsRest =
    (a b : Settings) (h : History) (w : World) → Run a b h w → (s : Side) → (end_of w s).closed ≡ None →
    (GoesBesideAck (end_of w s) → ⊥) → IsNextOutstanding (end_of w s).outstanding 0 None → IsLeast (IsReadable (end_of w s)) 0 None → AtRest (end_of w s)
