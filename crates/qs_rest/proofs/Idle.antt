-- An end that answers as one at rest is at rest.
use Rattle.std.proofs.Common.{◌≡◌, ℕ, Bool, true, false, not, ◌&&◌, Some, None, is_some, refl, sym, ap, ◌∙◌, arith}
use Rattle.std.proofs.lemmas.Bool.{true≢false}
use Rattle.std.proofs.lemmas.Option.{none-some}
use Rattle.qs_recv.specs.Lane.{RecvLane}
use Rattle.qs_recv.specs.News.{is_readable}
use Rattle.qs_send.specs.declared.piece.Piece.{Piece}
use Rattle.qs_machine.specs.Ends.{End, recv_lane}
use Rattle.qs_machine.specs.Due.{IsOutstanding}
use Rattle.qs_machine.specs.Asking.{GoesBesideAck, IsNextOutstanding}
use Rattle.qs_machine.specs.News.{IsLeast, IsReadable}
use Rattle.qs_rest.specs.Invariant.{ToldTrue}
use Rattle.qs_rest.specs.Rest.{AtRest, IdleIsRest}
use Rattle.qs_rest.proofs.Telling.{no_news}
use Rattle.qs_rest.proofs.Runs.{every_run_keeps}

none_outstanding : (e : End) → IsNextOutstanding e.outstanding 0 None → (p : Piece) → IsOutstanding e p → ⊥
none_outstanding e none p (k, ps, is, among) = true≢false (sym (ap is_some is) ∙ none k (omega arith))

module _ (e : End) (open_end : e.closed ≡ None) (true_of : (n : ℕ) (l : RecvLane) → recv_lane e n ≡ Some l → ToldTrue l) where
  idle : (GoesBesideAck e → ⊥) → IsNextOutstanding e.outstanding 0 None → IsLeast (IsReadable e) 0 None → AtRest e
  idle quiet none unread =
      record {
        quiet = λ more. quiet (open_end, more);
        none_out = none_outstanding e none;
        read_out = λ n l is. no_news l (true_of n l is) (go n l is (is_readable l) refl);
      }
    where
      go : (n : ℕ) (l : RecvLane) → recv_lane e n ≡ Some l → (b : Bool) → is_readable l ≡ b → is_readable l ≡ false
      go n l is true same = (let (m, found, le) = unread.least n (omega arith) (ap (λ c. is_some c && not e.tuning.reads_when_closed) open_end, (l, is, same)) in absurd (none-some m found))
      go n l is false same = same

pub idle_rests : IdleIsRest
idle_rests a b h w run s open_end = idle _ open_end (every_run_keeps a b h w run s).told
