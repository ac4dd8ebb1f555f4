-- Of private contracts.
-- Limits and counts of streams where nothing that they follow has moved (RFC 9000, sections 4.2 and 4.6).
use Rattle.std.specs.Prelude.{◌≡◌, ℕ, max, Bool, true}
use Rattle.qs_wire.specs.declared.stream_id.Dir.TheVariants.{Bidi, Uni}
use Rattle.qs_recv.specs.Lane.{RecvLane, taken, raise, next_limit}
use Rattle.qs_calls.specs.declared.settings.Settings.{Settings}
use Rattle.qs_calls.specs.declared.settings.Tuning.{Tuning}
use Rattle.qs_conn.specs.declared.by_dir.ByDir.{ByDir}
use Rattle.qs_machine.specs.Tables.{Tables, each, total}
use Rattle.qs_machine.specs.Ends.{Present}
use Rattle.qs_machine.specs.Credit.{count_after}

-- each limit is the next one already, and so is each granted count
pub record AreNext (s : Settings) (t : Tuning) (p : Present) (recvs : Tables RecvLane) (e : ByDir ℕ) (granted granted_bidi granted_uni : ℕ) : Type 0 where
  pub streams : each raise recvs ≡ recvs
  pub connection : next_limit granted (total taken recvs) p.conn_window t.credit_step ≡ granted
  pub bidi : max granted_bidi (count_after s t Bidi p.grant_bidi e.bidi) ≡ granted_bidi
  pub uni : max granted_uni (count_after s t Uni p.grant_uni e.uni) ≡ granted_uni

-- the same, where an end notes that nothing has moved
abbrev pub AreNextWhere : Bool → Settings → Tuning → Present → Tables RecvLane → ByDir ℕ → ℕ → ℕ → ℕ → Type 0
AreNextWhere is_settled s t p recvs e granted bidi uni = is_settled ≡ true → AreNext s t p recvs e granted bidi uni
