-- Of private contracts.
-- Which streams of the peer came to their end, and how many (RFC 9000, sections 3 and 4.6).
use Rattle.std.specs.Prelude.{◌≡◌, ℕ, ◌+◌, ◌-◌, ◌≤◌, ◌^◌, Bool, true, false, ◌&&◌, ◌||◌, ◌⊎◌, if◌then◌else◌, length, zip, Option, None, Some, is_some, ⊤}
use Rattle.std.specs.List.{filter}
use Rattle.qs_wire.specs.declared.stream_id.Role.{Role}
use Rattle.qs_recv.specs.Lane.{RecvLane}
use Rattle.qs_send.specs.Lane.{SendLane}
use Rattle.qs_send.specs.declared.piece.Item.TheVariants.{ResetStream}
use Rattle.qs_send.specs.declared.piece.Piece.{Piece}
use Rattle.qs_send.specs.declared.piece.Piece.TheVariants.{Data, Told}
use Rattle.qs_calls.specs.declared.settings.Settings.{Settings}
use Rattle.qs_conn.specs.declared.by_dir.ByDir.{ByDir}
use Rattle.qs_machine.specs.Tables.{Tables, table, lookup}
use Rattle.qs_machine.specs.Ends.{role_bit, is_uni, is_own_by}
use Rattle.qs_machine.specs.Credit.{recv_ended, send_ended, both_ended}

abbrev pub one_if : Bool → ℕ
one_if b = if b then 1 else 0

-- the receiving half of a stream came to its end: Data Read or Reset Read (RFC 9000, section 3.2)
abbrev pub recv_over : Option RecvLane → Bool
recv_over None = false
recv_over (Some l) = recv_ended l

-- the sending half of a stream came to its end: Data Recvd or Reset Recvd (RFC 9000, section 3.1)
abbrev pub send_over : Option SendLane → Bool
send_over None = false
send_over (Some l) = send_ended l

-- a stream of the peer is over where each half that it has is
abbrev pub over : Role → ℕ → Bool → Bool → Bool
over role n recv send = if is_own_by role n then false else recv && (is_uni n || send)

abbrev pub is_over : Role → Tables RecvLane → Tables SendLane → ℕ → Bool
is_over role recvs sends n = over role n (recv_over (lookup recvs n)) (send_over (lookup sends n))

-- the counts with what a stream adds, and without what it added
abbrev pub recounted : ℕ → Bool → Bool → ByDir ℕ → ByDir ℕ
recounted n was is e =
    if is_uni n then record e { uni = e.uni + one_if is - one_if was } else record e { bidi = e.bidi + one_if is - one_if was }

-- the counts are small, and a stream that was counted is in them
pub record MayRecount (n : ℕ) (was : Bool) (e : ByDir ℕ) : Type 0 where
  pub bidi : e.bidi ≤ 2 ^ 60
  pub uni : e.uni ≤ 2 ^ 60
  pub part : one_if was ≤ (if is_uni n then e.uni else e.bidi)

-- the counts of the peer's streams that came to their end are right (RFC 9000, sections 3 and 4.6)
pub record AreAllCounted (role : Role) (recvs : Tables RecvLane) (sends : Tables SendLane) (e : ByDir ℕ) : Type 0 where
  pub bidi : e.bidi ≡ length (filter both_ended (zip (table recvs (1 - role_bit role)) (table sends (1 - role_bit role))))
  pub uni : e.uni ≡ length (filter recv_ended (table recvs (3 - role_bit role)))

-- the stream whose sending half changes as a piece is acknowledged (RFC 9000, section 3.1)
abbrev pub half_of : Piece → Option ℕ
half_of (Data n c) = Some n
half_of (Told (ResetStream n code size)) = Some n
half_of (Told item) = None

-- a reader is told of the end where all data came, and of a reset where one came; or nothing is told of a half that was stopped (RFC 9000,
-- sections 3.2 and 3.5)
abbrev pub IsToldOfEnd : Option RecvLane → Type 0
IsToldOfEnd None = ⊤
IsToldOfEnd (Some l) = l.reader_done ≡ true → (recv_ended l ≡ true) ⊎ (is_some l.stop_code ≡ true)

-- what holds of an endpoint's counts: those of ended streams are right, and no granted one is above its lifetime's
pub record CountsFit (role : Role) (s : Settings) (recvs : Tables RecvLane) (sends : Tables SendLane) (e : ByDir ℕ) (granted_bidi granted_uni : ℕ) : Type 0 where
  pub counted : AreAllCounted role recvs sends e
  pub told : (n : ℕ) → IsToldOfEnd (lookup recvs n)
  pub bidi : granted_bidi ≤ s.lifetime_bidi
  pub uni : granted_uni ≤ s.lifetime_uni
