-- Of public contracts.
-- What holds of an end at all times, and what no call takes back (RFC 9000, section 4.1).
use Rattle.std.specs.Prelude.{◌≡◌, ℕ, ◌+◌, ◌-◌, ◌≤◌, true, ⊤, Option, None, Some}
use Rattle.std.specs.FinMap as fmap
use Rattle.qs_wire.specs.declared.stream_id.Dir.{Dir}
use Rattle.qs_wire.specs.declared.stream_id.Dir.TheVariants.{Bidi, Uni}
use Rattle.qs_wire.specs.declared.stream_id.Role.{Role}
use Rattle.qs_recv.specs.Lane.{MAX_CONN_WINDOW, RecvLane, highest, taken}
use Rattle.qs_recv.specs.Lawful.{IsLawful}
use Rattle.qs_calls.specs.declared.settings.Settings.{Settings}
use Rattle.qs_calls.specs.Settings.{MAX_GRANT, are_in_wide_range}
use Rattle.qs_machine.specs.Tables.{Tables, lookup, total}
use Rattle.qs_machine.specs.Ends.{End, Present, first_window_by, recv_lane}
use Rattle.qs_machine.specs.Credit.{spent, all_taken, all_stored, granted_streams, lifetime, next_count}

-- a receiving half that is open is lawful, and its widest window is no narrower than the one of its type of stream
abbrev pub HasLawfulLane : Role → Settings → ℕ → Option RecvLane → Type 0
HasLawfulLane role s n None = ⊤
HasLawfulLane role s n (Some l) = IsLawful l × (first_window_by role s n ≤ l.arrived.widest)

-- what is in force is in the ranges that an end has at first, and the widest window is no narrower than the present one
pub record IsInForce (p : Present) : Type 0 where
  pub some : 1 ≤ p.conn_window
  pub widest : p.conn_window ≤ p.widest
  pub small : p.widest ≤ MAX_CONN_WINDOW
  pub bidi : p.grant_bidi ≤ MAX_GRANT
  pub uni : p.grant_uni ≤ MAX_GRANT

-- the peer is within the connection limit, and that within the widest window
pub record KeepsCredit (role : Role) (s : Settings) (p : Present) (recvs : Tables RecvLane) (granted : ℕ) : Type 0 where
  pub settings : are_in_wide_range s ≡ true
  pub present : IsInForce p
  pub lanes : (n : ℕ) → HasLawfulLane role s n (lookup recvs n)
  pub spent : total highest recvs ≤ granted
  pub in_window : granted ≤ total taken recvs + p.widest

-- of an end: its peer is within the credit
abbrev pub IsInCredit : End → Type 0
IsInCredit e = KeepsCredit e.role e.settings e.present e.recvs e.granted

-- no granted count of streams is above its lifetime's (ours, beside RFC 9000, section 4.6)
abbrev pub CountsStand : End → Type 0
CountsStand e = (granted_streams e Bidi ≤ lifetime e.settings Bidi) × (granted_streams e Uni ≤ lifetime e.settings Uni)

-- every end that is reached is sound
abbrev pub IsSound : End → Type 0
IsSound e = IsInCredit e × CountsStand e

-- between calls each granted count is the next one: no less than the grant, and as many more as ended, in whole steps, up to the lifetime's
abbrev pub CountsAreSettled : End → Type 0
CountsAreSettled e = (d : Dir) → granted_streams e d ≡ next_count e d

-- of one stream: its stored bytes were granted and aren't taken, and that is within the widest window that was set of it
pub record IsLaneWithin (l : RecvLane) : Type 0 where
  pub stored : fmap.len l.arrived.stored ≤ l.limit - taken l
  pub credit : l.limit - taken l ≤ l.arrived.widest
  pub spent : highest l ≤ l.limit

-- the bytes that an end stores were granted and aren't taken, and that is within the widest window that was set; and so of each stream; no
-- count of streams is above its lifetime's
pub record IsWithinCredit (e : End) : Type 0 where
  pub stored : all_stored e ≤ e.granted - all_taken e
  pub credit : e.granted - all_taken e ≤ e.present.widest
  pub spent : spent e ≤ e.granted
  pub lanes : (n : ℕ) (l : RecvLane) → recv_lane e n ≡ Some l → IsLaneWithin l
  pub counts : (d : Dir) → granted_streams e d ≤ lifetime e.settings d

-- each half that is open stays so, and its limit is no lower
abbrev pub LimitsRiseIn : {X : Type 0} → (X → ℕ) → Tables X → Tables X → Type 0
LimitsRiseIn {X} limit old new = (n : ℕ) (x : X) → lookup old n ≡ Some x → (y : X) × (lookup new n ≡ Some y) × (limit x ≤ limit y)

-- no limit is lower: the connection limit granted, those of the peer as far as they are known, its counts of streams, and the limit of
-- each half
abbrev pub LimitsRise : End → End → Type 0
LimitsRise old new =
    (old.granted ≤ new.granted)
    × (old.known_data ≤ new.known_data)
    × (old.known_bidi ≤ new.known_bidi)
    × (old.known_uni ≤ new.known_uni)
    × LimitsRiseIn (λ l. l.limit) old.recvs new.recvs
    × LimitsRiseIn (λ l. l.limit) old.sends new.sends

-- no granted count of streams is lower (RFC 9000, section 4.6)
abbrev pub CountsRise : End → End → Type 0
CountsRise old new = (d : Dir) → granted_streams old d ≤ granted_streams new d
