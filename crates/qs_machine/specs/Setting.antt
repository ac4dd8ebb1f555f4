-- Trusted.
-- What an owner sets anew while the connection lasts: its window and that of a stream, how many streams are granted, and how much a stream's
-- sending half keeps
-- (ours, beside RFC 9000, sections 2.2, 4.1, 4.2 and 4.6, for the whole file).
use Rattle.std.specs.Prelude.{◌≡◌, ℕ, ◌+◌, Bool, not, nat_le, nat_lt, max, min, Option, None, Some, is_some, Result, Ok, if◌then◌else◌}
use Rattle.qs_wire.specs.declared.stream_id.Dir.{Dir}
use Rattle.qs_wire.specs.declared.stream_id.Dir.TheVariants.{Bidi, Uni}
use Rattle.qs_recv.specs.Lane.{MAX_CONN_WINDOW, MAX_WINDOW, limit_with, set_window}
use Rattle.qs_send.specs.Lane.{buffer_lane}
use Rattle.qs_calls.specs.declared.settings.SetFault.{SetFault}
use Rattle.qs_calls.specs.declared.settings.SetFault.TheVariants as setting
use Rattle.qs_calls.specs.Settings.{is_between, MAX_GRANT}
use Rattle.qs_machine.specs.Ends.{End, send_lane, recv_lane, on_send, on_recv}
use Rattle.qs_machine.specs.Credit.{all_taken, ended, settle}
use Rattle.qs_machine.specs.Owner.{Certain, first_refusal, refuse_if}

-- what is set, and to what
pub data Setting : Type 0 where
  ConnWindow : (window : ℕ) → Setting
  Grant : (dir : Dir) (streams : ℕ) → Setting
  SendBuffer : (stream size : ℕ) → Setting
  StreamWindow : (stream window : ℕ) → Setting

-- whether it lies in the range that an end of wide ranges has for it
abbrev pub is_settable : Setting → Bool
is_settable (ConnWindow w) = is_between 1 MAX_CONN_WINDOW w
is_settable (Grant d n) = nat_le n MAX_GRANT
is_settable (SendBuffer n size) = is_between 1 MAX_WINDOW size
is_settable (StreamWindow n w) = is_between 1 MAX_WINDOW w

-- the stream isn't open, or has no half of that kind at this end
abbrev pub no_half_to_set : Bool → SetFault
no_half_to_set other = if other then setting.WrongDirection else setting.NoSuchStream

-- what speaks against it at the streams
abbrev pub half_fault : End → Setting → Option SetFault
half_fault e (ConnWindow w) = None
half_fault e (Grant d n) = None
half_fault e (SendBuffer n size) = elim (send_lane e n) [ None ↦ Some (no_half_to_set (is_some (recv_lane e n))) | Some l ↦ None ]
half_fault e (StreamWindow n w) = elim (recv_lane e n) [ None ↦ Some (no_half_to_set (is_some (send_lane e n))) | Some l ↦ None ]

-- what speaks against it: a closing (RFC 9000, section 10.2), the range, no such half
abbrev pub set_refusal : End → Setting → Option SetFault
set_refusal e x =
    first_refusal (refuse_if (is_some e.closed) setting.Closed)
    (first_refusal (refuse_if (not (is_settable x)) setting.OutOfRange) (half_fault e x))

-- as a window moves a limit, a greater grant moves a count of streams at once, up to the lifetime's, and under a smaller one it stands
abbrev pub count_with : (old granted lifetime ended grant : ℕ) → ℕ
count_with old granted lifetime ended grant = if nat_lt old grant then max granted (min lifetime (grant + ended)) else granted

-- the end with what was set in force; what the peer was told at first stays as it was
abbrev pub with_setting : Setting → End → End
with_setting (ConnWindow w) e =
    record e {
      granted = limit_with e.present.conn_window e.granted (all_taken e) w;
      present = record e.present { conn_window = w; widest = max e.present.widest w };
    }
with_setting (Grant Bidi n) e =
    record e {
      granted_bidi = count_with e.present.grant_bidi e.granted_bidi e.settings.lifetime_bidi (ended e Bidi) n;
      present = record e.present { grant_bidi = n };
    }
with_setting (Grant Uni n) e =
    record e {
      granted_uni = count_with e.present.grant_uni e.granted_uni e.settings.lifetime_uni (ended e Uni) n;
      present = record e.present { grant_uni = n };
    }
-- of a sending half what it keeps stays
with_setting (SendBuffer n size) e = on_send n (λ l. buffer_lane l size) e
-- of a receiving half the limit moves as the connection's does
with_setting (StreamWindow n w) e = on_recv n (λ l. set_window l w) e

abbrev pub SetStep : End → Setting → Result (Unit {0}) SetFault → End → Type 0
SetStep old x answer new = Certain (set_refusal old x) old answer new ((answer ≡ Ok tt) × (new ≡ settle (with_setting x old)))
