-- Trusted.
-- What an end is set to, and what it is told of the other end's settings: the limits with which a connection begins (RFC 9000,
-- sections 4.1, 4.6 and 18.2, for the whole file; the ranges are ours).
use Rattle.std.specs.Prelude.{ℕ, ◌^◌, Bool, false, ◌&&◌, not, nat_le, Option, Some, None, if◌then◌else◌}
use Rattle.qs_ranges.specs.Numbers.{MAX_VARINT}
use Rattle.qs_recv.specs.Lane.{MAX_WINDOW, MAX_CONN_WINDOW}
use Rattle.qs_recv.specs.declared.credit.Share.TheVariants.{Half}
use Rattle.qs_calls.specs.declared.settings.Settings.{Settings}
use Rattle.qs_calls.specs.declared.settings.Tuning.{Tuning}
use Rattle.qs_calls.specs.declared.settings.PeerLimits.{PeerLimits}
use Rattle.qs_calls.specs.declared.settings.SetupFault.{SetupFault}
use Rattle.qs_calls.specs.declared.settings.SetupFault.TheVariants.{OutOfRange, TooManyStreams}

-- how an end goes about its choices where its owner made none: a limit moves with each half window, a count of streams with each stream
-- that ended, and a STOP_SENDING resets the stream at once, and each sending half alone bounds what it keeps (RFC 9000, sections 3.5, 4.2 and 4.6; the choices are ours)
abbrev pub default_tuning : Tuning
default_tuning = record { credit_step = Half; count_step = None; within_credit = false; answers_stops = false; reads_when_closed = false; epoch = 0; send_window = None }

-- what the other end is told of an end's settings (RFC 9000, section 18.2)
abbrev pub limits_of : Settings → PeerLimits
limits_of s =
    record {
      max_data = s.conn_window;
      bidi_local = s.bidi_local;
      bidi_remote = s.bidi_remote;
      uni = s.uni;
      streams_bidi = s.grant_bidi;
      streams_uni = s.grant_uni;
    }

-- whether a number lies in a range, its ends included
abbrev pub is_between : ℕ → ℕ → ℕ → Bool
is_between low high n = nat_le low n && nat_le n high

-- whether each window, buffer, grant and lifetime is at least as large as it must be, and at most so large
abbrev pub are_within : (conn_window window grant lifetime : ℕ) → Settings → Bool
are_within conn_window window grant lifetime s =
    is_between 1 conn_window s.conn_window
    && is_between 1 window s.bidi_local
    && is_between 1 window s.bidi_remote
    && is_between 1 window s.uni
    && is_between 1 window s.send_buffer
    && nat_le s.grant_bidi grant
    && nat_le s.grant_uni grant
    && is_between s.grant_bidi lifetime s.lifetime_bidi
    && is_between s.grant_uni lifetime s.lifetime_uni

-- the same as ends have it that scripts play
abbrev pub are_in_range : Settings → Bool
are_in_range s = are_within (2 ^ 24) (2 ^ 20) 4096 (2 ^ 16) s

-- how many streams of a direction a peer may open at once: one frame opens them all
abbrev pub MAX_GRANT : ℕ
MAX_GRANT = 2 ^ 17

-- how many in all: something is kept of each one that ended
abbrev pub MAX_LIFETIME : ℕ
MAX_LIFETIME = 2 ^ 21

-- the same as any end may have it
abbrev pub are_in_wide_range : Settings → Bool
are_in_wide_range s = are_within MAX_CONN_WINDOW MAX_WINDOW MAX_GRANT MAX_LIFETIME s

-- whether each of the peer's data limits has a spelling (RFC 9000, section 16)
abbrev pub are_spellable : PeerLimits → Bool
are_spellable p =
    nat_le p.max_data MAX_VARINT && nat_le p.bidi_local MAX_VARINT && nat_le p.bidi_remote MAX_VARINT && nat_le p.uni MAX_VARINT

-- whether no more streams are allowed than have a number (RFC 9000, section 4.6)
abbrev pub are_countable : PeerLimits → Bool
are_countable p = nat_le p.streams_bidi (2 ^ 60) && nat_le p.streams_uni (2 ^ 60)

-- why the peer's limits are refused (RFC 9000, sections 4.6 and 7.4)
abbrev pub limits_fault : PeerLimits → Option SetupFault
limits_fault p = if not (are_spellable p) then Some OutOfRange else (if not (are_countable p) then Some TooManyStreams else None)

-- why no end can be made of settings that are in their ranges or aren't
abbrev pub fault_where : Bool → PeerLimits → Option SetupFault
fault_where in_range p =
    if not (in_range && are_spellable p) then Some OutOfRange
    else (if not (are_countable p) then Some TooManyStreams else None)

-- why no end can be made of these settings
abbrev pub setup_fault : Settings → PeerLimits → Option SetupFault
setup_fault s p = fault_where (are_in_range s) p

-- the same, of an end of wide ranges
abbrev pub wide_setup_fault : Settings → PeerLimits → Option SetupFault
wide_setup_fault s p = fault_where (are_in_wide_range s) p

-- TRANSPORT_PARAMETER_ERROR where the peer is at fault (RFC 9000, section 20.1)
abbrev pub code_of_setup : SetupFault → Option ℕ
code_of_setup OutOfRange = None
code_of_setup TooManyStreams = Some 0x08
