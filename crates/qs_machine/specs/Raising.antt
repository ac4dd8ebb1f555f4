-- Trusted.
-- Limits that rise after an end was made: a client that began with those that it remembered takes in those of the handshake (RFC 9000,
-- section 7.4.1, for the whole file).
use Rattle.std.specs.Prelude.{◌≡◌, ℕ, map, max, Option, option_map, is_some, Result, Ok}
use Rattle.qs_send.specs.Lane.{SendLane, allow_lane}
use Rattle.qs_calls.specs.declared.settings.PeerLimits.{PeerLimits}
use Rattle.qs_calls.specs.declared.settings.RaiseFault.{RaiseFault}
use Rattle.qs_calls.specs.declared.settings.RaiseFault.TheVariants as raising
use Rattle.qs_calls.specs.Settings.{limits_fault}
use Rattle.qs_machine.specs.Tables.{Tables, table, with_table}
use Rattle.qs_machine.specs.Ends.{End, first_send_limit}
use Rattle.qs_machine.specs.Credit.{settle}
use Rattle.qs_machine.specs.Owner.{Certain, first_refusal, refuse_if}

-- of two limits each the greater one
abbrev pub greater_limits : PeerLimits → PeerLimits → PeerLimits
greater_limits a b =
    record {
      max_data = max a.max_data b.max_data;
      bidi_local = max a.bidi_local b.bidi_local;
      bidi_remote = max a.bidi_remote b.bidi_remote;
      uni = max a.uni b.uni;
      streams_bidi = max a.streams_bidi b.streams_bidi;
      streams_uni = max a.streams_uni b.streams_uni;
    }

-- the end that knows these limits of its peer too: none falls, and a stream that opens later begins with the greater first limit
abbrev pub knows_limits : PeerLimits → End → End
knows_limits p e =
    record e {
      peer = greater_limits e.peer p;
      known_data = max e.known_data p.max_data;
      known_bidi = max e.known_bidi p.streams_bidi;
      known_uni = max e.known_uni p.streams_uni;
    }

-- each half of a type may send the offsets below a limit (RFC 9000, section 4.1)
abbrev pub type_allowed : ℕ → ℕ → Tables SendLane → Tables SendLane
type_allowed kind limit t = with_table t kind (map (λ l. allow_lane l limit) (table t kind))

-- the open halves may send what those may that open now, by the four types of streams
abbrev pub with_allowed : End → End
with_allowed e =
    record e {
      sends =
          type_allowed 3 (first_send_limit e 3)
          (type_allowed 2 (first_send_limit e 2)
          (type_allowed 1 (first_send_limit e 1)
          (type_allowed 0 (first_send_limit e 0) e.sends)));
    }

-- the end with each limit of its peer the greater one of what stands and what comes
abbrev pub limits_raised : PeerLimits → End → End
limits_raised p e = with_allowed (knows_limits p e)

-- an end that closed takes nothing in, and limits are refused as for a new end (RFC 9000, sections 4.6, 7.4 and 10.2)
abbrev pub raise_refusal : End → PeerLimits → Option RaiseFault
raise_refusal e p = first_refusal (refuse_if (is_some e.closed) raising.Closed) (option_map raising.Refused (limits_fault p))

abbrev pub RaiseStep : End → PeerLimits → Result (Unit {0}) RaiseFault → End → Type 0
RaiseStep old p answer new = Certain (raise_refusal old p) old answer new ((answer ≡ Ok tt) × (new ≡ settle (limits_raised p old)))
