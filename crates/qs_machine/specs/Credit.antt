-- Trusted.
-- Credit: what the peer may send and has used up, and how the limits move (RFC 9000, section 4).
use Rattle.std.specs.Prelude.{ℕ, ◌+◌, ◌*◌, ◌/◌, Bool, ◌&&◌, ◌||◌, length, max, min, zip, Option, Some, None, is_some, is_none, option_map, if◌then◌else◌, ◌-◌}
use Rattle.std.specs.List.{filter}
use Rattle.std.specs.FinMap as fmap
use Rattle.qs_wire.specs.declared.stream_id.Dir.{Dir}
use Rattle.qs_wire.specs.declared.stream_id.Dir.TheVariants.{Bidi, Uni}
use Rattle.qs_recv.specs.Lane.{RecvLane, highest, taken, raise, next_limit, is_whole as recv_whole, step}
use Rattle.qs_send.specs.Lane.{SendLane, is_whole as send_whole}
use Rattle.qs_calls.specs.declared.settings.Settings.{Settings}
use Rattle.qs_calls.specs.declared.settings.Tuning.{Tuning}
use Rattle.qs_recv.specs.declared.credit.Share.{Share}
use Rattle.qs_machine.specs.Tables.{table, each, total}
use Rattle.qs_machine.specs.Ends.{End, is_uni, peer_type}

-- the sum of the highest offsets of all receiving halves: what the connection limit bounds (RFC 9000, section 4.1)
abbrev pub spent : End → ℕ
spent e = total highest e.recvs

-- the sum of what was taken, by which the connection's credit grows (RFC 9000, section 4.2)
abbrev pub all_taken : End → ℕ
all_taken e = total taken e.recvs

-- how many bytes are stored (RFC 9000, section 4.1)
abbrev pub all_stored : End → ℕ
all_stored e = total (λ l. fmap.len l.arrived.stored) e.recvs

-- the sum of all sent ends: what the peer's connection limit bounds (RFC 9000, section 4.1)
abbrev pub all_sent : End → ℕ
all_sent e = total (λ l. l.sent_end) e.sends

-- how many bytes of a half were written that are still to be sent for the first time; after a reset none are (RFC 9000, sections 2.2 and 3.1)
abbrev pub unsent_on : SendLane → ℕ
unsent_on l = if is_some l.was_reset then 0 else l.written - l.sent_end

-- the sum of these (RFC 9000, sections 2.2 and 3.1)
abbrev pub all_unsent : End → ℕ
all_unsent e = total unsent_on e.sends

-- how many bytes a sending half keeps until they are acknowledged (RFC 9000, section 13.3)
abbrev pub kept_on : SendLane → ℕ
kept_on l = length l.kept

-- the sum of these (RFC 9000, section 13.3)
abbrev pub all_kept : End → ℕ
all_kept e = total kept_on e.sends

-- how many bytes more all sending halves together may keep, where their owner bounds that (ours, beside RFC 9000, section 2.2)
abbrev pub window_left : End → Option ℕ
window_left e = option_map (λ window. window - all_kept e) e.tuning.send_window

-- how many bytes beyond all that were sent the peer's limit on the connection lets go (RFC 9000, section 4.1)
abbrev pub credit_left : End → ℕ
credit_left e = e.known_data - all_sent e

-- how many more bytes a half may have written that may all be sent at once: by its own limit, and by the connection's beside all that wait to be
-- sent (RFC 9000, section 4.1)
abbrev pub credit_for : End → SendLane → ℕ
credit_for e l = min (l.limit - l.written) (credit_left e - all_unsent e)

-- how many streams of a direction the peer may open (RFC 9000, section 4.6)
abbrev pub granted_streams : End → Dir → ℕ
granted_streams e Bidi = e.granted_bidi
granted_streams e Uni = e.granted_uni

-- how many streams of its type the peer may open (RFC 9000, section 4.6)
abbrev pub grant : End → ℕ → ℕ
grant e n = if is_uni n then e.granted_uni else e.granted_bidi

-- how many it may open at first, and in all (RFC 9000, section 4.6)
abbrev pub first_grant : Settings → Dir → ℕ
first_grant s Bidi = s.grant_bidi
first_grant s Uni = s.grant_uni

-- the count up to which a grant grows (ours, beside RFC 9000, section 4.6)
abbrev pub lifetime : Settings → Dir → ℕ
lifetime s Bidi = s.lifetime_bidi
lifetime s Uni = s.lifetime_uni

-- all bytes and the end, or the reset, were handed to the reader: Data Read or Reset Read (RFC 9000, section 3.2)
abbrev pub recv_ended : RecvLane → Bool
recv_ended l = l.reader_done && (is_some l.reset_code || recv_whole l)

-- all bytes and the end that was asked for, or the reset, were acknowledged: Data Recvd or Reset Recvd (RFC 9000, section 3.1)
abbrev pub send_ended : SendLane → Bool
send_ended l = l.reset_acked || (is_none l.was_reset && l.finished && send_whole l)

-- a bidirectional stream has ended where both its halves have (RFC 9000, section 3.4)
abbrev pub both_ended : RecvLane × SendLane → Bool
both_ended halves = recv_ended halves.0 && send_ended halves.1

-- how many streams of a direction the peer opened and came to their end (RFC 9000, sections 3 and 4.6)
abbrev pub ended : End → Dir → ℕ
ended e Bidi = length (filter both_ended (zip (table e.recvs (peer_type e Bidi)) (table e.sends (peer_type e Bidi))))
ended e Uni = length (filter recv_ended (table e.recvs (peer_type e Uni)))

-- how many streams of a direction are granted beside those that ended, as the owner set it last (ours, beside RFC 9000, section 4.6)
abbrev pub present_grant : End → Dir → ℕ
present_grant e Bidi = e.present.grant_bidi
present_grant e Uni = e.present.grant_uni

-- how many streams have to end until a count moves: each one moves it, or such a share of the grant does, one stream at least (ours,
-- beside RFC 9000, section 4.6)
abbrev pub count_step : Option Share → ℕ → ℕ
count_step None grant = 1
count_step (Some share) grant = step share grant

-- as many of n as make whole steps of k (ours, beside RFC 9000, section 4.6)
abbrev pub in_steps : ℕ → ℕ → ℕ
in_steps k n = n / k * k

-- The count to which a grant is brought where so many streams ended: the grant and as many of these as make whole steps, up to the
-- lifetime's. A step is no more than the grant, so with a grant that never shrank fewer streams have always ended than are granted, below the
-- lifetime's count, and no peer waits for a count that nothing moves (RFC 9000, section 4.6).
abbrev pub count_after : Settings → Tuning → Dir → (grant ended : ℕ) → ℕ
count_after s t d grant n = min (lifetime s d) (grant + in_steps (count_step t.count_step grant) n)

-- the count to which a direction's grant is brought, by the streams of the peer that ended; what was granted stays so (RFC 9000, section 4.6)
abbrev pub next_count : End → Dir → ℕ
next_count e d = max (granted_streams e d) (count_after e.settings e.tuning d (present_grant e d) (ended e d))

-- What happens as a call ends: every limit and each count of streams becomes the next one (RFC 9000, sections 4.2 and 4.6).
abbrev pub settle : End → End
settle e =
    record e {
      recvs = each raise e.recvs;
      granted = next_limit e.granted (all_taken e) e.present.conn_window e.tuning.credit_step;
      granted_bidi = next_count e Bidi;
      granted_uni = next_count e Uni;
    }
