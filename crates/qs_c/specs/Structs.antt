-- Of public contracts.
-- What the structs of C stand for, and how they tell what they stand for, field by field. All of it is ours.
use Rattle.std.specs.Prelude.{ℕ, Bool, ◌&&◌, Option, Some, None, is_some, unwrap_or, nat_eq, nat_le, if◌then◌else◌}
use Rattle.qs_c.specs.declared.structs.GvSettings.{GvSettings}
use Rattle.qs_calls.specs.declared.settings.Settings.{Settings}
use Rattle.qs_c.specs.declared.structs.GvTuning.{GvTuning}
use Rattle.qs_calls.specs.declared.settings.Tuning.{Tuning}
use Rattle.qs_recv.specs.declared.credit.Share.{Share}
use Rattle.qs_recv.specs.declared.credit.Share.TheVariants.{Half, Quarter, Eighth, Sixteenth}
use Rattle.qs_c.specs.declared.structs.GvLimits.{GvLimits}
use Rattle.qs_calls.specs.declared.settings.PeerLimits.{PeerLimits}
use Rattle.qs_c.specs.declared.structs.GvMade.{GvMade}
use Rattle.qs_calls.specs.declared.making.Made.{Made}
use Rattle.qs_c.specs.declared.structs.GvRequest.{GvRequest}
use Rattle.qs_calls.specs.declared.filling.Fill.{Fill}
use Rattle.qs_c.specs.declared.structs.GvFilled.{GvFilled}
use Rattle.qs_calls.specs.declared.filling.Filled.{Filled}
use Rattle.qs_c.specs.declared.structs.GvToken.{GvToken}
use Rattle.qs_calls.specs.declared.token.Token.{Token}
use Rattle.qs_c.specs.declared.structs.GvClosing.{GvClosing}
use Rattle.qs_calls.specs.declared.closing.Closing.{Closing}
use Rattle.qs_c.specs.declared.structs.GvTold.{GvTold}
use Rattle.qs_calls.specs.declared.closing.Closer.TheVariants.{Us, Peer}
use Rattle.qs_calls.specs.declared.closing.CloseKind.TheVariants.{Transport, Application}
use Rattle.qs_calls.specs.declared.closing.NotedClose.{NotedClose}
use Rattle.qs_machine.specs.EndCodes.{closer_number, kind_number}

abbrev pub settings_in : GvSettings → Settings
settings_in s = record { conn_window = s.conn_window; bidi_local = s.bidi_local; bidi_remote = s.bidi_remote; uni = s.uni; send_buffer = s.send_buffer; grant_bidi = s.grant_bidi; grant_uni = s.grant_uni; lifetime_bidi = s.lifetime_bidi; lifetime_uni = s.lifetime_uni }

-- the number of a part
abbrev pub is_share : ℕ → Bool
is_share n = nat_le 1 n && nat_le n 4

-- of a number that is one
abbrev pub share_of : ℕ → Share
share_of n = if nat_eq n 1 then Half else if nat_eq n 2 then Quarter else if nat_eq n 3 then Eighth else Sixteenth

-- the number of a part, or 0
abbrev pub may_be_share : ℕ → Bool
may_be_share n = nat_le n 4

abbrev pub share_if : ℕ → Option Share
share_if n = if nat_eq n 0 then None else Some (share_of n)

-- a window, or 0
abbrev pub window_if : ℕ → Option ℕ
window_if n = if nat_eq n 0 then None else Some n

-- its parts are some
abbrev pub is_tuning : GvTuning → Bool
is_tuning t = is_share t.credit_step && may_be_share t.count_step

abbrev pub tuning_in : GvTuning → Tuning
tuning_in t = record { credit_step = share_of t.credit_step; count_step = share_if t.count_step; within_credit = t.within_credit; answers_stops = t.answers_stops; reads_when_closed = t.reads_when_closed; epoch = t.epoch; send_window = window_if t.send_window }

abbrev pub limits_in : GvLimits → PeerLimits
limits_in s = record { max_data = s.max_data; bidi_local = s.bidi_local; bidi_remote = s.bidi_remote; uni = s.uni; streams_bidi = s.streams_bidi; streams_uni = s.streams_uni }

abbrev pub request_in : GvRequest → Fill
request_in r = record { items = r.items; streams = r.streams; first = r.first; alone = r.alone; most_bytes = r.most_bytes }

-- where no STREAM frame was filled in, 0
abbrev pub filled_of : Filled → GvFilled
filled_of f = record { has_last_stream = is_some f.last_stream; more = f.more; token = f.token.number; len = f.len; last_stream = unwrap_or f.last_stream 0 }

abbrev pub numbers_of : Token → GvToken
numbers_of t = record { epoch = t.epoch; first = t.first; number = t.number }

abbrev pub token_in : GvToken → Token
token_in t = record { epoch = t.epoch; first = t.first; number = t.number }

abbrev pub made_of : Made → GvMade
made_of m = record { number = m.number; len = m.len; is_ack_eliciting = m.is_ack_eliciting }

abbrev pub closing_of : Closing → GvClosing
closing_of c = record { code = c.code; frame_type = c.frame_type; place = c.place }

-- 0 stands for this side and the transport
abbrev pub close_in : (by kind code : ℕ) → NotedClose
close_in by kind code = record { by = if nat_eq by 0 then Us else Peer; kind = if nat_eq kind 0 then Transport else Application; code = code }

abbrev pub told_of : NotedClose → GvTold
told_of c = record { by = closer_number c.by; kind = kind_number c.kind; code = c.code }
