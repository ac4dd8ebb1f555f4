-- Of private contracts.
-- A sending half and the records of packets as pairs, so that they can be part of what contracts see of a value.
use Rattle.std.specs.Prelude.{ℕ, Bool, List, Option, refl}
use Rattle.std.specs.FinMap as fmap
use Rattle.std.specs.FinSet as set
use Rattle.std.specs.Coded.{Coded, code_by, coded×, coded_ℕ, coded_bool, coded_option, coded_list}
use Rattle.qs_ranges.specs.Numbers.{NumberSet}
use Rattle.qs_send.specs.declared.parts.Reset.{Reset}
use Rattle.qs_send.specs.Lane.{SendLane, Due, Sending}
use Rattle.qs_send.specs.Records.{PacketPieces, Recorded}
use Rattle.qs_send.specs.LostRecords.{Lost}
use Rattle.qs_send.specs.PieceCodes.{piece_code}

abbrev pub reset_code : Coded Reset
reset_code = code_by (ℕ × ℕ) (coded× coded_ℕ coded_ℕ) (λ r. (r.code, r.size)) (λ p. record { code = p.0; size = p.1 }) (λ _. refl)

abbrev pub lane_code : Coded SendLane
lane_code =
    code_by (ℕ × (ℕ × (List ℕ × (NumberSet × (ℕ × (Bool × (Bool × (Bool × (Bool × (Option Reset × (Bool × (ℕ × (ℕ × (ℕ × Option ℕ))))))))))))))
    (coded× coded_ℕ (coded× coded_ℕ (coded× (coded_list coded_ℕ) (coded× (set.code coded_ℕ) (coded× coded_ℕ (coded× coded_bool (coded× coded_bool (coded× coded_bool (coded× coded_bool (coded× (coded_option reset_code) (coded× coded_bool (coded× coded_ℕ (coded× coded_ℕ (coded× coded_ℕ (coded_option coded_ℕ)))))))))))))))
    (λ l. (l.id, (l.written, (l.kept, (l.acked, (l.sent_end, (l.finished, (l.fin_sent, (l.fin_acked, (l.blocked_sent, (l.was_reset, (l.reset_acked, (l.limit, (l.buffer, (l.widest, l.stopped)))))))))))))))
    (λ p. record { id = p.0; written = p.1.0; kept = p.1.1.0; acked = p.1.1.1.0; sent_end = p.1.1.1.1.0; finished = p.1.1.1.1.1.0; fin_sent = p.1.1.1.1.1.1.0; fin_acked = p.1.1.1.1.1.1.1.0; blocked_sent = p.1.1.1.1.1.1.1.1.0; was_reset = p.1.1.1.1.1.1.1.1.1.0; reset_acked = p.1.1.1.1.1.1.1.1.1.1.0; limit = p.1.1.1.1.1.1.1.1.1.1.1.0; buffer = p.1.1.1.1.1.1.1.1.1.1.1.1.0; widest = p.1.1.1.1.1.1.1.1.1.1.1.1.1.0; stopped = p.1.1.1.1.1.1.1.1.1.1.1.1.1.1 })
    (λ _. refl)

abbrev pub due_code : Coded Due
due_code = code_by (NumberSet × Bool) (coded× (set.code coded_ℕ) coded_bool) (λ d. (d.offsets, d.fin)) (λ p. record { offsets = p.0; fin = p.1 }) (λ _. refl)

abbrev pub sending_code : Coded Sending
sending_code = code_by (SendLane × Due) (coded× lane_code due_code) (λ s. (s.lane, s.due)) (λ p. record { lane = p.0; due = p.1 }) (λ _. refl)

abbrev pub packet_pieces_code : Coded PacketPieces
packet_pieces_code = fmap.code coded_ℕ (coded_list piece_code)

abbrev pub recorded_code : Coded Recorded
recorded_code =
    code_by (PacketPieces × (ℕ × (ℕ × ℕ))) (coded× packet_pieces_code (coded× coded_ℕ (coded× coded_ℕ coded_ℕ))) (λ r. (r.pieces, (r.base, (r.slots, r.room))))
    (λ p. record { pieces = p.0; base = p.1.0; slots = p.1.1.0; room = p.1.1.1 })
    (λ _. refl)

abbrev pub lost_code : Coded Lost
lost_code =
    code_by (PacketPieces × (List ℕ × Option ℕ)) (coded× packet_pieces_code (coded× (coded_list coded_ℕ) (coded_option coded_ℕ))) (λ l. (l.pieces, (l.order, l.room)))
    (λ p. record { pieces = p.0; order = p.1.0; room = p.1.1 })
    (λ _. refl)
