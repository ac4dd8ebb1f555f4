-- Of private contracts.
-- An end as numbers, lists and maps, so that it can be what contracts see of an endpoint.
use Rattle.std.specs.Prelude.{◌≡◌, ℕ, zero, suc, Bool, List, ◌⊎◌, Option, refl}
use Rattle.std.proofs.Common.{inl, inr}
use Rattle.std.specs.Coded.{Coded, code_by, coded×, coded⊎, coded_ℕ, coded_bool, coded_list, coded_option}
use Rattle.std.specs.Ordering.{nat_cmp}
use Rattle.std.specs.FinMap as fmap
use Rattle.std.specs.FinSet as set
use Rattle.qs_ranges.specs.Numbers.{NumberSet}
use Rattle.qs_wire.specs.declared.stream_id.Role.{Role}
use Rattle.qs_wire.specs.declared.stream_id.Role.TheVariants.{Client, Server}
use Rattle.qs_recv.specs.Lane.{RecvLane}
use Rattle.qs_recv.specs.declared.credit.Share.{Share}
use Rattle.qs_recv.specs.Codes.{lane_code as recv_code, share_code}
use Rattle.qs_send.specs.Lane.{SendLane}
use Rattle.qs_send.specs.Records.{PacketPieces}
use Rattle.qs_send.specs.Codes.{lane_code as send_code, packet_pieces_code}
use Rattle.qs_calls.specs.declared.settings.Settings.{Settings}
use Rattle.qs_calls.specs.declared.settings.Tuning.{Tuning}
use Rattle.qs_calls.specs.declared.settings.PeerLimits.{PeerLimits}
use Rattle.qs_calls.specs.declared.closing.Closing.{Closing}
use Rattle.qs_calls.specs.declared.closing.Closed.{Closed}
use Rattle.qs_calls.specs.declared.closing.Closer.{Closer}
use Rattle.qs_calls.specs.declared.closing.Closer.TheVariants.{Us, Peer}
use Rattle.qs_calls.specs.declared.closing.CloseKind.{CloseKind}
use Rattle.qs_calls.specs.declared.closing.CloseKind.TheVariants.{Transport, Application}
use Rattle.qs_calls.specs.declared.closing.NotedClose.{NotedClose}
use Rattle.qs_calls.specs.declared.closing.Closed.TheVariants.{ByUs, ByPeer, Noted}
use Rattle.qs_machine.specs.Tables.{Tables}
use Rattle.qs_machine.specs.LostPackets.{LostPackets}
use Rattle.qs_machine.specs.Ends.{End, Present, Records, AckedItems}
use Rattle.qs_machine.specs.Outgoing.{Outgoing}

-- Roles, settings, closings

abbrev pub role_number : Role → ℕ
role_number Client = 0
role_number Server = 1

abbrev pub role_of : ℕ → Role
role_of zero = Client
role_of (suc n) = Server

pub role_back : (r : Role) → role_of (role_number r) ≡ r
role_back Client = refl
role_back Server = refl

abbrev pub role_code : Coded Role
role_code = code_by ℕ coded_ℕ role_number role_of role_back

abbrev pub settings_code : Coded Settings
settings_code =
    code_by (ℕ × (ℕ × (ℕ × (ℕ × (ℕ × (ℕ × (ℕ × (ℕ × ℕ))))))))
    (coded× coded_ℕ (coded× coded_ℕ (coded× coded_ℕ (coded× coded_ℕ (coded× coded_ℕ (coded× coded_ℕ (coded× coded_ℕ (coded× coded_ℕ coded_ℕ))))))))
    (λ s. (s.conn_window, (s.bidi_local, (s.bidi_remote, (s.uni, (s.send_buffer, (s.grant_bidi, (s.grant_uni, (s.lifetime_bidi, s.lifetime_uni)))))))))
    (λ p. record {
      conn_window = p.0;
      bidi_local = p.1.0;
      bidi_remote = p.1.1.0;
      uni = p.1.1.1.0;
      send_buffer = p.1.1.1.1.0;
      grant_bidi = p.1.1.1.1.1.0;
      grant_uni = p.1.1.1.1.1.1.0;
      lifetime_bidi = p.1.1.1.1.1.1.1.0;
      lifetime_uni = p.1.1.1.1.1.1.1.1;
    })
    (λ _. refl)

abbrev pub present_code : Coded Present
present_code =
    code_by (ℕ × (ℕ × (ℕ × ℕ))) (coded× coded_ℕ (coded× coded_ℕ (coded× coded_ℕ coded_ℕ))) (λ p. (p.conn_window, (p.widest, (p.grant_bidi, p.grant_uni))))
    (λ p. record { conn_window = p.0; widest = p.1.0; grant_bidi = p.1.1.0; grant_uni = p.1.1.1 })
    (λ _. refl)

abbrev pub tuning_code : Coded Tuning
tuning_code =
    code_by (Share × (Option Share × (Bool × (Bool × (Bool × (ℕ × Option ℕ))))))
    (coded× share_code (coded× (coded_option share_code) (coded× coded_bool (coded× coded_bool (coded× coded_bool (coded× coded_ℕ (coded_option coded_ℕ)))))))
    (λ t. (t.credit_step, (t.count_step, (t.within_credit, (t.answers_stops, (t.reads_when_closed, (t.epoch, t.send_window)))))))
    (λ p. record { credit_step = p.0; count_step = p.1.0; within_credit = p.1.1.0; answers_stops = p.1.1.1.0; reads_when_closed = p.1.1.1.1.0; epoch = p.1.1.1.1.1.0; send_window = p.1.1.1.1.1.1 })
    (λ _. refl)

abbrev pub limits_code : Coded PeerLimits
limits_code =
    code_by (ℕ × (ℕ × (ℕ × (ℕ × (ℕ × ℕ)))))
    (coded× coded_ℕ (coded× coded_ℕ (coded× coded_ℕ (coded× coded_ℕ (coded× coded_ℕ coded_ℕ)))))
    (λ p. (p.max_data, (p.bidi_local, (p.bidi_remote, (p.uni, (p.streams_bidi, p.streams_uni))))))
    (λ p. record { max_data = p.0; bidi_local = p.1.0; bidi_remote = p.1.1.0; uni = p.1.1.1.0; streams_bidi = p.1.1.1.1.0; streams_uni = p.1.1.1.1.1 })
    (λ _. refl)

abbrev pub closing_code : Coded Closing
closing_code =
    code_by (ℕ × (ℕ × ℕ)) (coded× coded_ℕ (coded× coded_ℕ coded_ℕ)) (λ c. (c.code, (c.frame_type, c.place)))
    (λ p. record { code = p.0; frame_type = p.1.0; place = p.1.1 })
    (λ _. refl)

abbrev pub closer_number : Closer → ℕ
closer_number Us = 0
closer_number Peer = 1

abbrev pub closer_of : ℕ → Closer
closer_of zero = Us
closer_of (suc n) = Peer

pub closer_back : (c : Closer) → closer_of (closer_number c) ≡ c
closer_back Us = refl
closer_back Peer = refl

abbrev pub kind_number : CloseKind → ℕ
kind_number Transport = 0
kind_number Application = 1

abbrev pub kind_of : ℕ → CloseKind
kind_of zero = Transport
kind_of (suc n) = Application

pub kind_back : (k : CloseKind) → kind_of (kind_number k) ≡ k
kind_back Transport = refl
kind_back Application = refl

abbrev pub noted_code : Coded NotedClose
noted_code =
    code_by (Closer × (CloseKind × ℕ)) (coded× (code_by ℕ coded_ℕ closer_number closer_of closer_back) (coded× (code_by ℕ coded_ℕ kind_number kind_of kind_back) coded_ℕ)) (λ c. (c.by, (c.kind, c.code)))
    (λ p. record { by = p.0; kind = p.1.0; code = p.1.1 })
    (λ _. refl)

abbrev pub closed_cases : Closed → Closing ⊎ (ℕ ⊎ NotedClose)
closed_cases (ByUs closing) = inl closing
closed_cases (ByPeer code) = inr (inl code)
closed_cases (Noted close) = inr (inr close)

abbrev pub closed_of : Closing ⊎ (ℕ ⊎ NotedClose) → Closed
closed_of (inl closing) = ByUs closing
closed_of (inr (inl code)) = ByPeer code
closed_of (inr (inr close)) = Noted close

pub closed_back : (c : Closed) → closed_of (closed_cases c) ≡ c
closed_back (ByUs closing) = refl
closed_back (ByPeer code) = refl
closed_back (Noted close) = refl

abbrev pub closed_code : Coded Closed
closed_code = code_by (Closing ⊎ (ℕ ⊎ NotedClose)) (coded⊎ closing_code (coded⊎ coded_ℕ noted_code)) closed_cases closed_of closed_back

-- Ends

abbrev pub tables_code : {X : Type 0} → Coded X → Coded (Tables X)
tables_code {X} x =
    code_by (List X × (List X × (List X × List X)))
    (coded× (coded_list x) (coded× (coded_list x) (coded× (coded_list x) (coded_list x))))
    (λ t. (t.client_bidi, (t.server_bidi, (t.client_uni, t.server_uni))))
    (λ p. record { client_bidi = p.0; server_bidi = p.1.0; client_uni = p.1.1.0; server_uni = p.1.1.1 })
    (λ _. refl)

abbrev pub values_code : Coded (fmap.FinMap nat_cmp ℕ)
values_code = fmap.code coded_ℕ coded_ℕ

abbrev pub lost_packets_code : Coded LostPackets
lost_packets_code = code_by (PacketPieces × List ℕ) (coded× packet_pieces_code (coded_list coded_ℕ)) (λ l. (l.pieces, l.order)) (λ p. record { pieces = p.0; order = p.1 }) (λ _. refl)

abbrev pub acked_code : Coded AckedItems
acked_code =
    code_by (Option ℕ × (fmap.FinMap nat_cmp ℕ × (NumberSet × (Option ℕ × (fmap.FinMap nat_cmp ℕ × (Option ℕ × (Option ℕ × (Option ℕ × Option ℕ))))))))
    (coded× (coded_option coded_ℕ)
    (coded× values_code
    (coded× (set.code coded_ℕ)
    (coded× (coded_option coded_ℕ) (coded× values_code (coded× (coded_option coded_ℕ) (coded× (coded_option coded_ℕ) (coded× (coded_option coded_ℕ) (coded_option coded_ℕ)))))))))
    (λ a. (a.max_data, (a.max_stream_data, (a.stop_sending, (a.data_blocked, (a.stream_data_blocked, (a.bidi_blocked, (a.uni_blocked, (a.bidi_streams, a.uni_streams)))))))))
    (λ p. record {
      max_data = p.0;
      max_stream_data = p.1.0;
      stop_sending = p.1.1.0;
      data_blocked = p.1.1.1.0;
      stream_data_blocked = p.1.1.1.1.0;
      bidi_blocked = p.1.1.1.1.1.0;
      uni_blocked = p.1.1.1.1.1.1.0;
      bidi_streams = p.1.1.1.1.1.1.1.0;
      uni_streams = p.1.1.1.1.1.1.1.1;
    })
    (λ _. refl)

-- the parts of an end: what it is set to, its streams, its credit, what it processed, what it sent
abbrev Set_to : Type 0
Set_to = Role × (Settings × (Present × (Tuning × (PeerLimits × Option Closed))))

abbrev Streams : Type 0
Streams = Tables SendLane × (Tables RecvLane × (ℕ × (ℕ × (Option ℕ × Option ℕ))))

abbrev Limits : Type 0
Limits = ℕ × (ℕ × (ℕ × (ℕ × (ℕ × ℕ))))

abbrev Processed : Type 0
Processed = NumberSet × (ℕ × Bool)

abbrev Sent : Type 0
Sent = ℕ × (Records × (LostPackets × AckedItems))

abbrev pub end_code : Coded End
end_code =
    code_by (Set_to × (Streams × (Limits × (Processed × Sent))))
    (coded× (coded× role_code (coded× settings_code (coded× present_code (coded× tuning_code (coded× limits_code (coded_option closed_code))))))
    (coded× (coded× (tables_code send_code) (coded× (tables_code recv_code) (coded× coded_ℕ (coded× coded_ℕ (coded× (coded_option coded_ℕ) (coded_option coded_ℕ))))))
    (coded× (coded× coded_ℕ (coded× coded_ℕ (coded× coded_ℕ (coded× coded_ℕ (coded× coded_ℕ coded_ℕ)))))
    (coded× (coded× (set.code coded_ℕ) (coded× coded_ℕ coded_bool))
    (coded× coded_ℕ (coded× packet_pieces_code (coded× lost_packets_code acked_code)))))))
    (λ e. (
      (e.role, (e.settings, (e.present, (e.tuning, (e.peer, e.closed))))),
      (
        (e.sends, (e.recvs, (e.accepted_bidi, (e.accepted_uni, (e.wanted_bidi, e.wanted_uni))))),
        (
          (e.granted, (e.granted_bidi, (e.granted_uni, (e.known_data, (e.known_bidi, e.known_uni))))),
          (
            (e.done, (e.floor, e.ack_due)),
            (e.next, (e.outstanding, (e.lost, e.acked))),
          ),
        ),
      ),
    ))
    (λ p. record {
      role = p.0.0;
      settings = p.0.1.0;
      present = p.0.1.1.0;
      tuning = p.0.1.1.1.0;
      peer = p.0.1.1.1.1.0;
      closed = p.0.1.1.1.1.1;
      sends = p.1.0.0;
      recvs = p.1.0.1.0;
      accepted_bidi = p.1.0.1.1.0;
      accepted_uni = p.1.0.1.1.1.0;
      wanted_bidi = p.1.0.1.1.1.1.0;
      wanted_uni = p.1.0.1.1.1.1.1;
      granted = p.1.1.0.0;
      granted_bidi = p.1.1.0.1.0;
      granted_uni = p.1.1.0.1.1.0;
      known_data = p.1.1.0.1.1.1.0;
      known_bidi = p.1.1.0.1.1.1.1.0;
      known_uni = p.1.1.0.1.1.1.1.1;
      done = p.1.1.1.0.0;
      floor = p.1.1.1.0.1.0;
      ack_due = p.1.1.1.0.1.1;
      next = p.1.1.1.1.0;
      outstanding = p.1.1.1.1.1.0;
      lost = p.1.1.1.1.1.1.0;
      acked = p.1.1.1.1.1.1.1;
    })
    (λ _. refl)

-- The sending side

abbrev pub outgoing_code : Coded Outgoing
outgoing_code =
    code_by (Tables SendLane × (ℕ × (Records × (LostPackets × (AckedItems × ℕ)))))
    (coded× (tables_code send_code) (coded× coded_ℕ (coded× packet_pieces_code (coded× lost_packets_code (coded× acked_code coded_ℕ)))))
    (λ o. (o.sends, (o.next, (o.outstanding, (o.lost, (o.acked, o.spare))))))
    (λ p. record { sends = p.0; next = p.1.0; outstanding = p.1.1.0; lost = p.1.1.1.0; acked = p.1.1.1.1.0; spare = p.1.1.1.1.1 })
    (λ _. refl)
