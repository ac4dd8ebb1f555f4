-- Of private contracts.
-- What an owner heard as numbers and lists, so that it can be what contracts see of it; and what it hears of its peer.
use Rattle.std.specs.Prelude.{◌≡◌, ℕ, ◌+◌, ◌*◌, ◌≤◌, Bool, Option, None, Some, nat_lt, refl, if◌then◌else◌}
use Rattle.std.specs.Coded.{Coded, code_by, coded×, coded_ℕ, coded_bool}
use Rattle.qs_wire.specs.declared.stream_id.Dir.{Dir}
use Rattle.qs_calls.specs.declared.news.News.{News}
use Rattle.qs_machine.specs.Tables.{Tables}
use Rattle.qs_machine.specs.Ends.{End, peer_type}
use Rattle.qs_machine.specs.Owner.{opened_count}
use Rattle.qs_machine.specs.EndCodes.{tables_code}
use Rattle.qs_machine.specs.Heard.{Hearing, Blocked, IsNews, ComesBefore, kind_of}

abbrev pub marks_code : Coded (Tables Bool)
marks_code = tables_code coded_bool

abbrev pub blocked_code : Coded Blocked
blocked_code =
    code_by (Bool × (Tables Bool × (Bool × Bool))) (coded× coded_bool (coded× marks_code (coded× coded_bool coded_bool)))
    (λ b. (b.conn, (b.streams, (b.bidi, b.uni))))
    (λ p. record { conn = p.0; streams = p.1.0; bidi = p.1.1.0; uni = p.1.1.1 })
    (λ _. refl)

abbrev pub hearing_code : Coded Hearing
hearing_code =
    code_by (ℕ × (ℕ × (Tables Bool × (Tables Bool × (Tables Bool × (Tables Bool × (Tables Bool × (Bool × (Bool × Blocked)))))))))
    (coded× coded_ℕ
    (coded× coded_ℕ
    (coded× marks_code (coded× marks_code (coded× marks_code (coded× marks_code (coded× marks_code (coded× coded_bool (coded× coded_bool blocked_code)))))))))
    (λ h. (h.opened_bidi, (h.opened_uni, (h.readable, (h.short, (h.stopped, (h.sent, (h.ended, (h.wants_bidi, (h.wants_uni, h.blocked))))))))))
    (λ p. record {
      opened_bidi = p.0;
      opened_uni = p.1.0;
      readable = p.1.1.0;
      short = p.1.1.1.0;
      stopped = p.1.1.1.1.0;
      sent = p.1.1.1.1.1.0;
      ended = p.1.1.1.1.1.1.0;
      wants_bidi = p.1.1.1.1.1.1.1.0;
      wants_uni = p.1.1.1.1.1.1.1.1.0;
      blocked = p.1.1.1.1.1.1.1.1.1;
    })
    (λ _. refl)

-- the next stream of a direction that the peer opened, where so many were heard of (RFC 9000, section 2.1)
abbrev pub next_of_peer : End → Dir → ℕ → Option ℕ
next_of_peer e d heard = if nat_lt heard (opened_count e (peer_type e d)) then Some (heard * 4 + peer_type e d) else None

-- the answer is the first piece of news of those of a kind or a later one, and None only where there is none
pub record IsFirstFrom (k : ℕ) (e : End) (h : Hearing) (answer : Option News) : Type 0 where
  pub found : (news : News) → answer ≡ Some news → (k ≤ kind_of news) × IsNews e h news
  pub first : (other : News) → k ≤ kind_of other → IsNews e h other → (news : News) × (answer ≡ Some news) × (ComesBefore other news → ⊥)
