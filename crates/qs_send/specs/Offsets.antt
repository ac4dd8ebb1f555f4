-- Of private contracts.
-- The written offsets of a sending half, as what is kept of them, and what each step leaves.
use Rattle.std.specs.Prelude.{◌≡◌, ℕ, ◌+◌, ◌-◌, ◌<◌, ◌≤◌, max, List, [], ◌++◌, length, drop, Option, None, Some, option_map, IfSome, refl}
use Rattle.std.specs.FinSet as set
use Rattle.std.specs.Coded.{Coded, code_by, coded×, coded_ℕ, coded_list}
use Rattle.qs_ranges.specs.Numbers.{MAX_VARINT, NumberSet, AllBelow, numbers, missing_from}
use Rattle.qs_send.specs.declared.parts.Reset.{Reset}

-- How many offsets were written, the bytes that are kept of them, which are acknowledged and which are due, and the number after the
-- largest that was sent.
pub record Parts : Type 0 where
  pub written : ℕ
  pub kept : List ℕ
  pub acked : NumberSet
  pub due : NumberSet
  pub sent_end : ℕ

-- and how many bytes of memory those take that are kept
pub record HeldParts : Type 0 where
  pub parts : Parts
  pub room : ℕ

abbrev pub parts_code : Coded Parts
parts_code =
    code_by (ℕ × (List ℕ × (NumberSet × (NumberSet × ℕ)))) (coded× coded_ℕ (coded× (coded_list coded_ℕ) (coded× (set.code coded_ℕ) (coded× (set.code coded_ℕ) coded_ℕ))))
    (λ p. (p.written, (p.kept, (p.acked, (p.due, p.sent_end)))))
    (λ p. record { written = p.0; kept = p.1.0; acked = p.1.1.0; due = p.1.1.1.0; sent_end = p.1.1.1.1 })
    (λ _. refl)

abbrev pub held_parts_code : Coded HeldParts
held_parts_code = code_by (Parts × ℕ) (coded× parts_code coded_ℕ) (λ h. (h.parts, h.room)) (λ p. record { parts = p.0; room = p.1 }) (λ _. refl)

-- at rest: so many offsets were written, each is acknowledged, and nothing is kept or due
abbrev pub parts_at_rest : ℕ → Parts
parts_at_rest n = record { written = n; kept = []; acked = numbers 0 n; due = set.empty; sent_end = n }

abbrev pub at_rest : ℕ → HeldParts
at_rest n = record { parts = parts_at_rest n; room = 0 }

-- so many offsets, of which those that are live are held, if any are
abbrev pub held_in : ℕ → Option HeldParts → HeldParts
held_in n None = at_rest n
held_in n (Some live) = live

-- the live ones are as many
abbrev pub AgreesOn : ℕ → Option HeldParts → Type 0
AgreesOn n live = IfSome live (λ h. h.parts.written ≡ n)

-- the bytes follow those written before, and their offsets are due
abbrev pub with_written : Parts → List ℕ → Parts
with_written p bytes =
    record p {
      written = p.written + length bytes;
      kept = p.kept ++ bytes;
      due = set.union p.due (numbers p.written (p.written + length bytes));
    }

-- the offsets below `end` were sent
abbrev pub with_sent : Parts → ℕ → Parts
with_sent p end = record p { due = set.difference p.due (numbers 0 end); sent_end = max p.sent_end end }

-- the offsets from `lo` on and below `hi` are acknowledged, and what lies below the lowest that isn't is let go
abbrev pub with_acked : Parts → ℕ → ℕ → Parts
with_acked p lo hi =
    record p {
      kept = drop (missing_from (set.union p.acked (numbers lo hi)) 0 - missing_from p.acked 0) p.kept;
      acked = set.union p.acked (numbers lo hi);
      due = set.difference p.due (numbers lo hi);
    }

-- what of them isn't acknowledged is due again
abbrev pub with_lost : Parts → ℕ → ℕ → Parts
with_lost p lo hi = record p { due = set.union p.due (set.difference (numbers lo hi) p.acked) }

-- nothing is kept or due any more
abbrev pub with_none : Parts → Parts
with_none p = record p { kept = []; due = set.empty }

-- What holds of offsets that aren't at rest: what was sent was written, what is acknowledged was sent, what was noted as due was
-- written, and the bytes that are kept, if any are, are those from the lowest offset not acknowledged on.
pub record AreOffsets (written sent_end : ℕ) (kept : List ℕ) (acked noted : NumberSet) : Type 0 where
  pub small : written ≤ MAX_VARINT
  pub sent_written : sent_end ≤ written
  pub acked_sent : AllBelow acked sent_end
  pub noted_written : AllBelow noted written
  pub kept_from : 0 < length kept → missing_from acked 0 + length kept ≡ written

-- a reset with that code, if there was one: its size is the sent end (RFC 9000, section 4.5)
abbrev pub reset_at : ℕ → Option ℕ → Option Reset
reset_at sent_end code = option_map (λ c. record { code = c; size = sent_end }) code
