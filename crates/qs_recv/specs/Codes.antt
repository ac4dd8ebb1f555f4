-- Of private contracts.
-- A receiving lane, its assembly and its share as pairs and numbers, so that they can be part of what contracts see of a value.
use Rattle.std.specs.Prelude.{◌≡◌, ℕ, zero, suc, Bool, Option, refl}
use Rattle.std.specs.Ordering.{nat_cmp}
use Rattle.std.specs.Coded.{Coded, code_by, coded×, coded_ℕ, coded_bool, coded_option}
use Rattle.std.specs.FinMap as map
use Rattle.std.specs.FinSet as set
use Rattle.qs_ranges.specs.Numbers.{NumberSet}
use Rattle.qs_recv.specs.Assembled.{Assembled}
use Rattle.qs_recv.specs.Lane.{RecvLane}
use Rattle.qs_recv.specs.declared.credit.Share.{Share}
use Rattle.qs_recv.specs.declared.credit.Share.TheVariants.{Half, Quarter, Eighth, Sixteenth}

abbrev pub assembled_code : Coded Assembled
assembled_code =
    code_by (map.FinMap nat_cmp ℕ × (NumberSet × (ℕ × (ℕ × Bool))))
    (coded× (map.code coded_ℕ coded_ℕ) (coded× (set.code coded_ℕ) (coded× coded_ℕ (coded× coded_ℕ coded_bool))))
    (λ a. (a.stored, (a.received, (a.read_count, (a.widest, a.discarding)))))
    (λ p. record { stored = p.0; received = p.1.0; read_count = p.1.1.0; widest = p.1.1.1.0; discarding = p.1.1.1.1 })
    (λ _. refl)

abbrev pub share_number : Share → ℕ
share_number Half = 0
share_number Quarter = 1
share_number Eighth = 2
share_number Sixteenth = 3

abbrev pub share_of : ℕ → Share
share_of zero = Half
share_of (suc zero) = Quarter
share_of (suc (suc zero)) = Eighth
share_of (suc (suc (suc n))) = Sixteenth

pub share_back : (s : Share) → share_of (share_number s) ≡ s
share_back Half = refl
share_back Quarter = refl
share_back Eighth = refl
share_back Sixteenth = refl

abbrev pub share_code : Coded Share
share_code = code_by ℕ coded_ℕ share_number share_of share_back

abbrev pub lane_code : Coded RecvLane
lane_code =
    code_by (Assembled × (Option ℕ × (Option ℕ × (Option ℕ × (Bool × (ℕ × (ℕ × Share)))))))
    (coded× assembled_code (coded× (coded_option coded_ℕ) (coded× (coded_option coded_ℕ) (coded× (coded_option coded_ℕ) (coded× coded_bool (coded× coded_ℕ (coded× coded_ℕ share_code)))))))
    (λ l. (l.arrived, (l.final_size, (l.reset_code, (l.stop_code, (l.reader_done, (l.limit, (l.window, l.share))))))))
    (λ p. record { arrived = p.0; final_size = p.1.0; reset_code = p.1.1.0; stop_code = p.1.1.1.0; reader_done = p.1.1.1.1.0; limit = p.1.1.1.1.1.0; window = p.1.1.1.1.1.1.0; share = p.1.1.1.1.1.1.1 })
    (λ _. refl)
