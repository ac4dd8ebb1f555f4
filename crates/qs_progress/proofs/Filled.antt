-- What windows are filled: it grows with what is sent, by one at least where more than a width is.
use Rattle.std.proofs.Common.{◌≡◌, ℕ, zero, suc, ◌+◌, ◌-◌, ◌*◌, ◌/◌, ◌<◌, ◌≤◌, sum_by, arith, inl, inr}
use Rattle.std.specs.List.{range_with_len}
use Rattle.std.proofs.lemmas.Bool.{cases_lt}
use Rattle.std.proofs.lemmas.List.Sums.{sum_by-cons}
use Rattle.std.proofs.lemmas.Nat.{le-div, div_below}
use Rattle.qs_machine.specs.Ends.{End}
use Rattle.qs_machine.specs.Credit.{all_sent}
use Rattle.qs_progress.specs.Windows.{Widths, sent_on, senders, filled}
use Rattle.qs_progress.proofs.Sums.{sum_grows}

-- so many whole parts are no more than there is
whole_parts : (a k : ℕ) → a / suc k * suc k ≤ a
whole_parts a k = elim (cases_lt a (a / suc k * suc k)) [
  | inl lt ↦ (let less : a / suc k < a / suc k = div_below a (suc k) (a / suc k) (omega arith) lt in absurd (omega (arith, less)))
  | inr le ↦ le
]

pub parts_grow : (a b k : ℕ) → a ≤ b → a / suc k ≤ b / suc k
parts_grow a b k le = le-div (a / suc k) b (suc k) (omega arith) (let whole = whole_parts a k in omega (arith, le, whole))

pub parts_more : (a b k : ℕ) → a + suc k ≤ b → a / suc k + 1 ≤ b / suc k
parts_more a b k le =
    let whole : a / suc k * suc k ≤ a = whole_parts a k in
    le-div (a / suc k + 1) b (suc k) (omega arith) (one_more (a / suc k) (suc k) b (omega (arith, le, whole)))
  where
    one_more : (q d b : ℕ) → q * d + d ≤ b → (q + 1) * d ≤ b
    one_more q d b le = omega (arith, le)

-- one part of a sum grows
sum_more : (f g : ℕ → ℕ) (lo m n : ℕ) → ((i : ℕ) → f i ≤ g i) → lo ≤ n → n < lo + m → f n + 1 ≤ g n → sum_by f (range_with_len lo m) + 1 ≤ sum_by g (range_with_len lo m)
sum_more f g lo zero n each low high more = absurd (omega (arith, low, high))
sum_more f g lo (suc m) n each low high more =
    rw (sum_by-cons f lo (range_with_len (lo + 1) m), sum_by-cons g lo (range_with_len (lo + 1) m))
    (elim (cases_lt lo n) [
      | inl lt ↦ omega (arith, each lo, sum_more f g (lo + 1) m n each (omega (arith, lt)) (omega (arith, high)) more)
      | inr ge ↦ (let same : n ≡ lo = omega (arith, ge, low) in let here : f lo + 1 ≤ g lo = rw same at more in omega (arith, here, sum_grows f g (lo + 1) m m (omega arith) each))
    ])

-- what was sent of streams below a number
abbrev pub filled_to : Widths → End → ℕ → End → ℕ
filled_to k old count e =
    (all_sent e - all_sent old) / suc k.conn
    + sum_by (λ n. (sent_on e n - sent_on old n) / suc (k.streams n)) (range_with_len 0 count)

-- an end sent no less than another one
pub record SentMore (e f : End) : Type 0 where
  pub all : all_sent e ≤ all_sent f
  pub each : (n : ℕ) → sent_on e n ≤ sent_on f n

module _ (k : Widths) (old : End) (count : ℕ) (e f : End) (more : SentMore e f) where
  conn_grows : (all_sent e - all_sent old) / suc k.conn ≤ (all_sent f - all_sent old) / suc k.conn
  conn_grows = parts_grow (all_sent e - all_sent old) (all_sent f - all_sent old) k.conn (let all = more.all in omega (arith, all))

  stream_grows : (n : ℕ) → (sent_on e n - sent_on old n) / suc (k.streams n) ≤ (sent_on f n - sent_on old n) / suc (k.streams n)
  stream_grows n = parts_grow (sent_on e n - sent_on old n) (sent_on f n - sent_on old n) (k.streams n) (let each = more.each n in omega (arith, each))

  streams_grow : sum_by (λ n. (sent_on e n - sent_on old n) / suc (k.streams n)) (range_with_len 0 count) ≤ sum_by (λ n. (sent_on f n - sent_on old n) / suc (k.streams n)) (range_with_len 0 count)
  streams_grow = sum_grows (λ n. (sent_on e n - sent_on old n) / suc (k.streams n)) (λ n. (sent_on f n - sent_on old n) / suc (k.streams n)) 0 count count (omega arith) stream_grows

  pub filled_grows : filled_to k old count e ≤ filled_to k old count f
  filled_grows = (let conn = conn_grows in let streams = streams_grow in omega (arith, conn, streams))

  -- by one at least, where more than a width was sent
  pub conn_fills : all_sent old ≤ all_sent e → all_sent e + suc k.conn ≤ all_sent f → filled_to k old count e + 1 ≤ filled_to k old count f
  conn_fills low fills =
      let conn = parts_more (all_sent e - all_sent old) (all_sent f - all_sent old) k.conn (omega (arith, low, fills)) in
      let streams = streams_grow in
      omega (arith, conn, streams)

  pub stream_fills : (n : ℕ) → n < count → sent_on old n ≤ sent_on e n → sent_on e n + suc (k.streams n) ≤ sent_on f n → filled_to k old count e + 1 ≤ filled_to k old count f
  stream_fills n lt low fills =
      let conn = conn_grows in
      let streams =
      sum_more (λ n. (sent_on e n - sent_on old n) / suc (k.streams n)) (λ n. (sent_on f n - sent_on old n) / suc (k.streams n)) 0 count n stream_grows (omega arith) (omega (arith, lt))
      (parts_more (sent_on e n - sent_on old n) (sent_on f n - sent_on old n) (k.streams n) (omega (arith, low, fills))) in
      omega (arith, conn, streams)

-- and from later to sooner no more is filled than from sooner to later
pub filled_within : (k : Widths) (old first e f : End) → SentMore old first → SentMore e f → senders e ≤ senders f → filled k first e ≤ filled k old f
filled_within k old first e f low high count =
    let conn = parts_grow (all_sent e - all_sent first) (all_sent f - all_sent old) k.conn (let sooner = low.all in let later = high.all in omega (arith, sooner, later)) in
    let streams =
    sum_grows (λ n. (sent_on e n - sent_on first n) / suc (k.streams n)) (λ n. (sent_on f n - sent_on old n) / suc (k.streams n)) 0 (4 * senders e) (4 * senders f) (omega (arith, count))
    (λ n. parts_grow (sent_on e n - sent_on first n) (sent_on f n - sent_on old n) (k.streams n) (let sooner = low.each n in let later = high.each n in omega (arith, sooner, later))) in
    omega (arith, conn, streams)
