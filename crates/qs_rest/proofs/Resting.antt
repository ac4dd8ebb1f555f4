-- At rest all that is to be told is known at the peer, and so is each limit.
use Rattle.std.proofs.Common.{◌≡◌, ℕ, ◌≤◌, Bool, true, false, not, if◌then◌else◌, Some, None, refl, sym, ap, ◌∙◌, arith, inl, inr}
use Rattle.std.proofs.lemmas.Option.{same_Some}
use Rattle.std.proofs.lemmas.Bool.{cases_lt}
use Rattle.qs_wire.specs.declared.stream_id.Dir.{Dir}
use Rattle.qs_wire.specs.declared.stream_id.Dir.TheVariants.{Bidi, Uni}
use Rattle.qs_recv.specs.Lane.{RecvLane}
use Rattle.qs_send.specs.Lane.{SendLane}
use Rattle.qs_send.specs.declared.piece.Item.{Item}
use Rattle.qs_send.specs.declared.piece.Item.TheVariants.{MaxData, MaxStreamData, MaxStreams, DataBlocked, StreamsBlocked}
use Rattle.qs_send.specs.declared.piece.Piece.TheVariants.{Told}
use Rattle.qs_calls.specs.declared.settings.Settings.{Settings}
use Rattle.qs_calls.specs.declared.event.Side.{Side}
use Rattle.qs_calls.specs.declared.event.Side.TheVariants.{A, B}
use Rattle.qs_machine.specs.Ends.{End, first_send_limit, first_window, is_uni, is_own}
use Rattle.qs_machine.specs.Credit.{granted_streams}
use Rattle.qs_machine.specs.Due.{known_count}
use Rattle.qs_machine.specs.Seen.{Control}
use Rattle.qs_machine.proofs.Pieces.{All_at}
use Rattle.qs_runs.specs.Logs.{History, other}
use Rattle.qs_runs.specs.Worlds.{World, end_of}
use Rattle.qs_runs.specs.Pasts.{past}
use Rattle.qs_runs.specs.Clauses.{sending, receiving}
use Rattle.qs_runs.specs.Invariant.{WorldOk}
use Rattle.qs_runs.proofs.Histories.{confirmed_taken}
use Rattle.qs_runs.proofs.Runs.{run_keeps, opposite, known_counts}
use Rattle.qs_runs.proofs.Clauses.{known_is_within_granted}
use Rattle.qs_rest.specs.Invariant.{WasTold, ItemTaken, RestOk}
use Rattle.qs_rest.specs.Rest.{AtRest}
use Rattle.qs_rest.specs.Resting.{ItemsAreAcked, ToldIsTaken, AtEachRest, OnceLimitsKnown, KnowsFirstLimits, KnowsItsLimits}
use Rattle.qs_rest.proofs.ItemParts.{item_part}
use Rattle.qs_rest.proofs.Runs.{every_run_keeps}

limit_by : (u b : Bool) (x y z : ℕ) → (if u then x else (if not b then y else z)) ≡ (if u then x else (if b then z else y))
limit_by false true x y z = refl
limit_by _ b x y z = refl

pub items_acked : ItemsAreAcked
items_acked e i rest current =
    elim (item_part e i current) [
      | inl flies ↦ absurd (rest.none_out (Told i) flies)
      | inr down ↦ elim down [ inl acked ↦ acked | inr due ↦ absurd (rest.quiet (inl (i, due))) ]
    ]

module _ (a b : Settings) (h : History) (w : World) (ok : WorldOk a b h w) (keeps : (s : Side) → RestOk (past s h) (end_of w s)) where
  -- what was told in a packet that was confirmed took effect
  pub taken : (s : Side) (i : Item) → WasTold (past s h) i → ItemTaken (end_of w (other s)) (Control i)
  taken s (DataBlocked m) told = tt
  taken s (StreamsBlocked d m) told = tt
  taken s i (k, holds, confirmed) = All_at (ItemTaken (end_of w (other s))) (past (other s) h).taken (Control i) (keeps (other s)).taken (confirmed_taken a b h w ok s k (Control i) holds confirmed refl)

  -- and what the other side told
  pub taken_here : (s : Side) (i : Item) → WasTold (past (other s) h) i → ItemTaken (end_of w s) (Control i)
  taken_here A i told = taken B i told
  taken_here B i told = taken A i told

  module _ (rest : (s : Side) → AtRest (end_of w s)) (s : Side) (told : KnowsFirstLimits w s) where
    abbrev here : End
    here = end_of w s

    abbrev there : End
    there = end_of w (other s)

    -- the first limit of each half is the window of the other
    first_limit : (n : ℕ) → first_send_limit here n ≡ first_window there n
    first_limit n = rw (told, opposite a b h w ok s n) (limit_by (is_uni n) (is_own there n) there.settings.uni there.settings.bidi_remote there.settings.bidi_local)

    pub window_known : (n : ℕ) → first_window there n ≤ first_send_limit here n
    window_known n = omega (arith, first_limit n)

    data_known : there.granted ≤ here.known_data
    data_known =
        elim (cases_lt there.settings.conn_window there.granted) [
          | inl more ↦ taken_here s (MaxData there.granted) ((keeps (other s)).acked.conn there.granted (items_acked there (MaxData there.granted) (rest (other s)) (refl, more)))
          | inr first ↦ (let limit = ap (λ x. x.max_data) told in omega (arith, first, limit, (keeps s).conn))
        ]

    stream_known : (n : ℕ) (l : SendLane) (r : RecvLane) → sending w s n ≡ Some l → receiving w s n ≡ Some r → r.final_size ≡ None → r.limit ≤ l.limit
    stream_known n l r at is open_end =
        elim (cases_lt (first_window there n) r.limit) [
          | inl more ↦ (
              let acked = items_acked there (MaxStreamData n r.limit) (rest (other s)) (r, is, refl, more, open_end) in
              let (m, found, le) = taken_here s (MaxStreamData n r.limit) ((keeps (other s)).acked.streams n r.limit acked) in
              let same : m ≡ l = same_Some m l (sym found ∙ at) in
              rw same at le)
          | inr first ↦ omega (arith, first, window_known n, ((keeps s).sends n l at).first_limit)
        ]

    bidi_known : there.granted_bidi ≤ here.known_bidi
    bidi_known =
        elim (cases_lt there.settings.grant_bidi there.granted_bidi) [
          | inl more ↦ taken_here s (MaxStreams Bidi there.granted_bidi) ((keeps (other s)).acked.bidi there.granted_bidi (items_acked there (MaxStreams Bidi there.granted_bidi) (rest (other s)) (refl, more)))
          | inr first ↦ (let count = ap (λ x. x.streams_bidi) told in omega (arith, first, count, (keeps s).bidi))
        ]

    uni_known : there.granted_uni ≤ here.known_uni
    uni_known =
        elim (cases_lt there.settings.grant_uni there.granted_uni) [
          | inl more ↦ taken_here s (MaxStreams Uni there.granted_uni) ((keeps (other s)).acked.uni there.granted_uni (items_acked there (MaxStreams Uni there.granted_uni) (rest (other s)) (refl, more)))
          | inr first ↦ (let count = ap (λ x. x.streams_uni) told in omega (arith, first, count, (keeps s).uni))
        ]

    counts_known : (d : Dir) → known_count here d ≡ granted_streams there d
    counts_known Bidi = omega (arith, bidi_known, (known_counts a b h w ok s).0)
    counts_known Uni = omega (arith, uni_known, (known_counts a b h w ok s).1)

    pub limits_known : KnowsItsLimits h w s
    limits_known =
        record {
          connection = omega (arith, data_known, (known_is_within_granted a b h w ok s).connection);
          streams = λ n l r at is open_end. omega (arith, stream_known n l r at is open_end, (known_is_within_granted a b h w ok s).streams n l r at is);
          counts = counts_known;
          settled = (keeps (other s)).counts;
        }

pub told_taken : ToldIsTaken
told_taken a b h w run s i told = taken a b h w (run_keeps a b h w run) (every_run_keeps a b h w run) s i told

pub each_limit_known : AtEachRest (OnceLimitsKnown KnowsItsLimits)
each_limit_known a b h w run rest s told = limits_known a b h w (run_keeps a b h w run) (every_run_keeps a b h w run) rest s told
