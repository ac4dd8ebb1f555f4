-- Of private contracts.
-- Which items of the connection itself were told.
use Rattle.std.specs.Prelude.{◌≡◌, ◌+◌, ◌≤◌, ◌<◌, ◌==◌, ℕ, Bool, false, if◌then◌else◌, List, [], ◌∷◌, Option, None, Some, ◌⊎◌, length, slice_index_or, slice_set, nat_lt}
use Rattle.qs_send.specs.Records.{IsCarried}
use Rattle.qs_send.specs.PieceCodes.{dir_number}
use Rattle.qs_send.specs.declared.piece.Item.{Item}
use Rattle.qs_send.specs.declared.piece.Item.TheVariants.{MaxData, MaxStreams, DataBlocked, StreamsBlocked}
use Rattle.qs_send.specs.declared.piece.Piece.{Piece}
use Rattle.qs_send.specs.declared.piece.Piece.TheVariants.{Data, Told}
use Rattle.qs_machine.specs.Acked.{HasAcked}
use Rattle.qs_conn.specs.declared.limits.Limits.{Limits}
use Rattle.qs_conn.specs.Due.{Packets, IsToldIn}

-- for each kind of item of the connection itself a value that may be kept
abbrev pub Kept : Type 0
Kept = List (Option ℕ)

-- the place of an item's kind; an item of a stream has none below 6
abbrev pub own_place : Item → ℕ
own_place (MaxData m) = 0
own_place (MaxStreams d m) = 1 + dir_number d
own_place (DataBlocked m) = 3
own_place (StreamsBlocked d m) = 4 + dir_number d
own_place _ = 6

-- its value
abbrev pub own_value : Item → ℕ
own_value (MaxData m) = m
own_value (MaxStreams d m) = m
own_value (DataBlocked m) = m
own_value (StreamsBlocked d m) = m
own_value _ = 0

-- the present value of a kind (RFC 9000, sections 4.1 and 4.6)
abbrev pub present_at : Limits → ℕ → ℕ
present_at t k = slice_index_or (t.granted ∷ t.granted_streams.bidi ∷ t.granted_streams.uni ∷ t.known_data ∷ t.known_streams.bidi ∷ t.known_streams.uni ∷ []) k 0

-- the value that is kept of a kind
abbrev pub kept_at : Kept → ℕ → Option ℕ
kept_at xs k = slice_index_or xs k None

abbrev pub is_value : Option ℕ → ℕ → Bool
is_value None v = false
is_value (Some k) v = k == v

-- whether an item's value is kept
abbrev pub has_own : Item → Kept → Bool
has_own i xs = if nat_lt (own_place i) 6 then is_value (kept_at xs (own_place i)) (own_value i) else false

-- what is kept once an item went into a packet
abbrev pub own_with : Item → Kept → Kept
own_with i xs = if nat_lt (own_place i) 6 then slice_set xs (own_place i) (Some (own_value i)) else xs

-- and once that is lost
abbrev pub own_without : Item → Kept → Kept
own_without i xs = if has_own i xs then slice_set xs (own_place i) None else xs

abbrev pub own_left : Piece → Kept → Kept
own_left (Data n c) xs = xs
own_left (Told i) xs = own_without i xs

-- a packet told an item: one in flight, a lost one that is kept, or one that was acknowledged
abbrev pub WasTold : Packets → Item → Type 0
WasTold p i = IsCarried p.out (Told i) ⊎ IsCarried p.lost (Told i) ⊎ HasAcked p.acked i

-- Of an item of the connection itself: what is kept and what packets told is the present value or a smaller one. If the present one is kept,
-- a packet told it that isn't lost; and if one in flight tells it, it is kept (RFC 9000, section 13.3).
pub record IsOwn (t : Limits) (p : Packets) (xs : Kept) (i : Item) : Type 0 where
  pub within : kept_at xs (own_place i) ≡ Some (own_value i) → own_value i ≤ present_at t (own_place i)
  pub below : WasTold p i → own_value i ≤ present_at t (own_place i)
  pub told : kept_at xs (own_place i) ≡ Some (own_value i) → own_value i ≡ present_at t (own_place i) → IsToldIn p i
  pub found : IsCarried p.out (Told i) → own_value i ≡ present_at t (own_place i) → kept_at xs (own_place i) ≡ Some (own_value i)

-- what is kept tells which present items of the connection itself were told
pub record AreOwn (t : Limits) (p : Packets) (xs : Kept) : Type 0 where
  pub places : length xs ≡ 6
  pub each : (i : Item) → own_place i < 6 → IsOwn t p xs i
