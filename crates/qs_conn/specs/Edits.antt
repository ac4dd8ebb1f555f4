-- Of private contracts.
-- One half is changed by a closure, among those of its type and among those of all streams.
use Rattle.std.specs.Prelude.{◌≡◌, ◌≤◌, ℕ, ◌⊎◌, List, Some, slice_set, ⊤}
use Rattle.std.specs.Borrow.{MutBor}
use Rattle.std.specs.Fn.{Once, FnOnceReturnsAtMut}
use Rattle.qs_ranges.specs.Numbers.{MAX_VARINT}
use Rattle.qs_send.specs.Lane.{Sending, after_allow, after_buffer, after_blocked}
use Rattle.qs_send.specs.Halves.{IsOver}
use Rattle.qs_send.specs.Sound.{IsLawful}
use Rattle.qs_machine.specs.Tables.{Tables, lookup, updated}
use Rattle.qs_conn.specs.declared.send_lanes.Setting.{Setting}
use Rattle.qs_conn.specs.declared.send_lanes.Setting.TheVariants as settings
use Rattle.qs_conn.specs.declared.send_marks.Moves.{Moves}
use Rattle.qs_conn.specs.Tasks.{Stays}

-- x, which stands at an index, became one that a change may leave of it
pub record IsEdited {X R : Type 0} (leaves : X → R → X → Type 0) (x : X) (old : List X) (i : ℕ) (r : R) (new : List X) : Type 0 where
  pub now : X
  pub left : leaves x r now
  pub is : new ≡ slice_set old i now

-- that of a stream did: it was changed by whatever function gives the one, and where that is x nothing changed
pub record IsEditedIn {X R : Type 0} (leaves : X → R → X → Type 0) (x : X) (old : Tables X) (n : ℕ) (r : R) (new : Tables X) : Type 0 where
  pub now : X
  pub left : leaves x r now
  pub there : lookup new n ≡ Some now
  pub is : (f : X → X) → now ≡ f x → new ≡ updated old n f (lookup old n)
  pub same : now ≡ x → new ≡ old

-- Of a sending half

-- a limit that is set is one that a frame can carry
abbrev pub MaySet : Setting → Type 0
MaySet (settings.Limit limit) = limit ≤ MAX_VARINT
MaySet setting = ⊤

-- the half once a value was set
abbrev pub after_set : Setting → Sending → Sending
after_set (settings.Limit limit) s = after_allow s limit
after_set (settings.Buffer size) s = after_buffer s size
after_set settings.Blocked s = after_blocked s

-- each call at a half that is lawful moves no more of it
abbrev pub LeavesStill : {F R : Type 0} → Once F (MutBor Sending × Unit {0}) (R × (MutBor Sending × Unit {0})) → F → Moves → Sending → Type 0
LeavesStill {F} {R} g f moves s = IsLawful s → (r : R) (now : Sending) → FnOnceReturnsAtMut g f s r now → Stays moves s now

-- what a half becomes: what the change may leave of it, or, if it is over, what it was, and what was given for that is the answer
abbrev pub OrStays : {R : Type 0} → (Sending → R → Sending → Type 0) → R → Sending → R → Sending → Type 0
OrStays leaves over s r now = leaves s r now ⊎ (IsOver s × (r ≡ over) × (now ≡ s))
