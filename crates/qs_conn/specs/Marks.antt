-- Of private contracts.
-- Which streams may have something to send or to tell: a mark for each index, and streams that have nothing.
use Rattle.std.specs.Prelude.{◌≡◌, ℕ, ◌+◌, ◌*◌, ◌/◌, ◌%◌, ◌≤◌, ◌<◌, ◌⊎◌, length, map, Bool, true, false, not, ◌&&◌, List, [], ◌∷◌, slice_index_or, slice_get, slice_set, Option, None, Some}
pub use Rattle.qs_ranges.specs.Bits.{IsBefore}
use Rattle.qs_machine.specs.Tables.{Tables, type_of, widened, lookup, open_to}
use Rattle.qs_machine.specs.Sums.{changed}
use Rattle.qs_send.specs.declared.piece.Item.{Item}
use Rattle.qs_conn.specs.declared.due.Slot.{Slot}
use Rattle.qs_machine.specs.Ends.{End}
use Rattle.qs_machine.specs.News.{IsHeld, IsEnded}
use Rattle.qs_machine.specs.Heard.{is_told}
use Rattle.qs_machine.specs.Due.{IsCurrent, IsCovered}
use Rattle.qs_conn.specs.Filling.{slot_of, IsCurrentIn}

-- whether an index is marked
abbrev pub is_marked : List Bool → ℕ → Bool
is_marked marks i = slice_index_or marks i false

-- a half has no mark
abbrev pub IsUnmarked : Bool → Type 0
IsUnmarked b = b ≡ false

-- no index has a mark
abbrev pub IsClear : List Bool → Type 0
IsClear marks = (i : ℕ) → is_marked marks i ≡ false

-- the indexes that are marked in both lists
abbrev pub both : List Bool → List Bool → List Bool
both [] others = []
both (m ∷ marks) [] = []
both (m ∷ marks) (o ∷ others) = (m && o) ∷ both marks others

-- the indexes that are marked, without those that were told: a shorter list of these tells of no more
abbrev pub untold : List Bool → List Bool → List Bool
untold [] told = []
untold (m ∷ marks) [] = m ∷ marks
untold (m ∷ marks) (t ∷ told) = (m && not t) ∷ untold marks told

-- an index is marked, with all up to it there, and nothing else changes
abbrev pub IsMarkedBeside : ℕ → List Bool → List Bool → Type 0
IsMarkedBeside n old new = new ≡ slice_set (widened old (n + 1) (λ i. false)) n true

-- an index isn't marked any more, where it is there, and nothing else changes
abbrev pub IsUnmarkedBeside : ℕ → List Bool → List Bool → Type 0
IsUnmarkedBeside n old new = new ≡ changed old n (λ mark. false) (slice_get old n)

-- the last of the 64 streams of its type whose marks stand beside that of one
abbrev pub last_beside : ℕ → ℕ
last_beside n = n / 256 * 256 + 252 + n % 4

-- there is a place for each stream up to that one
abbrev pub places : ℕ → Tables Bool → Tables Bool
places n t = open_to t (last_beside n) (λ k. false)

-- no stream has a mark
abbrev pub AreClear : Tables Bool → Type 0
AreClear t = (n : ℕ) (b : Bool) → lookup t n ≡ Some b → b ≡ false

-- there is room for the marks of so many parts, in whole blocks
abbrev pub HasRoom : ℕ → List Bool → Type 0
HasRoom n marks = (n + 63) / 64 * 64 ≤ length marks

-- The marks tell which parts pass a test, and past the parts there is none.
pub record AreMarksFor {X : Type 0} (p : X → Bool) (xs : List X) (marks : List Bool) : Type 0 where
  pub tell : (i : ℕ) → is_marked marks i ≡ is_marked (map p xs) i
  pub room : HasRoom (length xs) marks

-- more indexes, and no mark more
pub record IsWider (old new : List Bool) : Type 0 where
  pub same : (i : ℕ) → is_marked new i ≡ is_marked old i
  pub longer : length old ≤ length new

-- the marks from an index on are taken away
pub record IsClearedFrom (n : ℕ) (old new : List Bool) : Type 0 where
  pub len : length new ≡ length old
  pub kept : (i : ℕ) → i < n → is_marked new i ≡ is_marked old i
  pub none : (i : ℕ) → n ≤ i → is_marked new i ≡ false

-- a stream of a type has its index marked
abbrev pub IsMarkedOf : List Bool → ℕ → ℕ → Type 0
IsMarkedOf marks kind n = (type_of n ≡ kind) × (is_marked marks (n / 4) ≡ true)

-- the least marked index from an index on
pub record IsNextMark (marks : List Bool) (from : ℕ) (answer : Option ℕ) : Type 0 where
  pub found : (n : ℕ) → answer ≡ Some n → (from ≤ n) × (is_marked marks n ≡ true)
  pub unmarked : (i : ℕ) → from ≤ i → IsBefore i answer → is_marked marks i ≡ false

-- a stream has the property, and an owner wasn't told of it
abbrev pub IsUntold : (ℕ → Type 0) → Tables Bool → ℕ → Type 0
IsUntold P told n = P n × (is_told told n ≡ false)

-- such a stream of a type
abbrev pub IsUntoldOf : (ℕ → Type 0) → Tables Bool → ℕ → ℕ → Type 0
IsUntoldOf P told kind n = (type_of n ≡ kind) × IsUntold P told n

-- a stream of a type is open, and what is kept of it has the property
abbrev pub IsHeldOf : {X : Type 0} → (X → Type 0) → Tables X → ℕ → ℕ → Type 0
IsHeldOf {X} P t kind n = (type_of n ≡ kind) × IsHeld P t n

-- whether there is something that passes a test
abbrev pub one_has : {X : Type 0} → (X → Bool) → Option X → Bool
one_has p None = false
one_has p (Some x) = p x

-- the marks of a type tell of which streams what is kept passes a test
abbrev pub TellWhich : {X : Type 0} → (X → Bool) → Tables X → ℕ → List Bool → Type 0
TellWhich p t kind marks = (n : ℕ) → type_of n ≡ kind → is_marked marks (n / 4) ≡ one_has p (lookup t n)

-- the marks of a type tell which streams are over
abbrev pub AreEndsMarked : End → ℕ → List Bool → Type 0
AreEndsMarked e kind marks = (n : ℕ) → type_of n ≡ kind → (is_marked marks (n / 4) ≡ true → IsEnded e n) × (IsEnded e n → is_marked marks (n / 4) ≡ true)

-- no index of a word of 64 is marked
abbrev pub HasNoMark : List Bool → ℕ → Type 0
HasNoMark marks word = (i : ℕ) → i / 64 ≡ word → is_marked marks i ≡ false

-- no index from one on is marked
abbrev pub AreUnmarkedFrom : List Bool → ℕ → Type 0
AreUnmarkedFrom marks past = (i : ℕ) → past ≤ i → is_marked marks i ≡ false

-- each index below one is marked
abbrev pub AreMarkedBelow : List Bool → ℕ → Type 0
AreMarkedBelow marks first = (i : ℕ) → i < first → is_marked marks i ≡ true

-- each index of a word of 64 is marked
abbrev pub HasAllMarks : List Bool → ℕ → Type 0
HasAllMarks marks word = (i : ℕ) → i / 64 ≡ word → is_marked marks i ≡ true

-- how many indexes are marked
abbrev pub count_marked : List Bool → ℕ
count_marked [] = 0
count_marked (true ∷ marks) = count_marked marks + 1
count_marked (false ∷ marks) = count_marked marks

-- There is a flag for each word of marks, and a word without one has no mark.
pub record AreSummed (marks words : List Bool) : Type 0 where
  pub room : length marks ≤ 64 * length words
  pub none : (word : ℕ) → is_marked words word ≡ false → HasNoMark marks word

-- There is a flag for each word of marks, and of a word with one each index is marked.
pub record AreFull (marks full : List Bool) : Type 0 where
  pub room : length marks ≤ 64 * length full
  pub all : (word : ℕ) → is_marked full word ≡ true → HasAllMarks marks word

-- what is current of the slot was told already
abbrev pub IsIdle : End → Slot → Type 0
IsIdle e slot = (i : Item) → slot_of i ≡ slot → IsCurrent e i → IsCovered e i

-- of the slots of the second sort that aren't of the first, all that is current was told
abbrev pub AddsIdle : End → (P Q : Slot → Type 0) → Type 0
AddsIdle e P Q = (s : Slot) → Q s → P s ⊎ IsIdle e s

-- what of the slot is due: its current item, where that wasn't told already; or there is none
abbrev pub IsDueIn : End → Slot → Option Item → Type 0
IsDueIn e slot None = IsIdle e slot
IsDueIn e slot (Some i) = IsCurrentIn e slot (Some i) × (IsCovered e i → ⊥)
