-- Of private contracts.
-- Bytes that stand apart from a ring, in pages.
--     PAGE, Pages      a page, and those in use, by number: an offset's page has the offset divided by a page's bytes as its number
--     in_page, page_byte      the byte of an offset
--     has_page      whether an offset's page is in use
--     AreWhole      each page has its bytes
--     IsFilledApart      what the pages have after bytes were written
--     moved_byte      what a ring has once pages were moved into it
use Rattle.std.specs.Prelude.{◌≡◌, ℕ, ◌-◌, ◌/◌, ◌%◌, Bool, not, ◌&&◌, if◌then◌else◌, nat_lt, List, length, slice_index, Option, None, Some, is_some}
use Rattle.std.specs.Ordering.{nat_cmp}
use Rattle.std.specs.Global.{Vec}
use Rattle.std.specs.BTreeMap as tree
use Rattle.std.specs.BTreeMap.{BTreeMap}
use Rattle.std.specs.FinSet as set
use Rattle.qs_ranges.specs.Numbers.{NumberSet, is_within}

-- a page has the bytes of so many offsets
abbrev pub PAGE : ℕ
PAGE = 2048

-- the pages that are in use
abbrev pub Pages : Type 0
Pages = BTreeMap ℕ (Vec ℕ)

-- whether a page is in use
abbrev pub is_used : Pages → ℕ → Bool
is_used pages n = is_some (tree.get nat_cmp pages n)

-- whether the page of an offset is
abbrev pub has_page : Pages → ℕ → Bool
has_page pages q = is_used pages (q / PAGE)

-- what a page has at a place: zeros where it isn't in use
abbrev pub in_page : Option (Vec ℕ) → ℕ → ℕ
in_page None place = 0
in_page (Some page) place = slice_index page.items place

-- the byte of an offset
abbrev pub page_byte : Pages → ℕ → ℕ
page_byte pages q = in_page (tree.get nat_cmp pages (q / PAGE)) (q % PAGE)

-- each page has its bytes
abbrev pub AreWhole : Pages → Type 0
AreWhole pages = (n : ℕ) (page : Vec ℕ) → tree.get nat_cmp pages n ≡ Some page → length page.items ≡ PAGE

-- what stands at the place of an offset once the pages past that of `from` were moved there
abbrev pub moved_byte : Pages → ℕ → ℕ → ℕ → ℕ
moved_byte pages from q was = if nat_lt (from / PAGE) (q / PAGE) && has_page pages q then page_byte pages q else was

-- the offsets from `first` on and below `end` that didn't come have the bytes from `offset` on, and others what they had
abbrev pub IsFilledApart : NumberSet → ℕ → ℕ → ℕ → List ℕ → Pages → Pages → Type 0
IsFilledApart received first end offset bytes old new =
    (q : ℕ) → page_byte new q ≡ (if is_within first end q && not (set.contains received q) then slice_index bytes (q - offset) else page_byte old q)
