-- Of laws.
-- What isn't filled in (RFC 9000, sections 2.3, 10.2, 12.3, 12.4 and 13.3).
use Rattle.std.specs.Prelude.{◌≡◌, ℕ, ◌+◌, true, false, List, [], ◌∷◌, Option, None, Some, Ok, Err}
use Rattle.qs_ranges.specs.Numbers.{MAX_VARINT}
use Rattle.qs_wire.specs.Layout.{stream}
use Rattle.qs_send.specs.declared.piece.Item.TheVariants.{MaxData}
use Rattle.qs_calls.specs.declared.closing.Closed.TheVariants.{ByPeer}
use Rattle.qs_calls.specs.declared.filling.Fill.{Fill}
use Rattle.qs_calls.specs.declared.filling.Filled.{Filled}
use Rattle.qs_calls.specs.declared.making.MakeFault.TheVariants as making
use Rattle.qs_machine.specs.Ends.{End}
use Rattle.qs_machine.specs.Seen.{Seen, Ack, Stream, Control, seen_all}
use Rattle.qs_machine.specs.Filling.{HasWanted, WantedGoes, IsFilled, FillStep}
use Rattle.qs_machine.specs.Examples.{standard, server}
use Rattle.qs_machine.specs.SmallEnds.{client_with, abc, begun, owing}
use Rattle.qs_machine.specs.ExclusionsMaking.{writer, two_due, two_writers}

-- all, control items alone, and bytes alone, from stream 0 on
abbrev pub everything : Fill
everything = record { items = true; streams = true; first = 0; alone = false; most_bytes = 1000 }

abbrev pub items_alone : Fill
items_alone = record everything { streams = false }

abbrev pub bytes_alone : Fill
bytes_alone = record everything { items = false }

-- two bytes at most, and none
abbrev pub two_bytes : Fill
two_bytes = record everything { most_bytes = 2 }

abbrev pub no_bytes : Fill
no_bytes = record everything { most_bytes = 0 }

-- that went in under token 0
abbrev pub filled_so : ℕ → Option ℕ → Filled
filled_so len last = record { token = record { epoch = 0; first = 0; number = 0 }; len = len; last_stream = last; more = false }

-- these frames aren't what is filled in
abbrev pub NotThese : End → Fill → List Seen → Type 0
NotThese old want frames = (filled : Filled) (text : List ℕ) (new : End) (is : IsFilled old want 1200 filled text new) → seen_all is.made.frames ≡ frames → ⊥

-- There isn't filled in
pub record NoSuchFrames : Type 0 where
  -- an ACK
  pub no_ack : NotThese owing everything (Ack 3 ((3, 3) ∷ (1, 1) ∷ []) ∷ [])
  -- a control item where bytes alone are asked for
  pub item : NotThese two_due bytes_alone (Control (MaxData 5000) ∷ [])
  -- bytes where control items alone are
  pub bytes : NotThese two_due items_alone (Stream 0 0 abc false ∷ [])
  -- bytes of another stream than the one that is asked for
  pub other : NotThese two_writers (record everything { first = 4; alone = true }) (Stream 0 0 abc false ∷ [])
  -- more bytes than the cap
  pub past_cap : NotThese writer two_bytes (Stream 0 0 abc false ∷ [])
  -- bytes of a lower stream first, where turns begin at the higher
  pub turns : NotThese two_writers (record everything { first = 4 }) (Stream 0 0 abc false ∷ [])

-- Where there is room nothing is left out that is asked for and may go: neither
pub record NothingWantedIsLeftOut : Type 0 where
  -- a control item
  pub item : (left : End) → HasWanted everything two_due (Stream 0 0 abc false ∷ []) left → ⊥
  -- nor bytes
  pub bytes : HasWanted bytes_alone writer [] writer → ⊥
  -- nor those that the cap lets in still
  pub below_cap : HasWanted (record bytes_alone { most_bytes = 1 }) writer [] writer → ⊥
  -- nor those of the one stream that is asked for
  pub alone : HasWanted (record bytes_alone { alone = true }) writer [] writer → ⊥

-- `fill` doesn't answer so
pub record NoSuchFill : Type 0 where
  -- with another token than the next number
  pub token : (filled : Filled) (text : List ℕ) (new : End) → FillStep writer everything 1200 (Ok (Some filled)) text new → filled.token.number ≡ 1 → ⊥
  -- with one of another end
  pub epoch : (filled : Filled) (text : List ℕ) (new : End) → FillStep writer everything 1200 (Ok (Some filled)) text new → filled.token.epoch ≡ 1 → ⊥
  -- with one that may be used again
  pub again : (filled : Filled) (text : List ℕ) (new : End) → FillStep writer everything 1200 (Ok (Some filled)) text new → new.next ≡ 0 → ⊥
  -- with another length than the text's
  pub len : (last : Option ℕ) (new : End) → FillStep writer everything 1200 (Ok (Some (filled_so 2 last))) (1 ∷ []) new → ⊥
  -- with a text that doesn't fit
  pub no_room : (filled : Filled) (new : End) → FillStep writer everything 0 (Ok (Some filled)) (1 ∷ []) new → ⊥
  -- with no last stream, where there is one
  pub no_last : (filled : Filled) (text : List ℕ) (new : End) (is : IsFilled writer everything 1200 filled text new) → is.made.frames ≡ stream 0 0 false abc ∷ [] → filled.last_stream ≡ None → ⊥
  -- with no more, where more may go
  pub no_more : (filled : Filled) (text : List ℕ) (new : End) → FillStep writer everything 1200 (Ok (Some filled)) text new → WantedGoes items_alone new → filled.more ≡ false → ⊥
  -- with more, where nothing may
  pub more : (filled : Filled) (text : List ℕ) (new : End) → FillStep writer everything 1200 (Ok (Some filled)) text new → (WantedGoes everything new → ⊥) → filled.more ≡ true → ⊥
  -- with more, where the cap alone holds bytes back
  pub cap_is_more : (filled : Filled) (text : List ℕ) (new : End) → FillStep writer (record no_bytes { items = false }) 1200 (Ok (Some filled)) text new → filled.more ≡ true → ⊥
  -- with nothing, where bytes may go and there are 25 bytes of room
  pub nothing : (text : List ℕ) (new : End) → FillStep writer bytes_alone 25 (Ok None) text new → ⊥
  -- with something once the end closed
  pub closed : (filled : Filled) (text : List ℕ) (new : End) → FillStep (record writer { closed = Some (ByPeer 0) }) everything 1200 (Ok (Some filled)) text new → ⊥
  -- nor once the last number was used
  pub exhausted : (filled : Filled) (text : List ℕ) (new : End) → FillStep (record writer { next = MAX_VARINT + 1 }) everything 1200 (Ok (Some filled)) text new → ⊥
  -- with the last number unused
  pub last_number : (new : End) → FillStep (record writer { next = MAX_VARINT }) everything 1200 (Err making.Exhausted) [] new → ⊥
  -- as closed while it is open
  pub not_closed : (new : End) → FillStep writer everything 1200 (Err making.Closed) [] new → ⊥
  -- with a number used up though nothing was filled in
  pub nothing_used : FillStep (client_with begun) everything 1200 (Ok None) [] (record (client_with begun) { next = 1 }) → ⊥
  -- nor where there was no memory
  pub memory_used : FillStep writer everything 1200 (Err making.NoMemory) [] (record writer { next = 1 }) → ⊥
  -- for want of memory where nothing is due
  pub nothing_due : (text : List ℕ) (new : End) → FillStep (server standard) everything 1200 (Err making.NoMemory) text new → ⊥
  -- nor where control items alone are asked for, of which none is due
  pub unasked : (text : List ℕ) (new : End) → FillStep (server standard) items_alone 1200 (Err making.NoMemory) text new → ⊥

pub record NotFilled : Type 0 where
  pub frames : NoSuchFrames
  pub left_out : NothingWantedIsLeftOut
  pub answers : NoSuchFill
