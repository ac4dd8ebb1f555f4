-- Trusted.
-- How an end keeps which control items were acknowledged, and with which value (RFC 9000, section 13.3, for the whole file). What counts is
-- whether the present value of an item was. No value falls, so that value is known to be acknowledged just if it is the greatest one
-- that was; all other definitions go by `HasAcked` and `with_item` alone.
use Rattle.std.specs.Prelude.{◌≡◌, ℕ, max, true, Option, None, Some}
use Rattle.std.specs.Ordering.{nat_cmp}
use Rattle.std.specs.FinMap as fmap
use Rattle.std.specs.FinSet as set
use Rattle.qs_ranges.specs.Numbers.{NumberSet}
use Rattle.qs_wire.specs.declared.stream_id.Dir.TheVariants.{Bidi, Uni}
use Rattle.qs_send.specs.declared.piece.Item.{Item}
use Rattle.qs_send.specs.declared.piece.Item.TheVariants.{MaxData, MaxStreamData, MaxStreams, ResetStream, StopSending, DataBlocked, StreamDataBlocked, StreamsBlocked}

-- the greatest value acknowledged of each control item that was; of a RESET_STREAM the sending lane tells it
pub record AckedItems : Type 0 where
  pub max_data : Option ℕ
  -- by stream
  pub max_stream_data : fmap.FinMap nat_cmp ℕ
  -- the streams of which a STOP_SENDING was acknowledged
  pub stop_sending : NumberSet
  pub data_blocked : Option ℕ
  -- by stream
  pub stream_data_blocked : fmap.FinMap nat_cmp ℕ
  pub bidi_blocked : Option ℕ
  pub uni_blocked : Option ℕ
  pub bidi_streams : Option ℕ
  pub uni_streams : Option ℕ

-- no item was acknowledged
abbrev pub no_items : AckedItems
no_items =
    record { max_data = None; max_stream_data = fmap.empty; stop_sending = set.empty; data_blocked = None; stream_data_blocked = fmap.empty; bidi_blocked = None; uni_blocked = None; bidi_streams = None; uni_streams = None }

abbrev pub greatest : Option ℕ → ℕ → Option ℕ
greatest None value = Some value
greatest (Some known) value = Some (max known value)

abbrev pub or_zero : Option ℕ → ℕ
or_zero None = 0
or_zero (Some known) = known

-- the value of a stream where it is greater than the one known
abbrev pub greatest_of : fmap.FinMap nat_cmp ℕ → ℕ → ℕ → fmap.FinMap nat_cmp ℕ
greatest_of values n value = fmap.insert values n (max (or_zero (fmap.get values n)) value)

-- what is kept once an item was acknowledged with this value
abbrev pub with_item : Item → AckedItems → AckedItems
with_item (MaxData m) a = record a { max_data = greatest a.max_data m }
with_item (MaxStreamData n m) a = record a { max_stream_data = greatest_of a.max_stream_data n m }
with_item (MaxStreams Bidi m) a = record a { bidi_streams = greatest a.bidi_streams m }
with_item (MaxStreams Uni m) a = record a { uni_streams = greatest a.uni_streams m }
with_item (ResetStream n code size) a = a
with_item (StopSending n code) a = record a { stop_sending = set.insert a.stop_sending n }
with_item (DataBlocked m) a = record a { data_blocked = greatest a.data_blocked m }
with_item (StreamDataBlocked n m) a = record a { stream_data_blocked = greatest_of a.stream_data_blocked n m }
with_item (StreamsBlocked Bidi m) a = record a { bidi_blocked = greatest a.bidi_blocked m }
with_item (StreamsBlocked Uni m) a = record a { uni_blocked = greatest a.uni_blocked m }

-- The item was acknowledged with this value, and with no greater one. A stop keeps its code; of a RESET_STREAM nothing is kept here.
abbrev pub HasAcked : AckedItems → Item → Type 0
HasAcked a (MaxData m) = a.max_data ≡ Some m
HasAcked a (MaxStreamData n m) = fmap.get a.max_stream_data n ≡ Some m
HasAcked a (MaxStreams Bidi m) = a.bidi_streams ≡ Some m
HasAcked a (MaxStreams Uni m) = a.uni_streams ≡ Some m
HasAcked a (ResetStream n code size) = ⊥
HasAcked a (StopSending n code) = set.contains a.stop_sending n ≡ true
HasAcked a (DataBlocked m) = a.data_blocked ≡ Some m
HasAcked a (StreamDataBlocked n m) = fmap.get a.stream_data_blocked n ≡ Some m
HasAcked a (StreamsBlocked Bidi m) = a.bidi_blocked ≡ Some m
HasAcked a (StreamsBlocked Uni m) = a.uni_blocked ≡ Some m
