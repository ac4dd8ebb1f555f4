-- What holds of each kind of control item holds of each item.
use Rattle.std.proofs.Common.{ℕ}
use Rattle.qs_wire.specs.declared.stream_id.Dir.{Dir}
use Rattle.qs_send.specs.declared.piece.Item.{Item}
use Rattle.qs_send.specs.declared.piece.Item.TheVariants.{MaxData, MaxStreamData, MaxStreams, ResetStream, StopSending, DataBlocked, StreamDataBlocked, StreamsBlocked}

pub each_item : (P : Item → Type 0) → ((m : ℕ) → P (MaxData m)) → ((n m : ℕ) → P (MaxStreamData n m)) → ((d : Dir) (m : ℕ) → P (MaxStreams d m)) → ((n code size : ℕ) → P (ResetStream n code size)) → ((n code : ℕ) → P (StopSending n code))
    → ((m : ℕ) → P (DataBlocked m)) → ((n m : ℕ) → P (StreamDataBlocked n m)) → ((d : Dir) (m : ℕ) → P (StreamsBlocked d m)) → (i : Item) → P i
each_item P a b c d e f g h (MaxData m) = a m
each_item P a b c d e f g h (MaxStreamData n m) = b n m
each_item P a b c d e f g h (MaxStreams k m) = c k m
each_item P a b c d e f g h (ResetStream n code size) = d n code size
each_item P a b c d e f g h (StopSending n code) = e n code
each_item P a b c d e f g h (DataBlocked m) = f m
each_item P a b c d e f g h (StreamDataBlocked n m) = g n m
each_item P a b c d e f g h (StreamsBlocked k m) = h k m
