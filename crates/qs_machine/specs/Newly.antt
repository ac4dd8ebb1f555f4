-- Of public contracts.
-- Which of an end's outstanding packets a payload acknowledges.
use Rattle.std.specs.Prelude.{ℕ, not, List, [], ◌∷◌, ◌++◌, reverse}
use Rattle.std.specs.List.{filter}
use Rattle.std.specs.FinMap as fmap
use Rattle.qs_wire.specs.Grammar.{frames_of}
use Rattle.qs_wire.specs.Reading.{reading_of}
use Rattle.qs_machine.specs.Ends.{End}
use Rattle.qs_machine.specs.Seen.{Seen, Ack, Stream, Control, Close, Plain, seen_all}
use Rattle.qs_machine.specs.FrameStep.{is_named}

-- the packets that were outstanding and aren't any more (RFC 9000, section 13.3)
abbrev pub gone : End → End → List ℕ
gone old new = filter (λ n. not (fmap.contains_key new.outstanding n)) (fmap.keys old.outstanding)

-- Of these packets those that ACKs among the frames name, each once, as far as the first CONNECTION_CLOSE: first those of the first ACK, from
-- the highest number down, and then those of the next one that are left (RFC 9000, sections 10.2, 13.3 and 19.3).
abbrev pub in_turn : List Seen → List ℕ → List ℕ
in_turn [] ns = []
in_turn (Ack largest ranges ∷ fs) ns = reverse (filter (is_named ranges) ns) ++ in_turn fs (filter (λ n. not (is_named ranges n)) ns)
in_turn (Stream stream offset bytes fin ∷ fs) ns = in_turn fs ns
in_turn (Control item ∷ fs) ns = in_turn fs ns
in_turn (Close code ∷ fs) ns = []
in_turn (Plain asks ∷ fs) ns = in_turn fs ns

-- the packets that `receive` of a payload newly acknowledged, in turn (RFC 9000, sections 12.4 and 13.3)
abbrev pub newly_acked : End → List ℕ → End → List ℕ
newly_acked old payload new = in_turn (seen_all (frames_of (reading_of payload).left)) (gone old new)
