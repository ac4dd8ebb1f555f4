-- The readers of a history compute, and a PING may come alone.
use Rattle.std.proofs.lemmas.Bool.Decides.{nat_tests}
use Rattle.std.proofs.Common.{arith}
use Rattle.std.proofs.Common.{ℕ, List, Ok, refl, sym, subst}
use Rattle.std.proofs.lemmas.Bool.{false≢true}
use Rattle.qs_wire.specs.Layout.{ping}
use Rattle.qs_calls.specs.declared.token.Taken.TheVariants.{NotOurs}
use Rattle.qs_recv.specs.declared.half.Peek.{Peek as Peeked}
use Rattle.qs_recv.specs.declared.half.Peek.TheVariants as kinds
use Rattle.qs_machine.specs.Alone.{TakeBy}
use Rattle.qs_runs.specs.Logs.{effects}
use Rattle.qs_runs.specs.Worlds.{end_of}
use Rattle.qs_runs.specs.Examples.{StoryIsRead, BytesAreRead, LooksAreShown, EndsAreTold, BreaksAreTold, PacketsAreRead, TokensAreRead, PingComesAlone, Examples}

story : (text : List ℕ) → StoryIsRead text
unfolding effects
story text =
    record {
      written_there = refl;
      not_here = refl;
      not_on_another = refl;
      read_here = refl;
      not_there = refl;
      made_there = refl;
      by_number = refl;
      no_other = refl;
      processed_here = refl;
      processed_once = refl;
      processed_not_there = refl;
      whole = refl;
      not_whole_there = refl;
      not_another_whole = refl;
    }

bytes : BytesAreRead
unfolding effects
bytes = grind (arith, nat_tests)

looks : (peek : Peeked) → LooksAreShown peek
unfolding effects
looks (kinds.Bytes front back) = record { not_on_another = refl; not_there = refl; less_read = refl; nothing = refl; not_read = refl; not_told = refl; refused = refl }
looks _ = record { not_on_another = refl; not_there = refl; less_read = refl; nothing = refl; not_read = refl; not_told = refl; refused = refl }

ends : EndsAreTold
unfolding effects
ends = grind (arith, nat_tests)

breaks : BreaksAreTold
unfolding effects
breaks = record { own = refl; not_another = refl; not_at_the_peer = refl; stays = refl; refused = refl; not_stopped = refl }

packets : (text : List ℕ) → PacketsAreRead text
unfolding effects
packets text =
    record {
      claimed = refl;
      none_claimed = refl;
      ack = refl;
      ack_not_there = refl;
      no_ack = refl;
      fill = λ want filled. refl;
      no_fill = λ want. refl;
      twice = refl;
      none_made = refl;
      none_lost = λ token. refl;
      none_raised = λ limits. refl;
      none_set = λ setting. refl;
      none_forgot = refl;
      none_given = λ d result. refl;
    }

tokens : TokensAreRead
unfolding effects
tokens = grind (arith, nat_tests)

ping_alone : PingComesAlone
ping_alone a b h w s run open_end = (
  w,
  run,
  record { step = subst (λ o. TakeBy o ping (end_of w s) (Ok NotOurs) (end_of w s)) (sym open_end) (refl, refl); still = refl; may = λ still_open ours. absurd (false≢true ours) },
)

pub examples_hold : Examples
examples_hold = record { story = story; bytes = bytes; looks = looks; ends = ends; breaks = breaks; packets = packets; tokens = tokens; ping_alone = ping_alone }
