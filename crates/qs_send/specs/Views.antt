-- Of private contracts.
-- What a view of a sending half shows.
use Rattle.qs_send.specs.Lane.{Sending}
use Rattle.qs_send.specs.Halves.{over_sending}
use Rattle.qs_send.specs.declared.view.Viewed.{Viewed}
use Rattle.qs_send.specs.declared.view.Viewed.TheVariants.{Over, Full}

-- a half that is over, or another as it is
abbrev pub viewed : Viewed → Sending
viewed (Over o) = over_sending o.number o.written o.limit o.was_blocked o.buffer o.widest
viewed (Full half) = half.now
