use Rattle.std.proofs.Common.{Ok, sym, ap, ◌∙◌}
use Rattle.qs_wire.specs.declared.stream_id.Role.TheVariants.{Client}
use Rattle.qs_c.proofs.starts.reserve.Goals as goal

pub returns : goal.returns
returns c = (c.in-Ok-new.boxed.value, Client, record { conn_window = 1; bidi_local = 1; bidi_remote = 1; uni = 1; send_buffer = 1; grant_bidi = 0; grant_uni = 0; lifetime_bidi = 0; lifetime_uni = 0 }, record { max_data = 0; bidi_local = 0; bidi_remote = 0; uni = 0; streams_bidi = 0; streams_uni = 0 }, c.put.ensures, sym c.in-Ok.ensures ∙ ap Ok (sym c.in-Ok-new.ensures.ok))
