use Rattle.std.proofs.Common.{arith}
use Rattle.qs_conn.proofs.Cores.{kept_known}
use Rattle.qs_conn.proofs.endpoint.Endpoint.on_max_data.Goals as goal

pub invariant_of-self : goal.invariant_of-self
invariant_of-self c =
    let limits = c.self.inside.core.limits in
    let fits = c.self.invariant.rest.core.fits in
    kept_known _ _ _ _ _ _ c.self.invariant c.max-self-inside.result limits.known_streams (omega (arith, c.max-self-inside.ensures)) (omega arith) (omega arith) (omega (arith, fits.known, c.requires, c.max-self-inside.ensures)) fits.bidi fits.uni
