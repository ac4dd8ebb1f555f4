use Rattle.std.proofs.Common.{◌≤◌, Bool, false, cond, rules}
use Rattle.std.specs.Prelude.{Ok, Err, IfOk}
use Rattle.qs_ranges.specs.Numbers.{MAX_VARINT}
use Rattle.qs_recv.specs.declared.half.Highest.{Highest}
use Rattle.qs_recv.specs.declared.half.RecvFault.TheVariants.{FinalSize, StreamCredit}
use Rattle.qs_conn.proofs.endpoint.Endpoint.reset_fault.Goals as goal

-- a check that passes answers the size
in_range : (b c : Bool) (h : Highest) → h.after ≤ MAX_VARINT → IfOk (cond b (Err FinalSize) (cond c (Err StreamCredit) (Ok h))) (λ (k : Highest). k.after ≤ MAX_VARINT)
in_range false false h fits = fits
in_range _ _ _ _ = tt

pub credit_fault-requires : goal.credit_fault-requires
credit_fault-requires c = search (rules, in_range)

pub credit_fault-requires-2 : goal.credit_fault-requires-2
credit_fault-requires-2 c = search (rules, in_range)
