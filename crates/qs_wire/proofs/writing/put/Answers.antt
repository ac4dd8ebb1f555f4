use Rattle.std.proofs.Common.{◌≡◌, ℕ, ◌<◌, ◌≤◌, List, ◌++◌, length, drop, subst}
use Rattle.std.specs.Prelude.{IfOk, IfErr}
use Rattle.qs_wire.proofs.Writes.{max_data_text, max_stream_data_text}
use Rattle.qs_wire.proofs.writing.put.Goals as goal

pub returns-in-MaxData-clause-written : goal.returns-in-MaxData-clause-written
returns-in-MaxData-clause-written c =
    rw c.in-MaxData.is (subst (λ (t : List ℕ). IfOk c.put_fitting.result (λ n. (n ≡ length t) × (n ≤ length c.args.out.now) × (c.put_fitting.new.out ≡ t ++ drop n c.args.out.now))) (max_data_text c.number.result c.in-MaxData.maximum c.number.ensures.number) c.put_fitting.ensures.written)

pub returns-in-MaxData-clause-full : goal.returns-in-MaxData-clause-full
returns-in-MaxData-clause-full c =
    rw c.in-MaxData.is (subst (λ (t : List ℕ). IfErr c.put_fitting.result (λ _. (length c.args.out.now < length t) × (c.put_fitting.new.out ≡ c.args.out.now))) (max_data_text c.number.result c.in-MaxData.maximum c.number.ensures.number) c.put_fitting.ensures.full)

pub returns-in-MaxStreamData-clause-written : goal.returns-in-MaxStreamData-clause-written
returns-in-MaxStreamData-clause-written c =
    rw c.in-MaxStreamData.is (subst (λ (t : List ℕ). IfOk c.put_fitting-in-MaxStreamData.result (λ n. (n ≡ length t) × (n ≤ length c.args.out.now) × (c.put_fitting-in-MaxStreamData.new.out ≡ t ++ drop n c.args.out.now))) (max_stream_data_text c.number-in-MaxStreamData.result c.in-MaxStreamData.stream c.value.result c.in-MaxStreamData.maximum c.number-in-MaxStreamData.ensures.number c.value.ensures.same) c.put_fitting-in-MaxStreamData.ensures.written)

pub returns-in-MaxStreamData-clause-full : goal.returns-in-MaxStreamData-clause-full
returns-in-MaxStreamData-clause-full c =
    rw c.in-MaxStreamData.is (subst (λ (t : List ℕ). IfErr c.put_fitting-in-MaxStreamData.result (λ _. (length c.args.out.now < length t) × (c.put_fitting-in-MaxStreamData.new.out ≡ c.args.out.now))) (max_stream_data_text c.number-in-MaxStreamData.result c.in-MaxStreamData.stream c.value.result c.in-MaxStreamData.maximum c.number-in-MaxStreamData.ensures.number c.value.ensures.same) c.put_fitting-in-MaxStreamData.ensures.full)
