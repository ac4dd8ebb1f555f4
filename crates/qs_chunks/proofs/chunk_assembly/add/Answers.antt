use Rattle.std.proofs.Common.{◌∙◌, ◌+◌, ◌-◌, ◌++◌, ap, arith, length, take, drop}
use Rattle.std.specs.Prelude.{remove}
use Rattle.qs_chunks.specs.Chunks.{with_shorter}
use Rattle.qs_chunks.proofs.EditLaws.{longer_then_shorter, insert_then_remove, cleared_behind_inserted}
use Rattle.qs_chunks.proofs.chunk_assembly.add.Goals as goal

pub returns-in-Err-clause-err : goal.returns-in-Err-clause-err
returns-in-Err-clause-err c =
    let some = c.requires.joins c.if-spot.true in (
      c.shorten.ensures
          ∙ ap (λ cs. with_shorter cs (c.args.spot.first - 1) (length c.args.bytes.now)) c.in_ok-extend.ensures.ok
          ∙ longer_then_shorter c.args.chunks.now (c.args.spot.first - 1) c.args.bytes.now (omega (arith, some.0, c.requires.place.0, c.requires.place.1)),
      c.in-Err.ensures.err,
    )

pub returns-in-Err-insert-clause-err : goal.returns-in-Err-insert-clause-err
returns-in-Err-insert-clause-err c = (
  c.remove.ensures
      ∙ ap (λ cs. remove cs c.args.spot.first) c.in_ok-insert.ensures.ok
      ∙ insert_then_remove c.args.chunks.now c.args.spot.first _ (omega (arith, c.requires.place.0, c.requires.place.1)),
  c.in-Err-insert.ensures.err,
)

pub returns-in_default-insert-clause-ok : goal.returns-in_default-insert-clause-ok
returns-in_default-insert-clause-ok c =
    rw c.if-spot.false
    (c.clear_behind-else-spot.ensures
    ∙ ap (λ cs. take (c.args.spot.first + 1) cs ++ drop (c.args.spot.first + 1 + (c.args.spot.after - c.args.spot.first)) cs) c.in_ok-insert.ensures.ok
    ∙ cleared_behind_inserted c.args.chunks.now c.args.spot.first c.args.spot.after _ (omega (arith, c.requires.place.0, c.requires.place.1)) c.requires.place.0)
