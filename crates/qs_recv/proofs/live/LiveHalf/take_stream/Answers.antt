use Rattle.std.proofs.Common.{◌+◌, length, true, ◌≡◌, ◌∙◌, sym, false, Result, OnOk, is_err, rules}
use Rattle.std.proofs.lemmas.Bool.{both_ways}
use Rattle.qs_recv.proofs.RestLaws.{given_some, let_go_noted, let_go_passed}
use Rattle.qs_recv.proofs.LawfulLaws.{sound_noted, sound_passed}
use Rattle.qs_recv.proofs.live.LiveHalf.take_stream.Goals.{then-not-self+else-is_err, else-not-self}
use Rattle.qs_recv.proofs.live.LiveHalf.take_stream.Goals as goal

-- a clause on Ok, where there was no error
at_ok : {T E P : Type 0} (r : Result T E) → is_err r ≡ false → OnOk r P → P
at_ok a b c = search (rules, both_ways)

-- and one on Err, where there was one

pub invariant_of-self-then-fin : goal.invariant_of-self-then-fin
invariant_of-self-then-fin g c =
    let ok = rw (← c.self.view_is, c.if-fin.true) at c.requires.passed in
    elim c.if-not-self.branch [
      | then-not-self+else-is_err w ↦
          rw (w.self-inside-is, at_ok _ (sym w.is_err.ensures.value ∙ w.if-is_err.false) w.put.ensures.ok, w.end_with-self-inside.ensures) (
            sound_noted _ _ _ _ c.args.offset c.args.bytes.now true (given_some _ _ ∙ w.if-not-self.true) ok c.self.invariant.0,
            let_go_noted _ c.args.offset _ _ c.args.bytes.now true ok c.self.invariant.0.lawful c.self.invariant.1 w.put.ensures.still,
          )
      | else-not-self w ↦ rw w.self-inside-is (
        sound_passed _ _ _ _ c.args.offset c.args.bytes.now true (given_some _ _ ∙ w.if-not-self.false) ok c.self.invariant.0,
        let_go_passed _ _ (c.args.offset + length c.args.bytes.now) true (given_some _ _ ∙ w.if-not-self.false) c.self.invariant.0.lawful c.self.invariant.1,
      )
    ]

pub invariant_of-self-else-fin : goal.invariant_of-self-else-fin
invariant_of-self-else-fin g c =
    let ok = rw (← c.self.view_is, c.if-fin.false) at c.requires.passed in
    elim c.if-not-self.branch [
      | then-not-self+else-is_err w ↦
          rw (w.self-inside-is, at_ok _ (sym w.is_err.ensures.value ∙ w.if-is_err.false) w.put.ensures.ok, w.end_with-self-inside.ensures) (
            sound_noted _ _ _ _ c.args.offset c.args.bytes.now false (given_some _ _ ∙ w.if-not-self.true) ok c.self.invariant.0,
            let_go_noted _ c.args.offset _ _ c.args.bytes.now false ok c.self.invariant.0.lawful c.self.invariant.1 w.put.ensures.still,
          )
      | else-not-self w ↦ rw w.self-inside-is c.self.invariant
    ]
