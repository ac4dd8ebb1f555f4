use Rattle.std.proofs.Common.{◌-◌, refl, arith, length, rules}
use Rattle.qs_send.proofs.Around.{written_once, written_twice}
use Rattle.qs_send.proofs.kept.write_behind.Goals as goal

pub returns-then-bytes-room-clause-written : goal.returns-then-bytes-room-clause-written
returns-then-bytes-room-clause-written c = search (rules, written_once)

pub returns-else-bytes-room-clause-written : goal.returns-else-bytes-room-clause-written
returns-else-bytes-room-clause-written c =
    written_twice c.args.start c.args.count c.place-at.result (length c.args.ring.now - c.place-at.result) c.args.ring.now c.write_at-else-bytes-room.new.into c.write_at-else-bytes-room-2.new.into c.args.bytes.now
    c.split_at.result.0.now c.split_at.result.1.now c.requires.begins c.requires.fits c.place-at.ensures.value refl c.if-bytes-room.false
    c.split_at.ensures.front c.split_at.ensures.back c.split_at.ensures.front_len c.split_at.ensures.back_len (omega (arith, c.write_at-else-bytes-room.ensures.same_len, c.write_at-else-bytes-room-2.ensures.same_len))
    c.write_at-else-bytes-room.ensures.written c.write_at-else-bytes-room-2.ensures.written
