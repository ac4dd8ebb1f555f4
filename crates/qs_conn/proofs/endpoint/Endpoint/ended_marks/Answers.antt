use Rattle.qs_conn.proofs.Hearing.{bidi_marks, own_marks, peers_marks}
use Rattle.qs_conn.proofs.endpoint.Endpoint.ended_marks.Goals as goal

pub returns-then-stream_type-lt2 : goal.returns-then-stream_type-lt2
returns-then-stream_type-lt2 c = bidi_marks _ c.args.self.now c.self.view_is c.args.stream_type c.marks-receiving.result.now c.ended_marks-sending.result.now c.marks-receiving.ensures c.ended_marks-sending.ensures c.if-stream_type-lt2.true

pub returns-then-stream_type-role_bit : goal.returns-then-stream_type-role_bit
returns-then-stream_type-role_bit c = own_marks _ c.args.self.now c.self.view_is c.args.stream_type c.marks-receiving.result.now c.ended_marks-sending.result.now c.marks-receiving.ensures c.ended_marks-sending.ensures c.if-stream_type-lt2.false (rw c.role_bit.ensures.value at c.if-stream_type-role_bit.true)

pub returns-else-stream_type-role_bit : goal.returns-else-stream_type-role_bit
returns-else-stream_type-role_bit c = peers_marks _ c.args.self.now c.self.view_is c.args.stream_type c.marks-receiving.result.now c.ended_marks-sending.result.now c.marks-receiving.ensures c.ended_marks-sending.ensures c.if-stream_type-lt2.false (rw c.role_bit.ensures.value at c.if-stream_type-role_bit.false)
