use Rattle.std.proofs.Common.{◌≡◌, ◌+◌, ◌≤◌, ◌-◌, ℕ, Bool, true, false, List, length, take, arith, refl, sym, ap, subst, ◌∙◌}
use Rattle.qs_send.specs.Lane.{bytes_of}
use Rattle.qs_send.specs.declared.parts.Chunk.{Chunk}
use Rattle.qs_machine.specs.Tables.{Tables, lookup}
use Rattle.qs_machine.specs.Outgoing.{Outgoing, IsBlockedAt, chunk_put, sent_sum}
use Rattle.qs_machine.specs.Sums.{or_none}
use Rattle.qs_machine.specs.Due.{StreamGoes}
use Rattle.qs_conn.specs.declared.middle.Core.{Core}
use Rattle.qs_conn.specs.Filling.{end_by, HasSpare, LeavesRest}
use Rattle.qs_conn.specs.Middle.{FillsOn}
use Rattle.qs_conn.specs.Due.{IsNotedBlock}
use Rattle.qs_conn.specs.Tasks.{IsFree, IsShort}
use Rattle.qs_conn.proofs.Flows.{Allowed, found_allowed, chunking_begins, chunking_put, chunking_done, may_go, sum_within, sum_small, still_open, flow_few, flow_ends, cut_part, flow_capped, flow_cut}
use Rattle.qs_conn.proofs.Cores.{core_chunk, fills_same, fills_on, fills_outbox}
use Rattle.qs_conn.proofs.Hearing.{no_goes, done_quiet}
use Rattle.qs_conn.proofs.MadePackets.{chunk_spare, chunk_memory}
use Rattle.qs_conn.proofs.middle.Core.put_chunks.Goals as goal

-- a chunk went in, behind what was there before
fills_chunk : (a c : Core) (xs ys zs : List ℕ) (i j k n : ℕ) (chunk : Chunk) (left fresh : ℕ) (o : Outgoing) (t : Tables (List ℕ)) (free : Bool) → FillsOn a xs i c ys j 0 → Allowed c.outbox n left fresh chunk → fresh ≡ c.limits.known_data - sent_sum c.outbox.sends
    → o ≡ chunk_put n chunk c.outbox → length (bytes_of (or_none (lookup c.outbox.sends n)) chunk) ≡ chunk.len → (free ≡ true → IsFree c.outbox n chunk) → (free ≡ false → IsShort c.outbox n) → (free ≡ true → t ≡ c.due) → (free ≡ false → IsNotedBlock (IsBlockedAt (lookup o.sends n)) n c.due t)
    → k ≤ length zs → (HasSpare (length ys) j c.outbox.spare → HasSpare (length zs) k o.spare) → LeavesRest j ys k zs → length zs ≡ length ys → FillsOn a xs i (record c { outbox = o; due = t }) zs k 0
fills_chunk a c xs ys zs i j k n chunk left fresh o t free filled may is put count at_free at_short same noted within spare rest room =
    let credit = sum_within c.outbox n chunk left fresh c.limits.known_data may is filled.filling.core.credit in
    let (half, has, _) = may in
    let core = core_chunk c filled.filling.core n chunk (bytes_of (or_none (lookup c.outbox.sends n)) chunk) o half t free put count credit has at_free at_short same noted in
    fills_on a c (record c { outbox = o; due = t }) xs ys zs i j k 0 0 filled (fills_outbox c o t c.own ys zs j k 0 core within (λ own. chunk_memory c n chunk left fresh may is o t (length ys) j (length zs) k own spare) rest room)

pub loop-chunk-init : goal.loop-chunk-init
loop-chunk-init c =
    record {
      chunking = λ around first wish room old e asked at on f. chunking_begins wish room old (take c.args.packet.len c.args.out.now) (end_by c.args.self.now.limits c.args.self.now.recvs c.args.self.now.outbox e) c.args.packet.quota around first c.args.stream asked on (rw c.if-packet.false at f);
      is_open = c.requires.open;
      fresh = ap (λ k. c.args.self.now.limits.known_data - k) c.sent_sum.ensures.value;
      filled = fills_same c.args.self.now c.args.out.now c.args.packet.len 0 c.requires.filling;
    }

pub put_chunk-put-requires-clause-may : goal.put_chunk-put-requires-clause-may
put_chunk-put-requires-clause-may c = may_go c.loop-chunk.self.outbox c.args.stream c.in-Some.chunk _ c.loop-chunk.fresh (found_allowed _ _ _ _ _ c.in-Some.ensures)

pub put_chunk-put-requires-clause-small : goal.put_chunk-put-requires-clause-small
put_chunk-put-requires-clause-small c =
    let core = c.loop-chunk.invariant.filled.filling.core in
    sum_small c.loop-chunk.self.outbox c.args.stream c.in-Some.chunk _ c.loop-chunk.fresh c.loop-chunk.self.limits.known_data (found_allowed _ _ _ _ _ c.in-Some.ensures) c.loop-chunk.invariant.fresh core.credit core.fits.known

pub overflow_sub-fresh-in-Some : goal.overflow_sub-fresh-in-Some
overflow_sub-fresh-in-Some c =
    let known = c.loop-chunk.self.limits.known_data in
    let now = sum_within c.loop-chunk.self.outbox c.args.stream c.in-Some.chunk _ c.loop-chunk.fresh known (found_allowed _ _ _ _ _ c.in-Some.ensures) c.loop-chunk.invariant.fresh c.loop-chunk.invariant.filled.filling.core.credit in
    let credit : sent_sum c.put_chunk-put.new.outbox.sends ≤ known = rw c.put_chunk-put.ensures.outbox now in
    omega (arith, c.sent_sum-in-Some.ensures.value, credit)

pub loop-chunk-preserved : goal.loop-chunk-preserved
loop-chunk-preserved c =
    let l = c.loop-chunk in
    let put = c.put_chunk-put.ensures in
    record {
      chunking = λ around first wish room old e asked at on f. chunking_put around first l.self.limits l.self.recvs l.self.outbox _ e l.quota (l.quota - c.in-Some.chunk.len) wish room old l.out c.put_chunk-put.new.out l.len c.put_chunk-put.result.len c.args.stream c.in-Some.chunk _ l.fresh
          c.in-Some.ensures put.outbox l.invariant.filled.filling.within (at ∙ sym l.invariant.filled.room) refl l.invariant.fresh put.count (omega (arith, c.if-chunk-quota.false)) put.text (l.invariant.chunking around first wish room old e asked at on f);
      is_open = rw put.outbox (still_open l.self.outbox c.args.stream c.in-Some.ensures.0 c.in-Some.chunk c.in-Some.ensures.1);
      fresh = ap (λ k. l.self.limits.known_data - k) c.sent_sum-in-Some.ensures.value;
      filled = fills_chunk _ l.self _ l.out c.put_chunk-put.new.out _ l.len c.put_chunk-put.result.len c.args.stream c.in-Some.chunk _ l.fresh c.put_chunk-put.new.outbox c.look_unless_free-in-Some.new.due c.put_chunk-put.result.is_free
          l.invariant.filled (found_allowed _ _ _ _ _ c.in-Some.ensures) l.invariant.fresh put.outbox put.count put.free put.held c.look_unless_free-in-Some.ensures.free c.look_unless_free-in-Some.ensures.noted put.within put.spare put.rest put.room;
    }

pub returns-then-out-len-lt-LEAST_STREAM_FRAME-clause-flow : goal.returns-then-out-len-lt-LEAST_STREAM_FRAME-clause-flow
returns-then-out-len-lt-LEAST_STREAM_FRAME-clause-flow c = λ around first wish room old e asked at on f.
    let l = c.loop-chunk in
    let put = c.put_chunk-put.ensures in
    let more = chunking_put around first l.self.limits l.self.recvs l.self.outbox c.put_chunk-put.new.outbox e l.quota (l.quota - c.in-Some.chunk.len) wish room old l.out c.put_chunk-put.new.out l.len c.put_chunk-put.result.len c.args.stream c.in-Some.chunk _ l.fresh
    c.in-Some.ensures put.outbox l.invariant.filled.filling.within (at ∙ sym l.invariant.filled.room) refl l.invariant.fresh put.count (omega (arith, c.if-chunk-quota.false)) put.text (l.invariant.chunking around first wish room old e asked at on f) in
    rw c.full_at-then-out-len-lt-LEAST_STREAM_FRAME.ensures
    (flow_few around first (c.args.stream + 1) _ (l.quota - c.in-Some.chunk.len) wish room old c.put_chunk-put.new.out c.put_chunk-put.result.len c.args.stream put.within (at ∙ sym l.invariant.filled.room ∙ sym put.room) (omega (arith, c.if-out-len-lt-LEAST_STREAM_FRAME.true)) more)

pub returns-then-out-len-lt-LEAST_STREAM_FRAME-clause-filled : goal.returns-then-out-len-lt-LEAST_STREAM_FRAME-clause-filled
returns-then-out-len-lt-LEAST_STREAM_FRAME-clause-filled c =
    let l = c.loop-chunk in
    let put = c.put_chunk-put.ensures in
    rw c.full_at-then-out-len-lt-LEAST_STREAM_FRAME.ensures
    (fills_chunk _ l.self _ l.out c.put_chunk-put.new.out _ l.len c.put_chunk-put.result.len c.args.stream c.in-Some.chunk _ l.fresh c.put_chunk-put.new.outbox c.look_unless_free-in-Some.new.due c.put_chunk-put.result.is_free
    l.invariant.filled (found_allowed _ _ _ _ _ c.in-Some.ensures) l.invariant.fresh put.outbox put.count put.free put.held c.look_unless_free-in-Some.ensures.free c.look_unless_free-in-Some.ensures.noted put.within put.spare put.rest put.room)

-- the stream is done

pub returns-then-put-clause-flow : goal.returns-then-put-clause-flow
returns-then-put-clause-flow c = λ around first wish room old e asked at on f.
    let l = c.loop-chunk in
    let n = c.args.stream in
    let put = c.put_chunk-put.ensures in
    let (s, h, (next, has)) = c.in-Some.ensures in
    let more = chunking_put around first l.self.limits l.self.recvs l.self.outbox c.put_chunk-put.new.outbox e l.quota (l.quota - c.in-Some.chunk.len) wish room old l.out c.put_chunk-put.new.out l.len c.put_chunk-put.result.len n c.in-Some.chunk _ l.fresh
    c.in-Some.ensures put.outbox l.invariant.filled.filling.within (at ∙ sym l.invariant.filled.room) refl l.invariant.fresh put.count (omega (arith, c.if-chunk-quota.false)) put.text (l.invariant.chunking around first wish room old e asked at on f) in
    chunking_done wish room old _ _ _ around first n more (subst (λ x. StreamGoes (end_by l.self.limits l.self.recvs x e) n → ⊥) (sym put.outbox)
    (no_goes (chunk_put n c.in-Some.chunk l.self.outbox) n (done_quiet l.self.outbox n s c.in-Some.chunk h next.allowed.chunk (put.done c.if-put.true)) l.self.limits l.self.recvs e))

pub returns-then-put-clause-filled : goal.returns-then-put-clause-filled
returns-then-put-clause-filled c =
    let l = c.loop-chunk in
    let put = c.put_chunk-put.ensures in
    fills_chunk _ l.self _ l.out c.put_chunk-put.new.out _ l.len c.put_chunk-put.result.len c.args.stream c.in-Some.chunk _ l.fresh c.put_chunk-put.new.outbox c.look_unless_free-in-Some.new.due c.put_chunk-put.result.is_free
    l.invariant.filled (found_allowed _ _ _ _ _ c.in-Some.ensures) l.invariant.fresh put.outbox put.count put.free put.held c.look_unless_free-in-Some.ensures.free c.look_unless_free-in-Some.ensures.noted put.within put.spare put.rest put.room

pub returns-clause-flow : goal.returns-clause-flow
returns-clause-flow c = λ around first wish room old e asked at on f.
    let l = c.loop-chunk in
    flow_ends around first l.self.limits l.self.recvs l.self.outbox e l.quota wish room old l.out l.len c.args.stream _ l.fresh c.is_held_by_room-is_full.result c.in_default.ensures c.is_held_by_room-is_full.ensures
    l.invariant.filled.filling.within (at ∙ sym l.invariant.filled.room) refl l.invariant.fresh (l.invariant.chunking around first wish room old e asked at on f)

pub put_chunk-put-requires-clause-spare : goal.put_chunk-put-requires-clause-spare
put_chunk-put-requires-clause-spare c =
    chunk_spare c.loop-chunk.self c.args.stream c.in-Some.chunk _ c.loop-chunk.fresh (found_allowed _ _ _ _ _ c.in-Some.ensures) c.loop-chunk.invariant.fresh _ _ 0 (c.loop-chunk.invariant.filled.memory 0 c.requires.memory)

-- the cap is used up

pub returns-then-quota-eq0-clause-flow : goal.returns-then-quota-eq0-clause-flow
returns-then-quota-eq0-clause-flow c = λ around first wish room old e asked at on f.
    let l = c.loop-chunk in
    rw c.full_at.ensures (flow_capped around first (c.args.stream + 1) l.self.limits l.self.recvs l.self.outbox e l.quota wish room old l.out l.len c.args.stream c.in-Some.chunk _ l.fresh c.in-Some.ensures
    l.invariant.fresh c.if-chunk-quota.true c.if-quota-eq0.true l.invariant.filled.filling.within (at ∙ sym l.invariant.filled.room) (l.invariant.chunking around first wish room old e asked at on f))

-- the chunk is cut

pub put_chunk-cut-requires-clause-may : goal.put_chunk-cut-requires-clause-may
put_chunk-cut-requires-clause-may c =
    may_go c.loop-chunk.self.outbox c.args.stream c.cut_to-part.result _ c.loop-chunk.fresh (cut_part c.loop-chunk.self.outbox _ c.in-Some.chunk _ _ _ c.loop-chunk.quota c.in-Some.ensures c.cut_to-part.ensures (omega (arith, c.if-quota-eq0.false)) c.if-chunk-quota.true)

pub put_chunk-cut-requires-clause-small : goal.put_chunk-cut-requires-clause-small
put_chunk-cut-requires-clause-small c =
    let core = c.loop-chunk.invariant.filled.filling.core in
    let part = cut_part c.loop-chunk.self.outbox c.args.stream c.in-Some.chunk c.cut_to-part.result _ _ c.loop-chunk.quota c.in-Some.ensures c.cut_to-part.ensures (omega (arith, c.if-quota-eq0.false)) c.if-chunk-quota.true in
    sum_small c.loop-chunk.self.outbox c.args.stream c.cut_to-part.result _ c.loop-chunk.fresh c.loop-chunk.self.limits.known_data part c.loop-chunk.invariant.fresh core.credit core.fits.known

pub put_chunk-cut-requires-clause-spare : goal.put_chunk-cut-requires-clause-spare
put_chunk-cut-requires-clause-spare c =
    chunk_spare c.loop-chunk.self c.args.stream c.in-Some.chunk _ c.loop-chunk.fresh (found_allowed _ _ _ _ _ c.in-Some.ensures) c.loop-chunk.invariant.fresh _ _ 0 (c.loop-chunk.invariant.filled.memory 0 c.requires.memory)

pub returns-then-chunk-quota-clause-flow : goal.returns-then-chunk-quota-clause-flow
returns-then-chunk-quota-clause-flow c = λ around first wish room old e asked at on f.
    let l = c.loop-chunk in
    let put = c.put_chunk-cut.ensures in
    rw c.full_at-then-chunk-quota.ensures
    (flow_cut around first (c.args.stream + 1) l.self.limits l.self.recvs l.self.outbox c.put_chunk-cut.new.outbox e l.quota wish room old l.out c.put_chunk-cut.new.out l.len c.put_chunk-cut.result.len c.args.stream c.in-Some.chunk c.cut_to-part.result _ l.fresh c.in-Some.ensures put.outbox
    c.cut_to-part.ensures (omega (arith, c.if-quota-eq0.false)) c.if-chunk-quota.true l.invariant.filled.filling.within (at ∙ sym l.invariant.filled.room) refl l.invariant.fresh put.count put.text (l.invariant.chunking around first wish room old e asked at on f))

pub returns-then-chunk-quota-clause-filled : goal.returns-then-chunk-quota-clause-filled
returns-then-chunk-quota-clause-filled c =
    let l = c.loop-chunk in
    let put = c.put_chunk-cut.ensures in
    let part = cut_part l.self.outbox c.args.stream c.in-Some.chunk c.cut_to-part.result _ _ l.quota c.in-Some.ensures c.cut_to-part.ensures (omega (arith, c.if-quota-eq0.false)) c.if-chunk-quota.true in
    rw c.full_at-then-chunk-quota.ensures
    (fills_chunk _ l.self _ l.out c.put_chunk-cut.new.out _ l.len c.put_chunk-cut.result.len c.args.stream c.cut_to-part.result _ l.fresh c.put_chunk-cut.new.outbox c.look_unless_free.new.due c.put_chunk-cut.result.is_free
    l.invariant.filled part l.invariant.fresh put.outbox put.count put.free put.held c.look_unless_free.ensures.free c.look_unless_free.ensures.noted put.within put.spare put.rest put.room)
