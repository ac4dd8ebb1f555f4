-- Of private contracts.
-- One receiving half is changed by a closure, and what is kept beside the halves of a type.
use Rattle.std.specs.Prelude.{◌≡◌, ℕ, ◌+◌, ◌-◌, ◌%◌, ◌^◌, ◌≤◌, Bool, false, List, length, slice_get, Some}
use Rattle.std.specs.Borrow.{MutBor}
use Rattle.std.specs.Fn.{Once}
use Rattle.qs_recv.specs.Lane.{RecvLane, highest, taken, noted, raised_limit}
use Rattle.qs_machine.specs.declared.tally.Tally.{Tally}
use Rattle.qs_machine.specs.Sums.{stored_on, tally_on, IsPaid, EachLawful}
use Rattle.qs_machine.specs.Tables.{Tables, total}
use Rattle.qs_conn.specs.declared.recv_marks.RecvMarks.{RecvMarks}
use Rattle.qs_conn.specs.Marks.{HasRoom, is_marked}
use Rattle.qs_conn.specs.RecvTasks.{AreNoted}

-- A closure that changes a half and fills a slice

-- a call at `&mut` to x and to y may give r and leave x' and y'
pub record OnceInto {F S T R : Type 0} (g : Once F (MutBor S × (MutBor T × Unit {0})) (R × (MutBor S × (MutBor T × Unit {0})))) (f : F) (y y' : T) (x : S) (r : R) (x' : S) : Type 0 where
  pub half : MutBor S
  pub into : MutBor T
  pub shows : (half.now ≡ x) × (into.now ≡ y)
  pub left : MutBor S × (MutBor T × Unit {0})
  pub met : g.post f (half, (into, tt)) (r, left)
  pub leaves : (left.0.now ≡ x') × (left.1.0.now ≡ y')

-- such a call may be made
abbrev pub OnceTakesInto : {F S T R : Type 0} → Once F (MutBor S × (MutBor T × Unit {0})) (R × (MutBor S × (MutBor T × Unit {0}))) → F → S → T → Type 0
OnceTakesInto {F} {S} {T} g f x y = (p : MutBor S) (q : MutBor T) → p.now ≡ x → q.now ≡ y → g.pre f (p, (q, tt))

-- the limit is the next one already
abbrev pub IsSettled : RecvLane → Type 0
IsSettled lane = raised_limit lane ≡ lane.limit

-- where a lane's limit is the next one, and as much is taken of it as before, its limit is the next one still
pub record IsCalm (x x' : RecvLane) : Type 0 where
  pub settled : taken x' ≡ taken x → IsSettled x → IsSettled x'

-- each call leaves such a lane
abbrev pub LeavesCalm : {F R : Type 0} → Once F (MutBor RecvLane × (MutBor (List ℕ) × Unit {0})) (R × (MutBor RecvLane × (MutBor (List ℕ) × Unit {0}))) → F → RecvLane → List ℕ → Type 0
LeavesCalm {F} {R} g f x y = (r : R) (x' : RecvLane) (y' : List ℕ) → OnceInto g f y y' x r x' → IsCalm x x'

-- What is kept beside the lanes of a type

-- sums as they are kept: modulo 2^64
abbrev pub wrapped : Tally → Tally
wrapped t = record { spent = t.spent % 2 ^ 64; taken = t.taken % 2 ^ 64; stored = t.stored % 2 ^ 64; noted = t.noted % 2 ^ 64 }

-- a sum once a part became another
abbrev pub with_part : ℕ → ℕ → ℕ → ℕ
with_part total was is = (total + (2 ^ 64 - was) + is) % 2 ^ 64

-- the sums once a lane's part became another
abbrev pub with_parts : Tally → Tally → Tally → Tally
with_parts total was is =
    record {
      spent = with_part total.spent was.spent is.spent;
      taken = with_part total.taken was.taken is.taken;
      stored = with_part total.stored was.stored is.stored;
      noted = with_part total.noted was.noted is.noted;
    }

-- the sum of four
abbrev pub added : Tally → Tally → Tally → Tally → Tally
added a b c d =
    record {
      spent = (a.spent + b.spent + c.spent + d.spent) % 2 ^ 64;
      taken = (a.taken + b.taken + c.taken + d.taken) % 2 ^ 64;
      stored = (a.stored + b.stored + c.stored + d.stored) % 2 ^ 64;
      noted = (a.noted + b.noted + c.noted + d.noted) % 2 ^ 64;
    }

-- no limit rises but of lanes with a mark
abbrev pub AreSettled : List Bool → List RecvLane → Type 0
AreSettled rising lanes = (i : ℕ) (l : RecvLane) → slice_get lanes i ≡ Some l → is_marked rising i ≡ false → IsSettled l

-- the sums are right, no limit rises but of lanes that are marked, and the marks tell which lanes have an answer
pub record AreKept (lanes : List RecvLane) (tally : Tally) (rising : List Bool) (marks : RecvMarks) : Type 0 where
  pub counted : tally ≡ wrapped (tally_on lanes)
  pub lawful : EachLawful lanes
  pub settled : AreSettled rising lanes
  pub room : HasRoom (length lanes) rising
  pub few : length lanes ≤ 2 ^ 60
  pub noted : AreNoted lanes marks

-- the sums over all streams: nothing is stored or taken that wasn't spent
pub record IsTallyOf (recvs : Tables RecvLane) (t : Tally) : Type 0 where
  pub spent : t.spent ≡ total highest recvs
  pub taken : t.taken ≡ total taken recvs
  pub stored : t.stored ≡ total stored_on recvs
  pub noted : t.noted ≡ total noted recvs
  pub paid : IsPaid t
