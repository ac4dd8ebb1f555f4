-- Of private contracts.
-- Sums over the streams of an end, and lists of streams as tables.
use Rattle.std.specs.Prelude.{ℕ, ◌+◌, ◌-◌, ◌≤◌, List, [], ◌∷◌, slice_set, slice_index_or, Option, None, Some, ⊤}
use Rattle.std.specs.List.{sum_by}
use Rattle.std.specs.FinMap as fmap
use Rattle.qs_recv.specs.Lane.{RecvLane, highest, taken, noted}
use Rattle.qs_recv.specs.Lawful.{IsLawful}
use Rattle.qs_send.specs.Lane.{SendLane, Sending, new_sending, new_lane as new_send_lane}
use Rattle.qs_machine.specs.declared.tally.Tally.{Tally}
use Rattle.qs_machine.specs.Tables.{Tables}

-- the list with the element at an index changed by f, where there is one
abbrev pub changed : {X : Type 0} → List X → ℕ → (X → X) → Option X → List X
changed xs i f None = xs
changed xs i f (Some x) = slice_set xs i (f x)

-- a sending lane where none is
abbrev pub no_lane : SendLane
no_lane = new_send_lane 0 0 0

abbrev pub or_none : Option SendLane → SendLane
or_none None = no_lane
or_none (Some lane) = lane

-- a sending half where none is
abbrev pub no_sending : Sending
no_sending = new_sending 0 0 0

abbrev pub or_no_sending : Option Sending → Sending
or_no_sending None = no_sending
or_no_sending (Some s) = s

abbrev pub stored_on : RecvLane → ℕ
stored_on lane = fmap.len lane.arrived.stored

-- what a lane adds to the sums
abbrev pub tally_of : RecvLane → Tally
tally_of lane = record { spent = highest lane; taken = taken lane; stored = stored_on lane; noted = noted lane }

-- the sums over all lanes
abbrev pub tally_on : List RecvLane → Tally
tally_on lanes = record { spent = sum_by highest lanes; taken = sum_by taken lanes; stored = sum_by stored_on lanes; noted = sum_by noted lanes }

-- the sums once one lane's part became another
abbrev pub moved : Tally → Tally → Tally → Tally
moved total was is =
    record {
      spent = total.spent - was.spent + is.spent;
      taken = total.taken - was.taken + is.taken;
      stored = total.stored - was.stored + is.stored;
      noted = total.noted - was.noted + is.noted;
    }

pub record IsPart (part total : Tally) : Type 0 where
  pub spent : part.spent ≤ total.spent
  pub taken : part.taken ≤ total.taken
  pub stored : part.stored ≤ total.stored
  pub noted : part.noted ≤ total.noted

-- nothing is stored or taken that wasn't spent, and not both; and no more runs are noted than offsets were spent
pub record IsPaid (tally : Tally) : Type 0 where
  pub moved : tally.stored + tally.taken ≤ tally.spent
  pub noted : tally.noted ≤ tally.spent

abbrev pub EachLawful : List RecvLane → Type 0
EachLawful [] = ⊤
EachLawful (lane ∷ lanes) = IsLawful lane × EachLawful lanes

-- the tables of four lists, in the order of the types' bits
abbrev pub tables_of : {X : Type 0} → List (List X) → Tables X
tables_of lists =
    record {
      client_bidi = slice_index_or lists 0 [];
      server_bidi = slice_index_or lists 1 [];
      client_uni = slice_index_or lists 2 [];
      server_uni = slice_index_or lists 3 [];
    }
