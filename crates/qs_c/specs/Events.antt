-- Of public contracts.
-- How C is told what an end tells of by itself, and how what was heard stands behind its handle. All of it is ours.
use Rattle.std.specs.Prelude.{◌≡◌, ℕ, Bool, Option, Some, None, Result, Ok, Err, MatchBool}
use Rattle.qs_ranges.specs.declared.NoMemory.{NoMemory}
use Rattle.qs_wire.specs.declared.stream_id.Dir.{Dir}
use Rattle.qs_wire.specs.declared.stream_id.Dir.TheVariants.{Bidi, Uni}
use Rattle.qs_calls.specs.declared.news.News.{News}
use Rattle.qs_calls.specs.declared.news.News.TheVariants.{Opened, Readable, Writable, Stopped, Finished, ResetAcked, Ended, Available, DataBlocked, StreamDataBlocked, StreamsBlocked}
use Rattle.qs_machine.specs.Heard.{Hearing}
use Rattle.qs_c.specs.declared.news.GvNews.{GvNews}

-- A call that changes what was heard, whose numbers are in their ranges; or they aren't, and it is refused, and nothing changes.
abbrev pub TestedHeard : Bool → Hearing → Hearing → Type 0 → Type 0 → Type 0
TestedHeard fits old new Refused Step = MatchBool fits Step (Refused × (new ≡ old))

-- A call that changes what was heard behind a handle; refused, too, where the handle holds nothing.
abbrev pub CalledHeard : Option Hearing → Option Hearing → Bool → Type 0 → (Hearing → Hearing → Type 0) → Type 0
CalledHeard None None fits Refused Step = Refused
CalledHeard None (Some h) fits Refused Step = ⊥
CalledHeard (Some g) None fits Refused Step = ⊥
CalledHeard (Some g) (Some h) fits Refused Step = TestedHeard fits g h Refused (Step g h)

-- there was no memory for a note
abbrev pub memory_status : NoMemory → ℕ
memory_status refused = 2

abbrev pub dir_number : Dir → ℕ
dir_number Bidi = 0
dir_number Uni = 1

-- a piece of news, field by field: 0 where it has none of that kind
abbrev pub news_of : News → GvNews
news_of (Opened n) = record { kind = 0; dir = 0; stream = n; code = 0 }
news_of (Readable n) = record { kind = 1; dir = 0; stream = n; code = 0 }
news_of (Writable n) = record { kind = 2; dir = 0; stream = n; code = 0 }
news_of (Stopped n code) = record { kind = 3; dir = 0; stream = n; code = code }
news_of (Finished n) = record { kind = 4; dir = 0; stream = n; code = 0 }
news_of (ResetAcked n) = record { kind = 5; dir = 0; stream = n; code = 0 }
news_of (Ended n) = record { kind = 6; dir = 0; stream = n; code = 0 }
news_of (Available d) = record { kind = 7; dir = dir_number d; stream = 0; code = 0 }
news_of DataBlocked = record { kind = 8; dir = 0; stream = 0; code = 0 }
news_of (StreamDataBlocked n) = record { kind = 9; dir = 0; stream = n; code = 0 }
news_of (StreamsBlocked d) = record { kind = 10; dir = dir_number d; stream = 0; code = 0 }

abbrev pub news_told : Result (Option News) NoMemory → GvNews → ℕ × GvNews
news_told (Ok (Some news)) old = (0, news_of news)
news_told (Ok None) old = (15, old)
news_told (Err refused) old = (memory_status refused, old)
