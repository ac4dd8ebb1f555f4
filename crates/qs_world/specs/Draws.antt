-- Of public contracts.
-- Which event the words of a generator choose.
use Rattle.std.specs.Prelude.{◌≡◌, ℕ, zero, suc, ◌+◌, ◌%◌, ◌==◌, List, [], ◌∷◌, nat_lt, if◌then◌else◌}
use Rattle.rand_pcg.specs.Lcg.{Lcg}
use Rattle.rand_pcg.specs.Pcg.{pcg32}
use Rattle.qs_wire.specs.declared.stream_id.Dir.{Dir}
use Rattle.qs_wire.specs.declared.stream_id.Dir.TheVariants.{Bidi, Uni}
use Rattle.qs_calls.specs.declared.event.Side.{Side}
use Rattle.qs_calls.specs.declared.event.Side.TheVariants.{A, B}
use Rattle.qs_calls.specs.declared.event.Act.{Act}
use Rattle.qs_calls.specs.declared.event.Act.TheVariants as acts
use Rattle.qs_world.specs.declared.draws.Kind.{Kind}
use Rattle.qs_world.specs.declared.draws.Kind.TheVariants as kinds

-- the generator's next word modulo k
unfoldable pub draw : ℕ → Lcg → ℕ
draw k g = (pcg32 g).0 % k

-- the generator after a draw
unfoldable pub after : Lcg → Lcg
after g = (pcg32 g).1

-- so many bytes, a draw each
abbrev pub bytes_from : ℕ → Lcg → List ℕ
bytes_from zero g = []
bytes_from (suc n) g = draw 256 g ∷ bytes_from n (after g)

-- the generator after so many draws
abbrev pub after_all : ℕ → Lcg → Lcg
after_all zero g = g
after_all (suc n) g = after_all n (after g)

abbrev pub side_drawn : Lcg → Side
side_drawn g = if draw 2 g == 0 then A else B

abbrev pub dir_drawn : Lcg → Dir
dir_drawn g = if draw 2 g == 0 then Bidi else Uni

-- by a draw of 16
abbrev pub kind_of : ℕ → Kind
kind_of c =
    if nat_lt c 1 then kinds.Open else if nat_lt c 2 then kinds.Accept else if nat_lt c 5 then kinds.Write else if nat_lt c 6 then kinds.End
    else if nat_lt c 9 then kinds.Read else if nat_lt c 12 then kinds.Make else if nat_lt c 13 then kinds.Lose else kinds.Deliver

-- a write of these bytes
abbrev pub IsWrite : Act → ℕ → List ℕ → Type 0
IsWrite (acts.Write n bytes) stream items = (n ≡ stream) × (bytes.items ≡ items)
IsWrite act stream items = ⊥

-- a reset, a stop or, mostly, a finish, and the generator after it
abbrev pub end_of_stream : ℕ → ℕ → Lcg → Act × Lcg
end_of_stream stream x g =
    if x == 0 then (acts.Reset stream (draw 8 g), after g) else if x == 1 then (acts.Stop stream (draw 8 g), after g) else (acts.Finish stream, g)

-- a packet's number is drawn of those that were made, and where there is none a packet is made
abbrev pub of_packets : ℕ → (ℕ → Act) → Lcg → Act × Lcg
of_packets made act g = if made == 0 then (acts.Make 128, g) else (act (draw made g), after g)

-- the act, and the generator after it, are these
abbrev pub IsChosen : Act × Lcg → Act → Lcg → Type 0
IsChosen chosen act new = (act ≡ chosen.0) × (new ≡ chosen.1)

-- what is drawn of a kind by an end that made so many packets, and the generator after it
abbrev pub IsDrawn : Kind → ℕ → Lcg → Act → Lcg → Type 0
IsDrawn kinds.Open made g act new = IsChosen (acts.OpenStream (dir_drawn g), after g) act new
IsDrawn kinds.Accept made g act new = IsChosen (acts.Accept, g) act new
IsDrawn kinds.Write made g act new =
    let count = 1 + draw 64 (after g) in
    IsWrite act (draw 8 g) (bytes_from count (after (after g))) × (new ≡ after_all count (after (after g)))
IsDrawn kinds.End made g act new = IsChosen (end_of_stream (draw 8 g) (draw 8 (after g)) (after (after g))) act new
IsDrawn kinds.Read made g act new = IsChosen (acts.ReadUpTo (draw 8 g) (1 + draw 64 (after g)), after (after g)) act new
IsDrawn kinds.Make made g act new = IsChosen (acts.Make (128 + draw 256 g), after g) act new
IsDrawn kinds.Lose made g act new = IsChosen (of_packets made acts.Lose g) act new
IsDrawn kinds.Deliver made g act new = IsChosen (of_packets made acts.Deliver g) act new
