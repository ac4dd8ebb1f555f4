-- The counts of streams that an end tells are at most those that it grants, and these never fall.
use Rattle.std.proofs.lemmas.Bool.Decides.{nat_tests}
use Rattle.std.proofs.Common.{◌≡◌, ℕ, zero, suc, ◌≤◌, List, [], ◌∷◌, ◌++◌, map, ◌⊎◌, Option, Some, None, Result, Ok, refl, sym, ap, subst, arith, inl, inr}
use Rattle.std.proofs.lemmas.Option.{none-some, same_Some}
use Rattle.qs_wire.specs.declared.stream_id.Dir.{Dir}
use Rattle.qs_wire.specs.declared.stream_id.Dir.TheVariants.{Bidi, Uni}
use Rattle.qs_send.specs.declared.piece.Item.{Item}
use Rattle.qs_send.specs.declared.piece.Item.TheVariants.{MaxStreams}
use Rattle.qs_send.specs.Records.{Among}
use Rattle.qs_calls.specs.declared.settings.Settings.{Settings}
use Rattle.qs_calls.specs.declared.making.Made.{Made}
use Rattle.qs_calls.specs.declared.making.MakeFault.{MakeFault}
use Rattle.qs_machine.specs.Ends.{End}
use Rattle.qs_machine.specs.Credit.{first_grant, granted_streams}
use Rattle.qs_machine.specs.Seen.{Seen, Control, seen_all}
use Rattle.qs_machine.specs.Lawful.{MayPut, Fills, frame_put}
use Rattle.qs_machine.specs.Making.{MakeStep, MakeAt, make_refusal, IsMade}
use Rattle.qs_machine.specs.EndStep.{Make, Claim}
use Rattle.qs_machine.specs.Standing.{CountsRise}
use Rattle.qs_runs.specs.Logs.{effects_of}
use Rattle.qs_runs.specs.Worlds.{AreGranted}
use Rattle.qs_machine.specs.Plains.{frames_in}
use Rattle.qs_runs.specs.Pasts.{Packets, Past, Tells, packets_in}
use Rattle.qs_runs.specs.Invariant.{EndOk, CountsTrue, CountsOk}
use Rattle.qs_runs.proofs.NewEnds.{tells_nothing}
use Rattle.qs_runs.proofs.Wire.{text_seen, ping_seen}

-- What a packet tells

told_split : (ps qs : Packets) (f : Seen) → Tells (ps ++ qs) f → Tells ps f ⊎ Tells qs f
told_split [] qs f t = inr t
told_split (x ∷ ps) qs f (zero, h) = inl (zero, h)
told_split (x ∷ ps) qs f (suc k, h) = elim (told_split ps qs f (k, h)) [ inl (j, old) ↦ inl (suc j, old) | inr new ↦ inr new ]

told_one : (fs : List Seen) (f : Seen) → Tells (fs ∷ []) f → Among f fs
told_one fs f (zero, (gs, at, a)) = subst (Among f) (sym (same_Some fs gs at)) a
told_one fs f (suc k, (gs, at, a)) = absurd (none-some gs at)

-- a count that is put in a packet is the granted one
put_count : (old e : End) (f : Seen) (d : Dir) (count : ℕ) → MayPut old e f → f ≡ Control (MaxStreams d count) → count ≤ granted_streams old d
put_count old e f d count may is = grind (arith, nat_tests)

filled_count : (old e mid : End) (fs : List Seen) (d : Dir) (count : ℕ) → Fills old e fs mid → Among (Control (MaxStreams d count)) fs → count ≤ granted_streams old d
filled_count old e mid [] d count fills a = absurd a
filled_count old e mid (f ∷ fs) d count fills (inl is) = put_count old e f d count fills.0 (sym is)
filled_count old e mid (f ∷ fs) d count fills (inr a) = filled_count old (frame_put f e) mid fs d count fills.1 a

made_count : (e new : End) (first delay room : ℕ) (made : Made) (text : List ℕ) (d : Dir) (count : ℕ) → IsMade e first delay room made text new → Tells (map frames_in (text ∷ [])) (Control (MaxStreams d count)) → count ≤ granted_streams e d
made_count e new first delay room made text d count h t =
    let (last, fills, is) = h.lawful.filled in
    filled_count e e last (seen_all h.frames) d count fills
    (subst (Among (Control (MaxStreams d count))) (text_seen delay h.frames text h.lawful.some h.spells) (told_one _ (Control (MaxStreams d count)) t))

make_count : (o : Option MakeFault) (e new : End) (first delay room : ℕ) (r : Result (Option Made) MakeFault) (text : List ℕ) (d : Dir) (count : ℕ) → MakeAt o e first delay room r text new
    → Tells (packets_in (effects_of (Make first delay room) (r, text))) (Control (MaxStreams d count)) → count ≤ granted_streams e d
make_count None e new first delay room (Ok (Some made)) text d count h t = made_count e new first delay room made text d count h t
make_count (Some fault) e new first delay room r text d count h t = absurd (tells_nothing _ _ (ap (λ x. packets_in (effects_of (Make first delay room) (x, text))) h.0) t)
make_count None e new first delay room r text d count h t = absurd (tells_nothing _ _ refl t)

-- each count that these packets tell is at most the granted one
abbrev pub TellCounts : End → Packets → Type 0
TellCounts e packets = (d : Dir) (count : ℕ) → Tells packets (Control (MaxStreams d count)) → count ≤ granted_streams e d

pub packet_counts : (e new : End) (first delay room : ℕ) (r : Result (Option Made) MakeFault) (text : List ℕ) → MakeStep e first delay room r text new → TellCounts e (packets_in (effects_of (Make first delay room) (r, text)))
packet_counts e new first delay room r text step d count t = make_count (make_refusal e) e new first delay room r text d count step t

-- a claimed number's packet tells no control item
claim_tells : (r : Result ℕ MakeFault) (i : Item) → Tells (packets_in (effects_of Claim r)) (Control i) → ⊥
claim_tells r i t = grind (arith, nat_tests, ping_seen, told_one, tells_nothing)

pub claim_counts : (e : End) (r : Result ℕ MakeFault) → TellCounts e (packets_in (effects_of Claim r))
claim_counts e r d count t = absurd (claim_tells r (MaxStreams d count) t)

-- The clause on counts

module _ (mine : Packets) (e new : End) (ok : CountsTrue mine e.settings (granted_streams e)) (settings : new.settings ≡ e.settings) (rise : CountsRise e new) where
  first_stays : (d : Dir) → first_grant new.settings d ≤ granted_streams new d
  first_stays d = subst (λ (s : Settings). first_grant s d ≤ granted_streams new d) (sym settings) (omega (arith, ok.first_granted d, rise d))

  -- a call that may tell some
  pub counts_told : (packets : Packets) → TellCounts e packets → CountsTrue (mine ++ packets) new.settings (granted_streams new)
  counts_told packets tells =
      record {
        first_granted = first_stays;
        told = λ d count t. elim (told_split mine packets (Control (MaxStreams d count)) t) [
          | inl old ↦ omega (arith, ok.told d count old, rise d)
          | inr now ↦ omega (arith, tells d count now, rise d)
        ];
      }

-- what the peer knows of its counts is at most what this end grants
pub known_within : (p q : Past) (e f : End) → q.theirs ≡ p.mine → CountsOk p e → EndOk q f → AreGranted f.peer e.settings → (f.known_bidi ≤ e.granted_bidi) × (f.known_uni ≤ e.granted_uni)
known_within p q e f back ok their peer = (bidi, uni)
  where
    bidi : f.known_bidi ≤ e.granted_bidi
    bidi = elim their.streams.bidi_told [
      | inl first ↦ omega (arith, first, peer.streams_bidi, ok.first_granted Bidi)
      | inr told ↦ ok.told Bidi f.known_bidi (subst (λ x. Tells x (Control (MaxStreams Bidi f.known_bidi))) back told)
    ]

    uni : f.known_uni ≤ e.granted_uni
    uni = elim their.streams.uni_told [
      | inl first ↦ omega (arith, first, peer.streams_uni, ok.first_granted Uni)
      | inr told ↦ ok.told Uni f.known_uni (subst (λ x. Tells x (Control (MaxStreams Uni f.known_uni))) back told)
    ]
