-- How bytes enter: a canonical text has no fault and gives its frames.
use Rattle.std.proofs.Common.{◌≡◌, ◌≢◌, ℕ, ◌<◌, List, [], ◌∷◌, length, true, None, refl, sym, subst, ap, ◌∙◌, arith}
use Rattle.std.specs.List.{AllByRecursion}
use Rattle.qs_wire.specs.Layout.{FrameValue, ping}
use Rattle.qs_wire.specs.Grammar.{Fits, canonical, canonical_all, frames_of}
use Rattle.qs_wire.specs.Varint.{short}
use Rattle.qs_wire.specs.Reading.{reading_of}
use Rattle.qs_wire.proofs.PayloadLaws.{canonical_payload, payload_again}
use Rattle.qs_machine.specs.Seen.{Plain, seen_all}
use Rattle.qs_machine.specs.Making.{IsText}
use Rattle.qs_runs.specs.Logs.{ping_text}
use Rattle.qs_machine.specs.Plains.{frames_in}

pub canonical_reads_back : (frames : List FrameValue) → 0 < length frames → AllByRecursion Fits frames → (frames_of (reading_of (canonical_all frames)).left ≡ frames) × ((reading_of (canonical_all frames)).fault ≡ None)
canonical_reads_back frames some fit = payload_again frames (canonical_all frames) (canonical_payload frames some fit)

not_empty : (frames : List FrameValue) → seen_all frames ≢ [] → 0 < length frames
not_empty [] some = absurd (some refl)
not_empty (f ∷ fs) some = omega arith

-- a text that was made gives the frames that were put in it, and has no fault
pub text_seen : (delay : ℕ) (frames : List FrameValue) (text : List ℕ) → seen_all frames ≢ [] → IsText delay frames text → frames_in text ≡ seen_all frames
text_seen delay frames text some is = ap frames_in is.canonical ∙ ap seen_all (canonical_reads_back frames (not_empty frames some) is.fits).0

pub text_faultless : (delay : ℕ) (frames : List FrameValue) (text : List ℕ) → seen_all frames ≢ [] → IsText delay frames text → (reading_of text).fault ≡ None
text_faultless delay frames text some is = ap (λ t. (reading_of t).fault) is.canonical ∙ (canonical_reads_back frames (not_empty frames some) is.fits).1

pub text_fits : (delay : ℕ) (frames : List FrameValue) (text : List ℕ) → seen_all frames ≢ [] → IsText delay frames text → AllByRecursion Fits (frames_of (reading_of text).left)
text_fits delay frames text some is =
    subst (AllByRecursion Fits) (sym (ap (λ t. frames_of (reading_of t).left) is.canonical ∙ (canonical_reads_back frames (not_empty frames some) is.fits).0)) is.fits

-- the one byte of a PING reads as a PING
pub ping_seen : frames_in ping_text ≡ Plain true ∷ []
unfolding canonical short
ping_seen = ap seen_all (canonical_reads_back (ping ∷ []) (omega arith) (tt, tt)).0

pub ping_faultless : (reading_of ping_text).fault ≡ None
unfolding canonical short
ping_faultless = (canonical_reads_back (ping ∷ []) (omega arith) (tt, tt)).1

pub ping_fits : AllByRecursion Fits (frames_of (reading_of ping_text).left)
unfolding canonical short
ping_fits = subst (AllByRecursion Fits) (sym (canonical_reads_back (ping ∷ []) (omega arith) (tt, tt)).0) (tt, tt)
