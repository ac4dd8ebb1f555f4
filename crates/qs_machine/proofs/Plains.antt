-- Plain frames tell nothing, wherever they stand.
use Rattle.std.proofs.lemmas.Bool.Decides.{nat_tests}
use Rattle.std.proofs.Common.{arith}
use Rattle.std.proofs.Common.{◌≡◌, ℕ, Bool, true, false, not, ◌||◌, cond, List, [], ◌∷◌, inl, inr, ◌⊎◌, Option, None, Some, Result, Ok, refl, sym, ap, ◌∙◌, subst, nat_lt}
use Rattle.std.specs.Prelude.{MatchBool}
use Rattle.std.specs.FinSet as set
use Rattle.std.proofs.lemmas.Bool.{false≢true}
use Rattle.qs_wire.specs.Layout.{PlacedValue}
use Rattle.qs_wire.specs.Grammar.{frames_of}
use Rattle.qs_wire.specs.Reading.{reading_of}
use Rattle.qs_wire.specs.declared.fault.WireFault.{WireFault}
use Rattle.qs_calls.specs.declared.closing.Received.{Received}
use Rattle.qs_calls.specs.declared.closing.Closing.{Closing}
use Rattle.qs_calls.specs.declared.closing.Closed.{Closed}
use Rattle.qs_calls.specs.declared.closing.Closed.TheVariants.{ByPeer}
use Rattle.qs_calls.specs.declared.closing.Received.TheVariants.{Done, Duplicate, BelowFloor, PeerClosed, NoMemory}
use Rattle.qs_machine.specs.Ends.{End, closes}
use Rattle.qs_machine.specs.Credit.{settle}
use Rattle.qs_machine.specs.Seen.{Seen, Close, Plain, seen, seen_all, asks_ack}
use Rattle.qs_machine.specs.Verdicts.{verdict}
use Rattle.qs_machine.specs.FrameStep.{frame_taken}
use Rattle.qs_machine.specs.Recording.{recorded}
use Rattle.qs_machine.specs.Receiving.{ReceiveStep, ReceiveBy, Stops, GoesOn, Takes, TakesPayload, AtEnd}
use Rattle.qs_machine.specs.Plains.{is_plain, frames_in, but_plain, DifferInPlain, PlainFramesTellNothing}
use Rattle.qs_machine.proofs.AcksAgain.{among_filter, filter_among}
use Rattle.qs_machine.proofs.EveryCall.{by_open}
use Rattle.qs_send.specs.Records.{Among}

-- what differs in whether an ACK is due alone
abbrev Like : End → End → Type 0
Like bare new = new ≡ record bare { ack_due = new.ack_due }

abbrev seen_in : List PlacedValue → List Seen
seen_in ps = seen_all (frames_of ps)

-- a frame that ends the processing without a closing of ours does so wherever it stands
elsewhere : (p q : PlacedValue) (f : Seen) (e new : End) (r : Received) → Stops p f e (Ok r) new → Stops q f e (Ok r) new
elsewhere p q f e new r h = grind arith

-- a plain frame ends nothing
pub plain_stops : (p : PlacedValue) (asks : Bool) (e new : End) (result : Result Received Closing) → Stops p (Plain asks) e result new → ⊥
unfolding verdict
plain_stops p asks e new result h = grind arith

-- the payload that is left of two that differ in plain frames alone
module _ (k : ℕ) where
  abbrev Both : Bool → End → List PlacedValue → Received → End → Type 0
  Both asks e qs r new = (bare : End) × Takes k None asks e qs (Ok r) bare × Like bare new

  at_end : (asks other : Bool) (e new : End) (r : Received) → AtEnd k asks None e (Ok r) new → (bare : End) × AtEnd k other None e (Ok r) bare × Like bare new
  at_end asks other e new Done h = (recorded k other e, refl, subst (λ n. Like (recorded k other e) n) (sym h) refl)
  at_end asks other e new NoMemory h = (new, h, refl)
  at_end asks other e new r h = absurd h

  -- plain frames in front are passed
  passes : (g : Seen) (q : PlacedValue) (qs : List PlacedValue) (other : Bool) (e new : End) (r : Received) → seen q.frame ≡ g → is_plain g ≡ true → ((b : Bool) → Both b e qs r new) → Both other e (q ∷ qs) r new
  unfolding frame_taken verdict
  passes (Plain asks) q qs other e new r is plain rest =
      let (bare, takes, like) = rest (other || asks) in
      (bare, subst (λ g. Stops q g e (Ok r) bare ⊎ (GoesOn e g × Takes k None (other || asks_ack g) (frame_taken g e) qs (Ok r) bare)) (sym is) (inr (refl, takes)), like)
  passes g q qs other e new r is plain rest = absurd (false≢true plain)

  passed : (g : Seen) (p : PlacedValue) (ps : List PlacedValue) (asks : Bool) (e new : End) (r : Received) → is_plain g ≡ true → Stops p g e (Ok r) new ⊎ (GoesOn e g × Takes k None (asks || asks_ack g) (frame_taken g e) ps (Ok r) new)
      → (b : Bool) × Takes k None b e ps (Ok r) new
  unfolding frame_taken
  passed g p ps asks e new r plain h = grind arith

  -- the frame stops there too, or is passed there too
  step : (g : Seen) (p q : PlacedValue) (ps qs : List PlacedValue) (asks other : Bool) (e new : End) (r : Received) → seen q.frame ≡ g
      → ((b c : Bool) (f : End) → Takes k None b f ps (Ok r) new → Both c f qs r new)
      → Stops p g e (Ok r) new ⊎ (GoesOn e g × Takes k None (asks || asks_ack g) (frame_taken g e) ps (Ok r) new) → Both other e (q ∷ qs) r new
  step g p q ps qs asks other e new r is rest (inl stops) = (new, inl (subst (λ f. Stops q f e (Ok r) new) (sym is) (elsewhere p q g e new r stops)), refl)
  step g p q ps qs asks other e new r is rest (inr (goes, takes)) =
      let (bare, then, like) = rest (asks || asks_ack g) (other || asks_ack g) (frame_taken g e) takes in
      (bare, subst (λ f. Stops q f e (Ok r) bare ⊎ (GoesOn e f × Takes k None (other || asks_ack f) (frame_taken f e) qs (Ok r) bare)) (sym is) (inr (goes, then)), like)

  -- the list of frames of which the first isn't plain
  first_of : (g : Seen) (gs : List Seen) → is_plain g ≡ false → but_plain (g ∷ gs) ≡ g ∷ but_plain gs
  first_of g gs is = ap (λ b. cond (not b) (g ∷ but_plain gs) (but_plain gs)) is

  none_of : (g : Seen) (gs : List Seen) → is_plain g ≡ true → but_plain (g ∷ gs) ≡ but_plain gs
  none_of g gs is = ap (λ b. cond (not b) (g ∷ but_plain gs) (but_plain gs)) is

  abbrev heads : (g : Seen) (fs : List Seen) → List Seen → Seen
  heads g fs [] = g
  heads g fs (f ∷ more) = f

  abbrev tails : List Seen → List Seen
  tails [] = []
  tails (f ∷ more) = more

  nothing_left : (g : Seen) (gs : List Seen) → ◌≡◌ {A = List Seen} (g ∷ gs) [] → ⊥
  nothing_left g gs e = cc

  -- what comes of what is left of a payload comes of what is left of another
  abbrev Follows : Received → End → List PlacedValue → Type 0
  Follows r new ps = (qs : List PlacedValue) (asks other : Bool) (e : End) → but_plain (seen_in ps) ≡ but_plain (seen_in qs) → Takes k None asks e ps (Ok r) new → Both other e qs r new

  -- the first frame isn't plain: those in front of it in the other payload are
  meets : (r : Received) (new : End) (p : PlacedValue) (ps : List PlacedValue) → Follows r new ps → is_plain (seen p.frame) ≡ false → (qs : List PlacedValue) (asks other : Bool) (e : End)
      → seen p.frame ∷ but_plain (seen_in ps) ≡ but_plain (seen_in qs) → Takes k None asks e (p ∷ ps) (Ok r) new → Both other e qs r new
  meets r new p ps later not_plain [] asks other e same h = absurd (nothing_left _ _ same)
  meets r new p ps later not_plain (q ∷ qs) asks other e same h =
      go (is_plain (seen q.frame)) refl (λ b is. meets r new p ps later not_plain qs asks b e is h)
    where
      go : (b : Bool) → is_plain (seen q.frame) ≡ b → ((c : Bool) → seen p.frame ∷ but_plain (seen_in ps) ≡ but_plain (seen_in qs) → Both c e qs r new) → Both other e (q ∷ qs) r new
      go true plain rest = passes (seen q.frame) q qs other e new r refl plain (λ b. rest b (same ∙ none_of (seen q.frame) (seen_in qs) plain))
      go false plain rest =
          let both : seen p.frame ∷ but_plain (seen_in ps) ≡ seen q.frame ∷ but_plain (seen_in qs) = same ∙ first_of (seen q.frame) (seen_in qs) plain in
          step (seen p.frame) p q ps qs asks other e new r (sym (ap (heads (seen p.frame) []) both)) (λ b c f takes. later qs b c f (ap tails both) takes) h

  -- nothing is left of the first one: of the other, plain frames
  ends : (r : Received) (new : End) → Follows r new []
  ends r new [] asks other e same h = at_end asks other e new r h
  ends r new (q ∷ qs) asks other e same h = go (is_plain (seen q.frame)) refl (λ b is. ends r new qs asks b e is h)
    where
      go : (b : Bool) → is_plain (seen q.frame) ≡ b → ((c : Bool) → but_plain [] ≡ but_plain (seen_in qs) → Both c e qs r new) → Both other e (q ∷ qs) r new
      go true plain rest = passes (seen q.frame) q qs other e new r refl plain (λ b. rest b (same ∙ none_of (seen q.frame) (seen_in qs) plain))
      go false plain rest = absurd (nothing_left _ _ (sym (same ∙ first_of (seen q.frame) (seen_in qs) plain)))

  -- all of it
  alike : (r : Received) (new : End) (ps : List PlacedValue) → Follows r new ps
  alike r new [] = ends r new
  alike r new (p ∷ ps) = λ qs asks other e same h. by (alike r new ps) (is_plain (seen p.frame)) refl qs asks other e same h
    where
      by : Follows r new ps → (b : Bool) → is_plain (seen p.frame) ≡ b → Follows r new (p ∷ ps)
      by later true plain qs asks other e same h =
          let (b, takes) = passed (seen p.frame) p ps asks e new r plain h in
          later qs b other e (sym (none_of (seen p.frame) (seen_in ps) plain) ∙ same) takes
      by later false plain qs asks other e same h = meets r new p ps later plain qs asks other e (sym (first_of (seen p.frame) (seen_in ps) plain) ∙ same) h

-- a frame of either payload stands in the other, or it is plain
pub differ_covers : (text other : List ℕ) → DifferInPlain text other → (g : Seen) → Among g (frames_in text) → Among g (frames_in other) ⊎ (is_plain g ≡ true)
differ_covers text other differ g a = grind (arith, nat_tests, filter_among, among_filter, not)

pub differ_turned : (text other : List ℕ) → DifferInPlain text other → DifferInPlain other text
differ_turned text other differ = record { reads = differ.reads_other; reads_other = differ.reads; same = sym differ.same }

-- The whole step
module _ (k : ℕ) (text other : List ℕ) (differ : DifferInPlain text other) (old : End) (r : Received) (new : End) where
  abbrev Taken : List ℕ → End → Type 0
  Taken bytes result = (mid : End) × TakesPayload k bytes old (Ok r) mid × (result ≡ settle mid)

  taken : Taken text new → (bare : End) × Taken other bare × Like bare new
  taken (mid, takes, is) =
      let (bare, there, like) = alike k r mid (reading_of text).left (reading_of other).left false false old differ.same (subst (λ f. Takes k f false old (reading_of text).left (Ok r) mid) differ.reads takes) in
      (settle bare, (bare, subst (λ f. Takes k f false old (reading_of other).left (Ok r) bare) (sym differ.reads_other) there, refl), subst (Like (settle bare)) (sym is) (ap settle like))

  abbrev Is : Received → Type 0
  Is other = ◌≡◌ {A = Result Received Closing} (Ok r) (Ok other)

  opened : (b c : Bool) → MatchBool b (Is BelowFloor × (new ≡ old)) (MatchBool c (Is Duplicate × (new ≡ old)) (Taken text new))
      → (bare : End) × MatchBool b (Is BelowFloor × (bare ≡ old)) (MatchBool c (Is Duplicate × (bare ≡ old)) (Taken other bare)) × Like bare new
  opened false false h = taken h
  opened _ c h = (new, h, refl)

  received : (o : Option Closed) → ReceiveBy o k text old (Ok r) new → (bare : End) × ReceiveBy o k other old (Ok r) bare × Like bare new
  received (Some closed) h = (new, h, refl)
  received None h = opened (nat_lt k old.floor) (set.contains old.done k) h

pub plain_frames : PlainFramesTellNothing
plain_frames old new k text other r differ step = received k text other differ old r new old.closed step

-- A CONNECTION_CLOSE comes among plain frames: nothing else takes effect.

module _ (Q : Result Received Closing → End → Type 0) (k code : ℕ) (e : End) (fault : Option WireFault) (closed : Q (Ok (PeerClosed code)) (closes (ByPeer code) e)) where
  close_goes : (p : PlacedValue) (f : Seen) (fs : List Seen) (left : List PlacedValue) (asks : Bool) (result : Result Received Closing) (mid : End) → but_plain (f ∷ fs) ≡ Close code ∷ [] →
      Stops p f e result mid ⊎ (GoesOn e f × Takes k fault (asks || asks_ack f) (frame_taken f e) left result mid) → ((b : Bool) → but_plain fs ≡ Close code ∷ [] → Takes k fault b e left result mid → Q result mid) → Q result mid
  unfolding frame_taken
  close_goes p f fs left asks result mid is h rest = grind (arith, nat_tests, plain_stops)

  close_taken : (left : List PlacedValue) (asks : Bool) (result : Result Received Closing) (mid : End) → but_plain (seen_in left) ≡ Close code ∷ [] → Takes k fault asks e left result mid → Q result mid
  close_taken [] asks result mid is h = absurd (cc is)
  close_taken (p ∷ left) asks result mid is h = close_goes p (seen p.frame) (seen_in left) left asks result mid is h (λ b more takes. close_taken left b result mid more takes)

-- so what holds of an end that stays as it is, and of one that closes, holds
pub close_comes : (Q : Result Received Closing → End → Type 0) (k code : ℕ) (bytes : List ℕ) (e new : End) (result : Result Received Closing) → e.closed ≡ None → but_plain (frames_in bytes) ≡ Close code ∷ [] → ReceiveStep e k bytes result new →
    Q (Ok BelowFloor) e → Q (Ok Duplicate) e → Q (Ok (PeerClosed code)) (settle (closes (ByPeer code) e)) → Q result new
close_comes Q k code bytes e new result open_end is step low again closed =
    by_open (Q result new) k bytes e result new (subst (λ o. ReceiveBy o k bytes e result new) open_end step) (λ r same. subst (λ x. Q x new) (sym r) (subst (Q (Ok BelowFloor)) (sym same) low)) (λ r same. subst (λ x. Q x new) (sym r) (subst (Q (Ok Duplicate)) (sym same) again))
    (λ high mid takes same. subst (Q result) (sym same) (close_taken (λ r n. Q r (settle n)) k code e (reading_of bytes).fault closed (reading_of bytes).left false result mid is takes))
