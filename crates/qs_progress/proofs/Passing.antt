-- A packet that is made, and taken in whole at once: what the other end is owed, and what it hears.
use Rattle.std.proofs.lemmas.Bool.Decides.{nat_tests}
use Rattle.std.proofs.Common.{◌≡◌, ℕ, ◌+◌, ◌<◌, ◌≤◌, true, false, ◌||◌, List, [], ◌∷◌, ◌⊎◌, Option, Some, refl, sym, ap, ◌∙◌, subst, arith, inl, inr}
use Rattle.std.specs.Prelude.{⊤}
use Rattle.std.specs.List.{AllByRecursion}
use Rattle.std.specs.FinMap as fmap
use Rattle.std.specs.FinSet as set
use Rattle.std.proofs.lemmas.Bool.{cases_eq, cond_both, false≢true, or_left, or_right}
use Rattle.qs_wire.specs.Layout.{FrameValue, ack}
use Rattle.qs_wire.specs.Grammar.{Fits}
use Rattle.qs_send.specs.Lane.{sent_lane, blocked_lane}
use Rattle.qs_send.specs.Records.{Among}
use Rattle.qs_send.specs.declared.piece.Item.TheVariants.{StreamDataBlocked}
use Rattle.qs_send.specs.declared.piece.Piece.{Piece}
use Rattle.qs_send.specs.declared.piece.Piece.TheVariants.{Data, Told}
use Rattle.qs_machine.specs.Ends.{End, is_own, opens, opened_by_peer, on_send}
use Rattle.qs_machine.specs.Credit.{settle}
use Rattle.qs_machine.specs.Seen.{Seen, Ack, Stream, Control, seen, seen_all, any_asks}
use Rattle.qs_machine.specs.FrameStep.{AckedPiece, frame_taken, frames_taken, without_piece, acks, first_acked, piece_acked, is_named, NoFault}
use Rattle.qs_machine.specs.Recording.{recorded}
use Rattle.qs_machine.specs.Plains.{is_plain}
use Rattle.qs_machine.specs.Ways.{is_ack}
use Rattle.qs_machine.specs.Lawful.{MayAck, MayPut, Fills, frame_put, noted, chunk_of}
use Rattle.qs_machine.specs.Making.{NamesMost}
use Rattle.qs_machine.specs.Standing.{IsSound}
use Rattle.qs_machine.specs.Repeats.{SentWasWritten}
use Rattle.qs_machine.proofs.Leaves.{put_leaves, fills_leave, frame_leaves}
use Rattle.qs_machine.proofs.EndsAfter.{IsBare}
use Rattle.qs_machine.proofs.Again.{all_done}
use Rattle.qs_machine.proofs.Carried.{get_other}
use Rattle.qs_progress.specs.Outstanding.{IsIn}
use Rattle.qs_progress.proofs.Going.{frames_back}
use Rattle.qs_progress.proofs.TopRun.{odd_of, names_top_run}
use Rattle.qs_progress.proofs.Kept.{top_run_stays}

-- What frames leave

piece_due : (p : Piece) (e : End) → (piece_acked p e).ack_due ≡ e.ack_due
piece_due p e = grind (arith, nat_tests)

acks_due : (ps : List AckedPiece) (e : End) → (acks ps e).ack_due ≡ e.ack_due
unfolding acks
acks_due [] e = refl
acks_due (a ∷ ps) e = acks_due ps (first_acked a e) ∙ piece_due a.piece (without_piece a.late a.number e)

opened_due : (n : ℕ) (e : End) → (opened_by_peer n e).ack_due ≡ e.ack_due
opened_due n e = cond_both (is_own e n) e (opens n e) (λ x. x.ack_due ≡ e.ack_due) (λ _. refl) (λ _. refl)

frame_due : (f : Seen) (e : End) → (frame_taken f e).ack_due ≡ e.ack_due
unfolding frame_taken
frame_due f e = grind (arith, nat_tests, acks_due, opened_due)

-- whether an ACK is due, and which numbers are kept
abbrev Hears : End → End → Type 0
Hears e f = (f.ack_due ≡ e.ack_due) × (f.done ≡ e.done)

frames_hear : (fs : List Seen) (e : End) → Hears e (frames_taken fs e)
unfolding frames_taken
frames_hear [] e = (refl, refl)
frames_hear (f ∷ fs) e =
    let (due, done) = frames_hear fs (frame_taken f e) in
    (due ∙ frame_due f e, done ∙ ap (λ (x : End). x.done) (frame_leaves f e))

-- What is put in a packet

module _ (k : ℕ) (p : Piece) where
  noted_at : (q : Piece) (e : End) → IsIn (noted q e).outstanding k p → IsIn e.outstanding k p ⊎ (k ≡ e.next)
  noted_at q e h = grind (arith, nat_tests, cases_eq, get_other)

  put_at : (f : Seen) (e : End) → IsIn (frame_put f e).outstanding k p → IsIn e.outstanding k p ⊎ (k ≡ e.next)
  unfolding frame_put
  put_at (Stream n offset bytes fin) e here = noted_at (Data n (chunk_of offset bytes fin)) (on_send n (λ l. sent_lane l (chunk_of offset bytes fin)) e) here
  put_at (Control (StreamDataBlocked n m)) e here = noted_at (Told (StreamDataBlocked n m)) (on_send n blocked_lane e) here
  put_at (Control i) e here = noted_at (Told i) e here
  put_at f e here = inl here

  pub fills_at : (old : End) (fs : List Seen) (e last : End) → Fills old e fs last → IsIn last.outstanding k p → IsIn e.outstanding k p ⊎ (k ≡ e.next)
  fills_at old [] e last is here = inl (subst (λ (x : End). IsIn x.outstanding k p) is here)
  fills_at old (f ∷ fs) e last (may, rest) here =
      let next : (frame_put f e).next ≡ e.next = ap (λ (x : End). x.next) (put_leaves f e) in
      elim (fills_at old fs (frame_put f e) last rest here) [ inl before ↦ put_at f e before | inr is ↦ inr (is ∙ next) ]

-- Of a frame that is an ACK: it might be put in there; and it names the run of the largest number that it could.
abbrev pub MayBe : End → End → Seen → Type 0
MayBe old at (Ack largest ranges) = MayAck old at largest ranges
MayBe old at f = ⊤

abbrev pub NamesTop : End → Seen → Type 0
NamesTop old (Ack largest ranges) = (k : ℕ) → k ≤ largest → ((j : ℕ) → k ≤ j → j ≤ largest → set.contains old.done j ≡ true) → is_named ranges k ≡ true
NamesTop old f = ⊤

-- some ACK is among the frames
abbrev HasAck : End → List Seen → Type 0
HasAck old fs = (f : Seen) × (at : End) × Among f fs × (is_ack f ≡ true) × MayBe old at f

put_due : (f : Seen) (e : End) → (frame_put f e).ack_due ≡ e.ack_due ⊎ (is_ack f ≡ true)
unfolding frame_put
put_due f e = grind (arith, nat_tests)

fills_due : (old : End) (fs : List Seen) (e last : End) → Fills old e fs last → (last.ack_due ≡ e.ack_due) ⊎ HasAck old fs
fills_due old [] e last is = inl (ap (λ (x : End). x.ack_due) is)
fills_due old (f ∷ fs) e last (may, rest) =
    elim (fills_due old fs (frame_put f e) last rest) [
      | inr (g, at, among, is, may) ↦ inr (g, at, inr among, is, may)
      | inl same ↦ elim (put_due f e) [ inl left ↦ inl (same ∙ left) | inr is ↦ inr (f, e, inl refl, is, by f may) ]
    ]
  where
    by : (f : Seen) → MayPut old e f → MayBe old e f
    by f may = grind (arith, nat_tests)

-- The run of the largest number

named_one : (old at : End) (delay room : ℕ) (f : FrameValue) → Fits f → NamesMost old delay room f → MayBe old at (seen f) → NamesTop old (seen f)
named_one old at delay room (ack largest told xs ecn) fits most may = λ k le run. names_top_run old at delay room largest xs (odd_of xs fits.2.pairs fits.2.odd) may most k le run
named_one old at delay room f fits most may = tt

pub named_top : (old at : End) (delay room : ℕ) (fs : List FrameValue) → AllByRecursion Fits fs → AllByRecursion (NamesMost old delay room) fs → (f : Seen) → Among f (seen_all fs) → MayBe old at f → NamesTop old f
named_top old at delay room [] fits most f among may = absurd among
named_top old at delay room (g ∷ fs) fits most f (inl is) may = subst (NamesTop old) (sym is) (named_one old at delay room g fits.0 most.0 (subst (MayBe old at) is may))
named_top old at delay room (g ∷ fs) fits most f (inr later) may = named_top old at delay room fs fits.1 most.1 f later may

-- A packet passes

-- e made it, and f took it in
pub record Passed (e e2 f f2 : End) : Type 0 where
  pub frames : List Seen
  pub last : End
  pub filled : Fills e e frames last
  pub made : e2 ≡ settle (record last { next = e.next + 1 })
  pub names : (g : Seen) (at : End) → Among g frames → MayBe e at g → NamesTop e g
  pub came : List Seen
  pub fine : NoFault f came
  pub took : f2 ≡ recorded e.next (any_asks came) (settle (frames_taken came f))
  pub acks : (g : Seen) → Among g frames → is_ack g ≡ true → Among g came
  pub only : (g : Seen) → Among g came → is_plain g ≡ false → Among g frames
  pub asks : (p : Piece) → IsIn e2.outstanding e.next p → any_asks came ≡ true
  pub sound : IsSound f
  pub sent : SentWasWritten f
  pub below : (k : ℕ) → set.contains f.done k ≡ true → k < e.next
  pub below_then : (k : ℕ) → set.contains f2.done k ≡ true → k < e2.next

-- What f is to tell e: packets from lo up to hi came, and an ACK is due where one of them is outstanding.
pub record Owes (lo hi : ℕ) (e f : End) : Type 0 where
  pub order : lo ≤ hi
  pub from : (k : ℕ) (p : Piece) → IsIn e.outstanding k p → (lo ≤ k) × (k < hi)
  pub kept : (k : ℕ) → lo ≤ k → k < hi → set.contains f.done k ≡ true
  pub below : (k : ℕ) → set.contains f.done k ≡ true → k < hi
  pub due : (k : ℕ) (p : Piece) → IsIn e.outstanding k p → f.ack_due ≡ true

-- a record that has a piece isn't bare
pub not_bare : (o : Option (List Piece)) (ps : List Piece) (p : Piece) → o ≡ Some ps → Among p ps → IsBare o → ⊥
not_bare o ps p is among bare = grind (arith, nat_tests)

-- nothing is outstanding
abbrev pub IsClear : End → Type 0
IsClear e = (k : ℕ) (p : Piece) → IsIn e.outstanding k p → ⊥

module _ (e e2 f f2 : End) (x : Passed e e2 f f2) where
  next_is : e2.next ≡ e.next + 1
  next_is = ap (λ (y : End). y.next) x.made

  abbrev taken : End
  taken = settle (frames_taken x.came f)

  then_due : f2.ack_due ≡ (f.ack_due || any_asks x.came)
  then_due = ap (λ (y : End). y.ack_due) x.took ∙ ap (λ b. b || any_asks x.came) (frames_hear x.came f).0

  -- of the packets of e it was the next
  pub owes_more : (lo : ℕ) → Owes lo e.next e f → Owes lo e2.next e2 f2
  owes_more lo owes =
      record {
        order = (let le = owes.order in omega (arith, le, next_is));
        from = λ k p here. elim (was k p here) [
          | inl before ↦ (let (low, high) = owes.from k p before in (low, omega (arith, high, next_is)))
          | inr is ↦ (let le = owes.order in (omega (arith, is, le), omega (arith, is, next_is)))
        ];
        kept = λ k low high.
            subst (λ (y : End). set.contains y.done k ≡ true) (sym x.took)
            (top_run_stays taken lo e.next (any_asks x.came) owes.order
            (λ j is. x.below j (subst (λ s. set.contains s j ≡ true) same is))
            (λ j ge lt. subst (λ s. set.contains s j ≡ true) (sym same) (owes.kept j ge lt))
            k low (omega (arith, high, next_is)));
        below = x.below_then;
        due = λ k p here. elim (was k p here) [
          | inl before ↦ then_due ∙ or_left _ _ (owes.due k p before)
          | inr is ↦ then_due ∙ or_right _ _ (x.asks p (subst (λ j. IsIn e2.outstanding j p) is here))
        ];
      }
    where
      same : taken.done ≡ f.done
      same = (frames_hear x.came f).1

      was : (k : ℕ) (p : Piece) → IsIn e2.outstanding k p → IsIn e.outstanding k p ⊎ (k ≡ e.next)
      was k p here = fills_at k p e x.frames e x.last x.filled (subst (λ (y : End). IsIn y.outstanding k p) x.made here)

  -- what is outstanding of f was so
  before : (k : ℕ) (p : Piece) → IsIn f2.outstanding k p → IsIn (frames_taken x.came f).outstanding k p
  before k p here = subst (λ (y : End). IsIn y.outstanding k p) x.took here

  pub still_clear : IsClear f → IsClear f2
  still_clear clear k p here = clear k p (frames_back k p x.came f (before k p here))

  -- it owes f as much, or it told it all
  pub answers : (lo hi : ℕ) → Owes lo hi f e → Owes lo hi f2 e2 ⊎ IsClear f2
  answers lo hi owes =
      elim (fills_due e x.frames e x.last x.filled) [
        | inl same ↦ inl (
            record {
              order = owes.order;
              from = λ k p here. owes.from k p (frames_back k p x.came f (before k p here));
              kept = λ k low high. subst (λ s. set.contains s k ≡ true) (sym done) (owes.kept k low high);
              below = λ k is. owes.below k (subst (λ s. set.contains s k ≡ true) done is);
              due = λ k p here. ap (λ (y : End). y.ack_due) x.made ∙ same ∙ owes.due k p (frames_back k p x.came f (before k p here));
            })
        | inr (g, at, among, is, may) ↦ inr (λ k p here. told g at among is may k p (before k p here))
      ]
    where
      done : e2.done ≡ e.done
      done = ap (λ (y : End). y.done) x.made ∙ ap (λ (y : End). y.done) (fills_leave e x.frames e x.last x.filled)

      told : (g : Seen) (at : End) → Among g x.frames → is_ack g ≡ true → MayBe e at g → (k : ℕ) (p : Piece) → IsIn (frames_taken x.came f).outstanding k p → ⊥
      told (Ack largest ranges) at among is may k p here =
          let (low, high) = owes.from k p (frames_back k p x.came f here) in
          let kept = owes.kept k low high in
          let top = owes.below largest (may.kept largest may.names_largest) in
          let named : is_named ranges k ≡ true = x.names (Ack largest ranges) at among may k (may.largest_kept k kept) (λ j ge le. owes.kept j (omega (arith, low, ge)) (omega (arith, le, top))) in
          let (ps, there, in_ps) = here in
          not_bare (fmap.get (frames_taken x.came f).outstanding k) ps p there in_ps ((all_done x.came f x.sound x.sent x.fine (Ack largest ranges) (x.acks (Ack largest ranges) among refl)).1 false k named)
      told g at among is may k p here = false≢true is
