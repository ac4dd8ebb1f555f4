-- What an end sent in its turn is acknowledged once the other's turn is over, by packets or by tokens.
use Rattle.std.proofs.Common.{is_some, refl, ap, subst}
use Rattle.std.specs.Prelude.{⊤}
use Rattle.qs_calls.specs.declared.event.Side.{Side}
use Rattle.qs_calls.specs.declared.event.Side.TheVariants.{A, B}
use Rattle.qs_calls.specs.declared.settings.Settings.{Settings}
use Rattle.qs_machine.specs.Ends.{End}
use Rattle.qs_runs.specs.Logs.{other}
use Rattle.qs_runs.specs.Worlds.{end_of}
use Rattle.qs_progress.specs.Laps.{Moment}
use Rattle.qs_progress.specs.Outstanding.{IsIn}
use Rattle.qs_progress.specs.Comes.{IsReached}
use Rattle.qs_progress.specs.Rounds.{Way, Packets, Tokens, TakesTurn, Round}
use Rattle.qs_progress.proofs.ByTokens.{HaveLanded, sends_back, landed_on}
use Rattle.qs_progress.proofs.ComesInRounds.{Lasts, reads_last, clear_as, led, turn_leads, round_leads}
use Rattle.qs_progress.proofs.ComesInRounds as packets
use Rattle.qs_progress.proofs.Landed.{turned}
use Rattle.qs_progress.proofs.Passing.{IsClear}
use Rattle.qs_progress.proofs.Turns.{loses, loses_trail, sends_over}

module _ (a b : Settings) where
  -- by tokens: what landed of the other end as a turn began is acknowledged
  turn_clears : (s : Side) (old new : Moment) → IsReached a b old → TakesTurn Tokens s old new → HaveLanded a b (other s) old → IsClear (end_of new.ends (other s))
  turn_clears s old new r (mid, (n, lost), (k, sent)) landed j p here =
      let after = loses Tokens s n old mid lost in
      let r_mid = (led a b old mid r (loses_trail Tokens s n old mid lost)).0 in
      let was : IsIn (end_of old.ends (other s)).outstanding j p = subst (λ (e : End). IsIn e.outstanding j p) after.there (sends_back a b s k mid new r_mid sent j p here) in
      let (ms, trail) = turn_leads Tokens s old new (mid, (n, lost), (k, sent)) in
      let (ps, at, among) = here in
      (sends_over Tokens s k mid new sent).1 refl j (landed_on (λ call. ⊤) (other s) j ms old new trail (landed j p was)) (ap is_some at)

  module _ (w : Way) (old mid : Moment) (r : IsReached a b old) (first : Round w old mid) where
    sent_a : IsReached a b first.sent_a
    sent_a = (led a b old first.sent_a r (turn_leads w A old first.sent_a first.turn_a)).0

    sent_b : IsReached a b first.sent_b
    sent_b = (led a b first.sent_a first.sent_b sent_a (turn_leads w B first.sent_a first.sent_b first.turn_b)).0

    lasts : (s : Side) → Lasts (end_of first.sent_b.ends s) (end_of mid.ends s)
    lasts = reads_last first.moments first.sent_b mid first.reads

    pub r_mid : IsReached a b mid
    r_mid = (led a b old mid r (round_leads w old mid first)).0

  -- what A sent, as B's turn ends
  pub a_clear : (w : Way) (old mid : Moment) → IsReached a b old → (first : Round w old mid) → IsClear first.sent_b.ends.a
  a_clear Packets old mid r first = packets.a_clear a b old mid r first
  a_clear Tokens old mid r first = turn_clears B first.sent_a first.sent_b (sent_a Tokens old mid r first) first.turn_b (turned a b Tokens A old first.sent_a r first.turn_a).came

  -- and as the round does
  pub a_clear_mid : (w : Way) (old mid : Moment) → IsReached a b old → Round w old mid → IsClear mid.ends.a
  a_clear_mid w old mid r first = clear_as first.sent_b.ends.a mid.ends.a (lasts w old mid r first A).0 (a_clear w old mid r first)

  -- what B sent, as A's next turn ends
  pub b_clear : (w : Way) (old mid : Moment) → IsReached a b old → Round w old mid → (sent : Moment) → TakesTurn w A mid sent → IsClear sent.ends.b
  b_clear Packets old mid r first sent turn = packets.b_clear a b old mid r first sent turn
  b_clear Tokens old mid r first sent turn =
      let landed = turned a b Tokens B first.sent_a first.sent_b (sent_a Tokens old mid r first) first.turn_b in
      turn_clears A mid sent (r_mid Tokens old mid r first) turn (λ k p here.
      landed_on _ B k first.moments first.sent_b mid first.reads (landed.came k p (subst (λ m. IsIn m k p) (lasts Tokens old mid r first B).0 here)))
