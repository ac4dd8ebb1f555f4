-- What packets tell, they tell when more were made; and what one thing more does to what an end lived through.
use Rattle.std.proofs.Common.{◌≡◌, ℕ, Bool, true, not, ◌&&◌, ◌==◌, if◌then◌else◌, List, [], ◌∷◌, ◌++◌, inl, inr, refl, sym, ◌∙◌, append-nil, append_assoc}
use Rattle.qs_machine.specs.Seen.{Seen, seen_all}
use Rattle.qs_machine.specs.Plains.{frames_in}
use Rattle.qs_runs.specs.Logs.{Effect, Wrote, Gave, Ended, Stopped, BrokeOff, Sent, Came, CameAlone, Acked, NotedClosed, is_in}
use Rattle.qs_runs.specs.Pasts.{Past, Packets, Holds, Tells, TellsOffset, TellsByte, TellsEnd, TellsAck, WasConfirmed, IsNamed, packets_in}
use Rattle.qs_runs.proofs.Lists.{slice_get-append}

module _ (ps more : Packets) where
  pub Holds-more : (k : ℕ) (f : Seen) → Holds ps k f → Holds (ps ++ more) k f
  Holds-more k f (fs, e, a) = (fs, slice_get-append ps more k fs e, a)

  pub Tells-more : (f : Seen) → Tells ps f → Tells (ps ++ more) f
  Tells-more f (k, h) = (k, Holds-more k f h)

  pub TellsOffset-more : (n q : ℕ) → TellsOffset ps n q → TellsOffset (ps ++ more) n q
  TellsOffset-more n q (offset, bytes, fin, t, low, high) = (offset, bytes, fin, Tells-more _ t, low, high)

  pub TellsByte-more : (n q b : ℕ) → TellsByte ps n q b → TellsByte (ps ++ more) n q b
  TellsByte-more n q b (offset, bytes, fin, t, low, is) = (offset, bytes, fin, Tells-more _ t, low, is)

  pub TellsEnd-more : (n size : ℕ) → TellsEnd ps n size → TellsEnd (ps ++ more) n size
  TellsEnd-more n size (offset, bytes, t, is) = (offset, bytes, Tells-more _ t, is)

  pub TellsAck-more : (k : ℕ) → TellsAck ps k → TellsAck (ps ++ more) k
  TellsAck-more k (largest, ranges, t, named) = (largest, ranges, Tells-more _ t, named)

  pub Confirmed-more : (tokens : ℕ → Bool) (k : ℕ) → WasConfirmed ps tokens k → WasConfirmed (ps ++ more) tokens k
  Confirmed-more tokens k c = elim c [ inl ack ↦ inl (TellsAck-more k ack) | inr told ↦ inr told ]

  pub IsNamed-more : (n : ℕ) → IsNamed ps n → IsNamed (ps ++ more) n
  IsNamed-more n (f, m, t, names, same, le) = (f, m, Tells-more f t, names, same, le)

-- What one end lived through with one thing more that was done there.
abbrev pub with_effect : Effect → Past → Past
with_effect (Wrote n bytes) p = record p { bytes = λ m. p.bytes m ++ (if m == n then bytes else []) }
with_effect (Gave n bytes) p = record p { gave = λ m. p.gave m ++ (if m == n then bytes else []) }
with_effect (Ended n) p = record p { ended = λ m. if m == n && not (p.stopped m) then true else p.ended m }
with_effect (Stopped n) p = record p { stopped = λ m. if m == n then true else p.stopped m }
with_effect (BrokeOff n) p = record p { broken = λ m. if m == n then true else p.broken m }
with_effect (Sent text) p = record p { mine = p.mine ++ frames_in text ∷ [] }
with_effect (Came k bytes) p = record p { processed = λ j. if j == k then true else p.processed j; taken = p.taken ++ frames_in bytes }
with_effect (CameAlone frames) p = record p { taken = p.taken ++ seen_all frames }
with_effect (Acked token) p = record p { tokens = λ j. if is_in token j then true else p.tokens j }
with_effect NotedClosed p = p

-- and with several, in order
abbrev pub with_effects : List Effect → Past → Past
with_effects [] p = p
with_effects (x ∷ xs) p = with_effects xs (with_effect x p)

pub effects_joined : (xs ys : List Effect) (p : Past) → with_effects (xs ++ ys) p ≡ with_effects ys (with_effects xs p)
effects_joined [] ys p = refl
effects_joined (x ∷ xs) ys p = effects_joined xs ys (with_effect x p)

-- the packets among them
pub effects_made : (xs : List Effect) (p : Past) → (with_effects xs p).mine ≡ p.mine ++ packets_in xs
effects_made [] p = sym (append-nil p.mine)
effects_made (Sent text ∷ xs) p = effects_made xs (with_effect (Sent text) p) ∙ append_assoc p.mine (frames_in text ∷ []) (packets_in xs)
effects_made (Wrote n bytes ∷ xs) p = effects_made xs (with_effect (Wrote n bytes) p)
effects_made (Gave n bytes ∷ xs) p = effects_made xs (with_effect (Gave n bytes) p)
effects_made (Ended n ∷ xs) p = effects_made xs (with_effect (Ended n) p)
effects_made (Stopped n ∷ xs) p = effects_made xs (with_effect (Stopped n) p)
effects_made (BrokeOff n ∷ xs) p = effects_made xs (with_effect (BrokeOff n) p)
effects_made (Came k bytes ∷ xs) p = effects_made xs (with_effect (Came k bytes) p)
effects_made (CameAlone frames ∷ xs) p = effects_made xs (with_effect (CameAlone frames) p)
effects_made (Acked token ∷ xs) p = effects_made xs (with_effect (Acked token) p)
effects_made (NotedClosed ∷ xs) p = effects_made xs p
