-- What an owner isn't told, and what a call notes and doesn't.
use Rattle.std.proofs.Common.{◌≡◌, ℕ, true, false, cond, Some, None, refl, sym, ap, ◌∙◌, subst, arith, inl}
use Rattle.std.specs.FinSet as set
use Rattle.std.specs.Ordering.{nat_cmp}
use Rattle.std.proofs.lemmas.Option.{same_Some, none-some}
use Rattle.std.proofs.lemmas.Bool.{false≢true, true≢false, both_ways}
use Rattle.std.proofs.lemmas.Bool.Decides.{nat_tests}
use Rattle.qs_recv.specs.News.{is_readable, tells_something}
use Rattle.qs_recv.specs.declared.half.Read.TheVariants as reads
use Rattle.qs_calls.specs.declared.news.News.TheVariants.{Opened, Readable, Stopped, ResetAcked}
use Rattle.qs_machine.specs.Tables.{lookup}
use Rattle.qs_machine.specs.Ends.{End}
use Rattle.qs_machine.specs.Heard.{ComesBefore}
use Rattle.qs_machine.specs.Hearing.{Hearing, heard_nothing, IsNews}
use Rattle.qs_machine.specs.SmallEnds.{server_with, fresh, all_came}
use Rattle.qs_machine.specs.ExclusionsHeard.{reset_came}
use Rattle.qs_machine.specs.ExclusionsOwning.{first, told_first, NoNewsOf, NotToldSo, CallsNote, NotNotedSo, NotOverYet, NotOwnedSo}
use Rattle.qs_machine.proofs.EveryCall.{not_chosen}
use Rattle.qs_machine.proofs.Tellings.{contains_marked, contains_unmarked}
use Rattle.qs_machine.proofs.ExclusionsOwner.{held_by, nothing_readable, only_is}

-- in no set, and in the one of stream 0
unmarked : (n : ℕ) → set.contains heard_nothing.readable n ≡ false
unmarked n = set.contains-empty nat_cmp n

first_marked : set.contains first 0 ≡ true
first_marked = contains_marked set.empty 0 0

news : NoNewsOf
unfolding lookup
news = grind (arith, nat_tests, true≢false, nothing_readable, false≢true, none-some, same_Some, only_is, unmarked, first_marked)

opens_first : IsNews (server_with all_came) heard_nothing (Opened 0)
opens_first = record { theirs = refl; opened = omega arith; next = refl }

told : NotToldSo
unfolding lookup
told =
    record {
      kept_back = λ new h. (let f = h.first.first (Opened 0) opens_first in none-some f.0 f.1);
      out_of_order = λ new h. (let f = h.first.first (Opened 0) opens_first in f.2 (subst (ComesBefore (Opened 0)) (same_Some (Readable 0) f.0 f.1) (inl (omega arith))));
      unnoted = λ h. (let same = ap (λ (x : Hearing). x.opened_bidi) h.note in omega (arith, same));
      two = λ h. both_ways (set.contains first 0) (ap (λ (x : Hearing). set.contains x.readable 0) h.note ∙ unmarked 0) first_marked;
      stop_first = λ new h. (let f = h.first.first (Stopped 0 7) (refl, unmarked 0) in f.2 (subst (ComesBefore (Stopped 0 7)) (same_Some (ResetAcked 0) f.0 f.1) (inl (omega arith))));
      stop_left = λ e h. both_ways (set.contains first 0) (sym (ap (λ (x : Hearing). set.contains x.stopped 0) h.note) ∙ unmarked 0) first_marked;
      stop_left_of_reset = λ e h. both_ways (set.contains first 0) (sym (ap (λ (x : Hearing). set.contains x.stopped 0) h.note) ∙ unmarked 0) first_marked;
      changed = λ h. none-some {A = ℕ} 3 (ap (λ (e : End). elim (lookup e.recvs 0) [ None ↦ None | Some l ↦ l.final_size ]) h.still);
    }

calls : CallsNote
unfolding lookup
calls =
    record {
      dry = ap (λ b. cond b told_first (record told_first { readable = set.remove first 0 })) nothing_new;
      more = refl;
      stopped = ap (λ b. cond b told_first (record told_first { readable = set.remove first 0 })) nothing_new;
      short = refl;
      whole = refl;
      refused = refl;
      wanted = refl;
      no_room = refl;
      present = refl;
      risen = refl;
      stream = refl;
      all_known = refl;
      count = refl;
      again = λ payload. refl;
      frame_again = refl;
    }
  where
    nothing_new : is_readable fresh ≡ false
    nothing_new = ap tells_something (not_chosen _ _ reads.Wait (set.contains-empty nat_cmp 0))

noted : NotNotedSo
noted =
    record {
      opened = λ e h. (let same = h.note in grind (arith, same));
      readable = λ e h. (let same = ap (λ (x : Hearing). set.contains x.readable 0) h.note in grind (arith, same, unmarked, first_marked, contains_unmarked));
    }

over : NotOverYet
unfolding lookup
over =
    record {
      opened = λ h. h;
      reset = λ h. h (refl, held_by (λ l. is_readable l ≡ true) reset_came refl);
      room = λ none. grind (arith, none);
      finished = λ h. h;
    }

pub not_owned_so : NotOwnedSo
not_owned_so = record { news = news; told = told; calls = calls; noted = noted; over = over }
