-- What came and wasn't read is stored, where nothing is thrown away; so a read of a stream with news tells some.
use Rattle.std.proofs.Common.{◌≡◌, ℕ, zero, suc, ◌+◌, ◌<◌, ◌≤◌, Bool, true, false, not, ◌&&◌, ◌||◌, cond, nat_cmp, List, [], ◌∷◌, length, slice_get, Option, Some, None, is_some, refl, sym, ap, ◌∙◌, subst, arith}
use Rattle.std.specs.Prelude.{option_map}
use Rattle.std.specs.FinMap as fmap
use Rattle.std.specs.FinSet as set
use Rattle.std.proofs.lemmas.Bool.{cond_both, true≢false, false≢true, and_parts}
use Rattle.std.proofs.lemmas.Bool.Decides.{nat_tests}
use Rattle.qs_ranges.specs.Numbers.{NumberSet, contains-with_range}
use Rattle.qs_recv.specs.Assembled.{Assembled, put, store, discard, front_of, front, front_from, take_front}
use Rattle.qs_recv.specs.Lawful.{IsLawful}
use Rattle.qs_recv.specs.News.{is_readable, tells_something}
use Rattle.qs_recv.specs.Lane.{RecvLane, new_lane, after_read, after_answer, read_answer, stop, take_stream, take_reset, raise, is_over}
use Rattle.qs_recv.specs.declared.half.Read.{Read}
use Rattle.qs_recv.specs.declared.half.Read.TheVariants as reads
use Rattle.qs_recv.proofs.RingLaws.{get-store, get-keep_from, is_in_run}
use Rattle.qs_send.specs.declared.piece.Item.{Item}
use Rattle.qs_calls.specs.declared.settings.Settings.{Settings}
use Rattle.qs_calls.specs.declared.event.Side.{Side}
use Rattle.qs_calls.specs.declared.event.Side.TheVariants.{A}
use Rattle.qs_machine.specs.Tables.{Tables, lookup, updated, open_to, no_streams}
use Rattle.qs_machine.specs.Ends.{End, is_own, is_uni, opens, opened_by_peer, first_window}
use Rattle.qs_machine.specs.Credit.{settle}
use Rattle.qs_machine.specs.Seen.{Seen, Ack, Stream, Control}
use Rattle.qs_machine.specs.FrameStep.{frame_taken, item_taken, named}
use Rattle.qs_machine.specs.EndStep.{Call, Answer, EndStep}
use Rattle.qs_machine.proofs.EveryCall.{Change, changed, Comes, relates}
use Rattle.qs_machine.proofs.Leaves.{acks_leave, put_leaves}
use Rattle.qs_machine.proofs.Counts.{no_lane}
use Rattle.qs_machine.proofs.TableLaws.{slots_updated, slots_opened, slots_each}
use Rattle.qs_runs.specs.Logs.{History}
use Rattle.qs_runs.specs.Worlds.{World, end_of, Run}
use Rattle.qs_runs.proofs.Histories.{two_sides}
use Rattle.qs_runs.proofs.NewEnds.{first_world, made_first}
use Rattle.qs_runs.proofs.Stays.{each_side}

-- One half

abbrev Stores : Assembled → Type 0
Stores a = a.discarding ≡ false → (q : ℕ) → a.read_count ≤ q → set.contains a.received q ≡ true → is_some (fmap.get a.stored q) ≡ true

abbrev pub Unread : RecvLane → Type 0
Unread l = Stores l.arrived

some_at : (bytes : List ℕ) (k : ℕ) → k < length bytes → is_some (slice_get bytes k) ≡ true
some_at [] k lt = absurd (omega (arith, lt))
some_at (x ∷ bytes) zero lt = refl
some_at (x ∷ bytes) (suc k) lt = some_at bytes k (omega (arith, lt))

stored_put : (r : NumberSet) (m : fmap.FinMap nat_cmp ℕ) (at : ℕ) (bytes : List ℕ) (q : ℕ) → (set.contains r q ≡ true → is_some (fmap.get m q) ≡ true) → (set.contains r q || is_in_run q at (length bytes)) ≡ true → is_some (fmap.get (store r m at bytes) q) ≡ true
stored_put r m at bytes q was came = grind (arith, nat_tests, get-store, is_in_run, not, false≢true, slice_get, some_at)

stores_put : (a : Assembled) (offset : ℕ) (bytes : List ℕ) → Stores a → Stores (put a offset bytes)
stores_put a offset bytes h open_end q low came = go a.discarding open_end
  where
    go : (d : Bool) → d ≡ false → is_some (fmap.get (cond d a.stored (store a.received a.stored offset bytes)) q) ≡ true
    go d is = grind (arith, nat_tests, true≢false, stored_put, contains-with_range)

unread_read : (size : ℕ) (l : RecvLane) → Unread l → Unread (record l { arrived = take_front l.arrived size })
unread_read size l h open_end q low came = grind (arith, nat_tests, get-keep_from)

unread_answer : (r : Read) (size : ℕ) (l : RecvLane) → Unread l → Unread (after_answer r l size)
unread_answer r size l h = grind (arith, nat_tests, unread_read)

unread_stop : (code : ℕ) (l : RecvLane) → Unread l → Unread (stop l code)
unread_stop code l h = cond_both (is_some l.stop_code || is_over l) l (record l { arrived = discard l.arrived; stop_code = Some code }) Unread (λ _. h) (λ _ open_end. absurd (true≢false open_end))

unread_stream : (offset : ℕ) (bytes : List ℕ) (fin : Bool) (l : RecvLane) → Unread l → Unread (take_stream l offset bytes fin)
unread_stream offset bytes fin l h = cond_both (is_some l.reset_code) l.arrived (put l.arrived offset bytes) Stores (λ _. h) (λ _. stores_put l.arrived offset bytes h)

unread_reset : (code size : ℕ) (l : RecvLane) → Unread l → Unread (take_reset l code size)
unread_reset code size l h = grind (arith, nat_tests)

-- All halves

abbrev Slot : Option RecvLane → Type 0
Slot None = Unit {0}
Slot (Some l) = Unread l

abbrev All : Tables RecvLane → Type 0
All t = (n : ℕ) → Slot (lookup t n)

all_updated : (t : Tables RecvLane) (n : ℕ) (f : RecvLane → RecvLane) → All t → ((l : RecvLane) → Unread l → Unread (f l)) → All (updated t n f (lookup t n))
all_updated t n f all keeps = go (lookup t n) refl
  where
    go : (o : Option RecvLane) → lookup t n ≡ o → All (updated t n f o)
    go None is = all
    go (Some l) is = slots_updated (λ m o. Slot o) t n l (f l) is (λ m other. all m) (keeps l (subst Slot is (all n)))

all_opens : (n : ℕ) (e : End) → All e.recvs → All (opens n e).recvs
all_opens n e all =
    cond_both (is_uni n && is_own e n) e.recvs (open_to e.recvs n (λ m. new_lane (first_window e n) e.tuning.credit_step)) All (λ _. all)
    (λ _. slots_opened (λ m o. Slot o) e.recvs n (λ m. new_lane (first_window e n) e.tuning.credit_step) all (λ m none kind open_end q low came. absurd (false≢true (sym (set.contains-empty nat_cmp q) ∙ came))))

all_opened : (n : ℕ) (e : End) → All e.recvs → All (opened_by_peer n e).recvs
all_opened n e all = cond_both (is_own e n) e (opens n e) (λ x. All x.recvs) (λ _. all) (λ _. all_opens n e all)

all_settles : (e : End) → All e.recvs → All (settle e).recvs
all_settles e all = slots_each (λ m o. Slot o) raise e.recvs (λ m. go (lookup e.recvs m) (all m))
  where
    go : (o : Option RecvLane) → Slot o → Slot (option_map raise o)
    go None h = tt
    go (Some l) h = h

all_item : (i : Item) (e : End) → All e.recvs → All (item_taken i e).recvs
all_item i e all = grind (arith, nat_tests, all_opened, all_updated, unread_reset)

all_frame : (f : Seen) (e : End) → All e.recvs → All (frame_taken f e).recvs
unfolding frame_taken
all_frame (Ack largest ranges) e all = subst All (sym (ap (λ (x : End). x.recvs) (acks_leave (named e ranges) e))) all
all_frame (Stream n offset bytes fin) e all = all_updated (opened_by_peer n e).recvs n (λ l. take_stream l offset bytes fin) (all_opened n e all) (unread_stream offset bytes fin)
all_frame (Control i) e all = all_item i e all
all_frame _ e all = all

all_change : (old : End) (call : Call) (c : Change) (e : End) → Comes old call e c → All e.recvs → All (changed c e).recvs
all_change old call c e comes all = grind (arith, nat_tests, all_opens, all_updated, unread_stop, unread_answer, all_frame, acks_leave, put_leaves, all_settles)

all_call : (old : End) (call : Call) (answer : Answer call) (new : End) → EndStep old call answer new → All old.recvs → All new.recvs
all_call old call answer new step = relates (λ e f. All e.recvs → All f.recvs) (λ e all. all) (λ e f g x y all. y (x all)) old call (all_change old call) answer new step

all_run : (a b : Settings) (h : History) (w : World) → Run a b h w → (s : Side) → All (end_of w s).recvs
all_run a b [] w begins s =
    subst (λ x. All (end_of x s).recvs) (sym (made_first a b begins.tuned_a begins.tuned_b begins.of_a begins.of_b w begins.begun))
    (two_sides (λ t. All (end_of (first_world a b begins.tuned_a begins.tuned_b begins.of_a begins.of_b) t).recvs) A none none s)
  where
    none : (n : ℕ) → Slot (lookup (no_streams {X = RecvLane}) n)
    none n = subst Slot (sym (no_lane n)) tt
all_run a b (x ∷ h) w (v, run, step) s = each_side (λ e f. All e.recvs → All f.recvs) (λ e all. all) v w (λ t call answer made. all_call (end_of v t) call answer (end_of w t) made) h x step s (all_run a b h v run s)

pub none_unread : (a b : Settings) (h : History) (w : World) → Run a b h w → (s : Side) (n : ℕ) (l : RecvLane) → lookup (end_of w s).recvs n ≡ Some l → Unread l
none_unread a b h w run s n l is = subst Slot is (all_run a b h w run s n)

-- A read of a stream with news

front_some : (o : Option ℕ) (rest : List ℕ) → is_some o ≡ true → 0 < length (front_from o rest)
front_some o rest none = grind (arith, nat_tests)

front_has_one : (m : fmap.FinMap nat_cmp ℕ) (at size : ℕ) → is_some (fmap.get m at) ≡ true → 0 < length (front m at (suc size))
unfolding front
front_has_one m at size some = front_some (fmap.get m at) (front m (at + 1) size) some

module _ (l : RecvLane) (size : ℕ) where
  same_news : tells_something (read_answer l 1) ≡ tells_something (read_answer l (suc size))
  same_news = grind (arith, nat_tests)

  has_front : IsLawful l → Unread l → (n : ℕ) → read_answer l (suc size) ≡ reads.Bytes n → 0 < length (front_of l.arrived (suc size))
  has_front lawful unread n is = grind (arith, nat_tests, front_has_one)

  -- it changes the half
  pub news_read : IsLawful l → Unread l → is_readable l ≡ true → after_read l (suc size) ≡ l → ⊥
  news_read lawful unread news = go (read_answer l (suc size)) refl
    where
      untold : l.reader_done ≡ false
      untold = grind (arith, nat_tests)

      go : (r : Read) → read_answer l (suc size) ≡ r → after_answer r l (suc size) ≡ l → ⊥
      go (reads.Bytes n) is same = (let some = has_front lawful unread n is in let count = ap (λ (x : RecvLane). x.arrived.read_count) same in omega (arith, some, count))
      go reads.End is same = true≢false (ap (λ (x : RecvLane). x.reader_done) same ∙ untold)
      go (reads.Reset code) is same = true≢false (ap (λ (x : RecvLane). x.reader_done) same ∙ untold)
      go reads.Wait is same = false≢true (sym (ap tells_something is) ∙ sym same_news ∙ (and_parts (not l.reader_done) (tells_something (read_answer l 1)) news).1)
