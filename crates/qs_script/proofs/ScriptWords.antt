-- The words of a line.
use Rattle.std.proofs.Common.{◌≡◌, ℕ, suc, ◌+◌, ◌<◌, ◌≤◌, Bool, true, false, List, [], ◌∷◌, length, take, drop, get_or, refl, ◌∙◌, add-one, inl, inr, arith}
use Rattle.std.specs.Prelude.{◌==◌, not, filter, nat_eq, Some, None, position, unwrap_or, option_map, Result, Ok, Err, IsOk, if◌then◌else◌}
use Rattle.std.specs.Cmp.Lexicographic.{pointwise}
use Rattle.std.specs.List.{slice_split, position_or_len}
use Rattle.std.proofs.Math.Seq.{drop-cons}
use Rattle.std.proofs.lemmas.Bool.Decides.{nat_tests}
use Rattle.qs_script.specs.declared.script.Reason.{Reason}
use Rattle.qs_script.specs.declared.script.line.Verb.{Verb}
use Rattle.qs_script.specs.Scripts.{Said, said, is_word, is_comment, words_of, words_say, line_says, event_of, and_then, Reads, name_of, verb_among}

-- the word isn't the next name
pub next_verb : (vs : List Verb) (i : ℕ) (d : Verb) (w n : List ℕ) → i < length vs → n ≡ name_of (get_or vs i d) → pointwise nat_eq w n ≡ false
    → verb_among (drop i vs) w ≡ verb_among (drop (i + 1) vs) w
next_verb vs i d w n lt is other =
    let not_it : pointwise nat_eq w (name_of (get_or vs i d)) ≡ false = rw is at other in
    rw (add-one, drop-cons vs i d) (rw not_it refl)

pub drop_one : {X : Type 0} (k : ℕ) (x : X) (xs : List X) → drop (1 + k) (x ∷ xs) ≡ drop k xs
drop_one k x xs = let e : 1 + k ≡ suc k = omega arith in rw e refl

pub take_one : {X : Type 0} (k : ℕ) (x : X) (xs : List X) → take (1 + k) (x ∷ xs) ≡ x ∷ take k xs
take_one k x xs = let e : 1 + k ≡ suc k = omega arith in rw e refl

abbrev pub is_space : ℕ → Bool
is_space b = b == 32

abbrev pub no_space : ℕ → Bool
no_space b = not (b == 32)

-- spaces in front are no part of a word
pub words_skip : (s : List ℕ) → words_of (drop (position_or_len no_space s) s) ≡ words_of s
words_skip [] = refl
words_skip (b ∷ bs) = go (words_skip bs) (b == 32) refl where
  go : words_of (drop (position_or_len no_space bs) bs) ≡ words_of bs → (t : Bool) → (b == 32) ≡ t
      → words_of (drop (position_or_len no_space (b ∷ bs)) (b ∷ bs)) ≡ words_of (b ∷ bs)
  go rest true e = rw e (rw (drop_one (position_or_len no_space bs) b bs) rest)
  go rest false e = rw (e, e) refl

-- the parts behind the first one
abbrev pub more_parts : List ℕ → List (List ℕ)
more_parts [] = []
more_parts (b ∷ bs) = slice_split is_space bs

parts_cut : (t : List ℕ) → slice_split is_space t ≡ take (position_or_len is_space t) t ∷ more_parts (drop (position_or_len is_space t) t)
parts_cut [] = refl
parts_cut (b ∷ bs) = go (parts_cut bs) (b == 32) refl where
  go : slice_split is_space bs ≡ take (position_or_len is_space bs) bs ∷ more_parts (drop (position_or_len is_space bs) bs) → (x : Bool) → (b == 32) ≡ x
      → slice_split is_space (b ∷ bs) ≡ take (position_or_len is_space (b ∷ bs)) (b ∷ bs) ∷ more_parts (drop (position_or_len is_space (b ∷ bs)) (b ∷ bs))
  go rest true e = rw e refl
  go rest false e = rw (e, take_one (position_or_len is_space bs) b bs, drop_one (position_or_len is_space bs) b bs, rest) refl

-- a space in front of the rest parts it from the word
parts_rest : (t : List ℕ) → words_of (drop (position_or_len is_space t) t) ≡ filter is_word (more_parts (drop (position_or_len is_space t) t))
parts_rest [] = refl
parts_rest (b ∷ bs) = go (parts_rest bs) (b == 32) refl where
  go : words_of (drop (position_or_len is_space bs) bs) ≡ filter is_word (more_parts (drop (position_or_len is_space bs) bs)) → (x : Bool) → (b == 32) ≡ x
      → words_of (drop (position_or_len is_space (b ∷ bs)) (b ∷ bs)) ≡ filter is_word (more_parts (drop (position_or_len is_space (b ∷ bs)) (b ∷ bs)))
  go rest true e = rw (e, e) refl
  go rest false e = rw e (rw (drop_one (position_or_len is_space bs) b bs) rest)

-- a text that doesn't begin with a space begins with its first word
pub word_first : (t : List ℕ) → (is_word t ≡ true → no_space (get_or t 0 0) ≡ true) → get_or (words_of t) 0 [] ≡ take (position_or_len is_space t) t
word_first [] begins = refl
word_first (b ∷ bs) begins = go (b == 32) refl (begins refl) where
  go : (x : Bool) → (b == 32) ≡ x → no_space b ≡ true → get_or (words_of (b ∷ bs)) 0 [] ≡ take (position_or_len is_space (b ∷ bs)) (b ∷ bs)
  go true e begins = absurd (cc (rw e at begins))
  go false e begins = rw (parts_cut (b ∷ bs)) (rw (e, take_one (position_or_len is_space bs) b bs) refl)

pub word_rest : (t : List ℕ) → (is_word t ≡ true → no_space (get_or t 0 0) ≡ true) → words_of (drop (position_or_len is_space t) t) ≡ drop 1 (words_of t)
word_rest [] begins = refl
word_rest (b ∷ bs) begins = go (b == 32) refl (begins refl) where
  go : (x : Bool) → (b == 32) ≡ x → no_space b ≡ true → words_of (drop (position_or_len is_space (b ∷ bs)) (b ∷ bs)) ≡ drop 1 (words_of (b ∷ bs))
  go true e begins = absurd (cc (rw e at begins))
  go false e begins = parts_rest (b ∷ bs) ∙ rw (parts_cut (b ∷ bs)) (rw (e, take_one (position_or_len is_space bs) b bs) refl)

-- behind the spaces no space comes
pub skipped : (s : List ℕ) → is_word (drop (position_or_len no_space s) s) ≡ true → no_space (get_or (drop (position_or_len no_space s) s) 0 0) ≡ true
skipped [] some = absurd (cc (some))
skipped (b ∷ bs) some = go (λ h. skipped bs h) (b == 32) refl some where
  go : (is_word (drop (position_or_len no_space bs) bs) ≡ true → no_space (get_or (drop (position_or_len no_space bs) bs) 0 0) ≡ true) → (x : Bool) → (b == 32) ≡ x
      → is_word (drop (position_or_len no_space (b ∷ bs)) (b ∷ bs)) ≡ true → no_space (get_or (drop (position_or_len no_space (b ∷ bs)) (b ∷ bs)) 0 0) ≡ true
  go rest true e some = rw e (rw (drop_one (position_or_len no_space bs) b bs) (rest (rw (e, drop_one (position_or_len no_space bs) b bs) at some)))
  go rest false e some = rw (e, e) refl

-- a place that is found is below the length, and where none is, the length stands
pub or_len : (p : ℕ → Bool) (xs : List ℕ) → (unwrap_or (position p xs) (length xs) ≡ position_or_len p xs) × (position_or_len p xs ≤ length xs)
or_len p xs = (grind (arith, nat_tests, within p xs), within p xs) where
  within : (p : ℕ → Bool) (xs : List ℕ) → position_or_len p xs ≤ length xs
  within p [] = omega arith
  within p (x ∷ xs) = go (p x) refl (within p xs) where
    go : (b : Bool) → p x ≡ b → position_or_len p xs ≤ length xs → position_or_len p (x ∷ xs) ≤ length (x ∷ xs)
    go true e rest = rw e (omega arith)
    go false e rest = rw e (omega (arith, rest))

pub empty_text : (w : List ℕ) → (length w == 0) ≡ true → w ≡ []
empty_text [] none = refl
empty_text (b ∷ bs) none = absurd (grind (arith, nat_tests, none))

pub some_text : (w : List ℕ) → (length w == 0) ≡ false → is_word w ≡ true
some_text [] some = absurd (cc (some))
some_text (b ∷ bs) some = refl

-- where there is no first word there is none
pub no_word : (s : List ℕ) → get_or (words_of s) 0 [] ≡ [] → words_of s ≡ []
no_word s none = go (slice_split is_space s) none where
  go : (parts : List (List ℕ)) → get_or (filter is_word parts) 0 [] ≡ [] → filter is_word parts ≡ []
  go [] none = refl
  go ([] ∷ parts) none = go parts none
  go ((b ∷ bs) ∷ parts) none = absurd (cc (none))

-- the first word and those that follow
pub some_words : (s first : List ℕ) → first ≡ get_or (words_of s) 0 [] → is_word first ≡ true → words_of s ≡ first ∷ drop 1 (words_of s)
some_words s first is some = go (words_of s) is where
  go : (ws : List (List ℕ)) → first ≡ get_or ws 0 [] → ws ≡ first ∷ drop 1 ws
  go [] is = absurd (cc (some, rw is at some))
  go (w ∷ ws) is = rw is refl

-- a line without a word says nothing
pub says_nothing : (line : List ℕ) → words_of line ≡ [] → line_says line ≡ Ok None
says_nothing line none = go (is_comment line) where
  go : (b : Bool) → (if b then Ok None else words_say (words_of line)) ≡ Ok None
  go true = refl
  go false = rw none refl

-- any other line says what its words do
pub says_event : (line first rest : List ℕ) → is_comment line ≡ false → first ≡ get_or (words_of line) 0 [] → is_word first ≡ true
    → words_of rest ≡ drop 1 (words_of line) → line_says line ≡ and_then (event_of first (words_of rest)) (λ s. Ok (Some s))
says_event line first rest plain is some more = rw (plain, some_words line first is some, more) refl

-- where the words can't be read the line can't
pub unread : (read : Result Said Reason) (reason : Reason) → Reads said read (Err reason) → Reads (option_map said) (and_then read (λ s. Ok (Some s))) (Err reason)
unread read reason (inl bad) = inl (rw bad refl)
unread read reason (inr out) = inr (out.0, go read out.1) where
  go : (r : Result Said Reason) → IsOk r → IsOk (and_then r (λ s. Ok (Some s)))
  go (Ok s) good = refl
  go (Err other) good = absurd (cc (good))
