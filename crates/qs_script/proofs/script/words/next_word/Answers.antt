use Rattle.std.proofs.Common.{◌≡◌, sym, ap, ◌∙◌, drop, take, get_or, []}
use Rattle.std.specs.List.{position_or_len}
use Rattle.qs_script.specs.Scripts.{words_of}
use Rattle.qs_script.proofs.ScriptWords.{is_space, no_space, words_skip, word_first, word_rest, skipped}
use Rattle.qs_script.proofs.script.words.next_word.Goals as goal

pub returns-clause-word : goal.returns-clause-word
returns-clause-word c =
    let line = c.args.line.now in
    let text : c.split_at.result.1.now ≡ drop (position_or_len no_space line) line =
    c.split_at.ensures.back ∙ ap (λ n. drop n line) c.spaces.ensures.place in
    let word : c.split_at-2.result.0.now ≡ take (position_or_len is_space c.split_at.result.1.now) c.split_at.result.1.now =
    c.split_at-2.ensures.front ∙ ap (λ n. take n c.split_at.result.1.now) c.word_len.ensures.place in
    let first = word_first (drop (position_or_len no_space line) line) (skipped line) in
    rw (word, text) (sym first ∙ ap (λ ws. get_or ws 0 []) (words_skip line))

pub returns-clause-rest : goal.returns-clause-rest
returns-clause-rest c =
    let line = c.args.line.now in
    let text : c.split_at.result.1.now ≡ drop (position_or_len no_space line) line =
    c.split_at.ensures.back ∙ ap (λ n. drop n line) c.spaces.ensures.place in
    let after : c.split_at-2.result.1.now ≡ drop (position_or_len is_space c.split_at.result.1.now) c.split_at.result.1.now =
    c.split_at-2.ensures.back ∙ ap (λ n. drop n c.split_at.result.1.now) c.word_len.ensures.place in
    let rest = word_rest (drop (position_or_len no_space line) line) (skipped line) in
    rw (after, text) (rest ∙ ap (λ ws. drop 1 ws) (words_skip line))
