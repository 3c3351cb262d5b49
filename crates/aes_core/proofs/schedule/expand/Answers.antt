use Rattle.std.proofs.Common.{◌≡◌, ◌+◌, ◌*◌, ◌≤◌, inl, inr, length, ap, ◌∙◌, arith}
use Rattle.aes_core.specs.Expansion.{expanded, words_of, rounds_of, key_expansion}
use Rattle.aes_core.proofs.ScheduleLemmas.{key_sizes, whole_words, expanded_length, expanded_more}
use Rattle.aes_core.proofs.schedule.expand.Goals as goal

pub words-init : goal.words-init
unfolding expanded
words-init c = c.new-words.ensures

pub next_word-next-requires-clause-before : goal.next_word-next-requires-clause-before
next_word-next-requires-clause-before c =
    ap length c.words.invariant ∙ expanded_length (words_of c.args.key.now) c.args.key.now c.words.i (whole_words c.args.key.now c.requires)

pub push_word-requires : goal.push_word-requires
push_word-requires c =
    let before : length c.words.words ≡ 4 * c.words.i =
    ap length c.words.invariant ∙ expanded_length (words_of c.args.key.now) c.args.key.now c.words.i (whole_words c.args.key.now c.requires) in
    let few : length c.args.key.now ≤ 32 = elim (key_sizes (length c.args.key.now) c.requires) [ inl e ↦ omega arith | inr more ↦ elim more [ inl e ↦ omega arith | inr e ↦ omega arith ] ] in
    omega arith

pub words-preserved : goal.words-preserved
words-preserved c = let more = expanded_more (words_of c.args.key.now) c.args.key.now c.words.i in cc

pub returns : goal.returns
unfolding key_expansion
returns c = let all : c.words.i ≡ 4 * (rounds_of c.args.key.now + 1) = omega arith in cc
