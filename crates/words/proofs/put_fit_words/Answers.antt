use mathlib.Core.Path.{◌≡◌, sym, ◌∙◌}
use mathlib.Core.Bool.{true, false}
use Rattle.answers.specs.Answers.{is_taken}
use Rattle.words.specs.Words.{fit_words}
use Rattle.words.proofs.put_fit_words.Goals as goal

pub returns-then-is_taken : goal.returns-then-is_taken
unfolding fit_words
returns-then-is_taken c = let e : is_taken c.args.a ≡ true = sym c.is_taken.ensures ∙ c.if-is_taken.true in
    rw e c.put.ensures

pub returns : goal.returns
unfolding fit_words
returns c = let e : is_taken c.args.a ≡ false = sym c.is_taken.ensures ∙ c.if-is_taken.false in
    rw e c.put_words.ensures
