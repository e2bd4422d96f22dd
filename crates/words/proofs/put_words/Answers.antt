use mathlib.Core.Path.{◌∙◌, ap}
use Prim.Native.Nat.{ℕ}
use Rattle.writing.proofs.Writes.{wrote-same}
use Rattle.words.specs.Words.{words_of}
use Rattle.words.specs.Lines.{line_of}
use Rattle.words.proofs.Table.{line, table, words-line}
use Rattle.words.proofs.put_words.Goals as goal

pub returns : goal.returns
unfolding line table words_of
returns c = wrote-same c.put.ensures (c.line_of.ensures ∙ (ap (λ (n : ℕ). line_of n table) c.number.ensures ∙ words-line c.args.a))
