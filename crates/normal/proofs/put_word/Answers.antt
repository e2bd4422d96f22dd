use Prim.Native.Char.{code}
use borrow.Author.Tests.{ne_eqb}
use Rattle.normal.specs.Written.{word_written}
use Rattle.normal.proofs.put_word.Goals as goal

pub returns-in-78 : goal.returns-in-78
unfolding word_written
returns-in-78 c = rw c.in-78.is c.put.ensures

pub returns-in-66 : goal.returns-in-66
unfolding word_written
returns-in-66 c = rw c.in-66.is c.put-in-66.ensures

pub returns-in-67 : goal.returns-in-67
unfolding word_written
returns-in-67 c = rw c.in-67.is c.put_placed.ensures

pub returns-in_default : goal.returns-in_default
unfolding word_written
returns-in_default c = let r = c.in_default.in_default-own.rest in simp (ne_eqb _ (code "N") r.0.0.1, ne_eqb _ (code "B") r.0.1, ne_eqb _ (code "C") r.1) c.put_placed-in_default.ensures
