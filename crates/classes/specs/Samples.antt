-- Runs of the paper's lines: antt computes each.
-- Assumes nothing.
use Rattle.std.specs.Prelude.{◌≡◌, refl}
use Rattle.kinds.specs.Bytes.{between}
use Rattle.kinds.specs.Text.{bytes}
use Rattle.classes.specs.Bytes.{run, run_at}
use Rattle.classes.specs.declared.Class.TheVariants.{Digit, Quoted, Inside, Named}

-- a number ends at its comma, a text at its quote, a name at a star, a line at its LF
number-ends : run_at Digit (bytes "LO010,2") 2 ≡ 3
unfolding run between
number-ends = refl

text-ends : run_at Quoted (bytes "FS\"A*~ \"") 3 ≡ 4
unfolding run between
text-ends = refl

name-ends : run_at Named (bytes "FS\"A*~ \"") 3 ≡ 1
unfolding run between
name-ends = refl

line-ends : run Inside (bytes "FE\nFI\n") ≡ 2
unfolding run
line-ends = refl
