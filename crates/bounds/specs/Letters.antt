-- This serves the code alone: the letters by which it keeps the bounds of fields, and the bounds that each stands for.
-- Assumes nothing.
use Rattle.std.specs.Prelude.{ℕ, cond, eqb}
use Prim.Native.Char.{code}
use Rattle.bounds.specs.declared.Bounds.{Bounds}

abbrev pub bound : ℕ → ℕ → Bounds
bound l h = record { low = l; high = h }

unfoldable pub bound_by : ℕ → ℕ → Bounds
bound_by c rows =
    cond (eqb c (code "N")) (bound 1 rows)
    (cond (eqb c (code "a")) (bound 0 2047)
    (cond (eqb c (code "b")) (bound 1 2047)
    (cond (eqb c (code "c")) (bound 0 4095)
    (cond (eqb c (code "d")) (bound 1 80)
    (cond (eqb c (code "e")) (bound 0 3)
    (cond (eqb c (code "f")) (bound 1 6)
    (cond (eqb c (code "g")) (bound 1 9)
    (cond (eqb c (code "h")) (bound 2 10)
    (cond (eqb c (code "i")) (bound 24 1000)
    (cond (eqb c (code "j")) (bound 0 2048)
    (cond (eqb c (code "k")) (bound 0 4096)
    (cond (eqb c (code "l")) (bound 0 240)
    (cond (eqb c (code "m")) (bound 80 608)
    (cond (eqb c (code "n")) (bound 0 9)
    (cond (eqb c (code "o")) (bound 1 32)
    (cond (eqb c (code "p")) (bound 0 24)
    (cond (eqb c (code "q")) (bound 1 8)
    (cond (eqb c (code "r")) (bound 1 32768)
    (cond (eqb c (code "s")) (bound 999900001 1000099999)
    (cond (eqb c (code "t")) (bound 1 65535)
    (cond (eqb c (code "v")) (bound 0 999999999)
    (cond (eqb c (code "u")) (bound 1 12)
    (cond (eqb c (code "w")) (bound 1 31)
    (cond (eqb c (code "x")) (bound 0 99)
    (cond (eqb c (code "y")) (bound 0 23)
    (cond (eqb c (code "z")) (bound 0 59)
    (bound 0 0)))))))))))))))))))))))))))
