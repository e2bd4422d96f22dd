-- Paper 02, §8: slanted lines as they are read, kept and drawn.
-- Assumes nothing.
use Rattle.std.specs.Prelude.{ℕ, ◌+◌, List, [], ◌∷◌, ◌++◌, map, get_or, replicate, Result, Ok, Err}
use Rattle.read.specs.declared.Fault.{Fault}
use Rattle.grammar.specs.declared.Command.{Command}
use Rattle.kinds.specs.Text.{bytes}
use Rattle.calendar.specs.Clock.{fresh as midnight}
use Rattle.counters.specs.Counters.{none_set}
use Rattle.dots.specs.declared.Ink.{Ink}
use Rattle.grammar.specs.declared.Item.TheVariants.{Slant}
use Rattle.grammar.specs.declared.Command.TheVariants.{Item as item}
use Rattle.read.specs.declared.Fault.TheVariants.{Form as form, Limit}
use Rattle.read.specs.Commands.{read_of}
use Rattle.item_drawing.specs.Draw.{setting}
use Rattle.form_drawing.specs.Draw.{form_drawn}
use Rattle.cases.specs.Calls.{font}

-- ---- "a, d 0..2047; b, e 0..4095; thickness c 1..80"

-- all at their least and at their most; each in turn one beyond its most, c also below its least; all beyond
abbrev pub numbers : List (List ℕ)
numbers =
    bytes "0,0,1,0,0"
    ∷ bytes "2047,4095,80,2047,4095"
    ∷ bytes "2048,4095,80,2047,4095"
    ∷ bytes "2047,4096,80,2047,4095"
    ∷ bytes "2047,4095,81,2047,4095"
    ∷ bytes "2047,4095,0,2047,4095"
    ∷ bytes "2047,4095,80,2048,4095"
    ∷ bytes "2047,4095,80,2047,4096"
    ∷ bytes "2048,4096,81,2048,4096"
    ∷ []

-- behind `LS`, `LSE` or `LSW`
abbrev pub read_behind : List ℕ → List (Result Command Fault)
read_behind letters = map (λ (n : List ℕ). read_of 240 (letters ++ n)) numbers

abbrev pub slant : Ink → ℕ → ℕ → ℕ → ℕ → ℕ → Result Command Fault
slant ink a b c d e = Ok (item (Slant (record { ink = ink; a = a; b = b; c = c; d = d; e = e })))

-- a line in an ink, or 7 at the number that is out, of which the first stands at a place
abbrev pub expected : Ink → ℕ → List (Result Command Fault)
expected ink at =
    slant ink 0 0 1 0 0
    ∷ slant ink 2047 4095 80 2047 4095
    ∷ Err (Limit at)
    ∷ Err (Limit (at + 5))
    ∷ Err (Limit (at + 10))
    ∷ Err (Limit (at + 10))
    ∷ Err (Limit (at + 13))
    ∷ Err (Limit (at + 18))
    ∷ Err (Limit at)
    ∷ []

-- ---- 6, with its place

-- letters alone; another letter behind them, a small one, both; four numbers and six; 6 before 7
abbrev pub unwritten : List (List ℕ × ℕ)
unwritten =
    (bytes "LS", 2)
    ∷ (bytes "LSE", 3)
    ∷ (bytes "LSW", 3)
    ∷ (bytes "LSX1,1,1,1,1", 2)
    ∷ (bytes "LSe1,1,1,1,1", 2)
    ∷ (bytes "LSEW1,1,1,1,1", 3)
    ∷ (bytes "LSE1,1,1,1", 10)
    ∷ (bytes "LS1,1,1,1,1,1", 11)
    ∷ (bytes "LSW2048,0,0,0,0,", 15)
    ∷ []

abbrev pub read_as : List (List ℕ × ℕ) → List (Result Command Fault)
read_as cs = map (λ (c : List ℕ × ℕ). read_of 240 c.0) cs

abbrev pub pointed : List (List ℕ × ℕ) → List (Result Command Fault)
pointed cs = map (λ (c : List ℕ × ℕ). Err (form c.1)) cs

-- ---- what a form draws on a page of four rows, and the first byte of each

abbrev pub page : ℕ → List ℕ
page byte = replicate 304 byte

abbrev pub draws : ℕ → ℕ → List ℕ → List ℕ → List ℕ
draws width length lines p = form_drawn (setting font [] [] [] [] none_set midnight width length) 0 0 lines p

abbrev pub firsts : List ℕ → List ℕ
firsts p = get_or p 0 0 ∷ get_or p 76 0 ∷ get_or p 152 0 ∷ get_or p 228 0 ∷ []
