-- Paper 01, "Proof cases": "One statement over one table covers these ten". What each case asks, of which bytes, and what it expects.
-- Assumes nothing.
use Prim.Native.Char.{code}
use Rattle.std.specs.Prelude.{ℕ, min, cond, List, [], ◌∷◌, ◌++◌, map, replicate, eqb}
use Rattle.kinds.specs.Text.{bytes}
use Rattle.fields.specs.Field.{kind_from}
use Rattle.symbols.specs.Elements.{check_digit}
use Rattle.code128.specs.Code128.{check128}
use Rattle.shortest.specs.Found.{our_writing}
use Rattle.bars.specs.Drawing.{widths}
use Rattle.code128.specs.Widths.{sum}
use Rattle.frames.specs.Frame.{frame}
use Rattle.dots.specs.Cases.{count_below}
use Rattle.pcx.specs.Cases.{header}
use Rattle.declarations.specs.declared.Declared.{Declared}
use Rattle.declarations.specs.Declarations.{nothing, with_variable}
use Rattle.counters.specs.Counters.{counter_value, none_set}
use Rattle.stored_values.specs.Stored.{variable_entered}
use Rattle.calendar.specs.Clock.{fresh as midnight}
use Rattle.pieces.specs.Data.{data_of, values_in}
use Rattle.cases.specs.Calls.{Stand, start, calls, labels}

-- ---- what is asked

-- a part of a session: so many calls that read an input, or so many labels
pub data Part : Type 0 where
  Reads : ℕ → List ℕ → Part
  Draws : ℕ → Part

pub data Asked : Type 0 where
  -- after opening and these parts of a session: the answers, the bytes listed, the black dots of each label, and the value of a counter then
  Answers : List Part → Asked
  Listing : List Part → Asked
  Black : List Part → Asked
  Counter : List Part → ℕ → Asked
  -- the check digit or check symbol of data of a bar type, and the dots that they are wide with narrow e and wide f: modules, where e is 1
  Check : ℕ → List ℕ → Asked
  Wide : ℕ → ℕ → ℕ → List ℕ → Asked
  -- the dots of a frame's first row and first column
  Framed : ℕ → ℕ → ℕ → ℕ → ℕ → Asked
  -- what data show where V0 of length m, left justified, has a value
  Shows : ℕ → List ℕ → List ℕ → Asked

abbrev pub V0 : ℕ → Declared
V0 m = with_variable nothing 0 m (code "L")

-- ---- what the definitions give

-- one part after another
abbrev pub run : List Part → Stand → Stand
run [] t = t
run (Reads n input ∷ rest) t = run rest (calls n input t)
run (Draws k ∷ rest) t = run rest (labels k t)

abbrev pub gives : Asked → List ℕ
gives (Answers parts) = (run parts start).answers
gives (Listing parts) = (run parts start).listed
gives (Black parts) = (run parts start).black
gives (Counter parts c) = counter_value (run parts start).session.counters c ∷ []
gives (Check t text) = cond (eqb t 30) (check_digit text) (check128 (our_writing text)) ∷ []
gives (Wide t e f text) = sum (widths (kind_from t) e f text) ∷ []
gives (Framed a b c d e) = count_below 608 (λ x. frame a b c d e x (min b e)) ∷ count_below 4000 (λ y. frame a b c d e (min a d) y) ∷ []
gives (Shows m value line) = data_of line 0 (V0 m) (values_in (variable_entered (V0 m) 0 value (replicate 340 0)).values none_set midnight)

-- ---- the table

-- a row: the number of the case, what it asks, and what it expects
pub record Case : Type 0 where
  pub number : ℕ
  pub asked : Asked
  pub expected : List ℕ

abbrev pub case : ℕ → Asked → List ℕ → Case
case n a e = record { number = n; asked = a; expected = e }

-- "Sample session": its input
abbrev pub sample : List ℕ
sample = bytes "FS\"Test\"\nC0,02,+1,\"NO\"\nLO0,0,8,2\nFE\nFI\nFR\"TEST\"\nP2\n?C0,99\nP2\n"

-- a legal picture with 192 put in front of its runs, as byte 128
abbrev pub wrong_picture : List ℕ
wrong_picture = header ++ (192 ∷ 195 ∷ 0 ∷ 15 ∷ 194 ∷ 255 ∷ [])

-- paper 02, §3: the session's "second P2 is now refused, and C0 stays 99"
abbrev pub sample_session : List Part
sample_session = Reads 9 sample ∷ []

-- and on from there: P1 is taken and its label drawn, "the counter becomes unset", and the next P is refused for that
abbrev pub last_label : List Part
last_label = Reads 9 sample ∷ Reads 1 (bytes "P1\n") ∷ Draws 1 ∷ Reads 1 (bytes "P1\n") ∷ []

abbrev pub table : List Case
table =
    case 1 (Answers sample_session) (0 ∷ 0 ∷ 0 ∷ 0 ∷ 0 ∷ 0 ∷ 18 ∷ 0 ∷ 22 ∷ [])
    ∷ case 1 (Listing sample_session) (bytes "23,\"TEST\"\n")
    ∷ case 1 (Counter sample_session 0) (99 ∷ [])
    ∷ case 1 (Answers last_label) (0 ∷ 0 ∷ 0 ∷ 0 ∷ 0 ∷ 0 ∷ 18 ∷ 0 ∷ 22 ∷ 0 ∷ 0 ∷ 18 ∷ [])
    ∷ case 1 (Black last_label) (16 ∷ [])
    ∷ case 1 (Counter last_label 0) (0 ∷ [])
    ∷ case 2 (Check 30 (bytes "123456789012")) (8 ∷ [])
    ∷ case 3 (Check 1 (bytes "A")) (34 ∷ [])
    ∷ case 3 (Wide 1 1 2 (bytes "A")) (46 ∷ [])
    ∷ case 4 (Wide 3 2 5 (bytes "1")) (85 ∷ [])
    ∷ case 5 (Wide 2 2 5 (bytes "12")) (49 ∷ [])
    ∷ case 6 (Framed 10 10 3 360 250) (350 ∷ 240 ∷ [])
    ∷ case 7 (Shows 5 (bytes "ABCDE") (bytes "V0L1V0M3.2V0R1")) (bytes "ACDE")
    ∷ case 8 (Answers (Reads 1 (bytes "q80\n") ∷ [])) (0 ∷ [])
    ∷ case 8 (Answers (Reads 1 (bytes "q79\n") ∷ [])) (7 ∷ [])
    ∷ case 9 (Answers (Reads 1 (replicate 255 65) ∷ [])) (4 ∷ [])
    ∷ case 9 (Answers (Reads 1 (replicate 256 65) ∷ [])) (5 ∷ [])
    ∷ case 10 (Answers (Reads 1 (bytes "GM\"A\",134\n" ++ wrong_picture) ∷ [])) (16 ∷ [])
    ∷ []

abbrev pub given : List Case → List (List ℕ)
given cs = map (λ (c : Case). gives c.asked) cs

abbrev pub expected : List Case → List (List ℕ)
expected cs = map (λ (c : Case). c.expected) cs
