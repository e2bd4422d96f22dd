-- Paper 02, §6: the number of free portions, command by command. Through the sample session, and on a small station, where a form fills a portion, needs one more,
-- and makes room again.
-- Assumes nothing.
use Rattle.std.specs.Prelude.{ℕ, zero, suc, List, [], ◌∷◌, ◌++◌, map, drop, replicate}
use Prim.Native.Char.{code}
use Rattle.kinds.specs.Text.{bytes}
use Rattle.store.specs.Chain.{end_link, free_link}
use Rattle.pcx.specs.Cases.{file}
use Rattle.session.specs.declared.Session.{Session}
use Rattle.session.specs.Session.{fresh}
use Rattle.answers.specs.Answers.{number_of}
use Rattle.lent.specs.Lent.{World, world}
use Rattle.calls.specs.Outcomes.{After}
use Rattle.calls.specs.Station.{commanded}
use Rattle.calls.specs.Running.{line_by}
use Rattle.cases.specs.Calls.{font, output}

-- the number after each of so many calls, each of which reads at the front of what the calls before it left unread
abbrev pub free_after : ℕ → List ℕ → Session → World → List ℕ
free_after zero input s w = []
free_after (suc n) input s w =
    let a : After = commanded s font w output input in
    a.outcome.session.free ∷ free_after n (drop a.outcome.read input) a.outcome.session a.world

-- ---- a station of one row, four portions and two entries, where a form A of eleven lines and 242 bytes is being recorded

abbrev pub recording : Session
recording = fresh 1 3

abbrev pub boxes : ℕ → List ℕ
boxes zero = []
boxes (suc n) = bytes "LO2047,2047,2047,2047\n" ++ boxes n

abbrev pub portion : List ℕ
portion = boxes 11 ++ replicate 14 0

abbrev pub links : List ℕ
links = end_link ∷ replicate 3 free_link

abbrev pub directory : List ℕ
directory = 3 ∷ 1 ∷ code "A" ∷ (replicate 9 0 ++ (242 ∷ replicate 19 0))

unfoldable pub memory : World
memory = world (replicate 76 0) (portion ++ replicate 768 0) links directory (replicate 340 0)

-- a line, the bytes that follow it, and the number after it
pub record Step : Type 0 where
  pub line : List ℕ
  pub more : List ℕ
  pub free : ℕ

abbrev pub then : List ℕ → ℕ → Step
then line n = record { line = line; more = []; free = n }

-- with its LF the line fills the form's portion; GM, GK and `FK"*"` behind it
abbrev pub filled : List Step
filled =
    then (bytes "LO0,0,100,100") 3
    ∷ then (bytes "FE") 3
    ∷ record { line = bytes "GM\"B\",133"; more = file; free = 2 }
    ∷ then (bytes "FR\"A\"") 2
    ∷ then (bytes "GK\"B\"") 3
    ∷ then (bytes "FK\"*\"") 4
    ∷ []

-- a byte more, and it takes another portion; both are free again when the form is erased
abbrev pub outgrown : List Step
outgrown = then (bytes "LO0,0,1000,100") 2 ∷ then (bytes "FE") 2 ∷ then (bytes "FK\"A\"") 4 ∷ []

-- each step's answer by the table, its rows of font and sound aside, and the number after it
abbrev pub given : List Step → Session → World → List (ℕ × ℕ)
given [] s w = []
given (t ∷ ts) s w =
    let r = line_by font w s t.line t.more [] in
    (number_of r.done.answer, r.done.session.free) ∷ given ts r.done.session r.world

-- all are taken
abbrev pub expected : List Step → List (ℕ × ℕ)
expected ts = map (λ (t : Step). (0, t.free)) ts
