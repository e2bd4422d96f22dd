-- Paper 01, "Sample session": the station that it runs on, from opening on; calls that read commands, and label calls.
-- Assumes nothing.
use Rattle.std.specs.Prelude.{ℕ, zero, suc, ◌*◌, List, [], ◌∷◌, ◌++◌, take, drop, replicate}
use Rattle.pages.specs.Pages.{black_dots}
use Rattle.session.specs.declared.Session.{Session}
use Rattle.lent.specs.Lent.{World, world}
use Rattle.answers.specs.Answers.{number_of}
use Rattle.calls.specs.Outcomes.{After, Drawn, Opened}
use Rattle.calls.specs.Station.{opened, commanded, labelled_by}

-- "240 rows, 64 portions, 8 entries"
abbrev pub rows : ℕ
rows = 240

abbrev pub portions : ℕ
portions = 64

abbrev pub entries : ℕ
entries = 8

-- "an empty 8 by 8 font"
abbrev pub font : List ℕ
font = 1 ∷ 2 ∷ 0 ∷ 8 ∷ 8 ∷ 255 ∷ 0 ∷ 0 ∷ []

-- what is lent for the station; opening clears it
unfoldable pub lent : World
lent = world (replicate (76 * rows) 1) (replicate (256 * portions) 1) (replicate portions 1) (replicate (16 * entries) 1) (replicate 340 1)

-- the output that each call is lent
abbrev pub output : List ℕ
output = replicate 16 0

-- where a station stands, and what its calls have given: the numbers of the answers, the bytes listed, the black dots of the labels
pub record Stand : Type 0 where
  pub session : Session
  pub world : World
  pub page : List ℕ
  pub answers : List ℕ
  pub listed : List ℕ
  pub black : List ℕ

abbrev pub stand : Session → World → List ℕ → List ℕ → List ℕ → List ℕ → Stand
stand s w p a l b = record { session = s; world = w; page = p; answers = a; listed = l; black = b }

-- after opening
abbrev pub begun : Opened → Stand
begun o = stand o.outcome.session o.world o.page [] [] []

unfoldable pub start : Stand
start = begun (opened (replicate (76 * rows) 1) lent)

-- after a call that reads a command
abbrev pub after_call : Stand → After → Stand
after_call t a =
    stand a.outcome.session a.world t.page (t.answers ++ (number_of a.outcome.answer ∷ []))
    (t.listed ++ take a.outcome.written a.output)
    t.black

-- so many calls, each of which reads at the front of what the calls before it left unread
abbrev pub calls : ℕ → List ℕ → Stand → Stand
calls zero input t = t
calls (suc n) input t =
    let a : After = commanded t.session font t.world output input in calls n (drop a.outcome.read input) (after_call t a)

-- after a label call
abbrev pub after_label : Stand → Drawn → Stand
after_label t d =
    stand d.outcome.session t.world d.page (t.answers ++ (number_of d.outcome.answer ∷ [])) t.listed
    (t.black ++ (black_dots d.page ∷ []))

-- so many labels
abbrev pub labels : ℕ → Stand → Stand
labels zero t = t
labels (suc n) t = labels n (after_label t (labelled_by t.session font t.world t.page))
