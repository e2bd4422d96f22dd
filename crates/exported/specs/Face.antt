-- "Opening, command and label calls exported on numbers and byte slices": the station's calls on the session of a lent image.
-- Assumes nothing.
use Rattle.std.specs.Prelude.{ℕ, Bool, not, ◌||◌, cond, List, [], ◌∷◌, length, eqb}
use Rattle.answers.specs.declared.Answer.TheVariants.{Lengths}
use Rattle.answers.specs.Answers.{answer_of, number_of, place_of}
use Rattle.lent.specs.Lent.{World}
use Rattle.session.specs.declared.Labelled.{Labelled}
use Rattle.clock_call.specs.Passing.{passed}
use Rattle.fits.specs.Fits.{fit_rows}
use Rattle.memory.specs.Memory.{Memory}
use Rattle.repair.specs.Repair.{Repaired, repaired}
use Rattle.calls.specs.Outcomes.{After, Drawn, Opened}
use Rattle.calls.specs.Station.{opened, commanded, labelled_by}
use Rattle.image.specs.Image.{image_size, session_of, image_of}

-- [1] a session image of another length, or counts of another length
abbrev pub image_wrong : List ℕ → Bool
image_wrong image = not (eqb (length image) image_size)

-- bytes read, bytes written, and the place in the line that the answer points to
abbrev pub counts_size : ℕ
counts_size = 3

abbrev pub counts_wrong : List ℕ → Bool
counts_wrong counts = not (eqb (length counts) counts_size)

-- ---- opening

-- what the call leaves: its answer's number, the image, the page and the lists
pub record OpenedFace : Type 0 where
  pub answer : ℕ
  pub image : List ℕ
  pub page : List ℕ
  pub world : World

abbrev pub opening : ℕ → List ℕ → List ℕ → World → OpenedFace
opening a i p w = record { answer = a; image = i; page = p; world = w }

abbrev pub opening_of : Opened → OpenedFace
opening_of o = opening (number_of o.outcome.answer) (image_of o.outcome.session) o.page o.world

-- an image of another length is left as it is, with all else; "a refused opening returns zeros", and their image is 83 zeros (`zeros-image`)
unfoldable pub opened_face : List ℕ → List ℕ → World → OpenedFace
opened_face image page w = cond (image_wrong image) (opening (number_of Lengths) image page w) (opening_of (opened page w))

-- ---- a command

-- what the call leaves: its answer's number, the image, the counts, the lists and the output
pub record CommandedFace : Type 0 where
  pub answer : ℕ
  pub image : List ℕ
  pub counts : List ℕ
  pub world : World
  pub output : List ℕ

abbrev pub commanding : ℕ → List ℕ → List ℕ → World → List ℕ → CommandedFace
commanding a i c w o = record { answer = a; image = i; counts = c; world = w; output = o }

-- bytes read, bytes written, the place: stored at every answer; counts of another length are left as they are
unfoldable pub counts_stored : List ℕ → ℕ → ℕ → ℕ → List ℕ
counts_stored counts read written place = cond (counts_wrong counts) counts (read ∷ written ∷ place ∷ [])

abbrev pub commanding_of : List ℕ → After → CommandedFace
commanding_of counts o =
    commanding (number_of o.outcome.answer) (image_of o.outcome.session) (counts_stored counts o.outcome.read o.outcome.written (place_of o.outcome.answer))
    o.world
    o.output

unfoldable pub commanded_face : List ℕ → List ℕ → List ℕ → World → List ℕ → List ℕ → CommandedFace
commanded_face image counts font w output input =
    cond (image_wrong image || counts_wrong counts)
    (commanding (number_of Lengths) image (counts_stored counts 0 0 0) w output)
    (commanding_of counts (commanded (session_of image) font w output input))

-- ---- a label

-- what the call leaves: its answer's number, the image and the page
pub record LabelledFace : Type 0 where
  pub answer : ℕ
  pub image : List ℕ
  pub page : List ℕ

abbrev pub labelling : ℕ → List ℕ → List ℕ → LabelledFace
labelling a i p = record { answer = a; image = i; page = p }

abbrev pub labelling_of : Drawn → LabelledFace
labelling_of o = labelling (number_of o.outcome.answer) (image_of o.outcome.session) o.page

unfoldable pub labelled_face : List ℕ → List ℕ → World → List ℕ → LabelledFace
labelled_face image font w page =
    cond (image_wrong image) (labelling (number_of Lengths) image page) (labelling_of (labelled_by (session_of image) font w page))

-- ---- the clock

-- what the call leaves: its answer's number and the image
pub record ClockedFace : Type 0 where
  pub answer : ℕ
  pub image : List ℕ

abbrev pub clocking : ℕ → List ℕ → ClockedFace
clocking a i = record { answer = a; image = i }

abbrev pub clocking_of : Labelled → ClockedFace
clocking_of o = clocking (number_of o.answer) (image_of o.session)

-- paper 02, §10: seconds pass
unfoldable pub clocked_face : List ℕ → ℕ → ClockedFace
clocked_face image seconds = cond (image_wrong image) (clocking (number_of Lengths) image) (clocking_of (passed (session_of image) seconds))

-- ---- will it fit?

-- paper 02, §7: the answer's number. "It changes nothing": what the call is lent it has at exit as at entry
unfoldable pub fitted_face : List ℕ → List ℕ → List ℕ → ℕ → List ℕ → ℕ → ℕ
fitted_face image links directory kind name size =
    number_of (cond (image_wrong image) Lengths (answer_of (fit_rows (session_of image).owed links directory kind name size)))

-- ---- a repair

-- what the call leaves: its answer's number, the image, the counts, the memory, the values and the output
pub record RepairedFace : Type 0 where
  pub answer : ℕ
  pub image : List ℕ
  pub counts : List ℕ
  pub memory : Memory
  pub values : List ℕ
  pub output : List ℕ

abbrev pub repairing : ℕ → List ℕ → List ℕ → Memory → List ℕ → List ℕ → RepairedFace
repairing a i c m v o = record { answer = a; image = i; counts = c; memory = m; values = v; output = o }

-- nothing is read and no place is pointed to: "counts: 0, written, 0"
abbrev pub repairing_of : List ℕ → Repaired → RepairedFace
repairing_of counts r =
    repairing (number_of r.outcome.answer) (image_of r.outcome.session) (counts_stored counts 0 r.outcome.written 0) r.memory r.values r.output

-- paper 02, §11: a store that came back from a bad card
unfoldable pub repaired_face : List ℕ → List ℕ → ℕ → Memory → List ℕ → List ℕ → RepairedFace
repaired_face image counts rows m values output =
    cond (image_wrong image || counts_wrong counts)
    (repairing (number_of Lengths) image (counts_stored counts 0 0 0) m values output)
    (repairing_of counts (repaired (session_of image) rows m values output))
