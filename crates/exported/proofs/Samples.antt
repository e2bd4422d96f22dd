-- What the definitions say of three calls, computed.
-- Assumes nothing.
use Rattle.std.specs.Prelude.{◌≡◌, refl, List, [], ◌∷◌, ℕ, replicate, set}
use Rattle.kinds.specs.Bytes.{between}
use Rattle.kinds.specs.Text.{bytes}
use Rattle.cells.specs.Cell.{cell, zeros as noughts}
use Rattle.cells.specs.Scan.{lowest_from}
use Rattle.parts.specs.Names.{capital}
use Rattle.store.specs.Entry.{name}
use Rattle.store.specs.Samples.{links, directory}
use Rattle.finding.specs.Find.{found}
use Rattle.answers.specs.Answers.{answer_of, number_of, is_taken}
use Rattle.lent.specs.Lent.{World, world, page_wrong, links_wrong, store_wrong, directory_wrong, lengths_wrong}
use Rattle.fits.specs.Names.{name_wrong, bears, in_use}
use Rattle.fits.specs.Fits.{lent_wrong, size_wrong, limits_wrong}
use Rattle.opening.specs.Opening.{opened}
use Rattle.low_first.specs.Low.{number_at, bytes_of}
use Rattle.image.specs.Image.{counter_bytes, session_of, image_of}
use Rattle.memory.specs.Memory.{memory}
use Rattle.writing.specs.Writing.{digits}
use Rattle.verdicts.specs.Verdicts.{wrong_name, verdict, noted, judged, unjudged, judged_all}
use Rattle.verdict_list.specs.Lines.{word, verdict_line, line_at, lines_to}
use Rattle.repair.specs.Repair.{repair_rows, repaired}
use Rattle.exported.specs.Face.{opening, opened_face, counts_stored, fitted_face, repaired_face}

-- nothing is lent
abbrev nothing : World
nothing = world [] [] [] [] []

-- an opening that is refused, 1, leaves zeros in an image that was not
zeros : opened_face (replicate 83 1) [] nothing ≡ opening 1 (replicate 83 0) [] nothing
unfolding number_of page_wrong lengths_wrong opened bytes_of counter_bytes image_of opened_face
zeros = refl

-- bytes read, bytes written, the place; two counts are left as they are
stored : counts_stored (9 ∷ 9 ∷ 9 ∷ []) 7 3 5 ≡ 7 ∷ 3 ∷ 5 ∷ []
unfolding counts_stored
stored = refl

left : counts_stored (9 ∷ 9 ∷ []) 7 3 5 ≡ 9 ∷ 9 ∷ []
unfolding counts_stored
left = refl

-- whether a form B fits on four portions and two entries: an image of another length; nothing owed; 256 labels owed
unfoldable fits_with : List ℕ → ℕ
fits_with image = fitted_face image links directory 1 (bytes "B") 0

fitted : fits_with (replicate 82 0) ∷ fits_with (replicate 83 0) ∷ fits_with (set (replicate 83 0) 12 1) ∷ [] ≡ 1 ∷ 0 ∷ 8 ∷ []
unfolding fits_with number_of answer_of links_wrong directory_wrong found lowest_from cell name between capital bears in_use name_wrong lent_wrong size_wrong limits_wrong number_at session_of fitted_face
fitted = refl

-- a repair of one portion and one entry, which is of no kind and dropped: nothing is read, `0 name` and its LF are written, and no place is pointed to
mends : (repaired_face (replicate 83 1) (9 ∷ 9 ∷ 9 ∷ []) 240 (memory (replicate 256 0) (0 ∷ []) (7 ∷ replicate 15 0)) (replicate 340 0) (replicate 8 0)).counts ≡ 0 ∷ 7 ∷ 0 ∷ []
unfolding number_of is_taken answer_of page_wrong links_wrong store_wrong directory_wrong lengths_wrong cell noughts wrong_name verdict noted judged unjudged judged_all word digits verdict_line line_at lines_to repair_rows repaired number_at session_of counts_stored repaired_face
mends = refl
