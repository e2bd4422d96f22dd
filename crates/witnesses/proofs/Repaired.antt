-- Paper 02, §11: no premise on a repair is empty. Of a damaged memory one form is kept and another entry dropped, the repair is taken, and what it leaves has started from it.
-- Assumes nothing.
use mathlib.Core.Path.{◌≡◌, refl}
use mathlib.Core.List.{List, [], ◌∷◌, ◌++◌}
use Prim.Native.Nat.{ℕ}
use Prim.Native.Char.{code}
use lib.ListN.{take, replicate}
use Rattle.cells.specs.Cell.{cell, zeros}
use Rattle.cells.specs.Scan.{lowest_from}
use Rattle.store.specs.Chain.{end_link}
use Rattle.store.specs.Entry.{name, first, size}
use Rattle.finding.specs.Find.{found, same_name, titled}
use Rattle.contents.specs.Content.{bytes_from, extent, content_of}
use Rattle.content_lines.specs.Lines.{lines_of}
use Rattle.memory.specs.Memory.{Memory, memory}
use Rattle.store_sound.specs.Sound.{legal_byte, name_byte_ok, name_ok}
use Rattle.forms.specs.Form.{takes_all, form_ok}
use Rattle.content_check.specs.Contents.{content_ok}
use Rattle.writing.specs.Writing.{digits}
use Rattle.answers.specs.Answers.{number_of, is_taken, answer_of}
use Rattle.session.specs.Session.{none}
use Rattle.lent.specs.Lent.{page_wrong, links_wrong, store_wrong, directory_wrong, lengths_wrong}
use Rattle.verdicts.specs.Verdicts.{kept, for_chain, kept_as, name_kept, wrong_name, walked, wrong_size, shared, wrong_content, verdict, noted, judged, unjudged, judged_all}
use Rattle.verdict_list.specs.Lines.{word, verdict_line, line_at, lines_to}
use Rattle.repair.specs.Repair.{repair_rows, repaired}
use Rattle.demands.specs.KeepsSoundCalls.{Start, repairs, Begins, started_state}
use Rattle.demands.specs.Calls.{Started}

-- a form of a name of one byte, without lines
abbrev form : ℕ → ℕ → List ℕ
form n p = 1 ∷ 1 ∷ n ∷ (replicate 7 0 ++ (p ∷ replicate 5 0))

-- "A" in portion 1; "B" in portion 0, whose link leads to itself
abbrev card : Memory
card = memory (replicate 512 0) (0 ∷ end_link ∷ []) (form (code "A") 1 ++ form (code "B") 0)

one_of_two : take 2 (judged_all card).verdicts ≡ kept ∷ for_chain ∷ []
unfolding judged_all judged unjudged zeros noted verdict wrong_name name_kept kept_as found lowest_from walked wrong_size shared wrong_content content_ok form_ok takes_all lines_of titled same_name name name_ok name_byte_ok legal_byte first size cell content_of extent bytes_from
one_of_two = refl

abbrev repairing : Start
repairing = repairs none 240 card (replicate 340 0) (replicate 16 0)

pub repair-begins : Begins repairing
unfolding repaired repair_rows answer_of is_taken number_of lengths_wrong page_wrong store_wrong links_wrong directory_wrong lines_to line_at verdict_line word digits judged_all judged unjudged zeros noted verdict wrong_name name_kept kept_as found lowest_from walked wrong_size shared wrong_content content_ok form_ok takes_all lines_of titled same_name name name_ok name_byte_ok legal_byte first size cell content_of extent bytes_from
repair-begins = refl

pub started-repaired : Started (started_state repairing).session (started_state repairing).world
started-repaired = record { start = repairing; begins = repair-begins; calls = []; here = refl }
