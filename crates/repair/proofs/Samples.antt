-- The call on the smallest memory, one portion and one entry, computed; from any session.
-- Assumes nothing.
use Rattle.std.specs.Prelude.{◌≡◌, refl, List, [], ◌∷◌, ℕ, replicate}
use Rattle.cells.specs.Cell.{cell, zeros}
use Rattle.kinds.specs.Text.{bytes}
use Rattle.store.specs.Chain.{free_link}
use Rattle.memory.specs.Memory.{Memory, memory}
use Rattle.answers.specs.declared.Answer.TheVariants.{Taken, Lengths, Overlong}
use Rattle.answers.specs.Answers.{number_of, is_taken, answer_of}
use Rattle.session.specs.declared.Session.{Session}
use Rattle.session.specs.Session.{fresh}
use Rattle.lent.specs.Lent.{page_wrong, links_wrong, store_wrong, directory_wrong, lengths_wrong}
use Rattle.writing.specs.Writing.{digits}
use Rattle.verdicts.specs.Verdicts.{wrong_name, verdict, noted, judged, unjudged, judged_all}
use Rattle.mending.specs.Mending.{kept_byte, kept_directory, kept_link, kept_links, kept_content, kept_store, mended_by}
use Rattle.verdict_list.specs.Lines.{word, verdict_line, line_at, lines_to}
use Rattle.repair.specs.Repair.{repaired_by, outcome, repair_rows, repaired}

-- an entry of no kind, a link that runs in a circle, a byte that nobody uses, and values of a form that was active
damaged : Memory
damaged = memory (9 ∷ replicate 255 0) (0 ∷ []) (7 ∷ replicate 15 0)

held : List ℕ
held = 1 ∷ 2 ∷ replicate 338 0

-- taken: the entry is dropped for its name, its portion is free, and behind the list the output stays
dropped : (s : Session) → repaired s 240 damaged held (bytes "........")
    ≡ repaired_by (outcome Taken (fresh 240 1) 7) (memory (replicate 256 0) (free_link ∷ []) (replicate 16 0)) (replicate 340 0) (bytes "0 name\n.")
unfolding repaired repair_rows answer_of is_taken number_of lengths_wrong page_wrong store_wrong links_wrong directory_wrong damaged held judged_all judged unjudged zeros noted verdict wrong_name cell mended_by kept_store kept_content kept_links kept_link kept_directory kept_byte lines_to line_at verdict_line word digits
dropped s = refl

-- [20]: the list has 7 bytes
too_long : (s : Session) → repaired s 240 damaged held (bytes "......") ≡ repaired_by (outcome Overlong s 0) damaged held (bytes "......")
unfolding repaired repair_rows answer_of is_taken number_of lengths_wrong page_wrong store_wrong links_wrong directory_wrong damaged held judged_all judged unjudged zeros noted verdict wrong_name cell lines_to line_at verdict_line word digits
too_long s = refl

-- [1]: N is 1 to 4,000
no_rows : (s : Session) → repaired s 0 damaged held [] ≡ repaired_by (outcome Lengths s 0) damaged held []
unfolding repaired repair_rows answer_of is_taken number_of lengths_wrong page_wrong
no_rows s = refl

rows_above : (s : Session) → repaired s 4001 damaged held [] ≡ repaired_by (outcome Lengths s 0) damaged held []
unfolding repaired repair_rows answer_of is_taken number_of lengths_wrong page_wrong
rows_above s = refl
