-- The list, computed.
-- Assumes nothing.
use Rattle.std.specs.Prelude.{◌≡◌, refl, [], ◌∷◌, ◌++◌, replicate}
use Rattle.kinds.specs.Text.{bytes}
use Rattle.writing.specs.Writing.{digits}
use Rattle.verdicts.specs.Verdicts.{unsaid, kept, for_name, for_chain, for_size, for_shared, for_content}
use Rattle.verdict_list.specs.Lines.{word, verdict_line, line_at, lines_to, verdict_list}

-- entry 1 is empty: its number is passed over
some : verdict_list (kept ∷ unsaid ∷ for_shared ∷ for_content ∷ []) ≡ bytes "0 kept\n2 shared\n3 content\n"
unfolding lines_to line_at verdict_line word digits
some = refl

every-word : verdict_list (for_content ∷ for_shared ∷ for_size ∷ for_chain ∷ for_name ∷ kept ∷ []) ≡ bytes "0 content\n1 shared\n2 size\n3 chain\n4 name\n5 kept\n"
unfolding lines_to line_at verdict_line word digits
every-word = refl

-- the last entry of 512
last : verdict_list (replicate 511 unsaid ++ (for_chain ∷ [])) ≡ bytes "511 chain\n"
unfolding lines_to line_at verdict_line word digits
last = refl
