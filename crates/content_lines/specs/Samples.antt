-- The lines of a small content, computed.
use Rattle.std.specs.Prelude.{◌≡◌, refl, List, [], ◌∷◌, ℕ, replicate}
use Prim.Native.Char.{code}
use Rattle.store.specs.Samples.{links}
use Rattle.contents.specs.Content.{portion_after, place_after, bytes_from, cursor, after}
use Rattle.content_lines.specs.declared.Next.TheVariants.{Line, End, Bad}
use Rattle.content_lines.specs.Lines.{lines, lines_of, line_of, next_line}

-- `V`, LF, then a byte with no LF
abbrev some : List ℕ
some = code "V" ∷ code "\n" ∷ code "C" ∷ []

two : lines_of some ≡ lines ((code "V" ∷ []) ∷ []) (code "C" ∷ [])
unfolding lines_of
two = refl

first-line : next_line some links (cursor 0 0 3) ≡ Line 1 (cursor 0 2 1)
unfolding next_line line_of bytes_from portion_after place_after after
first-line = refl

unended : next_line some links (cursor 0 2 1) ≡ Bad
unfolding next_line line_of bytes_from portion_after place_after after
unended = refl

ended : next_line some links (cursor 0 2 0) ≡ End
unfolding next_line line_of bytes_from portion_after place_after after
ended = refl
