-- Fronts of inputs, and what a call reads of them: antt computes each.
-- Assumes nothing.
use Rattle.std.specs.Prelude.{◌≡◌, refl, replicate}
use Rattle.kinds.specs.Bytes.{between}
use Rattle.kinds.specs.Text.{bytes}
use Rattle.classes.specs.Bytes.{run}
use Rattle.numbers.specs.Number.{value_from, number_at}
use Rattle.fields.specs.Field.{text_at, byte_at}
use Rattle.reader.specs.Letters.{field_at}
use Rattle.grammar.specs.Forms.{in_order}
use Rattle.heads.specs.Heads.{head_of, head_by, find}
use Rattle.row_fields.specs.Reading.{fields_from}
use Rattle.front.specs.Front.{front_of, line_front, asked_by, size_of}
use Rattle.front.specs.declared.Front.TheVariants.{Short, Long, Idle, Line}

-- "(9) 255 bytes without LF: 4; 256: 5"
nine-short : front_of (replicate 255 65) ≡ Short
unfolding front_of run
nine-short = refl

nine-long : front_of (replicate 256 65) ≡ Long 256
unfolding front_of run
nine-long = refl

-- a comment, an empty line, a GM that lacks its bytes, one that has them, and one whose n is out of range
comment : front_of (bytes ";note\nFE\n") ≡ Idle 6
unfolding front_of line_front run
comment = refl

empty : front_of (bytes "\nFE\n") ≡ Idle 1
unfolding front_of line_front run
empty = refl

lacking : front_of (bytes "GM\"*\",3\nab") ≡ Short
unfolding front_of line_front asked_by size_of in_order head_of head_by find fields_from field_at number_at byte_at text_at run between value_from
lacking = refl

whole : front_of (bytes "GM\"*\",3\nabcFE\n") ≡ Line 7 11
unfolding front_of line_front asked_by size_of in_order head_of head_by find fields_from field_at number_at byte_at text_at run between value_from
whole = refl

beyond-size : front_of (bytes "GM\"A\",32769\nFE\n") ≡ Line 11 12
unfolding front_of line_front asked_by size_of in_order head_of head_by find fields_from field_at number_at byte_at text_at run between value_from
beyond-size = refl
