-- The active form, by its number: its bytes.
-- Assumes nothing.
use Rattle.std.specs.Prelude.{ℕ, cond, List, [], eqb}
use Rattle.contents.specs.declared.Cursor.{Cursor}
use Rattle.contents.specs.Content.{content, cursor, cursor_at}

-- the active form is an entry of the directory; this number says that there is none
abbrev pub no_form : ℕ
no_form = 65535

-- the bytes of the active form; none without one
unfoldable pub active_bytes : List ℕ → List ℕ → List ℕ → ℕ → List ℕ
active_bytes store links directory active = cond (eqb active no_form) [] (content store links directory active)

-- ---- serves the code alone: a reader at their start

abbrev pub active_cursor : List ℕ → List ℕ → ℕ → Cursor
active_cursor links directory active = cond (eqb active no_form) (cursor 0 0 0) (cursor_at links directory active)
