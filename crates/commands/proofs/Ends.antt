-- A line: the ways it ends.
-- Assumes nothing.
use Rattle.std.proofs.Common.{Result, Err}
use mathlib.Core.Path.{◌≡◌, refl, sym, ap, ◌∙◌}
use mathlib.Core.Bool.{true, false}
use mathlib.Core.List.{List, [], ◌∷◌}
use Prim.Native.Nat.{ℕ}
use lib.ListN.{length}
use lib.Dec.{ltb}
use Rattle.grammar.specs.declared.Command.{Command}
use Rattle.grammar.specs.declared.Item.{Item}
use Rattle.grammar.specs.declared.Command.TheVariants.{Item as item, End, Page, Forms, Pictures, Values, Listing, Clock}
use Rattle.read.specs.declared.Fault.{Fault}
use Rattle.read.specs.declared.Fault.TheVariants.{Form as form, Limit}
use Rattle.read.specs.Commands.{read_of}
use Rattle.session.specs.declared.Session.{Session}
use Rattle.answers.specs.declared.Answer.{Answer}
use Rattle.answers.specs.declared.Answer.TheVariants.{Lengths, Long, Misplaced}
use Rattle.answers.specs.Answers.{answer_of, is_taken, number_of}
use Rattle.lent.specs.Lent.{World, world, rows_of, wrong_lent}
use Rattle.answers.proofs.Rows.{answer-skip}
use Rattle.results.specs.Result.{done, Ran, ran, ran_by}
use Rattle.results.proofs.Parts.{on_memory, ran-in}
use Rattle.commands.specs.Rows.{record_rows, fault_answer, line_rows}
use Rattle.commands.specs.Does.{records, does_line, lists_line}
use Rattle.commands.specs.Running.{record_by, ran_read, line_table, line_by}

-- ---- 1 and 5 come first, whoever calls

pub lengths-by : (font : List ℕ) (w : World) (s : Session) (line more o : List ℕ) → wrong_lent w ≡ true → ran (done Lengths s 0) w o ≡ line_by font w s line more o
unfolding line_by line_table answer_of is_taken number_of
lengths-by font w s line more o h = rw h

pub long-by :
    (font : List ℕ) (w : World) (s : Session) (line more o : List ℕ) → wrong_lent w ≡ false → ltb 255 (length line) ≡ true →
    ran (done Long s 0) w o ≡ line_by font w s line more o
unfolding line_by line_table answer_of is_taken number_of
long-by font w s line more o h k = rw (h, k)

-- what a line leaves is what it leaves as it was read
pub line_read :
    (font : List ℕ) (w : World) (s : Session) (line more o : List ℕ) (r : Result Command Fault) → wrong_lent w ≡ false → ltb 255 (length line) ≡ false →
    read_of (rows_of w) line ≡ r → ran_read font w s line more o r ≡ line_by font w s line more o
unfolding line_by line_table
line_read font w s line more o r h k e =
    ap (ran_read font w s line more o) (sym e)
    ∙ ap (λ (a : Answer). ran_by a s w o (does_line font w s line more (read_of (rows_of w) line)) (lists_line w line (read_of (rows_of w) line)))
    (sym (answer-skip Lengths (wrong_lent w) _ h ∙ answer-skip Long (ltb 255 (length line)) (line_rows w s line more (length o) (read_of (rows_of w) line)) k))

-- ---- 6 and 7

pub fault-by :
    (f : Fault) (font : List ℕ) (w : World) (s : Session) (line more o : List ℕ) → ran (done (fault_answer f) s 0) w o ≡ ran_read font w s line more o (Err f)
unfolding answer_of is_taken number_of
fault-by (form p) font w s line more o = refl
fault-by (Limit p) font w s line more o = refl

-- ---- recording: only items and FE have a place

pub misplaced-by :
    (c : Command) (s : Session) (line : List ℕ) (i : ℕ) (w : World) → ((it : Item) → c ≡ item it → ⊥) → (c ≡ End → ⊥) →
    ran (done Misplaced s 0) w [] ≡ record_by w s line i [] c
unfolding answer_of is_taken number_of
misplaced-by (item it) s line i w h e = absurd (h it refl)
misplaced-by End s line i w h e = absurd (e refl)
misplaced-by (Page c) s line i w h e = refl
misplaced-by (Forms c) s line i w h e = refl
misplaced-by (Pictures c) s line i w h e = refl
misplaced-by (Values c) s line i w h e = refl
misplaced-by (Listing c) s line i w h e = refl
misplaced-by (Clock c) s line i w h e = refl

recorded-world :
    (c : Command) (s : Session) (line : List ℕ) (i : ℕ) (b st l d v o : List ℕ) →
    on_memory b v o (record_by (world [] st l d []) s line i [] c) ≡ record_by (world b st l d v) s line i o c
unfolding answer_of is_taken number_of
recorded-world (item it) s line i b st l d v o =
    ran-in (on_memory b v o) (answer_of (record_rows (world [] st l d []) s line i (item it))) s (world [] st l d []) (records (world [] st l d []) s line i (item it))
recorded-world End s line i b st l d v o = refl
recorded-world (Page c) s line i b st l d v o = refl
recorded-world (Forms c) s line i b st l d v o = refl
recorded-world (Pictures c) s line i b st l d v o = refl
recorded-world (Values c) s line i b st l d v o = refl
recorded-world (Listing c) s line i b st l d v o = refl
recorded-world (Clock c) s line i b st l d v o = refl

pub record-in :
    (c : Command) (s : Session) (line : List ℕ) (i : ℕ) (b st l d v o : List ℕ) (x : Ran) → x ≡ record_by (world [] st l d []) s line i [] c →
    on_memory b v o x ≡ record_by (world b st l d v) s line i o c
record-in c s line i b st l d v o x e = ap (on_memory b v o) e ∙ recorded-world c s line i b st l d v o
