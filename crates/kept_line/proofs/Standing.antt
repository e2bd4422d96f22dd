-- A line that may not stand in a form holds nothing, so that whether it may need not be asked before it is read.
use Rattle.std.proofs.Common.{Option, None, Result, Ok, Err}
use mathlib.Core.Path.{◌≡◌, ◌∙◌, refl, sym}
use mathlib.Core.Bool.{Bool, true, false, cond, ◌&&◌}
use mathlib.Core.List.{List, []}
use Prim.Native.Nat.{ℕ, ◌<◌}
use lib.ListN.{length}
use lib.Dec.{leb}
use borrow.Author.Tests.{lt-leb}
use Rattle.grammar.specs.declared.Command.{Command}
use Rattle.grammar.specs.declared.Item.{Item}
use Rattle.heads.specs.Heads.{head_of, head_by, find}
use Rattle.normal.specs.Commands.{read_of, headed}
use Rattle.grammar.specs.declared.Command.TheVariants.{Item as item, End, Page, Forms, Pictures, Values, Listing, Clock}
use Rattle.normal.specs.Fault.{Fault}
use Rattle.normal.specs.FaultVariants.{Form as form}
use Rattle.normal.specs.Written.{taken_item, is_normal, normal}
use Rattle.kept_line.specs.Own.{is_own, own_read}
use Rattle.writing.specs.Writing.{equal}
use Rattle.kept_line.specs.Held.{item_in, held_read}

pick_same : (b : Bool) (s : Option Item) → cond b s s ≡ s
pick_same true s = refl
pick_same false s = refl

own_read_lem : (b : Bool) (r : Result Command Fault) → cond (taken_item r && b) (held_read r) None ≡ cond b (held_read r) None
own_read_lem b (Ok (item i)) = refl
own_read_lem b (Ok End) = sym (pick_same b None)
own_read_lem b (Ok (Page c)) = sym (pick_same b None)
own_read_lem b (Ok (Forms c)) = sym (pick_same b None)
own_read_lem b (Ok (Pictures c)) = sym (pick_same b None)
own_read_lem b (Ok (Values c)) = sym (pick_same b None)
own_read_lem b (Ok (Listing c)) = sym (pick_same b None)
own_read_lem b (Ok (Clock c)) = sym (pick_same b None)
own_read_lem b (Err f) = sym (pick_same b None)

standing : (l b : Bool) (r : Result Command Fault) → cond (l && (taken_item r && b)) (held_read r) None ≡ cond (l && b) (held_read r) None
standing true b r = own_read_lem b r
standing false b r = refl

held-own : (b : Bool) (r : Result Command Fault) (f : Fault) → cond b (held_read r) None ≡ held_read (cond b r (Err f))
held-own true r f = refl
held-own false r f = refl

-- what a stored line holds, it holds as it is read where it is its own normal form
pub item-own : (s : List ℕ) → item_in s ≡ held_read (own_read s)
unfolding item_in is_normal own_read is_own
item-own s =
    standing (leb (length s) 255) (equal (normal s) s) (read_of 1 s) ∙ held-own (leb (length s) 255 && equal (normal s) s) (read_of 1 s) (form 0)

-- ---- a line that holds nothing

read-empty : held_read (read_of 1 []) ≡ None
unfolding read_of headed head_of head_by find
read-empty = refl

pub item-empty : item_in [] ≡ None
unfolding item_in
item-empty = rw read-empty (pick_same (is_normal []) None)

pub item-long : (l : List ℕ) → 255 < length l → item_in l ≡ None
unfolding item_in is_normal
item-long l h = rw (lt-leb (length l) 255 h)
