-- What a listing leaves, in all that is lent.
-- Assumes nothing.
use mathlib.Core.Path.{◌≡◌, refl, sym, ap, ◌∙◌}
use mathlib.Core.Bool.{Bool, false}
use mathlib.Core.List.{List, [], ◌∷◌}
use Prim.Native.Nat.{ℕ}
use native.Mathlib.Omega.{arith}
use lib.ListN.{length}
use lib.Seq.{sets}
use borrow.Author.Tests.{le-ltb}
use Rattle.std.specs.Prelude.{None, Option, Some}
use Rattle.contents.specs.declared.Cursor.{Cursor}
use Rattle.contents.specs.Content.{content, cursor_at}
use Rattle.contents.proofs.Reading.{length-content}
use Rattle.grammar.specs.declared.ListingCommand.{ListingCommand}
use Rattle.grammar.specs.declared.ListingCommand.TheVariants.{Forms, Pictures, Form}
use Rattle.listing.specs.Listing.{listing}
use Rattle.session.specs.declared.Session.{Session}
use Rattle.answers.specs.declared.Answer.TheVariants.{Taken, Missing, Overlong}
use Rattle.answers.specs.Answers.{row, answer_of, is_taken}
use Rattle.lent.specs.Lent.{world}
use Rattle.results.specs.World.{content_at, state}
use Rattle.results.specs.Result.{done, ran, ran_by}
use Rattle.results.specs.Named.{named, not_found}
use Rattle.results.proofs.Answers.{cond_map}
use Rattle.results.proofs.Parts.{on_output}
use Rattle.listing_commands.specs.Listings.{exceeds, printed_at, listing_rows, listed_by, listing_by}

pub nothing-exceeds : (o : List ℕ) → exceeds [] (length o) ≡ false
nothing-exceeds o = le-ltb (length o) 0 (omega arith)

pub reader-left : (s l d : List ℕ) (i : ℕ) (k : Cursor) → k ≡ cursor_at l d i → k.left ≡ length (content s l d i)
reader-left s l d i k e = ap (λ (x : Cursor). x.left) e ∙ sym (length-content s l d i)

print-in :
    (m : Bool) (f : Option ℕ) (s : Session) (b st l d v o : List ℕ) →
    on_output (world b st l d v)
    (ran_by (answer_of (row Missing m ∷ row Overlong (exceeds (printed_at (world [] st l d []) f) (length o)) ∷ [])) s (world [] st l d []) o
    (state s (world [] st l d [])) (printed_at (world [] st l d []) f))
    ≡ ran_by (answer_of (row Missing m ∷ row Overlong (exceeds (printed_at (world b st l d v) f) (length o)) ∷ [])) s (world b st l d v) o
    (state s (world b st l d v)) (printed_at (world b st l d v) f)
print-in m (Some i) s b st l d v o =
    let a = answer_of (row Missing m ∷ row Overlong (exceeds (content_at (world [] st l d []) i) (length o)) ∷ []) in
    let bytes = content_at (world [] st l d []) i in
    cond_map (on_output (world b st l d v)) (is_taken a) (ran (done Taken s (length bytes)) (world [] st l d []) (sets o 0 bytes))
    (ran (done a s 0) (world [] st l d []) o)
print-in m None s b st l d v o =
    let a = answer_of (row Missing m ∷ row Overlong (exceeds [] (length o)) ∷ []) in
    cond_map (on_output (world b st l d v)) (is_taken a) (ran (done Taken s 0) (world [] st l d []) (sets o 0 [])) (ran (done a s 0) (world [] st l d []) o)

pub listing-around :
    (c : ListingCommand) (s : Session) (line b st l d v o : List ℕ) →
    on_output (world b st l d v) (listing_by (world [] st l d []) s line o c)
    ≡ ran_by (answer_of (listing_rows (world b st l d v) line (length o) c)) s (world b st l d v) o (state s (world b st l d v)) (listed_by (world b st l d v) line c)
listing-around Forms s line b st l d v o =
    let a = answer_of (row Overlong (exceeds (listing d 1) (length o)) ∷ []) in
    cond_map (on_output (world b st l d v)) (is_taken a) (ran (done Taken s (length (listing d 1))) (world [] st l d []) (sets o 0 (listing d 1)))
    (ran (done a s 0) (world [] st l d []) o)
listing-around Pictures s line b st l d v o =
    let a = answer_of (row Overlong (exceeds (listing d 2) (length o)) ∷ []) in
    cond_map (on_output (world b st l d v)) (is_taken a) (ran (done Taken s (length (listing d 2))) (world [] st l d []) (sets o 0 (listing d 2)))
    (ran (done a s 0) (world [] st l d []) o)
listing-around (Form n) s line b st l d v o = print-in (not_found (world [] st l d []) false line n) (named (world [] st l d []) false line n) s b st l d v o
