-- Opening: the three ways a call ends.
-- Assumes nothing.
use mathlib.Core.Path.{◌≡◌, ap}
use mathlib.Core.Bool.{true, false}
use mathlib.Core.List.{List}
use Prim.Native.Nat.{ℕ, ◌/◌}
use lib.ListN.{length}
use borrow.Author.Tests.{eq-eqb, ne_eqb}
use Rattle.cells.specs.Cell.{zeros}
use Rattle.dots.specs.Dots.{bytes_a_row}
use Rattle.pages.specs.Pages.{white}
use Rattle.stored_values.specs.Stored.{unset}
use Rattle.memory.specs.Memory.{Memory, memory}
use Rattle.clearing.specs.Clear.{cleared as cleared_memory}
use Rattle.answers.specs.declared.Answer.TheVariants.{Taken, Lengths}
use Rattle.session.specs.Label.{labelled}
use Rattle.session.specs.Session.{none, fresh}
use Rattle.lent.specs.Lent.{World, world, wrong_lent}
use Rattle.opening.specs.Opening.{opened_by, opened, cleared}

-- ---- the call

pub opened-wrong : (page : List ℕ) (w : World) → wrong_lent w ≡ true → opened page w ≡ opened_by (labelled Lengths none) page w
unfolding opened
opened-wrong page w e = rw e

pub opened-uneven :
    (page : List ℕ) (w : World) → wrong_lent w ≡ false → (length page ≡ length w.background → ⊥) →
    opened page w ≡ opened_by (labelled Lengths none) page w
unfolding opened
opened-uneven page w e n = rw (e, ne_eqb _ _ n)

pub opened-good :
    (page : List ℕ) (w : World) (st ls dir vs : List ℕ) → wrong_lent w ≡ false → length page ≡ length w.background →
    memory st ls dir ≡ cleared_memory (memory w.store w.links w.directory) → vs ≡ unset w.values →
    opened page w
    ≡ opened_by (labelled Taken (fresh (length w.background / bytes_a_row) (length w.links))) (white (length page)) (world (white (length w.background)) st ls dir vs)
unfolding opened cleared white zeros unset
opened-good page w st ls dir vs e n m v =
    rw (e, eq-eqb _ _ n, ap (λ (x : Memory). x.store) m, ap (λ (x : Memory). x.links) m, ap (λ (x : Memory). x.directory) m, v)
