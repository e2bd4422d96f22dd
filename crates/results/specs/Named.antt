-- Entries by the names that commands give.
-- Assumes nothing.
use Rattle.std.specs.Prelude.{ℕ, Bool, not, ◌&&◌, List, None, Option, Some, is_some}
use Rattle.store.specs.Entry.{entry}
use Rattle.finding.specs.Find.{titled_at}
use Rattle.erasing.specs.Erase.{erased_at, erased_all}
use Rattle.grammar.specs.declared.Named.{Named}
use Rattle.parts.specs.Names.{packed_of}
use Rattle.session.specs.declared.Session.{Session}
use Rattle.session.specs.Session.{no_form, sixteen_bits}
use Rattle.free_number.specs.After.{after_erased, after_erased_all}
use Rattle.lent.specs.Lent.{World}
use Rattle.results.specs.World.{State, state, memory_of, with_memory}

-- where an entry was found, as a session keeps it
abbrev pub place_of : Option ℕ → ℕ
place_of (Some i) = sixteen_bits i
place_of None = no_form

-- the entry of a form (false) or picture (true) by the name that a command gives
abbrev pub lookup : World → Bool → List ℕ → ℕ → ℕ → Option ℕ
lookup w picture line at n = titled_at w.directory picture (packed_of line at n)

abbrev pub named : World → Bool → List ℕ → Named → Option ℕ
named w picture line n = lookup w picture line n.at n.length

-- [11] "name not found"; `"*"` erases all, none included
abbrev pub not_found : World → Bool → List ℕ → Named → Bool
not_found w picture line n = not n.all && not (is_some (named w picture line n))

-- FK and GK: an entry that was found, or every one, with the number of free portions after it
abbrev pub erased_named : Session → World → Option ℕ → State
erased_named s w (Some i) = state (after_erased s (entry w.directory i)) (with_memory w (erased_at (memory_of w) i))
erased_named s w None = state s w

abbrev pub erased_every : Session → World → Bool → State
erased_every s w picture = state (after_erased_all s picture w.directory) (with_memory w (erased_all picture (memory_of w)))
