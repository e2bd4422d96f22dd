-- The clauses of Sound on the active form and the labels owed, in the paper's order: "the active form a stored one; set values fit its declarations, undeclared
-- ones unset; owed plus drawn at most 65,535; labels owed only when nothing is recorded, all declared values are set and the pictures exist". Paper 02, §3: "While
-- labels are owed, sound now asks the same of each counter with k their number": its value plus (k-1) times its step in 0 to 10^w-1.
-- Assumes nothing.
use Rattle.std.specs.Prelude.{ℕ, ◌+◌, Bool, not, ◌&&◌, ◌||◌, List, eqb, leb, is_some}
use Rattle.store.specs.Entry.{entry, kind}
use Rattle.finding.specs.Find.{recorded}
use Rattle.declarations.specs.declared.Declared.{Declared}
use Rattle.counters.specs.declared.Counters.{Counters}
use Rattle.counter_steps.specs.Steps.{lasts}
use Rattle.values.specs.Sound.{values_sound, all_set}
use Rattle.active_form.specs.Form.{declared_of, pictures_stored}
use Rattle.session.specs.declared.Session.{Session}
use Rattle.session.specs.Session.{no_form, most_labels}

-- "the active form a stored one": none, or an entry of kind 1
unfoldable pub active_ok : List ℕ → ℕ → Bool
active_ok directory active = eqb active no_form || eqb (kind (entry directory active)) 1

-- "set values fit its declarations, undeclared ones unset"
abbrev pub values_ok : List ℕ → List ℕ → Counters → Bool
values_ok bytes values counters = values_sound (declared_of bytes) values counters

-- "owed plus drawn at most 65,535"
abbrev pub counts_ok : Session → Bool
counts_ok s = leb (s.owed + s.drawn) most_labels

-- "labels owed only when nothing is recorded, all declared values are set and the pictures exist", and no counter runs out within them; d is what the active
-- form declares
abbrev pub owed_with : Declared → ℕ → List ℕ → List ℕ → List ℕ → Counters → Bool
owed_with d owed directory bytes values counters =
    eqb owed 0 || (not (is_some (recorded directory)) && (all_set d values counters && (lasts d counters owed && pictures_stored directory bytes)))

unfoldable pub owed_ok : ℕ → List ℕ → List ℕ → List ℕ → Counters → Bool
owed_ok owed directory bytes values counters = owed_with (declared_of bytes) owed directory bytes values counters

-- the clauses of the active form and the labels owed
unfoldable pub activity_sound : Session → List ℕ → List ℕ → List ℕ → Bool
activity_sound s directory bytes values =
    active_ok directory s.active
    && (values_ok bytes values s.counters && (counts_ok s && owed_ok s.owed directory bytes values s.counters))
