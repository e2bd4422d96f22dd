-- "While recording only R, V, C, A, B, LO, LE, LW, X, GG and FE have a place; otherwise all but V, C and FE." Paper 02, §8:
-- "LS may be recorded." §10: "TD and TT may be recorded", "TS has no place while recording."
-- Assumes nothing.
use Rattle.std.specs.Prelude.{Bool, true, false, not}
use Rattle.grammar.specs.declared.Command.{Command}
use Rattle.grammar.specs.declared.Command.TheVariants.{Item as item, End, Page, Forms, Pictures, Values, Listing, Clock}
use Rattle.recording.specs.Judged.{declaration}

-- whether a command has a place while a form is recorded, and whether otherwise
pub record Places : Type 0 where
  pub recording : Bool
  pub otherwise : Bool

abbrev pub in_forms : Places
in_forms = record { recording = true; otherwise = false }

abbrev pub outside : Places
outside = record { recording = false; otherwise = true }

abbrev pub places_of : Command → Places
places_of (item it) = record { recording = true; otherwise = not (declaration it) }
places_of End = in_forms
places_of (Page c) = outside
places_of (Forms c) = outside
places_of (Pictures c) = outside
places_of (Values c) = outside
places_of (Listing c) = outside
places_of (Clock c) = outside
