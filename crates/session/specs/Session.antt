-- "The session holds width, length, turn, origin, counters with set or unset (then 0), active form, labels owed and drawn"; paper 02, §6: "Keep the number of
-- free portions in the session." §10 adds the clock and the formats.
-- Assumes nothing.
use Rattle.std.specs.Prelude.{ℕ, ◌+◌, ◌-◌, min, cond, ◌||◌, [], ◌∷◌, eqb}
use Rattle.declarations.specs.declared.Declared.{Declared}
use Rattle.counters.specs.declared.Counters.{Counters}
use Rattle.counter_steps.specs.Steps.{moved_all}
use Rattle.calendar.specs.declared.Clock.{Clock}
use Rattle.calendar.specs.Clock.{clock, fresh as midnight}
use Rattle.formats.specs.declared.Format.{Format}
use Rattle.formats.specs.declared.Formats.{Formats}
use Rattle.formats.specs.Formats.{format, examples}
use Rattle.session.specs.declared.Session.{Session}
pub use Rattle.active_form.specs.Active.{no_form}

-- "width 80 to 608"
abbrev pub least_width : ℕ
least_width = 80

abbrev pub most_width : ℕ
most_width = 608

-- "origin 0..2048, 0..4096"
abbrev pub most_x : ℕ
most_x = 2048

abbrev pub most_y : ℕ
most_y = 4096

-- "owed plus drawn at most 65,535"
abbrev pub most_labels : ℕ
most_labels = 65535

-- no counter is set
abbrev pub blank : Counters
blank = record { set = 0 ∷ 0 ∷ 0 ∷ 0 ∷ 0 ∷ 0 ∷ 0 ∷ 0 ∷ 0 ∷ 0 ∷ []; value = 0 ∷ 0 ∷ 0 ∷ 0 ∷ 0 ∷ 0 ∷ 0 ∷ 0 ∷ 0 ∷ 0 ∷ [] }

-- zeros where a clock and formats stand
abbrev pub no_clock : Clock
no_clock = clock 0 0 0 0 0 0

abbrev pub no_format : Format
no_format = format 0 0 0 0 0

abbrev pub no_formats : Formats
no_formats = record { date = no_format; time = no_format }

-- a number as a session keeps it, of 16 bits: every number within its limits is
abbrev pub sixteen_bits : ℕ → ℕ
sixteen_bits n = min n 65535

abbrev pub session : ℕ → ℕ → ℕ → ℕ → ℕ → ℕ → ℕ → ℕ → Counters → ℕ → Clock → Formats → Session
session width length turn x y active owed drawn counters free clock formats =
    record {
      width = width;
      length = length;
      turn = turn;
      x = x;
      y = y;
      active = active;
      owed = owed;
      drawn = drawn;
      counters = counters;
      free = free;
      clock = clock;
      formats = formats;
    }

-- ---- the setters: all else stays

-- `Qm,g`, `qm`
abbrev pub sized : Session → ℕ → ℕ → Session
sized s width length = session width length s.turn s.x s.y s.active s.owed s.drawn s.counters s.free s.clock s.formats

-- `ZT`, `ZB`
abbrev pub turning : Session → ℕ → Session
turning s turn = session s.width s.length turn s.x s.y s.active s.owed s.drawn s.counters s.free s.clock s.formats

-- `Rm,n`: "It replaces the earlier one"
abbrev pub based : Session → ℕ → ℕ → Session
based s x y = session s.width s.length s.turn x y s.active s.owed s.drawn s.counters s.free s.clock s.formats

-- the active form
abbrev pub with_active : Session → ℕ → Session
with_active s active = session s.width s.length s.turn s.x s.y active s.owed s.drawn s.counters s.free s.clock s.formats

-- labels owed and drawn
abbrev pub with_labels : Session → ℕ → ℕ → Session
with_labels s owed drawn = session s.width s.length s.turn s.x s.y s.active owed drawn s.counters s.free s.clock s.formats

-- `?Cn,value`
abbrev pub counting : Session → Counters → Session
counting s counters = session s.width s.length s.turn s.x s.y s.active s.owed s.drawn counters s.free s.clock s.formats

-- the number of free portions
abbrev pub roomed : Session → ℕ → Session
roomed s free = session s.width s.length s.turn s.x s.y s.active s.owed s.drawn s.counters free s.clock s.formats

-- `TS`, and the call that gives the seconds passed (paper 02, §10)
abbrev pub clocked : Session → Clock → Session
clocked s clock = session s.width s.length s.turn s.x s.y s.active s.owed s.drawn s.counters s.free clock s.formats

-- `TD` and `TT` outside a form
abbrev pub formatted : Session → Formats → Session
formatted s formats = session s.width s.length s.turn s.x s.y s.active s.owed s.drawn s.counters s.free s.clock formats

-- ---- what is made of them

-- "a refused opening returns zeros"
abbrev pub none : Session
none = session 0 0 0 0 0 0 0 0 blank 0 no_clock no_formats

-- "Opening .. frees all portions, and sets width 608, length N, origin 0,0, ZT, nothing owed": N rows, so many portions. No form is active. Paper 02,
-- §10: "unset, the clock is 1 January 2000 at midnight and the formats are the manual's example formats"
abbrev pub fresh : ℕ → ℕ → Session
fresh rows portions = formatted (clocked (roomed (with_active (sized none most_width rows) no_form) portions) midnight) examples

-- "FR unsets all values; so does the end of activity, by N or FK"
abbrev pub activated : Session → ℕ → Session
activated s active = counting (with_active s active) blank

-- `Pk`: k labels are owed, none is drawn
abbrev pub owing : Session → ℕ → Session
owing s k = with_labels s k 0

-- a label call "moves counters", those that the active form declares; one that runs out becomes unset
abbrev pub moved : Session → Declared → Session
moved s declared = counting s (moved_all declared s.counters)

-- "and counts one drawn". A sound session that owes a label has drawn fewer than 65,535
abbrev pub counted : Session → Session
counted s = cond (eqb s.owed 0 || eqb s.drawn most_labels) s (with_labels s (s.owed - 1) (s.drawn + 1))
