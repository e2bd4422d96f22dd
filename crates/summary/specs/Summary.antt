-- Serves the code alone: the summary that decides fit data, how short and how long it can be, and whether every byte that it can show is of the class.
-- What fit data is says `fitness/Permitted: AlwaysFit`; that the summary decides exactly that is proved in `fitness/Always`.
-- Assumes nothing.
use Prim.Native.Char.{code}
use Rattle.std.specs.Prelude.{ℕ, ◌+◌, ◌-◌, min, Bool, true, false, ◌&&◌, ◌||◌, cond, List, [], ◌∷◌, length, eqb}
use Rattle.kinds.specs.declared.Kind.{Kind}
use Rattle.kinds.specs.declared.Kind.TheVariants.{Shown, Code39, Interleaved, Ean13, Code128}
use Rattle.kinds.specs.Bytes.{all_in}
use Rattle.kinds.specs.Fit.{in_class, fit_length}
use Rattle.formats.specs.declared.Stamp.{Stamp}
use Rattle.formats.specs.Formats.{format_of}
use Rattle.stamps.specs.Always.{stamp_length, stamp_good}
use Rattle.elements.specs.declared.Part.{Part}
use Rattle.elements.specs.declared.Part.TheVariants.{Whole, First, Last, Middle}
use Rattle.elements.specs.declared.What.{What}
use Rattle.elements.specs.declared.What.TheVariants.{Text, Variable, Counter, Stamped}
use Rattle.elements.specs.declared.Element.{Element}
use Rattle.declarations.specs.declared.Declared.{Declared}
use Rattle.declarations.specs.Declarations.{length_at, side_at, width_at}
use Rattle.pieces.specs.Data.{text_in}
use Rattle.summary.specs.declared.Summary.{Summary}

-- ---- one element

-- how long a part of a value of n bytes is
unfoldable pub part_length : Part → ℕ → ℕ
part_length Whole n = n
part_length (First k) n = min k n
part_length (Last k) n = min k n
part_length (Middle p k) n = min k (n - (p - 1))

-- the fewest bytes that a variable holds: none of an N
abbrev pub fewest : ℕ → ℕ → ℕ
fewest side m = cond (eqb side (code "N")) 0 m

abbrev pub least_of : List ℕ → Declared → Element → What → ℕ
least_of line d e Text = length (text_in line e)
least_of line d e (Variable k p) = part_length p (fewest (side_at d k) (length_at d k))
least_of line d e (Counter k p) = part_length p (width_at d k)
least_of line d e (Stamped st) = stamp_length st (format_of d.formats st)

abbrev pub most_of : List ℕ → Declared → Element → What → ℕ
most_of line d e Text = length (text_in line e)
most_of line d e (Variable k p) = part_length p (length_at d k)
most_of line d e (Counter k p) = part_length p (width_at d k)
most_of line d e (Stamped st) = stamp_length st (format_of d.formats st)

-- the kind takes every legal byte: it takes the star, which no strict kind takes
abbrev pub takes_all : Kind → Bool
takes_all Shown = true
takes_all Code39 = false
takes_all Interleaved = false
takes_all Ean13 = false
takes_all Code128 = true

-- of a strict kind a variable is Z, or shows no byte
abbrev pub variable_good : Kind → ℕ → ℕ → Bool
variable_good c side n = takes_all c || (eqb side (code "Z") || eqb n 0)

abbrev pub good_of : Kind → List ℕ → Declared → Element → What → Bool
good_of c line d e Text = all_in (in_class c) (text_in line e)
good_of c line d e (Variable k p) = variable_good c (side_at d k) (part_length p (length_at d k))
good_of c line d e (Counter k p) = true
good_of c line d e (Stamped st) = stamp_good c st (format_of d.formats st)

-- ---- all elements

abbrev pub least : List ℕ → Declared → List Element → ℕ
least line d [] = 0
least line d (e ∷ es) = least_of line d e e.what + least line d es

abbrev pub most : List ℕ → Declared → List Element → ℕ
most line d [] = 0
most line d (e ∷ es) = most_of line d e e.what + most line d es

abbrev pub good : Kind → List ℕ → Declared → List Element → Bool
good c line d [] = true
good c line d (e ∷ es) = good_of c line d e e.what && good c line d es

-- the shortest and the longest data have a fit length, and every byte is of the class
unfoldable pub judged : List ℕ → Declared → List Element → Kind → Bool
judged line d es k = fit_length k (least line d es) && (fit_length k (most line d es) && good k line d es)

-- ---- as it is kept element by element: no further than one more than the most bytes that any kind takes
abbrev pub too_long : ℕ
too_long = 129

abbrev pub up_to : ℕ → ℕ
up_to n = min too_long n

abbrev pub summary : ℕ → ℕ → Bool → Summary
summary l m g = record { least = l; most = m; good = g }

-- of the date or the time of day
abbrev pub stamp_summary : Kind → Declared → Stamp → Summary
stamp_summary k d st =
    summary (stamp_length st (format_of d.formats st)) (stamp_length st (format_of d.formats st)) (stamp_good k st (format_of d.formats st))

unfoldable pub summary_of : Kind → List ℕ → Declared → Element → Summary
summary_of k line d e = summary (least_of line d e e.what) (most_of line d e e.what) (good_of k line d e e.what)

abbrev pub joined : Summary → Summary → Summary
joined s t = summary (up_to (s.least + t.least)) (up_to (s.most + t.most)) (s.good && t.good)

abbrev pub decided : Summary → Kind → Bool
decided s k = fit_length k s.least && (fit_length k s.most && s.good)
