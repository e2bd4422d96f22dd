-- Paper 02, §10: "Unfit data is judged over all clock values". How long a format's text is, and whether all its bytes are of a kind's class, is
-- said by the format alone; that it is so for every legal clock is proved in proofs/Shown.antt.
-- Assumes nothing.
use Rattle.std.specs.Prelude.{ℕ, ◌+◌, ◌≡◌, Bool, true, cond, ◌&&◌, ◌||◌, not, eqb}
use Prim.Native.Char.{code}
use Rattle.kinds.specs.declared.Kind.{Kind}
use Rattle.kinds.specs.Bytes.{all_in}
use Rattle.kinds.specs.Fit.{in_class}
use Rattle.calendar.specs.declared.Clock.{Clock}
use Rattle.formats.specs.declared.Format.{Format}
use Rattle.formats.specs.declared.Stamp.{Stamp}
use Rattle.formats.specs.declared.Stamp.TheVariants.{Date, Time}
use Rattle.calendar.specs.Clock.{legal_clock}
use Rattle.stamps.specs.Texts.{stamp_text}

-- whatever the clock says, every byte is of the class
abbrev pub AlwaysIn : Kind → Stamp → Format → Type 0
AlwaysIn k st f = (c : Clock) → legal_clock c ≡ true → all_in (in_class k) (stamp_text st c f) ≡ true

-- ---- lengths

-- "Each other field has two digits, or four for the long year"
unfoldable pub length_of : Stamp → ℕ → ℕ
length_of Date x = cond (eqb x 1) 2 (cond (eqb x 2) 4 (cond (eqb x 3) 3 (cond (eqb x 4) 2 (cond (eqb x 5) 2 0))))
length_of Time x = cond (eqb x 1) 2 (cond (eqb x 2) 2 (cond (eqb x 3) 2 0))

abbrev pub marked_length : Stamp → ℕ → ℕ
marked_length st x = cond (eqb x 0) 0 (1 + length_of st x)

unfoldable pub stamp_length : Stamp → Format → ℕ
stamp_length st f = length_of st f.first + (marked_length st f.second + marked_length st f.third)

-- ---- classes

-- ME shows capitals, of which a class has all or none; the other fields show digits, which every class has
unfoldable pub good_field : Kind → Stamp → ℕ → Bool
good_field k Date x = not (eqb x 3) || in_class k (code "A")
good_field k Time x = true

unfoldable pub good_marked : Kind → Stamp → ℕ → ℕ → Bool
good_marked k st m x = eqb x 0 || (in_class k m && good_field k st x)

unfoldable pub stamp_good : Kind → Stamp → Format → Bool
stamp_good k st f = good_field k st f.first && (good_marked k st f.mark1 f.second && good_marked k st f.mark2 f.third)
