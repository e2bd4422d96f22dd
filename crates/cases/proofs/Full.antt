-- Which kind of full, of a whole call: a station of one row, two portions and one entry, which a form A has. One portion is free, so that FS is 23.
-- Assumes nothing.
use Prim.Native.Nat.{ℕ}
use mathlib.Core.Path.{◌≡◌, refl}
use mathlib.Core.Bool.{true, false}
use mathlib.Core.List.{List, [], ◌∷◌, ◌++◌}
use lib.ListN.{replicate}
use Rattle.kinds.specs.Text.{bytes}
use Rattle.store.specs.Chain.{end_link, free_link}
use Rattle.store_sound.specs.Sound.{frees_ok, store_sound}
use Rattle.pcx.specs.Cases.{header, file}
use Rattle.sound.specs.Sound.{sound}
use Rattle.session.specs.declared.Session.{Session}
use Rattle.session.specs.Session.{fresh}
use Rattle.answers.specs.declared.Answer.TheVariants.{InUse, NoEntry}
use Rattle.lent.specs.Lent.{World, world, wrong_lent}
use Rattle.answers.specs.Answers.{answer_of, number_of}
use Rattle.fits.specs.Names.{name_wrong, bears, in_use}
use Rattle.fits.specs.Fits.{lent_wrong, size_wrong, limits_wrong, fit_rows}
use Rattle.calls.specs.Outcomes.{after, outcome}
use Rattle.calls.specs.Station.{commanded}
use Rattle.cases.specs.Calls.{font, output}
use Rattle.cases.proofs.Opened.{computed}
use Rattle.sound.proofs.Times.{fresh-times}
use Rattle.cases.proofs.Laws.{sound-from, store-from, background, frees, answered}
use Rattle.cases.proofs.Sample.{legal-font}

abbrev portion : List ℕ
portion = replicate 256 0

abbrev links : List ℕ
links = end_link ∷ free_link ∷ []

abbrev directory : List ℕ
directory = 1 ∷ 1 ∷ 65 ∷ replicate 13 0

unfoldable pub small : World
small = world (replicate 76 0) (portion ++ portion) links directory (replicate 340 0)

store-small : store_sound (portion ++ portion) links directory ≡ true
unfolding computed
store-small = store-from (portion ++ portion) links directory refl refl refl refl refl refl refl (frees portion 256 links refl refl) refl

pub sound-small : sound (fresh 1 1) small ≡ true
unfolding computed small
sound-small = sound-from (fresh 1 1) small refl fresh-times (background 608 1 76) store-small refl refl refl

pub lent-small : wrong_lent small ≡ false
unfolding computed small
lent-small = refl

abbrev pub starts : List ℕ
starts = bytes "FS\"B\"\n"

pub call-full : commanded (fresh 1 1) font small output starts ≡ after (outcome NoEntry (fresh 1 1) 6 0) small output
unfolding computed small
call-full = answered (fresh 1 1) small starts NoEntry lent-small legal-font sound-small refl

-- ---- a station whose one portion and one entry a picture A has: GM of that name is 10, of another 19, and so is FS

abbrev drawn : List ℕ
drawn = file ++ replicate 123 0

abbrev picture_entry : List ℕ
picture_entry = 2 ∷ 1 ∷ 65 ∷ (replicate 9 0 ++ (133 ∷ replicate 3 0))

unfoldable pub pictured : World
pictured = world (replicate 76 0) drawn (end_link ∷ []) picture_entry (replicate 340 0)

store-pictured : store_sound drawn (end_link ∷ []) picture_entry ≡ true
unfolding computed header file frees_ok
store-pictured = store-from drawn (end_link ∷ []) picture_entry refl refl refl refl refl refl refl refl refl

pub sound-pictured : sound (fresh 1 0) pictured ≡ true
unfolding computed pictured header file
sound-pictured = sound-from (fresh 1 0) pictured refl fresh-times (background 608 1 76) store-pictured refl refl refl

pub lent-pictured : wrong_lent pictured ≡ false
unfolding computed pictured header file
lent-pictured = refl

pub call-in-use : commanded (fresh 1 0) font pictured output (bytes "GM\"a\",133\n" ++ file) ≡ after (outcome InUse (fresh 1 0) 143 0) pictured output
unfolding computed pictured header file
call-in-use = answered (fresh 1 0) pictured (bytes "GM\"a\",133\n" ++ file) InUse lent-pictured legal-font sound-pictured refl

-- ---- paper 02, §7: what is given on both before anything is sent

abbrev given : Session → World → ℕ → List ℕ → ℕ → ℕ
given s w kind name size = number_of (answer_of (fit_rows s.owed w.links w.directory kind name size))

-- a form B; a picture B of one portion, and of two; a form A; no name
which-small :
    given (fresh 1 1) small 1 (bytes "B") 0 ∷ given (fresh 1 1) small 2 (bytes "B") 133 ∷ given (fresh 1 1) small 2 (bytes "B") 257
    ∷ given (fresh 1 1) small 1 (bytes "a") 0
    ∷ given (fresh 1 1) small 1 (bytes "*") 0
    ∷ []
    ≡ 23 ∷ 23 ∷ 19 ∷ 10 ∷ 7 ∷ []
unfolding computed small lent_wrong limits_wrong name_wrong size_wrong bears in_use
which-small = refl

-- a picture A, and B; a form A
which-pictured : given (fresh 1 0) pictured 2 (bytes "a") 133 ∷ given (fresh 1 0) pictured 2 (bytes "B") 133 ∷ given (fresh 1 0) pictured 1 (bytes "A") 0 ∷ [] ≡ 10 ∷ 19 ∷ 19 ∷ []
unfolding computed pictured lent_wrong limits_wrong name_wrong size_wrong bears in_use
which-pictured = refl
