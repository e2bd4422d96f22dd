-- A session as opening leaves it is sound with a white background, a sound store and values that are all unset.
-- Assumes nothing.
use mathlib.Core.Path.{◌≡◌, refl, sym, ap, ◌∙◌}
use mathlib.Core.Bool.{true, false}
use mathlib.Core.List.{List}
use Prim.Native.Nat.{ℕ}
use native.Mathlib.Omega.{arith}
use lib.ListN.{length}
use Rattle.cells.specs.Cell.{zeros}
use Rattle.pages.specs.Pages.{white}
use Rattle.outside.proofs.WhiteOutside.{white-outside-white}
use Rattle.store.specs.Chain.{free_count}
use Rattle.store_sound.specs.Sound.{store_sound}
use Rattle.counters.specs.Counters.{none_set}
use Rattle.stored_values.specs.Stored.{unset}
use Rattle.values.specs.Sound.{values_sound}
use Rattle.values.proofs.Sound.{sound_none}
use Rattle.forms.specs.Form.{declared_of}
use Rattle.sound.specs.Sound.{background_ok}
use Rattle.content_check.specs.Contents.{contents_ok}
use Rattle.activity_check.specs.Activity.{active_ok, owed_ok}
use Rattle.session.specs.Session.{fresh, blank}
use Rattle.lent.specs.Lent.{World, world, rows_of, wrong_lent}
use Rattle.sound.proofs.Times.{fresh-times}
use Rattle.keeps_sound.specs.Good.{Good}
use Rattle.keeps_sound.proofs.Facts.{lent-facts, facts-numbers}
use Rattle.keeps_sound.proofs.Stored.{facts-activity}

pub white-zeros : (width length n : ℕ) → background_ok width length (zeros n) ≡ true
unfolding background_ok zeros white
white-zeros width length n = white-outside-white width length n

zero-values : (bytes values : List ℕ) → values_sound (declared_of bytes) (zeros (length values)) blank ≡ true
unfolding zeros unset none_set
zero-values bytes values = sound_none (declared_of bytes) values

no-form : (directory : List ℕ) → active_ok directory 65535 ≡ true
unfolding active_ok
no-form directory = refl

none-owed : (directory bytes values : List ℕ) → owed_ok 0 directory bytes values blank ≡ true
unfolding owed_ok
none-owed directory bytes values = refl

-- n bytes of background, and values as long as these
module _ (n : ℕ) (store links directory values : List ℕ) where
  abbrev pub begins : World
  begins = world (zeros n) store links directory (zeros (length values))

  pub fresh-good :
      wrong_lent begins ≡ false → store_sound store links directory ≡ true → contents_ok store links directory ≡ true → (free : ℕ) → free ≡ free_count links →
      Good (fresh (rows_of begins) free) begins
  fresh-good e sound contents free count =
      let f = lent-facts begins e in
      record {
        lengths = e;
        numbers = facts-numbers (rows_of begins) (fresh (rows_of begins) free) (record {
          wide-least = omega arith;
          wide-most = omega arith;
          long-least = omega (arith, f.least);
          long-most = omega arith;
          turn = omega arith;
          x = omega arith;
          y = omega arith;
        });
        times = fresh-times;
        background = white-zeros 608 (rows_of begins) n;
        store = sound;
        free = count;
        contents = contents;
        activity = facts-activity (fresh (rows_of begins) free) directory _ (zeros (length values)) (record {
          form = no-form directory;
          fit = zero-values _ values;
          counts = refl;
          owed = none-owed directory _ (zeros (length values));
        });
      }
