-- Sound is its layers.
-- Assumes nothing.
use mathlib.Core.Path.{◌≡◌, refl}
use mathlib.Core.Bool.{Bool, true, false, ◌&&◌, false≢true}
use Rattle.store_sound.specs.Sound.{store_sound}
use Rattle.free_number.specs.Number.{free_number}
use Rattle.sound.specs.Sound.{numbers_ok, times_ok, background_ok, sound}
use Rattle.sound.proofs.Numbered.{counted-number, number-counted}
use Rattle.content_check.specs.Contents.{contents_ok}
use Rattle.session.specs.declared.Session.{Session}
use Rattle.lent.specs.Lent.{World, rows_of, wrong_lent}
use Rattle.keeps_sound.specs.Good.{Good}

pub both : (a b : Bool) → a ≡ true → b ≡ true → (a && b) ≡ true
both a b e f = rw (e, f)

pub first_of : (a b : Bool) → (a && b) ≡ true → a ≡ true
first_of true b e = refl
first_of false b e = e

pub second-of : (a b : Bool) → (a && b) ≡ true → b ≡ true
second-of true b e = e
second-of false b e = absurd (false≢true e)

pub good-sound : (s : Session) (w : World) → Good s w → sound s w ≡ true
unfolding sound
good-sound s w g =
    both _ _ g.numbers
    (both _ _ g.times
    (both _ _ g.background
    (both _ _ g.store
    (both _ _ (counted-number w.store w.links w.directory g.store s.free g.free) (both _ _ g.contents g.activity)))))

pub sound-good : (s : Session) (w : World) → wrong_lent w ≡ false → sound s w ≡ true → Good s w
unfolding sound
sound-good s w l e =
    let t = second-of (numbers_ok (rows_of w) s) _ e in
    let a = second-of (times_ok s.clock s.formats) _ t in
    let b = second-of (background_ok s.width s.length w.background) _ a in
    let c = second-of (store_sound w.store w.links w.directory) _ b in
    let d = second-of (free_number w.links w.directory s.free) _ c in
    let h = first_of (store_sound w.store w.links w.directory) _ b in
    record {
      lengths = l;
      numbers = first_of (numbers_ok (rows_of w) s) _ e;
      times = first_of (times_ok s.clock s.formats) _ t;
      background = first_of (background_ok s.width s.length w.background) _ a;
      store = h;
      free = number-counted w.store w.links w.directory h s.free (first_of (free_number w.links w.directory s.free) _ c);
      contents = first_of (contents_ok w.store w.links w.directory) _ d;
      activity = second-of (contents_ok w.store w.links w.directory) _ d;
    }
