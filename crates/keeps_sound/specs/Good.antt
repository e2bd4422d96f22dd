-- Serves the proofs alone: sound lent memory of right lengths, layer by layer, as each call is shown to keep it. The number of free
-- portions is that of the links marked free, which on a sound store is the one that sound asks for.
-- Assumes nothing.
use Rattle.std.specs.Prelude.{◌≡◌, true, false}
use Rattle.store.specs.Chain.{free_count}
use Rattle.store_sound.specs.Sound.{store_sound}
use Rattle.sound.specs.Sound.{numbers_ok, times_ok, background_ok, active_bytes}
use Rattle.content_check.specs.Contents.{contents_ok}
use Rattle.activity_check.specs.Activity.{activity_sound}
use Rattle.session.specs.declared.Session.{Session}
use Rattle.lent.specs.Lent.{World, rows_of, wrong_lent}

pub record Good (s : Session) (w : World) : Type 0 where
  pub lengths : wrong_lent w ≡ false
  pub numbers : numbers_ok (rows_of w) s ≡ true
  pub times : times_ok s.clock s.formats ≡ true
  pub background : background_ok s.width s.length w.background ≡ true
  pub store : store_sound w.store w.links w.directory ≡ true
  pub free : s.free ≡ free_count w.links
  pub contents : contents_ok w.store w.links w.directory ≡ true
  pub activity : activity_sound s w.directory (active_bytes w.store w.links w.directory s.active) w.values ≡ true
