-- A slot loses nothing of the session; one of version 1 only the clock and the formats, which were not there.
use Prim.Native.Nat.{ℕ, ◌<◌, ◌≤◌}
use native.Mathlib.Omega.{arith}
use mathlib.Core.Bool.{Bool, true, false, cond}
use mathlib.Core.List.{List}
use mathlib.Core.Path.{◌≡◌, refl, ap, ◌∙◌}
use lib.ListN.{take}
use Rattle.session.specs.declared.Session.{Session}
use Rattle.session.specs.Session.{roomed}
use Rattle.low_first.specs.Low.{number_at, bytes_of}
use Rattle.image.specs.Image.{every_five, counter_bytes, session_of, image_of, Fits}
use Rattle.image.proofs.Inverse.{session-image}
use Rattle.slots.specs.Slots.{page_bytes, is_first, held_image, sum_at, dated}

pub held-most : (file : List ℕ) → held_image file ≤ 83
unfolding held_image
held-most file = most (is_first file)
  where
    most : (b : Bool) → cond b 65 83 ≤ 83
    most true = omega arith
    most false = omega arith

-- the sum is within the slot's page
pub sum-within : (file : List ℕ) (n : ℕ) → n ≡ sum_at file → n < page_bytes
sum-within file n e = omega (arith, held-most file)

pub held-again : (file : List ℕ) (s : Session) → is_first file ≡ false → Fits s → session_of (take (held_image file) (image_of s)) ≡ s
unfolding held_image number_at bytes_of every_five counter_bytes session_of image_of
held-again file s e f = rw e (session-image s f)

pub first-again : (file : List ℕ) (s : Session) → is_first file ≡ true → Fits s → roomed (dated (session_of (take (held_image file) (image_of s)))) s.free ≡ dated s
unfolding held_image number_at bytes_of every_five counter_bytes session_of image_of
first-again file s e f = rw e (ap (λ (t : Session). roomed (dated t) s.free) (session-image s f))
