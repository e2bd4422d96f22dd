-- An image stored part by part is stored.
use mathlib.Core.Path.{◌≡◌, refl, sym, ap, ◌∙◌}
use mathlib.Core.List.{List, [], ◌∷◌, ◌++◌}
use Prim.Native.Nat.{ℕ, ◌+◌, ◌/◌, ◌%◌}
use lib.ListN.{length}
use lib.Seq.{sets}
use Rattle.ground.proofs.Stores.{sets-append}
use Rattle.session.specs.declared.Session.{Session}
use Rattle.low_first.specs.Low.{bytes_of}
use Rattle.image.specs.Image.{counter_bytes, head_of, clock_bytes, format_bytes, image_of}

-- a part, of which it is known what it is, and behind it the rest
then : (l m r : List ℕ) (at : ℕ) (p a b : List ℕ) → p ≡ a → m ≡ sets l at p → r ≡ sets m (at + length a) b → r ≡ sets l at (a ++ b)
then l m r at p a b h e f = f ∙ (ap (λ (k : List ℕ). sets k (at + length a) b) (e ∙ ap (sets l at) h) ∙ sym (sets-append l at a b))

-- a number's two bytes
pub two_bytes : (x a b : ℕ) → a ≡ x % 256 → b ≡ x / 256 % 256 → a ∷ b ∷ [] ≡ bytes_of 2 x
unfolding bytes_of
two_bytes x a b p q = rw (p, q)

module _ (s : Session) (i : List ℕ) {i1 i2 i3 i4 i5 i6 head free clock date time : List ℕ} where
  pub image-stored :
      head ≡ head_of s → i1 ≡ sets i 0 head →
      i2 ≡ sets i1 15 (counter_bytes 10 0 s.counters) →
      free ≡ bytes_of 2 s.free → i3 ≡ sets i2 65 free →
      clock ≡ clock_bytes s.clock → i4 ≡ sets i3 67 clock →
      date ≡ format_bytes s.formats.date → i5 ≡ sets i4 73 date →
      time ≡ format_bytes s.formats.time → i6 ≡ sets i5 78 time →
      i6 ≡ sets i 0 (image_of s)
  unfolding bytes_of counter_bytes image_of
  image-stored h p1 p2 f p3 c p4 d p5 t p6 =
      let formats = format_bytes s.formats.date ++ format_bytes s.formats.time in
      let times = clock_bytes s.clock ++ formats in
      let behind = bytes_of 2 s.free ++ times in
      then i i1 i6 0 head (head_of s) (counter_bytes 10 0 s.counters ++ behind) h p1
      (then i1 i2 i6 15 (counter_bytes 10 0 s.counters) (counter_bytes 10 0 s.counters) behind refl p2
      (then i2 i3 i6 65 free (bytes_of 2 s.free) times f p3
      (then i3 i4 i6 67 clock (clock_bytes s.clock) formats c p4
      (then i4 i5 i6 73 date (format_bytes s.formats.date) (format_bytes s.formats.time) d p5 (p6 ∙ ap (sets i5 78) t)))))
