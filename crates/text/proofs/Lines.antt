-- A text drawn: what its numbers are held to, and the two modes.
-- Assumes nothing.
use mathlib.Core.Path.{◌≡◌, refl, sym, ap, ◌∙◌}
use mathlib.Core.Bool.{Bool, true, false, cond, ◌&&◌}
use mathlib.Core.List.{List, []}
use Prim.Native.Nat.{ℕ, ◌*◌, ◌≤◌}
use native.Mathlib.Omega.{arith}
use borrow.Author.Tests.{leb-true}
use lib.ListN.{length}
use lib.Dec.{leb}
use Rattle.dots.specs.declared.Ink.{Ink}
use Rattle.dots.specs.declared.Ink.TheVariants.{Black, White}
use Rattle.dots.specs.Dots.{drawn, box}
use Rattle.ground.proofs.Tests.{and-true}
use Rattle.figures.specs.declared.Spot.{Spot}
use Rattle.text.specs.Text.{along, down, glyphs, on_label, spot_of, drawable, in_mode, text_drawn}
use Rattle.dots.proofs.Pages.{Bytes}
use Rattle.figures.proofs.Placed.{none-placed}

pub record Drawable (h v n : ℕ) : Type 0 where
  pub wide : h ≤ 6
  pub high : v ≤ 9
  pub short : n ≤ 128

pub drawable-says : (h v : ℕ) (text : List ℕ) → drawable h v text ≡ true → Drawable h v (length text)
drawable-says h v text e =
    let b = and-true (leb h 6) (leb v 9 && leb (length text) 128) e in
    let d = and-true (leb v 9) (leb (length text) 128) b.1 in
    record { wide = leb-true h 6 b.0; high = leb-true v 9 d.0; short = leb-true (length text) 128 d.1 }

module _ (s : Spot) (figure : ℕ → ℕ → Bool) (reverse : Bool) (p : List ℕ) where
  pub mode-black : (q : List ℕ) → reverse ≡ false → q ≡ drawn Black (on_label s figure) p → q ≡ in_mode reverse s figure p
  unfolding in_mode
  mode-black q e d = rw e d

  pub mode-reverse : (q t : List ℕ) → reverse ≡ true → q ≡ drawn Black (on_label s (box 0 0 s.wide s.high)) p
      → t ≡ drawn White (on_label s figure) q → t ≡ in_mode reverse s figure p
  unfolding in_mode
  mode-reverse q t e d f = rw e (f ∙ ap (drawn White (on_label s figure)) d)

module _ (width height x y r h v : ℕ) (reverse : Bool) (font text p : List ℕ) where
  pub text-none : drawable h v text ≡ false → p ≡ text_drawn width height x y r h v reverse font text p
  unfolding text_drawn
  text-none e = rw e

  pub text-drawn : (s : Spot) (q : List ℕ) → drawable h v text ≡ true → s ≡ spot_of width height x y r h v font (length text)
      → q ≡ in_mode reverse s (glyphs font h v text) p → q ≡ text_drawn width height x y r h v reverse font text p
  unfolding text_drawn
  text-drawn s q e a d = d ∙ ap (λ (z : Spot). in_mode reverse z (glyphs font h v text) p) a ∙ rw e

  -- a text of no bytes draws nothing
  pub text-empty : Bytes p → text ≡ [] → text_drawn width height x y r h v reverse font text p ≡ p
  unfolding text_drawn in_mode
  text-empty by e = rw e (either (drawable h v []))
    where
      s : Spot
      s = spot_of width height x y r h v font 0

      none : (ink : Ink) (figure : ℕ → ℕ → Bool) → drawn ink (on_label s figure) p ≡ p
      none ink figure = sym (none-placed ink width height r (0 * along font h) (down font v) x y figure p by (λ u w i j. absurd (omega arith)))

      modes : (b : Bool) → in_mode b s (glyphs font h v []) p ≡ p
      modes false = none Black _
      modes true = ap (drawn White (on_label s (glyphs font h v []))) (none Black _) ∙ none White _

      either : (b : Bool) → cond b (in_mode reverse s (glyphs font h v []) p) p ≡ p
      either true = modes reverse
      either false = refl
