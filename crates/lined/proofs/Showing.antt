-- The line under the bars, and the bars over it: bytes, sizes, and each of the two drawn by itself.
-- Assumes nothing.
use mathlib.Core.Path.{◌≡◌, refl, ap, ◌∙◌}
use mathlib.Core.Bool.{Bool, true, false, false≢true}
use mathlib.Core.List.{List, [], ◌∷◌, ◌++◌}
use Prim.Native.Nat.{ℕ, ◌+◌, ◌*◌, ◌≤◌, ◌<◌}
use native.Mathlib.Nat.{mul-le-mul}
use native.Mathlib.Omega.{arith}
use borrow.Author.Tests.{le-leb}
use lib.ListN.{length, drop, set, replicate, length-append}
use lib.Seq.{sets, sets-eq, set_at}
use Rattle.dots.specs.declared.Ink.TheVariants.{Black}
use Rattle.dots.specs.Dots.{drawn, cut}
use Rattle.figures.specs.Figures.{placed}
use Rattle.kinds.specs.declared.Kind.{Kind}
use Rattle.kinds.specs.declared.Kind.TheVariants.{Shown, Code39, Interleaved, Ean13, Code128}
use Rattle.kinds.specs.Fit.{fit}
use Rattle.code128.specs.Widths.{sum}
use Rattle.symbols.specs.Elements.{check_digit, checked}
use Rattle.kinds.proofs.FitData.{fit-most, fit-twelve}
use Rattle.text.specs.Text.{down, glyphs, in_mode, text_drawn}
use Rattle.bars.specs.Drawing.{in_limits, widths, bars, bars_drawn}
use Rattle.lined.specs.Lined.{checks, line_of, line_wide}

-- ---- what the line shows
pub line-checked : (kind : Kind) (s : List ℕ) → checks kind ≡ true → line_of kind s ≡ checked s
unfolding line_of
line-checked kind s e = rw e

pub line_plain : (kind : Kind) (s : List ℕ) → checks kind ≡ false → line_of kind s ≡ s
unfolding line_of
line_plain kind s e = rw e

-- twelve digits have a check digit, and no other data
pub checks-twelve : (kind : Kind) (s : List ℕ) → checks kind ≡ true → fit kind s ≡ true → length s ≡ 12
checks-twelve Shown s e h = absurd (false≢true e)
checks-twelve Code39 s e h = absurd (false≢true e)
checks-twelve Interleaved s e h = absurd (false≢true e)
checks-twelve Ean13 s e h = fit-twelve s h
checks-twelve Code128 s e h = absurd (false≢true e)

pub length-checked : (kind : Kind) (s : List ℕ) → checks kind ≡ true → length s + 1 ≡ length (line_of kind s)
unfolding checked
length-checked kind s e = rw (line-checked kind s e, length-append)

pub length-plain : (kind : Kind) (s : List ℕ) → checks kind ≡ false → length s ≡ length (line_of kind s)
length-plain kind s e = rw (line_plain kind s e)

pub line-short : (kind : Kind) (s : List ℕ) → fit kind s ≡ true → length (line_of kind s) ≤ 128
line-short kind s h = by (checks kind) refl
  where
    by : (b : Bool) → checks kind ≡ b → length (line_of kind s) ≤ 128
    by true e = omega (arith, length-checked kind s e, checks-twelve kind s e h)
    by false e = omega (arith, length-plain kind s e, fit-most kind s h)

-- the digits put from the start on, and the check digit stored behind them
pub line-stored : (s : List ℕ) (c : ℕ) → length s ≡ 12 → c ≡ check_digit s → set (sets (replicate 13 0) 0 s) 12 (48 + c) ≡ checked s
unfolding checked
line-stored s c n e =
    let front : sets {A = ℕ} (replicate 13 0) 0 s ≡ s ++ drop (0 + length s) (replicate 13 0) = sets-eq s (replicate 13 0) 0 (omega arith) in
    let last : drop {A = ℕ} (0 + length s) (replicate 13 0) ≡ 0 ∷ [] =
    ap (λ (k : ℕ). drop {A = ℕ} k (replicate 13 0)) (let z : 0 + length s ≡ 12 = omega arith in z) in
    ap (λ (l : List ℕ). set l 12 (48 + c)) (front ∙ ap (λ (l : List ℕ). s ++ l) last) ∙ set_at s 0 [] (48 + c) 12 n
    ∙ ap (λ (k : ℕ). s ++ ((48 + k) ∷ [])) e

-- the line's width is a number that fits
pub line-product : (n m : ℕ) → n ≤ 128 → m < 256 → n * m ≤ 32640
line-product n m g h = mul-le-mul {n₁ = n} {m₁ = m} {n₂ = 128} {m₂ = 255} g (omega arith)

-- ---- each drawn by itself
pub bars-placed : (W L x y r : ℕ) (kind : Kind) (e f g : ℕ) (s p : List ℕ) → in_limits e f g ≡ true → fit kind s ≡ true
    → bars_drawn W L x y r kind e f g s p ≡ drawn Black (cut W L (placed r (sum (widths kind e f s)) g x y (bars (widths kind e f s)))) p
unfolding bars_drawn
bars-placed W L x y r kind e f g s p h k = rw (h, k)

pub line-placed : (W L x y r : ℕ) (font text p : List ℕ) → length text ≤ 128
    → text_drawn W L x y r 1 1 false font text p ≡ drawn Black (cut W L (placed r (line_wide font text) (down font 1) x y (glyphs font 1 1 text))) p
unfolding text_drawn in_mode
line-placed W L x y r font text p h = rw (le-leb (length text) 128 h)
