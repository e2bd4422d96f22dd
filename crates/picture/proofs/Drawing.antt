-- A picture drawn run by run, and what is drawn in the end.
-- Assumes nothing.
use mathlib.Core.Path.{◌≡◌, refl, sym, ap, ◌∙◌}
use mathlib.Core.Bool.{Bool, true, false, ◌&&◌}
use mathlib.Core.List.{List, [], ◌++◌}
use Prim.Native.Nat.{ℕ, ◌+◌, ◌-◌, ◌*◌, ◌/◌, ◌%◌, ◌≤◌, ◌<◌}
use native.Mathlib.Nat.{mul-le-mul, mul_comm}
use native.Mathlib.Omega.{arith}
use lib.ListN.{length, get_or, drop, replicate, length-append, length-replicate, length-drop, get_or-replicate, drop_of_length-le, get_or-append}
use lib.Seq.{drop_at, drop-drop, get_or-drop}
use lib.Dec.{ltb}
use borrow.Author.Tests.{ltb-true, lt-ltb, not-true}
use Rattle.dots.specs.declared.Ink.TheVariants.{Black}
use Rattle.dots.specs.Dots.{drawn, box, cut, bit_of, rows}
use Rattle.dots.proofs.Pages.{Bytes, drawn-ext, drawn-off}
use Rattle.dots.proofs.Shapes.{In, in-box, box_in, same_test}
use Rattle.ground.proofs.Tests.{is_false, and-true}
use Rattle.pcx.specs.Rules as rules
use Rattle.pcx.specs.Rules.{times, next, given, decoded, legal, line_byte, line_bytes}
use Rattle.picture.specs.declared.Spot.{Spot}
use Rattle.picture.specs.Shape.{dark, pictured}
use Rattle.picture.specs.Steps.{part, Fits, spot_of}
use Rattle.pcx.proofs.Runs.{given-step, next_le}
use Rattle.pcx.proofs.Rules.{legal-says}
use Rattle.picture.proofs.Part.{part_says, says-part, part-cong, run-start, run_step, lines-below}

-- ---- a list that begins with a run
module _ (D g : List ℕ) (q t b : ℕ) (e : replicate t b ++ g ≡ drop q D) (h : q ≤ length D) where
  pub run-within : q + t ≤ length D
  run-within = omega (arith, length-append (replicate t b) g, length-replicate t b, ap length e, length-drop q D)

  pub run-rest : g ≡ drop (q + t) D
  run-rest = sym (drop_at (replicate t b) g t (length-replicate t b)) ∙ ap (drop t) e ∙ drop-drop t q D

  pub run_value : (k : ℕ) → q ≤ k → k < q + t → b ≡ get_or D k 0
  run_value k s u =
      let z : q + (k - q) ≡ k = omega arith in
      sym (get_or-replicate t (k - q) b 0 (omega arith))
      ∙ sym (get_or-append (replicate t b) g 0 (k - q) (omega (arith, length-replicate t b)))
      ∙ ap (λ (l : List ℕ). get_or l (k - q) 0) e ∙ get_or-drop q D (k - q) 0 ∙ ap (λ (n : ℕ). get_or D n 0) z

-- ---- a pass that draws: what is to come is the picture's bytes from number q on, and those before are drawn
abbrev pub byte_of_picture : List ℕ → ℕ → ℕ
byte_of_picture s k = get_or (decoded s) k 0

pub record Drawing (p : Spot) (s : List ℕ) (i n q : ℕ) (page₀ page : List ℕ) : Type 0 where
  pub rest : given n (drop i s) ≡ drop q (decoded s)
  pub within : q ≤ length (decoded s)
  pub run : n ≤ 63
  pub done : page ≡ drawn Black (part p (byte_of_picture s) 0 q) page₀
  pub long : length page ≡ length page₀

module _ (p : Spot) (s : List ℕ) (page₀ : List ℕ) where
  pub drawing-start : Bytes page₀ → Drawing p s 128 0 0 page₀ page₀
  drawing-start by = record { rest = refl; within = omega arith; run = omega arith; done = run-start p (byte_of_picture s) 0 page₀ by; long = refl }

  pub drawing-room : (i n q t : ℕ) (page : List ℕ) → i < length s → Drawing p s i n q page₀ page → t ≡ times n (get_or s i 0) → q + t ≤ length (decoded s)
  drawing-room i n q t page h d e =
      rw e (run-within (decoded s) _ q (times n (get_or s i 0)) (get_or s i 0) (sym (given-step s i n h) ∙ d.rest) d.within)

  pub drawing-step : (i n q t m : ℕ) (page r : List ℕ) → i < length s → Drawing p s i n q page₀ page → t ≡ times n (get_or s i 0) → m ≡ next n (get_or s i 0)
      → r ≡ drawn Black (part p (λ k. get_or s i 0) q (q + t)) page → length r ≡ length page → Drawing p s (i + 1) m (q + t) page₀ r
  drawing-step i n q t m page r h d et em er el =
      let b = get_or s i 0 in
      let e : replicate t b ++ given m (drop (i + 1) s) ≡ drop q (decoded s) = rw (et, em) (sym (given-step s i n h) ∙ d.rest) in
      record {
        rest = run-rest (decoded s) (given m (drop (i + 1) s)) q t b e d.within;
        within = run-within (decoded s) (given m (drop (i + 1) s)) q t b e d.within;
        run = rw em (next_le n b);
        done = run_step p (byte_of_picture s) 0 q (q + t) page₀ page r (omega arith) (omega arith) d.done
            (er ∙ drawn-ext Black (part p (λ k. b) q (q + t)) (part p (byte_of_picture s) q (q + t)) page
            (λ x y u v. part-cong p (λ k. b) (byte_of_picture s) q (q + t) x y (run_value (decoded s) (given m (drop (i + 1) s)) q t b e d.within)));
        long = el ∙ d.long;
      }

  pub drawing-done : (i n q : ℕ) (page : List ℕ) → length s ≤ i → Drawing p s i n q page₀ page
      → page ≡ drawn Black (part p (byte_of_picture s) 0 (length (decoded s))) page₀
  unfolding given
  drawing-done i n q page h d =
      let z : [] ≡ drop q (decoded s) = sym (ap (given n) (drop_of_length-le s h)) ∙ d.rest in
      let e : q ≡ length (decoded s) = omega (arith, ap length z, length-drop q (decoded s), d.within) in
      d.done ∙ ap (λ (k : ℕ). drawn Black (part p (byte_of_picture s) 0 k) page₀) e

-- ---- the whole picture
-- each byte of each line of a legal picture is given by a run
pub line-given : (s : List ℕ) (v k : ℕ) → legal s ≡ true → v < rules.height s → k < line_bytes s → v * line_bytes s + k < length (decoded s)
line-given s v k law hv hk =
    let l = legal-says s law in
    omega (arith, lines-below v (rules.height s) (line_bytes s) k hk hv, mul_comm (line_bytes s) (rules.height s), l.whole)

pub record InPicture (s : List ℕ) (x y a b : ℕ) : Type 0 where
  pub lawful : legal s ≡ true
  pub there : In x y (x + rules.width s) (y + rules.height s) a b
  pub bit : bit_of (line_byte s (b - y) ((a - x) / 8)) ((a - x) % 8) ≡ false

pub pictured-says : (s : List ℕ) (x y a b : ℕ) → pictured s x y a b ≡ true → InPicture s x y a b
unfolding pictured
pictured-says s x y a b e =
    let h = and-true (legal s) _ e in
    let k = and-true (box x y (x + rules.width s) (y + rules.height s) a b) (dark s (a - x) (b - y)) h.1 in
    record { lawful = h.0; there = in-box x y (x + rules.width s) (y + rules.height s) a b k.0; bit = not-true _ k.1 }

pub says-pictured : (s : List ℕ) (x y a b : ℕ) → InPicture s x y a b → pictured s x y a b ≡ true
unfolding pictured
says-pictured s x y a b h = rw (h.lawful, box_in x y (x + rules.width s) (y + rules.height s) a b h.there, h.bit)

-- a picture that has no dot on the page
pub none-pictured : (s : List ℕ) (width length x y : ℕ) (page : List ℕ) → Bytes page
    → ((a b : ℕ) → a < 608 → b < rows page → InPicture s x y a b → ⊥) → page ≡ drawn Black (cut width length (pictured s x y)) page
none-pictured s width length x y page by n =
    sym (drawn-off Black (cut width length (pictured s x y)) page by
    (λ a b u v. is_false (cut width length (pictured s x y) a b) (λ e. n a b u v (pictured-says s x y a b (and-true (ltb a width && ltb b length) _ e).1))))

-- what is no legal picture draws nothing
pub illegal-draws-nothing : (s : List ℕ) (width length x y : ℕ) (page : List ℕ) → Bytes page → legal s ≡ false
    → page ≡ drawn Black (cut width length (pictured s x y)) page
illegal-draws-nothing s width length x y page by e =
    none-pictured s width length x y page by
    (λ a b u v h. let z : ◌≡◌ {A = Bool} true false = sym h.lawful ∙ e in let w : ◌≡◌ {A = ℕ} 0 1 = cc in omega arith)

module _ (s : List ℕ) (width length' x y : ℕ) (page : List ℕ) (law : legal s ≡ true) where
  spot : Spot
  spot = spot_of (length page / 76) width length' x y s

  whole-picture : (a b : ℕ) → b < rows page → part spot (byte_of_picture s) 0 (length (decoded s)) a b ≡ cut width length' (pictured s x y) a b
  unfolding spot spot_of
  whole-picture a b low =
      let l = legal-says s law in
      same_test (part spot (byte_of_picture s) 0 (length (decoded s)) a b) (cut width length' (pictured s x y) a b)
      (λ e. let h = part_says spot (byte_of_picture s) 0 (length (decoded s)) a b e in
      let w = h.there in
      rw (
        lt-ltb a width (omega (arith, w.right)),
        lt-ltb b length' (omega (arith, w.bottom)),
        says-pictured s x y a b
            (record {
              lawful = law;
              there = record { left = w.left; right = omega (arith, w.right); top = w.top; bottom = omega (arith, w.bottom) };
              bit = h.bit;
            }),
      ))
      (λ e. let k = and-true (ltb a width && ltb b length') (pictured s x y a b) e in
      let c = and-true (ltb a width) (ltb b length') k.0 in
      let h = pictured-says s x y a b k.1 in
      let w = h.there in
      let to = line-given s (b - y) ((a - x) / 8) law (omega (arith, w.top, w.bottom)) (omega (arith, w.left, w.right, l.header.holds)) in
      says-part spot (byte_of_picture s) 0 (length (decoded s)) a b
      (record {
        there = record {
          left = w.left;
          right = omega (arith, w.right, ltb-true a width c.0);
          top = w.top;
          bottom = omega (arith, w.bottom, ltb-true b length' c.1, low);
        };
        from = omega arith;
        to = to;
        bit = h.bit;
      }))

  -- as the code has it, where the spot is p
  module _ (p : Spot) (hp : p ≡ spot_of (length page / 76) width length' x y s) where
    pub drawn-picture : (r : List ℕ) → r ≡ drawn Black (part p (byte_of_picture s) 0 (length (decoded s))) page
        → r ≡ drawn Black (cut width length' (pictured s x y)) page
    unfolding spot
    drawn-picture r e =
        e ∙ ap (λ (q : Spot). drawn Black (part q (byte_of_picture s) 0 (length (decoded s))) page) hp
        ∙ drawn-ext Black (part spot (byte_of_picture s) 0 (length (decoded s))) (cut width length' (pictured s x y)) page (λ a b u v. whole-picture a b v)

    pub picture-fits : x < 608 → y < length page / 76 → Fits p (length (decoded s)) page
    unfolding spot_of
    picture-fits u v =
        let l = legal-says s law in
        rw hp
        (record {
          left = u;
          top = v;
          some = omega (arith, l.header.holds);
          holds = omega (arith, l.header.holds);
          ends = refl;
          small = omega (arith, l.whole, mul-le-mul l.header.room l.header.high);
        })

-- a byte's number up to which the page has room, on a page of the same length
pub fits-at : (p : Spot) (q k : ℕ) (page page' : List ℕ) → Fits p q page → k ≤ q → length page' ≡ length page → Fits p k page'
fits-at p q k page page' f h e =
    record { left = f.left; top = omega (arith, f.top, e); some = f.some; holds = f.holds; ends = f.ends; small = omega (arith, f.small) }
