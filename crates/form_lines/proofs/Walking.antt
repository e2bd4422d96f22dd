-- A reader that goes along a form's lines.
-- Assumes nothing.
use mathlib.Core.Path.{◌≡◌, refl, sym, ap, ◌∙◌}
use mathlib.Core.Bool.{Bool, true, false, cond}
use mathlib.Core.List.{List, []}
use Prim.Native.Nat.{ℕ, suc, ◌-◌, ◌≤◌, ◌<◌}
use native.Mathlib.Omega.{arith}
use native.Mathlib.Decide.{dec_le}
use lib.ListN.{length, take}
use lib.Seq.{take_all}
use borrow.Author.Tests.{eq-eqb, ne_eqb, lt-ltb, le-ltb}
use Rattle.cells.proofs.Counts.{drop-none}
use Rattle.cells.proofs.Sets.{sets-front}
use Rattle.contents.specs.declared.Cursor.{Cursor}
use Rattle.content_lines.specs.declared.Next.TheVariants.{Line, End, Bad}
use Rattle.contents.specs.Content.{bytes_from, ahead, onward, after}
use Rattle.content_lines.specs.Lines.{line_of, next_line, lined}
use Rattle.contents.proofs.Reading.{length-bytes, length-ahead, ahead_after}
use Rattle.content_lines.proofs.Lines.{line-most}
use Rattle.form_lines.specs.Walk.{line_in, behind}
use Rattle.form_lines.proofs.Folding.{behind-less, behind-tail, line-good, line-long, line-cut}

-- ---- what the next line says

module _ (store links : List ℕ) (c : Cursor) where
  abbrev a : List ℕ
  a = ahead store links c

  abbrev n₀ : ℕ
  n₀ = length (line_of a)

  is-long : 255 < n₀ → next_line store links c ≡ Bad
  unfolding next_line
  is-long h = rw (lt-ltb 255 n₀ h)

  is-line : n₀ ≤ 255 → n₀ < c.left → next_line store links c ≡ Line n₀ (after links c (suc n₀))
  unfolding next_line
  is-line h k = rw (le-ltb 255 n₀ h, lt-ltb n₀ c.left k)

  is-end : c.left ≡ 0 → next_line store links c ≡ End
  unfolding next_line
  is-end e =
      rw (le-ltb 255 n₀ (omega (arith, line-most a, length-ahead store links c)), le-ltb n₀ c.left (omega (arith, e)), eq-eqb c.left 0 e)

  is_cut : n₀ ≤ 255 → c.left ≤ n₀ → (c.left ≡ 0 → ⊥) → next_line store links c ≡ Bad
  unfolding next_line
  is_cut h k e = rw (le-ltb 255 n₀ h, le-ltb n₀ c.left k, ne_eqb c.left 0 e)

  pub record Found (n : ℕ) (c' : Cursor) : Type 0 where
    pub size : n ≡ n₀
    pub few : n₀ ≤ 255
    pub within : n₀ < c.left
    pub place : c' ≡ after links c (suc n₀)

  pub line-says : (n : ℕ) (c' : Cursor) → next_line store links c ≡ Line n c' → Found n c'
  line-says n c' e = go (dec_le n₀ 255) (dec_le (suc n₀) c.left) (dec_le c.left 0)
    where
      go : Dec (n₀ ≤ 255) → Dec (suc n₀ ≤ c.left) → Dec (c.left ≤ 0) → Found n c'
      go (yes h) (yes k) z =
          let q : Line n₀ (after links c (suc n₀)) ≡ Line n c' = sym (is-line h (omega arith)) ∙ e in
          record { size = let m : n ≡ n₀ = cc in m; few = h; within = omega arith; place = let m : c' ≡ after links c (suc n₀) = cc in m }
      go (no h) k z = let q : Bad ≡ Line n c' = sym (is-long (omega arith)) ∙ e in absurd (let y : ◌≡◌ {A = ℕ} 0 1 = cc in let w : ⊥ = omega arith in w)
      go (yes h) (no k) (yes z) = let q : End ≡ Line n c' = sym (is-end (omega arith)) ∙ e in absurd (let y : ◌≡◌ {A = ℕ} 0 1 = cc in let w : ⊥ = omega arith in w)
      go (yes h) (no k) (no z) =
          let q : Bad ≡ Line n c' = sym (is_cut h (omega arith) (λ (y : c.left ≡ 0). omega arith)) ∙ e in
          absurd (let y : ◌≡◌ {A = ℕ} 0 1 = cc in let w : ⊥ = omega arith in w)

  pub end-says : next_line store links c ≡ End → c.left ≡ 0
  end-says e = go (dec_le n₀ 255) (dec_le (suc n₀) c.left) (dec_le c.left 0)
    where
      go : Dec (n₀ ≤ 255) → Dec (suc n₀ ≤ c.left) → Dec (c.left ≤ 0) → c.left ≡ 0
      go h k (yes z) = omega arith
      go (no h) k (no z) = let q : Bad ≡ End = sym (is-long (omega arith)) ∙ e in absurd (let y : ◌≡◌ {A = ℕ} 0 1 = cc in let w : ⊥ = omega arith in w)
      go (yes h) (yes k) (no z) =
          let q : Line n₀ (after links c (suc n₀)) ≡ End = sym (is-line h (omega arith)) ∙ e in
          absurd (let y : ◌≡◌ {A = ℕ} 0 1 = cc in let w : ⊥ = omega arith in w)
      go (yes h) (no k) (no z) =
          let q : Bad ≡ End = sym (is_cut h (omega arith) (λ (y : c.left ≡ 0). omega arith)) ∙ e in
          absurd (let y : ◌≡◌ {A = ℕ} 0 1 = cc in let w : ⊥ = omega arith in w)

  -- no line that a form may have: bytes are there, and none of them is taken
  pub bad-says : next_line store links c ≡ Bad → (0 < n₀) × (line_in a ≡ [])
  bad-says e = go (dec_le n₀ 255) (dec_le (suc n₀) c.left) (dec_le c.left 0)
    where
      go : Dec (n₀ ≤ 255) → Dec (suc n₀ ≤ c.left) → Dec (c.left ≤ 0) → (0 < n₀) × (line_in a ≡ [])
      go (no h) k z = (omega arith, line-long a (omega arith))
      go (yes h) (yes k) z =
          let q : Line n₀ (after links c (suc n₀)) ≡ Bad = sym (is-line h (omega arith)) ∙ e in
          absurd (let y : ◌≡◌ {A = ℕ} 0 1 = cc in let w : ⊥ = omega arith in w)
      go (yes h) (no k) (yes z) = let q : End ≡ Bad = sym (is-end (omega arith)) ∙ e in absurd (let y : ◌≡◌ {A = ℕ} 0 1 = cc in let w : ⊥ = omega arith in w)
      go (yes h) (no k) (no z) = (omega arith, line-cut a (omega (arith, length-ahead store links c)))

  -- ---- what is ahead then

  pub line-behind : (n : ℕ) (c' : Cursor) → next_line store links c ≡ Line n c' → ahead store links c' ≡ behind a
  unfolding behind
  line-behind n c' e =
      let f = line-says n c' e in
      ap (ahead store links) f.place ∙ ahead_after store links c (suc n₀) (omega (arith, f.within))

  pub end-behind : next_line store links c ≡ End → a ≡ behind a
  unfolding behind
  end-behind e =
      let z = end-says e in
      drop-none a 0 (omega (arith, length-ahead store links c)) ∙ sym (drop-none a (suc n₀) (omega (arith, length-ahead store links c)))

  pub bad-behind : next_line store links c ≡ Bad → behind (ahead store links (onward links c)) ≡ behind a
  unfolding after
  bad-behind e =
      let b = bad-says e in
      ap behind (ahead_after store links c 1 (omega (arith, b.0, line-most a, length-ahead store links c))) ∙ behind-tail a b.0

  pub bad-less : next_line store links c ≡ Bad → suc (c.left - 1) ≤ c.left
  bad-less e = omega (arith, (bad-says e).0, line-most a, length-ahead store links c)

  -- ---- the line's length

  pub line-size : (n : ℕ) (c' : Cursor) → next_line store links c ≡ Line n c' → n ≡ length (line_in a)
  line-size n c' e =
      let f = line-says n c' e in
      f.size ∙ ap length (sym (line-good a (omega (arith, f.within, length-ahead store links c)) f.few))

  pub end-size : next_line store links c ≡ End → 0 ≡ length (line_in a)
  end-size e = ap length (sym (line-cut a (omega (arith, end-says e, length-ahead store links c))))

  pub bad-size : next_line store links c ≡ Bad → 0 ≡ length (line_in a)
  bad-size e = ap length (sym (bad-says e).1)

  -- the line at the front of a buffer that has room for it
  pub line_read : (n : ℕ) (buffer buffer' : List ℕ) → buffer' ≡ lined store links c buffer → n ≡ length (line_in a) → length buffer ≡ 256 → take n buffer' ≡ line_in a
  unfolding lined
  line_read n buffer buffer' b e l = go (dec_le (length a) n₀) (dec_le n₀ 255)
    where
      none : line_in a ≡ [] → take n buffer' ≡ line_in a
      none z = let k : n ≡ 0 = e ∙ ap length z in rw (k, z)

      go : Dec (length a ≤ n₀) → Dec (n₀ ≤ 255) → take n buffer' ≡ line_in a
      go (yes h) k = none (line-cut a h)
      go (no h) (no k) = none (line-long a (omega arith))
      go (no h) (yes k) =
          let g = line-good a (omega arith) k in
          rw (e, g, b, take_all 255 (line_of a) k) (sets-front buffer (line_of a) (omega arith))

-- ---- a search for the end of a line

pub search-goes : (g : Bool) (x y z : List ℕ) → g ≡ true → cond g x y ≡ z → x ≡ z
search-goes true x y z h e = e
search-goes false x y z h e = absurd (let y : ◌≡◌ {A = ℕ} 0 1 = cc in let w : ⊥ = omega arith in w)

pub search-ends : (g : Bool) (x y z : List ℕ) → g ≡ false → cond g x y ≡ z → y ≡ z
search-ends false x y z h e = e
search-ends true x y z h e = absurd (let y : ◌≡◌ {A = ℕ} 0 1 = cc in let w : ⊥ = omega arith in w)

pub search-less : (g : Bool) (m n : ℕ) → g ≡ true → m ≤ n → m < cond g (suc n) 0
search-less true m n h k = omega arith
search-less false m n h k = absurd (let y : ◌≡◌ {A = ℕ} 0 1 = cc in let w : ⊥ = omega arith in w)

-- ---- a line more

module _ (store links : List ℕ) (p at left p' at' left' : ℕ) (h : 0 < left) (there : bytes_from store links p' at' left' ≡ behind (bytes_from store links p at left)) where
  -- what is left grows less with each line
  pub walk-less : left' < left
  walk-less =
      let e : length (bytes_from store links p' at' left') ≡ length (behind (bytes_from store links p at left)) = ap length there in
      omega (arith, e, behind-less (bytes_from store links p at left) (omega (arith, length-bytes store links p at left)), length-bytes store links p at left, length-bytes store links p' at' left')
