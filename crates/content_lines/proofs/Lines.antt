-- The next line of a content, and all its lines.
use mathlib.Core.Path.{◌≡◌, refl, sym, ap, ◌∙◌}
use mathlib.Core.List.{List, [], ◌∷◌}
use mathlib.Core.Logic.{⊎_elim}
use Prim.Native.Nat.{ℕ, zero, suc, ◌+◌, ◌-◌, ◌*◌, ◌≤◌, ◌<◌, min}
use native.Mathlib.Omega.{arith}
use native.Mathlib.Numerals.{add-one}
use native.Mathlib.Decide.{dec_lt}
use native.Mathlib.Nat.{add-zero, add-suc, add_assoc, sub-zero}
use lib.ListN.{length, get_or, set, take, drop}
use lib.Seq.{sets, take_all, length-sets}
use borrow.Author.Tests.{eq-eqb, ne_eqb, lt-ltb, le-ltb}
use Rattle.cells.proofs.Sets.{sets-front}
use Rattle.ground.proofs.Tests.{same?}
use Rattle.contents.specs.declared.Cursor.{Cursor}
use Rattle.content_lines.specs.declared.Next.TheVariants.{Line, End, Bad}
use Rattle.contents.specs.Content.{portion_after, place_after, cursor, ahead, after}
use Rattle.content_lines.specs.Lines.{lines, onto, lines_of, line_of, next_line, lined}
use Rattle.contents.specs.Run.{copied}
use Rattle.contents.proofs.Reading.{Stands, stands-start, stands-step, stands-byte, stands-is, front-more, stays, length-ahead, ahead_after, after-left}

-- ---- `line_of`

pub line-most : (a : List ℕ) → length (line_of a) ≤ length a
unfolding line_of
line-most [] = omega arith
line-most (b ∷ bs) = ⊎_elim
    (λ (e : b ≡ 10). rw (eq-eqb b 10 e) (omega arith))
    (λ (n : b ≡ 10 → ⊥). rw (ne_eqb b 10 n) (omega (arith, line-most bs)))
    (same? b 10)

-- a line ends at the first LF
pub line-ends : (a : List ℕ) (n : ℕ) → n ≤ length (line_of a) → n < length a → get_or a n 0 ≡ 10 → length (line_of a) ≡ n
unfolding line_of
line-ends [] n h b e = absurd (omega arith)
line-ends (x ∷ a) zero h b e = rw (eq-eqb x 10 e)
line-ends (x ∷ a) (suc n) h b e = ⊎_elim
    (λ (y : x ≡ 10). absurd (let k : suc n ≤ 0 = rw (eq-eqb x 10 y) at h in omega arith))
    (λ (y : x ≡ 10 → ⊥).
    let k : suc n ≤ suc (length (line_of a)) = rw (ne_eqb x 10 y) at h in
    rw (ne_eqb x 10 y) (ap suc (line-ends a n (omega arith) (omega arith) e)))
    (same? x 10)

-- and goes on at any other byte
pub line-goes : (a : List ℕ) (n : ℕ) → n ≤ length (line_of a) → n < length a → (get_or a n 0 ≡ 10 → ⊥) → (n < length (line_of a)) × (get_or a n 0 ≡ get_or (line_of a) n 0)
unfolding line_of
line-goes [] n h b e = absurd (omega arith)
line-goes (x ∷ a) zero h b e = rw (ne_eqb x 10 e) (omega arith, refl)
line-goes (x ∷ a) (suc n) h b e = ⊎_elim
    (λ (y : x ≡ 10). absurd (let k : suc n ≤ 0 = rw (eq-eqb x 10 y) at h in omega arith))
    (λ (y : x ≡ 10 → ⊥).
    let k : suc n ≤ suc (length (line_of a)) = rw (ne_eqb x 10 y) at h in
    let r = line-goes a n (omega arith) (omega arith) e in
    rw (ne_eqb x 10 y) (omega (arith, r.0), r.1))
    (same? x 10)

-- ---- a pass over one line

pub record Lining (store links : List ℕ) (c₀ : Cursor) (buf₀ buf : List ℕ) (n p at left : ℕ) : Type 0 where
  pub stands : Stands store links c₀ n p at
  pub few : n ≤ 255
  pub within : n ≤ length (line_of (ahead store links c₀))
  pub rest : left + n ≡ c₀.left
  pub put : buf ≡ sets buf₀ 0 (take n (line_of (ahead store links c₀)))

module _ (store links : List ℕ) (c₀ : Cursor) (buf₀ : List ℕ) where
  abbrev a : List ℕ
  a = ahead store links c₀

  pub lining-start : Lining store links c₀ buf₀ buf₀ 0 c₀.portion c₀.at c₀.left
  lining-start = record { stands = stands-start store links c₀; few = omega arith; within = omega arith; rest = omega arith; put = refl }

  pub lining-long : (buf : List ℕ) (n p at left : ℕ) → Lining store links c₀ buf₀ buf n p at left → length buf ≡ length buf₀
  lining-long buf n p at left i = ap length i.put ∙ length-sets buf₀ 0 (take n (line_of a))

  module _ (buf : List ℕ) (n p at left b p' at' : ℕ) (i : Lining store links c₀ buf₀ buf n p at left) (h : 0 < left)
      (eb : b ≡ get_or store (p * 256 + at) 0) (ep : p' ≡ portion_after links p at) (ea : at' ≡ place_after at) where
    here : b ≡ get_or a n 0
    here = stands-byte store links c₀ n p at b (omega (arith, i.rest)) i.stands eb

    inside : n < length a
    inside = omega (arith, i.rest, length-ahead store links c₀)

    moved : Stands store links c₀ (n + 1) p' at'
    moved = stands-step store links c₀ n p at p' at' i.stands ep ea

    pub lining_ends : b ≡ 10 → (Line n (cursor p' at' (left - 1)) ≡ next_line store links c₀) × (buf ≡ lined store links c₀ buf₀)
    unfolding next_line lined
    lining_ends e =
        let l : length (line_of a) ≡ n = line-ends a n i.within inside (sym here ∙ e) in (
          rw (l, le-ltb 255 n i.few, lt-ltb n c₀.left (omega (arith, i.rest)))
              (ap (Line n) (stands-is store links c₀ (n + 1) p' at' (left - 1) moved (omega (arith, i.rest)) ∙ ap (after links c₀) (add-one n))),
          i.put ∙ ap (sets buf₀ 0) (take_all n (line_of a) (omega arith) ∙ sym (take_all 255 (line_of a) (omega (arith, i.few)))),
        )

    goes : (b ≡ 10 → ⊥) → (n < length (line_of a)) × (get_or a n 0 ≡ get_or (line_of a) n 0)
    goes ne = line-goes a n i.within inside (λ e. ne (here ∙ e))

    pub lining-bad : (b ≡ 10 → ⊥) → n ≡ 255 → (Bad ≡ next_line store links c₀) × (buf ≡ lined store links c₀ buf₀)
    unfolding next_line lined
    lining-bad ne e = (
      rw (lt-ltb 255 (length (line_of a)) (omega (arith, (goes ne).0))),
      i.put ∙ ap (λ (k : ℕ). sets buf₀ 0 (take k (line_of a))) e,
    )

    pub lining_step : (b ≡ 10 → ⊥) → (n ≡ 255 → ⊥) → Lining store links c₀ buf₀ (set buf n b) (n + 1) p' at' (left - 1)
    lining_step ne e = record {
      stands = moved;
      few = omega (arith, i.few);
      within = omega (arith, (goes ne).0);
      rest = omega (arith, i.rest);
      put = ap (λ (o : List ℕ). set o n b) i.put ∙ front-more buf₀ (line_of a) n b (goes ne).0 (here ∙ (goes ne).1);
    }

  -- a run that stays in its portion and has no LF
  lining-run : (buf : List ℕ) (n p at left r : ℕ) → r ≤ 255 - at → r < left → n + r ≤ 255 → ((j : ℕ) → j < r → get_or store (p * 256 + at + j) 0 ≡ 10 → ⊥)
      → Lining store links c₀ buf₀ buf n p at left → Lining store links c₀ buf₀ (copied buf n store (p * 256 + at) r) (n + r) p (at + r) (left - r)
  unfolding copied
  lining-run buf n p at left zero h l f none i = rw (add-zero n, add-zero at, sub-zero left) i
  lining-run buf n p at left (suc r) h l f none i =
      let e : left - suc r ≡ left - r - 1 = omega arith in
      rw (add-suc n r, add-suc at r, e)
      (rw (add-one (n + r), add-one (at + r))
      at (lining_step (copied buf n store (p * 256 + at) r) (n + r) p (at + r) (left - r) (get_or store (p * 256 + at + r) 0) p (at + r + 1)
      (lining-run buf n p at left r (omega arith) (omega arith) (omega arith) (λ j b. none j (omega arith)) i) (omega arith)
      (ap (λ (q : ℕ). get_or store q 0) (add_assoc (p * 256) at r)) (stays links p (at + r) (omega arith)).0 (stays links p (at + r) (omega arith)).1
      (none r (omega arith)) (λ z. omega arith)))

  pub lining-ran : (buf buf' : List ℕ) (n p at left r m : ℕ) → 0 < left → m ≡ min (left - 1) (255 - n)
      → (r ≤ m) × (r ≤ 255 - at) × (buf' ≡ copied buf n store (p * 256 + at) r) × ((j : ℕ) → j < r → get_or store (p * 256 + at + j) 0 ≡ 10 → ⊥)
      → Lining store links c₀ buf₀ buf n p at left → Lining store links c₀ buf₀ buf' (n + r) p (at + r) (left - r)
  lining-ran buf buf' n p at left r m h e ran i = rw ran.2 (lining-run buf n p at left r ran.1 (omega arith) (omega (arith, i.few)) ran.3 i)

  module _ (buf : List ℕ) (n p at left : ℕ) (i : Lining store links c₀ buf₀ buf n p at left) (h : left ≤ 0) where
    all : length (line_of a) ≡ n
    all = omega (arith, i.rest, i.within, line-most a, length-ahead store links c₀)

    buffered : buf ≡ lined store links c₀ buf₀
    unfolding lined
    buffered = i.put ∙ ap (sets buf₀ 0) (take_all n (line_of a) (omega (arith, all)) ∙ sym (take_all 255 (line_of a) (omega (arith, all, i.few))))

    pub lining-end : n ≡ 0 → (End ≡ next_line store links c₀) × (buf ≡ lined store links c₀ buf₀)
    unfolding next_line
    lining-end e = (
      rw (all, le-ltb 255 n i.few, le-ltb n c₀.left (omega (arith, i.rest)), eq-eqb c₀.left 0 (omega (arith, i.rest))),
      buffered,
    )

    pub lining-cut : (n ≡ 0 → ⊥) → (Bad ≡ next_line store links c₀) × (buf ≡ lined store links c₀ buf₀)
    unfolding next_line
    lining-cut e = (
      rw (all, le-ltb 255 n i.few, le-ltb n c₀.left (omega (arith, i.rest)), ne_eqb c₀.left 0 (λ z. omega (arith, i.rest))),
      buffered,
    )

-- ---- the next line and all lines

pub lines-first : (a : List ℕ) (n : ℕ) → length (line_of a) ≡ n → n < length a
    → lines_of a ≡ lines (line_of a ∷ (lines_of (drop (suc n) a)).whole) (lines_of (drop (suc n) a)).rest
unfolding line_of lines_of
lines-first [] n e h = absurd (omega arith)
lines-first (x ∷ a) zero e h = ⊎_elim
    (λ (y : x ≡ 10). rw (eq-eqb x 10 y))
    (λ (y : x ≡ 10 → ⊥). absurd (let z : suc (length (line_of a)) ≡ 0 = rw (ne_eqb x 10 y) at e in omega arith))
    (same? x 10)
lines-first (x ∷ a) (suc n) e h = ⊎_elim
    (λ (y : x ≡ 10). absurd (let z : 0 ≡ suc n = rw (eq-eqb x 10 y) at e in omega arith))
    (λ (y : x ≡ 10 → ⊥).
    let z : suc (length (line_of a)) ≡ suc n = rw (ne_eqb x 10 y) at e in
    rw (ne_eqb x 10 y) (ap (onto (x ∷ [])) (lines-first a n (omega arith) (omega arith))))
    (same? x 10)

pub lines_none : (a : List ℕ) → length (line_of a) ≡ length a → lines_of a ≡ lines [] a
unfolding line_of lines_of
lines_none [] e = refl
lines_none (x ∷ a) e = ⊎_elim
    (λ (y : x ≡ 10). absurd (let z : 0 ≡ suc (length a) = rw (eq-eqb x 10 y) at e in omega arith))
    (λ (y : x ≡ 10 → ⊥).
    let z : suc (length (line_of a)) ≡ suc (length a) = rw (ne_eqb x 10 y) at e in
    rw (ne_eqb x 10 y) (ap (onto (x ∷ [])) (lines_none a (omega arith))))
    (same? x 10)

-- what an answer says of the lines ahead
module _ (store links : List ℕ) (c : Cursor) where
  -- the three answers
  pub data Answer : Type 0 where
    a_line : length (line_of (ahead store links c)) ≤ 255 → length (line_of (ahead store links c)) < c.left
        → next_line store links c ≡ Line (length (line_of (ahead store links c))) (after links c (suc (length (line_of (ahead store links c))))) → Answer
    at_end : c.left ≡ 0 → next_line store links c ≡ End → Answer
    too_long : 255 < length (line_of (ahead store links c)) → next_line store links c ≡ Bad → Answer
    unended : length (line_of (ahead store links c)) ≡ c.left → (c.left ≡ 0 → ⊥) → next_line store links c ≡ Bad → Answer

  pub answer : Answer
  unfolding next_line
  answer = elim (dec_lt 255 (length (line_of (ahead store links c)))) [
    | yes y ↦ too_long y (rw (lt-ltb 255 _ y))
    | no y ↦ elim (dec_lt (length (line_of (ahead store links c))) c.left) [
      | yes z ↦ a_line (omega arith) z (rw (le-ltb 255 (length (line_of (ahead store links c))) (omega arith), lt-ltb _ _ z))
      | no z ↦ ⊎_elim
          (λ (w : c.left ≡ 0). at_end w (rw (le-ltb 255 (length (line_of (ahead store links c))) (omega arith), le-ltb (length (line_of (ahead store links c))) c.left (omega arith), eq-eqb c.left 0 w)))
          (λ (w : c.left ≡ 0 → ⊥). unended (omega (arith, line-most (ahead store links c), length-ahead store links c)) w
          (rw (le-ltb 255 (length (line_of (ahead store links c))) (omega arith), le-ltb (length (line_of (ahead store links c))) c.left (omega arith), ne_eqb c.left 0 w)))
          (same? c.left 0)
    ]
  ]

  -- behind a line the rest of the lines is ahead, and fewer bytes are left
  pub next-lines : length (line_of (ahead store links c)) < c.left
      → lines_of (ahead store links c)
      ≡ lines (line_of (ahead store links c) ∷ (lines_of (ahead store links (after links c (suc (length (line_of (ahead store links c))))))).whole)
      (lines_of (ahead store links (after links c (suc (length (line_of (ahead store links c))))))).rest
  next-lines h =
      lines-first (ahead store links c) (length (line_of (ahead store links c))) refl (omega (arith, length-ahead store links c))
      ∙ ap (λ (a : List ℕ). lines (line_of (ahead store links c) ∷ (lines_of a).whole) (lines_of a).rest) (sym (ahead_after store links c (suc (length (line_of (ahead store links c)))) h))

  pub next-left : length (line_of (ahead store links c)) < c.left → (after links c (suc (length (line_of (ahead store links c))))).left < c.left
  next-left h = omega (arith, after-left store links c (suc (length (line_of (ahead store links c)))))

  -- the line stands at the front of a buffer that has room for it
  pub line-lies : (buffer : List ℕ) → length (line_of (ahead store links c)) ≤ 255 → length (line_of (ahead store links c)) ≤ length buffer
      → take (length (line_of (ahead store links c))) (lined store links c buffer) ≡ line_of (ahead store links c)
  unfolding lined
  line-lies buffer h b =
      ap (λ (l : List ℕ). take (length (line_of (ahead store links c))) (sets buffer 0 l)) (take_all 255 (line_of (ahead store links c)) h)
      ∙ sets-front buffer (line_of (ahead store links c)) b
