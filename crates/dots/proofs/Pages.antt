-- The laws of `redrawn` and `drawn`: bytes and dots of the page drawn, two drawings in turn, drawings that are equal, drawings that change nothing.
-- Assumes nothing.
use mathlib.Core.Path.{◌≡◌, refl, sym, ap, ◌∙◌}
use mathlib.Core.Bool.{Bool, true, false, cond, ◌&&◌, ◌||◌}
use mathlib.Core.List.{List, [], ◌∷◌}
use Prim.Native.Nat.{ℕ, zero, suc, ◌+◌, ◌*◌, ◌/◌, ◌%◌, ◌≤◌, ◌<◌}
use native.Mathlib.Nat.{zero-add, le_of_suc-le-suc, not-suc-le-zero}
use native.Mathlib.Decide.{ℕ_discrete, dec_lt}
use native.Mathlib.Omega.{arith}
use lib.Dec.{ltb, lit<}
use lib.ListN.{get_or-eq_default, length, get_or, set, length-set}
use lib.Seq.{ext_get_or, get_or-set_same, get_or-set_other}
use borrow.Author.Tests.{lt-ltb}
use Rattle.ground.proofs.Tests.{not-below}
use Rattle.dots.specs.declared.Ink.{Ink}
use Rattle.dots.specs.declared.Ink.TheVariants.{Black}
use Rattle.dots.specs.Dots.{bit_of, byte_drawn, redrawn_from, redrawn, inked, drawn, rows, dot_at}
use Rattle.dots.proofs.Bits.{byte-lt, byte-cong, bit-of-byte, byte-is, byte-by-bits, inked_byte}

-- each element is a byte
abbrev pub Bytes : List ℕ → Type 0
Bytes p = (i : ℕ) → get_or p i 0 < 256

-- ---- `redrawn`, byte by byte
length_from : (f : ℕ → ℕ → Bool → Bool) (n s : ℕ) (p : List ℕ) → length (redrawn_from f n s p) ≡ length p
length_from f n s [] = refl
length_from f n s (b ∷ bs) = ap suc (length_from f n (suc s) bs)

get_or-from : (f : ℕ → ℕ → Bool → Bool) (n s : ℕ) (p : List ℕ) (i : ℕ) → i < length p
    → get_or (redrawn_from f n s p) i 0 ≡ cond (ltb (s + i) n) (byte_drawn f (s + i) (get_or p i 0)) (get_or p i 0)
get_or-from f n s [] i h = absurd (not-suc-le-zero h)
get_or-from f n s (b ∷ bs) zero h = ap (λ (m : ℕ). cond (ltb m n) (byte_drawn f m b) b) (omega arith)
get_or-from f n s (b ∷ bs) (suc i) h =
    get_or-from f n (suc s) bs i (le_of_suc-le-suc h)
    ∙ ap (λ (m : ℕ). cond (ltb m n) (byte_drawn f m (get_or bs i 0)) (get_or bs i 0)) (omega arith)

pub length-redrawn : (f : ℕ → ℕ → Bool → Bool) (p : List ℕ) → length (redrawn f p) ≡ length p
unfolding redrawn
length-redrawn f p = length_from f (rows p * 76) 0 p

-- a byte of a whole row, and one after the last whole row
pub get_or-redrawn : (f : ℕ → ℕ → Bool → Bool) (p : List ℕ) (i : ℕ) → i < rows p * 76
    → get_or (redrawn f p) i 0 ≡ byte_drawn f i (get_or p i 0)
unfolding redrawn
get_or-redrawn f p i h =
    get_or-from f (rows p * 76) 0 p i (omega arith)
    ∙ ap (λ (m : ℕ). cond (ltb m (rows p * 76)) (byte_drawn f m (get_or p i 0)) (get_or p i 0)) (zero-add i)
    ∙ ap (λ (t : Bool). cond t (byte_drawn f i (get_or p i 0)) (get_or p i 0)) (lt-ltb i (rows p * 76) h)

pub get_or-redrawn-rest : (f : ℕ → ℕ → Bool → Bool) (p : List ℕ) (i : ℕ) → rows p * 76 ≤ i → i < length p
    → get_or (redrawn f p) i 0 ≡ get_or p i 0
unfolding redrawn
get_or-redrawn-rest f p i h k =
    get_or-from f (rows p * 76) 0 p i k
    ∙ ap (λ (t : Bool). cond t (byte_drawn f (0 + i) (get_or p i 0)) (get_or p i 0)) (not-below (0 + i) (rows p * 76) (omega arith))

-- a page whose bytes are those of the drawing is the drawing
pub redrawn-by-bytes : (f : ℕ → ℕ → Bool → Bool) (p q : List ℕ) → length q ≡ length p
    → ((i : ℕ) → i < rows p * 76 → get_or q i 0 ≡ byte_drawn f i (get_or p i 0))
    → ((i : ℕ) → rows p * 76 ≤ i → i < length p → get_or q i 0 ≡ get_or p i 0) → q ≡ redrawn f p
redrawn-by-bytes f p q e h rest =
    ext_get_or 0 q (redrawn f p) (e ∙ sym (length-redrawn f p)) (λ i k. at i (omega arith) (dec_lt i (rows p * 76)))
  where
    at : (i : ℕ) → i < length p → Dec (i < rows p * 76) → get_or q i 0 ≡ get_or (redrawn f p) i 0
    at i k (yes t) = h i t ∙ sym (get_or-redrawn f p i t)
    at i k (no t) = rest i (omega arith) k ∙ sym (get_or-redrawn-rest f p i (omega arith) k)

-- two drawings in turn are one
pub redrawn-redrawn : (f g : ℕ → ℕ → Bool → Bool) (p : List ℕ) → redrawn g (redrawn f p) ≡ redrawn (λ x y o. g x y (f x y o)) p
redrawn-redrawn f g p =
    redrawn-by-bytes (λ x y o. g x y (f x y o)) p (redrawn g (redrawn f p)) (length-redrawn g (redrawn f p) ∙ length-redrawn f p)
    (λ i h. get_or-redrawn g (redrawn f p) i (omega (arith, length-redrawn f p))
    ∙ ap (byte_drawn g i) (get_or-redrawn f p i h)
    ∙ byte-cong _ _ (λ k t. ap (g (i % 76 * 8 + k) (i / 76)) (bit-of-byte (λ n. f (i % 76 * 8 + n) (i / 76) (bit_of (get_or p i 0) n)) k t)))
    (λ i h k. get_or-redrawn-rest g (redrawn f p) i (omega (arith, length-redrawn f p)) (omega (arith, length-redrawn f p)) ∙ get_or-redrawn-rest f p i h k)

-- drawings that agree on the page's own dots are equal
pub redrawn-ext : (f g : ℕ → ℕ → Bool → Bool) (p : List ℕ)
    → ((x y : ℕ) (o : Bool) → x < 608 → y < rows p → f x y o ≡ g x y o) → redrawn f p ≡ redrawn g p
redrawn-ext f g p e =
    redrawn-by-bytes g p (redrawn f p) (length-redrawn f p)
    (λ i h. get_or-redrawn f p i h
    ∙ byte-cong _ _ (λ k t. e (i % 76 * 8 + k) (i / 76) (bit_of (get_or p i 0) k) (omega arith) (omega arith)))
    (get_or-redrawn-rest f p)

-- one byte of a whole row is stored, and the drawing changes no other
pub set-redrawn : (f : ℕ → ℕ → Bool → Bool) (p : List ℕ) (i v : ℕ) → Bytes p → i < rows p * 76
    → v ≡ byte_drawn f i (get_or p i 0)
    → ((j k : ℕ) (o : Bool) → (j ≡ i → ⊥) → k < 8 → f (j % 76 * 8 + k) (j / 76) o ≡ o)
    → set p i v ≡ redrawn f p
set-redrawn f p i v by h e other =
    redrawn-by-bytes f p (set p i v) (length-set p i v) (λ j t. at j t (ℕ_discrete j i))
    (λ j t k. get_or-set_other p i j v 0 (λ q. omega arith))
  where
    at : (j : ℕ) → j < rows p * 76 → Dec (j ≡ i) → get_or (set p i v) j 0 ≡ byte_drawn f j (get_or p j 0)
    at j t (yes q) = rw q (get_or-set_same p i v 0 (omega arith) ∙ e)
    at j t (no n) =
        get_or-set_other p i j v 0 n ∙ sym (byte-is (get_or p j 0) (by j))
        ∙ byte-cong _ _ (λ k s. sym (other j k (bit_of (get_or p j 0) k) n s))

-- a drawing that changes no dot of the page leaves the page
pub redrawn-same : (f : ℕ → ℕ → Bool → Bool) (p : List ℕ) → Bytes p
    → ((x y : ℕ) (o : Bool) → x < 608 → y < rows p → f x y o ≡ o) → redrawn f p ≡ p
redrawn-same f p by e =
    redrawn-ext f (λ x y o. o) p e
    ∙ sym (redrawn-by-bytes (λ x y o. o) p p refl (λ i h. sym (byte-is (get_or p i 0) (by i))) (λ i h k. refl))

-- a page drawn on is a page of bytes
pub bytes-redrawn : (f : ℕ → ℕ → Bool → Bool) (p : List ℕ) → Bytes p → Bytes (redrawn f p)
bytes-redrawn f p by i = at (dec_lt i (rows p * 76)) (dec_lt i (length p))
  where
    at : Dec (i < rows p * 76) → Dec (i < length p) → get_or (redrawn f p) i 0 < 256
    at (yes t) d = rw (get_or-redrawn f p i t) (byte-lt (λ k. f (i % 76 * 8 + k) (i / 76) (bit_of (get_or p i 0) k)))
    at (no t) (yes s) = rw (get_or-redrawn-rest f p i (omega arith) s) (by i)
    at (no t) (no s) = rw (get_or-eq_default (redrawn f p) 0 (let e : length (redrawn f p) ≤ i = omega (arith, length-redrawn f p) in e)) (lit< tt)

-- ---- `redrawn`, dot by dot: each dot of the page is what f says, and no other page is so
pub dot-redrawn : (f : ℕ → ℕ → Bool → Bool) (p : List ℕ) (x y : ℕ) → x < 608 → y < rows p
    → dot_at (redrawn f p) x y ≡ f x y (dot_at p x y)
unfolding dot_at
dot-redrawn f p x y hx hy =
    let i = y * 76 + x / 8 in
    let col : i % 76 * 8 + x % 8 ≡ x = omega arith in
    let row : i / 76 ≡ y = omega arith in
    ap (λ (b : ℕ). bit_of b (x % 8)) (get_or-redrawn f p i (omega arith))
    ∙ bit-of-byte (λ k. f (i % 76 * 8 + k) (i / 76) (bit_of (get_or p i 0) k)) (x % 8) (omega arith)
    ∙ (λ d. f (col d) (row d) (bit_of (get_or p i 0) (x % 8)))

pub redrawn-by-dots : (f : ℕ → ℕ → Bool → Bool) (p q : List ℕ) → Bytes q → length q ≡ length p
    → ((x y : ℕ) → x < 608 → y < rows p → dot_at q x y ≡ f x y (dot_at p x y))
    → ((i : ℕ) → rows p * 76 ≤ i → i < length p → get_or q i 0 ≡ get_or p i 0) → q ≡ redrawn f p
unfolding dot_at
redrawn-by-dots f p q by e h rest =
    redrawn-by-bytes f p q e
    (λ i t. byte-by-bits (get_or q i 0) _ (by i) (λ k s.
    let col : i / 76 * 76 + (i % 76 * 8 + k) / 8 ≡ i = omega arith in
    let bit : (i % 76 * 8 + k) % 8 ≡ k = omega arith in
    rw (col, bit) at (h (i % 76 * 8 + k) (i / 76) (omega arith) (omega arith))))
    rest

-- two pages of one length with equal dots, and equal bytes after the last whole row, are equal
pub page-by-dots : (p q : List ℕ) → Bytes p → Bytes q → length q ≡ length p
    → ((x y : ℕ) → x < 608 → y < rows p → dot_at q x y ≡ dot_at p x y)
    → ((i : ℕ) → rows p * 76 ≤ i → i < length p → get_or q i 0 ≡ get_or p i 0) → q ≡ p
page-by-dots p q bp bq e h rest = redrawn-by-dots (λ x y o. o) p q bq e h rest ∙ redrawn-same (λ x y o. o) p bp (λ x y o s t. refl)

-- ---- `drawn`
abbrev dot : Ink → (ℕ → ℕ → Bool) → ℕ → ℕ → Bool → Bool
dot ink s x y o = cond (s x y) (inked ink o) o

pub length-drawn : (ink : Ink) (s : ℕ → ℕ → Bool) (p : List ℕ) → length (drawn ink s p) ≡ length p
unfolding drawn
length-drawn ink s p = length-redrawn (dot ink s) p

pub bytes-drawn : (ink : Ink) (s : ℕ → ℕ → Bool) (p : List ℕ) → Bytes p → Bytes (drawn ink s p)
unfolding drawn
bytes-drawn ink s p by = bytes-redrawn (dot ink s) p by

-- a dot of the page after a drawing
pub dot-drawn : (ink : Ink) (s : ℕ → ℕ → Bool) (p : List ℕ) (x y : ℕ) → x < 608 → y < rows p
    → dot_at (drawn ink s p) x y ≡ cond (s x y) (inked ink (dot_at p x y)) (dot_at p x y)
unfolding drawn
dot-drawn ink s p x y h k = dot-redrawn (dot ink s) p x y h k

join-dot : (ink : Ink) (a b c o : Bool) → c ≡ (a || b) → (a && b) ≡ false
    → cond b (inked ink (cond a (inked ink o) o)) (cond a (inked ink o) o) ≡ cond c (inked ink o) o
join-dot ink true true c o e d = cc
join-dot ink true false c o e d = rw e
join-dot ink false b c o e d = rw e

-- shapes that do not meet, drawn in turn, are one shape drawn
pub drawn-join : (ink : Ink) (a b c : ℕ → ℕ → Bool) (p : List ℕ)
    → ((x y : ℕ) → (c x y ≡ (a x y || b x y)) × ((a x y && b x y) ≡ false)) → drawn ink b (drawn ink a p) ≡ drawn ink c p
unfolding drawn
drawn-join ink a b c p e =
    redrawn-redrawn (dot ink a) (dot ink b) p
    ∙ redrawn-ext _ (dot ink c) p (λ x y o s t. join-dot ink (a x y) (b x y) (c x y) o (e x y).0 (e x y).1)

black-dot : (a b o : Bool) → cond b true (cond a true o) ≡ cond (a || b) true o
black-dot true true o = refl
black-dot true false o = refl
black-dot false b o = refl

-- any two shapes, drawn black in turn, are one
pub drawn-black : (a b : ℕ → ℕ → Bool) (p : List ℕ) → drawn Black b (drawn Black a p) ≡ drawn Black (λ x y. a x y || b x y) p
unfolding drawn
drawn-black a b p = redrawn-redrawn (dot Black a) (dot Black b) p ∙ redrawn-ext _ _ p (λ x y o s t. black-dot (a x y) (b x y) o)

-- shapes that agree on the page's own dots
pub drawn-ext : (ink : Ink) (a b : ℕ → ℕ → Bool) (p : List ℕ)
    → ((x y : ℕ) → x < 608 → y < rows p → a x y ≡ b x y) → drawn ink a p ≡ drawn ink b p
unfolding drawn
drawn-ext ink a b p e = redrawn-ext (dot ink a) (dot ink b) p (λ x y o s t. ap (λ (q : Bool). cond q (inked ink o) o) (e x y s t))

-- a shape that has no dot on the page draws nothing
pub drawn-off : (ink : Ink) (a : ℕ → ℕ → Bool) (p : List ℕ) → Bytes p
    → ((x y : ℕ) → x < 608 → y < rows p → a x y ≡ false) → drawn ink a p ≡ p
unfolding drawn
drawn-off ink a p by e = redrawn-same (dot ink a) p by (λ x y o s t. ap (λ (q : Bool). cond q (inked ink o) o) (e x y s t))

pub drawn-empty : (ink : Ink) (p : List ℕ) → Bytes p → drawn ink (λ x y. false) p ≡ p
drawn-empty ink p by = drawn-off ink (λ x y. false) p by (λ x y s t. refl)

-- one byte of a whole row is stored, drawn in the ink by a mask that has the shape's dots there, and the shape has no dot in any other byte
pub ink-at : (ink : Ink) (a : ℕ → ℕ → Bool) (p : List ℕ) (i m v : ℕ) → Bytes p → i < rows p * 76
    → v ≡ inked_byte ink (get_or p i 0) m
    → ((k : ℕ) → k < 8 → bit_of m k ≡ a (i % 76 * 8 + k) (i / 76))
    → ((j k : ℕ) → (j ≡ i → ⊥) → k < 8 → a (j % 76 * 8 + k) (j / 76) ≡ false)
    → set p i v ≡ drawn ink a p
unfolding drawn
ink-at ink a p i m v by h e mask other =
    set-redrawn (dot ink a) p i v by h
    (e ∙ byte-cong _ _ (λ k t. ap (λ (q : Bool). cond q (inked ink (bit_of (get_or p i 0) k)) (bit_of (get_or p i 0) k)) (mask k t)))
    (λ j k o n s. ap (λ (q : Bool). cond q (inked ink o) o) (other j k n s))
