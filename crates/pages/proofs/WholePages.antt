-- Whole pages: white ones, copies, and the count of black dots.
-- Assumes nothing.
use mathlib.Core.Path.{◌≡◌, refl, sym, ap, ◌∙◌}
use mathlib.Core.Bool.{Bool, true, false}
use mathlib.Core.List.{List, [], ◌∷◌, ◌++◌, append-nil}
use Prim.Native.Nat.{ℕ, zero, suc, ◌+◌, ◌-◌, ◌*◌, ◌/◌, ◌%◌, ◌^◌, ◌≤◌, ◌<◌, min}
use native.Mathlib.Decide.{ℕ_discrete, dec_lt}
use native.Mathlib.Nat.{zero-div}
use native.Mathlib.Numerals.{add-one}
use native.Mathlib.Omega.{arith}
use lib.Dec.{eqb, lit<}
use lib.Count.{ones, ones_in}
use lib.ListN.{length-append, length-drop, length, get_or, take, drop, set, length-take, length-replicate, drop_of_length-le}
use lib.Seq.{ext_get_or, get_or-set_same, get_or-set_other, drop-cons, take_all, paste, paste-suc}
use borrow.Author.Tests.{eqb-true}
use Rattle.std.specs.List.{fold}
use Rattle.ground.specs.Numbers.{capped}
use Rattle.dots.specs.Dots.{bit_of, dot_at}
use Rattle.pages.specs.Pages.{white, copied, black_in, black_dots}
use Rattle.dots.proofs.Bits.{one-le, all_below, all-below}
use Rattle.dots.proofs.Pages.{Bytes}

-- ---- white
pub length-white : (n : ℕ) → length (white n) ≡ n
unfolding white
length-white n = length-replicate n 0

pub get_or-white : (n i : ℕ) → get_or (white n) i 0 ≡ 0
unfolding white
get_or-white zero i = refl
get_or-white (suc n) zero = refl
get_or-white (suc n) (suc i) = get_or-white n i

pub bytes-white : (n : ℕ) → Bytes (white n)
bytes-white n i = rw (get_or-white n i) (lit< tt)

pub no-dot : (k : ℕ) → bit_of 0 k ≡ false
no-dot k = rw (zero-div (2 ^ (7 - k)))

pub dot-white : (n x y : ℕ) → dot_at (white n) x y ≡ false
unfolding dot_at
dot-white n x y = rw (get_or-white n (y * 76 + x / 8)) (no-dot (x % 8))

-- a page all of whose bytes are 0
pub white-by-bytes : (p q : List ℕ) (i : ℕ) → length q ≡ length p → length p ≤ i → ((j : ℕ) → j < i → get_or q j 0 ≡ 0) → q ≡ white (length p)
white-by-bytes p q i e h z = ext_get_or 0 q (white (length p)) (e ∙ sym (length-white (length p))) (λ j t. z j (omega arith) ∙ sym (get_or-white (length p) j))

pub white-next : (q : List ℕ) (i : ℕ) → i < length q → ((j : ℕ) → j < i → get_or q j 0 ≡ 0) → (j : ℕ) → j < i + 1 → get_or (set q i 0) j 0 ≡ 0
white-next q i h z j t = at (ℕ_discrete j i)
  where
    at : Dec (j ≡ i) → get_or (set q i 0) j 0 ≡ 0
    at (yes e) = rw e (get_or-set_same q i 0 0 h)
    at (no n) = get_or-set_other q i j 0 0 n ∙ z j (omega arith)

-- ---- copies
pub copy-next : (p b q : List ℕ) (i : ℕ) → i < length p → i < length b → q ≡ paste p 0 b i → set q i (get_or b i 0) ≡ paste p 0 b (i + 1)
copy-next p b q i h k e =
    let z : i ≡ 0 + i = omega arith in
    (λ d. set (e d) (z d) (get_or b i 0)) ∙ paste-suc p 0 b i 0 (omega arith) k ∙ ap (paste p 0 b) (sym (add-one i))

pub copy_done : (p b : List ℕ) (n : ℕ) → n ≡ min (length p) (length b) → paste p 0 b n ≡ copied p b
unfolding copied
copy_done p b n e = at (dec_lt (length p) (length b))
  where
    at : Dec (length p < length b) → take n b ++ drop (0 + n) p ≡ take (length p) b ++ drop (length b) p
    at (yes h) =
        let s : n ≡ length p = omega arith in
        let none : drop (length p) p ≡ [] = drop_of_length-le p {i = length p} (omega arith) in
        let less : drop (length b) p ≡ [] = drop_of_length-le p {i = length b} (omega arith) in
        let z : 0 + length p ≡ length p = omega arith in
        rw (s, z, none, less)
    at (no h) =
        let s : n ≡ length b = omega arith in
        let z : 0 + length b ≡ length b = omega arith in
        rw (s, z) (ap (λ (l : List ℕ). l ++ drop (length b) p) (take_all (length b) b (omega arith) ∙ sym (take_all (length p) b (omega arith))))

-- a background of the page's length takes its place
pub copied-same : (p b : List ℕ) → length b ≡ length p → copied p b ≡ b
unfolding copied
copied-same p b e =
    rw (drop_of_length-le p (let h : length p ≤ length b = omega arith in h)) (append-nil (take (length p) b) ∙ take_all (length p) b (omega arith))

pub length-copied : (p b : List ℕ) → length (copied p b) ≡ length p
unfolding copied
length-copied p b =
    length-append (take (length p) b) (drop (length b) p)
    ∙ (λ i. length-take (length p) b i + length-drop (length b) p i) ∙ (let e : min (length p) (length b) + (length p - length b) ≡ length p = omega arith in e)

-- ---- the count of black dots
-- what `count_ones` gives for a byte
rightly : ℕ → Bool
unfolding ones ones_in
rightly b = eqb (ones b) (black_in b)

all-rightly : all_below 256 rightly ≡ true
unfolding rightly ones ones_in
all-rightly = refl

pub ones-black : (b : ℕ) → b < 256 → ones b ≡ black_in b
unfolding rightly
ones-black b h = eqb-true (ones b) (black_in b) (all-below 256 rightly all-rightly b h)

pub count-start : (most : ℕ) (p : List ℕ) → min most (0 + black_dots (drop 0 p)) ≡ min most (black_dots p)
count-start most p = ap (min most) (let z : 0 + black_dots p ≡ black_dots p = omega arith in z)

pub count_next : (p : List ℕ) (i n m most : ℕ) → i < length p → m ≡ min most (n + black_in (get_or p i 0))
    → min most (m + black_dots (drop (i + 1) p)) ≡ min most (n + black_dots (drop i p))
unfolding black_dots
count_next p i n m most h e = rw (drop-cons p i 0 h, add-one i) (sum (black_in (get_or p i 0)) (black_dots (drop (suc i) p)) e)
  where
    sum : (b r : ℕ) → m ≡ min most (n + b) → min most (m + r) ≡ min most (n + (b + r))
    sum b r e = omega arith

pub count-done : (p : List ℕ) (i n most : ℕ) → length p ≤ i → n ≤ most → min most (n + black_dots (drop i p)) ≡ n
unfolding black_dots
count-done p i n most h k = rw (drop_of_length-le p h) (let z : min most (n + 0) ≡ n = omega arith in z)

-- byte after byte, capped at each as at the end
pub count-fold : (p : List ℕ) (n : ℕ) → fold (λ m b. capped (m + black_in b)) (capped n) p ≡ capped (n + black_dots p)
unfolding black_dots
count-fold [] n = let z : n + 0 ≡ n = omega arith in rw z
count-fold (b ∷ bs) n = ap (λ (m : ℕ). fold (λ m b. capped (m + black_in b)) m bs) (once (black_in b)) ∙ count-fold bs (n + black_in b) ∙ ap capped (all (black_in b) (black_dots bs))
  where
    once : (x : ℕ) → capped (capped n + x) ≡ capped (n + x)
    once x = omega arith

    all : (x r : ℕ) → n + x + r ≡ n + (x + r)
    all x r = omega arith

pub black-le : (p : List ℕ) → black_dots p ≤ 8 * length p
unfolding black_dots
black-le [] = omega arith
black-le (b ∷ bs) =
    omega (
      arith,
      black-le bs,
      one-le (bit_of b 0),
      one-le (bit_of b 1),
      one-le (bit_of b 2),
      one-le (bit_of b 3),
      one-le (bit_of b 4),
      one-le (bit_of b 5),
      one-le (bit_of b 6),
      one-le (bit_of b 7),
    )
