-- What is entered and padded fits, and has room.
use Prim.Native.Char.{code}
use mathlib.Core.Path.{◌≡◌, refl, ap, ◌∙◌}
use mathlib.Core.Bool.{Bool, true, false, cond, ◌&&◌}
use mathlib.Core.List.{List, ◌++◌}
use Prim.Native.Nat.{ℕ, ◌+◌, ◌-◌, ◌/◌, ◌≤◌}
use native.Mathlib.Omega.{arith}
use lib.ListN.{length, replicate, length-append, length-replicate}
use lib.Dec.{eqb, leb}
use borrow.Author.Tests.{le-leb, leb-true, eq-eqb, eqb-true}
use Rattle.kinds.specs.Bytes.{between, is_digit, all_in}
use Rattle.ground.proofs.Tests.{and_left, and_right, and_both}
use Rattle.padding.proofs.Ranges.{all_join, all_replicate}
use Rattle.padding.specs.Padding.{legal, enters, filler, before, behind, padded, fits}

-- ---- what is entered fits

pub before-most : (side gap : ℕ) → before side gap ≤ gap
before-most side gap = go (eqb side (code "R")) (eqb side (code "Z")) (eqb side (code "C"))
  where
    go : (r z k : Bool) → cond r gap (cond z gap (cond k (gap / 2) 0)) ≤ gap
    go true z k = omega arith
    go false true k = omega arith
    go false false true = omega arith
    go false false false = omega arith

pub length-padded : (side m : ℕ) (text : List ℕ) → length (padded side m text) ≡ before side (m - length text) + (length text + behind side (m - length text))
unfolding padded
length-padded side m text = rw (length-append, length-append, length-replicate, length-replicate)

pub all-padded : (q : ℕ → Bool) (side m : ℕ) (text : List ℕ) → q (filler side) ≡ true → all_in q text ≡ true → all_in q (padded side m text) ≡ true
unfolding padded
all-padded q side m text f h =
    all_join q (replicate (before side (m - length text)) (filler side)) (text ++ replicate (behind side (m - length text)) (filler side))
    (all_replicate q (before side (m - length text)) (filler side) f)
    (all_join q text (replicate (behind side (m - length text)) (filler side)) h (all_replicate q (behind side (m - length text)) (filler side) f))

pub zero-digit : is_digit (code "0") ≡ true
unfolding between
zero-digit = refl

pub space-legal : legal (code " ") ≡ true
unfolding between
space-legal = refl

-- a text that may be entered is stored as a value that fits
pub entered-fits : (side m : ℕ) (text : List ℕ) → enters side m text ≡ true → fits side m (padded side m text) ≡ true
unfolding enters fits
entered-fits side m text h = go (eqb side (code "N")) (eqb side (code "Z")) refl refl h
  where
    go : (n z : Bool) → eqb side (code "N") ≡ n → eqb side (code "Z") ≡ z
        → cond z (leb 1 (length text) && (leb (length text) m && all_in is_digit text)) (leb (length text) m && all_in legal text) ≡ true
        → cond (eqb side (code "N")) (leb (length (padded side m text)) m && all_in legal (padded side m text))
        (cond (eqb side (code "Z")) (eqb (length (padded side m text)) m && all_in is_digit (padded side m text))
        (eqb (length (padded side m text)) m && all_in legal (padded side m text))) ≡ true
    go true true p q e = absurd (omega (arith, eqb-true side (code "N") p, eqb-true side (code "Z") q))
    go true false p q e =
        let s : side ≡ code "N" = eqb-true side (code "N") p in
        let b = leb-true (length text) m (and_left (leb (length text) m) (all_in legal text) e) in
        let k : length (padded side m text) ≤ m = rw (length-padded, s) (omega arith) in
        let f : legal (filler side) ≡ true = rw s space-legal in
        rw p (and_both (leb (length (padded side m text)) m) (all_in legal (padded side m text)) (le-leb (length (padded side m text)) m k)
        (all-padded legal side m text f (and_right (leb (length text) m) (all_in legal text) e)))
    go false true p q e =
        let r = and_right (leb 1 (length text)) (leb (length text) m && all_in is_digit text) e in
        let b = leb-true (length text) m (and_left (leb (length text) m) (all_in is_digit text) r) in
        let t = before-most side (m - length text) in
        let g : behind side (m - length text) ≡ m - length text - before side (m - length text) = rw p in
        let k : length (padded side m text) ≡ m = length-padded side m text ∙ (let w : before side (m - length text) + (length text + behind side (m - length text)) ≡ m = omega arith in w) in
        let f : is_digit (filler side) ≡ true = rw q zero-digit in
        rw (p, q) (and_both (eqb (length (padded side m text)) m) (all_in is_digit (padded side m text)) (eq-eqb (length (padded side m text)) m k)
        (all-padded is_digit side m text f (and_right (leb (length text) m) (all_in is_digit text) r)))
    go false false p q e =
        let b = leb-true (length text) m (and_left (leb (length text) m) (all_in legal text) e) in
        let t = before-most side (m - length text) in
        let g : behind side (m - length text) ≡ m - length text - before side (m - length text) = rw p in
        let k : length (padded side m text) ≡ m = length-padded side m text ∙ (let w : before side (m - length text) + (length text + behind side (m - length text)) ≡ m = omega arith in w) in
        let f : legal (filler side) ≡ true = rw q space-legal in
        rw (p, q) (and_both (eqb (length (padded side m text)) m) (all_in legal (padded side m text)) (eq-eqb (length (padded side m text)) m k)
        (all-padded legal side m text f (and_right (leb (length text) m) (all_in legal text) e)))

-- a value that fits is no longer than m
pub length-fits : (side m : ℕ) (v : List ℕ) → fits side m v ≡ true → length v ≤ m
unfolding fits
length-fits side m v h = go (eqb side (code "N")) (eqb side (code "Z")) h
  where
    go : (n z : Bool)
        → cond n (leb (length v) m && all_in legal v) (cond z (eqb (length v) m && all_in is_digit v) (eqb (length v) m && all_in legal v)) ≡ true
        → length v ≤ m
    go true z e = leb-true (length v) m (and_left (leb (length v) m) (all_in legal v) e)
    go false true e = let q = eqb-true (length v) m (and_left (eqb (length v) m) (all_in is_digit v) e) in omega arith
    go false false e = let q = eqb-true (length v) m (and_left (eqb (length v) m) (all_in legal v) e) in omega arith

-- a text that may be entered is no longer than m
pub enters-short : (side m : ℕ) (text : List ℕ) → enters side m text ≡ true → length text ≤ m
unfolding enters
enters-short side m text h = go (eqb side (code "Z")) h
  where
    go : (z : Bool) → cond z (leb 1 (length text) && (leb (length text) m && all_in is_digit text)) (leb (length text) m && all_in legal text) ≡ true → length text ≤ m
    go true e =
        leb-true (length text) m (and_left (leb (length text) m) (all_in is_digit text) (and_right (leb 1 (length text)) (leb (length text) m && all_in is_digit text) e))
    go false e = leb-true (length text) m (and_left (leb (length text) m) (all_in legal text) e)

-- ---- room

behind-most : (side gap : ℕ) → before side gap + behind side gap ≤ gap
behind-most side gap = go (eqb side (code "N")) (before side gap) (before-most side gap)
  where
    go : (n : Bool) (b : ℕ) → b ≤ gap → b + cond n 0 (gap - b) ≤ gap
    go true b h = omega arith
    go false b h = omega arith

-- text and padding have room
pub size_room : (side m n g h l r : ℕ) → n ≤ m → g ≡ m - n → h ≡ m - n → l ≡ before side g → r ≡ behind side h → l + n + r ≤ m
size_room side m n g h l r e eg eh el er = go (before side (m - n)) (behind side (m - n)) (behind-most side (m - n)) (el ∙ ap (before side) eg) (er ∙ ap (behind side) eh)
  where
    go : (x y : ℕ) → x + y ≤ m - n → l ≡ x → r ≡ y → l + n + r ≤ m
    go x y k p q = omega arith

pub padded-is : (side m g h l r x : ℕ) (text : List ℕ) → g ≡ m - length text → h ≡ m - length text → l ≡ before side g → r ≡ behind side h → x ≡ filler side
    → replicate l x ++ (text ++ replicate r x) ≡ padded side m text
unfolding padded
padded-is side m g h l r x text eg eh el er ex = rw (el, er, ex, eg, eh)
