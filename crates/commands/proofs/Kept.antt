-- A recorded line: its normal form in a buffer of LFs, and the LF behind it.
-- Assumes nothing.
use Rattle.std.proofs.Common.{Ok}
use mathlib.Core.Path.{◌≡◌, refl, ap, ◌∙◌, subst}
use mathlib.Core.List.{List, [], ◌∷◌, ◌++◌}
use Prim.Native.Nat.{ℕ, zero, suc, ◌+◌, ◌≤◌, ◌<◌}
use native.Mathlib.Omega.{arith}
use lib.ListN.{length, take, drop, replicate, length-replicate}
use lib.Seq.{sets, sets-eq}
use Rattle.grammar.specs.declared.Command.{Command}
use Rattle.grammar.specs.declared.Command.TheVariants.{Item as item, End, Page, Forms, Pictures, Values, Listing, Clock}
use Rattle.read.specs.Commands.{read_of}
use Rattle.writing.specs.Writing.{Wrote}
use Rattle.normal.proofs.Short.{normal-short}
use Rattle.commands.specs.Running.{IsShort}

feed : (xs : List ℕ) (m : ℕ) → length xs < m → take (suc (length xs)) (xs ++ drop (length xs) (replicate m 10)) ≡ xs ++ (10 ∷ [])
feed [] zero h = elim h [ ]
feed [] (suc m) h = refl
feed (x ∷ xs) zero h = elim h [ ]
feed (x ∷ xs) (suc m) h = ap (λ (k : List ℕ). x ∷ k) (feed xs m (omega arith))

pub kept_line :
    (xs buffer bytes : List ℕ) (n : ℕ) → length xs < 256 → n ≡ length xs → buffer ≡ sets (replicate 256 10) 0 xs → bytes ≡ take (n + 1) buffer →
    bytes ≡ xs ++ (10 ∷ [])
kept_line xs buffer bytes n h e f g =
    let l : List ℕ = replicate 256 10 in
    let z : length l ≡ 256 = length-replicate {A = ℕ} 256 10 in
    let k : 0 + length xs ≤ length l = omega (arith, h, z) in
    let j : 0 + length xs ≡ length xs = omega arith in
    let p : buffer ≡ xs ++ drop (length xs) l = f ∙ sets-eq xs l 0 k ∙ ap (λ (m : ℕ). xs ++ drop m l) j in
    let q : n + 1 ≡ suc (length xs) = omega (arith, e) in
    g ∙ (λ i. take (q i) (p i)) ∙ feed xs 256 h

-- the code answers how much it wrote; a line that fits is written whole
pub wrote-length : (xs o : List ℕ) (r : ℕ) → length xs < 256 → Wrote (replicate 256 10) 0 xs r o → r ≡ length xs
wrote-length xs o r h w =
    let z : length {A = ℕ} (replicate 256 10) ≡ 256 = length-replicate {A = ℕ} 256 10 in
    omega (arith, w.place, h, z)

-- ---- the normal form of an item that was read is a line

pub short-read : (rows : ℕ) (line : List ℕ) (c : Command) → length line ≤ 255 → read_of rows line ≡ Ok c → IsShort c line
short-read rows line (item it) h e = let k = normal-short rows line it e h in omega (arith, k)
short-read rows line End h e = tt
short-read rows line (Page c) h e = tt
short-read rows line (Forms c) h e = tt
short-read rows line (Pictures c) h e = tt
short-read rows line (Values c) h e = tt
short-read rows line (Listing c) h e = tt
short-read rows line (Clock c) h e = tt

pub short-at : (c c' : Command) (line : List ℕ) → c ≡ c' → IsShort c line → IsShort c' line
short-at c c' line e p = subst (λ (k : Command). IsShort k line) e p
