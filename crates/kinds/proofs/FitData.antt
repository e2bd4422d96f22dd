-- What fit data are.
-- Assumes nothing.
use mathlib.Core.Path.{◌≡◌}
use mathlib.Core.Bool.{true, ◌&&◌}
use mathlib.Core.List.{List}
use Prim.Native.Nat.{ℕ, ◌%◌, ◌≤◌}
use native.Mathlib.Omega.{arith}
use borrow.Author.Tests.{leb-true, eqb-true}
use lib.Dec.{leb, eqb}
use lib.ListN.{length}
use Rattle.kinds.specs.declared.Kind.{Kind}
use Rattle.kinds.specs.declared.Kind.TheVariants.{Shown, Code39, Interleaved, Ean13, Code128}
use Rattle.kinds.specs.Bytes.{all_in}
use Rattle.kinds.specs.Fit.{in_class, fit_length, fit}
use Rattle.ground.proofs.Tests.{and-true}

fit_length_lem : (kind : Kind) (s : List ℕ) → fit kind s ≡ true → fit_length kind (length s) ≡ true
unfolding fit
fit_length_lem kind s h = (and-true (fit_length kind (length s)) (all_in (in_class kind) s) h).0

pub fit_all : (kind : Kind) (s : List ℕ) → fit kind s ≡ true → all_in (in_class kind) s ≡ true
unfolding fit
fit_all kind s h = (and-true (fit_length kind (length s)) (all_in (in_class kind) s) h).1

length_most : (kind : Kind) (n : ℕ) → fit_length kind n ≡ true → n ≤ 128
unfolding fit_length
length_most Shown n h = leb-true n 128 h
length_most Code39 n h = leb-true n 128 (and-true (leb 1 n) (leb n 128) h).1
length_most Interleaved n h = leb-true n 128 (and-true (leb n 128) (eqb (n % 2) 0) (and-true (leb 2 n) (leb n 128 && eqb (n % 2) 0) h).1).0
length_most Ean13 n h = omega (arith, eqb-true n 12 h)
length_most Code128 n h = leb-true n 128 (and-true (leb 1 n) (leb n 128) h).1

pub fit-most : (kind : Kind) (s : List ℕ) → fit kind s ≡ true → length s ≤ 128
fit-most kind s h = length_most kind (length s) (fit_length_lem kind s h)

pub fit-even : (s : List ℕ) → fit Interleaved s ≡ true → length s % 2 ≡ 0
unfolding fit_length
fit-even s h =
    let l : fit_length Interleaved (length s) ≡ true = fit_length_lem Interleaved s h in
    eqb-true (length s % 2) 0 (and-true (leb (length s) 128) (eqb (length s % 2) 0) (and-true (leb 2 (length s)) (leb (length s) 128 && eqb (length s % 2) 0) l).1).1

pub fit-twelve : (s : List ℕ) → fit Ean13 s ≡ true → length s ≡ 12
unfolding fit_length
fit-twelve s h = let l : fit_length Ean13 (length s) ≡ true = fit_length_lem Ean13 s h in eqb-true (length s) 12 l
