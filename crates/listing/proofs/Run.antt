-- A listing written entry by entry.
use mathlib.Core.Path.{◌≡◌, refl, sym, ap, ◌∙◌}
use mathlib.Core.Bool.{Bool, true, false, cond}
use mathlib.Core.List.{List, [], ◌++◌}
use Prim.Native.Nat.{ℕ, suc, ◌+◌, ◌-◌, ◌*◌, ◌≤◌, ◌<◌}
use native.Mathlib.Omega.{arith}
use native.Mathlib.Numerals.{add-one}
use lib.ListN.{length, length-append}
use lib.Seq.{sets, length-sets}
use lib.Dec.{eqb}
use borrow.Author.Tests.{eq-eqb, ne_eqb}
use Rattle.store.specs.Entry.{entries, entry, kind}
use Rattle.listing.specs.Listing.{listing_line, line_at, listing_from, listing}
use Rattle.ground.proofs.Stores.{sets-append}
use Rattle.listing.proofs.Line.{line-short}

if-short : (t : Bool) (line : List ℕ) → length line ≤ 32 → length (cond t line []) ≤ 32
if-short true line h = h
if-short false line h = omega arith

pub listed_here : (directory : List ℕ) (k i m : ℕ) → m ≡ kind (entry directory i) → m ≡ k → line_at directory k i ≡ listing_line (entry directory i)
listed_here directory k i m em e = rw (eq-eqb (kind (entry directory i)) k (sym em ∙ e))

pub listed-not : (directory : List ℕ) (k i m : ℕ) → m ≡ kind (entry directory i) → (m ≡ k → ⊥) → line_at directory k i ≡ []
listed-not directory k i m em n = rw (ne_eqb (kind (entry directory i)) k (λ e. n (em ∙ e)))

from_step : (directory : List ℕ) (k i n : ℕ) → i < n → listing_from directory k i (n - i) ≡ line_at directory k i ++ listing_from directory k (i + 1) (n - (i + 1))
unfolding listing_from
from_step directory k i n h =
    let e : n - i ≡ suc (n - (i + 1)) = omega arith in
    rw (e, add-one i)

-- the lines of the entries below i stand in `out`, and those from i on are still to come
pub record Listing (directory : List ℕ) (k : ℕ) (out₀ out : List ℕ) (at i : ℕ) : Type 0 where
  pub few : i ≤ entries directory
  pub long : at + length (listing_from directory k i (entries directory - i)) ≡ length (listing directory k)
  pub stored : sets out at (listing_from directory k i (entries directory - i)) ≡ sets out₀ 0 (listing directory k)
  pub place : at ≤ 32 * i
  pub same : length out ≡ length out₀

module _ (directory : List ℕ) (k : ℕ) (out₀ : List ℕ) where
  pub listing_start : Listing directory k out₀ out₀ 0 0
  unfolding listing
  listing_start =
      let z : entries directory - 0 ≡ entries directory = omega arith in
      record {
        few = omega arith;
        long = omega (arith, ap (λ (n : ℕ). length (listing_from directory k 0 n)) z);
        stored = ap (λ (n : ℕ). sets out₀ 0 (listing_from directory k 0 n)) z;
        place = omega arith;
        same = refl;
      }

  pub listing_step : (out out' : List ℕ) (at at' i : ℕ) → i < entries directory → Listing directory k out₀ out at i
      → at' ≡ at + length (line_at directory k i) → out' ≡ sets out at (line_at directory k i) → Listing directory k out₀ out' at' (i + 1)
  listing_step out out' at at' i h s ea eo =
      let cut = from_step directory k i (entries directory) h in
      let n : length (listing_from directory k i (entries directory - i)) ≡ length (line_at directory k i) + length (listing_from directory k (i + 1) (entries directory - (i + 1)))
      = ap length cut ∙ length-append (line_at directory k i) (listing_from directory k (i + 1) (entries directory - (i + 1))) in
      record {
        few = omega arith;
        long = omega (arith, s.long);
        stored =
            rw (eo, ea) (sym (ap (sets out at) cut ∙ sets-append out at (line_at directory k i) (listing_from directory k (i + 1) (entries directory - (i + 1)))) ∙ s.stored);
        place = omega (arith, s.place, if-short (eqb (kind (entry directory i)) k) (listing_line (entry directory i)) (line-short (entry directory i)));
        same = ap length eo ∙ length-sets out at (line_at directory k i) ∙ s.same;
      }

  none_left : (i : ℕ) → entries directory ≤ i → listing_from directory k i (entries directory - i) ≡ []
  unfolding listing_from
  none_left i h = let e : entries directory - i ≡ 0 = omega arith in rw e

  pub listing-length : (out : List ℕ) (at i : ℕ) → entries directory ≤ i → Listing directory k out₀ out at i → at ≡ length (listing directory k)
  listing-length out at i h s = omega (arith, s.long, ap length (none_left i h))

  pub listing-stored : (out : List ℕ) (at i : ℕ) → entries directory ≤ i → Listing directory k out₀ out at i → out ≡ sets out₀ 0 (listing directory k)
  listing-stored out at i h s = sym (ap (sets out at) (none_left i h)) ∙ s.stored
