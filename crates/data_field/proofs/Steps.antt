-- The form of data, and the limits of its modifiers, step by step.
use Rattle.std.specs.Prelude.{Ok, Err}
use mathlib.Core.Path.{◌≡◌}
use mathlib.Core.Bool.{true, false, and-false}
use mathlib.Core.List.{List}
use Prim.Native.Nat.{ℕ, ◌+◌, ◌≤◌, ◌<◌}
use native.Mathlib.Omega.{arith}
use lib.ListN.{length}
use borrow.Author.Tests.{eq-eqb, ne_eqb, lt-ltb, le-ltb}
use Rattle.elements.specs.Elements.{element_at, elements, after}
use Rattle.elements.specs.declared.Element.{Element}
use Rattle.elements.proofs.Steps.{Took, element-took, element-past, elements-next, elements-stop}
use Rattle.data_field.specs.Data.{total, data_at, what_good, limits}

module _ (s : List ℕ) (i : ℕ) where
  pub total-next : (e : Element) → element_at s i ≡ Ok e → i + total (elements s i) ≡ after e + total (elements s (after e))
  unfolding total
  total-next e h =
      let t : Took s i (Ok e) = rw h at (element-took s i) in
      rw (elements-next s i e h) (omega (arith, t.0))

  total-stop : (p : ℕ) → element_at s i ≡ Err p → total (elements s i) ≡ 0
  unfolding total
  total-stop p h = rw (elements-stop s i p h)

  pub data-stop : (at p : ℕ) → at + total (elements s at) ≡ i + total (elements s i) → i < length s → element_at s i ≡ Err p
      → data_at s at ≡ Err p
  unfolding data_at
  data-stop at p k l h =
      let z = total-stop p h in
      let e : at + total (elements s at) ≡ i = omega arith in
      rw (e, h) (simp (ne_eqb i (length s) (λ q. omega arith), and-false))

  pub data-end : (at : ℕ) → at + total (elements s at) ≡ i + total (elements s i) → at < length s → i ≡ length s → data_at s at ≡ Ok (0, i)
  unfolding data_at
  data-end at k l h =
      let z = total-stop i (element-past s i (omega arith)) in
      let e : at + total (elements s at) ≡ i = omega arith in
      rw (e, lt-ltb at i (omega arith), eq-eqb i (length s) h)

  pub data-past : length s ≤ i → data_at s i ≡ Err i
  unfolding data_at
  data-past h =
      let z = total-stop i (element-past s i h) in
      let e : i + total (elements s i) ≡ i = omega arith in
      rw (e, le-ltb i i (omega arith), element-past s i h)

  pub limits-next : (e : Element) → element_at s i ≡ Ok e → what_good e.what ≡ true → limits (elements s i) ≡ limits (elements s (after e))
  unfolding limits
  limits-next e h k = rw (elements-next s i e h, k)

  pub limits-out : (e : Element) → element_at s i ≡ Ok e → what_good e.what ≡ false → limits (elements s i) ≡ Err e.at
  unfolding limits
  limits-out e h k = rw (elements-next s i e h, k)

  pub limits-stop : (p : ℕ) → element_at s i ≡ Err p → limits (elements s i) ≡ Ok tt
  unfolding limits
  limits-stop p h = rw (elements-stop s i p h)

-- what `data_form` stands on: the check finds its proof by these
pub ruleset form_steps = (element-took, total-next, data-stop, data-end, data-past)
