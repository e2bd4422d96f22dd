-- What is noted along a kept chain, and the bytes of its portions cut to that.
use mathlib.Core.Path.{◌≡◌, refl, sym, ap, ◌∙◌}
use mathlib.Core.List.{List, [], ◌∷◌, ◌++◌}
use mathlib.Core.Bool.{true, not, cond, false≢true}
use mathlib.Core.Logic.{⊎_elim}
use Prim.Native.Nat.{ℕ, ◌+◌, ◌-◌, ◌≤◌, ◌<◌, min}
use native.Mathlib.Omega.{arith}
use lib.ListN.{length, get_or, set, length-set}
use lib.Seq.{get_or-set_same, get_or-set_other}
use lib.Dec.{eqb}
use borrow.Author.Tests.{eq-eqb, ne_eqb}
use Rattle.cells.specs.Count.{times}
use Rattle.cells.proofs.Counts.{one-yes, one-no}
use Rattle.ground.proofs.Tests.{same?, or-first, or-second}
use Rattle.store.specs.Chain.{portion, bytes_of}
use Rattle.verdicts.specs.Verdicts.{meets, filled}
use Rattle.mended.proofs.Cuts.{cut, cut-min, cut-append}

-- how many of n bytes that stand along the portions ps lie in portion q
abbrev pub share : List ℕ → ℕ → ℕ → ℕ
share [] n q = 0
share (p ∷ ps) n q = cond (eqb p q) (min 256 n) (share ps (n - 256) q)

pub length-filled : (l ps : List ℕ) (n : ℕ) → length (filled l ps n) ≡ length l
length-filled l [] n = refl
length-filled l (p ∷ ps) n = length-filled (set l p (1 + min 256 n)) ps (n - 256) ∙ length-set l p (1 + min 256 n)

pub filled-out : (l ps : List ℕ) (n q : ℕ) → times q ps ≡ 0 → get_or (filled l ps n) q 0 ≡ get_or l q 0
filled-out l [] n q h = refl
filled-out l (p ∷ ps) n q h =
    let ne : q ≡ p → ⊥ = λ e. omega (arith, one-yes p q (sym e)) in
    filled-out (set l p (1 + min 256 n)) ps (n - 256) q (omega arith) ∙ get_or-set_other l p q (1 + min 256 n) 0 ne

pub filled_in : (l ps : List ℕ) (n q : ℕ) → q < length l → times q ps ≡ 1 → get_or (filled l ps n) q 0 ≡ 1 + share ps n q
filled_in l [] n q b h = absurd (omega arith)
filled_in l (p ∷ ps) n q b h = ⊎_elim
    (λ (e : p ≡ q).
    rw (eq-eqb p q e) (filled-out (set l p (1 + min 256 n)) ps (n - 256) q (omega (arith, one-yes p q e)) ∙ rw e (get_or-set_same l q (1 + min 256 n) 0 b)))
    (λ (ne : p ≡ q → ⊥). rw (ne_eqb p q ne) (filled_in (set l p (1 + min 256 n)) ps (n - 256) q (rw length-set b) (omega (arith, one-no p q ne))))
    (same? p q)

-- ---- a portion among ps that is noted

pub meets-some : (fs ps : List ℕ) → meets fs ps ≡ true → (q : ℕ) × ((0 < times q ps) × (get_or fs q 0 ≡ 0 → ⊥))
meets-some fs [] h = absurd (false≢true h)
meets-some fs (p ∷ ps) h = ⊎_elim
    (λ (z : get_or fs p 0 ≡ 0). let r = meets-some fs ps (rw (eq-eqb (get_or fs p 0) 0 z) at h) in (r.0, (omega (arith, r.1.0), r.1.1)))
    (λ (s : get_or fs p 0 ≡ 0 → ⊥). (p, (omega (arith, one-yes p p refl), s)))
    (same? (get_or fs p 0) 0)

pub some-meets : (fs ps : List ℕ) (q : ℕ) → 0 < times q ps → (get_or fs q 0 ≡ 0 → ⊥) → meets fs ps ≡ true
some-meets fs [] q i s = absurd (omega arith)
some-meets fs (p ∷ ps) q i s = ⊎_elim
    (λ (e : p ≡ q). or-first (not (eqb (get_or fs p 0) 0)) (meets fs ps) (rw (e, ne_eqb (get_or fs q 0) 0 s)))
    (λ (n : p ≡ q → ⊥). or-second (not (eqb (get_or fs p 0) 0)) (meets fs ps) (some-meets fs ps q (omega (arith, one-no p q n)) s))
    (same? p q)

-- ---- portions cut to their share are the bytes cut to the size

pub cut-bytes : (st st' ps : List ℕ) (n : ℕ) → ((q : ℕ) → times q ps ≤ 1) → ((q : ℕ) → 0 < times q ps → length (portion st q) ≡ 256)
    → ((q : ℕ) → 0 < times q ps → portion st' q ≡ cut (share ps n q) (portion st q)) → bytes_of st' ps ≡ cut n (bytes_of st ps)
cut-bytes st st' [] n o l h = refl
cut-bytes st st' (p ∷ ps) n o l h =
    let long = l p (omega (arith, one-yes p p refl)) in
    let here : portion st' p ≡ cut n (portion st p) =
    h p (omega (arith, one-yes p p refl)) ∙ rw (eq-eqb p p refl) (cut-min 256 n (portion st p) (omega arith)) in
    let rest : bytes_of st' ps ≡ cut (n - 256) (bytes_of st ps) =
    cut-bytes st st' ps (n - 256) (λ q. omega (arith, o q)) (λ q i. l q (omega arith))
    (λ q i. let ne : p ≡ q → ⊥ = λ e. omega (arith, o q, one-yes p q e) in h q (omega arith) ∙ rw (ne_eqb p q ne)) in
    (λ t. here t ++ rest t) ∙ ap (λ (m : ℕ). cut n (portion st p) ++ cut (n - m) (bytes_of st ps)) (sym long) ∙ sym (cut-append n (portion st p) (bytes_of st ps))
