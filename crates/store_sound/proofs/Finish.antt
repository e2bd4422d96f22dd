-- A form is finished: kind 3 to 1, and all else stays.
use mathlib.Core.Path.{◌≡◌, refl, sym, ap, ◌∙◌}
use mathlib.Core.List.{List}
use mathlib.Core.Bool.{Bool, true, false, cond, false≢true}
use mathlib.Core.Logic.{⊎_elim}
use Prim.Native.Nat.{ℕ, ◌+◌, ◌*◌, ◌<◌}
use native.Mathlib.Omega.{arith}
use native.Mathlib.Nat.{add-zero}
use lib.ListN.{length, get_or, set, length-set}
use lib.Seq.{get_or-set_same, get_or-set_other}
use borrow.Author.Tests.{eq-eqb, ne_eqb}
use Rattle.cells.specs.Count.{times, sum_to}
use Rattle.cells.proofs.Cells.{length-cell, cell-set-same, cell-set-other}
use Rattle.store.specs.Chain.{chain}
use Rattle.store.specs.Entry.{entries, entry, kind, name, first, size, many, of_kind}
use Rattle.contents.specs.Content.{content_of, extent}
use Rattle.memory.specs.Memory.{memory}
use Rattle.ground.proofs.Tests.{same?}
use Rattle.store_sound.specs.Sound.{name_ok, firsts, counts, store_sound}
use Rattle.store_sound.specs.Shelf.{held}
use Rattle.store_sound.proofs.Facts.{Sound, sound-facts, sizes_of}
use Rattle.store_sound.proofs.Moving.{Moved, inside, moved-is}
use Rattle.starting.specs.Start.{finished}

module _ (e : List ℕ) (long : length e ≡ 16) (r : kind e ≡ 3) where
  end-kind : kind (set e 0 1) ≡ 1
  end-kind = get_or-set_same e 0 1 0 (omega arith)

  at : (k : ℕ) → 0 < k → get_or (set e 0 1) k 0 ≡ get_or e k 0
  at k h = get_or-set_other e 0 k 1 0 (λ z. omega arith)

  end-first : first (set e 0 1) ≡ first e
  unfolding first
  end-first = rw (at 10 (omega arith), at 11 (omega arith))

  end-size : size (set e 0 1) ≡ size e
  unfolding size
  end-size = rw (at 12 (omega arith), at 13 (omega arith), at 14 (omega arith), at 15 (omega arith))

  end-many : many (set e 0 1) ≡ many e
  unfolding many
  end-many = rw (ne_eqb (kind (set e 0 1)) 0 (λ z. omega (arith, end-kind)), end-size, ne_eqb (kind e) 0 (λ z. omega arith))

  end-name : name (set e 0 1) ≡ name e
  unfolding name
  end-name = rw (at 2 (omega arith), at 3 (omega arith), at 4 (omega arith), at 5 (omega arith), at 6 (omega arith), at 7 (omega arith), at 8 (omega arith), at 9 (omega arith))

  end-legal : name_ok (set e 0 1) ≡ name_ok e
  unfolding name_ok
  end-legal = rw (at 1 (omega arith), end-name)

  end-content : (st ls : List ℕ) → content_of st ls (set e 0 1) ≡ content_of st ls e
  unfolding content_of extent
  end-content st ls = rw (end-first, end-size)

module _ (st ls dir : List ℕ) (i : ℕ) (h : store_sound st ls dir ≡ true) (bi : i < entries dir) (r : kind (entry dir i) ≡ 3) where
  s : Sound st ls dir
  s = sound-facts st ls dir h

  abbrev E : ℕ
  E = entries dir

  abbrev e : List ℕ
  e = entry dir i

  abbrev dir' : List ℕ
  dir' = set dir (i * 16 + 0) 1

  finished-is : finished dir i ≡ dir'
  unfolding finished
  finished-is = ap (λ (b : Bool). cond b (set dir (i * 16) 1) dir) (eq-eqb (kind e) 3 r) ∙ ap (λ (a : ℕ). set dir a 1) (sym (add-zero (i * 16)))

  long : length e ≡ 16
  long = length-cell 16 dir i (inside dir i bi)

  here : entry dir' i ≡ set e 0 1
  here = cell-set-same 16 dir i 0 1 (omega arith)

  other : (j : ℕ) → j < E → (j ≡ i → ⊥) → entry dir' j ≡ entry dir j
  other j b ne = cell-set-other 16 dir i 0 1 (omega arith) j (inside dir j b) ne

  -- a field that the kind does not touch
  field : (f : List ℕ → ℕ) → f (set e 0 1) ≡ f e → (j : ℕ) → j < E → f (entry dir' j) ≡ f (entry dir j)
  field f q j b = ⊎_elim (λ (z : j ≡ i). rw z (ap f here ∙ q)) (λ (ne : j ≡ i → ⊥). ap f (other j b ne)) (same? j i)

  fs : (j : ℕ) → j < E → firsts dir' j ≡ firsts dir j
  fs = field first (end-first e long r)

  ns : (j : ℕ) → j < E → counts dir' j ≡ counts dir j
  ns = field many (end-many e long r)

  sz : (j : ℕ) → j < E → sizes_of dir' j ≡ sizes_of dir j
  sz = field size (end-size e long r)

  form-class : (p : Bool) → of_kind p (kind (set e 0 1)) ≡ true → of_kind p (kind e) ≡ true
  form-class true o = absurd (false≢true (rw (end-kind e long r) at o))
  form-class false o = rw r

  pub finish-moved : Moved (memory st ls dir) (memory st ls (finished dir i)) i (held 1 (name (entry dir i)) (content_of st ls (entry dir i)))
  finish-moved =
      let u : ((q : ℕ) → sum_to (λ (j : ℕ). times q (chain ls (firsts dir' j) (counts dir' j))) E ≡ sum_to (λ (j : ℕ). times q (chain ls (firsts dir j) (counts dir j))) E) =
      λ q. Rattle.cells.proofs.Counts.sum_same _ _ E (λ j b. rw (fs j b, ns j b)) in
      rw finished-is
      (moved-is st ls dir st ls dir' i (set e 0 1) s bi refl refl (length-set dir (i * 16 + 0) 1) here other
      (omega (arith, end-kind e long r)) (λ n. end-legal e long r ∙ s.names i bi (λ z. omega arith))
      (λ p j b ne o oj q. ne (s.unique p j i b bi oj (form-class p o) (sym q ∙ end-name e long r)))
      (λ z. absurd (omega (arith, end-kind e long r))) (λ z. absurd (omega (arith, end-kind e long r)))
      (record {
        chained = λ j b n. rw (fs j b, ns j b) (s.links.chained j b (rw (ns j b) at n));
        free = λ q b k. u q ∙ s.links.free q b k;
        taken = λ q b n. u q ∙ s.links.taken q b n;
      })
      (record { blank = s.bytes.blank; tailed = λ j b. rw (fs j b, ns j b, sz j b) (s.bytes.tailed j b) })
      (λ j b ne. rw (fs j b, ns j b)) (λ j b ne. rw (fs j b, ns j b)) _
      (λ t. held (end-kind e long r t) (end-name e long r t) (end-content e long r st ls t)))
