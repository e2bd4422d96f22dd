-- Numbers with a sign in a line to which more is added.
use Rattle.std.specs.Prelude.{Result, Ok, Err}
use mathlib.Core.Path.{◌≡◌, ◌∙◌, refl, sym, ap}
use mathlib.Core.Bool.{Bool, true, false, cond}
use mathlib.Core.List.{List, [], ◌∷◌, ◌++◌}
use Prim.Native.Nat.{ℕ, ◌+◌, ◌-◌, ◌≤◌, ◌<◌}
use Prim.Native.Char.{code}
use native.Mathlib.Omega.{arith}
use native.Mathlib.Decide.{ℕ_discrete, dec_lt}
use lib.Dec.{ltb}
use lib.ListN.{length, get_or, get_or-append}
use lib.Seq.{get_or-append_seam}
use borrow.Author.Tests.{lt-ltb, le-ltb, ne_eqb}
use Rattle.classes.proofs.Laws.{inside}
use Rattle.fields.specs.Field.{stop_of, pointed}
use Rattle.numbers.specs.Number.{number_at, signed_at, plus, minus, behind_sign, nought}
use Rattle.pointing.proofs.Runs.{longer}
use Rattle.pointing.proofs.Pieces.{Sits, Ended, Rest, Full}
use Rattle.pointing.proofs.Numbers.{number-sits, number-firm, number-not, number-over, number-one, ended-digit, comma-digit}

-- a field whose value is reckoned anew
abbrev valued : (ℕ → ℕ) → Result (ℕ × ℕ) ℕ → Result (ℕ × ℕ) ℕ
valued w (Ok (v, e)) = Ok (w v, e)
valued w (Err p) = Err p

-- the number behind a sign
abbrev behind : (ℕ → ℕ) → List ℕ → ℕ → Result (ℕ × ℕ) ℕ
behind w s at = valued w (behind_sign s at (number_at s (at + 1)))

module _ (w : ℕ → ℕ) (s : List ℕ) (at : ℕ) (h : at < length s) where
  behind-sits : Sits s at (behind w s at)
  behind-sits = go (number_at s (at + 1)) (number-sits s (at + 1) (omega arith))
    where
      go : (x : Result (ℕ × ℕ) ℕ) → Sits s (at + 1) x → Sits s at (valued w (behind_sign s at x))
      go (Ok (v, e)) k = (omega arith, k.1)
      go (Err p) k = pick (ltb p (length s))
        where
          pick : (t : Bool) → (at ≤ cond t at p) × (cond t at p ≤ length s)
          pick true = (omega arith, omega arith)
          pick false = (omega arith, omega arith)

  behind-firm : (m : List ℕ) → stop_of (behind w s at) < length s → behind w (s ++ m) at ≡ behind w s at
  behind-firm m k = go (number_at s (at + 1)) refl k
    where
      go : (x : Result (ℕ × ℕ) ℕ) → number_at s (at + 1) ≡ x → stop_of (valued w (behind_sign s at x)) < length s
          → valued w (behind_sign (s ++ m) at (number_at (s ++ m) (at + 1))) ≡ valued w (behind_sign s at x)
      go (Ok (v, e)) q l =
          let z : stop_of (number_at s (at + 1)) < length s = rw q l in
          rw (number-firm s m (at + 1) (omega arith) z, q)
      go (Err p) q l = pick (dec_lt p (length s))
        where
          pick : Dec (p < length s) → valued w (behind_sign (s ++ m) at (number_at (s ++ m) (at + 1))) ≡ Err (pointed s at p)
          pick (yes i) =
              let z : stop_of (number_at s (at + 1)) < length s = rw q i in
              rw (number-firm s m (at + 1) (omega arith) z, q, lt-ltb p (length s) i, lt-ltb p (length (s ++ m)) (longer s m p i))
          pick (no i) = absurd (let z = rw (le-ltb p (length s) (omega arith)) at l in omega arith)

  behind-ends : (m : List ℕ) (v : ℕ) → behind w s at ≡ Ok (v, length s) → behind w (s ++ (code "," ∷ m)) at ≡ Ok (v, length s)
  behind-ends m v e = go (number_at s (at + 1)) refl e
    where
      go : (x : Result (ℕ × ℕ) ℕ) → number_at s (at + 1) ≡ x → valued w (behind_sign s at x) ≡ Ok (v, length s)
          → valued w (behind_sign (s ++ (code "," ∷ m)) at (number_at (s ++ (code "," ∷ m)) (at + 1))) ≡ Ok (v, length s)
      go (Ok (u, d)) q k = rw (number-over (code ",") s m (at + 1) comma-digit (omega arith), q) k
      go (Err p) q k = absurd (let z : ◌≡◌ {A = ℕ} 0 1 = cc in omega arith)

  -- nothing stands behind the sign: a digit will
  behind-rest : behind w s at ≡ Err (length s) → (m : List ℕ) → Ended m → behind w (s ++ (code "1" ∷ m)) at ≡ Ok (w 1, length s + 1)
  behind-rest e m x = go (number_at s (at + 1)) refl e
    where
      go : (x : Result (ℕ × ℕ) ℕ) → number_at s (at + 1) ≡ x → valued w (behind_sign s at x) ≡ Err (length s)
          → valued w (behind_sign (s ++ (code "1" ∷ m)) at (number_at (s ++ (code "1" ∷ m)) (at + 1))) ≡ Ok (w 1, length s + 1)
      go (Ok (u, d)) q k = absurd (let z : ◌≡◌ {A = ℕ} 0 1 = cc in omega arith)
      go (Err p) q k =
          let a = number-not s (at + 1) p q in
          let f : at + 1 ≡ length s = fault (dec_lt p (length s)) in
          rw (f, number-one s m (ended-digit m x))
        where
          fault : Dec (p < length s) → at + 1 ≡ length s
          fault (yes i) = absurd (let z : Err at ≡ Err (length s) = rw (lt-ltb p (length s) i) at k in let y : at ≡ length s = cc in omega arith)
          fault (no i) = let z : Err p ≡ Err (length s) = rw (le-ltb p (length s) (omega arith)) at k in let y : p ≡ length s = cc in let a = number-not s (at + 1) p q in omega arith

plus-valued : (x : Result (ℕ × ℕ) ℕ) → plus x ≡ valued (λ v. nought + v) x
plus-valued (Ok (v, e)) = refl
plus-valued (Err p) = refl

minus-valued : (x : Result (ℕ × ℕ) ℕ) → minus x ≡ valued (λ v. nought - v) x
minus-valued (Ok (v, e)) = refl
minus-valued (Err p) = refl

-- whether a sign stands at a place: then it does in every line that has the same byte there
data Signed (s : List ℕ) (at : ℕ) : Type 0 where
  a-sign : (w : ℕ → ℕ) → at < length s → ((t : List ℕ) → get_or t at 0 ≡ get_or s at 0 → signed_at t at ≡ behind w t at) → Signed s at
  bare : ((t : List ℕ) → get_or t at 0 ≡ get_or s at 0 → signed_at t at ≡ valued (λ v. nought + v) (number_at t at)) → Signed s at

signed-view : (s : List ℕ) (at : ℕ) → Signed s at
unfolding signed_at
signed-view s at = go (ℕ_discrete (get_or s at 0) (code "+")) (ℕ_discrete (get_or s at 0) (code "-"))
  where
    go : Dec (get_or s at 0 ≡ code "+") → Dec (get_or s at 0 ≡ code "-") → Signed s at
    go (yes e) b =
        a-sign (λ v. nought + v) (inside s at (omega arith))
        (λ t k. rw (k, e) (plus-valued (behind_sign t at (number_at t (at + 1)))))
    go (no a) (yes e) =
        a-sign (λ v. nought - v) (inside s at (omega arith))
        (λ t k. rw (k, e) (minus-valued (behind_sign t at (number_at t (at + 1)))))
    go (no a) (no b) =
        bare (λ t k. rw (k, ne_eqb (get_or s at 0) (code "+") a, ne_eqb (get_or s at 0) (code "-") b) (plus-valued (number_at t at)))

valued-sits : (w : ℕ → ℕ) (s : List ℕ) (at : ℕ) (x : Result (ℕ × ℕ) ℕ) → Sits s at x → Sits s at (valued w x)
valued-sits w s at (Ok (v, e)) h = h
valued-sits w s at (Err p) h = h

valued-stop : (w : ℕ → ℕ) (x : Result (ℕ × ℕ) ℕ) → stop_of (valued w x) ≡ stop_of x
valued-stop w (Ok (v, e)) = refl
valued-stop w (Err p) = refl

sits-stop : (s : List ℕ) (at : ℕ) (x : Result (ℕ × ℕ) ℕ) → Sits s at x → at ≤ stop_of x
sits-stop s at (Ok (v, e)) h = omega arith
sits-stop s at (Err p) h = omega arith

signed-sits : (s : List ℕ) (at : ℕ) → at ≤ length s → Sits s at (signed_at s at)
signed-sits s at h = go (signed-view s at)
  where
    go : Signed s at → Sits s at (signed_at s at)
    go (a-sign w l f) = rw (f s refl) (behind-sits w s at l)
    go (bare f) = rw (f s refl) (valued-sits (λ v. nought + v) s at (number_at s at) (number-sits s at h))

signed-firm : (s m : List ℕ) (at : ℕ) → at ≤ length s → stop_of (signed_at s at) < length s → signed_at (s ++ m) at ≡ signed_at s at
signed-firm s m at h k = go (signed-view s at)
  where
    at-inside : at < length s
    at-inside = let z = sits-stop s at (signed_at s at) (signed-sits s at h) in omega arith

    go : Signed s at → signed_at (s ++ m) at ≡ signed_at s at
    go (a-sign w l f) = f (s ++ m) (get_or-append s m 0 at l) ∙ behind-firm w s at l m (rw (f s refl) at k) ∙ sym (f s refl)
    go (bare f) =
        let z = rw (f s refl, valued-stop (λ v. nought + v) (number_at s at)) at k in
        f (s ++ m) (get_or-append s m 0 at at-inside) ∙ ap (valued (λ v. nought + v)) (number-firm s m at h z) ∙ sym (f s refl)

signed-ends : (s m : List ℕ) (at v : ℕ) → at ≤ length s → signed_at s at ≡ Ok (v, length s) → signed_at (s ++ (code "," ∷ m)) at ≡ Ok (v, length s)
signed-ends s m at v h e = go (signed-view s at)
  where
    at-inside : at < length s
    at-inside = let z : Sits s at (Ok (v, length s)) = rw e at (signed-sits s at h) in z.0

    go : Signed s at → signed_at (s ++ (code "," ∷ m)) at ≡ Ok (v, length s)
    go (a-sign w l f) = f (s ++ (code "," ∷ m)) (get_or-append s (code "," ∷ m) 0 at l) ∙ behind-ends w s at l m v (sym (f s refl) ∙ e)
    go (bare f) =
        f (s ++ (code "," ∷ m)) (get_or-append s (code "," ∷ m) 0 at at-inside) ∙ rw (number-over (code ",") s m at comma-digit h) (sym (f s refl) ∙ e)

signed-empty : (s m : List ℕ) → Ended m → signed_at (s ++ (code "1" ∷ m)) (length s) ≡ Ok (nought + 1, length s + 1)
unfolding signed_at
signed-empty s m x = rw (get_or-append_seam s (code "1") m 0, number-one s m (ended-digit m x))

valued_not : (w : ℕ → ℕ) (x : Result (ℕ × ℕ) ℕ) (p : ℕ) → valued w x ≡ Err p → x ≡ Err p
valued_not w (Ok (v, e)) p k = absurd (let z : ◌≡◌ {A = ℕ} 0 1 = cc in omega arith)
valued_not w (Err q) p k = k

signed_rest : (s : List ℕ) (at : ℕ) → at < length s → signed_at s at ≡ Err (length s) → Rest signed_at s at
signed_rest s at h e = go (signed-view s at)
  where
    go : Signed s at → Rest signed_at s at
    go (a-sign w l f) =
        record {
          tail = code "1" ∷ [];
          value = w 1;
          whole = λ m x. f (s ++ (code "1" ∷ m)) (get_or-append s (code "1" ∷ m) 0 at h) ∙ behind-rest w s at h (sym (f s refl) ∙ e) m x;
        }
    go (bare f) =
        absurd (let p = number-not s at (length s) (valued_not (λ v. nought + v) (number_at s at) (length s) (sym (f s refl) ∙ e)) in omega arith)

-- a number with a sign is a field that a comma ends
pub signed-full : Full signed_at
signed-full =
    record {
      piece = record { sits = signed-sits; firm = signed-firm };
      ends = signed-ends;
      blank = code "1" ∷ [];
      value = nought + 1;
      empty = signed-empty;
      rest = signed_rest;
    }
