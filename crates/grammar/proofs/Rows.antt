-- Laws on the rows of the grammar, and on their bounds.
use mathlib.Core.Path.{◌≡◌, ◌∙◌, refl, sym, ap}
use mathlib.Core.Bool.{Bool, true, false, ◌&&◌}
use mathlib.Core.List.{List, [], ◌∷◌, ◌++◌}
use Prim.Native.Nat.{ℕ, zero, suc, ◌+◌, ◌≤◌, ◌<◌}
use native.Mathlib.Omega.{arith}
use native.Mathlib.Decide.{dec_lt}
use lib.Dec.{T, leb, ltb, leb→le, ltb→lt}
use lib.ListN.{length, get_or, take, replicate, length-append, length-take, get_or-append, get_or-eq_default}
use Rattle.numbers.proofs.ClassesLaws.{and_T}
use Rattle.grammar.specs.Forms.{Form, forms, none, row_of, bounds_of, spread, free}
use Rattle.grammar.specs.Codes.{codes, code_at, filled_up, line_up}
use Rattle.bounds.specs.Letters.{bound, bound_by}
use Rattle.bounds.specs.declared.Bounds.{Bounds}

-- ---- what holds of every row

infixr 5 ◌&◌
-- one entry and the entries behind it
abbrev pub ◌&◌ : {A B : Type 0} → A → B → A × B
a & b = (a, b)

-- a fact of each row, row by row: a row more is one entry more. The last entry is for what is past the last row
abbrev pub Each : (ℕ → Form → Type 0) → List Form → Type 0
Each q [] = (k : ℕ) → q k none
Each q (f ∷ fs) = q 0 f × Each (λ k. q (suc k)) fs

each_at : (q : ℕ → Form → Type 0) (fs : List Form) → Each q fs → (row : ℕ) → q row (get_or fs row none)
each_at q [] h row = h row
each_at q (f ∷ fs) h zero = h.0
each_at q (f ∷ fs) h (suc row) = each_at (λ k. q (suc k)) fs h.1 row

pub each_row : (q : ℕ → Form → Type 0) → Each q forms → (row : ℕ) → q row (row_of row)
each_row q h row = each_at q forms h row

-- ---- tables

-- past the last row there is none
pub no_row : (row : ℕ) → 34 ≤ row → row_of row ≡ none
no_row row h = get_or-eq_default forms none h

abbrev mapped : {A B : Type 0} → (A → B) → List A → List B
mapped g [] = []
mapped g (x ∷ xs) = g x ∷ mapped g xs

mapped_at : {A B : Type 0} (g : A → B) (l : List A) (k : ℕ) (d : A) → get_or (mapped g l) k (g d) ≡ g (get_or l k d)
mapped_at g [] k d = refl
mapped_at g (x ∷ xs) zero d = refl
mapped_at g (x ∷ xs) (suc k) d = mapped_at g xs k d

-- what a row is filled up with stands wherever it has ended
pub filled-up : (b d : ℕ) (l : List ℕ) (n m k : ℕ) → k < n → n ≤ length l + m → get_or (take n (l ++ replicate m b)) k d ≡ get_or l k b
filled-up b d l zero m k h e = absurd (omega arith)
filled-up b d [] (suc n) zero k h e = absurd (omega arith)
filled-up b d [] (suc n) (suc m) zero h e = refl
filled-up b d [] (suc n) (suc m) (suc k) h e = filled-up b d [] n m k (omega arith) (omega arith)
filled-up b d (x ∷ xs) (suc n) m zero h e = refl
filled-up b d (x ∷ xs) (suc n) m (suc k) h e = filled-up b d xs n m k (omega arith) (omega arith)

filled-long : (b : ℕ) (l : List ℕ) → length (filled_up b l) ≡ 18
filled-long b l = let h = length-take 18 (l ++ replicate 18 b) in let k = length-append l (replicate 18 b) in omega arith

behind : (n k : ℕ) (a r : List ℕ) → length a ≡ n → get_or (a ++ r) (n + k) 0 ≡ get_or r k 0
behind n k [] r h = let e : n + k ≡ k = omega arith in rw e
behind n k (x ∷ xs) r h = let e : n + k ≡ suc (length xs + k) = omega arith in rw e (behind (length xs) k xs r refl)

-- the form stands in front, the letters behind it
pub form-at : (row k : ℕ) (l : List ℕ) → l ≡ line_up row → k < 18 → get_or l k 0 ≡ get_or (row_of row).fields k 32
unfolding line_up
form-at row k l e h =
    let n = filled-long 32 (row_of row).fields in
    rw (e, get_or-append (filled_up 32 (row_of row).fields) (filled_up 45 (get_or codes row [])) 0 k (omega arith))
    (filled-up 32 0 (row_of row).fields 18 18 k h (omega arith))

code-at : (row k : ℕ) (l : List ℕ) → l ≡ line_up row → k < 18 → get_or l (18 + k) 0 ≡ code_at row k
unfolding line_up
code-at row k l e h =
    rw e (behind 18 k (filled_up 32 (row_of row).fields) (filled_up 45 (get_or codes row [])) (filled-long 32 (row_of row).fields))
    ∙ filled-up 45 0 (get_or codes row []) 18 18 k h (omega arith)

-- past the last row there is no form and no bounds
pub above : (row n : ℕ) → n ≤ row → (row ≡ n → ⊥) → suc n ≤ row
above row n h k = go (dec_lt n row)
  where
    go : Dec (n < row) → suc n ≤ row
    go (yes j) = omega arith
    go (no j) = absurd (k (omega arith))

pub no_line : (row : ℕ) → 34 ≤ row → line_up row ≡ replicate 18 32 ++ replicate 18 45
unfolding line_up
no_line row h = rw (no_row row h, get_or-eq_default codes [] h)

-- what holds of each form and of none holds of each row
unfoldable pub every : (Form → Bool) → List Form → Bool
every p [] = true
every p (f ∷ fs) = p f && every p fs

pub every-at : (p : Form → Bool) (fs : List Form) → T (every p fs) → T (p none) → (row : ℕ) → T (p (get_or fs row none))
unfolding every
every-at p [] h k row = k
every-at p (f ∷ fs) h k zero = (and_T (p f) (every p fs) h).0
every-at p (f ∷ fs) h k (suc row) = every-at p fs (and_T (p f) (every p fs) h).1 k row

-- a form's bytes are above the space, which ends a row, and there are at most eighteen in a row
fine : List ℕ → Bool
fine [] = true
fine (f ∷ fs) = ltb 32 f && fine fs

fine-at : (l : List ℕ) → T (fine l) → (i : ℕ) → i < length l → 32 < get_or l i 32
unfolding fine
fine-at [] h i k = absurd (omega arith)
fine-at (f ∷ fs) h zero k = ltb→lt 32 f (and_T (ltb 32 f) (fine fs) h).0
fine-at (f ∷ fs) h (suc i) k = fine-at fs (and_T (ltb 32 f) (fine fs) h).1 i (omega arith)

row_fine : (row i : ℕ) → i < length (row_of row).fields → 32 < get_or (row_of row).fields i 32
unfolding every fine
row_fine row i h = fine-at (row_of row).fields (every-at (λ f. fine f.fields) forms tt tt row) i h

pub row-short : (row : ℕ) → length (row_of row).fields ≤ 18
unfolding every
row-short row = leb→le (length (row_of row).fields) 18 (every-at (λ f. leb (length f.fields) 18) forms tt tt row)

-- where a row's byte is no space the row goes on, and where it is the row has ended
pub out-row : (row i f : ℕ) → f ≡ get_or (row_of row).fields i 32 → f ≡ 32 → length (row_of row).fields ≤ i
out-row row i f h e = go (dec_lt i (length (row_of row).fields))
  where
    go : Dec (i < length (row_of row).fields) → length (row_of row).fields ≤ i
    go (yes k) = let z = row_fine row i k in absurd (omega arith)
    go (no k) = omega arith

pub in_row : (row i f : ℕ) → f ≡ get_or (row_of row).fields i 32 → (f ≡ 32 → ⊥) → i < length (row_of row).fields
in_row row i f h e = go (dec_lt i (length (row_of row).fields))
  where
    go : Dec (i < length (row_of row).fields) → i < length (row_of row).fields
    go (yes k) = k
    go (no k) = absurd (e (h ∙ get_or-eq_default (row_of row).fields 32 (omega arith)))

-- ---- bounds

abbrev bound_of : ℕ × ℕ → Bounds
bound_of l = bound l.0 l.1

abbrev bounds_by : ℕ → Form → List Bounds
bounds_by rows f = mapped bound_of (spread f.fields (f.bounds rows))

codes-right : (rows : ℕ) → mapped (mapped (λ c. bound_by c rows)) codes ≡ mapped (bounds_by rows) forms
unfolding bound_by spread
codes-right rows = refl

bound-right : (row i rows : ℕ) → bound_by (code_at row i) rows ≡ bound_of (get_or (bounds_of row rows) i free)
unfolding bound_by spread
bound-right row i rows =
    sym (mapped_at (λ c. bound_by c rows) (get_or codes row []) i 45)
    ∙ ap (λ (l : List Bounds). get_or l i (bound 0 0)) (sym (mapped_at (mapped (λ c. bound_by c rows)) codes row [])
    ∙ ap (λ (t : List (List Bounds)). get_or t row []) (codes-right rows)
    ∙ mapped_at (bounds_by rows) forms row none)
    ∙ mapped_at bound_of (bounds_of row rows) i free

-- the bounds that the letters of a row give
pub bounds-at : (row i rows : ℕ) (l : List ℕ) (b : Bounds) → l ≡ line_up row → i < 18 → b ≡ bound_by (get_or l (18 + i) 0) rows
    → (b.low ≡ (get_or (bounds_of row rows) i free).0) × (b.high ≡ (get_or (bounds_of row rows) i free).1)
bounds-at row i rows l b e h k =
    let m = k ∙ ap (λ c. bound_by c rows) (code-at row i l e h) ∙ bound-right row i rows in
    (ap (λ (x : Bounds). x.low) m, ap (λ (x : Bounds). x.high) m)
