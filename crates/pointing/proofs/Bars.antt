-- What stands under bars, with the data behind it, which ends a row.
use Rattle.std.specs.Prelude.{Result, Ok, Err}
use mathlib.Core.Path.{◌≡◌, ◌∙◌, refl, sym}
use mathlib.Core.Bool.{false}
use mathlib.Core.List.{List, [], ◌∷◌, ◌++◌, append-nil}
use Prim.Native.Nat.{ℕ, ◌+◌, ◌≤◌, ◌<◌}
use Prim.Native.Char.{code}
use native.Mathlib.Omega.{arith}
use native.Mathlib.Decide.{dec_lt}
use lib.ListN.{length, get_or, length-append, get_or-append}
use lib.Seq.{get_or-append_seam, get_or-append-add}
use borrow.Author.Tests.{lt-leb, le-leb}
use Rattle.classes.proofs.Laws.{past}
use Rattle.fields.specs.Field.{stop_of, is_place, word_to, byte_at, under_at}
use Rattle.reader.specs.Letters.{field_at}
use Rattle.row_fields.specs.Reading.{fields_from}
use Rattle.fields.proofs.Pairs.{ok_second}
use Rattle.pointing.proofs.Pieces.{Sits, comma}
use Rattle.pointing.proofs.Texts.{byte-here}
use Rattle.pointing.proofs.Words.{word-sits, word-firm, word-is, word-not, word-ended, word-behind}
use Rattle.pointing.proofs.Data.{quotes, data-last}
use Rattle.pointing.proofs.Under.{Below, letter, place, none, absent, cut, begun, below, under-nothing}
use Rattle.pointing.proofs.Points.{Good, Faulty, Where, here, later, where-of, good-later, Finished, Points, sits-within, firm-within, filled, go_on, points-byte, points-last}

-- data at the end of a row points rightly
pub points-data : Points (code "d" ∷ []) quotes
unfolding field_at
points-data = points-last (code "d") quotes data-last

-- ---- under bars
pub is-under : (s : List ℕ) (at : ℕ) → field_at (code "h") s at ≡ under_at s at
unfolding field_at
is-under s at = refl

is-comma : (s : List ℕ) (at : ℕ) → field_at (code ",") s at ≡ byte_at (code ",") s at
unfolding field_at
is-comma s at = refl

abbrev behind : List ℕ
behind = code "," ∷ (code "d" ∷ [])

points-behind : Points behind (code "," ∷ quotes)
points-behind = points-byte (code ",") (code "d" ∷ []) quotes is-comma points-data

-- a comma that is there
comma-read : (t : List ℕ) (at : ℕ) → at < length t → get_or t at 0 ≡ code "," → field_at (code ",") t at ≡ Ok ((code ","), at + 1)
comma-read t at l e = is-comma t at ∙ byte-here (code ",") t at l ∙ rw e

-- what stands there now
module _ (s : List ℕ) (at : ℕ) where
  now-word : (v : ℕ) → ((m : List ℕ) → under_at (s ++ m) at ≡ word_to (s ++ m) at v (at + 1)) → under_at s at ≡ word_to s at v (at + 1)
  now-word v f = rw append-nil at (f [])

  now : (x : Result (ℕ × ℕ) ℕ) → ((m : List ℕ) → under_at (s ++ m) at ≡ x) → under_at s at ≡ x
  now x f = rw append-nil at (f [])

  begun-now : at < length s → length s ≤ at + 2 → (length s ≡ at + 2 → get_or s (at + 1) 0 ≡ code ",")
      → ((m : List ℕ) → is_place (get_or (s ++ m) (at + 2) 0) ≡ false → under_at (s ++ m) at ≡ word_to (s ++ m) at (code "B") (at + 1))
      → under_at s at ≡ Ok (code "B", at + 1)
  begun-now l i c f =
      let a : is_place (get_or (s ++ []) (at + 2) 0) ≡ false = rw (append-nil s, past s (at + 2) i) refl in
      let b : under_at s at ≡ word_to s at (code "B") (at + 1) = rw append-nil at (f [] a) in
      b ∙ go (dec_lt (at + 1) (length s))
    where
      go : Dec (at + 1 < length s) → word_to s at (code "B") (at + 1) ≡ Ok (code "B", at + 1)
      go (yes k) = rw (lt-leb (length s) (at + 1) k, c (omega arith))
      go (no k) = rw (le-leb (length s) (at + 1) (omega arith))

  -- what stands under bars ends within the line, and so does its fault
  pub under-sits : at ≤ length s → Sits s at (under_at s at)
  under-sits h = go (below s at)
    where
      go : Below s at → Sits s at (under_at s at)
      go (letter v l f) = rw (now-word v f) (word-sits s at v (at + 1) (omega arith) (omega arith))
      go (place v l f) = rw (now (Ok (v, at + 3)) f) (omega arith, omega arith)
      go (none l f) = rw (now (Err at) f) (omega arith, h)
      go (absent l e) = rw e (omega arith, h)
      go (cut v l e f) = rw e (h, omega arith)
      go (begun l i c f) = rw (begun-now l i c f) (omega arith, omega arith)

abbrev word : List ℕ
word = code "h" ∷ behind

-- behind a `B` that ends the line, or with its comma does, there is no fault before the end
begun-fault : (s : List ℕ) (at p : ℕ) → at < length s → length s ≤ at + 2 → (length s ≡ at + 2 → get_or s (at + 1) 0 ≡ code ",")
    → Faulty (fields_from behind s (at + 1)) p → p < length s → ⊥
begun-fault s at p l i c k j = go (where-of (code ",") (code "d" ∷ []) s (at + 1) p k)
  where
    low : at + 1 ≤ p
    low = (points-behind.within s (at + 1) p (omega arith) k).0

    go : Where (code ",") (code "d" ∷ []) s (at + 1) p → ⊥
    go (here e) = let x = low in let y = comma-read s (at + 1) (omega arith) (c (omega arith)) in let z : ◌≡◌ {A = ℕ} 0 1 = cc in omega arith
    go (later v e q r) =
        let x = low in
        let y = comma-read s (at + 1) (omega arith) (c (omega arith)) in
        let z : e ≡ at + 1 + 1 = ok_second (sym q ∙ y) in
        let w = points-data.within s e p (omega arith) r in
        omega arith

word-firm-row : (s m : List ℕ) (at p : ℕ) → at ≤ length s → Faulty (fields_from word s at) p → p < length s → Faulty (fields_from word (s ++ m) at) p
word-firm-row s m at p h k l = go (below s at)
  where
    by : (stop_of (under_at s at) < length s → under_at (s ++ m) at ≡ under_at s at) → Faulty (fields_from word (s ++ m) at) p
    by f =
        firm-within (code "h") behind (code "," ∷ quotes) points-behind s m at p (rw (is-under s at) (under-sits s at h))
        (λ i. is-under (s ++ m) at ∙ f (rw (is-under s at) at i) ∙ sym (is-under s at))
        k
        l

    go : Below s at → Faulty (fields_from word (s ++ m) at) p
    go (letter v i f) = let n = now-word s at v f in by (λ j. f m ∙ word-firm s at v (at + 1) m (omega arith) (rw n at j) ∙ sym n)
    go (place v i f) = by (λ j. f m ∙ sym (now s at (Ok (v, at + 3)) f))
    go (none i f) = by (λ j. f m ∙ sym (now s at (Err at) f))
    go (absent i e) = by (λ j. absurd (let z = rw e at j in omega arith))
    go (cut v i e f) = by (λ j. absurd (let z = rw e at j in omega arith))
    go (begun i j c f) = absurd (find (where-of (code "h") behind s at p k))
      where
        find : Where (code "h") behind s at p → ⊥
        find (here e) = let y = sym (is-under s at) ∙ e in let x = begun-now s at i j c f in let z : ◌≡◌ {A = ℕ} 0 1 = cc in omega arith
        find (later v e q r) =
            let y = sym (is-under s at) ∙ q in
            let x = begun-now s at i j c f in
            let z : e ≡ at + 1 = ok_second (sym y ∙ x) in
            begun-fault s at p i j c (rw z at r) l

-- the fillers behind s
word_blank : (s : List ℕ) → Good (fields_from word (s ++ (code "N" ∷ (code "," ∷ quotes))) (length s))
word_blank s =
    filled (code "h") behind (code "," ∷ quotes) points-behind s (code "N" ∷ []) (length s) (code "N")
    (is-under t (length s) ∙ under-nothing t (length s) (get_or-append_seam s (code "N") (code "," ∷ quotes) 0)
    ∙ word-behind (code "N" ∷ []) s (code "," ∷ quotes) (length s) (code "N") (length s + 1) refl (comma quotes))
  where
    t : List ℕ
    t = s ++ (code "N" ∷ (code "," ∷ quotes))

module _ (s : List ℕ) (at : ℕ) where
  -- the word ends with the line
  word-ends : (v e : ℕ) → length s ≡ e → under_at (s ++ (code "," ∷ quotes)) at ≡ Ok (v, e) → Finished word s at
  word-ends v e n q =
      let t : List ℕ = s ++ (code "," ∷ quotes) in
      record { more = code "," ∷ quotes; whole = good-later (code "h") behind t at v e (is-under t at ∙ q) (rw (← n) (points-behind.fills s)) }

  -- the line is at a `B`, or at the comma behind it
  begun-soon : at < length s → length s ≤ at + 2 → (length s ≡ at + 2 → get_or s (at + 1) 0 ≡ code ",")
      → ((m : List ℕ) → is_place (get_or (s ++ m) (at + 2) 0) ≡ false → under_at (s ++ m) at ≡ word_to (s ++ m) at (code "B") (at + 1))
      → Finished word s at
  begun-soon l i c f = go (dec_lt (at + 1) (length s))
    where
      go : Dec (at + 1 < length s) → Finished word s at
      go (yes k) =
          let n : length s ≡ at + 2 = omega arith in
          let t : List ℕ = s ++ quotes in
          let a : is_place (get_or t (at + 2) 0) ≡ false = rw (← n, get_or-append_seam s (code "\"") (code "\"" ∷ []) 0) refl in
          let b : get_or t (at + 1) 0 ≡ code "," = get_or-append s quotes 0 (at + 1) k ∙ c n in
          let j : at + 1 < length t = simp length-append (omega arith) in
          let d : under_at t at ≡ Ok (code "B", at + 1) = f quotes a ∙ rw (lt-leb (length t) (at + 1) j, b) in
          let e : at + 1 + 1 ≡ length s = omega arith in
          let g = good-later (code ",") (code "d" ∷ []) t (at + 1) (code ",") (at + 1 + 1) (comma-read t (at + 1) j b) (rw e (points-data.fills s)) in
          record { more = quotes; whole = good-later (code "h") behind t at (code "B") (at + 1) (is-under t at ∙ d) g }
      go (no k) =
          let n : length s ≡ at + 1 = omega arith in
          let m : at + 2 ≡ length s + 1 = omega arith in
          let a : is_place (get_or (s ++ (code "," ∷ quotes)) (at + 2) 0) ≡ false = rw (m, get_or-append-add s (code "," ∷ quotes) 1 0) refl in
          word-ends (code "B") (at + 1) n (f (code "," ∷ quotes) a ∙ word-ended s (code "," ∷ quotes) at (code "B") (at + 1) n (comma quotes))

  word-soon : at ≤ length s → Faulty (fields_from word s at) (length s) → Finished word s at
  word-soon h k = go (below s at) (where-of (code "h") behind s at (length s) k)
    where
      kept : (v e : ℕ) → e ≤ length s → Faulty (fields_from behind s e) (length s) → ((m : List ℕ) → under_at (s ++ m) at ≡ Ok (v, e)) → Finished word s at
      kept v e i r f = go_on (code "h") behind (code "," ∷ quotes) points-behind s at v e i r (λ m. is-under (s ++ m) at ∙ f m)

      end : (v : ℕ) → at < length s → ((m : List ℕ) → under_at (s ++ m) at ≡ word_to (s ++ m) at v (at + 1)) → under_at s at ≡ Ok (v, at + 1)
          → Faulty (fields_from behind s (at + 1)) (length s) → Dec (at + 1 < length s) → Finished word s at
      end v l f q r (yes j) =
          let n = now-word s at v f in
          kept v (at + 1) (omega arith) r (λ m. f m ∙ word-firm s at v (at + 1) m (omega arith) (rw (sym n ∙ q) j) ∙ sym n ∙ q)
      end v l f q r (no j) =
          let n : length s ≡ at + 1 = omega arith in
          word-ends v (at + 1) n (f (code "," ∷ quotes) ∙ word-ended s (code "," ∷ quotes) at v (at + 1) n (comma quotes))

      go : Below s at → Where (code "h") behind s at (length s) → Finished word s at
      go (letter v l f) (here e) = absurd (let z = word-not s at v (at + 1) (length s) (sym (now-word s at v f) ∙ sym (is-under s at) ∙ e) in omega arith)
      go (letter v l f) (later u e q r) =
          let y = sym (is-under s at) ∙ q in
          let z = word-is s at v (at + 1) u e (sym (now-word s at v f) ∙ y) in
          end v l f (y ∙ rw (z.0, z.1)) (rw z.1 at r) (dec_lt (at + 1) (length s))
      go (place v l f) (here e) = absurd (let y = sym (is-under s at) ∙ e in let x = now s at (Ok (v, at + 3)) f in let z : ◌≡◌ {A = ℕ} 0 1 = cc in omega arith)
      go (place v l f) (later u e q r) =
          let y = sym (is-under s at) ∙ q in
          let x = now s at (Ok (v, at + 3)) f in
          let z : e ≡ at + 3 = ok_second (sym y ∙ x) in
          kept v (at + 3) (omega arith) (rw z at r) f
      go (none l f) (here e) = absurd (let y = sym (is-under s at) ∙ e in let x = now s at (Err at) f in let z : at ≡ length s = cc in omega arith)
      go (none l f) (later u e q r) = absurd (let y = sym (is-under s at) ∙ q in let x = now s at (Err at) f in let z : ◌≡◌ {A = ℕ} 0 1 = cc in omega arith)
      go (absent l x) (here e) = let z : at ≡ length s = omega arith in record { more = code "N" ∷ (code "," ∷ quotes); whole = rw z (word_blank s) }
      go (absent l x) (later u e q r) = absurd (let y = sym (is-under s at) ∙ q in let z : ◌≡◌ {A = ℕ} 0 1 = cc in omega arith)
      go (cut v l x f) w = word-ends v (at + 3) l (f quotes)
      go (begun l i c f) w = begun-soon l i c f

-- what stands under bars points rightly, with data behind it
pub points-word : Points word (code "N" ∷ (code "," ∷ quotes))
points-word =
    record {
      within = λ s at p h k. sits-within (code "h") behind (code "," ∷ quotes) points-behind s at p (rw (is-under s at) (under-sits s at h)) k;
      firm = word-firm-row;
      fills = word_blank;
      soon = word-soon;
    }
