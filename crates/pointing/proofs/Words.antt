-- Words in a line to which more is added, and the fields of one letter.
use Rattle.std.specs.Prelude.{Ok, Err, Result}
use mathlib.Core.Path.{◌≡◌, ◌∙◌, refl, sym}
use mathlib.Core.Bool.{Bool, true, false, cond}
use mathlib.Core.List.{List, [], ◌∷◌, ◌++◌, append_assoc, append-nil}
use Prim.Native.Nat.{ℕ, ◌+◌, ◌≤◌, ◌<◌}
use Prim.Native.Char.{code}
use native.Mathlib.Omega.{arith}
use native.Mathlib.Decide.{dec_lt}
use lib.ListN.{length, get_or, length-append, get_or-append}
use lib.Seq.{get_or-append_seam}
use borrow.Author.Tests.{lt-ltb, le-ltb, le-leb, lt-leb}
use Rattle.classes.specs.Bytes.{in_class}
use Rattle.classes.specs.declared.Class.{Class}
use Rattle.classes.specs.declared.Class.TheVariants.{Mode, Side}
use Rattle.fields.specs.Field.{stop_of, word_ends, word_to, letter_at}
use Rattle.fields.proofs.Pairs.{ok_first, ok_second}
use Rattle.pointing.proofs.Runs.{longer}
use Rattle.pointing.proofs.Pieces.{Reading, Sits, Ended, nothing, comma, Rest, Full}

-- ---- a word from a place to another
module _ (s : List ℕ) (at v e : ℕ) where
  -- a word ends within the line, and so does its fault
  pub word-sits : at < e → e ≤ length s → Sits s at (word_to s at v e)
  word-sits h k = go (word_ends s e)
    where
      go : (t : Bool) → Sits s at (cond t (Ok (v, e)) (Err at))
      go true = (h, k)
      go false = (omega arith, omega arith)

  -- a word that ends before the line does stays, and so does another word
  pub word-firm : (m : List ℕ) → e ≤ length s → stop_of (word_to s at v e) < length s → word_to (s ++ m) at v e ≡ word_to s at v e
  word-firm m h k = go (dec_lt e (length s))
    where
      go : Dec (e < length s) → word_to (s ++ m) at v e ≡ word_to s at v e
      go (yes l) = rw (lt-leb (length s) e l, lt-leb (length (s ++ m)) e (longer s m e l), get_or-append s m 0 e l)
      go (no l) = absurd (let z = rw (le-leb (length s) e (omega arith)) at k in omega arith)

  -- a word's own end, or its place
  pub word-is : (u d : ℕ) → word_to s at v e ≡ Ok (u, d) → (u ≡ v) × (d ≡ e)
  word-is u d h = go (word_ends s e) h
    where
      go : (t : Bool) → cond {A = Result (ℕ × ℕ) ℕ} t (Ok (v, e)) (Err at) ≡ Ok (u, d) → (u ≡ v) × (d ≡ e)
      go true k = (sym (ok_first k), sym (ok_second k))
      go false k = absurd (let z : ◌≡◌ {A = ℕ} 0 1 = cc in omega arith)

  -- where another word stands its first byte is at fault
  pub word-not : (p : ℕ) → word_to s at v e ≡ Err p → p ≡ at
  word-not p h = go (word_ends s e) h
    where
      go : (t : Bool) → cond {A = Result (ℕ × ℕ) ℕ} t (Ok (v, e)) (Err at) ≡ Err p → p ≡ at
      go true k = absurd (let z : ◌≡◌ {A = ℕ} 0 1 = cc in omega arith)
      go false k = cc

-- a word ends at a comma, and at the end
pub word-ended : (s m : List ℕ) (at v e : ℕ) → length s ≡ e → Ended m → word_to (s ++ m) at v e ≡ Ok (v, e)
word-ended s m at v e h nothing = rw (append-nil s, le-leb (length s) e (omega arith))
word-ended s m at v e h (comma l) =
    let k : e < length (s ++ (code "," ∷ l)) = simp length-append (omega arith) in
    rw (lt-leb (length (s ++ (code "," ∷ l))) e k, ← h, get_or-append_seam s (code ",") l 0)

-- the bytes b behind s are the end of a word
pub word-behind : (b s m : List ℕ) (at v e : ℕ) → length s + length b ≡ e → Ended m → word_to (s ++ (b ++ m)) at v e ≡ Ok (v, e)
word-behind b s m at v e h x = rw (append_assoc s b m) at (word-ended (s ++ b) m at v e (length-append s b ∙ h) x)

-- ---- a field that is one of several words

-- what stands at a place: the word of v that ends at e, no word, both whatever follows the line; nothing; or a part of a word
pub data Seen (R : Reading) (s : List ℕ) (at : ℕ) : Type 0 where
  word : (v e : ℕ) → at < e → e ≤ length s → ((m : List ℕ) → R (s ++ m) at ≡ word_to (s ++ m) at v e) → Seen R s at
  none : at < length s → ((m : List ℕ) → R (s ++ m) at ≡ Err at) → Seen R s at
  absent : length s ≤ at → R s at ≡ Err at → Seen R s at
  cut : at < length s → R s at ≡ Err (length s) → Rest R s at → Seen R s at

module _ (R : Reading) (see : (s : List ℕ) (at : ℕ) → Seen R s at) where
  word-now : (s : List ℕ) (at v e : ℕ) → ((m : List ℕ) → R (s ++ m) at ≡ word_to (s ++ m) at v e) → R s at ≡ word_to s at v e
  word-now s at v e f = rw append-nil at (f [])

  none-now : (s : List ℕ) (at : ℕ) → ((m : List ℕ) → R (s ++ m) at ≡ Err at) → R s at ≡ Err at
  none-now s at f = rw append-nil at (f [])

  seen-sits : (s : List ℕ) (at : ℕ) → at ≤ length s → Sits s at (R s at)
  seen-sits s at h = go (see s at)
    where
      go : Seen R s at → Sits s at (R s at)
      go (word v e a b f) = rw (word-now s at v e f) (word-sits s at v e a b)
      go (none l f) = rw (none-now s at f) (omega arith, h)
      go (absent l e) = rw e (omega arith, h)
      go (cut l e r) = rw e (h, omega arith)

  seen-firm : (s m : List ℕ) (at : ℕ) → at ≤ length s → stop_of (R s at) < length s → R (s ++ m) at ≡ R s at
  seen-firm s m at h k = go (see s at)
    where
      go : Seen R s at → R (s ++ m) at ≡ R s at
      go (word v e a b f) = let n = word-now s at v e f in f m ∙ word-firm s at v e m b (rw n at k) ∙ sym n
      go (none l f) = f m ∙ sym (none-now s at f)
      go (absent l e) = absurd (let z = rw e at k in omega arith)
      go (cut l e r) = absurd (let z = rw e at k in omega arith)

  seen-ends : (s m : List ℕ) (at v : ℕ) → at ≤ length s → R s at ≡ Ok (v, length s) → R (s ++ (code "," ∷ m)) at ≡ Ok (v, length s)
  seen-ends s m at v h e = go (see s at)
    where
      go : Seen R s at → R (s ++ (code "," ∷ m)) at ≡ Ok (v, length s)
      go (word u d a b f) =
          let z = word-is s at u d v (length s) (sym (word-now s at u d f) ∙ e) in
          f (code "," ∷ m) ∙ word-ended s (code "," ∷ m) at u d z.1 (comma m) ∙ rw (z.0, z.1)
      go (none l f) = absurd (let n = none-now s at f in let z : ◌≡◌ {A = ℕ} 0 1 = cc in omega arith)
      go (absent l n) = absurd (let z : ◌≡◌ {A = ℕ} 0 1 = cc in omega arith)
      go (cut l n r) = absurd (let z : ◌≡◌ {A = ℕ} 0 1 = cc in omega arith)

  seen-rest : (s : List ℕ) (at : ℕ) → at < length s → R s at ≡ Err (length s) → Rest R s at
  seen-rest s at h e = go (see s at)
    where
      go : Seen R s at → Rest R s at
      go (word v d a b f) = absurd (let z = word-not s at v d (length s) (sym (word-now s at v d f) ∙ e) in omega arith)
      go (none l f) = absurd (let n = none-now s at f in let z : at ≡ length s = cc in omega arith)
      go (absent l n) = absurd (omega arith)
      go (cut l n r) = r

  -- such a field is one that a comma ends
  pub seen-full : (b v : ℕ) → ((s m : List ℕ) → R (s ++ (b ∷ m)) (length s) ≡ word_to (s ++ (b ∷ m)) (length s) v (length s + 1)) → Full R
  seen-full b v f =
      record {
        piece = record { sits = seen-sits; firm = seen-firm };
        ends = seen-ends;
        blank = b ∷ [];
        value = v;
        empty = λ s m x. f s m ∙ word-behind (b ∷ []) s m (length s) v (length s + 1) refl x;
        rest = seen-rest;
      }

-- ---- one letter
module _ (k : Class) where
  letter-here : (t : List ℕ) (at : ℕ) → at < length t
      → letter_at k t at ≡ cond (in_class k (get_or t at 0)) (word_to t at (get_or t at 0) (at + 1)) (Err at)
  unfolding letter_at
  letter-here t at h = rw (lt-ltb at (length t) h)

  letter-past : (t : List ℕ) (at : ℕ) → length t ≤ at → letter_at k t at ≡ Err at
  unfolding letter_at
  letter-past t at h = rw (le-ltb at (length t) h)

  letter-seen : (s : List ℕ) (at : ℕ) → Seen (letter_at k) s at
  letter-seen s at = go (dec_lt at (length s))
    where
      kept : at < length s → (m : List ℕ) → letter_at k (s ++ m) at ≡ cond (in_class k (get_or s at 0)) (word_to (s ++ m) at (get_or s at 0) (at + 1)) (Err at)
      kept l m = letter-here (s ++ m) at (longer s m at l) ∙ rw (get_or-append s m 0 at l)

      pick : at < length s → (t : Bool) → in_class k (get_or s at 0) ≡ t → Seen (letter_at k) s at
      pick l true e = word (get_or s at 0) (at + 1) (omega arith) (omega arith) (λ m. kept l m ∙ rw e)
      pick l false e = none l (λ m. kept l m ∙ rw e)

      go : Dec (at < length s) → Seen (letter_at k) s at
      go (yes l) = pick l (in_class k (get_or s at 0)) refl
      go (no l) = absent (omega arith) (letter-past s at (omega arith))

  letter-full : (b : ℕ) → in_class k b ≡ true → Full (letter_at k)
  letter-full b h = seen-full (letter_at k) letter-seen b b first
    where
      first : (s m : List ℕ) → letter_at k (s ++ (b ∷ m)) (length s) ≡ word_to (s ++ (b ∷ m)) (length s) b (length s + 1)
      first s m =
          let l : length s < length (s ++ (b ∷ m)) = simp length-append (omega arith) in
          letter-here (s ++ (b ∷ m)) (length s) l ∙ rw (get_or-append_seam s b m 0, h)

-- a mode and a justification are fields that a comma ends
pub mode-full : Full (letter_at Mode)
mode-full = letter-full Mode (code "N") refl

pub side-full : Full (letter_at Side)
side-full = letter-full Side (code "L") refl
