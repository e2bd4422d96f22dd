-- Quoted texts and single bytes in a line to which more is added.
use Rattle.std.specs.Prelude.{Ok, Err, Result}
use mathlib.Core.Path.{◌≡◌, ◌∙◌, refl, sym}
use mathlib.Core.Bool.{Bool, true, false, cond, ◌&&◌, and-false}
use mathlib.Core.List.{List, [], ◌∷◌, ◌++◌}
use Prim.Native.Nat.{ℕ, ◌+◌, ◌-◌, ◌≤◌, ◌<◌}
use Prim.Native.Char.{code}
use native.Mathlib.Omega.{arith}
use native.Mathlib.Decide.{ℕ_discrete, dec_lt}
use lib.Dec.{ltb, eqb}
use lib.ListN.{length, get_or, length-append, get_or-append}
use lib.Seq.{drop-append-add, get_or-append_seam, get_or-append-add}
use borrow.Author.Tests.{lt-ltb, le-ltb, lt-leb, eq-eqb}
use Rattle.kinds.specs.Bytes.{between}
use Rattle.classes.specs.Bytes.{in_class, run, run_at}
use Rattle.classes.specs.declared.Class.TheVariants.{Quoted}
use Rattle.classes.proofs.Laws.{inside}
use Rattle.fields.specs.Field.{stop_of, text_at, byte_at}
use Rattle.fields.proofs.Laws.{text-open, text-short, text-close, text-is}
use Rattle.pointing.proofs.Runs.{over, stays, room, longer}
use Rattle.pointing.proofs.Pieces.{Sits, Rest, Piece, Full}

-- ---- quoted texts

-- the place where a text that starts at a place would end
abbrev close : List ℕ → ℕ → ℕ
close s at = at + 1 + run_at Quoted s (at + 1)

-- what a text comes to: no quote opens it, the line ends within it, or another byte ends it before the line does
data Quotes (s : List ℕ) (at : ℕ) : Type 0 where
  unopened : (get_or s at 0 ≡ code "\"" → ⊥) → text_at s at ≡ Err at → Quotes s at
  cut : at < length s → get_or s at 0 ≡ code "\"" → close s at ≡ length s → text_at s at ≡ Err (length s) → Quotes s at
  bad : at < length s → get_or s at 0 ≡ code "\"" → close s at < length s → text_at s at ≡ Err at → Quotes s at
  whole : at < length s → get_or s at 0 ≡ code "\"" → close s at < length s
      → text_at s at ≡ Ok (close s at - (at + 1), close s at + 1) → Quotes s at

quotes : (s : List ℕ) (at : ℕ) → Quotes s at
quotes s at = go (ℕ_discrete (get_or s at 0) (code "\""))
  where
    more : at < length s → get_or s at 0 ≡ code "\"" → Dec (close s at < length s) → Dec (get_or s (close s at) 0 ≡ code "\"") → Quotes s at
    more l o (yes k) (yes e) = whole l o k (text-is s at (close s at) refl o e)
    more l o (yes k) (no e) = bad l o k (text-close s at (close s at) refl o k e)
    more l o (no k) d = let r = room Quoted s (at + 1) (omega arith) in cut l o (omega arith) (text-short s at (close s at) refl o (omega arith))

    go : Dec (get_or s at 0 ≡ code "\"") → Quotes s at
    go (yes o) = more (inside s at (omega arith)) o (dec_lt (close s at) (length s)) (ℕ_discrete (get_or s (close s at) 0) (code "\""))
    go (no o) = unopened o (text-open s at o)

-- a text ends within the line, and so does its fault
pub text-sits : (s : List ℕ) (at : ℕ) → at ≤ length s → Sits s at (text_at s at)
text-sits s at h = go (quotes s at)
  where
    go : Quotes s at → Sits s at (text_at s at)
    go (unopened o e) = rw e (omega arith, h)
    go (cut l o k e) = rw e (h, omega arith)
    go (bad l o k e) = rw e (omega arith, h)
    go (whole l o k e) = rw e (omega arith, omega arith)

text_same : (s m : List ℕ) (at : ℕ) → at < length s → close s at < length s → text_at (s ++ m) at ≡ text_at s at
unfolding text_at
text_same s m at h k =
    rw (stays Quoted s (at + 1) (omega arith) m k, get_or-append s m 0 at h, get_or-append s m 0 (close s at) k, lt-leb (length s) (close s at) k, lt-leb (length (s ++ m)) (close s at) (longer s m (close s at) k), and-false)

-- a text that ends before the line does stays, and so does one that goes wrong there
pub text-firm : (s m : List ℕ) (at : ℕ) → at ≤ length s → stop_of (text_at s at) < length s → text_at (s ++ m) at ≡ text_at s at
text-firm s m at h k = go (quotes s at)
  where
    go : Quotes s at → text_at (s ++ m) at ≡ text_at s at
    go (unopened o e) =
        let l : at < length s = rw e at k in
        text-open (s ++ m) at (λ q. o (sym (get_or-append s m 0 at l) ∙ q)) ∙ sym e
    go (cut l o n e) = absurd (let z : length s < length s = rw e at k in omega arith)
    go (bad l o n e) = text_same s m at l n
    go (whole l o n e) = text_same s m at l n

-- a text is whole whatever follows
text-ends : (s m : List ℕ) (at v e : ℕ) → text_at s at ≡ Ok (v, e) → text_at (s ++ m) at ≡ Ok (v, e)
text-ends s m at v e h = go (quotes s at)
  where
    go : Quotes s at → text_at (s ++ m) at ≡ Ok (v, e)
    go (unopened o k) = absurd (let z : ◌≡◌ {A = ℕ} 0 1 = cc in omega arith)
    go (cut l o n k) = absurd (let z : ◌≡◌ {A = ℕ} 0 1 = cc in omega arith)
    go (bad l o n k) = text_same s m at l n ∙ h
    go (whole l o n k) = text_same s m at l n ∙ h

quote-closes : in_class Quoted (code "\"") ≡ false
unfolding between
quote-closes = refl

-- two quotes behind s are a text
pub text-empty : (s m : List ℕ) → text_at (s ++ (code "\"" ∷ (code "\"" ∷ m))) (length s) ≡ Ok (0, length s + 2)
text-empty s m =
    let t : List ℕ = s ++ (code "\"" ∷ (code "\"" ∷ m)) in
    let n : run_at Quoted t (length s + 1) ≡ 0 = rw (drop-append-add s (code "\"" ∷ (code "\"" ∷ m)) 1) (unfold run in rw quote-closes) in
    let a : length s + 1 ≡ length s + 1 + run_at Quoted t (length s + 1) = omega arith in
    let b : length s + 1 - (length s + 1) ≡ 0 = omega arith in
    let c : length s + 1 + 1 ≡ length s + 2 = omega arith in
    text-is t (length s) (length s + 1) a (get_or-append_seam s (code "\"") (code "\"" ∷ m) 0) (get_or-append-add s (code "\"" ∷ (code "\"" ∷ m)) 1 0) ∙ rw (b, c)

-- a text that the line cuts off is whole with a quote
pub text-rest : (s : List ℕ) (at : ℕ) → at < length s → text_at s at ≡ Err (length s) → Rest text_at s at
text-rest s at h e = go (quotes s at)
  where
    closed : get_or s at 0 ≡ code "\"" → close s at ≡ length s → (m : List ℕ) → text_at (s ++ (code "\"" ∷ m)) at ≡ Ok (length s - (at + 1), length s + 1)
    closed o k m =
        let n : length s ≡ at + 1 + run_at Quoted (s ++ (code "\"" ∷ m)) (at + 1) =
        rw (over Quoted s (at + 1) (omega arith) (code "\"") m quote-closes) (sym k) in
        text-is (s ++ (code "\"" ∷ m)) at (length s) n (get_or-append s (code "\"" ∷ m) 0 at h ∙ o) (get_or-append_seam s (code "\"") m 0)

    go : Quotes s at → Rest text_at s at
    go (unopened o k) = absurd (let z : at ≡ length s = cc in omega arith)
    go (cut l o n k) = record { tail = code "\"" ∷ []; value = length s - (at + 1); whole = λ m x. closed o n m }
    go (bad l o n k) = absurd (let z : at ≡ length s = cc in omega arith)
    go (whole l o n k) = absurd (let z : ◌≡◌ {A = ℕ} 0 1 = cc in omega arith)

-- a text is a field that a comma ends
pub text-full : Full text_at
text-full =
    record {
      piece = record { sits = text-sits; firm = text-firm };
      ends = λ s m at v h e. text-ends s (code "," ∷ m) at v (length s) e;
      blank = code "\"" ∷ (code "\"" ∷ []);
      value = 0;
      empty = λ s m x. text-empty s m;
      rest = text-rest;
    }

-- ---- single bytes
module _ (b : ℕ) where
  -- within the line the byte decides
  pub byte-here : (t : List ℕ) (at : ℕ) → at < length t → byte_at b t at ≡ cond (eqb (get_or t at 0) b) (Ok (b, at + 1)) (Err at)
  unfolding byte_at
  byte-here t at h = rw (lt-ltb at (length t) h)

  byte_past : (t : List ℕ) (at : ℕ) → length t ≤ at → byte_at b t at ≡ Err at
  unfolding byte_at
  byte_past t at h = rw (le-ltb at (length t) h)

  -- a byte ends within the line
  pub byte-sits : (s : List ℕ) (at : ℕ) → at ≤ length s → Sits s at (byte_at b s at)
  byte-sits s at h = go (dec_lt at (length s))
    where
      pick : at < length s → (t : Bool) → Sits s at (cond t (Ok (b, at + 1)) (Err at))
      pick l true = (omega arith, omega arith)
      pick l false = (omega arith, h)

      go : Dec (at < length s) → Sits s at (byte_at b s at)
      go (yes l) = rw (byte-here s at l) (pick l (eqb (get_or s at 0) b))
      go (no l) = rw (byte_past s at (omega arith)) (omega arith, h)

  -- within the line it stays
  pub byte-stays : (s m : List ℕ) (at : ℕ) → at < length s → byte_at b (s ++ m) at ≡ byte_at b s at
  byte-stays s m at h = rw (byte-here (s ++ m) at (longer s m at h), byte-here s at h, get_or-append s m 0 at h)

  byte-firm : (s m : List ℕ) (at : ℕ) → at ≤ length s → stop_of (byte_at b s at) < length s → byte_at b (s ++ m) at ≡ byte_at b s at
  byte-firm s m at h k = go (dec_lt at (length s))
    where
      go : Dec (at < length s) → byte_at b (s ++ m) at ≡ byte_at b s at
      go (yes l) = byte-stays s m at l
      go (no l) = absurd (let z = rw (byte_past s at (omega arith)) at k in omega arith)

  -- the byte behind s is there
  pub byte_one : (s m : List ℕ) → byte_at b (s ++ (b ∷ m)) (length s) ≡ Ok (b, length s + 1)
  byte_one s m =
      let l : length s < length (s ++ (b ∷ m)) = simp length-append (omega arith) in
      rw (byte-here (s ++ (b ∷ m)) (length s) l, get_or-append_seam s b m 0, eq-eqb b b refl)

  -- where another byte stands it is at fault
  pub byte-not : (s : List ℕ) (at p : ℕ) → byte_at b s at ≡ Err p → p ≡ at
  unfolding byte_at
  byte-not s at p h = go (ltb at (length s) && eqb (get_or s at 0) b) h
    where
      go : (t : Bool) → cond {A = Result (ℕ × ℕ) ℕ} t (Ok (b, at + 1)) (Err at) ≡ Err p → p ≡ at
      go true k = absurd (let z : ◌≡◌ {A = ℕ} 0 1 = cc in omega arith)
      go false k = cc

  -- what stops before the line ends stops there whatever follows
  pub byte-piece : Piece (byte_at b)
  byte-piece = record { sits = byte-sits; firm = byte-firm }
