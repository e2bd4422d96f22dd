-- Data laid out piece by piece is the assembled data.
use mathlib.Core.Path.{◌≡◌, refl, sym, ap, ◌∙◌}
use mathlib.Core.List.{List, [], ◌∷◌, ◌++◌}
use Prim.Native.Nat.{ℕ, ◌+◌, ◌-◌, ◌≤◌, min}
use native.Mathlib.Omega.{arith}
use native.Mathlib.Decide.{dec_le}
use lib.ListN.{length, take, drop, replicate, length-append, length-replicate}
use lib.Seq.{sets, sets-eq, length-sets, take_at}
use Rattle.calendar.specs.declared.Clock.{Clock}
use Rattle.formats.specs.declared.Format.{Format}
use Rattle.formats.specs.declared.Stamp.{Stamp}
use Rattle.stamps.specs.declared.Text.{Text}
use Rattle.stamps.specs.Texts.{stamp_text}
use Rattle.stamps.specs.Laying.{laid as laid_text}
use Rattle.stamps.proofs.Shown.{stamp-front}
use Rattle.elements.specs.declared.What.{What}
use Rattle.elements.specs.declared.Element.{Element}
use Rattle.ground.proofs.Stores.{sets-out, sets-append}
use Rattle.declarations.specs.declared.Declared.{Declared}
use Rattle.counters.specs.Counters.{digits, digits_of}
use Rattle.pieces.specs.Data.{Laid, Values, value_of, piece_of, piece_at, assembled, row, shown, lay}
use Rattle.counters.proofs.Tens.{length_digits}

-- ---- pieces

-- the piece of the value that an element names
pub value-shown : (line f : List ℕ) (e : Element) (d : Declared) (v : Values) (w : What) → e.what ≡ w → f ≡ value_of d v w → piece_of line f e ≡ piece_at line d v e
value-shown line f e d v w p q = ap (λ (x : List ℕ). piece_of line x e) (q ∙ ap (value_of d v) (sym p))

pub digits-front : (n w : ℕ) → w ≤ 9 → take w (digits_of n w) ≡ digits w n
unfolding digits_of
digits-front n w h =
    let e : min w 9 ≡ w = omega arith in
    let k : 0 + length (digits w n) ≤ length (replicate {A = ℕ} 9 0) = omega (arith, length_digits w n, length-replicate {A = ℕ} 9 0) in
    rw e (ap (take w) (sets-eq (digits w n) (replicate 9 0) 0 k) ∙ take_at (digits w n) (drop (0 + length (digits w n)) (replicate 9 0)) w (length_digits w n))

pub counter-shown : (g : List ℕ) (n w m x : ℕ) → g ≡ digits_of n w → w ≡ min x 9 → n ≡ m → take w g ≡ digits (min x 9) m
counter-shown g n w m x p q r = rw p (digits-front n w (omega arith) ∙ rw (q, r))

pub stamp-shown : (t : Text) (st : Stamp) (c : Clock) (f g : Format) → t ≡ laid_text (stamp_text st c f) → f ≡ g → take t.length t.bytes ≡ stamp_text st c g
stamp-shown t st c f g p q = rw (p, q) (stamp-front st c g)

-- ---- what is laid out

-- the pieces of all elements, one behind another
abbrev pub laid : List ℕ → Declared → Values → Laid → List Element → Laid
laid line d v l [] = l
laid line d v l (e ∷ es) = laid line d v (lay (piece_at line d v e) l) es

row_same : (a b : ℕ) (x y : List ℕ) → a ≡ b → x ≡ y → row a x ≡ row b y
row_same a b x y p q = cc

-- a piece cut at the row's end, and another behind it
sets_behind : (out : List ℕ) (n : ℕ) (t u : List ℕ) → sets (sets out n t) (n + min (length out - n) (length t)) u ≡ sets out n (t ++ u)
sets_behind out n t u = elim (dec_le (length t) (length out - n)) [
  | yes h ↦ let e : n + min (length out - n) (length t) ≡ n + length t = omega arith in rw e (sym (sets-append out n t u))
  | no h ↦ sets-out (sets out n t) (n + min (length out - n) (length t)) u (omega (arith, length-sets out n t))
      ∙ sym (sets-append out n t u ∙ sets-out (sets out n t) (n + length t) u (omega (arith, length-sets out n t)))
]

laid_from : (line : List ℕ) (d : Declared) (v : Values) (n : ℕ) (out : List ℕ) (es : List Element)
    → laid line d v (row n out) es ≡ lay (assembled line d v es) (row n out)
laid_from line d v n out [] = row_same n (n + min (length out - n) 0) out out (omega arith) refl
laid_from line d v n out (e ∷ es) =
    let t = piece_at line d v e in
    let u = assembled line d v es in
    laid_from line d v (n + min (length out - n) (length t)) (sets out n t) es
    ∙ row_same (n + min (length out - n) (length t) + min (length (sets out n t) - (n + min (length out - n) (length t))) (length u)) (n + min (length out - n) (length (t ++ u)))
    (sets (sets out n t) (n + min (length out - n) (length t)) u) (sets out n (t ++ u))
    (omega (arith, length-sets out n t, length-append t u)) (sets_behind out n t u)

pub laid-is : (line : List ℕ) (d : Declared) (v : Values) (out : List ℕ) (es : List Element) → laid line d v (row 0 out) es ≡ shown (assembled line d v es) out
laid-is line d v out es =
    let t = assembled line d v es in
    laid_from line d v 0 out es ∙ row_same (0 + min (length out - 0) (length t)) (min (length t) (length out)) (sets out 0 t) (sets out 0 t) (omega arith) refl

-- where the row has room, the data stands whole at its front
pub shown-whole : (bytes out : List ℕ) → length bytes ≤ length out → take (shown bytes out).next (shown bytes out).out ≡ bytes
shown-whole bytes out h =
    let e : min (length bytes) (length out) ≡ length bytes = omega arith in
    rw e (ap (take (length bytes)) (sets-eq bytes out 0 (omega arith)) ∙ take_at bytes (drop (0 + length bytes) out) (length bytes) refl)
