-- Data, element by element, in a line to which more is added.
use Rattle.std.specs.Prelude.{Result, Ok, Err}
use mathlib.Core.Path.{◌≡◌, ◌∙◌, refl, sym, ap}
use mathlib.Core.List.{List, [], ◌∷◌, ◌++◌}
use Prim.Native.Nat.{ℕ, zero, suc, ◌+◌, ◌≤◌, ◌<◌}
use Prim.Native.Char.{code}
use native.Mathlib.Omega.{arith}
use native.Mathlib.Decide.{dec_lt}
use lib.ListN.{length, length-append}
use lib.Seq.{get_or-append_seam}
use Rattle.fields.specs.Field.{stop_of}
use Rattle.elements.specs.Elements.{element_at, elements, after}
use Rattle.elements.specs.declared.What.TheVariants.{Text}
use Rattle.elements.specs.declared.Element.{Element}
use Rattle.elements.proofs.Steps.{Took, element-took, element-past}
use Rattle.data_field.specs.Data.{total, data_at}
use Rattle.data_field.proofs.Steps.{total-next, data-stop, data-end, data-past}
use Rattle.pointing.proofs.Runs.{longer}
use Rattle.pointing.proofs.Pieces.{Sits, LastRest, Last}
use Rattle.pointing.proofs.Texts.{text-empty}
use Rattle.pointing.proofs.Elements.{step_stop, element-text, element-steps}

-- elements side by side from a place to another
data Walk (s : List ℕ) : ℕ → ℕ → Type 0 where
  here : {i : ℕ} → Walk s i i
  on : {at i : ℕ} (e : Element) → element_at s at ≡ Ok e → Walk s (after e) i → Walk s at i

-- as far as they go
record Halt (s : List ℕ) (at : ℕ) : Type 0 where
  place : ℕ
  fault : ℕ
  walk : Walk s at place
  stop : element_at s place ≡ Err fault

halt : (n : ℕ) (s : List ℕ) (at : ℕ) → length s ≤ n + at → Halt s at
halt zero s at h = record { place = at; fault = at; walk = here; stop = element-past s at (omega arith) }
halt (suc n) s at h = go (element_at s at) refl (element-took s at) (λ i k. halt n s i k)
  where
    go : (x : Result Element ℕ) → element_at s at ≡ x → Took s at x → ((i : ℕ) → length s ≤ n + i → Halt s i) → Halt s at
    go (Ok e) q t r = let x = r (after e) (omega arith) in record { place = x.place; fault = x.fault; walk = on e q x.walk; stop = x.stop }
    go (Err p) q t r = record { place = at; fault = p; walk = here; stop = q }

walk-total : {s : List ℕ} {at i : ℕ} → Walk s at i → at + total (elements s at) ≡ i + total (elements s i)
walk-total here = refl
walk-total {s} {at} (on e h w) = total-next s at e h ∙ walk-total w

took : (s : List ℕ) (at : ℕ) (e : Element) → element_at s at ≡ Ok e → Took s at (Ok e)
took s at e h = rw h at (element-took s at)

walk-low : {s : List ℕ} {at i : ℕ} → Walk s at i → at ≤ i
walk-low here = omega arith
walk-low {s} {at} (on e h w) = let t = took s at e h in let r = walk-low w in omega arith

walk-high : {s : List ℕ} {at i : ℕ} → at ≤ length s → Walk s at i → i ≤ length s
walk-high l here = l
walk-high {s} {at} l (on e h w) = walk-high (took s at e h).2 w

walk-firm : {s : List ℕ} {at i : ℕ} (m : List ℕ) → i < length s → Walk s at i → Walk (s ++ m) at i
walk-firm m l here = here
walk-firm {s} {at} m l (on e h w) =
    let t = took s at e h in
    let r = walk-low w in
    let k : step_stop (element_at s at) < length s = rw h (omega arith) in
    on e ((element-steps s at (omega arith)).firm m k ∙ h) (walk-firm m l w)

-- data in a line: to its end, up to a piece that is no element, or not there
data Elements (s : List ℕ) (at : ℕ) : Type 0 where
  all : at < length s → data_at s at ≡ Ok (0, length s) → Elements s at
  some : (i p : ℕ) → Walk s at i → i < length s → element_at s i ≡ Err p → data_at s at ≡ Err p → Elements s at
  none : length s ≤ at → data_at s at ≡ Err at → Elements s at

elements-of : (s : List ℕ) (at : ℕ) → Elements s at
elements-of s at = go (dec_lt at (length s))
  where
    more : at < length s → (x : Halt s at) → Dec (x.place < length s) → Elements s at
    more l x (yes k) = some x.place x.fault x.walk k x.stop (data-stop s x.place at x.fault (walk-total x.walk) k x.stop)
    more l x (no k) =
        let i = walk-high (let z : at ≤ length s = omega arith in z) x.walk in
        let e : x.place ≡ length s = omega arith in
        all l (data-end s x.place at (walk-total x.walk) l e ∙ ap (λ e. Ok (0, e)) e)

    go : Dec (at < length s) → Elements s at
    go (yes l) = let x = halt (length s) s at (omega arith) in more l x (dec_lt x.place (length s))
    go (no l) = none (omega arith) (data-past s at (omega arith))

data-sits : (s : List ℕ) (at : ℕ) → at ≤ length s → Sits s at (data_at s at)
data-sits s at h = go (elements-of s at)
  where
    go : Elements s at → Sits s at (data_at s at)
    go (all l e) = rw e (l, omega arith)
    go (some i p w l q e) =
        let x = element-steps s i l in
        let a : i ≤ p = rw q at x.low in
        let b : p ≤ length s = rw q at x.high in
        let c = walk-low w in
        rw e (omega arith, b)
    go (none l e) = rw e (omega arith, h)

data-firm : (s m : List ℕ) (at : ℕ) → at ≤ length s → stop_of (data_at s at) < length s → data_at (s ++ m) at ≡ data_at s at
data-firm s m at h k = go (elements-of s at)
  where
    go : Elements s at → data_at (s ++ m) at ≡ data_at s at
    go (all l e) = absurd (let z : length s < length s = rw e at k in omega arith)
    go (some i p w l q e) =
        let j : p < length s = rw e at k in
        let f = (element-steps s i l).firm m (rw q j) ∙ q in
        data-stop (s ++ m) i at p (walk-total (walk-firm m l w)) (longer s m i l) f ∙ sym e
    go (none l e) = absurd (let z : at < length s = rw e at k in omega arith)

-- an element that ends with the line, behind others
ended : (s : List ℕ) (at i : ℕ) (e : Element) → at < length s → Walk s at i → element_at s i ≡ Ok e → after e ≡ length s → data_at s at ≡ Ok (0, length s)
ended s at i e l w h k = data-end s (after e) at (walk-total w ∙ total-next s i e h) l k ∙ ap (λ e. Ok (0, e)) k

-- an empty text
abbrev pub quotes : List ℕ
quotes = code "\"" ∷ (code "\"" ∷ [])

-- as data behind s
data-empty : (s : List ℕ) → data_at (s ++ quotes) (length s) ≡ Ok (0, length s + 2)
data-empty s =
    let t : List ℕ = s ++ quotes in
    let n : length t ≡ length s + 2 = simp length-append in
    let x : Element = record { what = Text; at = length s; length = 2 } in
    let h : element_at t (length s) ≡ Ok x = element-text t (length s) (get_or-append_seam s (code "\"") (code "\"" ∷ []) 0) ∙ rw (text-empty s []) in
    ended t (length s) (length s) x (omega arith) here h (sym n) ∙ ap (λ e. Ok (0, e)) n

-- data that the line cuts off can be made whole
data-rest : (s : List ℕ) (at : ℕ) → at ≤ length s → data_at s at ≡ Err (length s) → LastRest data_at s at
data-rest s at h k = go (elements-of s at)
  where
    go : Elements s at → LastRest data_at s at
    go (all l e) = absurd (let z : ◌≡◌ {A = ℕ} 0 1 = cc in omega arith)
    go (some i p w l q e) =
        let j : p ≡ length s = cc in
        let r = (element-steps s i l).rest (rw j at q) in
        let n : after r.element ≡ length (s ++ r.tail) = simp length-append r.ends in
        let c = walk-low w in
        record { tail = r.tail; value = 0; whole = ended (s ++ r.tail) at i r.element (longer s r.tail at (omega arith)) (walk-firm r.tail l w) r.whole n }
    go (none l e) =
        let j : at ≡ length s = omega arith in
        let n : length (s ++ quotes) ≡ length s + 2 = simp length-append in
        record { tail = quotes; value = 0; whole = rw j (data-empty s ∙ ap (λ e. Ok (0, e)) (sym n)) }

-- what is asked of a field that runs to the end of its line holds of data
pub data-last : Last data_at quotes
data-last = record { piece = record { sits = data-sits; firm = data-firm }; value = 0; empty = data-empty; rest = data-rest }
