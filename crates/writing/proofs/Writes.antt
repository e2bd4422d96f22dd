-- Laws on what is written.
use mathlib.Core.Path.{◌≡◌, ◌∙◌, refl, sym, ap}
use mathlib.Core.Bool.{Bool, true, false, cond, ◌&&◌, and-false}
use mathlib.Core.List.{List, [], ◌∷◌, ◌++◌}
use Prim.Native.Nat.{ℕ, zero, suc, ◌+◌, ◌-◌, ◌*◌, ◌/◌, ◌%◌, ◌^◌, ◌≤◌, ◌<◌}
use native.Mathlib.Nat.{add-zero, pow-suc}
use native.Mathlib.Numerals.{add-one}
use native.Mathlib.Omega.{arith}
use native.Mathlib.Decide.{dec_lt}
use lib.Bits.{bit_or, or_add_and, and_le_l, and_le_r}
use lib.Dec.{eqb}
use lib.ListN.{length, get_or, set, take, drop, take-append-drop, length-append, length-set, length-take, drop_of_length-le}
use lib.Seq.{sets, sets-eq, length-sets, take-append_seam, take_all, drop-cons, drop-set-lt, get_or-set_same, take-suc, set_out}
use borrow.Author.Tests.{lt-ltb, le-ltb, ne_eqb}
use Rattle.parts.specs.Names.{capital}
use Rattle.writing.specs.Writing.{Wrote, digits, cased, equal}

-- ---- storing one list after another

sets-past : (ys o : List ℕ) (i : ℕ) → length o ≤ i → sets o i ys ≡ o
sets-past [] o i h = refl
sets-past (y ∷ ys) o i h = rw (set_out o i y h) (sets-past ys o (suc i) (omega arith))

sets-append : (xs ys out : List ℕ) (at : ℕ) → sets out at (xs ++ ys) ≡ sets (sets out at xs) (at + length xs) ys
sets-append [] ys out at = rw add-zero
sets-append (x ∷ xs) ys out at =
    let e : at + suc (length xs) ≡ suc at + length xs = omega arith in
    rw e (sets-append xs ys (set out at x) (suc at))

pub wrote_none : (out : List ℕ) (at : ℕ) → at ≤ length out → Wrote out at [] at out
wrote_none out at h = record { place = omega arith; stored = refl }

pub wrote-length : {out o xs : List ℕ} {at r : ℕ} → Wrote out at xs r o → length o ≡ length out
wrote-length {out} {o} {xs} {at} w = ap length w.stored ∙ length-sets out at xs

-- a place after what was written stands within the room
pub wrote-room : {out o xs : List ℕ} {at r : ℕ} → Wrote out at xs r o → r ≤ length o
wrote-room {out} {o} {xs} {at} {r} w = let l = wrote-length w in let p = w.place in omega arith

pub wrote_then : {out o o' xs ys : List ℕ} {at r r' : ℕ} → Wrote out at xs r o → Wrote o r ys r' o' → Wrote out at (xs ++ ys) r' o'
wrote_then {out} {o} {o'} {xs} {ys} {at} {r} {r'} w u =
    let l = wrote-length w in
    let n = length-append xs ys in
    let p = w.place in
    let q = u.place in
    record { place = omega arith; stored = u.stored ∙ go (dec_lt (length out) (at + length xs)) }
  where
    go : Dec (length out < at + length xs) → sets o r ys ≡ sets out at (xs ++ ys)
    go (no h) =
        let e : r ≡ at + length xs = (let p = w.place in omega arith) in
        rw (e, w.stored) (sym (sets-append xs ys out at))
    go (yes h) =
        let e : r ≡ length out = (let p = w.place in omega arith) in
        let l = length-sets out at xs in
        rw (e, w.stored, sets-append xs ys out at)
        (sets-past ys (sets out at xs) (length out) (omega arith) ∙ sym (sets-past ys (sets out at xs) (at + length xs) (omega arith)))

-- past the end nothing is stored
pub wrote-past : (xs out : List ℕ) (at : ℕ) → length out < at → Wrote out at xs (length out) out
wrote-past xs out at h = record { place = omega arith; stored = sym (sets-past xs out at (omega arith)) }

-- one byte at a place that is there
pub wrote-byte : (out : List ℕ) (at b : ℕ) → at < length out → Wrote out at (b ∷ []) (at + 1) (set out at b)
wrote-byte out at b h = record { place = omega arith; stored = refl }

-- where all room is taken nothing more is stored
pub wrote-full : {out o xs : List ℕ} {at r : ℕ} (ys : List ℕ) → Wrote out at xs r o → length out ≤ r → Wrote out at (xs ++ ys) r o
wrote-full {out} {o} {xs} {at} {r} ys w h =
    let l = wrote-length w in
    wrote_then w (record { place = (let p = w.place in omega arith); stored = sym (sets-past ys o r (omega arith)) })

pub wrote-same : {out o xs ys : List ℕ} {at r : ℕ} → Wrote out at xs r o → xs ≡ ys → Wrote out at ys r o
wrote-same w e = rw e at w

-- ---- bytes in capitals or as they are

pub cased-append : (t : Bool) (xs ys : List ℕ) → cased t (xs ++ ys) ≡ cased t xs ++ cased t ys
unfolding cased
cased-append t [] ys = refl
cased-append t (x ∷ xs) ys = ap (λ (l : List ℕ). cond t (capital x) x ∷ l) (cased-append t xs ys)

pub cased-more : (t : Bool) (l : List ℕ) (j : ℕ) → j < length l
    → cased t (take j l) ++ (cond t (capital (get_or l j 0)) (get_or l j 0) ∷ []) ≡ cased t (take (j + 1) l)
unfolding cased
cased-more t l j h =
    rw (add-one, take-suc l j 0 h) (sym (cased-append t (take j l) (get_or l j 0 ∷ [])))

-- bytes copied: one more, and until none is left or no room is
pub cased_next : (t : Bool) (l out o : List ℕ) (at j b : ℕ) → Wrote out at (cased t (take j l)) (at + j) o → j < length l → at + j < length out
    → b ≡ cond t (capital (get_or l j 0)) (get_or l j 0) → Wrote out at (cased t (take (j + 1) l)) (at + (j + 1)) (set o (at + j) b)
cased_next t l out o at j b w h k e =
    let n = wrote-length w in
    let p : at + j + 1 ≡ at + (j + 1) = omega arith in
    let s : cased t (take j l) ++ (b ∷ []) ≡ cased t (take (j + 1) l) =
    ap (λ (x : ℕ). cased t (take j l) ++ (x ∷ [])) e ∙ cased-more t l j h in
    rw p at (wrote-same (wrote_then w (wrote-byte o (at + j) b (omega arith))) s)

pub cased-all : (t : Bool) (l out o : List ℕ) (at j r : ℕ) → Wrote out at (cased t (take j l)) (at + j) o → r ≡ at + j → (j < length l → length out ≤ at + j)
    → Wrote out at (cased t l) r o
cased-all t l out o at j r w e h = rw e (go (dec_lt j (length l)))
  where
    go : Dec (j < length l) → Wrote out at (cased t l) (at + j) o
    go (no k) = wrote-same w (ap (cased t) (take_all j l (omega arith)))
    go (yes k) = wrote-same (wrote-full (cased t (drop j l)) w (h k)) (sym (cased-append t (take j l) (drop j l)) ∙ ap (cased t) (take-append-drop j l))

pub cased_kept : (l : List ℕ) → cased false l ≡ l
unfolding cased
cased_kept [] = refl
cased_kept (x ∷ xs) = ap (λ (l : List ℕ). x ∷ l) (cased_kept xs)

-- ---- the digits of a number

-- a digit in front of the others, in a row that is filled from its end
digit-front : (d : List ℕ) (k b : ℕ) → k < length d → drop k (set d k b) ≡ b ∷ drop (k + 1) d
digit-front d k b h =
    rw (add-one, drop-cons (set d k b) k 0 (rw length-set h), get_or-set_same d k b 0 h, drop-set-lt (suc k) d k b (omega arith))

-- the digits of a number of one digit, and of a larger one
pub digits_last : (k m : ℕ) (acc : List ℕ) → m < 10 → digits k m acc ≡ (48 + m) ∷ acc
unfolding digits
digits_last zero m acc h = refl
digits_last (suc k) m acc h = rw (lt-ltb m 10 h)

digits_more : (k m : ℕ) (acc : List ℕ) → 0 < k → 10 ≤ m → digits k m acc ≡ digits (k - 1) (m / 10) ((48 + m % 10) ∷ acc)
unfolding digits
digits_more zero m acc h l = absurd (omega arith)
digits_more (suc k) m acc h l = let e : suc k - 1 ≡ k = omega arith in rw (e, le-ltb m 10 l)

-- a number of two digits
pub digits-two : (k m : ℕ) → 0 < k → 10 ≤ m → m < 100 → digits k m [] ≡ (48 + m / 10) ∷ (48 + m % 10) ∷ []
digits-two k m h l u = digits_more k m [] h l ∙ digits_last (k - 1) (m / 10) ((48 + m % 10) ∷ []) (omega arith)

-- more digits than one leave room before the last
pub digits-room : (k m : ℕ) → m < 10 ^ (k + 1) → 10 ≤ m → 0 < k
digits-room zero m h l = absurd (omega (arith, h))
digits-room (suc k) m h l = omega arith

pub digits-less : (k m : ℕ) → 0 < k → m < 10 ^ (k + 1) → m / 10 < 10 ^ (k - 1 + 1)
digits-less k m l h =
    let e : k - 1 + 1 ≡ k = omega arith in
    let p : m < 10 ^ k * 10 = rw (add-one, pow-suc) at h in
    rw e (omega arith)

pub digits-turn : (d : List ℕ) (k m b : ℕ) → 0 < k → k < length d → 10 ≤ m → b ≡ 48 + m % 10
    → digits k m (drop (k + 1) d) ≡ digits (k - 1) (m / 10) (drop (k - 1 + 1) (set d k b))
digits-turn d k m b l h t q =
    let e : k - 1 + 1 ≡ k = omega arith in
    rw (e, digit-front d k b h, q) (digits_more k m (drop (k + 1) d) l t)

pub digits-end : (d : List ℕ) (k m b : ℕ) → k < length d → m < 10 → b ≡ 48 + m → drop k (set d k b) ≡ digits k m (drop (k + 1) d)
digits-end d k m b h t q = rw (digit-front d k b h, q) (sym (digits_last k m (drop (k + 1) d) t))

-- ---- writing a whole, part by part: whoever writes the rest from here has written the whole
pub record Rest (out₀ : List ℕ) (at : ℕ) (whole out : List ℕ) (place : ℕ) (rest : List ℕ) : Type 0 where
  pub room : place ≤ length out
  pub on : (r : ℕ) (o : List ℕ) → Wrote out place rest r o → Wrote out₀ at whole r o

pub rest-start : {out whole : List ℕ} {at : ℕ} → at ≤ length out → Rest out at whole out at whole
rest-start h = record { room = h; on = λ r o w. w }

pub rest-step : {out₀ whole out xs ys o : List ℕ} {at place r : ℕ} → Rest out₀ at whole out place (xs ++ ys) → Wrote out place xs r o
    → Rest out₀ at whole o r ys
rest-step k w = record { room = wrote-room w; on = λ r o u. k.on r o (wrote_then w u) }

pub rest-done : {out₀ whole out : List ℕ} {at place : ℕ} → Rest out₀ at whole out place [] → Wrote out₀ at whole place out
rest-done {out₀} {whole} {out} {at} {place} k = k.on place out (wrote_none out place k.room)

pub rest-same : {out₀ whole out xs ys : List ℕ} {at place : ℕ} → Rest out₀ at whole out place xs → xs ≡ ys → Rest out₀ at whole out place ys
rest-same k e = rw e at k

-- ---- equal lists

-- bytes joined by `|` that are 0 where two are the same: one more, and all
pub equal-joined : (a b : List ℕ) (i any : ℕ) → i < length a → i < length b
    → (eqb (bit_or any (cond (eqb (get_or a i 0) (get_or b i 0)) 0 1)) 0 && equal (drop (i + 1) a) (drop (i + 1) b)) ≡ (eqb any 0 && equal (drop i a) (drop i b))
unfolding equal
equal-joined a b i any h k = rw (add-one, drop-cons a i 0 h, drop-cons b i 0 k) (go (eqb (get_or a i 0) (get_or b i 0)))
  where
    go : (q : Bool) → (eqb (bit_or any (cond q 0 1)) 0 && equal (drop (suc i) a) (drop (suc i) b)) ≡ (eqb any 0 && (q && equal (drop (suc i) a) (drop (suc i) b)))
    go true =
        let e : bit_or any 0 ≡ any = omega (arith, or_add_and any 0, and_le_r any 0) in
        rw e
    go false = rw (ne_eqb (bit_or any 1) 0 (λ z. omega (arith, or_add_and any 1, and_le_l any 1))) (simp and-false)

pub equal-end : (a b : List ℕ) (i : ℕ) → length a ≤ i → length b ≤ i → equal (drop i a) (drop i b) ≡ true
unfolding equal
equal-end a b i h k = rw (drop_of_length-le a h, drop_of_length-le b k)

pub equal-lengths : (a b : List ℕ) → (length a ≡ length b → ⊥) → equal a b ≡ false
unfolding equal
equal-lengths [] [] h = absurd (h refl)
equal-lengths [] (y ∷ ys) h = refl
equal-lengths (x ∷ xs) [] h = refl
equal-lengths (x ∷ xs) (y ∷ ys) h = rw (equal-lengths xs ys (λ e. h (ap suc e))) (simp and-false)

-- what was written into 256 bytes, compared with at most 255
pub equal-written : (z xs o s : List ℕ) (n : ℕ) → length z ≡ 256 → Wrote z 0 xs n o → length s ≤ 255 → equal (take n o) s ≡ equal xs s
equal-written z xs o s n l w k = go (dec_lt 256 (length xs))
  where
    go : Dec (256 < length xs) → equal (take n o) s ≡ equal xs s
    go (no h) =
        let e : n ≡ length xs = (let p = w.place in omega arith) in
        let q : o ≡ xs ++ drop (0 + length xs) z = w.stored ∙ sets-eq xs z 0 (omega arith) in
        ap (λ (x : List ℕ). equal x s) (rw (q, e) (take-append_seam xs (drop (0 + length xs) z)))
    go (yes h) =
        let e : n ≡ 256 = (let p = w.place in omega arith) in
        let q : length o ≡ 256 = wrote-length w ∙ l in
        let t : length (take n o) ≡ 256 = (let m = length-take n o in omega arith) in
        equal-lengths (take n o) s (λ x. omega arith) ∙ sym (equal-lengths xs s (λ x. omega arith))
