-- An image and its session say the same: each is found again from the other.
use mathlib.Core.Path.{◌≡◌, refl, sym, ap, ◌∙◌}
use mathlib.Core.List.{List, [], ◌∷◌, ◌++◌}
use Prim.Native.Nat.{ℕ, zero, suc, ◌+◌, ◌*◌, ◌/◌, ◌%◌, ◌^◌, ◌≤◌, ◌<◌}
use native.Mathlib.Nat.{add-zero, pow-succ'}
use native.Mathlib.Omega.{arith}
use lib.ListN.{length, get_or, drop, replicate, drop_of_length-le}
use lib.Seq.{sets, drop-cons, get_or-drop}
use Rattle.counters.specs.declared.Counters.{Counters}
use Rattle.counters.specs.Counters.{counters}
use Rattle.session.specs.declared.Session.{Session}
use Rattle.session.specs.Session.{none}
use Rattle.ground.proofs.Stores.{sets-all}
use Rattle.low_first.specs.Low.{number_at, bytes_of}
use Rattle.image.specs.Image.{image_size, every_five, counter_bytes, image_clock, image_format, clock_bytes, format_bytes, session_of, image_of, Fits}
use Rattle.low_first.proofs.Numbers.{byte-number}
use Rattle.image.proofs.Numbers.{session-read}

-- ---- one number

number-drop : (w : ℕ) (b : List ℕ) (i at : ℕ) → number_at w b (i + at) ≡ number_at w (drop i b) at
unfolding number_at
number-drop zero b i at = refl
number-drop (suc w) b i at =
    let e : suc (i + at) ≡ i + suc at = omega arith in
    rw (e, number-drop w b i (suc at), get_or-drop i b at 0)

-- a number that fits w bytes is read from them again
pub number-bytes : (w x : ℕ) (l : List ℕ) → x < 256 ^ w → number_at w (bytes_of w x ++ l) 0 ≡ x
unfolding number_at bytes_of
number-bytes zero x l h = omega arith
number-bytes (suc w) x l h =
    let e : number_at w ((x % 256) ∷ (bytes_of w (x / 256) ++ l)) 1 ≡ x / 256
    = number-drop w ((x % 256) ∷ (bytes_of w (x / 256) ++ l)) 1 0 ∙ number-bytes w (x / 256) l (omega (arith, pow-succ' 256 w)) in
    rw e (omega arith)

-- w bytes from a place on are the bytes of the number that they are read as
pub bytes-number : (w : ℕ) (b : List ℕ) (at : ℕ) → ((k : ℕ) → get_or b k 0 < 256) → at + w ≤ length b → bytes_of w (number_at w b at) ++ drop (at + w) b ≡ drop at b
unfolding number_at bytes_of
bytes-number zero b at small h = rw add-zero
bytes-number (suc w) b at small h =
    let e : at + suc w ≡ suc at + w = omega arith in
    go (get_or b at 0) (number_at w b (suc at)) (small at) (rw e (bytes-number w b (suc at) small (omega arith))) ∙ sym (drop-cons b at 0 (omega arith))
  where
    go : (g n : ℕ) → g < 256 → bytes_of w n ++ drop (at + suc w) b ≡ drop (suc at) b
        → ◌≡◌ {A = List ℕ} (((g + 256 * n) % 256) ∷ (bytes_of w ((g + 256 * n) / 256) ++ drop (at + suc w) b)) (g ∷ drop (suc at) b)
    go g n s e =
        let p : (g + 256 * n) % 256 ≡ g = omega arith in
        let q : (g + 256 * n) / 256 ≡ n = omega arith in
        rw (p, q) (ap (λ (l : List ℕ). g ∷ l) e)

-- ---- from the image

module _ (b : List ℕ) (small : (k : ℕ) → get_or b k 0 < 256) where
  field : (w at : ℕ) (l : List ℕ) → at + w ≤ length b → l ≡ drop (at + w) b → bytes_of w (number_at w b at) ++ l ≡ drop at b
  field w at l h e = rw e (bytes-number w b at small h)

  five-at : (w n at k : ℕ) → k < n → get_or (every_five w n b at) k 0 ≡ number_at w b (at + 5 * k)
  unfolding every_five
  five-at w zero at k h = absurd (omega arith)
  five-at w (suc n) at zero h = ap (number_at w b) (let e : at ≡ at + 5 * 0 = omega arith in e)
  five-at w (suc n) at (suc k) h = five-at w n (5 + at) k (omega arith) ∙ ap (number_at w b) (let e : 5 + at + 5 * k ≡ at + 5 * suc k = omega arith in e)

  counters-again : (n k : ℕ) (t : List ℕ) → n + k ≡ 10 → length b ≡ image_size → t ≡ drop 65 b
      → counter_bytes n k (counters (every_five 1 10 b 15) (every_five 4 10 b 16)) ++ t ≡ drop (15 + 5 * k) b
  unfolding counter_bytes bytes_of
  counters-again zero k t h e r = r ∙ ap (λ (m : ℕ). drop m b) (let d : 65 ≡ 15 + 5 * k = omega arith in d)
  counters-again (suc n) k t h e r =
      let s : get_or (every_five 1 10 b 15) k 0 ≡ get_or b (15 + 5 * k) 0 = five-at 1 10 15 k (omega arith) ∙ byte-number b (15 + 5 * k) in
      let v : get_or (every_five 4 10 b 16) k 0 ≡ number_at 4 b (16 + 5 * k) = five-at 4 10 16 k (omega arith) in
      let i : counter_bytes n (suc k) (counters (every_five 1 10 b 15) (every_five 4 10 b 16)) ++ t ≡ drop (16 + 5 * k + 4) b
      = counters-again n (suc k) t (omega arith) e r ∙ ap (λ (m : ℕ). drop m b) (let d : 15 + 5 * suc k ≡ 16 + 5 * k + 4 = omega arith in d) in
      let d : suc (15 + 5 * k) ≡ 16 + 5 * k = omega arith in
      rw (s, v) (ap (λ (l : List ℕ). get_or b (15 + 5 * k) 0 ∷ l) (field 4 (16 + 5 * k) _ (omega arith) i) ∙ sym (rw d at (drop-cons b (15 + 5 * k) 0 (omega arith))))

  -- one byte a number: the clock's, and those of both formats
  lone : (at : ℕ) (l : List ℕ) → at < length b → l ≡ drop (suc at) b → get_or b at 0 ∷ l ≡ drop at b
  lone at l h e = ap (λ (m : List ℕ). get_or b at 0 ∷ m) e ∙ sym (drop-cons b at 0 h)

  times-again : length b ≡ image_size → clock_bytes (image_clock b 67) ++ (format_bytes (image_format b 73) ++ format_bytes (image_format b 78)) ≡ drop 67 b
  times-again e =
      lone 67 _ (omega arith) (lone 68 _ (omega arith) (lone 69 _ (omega arith) (lone 70 _ (omega arith) (lone 71 _ (omega arith) (lone 72 _ (omega arith)
      (lone 73 _ (omega arith) (lone 74 _ (omega arith) (lone 75 _ (omega arith) (lone 76 _ (omega arith) (lone 77 _ (omega arith)
      (lone 78 _ (omega arith) (lone 79 _ (omega arith) (lone 80 _ (omega arith) (lone 81 _ (omega arith) (lone 82 _ (omega arith)
      (sym (drop_of_length-le b (let d : length b ≤ 83 = omega arith in d))))))))))))))))))

  -- the image of an image's session is that image
  pub image-session : length b ≡ image_size → image_of (session_of b) ≡ b
  unfolding image_of session_of bytes_of
  image-session e =
      field 2 0 _ (omega arith)
      (field 2 2 _ (omega arith)
      (ap (λ (l : List ℕ). get_or b 4 0 ∷ l)
      (field 2 5 _ (omega arith)
      (field 2 7 _ (omega arith)
      (field 2 9 _ (omega arith)
      (field 2 11 _ (omega arith)
      (field 2 13 _ (omega arith)
      (counters-again 10 0 _ refl e
      (field 2 65 _ (omega arith) (times-again e))))))))
      ∙ sym (drop-cons b 4 0 (omega arith))))

  -- ---- the session of an image fits its places

  number_small : (w at : ℕ) → number_at w b at < 256 ^ w
  unfolding number_at
  number_small zero at = omega arith
  number_small (suc w) at = omega (arith, small at, number_small w (suc at), pow-succ' 256 w)

  five-length : (w n at : ℕ) → length (every_five w n b at) ≡ n
  unfolding every_five
  five-length w zero at = refl
  five-length w (suc n) at = ap suc (five-length w n (5 + at))

  five-small : (n at k : ℕ) → get_or (every_five 4 n b at) k 0 < 256 ^ 4
  unfolding every_five
  five-small zero at k = omega arith
  five-small (suc n) at zero = number_small 4 at
  five-small (suc n) at (suc k) = five-small n (5 + at) k

  pub session-fits : Fits (session_of b)
  unfolding session_of
  session-fits = record {
    width = number_small 2 0;
    length = number_small 2 2;
    x = number_small 2 5;
    y = number_small 2 7;
    active = number_small 2 9;
    owed = number_small 2 11;
    drawn = number_small 2 13;
    ten_set = five-length 1 10 15;
    ten_values = five-length 4 10 16;
    values = five-small 10 16;
    free = number_small 2 65;
  }

-- ---- from the session

five-drop : (w n : ℕ) (b : List ℕ) (i at : ℕ) → every_five w n b (i + at) ≡ every_five w n (drop i b) at
unfolding every_five
five-drop w zero b i at = refl
five-drop w (suc n) b i at =
    let e : 5 + (i + at) ≡ i + (5 + at) = omega arith in
    rw (e, number-drop w b i at, five-drop w n b i (5 + at))

module _ (c : Counters) (t : List ℕ) where
  sets-again : (n k : ℕ) → length c.set ≡ k + n → every_five 1 n (counter_bytes n k c ++ t) 0 ≡ drop k c.set
  unfolding every_five counter_bytes bytes_of
  sets-again zero k h = sym (drop_of_length-le c.set (let d : length c.set ≤ k = omega arith in d))
  sets-again (suc n) k h =
      rw (byte-number (counter_bytes (suc n) k c ++ t) 0, five-drop 1 n (counter_bytes (suc n) k c ++ t) 5 0)
      (ap (λ (l : List ℕ). get_or c.set k 0 ∷ l) (sets-again n (suc k) (omega arith)) ∙ sym (drop-cons c.set k 0 (omega arith)))

  values-again : (n k : ℕ) → length c.value ≡ k + n → ((j : ℕ) → get_or c.value j 0 < 4294967296) → every_five 4 n (counter_bytes n k c ++ t) 1 ≡ drop k c.value
  unfolding every_five counter_bytes bytes_of
  values-again zero k h small = sym (drop_of_length-le c.value (let d : length c.value ≤ k = omega arith in d))
  values-again (suc n) k h small =
      let v : number_at 4 (counter_bytes (suc n) k c ++ t) 1 ≡ get_or c.value k 0
      = number-drop 4 (counter_bytes (suc n) k c ++ t) 1 0 ∙ number-bytes 4 (get_or c.value k 0) (counter_bytes n (suc k) c ++ t) (small k) in
      rw (v, five-drop 4 n (counter_bytes (suc n) k c ++ t) 5 1)
      (ap (λ (l : List ℕ). get_or c.value k 0 ∷ l) (values-again n (suc k) (omega arith) small) ∙ sym (drop-cons c.value k 0 (omega arith)))

counters-same : (a b x y : List ℕ) → a ≡ b → x ≡ y → counters a x ≡ counters b y
counters-same a b x y p q = rw (p, q)

-- the session of a session's image is that session
pub session-image : (s : Session) → Fits s → session_of (image_of s) ≡ s
unfolding image_of number_at bytes_of counter_bytes
session-image s f =
    let word : (x : ℕ) → x < 65536 → x ≡ number_at 2 (bytes_of 2 x ++ []) 0 = λ x h. sym (number-bytes 2 x [] h) in
    let t = bytes_of 2 s.free ++ (clock_bytes s.clock ++ (format_bytes s.formats.date ++ format_bytes s.formats.time)) in
    sym (session-read (image_of s) (word s.width f.width) (word s.length f.length) refl (word s.x f.x) (word s.y f.y)
    (word s.active f.active) (word s.owed f.owed) (word s.drawn f.drawn)
    (sym (counters-same _ _ _ _ (five-drop 1 10 (image_of s) 15 0 ∙ sets-again s.counters t 10 0 f.ten_set)
    (five-drop 4 10 (image_of s) 15 1 ∙ values-again s.counters t 10 0 f.ten_values f.values)))
    (word s.free f.free) refl refl refl)

-- ---- the bytes of an image

pub length-image : (s : Session) → length (image_of s) ≡ image_size
unfolding image_of bytes_of counter_bytes
length-image s = refl

-- an image stored over 83 bytes is all there is
pub whole : (i : List ℕ) (s : Session) → length i ≡ image_size → sets i 0 (image_of s) ≡ image_of s
whole i s h = sets-all i (image_of s) (length-image s ∙ sym h)

-- the image of "zeros"
pub zeros-image : image_of none ≡ replicate image_size 0
unfolding image_of bytes_of counter_bytes
zeros-image = refl
