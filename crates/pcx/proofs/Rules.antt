-- What a legal picture's header says, as facts.
-- Assumes nothing.
use mathlib.Core.Path.{◌≡◌, ◌∙◌}
use mathlib.Core.Bool.{Bool, true, false, ◌&&◌, and-false}
use mathlib.Core.List.{List}
use Prim.Native.Nat.{ℕ, ◌*◌, ◌%◌, ◌≤◌, ◌<◌}
use native.Mathlib.Nat.{mul-le-mul}
use native.Mathlib.Decide.{dec_lt}
use native.Mathlib.Omega.{arith}
use borrow.Author.Tests.{leb-true, eqb-true}
use lib.ListN.{length, get_or, get_or-eq_default}
use lib.Dec.{leb, eqb}
use Rattle.ground.proofs.Tests.{and-true}
use Rattle.pcx.specs.Rules.{empty_run, no_empty_run, waiting, sized, ten, version, ones, ordered, measured, lined, width, height, line_bytes, headed, filled, legal, body, decoded}
use Rattle.pcx.proofs.Runs.{passing-start, passing-stop}

pub record Headed (s : List ℕ) : Type 0 where
  pub least : 129 ≤ length s
  pub long : length s ≤ 32768
  pub wide : width s ≤ 2048
  pub high : height s ≤ 4000
  pub room : line_bytes s ≤ 256
  pub holds : width s ≤ line_bytes s * 8

pub headed-says : (s : List ℕ) → headed s ≡ true → Headed s
unfolding headed
headed-says s e =
    let a = and-true (sized s) _ e in
    let b = and-true (ordered s) _ (and-true (ones s) _ (and-true (version s) _ (and-true (ten s) _ a.1).1).1).1 in
    let m = and-true (measured s) (lined s) b.1 in
    let w = and-true (leb (width s) 2048) (leb (height s) 4000) m.0 in
    let l = and-true (eqb (line_bytes s % 2) 0) (leb (line_bytes s) 256 && leb (width s) (line_bytes s * 8)) m.1 in
    let k = and-true (leb (line_bytes s) 256) (leb (width s) (line_bytes s * 8)) l.1 in
    record {
      least = leb-true 129 (length s) (and-true (leb 129 (length s)) (leb (length s) 32768) a.0).0;
      long = leb-true (length s) 32768 (and-true (leb 129 (length s)) (leb (length s) 32768) a.0).1;
      wide = leb-true (width s) 2048 w.0;
      high = leb-true (height s) 4000 w.1;
      room = leb-true (line_bytes s) 256 k.0;
      holds = leb-true (width s) (line_bytes s * 8) k.1;
    }

pub record Legal (s : List ℕ) : Type 0 where
  pub header : Headed s
  pub whole : length (decoded s) ≡ line_bytes s * height s

pub legal-says : (s : List ℕ) → legal s ≡ true → Legal s
unfolding legal filled
legal-says s e =
    let a = and-true (headed s) _ e in
    let b = and-true (no_empty_run 0 (body s)) _ a.1 in
    record { header = headed-says s a.0; whole = eqb-true _ _ (and-true (eqb (waiting 0 (body s)) 0) _ b.1).1 }

-- how much a picture's bytes can be
pub product : (a b m n : ℕ) → a ≤ m → b ≤ n → a * b ≤ m * n
product a b m n h k = mul-le-mul h k

pub not-headed : (s : List ℕ) → headed s ≡ false → false ≡ legal s
unfolding legal
not-headed s e = rw e

pub is-headed : (s : List ℕ) (r : Bool) → headed s ≡ true → r ≡ filled (body s) (line_bytes s * height s) → r ≡ legal s
unfolding legal
is-headed s r e h = h ∙ rw e

-- proof case (10), of any bytes: a run of 0 right at the front
pub case-10 : (bytes : List ℕ) → get_or bytes 128 0 ≡ 192 → legal bytes ≡ false
unfolding legal empty_run
case-10 bytes e =
    let h : 128 < length bytes = there (dec_lt 128 (length bytes)) in
    rw (← passing-stop bytes 128 0 0 (line_bytes bytes * height bytes) h (passing-start bytes) (rw e)) (and-false (headed bytes))
  where
    there : Dec (128 < length bytes) → 128 < length bytes
    there (yes h) = h
    there (no h) = absurd (let w : ⊥ = omega (arith, get_or-eq_default bytes 0 (let k : length bytes ≤ 128 = omega arith in k), e) in w)
