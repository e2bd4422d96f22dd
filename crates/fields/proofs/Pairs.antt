-- Two pairs in `Ok` that are equal have the same first and the same second part: what a field reads, and the place after it.
use Rattle.std.proofs.Common.{◌≡◌, ap, Result, Ok, Err}

abbrev pair_of : {A B E : Type 0} → A × B → Result (A × B) E → A × B
pair_of d (Ok p) = p
pair_of d (Err e) = d

pub ok_first : {A B E : Type 0} {a x : A} {b y : B} → ◌≡◌ {A = Result (A × B) E} (Ok (a, b)) (Ok (x, y)) → a ≡ x
ok_first {a} {b} h = ap (λ r. (pair_of (a, b) r).0) h

pub ok_second : {A B E : Type 0} {a x : A} {b y : B} → ◌≡◌ {A = Result (A × B) E} (Ok (a, b)) (Ok (x, y)) → b ≡ y
ok_second {a} {b} h = ap (λ r. (pair_of (a, b) r).1) h
