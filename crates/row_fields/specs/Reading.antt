-- Paper 01, "Reading a command": the fields of a row, read from a line one after another. Where one is not there, the line has not the written form (6).
-- Assumes nothing.
use Rattle.std.specs.Prelude.{ℕ, ◌≡◌, cond, List, [], ◌∷◌, length, eqb, Result, Ok, Err}
use Rattle.std.proofs.lemmas.List.Edits.{sets}
use Rattle.reader.specs.Letters.{field_at}

-- the values of a row's fields and their places, one for each byte of its form; or those up to the place where the line has not that
-- form, and that place
pub data Got : Type 0 where
  good : List ℕ → List ℕ → Got
  bad : List ℕ → List ℕ → ℕ → Got

abbrev pub ahead : ℕ → ℕ → Got → Got
ahead v p (good vs ps) = good (v ∷ vs) (p ∷ ps)
ahead v p (bad vs ps q) = bad (v ∷ vs) (p ∷ ps) q

abbrev pub next : Result (ℕ × ℕ) ℕ → (ℕ → ℕ → Got) → Got
next (Ok (v, e)) k = k v e
next (Err p) k = bad [] [] p

unfoldable pub fields_from : List ℕ → List ℕ → ℕ → Got
fields_from [] s at = cond (eqb at (length s)) (good [] []) (bad [] [] at)
fields_from (f ∷ fs) s at = next (field_at f s at) (λ v e. ahead v at (fields_from fs s e))

-- what reading a row's fields answers, and leaves in two arrays of slots
abbrev pub Filled : Got → List ℕ → List ℕ → Result Unit ℕ → List ℕ → List ℕ → Type 0
Filled (bad ws qs q) vs₀ ps₀ r vs ps = (r ≡ Err q) × (vs ≡ sets vs₀ 0 ws) × (ps ≡ sets ps₀ 0 qs)
Filled (good ws qs) vs₀ ps₀ r vs ps = (r ≡ Ok tt) × (vs ≡ sets vs₀ 0 ws) × (ps ≡ sets ps₀ 0 qs)
