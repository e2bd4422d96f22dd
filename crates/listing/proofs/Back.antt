-- A line that a listing writes is read back: its size, and where its name stands.
-- Assumes nothing.
use Rattle.std.specs.Prelude.{Ok}
use native.Mathlib.Omega.{arith}
use Prim.Native.Nat.{ℕ, ◌+◌, ◌<◌}
use mathlib.Core.Path.{◌≡◌, refl, ap, ◌∙◌}
use mathlib.Core.List.{List, [], ◌∷◌, ◌++◌, append_assoc}
use lib.Dec.{T}
use lib.ListN.{length, take, length-append}
use Rattle.kinds.specs.Bytes.{between}
use Rattle.classes.specs.declared.Class.TheVariants.{Quoted}
use Rattle.numbers.specs.Number.{number_at}
use Rattle.fields.specs.Field.{text_at, byte_at}
use Rattle.store.specs.Entry.{name_length, name, size}
use Rattle.writing.specs.Writing.{decimal}
use Rattle.normal.proofs.Back.{all_in, number-back, byte-back, text-back}
use Rattle.listing.specs.Listing.{listing_line}
use Rattle.listing.specs.Back.{listed_at, Entry}

-- size, comma, quoted name behind pre and before rest
back : (pre rest : List ℕ) (n : ℕ) (t : List ℕ) → n < 1000000000 → T (all_in Quoted t)
    → listed_at (pre ++ (decimal n ++ (44 ∷ 34 ∷ (t ++ (34 ∷ rest))))) (length pre) ≡ Entry n (length pre + length (decimal n) + 1) (length t)
unfolding listed_at
back pre rest n t h q =
    let x : List ℕ = 34 ∷ (t ++ (34 ∷ rest)) in
    let s : List ℕ = pre ++ (decimal n ++ (44 ∷ x)) in
    let number : number_at s (length pre) ≡ Ok (n, length pre + length (decimal n)) = number-back pre (44 ∷ x) n h (unfold between in refl) in
    let comma : byte_at 44 s (length pre + length (decimal n)) ≡ Ok (44, length pre + length (decimal n) + 1) =
    rw (append_assoc pre (decimal n) (44 ∷ x), length-append pre (decimal n)) at (byte-back (pre ++ decimal n) x 44) in
    let front : (pre ++ (decimal n ++ (44 ∷ []))) ++ x ≡ s =
    append_assoc pre (decimal n ++ (44 ∷ [])) x ∙ ap (λ (l : List ℕ). pre ++ l) (append_assoc (decimal n) (44 ∷ []) x) in
    let place : length (pre ++ (decimal n ++ (44 ∷ []))) ≡ length pre + length (decimal n) + 1 = simp length-append (omega arith) in
    let text : text_at s (length pre + length (decimal n) + 1) ≡ Ok (length t, length pre + length (decimal n) + 1 + 1 + length t + 1) =
    rw (front, place) at (text-back (pre ++ (decimal n ++ (44 ∷ []))) rest t q) in
    rw (number, comma, text)

-- the line of an entry whose size has at most nine digits and whose name may stand between quotes
pub listed_back : (pre rest e : List ℕ) → size e < 1000000000 → T (all_in Quoted (take (name_length e) (name e)))
    → listed_at (pre ++ (listing_line e ++ rest)) (length pre)
    ≡ Entry (size e) (length pre + length (decimal (size e)) + 1) (length (take (name_length e) (name e)))
unfolding listing_line
listed_back pre rest e h q =
    let t : List ℕ = take (name_length e) (name e) in
    let whole : (decimal (size e) ++ (44 ∷ 34 ∷ (t ++ (34 ∷ 10 ∷ [])))) ++ rest ≡ decimal (size e) ++ (44 ∷ 34 ∷ (t ++ (34 ∷ 10 ∷ rest))) =
    append_assoc (decimal (size e)) (44 ∷ 34 ∷ (t ++ (34 ∷ 10 ∷ []))) rest
    ∙ ap (λ (l : List ℕ). decimal (size e) ++ (44 ∷ 34 ∷ l)) (append_assoc t (34 ∷ 10 ∷ []) rest) in
    rw whole (back pre (10 ∷ rest) (size e) t h q)
