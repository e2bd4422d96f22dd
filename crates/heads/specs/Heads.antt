-- The letters of a command, and the row of the grammar that a line's letters name.
-- Assumes nothing.
use Rattle.std.specs.Prelude.{ℕ, suc, ◌≡◌, Bool, true, false, cond, ◌&&◌, ◌||◌, List, [], ◌∷◌, length, get_or, leb, ltb, eqb, Option, Some, None}
use Prim.Native.Char.{Char, code}
use Rattle.grammar.specs.Forms.{Form, forms}

-- a command's letters, one to three: the first byte of its form, and the capitals behind it
abbrev pub capitals : List ℕ → List ℕ
capitals [] = []
capitals (b ∷ bs) = cond (leb (code "A") b && leb b (code "Z")) (b ∷ capitals bs) []

abbrev pub letters_of : List ℕ → List ℕ
letters_of [] = []
letters_of (a ∷ fs) = a ∷ capitals fs

-- whether the bytes s begin with the letters
abbrev pub begins : List ℕ → List ℕ → Bool
begins [] s = true
begins (l ∷ ls) [] = false
begins (l ∷ ls) (b ∷ bs) = eqb b l && begins ls bs

-- the first row of n letters with which the bytes s begin
unfoldable pub find : ℕ → List Form → ℕ → List ℕ → Option ℕ
find n [] i s = None
find n (f ∷ fs) i s = cond (eqb (length (letters_of f.fields)) n && begins (letters_of f.fields) s) (Some i) (find n fs (suc i) s)

abbrev pub or_else : Option ℕ → Option ℕ → Option ℕ
or_else (Some i) h = Some i
or_else None h = h

-- the row that the bytes a, b, c at the front of a line name: the one with the most letters
unfoldable pub head_by : ℕ → ℕ → ℕ → Option ℕ
head_by a b c =
    or_else (find 3 forms 0 (a ∷ b ∷ c ∷ [])) (or_else (find 2 forms 0 (a ∷ b ∷ c ∷ [])) (find 1 forms 0 (a ∷ b ∷ c ∷ [])))

unfoldable pub head_of : List ℕ → Option ℕ
head_of s = head_by (get_or s 0 0) (get_or s 1 0) (get_or s 2 0)

-- the line is a part of some command's letters, from the first on, and they go on behind it
abbrev pub letters_cut : List Form → List ℕ → Bool
letters_cut [] s = false
letters_cut (f ∷ fs) s = (ltb (length s) (length (letters_of f.fields)) && begins s (letters_of f.fields)) || letters_cut fs s

-- where a line that no command's letters match is at fault: at its first byte, or at the LF where it ends within the letters of a command
unfoldable pub letters_fault : List ℕ → ℕ
letters_fault s = cond (letters_cut forms s) (length s) 0

-- What follows serves the code: it looks at a third letter only behind LS.
-- the second letter b, behind the first, decides alone
abbrev pub Behind : Char → ℕ → Option ℕ → Type 0
Behind l b r = (c : ℕ) → r ≡ head_by (code l) b c

-- the second letter b and the third c, behind L
abbrev pub line_head : ℕ → ℕ → Option ℕ
line_head b c = head_by (code "L") b c

-- the third letter c, behind LS
abbrev pub slant_head : ℕ → Option ℕ
slant_head c = line_head (code "S") c
