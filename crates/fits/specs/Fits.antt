-- Paper 02, §7, "Will it fit?": "the answer that GM, with a legal picture of that size, or FS would give if sent then". "It does not look for soundness: on any store
-- it goes by entries of kind 0 and 3, names in use and links marked free. It changes nothing and ignores a form's size."
-- Assumes nothing.
use Rattle.std.specs.Prelude.{ℕ, Bool, not, ◌&&◌, ◌||◌, cond, List, ◌∷◌, length, eqb, ltb, is_some}
use Rattle.store.specs.Chain.{free_count}
use Rattle.finding.specs.Find.{recorded}
use Rattle.answers.specs.declared.Answer.TheVariants.{Lengths, Limits, Owing, Misplaced, InUse}
use Rattle.answers.specs.Answers.{Row, row}
use Rattle.lent.specs.Lent.{links_wrong, directory_wrong}
use Rattle.full.specs.Full.{full_rows}
use Rattle.fits.specs.Names.{name_wrong, user_of}

-- the kinds that are asked for by number, as a directory has them: "1 form, 2 picture"
abbrev pub is_form : ℕ → Bool
is_form kind = eqb kind 1

abbrev pub is_picture : ℕ → Bool
is_picture kind = eqb kind 2

-- [1] of the links, "1 to 2,024", and of the directory, "1 to 512 entries of 16 bytes"
unfoldable pub lent_wrong : ℕ → ℕ → Bool
lent_wrong links directory = links_wrong links || directory_wrong directory

-- the greatest picture: "GM"Name",n with n 1..32768"
abbrev pub most_picture : ℕ
most_picture = 32768

-- "n 1..32768": a picture's size; a form's may be anything
unfoldable pub size_wrong : ℕ → ℕ → Bool
size_wrong kind size = is_picture kind && (eqb size 0 || ltb most_picture size)

-- [7] "a number, name or prompt outside its limits"; "a wrong kind too"
unfoldable pub limits_wrong : ℕ → List ℕ → ℕ → Bool
limits_wrong kind name size = not (is_form kind || is_picture kind) || (name_wrong name || size_wrong kind size)

-- how many bytes the new entry has: a form has none at first
abbrev pub new_size : ℕ → ℕ → ℕ
new_size kind size = cond (is_picture kind) size 0

-- from 9 on: [9] a form is being recorded, which is where FS and GM have no place; [10] "name in use (FS, GM)"; [19] and [23] for the links marked free
abbrev pub place_rows : List ℕ → List ℕ → ℕ → List ℕ → ℕ → List Row
place_rows links directory kind name size =
    row Misplaced (is_some (recorded directory))
    ∷ row InUse (is_some (user_of directory (is_picture kind) name))
    ∷ full_rows (free_count links) directory (new_size kind size)

-- "Refusals: 1, 7 (a wrong kind too), 8 to 10, 19 and 23 of §5, in that order", with so many labels owed. There is no line, so that [7] has no place to point to
abbrev pub fit_rows : ℕ → List ℕ → List ℕ → ℕ → List ℕ → ℕ → List Row
fit_rows owed links directory kind name size =
    row Lengths (lent_wrong (length links) (length directory))
    ∷ row (Limits 0) (limits_wrong kind name size)
    ∷ row Owing (ltb 0 owed)
    ∷ place_rows links directory kind name size
