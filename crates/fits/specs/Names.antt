-- Names that may be asked for, and the entries that bear them.
-- Assumes nothing.
use Rattle.std.specs.Prelude.{ℕ, Bool, not, ◌&&◌, ◌||◌, List, length, get_or, eqb, ltb, Option}
use Rattle.kinds.specs.Bytes.{all_in}
use Rattle.classes.specs.declared.Class.TheVariants.{Named}
use Rattle.classes.specs.Bytes.{in_class}
use Rattle.parts.specs.Names.{capital}
use Rattle.cells.specs.Count.{all_to}
use Rattle.store.specs.Entry.{entries, entry, kind, name_length, name as title_of, of_kind}
use Rattle.finding.specs.Find.{found}

-- "Names: 1 to 8 bytes, codes 32 to 126 without `*` and quote": what is asked for may be any bytes, and is none of these
unfoldable pub name_wrong : List ℕ → Bool
name_wrong name = eqb (length name) 0 || (ltb 8 (length name) || not (all_in (in_class Named) name))

-- an entry bears a name where its length byte is the name's length and that many of its bytes are the name's, in capitals ("case is folded"). What fills
-- the entry's name up is not looked at, and a length byte above 8 is nobody's name
unfoldable pub bears : List ℕ → List ℕ → Bool
bears e name = eqb (name_length e) (length name) && all_to (λ k. eqb (get_or (title_of e) k 0) (capital (get_or name k 0))) (length name)

-- entry i is of a kind, a picture's or a form's ("1 and 3 are one kind"), and bears the name
unfoldable pub in_use : List ℕ → Bool → List ℕ → ℕ → Bool
in_use directory picture name i = of_kind picture (kind (entry directory i)) && bears (entry directory i) name

-- the entry of the kind that bears it
abbrev pub user_of : List ℕ → Bool → List ℕ → Option ℕ
user_of directory picture name = found (in_use directory picture name) (entries directory)
