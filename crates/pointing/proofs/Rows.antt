-- Every row of the grammar points rightly: its letters one by one, and a computed test of all rows.
use mathlib.Core.Path.{◌≡◌, refl}
use mathlib.Core.Bool.{Bool, true, false, cond, ◌&&◌, ◌||◌, not}
use mathlib.Core.List.{List, [], ◌∷◌, ◌++◌}
use Prim.Native.Nat.{ℕ, ◌≤◌}
use Prim.Native.Char.{code}
use native.Mathlib.Decide.{ℕ_discrete}
use lib.Dec.{T, eqb, eqb→eq}
use lib.ListN.{length}
use borrow.Author.Tests.{ne_eqb}
use Rattle.classes.proofs.Laws.{and_T}
use Rattle.fields.specs.Field.{byte_at}
use Rattle.reader.specs.Letters.{field_at}
use Rattle.formats.specs.declared.Stamp.TheVariants.{Date, Time}
use Rattle.format_field.proofs.Laws.{blank}
use Rattle.grammar.specs.Forms.{forms, row_of, is_field}
use Rattle.grammar.proofs.Rows.{every, every-at}
use Rattle.pointing.proofs.Pieces.{Sits, Ended, nothing, comma, Last, Full}
use Rattle.pointing.proofs.Numbers.{number-full}
use Rattle.pointing.proofs.Signed.{signed-full}
use Rattle.pointing.proofs.Texts.{text-full, byte-piece}
use Rattle.pointing.proofs.Words.{mode-full, side-full}
use Rattle.pointing.proofs.Types.{type-full}
use Rattle.pointing.proofs.Data.{quotes, data-last}
use Rattle.pointing.proofs.Shown.{format-last}
use Rattle.pointing.proofs.Points.{Points, points_none, points-byte, points-field, points-last}
use Rattle.pointing.proofs.Bars.{is-under, under-sits, points-word}

-- ---- the letters

-- data, and the formats of the date and of the time, run to the end of their line
abbrev pub to_end : ℕ → Bool
to_end f = eqb f (code "d") || (eqb f (code "f") || eqb f (code "g"))

-- a letter stands for a field that a comma ends, for what stands under bars, for a field that runs to the end of the line, or for itself
data Letter : ℕ → Type 0 where
  a-field : {f : ℕ} → Full (field_at f) → eqb f (code "h") ≡ false → to_end f ≡ false → is_field f ≡ true → eqb f (code ",") ≡ false → Letter f
  a_word : Letter (code "h")
  a-last : {f : ℕ} (m : List ℕ) → Last (field_at f) m → eqb f (code "h") ≡ false → to_end f ≡ true → eqb f (code ",") ≡ false → Letter f
  itself : {f : ℕ} → ((s : List ℕ) (at : ℕ) → field_at f s at ≡ byte_at f s at) → eqb f (code "h") ≡ false → to_end f ≡ false → Letter f

letter-of : (f : ℕ) → Letter f
unfolding field_at
letter-of f =
    go (ℕ_discrete f (code "n"))
    (ℕ_discrete f (code "w"))
    (ℕ_discrete f (code "y"))
    (ℕ_discrete f (code "t"))
    (ℕ_discrete f (code "a"))
    (ℕ_discrete f (code "z"))
    (ℕ_discrete f (code "u"))
    (ℕ_discrete f (code "s"))
    (ℕ_discrete f (code "m"))
    (ℕ_discrete f (code "j"))
    (ℕ_discrete f (code "k"))
    (ℕ_discrete f (code "h"))
    (ℕ_discrete f (code "d"))
    (ℕ_discrete f (code "f"))
    (ℕ_discrete f (code "g"))
  where
    go : Dec (f ≡ code "n")
        → Dec (f ≡ code "w")
        → Dec (f ≡ code "y")
        → Dec (f ≡ code "t")
        → Dec (f ≡ code "a")
        → Dec (f ≡ code "z")
        → Dec (f ≡ code "u")
        → Dec (f ≡ code "s")
        → Dec (f ≡ code "m")
        → Dec (f ≡ code "j")
        → Dec (f ≡ code "k")
        → Dec (f ≡ code "h")
        → Dec (f ≡ code "d")
        → Dec (f ≡ code "f")
        → Dec (f ≡ code "g")
        → Letter f
    go (yes q) b c d e g h i j k l m n o p = rw q (a-field number-full refl refl refl refl)
    go (no a) (yes q) c d e g h i j k l m n o p = rw q (a-field number-full refl refl refl refl)
    go (no a) (no b) (yes q) d e g h i j k l m n o p = rw q (a-field number-full refl refl refl refl)
    go (no a) (no b) (no c) (yes q) e g h i j k l m n o p = rw q (a-field text-full refl refl refl refl)
    go (no a) (no b) (no c) (no d) (yes q) g h i j k l m n o p = rw q (a-field text-full refl refl refl refl)
    go (no a) (no b) (no c) (no d) (no e) (yes q) h i j k l m n o p = rw q (a-field text-full refl refl refl refl)
    go (no a) (no b) (no c) (no d) (no e) (no g) (yes q) i j k l m n o p = rw q (a-field text-full refl refl refl refl)
    go (no a) (no b) (no c) (no d) (no e) (no g) (no h) (yes q) j k l m n o p = rw q (a-field signed-full refl refl refl refl)
    go (no a) (no b) (no c) (no d) (no e) (no g) (no h) (no i) (yes q) k l m n o p = rw q (a-field mode-full refl refl refl refl)
    go (no a) (no b) (no c) (no d) (no e) (no g) (no h) (no i) (no j) (yes q) l m n o p = rw q (a-field side-full refl refl refl refl)
    go (no a) (no b) (no c) (no d) (no e) (no g) (no h) (no i) (no j) (no k) (yes q) m n o p = rw q (a-field type-full refl refl refl refl)
    go (no a) (no b) (no c) (no d) (no e) (no g) (no h) (no i) (no j) (no k) (no l) (yes q) n o p = rw q a_word
    go (no a) (no b) (no c) (no d) (no e) (no g) (no h) (no i) (no j) (no k) (no l) (no m) (yes q) o p = rw q (a-last quotes data-last refl refl refl)
    go (no a) (no b) (no c) (no d) (no e) (no g) (no h) (no i) (no j) (no k) (no l) (no m) (no n) (yes q) p = rw q (a-last (blank Date) (format-last Date) refl refl refl)
    go (no a) (no b) (no c) (no d) (no e) (no g) (no h) (no i) (no j) (no k) (no l) (no m) (no n) (no o) (yes q) = rw q (a-last (blank Time) (format-last Time) refl refl refl)
    go (no a) (no b) (no c) (no d) (no e) (no g) (no h) (no i) (no j) (no k) (no l) (no m) (no n) (no o) (no p) =
        itself {f = f}
        (λ s at.
        rw (ne_eqb f (code "n") a, ne_eqb f (code "w") b, ne_eqb f (code "y") c, ne_eqb f (code "t") d, ne_eqb f (code "a") e, ne_eqb f (code "z") g, ne_eqb f (code "u") h, ne_eqb f (code "s") i, ne_eqb f (code "m") j, ne_eqb f (code "j") k, ne_eqb f (code "k") l, ne_eqb f (code "h") m, ne_eqb f (code "d") n, ne_eqb f (code "f") o, ne_eqb f (code "g") p))
        (ne_eqb f (code "h") m)
        (rw (ne_eqb f (code "d") n, ne_eqb f (code "f") o, ne_eqb f (code "g") p))

-- ---- the rows

-- a field is followed by a comma, or ends its row
abbrev pub ending : List ℕ → Bool
ending [] = true
ending (c ∷ cs) = eqb c (code ",")

-- what runs to the end of the line ends its row
abbrev pub last : List ℕ → Bool
last [] = true
last (c ∷ cs) = false

-- what stands under bars is followed by a comma and data
abbrev pub then_data : List ℕ → Bool
then_data [] = false
then_data (c ∷ []) = false
then_data (c ∷ (d ∷ ds)) = eqb c (code ",") && (eqb d (code "d") && last ds)

-- such a row is known
pub then-data : (fs : List ℕ) → T (then_data fs) → fs ≡ code "," ∷ (code "d" ∷ [])
then-data [] h = absurd h
then-data (c ∷ []) h = absurd h
then-data (c ∷ (d ∷ [])) h =
    let a = and_T (eqb c (code ",")) (eqb d (code "d") && true) h in
    let b = and_T (eqb d (code "d")) true a.1 in
    rw (eqb→eq c (code ",") a.0, eqb→eq d (code "d") b.0)
then-data (c ∷ (d ∷ (e ∷ es))) h = absurd (and_T (eqb d (code "d")) false (and_T (eqb c (code ",")) (eqb d (code "d") && false) h).1).1

-- behind each of its fields a row goes on in one of these ways, so that what ends a field is known
unfoldable pub fine : List ℕ → Bool
fine [] = true
fine (f ∷ fs) = cond (eqb f (code "h")) (then_data fs) (cond (to_end f) (last fs) ((ending fs || not (is_field f)) && fine fs))

-- every row of the grammar is fine
pub every-fine : (row : ℕ) → T (fine (row_of row).fields)
unfolding fine every
every-fine row = every-at (λ f. fine f.fields) forms tt tt row

-- what is asked of a row, with some filler: one that a field may end at where the row starts with a comma or is empty
pub record Pointing (fs : List ℕ) : Type 0 where
  pub filler : List ℕ
  pub points : Points fs filler
  pub ended : T (ending fs) → Ended filler

under-row : (fs : List ℕ) → T (then_data fs) → Pointing (code "h" ∷ fs)
under-row fs h = rw (then-data fs h) (record { filler = _; points = points-word; ended = λ k. absurd k })

last_row : (f : ℕ) (m fs : List ℕ) → Last (field_at f) m → eqb f (code ",") ≡ false → T (last fs) → Pointing (f ∷ fs)
last_row f m [] F d h = record { filler = m; points = points-last f m F; ended = λ k. absurd (rw d at k) }
last_row f m (c ∷ cs) F d h = absurd h

comma-ends : (f : ℕ) (m : List ℕ) → T (eqb f (code ",")) → Ended (f ∷ m)
comma-ends f m h = rw (eqb→eq f (code ",") h) (comma m)

-- the second of three choices
second-yes : (a b x y z : Bool) → a ≡ false → b ≡ true → T (cond a x (cond b y z)) → T y
second-yes a b x y z h k t = rw (h, k) at t

-- the third of three choices
pub both-no : (a b x y z : Bool) → a ≡ false → b ≡ false → T (cond a x (cond b y z)) → T z
both-no a b x y z h k t = rw (h, k) at t

pointing : (fs : List ℕ) → T (fine fs) → Pointing fs
unfolding fine
pointing [] h = record { filler = []; points = points_none; ended = λ k. nothing }
pointing (f ∷ fs) h = go (letter-of f) h (pointing fs)
  where
    go : {f : ℕ} → Letter f → T (cond (eqb f (code "h")) (then_data fs) (cond (to_end f) (last fs) ((ending fs || not (is_field f)) && fine fs)))
        → (T (fine fs) → Pointing fs)
        → Pointing (f ∷ fs)
    go {f} (a-field F a b c d) k r =
        let x = both-no (eqb f (code "h")) (to_end f) (then_data fs) (last fs) ((ending fs || not (is_field f)) && fine fs) a b k in
        let y = and_T (ending fs || false) (fine fs) (rw c at x) in
        let p = r y.1 in
        record {
          filler = F.blank ++ p.filler;
          points = points-field f fs p.filler F p.points (p.ended (kept (ending fs) y.0));
          ended = λ q. absurd (rw d at q);
        }
      where
        kept : (b : Bool) → T (b || false) → T b
        kept true t = t
        kept false t = t
    go a_word k r = under-row fs k
    go {f} (a-last m F a b d) k r =
        last_row f m fs F d (second-yes (eqb f (code "h")) (to_end f) (then_data fs) (last fs) ((ending fs || not (is_field f)) && fine fs) a b k)
    go {f} (itself same a b) k r =
        let x = both-no (eqb f (code "h")) (to_end f) (then_data fs) (last fs) ((ending fs || not (is_field f)) && fine fs) a b k in
        let p = r (and_T (ending fs || not (is_field f)) (fine fs) x).1 in
        record {
          filler = f ∷ p.filler;
          points = points-byte f fs p.filler same p.points;
          ended = comma-ends f p.filler;
        }

-- every row of the grammar points rightly
pub row-pointing : (row : ℕ) → Pointing (row_of row).fields
row-pointing row = pointing (row_of row).fields (every-fine row)

-- a field of any letter ends within the line, and so does its fault
pub field-sits : (f : ℕ) (s : List ℕ) (at : ℕ) → at ≤ length s → Sits s at (field_at f s at)
field-sits f s at h = go (letter-of f)
  where
    go : {f : ℕ} → Letter f → Sits s at (field_at f s at)
    go (a-field F a b c d) = F.piece.sits s at h
    go a_word = rw (is-under s at) (under-sits s at h)
    go (a-last m F a b d) = F.piece.sits s at h
    go {f} (itself same a b) = rw (same s at) ((byte-piece f).sits s at h)
