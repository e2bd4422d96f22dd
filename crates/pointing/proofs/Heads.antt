-- The letters of a command, in a line to which more is added: three bytes decide, of two bytes LS alone may go on, and of one byte all is computed.
use Rattle.std.proofs.Common.{None, Result, Ok, Err}
use mathlib.Core.Path.{◌≡◌, refl}
use mathlib.Core.Bool.{Bool, true, false, cond, ◌&&◌, not, and-false, and-eq-true_iff, true≢false}
use mathlib.Core.List.{List, [], ◌∷◌, ◌++◌}
use mathlib.Core.Logic.{◌⊎◌, inl, inr}
use Prim.Native.Nat.{ℕ, suc}
use Prim.Native.Char.{code}
use native.Mathlib.Omega.{arith}
use native.Mathlib.Decide.{ℕ_discrete}
use lib.Dec.{T, eqb, eqb→eq, eqb-zero-suc}
use lib.ListN.{length, get_or}
use borrow.Author.Tests.{eqb-true, ne_eqb}
use Rattle.read.specs.declared.Fault.{Fault}
use Rattle.grammar.specs.declared.Command.{Command}
use Rattle.kinds.specs.Bytes.{between}
use Rattle.kinds.specs.Text.{bytes}
use Rattle.classes.specs.Bytes.{run}
use Rattle.classes.proofs.Laws.{and_T, eqb_comm}
use Rattle.numbers.specs.Number.{value_from, number_at, signed_at}
use Rattle.fields.specs.Field.{text_at, byte_at, letter_at, type_at, kind_from, under_at, under_from}
use Rattle.elements.specs.Elements.{element_at, elements_from, elements}
use Rattle.data_field.specs.Data.{total, data_at, limits}
use Rattle.reader.specs.Letters.{field_at}
use Rattle.grammar.specs.Forms.{Form, forms, spread, in_order}
use Rattle.grammar.proofs.Rows.{every}
use Rattle.heads.specs.Heads.{letters_of, begins, find, head_by, head_of, letters_cut, letters_fault}
use Rattle.heads.proofs.Fault.{fault-first, fault-no-line, fault-no-slant}
use Rattle.row_fields.specs.Reading.{fields_from}
use Rattle.row_limits.specs.Limits.{meets, field_limits, limits_from}
use Rattle.read.specs.Commands.{read_of, headed, judged}
use Rattle.read.specs.declared.Fault.TheVariants.{Form as form, Limit}
use Rattle.pointing.specs.Soon.{is_written, EndsTooSoon}

-- ---- two bytes and more

-- L and S, behind which a third letter names another row
abbrev pub is_slant : ℕ → ℕ → Bool
is_slant a b = eqb a (code "L") && eqb b (code "S")

-- the bytes of a line decide its row, whatever is added: there is a third, or no third letter matters
abbrev pub Settled : ℕ → ℕ → List ℕ → Type 0
Settled a b [] = is_slant a b ≡ false
Settled a b (c ∷ l) = Unit {0}

head-of-two : (a b c : ℕ) → is_slant a b ≡ false → head_by a b c ≡ head_by a b 0
unfolding head_by find
head-of-two a b c u = go (eqb a (code "L")) (eqb b (code "S")) refl refl u
  where
    go : (x y : Bool) → eqb a (code "L") ≡ x → eqb b (code "S") ≡ y → (x && y) ≡ false → head_by a b c ≡ head_by a b 0
    go false y e f h = rw e
    go true false e f h = rw (e, f)
    go true true e f h = absurd (true≢false h)

-- the row that such a line names stays
pub head-stays : (a b : ℕ) (l m : List ℕ) → Settled a b l → head_of (a ∷ (b ∷ (l ++ m))) ≡ head_of (a ∷ (b ∷ l))
unfolding head_of
head-stays a b [] m u = head-of-two a b (get_or m 0 0) u
head-stays a b (c ∷ l) m u = refl

-- it is no part of a command's letters
pub letters-over : (a b : ℕ) (l : List ℕ) → Settled a b l → letters_fault (a ∷ (b ∷ l)) ≡ 0
letters-over a b (c ∷ l) u = fault-first (a ∷ (b ∷ (c ∷ l))) (λ e. omega arith) (λ e. omega arith)
letters-over a b [] u = go (ℕ_discrete a (code "L")) (ℕ_discrete b (code "S"))
  where
    go : Dec (a ≡ code "L") → Dec (b ≡ code "S") → letters_fault (a ∷ (b ∷ [])) ≡ 0
    go (no h) k = fault-no-line a b h
    go (yes h) (no k) = rw h (fault-no-slant b k)
    go (yes h) (yes k) = absurd (true≢false (rw (h, k) at u))

-- the one line of two bytes of which a third may decide
pub slant-line : (a b : ℕ) → is_slant a b ≡ true → bytes "LS" ≡ a ∷ (b ∷ [])
slant-line a b h =
    let x = (and-eq-true_iff (eqb a (code "L")) (eqb b (code "S"))).0 h in
    rw (eqb-true a (code "L") x.0, eqb-true b (code "S") x.1)

-- ---- one byte

abbrev first_of : Form → ℕ
first_of f = get_or f.fields 0 0

-- no command's letters start with a
abbrev unused : ℕ → List Form → Bool
unused a [] = true
unused a (f ∷ fs) = not (eqb a (first_of f)) && unused a fs

unused-first : (a : ℕ) (f : Form) (fs : List Form) → T (unused a (f ∷ fs)) → (eqb a (first_of f) ≡ false) × T (unused a fs)
unused-first a f fs h = let x = and_T (not (eqb a (first_of f))) (unused a fs) h in (go (eqb a (first_of f)) x.0, x.1)
  where
    go : (t : Bool) → T (not t) → t ≡ false
    go true k = absurd k
    go false k = refl

begins-none : (n a : ℕ) (l g : List ℕ) → eqb a (get_or g 0 0) ≡ false → (eqb (length (letters_of g)) (suc n) && begins (letters_of g) (a ∷ l)) ≡ false
begins-none n a l [] e = rw (eqb-zero-suc n)
begins-none n a l (x ∷ xs) e = rw (e, and-false)

find_none : (n a i : ℕ) (l : List ℕ) (fs : List Form) → T (unused a fs) → find (suc n) fs i (a ∷ l) ≡ None
unfolding find
find_none n a i l [] h = refl
find_none n a i l (f ∷ fs) h = let x = unused-first a f fs h in rw (begins-none n a l f.fields x.0) (find_none n a (suc i) l fs x.1)

head-none : (a : ℕ) (l : List ℕ) → T (unused a forms) → head_of (a ∷ l) ≡ None
unfolding head_of head_by
head-none a l h =
    let m : List ℕ = get_or l 0 0 ∷ (get_or l 1 0 ∷ []) in
    rw (find_none 2 a 0 m forms h, find_none 1 a 0 m forms h, find_none 0 a 0 m forms h)

cut-first : (a : ℕ) (g : List ℕ) → eqb a (get_or g 0 0) ≡ false → begins (a ∷ []) (letters_of g) ≡ false
cut-first a [] e = refl
cut-first a (x ∷ xs) e = rw (eqb_comm x a, e)

cut-none : (a : ℕ) (fs : List Form) → T (unused a fs) → letters_cut fs (a ∷ []) ≡ false
cut-none a [] h = refl
cut-none a (f ∷ fs) h = let x = unused-first a f fs h in rw (cut-first a f.fields x.0, and-false) (cut-none a fs x.1)

letters-none : (a : ℕ) → T (unused a forms) → letters_fault (a ∷ []) ≡ 0
unfolding letters_fault
letters-none a h = rw (cut-none a forms h)

-- what a well-formed line has behind its first byte
abbrev rests : List (ℕ × List ℕ)
rests =
    (code "Q", bytes "0,0") ∷ (code "q", bytes "0") ∷ (code "R", bytes "0,0") ∷ (code "Z", bytes "T") ∷ (code "L", bytes "O0,0,0,0") ∷ (code "X", bytes "0,0,0,0,0")
    ∷ (code "A", bytes "0,0,0,0,0,N,\"\"")
    ∷ (code "B", bytes "0,0,0,1,0,0,0,N,\"\"")
    ∷ (code "G", bytes "I")
    ∷ (code "F", bytes "I")
    ∷ (code "V", bytes "C")
    ∷ (code "C", bytes "0,0,0,\"\"")
    ∷ (code "?", bytes "C0,0")
    ∷ (code "P", bytes "0")
    ∷ (code "T", bytes "S0,0,0,0,0,0")
    ∷ []

abbrev rest_of : List (ℕ × List ℕ) → ℕ → List ℕ
rest_of [] a = []
rest_of (x ∷ xs) a = cond (eqb a x.0) x.1 (rest_of xs a)

-- where a line of one byte has not the written form, the byte behind it is at fault
abbrev behind_one : Result Command Fault → Bool
behind_one (Ok c) = true
behind_one (Err (form p)) = eqb p 1
behind_one (Err (Limit p)) = true

-- a line of one byte with its rest, and without it
abbrev starts : ℕ → ℕ → Bool
starts rows a = is_written (read_of rows (a ∷ rest_of rests a)) && behind_one (read_of rows (a ∷ []))

all_start : (rows : ℕ) → T (every (λ f. starts rows (first_of f)) forms)
unfolding every read_of headed judged head_of head_by find fields_from field_at limits_from field_limits meets spread in_order number_at signed_at byte_at letter_at type_at kind_from under_at under_from text_at element_at elements_from elements total data_at limits run between value_from letters_fault
all_start rows = tt

-- some command's letters start with a, or none do
start-or-not : (rows a : ℕ) (fs : List Form) → T (every (λ f. starts rows (first_of f)) fs) → T (starts rows a) ⊎ T (unused a fs)
unfolding every
start-or-not rows a [] h = inr tt
start-or-not rows a (f ∷ fs) h =
    let x = and_T (starts rows (first_of f)) (every (λ f. starts rows (first_of f)) fs) h in
    go (ℕ_discrete a (first_of f)) x.0 (start-or-not rows a fs x.1)
  where
    go : Dec (a ≡ first_of f) → T (starts rows (first_of f)) → T (starts rows a) ⊎ T (unused a fs) → T (starts rows a) ⊎ T (not (eqb a (first_of f)) && unused a fs)
    go (yes e) k r = inl (rw e k)
    go (no e) k (inl r) = inl r
    go (no e) k (inr r) = inr (rw (ne_eqb a (first_of f) e) r)

T_true : (b : Bool) → T b → b ≡ true
T_true true h = refl
T_true false h = absurd h

-- a line of one byte: some well-formed line starts with it and its LF is at fault, where it is refused; or nothing that starts with it is a command
pub data One (rows a : ℕ) : Type 0 where
  begun : EndsTooSoon rows (a ∷ []) → ((p : ℕ) → read_of rows (a ∷ []) ≡ Err (form p) → p ≡ 1) → One rows a
  never : letters_fault (a ∷ []) ≡ 0 → ((l : List ℕ) → head_of (a ∷ l) ≡ None) → One rows a

-- every byte is one of the two
pub one_byte : (rows a : ℕ) → One rows a
one_byte rows a = go (start-or-not rows a forms (all_start rows))
  where
    go : T (starts rows a) ⊎ T (unused a forms) → One rows a
    go (inl h) =
        let x = and_T (is_written (read_of rows (a ∷ rest_of rests a))) (behind_one (read_of rows (a ∷ []))) h in
        begun (record { more = rest_of rests a; written = T_true (is_written (read_of rows (a ∷ rest_of rests a))) x.0 })
        (λ p e. let z : T (eqb p 1) = rw e at x.1 in eqb→eq p 1 z)
    go (inr h) = never (letters-none a h) (λ l. head-none a l h)
