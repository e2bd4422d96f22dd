-- The numbers of a command that was read lie within the limits of papers 01 and 02: those that a session keeps, how many bytes follow a GM, those of bars, all five
-- of a slanted line, and the date and time of a TS.
-- Assumes nothing.
use Rattle.std.proofs.Common.{Ok, Result, Err}
use mathlib.Core.Path.{◌≡◌, refl, ap, subst, ◌∙◌}
use mathlib.Core.Bool.{Bool, true, false, cond, ◌&&◌, false≢true}
use mathlib.Core.List.{List, [], ◌∷◌, ◌++◌}
use Prim.Native.Nat.{ℕ, zero, suc, ◌≤◌, ◌<◌}
use lib.ListN.{length, get_or, drop}
use lib.Dec.{ltb}
use borrow.Author.Tests.{ltb-true}
use Rattle.kinds.specs.Bytes.{between}
use Rattle.kinds.specs.Text.{bytes}
use Rattle.grammar.specs.declared.Item.{Item}
use Rattle.grammar.specs.declared.Item.TheVariants.{Origin, Variable, Counter, Text, Bars, Box, Frame, Slant, Picture, Format}
use Rattle.grammar.specs.declared.Command.{Command}
use Rattle.grammar.specs.declared.Command.TheVariants.{Item as item, End, Page, Forms, Pictures, Values, Listing, Clock}
use Rattle.grammar.specs.declared.PageCommand.TheVariants.{Length, Width, Turn, White}
use Rattle.grammar.specs.declared.PictureCommand.TheVariants.{Store, Erase as ErasePicture}
use Rattle.grammar.specs.declared.ValueCommand.TheVariants.{Variable as EnterVariable, Counter as EnterCounter, Clear, Print}
use Rattle.kinds.proofs.Laws.{between-facts}
use Rattle.grammar.specs.Named.{LENGTH, WIDTH, ORIGIN, BARS, GM, PRINT, LS, LSE, LSW, TS}
use Rattle.grammar.specs.Forms.{forms, bounds_of, is_number, spread, free, in_order}
use Rattle.grammar.proofs.Rows.{◌&◌, Each}
use Rattle.row_limits.specs.Limits.{limits_from, field_limits, meets, day_there}
use Rattle.read.specs.Commands.{read_of}
use Rattle.keeps_sound.proofs.Layers.{first_of, second-of}
use Rattle.keeps_sound.proofs.Titles.{Told, limits-tell, first-within, limits-rest}

-- what is known of the numbers, on a page of so many rows
abbrev pub Ranged : ℕ × ℕ → ℕ → Type 0
Ranged l n = (l.0 ≤ n) × (n ≤ l.1)

abbrev pub ItemRanged : Item → Type 0
ItemRanged (Origin o) = Ranged (0, 2048) o.x × Ranged (0, 4096) o.y
ItemRanged (Variable v) = Unit {0}
ItemRanged (Counter c) = Unit {0}
ItemRanged (Text t) = Unit {0}
ItemRanged (Bars b) =
    Ranged (0, 2047) b.x × (Ranged (0, 4095) b.y × (Ranged (1, 6) b.e × ((Ranged (2, 10) b.f × (b.e < b.f)) × Ranged (24, 1000) b.g)))
ItemRanged (Box r) = Unit {0}
ItemRanged (Frame f) = Unit {0}
ItemRanged (Slant l) = Ranged (0, 2047) l.a × (Ranged (0, 4095) l.b × (Ranged (1, 80) l.c × (Ranged (0, 2047) l.d × Ranged (0, 4095) l.e)))
ItemRanged (Picture p) = Unit {0}
ItemRanged (Format f) = Unit {0}

abbrev pub CommandRanged : ℕ → Command → Type 0
CommandRanged rows (item it) = ItemRanged it
CommandRanged rows End = Unit {0}
CommandRanged rows (Page (Length l)) = Ranged (1, rows) l.m
CommandRanged rows (Page (Width m)) = Ranged (80, 608) m.m
CommandRanged rows (Page (Turn t)) = Unit {0}
CommandRanged rows (Page White) = Unit {0}
CommandRanged rows (Forms c) = Unit {0}
CommandRanged rows (Pictures (Store p)) = Ranged (1, 32768) p.n
CommandRanged rows (Pictures (ErasePicture n)) = Unit {0}
CommandRanged rows (Values (EnterVariable v)) = Unit {0}
CommandRanged rows (Values (EnterCounter c)) = Unit {0}
CommandRanged rows (Values Clear) = Unit {0}
CommandRanged rows (Values (Print p)) = Ranged (1, 65535) p.k
CommandRanged rows (Listing c) = Unit {0}
CommandRanged rows (Clock c) =
    Ranged (1, 12) c.month
    × ((Ranged (1, 31) c.day × (day_there c.month c.day c.year ≡ true))
    × (Ranged (0, 99) c.year × (Ranged (0, 23) c.hour × (Ranged (0, 59) c.minute × Ranged (0, 59) c.second))))

-- ---- fields within their limits

abbrev is_within : Result Unit ℕ → Bool
is_within (Ok u) = true
is_within (Err p) = false

chosen-within : (b : Bool) (p : ℕ) → ◌≡◌ {A = Result Unit ℕ} (cond b (Ok tt) (Err p)) (Ok tt) → b ≡ true
chosen-within true p e = refl
chosen-within false p e = absurd (false≢true (ap is_within e))

field-within : (l : ℕ × ℕ) (s : List ℕ) (u v p n : ℕ) → field_limits 110 l s u v p n ≡ Ok tt → Ranged l v
unfolding field_limits
field-within l s u v p n e =
    between-facts l.0 l.1 v (first_of (between l.0 l.1 v) (meets 110 s u v p n) (chosen-within (between l.0 l.1 v && meets 110 s u v p n) p e))

number-within :
    (fs : List ℕ) (ls : List (ℕ × ℕ)) (s : List ℕ) (u : ℕ) (vs ps : List ℕ) → limits_from (110 ∷ fs) ls s u vs ps ≡ Ok tt →
    Ranged (get_or ls 0 free) (get_or vs 0 0)
unfolding limits_from
number-within fs ls s u vs ps e =
    field-within (get_or ls 0 free) s u (get_or vs 0 0) (get_or ps 0 0) (get_or vs 2 0)
    (first-within (field_limits 110 (get_or ls 0 free) s u (get_or vs 0 0) (get_or ps 0 0) (get_or vs 2 0))
    (limits_from fs (drop 1 ls) s (cond (is_number 110) (get_or vs 0 0) u) (drop 1 vs) (drop 1 ps)) e).0

get_or-next : {A : Type 0} (l : List A) (i : ℕ) (d : A) → get_or (drop 1 l) i d ≡ get_or l (suc i) d
get_or-next [] i d = refl
get_or-next (x ∷ xs) i d = refl

-- a number behind other fields
number_behind :
    (before fs : List ℕ) (ls : List (ℕ × ℕ)) (s : List ℕ) (u : ℕ) (vs ps : List ℕ) → limits_from (before ++ (110 ∷ fs)) ls s u vs ps ≡ Ok tt →
    Ranged (get_or ls (length before) free) (get_or vs (length before) 0)
number_behind [] fs ls s u vs ps e = number-within fs ls s u vs ps e
number_behind (f ∷ before) fs ls s u vs ps e =
    let r = limits-rest f (before ++ (110 ∷ fs)) ls s u vs ps e in
    let h = number_behind before fs (drop 1 ls) s (cond (is_number f) (get_or vs 0 0) u) (drop 1 vs) (drop 1 ps) r in
    subst (λ (l : ℕ × ℕ). Ranged l (get_or vs (suc (length before)) 0)) (get_or-next ls (length before) free)
    (subst (Ranged (get_or (drop 1 ls) (length before) free)) (get_or-next vs (length before) 0) h)

-- the wide width behind the narrow one, which must be less
wide-field : (l : ℕ × ℕ) (s : List ℕ) (u v p n : ℕ) → field_limits 119 l s u v p n ≡ Ok tt → Ranged l v × (u < v)
unfolding field_limits meets
wide-field l s u v p n e =
    let h = chosen-within (between l.0 l.1 v && ltb u v) p e in
    (between-facts l.0 l.1 v (first_of (between l.0 l.1 v) (ltb u v) h), ltb-true u v (second-of (between l.0 l.1 v) (ltb u v) h))

wide-within :
    (fs : List ℕ) (ls : List (ℕ × ℕ)) (s : List ℕ) (u : ℕ) (vs ps : List ℕ) → limits_from (119 ∷ fs) ls s u vs ps ≡ Ok tt →
    Ranged (get_or ls 0 free) (get_or vs 0 0) × (u < get_or vs 0 0)
unfolding limits_from
wide-within fs ls s u vs ps e =
    wide-field (get_or ls 0 free) s u (get_or vs 0 0) (get_or ps 0 0) (get_or vs 2 0)
    (first-within (field_limits 119 (get_or ls 0 free) s u (get_or vs 0 0) (get_or ps 0 0) (get_or vs 2 0))
    (limits_from fs (drop 1 ls) s (cond (is_number 119) (get_or vs 0 0) u) (drop 1 vs) (drop 1 ps)) e).0

get_or-third : {A : Type 0} (l : List A) (d : A) → get_or (drop 1 (drop 1 l)) 0 d ≡ get_or l 2 d
get_or-third l d = get_or-next (drop 1 l) 0 d ∙ get_or-next l 1 d

wide-behind :
    (before fs : List ℕ) (ls : List (ℕ × ℕ)) (s : List ℕ) (u : ℕ) (vs ps : List ℕ) → limits_from (before ++ (110 ∷ 44 ∷ 119 ∷ fs)) ls s u vs ps ≡ Ok tt →
    Ranged (get_or ls (suc (suc (length before))) free) (get_or vs (suc (suc (length before))) 0)
    × (get_or vs (length before) 0 < get_or vs (suc (suc (length before))) 0)
wide-behind [] fs ls s u vs ps e =
    let a = limits-rest 110 (44 ∷ 119 ∷ fs) ls s u vs ps e in
    let b = limits-rest 44 (119 ∷ fs) (drop 1 ls) s (get_or vs 0 0) (drop 1 vs) (drop 1 ps) a in
    let c = wide-within fs (drop 1 (drop 1 ls)) s (get_or vs 0 0) (drop 1 (drop 1 vs)) (drop 1 (drop 1 ps)) b in
    rw (get_or-third ls free, get_or-third vs 0) at c
wide-behind (f ∷ before) fs ls s u vs ps e =
    let r = limits-rest f (before ++ (110 ∷ 44 ∷ 119 ∷ fs)) ls s u vs ps e in
    let h = wide-behind before fs (drop 1 ls) s (cond (is_number f) (get_or vs 0 0) u) (drop 1 vs) (drop 1 ps) r in
    rw (get_or-next ls (suc (suc (length before))) free, get_or-next vs (suc (suc (length before))) 0, get_or-next vs (length before) 0) at h

-- the day behind the month and before the year, which must be one of theirs
day-field : (l : ℕ × ℕ) (s : List ℕ) (u v p n : ℕ) → field_limits 121 l s u v p n ≡ Ok tt → Ranged l v × (day_there u v n ≡ true)
unfolding field_limits meets
day-field l s u v p n e =
    let h = chosen-within (between l.0 l.1 v && day_there u v n) p e in
    (between-facts l.0 l.1 v (first_of (between l.0 l.1 v) (day_there u v n) h), second-of (between l.0 l.1 v) (day_there u v n) h)

day-within :
    (fs : List ℕ) (ls : List (ℕ × ℕ)) (s : List ℕ) (u : ℕ) (vs ps : List ℕ) → limits_from (121 ∷ fs) ls s u vs ps ≡ Ok tt →
    Ranged (get_or ls 0 free) (get_or vs 0 0) × (day_there u (get_or vs 0 0) (get_or vs 2 0) ≡ true)
unfolding limits_from
day-within fs ls s u vs ps e =
    day-field (get_or ls 0 free) s u (get_or vs 0 0) (get_or ps 0 0) (get_or vs 2 0)
    (first-within (field_limits 121 (get_or ls 0 free) s u (get_or vs 0 0) (get_or ps 0 0) (get_or vs 2 0))
    (limits_from fs (drop 1 ls) s (cond (is_number 121) (get_or vs 0 0) u) (drop 1 vs) (drop 1 ps)) e).0

day-behind :
    (fs : List ℕ) (ls : List (ℕ × ℕ)) (s : List ℕ) (u : ℕ) (vs ps : List ℕ) → limits_from (bytes "TSn,y" ++ fs) ls s u vs ps ≡ Ok tt →
    Ranged (get_or ls 4 free) (get_or vs 4 0) × (day_there (get_or vs 2 0) (get_or vs 4 0) (get_or vs 6 0) ≡ true)
day-behind fs ls s u vs ps e =
    let a = limits-rest 84 (bytes "Sn,y" ++ fs) ls s u vs ps e in
    let b = limits-rest 83 (bytes "n,y" ++ fs) (drop 1 ls) s u (drop 1 vs) (drop 1 ps) a in
    let c = limits-rest 110 (bytes ",y" ++ fs) (drop 1 (drop 1 ls)) s u (drop 1 (drop 1 vs)) (drop 1 (drop 1 ps)) b in
    let m : ℕ = get_or (drop 1 (drop 1 vs)) 0 0 in
    let d = limits-rest 44 (bytes "y" ++ fs) (drop 1 (drop 1 (drop 1 ls))) s m (drop 1 (drop 1 (drop 1 vs))) (drop 1 (drop 1 (drop 1 ps))) c in
    let h = day-within fs (drop 1 (drop 1 (drop 1 (drop 1 ls)))) s m (drop 1 (drop 1 (drop 1 (drop 1 vs)))) (drop 1 (drop 1 (drop 1 (drop 1 ps)))) d in
    rw (fourth-on ls 0 free, fourth-on vs 0 0, fourth-on vs 2 0, get_or-third vs 0) at h
  where
    fourth-on : {A : Type 0} (l : List A) (i : ℕ) (d : A) → get_or (drop 1 (drop 1 (drop 1 (drop 1 l)))) i d ≡ get_or l (suc (suc (suc (suc i)))) d
    fourth-on l i d =
        get_or-next (drop 1 (drop 1 (drop 1 l))) i d ∙ get_or-next (drop 1 (drop 1 l)) (suc i) d ∙ get_or-next (drop 1 l) (suc (suc i)) d
        ∙ get_or-next l (suc (suc (suc i))) d

-- so many numbers and one more from slot k on, each with a comma behind it, lie within their limits
abbrev Numbers : ℕ → List (ℕ × ℕ) → List ℕ → ℕ → Type 0
Numbers zero ls vs k = Ranged (get_or ls k free) (get_or vs k 0)
Numbers (suc n) ls vs k = Ranged (get_or ls k free) (get_or vs k 0) × Numbers n ls vs (suc (suc k))

-- the five numbers of a slanted line
slant-behind :
    (letters : List ℕ) (ls : List (ℕ × ℕ)) (s : List ℕ) (u : ℕ) (vs ps : List ℕ) → limits_from (letters ++ bytes "n,n,n,n,n") ls s u vs ps ≡ Ok tt →
    Numbers 4 ls vs (length letters)
slant-behind [] ls s u vs ps e = (
  number_behind [] (bytes ",n,n,n,n") ls s u vs ps e,
  (
    number_behind (bytes "n,") (bytes ",n,n,n") ls s u vs ps e,
    (
      number_behind (bytes "n,n,") (bytes ",n,n") ls s u vs ps e,
      (number_behind (bytes "n,n,n,") (bytes ",n") ls s u vs ps e, number_behind (bytes "n,n,n,n,") [] ls s u vs ps e),
    ),
  ),
)
slant-behind (f ∷ letters) [] s u [] ps e = slant-behind letters [] s _ [] (drop 1 ps) (limits-rest f (letters ++ bytes "n,n,n,n,n") [] s u [] ps e)
slant-behind (f ∷ letters) [] s u (v ∷ vs) ps e =
    slant-behind letters [] s _ vs (drop 1 ps) (limits-rest f (letters ++ bytes "n,n,n,n,n") [] s u (v ∷ vs) ps e)
slant-behind (f ∷ letters) (l ∷ ls) s u [] ps e =
    slant-behind letters ls s _ [] (drop 1 ps) (limits-rest f (letters ++ bytes "n,n,n,n,n") (l ∷ ls) s u [] ps e)
slant-behind (f ∷ letters) (l ∷ ls) s u (v ∷ vs) ps e =
    slant-behind letters ls s _ vs (drop 1 ps) (limits-rest f (letters ++ bytes "n,n,n,n,n") (l ∷ ls) s u (v ∷ vs) ps e)

-- ---- every row: a session keeps the numbers of Q, q, R and P, a call reads as many bytes as GM says, bars are drawn within
-- their limits, a slanted line by its five, and the clock keeps the numbers of TS

ranges : Each (Told (λ rows s. CommandRanged rows)) forms
unfolding spread in_order
ranges =
    (λ rows s vs ps h. number_behind (81 ∷ []) (44 ∷ 110 ∷ []) (bounds_of LENGTH rows) s 0 vs ps h)
    & (λ rows s vs ps h. number_behind (113 ∷ []) [] (bounds_of WIDTH rows) s 0 vs ps h)
    & (λ rows s vs ps h. (number_behind (82 ∷ []) (44 ∷ 110 ∷ []) (bounds_of ORIGIN rows) s 0 vs ps h, number_behind (82 ∷ 110 ∷ 44 ∷ []) [] (bounds_of ORIGIN rows) s 0 vs ps h))
    & (λ rows s vs ps h. tt)
    & (λ rows s vs ps h. tt)
    & (λ rows s vs ps h. tt)
    & (λ rows s vs ps h. tt)
    & (λ rows s vs ps h. tt)
    & (λ rows s vs ps h. tt)
    & (λ rows s vs ps h. tt)
    & (λ rows s vs ps h. (
      number_behind (bytes "B") (bytes ",n,n,k,n,w,n,h,d") (bounds_of BARS rows) s 0 vs ps h,
      (
        number_behind (bytes "Bn,") (bytes ",n,k,n,w,n,h,d") (bounds_of BARS rows) s 0 vs ps h,
        (
          number_behind (bytes "Bn,n,n,k,") (bytes ",w,n,h,d") (bounds_of BARS rows) s 0 vs ps h,
          (
            wide-behind (bytes "Bn,n,n,k,") (bytes ",n,h,d") (bounds_of BARS rows) s 0 vs ps h,
            number_behind (bytes "Bn,n,n,k,n,w,") (bytes ",h,d") (bounds_of BARS rows) s 0 vs ps h,
          ),
        ),
      ),
    ))
    & (λ rows s vs ps h. tt)
    & (λ rows s vs ps h. tt)
    & (λ rows s vs ps h. tt)
    & (λ rows s vs ps h. tt)
    & (λ rows s vs ps h. tt)
    & (λ rows s vs ps h. tt)
    & (λ rows s vs ps h. tt)
    & (λ rows s vs ps h. tt)
    & (λ rows s vs ps h. tt)
    & (λ rows s vs ps h. number_behind (71 ∷ 77 ∷ 97 ∷ 44 ∷ []) [] (bounds_of GM rows) s 0 vs ps h)
    & (λ rows s vs ps h. tt)
    & (λ rows s vs ps h. tt)
    & (λ rows s vs ps h. tt)
    & (λ rows s vs ps h. tt)
    & (λ rows s vs ps h. tt)
    & (λ rows s vs ps h. number_behind (80 ∷ []) [] (bounds_of PRINT rows) s 0 vs ps h)
    & (λ rows s vs ps h. tt)
    & (λ rows s vs ps h. slant-behind (bytes "LS") (bounds_of LS rows) s 0 vs ps h)
    & (λ rows s vs ps h. slant-behind (bytes "LSE") (bounds_of LSE rows) s 0 vs ps h)
    & (λ rows s vs ps h. slant-behind (bytes "LSW") (bounds_of LSW rows) s 0 vs ps h)
    & (λ rows s vs ps h. (
      number_behind (bytes "TS") (bytes ",y,n,n,n,n") (bounds_of TS rows) s 0 vs ps h,
      (
        day-behind (bytes ",n,n,n,n") (bounds_of TS rows) s 0 vs ps h,
        (
          number_behind (bytes "TSn,y,") (bytes ",n,n,n") (bounds_of TS rows) s 0 vs ps h,
          (
            number_behind (bytes "TSn,y,n,") (bytes ",n,n") (bounds_of TS rows) s 0 vs ps h,
            (number_behind (bytes "TSn,y,n,n,") (bytes ",n") (bounds_of TS rows) s 0 vs ps h, number_behind (bytes "TSn,y,n,n,n,") [] (bounds_of TS rows) s 0 vs ps h),
          ),
        ),
      ),
    ))
    & (λ rows s vs ps h. tt)
    & (λ rows s vs ps h. tt)
    & (λ k rows s vs ps h. tt)

pub read-ranges : (rows : ℕ) (s : List ℕ) (c : Command) → read_of rows s ≡ Ok c → CommandRanged rows c
read-ranges rows s c e = limits-tell (λ rows s. CommandRanged rows) ranges rows s c e
