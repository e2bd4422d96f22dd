-- Paper 01, "Commands", and paper 02: each command as the paper writes it, with its limits and with what its fields make.
-- Assumes nothing.
use Rattle.std.specs.Prelude.{ℕ, suc, ◌+◌, ◌-◌, ◌≡◌, Bool, true, false, cond, ◌||◌, List, [], ◌∷◌, get_or, eqb}
use Prim.Native.Char.{code}
use Prim.Native.String.{String}
use Rattle.kinds.specs.Text.{bytes}
use Rattle.fields.specs.Field.{kind_from, under_from}
use Rattle.numbers.specs.Number.{nought}
use Rattle.grammar.specs.Makers.{Maker, box_of, slant_of, format_from, is_minus, step_of, side_of, named_from}
use Rattle.formats.specs.declared.Stamp.TheVariants.{Date, Time}
use Rattle.dots.specs.declared.Ink.TheVariants.{Black, White, Inverted}
use Rattle.grammar.specs.declared.Item.TheVariants.{Origin, Variable, Counter, Text, Bars, Frame, Picture}
use Rattle.grammar.specs.declared.PageCommand.TheVariants.{Length, Width, Turn, White as Whiten}
use Rattle.grammar.specs.declared.FormCommand.TheVariants.{Start, Retrieve, Erase as EraseForm}
use Rattle.grammar.specs.declared.PictureCommand.TheVariants.{Store, Erase as ErasePicture}
use Rattle.grammar.specs.declared.ValueCommand.TheVariants.{Variable as EnterVariable, Counter as EnterCounter, Clear, Print}
use Rattle.grammar.specs.declared.ListingCommand.TheVariants.{Forms as ListForms, Pictures as ListPictures, Form as ListForm}
use Rattle.grammar.specs.declared.Command.{Command}
use Rattle.grammar.specs.declared.Command.TheVariants.{Item as item, End, Page, Forms, Pictures, Values, Listing, Clock}

-- The written form of a command. In it n stands for a number, w for a number above the number before it, y for a day of the month before it and of the year
-- behind it, s for a number with or without sign, t for a quoted text, a for a name, z for a name or `"*"`, u for a quoted text of any length, m and j for one letter (mode,
-- justification), k for a bar type, h for what stands under bars, d for data, f for a format of the date and g for one of the time; any other byte stands for itself.
-- The limits: the least and the greatest value of each n, w, y and s, and of the length of each t, a and z, by the rows N of the page.
-- What the fields make: the command, of the line s, the value v and the place p of each field, counted from 0; bytes that stand for themselves do not count.
pub record Form : Type 0 where
  pub fields : List ℕ
  pub bounds : ℕ → List (ℕ × ℕ)
  pub makes : Maker

abbrev pub form : String → List (ℕ × ℕ) → Maker → Form
form f m c = record { fields = bytes f; bounds = λ rows. m; makes = c }

-- the commands of paper 01, and behind them those of paper 02, §8: "a, d 0..2047; b, e 0..4095; thickness c 1..80; black, inverting, white", and §10: "`TS` with month,
-- day, year 0..99 .. hour, minute, second in the manual's limits", "`TD` and `TT` with the manual's formats"
abbrev pub forms : List Form
forms =
    record { fields = bytes "Qn,n"; bounds = λ rows. (1, rows) ∷ (0, 240) ∷ []; makes = λ s v p. Page (Length (record { m = v 0; g = v 1 })) }
    ∷ form "qn" ((80, 608) ∷ []) (λ s v p. Page (Width (record { m = v 0 })))
    ∷ form "Rn,n" ((0, 2048) ∷ (0, 4096) ∷ []) (λ s v p. item (Origin (record { x = v 0; y = v 1 })))
    ∷ form "ZT" [] (λ s v p. Page (Turn (record { half = false })))
    ∷ form "ZB" [] (λ s v p. Page (Turn (record { half = true })))
    ∷ form "LOn,n,n,n" ((0, 2047) ∷ (0, 2047) ∷ (1, 2047) ∷ (1, 2047) ∷ []) (λ s v p. box_of Black v)
    ∷ form "LEn,n,n,n" ((0, 2047) ∷ (0, 2047) ∷ (1, 2047) ∷ (1, 2047) ∷ []) (λ s v p. box_of Inverted v)
    ∷ form "LWn,n,n,n" ((0, 2047) ∷ (0, 2047) ∷ (1, 2047) ∷ (1, 2047) ∷ []) (λ s v p. box_of White v)
    ∷ form "Xn,n,n,n,n" ((0, 2047) ∷ (0, 4095) ∷ (1, 80) ∷ (0, 2047) ∷ (0, 4095) ∷ []) (λ s v p. item (Frame (record { a = v 0; b = v 1; c = v 2; d = v 3; e = v 4 })))
    ∷ form "An,n,n,n,n,m,d" ((0, 2047) ∷ (0, 4095) ∷ (0, 3) ∷ (1, 6) ∷ (1, 9) ∷ []) (λ s v p. item (Text (record { x = v 0; y = v 1; r = v 2; h = v 3; v = v 4; reverse = eqb (v 5) (code "R"); at = p 6 })))
    ∷ form "Bn,n,n,k,n,w,n,h,d" ((0, 2047) ∷ (0, 4095) ∷ (0, 3) ∷ (1, 6) ∷ (2, 10) ∷ (24, 1000) ∷ []) (λ s v p. item (Bars (record { x = v 0; y = v 1; r = v 2; kind = kind_from (v 3); e = v 4; f = v 5; g = v 6; under = under_from (v 7); at = p 8 })))
    ∷ form "GGn,n,a" ((0, 2047) ∷ (0, 4095) ∷ (1, 8) ∷ []) (λ s v p. item (Picture (record { a = v 0; b = v 1; at = p 2; length = v 2 })))
    ∷ form "FSa" ((1, 8) ∷ []) (λ s v p. Forms (Start (named_from s (p 0) (v 0))))
    ∷ form "FE" [] (λ s v p. End)
    ∷ form "FRa" ((1, 8) ∷ []) (λ s v p. Forms (Retrieve (named_from s (p 0) (v 0))))
    ∷ form "FKz" ((1, 8) ∷ []) (λ s v p. Forms (EraseForm (named_from s (p 0) (v 0))))
    ∷ form "GKz" ((1, 8) ∷ []) (λ s v p. Pictures (ErasePicture (named_from s (p 0) (v 0))))
    ∷ form "FI" [] (λ s v p. Listing ListForms)
    ∷ form "GI" [] (λ s v p. Listing ListPictures)
    ∷ form "FPa" ((1, 8) ∷ []) (λ s v p. Listing (ListForm (named_from s (p 0) (v 0))))
    ∷ form "GMa,n" ((1, 8) ∷ (1, 32768) ∷ []) (λ s v p. Pictures (Store (record { at = p 0; length = v 0; n = v 1 })))
    ∷ form "VC" [] (λ s v p. Values Clear)
    ∷ form "Vn,n,j,t" ((0, 9) ∷ (1, 32) ∷ (0, 24) ∷ []) (λ s v p. item (Variable (record { n = v 0; m = v 1; j = side_of (v 2); at = p 3; length = v 3 })))
    ∷ form "Cn,n,s,t" ((0, 9) ∷ (1, 9) ∷ (nought - 99999, nought + 99999) ∷ (0, 24) ∷ []) (λ s v p. item (Counter (record { n = v 0; w = v 1; minus = is_minus (v 2); step = step_of (v 2); at = p 3; length = v 3 })))
    ∷ form "?Vn,u" ((0, 9) ∷ []) (λ s v p. Values (EnterVariable (record { n = v 0; at = p 1; length = v 1 })))
    ∷ form "?Cn,n" ((0, 9) ∷ (0, 999999999) ∷ []) (λ s v p. Values (EnterCounter (record { n = v 0; value = v 1 })))
    ∷ form "Pn" ((1, 65535) ∷ []) (λ s v p. Values (Print (record { k = v 0 })))
    ∷ form "N" [] (λ s v p. Page Whiten)
    ∷ form "LSn,n,n,n,n" ((0, 2047) ∷ (0, 4095) ∷ (1, 80) ∷ (0, 2047) ∷ (0, 4095) ∷ []) (λ s v p. slant_of Black v)
    ∷ form "LSEn,n,n,n,n" ((0, 2047) ∷ (0, 4095) ∷ (1, 80) ∷ (0, 2047) ∷ (0, 4095) ∷ []) (λ s v p. slant_of Inverted v)
    ∷ form "LSWn,n,n,n,n" ((0, 2047) ∷ (0, 4095) ∷ (1, 80) ∷ (0, 2047) ∷ (0, 4095) ∷ []) (λ s v p. slant_of White v)
    ∷ form "TSn,y,n,n,n,n" ((1, 12) ∷ (1, 31) ∷ (0, 99) ∷ (0, 23) ∷ (0, 59) ∷ (0, 59) ∷ []) (λ s v p. Clock (record { month = v 0; day = v 1; year = v 2; hour = v 3; minute = v 4; second = v 5 }))
    ∷ form "TDf" [] (λ s v p. format_from Date v)
    ∷ form "TTg" [] (λ s v p. format_from Time v)
    ∷ []

-- Past the last row there is none: it has no letters, so no line is ever read by it, and what it makes does not matter.
abbrev pub none : Form
none = form "" [] (λ s v p. End)

abbrev pub row_of : ℕ → Form
row_of row = get_or forms row none

-- ---- The limits of a row's fields

abbrev pub is_number : ℕ → Bool
is_number f = eqb f (code "n") || (eqb f (code "w") || eqb f (code "y"))

abbrev pub limited : ℕ → Bool
limited f = eqb f (code "n") || (eqb f (code "w") || (eqb f (code "y") || (eqb f (code "s") || (eqb f (code "t") || (eqb f (code "a") || eqb f (code "z"))))))

-- the limits, one for each byte of the form; where a byte has none, any
abbrev pub free : ℕ × ℕ
free = (0, 0)

unfoldable pub spread : List ℕ → List (ℕ × ℕ) → List (ℕ × ℕ)
spread [] ls = []
spread (f ∷ fs) [] = free ∷ spread fs []
spread (f ∷ fs) (l ∷ ls) = cond (limited f) (l ∷ spread fs ls) (free ∷ spread fs (l ∷ ls))

-- the bounds of a row's fields, by the rows of the page
abbrev pub bounds_of : ℕ → ℕ → List (ℕ × ℕ)
bounds_of row rows = spread (row_of row).fields ((row_of row).bounds rows)

-- ---- What the fields of a row make

-- a letter that stands for a field
abbrev pub is_field : ℕ → Bool
is_field f = limited f || (eqb f (code "u") || (eqb f (code "m") || (eqb f (code "j") || (eqb f (code "k") || (eqb f (code "h") || (eqb f (code "d") || (eqb f (code "f") || eqb f (code "g"))))))))

-- Reading a line fills a slot for each byte of the form. These are the slots of the fields alone, in their order, from the slot i on.
unfoldable pub in_order : List ℕ → ℕ → List ℕ → List ℕ
in_order [] i slots = []
in_order (f ∷ fs) i slots = cond (is_field f) (get_or slots i 0 ∷ in_order fs (suc i) slots) (in_order fs (suc i) slots)

-- the command that the values v and the places p of a row's fields make, on the line s
abbrev pub made : ℕ → List ℕ → List ℕ → List ℕ → Command
made row s v p = (row_of row).makes s (λ i. get_or v i 0) (λ i. get_or p i 0)

-- the same of the slots
abbrev pub command_of : ℕ → List ℕ → List ℕ → List ℕ → Command
command_of row s vs ps = made row s (in_order (row_of row).fields 0 vs) (in_order (row_of row).fields 0 ps)

-- This serves the code: a command that the slots of a row make whatever the line is.
abbrev pub Makes : ℕ → List ℕ → List ℕ → Command → Type 0
Makes row vs ps c = (s : List ℕ) → c ≡ command_of row s vs ps
