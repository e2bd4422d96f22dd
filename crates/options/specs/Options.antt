-- The words of the command line: -rows N, -font F, -out PREFIX, -store FILE, -quiet, -zone MINUTES, -noclock, -fits and what is asked; any other word that
-- starts with `-` is no option. -repair stands by itself. Assumes nothing.
use Rattle.std.specs.Prelude.{ℕ, Bool, ◌+◌, ◌-◌, cond, ◌&&◌, List, length, get_or, eqb, leb, ltb, Option, Some, None, Result, Ok, Err}
use Prim.Native.Char.{code}
use Rattle.kinds.specs.Text.{bytes}
use Rattle.numbers.specs.Number.{nought, number_at, signed_at}
use Rattle.writing.specs.Writing.{equal}
use Rattle.options.specs.declared.Word.{Word}
use Rattle.options.specs.declared.Word.TheVariants.{Rows, Font, Out, Store, Quiet, Zone, NoClock, Fits, Unknown, File}
use Rattle.options.specs.declared.Kind.{Kind}
use Rattle.options.specs.declared.Kind.TheVariants.{Form, Picture}

unfoldable pub word_of : List ℕ → Word
word_of text =
    cond (equal text (bytes "-rows")) Rows
    (cond (equal text (bytes "-font")) Font
    (cond (equal text (bytes "-out")) Out
    (cond (equal text (bytes "-store")) Store
    (cond (equal text (bytes "-quiet")) Quiet
    (cond (equal text (bytes "-zone")) Zone
    (cond (equal text (bytes "-noclock")) NoClock
    (cond (equal text (bytes "-fits")) Fits
    (cond (eqb (get_or text 0 0) (code "-")) Unknown File))))))))

-- the word that asks for the repair of a store
unfoldable pub asks_repair : List ℕ → Bool
asks_repair text = equal text (bytes "-repair")

-- a number that fills the text
abbrev pub whole_from : List ℕ → Result (ℕ × ℕ) ℕ → Option ℕ
whole_from text (Ok (n, end)) = cond (ltb end (length text)) None (Some n)
whole_from text (Err at) = None

unfoldable pub whole_number : List ℕ → Option ℕ
whole_number text = whole_from text (number_at text 0)

-- one that is 1 to 4,000
abbrev pub rows_from : Option ℕ → Option ℕ
rows_from (Some n) = cond (ltb 0 n && leb n 4000) (Some n) None
rows_from None = None

unfoldable pub rows_of : List ℕ → Option ℕ
rows_of text = rows_from (whole_number text)

-- minutes ahead of UTC, with or without sign and less than a day, counted from -1,000,000,000
abbrev pub zone_from : Option ℕ → Option ℕ
zone_from (Some v) = cond (leb (nought - 1439) v && leb v (nought + 1439)) (Some v) None
zone_from None = None

unfoldable pub zone_of : List ℕ → Option ℕ
zone_of text = zone_from (whole_from text (signed_at text 0))

-- what -fits asks for: `form NAME` or `picture NAME SIZE`
unfoldable pub kind_of : List ℕ → Option Kind
kind_of text = cond (equal text (bytes "form")) (Some Form) (cond (equal text (bytes "picture")) (Some Picture) None)
