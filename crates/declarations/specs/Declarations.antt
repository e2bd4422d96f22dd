-- What a form declares: ten variables and ten counters, each declared or not; and the formats of date and time, which hold for the lines after them as declarations do.
-- Assumes nothing.
use Rattle.std.specs.Prelude.{ℕ, zero, suc, min, Bool, true, cond, ◌&&◌, List, get_or, set, replicate, ltb, eqb}
use Rattle.formats.specs.declared.Format.{Format}
use Rattle.formats.specs.declared.Formats.{Formats}
use Rattle.formats.specs.declared.Stamp.{Stamp}
use Rattle.formats.specs.Formats.{examples, with_format}
use Rattle.declarations.specs.declared.Declared.{Declared}

-- "n 0..9": of ten numbers the one at k, 0 at another place
abbrev pub tenth : List ℕ → ℕ → ℕ
tenth l k = cond (ltb k 10) (get_or l k 0) 0

-- the test holds of n numbers from k on
abbrev pub every : (ℕ → Bool) → ℕ → ℕ → Bool
every q zero k = true
every q (suc n) k = q k && every q n (suc k)

-- "m 1..32": a variable's length, 0 where it is not declared
abbrev pub length_at : Declared → ℕ → ℕ
length_at d k = min (tenth d.lengths k) 32

-- "j L, R, C, N or Z": its justification, as a byte
abbrev pub side_at : Declared → ℕ → ℕ
side_at d k = tenth d.sides k

-- "w 1..9": a counter's width, 0 where it is not declared
abbrev pub width_at : Declared → ℕ → ℕ
width_at d k = min (tenth d.widths k) 9

-- "s with or without sign": whether the step goes back (1), and how far it goes
abbrev pub minus_at : Declared → ℕ → Bool
minus_at d k = eqb (tenth d.minus k) 1

abbrev pub step_at : Declared → ℕ → ℕ
step_at d k = tenth d.steps k

-- a length of 0 is none declared, and so is a width
abbrev pub variable_declared : Declared → ℕ → Bool
variable_declared d k = ltb 0 (length_at d k)

abbrev pub counter_declared : Declared → ℕ → Bool
counter_declared d k = ltb 0 (width_at d k)

-- nothing is declared, and these formats are in force
abbrev pub outside_forms : Formats → Declared
outside_forms fs = record {
  lengths = replicate 10 0;
  sides = replicate 10 0;
  widths = replicate 10 0;
  minus = replicate 10 0;
  steps = replicate 10 0;
  formats = fs;
}

-- at the start of a form: paper 02, §10, "each label starts from the example formats, and so does the check of each form"
unfoldable pub nothing : Declared
nothing = outside_forms examples

-- `Vn,m,j`: a length above 32 counts as 32, and an n above 9 declares nothing
unfoldable pub with_variable : Declared → ℕ → ℕ → ℕ → Declared
with_variable d n m j = cond (ltb n 10)
    (record {
      lengths = set d.lengths n (min m 32);
      sides = set d.sides n j;
      widths = d.widths;
      minus = d.minus;
      steps = d.steps;
      formats = d.formats;
    })
    d

-- `Cn,w,s`: a width above 9 counts as 9, a step above 99999 as 99999, and an n above 9 declares nothing
unfoldable pub with_counter : Declared → ℕ → ℕ → Bool → ℕ → Declared
with_counter d n w minus step = cond (ltb n 10)
    (record {
      lengths = d.lengths;
      sides = d.sides;
      widths = set d.widths n (min w 9);
      minus = set d.minus n (cond minus 1 0);
      steps = set d.steps n (min step 99999);
      formats = d.formats;
    })
    d

-- `TD` and `TT`: the format that is shown from then on
unfoldable pub formatted : Declared → Stamp → Format → Declared
formatted d st f =
    record {
      lengths = d.lengths;
      sides = d.sides;
      widths = d.widths;
      minus = d.minus;
      steps = d.steps;
      formats = with_format d.formats st f;
    }
