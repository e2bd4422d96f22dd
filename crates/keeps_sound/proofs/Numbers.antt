-- The commands over the session's numbers and the background lead from a sound world to a sound one: Q, q, ZT and ZB, and the items that are drawn
-- outside a form.
-- Assumes nothing.
use Rattle.std.proofs.Common.{Ok}
use mathlib.Core.Path.{◌≡◌, refl, ap, ◌∙◌}
use mathlib.Core.Bool.{Bool, true, false, cond}
use mathlib.Core.List.{List}
use Prim.Native.Nat.{ℕ, ◌/◌, ◌≤◌}
use native.Mathlib.Omega.{arith}
use lib.ListN.{length}
use Rattle.cells.specs.Cell.{zeros}
use Rattle.cells.proofs.Cells.{length-zeros}
use Rattle.declarations.specs.Declarations.{outside_forms}
use Rattle.grammar.specs.declared.Item.{Item}
use Rattle.grammar.specs.declared.Item.TheVariants.{Origin, Variable, Counter, Text, Bars, Box, Frame, Slant, Picture, Format}
use Rattle.grammar.specs.declared.Length.{Length as LengthOf}
use Rattle.grammar.specs.declared.Width.{Width as WidthOf}
use Rattle.grammar.specs.declared.Turn.{Turn as TurnOf}
use Rattle.grammar.specs.declared.Command.TheVariants.{Item as item, Page}
use Rattle.grammar.specs.declared.PageCommand.TheVariants.{Length, Width, Turn}
use Rattle.read.specs.Commands.{read_of}
use Rattle.item_drawing.specs.Draw.{Setting, setting, draws_item}
use Rattle.sound.specs.Sound.{numbers_ok, times_ok, background_ok}
use Rattle.activity_check.specs.Activity.{activity_sound}
use Rattle.session.specs.declared.Session.{Session}
use Rattle.session.specs.Session.{sized, turning, based, formatted, sixteen_bits}
use Rattle.formats.specs.Formats.{with_format}
use Rattle.lent.specs.Lent.{World, rows_of}
use Rattle.session.specs.Active.{active_of}
use Rattle.results.specs.World.{with_background}
use Rattle.item_commands.specs.Items.{drawn_on, based_by}
use Rattle.calls.specs.Does.{runs}
use Rattle.keeps_sound.specs.Good.{Good}
use Rattle.keeps_sound.proofs.Facts.{Numbers, numbers-facts, facts-numbers}
use Rattle.keeps_sound.proofs.Limits.{Ranged, ItemRanged, read-ranges}
use Rattle.normal.proofs.Stays.{format-legal}
use Rattle.sound.proofs.Times.{times-with}
use Rattle.keeps_sound.proofs.Fresh.{white-zeros}
use Rattle.keeps_sound.proofs.Drawing.{length-item, white-item}

-- ---- a background of the same length

rows_same : (w : World) (b : List ℕ) → length b ≡ length w.background → rows_of (with_background w b) ≡ rows_of w
rows_same w b e = ap (λ (n : ℕ). n / 76) e

pub background-good :
    (s s' : Session) (w : World) (b : List ℕ) → Good s w → times_ok s'.clock s'.formats ≡ true → s'.free ≡ s.free → length b ≡ length w.background → Numbers (rows_of w) s' →
    background_ok s'.width s'.length b ≡ true → activity_sound s' w.directory (active_of w s') w.values ≡ true → Good s' (with_background w b)
background-good s s' w b g t f e n h a = record {
  lengths = rw e g.lengths;
  numbers = ap (λ (k : ℕ). numbers_ok k s') (rows_same w b e) ∙ facts-numbers (rows_of w) s' n;
  times = t;
  background = h;
  store = g.store;
  free = f ∙ g.free;
  contents = g.contents;
  activity = a;
}

module _ (font : List ℕ) (w : World) (s : Session) (line more : List ℕ) (g : Good s w) where
  -- ---- Q and q: "Both whiten the background"

  pub keeps-length : (l : LengthOf) → read_of (rows_of w) line ≡ Ok (Page (Length l))
      → Good (runs font w s line more (Page (Length l))).session (runs font w s line more (Page (Length l))).world
  unfolding activity_sound
  keeps-length l e =
      let n = numbers-facts (rows_of w) s g.numbers in
      let r : Ranged (1, rows_of w) l.m = read-ranges (rows_of w) line (Page (Length l)) e in
      background-good s (sized s s.width (sixteen_bits l.m)) w (zeros (length w.background)) g g.times refl (length-zeros (length w.background)) (record {
        wide-least = n.wide-least;
        wide-most = n.wide-most;
        long-least = omega (arith, r.0);
        long-most = omega (arith, r.1);
        turn = n.turn;
        x = n.x;
        y = n.y;
      }) (white-zeros s.width (sixteen_bits l.m) (length w.background)) g.activity

  pub keeps-width : (m : WidthOf) → read_of (rows_of w) line ≡ Ok (Page (Width m))
      → Good (runs font w s line more (Page (Width m))).session (runs font w s line more (Page (Width m))).world
  unfolding activity_sound
  keeps-width m e =
      let n = numbers-facts (rows_of w) s g.numbers in
      let r : Ranged (80, 608) m.m = read-ranges (rows_of w) line (Page (Width m)) e in
      background-good s (sized s (sixteen_bits m.m) s.length) w (zeros (length w.background)) g g.times refl (length-zeros (length w.background)) (record {
        wide-least = omega (arith, r.0);
        wide-most = omega (arith, r.1);
        long-least = n.long-least;
        long-most = n.long-most;
        turn = n.turn;
        x = n.x;
        y = n.y;
      }) (white-zeros (sixteen_bits m.m) s.length (length w.background)) g.activity

  -- ---- ZT and ZB

  half-turn : (b : Bool) → cond b 1 0 ≤ 1
  half-turn true = omega arith
  half-turn false = omega arith

  pub keeps-turn : (t : TurnOf) → Good (runs font w s line more (Page (Turn t))).session (runs font w s line more (Page (Turn t))).world
  unfolding activity_sound
  keeps-turn t =
      let n = numbers-facts (rows_of w) s g.numbers in
      record {
        lengths = g.lengths;
        numbers = facts-numbers (rows_of w) (turning s (cond t.half 1 0)) (record {
          wide-least = n.wide-least;
          wide-most = n.wide-most;
          long-least = n.long-least;
          long-most = n.long-most;
          turn = half-turn t.half;
          x = n.x;
          y = n.y;
        });
        times = g.times;
        background = g.background;
        store = g.store;
        free = g.free;
        contents = g.contents;
        activity = g.activity;
      }

  -- ---- an item: what it draws is cut at width and length

  abbrev here : Setting
  here = setting font w.store w.links w.directory w.values s.counters s.clock s.width s.length

  drawn-length : (it : Item) → length (draws_item here (outside_forms s.formats) s.x s.y line it w.background) ≡ length w.background
  drawn-length it = length-item here (outside_forms s.formats) s.x s.y line it w.background

  drawn-white : (it : Item) → background_ok s.width s.length (draws_item here (outside_forms s.formats) s.x s.y line it w.background) ≡ true
  unfolding background_ok
  drawn-white it = white-item here (outside_forms s.formats) s.x s.y line it w.background g.background

  drawn-good : (it : Item) → Good s (drawn_on font line s w it)
  drawn-good it = background-good s s w _ g g.times refl (drawn-length it) (numbers-facts (rows_of w) s g.numbers) (drawn-white it) g.activity

  item-good : (it : Item) → read_of (rows_of w) line ≡ Ok (item it) → ItemRanged it → Good (based_by s it) (drawn_on font line s w it)
  unfolding activity_sound
  item-good (Origin o) e r =
      let n = numbers-facts (rows_of w) s g.numbers in
      background-good s (based s (sixteen_bits o.x) (sixteen_bits o.y)) w _ g g.times refl (drawn-length (Origin o)) (record {
        wide-least = n.wide-least;
        wide-most = n.wide-most;
        long-least = n.long-least;
        long-most = n.long-most;
        turn = n.turn;
        x = omega (arith, r.0.1);
        y = omega (arith, r.1.1);
      }) (drawn-white (Origin o)) g.activity
  item-good (Variable v) e r = drawn-good (Variable v)
  item-good (Counter c) e r = drawn-good (Counter c)
  item-good (Text t) e r = drawn-good (Text t)
  item-good (Bars b) e r = drawn-good (Bars b)
  item-good (Box b) e r = drawn-good (Box b)
  item-good (Frame f) e r = drawn-good (Frame f)
  item-good (Slant l) e r = drawn-good (Slant l)
  item-good (Picture p) e r = drawn-good (Picture p)
  item-good (Format f) e r =
      let n = numbers-facts (rows_of w) s g.numbers in
      background-good s (formatted s (with_format s.formats f.stamp f.format)) w _ g (times-with s.clock s.formats f.stamp f.format g.times (format-legal (rows_of w) line f e)) refl
      (drawn-length (Format f))
      (record {
        wide-least = n.wide-least;
        wide-most = n.wide-most;
        long-least = n.long-least;
        long-most = n.long-most;
        turn = n.turn;
        x = n.x;
        y = n.y;
      }) (drawn-white (Format f)) g.activity

  pub keeps-item : (it : Item) → read_of (rows_of w) line ≡ Ok (item it)
      → Good (runs font w s line more (item it)).session (runs font w s line more (item it)).world
  keeps-item it e = item-good it e (read-ranges (rows_of w) line (item it) e)
