-- Paper 02, §8: slanted lines, at the level of the commands. The limits of the table and of R leave every line that is read within those of a slanted line.
-- Assumes nothing.
use Rattle.std.proofs.Common.{Option, Some, None, Ok}
use mathlib.Core.Path.{◌≡◌, refl, sym, ap, ◌∙◌}
use mathlib.Core.Bool.{Bool, true, cond, ◌&&◌}
use mathlib.Core.List.{List, [], ◌∷◌}
use Prim.Native.Nat.{ℕ, ◌+◌, ◌≤◌, ◌<◌}
use native.Mathlib.Nat.{zero-add, add_comm}
use native.Mathlib.Omega.{arith}
use lib.ListN.{length}
use lib.Dec.{ltb}
use borrow.Author.Tests.{le-leb, lt-ltb}
use Rattle.grammar.specs.declared.Item.{Item}
use Rattle.dots.specs.Dots.{dot_at, inked, drawn, cut}
use Rattle.dots.proofs.Pages.{dot-drawn, drawn-ext}
use Rattle.slanted_lines.specs.Slanted.{in_limits, slanted}
use Rattle.slanted_lines.proofs.Near.{near-sym}
use Rattle.slanted_lines.proofs.Expected.{near-moved, slanted-is-near}
use Rattle.font.specs.Rules.{legal as legal_font}
use Rattle.declarations.specs.declared.Declared.{Declared}
use Rattle.grammar.specs.declared.Slant.{Slant as SlantLine}
use Rattle.grammar.specs.declared.Item.TheVariants.{Origin, Variable, Counter, Text, Bars, Box, Frame, Slant, Picture, Format}
use Rattle.grammar.specs.declared.Command.TheVariants.{Item as item}
use Rattle.read.specs.Commands.{read_of}
use Rattle.normal.specs.Written.{normal}
use Rattle.kept_line.specs.Held.{item_in}
use Rattle.std.specs.Prelude.{None, Some}
use Rattle.finding.specs.Find.{recorded}
use Rattle.store.specs.Entry.{entry}
use Rattle.room.specs.Room.{can_grow}
use Rattle.recording.specs.Judged.{declares, declaration, has_picture}
use Rattle.item_drawing.specs.Draw.{Setting, far, draws_item}
use Rattle.form_drawing.specs.Draw.{Drawing, drawing, draws_stored, draws_line, draws_lines}
use Rattle.session.specs.declared.Session.{Session}
use Rattle.answers.specs.declared.Answer.TheVariants.{Taken}
use Rattle.lent.specs.Lent.{World, rows_of}
use Rattle.results.specs.World.{state, with_background}
use Rattle.item_commands.specs.Items.{declared_before, not_declared, reaches_past, unfit_data}
use Rattle.commands.specs.Does.{recorded_line, recorded_room}
use Rattle.keeps_sound.specs.Outcomes.{After, after, outcome}
use Rattle.unread.specs.Front.{line_of}
use Rattle.keeps_sound.specs.Good.{Good}
use Rattle.keeps_sound.proofs.Facts.{numbers-facts}
use Rattle.keeps_sound.proofs.Limits.{ItemRanged, read-ranges}
use Rattle.keeps_sound.proofs.Recording.{recording-owes-none}
use Rattle.demands.specs.Calls.{Asked, answered, state_of, Says}
use Rattle.demands.specs.Slants.{belongs, with_line, from_other_end, under_way, with_line_on}
use Rattle.demands.proofs.Taking.{command-taken}
use Rattle.demands.proofs.Lines.{holds_read}

-- ---- what a line that is read draws

pub short-sum : (m n : ℕ) → m + n ≤ 8191 → far m n ≡ m + n
unfolding far
short-sum m n h = omega arith

module _
    (rows : ℕ) (line : List ℕ) (l : SlantLine) (reads : read_of rows line ≡ Ok (item (Slant l))) (x y : ℕ) (right : x ≤ 2048) (down : y ≤ 4096) where
  ranges : ItemRanged (Slant l)
  ranges = read-ranges rows line (item (Slant l)) reads

  -- the two ends with R added
  ends : ((x + l.a ≤ 4095) × (y + l.b ≤ 8191)) × ((x + l.d ≤ 4095) × (y + l.e ≤ 8191))
  ends =
      let a = ranges.0.1 in
      let b = ranges.1.0.1 in
      let d = ranges.1.1.1.0.1 in
      let e = ranges.1.1.1.1.1 in
      ((omega (arith, right, a), omega (arith, down, b)), (omega (arith, right, d), omega (arith, down, e)))

  in-limits : in_limits (x + l.a) (y + l.b) l.c (x + l.d) (y + l.e) ≡ true
  unfolding in_limits
  in-limits =
      let c = ranges.1.1.0 in
      rw (
        le-leb (x + l.a) 4095 ends.0.0,
        le-leb (y + l.b) 8191 ends.0.1,
        le-leb 1 l.c c.0,
        lt-ltb l.c 81 (omega (arith, c.1)),
        le-leb (x + l.d) 4095 ends.1.0,
        le-leb (y + l.e) 8191 ends.1.1,
      )

  pub read-near : (g : Setting) (known : Declared) (page : List ℕ) → draws_item g known x y line (Slant l) page ≡ with_line g.width g.length x y l page
  unfolding draws_item
  read-near g known page =
      let a = short-sum x l.a (omega (arith, ends.0.0)) in
      let b = short-sum y l.b ends.0.1 in
      let d = short-sum x l.d (omega (arith, ends.1.0)) in
      let e = short-sum y l.e ends.1.1 in
      (λ i. drawn l.ink (cut g.width g.length (slanted (a i) (b i) l.c (d i) (e i))) page)
      ∙ drawn-ext l.ink _ _ page
      (λ px py s t.
      ap (λ (q : Bool). (ltb px g.width && ltb py g.length) && q)
      (slanted-is-near (x + l.a) (y + l.b) l.c (x + l.d) (y + l.e) px py in-limits))

-- wherever R moves it
pub line-moved : (l : SlantLine) (x y px py : ℕ) → belongs x y l (x + px) (y + py) ≡ belongs 0 0 l px py
line-moved l x y px py =
    rw (add_comm x l.a, add_comm y l.b, add_comm x l.d, add_comm y l.e, add_comm x px, add_comm y py)
    (rw (zero-add l.a, zero-add l.b, zero-add l.d, zero-add l.e) (near-moved l.a l.b l.c l.d l.e px py x y))

-- and from its other end
line-either-end : (width long x y : ℕ) (l : SlantLine) (page : List ℕ) → with_line width long x y l page ≡ with_line width long x y (from_other_end l) page
line-either-end width long x y l page =
    drawn-ext l.ink _ _ page
    (λ px py s t. ap (λ (q : Bool). (ltb px width && ltb py long) && q) (near-sym (x + l.a) (y + l.b) l.c (x + l.d) (y + l.e) px py))

-- ---- outside recording

module _ (s : Session) (w : World) (g : Good s w) (none : s.owed ≡ 0) (quiet : recorded w.directory ≡ None) where
  module _ (a : Asked) (legal : legal_font a.font ≡ true) (l : SlantLine) (r : Says w a.input (item (Slant l))) where
    pub slant-taken :
        answered s w a
        ≡ after (outcome Taken s r.whole 0) (with_background w (with_line s.width s.length s.x s.y l w.background)) a.output
    unfolding declaration has_picture declared_before not_declared reaches_past unfit_data
    slant-taken =
        let n = numbers-facts (rows_of w) s g.numbers in
        command-taken s w a.font g legal a.output a.input (item (Slant l)) r none (rw quiet)
        ∙ rw quiet
        (ap (λ (b : List ℕ). after (outcome Taken s r.whole 0) (with_background w b) a.output)
        (read-near (rows_of w) (line_of a.input r.line) l r.means s.x s.y n.x n.y _ _ w.background))

    pub slant-dot :
        (px py : ℕ) → px < 608 → py < rows_of w →
        dot_at (answered s w a).world.background px py
        ≡ cond ((ltb px s.width && ltb py s.length) && belongs s.x s.y l px py) (inked l.ink (dot_at w.background px py))
        (dot_at w.background px py)
    slant-dot px py h k =
        ap (λ (z : After). dot_at z.world.background px py) slant-taken
        ∙ dot-drawn l.ink (cut s.width s.length (belongs s.x s.y l)) w.background px py h k

  pub either-end-same :
      (a b : Asked) → legal_font a.font ≡ true → legal_font b.font ≡ true → (l : SlantLine) → Says w a.input (item (Slant l)) →
      Says w b.input (item (Slant (from_other_end l))) →
      ((answered s w a).outcome.answer ≡ (answered s w b).outcome.answer) × (state_of (answered s w a) ≡ state_of (answered s w b))
  either-end-same a b legal legal' l r r' =
      let e = slant-taken a legal l r in
      let f = slant-taken b legal' (from_other_end l) r' in (
        ap (λ (z : After). z.outcome.answer) e ∙ sym (ap (λ (z : After). z.outcome.answer) f),
        ap state_of e
            ∙ ap (λ (p : List ℕ). state s (with_background w p)) (line-either-end s.width s.length s.x s.y l w.background)
            ∙ sym (ap state_of f),
      )

-- ---- while the form of entry i is recorded

pub slant-kept :
    (s : Session) (w : World) → Good s w → (i : ℕ) → recorded w.directory ≡ Some i → (a : Asked) → legal_font a.font ≡ true →
    (l : SlantLine) (r : Says w a.input (item (Slant l))) →
    can_grow s.free (entry w.directory i) (length (normal (line_of a.input r.line)) + 1) ≡ true →
    answered s w a
    ≡ after (outcome Taken (recorded_room s w i (line_of a.input r.line)) r.whole 0) (recorded_line w i (line_of a.input r.line)) a.output
unfolding has_picture declared_before not_declared reaches_past unfit_data
slant-kept s w g i still a legal l r room =
    command-taken s w a.font g legal a.output a.input (item (Slant l)) r (recording-owes-none s w i g still) (rw (still, room)) ∙ rw still

-- ---- on a label

-- the origin is within the limits of R
abbrev pub InLimits : Drawing → Type 0
InLimits t = (t.carried.origin.x ≤ 2048) × (t.carried.origin.y ≤ 4096)

line-keeps : (g : Setting) (t : Drawing) (line : List ℕ) → InLimits t → InLimits (draws_line g t line)
unfolding draws_line
line-keeps g t line h = by (item_in line) refl
  where
    by : (x : Option Item) → item_in line ≡ x → InLimits (draws_stored g t line x)
    by None e = h
    by (Some (Origin o)) e = let r = read-ranges 1 line (item (Origin o)) (holds_read line (Origin o) e).1 in (r.0.1, r.1.1)
    by (Some (Variable v)) e = h
    by (Some (Counter c)) e = h
    by (Some (Text a)) e = h
    by (Some (Bars b)) e = h
    by (Some (Box b)) e = h
    by (Some (Frame f)) e = h
    by (Some (Slant l)) e = h
    by (Some (Picture p)) e = h
    by (Some (Format f)) e = h

pub lines_keep : (g : Setting) (lines : List (List ℕ)) (t : Drawing) → InLimits t → InLimits (draws_lines g t lines)
unfolding draws_lines
lines_keep g [] t h = h
lines_keep g (l ∷ ls) t h = lines_keep g ls (draws_line g t l) (line-keeps g t l h)

pub form-line-drawn :
    (g : Setting) (x y : ℕ) → x ≤ 2048 → y ≤ 4096 → (page : List ℕ) (before : List (List ℕ)) (line : List ℕ) (l : SlantLine) → item_in line ≡ Some (Slant l) →
    draws_line g (under_way g x y page before) line ≡ with_line_on g l (under_way g x y page before)
unfolding draws_line declares
form-line-drawn g x y right down page before line l holds =
    let t = under_way g x y page before in
    let h : InLimits t = lines_keep g before _ (right, down) in
    ap (draws_stored g t line) holds
    ∙ ap (drawing t.carried)
    (read-near 1 line l (holds_read line (Slant l) holds).1 t.carried.origin.x t.carried.origin.y h.0 h.1 g t.carried.declared t.page)
