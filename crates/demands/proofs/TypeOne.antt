-- Paper 02, §9: type 1, at the level of the commands. What a line that is read shows is drawn from its shortest writing.
-- Assumes nothing.
use Rattle.std.proofs.Common.{Some, Ok}
use mathlib.Core.Path.{◌≡◌, ap, ◌∙◌}
use mathlib.Core.Bool.{true}
use mathlib.Core.List.{List}
use Prim.Native.Nat.{ℕ, ◌+◌, ◌≤◌}
use native.Mathlib.Omega.{arith}
use borrow.Author.Tests.{le-leb, lt-ltb}
use Rattle.kinds.specs.declared.Kind.TheVariants.{Code128}
use Rattle.kinds.specs.Bytes.{between}
use Rattle.kinds.specs.Fit.{fit}
use Rattle.shortest.specs.Writing.{Shortest}
use Rattle.bars.specs.Drawing.{in_limits}
use Rattle.lined.specs.Lined.{bars_with}
use Rattle.lined.proofs.Asked.{with-shortest}
use Rattle.declarations.specs.declared.Declared.{Declared}
use Rattle.declarations.specs.Declarations.{outside_forms}
use Rattle.grammar.specs.declared.Bars.{Bars as BarsLine}
use Rattle.grammar.specs.declared.Item.TheVariants.{Bars}
use Rattle.grammar.specs.declared.Command.TheVariants.{Item as item}
use Rattle.read.specs.Commands.{read_of}
use Rattle.kept_line.specs.Held.{item_in}
use Rattle.std.specs.Prelude.{None}
use Rattle.finding.specs.Find.{recorded}
use Rattle.recording.specs.Judged.{declares}
use Rattle.item_drawing.specs.Draw.{Setting, shown, draws_item}
use Rattle.form_drawing.specs.Draw.{drawing, draws_stored, draws_line}
use Rattle.session.specs.declared.Session.{Session}
use Rattle.answers.specs.declared.Answer.TheVariants.{Taken}
use Rattle.lent.specs.Lent.{World, rows_of}
use Rattle.results.specs.World.{with_background}
use Rattle.keeps_sound.specs.Outcomes.{after, outcome}
use Rattle.unread.specs.Front.{line_of}
use Rattle.keeps_sound.specs.Good.{Good}
use Rattle.keeps_sound.proofs.Facts.{numbers-facts}
use Rattle.keeps_sound.proofs.Limits.{ItemRanged, read-ranges}
use Rattle.demands.specs.Calls.{Asked, answered, Says}
use Rattle.demands.specs.Slants.{under_way}
use Rattle.demands.specs.TypeOne.{with_symbols, with_symbols_on, on_background, shown_there}
use Rattle.demands.proofs.Taking.{command-done}
use Rattle.demands.proofs.Lines.{holds_read}
use Rattle.demands.proofs.Slants.{short-sum, InLimits, lines_keep}

-- ---- what a line that is read draws

module _
    (rows : ℕ) (line : List ℕ) (b : BarsLine) (reads : read_of rows line ≡ Ok (item (Bars b))) (x y : ℕ) (right : x ≤ 2048) (down : y ≤ 4096) where
  ranges : ItemRanged (Bars b)
  ranges = read-ranges rows line (item (Bars b)) reads

  in-limits : in_limits b.e b.f b.g ≡ true
  unfolding in_limits between
  in-limits =
      let e = ranges.1.1.0 in
      let f = ranges.1.1.1.0 in
      let g = ranges.1.1.1.1 in
      rw (
        le-leb 1 b.e e.0,
        le-leb b.e 6 e.1,
        le-leb 2 b.f f.0.0,
        le-leb b.f 10 f.0.1,
        lt-ltb b.e b.f f.1,
        le-leb 24 b.g g.0,
        le-leb b.g 1000 g.1,
      )

  pub read-shortest : (g : Setting) (known : Declared) (page v : List ℕ) → b.kind ≡ Code128 → fit Code128 (shown g known line b.at) ≡ true
      → Shortest (shown g known line b.at) v → draws_item g known x y line (Bars b) page ≡ with_symbols g x y b (shown g known line b.at) v page
  unfolding draws_item
  read-shortest g known page v k h p =
      let across = short-sum x b.x (let a = ranges.0.1 in omega (arith, right, a)) in
      let along = short-sum y b.y (let a = ranges.1.0.1 in omega (arith, down, a)) in
      let text = shown g known line b.at in
      (λ i. bars_with g.width g.length (across i) (along i) b.r (k i) b.e b.f b.g b.under g.font text page)
      ∙ with-shortest g.width g.length (x + b.x) (y + b.y) b.r b.e b.f b.g g.font text v page in-limits h p b.under

-- ---- on a label

pub form-bars-drawn :
    (g : Setting) (x y : ℕ) → x ≤ 2048 → y ≤ 4096 → (page : List ℕ) (before : List (List ℕ)) (line : List ℕ) (b : BarsLine) → item_in line ≡ Some (Bars b) →
    b.kind ≡ Code128 → (v : List ℕ) → fit Code128 (shown g (under_way g x y page before).carried.declared line b.at) ≡ true →
    Shortest (shown g (under_way g x y page before).carried.declared line b.at) v →
    draws_line g (under_way g x y page before) line
    ≡ with_symbols_on g b (shown g (under_way g x y page before).carried.declared line b.at) v (under_way g x y page before)
unfolding draws_line declares
form-bars-drawn g x y right down page before line b holds k v h p =
    let t = under_way g x y page before in
    let l : InLimits t = lines_keep g before _ (right, down) in
    ap (draws_stored g t line) holds
    ∙ ap (drawing t.carried)
    (read-shortest 1 line b (holds_read line (Bars b) holds).1 t.carried.origin.x t.carried.origin.y l.0 l.1 g t.carried.declared t.page v k h p)

-- ---- outside recording

pub bars-taken :
    (s : Session) (w : World) → Good s w → recorded w.directory ≡ None → (a : Asked) (b : BarsLine) (r : Says w a.input (item (Bars b))) → b.kind ≡ Code128 →
    (answered s w a).outcome.answer ≡ Taken → (v : List ℕ) → fit Code128 (shown_there s w a.font (line_of a.input r.line) b.at) ≡ true →
    Shortest (shown_there s w a.font (line_of a.input r.line) b.at) v →
    answered s w a
    ≡ after (outcome Taken s r.whole 0)
    (with_background w
    (with_symbols (on_background s w a.font) s.x s.y b (shown_there s w a.font (line_of a.input r.line) b.at) v w.background)) a.output
bars-taken s w g quiet a b r one taken v h p =
    let n = numbers-facts (rows_of w) s g.numbers in
    (command-done s a.font w a.output a.input (item (Bars b)) r taken).does
    ∙ rw quiet
    (ap (λ (q : List ℕ). after (outcome Taken s r.whole 0) (with_background w q) a.output)
    (read-shortest (rows_of w) (line_of a.input r.line) b r.means s.x s.y n.x n.y (on_background s w a.font) (outside_forms s.formats) w.background v one h p))
