use mathlib.Core.Path.{◌≡◌, refl, sym, subst, ◌∙◌}
use mathlib.Core.Bool.{cond}
use Prim.Native.Nat.{ℕ, ◌+◌, ◌-◌, ◌<◌}
use native.Mathlib.Omega.{arith}
use lib.Dec.{eqb}
use lib.ListN.{get_or, set}
use Rattle.font.specs.Rules.{code_at, next_field, Places}
use Rattle.font.proofs.Passes.{places-step, places-end, places-done}
use Rattle.font.proofs.find_places.Goals as goal

pub loop-i-init : goal.loop-i-init
loop-i-init c = (omega arith, c.requires, refl)

pub returns-then-not-is_glyph : goal.returns-then-not-is_glyph
returns-then-not-is_glyph c = let l = c.loop-i in
    places-end _ l.places (95 - l._i) l.at l.invariant.1 (omega arith)
    (sym c.is_glyph.ensures ∙ c.if-not-is_glyph.true)

pub note-requires : goal.note-requires
note-requires c = omega (arith, c.loop-i.invariant.1.all)

pub returns : goal.returns
returns c = let l = c.loop-i in places-done _ l.places (95 - l._i) l.at l.invariant.1 (omega arith)

pub loop-i-preserved : goal.loop-i-preserved
loop-i-preserved c = let l = c.loop-i in
    let n = c.note in
    let f = c.args.font.now in
    let code = c.code_at in
    let less : 95 - l._i - 1 ≡ 95 - (l._i + 1) = omega arith in (
      omega arith,
      subst (λ (m : ℕ). Places f n.new.places (95 - (l._i + 1)) m) (sym c.next_field-at.ensures.0)
          (subst (λ (k : ℕ). Places f n.new.places k (next_field f l.at)) less
          (places-step f l.places (95 - l._i) l.at l.invariant.1 n.new.places (omega arith)
          (sym c.is_glyph.ensures ∙ c.if-not-is_glyph.false)
          (let z : code_at f l.at < 256 = omega (arith, code.ensures.0) in z)
          (n.ensures
          ∙ (λ i. cond (eqb (get_or l.places (code.ensures.0 i) 0) 0) (set l.places (code.ensures.0 i) (l.at + 4)) l.places)))),
      omega (arith, n.auto.places),
    )
