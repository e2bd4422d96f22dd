use mathlib.Core.Path.{◌≡◌, refl, sym, ap, ◌∙◌}
use Prim.Native.Nat.{ℕ, ◌+◌, ◌-◌}
use native.Mathlib.Omega.{arith}
use borrow.Author.Tests.{eq-eqb, ne_eqb}
use Rattle.font.specs.Rules.{fields_from}
use Rattle.font.proofs.Passes.{fields-step, fields-end, fields-stop, fields-none}
use Rattle.font.proofs.fields_ok.Goals as goal

pub loop-i-init : goal.loop-i-init
loop-i-init c = (omega arith, refl)

pub returns-then-byte_at-eq255 : goal.returns-then-byte_at-eq255
returns-then-byte_at-eq255 c = let l = c.loop-i in
    c.ended_ok.ensures ∙ fields-end _ (96 - l._i) l.last l.at (omega arith)
    (eq-eqb _ _ (sym c.byte_at.ensures.0 ∙ c.if-byte_at-eq255.true)) ∙ l.invariant.1

pub returns-then-not-glyph_ok : goal.returns-then-not-glyph_ok
returns-then-not-glyph_ok c = let l = c.loop-i in
    fields-stop _ (96 - l._i) l.last l.at (omega arith)
    (ne_eqb _ _ (λ e. c.if-byte_at-eq255.false (c.byte_at.ensures.0 ∙ e))) (sym c.glyph_ok.ensures ∙ c.if-not-glyph_ok.true)
    ∙ l.invariant.1

pub loop-i-preserved : goal.loop-i-preserved
loop-i-preserved c = let l = c.loop-i in
    let f = c.args.font.now in
    let less : 96 - (l._i + 1) ≡ 96 - l._i - 1 = omega arith in (
      omega arith,
      ap (λ (n : ℕ). fields_from f n c.code_at-last.result c.next_field-at.result) less
          ∙ (λ j. fields_from f (96 - l._i - 1) (c.code_at-last.ensures.0 j) (c.next_field-at.ensures.0 j))
          ∙ fields-step _ (96 - l._i) l.last l.at (omega arith)
          (ne_eqb _ _ (λ e. c.if-byte_at-eq255.false (c.byte_at.ensures.0 ∙ e)))
          (sym c.glyph_ok.ensures ∙ c.if-not-glyph_ok.false) ∙ l.invariant.1,
    )

pub returns : goal.returns
returns c = let l = c.loop-i in fields-none _ (96 - l._i) l.last l.at (omega arith) ∙ l.invariant.1
