use Rattle.std.proofs.Common.{◌≡◌, ◌∙◌, None, refl, sym, ap, rules}
use Rattle.writing.specs.Writing.{equal}
use Rattle.kept_line.specs.Held.{held_read}
use Rattle.row_fields.proofs.Rows.{refused-at}
use Rattle.kept_line.proofs.Own.{own-long, own-unknown, own-bad, own_same, own-other}
use Rattle.kept_line.proofs.Standing.{item-own}
use Rattle.kept_line.proofs.stored_item.Goals as goal

pub returns-then-line-gt255 : goal.returns-then-line-gt255
returns-then-line-gt255 c = ap held_read (own-long _ c.if-line-gt255.true) ∙ sym (item-own _)

pub returns-in_err-row : goal.returns-in_err-row
returns-in_err-row c = let r : c.from_residual.result ≡ None = search rules in
    r ∙ ap held_read (own-unknown _ (sym c.head_of.ensures ∙ c.in_err-row.was)) ∙ sym (item-own _)

pub returns-in_err-ok : goal.returns-in_err-ok
returns-in_err-ok c = let f = c.read_fields in
    let q = refused-at f.result (λ e. search rules) in
    let r : c.from_residual-in_err-ok.result ≡ None = search rules in
    r ∙ ap held_read (own-bad _ _ (sym c.head_of.ensures ∙ c.in_ok-row.was) f.result _ _ _ _ q.0 f.ensures q.1) ∙ sym (item-own _)

pub returns-then-same : goal.returns-then-same
returns-then-same c = let s = c.args.line.now in
    let f = c.read_fields in
    c.held_within.ensures
    ∙ ap held_read (own_same s _ (sym c.head_of.ensures ∙ c.in_ok-row.was) f.result _ _ f.ensures (search rules) c.if-line-gt255.false _ _ _ refl c.put_row-n.ensures (sym (c.same.ensures ∙ ap (λ x. equal x s) c.first.ensures) ∙ c.if-same.true)) ∙ sym (item-own s)

pub returns : goal.returns
returns c = let s = c.args.line.now in
    let f = c.read_fields in
    ap held_read (own-other s _ (sym c.head_of.ensures ∙ c.in_ok-row.was) f.result _ _ f.ensures (search rules) c.if-line-gt255.false _ _ _ refl c.put_row-n.ensures (sym (c.same.ensures ∙ ap (λ x. equal x s) c.first.ensures) ∙ c.if-same.false)) ∙ sym (item-own s)
