use Rattle.std.proofs.Common.{◌≡◌, ◌∙◌, Ok, sym, rules}
use Rattle.read.proofs.Rows.{judged-good, judged-refused}
use Rattle.read.proofs.lines.judge.Goals as goal

pub returns-in_err-map_err : goal.returns-in_err-map_err
returns-in_err-map_err c = let a = c.args in
    let f = c.read_fields in
    judged-refused a.row a.rows a.line.now f.result _ _ _ f.ensures (λ e. search rules) (λ p e. search rules)

pub returns : goal.returns
returns c = let a = c.args in
    let f = c.read_fields in
    let r : f.result ≡ Ok tt = search rules in
    c.within.ensures ∙ sym (judged-good a.row a.rows a.line.now f.result _ _ f.ensures r)
