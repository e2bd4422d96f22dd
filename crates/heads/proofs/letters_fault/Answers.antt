use mathlib.Core.Path.{◌∙◌, sym}
use Prim.Native.Char.{code}
use Rattle.heads.specs.Heads.{letters_fault}
use Rattle.heads.proofs.Fault.{fault-first, fault-one, fault-other}
use Rattle.heads.proofs.letters_fault.Goals as goal

pub returns-then-line-ne1 : goal.returns-then-line-ne1
returns-then-line-ne1 c = sym (fault-first c.args.line.now c.if-line-eq2.false c.if-line-ne1.true)

pub returns-in-90 : goal.returns-in-90
unfolding letters_fault
returns-in-90 c = sym (fault-one c.args.line.now (code "Z") c.if-line-ne1.false (sym c.byte-2.ensures ∙ c.in-90.is))

pub returns-in-76 : goal.returns-in-76
unfolding letters_fault
returns-in-76 c = sym (fault-one c.args.line.now (code "L") c.if-line-ne1.false (sym c.byte-2.ensures ∙ c.in-76.is))

pub returns-in-71 : goal.returns-in-71
unfolding letters_fault
returns-in-71 c = sym (fault-one c.args.line.now (code "G") c.if-line-ne1.false (sym c.byte-2.ensures ∙ c.in-71.is))

pub returns-in-70 : goal.returns-in-70
unfolding letters_fault
returns-in-70 c = sym (fault-one c.args.line.now (code "F") c.if-line-ne1.false (sym c.byte-2.ensures ∙ c.in-70.is))

pub returns-in-86 : goal.returns-in-86
unfolding letters_fault
returns-in-86 c = sym (fault-one c.args.line.now (code "V") c.if-line-ne1.false (sym c.byte-2.ensures ∙ c.in-86.is))

pub returns-in-63 : goal.returns-in-63
unfolding letters_fault
returns-in-63 c = sym (fault-one c.args.line.now (code "?") c.if-line-ne1.false (sym c.byte-2.ensures ∙ c.in-63.is))

pub returns-in-84 : goal.returns-in-84
unfolding letters_fault
returns-in-84 c = sym (fault-one c.args.line.now (code "T") c.if-line-ne1.false (sym c.byte-2.ensures ∙ c.in-84.is))

pub returns-in_default : goal.returns-in_default
returns-in_default c = let r = c.in_default.in_default-own.rest in sym (fault-one c.args.line.now c.byte-2.result c.if-line-ne1.false (sym c.byte-2.ensures) ∙ fault-other c.byte-2.result r.0.0.0.0.0.0.1 r.0.0.0.0.0.1 r.0.0.0.0.1 r.0.0.0.1 r.0.0.1 r.0.1 r.1)
