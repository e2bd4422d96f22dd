use Rattle.store.specs.Entry.{entry}
use Rattle.listing.proofs.Line.{name-place, name-stored}
use Rattle.listing.proofs.put_name.Goals as goal

pub returns : goal.returns
returns c = let p₅ = c in let p₄ = p₅ in let p₃ = p₄ in let p₂ = p₃ in let p₁ = p₂ in let k = p₁ in
    let a = k.args in let e = entry a.directory.now a.i in (
      name-place e _ _ _ k.name_length_at-n.ensures.0 k.least.ensures,
      name-stored e _ _ _ k.name_length_at-n.ensures.0 k.least.ensures _ _ a.line.now _ _ _ _ _ k.name_at-name.ensures p₃.front.ensures
          p₁.put_byte.ensures p₂.put_byte-2.ensures p₃.put.ensures p₄.put_byte-3.ensures p₅.put_byte-4.ensures,
    )
