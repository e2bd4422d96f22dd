use borrow.Author.Tests.{tests}
use Rattle.std.proofs.Common.{rules}
use Rattle.cells.proofs.Passing.{range-all}
use Rattle.store_sound.specs.Sound.{name_byte_ok}
use Rattle.store_check.proofs.name_bytes_ok.Goals as goal

pub returns : goal.returns
returns c = range-all (name_byte_ok c.args.n c.args.title) _ _ _ _ c.all.ensures.ran (λ x q k. search (rules, tests)) (λ x q k. search (rules, tests))
