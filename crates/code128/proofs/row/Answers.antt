use Rattle.code128.specs.Code128.{rows128}
use Rattle.code128.specs.Widths.{digits, each}
use Rattle.code128.proofs.Tables.{row-128, row-128-none}
use Rattle.code128.proofs.row.Goals as goal

pub returns-then-v-ge107 : goal.returns-then-v-ge107
returns-then-v-ge107 c = row-128-none _ c.if-v-ge107.true

pub returns : goal.returns
unfolding rows128 each digits
returns c = row-128 _ _ _ _ _ _ _ c.if-v-ge107.false c.above.ensures.0
    c.above-2.ensures.0 c.above-3.ensures.0 c.above-4.ensures.0
    c.above-5.ensures.0 c.above-6.ensures.0
