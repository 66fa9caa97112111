-- the cells passed so far have the value
use Rattle.std.proofs.Common.{◌≡◌, take, replicate}
use Rattle.tables.proofs.fill.Given as goal

abbrev pub invariant-loop-cell : goal.invariant-loop-cell
invariant-loop-cell g l = take l.cell-index l.cells ≡ replicate l.cell-index l.value
