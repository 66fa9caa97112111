use Rattle.std.proofs.Common.{◌+◌, ◌*◌, ◌/◌, ◌%◌, pos, ◌-ℤ◌}
use Rattle.pictures.proofs.Squares.{Filled}
use Rattle.prediction.specs.Window.{window}
use Rattle.prediction.proofs.window.Window.square_by_samples.Given as goal

-- the rows before this one are filled
abbrev pub invariant-loop-row : goal.invariant-loop-row
invariant-loop-row g l =
    Filled (λ k. window l.self.segment (g.S.Store.picture l.self.finished.now).sample l.plane (pos (l.across + k % 8) -ℤ pos 64) (pos (l.down + k / 8) -ℤ pos 64)) (8 * l.row) l.square

-- and this one before this column
abbrev pub invariant-loop-column : goal.invariant-loop-column
invariant-loop-column g l =
    Filled (λ k. window l.self.segment (g.S.Store.picture l.self.finished.now).sample l.plane (pos (l.across + k % 8) -ℤ pos 64) (pos (l.down + k / 8) -ℤ pos 64)) (8 * l.row + l.column) l.square
