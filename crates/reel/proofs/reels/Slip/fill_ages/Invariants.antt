use Rattle.std.proofs.Common.{◌≡◌, ◌/◌, ◌++◌, take, drop}
use Rattle.pictures.specs.Formats.{columns_of}
use Rattle.calls.specs.Effects.{ages_filled, filled_ages, missing}
use Rattle.reel.proofs.reels.Slip.fill_ages.Given as goal

-- the cells before this one are set, and the rest is still to be filled
abbrev pub invariant-loop-cell : goal.invariant-loop-cell
invariant-loop-cell l =
    take l.cell l.working
    ++ ages_filled (λ i. missing l.self.layout l.self.accepted (i / columns_of l.self.reel.format)) l.self.kind l.cell (drop l.cell l.finished) (drop l.cell l.working)
    ≡ filled_ages l.self.reel.format l.self.kind l.self.layout l.self.accepted l.finished l.initial.working
