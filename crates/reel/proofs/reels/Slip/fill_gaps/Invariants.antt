use Rattle.std.proofs.Common.{◌≡◌}
use Rattle.pictures.specs.Pictures.{painted}
use Rattle.calls.specs.Effects.{fill_sample}
use Rattle.reel.proofs.Gaps.{missing_below}
use Rattle.reel.proofs.reels.Slip.fill_gaps.Given as goal

-- the segments below the number are filled, where they are missing
abbrev pub invariant-loop-number : goal.invariant-loop-number
invariant-loop-number g l =
    g.S.Store.picture l.working
    ≡ painted (missing_below l.self.reel.format l.self.layout l.self.accepted l.number) (fill_sample l.self.kind (g.S.Store.picture l.finished)) (g.S.Store.picture l.initial.working)
