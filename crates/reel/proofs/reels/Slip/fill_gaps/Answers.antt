use Rattle.std.proofs.Common.{◌∙◌, arith}
use Rattle.calls.specs.Effects.{fill_sample, filled_picture}
use Rattle.reel.proofs.Gaps.{fill_all, fill_more}
use Rattle.reel.proofs.reels.Slip.fill_gaps.Goals as goal

pub loop-number-preserved : goal.loop-number-preserved
loop-number-preserved g c =
    let new = fill_sample c.args.self.now.kind (g.S.Store.picture c.args.finished.now) in
    let before = g.S.Store.picture c.loop-number.working in
    fill_more c.args.self.now.reel.format c.args.self.now.layout c.args.self.now.accepted c.loop-number.number new (g.S.Store.picture c.args.working.now) before _
    c.requires.wide c.requires.high c.loop-number.invariant
    c.fill_gap.ensures

pub returns : goal.returns
unfolding filled_picture
returns g c =
    c.loop-number.invariant
    ∙ fill_all c.args.self.now.reel.format c.args.self.now.layout c.args.self.now.accepted c.loop-number.number _ (g.S.Store.picture c.args.working.now) c.requires.wide c.requires.high
    (omega (arith, c.segments-number-end.ensures.value, c.loop-number-test.false))
