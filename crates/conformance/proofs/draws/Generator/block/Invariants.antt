use Rattle.std.proofs.Common.{◌≡◌}
use Rattle.conformance.specs.Draws.{stepped_by}
use Rattle.conformance.proofs.draws.Generator.block.Given as goal

abbrev pub invariant-loop-sample : goal.invariant-loop-sample
invariant-loop-sample l = l.self.state ≡ stepped_by l.sample-index l.initial.self.state
