use Rattle.std.proofs.Common.{ap}
use Rattle.handles.specs.Handles.{with_kept}
use Rattle.handles.proofs.handle.ReelHandle.copy_plane.Goals as goal

-- the reel that was lent is as it was
pub returns-clause-handle : goal.returns-clause-handle
returns-clause-handle c = ap (with_kept c.args.self.now) c.kept.ensures.value
