-- `of` hands what the box owned to the handle.
use Rattle.handles.specs.contracts.kept.KeptReel as kept
use Rattle.handles.specs.contracts.handle.ReelHandle.of.Key.{name as #self}
use Rattle.handles.proofs.HandedOn.{as_handle, as_raw, repacked}
use Rattle.handles.proofs.handle.ReelHandle.of.Statement.{statement}
use Rattle.handles.proofs.handle.ReelHandle.of.Code as code

pub of_spec : {M : Type 1} → statement M
of_spec 𝓤 𝓛 𝓜 𝓡 wired = repacked 𝓤 𝓛 𝓜 𝓡 kept.the_row (as_raw kept.the_row) as_handle #self (code.unfolded 𝓤 𝓛.H 𝓜 𝓡 wired)
