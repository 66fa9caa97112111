-- `into_raw` hands it back.
use Rattle.handles.specs.contracts.kept.KeptReel as kept
use Rattle.handles.specs.contracts.handle.ReelHandle.into_raw.Key.{name as #self}
use Rattle.handles.proofs.HandedOn.{as_handle, as_raw, repacked}
use Rattle.handles.proofs.handle.ReelHandle.into_raw.Statement.{statement}
use Rattle.handles.proofs.handle.ReelHandle.into_raw.Code as code

pub into_raw_spec : {M : Type 1} → statement M
into_raw_spec 𝓤 𝓛 𝓜 𝓡 wired = repacked 𝓤 𝓛 𝓜 𝓡 kept.the_row as_handle (as_raw kept.the_row) #self (code.unfolded 𝓤 𝓛.H 𝓜 𝓡 wired)
