-- A handle may go to another thread: the reel behind it may, and any thread may free its block.
use mir.Raw.{raw}
use denote.Builtin.{RawPtr}
use denote.Memory.{lone}
use denote.Param.Send.{AllSend, IsSend, owning_send, sendable, struct_send}
use denote.Struct.Owning.{fields, shape, to}
use denote.Struct.Struct.{exits_of}
use Rattle.std.proofs.Crossing.{frees}
use Rattle.std.proofs.alloc.Global.TheSendSync as heap_send
use Rattle.std_alloc.proofs.SendSync.{lies, quiet}
use Rattle.handles.specs.contracts.kept.KeptReel as kept
use Rattle.handles.proofs.kept.KeptReel.TheSendSync as kept_send
use Rattle.handles.specs.contracts.handle.ReelHandle.{the_row, the_type}

pub send : IsSend the_row
send =
    let p : IsSend RawPtr = search sendable in
    let all : AllSend (fields the_type) = (p, (heap_send.the_field_send, tt)) in
    owning_send the_type all (λ d. (lies kept.the_row kept_send.the_send d.at d.kept, frees.frees d.alloc (raw (lone (kept.the_row).mir)) d.at))
    (λ k. quiet (to the_type) (exits_of k (fields the_type)) ((struct_send (shape the_type) all).leaving k))
