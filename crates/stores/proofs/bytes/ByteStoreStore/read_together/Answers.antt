use Rattle.std.proofs.Common.{◌+◌, ◌*◌, ◌/◌, ◌%◌, get_or, ap, ◌∙◌}
use Rattle.stores.proofs.InBytes.{square_seen}
use Rattle.stores.proofs.bytes.ByteStoreStore.read_together.Goals as goal

pub returns : goal.returns
returns c =
    let s = c.args.self.now in
    let at = c.in_ok-at.at in
    let stride = c.in_ok-at.stride in
    square_seen s.size.columns s.size.rows c.args.plane c.args.across c.args.down at stride c.in_ok-at.ensures s.memory.items c.square_from.result
    (λ k h. c.square_from.ensures.each k h ∙ ap (λ xs. get_or xs (at + k / 8 * stride + k % 8) 0) c.deref.ensures.value)
    c.square_from.ensures.small
