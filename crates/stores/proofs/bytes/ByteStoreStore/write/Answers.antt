use Rattle.std.proofs.Common.{◌<◌, length, set, vec_items, sym, arith}
use Rattle.pictures.proofs.Addresses.{writes, writes_nothing}
use Rattle.stores.specs.Bytes.{byte_address, byte_at}
use Rattle.stores.proofs.InBytes.{bytes_apart, byte_set}
use Rattle.stores.proofs.bytes.ByteStoreStore.write.Goals as goal

pub returns : goal.returns
returns c =
    let bytes = vec_items c.args.self.now.memory in
    let found = c.in-Some.ensures in
    let lt : c.in-Some.at < length bytes = omega (arith, c.args.self.now.memory.ok.0, c.args.self.now.enough, found.kept) in
    record {
      answer = sym found.isin;
      after = writes _ _ (byte_address c.args.self.now.size.columns c.args.self.now.size.rows) (bytes_apart _ _) (byte_at bytes) (byte_at (set bytes c.in-Some.at c.args.value)) c.args.plane c.args.across c.args.down c.args.value found.isin (λ a. rw (← found.from) (byte_set bytes c.in-Some.at c.args.value (omega (arith, c.ranges.value)) lt a));
    }

pub returns-in_default : goal.returns-in_default
returns-in_default c =
    let out = c.in_default.ensures in
    record { answer = sym out; after = writes_nothing _ c.args.plane c.args.across c.args.down c.args.value out }
