-- One block after another.
use Rattle.std.proofs.Common.{◌≡◌, ℕ, zero, suc, ◌+◌, ◌-◌, ◌<◌, ◌≤◌, Bool, List, [], ◌∷◌, length, take, set, Ok, Err, Result, append-nil, arith}
use Rattle.std.proofs.lemmas.List.{take_all, take_more_set}
use Rattle.records.specs.declared.faults.BlockFault.{BlockFault}
use Rattle.records.specs.declared.faults.MacroblockFault.TheVariants.{Block as in_block}
use Rattle.records.specs.declared.types.Block.{Block}
use Rattle.records.specs.Reading.{Unread}
use Rattle.records.specs.Blocks.{block_from}
use Rattle.records.specs.Macroblocks.{in_front, blocks_from}
use Rattle.records.proofs.Gathered.{in_front_both}

module _ (intra : Bool) (pattern m b : ℕ) (s : Unread) (blocks : List Block) where
  -- the last block was read
  pub blocks_end : 6 ≤ b → length blocks ≡ 6 → in_front (take b blocks) (blocks_from (6 - b) intra pattern s m b) ≡ Ok (blocks, s)
  unfolding blocks_from
  blocks_end h l =
      let e : 6 - b ≡ zero = omega arith in
      let all : take b blocks ≡ blocks = take_all b blocks (omega arith) in
      rw (e, all, append-nil blocks)

  -- a block has a fault
  pub blocks_stop : (f : BlockFault) → b < 6 → ◌≡◌ {A = Result (Block × Unread) BlockFault} (Err f) (block_from intra pattern s m b)
      → in_front (take b blocks) (blocks_from (6 - b) intra pattern s m b) ≡ Err (in_block f)
  unfolding blocks_from
  blocks_stop f h k = let e : 6 - b ≡ suc (6 - (b + 1)) = omega arith in rw (e, ← k)

  -- a block more
  pub blocks_more : (x : Block) (t : Unread) → b < 6 → length blocks ≡ 6 → ◌≡◌ {A = Result (Block × Unread) BlockFault} (Ok (x, t)) (block_from intra pattern s m b)
      → in_front (take b blocks) (blocks_from (6 - b) intra pattern s m b) ≡ in_front (take (b + 1) (set blocks b x)) (blocks_from (6 - (b + 1)) intra pattern t m (b + 1))
  unfolding blocks_from
  blocks_more x t h l k =
      let e : 6 - b ≡ suc (6 - (b + 1)) = omega arith in
      let p : b < length blocks = omega arith in
      rw (e, ← k, take_more_set blocks b x p) (in_front_both (take b blocks) (x ∷ []) (blocks_from (6 - (b + 1)) intra pattern t m (b + 1)))
