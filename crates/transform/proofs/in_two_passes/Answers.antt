use Rattle.std.proofs.Common.{◌*◌, ◌^◌, ◌≤◌, arith}
use Rattle.std.proofs.lemmas.Nat.{mul-le, pow_pos}
use Rattle.std.proofs.Math.Pow.{pow_mono}
use Rattle.transform.proofs.Composed.{small_in, small_after, twice_is}
use Rattle.transform.proofs.in_two_passes.Goals as goal

pub pass-requires : goal.pass-requires
pass-requires c = let p = pow_pos c.args.rows.shift in record { small = small_in (2 ^ 17 * 2 ^ c.args.rows.shift) _ _ c.widened.ensures (omega arith) }

pub pass-requires-2 : goal.pass-requires-2
pass-requires-2 c =
    let last = 2 ^ c.args.columns.shift in
    let high : 2 ^ 8 ≤ last = pow_mono c.requires in
    let room : 15303 * 2048 ≤ 2 ^ 17 * last * 2 ^ c.args.rows.shift = let p = mul-le (2 ^ 8) 1 last (2 ^ c.args.rows.shift) high (pow_pos c.args.rows.shift) in omega arith in
    record { small = small_after 2048 (2 ^ 17 * last) _ _ _ _ c.pass.ensures (small_in 2048 _ _ c.widened.ensures (omega arith)) room c.args.rows.half_below }

pub returns : goal.returns
returns c = twice_is _ _ _ _ _ _ _ c.widened.ensures c.narrowed.ensures c.pass-2.ensures _ _ c.pass.ensures
