use Rattle.std.proofs.Common.{◌≡◌, codes, refl, arith}
use Rattle.call_lines.proofs.Words.{spelled}
use Rattle.call_lines.proofs.line.transform_kind_in.Goals as goal

pub returns-in-direct : goal.returns-in-direct
returns-in-direct c =
    let all = spelled c.args.field.now 0 6 (omega arith) in
    let word : c.args.field.now ≡ codes "direct" = grind (arith, all) in
    rw word refl

pub returns-in-116 : goal.returns-in-116
returns-in-116 c =
    let all = spelled c.args.field.now 0 8 (omega arith) in
    let word : c.args.field.now ≡ codes "two-pass" = grind (arith, all) in
    rw word refl
