use Rattle.std.proofs.Common.{◌∙◌, get_or, pos, to_z-of_z, w32, SFits, rules}
use Rattle.transform.proofs.Rows.{product_fits, product_back, product_size}
use Rattle.transform.proofs.term.Goals as goal

pub overflow_mul-result : goal.overflow_mul-result
overflow_mul-result c =
    let fits : SFits w32 (get_or c.args.x.now c.args.u (pos 0)) = search rules in
    product_fits c.args.x.now c.args.u c.args.n _ _ c.requires.0 c.requires.1 c.factor.ensures fits (c.from.ensures ∙ to_z-of_z fits)

pub returns-clause-value : goal.returns-clause-value
returns-clause-value c =
    let fits : SFits w32 (get_or c.args.x.now c.args.u (pos 0)) = search rules in
    product_back c.args.x.now c.args.u c.args.n _ _ c.requires.0 c.requires.1 c.factor.ensures fits (c.from.ensures ∙ to_z-of_z fits)

pub returns-clause-small : goal.returns-clause-small
returns-clause-small c =
    let fits : SFits w32 (get_or c.args.x.now c.args.u (pos 0)) = search rules in
    product_size c.args.x.now c.args.u c.args.n _ _ c.requires.0 c.requires.1 c.factor.ensures fits (c.from.ensures ∙ to_z-of_z fits)
