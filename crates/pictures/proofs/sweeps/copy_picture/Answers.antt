use Rattle.std.proofs.Common.{refl, ◌∙◌}
use Rattle.pictures.proofs.Painting.{alike, whole_covered, repainted}
use Rattle.pictures.proofs.sweeps.copy_picture.Goals as goal

pub returns : goal.returns
returns g c =
    let f = g.S.Store.picture c.args.to.now in
    let all = c.copy_segment.ensures
    ∙ alike _ _ _ _ (λ q u v h. whole_covered (record { left = 0; right = c.columns.result; top = 0; bottom = c.rows.result }) f.wide f.high q u v refl c.columns.ensures refl c.rows.ensures h) in
    record {
      after = all;
      whole = λ w h. all ∙ repainted f _ w h (g.met.S.Store.outside c.args.to.now) (g.met.S.Store.outside c.args.from.now);
    }
