use Rattle.std.proofs.Common.{◌≡◌, ℕ, Bool, true, false, cond, ◌&&◌, None, Option, refl}
use Rattle.pictures.specs.Pictures.{Picture, has, painted}
use Rattle.pictures.proofs.Painting.{same_picture}
use Rattle.deblocking.specs.Edges.{deblocked_at}
use Rattle.deblocking.proofs.Edge.filter_marked.Goals as goal

same : {X : Type 0} (b : Bool) (x : X) → x ≡ cond b x x
same true x = refl
same false x = refl

-- where there is no mark, every place keeps its sample
unmarked : (places : ℕ → ℕ → ℕ → Bool) (mark : Option ℕ) (f : Picture) → mark ≡ None → f ≡ painted places (deblocked_at (λ _ _ _. mark) f.sample) f
unfolding deblocked_at
unmarked places mark f e = same_picture _ _ refl refl (λ q u v. simp e (same (has f q u v && places q u v) (f.sample q u v)))

pub returns-in_default : goal.returns-in_default
returns-in_default g c = unmarked _ _ _ c.in_default.is
