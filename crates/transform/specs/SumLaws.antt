-- Laws of products and sums of integers. Assumes nothing.
use Rattle.std.specs.Prelude.{◌≡◌, ℕ, zero, suc, ◌*◌, ◌<◌, ℤ, pos, ◌+ℤ◌, ◌*ℤ◌, refl}
use Rattle.std.proofs.Common.{sym, ap, ◌∙◌, arith}
use Rattle.std.proofs.Math.IntN.{+ℤ_idl, *ℤ-zero}
use borrow.Author.Differences.{up, down, sum_is_lem, product_is}
use Rattle.std.proofs.lemmas.Int.{ints}
use Rattle.transform.specs.Sums.{sum_to}

pub times_sum : (a b c : ℤ) → a *ℤ (b +ℤ c) ≡ a *ℤ b +ℤ a *ℤ c
times_sum a b c = omega (arith, ints, ap (λ t. up a * t) (sum_is_lem b c), ap (λ t. down a * t) (sum_is_lem b c))

pub times_assoc : (a b c : ℤ) → a *ℤ b *ℤ c ≡ a *ℤ (b *ℤ c)
times_assoc a b c =
    omega (
      arith,
      ints,
      ap (λ t. t * up c) (product_is a b).0,
      ap (λ t. t * down c) (product_is a b).0,
      ap (λ t. t * up c) (product_is a b).1,
      ap (λ t. t * down c) (product_is a b).1,
      ap (λ t. up a * t) (product_is b c).0,
      ap (λ t. down a * t) (product_is b c).0,
      ap (λ t. up a * t) (product_is b c).1,
      ap (λ t. down a * t) (product_is b c).1,
    )

pub sum_same : (n : ℕ) (f g : ℕ → ℤ) → ((u : ℕ) → u < n → f u ≡ g u) → sum_to n f ≡ sum_to n g
unfolding sum_to
sum_same zero f g e = refl
sum_same (suc n) f g e =
    ap (λ z. z +ℤ f n) (sum_same n f g (λ u h. e u (omega arith))) ∙ ap (λ z. sum_to n g +ℤ z) (e n (omega arith))

pub sum_zeros : (n : ℕ) (f : ℕ → ℤ) → ((u : ℕ) → u < n → f u ≡ pos 0) → sum_to n f ≡ pos 0
unfolding sum_to
sum_zeros zero f e = refl
sum_zeros (suc n) f e = ap (λ z. z +ℤ f n) (sum_zeros n f (λ u h. e u (omega arith))) ∙ +ℤ_idl (f n) ∙ e n (omega arith)

pub sum_scale : (n : ℕ) (a : ℤ) (f : ℕ → ℤ) → a *ℤ sum_to n f ≡ sum_to n (λ u. a *ℤ f u)
unfolding sum_to
sum_scale zero a f = *ℤ-zero a
sum_scale (suc n) a f = times_sum a (sum_to n f) (f n) ∙ ap (λ z. z +ℤ a *ℤ f n) (sum_scale n a f)

regrouped : (a b c d : ℤ) → (a +ℤ b) +ℤ (c +ℤ d) ≡ (a +ℤ c) +ℤ (b +ℤ d)
regrouped a b c d = omega (arith, ints)

pub sum_add : (n : ℕ) (f g : ℕ → ℤ) → sum_to n (λ u. f u +ℤ g u) ≡ sum_to n f +ℤ sum_to n g
unfolding sum_to
sum_add zero f g = refl
sum_add (suc n) f g = ap (λ z. z +ℤ (f n +ℤ g n)) (sum_add n f g) ∙ regrouped (sum_to n f) (sum_to n g) (f n) (g n)

-- the order of two sums
pub sum_swap : (m n : ℕ) (f : ℕ → ℕ → ℤ) → sum_to m (λ v. sum_to n (λ u. f u v)) ≡ sum_to n (λ u. sum_to m (λ v. f u v))
unfolding sum_to
sum_swap zero n f = sym (sum_zeros n (λ u. pos 0) (λ u h. refl))
sum_swap (suc m) n f =
    ap (λ z. z +ℤ sum_to n (λ u. f u m)) (sum_swap m n f) ∙ sym (sum_add n (λ u. sum_to m (λ v. f u v)) (λ u. f u m))
