-- The 64 samples of a square, one after the other by rows.
use Rattle.std.proofs.Common.{◌≡◌, ℕ, ◌+◌, ◌-◌, ◌*◌, ◌/◌, ◌%◌, ◌<◌, ◌≤◌, Bool, false, ◌&&◌, ◌||◌, ltb, List, length, get_or, sym, refl, ap, ◌∙◌, arith}
use Rattle.std.proofs.lemmas.Bool.Decides.{nat_tests}
use Rattle.pictures.specs.Pictures.{Picture, here, painted, painted_square, span, square_at, written}
use Rattle.pictures.proofs.Painting.{alike, block, block_more, block_none, none, step}

-- a loop that writes f k at each place k of an array of 64 has come to place n
abbrev pub Filled : (ℕ → ℕ) → ℕ → List ℕ → Type 0
Filled f n xs = (length xs ≡ 64) × ((k : ℕ) → k < n → get_or xs k 0 ≡ f k)

-- the places of a square before its place n
unfoldable pub square_up_to : ℕ → ℕ → ℕ → ℕ → ℕ → ℕ → ℕ → Bool
square_up_to p x y n q u v = square_at p x y q u v && ltb (8 * (v - y) + (u - x)) n

pub square_none : (p x y q u v : ℕ) → square_up_to p x y 0 q u v ≡ false
unfolding square_up_to square_at
square_none p x y q u v = grind (arith, nat_tests)

square_more : (p x y n q u v : ℕ) → n < 64 → square_up_to p x y (n + 1) q u v ≡ (here p (x + n % 8) (y + n / 8) q u v || square_up_to p x y n q u v)
unfolding square_up_to square_at here
square_more p x y n q u v h = grind (arith, nat_tests)

-- four places at once
pub square_word : (p x y n q u v : ℕ) → n < 16
    → square_up_to p x y (4 * (n + 1)) q u v ≡ (span p (y + n / 2) (x + n % 2 * 4) (x + n % 2 * 4 + 4) q u v || square_up_to p x y (4 * n) q u v)
unfolding square_up_to square_at span
square_word p x y n q u v h = grind (arith, nat_tests)

pub square_all : (p x y n q u v : ℕ) → 64 ≤ n → square_up_to p x y n q u v ≡ square_at p x y q u v
unfolding square_up_to square_at
square_all p x y n q u v h = grind (arith, nat_tests)

-- the picture in which the first n of a square's values are set
abbrev pub set_so_far : Picture → ℕ → ℕ → ℕ → List ℕ → ℕ → Picture
set_so_far f p x y values n = painted (square_up_to p x y n) (λ _ u v. get_or values (8 * (v - y) + (u - x)) 0) f

pub set_none : (f : Picture) (p x y : ℕ) (values : List ℕ) → f ≡ set_so_far f p x y values 0
set_none f p x y values = none _ _ _ (square_none p x y)

number : (x y n : ℕ) → 8 * (y + n / 8 - y) + (x + n % 8 - x) ≡ n
number x y n = omega arith

pub set_more : (f f₁ f₂ : Picture) (p x y n value : ℕ) (values : List ℕ) → n < 64 → f₁ ≡ set_so_far f p x y values n → f₂ ≡ written f₁ p (x + n % 8) (y + n / 8) value
    → value ≡ get_or values n 0 → f₂ ≡ set_so_far f p x y values (n + 1)
set_more f f₁ f₂ p x y n value values h was wrote is =
    step (square_up_to p x y n) (square_up_to p x y (n + 1)) _ f f₁ f₂ p (x + n % 8) (y + n / 8) value was wrote (is ∙ ap (λ m. get_or values m 0) (sym (number x y n)))
    (λ q u v. square_more p x y n q u v h)

pub set_all : (f f₁ : Picture) (p x y n : ℕ) (values : List ℕ) → 64 ≤ n → f₁ ≡ set_so_far f p x y values n → f₁ ≡ painted_square f p x y values
set_all f f₁ p x y n values h was = was ∙ alike _ _ _ _ (λ q u v i. square_all p x y n q u v h)

-- the rows of a square before row n
pub no_rows : (p x y q u v : ℕ) → block p x (x + 8) y (y + 0) q u v ≡ false
no_rows p x y q u v = let e : y + 0 ≡ y = omega arith in rw e (block_none p x (x + 8) y q u v)

pub rows_more : (p x y n q u v : ℕ) → block p x (x + 8) y (y + (n + 1)) q u v ≡ (span p (y + n) x (x + 8) q u v || block p x (x + 8) y (y + n) q u v)
rows_more p x y n q u v = let e : y + (n + 1) ≡ y + n + 1 = omega arith in rw e (block_more p x (x + 8) y (y + n) q u v (omega arith))

pub rows_all : (p x y n q u v : ℕ) → n ≡ 8 → block p x (x + 8) y (y + n) q u v ≡ square_at p x y q u v
unfolding block square_at
rows_all p x y n q u v e = rw e refl
