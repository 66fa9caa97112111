-- A sweep paints places of a picture part by part: how what is painted grows.
use Rattle.std.proofs.Common.{◌≡◌, ℕ, zero, suc, ◌+◌, ◌*◌, ◌<◌, ◌≤◌, max, Bool, true, false, ◌&&◌, ◌||◌, eqb, ltb, leb, sym, refl, ap, ◌∙◌, ⊎_elim, zero-mul, arith}
use Rattle.std.proofs.lemmas.Bool.{cases_eq, ne_eqb}
use Rattle.std.proofs.lemmas.Bool.Decides.{nat_tests}
use Rattle.pictures.specs.declared.layouts.Segment.{Segment}
use Rattle.pictures.specs.Pictures.{Picture, has, inside, here, span, covers, painted, row_in, written, side}

-- pictures of one size that agree at each place are one
pub same_picture : (f g : Picture) → f.wide ≡ g.wide → f.high ≡ g.high → ((q u v : ℕ) → f.sample q u v ≡ g.sample q u v) → f ≡ g
same_picture f g a b c = λ i. record { wide = a i; high = b i; sample = λ q u v. c q u v i }

pub same_place : (p x y q u v : ℕ) → here p x y q u v ≡ true → (p ≡ q) × (x ≡ u) × (y ≡ v)
unfolding here
same_place p x y q u v e = (grind (arith, nat_tests), grind (arith, nat_tests), grind (arith, nat_tests))

-- what is painted alike is one picture
pub alike : (done done' : ℕ → ℕ → ℕ → Bool) (new : ℕ → ℕ → ℕ → ℕ) (f : Picture)
    → ((q u v : ℕ) → has f q u v ≡ true → done q u v ≡ done' q u v) → painted done new f ≡ painted done' new f
alike done done' new f same = same_picture _ _ refl refl (λ q u v. at q u v (has f q u v) refl)
  where
    at : (q u v : ℕ) (b : Bool) → has f q u v ≡ b → (painted done new f).sample q u v ≡ (painted done' new f).sample q u v
    at q u v true e = simp (e, same q u v e)
    at q u v false e = simp e

-- nothing is painted yet
pub none : (done : ℕ → ℕ → ℕ → Bool) (new : ℕ → ℕ → ℕ → ℕ) (f : Picture) → ((q u v : ℕ) → done q u v ≡ false) → f ≡ painted done new f
none done new f empty = same_picture _ _ refl refl (λ q u v. at q u v (has f q u v) refl)
  where
    at : (q u v : ℕ) (b : Bool) → has f q u v ≡ b → f.sample q u v ≡ (painted done new f).sample q u v
    at q u v true e = simp (e, empty q u v)
    at q u v false e = simp e

-- a part is painted after others: f₁ is f so far, and f₂ is what the next part makes of it
pub both : (done₁ done₂ done : ℕ → ℕ → ℕ → Bool) (new : ℕ → ℕ → ℕ → ℕ) (f f₁ f₂ : Picture)
    → f₁ ≡ painted done₁ new f → f₂ ≡ painted done₂ new f₁
    → ((q u v : ℕ) → done q u v ≡ (done₂ q u v || done₁ q u v)) → f₂ ≡ painted done new f
both done₁ done₂ done new f f₁ f₂ was now joins =
    now ∙ ap (λ g. painted done₂ new g) was ∙ same_picture _ _ refl refl (λ q u v. at q u v (has f q u v) refl (done₂ q u v) refl)
  where
    at : (q u v : ℕ) (b : Bool) → has f q u v ≡ b → (d : Bool) → done₂ q u v ≡ d
        → (painted done₂ new (painted done₁ new f)).sample q u v ≡ (painted done new f).sample q u v
    at q u v true e true d = simp (e, d, joins q u v)
    at q u v true e false d = simp (e, d, joins q u v)
    at q u v false e d i = simp e

-- and so where the part is one place, written with what it should have
pub step : (done done' : ℕ → ℕ → ℕ → Bool) (new : ℕ → ℕ → ℕ → ℕ) (f f₁ f₂ : Picture) (p x y value : ℕ)
    → f₁ ≡ painted done new f → f₂ ≡ written f₁ p x y value → value ≡ new p x y
    → ((q u v : ℕ) → done' q u v ≡ (here p x y q u v || done q u v)) → f₂ ≡ painted done' new f
step done done' new f f₁ f₂ p x y value was wrote is grows =
    both done (here p x y) done' new f f₁ f₂ was (wrote ∙ same_picture _ _ refl refl (λ q u v. at q u v (has f₁ q u v) refl (here p x y q u v) refl)) grows
  where
    at : (q u v : ℕ) (b : Bool) → has f₁ q u v ≡ b → (d : Bool) → here p x y q u v ≡ d
        → (written f₁ p x y value).sample q u v ≡ (painted (here p x y) new f₁).sample q u v
    at q u v true e true d =
        let t = same_place p x y q u v d in
        simp (e, d) (is ∙ ap (λ n. new n x y) t.0 ∙ ap (λ n. new q n y) t.1 ∙ ap (λ n. new q u n) t.2)
    at q u v true e false d = simp (e, d)
    at q u v false e d i = simp e

-- a row from left to x
span_none : (p y left q u v : ℕ) → span p y left left q u v ≡ false
unfolding span
span_none p y left q u v = grind (arith, nat_tests)

span_more : (p y left x q u v : ℕ) → left ≤ x → span p y left (x + 1) q u v ≡ (here p x y q u v || span p y left x q u v)
unfolding span here
span_more p y left x q u v h = grind (arith, nat_tests)

-- a row of one place
pub span_one : (new : ℕ → ℕ → ℕ → ℕ) (f f₂ : Picture) (p x y value : ℕ) → f₂ ≡ written f p x y value → value ≡ new p x y
    → f₂ ≡ painted (span p y x (x + 1)) new f
span_one new f f₂ p x y value wrote is =
    step (span p y x x) (span p y x (x + 1)) new f f f₂ p x y value (none _ _ _ (span_none p y x)) wrote is (λ q u v. span_more p y x x q u v (omega arith))

-- a row's part from left to x, and the next from x to z
span_join : (p y left x z q u v : ℕ) → left ≤ x → x ≤ z → span p y left z q u v ≡ (span p y x z q u v || span p y left x q u v)
unfolding span
span_join p y left x z q u v h i = grind (arith, nat_tests)

-- a counter that began at a has reached b, or never left a
pub until : (a b n v : ℕ) → a ≤ n → b ≤ n → n ≤ max a b → (leb a v && ltb v n) ≡ (leb a v && ltb v b)
until a b n v h i j = grind (arith, nat_tests)

span_all : (p y left right x q u v : ℕ) → left ≤ x → right ≤ x → x ≤ max left right → span p y left x q u v ≡ span p y left right q u v
unfolding span
span_all p y left right x q u v h i j = ap (λ b. eqb p q && (eqb y v && b)) (until left right x u h i j)

-- of a row that gets new samples from left to before right, run by run, those before x have them
abbrev pub RowTo : (ℕ → ℕ → ℕ → ℕ) → Picture → Picture → ℕ → ℕ → ℕ → ℕ → ℕ → Type 0
RowTo new f f₁ p y left right x = (f₁ ≡ painted (span p y left x) new f) × (left ≤ x) × (x ≤ max left right)

pub row_begun : (new : ℕ → ℕ → ℕ → ℕ) (f : Picture) (p y left right : ℕ) → RowTo new f f p y left right left
row_begun new f p y left right = (none _ _ _ (span_none p y left), omega arith, omega arith)

pub row_more : (new : ℕ → ℕ → ℕ → ℕ) (f f₁ f₂ : Picture) (p y left right x z : ℕ) → RowTo new f f₁ p y left right x → (x < z) × (z ≤ right)
    → f₂ ≡ painted (span p y x z) new f₁ → RowTo new f f₂ p y left right z
row_more new f f₁ f₂ p y left right x z was next now = (
  both (span p y left x) (span p y x z) (span p y left z) new f f₁ f₂ was.0 now (λ q u v. span_join p y left x z q u v was.1 (omega (arith, next.0))),
  omega (arith, was.1, next.0),
  omega (arith, next.1),
)

pub row_done : (new : ℕ → ℕ → ℕ → ℕ) (f f₁ : Picture) (p y left right x : ℕ) → RowTo new f f₁ p y left right x → right ≤ x → f₁ ≡ painted (span p y left right) new f
row_done new f f₁ p y left right x was end = was.0 ∙ alike _ _ _ _ (λ q u v h. span_all p y left right x q u v was.1 end was.2)

-- the rows of plane p from top to before y
unfoldable pub block : ℕ → ℕ → ℕ → ℕ → ℕ → ℕ → ℕ → ℕ → Bool
block p left right top y q u v = eqb p q && (leb left u && (ltb u right && (leb top v && ltb v y)))

pub block_none : (p left right top q u v : ℕ) → block p left right top top q u v ≡ false
unfolding block
block_none p left right top q u v = grind (arith, nat_tests)

pub block_more : (p left right top y q u v : ℕ) → top ≤ y
    → block p left right top (y + 1) q u v ≡ (span p y left right q u v || block p left right top y q u v)
unfolding block span
block_more p left right top y q u v h = grind (arith, nat_tests)

pub block_all : (s : Segment) (p y q u v : ℕ) → s.top * side p ≤ y → s.bottom * side p ≤ y → y ≤ max (s.top * side p) (s.bottom * side p)
    → block p (s.left * side p) (s.right * side p) (s.top * side p) y q u v ≡ (eqb p q && covers s q u v)
unfolding block covers
block_all s p y q u v h i j =
    ap (λ b. eqb p q && (leb (s.left * side p) u && (ltb u (s.right * side p) && b))) (until _ _ y v h i j)
    ∙ ⊎_elim (λ (e : p ≡ q). rw e refl) (λ (e : p ≡ q → ⊥). simp (ne_eqb p q e)) (cases_eq p q)

-- of a rectangle's rows of macroblocks those above a row
abbrev pub rows_above : Segment → ℕ → Segment
rows_above s row = record s { bottom = row }

pub no_rows_above : (s : Segment) (q u v : ℕ) → covers (rows_above s s.top) q u v ≡ false
unfolding covers
no_rows_above s q u v = grind (arith, nat_tests)

pub rows_above_more : (s : Segment) (row q u v : ℕ) → s.top ≤ row → covers (rows_above s (row + 1)) q u v ≡ (covers (row_in s row) q u v || covers (rows_above s row) q u v)
unfolding covers
rows_above_more s row zero u v h = grind (arith, nat_tests)
rows_above_more s row (suc q) u v h = grind (arith, nat_tests)

pub planes_more : (b : Bool) (p q : ℕ) → (ltb q (p + 1) && b) ≡ ((eqb p q && b) || (ltb q p && b))
planes_more true p q = grind (arith, nat_tests)
planes_more false p q = grind (arith, nat_tests)

pub planes_all : (f : Picture) (b : Bool) (n q u v : ℕ) → 3 ≤ n → has f q u v ≡ true → (ltb q n && b) ≡ b
unfolding inside
planes_all f b n q u v h e = grind (arith, nat_tests)

-- the rectangle of the whole picture has all its places
pub whole_covered : (s : Segment) (columns rows q u v : ℕ) → s.left ≡ 0 → s.right ≡ columns → s.top ≡ 0 → s.bottom ≡ rows → inside columns rows q u v ≡ true
    → covers s q u v ≡ true
unfolding covers inside
whole_covered s columns rows q u v a b c d e =
    let l : 0 * side q ≡ 0 = zero-mul (side q) in
    rw (a, b, c, d) (simp l (grind (arith, nat_tests)))

-- a picture that is painted whole from one of its size is that picture
pub repainted : (f g : Picture) → g.wide ≡ f.wide → g.high ≡ f.high
    → ((q u v : ℕ) → has f q u v ≡ false → f.sample q u v ≡ 0) → ((q u v : ℕ) → has g q u v ≡ false → g.sample q u v ≡ 0)
    → painted (λ _ _ _. true) g.sample f ≡ g
repainted f g a b out-f out-g = same_picture _ _ (sym a) (sym b) (λ q u v. at q u v (has f q u v) refl)
  where
    at : (q u v : ℕ) (b : Bool) → has f q u v ≡ b → (painted (λ _ _ _. true) g.sample f).sample q u v ≡ g.sample q u v
    at q u v true e = simp e
    at q u v false e =
        let out : has g q u v ≡ false = rw (a, b) e in
        simp e (out-f q u v e ∙ sym (out-g q u v out))
