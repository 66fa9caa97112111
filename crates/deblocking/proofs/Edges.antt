-- Edges are filtered part by part, each from samples that no part before has touched.
use Rattle.std.proofs.Common.{◌≡◌, ℕ, ◌+◌, ◌*◌, ◌/◌, ◌<◌, ◌≤◌, max, Bool, true, false, ◌&&◌, ◌||◌, eqb, ltb, leb, Some, Option, sym, refl, ap, ◌∙◌, ⊎_elim, arith}
use mathlib.Core.Bool.{and_comm}
use Rattle.std.proofs.lemmas.Bool.{and_right, cases_eq, cond-false, ne_eqb}
use Rattle.std.proofs.lemmas.Bool.Decides.{nat_tests}
use Rattle.samples.specs.Deblocking.{deblocked, strength_of}
use Rattle.pictures.specs.Pictures.{Picture, has, inside, painted, side}
use Rattle.pictures.specs.declared.layouts.Segment.{Segment}
use Rattle.pictures.proofs.Addresses.{by_side}
use Rattle.pictures.proofs.Painting.{same_picture, until}
use Rattle.deblocking.specs.Edges.{turn, edge, role, first, four_from, of_role, deblocked_at, border, edges, edges_in}

-- the macroblock that a coordinate lies in is one of those whose samples begin before it and end after it
pub between : (q a b u : ℕ) → a * side q ≤ u → u < b * side q → (a ≤ u / side q) × (u / side q < b)
between q a b u = by_side (λ s. a * s ≤ u → u < b * s → (a ≤ u / s) × (u / s < b)) q (λ h i. (omega arith, omega arith)) (λ h i. (omega arith, omega arith))

-- turning
pub turned_inside : (w h p x y : ℕ) → inside w h p x y ≡ inside h w p y x
unfolding inside
turned_inside w h p x y = ap (λ b. ltb p 3 && b) (and_comm (ltb x (w * side p)) (ltb y (h * side p)))

pub turned_twice : (t : Bool) (f : Picture) → turn t (turn t f) ≡ f
turned_twice true f = refl
turned_twice false f = refl

-- a place that is not painted has what it had
pub unpainted : (done : ℕ → ℕ → ℕ → Bool) (new : ℕ → ℕ → ℕ → ℕ) (f : Picture) (q u v : ℕ) → done q u v ≡ false → (painted done new f).sample q u v ≡ f.sample q u v
unpainted done new f q u v e = cond-false _ _ _ (and_right (has f q u v) _ e)

-- what is filtered rests on the quantizer and on the edge's four samples
pub deblocked_same : (k l : ℕ → ℕ → ℕ → Option ℕ) (f g : ℕ → ℕ → ℕ → ℕ) (q u v : ℕ) → k q u (edge v) ≡ l q u (edge v) → role v < 4 → 1 ≤ edge v
    → ((j : ℕ) → j < 4 → f q u (first (edge v) + j) ≡ g q u (first (edge v) + j)) → deblocked_at k f q u v ≡ deblocked_at l g q u v
unfolding deblocked_at
deblocked_same k l f g q u v same r pos kept =
    let z : first (edge v) + 0 ≡ first (edge v) = omega arith in
    let m : first (edge v) + role v ≡ v = omega arith in
    let e0 : f q u (first (edge v)) ≡ g q u (first (edge v)) = ap (f q u) (sym z) ∙ kept 0 (omega arith) ∙ ap (g q u) z in
    let e : f q u v ≡ g q u v = ap (f q u) (sym m) ∙ kept (role v) r ∙ ap (g q u) m in
    simp (same, e, e0, kept 1 (omega arith), kept 2 (omega arith), kept 3 (omega arith))

-- a part that lies apart from those filtered before is filtered from what stood there at first: f₁ is f so far, f₂ what the part makes of it
pub then_deblocked : (done₁ done₂ done : ℕ → ℕ → ℕ → Bool) (k k₂ : ℕ → ℕ → ℕ → Option ℕ) (f f₁ f₂ : Picture)
    → f₁ ≡ painted done₁ (deblocked_at k f.sample) f → f₂ ≡ painted done₂ (deblocked_at k₂ f₁.sample) f₁
    → ((q u v : ℕ) → done q u v ≡ (done₂ q u v || done₁ q u v))
    → ((q u v j : ℕ) → done₂ q u v ≡ true → j < 4 → done₁ q u (first (edge v) + j) ≡ false)
    → ((q u v : ℕ) → done₂ q u v ≡ true → (role v < 4) × (1 ≤ edge v) × (k₂ q u (edge v) ≡ k q u (edge v)))
    → f₂ ≡ painted done (deblocked_at k f.sample) f
then_deblocked done₁ done₂ done k k₂ f f₁ f₂ was now joins apart says =
    now ∙ ap (λ m. painted done₂ (deblocked_at k₂ m.sample) m) was
    ∙ same_picture _ _ refl refl (λ q u v. at q u v (has f q u v) refl (done₂ q u v) refl)
  where
    mid : Picture
    mid = painted done₁ (deblocked_at k f.sample) f

    at : (q u v : ℕ) (b : Bool) → has f q u v ≡ b → (d : Bool) → done₂ q u v ≡ d
        → (painted done₂ (deblocked_at k₂ mid.sample) mid).sample q u v ≡ (painted done (deblocked_at k f.sample) f).sample q u v
    at q u v true e true d =
        let s = says q u v d in
        let same : deblocked_at k₂ mid.sample q u v ≡ deblocked_at k f.sample q u v
        = deblocked_same k₂ k mid.sample f.sample q u v s.2 s.0 s.1 (λ j l. unpainted done₁ (deblocked_at k f.sample) f q u _ (apart q u v j d l)) in
        simp (e, d, joins q u v) same
    at q u v true e false d = simp (e, d, joins q u v)
    at q u v false e d i = simp e

-- sample j of the four that the filter makes at place x along edge n
abbrev pub tap : ℕ → Picture → ℕ → ℕ → ℕ → ℕ → ℕ
tap quantizer f p x n j = of_role j (deblocked (strength_of quantizer) (four_from f.sample p x (first n)))

pub deblocked_tap : (quantizer : ℕ) (f : Picture) (p x n j : ℕ) → 1 ≤ n → j < 4 → deblocked_at (λ _ _ _. Some quantizer) f.sample p x (first n + j) ≡ tap quantizer f p x n j
unfolding deblocked_at
deblocked_tap quantizer f p x n j l m =
    let e : edge (first n + j) ≡ n = omega arith in
    let r : role (first n + j) ≡ j = omega arith in
    rw (e, r)

-- parts of edges: none yet, one more along an edge, one edge more
pub none_along : (p low from to q u v : ℕ) → edges p low low from to q u v ≡ false
unfolding edges
none_along p low from to q u v = grind (arith, nat_tests)

pub none_over : (p low high from q u v : ℕ) → edges p low high from from q u v ≡ false
unfolding edges
none_over p low high from q u v = grind (arith, nat_tests)

more_along : (p low x z from to q u v : ℕ) → low ≤ x → x ≤ z → edges p low z from to q u v ≡ (edges p x z from to q u v || edges p low x from to q u v)
unfolding edges
more_along p low x z from to q u v h i = grind (arith, nat_tests)

pub more_over : (p low high from n q u v : ℕ) → from ≤ n → edges p low high from (n + 1) q u v ≡ (edges p low high n (n + 1) q u v || edges p low high from n q u v)
unfolding edges
more_over p low high from n q u v h = grind (arith, nat_tests)

-- what the places of one edge are, and that neither what lies before along it nor an edge before has them
pub says : (p low high n q u v : ℕ) → edges p low high n (n + 1) q u v ≡ true → (p ≡ q) × (low ≤ u) × (u < high) × (role v < 4) × (edge v ≡ n)
unfolding edges
says p low high n q u v e = (grind (arith, nat_tests), grind (arith, nat_tests), grind (arith, nat_tests), grind (arith, nat_tests), grind (arith, nat_tests))

apart_along : (p low x z n q u v j : ℕ) → edges p x z n (n + 1) q u v ≡ true → j < 4 → edges p low x n (n + 1) q u (first (edge v) + j) ≡ false
unfolding edges
apart_along p low x z n q u v j e m = grind (arith, nat_tests)

pub apart_over : (p low high from n q u v j : ℕ) → 1 ≤ n → edges p low high n (n + 1) q u v ≡ true → j < 4 → edges p low high from n q u (first (edge v) + j) ≡ false
unfolding edges
apart_over p low high from n q u v j l e m = grind (arith, nat_tests)

-- an edge filtered up to x along it, from there on to z, is filtered up to z: f₁ is f so far, f₂ what the part from x makes of it
pub filtered_on : (p low x z n : ℕ) (k k₂ : ℕ → ℕ → ℕ → Option ℕ) (f f₁ f₂ : Picture) → low ≤ x → x ≤ z → 1 ≤ n
    → f₁ ≡ painted (edges p low x n (n + 1)) (deblocked_at k f.sample) f → f₂ ≡ painted (edges p x z n (n + 1)) (deblocked_at k₂ f₁.sample) f₁
    → ((u : ℕ) → x ≤ u → u < z → k₂ p u n ≡ k p u n) → f₂ ≡ painted (edges p low z n (n + 1)) (deblocked_at k f.sample) f
filtered_on p low x z n k k₂ f f₁ f₂ h i l was now same =
    then_deblocked (edges p low x n (n + 1)) (edges p x z n (n + 1)) (edges p low z n (n + 1)) k k₂ f f₁ f₂ was now
    (λ q u v. more_along p low x z n (n + 1) q u v h i)
    (λ q u v j e m. apart_along p low x z n q u v j e m)
    (λ q u v e. let s = says p x z n q u v e in (s.3, omega (arith, s.4), rw (s.4, ← s.0) (same u s.1 s.2)))

-- a counter that began at a has reached b, or never left a
pub until_along : (p low high x from to q u v : ℕ) → low ≤ x → high ≤ x → x ≤ max low high → edges p low x from to q u v ≡ edges p low high from to q u v
unfolding edges
until_along p low high x from to q u v h i j = grind (arith, nat_tests)

-- the edges strictly inside a segment: where they are, and that a sweep over their numbers has them all
pub inside_says : (s : Segment) (q u v : ℕ) → edges_in s q u v ≡ true
    → (s.left * side q ≤ u) × (u < s.right * side q) × (role v < 4) × (s.top * side q < edge v * 8) × (edge v * 8 < s.bottom * side q)
unfolding edges_in
inside_says s q u v e = (grind (arith, nat_tests), grind (arith, nat_tests), grind (arith, nat_tests), grind (arith, nat_tests), grind (arith, nat_tests))

numbered : (p a b e : ℕ) → (leb (border p a + 1) e && ltb e (border p b)) ≡ (ltb (a * side p) (e * 8) && ltb (e * 8) (b * side p))
numbered p a b e =
    by_side (λ s. (leb (a * (s / 8) + 1) e && ltb e (b * (s / 8))) ≡ (ltb (a * s) (e * 8) && ltb (e * 8) (b * s))) p (grind (arith, nat_tests)) (grind (arith, nat_tests))

pub all_inside : (s : Segment) (p n q u v : ℕ) → border p s.top + 1 ≤ n → border p s.bottom ≤ n → n ≤ max (border p s.top + 1) (border p s.bottom)
    → edges p (s.left * side p) (s.right * side p) (border p s.top + 1) n q u v ≡ (eqb p q && edges_in s q u v)
unfolding edges edges_in
all_inside s p n q u v h i j =
    ap (λ b. eqb p q && ((leb (s.left * side p) u && ltb u (s.right * side p)) && (ltb (role v) 4 && b))) (until _ _ n (edge v) h i j ∙ numbered p s.top s.bottom (edge v))
    ∙ ⊎_elim (λ (e : p ≡ q). rw e refl) (λ (e : p ≡ q → ⊥). simp (ne_eqb p q e)) (cases_eq p q)

-- no plane before has the places of plane p
pub apart_planes : (b c : Bool) (p q : ℕ) → (eqb p q && b) ≡ true → (ltb q p && c) ≡ false
apart_planes b c p q e = grind (arith, nat_tests)
