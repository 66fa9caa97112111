-- The filter of a segment changes nothing outside it and rests on nothing outside it.
use Rattle.std.proofs.Common.{◌≡◌, ℕ, ◌+◌, ◌-◌, ◌*◌, ◌/◌, ◌<◌, ◌≤◌, Bool, true, false, ◌&&◌, ltb, leb, List, Option, sym, refl, ap, ◌∙◌, arith}
use Rattle.std.proofs.lemmas.Bool.{and_from, both_ways, le-leb, lt-ltb}
use Rattle.pictures.specs.Pictures.{Picture, covers, has, painted, side}
use Rattle.pictures.specs.declared.layouts.Segment.{Segment}
use Rattle.deblocking.specs.Edges.{Local, SameMarks, across_of, down_of, edge, role, first, deblocked_at, mark_in, quantizer_at, edges_in, filtered, filtered_over, turn, turn_segment}
use Rattle.pictures.proofs.Addresses.{by_side}
use Rattle.deblocking.proofs.Edges.{between, inside_says, deblocked_same, unpainted}

-- all four samples of an edge inside a segment are the segment's
rows_covered : (q a b n j : ℕ) → a * side q < n * 8 → n * 8 < b * side q → j < 4 → (a * side q ≤ first n + j) × (first n + j < b * side q)
rows_covered q a b n j =
    by_side (λ s. a * s < n * 8 → n * 8 < b * s → j < 4 → (a * s ≤ first n + j) × (first n + j < b * s)) q (λ h i l. (omega arith, omega arith)) (λ h i l. (omega arith, omega arith))

four_covered : (s : Segment) (q u v j : ℕ) → edges_in s q u v ≡ true → j < 4 → covers s q u (first (edge v) + j) ≡ true
unfolding covers
four_covered s q u v j e l =
    let w = inside_says s q u v e in
    let r = rows_covered q s.top s.bottom (edge v) j w.3 w.4 l in
    and_from _ _ (le-leb _ _ w.0) (and_from _ _ (lt-ltb _ _ w.1) (and_from _ _ (le-leb _ _ r.0) (lt-ltb _ _ r.1)))

edges_covered : (s : Segment) (q u v : ℕ) → edges_in s q u v ≡ true → covers s q u v ≡ true
edges_covered s q u v e =
    let w = inside_says s q u v e in
    let m : first (edge v) + role v ≡ v = omega (arith, w.3) in
    ap (covers s q u) (sym m) ∙ four_covered s q u v (role v) e w.2

not_covered : (s : Segment) (q u v : ℕ) → covers s q u v ≡ false → edges_in s q u v ≡ false
not_covered s q u v h = at (edges_in s q u v) refl
  where
    at : (b : Bool) → edges_in s q u v ≡ b → edges_in s q u v ≡ false
    at true e = absurd (both_ways _ h (edges_covered s q u v e))
    at false e = e

-- a segment turned has the places turned
crossed : (a b c d : Bool) → (a && (b && (c && d))) ≡ (c && (d && (a && b)))
crossed true true true true = refl
crossed true true true false = refl
crossed true true false d = refl
crossed true false true true = refl
crossed true false true false = refl
crossed true false false d = refl
crossed false b true true = refl
crossed false b true false = refl
crossed false b false d = refl

turned_covers : (t : Bool) (s : Segment) (q u v : ℕ) → covers s q (across_of t u v) (down_of t u v) ≡ covers (turn_segment t s) q u v
unfolding covers
turned_covers true s q u v = crossed (leb (s.left * side q) v) (ltb v (s.right * side q)) (leb (s.top * side q) u) (ltb u (s.bottom * side q))
turned_covers false s q u v = refl

-- outside, one direction of edges changes nothing
kept_over : (t : Bool) (marks : List (Option ℕ)) (s : Segment) (f : Picture) (q u v : ℕ) → covers s q u v ≡ false → (filtered_over t marks s f).sample q u v ≡ f.sample q u v
kept_over true marks s f q u v e = unpainted (edges_in (turn_segment true s)) (deblocked_at (quantizer_at marks f.wide true) (turn true f).sample) (turn true f) q v u (not_covered (turn_segment true s) q v u (sym (turned_covers true s q v u) ∙ e))
kept_over false marks s f q u v e = unpainted (edges_in s) (deblocked_at (quantizer_at marks f.wide false) f.sample) f q u v (not_covered s q u v e)

-- two pictures have the same samples at a segment's places of one plane
abbrev pub SamePlane : Segment → ℕ → Picture → Picture → Type 0
SamePlane s q f g = (u v : ℕ) → covers s q u v ≡ true → f.sample q u v ≡ g.sample q u v

-- inside, it rests on the samples of the plane and the quantizers there
same_over : (k l : ℕ → ℕ → ℕ → Option ℕ) (s : Segment) (f g : Picture) → f.wide ≡ g.wide → f.high ≡ g.high
    → ((q u v : ℕ) → edges_in s q u v ≡ true → k q u (edge v) ≡ l q u (edge v))
    → (q : ℕ) → SamePlane s q f g → SamePlane s q (painted (edges_in s) (deblocked_at k f.sample) f) (painted (edges_in s) (deblocked_at l g.sample) g)
same_over k l s f g w h same-k q same u v c = at (has f q u v) refl (edges_in s q u v) refl
  where
    at : (b : Bool) → has f q u v ≡ b → (d : Bool) → edges_in s q u v ≡ d
        → (painted (edges_in s) (deblocked_at k f.sample) f).sample q u v ≡ (painted (edges_in s) (deblocked_at l g.sample) g).sample q u v
    at b e false d = unpainted (edges_in s) (deblocked_at k f.sample) f q u v d ∙ same u v c ∙ sym (unpainted (edges_in s) (deblocked_at l g.sample) g q u v d)
    at false e true d =
        let e' : has g q u v ≡ false = rw (← w, ← h) e in
        simp (e, e') (same u v c)
    at true e true d =
        let e' : has g q u v ≡ true = rw (← w, ← h) e in
        let i = inside_says s q u v d in
        let z : deblocked_at k f.sample q u v ≡ deblocked_at l g.sample q u v
        = deblocked_same k l f.sample g.sample q u v (same-k q u v d) i.2 (omega (arith, i.3)) (λ j m. same u _ (four_covered s q u v j d m)) in
        simp (e, e', d) z

-- both macroblocks at an edge inside a segment are the segment's
before : (q a n : ℕ) → a * side q < n * 8 → a * side q ≤ n * 8 - 1
before q a n h = omega (arith, h)

marked : (t : Bool) (marks marks' : List (Option ℕ)) (w : ℕ) (s : Segment) → SameMarks w s marks marks'
    → (i a : ℕ) → ((turn_segment t s).left ≤ i) × (i < (turn_segment t s).right) → ((turn_segment t s).top ≤ a) × (a < (turn_segment t s).bottom)
    → mark_in marks w (across_of t i a) (down_of t i a) ≡ mark_in marks' w (across_of t i a) (down_of t i a)
marked true marks marks' w s same i a h m = same a i m.0 m.1 h.0 h.1
marked false marks marks' w s same i a h m = same i a h.0 h.1 m.0 m.1

same_quantizers : (t : Bool) (marks marks' : List (Option ℕ)) (w : ℕ) (s : Segment) → SameMarks w s marks marks'
    → (q u v : ℕ) → edges_in (turn_segment t s) q u v ≡ true → quantizer_at marks w t q u (edge v) ≡ quantizer_at marks' w t q u (edge v)
same_quantizers t marks marks' w s same q u v e =
    let s' = turn_segment t s in
    let i = inside_says s' q u v e in
    let along = between q s'.left s'.right u i.0 i.1 in
    let down : s'.top * side q ≤ edge v * 8 = omega (arith, i.3) in
    let up : edge v * 8 - 1 < s'.bottom * side q = omega (arith, i.4) in
    let x = marked t marks marks' w s same (u / side q) (edge v * 8 / side q) along (between q s'.top s'.bottom (edge v * 8) down i.4) in
    let y = marked t marks marks' w s same (u / side q) ((edge v * 8 - 1) / side q) along (between q s'.top s'.bottom (edge v * 8 - 1) (before q s'.top (edge v) i.3) up) in
    simp (x, y)

same_filtered : (t : Bool) (marks marks' : List (Option ℕ)) (s : Segment) (f g : Picture) → f.wide ≡ g.wide → f.high ≡ g.high → SameMarks f.wide s marks marks'
    → (q : ℕ) → SamePlane s q f g → SamePlane s q (filtered_over t marks s f) (filtered_over t marks' s g)
same_filtered true marks marks' s f g w h m q same u v c =
    same_over _ (quantizer_at marks' g.wide true) (turn_segment true s) (turn true f) (turn true g) h w
    (λ q u v e. same_quantizers true marks marks' f.wide s m q u v e ∙ ap (λ n. quantizer_at marks' n true q u (edge v)) w)
    q (λ u v e. same v u (turned_covers true s q u v ∙ e))
    v u (sym (turned_covers true s q v u) ∙ c)
same_filtered false marks marks' s f g w h m q same u v c =
    same_over _ (quantizer_at marks' g.wide false) s f g w h
    (λ q u v e. same_quantizers false marks marks' f.wide s m q u v e ∙ ap (λ n. quantizer_at marks' n false q u (edge v)) w)
    q same u v c

-- each plane is filtered by itself
pub within_plane : (s : Segment) (marks marks' : List (Option ℕ)) (f g : Picture) → f.wide ≡ g.wide → f.high ≡ g.high → SameMarks f.wide s marks marks'
    → (q : ℕ) → SamePlane s q f g → SamePlane s q (filtered marks s f) (filtered marks' s g)
within_plane s marks marks' f g w h m q same =
    same_filtered true marks marks' s (filtered_over false marks s f) (filtered_over false marks' s g) w h m q (same_filtered false marks marks' s f g w h m q same)

pub local : (s : Segment) → Local s
local s =
    record {
      outside = λ marks f q u v e. kept_over true marks s (filtered_over false marks s f) q u v e ∙ kept_over false marks s f q u v e;
      within = λ marks marks' f g w h m same q. within_plane s marks marks' f g w h m q (same q);
    }
