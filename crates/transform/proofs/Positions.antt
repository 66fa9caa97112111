-- The code's table of places keeps the rule of the zigzag, and coefficients are set by it. Assumes nothing.
use Rattle.std.proofs.Common.{◌≡◌, ℕ, ◌+◌, ◌/◌, ◌%◌, ◌<◌, ◌≤◌, eqb, ltb, List, [], ◌∷◌, length, get_or, set, ℤ, pos, sym, refl, ap, ◌∙◌, subst, arith, eqb→eq, ltb→lt, get_or-set_same, get_or-set_other, ⊎_elim}
use Rattle.std.proofs.lemmas.Bool.{cases_eq, cases_lt}
use Rattle.transform.specs.Blocks.{Gives}
use Rattle.transform.specs.Coefficients.{AllZero, SetBefore, from_level}
use Rattle.transform.specs.Inverse.{limited}
use Rattle.transform.specs.Levels.{dequantized, rebuilt_size}
use Rattle.transform.specs.Signs.{with_sign}
use Rattle.transform.specs.Sums.{brought}
use Rattle.transform.specs.Zigzag.{rising, diagonal, diagonals, zigzag, found, position_of}
use Rattle.transform.proofs.Finite.{below}

abbrev pub table : List (List ℕ)
table =
    (0 ∷ 1 ∷ 8 ∷ 16 ∷ 9 ∷ 2 ∷ 3 ∷ 10 ∷ [])
    ∷ (17 ∷ 24 ∷ 32 ∷ 25 ∷ 18 ∷ 11 ∷ 4 ∷ 5 ∷ [])
    ∷ (12 ∷ 19 ∷ 26 ∷ 33 ∷ 40 ∷ 48 ∷ 41 ∷ 34 ∷ [])
    ∷ (27 ∷ 20 ∷ 13 ∷ 6 ∷ 7 ∷ 14 ∷ 21 ∷ 28 ∷ [])
    ∷ (35 ∷ 42 ∷ 49 ∷ 56 ∷ 57 ∷ 50 ∷ 43 ∷ 36 ∷ [])
    ∷ (29 ∷ 22 ∷ 15 ∷ 23 ∷ 30 ∷ 37 ∷ 44 ∷ 51 ∷ [])
    ∷ (58 ∷ 59 ∷ 52 ∷ 45 ∷ 38 ∷ 31 ∷ 39 ∷ 46 ∷ [])
    ∷ (53 ∷ 60 ∷ 61 ∷ 54 ∷ 47 ∷ 55 ∷ 62 ∷ 63 ∷ []) ∷ []

abbrev pub entry : ℕ → ℕ
entry i = get_or (get_or table (i / 8) []) (i % 8) 0

pub place_is : (i : ℕ) → i < 64 → position_of (entry i) ≡ i
unfolding rising diagonal diagonals zigzag found position_of
place_is i h = eqb→eq _ _ (below 64 (λ j. eqb (position_of (entry j)) j) tt i h)

pub place_inside : (i : ℕ) → i < 64 → entry i < 64
place_inside i h = ltb→lt _ _ (below 64 (λ j. ltb (entry j) 64) tt i h)

-- each place is that of its position, and of no other
back : (p : ℕ) → p < 64 → entry (position_of p) ≡ p
unfolding rising diagonal diagonals zigzag found position_of
back p h = eqb→eq _ _ (below 64 (λ q. eqb (entry (position_of q)) q) tt p h)

pub position_inside : (p : ℕ) → p < 64 → position_of p < 64
unfolding rising diagonal diagonals zigzag found position_of
position_inside p h = ltb→lt _ _ (below 64 (λ q. ltb (position_of q) 64) tt p h)

only_place : (p q : ℕ) → p < 64 → q < 64 → position_of p ≡ position_of q → p ≡ q
only_place p q h k e = sym (back p h) ∙ ap entry e ∙ back q k

-- ---- setting coefficients by position
none_level : (q : ℕ) → dequantized q (pos 0) ≡ pos 0
unfolding limited brought rebuilt_size with_sign
none_level q = refl

zero_level : (q : ℕ) (levels : List ℤ) (p : ℕ) → get_or levels (position_of p) (pos 0) ≡ pos 0 → from_level q levels p ≡ pos 0
unfolding from_level
zero_level q levels p e = ap (dequantized q) e ∙ none_level q

pub set_before_none : (q : ℕ) (levels xs : List ℤ) → ((p : ℕ) → p < 64 → get_or xs p (pos 0) ≡ pos 0) → SetBefore q levels 0 xs
set_before_none q levels xs zeros p h = (λ l. absurd (omega arith), λ l. zeros p h)

-- levels of 0 ask for nothing
pub set_before_past : (q : ℕ) (levels xs : List ℤ) (a b : ℕ) → AllZero levels a b → a ≤ b → SetBefore q levels a xs → SetBefore q levels b xs
set_before_past q levels xs a b zeros le before p h = (
  λ l. ⊎_elim (λ (k : position_of p < a). (before p h).0 k) (λ (k : a ≤ position_of p). (before p h).1 k ∙ sym (zero_level q levels p (zeros (position_of p) k l))) (cases_lt (position_of p) a),
  λ l. (before p h).1 (omega arith),
)

pub set_before_zero : (q : ℕ) (levels xs : List ℤ) (i : ℕ) → get_or levels i (pos 0) ≡ pos 0 → SetBefore q levels i xs → SetBefore q levels (i + 1) xs
set_before_zero q levels xs i e before =
    set_before_past q levels xs i (i + 1) (λ j h l. ap (λ k. get_or levels k (pos 0)) (let k : j ≡ i = omega arith in k) ∙ e) (omega arith) before

here : (q : ℕ) (levels : List ℤ) (i at : ℕ) (z : ℤ) → position_of at ≡ i → z ≡ dequantized q (get_or levels i (pos 0)) → z ≡ from_level q levels at
unfolding from_level
here q levels i at z is e = e ∙ ap (λ j. dequantized q (get_or levels j (pos 0))) (sym is)

pub set_before_more : (q : ℕ) (levels xs : List ℤ) (i at : ℕ) (z : ℤ) → length xs ≡ 64 → at < 64 → position_of at ≡ i → z ≡ dequantized q (get_or levels i (pos 0))
    → SetBefore q levels i xs → SetBefore q levels (i + 1) (set xs at z)
set_before_more q levels xs i at z len inside is e before p h =
    ⊎_elim
    (λ (k : p ≡ at).
    subst (λ m. (position_of m < i + 1 → get_or (set xs at z) m (pos 0) ≡ from_level q levels m) × (i + 1 ≤ position_of m → get_or (set xs at z) m (pos 0) ≡ pos 0)) (sym k)
    (λ l. get_or-set_same xs at z (pos 0) (omega arith) ∙ here q levels i at z is e, λ l. absurd (omega arith)))
    (λ (k : p ≡ at → ⊥).
    let other : position_of p ≡ i → ⊥ = λ (w : position_of p ≡ i). k (only_place p at h inside (w ∙ sym is)) in
    let same = get_or-set_other xs at p z (pos 0) k in
    (λ l. same ∙ (before p h).0 (omega arith), λ l. same ∙ (before p h).1 (omega arith)))
    (cases_eq p at)

pub set_before_all : (q : ℕ) (levels xs : List ℤ) (n : ℕ) → 64 ≤ n → SetBefore q levels n xs → Gives xs (from_level q levels)
set_before_all q levels xs n all done p h = (done p h).0 (let i = position_inside p h in omega arith)
