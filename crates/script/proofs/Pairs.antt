-- Bytes by pairs of digits.
use Rattle.std.proofs.Common.{◌≡◌, ℕ, zero, suc, ◌+◌, ◌*◌, ◌/◌, ◌%◌, ◌≤◌, ◌<◌, List, [], ◌∷◌, ◌++◌, length, slice_index_or, drop, Some, None, Option, sym, refl, ap, ◌∙◌, append_assoc, append-nil, arith}
use Rattle.std.proofs.lemmas.List.{at_drop_more, drop_all}
use Rattle.std.specs.Simd.{first_chunks}
use Rattle.script.specs.Numbers.{nibble_of, pairs_of, when_some}

-- a pair's byte before those that are to come
abbrev pub pair_then : List ℕ → Option (List ℕ) → Option (List ℕ)
pair_then p o = when_some (nibble_of (slice_index_or p 0 0)) (λ high. when_some (nibble_of (slice_index_or p 1 0)) (λ low. when_some o (λ bytes. Some ((high * 16 + low) ∷ bytes))))

-- what pairs of digits stand for
abbrev pub paired : List (List ℕ) → Option (List ℕ)
paired [] = Some []
paired (p ∷ ps) = pair_then p (paired ps)

-- digits are the pairs that they are cut into
pairs_are : (k : ℕ) (ds : List ℕ) → length ds ≡ k * 2 → pairs_of ds ≡ paired (first_chunks 2 k ds)
pairs_are zero [] e = refl
pairs_are zero (a ∷ ds) e = absurd (omega arith)
pairs_are (suc k) [] e = absurd (omega arith)
pairs_are (suc k) (a ∷ []) e = absurd (omega arith)
pairs_are (suc k) (a ∷ b ∷ rest) e = ap (pair_then (a ∷ b ∷ [])) (pairs_are k rest (omega arith))

none_then : (a b : Option ℕ) → ◌≡◌ {A = Option (List ℕ)} (when_some a (λ high. when_some b (λ low. None))) None
none_then None b = refl
none_then (Some x) None = refl
none_then (Some x) (Some y) = refl

none_after : (a : Option ℕ) → ◌≡◌ {A = Option (List ℕ)} (when_some a (λ high. None)) None
none_after None = refl
none_after (Some x) = refl

-- and an odd one is no pair
pub odd_none : (k : ℕ) (ds : List ℕ) → length ds ≡ k * 2 + 1 → pairs_of ds ≡ None
odd_none k [] e = absurd (omega arith)
odd_none k (a ∷ []) e = refl
odd_none zero (a ∷ b ∷ rest) e = absurd (omega arith)
odd_none (suc k) (a ∷ b ∷ rest) e = let r = odd_none k rest (omega arith) in ap (pair_then (a ∷ b ∷ [])) r ∙ none_then (nibble_of a) (nibble_of b)

-- bytes made before those that are to come
abbrev pub before : List ℕ → Option (List ℕ) → Option (List ℕ)
before xs o = when_some o (λ ys. Some (xs ++ ys))

none_before : (o : Option (List ℕ)) → before [] o ≡ o
none_before None = refl
none_before (Some ys) = refl

-- before the first pair
pub at_start : (xs : List ℕ) (ps : List (List ℕ)) (ds : List ℕ) → xs ≡ [] → ps ≡ first_chunks 2 (length ds / 2) ds → length ds % 2 < 1 → before xs (paired ps) ≡ pairs_of ds
at_start xs ps ds none cut even = rw (none, cut) (none_before (paired (first_chunks 2 (length ds / 2) ds)) ∙ sym (pairs_are (length ds / 2) ds (omega (arith, even))))

-- after the last
pub at_end : (xs : List ℕ) (ps : List (List ℕ)) (i : ℕ) → length ps ≤ i → before xs (paired (drop i ps)) ≡ Some xs
at_end xs ps i h = rw (drop_all i ps h) (ap Some (append-nil xs))

before_push : (xs : List ℕ) (x : ℕ) (o : Option (List ℕ)) → before xs (when_some o (λ ys. Some (x ∷ ys))) ≡ before (xs ++ (x ∷ [])) o
before_push xs x (Some ys) = ap Some (sym (append_assoc xs (x ∷ []) ys))
before_push xs x None = refl

here : (ps : List (List ℕ)) (i : ℕ) → i < length ps → paired (drop i ps) ≡ pair_then (slice_index_or ps i []) (paired (drop (i + 1) ps))
here ps i h = at_drop_more paired ps i [] h

-- one pair more
pub pair_more : (xs : List ℕ) (ps : List (List ℕ)) (i high low : ℕ) → i < length ps
    → Some high ≡ nibble_of (slice_index_or (slice_index_or ps i []) 0 0) → Some low ≡ nibble_of (slice_index_or (slice_index_or ps i []) 1 0)
    → before xs (paired (drop i ps)) ≡ before (xs ++ ((high * 16 + low) ∷ [])) (paired (drop (i + 1) ps))
pair_more xs ps i high low h a b = rw (here ps i h, ← a, ← b) (before_push xs (high * 16 + low) (paired (drop (i + 1) ps)))

-- a pair with a byte that is no digit
pub no_high : (xs : List ℕ) (ps : List (List ℕ)) (i : ℕ) → i < length ps → None ≡ nibble_of (slice_index_or (slice_index_or ps i []) 0 0) → before xs (paired (drop i ps)) ≡ None
no_high xs ps i h a = rw (here ps i h, ← a)

pub no_low : (xs : List ℕ) (ps : List (List ℕ)) (i : ℕ) → i < length ps → None ≡ nibble_of (slice_index_or (slice_index_or ps i []) 1 0) → before xs (paired (drop i ps)) ≡ None
no_low xs ps i h b = rw (here ps i h, ← b) (ap (before xs) (none_after (nibble_of (slice_index_or (slice_index_or ps i []) 0 0))))
