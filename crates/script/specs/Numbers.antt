-- Numbers and bytes by their digits.
use Rattle.std.specs.Prelude.{ℕ, ◌+◌, ◌-◌, ◌*◌, ◌^◌, Bool, cond, ◌&&◌, List, [], ◌∷◌, Some, None, Option, nat_le, nat_lt}

-- goes on where there is a value
abbrev pub when_some : {X Y : Type 0} → Option X → (X → Option Y) → Option Y
when_some None on = None
when_some (Some x) on = on x

abbrev pub is_between : ℕ → ℕ → ℕ → Bool
is_between low high b = nat_le low b && nat_le b high

-- a number with one digit more: 48 is '0', 57 is '9'
abbrev pub digit_more : ℕ → ℕ → Option ℕ
digit_more value b = cond (is_between 48 57 b && nat_lt (value * 10 + (b - 48)) (2 ^ 32)) (Some (value * 10 + (b - 48))) None

abbrev pub digits_from : ℕ → List ℕ → Option ℕ
digits_from value [] = Some value
digits_from value (b ∷ bs) = when_some (digit_more value b) (λ next. digits_from next bs)

-- one digit or more
abbrev pub number_in : List ℕ → Option ℕ
number_in [] = None
number_in (b ∷ bs) = digits_from 0 (b ∷ bs)

-- a hexadecimal digit: 97 is 'a', 65 is 'A'
abbrev pub nibble_of : ℕ → Option ℕ
nibble_of b =
    cond (is_between 48 57 b) (Some (b - 48))
    (cond (is_between 97 102 b) (Some (b - 97 + 10))
    (cond (is_between 65 70 b) (Some (b - 65 + 10))
    None))

-- two digits make a byte
abbrev pub pairs_of : List ℕ → Option (List ℕ)
pairs_of [] = Some []
pairs_of (a ∷ []) = None
pairs_of (a ∷ b ∷ rest) = when_some (nibble_of a) (λ high. when_some (nibble_of b) (λ low. when_some (pairs_of rest) (λ bytes. Some ((high * 16 + low) ∷ bytes))))
