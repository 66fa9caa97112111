-- The lines of a script, and the fields of a line.
use Rattle.std.specs.Prelude.{◌≡◌, ℕ, Bool, cond, not, ◌||◌, List, [], ◌∷◌, ◌==◌}
use denote.Param.Members.{Shared}
use denote.Ref.{Bor}

-- a space, a tab, a carriage return or a line feed
abbrev pub is_blank : ℕ → Bool
is_blank b = b == 32 || (b == 9 || (b == 13 || b == 10))

abbrev pub is_visible : ℕ → Bool
is_visible b = not (is_blank b)

-- 10 is a line feed, and 35 is '#'
abbrev pub is_line_feed : ℕ → Bool
is_line_feed b = b == 10

abbrev pub is_hash : ℕ → Bool
is_hash b = b == 35

-- the calls of a closure at a byte answer what the test says of it
abbrev pub Tests : {F : Type 0} → Shared F (Bor ℕ × Unit {0}) Bool → F → (ℕ → Bool) → Type 0
Tests g f test = (b : Bor ℕ) (r : Bool) → g.post f (b, tt) r → r ≡ test b.now

-- the bytes before the first that passes a test, and those from it on
abbrev pub up_to : (ℕ → Bool) → List ℕ → List ℕ
up_to stop [] = []
up_to stop (b ∷ bs) = cond (stop b) [] (b ∷ up_to stop bs)

abbrev pub from_on : (ℕ → Bool) → List ℕ → List ℕ
from_on stop [] = []
from_on stop (b ∷ bs) = cond (stop b) (b ∷ bs) (from_on stop bs)

-- the first field, and what stands after it
abbrev pub field_of : List ℕ → List ℕ
field_of bs = up_to is_blank (from_on is_visible bs)

abbrev pub after_field : List ℕ → List ℕ
after_field bs = from_on is_blank (from_on is_visible bs)

-- a byte before the first of some lines, or alone where there is none
abbrev pub begun_by : ℕ → List (List ℕ) → List (List ℕ)
begun_by b [] = (b ∷ []) ∷ []
begun_by b (line ∷ lines) = (b ∷ line) ∷ lines

-- the lines, each without its line feed
abbrev pub lines_of : List ℕ → List (List ℕ)
lines_of [] = []
lines_of (b ∷ bs) = cond (is_line_feed b) ([] ∷ lines_of bs) (begun_by b (lines_of bs))
