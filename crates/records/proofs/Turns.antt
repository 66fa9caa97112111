-- One word after another, and one coefficient after another.
use Rattle.std.proofs.Common.{◌≡◌, ℕ, ◌+◌, ◌<◌, true, false, List, [], ◌∷◌, length, set, ℤ, Ok, Err, Result, sym, ap, arith}
use Rattle.records.specs.declared.faults.Place.{Place}
use Rattle.records.specs.declared.faults.WordFault.{WordFault}
use Rattle.records.specs.declared.faults.BlockFault.{BlockFault}
use Rattle.records.specs.declared.faults.BlockFault.TheVariants.{Word}
use Rattle.records.specs.declared.types.Coefficient.{Coefficient}
use Rattle.records.specs.declared.types.WordKind.TheVariants as due
use Rattle.records.specs.Reading.{Unread, formed, place_at, with_unread, word_in}
use Rattle.records.specs.Blocks.{coefficient_of, levels_from, levels_in}

-- what an answer with its state was
err_was : {X F : Type 0} (r : Result X F) (s : Unread) (e : F) → ◌≡◌ {A = Result (X × Unread) F} (Err e) (with_unread r s) → r ≡ Err e
err_was (Ok x) s e h = let z : ◌≡◌ {A = ℕ} 0 1 = cc in absurd (omega arith)
err_was (Err f) s e h = cc

ok_was : {X F : Type 0} (r : Result X F) (s t : Unread) (x : X) → ◌≡◌ {A = Result (X × Unread) F} (Ok (x, t)) (with_unread r s) → (r ≡ Ok x) × (t ≡ s)
ok_was {X} {F} (Ok y) s t x h =
    let q : ◌≡◌ {A = X × Unread} (x, t) (y, s) = cc in
    (ap Ok (sym (ap (λ (p : X × Unread). p.0) q)), ap (λ (p : X × Unread). p.1) q)
ok_was (Err f) s t x h = let z : ◌≡◌ {A = ℕ} 0 1 = cc in absurd (omega arith)

-- a coefficient word that came, and the coefficient made of it, at the place p of the next word
abbrev pub Came : Place → List ℕ → ℕ → ℕ → Unread → Type 0
Came p ws i w t = ◌≡◌ {A = Result (ℕ × Unread) WordFault} (Ok (w, t)) (word_in due.Coefficient p ws i)

abbrev pub Made : Place → ℕ → ℕ → Result Coefficient BlockFault → Type 0
Made p w from r = ◌≡◌ {A = Result Coefficient BlockFault} r (coefficient_of p from w)

module _ (m b : ℕ) (p : Place) where
  -- no word came
  pub missing : (ws : List ℕ) (i from : ℕ) (lv : List ℤ) (e : WordFault) → p ≡ place_at (ws, i) m b → ◌≡◌ {A = Result (ℕ × Unread) WordFault} (Err e) (word_in due.Coefficient p ws i) → levels_in ws i m b from lv ≡ Err (Word e)
  missing [] i from lv e at h = rw (← at) (cc)
  missing (w ∷ ws) i from lv e at h = rw (← at, err_was (formed due.Coefficient p w) _ e h)

  -- the word fails a question
  pub refused : (ws : List ℕ) (i from : ℕ) (lv : List ℤ) (w : ℕ) (t : Unread) (f : BlockFault) → p ≡ place_at (ws, i) m b → Came p ws i w t → Made p w from (Err f) → levels_in ws i m b from lv ≡ Err f
  refused [] i from lv w t f at h k = let z : ◌≡◌ {A = ℕ} 0 1 = cc in absurd (omega arith)
  refused (v ∷ ws) i from lv w t f at h k = rw (← at, (ok_was (formed due.Coefficient p v) _ t w h).0, ← k)

  -- the word is the last
  pub ended : (ws : List ℕ) (i from : ℕ) (lv : List ℤ) (w : ℕ) (t : Unread) (x : Coefficient) (z : ℤ) → p ≡ place_at (ws, i) m b → Came p ws i w t → Made p w from (Ok x) → z ≡ x.level → x.last ≡ true
      → levels_in ws i m b from lv ≡ Ok (set lv x.position z, t)
  ended [] i from lv w t x z at h k s l = let z : ◌≡◌ {A = ℕ} 0 1 = cc in absurd (omega arith)
  ended (v ∷ ws) i from lv w t x z at h k s l =
      let q = ok_was (formed due.Coefficient p v) _ t w h in rw (← at, q.0, ← k, l, q.1, s)

  -- the block goes on
  pub goes_on : (ws : List ℕ) (i from : ℕ) (lv : List ℤ) (w : ℕ) (t : Unread) (x : Coefficient) (z : ℤ) → p ≡ place_at (ws, i) m b → Came p ws i w t → Made p w from (Ok x) → z ≡ x.level → x.last ≡ false
      → levels_in ws i m b from lv ≡ levels_from t m b (x.position + 1) (set lv x.position z)
  goes_on [] i from lv w t x z at h k s l = let z : ◌≡◌ {A = ℕ} 0 1 = cc in absurd (omega arith)
  goes_on (v ∷ ws) i from lv w t x z at h k s l =
      let q = ok_was (formed due.Coefficient p v) _ t w h in rw (← at, q.0, ← k, l, q.1, s)

-- one word less is left
pub shorter : (p : Place) (ws : List ℕ) (i w : ℕ) (t : Unread) → Came p ws i w t → length t.0 < length ws
shorter p [] i w t h = let z : ◌≡◌ {A = ℕ} 0 1 = cc in absurd (omega arith)
shorter p (v ∷ ws) i w t h = rw (ok_was (formed due.Coefficient p v) _ t w h).1 (omega arith)
