-- How reading goes on: from the words left and the index of the first of them, to what was read and the words left then, or to a fault.
use Rattle.std.specs.Prelude.{ℕ, ◌+◌, Bool, cond, List, [], ◌∷◌, Ok, Err, Result, ◌==◌}
use Rattle.records.specs.declared.faults.Place.{Place}
use Rattle.records.specs.declared.faults.WordFault.{WordFault}
use Rattle.records.specs.declared.faults.WordFault.TheVariants.{Missing, Kind, Unnamed}
use Rattle.records.specs.declared.reader.Words.{Words}
use Rattle.records.specs.declared.types.WordKind.{WordKind}
use Rattle.records.specs.Words.{words_of, bits, kind_number, unnamed}

-- the words left, and the index of the first
abbrev pub Unread : Type 0
Unread = List ℕ × ℕ

abbrev pub unread_of : Words → Unread
unread_of s = (words_of s.rest.now, s.index)

-- an answer together with what is left to read
abbrev pub with_unread : {X F : Type 0} → Result X F → Unread → Result (X × Unread) F
with_unread (Ok x) s = Ok (x, s)
with_unread (Err f) s = Err f

-- a question: a no is the fault
abbrev pub ask : {X F : Type 0} → Bool → F → Result X F → Result X F
ask yes? fault next = cond yes? next (Err fault)

-- goes on after an answer, or turns the fault of the layer below
abbrev pub and_then : {X Y E F : Type 0} → (E → F) → Result X E → (X → Result Y F) → Result Y F
and_then up (Ok x) on = on x
and_then up (Err e) on = Err (up e)

-- where the next word stands, in a macroblock and a block
abbrev pub place_at : Unread → ℕ → ℕ → Place
place_at s m b = record { word = s.1; macroblock = m; block = b }

-- a word has the kind that is due, and its unnamed bits are zero
abbrev pub formed : WordKind → Place → ℕ → Result ℕ WordFault
formed due p w =
    ask (bits 31 28 w == kind_number due) (Kind p)
    (ask (unnamed due w == 0) (Unnamed p)
    (Ok w))

-- the next word
abbrev pub word_in : WordKind → Place → List ℕ → ℕ → Result (ℕ × Unread) WordFault
word_in due p [] i = Err (Missing p)
word_in due p (w ∷ ws) i = with_unread (formed due p w) (ws, i + 1)

abbrev pub word_from : WordKind → Place → Unread → Result (ℕ × Unread) WordFault
word_from due p s = word_in due p s.0 s.1
