-- What is transcribed, step after step.
use Rattle.std.proofs.Common.{◌≡◌, ℕ, Bool, IsSome, Some, None, Option, string_bytes, String, subst, refl, ap, ◌∙◌}
use Rattle.std.specs.Option.{option_map}
use Rattle.transcripts.specs.declared.transcript.Transcript.{Transcript}
use Rattle.transcripts.proofs.Options.{mapped, some_in, some_out}
use Rattle.transcripts.specs.Tallies.{one_more, one_more_if}
use Rattle.transcripts.specs.Transcribed.{Transcribed, Transcribes, transcribed_in, with_call}

abbrev with_counts : {A : Type 0} → Option (String A) → ℕ → ℕ → Option Transcribed
with_counts o calls refused = option_map (λ s. record { text = string_bytes s; calls = calls; refused = refused }) o

call_more : {A : Type 0} (o : Option (String A)) (calls refused : ℕ) (was : Bool) → with_counts o (one_more calls) (one_more_if was refused) ≡ option_map (with_call was) (with_counts o calls refused)
call_more None calls refused was = refl
call_more (Some s) calls refused was = refl

-- a call more
pub transcribes_count : (was : Bool) (old new : Transcript) → new.calls ≡ one_more old.calls → new.refused ≡ one_more_if was old.refused → new.text ≡ old.text → Transcribes (with_call was) old new
transcribes_count was old new c r t = record { transcribed = λ some. rw (c, r, t) (call_more old.text old.calls old.refused was) }

-- there was a text before
pub transcribes_had : (f : Transcribed → Transcribed) (a b : Transcript) → Transcribes f a b → IsSome b.text → IsSome a.text
transcribes_had f a b t some =
    some_out _ a.text (some_out f (transcribed_in a)
    (subst IsSome (t.transcribed some) (some_in (λ s. record { text = string_bytes s; calls = b.calls; refused = b.refused }) b.text some)))

-- one thing is transcribed after another
pub transcribes_then : (f g : Transcribed → Transcribed) (a b c : Transcript) → Transcribes f a b → Transcribes g b c → Transcribes (λ t. g (f t)) a c
transcribes_then f g a b c p q =
    record { transcribed = λ some. q.transcribed some ∙ ap (option_map g) (p.transcribed (transcribes_had g b c q some)) ∙ mapped f g (λ t. g (f t)) (transcribed_in a) (λ t. refl) }

map_as : (f g : Transcribed → Transcribed) (o : Option Transcribed) → ((t : Transcribed) → f t ≡ g t) → option_map f o ≡ option_map g o
map_as f g None e = refl
map_as f g (Some x) e = ap Some (e x)

-- the same, said in another way
pub transcribes_as : (f g : Transcribed → Transcribed) (a b : Transcript) → ((t : Transcribed) → f t ≡ g t) → Transcribes f a b → Transcribes g a b
transcribes_as f g a b e p = record { transcribed = λ some. p.transcribed some ∙ map_as f g (transcribed_in a) e }

-- What is still to be transcribed after the turns of a loop, g, is what is left of f, which was to be transcribed from the start.
pub record Leads (f : Transcribed → Transcribed) (a : Transcript) (g : Transcribed → Transcribed) (b : Transcript) : Type 0 where
  pub left : IsSome b.text → option_map g (transcribed_in b) ≡ option_map f (transcribed_in a)

pub leads_more : (f g h g' : Transcribed → Transcribed) (a b c : Transcript) → Leads f a g b → Transcribes h b c → ((t : Transcribed) → g' (h t) ≡ g t) → Leads f a g' c
leads_more f g h g' a b c was now e =
    record { left = λ some. ap (option_map g') (now.transcribed some) ∙ mapped h g' g (transcribed_in b) e ∙ was.left (transcribes_had h b c now some) }
