-- A list of calls, turn after turn.
use Rattle.std.proofs.Common.{◌≡◌, ℕ, false, List, [], ◌∷◌, ◌++◌, ℤ, Some, sym, refl, ap, ◌∙◌, append_assoc, append-nil}
use Rattle.std.proofs.lemmas.List.Elements.{All-pop}
use Rattle.calls.specs.declared.answers.Answer.{Answer}
use Rattle.calls.specs.Held.{Held, fits}
use Rattle.calls.specs.Laws.{granted}
use Rattle.calls.specs.Runs.{Calling, Setting, State, all_fit, replies, reply, run, setting_of, step}
use Rattle.calls.proofs.Sizes.{same_setting}
use Rattle.replay.specs.declared.Stage.{Stage}
use Rattle.replay.specs.Stages.{NoneGranted, Replayed, control_of, format_of, setting_at, spent_of, state_of}

-- what is left to run gives, after what is done, the whole run; format and sizes are as they were
pub record Left (meaning : List ℤ → ℕ → ℕ → ℤ) (stage : Stage) (held : Held) (calls : List Calling) (rest : List Calling) (stage' : Stage) (held' : Held) (done : List Answer) : Type 0 where
  pub whole : run (setting_at stage meaning held) (state_of stage held) calls ≡ run (setting_at stage meaning held) (state_of stage' held') rest
  pub answers : replies (setting_at stage meaning held) (state_of stage held) calls ≡ done ++ replies (setting_at stage meaning held) (state_of stage' held') rest
  pub format : format_of stage' ≡ format_of stage
  pub unspent : spent_of stage ≡ false → spent_of stage' ≡ false
  pub setting : setting_at stage' meaning held' ≡ setting_at stage meaning held
  pub stays : NoneGranted done → stage' ≡ stage

-- nothing is made yet
pub none_done : (meaning : List ℤ → ℕ → ℕ → ℤ) (stage : Stage) (held : Held) (calls : List Calling) → Left meaning stage held calls calls stage held []
none_done meaning stage held calls =
    record { whole = refl; answers = refl; format = refl; unspent = λ u. u; setting = refl; stays = λ _. refl }

module _ (meaning : List ℤ → ℕ → ℕ → ℤ) (stage : Stage) (held : Held) (calls : List Calling) where
  -- one more call
  pub one_done : (rest more : List Calling) (c : Calling) (stage₁ stage₂ : Stage) (held₁ held₂ : Held) (done done₂ : List Answer) (a : Answer)
      → Left meaning stage held calls rest stage₁ held₁ done → rest ≡ c ∷ more
      → state_of stage₂ held₂ ≡ step (setting_at stage₁ meaning held₁) (state_of stage₁ held₁) c → a ≡ reply (setting_at stage₁ meaning held₁) (state_of stage₁ held₁) c
      → format_of stage₂ ≡ format_of stage₁ → (spent_of stage₁ ≡ false → spent_of stage₂ ≡ false) → (granted a ≡ false → stage₂ ≡ stage₁)
      → done₂ ≡ done ++ (a ∷ [])
      → Left meaning stage held calls more stage₂ held₂ done₂
  one_done rest more c stage₁ stage₂ held₁ held₂ done done₂ a was is s r f o t d =
      let w = setting_at stage meaning held in
      let s' : state_of stage₂ held₂ ≡ step w (state_of stage₁ held₁) c = s ∙ ap (λ (v : Setting). step v (state_of stage₁ held₁) c) was.setting in
      let r' : a ≡ reply w (state_of stage₁ held₁) c = r ∙ ap (λ (v : Setting). reply v (state_of stage₁ held₁) c) was.setting in
      let v = setting_at stage₁ meaning held₁ in
      record {
        whole = was.whole ∙ ap (run w (state_of stage₁ held₁)) is ∙ ap (λ (x : State). run w x more) (sym s');
        answers =
            was.answers
            ∙ ap (λ xs. done ++ replies w (state_of stage₁ held₁) xs) is
            ∙ ap (λ (x : State). done ++ (reply w (state_of stage₁ held₁) c ∷ replies w x more)) (sym s')
            ∙ ap (λ x. done ++ (x ∷ replies w (state_of stage₂ held₂) more)) (sym r')
            ∙ sym (append_assoc done (a ∷ []) (replies w (state_of stage₂ held₂) more))
            ∙ ap (λ xs. xs ++ replies w (state_of stage₂ held₂) more) (sym d);
        format = f ∙ was.format;
        unspent = λ u. o (was.unspent u);
        setting =
            ap (λ x. setting_of x meaning held₂) f
            ∙ ap (λ (x : State). setting_of (format_of stage₁) meaning x.contents.held) s
            ∙ same_setting v (control_of stage₁) (state_of stage₁ held₁).contents c refl
            ∙ was.setting;
        stays = λ none. let apart = All-pop (λ x. granted x ≡ false) done₂ done (Some a) d none in t apart.1 ∙ was.stays apart.0;
      }

  -- none is left
  pub all_done : (rest : List Calling) (stage' : Stage) (held' : Held) (done : List Answer) → Left meaning stage held calls rest stage' held' done → rest ≡ []
      → Replayed meaning stage held calls stage' held' done
  all_done rest stage' held' done was none =
      let w = setting_at stage meaning held in
      record {
        state = sym (was.whole ∙ ap (run w (state_of stage' held')) none);
        answered = sym (was.answers ∙ ap (λ xs. done ++ replies w (state_of stage' held') xs) none ∙ append-nil done);
        unspent = was.unspent;
        stays = was.stays;
      }

  -- the memory has the size that it had
  pub size_kept : (rest : List Calling) (stage' : Stage) (held' : Held) (done : List Answer) → Left meaning stage held calls rest stage' held' done
      → fits (format_of stage) held' ≡ fits (format_of stage) held
  size_kept rest stage' held' done was = ap (λ f. fits f held') (sym was.format) ∙ ap all_fit was.setting
