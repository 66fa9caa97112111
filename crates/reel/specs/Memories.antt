-- What a memory holds, by the meaning of its stores.
use Rattle.std.specs.Prelude.{vec_items}
use Rattle.pictures.specs.Pictures.{Picture}
use Rattle.calls.specs.Held.{Held}
use Rattle.reel.specs.declared.memory.Memory.{Memory}

abbrev pub held_in : {S : Type 0} → (S → Picture) → Memory S → Held
held_in picture m =
    record {
      finished = picture m.finished;
      working = picture m.working;
      finished_ages = vec_items m.finished_ages;
      working_ages = vec_items m.working_ages;
      vectors = vec_items m.vectors;
      marks = vec_items m.marks;
    }
