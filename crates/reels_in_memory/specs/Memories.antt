-- A reel with the memory that the script chose for it.
use Rattle.std.specs.Prelude.{◌≡◌, Bool, false, None, pos, replicate, vec_items}
use Rattle.transform.specs.Kinds.{meaning_of}
use Rattle.pictures.specs.declared.formats.Format.{Format}
use Rattle.motion.specs.declared.vectors.Vector.{Vector}
use Rattle.pictures.specs.Formats.{columns_of, rows_of}
use Rattle.pictures.specs.Pictures.{Picture}
use Rattle.stores.specs.Bytes.{bytes_seen}
use Rattle.stores.specs.Tiles.{tiles_seen}
use Rattle.calls.specs.Held.{Held, cells_of, fits}
use Rattle.calls.specs.declared.answers.Answer.{Answer}
use Rattle.calls.specs.Laws.{granted}
use Rattle.calls.specs.Runs.{Calling}
use Rattle.reel.specs.declared.memory.Memory.{Memory}
use Rattle.replay.specs.declared.Stage.{Stage}
use Rattle.reel.specs.Memories.{held_in}
use Rattle.replay.specs.Stages.{format_of, reply_to, setting_at, state_after, state_of}
use Rattle.call_lines.specs.declared.line.StoreKind.{StoreKind}
use Rattle.call_lines.specs.declared.line.StoreKind.TheVariants as store
use Rattle.transform.specs.declared.kinds.TransformKind.{TransformKind}
use Rattle.transcripts.specs.declared.sums.PictureSums.{PictureSums}
use Rattle.transcripts.specs.Sums.{plane_sum, sum_of}
use Rattle.reels_in_memory.specs.declared.memories.StoredMemory.{StoredMemory}
use Rattle.reels_in_memory.specs.declared.memories.StoredMemory.TheVariants.{Bytes, Tiles}

abbrev pub held_by : StoredMemory → Held
held_by (Bytes m) = held_in (λ s. bytes_seen s.size.columns s.size.rows (vec_items s.memory)) m
held_by (Tiles m) = held_in (λ s. tiles_seen s.size.columns s.size.rows (vec_items s.memory)) m

-- the store that a memory keeps its samples in
abbrev pub store_in : StoredMemory → StoreKind
store_in (Bytes m) = store.Bytes
store_in (Tiles m) = store.Tiles

-- the memory has the reel's size
abbrev pub memory_fits : Stage → StoredMemory → Bool
memory_fits stage memory = fits (format_of stage) (held_by memory)

-- the sums of the finished picture
abbrev pub sums_of : Held → PictureSums
sums_of h = record { luma = plane_sum h.finished 0; cb = plane_sum h.finished 1; cr = plane_sum h.finished 2; ages = sum_of h.finished_ages }

-- a stage, what its memory holds and an answer are those of one call; format, transform and sizes are as they were, and so is the very stage where the
-- call is not accepted
pub record Made (kind : TransformKind) (stage : Stage) (held : Held) (call : Calling) (stage' : Stage) (held' : Held) (a : Answer) : Type 0 where
  pub state : state_of stage' held' ≡ state_after (meaning_of kind) stage held call
  pub answer : a ≡ reply_to (meaning_of kind) stage held call
  pub setting : setting_at stage' (meaning_of kind) held' ≡ setting_at stage (meaning_of kind) held
  pub stays : granted a ≡ false → stage' ≡ stage

-- what new memory holds: zeros and absent marks
abbrev pub blank_picture : Format → Picture
blank_picture format = record { wide = columns_of format; high = rows_of format; sample = λ _ _ _. 0 }

abbrev pub still : Vector
still = record { horizontal = pos 0; vertical = pos 0 }

abbrev pub blank : Format → Held
blank format =
    record {
      finished = blank_picture format;
      working = blank_picture format;
      finished_ages = replicate (cells_of format) 0;
      working_ages = replicate (cells_of format) 0;
      vectors = replicate (cells_of format) still;
      marks = replicate (cells_of format) None;
    }

-- a memory made of two stores has blank tables of a format's size
pub record Tabled {S : Type 0} (format : Format) (finished working : S) (m : Memory S) : Type 0 where
  pub first : m.finished ≡ finished
  pub second : m.working ≡ working
  pub finished_ages : vec_items m.finished_ages ≡ replicate (cells_of format) 0
  pub working_ages : vec_items m.working_ages ≡ replicate (cells_of format) 0
  pub vectors : vec_items m.vectors ≡ replicate (cells_of format) still
  pub marks : vec_items m.marks ≡ replicate (cells_of format) None
