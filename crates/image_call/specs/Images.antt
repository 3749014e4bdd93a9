-- avm_read and avm_write: the reader's and the writer's answers by the scope's number. Where an image is written, the bytes written stand
-- where a refusal has what goes with it. Assumes nothing.
use Rattle.std.specs.Prelude.{ℕ, List, Ok, Err}
use Rattle.image_meaning.specs.Reading.{read_answer}
use Rattle.image_meaning.specs.Writing.{Written, write_answer}
use Rattle.calls.specs.declared.Answer.{Answer}
use Rattle.calls.specs.Answers.{answered, refused}

unfoldable pub avm_read : List ℕ → List ℕ → Answer
avm_read memory text = answered (read_answer memory text) (record { count = 0 }) (record { count = 0 })

abbrev pub written_answer : Written → Answer
written_answer (Ok bytes) = record { number = 0; at = bytes; microcycles = record { count = 0 }; steps = record { count = 0 } }
written_answer (Err refusal) = refused refusal

unfoldable pub avm_write : List ℕ → List ℕ → Answer
avm_write memory room = written_answer (write_answer memory room)
