use Rattle.ask_model.specs.Asker.{stop_of}
use Rattle.ask_model.proofs.Recorders.{tasks_by}
use Rattle.ask_model.proofs.recorder.post_and_keep.Goals as goal

pub returns-in-Ok-place-clause-tasks : goal.returns-in-Ok-place-clause-tasks
returns-in-Ok-place-clause-tasks c = tasks_by c.args.token.now c.args.text.now _ _ _ _ (stop_of c.keep.result) c.in-Ok-place.ensures.placed c.keep.ensures.no_board c.keep.ensures.late
