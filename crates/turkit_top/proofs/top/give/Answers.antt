use Rattle.std.proofs.Common.{refl}
use Rattle.turkit_top.proofs.AnswerLemmas.{gave, gave_no_note, gave_front}
use Rattle.turkit_top.proofs.top.give.Goals as goal

pub returns-in-Ok-write_all-clause-given : goal.returns-in-Ok-write_all-clause-given
returns-in-Ok-write_all-clause-given g c =
    gave c.args.answer.now
    (record { before = g.O.Sink.faults c.args.out.now; now = g.O.Sink.faults c.write_all.new.sink; old = g.O.Sink.written c.args.out.now; new = g.O.Sink.written c.write_all.new.sink })
    (record { before = g.O.Sink.faults c.args.notes.now; now = g.O.Sink.faults c.write_all-in-Ok.new.sink; old = g.O.Sink.written c.args.notes.now; new = g.O.Sink.written c.write_all-in-Ok.new.sink })
    c.as_slice.result.now c.note_of.result.now c.as_slice.ensures c.note_of.ensures c.in-Ok.ensures.all c.in-Ok-write_all.ensures.all

pub returns-in-Err-write_all-clause-given : goal.returns-in-Err-write_all-clause-given
returns-in-Err-write_all-clause-given g c =
    gave_no_note c.args.answer.now
    (record { before = g.O.Sink.faults c.args.out.now; now = g.O.Sink.faults c.write_all.new.sink; old = g.O.Sink.written c.args.out.now; new = g.O.Sink.written c.write_all.new.sink })
    (record { before = g.O.Sink.faults c.args.notes.now; now = g.O.Sink.faults c.write_all-in-Ok.new.sink; old = g.O.Sink.written c.args.notes.now; new = g.O.Sink.written c.write_all-in-Ok.new.sink })
    c.as_slice.result.now c.note_of.result.now c.as_slice.ensures c.note_of.ensures c.in-Ok.ensures.all c.in-Err-write_all.ensures.cause c.in-Err-write_all.ensures.front

pub returns-in-Err-clause-given : goal.returns-in-Err-clause-given
returns-in-Err-clause-given g c =
    gave_front c.args.answer.now
    (record { before = g.O.Sink.faults c.args.out.now; now = g.O.Sink.faults c.write_all.new.sink; old = g.O.Sink.written c.args.out.now; new = g.O.Sink.written c.write_all.new.sink })
    (record { before = g.O.Sink.faults c.args.notes.now; now = g.O.Sink.faults c.args.notes.now; old = g.O.Sink.written c.args.notes.now; new = g.O.Sink.written c.args.notes.now })
    c.as_slice.result.now c.as_slice.ensures c.in-Err.ensures.cause c.in-Err.ensures.front refl
