use Rattle.std.proofs.Common.{rules, ◌≡◌, length, ℤ, refl}
use Rattle.std.specs.Prelude.{Result}
use Rattle.turk_base.specs.declared.Record.TheVariants.{Draw}
use Rattle.turk_base.specs.Whole.{IsWhole}
use Rattle.ask_model.specs.declared.AskStop.{AskStop}
use Rattle.ask_model.specs.Asker.{entry, stop_of, Adds}
use Rattle.ask_model.specs.Table.{table}
use Rattle.ask_model.proofs.Tables.{sound_by, adds_by, no_board_by, refusal_by, value_in, drew_added, drew_small, drew_keeps, drew_is, least_draw, refused_is}
use Rattle.ask_model.proofs.table.TableAskerAsker.draw.Goals as goal

pub returns-clause-drawn : goal.returns-clause-drawn
returns-clause-drawn g c =
    let s = c.args.self.now in
    let path = c.args.path.now in
    let bound = c.args.bound in
    let new = c.add_draw-result.new.made.items in
    let r : Result ℤ AskStop = c.add_draw-result.result in
    let drew = c.add_draw-result.ensures in
    let count : c.len.result ≡ length s.trace.items = search rules in
    let whole : IsWhole bound = search rules in
    record {
      value = value_in r;
      small = drew_small g.W.Draws.rest c.len.result s.made.items new path bound _ _ r (least_draw bound c.requires.bound whole) drew;
      is = drew_is r;
      adds = refused_is r c.is_err.result c.after-self.result s.refused c.is_err.ensures.value c.after-self.ensures
          (λ later. Adds _ _ (entry path (Draw bound (value_in r))) (table s.trace.items s.replies.now s.made.items s.asked s.refused) (table s.trace.items s.replies.now new s.asked later) (stop_of r))
          (adds_by c.len.result s.trace.items s.made.items new s.replies.now s.asked s.refused (entry path (Draw bound (value_in r))) (stop_of r) count (drew_added g.W.Draws.rest c.len.result s.made.items new path bound _ _ r drew));
      traces = λ told. absurd told;
    }

pub returns-clause-no_board : goal.returns-clause-no_board
returns-clause-no_board g c =
    let s = c.args.self.now in
    let path = c.args.path.now in
    let bound = c.args.bound in
    let new = c.add_draw-result.new.made.items in
    let r : Result ℤ AskStop = c.add_draw-result.result in
    let drew = c.add_draw-result.ensures in
    no_board_by c.len.result (entry path (Draw bound (value_in r))) s.made.items new (stop_of r) (drew_added g.W.Draws.rest c.len.result s.made.items new path bound _ _ r drew)

pub returns-clause-sound : goal.returns-clause-sound
returns-clause-sound g c =
    let s = c.args.self.now in
    let path = c.args.path.now in
    let bound = c.args.bound in
    let new = c.add_draw-result.new.made.items in
    let r : Result ℤ AskStop = c.add_draw-result.result in
    let drew = c.add_draw-result.ensures in
    let count : c.len.result ≡ length s.trace.items = search rules in
    let whole : IsWhole bound = search rules in
    let small = drew_small g.W.Draws.rest c.len.result s.made.items new path bound _ _ r (least_draw bound c.requires.bound whole) drew in
    sound_by c.len.result s.trace.items s.made.items new s.replies.now s.asked s.refused c.after-self.result (entry path (Draw bound (value_in r))) (stop_of r) count c.requires.sound
    (record { some = c.requires.path.some; short = c.requires.path.short; what = small })
    c.requires.new (drew_added g.W.Draws.rest c.len.result s.made.items new path bound _ _ r drew)

pub returns-clause-keeps : goal.returns-clause-keeps
returns-clause-keeps g c =
    let s = c.args.self.now in
    let path = c.args.path.now in
    let bound = c.args.bound in
    let new = c.add_draw-result.new.made.items in
    let r : Result ℤ AskStop = c.add_draw-result.result in
    let drew = c.add_draw-result.ensures in
    drew_keeps g.W.Draws.rest c.len.result s.made.items new path bound s.draws _ r refl drew

pub returns-clause-refusal : goal.returns-clause-refusal
returns-clause-refusal g c =
    let s = c.args.self.now in
    let path = c.args.path.now in
    let bound = c.args.bound in
    let new = c.add_draw-result.new.made.items in
    let r : Result ℤ AskStop = c.add_draw-result.result in
    let drew = c.add_draw-result.ensures in
    refusal_by c.len.result (entry path (Draw bound (value_in r))) s.made.items new r (drew_added g.W.Draws.rest c.len.result s.made.items new path bound _ _ r drew)
