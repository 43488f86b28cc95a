use Rattle.run_host.specs.Moment.{apart}
use Rattle.run_host.proofs.Along.{anywhere}
use Rattle.std.proofs.Common.{ap, ◌∙◌, ◌||◌, Bool}
use Rattle.turk_base.specs.Conversions.{text_in}
use Rattle.turk_base.specs.Operators.{numeric, total}
use Rattle.turk_base.specs.Prog.{Prog, given}
use Rattle.turk_base.specs.Errors.{choose}
use Rattle.turk_base.specs.Values.{Val}
use Rattle.js_tree.specs.Operate.{concatenate, sum_row, is_text}
use Rattle.value_cells.specs.Seen.{Naming, val_in}
use Rattle.run_host.proofs.Sequence.{refused}
use Rattle.run_host.proofs.Exits.{value_exit}
use Rattle.host_steps.proofs.Made.{runs_as}
use Rattle.value_rows.proofs.sums.add.Goals as goal

abbrev chosen : Val → Val → Bool → Prog
chosen x y b = choose b (concatenate x y) (sum_row x y)

abbrev whole : Val → Val → Prog
whole x y = chosen x y (is_text x || is_text y)

pub returns-in_err-primitive-clause-ran : goal.returns-in_err-primitive-clause-ran
returns-in_err-primitive-clause-ran g c = let x = c.args.x.now in let y = c.args.y.now in
    value_exit _ _ c.from_residual.ensures.1 (runs_as (λ nu. c.in_err-primitive.ensures nu (given (text_in (val_in nu y)) (λ _. whole (val_in nu x) (val_in nu y)))) (refused _))

pub returns-in_err-primitive-2-clause-ran : goal.returns-in_err-primitive-2-clause-ran
returns-in_err-primitive-2-clause-ran g c = let x = c.args.x.now in let y = c.args.y.now in
    value_exit _ _ c.from_residual-in_err-primitive-2.ensures.1 (runs_as (λ nu. c.in_ok-primitive.ensures nu (given (text_in (val_in nu y)) (λ _. whole (val_in nu x) (val_in nu y)))
    ∙ c.in_err-primitive-2.ensures nu (whole (val_in nu x) (val_in nu y))) (refused _))

pub returns-then-has_text-clause-ran : goal.returns-then-has_text-clause-ran
returns-then-has_text-clause-ran g c = let x = c.args.x.now in let y = c.args.y.now in
    runs_as (λ nu. c.in_ok-primitive.ensures nu (given (text_in (val_in nu y)) (λ _. whole (val_in nu x) (val_in nu y)))
    ∙ c.in_ok-primitive-2.ensures nu (whole (val_in nu x) (val_in nu y))
    ∙ ap (chosen (val_in nu x) (val_in nu y)) (c.has_text.ensures nu ∙ c.if-has_text.true)) c.concatenate.ensures.ran

pub returns-else-has_text-clause-ran : goal.returns-else-has_text-clause-ran
unfolding sum_row
returns-else-has_text-clause-ran g c = let x = c.args.x.now in let y = c.args.y.now in
    runs_as (λ nu. c.in_ok-primitive.ensures nu (given (text_in (val_in nu y)) (λ _. whole (val_in nu x) (val_in nu y)))
    ∙ c.in_ok-primitive-2.ensures nu (whole (val_in nu x) (val_in nu y))
    ∙ ap (chosen (val_in nu x) (val_in nu y)) (c.has_text.ensures nu ∙ c.if-has_text.false))
    (anywhere (g.H.Host.moment c.args.host.now) (c.answered.ensures.ran (apart (g.H.Host.moment c.args.host.now)) (λ nu. numeric total (val_in nu x) (val_in nu y)) (λ nu l. c.sum.ensures.value nu)))
