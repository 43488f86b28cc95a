use Rattle.host_steps.proofs.Made.{given_goes, given_out, runs_as}
use Rattle.host_steps.specs.Places.{place_in}
use Rattle.js_tree.specs.Expressions.{update_row}
use Rattle.js_tree.specs.Operate.{answered, stepped}
use Rattle.js_tree.specs.Pieces.{get_place, set_place}
use Rattle.run_host.proofs.Exits.{value_exit}
use Rattle.run_host.proofs.Fits.{runs_left, runs_on}
use Rattle.run_host.proofs.Sequence.{ends_with}
use Rattle.run_host.specs.Told.{here_in}
use Rattle.std.proofs.Common.{ap, ◌∙◌}
use Rattle.tree_rows.specs.Codes.{table_in}
use Rattle.turk_base.specs.Conversions.{number_in}
use Rattle.turk_base.specs.Operators.{number_or_refused}
use Rattle.turk_base.specs.Prog.{given, value}
use Rattle.value_cells.specs.Seen.{val_in}
use Rattle.target_rows.proofs.update.Goals as goal

pub returns-in_err-place-clause-ran : goal.returns-in_err-place-clause-ran
unfolding update_row
returns-in_err-place-clause-ran g c = let t = table_in c.args.codes.now in
    value_exit _ _ c.from_residual.ensures.1 (runs_left (λ nu p. get_place (here_in nu c.args.here) p (λ v. given (number_in v) (λ old. given (number_or_refused (stepped c.args.sign old)) (λ new. set_place (here_in nu c.args.here) p new (λ _. value (answered c.args.fix old new)))))) c.in_err-place.ensures.did)

pub returns-in_err-value-clause-ran : goal.returns-in_err-value-clause-ran
unfolding update_row
returns-in_err-value-clause-ran g c = let t = table_in c.args.codes.now in
    value_exit _ _ c.from_residual-in_err-value.ensures.1 (runs_on (λ nu p. get_place (here_in nu c.args.here) p (λ v. given (number_in v) (λ old. given (number_or_refused (stepped c.args.sign old)) (λ new. set_place (here_in nu c.args.here) p new (λ _. value (answered c.args.fix old new)))))) c.in_ok-place.ensures.did (runs_left (λ nu v. given (number_in v) (λ old. given (number_or_refused (stepped c.args.sign old)) (λ new. set_place (here_in nu c.args.here) (place_in nu c.in_ok-place.place) new (λ _. value (answered c.args.fix old new))))) c.in_err-value.ensures.did))

pub returns-in_err-old-clause-ran : goal.returns-in_err-old-clause-ran
unfolding update_row
returns-in_err-old-clause-ran g c = let t = table_in c.args.codes.now in
    value_exit _ _ c.from_residual-in_err-old.ensures.1 (runs_on (λ nu p. get_place (here_in nu c.args.here) p (λ v. given (number_in v) (λ old. given (number_or_refused (stepped c.args.sign old)) (λ new. set_place (here_in nu c.args.here) p new (λ _. value (answered c.args.fix old new)))))) c.in_ok-place.ensures.did (runs_on (λ nu v. given (number_in v) (λ old. given (number_or_refused (stepped c.args.sign old)) (λ new. set_place (here_in nu c.args.here) (place_in nu c.in_ok-place.place) new (λ _. value (answered c.args.fix old new))))) c.in_ok-value.ensures.did (runs_left (λ nu old. given (number_or_refused (stepped c.args.sign old)) (λ new. set_place (here_in nu c.args.here) (place_in nu c.in_ok-place.place) new (λ _. value (answered c.args.fix old new)))) (given_out (λ nu. number_in (val_in nu c.in_ok-value.value)) _ c.in_err-old.ensures))))

pub returns-in_err-new-clause-ran : goal.returns-in_err-new-clause-ran
unfolding update_row
returns-in_err-new-clause-ran g c = let t = table_in c.args.codes.now in
    value_exit _ _ c.from_residual-in_err-new.ensures.1 (runs_on (λ nu p. get_place (here_in nu c.args.here) p (λ v. given (number_in v) (λ old. given (number_or_refused (stepped c.args.sign old)) (λ new. set_place (here_in nu c.args.here) p new (λ _. value (answered c.args.fix old new)))))) c.in_ok-place.ensures.did (runs_on (λ nu v. given (number_in v) (λ old. given (number_or_refused (stepped c.args.sign old)) (λ new. set_place (here_in nu c.args.here) (place_in nu c.in_ok-place.place) new (λ _. value (answered c.args.fix old new))))) c.in_ok-value.ensures.did (runs_on (λ nu old. given (number_or_refused (stepped c.args.sign old)) (λ new. set_place (here_in nu c.args.here) (place_in nu c.in_ok-place.place) new (λ _. value (answered c.args.fix old new)))) (given_goes (λ nu. number_in (val_in nu c.in_ok-value.value)) (λ nu n. n) c.in_ok-old.old c.in_ok-old.ensures) (runs_left (λ nu new. set_place (here_in nu c.args.here) (place_in nu c.in_ok-place.place) new (λ _. value (answered c.args.fix c.in_ok-old.old new))) (given_out (λ nu. number_or_refused (stepped c.args.sign c.in_ok-old.old)) _ (λ nu. ap number_or_refused c.step.ensures ∙ c.in_err-new.ensures.value nu))))))

pub returns-in_err-set_place-clause-ran : goal.returns-in_err-set_place-clause-ran
unfolding update_row
returns-in_err-set_place-clause-ran g c = let t = table_in c.args.codes.now in
    value_exit _ _ c.from_residual-in_err-set_place.ensures.1 (runs_on (λ nu p. get_place (here_in nu c.args.here) p (λ v. given (number_in v) (λ old. given (number_or_refused (stepped c.args.sign old)) (λ new. set_place (here_in nu c.args.here) p new (λ _. value (answered c.args.fix old new)))))) c.in_ok-place.ensures.did (runs_on (λ nu v. given (number_in v) (λ old. given (number_or_refused (stepped c.args.sign old)) (λ new. set_place (here_in nu c.args.here) (place_in nu c.in_ok-place.place) new (λ _. value (answered c.args.fix old new))))) c.in_ok-value.ensures.did (runs_on (λ nu old. given (number_or_refused (stepped c.args.sign old)) (λ new. set_place (here_in nu c.args.here) (place_in nu c.in_ok-place.place) new (λ _. value (answered c.args.fix old new)))) (given_goes (λ nu. number_in (val_in nu c.in_ok-value.value)) (λ nu n. n) c.in_ok-old.old c.in_ok-old.ensures) (runs_on (λ nu new. set_place (here_in nu c.args.here) (place_in nu c.in_ok-place.place) new (λ _. value (answered c.args.fix c.in_ok-old.old new))) (given_goes (λ nu. number_or_refused (stepped c.args.sign c.in_ok-old.old)) val_in c.in_ok-new.new (λ nu. ap number_or_refused c.step.ensures ∙ c.in_ok-new.ensures.value nu)) (runs_left (λ nu _. value (answered c.args.fix c.in_ok-old.old (val_in nu c.in_ok-new.new))) c.in_err-set_place.ensures.did)))))

pub returns-clause-ran : goal.returns-clause-ran
unfolding update_row
returns-clause-ran g c = let t = table_in c.args.codes.now in
    runs_on (λ nu p. get_place (here_in nu c.args.here) p (λ v. given (number_in v) (λ old. given (number_or_refused (stepped c.args.sign old)) (λ new. set_place (here_in nu c.args.here) p new (λ _. value (answered c.args.fix old new)))))) c.in_ok-place.ensures.did (runs_on (λ nu v. given (number_in v) (λ old. given (number_or_refused (stepped c.args.sign old)) (λ new. set_place (here_in nu c.args.here) (place_in nu c.in_ok-place.place) new (λ _. value (answered c.args.fix old new))))) c.in_ok-value.ensures.did (runs_on (λ nu old. given (number_or_refused (stepped c.args.sign old)) (λ new. set_place (here_in nu c.args.here) (place_in nu c.in_ok-place.place) new (λ _. value (answered c.args.fix old new)))) (given_goes (λ nu. number_in (val_in nu c.in_ok-value.value)) (λ nu n. n) c.in_ok-old.old c.in_ok-old.ensures) (runs_on (λ nu new. set_place (here_in nu c.args.here) (place_in nu c.in_ok-place.place) new (λ _. value (answered c.args.fix c.in_ok-old.old new))) (given_goes (λ nu. number_or_refused (stepped c.args.sign c.in_ok-old.old)) val_in c.in_ok-new.new (λ nu. ap number_or_refused c.step.ensures ∙ c.in_ok-new.ensures.value nu)) (runs_on (λ nu _. value (answered c.args.fix c.in_ok-old.old (val_in nu c.in_ok-new.new))) c.in_ok-set_place.ensures.did (runs_as (λ nu. ap value (c.answer.ensures.value nu)) ends_with)))))
