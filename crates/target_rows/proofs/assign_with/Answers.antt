use Rattle.host_steps.specs.Places.{place_in}
use Rattle.js_tree.specs.Expressions.{assign_row}
use Rattle.js_tree.specs.Operate.{operate_values}
use Rattle.js_tree.specs.Pieces.{get_place, set_place}
use Rattle.js_tree.specs.Rows.{expr_to}
use Rattle.run_host.proofs.Exits.{first_out, value_exit}
use Rattle.run_host.proofs.Fits.{runs_left, runs_on}
use Rattle.run_host.proofs.Sequence.{ends_with, then_on}
use Rattle.run_host.specs.Told.{here_in}
use Rattle.tree_rows.specs.Codes.{table_in}
use Rattle.turk_base.specs.Prog.{Then, value}
use Rattle.value_cells.specs.Seen.{val_in}
use Rattle.target_rows.proofs.assign_with.Goals as goal

pub returns-in_err-place-clause-ran : goal.returns-in_err-place-clause-ran
unfolding assign_row
returns-in_err-place-clause-ran g c = let t = table_in c.args.codes.now in
    value_exit _ _ c.from_residual.ensures.1 (runs_left (λ nu p. get_place (here_in nu c.args.here) p (λ x. Then ((expr_to t c.args.below.now.left) (here_in nu c.args.here) c.args.e.now) (λ y. Then (operate_values c.args.operator x y) (λ v. set_place (here_in nu c.args.here) p v (λ _. value v))))) c.in_err-place.ensures.did)

pub returns-in_err-old-clause-ran : goal.returns-in_err-old-clause-ran
unfolding assign_row
returns-in_err-old-clause-ran g c = let t = table_in c.args.codes.now in
    value_exit _ _ c.from_residual-in_err-old.ensures.1 (runs_on (λ nu p. get_place (here_in nu c.args.here) p (λ x. Then ((expr_to t c.args.below.now.left) (here_in nu c.args.here) c.args.e.now) (λ y. Then (operate_values c.args.operator x y) (λ v. set_place (here_in nu c.args.here) p v (λ _. value v))))) c.in_ok-place.ensures.did (runs_left (λ nu x. Then ((expr_to t c.args.below.now.left) (here_in nu c.args.here) c.args.e.now) (λ y. Then (operate_values c.args.operator x y) (λ v. set_place (here_in nu c.args.here) (place_in nu c.in_ok-place.place) v (λ _. value v)))) c.in_err-old.ensures.did))

pub returns-in_err-other-clause-ran : goal.returns-in_err-other-clause-ran
unfolding assign_row
returns-in_err-other-clause-ran g c = let t = table_in c.args.codes.now in
    value_exit _ _ c.from_residual-in_err-other.ensures.1 (runs_on (λ nu p. get_place (here_in nu c.args.here) p (λ x. Then ((expr_to t c.args.below.now.left) (here_in nu c.args.here) c.args.e.now) (λ y. Then (operate_values c.args.operator x y) (λ v. set_place (here_in nu c.args.here) p v (λ _. value v))))) c.in_ok-place.ensures.did (runs_on (λ nu x. Then ((expr_to t c.args.below.now.left) (here_in nu c.args.here) c.args.e.now) (λ y. Then (operate_values c.args.operator x y) (λ v. set_place (here_in nu c.args.here) (place_in nu c.in_ok-place.place) v (λ _. value v)))) c.in_ok-old.ensures.did (first_out (λ nu y. Then (operate_values c.args.operator (val_in nu c.in_ok-old.old) y) (λ v. set_place (here_in nu c.args.here) (place_in nu c.in_ok-place.place) v (λ _. value v))) _ c.in_err-other.ensures.ran)))

pub returns-in_err-value-clause-ran : goal.returns-in_err-value-clause-ran
unfolding assign_row
returns-in_err-value-clause-ran g c = let t = table_in c.args.codes.now in
    value_exit _ _ c.from_residual-in_err-value.ensures.1 (runs_on (λ nu p. get_place (here_in nu c.args.here) p (λ x. Then ((expr_to t c.args.below.now.left) (here_in nu c.args.here) c.args.e.now) (λ y. Then (operate_values c.args.operator x y) (λ v. set_place (here_in nu c.args.here) p v (λ _. value v))))) c.in_ok-place.ensures.did (runs_on (λ nu x. Then ((expr_to t c.args.below.now.left) (here_in nu c.args.here) c.args.e.now) (λ y. Then (operate_values c.args.operator x y) (λ v. set_place (here_in nu c.args.here) (place_in nu c.in_ok-place.place) v (λ _. value v)))) c.in_ok-old.ensures.did (then_on (λ nu y. Then (operate_values c.args.operator (val_in nu c.in_ok-old.old) y) (λ v. set_place (here_in nu c.args.here) (place_in nu c.in_ok-place.place) v (λ _. value v))) c.in_ok-other.ensures.ran (first_out (λ nu v. set_place (here_in nu c.args.here) (place_in nu c.in_ok-place.place) v (λ _. value v)) _ c.in_err-value.ensures.ran))))

pub returns-in_err-set_place-clause-ran : goal.returns-in_err-set_place-clause-ran
unfolding assign_row
returns-in_err-set_place-clause-ran g c = let t = table_in c.args.codes.now in
    value_exit _ _ c.from_residual-in_err-set_place.ensures.1 (runs_on (λ nu p. get_place (here_in nu c.args.here) p (λ x. Then ((expr_to t c.args.below.now.left) (here_in nu c.args.here) c.args.e.now) (λ y. Then (operate_values c.args.operator x y) (λ v. set_place (here_in nu c.args.here) p v (λ _. value v))))) c.in_ok-place.ensures.did (runs_on (λ nu x. Then ((expr_to t c.args.below.now.left) (here_in nu c.args.here) c.args.e.now) (λ y. Then (operate_values c.args.operator x y) (λ v. set_place (here_in nu c.args.here) (place_in nu c.in_ok-place.place) v (λ _. value v)))) c.in_ok-old.ensures.did (then_on (λ nu y. Then (operate_values c.args.operator (val_in nu c.in_ok-old.old) y) (λ v. set_place (here_in nu c.args.here) (place_in nu c.in_ok-place.place) v (λ _. value v))) c.in_ok-other.ensures.ran (then_on (λ nu v. set_place (here_in nu c.args.here) (place_in nu c.in_ok-place.place) v (λ _. value v)) c.in_ok-value.ensures.ran (runs_left (λ nu _. value (val_in nu c.in_ok-value.value)) c.in_err-set_place.ensures.did)))))

pub returns-clause-ran : goal.returns-clause-ran
unfolding assign_row
returns-clause-ran g c = let t = table_in c.args.codes.now in
    runs_on (λ nu p. get_place (here_in nu c.args.here) p (λ x. Then ((expr_to t c.args.below.now.left) (here_in nu c.args.here) c.args.e.now) (λ y. Then (operate_values c.args.operator x y) (λ v. set_place (here_in nu c.args.here) p v (λ _. value v))))) c.in_ok-place.ensures.did (runs_on (λ nu x. Then ((expr_to t c.args.below.now.left) (here_in nu c.args.here) c.args.e.now) (λ y. Then (operate_values c.args.operator x y) (λ v. set_place (here_in nu c.args.here) (place_in nu c.in_ok-place.place) v (λ _. value v)))) c.in_ok-old.ensures.did (then_on (λ nu y. Then (operate_values c.args.operator (val_in nu c.in_ok-old.old) y) (λ v. set_place (here_in nu c.args.here) (place_in nu c.in_ok-place.place) v (λ _. value v))) c.in_ok-other.ensures.ran (then_on (λ nu v. set_place (here_in nu c.args.here) (place_in nu c.in_ok-place.place) v (λ _. value v)) c.in_ok-value.ensures.ran (runs_on (λ nu _. value (val_in nu c.in_ok-value.value)) c.in_ok-set_place.ensures.did (ends_with)))))
