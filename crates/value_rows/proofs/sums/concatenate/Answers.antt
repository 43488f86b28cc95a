use Rattle.std.proofs.Common.{◌++◌, ap, sym}
use Rattle.turk_base.specs.Values.{Val, Text}
use Rattle.turk_base.specs.Names.{Units}
use Rattle.turk_base.specs.Prog.{Prog, made, value}
use Rattle.turk_base.specs.Errors.{text_from}
use Rattle.value_cells.specs.Seen.{Naming, val_in}
use Rattle.run_host.proofs.Sequence.{ends_with, no_memory}
use Rattle.run_host.proofs.Exits.{value_exit}
use Rattle.run_host.proofs.Fits.{runs_on, runs_left}
use Rattle.host_steps.proofs.Made.{runs_as}
use Rattle.value_rows.proofs.sums.concatenate.Goals as goal

abbrev whole : Units → Prog
whole t = made t (λ u. value (Text u))

abbrev second : Val → Units → Prog
second y s = text_from y (λ t. whole (s ++ t))

pub returns-in_err-text-clause-ran : goal.returns-in_err-text-clause-ran
returns-in_err-text-clause-ran g c = value_exit _ _ c.from_residual.ensures.1 (runs_left (λ nu s. second (val_in nu c.args.y.now) s) c.in_err-text.ensures.did)

pub returns-in_err-end-clause-ran : goal.returns-in_err-end-clause-ran
returns-in_err-end-clause-ran g c = value_exit _ _ c.from_residual-in_err-end.ensures.1 (runs_on (λ nu s. second (val_in nu c.args.y.now) s) c.in_ok-text.ensures.did
    (runs_left (λ nu t. whole (c.in_ok-text.text ++ t)) c.in_err-end.ensures.did))

pub returns-in_err-append-clause-ran : goal.returns-in_err-append-clause-ran
returns-in_err-append-clause-ran g c = value_exit _ _ c.from_residual-in_err-append.ensures.1 (runs_on (λ nu s. second (val_in nu c.args.y.now) s) c.in_ok-text.ensures.did
    (runs_on (λ nu t. whole (c.in_ok-text.text ++ t)) c.in_ok-end.ensures.did no_memory))

pub returns-in_err-whole-clause-ran : goal.returns-in_err-whole-clause-ran
returns-in_err-whole-clause-ran g c = value_exit _ _ c.from_residual-in_err-whole.ensures.1 (runs_on (λ nu s. second (val_in nu c.args.y.now) s) c.in_ok-text.ensures.did
    (runs_on (λ nu t. whole (c.in_ok-text.text ++ t)) c.in_ok-end.ensures.did
    (runs_as (λ nu. ap whole (sym c.in_ok-append.ensures.ok)) (runs_left (λ nu u. value (Text u)) c.in_err-whole.ensures.did))))

pub returns-clause-ran : goal.returns-clause-ran
returns-clause-ran g c = runs_on (λ nu s. second (val_in nu c.args.y.now) s) c.in_ok-text.ensures.did
    (runs_on (λ nu t. whole (c.in_ok-text.text ++ t)) c.in_ok-end.ensures.did
    (runs_as (λ nu. ap whole (sym c.in_ok-append.ensures.ok)) (runs_on (λ nu u. value (Text u)) c.in_ok-whole.ensures.did ends_with)))
