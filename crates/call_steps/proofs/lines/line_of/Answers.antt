use Rattle.call_steps.proofs.Joined.{line_empty, line_starts}
use Rattle.call_steps.specs.Lines.{line_from}
use Rattle.run_host.proofs.Exits.{takes_exit}
use Rattle.run_host.proofs.Fits.{leads_eq, takes_as}
use Rattle.run_host.proofs.Sequence.{gives_on, leads_out, leads_then, leaves_on}
use Rattle.std.proofs.Common.{ap, arith, drop, sym}
use Rattle.std.specs.Prelude.{map}
use Rattle.value_cells.specs.Seen.{val_in}
use Rattle.call_steps.proofs.lines.line_of.Goals as goal

pub returns-then-values-eq0-clause-did : goal.returns-then-values-eq0-clause-did
returns-then-values-eq0-clause-did g c = leads_eq (λ nu go. line_empty c.args.values.now c.if-values-eq0.true nu c.new.result c.new.ensures go)

pub returns-in_err-text-clause-did : goal.returns-in_err-text-clause-did
returns-in_err-text-clause-did g c = takes_exit _ _ c.from_residual.ensures.1 (leads_out (leads_eq (line_starts c.args.values.now c.index-values-0.result (omega (arith, c.if-values-eq0.false)) c.index-values-0.is)) (leaves_on c.in_err-text.ensures.did (λ nu s. line_from s (map (val_in nu) (drop 1 c.args.values.now)))))

pub returns-clause-did : goal.returns-clause-did
returns-clause-did g c = takes_as _ (λ nu t. t) c.rest_of_line.result (leads_then (leads_eq (line_starts c.args.values.now c.index-values-0.result (omega (arith, c.if-values-eq0.false)) c.index-values-0.is)) (leads_then (gives_on c.in_ok-text.ensures.did (λ nu s. line_from s (map (val_in nu) (drop 1 c.args.values.now)))) (leads_eq (λ nu go. ap (λ vs. line_from c.in_ok-text.text (map (val_in nu) vs) go) (sym c.after_first.ensures))))) c.rest_of_line.ensures.did
