use Rattle.call_steps.proofs.Joined.{line_goes, line_out, line_over}
use Rattle.call_steps.specs.Lines.{line_from}
use Rattle.run_host.proofs.Exits.{takes_exit}
use Rattle.run_host.proofs.Fits.{out_lost}
use Rattle.run_host.proofs.Sequence.{leads_same}
use Rattle.run_host.specs.Steps.{Leads}
use Rattle.std.proofs.Common.{arith, drop, subst, sym, ◌+◌}
use Rattle.std.specs.Prelude.{map}
use Rattle.value_cells.specs.Seen.{val_in}
use Rattle.call_steps.proofs.lines.rest_of_line.Goals as goal

pub loop-value-init : goal.loop-value-init
loop-value-init g c = record { rest = leads_same; more = omega arith; sound = c.requires.sound }

pub returns-in_err-text-clause-did : goal.returns-in_err-text-clause-did
returns-in_err-text-clause-did g c = takes_exit _ _ c.from_residual.ensures.1 (line_out c.args.values.now c.loop-value.value-index _ c.value-item.result _ c.loop-value-test.true c.value-item.is c.loop-value.invariant.rest c.in_err-text.ensures.did)

pub returns-in_err-add_text-clause-did : goal.returns-in_err-add_text-clause-did
returns-in_err-add_text-clause-did g c = takes_exit _ _ c.from_residual-in_err-add_text.ensures.1 (out_lost (line_goes c.args.values.now c.loop-value.value-index _ c.value-item.result _ c.loop-value-test.true c.value-item.is c.loop-value.invariant.rest c.in_ok-text.ensures.did))

pub loop-value-preserved : goal.loop-value-preserved
loop-value-preserved g c = record {
  rest = subst (λ l. Leads (λ nu. line_from c.args.first (map (val_in nu) c.args.values.now)) (λ nu go. line_from l (map (val_in nu) (drop (c.loop-value.value-index + 1) c.args.values.now)) go) (g.H.Host.moment c.args.host.now) (g.H.Host.moment c.text_of.new.host)) (sym c.in_ok-add_text.ensures)
      (line_goes c.args.values.now c.loop-value.value-index _ c.value-item.result _ c.loop-value-test.true c.value-item.is c.loop-value.invariant.rest c.in_ok-text.ensures.did);
  more = omega (arith, c.loop-value.invariant.more, c.in_ok-text.ensures.more);
  sound = c.in_ok-text.ensures.sound;
}

pub returns-clause-did : goal.returns-clause-did
returns-clause-did g c = line_over c.args.values.now c.loop-value.value-index _ c.loop-value-test.false c.loop-value.invariant.rest
