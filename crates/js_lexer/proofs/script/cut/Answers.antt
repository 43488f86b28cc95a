-- Each piece in its turn, up to the end or to the first place where none stands.
use Rattle.std.proofs.Common.{ap, sym, subst, Err, arith}
use Rattle.js_lexer.specs.Tokens.{CutSo, at_byte, later}
use Rattle.js_lexer.specs.declared.LexStop.TheVariants as stop
use Rattle.js_lexer.proofs.ScriptLemmas.{cuts_next, cuts_done, refused_so}
use Rattle.js_lexer.proofs.script.cut.Goals as goal

pub returns-in-Err : goal.returns-in-Err
returns-in-Err c =
    subst (λ f. CutSo c.args.text.now c.args.broken c.args.first (Err f)) (sym c.fault.ensures)
    (refused_so c.args.text.now c.args.broken c.args.first c.loop-place.place c.in-Err.refusal c.loop-place-test.true c.loop-place.invariant.fails c.in-Err.ensures)

pub loop-place-preserved : goal.loop-place-preserved
loop-place-preserved c = record {
  within = c.in-Ok.ensures.2;
  byte = c.byte_after-end.ensures;
  cuts = cuts_next c.args.text.now c.args.first c.loop-place.place c.in-Ok.found.1 c.loop-place.byte c.byte_after-end.result c.loop-place.after c.in_ok-after.after c.in-Ok.found.0 c.loop-place.tokens.items c.add.new.tokens.items
      c.loop-place.invariant.byte c.byte_after-end.ensures c.in_ok-after.ensures.ok.0 c.in_ok-after.ensures.ok.1 c.in-Ok.ensures.0 c.loop-place.invariant.cuts;
  fails = λ f h. c.loop-place.invariant.fails f (later c.in-Ok.ensures.0 h);
}

pub returns-then-broken : goal.returns-then-broken
returns-then-broken c = c.loop-place.invariant.fails (stop.NotUtf8 c.loop-place.byte) (at_byte c.if-broken.true (omega arith) (ap stop.NotUtf8 c.loop-place.invariant.byte))

pub returns : goal.returns
returns c = (c.if-broken.false, cuts_done c.args.text.now c.args.first c.loop-place.place c.loop-place.byte c.loop-place.after c.loop-place.tokens.items c.add-2.new.tokens.items (omega arith) c.loop-place.invariant.byte c.in_ok-add.ensures.ok.1 c.loop-place.invariant.cuts)
