use Rattle.std.proofs.Common.{◌≡◌, ◌∙◌, refl, sym, ap, ℕ, ◌+◌, ◌<◌, List, length, get_or, drop, drop-cons, add-one, arith}
use Rattle.std.proofs.Math.ListN.{drop_of_length-le}
use Rattle.turk_base.specs.Names.{Name, Units}
use Rattle.turk_base.specs.Values as model
use Rattle.turk_base.specs.Prog.{Put, ask, made}
use Rattle.turk_base.specs.Errors.{index_text}
use Rattle.turk_base.specs.BuiltIns as spec
use Rattle.value_cells.proofs.Turns.{onward_then, onward_same}
use Rattle.builtin_calls.proofs.Moves.{runs_out, onward_eq, onward_out, runs_value}
use Rattle.builtin_calls.proofs.texts.put_pieces.Goals as goal

next : (a : Name) (ts : List Units) (i : ℕ) (t : Units) → i < length ts → t ≡ get_or ts i t
    → spec.put_pieces a i (drop i ts) ≡ made t (λ u. ask (Put a (index_text i) (model.Text u)) (λ _. spec.put_pieces a (i + 1) (drop (i + 1) ts)))
next a ts i t h e = ap (spec.put_pieces a i) (drop-cons ts i t h) ∙ (λ j. made (sym e j) (λ u. ask (Put a (index_text i) (model.Text u)) (λ _. spec.put_pieces a (sym (add-one i) j) (drop (sym (add-one i) j) ts))))

pub loop-i-init : goal.loop-i-init
loop-i-init g c = record { same = onward_same; more = omega arith }

pub put_piece-requires : goal.put_piece-requires
put_piece-requires g c = omega (arith, c.loop-i.invariant.more, c.requires)

pub returns-in_err-put_piece-clause-did : goal.returns-in_err-put_piece-clause-did
returns-in_err-put_piece-clause-did g c = let i = c.loop-i.i in let ts = c.args.pieces.now in
    runs_out _ c.in_err-put_piece.field-0.0 c.from_residual.result c.from_residual.ensures.1 (onward_out c.in_err-put_piece.field-0.0
    (onward_then c.loop-i.invariant.same (onward_eq (λ nu. next (nu c.args.cell) ts i c.index-pieces-i.result (omega (arith, c.loop-i-test.true)) c.index-pieces-i.is)))
    (c.in_err-put_piece.ensures.did.ends (λ nu _. spec.put_pieces (nu c.args.cell) (i + 1) (drop (i + 1) ts))))

pub loop-i-preserved : goal.loop-i-preserved
loop-i-preserved g c = let i = c.loop-i.i in let ts = c.args.pieces.now in
    record {
      same = onward_then (onward_then c.loop-i.invariant.same (onward_eq (λ nu. next (nu c.args.cell) ts i c.index-pieces-i.result (omega (arith, c.loop-i-test.true)) c.index-pieces-i.is)))
          (c.in_ok-put_piece.ensures.did.goes (λ nu _. spec.put_pieces (nu c.args.cell) (i + 1) (drop (i + 1) ts)));
      more = omega (arith, c.loop-i.invariant.more, c.in_ok-put_piece.ensures.more);
    }

pub returns-clause-did : goal.returns-clause-did
returns-clause-did g c = let i = c.loop-i.i in let ts = c.args.pieces.now in
    runs_value (λ nu. model.Object (nu c.args.cell)) (λ nu. model.Object (nu c.args.cell))
    (onward_then c.loop-i.invariant.same (onward_eq (λ nu. ap (spec.put_pieces (nu c.args.cell) i) (drop_of_length-le ts (omega (arith, c.loop-i-test.false))))))
    (λ nu. refl)
