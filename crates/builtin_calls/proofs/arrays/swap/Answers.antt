use Rattle.turk_base.specs.Prog.{Get, ask}
use Rattle.turk_base.specs.Errors.{index_text}
use Rattle.turk_base.specs.BuiltIns as spec
use Rattle.std.specs.Option.{option_map}
use Rattle.value_cells.specs.Seen.{val_in}
use Rattle.builtin_calls.proofs.Moves.{takes_out, takes_as, leads_then, leads_out, gives_on, leaves_on}
use Rattle.builtin_calls.proofs.arrays.swap.Goals as goal

pub returns-in_err-lower-clause-did : goal.returns-in_err-lower-clause-did
returns-in_err-lower-clause-did g c = let a = c.args.cell in let i = c.args.i in let j = c.args.j in
    takes_out _ c.from_residual.result c.from_residual.ensures.1
    (leaves_on c.in_err-lower.ensures.did (λ nu lower go. ask (Get (nu a) (index_text j)) (λ upper. spec.swap (nu a) i j lower upper go)))

pub returns-in_err-upper-clause-did : goal.returns-in_err-upper-clause-did
returns-in_err-upper-clause-did g c = let a = c.args.cell in let i = c.args.i in let j = c.args.j in
    takes_out _ c.from_residual-in_err-upper.result c.from_residual-in_err-upper.ensures.1
    (leads_out (gives_on c.in_ok-lower.ensures.did (λ nu lower go. ask (Get (nu a) (index_text j)) (λ upper. spec.swap (nu a) i j lower upper go)))
    (leaves_on c.in_err-upper.ensures.did (λ nu upper. spec.swap (nu a) i j (option_map (val_in nu) c.in_ok-lower.lower) upper)))

pub returns-clause-did : goal.returns-clause-did
returns-clause-did g c = let a = c.args.cell in let i = c.args.i in let j = c.args.j in
    takes_as _ (λ nu u. u) c.exchange.result
    (leads_then (gives_on c.in_ok-lower.ensures.did (λ nu lower go. ask (Get (nu a) (index_text j)) (λ upper. spec.swap (nu a) i j lower upper go)))
    (gives_on c.in_ok-upper.ensures.did (λ nu upper. spec.swap (nu a) i j (option_map (val_in nu) c.in_ok-lower.lower) upper)))
    c.exchange.ensures.did
