use Rattle.std.specs.Option.{option_map}
use Rattle.turk_base.specs.BuiltIns as spec
use Rattle.value_cells.specs.Seen.{val_in}
use Rattle.builtin_calls.specs.Gives.{Leads}
use Rattle.builtin_calls.proofs.Moves.{takes_out, takes_as, leads_then, leads_out, gives_on, leaves_on, swap_lower, swap_upper}
use Rattle.builtin_calls.proofs.arrays.exchange.Goals as goal
use Rattle.builtin_calls.proofs.arrays.exchange.Goals.{else-is_none-via-then-is_none+else-is_none-2, else-is_none-via-else-is_none}

pub returns-in_err-move_to-clause-did : goal.returns-in_err-move_to-clause-did
returns-in_err-move_to-clause-did g c = let a = c.args.cell in let i = c.args.i in let j = c.args.j in let l = c.args.lower in let u = c.args.upper in let s = g.H.Heap.seen c.args.heap.now in
    let both : Leads (λ nu. spec.swap (nu a) i j (option_map (val_in nu) l) (option_map (val_in nu) u)) (λ nu go. spec.move_to (nu a) i (option_map (val_in nu) u) (λ _. spec.move_to (nu a) j (option_map (val_in nu) l) go)) s s =
    elim c.else-is_none.branch [ else-is_none-via-then-is_none+else-is_none-2 w ↦ swap_upper a i j l u w.if-is_none-2.ensures | else-is_none-via-else-is_none w ↦ swap_lower a i j l u w.if-is_none.ensures ] in
    takes_out _ c.from_residual.result c.from_residual.ensures.1 (leads_out both (leaves_on c.in_err-move_to.ensures.did (λ nu _. spec.move_to (nu a) j (option_map (val_in nu) l))))

pub returns-clause-did : goal.returns-clause-did
returns-clause-did g c = let a = c.args.cell in let i = c.args.i in let j = c.args.j in let l = c.args.lower in let u = c.args.upper in let s = g.H.Heap.seen c.args.heap.now in
    let both : Leads (λ nu. spec.swap (nu a) i j (option_map (val_in nu) l) (option_map (val_in nu) u)) (λ nu go. spec.move_to (nu a) i (option_map (val_in nu) u) (λ _. spec.move_to (nu a) j (option_map (val_in nu) l) go)) s s =
    elim c.else-is_none.branch [ else-is_none-via-then-is_none+else-is_none-2 w ↦ swap_upper a i j l u w.if-is_none-2.ensures | else-is_none-via-else-is_none w ↦ swap_lower a i j l u w.if-is_none.ensures ] in
    takes_as _ (λ nu u. u) c.move_to-2.result (leads_then both (gives_on c.in_ok-move_to.ensures.did (λ nu _. spec.move_to (nu a) j (option_map (val_in nu) l)))) c.move_to-2.ensures.did
