use Rattle.std.proofs.Common.{◌∙◌, sym, ap, ◌+◌, ◌++◌, ◌∷◌, [], ◌%◌, ◌^◌, map, drop, append_assoc, append-nil, Ok, Err}
use Rattle.turk_base.specs.Conversions.{integer_in, unsigned_32}
use Rattle.turk_base.specs.BuiltIns as spec
use Rattle.value_cells.specs.Seen.{val_in}
use Rattle.builtin_calls.proofs.Lists.{map_next, map_none}
use Rattle.builtin_calls.proofs.Moves.{takes_out, leads_then, leads_out, leads_same, gives_on, leaves_on, given_takes}
use Rattle.builtin_calls.proofs.texts.codes.Goals as goal

pub loop-value-init : goal.loop-value-init
loop-value-init c = λ s. leads_same (λ nu go. ap (λ u. spec.codes_in (map (val_in nu) c.args.values.now) (λ us. go (u ++ us))) (sym c.new-units.ensures))

pub returns-in_err-number : goal.returns-in_err-number
returns-in_err-number c = λ s. let i = c.loop-value.value-index in let xs = c.args.values.now in
    takes_out _ c.from_residual.result c.from_residual.ensures.1
    (leads_out (leads_then (c.loop-value.invariant s) (leads_same (λ nu go. ap (λ vs. spec.codes_in vs (λ us. go (c.loop-value.units ++ us))) (map_next (val_in nu) xs i c.value-item.result c.loop-value-test.true c.value-item.is))))
    (leaves_on (given_takes (λ nu. integer_in (val_in nu c.value-item.result)) (λ z. z) s (Err c.in_err-number.field-0.0) c.in_err-number.ensures)
    (λ nu n go. spec.codes_in (map (val_in nu) (drop (i + 1) xs)) (λ us. go (c.loop-value.units ++ (unsigned_32 n % 2 ^ 16 ∷ us))))))

pub loop-value-preserved : goal.loop-value-preserved
loop-value-preserved c = λ s. let i = c.loop-value.value-index in let xs = c.args.values.now in
    leads_then (leads_then (leads_then (c.loop-value.invariant s) (leads_same (λ nu go. ap (λ vs. spec.codes_in vs (λ us. go (c.loop-value.units ++ us))) (map_next (val_in nu) xs i c.value-item.result c.loop-value-test.true c.value-item.is))))
    (gives_on (given_takes (λ nu. integer_in (val_in nu c.value-item.result)) (λ z. z) s (Ok c.in_ok-number.number) c.in_ok-number.ensures)
    (λ nu n go. spec.codes_in (map (val_in nu) (drop (i + 1) xs)) (λ us. go (c.loop-value.units ++ (unsigned_32 n % 2 ^ 16 ∷ us))))))
    (leads_same (λ nu go. λ j. spec.codes_in (map (val_in nu) (drop (i + 1) xs))
    (λ us. go ((sym (append_assoc c.loop-value.units (unsigned_32 c.in_ok-number.number % 2 ^ 16 ∷ []) us) ∙ ap (λ u. u ++ us) (ap (λ x. c.loop-value.units ++ x ∷ []) (sym c.low_unit.ensures) ∙ sym c.in_ok-push.ensures.ok)) j))))

pub returns : goal.returns
returns c = λ s. leads_then (c.loop-value.invariant s)
    (leads_same (λ nu go. ap (λ vs. spec.codes_in vs (λ us. go (c.loop-value.units ++ us))) (map_none (val_in nu) c.args.values.now c.loop-value.value-index c.loop-value-test.false) ∙ ap go (append-nil c.loop-value.units)))
