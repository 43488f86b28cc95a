-- No number begins with `0x` where no digit follows, or what follows makes none.
use Rattle.std.proofs.Common.{◌≡◌, ◌+◌, subst, get_or, false, Option, Some, None, arith}
use Rattle.std.specs.Option.{IfNone}
use Rattle.js_lexer.specs.Chars.{is_digit}
use Rattle.js_lexer.proofs.NumberLemmas.{hex_only, none_of, clash}
use Rattle.js_lexer.proofs.numbers.hexadecimal.Goals as goal

pub returns-then-after-place-clause-none : goal.returns-then-after-place-clause-none
returns-then-after-place-clause-none c n j h =
    let only = hex_only c.args.text.now n c.args.place j h c.requires.first c.requires.second in
    clash (only.1 (c.args.place + 2) (omega arith) only.0) (subst (λ k. is_digit 16 (get_or c.args.text.now k 0) ≡ false) c.if-after-place.true c.digits-value.ensures.stop)

none_map : {A P Q : Type 0} (o : Option A) → (P → Q) → IfNone o P → IfNone o Q
none_map None f p = f p
none_map (Some a) f p = tt

pub returns-clause-none : goal.returns-clause-none
returns-clause-none c = none_map c.finish.result (λ none n j h.
    let only = hex_only c.args.text.now n c.args.place j h c.requires.first c.requires.second in
    none_of 16 c.args.text.now n c.digits-value.result.0 (c.args.place + 2) j c.digits-value.result.1 (let w = only.0 in omega arith) c.digits-value.ensures.after only.1 only.2 only.3 h.small h.follows c.digits-value.ensures.each c.digits-value.ensures.stop c.digits-value.ensures.large none) c.finish.ensures.none
