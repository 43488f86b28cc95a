use Rattle.std.proofs.Common.{◌≡◌, ap, sym, ◌∙◌}
use Rattle.script_grammar.specs.declared.classes.Head.TheVariants as head
use Rattle.script_grammar.specs.Grammar.{grammar, primary_by, plain}
use Rattle.script_grammar.specs.Meets.{Leaf}
use Rattle.script_grammar.specs.Rules.Symbol.{Primary}
use Rattle.script_grammar.proofs.Along.{row, peeks, peeks_end, refuses, by, handed, at, onward}
use Rattle.script_grammar.proofs.Tokens.{live_head}
use Rattle.script_grammar.specs.Words.{head_of}
use Rattle.expression_rows.proofs.deeper.Grammar.primary.Goals as goal

pub returns-in_err-token-clause-meets : goal.returns-in_err-token-clause-meets
returns-in_err-token-clause-meets g c = handed Primary c.args.base (grammar Primary) c.args.tokens.now c.from_residual.result c.from_residual.ensures.1 (λ _. peeks_end c.in_err-token.ensures.0 c.in_err-token.ensures.1)

pub returns-in-Array-clause-meets : goal.returns-in-Array-clause-meets
returns-in-Array-clause-meets g c = let q : head.Array ≡ head_of c.in_ok-token.token.now.kind = sym c.in-Array.is ∙ c.in_ok-head_of.ensures in
    onward c.array.result (λ o w. peeks c.in_ok-token.ensures (by primary_by q (at c.in_ok-token.ensures w))) (c.array.ensures.after c.in_ok-token.token.now (live_head _ _ (sym q) (λ z. cc)))

pub returns-in-Object-clause-meets : goal.returns-in-Object-clause-meets
returns-in-Object-clause-meets g c = let q : head.Object ≡ head_of c.in_ok-token.token.now.kind = sym c.in-Object.is ∙ c.in_ok-head_of.ensures in
    onward c.object.result (λ o w. peeks c.in_ok-token.ensures (by primary_by q (at c.in_ok-token.ensures w))) (c.object.ensures.after c.in_ok-token.token.now (live_head _ _ (sym q) (λ z. cc)))

pub returns-in-Parenthesis-clause-meets : goal.returns-in-Parenthesis-clause-meets
returns-in-Parenthesis-clause-meets g c = let q : head.Parenthesis ≡ head_of c.in_ok-token.token.now.kind = sym c.in-Parenthesis.is ∙ c.in_ok-head_of.ensures in
    onward c.parenthesis.result (λ o w. peeks c.in_ok-token.ensures (by primary_by q (at c.in_ok-token.ensures w))) (c.parenthesis.ensures.after c.in_ok-token.token.now (live_head _ _ (sym q) (λ z. cc)))

pub returns-in-Function-clause-meets : goal.returns-in-Function-clause-meets
returns-in-Function-clause-meets g c = let q : head.Function ≡ head_of c.in_ok-token.token.now.kind = sym c.in-Function.is ∙ c.in_ok-head_of.ensures in
    onward c.function.result (λ o w. peeks c.in_ok-token.ensures (by primary_by q (at c.in_ok-token.ensures w))) (c.function.ensures.after c.in_ok-token.token.now (live_head _ _ (sym q) (λ z. cc)))

pub returns-in-Many-clause-meets : goal.returns-in-Many-clause-meets
returns-in-Many-clause-meets g c = let q : head.Many ≡ head_of c.in_ok-token.token.now.kind = sym c.in-Many.is ∙ c.in_ok-head_of.ensures in
    onward c.print.result (λ o w. peeks c.in_ok-token.ensures (by primary_by q (at c.in_ok-token.ensures w))) (c.print.ensures.after c.in_ok-token.token.now (live_head _ _ (sym q) (λ z. cc)))

pub returns-in-One-clause-meets : goal.returns-in-One-clause-meets
returns-in-One-clause-meets g c = let q : head.One c.in-One.word ≡ head_of c.in_ok-token.token.now.kind = sym c.in-One.is ∙ c.in_ok-head_of.ensures in
    onward c.script_call.result (λ o w. peeks c.in_ok-token.ensures (by primary_by q (at c.in_ok-token.ensures w))) (c.script_call.ensures.after c.in_ok-token.token.now (live_head _ _ (sym q) (λ z. cc)))

pub returns-in-Zero-clause-meets : goal.returns-in-Zero-clause-meets
returns-in-Zero-clause-meets g c = let q : head.Zero c.in-Zero.word ≡ head_of c.in_ok-token.token.now.kind = sym c.in-Zero.is ∙ c.in_ok-head_of.ensures in
    onward c.alone.result (λ o w. peeks c.in_ok-token.ensures (by primary_by q (at c.in_ok-token.ensures w))) (c.alone.ensures.after c.in_ok-token.token.now (live_head _ _ (sym q) (λ z. cc)))

pub returns-in-This-clause-meets : goal.returns-in-This-clause-meets
returns-in-This-clause-meets g c = let q : head.This ≡ head_of c.in_ok-token.token.now.kind = sym c.in-This.is ∙ c.in_ok-head_of.ensures in
    onward c.leaf.result (λ o w. peeks c.in_ok-token.ensures (by primary_by q (at c.in_ok-token.ensures (by Leaf (c.plain.ensures ∙ ap plain c.this.ensures) w)))) (c.leaf.ensures.leaf c.in_ok-token.token.now (live_head _ _ (sym q) (λ z. cc)))

pub returns-in-Constant-clause-meets : goal.returns-in-Constant-clause-meets
returns-in-Constant-clause-meets g c = let q : head.Constant c.in-Constant.value ≡ head_of c.in_ok-token.token.now.kind = sym c.in-Constant.is ∙ c.in_ok-head_of.ensures in
    onward c.leaf-in-Constant.result (λ o w. peeks c.in_ok-token.ensures (by primary_by q (at c.in_ok-token.ensures (by Leaf (c.plain-in-Constant.ensures ∙ ap plain c.literal.ensures) w)))) (c.leaf-in-Constant.ensures.leaf c.in_ok-token.token.now (live_head _ _ (sym q) (λ z. cc)))

pub returns-in-RegExp-clause-meets : goal.returns-in-RegExp-clause-meets
returns-in-RegExp-clause-meets g c _ = let q : head.RegExp ≡ head_of c.in_ok-token.token.now.kind = sym c.in-RegExp.is ∙ c.in_ok-head_of.ensures in
    row (peeks c.in_ok-token.ensures (by primary_by q (refuses c.in_ok-token.ensures c.refused-in-RegExp.ensures)))

pub returns-in-Neither-clause-meets : goal.returns-in-Neither-clause-meets
returns-in-Neither-clause-meets g c _ = let q : head.Neither ≡ head_of c.in_ok-token.token.now.kind = sym c.in-Neither.is ∙ c.in_ok-head_of.ensures in
    row (peeks c.in_ok-token.ensures (by primary_by q (refuses c.in_ok-token.ensures c.refused-in-Neither.ensures)))

pub returns-in-Identifier-Named-clause-meets : goal.returns-in-Identifier-Named-clause-meets
returns-in-Identifier-Named-clause-meets g c = let q = ap head.Identifier (sym c.in-Identifier-Named.field-0-is) ∙ sym c.in-Identifier-Named.is ∙ c.in_ok-head_of.ensures in
    onward c.leaf-in-Identifier-Named.result (λ o w. peeks c.in_ok-token.ensures (by primary_by q (at c.in_ok-token.ensures (by Leaf c.named.ensures w)))) (c.leaf-in-Identifier-Named.ensures.leaf c.in_ok-token.token.now (live_head _ _ (sym q) (λ z. cc)))

pub returns-in-Identifier-Out-clause-meets : goal.returns-in-Identifier-Out-clause-meets
returns-in-Identifier-Out-clause-meets g c _ = let q = ap head.Identifier (sym c.in-Identifier-Out.field-0-is) ∙ sym c.in-Identifier-Out.is ∙ c.in_ok-head_of.ensures in
    row (peeks c.in_ok-token.ensures (by primary_by q (refuses c.in_ok-token.ensures c.refused.ensures)))

pub returns-in-Identifier-Other-clause-meets : goal.returns-in-Identifier-Other-clause-meets
returns-in-Identifier-Other-clause-meets g c _ = let q = ap head.Identifier (sym c.in-Identifier-Other.field-0-is) ∙ sym c.in-Identifier-Other.is ∙ c.in_ok-head_of.ensures in
    row (peeks c.in_ok-token.ensures (by primary_by q (refuses c.in_ok-token.ensures c.refused-in-Identifier-Other.ensures)))
